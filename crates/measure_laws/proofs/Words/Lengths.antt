-- MESSAGE OUT has at most eight words, and MESSAGE IN at most five bytes, after any rows.
use Rattle.measure_laws.proofs
use proofs.Names.{ℕ, ◌≡◌, ◌≤◌, Bool, true, false, ◌&&◌, List, [], ◌∷◌, length, Option, Some, None, arith, length-append}
use proofs.Names.{◌+◌, ◌-◌, not, ◌++◌, if◌then◌else◌, nat_lt, AbortKind, LineSet, changes_phase, is_message_in}
use proofs.Names.{is_message_out, Row, Agreement, Connection, out_bytes, MsgIn, MsgOut, ScenarioValue, AbortDef}
use proofs.Names.{HostDef, Tag, Process, process_of, RowReading, row_reading, abort_line_at, Item, abort, process}
use proofs.Names.{aim_of, Speech, speech_after_byte, speech_after_request, speech_of, bytes_of_messages, from_byte}
use proofs.Names.{message_bytes, no_messages, plan_after_message, plan_anew, struck_plan, Serving, leaving_by, phase_of}
use proofs.Names.{cause_after, first_plan, plan_after, speech_after, words_after, Ready, abort_bytes, abort_opening}
use proofs.Names.{answer_bytes, detected_error, offer_if, parity_error, process_opening, tag_bytes, tag_named, Hearing}
use proofs.Names.{Leaving, Messages, Phase, Plan, host_of, opening, bus_of, RunState, messages_if, exchange_after}
use proofs.Names.{first_exchange, leaving_of, may_negotiate, run_state, serving_of, hearing_of, ready_of}
use Rattle.progress_laws.specs.link_laws.proofs.LeavingWays as ways

-- ---- the words of MESSAGE OUT

joined : (a b : List ℕ) (i m : ℕ) → length a ≤ i → length b ≤ m → length (a ++ b) ≤ i + m
joined a b i m h g = let w = length-append a b in omega arith

tag_few : (t : Tag) → length (tag_bytes t) ≤ 2
tag_few Tag.Untagged = omega arith
tag_few _ = omega arith

offer_few : (q : Bool) (h : Option HostDef) → length (offer_if q h) ≤ 5
offer_few false h = omega arith
offer_few true None = omega arith
offer_few true (Some h) = go (h.offers && nat_lt 0 h.period)
  where
    go : (q : Bool)
        → length (if q then out_bytes (MsgOut.Sdtr (record { period = h.period; offset = h.offset })) else []) ≤ 5
    go true = omega arith
    go false = omega arith

process_few : (h : Option HostDef) (q : Bool) (o : Option Process) → length (process_opening h q o) ≤ 8
process_few h q None = omega arith
process_few h q (Some c) =
    let w = joined (tag_bytes c.tag) (offer_if q h) 2 5 (tag_few c.tag) (offer_few q h) in
    omega arith

abort_few : (o : Option AbortDef) → length (abort_opening o) ≤ 8
abort_few None = omega arith
abort_few (Some a) = go a.what
  where
    go : (x : AbortKind) → length (out_bytes (MsgOut.Identify false a.unit) ++ abort_bytes x) ≤ 8
    go AbortKind.All = omega arith
    go _ = omega arith

opening_few : (s : ScenarioValue) (dev : ℕ) (q : Bool) (o : Option Item) → length (opening s dev q o) ≤ 8
opening_few s dev q None = omega arith
opening_few s dev q (Some (process id)) = process_few (host_of s dev) q (process_of s id)
opening_few s dev q (Some (abort n)) = abort_few (abort_line_at s.aborts n)

words_few : (h : Option HostDef) (w : Hearing) (a : Agreement) → length (words_after h w a) ≤ 8
words_few h w a = go (is_message_in w.change.before) w.struck
  where
    go : (q r : Bool) → length (if not q then detected_error else if r then parity_error else answer_bytes h a) ≤ 8
    go false r = omega arith
    go true true = omega arith
    go true false = omega arith

speech_few : (h : Option HostDef) (w : Hearing) (x : Speech) → length x.words ≤ 8
    → length (speech_after h w x).words ≤ 8
speech_few h w x few =
    go (changes_phase w.change) (is_message_out w.change.after && w.begun) w.crosses (is_message_out w.change.before)
  where
    go : (a b c d : Bool)
        → length (if a then (if b then speech_of x (words_after h w x.asked) else record x { place = 0 })
        else if c then (if d then speech_after_byte x else speech_after_request x w.into) else x).words ≤ 8
    go true true c d = words_few h w x.asked
    go true false c d = few
    go false b true true = few
    go false b true false = few
    go false b false d = few

first_few : (s : ScenarioValue) (k : RunState) (n : Connection) (o : Option Item)
    → length (first_exchange s k n o).speech.words ≤ 8
first_few s k n o = go n.reselected
  where
    go : (q : Bool) → length (if q then [] else opening s n.initiator (may_negotiate k n o) o) ≤ 8
    go true = omega arith
    go false = opening_few s n.initiator (may_negotiate k n o) o

pub few_words : (s : ScenarioValue) (p : List Row) → length (run_state s p).exchange.speech.words ≤ 8
few_words s [] = omega arith
few_words s (row ∷ p) = go k.story.bus_state.connection d.next (few_words s p)
  where
    k : RunState
    k = run_state s p

    d : RowReading
    d = row_reading k.story.bus_state row

    l : Leaving
    l = leaving_of s k k.story.bus_state.connection

    go : (a b : Option Connection) → length k.exchange.speech.words ≤ 8
        → length (exchange_after s k row d a b l).speech.words ≤ 8
    go None None few = few
    go (Some m) None few = omega arith
    go None (Some n) few = first_few s k n (aim_of k.story.aims n.initiator)
    go (Some m) (Some n) few = speech_few (host_of s n.initiator) (hearing_of k row d) k.exchange.speech few

-- ---- the bytes of MESSAGE IN

abbrev FewIn : Messages → Type 0
FewIn m = length (bytes_of_messages m) ≤ 5

left_few : {v : Serving} {q : Bool} {f : Phase} {l : Leaving} → ways.Leaves v q f l → FewIn v.plan.messages
    → FewIn l.messages
left_few (ways.repeats _ _) few = few
left_few _ few = omega arith

leaving_few : (v : Serving) (begun : Bool) (b : LineSet) → FewIn v.plan.messages → FewIn (leaving_by v begun b).messages
leaving_few v true b few = left_few (ways.leaves v b.atn (phase_of b)) few
leaving_few v false b few = omega arith

rest_few : (m : Messages) (i : ℕ) → FewIn m → FewIn (from_byte m i)
rest_few m i few = go (nat_lt i (length (message_bytes m.first)))
  where
    all : length (message_bytes m.first ++ message_bytes m.second)
        ≡ length (message_bytes m.first) + length (message_bytes m.second)
    all = length-append (message_bytes m.first) (message_bytes m.second)

    one : length (message_bytes m.second ++ []) ≡ length (message_bytes m.second) + 0
    one = length-append (message_bytes m.second) []

    go : (q : Bool) → FewIn (if q then m else record { first = m.second; second = None })
    go true = few
    go false = let a = all in let b = one in omega arith

plan_few : (w : Hearing) (l : Leaving) (x : Plan) → FewIn l.messages → FewIn x.messages
    → FewIn (plan_after w l x).messages
plan_few w l x left few = go (changes_phase w.change) (is_message_out w.change.after) w.begun
    (is_message_in w.change.before) w.crosses (is_message_out w.change.before)
    (w.fault && not w.change.before.io) w.is_last
  where
    go : (a b c d e f g h : Bool)
        → FewIn (if a then (if not b then record (plan_anew x) { messages = l.messages; next = l.next }
        else if c then record (plan_anew x) {
          cause = cause_after w.change.before;
          messages =
              if d then from_byte x.messages (w.offered - 1) else x.messages;
        } else plan_anew x) else if e then (if f then plan_after_message x w.is_last w.out else x)
        else if g then struck_plan x else x).messages
    go true false c d e f g h = left
    go true true true true e f g h = rest_few x.messages (w.offered - 1) few
    go true true true false e f g h = few
    go true true false d e f g h = few
    go false b c d true true g h =
        elim w.is_last as (λ q. FewIn (plan_after_message x q w.out).messages) [ true ↦ few | false ↦ few ]
    go false b c d true false g h = few
    go false b c d false f true h = few
    go false b c d false f false h = few

named_few : (o : Option Ready) → FewIn (messages_if o)
named_few None = omega arith
named_few (Some r) = go r.process.tag
  where
    go : (t : Tag) → FewIn (record { first = Some (MsgIn.Identify r.process.unit); second = tag_named t })
    go Tag.Untagged = omega arith
    go _ = omega arith

begins_few : (s : ScenarioValue) (k : RunState) (n : Connection) (o : Option Item)
    → FewIn (first_exchange s k n o).plan.messages
begins_few s k n o = go n.reselected
  where
    go : (q : Bool) → FewIn (first_plan q (not q && may_negotiate k n o)
        (if q then messages_if (ready_of s k n.target) else no_messages)).messages
    go true = named_few (ready_of s k n.target)
    go false = omega arith

pub few_messages : (s : ScenarioValue) (p : List Row)
    → length (bytes_of_messages (run_state s p).exchange.plan.messages) ≤ 5
few_messages s [] = omega arith
few_messages s (row ∷ p) =
    go k.story.bus_state.connection d.next (left k.story.bus_state.connection (few_messages s p)) (few_messages s p)
  where
    k : RunState
    k = run_state s p

    d : RowReading
    d = row_reading k.story.bus_state row

    l : Leaving
    l = leaving_of s k k.story.bus_state.connection

    left : (o : Option Connection) → FewIn k.exchange.plan.messages → FewIn (leaving_of s k o).messages
    left None few = leaving_few (serving_of s k 0) k.exchange.begun (bus_of k) few
    left (Some n) few = leaving_few (serving_of s k n.target) k.exchange.begun (bus_of k) few

    go : (a b : Option Connection) → FewIn l.messages → FewIn k.exchange.plan.messages
        → FewIn (exchange_after s k row d a b l).plan.messages
    go None None more few = few
    go (Some m) None more few = omega arith
    go None (Some n) more few = begins_few s k n (aim_of k.story.aims n.initiator)
    go (Some m) (Some n) more few = plan_few (hearing_of k row d) l k.exchange.plan more few
