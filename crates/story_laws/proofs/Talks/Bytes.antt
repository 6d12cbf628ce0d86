-- What holds of the process of a connection goes on as a byte crosses.
use Rattle.story_laws.proofs
use proofs.Names.{inr, ℕ, zero, suc, ◌≡◌, ◌<◌, ◌+◌, Bool, true, false, not, ◌&&◌, ◌||◌, ◌∙◌, List, [], ◌∷◌, ◌++◌}
use proofs.Names.{length, Option, Some, None, refl, sym, ap, subst, arith, ◌%◌, not-true, and_parts, same_Some}
use proofs.Names.{if◌then◌else◌, is_some, is_none, slice_index_or, wrong, wrong', implied, nil_of, counted_on, ProcId}
use proofs.Names.{rises, LineSet, changes_phase, is_message_in, is_message_out, is_fault, receiver_in, receiver_of, Row}
use proofs.Names.{Change, Connection, Handshakes, no_handshakes, handshakes_after, asked_if, answered_if, is_abort}
use proofs.Names.{form_in, got_in, got_out, in_bytes, MsgIn, MsgOut, byte_out, byte_in, byte_else, byte_crosses}
use proofs.Names.{fresh_bytes, Dialogue, ScenarioValue, Process, whole_in, whole_out, message_in, message_out}
use proofs.Names.{is_complete, is_completion, Item, process, abort, Link, last_out, Exchange, bytes_of_messages}
use proofs.Names.{message_bytes, plan_after_message, Hearing, Messages, Next, Plan, RunState, bus_of, run_state_after}
use proofs.Names.{hearing_of, InConnection, in_connection, same_phase_is, heard_next, byte_messages, answered_same}
use proofs.Names.{in_same, not_both, out_same, AreGiven, OnMessage, OnMessages, half_after, IsRowIn, reading_in}
use proofs.Names.{IsSpeaking, none_some, by_bool, is_complete_in, is_disconnect_in, frees_bus, plans_well}
use proofs.{Names.{is_sense_item, Talk, talk_of, IsNameOf, TalksBy, Talks}, Items.Row.{over_after, LinkAfter, says}}
use proofs.{Items.Row.{hears, stays, heard_link, link_crossed}, Talks.OutMessages.{NoAbort, out_is_no_abort}}
use proofs.Talks.{OutMessages.{last_is_whole}, Rows.{TalkRow, a_request}, Steps.{CrossesIn, incomplete, in_part}}
use proofs.Talks.Steps.{in_whole, out_part, out_whole, other_crosses}
use Rattle.row_laws.specs.ItemTalks.{IsUnnamed}

byte_next : (out last : Bool) (m : Option MsgOut) (l : Plan)
    → (if out then plan_after_message l last m else l).next ≡ l.next
byte_next true true m l = refl
byte_next true false m l = refl
byte_next false last m l = refl

pub no_completion : (l : Link) (c : Change) → is_message_in c.before ≡ false → is_completion l c ≡ false
no_completion l c e = (λ i. rises c.before.ack c.after.ack && e i && is_complete l.last && not c.after.atn)
    ∙ off (rises c.before.ack c.after.ack)
  where
    off : (q : Bool) → (q && false && is_complete l.last && not c.after.atn) ≡ false
    off true = refl
    off false = refl

no_completion_yet : (l : Link) (c : Change) → is_complete l.last ≡ false → is_completion l c ≡ false
no_completion_yet l c e = (λ i. rises c.before.ack c.after.ack && is_message_in c.before && e i && not c.after.atn)
    ∙ off (rises c.before.ack c.after.ack) (is_message_in c.before)
  where
    off : (q r : Bool) → (q && r && false && not c.after.atn) ≡ false
    off true true = refl
    off true false = refl
    off false r = refl

-- The talk after it.
record CrossedTalk (s : ScenarioValue) (k : RunState) (row : Row) (c : Change) (l : Link) : Type 0 where
  same : is_completion l c ≡ false → talk_of (run_state_after s k row) ≡ record (talk_of k) {
    bus = c.after;
    requests = (run_state_after s k row).handshakes.requests;
    is_last = (byte_crosses k.story.bus_state.dialogue c).is_last;
  }
  requests_are : is_message_in c.before ≡ true → rises c.before.req c.after.req ≡ true
      → (run_state_after s k row).handshakes.requests ≡ counted_on k.handshakes.requests

crossed_talk : (s : ScenarioValue) (k : RunState) (row : Row) (n : Connection) (c : Change) (l : Link)
    → IsRowIn k row n c → k.story.link ≡ Some l → changes_phase c ≡ false → is_some (receiver_in n c) ≡ true
    → is_fault row.kind ≡ false → CrossedTalk s k row c l
crossed_talk s k row n c l r el ep en ef = record { same = same; requests_are = requests }
  where
    j : RunState
    j = run_state_after s k row

    i : InConnection s k row n c false true false
    i = in_connection s k row n c false true false r ep en ef

    heard : Hearing
    heard = hearing_of k row (reading_in k.story.bus_state n c true)

    messages : j.exchange.plan.messages ≡ k.exchange.plan.messages
    messages = ap (λ (x : Exchange). x.plan.messages) i.exchange_is
        ∙ byte_messages (is_message_out c.before) heard.is_last heard.out k.exchange.plan

    next : j.exchange.plan.next ≡ k.exchange.plan.next
    next = ap (λ (x : Exchange). x.plan.next) i.exchange_is
        ∙ byte_next (is_message_out c.before) heard.is_last heard.out k.exchange.plan

    same : is_completion l c ≡ false → talk_of j ≡ record (talk_of k) {
      bus = c.after;
      requests = j.handshakes.requests;
      is_last = (byte_crosses k.story.bus_state.dialogue c).is_last;
    }
    same z = λ x. record {
      served = i.served_is x;
      messages = messages x;
      next = next x;
      begun = (i.exchange_is x).begun;
      bus = i.bus_is x;
      requests = j.handshakes.requests;
      is_last = (i.dialogue_is x).is_last;
      over = ((over_after s k row n c true l r en el).same (inr z) x).over;
    }

    requests : is_message_in c.before ≡ true → rises c.before.req c.after.req ≡ true
        → j.handshakes.requests ≡ counted_on k.handshakes.requests
    requests here up = ap (λ (x : Handshakes). x.requests) i.handshakes_is
        ∙ (λ x. (handshakes_after (ef x) (Some n) c row.time k.handshakes).requests) ∙ (λ x. (if ep x then no_handshakes
        else answered_if (rises c.before.ack c.after.ack) row.time (asked_if (up x) row.time k.handshakes)).requests)
        ∙ answered_same (rises c.before.ack c.after.ack) row.time (asked_if true row.time k.handshakes)

-- ---- in MESSAGE IN

waits_now : (r a r' a' : Bool) → rises r r' ≡ true → (rises r r' ≡ true → not a ≡ true) → (rises a a' ≡ true → r ≡ true)
    → (r' && not a') ≡ true
waits_now true a r' a' e f g = wrong' e
waits_now false true true a' e f g = wrong' (f refl)
waits_now false false true true e f g = wrong' (g refl)
waits_now false false true false e f g = refl
waits_now false a false a' e f g = wrong' e

none_is : (m : Option MsgIn) → is_none m ≡ true → m ≡ None
none_is None e = refl
none_is (Some m) e = wrong' e

complete_bytes : (m : MsgIn) → is_complete_in (Some m) ≡ true → in_bytes m ≡ 0 ∷ []
complete_bytes MsgIn.CommandComplete e = refl
complete_bytes _ e = wrong' e

abbrev CompletesAlone : Messages → Next → MsgIn → Type 0
CompletesAlone all next m =
    is_complete_in (Some m) ≡ true → (frees_bus next ≡ true) × (length (bytes_of_messages all) ≡ 1)

abbrev NoDisconnect : Bool → MsgIn → Type 0
NoDisconnect sense m = sense ≡ true → is_disconnect_in (Some m) ≡ false

record PlannedWell (sense : Bool) (m : Messages) (next : Next) : Type 0 where
  complete : OnMessages (CompletesAlone m next) m
  disconnect : OnMessages (NoDisconnect sense) m

planned_well : (sense : Bool) (m : Messages) (next : Next) → plans_well sense m next ≡ true → PlannedWell sense m next
planned_well sense m next e = record {
  complete = (first m.first refl, second m.second refl);
  disconnect = (one m.first (λ z. (kept z).0), one m.second (λ z. (kept z).1));
}
  where
    two : ((not (is_complete_in m.second) && (not (is_complete_in m.first) || (is_none m.second && frees_bus next)))
        ≡ true) × ((not sense || (not (is_disconnect_in m.first) && not (is_disconnect_in m.second))) ≡ true)
    two = and_parts
        (not (is_complete_in m.second) && (not (is_complete_in m.first) || (is_none m.second && frees_bus next)))
        (not sense || (not (is_disconnect_in m.first) && not (is_disconnect_in m.second))) e

    alone : (not (is_complete_in m.second) ≡ true)
        × ((not (is_complete_in m.first) || (is_none m.second && frees_bus next)) ≡ true)
    alone = and_parts (not (is_complete_in m.second))
        (not (is_complete_in m.first) || (is_none m.second && frees_bus next)) two.0

    kept : sense ≡ true → (is_disconnect_in m.first ≡ false) × (is_disconnect_in m.second ≡ false)
    kept z =
        let w = and_parts (not (is_disconnect_in m.first)) (not (is_disconnect_in m.second))
        (implied sense (not (is_disconnect_in m.first) && not (is_disconnect_in m.second)) two.1 z) in
        (not-true (is_disconnect_in m.first) w.0, not-true (is_disconnect_in m.second) w.1)

    first : (x : Option MsgIn) → m.first ≡ x → OnMessage (CompletesAlone m next) x
    first None z = tt
    first (Some y) z = λ f.
        let w = and_parts (is_none m.second) (frees_bus next)
        (implied (is_complete_in m.first) (is_none m.second && frees_bus next) alone.1 (ap is_complete_in z ∙ f)) in (
          w.1,
          (λ i. length (message_bytes (z i) ++ message_bytes (none_is m.second w.0 i)))
              ∙ ap (λ (b : List ℕ). length (b ++ [])) (complete_bytes y f),
        )

    second : (x : Option MsgIn) → m.second ≡ x → OnMessage (CompletesAlone m next) x
    second None z = tt
    second (Some y) z = λ f. wrong (sym (ap is_complete_in z ∙ f) ∙ not-true (is_complete_in m.second) alone.0)

    one : (x : Option MsgIn) → (sense ≡ true → is_disconnect_in x ≡ false) → OnMessage (NoDisconnect sense) x
    one None f = tt
    one (Some y) f = f

-- The first byte of the names makes IDENTIFY whole.
whole_name : (lun : ℕ) → lun < 8 → whole_in (got_in ((0x80 + lun) ∷ [])) ≡ Some (MsgIn.Identify lun)
unfolding form_in
whole_name zero lt = refl
whole_name (suc zero) lt = refl
whole_name (suc (suc zero)) lt = refl
whole_name (suc (suc (suc zero))) lt = refl
whole_name (suc (suc (suc (suc zero)))) lt = refl
whole_name (suc (suc (suc (suc (suc zero))))) lt = refl
whole_name (suc (suc (suc (suc (suc (suc zero)))))) lt = refl
whole_name (suc (suc (suc (suc (suc (suc (suc zero))))))) lt = refl
whole_name (suc (suc (suc (suc (suc (suc (suc (suc n)))))))) lt = absurd omega (arith, lt)

pub first_name : (m : Messages) (half : List ℕ) (count byte lun : ℕ) → AreGiven (bytes_of_messages m) half count
    → count ≡ 0 → m.first ≡ Some (MsgIn.Identify lun) → lun < 8 → byte ≡ slice_index_or (bytes_of_messages m) count 0
    → whole_in (got_in (half ++ byte ∷ [])) ≡ Some (MsgIn.Identify lun)
first_name m half count byte lun g none first lt e =
    let empty : g.before ≡ [] = nil_of g.before (sym g.count_is ∙ none) in
    let half_is : half ≡ [] = g.half_is ∙ ap (half_after []) empty in
    let byte_is : byte ≡ 0x80 + lun = e
    ∙ (λ i. slice_index_or (message_bytes (first i) ++ message_bytes m.second) (none i) 0) in
    (λ i. whole_in (got_in (half_is i ++ byte_is i ∷ []))) ∙ whole_name lun lt

pub on_message : (q : MsgIn → Type 0) (m : MsgIn) (x : Option MsgIn) → x ≡ Some m → OnMessage q x → q m
on_message q m x e h = subst (λ (y : Option MsgIn). OnMessage q y) e h

pub in_talk : (s : ScenarioValue) (k : RunState) (row : Row) (n : Connection) (c : Change) (l : Link) (dev : ℕ)
    → TalkRow s k row n c → k.story.link ≡ Some l → TalksBy s (talk_of k) n l → changes_phase c ≡ false
    → receiver_in n c ≡ Some dev → is_fault row.kind ≡ false → is_message_in c.before ≡ true
    → Talks s (run_state_after s k row) n
in_talk s k row n c l dev g el h ep er ef here m em = go (link_crossed s k row n c l r en el)
  where
    j : RunState
    j = run_state_after s k row

    r : IsRowIn k row n c
    r = g.goes.row_is

    en : is_some (receiver_in n c) ≡ true
    en = ap (λ (x : Option ℕ). is_some x) er

    b : bus_of k ≡ c.before
    b = r.bus_is

    d : Dialogue
    d = k.story.bus_state.dialogue

    byte : ℕ
    byte = c.after.data_bits % 256

    next : (byte ≡ slice_index_or (bytes_of_messages k.exchange.plan.messages) k.handshakes.requests 0)
        × (k.handshakes.requests < length (bytes_of_messages k.exchange.plan.messages)) × (k.exchange.begun ≡ true)
    next = g.goes.gives here en

    given : AreGiven (bytes_of_messages k.exchange.plan.messages) d.half k.handshakes.requests
    given = g.gives.in_message_in next.2 (ap is_message_in b ∙ here)

    up : rises c.before.req c.after.req ≡ true
    up = a_request n c dev er here

    t : CrossedTalk s k row c l
    t = crossed_talk s k row n c l r el ep en ef

    w : CrossesIn (talk_of k) c.after j.handshakes.requests
    w = record {
      here = ap is_message_in b ∙ here;
      in_same = in_same c.before c.after (same_phase_is c ep) ∙ here;
      begun = next.2;
      more = next.1;
      requests_are = t.requests_are here up;
      waits = waits_now c.before.req c.before.ack c.after.req c.after.ack up (g.alternates here).asks
          (g.alternates here).answers;
    }

    out_none : is_message_out c.before ≡ false
    out_none = by_bool (is_message_out c.before) (λ z. not_both c.before here z) (λ z. z)

    last_same : (byte_crosses d c).is_last ≡ d.is_last
    last_same = λ x. (if out_none x then byte_out d byte (not c.after.atn)
        else if here x then byte_in d byte else byte_else d c.before byte).is_last

    same : talk_of j ≡ record (talk_of k) { bus = c.after; requests = j.handshakes.requests }
    same = t.same (no_completion_yet l c (incomplete s (talk_of k) n l c.after j.handshakes.requests w h))
        ∙ (λ x. record (talk_of k) { bus = c.after; requests = j.handshakes.requests; is_last = last_same x })

    reads : message_in d c true ≡ whole_in (got_in (d.half ++ byte ∷ []))
    reads = λ x. if here x then whole_in (got_in (d.half ++ byte ∷ [])) else None

    named : (a : Process) → IsUnnamed (talk_of k) a → message_in d c true ≡ Some (MsgIn.Identify a.unit)
    named a v = reads ∙ first_name k.exchange.plan.messages d.half k.handshakes.requests byte a.unit given v.none_asked
        v.first v.small next.0

    well : PlannedWell (is_sense_item k.served) k.exchange.plan.messages k.exchange.plan.next
    well = planned_well (is_sense_item k.served) k.exchange.plan.messages k.exchange.plan.next h.planned

    heard : (q : MsgIn → Type 0) → OnMessages q k.exchange.plan.messages → (x : MsgIn) → message_in d c true ≡ Some x
        → q x
    heard q all x z = on_message q x (whole_in (got_in (d.half ++ byte ∷ []))) (sym reads ∙ z)
        (heard_next q k.exchange.plan.messages d.half k.handshakes.requests byte g.gives.fit all given next.0 next.1)

    to : (x : Link) → j.story.link ≡ Some x
        → TalksBy s (record (talk_of k) { bus = c.after; requests = j.handshakes.requests }) n x
        → TalksBy s (talk_of j) n m
    to x z f = subst (λ (y : Link). TalksBy s (talk_of j) n y) (same_Some x m (sym z ∙ em))
        (subst (λ (y : Talk). TalksBy s y n x) (sym same) f)

    go : LinkAfter s k.story l (message_out d c true) (message_in d c true) j.story.link → TalksBy s (talk_of j) n m
    go (says x e z) = none_some x
        (sym (ap (λ (q : Bool). if q then whole_out (got_out (fresh_bytes d ++ byte ∷ [])) else None) out_none) ∙ e)
    go (stays e f z) =
        to l z (in_part s (talk_of k) n l c.after j.handshakes.requests w (λ a v. none_some _ (sym f ∙ named a v)) h)
    go (hears x e f z) =
        to (heard_link s k.story l x) z
        (in_whole s k.story (talk_of k) n l x c.after j.handshakes.requests w
        (record {
          stays = λ y. heard (NoDisconnect (is_sense_item k.served)) well.disconnect x f y;
          completes = λ y. heard (CompletesAlone k.exchange.plan.messages k.exchange.plan.next) well.complete x f y;
          names = λ a all. heard (IsNameOf a) all x f;
          first = λ a v. same_Some x (MsgIn.Identify a.unit) (sym f ∙ named a v);
        })
        h)

-- ---- in MESSAGE OUT

served_process : (o : Option Item) → is_sense_item o ≡ true → (id : ProcId) × (o ≡ Some (process id))
served_process None e = wrong' e
served_process (Some (process id)) e = (id, refl)
served_process (Some (abort k)) e = wrong' e

pub out_talk : (s : ScenarioValue) (k : RunState) (row : Row) (n : Connection) (c : Change) (l : Link) (dev : ℕ)
    → TalkRow s k row n c → k.story.link ≡ Some l → TalksBy s (talk_of k) n l → changes_phase c ≡ false
    → receiver_in n c ≡ Some dev → is_fault row.kind ≡ false → is_message_out c.before ≡ true
    → Talks s (run_state_after s k row) n
out_talk s k row n c l dev g el h ep er ef here m em = go (link_crossed s k row n c l r en el)
  where
    j : RunState
    j = run_state_after s k row

    r : IsRowIn k row n c
    r = g.goes.row_is

    en : is_some (receiver_in n c) ≡ true
    en = ap (λ (x : Option ℕ). is_some x) er

    b : bus_of k ≡ c.before
    b = r.bus_is

    d : Dialogue
    d = k.story.bus_state.dialogue

    byte : ℕ
    byte = c.after.data_bits % 256

    begun : k.exchange.begun ≡ true
    begun = g.goes.begun ((λ x. is_some (receiver_of (r.connection_is x) (r.change_is x))) ∙ en)

    speaking : IsSpeaking s n k.served k.exchange d
    speaking = g.speaks.in_message_out begun (ap is_message_out b ∙ here)

    out' : is_message_out c.after ≡ true
    out' = out_same c.before c.after (same_phase_is c ep) ∙ here

    in_none : is_message_in c.before ≡ false
    in_none = by_bool (is_message_in c.before) (λ z. not_both c.before z here) (λ z. z)

    last_is : (byte_crosses d c).is_last ≡ not c.after.atn
    last_is = λ x. (if here x then byte_out d byte (not c.after.atn)
        else if is_message_in c.before then byte_in d byte else byte_else d c.before byte).is_last

    t : CrossedTalk s k row c l
    t = crossed_talk s k row n c l r el ep en ef

    same : talk_of j ≡ record (talk_of k) { bus = c.after; requests = j.handshakes.requests; is_last = not c.after.atn }
    same = t.same (no_completion l c in_none)
        ∙ (λ x. record (talk_of k) { bus = c.after; requests = j.handshakes.requests; is_last = last_is x })

    said : message_out d c true ≡ whole_out (got_out (fresh_bytes d ++ byte ∷ []))
    said = λ x. if here x then whole_out (got_out (fresh_bytes d ++ byte ∷ [])) else None

    to : (x : Link) → j.story.link ≡ Some x → TalksBy s
        (record (talk_of k) { bus = c.after; requests = j.handshakes.requests; is_last = not c.after.atn }) n x
        → TalksBy s (talk_of j) n m
    to x z f = subst (λ (y : Link). TalksBy s (talk_of j) n y) (same_Some x m (sym z ∙ em))
        (subst (λ (y : Talk). TalksBy s y n x) (sym same) f)

    no_abort : (x : MsgOut) → message_out d c true ≡ Some x → is_sense_item k.served ≡ true → is_abort x ≡ false
    no_abort x e f =
        let w = served_process k.served f in
        subst (λ (y : Option MsgOut). NoAbort y) (sym said ∙ e) (out_is_no_abort s n w.0 k.exchange d byte g.units
        (subst (λ (y : Option Item). IsSpeaking s n y k.exchange d) w.1 speaking) (g.goes.says here en).0)

    unfinished : message_out d c true ≡ None → not c.after.atn ≡ false
    unfinished e = by_bool c.after.atn (λ z. ap not z)
        (λ z. wrong' (ap (λ (y : Option MsgOut). is_some y) (sym e ∙ said) ∙ last_is_whole s n k.served k.exchange d
        byte speaking (g.goes.says here en).0 (sym (g.goes.says here en).1 ∙ z)))

    go : LinkAfter s k.story l (message_out d c true) (message_in d c true) j.story.link → TalksBy s (talk_of j) n m
    go (says x e z) = to (record l { last = last_out x l }) z (out_whole s (talk_of k) n l x c.after
        j.handshakes.requests (not c.after.atn) (ap is_message_out b ∙ here) out' (no_abort x e) h)
    go (stays e f z) = to l z (out_part s (talk_of k) n l c.after j.handshakes.requests (not c.after.atn)
        (ap is_message_out b ∙ here) out' (unfinished e) h)
    go (hears x e f z) =
        none_some x (sym (ap (λ (q : Bool). if q then whole_in (got_in (d.half ++ byte ∷ [])) else None) in_none) ∙ f)

-- ---- in another phase

else_last : (d : Dialogue) (b : LineSet) (byte : ℕ) → (byte_else d b byte).is_last ≡ d.is_last
else_last d b byte = go b.msg b.cd b.io
  where
    go : (m x i : Bool) → (byte_else d (record b { msg = m; cd = x; io = i }) byte).is_last ≡ d.is_last
    go true x i = refl
    go false true true = refl
    go false true false = refl
    go false false i = refl

pub else_talk : (s : ScenarioValue) (k : RunState) (row : Row) (n : Connection) (c : Change) (l : Link) (dev : ℕ)
    → TalkRow s k row n c → k.story.link ≡ Some l → TalksBy s (talk_of k) n l → changes_phase c ≡ false
    → receiver_in n c ≡ Some dev → is_fault row.kind ≡ false → is_message_out c.before ≡ false
    → is_message_in c.before ≡ false → Talks s (run_state_after s k row) n
else_talk s k row n c l dev g el h ep er ef eo ei m em = go (link_crossed s k row n c l r en el)
  where
    j : RunState
    j = run_state_after s k row

    r : IsRowIn k row n c
    r = g.goes.row_is

    en : is_some (receiver_in n c) ≡ true
    en = ap (λ (x : Option ℕ). is_some x) er

    b : bus_of k ≡ c.before
    b = r.bus_is

    d : Dialogue
    d = k.story.bus_state.dialogue

    byte : ℕ
    byte = c.after.data_bits % 256

    last_is : (byte_crosses d c).is_last ≡ d.is_last
    last_is = (λ x. (if eo x then byte_out d byte (not c.after.atn)
        else if ei x then byte_in d byte else byte_else d c.before byte).is_last)
        ∙ else_last d c.before byte

    same : talk_of j ≡ record (talk_of k) { bus = c.after; requests = j.handshakes.requests }
    same = (crossed_talk s k row n c l r el ep en ef).same (no_completion l c ei)
        ∙ (λ x. record (talk_of k) { bus = c.after; requests = j.handshakes.requests; is_last = last_is x })

    go : LinkAfter s k.story l (message_out d c true) (message_in d c true) j.story.link → TalksBy s (talk_of j) n m
    go (says x e z) = none_some x
        (sym (ap (λ (q : Bool). if q then whole_out (got_out (fresh_bytes d ++ byte ∷ [])) else None) eo) ∙ e)
    go (hears x e f z) =
        none_some x (sym (ap (λ (q : Bool). if q then whole_in (got_in (d.half ++ byte ∷ [])) else None) ei) ∙ f)
    go (stays e f z) = subst (λ (y : Link). TalksBy s (talk_of j) n y) (same_Some l m (sym z ∙ em))
        (subst (λ (y : Talk). TalksBy s y n l) (sym same) (other_crosses s (talk_of k) n l c.after j.handshakes.requests
        (ap is_message_in b ∙ ei) (ap is_message_out b ∙ eo) (in_same c.before c.after (same_phase_is c ep) ∙ ei) h))
