-- After a reselection the messages of the target tell the names of the process that it serves, row by row: one that
-- MESSAGE PARITY ERROR makes void is said again, and once no names follow they are told (6.1.4, 6.6.7, 6.6.13, 6.6.17).
use Rattle.transcript_laws.proofs
use proofs.Names.{ℕ, ◌≡◌, ◌∙◌, ◌+◌, ◌<◌, Bool, true, false, not, ◌&&◌, ◌%◌, List, [], ◌∷◌, ◌++◌, length, Option, Some}
use proofs.Names.{None, refl, sym, ap, subst, ◌==◌, is_some, if◌then◌else◌, wrong, wrong', rises_some, counted_on}
use proofs.Names.{rises, changes_phase, is_message_in, is_message_out, is_fault, receiver_in, Change, Connection, Row}
use proofs.Names.{got_in, got_out, MsgIn, MsgOut, byte_in, byte_out, byte_else, left_of, reading_out, Dialogue, Reading}
use proofs.Names.{is_unknown, ScenarioValue, whole_in, message_in, message_out, is_parity_error, Exchange}
use proofs.Names.{bytes_of_messages, plan_after_message, struck_plan, Cause, Messages, Next, RunState, bus_of}
use proofs.Names.{run_state, InConnection, in_connection, SamePhase, in_is_known, counted, few_messages, in_io}
use proofs.Names.{OnMessages, IsNoName, IsSpeaking, in_out, by_bool, on_message, counted_row, no_summary, OpenedValue}
use proofs.{Names.{held_part, with_in_if, Incoming, is_void, base_parts}, Fits.Crossings.{whole_on}}
use proofs.{Held.Since.{IsHeardIn, IsAnswering, none_half}, Named.Heard.{ins_of, heard_names, heard_append, AreNames}}
use proofs.Named.{Heard.{names_stay, Says, Repeats, settled_with, held_with, says_on}, Parts.{ins_held, heard_parts}}
use proofs.{Named.Parts.{heard_held, base_names, void_names}, Opened.Bytes.{KeepsTalk, CrossingMade, crossed_out}}
use proofs.Opened.Bytes.{crossed_in, crossed_status, crossed_else, lines_same, out_same, in_same, begun_same}
use proofs.{Opened.{Bytes.{begun_crossing}, Rows.{Going}}, Said.Facts.{Speaking, IsOpened, words_front}}
use proofs.Said.Out.{SaysParity, refusing, plain_words, says_parity, is_plain_said}
use Rattle.due_model.specs.bus_phases.specs.Reading.{reading_in}
use Rattle.due_model.specs.array_model.specs.Processes.{Process}

-- ---- what is kept

-- All that is told but what MESSAGE PARITY ERROR may make void; and without it, where it may be said.
pub record AreTold (q : Process) (k : RunState) (o : OpenedValue) : Type 0 where
  pub full : AreNames (heard_names no_summary (ins_of o.parts ++ ins_held o)) q
  pub heard : IsHeardIn k → AreNames (heard_names no_summary (ins_of o.parts)) q
  pub answered : IsAnswering k → AreNames (heard_names no_summary (ins_of o.parts)) q

-- The names are said; or MESSAGE PARITY ERROR is, after which they are said again; or they are told, and no names
-- follow.
pub data AgainNames (q : Process) (k : RunState) (o : OpenedValue) : Type 0 where
  saying : k.exchange.plan.next ≡ Next.GoOn → is_message_in (bus_of k) ≡ true
      → Says q k.exchange.plan.messages k.handshakes.requests k.story.bus_state.dialogue.half (ins_of o.parts)
      (ins_held o) → AgainNames q k o
  refused : k.exchange.plan.next ≡ Next.GoOn → is_message_out (bus_of k) ≡ true
      → k.exchange.plan.cause ≡ Cause.InMessage → Repeats q k.exchange.plan.messages (ins_of o.parts) → AgainNames q k o
  known : OnMessages IsNoName k.exchange.plan.messages → AreTold q k o → AgainNames q k o

-- ---- the names so far

plain_front : (said more : List MsgOut) → is_plain_said (said ++ more) ≡ true → is_void said ≡ false
plain_front [] more e = refl
plain_front (m ∷ said) more e = go (is_parity_error m) e
  where
    go : (q : Bool) → (not q && is_plain_said (said ++ more)) ≡ true → q ≡ false
    go true z = wrong' z
    go false z = refl

-- MESSAGE PARITY ERROR is said after a message alone.
pub void_answers : (s : ScenarioValue) (k : RunState) (n : Connection) (o : OpenedValue) → Speaking s k n o → IsOpened k
    → is_void o.said ≡ true → IsAnswering k
void_answers s k n o h op void = go (is_message_out (bus_of k)) refl
  where
    go : (q : Bool) → is_message_out (bus_of k) ≡ q → IsAnswering k
    go false e = wrong' (sym (ap is_void (h.bytes e)) ∙ void)
    go true e = by (says_parity s n k.served k.exchange k.exchange.plan.cause h.units sp.words_for)
      where
        sp : IsSpeaking s n k.served k.exchange k.story.bus_state.dialogue
        sp = h.speaks op.begun e

        by : SaysParity k.exchange.speech.words k.exchange.plan.cause → IsAnswering k
        by (refusing c w) = record { begun = op.begun; here = e; cause = c }
        by (plain_words w) =
            let f = words_front k n o h.words e sp.heard in
            wrong (sym void ∙ plain_front o.said f.more (ap is_plain_said (sym f.is) ∙ w))

-- Of the parts so far, whether what is held is void or not.
pub told_now : (s : ScenarioValue) (q : Process) (k : RunState) (n : Connection) (o : OpenedValue) → Speaking s k n o
    → IsOpened k → ins_of o.since ≡ [] → AreTold q k o → AreNames (heard_names no_summary (ins_of (base_parts o))) q
told_now s q k n o h op since t = by_bool (is_void o.said)
    (λ e. subst (λ (x : List MsgIn). AreNames (heard_names no_summary x) q)
    (sym (void_names o since e)) (t.answered (void_answers s k n o h op e)))
    (λ e. subst (λ (x : List MsgIn). AreNames (heard_names no_summary x) q) (sym (base_names o since e)) t.full)

-- ---- no byte crosses, and no phase is left

pub again_still : (s : ScenarioValue) (p : List Row) (row : Row)
    (n : Connection) (g : Going s p row n) (o after : OpenedValue) (q : Process)
    → changes_phase g.going.change ≡ false → is_some (receiver_in n g.going.change) ≡ false → KeepsTalk o after
    → AgainNames q (run_state s p) o → AgainNames q (run_state s (row ∷ p)) after
again_still s p row n g o after q ep none keeps was = by was
  where
    k : RunState
    k = run_state s p

    j : RunState
    j = run_state s (row ∷ p)

    c : Change
    c = g.going.change

    i : InConnection s k row n c false false (is_fault row.kind)
    i = in_connection s k row n c false false (is_fault row.kind) g.going.goes.row_is ep none refl

    lines : SamePhase (bus_of k) (bus_of j)
    lines = lines_same s p row n g ep

    half : j.story.bus_state.dialogue.half ≡ k.story.bus_state.dialogue.half
    half = ap (λ (x : Dialogue). x.half) i.dialogue_is

    parts : ins_of after.parts ≡ ins_of o.parts
    parts = ap ins_of keeps.parts

    held : ins_held after ≡ ins_held o
    held = ap (λ (x : Option Incoming). ins_of (held_part x)) keeps.held

    same_requests : is_message_in (bus_of k) ≡ true → j.handshakes.requests ≡ k.handshakes.requests
    same_requests here = (counted_row s p row n c g.inside g.was.stood.standing.devices g.going.goes ep).requests
        ∙ same (rises c.before.req c.after.req)
        (up c.before.io (rises c.before.req c.after.req) (rises c.before.ack c.after.ack)
        (in_io c.before (ap is_message_in (sym g.going.goes.row_is.bus_is) ∙ here)) none)
      where
        same : (r : Bool) → r ≡ false
            → (if r then counted_on k.handshakes.requests else k.handshakes.requests) ≡ k.handshakes.requests
        same true z = wrong z
        same false z = refl

        up : (io x y : Bool) → io ≡ true
            → is_some (if io then (if x then Some n.initiator else None) else (if y then Some n.target else None))
            ≡ false → x ≡ false
        up true true y z w = wrong w
        up true false y z w = refl
        up false x y z w = wrong' z

    was_in : IsHeardIn j → IsHeardIn k
    was_in x =
        let here : is_message_in (bus_of k) ≡ true = sym (in_same (bus_of k) (bus_of j) lines) ∙ x.here in
        record {
          begun = sym (begun_same s p row n g ep) ∙ x.begun;
          here = here;
          some = ap (λ (m : ℕ). m == 0) (sym (same_requests here)) ∙ x.some;
          half = sym half ∙ x.half;
        }

    struck : (r : Bool)
        → ((if r then struck_plan k.exchange.plan else k.exchange.plan).messages ≡ k.exchange.plan.messages)
        × ((if r then struck_plan k.exchange.plan else k.exchange.plan).next ≡ k.exchange.plan.next)
        × ((if r then struck_plan k.exchange.plan else k.exchange.plan).cause ≡ k.exchange.plan.cause)
    struck true = (refl, refl, refl)
    struck false = (refl, refl, refl)

    messages : j.exchange.plan.messages ≡ k.exchange.plan.messages
    messages = ap (λ (x : Exchange). x.plan.messages) i.exchange_is ∙ (struck (is_fault row.kind && not c.before.io)).0

    next : j.exchange.plan.next ≡ k.exchange.plan.next
    next = ap (λ (x : Exchange). x.plan.next) i.exchange_is ∙ (struck (is_fault row.kind && not c.before.io)).1

    cause : j.exchange.plan.cause ≡ k.exchange.plan.cause
    cause = ap (λ (x : Exchange). x.plan.cause) i.exchange_is ∙ (struck (is_fault row.kind && not c.before.io)).2

    was_out : IsAnswering j → IsAnswering k
    was_out x = record {
      begun = sym (begun_same s p row n g ep) ∙ x.begun;
      here = sym (out_same (bus_of k) (bus_of j) lines) ∙ x.here;
      cause = sym cause ∙ x.cause;
    }

    by : AgainNames q k o → AgainNames q j after
    by (saying e here says) = saying (next ∙ e) (in_same (bus_of k) (bus_of j) lines ∙ here)
        (subst (λ (x : Messages). Says q x j.handshakes.requests j.story.bus_state.dialogue.half
        (ins_of after.parts) (ins_held after)) (sym messages) (subst (λ (x : ℕ). Says q k.exchange.plan.messages x
        j.story.bus_state.dialogue.half (ins_of after.parts) (ins_held after)) (sym (same_requests here)) (subst
        (λ (x : List ℕ). Says q k.exchange.plan.messages k.handshakes.requests x (ins_of after.parts) (ins_held after))
        (sym half) (subst (λ (x : List MsgIn). Says q k.exchange.plan.messages
        k.handshakes.requests k.story.bus_state.dialogue.half x (ins_held after)) (sym parts)
        (subst (λ (x : List MsgIn). Says q k.exchange.plan.messages k.handshakes.requests
        k.story.bus_state.dialogue.half (ins_of o.parts) x) (sym held) says)))))
    by (refused e here is repeats) = refused (next ∙ e) (out_same (bus_of k) (bus_of j) lines ∙ here)
        (cause ∙ is) (subst (λ (x : Messages). Repeats q x (ins_of after.parts)) (sym messages)
        (subst (λ (x : List MsgIn). Repeats q k.exchange.plan.messages x) (sym parts) repeats))
    by (known nameless t) =
        known (subst (λ (x : Messages). OnMessages IsNoName x) (sym messages) nameless)
        (record {
          full =
              subst (λ (x : List MsgIn). AreNames (heard_names no_summary x) q) (λ u. sym parts u ++ sym held u) t.full;
          heard =
              λ z. subst (λ (x : List MsgIn). AreNames (heard_names no_summary x) q) (sym parts) (t.heard (was_in z));
          answered = λ z. subst (λ (x : List MsgIn). AreNames (heard_names no_summary x) q) (sym parts)
              (t.answered (was_out z));
        })

-- ---- a byte crosses

pub again_crossing : (s : ScenarioValue) (p : List Row) (row : Row) (n : Connection)
    (g : Going s p row n) (o after : OpenedValue) (q : Process) (dev : ℕ)
    → q.unit < 8 → changes_phase g.going.change ≡ false → receiver_in n g.going.change ≡ Some dev
    → CrossingMade o after (run_state s p).story.bus_state.dialogue.is_last g.going.change.before
    (g.going.change.after.data_bits % 256) (message_out (run_state s p).story.bus_state.dialogue g.going.change true)
    (message_in (run_state s p).story.bus_state.dialogue g.going.change true)
    → ins_of o.since ≡ [] → AgainNames q (run_state s p) o → AgainNames q (run_state s (row ∷ p)) after
again_crossing s p row n g o after q dev unit ep er made since was = by made was
  where
    k : RunState
    k = run_state s p

    j : RunState
    j = run_state s (row ∷ p)

    c : Change
    c = g.going.change

    d : Dialogue
    d = k.story.bus_state.dialogue

    there : is_some (receiver_in n c) ≡ true
    there = ap (λ (x : Option ℕ). is_some x) er

    i : InConnection s k row n c false true (is_fault row.kind)
    i = in_connection s k row n c false true (is_fault row.kind) g.going.goes.row_is ep there refl

    on : bus_of k ≡ c.before
    on = g.going.goes.row_is.bus_is

    lines : SamePhase (bus_of k) (bus_of j)
    lines = lines_same s p row n g ep

    begun : k.exchange.begun ≡ true
    begun = begun_crossing s p row n g dev er

    byte : ℕ
    byte = c.after.data_bits % 256

    into : Option MsgIn
    into = message_in d c true

    out_now : is_message_out c.before ≡ true → is_message_out (bus_of j) ≡ true
    out_now x = out_same (bus_of k) (bus_of j) lines ∙ ap is_message_out on ∙ x

    in_now : is_message_in c.before ≡ true → is_message_in (bus_of j) ≡ true
    in_now x = in_same (bus_of k) (bus_of j) lines ∙ ap is_message_in on ∙ x

    no_out : is_message_out c.before ≡ false → is_message_out (bus_of j) ≡ false
    no_out x = out_same (bus_of k) (bus_of j) lines ∙ ap is_message_out on ∙ x

    no_in : is_message_in c.before ≡ false → is_message_in (bus_of j) ≡ false
    no_in x = in_same (bus_of k) (bus_of j) lines ∙ ap is_message_in on ∙ x

    heard : (r last : Bool) (m : Option MsgOut)
        → ((if r then plan_after_message k.exchange.plan last m else k.exchange.plan).messages
        ≡ k.exchange.plan.messages)
        × ((if r then plan_after_message k.exchange.plan last m else k.exchange.plan).next ≡ k.exchange.plan.next)
        × ((if r then plan_after_message k.exchange.plan last m else k.exchange.plan).cause ≡ k.exchange.plan.cause)
    heard true true m = (refl, refl, refl)
    heard true false m = (refl, refl, refl)
    heard false last m = (refl, refl, refl)

    messages : j.exchange.plan.messages ≡ k.exchange.plan.messages
    messages = ap (λ (x : Exchange). x.plan.messages) i.exchange_is
        ∙ (heard (is_message_out c.before) d.is_last (message_out d c true)).0

    next : j.exchange.plan.next ≡ k.exchange.plan.next
    next = ap (λ (x : Exchange). x.plan.next) i.exchange_is
        ∙ (heard (is_message_out c.before) d.is_last (message_out d c true)).1

    cause : j.exchange.plan.cause ≡ k.exchange.plan.cause
    cause = ap (λ (x : Exchange). x.plan.cause) i.exchange_is
        ∙ (heard (is_message_out c.before) d.is_last (message_out d c true)).2

    was_out : IsAnswering j → IsAnswering k
    was_out x = record {
      begun = begun;
      here = sym (out_same (bus_of k) (bus_of j) lines) ∙ x.here;
      cause = sym cause ∙ x.cause;
    }

    half : is_message_out c.before ≡ false → is_message_in c.before ≡ true
        → j.story.bus_state.dialogue.half ≡ left_of (got_in (d.half ++ byte ∷ [])) (d.half ++ byte ∷ [])
    half x y = ap (λ (v : Dialogue). v.half) i.dialogue_is ∙ (λ t. (if x t then byte_out d byte (not c.after.atn)
        else if y t then byte_in d byte else byte_else d c.before byte).half)

    into_is : is_message_in c.before ≡ true → into ≡ whole_in (got_in (d.half ++ byte ∷ []))
    into_is y = ap (λ (r : Bool). if r then whole_in (got_in (d.half ++ byte ∷ [])) else None) y

    nameless : OnMessages IsNoName k.exchange.plan.messages → OnMessages IsNoName j.exchange.plan.messages
    nameless h = subst (λ (x : Messages). OnMessages IsNoName x) (sym messages) h

    -- what is told stays, in a phase of no message that the target says
    stays : after.parts ≡ o.parts → after.held ≡ o.held → is_message_in c.before ≡ false → AreTold q k o
        → AreTold q j after
    stays parts held y t = record {
      full = subst (λ (x : List MsgIn). AreNames (heard_names no_summary x) q)
          (λ u. ins_of (sym parts u) ++ ins_of (held_part (sym held u))) t.full;
      heard = λ z. wrong (sym z.here ∙ no_in y);
      answered = λ z. subst (λ (x : List MsgIn). AreNames (heard_names no_summary x) q) (λ u. ins_of (sym parts u))
          (t.answered (was_out z));
    }

    -- ---- in MESSAGE IN

    parts_now : after ≡ with_in_if o into → ins_of after.parts ≡ settled_with (ins_of o.parts) (ins_held o) into
    parts_now f = ap (λ (x : OpenedValue). ins_of x.parts) f ∙ heard_parts o into since

    held_now : after ≡ with_in_if o into → ins_held after ≡ held_with (ins_held o) into
    held_now f = ap (λ (x : OpenedValue). ins_held x) f ∙ heard_held o into

    says_next : is_message_out c.before ≡ false → is_message_in c.before ≡ true → after ≡ with_in_if o into
        → Says q k.exchange.plan.messages k.handshakes.requests d.half (ins_of o.parts) (ins_held o)
        → Says q j.exchange.plan.messages j.handshakes.requests j.story.bus_state.dialogue.half (ins_of after.parts)
        (ins_held after)
    says_next x y f says =
        let gives = g.going.goes.gives y there in
        let requests : j.handshakes.requests ≡ k.handshakes.requests + 1 =
        (counted_row s p row n c g.inside g.was.stood.standing.devices g.going.goes ep).requests
        ∙ ap (λ (r : Bool). if r then counted_on k.handshakes.requests else k.handshakes.requests)
        (rises_some c.before.io (rises c.before.req c.after.req) n.initiator dev
        (if rises c.before.ack c.after.ack then Some n.target else None) (in_io c.before y) er)
        ∙ counted k.handshakes.requests (length (bytes_of_messages k.exchange.plan.messages)) gives.1
        (few_messages k.exchange.plan.messages) in
        let on_byte = says_on q k.exchange.plan.messages d.half k.handshakes.requests byte
        (ins_of o.parts) (ins_held o) unit gives.0 gives.1 says in
        subst (λ (v : Messages). Says q v j.handshakes.requests j.story.bus_state.dialogue.half
        (ins_of after.parts) (ins_held after)) (sym messages) (subst (λ (v : ℕ). Says q k.exchange.plan.messages
        v j.story.bus_state.dialogue.half (ins_of after.parts) (ins_held after)) (sym requests)
        (subst (λ (v : List ℕ). Says q k.exchange.plan.messages (k.handshakes.requests + 1) v (ins_of after.parts)
        (ins_held after)) (sym (half x y)) (subst (λ (v : List MsgIn). Says q k.exchange.plan.messages
        (k.handshakes.requests + 1) (left_of (got_in (d.half ++ byte ∷ [])) (d.half ++ byte ∷ [])) v (ins_held after))
        (sym (parts_now f ∙ ap (settled_with (ins_of o.parts) (ins_held o)) (into_is y)))
        (subst (λ (v : List MsgIn). Says q k.exchange.plan.messages (k.handshakes.requests + 1)
        (left_of (got_in (d.half ++ byte ∷ [])) (d.half ++ byte ∷ []))
        (settled_with (ins_of o.parts) (ins_held o) (whole_in (got_in (d.half ++ byte ∷ [])))) v)
        (sym (held_now f ∙ ap (held_with (ins_held o)) (into_is y))) on_byte))))

    -- no message is whole: one is half heard
    halved : {A : Type 0} → is_message_out c.before ≡ false → is_message_in c.before ≡ true → into ≡ None → IsHeardIn j
        → A
    halved x y b z =
        let is_known = in_is_known k n c (g.was.stood.books.gives n g.going.goes.row_is.connection_is g.going.goes.calm)
        begun on y x g.going.goes.gives in
        none_half d.half byte (sym (into_is y) ∙ b)
        (sym (λ t. is_unknown (if there t then if x t then reading_out (got_out (d.half ++ byte ∷ []))
        else if y t then reading_in (got_in (d.half ++ byte ∷ [])) else Reading.NoMessage else Reading.NoMessage))
        ∙ is_known) (sym (half x y) ∙ z.half)

    hears : is_message_out c.before ≡ false → is_message_in c.before ≡ true → after ≡ with_in_if o into
        → OnMessages IsNoName k.exchange.plan.messages → AreTold q k o → (m : Option MsgIn) → into ≡ m
        → AreTold q j after
    hears x y f h t None e = record {
      full = subst (λ (v : List MsgIn). AreNames (heard_names no_summary v) q)
          (λ u. sym (parts_now f ∙ ap (settled_with (ins_of o.parts) (ins_held o)) e) u
          ++ sym (held_now f ∙ ap (held_with (ins_held o)) e) u) t.full;
      heard = λ z. halved x y e z;
      answered = λ z. wrong (sym z.here ∙ no_out x);
    }
    hears x y f h t (Some m) e = record {
      full = subst (λ (v : List MsgIn). AreNames (heard_names no_summary v) q)
          (λ u. sym (parts_now f ∙ ap (settled_with (ins_of o.parts) (ins_held o)) e) u
          ++ sym (held_now f ∙ ap (held_with (ins_held o)) e) u)
          (subst (λ a. AreNames a q) (sym (heard_append no_summary (ins_of o.parts ++ ins_held o) (m ∷ [])))
          (names_stay (heard_names no_summary (ins_of o.parts ++ ins_held o)) q m
          (on_message IsNoName m into e (whole_on s p row n g dev IsNoName er y h)) t.full));
      heard = λ z. subst (λ (v : List MsgIn). AreNames (heard_names no_summary v) q)
          (sym (parts_now f ∙ ap (settled_with (ins_of o.parts) (ins_held o)) e)) t.full;
      answered = λ z. wrong (sym z.here ∙ no_out x);
    }

    by : CrossingMade o after d.is_last c.before byte (message_out d c true) into → AgainNames q k o
        → AgainNames q j after
    by (crossed_out x f) (saying e here says) = wrong' (sym (in_out c.before x) ∙ ap is_message_in (sym on) ∙ here)
    by (crossed_out x f) (refused e here is repeats) =
        refused (next ∙ e) (out_now x) (cause ∙ is) (subst (λ (v : Messages). Repeats q v (ins_of after.parts))
        (sym messages) (subst (λ (v : List MsgIn). Repeats q k.exchange.plan.messages v)
        (ap (λ (v : OpenedValue). ins_of v.parts) (sym f)) repeats))
    by (crossed_out x f) (known h t) = known (nameless h)
        (stays (ap (λ (v : OpenedValue). v.parts) f) (ap (λ (v : OpenedValue). v.held) f) (in_out c.before x) t)
    by (crossed_in x y f) (saying e here says) = saying (next ∙ e) (in_now y) (says_next x y f says)
    by (crossed_in x y f) (refused e here is repeats) = wrong' (sym x ∙ ap is_message_out (sym on) ∙ here)
    by (crossed_in x y f) (known h t) = known (nameless h) (hears x y f h t into refl)
    by (crossed_status x y w f) (saying e here says) = wrong' (sym y ∙ ap is_message_in (sym on) ∙ here)
    by (crossed_status x y w f) (refused e here is repeats) = wrong' (sym x ∙ ap is_message_out (sym on) ∙ here)
    by (crossed_status x y w f) (known h t) =
        known (nameless h) (stays (ap (λ (v : OpenedValue). v.parts) f) (ap (λ (v : OpenedValue). v.held) f) y t)
    by (crossed_else x y w f) (saying e here says) = wrong' (sym y ∙ ap is_message_in (sym on) ∙ here)
    by (crossed_else x y w f) (refused e here is repeats) = wrong' (sym x ∙ ap is_message_out (sym on) ∙ here)
    by (crossed_else x y w f) (known h t) =
        known (nameless h) (stays (ap (λ (v : OpenedValue). v.parts) f) (ap (λ (v : OpenedValue). v.held) f) y t)
