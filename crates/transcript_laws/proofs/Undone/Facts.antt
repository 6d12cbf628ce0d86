-- As a message of MESSAGE IN is broken off, what MESSAGE PARITY ERROR would bring back is what holds, but for data
-- (6.6.13). A message of one byte is never broken off. Longer ones are names, and requests and answers of a
-- negotiation: before them no pointers were restored in the connection, and none are with them.
use Rattle.transcript_laws.proofs
use proofs.Names.{ℕ, ◌≡◌, ◌∙◌, ◌-◌, ◌⊎◌, inl, inr, Bool, true, false, not, ◌&&◌, ◌%◌, List, [], ◌∷◌, ◌++◌, length}
use proofs.Names.{Option, Some, None, refl, sym, ap, subst, append-nil, same_Some, is_some, nat_lt, if◌then◌else◌}
use proofs.Names.{wrong, wrong', and_first, and_second, and_true, LineSet, changes_phase, is_command, is_message_in}
use proofs.Names.{is_message_out, is_fault, connection, receiver_in, bus, Change, Connection, Row, form_in, got_in}
use proofs.Names.{MsgIn, left_of, is_nil, ScenarioValue, Obeys, Tag, events_link, first_link, RowReading, row_reading}
use proofs.Names.{whole_in, message_in, message_out, is_status_phase, row_events_by, Link, link_of, Story, aim_of}
use proofs.Names.{story_on_bus, story_by_change, Exchange, from_byte, bytes_of_messages, message_bytes, plan_anew}
use proofs.Names.{phase_of, phase_leaving, leaving_by, plan_in_message_out, tag_named, Cause, Leaving, Messages, Phase}
use proofs.Names.{Plan, IsPrompt, IsPlain, RunState, bus_of, run_state, hearing_of, leaving, serving_of, command_is}
use proofs.Names.{is_command_phase, InConnection, in_connection, not_both, nil_is, AreGiven, OnMessage, OnMessages}
use proofs.Names.{half_after, reading_in, is_selected, in_out, message_line, out_in, out_line, out_lines, plan_left}
use proofs.Names.{plan_out, by_bool, unbegun_lines, SamePlan, plan_stays, Named, Names, known, said, refused, all}
use proofs.Names.{tag_alone, RestoresNone, Whole, whole, OpenedValue, transcribed, undoes_nothing}
use proofs.{Fits.Crossings.{whole_on}, Held.Since.{follows_in, message_no_command}, Opened.Bytes.{lines_same, out_same}}
use proofs.Opened.{Bytes.{in_same, begun_same, begun_crossing, begun_turned}, Rows.{Going, Starts, Holds, RowMade}}
use proofs.Opened.Rows.{made_still, made_crossing, made_turn, always, plain_before, knows_before}
use proofs.Undone.{Bytes.{UndoesSo, row_undoes}, Leavings.{is_brief, are_brief, Leads, briefly, answers, again}}
use proofs.Undone.Leavings.{leads_from}
use Rattle.due_model.specs.array_model.specs.Processes.{Process}

-- Each of the messages that the target gives is one byte; or none of them restores pointers, and nothing is to be
-- brought back but data.
abbrev pub Undone : Story → Messages → Type 0
Undone b m = (UndoesSo b × OnMessages RestoresNone m) ⊎ (are_brief m ≡ true)

pub record UndoneTalk (k : RunState) : Type 0 where
  pub unbegun : k.exchange.begun ≡ false → UndoesSo k.story
  pub opening : k.exchange.begun ≡ true → is_message_out (bus_of k) ≡ true → k.exchange.plan.cause ≡ Cause.Selected
      → UndoesSo k.story
  pub given : k.exchange.begun ≡ true → is_message_in (bus_of k) ≡ true → Undone k.story k.exchange.plan.messages
  pub refused : k.exchange.begun ≡ true → is_message_out (bus_of k) ≡ true → k.exchange.plan.cause ≡ Cause.InMessage
      → Undone k.story k.exchange.plan.messages

abbrev UndoneIn : RunState → Connection → OpenedValue → Type 0
UndoneIn k n o = UndoneTalk k

-- ---- messages of one byte are heard half never

abbrev are_whole : List ℕ → Bool
are_whole [] = true
are_whole (b ∷ bytes) = is_nil (left_of (got_in (b ∷ [])) (b ∷ [])) && are_whole bytes

none_half : (before rest bytes : List ℕ) → bytes ≡ before ++ rest → are_whole bytes ≡ true → half_after [] before ≡ []
none_half [] rest bytes e h = refl
none_half (b ∷ before) rest bytes e h =
    let all : are_whole (b ∷ (before ++ rest)) ≡ true = ap are_whole (sym e) ∙ h in
    ap (λ (half : List ℕ). half_after half before) (nil_is (left_of (got_in (b ∷ [])) (b ∷ []))
    (and_first (is_nil (left_of (got_in (b ∷ [])) (b ∷ []))) (are_whole (before ++ rest)) all))
    ∙ none_half before rest (before ++ rest) refl
    (and_second (is_nil (left_of (got_in (b ∷ [])) (b ∷ []))) (are_whole (before ++ rest)) all)

one_whole : (m : Option MsgIn) (rest : List ℕ) → is_brief m ≡ true → are_whole rest ≡ true
    → are_whole (message_bytes m ++ rest) ≡ true
unfolding form_in
one_whole None rest e h = h
one_whole (Some MsgIn.CommandComplete) rest e h = h
one_whole (Some MsgIn.SavePointer) rest e h = h
one_whole (Some MsgIn.RestorePointers) rest e h = h
one_whole (Some MsgIn.Disconnect) rest e h = h
one_whole (Some (MsgIn.Identify lun)) rest e h = wrong' e
one_whole (Some (MsgIn.SimpleTag tag)) rest e h = wrong' e
one_whole (Some (MsgIn.Sdtr offer)) rest e h = wrong' e
one_whole (Some MsgIn.Reject) rest e h = wrong' e

last_whole : (m : Option MsgIn) → is_brief m ≡ true → are_whole (message_bytes m) ≡ true
last_whole m e = ap are_whole (sym (append-nil (message_bytes m))) ∙ one_whole m [] e refl

brief_half : (m : Messages) (half : List ℕ) (count : ℕ) → are_brief m ≡ true → AreGiven (bytes_of_messages m) half count
    → is_nil half ≡ true
brief_half m half count e g = ap is_nil (g.half_is ∙ none_half g.before g.rest (bytes_of_messages m) g.bytes_are
    (one_whole m.first (message_bytes m.second) (and_first (is_brief m.first) (is_brief m.second) e)
    (last_whole m.second (and_second (is_brief m.first) (is_brief m.second) e))))

-- Those that are left as MESSAGE OUT begins.
from_undone : (b : Story) (m : Messages) (i : ℕ) → Undone b m → Undone b (from_byte m i)
from_undone b m i h = go (nat_lt i (length (message_bytes m.first))) h
  where
    go : (q : Bool) → Undone b m → Undone b (if q then m else record { first = m.second; second = None })
    go true h = h
    go false (inl w) = inl (w.0, (w.1.1, tt))
    go false (inr e) = inr (and_true (is_brief m.second) ∙ and_second (is_brief m.first) (is_brief m.second) e)

-- ---- lines

no_status : (b : LineSet) → b.msg ≡ true → is_status_phase b ≡ false
no_status b e = λ i. not (e i) && b.cd && b.io

-- ---- a connection begins

starts_undone : (s : ScenarioValue) (p : List Row) (row : Row) (n : Connection) → Starts s p row n
    → (run_state s (row ∷ p)).exchange.begun ≡ n.reselected → is_message_out (bus_of (run_state s (row ∷ p))) ≡ false
    → (n.reselected ≡ true → Named s (run_state s (row ∷ p)) n) → UndoneTalk (run_state s (row ∷ p))
starts_undone s p row n h begun out named = record {
  unbegun = λ b. nothing;
  opening = λ b o c. nothing;
  given = λ b i. inl (nothing, names (sym begun ∙ b) (named (sym begun ∙ b)));
  refused = λ b o c. wrong (sym o ∙ out);
}
  where
    k : RunState
    k = run_state s p

    j : RunState
    j = run_state s (row ∷ p)

    d : RowReading
    d = row_reading k.story.bus_state row

    first : Link
    first = link_of n (if n.reselected then None else aim_of k.story.aims n.initiator)

    link : j.story.link ≡ Some first
    link = events_link s (story_by_change s k.story d row) (row_events_by s k.story d row)
        ∙ ap (λ (q : Bool). (if q then record k.story { link = None }
        else story_on_bus s k.story k.story.bus_state.connection d.next d row).link) h.off
        ∙ (λ i. (story_on_bus s k.story (h.alone i) (h.next i) d row).link) ∙ first_link k.story n

    nothing : UndoesSo j.story
    nothing l el = ap (λ (x : Link). undoes_nothing j.story x x.undo) (same_Some l first (sym el ∙ link))

    tagged : (t : Tag) → OnMessage RestoresNone (tag_named t)
    tagged Tag.Untagged = tt
    tagged _ = refl

    naming : (pr : Process) (l : Link) (count : ℕ) → Names pr l j.exchange.plan.messages count
        → OnMessages RestoresNone j.exchange.plan.messages
    naming pr l count (all e unit) = subst (λ (m : Messages). OnMessages RestoresNone m) (sym e) (refl, tagged pr.tag)
    naming pr l count (tag_alone m em e unit) = subst (λ (x : Messages). OnMessages RestoresNone x) (sym e)
        (subst (λ (x : Option MsgIn). OnMessage RestoresNone x) em (tagged pr.tag), tt)

    names : n.reselected ≡ true → Named s j n → OnMessages RestoresNone j.exchange.plan.messages
    names re (known l el some nameless) =
        wrong' (sym (ap (λ (x : Link). is_some x.item) (same_Some l first (sym el ∙ link))
        ∙ ap (λ (q : Bool). is_some (if q then None else aim_of k.story.aims n.initiator)) re) ∙ some)
    names re (said pr l is here given whole) = naming pr l j.handshakes.requests given
    names re (refused pr l is here cause given) = naming pr l 0 given

-- ---- row by row

undone_row :
    (s : ScenarioValue) (p : List Row) (row : Row) (n : Connection) (g : Going s p row n) (o after : OpenedValue)
    → RowMade (run_state s p) row n g.going.change o after → UndoneTalk (run_state s p)
    → UndoneTalk (run_state s (row ∷ p))
undone_row s p row n g o after made h = by made
  where
    k : RunState
    k = run_state s p

    j : RunState
    j = run_state s (row ∷ p)

    c : Change
    c = g.going.change

    on : bus_of k ≡ c.before
    on = g.going.goes.row_is.bus_is

    l : Link
    l = (knows_before s p row n g).link

    el : k.story.link ≡ Some l
    el = (knows_before s p row n g).link_is

    struck : is_command (bus_of k) ≡ false → (x : Change) → k.story.bus_state.crossed ≡ Some x
        → is_command x.before ≡ false
    struck e x z = command_is x.before ∙ ap is_command_phase ((g.was.crossed n g.stands g.calm).here x z)
        ∙ sym (command_is (bus_of k)) ∙ e

    keeps : (now : Bool) → is_some (receiver_in n c) ≡ now → is_command (bus_of k) ≡ false
        → (changes_phase c ≡ true → is_status_phase c.after ≡ false) → (now ≡ true → c.before.msg ≡ true)
        → OnMessage RestoresNone (message_in k.story.bus_state.dialogue c now) → UndoesSo k.story → UndoesSo j.story
    keeps now er e entry line plain =
        row_undoes s k row n c now l g.going.goes.row_is er el (λ z. (ap is_command (sym on) ∙ e, entry z)) (record {
          line = line;
          struck = struck e;
          plain = λ m em. subst (λ (x : Option MsgIn). OnMessage RestoresNone x) em plain;
        })

    unbegun_command : k.exchange.begun ≡ false → is_command (bus_of k) ≡ false
    unbegun_command b =
        let pl = plain_before s p row n g in
        ap is_command pl.bus ∙ unbegun_lines s p n g.link.stage (sym pl.begun ∙ b)

    -- the phase goes on
    same : (now : Bool) → changes_phase c ≡ false → is_some (receiver_in n c) ≡ now
        → (k.exchange.begun ≡ false → now ≡ false)
        → (is_message_in c.before ≡ true → OnMessages RestoresNone k.exchange.plan.messages
        → OnMessage RestoresNone (message_in k.story.bus_state.dialogue c now)) → UndoneTalk j
    same now ep er silent heard =
        let lines = lines_same s p row n g ep in
        let begun = begun_same s p row n g ep in
        record {
          unbegun = λ b. at_first now (sym begun ∙ b) (silent (sym begun ∙ b)) er;
          opening = λ b out cause. says (sym (out_same (bus_of k) (bus_of j) lines) ∙ out)
              (h.opening (sym begun ∙ b) (sym (out_same (bus_of k) (bus_of j) lines) ∙ out) (sym plan.cause ∙ cause));
          given = λ b into.
              let here : is_message_in (bus_of k) ≡ true = sym (in_same (bus_of k) (bus_of j) lines) ∙ into in
              on_plan (elim (h.given (sym begun ∙ b) here) [
                | inl w ↦
                    inl (goes (message_line (bus_of k) here) (heard (ap is_message_in (sym on) ∙ here) w.1) w.0, w.1)
                | inr w ↦ inr w
              ]);
          refused = λ b out cause.
              let there : is_message_out (bus_of k) ≡ true = sym (out_same (bus_of k) (bus_of j) lines) ∙ out in
              on_plan (elim (h.refused (sym begun ∙ b) there (sym plan.cause ∙ cause)) [
                | inl w ↦ inl (says there w.0, w.1)
                | inr w ↦ inr w
              ]);
        }
      where
        i : InConnection s k row n c false now (is_fault row.kind)
        i = in_connection s k row n c false now (is_fault row.kind) g.going.goes.row_is ep er refl

        plan : SamePlan k.exchange.plan j.exchange.plan
        plan = subst (λ (x : Plan). SamePlan k.exchange.plan x) (sym (ap (λ (x : Exchange). x.plan) i.exchange_is))
            (plan_stays k.exchange.plan now (is_message_out c.before) k.story.bus_state.dialogue.is_last
            (is_fault row.kind && not c.before.io) (message_out k.story.bus_state.dialogue c now))

        on_plan : Undone j.story k.exchange.plan.messages → Undone j.story j.exchange.plan.messages
        on_plan = subst (λ (m : Messages). Undone j.story m) (sym plan.messages)

        goes : (bus_of k).msg ≡ true → OnMessage RestoresNone (message_in k.story.bus_state.dialogue c now)
            → UndoesSo k.story → UndoesSo j.story
        goes msg = keeps now er (message_no_command (bus_of k) msg) (λ z. wrong' (sym ep ∙ z))
            (λ z. ap (λ (x : LineSet). x.msg) (sym on) ∙ msg)

        says : is_message_out (bus_of k) ≡ true → UndoesSo k.story → UndoesSo j.story
        says out =
            goes (out_line (bus_of k) out) (subst (λ (x : Option MsgIn). OnMessage RestoresNone x) (sym (none now)) tt)
          where
            no_in : is_message_in c.before ≡ false
            no_in = ap is_message_in (sym on) ∙ in_out (bus_of k) out

            none : (q : Bool) → message_in k.story.bus_state.dialogue c q ≡ None
            none false = refl
            none true = ap (λ (q : Bool).
                if q then whole_in (got_in (k.story.bus_state.dialogue.half ++ c.after.data_bits % 256 ∷ [])) else None)
                no_in

        at_first : (q : Bool) → k.exchange.begun ≡ false → q ≡ false → is_some (receiver_in n c) ≡ q → UndoesSo j.story
        at_first true b z e = wrong z
        at_first false b z e =
            keeps false e (unbegun_command b) (λ y. wrong' (sym ep ∙ y)) (λ y. wrong' y) tt (h.unbegun b)

    -- another phase begins
    turned : changes_phase c ≡ true → is_some (receiver_in n c) ≡ false → UndoneTalk j
    turned ep none = record {
      unbegun = λ b. wrong (sym (begun_turned s p row n g ep) ∙ b);
      opening = λ b out cause. opens k.exchange.begun refl out cause;
      given = λ b into. gives into;
      refused = λ b out cause. says_again b out cause;
    }
      where
        i : InConnection s k row n c true false (is_fault row.kind)
        i = in_connection s k row n c true false (is_fault row.kind) g.going.goes.row_is ep none refl

        quiet : is_command (bus_of k) ≡ false → (bus_of j).msg ≡ true → UndoesSo k.story → UndoesSo j.story
        quiet e msg = keeps false none e (λ z. no_status c.after (ap (λ (x : LineSet). x.msg) (sym i.bus_is) ∙ msg))
            (λ z. wrong' z) tt

        out_after : is_message_out (bus_of j) ≡ true → is_message_out c.after ≡ true
        out_after out = ap is_message_out (sym i.bus_is) ∙ out

        out_plan : (b : Bool) → k.exchange.begun ≡ b → is_message_out (bus_of j) ≡ true → j.exchange.plan
            ≡ (if b then plan_in_message_out (hearing_of k row (reading_in k.story.bus_state n c false)) k.exchange.plan
            else plan_anew k.exchange.plan)
        out_plan b e out = ap (λ (x : Exchange). x.plan) i.exchange_is
            ∙ plan_out (hearing_of k row (reading_in k.story.bus_state n c false))
            (leaving s k n.target) k.exchange.plan (out_after out) e

        -- MESSAGE OUT follows
        opens : (b : Bool) → k.exchange.begun ≡ b → is_message_out (bus_of j) ≡ true
            → j.exchange.plan.cause ≡ Cause.Selected → UndoesSo j.story
        opens false b out cause = quiet (unbegun_command b) (out_line (bus_of j) out) (h.unbegun b)
        opens true b out cause =
            later (is_message_in c.before) c.before.cd (sym (ap (λ (x : Plan). x.cause) (out_plan true b out)) ∙ cause)
          where
            later : {A : Type 0} (q r : Bool)
                → (if q then Cause.InMessage else if r then Cause.InStatus else Cause.InData) ≡ Cause.Selected → A
            later true r z = wrong' (ap is_selected z)
            later false true z = wrong' (ap is_selected z)
            later false false z = wrong' (ap is_selected z)

        says_again : j.exchange.begun ≡ true → is_message_out (bus_of j) ≡ true
            → j.exchange.plan.cause ≡ Cause.InMessage → Undone j.story j.exchange.plan.messages
        says_again b out cause =
            let f = follows_in s p row n g ep none (record { begun = b; here = out; cause = cause }) in
            let here : is_message_in (bus_of k) ≡ true = ap is_message_in on ∙ f.1 in
            let messages : j.exchange.plan.messages ≡ from_byte k.exchange.plan.messages (k.handshakes.requests - 1) =
            ap (λ (x : Plan). x.messages) (out_plan true f.0 out)
            ∙ ap (λ (q : Bool). if q then from_byte k.exchange.plan.messages (k.handshakes.requests - 1)
            else k.exchange.plan.messages) f.1 in
            subst (λ (m : Messages). Undone j.story m) (sym messages)
            (from_undone j.story k.exchange.plan.messages (k.handshakes.requests - 1) (elim (h.given f.0 here) [
              | inl w ↦ inl (
                quiet (message_no_command (bus_of k) (message_line (bus_of k) here)) (out_line (bus_of j) out) w.0,
                w.1,
              )
              | inr w ↦ inr w
            ]))

        -- MESSAGE IN follows
        begun_before : (q : Bool) → k.exchange.begun ≡ q → is_message_in (bus_of j) ≡ true → k.exchange.begun ≡ true
        begun_before true b x = b
        begun_before false b x = not_both (bus_of j) x (ap is_message_out i.bus_is
            ∙ ap (λ (y : Change). is_message_out y.after) (sym g.going.goes.row_is.change_is)
            ∙ g.going.goes.first (ap changes_phase g.going.goes.row_is.change_is ∙ ep) b)

        gives : is_message_in (bus_of j) ≡ true → Undone j.story j.exchange.plan.messages
        gives x = from (leads_from (serving_of s k n.target) (bus_of k).atn (phase_of (bus_of k)))
          where
            b : k.exchange.begun ≡ true
            b = begun_before k.exchange.begun refl x

            no_out : is_message_out c.after ≡ false
            no_out = ap is_message_out (sym i.bus_is) ∙ out_in (bus_of j) x

            left : Leaving
            left = phase_leaving (serving_of s k n.target) (bus_of k).atn (phase_of (bus_of k))

            messages : j.exchange.plan.messages ≡ left.messages
            messages = ap (λ (y : Exchange). y.plan.messages) i.exchange_is
                ∙ ap (λ (x : Plan). x.messages) (plan_left (hearing_of k row (reading_in k.story.bus_state n c false))
                (leaving s k n.target) k.exchange.plan no_out)
                ∙ (λ t. (leaving_by (serving_of s k n.target) (b t) (bus_of k)).messages)

            after_out : phase_of (bus_of k) ≡ Phase.MessageOut → UndoesSo k.story → UndoesSo j.story
            after_out f =
                quiet (message_no_command (bus_of k) (out_line (bus_of k) (here f))) (message_line (bus_of j) x)
              where
                here : phase_of (bus_of k) ≡ Phase.MessageOut → is_message_out (bus_of k) ≡ true
                here f = out_lines (bus_of k) f (λ z. (g.going.goes.phase z).0)

            from : Leads (serving_of s k n.target) (phase_of (bus_of k)) left → Undone j.story j.exchange.plan.messages
            from (briefly e) = inr (ap are_brief messages ∙ e)
            from (answers f ec plain) = inl (
              after_out f (h.opening b (out_lines (bus_of k) f (λ z. (g.going.goes.phase z).0)) ec),
              subst (λ (m : Messages). OnMessages RestoresNone m) (sym messages) plain,
            )
            from (again f ec em) = subst (λ (m : Messages). Undone j.story m) (sym (messages ∙ em))
                (elim (h.refused b (out_lines (bus_of k) f (λ z. (g.going.goes.phase z).0)) ec) [
                  | inl w ↦ inl (after_out f w.0, w.1)
                  | inr w ↦ inr w
                ])

    by : RowMade k row n c o after → UndoneTalk j
    by (made_still ep none e) = same false ep none (λ b. refl) (λ here plain. tt)
    by (made_crossing dev ep er e) = same true ep (ap (λ (x : Option ℕ). is_some x) er)
        (λ b. wrong (sym (begun_crossing s p row n g dev er) ∙ b))
        (λ here plain. whole_on s p row n g dev RestoresNone er here plain)
    by (made_turn ep none ef e) = turned ep none

undone_holds : (s : ScenarioValue) → Holds s UndoneIn
undone_holds s = record {
  begins = λ p row n starts now con calm b out fresh. starts_undone s p row n starts b out
      (λ re. now.facts.named n con calm re);
  goes_on = λ p row n g o after made h. undone_row s p row n g o after made h;
}

-- ---- a message that is broken off

abbrev pub UndoesNothing : ScenarioValue → List Row → Type 0
UndoesNothing s p = (l : Link) → (run_state s p).story.link ≡ Some l
    → is_message_in (bus_of (run_state s p)) ≡ true → is_nil (run_state s p).story.bus_state.dialogue.half ≡ false
    → undoes_nothing (run_state s p).story l l.undo ≡ true

pub undoes_row : (s : ScenarioValue) (p : List Row) (n : Connection) (o : OpenedValue) → Obeys s → IsPrompt s p
    → connection p ≡ Some n → (bus p).rst ≡ false → (transcribed p).opened ≡ Some o → UndoesNothing s p
undoes_row s p n o obeys prompt con calm there l el here some =
    by_bool k.exchange.begun
    (λ b. by b (h.given b here))
    (λ b. h.unbegun b l el)
  where
    k : RunState
    k = run_state s p

    was : Whole s p
    was = whole s p obeys prompt

    pl : IsPlain s p k
    pl = was.stood.plain

    h : UndoneTalk k
    h = always s UndoneIn obeys (undone_holds s) p prompt n con calm o there

    given : k.exchange.begun ≡ true
        → AreGiven (bytes_of_messages k.exchange.plan.messages) k.story.bus_state.dialogue.half k.handshakes.requests
    given b =
        (was.stood.books.gives n (pl.connection ∙ con) (ap (λ (x : LineSet). x.rst) pl.bus ∙ calm)).in_message_in b here

    by : k.exchange.begun ≡ true → Undone k.story k.exchange.plan.messages → undoes_nothing k.story l l.undo ≡ true
    by b (inl w) = w.0 l el
    by b (inr e) = wrong
        (sym (brief_half k.exchange.plan.messages k.story.bus_state.dialogue.half k.handshakes.requests e (given b))
        ∙ some)
