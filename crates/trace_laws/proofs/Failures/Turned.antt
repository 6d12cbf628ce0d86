-- With its first STATUS phase a process that its initiator knows has an answer.
use Rattle.trace_laws.proofs
use proofs.Names.{ℕ, ◌≡◌, Bool, true, false, not, ◌&&◌, ◌||◌, ◌∙◌, List, [], ◌∷◌, Option, Some, None, refl, sym, ap}
use proofs.Names.{subst, inl, inr, ◌⊎◌, ◌≤◌, length, same_Some, list_any, if◌then◌else◌, is_some, ◌-◌, or_true, wrong}
use proofs.Names.{wrong', Event, ProcId, rises, LineSet, changes_phase, is_command, is_message_in, is_message_out}
use proofs.Names.{receiver_in, Row, Change, Connection, Handshakes, no_handshakes, handshakes_after, asked_if}
use proofs.Names.{answered_if, INITIATOR_DETECTED_ERROR, ScenarioValue, array_after, same_id, carried_id, row_reading}
use proofs.Names.{CarriedBytes, carried_of, is_whole_block, is_status_phase, carried_if, is_refuse, status_event}
use proofs.Names.{status_events, phase_events, row_events_by, process, Link, Story, story_after_event}
use proofs.Names.{story_after_events, story_by_change, is_status_next, Exchange, from_byte, plan_anew}
use proofs.Names.{bytes_of_messages, Serving, phase_of, phase_leaving, leaving_by, cause_after, plan_in_message_out}
use proofs.Names.{plan_in_phase, parity_error, Cause, Leaving, Next, Phase, Plan, RunState, carried_here, bus_of}
use proofs.Names.{run_state_after, serving_of, leaving, hearing_of, InConnection, in_connection, self_id, LeavesWhole}
use proofs.Names.{is_out_phase, IsRowIn, reading_in, out_phase, out_lines, is_out_next, plan_left, plan_out, by_bool}
use proofs.Names.{replies_to, is_to_message_in, answered_on, change_keeps, is_marked, UndoesAnswers, code_if}
use proofs.Names.{attended_for, row_shows, link_still, stays_out, status_lines, TurnOf, not_out, SaysFailure, FailsBy}
use proofs.{Names.{FailTalk}, Failures.{Bytes.{clear_as, still_fails}, Entries.{KeptFail, answer_kept, gives_entered}}}
use proofs.Failures.{Entries.{sending_entered, not_to_status, out_entered}, Turns.{LeftSo, gives_left, sends_clear}}
use proofs.Failures.Turns.{is_sending}
use Rattle.story_laws.proofs.Complaints.Turns.{IsAttended}

-- An event that answers it, or an answer that it had, stays.
answered : (s : ScenarioValue) (b : Story) (e : Event) (id : ProcId) → replies_to e id ≡ true
    → is_marked (carried_of (story_after_event s b e).carried id) ≡ true
answered s b e id h = answered_on s b e id ∙ ap (λ (q : Bool). q || is_marked (carried_of b.carried id)) h

stays_answered : (s : ScenarioValue) (b : Story) (e : Event) (id : ProcId) → is_marked (carried_of b.carried id) ≡ true
    → is_marked (carried_of (story_after_event s b e).carried id) ≡ true
stays_answered s b e id h = answered_on s b e id ∙ ap (λ (q : Bool). replies_to e id || q) h ∙ or_true (replies_to e id)

status_replies : (id : ProcId) (code : Option ℕ) → replies_to (status_event id code) id ≡ true
status_replies id None = self_id id
status_replies id (Some code) = self_id id

-- The events of the row, of what it had before.
marks : (s : ScenarioValue) (b a : Story) (c : CarriedBytes) (change : Change) (id : ProcId) → c.id ≡ id
    → is_marked (carried_of a.carried id) ≡ is_marked c → is_status_phase change.after ≡ true
    → is_marked (carried_of (story_after_events s a (phase_events s b (Some c) change)).carried id) ≡ true
marks s b a c change id same before st =
    by (is_command change.before && is_whole_block c) (is_some (array_after s (Event.Accept c.id ∷ b.history)))
  where
    last : (arrived : List Event) (x y r : Bool)
        → (x ≡ true → is_marked (carried_of (story_after_events s a arrived).carried id) ≡ true)
        → (y ≡ true → is_marked (carried_of (story_after_events s a arrived).carried id) ≡ true)
        → (r ≡ true → is_marked (carried_of (story_after_events s a arrived).carried id) ≡ true)
        → is_marked (carried_of (story_after_events s a
        (if true && not x && not y && not r then status_event c.id c.failure ∷ arrived else arrived)).carried id) ≡ true
    last arrived true y r f g h = f refl
    last arrived false true r f g h = g refl
    last arrived false false true f g h = h refl
    last arrived false false false f g h =
        answered s (story_after_events s a arrived) (status_event c.id c.failure) id (subst
        (λ (x : ProcId). replies_to (status_event x c.failure) id ≡ true) (sym same) (status_replies id c.failure))

    refused : c.refused ≡ true → is_marked (carried_of a.carried id) ≡ true
    refused e = before ∙ ap (λ (q : Bool). c.shown || q) e ∙ or_true c.shown

    shown_is : c.shown ≡ true → is_marked (carried_of a.carried id) ≡ true
    shown_is e = before ∙ (λ i. e i || c.refused)

    with_arrived : (arrived : List Event) → (is_marked (carried_of a.carried id) ≡ true
        → is_marked (carried_of (story_after_events s a arrived).carried id) ≡ true)
        → (list_any (λ e. is_refuse e) arrived ≡ true
        → is_marked (carried_of (story_after_events s a arrived).carried id) ≡ true)
        → is_marked (carried_of (story_after_events s a (status_events (Some c) change.after arrived)).carried id)
        ≡ true
    with_arrived arrived f g = (λ i. is_marked (carried_of
        (story_after_events s a (if st i && not c.shown && not c.refused && not (list_any (λ e. is_refuse e) arrived)
        then status_event c.id c.failure ∷ arrived else arrived)).carried id))
        ∙ last arrived c.shown c.refused (list_any (λ e. is_refuse e) arrived) (λ z. f (shown_is z))
        (λ z. f (refused z)) g

    by : (q t : Bool) → is_marked (carried_of (story_after_events s a (status_events (Some c) change.after
        (if q then (if t then Event.Accept c.id else Event.Refuse c.id) ∷ [] else []))).carried id) ≡ true
    by false t = with_arrived [] (λ z. z) (λ z. absurd cc)
    by true true =
        with_arrived (Event.Accept c.id ∷ []) (λ z. stays_answered s a (Event.Accept c.id) id z) (λ z. absurd cc)
    by true false = with_arrived (Event.Refuse c.id ∷ []) (λ z. stays_answered s a (Event.Refuse c.id) id z)
        (λ z. answered s a (Event.Refuse c.id) id (subst (λ (x : ProcId). same_id x id ≡ true) (sym same) (self_id id)))

pub status_marks : (s : ScenarioValue) (k : RunState) (row : Row) (n : Connection) (c : Change) (l : Link) (id : ProcId)
    → IsRowIn k row n c → is_some (receiver_in n c) ≡ false → k.story.link ≡ Some l
    → l.item ≡ Some (process id) → UndoesAnswers k row → changes_phase c ≡ true → is_status_phase c.after ≡ true
    → is_marked (carried_here (run_state_after s k row) id) ≡ true
status_marks s k row n c l id r en link item undoes ep st =
    ap (λ (x : List Event). is_marked (carried_of (story_after_events s changed x).carried id)) shown
    ∙ marks s k.story changed (carried_here k id) c id (carried_id k.story.carried id)
    (change_keeps s k.story (row_reading k.story.bus_state row) row undoes id) st
  where
    changed : Story
    changed = story_by_change s k.story (row_reading k.story.bus_state row) row

    shown : row_events_by s k.story (row_reading k.story.bus_state row) row
        ≡ phase_events s k.story (Some (carried_here k id)) c
    shown = row_shows s k row n c false l r en link
        ∙ (λ i. if ep i then phase_events s k.story (carried_if k.story (item i)) c
        else if Rattle.due_model.specs.story_model.specs.HistoryEvents.is_completion l c
        then Rattle.due_model.specs.story_model.specs.HistoryEvents.end_events (carried_if k.story l.item) else [])

-- ---- The code of the failure of the process that is served goes on with each row in which a phase is left for
-- another.

-- What is known of the phase that is left, once it has begun.
pub record LeftHere (k : RunState) (l : Link) (id : ProcId) : Type 0 where
  -- the initiator knows the process, or its names are refused
  pub named : (l.item ≡ Some (process id))
      ⊎ (((phase_of (bus_of k) ≡ Phase.MessageOut) × (k.exchange.plan.cause ≡ Cause.InMessage))
      ⊎ ((phase_of (bus_of k) ≡ Phase.MessageIn) × ((bus_of k).atn ≡ true)))
  pub code : phase_of (bus_of k) ≡ Phase.DataIn
      → (carried_here k id).failure ≡ code_if (bus_of k).atn INITIATOR_DETECTED_ERROR
  pub answered : phase_of (bus_of k) ≡ Phase.MessageOut
      → k.exchange.plan.cause ≡ Cause.InMessage → is_some k.exchange.plan.said.offer ≡ true
      → (k.exchange.plan.next ≡ Next.Command) × (k.exchange.speech.words ≡ parity_error → ⊥)
  pub few : phase_of (bus_of k) ≡ Phase.MessageIn
      → k.handshakes.requests ≤ length (bytes_of_messages k.exchange.plan.messages)

pub turn_fail : (s : ScenarioValue) (k : RunState) (row : Row) (n : Connection) (c : Change) (l m : Link) (id : ProcId)
    → TurnOf s k row n c l → UndoesAnswers k row → (k.exchange.begun ≡ true → LeftHere k l id)
    → (run_state_after s k row).story.link ≡ Some m → FailTalk k l (carried_here k id)
    → FailTalk (run_state_after s k row) m (carried_here (run_state_after s k row) id)
turn_fail s k row n c l m id t undoes left em h = subst (λ (x : Link). FailTalk j x d)
    (same_Some l m (sym (link_still s k row n c l t.goes.row_is none t.link_is) ∙ em))
    (record { unbegun = λ b. wrong (sym begun ∙ b); begun = λ b. go k.exchange.begun refl })
  where
    j : RunState
    j = run_state_after s k row

    own : CarriedBytes
    own = carried_here k id

    d : CarriedBytes
    d = carried_here j id

    none : is_some (receiver_in n c) ≡ false
    none = ap (λ (z : Option ℕ). is_some z) t.silent

    i : InConnection s k row n c true false false
    i = in_connection s k row n c true false false t.goes.row_is t.turns none t.lines

    begun : j.exchange.begun ≡ true
    begun = ap (λ (x : Exchange). x.begun) i.exchange_is

    v : Serving
    v = serving_of s k n.target

    plan : j.exchange.plan ≡ plan_in_phase (hearing_of k row (reading_in k.story.bus_state n c false))
        (leaving s k n.target) k.exchange.plan
    plan = ap (λ (x : Exchange). x.plan) i.exchange_is

    asked : j.handshakes.requests ≡ 0
    asked = ap (λ (x : Handshakes). x.requests) i.handshakes_is
        ∙ ap (λ (q : Bool). (handshakes_after q (Some n) c row.time k.handshakes).requests) t.lines
        ∙ ap (λ (q : Bool). (if q then no_handshakes else answered_if (rises c.before.ack c.after.ack) row.time
        (asked_if (rises c.before.req c.after.req) row.time k.handshakes)).requests) t.turns

    change : changes_phase (row_reading k.story.bus_state row).change ≡ true
    change = ap changes_phase t.goes.row_is.change_is ∙ t.turns

    leaves : LeavesWhole s k n
    leaves = t.goes.leaves change

    kept : KeptFail own d
    kept = record {
      same = still_fails s k row n c l t.goes.row_is none t.link_is t.lines id;
      answer = answer_kept s k row id undoes;
    }

    at : (phase : Phase) → phase_of c.after ≡ phase
        → FailsBy l d j.exchange.plan j.exchange.speech.words j.handshakes.requests phase
        → FailsBy l d j.exchange.plan j.exchange.speech.words j.handshakes.requests (phase_of (bus_of j))
    at phase e w = subst (FailsBy l d j.exchange.plan j.exchange.speech.words j.handshakes.requests)
        (sym (ap phase_of i.bus_is ∙ e)) w

    out_plan : is_message_out c.after ≡ true → (q : Bool) → k.exchange.begun ≡ q → j.exchange.plan
        ≡ (if q then plan_in_message_out (hearing_of k row (reading_in k.story.bus_state n c false)) k.exchange.plan
        else plan_anew k.exchange.plan)
    out_plan out q b = plan ∙ plan_out (hearing_of k row (reading_in k.story.bus_state n c false))
        (leaving s k n.target) k.exchange.plan out b

    else_plan : is_message_out c.after ≡ false → j.exchange.plan ≡ record (plan_anew k.exchange.plan) {
      messages = (leaving s k n.target).messages;
      next = (leaving s k n.target).next;
    }
    else_plan out = plan ∙ plan_left (hearing_of k row (reading_in k.story.bus_state n c false))
        (leaving s k n.target) k.exchange.plan out

    first_out : k.exchange.begun ≡ false
        → FailsBy l d j.exchange.plan j.exchange.speech.words j.handshakes.requests (phase_of (bus_of j))
    first_out b =
        let out : is_message_out c.after ≡ true =
        sym (ap (λ (x : Change). is_message_out x.after) t.goes.row_is.change_is) ∙ t.goes.first change b in
        let cause : j.exchange.plan.cause ≡ Cause.Selected = ap (λ (x : Plan). x.cause) (out_plan out false b)
        ∙ (t.speaks.before_all b).cause_is in
        let was = h.unbegun b in
        at Phase.MessageOut (out_phase c.after out) (subst (SaysFailure l d j.exchange.plan j.exchange.speech.words)
        (sym cause) (clear_as own d kept.same was.0, was.1))

    leaving_is : k.exchange.begun ≡ true → leaving s k n.target ≡ phase_leaving v (bus_of k).atn (phase_of (bus_of k))
    leaving_is b = λ z. leaving_by v (b z) (bus_of k)

    to : k.exchange.begun ≡ true → (phase_leaving v (bus_of k).atn (phase_of (bus_of k))).to ≡ Some (phase_of c.after)
    to b = sym (ap (λ (x : Leaving). x.to) (leaving_is b)) ∙ t.whereto b

    known_before : (bus_of k).msg ≡ true → (bus_of k).cd ≡ true
    known_before z = (t.goes.phase z).0

    elsewhere : (phase : Phase) → phase_of c.after ≡ phase → is_out_phase phase ≡ false → is_message_out c.after ≡ false
    elsewhere phase e o =
        by_bool (is_message_out c.after)
        (λ z. wrong (sym (ap is_out_phase (out_phase c.after z)) ∙ ap is_out_phase e ∙ o))
        (λ z. z)

    refused_out : k.exchange.begun ≡ true → phase_of c.after ≡ Phase.MessageOut
        → SaysFailure l d j.exchange.plan j.exchange.speech.words j.exchange.plan.cause
    refused_out b e = out_entered l own d k.exchange.plan j.exchange.plan k.exchange.speech.words
        j.exchange.speech.words k.handshakes.requests (bus_of k) kept (record {
          cause = ap (λ (x : Plan). x.cause) f ∙ ap cause_after (sym t.goes.row_is.bus_is);
          next = ap (λ (x : Plan). x.next) f;
          messages = ap (λ (x : Plan). x.messages) f ∙ ap
              (λ (x : LineSet). if is_message_in x then from_byte k.exchange.plan.messages (k.handshakes.requests - 1)
              else k.exchange.plan.messages) (sym t.goes.row_is.bus_is);
          lines = known_before;
          to_it = a.phase;
          code = λ z. (left b).code z ∙ ap (λ (q : Bool). code_if q INITIATOR_DETECTED_ERROR) a.attends;
          given = λ z. (leaves.some z, (left b).few z);
        }) (h.begun b)
      where
        out : is_message_out c.after ≡ true
        out = out_lines c.after e t.known

        f : j.exchange.plan
            ≡ plan_in_message_out (hearing_of k row (reading_in k.story.bus_state n c false)) k.exchange.plan
        f = out_plan out true b

        not_again : is_out_phase (phase_of (bus_of k)) ≡ false
        not_again = by (phase_of (bus_of k)) refl
          where
            by : (x : Phase) → phase_of (bus_of k) ≡ x → is_out_phase (phase_of (bus_of k)) ≡ false
            by Phase.MessageOut z = wrong (sym t.turns
                ∙ stays_out c (ap is_message_out (sym t.goes.row_is.bus_is) ∙ out_lines (bus_of k) z known_before) out)
            by _ z = ap is_out_phase z

        a : IsAttended k
        a = attended_for s k n.target b not_again
            (ap is_out_next (t.whereto b) ∙ ap (λ (x : Phase). is_out_next (Some x)) e)

    gives : k.exchange.begun ≡ true → phase_of c.after ≡ Phase.MessageIn
        → FailsBy l d j.exchange.plan j.exchange.speech.words j.handshakes.requests Phase.MessageIn
    gives b e = gives_entered l own d (record k.exchange.plan { messages = x.messages; next = x.next })
        j.exchange.plan 0 j.handshakes.requests x.next kept
        (ap (λ (y : Plan). y.messages) g ∙ ap (λ (y : Leaving). y.messages) (leaving_is b))
        (ap (λ (y : Plan). y.next) g ∙ ap (λ (y : Leaving). y.next) (leaving_is b)) asked
        (gives_left l own v k.exchange.speech.words k.handshakes.requests (bus_of k).atn (phase_of (bus_of k))
        (left b).code (h.begun b) (ap is_to_message_in (to b) ∙ ap (λ (y : Phase). is_to_message_in (Some y)) e))
      where
        x : Leaving
        x = phase_leaving v (bus_of k).atn (phase_of (bus_of k))

        g : j.exchange.plan ≡ record (plan_anew k.exchange.plan) {
          messages = (leaving s k n.target).messages;
          next = (leaving s k n.target).next;
        }
        g = else_plan (not_out c.after e)

    sends : k.exchange.begun ≡ true → (phase : Phase) → phase_of c.after ≡ phase → is_sending (Some phase) ≡ true
        → is_out_phase phase ≡ false → FailsBy l d j.exchange.plan j.exchange.speech.words j.handshakes.requests phase
    sends b phase e sending o = sending_entered l d j.exchange.plan j.exchange.speech.words
        j.handshakes.requests phase sending (clear_as own d kept.same
        (sends_clear l own v k.exchange.speech.words k.handshakes.requests (bus_of k).atn (phase_of (bus_of k)) so
        (h.begun b) (ap is_sending (to b) ∙ ap (λ (y : Phase). is_sending (Some y)) e ∙ sending)))
        (ap (λ (y : Plan). y.struck) (else_plan (elsewhere phase e o)))
      where
        so : LeftSo v k.exchange.speech.words k.handshakes.requests (bus_of k).atn (phase_of (bus_of k))
        so = record { some = leaves.some; answered = (left b).answered }

    shows : k.exchange.begun ≡ true → phase_of c.after ≡ Phase.Status → is_marked d ≡ true
    shows b e = by (left b).named
      where
        by : (l.item ≡ Some (process id))
            ⊎ (((phase_of (bus_of k) ≡ Phase.MessageOut) × (k.exchange.plan.cause ≡ Cause.InMessage))
            ⊎ ((phase_of (bus_of k) ≡ Phase.MessageIn) × ((bus_of k).atn ≡ true)))
            → is_marked d ≡ true
        by (inl item) = status_marks s k row n c l id t.goes.row_is none t.link_is item undoes t.turns
            (sym (status_lines c.after) ∙ ap (λ (y : Phase). is_status_next (Some y)) e)
        by (inr z) = wrong' (sym (not_to_status v (bus_of k).atn (phase_of (bus_of k)) z) ∙ ap is_status_next (to b)
            ∙ ap (λ (y : Phase). is_status_next (Some y)) e)

    go : (q : Bool) → k.exchange.begun ≡ q
        → FailsBy l d j.exchange.plan j.exchange.speech.words j.handshakes.requests (phase_of (bus_of j))
    go false b = first_out b
    go true b = by (phase_of c.after) refl
      where
        by : (r : Phase) → phase_of c.after ≡ r
            → FailsBy l d j.exchange.plan j.exchange.speech.words j.handshakes.requests (phase_of (bus_of j))
        by Phase.MessageOut e = at Phase.MessageOut e (refused_out b e)
        by Phase.MessageIn e = at Phase.MessageIn e (gives b e)
        by Phase.Command e = at Phase.Command e (sends b Phase.Command e refl refl)
        by Phase.DataIn e = at Phase.DataIn e (sends b Phase.DataIn e refl refl)
        by Phase.DataOut e = at Phase.DataOut e (sends b Phase.DataOut e refl refl)
        by Phase.Status e = at Phase.Status e (shows b e)
