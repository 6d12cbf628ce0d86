-- A target gives up a process only past its limit.
use Rattle.book_laws.proofs
use proofs.Names.{ℕ, ◌≡◌, ◌≤◌, Bool, true, false, List, [], ◌∷◌, ◌∙◌, refl, sym, subst, Option, Some, None, arith, ◌+◌}
use proofs.Names.{not, ◌&&◌, ◌||◌, inl, inr, and_parts, and_from, eqb-true, or_right, or_left, cases_Bool, nat_tests}
use proofs.Names.{list_any, if◌then◌else◌, ◌==◌, is_some, is_none, nat_lt, all_three, eq_turned, wrong, or_none_first}
use proofs.Names.{AbortKind, Event, ProcId, rises, changes_phase, Row, Agreement, Connection, PARITY_ERROR}
use proofs.Names.{INITIATOR_DETECTED_ERROR, MsgIn, ScenarioValue, Policy, TargetDef, same_id_is, id_is, Process}
use proofs.Names.{process_of, same_id, RowReading, row_reading, CarriedBytes, row_events_by, carried_if, is_completion}
use proofs.Names.{end_events, Item, process, abort, Link, policy_of, runs_in_all, arrival_events, arrival_run_events}
use proofs.Names.{reply_events, detected_events, is_status_next, has_replied, newest_with, turn_events, turn_events_if}
use proofs.Names.{loss_events, abort_events, after_opening_events, connection_end_events, leaving_events, Serving}
use proofs.Names.{phase_of, phase_leaving, leaving_by, bus_free, phase_entry, recovery, recovery_limit}
use proofs.Names.{pointer_restoration, request_or_command, after_offer, message_repetition, message_out_leaving}
use proofs.Names.{disconnection, disconnect_messages, after_arrival, command_leaving, after_run, data_in_leaving}
use proofs.Names.{data_out_leaving, with_task, one_if, request_by, is_naming, Arrival, Cause, Leaving, Next, Phase}
use proofs.Names.{Plan, Task, target_def_of, same_process, progress_in, RunState, bus_of, process_served, process_item}
use proofs.Names.{run_state, serving_of, leaving, task_of, task_if, id_of, same_event, same_events, target_events}
use proofs.Names.{initiator_events, events_of_ends, events_of_ends_in, is_true_telling, has_event, is_struck_phase}
use proofs.Names.{is_complaint, is_wrong_phase, is_left, serves, leaves_wrong_phase, wrong_phases, is_failure, is_loss}
use proofs.{Names.{is_past_limit, gives_up}, Failures.Counts.{is_planned_wrong, planned_wrong, counted}}

-- ---- equal events

id_through : (a b c : ProcId) → same_id a b ≡ true → same_id b c ≡ true → same_id a c ≡ true
id_through a b c h e = (λ i. same_id (same_id_is a b h i) c) ∙ e

fail_through : (e f : Event) (id : ProcId) (code : ℕ) → same_event e f ≡ true → same_event f (Event.Fail id code) ≡ true
    → same_event e (Event.Fail id code) ≡ true
fail_through (Event.Fail a x) (Event.Fail b y) id code h g =
    let one = and_parts (same_id a b) (x == y) h in
    let two = and_parts (same_id b id) (y == code) g in
    and_from _ _ (id_through a b id one.0 two.0) ((λ i. eqb-true x y one.1 i == code) ∙ two.1)
fail_through (Event.Accept a) (Event.Fail b y) id code h g = cc
fail_through (Event.Refuse a) (Event.Fail b y) id code h g = cc
fail_through (Event.Run a) (Event.Fail b y) id code h g = cc
fail_through (Event.End a x) (Event.Fail b y) id code h g = cc
fail_through (Event.Lost a) (Event.Fail b y) id code h g = cc
fail_through (Event.Aborted a b c d) (Event.Fail f y) id code h g = cc
fail_through (Event.Reset a) (Event.Fail b y) id code h g = cc
fail_through e (Event.Accept a) id code h g = cc
fail_through e (Event.Refuse a) id code h g = cc
fail_through e (Event.Run a) id code h g = cc
fail_through e (Event.End a x) id code h g = cc
fail_through e (Event.Lost a) id code h g = cc
fail_through e (Event.Aborted a b c d) id code h g = cc
fail_through e (Event.Reset a) id code h g = cc

lost_through : (e f : Event) (id : ProcId) → same_event e f ≡ true → same_event f (Event.Lost id) ≡ true
    → same_event e (Event.Lost id) ≡ true
lost_through (Event.Lost a) (Event.Lost b) id h g = id_through a b id h g
lost_through (Event.Accept a) (Event.Lost b) id h g = cc
lost_through (Event.Refuse a) (Event.Lost b) id h g = cc
lost_through (Event.Run a) (Event.Lost b) id h g = cc
lost_through (Event.End a x) (Event.Lost b) id h g = cc
lost_through (Event.Fail a x) (Event.Lost b) id h g = cc
lost_through (Event.Aborted a b c d) (Event.Lost f) id h g = cc
lost_through (Event.Reset a) (Event.Lost b) id h g = cc
lost_through e (Event.Accept a) id h g = cc
lost_through e (Event.Refuse a) id h g = cc
lost_through e (Event.Run a) id h g = cc
lost_through e (Event.End a x) id h g = cc
lost_through e (Event.Fail a x) id h g = cc
lost_through e (Event.Aborted a b c d) id h g = cc
lost_through e (Event.Reset a) id h g = cc

either_true : (x y z : Bool) → (x ≡ true → z ≡ true) → (y ≡ true → z ≡ true) → (x || y) ≡ true → z ≡ true
either_true true y z f g h = f refl
either_true false y z f g h = g h

fails_in : (shown told : List Event) (id : ProcId) (code : ℕ) → same_events shown told ≡ true
    → has_event told (Event.Fail id code) ≡ true → has_event shown (Event.Fail id code) ≡ true
fails_in [] [] id code h g = cc
fails_in (e ∷ shown) (f ∷ told) id code h g =
    let two = and_parts (same_event e f) (same_events shown told) h in
    let now = fail_through e f id code two.0 in
    let later = fails_in shown told id code two.1 in
    either_true (same_event f (Event.Fail id code))
    (has_event told (Event.Fail id code)) (has_event (e ∷ shown) (Event.Fail id code))
    (λ x. or_left (same_event e (Event.Fail id code)) (has_event shown (Event.Fail id code)) (now x))
    (λ x. or_right (same_event e (Event.Fail id code)) (has_event shown (Event.Fail id code)) (later x)) g
fails_in _ _ id code h g = cc

lost_in : (shown told : List Event) (id : ProcId) → same_events shown told ≡ true
    → has_event told (Event.Lost id) ≡ true → has_event shown (Event.Lost id) ≡ true
lost_in [] [] id h g = cc
lost_in (e ∷ shown) (f ∷ told) id h g =
    let two = and_parts (same_event e f) (same_events shown told) h in
    let now = lost_through e f id two.0 in
    let later = lost_in shown told id two.1 in
    either_true (same_event f (Event.Lost id)) (has_event told (Event.Lost id)) (has_event (e ∷ shown) (Event.Lost id))
    (λ x. or_left (same_event e (Event.Lost id)) (has_event shown (Event.Lost id)) (now x))
    (λ x. or_right (same_event e (Event.Lost id)) (has_event shown (Event.Lost id)) (later x)) g
lost_in _ _ id h g = cc

-- ---- no recovery is left to the process

abbrev is_spent : Option TargetDef → Option Task → Bool
is_spent def None = false
is_spent def (Some t) = not t.in_hold && not (nat_lt t.recoveries (recovery_limit def))

spent_by : (f : Option Phase → Bool) (def : Option TargetDef) (t : Task) (a b : Leaving) → f a.to ≡ false
    → f (recovery def t a b).to ≡ true → is_spent def (Some t) ≡ true
spent_by f def t a b h g = go t.in_hold (nat_lt t.recoveries (recovery_limit def)) g
  where
    go : (q r : Bool) → f (if q then a else if r then record a { counts = true } else b).to ≡ true
        → (not q && not r) ≡ true
    go true r e = wrong (sym e ∙ h)
    go false true e = wrong (sym e ∙ h)
    go false false e = refl

-- ---- a command fails: with the first STATUS

-- Of a phase and what is planned: the failure of this process with this code.
record Fails (v : Serving) (phase : Phase) (id other : ProcId) (code : ℕ) : Type 0 where
  pub same : same_id id other ≡ true
  pub failure : is_failure v.plan.cause code phase ≡ true
  pub wrong : is_planned_wrong v.plan phase ≡ true
  pub spent : is_spent v.def v.task ≡ true

one_event : (e f : Event) → has_event (e ∷ []) f ≡ true → same_event e f ≡ true
one_event e f h = elim (cases_Bool (same_event e f)) [ inl g ↦ rw g | inr g ↦ rw g cc ]

arrival_fails : (id other : ProcId) (code : ℕ) (plan : Plan) (arrival : Arrival) (phase : Phase)
    → has_event (arrival_events id plan arrival phase) (Event.Fail other code) ≡ false
arrival_fails id other code plan arrival Phase.Command = go plan.struck arrival
  where
    go : (q : Bool) (a : Arrival)
        → has_event (if q then [] else Rattle.due_model.specs.dialogue_model.specs.Events.arrival_event id a ∷ [])
        (Event.Fail other code) ≡ false
    go true a = refl
    go false Arrival.Refused = refl
    go false Arrival.Guest = refl
    go false Arrival.AtOnce = refl
    go false Arrival.Queued = refl
arrival_fails id other code plan arrival _ = refl

-- The newer of two lists shows it.
record Newer (q : Bool) (xs : List Event) (e : Event) : Type 0 where
  pub on : q ≡ true
  pub has : has_event xs e ≡ true

newer : (q : Bool) (xs ys : List Event) (e : Event) → has_event ys e ≡ false
    → has_event (newest_with (if q then xs else []) ys) e ≡ true → Newer q xs e
newer false xs ys e h f = wrong (sym f ∙ h)
newer true [] ys e h f = wrong (sym f ∙ h)
newer true (x ∷ xs) ys e h f = record {
  on = refl;
  has = or_left (same_event x e) (has_event xs e)
      (either_true (same_event x e) (has_event ys e) (same_event x e) (λ z. z) (λ z. wrong (sym z ∙ h)) f);
}

-- What the events of a reply say of the plan.
record Tells (v : Serving) (phase : Phase) (id other : ProcId) (code : ℕ) : Type 0 where
  pub same : same_id id other ≡ true
  pub failure : is_failure v.plan.cause code phase ≡ true
  pub wrong : is_planned_wrong v.plan phase ≡ true

run_fails : (a : Arrival) (id other : ProcId) (code : ℕ)
    → has_event (arrival_run_events a id) (Event.Fail other code) ≡ false
run_fails Arrival.Refused id other code = refl
run_fails _ id other code = refl

reply_tells : (v : Serving) (phase : Phase) (id other : ProcId) (code : ℕ)
    → has_event (reply_events id v.plan v.arrival phase) (Event.Fail other code) ≡ true → Tells v phase id other code
reply_tells v Phase.Command id other code h = go v.plan.struck refl h
  where
    go : (q : Bool) → v.plan.struck ≡ q → has_event
        (if q then Event.Fail id PARITY_ERROR ∷ [] else arrival_run_events v.arrival id) (Event.Fail other code) ≡ true
        → Tells v Phase.Command id other code
    go true e f =
        let two = and_parts (same_id id other) (PARITY_ERROR == code)
        (one_event (Event.Fail id PARITY_ERROR) (Event.Fail other code) f) in
        record { same = two.0; failure = eq_turned code PARITY_ERROR ∙ two.1; wrong = e }
    go false e f = wrong (sym f ∙ run_fails v.arrival id other code)
reply_tells v Phase.DataOut id other code h = go v.plan.struck refl h
  where
    go : (q : Bool) → v.plan.struck ≡ q
        → has_event (if q then Event.Fail id PARITY_ERROR ∷ [] else Event.Run id ∷ []) (Event.Fail other code) ≡ true
        → Tells v Phase.DataOut id other code
    go true e f =
        let two = and_parts (same_id id other) (PARITY_ERROR == code)
        (one_event (Event.Fail id PARITY_ERROR) (Event.Fail other code) f) in
        record { same = two.0; failure = eq_turned code PARITY_ERROR ∙ two.1; wrong = e }
    go false e f = cc
reply_tells v Phase.MessageOut id other code h = go v.plan.cause refl h
  where
    go : (c : Cause) → v.plan.cause ≡ c → has_event (detected_events c id) (Event.Fail other code) ≡ true
        → Tells v Phase.MessageOut id other code
    go Cause.InData e f =
        let two = and_parts (same_id id other) (INITIATOR_DETECTED_ERROR == code)
        (one_event (Event.Fail id INITIATOR_DETECTED_ERROR) (Event.Fail other code) f) in
        record {
          same = two.0;
          failure = (λ i. is_failure (e i) code Phase.MessageOut) ∙ eq_turned code INITIATOR_DETECTED_ERROR ∙ two.1;
          wrong = λ i. is_complaint v.plan (e i);
        }
    go Cause.Selected e f = cc
    go Cause.InMessage e f = cc
    go Cause.InStatus e f = cc
reply_tells v _ id other code h = cc

turn_spent : (v : Serving) (attention : Bool) (phase : Phase) (code : ℕ) → is_failure v.plan.cause code phase ≡ true
    → is_planned_wrong v.plan phase ≡ true → is_status_next (phase_leaving v attention phase).to ≡ true
    → is_spent v.def v.task ≡ true
turn_spent v attention Phase.Command code f w h = go v.task ((λ i. is_status_next (with_task v.task
    (λ t. if sym w i then recovery v.def t (pointer_restoration Next.Command) (phase_entry Phase.Status)
    else after_arrival v.def t v.arrival)).to) ∙ h)
  where
    go : (o : Option Task) → is_status_next
        (with_task o (λ t. recovery v.def t (pointer_restoration Next.Command) (phase_entry Phase.Status))).to ≡ true
        → is_spent v.def o ≡ true
    go None g = cc
    go (Some t) g =
        spent_by (λ x. is_status_next x) v.def t (pointer_restoration Next.Command) (phase_entry Phase.Status) refl g
turn_spent v attention Phase.DataOut code f w h = go v.task ((λ i. is_status_next
    (with_task v.task (λ t. if sym w i then recovery v.def t (pointer_restoration Next.GoOn) (phase_entry Phase.Status)
    else after_run (policy_of v.def) t)).to) ∙ h)
  where
    go : (o : Option Task) → is_status_next
        (with_task o (λ t. recovery v.def t (pointer_restoration Next.GoOn) (phase_entry Phase.Status))).to ≡ true
        → is_spent v.def o ≡ true
    go None g = cc
    go (Some t) g =
        spent_by (λ x. is_status_next x) v.def t (pointer_restoration Next.GoOn) (phase_entry Phase.Status) refl g
turn_spent v attention Phase.MessageOut code f w h = by_cause v.plan.cause f h
  where
    go : (o : Option Task) → is_status_next
        (with_task o (λ t. recovery v.def t (pointer_restoration Next.GoOn) (phase_entry Phase.Status))).to ≡ true
        → is_spent v.def o ≡ true
    go None g = cc
    go (Some t) g =
        spent_by (λ x. is_status_next x) v.def t (pointer_restoration Next.GoOn) (phase_entry Phase.Status) refl g

    by_cause : (c : Cause) → is_failure c code Phase.MessageOut ≡ true
        → is_status_next (message_out_leaving v c).to ≡ true → is_spent v.def v.task ≡ true
    by_cause Cause.InData e g = go v.task g
    by_cause Cause.Selected e g = cc
    by_cause Cause.InMessage e g = cc
    by_cause Cause.InStatus e g = cc
turn_spent v attention _ code f w h = cc

turn_fails : (v : Serving) (attention : Bool) (phase : Phase) (id other : ProcId) (code : ℕ)
    → has_event (turn_events v attention phase id) (Event.Fail other code) ≡ true → Fails v phase id other code
turn_fails v attention phase id other code h =
    let e : Newer (is_status_next (phase_leaving v attention phase).to && not (has_replied v.task))
    (reply_events id v.plan v.arrival phase) (Event.Fail other code) = newer
    (is_status_next (phase_leaving v attention phase).to && not (has_replied v.task))
    (reply_events id v.plan v.arrival phase) (arrival_events id v.plan v.arrival phase)
    (Event.Fail other code) (arrival_fails id other code v.plan v.arrival phase) h in
    let t : Tells v phase id other code = reply_tells v phase id other code e.has in
    let on = and_parts (is_status_next (phase_leaving v attention phase).to) (not (has_replied v.task)) e.on in
    record {
      same = t.same;
      failure = t.failure;
      wrong = t.wrong;
      spent = turn_spent v attention phase code t.failure t.wrong on.0;
    }

-- ---- the row of a target

-- The target shows it of a process that it serves, in a phase that has begun.
record Shows (k : RunState) (v : Serving) (phase : Phase) (other : ProcId) (code : ℕ) : Type 0 where
  pub begun : k.exchange.begun ≡ true
  pub served : same_process k.served (Some (process other)) ≡ true
  pub some : is_some k.served ≡ true
  pub failure : is_failure v.plan.cause code phase ≡ true
  pub wrong : is_planned_wrong v.plan phase ≡ true
  pub spent : is_spent v.def v.task ≡ true

id_served : (x : Option Item) (id other : ProcId) → id_of x ≡ Some id → same_id id other ≡ true
    → same_process x (Some (process other)) ≡ true
id_served None id other e h = cc
id_served (Some (abort n)) id other e h = cc
id_served (Some (process p)) id other e h = let same : p ≡ id = cc in (λ i. same_id (same i) other) ∙ h

some_id : (x : Option Item) (id : ProcId) → id_of x ≡ Some id → is_some x ≡ true
some_id None id e = cc
some_id (Some x) id e = refl

end_fails : (n : Connection) (plan : Plan) (phase : Phase) (o : Option ProcId) (other : ProcId) (code : ℕ)
    → has_event (connection_end_events n plan phase o) (Event.Fail other code) ≡ false
end_fails n plan phase o other code = go phase
  where
    lost : (x : Option ProcId) → has_event (loss_events x) (Event.Fail other code) ≡ false
    lost None = refl
    lost (Some id) = refl

    opened : (x : Option AbortKind) → has_event (after_opening_events n plan.said x o) (Event.Fail other code) ≡ false
    opened None = lost o
    opened (Some what) = refl

    go : (x : Phase) → has_event (connection_end_events n plan x o) (Event.Fail other code) ≡ false
    go Phase.MessageOut = opened plan.said.aborts
    go Phase.MessageIn = refl
    go _ = lost o

target_fails :
    (k : RunState) (v : Serving) (n : Connection) (stands attention : Bool) (phase : Phase) (other : ProcId) (code : ℕ)
    → has_event (leaving_events v n k.exchange.begun stands attention phase (id_of k.served)) (Event.Fail other code)
    ≡ true → Shows k v phase other code
target_fails k v n stands attention phase other code h = go k.exchange.begun refl stands h
  where
    turn : k.exchange.begun ≡ true → (o : Option ProcId) → id_of k.served ≡ o
        → has_event (turn_events_if v attention phase o) (Event.Fail other code) ≡ true → Shows k v phase other code
    turn b None e x = cc
    turn b (Some id) e x =
        let f : Fails v phase id other code = turn_fails v attention phase id other code x in
        record {
          begun = b;
          served = id_served k.served id other e f.same;
          some = some_id k.served id e;
          failure = f.failure;
          wrong = f.wrong;
          spent = f.spent;
        }

    go : (b : Bool) → k.exchange.begun ≡ b → (q : Bool)
        → has_event (if not b then [] else if q then turn_events_if v attention phase (id_of k.served)
        else connection_end_events n v.plan phase (id_of k.served)) (Event.Fail other code) ≡ true
        → Shows k v phase other code
    go false b q x = cc
    go true b true x = turn b (id_of k.served) refl x
    go true b false x = wrong (sym x ∙ end_fails n v.plan phase (id_of k.served) other code)

completion_fails : (k : RunState) (o : Option Link) (d : RowReading) (e : Event)
    → ((id : ProcId) (status : ℕ) → same_event (Event.End id status) e ≡ false)
    → has_event (initiator_events k o d) e ≡ false
completion_fails k None d e never = refl
completion_fails k (Some l) d e never = go (is_completion l d.change) (carried_if k.story l.item)
  where
    go : (q : Bool) (c : Option CarriedBytes) → has_event (if q then end_events c else []) e ≡ false
    go false c = refl
    go true None = refl
    go true (Some c) = (λ i. never c.id (Rattle.std.specs.Prelude.slice_index c.status.bytes 0) i || false)

-- The row leaves a phase, or the connection ends with it, and its target shows this event.
record Leaves (s : ScenarioValue) (k : RunState) (d : RowReading) (n : Connection) (e : Event) : Type 0 where
  pub left : (if is_some d.next then changes_phase d.change else not d.change.after.rst) ≡ true
  pub has : has_event (target_events s k n (is_some d.next)) e ≡ true

leaves_row : (s : ScenarioValue) (k : RunState) (row : Row) (d : RowReading) (n : Connection) (e : Event)
    → k.story.bus_state.connection ≡ Some n → ((id : ProcId) (status : ℕ) → same_event (Event.End id status) e ≡ false)
    → same_event (Event.Reset row.dev) e ≡ false → has_event (events_of_ends s k row d) e ≡ true → Leaves s k d n e
leaves_row s k row d n e z never calm h = go d.change.after.rst refl (rises d.change.own.rst d.change.next.rst) h
  where
    to_left : (c n r : Bool) → r ≡ false → (c || not n) ≡ true → (if n then c else not r) ≡ true
    to_left true true r f w = refl
    to_left false true r f w = cc
    to_left c false r f w = λ i. not (f i)

    here : d.change.after.rst ≡ false → (q : Bool) → (changes_phase d.change || not (is_some d.next)) ≡ q
        → has_event (if q then target_events s k n (is_some d.next) else initiator_events k k.story.link d) e ≡ true
        → Leaves s k d n e
    here f true w x =
        record { left = to_left (changes_phase d.change) (is_some d.next) d.change.after.rst f w; has = x }
    here f false w x = wrong (sym x ∙ completion_fails k k.story.link d e never)

    go : (q : Bool) → d.change.after.rst ≡ q → (r : Bool)
        → has_event (if q then (if r then Event.Reset row.dev ∷ [] else [])
        else events_of_ends_in s k k.story.bus_state.connection d) e ≡ true
        → Leaves s k d n e
    go true f true x = wrong (sym (one_event (Event.Reset row.dev) e x) ∙ calm)
    go true f false x = cc
    go false f r x = here f (changes_phase d.change || not (is_some d.next)) refl
        ((λ i. has_event (events_of_ends_in s k (sym z i) d) e) ∙ x)

connected : (s : ScenarioValue) (k : RunState) (row : Row) (d : RowReading) (e : Event)
    → same_event (Event.Reset row.dev) e ≡ false → has_event (events_of_ends s k row d) e ≡ true
    → (n : Connection) × (k.story.bus_state.connection ≡ Some n)
connected s k row d e never h =
    go d.change.after.rst (rises d.change.own.rst d.change.next.rst) k.story.bus_state.connection refl h
  where
    go : (q r : Bool) (o : Option Connection) → k.story.bus_state.connection ≡ o
        → has_event (if q then (if r then Event.Reset row.dev ∷ [] else []) else events_of_ends_in s k o d) e ≡ true
        → (n : Connection) × (k.story.bus_state.connection ≡ Some n)
    go true true o z x = wrong (sym (one_event (Event.Reset row.dev) e x) ∙ never)
    go true false o z x = cc
    go false r None z x = cc
    go false r (Some n) z x = (n, z)

calm : (s : ScenarioValue) (k : RunState) (row : Row) (d : RowReading) (e : Event)
    → same_event (Event.Reset row.dev) e ≡ false → has_event (events_of_ends s k row d) e ≡ true
    → d.change.after.rst ≡ false
calm s k row d e never h = go d.change.after.rst (rises d.change.own.rst d.change.next.rst) h
  where
    go : (q r : Bool) → has_event (if q then (if r then Event.Reset row.dev ∷ [] else [])
        else events_of_ends_in s k k.story.bus_state.connection d) e ≡ true
        → q ≡ false
    go true true x = wrong (sym (one_event (Event.Reset row.dev) e x) ∙ never)
    go true false x = cc
    go false r x = refl

-- ---- past the limit

past : (s : ScenarioValue) (rows : List Row) (row : Row) (n : Connection) (id : ProcId) → leaves_wrong_phase
    (is_struck_phase s rows) (run_state s rows) (row_reading (run_state s rows).story.bus_state row) id ≡ true
    → same_process (run_state s rows).served (Some (process id)) ≡ true
    → is_spent (target_def_of s n.target) (task_of s (run_state s rows)) ≡ true → gives_up s rows row n id ≡ true
past s rows row n id leaves same spent = and_from _ _ leaves (go (process_served s k) refl spent)
  where
    k : RunState
    k = run_state s rows

    limit : ℕ
    limit = recovery_limit (target_def_of s n.target)

    numbers : (m w : ℕ) (hold : Bool) → m ≤ w → (not hold && not (nat_lt m limit)) ≡ true
        → (not hold && not (nat_lt m limit) && nat_lt limit (w + one_if true)) ≡ true
    numbers m w hold h e =
        and_from (not hold && not (nat_lt m limit)) (nat_lt limit (w + one_if true)) e (more m w hold h e)
      where
        more : (m w : ℕ) (hold : Bool) → m ≤ w → (not hold && not (nat_lt m limit)) ≡ true
            → nat_lt limit (w + one_if true) ≡ true
        more m w true h e = cc
        more m w false h e = grind (arith, nat_tests)

    own : (x : Option Item) (c : Process) → process_item s x ≡ Some c → same_process x (Some (process id)) ≡ true
        → c.id ≡ id
    own None c w q = cc
    own (Some (abort m)) c w q = cc
    own (Some (process m)) c w q = id_is s m c w ∙ same_id_is m id q

    go : (o : Option Process) → process_served s k ≡ o → is_spent (target_def_of s n.target) (task_if s k o) ≡ true
        → is_past_limit (target_def_of s n.target) (task_if s k (process_served s k)) (wrong_phases s (row ∷ rows) id)
        ≡ true
    go None w e = cc
    go (Some c) w e =
        (λ i. is_past_limit (target_def_of s n.target) (task_if s k (w i)) (wrong_phases s rows id + one_if (leaves i)))
        ∙ numbers (progress_in k.progress c.id).recoveries (wrong_phases s rows id)
        (Rattle.std.specs.List.list_any (λ (q : Rattle.due_model.specs.array_model.specs.Units.Nexus).
        Rattle.due_model.specs.array_model.specs.Units.same_nexus q
        (Rattle.due_model.specs.array_model.specs.Units.nexus_of c))
        (Rattle.due_model.specs.RunState.array_of s k).holds)
        (subst (λ (x : ProcId). (progress_in k.progress x).recoveries ≤ wrong_phases s rows id)
        (sym (own k.served c w same)) (counted s rows id)) e

leaves_wrong : (s : ScenarioValue) (rows : List Row) (row : Row) (n : Connection) (id : ProcId)
    → (run_state s rows).story.bus_state.connection ≡ Some n → (run_state s rows).exchange.begun ≡ true
    → (if is_some (row_reading (run_state s rows).story.bus_state row).next
    then changes_phase (row_reading (run_state s rows).story.bus_state row).change
    else not (row_reading (run_state s rows).story.bus_state row).change.after.rst) ≡ true
    → same_process (run_state s rows).served (Some (process id)) ≡ true → is_some (run_state s rows).served ≡ true
    → is_planned_wrong (run_state s rows).exchange.plan (phase_of (bus_of (run_state s rows))) ≡ true
    → leaves_wrong_phase (is_struck_phase s rows) (run_state s rows)
    (row_reading (run_state s rows).story.bus_state row) id ≡ true
leaves_wrong s rows row n id z b left same some wrong =
    let k : RunState = run_state s rows in
    let d : RowReading = row_reading k.story.bus_state row in
    all_three (is_left k d) (serves k id) (is_wrong_phase (is_struck_phase s rows) k.exchange.plan
    (phase_of (bus_of k))) (all_three (is_some k.story.bus_state.connection) k.exchange.begun
    (if is_some d.next then changes_phase d.change else not d.change.after.rst) (λ i. is_some (z i)) b left)
    (and_from _ _ same some) (planned_wrong s rows (phase_of (bus_of k)) wrong)

pub failure_is : (s : ScenarioValue) (rows : List Row) (row : Row) (n : Connection) (id : ProcId) (code : ℕ)
    → (run_state s rows).story.bus_state.connection ≡ Some n
    → is_true_telling s (run_state s rows) row (row_reading (run_state s rows).story.bus_state row) ≡ true
    → has_event (row_events_by s (run_state s rows).story (row_reading (run_state s rows).story.bus_state row) row)
    (Event.Fail id code) ≡ true
    → (is_failure (run_state s rows).exchange.plan.cause code (phase_of (bus_of (run_state s rows)))
    && gives_up s rows row n id) ≡ true
failure_is s rows row n id code z told has =
    let k : RunState = run_state s rows in
    let d : RowReading = row_reading k.story.bus_state row in
    let l : Leaves s k d n (Event.Fail id code) = leaves_row s k row d n (Event.Fail id code) z
    (λ p status. refl) refl (fails_in (events_of_ends s k row d) (row_events_by s k.story d row) id code told has) in
    let w : Shows k (serving_of s k n.target) (phase_of (bus_of k)) id code = target_fails k
    (serving_of s k n.target) n (is_some d.next) (bus_of k).atn (phase_of (bus_of k)) id code l.has in
    and_from _ _ w.failure
    (past s rows row n id (leaves_wrong s rows row n id z w.begun l.left w.served w.some w.wrong) w.served w.spent)

-- ---- a process is lost

record Loses (v : Serving) (phase : Phase) : Type 0 where
  pub loss : is_loss v.plan.cause phase ≡ true
  pub wrong : is_planned_wrong v.plan phase ≡ true
  pub spent : is_spent v.def v.task ≡ true

recovered : (def : Option TargetDef) (t : Task) (a b : Leaving) → is_none a.to ≡ false → is_none b.to ≡ false
    → is_none (recovery def t a b).to ≡ false
recovered def t a b h e = go t.in_hold (nat_lt t.recoveries (recovery_limit def))
  where
    go : (q r : Bool) → is_none (if q then a else if r then record a { counts = true } else b).to ≡ false
    go true r = h
    go false true = h
    go false false = e

after_run_goes : (policy : Policy) (t : Task) → is_none (after_run policy t).to ≡ false
after_run_goes policy t = elim (cases_Bool (nat_lt (t.runs + 1) (runs_in_all policy t))) [ inl e ↦ rw e | inr e ↦ rw e ]

arrival_goes : (def : Option TargetDef) (t : Task) (a : Arrival) → is_none (after_arrival def t a).to ≡ false
arrival_goes def t Arrival.Refused = refl
arrival_goes def t _ = refl

command_goes : (v : Serving) (t : Task) → v.task ≡ Some t → is_none (command_leaving v v.arrival).to ≡ false
command_goes v t e = (λ i. is_none (with_task (e i)
    (λ x. if v.plan.struck then recovery v.def x (pointer_restoration Next.Command) (phase_entry Phase.Status)
    else after_arrival v.def x v.arrival)).to) ∙ go v.plan.struck
  where
    go : (q : Bool) → is_none (if q then recovery v.def t (pointer_restoration Next.Command) (phase_entry Phase.Status)
        else after_arrival v.def t v.arrival).to ≡ false
    go true = recovered v.def t (pointer_restoration Next.Command) (phase_entry Phase.Status) refl refl
    go false = arrival_goes v.def t v.arrival

data_out_goes : (v : Serving) (t : Task) → v.task ≡ Some t → is_none (data_out_leaving v).to ≡ false
data_out_goes v t e = (λ i. is_none (with_task (e i)
    (λ x. if v.plan.struck then recovery v.def x (pointer_restoration Next.GoOn) (phase_entry Phase.Status)
    else after_run (policy_of v.def) x)).to) ∙ go v.plan.struck
  where
    go : (q : Bool) → is_none (if q then recovery v.def t (pointer_restoration Next.GoOn) (phase_entry Phase.Status)
        else after_run (policy_of v.def) t).to ≡ false
    go true = recovered v.def t (pointer_restoration Next.GoOn) (phase_entry Phase.Status) refl refl
    go false = after_run_goes (policy_of v.def) t

data_in_goes : (v : Serving) (t : Task) → v.task ≡ Some t → is_none (data_in_leaving v).to ≡ false
data_in_goes v t e =
    (λ i. is_none (with_task (e i) (λ x. after_run (policy_of v.def) x)).to) ∙ after_run_goes (policy_of v.def) t

request_goes : (m : Option MsgIn) → is_none (request_or_command m).to ≡ false
request_goes None = refl
request_goes (Some m) = refl

offer_goes : (def : Option TargetDef) (negotiates : Bool) (o : Option Agreement)
    → is_none (after_offer def negotiates o).to ≡ false
offer_goes def negotiates (Some x) = refl
offer_goes def true None = request_goes (request_by def)
offer_goes def false None = refl

opening_goes : (v : Serving) → v.plan.said.aborts ≡ None → is_none (message_out_leaving v Cause.Selected).to ≡ false
opening_goes v e =
    (λ i. is_none (if is_some (e i) then bus_free else after_offer v.def v.plan.negotiates v.plan.said.offer).to)
    ∙ offer_goes v.def v.plan.negotiates v.plan.said.offer

message_out_loses : (v : Serving) (t : Task) → v.task ≡ Some t → v.plan.said.aborts ≡ None
    → is_none (message_out_leaving v v.plan.cause).to ≡ true → Loses v Phase.MessageOut
message_out_loses v t e a h = go v.plan.cause refl h
  where
    spent : (b : Leaving) → is_none b.to ≡ false
        → is_none (with_task v.task (λ x. recovery v.def x b bus_free)).to ≡ true → is_spent v.def v.task ≡ true
    spent b f g = (λ i. is_spent v.def (e i)) ∙ spent_by (λ x. is_none x) v.def t b bus_free f
        ((λ i. is_none (with_task (sym e i) (λ x. recovery v.def x b bus_free)).to) ∙ g)

    restored :
        is_none (with_task v.task (λ x. recovery v.def x (pointer_restoration Next.GoOn) (phase_entry Phase.Status))).to
        ≡ false
    restored = (λ i. is_none
        (with_task (e i) (λ x. recovery v.def x (pointer_restoration Next.GoOn) (phase_entry Phase.Status))).to)
        ∙ recovered v.def t (pointer_restoration Next.GoOn) (phase_entry Phase.Status) refl refl

    named : v.plan.cause ≡ Cause.InMessage → v.plan.said.offer ≡ None → (q : Bool)
        → is_none (if q then message_repetition v.plan
        else with_task v.task (λ x. recovery v.def x (message_repetition v.plan) bus_free)).to ≡ true
        → Loses v Phase.MessageOut
    named c o true g = cc
    named c o false g = record {
      loss = λ i. is_loss (c i) Phase.MessageOut;
      wrong = (λ i. is_complaint v.plan (c i)) ∙ (λ i. is_none (o i));
      spent = spent (message_repetition v.plan) refl g;
    }

    refused : v.plan.cause ≡ Cause.InMessage → (o : Option Agreement) → v.plan.said.offer ≡ o
        → is_none (if is_some o then phase_entry Phase.Command
        else if is_naming v.plan.messages.first then message_repetition v.plan
        else with_task v.task (λ x. recovery v.def x (message_repetition v.plan) bus_free)).to ≡ true
        → Loses v Phase.MessageOut
    refused c None o g = named c o (is_naming v.plan.messages.first) g
    refused c (Some x) o g = cc

    go : (c : Cause) → v.plan.cause ≡ c → is_none (message_out_leaving v c).to ≡ true → Loses v Phase.MessageOut
    go Cause.Selected c g = wrong (sym g ∙ opening_goes v a)
    go Cause.InMessage c g = refused c v.plan.said.offer refl g
    go Cause.InData c g = wrong (sym g ∙ restored)
    go Cause.InStatus c g = record {
      loss = λ i. is_loss (c i) Phase.MessageOut;
      wrong = λ i. is_complaint v.plan (c i);
      spent = spent (pointer_restoration Next.Status) refl g;
    }

end_loses :
    (v : Serving) (n : Connection) (attention : Bool) (phase : Phase) (o : Option ProcId) (other : ProcId) (t : Task)
    → v.task ≡ Some t → is_none (phase_leaving v attention phase).to ≡ true
    → has_event (connection_end_events n v.plan phase o) (Event.Lost other) ≡ true → Loses v phase
end_loses v n attention Phase.MessageOut o other t e h f = go v.plan.said.aborts refl f
  where
    go : (a : Option AbortKind) → v.plan.said.aborts ≡ a
        → has_event (after_opening_events n v.plan.said a o) (Event.Lost other) ≡ true → Loses v Phase.MessageOut
    go None a x = message_out_loses v t e a h
    go (Some what) a x = cc
end_loses v n attention Phase.MessageIn o other t e h f = cc
end_loses v n attention Phase.Command o other t e h f = wrong (sym h ∙ command_goes v t e)
end_loses v n attention Phase.DataOut o other t e h f = wrong (sym h ∙ data_out_goes v t e)
end_loses v n true Phase.DataIn o other t e h f = cc
end_loses v n false Phase.DataIn o other t e h f = wrong (sym h ∙ data_in_goes v t e)
end_loses v n true Phase.Status o other t e h f = cc
end_loses v n false Phase.Status o other t e h f = cc

-- ---- no turn to another phase shows it

none_newer : (q : Bool) (xs ys : List Event) (e : Event) → has_event xs e ≡ false → has_event ys e ≡ false
    → has_event (newest_with (if q then xs else []) ys) e ≡ false
none_newer false xs ys e h f = f
none_newer true [] ys e h f = f
none_newer true (x ∷ xs) ys e h f = (λ i. or_none_first (same_event x e) (has_event xs e) h i || f i)

arrival_loses : (id other : ProcId) (plan : Plan) (arrival : Arrival) (phase : Phase)
    → has_event (arrival_events id plan arrival phase) (Event.Lost other) ≡ false
arrival_loses id other plan arrival Phase.Command = go plan.struck arrival
  where
    go : (q : Bool) (a : Arrival)
        → has_event (if q then [] else Rattle.due_model.specs.dialogue_model.specs.Events.arrival_event id a ∷ [])
        (Event.Lost other) ≡ false
    go true a = refl
    go false Arrival.Refused = refl
    go false Arrival.Guest = refl
    go false Arrival.AtOnce = refl
    go false Arrival.Queued = refl
arrival_loses id other plan arrival _ = refl

reply_loses : (v : Serving) (phase : Phase) (id other : ProcId)
    → has_event (reply_events id v.plan v.arrival phase) (Event.Lost other) ≡ false
reply_loses v Phase.Command id other = go v.plan.struck v.arrival
  where
    go : (q : Bool) (a : Arrival)
        → has_event (if q then Event.Fail id PARITY_ERROR ∷ [] else arrival_run_events a id) (Event.Lost other) ≡ false
    go true a = refl
    go false Arrival.Refused = refl
    go false Arrival.Guest = refl
    go false Arrival.AtOnce = refl
    go false Arrival.Queued = refl
reply_loses v Phase.DataOut id other = go v.plan.struck
  where
    go : (q : Bool)
        → has_event (if q then Event.Fail id PARITY_ERROR ∷ [] else Event.Run id ∷ []) (Event.Lost other) ≡ false
    go true = refl
    go false = refl
reply_loses v Phase.MessageOut id other = go v.plan.cause
  where
    go : (c : Cause) → has_event (detected_events c id) (Event.Lost other) ≡ false
    go Cause.InData = refl
    go Cause.Selected = refl
    go Cause.InMessage = refl
    go Cause.InStatus = refl
reply_loses v _ id other = refl

-- ---- the row of a target

record Drops (k : RunState) (v : Serving) (phase : Phase) (other : ProcId) : Type 0 where
  pub begun : k.exchange.begun ≡ true
  pub served : same_process k.served (Some (process other)) ≡ true
  pub some : is_some k.served ≡ true
  pub loses : Loses v phase

lost_id : (o : Option ProcId) (other : ProcId) → has_event (loss_events o) (Event.Lost other) ≡ true
    → (id : ProcId) × (o ≡ Some id) × (same_id id other ≡ true)
lost_id None other h = cc
lost_id (Some id) other h = (id, refl, one_event (Event.Lost id) (Event.Lost other) h)

end_id : (n : Connection) (plan : Plan) (phase : Phase) (o : Option ProcId) (other : ProcId)
    → has_event (connection_end_events n plan phase o) (Event.Lost other) ≡ true
    → (id : ProcId) × (o ≡ Some id) × (same_id id other ≡ true)
end_id n plan Phase.MessageOut o other h = go plan.said.aborts h
  where
    go : (a : Option AbortKind) → has_event (after_opening_events n plan.said a o) (Event.Lost other) ≡ true
        → (id : ProcId) × (o ≡ Some id) × (same_id id other ≡ true)
    go None x = lost_id o other x
    go (Some what) x = cc
end_id n plan Phase.MessageIn o other h = cc
end_id n plan _ o other h = lost_id o other h

served_task : (s : ScenarioValue) (k : RunState) (c : Process) → same_process k.served (Some (process c.id)) ≡ true
    → is_some k.served ≡ true → process_of s c.id ≡ Some c → task_of s k ≡ task_if s k (Some c)
served_task s k c same some e = λ i. task_if s k (go k.served same some i)
  where
    go : (x : Option Item) → same_process x (Some (process c.id)) ≡ true → is_some x ≡ true → process_item s x ≡ Some c
    go None a b = cc
    go (Some (abort m)) a b = cc
    go (Some (process m)) a b = (λ i. process_of s (same_id_is m c.id a i)) ∙ e

target_loses : (s : ScenarioValue) (k : RunState) (n : Connection) (stands : Bool) (c : Process)
    → process_of s c.id ≡ Some c → (stands ≡ false → is_none (leaving s k n.target).to ≡ true)
    → has_event (target_events s k n stands) (Event.Lost c.id) ≡ true
    → Drops k (serving_of s k n.target) (phase_of (bus_of k)) c.id
target_loses s k n stands c own free h = go k.exchange.begun refl stands refl h
  where
    v : Serving
    v = serving_of s k n.target

    phase : Phase
    phase = phase_of (bus_of k)

    turned : (o : Option ProcId) → has_event (turn_events_if v (bus_of k).atn phase o) (Event.Lost c.id) ≡ false
    turned None = refl
    turned (Some id) = none_newer (is_status_next (phase_leaving v (bus_of k).atn phase).to && not (has_replied v.task))
        (reply_events id v.plan v.arrival phase) (arrival_events id v.plan v.arrival phase) (Event.Lost c.id)
        (reply_loses v phase id c.id) (arrival_loses id c.id v.plan v.arrival phase)

    ends : k.exchange.begun ≡ true → stands ≡ false
        → has_event (connection_end_events n v.plan phase (id_of k.served)) (Event.Lost c.id) ≡ true
        → Drops k v phase c.id
    ends b q x =
        let who = end_id n v.plan phase (id_of k.served) c.id x in
        let same : same_process k.served (Some (process c.id)) ≡ true = id_served k.served who.0 c.id who.1 who.2 in
        let some : is_some k.served ≡ true = some_id k.served who.0 who.1 in
        let out : is_none (phase_leaving v (bus_of k).atn phase).to ≡ true =
        (λ i. is_none (leaving_by v (sym b i) (bus_of k)).to) ∙ free q in
        record {
          begun = b;
          served = same;
          some = some;
          loses = end_loses v n (bus_of k).atn phase (id_of k.served) c.id _ (served_task s k c same some own) out x;
        }

    go : (b : Bool) → k.exchange.begun ≡ b → (q : Bool) → stands ≡ q
        → has_event (if not b then [] else if q then turn_events_if v (bus_of k).atn phase (id_of k.served)
        else connection_end_events n v.plan phase (id_of k.served)) (Event.Lost c.id) ≡ true
        → Drops k v phase c.id
    go false b q y x = cc
    go true b true y x = wrong (sym x ∙ turned (id_of k.served))
    go true b false y x = ends b y x

pub loss_by : (s : ScenarioValue) (rows : List Row) (row : Row) (n : Connection) (c : Process)
    → (run_state s rows).story.bus_state.connection ≡ Some n
    → is_true_telling s (run_state s rows) row (row_reading (run_state s rows).story.bus_state row) ≡ true
    → process_of s c.id ≡ Some c → (is_some (row_reading (run_state s rows).story.bus_state row).next ≡ false
    → is_none (leaving s (run_state s rows) n.target).to ≡ true)
    → has_event (row_events_by s (run_state s rows).story (row_reading (run_state s rows).story.bus_state row) row)
    (Event.Lost c.id) ≡ true
    → (is_loss (run_state s rows).exchange.plan.cause (phase_of (bus_of (run_state s rows)))
    && gives_up s rows row n c.id) ≡ true
loss_by s rows row n c z told own free has =
    let k : RunState = run_state s rows in
    let d : RowReading = row_reading k.story.bus_state row in
    let l : Leaves s k d n (Event.Lost c.id) = leaves_row s k row d n (Event.Lost c.id) z
    (λ q status. refl) refl (lost_in (events_of_ends s k row d) (row_events_by s k.story d row) c.id told has) in
    let w : Drops k (serving_of s k n.target) (phase_of (bus_of k)) c.id = target_loses s k n
    (is_some d.next) c own free l.has in
    and_from _ _ w.loses.loss (past s rows row n c.id
    (leaves_wrong s rows row n c.id z w.begun l.left w.served w.some w.loses.wrong) w.served w.loses.spent)

pub loss_is : (s : ScenarioValue) (rows : List Row) (row : Row) (n : Connection) (c : Process)
    → (run_state s rows).story.bus_state.connection ≡ Some n
    → is_true_telling s (run_state s rows) row (row_reading (run_state s rows).story.bus_state row) ≡ true
    → process_of s c.id ≡ Some c → (leaving s (run_state s rows) n.target).to ≡ None
    → has_event (row_events_by s (run_state s rows).story (row_reading (run_state s rows).story.bus_state row) row)
    (Event.Lost c.id) ≡ true
    → (is_loss (run_state s rows).exchange.plan.cause (phase_of (bus_of (run_state s rows)))
    && gives_up s rows row n c.id) ≡ true
loss_is s rows row n c z told own free has = loss_by s rows row n c z told own (λ x. λ i. is_none (free i)) has

-- ---- such a row is of a connection

pub fails_connected : (s : ScenarioValue) (k : RunState) (row : Row) (d : RowReading) (id : ProcId) (code : ℕ)
    → is_true_telling s k row d ≡ true → has_event (row_events_by s k.story d row) (Event.Fail id code) ≡ true
    → (n : Connection) × (k.story.bus_state.connection ≡ Some n)
fails_connected s k row d id code told has = connected s k row d (Event.Fail id code) refl
    (fails_in (events_of_ends s k row d) (row_events_by s k.story d row) id code told has)

pub lost_connected : (s : ScenarioValue) (k : RunState) (row : Row) (d : RowReading) (id : ProcId)
    → is_true_telling s k row d ≡ true → has_event (row_events_by s k.story d row) (Event.Lost id) ≡ true
    → (n : Connection) × (k.story.bus_state.connection ≡ Some n)
lost_connected s k row d id told has = connected s k row d (Event.Lost id) refl
    (lost_in (events_of_ends s k row d) (row_events_by s k.story d row) id told has)

-- Under RST none is shown.
pub lost_calm : (s : ScenarioValue) (k : RunState) (row : Row) (d : RowReading) (id : ProcId)
    → is_true_telling s k row d ≡ true → has_event (row_events_by s k.story d row) (Event.Lost id) ≡ true
    → d.change.after.rst ≡ false
lost_calm s k row d id told has =
    calm s k row d (Event.Lost id) refl (lost_in (events_of_ends s k row d) (row_events_by s k.story d row) id told has)
