-- As the target leaves a phase in which parity was wrong it recovers, or gives up where the limit is spent.
use Rattle.dialogue_laws.proofs
use proofs.Names.{inl, inr, ℕ, ◌≡◌, ◌⊎◌, ◌+◌, Bool, true, false, not, ◌&&◌, ◌∙◌, List, [], ◌∷◌, Option, Some, None}
use proofs.Names.{refl, sym, ap, subst, arith, and_parts, eqb-true, if◌then◌else◌, ◌==◌, is_some, nat_lt, wrong, wrong'}
use proofs.Names.{Event, ProcId, LineSet, bus, Row, Connection, INITIATOR_DETECTED_ERROR, PARITY_ERROR, MsgIn}
use proofs.Names.{ScenarioValue, Obeys, TargetDef, same_id_is, id_self, reply_in, Process, process_of, same_id, process}
use proofs.Names.{arrival_events, after_opening_events, connection_end_events, detected_events, has_replied}
use proofs.Names.{is_status_next, newest_with, reply_events, turn_events, turn_events_if, one_message, Serving}
use proofs.Names.{bus_free, command_leaving, data_out_leaving, message_in_entry, message_out_leaving}
use proofs.Names.{message_repetition, phase_entry, phase_leaving, phase_of, pointer_restoration, recovery}
use proofs.Names.{recovery_limit, with_task, one_if, is_naming, Cause, Leaving, Messages, Next, Phase, Plan, Task}
use proofs.Names.{run_state_plain, ProcessProgress, progress_in, progress_with, IsPrompt, IsPlain, RunState, bus_of}
use proofs.Names.{or_start, process_item, process_served, events_of_row, progress_by_leaving, run_state, leaving}
use proofs.Names.{serving_of, task_if, task_of, id_of, same_event, same_events, obeys_fits, units_are, is_out_phase}
use proofs.Names.{is_struck_phase, PlacedAsked, PlacedIf, PlacedIn, IsLeaving, IsServed, of_abort, of_process}
use proofs.Names.{out_unstruck, served_item, none_heard, IsHeard, is_heard, task_here, FailsWith, HasTakenAll, IsAsked}
use proofs.Names.{IsLost, LeavesPhase, Recovers, RecoversUnless, Repeats, is_spent, present_phase}
use proofs.{Leavings.Rows.{PhaseEnd, phase_end}, Struck.Plans.{struck_known}}

-- ---- events that are the same

same_none : (shown : List Event) → same_events [] shown ≡ true → shown ≡ []
same_none [] e = refl
same_none (x ∷ shown) e = wrong' e

same_fail : (id : ProcId) (code : ℕ) (f : Event) → same_event (Event.Fail id code) f ≡ true → f ≡ Event.Fail id code
same_fail id code (Event.Fail b y) e =
    let parts = and_parts (same_id id b) (code == y) e in
    λ i. Event.Fail (sym (same_id_is id b parts.0) i) (sym (eqb-true code y parts.1) i)
same_fail id code _ e = wrong' e

same_lost : (id : ProcId) (f : Event) → same_event (Event.Lost id) f ≡ true → f ≡ Event.Lost id
same_lost id (Event.Lost b) e = λ i. Event.Lost (sym (same_id_is id b e) i)
same_lost id _ e = wrong' e

same_one : (x : Event) (shown : List Event)
    → ((f : Event) → same_event x f ≡ true → f ≡ x) → same_events (x ∷ []) shown ≡ true → shown ≡ x ∷ []
same_one x [] h e = wrong' e
same_one x (f ∷ []) h e = ap (λ (y : Event). y ∷ []) (h f (and_parts (same_event x f) true e).0)
same_one x (f ∷ (g ∷ shown)) h e = wrong' (and_parts (same_event x f) false e).1

abbrev names_process : Event → Bool
names_process (Event.End id status) = false
names_process (Event.Aborted h t u x) = false
names_process (Event.Reset b) = false
names_process _ = true

-- Of any list of events that name processes alone.
same_process_event : (x f : Event) → names_process x ≡ true → same_event x f ≡ true → f ≡ x
same_process_event (Event.Fail id code) f n e = same_fail id code f e
same_process_event (Event.Lost id) f n e = same_lost id f e
same_process_event (Event.Accept id) (Event.Accept b) n e = λ i. Event.Accept (sym (same_id_is id b e) i)
same_process_event (Event.Refuse id) (Event.Refuse b) n e = λ i. Event.Refuse (sym (same_id_is id b e) i)
same_process_event (Event.Run id) (Event.Run b) n e = λ i. Event.Run (sym (same_id_is id b e) i)
same_process_event (Event.End id status) f n e = wrong' n
same_process_event (Event.Aborted h t u x) f n e = wrong' n
same_process_event (Event.Reset b) f n e = wrong' n
same_process_event _ _ n e = wrong' e

abbrev pub all_name : List Event → Bool
all_name [] = true
all_name (x ∷ shown) = names_process x && all_name shown

same_all : (x shown : List Event) → all_name x ≡ true → same_events x shown ≡ true → shown ≡ x
same_all [] shown n e = same_none shown e
same_all (x ∷ xs) [] n e = wrong' e
same_all (x ∷ xs) (f ∷ shown) n e =
    let name = and_parts (names_process x) (all_name xs) n in
    let same = and_parts (same_event x f) (same_events xs shown) e in
    λ i. same_process_event x f name.0 same.0 i ∷ same_all xs shown name.1 same.1 i

pub same_events_are : (x shown : List Event) → all_name x ≡ true → same_events x shown ≡ true → shown ≡ x
same_events_are x shown n e = same_all x shown n e

-- ---- what the target decides

recovers_so : (def : Option TargetDef) (t : Task) (m : Messages) (next : Next) (over : Leaving)
    → (not t.in_hold && not (nat_lt t.recoveries (recovery_limit def))) ≡ false
    → recovery def t (message_in_entry m next) over ≡ record (message_in_entry m next) { counts = not t.in_hold }
recovers_so def t m next over e = go t.in_hold (nat_lt t.recoveries (recovery_limit def)) e
  where
    go : (q r : Bool) → (not q && not r) ≡ false → (if q then message_in_entry m next
        else if r then record (message_in_entry m next) { counts = true } else over)
        ≡ record (message_in_entry m next) { counts = not q }
    go true r f = refl
    go false true f = refl
    go false false f = wrong f

gives_up_so : (def : Option TargetDef) (t : Task) (again over : Leaving)
    → (not t.in_hold && not (nat_lt t.recoveries (recovery_limit def))) ≡ true → recovery def t again over ≡ over
gives_up_so def t again over e = go t.in_hold (nat_lt t.recoveries (recovery_limit def)) e
  where
    go : (q r : Bool) → (not q && not r) ≡ true
        → (if q then again else if r then record again { counts = true } else over) ≡ over
    go true r f = wrong' f
    go false true f = wrong' f
    go false false f = refl

counted_so : (all : List ProcessProgress) (id : ProcId) (c : Bool)
    → (progress_in (progress_with all id false c) id).recoveries ≡ (progress_in all id).recoveries + one_if c
counted_so all id true = ap (λ (q : Bool). (if q then more else progress_in all id).recoveries) (id_self id)
  where
    more : ProcessProgress
    more = record { id = id; runs = (progress_in all id).runs + 0; recoveries = (progress_in all id).recoveries + 1 }
counted_so all id false = omega arith

-- ---- a row that leaves a phase, of a process that is served

pub record Left (s : ScenarioValue) (p : List Row) (row : Row) (n : Connection) (q : Process) : Type 0 where
  pub end : PhaseEnd s p row n
  pub leaving_row : IsLeaving s p row n
  pub served : process_served s (run_state s p) ≡ Some q

pub left_of : (s : ScenarioValue) (p : List Row) (row : Row) (n : Connection) (q : Process) → Obeys s
    → IsPrompt s (row ∷ p) → LeavesPhase s p row n q → Left s p row n q
left_of s p row n q o prompt w =
    record { end = phase_end s p row n o prompt w.leaving_row; leaving_row = w.leaving_row; served = w.served }

pub id_served : (s : ScenarioValue) (p : List Row) (row : Row) (n : Connection) (q : Process) → Left s p row n q
    → (run_state s p).served ≡ Some (process q.id)
id_served s p row n q h = served_item s (run_state s p).served q h.served

-- The target shows what it does as the row turns to another phase, or ends the connection.
pub shows_turn : (s : ScenarioValue) (p : List Row) (row : Row) (n : Connection) (q : Process)
    → Left s p row n q → (next : Phase) → present_phase (row ∷ p) ≡ Some next → (shown : List Event)
    → turn_events (serving_of s (run_state s p) n.target)
    (bus_of (run_state s p)).atn (phase_of (bus_of (run_state s p))) q.id ≡ shown
    → same_events shown (events_of_row s p row) ≡ true
shows_turn s p row n q h next e shown is =
    let k : RunState = run_state s p in
    let v : Serving = serving_of s k n.target in
    ap (λ (x : List Event). same_events x (events_of_row s p row)) (sym ((λ i. if not (h.leaving_row.begun i) then []
    else if is_some (e i) then turn_events_if v (bus_of k).atn (phase_of (bus_of k)) (id_of (id_served s p row n q h i))
    else connection_end_events n v.plan (phase_of (bus_of k)) (id_of (id_served s p row n q h i))) ∙ is))
    ∙ h.end.told

shows_end : (s : ScenarioValue) (p : List Row) (row : Row) (n : Connection) (q : Process)
    → Left s p row n q → present_phase (row ∷ p) ≡ None → (shown : List Event)
    → connection_end_events n (run_state s p).exchange.plan (phase_of (bus_of (run_state s p))) (Some q.id) ≡ shown
    → same_events shown (events_of_row s p row) ≡ true
shows_end s p row n q h e shown is =
    let k : RunState = run_state s p in
    let v : Serving = serving_of s k n.target in
    ap (λ (x : List Event). same_events x (events_of_row s p row)) (sym ((λ i. if not (h.leaving_row.begun i) then []
    else if is_some (e i) then turn_events_if v (bus_of k).atn (phase_of (bus_of k)) (id_of (id_served s p row n q h i))
    else connection_end_events n v.plan (phase_of (bus_of k)) (id_of (id_served s p row n q h i))) ∙ is))
    ∙ h.end.told

pub turn_is :
    (v : Serving) (atn : Bool) (phase : Phase) (id : ProcId) (l : Leaving) (replied : Bool) (arrived : List Event)
    → phase_leaving v atn phase ≡ l → has_replied v.task ≡ replied → arrival_events id v.plan v.arrival phase ≡ arrived
    → turn_events v atn phase id
    ≡ newest_with (if is_status_next l.to && not replied then reply_events id v.plan v.arrival phase else []) arrived
turn_is v atn phase id l replied arrived e f g =
    λ i. newest_with (if is_status_next (e i).to && not (f i) then reply_events id v.plan v.arrival phase else []) (g i)

-- It recovers.
repeats_row : (s : ScenarioValue) (p : List Row) (row : Row) (n : Connection) (q : Process) (m : Messages) (next : Next)
    (c : Bool) → Left s p row n q → leaving s (run_state s p) n.target ≡ record (message_in_entry m next) { counts = c }
    → arrival_events q.id (serving_of s (run_state s p) n.target).plan
    (serving_of s (run_state s p) n.target).arrival (phase_of (bus_of (run_state s p))) ≡ []
    → Repeats s p row q m next c
repeats_row s p row n q m next c h e none =
    let k : RunState = run_state s p in
    let v : Serving = serving_of s k n.target in
    let phase : present_phase (row ∷ p) ≡ Some Phase.MessageIn = sym h.end.whereto ∙ ap (λ (l : Leaving). l.to) e in
    let plan = h.end.plan Phase.MessageIn phase refl in
    record {
      phase = phase;
      messages = ap (λ (x : Plan). x.messages) plan ∙ ap (λ (l : Leaving). l.messages) e;
      follows = ap (λ (x : Plan). x.next) plan ∙ ap (λ (l : Leaving). l.next) e;
      counted =
          ap (λ (x : List ProcessProgress). (progress_in x q.id).recoveries) (h.end.progress Phase.MessageIn phase)
          ∙ (λ i. (progress_in (progress_by_leaving k (h.served i) (e i)) q.id).recoveries)
          ∙ counted_so k.progress q.id c;
      silent = same_none (events_of_row s p row)
          (shows_turn s p row n q h Phase.MessageIn phase [] (turn_is v (bus_of k).atn (phase_of (bus_of k)) q.id
          (record (message_in_entry m next) { counts = c }) (has_replied v.task) [] (sym h.end.leaves ∙ e) refl none));
    }

-- It gives up with STATUS.
fails_row : (s : ScenarioValue) (p : List Row) (row : Row) (n : Connection) (q : Process) (code : ℕ)
    → Left s p row n q → leaving s (run_state s p) n.target ≡ phase_entry Phase.Status
    → has_replied (serving_of s (run_state s p) n.target).task ≡ false
    → arrival_events q.id (serving_of s (run_state s p) n.target).plan
    (serving_of s (run_state s p) n.target).arrival (phase_of (bus_of (run_state s p))) ≡ []
    → reply_events q.id (serving_of s (run_state s p) n.target).plan
    (serving_of s (run_state s p) n.target).arrival (phase_of (bus_of (run_state s p))) ≡ Event.Fail q.id code ∷ []
    → FailsWith s p row q code
fails_row s p row n q code h e unanswered none fails =
    let k : RunState = run_state s p in
    let v : Serving = serving_of s k n.target in
    let phase : present_phase (row ∷ p) ≡ Some Phase.Status = sym h.end.whereto ∙ ap (λ (l : Leaving). l.to) e in
    record {
      phase = phase;
      shown = same_one (Event.Fail q.id code) (events_of_row s p row) (same_fail q.id code)
          (shows_turn s p row n q h Phase.Status phase (Event.Fail q.id code ∷ [])
          (turn_is v (bus_of k).atn (phase_of (bus_of k)) q.id (phase_entry Phase.Status) false []
          (sym h.end.leaves ∙ e) unanswered none ∙ (λ i. newest_with (fails i) [])));
    }

-- It gives up with BUS FREE.
lost_row : (s : ScenarioValue) (p : List Row) (row : Row) (n : Connection) (q : Process)
    → Left s p row n q → leaving s (run_state s p) n.target ≡ bus_free
    → connection_end_events n (run_state s p).exchange.plan (phase_of (bus_of (run_state s p))) (Some q.id)
    ≡ Event.Lost q.id ∷ [] → IsLost s p row q
lost_row s p row n q h e lost =
    let free : present_phase (row ∷ p) ≡ None = sym h.end.whereto ∙ ap (λ (l : Leaving). l.to) e in
    record {
      phase = free;
      shown = same_one (Event.Lost q.id) (events_of_row s p row) (same_lost q.id)
          (shows_end s p row n q h free (Event.Lost q.id ∷ []) lost);
    }

-- ---- what the target knows

pub task_is : (s : ScenarioValue) (p : List Row) (row : Row) (n : Connection) (q : Process) → Left s p row n q
    → task_of s (run_state s p) ≡ Some (task_here s (run_state s p) q)
task_is s p row n q h = ap (task_if s (run_state s p)) h.served

-- The phase of the lines.
pub phase_is : (s : ScenarioValue) (p : List Row) (row : Row) (n : Connection) (q : Process) → Left s p row n q
    → (phase : Phase) → phase_of (bus p) ≡ phase → phase_of (bus_of (run_state s p)) ≡ phase
phase_is s p row n q h phase e = ap phase_of (run_state_plain s p h.end.was.stood.standing.devices).bus ∙ e

pub placed_is : (s : ScenarioValue) (p : List Row) (row : Row) (n : Connection) (q : Process)
    → (h : Left s p row n q) → (phase : Phase) → phase_of (bus p) ≡ phase
    → PlacedIn h.end.was.places.array q (run_state s p).exchange.plan (run_state s p).handshakes
    (bus_of (run_state s p)).atn phase
placed_is s p row n q h phase e =
    let k : RunState = run_state s p in
    let pl : IsPlain s p k = run_state_plain s p h.end.was.stood.standing.devices in
    subst (λ (x : Phase). PlacedIn h.end.was.places.array q k.exchange.plan k.handshakes (bus_of k).atn x)
    (phase_is s p row n q h phase e) (subst (λ (b : Bool). PlacedIf b h.end.was.places.array q k.exchange.plan
    k.handshakes (bus_of k).atn (phase_of (bus_of k))) h.leaving_row.begun (h.end.was.places.placed n
    (pl.connection ∙ h.leaving_row.stands) (ap (λ (x : LineSet). x.rst) pl.bus ∙ h.leaving_row.calm) q h.served))

pub open_if : (s : ScenarioValue) (p : List Row) (row : Row) (n : Connection) (q : Process)
    → (h : Left s p row n q) → reply_in h.end.was.places.array.replies q.id ≡ None
    → has_replied (serving_of s (run_state s p) n.target).task ≡ false
open_if s p row n q h e =
    ap has_replied (task_is s p row n q h)
    ∙ (λ i. is_some (reply_in (or_start s (h.end.was.places.array_is i)).replies q.id))
    ∙ ap (λ (x : Option Rattle.due_model.specs.array_model.specs.Execution.Reply). is_some x) e

-- ---- COMMAND and DATA OUT

abbrev pub Struck : ScenarioValue → List Row → Phase → Type 0
Struck s p phase = (phase_of (bus p) ≡ phase) × (is_struck_phase s p ≡ true)

takes_bytes : (b : LineSet) (phase : Phase) → phase_of b ≡ phase → (phase ≡ Phase.Command) ⊎ (phase ≡ Phase.DataOut)
    → (b.io ≡ false) × (b.msg ≡ false)
takes_bytes b phase e here = go b.msg b.cd b.io (kind here e)
  where
    is_data_or_command : Phase → Bool
    is_data_or_command Phase.Command = true
    is_data_or_command Phase.DataOut = true
    is_data_or_command _ = false

    kind : (phase ≡ Phase.Command) ⊎ (phase ≡ Phase.DataOut) → phase_of b ≡ phase
        → is_data_or_command (phase_of b) ≡ true
    kind (inl z) f = ap is_data_or_command (f ∙ z)
    kind (inr z) f = ap is_data_or_command (f ∙ z)

    go : (m c i : Bool) → is_data_or_command (if m then (if i then Phase.MessageIn else Phase.MessageOut)
        else if c then (if i then Phase.Status else Phase.Command) else if i then Phase.DataIn else Phase.DataOut)
        ≡ true → (i ≡ false) × (m ≡ false)
    go true c true f = wrong' f
    go false true false f = (refl, refl)
    go false false false f = (refl, refl)
    go _ _ _ f = wrong' f

struck_plan_is : (s : ScenarioValue) (p : List Row) (row : Row) (n : Connection) (q : Process)
    → Left s p row n q → (phase : Phase) → (phase ≡ Phase.Command) ⊎ (phase ≡ Phase.DataOut) → Struck s p phase
    → (run_state s p).exchange.plan.struck ≡ true
struck_plan_is s p row n q h phase here e = struck_known s p h.end.was.rows_are e.1
    (takes_bytes (bus_of (run_state s p)) phase (phase_is s p row n q h phase e.0) here)

pub command_recovers : (s : ScenarioValue) (p : List Row) (row : Row) (n : Connection) (q : Process)
    → Left s p row n q → Struck s p Phase.Command → RecoversUnless (is_spent s (run_state s p) n q)
    (Recovers s p row q (one_message MsgIn.RestorePointers) Next.Command) (FailsWith s p row q PARITY_ERROR)
command_recovers s p row n q h e = (
  λ z. repeats_row s p row n q (one_message MsgIn.RestorePointers) Next.Command (not t.in_hold) h
      (leaves ∙ recovers_so v.def t (one_message MsgIn.RestorePointers) Next.Command (phase_entry Phase.Status) z) none,
  λ z. fails_row s p row n q PARITY_ERROR h
      (leaves ∙ gives_up_so v.def t (pointer_restoration Next.Command) (phase_entry Phase.Status) z)
      (open_if s p row n q h (placed_is s p row n q h Phase.Command e.0).reply) none fails,
)
  where
    k : RunState
    k = run_state s p

    v : Serving
    v = serving_of s k n.target

    t : Task
    t = task_here s k q

    here : phase_of (bus_of k) ≡ Phase.Command
    here = phase_is s p row n q h Phase.Command e.0

    struck : k.exchange.plan.struck ≡ true
    struck = struck_plan_is s p row n q h Phase.Command (inl refl) e

    leaves : leaving s k n.target ≡ recovery v.def t (pointer_restoration Next.Command) (phase_entry Phase.Status)
    leaves = h.end.leaves ∙ ap (phase_leaving v (bus_of k).atn) here ∙ (λ i. with_task (task_is s p row n q h i)
        (λ x. if struck i then recovery v.def x (pointer_restoration Next.Command) (phase_entry Phase.Status)
        else Rattle.due_model.specs.dialogue_model.specs.NextPhase.after_arrival v.def x v.arrival))

    none : arrival_events q.id v.plan v.arrival (phase_of (bus_of k)) ≡ []
    none = ap (arrival_events q.id v.plan v.arrival) here ∙ ap (λ (b : Bool). if b then []
        else Rattle.due_model.specs.dialogue_model.specs.Events.arrival_event q.id v.arrival ∷ []) struck

    fails : reply_events q.id v.plan v.arrival (phase_of (bus_of k)) ≡ Event.Fail q.id PARITY_ERROR ∷ []
    fails = ap (reply_events q.id v.plan v.arrival) here ∙ ap (λ (b : Bool). if b then Event.Fail q.id PARITY_ERROR ∷ []
        else Rattle.due_model.specs.dialogue_model.specs.Events.arrival_run_events v.arrival q.id) struck

pub data_out_recovers : (s : ScenarioValue) (p : List Row) (row : Row) (n : Connection) (q : Process)
    → Left s p row n q → Struck s p Phase.DataOut
    → RecoversUnless (is_spent s (run_state s p) n q) (Recovers s p row q (one_message MsgIn.RestorePointers) Next.GoOn)
    (FailsWith s p row q PARITY_ERROR)
data_out_recovers s p row n q h e = (
  λ z. repeats_row s p row n q (one_message MsgIn.RestorePointers) Next.GoOn (not t.in_hold) h
      (leaves ∙ recovers_so v.def t (one_message MsgIn.RestorePointers) Next.GoOn (phase_entry Phase.Status) z) none,
  λ z. fails_row s p row n q PARITY_ERROR h
      (leaves ∙ gives_up_so v.def t (pointer_restoration Next.GoOn) (phase_entry Phase.Status) z)
      (open_if s p row n q h (placed_is s p row n q h Phase.DataOut e.0).runs.reply) none fails,
)
  where
    k : RunState
    k = run_state s p

    v : Serving
    v = serving_of s k n.target

    t : Task
    t = task_here s k q

    here : phase_of (bus_of k) ≡ Phase.DataOut
    here = phase_is s p row n q h Phase.DataOut e.0

    struck : k.exchange.plan.struck ≡ true
    struck = struck_plan_is s p row n q h Phase.DataOut (inr refl) e

    leaves : leaving s k n.target ≡ recovery v.def t (pointer_restoration Next.GoOn) (phase_entry Phase.Status)
    leaves = h.end.leaves ∙ ap (phase_leaving v (bus_of k).atn) here ∙ (λ i. with_task (task_is s p row n q h i)
        (λ x. if struck i then recovery v.def x (pointer_restoration Next.GoOn) (phase_entry Phase.Status)
        else Rattle.due_model.specs.dialogue_model.specs.NextPhase.after_run
        (Rattle.due_model.specs.dialogue_model.specs.Arrivals.policy_of v.def) x))

    none : arrival_events q.id v.plan v.arrival (phase_of (bus_of k)) ≡ []
    none = ap (arrival_events q.id v.plan v.arrival) here

    fails : reply_events q.id v.plan v.arrival (phase_of (bus_of k)) ≡ Event.Fail q.id PARITY_ERROR ∷ []
    fails = ap (reply_events q.id v.plan v.arrival) here
        ∙ ap (λ (b : Bool). if b then Event.Fail q.id PARITY_ERROR ∷ [] else Event.Run q.id ∷ []) struck

-- ---- MESSAGE OUT after a phase to the initiator

-- As it is left, what the target means to do by the cause.
asked_leaves : (s : ScenarioValue) (p : List Row) (row : Row) (n : Connection) (q : Process)
    → Left s p row n q → (cause : Cause) → IsAsked s p cause
    → leaving s (run_state s p) n.target ≡ message_out_leaving (serving_of s (run_state s p) n.target) cause
asked_leaves s p row n q h cause e =
    let k : RunState = run_state s p in
    h.end.leaves
    ∙ ap (phase_leaving (serving_of s k n.target) (bus_of k).atn) (phase_is s p row n q h Phase.MessageOut e.0)
    ∙ ap (message_out_leaving (serving_of s k n.target)) e.1

asked_none : (s : ScenarioValue) (p : List Row) (row : Row) (n : Connection) (q : Process)
    → Left s p row n q → (cause : Cause) → IsAsked s p cause
    → arrival_events q.id (serving_of s (run_state s p) n.target).plan (serving_of s (run_state s p) n.target).arrival
    (phase_of (bus_of (run_state s p))) ≡ []
asked_none s p row n q h cause e = ap (arrival_events q.id (serving_of s (run_state s p) n.target).plan
    (serving_of s (run_state s p) n.target).arrival) (phase_is s p row n q h Phase.MessageOut e.0)

-- No abort came in it.
asked_lost : (s : ScenarioValue) (p : List Row) (row : Row) (n : Connection) (q : Process)
    → Obeys s → Left s p row n q → (cause : Cause) → IsAsked s p cause
    → connection_end_events n (run_state s p).exchange.plan (phase_of (bus_of (run_state s p))) (Some q.id)
    ≡ Event.Lost q.id ∷ []
asked_lost s p row n q o h cause e =
    let k : RunState = run_state s p in
    let pl : IsPlain s p k = run_state_plain s p h.end.was.stood.standing.devices in
    let here = phase_is s p row n q h Phase.MessageOut e.0 in
    let speaks = h.end.was.stood.books.speaks n (pl.connection ∙ h.leaving_row.stands)
    (ap (λ (x : LineSet). x.rst) pl.bus ∙ h.leaving_row.calm) in
    let heard : IsHeard s k = is_heard s k n
    (units_are s (obeys_fits s o)) speaks h.leaving_row.begun h.end.known h.end.over here in
    let own : process_of s q.id ≡ Some q = ap (process_item s) (sym (id_served s p row n q h)) ∙ h.served in
    let none = none_heard s k n q.id q speaks
    (id_served s p row n q h) own h.leaving_row.begun heard.out heard.last heard.named in
    ap (λ (x : Phase). connection_end_events n k.exchange.plan x (Some q.id)) here
    ∙ ap (λ (x : Option Rattle.due_model.specs.bus_base.specs.declared.AbortKind.AbortKind). after_opening_events n
    k.exchange.plan.said x (Some q.id)) none

pub data_in_recovers : (s : ScenarioValue) (p : List Row) (row : Row) (n : Connection) (q : Process)
    → Left s p row n q → IsAsked s p Cause.InData
    → RecoversUnless (is_spent s (run_state s p) n q) (Recovers s p row q (one_message MsgIn.RestorePointers) Next.GoOn)
    (FailsWith s p row q INITIATOR_DETECTED_ERROR)
data_in_recovers s p row n q h e = (
  λ z. repeats_row s p row n q (one_message MsgIn.RestorePointers) Next.GoOn (not t.in_hold) h
      (leaves ∙ recovers_so v.def t (one_message MsgIn.RestorePointers) Next.GoOn (phase_entry Phase.Status) z)
      (asked_none s p row n q h Cause.InData e),
  λ z. fails_row s p row n q INITIATOR_DETECTED_ERROR h
      (leaves ∙ gives_up_so v.def t (pointer_restoration Next.GoOn) (phase_entry Phase.Status) z)
      (open_if s p row n q h placed.runs.reply) (asked_none s p row n q h Cause.InData e) fails,
)
  where
    k : RunState
    k = run_state s p

    v : Serving
    v = serving_of s k n.target

    t : Task
    t = task_here s k q

    here : phase_of (bus_of k) ≡ Phase.MessageOut
    here = phase_is s p row n q h Phase.MessageOut e.0

    placed : PlacedAsked h.end.was.places.array q k.exchange.plan Cause.InData
    placed =
        subst (PlacedAsked h.end.was.places.array q k.exchange.plan) e.1 (placed_is s p row n q h Phase.MessageOut e.0)

    leaves : leaving s k n.target ≡ recovery v.def t (pointer_restoration Next.GoOn) (phase_entry Phase.Status)
    leaves = asked_leaves s p row n q h Cause.InData e ∙ (λ i. with_task (task_is s p row n q h i)
        (λ x. recovery v.def x (pointer_restoration Next.GoOn) (phase_entry Phase.Status)))

    fails : reply_events q.id v.plan v.arrival (phase_of (bus_of k)) ≡ Event.Fail q.id INITIATOR_DETECTED_ERROR ∷ []
    fails = ap (reply_events q.id v.plan v.arrival) here ∙ ap (λ (x : Cause). detected_events x q.id) e.1

pub status_recovers : (s : ScenarioValue) (p : List Row) (row : Row) (n : Connection) (q : Process) → Obeys s
    → Left s p row n q → IsAsked s p Cause.InStatus → RecoversUnless (is_spent s (run_state s p) n q)
    (Recovers s p row q (one_message MsgIn.RestorePointers) Next.Status) (IsLost s p row q)
status_recovers s p row n q o h e = (
  λ z. repeats_row s p row n q (one_message MsgIn.RestorePointers) Next.Status (not t.in_hold) h
      (leaves ∙ recovers_so v.def t (one_message MsgIn.RestorePointers) Next.Status bus_free z)
      (asked_none s p row n q h Cause.InStatus e),
  λ z. lost_row s p row n q h (leaves ∙ gives_up_so v.def t (pointer_restoration Next.Status) bus_free z)
      (asked_lost s p row n q o h Cause.InStatus e),
)
  where
    k : RunState
    k = run_state s p

    v : Serving
    v = serving_of s k n.target

    t : Task
    t = task_here s k q

    leaves : leaving s k n.target ≡ recovery v.def t (pointer_restoration Next.Status) bus_free
    leaves = asked_leaves s p row n q h Cause.InStatus e
        ∙ (λ i. with_task (task_is s p row n q h i) (λ x. recovery v.def x (pointer_restoration Next.Status) bus_free))

-- A refused message: the initiator answers no request of the target.
refused_leaves : (s : ScenarioValue) (p : List Row) (row : Row) (n : Connection) (q : Process)
    → Left s p row n q → IsAsked s p Cause.InMessage → (run_state s p).exchange.plan.said.offer ≡ None
    → (b : Bool) → is_naming (run_state s p).exchange.plan.messages.first ≡ b
    → leaving s (run_state s p) n.target ≡ (if b then message_repetition (run_state s p).exchange.plan
    else recovery (serving_of s (run_state s p) n.target).def (task_here s (run_state s p) q)
    (message_repetition (run_state s p).exchange.plan) bus_free)
refused_leaves s p row n q h e none b name =
    let k : RunState = run_state s p in
    let v : Serving = serving_of s k n.target in
    asked_leaves s p row n q h Cause.InMessage e
    ∙ (λ i. if is_some (none i) then phase_entry Phase.Command else if name i then message_repetition v.plan
    else with_task (task_is s p row n q h i) (λ x. recovery v.def x (message_repetition v.plan) bus_free))

pub message_recovers : (s : ScenarioValue) (p : List Row) (row : Row) (n : Connection) (q : Process) → Obeys s
    → Left s p row n q → IsAsked s p Cause.InMessage → (run_state s p).exchange.plan.said.offer ≡ None
    → is_naming (run_state s p).exchange.plan.messages.first ≡ false
    → RecoversUnless (is_spent s (run_state s p) n q)
    (Recovers s p row q (run_state s p).exchange.plan.messages (run_state s p).exchange.plan.next) (IsLost s p row q)
message_recovers s p row n q o h e none name =
    let k : RunState = run_state s p in
    let v : Serving = serving_of s k n.target in
    let t : Task = task_here s k q in
    let leaves = refused_leaves s p row n q h e none false name in (
      λ z. repeats_row s p row n q k.exchange.plan.messages k.exchange.plan.next (not t.in_hold) h
          (leaves ∙ recovers_so v.def t k.exchange.plan.messages k.exchange.plan.next bus_free z)
          (asked_none s p row n q h Cause.InMessage e),
      λ z. lost_row s p row n q h (leaves ∙ gives_up_so v.def t (message_repetition k.exchange.plan) bus_free z)
          (asked_lost s p row n q o h Cause.InMessage e),
    )

-- The names of a reselected process without limit.
pub names_repeat : (s : ScenarioValue) (p : List Row) (row : Row) (n : Connection) (q : Process)
    → Left s p row n q → IsAsked s p Cause.InMessage → (run_state s p).exchange.plan.said.offer ≡ None
    → is_naming (run_state s p).exchange.plan.messages.first ≡ true
    → Repeats s p row q (run_state s p).exchange.plan.messages (run_state s p).exchange.plan.next false
names_repeat s p row n q h e none name =
    let k : RunState = run_state s p in
    repeats_row s p row n q k.exchange.plan.messages k.exchange.plan.next false h
    (refused_leaves s p row n q h e none true name) (asked_none s p row n q h Cause.InMessage e)

-- ---- MESSAGE OUT is left

-- Whatever its target serves.
pub taken_all : (s : ScenarioValue) (p : List Row) (row : Row) (n : Connection) → Obeys s → PhaseEnd s p row n
    → IsLeaving s p row n → phase_of (bus p) ≡ Phase.MessageOut → HasTakenAll (run_state s p)
taken_all s p row n o end w e =
    let k : RunState = run_state s p in
    let pl : IsPlain s p k = run_state_plain s p end.was.stood.standing.devices in
    let here : phase_of (bus_of k) ≡ Phase.MessageOut = ap phase_of pl.bus ∙ e in
    let speaks = end.was.stood.books.speaks n (pl.connection ∙ w.stands)
    (ap (λ (x : LineSet). x.rst) pl.bus ∙ w.calm) in
    let heard : IsHeard s k = is_heard s k n (units_are s (obeys_fits s o)) speaks w.begun end.known end.over here in
    record { last = heard.last; unstruck = out_unstruck s k n here end.over }

-- A connection for an abort has no other phase.
pub leaves_phase : (s : ScenarioValue) (p : List Row) (row : Row) (n : Connection) → PhaseEnd s p row n
    → IsLeaving s p row n → is_out_phase (phase_of (bus p)) ≡ false → (q : Process) × LeavesPhase s p row n q
leaves_phase s p row n end w other = by (end.was.facts.served n w.stands w.calm)
  where
    pl : IsPlain s p (run_state s p)
    pl = run_state_plain s p end.was.stood.standing.devices

    by : IsServed s (run_state s p) n → (q : Process) × LeavesPhase s p row n q
    by (of_process id q e f) = (q, record { leaving_row = w; served = ap (process_item s) e ∙ f })
    by (of_abort m a e line host target re alone) =
        wrong (ap is_out_phase (sym (alone w.begun).0) ∙ ap (λ (l : LineSet). is_out_phase (phase_of l)) pl.bus ∙ other)
