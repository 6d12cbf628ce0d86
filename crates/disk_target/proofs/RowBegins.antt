-- A connection of a target begins.
use Rattle.std.proofs.Common.{ℕ, ◌≡◌, ◌<◌, ◌+◌, ◌∙◌, Bool, true, false, List, ◌∷◌, refl, sym, subst, Option}
use Rattle.std.proofs.Common.{Some, None, ◌⊎◌, inl, inr}
use Rattle.std.specs.Prelude.{if◌then◌else◌, ◌&&◌, is_none}
use Rattle.std.proofs.lemmas.Bool.{and_parts, eqb-true}
use Rattle.bus_trace.specs.declared.Row.{Row}
use Rattle.bus_trace.specs.declared.connection.Connection.{Connection}
use Rattle.bus_trace.specs.Terms.{connection}
use Rattle.bus_trace.specs.Trace.{bus}
use Rattle.scenario.specs.Value.{ScenarioValue}
use Rattle.array_model.specs.Processes.{Process}
use Rattle.array_model.specs.Seats
use Rattle.array_model.specs.Seats.{seat_of}
use Rattle.array_model.specs.SoundArray.{IsOwn, IsOwnRunning, IsSound}
use Rattle.array_model.specs.Units.{Array, RunningProcess, UnitState, guest_at, is_held, unit_state_at}
use Rattle.due_model.specs.story_model.specs.BusState.{RowReading, row_reading}
use Rattle.due_model.specs.story_model.specs.TraceHistory.{aim_of}
use Rattle.due_model.specs.dialogue_model.specs.Wants as wants
use Rattle.due_model.specs.LastingState.{progress_in}
use Rattle.due_model.specs.Plain.{IsPlain}
use Rattle.due_model.specs.RunState.{RunState, array_of, process_item, process_served}
use Rattle.due_model.specs.RunSteps.{item_if, run_state, served_after}
use Rattle.due_model.specs.Wants as due
use Rattle.due_model.specs.Wants.{ready_of}
use Rattle.array_model.specs.ArrayHistory.{reply_in}
use Rattle.array_model.proofs.SeatLookups.{found_target, found_unit}
use Rattle.array_model.proofs.SeatOwn.{own_found}
use Rattle.target_course.specs.scsi_device.specs.Heard.{Instructions, heard, instructions, is_beginning, is_heard}
use Rattle.target_course.specs.scsi_device.specs.Heard.{is_heard_after, is_heard_on, is_heard_row, is_new}
use Rattle.target_course.specs.scsi_device.specs.Heard.{is_of_scenario, is_uncounted}
use Rattle.target_course.specs.target_units.proofs.UnitTellings.{own_number}
use Rattle.target_course.specs.States.{IsOwnConnection}
use Rattle.target_course.proofs.CourseAgrees.{IsFront, front_heard}
use Rattle.disk_target.specs.Processes.{ProcessesState}
use Rattle.disk_target.specs.Standings.{IsStanding}
use Rattle.disk_target.specs.Targets.{AreTied}
use Rattle.disk_target.specs.Turns.{AreAttendedOf, AreAttendedOn}
use Rattle.disk_target.proofs.Readies.{ready_by}
use Rattle.disk_target.proofs.RowServed.{array_same}
use Rattle.disk_target.proofs.RowShapes.{none_shown}
use Rattle.bus_base.proofs.Tests.{or_second, is_nothing}

-- ---- the unit that is ready first, and its current process

pub record IsReadyAt (s : ScenarioValue) (a : Array) (dev : ℕ) (p : Process) : Type 0 where
  pub r : RunningProcess
  pub current : Seats.current_of (unit_state_at a.units dev p.unit) ≡ Some r
  pub is : r.process ≡ p
  pub own : IsOwn s dev p.unit p
  pub small : p.unit < 8

one_ready : (x y : Option wants.Ready) (q : wants.Ready) → wants.first_ready x y ≡ Some q → (x ≡ Some q) ⊎ (y ≡ Some q)
one_ready None y q e = inr e
one_ready (Some x) None q e = inl e
one_ready (Some x) (Some y) q e = go (wants.is_ready_before y x) e
  where
    go : (b : Bool) → (if b then Some y else Some x) ≡ Some q → (Some x ≡ Some q) ⊎ (Some y ≡ Some q)
    go true f = inr f
    go false f = inl f

ready_process : (held : Bool) (c : Option RunningProcess) (time : ℕ) (q : wants.Ready)
    → wants.ready_in held c time ≡ Some q → (r : RunningProcess) × (c ≡ Some r) × (r.process ≡ q.process)
ready_process held None time q e = absurd cc
ready_process true (Some r) time q e = absurd cc
ready_process false (Some r) time q e =
    let same : record { time = time; process = r.process } ≡ q = cc in
    (r, refl, λ i. (same i).process)

own_running : (s : ScenarioValue) (a : Array) (dev n : ℕ) → IsSound s a
    → (x : Option UnitState) → unit_state_at a.units dev n ≡ x → (r : RunningProcess) → Seats.current_of x ≡ Some r
    → IsOwnRunning s dev n (Some r)
own_running s a dev n sound None e r f = absurd cc
own_running s a dev n sound (Some u) e r f = subst (λ (z : ℕ). IsOwnRunning s z n (Some r))
    (found_target a.units dev n u e) (subst (λ (z : ℕ). IsOwnRunning s u.target z (Some r))
    (found_unit a.units dev n u e) (subst (λ (c : Option RunningProcess). IsOwnRunning s u.target u.unit c) f
    (own_found s a.units dev n u sound.units e).current))

at_one : (s : ScenarioValue) (a : Array) (times : List ℕ) (seek dev n : ℕ) (q : wants.Ready) → n < 8 → IsSound s a
    → due.ready_at a times seek dev n ≡ Some q → IsReadyAt s a dev q.process
at_one s a times seek dev n q small sound e =
    let x = ready_process (is_held a.holds dev n) (Seats.current_of (unit_state_at a.units dev n))
    (due.since_of a.units times dev n + seek) q e in
    let r = x.0 in
    let current : Seats.current_of (unit_state_at a.units dev n) ≡ Some r = x.1 in
    let number : q.process.unit ≡ n = (λ i. (sym x.2 i).unit) ∙ own_number s a dev n sound r current in
    let own : IsOwn s dev n q.process = subst (λ (p : Process). IsOwn s dev n p) x.2
    (own_running s a dev n sound (unit_state_at a.units dev n) refl r current) in
    record {
      r = r;
      current = (λ i. Seats.current_of (unit_state_at a.units dev (number i))) ∙ current;
      is = x.2;
      own = subst (λ (z : ℕ). IsOwn s dev z q.process) (sym number) own;
      small = subst (λ (z : ℕ). z < 8) (sym number) small;
    }

pub ready_current : (s : ScenarioValue) (a : Array) (times : List ℕ) (seek dev : ℕ) (q : wants.Ready) → IsSound s a
    → due.ready_among a times seek dev ≡ Some q → IsReadyAt s a dev q.process
ready_current s a times seek dev q sound e = ready_by
    (λ (x : Option wants.Ready). x ≡ Some q → IsReadyAt s a dev q.process) a times seek dev (λ f. absurd cc) go e
  where
    go : (n : ℕ) (rest : Option wants.Ready) → n < 8 → (rest ≡ Some q → IsReadyAt s a dev q.process)
        → wants.first_ready (due.ready_at a times seek dev n) rest ≡ Some q → IsReadyAt s a dev q.process
    go n rest small more f = by (one_ready (due.ready_at a times seek dev n) rest q f)
      where
        by : (due.ready_at a times seek dev n ≡ Some q) ⊎ (rest ≡ Some q) → IsReadyAt s a dev q.process
        by (inl g) = at_one s a times seek dev n q small sound g
        by (inr g) = more g

-- ---- what the row begins

pub begins_so : (s : ScenarioValue) (rows : List Row) (row : Row) (n : Connection) → IsPlain s rows (run_state s rows)
    → IsPlain s (row ∷ rows) (run_state s (row ∷ rows)) → heard s (row ∷ rows) ≡ true
    → connection rows ≡ None → connection (row ∷ rows) ≡ Some n → (bus (row ∷ rows)).rst ≡ false
    → is_beginning s (run_state s (row ∷ rows)) n (process_served s (run_state s (row ∷ rows))) ≡ true
begins_so s rows row n f q e x y calm =
    let k : RunState = run_state s rows in
    let next : RunState = run_state s (row ∷ rows) in
    let d : RowReading = row_reading k.story.bus_state row in
    let i : Instructions = instructions s (row ∷ rows) in
    let last = and_parts (heard s rows) (is_heard_after s k next d i) e in
    let two = and_parts (is_heard_row s k next d) (is_heard s next d.next i) last.1 in
    (λ j. is_heard_on s k next d (sym (f.connection ∙ x) j) (sym (q.connection ∙ y) j))
    ∙ or_second d.change.after.rst (is_heard_on s k next d k.story.bus_state.connection d.next) two.0
    ((λ j. (q.bus j).rst) ∙ calm)

pub served_ready : (s : ScenarioValue) (rows : List Row) (row : Row) (n : Connection)
    → IsPlain s rows (run_state s rows) → IsPlain s (row ∷ rows) (run_state s (row ∷ rows))
    → connection rows ≡ None → connection (row ∷ rows) ≡ Some n → n.reselected ≡ true
    → (run_state s (row ∷ rows)).served ≡ item_if (ready_of s (run_state s rows) n.target)
served_ready s rows row n f q x y r =
    let k : RunState = run_state s rows in
    (λ i. served_after s k ((f.connection ∙ x) i) ((q.connection ∙ y) i))
    ∙ (λ i. if r i then item_if (ready_of s k n.target) else aim_of k.story.aims n.initiator)

pub ready_there : (s : ScenarioValue) (rows : List Row) (row : Row) (n : Connection) → IsPlain s rows (run_state s rows)
    → IsPlain s (row ∷ rows) (run_state s (row ∷ rows)) → heard s (row ∷ rows) ≡ true → connection rows ≡ None
    → connection (row ∷ rows) ≡ Some n → (bus (row ∷ rows)).rst ≡ false → n.reselected ≡ true
    → (q : wants.Ready) × (ready_of s (run_state s rows) n.target ≡ Some q)
ready_there s rows row n f g e x y calm r = go (ready_of s k n.target) refl
  where
    k : RunState
    k = run_state s rows

    front : IsFront s (run_state s (row ∷ rows)) n (instructions s (row ∷ rows))
    front = front_heard s (row ∷ rows) n g e y calm

    go : (z : Option wants.Ready) → ready_of s k n.target ≡ z → (q : wants.Ready) × (ready_of s k n.target ≡ Some q)
    go None h =
        let bad : false ≡ true =
        sym (λ i. is_of_scenario s ((served_ready s rows row n f g x y r ∙ (λ j. item_if (h j))) i)) ∙ front.there in
        absurd cc
    go (Some q) h = (q, h)

-- ---- where the process stands then

begun_standing :
    (s : ScenarioValue) (rows : List Row) (row : Row) (dev : ℕ) (n : Connection) (v w : ProcessesState) (p : Process)
    → IsPlain s rows (run_state s rows) → IsPlain s (row ∷ rows) (run_state s (row ∷ rows))
    → AreTied s (row ∷ rows) → connection rows ≡ None → IsOwnConnection (row ∷ rows) dev n
    → (bus (row ∷ rows)).rst ≡ false → AreAttendedOn s rows row dev v → ((a : Array) (p : Process) (unit : ℕ)
    → n.reselected ≡ false → is_new a p ≡ true → IsStanding (seat_of a v.units.dev unit) p w.standing)
    → ((a : Array) (p : Process) (unit : ℕ) (r : RunningProcess) → n.reselected ≡ true
    → guest_at a.guests p.id ≡ None → Seats.current_of (seat_of a v.units.dev unit).unit ≡ Some r → r.process ≡ p
    → IsStanding (seat_of a v.units.dev unit) p w.standing) → process_served s (run_state s (row ∷ rows)) ≡ Some p
    → IsStanding (seat_of (array_of s (run_state s (row ∷ rows))) dev p.unit) p w.standing
begun_standing s rows row dev n v w p f g tied x own calm h selected reselected is =
    subst (λ (z : ℕ). IsStanding (seat_of a z p.unit) p w.standing) h.dev_is (go n.reselected refl
    ((λ i. is_beginning s next n (sym is i)) ∙ begins_so s rows row n f g tied.heard_are x own.stands calm))
  where
    k : RunState
    k = run_state s rows

    next : RunState
    next = run_state s (row ∷ rows)

    a : Array
    a = array_of s next

    same : a ≡ array_of s k
    same =
        array_same s rows row (none_shown s rows row tied.telling_are ((λ i. (g.bus i).rst) ∙ calm) (f.connection ∙ x))

    current : n.reselected ≡ true → IsReadyAt s a dev p
    current r = by (ready_there s rows row n f g tied.heard_are x own.stands calm r)
      where
        by : (q : wants.Ready) × (ready_of s k n.target ≡ Some q) → IsReadyAt s a dev p
        by z =
            let sound : IsSound s (array_of s k) = subst (λ (o : Array). IsSound s o) same h.kept.sound in
            let it : IsReadyAt s (array_of s k) n.target z.0.process = ready_current s
            (array_of s k) k.current_since (due.seek_of s.targets n.target) n.target z.0 sound z.1 in
            let both : Some z.0.process ≡ Some p = sym it.own.is ∙ (λ i. process_item s (item_if (sym z.1 i)))
            ∙ (λ i. process_item s (sym (served_ready s rows row n f g x own.stands r) i)) ∙ is in
            let one : z.0.process ≡ p = cc in
            subst (λ (o : Process). IsReadyAt s a dev o) one (subst (λ (o : ℕ). IsReadyAt s a o z.0.process)
            (eqb-true n.target dev own.own) (subst (λ (o : Array). IsReadyAt s o n.target z.0.process) (sym same) it))

    go : (y : Bool) → n.reselected ≡ y → is_beginning s next n (Some p) ≡ true
        → IsStanding (seat_of a v.units.dev p.unit) p w.standing
    go false r e =
        let new = (λ i. if sym r i then is_none (guest_at a.guests p.id) && is_none (reply_in a.replies p.id)
        else is_new a p && is_uncounted (progress_in next.progress p.id)) ∙ e in
        selected a p p.unit r (and_parts (is_new a p) (is_uncounted (progress_in next.progress p.id)) new).0
    go true r e =
        let two = (λ i. if sym r i then is_none (guest_at a.guests p.id) && is_none (reply_in a.replies p.id)
        else is_new a p && is_uncounted (progress_in next.progress p.id)) ∙ e in
        let it = current r in
        reselected a p p.unit it.r r (is_nothing (guest_at a.guests p.id)
        (and_parts (is_none (guest_at a.guests p.id)) (is_none (reply_in a.replies p.id)) two).0)
        ((λ i. Seats.current_of (seat_of a (h.dev_is i) p.unit).unit) ∙ it.current) it.is

pub begun_on : (s : ScenarioValue) (rows : List Row) (row : Row) (dev : ℕ) (n : Connection) (v w : ProcessesState)
    → IsPlain s rows (run_state s rows) → IsPlain s (row ∷ rows) (run_state s (row ∷ rows)) → AreTied s (row ∷ rows)
    → connection rows ≡ None → IsOwnConnection (row ∷ rows) dev n → (bus (row ∷ rows)).rst ≡ false
    → w ≡ record v { standing = w.standing } → AreAttendedOn s rows row dev v → ((a : Array) (p : Process) (unit : ℕ)
    → n.reselected ≡ false → is_new a p ≡ true → IsStanding (seat_of a v.units.dev unit) p w.standing)
    → ((a : Array) (p : Process) (unit : ℕ) (r : RunningProcess) → n.reselected ≡ true
    → guest_at a.guests p.id ≡ None → Seats.current_of (seat_of a v.units.dev unit).unit ≡ Some r → r.process ≡ p
    → IsStanding (seat_of a v.units.dev unit) p w.standing) → AreAttendedOf s (row ∷ rows) dev w
begun_on s rows row dev n v w f g tied x own calm same h selected reselected =
    subst (λ (z : ProcessesState). AreAttendedOf s (row ∷ rows) dev z) (sym same)
    (record {
      dev_is = h.dev_is;
      kept = h.kept;
      standing = λ m p or_second quiet is.
          begun_standing s rows row dev n v w p f g tied x own calm h selected reselected is;
    })

pub stood_on : (s : ScenarioValue) (rows : List Row) (row : Row) (dev : ℕ) (m : Connection) (v : ProcessesState)
    → connection rows ≡ Some m → AreAttendedOn s rows row dev v → AreAttendedOf s (row ∷ rows) dev v
stood_on s rows row dev m v x h = record { dev_is = h.dev_is; kept = h.kept; standing = h.standing m x }

pub away_on : (s : ScenarioValue) (rows : List Row) (row : Row) (dev : ℕ) (v : ProcessesState)
    → ((n : Connection) → IsOwnConnection (row ∷ rows) dev n → (bus (row ∷ rows)).rst ≡ true)
    → AreAttendedOn s rows row dev v → AreAttendedOf s (row ∷ rows) dev v
away_on s rows row dev v away h = record {
  dev_is = h.dev_is;
  kept = h.kept;
  standing = λ n p own calm is.
      let bad : true ≡ false = sym (away n own) ∙ calm in
      absurd cc;
}
