-- The units of a target and the process that it serves, after a row of its connection.
use Rattle.std.proofs.Common.{ℕ, ◌≡◌, ◌≤◌, ◌∙◌, ◌==◌, arith, Bool, true, false, List, [], ◌∷◌, refl, sym, subst, length}
use Rattle.std.proofs.Common.{Option, Some, None, ◌⊎◌, inl, inr}
use Rattle.std.specs.Prelude.{if◌then◌else◌, not, ◌&&◌, ◌||◌, is_some}
use Rattle.std.proofs.lemmas.Bool.{and_parts, eqb-true}
use Rattle.bus_base.specs.declared.Event.{Event}
use Rattle.bus_base.specs.declared.Event.TheVariants as events
use Rattle.bus_trace.specs.declared.Row.{Row}
use Rattle.bus_trace.specs.declared.connection.Connection.{Connection}
use Rattle.bus_trace.specs.Changes.{rises}
use Rattle.bus_trace.specs.Terms.{connection}
use Rattle.bus_trace.specs.Trace.{bus}
use Rattle.scenario.specs.Value.{ScenarioValue}
use Rattle.bus_base.specs.declared.ProcId.{ProcId}
use Rattle.bus_trace.specs.Phases.{changes_phase}
use Rattle.scenario.specs.declared.value.CmdDef.{CmdDef}
use Rattle.array_model.specs.Processes.{Process, command_at, command_process, process_by, process_if, process_of}
use Rattle.array_model.specs.Processes.{sense_process}
use Rattle.array_model.specs.Seats.{seat_of}
use Rattle.array_model.specs.SoundArray.{HasSeats}
use Rattle.due_model.specs.story_model.specs.BusState.{RowReading, row_reading}
use Rattle.due_model.specs.story_model.specs.Items.{process}
use Rattle.due_model.specs.dialogue_model.specs.Hearing.{hearing}
use Rattle.due_model.specs.dialogue_model.specs.NextPhase.{phase_of}
use Rattle.due_model.specs.Sights.{leaving}
use Rattle.due_model.specs.Plain.{IsPlain}
use Rattle.due_model.specs.RunState.{RunState, array_of, or_start, process_item, process_served}
use Rattle.due_model.specs.RunSteps.{run_state, array_after_events, served_after, events_of_row}
use Rattle.target_course.specs.scsi_device.specs.Heard.{heard, instructions, is_of_scenario, is_opening, is_opening_in}
use Rattle.target_course.specs.scsi_device.specs.Heard.{is_to, may_leave}
use Rattle.target_course.specs.scsi_device.specs.Lines.{IsCommandLine}
use Rattle.target_course.specs.Courses.{CourseState, IsCourse}
use Rattle.target_course.specs.States.{IsOwnConnection}
use Rattle.target_course.proofs.CourseAgrees.{IsFront, IsTurn, front_heard, turn_heard}
use Rattle.target_course.proofs.CourseRows.{heard_before}
use Rattle.target_course.proofs.ReplyRows.{number_is}
use Rattle.disk_target.specs.Processes.{ProcessesState, AreOutside}
use Rattle.disk_target.specs.Standings.{IsStanding}
use Rattle.disk_target.specs.Targets.{AreTied, IsStandingOf}
use Rattle.disk_target.specs.Turns.{AreAttendedOf, AreAttendedOn, abort_of, is_opening_by, is_reset}
use Rattle.disk_target.specs.declared.standing.Standing.{Standing}
use Rattle.disk_target.proofs.Lines.{IsOfLine, line_of_process}
use Rattle.disk_target.proofs.RowOutside.{IsAttended, attended_in}
use Rattle.disk_target.proofs.RowOwn.{IsItem, Knows, is_any, knows, shown_item}
use Rattle.disk_target.proofs.RowShapes.{ShowsIn, reset_is, row_shows}
use Rattle.disk_target.proofs.UnitRows.{stays}
use Rattle.bus_base.proofs.Tests.{implied}
use Rattle.bus_trace.proofs.Connections.{connection_stays}

-- ---- the connection stays the same, and so does what is served

pub same_served : (s : ScenarioValue) (rows : List Row) (row : Row) (m n : Connection)
    → IsPlain s rows (run_state s rows) → IsPlain s (row ∷ rows) (run_state s (row ∷ rows))
    → connection rows ≡ Some m → connection (row ∷ rows) ≡ Some n
    → process_served s (run_state s (row ∷ rows)) ≡ process_served s (run_state s rows)
same_served s rows row m n f q x y =
    λ i. process_item s (served_after s (run_state s rows) ((f.connection ∙ x) i) ((q.connection ∙ y) i))

pub before_own : (s : ScenarioValue) (rows : List Row) (row : Row) (dev : ℕ) (m n : Connection)
    → IsPlain s rows (run_state s rows) → IsPlain s (row ∷ rows) (run_state s (row ∷ rows))
    → heard s (row ∷ rows) ≡ true → connection rows ≡ Some m → IsOwnConnection (row ∷ rows) dev n
    → (bus (row ∷ rows)).rst ≡ false → (IsOwnConnection rows dev m) × ((bus rows).rst ≡ false)
before_own s rows row dev m n f q e x own calm =
    let turn : IsTurn s (run_state s rows) m (row_reading (run_state s rows).story.bus_state row) = turn_heard
    s rows row m n f q e x own.stands calm in
    let same : m ≡ n = connection_stays rows row m n x own.stands in
    (record { stands = x; own = (λ i. (same i).target == dev) ∙ own.own }, (λ i. (sym f.bus i).rst) ∙ turn.calm)

-- ---- a row that shows nothing

pub array_same : (s : ScenarioValue) (rows : List Row) (row : Row) → events_of_row s rows row ≡ []
    → array_of s (run_state s (row ∷ rows)) ≡ array_of s (run_state s rows)
array_same s rows row e = λ i. or_start s (array_after_events s (run_state s rows).array (e i))

pub standing_stays : (s : ScenarioValue) (rows : List Row) (row : Row) (dev : ℕ) (v : Standing)
    → IsPlain s rows (run_state s rows) → IsPlain s (row ∷ rows) (run_state s (row ∷ rows))
    → heard s (row ∷ rows) ≡ true → events_of_row s rows row ≡ [] → IsStandingOf s rows dev v
    → (m : Connection) → connection rows ≡ Some m → IsStandingOf s (row ∷ rows) dev v
standing_stays s rows row dev v f q e none h m x n p own calm served =
    let before = before_own s rows row dev m n f q e x own calm in
    let at : IsStanding (seat_of (array_of s (run_state s rows)) dev p.unit) p v = h m p before.0 before.1
    (sym (same_served s rows row m n f q x own.stands) ∙ served) in
    subst (λ a. IsStanding (seat_of a dev p.unit) p v) (sym (array_same s rows row none)) at

pub empty_on : (s : ScenarioValue) (rows : List Row) (row : Row) (dev : ℕ) (v : ProcessesState)
    → IsPlain s rows (run_state s rows) → IsPlain s (row ∷ rows) (run_state s (row ∷ rows))
    → HasSeats s → AreTied s (row ∷ rows) → events_of_row s rows row ≡ [] → AreAttendedOf s rows dev v
    → AreAttendedOn s rows row dev v
empty_on s rows row dev v f q seats tied none h = record {
  dev_is = h.dev_is;
  kept = stays s rows row v.units seats tied.allowed_are
      (subst (λ (l : List Event). AreOutside s v.units.dev l) (sym none) tt) h.kept;
  standing = standing_stays s rows row dev v.standing f q tied.heard_are none h.standing;
}

-- After it RST is true, and it is no reset.
pub reset_empty : (s : ScenarioValue) (rows : List Row) (row : Row)
    → (row_reading (run_state s rows).story.bus_state row).change.after.rst ≡ true
    → is_reset (events_of_row s rows row) ≡ false → events_of_row s rows row ≡ []
reset_empty s rows row r calm = go (rises d.change.own.rst d.change.next.rst) refl
  where
    d : RowReading
    d = row_reading (run_state s rows).story.bus_state row

    go : (y : Bool) → rises d.change.own.rst d.change.next.rst ≡ y → events_of_row s rows row ≡ []
    go true g =
        let bad : true ≡ false =
        sym (λ i. is_reset ((reset_is s rows row r ∙ (λ j. if g j then events.Reset row.dev ∷ [] else [])) i)) ∙ calm in
        absurd cc
    go false g = reset_is s rows row r ∙ (λ j. if g j then events.Reset row.dev ∷ [] else [])

-- ---- what is served in a row of its connection

block_by : (s : ScenarioValue) (id : ProcId) (x : CmdDef) → length x.cdb ≤ 10 → length (process_by s id x).cdb ≤ 10
block_by s id x h = go id.sense
  where
    go :
        (y : Bool) → (let q : Process = if y then sense_process s id x else command_process s id x in length q.cdb ≤ 10)
    go true = omega arith
    go false = h

pub block_few : (s : ScenarioValue) (id : ProcId) (p : Process)
    → ((n : ℕ) (x : CmdDef) → command_at s.commands n ≡ Some x → IsCommandLine s x) → process_of s id ≡ Some p
    → length p.cdb ≤ 10
block_few s id p lines e = go (command_at s.commands id.command) refl e
  where
    go : (x : Option CmdDef) → command_at s.commands id.command ≡ x → process_if s id x ≡ Some p → length p.cdb ≤ 10
    go None f k = absurd cc
    go (Some x) f k =
        let same : process_by s id x ≡ p = cc in
        subst (λ (q : Process). length q.cdb ≤ 10) same (block_by s id x (lines id.command x f).most_block)

pub opening_same : (s : ScenarioValue) (rows : List Row) (row : Row) (n : Connection) (c : CourseState)
    → IsPlain s rows (run_state s rows) → IsCourse s rows n c
    → is_opening_by n (hearing rows row) c ≡ (not n.reselected && is_opening (run_state s rows))
opening_same s rows row n c p course =
    λ i. not n.reselected && (not (sym p.begun i) || is_opening_in (phase_of (sym p.bus i)) (course.plan_is i).cause)

pub record IsServing (s : ScenarioValue) (rows : List Row) (row : Row) (dev : ℕ) (n : Connection) (c : CourseState)
    (p : Process) : Type 0 where
  pub knows : Knows s rows n c p
  pub there : process_of s p.id ≡ Some p
  pub target : p.target ≡ dev
  pub initiator : p.initiator ≡ n.initiator
  pub line : IsOfLine s p
  pub few : length p.cdb ≤ 10
  pub front : IsFront s (run_state s rows) n (instructions s rows)
  pub attended : IsAttended s rows row n
  pub shows : ShowsIn s (run_state s rows) (row_reading (run_state s rows).story.bus_state row) n
      (events_of_row s rows row)
  pub may : changes_phase (row_reading (run_state s rows).story.bus_state row).change ≡ true
      → is_some (row_reading (run_state s rows).story.bus_state row).next ≡ true
      → (run_state s rows).exchange.begun ≡ true → may_leave s (run_state s rows) n ≡ true

pub may_turn : (s : ScenarioValue) (rows : List Row) (row : Row) (n : Connection) → IsPlain s rows (run_state s rows)
    → IsPlain s (row ∷ rows) (run_state s (row ∷ rows)) → heard s (row ∷ rows) ≡ true → connection rows ≡ Some n
    → (bus (row ∷ rows)).rst ≡ false → changes_phase (row_reading (run_state s rows).story.bus_state row).change ≡ true
    → is_some (row_reading (run_state s rows).story.bus_state row).next ≡ true
    → (run_state s rows).exchange.begun ≡ true → may_leave s (run_state s rows) n ≡ true
may_turn s rows row n f q e x after turns stands begins = go (connection (row ∷ rows)) refl
  where
    k : RunState
    k = run_state s rows

    d : RowReading
    d = row_reading k.story.bus_state row

    go : (y : Option Connection) → connection (row ∷ rows) ≡ y → may_leave s k n ≡ true
    go None g = let bad : false ≡ true = sym (λ i. is_some ((q.connection ∙ g) i)) ∙ stands in absurd cc
    go (Some m) g =
        let turn : IsTurn s k n d = turn_heard s rows row n m f q e x g after in
        let parts = and_parts (not k.exchange.begun || may_leave s k n)
        (is_to (leaving s k n.target).to (phase_of d.change.after)) (turn.turn turns) in
        implied k.exchange.begun (may_leave s k n) parts.0 begins

-- In a connection of its own, while RST is false before the row and after it.
pub serving_row : (s : ScenarioValue) (rows : List Row) (row : Row) (dev : ℕ) (n : Connection) (c : CourseState)
    → IsPlain s rows (run_state s rows) → IsPlain s (row ∷ rows) (run_state s (row ∷ rows)) → AreTied s (row ∷ rows)
    → ((m : ℕ) (x : CmdDef) → command_at s.commands m ≡ Some x → IsCommandLine s x) → IsOwnConnection rows dev n
    → (bus rows).rst ≡ false → (row_reading (run_state s rows).story.bus_state row).change.after.rst ≡ false
    → IsCourse s rows n c → (n.reselected ≡ false → is_opening (run_state s rows) ≡ false)
    → abort_of (events_of_row s rows row) ≡ None → is_any (events_of_row s rows row) ≡ true
    → (p : Process) × IsServing s rows row dev n c p
serving_row s rows row dev n c f q tied lines own calm after course closed none any =
    by (shown_item s k d n (events_of_row s rows row) shows attends.within none any)
  where
    k : RunState
    k = run_state s rows

    d : RowReading
    d = row_reading k.story.bus_state row

    at : k.story.bus_state.connection ≡ Some n
    at = f.connection ∙ own.stands

    attends : IsAttended s rows row n
    attends = attended_in s rows row n tied.attended_are at ((λ i. (f.bus i).rst) ∙ calm) after

    shows : ShowsIn s k d n (events_of_row s rows row)
    shows = row_shows s rows row n tied.telling_are after at

    front : IsFront s k n (instructions s rows)
    front = front_heard s rows n f (heard_before s rows row tied.heard_are) own.stands calm

    with_process : (p : Process) → process_served s k ≡ Some p → (p : Process) × IsServing s rows row dev n c p
    with_process p is =
        let there : process_of s p.id ≡ Some p = (number_is s k.served p is).1 in
        let ends = course.ends_are p is in (
          p,
          record {
            knows = knows s rows n c p front course is (block_few s p.id p lines there) closed;
            there = there;
            target = ends.target ∙ eqb-true n.target dev own.own;
            initiator = ends.initiator;
            line = line_of_process s p.id p lines there;
            few = block_few s p.id p lines there;
            front = front;
            attended = attends;
            shows = shows;
            may = may_turn s rows row n f q tied.heard_are own.stands ((λ i. (sym q.bus i).rst) ∙ after);
          },
        )

    by : IsItem k.served → (p : Process) × IsServing s rows row dev n c p
    by item = go (process_of s item.id) refl ((λ i. is_of_scenario s (sym item.is i)) ∙ front.there)
      where
        go : (z : Option Process) → process_of s item.id ≡ z → is_of_scenario s (Some (process item.id)) ≡ true
            → (p : Process) × IsServing s rows row dev n c p
        go None g h = let bad : false ≡ true = sym (λ i. is_some (g i)) ∙ h in absurd cc
        go (Some p) g h = with_process p ((λ i. process_item s (item.is i)) ∙ g)

any_or_none : (shown : List Event) → (shown ≡ []) ⊎ (is_any shown ≡ true)
any_or_none [] = inl refl
any_or_none (e ∷ shown) = inr refl

-- Where it is no reset and no abort: nothing, or events of the process that is served.
pub row_serves : (s : ScenarioValue) (rows : List Row) (row : Row) (dev : ℕ) (n : Connection) (c : CourseState)
    → IsPlain s rows (run_state s rows) → IsPlain s (row ∷ rows) (run_state s (row ∷ rows)) → AreTied s (row ∷ rows)
    → ((m : ℕ) (x : CmdDef) → command_at s.commands m ≡ Some x → IsCommandLine s x) → IsOwnConnection rows dev n
    → (bus rows).rst ≡ false → IsCourse s rows n c → (n.reselected ≡ false → is_opening (run_state s rows) ≡ false)
    → is_reset (events_of_row s rows row) ≡ false → abort_of (events_of_row s rows row) ≡ None
    → (events_of_row s rows row ≡ []) ⊎ ((p : Process) × IsServing s rows row dev n c p)
row_serves s rows row dev n c f q tied lines own calm course closed reset none =
    go (row_reading (run_state s rows).story.bus_state row).change.after.rst refl
  where
    shown : List Event
    shown = events_of_row s rows row

    by : (row_reading (run_state s rows).story.bus_state row).change.after.rst ≡ false
        → (shown ≡ []) ⊎ (is_any shown ≡ true) → (shown ≡ []) ⊎ ((p : Process) × IsServing s rows row dev n c p)
    by after (inl e) = inl e
    by after (inr e) = inr (serving_row s rows row dev n c f q tied lines own calm after course closed none e)

    go : (y : Bool) → (row_reading (run_state s rows).story.bus_state row).change.after.rst ≡ y
        → (shown ≡ []) ⊎ ((p : Process) × IsServing s rows row dev n c p)
    go true after = inl (reset_empty s rows row after reset)
    go false after = by after (any_or_none shown)

-- The opening does not stand.
pub unopened : (s : ScenarioValue) (rows : List Row) (row : Row) (n : Connection) (c : CourseState) (t : Bool)
    → IsPlain s rows (run_state s rows) → IsCourse s rows n c → t ≡ is_opening_by n (hearing rows row) c → t ≡ false
    → n.reselected ≡ false → is_opening (run_state s rows) ≡ false
unopened s rows row n c t p course is none r =
    sym (λ i. not (r i) && is_opening (run_state s rows)) ∙ sym (is ∙ opening_same s rows row n c p course) ∙ none
