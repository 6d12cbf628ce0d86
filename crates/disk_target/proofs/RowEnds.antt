-- A row of its connection in which an abort is shown, or the opening stands.
use Rattle.std.proofs.Common.{ℕ, ◌≡◌, ◌<◌, ◌∙◌, ◌==◌, arith, Bool, true, false, List, [], ◌∷◌, refl, sym, subst, Option}
use Rattle.std.proofs.Common.{Some, None}
use Rattle.std.specs.Prelude.{if◌then◌else◌, not, ◌&&◌, ◌||◌, is_some, nat_lt}
use Rattle.std.proofs.lemmas.Bool.{and_parts, eqb-true}
use Rattle.std.proofs.lemmas.Bool.Decides.{nat_tests}
use Rattle.bus_base.specs.declared.AbortKind.{AbortKind}
use Rattle.bus_base.specs.declared.Event.{Event}
use Rattle.bus_base.specs.declared.Event.TheVariants as events
use Rattle.bus_base.specs.declared.ProcId.{ProcId}
use Rattle.bus_trace.specs.declared.Row.{Row}
use Rattle.bus_trace.specs.declared.connection.Connection.{Connection}
use Rattle.bus_trace.specs.Terms.{connection}
use Rattle.bus_trace.specs.Trace.{bus}
use Rattle.scenario.specs.Value.{ScenarioValue}
use Rattle.array_model.specs.Processes.{Process, process_of}
use Rattle.array_model.specs.SoundArray.{HasSeats}
use Rattle.scenario.specs.declared.value.CmdDef.{CmdDef}
use Rattle.array_model.specs.Processes.{command_at}
use Rattle.target_course.specs.scsi_device.specs.Lines.{IsCommandLine}
use Rattle.due_model.specs.story_model.specs.BusState.{RowReading, row_reading}
use Rattle.due_model.specs.story_model.specs.Items.{Item, process, abort}
use Rattle.due_model.specs.dialogue_model.specs.Hearing.{hearing}
use Rattle.due_model.specs.dialogue_model.specs.Events.{is_empty}
use Rattle.due_model.specs.Plain.{IsPlain}
use Rattle.due_model.specs.RunState.{RunState, array_of, process_item, process_served}
use Rattle.due_model.specs.RunSteps.{run_state, events_of_row}
use Rattle.due_model.specs.Telling.{id_of}
use Rattle.target_course.specs.scsi_device.specs.Heard.{instructions, is_new, is_of_scenario, is_opening}
use Rattle.target_course.specs.Courses.{CourseState, IsCourse}
use Rattle.target_course.specs.States.{IsOwnConnection}
use Rattle.target_course.proofs.CourseAgrees.{IsFront, front_heard}
use Rattle.target_course.proofs.CourseRows.{heard_before}
use Rattle.target_course.proofs.ReplyRows.{Shape, number_is, shown_of}
use Rattle.target_course.proofs.ReplyRows as shapes
use Rattle.disk_target.specs.Attended.{are_in, is_abort_in, is_of_item, is_unseen}
use Rattle.disk_target.specs.Processes.{ProcessesState}
use Rattle.disk_target.specs.Targets.{AreTied, IsStandingOf}
use Rattle.disk_target.specs.Turns.{AreAttendedOf, AreAttendedOn, abort_of, is_opening_by, is_reset}
use Rattle.disk_target.specs.declared.standing.Standing.{Standing}
use Rattle.disk_target.specs.declared.turn.Abort.{Abort}
use Rattle.disk_target.proofs.Lines.{line_of_process}
use Rattle.disk_target.proofs.LostUnits.{lost_row}
use Rattle.disk_target.proofs.RowOutside.{attended_in}
use Rattle.disk_target.proofs.RowServed.{empty_on, opening_same, reset_empty}
use Rattle.disk_target.proofs.RowShapes.{ShowsIn, nothing, turned, lost, aborted, ended, row_shows}
use Rattle.bus_base.proofs.Tests.{or_second}
use Rattle.due_model.specs.dialogue_model.proofs.Leavings.{empty_is}

-- ---- the connection ends with the row

pub standing_ends : (s : ScenarioValue) (rows : List Row) (row : Row) (dev : ℕ) (v : Standing)
    → IsPlain s (row ∷ rows) (run_state s (row ∷ rows))
    → is_some (row_reading (run_state s rows).story.bus_state row).next ≡ false → IsStandingOf s (row ∷ rows) dev v
standing_ends s rows row dev v q none n p own calm is =
    let bad : true ≡ false = sym (λ i. is_some ((q.connection ∙ own.stands) i)) ∙ none in
    absurd cc

-- ---- an abort

shape_none : (i : ProcId) (x : Shape) → abort_of (shown_of i x) ≡ None
shape_none i shapes.nothing = refl
shape_none i shapes.accepts = refl
shape_none i shapes.refuses = refl
shape_none i shapes.runs = refl
shape_none i (shapes.fails code) = refl
shape_none i shapes.accepts_and_runs = refl

pub record IsAbortShown (s : ScenarioValue) (rows : List Row) (row : Row) (n : Connection) (a : Abort) : Type 0 where
  pub shown : events_of_row s rows row ≡ events.Aborted a.by n.target a.unit a.kind ∷ []
  pub unit : a.unit < 8
  pub by : a.by < 8
  pub ends : is_some (row_reading (run_state s rows).story.bus_state row).next ≡ false

no_item : (item : Option Item) (host target unit : ℕ) (what : AbortKind)
    → is_of_item item (events.Aborted host target unit what) ≡ false
no_item None host target unit what = refl
no_item (Some (process id)) host target unit what = refl
no_item (Some (abort m)) host target unit what = refl

below_eight : (n : ℕ) → nat_lt n 8 ≡ true → n < 8
below_eight n e = grind (arith, nat_tests)

pub abort_shown : (s : ScenarioValue) (rows : List Row) (row : Row) (n : Connection) (a : Abort)
    → IsPlain s rows (run_state s rows) → AreTied s (row ∷ rows) → connection rows ≡ Some n → (bus rows).rst ≡ false
    → is_reset (events_of_row s rows row) ≡ false → abort_of (events_of_row s rows row) ≡ Some a
    → IsAbortShown s rows row n a
abort_shown s rows row n a f tied x calm reset is = go d.change.after.rst refl
  where
    k : RunState
    k = run_state s rows

    d : RowReading
    d = row_reading k.story.bus_state row

    by : d.change.after.rst ≡ false → ShowsIn s k d n (events_of_row s rows row) → IsAbortShown s rows row n a
    by after (nothing e) = let bad : None ≡ Some a = sym (λ i. abort_of (e i)) ∙ is in absurd cc
    by after (turned i y e g b st ch t) =
        let bad : None ≡ Some a = sym (shape_none i y) ∙ sym (λ j. abort_of (g j)) ∙ is in
        absurd cc
    by after (lost i e g st) = let bad : None ≡ Some a = sym (λ j. abort_of (g j)) ∙ is in absurd cc
    by after (ended i status g st) = let bad : None ≡ Some a = sym (λ j. abort_of (g j)) ∙ is in absurd cc
    by after (aborted unit what g st) =
        let one : Abort = record { unit = unit; kind = what; by = n.initiator } in
        let both : Some one ≡ Some a = sym (λ j. abort_of (g j)) ∙ is in
        let same : one ≡ a = cc in
        let within =
        (attended_in s rows row n tied.attended_are (f.connection ∙ x) ((λ i. (f.bus i).rst) ∙ calm) after).within in
        let event : Event = events.Aborted n.initiator n.target unit what in
        let first = and_parts (is_of_item k.served event || is_abort_in n event) true
        ((λ j. are_in n k.served (sym g j)) ∙ within) in
        let inside = or_second (is_of_item k.served event) (is_abort_in n event) first.0
        (no_item k.served n.initiator n.target unit what) in
        let bounds = and_parts (n.initiator == n.initiator && n.target == n.target)
        (nat_lt unit 8 && nat_lt n.initiator 8) inside in
        let two = and_parts (nat_lt unit 8) (nat_lt n.initiator 8) bounds.1 in
        subst (λ (z : Abort). IsAbortShown s rows row n z) same
        (record { shown = g; unit = below_eight unit two.0; by = below_eight n.initiator two.1; ends = st })

    go : (y : Bool) → d.change.after.rst ≡ y → IsAbortShown s rows row n a
    go true after =
        let bad : None ≡ Some a = sym (λ i. abort_of (reset_empty s rows row after reset i)) ∙ is in
        absurd cc
    go false after = by after (row_shows s rows row n tied.telling_are after (f.connection ∙ x))

-- ---- in the opening

quiet_in : (x y z : Bool) → (x || not y || z) ≡ true → x ≡ false → y ≡ true → z ≡ true
quiet_in true y z e f g = cc
quiet_in false true z e f g = e
quiet_in false false z e f g = cc

item_is : (item : Option Item) (i : ProcId) → id_of item ≡ Some i → item ≡ Some (process i)
item_is None i e = absurd cc
item_is (Some (abort m)) i e = absurd cc
item_is (Some (process id)) i e = let same : id ≡ i = cc in λ j. Some (process (same j))

pub opening_on : (s : ScenarioValue) (rows : List Row) (row : Row) (dev : ℕ)
    (n : Connection) (c : CourseState) (t : Bool) (v : ProcessesState)
    → IsPlain s rows (run_state s rows) → IsPlain s (row ∷ rows) (run_state s (row ∷ rows)) → HasSeats s
    → AreTied s (row ∷ rows) → ((m : ℕ) (x : CmdDef) → command_at s.commands m ≡ Some x → IsCommandLine s x)
    → IsOwnConnection rows dev n → (bus rows).rst ≡ false → IsCourse s rows n c
    → t ≡ is_opening_by n (hearing rows row) c → t ≡ true → is_reset (events_of_row s rows row) ≡ false
    → abort_of (events_of_row s rows row) ≡ None → AreAttendedOf s rows dev v → AreAttendedOn s rows row dev v
opening_on s rows row dev n c t v f q seats tied lines own calm course is opens reset none h =
    go d.change.after.rst refl
  where
    k : RunState
    k = run_state s rows

    d : RowReading
    d = row_reading k.story.bus_state row

    shown : List Event
    shown = events_of_row s rows row

    nothing_on : shown ≡ [] → AreAttendedOn s rows row dev v
    nothing_on e = empty_on s rows row dev v f q seats tied e h

    parts : (not n.reselected ≡ true) × (is_opening k ≡ true)
    parts = and_parts (not n.reselected) (is_opening k) (sym (is ∙ opening_same s rows row n c f course) ∙ opens)

    selected : (x : Bool) → not x ≡ true → x ≡ false
    selected true e = cc
    selected false e = refl

    quiet : d.change.after.rst ≡ false
        → (if is_some d.next then is_empty shown else is_unseen (array_of s k) (process_served s k)) ≡ true
    quiet after = quiet_in n.reselected (is_opening k)
        (if is_some d.next then is_empty shown else is_unseen (array_of s k) (process_served s k))
        (attended_in s rows row n tied.attended_are (f.connection ∙ own.stands)
        ((λ i. (f.bus i).rst) ∙ calm) after).quiet (selected n.reselected parts.0) parts.1

    standing_still : d.change.after.rst ≡ false → is_some d.next ≡ true → AreAttendedOn s rows row dev v
    standing_still after st = nothing_on (empty_is shown
        ((λ i. if sym st i then is_empty shown else is_unseen (array_of s k) (process_served s k)) ∙ quiet after))

    losing : (i : ProcId) → k.served ≡ Some (process i) → shown ≡ events.Lost i ∷ [] → is_some d.next ≡ false
        → (if is_some d.next then is_empty shown else is_unseen (array_of s k) (process_served s k)) ≡ true
        → AreAttendedOn s rows row dev v
    losing i e g st unseen = by (process_of s i) refl ((λ j. is_of_scenario s (sym e j)) ∙ front.there)
      where
        front : IsFront s k n (instructions s rows)
        front = front_heard s rows n f (heard_before s rows row tied.heard_are) own.stands calm

        by : (z : Option Process) → process_of s i ≡ z → is_of_scenario s (Some (process i)) ≡ true
            → AreAttendedOn s rows row dev v
        by None y w = let bad : false ≡ true = sym (λ j. is_some (y j)) ∙ w in absurd cc
        by (Some p) y w =
            let served : process_served s k ≡ Some p = (λ j. process_item s (e j)) ∙ y in
            let number = number_is s k.served p served in
            let both : Some i ≡ Some p.id = sym (λ j. id_of (e j)) ∙ number.0 in
            let same : i ≡ p.id = cc in
            let ends = course.ends_are p served in
            let line = line_of_process s p.id p lines number.1 in
            let new : is_new (array_of s k) p ≡ true =
            sym (λ j. if st j then is_empty shown else is_unseen (array_of s k) (served j)) ∙ unseen in
            record {
              dev_is = h.dev_is;
              kept =
                  lost_row s rows row p v.units seats tied.allowed_are (g ∙ (λ j. events.Lost (same j) ∷ [])) (record {
                    is = number.1;
                    target_is = ends.target ∙ eqb-true n.target dev own.own ∙ sym h.dev_is;
                    unit_is = refl;
                  }) line.unit new h.kept;
              standing = λ m at. standing_ends s rows row dev v.standing q st;
            }

    by : d.change.after.rst ≡ false → ShowsIn s k d n shown → AreAttendedOn s rows row dev v
    by after (nothing e) = nothing_on e
    by after (turned i y e g b st ch w) = standing_still after st
    by after (lost i e g st) = losing i (item_is k.served i e) g st (quiet after)
    by after (aborted unit what g st) = let bad : None ≡ Some _ = sym none ∙ (λ j. abort_of (g j)) in absurd cc
    by after (ended i status g st) = standing_still after st

    go : (y : Bool) → d.change.after.rst ≡ y → AreAttendedOn s rows row dev v
    go true after = nothing_on (reset_empty s rows row after reset)
    go false after = by after (row_shows s rows row n tied.telling_are after (f.connection ∙ own.stands))
