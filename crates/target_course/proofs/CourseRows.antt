-- The course of a connection, row by row, under what targets hear.
use Rattle.std.proofs.Common.{ℕ, ◌≡◌, ◌∙◌, ◌==◌, ◌<◌, Bool, true, false, List, [], ◌∷◌, refl, sym, subst, Option, Some}
use Rattle.std.proofs.Common.{None}
use Rattle.std.specs.Prelude.{if◌then◌else◌, not, ◌&&◌, ◌||◌, nat_lt, is_some}
use Rattle.std.proofs.lemmas.Bool.{eqb-true, and_parts}
use Rattle.bus_base.specs.declared.ProcId.{ProcId}
use Rattle.bus_trace.specs.declared.Row.{Row}
use Rattle.bus_trace.specs.declared.connection.Connection.{Connection}
use Rattle.bus_trace.specs.LineSet.{LineSet}
use Rattle.bus_trace.specs.Phases.{is_data, changes_phase}
use Rattle.bus_trace.specs.Terms.{connection}
use Rattle.bus_trace.specs.Trace.{bus, drives}
use Rattle.bus_lines.specs.Handshakes.{handshakes}
use Rattle.scenario.specs.declared.value.TargetDef.{TargetDef}
use Rattle.array_model.specs.Processes.{command_at, process_if, process_of}
use Rattle.array_model.proofs.SeatLookups.{none_at}
use Rattle.due_model.specs.story_model.specs.Items.{Item, process, abort}
use Rattle.due_model.specs.dialogue_model.specs.Events.{leaving_events}
use Rattle.due_model.specs.dialogue_model.specs.Wants.{Ready}
use Rattle.due_model.specs.Faithful.{faithful, same_process}
use Rattle.due_model.specs.LastingState.{has_negotiated}
use Rattle.due_model.specs.Telling.{id_of, target_events}
use Rattle.due_model.specs.Wants.{ready_of}
use Rattle.target_course.specs.declared.course.Name.{Name}
use Rattle.scenario.specs.Value.{ScenarioValue}
use Rattle.due_model.specs.story_model.specs.BusState.{RowReading, row_reading}
use Rattle.due_model.specs.dialogue_model.specs.declared.exchange.Leaving.{Leaving}
use Rattle.due_model.specs.dialogue_model.specs.Hearing.{begun, hearing}
use Rattle.due_model.specs.dialogue_model.specs.NextPhase.{Serving, leaving_by, phase_of}
use Rattle.due_model.specs.dialogue_model.specs.Ends.{follows_by, is_pulsed_phase, offering_by}
use Rattle.due_model.specs.Defs.{target_def_of}
use Rattle.due_model.specs.Plain.{IsPlain}
use Rattle.due_model.specs.RunState.{RunState, bus_of, agreement_of, drives_of, item_of}
use Rattle.due_model.specs.RunSteps.{run_state}
use Rattle.due_model.specs.Sights.{hearing_of, pace_of, serving_of}
use Rattle.due_model.specs.Tasks.{given_of}
use Rattle.bus_phases.specs.Dialogue.{dialogue}
use Rattle.target_units.specs.scsi_device.specs.Heard.{instructions, heard, is_message, is_of_scenario, is_true_turn}
use Rattle.target_units.specs.scsi_device.specs.Heard.{is_heard_after, may_leave}
use Rattle.target_course.specs.declared.course.ProcessState.{ProcessState}
use Rattle.target_course.specs.Agreeing.{AreAgreeing}
use Rattle.target_course.specs.Alike.{AreAlike}
use Rattle.target_course.specs.States.{AreAlikeIn, IsOwnConnection, offering_in}
use Rattle.target_course.specs.Courses.{CourseState, course_selected, course_reselected, course_after, course_events}
use Rattle.target_course.specs.Courses.{events_of_target, id_known, serving_by, IsLabelOf, IsReadyProcess, IsCourse}
use Rattle.target_course.specs.Courses.{IsCourseOf, AreToldOf}
use Rattle.target_course.proofs.Agreeing.{events_agree, leavings_agree, offers_agree}
use Rattle.target_course.proofs.Courses.{course_goes_on}
use Rattle.target_course.proofs.CourseBegins.{course_is_selected, course_is_reselected}
use Rattle.target_course.proofs.CourseAgrees.{end_heard, IsFront, IsTurn, front_heard, turn_heard, courses_agree, stops}
use Rattle.bus_base.proofs.Tests.{or_second, implied, middle}

-- Its line of the scenario, as the target of this connection.
pub line_of_own : (s : ScenarioValue) (rows : List Row) (n : Connection) (d : TargetDef) → IsOwnConnection rows d.dev n
    → target_def_of s d.dev ≡ Some d → target_def_of s n.target ≡ Some d
line_of_own s rows n d o line = (λ i. target_def_of s (eqb-true n.target d.dev o.own i)) ∙ line

pub heard_before : (s : ScenarioValue) (rows : List Row) (row : Row) → heard s (row ∷ rows) ≡ true → heard s rows ≡ true
heard_before s rows row e =
    let last = and_parts (heard s rows) (is_heard_after s (run_state s rows) (run_state s (row ∷ rows))
    (row_reading (run_state s rows).story.bus_state row) (instructions s (row ∷ rows))) e in
    last.0

-- ---- as a phase is left

pub left_alike : (s : ScenarioValue) (rows : List Row) (m : Connection)
    (d : TargetDef) (c : CourseState) (f : ProcessState) (row : Row)
    → IsFront s (run_state s rows) m (instructions s rows) → target_def_of s m.target ≡ Some d
    → IsCourse s rows m c → AreToldOf s rows c f → (y : Bool) → (run_state s rows).exchange.begun ≡ y
    → is_true_turn s (run_state s rows) m (row_reading (run_state s rows).story.bus_state row) ≡ true
    → leaving_by (serving_by d c f (given_of s (run_state s rows))) y (bus_of (run_state s rows))
    ≡ leaving_by (serving_of s (run_state s rows) m.target) y (bus_of (run_state s rows))
left_alike s rows m d c f row front line course told false b e = refl
left_alike s rows m d c f row front line course told true b e =
    let k : RunState = run_state s rows in
    let parts = and_parts (not k.exchange.begun || may_leave s k m) _ e in
    let may : may_leave s k m ≡ true = implied k.exchange.begun (may_leave s k m) parts.0 b in
    let v : Serving = serving_by d c f (given_of s k) in
    let w : Serving = serving_of s k m.target in
    let a : AreAgreeing true (phase_of (bus_of k)) v w = subst (λ (y : Bool). AreAgreeing y (phase_of (bus_of k)) v w)
    may (courses_agree s rows m d c f front b line course told) in
    leavings_agree v w (pace_of s k m.target).pulsed (bus_of k) k.handshakes
    (λ q. middle k.exchange.begun (is_data (bus_of k)) (nat_lt 0 (agreement_of k).offset) q) a (stops s k m may)

-- ---- a row in a connection of its own

pub course_seen : (s : ScenarioValue) (rows : List Row) (row : Row) (m : Connection)
    (d : TargetDef) (f : ProcessState) (l : Leaving) (c : CourseState)
    → IsPlain s rows (run_state s rows) → IsPlain s (row ∷ rows) (run_state s (row ∷ rows))
    → hearing_of (run_state s rows) row (row_reading (run_state s rows).story.bus_state row) ≡ hearing rows row
    → IsOwnConnection rows d.dev m → target_def_of s d.dev ≡ Some d → heard s (row ∷ rows) ≡ true
    → AreToldOf s rows c f → l ≡ leaving_by (serving_by d c f (given_of s (run_state s rows))) (begun rows) (bus rows)
    → IsCourseOf s rows d.dev c → IsCourseOf s (row ∷ rows) d.dev (course_after (hearing rows row) l c)
course_seen s rows row m d f l c p q h o line e told left old n own calm =
    let k : RunState = run_state s rows in
    let r : RowReading = row_reading k.story.bus_state row in
    let turn : IsTurn s k m r = turn_heard s rows row m n p q e o.stands own.stands calm in
    let before : (bus rows).rst ≡ false = (λ i. (sym p.bus i).rst) ∙ turn.calm in
    let front : IsFront s k m (instructions s rows) = front_heard s rows m p
    (heard_before s rows row e) o.stands before in
    let course : IsCourse s rows m c = old m o before in
    course_goes_on s rows row m n l c p q h o.stands own.stands
    (λ g. left ∙ (λ i. leaving_by (serving_by d c f (given_of s k)) (sym p.begun i) (sym p.bus i))
    ∙ left_alike s rows m d c f row front (line_of_own s rows m d o line) course told k.exchange.begun refl
    (turn.turn ((λ i. changes_phase (h i).change) ∙ g))) course

-- ---- what it has to do in the phase

offers_in : (s : ScenarioValue) (rows : List Row) (n : Connection) (d : TargetDef) (c : CourseState) (f : ProcessState)
    → d.dev < 8 → IsPlain s rows (run_state s rows) → IsOwnConnection rows d.dev n
    → target_def_of s d.dev ≡ Some d → heard s rows ≡ true → (bus rows).rst ≡ false
    → AreToldOf s rows c f → IsCourse s rows n c → (y : Bool) → begun rows ≡ y
    → (pulsed : Bool) → pulsed ≡ is_pulsed_phase (begun rows) (bus rows) (dialogue rows).heard.now.agreement
    → AreAlike y pulsed (drives rows d.dev).req (bus rows).io (handshakes rows).requests
    (offering_by (serving_by d c f (given_of s (run_state s rows))) y pulsed (bus rows) (handshakes rows))
    (offering_by (serving_of s (run_state s rows) d.dev) y pulsed (bus rows) (handshakes rows))
offers_in s rows n d c f below p o line e calm told course false b pulsed g =
    record { follows = λ z. cc; byte = λ z. absurd cc; to = λ z. absurd cc; wait = λ z. absurd cc }
offers_in s rows n d c f below p o line e calm told course true b pulsed g =
    let k : RunState = run_state s rows in
    let v : Serving = serving_by d c f (given_of s k) in
    let w : Serving = serving_of s k d.dev in
    let target : n.target ≡ d.dev = eqb-true n.target d.dev o.own in
    let begins : k.exchange.begun ≡ true = p.begun ∙ b in
    let pace : (pace_of s k n.target).pulsed ≡ pulsed =
    (λ i. is_pulsed_phase (p.begun i) (p.bus i) (p.dialogue i).heard.now.agreement) ∙ sym g in
    let front : IsFront s k n (instructions s rows) = front_heard s rows n p e o.stands calm in
    let a : AreAgreeing (may_leave s k n) (phase_of (bus_of k)) v (serving_of s k n.target) = courses_agree
    s rows n d c f front begins (line_of_own s rows n d o line) course told in
    let owned : AreAgreeing (may_leave s k n) (phase_of (bus_of k)) v w = subst
    (λ (dev : ℕ). AreAgreeing (may_leave s k n) (phase_of (bus_of k)) v (serving_of s k dev)) target a in
    let leaves : may_leave s k n
    ≡ (not (drives rows d.dev).req && not (follows_by w pulsed (bus rows) (handshakes rows))) =
    (λ i. begins i && not (drives_of k (target i)).req
    && not (follows_by (serving_of s k (target i)) (pace i) (p.bus i) (p.handshakes i)))
    ∙ (λ i. not (p.drives d.dev below i).req && not (follows_by w pulsed (bus rows) (handshakes rows))) in
    let one : AreAgreeing (not (drives rows d.dev).req && not (follows_by w pulsed (bus rows) (handshakes rows)))
    (phase_of (bus_of k)) v w = subst (λ (y : Bool). AreAgreeing y (phase_of (bus_of k)) v w) leaves owned in
    offers_agree v w (drives rows d.dev).req pulsed (bus rows) (handshakes rows)
    (λ z. middle (begun rows) (is_data (bus rows)) (nat_lt 0 (dialogue rows).heard.now.agreement.offset) (sym g ∙ z))
    (subst (λ (x : LineSet). AreAgreeing
    (not (drives rows d.dev).req && not (follows_by w pulsed (bus rows) (handshakes rows))) (phase_of x) v w) p.bus one)

pub course_offers : (s : ScenarioValue) (rows : List Row) (d : TargetDef) (c : CourseState) (f : ProcessState)
    → d.dev < 8 → IsPlain s rows (run_state s rows) → target_def_of s d.dev ≡ Some d
    → heard s rows ≡ true → AreToldOf s rows c f → IsCourseOf s rows d.dev c
    → (n : Connection) → IsOwnConnection rows d.dev n → (bus rows).rst ≡ false
    → AreAlikeIn rows d.dev (offering_in rows (serving_by d c f (given_of s (run_state s rows))))
    (offering_in rows (serving_of s (run_state s rows) d.dev))
course_offers s rows d c f below p line e told course n o calm = offers_in s rows n d c f below p o line e calm told
    (course n o calm) (begun rows) refl (is_pulsed_phase (begun rows) (bus rows) (dialogue rows).heard.now.agreement)
    refl

-- ---- which events it shows

numbered : (s : ScenarioValue) (id : ProcId) → is_some (process_of s id) ≡ true → (id.command == 0) ≡ false
numbered s id e = go (id.command == 0) refl
  where
    go : (y : Bool) → (id.command == 0) ≡ y → y ≡ false
    go false z = refl
    go true z =
        let never : false ≡ true =
        sym ((λ i. is_some (process_if s id (command_at s.commands (eqb-true id.command 0 z i))))
        ∙ (λ i. is_some (process_if s id (none_at s.commands i)))) ∙ e in
        cc

pub ids_agree : (s : ScenarioValue) (x : Option Item) (id : ProcId) → is_of_scenario s x ≡ true → IsLabelOf x id
    → id_known id ≡ id_of x
ids_agree s None id e l = cc
ids_agree s (Some (abort n)) id e l = λ i. if l.abort_is n refl i then None else Some id
ids_agree s (Some (process z)) id e l =
    (λ i. if (l.process_is z refl i).command == 0 then None else Some (l.process_is z refl i))
    ∙ (λ i. if numbered s z e i then None else Some z)

pub course_tells : (s : ScenarioValue) (rows : List Row) (m : Connection) (d : TargetDef)
    (c : CourseState) (f : ProcessState) (stands : Bool) → IsPlain s rows (run_state s rows)
    → IsFront s (run_state s rows) m (instructions s rows) → target_def_of s m.target ≡ Some d → IsCourse s rows m c
    → AreToldOf s rows c f → ((run_state s rows).exchange.begun ≡ true → may_leave s (run_state s rows) m ≡ true)
    → leaving_events (serving_by d c f (given_of s (run_state s rows))) m (begun rows) stands (bus rows).atn
    (phase_of (bus rows)) (id_known c.id) ≡ target_events s (run_state s rows) m stands
course_tells s rows m d c f stands p front line course told may = (λ i. leaving_events v m (sym p.begun i) stands
    (sym p.bus i).atn (phase_of (sym p.bus i)) (ids_agree s k.served c.id front.there course.label_is i))
    ∙ go k.exchange.begun refl
  where
    k : RunState
    k = run_state s rows

    v : Serving
    v = serving_by d c f (given_of s k)

    w : Serving
    w = serving_of s k m.target

    go : (y : Bool) → k.exchange.begun ≡ y
        → leaving_events v m y stands (bus_of k).atn (phase_of (bus_of k)) (id_of k.served)
        ≡ leaving_events w m y stands (bus_of k).atn (phase_of (bus_of k)) (id_of k.served)
    go false b = refl
    go true b =
        let leaves : may_leave s k m ≡ true = may b in
        let a : AreAgreeing true (phase_of (bus_of k)) v w = subst
        (λ (y : Bool). AreAgreeing y (phase_of (bus_of k)) v w) leaves
        (courses_agree s rows m d c f front b line course told) in
        events_agree v w (pace_of s k m.target).pulsed (bus_of k) k.handshakes m stands (id_of k.served)
        (λ q. middle k.exchange.begun (is_data (bus_of k)) (nat_lt 0 (agreement_of k).offset) q) a (stops s k m leaves)

-- With a row of its connection.
pub course_shows : (s : ScenarioValue) (rows : List Row) (row : Row) (m : Connection) (d : TargetDef) (f : ProcessState)
    (c : CourseState) → IsPlain s rows (run_state s rows) → IsPlain s (row ∷ rows) (run_state s (row ∷ rows))
    → hearing_of (run_state s rows) row (row_reading (run_state s rows).story.bus_state row) ≡ hearing rows row
    → IsOwnConnection rows d.dev m → target_def_of s d.dev ≡ Some d → heard s (row ∷ rows) ≡ true
    → (bus rows).rst ≡ false → (bus (row ∷ rows)).rst ≡ false → AreToldOf s rows c f → IsCourseOf s rows d.dev c
    → course_events c (serving_by d c f (given_of s (run_state s rows))) m (hearing rows row) (connection (row ∷ rows))
    ≡ events_of_target s rows row m
course_shows s rows row m d f c p q h o line e before after told old =
    go (changes_phase (hearing rows row).change) refl (connection (row ∷ rows)) refl
  where
    k : RunState
    k = run_state s rows

    front : IsFront s k m (instructions s rows)
    front = front_heard s rows m p (heard_before s rows row e) o.stands before

    tells : (stands : Bool) → (k.exchange.begun ≡ true → may_leave s k m ≡ true)
        → leaving_events (serving_by d c f (given_of s k)) m (begun rows) stands (bus rows).atn (phase_of (bus rows))
        (id_known c.id) ≡ target_events s k m stands
    tells stands may =
        course_tells s rows m d c f stands p front (line_of_own s rows m d o line) (old m o before) told may

    turned : (n : Connection) → connection (row ∷ rows) ≡ Some n → changes_phase (hearing rows row).change ≡ true
        → k.exchange.begun ≡ true → may_leave s k m ≡ true
    turned n y g b =
        let turn : IsTurn s k m (row_reading k.story.bus_state row) = turn_heard
        s rows row m n p q e o.stands y after in
        let parts = and_parts (not k.exchange.begun || may_leave s k m) _
        (turn.turn ((λ i. changes_phase (h i).change) ∙ g)) in
        implied k.exchange.begun (may_leave s k m) parts.0 b

    go : (x : Bool) → changes_phase (hearing rows row).change ≡ x
        → (y : Option Connection) → connection (row ∷ rows) ≡ y
        → (if x || not (is_some y) then leaving_events (serving_by d c f (given_of s k)) m (hearing rows row).begun
        (is_some y) (hearing rows row).change.before.atn (phase_of (hearing rows row).change.before) (id_known c.id)
        else []) ≡ (if x || not (is_some y) then target_events s k m (is_some y) else [])
    go true g (Some n) y = tells true (turned n y g)
    go true g None y = tells false (λ b. end_heard s rows row m p q e o.stands y after before)
    go false g None y = tells false (λ b. end_heard s rows row m p q e o.stands y after before)
    go false g (Some n) y = refl

-- ---- it begins

pub course_selected_heard :
    (s : ScenarioValue) (rows : List Row) (row : Row) (n : Connection) (dev : ℕ) (id : ProcId) (negotiates : Bool)
    → IsPlain s rows (run_state s rows) → IsPlain s (row ∷ rows) (run_state s (row ∷ rows)) → connection rows ≡ None
    → connection (row ∷ rows) ≡ Some n → n.reselected ≡ false → faithful s (row ∷ rows) ≡ true
    → heard s (row ∷ rows) ≡ true → IsLabelOf (item_of (run_state s (row ∷ rows)).story.link) id
    → negotiates ≡ not (has_negotiated (run_state s rows).negotiated n.initiator n.target)
    → IsCourseOf s (row ∷ rows) dev (course_selected id negotiates)
course_selected_heard s rows row n dev id negotiates p q x y r f e label z m o calm =
    let next : RunState = run_state s (row ∷ rows) in
    let same : n ≡ m = let both : Some n ≡ Some m = sym y ∙ o.stands in cc in
    let front : IsFront s next n (instructions s (row ∷ rows)) = front_heard s (row ∷ rows) n q e y calm in
    let known : same_process next.served (item_of next.story.link) ≡ true = or_second
    (n.reselected && is_message (phase_of (bus_of next))) (same_process next.served (item_of next.story.link))
    front.known (λ i. r i && is_message (phase_of (bus_of next))) in
    subst (λ (u : Connection). IsCourse s (row ∷ rows) u (course_selected id negotiates)) same
    (course_is_selected s rows row n id negotiates p q x y r f known label z)

pub course_reselected_heard : (s : ScenarioValue) (rows : List Row) (row : Row) (n : Connection)
    (dev : ℕ) (id : ProcId) (name : Name) (cdb : List ℕ) → IsPlain s rows (run_state s rows)
    → IsPlain s (row ∷ rows) (run_state s (row ∷ rows)) → connection rows ≡ None → connection (row ∷ rows) ≡ Some n
    → n.reselected ≡ true → faithful s (row ∷ rows) ≡ true → heard s (row ∷ rows) ≡ true
    → ((w : Ready) → ready_of s (run_state s rows) n.target ≡ Some w → IsReadyProcess s w id name cdb)
    → IsCourseOf s (row ∷ rows) dev (course_reselected id name cdb)
course_reselected_heard s rows row n dev id name cdb p q x y r f e ready m o calm =
    let next : RunState = run_state s (row ∷ rows) in
    let same : n ≡ m = let both : Some n ≡ Some m = sym y ∙ o.stands in cc in
    let front : IsFront s next n (instructions s (row ∷ rows)) = front_heard s (row ∷ rows) n q e y calm in
    subst (λ (u : Connection). IsCourse s (row ∷ rows) u (course_reselected id name cdb)) same
    (course_is_reselected s rows row n id name cdb p q x y r f front.there ready)
