-- What a target has of its connection before a row is what the rows tell.
use Rattle.std.proofs.Common.{ℕ, ◌≡◌, ◌⊎◌, inl, inr, ap, ◌+◌, ◌-◌, ◌^◌, ◌∙◌, Bool, true, false, List, [], ◌∷◌, refl}
use Rattle.std.proofs.Common.{sym, Option, Some, None}
use Rattle.std.specs.Prelude.{if◌then◌else◌, not, ◌&&◌, ◌||◌, is_some, min}
use Rattle.std.proofs.lemmas.Bool.{and_parts, eqb-true, not-true}
use Rattle.bus_base.specs.declared.Event.{Event}
use Rattle.bus_base.specs.declared.ProcId.{ProcId}
use Rattle.bus_trace.specs.LineSet.{LineSet}
use Rattle.bus_trace.specs.declared.Row.{Row}
use Rattle.bus_trace.specs.declared.connection.Connection.{Connection}
use Rattle.bus_trace.specs.Phases.{changes_phase, is_message_in}
use Rattle.bus_trace.specs.Terms.{connection}
use Rattle.bus_trace.specs.Trace.{bus}
use Rattle.bus_lines.specs.Handshakes.{handshakes}
use Rattle.scenario.specs.declared.value.CmdDef.{CmdDef}
use Rattle.scenario.specs.declared.value.Policy.{Policy}
use Rattle.scenario.specs.declared.value.TargetDef.{TargetDef}
use Rattle.scenario.specs.Value.{ScenarioValue}
use Rattle.array_model.specs.Processes.{Process, command_at}
use Rattle.array_model.specs.ArrayHistory.{shows_run}
use Rattle.due_model.specs.story_model.specs.BusState.{RowReading, row_reading}
use Rattle.due_model.specs.dialogue_model.specs.declared.exchange.Hearing.{Hearing}
use Rattle.due_model.specs.dialogue_model.specs.declared.exchange.Leaving.{Leaving}
use Rattle.due_model.specs.dialogue_model.specs.declared.exchange.Phase.{Phase}
use Rattle.due_model.specs.dialogue_model.specs.declared.exchange.Phase.TheVariants as phases
use Rattle.due_model.specs.dialogue_model.specs.declared.exchange.Plan.{Plan}
use Rattle.due_model.specs.dialogue_model.specs.declared.exchange.Task.{Task}
use Rattle.due_model.specs.dialogue_model.specs.Arrivals.{policy_of}
use Rattle.due_model.specs.dialogue_model.specs.declared.exchange.Next.{Next}
use Rattle.due_model.specs.dialogue_model.specs.declared.exchange.Next.TheVariants as nexts
use Rattle.due_model.specs.dialogue_model.specs.DataRuns.{run_in}
use Rattle.due_model.specs.dialogue_model.specs.Hearing.{begun, hearing}
use Rattle.due_model.specs.dialogue_model.specs.NextPhase.{Serving, after_messages, leaving_by, next_data_phase}
use Rattle.due_model.specs.dialogue_model.specs.NextPhase.{phase_entry, phase_leaving, phase_of, with_task}
use Rattle.due_model.specs.dialogue_model.specs.Events.{is_empty}
use Rattle.due_model.specs.Defs.{target_def_of}
use Rattle.due_model.specs.Plain.{IsPlain}
use Rattle.due_model.specs.RunState.{RunState, array_of, bus_of, process_served}
use Rattle.due_model.specs.RunSteps.{leaving_of, run_state, events_of_row}
use Rattle.due_model.specs.Sights.{hearing_of, leaving, serving_of}
use Rattle.due_model.specs.Tasks.{given_of, task_of}
use Rattle.due_model.specs.Telling.{id_of, initiator_events, target_events}
use Rattle.target_course.specs.scsi_device.specs.Heard.{instructions, is_opening, is_opening_in, may_leave}
use Rattle.target_course.specs.scsi_device.specs.Lines.{IsCommandLine}
use Rattle.target_course.specs.scsi_device.specs.Writes.{Writer, brings_byte, is_data_out, is_next_byte, is_of_size}
use Rattle.target_course.specs.scsi_device.specs.Writes.{is_written, is_written_byte, is_written_in, is_written_on}
use Rattle.target_course.specs.scsi_device.specs.Writes.{is_written_run, ends_run, writers, written}
use Rattle.target_course.specs.scsi_device.proofs.PhaseLines.{in_phase}
use Rattle.target_course.specs.declared.course.ProcessState.{ProcessState}
use Rattle.target_course.specs.Agreeing.{AreAgreeing, HaveSameTask, IsSameCommand, needs_command}
use Rattle.target_course.specs.Courses.{CourseState, IsCourse, AreToldOf, events_of_target, id_known, serving_by}
use Rattle.target_course.specs.Gathered.{place_at, place_in_run}
use Rattle.target_course.specs.Progress.{IsUncounted}
use Rattle.target_course.specs.States.{IsOwnConnection}
use Rattle.target_course.proofs.CourseAgrees.{IsFront, IsTurn, courses_agree, front_heard, turn_heard}
use Rattle.target_course.proofs.CourseRows.{heard_before, ids_agree, left_alike, line_of_own}
use Rattle.target_course.proofs.ReplyRows.{Shape, shown_of}
use Rattle.target_course.proofs.ReplyRows as shapes
use Rattle.disk_target.specs.Attended.{is_unseen}
use Rattle.disk_target.specs.Targets.{AreTied}
use Rattle.disk_target.specs.Turns.{IsTurnIf, IsTurnOf}
use Rattle.disk_target.specs.declared.turn.Turn.{Turn}
use Rattle.disk_target.proofs.RowKnown.{is_known}
use Rattle.disk_target.proofs.RowKnown as row_known
use Rattle.disk_target.proofs.RowOutside.{IsAttended, attended_in, calm_turn}
use Rattle.disk_target.proofs.RowOwn.{Knows, knows}
use Rattle.disk_target.proofs.RowServed.{block_few, may_turn}
use Rattle.disk_target.proofs.RowShapes.{ShowsIn, nothing, turned, lost, aborted, ended, row_shows, shown_in}
use Rattle.disk_target.proofs.Data.{served_of}
use Rattle.bus_base.proofs.Tests.{implied, wrong}
use Rattle.target_course.proofs.GatheredSteps.{data_out_is}

-- ---- a phase is left

-- Nothing is counted as MESSAGE IN is left.
from_in : (v : Serving) (next : Next) → IsUncounted (after_messages v next)
from_in v nexts.Command = record { done = refl; counts = refl }
from_in v nexts.Status = record { done = refl; counts = refl }
from_in v nexts.FreeBus = record { done = refl; counts = refl }
from_in v nexts.GoOn = go v.task
  where
    go : (o : Option Task) → IsUncounted (with_task o (λ t. phase_entry (next_data_phase (policy_of v.def) t t.runs)))
    go None = record { done = refl; counts = refl }
    go (Some t) = record { done = refl; counts = refl }

from_message_in : (v : Serving) (atn : Bool) → IsUncounted (phase_leaving v atn phases.MessageIn)
from_message_in v true = record { done = refl; counts = refl }
from_message_in v false = from_in v v.plan.next

uncounted_in : (v : Serving) (q : Bool) (b : LineSet) → q ≡ true → is_message_in b ≡ true
    → IsUncounted (leaving_by v q b)
uncounted_in v q b e m = record {
  done = ap (λ (x : Bool). (leaving_by v x b).done) e
      ∙ ap (λ (x : Phase). (phase_leaving v b.atn x).done) (in_phase b m) ∙ (from_message_in v b.atn).done;
  counts = ap (λ (x : Bool). (leaving_by v x b).counts) e
      ∙ ap (λ (x : Phase). (phase_leaving v b.atn x).counts) (in_phase b m) ∙ (from_message_in v b.atn).counts;
}

-- It is left as the target is due to; or nothing is counted.
abbrev pub IsLeftOr : ScenarioValue → List Row → ℕ → Leaving → Type 0
IsLeftOr s rows dev l =
    (l ≡ leaving s (run_state s rows) dev) ⊎ (IsUncounted l × IsUncounted (leaving s (run_state s rows) dev))

pub left_so : (s : ScenarioValue) (rows : List Row) (row : Row) (n m : Connection)
    (d : TargetDef) (c : CourseState) (f : ProcessState) (l : Leaving)
    → IsPlain s rows (run_state s rows) → IsPlain s (row ∷ rows) (run_state s (row ∷ rows))
    → hearing_of (run_state s rows) row (row_reading (run_state s rows).story.bus_state row) ≡ hearing rows row
    → AreTied s (row ∷ rows) → IsOwnConnection rows d.dev n → target_def_of s d.dev ≡ Some d
    → (bus rows).rst ≡ false → connection (row ∷ rows) ≡ Some m
    → (changes_phase (hearing rows row).change && (hearing rows row).begun) ≡ true → IsCourse s rows n c
    → AreToldOf s rows c f → l ≡ leaving_by (serving_by d c f (given_of s (run_state s rows))) (begun rows) (bus rows)
    → IsLeftOr s rows d.dev l
left_so s rows row n m d c f l p q h tied own line calm after left course told is =
    go (calm_turn s rows row n tied.attended_are (p.connection ∙ own.stands) stands turns)
  where
    k : RunState
    k = run_state s rows

    r : RowReading
    r = row_reading k.story.bus_state row

    turns : changes_phase r.change ≡ true
    turns = (λ i. changes_phase (h i).change)
        ∙ (and_parts (changes_phase (hearing rows row).change) (hearing rows row).begun left).0

    stands : is_some r.next ≡ true
    stands = λ i. is_some ((q.connection ∙ after) i)

    started : begun rows ≡ true
    started = (and_parts (changes_phase (hearing rows row).change) (hearing rows row).begun left).1

    front : IsFront s k n (instructions s rows)
    front = front_heard s rows n p (heard_before s rows row tied.heard_are) own.stands calm

    go : ((r.change.before.rst ≡ false) × (r.change.after.rst ≡ false)) ⊎ (is_message_in r.change.before ≡ true)
        → IsLeftOr s rows d.dev l
    go (inl still) =
        let turn : IsTurn s k n r = turn_heard s rows row n m p q tied.heard_are own.stands after
        ((λ i. (sym q.bus i).rst) ∙ still.1) in
        inl (is ∙ (λ i. leaving_by (serving_by d c f (given_of s k)) (sym p.begun i) (sym p.bus i))
        ∙ left_alike s rows n d c f row front (line_of_own s rows n d own line) course told k.exchange.begun refl
        (turn.turn turns) ∙ (λ i. leaving s k (eqb-true n.target d.dev own.own i)))
    go (inr in_message) =
        let own_one = uncounted_in (serving_by d c f (given_of s k)) (begun rows)
        (bus rows) started ((λ i. is_message_in (sym h i).change.before) ∙ in_message) in
        let due_one = uncounted_in (serving_of s k d.dev) k.exchange.begun (bus_of k) (p.begun ∙ started) in_message in
        inr (
          record {
            done = ap (λ (x : Leaving). x.done) is ∙ own_one.done;
            counts = ap (λ (x : Leaving). x.counts) is ∙ own_one.counts;
          },
          due_one,
        )

-- With the process that is served.
pub left_with : (s : ScenarioValue) (rows : List Row) (dev : ℕ) (known : Option ProcId) (given l : Leaving)
    → known ≡ id_of (run_state s rows).served → given ≡ l → IsLeftOr s rows dev l
    → ((known ≡ id_of (run_state s rows).served) × (given ≡ leaving s (run_state s rows) dev))
    ⊎ (IsUncounted given × IsUncounted (leaving s (run_state s rows) dev))
left_with s rows dev known given l e is (inl z) = inl (e, is ∙ z)
left_with s rows dev known given l e is (inr z) = inr (
  record { done = ap (λ (x : Leaving). x.done) is ∙ z.0.done; counts = ap (λ (x : Leaving). x.counts) is ∙ z.0.counts },
  z.1,
)

pub process_so : (s : ScenarioValue) (rows : List Row) (row : Row) (n : Connection) (c : CourseState)
    → IsPlain s rows (run_state s rows) → AreTied s (row ∷ rows) → connection rows ≡ Some n → (bus rows).rst ≡ false
    → IsCourse s rows n c → id_known c.id ≡ id_of (run_state s rows).served
process_so s rows row n c p tied stands calm course =
    let front : IsFront s (run_state s rows) n (instructions s rows) = front_heard s rows n p
    (heard_before s rows row tied.heard_are) stands calm in
    ids_agree s (run_state s rows).served c.id front.there course.label_is

-- ---- a byte of DATA OUT comes

byte_in : (s : ScenarioValue) (k : RunState) (w : Hearing) (l : Leaving) (all : List Writer) (m : Connection)
    (after : Option Connection) → is_written_on s k w l all (Some m) after ≡ true → is_written_in s k w l all ≡ true
byte_in s k w l all m None e = e
byte_in s k w l all m (Some n) e =
    (and_parts (not w.change.before.rst || w.change.after.rst) (is_written_in s k w l all) e).1

byte_begun : (s : ScenarioValue) (k : RunState) (all : List Writer) (x : Option Process)
    → is_written_byte s k all x ≡ true → k.exchange.begun ≡ true
byte_begun s k all None e = cc
byte_begun s k all (Some p) e =
    let one = and_parts (k.exchange.begun && not (bus_of k).rst && is_of_size s k p) (is_next_byte s k all p) e in
    let two = and_parts (k.exchange.begun && not (bus_of k).rst) (is_of_size s k p) one.0 in
    (and_parts k.exchange.begun (not (bus_of k).rst) two.0).0

pub byte_begins : (s : ScenarioValue) (rows : List Row) (row : Row) (n : Connection) → IsPlain s rows (run_state s rows)
    → hearing_of (run_state s rows) row (row_reading (run_state s rows).story.bus_state row) ≡ hearing rows row
    → written s (row ∷ rows) ≡ true → connection rows ≡ Some n → brings_byte (hearing rows row) ≡ true
    → (run_state s rows).exchange.begun ≡ true
byte_begins s rows row n p h e stands brings =
    let k : RunState = run_state s rows in
    let d : RowReading = row_reading k.story.bus_state row in
    let w : Hearing = hearing_of k row d in
    let l : Leaving = leaving_of s k k.story.bus_state.connection in
    let all : List Writer = writers s rows in
    let last = and_parts (written s rows) (is_written s k row d all) e in
    let on = byte_in s k w l all n d.next
    ((λ i. is_written_on s k w l all (sym (p.connection ∙ stands) i) d.next) ∙ last.1) in
    let two = and_parts (not (brings_byte w) || is_written_byte s k all (process_served s k))
    (not (ends_run k w l) || is_written_run s k all (process_served s k) (phase_of (bus_of k))) on in
    byte_begun s k all (process_served s k)
    (implied (brings_byte w) (is_written_byte s k all (process_served s k)) two.0 ((λ i. brings_byte (h i)) ∙ brings))

pub byte_phase : (s : ScenarioValue) (rows : List Row) (row : Row) → IsPlain s rows (run_state s rows)
    → brings_byte (hearing rows row) ≡ true → phase_of (bus_of (run_state s rows)) ≡ phases.DataOut
byte_phase s rows row p e =
    let w : Hearing = hearing rows row in
    let one = and_parts (w.crosses && is_data_out (phase_of w.change.before)) (not w.change.after.rst) e in
    (λ i. phase_of (p.bus i))
    ∙ data_out_is (phase_of w.change.before) (and_parts w.crosses (is_data_out (phase_of w.change.before)) one.0).1

pub byte_closed : (s : ScenarioValue) (k : RunState) → phase_of (bus_of k) ≡ phases.DataOut → k.exchange.begun ≡ true
    → is_opening k ≡ false
byte_closed s k e b = λ i. not (b i) || is_opening_in (e i) k.exchange.plan.cause

place_same : (policy : Policy) (leaves : Bool) (phase : Phase) (plan : Plan) (x y : Option Task) (answers : ℕ)
    → phase ≡ phases.DataOut → HaveSameTask leaves phase plan x y
    → place_in_run policy x answers ≡ place_in_run policy y answers
place_same policy leaves phase plan x y answers e h =
    let command : IsSameCommand h.one h.other = h.command (λ i. needs_command leaves (e i) plan h.other.whole) in
    (λ i. place_in_run policy (h.one_is i) answers) ∙ (λ i. min
    ((run_in policy (command.blocks i) (command.size i) (command.moved i) (h.runs i)).start + answers) (2 ^ 64 - 1))
    ∙ (λ i. place_in_run policy (sym h.other_is i) answers)

pub place_so : (s : ScenarioValue) (rows : List Row) (row : Row) (n : Connection) (d : TargetDef)
    (c : CourseState) (f : ProcessState) (answers : ℕ) → IsPlain s rows (run_state s rows)
    → hearing_of (run_state s rows) row (row_reading (run_state s rows).story.bus_state row) ≡ hearing rows row
    → AreTied s (row ∷ rows) → IsOwnConnection rows d.dev n → target_def_of s d.dev ≡ Some d
    → (bus rows).rst ≡ false → brings_byte (hearing rows row) ≡ true
    → IsCourse s rows n c → AreToldOf s rows c f → answers ≡ (handshakes rows).answers
    → place_in_run d.disc (serving_by d c f (given_of s (run_state s rows))).task answers
    ≡ place_at s (run_state s rows) d.dev
place_so s rows row n d c f answers p h tied own line calm brings course told is =
    let k : RunState = run_state s rows in
    let phase : Phase = phase_of (bus_of k) in
    let begins = byte_begins s rows row n p h tied.written_are own.stands brings in
    let same : phase ≡ phases.DataOut = byte_phase s rows row p brings in
    let front : IsFront s k n (instructions s rows) = front_heard s rows n p
    (heard_before s rows row tied.heard_are) own.stands calm in
    let agree : AreAgreeing (may_leave s k n) phase (serving_by d c f (given_of s k)) (serving_of s k n.target) =
    courses_agree s rows n d c f front begins (line_of_own s rows n d own line) course told in
    place_same d.disc (may_leave s k n) phase k.exchange.plan (serving_by d c f (given_of s k)).task
    (task_of s k) answers same (agree.task (λ i. is_opening_in (same i) k.exchange.plan.cause))
    ∙ (λ i. place_in_run d.disc (task_of s k) ((is ∙ (λ j. (sym p.handshakes j).answers)) i))
    ∙ (λ i. place_in_run (policy_of (sym line i)) (task_of s k) k.handshakes.answers)

-- ---- it runs

runs_need : (i : ProcId) (x : Shape) → shows_run (shown_of i x) ≡ true → row_known.needs_command x ≡ true
runs_need i shapes.nothing e = cc
runs_need i shapes.accepts e = cc
runs_need i shapes.refuses e = cc
runs_need i shapes.runs e = refl
runs_need i (shapes.fails code) e = cc
runs_need i shapes.accepts_and_runs e = refl

run_any : (shown : List Event) → is_empty shown ≡ true → shows_run shown ≡ false
run_any [] e = refl
run_any (x ∷ shown) e = cc

opens : (x y z : Bool) → (x || not y || z) ≡ true → x ≡ false → z ≡ false → y ≡ false
opens true y z e f g = cc
opens false true z e f g = let bad : false ≡ true = sym g ∙ e in absurd cc
opens false false z e f g = refl

not_empty : (shown : List Event) → shows_run shown ≡ true → is_empty shown ≡ false
not_empty [] e = cc
not_empty (x ∷ shown) e = refl

pub run_known : (s : ScenarioValue) (rows : List Row) (row : Row) (n : Connection) (c : CourseState) (p : Process)
    → IsPlain s rows (run_state s rows) → IsPlain s (row ∷ rows) (run_state s (row ∷ rows)) → AreTied s (row ∷ rows)
    → ((m : ℕ) (x : CmdDef) → command_at s.commands m ≡ Some x → IsCommandLine s x) → connection rows ≡ Some n
    → (bus rows).rst ≡ false → (bus (row ∷ rows)).rst ≡ false → IsCourse s rows n c
    → process_served s (run_state s rows) ≡ Some p → shows_run (events_of_row s rows row) ≡ true
    → (Knows s rows n c p) × (c.block ≡ p.cdb)
run_known s rows row n c p f q tied lines stands calm after course is runs =
    go (row_shows s rows row n tied.telling_are off at)
  where
    k : RunState
    k = run_state s rows

    d : RowReading
    d = row_reading k.story.bus_state row

    at : k.story.bus_state.connection ≡ Some n
    at = f.connection ∙ stands

    off : d.change.after.rst ≡ false
    off = (λ i. (q.bus i).rst) ∙ after

    attends : IsAttended s rows row n
    attends = attended_in s rows row n tied.attended_are at ((λ i. (f.bus i).rst) ∙ calm) off

    front : IsFront s k n (instructions s rows)
    front = front_heard s rows n f (heard_before s rows row tied.heard_are) stands calm

    never : (shown : List Event) → events_of_row s rows row ≡ shown → shows_run shown ≡ false
        → (Knows s rows n c p) × (c.block ≡ p.cdb)
    never shown e g = let bad : false ≡ true = sym g ∙ sym (λ i. shows_run (e i)) ∙ runs in absurd cc

    closed : is_some d.next ≡ true → n.reselected ≡ false → is_opening k ≡ false
    closed st r = opens n.reselected (is_opening k)
        (if is_some d.next then is_empty (events_of_row s rows row) else is_unseen (array_of s k) (process_served s k))
        attends.quiet r
        ((λ i. if st i then is_empty (events_of_row s rows row) else is_unseen (array_of s k) (process_served s k))
        ∙ not_empty (events_of_row s rows row) runs)

    go : ShowsIn s k d n (events_of_row s rows row) → (Knows s rows n c p) × (c.block ≡ p.cdb)
    go (nothing e) = never [] e refl
    go (lost i e g st) = never _ g refl
    go (aborted unit what g st) = never _ g refl
    go (ended i status g st) = never _ g refl
    go (turned i y e g b st ch t) =
        let x : Knows s rows n c p = knows s rows n c p front course is
        (block_few s p.id p lines (served_of s rows p is)) (closed st) in (
          x,
          x.turns (may_turn s rows row n f q tied.heard_are stands after ch st b) (is_known (serving_of s k n.target)
              (bus_of k).atn (phase_of (bus_of k)) i y t (runs_need i y ((λ j. shows_run (sym g j)) ∙ runs))),
        )

-- What its target shows with a row is what the row shows, or nothing.
pub target_shows : (s : ScenarioValue) (rows : List Row) (row : Row) (n : Connection)
    → IsPlain s rows (run_state s rows) → IsPlain s (row ∷ rows) (run_state s (row ∷ rows))
    → hearing_of (run_state s rows) row (row_reading (run_state s rows).story.bus_state row) ≡ hearing rows row
    → AreTied s (row ∷ rows) → connection rows ≡ Some n → (bus (row ∷ rows)).rst ≡ false
    → shows_run (events_of_target s rows row n) ≡ true → shows_run (events_of_row s rows row) ≡ true
target_shows s rows row n f q h tied stands after runs = go (changes_phase d.change || not (is_some d.next)) refl
  where
    k : RunState
    k = run_state s rows

    d : RowReading
    d = row_reading k.story.bus_state row

    same : events_of_target s rows row n
        ≡ (if changes_phase d.change || not (is_some d.next) then target_events s k n (is_some d.next) else [])
    same = λ i. if changes_phase (sym h i).change || not (is_some (sym q.connection i))
        then target_events s k n (is_some (sym q.connection i)) else []

    shown : events_of_row s rows row
        ≡ (if changes_phase d.change || not (is_some d.next) then target_events s k n (is_some d.next)
        else initiator_events k k.story.link d)
    shown = shown_in s rows row n tied.telling_are ((λ i. (q.bus i).rst) ∙ after) (f.connection ∙ stands)

    go : (y : Bool) → (changes_phase d.change || not (is_some d.next)) ≡ y → shows_run (events_of_row s rows row) ≡ true
    go true e = (λ i. shows_run
        ((shown ∙ (λ j. if e j then target_events s k n (is_some d.next) else initiator_events k k.story.link d)
        ∙ sym (same ∙ (λ j. if e j then target_events s k n (is_some d.next) else []))) i))
        ∙ runs
    go false e =
        let bad : false ≡ true =
        sym (λ i. shows_run ((same ∙ (λ j. if e j then target_events s k n (is_some d.next) else [])) i)) ∙ runs in
        absurd cc

-- ---- no connection of its own stands

byte_calm : (s : ScenarioValue) (k : RunState) (all : List Writer) (x : Option Process)
    → is_written_byte s k all x ≡ true → (bus_of k).rst ≡ false
byte_calm s k all None e = cc
byte_calm s k all (Some p) e =
    let one = and_parts (k.exchange.begun && not (bus_of k).rst && is_of_size s k p) (is_next_byte s k all p) e in
    let two = and_parts (k.exchange.begun && not (bus_of k).rst) (is_of_size s k p) one.0 in
    not-true (bus_of k).rst (and_parts k.exchange.begun (not (bus_of k).rst) two.0).1

-- No byte of data comes while RST is true.
byte_in_calm : (s : ScenarioValue) (rows : List Row) (row : Row) (n : Connection) → IsPlain s rows (run_state s rows)
    → hearing_of (run_state s rows) row (row_reading (run_state s rows).story.bus_state row) ≡ hearing rows row
    → written s (row ∷ rows) ≡ true → connection rows ≡ Some n → brings_byte (hearing rows row) ≡ true
    → (bus rows).rst ≡ false
byte_in_calm s rows row n p h e stands brings =
    let k : RunState = run_state s rows in
    let d : RowReading = row_reading k.story.bus_state row in
    let w : Hearing = hearing_of k row d in
    let l : Leaving = leaving_of s k k.story.bus_state.connection in
    let all : List Writer = writers s rows in
    let last = and_parts (written s rows) (is_written s k row d all) e in
    let on = byte_in s k w l all n d.next
    ((λ i. is_written_on s k w l all (sym (p.connection ∙ stands) i) d.next) ∙ last.1) in
    let two = and_parts (not (brings_byte w) || is_written_byte s k all (process_served s k))
    (not (ends_run k w l) || is_written_run s k all (process_served s k) (phase_of (bus_of k))) on in
    (λ i. (sym p.bus i).rst) ∙ byte_calm s k all (process_served s k)
    (implied (brings_byte w) (is_written_byte s k all (process_served s k)) two.0 ((λ i. brings_byte (h i)) ∙ brings))

no_course : (s : ScenarioValue) (rows : List Row) (row : Row) (d : TargetDef) (c : Option CourseState) (t : Turn)
    → ((n : Connection) → IsOwnConnection rows d.dev n → (bus rows).rst ≡ true) → IsTurnIf s rows row d c t
no_course s rows row d None t away = away
no_course s rows row d (Some x) t away = λ n own calm. wrong (sym (away n own) ∙ calm)

no_leaving : (s : ScenarioValue) (rows : List Row) (row : Row) (d : TargetDef) (t : Turn) → IsUncounted t.leaving
    → ((row_reading (run_state s rows).story.bus_state row).change.before.rst ≡ false → ⊥)
    → (is_message_in (row_reading (run_state s rows).story.bus_state row).change.before ≡ true
    → IsUncounted (leaving s (run_state s rows) d.dev))
    → (((row_reading (run_state s rows).story.bus_state row).change.before.rst ≡ false)
    × ((row_reading (run_state s rows).story.bus_state row).change.after.rst ≡ false))
    ⊎ (is_message_in (row_reading (run_state s rows).story.bus_state row).change.before ≡ true)
    → ((t.process ≡ id_of (run_state s rows).served) × (t.leaving ≡ leaving s (run_state s rows) d.dev))
    ⊎ (IsUncounted t.leaving × IsUncounted (leaving s (run_state s rows) d.dev))
no_leaving s rows row d t none quiet into (inl z) = absurd (quiet z.0)
no_leaving s rows row d t none quiet into (inr z) = inr (none, into z)

pub no_turn_so : (s : ScenarioValue) (rows : List Row) (row : Row) (d : TargetDef) (c : Option CourseState) (t : Turn)
    → IsPlain s rows (run_state s rows) → IsPlain s (row ∷ rows) (run_state s (row ∷ rows))
    → hearing_of (run_state s rows) row (row_reading (run_state s rows).story.bus_state row) ≡ hearing rows row
    → AreTied s (row ∷ rows) → IsUncounted t.leaving
    → ((n : Connection) → IsOwnConnection rows d.dev n → (bus rows).rst ≡ true) → IsTurnOf s rows row d c t
no_turn_so s rows row d c t p q h tied none away =
    let k : RunState = run_state s rows in
    let r : RowReading = row_reading k.story.bus_state row in
    record {
      course = no_course s rows row d c t away;
      left = λ n m own after left.
          let both = and_parts (changes_phase (hearing rows row).change) (hearing rows row).begun left in
          let turns : changes_phase r.change ≡ true = (λ i. changes_phase (h i).change) ∙ both.0 in
          let stands : is_some r.next ≡ true = λ i. is_some ((q.connection ∙ after) i) in
          no_leaving s rows row d t none (λ still. wrong (sym (away n own) ∙ (λ i. (sym p.bus i).rst) ∙ still))
          (λ in_message. uncounted_in (serving_of s k d.dev) k.exchange.begun (bus_of k) ((λ i. (h i).begun) ∙ both.1)
          in_message) (calm_turn s rows row n tied.attended_are (p.connection ∙ own.stands) stands turns);
      hears = λ n own calm. wrong (sym (away n own) ∙ calm);
      sends =
          λ n own brings. wrong (sym (away n own) ∙ byte_in_calm s rows row n p h tied.written_are own.stands brings);
      at_unit = λ n x own brings is. wrong
          (sym (away n own) ∙ byte_in_calm s rows row n p h tied.written_are own.stands brings);
      shows = λ n own calm after. wrong (sym (away n own) ∙ calm);
    }
