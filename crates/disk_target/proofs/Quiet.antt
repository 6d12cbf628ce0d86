-- A row that tells a target nothing but a byte of data leaves what it keeps of all processes but for the bytes that
-- came, and in a connection of its own of the one that it serves, as it was.
use Rattle.std.proofs.Common.{ℕ, ◌≡◌, ◌<◌, ◌∙◌, ◌⊎◌, inl, inr, Bool, true, false, List, [], ◌∷◌, refl, sym, subst}
use Rattle.std.proofs.Common.{Option, Some, None}
use Rattle.std.specs.Prelude.{if◌then◌else◌, ◌&&◌, ◌||◌, ◌==◌, ◌%◌, not, is_some}
use Rattle.std.proofs.lemmas.Bool.{and_parts}
use Rattle.bus_trace.specs.Phases.{changes_phase, is_command, is_message_out}
use Rattle.bus_trace.specs.Terms.{connection}
use Rattle.bus_trace.specs.Trace.{bus, drives}
use Rattle.bus_trace.specs.declared.Row.{Row}
use Rattle.bus_trace.specs.declared.connection.Connection.{Connection}
use Rattle.bus_trace.specs.declared.rows.Kind.TheVariants.{Fault}
use Rattle.scenario.specs.Value.{ScenarioValue}
use Rattle.scenario.specs.declared.value.CmdDef.{CmdDef}
use Rattle.array_model.specs.Processes.{command_at}
use Rattle.array_model.specs.SoundArray.{HasSeats}
use Rattle.disk_unit.specs.declared.media.Plan.{Plan as UnitPlan}
use Rattle.disk_unit.specs.declared.unit.Reply.{Reply}
use Rattle.due_model.specs.story_model.specs.BusState.{row_reading}
use Rattle.due_model.specs.dialogue_model.specs.Hearing.{hearing}
use Rattle.due_model.specs.dialogue_model.specs.NextPhase.{phase_of}
use Rattle.due_model.specs.dialogue_model.specs.Planning.{plan_in_phase, plan_with_byte}
use Rattle.due_model.specs.dialogue_model.specs.Exchange.{plan_after_message, struck_plan}
use Rattle.due_model.specs.dialogue_model.specs.declared.exchange.Hearing.{Hearing}
use Rattle.due_model.specs.dialogue_model.specs.declared.exchange.Leaving.{Leaving}
use Rattle.due_model.specs.dialogue_model.specs.declared.exchange.Plan.{Plan}
use Rattle.due_model.specs.Faithful.{faithful, is_faithful}
use Rattle.due_model.specs.Sights.{hearing_of}
use Rattle.due_model.specs.Telling.{target_events}
use Rattle.due_model.specs.Plain.{IsPlain, AreOfDevices}
use Rattle.due_model.specs.RunSteps.{run_state}
use Rattle.target_course.specs.scsi_device.specs.Lines.{IsCommandLine}
use Rattle.target_course.specs.scsi_device.specs.Heard.{is_selected}
use Rattle.target_course.specs.scsi_device.specs.Writes.{brings_byte, is_data_out}
use Rattle.target_course.specs.Courses.{CourseState, IsCourse, IsCourseOf, block_with, course_after, course_told}
use Rattle.target_course.specs.Courses.{events_of_target, name_in}
use Rattle.target_course.specs.Gathered.{AreAllGathered, GatheredValue, IsGatheredOf}
use Rattle.target_course.specs.Negotiated.{NegotiatedValue, IsNegotiatedOf, IsOpeningIf, met_by_opening}
use Rattle.target_course.specs.Negotiated.{negotiated_seen}
use Rattle.target_course.specs.Plans.{leaving_after, plan_at}
use Rattle.target_course.specs.Progress.{ProgressValue, IsProgressOf, is_phase_left, progress_seen}
use Rattle.target_course.specs.Replies.{IsReplyOf}
use Rattle.target_course.specs.States.{IsOwnConnection}
use Rattle.target_course.proofs.Courses.{course_goes_on}
use Rattle.target_course.proofs.GatheredAll.{all_gathered_on}
use Rattle.target_course.proofs.NegotiatedRows.{negotiated_goes_on}
use Rattle.target_course.proofs.ProgressRows.{progress_goes_on}
use Rattle.target_course.proofs.ReplyRows.{reply_goes_on}
use Rattle.disk_target.specs.Bytes.{IsOthers, StandsInOwn}
use Rattle.disk_target.specs.Knowns.{IsQuiet, hears_message, knows_command}
use Rattle.due_model.specs.RunSteps.{events_of_row}
use Rattle.disk_target.specs.Targets.{AreTied, IsCourseIf, KnowsRows, TargetValue}
use Rattle.disk_target.specs.Turns.{AreAttendedOf}
use Rattle.disk_target.proofs.Apart.{never_own}
use Rattle.disk_target.proofs.RowBegins.{stood_on}
use Rattle.disk_target.proofs.RowServed.{empty_on}
use Rattle.bus_base.proofs.Tests.{second_false}

abbrev pub IsPlainFor : ScenarioValue → Type 0
IsPlainFor s = (before : List Row) → AreOfDevices before → IsPlain s before (run_state s before)

same_if : {X : Type 0} (x : X) (q : Bool) → (if q then x else x) ≡ x
same_if x true = refl
same_if x false = refl

-- A byte of DATA OUT crosses.
pub crosses_by : (w : Hearing) → brings_byte w ≡ true → w.crosses ≡ true
crosses_by w brings = (and_parts w.crosses (is_data_out (phase_of w.change.before))
    (and_parts (w.crosses && is_data_out (phase_of w.change.before)) (not w.change.after.rst) brings).0).0

-- ---- what it counts and gathers

-- In a connection of its own no phase is left.
abbrev pub IsUnleft : List Row → ℕ → Hearing → Type 0
IsUnleft rows dev w = (n : Connection) → IsOwnConnection rows dev n → is_phase_left w ≡ false

-- And no byte comes.
abbrev pub IsUnsent : List Row → ℕ → Hearing → Type 0
IsUnsent rows dev w = (n : Connection) → IsOwnConnection rows dev n → brings_byte w ≡ false

progress_of_none : (v : ProgressValue) (l : Leaving) (w : Hearing) (before after : Option Connection)
    → progress_seen v None l w before after ≡ v
progress_of_none v l w None after = refl
progress_of_none v l w (Some m) None = refl
progress_of_none v l w (Some m) (Some n) = same_if v (m.target == v.dev && is_phase_left w)

pub progress_on : (s : ScenarioValue) (rows : List Row) (row : Row) (v : ProgressValue) → IsPlainFor s
    → hearing_of (run_state s rows) row (row_reading (run_state s rows).story.bus_state row) ≡ hearing rows row
    → AreOfDevices (row ∷ rows) → AreTied s (row ∷ rows) → IsUnleft rows v.dev (hearing rows row)
    → IsProgressOf s rows v → IsProgressOf s (row ∷ rows) v
progress_on s rows row v plain w d tied unleft h = subst (λ (z : ProgressValue). IsProgressOf s (row ∷ rows) z)
    (progress_of_none v (leaving_after s rows v.dev) (hearing rows row) (connection rows) (connection (row ∷ rows)))
    (progress_goes_on s rows row v None (leaving_after s rows v.dev) (hearing rows row)
    (connection rows) (connection (row ∷ rows)) plain w d refl refl refl ((and_parts (faithful s rows)
    (is_faithful s (run_state s rows) (row_reading (run_state s rows).story.bus_state row)) tied.faithful_are).0)
    (λ n m own a left. let bad : false ≡ true = sym (unleft n own) ∙ left in absurd cc) h)

pub gathered_stay : (s : ScenarioValue) (rows : List Row) (row : Row) (v : GatheredValue)
    → ((n : ℕ) (c : CmdDef) → command_at s.commands n ≡ Some c → IsCommandLine s c) → IsPlainFor s
    → hearing_of (run_state s rows) row (row_reading (run_state s rows).story.bus_state row) ≡ hearing rows row
    → ((code : ℕ) → row.kind ≡ Fault code → bus (row ∷ rows) ≡ bus rows) → AreOfDevices (row ∷ rows)
    → AreTied s (row ∷ rows) → IsUnsent rows v.dev (hearing rows row) → IsGatheredOf s v → AreAllGathered s rows v
    → AreAllGathered s (row ∷ rows) v
gathered_stay s rows row v lines plain w calm d tied unsent g h = all_gathered_on s rows row v None 0 0
    (hearing rows row) (connection rows) lines plain w calm d refl refl tied.faithful_are tied.written_are
    (λ n own brings. let bad : false ≡ true = sym (unsent n own) ∙ brings in absurd cc)
    (λ n p own brings is. let bad : false ≡ true = sym (unsent n own) ∙ brings in absurd cc) g h

-- In a connection of its own or of others to which no byte comes.
pub gathered_on : (s : ScenarioValue) (rows : List Row) (row : Row) (v : TargetValue)
    → ((n : ℕ) (c : CmdDef) → command_at s.commands n ≡ Some c → IsCommandLine s c) → IsPlainFor s
    → hearing_of (run_state s rows) row (row_reading (run_state s rows).story.bus_state row) ≡ hearing rows row
    → ((code : ℕ) → row.kind ≡ Fault code → bus (row ∷ rows) ≡ bus rows) → AreOfDevices (row ∷ rows)
    → AreTied s (row ∷ rows) → IsUnsent rows v.def.dev (hearing rows row) → KnowsRows s rows v
    → AreAllGathered s (row ∷ rows) v.gathered
gathered_on s rows row v lines plain w calm d tied unsent g = gathered_stay s rows row v.gathered lines plain w
    calm d tied (subst (λ (x : ℕ). IsUnsent rows x (hearing rows row)) (sym g.gathered_dev) unsent) g.gathered_are
    g.all_gathered

-- ---- with whom it has met

-- Either no phase is left, or no opening of its own lasts.
pub met_stays : (v : NegotiatedValue) (aborts : Bool) (w : Hearing) (m n : Connection)
    → (is_phase_left w ≡ false) ⊎ (v.opening ≡ None) → negotiated_seen v aborts w (Some m) (Some n) [] ≡ v
met_stays v aborts w m n (inl stays) = λ i. if stays i then met_by_opening v aborts v.opening else v
met_stays v aborts w m n (inr none) =
    (λ i. if is_phase_left w then met_by_opening v aborts (none i) else v) ∙ same_if v (is_phase_left w)

pub met_on : (s : ScenarioValue) (rows : List Row) (row : Row) (v : NegotiatedValue) (m n : Connection)
    → IsPlain s rows (run_state s rows) → IsPlain s (row ∷ rows) (run_state s (row ∷ rows))
    → hearing_of (run_state s rows) row (row_reading (run_state s rows).story.bus_state row) ≡ hearing rows row
    → ((d : ℕ) → d < 8 → (drives rows d).rst ≡ true → (bus rows).rst ≡ true)
    → (((d : ℕ) → d < 8 → (drives (row ∷ rows) d).rst ≡ false) → (bus (row ∷ rows)).rst ≡ false)
    → AreOfDevices (row ∷ rows) → AreTied s (row ∷ rows) → connection rows ≡ Some m → connection (row ∷ rows) ≡ Some n
    → events_of_row s rows row ≡ [] → (is_phase_left (hearing rows row) ≡ false) ⊎ (v.opening ≡ None)
    → IsNegotiatedOf s rows v → IsNegotiatedOf s (row ∷ rows) v
met_on s rows row v m n p q w on off d tied before after none stays h =
    let aborts : Bool = is_some (plan_at s rows).said.aborts in
    subst (λ (z : NegotiatedValue). IsNegotiatedOf s (row ∷ rows) z)
    ((λ i. negotiated_seen v aborts (hearing rows row) (before i) (after i) (none i))
    ∙ met_stays v aborts (hearing rows row) m n stays)
    (negotiated_goes_on s rows row v aborts (hearing rows row) (connection rows) (connection (row ∷ rows))
    (events_of_row s rows row) p q w on off d refl refl refl refl tied.heard_are (λ x own calm. refl) h)

-- In a connection of others no opening of its own lasts.
pub none_opens : (s : ScenarioValue) (rows : List Row) (v : NegotiatedValue) (m : Connection) → IsOthers rows v.dev m
    → IsNegotiatedOf s rows v → v.opening ≡ None
none_opens s rows v m others h = go v.opening h.opens
  where
    go : (x : Option ℕ) → IsOpeningIf s rows v.dev x → x ≡ None
    go None o = refl
    go (Some i) o = absurd (never_own rows v.dev m o.0 others (record { stands = o.1.stands; own = o.1.own }))

-- ---- in a connection of its own: what it has heard, and its reply

plan_stays : (crosses out : Bool) (p q : Plan) → (crosses && out) ≡ false
    → (if crosses then (if out then p else q) else q) ≡ q
plan_stays false out p q e = refl
plan_stays true false p q e = refl
plan_stays true true p q e = absurd cc

abbrev told_by : Bool → List ℕ → Bool → CourseState → CourseState
told_by opens block known c =
    record c { named = if opens then name_in c.plan.said else c.named; block = block; known = known }

told_same : (w : Hearing) (c : CourseState) → c.known ≡ false → w.crosses ≡ false → changes_phase w.change ≡ false
    → course_told w c ≡ c
told_same w c unknown still changes = λ i. told_by (second_false w.begun (changes_phase w.change)
    (is_message_out w.change.before) (is_selected c.plan.cause) changes i)
    (if changes i then (if is_command w.change.after then [] else c.block)
    else if still i && is_command w.change.before then block_with c.block (w.change.after.data_bits % 256) else c.block)
    ((second_false w.begun (changes_phase w.change) (is_command w.change.before) (not c.plan.struck) changes
    ∙ sym unknown) i) c

heard_same : (w : Hearing) (c : CourseState) (known crosses : Bool) → c.known ≡ known → w.crosses ≡ crosses
    → (crosses ≡ true → known ≡ true) → changes_phase w.change ≡ false → (if c.known then c else course_told w c) ≡ c
heard_same w c true crosses is crossed knows changes = λ i. if is i then c else course_told w c
heard_same w c false true is crossed knows changes = let bad : false ≡ true = knows refl in absurd cc
heard_same w c false false is crossed knows changes =
    (λ i. if is i then c else course_told w c) ∙ told_same w c is crossed changes

course_same : (w : Hearing) (l : Leaving) (c : CourseState) → (w.crosses ≡ true → c.known ≡ true)
    → changes_phase w.change ≡ false → hears_message w ≡ false → w.fault ≡ false → course_after w l c ≡ c
course_same w l c knows changes unsaid fault =
    (λ i. record (heard_same w c c.known w.crosses refl refl knows changes i) {
      plan = if changes i then plan_in_phase w l c.plan
          else if w.crosses then plan_with_byte w c.plan
          else if fault i && not w.change.before.io then struck_plan c.plan
          else c.plan;
    }) ∙ (λ i. record c {
      plan = plan_stays w.crosses (is_message_out w.change.before)
          (plan_after_message c.plan w.is_last w.out) c.plan unsaid i;
    })

pub course_on : (s : ScenarioValue) (rows : List Row) (row : Row) (dev : ℕ) (m : Connection) (c : CourseState)
    → IsPlain s rows (run_state s rows) → IsPlain s (row ∷ rows) (run_state s (row ∷ rows))
    → hearing_of (run_state s rows) row (row_reading (run_state s rows).story.bus_state row) ≡ hearing rows row
    → connection rows ≡ Some m → (bus rows).rst ≡ false → (m.target == dev) ≡ true
    → ((hearing rows row).crosses ≡ true → c.known ≡ true) → changes_phase (hearing rows row).change ≡ false
    → hears_message (hearing rows row) ≡ false → (hearing rows row).fault ≡ false → IsCourseOf s rows dev c
    → IsCourseOf s (row ∷ rows) dev c
course_on s rows row dev m c p q w stands calm at known changes unsaid fault old n own after =
    let l : Leaving = leaving_after s rows m.target in
    subst (λ (z : CourseState). IsCourse s (row ∷ rows) n z)
    (course_same (hearing rows row) l c known changes unsaid fault) (course_goes_on s rows row m n l c p q w stands
    own.stands (λ left. refl) (old m (record { stands = stands; own = at }) calm))

pub reply_on : (s : ScenarioValue) (rows : List Row) (row : Row) (dev : ℕ) (m n : Connection) (was : Option Reply)
    → IsPlain s rows (run_state s rows) → IsPlain s (row ∷ rows) (run_state s (row ∷ rows))
    → hearing_of (run_state s rows) row (row_reading (run_state s rows).story.bus_state row) ≡ hearing rows row
    → HasSeats s → IsOwnConnection rows dev m → (bus rows).rst ≡ false → AreTied s (row ∷ rows)
    → connection (row ∷ rows) ≡ Some n → changes_phase (hearing rows row).change ≡ false → IsReplyOf s rows dev was
    → IsReplyOf s (row ∷ rows) dev was
reply_on s rows row dev m n was p q w seats own calm tied after changes old =
    let plan : UnitPlan = record { status = 0; sense = None; in_len = 0; out_len = 0 } in
    let same : [] ≡ events_of_target s rows row m = sym (λ i.
    if changes i || not (is_some (after i)) then target_events s (run_state s rows) m (is_some (after i)) else []) in
    reply_goes_on s rows row m dev plan [] was p q w seats own calm tied.telling_are tied.allowed_are same
    (λ x served runs. absurd cc) old

-- ---- the whole

-- Its parts after a row that shows nothing in a connection that stands before and after it: what it keeps of all
-- processes but for the bytes that came.
pub record Stays (s : ScenarioValue) (rows : List Row) (row : Row) (v : TargetValue) : Type 0 where
  pub progress_is : IsProgressOf s (row ∷ rows) v.progress
  pub negotiated_are : IsNegotiatedOf s (row ∷ rows) v.negotiated

pub stays : (s : ScenarioValue) (rows : List Row) (row : Row) (v : TargetValue) (m n : Connection) → IsPlainFor s
    → hearing_of (run_state s rows) row (row_reading (run_state s rows).story.bus_state row) ≡ hearing rows row
    → ((d : ℕ) → d < 8 → (drives rows d).rst ≡ true → (bus rows).rst ≡ true)
    → (((d : ℕ) → d < 8 → (drives (row ∷ rows) d).rst ≡ false) → (bus (row ∷ rows)).rst ≡ false)
    → AreOfDevices (row ∷ rows) → AreTied s (row ∷ rows) → connection rows ≡ Some m
    → connection (row ∷ rows) ≡ Some n → events_of_row s rows row ≡ [] → IsUnleft rows v.def.dev (hearing rows row)
    → (is_phase_left (hearing rows row) ≡ false) ⊎ (v.negotiated.opening ≡ None) → KnowsRows s rows v
    → Stays s rows row v
stays s rows row v m n plain w on off d tied before after none unleft met g = record {
  progress_is = progress_on s rows row v.progress plain w d tied
      (subst (λ (x : ℕ). IsUnleft rows x (hearing rows row)) (sym g.progress_dev) unleft) g.progress_is;
  negotiated_are = met_on s rows row v.negotiated m n (plain rows d.1)
      (plain (row ∷ rows) d) w on off d tied before after none met g.negotiated_are;
}

-- A row that tells it no more than a byte of data, in a connection of its own: what it keeps of the process that it
-- serves.
pub record Serves (s : ScenarioValue) (rows : List Row) (row : Row) (v : TargetValue) : Type 0 where
  pub all : Stays s rows row v
  pub kept : AreAttendedOf s (row ∷ rows) v.def.dev (record { units = v.units; standing = v.standing })
  pub course_is : IsCourseIf s (row ∷ rows) v.def.dev v.course
  pub reply_is : IsReplyOf s (row ∷ rows) v.def.dev v.reply

changes_left : (w : Hearing) → changes_phase w.change ≡ false → is_phase_left w ≡ false
changes_left w changes = λ i. changes i && w.begun

course_if_on : (s : ScenarioValue) (rows : List Row) (row : Row) (dev : ℕ) (m : Connection) (c : Option CourseState)
    → IsPlain s rows (run_state s rows) → IsPlain s (row ∷ rows) (run_state s (row ∷ rows))
    → hearing_of (run_state s rows) row (row_reading (run_state s rows).story.bus_state row) ≡ hearing rows row
    → IsOwnConnection rows dev m → (bus rows).rst ≡ false → ((hearing rows row).crosses ≡ true → knows_command c ≡ true)
    → changes_phase (hearing rows row).change ≡ false → hears_message (hearing rows row) ≡ false
    → (hearing rows row).fault ≡ false → IsCourseIf s rows dev c → IsCourseIf s (row ∷ rows) dev c
course_if_on s rows row dev m None p q w own calm known changes unsaid fault old =
    let bad : false ≡ true = sym calm ∙ old m own in
    absurd cc
course_if_on s rows row dev m (Some c) p q w own calm known changes unsaid fault old =
    course_on s rows row dev m c p q w own.stands calm own.own known changes unsaid fault old

pub serves : (s : ScenarioValue) (rows : List Row) (row : Row) (v : TargetValue) → IsPlainFor s
    → hearing_of (run_state s rows) row (row_reading (run_state s rows).story.bus_state row) ≡ hearing rows row
    → ((d : ℕ) → d < 8 → (drives rows d).rst ≡ true → (bus rows).rst ≡ true)
    → (((d : ℕ) → d < 8 → (drives (row ∷ rows) d).rst ≡ false) → (bus (row ∷ rows)).rst ≡ false) → HasSeats s
    → AreOfDevices (row ∷ rows) → AreTied s (row ∷ rows) → StandsInOwn rows row v.def.dev
    → IsQuiet (hearing rows row) v.course (events_of_row s rows row) → KnowsRows s rows v → Serves s rows row v
serves s rows row v plain w on off seats d tied at quiet g =
    let p = plain rows d.1 in
    let q = plain (row ∷ rows) d in
    let m = at.before in
    let n = at.after in
    let left = changes_left (hearing rows row) quiet.changes in
    record {
      all = stays s rows row v m n plain w on off d tied at.own.stands at.stands quiet.empty (λ x o. left) (inl left) g;
      kept = stood_on s rows row v.def.dev m (record { units = v.units; standing = v.standing }) at.own.stands (empty_on
          s rows row v.def.dev (record { units = v.units; standing = v.standing }) p q seats tied quiet.empty (record {
            dev_is = g.units_dev;
            kept = record { sound = g.sound; units = g.units_are };
            standing = g.standing_is;
          }));
      course_is = course_if_on s rows row v.def.dev m v.course p q w at.own at.calm quiet.knows quiet.changes
          quiet.unsaid quiet.fault g.course_is;
      reply_is =
          reply_on s rows row v.def.dev m n v.reply p q w seats at.own at.calm tied at.stands quiet.changes g.reply_is;
    }
