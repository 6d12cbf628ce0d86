-- What a target decides by its course means the same as what the rows have it decide by.
use Rattle.std.proofs.Common.{ℕ, ◌≡◌, ◌∙◌, ◌≤◌, ◌==◌, Bool, true, false, List, [], ◌∷◌, refl, sym, length, take}
use Rattle.std.proofs.Common.{Option, Some, None, ◌⊎◌, inl, inr}
use Rattle.std.specs.Prelude.{if◌then◌else◌, not, ◌&&◌, ◌||◌, nat_lt, is_some, is_none, min, slice_index}
use Rattle.std.proofs.lemmas.Bool.{eqb-true, and_parts, not-true}
use Rattle.std.proofs.lemmas.List.{take_all, length-take}
use native.Mathlib.Omega.{arith}
use Rattle.bus_trace.specs.declared.Row.{Row}
use Rattle.bus_trace.specs.declared.connection.Connection.{Connection}
use Rattle.bus_trace.specs.LineSet.{LineSet}
use Rattle.bus_trace.specs.Phases.{is_data, changes_phase}
use Rattle.bus_trace.specs.Terms.{connection}
use Rattle.bus_trace.specs.Trace.{bus}
use Rattle.cdb_codec.specs.Cdb.{command_of, group_len, has_group_len, is_len}
use Rattle.cdb_codec.specs.declared.status.TheConstants.{GOOD}
use Rattle.scenario.specs.Needs.{is_write}
use Rattle.scenario.specs.declared.value.AbortDef.{AbortDef}
use Rattle.scenario.specs.declared.value.Tag.{Tag}
use Rattle.scenario.specs.declared.value.Tag.TheVariants as tags
use Rattle.scenario.specs.declared.value.TargetDef.{TargetDef}
use Rattle.scenario.specs.Value.{ScenarioValue}
use Rattle.bus_base.specs.declared.AbortKind.{AbortKind}
use Rattle.array_model.proofs.SoundArrays
use Rattle.array_model.specs.ArrayHistory.{reply_in}
use Rattle.array_model.specs.Execution.{Reply, is_request_sense}
use Rattle.array_model.specs.Order.{range_in, range_named}
use Rattle.array_model.specs.Processes.{Process}
use Rattle.array_model.specs.Steps.{running_process}
use Rattle.array_model.specs.Units.{Array}
use Rattle.due_model.specs.story_model.specs.BusState.{RowReading, row_reading}
use Rattle.due_model.specs.story_model.specs.HistoryEvents.{abort_line_at}
use Rattle.due_model.specs.story_model.specs.Items.{Item, process, abort}
use Rattle.due_model.specs.story_model.specs.Right.{same_bytes}
use Rattle.due_model.specs.dialogue_model.specs.declared.exchange.Cause.{Cause}
use Rattle.due_model.specs.dialogue_model.specs.declared.exchange.Cause.TheVariants as causes
use Rattle.due_model.specs.dialogue_model.specs.declared.exchange.Next.{Next}
use Rattle.due_model.specs.dialogue_model.specs.declared.exchange.Phase.{Phase}
use Rattle.due_model.specs.dialogue_model.specs.declared.exchange.Phase.TheVariants as phases
use Rattle.due_model.specs.dialogue_model.specs.declared.exchange.Plan.{Plan}
use Rattle.due_model.specs.dialogue_model.specs.declared.exchange.Said.{Said}
use Rattle.due_model.specs.dialogue_model.specs.declared.exchange.Task.{Task}
use Rattle.due_model.specs.dialogue_model.specs.Arrivals.{arrival_by, policy_of}
use Rattle.due_model.specs.dialogue_model.specs.NextPhase.{Serving, phase_of}
use Rattle.due_model.specs.dialogue_model.specs.Ends.{follows_by}
use Rattle.due_model.specs.dialogue_model.specs.PhaseBytes
use Rattle.due_model.specs.Defs.{target_def_of}
use Rattle.due_model.specs.Faithful.{is_unit, same_tag, is_kind, is_abort_named, is_item_named, is_opening_named}
use Rattle.due_model.specs.Faithful.{is_block_of_process, is_true_leaving}
use Rattle.due_model.specs.LastingState.{progress_in}
use Rattle.due_model.specs.Plain.{IsPlain}
use Rattle.due_model.specs.RunState.{RunState, array_of, bus_of, drives_of, process_item, process_served, carried_here}
use Rattle.due_model.specs.RunSteps.{run_state, is_for_process}
use Rattle.due_model.specs.Sights.{leaving, arrival_at, pace_of, serving_of}
use Rattle.due_model.specs.Tasks.{arrival_if, blocks_in, given_of, is_writing, moved_count, reply_now, status_by}
use Rattle.due_model.specs.Tasks.{task_if}
use Rattle.due_model.specs.Tasks.{task_of, task_with}
use Rattle.target_units.specs.scsi_device.specs.Heard.{Instructions, instructions, is_block, is_carried}
use Rattle.target_units.specs.scsi_device.specs.Heard.{is_command_phase, is_heard, is_heard_after, is_heard_in}
use Rattle.target_units.specs.scsi_device.specs.Heard.{is_heard_process, is_heard_row, is_instructed, is_known_item}
use Rattle.target_units.specs.scsi_device.specs.Heard.{is_name, is_new, is_of_scenario, is_opening, is_opening_in}
use Rattle.target_units.specs.scsi_device.specs.Heard.{is_placed, is_said, is_served, gives_status, heard, may_leave}
use Rattle.target_units.specs.scsi_device.specs.Heard.{moves_data, is_answered, is_unanswered, is_heard_on}
use Rattle.target_units.specs.scsi_device.specs.Heard.{is_true_turn, is_true_end}
use Rattle.target_course.specs.Agreeing.{arrives, IsSameCommand, HaveSameTask, AreAgreeing}
use Rattle.target_course.specs.Courses.{CourseState, name_with, name_of, name_by, name_if, moved_by, status_known}
use Rattle.target_course.specs.Courses.{status_if, task_by, serving_by, MOST_KEPT, IsTold, IsOfProcess, IsCourse}
use Rattle.target_course.specs.Courses.{IsStateOf, IsOutlookOf, AreToldOf}
use Rattle.target_course.specs.declared.course.ProcessState.{ProcessState}
use Rattle.bus_base.proofs.Tests.{or_second, implied, middle}
use Rattle.target_units.specs.scsi_device.proofs.PhaseLines.{phase_is_command}
use Rattle.due_model.specs.story_model.proofs.SameBytes.{bytes_are}

pub either : (x y : Bool) → (x || y) ≡ true → (x ≡ true) ⊎ (y ≡ true)
either true y e = inl refl
either false y e = inr e

-- ---- what is heard of the rows

pub record IsFront (s : ScenarioValue) (k : RunState) (n : Connection) (i : Instructions) : Type 0 where
  pub said : may_leave s k n ≡ true → is_true_leaving s k (process_served s k) (phase_of (bus_of k)) ≡ true
  pub known : is_known_item k n ≡ true
  pub there : is_of_scenario s k.served ≡ true
  pub serves : is_opening k ≡ false → is_some (process_served s k) ≡ true
  pub heard : is_opening k ≡ false → is_heard_process s k n i (process_served s k) (phase_of (bus_of k)) ≡ true

front_of : (s : ScenarioValue) (k : RunState) (n : Connection) (i : Instructions) → is_heard_in s k n i ≡ true
    → IsFront s k n i
front_of s k n i e =
    let last = and_parts (is_said s k n && is_known_item k n && is_served s k)
    (is_opening k || is_heard_process s k n i (process_served s k) (phase_of (bus_of k))) e in
    let three = and_parts (is_said s k n && is_known_item k n) (is_served s k) last.0 in
    let two = and_parts (is_said s k n) (is_known_item k n) three.0 in
    let served = and_parts (is_of_scenario s k.served) (is_opening k || is_some (process_served s k)) three.1 in
    record {
      said = implied (may_leave s k n) (is_true_leaving s k (process_served s k) (phase_of (bus_of k))) two.0;
      known = two.1;
      there = served.0;
      serves = or_second (is_opening k) (is_some (process_served s k)) served.1;
      heard = or_second (is_opening k) (is_heard_process s k n i (process_served s k) (phase_of (bus_of k))) last.1;
    }

pub front_heard : (s : ScenarioValue) (rows : List Row) (n : Connection) → IsPlain s rows (run_state s rows)
    → heard s rows ≡ true → connection rows ≡ Some n → (bus rows).rst ≡ false
    → IsFront s (run_state s rows) n (instructions s rows)
front_heard s [] n p e c r = absurd cc
front_heard s (row ∷ rows) n p e c r =
    let k : RunState = run_state s rows in
    let next : RunState = run_state s (row ∷ rows) in
    let d : RowReading = row_reading k.story.bus_state row in
    let i : Instructions = instructions s (row ∷ rows) in
    let last = and_parts (heard s rows) (is_heard_after s k next d i) e in
    let two = and_parts (is_heard_row s k next d) (is_heard s next d.next i) last.1 in
    front_of s next n i (or_second (bus_of next).rst (is_heard_in s next n i)
    ((λ j. is_heard s next (sym (p.connection ∙ c) j) i) ∙ two.1) ((λ j. (p.bus j).rst) ∙ r))

-- The connection stood before the row, too.
pub record IsTurn (s : ScenarioValue) (k : RunState) (m : Connection) (d : RowReading) : Type 0 where
  pub calm : d.change.before.rst ≡ false
  pub turn : changes_phase d.change ≡ true → is_true_turn s k m d ≡ true

pub turn_heard : (s : ScenarioValue) (rows : List Row) (row : Row) (m n : Connection)
    → IsPlain s rows (run_state s rows) → IsPlain s (row ∷ rows) (run_state s (row ∷ rows))
    → heard s (row ∷ rows) ≡ true → connection rows ≡ Some m
    → connection (row ∷ rows) ≡ Some n → (bus (row ∷ rows)).rst ≡ false
    → IsTurn s (run_state s rows) m (row_reading (run_state s rows).story.bus_state row)
turn_heard s rows row m n p q e x y r =
    let k : RunState = run_state s rows in
    let next : RunState = run_state s (row ∷ rows) in
    let d : RowReading = row_reading k.story.bus_state row in
    let i : Instructions = instructions s (row ∷ rows) in
    let last = and_parts (heard s rows) (is_heard_after s k next d i) e in
    let two = and_parts (is_heard_row s k next d) (is_heard s next d.next i) last.1 in
    let on : is_heard_on s k next d (Some m) (Some n) ≡ true =
    (λ j. is_heard_on s k next d (sym (p.connection ∙ x) j) (sym (q.connection ∙ y) j)) ∙ or_second d.change.after.rst
    (is_heard_on s k next d k.story.bus_state.connection d.next) two.0 ((λ j. (q.bus j).rst) ∙ r) in
    let both = and_parts (not d.change.before.rst) (not (changes_phase d.change) || is_true_turn s k m d) on in
    record {
      calm = not-true d.change.before.rst both.0;
      turn = implied (changes_phase d.change) (is_true_turn s k m d) both.1;
    }

-- The connection ends with the row.
pub end_heard : (s : ScenarioValue) (rows : List Row) (row : Row) (m : Connection) → IsPlain s rows (run_state s rows)
    → IsPlain s (row ∷ rows) (run_state s (row ∷ rows)) → heard s (row ∷ rows) ≡ true → connection rows ≡ Some m
    → connection (row ∷ rows) ≡ None → (bus (row ∷ rows)).rst ≡ false → (bus rows).rst ≡ false
    → may_leave s (run_state s rows) m ≡ true
end_heard s rows row m p q e x y r calm =
    let k : RunState = run_state s rows in
    let next : RunState = run_state s (row ∷ rows) in
    let d : RowReading = row_reading k.story.bus_state row in
    let i : Instructions = instructions s (row ∷ rows) in
    let last = and_parts (heard s rows) (is_heard_after s k next d i) e in
    let two = and_parts (is_heard_row s k next d) (is_heard s next d.next i) last.1 in
    let on : is_heard_on s k next d (Some m) None ≡ true =
    (λ j. is_heard_on s k next d (sym (p.connection ∙ x) j) (sym (q.connection ∙ y) j)) ∙ or_second d.change.after.rst
    (is_heard_on s k next d k.story.bus_state.connection d.next) two.0 ((λ j. (q.bus j).rst) ∙ r) in
    let both = and_parts (may_leave s k m) (is_none (leaving s k m.target).to)
    (or_second d.change.before.rst (is_true_end s k m) on ((λ j. (p.bus j).rst) ∙ calm)) in
    both.0

-- ---- names and bytes

pub tag_is : (a b : Tag) → same_tag a b ≡ true → a ≡ b
tag_is tags.Untagged tags.Untagged e = refl
tag_is (tags.Simple a) (tags.Simple b) e = λ i. tags.Simple (eqb-true a b e i)
tag_is (tags.Ordered a) (tags.Ordered b) e = λ i. tags.Ordered (eqb-true a b e i)
tag_is (tags.Head a) (tags.Head b) e = λ i. tags.Head (eqb-true a b e i)
tag_is _ _ e = cc

pub name_is : (o : Option Said) (p : Process) → is_name o p ≡ true → name_if o ≡ Some (name_of p)
name_is None p e = cc
name_is (Some said) p e =
    let last = and_parts (is_none said.aborts && is_unit said.unit p.unit) (same_tag said.tag p.tag) e in
    let two = and_parts (is_none said.aborts) (is_unit said.unit p.unit) last.0 in
    go said.unit two.1 (tag_is said.tag p.tag last.1)
  where
    go : (u : Option ℕ) → is_unit u p.unit ≡ true → said.tag ≡ p.tag → name_by said.tag u ≡ Some (name_of p)
    go None f g = cc
    go (Some lun) f g = λ i. Some (name_with (g i) (eqb-true lun p.unit f i))

-- A block that is as long as its group says has at most ten bytes; so eleven tell whether it is.
abbrev group_of : Bool → Bool → Option ℕ
group_of six ten = if six then Some 6 else if ten then Some 10 else None

pub short_group : (six ten : Bool) (n : ℕ) → is_len (group_of six ten) n ≡ true → n ≤ 10
short_group true ten n e = let same : 6 ≡ n = eqb-true 6 n e in omega (arith, same)
short_group false true n e = let same : 10 ≡ n = eqb-true 10 n e in omega (arith, same)
short_group false false n e = absurd cc

pub group_short : (block : List ℕ) → has_group_len block ≡ true → length block ≤ 10
group_short block e =
    short_group (nat_lt (slice_index block 0) 0x20) (nat_lt (slice_index block 0) 0x40) (length block) e

kept_len : (six ten : Bool) (n : ℕ) → is_len (group_of six ten) (min 11 n) ≡ is_len (group_of six ten) n
kept_len true ten n = grind arith
kept_len false true n = grind arith
kept_len false false n = refl

first_kept : (block : List ℕ) → slice_index (take MOST_KEPT block) 0 ≡ slice_index block 0
first_kept [] = refl
first_kept (x ∷ block) = refl

group_kept : (block : List ℕ) → has_group_len (take MOST_KEPT block) ≡ has_group_len block
group_kept block =
    (λ i. is_len (group_len (first_kept block i)) (length-take MOST_KEPT block i))
    ∙ kept_len (nat_lt (slice_index block 0) 0x20) (nat_lt (slice_index block 0) 0x40) (length block)

-- ---- the process that is served, after the opening

command_closed : (phase : Phase) (c : Cause) → is_command_phase phase ≡ true → is_opening_in phase c ≡ false
command_closed phases.Command c e = refl
command_closed phases.MessageOut c e = cc
command_closed phases.MessageIn c e = refl
command_closed phases.Status c e = refl
command_closed phases.DataIn c e = refl
command_closed phases.DataOut c e = refl

pub record IsServed (s : ScenarioValue) (k : RunState) (n : Connection) (i : Instructions) (c : CourseState)
    (p : Process) : Type 0 where
  pub is : process_served s k ≡ Some p
  pub id : c.id ≡ p.id
  pub named : c.named ≡ Some (name_of p)
  -- in COMMAND
  pub fresh : is_command_phase (phase_of (bus_of k)) ≡ true → i.known ≡ false
  pub carried : is_command_phase (phase_of (bus_of k)) ≡ true → c.block ≡ take MOST_KEPT (carried_here k p.id).block
  -- once its command is known
  pub block : i.known ≡ true → c.block ≡ p.cdb
  pub moves : moves_data (phase_of (bus_of k)) k.exchange.plan.next ≡ true → i.known ≡ true
  pub gives : gives_status (phase_of (bus_of k)) k.exchange.plan.next ≡ true
      → is_some (reply_in (array_of s k).replies p.id) ≡ true

record IsPlaced (a : Array) (p : Process) (phase : Phase) (next : Next) (known : Bool) : Type 0 where
  fresh : is_command_phase phase ≡ true → known ≡ false
  moves : moves_data phase next ≡ true → known ≡ true
  gives : gives_status phase next ≡ true → is_some (reply_in a.replies p.id) ≡ true

placed_is : (a : Array) (p : Process) (phase : Phase) (next : Next) (known : Bool)
    → is_placed a p phase next known ≡ true → IsPlaced a p phase next known
placed_is a p phase next known e =
    let last = and_parts ((not (is_command_phase phase) || (not known && is_new a p)) && (not (moves_data phase next)
    || (known && is_unanswered (running_process a p.id) && is_none (reply_in a.replies p.id))))
    (not (gives_status phase next) || (is_answered (running_process a p.id) && is_some (reply_in a.replies p.id))) e in
    let two = and_parts (not (is_command_phase phase) || (not known && is_new a p)) (not (moves_data phase next)
    || (known && is_unanswered (running_process a p.id) && is_none (reply_in a.replies p.id))) last.0 in
    record {
      fresh = λ f.
          let both = and_parts (not known) (is_new a p)
          (implied (is_command_phase phase) (not known && is_new a p) two.0 f) in
          not-true known both.0;
      moves = λ f.
          let three = and_parts (known && is_unanswered (running_process a p.id))
          (is_none (reply_in a.replies p.id)) (implied (moves_data phase next)
          (known && is_unanswered (running_process a p.id) && is_none (reply_in a.replies p.id)) two.1 f) in
          let both = and_parts known (is_unanswered (running_process a p.id)) three.0 in
          both.0;
      gives = λ f.
          let both = and_parts (is_answered (running_process a p.id))
          (is_some (reply_in a.replies p.id)) (implied (gives_status phase next)
          (is_answered (running_process a p.id) && is_some (reply_in a.replies p.id)) last.1 f) in
          both.1;
    }

-- After a selection.
record IsInstructed (k : RunState) (i : Instructions) (p : Process) : Type 0 where
  name : is_name i.opening p ≡ true
  carried : is_command_phase (phase_of (bus_of k)) ≡ true → i.block ≡ (carried_here k p.id).block
  whole : i.known ≡ true → has_group_len i.block ≡ true
  block : i.known ≡ true → i.block ≡ p.cdb

instructed_is : (k : RunState) (i : Instructions) (p : Process) → is_instructed k i p (phase_of (bus_of k)) ≡ true
    → IsInstructed k i p
instructed_is k i p e =
    let phase : Phase = phase_of (bus_of k) in
    let last = and_parts (is_name i.opening p && is_carried k i p phase) (is_block i p) e in
    let two = and_parts (is_name i.opening p) (is_carried k i p phase) last.0 in
    record {
      name = two.0;
      carried = λ f. bytes_are i.block (carried_here k p.id).block
          (implied (is_command_phase phase) (same_bytes i.block (carried_here k p.id).block) two.1 f);
      whole = λ f.
          let both = and_parts (has_group_len i.block) (same_bytes i.block p.cdb)
          (implied i.known (has_group_len i.block && same_bytes i.block p.cdb) last.1 f) in
          both.0;
      block = λ f.
          let both = and_parts (has_group_len i.block) (same_bytes i.block p.cdb)
          (implied i.known (has_group_len i.block && same_bytes i.block p.cdb) last.1 f) in
          bytes_are i.block p.cdb both.1;
    }

pub served_is : (s : ScenarioValue) (rows : List Row) (n : Connection) (c : CourseState)
    → IsFront s (run_state s rows) n (instructions s rows) → is_opening (run_state s rows) ≡ false → IsCourse s rows n c
    → (p : Process) × IsServed s (run_state s rows) n (instructions s rows) c p
served_is s rows n c front closed course = go (process_served s k) refl (front.serves closed) (front.heard closed)
  where
    k : RunState
    k = run_state s rows

    i : Instructions
    i = instructions s rows

    phase : Phase
    phase = phase_of (bus_of k)

    id_is : (p : Process) → process_served s k ≡ Some p → c.id ≡ p.id
    id_is p is = item k.served refl is
      where
        item : (x : Option Item) → k.served ≡ x → process_item s x ≡ Some p → c.id ≡ p.id
        item None e f = cc
        item (Some (abort m)) e f = cc
        item (Some (process z)) e f = course.label_is.process_is z e ∙ sym (SoundArrays.id_is s z p f)

    by : (p : Process) → process_served s k ≡ Some p → (y : Bool) → n.reselected ≡ y
        → (y || is_instructed k i p phase) ≡ true → is_placed (array_of s k) p phase k.exchange.plan.next i.known ≡ true
        → IsServed s k n i c p
    by p is true r f g =
        let x : IsPlaced (array_of s k) p phase k.exchange.plan.next i.known = placed_is
        (array_of s k) p phase k.exchange.plan.next i.known g in
        let t : IsOfProcess i p c = course.current r p is in
        record {
          is = is;
          id = id_is p is;
          named = t.named;
          fresh = x.fresh;
          carried = λ z. let never : true ≡ false = sym t.since ∙ x.fresh z in absurd cc;
          block = λ z. t.block;
          moves = x.moves;
          gives = x.gives;
        }
    by p is false r f g =
        let x : IsPlaced (array_of s k) p phase k.exchange.plan.next i.known = placed_is
        (array_of s k) p phase k.exchange.plan.next i.known g in
        let h : IsInstructed k i p = instructed_is k i p f in
        let t : IsTold i c = course.told r in
        record {
          is = is;
          id = id_is p is;
          named = t.named ∙ name_is i.opening p h.name;
          fresh = x.fresh;
          carried = λ z. t.block ∙ (λ j. take MOST_KEPT (h.carried z j));
          block = λ z.
              let few : length i.block ≤ 10 = group_short i.block (h.whole z) in
              t.block ∙ take_all MOST_KEPT i.block (omega (arith, few)) ∙ h.block z;
          moves = x.moves;
          gives = x.gives;
        }

    go : (x : Option Process) → process_served s k ≡ x → is_some x ≡ true → is_heard_process s k n i x phase ≡ true
        → (p : Process) × IsServed s k n i c p
    go None is e f = absurd cc
    go (Some p) is e f =
        let both = and_parts (n.reselected || is_instructed k i p phase)
        (is_placed (array_of s k) p phase k.exchange.plan.next i.known) f in
        (p, by p is n.reselected refl both.0 both.1)

-- ---- its command

moved_is : (a : Array) (p : Process) (f : ProcessState) (writes : Bool) → writes ≡ is_writing p
    → f.plan.status ≡ (reply_now a p).status → f.plan.in_len ≡ length (reply_now a p).bytes
    → (is_writing p ≡ true → (f.plan.status == GOOD) ≡ true → f.plan.out_len ≡ length p.sent)
    → moved_by f.plan writes ≡ moved_count p (reply_now a p)
moved_is a p f writes w e l out =
    (λ i. if w i then (if f.plan.status == GOOD then f.plan.out_len else 0) else f.plan.in_len)
    ∙ go (f.plan.status == GOOD) (is_writing p) (λ g h. out h g)
    ∙ (λ i. length (if is_writing p then (if e i == GOOD then p.sent else []) else (reply_now a p).bytes))
  where
    go : (g h : Bool) → (g ≡ true → h ≡ true → f.plan.out_len ≡ length p.sent)
        → (if h then (if g then f.plan.out_len else 0) else f.plan.in_len)
        ≡ length (if h then (if g then p.sent else []) else (reply_now a p).bytes)
    go true true z = z refl refl
    go false true z = refl
    go g false z = l

command_is : (s : ScenarioValue) (k : RunState) (p : Process) (c : CourseState) (f : ProcessState) (t : Task)
    → c.block ≡ p.cdb → IsStateOf s k p f → IsOutlookOf s k p f → t.writes ≡ is_writing p
    → t.moved ≡ moved_count p (reply_now (array_of s k) p) → t.blocks ≡ blocks_in (range_named p) → t.size ≡ f.size
    → IsSameCommand (task_by c f) t
command_is s k p c f t b st o w m r z = record {
  writes = writes ∙ sym w;
  moved = moved_is (array_of s k) p f (is_write (command_of c.block)) writes (λ i. (o.plan i).status)
      (λ i. (o.plan i).in_len) o.sent ∙ sym m;
  blocks = (λ i. blocks_in (if st.serial i then None else range_in (command_of (b i)))) ∙ sym r;
  size = sym z;
}
  where
    writes : is_write (command_of c.block) ≡ is_writing p
    writes = λ i. is_write (command_of (b i))

status_is : (a : Array) (p : Process) (f : ProcessState) → f.reply ≡ status_if (reply_in a.replies p.id)
    → (is_some (reply_in a.replies p.id) ≡ false → f.plan.status ≡ (reply_now a p).status)
    → status_known f.plan f.reply ≡ status_by (reply_now a p) (reply_in a.replies p.id)
status_is a p f r e = (λ i. status_known f.plan (r i)) ∙ go (reply_in a.replies p.id) e
  where
    go : (x : Option Reply) → (is_some x ≡ false → f.plan.status ≡ (reply_now a p).status)
        → status_known f.plan (status_if x) ≡ status_by (reply_now a p) x
    go None g = g refl
    go (Some reply) g = refl

some_status : (x : Option Reply) → is_some (status_if x) ≡ is_some x
some_status None = refl
some_status (Some reply) = refl

-- ---- the opening: an abort that was heard negotiates nothing

struck_not : (v : Serving) (pulsed : Bool) (k : RunState) → follows_by v pulsed (bus_of k) k.handshakes ≡ false
    → (pulsed ≡ true → is_opening_in (phase_of (bus_of k)) v.plan.cause ≡ false)
    → is_opening_in (phase_of (bus_of k)) v.plan.cause ≡ true → v.plan.struck ≡ false
struck_not v true k e f g = let h : is_opening_in (phase_of (bus_of k)) v.plan.cause ≡ false = f refl in cc
struck_not v false k e f g = by (phase_of (bus_of k)) g e
  where
    none : (x y z : Bool) → (x || y || z) ≡ false → z ≡ false
    none true y z m = cc
    none false true z m = cc
    none false false z m = m

    by : (phase : Phase) → is_opening_in phase v.plan.cause ≡ true
        → PhaseBytes.follows_in v k.handshakes (bus_of k).atn phase ≡ false → v.plan.struck ≡ false
    by phases.MessageOut m o = none (k.handshakes.answers == 0) (bus_of k).atn v.plan.struck o
    by phases.MessageIn m o = cc
    by phases.Command m o = cc
    by phases.Status m o = cc
    by phases.DataIn m o = cc
    by phases.DataOut m o = cc

abort_named : (x : Option AbortKind) (a : AbortDef) (said : Said) → said.aborts ≡ x
    → is_abort_named said (Some a) ≡ true → is_none x ≡ false
abort_named None a said e f =
    let both = and_parts (is_unit said.unit a.unit) (is_kind said.aborts a.what) f in
    let never : false ≡ true = (λ i. is_kind (sym e i) a.what) ∙ both.1 in
    cc
abort_named (Some y) a said e f = refl

opening_said : (s : ScenarioValue) (k : RunState) (p : Option Process) (phase : Phase) (cause : Cause)
    → is_opening_in phase cause ≡ true → k.exchange.plan.cause ≡ cause → is_true_leaving s k p phase ≡ true
    → k.exchange.plan.struck ≡ false → is_item_named s k.exchange.plan.said k.served ≡ true
opening_said s k p phases.MessageOut causes.Selected e c t z = or_second k.exchange.plan.struck
    (is_item_named s k.exchange.plan.said k.served) ((λ i. is_opening_named s k.exchange.plan k.served (sym c i)) ∙ t) z
opening_said s k p phases.MessageOut causes.InMessage e c t z = cc
opening_said s k p phases.MessageOut causes.InData e c t z = cc
opening_said s k p phases.MessageOut causes.InStatus e c t z = cc
opening_said s k p phases.MessageIn cause e c t z = cc
opening_said s k p phases.Command cause e c t z = cc
opening_said s k p phases.Status cause e c t z = cc
opening_said s k p phases.DataIn cause e c t z = cc
opening_said s k p phases.DataOut cause e c t z = cc

data_closed : (bus : LineSet) (c : Cause) → is_data bus ≡ true → is_opening_in (phase_of bus) c ≡ false
data_closed bus c e = go bus.msg bus.cd bus.io e
  where
    go : (m d o : Bool) → (not m && not d) ≡ true
        → is_opening_in (if m then (if o then phases.MessageIn else phases.MessageOut)
        else if d then (if o then phases.Status else phases.Command) else if o then phases.DataIn else phases.DataOut) c
        ≡ false
    go true d o f = cc
    go false true o f = cc
    go false false true f = refl
    go false false false f = refl

-- ---- both

-- Where the phase may be left, no byte follows.
pub stops : (s : ScenarioValue) (k : RunState) (n : Connection) → may_leave s k n ≡ true
    → follows_by (serving_of s k n.target) (pace_of s k n.target).pulsed (bus_of k) k.handshakes ≡ false
stops s k n e =
    let both = and_parts (k.exchange.begun && not (drives_of k n.target).req)
    (not (follows_by (serving_of s k n.target) (pace_of s k n.target).pulsed (bus_of k) k.handshakes)) e in
    not-true (follows_by (serving_of s k n.target) (pace_of s k n.target).pulsed (bus_of k) k.handshakes) both.1

pub courses_agree :
    (s : ScenarioValue) (rows : List Row) (n : Connection) (d : TargetDef) (c : CourseState) (f : ProcessState)
    → IsFront s (run_state s rows) n (instructions s rows) → (run_state s rows).exchange.begun ≡ true
    → target_def_of s n.target ≡ Some d → IsCourse s rows n c → AreToldOf s rows c f
    → AreAgreeing (may_leave s (run_state s rows) n) (phase_of (bus_of (run_state s rows)))
    (serving_by d c f (given_of s (run_state s rows))) (serving_of s (run_state s rows) n.target)
courses_agree s rows n d c f front begun line course told = record {
  def = sym line;
  given = refl;
  plan = course.plan_is;
  negotiates = λ l e. negotiated k.served refl l e;
  task = λ o. served_task (closed o);
  arrival = λ t e a. arrived t e a;
}
  where
    k : RunState
    k = run_state s rows

    a : Array
    a = array_of s k

    i : Instructions
    i = instructions s rows

    plan : Plan
    plan = k.exchange.plan

    phase : Phase
    phase = phase_of (bus_of k)

    leaves : Bool
    leaves = may_leave s k n

    closed : is_opening_in phase plan.cause ≡ false → is_opening k ≡ false
    closed o = λ j. not (begun j) || o j

    negotiated : (x : Option Item) → k.served ≡ x → leaves ≡ true → is_none plan.said.aborts ≡ true
        → c.plan.negotiates ≡ plan.negotiates
    negotiated None e l z = let never : false ≡ true = (λ j. is_of_scenario s (sym e j)) ∙ front.there in cc
    negotiated (Some (process id)) e l z = course.negotiates_is (λ j. is_for_process (e j))
    negotiated (Some (abort m)) e l z = by (is_opening k) refl (abort_line_at s.aborts m) refl
      where
        by : (y : Bool) → is_opening k ≡ y → (x : Option AbortDef) → abort_line_at s.aborts m ≡ x
            → c.plan.negotiates ≡ plan.negotiates
        by false o x g = let never : false ≡ true = (λ j. is_some (process_item s (sym e j))) ∙ front.serves o in cc
        by true o None g =
            let never : false ≡ true = (λ j. is_some (sym g j)) ∙ (λ j. is_of_scenario s (sym e j)) ∙ front.there in
            cc
        by true o (Some b) g =
            let opened : is_opening_in phase plan.cause ≡ true = implied k.exchange.begun
            (is_opening_in phase plan.cause) o begun in
            let unstruck : plan.struck ≡ false = struck_not (serving_of s k n.target)
            (pace_of s k n.target).pulsed k (stops s k n l)
            (λ q. data_closed (bus_of k) plan.cause (middle k.exchange.begun (is_data (bus_of k)) _ q)) opened in
            let said : is_item_named s plan.said k.served ≡ true = opening_said s k
            (process_served s k) phase plan.cause opened refl (front.said l) unstruck in
            let named : is_abort_named plan.said (Some b) ≡ true = (λ j. is_abort_named plan.said (sym g j))
            ∙ (λ j. is_item_named s plan.said (sym e j)) ∙ said in
            let some : is_none plan.said.aborts ≡ false = abort_named plan.said.aborts b plan.said refl named in
            cc

    -- the command as it arrives
    arriving : (p : Process) → IsServed s k n i c p → (whole : Bool) → whole ≡ has_group_len (carried_here k p.id).block
        → arrives leaves phase plan whole ≡ true → c.block ≡ p.cdb
    arriving p v whole w e =
        let one = and_parts leaves (is_command_phase phase && (not plan.struck && whole)) e in
        let two = and_parts (is_command_phase phase) (not plan.struck && whole) one.1 in
        let three = and_parts (not plan.struck) whole two.1 in
        let same : phase ≡ phases.Command = phase_is_command phase two.0 in
        let said : is_block_of_process s k (Some p) ≡ true = (λ j. is_block_of_process s k (sym v.is j))
        ∙ (λ j. is_true_leaving s k (process_served s k) (sym same j)) ∙ front.said one.0 in
        let block : (carried_here k p.id).block ≡ p.cdb = bytes_are (carried_here k p.id).block p.cdb
        (or_second plan.struck (same_bytes (carried_here k p.id).block p.cdb) said (not-true plan.struck three.0)) in
        let few : length (carried_here k p.id).block ≤ 10 = group_short (carried_here k p.id).block (sym w ∙ three.1) in
        v.carried two.0 ∙ take_all MOST_KEPT (carried_here k p.id).block (omega (arith, few)) ∙ block

    real : (p : Process) → Task
    real p = task_with a (progress_in k.progress p.id) p (carried_here k p.id) (reply_now a p) (reply_in a.replies p.id)

    served_task : is_opening k ≡ false
        → HaveSameTask leaves phase plan (if is_some c.named then Some (task_by c f) else None) (task_of s k)
    served_task o =
        let w : (p : Process) × IsServed s k n i c p = served_is s rows n c front o course in
        tasks w.0 w.1
      where
        tasks : (p : Process) → IsServed s k n i c p
            → HaveSameTask leaves phase plan (if is_some c.named then Some (task_by c f) else None) (task_of s k)
        tasks p v = record {
          one = task_by c f;
          other = real p;
          one_is = λ j. if is_some (v.named j) then Some (task_by c f) else None;
          other_is = λ j. task_if s k (v.is j);
          in_hold = st.in_hold;
          recoveries = st.recoveries;
          runs = st.runs;
          replied = (λ j. is_some (st.reply j)) ∙ some_status (reply_in a.replies p.id);
          whole = λ z. (λ j. has_group_len (v.carried z j)) ∙ group_kept (carried_here k p.id).block;
          status = λ z. status_is a p f st.reply
              (λ none. by_need (either (moves_data phase plan.next) (gives_status phase plan.next) z) none);
          command =
              λ z. command_of_need (either (moves_data phase plan.next) (arrives leaves phase plan (real p).whole) z);
        }
          where
            st : IsStateOf s k p f
            st = told.state p v.is v.id v.named

            by_need : (moves_data phase plan.next ≡ true) ⊎ (gives_status phase plan.next ≡ true)
                → is_some (reply_in a.replies p.id) ≡ false → f.plan.status ≡ (reply_now a p).status
            by_need (inl z) none = λ j. ((told.outlook p v.is v.id v.named (v.block (v.moves z))).plan j).status
            by_need (inr z) none = let never : true ≡ false = sym (v.gives z) ∙ none in cc

            known_command : c.block ≡ p.cdb → IsSameCommand (task_by c f) (real p)
            known_command b = command_is s k p c f (real p) b st (told.outlook p v.is v.id v.named b) refl refl refl
                (sym st.size)

            command_of_need : (moves_data phase plan.next ≡ true) ⊎ (arrives leaves phase plan (real p).whole ≡ true)
                → IsSameCommand (task_by c f) (real p)
            command_of_need (inl z) = known_command (v.block (v.moves z))
            command_of_need (inr z) = known_command (arriving p v (real p).whole refl z)

    arrived : (t : Task) → task_of s k ≡ Some t → arrives leaves phase plan t.whole ≡ true
        → arrival_by d.disc (is_request_sense (command_of c.block)) f.room ≡ arrival_at s k n.target phase
    arrived t e z =
        let one = and_parts leaves (is_command_phase phase && (not plan.struck && t.whole)) z in
        let two = and_parts (is_command_phase phase) (not plan.struck && t.whole) one.1 in
        let w : (p : Process) × IsServed s k n i c p = served_is s rows n c front
        (closed (command_closed phase plan.cause two.0)) course in
        arrives_so w.0 w.1 two.0
      where
        arrives_so : (p : Process) → IsServed s k n i c p → is_command_phase phase ≡ true
            → arrival_by d.disc (is_request_sense (command_of c.block)) f.room ≡ arrival_at s k n.target phase
        arrives_so p v command =
            let same : Some t ≡ Some (real p) = sym e ∙ (λ j. task_if s k (v.is j)) in
            let tasks : t ≡ real p = cc in
            let block : c.block ≡ p.cdb = arriving p v t.whole (λ j. (tasks j).whole) z in
            let st : IsStateOf s k p f = told.state p v.is v.id v.named in
            (λ j. arrival_by d.disc (is_request_sense (command_of (block j))) (st.room j))
            ∙ (λ j. arrival_if (policy_of (sym line j)) a (sym v.is j))
            ∙ (λ j. arrival_at s k n.target (sym (phase_is_command phase command) j))
