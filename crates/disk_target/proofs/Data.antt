-- While its process gives data the target knows that process.
use Rattle.std.proofs.Common.{◌≡◌, ◌≤◌, ◌∙◌, Bool, true, false, List, refl, sym, length, Option, Some, None}
use Rattle.std.specs.Prelude.{not, ◌&&◌, ◌||◌, is_some, is_none}
use Rattle.std.proofs.lemmas.Bool.{and_parts}
use Rattle.std.proofs.lemmas.List.{take_all}
use native.Mathlib.Omega.{arith}
use Rattle.bus_trace.specs.declared.Row.{Row}
use Rattle.bus_trace.specs.declared.connection.Connection.{Connection}
use Rattle.cdb_codec.specs.Cdb.{has_group_len}
use Rattle.scenario.specs.Value.{ScenarioValue}
use Rattle.array_model.proofs.SoundArrays
use Rattle.array_model.specs.Processes.{Process, process_of}
use Rattle.due_model.specs.story_model.specs.Items.{Item, process, abort}
use Rattle.due_model.specs.story_model.specs.Right.{same_bytes}
use Rattle.due_model.specs.dialogue_model.specs.declared.exchange.Cause.{Cause}
use Rattle.due_model.specs.dialogue_model.specs.declared.exchange.Next.{Next}
use Rattle.due_model.specs.dialogue_model.specs.declared.exchange.Phase.{Phase}
use Rattle.due_model.specs.dialogue_model.specs.declared.exchange.Phase.TheVariants as phases
use Rattle.due_model.specs.dialogue_model.specs.NextPhase.{phase_of}
use Rattle.due_model.specs.RunState.{RunState, array_of, bus_of, process_item, process_served}
use Rattle.due_model.specs.RunSteps.{run_state}
use Rattle.target_course.specs.scsi_device.specs.Heard.{Instructions, instructions, is_block, is_carried}
use Rattle.target_course.specs.scsi_device.specs.Heard.{is_command_phase, gives_status, is_heard_process, is_instructed}
use Rattle.target_course.specs.scsi_device.specs.Heard.{is_name, is_new, is_answered, is_unanswered, is_opening}
use Rattle.target_course.specs.scsi_device.specs.Heard.{is_opening_in, is_placed, moves_data}
use Rattle.array_model.specs.ArrayHistory.{reply_in}
use Rattle.array_model.specs.Steps.{running_process}
use Rattle.array_model.specs.Units.{Array}
use Rattle.target_course.specs.Courses.{CourseState, name_of, name_if, MOST_KEPT, IsTold, IsOfProcess, IsCourse}
use Rattle.target_course.proofs.CourseAgrees.{IsFront, name_is, group_short}
use Rattle.due_model.specs.story_model.proofs.SameBytes.{bytes_are}
use Rattle.disk_target.specs.Bytes.{gives_data}
use Rattle.bus_base.proofs.Tests.{implied}

-- ---- the process

pub record Knows (s : ScenarioValue) (rows : List Row) (c : CourseState) (p : Process) : Type 0 where
  pub is : process_served s (run_state s rows) ≡ Some p
  pub id : c.id ≡ p.id
  pub named : c.named ≡ Some (name_of p)
  pub block : c.block ≡ p.cdb

pub id_is : (s : ScenarioValue) (rows : List Row) (n : Connection) (c : CourseState) (p : Process) → IsCourse s rows n c
    → process_served s (run_state s rows) ≡ Some p → c.id ≡ p.id
id_is s rows n c p course is = item (run_state s rows).served refl is
  where
    item : (x : Option Item) → (run_state s rows).served ≡ x → process_item s x ≡ Some p → c.id ≡ p.id
    item None e f = cc
    item (Some (abort m)) e f = cc
    item (Some (process z)) e f = course.label_is.process_is z e ∙ sym (SoundArrays.id_is s z p f)

pub served_of : (s : ScenarioValue) (rows : List Row) (p : Process) → process_served s (run_state s rows) ≡ Some p
    → process_of s p.id ≡ Some p
served_of s rows p is = item (run_state s rows).served is
  where
    item : (x : Option Item) → process_item s x ≡ Some p → process_of s p.id ≡ Some p
    item None f = cc
    item (Some (abort m)) f = cc
    item (Some (process z)) f = (λ i. process_of s (SoundArrays.id_is s z p f i)) ∙ f

moves : (phase : Phase) (next : Next) → gives_data phase next ≡ true → moves_data phase next ≡ true
moves phases.DataIn next e = refl
moves phases.MessageIn next e = e
moves phases.MessageOut next e = cc
moves phases.Command next e = cc
moves phases.Status next e = cc
moves phases.DataOut next e = cc

closed : (phase : Phase) (next : Next) (c : Cause) → gives_data phase next ≡ true → is_opening_in phase c ≡ false
closed phases.DataIn next c e = refl
closed phases.MessageIn next c e = refl
closed phases.MessageOut next c e = cc
closed phases.Command next c e = cc
closed phases.Status next c e = cc
closed phases.DataOut next c e = cc

known_in : (a : Array) (p : Process) (phase : Phase) (next : Next) (known : Bool)
    → is_placed a p phase next known ≡ true → moves_data phase next ≡ true → known ≡ true
known_in a p phase next known e m =
    let last = and_parts ((not (is_command_phase phase) || (not known && is_new a p)) && (not (moves_data phase next)
    || (known && is_unanswered (running_process a p.id) && is_none (reply_in a.replies p.id))))
    (not (gives_status phase next) || (is_answered (running_process a p.id) && is_some (reply_in a.replies p.id))) e in
    let two = and_parts (not (is_command_phase phase) || (not known && is_new a p)) (not (moves_data phase next)
    || (known && is_unanswered (running_process a p.id) && is_none (reply_in a.replies p.id))) last.0 in
    let three = and_parts (known && is_unanswered (running_process a p.id))
    (is_none (reply_in a.replies p.id)) (implied (moves_data phase next)
    (known && is_unanswered (running_process a p.id) && is_none (reply_in a.replies p.id)) two.1 m) in
    let both = and_parts known (is_unanswered (running_process a p.id)) three.0 in
    both.0

record IsInstructed (i : Instructions) (p : Process) : Type 0 where
  name : name_if i.opening ≡ Some (name_of p)
  block : i.known ≡ true → (length i.block ≤ 10) × (i.block ≡ p.cdb)

instructed_is : (k : RunState) (i : Instructions) (p : Process) → is_instructed k i p (phase_of (bus_of k)) ≡ true
    → IsInstructed i p
instructed_is k i p e =
    let last = and_parts (is_name i.opening p && is_carried k i p (phase_of (bus_of k))) (is_block i p) e in
    let two = and_parts (is_name i.opening p) (is_carried k i p (phase_of (bus_of k))) last.0 in
    record {
      name = name_is i.opening p two.0;
      block = λ f.
          let both = and_parts (has_group_len i.block) (same_bytes i.block p.cdb)
          (implied i.known (has_group_len i.block && same_bytes i.block p.cdb) last.1 f) in
          (group_short i.block both.0, bytes_are i.block p.cdb both.1);
    }

pub knows_in_data : (s : ScenarioValue) (rows : List Row) (n : Connection) (c : CourseState)
    → IsFront s (run_state s rows) n (instructions s rows)
    → IsCourse s rows n c → (run_state s rows).exchange.begun ≡ true
    → gives_data (phase_of (bus_of (run_state s rows))) (run_state s rows).exchange.plan.next ≡ true
    → (p : Process) × Knows s rows c p
knows_in_data s rows n c front course begins gives =
    go (process_served s k) refl (front.serves unopened) (front.heard unopened)
  where
    k : RunState
    k = run_state s rows

    i : Instructions
    i = instructions s rows

    phase : Phase
    phase = phase_of (bus_of k)

    unopened : is_opening k ≡ false
    unopened = (λ j. not (begins j) || closed phase k.exchange.plan.next k.exchange.plan.cause gives j)

    by : (p : Process) → process_served s k ≡ Some p → i.known ≡ true → (y : Bool) → n.reselected ≡ y
        → (y || is_instructed k i p phase) ≡ true → Knows s rows c p
    by p is known true r f =
        let t : IsOfProcess i p c = course.current r p is in
        record { is = is; id = id_is s rows n c p course is; named = t.named; block = t.block }
    by p is known false r f =
        let t : IsTold i c = course.told r in
        let h : IsInstructed i p = instructed_is k i p f in
        let b = h.block known in
        let few : length i.block ≤ 10 = b.0 in
        record {
          is = is;
          id = id_is s rows n c p course is;
          named = t.named ∙ h.name;
          block = t.block ∙ take_all MOST_KEPT i.block (omega (arith, few)) ∙ b.1;
        }

    go : (x : Option Process) → process_served s k ≡ x → is_some x ≡ true → is_heard_process s k n i x phase ≡ true
        → (p : Process) × Knows s rows c p
    go None is e f = absurd cc
    go (Some p) is e f =
        let both = and_parts (n.reselected || is_instructed k i p phase)
        (is_placed (array_of s k) p phase k.exchange.plan.next i.known) f in (
          p,
          by p is (known_in (array_of s k) p phase k.exchange.plan.next i.known both.1
              (moves phase k.exchange.plan.next gives)) n.reselected refl both.0,
        )
