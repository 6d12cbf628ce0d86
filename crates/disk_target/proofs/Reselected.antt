-- The process that a target names as it reselects: the current one of the unit that is ready first.
use Rattle.std.proofs.Common.{ℕ, ◌≡◌, ◌≤◌, ◌∙◌, List, length, take, Some, None}
use Rattle.std.proofs.lemmas.List.{take_all}
use Rattle.scenario.specs.declared.value.CmdDef.{CmdDef}
use Rattle.scenario.specs.Value.{ScenarioValue}
use Rattle.array_model.specs.declared.entries.Entry.{Entry}
use Rattle.array_model.specs.Order.{entry_of}
use Rattle.array_model.specs.Processes.{command_at}
use Rattle.array_model.specs.Seats
use Rattle.array_model.specs.SoundArray.{IsSound}
use Rattle.array_model.specs.Units.{Array, unit_state_at}
use Rattle.due_model.specs.dialogue_model.specs.Wants as wants
use Rattle.due_model.specs.Wants as due
use Rattle.target_course.specs.scsi_device.specs.Lines.{IsCommandLine}
use Rattle.target_course.specs.target_units.specs.Readies.{ready_unit}
use Rattle.target_course.specs.target_units.specs.Seated.{running_block, running_entry}
use Rattle.target_course.specs.target_units.specs.declared.ready.Ready.{Ready}
use Rattle.target_course.specs.Courses.{IsReadyProcess}
use Rattle.disk_target.proofs.RowBegins.{IsReadyAt, ready_current}
use Rattle.disk_target.proofs.RowServed.{block_few}

-- By what its units tell of it.
pub is_ready_process : (s : ScenarioValue) (a : Array) (times : List ℕ)
    (seek dev : ℕ) (q : wants.Ready) (r : Ready) (entry : Entry) (block : List ℕ)
    → IsSound s a → ((n : ℕ) (x : CmdDef) → command_at s.commands n ≡ Some x → IsCommandLine s x)
    → due.ready_among a times seek dev ≡ Some q → Some r ≡ ready_unit (due.ready_among a times seek dev)
    → Some entry ≡ running_entry (Seats.current_of (unit_state_at a.units dev r.unit))
    → block ≡ running_block (Seats.current_of (unit_state_at a.units dev r.unit))
    → IsReadyProcess s q entry.id (record { unit = r.unit; tag = entry.tag; class = entry.class }) (take 10 block)
is_ready_process s a times seek dev q r entry block sound lines e f g h =
    let it : IsReadyAt s a dev q.process = ready_current s a times seek dev q sound e in
    let both : Some r ≡ Some (record { time = q.time; initiator = q.process.initiator; unit = q.process.unit }) = f
    ∙ (λ i. ready_unit (e i)) in
    let unit : r.unit ≡ q.process.unit =
    let same : r ≡ record { time = q.time; initiator = q.process.initiator; unit = q.process.unit } = cc in
    λ i. (same i).unit in
    let current : Seats.current_of (unit_state_at a.units dev r.unit) ≡ Some it.r =
    (λ i. Seats.current_of (unit_state_at a.units dev (unit i))) ∙ it.current in
    let entries : Some entry ≡ Some (entry_of q.process) = g
    ∙ (λ i. running_entry (current i)) ∙ (λ i. Some (entry_of (it.is i))) in
    let same : entry ≡ entry_of q.process = cc in
    let few : length q.process.cdb ≤ 10 = block_few s q.process.id q.process lines it.own.is in
    record {
      is = it.own.is;
      id_is = λ i. (same i).id;
      name_is = λ i. record { unit = unit i; tag = (same i).tag; class = (same i).class };
      cdb_is = (λ i. take 10 ((h ∙ (λ j. running_block (current j)) ∙ (λ j. (it.is j).cdb)) i))
          ∙ take_all 10 q.process.cdb few;
    }

no_current : (s : ScenarioValue) (a : Array) (times : List ℕ) (seek dev : ℕ) (q : wants.Ready) (r : Ready) {A : Type 0}
    → IsSound s a → due.ready_among a times seek dev ≡ Some q → Some r ≡ ready_unit (due.ready_among a times seek dev)
    → None ≡ running_entry (Seats.current_of (unit_state_at a.units dev r.unit)) → A
no_current s a times seek dev q r sound e f g =
    let it : IsReadyAt s a dev q.process = ready_current s a times seek dev q sound e in
    let both : Some r ≡ Some (record { time = q.time; initiator = q.process.initiator; unit = q.process.unit }) = f
    ∙ (λ i. ready_unit (e i)) in
    let unit : r.unit ≡ q.process.unit =
    let same : r ≡ record { time = q.time; initiator = q.process.initiator; unit = q.process.unit } = cc in
    λ i. (same i).unit in
    let current : Seats.current_of (unit_state_at a.units dev r.unit) ≡ Some it.r =
    (λ i. Seats.current_of (unit_state_at a.units dev (unit i))) ∙ it.current in
    let bad : None ≡ Some (entry_of it.r.process) = g ∙ (λ i. running_entry (current i)) in
    absurd cc

pub never_none : (s : ScenarioValue) (a : Array) (times : List ℕ) (seek dev : ℕ) (q : wants.Ready) (r : Ready)
    → IsSound s a → due.ready_among a times seek dev ≡ Some q → Some r ≡ ready_unit (due.ready_among a times seek dev)
    → None ≡ running_entry (Seats.current_of (unit_state_at a.units dev r.unit)) → ⊥
never_none s a times seek dev q r sound e f g = no_current s a times seek dev q r sound e f g
