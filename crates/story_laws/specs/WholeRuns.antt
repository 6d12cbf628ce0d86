-- A process that runs as its last data run is done has sent all that it sends (6.1.5.1, 6.6.6).
use Rattle.std.specs.Prelude.{ℕ, ◌+◌, ◌*◌, ◌≡◌, ◌≤◌, true, List, length, Some, None, ⊤, if◌then◌else◌}
use Rattle.due_model.specs.scenario.specs.Value.{ScenarioValue}
use Rattle.due_model.specs.scenario.specs.declared.value.Policy.{Policy}
use Rattle.due_model.specs.array_model.specs.Processes.{Process}
use Rattle.due_model.specs.dialogue_model.specs.NextPhase.{phase_of}
use Rattle.due_model.specs.dialogue_model.specs.declared.exchange.Task.{Task}
use Rattle.due_model.specs.LastingState.{progress_in}
use Rattle.due_model.specs.RunState.{RunState, bus_of}
use Rattle.due_model.specs.Tasks.{is_writing}
use Rattle.row_laws.specs.scsi_device.specs.Writes.{Writer, writer_of, is_data_out, start_of_run}
use Rattle.due_model.specs.scenario.specs.declared.value.Policy.TheVariants as policies

-- So many bytes have come with the runs that it has made, and with the present one in DATA OUT.
abbrev pub bytes_come : ScenarioValue → RunState → Process → ℕ
bytes_come s k c = start_of_run s c (progress_in k.progress c.id).runs
    + (if is_data_out (phase_of (bus_of k)) then k.handshakes.answers else 0)

pub record HasSentAll (s : ScenarioValue) (k : RunState) (all : List Writer) (c : Process) : Type 0 where
  pub writes : is_writing c ≡ true
  pub writer : writer_of all c.target c.unit ≡ Some c.id
  pub came : length c.sent ≤ bytes_come s k c

-- ---- what is asked

-- A run of so many blocks has one at least.
abbrev pub RunsBlocks : Policy → Type 0
RunsBlocks (policies.Burst most) = 1 ≤ most
RunsBlocks _ = ⊤

-- It moves all the bytes of its blocks.
pub record MovesBlocks (policy : Policy) (t : Task) : Type 0 where
  pub blocks : ℕ
  pub blocks_are : t.blocks ≡ Some blocks
  pub moved : t.moved ≡ blocks * t.size
  pub runs : RunsBlocks policy

-- All that it moves in one run, or blocks in runs.
pub data MovesInRuns (policy : Policy) (t : Task) : Type 0 where
  in_one : t.blocks ≡ None → MovesInRuns policy t
  in_blocks : MovesBlocks policy t → MovesInRuns policy t
