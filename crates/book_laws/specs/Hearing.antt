-- What devices are due to do as they leave a phase, and what is still to be proved of the data runs: with these, a row
-- of a connection tells what was to be said.
use Rattle.std.specs.Prelude.{◌+◌, ◌≡◌, Bool, true, false, ◌&&◌, is_some, length, Some, ◌==◌}
use Rattle.due_model.specs.bus_trace.specs.declared.connection.Connection.{Connection}
use Rattle.due_model.specs.cdb_codec.specs.Cdb.{has_group_len}
use Rattle.due_model.specs.scenario.specs.Value.{ScenarioValue}
use Rattle.due_model.specs.array_model.specs.Processes.{Process}
use Rattle.due_model.specs.dialogue_model.specs.declared.exchange.Phase.{Phase}
use Rattle.due_model.specs.dialogue_model.specs.declared.exchange.Phase.TheVariants as phases
use Rattle.due_model.specs.dialogue_model.specs.declared.exchange.Task.{Task}
use Rattle.due_model.specs.dialogue_model.specs.Arrivals.{policy_of}
use Rattle.due_model.specs.dialogue_model.specs.DataRuns.{run_at}
use Rattle.due_model.specs.dialogue_model.specs.Exchange.{bytes_of_messages}
use Rattle.due_model.specs.dialogue_model.specs.NextPhase.{phase_of}
use Rattle.due_model.specs.Defs.{target_def_of}
use Rattle.due_model.specs.RunState.{RunState, bus_of, item_of, process_served, carried_here}
use Rattle.due_model.specs.Tasks.{is_writing, task_of}

abbrev pub is_in_phase : Phase → Bool
is_in_phase phases.MessageIn = true
is_in_phase _ = false

abbrev pub is_out_phase : Phase → Bool
is_out_phase phases.MessageOut = true
is_out_phase _ = false

-- Messages are of the phases with C/D, which have begun; the reserved phases are not used (6.1.5).
abbrev pub HasPhase : RunState → Type 0
HasPhase k = (bus_of k).msg ≡ true → ((bus_of k).cd ≡ true) × (k.exchange.begun ≡ true)

-- The present phase may be left: MESSAGE OUT after a byte with ATN false, MESSAGE IN after all bytes, or one where ATN
-- is true, COMMAND struck or once the block has the length of its group, and after a reselection any other phase once a
-- name was heard, but MESSAGE IN with ATN true (6.1.6, 6.2.1).
pub record LeavesWhole (s : ScenarioValue) (k : RunState) (n : Connection) : Type 0 where
  pub out : phase_of (bus_of k) ≡ phases.MessageOut → k.story.bus_state.dialogue.is_last ≡ true
  pub some : phase_of (bus_of k) ≡ phases.MessageIn → (k.handshakes.requests == 0) ≡ false
  pub given : phase_of (bus_of k) ≡ phases.MessageIn → (bus_of k).atn ≡ false
      → k.handshakes.requests ≡ length (bytes_of_messages k.exchange.plan.messages)
  pub command : (c : Process) → process_served s k ≡ Some c → phase_of (bus_of k) ≡ phases.Command
      → (has_group_len c.cdb ≡ true)
      × (k.exchange.plan.struck ≡ false → has_group_len (carried_here k c.id).block ≡ true)
  pub named : n.reselected ≡ true → is_out_phase (phase_of (bus_of k)) ≡ false
      → (is_in_phase (phase_of (bus_of k)) && (bus_of k).atn) ≡ false → is_some (item_of k.story.link) ≡ true

-- In DATA OUT the process writes, its initiator knows it, and its pointer stands as many bytes after the beginning of
-- its run as were answered.
pub record IsAtRun (s : ScenarioValue) (k : RunState) (n : Connection) (c : Process) (t : Task) : Type 0 where
  pub named : n.reselected ≡ true → is_some (item_of k.story.link) ≡ true
  pub writes : is_writing c ≡ true
  pub active_is : (carried_here k c.id).moved.active
      ≡ (run_at (policy_of (target_def_of s c.target)) t t.runs).start + k.handshakes.answers

abbrev pub MovesRuns : ScenarioValue → RunState → Connection → Type 0
MovesRuns s k n = (c : Process) (t : Task) → process_served s k ≡ Some c → task_of s k ≡ Some t
    → phase_of (bus_of k) ≡ phases.DataOut → IsAtRun s k n c t
