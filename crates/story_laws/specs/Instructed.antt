-- What the target of a connection has been told in it, by the phase: the opening names what it serves; the bytes of
-- COMMAND are those that the process carried; and it knows the command where data move, and not before (6.1.6, 6.6).
use Rattle.std.specs.Prelude.{◌≡◌, Bool, true, false, List, Some, ⊤}
use Rattle.due_model.specs.bus_trace.specs.declared.Row.{Row}
use Rattle.due_model.specs.bus_trace.specs.declared.connection.Connection.{Connection}
use Rattle.due_model.specs.bus_trace.specs.Terms.{connection}
use Rattle.due_model.specs.bus_trace.specs.Trace.{bus}
use Rattle.due_model.specs.cdb_codec.specs.Cdb.{has_group_len}
use Rattle.due_model.specs.scenario.specs.Value.{ScenarioValue}
use Rattle.due_model.specs.dialogue_model.specs.declared.exchange.Cause.{Cause}
use Rattle.due_model.specs.dialogue_model.specs.declared.exchange.Next.{Next}
use Rattle.due_model.specs.dialogue_model.specs.declared.exchange.Phase.{Phase}
use Rattle.due_model.specs.dialogue_model.specs.declared.exchange.Plan.{Plan}
use Rattle.due_model.specs.dialogue_model.specs.NextPhase.{phase_of}
use Rattle.due_model.specs.RunState.{RunState, bus_of, carried_here}
use Rattle.due_model.specs.RunSteps.{run_state}
use Rattle.row_laws.specs.scsi_device.specs.Heard.{Instructions, instructions, is_name, is_opening}
use Rattle.story_laws.specs.Commands.{Serves}
use Rattle.due_model.specs.dialogue_model.specs.declared.exchange.Cause.TheVariants as causes
use Rattle.due_model.specs.dialogue_model.specs.declared.exchange.Next.TheVariants as nexts
use Rattle.due_model.specs.dialogue_model.specs.declared.exchange.Phase.TheVariants as phases

-- ---- whether it knows the command, by what follows

abbrev pub KnownNext : Bool → Next → Type 0
KnownNext known nexts.Command = known ≡ false
KnownNext known nexts.GoOn = known ≡ true
KnownNext known nexts.Status = ⊤
KnownNext known nexts.FreeBus = ⊤

abbrev pub KnownFor : Bool → Next → Cause → Type 0
KnownFor known next causes.Selected = known ≡ false
KnownFor known next causes.InMessage = KnownNext known next
KnownFor known next causes.InData = known ≡ true
KnownFor known next causes.InStatus = ⊤

abbrev pub KnownIn : Bool → Plan → Phase → Type 0
KnownIn known plan phases.MessageIn = KnownNext known plan.next
KnownIn known plan phases.MessageOut = KnownFor known plan.next plan.cause
KnownIn known plan phases.Command = known ≡ false
KnownIn known plan phases.DataIn = known ≡ true
KnownIn known plan phases.DataOut = known ≡ true
KnownIn known plan phases.Status = ⊤

-- ---- in a connection

-- After a selection.
pub record Selected (s : ScenarioValue) (k : RunState) (i : Instructions) : Type 0 where
  pub unbegun : k.exchange.begun ≡ false → i.known ≡ false
  pub stage : k.exchange.begun ≡ true → KnownIn i.known k.exchange.plan (phase_of (bus_of k))
  pub named : is_opening k ≡ false → (v : Serves s k) → is_name i.opening v.process ≡ true
  pub carried : k.exchange.begun ≡ true → phase_of (bus_of k) ≡ phases.Command
      → (v : Serves s k) → i.block ≡ (carried_here k v.id).block
  pub block : i.known ≡ true → (v : Serves s k) → (has_group_len i.block ≡ true) × (i.block ≡ v.process.cdb)

pub record Instructed (s : ScenarioValue) (k : RunState) (i : Instructions) (n : Connection) : Type 0 where
  pub served : is_opening k ≡ false → Serves s k
  pub selected : n.reselected ≡ false → Selected s k i
  pub again : n.reselected ≡ true → (i.known ≡ true) × Serves s k

abbrev pub InstructedFacts : ScenarioValue → List Row → Type 0
InstructedFacts s rows = (n : Connection) → connection rows ≡ Some n → (bus rows).rst ≡ false
    → Instructed s (run_state s rows) (instructions s rows) n
