-- The senses that are owed stand in holds, one for each initiator at each unit: as long as the automatic REQUEST SENSE
-- of a command that ended with CHECK CONDITION is not over, its initiator stands in the hold of the unit (7.6, 7.8).
use Rattle.std.specs.Prelude.{ℕ, ◌≡◌, ◌==◌, ◌&&◌, Bool, true, false, not, List, Some, ⊤}
use Rattle.std.specs.List.{list_any}
use Rattle.due_model.specs.bus_base.specs.declared.Event.{Event}
use Rattle.due_model.specs.bus_base.specs.declared.Event.TheVariants as events
use Rattle.due_model.specs.bus_base.specs.declared.ProcId.{ProcId}
use Rattle.due_model.specs.cdb_codec.specs.declared.status.TheConstants.{GOOD}
use Rattle.due_model.specs.scenario.specs.declared.value.CmdDef.{CmdDef}
use Rattle.due_model.specs.scenario.specs.Value.{ScenarioValue}
use Rattle.due_model.specs.array_model.specs.ArrayHistory.{reply_in}
use Rattle.due_model.specs.array_model.specs.Execution.{Reply}
use Rattle.due_model.specs.array_model.specs.Processes.{command_at}
use Rattle.due_model.specs.array_model.specs.Seats.{in_hold}
use Rattle.due_model.specs.array_model.specs.Units.{Nexus}
use Rattle.due_model.specs.story_model.specs.Items.{Sent, has_item, process, sense_item, sense_id}
use Rattle.due_model.specs.RunState.{RunState, array_of}

-- The command ended with CHECK CONDITION, and its automatic REQUEST SENSE is not over.
abbrev pub is_owed : Sent → ℕ → Bool
is_owed b m = list_any (λ k. k == m) b.checks && not (has_item b.over (sense_item m))

abbrev pub nexus_of_command : CmdDef → Nexus
nexus_of_command c = record { initiator = c.host; target = c.target; unit = c.unit }

-- The sense of this command is owed to this initiator at this unit.
pub record IsDebt (s : ScenarioValue) (b : Sent) (m : ℕ) (q : Nexus) : Type 0 where
  pub def : CmdDef
  pub def_is : command_at s.commands m ≡ Some def
  pub nexus_is : nexus_of_command def ≡ q
  pub owed : is_owed b m ≡ true

abbrev pub NoDebt : ScenarioValue → Sent → Nexus → Type 0
NoDebt s b q = (m : ℕ) → IsDebt s b m q → ⊥

-- Those to whom a sense is owed stand in the hold, and no two senses are owed to one at one unit; a REQUEST SENSE is
-- over of such commands alone.
pub record Debts (s : ScenarioValue) (b : Sent) (holds : List Nexus) : Type 0 where
  pub held : (i : ℕ) (q : Nexus) → IsDebt s b i q → in_hold holds q ≡ true
  pub alone : (i m : ℕ) (q : Nexus) → IsDebt s b i q → IsDebt s b m q → i ≡ m
  pub checked : (i : ℕ) → has_item b.over (sense_item i) ≡ true → list_any (λ k. k == i) b.checks ≡ true

-- An automatic REQUEST SENSE is answered GOOD.
abbrev pub AreFetched : List (ProcId × Reply) → Type 0
AreFetched replies = (m : ℕ) (r : Reply) → reply_in replies (sense_id m) ≡ Some r → r.status ≡ GOOD

-- An automatic REQUEST SENSE neither fails nor is lost, and ends with GOOD while it is owed. As a command ends no sense
-- is owed to its initiator at its unit.
abbrev pub PaysWell : ScenarioValue → Sent → Event → Type 0
PaysWell s b (events.End id status) = (id.sense ≡ true → ((status == GOOD) ≡ true) × (is_owed b id.command ≡ true))
    × (id.sense ≡ false → (has_item b.over (sense_item id.command) ≡ false)
    × ((c : CmdDef) → command_at s.commands id.command ≡ Some c → NoDebt s b (nexus_of_command c)))
PaysWell s b (events.Fail id code) = id.sense ≡ false
PaysWell s b (events.Lost id) = id.sense ≡ false
PaysWell s b _ = ⊤

-- And while a command is served that is not over, no sense is owed to its initiator at its unit.
pub record DebtBooks (s : ScenarioValue) (k : RunState) : Type 0 where
  pub debts : Debts s k.story.sent (array_of s k).holds
  pub fetched : AreFetched (array_of s k).replies
  pub served : (id : ProcId) (c : CmdDef) → k.served ≡ Some (process id) → id.sense ≡ false
      → has_item k.story.sent.over (process id) ≡ false → command_at s.commands id.command ≡ Some c
      → NoDebt s k.story.sent (nexus_of_command c)
