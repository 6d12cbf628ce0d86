-- What is to hold of a prompt trace that each command has its outcome at its end: an open command without a connection
-- stands in a queue, and to those that stand in a hold a sense is owed (7.6, 7.8).
use Rattle.std.specs.Prelude.{ℕ, ◌≡◌, ◌==◌, true, false, List, [], ◌∷◌, Some, ⊤}
use Rattle.std.specs.List.{list_any}
use Rattle.due_model.specs.scenario.specs.declared.value.CmdDef.{CmdDef}
use Rattle.due_model.specs.scenario.specs.Value.{ScenarioValue}
use Rattle.due_model.specs.array_model.specs.Processes.{command_at}
use Rattle.due_model.specs.array_model.specs.Units.{Nexus}
use Rattle.due_model.specs.story_model.specs.Items.{Sent, has_item, is_open, sense_item, command_id}
use Rattle.due_model.specs.RunState.{RunState, array_of}
use Rattle.trace_laws.specs.book_laws.specs.Accounts.{is_served_by}
use Rattle.trace_laws.specs.row_laws.specs.Places.{is_queued}

-- Each command that was sent, is not over and has no connection stands in a queue.
abbrev pub AreQueued : ScenarioValue → RunState → Type 0
AreQueued s k = (m : ℕ) (c : CmdDef) → command_at s.commands m ≡ Some c → is_open k.story.sent m ≡ true
    → is_served_by k.served (command_id m) ≡ false → is_queued (array_of s k).units (command_id m) ≡ true

-- To an initiator that stands in the hold of a unit the sense of a command of this unit is owed, of which its automatic
-- REQUEST SENSE is not over (7.6).
pub record IsOwed (s : ScenarioValue) (b : Sent) (q : Nexus) : Type 0 where
  pub number : ℕ
  pub def : CmdDef
  pub def_is : command_at s.commands number ≡ Some def
  pub host_is : def.host ≡ q.initiator
  pub target_is : def.target ≡ q.target
  pub unit_is : def.unit ≡ q.unit
  pub checked : list_any (λ k. k == number) b.checks ≡ true
  pub opens : has_item b.over (sense_item number) ≡ false

abbrev pub AreOwed : ScenarioValue → Sent → List Nexus → Type 0
AreOwed s b [] = ⊤
AreOwed s b (q ∷ holds) = IsOwed s b q × AreOwed s b holds
