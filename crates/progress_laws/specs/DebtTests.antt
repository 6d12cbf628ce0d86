-- The senses that are owed, as tests that are computed on runs.
use Rattle.std.specs.Prelude.{ℕ, ◌+◌, ◌==◌, ◌&&◌, ◌||◌, Bool, true, not, List, [], ◌∷◌, Option, Some, None, nat_le}
use Rattle.std.specs.Prelude.{if◌then◌else◌}
use Rattle.std.specs.List.{list_any}
use Rattle.due_model.specs.bus_trace.specs.declared.Row.{Row}
use Rattle.due_model.specs.cdb_codec.specs.declared.status.TheConstants.{GOOD}
use Rattle.due_model.specs.scenario.specs.declared.value.CmdDef.{CmdDef}
use Rattle.due_model.specs.scenario.specs.Value.{ScenarioValue}
use Rattle.due_model.specs.array_model.specs.ArrayHistory.{reply_in}
use Rattle.due_model.specs.array_model.specs.Execution.{Reply}
use Rattle.due_model.specs.array_model.specs.Processes.{command_at}
use Rattle.due_model.specs.array_model.specs.Seats.{in_hold}
use Rattle.due_model.specs.array_model.specs.Units.{Array, Nexus, same_nexus}
use Rattle.due_model.specs.story_model.specs.Items.{Item, Sent, abort, has_item, process, sense_item, sense_id}
use Rattle.due_model.specs.RunState.{RunState, array_of}
use Rattle.due_model.specs.RunSteps.{run_state_after}
use Rattle.progress_laws.specs.Debts.{is_owed, nexus_of_command}

-- ---- of all commands, counted from n

-- How many senses are owed to this initiator at this unit.
abbrev pub count_debts : Sent → Nexus → ℕ → List CmdDef → ℕ
count_debts b q n [] = 0
count_debts b q n (c ∷ commands) =
    (if is_owed b n && same_nexus (nexus_of_command c) q then 1 else 0) + count_debts b q (n + 1) commands

abbrev pub is_fetched : Option Reply → Bool
is_fetched None = true
is_fetched (Some r) = r.status == GOOD

abbrev pub are_debts : List CmdDef → Sent → Array → ℕ → List CmdDef → Bool
are_debts all b a n [] = true
are_debts all b a n (c ∷ commands) =
    (not (is_owed b n) || in_hold a.holds (nexus_of_command c))
    && nat_le (count_debts b (nexus_of_command c) 1 all) 1
    && (not (has_item b.over (sense_item n)) || list_any (λ k. k == n) b.checks)
    && is_fetched (reply_in a.replies (sense_id n))
    && are_debts all b a (n + 1) commands

-- ---- of the command that is served

abbrev pub has_no_debt : List CmdDef → Sent → Option CmdDef → Bool
has_no_debt all b None = true
has_no_debt all b (Some c) = count_debts b (nexus_of_command c) 1 all == 0

abbrev pub is_served_clear : List CmdDef → Sent → Option Item → Bool
is_served_clear all b None = true
is_served_clear all b (Some (abort k)) = true
is_served_clear all b (Some (process id)) =
    id.sense || has_item b.over (process id) || has_no_debt all b (command_at all id.command)

-- ---- of a run: the rows are given the oldest first

abbrev pub has_debt_books : ScenarioValue → RunState → Bool
has_debt_books s k =
    are_debts s.commands k.story.sent (array_of s k) 1 s.commands && is_served_clear s.commands k.story.sent k.served

abbrev pub keep_debts : ScenarioValue → RunState → List Row → Bool
keep_debts s k [] = has_debt_books s k
keep_debts s k (row ∷ rows) = has_debt_books s k && keep_debts s (run_state_after s k row) rows
