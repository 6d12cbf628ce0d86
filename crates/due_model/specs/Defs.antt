-- The lines of a scenario for one device, and what an initiator says first of an item.
use Rattle.std.specs.Prelude.{ℕ, Bool, ◌==◌, List, [], Option, Some, None}
use Rattle.std.specs.List.{find}
use Rattle.dialogue_model.specs.scenario.specs.declared.value.HostDef.{HostDef}
use Rattle.dialogue_model.specs.scenario.specs.declared.value.TargetDef.{TargetDef}
use Rattle.dialogue_model.specs.scenario.specs.Value.{ScenarioValue}
use Rattle.dialogue_model.specs.array_model.specs.Processes.{process_of}
use Rattle.dialogue_model.specs.story_model.specs.Items.{Item, process, abort}
use Rattle.dialogue_model.specs.story_model.specs.HistoryEvents.{abort_line_at}
use Rattle.dialogue_model.specs.Words.{process_opening, abort_opening}

abbrev pub host_of : ScenarioValue → ℕ → Option HostDef
host_of s dev = find (λ (h : HostDef). h.dev == dev) s.hosts

abbrev pub target_def_of : ScenarioValue → ℕ → Option TargetDef
target_def_of s dev = find (λ (t : TargetDef). t.dev == dev) s.targets

abbrev pub opening : ScenarioValue → ℕ → Bool → Option Item → List ℕ
opening s dev negotiates None = []
opening s dev negotiates (Some (process id)) = process_opening (host_of s dev) negotiates (process_of s id)
opening s dev negotiates (Some (abort n)) = abort_opening (abort_line_at s.aborts n)
