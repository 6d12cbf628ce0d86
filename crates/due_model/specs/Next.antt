-- The next row of a trace: the least that is due, of the highest ID where several are due at one time.
use Rattle.std.specs.Prelude.{ℕ, zero, suc, ◌≡◌, nat_lt, List, [], ◌∷◌, if◌then◌else◌, Option, Some, None, ⊤}
use Rattle.bus_rules.specs.bus_trace.specs.declared.Row.{Row}
use Rattle.dialogue_model.specs.scenario.specs.Value.{ScenarioValue}
use Rattle.due_model.specs.RunState.{RunState}
use Rattle.dialogue_model.specs.reaction_model.specs.declared.due.Due.{Due}
use Rattle.due_model.specs.Due.{due_by}
use Rattle.due_model.specs.RunSteps.{run_state}

-- What this device is due to do after these rows, the newest first.
abbrev pub due : ScenarioValue → List Row → ℕ → Option Due
due s rows dev = due_by s (run_state s rows) dev

abbrev pub row_of : ℕ → Due → Row
row_of dev x = record { time = x.time; dev = dev; kind = x.kind }

-- The reaction of a device, or the row of one of a lower ID that comes sooner.
abbrev pub first_row : Option Due → ℕ → Option Row → Option Row
first_row None dev other = other
first_row (Some x) dev None = Some (row_of dev x)
first_row (Some x) dev (Some row) = if nat_lt row.time x.time then Some row else Some (row_of dev x)

-- The least that the devices below n are due to do.
unfoldable pub least : (ℕ → Option Due) → ℕ → Option Row
least f zero = None
least f (suc n) = first_row (f n) n (least f n)

abbrev pub next_by : ScenarioValue → RunState → Option Row
next_by s k = least (due_by s k) 8

abbrev pub next : ScenarioValue → List Row → Option Row
next s rows = least (due s rows) 8

-- Every row was the next one.
abbrev pub IsPrompt : ScenarioValue → List Row → Type 0
IsPrompt s [] = ⊤
IsPrompt s (row ∷ rows) = IsPrompt s rows × (next s rows ≡ Some row)

-- Nothing is due any more.
abbrev pub IsEnded : ScenarioValue → List Row → Type 0
IsEnded s rows = next s rows ≡ None
