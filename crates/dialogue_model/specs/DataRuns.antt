-- The data runs of a process: in how many goes, and which bytes in each, its data are moved (6.6.6, 6.6.20).
use Rattle.std.specs.Prelude.{ℕ, ◌+◌, ◌-◌, ◌*◌, min, ◌&&◌, ◌==◌, List, slice_index_or, Option, Some, None, nat_lt}
use Rattle.std.specs.Prelude.{if◌then◌else◌}
use Rattle.scenario.specs.declared.value.Policy.{Policy}
use Rattle.scenario.specs.declared.value.Policy.TheVariants as policies
use Rattle.dialogue_model.specs.declared.exchange.Task.{Task}
use Rattle.story_model.specs.Budget.{runs_by}

-- Where the n-th run begins and ends: runs of so many bytes, the last possibly shorter; or a first run of so many, and
-- then all from the beginning.
pub record DataRun : Type 0 where
  pub start : ℕ
  pub end : ℕ

abbrev pub burst_run : ℕ → ℕ → ℕ → DataRun
burst_run step moved n = record { start = n * step; end = min (n * step + step) moved }

abbrev pub part_run : ℕ → ℕ → ℕ → DataRun
part_run step moved n = record { start = 0; end = if n == 0 && nat_lt step moved then step else moved }

abbrev pub whole_run : ℕ → DataRun
whole_run moved = record { start = 0; end = moved }

abbrev pub run_by : Policy → ℕ → ℕ → ℕ → DataRun
run_by policies.Never size moved n = whole_run moved
run_by policies.Command size moved n = whole_run moved
run_by (policies.Burst most) size moved n = burst_run (most * size) moved n
run_by (policies.NoSave most) size moved n = part_run (most * size) moved n

-- Only reads and writes of blocks are cut.
abbrev pub run_in : Policy → Option ℕ → ℕ → ℕ → ℕ → DataRun
run_in policy None size moved n = whole_run moved
run_in policy (Some blocks) size moved n = run_by policy size moved n

abbrev pub runs_in : Policy → Option ℕ → ℕ
runs_in policy None = 1
runs_in policy (Some blocks) = runs_by policy blocks

-- How many runs the process has, and the n-th of them.
abbrev pub runs_in_all : Policy → Task → ℕ
runs_in_all policy t = if t.moved == 0 then 0 else runs_in policy t.blocks

abbrev pub run_at : Policy → Task → ℕ → DataRun
run_at policy t n = run_in policy t.blocks t.size t.moved n

abbrev pub run_length : Policy → Task → ℕ
run_length policy t = (run_at policy t t.runs).end - (run_at policy t t.runs).start

-- The byte at this place of the run after so many.
abbrev pub run_byte : Policy → Task → List ℕ → ℕ → ℕ → ℕ
run_byte policy t given runs place = slice_index_or given ((run_at policy t runs).start + place) 0
