-- The blocks of the fills in a set, by their numbers, and how many objects are loaded on each tape.
use Rattle.std.specs.Prelude.{◌≡◌, ◌≤◌, ◌<◌, ℕ, ◌+◌, ◌*◌, ◌^◌, ◌==◌, false, List, slice_index}
use Rattle.std.specs.List.{list_any}
use Rattle.std.specs.BTreeSet.{BTreeSet}
use Rattle.scenario.specs.declared.value.FillDef.{FillDef}
use Rattle.scenario.specs.declared.value.LoadDef.{LoadDef}
use Rattle.scenario.specs.Lookups.{has_fill, loads_at}

-- A block among those of all units: 2^32 for each unit, in their order.
abbrev pub block_number : ℕ → ℕ → ℕ → ℕ
block_number target unit lba = (target * 8 + unit) * 2 ^ 32 + lba

-- The set has the numbers of exactly the blocks of these fills, which are all below 2^32.
pub record IsIndexOf (blocks : BTreeSet ℕ) (fills : List FillDef) : Type 0 where
  pub same : (t u l : ℕ) → t < 8 → u < 8 → l < 2 ^ 32
      → list_any (λ k. k == block_number t u l) blocks.keys ≡ has_fill fills t u l
  pub small : (t u l : ℕ) → 2 ^ 32 ≤ l → has_fill fills t u l ≡ false

-- The counts tell how many of these loads each tape has: that of a unit stands at 8 times its target and its number.
abbrev pub IsCountOf : List ℕ → List LoadDef → Type 0
IsCountOf counts loads = (t u : ℕ) → t < 8 → u < 8 → slice_index counts (t * 8 + u) ≡ loads_at loads t u
