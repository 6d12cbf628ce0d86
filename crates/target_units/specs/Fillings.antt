-- What a unit holds at the start.
use Rattle.std.specs.Prelude.{◌≡◌, ℕ, suc, ◌+◌, ◌<◌, ◌≤◌, ◌==◌, ◌&&◌, Bool, true, List, [], ◌∷◌, length, Option, Some}
use Rattle.std.specs.Prelude.{None, if◌then◌else◌}
use Rattle.bus_base.specs.declared.events.Pick.{Pick}
use Rattle.scenario.specs.declared.value.CmdDef.{CmdDef}
use Rattle.scenario.specs.declared.value.FillDef.{FillDef}
use Rattle.scenario.specs.declared.value.UnitDef.{UnitDef}
use Rattle.scenario.specs.Value.{ScenarioValue}
use Rattle.array_model.specs.Contents.{Contents}
use Rattle.disk_unit.specs.Books.{empty_books}
use Rattle.disk_unit.specs.Held.{UnitKind, cost_by, kind_by}
use Rattle.target_units.specs.Seated.{SeatedState}

abbrev pub is_filled_by : UnitDef → FillDef → Bool
is_filled_by u f = f.target == u.target && f.unit == u.unit

-- A fill of this unit names one of its blocks, and has as many bytes as that.
abbrev pub AreFilled : UnitDef → List FillDef → Type 0
AreFilled u [] = Unit {0}
AreFilled u (f ∷ fills) = (is_filled_by u f ≡ true → (f.lba < u.blocks) × (length f.bytes ≡ u.size)) × AreFilled u fills

-- How many of these fills are of the unit.
abbrev pub fill_count : UnitDef → List FillDef → ℕ
fill_count u [] = 0
fill_count u (f ∷ fills) = if is_filled_by u f then suc (fill_count u fills) else fill_count u fills

-- How many blocks a command writes at most at the unit, which is of this kind.
abbrev pub blocks_by : UnitKind → UnitDef → CmdDef → ℕ
blocks_by kind u c = if c.target == u.target && c.unit == u.unit then cost_by kind c.cdb else 0

abbrev pub blocks_by_all : UnitKind → UnitDef → List CmdDef → ℕ
blocks_by_all kind u [] = 0
blocks_by_all kind u (c ∷ commands) = blocks_by kind u c + blocks_by_all kind u commands

-- The same of the commands of a scenario, at a unit of the kind that its line says, where it need not be there.
abbrev pub blocks_at : ScenarioValue → Option UnitDef → ℕ
blocks_at s None = 0
blocks_at s (Some u) = blocks_by_all (kind_by s u) u s.commands

-- A unit before any event, with these contents, and with memory for so many blocks more that are written for the first
-- time.
pub record IsFresh (u : UnitDef) (pick : Pick) (c : Contents) (written : ℕ) (v : SeatedState) : Type 0 where
  pub books : v.books ≡ empty_books u.depth v.books.queue.keys v.books.blocks
  pub contents : v.contents ≡ c
  pub spare : written ≤ v.spare
  pub pick_is : v.pick ≡ pick
  pub reply : v.reply ≡ None
  pub since : v.since ≡ 0
