-- Whose fault it is that a trace is broken.
use Rattle.std.specs.Prelude.{ℕ, ◌≡◌, Bool, true, false, ◌==◌, List, [], ◌∷◌, is_none, if◌then◌else◌}
use Rattle.bus_trace.specs.declared.rows.Row.{Row}
use Rattle.bus_rules.specs.Rules.{broken_rule, broken_at_end}
use Rattle.mixed_model.specs.Playing.{Doing, is_played}

-- Nobody's, while no row breaks a rule; that of the device of the row; or that of a device which did nothing: a latest
-- time had passed, and the row only shows it.
pub data Blame : Type 0 where
  Nobody : Blame
  Device : ℕ → Blame
  Silence : Blame

-- A latest time has passed where an end at the time of the row would break a rule too.
abbrev pub blame_of : List Row → Row → Blame
blame_of rows row =
    if is_none (broken_rule rows row) then Nobody
    else if is_none (broken_at_end rows row.time) then Device row.dev
    else Silence

abbrev pub or_later : Blame → Blame → Blame
or_later Nobody later = later
or_later (Device dev) later = Device dev
or_later Silence later = Silence

-- Of the first row that breaks a rule.
abbrev pub blame : List Row → Blame
blame [] = Nobody
blame (row ∷ rows) = or_later (blame rows) (blame_of rows row)

abbrev pub is_blamed : ℕ → Blame → Bool
is_blamed dev (Device other) = dev == other
is_blamed dev Nobody = false
is_blamed dev Silence = false

-- Whatever rows the others make, lawful or not, this device breaks no rule.
abbrev pub IsHarmless : Doing → ℕ → Type 0
IsHarmless doing dev = (rows : List Row) → is_played doing dev rows ≡ true → is_blamed dev (blame rows) ≡ false
