-- What a verdict means: a lawful trace, and the first row that breaks a rule with the lowest that it breaks.
use Rattle.std.specs.Prelude.{ℕ, ◌≡◌, ◌+◌, ◌<◌, ◌⊎◌, ◌==◌, Bool, true, false, List, [], ◌∷◌, ◌++◌, length, ⊤}
use Rattle.std.specs.List.{AllByRecursion, list_any}
use Rattle.bus_trace.specs.declared.Row.{Row}
use Rattle.bus_rules.specs.Rules.{obeys, obeys_at_end, judged_rules}

-- Every rule that is judged is kept.
abbrev pub KeepsAll : (ℕ → Bool) → Type 0
KeepsAll kept = AllByRecursion (λ n. kept n ≡ true) judged_rules

-- Every row obeys every rule after the rows before it. The newest row stands first.
abbrev pub AreLawful : List Row → Type 0
AreLawful [] = ⊤
AreLawful (row ∷ rows) = AreLawful rows × KeepsAll (obeys rows row)

-- And so does the end.
abbrev pub IsLawful : List Row → ℕ → Type 0
IsLawful rows end = AreLawful rows × KeepsAll (obeys_at_end rows end)

-- This rule is judged and is not kept, and every lower one is.
abbrev pub IsLowest : (ℕ → Bool) → ℕ → Type 0
IsLowest kept rule = (list_any (λ n. n == rule) judged_rules ≡ true) × (kept rule ≡ false)
    × AllByRecursion (λ n. n < rule → kept n ≡ true) judged_rules

-- A row at this place, counted from 1, is the first that breaks a rule, and this is the lowest that it breaks.
abbrev pub IsFirstRow : List Row → ℕ → ℕ → Type 0
IsFirstRow rows place rule = (later : List Row) × (row : Row) × (before : List Row) × (rows ≡ later ++ row ∷ before)
    × (place ≡ length before + 1) × AreLawful before × IsLowest (obeys before row) rule

-- Or every row obeys every rule, and the end, which counts as one row more, does not.
abbrev pub IsEnd : List Row → ℕ → ℕ → ℕ → Type 0
IsEnd rows end place rule = (place ≡ length rows + 1) × AreLawful rows × IsLowest (obeys_at_end rows end) rule

abbrev pub IsFirst : List Row → ℕ → ℕ → ℕ → Type 0
IsFirst rows end place rule = IsFirstRow rows place rule ⊎ IsEnd rows end place rule
