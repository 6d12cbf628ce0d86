-- The first of what several devices are due to do.
use Rattle.std.specs.Prelude.{ℕ, ◌≡◌, ◌<◌, ◌≤◌, Option, Some}
use Rattle.bus_rules.specs.bus_trace.specs.declared.Row.{Row}
use Rattle.dialogue_model.specs.reaction_model.specs.declared.due.Due.{Due}

-- The row is due, each other reaction of the devices below n comes no sooner, and where it comes at that time its
-- device has no higher ID.
pub record IsLeast (f : ℕ → Option Due) (n : ℕ) (row : Row) : Type 0 where
  pub inside : row.dev < n
  pub is_due : f row.dev ≡ (let x : Due = record { time = row.time; kind = row.kind } in Some x)
  pub first : (dev : ℕ) → dev < n → (x : Due) → f dev ≡ Some x → row.time ≤ x.time
  pub highest : (dev : ℕ) → dev < n → (x : Due) → f dev ≡ Some x → x.time ≡ row.time → dev ≤ row.dev
