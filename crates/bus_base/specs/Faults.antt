-- How often a source or a sink has failed.
use Rattle.std.specs.Prelude.{ℕ, ◌+◌, ◌-◌, ◌^◌, ◌≤◌, min, Result, Ok, Err}

-- a count with one more; it stays at the last u64, 2 ^ 64 - 1
abbrev pub counted_on : ℕ → ℕ
counted_on count = min (count + 1) (2 ^ 64 - 1)

-- from `before` to `now` a count rose, or it stands at the last u64
abbrev pub HasRisen : ℕ → ℕ → Type 0
HasRisen before now = min (before + 1) (2 ^ 64 - 1) ≤ now

-- a count of faults after a call: one more where the call failed
abbrev pub counted_after : {T E : Type 0} → Result T E → ℕ → ℕ
counted_after (Ok _) count = count
counted_after (Err _) count = counted_on count
