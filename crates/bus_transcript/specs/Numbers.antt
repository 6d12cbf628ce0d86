-- Counts that stay at the last u32, 2 ^ 32 - 1.
use Rattle.std.specs.Prelude.{ℕ, ◌+◌, ◌-◌, ◌^◌, min}

-- One more.
abbrev pub next_number : ℕ → ℕ
next_number n = min (n + 1) (2 ^ 32 - 1)

-- A pointer after so many bytes.
abbrev pub advanced : ℕ → ℕ → ℕ
advanced at count = min (at + count) (2 ^ 32 - 1)
