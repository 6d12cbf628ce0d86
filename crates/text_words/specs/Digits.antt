-- Digits that are read one by one.
use Rattle.std.specs.Prelude.{◌≡◌, ℕ, ◌+◌, ◌^◌, ◌<◌, ◌≤◌, List, length, take, drop}
use Rattle.std.specs.List.{prefix_len}
use Rattle.std.specs.Char.{is_ascii_digit}
use Rattle.text_words.specs.Words.{value_after}

-- The digits at the front.
abbrev pub front : List ℕ → List ℕ
front bytes = take (prefix_len is_ascii_digit bytes) bytes

-- The first `at` bytes are digits and have the value n, which those after them complete.
pub record IsDecimalSoFar (bytes : List ℕ) (n at : ℕ) : Type 0 where
  pub within : at ≤ length bytes
  pub fits : n < 2 ^ 64
  pub len : at + prefix_len is_ascii_digit (drop at bytes) ≡ prefix_len is_ascii_digit bytes
  pub value : value_after n (front (drop at bytes)) ≡ value_after 0 (front bytes)
