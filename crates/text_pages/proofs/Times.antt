-- The upper digits of a time and its last four.
use Rattle.std.proofs.Common.{◌≡◌, ℕ, ◌/◌, ◌%◌, ◌^◌, ◌<◌, ◌≤◌, List, ◌++◌, sym, ap, ◌∙◌, append_assoc, decimal}
use Rattle.itoa.proofs.Decimal.{pair, decimal_four}

-- the last four digits of a time, and others
abbrev pub last_four : ℕ → List ℕ → List ℕ
last_four low rest = pair (low / 100) ++ (pair (low % 100) ++ rest)

-- they follow its upper ones
pub whole_time : (time low : ℕ) (rest : List ℕ) → low ≡ time % 10000 → 10000 ≤ time → time < 2 ^ 64
    → decimal (time / 10000) ++ last_four low rest ≡ decimal time ++ rest
whole_time time low rest is late fits =
    ap (λ (n : ℕ). decimal (time / 10000) ++ last_four n rest) is
    ∙ sym (append_assoc (decimal (time / 10000)) (pair (time % 10000 / 100) ++ pair (time % 10000 % 100)) rest)
    ∙ ap (λ (digits : List ℕ). digits ++ rest) (sym (decimal_four time late fits))
