-- Numbers that are read digit by digit.
use Rattle.std.proofs.Common.{◌≡◌, ℕ, ◌≤◌, Bool, true, false, get_or, List, [], ◌∷◌, length, refl, sym, ap, ◌∙◌, arith}
use Rattle.std.proofs.Common.{Some, None, Option}
use Rattle.std.specs.Prelude.{◌==◌, nat_lt, if◌then◌else◌}
use Rattle.vcd_text.specs.Tokens.{more_decimal, decimal_after, decimal_of, more_bits, bits_after, bits_of}

pub decimal_none : (ds : List ℕ) → decimal_after None ds ≡ None
decimal_none [] = refl
decimal_none (d ∷ ds) = decimal_none ds

bits_none : (ds : List ℕ) → bits_after None ds ≡ None
bits_none [] = refl
bits_none (d ∷ ds) = bits_none ds

either_none : (q : Bool) (o : Option ℕ) → o ≡ None → None ≡ (if q then None else o)
either_none true o is = refl
either_none false o is = sym is

decimal_stops : (rest : List ℕ) (n d : ℕ) → 1 ≤ length rest → more_decimal (Some n) (get_or rest 0 d) ≡ None
    → decimal_after (Some n) rest ≡ None
decimal_stops [] n d some stops = absurd (omega (arith, some))
decimal_stops (x ∷ xs) n d some stops = ap (λ (o : Option ℕ). decimal_after o xs) stops ∙ decimal_none xs

pub decimal_over : (token rest : List ℕ) (n d : ℕ) (r : Option ℕ) → r ≡ None
    → decimal_after (Some n) rest ≡ decimal_after (Some 0) token → 1 ≤ length rest
    → more_decimal (Some n) (get_or rest 0 d) ≡ None → r ≡ decimal_of token
decimal_over token rest n d r none so some stops =
    none ∙ either_none (length token == 0) (decimal_after (Some 0) token) (sym so ∙ decimal_stops rest n d some stops)

bits_stop : (rest : List ℕ) (n d : ℕ) → 1 ≤ length rest → more_bits (Some n) (get_or rest 0 d) ≡ None
    → bits_after (Some n) rest ≡ None
bits_stop [] n d some stops = absurd (omega (arith, some))
bits_stop (x ∷ xs) n d some stops = ap (λ (o : Option ℕ). bits_after o xs) stops ∙ bits_none xs

pub bits_over : (digits rest : List ℕ) (n d : ℕ) (r : Option ℕ) → r ≡ None
    → bits_after (Some n) rest ≡ bits_after (Some 0) digits → 1 ≤ length rest
    → more_bits (Some n) (get_or rest 0 d) ≡ None → r ≡ bits_of digits
bits_over digits rest n d r none so some stops =
    none ∙ either_none (nat_lt 18 (length digits)) (bits_after (Some 0) digits) (sym so ∙ bits_stop rest n d some stops)
