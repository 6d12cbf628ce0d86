-- What shifts and masks of a number say of its set of lines.
use Rattle.std.proofs.Common.{not, zero, suc, ℕ, ◌≡◌, ◌+◌, ◌-◌, ◌*◌, ◌/◌, ◌%◌, ◌^◌, ◌<◌, ◌==◌, ◌||◌, Bool, true, false}
use Rattle.std.proofs.Common.{refl, arith, ap, sym, subst, ◌∙◌, max, ltb, nat_lt}
use Rattle.std.specs.Int.{bit_at}
use Rattle.std.specs.Int.RustNames.{bit_or, bit_and}
use Rattle.std.proofs.lemmas.Nat.{or_mod, div-add-mod', pow_pos}
use Rattle.std.proofs.lemmas.Nat.Bits.{bit_at_or, bit_at-lt, and_pow, shr_and_one, bit_at_cat_low}
use Rattle.std.proofs.lemmas.Bool.{lt-ltb, ltb-true, ltb-false}
use Rattle.std.proofs.lemmas.Bool.Decides.{nat_tests}
use Rattle.bus_trace.specs.LineSet.{LineSet, set_of, bit_value, union, line_of}

or_bit_by : (x y : ℕ) → x < 2 → y < 2 → (max x y == 1) ≡ (x == 1) || (y == 1)
or_bit_by zero zero p q = refl
or_bit_by zero (suc zero) p q = refl
or_bit_by (suc zero) zero p q = refl
or_bit_by (suc zero) (suc zero) p q = refl
or_bit_by (suc (suc x)) y p q = absurd (omega arith)
or_bit_by zero (suc (suc y)) p q = absurd (omega arith)
or_bit_by (suc zero) (suc (suc y)) p q = absurd (omega arith)

-- a bit of an OR
pub or_bit : (a b i : ℕ) → (bit_at (bit_or a b) i == 1) ≡ (bit_at a i == 1) || (bit_at b i == 1)
or_bit a b i = ap (λ x. x == 1) (bit_at_or a b i) ∙ or_bit_by _ _ (bit_at-lt a i) (bit_at-lt b i)

-- the set of an OR is the union
pub set_of-or : (a b : ℕ) → set_of (bit_or a b) ≡ union (set_of a) (set_of b)
set_of-or a b = simp (
  or_bit a b 9,
  or_bit a b 10,
  or_bit a b 11,
  or_bit a b 12,
  or_bit a b 13,
  or_bit a b 14,
  or_bit a b 15,
  or_bit a b 16,
  or_bit a b 17,
  or_mod a b 9,
)

pub union_of : (a b : ℕ) (s t : LineSet) → set_of a ≡ s → set_of b ≡ t → set_of (bit_or a b) ≡ union s t
union_of a b s t p q = set_of-or a b ∙ (ap (λ (x : LineSet). union x (set_of b)) p ∙ ap (λ (x : LineSet). union s x) q)

bit_test_by : (b w : ℕ) → b < 2 → 0 < w → not (b * w == 0) ≡ (b == 1)
bit_test_by zero w h p = grind (arith, nat_tests)
bit_test_by (suc zero) w h p = grind (arith, nat_tests)
bit_test_by (suc (suc b)) w h p = absurd (omega arith)

-- what a mask of one bit tests
pub bit_test : (n k : ℕ) → not (bit_and n (2 ^ k) == 0) ≡ (bit_at n k == 1)
bit_test n k = rw (and_pow n k) (bit_test_by (bit_at n k) (2 ^ k) (bit_at-lt n k) (pow_pos k))

-- a low bit is one of the remainder
pub bit_at_mod : (n k i : ℕ) → i < k → bit_at n i ≡ bit_at (n % 2 ^ k) i
bit_at_mod n k i h =
    ap (λ x. bit_at x i) (sym (div-add-mod' n (2 ^ k))) ∙ bit_at_cat_low (n / 2 ^ k) k (n % 2 ^ k) i h

value_back : (b : ℕ) → b < 2 → b ≡ bit_value (b == 1) 1
value_back zero h = refl
value_back (suc zero) h = refl
value_back (suc (suc b)) h = absurd (omega arith)

-- a data line by its number
pub line_low : (line : ℕ) (s : LineSet) → line < 9 → line_of line s ≡ bit_at s.data_bits line
unfolding line_of
line_low line s h =
    let e : nat_lt line 9 ≡ true = lt-ltb line 9 h in
    rw e refl

bit_at_high : (n m : ℕ) → m < 9 → bit_at n (9 + m) ≡ line_of (9 + m) (set_of n)
unfolding line_of
bit_at_high n zero h = value_back (bit_at n 9) (bit_at-lt n 9)
bit_at_high n (suc zero) h = value_back (bit_at n 10) (bit_at-lt n 10)
bit_at_high n (suc (suc zero)) h = value_back (bit_at n 11) (bit_at-lt n 11)
bit_at_high n (suc (suc (suc zero))) h = value_back (bit_at n 12) (bit_at-lt n 12)
bit_at_high n (suc (suc (suc (suc zero)))) h = value_back (bit_at n 13) (bit_at-lt n 13)
bit_at_high n (suc (suc (suc (suc (suc zero))))) h = value_back (bit_at n 14) (bit_at-lt n 14)
bit_at_high n (suc (suc (suc (suc (suc (suc zero)))))) h = value_back (bit_at n 15) (bit_at-lt n 15)
bit_at_high n (suc (suc (suc (suc (suc (suc (suc zero))))))) h = value_back (bit_at n 16) (bit_at-lt n 16)
bit_at_high n (suc (suc (suc (suc (suc (suc (suc (suc zero)))))))) h = value_back (bit_at n 17) (bit_at-lt n 17)
bit_at_high n (suc (suc (suc (suc (suc (suc (suc (suc (suc m))))))))) h = absurd (omega arith)

-- a bit of a number is the line of that number
pub bit_at_line : (n line : ℕ) → line < 18 → bit_at n line ≡ line_of line (set_of n)
bit_at_line n line h = go (ltb line 9) refl
  where
    go : (q : Bool) → ltb line 9 ≡ q → bit_at n line ≡ line_of line (set_of n)
    go true e =
        let low = ltb-true line 9 e in
        bit_at_mod n 9 line low ∙ sym (line_low line (set_of n) low)
    go false e =
        let high = ltb-false line 9 e in
        let same : 9 + (line - 9) ≡ line = omega arith in
        subst (λ k. bit_at n k ≡ line_of k (set_of n)) same (bit_at_high n (line - 9) (omega arith))

-- what a shift reads
pub shift_line : (n line : ℕ) (s : LineSet) → line < 18 → set_of n ≡ s → bit_and (n / 2 ^ line) 1 ≡ line_of line s
shift_line n line s h e = shr_and_one n line ∙ (bit_at_line n line h ∙ ap (λ (t : LineSet). line_of line t) e)

-- what a shift reads of the data lines
pub shift_data : (n line : ℕ) (s : LineSet) → line < 9 → set_of n ≡ s
    → bit_and (n / 2 ^ line) 1 ≡ bit_at s.data_bits line
shift_data n line s h e =
    shr_and_one n line ∙ (bit_at_mod n 9 line h ∙ ap (λ (t : LineSet). bit_at t.data_bits line) e)
