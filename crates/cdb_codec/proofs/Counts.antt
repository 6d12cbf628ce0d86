-- A count of three bytes has 24 bits, in two's complement too.
use Rattle.std.proofs.Common.{◌≡◌, ℕ, suc, ◌^◌, ◌<◌, ◌≤◌, pos, ◌-ℤ◌, Bool, true, false, cond, List, [], ◌∷◌, drop}
use Rattle.std.proofs.Common.{slice_index}
use Rattle.std.proofs.Common.{refl, arith}
use Rattle.std.specs.Prelude.{nat_lt}
use Rattle.std.proofs.lemmas.Bool.Decides.{nat_tests}
use Rattle.std.proofs.lemmas.Int.{ints}
use Rattle.byteorder.specs.Endian.{twos_complement}
use Rattle.byteorder.specs.Numbers.{big_from-lt}
use Rattle.cdb_codec.specs.TapeCdb.{FitsSigned24, count_6}

after_two : (bytes : List ℕ) → ((k : ℕ) → slice_index bytes k < 256) → (k : ℕ) → slice_index (drop 2 bytes) k < 256
after_two [] h k = h k
after_two (a ∷ []) h k = h (suc (suc k))
after_two (a ∷ b ∷ bytes) h k = h (suc (suc k))

pub count_fits : (bytes : List ℕ) → ((k : ℕ) → slice_index bytes k < 256) → count_6 bytes < 2 ^ 24
count_fits bytes h = big_from-lt 0 3 (drop 2 bytes) (after_two bytes h)

signed : (x : ℕ) → x < 2 ^ 24 → FitsSigned24 (twos_complement 3 x)
signed x small = go (nat_lt x (2 ^ 23)) refl
  where
    go : (t : Bool) → nat_lt x (2 ^ 23) ≡ t → FitsSigned24 (cond t (pos x) (pos x -ℤ pos (2 ^ 24)))
    go true e =
        let low : x < 2 ^ 23 = grind (arith, nat_tests) in
        (omega (arith, ints), omega (arith, ints))
    go false e =
        let high : 2 ^ 23 ≤ x = grind (arith, nat_tests) in
        (omega (arith, ints), omega (arith, ints))

pub signed_fits : (bytes : List ℕ) → ((k : ℕ) → slice_index bytes k < 256)
    → FitsSigned24 (twos_complement 3 (count_6 bytes))
signed_fits bytes h = signed (count_6 bytes) (count_fits bytes h)
