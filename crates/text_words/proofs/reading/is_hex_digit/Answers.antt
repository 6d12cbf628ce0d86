use Rattle.std.proofs.Common.{◌≡◌, ℕ, ◌-◌, ◌%◌, Bool, true, false, cond, refl, ap, ◌∙◌, arith}
use Rattle.std.proofs.Math.Nat.{mod-lt}
use Rattle.std.proofs.lemmas.Bool.{lt-ltb}
use Rattle.std.specs.Prelude.{nat_lt}
use Rattle.text_words.specs.Words.{is_hex}
use Rattle.text_words.proofs.reading.is_hex_digit.Goals as goal

below_16 : (q r : Bool) (x y : ℕ) → nat_lt (cond q (cond r (x % 16) (y % 16)) 16) 16 ≡ q
below_16 true true x y = lt-ltb _ _ (mod-lt x {m = 16} (omega arith))
below_16 true false x y = lt-ltb _ _ (mod-lt y {m = 16} (omega arith))
below_16 false r x y = refl

pub returns : goal.returns
returns c = ap (λ n. nat_lt n 16) c.hex_or_16.ensures.exact
    ∙ below_16 (is_hex c.args.byte) (nat_lt c.args.byte 97) (c.args.byte - 48) (c.args.byte - 87)
