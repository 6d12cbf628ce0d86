use Rattle.std.proofs.Common.{◌≡◌, ℕ, ◌-◌, ◌%◌, ◌≤◌, Bool, true, false, cond, arith}
use Rattle.std.proofs.Math.Nat.{mod-lt}
use Rattle.std.specs.Prelude.{nat_lt}
use Rattle.text_words.specs.Words.{is_hex, hex_value, hex_or_16}
use Rattle.text_words.specs.declared.reading.TheConstants.{HEX_VALUES}
use Rattle.text_words.proofs.Tables.{value_at}
use Rattle.text_words.proofs.reading.hex_or_16.Goals as goal

pub returns-clause-exact : goal.returns-clause-exact
returns-clause-exact c = value_at HEX_VALUES hex_or_16 256 c.args.byte tt (omega arith)

either : (q r : Bool) (x y : ℕ) → cond q (cond r (x % 16) (y % 16)) 16 ≤ 16
either true true x y = let h = mod-lt x {m = 16} (omega arith) in omega arith
either true false x y = let h = mod-lt y {m = 16} (omega arith) in omega arith
either false r x y = omega arith

pub returns-clause-small : goal.returns-clause-small
returns-clause-small c = rw (value_at HEX_VALUES hex_or_16 256 c.args.byte tt (omega arith))
    (either (is_hex c.args.byte) (nat_lt c.args.byte 97) (c.args.byte - 48) (c.args.byte - 87))
