-- The digits so far have the value so far.
use Rattle.std.proofs.Common.{◌-◌, length}
use Rattle.text_words.specs.Digits.{IsDecimalSoFar}
use Rattle.text_words.proofs.reading.decimal_from.Given as goal

abbrev pub invariant-loop-len : goal.invariant-loop-len
invariant-loop-len l = IsDecimalSoFar l.bytes l.value l.len

abbrev pub decreases-loop-len : goal.decreases-loop-len
decreases-loop-len l = length l.bytes - l.len
