use Rattle.std.proofs.Common.{arith}
use Rattle.text_words.proofs.Digits.{few_value, eight_digits}
use Rattle.text_words.proofs.reading.decimal.Goals as goal

pub returns-then-len-lt8-clause-value : goal.returns-then-len-lt8-clause-value
returns-then-len-lt8-clause-value c = few_value c.args.bytes.now c.read_digits-len.result.0 c.read_digits-len.result.1
    c.read_digits-len.ensures.end c.read_digits-len.ensures.value c.if-len-lt8.true

pub decimal_from-requires : goal.decimal_from-requires
decimal_from-requires c = eight_digits c.args.bytes.now c.read_digits-len.result.0
    c.read_digits-len.result.1 c.read_digits-len.ensures.end c.read_digits-len.ensures.value
    (omega arith) c.if-len-lt8.false c.read_digits-len.ensures.within
