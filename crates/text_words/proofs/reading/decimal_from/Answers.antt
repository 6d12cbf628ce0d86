use Rattle.std.proofs.Common.{sym, ap, ◌∙◌, take, arith}
use Rattle.text_words.specs.Words.{small, value_after}
use Rattle.text_words.proofs.Digits.{more_digits, too_large, no_more, stops_at, stops_at_end}
use Rattle.text_words.proofs.reading.decimal_from.Goals as goal

pub returns-in-None-clause-value : goal.returns-in-None-clause-value
returns-in-None-clause-value c =
    sym (ap (λ n. small (value_after 0 (take n c.args.bytes.now))) c.decimal_len.ensures.exact
    ∙ too_large c.args.bytes.now c.loop-len.value c.loop-len.len c.loop-len.invariant (omega arith)
    (sym c.if-is_ascii_digit.ensures.value) (sym c.pushed.ensures ∙ c.in-None.is))

pub loop-len-preserved : goal.loop-len-preserved
loop-len-preserved c = more_digits c.args.bytes.now c.loop-len.value c.loop-len.len c.in-Some.more c.loop-len.invariant
    (omega arith) (sym c.if-is_ascii_digit.ensures.value) (sym c.pushed.ensures ∙ c.in-Some.is)

pub returns-else-is_ascii_digit-clause-value : goal.returns-else-is_ascii_digit-clause-value
returns-else-is_ascii_digit-clause-value c =
    no_more c.args.bytes.now c.loop-len.value c.loop-len.len c.loop-len.invariant
    (stops_at c.args.bytes.now c.loop-len.len (omega arith) (sym c.if-is_ascii_digit.ensures.value))

pub returns-after-loop-len-clause-value : goal.returns-after-loop-len-clause-value
returns-after-loop-len-clause-value c = no_more c.args.bytes.now c.loop-len.value c.loop-len.len c.loop-len.invariant
    (stops_at_end c.args.bytes.now c.loop-len.len (omega arith))
