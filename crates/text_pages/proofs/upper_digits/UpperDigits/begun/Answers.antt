use Rattle.std.proofs.Common.{◌≡◌, ◌-◌, ◌/◌, ◌%◌, arith, ◌∙◌, ap, length, decimal}
use Rattle.std.proofs.lemmas.Fmt.{length-decimal-le}
use Rattle.std.proofs.lemmas.List.{take_at}
use Rattle.text_pages.proofs.upper_digits.UpperDigits.begun.Goals as goal

pub invariant_of-result : goal.invariant_of-result
invariant_of-result c =
    let time = c.args.time in
    let upper = c.as_bytes-upper.ensures.value ∙ c.format.ensures.text in
    let few = length-decimal-le 16 (time / 10000) (omega arith)
    (omega (arith, c.ranges.time.fits)) (omega (arith, c.ranges.time.fits)) in
    let same : time / 10000 ≡ (time - time % 10000) / 10000 = omega arith in
    let copied = c.copy_from_slice.ensures.after in
    record {
      few = omega (arith, ap length upper);
      round = omega arith;
      upper_digits = take_at c.copy_from_slice.new.self _ _ (ap length copied) ∙ copied ∙ upper ∙ ap decimal same;
    }
