use Rattle.std.proofs.Common.{◌∙◌, ap, length, arith}
use Rattle.scenario.proofs.HexDigits.{even_digits, count_of_bytes, front}
use Rattle.scenario.proofs.limits.decoded.Goals as goal

pub returns : goal.returns
returns c =
    let spelled = c.decode.ensures ∙ even_digits c.args.digits.now in
    let count = ap length spelled ∙ count_of_bytes c.args.digits.now in
    front c.decode.new.bytes _ c.in_ok-bytes.bytes.len (omega (arith, count, c.in_ok-bytes.ensures.len)) ∙ spelled
