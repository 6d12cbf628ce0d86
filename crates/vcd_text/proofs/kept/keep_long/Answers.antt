use Rattle.std.proofs.Common.{sym, ◌∙◌, ap}
use Rattle.vcd_text.specs.Kept.{tail_of}
use Rattle.vcd_text.proofs.KeptTokens.{any_keeps, state_keeps, digit_result}
use Rattle.vcd_text.proofs.kept.keep_long.Goals as goal

pub returns-in-Any-clause-kept : goal.returns-in-Any-clause-kept
returns-in-Any-clause-kept c = any_keeps c.args.dump.now c.args.kept.now c.args.byte c.requires.told c.requires.long
    c.requires.printable (ap (tail_of c.args.dump.now.awaits) (sym c.as_slice.ensures) ∙ sym c.in-Any.ensures)

pub returns-in-States-clause-kept : goal.returns-in-States-clause-kept
returns-in-States-clause-kept c = state_keeps c.is_state.result c.args.dump.now
    c.args.kept.now c.args.byte c.requires.told c.requires.long c.requires.printable
    (ap (tail_of c.args.dump.now.awaits) (sym c.as_slice.ensures) ∙ sym c.in-States.ensures) c.is_state.ensures

pub returns-in-Digits-clause-kept : goal.returns-in-Digits-clause-kept
returns-in-Digits-clause-kept c = digit_result c.push_digit.result c.args.dump.now c.args.kept.now _ c.in-Digits.at
    c.args.byte (ap (tail_of c.args.dump.now.awaits) (sym c.as_slice.ensures) ∙ sym c.in-Digits.ensures) c.requires.long
    c.push_digit.ensures
