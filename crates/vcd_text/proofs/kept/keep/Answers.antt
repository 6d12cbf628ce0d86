use Rattle.std.proofs.Common.{sym}
use Rattle.vcd_text.proofs.KeptTokens.{unprintable_breaks}
use Rattle.vcd_text.proofs.kept.keep.Goals as goal

pub returns-else-is_printable-clause-kept : goal.returns-else-is_printable-clause-kept
returns-else-is_printable-clause-kept c =
    unprintable_breaks c.args.dump.now c.args.kept.now c.args.byte (sym c.if-is_printable.ensures)
