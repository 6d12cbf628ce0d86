use Rattle.std.proofs.Common.{refl, arith}
use Rattle.vcd_text.proofs.KeptTokens.{breaks_more, gives_breaks}
use Rattle.vcd_text.proofs.kept.keep_all.Goals as goal

pub returns-then-not-branch-clause-kept : goal.returns-then-not-branch-clause-kept
returns-then-not-branch-clause-kept c = breaks_more c.args.dump.now c.loop-byte.kept c.args.kept.now
    c.args.text.now c.loop-byte.byte-index _ 0 (omega arith) refl c.loop-byte.invariant.kept
    (gives_breaks c.in_ok-keep.field-0 c.args.dump.now c.keep.new.kept _ c.if-not-branch.true c.in_ok-keep.ensures.kept)
