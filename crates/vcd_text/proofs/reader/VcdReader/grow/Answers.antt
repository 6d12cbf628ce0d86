use Rattle.vcd_text.proofs.ReadAlike.{grown_alive, grown_dead}
use Rattle.vcd_text.proofs.reader.VcdReader.grow.Goals as goal

pub returns-then-not-branch-clause-read : goal.returns-then-not-branch-clause-read
returns-then-not-branch-clause-read c = grown_dead c.args.self.now c.keep_all.new.kept c.args.text.now
    c.in_ok-keep_all.field-0 c.requires.open c.if-not-branch.true c.in_ok-keep_all.ensures.kept

pub returns-else-not-branch-clause-read : goal.returns-else-not-branch-clause-read
returns-else-not-branch-clause-read c = grown_alive c.args.self.now c.keep_all.new.kept c.args.text.now
    c.in_ok-keep_all.field-0 c.requires.open c.if-not-branch.false c.in_ok-keep_all.ensures.kept
