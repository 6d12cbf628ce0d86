use Rattle.vcd_text.proofs.ReadAlike.{ended_alive, ended_dead}
use Rattle.vcd_text.proofs.reader.VcdReader.end_token.Goals as goal

pub returns-then-branch : goal.returns-then-branch
returns-then-branch c = ended_alive c.end_word.result c.args.self.now c.end_word.new.self c.keep_all.new.kept
    c.args.text.now c.in_ok-keep_all.field-0 c.if-branch.true c.in_ok-keep_all.ensures.kept c.end_word.ensures

pub returns : goal.returns
returns c = ended_dead c.args.self.now c.keep_all.new.kept c.args.text.now c.in_ok-keep_all.field-0 c.if-branch.false
    c.in_ok-keep_all.ensures.kept
