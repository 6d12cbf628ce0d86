use Rattle.std.proofs.Common.{sym, rules}
use Rattle.tape_unit.proofs.Written.{blocks_written}
use Rattle.tape_unit.proofs.commands.write.Goals as goal

pub returns-then-has_room : goal.returns-then-has_room
returns-then-has_room c = blocks_written c.args.tape.now c.cut.new.self c.add_blocks.new.self c.move_to.new.self
    c.args.count c.len-end.result c.args.sent.now c.cut.ensures.exact c.add_blocks.ensures c.len-end.ensures
    c.move_to.ensures c.cut.ensures.within (search rules) (sym c.if-has_room.ensures.exact)
