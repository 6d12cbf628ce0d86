use Rattle.std.proofs.Common.{sym, rules}
use Rattle.tape_unit.proofs.Written.{filemarks_written}
use Rattle.tape_unit.proofs.commands.write_filemarks.Goals as goal

pub returns-then-has_room : goal.returns-then-has_room
returns-then-has_room c = filemarks_written c.args.tape.now c.cut.new.self c.add_filemarks.new.self c.move_to.new.self
    c.args.count c.len-end.result c.cut.ensures.exact c.add_filemarks.ensures c.len-end.ensures c.move_to.ensures
    c.cut.ensures.within (search rules) (sym c.if-has_room.ensures.exact)
