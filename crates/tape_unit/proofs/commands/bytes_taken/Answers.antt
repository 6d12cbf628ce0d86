use Rattle.std.proofs.Common.{arith}
use Rattle.tape_unit.proofs.Ahead.{bytes_few}
use Rattle.tape_unit.proofs.commands.bytes_taken.Goals as goal

pub overflow_mul-result : goal.overflow_mul-result
overflow_mul-result c = omega (
  arith,
  bytes_few c.args.count c.size.result (c.has_room.ensures.few c.if-has_room.true)
      (omega (arith, c.size.ensures.exact, c.size.ensures.most)),
)
