use Rattle.std.proofs.Common.{arith}
use Rattle.tape_unit.proofs.Ahead.{length_ahead}
use Rattle.tape_unit.proofs.commands.pass.Goals as goal
use Rattle.tape_unit.proofs.commands.pass.Goals.{then-forward, else-forward}

pub overflow_add-position : goal.overflow_add-position
overflow_add-position c = omega (
  arith,
  rw c.if-forward.true at c.requires,
  length_ahead c.args.tape.now.tape.reel,
  c.position-position.ensures.exact,
  c.position-position.ensures.within,
  c.position-position.ensures.few,
)

pub move_to-requires : goal.move_to-requires
move_to-requires c = elim c.if-forward.branch [
  | then-forward w ↦ rw w.move_to-is (omega (
    arith,
    rw w.if-forward.true at c.requires,
    length_ahead c.args.tape.now.tape.reel,
    c.position-position.ensures.exact,
    c.position-position.ensures.within,
  ))
  | else-forward w ↦
      rw w.move_to-is (omega (arith, c.position-position.ensures.exact, c.position-position.ensures.within))
]
