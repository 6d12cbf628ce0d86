use Rattle.std.proofs.Common.{◌∙◌, ◌≤◌, true, arith}
use Rattle.array_model.specs.Reels.{way_from}
use Rattle.tape_unit.proofs.Ahead.{bytes_few, moved_within, length_ahead, plan_of_read}
use Rattle.tape_unit.proofs.commands.read_plan.Goals as goal

pub overflow_mul-walk : goal.overflow_mul-walk
overflow_mul-walk c =
    let few : c.over_blocks-walk.result.moved ≤ 65536 = rw c.over_blocks-walk.ensures.exact (omega (
      arith,
      moved_within (way_from c.args.tape.now.tape.reel true) c.args.count,
      length_ahead c.args.tape.now.tape.reel,
      c.size.ensures.few,
    )) in
    omega (
      arith,
      bytes_few c.over_blocks-walk.result.moved c.size.result few
          (omega (arith, c.size.ensures.exact, c.size.ensures.most)),
    )

pub returns : goal.returns
returns c = c.stop_plan.ensures ∙ plan_of_read c.args.tape.now.tape c.args.count c.size.result c.over_blocks-walk.result
    c.over_blocks-walk.ensures.exact c.size.ensures.exact c.size.ensures.whole
