use Rattle.std.proofs.Common.{◌≡◌, ℕ, List, length, sym, subst, arith}
use Rattle.std.specs.Global.{Vec}
use Rattle.std.proofs.lemmas.Grind.{common_steps}
use Rattle.disk_unit.specs.Sparse.{HaveSize}
use Rattle.disk_unit.proofs.Touched.{sized_push}
use Rattle.disk_unit.proofs.sparse.fill_pool.Goals as goal

pub loop-preserved : goal.loop-preserved
loop-preserved c =
    let h = c.loop.invariant in
    let fits : length c.in-Ok.block.items ≡ c.args.size = grind (arith, common_steps, c.in-Ok.ensures.items) in (
      grind (arith, common_steps),
      subst (λ (xs : List (Vec ℕ)). HaveSize c.args.size xs) (sym c.push_reserved.ensures.items)
          (sized_push c.args.size c.loop.pool.items c.in-Ok.block h.1 fits),
      grind (arith, common_steps),
      grind (arith, common_steps),
    )
