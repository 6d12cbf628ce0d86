use Rattle.std.proofs.Common.{◌≡◌, length, refl, ◌∙◌, arith}
use Rattle.std.specs.Vec.{with_items}
use Rattle.std.proofs.lemmas.List.{with_items_is}
use Rattle.std.proofs.lemmas.Grind.{common_steps}
use Rattle.disk_unit.proofs.sparse.overwrite.Goals as goal

pub returns-clause-written : goal.returns-clause-written
returns-clause-written c =
    let same : length c.copy_from_slice.new.self ≡ c.index_mut.result.now.len = grind (arith, common_steps) in (
      with_items c.index_mut.result.now c.copy_from_slice.new.self,
      with_items_is c.index_mut.result.now c.copy_from_slice.new.self same ∙ c.copy_from_slice.ensures.after,
      refl,
    )
