use Rattle.std.proofs.Common.{◌≡◌, ◌*◌, ℕ, List, replicate, ap, ◌∙◌, arith}
use Rattle.std.proofs.lemmas.Grind.{common_steps}
use Rattle.array_model.specs.Contents.{touched_block}
use Rattle.disk_unit.specs.Dense.{blocks_in}
use Rattle.disk_unit.proofs.AllBlocks.{zero_dense}
use Rattle.disk_unit.proofs.dense.DenseBlocks.new.Goals as goal

pub returns-clause-zeros : goal.returns-clause-zeros
returns-clause-zeros c = λ lba.
    let blank : c.in_ok-bytes.bytes.items ≡ replicate (c.args.count * c.args.size) 0 = grind (arith, common_steps) in
    ap (λ (bytes : List ℕ). touched_block (blocks_in c.args.size 0 c.args.count bytes) lba (replicate c.args.size 0))
    blank ∙ zero_dense c.args.size 0 c.args.count lba
