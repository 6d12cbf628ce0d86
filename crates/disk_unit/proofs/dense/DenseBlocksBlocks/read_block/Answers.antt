use Rattle.std.proofs.Common.{◌≡◌, ◌<◌, ◌+◌, ◌-◌, ◌*◌, ℕ, take, drop, sym, ap, subst, ◌∙◌, arith}
use Rattle.array_model.specs.Contents.{Contents, block_at, touched_block, zero_block}
use Rattle.disk_unit.specs.Dense.{blocks_in}
use Rattle.disk_unit.proofs.AllBlocks.{read_dense}
use Rattle.disk_unit.proofs.dense.DenseBlocksBlocks.read_block.Goals as goal

pub returns : goal.returns
returns c =
    let s = c.self.inside in
    let within : c.args.lba < s.count = subst
    (λ (k : Contents). c.args.lba < k.count) (sym c.self.view_is) c.requires.within in
    let size : c.args.lba * s.size + s.size - c.args.lba * s.size ≡ s.size = omega arith in
    let first : 0 + c.args.lba ≡ c.args.lba = omega arith in
    c.copy_from_slice.ensures.after ∙ (λ i. take (size i) (drop (c.args.lba * s.size) (c.deref.ensures.value i)))
    ∙ sym (read_dense s.size 0 s.count s.bytes.items c.args.lba (zero_block s.size) within)
    ∙ ap (λ (k : ℕ). touched_block (blocks_in s.size 0 s.count s.bytes.items) k (zero_block s.size)) first
    ∙ ap (λ (k : Contents). block_at k c.args.lba) c.self.view_is
