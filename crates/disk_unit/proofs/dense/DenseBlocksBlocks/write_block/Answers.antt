use Rattle.std.proofs.Common.{◌≡◌, ◌<◌, ◌≤◌, ◌+◌, ◌-◌, ◌*◌, ℕ, List, None, length, sym, ap, subst, ◌∙◌, arith}
use Rattle.std.specs.Vec.{with_items}
use Rattle.std.proofs.lemmas.List.{with_items_is}
use Rattle.std.proofs.lemmas.Grind.{common_steps}
use borrow.Rule.Slice.PartMut.{put_mid}
use Rattle.array_model.specs.Contents.{Contents, with_block, touched_with}
use Rattle.disk_unit.specs.Dense.{blocks_in}
use Rattle.disk_unit.proofs.AllBlocks.{put_at, put_mid_is, length_put, block_within, write_dense}
use Rattle.disk_unit.proofs.dense.DenseBlocksBlocks.write_block.Goals as goal

pub returns-clause-written : goal.returns-clause-written
returns-clause-written c =
    let s = c.self.inside in
    let start = c.args.lba * s.size in
    let within : c.args.lba < s.count = subst
    (λ (k : Contents). c.args.lba < k.count) (sym c.self.view_is) c.requires.within in
    let fits : length c.args.from.now ≡ s.size = c.requires.whole
    ∙ ap (λ (k : Contents). k.size) (sym c.self.view_is) in
    let part : c.args.lba * s.size + s.size - c.args.lba * s.size ≡ length c.args.from.now = omega arith in
    let put : put_mid (c.args.lba * s.size) (c.args.lba * s.size + s.size - c.args.lba * s.size)
    c.deref_mut.result.now c.copy_from_slice.new.self ≡ put_at (c.args.lba * s.size) s.bytes.items c.args.from.now =
    (λ i. put_mid (c.args.lba * s.size) (c.args.lba * s.size + s.size - c.args.lba * s.size)
    (c.deref_mut.ensures.value i) (c.copy_from_slice.ensures.after i)) ∙ put_mid_is (c.args.lba * s.size)
    (c.args.lba * s.size + s.size - c.args.lba * s.size) s.bytes.items c.args.from.now part in
    let inside : c.args.lba * s.size + s.size ≤ length s.bytes.items = block_within c.args.lba s.count s.size
    (length s.bytes.items) within c.self.invariant.0 in
    let long : length (put_at (c.args.lba * s.size) s.bytes.items c.args.from.now) ≡ length s.bytes.items = length_put
    (c.args.lba * s.size) s.bytes.items c.args.from.now (omega arith) in
    let capacity : length s.bytes.items ≡ s.bytes.len = grind (arith, common_steps) in
    let items : (with_items s.bytes (put_mid (c.args.lba * s.size)
    (c.args.lba * s.size + s.size - c.args.lba * s.size) c.deref_mut.result.now c.copy_from_slice.new.self)).items
    ≡ put_at (c.args.lba * s.size) s.bytes.items c.args.from.now = ap (λ (l : List ℕ). (with_items s.bytes l).items) put
    ∙ with_items_is s.bytes (put_at (c.args.lba * s.size) s.bytes.items c.args.from.now) (long ∙ capacity) in
    let first : 0 + c.args.lba ≡ c.args.lba = omega arith in
    let touched : blocks_in s.size 0 s.count (with_items s.bytes (put_mid (c.args.lba * s.size)
    (c.args.lba * s.size + s.size - c.args.lba * s.size) c.deref_mut.result.now c.copy_from_slice.new.self)).items
    ≡ touched_with (blocks_in s.size 0 s.count s.bytes.items) c.args.lba c.args.from.now =
    ap (blocks_in s.size 0 s.count) items
    ∙ write_dense s.size 0 s.count s.bytes.items c.args.from.now c.args.lba within c.self.invariant.0 fits
    ∙ ap (λ (k : ℕ). touched_with (blocks_in s.size 0 s.count s.bytes.items) k c.args.from.now) first in
    (λ i. record { count = s.count; size = s.size; touched = touched i; reel = None })
    ∙ ap (λ (k : Contents). with_block k c.args.lba c.args.from.now) c.self.view_is
