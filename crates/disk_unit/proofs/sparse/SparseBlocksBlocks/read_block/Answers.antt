use Rattle.std.proofs.Common.{◌≡◌, ◌<◌, ℕ, List, true, false, length, replicate, get_or, sym, ap, ◌∙◌, arith}
use Rattle.std.specs.Global.{Vec}
use Rattle.std.proofs.lemmas.Grind.{common_steps}
use Rattle.array_model.specs.Contents.{block_at, zero_block}
use Rattle.disk_unit.specs.Sparse.{Store, place_in, is_at}
use Rattle.disk_unit.proofs.Touched.{at_within, size_at, read_found, read_absent}
use Rattle.disk_unit.proofs.sparse.SparseBlocksBlocks.read_block.Goals as goal

pub index-requires : goal.index-requires
index-requires c =
    let s = c.self.inside in
    let at : is_at s.numbers.items c.place_of-place.result c.args.lba ≡ true =
    sym (ap (λ (numbers : List ℕ). is_at numbers c.place_of-place.result c.args.lba) c.as_slice-2.ensures.value)
    ∙ sym c.is_at.ensures ∙ c.if-is_at.true in
    let within : c.place_of-place.result < length s.numbers.items = at_within
    s.numbers.items c.place_of-place.result c.args.lba at in
    let paired = c.self.invariant.paired in
    grind (arith, common_steps)

pub copy_from_slice-requires : goal.copy_from_slice-requires
copy_from_slice-requires c =
    let s = c.self.inside in
    let at : is_at s.numbers.items c.place_of-place.result c.args.lba ≡ true =
    sym (ap (λ (numbers : List ℕ). is_at numbers c.place_of-place.result c.args.lba) c.as_slice-2.ensures.value)
    ∙ sym c.is_at.ensures ∙ c.if-is_at.true in
    let found : c.place_of-place.result < length s.numbers.items = at_within
    s.numbers.items c.place_of-place.result c.args.lba at in
    let paired = c.self.invariant.paired in
    let within : c.place_of-place.result < length s.blocks.items = omega arith in
    c.requires.whole ∙ sym (ap (λ (t : Store). t.contents.size) c.self.view_is)
    ∙ sym (size_at s.size s.blocks.items c.place_of-place.result c.index.result.now c.self.invariant.sized within)
    ∙ sym (ap (λ (b : Vec ℕ). length b.items) c.index.ensures) ∙ sym (ap length c.as_slice-then-is_at.ensures.value)

pub returns-then-is_at : goal.returns-then-is_at
returns-then-is_at c =
    let s = c.self.inside in
    let place : c.place_of-place.result ≡ place_in s.numbers.items c.args.lba = c.place_of-place.ensures.exact
    ∙ (λ i. place_in (c.as_slice.ensures.value i) (c.from.ensures i)) in
    let at : is_at s.numbers.items (place_in s.numbers.items c.args.lba) c.args.lba ≡ true =
    sym (λ i. is_at (c.as_slice-2.ensures.value i) (place i) c.args.lba) ∙ sym c.is_at.ensures ∙ c.if-is_at.true in
    c.copy_from_slice.ensures.after ∙ c.as_slice-then-is_at.ensures.value ∙ ap (λ (b : Vec ℕ). b.items) c.index.ensures
    ∙ ap (λ (k : ℕ). (get_or s.blocks.items k c.index.result.now).items) place
    ∙ sym (read_found s.numbers.items s.blocks.items c.args.lba
    (zero_block s.size) c.index.result.now c.self.invariant.paired at)
    ∙ ap (λ (t : Store). block_at t.contents c.args.lba) c.self.view_is

pub returns-else-is_at : goal.returns-else-is_at
returns-else-is_at c =
    let s = c.self.inside in
    let place : c.place_of-place.result ≡ place_in s.numbers.items c.args.lba = c.place_of-place.ensures.exact
    ∙ (λ i. place_in (c.as_slice.ensures.value i) (c.from.ensures i)) in
    let at : is_at s.numbers.items (place_in s.numbers.items c.args.lba) c.args.lba ≡ false =
    sym (λ i. is_at (c.as_slice-2.ensures.value i) (place i) c.args.lba) ∙ sym c.is_at.ensures ∙ c.if-is_at.false in
    c.blank.ensures
    ∙ ap (λ (n : ℕ). replicate n 0) (c.requires.whole ∙ sym (ap (λ (t : Store). t.contents.size) c.self.view_is))
    ∙ sym (read_absent 0 s.numbers.items s.blocks.items c.args.lba (zero_block s.size) c.self.invariant.rising at)
    ∙ ap (λ (t : Store). block_at t.contents c.args.lba) c.self.view_is
