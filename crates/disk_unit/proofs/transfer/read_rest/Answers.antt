use Rattle.std.proofs.Common.{◌≡◌, ℕ, ◌+◌, ◌-◌, ◌<◌, ◌≤◌, List, ◌++◌, length, take, drop, ap, ◌∙◌, arith}
use Rattle.std.specs.Prelude.{◌/◌, ◌%◌}
use Rattle.std.proofs.lemmas.List.{length-take-le}
use Rattle.array_model.specs.Contents.{Contents, block_at, bytes_at}
use Rattle.disk_unit.proofs.Parts.{place_within, part_of}
use Rattle.disk_unit.proofs.transfer.read_rest.Goals as goal
use Rattle.disk_unit.proofs.transfer.read_rest.Goals.{then-size-offset, else-size-offset}

pub overflow_cast-place : goal.overflow_cast-place
overflow_cast-place g c =
    let k : Contents = g.B.Blocks.contents c.args.blocks.now in
    let l : c.args.place < length (bytes_at k c.args.lba c.args.count) =
    (let p = c.requires.part in let s = c.requires.some in omega arith) in
    let w : c.args.place / c.size-size.result < c.args.count = place_within k c.size-size.ensures.whole c.args.lba
    c.args.count c.args.place c.size-size.result c.size-size.ensures.exact c.size-size.ensures.some l in
    omega arith

pub overflow_add-lba : goal.overflow_add-lba
overflow_add-lba g c =
    let k : Contents = g.B.Blocks.contents c.args.blocks.now in
    let l : c.args.place < length (bytes_at k c.args.lba c.args.count) =
    (let p = c.requires.part in let s = c.requires.some in omega arith) in
    let w : c.args.place / c.size-size.result < c.args.count = place_within k c.size-size.ensures.whole c.args.lba
    c.args.count c.args.place c.size-size.result c.size-size.ensures.exact c.size-size.ensures.some l in
    omega arith

pub read_part-requires-clause-within : goal.read_part-requires-clause-within
read_part-requires-clause-within g c =
    let k : Contents = g.B.Blocks.contents c.args.blocks.now in
    let l : c.args.place < length (bytes_at k c.args.lba c.args.count) =
    (let p = c.requires.part in let s = c.requires.some in omega arith) in
    let w : c.args.place / c.size-size.result < c.args.count = place_within k c.size-size.ensures.whole c.args.lba
    c.args.count c.args.place c.size-size.result c.size-size.ensures.exact c.size-size.ensures.some l in
    let q : c.args.lba + c.args.count ≤ k.count = c.requires.within in
    omega arith

pub returns-clause-read : goal.returns-clause-read
returns-clause-read g c =
    let k : Contents = g.B.Blocks.contents c.args.blocks.now in
    let l : c.args.place < length (bytes_at k c.args.lba c.args.count) =
    (let p = c.requires.part in let s = c.requires.some in omega arith) in
    let low : c.if-size-offset.part ≤ length c.args.into.now = elim
    c.if-size-offset.branch [ then-size-offset w ↦ omega arith | else-size-offset w ↦ omega arith ] in
    let fits : c.if-size-offset.part ≤ c.size-size.result - c.args.place % c.size-size.result = elim
    c.if-size-offset.branch [ then-size-offset w ↦ omega arith | else-size-offset w ↦ omega arith ] in
    let size : length (take c.if-size-offset.part c.args.into.now) ≡ c.if-size-offset.part = length-take-le
    c.if-size-offset.part c.args.into.now low in
    ap (λ (t : List ℕ). t ++ drop c.if-size-offset.part c.args.into.now) (c.read_part.ensures ∙ (λ i. take (size i)
    (drop (c.args.place % c.size-size.result) (block_at k (c.args.lba + c.args.place / c.size-size.result))))
    ∙ part_of k c.size-size.ensures.whole c.args.lba c.args.count c.args.place c.size-size.result c.if-size-offset.part
    c.size-size.ensures.exact c.size-size.ensures.some l fits)
