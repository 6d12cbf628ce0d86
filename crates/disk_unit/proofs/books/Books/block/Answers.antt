use Rattle.std.proofs.Common.{◌≡◌, ◌<◌, ◌∙◌, true, length, sym, ap, arith}
use Rattle.tag_queue.specs.Queue.{has_key}
use Rattle.disk_unit.specs.Books.{UnitBooks, block_at, block_bytes}
use Rattle.disk_unit.proofs.BookLists.{bounded_key, blocks_at}
use Rattle.disk_unit.proofs.books.Books.block.Goals as goal

pub index-requires : goal.index-requires
index-requires c =
    let live : has_key c.self.inside.queue.arrived c.args.key ≡ true =
    ap (λ (b : UnitBooks). has_key b.queue.arrived c.args.key) c.self.view_is ∙ c.requires.live in
    let low : c.args.key < c.self.inside.queue.keys = bounded_key c.self.inside.queue.keys
    c.self.inside.queue.arrived c.args.key c.self.invariant.1 live in
    let room = c.self.invariant.0 in
    omega arith

pub returns : goal.returns
returns c =
    let live : has_key c.self.inside.queue.arrived c.args.key ≡ true =
    ap (λ (b : UnitBooks). has_key b.queue.arrived c.args.key) c.self.view_is ∙ c.requires.live in
    let low : c.args.key < c.self.inside.queue.keys = bounded_key c.self.inside.queue.keys
    c.self.inside.queue.arrived c.args.key c.self.invariant.1 live in
    let room = c.self.invariant.0 in
    let within : c.args.key < length c.self.inside.blocks.items = omega arith in
    c.as_slice.ensures ∙ ap block_bytes c.index.ensures
    ∙ sym (blocks_at c.self.inside.blocks.items c.args.key c.index.result.now within)
    ∙ ap (λ (b : UnitBooks). block_at b c.args.key) c.self.view_is
