use Rattle.std.proofs.Common.{ℕ, List, ◌≡◌, ◌<◌, ◌∙◌, length, sym, ap, subst, arith, set, length-set}
use Rattle.tag_queue.specs.Queue.{QueueState, queue_with}
use Rattle.disk_unit.specs.Books.{UnitBooks, AreBounded, books_with, blocks_of}
use Rattle.disk_unit.proofs.BookLists.{bounded_append, blocks_set, length_blocks}
use Rattle.disk_unit.proofs.books.Books.enter.Goals as goal

pub invariant_of-self-2 : goal.invariant_of-self-2
invariant_of-self-2 c =
    let after : c.enter.new.self ≡ queue_with c.self.inside.queue c.in_ok-key.key c.args.entry =
    c.in_ok-key.ensures.entered in
    let room = c.self.invariant.0 in
    let same : c.enter.new.self.keys ≡ c.self.inside.queue.keys = ap (λ (q : QueueState). q.keys) after in (
      (let l : length (set c.self.inside.blocks.items c.in_ok-key.key c.new.result)
          ≡ length c.self.inside.blocks.items = length-set c.self.inside.blocks.items c.in_ok-key.key c.new.result in
          omega arith),
      subst (λ (q : QueueState). AreBounded q.keys q.arrived) (sym after)
          (bounded_append c.self.inside.queue.keys c.self.inside.queue.arrived c.in_ok-key.key c.args.entry
          c.self.invariant.1 c.in_ok-key.ensures.low c.requires.device),
    )

pub returns-clause-entered : goal.returns-clause-entered
returns-clause-entered c =
    let after : c.enter.new.self ≡ queue_with c.self.inside.queue c.in_ok-key.key c.args.entry =
    c.in_ok-key.ensures.entered in
    let blocks : blocks_of (set c.self.inside.blocks.items c.in_ok-key.key c.new.result)
    ≡ set (blocks_of c.self.inside.blocks.items) c.in_ok-key.key c.args.cdb.now =
    blocks_set c.self.inside.blocks.items c.in_ok-key.key c.new.result
    ∙ ap (λ (b : List ℕ). set (blocks_of c.self.inside.blocks.items) c.in_ok-key.key b) c.new.ensures in
    (λ i. record {
      queue = after i;
      blocks = blocks i;
      senses = c.self.inside.senses;
      attentions = c.self.inside.attentions;
    }) ∙ ap (λ (b : UnitBooks). books_with b c.in_ok-key.key c.args.entry c.args.cdb.now) c.self.view_is

pub returns-clause-place : goal.returns-clause-place
returns-clause-place c =
    let room = c.self.invariant.0 in
    let low = c.in_ok-key.ensures.low in
    let long : length (blocks_of c.self.inside.blocks.items) ≡ length c.self.inside.blocks.items = length_blocks
    c.self.inside.blocks.items in
    let here : c.in_ok-key.key < length (blocks_of c.self.inside.blocks.items) = omega arith in
    subst (λ (b : UnitBooks). c.in_ok-key.key < length b.blocks) c.self.view_is here
