use Rattle.std.proofs.Common.{◌≤◌, ◌∙◌, [], sym, arith}
use Rattle.array_model.specs.Contents.{zero_block}
use Rattle.text_pages.proofs.Putting.{nothing}
use Rattle.trace_text.proofs.TouchedBlocks.{from_on, next_is, none_is, past_is, over_is}
use Rattle.trace_text.proofs.blocks_part.put_next.Goals as goal

pub returns-in_default-clause-text : goal.returns-in_default-clause-text
returns-in_default-clause-text g c =
    let disk = c.args.disk.now.contents in
    let none = none_is c.args.target c.args.unit disk.count c.args.from disk.touched
    (sym c.next_touched.ensures ∙ c.in_default.is) in
    let over = over_is c.args.target c.args.unit disk.count c.count-count.result disk.touched
    (omega (arith, c.count-count.ensures.exact)) in
    ([], nothing _, none ∙ sym over)

pub returns-then-number-count-clause-text : goal.returns-then-number-count-clause-text
returns-then-number-count-clause-text g c =
    let disk = c.args.disk.now.contents in
    let past = past_is c.args.target c.args.unit disk.count c.args.from c.in-Some.lba disk.touched
    (sym c.next_touched.ensures ∙ c.in-Some.is) (omega (arith, c.count-count.ensures.exact, c.if-number-count.true)) in
    let over = over_is c.args.target c.args.unit disk.count c.count-count.result disk.touched
    (omega (arith, c.count-count.ensures.exact)) in
    ([], nothing _, past ∙ sym over)

pub returns-clause-text : goal.returns-clause-text
returns-clause-text g c =
    let disk = c.args.disk.now.contents in (
      _,
      c.put_read.ensures,
      next_is c.args.target c.args.unit disk.count c.args.from c.in-Some.lba disk.touched
          (zero_block disk.size) (sym c.next_touched.ensures ∙ c.in-Some.is)
          (omega (arith, c.count-count.ensures.exact, c.if-number-count.false)),
    )

pub returns-clause-further : goal.returns-clause-further
returns-clause-further g c =
    let disk = c.args.disk.now.contents in
    let le : c.args.from ≤ c.in-Some.lba = from_on disk.touched c.args.from c.in-Some.lba
    (sym c.next_touched.ensures ∙ c.in-Some.is) in
    omega arith
