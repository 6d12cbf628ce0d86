use Rattle.std.proofs.Common.{◌≡◌, Bool, List, ◌∙◌, sym, arith, length}
use Rattle.tape_unit.specs.Stored.{seen}
use Rattle.tape_unit.proofs.Walks.{length_seen, blocks_edge, blocks_filemark, blocks_more}
use Rattle.tape_unit.proofs.walk.over_blocks.Goals as goal

pub returns-then-passed-objects : goal.returns-then-passed-objects
returns-then-passed-objects c =
    let marks : List Bool = seen c.args.forward c.args.objects.now in
    let all : length marks ≡ length c.args.objects.now = length_seen c.args.objects.now c.args.forward in
    sym (blocks_edge marks c.args.count c.loop-passed.passed (omega arith) (omega arith)) ∙ c.loop-passed.invariant.2

pub returns-then-is_filemark_at : goal.returns-then-is_filemark_at
returns-then-is_filemark_at c =
    let marks : List Bool = seen c.args.forward c.args.objects.now in
    let all : length marks ≡ length c.args.objects.now = length_seen c.args.objects.now c.args.forward in
    sym (blocks_filemark marks c.args.count c.loop-passed.passed (omega arith) (omega arith)
    (sym c.if-is_filemark_at.ensures)) ∙ c.loop-passed.invariant.2

pub loop-passed-preserved : goal.loop-passed-preserved
loop-passed-preserved c =
    let marks : List Bool = seen c.args.forward c.args.objects.now in
    let all : length marks ≡ length c.args.objects.now = length_seen c.args.objects.now c.args.forward in (
      omega arith,
      omega arith,
      blocks_more marks c.args.count c.loop-passed.passed (omega arith) (omega arith) (sym c.if-is_filemark_at.ensures)
          ∙ c.loop-passed.invariant.2,
    )
