use Rattle.std.proofs.Common.{◌≡◌, Bool, List, ◌∙◌, sym, arith, length}
use Rattle.tape_unit.specs.Stored.{seen}
use Rattle.tape_unit.proofs.Walks.{length_seen, filemarks_edge, filemarks_more, filemarks_past}
use Rattle.tape_unit.proofs.walk.over_filemarks.Goals as goal
use Rattle.tape_unit.proofs.walk.over_filemarks.Goals.{then-is_filemark_at, else-is_filemark_at}

pub returns-then-passed-objects : goal.returns-then-passed-objects
returns-then-passed-objects c =
    let marks : List Bool = seen c.args.forward c.args.objects.now in
    let all : length marks ≡ length c.args.objects.now = length_seen c.args.objects.now c.args.forward in
    sym (filemarks_edge marks c.args.count c.loop-moved.moved c.loop-moved.passed (omega arith) (omega arith))
    ∙ c.loop-moved.invariant.2

pub loop-moved-preserved : goal.loop-moved-preserved
loop-moved-preserved c =
    let marks : List Bool = seen c.args.forward c.args.objects.now in
    let all : length marks ≡ length c.args.objects.now = length_seen c.args.objects.now c.args.forward in
    elim c.if-is_filemark_at.branch [
      | then-is_filemark_at w ↦ rw w.moved-is (
        omega arith,
        omega arith,
        filemarks_more marks c.args.count c.loop-moved.moved c.loop-moved.passed (omega arith) (omega arith)
            (sym w.if-is_filemark_at.ensures) ∙ c.loop-moved.invariant.2,
      )
      | else-is_filemark_at w ↦ rw w.moved-is (
        omega arith,
        omega arith,
        filemarks_past marks c.args.count c.loop-moved.moved c.loop-moved.passed (omega arith) (omega arith)
            (sym w.if-is_filemark_at.ensures) ∙ c.loop-moved.invariant.2,
      )
    ]
