use Rattle.tape_unit.proofs.Walks.{mark_ahead, mark_behind}
use Rattle.tape_unit.proofs.walk.is_filemark_at.Goals as goal

pub returns-then-forward : goal.returns-then-forward
returns-then-forward c = rw c.if-forward.true (mark_ahead c.args.objects.now c.args.place _ c.requires)

pub returns-else-forward : goal.returns-else-forward
returns-else-forward c = rw c.if-forward.false (mark_behind c.args.objects.now c.args.place _ c.requires)
