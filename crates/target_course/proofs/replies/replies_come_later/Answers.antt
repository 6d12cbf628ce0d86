use Rattle.std.proofs.Common.{◌∷◌}
use Rattle.target_course.proofs.ReplyRows.{reply_begins}
use Rattle.target_course.proofs.replies.replies_come_later.Goals as goal

pub returns : goal.returns
returns c = λ s rows row dev d x e. reply_begins s rows row dev (c.kept_is_plain.ensures.rows s rows d.1)
    (c.kept_is_plain.ensures.rows s (row ∷ rows) d) x e
