use Rattle.std.proofs.Common.{◌∷◌, sym, subst, Option}
use Rattle.disk_unit.specs.declared.unit.Reply.{Reply}
use Rattle.target_course.specs.Replies.{IsReplyOf}
use Rattle.target_course.specs.Shown.{shown_list}
use Rattle.target_course.proofs.ReplyRows.{reply_goes_on}
use Rattle.target_course.proofs.replies.reply_after.Goals as goal

pub returns-clause-trace : goal.returns-clause-trace
returns-clause-trace c = λ s rows row m dev d seats own calm tells allows shows outlook old. subst
    (λ (z : Option Reply). IsReplyOf s (row ∷ rows) dev z) (sym c.reply_by.ensures)
    (reply_goes_on s rows row m dev c.args.plan.now (shown_list c.args.shown.now) c.args.was
    (c.kept_is_plain.ensures.rows s rows d.1) (c.kept_is_plain.ensures.rows s (row ∷ rows) d)
    (c.hearings_are_plain.ensures.hearing s rows row d.1 d.0) seats own calm tells allows shows outlook old)
