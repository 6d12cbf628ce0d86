use Rattle.delivery_laws.proofs.Replies.Valid.{valid_replies}
use Rattle.delivery_laws.proofs.laws.valid_commands_run_good.Goals as goal

pub returns : goal.returns
returns c = λ s h a n d r o z calm at valid e. valid_replies s h a o calm z n d r at valid e
