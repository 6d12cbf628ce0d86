use Rattle.delivery_laws.proofs.Callings.Facts.{unanswered_struck}
use Rattle.delivery_laws.proofs.laws.unanswered_commands_were_struck.Goals as goal

pub returns : goal.returns
returns c = λ s rows n k o prompt at there e. unanswered_struck s rows n k c.endings_have_causes.ensures.unanswered o
    prompt at there e
