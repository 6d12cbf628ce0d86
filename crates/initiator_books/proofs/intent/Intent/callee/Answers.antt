use Rattle.std.proofs.Common.{◌∙◌, ap}
use Rattle.initiator_books.specs.Intents.{IntentValue}
use Rattle.initiator_books.proofs.Intents.{callee_told}
use Rattle.initiator_books.proofs.intent.Intent.callee.Goals as goal

pub returns-clause-trace : goal.returns-clause-trace
returns-clause-trace c =
    λ s rows d lt h. ap (λ (v : IntentValue). v.callee) c.self.view_is ∙ callee_told s rows c.args.self.now d lt h
