use Rattle.std.proofs.Common.{◌∙◌, ap}
use Rattle.initiator_books.specs.Intents.{IntentValue}
use Rattle.initiator_books.proofs.Intents.{wants_since}
use Rattle.initiator_books.proofs.intent.Intent.since.Goals as goal

pub returns-clause-trace : goal.returns-clause-trace
returns-clause-trace c =
    λ s rows h. ap (λ (v : IntentValue). v.since) c.self.view_is ∙ wants_since s rows c.args.self.now h
