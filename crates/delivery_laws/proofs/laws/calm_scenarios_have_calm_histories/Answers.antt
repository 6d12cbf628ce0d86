use Rattle.delivery_laws.proofs.Resets.Calm.{calm_history}
use Rattle.delivery_laws.proofs.laws.calm_scenarios_have_calm_histories.Goals as goal

pub returns : goal.returns
returns c = λ s rows o none alone prompt. calm_history s rows o none alone prompt
