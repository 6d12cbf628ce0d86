use Rattle.delivery_laws.proofs
use proofs.{Names.{run_state}, Queues.{Facts.{none_refused}, Taken.{never_refused}}}
use Rattle.delivery_laws.proofs.laws.roomy_scenarios_refuse_nothing.Goals as goal

pub returns : goal.returns
returns c =
    λ s rows id o roomy prompt. never_refused (run_state s rows).story.history id (none_refused s rows o roomy prompt)
