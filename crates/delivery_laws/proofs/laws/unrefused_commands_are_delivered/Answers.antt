use Rattle.delivery_laws.proofs.Outcomes.Delivered.{CalmLaws, HaveCauses, delivered}
use Rattle.delivery_laws.proofs.laws.unrefused_commands_are_delivered.Goals as goal

pub returns : goal.returns
returns c = λ s rows n k o resets aborts prompt end at valid bears unrefused.
    let causes : HaveCauses = record {
      status = c.endings_have_causes.ensures.status;
      loss = c.endings_have_causes.ensures.loss;
      reset = c.endings_have_causes.ensures.reset;
      abort = c.endings_have_causes.ensures.abort;
      tried = c.endings_have_causes.ensures.unanswered;
    } in
    let laws : CalmLaws = record {
      good = c.valid_commands_run_good.ensures;
      calm = c.calm_scenarios_have_calm_histories.ensures;
      struck = c.unanswered_commands_were_struck.ensures;
    } in
    delivered s rows n k laws causes c.limits_are_kept.ensures.failures c.limits_are_kept.ensures.losses
    c.ended_traces_have_outcomes.ensures.answered o resets aborts prompt end at valid bears unrefused
