use Rattle.delivery_laws.proofs
use proofs.{Names.{command_id}, Outcomes.{Checked.{IsCalmTrace, Laws, unheard, wrong_outcome}, Delivered.{HaveCauses}}}
use Rattle.delivery_laws.proofs.laws.invalid_commands_are_checked.Goals as goal

pub returns : goal.returns
returns c = λ s rows o resets aborts prompt end.
    let causes : HaveCauses = record {
      status = c.endings_have_causes.ensures.status;
      loss = c.endings_have_causes.ensures.loss;
      reset = c.endings_have_causes.ensures.reset;
      abort = c.endings_have_causes.ensures.abort;
      tried = c.endings_have_causes.ensures.unanswered;
    } in
    let laws : Laws = record {
      causes = causes;
      limited = c.limits_are_kept.ensures.failures;
      lost = c.limits_are_kept.ensures.losses;
      answered = c.ended_traces_have_outcomes.ensures.answered;
      wants = c.wants_are_items.ensures.wants;
      stopped = c.endings_have_causes.ensures.stopped;
    } in
    let t : IsCalmTrace s rows = record { obeys = o; resets = resets; aborts = aborts; prompt = prompt; end = end } in
    record {
      unheard = λ n k at away. unheard s rows n k laws t at away;
      checked = λ n k roomy at there checked bears. wrong_outcome s rows n k laws t (record {
        at = at;
        there = there;
        checked = checked;
        bears = bears;
        unrefused = c.roomy_scenarios_refuse_nothing.ensures s rows (command_id n) o roomy prompt;
      });
    }
