use Rattle.due_model.specs.story_model.specs.Items.{command_id}
use Rattle.delivery_laws.proofs.laws.valid_commands_are_delivered.Goals as goal

pub returns : goal.returns
returns c = λ s rows o prompt end roomy resets aborts n k at valid bears. c.unrefused_commands_are_delivered.ensures
    s rows n k o resets aborts prompt end at valid bears
    (c.roomy_scenarios_refuse_nothing.ensures s rows (command_id n) o roomy prompt)
