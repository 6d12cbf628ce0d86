use Rattle.due_model.specs.RunSteps.{run_state}
use Rattle.book_laws.proofs.Faith.{row_is_faithful}
use Rattle.book_laws.proofs.laws.rows_of_connections_are_faithful.Goals as goal

-- src/laws.rt
pub returns : goal.returns
returns c = λ s rows row n units speaks knows carry lines stands sends runs leaves. row_is_faithful s
    (run_state s rows) row n units speaks knows carry lines stands sends runs leaves
