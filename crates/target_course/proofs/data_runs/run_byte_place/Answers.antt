use Rattle.std.proofs.Common.{ℕ, ◌<◌, ◌≤◌, ◌+◌, ◌-◌, ◌^◌, ◌∙◌, min, List, length, arith}
use Rattle.std.specs.Prelude.{slice_index_or}
use Rattle.scenario.specs.declared.value.Policy.{Policy}
use Rattle.due_model.specs.dialogue_model.specs.declared.exchange.Task.{Task}
use Rattle.due_model.specs.dialogue_model.specs.DataRuns.{run_at}
use Rattle.due_model.specs.dialogue_model.specs.PhaseBytes.{one_if}
use Rattle.target_units.specs.scsi_device.proofs.Places.{held_place}
use Rattle.target_course.proofs.Places.{start_held, held_sum}
use Rattle.target_course.proofs.data_runs.run_byte_place.Goals as goal

within : (given : List ℕ) → length given < 2 ^ 64 → length given ≤ 2 ^ 64 - 1
within given h = omega arith

pub returns : goal.returns
returns c = λ given h.
    let policy : Policy = c.args.policy in
    let t : Task = c.args.task.now in
    let run : ℕ = t.runs + one_if c.args.done in
    let number = c.saturating_add-run.ensures ∙ (λ j. min (t.runs + c.one_if.ensures j) (2 ^ 64 - 1)) in
    let start = c.run_start.ensures ∙ (λ j. min (run_at policy t (number j)).start (2 ^ 64 - 1))
    ∙ start_held policy t run (2 ^ 64 - 1) (omega arith) in
    (λ j. slice_index_or given (c.saturating_add.ensures j) 0)
    ∙ (λ j. slice_index_or given (min (start j + c.args.place) (2 ^ 64 - 1)) 0)
    ∙ (λ j. slice_index_or given (held_sum (run_at policy t run).start c.args.place (2 ^ 64 - 1) j) 0)
    ∙ held_place given ((run_at policy t run).start + c.args.place) (2 ^ 64 - 1) (within given h)
