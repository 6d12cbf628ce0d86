-- What a row does, as a target reads it.
use Rattle.std.proofs.Common.{◌≡◌, true, List, [], ◌∙◌}
use Rattle.std.specs.Prelude.{◌||◌, not, is_some, if◌then◌else◌}
use Rattle.bus_trace.specs.declared.Row.{Row}
use Rattle.bus_trace.specs.declared.connection.Connection.{Connection}
use Rattle.bus_trace.specs.Phases.{changes_phase}
use Rattle.scenario.specs.Value.{ScenarioValue}
use Rattle.due_model.specs.RunSteps.{run_state}
use Rattle.due_model.specs.Telling.{target_events}
use Rattle.disk_target.specs.target_course.specs.Courses.{events_of_target}
use Rattle.bus_run.specs.Shown.{reading, is_left}
use Rattle.bus_run.proofs.Rows.{IsRead}

pub left_is : (s : ScenarioValue) (rows : List Row) (row : Row) (n : Connection)
    → IsRead s rows row → is_left (reading s rows row).change (reading s rows row).next ≡ true
    → events_of_target s rows row n ≡ target_events s (run_state s rows) n (is_some (reading s rows row).next)
left_is s rows row n i l = (λ j. if (changes_phase (i.change j) || not (is_some (i.after j)))
    then target_events s (run_state s rows) n (is_some (i.after j)) else [])
    ∙ (λ j. if l j then target_events s (run_state s rows) n (is_some (reading s rows row).next) else [])
