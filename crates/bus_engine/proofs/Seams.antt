-- What devices rest on holds of every prompt trace.
use Rattle.std.proofs.Common.{◌≡◌, true, ◌&&◌, List, [], ◌∷◌, Option, Some, None, refl}
use Rattle.bus_trace.specs.declared.Row.{Row}
use Rattle.bus_trace.specs.declared.connection.Connection.{Connection}
use Rattle.bus_trace.specs.Terms.{connection}
use Rattle.scenario.specs.Value.{ScenarioValue}
use Rattle.due_model.specs.Allowed.{allowed}
use Rattle.due_model.specs.Faithful.{faithful}
use Rattle.due_model.specs.Next.{IsPrompt}
use Rattle.due_model.specs.Telling.{telling}
use Rattle.delivery_laws.specs.scsi_device.specs.Heard.{heard}
use Rattle.delivery_laws.specs.scsi_device.specs.Writes.{written}
use Rattle.bus_run.specs.Seams.{SeamsHold, is_own_pair, paired, seams}
use Rattle.delivery_laws.specs.row_laws.specs.Ends.{AreEnds, HasEnds}
use Rattle.delivery_laws.specs.story_laws.specs.RowAttendance.{IsAttended}
use Rattle.bus_engine.proofs.Attendance.{rows_attended}

-- What is proved of every prompt trace.
pub record IsProved (s : ScenarioValue) : Type 0 where
  pub faithful_are : (rows : List Row) → IsPrompt s rows → faithful s rows ≡ true
  pub telling_are : (rows : List Row) → IsPrompt s rows → telling s rows ≡ true
  pub allowed_are : (rows : List Row) → IsPrompt s rows → allowed s rows ≡ true
  pub ends_are : (rows : List Row) → IsPrompt s rows → AreEnds s rows
  pub heard_are : (rows : List Row) → IsPrompt s rows → heard s rows ≡ true
  pub written_are : (rows : List Row) → IsPrompt s rows → written s rows ≡ true
  pub attended_are : (rows : List Row) (row : Row) → IsPrompt s (row ∷ rows) → IsAttended s rows row

own_pair : (s : ScenarioValue) (o : Option Connection) → ((n : Connection) → o ≡ Some n → HasEnds s n)
    → is_own_pair s o ≡ true
own_pair s None ends = refl
own_pair s (Some n) ends = let h = ends n refl in λ i. h.initiator i && h.target i

all_paired : (s : ScenarioValue) → IsProved s → (rows : List Row) → IsPrompt s rows → paired s rows ≡ true
all_paired s proved [] prompt = refl
all_paired s proved (row ∷ rows) prompt =
    let before = all_paired s proved rows prompt.0 in
    let here = own_pair s (connection (row ∷ rows)) (λ n e. proved.ends_are (row ∷ rows) prompt n e) in
    λ i. before i && here i

pub seams_hold : (s : ScenarioValue) → IsProved s → SeamsHold s
unfolding seams
seams_hold s proved rows prompt few =
    let f = proved.faithful_are rows prompt in
    let t = proved.telling_are rows prompt in
    let a = proved.allowed_are rows prompt in
    let p = all_paired s proved rows prompt in
    let h = proved.heard_are rows prompt in
    let w = proved.written_are rows prompt in
    let d = rows_attended s proved.attended_are rows prompt in
    λ i. f i && (t i && (a i && (p i && (h i && (w i && d i)))))
