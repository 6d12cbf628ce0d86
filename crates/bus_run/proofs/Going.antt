-- A run goes on by a row.
use Rattle.std.proofs.Common.{ℕ, ◌≡◌, ◌<◌, ◌≤◌, ◌^◌, List, ◌∷◌, ◌++◌, Option, Some, drop, length, sym, ap, subst, ◌∙◌}
use Rattle.std.proofs.Common.{arith}
use Rattle.std.specs.Prelude.{if◌then◌else◌}
use Rattle.bus_base.specs.declared.Event.{Event}
use Rattle.bus_trace.specs.declared.Row.{Row}
use Rattle.bus_trace.specs.Terms.{is_fault}
use Rattle.scenario.specs.declared.value.FaultDef.{FaultDef}
use Rattle.scenario.specs.Value.{ScenarioValue}
use Rattle.due_model.specs.dialogue_model.specs.Observer.{ObserverValue, IsObserverOf}
use Rattle.due_model.specs.Next.{next, IsPrompt}
use Rattle.due_model.specs.Plain.{AreOfDevices}
use Rattle.due_model.specs.RunSteps.{run_state}
use Rattle.bus_laws.specs.scsi_device.specs.Lines.{FitsBus}
use Rattle.bus_run.specs.Away.{IsAwayIf}
use Rattle.bus_run.specs.Places.{AreIn}
use Rattle.bus_run.specs.Runs.{AreEarly}
use Rattle.bus_run.specs.Seams.{SeamsHold}
use Rattle.bus_run.specs.Seen.{AreSeen}
use Rattle.bus_run.specs.Shown.{events_shown}
use Rattle.bus_run.specs.declared.away.Away.{Away}

-- These rows are the prompt trace so far, with these devices, faults and events, the newest first; and this is known of
-- the devices that are no ends of a connection.
pub record IsGoing {D : Type 0} (IsOf : ScenarioValue → List Row → ℕ → D → Type 0) (s : ScenarioValue) (rows : List Row)
    (places : List (Option D)) (faults : List FaultDef) (history : List Event) (away : Option Away) : Type 0 where
  pub prompt : IsPrompt s rows
  pub devices : AreIn IsOf s rows places
  pub pending : faults ≡ (run_state s rows).faults
  pub told : history ≡ (run_state s rows).story.history
  pub known : IsAwayIf s rows away

pub seen : (s : ScenarioValue) (rows : List Row) (o : ObserverValue) → FitsBus s → SeamsHold s → IsPrompt s rows
    → IsObserverOf rows o → AreOfDevices rows → length rows < 2 ^ 32 → AreEarly rows → AreSeen s rows o
seen s rows o f h p v d few early =
    record { fits = f; observed = v; devices = d; few = few; early = early; tied = h rows p few }

pub goes_on : {D : Type 0} → (IsOf : ScenarioValue → List Row → ℕ → D → Type 0) (s : ScenarioValue)
    (rows new : List Row) (row : Row) (places : List (Option D)) (faults : List FaultDef) (history : List Event)
    (others : List (Option D)) (more : List FaultDef) (shown longer : List Event) (was away : Option Away)
    → new ≡ row ∷ rows → IsGoing IsOf s rows places faults history was → next s rows ≡ Some row
    → AreIn IsOf s (row ∷ rows) others → more ≡ (if is_fault row.kind then drop 1 faults else faults)
    → shown ≡ events_shown s rows row → longer ≡ shown ++ history → IsAwayIf s (row ∷ rows) away
    → IsGoing IsOf s new others more longer away
goes_on {D} IsOf s rows new row places faults history others more shown longer was away e i n p f h l w =
    subst (λ (r : List Row). IsGoing IsOf s r others more longer away) (sym e)
    (record {
      prompt = (i.prompt, n);
      devices = p;
      pending = f ∙ ap (λ (xs : List FaultDef). if is_fault row.kind then drop 1 xs else xs) i.pending;
      told = l ∙ (λ j. h j ++ i.told j);
      known = w;
    })

pub observed_on : (rows new : List Row) (row : Row) (o : ObserverValue) → new ≡ row ∷ rows → IsObserverOf (row ∷ rows) o
    → IsObserverOf new o
observed_on rows new row o e h = subst (λ (r : List Row). IsObserverOf r o) (sym e) h

pub devices_on : (rows new : List Row) (row : Row) → new ≡ row ∷ rows → row.dev < 8 → AreOfDevices rows
    → AreOfDevices new
devices_on rows new row e d h = subst (λ (r : List Row). AreOfDevices r) (sym e) (d, h)

pub early_on : (rows new : List Row) (row : Row) → new ≡ row ∷ rows → row.time < 2 ^ 62 → AreEarly rows → AreEarly new
early_on rows new row e t h = subst (λ (r : List Row). AreEarly r) (sym e) (t, h)

pub too_late : (s : ScenarioValue) (rows : List Row) (row : Row) → AreEarly (row ∷ rows) → 2 ^ 62 ≤ row.time → ⊥
too_late s rows row e le = let early : row.time < 2 ^ 62 = e.0 in omega arith
