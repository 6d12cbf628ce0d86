-- A row that resets, or in which no connection of a target stands while RST is false.
use Rattle.std.proofs.Common.{ℕ, ◌≡◌, ◌∙◌, Bool, true, false, List, [], ◌∷◌, refl, sym, subst, Option, Some, None}
use Rattle.std.specs.Prelude.{if◌then◌else◌}
use Rattle.bus_base.specs.declared.Event.{Event}
use Rattle.bus_base.specs.declared.Event.TheVariants as events
use Rattle.bus_base.specs.declared.ProcId.{ProcId}
use Rattle.bus_trace.specs.declared.Row.{Row}
use Rattle.bus_trace.specs.declared.connection.Connection.{Connection}
use Rattle.bus_trace.specs.Changes.{rises}
use Rattle.bus_trace.specs.Trace.{bus}
use Rattle.scenario.specs.Value.{ScenarioValue}
use Rattle.array_model.specs.SoundArray.{HasSeats}
use Rattle.due_model.specs.story_model.specs.BusState.{RowReading, row_reading}
use Rattle.due_model.specs.Plain.{AreOfDevices, IsPlain}
use Rattle.due_model.specs.RunState.{RunState}
use Rattle.due_model.specs.RunSteps.{run_state, events_of_row}
use Rattle.due_model.specs.Telling.{telling}
use Rattle.target_course.specs.States.{IsOwnConnection}
use Rattle.target_course.proofs.ReplyRows.{Shape, shown_of}
use Rattle.target_course.proofs.ReplyRows as shapes
use Rattle.disk_target.specs.Processes.{ProcessesState, AreOutside}
use Rattle.disk_target.specs.Targets.{AreTied}
use Rattle.disk_target.specs.Turns.{AreAttendedOf, AreAttendedOn, is_reset}
use Rattle.disk_target.proofs.RowOutside.{outside_row}
use Rattle.disk_target.proofs.RowServed.{before_own}
use Rattle.disk_target.proofs.RowShapes.{ShowsIn, nothing, turned, lost, aborted, ended, none_shown, reset_is}
use Rattle.disk_target.proofs.RowShapes.{row_shows}
use Rattle.disk_target.proofs.UnitRows.{stays}

pub record Resets (s : ScenarioValue) (rows : List Row) (row : Row) : Type 0 where
  pub shown : events_of_row s rows row ≡ events.Reset row.dev ∷ []
  pub rst : (row_reading (run_state s rows).story.bus_state row).change.after.rst ≡ true

shape_none : (i : ProcId) (x : Shape) → is_reset (shown_of i x) ≡ false
shape_none i shapes.nothing = refl
shape_none i shapes.accepts = refl
shape_none i shapes.refuses = refl
shape_none i shapes.runs = refl
shape_none i (shapes.fails code) = refl
shape_none i shapes.accepts_and_runs = refl

pub resets : (s : ScenarioValue) (rows : List Row) (row : Row) → telling s (row ∷ rows) ≡ true
    → is_reset (events_of_row s rows row) ≡ true → Resets s rows row
resets s rows row e is = go d.change.after.rst refl
  where
    k : RunState
    k = run_state s rows

    d : RowReading
    d = row_reading k.story.bus_state row

    never : (shown : List Event) → events_of_row s rows row ≡ shown → is_reset shown ≡ false → Resets s rows row
    never shown f g = let bad : false ≡ true = sym g ∙ sym (λ i. is_reset (f i)) ∙ is in absurd cc

    rising : (y : Bool) → rises d.change.own.rst d.change.next.rst ≡ y → d.change.after.rst ≡ true → Resets s rows row
    rising true g r =
        record { shown = reset_is s rows row r ∙ (λ i. if g i then events.Reset row.dev ∷ [] else []); rst = r }
    rising false g r = never [] (reset_is s rows row r ∙ (λ i. if g i then events.Reset row.dev ∷ [] else [])) refl

    by : (n : Connection) → ShowsIn s k d n (events_of_row s rows row) → Resets s rows row
    by n (nothing f) = never [] f refl
    by n (turned i x g f b st ch t) = never (shown_of i x) f (shape_none i x)
    by n (lost i g f st) = never (events.Lost i ∷ []) f refl
    by n (aborted unit what f st) = never (events.Aborted n.initiator n.target unit what ∷ []) f refl
    by n (ended i status f st) = never (events.End i status ∷ []) f refl

    calm : d.change.after.rst ≡ false → (x : Option Connection) → k.story.bus_state.connection ≡ x → Resets s rows row
    calm r None x = never [] (none_shown s rows row e r x) refl
    calm r (Some n) x = by n (row_shows s rows row n e r x)

    go : (y : Bool) → d.change.after.rst ≡ y → Resets s rows row
    go true r = rising (rises d.change.own.rst d.change.next.rst) refl r
    go false r = calm r k.story.bus_state.connection refl

pub outside_on : (s : ScenarioValue) (rows : List Row) (row : Row) (dev : ℕ) (v : ProcessesState)
    → ((before : List Row) → AreOfDevices before → IsPlain s before (run_state s before)) → AreOfDevices (row ∷ rows)
    → HasSeats s → AreTied s (row ∷ rows) → ((n : Connection) → IsOwnConnection rows dev n → (bus rows).rst ≡ true)
    → is_reset (events_of_row s rows row) ≡ false → AreAttendedOf s rows dev v → AreAttendedOn s rows row dev v
outside_on s rows row dev v plain d seats tied away none h = record {
  dev_is = h.dev_is;
  kept = stays s rows row v.units seats tied.allowed_are (subst (λ (n : ℕ). AreOutside s n (events_of_row s rows row))
      (sym h.dev_is) (outside_row s rows row dev plain d tied away none)) h.kept;
  standing = λ m x n p own calm is.
      let before = before_own s rows row dev m n (plain rows d.1) (plain (row ∷ rows) d) tied.heard_are x own calm in
      let bad : true ≡ false = sym (away m before.0) ∙ before.1 in
      absurd cc;
}
