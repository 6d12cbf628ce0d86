-- What a row does, by the observer and by what is kept; and who shows its events.
use Rattle.std.proofs.Common.{ℕ, ◌≡◌, Bool, true, false, List, [], ◌∷◌, Option, Some, None, refl, sym, ap, subst, ◌∙◌}
use Rattle.std.specs.Prelude.{◌&&◌, ◌||◌, is_some, if◌then◌else◌}
use Rattle.std.proofs.lemmas.Bool.{and_parts, true≢false}
use Rattle.bus_base.specs.declared.Event.{Event}
use Rattle.bus_trace.specs.declared.Row.{Row}
use Rattle.bus_trace.specs.declared.changes.Change.{Change}
use Rattle.bus_trace.specs.declared.connection.Connection.{Connection}
use Rattle.bus_trace.specs.Changes.{change_of}
use Rattle.bus_trace.specs.Terms.{connection}
use Rattle.scenario.specs.Value.{ScenarioValue}
use Rattle.due_model.specs.dialogue_model.specs.declared.exchange.Hearing.{Hearing}
use Rattle.due_model.specs.dialogue_model.specs.Hearing.{hearing}
use Rattle.due_model.specs.dialogue_model.specs.Observer.{ObserverValue}
use Rattle.due_model.specs.dialogue_model.specs.Events.{is_empty}
use Rattle.due_model.specs.Plain.{IsPlain}
use Rattle.due_model.specs.RunSteps.{run_state}
use Rattle.due_model.specs.Sights.{hearing_of}
use Rattle.due_model.specs.Telling.{telling, is_true_telling, events_of_ends, events_of_ends_in, target_events}
use Rattle.due_model.specs.Telling.{initiator_events}
use Rattle.bus_laws.specs.scsi_device.specs.Heard.{instructions}
use Rattle.bus_laws.specs.scsi_device.specs.Writes.{writers}
use Rattle.disk_target.specs.Attended.{attended, is_attended, is_attended_if, is_attended_row, is_attended_in}
use Rattle.disk_target.specs.Attended.{is_calm_turn}
use Rattle.bus_run.specs.Places.{IsIn}
use Rattle.bus_run.specs.Seams.{seams}
use Rattle.bus_run.specs.Seen.{AreSeen}
use Rattle.bus_run.specs.Shown.{reading, events_shown, is_left, teller, reset_events}
use Rattle.bus_run.proofs.Seams.{tied, is_attended_after}
use Rattle.due_model.proofs.SameEvents.{events_are}
use Rattle.due_model.specs.dialogue_model.proofs.Leavings.{empty_is}

-- What the rows say of a row is what is kept of it.
pub record IsRead (s : ScenarioValue) (rows : List Row) (row : Row) : Type 0 where
  pub change : change_of rows row ≡ (reading s rows row).change
  pub after : connection (row ∷ rows) ≡ (reading s rows row).next
  pub before : (run_state s rows).story.bus_state.connection ≡ connection rows

pub read : (s : ScenarioValue) (rows : List Row) (row : Row)
    → IsPlain s rows (run_state s rows) → IsPlain s (row ∷ rows) (run_state s (row ∷ rows))
    → hearing_of (run_state s rows) row (reading s rows row) ≡ hearing rows row → IsRead s rows row
read s rows row p q h = record {
  change = ap (λ (w : Hearing). w.change) (sym h);
  after = sym q.connection;
  before = p.connection;
}

-- The events that the two ends show are those of the row.
ends_shown : (s : ScenarioValue) (rows : List Row) (row : Row) → seams s (row ∷ rows) ≡ true
    → events_of_ends s (run_state s rows) row (reading s rows row) ≡ events_shown s rows row
ends_shown s rows row e = events_are _ _ (and_parts (telling s rows)
    (is_true_telling s (run_state s rows) row (reading s rows row)) (tied s (row ∷ rows) e).telling_are).1

by_rst : (s : ScenarioValue) (rows : List Row) (row : Row) (q : Bool)
    → (reading s rows row).change.after.rst ≡ q → seams s (row ∷ rows) ≡ true
    → (if q then reset_events (reading s rows row).change row.dev
    else events_of_ends_in s (run_state s rows) (run_state s rows).story.bus_state.connection (reading s rows row))
    ≡ events_shown s rows row
by_rst s rows row q r e = ap (λ (x : Bool). if x then reset_events (reading s rows row).change row.dev
    else events_of_ends_in s (run_state s rows) (run_state s rows).story.bus_state.connection (reading s rows row))
    (sym r) ∙ ends_shown s rows row e

pub at_reset : (s : ScenarioValue) (rows : List Row) (row : Row) (shown : List Event)
    → IsRead s rows row → seams s (row ∷ rows) ≡ true → (change_of rows row).after.rst ≡ true
    → shown ≡ reset_events (change_of rows row) row.dev → shown ≡ events_shown s rows row
at_reset s rows row shown i e r h = h ∙ ap (λ (c : Change). reset_events c row.dev) i.change
    ∙ by_rst s rows row true (ap (λ (c : Change). c.after.rst) (sym i.change) ∙ r) e

pub without_connection : (s : ScenarioValue) (rows : List Row) (row : Row) → IsRead s rows row
    → seams s (row ∷ rows) ≡ true → (change_of rows row).after.rst ≡ false → connection rows ≡ None
    → [] ≡ events_shown s rows row
without_connection s rows row i e r n =
    ap (λ (o : Option Connection). events_of_ends_in s (run_state s rows) o (reading s rows row)) (sym (i.before ∙ n))
    ∙ by_rst s rows row false (ap (λ (c : Change). c.after.rst) (sym i.change) ∙ r) e

in_connection : (s : ScenarioValue) (rows : List Row) (row : Row) (n : Connection) (q : Bool)
    → IsRead s rows row → seams s (row ∷ rows) ≡ true → (change_of rows row).after.rst ≡ false
    → connection rows ≡ Some n → is_left (reading s rows row).change (reading s rows row).next ≡ q
    → (if q then target_events s (run_state s rows) n (is_some (reading s rows row).next)
    else initiator_events (run_state s rows) (run_state s rows).story.link (reading s rows row))
    ≡ events_shown s rows row
in_connection s rows row n q i e r h l =
    ap (λ (x : Bool). if x then target_events s (run_state s rows) n (is_some (reading s rows row).next)
    else initiator_events (run_state s rows) (run_state s rows).story.link (reading s rows row)) (sym l)
    ∙ ap (λ (o : Option Connection). events_of_ends_in s (run_state s rows) o (reading s rows row)) (sym (i.before ∙ h))
    ∙ by_rst s rows row false (ap (λ (c : Change). c.after.rst) (sym i.change) ∙ r) e

quiet_row : (a r w e t : Bool) → (a && (r || (if w then e else t))) ≡ true → r ≡ false → w ≡ true → e ≡ true
quiet_row true false true e t h x y = h
quiet_row true true w e t h x y = absurd (true≢false x)
quiet_row true false false e t h x y = absurd (true≢false (sym y))
quiet_row false r w e t h x y = absurd (true≢false (sym h))

pub after_reset : (s : ScenarioValue) (rows : List Row) (row : Row) → IsRead s rows row → seams s (row ∷ rows) ≡ true
    → (change_of rows row).before.rst ≡ true → (change_of rows row).after.rst ≡ false → [] ≡ events_shown s rows row
after_reset s rows row i e b r = go (connection rows) refl
  where
    attends : is_attended s (run_state s rows) row (reading s rows row) (instructions s rows) (writers s rows) ≡ true
    attends = (and_parts (attended s rows) (is_attended_after s rows row) (tied s (row ∷ rows) e).attended_are).1

    go : (o : Option Connection) → connection rows ≡ o → [] ≡ events_shown s rows row
    go None h = without_connection s rows row i e r h
    go (Some n) h =
        let in_one : is_attended_row s (run_state s rows) (reading s rows row) (instructions s rows) (writers s rows)
        (events_shown s rows row) n ≡ true = ap (λ (o : Option Connection). is_attended_if s (run_state s rows)
        (reading s rows row) (instructions s rows) (writers s rows) (events_shown s rows row) o) (sym (i.before ∙ h))
        ∙ attends in
        sym (empty_is (events_shown s rows row)
        (quiet_row (is_calm_turn (reading s rows row)) (reading s rows row).change.after.rst
        (reading s rows row).change.before.rst (is_empty (events_shown s rows row)) (is_attended_in s (run_state s rows)
        (reading s rows row) (instructions s rows) (writers s rows) (events_shown s rows row) n) in_one
        (ap (λ (c : Change). c.after.rst) (sym i.change) ∙ r) (ap (λ (c : Change). c.before.rst) (sym i.change) ∙ b)))

-- What a device in a place shows of a row.
pub record Shows {D : Type 0} (IsOf : ScenarioValue → List Row → ℕ → D → Type 0) (o : ObserverValue) (place : Option D)
    (shown : List Event) : Type 0 where
  pub target : (s : ScenarioValue) (rows : List Row) (row : Row) (n : Connection) → AreSeen s (row ∷ rows) o
      → IsIn IsOf s rows n.target place → (reading s rows row).change.before.rst ≡ false
      → (reading s rows row).change.after.rst ≡ false → connection rows ≡ Some n
      → is_left (reading s rows row).change (reading s rows row).next ≡ true
      → shown ≡ target_events s (run_state s rows) n (is_some (reading s rows row).next)
  pub initiator : (s : ScenarioValue) (rows : List Row) (row : Row) (n : Connection) → AreSeen s (row ∷ rows) o
      → IsIn IsOf s rows n.initiator place → (reading s rows row).change.before.rst ≡ false
      → (reading s rows row).change.after.rst ≡ false → connection rows ≡ Some n
      → is_left (reading s rows row).change (reading s rows row).next ≡ false
      → shown ≡ initiator_events (run_state s rows) (run_state s rows).story.link (reading s rows row)

pub teller_shows : {D : Type 0} → (IsOf : ScenarioValue → List Row → ℕ → D → Type 0) (s : ScenarioValue)
    (rows : List Row) (row : Row) (n : Connection) (o : ObserverValue) (place : Option D) (dev : ℕ) (shown : List Event)
    → AreSeen s (row ∷ rows) o → IsRead s rows row → (change_of rows row).before.rst ≡ false
    → (change_of rows row).after.rst ≡ false → connection rows ≡ Some n
    → dev ≡ teller n (change_of rows row) (connection (row ∷ rows)) → IsIn IsOf s rows dev place
    → Shows IsOf o place shown → shown ≡ events_shown s rows row
teller_shows {D} IsOf s rows row n o place dev shown a i b r h t p w =
    go (is_left (reading s rows row).change (reading s rows row).next) refl
  where
    was : (reading s rows row).change.before.rst ≡ false
    was = ap (λ (c : Change). c.before.rst) (sym i.change) ∙ b

    rst : (reading s rows row).change.after.rst ≡ false
    rst = ap (λ (c : Change). c.after.rst) (sym i.change) ∙ r

    at : dev ≡ teller n (reading s rows row).change (reading s rows row).next
    at = t ∙ (λ j. teller n (i.change j) (i.after j))

    here : (q : Bool) → is_left (reading s rows row).change (reading s rows row).next ≡ q
        → IsIn IsOf s rows (if q then n.target else n.initiator) place
    here q l =
        subst (λ (d : ℕ). IsIn IsOf s rows d place) (at ∙ ap (λ (x : Bool). if x then n.target else n.initiator) l) p

    go : (q : Bool) → is_left (reading s rows row).change (reading s rows row).next ≡ q
        → shown ≡ events_shown s rows row
    go true l = w.target s rows row n a (here true l) was rst h l ∙ in_connection s rows row n true i a.tied r h l
    go false l = w.initiator s rows row n a (here false l) was rst h l ∙ in_connection s rows row n false i a.tied r h l
