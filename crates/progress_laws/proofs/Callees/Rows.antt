-- What each device calls for changes as a device enters arbitration, and else never.
use Rattle.progress_laws.proofs
use proofs.Names.{inl, inr, ℕ, zero, suc, ◌≡◌, ◌⊎◌, ◌<◌, Bool, true, false, ◌∙◌, List, [], ◌∷◌, length, Option, Some}
use proofs.Names.{None, refl, ap, arith, if◌then◌else◌, slice_set, falls, Row, Connection, ScenarioValue, calling_aims}
use proofs.Names.{begun_aims, events_aims, RowReading, row_reading, row_events_by, Item, Story, aim_of}
use proofs.Names.{is_arbitration_entry, story_with_aim, story_after_calling, story_on_free_bus, story_on_bus}
use proofs.Names.{story_by_change, RunState, run_state, connected_aims}

-- ---- a row

-- They stay, or the device of the row enters.
abbrev IsAims : ScenarioValue → Story → Row → List (Option Item) → Type 0
IsAims s b row x = (x ≡ b.aims) ⊎ (x ≡ (story_with_aim s b row).aims)

free_aims : (s : ScenarioValue) (b : Story) (d : RowReading) (row : Row)
    → IsAims s b row (story_on_free_bus s b d row).aims
free_aims s b d row = go (is_arbitration_entry b d) (falls d.change.before.sel d.change.after.sel)
  where
    go : (q r : Bool) → IsAims s b row
        (if q then story_with_aim s b row else if r then story_after_calling s b b.bus_state.call else b).aims
    go true r = inr refl
    go false true = inl (calling_aims s b b.bus_state.call)
    go false false = inl refl

bus_aims : (s : ScenarioValue) (b : Story) (m o : Option Connection) (d : RowReading) (row : Row)
    → IsAims s b row (story_on_bus s b m o d row).aims
bus_aims s b None None d row = free_aims s b d row
bus_aims s b None (Some n) d row = inl (begun_aims b n)
bus_aims s b (Some m) None d row = inl refl
bus_aims s b (Some m) (Some n) d row = inl (connected_aims s b b.link d row)

change_aims : (s : ScenarioValue) (b : Story) (d : RowReading) (row : Row)
    → IsAims s b row (story_by_change s b d row).aims
change_aims s b d row = go d.change.after.rst
  where
    go : (q : Bool) → IsAims s b row
        (if q then record b { link = None } else story_on_bus s b b.bus_state.connection d.next d row).aims
    go true = inl refl
    go false = bus_aims s b b.bus_state.connection d.next d row

-- What the row changes of the bus changes them alone.
pub aims_by_change : (s : ScenarioValue) (p : List Row) (row : Row) → (run_state s (row ∷ p)).story.aims
    ≡ (story_by_change s (run_state s p).story (row_reading (run_state s p).story.bus_state row) row).aims
aims_by_change s p row =
    let k : RunState = run_state s p in
    let d : RowReading = row_reading k.story.bus_state row in
    events_aims s (story_by_change s k.story d row) (row_events_by s k.story d row)

-- ---- there is one for each of the eight devices

set_length : (xs : List (Option Item)) (at : ℕ) (x : Option Item) → length (slice_set xs at x) ≡ length xs
set_length [] at x = refl
set_length (y ∷ xs) zero x = refl
set_length (y ∷ xs) (suc at) x = ap suc (set_length xs at x)

pub eight_aims : (s : ScenarioValue) (p : List Row) → length (run_state s p).story.aims ≡ 8
eight_aims s [] = refl
eight_aims s (row ∷ p) = ap (λ (x : List (Option Item)). length x) (aims_by_change s p row)
    ∙ go (change_aims s (run_state s p).story (row_reading (run_state s p).story.bus_state row) row) ∙ eight_aims s p
  where
    go : IsAims s (run_state s p).story row
        (story_by_change s (run_state s p).story (row_reading (run_state s p).story.bus_state row) row).aims
        → length (story_by_change s (run_state s p).story (row_reading (run_state s p).story.bus_state row) row).aims
        ≡ length (run_state s p).story.aims
    go (inl e) = ap (λ (x : List (Option Item)). length x) e
    go (inr e) = ap (λ (x : List (Option Item)). length x) e ∙ set_length (run_state s p).story.aims row.dev _

-- ---- the one of the device that enters, and those of the others

pub own_aim : (xs : List (Option Item)) (at : ℕ) (x : Option Item) → at < length xs → aim_of (slice_set xs at x) at ≡ x
own_aim [] at x lt = absurd (omega arith)
own_aim (y ∷ xs) zero x lt = refl
own_aim (y ∷ xs) (suc at) x lt = own_aim xs at x (omega arith)
