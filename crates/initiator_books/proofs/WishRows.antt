-- What an initiator wants goes on row by row.
use Rattle.std.proofs.Common.{ℕ, suc, zero, ◌≡◌, ◌<◌, Bool, true, false, List, [], ◌∷◌, ◌∙◌, refl, sym, subst, Option}
use Rattle.std.proofs.Common.{Some, None}
use Rattle.std.specs.Prelude.{if◌then◌else◌, not, ◌&&◌, is_none, replicate}
use Rattle.bus_base.specs.declared.Event.{Event}
use Rattle.bus_trace.specs.declared.Row.{Row}
use Rattle.bus_trace.specs.declared.connection.Connection.{Connection}
use Rattle.bus_trace.specs.declared.selection.Call.{Call}
use Rattle.bus_trace.specs.Changes.{rises, falls, change_of}
use Rattle.bus_trace.specs.Terms.{call, call_goes_on, connection}
use Rattle.scenario.specs.Value.{ScenarioValue}
use Rattle.story_model.specs.BusState.{RowReading, row_reading}
use Rattle.story_model.specs.Items.{Item}
use Rattle.story_model.specs.Story.{Story, story_after_events}
use Rattle.story_model.specs.TraceHistory.{aim_of, retries_of, story_with_aim, story_after_calling, story_on_free_bus}
use Rattle.story_model.specs.TraceHistory.{story_on_bus, story_by_change}
use Rattle.story_model.proofs.StorySteps.{events_aims, calling_aims, begun_aims}
use Rattle.due_model.specs.dialogue_model.specs.Hearing.{hearing}
use Rattle.due_model.specs.RunSteps.{run_state, events_of_row}
use Rattle.due_model.specs.Sights.{hearing_of}
use Rattle.due_model.specs.Plain.{IsPlain, AreOfDevices}
use Rattle.initiator_books.specs.Books.{my_book, book_after_event}
use Rattle.initiator_books.specs.Wishes.{IsItemIf, Wish, IsWishBy, IsWishOf, AreAims, wish_by_change, book_after_events}
use Rattle.initiator_books.specs.Wishes.{wish_after}
use Rattle.initiator_books.proofs.BookSteps.{book_after}
use Rattle.initiator_books.proofs.Wishes.{IsItemLaw, IsCaller, HasInitiator, entered, kept_connected, change_wish}
use Rattle.array_model.specs.Seats.{is_initiator}

-- ---- events

events_book : (s : ScenarioValue) (b : Story) (dev : ℕ) (shown : List Event)
    → my_book s (story_after_events s b shown).sent dev ≡ book_after_events (my_book s b.sent dev) shown
events_book s b dev [] = refl
events_book s b dev (e ∷ shown) =
    book_after s (story_after_events s b shown) e dev ∙ (λ i. book_after_event (events_book s b dev shown i) e)

-- ---- what the devices last entered arbitration for

free_aims : (s : ScenarioValue) (b : Story) (d : RowReading) (row : Row) → row.dev < 8 → AreAims s b.aims
    → AreAims s (story_on_free_bus s b d row).aims
free_aims s b d row lt a = go (rises d.change.own.bsy d.change.next.bsy && not d.change.before.sel
    && is_none b.bus_state.connection) (falls d.change.before.sel d.change.after.sel)
  where
    go : (p q : Bool) → AreAims s
        (if p then story_with_aim s b row else if q then story_after_calling s b b.bus_state.call else b).aims
    go true q = entered s b.aims b.sent row.dev row.time a lt
    go false true = subst (λ (x : List (Option Item)). AreAims s x) (sym (calling_aims s b b.bus_state.call)) a
    go false false = a

change_aims : (s : ScenarioValue) (b : Story) (d : RowReading) (row : Row) → row.dev < 8 → AreAims s b.aims
    → AreAims s (story_by_change s b d row).aims
change_aims s b d row lt a = go d.change.after.rst
  where
    on_bus : (m n : Option Connection) → AreAims s (story_on_bus s b m n d row).aims
    on_bus None None = free_aims s b d row lt a
    on_bus None (Some n) = subst (λ (x : List (Option Item)). AreAims s x) (sym (begun_aims b n)) a
    on_bus (Some m) None = a
    on_bus (Some m) (Some n) =
        subst (λ (x : List (Option Item)). AreAims s x) (sym (kept_connected s b b.link d row).aims) a

    go : (q : Bool)
        → AreAims s (if q then record b { link = None } else story_on_bus s b b.bus_state.connection d.next d row).aims
    go true = a
    go false = on_bus b.bus_state.connection d.next

pub no_aim : (d : ℕ) → aim_of (replicate 8 None) d ≡ None
no_aim zero = refl
no_aim (suc zero) = refl
no_aim (suc (suc zero)) = refl
no_aim (suc (suc (suc zero))) = refl
no_aim (suc (suc (suc (suc zero)))) = refl
no_aim (suc (suc (suc (suc (suc zero))))) = refl
no_aim (suc (suc (suc (suc (suc (suc zero)))))) = refl
no_aim (suc (suc (suc (suc (suc (suc (suc zero))))))) = refl
no_aim (suc (suc (suc (suc (suc (suc (suc (suc d)))))))) = refl

pub aims_are : (s : ScenarioValue) (rows : List Row) → AreOfDevices rows → AreAims s (run_state s rows).story.aims
aims_are s [] h =
    record { eight = refl; own_items = λ d lt. subst (λ (x : Option Item). IsItemIf s d x) (sym (no_aim d)) tt }
aims_are s (row ∷ rows) h =
    let b : Story = (run_state s rows).story in
    let d : RowReading = row_reading b.bus_state row in
    subst (λ (x : List (Option Item)). AreAims s x)
    (sym (events_aims s (story_by_change s b d row) (events_of_row s rows row)))
    (change_aims s b d row h.0 (aims_are s rows h.1))

-- ---- callers

pub callers_are : (rows : List Row) → AreOfDevices rows → IsCaller (call rows)
callers_are [] h = tt
callers_are (row ∷ rows) h = go (not (change_of rows row).after.sel)
    (rises (change_of rows row).before.sel (change_of rows row).after.sel) (call rows) (callers_are rows h.1)
  where
    go : (p q : Bool) (c : Option Call) → IsCaller c
        → IsCaller (if p then None else if q then Some (record { caller = row.dev; at = row.time; calling = None })
        else call_goes_on c (change_of rows row) row)
    go true q c x = tt
    go false true c x = h.0
    go false false None x = tt
    go false false (Some c) x = x

-- ---- one row more

pub wish_goes_on : IsItemLaw → (s : ScenarioValue) (rows : List Row) (row : Row) (dev : ℕ) (w : Wish)
    → IsPlain s rows (run_state s rows) → IsPlain s (row ∷ rows) (run_state s (row ∷ rows))
    → hearing_of (run_state s rows) row (row_reading (run_state s rows).story.bus_state row) ≡ hearing rows row
    → AreOfDevices (row ∷ rows) → is_initiator s.hosts dev ≡ true → retries_of s.hosts dev < 255
    → dev < 8 → HasInitiator (connection (row ∷ rows)) → IsWishOf s dev rows w
    → IsWishOf s dev (row ∷ rows) (wish_after dev (retries_of s.hosts dev) (call rows) w (change_of rows row)
    (connection rows) (connection (row ∷ rows)) row.dev row.time (events_of_row s rows row))
wish_goes_on items s rows row dev w p q heard d host few lt ends h =
    let b : Story = (run_state s rows).story in
    let r : RowReading = row_reading b.bus_state row in
    let shown : List Event = events_of_row s rows row in
    let c : Story = story_by_change s b r row in
    let plain : Wish = wish_by_change dev (retries_of s.hosts dev) (call rows) w
    (change_of rows row) (connection rows) (connection (row ∷ rows)) row.dev row.time in
    let known : wish_by_change dev (retries_of s.hosts dev) b.bus_state.call w r.change
    b.bus_state.connection r.next row.dev row.time ≡ plain = λ i. wish_by_change dev (retries_of s.hosts dev)
    (p.call i) w (heard i).change (p.connection i) (q.connection i) row.dev row.time in
    let x : IsWishBy s dev c plain = subst (λ (z : Wish). IsWishBy s dev c z) known (change_wish items s b dev w r row
    host few (aims_are s rows d.1) lt d.0 (subst (λ (z : Option Call). IsCaller z) (sym p.call) (callers_are rows d.1))
    (subst (λ (z : Option Connection). HasInitiator z) (sym q.connection) ends) h) in
    record {
      book_is = (λ i. book_after_events (x.book_is i) shown) ∙ sym (events_book s c dev shown);
      aim_is = x.aim_is ∙ (λ i. aim_of (sym (events_aims s c shown) i) dev);
    }
