-- What an initiator wants of the bus, and since when, goes on row by row.
use Rattle.std.proofs.Common.{ℕ, ◌≡◌, ◌<◌, Bool, true, false, List, [], ◌∷◌, ◌∙◌, refl, sym, ap, subst, Option, Some}
use Rattle.std.proofs.Common.{None}
use Rattle.std.specs.Prelude.{if◌then◌else◌, not, ◌&&◌, ◌||◌, is_some, is_none}
use Rattle.bus_base.specs.declared.Event.{Event}
use Rattle.bus_trace.specs.declared.Row.{Row}
use Rattle.bus_trace.specs.declared.changes.Change.{Change}
use Rattle.bus_trace.specs.declared.connection.Connection.{Connection}
use Rattle.bus_trace.specs.declared.selection.Call.{Call}
use Rattle.bus_trace.specs.Changes.{rises, falls, change_of}
use Rattle.bus_trace.specs.Terms.{call, call_after, connection}
use Rattle.bus_lines.specs.declared.effect.RowEffect.{RowEffect}
use Rattle.bus_lines.specs.Effect.{effect}
use Rattle.scenario.specs.Value.{ScenarioValue}
use Rattle.story_model.specs.BusState.{row_reading}
use Rattle.story_model.specs.TraceHistory.{aim_of, retries_of}
use Rattle.due_model.specs.dialogue_model.specs.Hearing.{hearing}
use Rattle.due_model.specs.RunSteps.{run_state, events_of_row}
use Rattle.due_model.specs.Sights.{hearing_of}
use Rattle.due_model.specs.Plain.{IsPlain, AreOfDevices}
use Rattle.due_model.specs.Wants.{item_want_time, target_of}
use Rattle.story_model.specs.Items.{Item}
use Rattle.initiator_books.specs.Books.{BookValue, my_book, my_since}
use Rattle.initiator_books.specs.Wishes.{Wish, IsWishOf, is_entry, is_call_in_vain, book_after_try, wish_with_entry}
use Rattle.initiator_books.specs.Wishes.{wish_on_bus, wish_after, IsItemIf, target_by}
use Rattle.initiator_books.specs.Intents.{IntentValue, IsInitiator, IsIntentOf, is_news}
use Rattle.initiator_books.proofs.Books.{since_is}
use Rattle.initiator_books.proofs.Wishes.{IsItemLaw, HasInitiator}
use Rattle.initiator_books.specs.Mines.{nothing_sent}
use Rattle.initiator_books.proofs.WishRows.{no_aim, aims_are, wish_goes_on}
use Rattle.initiator_books.proofs.Foreign.{target_is}

-- A row without news changes nothing of it.
same_on_bus : (dev retries : ℕ) (called : Option Call) (w : Wish)
    (c : Change) (before after : Option Connection) (row_dev time : ℕ)
    → is_entry c before ≡ false → (is_none before && (is_some after || falls c.before.sel c.after.sel)) ≡ false
    → wish_on_bus dev retries called w c before after row_dev time ≡ w
same_on_bus dev retries called w c None None row_dev time x e = λ i. if x i then wish_with_entry dev w row_dev time
    else if e i then (if is_call_in_vain dev called then record w { book = book_after_try retries w.book w.aim } else w)
    else w
same_on_bus dev retries called w c None (Some n) row_dev time x e = cc
same_on_bus dev retries called w c (Some m) after row_dev time x e = refl

pub same_wish : (dev retries : ℕ) (called : Option Call) (w : Wish) (c : Change)
    (before after : Option Connection) (row_dev time : ℕ) (shown : List Event)
    → is_news c before after shown ≡ false → wish_after dev retries called w c before after row_dev time shown ≡ w
same_wish dev retries called w c before after row_dev time (x ∷ shown) e =
    busy (is_entry c before) (is_none before && (is_some after || falls c.before.sel c.after.sel)) e
  where
    busy : (p q : Bool) → (p || true || q) ≡ false
        → wish_after dev retries called w c before after row_dev time (x ∷ shown) ≡ w
    busy true q z = cc
    busy false q z = cc
same_wish dev retries called w c before after row_dev time [] e =
    go c.after.rst (left (is_entry c before) _ e) (right (is_entry c before) _ e)
  where
    left : (p q : Bool) → (p || false || q) ≡ false → p ≡ false
    left true q z = cc
    left false q z = refl

    right : (p q : Bool) → (p || false || q) ≡ false → q ≡ false
    right true q z = cc
    right false q z = z

    go : (q : Bool) → is_entry c before ≡ false
        → (is_none before && (is_some after || falls c.before.sel c.after.sel)) ≡ false
        → (if q then w else wish_on_bus dev retries called w c before after row_dev time) ≡ w
    go true x y = refl
    go false x y = same_on_bus dev retries called w c before after row_dev time x y

pub intent_starts : (s : ScenarioValue) (v : IntentValue)
    → v.wish ≡ (let w : Wish = record { book = my_book s nothing_sent v.dev; aim = None } in w) → v.call ≡ None
    → v.since ≡ my_since v.wish.book → v.callee ≡ target_by v.wish.book v.wish.aim → IsIntentOf s [] v
intent_starts s v w c n t = record {
  wish_is =
      subst (λ (z : Wish). IsWishOf s v.dev [] z) (sym w) (record { book_is = refl; aim_is = sym (no_aim v.dev) });
  call_is = c;
  since_is = n;
  callee_is = t;
}

pub intent_goes_on : IsItemLaw
    → (s : ScenarioValue) (rows : List Row) (row : Row) (v w : IntentValue) (e : RowEffect) (shown : List Event)
    → w.dev ≡ v.dev → w.wish ≡ wish_after v.dev v.retries v.call v.wish e.change e.before e.after row.dev row.time shown
    → w.call ≡ call_after v.call e.change row
    → w.since ≡ (if is_news e.change e.before e.after shown then my_since w.wish.book else v.since)
    → w.callee ≡ (if is_news e.change e.before e.after shown then target_by w.wish.book w.wish.aim else v.callee)
    → e ≡ effect (row ∷ rows) → IsPlain s rows (run_state s rows) → IsPlain s (row ∷ rows) (run_state s (row ∷ rows))
    → hearing_of (run_state s rows) row (row_reading (run_state s rows).story.bus_state row) ≡ hearing rows row
    → AreOfDevices (row ∷ rows) → HasInitiator (connection (row ∷ rows)) → IsInitiator s v.dev v.retries
    → shown ≡ events_of_row s rows row → IsIntentOf s rows v → IsIntentOf s (row ∷ rows) w
intent_goes_on items s rows row v w e shown dev wish called since callee is p q heard d ends i told h =
    let few : retries_of s.hosts v.dev < 255 = subst (λ (n : ℕ). n < 255) i.retries_are i.few in
    let x = wish_goes_on items s rows row v.dev v.wish p q heard d i.is_one few i.below ends h.wish_is in
    let y : wish_after v.dev (retries_of s.hosts v.dev) (call rows) v.wish (change_of rows row)
    (connection rows) (connection (row ∷ rows)) row.dev row.time (events_of_row s rows row) ≡ w.wish =
    (λ j. wish_after v.dev (sym i.retries_are j) (sym h.call_is j) v.wish (sym is j).change
    (sym is j).before (sym is j).after row.dev row.time (sym told j)) ∙ sym wish in
    record {
      wish_is = subst (λ (z : ℕ). IsWishOf s z (row ∷ rows) w.wish) (sym dev)
          (subst (λ (z : Wish). IsWishOf s v.dev (row ∷ rows) z) y x);
      call_is = called ∙ (λ j. call_after (h.call_is j) (is j).change row);
      since_is = go (is_news e.change e.before e.after shown) refl since;
      callee_is = to (is_news e.change e.before e.after shown) refl callee;
    }
  where
    unchanged : is_news e.change e.before e.after shown ≡ false → v.wish ≡ w.wish
    unchanged n =
        sym (same_wish v.dev v.retries v.call v.wish e.change e.before e.after row.dev row.time shown n) ∙ sym wish

    go : (q : Bool) → is_news e.change e.before e.after shown ≡ q
        → w.since ≡ (if q then my_since w.wish.book else v.since) → w.since ≡ my_since w.wish.book
    go true n x = x
    go false n x = x ∙ h.since_is ∙ (λ j. my_since (unchanged n j).book)

    to : (q : Bool) → is_news e.change e.before e.after shown ≡ q
        → w.callee ≡ (if q then target_by w.wish.book w.wish.aim else v.callee)
        → w.callee ≡ target_by w.wish.book w.wish.aim
    to true n x = x
    to false n x = x ∙ h.callee_is ∙ (λ j. target_by (unchanged n j).book (unchanged n j).aim)

-- A row in a connection that shows no event changes nothing of it but the call that stands.
no_news : (c : Change) (before after : Option Connection) → is_some before ≡ true → is_news c before after [] ≡ false
no_news c None after h = cc
no_news c (Some m) after h = go (rises c.own.bsy c.next.bsy) c.before.sel
  where
    go : (up sel : Bool) → ((up && not sel && false) || false || false) ≡ false
    go true true = refl
    go true false = refl
    go false sel = refl

pub intent_stays : IsItemLaw → (s : ScenarioValue) (rows : List Row) (row : Row) (v w : IntentValue) (e : RowEffect)
    → w ≡ record v { call = call_after v.call e.change row } → e ≡ effect (row ∷ rows)
    → is_some (connection rows) ≡ true → [] ≡ events_of_row s rows row
    → IsPlain s rows (run_state s rows) → IsPlain s (row ∷ rows) (run_state s (row ∷ rows))
    → hearing_of (run_state s rows) row (row_reading (run_state s rows).story.bus_state row) ≡ hearing rows row
    → AreOfDevices (row ∷ rows) → HasInitiator (connection (row ∷ rows)) → IsInitiator s v.dev v.retries
    → IsIntentOf s rows v → IsIntentOf s (row ∷ rows) w
intent_stays items s rows row v w e same is stands none p q heard d ends i h =
    subst (λ (z : IntentValue). IsIntentOf s (row ∷ rows) z) (sym same)
    (intent_goes_on items s rows row v (record v { call = call_after v.call e.change row }) e [] refl
    (sym (same_wish v.dev v.retries v.call v.wish e.change e.before e.after row.dev row.time [] quiet))
    refl
    (λ j. if sym quiet j then my_since v.wish.book else v.since)
    (λ j. if sym quiet j then target_by v.wish.book v.wish.aim else v.callee)
    is p q heard d ends i none h)
  where
    quiet : is_news e.change e.before e.after [] ≡ false
    quiet = no_news e.change e.before e.after ((λ j. is_some (is j).before) ∙ stands)

pub wants_since : (s : ScenarioValue) (rows : List Row) (v : IntentValue) → IsIntentOf s rows v
    → v.since ≡ item_want_time s (run_state s rows).story.sent v.dev
wants_since s rows v h =
    h.since_is ∙ ap (λ (b : BookValue). my_since b) h.wish_is.book_is ∙ since_is s (run_state s rows).story.sent v.dev

pub callee_told : (s : ScenarioValue) (rows : List Row) (v : IntentValue) → AreOfDevices rows → v.dev < 8
    → IsIntentOf s rows v → v.callee ≡ target_of s (aim_of (run_state s rows).story.aims v.dev)
callee_told s rows v d lt h = h.callee_is ∙ (λ j. target_by (h.wish_is.book_is j) v.wish.aim)
    ∙ target_is s (run_state s rows).story.sent v.dev v.wish.aim
    (subst (λ (x : Option Item). IsItemIf s v.dev x) (sym h.wish_is.aim_is) ((aims_are s rows d).own_items v.dev lt))
    ∙ (λ j. target_of s (h.wish_is.aim_is j))
