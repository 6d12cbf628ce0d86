-- What an initiator wants of the bus after some rows, and since when.
use Rattle.std.specs.Prelude.{ℕ, ◌≡◌, ◌<◌, Bool, true, false, not, ◌&&◌, ◌||◌, List, Option, Some, None, is_some}
use Rattle.std.specs.Prelude.{is_none}
use Rattle.bus_base.specs.declared.Event.{Event}
use Rattle.bus_trace.specs.declared.Row.{Row}
use Rattle.bus_trace.specs.declared.changes.Change.{Change}
use Rattle.bus_trace.specs.declared.connection.Connection.{Connection}
use Rattle.bus_trace.specs.declared.selection.Call.{Call}
use Rattle.bus_trace.specs.Changes.{falls}
use Rattle.bus_trace.specs.Terms.{call}
use Rattle.bus_lines.specs.declared.effect.RowEffect.{RowEffect}
use Rattle.scenario.specs.Value.{ScenarioValue}
use Rattle.story_model.specs.TraceHistory.{aim_of, retries_of}
use Rattle.due_model.specs.RunSteps.{run_state, is_for_process}
use Rattle.initiator_books.specs.declared.mine.OwnItem.{OwnItem}
use Rattle.initiator_books.specs.declared.mine.OwnItem.TheVariants as own
use Rattle.initiator_books.specs.Books.{my_since}
use Rattle.initiator_books.specs.Wishes.{Wish, IsWishOf, is_entry, target_by, wish_after}
use Rattle.due_model.specs.dialogue_model.specs.Events.{is_empty}
use Rattle.array_model.specs.Seats.{is_initiator}

pub record IntentValue : Type 0 where
  pub dev : ℕ
  -- how often it tries again
  pub retries : ℕ
  pub wish : Wish
  -- the call that stands; since when it wants to send something; and the target of what it last entered arbitration for
  pub call : Option Call
  pub since : Option ℕ
  pub callee : Option ℕ

-- The scenario has this initiator.
pub record IsInitiator (s : ScenarioValue) (dev retries : ℕ) : Type 0 where
  pub below : dev < 8
  pub is_one : is_initiator s.hosts dev ≡ true
  pub retries_are : retries ≡ retries_of s.hosts dev
  pub few : retries < 255

pub record IsIntentOf (s : ScenarioValue) (rows : List Row) (v : IntentValue) : Type 0 where
  pub wish_is : IsWishOf s v.dev rows v.wish
  pub call_is : v.call ≡ call rows
  pub since_is : v.since ≡ my_since v.wish.book
  pub callee_is : v.callee ≡ target_by v.wish.book v.wish.aim

-- A row may change what it wants: it shows events, a connection begins, or SEL falls on a free bus, or a device enters
-- arbitration.
abbrev pub is_news : Change → Option Connection → Option Connection → List Event → Bool
is_news c before after shown =
    is_entry c before || not (is_empty shown) || (is_none before && (is_some after || falls c.before.sel c.after.sel))

-- What it wants after a row that did this.
abbrev pub news_in : RowEffect → List Event → Bool
news_in e shown = is_news e.change e.before e.after shown

abbrev pub wish_next : IntentValue → RowEffect → Row → List Event → Wish
wish_next v e row shown = wish_after v.dev v.retries v.call v.wish e.change e.before e.after row.dev row.time shown

-- It last entered arbitration for a process, and not for an abort.
abbrev pub is_for_own_process : Option OwnItem → Bool
is_for_own_process None = false
is_for_own_process (Some (own.Command n)) = true
is_for_own_process (Some (own.Sense n)) = true
is_for_own_process (Some (own.Abort n)) = false

-- What the initiator last entered arbitration for is a process.
abbrev pub aims_at_process : ScenarioValue → List Row → ℕ → Bool
aims_at_process s rows dev = is_for_process (aim_of (run_state s rows).story.aims dev)
