-- What an initiator wants of the bus, and what each row does to that.
use Rattle.std.specs.Prelude.{ℕ, ◌≡◌, ◌<◌, Bool, true, false, not, length, ◌&&◌, ◌==◌, List, [], ◌∷◌, Option, Some}
use Rattle.std.specs.Prelude.{None, is_none, nat_lt, ⊤, if◌then◌else◌}
use Rattle.std.specs.List.{list_any}
use Rattle.bus_base.specs.declared.Event.{Event}
use Rattle.bus_trace.specs.declared.changes.Change.{Change}
use Rattle.bus_trace.specs.declared.connection.Connection.{Connection}
use Rattle.bus_trace.specs.declared.selection.Call.{Call}
use Rattle.bus_trace.specs.declared.selection.Calling.{Calling}
use Rattle.bus_trace.specs.declared.Row.{Row}
use Rattle.bus_trace.specs.Changes.{rises, falls}
use Rattle.scenario.specs.declared.value.AbortDef.{AbortDef}
use Rattle.scenario.specs.Value.{ScenarioValue}
use Rattle.array_model.specs.Processes.{command_at}
use Rattle.story_model.specs.HistoryEvents.{abort_line_at}
use Rattle.story_model.specs.Items.{Item, process, abort, is_of_host}
use Rattle.story_model.specs.Story.{Story}
use Rattle.story_model.specs.TraceHistory.{aim_of}
use Rattle.due_model.specs.RunSteps.{run_state}
use Rattle.initiator_books.specs.declared.mine.Mine.{Mine}
use Rattle.initiator_books.specs.declared.mine.MyAbort.{MyAbort}
use Rattle.initiator_books.specs.declared.mine.OwnItem.{OwnItem}
use Rattle.initiator_books.specs.declared.mine.OwnItem.TheVariants as own
use Rattle.initiator_books.specs.Books.{BookValue, my_book, my_item, item_if, book_with_sent, book_with_over}
use Rattle.initiator_books.specs.Books.{book_with_try, book_with_done, book_with_abort_try, book_after_event}

-- ---- whose an item is

abbrev pub is_abort_of : Option AbortDef → ℕ → Bool
is_abort_of None dev = false
is_abort_of (Some a) dev = a.host == dev

abbrev pub IsItemOf : ScenarioValue → ℕ → Item → Type 0
IsItemOf s dev (process id) = is_of_host (command_at s.commands id.command) dev ≡ true
IsItemOf s dev (abort n) = is_abort_of (abort_line_at s.aborts n) dev ≡ true

abbrev pub IsItemIf : ScenarioValue → ℕ → Option Item → Type 0
IsItemIf s dev None = ⊤
IsItemIf s dev (Some item) = IsItemOf s dev item

-- ---- unanswered callings

abbrev pub tries_in : List Mine → ℕ → ℕ
tries_in [] n = 0
tries_in (m ∷ mines) n = if m.number == n then m.tries else tries_in mines n

abbrev pub has_abort : List MyAbort → ℕ → Bool
has_abort aborts n = list_any (λ (a : MyAbort). a.number == n) aborts

abbrev pub abort_tries_in : List MyAbort → ℕ → ℕ
abort_tries_in [] n = 0
abort_tries_in (a ∷ aborts) n = if a.number == n then a.tries else abort_tries_in aborts n

-- ---- the target of an item

abbrev pub target_in : List Mine → ℕ → Option ℕ
target_in [] n = None
target_in (m ∷ mines) n = if m.number == n then Some m.target else target_in mines n

abbrev pub abort_target_in : List MyAbort → ℕ → Option ℕ
abort_target_in [] n = None
abort_target_in (a ∷ aborts) n = if a.number == n then Some a.target else abort_target_in aborts n

abbrev pub target_by : BookValue → Option OwnItem → Option ℕ
target_by v None = None
target_by v (Some (own.Command n)) = target_in v.mines n
target_by v (Some (own.Sense n)) = target_in v.mines n
target_by v (Some (own.Abort n)) = abort_target_in v.aborts n

-- ---- what it wants: its book, and for what it last entered arbitration

pub record Wish : Type 0 where
  pub book : BookValue
  pub aim : Option OwnItem

pub record IsWishBy (s : ScenarioValue) (dev : ℕ) (b : Story) (w : Wish) : Type 0 where
  pub book_is : w.book ≡ my_book s b.sent dev
  pub aim_is : item_if w.aim ≡ aim_of b.aims dev

-- What each device last entered arbitration for is an item of its own.
pub record AreAims (s : ScenarioValue) (aims : List (Option Item)) : Type 0 where
  pub eight : length aims ≡ 8
  pub own_items : (d : ℕ) → d < 8 → IsItemIf s d (aim_of aims d)

-- ---- a calling of its own ends without an answer

abbrev pub command_tried : ℕ → BookValue → ℕ → BookValue
command_tried retries v n =
    if nat_lt retries (tries_in v.mines n) then book_with_over v (record { command = n; sense = false }) else v

abbrev pub abort_tried : ℕ → BookValue → ℕ → BookValue
abort_tried retries v n = if nat_lt retries (abort_tries_in v.aborts n) then book_with_done v n else v

-- For an automatic REQUEST SENSE it calls without limit.
abbrev pub book_after_try : ℕ → BookValue → Option OwnItem → BookValue
book_after_try retries v None = v
book_after_try retries v (Some (own.Command n)) = command_tried retries (book_with_try v n) n
book_after_try retries v (Some (own.Sense n)) = v
book_after_try retries v (Some (own.Abort n)) = abort_tried retries (book_with_abort_try v n) n

-- A connection of its own begins.
abbrev pub book_after_send : BookValue → Option OwnItem → BookValue
book_after_send v None = v
book_after_send v (Some (own.Command n)) = book_with_sent v (record { command = n; sense = false })
book_after_send v (Some (own.Sense n)) = book_with_sent v (record { command = n; sense = true })
book_after_send v (Some (own.Abort n)) = book_with_done v n

-- ---- a row of a device, at this time, which changes this; the call and the connection are those before it

abbrev pub is_unanswered : Option Calling → Bool
is_unanswered None = false
is_unanswered (Some k) = is_none k.answered && not k.reselects

abbrev pub is_call_in_vain : ℕ → Option Call → Bool
is_call_in_vain dev None = false
is_call_in_vain dev (Some c) = c.caller == dev && is_unanswered c.calling

abbrev pub is_entry : Change → Option Connection → Bool
is_entry c before = rises c.own.bsy c.next.bsy && not c.before.sel && is_none before

abbrev pub wish_with_entry : ℕ → Wish → ℕ → ℕ → Wish
wish_with_entry dev w row_dev time = if row_dev == dev then record w { aim = my_item w.book time } else w

abbrev pub wish_on_free_bus : ℕ → ℕ → Option Call → Wish → Change → Option Connection → ℕ → ℕ → Wish
wish_on_free_bus dev retries called w c before row_dev time =
    if is_entry c before then wish_with_entry dev w row_dev time
    else if falls c.before.sel c.after.sel
    then (if is_call_in_vain dev called then record w { book = book_after_try retries w.book w.aim } else w)
    else w

abbrev pub wish_after_connection : ℕ → Wish → Connection → Wish
wish_after_connection dev w n =
    if n.reselected then w
    else if n.initiator == dev then record w { book = book_after_send w.book w.aim } else w

abbrev pub wish_on_bus : ℕ → ℕ → Option Call → Wish → Change → Option Connection → Option Connection → ℕ → ℕ → Wish
wish_on_bus dev retries called w c None None row_dev time = wish_on_free_bus dev retries called w c None row_dev time
wish_on_bus dev retries called w c None (Some n) row_dev time = wish_after_connection dev w n
wish_on_bus dev retries called w c (Some m) after row_dev time = w

abbrev pub wish_by_change : ℕ → ℕ → Option Call → Wish → Change → Option Connection → Option Connection → ℕ → ℕ → Wish
wish_by_change dev retries called w c before after row_dev time =
    if c.after.rst then w else wish_on_bus dev retries called w c before after row_dev time

-- The events of the row, the newest first.
abbrev pub book_after_events : BookValue → List Event → BookValue
book_after_events v [] = v
book_after_events v (e ∷ shown) = book_after_event (book_after_events v shown) e

abbrev pub wish_after : ℕ → ℕ → Option Call → Wish → Change → Option Connection → Option Connection → ℕ → ℕ → List Event
    → Wish
wish_after dev retries called w c before after row_dev time shown =
    let x : Wish = wish_by_change dev retries called w c before after row_dev time in
    record x { book = book_after_events x.book shown }

-- After these rows.
abbrev pub IsWishOf : ScenarioValue → ℕ → List Row → Wish → Type 0
IsWishOf s dev rows w = IsWishBy s dev (run_state s rows).story w
