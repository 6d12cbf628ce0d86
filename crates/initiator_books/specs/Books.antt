-- The book of an initiator: its own commands and aborts, and what it sends next.
use Rattle.std.specs.Prelude.{ℕ, ◌+◌, Bool, true, false, not, ◌&&◌, ◌||◌, ◌==◌, List, [], ◌∷◌, ◌++◌, length, nat_lt}
use Rattle.std.specs.Prelude.{map, Option, Some, None, is_some, if◌then◌else◌}
use Rattle.std.specs.List.{list_any}
use Rattle.bus_base.specs.declared.ProcId.{ProcId}
use Rattle.bus_base.specs.declared.Event.{Event}
use Rattle.bus_base.specs.declared.Event.TheVariants as events
use Rattle.scenario.specs.Value.{ScenarioValue}
use Rattle.story_model.specs.Items.{Item, abort, command_item, sense_item, Sent, open_limit_of}
use Rattle.due_model.specs.reaction_model.specs.Reactions.{sooner_time, time_if}
use Rattle.initiator_books.specs.declared.mine.Mine.{Mine}
use Rattle.initiator_books.specs.declared.mine.MyAbort.{MyAbort}
use Rattle.initiator_books.specs.declared.mine.OwnItem.{OwnItem}
use Rattle.initiator_books.specs.declared.mine.OwnItem.TheVariants as own
use Rattle.initiator_books.specs.Mines.{mines_of, my_aborts, capped, is_check, sent_at, over_at, tried_at}
use Rattle.initiator_books.specs.Mines.{mine_after_event}
use Rattle.initiator_books.specs.Mines.{open_mines, mines_since, mine_by, my_aborts_since, my_abort_by}

-- `queue` are its commands that ended with CHECK CONDITION, in the order of that, so many at most; `most` is how many
-- it may have open.
pub record BookValue : Type 0 where
  pub mines : List Mine
  pub aborts : List MyAbort
  pub queue : List ℕ
  pub room : ℕ
  pub most : ℕ

-- ---- the automatic REQUEST SENSE that comes first, of the commands that ended with CHECK CONDITION, in their order

abbrev pub is_sense_due : List Mine → ℕ → Bool
is_sense_due [] n = false
is_sense_due (m ∷ mines) n = if m.number == n then not (m.sense_sent || m.sense_over) else is_sense_due mines n

abbrev pub my_sense : List Mine → List ℕ → Option ℕ
my_sense mines [] = None
my_sense mines (n ∷ checks) = if is_sense_due mines n then Some n else my_sense mines checks

-- Each of its own stands in the queue once.
abbrev pub has_number : List Mine → ℕ → Bool
has_number mines n = list_any (λ (m : Mine). m.number == n) mines

abbrev pub is_new : List Mine → ℕ → List ℕ → ℕ → Bool
is_new mines room queue n = has_number mines n && not (list_any (λ k. k == n) queue) && nat_lt (length queue) room

abbrev pub queue_with : List Mine → ℕ → List ℕ → ℕ → List ℕ
queue_with mines room queue n = if is_new mines room queue n then queue ++ n ∷ [] else queue

abbrev pub queue_from : List Mine → ℕ → List ℕ → List ℕ → List ℕ
queue_from mines room queue [] = queue
queue_from mines room queue (n ∷ checks) = queue_from mines room (queue_with mines room queue n) checks

-- ---- what the initiators have sent, for the one of this device

abbrev pub my_book : ScenarioValue → Sent → ℕ → BookValue
my_book s b dev = record {
  mines = mines_of b dev s.commands;
  aborts = my_aborts b dev 1 s.aborts;
  queue = queue_from (mines_of b dev s.commands) (length s.commands + 1) [] b.checks;
  room = length s.commands + 1;
  most = open_limit_of s.hosts dev;
}

-- ---- since when it wants to send something, and what at this time: an abort first, then an automatic REQUEST SENSE,
-- then its first command that is still to be sent

abbrev pub my_since : BookValue → Option ℕ
my_since v =
    sooner_time (my_aborts_since v.aborts)
    (sooner_time (time_if (is_some (my_sense v.mines v.queue)) 0) (mines_since v.most (open_mines v.mines) v.mines))

abbrev pub abort_if : Option ℕ → Option OwnItem → Option OwnItem
abort_if None other = other
abort_if (Some n) other = Some (own.Abort n)

abbrev pub sense_if : Option ℕ → Option OwnItem → Option OwnItem
sense_if None other = other
sense_if (Some n) other = Some (own.Sense n)

abbrev pub command_if : Option ℕ → Option OwnItem
command_if None = None
command_if (Some n) = Some (own.Command n)

abbrev pub my_item : BookValue → ℕ → Option OwnItem
my_item v time = abort_if (my_abort_by time v.aborts)
    (sense_if (my_sense v.mines v.queue) (command_if (mine_by v.most time (open_mines v.mines) v.mines)))

-- The item of the story that it is.
abbrev pub item_of : OwnItem → Item
item_of (own.Command n) = command_item n
item_of (own.Sense n) = sense_item n
item_of (own.Abort n) = abort n

abbrev pub item_if : Option OwnItem → Option Item
item_if None = None
item_if (Some i) = Some (item_of i)

-- ---- what is done to it

-- A process is sent.
abbrev pub book_with_sent : BookValue → ProcId → BookValue
book_with_sent v id = record v { mines = map (λ (m : Mine). sent_at id m) v.mines }

-- It is over: an unanswered calling too many.
abbrev pub book_with_over : BookValue → ProcId → BookValue
book_with_over v id = record v { mines = map (λ (m : Mine). over_at id m) v.mines }

-- A command was called for in vain.
abbrev pub book_with_try : BookValue → ℕ → BookValue
book_with_try v n = record v { mines = map (λ (m : Mine). tried_at n m) v.mines }

-- An abort is sent or given up.
abbrev pub done_at : ℕ → MyAbort → MyAbort
done_at n a = if n == a.number then record a { done = true } else a

abbrev pub book_with_done : BookValue → ℕ → BookValue
book_with_done v n = record v { aborts = map (λ (a : MyAbort). done_at n a) v.aborts }

-- An abort was called for in vain.
abbrev pub abort_tried_at : ℕ → MyAbort → MyAbort
abort_tried_at n a = if n == a.number then record a { tries = capped (a.tries + 1) } else a

abbrev pub book_with_abort_try : BookValue → ℕ → BookValue
book_with_abort_try v n = record v { aborts = map (λ (a : MyAbort). abort_tried_at n a) v.aborts }

-- An event is shown.
abbrev pub queue_after_end : BookValue → ProcId → ℕ → List ℕ
queue_after_end v id status = if is_check id status then queue_with v.mines v.room v.queue id.command else v.queue

abbrev pub queue_after_event : BookValue → Event → List ℕ
queue_after_event v (events.End id status) = queue_after_end v id status
queue_after_event v _ = v.queue

abbrev pub book_after_event : BookValue → Event → BookValue
book_after_event v e =
    record v { mines = map (λ (m : Mine). mine_after_event e m) v.mines; queue = queue_after_event v e }
