-- What is known of the items in a prompt trace: an initiator sends each once, and the process of a connection is open
-- until its command has ended.
use Rattle.std.specs.Prelude.{◌≡◌, true, false, Some, None}
use Rattle.due_model.specs.bus_base.specs.declared.ProcId.{ProcId}
use Rattle.due_model.specs.bus_trace.specs.declared.connection.Connection.{Connection}
use Rattle.due_model.specs.story_model.specs.CarriedBytes.{carried_at}
use Rattle.due_model.specs.story_model.specs.Items.{Item, process, has_item}
use Rattle.due_model.specs.story_model.specs.TraceHistory.{aim_of}
use Rattle.due_model.specs.dialogue_model.specs.NextPhase.{phase_of}
use Rattle.due_model.specs.LastingState.{ProcessProgress, progress_in}
use Rattle.due_model.specs.RunState.{RunState, bus_of, item_of}
use Rattle.row_laws.specs.book_laws.specs.Hearing.{is_in_phase}

-- A selection begins a connection for an item of its initiator that was neither sent nor given up.
pub record IsFresh (k : RunState) (n : Connection) : Type 0 where
  pub item : Item
  pub aim_is : aim_of k.story.aims n.initiator ≡ Some item
  pub unsent : has_item k.story.sent.sent item ≡ false
  pub unended : has_item k.story.sent.over item ≡ false

-- The item of the link was sent, and so was the one that is served. A process that was not sent has carried nothing,
-- and has made no run.
pub record AreSent (k : RunState) : Type 0 where
  pub link : (item : Item) → item_of k.story.link ≡ Some item → has_item k.story.sent.sent item ≡ true
  pub served : (item : Item) → k.served ≡ Some item → has_item k.story.sent.sent item ≡ true
  pub carried : (id : ProcId) → has_item k.story.sent.sent (process id) ≡ false → carried_at k.story.carried id ≡ None
  pub progress : (id : ProcId) → has_item k.story.sent.sent (process id) ≡ false
      → progress_in k.progress id ≡ (let none : ProcessProgress = record { id = id; runs = 0; recoveries = 0 } in none)

-- In a connection, RST being false: the item that is served is over in MESSAGE IN alone, once COMMAND COMPLETE was
-- taken.
pub record IsServedOpen (k : RunState) : Type 0 where
  pub sent : (item : Item) → k.served ≡ Some item → has_item k.story.sent.sent item ≡ true
  pub open_is : (item : Item) → k.served ≡ Some item → is_in_phase (phase_of (bus_of k)) ≡ false
      → has_item k.story.sent.over item ≡ false
