-- What an initiator holds of its own connection and of its own processes, and what each row does to that.
use Rattle.std.specs.Prelude.{ℕ, ◌%◌, Bool, true, false, not, ◌&&◌, ◌==◌, List, Option, Some, None, is_none, replicate}
use Rattle.std.specs.Prelude.{if◌then◌else◌}
use Rattle.bus_base.specs.declared.ProcId.{ProcId}
use Rattle.bus_base.specs.declared.Event.{Event}
use Rattle.bus_base.specs.declared.Event.TheVariants as events
use Rattle.bus_trace.specs.declared.Row.{Row}
use Rattle.bus_trace.specs.declared.changes.Change.{Change}
use Rattle.bus_trace.specs.declared.connection.Connection.{Connection}
use Rattle.bus_trace.specs.Changes.{rises}
use Rattle.bus_trace.specs.Phases.{is_message_in}
use Rattle.bus_trace.specs.Terms.{connection}
use Rattle.msg_grammar.specs.declared.message.MsgOut.{MsgOut}
use Rattle.msg_grammar.specs.declared.message.MsgIn.{MsgIn}
use Rattle.scenario.specs.Value.{ScenarioValue}
use Rattle.story_model.specs.TraceHistory.{is_parity_error}
use Rattle.initiator_books.specs.io_pointers.specs.declared.pointers.Place.{Place}
use Rattle.initiator_books.specs.io_pointers.specs.Pointers.{pointers_of, at_start}
use Rattle.due_model.specs.dialogue_model.specs.declared.exchange.Hearing.{Hearing}
use Rattle.due_model.specs.RunState.{RunState, carried_here}
use Rattle.due_model.specs.RunSteps.{run_state}
use Rattle.initiator_books.specs.declared.mine.Mine.{Mine}
use Rattle.initiator_books.specs.declared.mine.OwnItem.{OwnItem}
use Rattle.initiator_books.specs.declared.held.HeldPair.{HeldPair}
use Rattle.initiator_books.specs.declared.own_link.LastMessage.{LastMessage}
use Rattle.initiator_books.specs.declared.own_link.LastMessage.TheVariants as latest
use Rattle.initiator_books.specs.declared.own_link.OwnLink.{OwnLink}
use Rattle.initiator_books.specs.HeldPointers.{capped_place, no_pair, held_at, restored_if, message_if, byte_if}
use Rattle.initiator_books.specs.HeldPointers.{AreHeldOf}
use Rattle.initiator_books.specs.OwnLinks.{process_in, link_with_name, last_after_out, last_after_in, new_link, undo_of}
use Rattle.initiator_books.specs.OwnLinks.{undone, IsLinkIf, own_link}

pub record TransfersValue : Type 0 where
  pub dev : ℕ
  -- by the number of the command
  pub held : List HeldPair
  -- in a connection of its own; after RST it may stand without
  pub link : Option OwnLink

-- ---- a connection begins

abbrev pub transfers_begun : Option OwnItem → Connection → TransfersValue → TransfersValue
transfers_begun aim n v =
    if n.reselected then record v { link = Some (new_link n.target None) }
    else record v { held = restored_if v.held (process_in aim); link = Some (new_link n.target aim) }

-- ---- in a connection

abbrev pub transfers_after_out : MsgOut → OwnLink → TransfersValue → TransfersValue
transfers_after_out m l v = record v {
  held = if is_parity_error m then undone v.held l.undo else v.held;
  link = Some (record l { last = last_after_out m l });
}

-- The message came while the connection belonged to the item of the second link: to what it did before, or to what the
-- message names.
abbrev pub transfers_after_name : MsgIn → OwnLink → OwnLink → TransfersValue → TransfersValue
transfers_after_name m l next v = record v {
  held = message_if (if is_none l.item then restored_if v.held (process_in next.item) else v.held)
      (process_in next.item) m;
  link = Some (record next { last = last_after_in m; before = l.last; undo = undo_of v.held (process_in l.item) });
}

abbrev pub transfers_after_in : List Mine → MsgIn → OwnLink → TransfersValue → TransfersValue
transfers_after_in mines m l v = transfers_after_name m l (link_with_name mines l m) v

abbrev pub transfers_after_byte : Change → OwnLink → TransfersValue → TransfersValue
transfers_after_byte c l v =
    if c.before.msg then v else record v {
      held = byte_if v.held (process_in l.item) c.before (c.after.data_bits % 256);
    }

abbrev pub transfers_after_crossing : List Mine → Change → Option MsgOut → Option MsgIn → OwnLink → TransfersValue
    → TransfersValue
transfers_after_crossing mines c (Some m) into l v = transfers_after_out m l v
transfers_after_crossing mines c None (Some m) l v = transfers_after_in mines m l v
transfers_after_crossing mines c None None l v = transfers_after_byte c l v

abbrev pub transfers_in_link : List Mine → Hearing → Option OwnLink → TransfersValue → TransfersValue
transfers_in_link mines h None v = v
transfers_in_link mines h (Some l) v = if h.crosses then transfers_after_crossing mines h.change h.out h.into l v else v

-- ---- a row that tells this, before and after which these connections stand; `aim` is for what the initiator last
-- entered arbitration before it

abbrev pub transfers_on_bus : List Mine → Option OwnItem → Hearing → Option Connection → Option Connection
    → TransfersValue → TransfersValue
transfers_on_bus mines aim h None None v = v
transfers_on_bus mines aim h None (Some n) v = if n.initiator == v.dev then transfers_begun aim n v else v
transfers_on_bus mines aim h (Some m) None v = record v { link = None }
transfers_on_bus mines aim h (Some m) (Some n) v =
    if n.initiator == v.dev then transfers_in_link mines h v.link v else v

-- RST ends what the connection was for.
abbrev pub transfers_after : List Mine → Option OwnItem → Hearing → Option Connection → Option Connection
    → TransfersValue → TransfersValue
transfers_after mines aim h before after v =
    if h.change.after.rst then record v { link = None } else transfers_on_bus mines aim h before after v

-- ---- what it tells

abbrev pub process_of_link : Option OwnLink → Option ProcId
process_of_link None = None
process_of_link (Some l) = process_in l.item

-- The active pointers of a process; of none they stand at the start.
abbrev pub active_at : List HeldPair → Option ProcId → Place
active_at held None = at_start
active_at held (Some id) = (held_at held id).pointers.active

abbrev pub is_last_complete : LastMessage → Bool
is_last_complete latest.Complete = true
is_last_complete latest.Plain = false
is_last_complete latest.Disconnect = false
is_last_complete latest.Abortive = false

-- It takes COMMAND COMPLETE (6.6.5).
abbrev pub takes_complete : OwnLink → Change → Bool
takes_complete l c =
    rises c.before.ack c.after.ack && is_message_in c.before && is_last_complete l.last && not c.after.atn

abbrev pub end_of : List HeldPair → Option ProcId → Option Event
end_of held None = None
end_of held (Some id) = Some (events.End id (held_at held id).status)

abbrev pub completion_in : TransfersValue → Change → Option OwnLink → Option Event
completion_in v c None = None
completion_in v c (Some l) = if takes_complete l c then end_of v.held (process_in l.item) else None

-- ---- the rows

pub record IsTransfersOf (s : ScenarioValue) (rows : List Row) (v : TransfersValue) : Type 0 where
  pub held_are : AreHeldOf s v.dev (run_state s rows).story.carried v.held
  pub link_is : IsLinkIf v.dev (own_link v.dev (connection rows) (run_state s rows).story.link) v.link

abbrev pub no_transfers : ℕ → ℕ → TransfersValue
no_transfers dev count = record { dev = dev; held = replicate count no_pair; link = None }

-- What the rows tell of the active pointers of a process; of none they stand at the start.
abbrev pub active_of : RunState → Option ProcId → Place
active_of k None = at_start
active_of k (Some id) = capped_place (pointers_of (carried_here k id)).active
