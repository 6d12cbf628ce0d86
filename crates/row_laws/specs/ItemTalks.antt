-- What holds of the process of a connection: it is open until COMMAND COMPLETE was taken, after which the bus is freed;
-- and after a reselection the target names it alone.
use Rattle.std.specs.Prelude.{Bool, List, None, Option, Some, false, is_none, length, not, true, ℕ, ⊤, ◌&&◌, ◌<◌, ◌||◌}
use Rattle.std.specs.Prelude.{◌≡◌, ◌⊎◌}
use Rattle.due_model.specs.bus_base.specs.declared.ProcId.{ProcId}
use Rattle.book_laws.specs.Giving.{OnMessages}
use Rattle.due_model.specs.dialogue_model.specs.Exchange.{bytes_of_messages}
use Rattle.due_model.specs.dialogue_model.specs.declared.exchange.Messages.{Messages}
use Rattle.due_model.specs.dialogue_model.specs.declared.exchange.Next.{Next}
use Rattle.due_model.specs.RunState.{RunState, bus_of}
use Rattle.due_model.specs.story_model.specs.HistoryEvents.{is_complete}
use Rattle.due_model.specs.story_model.specs.Items.{Item, abort, has_item, process}
use Rattle.due_model.specs.story_model.specs.Links.{LastMessage, Link, abortive, complete, disconnect, plain}
use Rattle.due_model.specs.bus_trace.specs.LineSet.{LineSet}
use Rattle.due_model.specs.bus_trace.specs.Phases.{is_message_in, is_message_out}
use Rattle.due_model.specs.bus_trace.specs.declared.connection.Connection.{Connection}
use Rattle.due_model.specs.array_model.specs.Processes.{Process, process_of}
use Rattle.due_model.specs.array_model.specs.Order.{tag_number}
use Rattle.due_model.specs.msg_grammar.specs.declared.message.MsgIn.{MsgIn}
use Rattle.due_model.specs.scenario.specs.Value.{ScenarioValue}
use Rattle.due_model.specs.dialogue_model.specs.declared.exchange.Next.TheVariants as nexts
use Rattle.due_model.specs.msg_grammar.specs.declared.message.MsgIn.TheVariants as to_initiator

abbrev pub is_complete_in : Option MsgIn → Bool
is_complete_in (Some to_initiator.CommandComplete) = true
is_complete_in _ = false

abbrev pub is_disconnect_in : Option MsgIn → Bool
is_disconnect_in (Some to_initiator.Disconnect) = true
is_disconnect_in _ = false

abbrev pub frees_bus : Next → Bool
frees_bus nexts.FreeBus = true
frees_bus nexts.Command = false
frees_bus nexts.Status = false
frees_bus nexts.GoOn = false

-- COMMAND COMPLETE stands alone, and the bus is freed after it. Of a process that stays (an automatic REQUEST SENSE) no
-- message is DISCONNECT.
abbrev pub plans_well : Bool → Messages → Next → Bool
plans_well stays m next =
    not (is_complete_in m.second) && (not (is_complete_in m.first) || (is_none m.second && frees_bus next))
    && (not stays || (not (is_disconnect_in m.first) && not (is_disconnect_in m.second)))

abbrev pub is_sense_item : Option Item → Bool
is_sense_item None = false
is_sense_item (Some (process id)) = id.sense
is_sense_item (Some (abort k)) = false

abbrev pub is_plain : LastMessage → Bool
is_plain plain = true
is_plain complete = false
is_plain disconnect = false
is_plain abortive = false

-- What is said of a connection, what is served, and what is over.
pub record Talk : Type 0 where
  pub served : Option Item
  pub messages : Messages
  pub next : Next
  pub begun : Bool
  pub bus : LineSet
  pub requests : ℕ
  pub is_last : Bool
  pub over : List Item

abbrev pub talk_of : RunState → Talk
talk_of k = record {
  served = k.served;
  messages = k.exchange.plan.messages;
  next = k.exchange.plan.next;
  begun = k.exchange.begun;
  bus = bus_of k;
  requests = k.handshakes.requests;
  is_last = k.story.bus_state.dialogue.is_last;
  over = k.story.sent.over;
}

-- A byte of MESSAGE IN awaits its ACK.
abbrev pub awaits : LineSet → Bool
awaits b = b.req && not b.ack

-- MESSAGE IN has no byte left, and the bus is freed after it.
pub record IsTaken (t : Talk) : Type 0 where
  pub here : is_message_in t.bus ≡ true
  pub begun : t.begun ≡ true
  pub next_is : frees_bus t.next ≡ true
  pub all : t.requests ≡ length (bytes_of_messages t.messages)

pub record HasEnded (t : Talk) : Type 0 where
  pub taken : IsTaken t
  pub calm : t.bus.atn ≡ false
  pub answered : awaits t.bus ≡ false

-- Of an automatic REQUEST SENSE no message but COMMAND COMPLETE tells how the connection ends.
abbrev pub last_well : Bool → Link → Bool
last_well sense l =
    not (is_complete l.before) && (not sense || (is_plain l.before && (is_plain l.last || is_complete l.last)))

-- The names of a process; other messages are none.
abbrev pub IsNameOf : Process → MsgIn → Type 0
IsNameOf c (to_initiator.Identify lun) = lun ≡ c.unit
IsNameOf c (to_initiator.SimpleTag n) = tag_number c.tag ≡ Some n
IsNameOf c _ = ⊤

-- No byte has crossed yet.
pub record IsUnnamed (t : Talk) (c : Process) : Type 0 where
  pub here : is_message_in t.bus ≡ true
  pub begun : t.begun ≡ true
  pub none_asked : t.requests ≡ 0
  pub first : t.messages.first ≡ Some (to_initiator.Identify c.unit)
  pub small : c.unit < 8

pub record HasNames (s : ScenarioValue) (t : Talk) (n : Connection) (l : Link) : Type 0 where
  pub named : Process
  pub served_is : t.served ≡ Some (process named.id)
  pub is : process_of s named.id ≡ Some named
  pub command : named.id.sense ≡ false
  pub initiator_is : named.initiator ≡ n.initiator
  pub target_is : named.target ≡ n.target
  pub messages : OnMessages (IsNameOf named) t.messages
  pub unit : (l.unit ≡ named.unit) ⊎ IsUnnamed t named

pub record TalksBy (s : ScenarioValue) (t : Talk) (n : Connection) (l : Link) : Type 0 where
  pub planned : plans_well (is_sense_item t.served) t.messages t.next ≡ true
  pub last : last_well (is_sense_item t.served) l ≡ true
  pub completes : is_complete l.last ≡ true → IsTaken t ⊎ ((is_message_out t.bus ≡ true) × (t.is_last ≡ false))
  pub over : (i : Item) → t.served ≡ Some i → has_item t.over i ≡ true → HasEnded t
  pub closes : n.reselected ≡ false → is_complete l.last ≡ true
      → is_message_in t.bus ≡ true → (id : ProcId) → t.served ≡ Some (process id)
      → (has_item t.over (process id) ≡ true) ⊎ ((t.bus.atn ≡ true) ⊎ (awaits t.bus ≡ true))
  pub selected : is_sense_item t.served ≡ true → n.reselected ≡ false
  pub names : n.reselected ≡ true → HasNames s t n l

abbrev pub Talks : ScenarioValue → RunState → Connection → Type 0
Talks s k n = (l : Link) → k.story.link ≡ Some l → TalksBy s (talk_of k) n l
