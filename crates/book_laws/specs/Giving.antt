-- MESSAGE IN: what the target gives are the bytes of its messages, one after the other, and the initiator has heard
-- those that crossed (6.6).
use Rattle.std.specs.Prelude.{false, ℕ, ◌%◌, ◌≡◌, ◌<◌, is_some, true, List, [], ◌++◌, length, slice_index_or, Option}
use Rattle.std.specs.Prelude.{Some, None, ⊤}
use Rattle.due_model.specs.bus_trace.specs.LineSet.{LineSet}
use Rattle.due_model.specs.bus_trace.specs.declared.changes.Change.{Change}
use Rattle.due_model.specs.bus_trace.specs.declared.connection.Connection.{Connection}
use Rattle.due_model.specs.bus_trace.specs.Terms.{receiver_in}
use Rattle.due_model.specs.bus_trace.specs.Phases.{is_message_out, is_message_in}
use Rattle.due_model.specs.bus_lines.specs.Handshakes.{Handshakes}
use Rattle.due_model.specs.bus_phases.specs.declared.dialogue.Dialogue.{Dialogue}
use Rattle.due_model.specs.msg_grammar.specs.declared.message.MsgIn.{MsgIn}
use Rattle.due_model.specs.msg_grammar.specs.Messages.{FitsIn}
use Rattle.due_model.specs.dialogue_model.specs.declared.exchange.Messages.{Messages}
use Rattle.due_model.specs.dialogue_model.specs.Exchange.{Exchange, bytes_of_messages}
use Rattle.due_model.specs.RunState.{RunState, bus_of}
use Rattle.book_laws.specs.Listening.{half_after}

-- So many bytes have crossed, and this much of a message is heard half.
pub record AreGiven (bytes half : List ℕ) (count : ℕ) : Type 0 where
  pub before : List ℕ
  pub rest : List ℕ
  pub bytes_are : bytes ≡ before ++ rest
  pub count_is : count ≡ length before
  pub half_is : half ≡ half_after [] before

-- Each message, where there is one, is such.
abbrev pub OnMessage : (MsgIn → Type 0) → Option MsgIn → Type 0
OnMessage q None = ⊤
OnMessage q (Some m) = q m

abbrev pub OnMessages : (MsgIn → Type 0) → Messages → Type 0
OnMessages q m = OnMessage q m.first × OnMessage q m.second

-- Of what is planned, what the messages have told, the handshakes of the phase, and the lines of the bus. The units
-- that are named are 0 to 7.
pub record GivesBy (x : Exchange) (d : Dialogue) (h : Handshakes) (b : LineSet) : Type 0 where
  pub fit : OnMessages FitsIn x.plan.messages
  pub in_message_in : x.begun ≡ true → is_message_in b ≡ true
      → AreGiven (bytes_of_messages x.plan.messages) d.half h.requests

abbrev pub Gives : RunState → Type 0
Gives k = GivesBy k.exchange k.story.bus_state.dialogue k.handshakes (bus_of k)

-- Outside the message phases no message is heard half.
abbrev pub IsQuietBy : Dialogue → LineSet → Type 0
IsQuietBy d b = is_message_out b ≡ false → is_message_in b ≡ false → d.half ≡ []

abbrev pub IsQuiet : RunState → Type 0
IsQuiet k = IsQuietBy k.story.bus_state.dialogue (bus_of k)

-- A byte of MESSAGE IN that crosses in the row is the next one, in a phase that has begun: what the target is due to
-- drive while one follows.
abbrev pub GivesNext : RunState → Connection → Change → Type 0
GivesNext k n c = is_message_in c.before ≡ true → is_some (receiver_in n c) ≡ true
    → (c.after.data_bits % 256 ≡ slice_index_or (bytes_of_messages k.exchange.plan.messages) k.handshakes.requests 0)
    × (k.handshakes.requests < length (bytes_of_messages k.exchange.plan.messages)) × (k.exchange.begun ≡ true)
