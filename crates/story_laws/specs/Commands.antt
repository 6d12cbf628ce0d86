-- What the rules count of COMMAND in a connection, and what of its block the process that is served has taken (6.4,
-- 6.6.19, 7.2): so bytes of COMMAND cross up to its length, and data once it stands whole.
use Rattle.std.specs.Prelude.{ℕ, ◌≡◌, ◌<◌, ◌==◌, true, false, List, [], length, slice_index, Option, Some, ⊤}
use Rattle.due_model.specs.bus_base.specs.declared.ProcId.{ProcId}
use Rattle.due_model.specs.bus_trace.specs.declared.Row.{Row}
use Rattle.due_model.specs.bus_trace.specs.declared.agreements.Agreement.{Agreement}
use Rattle.due_model.specs.bus_trace.specs.declared.connection.Connection.{Connection}
use Rattle.due_model.specs.bus_trace.specs.Phases.{is_command, is_message_in}
use Rattle.due_model.specs.bus_trace.specs.Terms.{connection}
use Rattle.due_model.specs.bus_trace.specs.Trace.{bus}
use Rattle.due_model.specs.bus_phases.specs.declared.dialogue.Dialogue.{Dialogue}
use Rattle.due_model.specs.bus_phases.specs.declared.spoken.CommandBytes.{CommandBytes}
use Rattle.due_model.specs.bus_phases.specs.declared.spoken.Heard.{Heard}
use Rattle.due_model.specs.bus_phases.specs.declared.spoken.Spoken.{Spoken}
use Rattle.due_model.specs.bus_phases.specs.Dialogue.{no_command}
use Rattle.due_model.specs.bus_rules.specs.Messages.{is_none_or_all}
use Rattle.due_model.specs.cdb_codec.specs.Cdb.{has_group_len}
use Rattle.due_model.specs.scenario.specs.declared.value.HostDef.{HostDef}
use Rattle.due_model.specs.scenario.specs.Value.{ScenarioValue}
use Rattle.due_model.specs.array_model.specs.Processes.{Process, process_of}
use Rattle.due_model.specs.story_model.specs.BusState.{row_reading}
use Rattle.due_model.specs.story_model.specs.CarriedBytes.{CarriedBytes}
use Rattle.due_model.specs.story_model.specs.Items.{Item, process}
use Rattle.due_model.specs.story_model.specs.Links.{Link}
use Rattle.due_model.specs.dialogue_model.specs.declared.exchange.Cause.{Cause}
use Rattle.due_model.specs.dialogue_model.specs.declared.exchange.Next.{Next}
use Rattle.due_model.specs.dialogue_model.specs.declared.exchange.Phase.{Phase}
use Rattle.due_model.specs.dialogue_model.specs.Exchange.{one_message}
use Rattle.due_model.specs.dialogue_model.specs.NextPhase.{phase_of}
use Rattle.due_model.specs.dialogue_model.specs.Words.{parity_error, answer_bytes}
use Rattle.due_model.specs.RunState.{RunState, bus_of, process_here, carried_here}
use Rattle.due_model.specs.RunSteps.{run_state}
use Rattle.row_laws.specs.book_laws.specs.Items.{IsItem}
use Rattle.row_laws.specs.link_laws.specs.Books.{has_whole_command}
use Rattle.due_model.specs.msg_grammar.specs.declared.message.MsgIn.TheVariants as to_initiator
use Rattle.due_model.specs.dialogue_model.specs.declared.exchange.Cause.TheVariants as causes
use Rattle.due_model.specs.dialogue_model.specs.declared.exchange.Next.TheVariants as nexts
use Rattle.due_model.specs.dialogue_model.specs.declared.exchange.Phase.TheVariants as phases

-- ---- what is counted

abbrev pub block_count : List ℕ → CommandBytes
block_count block = record { first = slice_index block 0; count = length block }

abbrev pub dialogue_of : RunState → Dialogue
dialogue_of k = k.story.bus_state.dialogue

abbrev pub IsNone : CommandBytes → Type 0
IsNone c = c ≡ no_command

abbrev pub IsNoneOrAll : CommandBytes → Type 0
IsNoneOrAll c = is_none_or_all c ≡ true

-- With the last message, and without it where MESSAGE PARITY ERROR takes it back (6.6.13).
pub record Counts (q : CommandBytes → Type 0) (h : Heard) : Type 0 where
  pub now : q h.now.command
  pub void : (x : Spoken) → h.void ≡ Some x → q x.command

-- ---- the block of the process that is served

abbrev pub HasNoBlock : RunState → Type 0
HasNoBlock k = (id : ProcId) → k.served ≡ Some (process id) → (carried_here k id).block ≡ []

abbrev pub UndoesToNone : Option Link → Type 0
UndoesToNone link = (l : Link) (c : CarriedBytes) → link ≡ Some l → l.undo ≡ Some c → c.block ≡ []

-- A process of the scenario.
pub record Serves (s : ScenarioValue) (k : RunState) : Type 0 where
  pub id : ProcId
  pub served_is : k.served ≡ Some (process id)
  pub process : Process
  pub process_is : process_of s id ≡ Some process

-- Nothing of the command counts, and nothing of the block is taken.
pub record IsUntaken (k : RunState) : Type 0 where
  pub counts : IsNone (dialogue_of k).heard.now.command
  pub block : HasNoBlock k

-- In a connection by selection COMMAND has not begun yet, whatever is taken back.
pub record IsBeforeCommand (k : RunState) (n : Connection) : Type 0 where
  pub selected : n.reselected ≡ false
  pub heard : Counts IsNone (dialogue_of k).heard
  pub at_phase : Counts IsNone (dialogue_of k).at_phase
  pub block : HasNoBlock k
  pub undo : UndoesToNone k.story.link

-- The target restores the pointers, for COMMAND to come again (6.6.19).
pub record Restores (k : RunState) (n : Connection) : Type 0 where
  pub selected : n.reselected ≡ false
  pub messages_are : k.exchange.plan.messages ≡ one_message to_initiator.RestorePointers

-- ---- before COMMAND

-- In MESSAGE IN before COMMAND.
pub data GivesBefore (k : RunState) (n : Connection) : Type 0 where
  opens_given : IsBeforeCommand k n → GivesBefore k n
  restores_given : Restores k n → ((k.handshakes.requests == 0) ≡ false → IsUntaken k) → GivesBefore k n

-- In MESSAGE OUT that answers such a MESSAGE IN: MESSAGE PARITY ERROR, or the answer to a request.
pub data AnswersBefore (k : RunState) (n : Connection) : Type 0 where
  opens_answered : IsBeforeCommand k n → AnswersBefore k n
  restores_refused : Restores k n → k.exchange.speech.words ≡ parity_error → AnswersBefore k n
  restores_answered : Restores k n → IsUntaken k → IsNone (dialogue_of k).at_phase.now.command
      → (h : Option HostDef) (a : Agreement) → k.exchange.speech.words ≡ answer_bytes h a → AnswersBefore k n

-- ---- in COMMAND

-- The rules count the block. A byte of it is asked for while it is not whole, and the first one before any was taken.
pub record TakesCommand (k : RunState) (n : Connection) (id : ProcId) : Type 0 where
  pub selected : n.reselected ≡ false
  pub counts : (dialogue_of k).heard.now.command ≡ block_count (carried_here k id).block
  pub fresh : (bus_of k).req ≡ false → k.handshakes.requests ≡ 0 → (carried_here k id).block ≡ []
  pub asked : (bus_of k).req ≡ true → (bus_of k).ack ≡ false → has_group_len (carried_here k id).block ≡ false

abbrev pub TakesBlock : ScenarioValue → RunState → Connection → Type 0
TakesBlock s k n = (v : Serves s k) × TakesCommand k n v.id

-- ---- in any phase, by what follows

-- Data may follow: none or all of the command counts.
pub record GivesOn (k : RunState) : Type 0 where
  pub now : IsNoneOrAll (dialogue_of k).heard.now.command
  pub given : (k.handshakes.requests == 0) ≡ false → Counts IsNoneOrAll (dialogue_of k).heard

pub record AnswersOn (k : RunState) : Type 0 where
  pub heard : Counts IsNoneOrAll (dialogue_of k).heard
  pub at_phase : Counts IsNoneOrAll (dialogue_of k).at_phase
  pub words_are : k.exchange.speech.words ≡ parity_error

pub record RejectsOn (k : RunState) : Type 0 where
  pub heard : IsNoneOrAll (dialogue_of k).heard.now.command
  pub at_phase : IsNoneOrAll (dialogue_of k).at_phase.now.command

abbrev pub GivesFor : ScenarioValue → RunState → Connection → Next → Type 0
GivesFor s k n nexts.Command = Serves s k × GivesBefore k n
GivesFor s k n nexts.GoOn = GivesOn k
GivesFor s k n nexts.Status = ⊤
GivesFor s k n nexts.FreeBus = ⊤

abbrev pub AnswersFor : ScenarioValue → RunState → Connection → Next → Type 0
AnswersFor s k n nexts.Command = Serves s k × AnswersBefore k n
AnswersFor s k n nexts.GoOn = AnswersOn k
AnswersFor s k n nexts.Status = k.exchange.speech.words ≡ parity_error
AnswersFor s k n nexts.FreeBus = k.exchange.speech.words ≡ parity_error

abbrev pub SaysFor : ScenarioValue → RunState → Connection → Cause → Type 0
SaysFor s k n causes.Selected = IsBeforeCommand k n
SaysFor s k n causes.InMessage = AnswersFor s k n k.exchange.plan.next
SaysFor s k n causes.InData = RejectsOn k
SaysFor s k n causes.InStatus = ⊤

abbrev pub StandsIn : ScenarioValue → RunState → Connection → Phase → Type 0
StandsIn s k n phases.MessageOut = SaysFor s k n k.exchange.plan.cause
StandsIn s k n phases.MessageIn = GivesFor s k n k.exchange.plan.next
StandsIn s k n phases.Command = TakesBlock s k n
StandsIn s k n phases.DataIn = IsNoneOrAll (dialogue_of k).heard.now.command
StandsIn s k n phases.DataOut = IsNoneOrAll (dialogue_of k).heard.now.command
StandsIn s k n phases.Status = ⊤

-- ---- a connection

pub record ItemServed (s : ScenarioValue) (k : RunState) (n : Connection) : Type 0 where
  pub item : Item
  pub served_is : k.served ≡ Some item
  pub item_is : IsItem s n.initiator item

pub record CommandBooks (s : ScenarioValue) (k : RunState) (n : Connection) : Type 0 where
  pub serves : n.reselected ≡ false → ItemServed s k n
  pub unbegun : k.exchange.begun ≡ false → IsBeforeCommand k n
  pub begun : k.exchange.begun ≡ true → StandsIn s k n (phase_of (bus_of k))

pub record CommandFacts (s : ScenarioValue) (rows : List Row) : Type 0 where
  pub books : (n : Connection) → connection rows ≡ Some n → (bus rows).rst ≡ false → CommandBooks s (run_state s rows) n

-- ---- of a row

-- What is asked of it: as a byte crosses in COMMAND the pointer stands in the block, and rule 26 is kept.
pub record CommandAsked (s : ScenarioValue) (rows : List Row) (row : Row) : Type 0 where
  pub pointer : (c : Process) → process_here s (run_state s rows) ≡ Some c
      → (row_reading (run_state s rows).story.bus_state row).crosses ≡ true
      → is_command (bus_of (run_state s rows)) ≡ true
      → (carried_here (run_state s rows) c.id).command.active < length c.cdb
  pub command : has_whole_command rows row ≡ true

-- In MESSAGE IN the initiator asks for MESSAGE OUT because a byte was struck; or to answer a request, which COMMAND
-- follows (6.6.21).
abbrev pub AnswersAtCommand : RunState → Type 0
AnswersAtCommand k = is_message_in (bus_of k) ≡ true → (bus_of k).atn ≡ true → k.handshakes.struck ≡ false
    → k.exchange.plan.next ≡ nexts.Command
