-- MESSAGE OUT: what the initiator says is what it was asked for, and the target has heard what stands before the place
-- of its next byte (6.6).
use Rattle.std.specs.Prelude.{ℕ, ◌%◌, ◌≡◌, is_some, true, false, List, ◌∷◌, ◌++◌, length, Option}
use Rattle.due_model.specs.bus_trace.specs.LineSet.{LineSet}
use Rattle.due_model.specs.bus_trace.specs.declared.changes.Change.{Change}
use Rattle.due_model.specs.bus_trace.specs.declared.connection.Connection.{Connection}
use Rattle.due_model.specs.bus_trace.specs.Terms.{receiver_in}
use Rattle.due_model.specs.bus_trace.specs.Phases.{is_message_out}
use Rattle.due_model.specs.bus_phases.specs.declared.dialogue.Dialogue.{Dialogue}
use Rattle.due_model.specs.bus_phases.specs.Dialogue.{fresh_bytes}
use Rattle.due_model.specs.scenario.specs.Value.{ScenarioValue}
use Rattle.due_model.specs.story_model.specs.Items.{Item}
use Rattle.due_model.specs.dialogue_model.specs.declared.exchange.Cause.{Cause}
use Rattle.due_model.specs.dialogue_model.specs.declared.exchange.Cause.TheVariants as causes
use Rattle.due_model.specs.dialogue_model.specs.declared.exchange.Plan.{Plan}
use Rattle.due_model.specs.dialogue_model.specs.Exchange.{Speech, Exchange, next_word, attends_with}
use Rattle.due_model.specs.dialogue_model.specs.Words.{parity_error, detected_error, answer_bytes}
use Rattle.due_model.specs.RunState.{RunState, bus_of}
use Rattle.due_model.specs.Defs.{host_of, opening}
use Rattle.book_laws.specs.Listening.{nothing_understood, understood, form_messages, understanding, understanding_anew}

-- The words stand before and after the place; what counts of the hearing is what stands before; after the last byte all
-- of them were heard.
pub record AreWordsHeard (v : Speech) (l : Plan) (d : Dialogue) : Type 0 where
  pub before : List ℕ
  pub byte : ℕ
  pub rest : List ℕ
  pub words_are : v.words ≡ before ++ byte ∷ rest
  pub place_is : v.place ≡ length before
  pub anew : understanding_anew l d ≡ understood nothing_understood before
  pub last : d.is_last ≡ true → understanding l d ≡ understood nothing_understood v.words

-- What the target asked for: after a selection the opening; after a message the refusal of a struck byte, or the answer
-- to a request; after data or status that something was struck (6.6.10, 6.6.13, 6.6.21).
pub data AreWordsFor (s : ScenarioValue) (n : Connection) (served : Option Item) (x : Exchange) : Cause → Type 0 where
  opens : x.speech.words ≡ opening s n.initiator x.plan.negotiates served → AreWordsFor s n served x causes.Selected
  refuses : x.speech.words ≡ parity_error → AreWordsFor s n served x causes.InMessage
  answers : x.speech.words ≡ answer_bytes (host_of s n.initiator) x.speech.asked
      → AreWordsFor s n served x causes.InMessage
  rejects_data : x.speech.words ≡ detected_error → AreWordsFor s n served x causes.InData
  rejects_status : x.speech.words ≡ detected_error → AreWordsFor s n served x causes.InStatus

-- Before the first phase.
pub record IsAboutToSpeak (s : ScenarioValue) (n : Connection) (served : Option Item) (x : Exchange) : Type 0 where
  pub cause_is : x.plan.cause ≡ causes.Selected
  pub words_are : x.speech.words ≡ opening s n.initiator x.plan.negotiates served
  pub first : ℕ
  pub rest : List ℕ
  pub some : x.speech.words ≡ first ∷ rest
  pub whole : form_messages nothing_understood x.speech.words ≡ true

-- In MESSAGE OUT. The rules hear what both ends have heard.
pub record IsSpeaking (s : ScenarioValue) (n : Connection) (served : Option Item) (x : Exchange) (d : Dialogue) : Type
    0 where
  pub words_for : AreWordsFor s n served x x.plan.cause
  pub heard : AreWordsHeard x.speech x.plan d
  pub whole : form_messages nothing_understood x.speech.words ≡ true
  pub half : d.half ≡ fresh_bytes d

-- Of what is served and said, what the messages have told, and the lines of the bus.
pub record SpeaksBy (s : ScenarioValue) (n : Connection) (served : Option Item) (x : Exchange) (d : Dialogue)
    (b : LineSet) : Type 0 where
  pub before_all : x.begun ≡ false → IsAboutToSpeak s n served x
  pub in_message_out : x.begun ≡ true → is_message_out b ≡ true → IsSpeaking s n served x d

abbrev pub Speaks : ScenarioValue → RunState → Connection → Type 0
Speaks s k n = SpeaksBy s n k.served k.exchange k.story.bus_state.dialogue (bus_of k)

-- A byte of MESSAGE OUT that crosses in the row is that at the place, with ATN true while one follows: what the
-- initiator is due to drive.
abbrev pub SaysNext : RunState → Connection → Change → Type 0
SaysNext k n c = is_message_out c.before ≡ true → is_some (receiver_in n c) ≡ true
    → (c.after.data_bits % 256 ≡ next_word k.exchange.speech) × (c.after.atn ≡ attends_with k.exchange.speech)
