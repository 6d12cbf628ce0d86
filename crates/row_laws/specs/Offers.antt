-- Synchronous data transfer requests: whose request is open, by the phase and by what both ends have said in it
-- (6.6.21).
use Rattle.std.specs.Prelude.{ℕ, ◌≡◌, ◌⊎◌, ◌<◌, Bool, true, false, ◌==◌, List, length, Option, Some, None, is_some}
use Rattle.std.specs.Prelude.{if◌then◌else◌}
use Rattle.due_model.specs.bus_trace.specs.LineSet.{LineSet}
use Rattle.due_model.specs.bus_trace.specs.declared.Row.{Row}
use Rattle.due_model.specs.bus_trace.specs.declared.agreements.Agreement.{Agreement}
use Rattle.due_model.specs.bus_trace.specs.declared.connection.Connection.{Connection}
use Rattle.due_model.specs.bus_trace.specs.Phases.{is_message_out, is_message_in}
use Rattle.due_model.specs.bus_trace.specs.Terms.{connection}
use Rattle.due_model.specs.bus_trace.specs.Trace.{bus}
use Rattle.due_model.specs.msg_grammar.specs.declared.message.MsgIn.{MsgIn}
use Rattle.due_model.specs.msg_grammar.specs.declared.message.MsgOut.{MsgOut}
use Rattle.due_model.specs.msg_grammar.specs.Messages.{in_bytes, out_bytes}
use Rattle.due_model.specs.bus_phases.specs.declared.dialogue.Dialogue.{Dialogue}
use Rattle.due_model.specs.bus_phases.specs.declared.spoken.Heard.{Heard}
use Rattle.due_model.specs.bus_phases.specs.declared.spoken.Spoken.{Spoken}
use Rattle.due_model.specs.bus_phases.specs.declared.words.End.{End}
use Rattle.due_model.specs.bus_phases.specs.Dialogue.{fresh_heard, heard_with_out, word_out}
use Rattle.due_model.specs.bus_lines.specs.Handshakes.{Handshakes}
use Rattle.due_model.specs.scenario.specs.Value.{ScenarioValue}
use Rattle.due_model.specs.dialogue_model.specs.declared.exchange.Cause.{Cause}
use Rattle.due_model.specs.dialogue_model.specs.declared.exchange.Messages.{Messages}
use Rattle.due_model.specs.dialogue_model.specs.declared.exchange.Next.{Next}
use Rattle.due_model.specs.dialogue_model.specs.declared.exchange.Said.{Said}
use Rattle.due_model.specs.dialogue_model.specs.Exchange.{Speech, Exchange, one_message}
use Rattle.due_model.specs.RunState.{RunState, bus_of}
use Rattle.due_model.specs.RunSteps.{run_state}
use Rattle.book_laws.specs.Giving.{OnMessages}
use Rattle.row_laws.specs.ItemTalks.{awaits}
use Rattle.due_model.specs.msg_grammar.specs.declared.message.MsgIn.TheVariants as to_initiator
use Rattle.due_model.specs.msg_grammar.specs.declared.message.MsgOut.TheVariants as to_target
use Rattle.due_model.specs.bus_phases.specs.declared.words.End.TheVariants as ends
use Rattle.due_model.specs.dialogue_model.specs.declared.exchange.Cause.TheVariants as causes
use Rattle.due_model.specs.dialogue_model.specs.declared.exchange.Next.TheVariants as nexts

-- ---- what a target plans to say

abbrev pub is_request : MsgIn → Bool
is_request (to_initiator.Sdtr offer) = true
is_request _ = false

abbrev pub IsNoRequest : MsgIn → Type 0
IsNoRequest m = is_request m ≡ false

-- The message of a target that answers the open request of the initiator, or rejects it, or is a request of its own:
-- whose request is open before and after it.
pub data Negotiates (before after : Option End) (m : MsgIn) : Type 0 where
  answers : (a : Agreement) → before ≡ Some ends.Initiator → after ≡ None → m ≡ to_initiator.Sdtr a
      → Negotiates before after m
  refuses : before ≡ Some ends.Initiator → after ≡ None → m ≡ to_initiator.Reject → Negotiates before after m
  requests : (a : Agreement) → before ≡ None → after ≡ Some ends.Target → m ≡ to_initiator.Sdtr a
      → Negotiates before after m

-- What it plans where this request is open: to say one such message and then to go on to COMMAND; or no request.
pub data Plans (open_to : Option End) (messages : Messages) (next : Next) : Type 0 where
  plain : open_to ≡ None → OnMessages IsNoRequest messages → Plans open_to messages next
  negotiates : (after : Option End) (m : MsgIn) → Negotiates open_to after m → messages ≡ one_message m
      → next ≡ nexts.Command → Plans open_to messages next

-- ---- what was heard

abbrev pub offer_now : Dialogue → Option End
offer_now d = d.heard.now.offer

-- Whose request was open before the last message of MESSAGE IN.
pub record WasOpen (h : Heard) (before : Option End) : Type 0 where
  pub void : Spoken
  pub void_is : h.void ≡ Some void
  pub offer_is : void.offer ≡ before

-- In MESSAGE IN, after so many bytes of it.
pub data IsHeardIn (messages : Messages) (next : Next) (d : Dialogue) (count : ℕ) : Type 0 where
  no_request : OnMessages IsNoRequest messages → offer_now d ≡ None → (count ≡ 0) ⊎ WasOpen d.heard None
      → IsHeardIn messages next d count
  in_part : (before after : Option End) (m : MsgIn) → Negotiates before after m → messages ≡ one_message m
      → next ≡ nexts.Command → offer_now d ≡ before → (count ≡ 0) ⊎ WasOpen d.heard before → count < length (in_bytes m)
      → IsHeardIn messages next d count
  whole : (before after : Option End) (m : MsgIn) → Negotiates before after m → messages ≡ one_message m
      → next ≡ nexts.Command → offer_now d ≡ after → WasOpen d.heard before → count ≡ length (in_bytes m)
      → IsHeardIn messages next d count

-- What the initiator says is this one message: it counts after its last byte, and not before.
pub record SaysOne (m : MsgOut) (v : Speech) (d : Dialogue) : Type 0 where
  pub words_are : v.words ≡ out_bytes m
  pub fresh : fresh_heard d ≡ d.at_phase
  pub last : d.is_last ≡ true → d.heard ≡ heard_with_out d.at_phase (word_out m)

abbrev pub offer_said : Said → Option End
offer_said said = if is_some said.offer then Some ends.Initiator else None

abbrev pub is_detected : Cause → Bool
is_detected causes.InData = true
is_detected causes.InStatus = true
is_detected _ = false

-- In MESSAGE OUT: the opening, with a request of the initiator or without; MESSAGE PARITY ERROR, after which the
-- message is said again; the answer to the request of the target; INITIATOR DETECTED ERROR.
pub data IsHeardOut (x : Exchange) (d : Dialogue) : Type 0 where
  opens : x.plan.cause ≡ causes.Selected → d.at_phase.now.offer ≡ None → d.at_phase.void ≡ None → d.heard.void ≡ None
      → offer_now d ≡ offer_said x.plan.said → IsHeardOut x d
  repeats : (before : Option End) → x.plan.cause ≡ causes.InMessage → SaysOne to_target.ParityError x.speech d
      → WasOpen d.at_phase before → Plans before x.plan.messages x.plan.next → IsHeardOut x d
  answers_it : (a : Agreement) → x.plan.cause ≡ causes.InMessage → x.plan.next ≡ nexts.Command
      → SaysOne (to_target.Sdtr a) x.speech d → d.at_phase.now.offer ≡ Some ends.Target → IsHeardOut x d
  detects : is_detected x.plan.cause ≡ true → SaysOne to_target.DetectedError x.speech d → d.at_phase.now.offer ≡ None
      → IsHeardOut x d

-- ---- in a connection

-- In MESSAGE IN the initiator raises ATN where a byte was struck, or a request of the target is open, as it answers the
-- byte.
pub record OffersBy (x : Exchange) (d : Dialogue) (h : Handshakes) (b : LineSet) : Type 0 where
  pub unbegun : x.begun ≡ false → (offer_now d ≡ None) × (d.heard.void ≡ None)
  pub settled : x.begun ≡ true → b.msg ≡ false → offer_now d ≡ None
  pub out : x.begun ≡ true → is_message_out b ≡ true → IsHeardOut x d
  pub into : x.begun ≡ true → is_message_in b ≡ true → IsHeardIn x.plan.messages x.plan.next d h.requests
  pub why : x.begun ≡ true → is_message_in b ≡ true → b.atn ≡ true
      → ((h.requests == 0) ≡ false) × ((h.struck ≡ true) ⊎ (offer_now d ≡ Some ends.Target))
  pub asks : x.begun ≡ true → is_message_in b ≡ true → offer_now d ≡ Some ends.Target
      → (b.atn ≡ true) ⊎ (awaits b ≡ true)

abbrev pub Offers : RunState → Type 0
Offers k = OffersBy k.exchange k.story.bus_state.dialogue k.handshakes (bus_of k)

abbrev pub OfferFacts : ScenarioValue → List Row → Type 0
OfferFacts s rows = (n : Connection) → connection rows ≡ Some n → (bus rows).rst ≡ false → Offers (run_state s rows)
