-- What the two devices of a connection have to say to each other.
use Rattle.std.specs.Prelude.{ℕ, ◌+◌, Bool, true, false, List, [], ◌++◌, length, slice_index_or, Option, Some, None}
use Rattle.std.specs.Prelude.{nat_lt, if◌then◌else◌}
use Rattle.story_model.specs.bus_trace.specs.declared.agreements.Agreement.{Agreement}
use Rattle.story_model.specs.msg_grammar.specs.declared.message.MsgOut.{MsgOut}
use Rattle.story_model.specs.msg_grammar.specs.declared.message.MsgOut.TheVariants as to_target
use Rattle.story_model.specs.msg_grammar.specs.declared.message.MsgIn.{MsgIn}
use Rattle.story_model.specs.msg_grammar.specs.declared.message.MsgIn.TheVariants as to_initiator
use Rattle.story_model.specs.msg_grammar.specs.Messages.{in_bytes}
use Rattle.scenario.specs.bus_base.specs.declared.AbortKind.TheVariants as aborts
use Rattle.scenario.specs.declared.value.Tag.{Tag}
use Rattle.scenario.specs.declared.value.Tag.TheVariants as tags
use Rattle.dialogue_model.specs.declared.exchange.Messages.{Messages}
use Rattle.dialogue_model.specs.declared.exchange.Said.{Said}
use Rattle.dialogue_model.specs.declared.exchange.Plan.{Plan}
use Rattle.dialogue_model.specs.declared.exchange.Cause.TheVariants as causes
use Rattle.dialogue_model.specs.declared.exchange.Next.TheVariants as nexts
use Rattle.story_model.specs.bus_phases.specs.Dialogue.{asynchronous}

-- At the initiator: what it says in MESSAGE OUT, the place of its next byte, and what the target has last asked for by
-- a synchronous data transfer request.
pub record Speech : Type 0 where
  pub words : List ℕ
  pub place : ℕ
  pub asked : Agreement

pub record Exchange : Type 0 where
  -- whether a phase has begun in this connection
  pub begun : Bool
  pub speech : Speech
  pub plan : Plan

abbrev pub no_speech : Speech
no_speech = record { words = []; place = 0; asked = asynchronous }

abbrev pub no_messages : Messages
no_messages = record { first = None; second = None }

abbrev pub one_message : MsgIn → Messages
one_message m = record { first = Some m; second = None }

abbrev pub two_messages : MsgIn → MsgIn → Messages
two_messages m n = record { first = Some m; second = Some n }

abbrev pub nothing_heard : Said
nothing_heard = record { unit = None; tag = tags.Untagged; aborts = None; offer = None }

abbrev pub no_plan : Plan
no_plan = record {
  negotiates = false;
  messages = no_messages;
  next = nexts.FreeBus;
  cause = causes.Selected;
  said = nothing_heard;
  struck = false;
}

abbrev pub no_exchange : Exchange
no_exchange = record { begun = false; speech = no_speech; plan = no_plan }

-- ---- the initiator, a byte of MESSAGE OUT after another

-- The byte that it says next, and whether ATN is true with it: while a byte follows (6.1.9, 6.2.1).
abbrev pub next_word : Speech → ℕ
next_word p = slice_index_or p.words p.place 0

abbrev pub attends_with : Speech → Bool
attends_with p = nat_lt (p.place + 1) (length p.words)

-- Its byte crossed: the next one follows; after the last one all of them begin anew.
abbrev pub speech_after_byte : Speech → Speech
speech_after_byte p = record p { place = if attends_with p then p.place + 1 else 0 }

-- A phase begins in which it says this.
abbrev pub speech_of : Speech → List ℕ → Speech
speech_of p words = record p { words = words; place = 0 }

abbrev pub request_after : Agreement → Option MsgIn → Agreement
request_after was (Some (to_initiator.Sdtr offer)) = offer
request_after was _ = was

abbrev pub speech_after_request : Speech → Option MsgIn → Speech
speech_after_request p m = record p { asked = request_after p.asked m }

-- ---- the target

abbrev pub plan_anew : Plan → Plan
plan_anew p = record p { said = nothing_heard; struck = false }

-- The number of the tag, or 0.
abbrev pub tag_number : Tag → ℕ
tag_number tags.Untagged = 0
tag_number (tags.Simple n) = n
tag_number (tags.Ordered n) = n
tag_number (tags.Head n) = n

-- A message that it heard. ABORT TAG aborts the process of the tag that was named before it (6.6.2).
abbrev pub said_with : MsgOut → Said → Said
said_with (to_target.Identify disc lun) said = record said { unit = Some lun }
said_with (to_target.SimpleTag n) said = record said { tag = tags.Simple n }
said_with (to_target.HeadTag n) said = record said { tag = tags.Head n }
said_with (to_target.OrderedTag n) said = record said { tag = tags.Ordered n }
said_with (to_target.Sdtr offer) said = record said { offer = Some offer }
said_with to_target.Abort said = record said { aborts = Some aborts.All }
said_with to_target.AbortTag said = record said { aborts = Some (aborts.Tag (tag_number said.tag)) }
said_with to_target.ClearQueue said = record said { aborts = Some aborts.WholeQueue }
said_with to_target.DeviceReset said = record said { aborts = Some aborts.Device }
said_with _ said = said

abbrev pub said_with_if : Option MsgOut → Said → Said
said_with_if None said = said
said_with_if (Some m) said = said_with m said

-- It heard a byte of MESSAGE OUT, which made this message whole; the one before it was the last or not.
abbrev pub plan_anew_if : Bool → Plan → Plan
plan_anew_if is_last p = if is_last then plan_anew p else p

abbrev pub plan_after_message : Plan → Bool → Option MsgOut → Plan
plan_after_message p is_last m = record (plan_anew_if is_last p) { said = said_with_if m (plan_anew_if is_last p).said }

abbrev pub struck_plan : Plan → Plan
struck_plan p = record p { struck = true }

-- ---- the bytes of its messages, one after the other

abbrev pub message_bytes : Option MsgIn → List ℕ
message_bytes None = []
message_bytes (Some m) = in_bytes m

abbrev pub bytes_of_messages : Messages → List ℕ
bytes_of_messages m = message_bytes m.first ++ message_bytes m.second

-- The message in which this byte stands, counted from 0, and that after it.
abbrev pub from_byte : Messages → ℕ → Messages
from_byte m n = if nat_lt n (length (message_bytes m.first)) then m else record { first = m.second; second = None }
