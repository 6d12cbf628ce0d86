-- What the connection that stands has carried so far, part by part. Messages that are void and bytes of MESSAGE OUT
-- that were begun anew leave no part (6.6.13, 6.1.9): a MESSAGE IN message is held until the next message of the
-- connection, and the messages of a MESSAGE OUT phase until the phase ends.
use Rattle.std.specs.Prelude.{ℕ, ◌%◌, Bool, true, false, not, ◌&&◌, ◌||◌, List, [], ◌∷◌, ◌++◌, Option, Some, None}
use Rattle.std.specs.Prelude.{is_some, if◌then◌else◌}
use Rattle.bus_trace.specs.LineSet.{LineSet}
use Rattle.bus_trace.specs.declared.rows.Kind.{Kind}
use Rattle.bus_trace.specs.declared.changes.Change.{Change}
use Rattle.bus_trace.specs.declared.connection.Connection.{Connection}
use Rattle.bus_trace.specs.Changes.{rises}
use Rattle.bus_trace.specs.Phases.{is_data, is_command, is_message_out, is_message_in, changes_phase}
use Rattle.bus_trace.specs.Terms.{is_fault}
use Rattle.msg_grammar.specs.declared.message.MsgOut.{MsgOut}
use Rattle.msg_grammar.specs.declared.message.MsgIn.{MsgIn}
use Rattle.msg_grammar.specs.declared.message.MsgIn.TheVariants as to_initiator
use Rattle.bus_phases.specs.Half.{is_nil}
use Rattle.story_model.specs.BusState.{BusState, RowReading}
use Rattle.story_model.specs.CarriedBytes.{is_status_phase}
use Rattle.bus_transcript.specs.declared.part.Incoming.{Incoming}
use Rattle.bus_transcript.specs.declared.part.Incoming.TheVariants.{Whole, Broken}
use Rattle.bus_transcript.specs.declared.part.Part.{Part}
use Rattle.bus_transcript.specs.declared.part.Part.TheVariants.{Out, In, BrokenOff, Command, Data, StatusPhase, Status}
use Rattle.bus_transcript.specs.declared.part.Part.TheVariants.{Completion}
use Rattle.story_model.specs.TraceHistory.{is_parity_error}

pub record OpenedValue : Type 0 where
  pub connection : Connection
  -- the parts that are settled, the oldest first
  pub parts : List Part
  -- a MESSAGE IN message, whole or broken off, that is the connection's last message, and the parts after it
  pub held : Option Incoming
  pub since : List Part
  -- the messages of the present MESSAGE OUT phase
  pub said : List MsgOut
  -- the bytes of the present COMMAND or DATA phase, and whether a fault struck one of them
  pub bytes : List ℕ
  pub struck : Bool

abbrev pub opened_connection : Connection → OpenedValue
opened_connection n =
    record { connection = n; parts = []; held = None; since = []; said = []; bytes = []; struck = false }

abbrev pub with_part : OpenedValue → Part → OpenedValue
with_part k part = record k { since = k.since ++ part ∷ [] }

-- ---- messages

abbrev pub incoming_part : Incoming → Part
incoming_part (Whole m) = In m
incoming_part Broken = BrokenOff

abbrev pub held_part : Option Incoming → List Part
held_part None = []
held_part (Some m) = incoming_part m ∷ []

-- The next message is there: the one that was held is void with MESSAGE PARITY ERROR.
abbrev pub settled : OpenedValue → Bool → OpenedValue
settled k void =
    record k { parts = k.parts ++ ((if void then [] else held_part k.held) ++ k.since); held = None; since = [] }

abbrev pub with_out : OpenedValue → MsgOut → OpenedValue
with_out k m = with_part (settled k (is_parity_error m)) (Out m)

abbrev pub with_all_out : OpenedValue → List MsgOut → OpenedValue
with_all_out k [] = k
with_all_out k (m ∷ ms) = with_all_out (with_out k m) ms

abbrev pub with_in : OpenedValue → Incoming → OpenedValue
with_in k m = record (settled k false) { held = Some m }

-- ---- the end of a phase

-- The messages of MESSAGE OUT stand.
abbrev pub spoken : OpenedValue → OpenedValue
spoken k = with_all_out (record k { said = [] }) k.said

-- A message that is broken off in MESSAGE IN is a message, too.
abbrev pub broken_off : OpenedValue → LineSet → List ℕ → OpenedValue
broken_off k s half = if is_message_in s && not (is_nil half) then with_in k Broken else k

abbrev pub data_parts : Bool → List ℕ → List Part
data_parts out [] = []
data_parts out (b ∷ bytes) = Data out (b ∷ bytes) ∷ []

-- What the phase of these lines has carried. It is left by its lines, or BSY falls or RST rises.
abbrev pub phase_parts : OpenedValue → LineSet → Bool → List Part
phase_parts k s left =
    if is_command s then Command k.bytes k.struck left ∷ []
    else if is_data s then data_parts (not s.io) k.bytes
    else []

abbrev pub with_phase : OpenedValue → LineSet → Bool → OpenedValue
with_phase k s left = record k { since = k.since ++ phase_parts k s left; bytes = []; struck = false }

abbrev pub phase_over : OpenedValue → LineSet → List ℕ → Bool → OpenedValue
phase_over k s half left = with_phase (broken_off (spoken k) s half) s left

abbrev pub phase_entered : OpenedValue → LineSet → OpenedValue
phase_entered k s = if is_status_phase s then with_part k StatusPhase else k

-- ---- a row in the connection

abbrev pub messages_of : Option MsgOut → List MsgOut
messages_of None = []
messages_of (Some m) = m ∷ []

-- A byte of MESSAGE OUT after one that crossed with ATN false begins the bytes of the phase anew.
abbrev pub with_said : OpenedValue → Bool → Option MsgOut → OpenedValue
with_said k anew out = record k { said = (if anew then [] else k.said) ++ messages_of out }

abbrev pub with_in_if : OpenedValue → Option MsgIn → OpenedValue
with_in_if k None = k
with_in_if k (Some m) = with_in k (Whole m)

abbrev pub with_crossing : OpenedValue → Bool → RowReading → OpenedValue
with_crossing k anew d =
    if is_message_out d.change.before then with_said k anew d.out
    else if is_message_in d.change.before then with_in_if k d.into
    else if is_status_phase d.change.before then with_part k (Status (d.change.after.data_bits % 256))
    else record k { bytes = k.bytes ++ d.change.after.data_bits % 256 ∷ [] }

abbrev pub is_complete : Option Incoming → Bool
is_complete (Some (Whole to_initiator.CommandComplete)) = true
is_complete _ = false

-- The initiator takes COMMAND COMPLETE (6.6.5).
abbrev pub is_completion : OpenedValue → List ℕ → Change → Bool
is_completion k half c =
    rises c.before.ack c.after.ack && is_message_in c.before && is_complete k.held && is_nil half && not c.after.atn

abbrev pub with_fault : OpenedValue → Bool → OpenedValue
with_fault k strikes = record k { struck = k.struck || strikes }

abbrev pub with_still_row : OpenedValue → BusState → Change → Kind → OpenedValue
with_still_row k w c kind =
    if is_completion k w.dialogue.half c then with_part k Completion
    else with_fault k (is_fault kind && is_some w.crossed)

abbrev pub with_row : OpenedValue → BusState → RowReading → Kind → OpenedValue
with_row k w d kind =
    if d.crosses then with_crossing k w.dialogue.is_last d
    else if changes_phase d.change then phase_entered (phase_over k d.change.before w.dialogue.half true) d.change.after
    else with_still_row k w d.change kind
