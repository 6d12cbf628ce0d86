-- What the messages of a connection say (6.6): the agreement of its two devices, an open offer, and how many
-- bytes of the command have crossed.
--
-- Messages that do not count are taken away again. A MESSAGE IN message, whole or broken off, is void where the
-- next message of the connection in either direction is MESSAGE PARITY ERROR: so what holds without it is kept
-- beside what holds with it, until the next message. The bytes of MESSAGE OUT begin anew with a byte after one
-- that crossed with ATN false in the same phase: so what held when the phase began is kept too.
use Rattle.std.specs.Prelude.{ℕ, Bool, true, false, not, ◌%◌, ◌&&◌, ◌==◌, List, [], ◌∷◌, ◌++◌, Option, Some, None}
use Rattle.std.specs.Prelude.{is_some, if◌then◌else◌}
use Rattle.bus_base.specs.Faults.{counted_on}
use Rattle.bus_trace.specs.LineSet.{LineSet}
use Rattle.bus_trace.specs.Trace.{bus}
use Rattle.bus_trace.specs.declared.agreements.Agreement.{Agreement}
use Rattle.bus_trace.specs.declared.Row.{Row}
use Rattle.msg_grammar.specs.declared.message.Got.{Got}
use Rattle.msg_grammar.specs.declared.message.Got.TheVariants.{Whole, More, Unknown}
use Rattle.msg_grammar.specs.declared.message.MsgOut.{MsgOut}
use Rattle.msg_grammar.specs.declared.message.MsgOut.TheVariants as to_target
use Rattle.msg_grammar.specs.declared.message.MsgIn.{MsgIn}
use Rattle.msg_grammar.specs.declared.message.MsgIn.TheVariants as to_initiator
use Rattle.msg_grammar.specs.Messages.{got_out, got_in}
use Rattle.bus_trace.specs.declared.changes.Change.{Change}
use Rattle.bus_trace.specs.declared.connection.Connection.{Connection}
use Rattle.bus_phases.specs.declared.words.Word.{Word}
use Rattle.bus_phases.specs.declared.words.Word.TheVariants as words
use Rattle.bus_phases.specs.declared.words.End.{End}
use Rattle.bus_phases.specs.declared.words.End.TheVariants as ends
use Rattle.bus_phases.specs.declared.spoken.Spoken.{Spoken}
use Rattle.bus_phases.specs.declared.spoken.CommandBytes.{CommandBytes}
use Rattle.bus_phases.specs.declared.spoken.Heard.{Heard}
use Rattle.bus_phases.specs.declared.dialogue.Dialogue.{Dialogue}
use Rattle.bus_trace.specs.Changes.{change_of}
use Rattle.bus_trace.specs.Terms.{connection, receiver_of}
use Rattle.bus_phases.specs.Half.{left_of}
use Rattle.bus_trace.specs.Phases.{is_message_out, is_message_in, is_command, changes_phase}

-- ---- what a message says, as far as the rules ask

abbrev pub word_out : MsgOut → Word
word_out (to_target.Sdtr offer) = words.Offer offer
word_out to_target.Reject = words.Reject
word_out to_target.DeviceReset = words.DeviceReset
word_out to_target.ParityError = words.ParityError
word_out _ = words.Other

abbrev pub word_in : MsgIn → Word
word_in (to_initiator.Sdtr offer) = words.Offer offer
word_in to_initiator.Reject = words.Reject
word_in to_initiator.RestorePointers = words.Restore
word_in _ = words.Other

-- ---- what the messages so far say

-- Nothing but an agreement.
abbrev pub no_command : CommandBytes
no_command = record { first = 0; count = 0 }

abbrev pub nothing_spoken : Agreement → Spoken
nothing_spoken agreement =
    record { agreement = agreement; offer = None; answered = None; command = no_command; device_reset = false }

abbrev pub asynchronous : Agreement
asynchronous = record { period = 0; offset = 0 }

abbrev pub without_offset : Agreement → Agreement
without_offset a = record a { offset = 0 }

abbrev pub is_same_end : End → End → Bool
is_same_end ends.Initiator ends.Initiator = true
is_same_end ends.Target ends.Target = true
is_same_end ends.Initiator ends.Target = false
is_same_end ends.Target ends.Initiator = false

-- It is of the other end.
abbrev pub is_of_other : Option End → End → Bool
is_of_other None end = false
is_of_other (Some e) end = not (is_same_end e end)

-- A synchronous data transfer request (6.6.21) answers where one of the other end is open, and sets the
-- agreement. Otherwise it is open itself, in place of an earlier one of the same end.
abbrev pub spoken_with_offer : Spoken → End → Agreement → Spoken
spoken_with_offer s end a =
    if is_of_other s.offer end then record s { agreement = a; offer = None; answered = Some end }
    else record s { offer = Some end; answered = None }

-- MESSAGE REJECT closes an open request of the other end; and it may follow an answering one of the other end
-- as the next message. In both cases data transfer is asynchronous from then on.
abbrev pub spoken_with_reject : Spoken → End → Spoken
spoken_with_reject s end =
    if is_of_other s.offer end then record s { agreement = without_offset s.agreement; offer = None; answered = None }
    else if is_of_other s.answered end then record s { agreement = without_offset s.agreement; answered = None }
    else record s { answered = None }

abbrev pub spoken_with_word : Spoken → End → Word → Spoken
spoken_with_word s end (words.Offer a) = spoken_with_offer s end a
spoken_with_word s end words.Reject = spoken_with_reject s end
spoken_with_word s end words.Restore = record s { command = no_command; answered = None }
spoken_with_word s end words.DeviceReset =
    record s { agreement = without_offset s.agreement; device_reset = true; answered = None }
spoken_with_word s end words.ParityError = record s { answered = None }
spoken_with_word s end words.Other = record s { answered = None }

-- ---- void messages

abbrev pub void_or_now : Option Spoken → Spoken → Spoken
void_or_now None now = now
void_or_now (Some s) now = s

-- What held without the last message, where that came in MESSAGE IN, holds again with MESSAGE PARITY ERROR.
abbrev pub heard_with_out : Heard → Word → Heard
heard_with_out h words.ParityError =
    record { now = spoken_with_word (void_or_now h.void h.now) ends.Initiator words.ParityError; void = None }
heard_with_out h word = record { now = spoken_with_word h.now ends.Initiator word; void = None }

-- A MESSAGE IN message begins, and one that is whole is heard.
abbrev pub heard_before_in : Heard → Heard
heard_before_in h = record { now = h.now; void = Some h.now }

abbrev pub heard_with_in : Heard → Word → Heard
heard_with_in h word = record h { now = spoken_with_word h.now ends.Target word }

-- ---- bytes of the command

abbrev pub command_on : CommandBytes → ℕ → CommandBytes
command_on k byte = record { first = if k.count == 0 then byte else k.first; count = counted_on k.count }

abbrev pub spoken_with_byte : Spoken → ℕ → Spoken
spoken_with_byte s byte = record s { command = command_on s.command byte }

abbrev pub void_with_byte : Option Spoken → ℕ → Option Spoken
void_with_byte None byte = None
void_with_byte (Some s) byte = Some (spoken_with_byte s byte)

abbrev pub heard_with_command : Heard → ℕ → Heard
heard_with_command h byte = record { now = spoken_with_byte h.now byte; void = void_with_byte h.void byte }

-- ---- a connection, row by row

abbrev pub opened : Agreement → Dialogue
opened a = record {
  heard = record { now = nothing_spoken a; void = None };
  at_phase = record { now = nothing_spoken a; void = None };
  is_last = false;
  half = [];
  fresh = [];
  begun = false;
}

abbrev pub heard_out : Heard → Got MsgOut → Heard
heard_out h (Whole m n) = heard_with_out h (word_out m)
heard_out h More = h
heard_out h Unknown = h

abbrev pub heard_in : Heard → Got MsgIn → Heard
heard_in h (Whole m n) = heard_with_in h (word_in m)
heard_in h More = h
heard_in h Unknown = h

-- A byte of MESSAGE OUT; where the last one crossed with ATN false, the bytes begin anew.
abbrev pub fresh_bytes : Dialogue → List ℕ
fresh_bytes d = if d.is_last then [] else d.fresh

abbrev pub fresh_heard : Dialogue → Heard
fresh_heard d = if d.is_last then d.at_phase else d.heard

abbrev pub byte_out : Dialogue → ℕ → Bool → Dialogue
byte_out d byte last = record d {
  heard = heard_out (fresh_heard d) (got_out (fresh_bytes d ++ byte ∷ []));
  is_last = last;
  half = left_of (got_out (d.half ++ byte ∷ [])) (d.half ++ byte ∷ []);
  fresh = left_of (got_out (fresh_bytes d ++ byte ∷ [])) (fresh_bytes d ++ byte ∷ []);
  begun = true;
}

abbrev pub heard_if_begun : List ℕ → Heard → Heard
heard_if_begun [] h = heard_before_in h
heard_if_begun (b ∷ bytes) h = h

abbrev pub byte_in : Dialogue → ℕ → Dialogue
byte_in d byte = record d {
  heard = heard_in (heard_if_begun d.half d.heard) (got_in (d.half ++ byte ∷ []));
  half = left_of (got_in (d.half ++ byte ∷ [])) (d.half ++ byte ∷ []);
  begun = true;
}

abbrev pub byte_else : Dialogue → LineSet → ℕ → Dialogue
byte_else d s byte =
    if is_command s then record d { heard = heard_with_command d.heard byte; begun = true } else record d {
      begun = true;
    }

-- A byte that crosses in the phase of these lines.
abbrev pub byte_crosses : Dialogue → Change → Dialogue
byte_crosses d c =
    if is_message_out c.before then byte_out d (c.after.data_bits % 256) (not c.after.atn)
    else if is_message_in c.before then byte_in d (c.after.data_bits % 256)
    else byte_else d c.before (c.after.data_bits % 256)

-- A phase begins.
abbrev pub phase_begins : Dialogue → Dialogue
phase_begins d = record d { at_phase = d.heard; is_last = false; half = []; fresh = [] }

abbrev pub dialogue_on : Dialogue → Option Connection → Change → Dialogue
dialogue_on d n c =
    if is_some (receiver_of n c) then byte_crosses d c
    else if changes_phase c then phase_begins d
    else d

-- ---- agreements

-- The agreements at the end of a connection: that of its devices is what the messages said; BUS DEVICE RESET
-- ended those of its target.
abbrev pub closed_agreement : Connection → Spoken → ℕ → ℕ → Agreement → Agreement
closed_agreement n s i t was =
    if i == n.initiator && t == n.target then s.agreement
    else if t == n.target && s.device_reset then asynchronous
    else was

abbrev pub closed_agreement_by : Option Connection → Bool → Spoken → ℕ → ℕ → Agreement → Agreement
closed_agreement_by None stands s i t was = was
closed_agreement_by (Some n) stands s i t was = if stands then was else closed_agreement n s i t was

abbrev pub dialogue_after : Dialogue → Option Connection → Option Connection → (ℕ → ℕ → Agreement) → Change → Dialogue
dialogue_after d before None agreed c = opened asynchronous
dialogue_after d None (Some n) agreed c = opened (agreed n.initiator n.target)
dialogue_after d (Some m) (Some n) agreed c = dialogue_on d (Some m) c

abbrev mutual
  -- The agreement of an initiator and a target before the connection that stands, if one does. RST ends all.
  pub agreed : List Row → ℕ → ℕ → Agreement
  agreed [] i t = asynchronous
  agreed (row ∷ rows) i t =
      if (bus (row ∷ rows)).rst then asynchronous
      else closed_agreement_by (connection rows) (bus (row ∷ rows)).bsy (dialogue rows).heard.now i t (agreed rows i t)

  -- What the messages of the connection that stands say.
  pub dialogue : List Row → Dialogue
  dialogue [] = opened asynchronous
  dialogue (row ∷ rows) =
      dialogue_after (dialogue rows) (connection rows) (connection (row ∷ rows)) (agreed rows) (change_of rows row)

-- A byte of DATA crosses, and makes nothing of a message.
abbrev pub takes_data : Dialogue → Bool → Dialogue
takes_data d crosses = if crosses then record d { begun = true } else d
