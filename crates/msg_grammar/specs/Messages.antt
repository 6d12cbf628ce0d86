-- The messages to the target and to the initiator: their first bytes, and their bytes.
use Rattle.std.specs.Prelude.{ℕ, ◌+◌, ◌-◌, ◌<◌, Bool, true, false, ◌&&◌, List, [], ◌∷◌, Option, nat_le, ◌==◌}
use Rattle.std.specs.Prelude.{if◌then◌else◌}
use Rattle.msg_grammar.specs.declared.message.Got.{Got}
use Rattle.msg_grammar.specs.declared.message.MsgOut.{MsgOut}
use Rattle.msg_grammar.specs.declared.message.MsgOut.TheVariants as to_target
use Rattle.msg_grammar.specs.declared.message.MsgIn.{MsgIn}
use Rattle.msg_grammar.specs.declared.message.MsgIn.TheVariants as to_initiator
use Rattle.msg_grammar.specs.Grammar.{Form, alone, tagged, extended, reserved, msg_by, got_by}

-- The byte is one of the eight from this one on, as the logical units of an IDENTIFY.
abbrev pub is_of_eight : ℕ → ℕ → Bool
is_of_eight first b = nat_le first b && nat_le b (first + 7)

-- ---- to the target

-- What each first byte of a message to the target begins. Proofs open it by name, since it is long.
unfoldable pub form_out : ℕ → Form MsgOut
form_out b =
    if b == 0x01 then extended to_target.Sdtr
    else if b == 0x05 then alone to_target.DetectedError
    else if b == 0x06 then alone to_target.Abort
    else if b == 0x07 then alone to_target.Reject
    else if b == 0x08 then alone to_target.Nop
    else if b == 0x09 then alone to_target.ParityError
    else if b == 0x0c then alone to_target.DeviceReset
    else if b == 0x0d then alone to_target.AbortTag
    else if b == 0x0e then alone to_target.ClearQueue
    else if b == 0x20 then tagged to_target.SimpleTag
    else if b == 0x21 then tagged to_target.HeadTag
    else if b == 0x22 then tagged to_target.OrderedTag
    else if is_of_eight 0x80 b then alone (to_target.Identify false (b - 0x80))
    else if is_of_eight 0xc0 b then alone (to_target.Identify true (b - 0xc0))
    else reserved

-- The message to the target of which these are all bytes.
abbrev pub msg_out_of : List ℕ → Option MsgOut
msg_out_of bytes = msg_by form_out bytes

-- What bytes to the target begin with.
abbrev pub got_out : List ℕ → Got MsgOut
got_out bytes = got_by form_out bytes

-- A logical unit is below 8.
abbrev pub FitsOut : MsgOut → Type 0
FitsOut (to_target.Identify disc lun) = lun < 8
FitsOut _ = Unit {0}

-- The bytes of a message to the target.
abbrev pub out_bytes : MsgOut → List ℕ
out_bytes (to_target.Identify disc lun) = (if disc then 0xc0 + lun else 0x80 + lun) ∷ []
out_bytes (to_target.SimpleTag tag) = 0x20 ∷ tag ∷ []
out_bytes (to_target.HeadTag tag) = 0x21 ∷ tag ∷ []
out_bytes (to_target.OrderedTag tag) = 0x22 ∷ tag ∷ []
out_bytes (to_target.Sdtr offer) = 0x01 ∷ 0x03 ∷ 0x01 ∷ offer.period ∷ offer.offset ∷ []
out_bytes to_target.Abort = 0x06 ∷ []
out_bytes to_target.AbortTag = 0x0d ∷ []
out_bytes to_target.ClearQueue = 0x0e ∷ []
out_bytes to_target.DeviceReset = 0x0c ∷ []
out_bytes to_target.DetectedError = 0x05 ∷ []
out_bytes to_target.ParityError = 0x09 ∷ []
out_bytes to_target.Reject = 0x07 ∷ []
out_bytes to_target.Nop = 0x08 ∷ []

-- ---- to the initiator

-- What each first byte of a message to the initiator begins. Proofs open it by name, too.
unfoldable pub form_in : ℕ → Form MsgIn
form_in b =
    if b == 0x00 then alone to_initiator.CommandComplete
    else if b == 0x01 then extended to_initiator.Sdtr
    else if b == 0x02 then alone to_initiator.SavePointer
    else if b == 0x03 then alone to_initiator.RestorePointers
    else if b == 0x04 then alone to_initiator.Disconnect
    else if b == 0x07 then alone to_initiator.Reject
    else if b == 0x20 then tagged to_initiator.SimpleTag
    else if is_of_eight 0x80 b then alone (to_initiator.Identify (b - 0x80))
    else reserved

-- The message to the initiator of which these are all bytes.
abbrev pub msg_in_of : List ℕ → Option MsgIn
msg_in_of bytes = msg_by form_in bytes

-- What bytes to the initiator begin with.
abbrev pub got_in : List ℕ → Got MsgIn
got_in bytes = got_by form_in bytes

-- A logical unit is below 8.
abbrev pub FitsIn : MsgIn → Type 0
FitsIn (to_initiator.Identify lun) = lun < 8
FitsIn _ = Unit {0}

-- The bytes of a message to the initiator.
abbrev pub in_bytes : MsgIn → List ℕ
in_bytes to_initiator.CommandComplete = 0x00 ∷ []
in_bytes to_initiator.SavePointer = 0x02 ∷ []
in_bytes to_initiator.RestorePointers = 0x03 ∷ []
in_bytes to_initiator.Disconnect = 0x04 ∷ []
in_bytes (to_initiator.Identify lun) = (0x80 + lun) ∷ []
in_bytes (to_initiator.SimpleTag tag) = 0x20 ∷ tag ∷ []
in_bytes (to_initiator.Sdtr offer) = 0x01 ∷ 0x03 ∷ 0x01 ∷ offer.period ∷ offer.offset ∷ []
in_bytes to_initiator.Reject = 0x07 ∷ []
