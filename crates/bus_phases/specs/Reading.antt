-- What a byte makes of the bytes of a message, as they cross (6.6).
use Rattle.std.specs.Prelude.{ℕ, ◌%◌, List, [], ◌∷◌, ◌++◌, Option, is_some, if◌then◌else◌}
use Rattle.msg_grammar.specs.declared.message.Got.{Got}
use Rattle.msg_grammar.specs.declared.message.Got.TheVariants.{Whole, More, Unknown}
use Rattle.msg_grammar.specs.declared.message.MsgOut.{MsgOut}
use Rattle.msg_grammar.specs.declared.message.MsgOut.TheVariants as to_target
use Rattle.msg_grammar.specs.declared.message.MsgIn.{MsgIn}
use Rattle.msg_grammar.specs.declared.message.MsgIn.TheVariants as to_initiator
use Rattle.msg_grammar.specs.Messages.{got_out, got_in}
use Rattle.bus_trace.specs.declared.changes.Change.{Change}
use Rattle.bus_trace.specs.declared.connection.Connection.{Connection}
use Rattle.bus_phases.specs.declared.reading.Reading.{Reading}
use Rattle.bus_phases.specs.declared.reading.Reading.TheVariants as readings
use Rattle.bus_trace.specs.Terms.{receiver_of}
use Rattle.bus_trace.specs.Phases.{is_message_out, is_message_in}

-- Messages that may come first in a connection: to the target IDENTIFY, ABORT and BUS DEVICE RESET, to the
-- initiator IDENTIFY.
abbrev pub reading_of_out : MsgOut → Reading
reading_of_out (to_target.Identify disc lun) = readings.Opens
reading_of_out to_target.Abort = readings.Opens
reading_of_out to_target.DeviceReset = readings.Opens
reading_of_out _ = readings.Other

abbrev pub reading_of_in : MsgIn → Reading
reading_of_in (to_initiator.Identify lun) = readings.Opens
reading_of_in _ = readings.Other

abbrev pub reading_out : Got MsgOut → Reading
reading_out (Whole m n) = reading_of_out m
reading_out More = readings.Half
reading_out Unknown = readings.Unknown

abbrev pub reading_in : Got MsgIn → Reading
reading_in (Whole m n) = reading_of_in m
reading_in More = readings.Half
reading_in Unknown = readings.Unknown

-- The bytes of a message that is half sent, and the byte that crosses in this row, if one does in a MESSAGE
-- phase.
abbrev pub reading_of : List ℕ → Option Connection → Change → Reading
reading_of half n c =
    if is_some (receiver_of n c) then
    if is_message_out c.before then reading_out (got_out (half ++ c.after.data_bits % 256 ∷ []))
    else if is_message_in c.before then reading_in (got_in (half ++ c.after.data_bits % 256 ∷ []))
    else readings.NoMessage
    else readings.NoMessage
