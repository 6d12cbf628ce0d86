-- The initiator of a connection waits for REQ.
use Rattle.std.specs.Prelude.{ℕ, Bool, true, false, not, ◌&&◌, ◌==◌}
use Rattle.bus_trace.specs.LineSet.{LineSet}

-- Byte by byte, while REQ is true and so is its ACK, or both are false, it does nothing, unless it still drives BSY, or
-- a byte of a phase by pulses that was left (6.1.4, 6.1.5.1, 6.1.5.2).
abbrev pub agree : Bool → Bool → Bool
agree true req = req
agree false req = not req

abbrev pub waits : LineSet → LineSet → Bool → Bool → Bool
waits own bus begun pulsed =
    agree own.ack bus.req && (begun && (not pulsed && (not own.bsy && not (bus.io && not (own.data_bits == 0)))))
