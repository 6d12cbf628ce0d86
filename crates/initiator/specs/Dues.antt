-- What an initiator does next, and when, by what all devices are told and by what it knows itself.
use Rattle.std.specs.Prelude.{ℕ, ◌==◌, ◌&&◌, ◌||◌, not, Bool, true, false, Option, Some, None, if◌then◌else◌}
use Rattle.bus_trace.specs.LineSet.{LineSet}
use Rattle.bus_trace.specs.declared.connection.Connection.{Connection}
use Rattle.scenario.specs.declared.value.FaultDef.{FaultDef}
use Rattle.scenario.specs.declared.value.HostDef.{HostDef}
use Rattle.reaction_model.specs.declared.due.Due.{Due}
use Rattle.reaction_model.specs.declared.due.Myself.{Myself}
use Rattle.reaction_model.specs.declared.due.Want.{Want}
use Rattle.reaction_model.specs.declared.ends.Answering.{Answering}
use Rattle.reaction_model.specs.Linking.{link_due, sample_time}
use Rattle.reaction_model.specs.Ends as hand
use Rattle.reaction_model.specs.Reset.{with_reset}
use Rattle.due_model.specs.dialogue_model.specs.Ends.{answering_by}
use Rattle.initiator_books.specs.scsi_device.specs.Told.{Told, pace_of, flip_by}
use Rattle.initiator.specs.States.{InitiatorState}
use Rattle.due_model.specs.bus_rules.specs.Order.{is_of_device}

abbrev pub myself_by : HostDef → Told → InitiatorState → Myself
myself_by h t i = record { dev = h.dev; latency = h.latency; own = t.lines; since = i.own.row }

-- An initiator selects, and never reselects; the first byte after a reselection is a target's.
abbrev pub want_by : InitiatorState → Want
want_by i = record { since = i.since; callee = i.callee; reselects = false; first = 0x80 }

-- On its way to a connection (6.1.1 to 6.1.4).
abbrev pub link_by : HostDef → Told → Option FaultDef → InitiatorState → Option Due
link_by h t f i =
    link_due t.sight (myself_by h t i) (want_by i) (flip_by f (sample_time t.sight (myself_by h t i)))

-- In a connection of its own (6.1.5, 6.2.1); in one of others it does nothing.
abbrev pub answering_of_host : Told → InitiatorState → Answering
answering_of_host t i = answering_by i.speech i.sending t.sight.bus t.offer i.own.ack

-- Only where it may drive a byte next does it go by that: on REQ, or by pulses, in a phase to the target.
abbrev pub drives_byte : LineSet → LineSet → Bool → Bool
drives_byte own bus pulsed = not bus.io && (not own.ack && (pulsed || (bus.req && own.data_bits == 0)))

abbrev pub with_byte_if : Bool → Answering → Answering
with_byte_if drives a = record a { byte = if drives then a.byte else 0 }

abbrev pub plain_by : HostDef → Told → InitiatorState → Option Due
plain_by h t i =
    hand.initiator_due t.begun t.sight t.handshakes (myself_by h t i) (pace_of t (Some h)) (answering_of_host t i)

-- It samples a byte that crossed to it in the last row first.
abbrev pub hand_by : HostDef → Told → Option FaultDef → InitiatorState → Option Due
hand_by h t f i = hand.sample_due (is_of_device t.receiver h.dev) t.last (flip_by f t.last) (plain_by h t i)

abbrev pub connected_by : HostDef → Told → Option FaultDef → InitiatorState → Connection → Option Due
connected_by h t f i n = if n.initiator == h.dev then hand_by h t f i else None

-- While RST is true it goes by that, whatever stands (6.2.2).
abbrev pub calm_by : HostDef → Told → Option FaultDef → InitiatorState → Bool → Option Connection → Option Due
calm_by h t f i true n = link_by h t f i
calm_by h t f i false None = link_by h t f i
calm_by h t f i false (Some n) = connected_by h t f i n

-- The connection that stands, while RST is false.
abbrev pub stands_calm : Bool → Option Connection → Option Connection
stands_calm rst n = if rst then None else n

-- A reset of its own goes before all that (6.2.2).
abbrev pub initiator_next : HostDef → Told → Option FaultDef → InitiatorState → Option Due
initiator_next h t f i =
    with_reset (myself_by h t i) i.own.rst i.reset (calm_by h t f i t.sight.bus.rst t.connection)
