-- What a target does next, and when, by what all devices are told and by what it knows itself.
use Rattle.std.specs.Prelude.{◌+◌, ◌==◌, Bool, true, false, Option, Some, None, if◌then◌else◌}
use Rattle.bus_trace.specs.declared.connection.Connection.{Connection}
use Rattle.scenario.specs.declared.value.FaultDef.{FaultDef}
use Rattle.scenario.specs.declared.value.TargetDef.{TargetDef}
use Rattle.reaction_model.specs.declared.due.Due.{Due}
use Rattle.reaction_model.specs.declared.due.Myself.{Myself}
use Rattle.reaction_model.specs.declared.due.Want.{Want}
use Rattle.reaction_model.specs.declared.ends.Offering.{Offering}
use Rattle.reaction_model.specs.declared.ends.Pace.{Pace}
use Rattle.reaction_model.specs.Linking.{link_due, sample_time}
use Rattle.reaction_model.specs.Ends as hand
use Rattle.reaction_model.specs.Reset.{with_reset}
use Rattle.due_model.specs.dialogue_model.specs.Ends.{offering_by}
use Rattle.target_units.specs.declared.ready.Ready.{Ready}
use Rattle.target_units.specs.scsi_device.specs.Told.{Told, pace_of, flip_by}
use Rattle.target_course.specs.States.{TargetState}
use Rattle.due_model.specs.bus_rules.specs.Order.{is_of_device}

abbrev pub myself_by : TargetDef → Told → TargetState → Myself
myself_by d t i = record { dev = d.dev; latency = d.latency; own = t.lines; since = i.own.row }

-- A target reselects, for the unit that is ready first, and never selects; the first byte that it sends then is
-- IDENTIFY.
abbrev pub want_of_ready : Option Ready → Want
want_of_ready None = record { since = None; callee = None; reselects = true; first = 0x80 }
want_of_ready (Some r) =
    record { since = Some r.time; callee = Some r.initiator; reselects = true; first = 0x80 + r.unit }

-- On its way to a connection (6.1.1 to 6.1.4).
abbrev pub link_by : TargetDef → Told → Option FaultDef → TargetState → Option Due
link_by d t f i =
    link_due t.sight (myself_by d t i) (want_of_ready i.ready) (flip_by f (sample_time t.sight (myself_by d t i)))

-- In a connection of its own (6.1.5, 6.2.1); in one of others it does nothing. A target has no lag.
abbrev pub offering_of_target : Told → TargetState → Offering
offering_of_target t i = offering_by i.serving t.begun (pace_of t None).pulsed t.sight.bus t.handshakes

-- By REQ and ACK, where bytes cross so and it has this to do.
abbrev pub due_of_offering : TargetDef → Told → TargetState → Pace → Offering → Option Due
due_of_offering d t i p g = hand.target_due t.begun t.sight t.handshakes (myself_by d t i) p g

abbrev pub plain_by : TargetDef → Told → TargetState → Option Due
plain_by d t i = due_of_offering d t i (pace_of t None) (offering_of_target t i)

-- It samples a byte that crossed to it in the last row first.
abbrev pub hand_by : TargetDef → Told → Option FaultDef → TargetState → Option Due
hand_by d t f i = hand.sample_due (is_of_device t.receiver d.dev) t.last (flip_by f t.last) (plain_by d t i)

abbrev pub connected_by : TargetDef → Told → Option FaultDef → TargetState → Connection → Option Due
connected_by d t f i n = if n.target == d.dev then hand_by d t f i else None

-- While RST is true it goes by that, whatever stands (6.2.2).
abbrev pub calm_by : TargetDef → Told → Option FaultDef → TargetState → Bool → Option Connection → Option Due
calm_by d t f i true n = link_by d t f i
calm_by d t f i false None = link_by d t f i
calm_by d t f i false (Some n) = connected_by d t f i n

-- A reset of its own goes before all that (6.2.2).
abbrev pub target_next : TargetDef → Told → Option FaultDef → TargetState → Option Due
target_next d t f i = with_reset (myself_by d t i) i.own.rst i.reset (calm_by d t f i t.sight.bus.rst t.connection)
