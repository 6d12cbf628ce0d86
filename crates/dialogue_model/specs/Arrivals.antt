-- What becomes of a command as it arrives (6.6.6, 7.8).
use Rattle.std.specs.Prelude.{Bool, true, false, ◌&&◌, Option, Some, None, if◌then◌else◌}
use Rattle.scenario.specs.declared.value.TargetDef.{TargetDef}
use Rattle.scenario.specs.declared.value.Policy.{Policy}
use Rattle.scenario.specs.declared.value.Policy.TheVariants as policies
use Rattle.dialogue_model.specs.declared.exchange.Arrival.{Arrival}
use Rattle.dialogue_model.specs.declared.exchange.Arrival.TheVariants as arrivals
use Rattle.dialogue_model.specs.declared.exchange.Room.{Room}

abbrev pub policy_of : Option TargetDef → Policy
policy_of None = policies.Never
policy_of (Some t) = t.disc

abbrev pub is_never : Policy → Bool
is_never policies.Never = true
is_never policies.Command = false
is_never (policies.Burst most) = false
is_never (policies.NoSave most) = false

-- At a full queue it is refused. Of a target that never disconnects, at a unit with no current process, an empty hold
-- and nothing that waits, it becomes current at once and runs in this connection.
abbrev pub arrival_in : Policy → Room → Arrival
arrival_in policy room =
    if room.full then arrivals.Refused
    else if is_never policy && room.idle then arrivals.AtOnce
    else arrivals.Queued

-- A REQUEST SENSE, and any command to a unit that is not there, stays outside the queue.
abbrev pub arrival_by : Policy → Bool → Option Room → Arrival
arrival_by policy senses None = arrivals.Guest
arrival_by policy senses (Some room) = if senses then arrivals.Guest else arrival_in policy room
