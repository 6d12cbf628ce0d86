-- The seven states of a device on its way to a connection: what it knows and wants in each, which of them the view of
-- the bus shows, and to which its own rows lead.
use Rattle.std.specs.Prelude.{ℕ, Bool, true, false, ◌==◌, Option, Some, None, is_some, if◌then◌else◌}
use Rattle.bus_trace.specs.LineSet.{LineSet, none, same_set}
use Rattle.bus_trace.specs.declared.Connection.{Connection}
use Rattle.bus_lines.specs.declared.Stage.{Stage}
use Rattle.bus_lines.specs.declared.Stage.TheVariants.{OnFreeBus, InArbitration, InCalling, InAnswer, InConnection}
use Rattle.bus_lines.specs.declared.Stage.TheVariants.{InReset}
use Rattle.reaction_model.specs.declared.due.Myself.{Myself}
use Rattle.reaction_model.specs.declared.due.Want.{Want}
use Rattle.connect.specs.DeviceValue.{DeviceValue}
use Rattle.connect.specs.Devices.{no_want, device_driving, device_at}
use Rattle.connect.specs.declared.states.Link.{Link}
use Rattle.connect.specs.declared.states.Link.TheVariants as in_state

abbrev pub device_of : Link → DeviceValue
device_of (in_state.Idle l) = l.device
device_of (in_state.Waiting l) = l.device
device_of (in_state.Contending l) = l.device
device_of (in_state.Won l) = l.device
device_of (in_state.Calling l) = l.device
device_of (in_state.Answering l) = l.device
device_of (in_state.Linked l) = l.device

abbrev pub myself : Link → Myself
myself link = (device_of link).me

abbrev pub want_of : Link → Want
want_of link = (device_of link).want

-- Of a linked device the other end, and whether it is the target.
abbrev pub linked_peer : Link → Option (ℕ × Bool)
linked_peer (in_state.Linked l) = Some (l.peer, l.is_target)
linked_peer _ = None

-- Of an end of a connection the same, by the stage of the bus.
abbrev pub peer_in : ℕ → Connection → Option (ℕ × Bool)
peer_in dev n =
    if n.initiator == dev then Some (n.target, false)
    else if n.target == dev then Some (n.initiator, true)
    else None

abbrev pub peer_at : ℕ → Stage → Option (ℕ × Bool)
peer_at dev (InConnection n) = peer_in dev n
peer_at dev _ = None

-- ---- what the view shows: what it drives, and the connection of which it is an end

abbrev pub linked_state : DeviceValue → ℕ → Bool → Link
linked_state d peer is_target =
    in_state.Linked (record { device = record d { want = no_want }; peer = peer; is_target = is_target })

-- It is no end of a connection. Where it was one, it is idle.
abbrev pub link_apart : LineSet → Link → Link
link_apart own (in_state.Idle l) = in_state.Idle (record { device = device_driving l.device own })
link_apart own (in_state.Waiting l) = in_state.Waiting (record { device = device_driving l.device own })
link_apart own (in_state.Contending l) = in_state.Contending (record { device = device_driving l.device own })
link_apart own (in_state.Won l) = in_state.Won (record { device = device_driving l.device own })
link_apart own (in_state.Calling l) = in_state.Calling (record { device = device_driving l.device own })
link_apart own (in_state.Answering l) = in_state.Answering (record { device = device_driving l.device own })
link_apart own (in_state.Linked l) = in_state.Idle (record { device = device_driving l.device own })

abbrev pub link_in_connection : LineSet → Link → Connection → Link
link_in_connection own link n =
    if n.initiator == (myself link).dev then linked_state (device_driving (device_of link) own) n.target false
    else if n.target == (myself link).dev then linked_state (device_driving (device_of link) own) n.initiator true
    else link_apart own link

-- The state by the stage of the bus, where the device drives these lines.
abbrev pub present_link : LineSet → Link → Stage → Link
present_link own link (InConnection n) = link_in_connection own link n
present_link own link _ = link_apart own link

-- ---- a row of its own

-- It drives nothing: it waits where it wants the bus still, as after a lost arbitration or without an answer.
abbrev pub released_link : DeviceValue → Link
released_link d =
    if is_some d.want.since then in_state.Waiting (record { device = d }) else in_state.Idle (record { device = d })

-- Else the stage of the bus says what the row was; `contends` says whether it drove BSY before.
abbrev pub driving_link : Bool → DeviceValue → Stage → Link
driving_link contends d (OnFreeBus free) = in_state.Contending (record { device = d })
driving_link contends d (InArbitration a) =
    if contends then in_state.Won (record { device = d }) else in_state.Contending (record { device = d })
driving_link contends d (InCalling c) =
    if c.caller == d.me.dev then in_state.Calling (record { device = d })
    else in_state.Answering (record { device = d })
driving_link contends d (InAnswer c k answered) = in_state.Calling (record { device = d })
driving_link contends d (InConnection n) = in_state.Idle (record { device = d })
driving_link contends d (InReset since) = in_state.Idle (record { device = d })

abbrev pub link_by_row : Bool → DeviceValue → Stage → Link
link_by_row contends d stage = if same_set d.me.own none then released_link d else driving_link contends d stage

-- The connection of a linked device goes on.
abbrev pub link_after_row : Link → DeviceValue → Stage → Link
link_after_row (in_state.Linked l) d stage = in_state.Linked (record l { device = d })
link_after_row link d stage = link_by_row (myself link).own.bsy d stage

-- The next state drives what the row drives, since now; without a row it is what it was.
abbrev pub next_link : Link → ℕ → Stage → Option LineSet → Link
next_link link now stage None = link
next_link link now stage (Some lines) = link_after_row link (device_at (device_of link) lines now) stage
