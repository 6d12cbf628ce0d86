-- The two ends of a connection.
use Rattle.std.specs.Prelude.{ℕ, Bool, false, ◌==◌, Option, Some, None, if◌then◌else◌}
use Rattle.bus_rules.specs.bus_trace.specs.declared.changes.Change.{Change}
use Rattle.bus_rules.specs.bus_trace.specs.declared.connection.Connection.{Connection}
use Rattle.bus_rules.specs.bus_trace.specs.Terms.{receiver_in}
use Rattle.dialogue_model.specs.scenario.specs.Value.{ScenarioValue}
use Rattle.dialogue_model.specs.reaction_model.specs.declared.due.Due.{Due}
use Rattle.dialogue_model.specs.reaction_model.specs.declared.due.Myself.{Myself}
use Rattle.dialogue_model.specs.reaction_model.specs.Ends as hand
use Rattle.due_model.specs.RunState.{RunState}
use Rattle.due_model.specs.Sights.{sight_of, pace_of, offering_of, answering_of, flip_of}
use Rattle.bus_rules.specs.Order.{is_of_device}

-- ---- faults: the receiver of the byte that crossed in the last row samples it at once

abbrev pub is_receiver : Connection → Option Change → ℕ → Bool
is_receiver n None dev = false
is_receiver n (Some c) dev = is_of_device (receiver_in n c) dev

abbrev pub target_end_due : ScenarioValue → RunState → Myself → Option Due
target_end_due s k me =
    hand.target_due k.exchange.begun (sight_of k) k.handshakes me (pace_of s k me.dev) (offering_of s k me.dev)

abbrev pub initiator_end_due : ScenarioValue → RunState → Myself → Option Due
initiator_end_due s k me =
    hand.initiator_due k.exchange.begun (sight_of k) k.handshakes me (pace_of s k me.dev) (answering_of s k me.dev)

-- ---- either, and no third device

abbrev pub end_due : ScenarioValue → RunState → Myself → Connection → Option Due
end_due s k me n =
    if n.initiator == me.dev then initiator_end_due s k me
    else if n.target == me.dev then target_end_due s k me
    else None

abbrev pub connected_due : ScenarioValue → RunState → Myself → Connection → Option Due
connected_due s k me n =
    hand.sample_due (is_receiver n k.story.bus_state.crossed me.dev) k.last (flip_of k.faults k.last) (end_due s k me n)
