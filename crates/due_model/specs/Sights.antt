-- What each device knows after some rows, and what it wants or has to do: by what is kept of them.
use Rattle.std.specs.Prelude.{ℕ, ◌+◌, not, List, [], ◌∷◌, Option, Some, None, nat_le, if◌then◌else◌}
use Rattle.bus_rules.specs.bus_trace.specs.declared.Row.{Row}
use Rattle.bus_rules.specs.bus_trace.specs.Terms.{is_fault}
use Rattle.dialogue_model.specs.scenario.specs.declared.value.FaultDef.{FaultDef}
use Rattle.dialogue_model.specs.scenario.specs.Value.{ScenarioValue}
use Rattle.dialogue_model.specs.array_model.specs.Processes.{Process}
use Rattle.dialogue_model.specs.array_model.specs.Seats.{is_initiator}
use Rattle.dialogue_model.specs.story_model.specs.BusState.{RowReading}
use Rattle.dialogue_model.specs.story_model.specs.TraceHistory.{aim_of}
use Rattle.dialogue_model.specs.bus_lines.specs.declared.stage.Stage.{Stage}
use Rattle.dialogue_model.specs.reaction_model.specs.declared.sight.Sight.{Sight}
use Rattle.dialogue_model.specs.reaction_model.specs.declared.due.Want.{Want}
use Rattle.dialogue_model.specs.reaction_model.specs.declared.ends.Pace.{Pace}
use Rattle.dialogue_model.specs.reaction_model.specs.declared.ends.Offering.{Offering}
use Rattle.dialogue_model.specs.reaction_model.specs.declared.ends.Answering.{Answering}
use Rattle.bus_rules.specs.bus_trace.specs.Trace.{free_time}
use Rattle.dialogue_model.specs.bus_lines.specs.Stage.{stage_by}
use Rattle.dialogue_model.specs.declared.exchange.Phase.{Phase}
use Rattle.dialogue_model.specs.declared.exchange.Phase.TheVariants as phases
use Rattle.dialogue_model.specs.declared.exchange.Arrival.{Arrival}
use Rattle.dialogue_model.specs.declared.exchange.Arrival.TheVariants as arrivals
use Rattle.dialogue_model.specs.declared.exchange.Leaving.{Leaving}
use Rattle.dialogue_model.specs.declared.exchange.Hearing.{Hearing}
use Rattle.dialogue_model.specs.Arrivals.{policy_of}
use Rattle.dialogue_model.specs.NextPhase.{Serving, phase_of, phase_leaving, leaving_by}
use Rattle.dialogue_model.specs.declared.exchange.Messages.{Messages}
use Rattle.dialogue_model.specs.PhaseBytes.{phase_byte}
use Rattle.dialogue_model.specs.Sending.{Sending, nothing_to_send}
use Rattle.dialogue_model.specs.Ends.{pace_by, offering_by, answering_by}
use Rattle.due_model.specs.Own.{own_at}
use Rattle.due_model.specs.RunState.{RunState, bus_of, agreement_of, process_here, carried_here}
use Rattle.due_model.specs.Defs.{host_of, target_def_of}
use Rattle.dialogue_model.specs.Wants.{Ready}
use Rattle.due_model.specs.Wants.{ready_of, want_time, callee}
use Rattle.due_model.specs.Tasks.{task_of, given_of, arrival_of}

-- ---- any device: the bus

abbrev pub stage_of : RunState → Stage
stage_of k = stage_by (bus_of k).rst k.ages.rst k.story.bus_state.connection k.story.bus_state.call k.arbitration
    (free_time k.ages)

abbrev pub sight_of : RunState → Sight
sight_of k = record { bus = bus_of k; ages = k.ages; stage = stage_of k }

-- ---- on the way to a connection: what it wants of the bus

abbrev pub identify_byte : Option Ready → ℕ
identify_byte None = 0x80
identify_byte (Some r) = 0x80 + r.process.unit

abbrev pub want_of : ScenarioValue → RunState → ℕ → Want
want_of s k dev = record {
  since = want_time s k dev;
  callee = callee s k dev (aim_of k.story.aims dev);
  reselects = not (is_initiator s.hosts dev);
  first = identify_byte (ready_of s k dev);
}

-- The bit that the first fault which has not struck yet strikes in a sample of this time.
abbrev pub flip_of : List FaultDef → ℕ → Option ℕ
flip_of [] time = None
flip_of (f ∷ faults) time = if nat_le f.at time then Some f.bit else None

-- ---- in a connection: what a row tells its ends, and how bytes cross

abbrev pub hearing_of : RunState → Row → RowReading → Hearing
hearing_of k row d = record {
  change = d.change;
  crosses = d.crosses;
  out = d.out;
  into = d.into;
  fault = is_fault row.kind;
  begun = k.exchange.begun;
  is_last = k.story.bus_state.dialogue.is_last;
  offered = k.handshakes.requests;
  struck = k.handshakes.struck;
}

abbrev pub pace_of : ScenarioValue → RunState → ℕ → Pace
pace_of s k dev = pace_by k.exchange.begun (bus_of k) (agreement_of k) (host_of s dev)

-- ---- the target

-- What becomes of the command, where this is COMMAND.
abbrev pub arrival_at : ScenarioValue → RunState → ℕ → Phase → Arrival
arrival_at s k dev phases.Command = arrival_of s k (policy_of (target_def_of s dev))
arrival_at s k dev _ = arrivals.Queued

abbrev pub serving_at : ScenarioValue → RunState → ℕ → Phase → Serving
serving_at s k dev phase = record {
  def = target_def_of s dev;
  plan = k.exchange.plan;
  task = task_of s k;
  given = given_of s k;
  arrival = arrival_at s k dev phase;
}

abbrev pub serving_of : ScenarioValue → RunState → ℕ → Serving
serving_of s k dev = serving_at s k dev (phase_of (bus_of k))

abbrev pub leaving_at : ScenarioValue → RunState → ℕ → Phase → Leaving
leaving_at s k dev phase = phase_leaving (serving_at s k dev phase) (bus_of k).atn phase

abbrev pub leaving : ScenarioValue → RunState → ℕ → Leaving
leaving s k dev = leaving_by (serving_of s k dev) k.exchange.begun (bus_of k)

-- The byte at this place of a phase, before which so many more runs than yet will be made.
abbrev pub byte_of_phase : ScenarioValue → RunState → ℕ → Phase → Messages → ℕ → ℕ → ℕ
byte_of_phase s k dev phase messages more place = phase_byte (serving_at s k dev phase) phase messages more place

abbrev pub offering_of : ScenarioValue → RunState → ℕ → Offering
offering_of s k dev = offering_by (serving_of s k dev) k.exchange.begun (pace_of s k dev).pulsed (bus_of k) k.handshakes

-- ---- the initiator

abbrev pub sending_by : RunState → Option Process → Sending
sending_by k None = nothing_to_send
sending_by k (Some p) = record {
  cdb = p.cdb;
  sent = p.sent;
  command = (carried_here k p.id).command.active;
  moved = (carried_here k p.id).moved.active;
}

abbrev pub sending_of : ScenarioValue → RunState → Sending
sending_of s k = sending_by k (process_here s k)

abbrev pub answering_of : ScenarioValue → RunState → ℕ → Answering
answering_of s k dev = answering_by k.exchange.speech (sending_of s k)
    (bus_of k) k.story.bus_state.dialogue.heard.now.offer (own_at k.owns dev).ack
