-- What the two ends of a connection have to do in the phase, each by what it knows.
use Rattle.std.specs.Prelude.{ℕ, Bool, ◌&&◌, Option, Some, None, nat_lt, if◌then◌else◌}
use Rattle.story_model.specs.bus_trace.specs.LineSet.{LineSet}
use Rattle.story_model.specs.bus_trace.specs.declared.agreements.Agreement.{Agreement}
use Rattle.story_model.specs.bus_trace.specs.Agreements.{times_of}
use Rattle.story_model.specs.bus_phases.specs.declared.words.End.{End}
use Rattle.story_model.specs.bus_phases.specs.declared.words.End.TheVariants as ends
use Rattle.story_model.specs.bus_phases.specs.Dialogue.{is_of_other}
use Rattle.story_model.specs.bus_trace.specs.Phases.{is_data, is_command}
use Rattle.scenario.specs.declared.value.HostDef.{HostDef}
use Rattle.scenario.specs.declared.value.TargetDef.{TargetDef}
use Rattle.reaction_model.specs.declared.ends.Pace.{Pace}
use Rattle.reaction_model.specs.declared.ends.Offering.{Offering}
use Rattle.reaction_model.specs.declared.ends.Answering.{Answering}
use Rattle.reaction_model.specs.bus_lines.specs.Handshakes.{Handshakes}
use Rattle.dialogue_model.specs.declared.exchange.Leaving.{Leaving}
use Rattle.dialogue_model.specs.Exchange.{Speech, attends_with}
use Rattle.dialogue_model.specs.Arrivals.{policy_of}
use Rattle.dialogue_model.specs.NextPhase.{Serving, phase_of, waits_seek, leaving_by}
use Rattle.dialogue_model.specs.PhaseBytes.{phase_byte, run_length_if, follows_in, lines_by}
use Rattle.dialogue_model.specs.Sending.{Sending, byte_to_send}

-- ---- how bytes cross

-- A data phase under an agreement with an offset is pulsed (6.1.5.2).
abbrev pub is_pulsed_phase : Bool → LineSet → Agreement → Bool
is_pulsed_phase begun bus a = begun && is_data bus && nat_lt 0 a.offset

-- The lag of an initiator; a target has none.
abbrev pub lag_by : Option HostDef → ℕ
lag_by None = 0
lag_by (Some h) = h.lag

abbrev pub pace_by : Bool → LineSet → Agreement → Option HostDef → Pace
pace_by begun bus a host = record {
  pulsed = is_pulsed_phase begun bus a;
  offset = a.offset;
  times = times_of a.period;
  lag = lag_by host;
}

-- ---- the target

abbrev pub seek_by : Option TargetDef → ℕ
seek_by None = 0
seek_by (Some t) = t.seek

-- COMMAND is left after the seek time, where the command runs at once.
abbrev pub seek_before : Serving → LineSet → ℕ
seek_before v bus = if is_command bus && waits_seek v.plan v.arrival then seek_by v.def else 0

-- Whether a byte follows; a data run of pulses has one for each REQ.
abbrev pub follows_by : Serving → Bool → LineSet → Handshakes → Bool
follows_by v pulsed bus r =
    if pulsed then nat_lt r.requests (run_length_if (policy_of v.def) v.task) else follows_in v r bus.atn (phase_of bus)

abbrev pub leaving_lines : Serving → LineSet → Leaving → LineSet
leaving_lines v bus l = lines_by v bus.io l l.to

abbrev pub offering_by : Serving → Bool → Bool → LineSet → Handshakes → Offering
offering_by v begun pulsed bus r = record {
  byte = phase_byte v (phase_of bus) v.plan.messages 0 r.requests;
  follows = follows_by v pulsed bus r;
  to = leaving_lines v bus (leaving_by v begun bus);
  wait = seek_before v bus;
}

-- ---- the initiator

-- It asks for MESSAGE OUT where a synchronous data transfer request of the target is open; `raised` is when it last
-- raised ACK.
abbrev pub answering_by : Speech → Sending → LineSet → Option End → ℕ → Answering
answering_by speech sending bus offer raised = record {
  byte = byte_to_send bus speech sending;
  attends = attends_with speech;
  speaks = is_of_other offer ends.Initiator;
  raised = raised;
}
