-- What REQ, ACK, ATN and the bytes have made so far as plain words, and what such words say. Any words say something.
use Rattle.std.specs.Prelude.{ℕ, ◌%◌, ◌==◌, Bool, List, take, Option, Some, None, if◌then◌else◌}
use Rattle.bus_trace.specs.Saved.{is_yes, time_in}
use Rattle.bus_phases.specs.declared.attention.Duty.{Duty}
use Rattle.bus_phases.specs.declared.attention.Duty.TheVariants as duties
use Rattle.bus_phases.specs.declared.pulses.Pulses.{Pulses}
use Rattle.bus_phases.specs.declared.words.End.{End}
use Rattle.bus_phases.specs.declared.words.End.TheVariants as ends
use Rattle.bus_phases.specs.declared.spoken.Spoken.{Spoken}
use Rattle.bus_phases.specs.declared.spoken.Heard.{Heard}
use Rattle.bus_phases.specs.declared.dialogue.Dialogue.{Dialogue}
use Rattle.bus_phases.specs.declared.saved.SavedPulses.{SavedPulses}
use Rattle.bus_phases.specs.declared.saved.SavedSpoken.{SavedSpoken}
use Rattle.bus_phases.specs.declared.saved.SavedHeard.{SavedHeard}
use Rattle.bus_phases.specs.declared.saved.SavedHalf.{SavedHalf}
use Rattle.bus_phases.specs.declared.saved.SavedDialogue.{SavedDialogue}

abbrev pub duty_in : ℕ → Duty
duty_in word = if word == 0 then duties.Nothing else if word == 1 then duties.Asked else duties.Owed

-- An end, if there is one.
abbrev pub end_in : ℕ → Option End
end_in word = if word == 0 then None else if word == 1 then Some ends.Initiator else Some ends.Target

abbrev pub pulses_in : SavedPulses → Pulses
pulses_in s = record { req = s.req; ack = s.ack; last_req = time_in s.last_req; last_ack = time_in s.last_ack }

abbrev pub spoken_in : SavedSpoken → Spoken
spoken_in s = record {
  agreement = record { period = s.period % 256; offset = s.offset % 256 };
  offer = end_in s.offer;
  answered = end_in s.answered;
  command = record { first = s.first % 256; count = s.count };
  device_reset = is_yes s.device_reset;
}

abbrev pub heard_in : SavedHeard → Heard
heard_in s = record { now = spoken_in s.said; void = if is_yes s.may_be_void then Some (spoken_in s.void) else None }

-- At most four bytes.
abbrev pub half_in : SavedHalf → List ℕ
half_in s = take (s.length % 5) s.bytes

abbrev pub dialogue_in : SavedDialogue → Dialogue
dialogue_in s = record {
  heard = heard_in s.heard;
  at_phase = heard_in s.at_phase;
  is_last = is_yes s.is_last;
  half = half_in s.half;
  fresh = half_in s.fresh;
  begun = is_yes s.begun;
}
