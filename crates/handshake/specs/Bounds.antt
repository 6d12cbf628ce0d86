-- How far the times go that a reaction is computed from, so that no sum of them leaves 64 bits: every time lies before
-- 2 ^ 63 ns, and every delay is short.
use Rattle.std.specs.Prelude.{◌<◌, ◌≤◌, ◌^◌}
use Rattle.bus_lines.specs.Handshakes.{Handshakes}
use Rattle.bus_lines.specs.Timely.{AreHandshakesBefore}
use Rattle.bus_trace.specs.View.{AreTimesBefore}
use Rattle.reaction_model.specs.declared.due.Myself.{Myself}
use Rattle.reaction_model.specs.declared.sight.Sight.{Sight}
use Rattle.reaction_model.specs.declared.ends.Pace.{Pace}
use Rattle.reaction_model.specs.declared.ends.Hand.{Hand}
use Rattle.reaction_model.specs.declared.ends.Hand.TheVariants.{Initiator, Target}

abbrev pub IsSeen : Sight → Type 0
IsSeen v = AreTimesBefore (2 ^ 63) v.ages

abbrev pub IsTimed : Handshakes → Type 0
IsTimed h = AreHandshakesBefore (2 ^ 63) h

pub record IsReady (me : Myself) : Type 0 where
  pub latency : me.latency ≤ 100
  pub since : me.since < 2 ^ 63

pub record IsSteady (p : Pace) : Type 0 where
  pub period : p.times.period < 2 ^ 32
  pub assertion : p.times.assertion < 2 ^ 32
  pub negation : p.times.negation < 2 ^ 32
  pub set_up : p.times.set_up < 2 ^ 32
  pub hold : p.times.hold < 2 ^ 32
  pub lag : p.lag < 2 ^ 32

-- When the initiator last raised ACK; how long the target waits before it leaves the phase.
abbrev pub IsHandBefore : Hand → Type 0
IsHandBefore (Initiator a) = a.raised < 2 ^ 63
IsHandBefore (Target g) = g.wait < 2 ^ 62
