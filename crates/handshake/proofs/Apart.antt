-- What the device adds to a row, and what it does as it leaves the phase, changes nothing in the phase.
use Rattle.std.proofs.Common.{ℕ, ◌≡◌, Bool, true, false, Option, Some, None, refl}
use Rattle.std.specs.Prelude.{not, ◌&&◌, ◌||◌, ◌==◌, length, if◌then◌else◌}
use Rattle.bus_trace.specs.LineSet.{LineSet, none}
use Rattle.bus_lines.specs.Handshakes.{Handshakes}
use Rattle.reaction_model.specs.declared.due.Due.{Due}
use Rattle.reaction_model.specs.declared.due.Myself.{Myself}
use Rattle.reaction_model.specs.declared.sight.Sight.{Sight}
use Rattle.reaction_model.specs.declared.ends.Pace.{Pace}
use Rattle.reaction_model.specs.declared.ends.Offering.{Offering}
use Rattle.reaction_model.specs.declared.ends.Answering.{Answering}
use Rattle.reaction_model.specs.Target.{target_handshake, target_pulse}
use Rattle.reaction_model.specs.Initiator.{initiator_turn, initiator_handshake}
use Rattle.reaction_model.specs.Ends.{owes_release}
use Rattle.handshake.specs.Steps.{answering_by}
use Rattle.handshake.specs.Telling.{without_atn, AttentionIsApart, LeavingIsApart}

-- ---- ATN

both : (q : Bool) (x y u w : Option Due) → without_atn x ≡ without_atn u → without_atn y ≡ without_atn w →
    without_atn (if q then x else y) ≡ without_atn (if q then u else w)
both true x y u w e f = e
both false x y u w e f = f

abbrev plain : Answering → Answering
plain a = answering_by a.raised (Some a.byte)

turn : (v : Sight) (h : Handshakes) (me : Myself) (a : Answering) →
    without_atn (initiator_turn v h me a) ≡ without_atn (initiator_turn v h me (plain a))
turn v h me a =
    both (not v.bus.req) _ _ _ _ refl (both v.bus.io _ _ _ _ refl (both (me.own.data_bits == 0) _ _ _ _ refl refl))

handshake : (v : Sight) (h : Handshakes) (me : Myself) (a : Answering) →
    without_atn (initiator_handshake v h me a) ≡ without_atn (initiator_handshake v h me (plain a))
handshake v h me a = both me.own.ack _ _ _ _ refl (turn v h me a)

pub attention : AttentionIsApart
attention v h me p a =
    both me.own.bsy _ _ _ _ refl
    (both p.pulsed _ _ _ _ refl (both (owes_release v me) _ _ _ _ refl (handshake v h me a)))

-- ---- the end of the phase

-- Byte by byte: `z` is what the target does as it leaves the phase.
handshake_by : (req ack first follows : Bool) (a x y z u : Option Due) → (follows || req || false) ≡ true →
    (if req then (if ack then a else None) else if ack then None else if first then x else if follows then y else z)
    ≡ (if req then (if ack then a else None) else if ack then None else if first then x else if follows then y else u)
handshake_by true ack first follows a x y z u e = refl
handshake_by false true first follows a x y z u e = refl
handshake_by false false first true a x y z u e = refl
handshake_by false false first false a x y z u e = absurd cc

-- By pulses, where no byte follows.
pulse_by : (req first io empty waits : Bool) (a x c z u : Option Due) →
    (req || (io && not first && not empty)) ≡ true →
    (if req then a else if first then x else if io && not empty then c else if waits then None else z)
    ≡ (if req then a else if first then x else if io && not empty then c else if waits then None else u)
pulse_by true first io empty waits a x c z u e = refl
pulse_by false true io empty waits a x c z u e = refl
pulse_by false false true true waits a x c z u e = absurd cc
pulse_by false false true false waits a x c z u e = refl
pulse_by false false false empty waits a x c z u e = absurd cc

abbrev offering : Bool → ℕ → LineSet → ℕ → Offering
offering follows byte to wait = record { byte = byte; follows = follows; to = to; wait = wait }

abbrev is_holding : Sight → Handshakes → Myself → Bool
is_holding v h me = v.bus.io && not (h.requests == 0) && not (me.own.data_bits == 0)

pulses : (v : Sight) (h : Handshakes) (me : Myself) (p : Pace) (follows : Bool) (byte : ℕ) (to : LineSet) (wait : ℕ) →
    (follows || me.own.req || is_holding v h me) ≡ true →
    target_pulse v h me p (offering follows byte to wait) ≡ target_pulse v h me p (offering follows byte none 0)
pulses v h me p true byte to wait e = refl
pulses v h me p false byte to wait e =
    pulse_by me.own.req (h.requests == 0) v.bus.io (me.own.data_bits == 0) (not (length h.waiting == 0) || v.bus.ack)
    _ _ _ _ _ e

either_pace : (q : Bool) (v : Sight) (h : Handshakes) (me : Myself) (p : Pace) (g : Offering) →
    (g.follows || me.own.req || (q && v.bus.io && not (h.requests == 0) && not (me.own.data_bits == 0))) ≡ true →
    (if q then target_pulse v h me p g else target_handshake v h me g)
    ≡ (if q then target_pulse v h me p (offering g.follows g.byte none 0)
    else target_handshake v h me (offering g.follows g.byte none 0))
either_pace true v h me p g e = pulses v h me p g.follows g.byte g.to g.wait e
either_pace false v h me p g e = handshake_by me.own.req v.bus.ack (h.requests == 0) g.follows _ _ _ _ _ e

pub leaving : LeavingIsApart
leaving v h me p g more = either_pace p.pulsed v h me p g more
