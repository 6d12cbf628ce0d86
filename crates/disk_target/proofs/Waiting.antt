-- The target of a connection that waits does nothing, whatever it has to do in the phase.
use Rattle.std.proofs.Common.{◌≡◌, Bool, true, false, refl, None}
use Rattle.std.specs.Prelude.{not, ◌&&◌, ◌==◌, if◌then◌else◌}
use Rattle.reaction_model.specs.declared.due.Myself.{Myself}
use Rattle.reaction_model.specs.declared.ends.Offering.{Offering}
use Rattle.reaction_model.specs.declared.ends.Pace.{Pace}
use Rattle.reaction_model.specs.Ends.{message_out_start}
use Rattle.reaction_model.specs.Target.{bits_if, byte_change, first_req, pulse_turn, req_negation, req_pulse_end}
use Rattle.reaction_model.specs.Target.{target_pulse, target_turn}
use Rattle.scenario.specs.declared.value.TargetDef.{TargetDef}
use Rattle.target_course.specs.scsi_device.specs.Told.{Told, pace_of}
use Rattle.target_course.specs.Dues.{due_of_offering, myself_by, offering_of_target, plain_by}
use Rattle.target_course.specs.States.{TargetState}
use Rattle.disk_target.specs.Waits.{drives_pulse, is_in_pulse, is_waiting, waits}

pub waiting_is : (d : TargetDef) (t : Told) (i : TargetState) → is_waiting t ≡ true → plain_by d t i ≡ None
waiting_is d t i e = go t.begun p.pulsed t.lines.req t.sight.bus.ack e
  where
    p : Pace
    p = pace_of t None

    me : Myself
    me = myself_by d t i

    g : Offering
    g = offering_of_target t i

    go : (begun pulsed req ack : Bool) → waits req ack begun pulsed ≡ true
        → (if not begun then message_out_start t.sight me
        else if pulsed then target_pulse t.sight t.handshakes me p g
        else if req then (if ack then req_negation t.sight me g else None)
        else if ack then None
        else target_turn t.sight t.handshakes me g)
        ≡ None
    go true false true false x = refl
    go true false false true x = refl
    go begun pulsed true true x = absurd cc
    go begun pulsed false false x = absurd cc
    go true true true false x = absurd cc
    go true true false true x = absurd cc
    go false pulsed true false x = absurd cc
    go false pulsed false true x = absurd cc

-- And where it drives a REQ pulse it ends that, whichever of two offerings it has.
pub pulse_ends : (d : TargetDef) (t : Told) (i : TargetState) (g h : Offering) → is_in_pulse t ≡ true
    → due_of_offering d t i (pace_of t None) g ≡ due_of_offering d t i (pace_of t None) h
pulse_ends d t i g h e = go t.lines.req t.begun p.pulsed e
  where
    p : Pace
    p = pace_of t None

    me : Myself
    me = myself_by d t i

    go : (req begun pulsed : Bool) → drives_pulse req begun pulsed ≡ true
        → (if not begun then message_out_start t.sight me else if pulsed then (if req then req_pulse_end t.sight me p
        else (if t.handshakes.requests == 0 then first_req t.sight me g else if t.sight.bus.io && not (me.own.data_bits
        == bits_if g.follows g.byte) then byte_change t.handshakes me p g else pulse_turn t.sight t.handshakes me p g))
        else (if req then (if t.sight.bus.ack then req_negation t.sight me g else None)
        else if t.sight.bus.ack then None else target_turn t.sight t.handshakes me g))
        ≡ (if not begun then message_out_start t.sight me else if pulsed then (if req then req_pulse_end t.sight me p
        else (if t.handshakes.requests == 0 then first_req t.sight me h else if t.sight.bus.io && not (me.own.data_bits
        == bits_if h.follows h.byte) then byte_change t.handshakes me p h else pulse_turn t.sight t.handshakes me p h))
        else (if req then (if t.sight.bus.ack then req_negation t.sight me h else None)
        else if t.sight.bus.ack then None else target_turn t.sight t.handshakes me h))
    go true true true x = refl
    go false begun pulsed x = absurd cc
    go true false pulsed x = absurd cc
    go true true false x = absurd cc
