-- What an end of a connection does next. `begun` says that the first phase has begun.
use Rattle.std.specs.Prelude.{ℕ, ◌+◌, Bool, true, false, not, ◌&&◌, ◌==◌, Option, None, if◌then◌else◌}
use Rattle.bus_lines.specs.bus_trace.specs.LineSet.{LineSet, none}
use Rattle.reaction_model.specs.declared.due.Due.{Due}
use Rattle.reaction_model.specs.declared.due.Myself.{Myself}
use Rattle.reaction_model.specs.Reactions.{due_at, fault_or}
use Rattle.reaction_model.specs.declared.sight.Sight.{Sight}
use Rattle.reaction_model.specs.declared.ends.Pace.{Pace}
use Rattle.reaction_model.specs.declared.ends.Offering.{Offering}
use Rattle.reaction_model.specs.declared.ends.Answering.{Answering}
use Rattle.reaction_model.specs.declared.ends.Hand.{Hand}
use Rattle.reaction_model.specs.declared.ends.Hand.TheVariants.{Initiator, Target}
use Rattle.bus_lines.specs.Handshakes.{Handshakes}
use Rattle.reaction_model.specs.Target.{target_handshake, target_pulse}
use Rattle.reaction_model.specs.Initiator.{initiator_handshake, initiator_pulse, byte_release}

-- After a selection MESSAGE OUT begins when SEL is false (6.1.3, 6.1.9).
abbrev pub message_out_lines : LineSet
message_out_lines = record none { bsy = true; msg = true; cd = true }

abbrev pub message_out_start : Sight → Myself → Option Due
message_out_start v me = due_at (v.ages.sel + me.latency) message_out_lines

abbrev pub target_due : Bool → Sight → Handshakes → Myself → Pace → Offering → Option Due
target_due begun v b me p g =
    if not begun then message_out_start v me
    else if p.pulsed then target_pulse v b me p g
    else target_handshake v b me g

-- After a reselection it releases BSY when SEL is false. What it still drives of a pulsed phase that was left it
-- releases at the end of the hold time (6.1.4, 6.1.5.2).
abbrev pub bsy_release : Sight → Myself → Option Due
bsy_release v me = due_at (v.ages.sel + me.latency) (record me.own { bsy = false })

abbrev pub owes_release : Sight → Myself → Bool
owes_release v me = v.bus.io && not (me.own.data_bits == 0)

abbrev pub initiator_due : Bool → Sight → Handshakes → Myself → Pace → Answering → Option Due
initiator_due begun v b me p a =
    if me.own.bsy then bsy_release v me
    else if not begun then None
    else if p.pulsed then initiator_pulse v b me p a
    else if owes_release v me then byte_release me p a
    else initiator_handshake v b me a

-- The receiver of the byte that crossed in the last row samples it at once, at that time. Where a fault strikes a bit
-- of it, it makes the fault row first.
abbrev pub sample_due : Bool → ℕ → Option ℕ → Option Due → Option Due
sample_due true last flip plain = fault_or last flip plain
sample_due false last flip plain = plain

-- ---- either end; `flip` is the bit that a fault strikes of a byte that it has received in the last row

abbrev pub plain_due : Bool → Sight → Handshakes → Myself → Pace → Hand → Option Due
plain_due begun v b me p (Initiator a) = initiator_due begun v b me p a
plain_due begun v b me p (Target g) = target_due begun v b me p g

abbrev pub hand_due : Bool → ℕ → Option ℕ → Sight → Handshakes → Myself → Pace → Hand → Option Due
hand_due begun last flip v b me p h = fault_or last flip (plain_due begun v b me p h)
