-- Whereto the target leaves a phase: to another one; to MESSAGE OUT where ATN is true after bytes to the initiator.
use Rattle.link_laws.proofs
use proofs.Names.{◌≡◌, Bool, true, false, not, ◌&&◌, Option, Some, None, refl, ap, wrong', and_false, implies}
use proofs.Names.{is_message_out, Serving, phase_lines, data_out_leaving, phase_leaving, Leaving, Phase}
use proofs.Lines.Obeys.{same_phases}
use Rattle.link_laws.proofs.LeavingWays as ways

-- The target leaves the phase of these lines to BUS FREE, or to this one.
abbrev pub may_leave : (msg cd io atn : Bool) → Option Phase → Bool
may_leave msg cd io atn None = not (io && atn)
may_leave msg cd io atn (Some phase) =
    not (same_phases msg cd io (phase_lines phase).msg (phase_lines phase).cd (phase_lines phase).io)
    && implies (io && atn) (is_message_out (phase_lines phase))

-- Unattended: with ATN true, bytes to the initiator are followed by MESSAGE OUT.
may : {v : Serving} {phase : Phase} {l : Leaving} → ways.Leaves v false phase l
    → may_leave (phase_lines phase).msg (phase_lines phase).cd (phase_lines phase).io false l.to ≡ true
may (ways.attended _ _ e) = wrong' e
may (ways.unserved phase _) = ap not (and_false (phase_lines phase).io)
may (ways.restores _ _ _ (ways.command _)) = refl
may (ways.gives_up _ _ (ways.command _)) = refl
may (ways.reads _ _ (ways.planned _ _) _) = refl
may (ways.writes _ _ (ways.planned _ _) _) = refl
may (ways.moves_none _ _ (ways.planned _ _) _) = refl
may (ways.saves _ _ (ways.given _) _ _) = refl
may (ways.disconnects _ _ (ways.given _) _ _) = refl
may (ways.ends_runs _ _ (ways.given _) _) = refl
may _ = refl

pub leaves_well : (v : Serving) (phase : Phase) (atn : Bool)
    → may_leave (phase_lines phase).msg (phase_lines phase).cd (phase_lines phase).io atn
    (phase_leaving v atn phase).to ≡ true
leaves_well v Phase.MessageOut atn = may (ways.leaves v false Phase.MessageOut)
leaves_well v Phase.Command atn = may (ways.leaves v false Phase.Command)
leaves_well v Phase.DataOut atn = may (ways.leaves v false Phase.DataOut)
leaves_well v Phase.MessageIn true = refl
leaves_well v Phase.DataIn true = refl
leaves_well v Phase.Status true = refl
leaves_well v Phase.MessageIn false = may (ways.leaves v false Phase.MessageIn)
leaves_well v Phase.DataIn false = may (ways.leaves v false Phase.DataIn)
leaves_well v Phase.Status false = refl

-- DATA OUT is left to a phase to the initiator, or to BUS FREE.
abbrev pub is_to_initiator : Option Phase → Bool
is_to_initiator None = true
is_to_initiator (Some phase) = (phase_lines phase).io && not (not (phase_lines phase).msg && not (phase_lines phase).cd)

data_out : {v : Serving} {l : Leaving} → ways.Leaves v false Phase.DataOut l → is_to_initiator l.to ≡ true
data_out (ways.attended _ i _) = elim i [ ]
data_out (ways.reads _ _ g _) = elim g [ ]
data_out (ways.writes _ _ g _) = elim g [ ]
data_out _ = refl

pub data_out_to_initiator : (v : Serving) → is_to_initiator (data_out_leaving v).to ≡ true
data_out_to_initiator v = data_out (ways.leaves v false Phase.DataOut)
