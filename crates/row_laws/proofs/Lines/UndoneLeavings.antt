-- What COMMAND, data and STATUS are left to MESSAGE IN with begins with a message of one byte.
use Rattle.row_laws.proofs
use proofs.Names.{◌≡◌, Bool, true, false, ◌∙◌, Option, Some, refl, sym, ap, wrong', Serving, phase_leaving, Leaving}
use proofs.Names.{Phase, is_detected, is_short}
use Rattle.link_laws.proofs.LeavingWays as ways

abbrev pub is_to_message_in : Option Phase → Bool
is_to_message_in (Some Phase.MessageIn) = true
is_to_message_in _ = false

again : {v : Serving} {attention : Bool} {l : Leaving} → ways.Leaves v attention Phase.MessageIn l
    → is_to_message_in l.to ≡ false
again (ways.restores _ _ _ f) = elim f [ ]
again (ways.saves _ _ m _ _) = elim m [ ]
again (ways.disconnects _ _ m _ _) = elim m [ ]
again _ = refl

-- MESSAGE IN is not left for MESSAGE IN.
pub not_again : (v : Serving) (attention : Bool)
    → is_to_message_in (phase_leaving v attention Phase.MessageIn).to ≡ false
not_again v attention = again (ways.leaves v attention Phase.MessageIn)

short : {v : Serving} {attention : Bool} {phase : Phase} {l : Leaving} → ways.Leaves v attention phase l
    → (phase ≡ Phase.MessageOut → is_detected v.plan.cause ≡ true) → is_to_message_in l.to ≡ true
    → is_short l.messages.first ≡ true
short (ways.rejects _ o _) h e = wrong' (sym (ap is_detected o.cause) ∙ h refl)
short (ways.answers _ o _) h e = wrong' (sym (ap is_detected o.cause) ∙ h refl)
short (ways.requests _ o _ _) h e = wrong' (sym (ap is_detected o.cause) ∙ h refl)
short (ways.repeats _ r) h e = wrong' (sym (ap is_detected r.cause) ∙ h refl)
short (ways.restores _ _ _ _) h e = refl
short (ways.restores_status _ _) h e = refl
short (ways.queues _ _) h e = refl
short (ways.saves _ _ _ _ _) h e = refl
short (ways.disconnects _ _ _ _ _) h e = refl
short (ways.completes _) h e = refl
short _ h e = wrong' e

pub leaves_short : (v : Serving) (attention : Bool) (phase : Phase)
    → (phase ≡ Phase.MessageOut → is_detected v.plan.cause ≡ true)
    → is_to_message_in (phase_leaving v attention phase).to ≡ true
    → is_short (phase_leaving v attention phase).messages.first ≡ true
leaves_short v attention phase = short (ways.leaves v attention phase)
