-- Whether the target knows the command as it leaves a phase, by where it goes.
use Rattle.story_laws.proofs
use proofs.Names.{◌≡◌, Bool, true, false, not, Option, Some, None, refl, subst, ⊤, if◌then◌else◌, is_some, Serving}
use proofs.Names.{phase_leaving, Cause, Leaving, Next, Phase, KnownFor, KnownIn, KnownNext}
use Rattle.row_laws.specs.link_laws.proofs.LeavingWays as ways

-- What it knows fits the phase that it goes to; MESSAGE OUT but after a selection is told apart.
abbrev pub FitsPhase : Bool → Next → Option Phase → Type 0
FitsPhase known next None = ⊤
FitsPhase known next (Some Phase.MessageIn) = KnownNext known next
FitsPhase known next (Some Phase.MessageOut) = ⊤
FitsPhase known next (Some Phase.Command) = known ≡ false
FitsPhase known next (Some Phase.DataIn) = known ≡ true
FitsPhase known next (Some Phase.DataOut) = known ≡ true
FitsPhase known next (Some Phase.Status) = ⊤

abbrev pub Fits : Bool → Leaving → Type 0
Fits known l = FitsPhase known l.next l.to

-- Whether it knows the command after the phase is left.
abbrev pub known_after : Bool → Bool → Phase → Bool
known_after known struck Phase.Command = if known then true else not struck
known_after known struck _ = known

known_on : (known : Bool) (v : Serving) {atn : Bool} {phase : Phase} → ways.GoesOn v atn phase
    → KnownIn known v.plan phase → known_after known v.plan.struck phase ≡ true
known_on known v (ways.planned _ e) h = subst (KnownNext known) e h
known_on known v (ways.at_once e _) h = λ i. if h i then true else not (e i)
known_on known v (ways.guest e _) h = λ i. if h i then true else not (e i)

by_way : (known : Bool) (v : Serving) {atn : Bool} {phase : Phase} {l : Leaving} → ways.Leaves v atn phase l
    → KnownIn known v.plan phase
    → (phase ≡ Phase.MessageOut → v.plan.cause ≡ Cause.InMessage → is_some v.plan.said.offer ≡ true
    → v.plan.next ≡ Next.Command)
    → Fits (known_after known v.plan.struck phase) l
by_way known v (ways.rejects _ o _) h answers = subst (KnownFor known v.plan.next) o.cause h
by_way known v (ways.answers _ o _) h answers = subst (KnownFor known v.plan.next) o.cause h
by_way known v (ways.requests _ o _ _) h answers = subst (KnownFor known v.plan.next) o.cause h
by_way known v (ways.opens o _) h answers = subst (KnownFor known v.plan.next) o.cause h
by_way known v (ways.is_answered c e) h answers =
    subst (KnownNext known) (answers refl c e) (subst (KnownFor known v.plan.next) c h)
by_way known v (ways.repeats _ r) h answers = subst (KnownFor known v.plan.next) r.cause h
by_way known v (ways.restores _ _ _ (ways.command e)) h answers = λ i. if h i then true else not (e i)
by_way known v (ways.restores _ _ _ (ways.data_out _)) h answers = h
by_way known v (ways.restores _ _ _ (ways.data_in c)) h answers = subst (KnownFor known v.plan.next) c h
by_way known v (ways.commands _ e) h answers = subst (KnownNext known) e h
by_way known v (ways.reads _ _ g _) h answers = known_on known v g h
by_way known v (ways.writes _ _ g _) h answers = known_on known v g h
by_way known v _ h answers = tt

pub fits : (known : Bool) (v : Serving) (atn : Bool) (phase : Phase) → KnownIn known v.plan phase
    → (phase ≡ Phase.MessageOut → v.plan.cause ≡ Cause.InMessage → is_some v.plan.said.offer ≡ true
    → v.plan.next ≡ Next.Command) → Fits (known_after known v.plan.struck phase) (phase_leaving v atn phase)
fits known v atn phase = by_way known v (ways.leaves v atn phase)
