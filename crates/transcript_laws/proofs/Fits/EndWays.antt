-- As the target of a process' connection goes to BUS FREE: after messages that end the connection, or it gives up after
-- MESSAGE OUT that was no opening (6.1.1, 6.6.10, 6.6.13).
use Rattle.transcript_laws.proofs
use proofs.Names.{◌≡◌, ◌∙◌, Bool, false, Option, Some, None, refl, sym, ap, is_some, wrong, wrong', AbortKind, Serving}
use proofs.Names.{phase_leaving, Leaving, Next, Phase, Task, is_selected, none_some, goes_on}
use Rattle.progress_laws.specs.link_laws.proofs.LeavingWays as ways

pub data EndsBy (v : Serving) (attention : Bool) (phase : Phase) : Type 0 where
  by_messages : phase ≡ Phase.MessageIn → attention ≡ false → v.plan.next ≡ Next.FreeBus → EndsBy v attention phase
  by_giving_up : phase ≡ Phase.MessageOut → is_selected v.plan.cause ≡ false → EndsBy v attention phase

ends : {v : Serving} (t : Task) {attention : Bool} {phase : Phase} {l : Leaving} → ways.Leaves v attention phase l
    → v.task ≡ Some t → (phase ≡ Phase.MessageOut → v.plan.said.aborts ≡ None) → goes_on l ≡ false
    → EndsBy v attention phase
ends t (ways.unserved _ u) e none to = none_some t (sym u ∙ e)
ends t (ways.aborts _ a) e none to = wrong' (sym (ap (λ (o : Option AbortKind). is_some o) (none refl)) ∙ a)
ends t (ways.loses_message r) e none to = by_giving_up refl (ap is_selected r.cause)
ends t (ways.loses_status c) e none to = by_giving_up refl (ap is_selected c)
ends t (ways.frees a f) e none to = by_messages refl a f
ends t _ e none to = wrong to

pub ends_by : (v : Serving) (t : Task) (attention : Bool) (phase : Phase) → v.task ≡ Some t
    → (phase ≡ Phase.MessageOut → v.plan.said.aborts ≡ None) → goes_on (phase_leaving v attention phase) ≡ false
    → EndsBy v attention phase
ends_by v t attention phase = ends t (ways.leaves v attention phase)
