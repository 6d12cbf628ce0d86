-- With which messages a phase is left: with messages of one byte each; with the answer to an offer, or an offer, after
-- the opening; or with those again that MESSAGE PARITY ERROR refused (6.1.9, 6.6.13, 6.6.21).
use Rattle.transcript_laws.proofs
use proofs.Names.{◌≡◌, Bool, true, ◌&&◌, Option, refl, ◌||◌, is_none, MsgIn, Serving, phase_leaving, Cause, Leaving}
use proofs.Names.{Messages, Phase, OnMessages, is_short, RestoresNone}
use Rattle.progress_laws.specs.link_laws.proofs.LeavingWays as ways

abbrev pub is_brief : Option MsgIn → Bool
is_brief m = is_none m || is_short m

abbrev pub are_brief : Messages → Bool
are_brief m = is_brief m.first && is_brief m.second

pub data Leads (v : Serving) (phase : Phase) (l : Leaving) : Type 0 where
  briefly : are_brief l.messages ≡ true → Leads v phase l
  answers : phase ≡ Phase.MessageOut → v.plan.cause ≡ Cause.Selected → OnMessages RestoresNone l.messages
      → Leads v phase l
  again : phase ≡ Phase.MessageOut → v.plan.cause ≡ Cause.InMessage → l.messages ≡ v.plan.messages → Leads v phase l

leads : {v : Serving} {attention : Bool} {phase : Phase} {l : Leaving} → ways.Leaves v attention phase l
    → Leads v phase l
leads (ways.rejects _ o _) = answers refl o.cause (refl, tt)
leads (ways.answers _ o _) = answers refl o.cause (refl, tt)
leads (ways.requests _ o _ _) = answers refl o.cause (refl, tt)
leads (ways.repeats _ r) = again refl r.cause refl
leads _ = briefly refl

pub leads_from : (v : Serving) (attention : Bool) (phase : Phase) → Leads v phase (phase_leaving v attention phase)
leads_from v attention phase = leads (ways.leaves v attention phase)
