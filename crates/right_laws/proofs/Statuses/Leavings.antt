-- How MESSAGE IN follows another phase, as far as STATUS is concerned: COMMAND COMPLETE follows STATUS; messages that
-- were refused are said again; after INITIATOR DETECTED ERROR the pointers are restored for STATUS; else neither
-- COMMAND COMPLETE is said nor does STATUS follow (6.6.5, 6.6.10, 6.6.13).
use Rattle.right_laws.proofs
use proofs.Names.{◌≡◌, Bool, true, false, ◌∙◌, Option, Some, refl, sym, wrong', MsgIn, is_status_next as is_to_status}
use proofs.Names.{one_message, Serving, phase_leaving, Cause, Leaving, Messages, Next, Phase, is_to_message_in}
use proofs.Names.{frees_bus}
use Rattle.trace_laws.specs.link_laws.proofs.LeavingWays as ways

abbrev pub is_ending : Messages → Bool
is_ending m = go m.first
  where
    go : Option MsgIn → Bool
    go (Some MsgIn.CommandComplete) = true
    go _ = false

abbrev pub is_status_next : Next → Bool
is_status_next Next.Status = true
is_status_next _ = false

-- Neither COMMAND COMPLETE before the bus is freed, nor STATUS.
pub record IsOther (l : Leaving) : Type 0 where
  pub ends : is_ending l.messages ≡ true → frees_bus l.next ≡ false
  pub status : is_status_next l.next ≡ false

pub data FromIn (v : Serving) (l : Leaving) (phase : Phase) : Type 0 where
  completes : phase ≡ Phase.Status → FromIn v l phase
  repeats : phase ≡ Phase.MessageOut → v.plan.cause ≡ Cause.InMessage → l.messages ≡ v.plan.messages
      → l.next ≡ v.plan.next → FromIn v l phase
  restores : phase ≡ Phase.MessageOut → v.plan.cause ≡ Cause.InStatus → l.messages ≡ one_message MsgIn.RestorePointers
      → l.next ≡ Next.Status → FromIn v l phase
  others : IsOther l → FromIn v l phase

other : {v : Serving} {l : Leaving} {phase : Phase} → is_ending l.messages ≡ false → is_status_next l.next ≡ false
    → FromIn v l phase
other e f = others (record { ends = λ z. wrong' (sym e ∙ z); status = f })

by_way : {v : Serving} {atn : Bool} {phase : Phase} {l : Leaving} → ways.Leaves v atn phase l
    → is_to_message_in l.to ≡ true → FromIn v l phase
by_way (ways.completes _) e = completes refl
by_way (ways.repeats _ r) e = repeats refl r.cause refl refl
by_way (ways.restores_status _ c) e = restores refl c refl refl
by_way (ways.restores _ _ _ (ways.command _)) e = other refl refl
by_way (ways.restores _ _ _ (ways.data_out _)) e = other refl refl
by_way (ways.restores _ _ _ (ways.data_in _)) e = other refl refl
by_way (ways.rejects _ _ _) e = other refl refl
by_way (ways.answers _ _ _) e = other refl refl
by_way (ways.requests _ _ _ _) e = other refl refl
by_way (ways.queues _ _) e = other refl refl
by_way (ways.saves _ _ _ _ _) e = other refl refl
by_way (ways.disconnects _ _ _ _ _) e = other refl refl
by_way _ e = wrong' e

pub from_in : (v : Serving) (atn : Bool) (phase : Phase) → is_to_message_in (phase_leaving v atn phase).to ≡ true
    → FromIn v (phase_leaving v atn phase) phase
from_in v atn phase e = by_way (ways.leaves v atn phase) e

-- ---- how STATUS follows

-- After the pointers were restored for it; or of a process that runs, or has not arrived.
pub data ToStatus (v : Serving) (atn : Bool) (phase : Phase) : Type 0 where
  again : phase ≡ Phase.MessageIn → v.plan.next ≡ Next.Status → atn ≡ false → ToStatus v atn phase
  goes_on : phase ≡ Phase.MessageIn → v.plan.next ≡ Next.GoOn → ToStatus v atn phase
  gives_up : phase ≡ Phase.MessageOut → v.plan.cause ≡ Cause.InData → ToStatus v atn phase
  after_block : phase ≡ Phase.Command → ToStatus v atn phase
  after_data_in : phase ≡ Phase.DataIn → ToStatus v atn phase
  after_data_out : phase ≡ Phase.DataOut → ToStatus v atn phase

leads : {v : Serving} {atn : Bool} {phase : Phase} {l : Leaving} → ways.Leaves v atn phase l → is_to_status l.to ≡ true
    → ToStatus v atn phase
leads (ways.ends_in_status a n) e = again refl n a
leads (ways.gives_up _ _ (ways.data_in c)) e = gives_up refl c
leads (ways.gives_up _ _ (ways.command _)) e = after_block refl
leads (ways.gives_up _ _ (ways.data_out _)) e = after_data_out refl
leads (ways.moves_none _ _ (ways.planned _ n) _) e = goes_on refl n
leads (ways.moves_none _ _ (ways.at_once _ _) _) e = after_block refl
leads (ways.moves_none _ _ (ways.guest _ _) _) e = after_block refl
leads (ways.refuses _ _) e = after_block refl
leads (ways.ends_runs _ _ (ways.given _) _) e = after_data_in refl
leads (ways.ends_runs _ _ (ways.sent _) _) e = after_data_out refl
leads _ e = wrong' e

pub to_status : (v : Serving) (atn : Bool) (phase : Phase)
    → (phase ≡ Phase.Status → ⊥) → is_to_status (phase_leaving v atn phase).to ≡ true → ToStatus v atn phase
to_status v atn phase f e = leads (ways.leaves v atn phase) e
