-- COMMAND COMPLETE is planned as STATUS is left, or again where it was refused, and nowhere else (6.6.5, 6.6.13).
use Rattle.trace_laws.proofs
use proofs.Names.{ℕ, ◌≡◌, Bool, true, false, ◌∙◌, length, Option, Some, None, refl, sym, ap, if◌then◌else◌, nat_lt}
use proofs.Names.{wrong, wrong', MsgIn, is_complete, Link, last_in, one_message, from_byte, message_bytes, Serving}
use proofs.Names.{phase_leaving, Cause, Leaving, Messages, Next, Phase, OnMessage, IsPlainIn, is_complete_in, LastGiven}
use proofs.Names.{still_stays, to_close, to_save, EndsWell, closed, closes, saves}
use Rattle.story_laws.specs.LastTalks.{stays}
use Rattle.story_laws.specs.link_laws.proofs.LeavingWays as ways

pub data Completes (v : Serving) (phase : Phase) : Type 0 where
  in_status : phase ≡ Phase.Status → Completes v phase
  refused : phase ≡ Phase.MessageOut → v.plan.cause ≡ Cause.InMessage
      → v.plan.messages ≡ one_message MsgIn.CommandComplete → Completes v phase

by_way : {v : Serving} {attention : Bool} {phase : Phase} {l : Leaving} → ways.Leaves v attention phase l
    → l.messages ≡ one_message MsgIn.CommandComplete → Completes v phase
by_way (ways.completes _) e = in_status refl
by_way (ways.repeats _ r) e = refused refl r.cause e
by_way _ e = wrong' (ap (λ (m : Messages). is_complete_in m.first) e)

pub completes_from : (v : Serving) (attention : Bool) (phase : Phase)
    → (phase_leaving v attention phase).to ≡ Some Phase.MessageIn
    → (phase_leaving v attention phase).messages ≡ one_message MsgIn.CommandComplete → Completes v phase
completes_from v attention phase to e = by_way (ways.leaves v attention phase) e

-- ---- of the messages that are left it is the only one

second_other : (o : Option MsgIn) → OnMessage IsPlainIn o → is_complete_in o ≡ false
second_other None h = refl
second_other (Some m) h = go m (ap is_complete h)
  where
    go : (x : MsgIn) → is_complete (last_in x) ≡ false → is_complete_in (Some x) ≡ false
    go MsgIn.CommandComplete e = wrong e
    go _ e = refl

alone : (m : Messages) (i : ℕ) → is_complete_in m.second ≡ false → from_byte m i ≡ one_message MsgIn.CommandComplete
    → m ≡ one_message MsgIn.CommandComplete
alone m i other = go (nat_lt i (length (message_bytes m.first)))
  where
    go : (q : Bool) → (if q then m else record { first = m.second; second = None }) ≡ one_message MsgIn.CommandComplete
        → m ≡ one_message MsgIn.CommandComplete
    go true e = e
    go false e = wrong' (sym other ∙ ap (λ (x : Messages). is_complete_in x.first) e)

ends_alone : (m : Messages) (next : Next) → EndsWell m next → is_complete_in m.second ≡ false
ends_alone m next (stays f all) = second_other m.second all.1
ends_alone m next (closes f x one end) = ap (λ (y : Messages). is_complete_in y.second) one
ends_alone m next (saves f both) = ap (λ (y : Messages). is_complete_in y.second) both

pub left_alone : (l : Link) (m : Messages) (next : Next) (count i : ℕ) → LastGiven l m next count
    → from_byte m i ≡ one_message MsgIn.CommandComplete → m ≡ one_message MsgIn.CommandComplete
left_alone l m next count i (still_stays f all last) = alone m i (second_other m.second all.1)
left_alone l m next count i (to_close f x one end zero last) =
    alone m i (ap (λ (y : Messages). is_complete_in y.second) one)
left_alone l m next count i (to_save f both at last) = alone m i (ap (λ (y : Messages). is_complete_in y.second) both)
left_alone l m next count i (closed f ends full last told) = alone m i (ends_alone m next ends)
