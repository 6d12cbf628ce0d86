-- How the plan of a target goes on with a phase, by what begins: MESSAGE OUT, as an answer or as the opening; or
-- another phase. A lemma on plans goes by these ways, and not by the tests of `plan_in_phase` once more.
use Rattle.row_laws.proofs
use proofs.Names.{◌≡◌, Bool, true, false, not, refl, if◌then◌else◌, is_message_out, plan_anew, plan_in_message_out}
use proofs.Names.{plan_in_phase, Hearing, Leaving, Plan}

-- Whether MESSAGE OUT begins, and whether a byte has crossed before.
pub plan_by : {out begun : Bool} (w : Hearing) (l : Leaving) (a : Plan) → is_message_out w.change.after ≡ out
    → w.begun ≡ begun → plan_in_phase w l a
    ≡ (if not out then record (plan_anew a) { messages = l.messages; next = l.next }
    else if begun then plan_in_message_out w a else plan_anew a)
plan_by w l a out begun =
    λ i. if not (out i) then record (plan_anew a) { messages = l.messages; next = l.next }
    else if begun i then plan_in_message_out w a else plan_anew a

-- MESSAGE OUT begins.
pub plan_out : {begun : Bool} (w : Hearing) (l : Leaving) (a : Plan) → is_message_out w.change.after ≡ true
    → w.begun ≡ begun → plan_in_phase w l a ≡ (if begun then plan_in_message_out w a else plan_anew a)
plan_out w l a out begun = plan_by w l a out begun

-- Another phase begins: what the last one was left with is planned.
pub plan_left : (w : Hearing) (l : Leaving) (a : Plan) → is_message_out w.change.after ≡ false
    → plan_in_phase w l a ≡ record (plan_anew a) { messages = l.messages; next = l.next }
plan_left w l a other = plan_by w l a other refl
