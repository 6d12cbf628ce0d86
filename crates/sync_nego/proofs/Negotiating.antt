-- A request and its answer settle both ends.
use Rattle.std.proofs.Common.{ℕ, zero, suc, ◌≡◌, Bool, true, false, List, ◌∷◌, Option, Some, None, refl, ap, subst, ◌∙◌}
use Rattle.std.proofs.Common.{arith}
use Rattle.std.proofs.lemmas.Bool.Decides.{nat_tests}
use Rattle.bus_trace.specs.declared.agreements.Agreement.{Agreement}
use Rattle.bus_trace.specs.Agreements.{same_agreement}
use Rattle.dialogue_model.specs.bus_phases.specs.declared.words.Word.{Word}
use Rattle.dialogue_model.specs.bus_phases.specs.declared.words.Word.TheVariants as words
use Rattle.dialogue_model.specs.bus_phases.specs.declared.words.End.{End}
use Rattle.dialogue_model.specs.bus_phases.specs.declared.words.End.TheVariants as ends
use Rattle.sync_nego.specs.Negotiation.{Negotiation, answer_to, agreed_by, settled}
use Rattle.sync_nego.specs.Exchange.{Turn, connects, to_target, told_agreement, Count, connected, said, counted, Side}
use Rattle.sync_nego.specs.Exchange.{quiet, unanswered, side_after, side_by, side, in_void, word_of, asked, answered}
use Rattle.sync_nego.specs.Exchange.{asked_back, answered_back}
use Rattle.sync_nego.proofs.Following.{holds_what_is_told}

-- What counts of void messages: the errors that are told.
abbrev errors : ℕ → List Count → List Count
errors zero cs = cs
errors (suc n) cs = said ends.Initiator words.ParityError ∷ errors n cs

counted_in_void : (n : ℕ) (w : Word) (ts : List Turn) → (counted (in_void n w ts)).now ≡ errors n (counted ts).now
counted_in_void zero w ts = refl
counted_in_void (suc n) w ts =
    ap (λ (cs : List Count). said ends.Initiator words.ParityError ∷ cs) (counted_in_void n w ts)

-- After a message that is no answer they change nothing.
error_told : (renews : Bool) (end : End) (x : Side)
    → side_after renews end x (said ends.Initiator words.ParityError) ≡ unanswered x
error_told renews ends.Initiator x = refl
error_told renews ends.Target x = refl

errors_told : (n : ℕ) (renews : Bool) (end : End) (own : Agreement) (cs : List Count)
    → unanswered (side_by renews end own cs) ≡ side_by renews end own cs
    → side_by renews end own (errors n cs) ≡ side_by renews end own cs
errors_told zero renews end own cs e = refl
errors_told (suc n) renews end own cs e = error_told renews end (side_by renews end own (errors n cs))
    ∙ ap (λ (x : Side). unanswered x) (errors_told n renews end own cs e) ∙ e

-- ---- a request of the initiator

asked_side : (renews : Bool) (end : End) (own i : Agreement) (cs : List Count)
    → unanswered (side_by renews end own (said ends.Initiator (words.Offer i) ∷ connected ∷ cs))
    ≡ side_by renews end own (said ends.Initiator (words.Offer i) ∷ connected ∷ cs)
asked_side renews ends.Initiator own i cs = refl
asked_side renews ends.Target own i cs = refl

asked_nego : (renews : Bool) (end : End) (own i : Agreement) (cs : List Count)
    → (side_by renews end own (said ends.Initiator (words.Offer i) ∷ connected ∷ cs)).nego
    ≡ (side_by renews end own cs).nego
asked_nego renews ends.Initiator own i cs = refl
asked_nego renews ends.Target own i cs = refl

void_side : (n : ℕ) (w : Word) (renews : Bool) (end : End) (own i : Agreement) (ts : List Turn)
    → side renews end own (in_void n w (asked i ts))
    ≡ side_by renews end own (said ends.Initiator (words.Offer i) ∷ connected ∷ (counted ts).now)
void_side n w renews end own i ts =
    ap (λ (cs : List Count). side_by renews end own cs) (counted_in_void n w (asked i ts))
    ∙ errors_told n renews end own (said ends.Initiator (words.Offer i) ∷ connected ∷ (counted ts).now)
    (asked_side renews end own i (counted ts).now)

answer_settles : (renews : Bool) (end : End) (own i : Agreement) (cs : List Count) (h : Option Agreement)
    → (side_after renews end (side_by renews end own (said ends.Initiator (words.Offer i) ∷ connected ∷ cs))
    (said ends.Target (word_of h))).nego ≡ settled (side_by renews end own cs).nego h
answer_settles renews ends.Initiator own i cs None = refl
answer_settles renews ends.Initiator own i cs (Some a) = refl
answer_settles renews ends.Target own i cs None = refl
answer_settles renews ends.Target own i cs (Some a) = refl

pub settles : (n : ℕ) (renews : Bool) (end : End) (own i t : Agreement) (ts : List Turn)
    → (side renews end own (answered n i t ts)).nego ≡ settled (side renews end own ts).nego (answer_to t i)
settles n renews end own i t ts =
    ap (λ (x : Side). (side_after renews end x (said ends.Target (word_of (answer_to t i)))).nego)
    (void_side n (word_of (answer_to t i)) renews end own i ts)
    ∙ answer_settles renews end own i (counted ts).now (answer_to t i)

-- While its answers are void nothing is settled.
pub stays_void : (n : ℕ) (w : Word) (renews : Bool) (end : End) (own i : Agreement) (ts : List Turn)
    → (side renews end own (in_void n w (asked i ts))).nego ≡ (side renews end own ts).nego
stays_void n w renews end own i ts =
    ap (λ (x : Side). x.nego) (void_side n w renews end own i ts) ∙ asked_nego renews end own i (counted ts).now

-- ---- a request of the target

quiet_side : (n : ℕ) (w : Word) (renews : Bool) (end : End) (own : Agreement) (ts : List Turn)
    → side renews end own (in_void n w (connects ∷ ts)) ≡ quiet (side renews end own ts).nego
quiet_side n w renews end own ts =
    ap (λ (cs : List Count). side_by renews end own cs) (counted_in_void n w (connects ∷ ts))
    ∙ errors_told n renews end own (connected ∷ (counted ts).now) refl

answer_settles_back : (renews : Bool) (end : End) (m : Negotiation) (t : Agreement) (h : Option Agreement)
    → (side_after renews end (side_after renews end (quiet m) (said ends.Target (words.Offer t)))
    (said ends.Initiator (word_of h))).nego ≡ settled m h
answer_settles_back renews ends.Initiator m t None = refl
answer_settles_back renews ends.Initiator m t (Some a) = refl
answer_settles_back renews ends.Target m t None = refl
answer_settles_back renews ends.Target m t (Some a) = refl

pub settles_back : (n : ℕ) (renews : Bool) (end : End) (own i t : Agreement) (ts : List Turn)
    → (side renews end own (answered_back n i t ts)).nego ≡ settled (side renews end own ts).nego (answer_to i t)
settles_back n renews end own i t ts = said_last (answer_to i t)
  where
    said_last : (h : Option Agreement) → (side renews end own (to_target (word_of h) ∷ asked_back n t ts)).nego
        ≡ settled (side renews end own ts).nego h
    said_last None =
        ap (λ (x : Side). (side_after renews end (side_after renews end x (said ends.Target (words.Offer t)))
        (said ends.Initiator words.Reject)).nego) (quiet_side n (words.Offer t) renews end own ts)
        ∙ answer_settles_back renews end (side renews end own ts).nego t None
    said_last (Some a) =
        ap (λ (x : Side). (side_after renews end (side_after renews end x (said ends.Target (words.Offer t)))
        (said ends.Initiator (words.Offer a))).nego) (quiet_side n (words.Offer t) renews end own ts)
        ∙ answer_settles_back renews end (side renews end own ts).nego t (Some a)

-- ---- what is told

same_back : (a b c : Agreement) → a ≡ b → same_agreement a c ≡ true → same_agreement c b ≡ true
same_back a b c e h =
    let h' : same_agreement b c ≡ true = subst (λ (x : Agreement). same_agreement x c ≡ true) e h in
    grind (arith, nat_tests)

pub told_answer : (n : ℕ) (i t : Agreement) (ts : List Turn)
    → same_agreement (told_agreement (answered n i t ts)) (agreed_by (answer_to t i)) ≡ true
told_answer n i t ts = same_back (side false ends.Initiator i (answered n i t ts)).nego.agreed
    (agreed_by (answer_to t i)) (told_agreement (answered n i t ts)) (ap (λ (m : Negotiation). m.agreed)
    (settles n false ends.Initiator i i t ts)) (holds_what_is_told false ends.Initiator i (answered n i t ts))

pub told_answer_back : (n : ℕ) (i t : Agreement) (ts : List Turn)
    → same_agreement (told_agreement (answered_back n i t ts)) (agreed_by (answer_to i t)) ≡ true
told_answer_back n i t ts = same_back (side false ends.Initiator i (answered_back n i t ts)).nego.agreed
    (agreed_by (answer_to i t)) (told_agreement (answered_back n i t ts))
    (ap (λ (m : Negotiation). m.agreed) (settles_back n false ends.Initiator i i t ts))
    (holds_what_is_told false ends.Initiator i (answered_back n i t ts))
