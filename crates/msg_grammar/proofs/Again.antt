-- A message reads back, whatever follows it; so no message begins another.
use Rattle.std.proofs.Common.{◌≡◌, ℕ, suc, Bool, true, false, ◌&&◌, cond, List, [], ◌∷◌, ◌++◌, length, take, Some, None}
use Rattle.std.proofs.Common.{refl, sym, ap, ◌∙◌}
use Rattle.std.specs.Prelude.{option_map, ◌==◌}
use Rattle.std.proofs.lemmas.List.{take_at}
use Rattle.bus_trace.specs.declared.agreements.Agreement.{Agreement}
use Rattle.msg_grammar.specs.declared.message.Got.{Got}
use Rattle.msg_grammar.specs.declared.message.Got.TheVariants.{Whole, Unknown}
use Rattle.msg_grammar.specs.Grammar.{Form, alone, tagged, extended, reserved, as_got, msg_after, msg_by, got_after}
use Rattle.msg_grammar.specs.Grammar.{got_by}

offer_again : {M : Type 0} → (len code : Bool) (f : Agreement → M) (offer : Agreement) (k : M)
    → option_map f (cond (len && code) (Some offer) None) ≡ Some k
    → as_got f (cond len (cond code (Whole offer 5) Unknown) Unknown) ≡ Whole k 5
offer_again true true f offer k e = cc
offer_again true false f offer k e = absurd cc
offer_again false code f offer k e = absurd cc

after_again : {M : Type 0} → (form : Form M) (a rest : List ℕ) (k : M) → msg_after form a ≡ Some k
    → got_after form (a ++ rest) ≡ Whole k (suc (length a))
after_again (alone m) [] rest k e = cc
after_again (alone m) (b ∷ a) rest k e = absurd cc
after_again (tagged f) [] rest k e = absurd cc
after_again (tagged f) (tag ∷ []) rest k e = cc
after_again (tagged f) (tag ∷ b ∷ a) rest k e = absurd cc
after_again (extended f) [] rest k e = absurd cc
after_again (extended f) (len ∷ []) rest k e = absurd cc
after_again (extended f) (len ∷ code ∷ []) rest k e = absurd cc
after_again (extended f) (len ∷ code ∷ period ∷ []) rest k e = absurd cc
after_again (extended f) (len ∷ code ∷ period ∷ offset ∷ []) rest k e =
    offer_again (len == 0x03) (code == 0x01) f (record { period = period; offset = offset }) k e
after_again (extended f) (len ∷ code ∷ period ∷ offset ∷ b ∷ a) rest k e = absurd cc
after_again reserved a rest k e = absurd cc

-- A message reads back, whatever follows it.
pub again : {M : Type 0} → (form : ℕ → Form M) (a rest : List ℕ) (k : M) → msg_by form a ≡ Some k
    → got_by form (a ++ rest) ≡ Whole k (length a)
again form [] rest k e = absurd cc
again form (first ∷ a) rest k e = after_again (form first) a rest k e

-- No message begins another.
pub apart : {M : Type 0} → (form : ℕ → Form M) (a b x y : List ℕ) (m k : M) → msg_by form a ≡ Some m
    → msg_by form b ≡ Some k → a ++ x ≡ b ++ y → (a ≡ b) × (m ≡ k)
apart {M} form a b x y m k ea eb same =
    let ga = again form a x m ea in
    let gb = again form b y k eb in
    let both : ◌≡◌ {A = Got M} (Whole m (length a)) (Whole k (length b)) = sym ga
    ∙ (ap (λ (bytes : List ℕ). got_by form bytes) same ∙ gb) in
    let message : m ≡ k = cc both in
    let long : length a ≡ length b = cc both in (
      sym (take_at a x (length b) long)
          ∙ (ap (λ (bytes : List ℕ). take (length b) bytes) same ∙ take_at b y (length b) refl),
      message,
    )
