-- In MESSAGE OUT: where the place of the next byte is the first one, the last byte has been heard, or none has been,
-- and none is struck.
use Rattle.measure_laws.proofs
use proofs.Names.{inl, inr, ℕ, ◌≡◌, ◌≤◌, ◌⊎◌, ◌∙◌, Bool, true, false, List, refl, sym, ap, subst, arith, Option, ◌&&◌}
use proofs.Names.{eqb-true, ◌+◌, ◌==◌, if◌then◌else◌, is_some, not, wrong, counted_on, is_message_out, receiver, Row}
use proofs.Names.{handshakes, dialogue, ScenarioValue, HostDef, Exchange, Speech, plan_anew, plan_in_message_out}
use proofs.Names.{plan_in_phase, speech_in_phase, words_after, Hearing, Leaving, Plan, run_state}

-- ---- what a row makes of it

pub record IsVoiced (x : Exchange) (is_last : Bool) (answers : ℕ) (received : Bool) : Type 0 where
  pub again : (x.speech.place == 0) ≡ true → (is_last ≡ true) ⊎ ((x.plan.struck ≡ false) × (received ≡ false))
  pub first : answers ≡ 0 → x.speech.place ≡ 0
  pub fresh : (x.speech.place == 0) ≡ true → (answers == 0) ≡ false → is_last ≡ true

-- MESSAGE OUT begins.
pub begins_place : (h : Option HostDef) (w : Hearing) (x : Speech) → (speech_in_phase h w x).place ≡ 0
begins_place h w x = go (is_message_out w.change.after && w.begun)
  where
    go : (q : Bool)
        → (if q then record x { words = words_after h w x.asked; place = 0 } else record x { place = 0 }).place ≡ 0
    go true = refl
    go false = refl

pub begins_unstruck : (w : Hearing) (l : Leaving) (a : Plan) → (plan_in_phase w l a).struck ≡ false
begins_unstruck w l a = go (is_message_out w.change.after) w.begun
  where
    go : (q r : Bool) → (if not q then record (plan_anew a) { messages = l.messages; next = l.next }
        else if r then plan_in_message_out w a else plan_anew a).struck ≡ false
    go false r = refl
    go true true = refl
    go true false = refl

-- ---- what is kept after some rows

abbrev pub VoicedAt : ScenarioValue → List Row → Type 0
VoicedAt s p = IsVoiced (run_state s p).exchange (dialogue p).is_last (handshakes p).answers (is_some (receiver p))

pub voiced_by : (x y : Exchange) (a b : Bool) (m i : ℕ) (r t : Bool) → x ≡ y → a ≡ b → m ≡ i → r ≡ t → IsVoiced y b i t
    → IsVoiced x a m r
voiced_by x y a b m i r t ex ea em er h = subst (λ z. IsVoiced z a m r) (sym ex) (subst (λ z. IsVoiced y z m r) (sym ea)
    (subst (λ z. IsVoiced y b z r) (sym em) (subst (λ z. IsVoiced y b i z) (sym er) h)))

-- As MESSAGE OUT begins; after a row that lets no byte cross; after a fault row; and as a byte has crossed.
pub begun_voiced : (x : Exchange) (last : Bool) → x.speech.place ≡ 0 → x.plan.struck ≡ false → IsVoiced x last 0 false
begun_voiced x last place struck =
    record { again = λ e. inr (struck, refl); first = λ e. place; fresh = λ e z. wrong z }

pub still_voiced : (x : Exchange) (last : Bool) (answers : ℕ) (was : Bool) → IsVoiced x last answers was
    → IsVoiced x last answers false
still_voiced x last answers was h = record { again = λ e. by (h.again e); first = h.first; fresh = h.fresh }
  where
    by : (last ≡ true) ⊎ ((x.plan.struck ≡ false) × (was ≡ false))
        → (last ≡ true) ⊎ ((x.plan.struck ≡ false) × (false ≡ false))
    by (inl e) = inl e
    by (inr (e, r)) = inr (e, refl)

pub struck_voiced : (x y : Exchange) (last : Bool) (answers : ℕ) (now : Bool) → y.speech.place ≡ x.speech.place
    → IsVoiced x last answers true → IsVoiced y last answers now
struck_voiced x y last answers now place h = record {
  again = λ e. by (h.again (ap (λ (v : ℕ). v == 0) (sym place) ∙ e));
  first = λ e. place ∙ h.first e;
  fresh = λ e z. h.fresh (ap (λ (v : ℕ). v == 0) (sym place) ∙ e) z;
}
  where
    by : (last ≡ true) ⊎ ((x.plan.struck ≡ false) × (true ≡ false))
        → (last ≡ true) ⊎ ((y.plan.struck ≡ false) × (now ≡ false))
    by (inl e) = inl e
    by (inr (e, r)) = wrong r

counted_positive : (m : ℕ) → counted_on m ≡ 0 → (1 ≤ 0)
counted_positive m e = omega (arith, e)

pub heard_voiced : (x : Exchange) (last attends : Bool) (place answers : ℕ) (now : Bool)
    → x.speech.place ≡ (if attends then place + 1 else 0) → last ≡ not attends
    → IsVoiced x last (counted_on answers) now
heard_voiced x last true place answers now at heard = record {
  again = λ e. absurd (later (sym (ap (λ (v : ℕ). v == 0) at) ∙ e));
  first = λ e. absurd (none (counted_positive answers e));
  fresh = λ e z. absurd (later (sym (ap (λ (v : ℕ). v == 0) at) ∙ e));
}
  where
    later : ((place + 1) == 0) ≡ true → ⊥
    later e = let z = eqb-true (place + 1) 0 e in absurd (omega (arith, z))

    none : 1 ≤ 0 → ⊥
    none z = absurd (omega (arith, z))
heard_voiced x last false place answers now at heard =
    record { again = λ e. inl heard; first = λ e. at; fresh = λ e z. heard }
