-- A prompt trace is the iteration of its next rows: the scenario determines it.
use Rattle.std.proofs.Common.{inl, inr, ℕ, zero, suc, ◌≡◌, ◌≤◌, List, [], ◌∷◌, length, ◌∙◌, refl, sym, ap, subst, arith}
use Rattle.std.proofs.Common.{Option, Some, None}
use Rattle.std.proofs.lemmas.Bool.{cases_lt, cases_eq}
use Rattle.bus_rules.specs.bus_trace.specs.declared.Row.{Row}
use Rattle.dialogue_model.specs.scenario.specs.Value.{ScenarioValue}
use Rattle.due_model.specs.Next.{next, IsPrompt, IsEnded}

abbrev pub then_row : Option Row → List Row → List Row
then_row None rows = rows
then_row (Some row) rows = row ∷ rows

unfoldable pub iterated : ScenarioValue → ℕ → List Row
iterated s zero = []
iterated s (suc n) = then_row (next s (iterated s n)) (iterated s n)

pub prompt_iterated : (s : ScenarioValue) (rows : List Row) → IsPrompt s rows → iterated s (length rows) ≡ rows
unfolding iterated
prompt_iterated s [] h = refl
prompt_iterated s (row ∷ rows) h = ap (λ (r : List Row). then_row (next s r) r) (prompt_iterated s rows h.0)
    ∙ ap (λ (x : Option Row). then_row x rows) h.1

later_same : (s : ScenarioValue) (n m : ℕ) → n ≤ m → IsEnded s (iterated s n) → iterated s m ≡ iterated s n
unfolding iterated
later_same s n zero le h = ap (iterated s) (let e : 0 ≡ n = omega arith in e)
later_same s n (suc m) le h =
    elim (cases_eq n (suc m)) [
      | inl e ↦ ap (iterated s) (sym e)
      | inr ne ↦
          let e = later_same s n m (omega arith) h in
          ap (λ (r : List Row). then_row (next s r) r) e ∙ ap (λ (x : Option Row). then_row x (iterated s n)) h
    ]

ended_at : (s : ScenarioValue) (rows : List Row) → IsPrompt s rows → IsEnded s rows
    → IsEnded s (iterated s (length rows))
ended_at s rows p e = subst (λ (r : List Row). IsEnded s r) (sym (prompt_iterated s rows p)) e

-- Two that have ended are equal.
pub one_trace : (s : ScenarioValue) (rows others : List Row) → IsPrompt s rows → IsEnded s rows → IsPrompt s others
    → IsEnded s others → rows ≡ others
one_trace s rows others p e q f =
    elim (cases_lt (length rows) (length others)) [
      | inl lt ↦ sym (prompt_iterated s rows p)
          ∙ sym (later_same s (length rows) (length others) (omega arith) (ended_at s rows p e))
          ∙ prompt_iterated s others q
      | inr le ↦ sym (prompt_iterated s rows p)
          ∙ later_same s (length others) (length rows) (omega arith) (ended_at s others q f)
          ∙ prompt_iterated s others q
    ]

-- And so are two of one length.
pub same_length : (s : ScenarioValue) (rows others : List Row) → IsPrompt s rows → IsPrompt s others
    → length rows ≡ length others → rows ≡ others
same_length s rows others p q e = sym (prompt_iterated s rows p) ∙ ap (iterated s) e ∙ prompt_iterated s others q
