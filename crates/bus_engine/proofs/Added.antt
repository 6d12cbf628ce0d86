-- One place more.
use Rattle.std.proofs.Common.{inl, inr, ℕ, zero, suc, ◌≡◌, ◌<◌, ◌+◌, List, [], ◌∷◌, ◌++◌, Option, None, length, refl}
use Rattle.std.proofs.Common.{sym, ap, subst, ◌∙◌, arith}
use Rattle.std.specs.Prelude.{slice_index_or}
use Rattle.std.proofs.lemmas.Bool.{cases_eq}

at_end : {A : Type 0} → (xs : List A) (x other : A) → slice_index_or (xs ++ (x ∷ [])) (length xs) other ≡ x
at_end [] x other = refl
at_end (y ∷ xs) x other = at_end xs x other

before_end : {A : Type 0} → (xs : List A) (x other : A) (k : ℕ) → k < length xs
    → slice_index_or (xs ++ (x ∷ [])) k other ≡ slice_index_or xs k other
before_end [] x other k lt = absurd (omega arith)
before_end (y ∷ xs) x other zero lt = refl
before_end (y ∷ xs) x other (suc k) lt = before_end xs x other k (omega arith)

pub each_and_one : {A : Type 0} → (P : ℕ → Option A → Type 0) (xs ys : List (Option A)) (x : Option A) (n : ℕ)
    → ys ≡ xs ++ (x ∷ []) → length xs ≡ n → ((k : ℕ) → k < n → P k (slice_index_or xs k None)) → P n x
    → (k : ℕ) → k < n + 1 → P k (slice_index_or ys k None)
each_and_one {A} P xs ys x n e l before here k lt =
    elim (cases_eq k n) [
      | inl same ↦
          subst (λ (m : ℕ). P m (slice_index_or ys m None)) (l ∙ sym same) (subst (λ (y : Option A). P (length xs) y)
          (sym (ap (λ (zs : List (Option A)). slice_index_or zs (length xs) None) e ∙ at_end xs x None))
          (subst (λ (m : ℕ). P m x) (sym l) here))
      | inr ne ↦ subst (λ (y : Option A). P k y)
          (sym (ap (λ (zs : List (Option A)). slice_index_or zs k None) e ∙ before_end xs x None k (omega arith)))
          (before k (omega arith))
    ]
