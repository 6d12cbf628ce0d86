-- What the least of all that is due is.
use Rattle.std.proofs.Common.{inl, inr, ℕ, zero, suc, ◌≡◌, ◌<◌, ◌≤◌, Bool, true, false, ◌∙◌, refl, sym, ap, subst}
use Rattle.std.proofs.Common.{arith, Option, Some, None}
use Rattle.std.specs.Prelude.{nat_lt, if◌then◌else◌}
use Rattle.std.proofs.lemmas.Bool.{cases_eq, ltb-true, ltb-false}
use Rattle.bus_rules.specs.bus_trace.specs.declared.Row.{Row}
use Rattle.dialogue_model.specs.reaction_model.specs.declared.due.Due.{Due}
use Rattle.due_model.specs.Least.{IsLeast}
use Rattle.due_model.specs.Next.{least, first_row, row_of}

pub some_eq : (x y : Due) → (let a : Option Due = Some x in a) ≡ Some y → x ≡ y
some_eq x y e = cc

row_eq : (x y : Row) → (let a : Option Row = Some x in a) ≡ Some y → x ≡ y
row_eq x y e = cc

taken : (f : ℕ → Option Due) (n : ℕ) (x : Due) (row : Row) → f n ≡ Some x → row_of n x ≡ row
    → ((d : ℕ) → d < n → (y : Due) → f d ≡ Some y → x.time ≤ y.time) → IsLeast f (suc n) row
taken f n x row e r low =
    subst (λ (z : Row). IsLeast f (suc n) z) r (record {
      inside = omega arith;
      is_due = e;
      first = λ d lt y q.
          elim (cases_eq d n) [
            | inl same ↦
                let h : x.time ≡ y.time = ap (λ (z : Due). z.time) (some_eq x y (sym e ∙ ap f (sym same) ∙ q)) in
                omega arith
            | inr ne ↦ low d (omega arith) y q
          ];
      highest = λ d lt y q t. omega arith;
    })

passed : (f : ℕ → Option Due) (n : ℕ) (row : Row) → IsLeast f n row
    → ((x : Due) → f n ≡ Some x → row.time < x.time) → IsLeast f (suc n) row
passed f n row h later = record {
  inside = let i = h.inside in omega arith;
  is_due = h.is_due;
  first = λ d lt y q.
      elim (cases_eq d n) [
        | inl same ↦ let l = later y (ap f (sym same) ∙ q) in omega arith
        | inr ne ↦ h.first d (omega arith) y q
      ];
  highest = λ d lt y q t.
      elim (cases_eq d n) [
        | inl same ↦ let l = later y (ap f (sym same) ∙ q) in absurd (omega arith)
        | inr ne ↦ h.highest d (omega arith) y q t
      ];
}

-- where nothing is due
pub least_none : (f : ℕ → Option Due) (n : ℕ) → least f n ≡ None → (d : ℕ) → d < n → f d ≡ None
unfolding least
least_none f zero e d lt = absurd (omega arith)
least_none f (suc n) e d lt =
    elim (cases_eq d n) [
      | inl same ↦ ap f same ∙ (go (f n) (least f n) e).0
      | inr ne ↦ least_none f n (go (f n) (least f n) e).1 d (omega arith)
    ]
  where
    go : (a : Option Due) (b : Option Row) → first_row a n b ≡ None → (a ≡ None) × (b ≡ None)
    go None b q = (refl, q)
    go (Some x) None q = cc
    go (Some x) (Some r) q = split (nat_lt r.time x.time) q
      where
        split : (t : Bool) → (if t then Some r else Some (row_of n x)) ≡ None
            → ((let a : Option Due = Some x in a) ≡ None) × ((let b : Option Row = Some r in b) ≡ None)
        split true z = cc
        split false z = cc

pub least_some : (f : ℕ → Option Due) (n : ℕ) (row : Row) → least f n ≡ Some row → IsLeast f n row
unfolding least
least_some f zero row e = cc
least_some f (suc n) row e = go (f n) refl (least f n) refl e (λ r. least_some f n r) (λ z. least_none f n z)
  where
    go : (a : Option Due) → f n ≡ a → (b : Option Row) → least f n ≡ b → first_row a n b ≡ Some row
        → ((r : Row) → least f n ≡ Some r → IsLeast f n r) → (least f n ≡ None → (d : ℕ) → d < n → f d ≡ None)
        → IsLeast f (suc n) row
    go None ea b eb q ih zip = passed f n row (ih row (eb ∙ q)) (λ x z. cc)
    go (Some x) ea None eb q ih zip =
        taken f n x row ea (row_eq (row_of n x) row q) (λ d lt y z. let h = zip eb d lt in cc)
    go (Some x) ea (Some r) eb q ih zip = split (nat_lt r.time x.time) refl q
      where
        split : (t : Bool) → nat_lt r.time x.time ≡ t → (if t then Some r else Some (row_of n x)) ≡ Some row
            → IsLeast f (suc n) row
        split true et z =
            let same : r ≡ row = row_eq r row z in
            subst (λ (k : Row). IsLeast f (suc n) k) same
            (passed f n r (ih r eb) (λ y ey. let l = ltb-true r.time x.time et in
            let h : x.time ≡ y.time = ap (λ (k : Due). k.time) (some_eq x y (sym ea ∙ ey)) in omega arith))
        split false et z = taken f n x row ea (row_eq (row_of n x) row z)
            (λ d lt y ey. let l = ltb-false r.time x.time et in let h = (ih r eb).first d lt y ey in omega arith)
