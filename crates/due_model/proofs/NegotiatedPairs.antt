-- What a pair more, and the loss of those of a target, leave of the pairs that have negotiated.
use Rattle.due_model.specs.LastingState.{Negotiated, has_negotiated, pairs_without, with_negotiated}
use Rattle.std.proofs.Common.{Bool, List, [], false, refl, sym, true, ℕ, ◌∙◌, ◌∷◌, ◌≡◌}
use Rattle.std.proofs.lemmas.Bool.{eqb-true}
use Rattle.std.specs.List.{list_any}
use Rattle.std.specs.Prelude.{if◌then◌else◌, ◌&&◌, ◌==◌, ◌||◌}

pub with_pair : (m : Negotiated) (i k dev t : ℕ)
    → has_negotiated (with_negotiated m i k) dev t ≡ (if i == dev && k == t then true else has_negotiated m dev t)
with_pair m i k dev t = go m.all (list_any (λ n. n == t) m.targets) (i == dev && k == t)
    (list_any (λ (p : ℕ × ℕ). p.0 == dev && p.1 == t) m.pairs)
  where
    go : (a b x y : Bool) → (a || b || (x || y)) ≡ (if x then true else (a || b || y))
    go true b true y = refl
    go true b false y = refl
    go false true true y = refl
    go false true false y = refl
    go false false true y = refl
    go false false false y = refl

pub pairs_gone : (pairs : List (ℕ × ℕ)) (k dev t : ℕ)
    → list_any (λ (p : ℕ × ℕ). p.0 == dev && p.1 == t) (pairs_without pairs k)
    ≡ (if k == t then false else list_any (λ (p : ℕ × ℕ). p.0 == dev && p.1 == t) pairs)
pairs_gone [] k dev t = go (k == t)
  where
    go : (y : Bool) → false ≡ (if y then false else false)
    go true = refl
    go false = refl
pairs_gone (p ∷ pairs) k dev t = go (p.1 == k) refl (k == t) refl (pairs_gone pairs k dev t)
  where
    none : (x : Bool) → (p.1 == t) ≡ false → ((x && p.1 == t) || false) ≡ false
    none true e = (λ i. e i || false)
    none false e = refl

    rest : (x y : Bool) → (p.1 == t) ≡ false → ((x && p.1 == t) || y) ≡ y
    rest true y e = (λ i. e i || y)
    rest false y e = refl

    go : (a : Bool) → (p.1 == k) ≡ a → (y : Bool) → (k == t) ≡ y
        → list_any (λ (p : ℕ × ℕ). p.0 == dev && p.1 == t) (pairs_without pairs k)
        ≡ (if y then false else list_any (λ (p : ℕ × ℕ). p.0 == dev && p.1 == t) pairs)
        → list_any (λ (p : ℕ × ℕ). p.0 == dev && p.1 == t)
        (if a then pairs_without pairs k else p ∷ pairs_without pairs k)
        ≡ (if y then false else ((p.0 == dev && p.1 == t) || list_any (λ (p : ℕ × ℕ). p.0 == dev && p.1 == t) pairs))
    go true e true f more = more
    go true e false f more =
        let same : p.1 ≡ k = eqb-true p.1 k e in
        let other : (p.1 == t) ≡ false = (λ i. same i == t) ∙ f in
        more ∙ sym (rest (p.0 == dev) (list_any (λ (p : ℕ × ℕ). p.0 == dev && p.1 == t) pairs) other)
    go false e true f more =
        let same : k ≡ t = eqb-true k t f in
        let other : (p.1 == t) ≡ false = (λ i. p.1 == sym same i) ∙ e in
        (λ i. (p.0 == dev && p.1 == t) || more i) ∙ none (p.0 == dev) other
    go false e false f more = λ i. (p.0 == dev && p.1 == t) || more i
