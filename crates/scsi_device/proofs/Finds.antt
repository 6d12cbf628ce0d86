-- Look-ups in a list that grows at its end, and what holds of all its items.
use Rattle.std.proofs.Common.{◌≡◌, Bool, true, false, cond, ◌||◌, List, [], ◌∷◌, ◌++◌, map, Option, Some, None, refl}
use Rattle.std.proofs.Common.{sym, ap, subst, ◌∙◌}
use Rattle.std.specs.Prelude.{is_some}
use Rattle.std.specs.List.{find, list_any, AllByRecursion}
use Rattle.std.specs.Option.{option_or}
use Rattle.std.proofs.lemmas.List.Folds.{find-append}

-- ---- tests

pub none_is : {X : Type 0} (o : Option X) → is_some o ≡ false → o ≡ None
none_is None e = refl
none_is (Some x) e = absurd cc

pub none_some : {X : Type 0} (x : X) → ◌≡◌ {A = Option X} None (Some x) → ⊥
none_some x e = absurd cc

pub some_is : {X : Type 0} (x y : X) → ◌≡◌ {A = Option X} (Some x) (Some y) → x ≡ y
some_is x y e = cc

-- ---- all items

pub all_more : {X : Type 0} (P : X → Type 0) (xs : List X) (x : X) → AllByRecursion P xs → P x
    → AllByRecursion P (xs ++ x ∷ [])
all_more P [] x a b = (b, tt)
all_more P (y ∷ xs) x a b = (a.0, all_more P xs x a.1 b)

pub all_are : {X : Type 0} (P Q : X → Type 0) (xs : List X) → ((x : X) → P x → Q x) → AllByRecursion P xs
    → AllByRecursion Q xs
all_are P Q [] f a = tt
all_are P Q (x ∷ xs) f a = (f x a.0, all_are P Q xs f a.1)

pub all_both : {X : Type 0} (P Q R : X → Type 0) (xs : List X) → ((x : X) → P x → Q x → R x) → AllByRecursion P xs
    → AllByRecursion Q xs → AllByRecursion R xs
all_both P Q R [] f a b = tt
all_both P Q R (x ∷ xs) f a b = (f x a.0 b.0, all_both P Q R xs f a.1 b.1)

pub all_map : {X Y : Type 0} (P : Y → Type 0) (f : X → Y) (xs : List X) → AllByRecursion (λ x. P (f x)) xs
    → AllByRecursion P (map f xs)
all_map P f [] a = tt
all_map P f (x ∷ xs) a = (a.0, all_map P f xs a.1)

pub all_of_none : {X : Type 0} (P : X → Type 0) (xs : List X) → xs ≡ [] → AllByRecursion P xs
all_of_none P xs e = subst (λ ys. AllByRecursion P ys) (sym e) tt

-- ---- look-ups

pub find_kept : {X : Type 0} (p : X → Bool) (xs : List X) (x y : X) → find p xs ≡ Some y
    → find p (xs ++ x ∷ []) ≡ Some y
find_kept p xs x y e = find-append p xs (x ∷ []) ∙ ap (λ o. option_or o (find p (x ∷ []))) e

pub find_new : {X : Type 0} (p : X → Bool) (xs : List X) (x : X) → find p xs ≡ None → p x ≡ true
    → find p (xs ++ x ∷ []) ≡ Some x
find_new p xs x e t =
    find-append p xs (x ∷ []) ∙ (ap (λ o. option_or o (find p (x ∷ []))) e ∙ ap (λ q. cond q (Some x) None) t)

pub find_not : {X : Type 0} (p : X → Bool) (xs : List X) (x : X) → find p xs ≡ None → p x ≡ false
    → find p (xs ++ x ∷ []) ≡ None
find_not p xs x e t =
    find-append p xs (x ∷ []) ∙ (ap (λ o. option_or o (find p (x ∷ []))) e ∙ ap (λ q. cond q (Some x) None) t)

pub find_none : {X : Type 0} (p : X → Bool) (xs : List X) → list_any p xs ≡ false → find p xs ≡ None
find_none p [] e = refl
find_none {X = X} p (x ∷ xs) e = go (p x) (λ z. find_none p xs z) e
  where
    go : (q : Bool) → (list_any p xs ≡ false → find p xs ≡ None) → (q || list_any p xs) ≡ false
        → cond q (Some x) (find p xs) ≡ None
    go true more z = absurd cc
    go false more z = more z

-- Where the first is none, the first of the rest is none, and the item is not of this kind.
pub find_rest : {X : Type 0} (p : X → Bool) (x : X) (xs : List X) → find p (x ∷ xs) ≡ None
    → (p x ≡ false) × (find p xs ≡ None)
find_rest {X = X} p x xs e = go (p x) e
  where
    go : (q : Bool) → cond q (Some x) (find p xs) ≡ None → (q ≡ false) × (find p xs ≡ None)
    go true z = absurd (none_some x (sym z))
    go false z = (refl, z)

pub found_any : {X : Type 0} (p : X → Bool) (xs : List X) (y : X) → find p xs ≡ Some y → list_any p xs ≡ true
found_any p [] y e = absurd (none_some y e)
found_any {X = X} p (x ∷ xs) y e = go (p x) (λ z. found_any p xs y z) e
  where
    go : (q : Bool) → (find p xs ≡ Some y → list_any p xs ≡ true) → cond q (Some x) (find p xs) ≡ Some y
        → (q || list_any p xs) ≡ true
    go true more z = refl
    go false more z = more z

pub found_passes : {X : Type 0} (p : X → Bool) (xs : List X) (y : X) → find p xs ≡ Some y → p y ≡ true
found_passes p [] y e = absurd (none_some y e)
found_passes {X = X} p (x ∷ xs) y e = go (p x) refl (λ z. found_passes p xs y z) e
  where
    go : (q : Bool) → p x ≡ q → (find p xs ≡ Some y → p y ≡ true) → cond q (Some x) (find p xs) ≡ Some y → p y ≡ true
    go true is more z = ap p (sym (some_is x y z)) ∙ is
    go false is more z = more z

pub found_holds : {X : Type 0} (P : X → Type 0) (p : X → Bool) (xs : List X) (y : X) → AllByRecursion P xs
    → find p xs ≡ Some y → P y
found_holds P p [] y a e = absurd (none_some y e)
found_holds {X = X} P p (x ∷ xs) y a e = go (p x) (λ z. found_holds P p xs y a.1 z) e
  where
    go : (q : Bool) → (find p xs ≡ Some y → P y) → cond q (Some x) (find p xs) ≡ Some y → P y
    go true more z = subst P (some_is x y z) a.0
    go false more z = more z
