-- The next item of a list, and those after it.
use Rattle.std.proofs.Common.{ℕ, zero, suc, List, [], ◌∷◌, drop, reverse, subst}
use Rattle.std.specs.Prelude.{Result, Ok, Err, IfOk}
use Rattle.std.proofs.lemmas.List.{reverse-reverse}
use Rattle.std.specs.List.{AllByRecursion}
use Rattle.bus_base.proofs.Tests.{all_reverse}

pub all_drop : {A : Type 0} (P : A → Type 0) (xs : List A) (n : ℕ) → AllByRecursion P xs → AllByRecursion P (drop n xs)
all_drop P [] zero h = tt
all_drop P [] (suc n) h = tt
all_drop P (x ∷ xs) zero h = h
all_drop P (x ∷ xs) (suc n) h = all_drop P xs n h.1

pub all_reversed : {A : Type 0} (P : A → Type 0) (xs : List A) → AllByRecursion P (reverse xs) → AllByRecursion P xs
all_reversed P xs h = subst (AllByRecursion P) (reverse-reverse xs) (all_reverse P (reverse xs) h)

pub ok_map : {A E : Type 0} (r : Result A E) (P Q : A → Type 0) → ((x : A) → P x → Q x) → IfOk r P → IfOk r Q
ok_map (Ok x) P Q f h = f x h
ok_map (Err e) P Q f h = tt
