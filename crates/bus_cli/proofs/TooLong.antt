-- An input that has more bytes than the limit.
use Rattle.std.proofs.Common.{ℕ, ◌≡◌, ◌<◌, Bool, true, false, cond, List, Option, Some, None, length, refl, subst}
use Rattle.std.specs.Prelude.{Err, IfSome}
use Rattle.bus_base.specs.Whole.{ReadsAll}
use Rattle.bus_base.specs.declared.reading.ReadEnd.{ReadEnd}
use Rattle.bus_base.specs.declared.reading.ReadEnd.TheVariants.{TooLong}

pub map_some : {A : Type 0} (o : Option A) (P Q : A → Type 0) → ((x : A) → P x → Q x) → IfSome o P → IfSome o Q
map_some None P Q f h = h
map_some (Some x) P Q f h = f x h

pub first_of : {A : Type 0} (q : Bool) (x y : A) → q ≡ true → cond q x y ≡ x
first_of true x y e = refl
first_of false x y e = absurd cc

abbrev pub IsLong : ℕ → Option (List ℕ) → Type 0
IsLong limit input = IfSome input (λ xs. limit < length xs)

long_of : (limit : ℕ) (input left : Option (List ℕ)) → ReadsAll input left limit (Err TooLong) → IsLong limit input
long_of limit None left h = tt
long_of limit (Some xs) left h = h.0

pub is_long : (limit : ℕ) (input left : Option (List ℕ)) (end : ReadEnd) → end ≡ TooLong
    → ReadsAll input left limit (Err end) → IsLong limit input
is_long limit input left end e h =
    let P : ReadEnd → Type 0 = λ r. ReadsAll input left limit (Err r) in
    long_of limit input left (subst P e h)
