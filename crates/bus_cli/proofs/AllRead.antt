-- An input that is over.
use Rattle.std.proofs.Common.{ℕ, ◌≡◌, ◌<◌, List, [], ◌++◌, Option, Some, None, length, drop, ap, ◌∙◌}
use Rattle.std.specs.Prelude.{IfSome}
use Rattle.std.proofs.lemmas.List.{append-nil}
use Rattle.bus_base.specs.Taken.{TakesFront}
use Rattle.bus_base.proofs.ReadSoFar.{HasRead, told}

-- What was read is all of it, and none is left.
pub all_read : (old now next : Option (List ℕ)) (bytes into : List ℕ) (n : ℕ)
    → HasRead old now bytes → IfSome now (λ ys. TakesFront ys next into n) → n ≡ 0 → 0 < length into
    → IfSome old (λ xs. (xs ≡ bytes) × (next ≡ Some []))
all_read None now next bytes into n so_far took none room = tt
all_read (Some xs) now next bytes into n (rest, whole, left) took none room =
    let t = told now next rest into n left took in
    let over : rest ≡ [] = t.ends none room in (
      whole ∙ ap (λ (ys : List ℕ). bytes ++ ys) over ∙ append-nil bytes,
      t.rest ∙ ap (λ (ys : List ℕ). let o : Option (List ℕ) = Some (drop n ys) in o) over
          ∙ ap (λ k. let o : Option (List ℕ) = Some (drop k []) in o) none,
    )
