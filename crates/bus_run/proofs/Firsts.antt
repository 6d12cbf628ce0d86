-- The first of what is due, device by device.
use Rattle.std.proofs.Common.{ℕ, suc, ◌≡◌, ◌+◌, Option, None, refl, ap, arith}
use Rattle.reaction_model.specs.declared.due.Due.{Due}
use Rattle.due_model.specs.Next.{least, first_row}

pub least_none : (f : ℕ → Option Due) → least f 0 ≡ None
unfolding least
least_none f = refl

pub least_more : (f : ℕ → Option Due) (n : ℕ) → least f (n + 1) ≡ first_row (f n) n (least f n)
unfolding least
least_more f n =
    let e : n + 1 ≡ suc n = omega arith in ap (λ (k : ℕ). least f k) e
