-- A fault strikes the last of the requests that wait.
use Rattle.std.proofs.Common.{◌≡◌, List, [], ◌∷◌, ◌++◌, refl, ap, true, length, arith}
use Rattle.bus_lines.specs.declared.handshakes.Request.{Request}
use Rattle.bus_lines.specs.Handshakes.{with_last_struck}

pub strikes_end : (xs : List Request) (r : Request)
    → with_last_struck (xs ++ r ∷ []) ≡ xs ++ record { time = r.time; struck = true } ∷ []
strikes_end [] r = refl
strikes_end (x ∷ []) r = refl
strikes_end (x ∷ (y ∷ xs)) r = ap (λ (rest : List Request). x ∷ rest) (strikes_end (y ∷ xs) r)

pub strikes_nothing : (xs : List Request) → length xs ≡ 0 → with_last_struck xs ≡ xs
strikes_nothing [] e = refl
strikes_nothing (x ∷ xs) e = absurd (omega (arith, e))
