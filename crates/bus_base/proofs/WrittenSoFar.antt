-- How far the loop of `write_all` has come.
use Rattle.std.proofs.Common.{◌≡◌, ℕ, ◌+◌, List, ◌++◌, take, drop, append_assoc, ap, subst, sym, ◌∙◌, arith}
use Rattle.std.specs.Prelude.{Option, Some, None, IfSome}
use Rattle.std.proofs.lemmas.List.{take-append-drop, take-take, drop-take}

-- what the sink held at first, `old`, is followed by the first `done` bytes of the piece
abbrev pub HasWritten : Option (List ℕ) → Option (List ℕ) → List ℕ → ℕ → Type 0
HasWritten old now piece done = IfSome old (λ xs. now ≡ Some (xs ++ take done piece))

-- two fronts in turn are one longer front
take-take-drop : (done n : ℕ) (piece : List ℕ) → take done piece ++ take n (drop done piece) ≡ take (done + n) piece
take-take-drop done n piece =
    let whole = take-append-drop done (take (done + n) piece) in
    let front = take-take done (done + n) piece (omega arith) in
    let back = drop-take done n piece in
    ap (λ f. f ++ take n (drop done piece)) (sym front) ∙ ap (λ b. take done (take (done + n) piece) ++ b) (sym back)
    ∙ whole

-- a write of n bytes more, of what is left of the piece
pub written_more : (old now next : Option (List ℕ)) (piece sent : List ℕ) (done n : ℕ) → HasWritten old now piece done
    → sent ≡ drop done piece → IfSome now (λ xs. next ≡ Some (xs ++ take n sent)) → HasWritten old next piece (done + n)
written_more None now next piece sent done n so_far is wrote = tt
written_more (Some xs) now next piece sent done n so_far is wrote =
    let P : Option (List ℕ) → Type 0 = λ o. IfSome o (λ ys. next ≡ Some (ys ++ take n sent)) in
    subst P so_far wrote ∙ ap Some (append_assoc xs (take done piece) (take n sent)
    ∙ ap (λ ys. xs ++ ys) (ap (λ part. take done piece ++ take n part) is ∙ take-take-drop done n piece))
