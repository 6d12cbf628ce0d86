use Rattle.std.proofs.Common.{◌≡◌, ℕ, ◌+◌, List, [], ◌∷◌, ap, ◌∙◌}
use Rattle.std.specs.Prelude.{slice_index_or}
use Rattle.vcd_text.proofs.Nibbles.{fourth, third, second, first}
use Rattle.vcd_text.proofs.writing.value_line.Goals as goal

-- the digit at this place
at : (k : ℕ) {l digits : List ℕ} → l ≡ digits → slice_index_or l k 0 ≡ slice_index_or digits k 0
at k is = ap (λ (l : List ℕ). slice_index_or l k 0) is

pub returns : goal.returns
returns c =
    let n = c.args.lines in
    let p = c.nibble-p.ensures ∙ fourth n in
    let q = c.nibble-q.ensures ∙ third n in
    let r = c.nibble-r.ensures ∙ second n in
    let s = c.nibble-s.ensures ∙ first n in
    λ i. 98 ∷ c.bit.ensures i ∷ c.bit-2.ensures i ∷ at 0 p i ∷ at 1 p i ∷ at 2 p i ∷ at 3 p i ∷ at 0 q i ∷ at 1 q i
    ∷ at 2 q i ∷ at 3 q i ∷ at 0 r i ∷ at 1 r i ∷ at 2 r i ∷ at 3 r i ∷ at 0 s i ∷ at 1 s i ∷ at 2 s i ∷ at 3 s i ∷ 32
    ∷ (97 + c.args.dev) ∷ 10 ∷ []
