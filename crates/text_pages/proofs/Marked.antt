-- A byte, the front of a short text and another text, which are written one after another behind the bytes of a page.
use Rattle.std.proofs.Common.{◌≡◌, ℕ, ◌+◌, ◌<◌, ◌≤◌, List, [], ◌∷◌, ◌++◌, length, take, drop, set, refl, sym, ap, ◌∙◌}
use Rattle.std.proofs.Common.{arith, append_assoc}
use borrow.Rule.Slice.PartMut.{put_mid}
use Rattle.std.proofs.Math.Seq.{take-append-add}
use Rattle.std.proofs.lemmas.Slice.{take-put_mid}
use Rattle.std.proofs.lemmas.List.{length-take, length-append, length-set, take-take}
use Rattle.std.proofs.lemmas.Grind.{take-set_at}

onto : (held short end : List ℕ) (mark : ℕ) → ((held ++ mark ∷ []) ++ short) ++ end ≡ held ++ mark ∷ short ++ end
onto held short end mark = simp append_assoc

pub marked : (bs short end : List ℕ) (n mark len j k : ℕ)
    → length bs ≡ 65536 → length short ≡ 32 → len ≤ 32 → n + 33 ≤ 65536
    → take (n + 1 + len + length end) (put_mid (n + 1 + len) k (put_mid (n + 1) j (set bs n mark) short) end)
    ≡ take n bs ++ mark ∷ take len short ++ end
marked bs short end n mark len j k whole size few room =
    let marked = set bs n mark in
    let long : length marked ≡ 65536 = length-set bs n mark ∙ whole in
    let with_short = put_mid (n + 1) j marked short in
    let front : length (take (n + 1) marked) ≡ n + 1 = omega (arith, length-take (n + 1) marked) in
    let size_is : length with_short ≡ length (take (n + 1) marked) + length (short ++ drop j (drop (n + 1) marked)) =
    length-append (take (n + 1) marked) (short ++ drop j (drop (n + 1) marked)) in
    let fits : n + 1 + len ≤ length with_short = omega
    (arith, size_is, length-append short (drop j (drop (n + 1) marked))) in
    let shorts : take (n + 1 + 32) with_short ≡ take (n + 1) marked ++ short = take-put_mid
    (n + 1) j marked short (n + 1 + 32) (omega arith) (omega arith) in
    let part : take (n + 1 + len) with_short ≡ take (n + 1) marked ++ take len short =
    sym (take-take (n + 1 + len) (n + 1 + 32) with_short (omega arith)) ∙ ap (take (n + 1 + len)) shorts
    ∙ ap (λ (m : ℕ). take m (take (n + 1) marked ++ short)) (omega arith)
    ∙ take-append-add (take (n + 1) marked) short len in
    take-put_mid (n + 1 + len) k with_short end (n + 1 + len + length end) refl fits ∙ ap (λ (l : List ℕ). l ++ end)
    (part ∙ ap (λ (l : List ℕ). l ++ take len short) (take-set_at bs n (n + 1) mark refl (omega arith)))
    ∙ onto (take n bs) (take len short) end mark
