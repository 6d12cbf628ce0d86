use Rattle.std.proofs.Common.{◌≡◌, ◌+◌, ◌≤◌, ◌++◌, ◌∷◌, ℕ, List, take, length, rules, set, arith, ap, ◌∙◌}
use borrow.Rule.Slice.PartMut.{put_mid}
use Rattle.text_pages.proofs.Marked.{marked}
use Rattle.text_pages.proofs.held.Held.has_added_marked.Goals as goal

-- the two parts hold what was copied to them
copied : (bs short end short_now end_now : List ℕ) (n mark len j k : ℕ) → short_now ≡ short
    → end_now ≡ end → length bs ≡ 65536 → length short ≡ 32 → len ≤ 32 → n + 33 ≤ 65536
    → take (n + 1 + len + length end) (put_mid (n + 1 + len) k (put_mid (n + 1) j (set bs n mark) short_now) end_now)
    ≡ take n bs ++ mark ∷ take len short ++ end
copied bs short end short_now end_now n mark len j k is rest whole size few room =
    (λ i. take (n + 1 + len + length end) (put_mid (n + 1 + len) k (put_mid (n + 1) j (set bs n mark) (is i)) (rest i)))
    ∙ marked bs short end n mark len j k whole size few room

pub returns-then-has_room-clause-added : goal.returns-then-has_room-clause-added
returns-then-has_room-clause-added c =
    λ _. copied c.self.inside.bytes c.args.bytes.now c.args.end.now _ _ c.self.inside.len c.args.mark
    c.args.len _ _ c.copy_from_slice.ensures.after c.copy_from_slice-then-has_room.ensures.after
    (search rules) (search rules) (search rules) (omega (arith, c.if-has_room.true))
    ∙ ap (λ (held : List ℕ). held ++ c.args.mark ∷ take c.args.len c.args.bytes.now ++ c.args.end.now) (search rules)
