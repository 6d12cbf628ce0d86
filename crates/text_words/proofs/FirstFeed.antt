-- The first line of a text.
use Rattle.std.proofs.Common.{◌≡◌, ℕ, suc, ◌+◌, ◌-◌, ◌<◌, ◌≤◌, Bool, true, false, cond, ltb, List, [], ◌∷◌, Option}
use Rattle.std.proofs.Common.{Some, None}
use Rattle.std.proofs.Common.{refl, sym, subst, ap, take_all, ◌∙◌, arith, drop, get_or, length, take}
use Rattle.std.specs.Prelude.{◌==◌}
use Rattle.std.specs.List.{position_or_len, position}
use Rattle.std.proofs.lemmas.Option.{cond_some}
use Rattle.std.proofs.lemmas.Bool.{ltb-true, ltb-false, lt-ltb}
use Rattle.std.proofs.lemmas.List.{length-drop}
use Rattle.std.proofs.lemmas.List.Sums.{position_or_len_is}
use Rattle.std.specs.Prelude.{IfSome}
use Rattle.memchr.specs.Find.{IsFirstByte, is_byte}
use Rattle.text_words.specs.Lines.{Line, lines_of, onto}

abbrev pub feed_at : List ℕ → ℕ
feed_at bs = position_or_len (λ b. b == 10) bs

abbrev pub ended_line : List ℕ → Line
ended_line text = record { text = text; ended = true }

abbrev pub AtFeed : List ℕ → Type 0
AtFeed bs =
    feed_at bs < length bs → lines_of bs ≡ ended_line (take (feed_at bs) bs) ∷ lines_of (drop (feed_at bs + 1) bs)

at_feed_step : (b : ℕ) (bs : List ℕ) → AtFeed bs → (q : Bool) → (b == 10) ≡ q → AtFeed (b ∷ bs)
at_feed_step b bs ih true e lt = rw e refl
at_feed_step b bs ih false e lt =
    let f : feed_at (b ∷ bs) ≡ 1 + feed_at bs = rw e refl in
    let short : feed_at bs < length bs = omega arith in
    let start : lines_of (b ∷ bs) ≡ onto b (lines_of bs) = rw e refl in
    let next : onto b (lines_of bs) ≡ ended_line (b ∷ take (feed_at bs) bs) ∷ lines_of (drop (feed_at bs + 1) bs) = ap
    (onto b) (ih short) in
    let i : suc (feed_at bs) ≡ feed_at (b ∷ bs) = omega arith in
    let j : suc (feed_at bs + 1) ≡ feed_at (b ∷ bs) + 1 = omega arith in
    let end : ended_line (b ∷ take (feed_at bs) bs) ∷ lines_of (drop (feed_at bs + 1) bs)
    ≡ ended_line (take (feed_at (b ∷ bs)) (b ∷ bs)) ∷ lines_of (drop (feed_at (b ∷ bs) + 1) (b ∷ bs)) =
    λ t. ended_line (take (i t) (b ∷ bs)) ∷ lines_of (drop (j t) (b ∷ bs)) in
    start ∙ next ∙ end

pub line_at_feed : (bs : List ℕ) → AtFeed bs
line_at_feed [] = λ lt. absurd (omega arith)
line_at_feed (b ∷ bs) = at_feed_step b bs (line_at_feed bs) (b == 10) refl

abbrev pub WithoutFeed : List ℕ → Type 0
WithoutFeed bs = length bs ≤ feed_at bs → 0 < length bs → lines_of bs ≡ record { text = bs; ended = false } ∷ []

without_step : (b : ℕ) (bs : List ℕ) → WithoutFeed bs → (q : Bool) → (b == 10) ≡ q → WithoutFeed (b ∷ bs)
without_step b bs ih true e le lt =
    let f : feed_at (b ∷ bs) ≡ 0 = rw e refl in
    absurd (omega arith)
without_step b [] ih false e le lt = rw e refl
without_step b (c ∷ cs) ih false e le lt =
    let f : feed_at (b ∷ c ∷ cs) ≡ 1 + feed_at (c ∷ cs) = rw e refl in
    let long : length (c ∷ cs) ≤ feed_at (c ∷ cs) = omega arith in
    let some : 0 < length (c ∷ cs) = omega arith in
    let start : lines_of (b ∷ c ∷ cs) ≡ onto b (lines_of (c ∷ cs)) = rw e refl in
    start ∙ ap (onto b) (ih long some)

pub line_without_feed : (bs : List ℕ) → WithoutFeed bs
line_without_feed [] = λ le lt. absurd (omega arith)
line_without_feed (b ∷ bs) = without_step b bs (line_without_feed bs) (b == 10) refl

pub first_of_fed : (bs : List ℕ) (at : ℕ) → Some at ≡ position (λ b. b == 10) bs
    → lines_of bs ≡ ended_line (take at bs) ∷ lines_of (take (length bs - (at + 1)) (drop (at + 1) bs))
first_of_fed bs at found =
    let p = cond_some (ltb (feed_at bs) (length bs)) (feed_at bs) at (sym found) in
    let short : feed_at bs < length bs = ltb-true _ _ p.0 in
    let whole : take (length bs - (at + 1)) (drop (at + 1) bs) ≡ drop (at + 1) bs = take_all _ _
    (omega (arith, length-drop (at + 1) bs)) in
    rw whole
    (subst (λ (k : ℕ). lines_of bs ≡ ended_line (take k bs) ∷ lines_of (drop (k + 1) bs)) p.1 (line_at_feed bs short))

pub last_unfed : (bs : List ℕ) → 0 < length bs → None ≡ position (λ b. b == 10) bs
    → lines_of bs ≡ record { text = bs; ended = false } ∷ []
last_unfed bs some none = line_without_feed bs (not_found (ltb (feed_at bs) (length bs)) refl (sym none)) some where
  not_found : (q : Bool) → ltb (feed_at bs) (length bs) ≡ q → cond q (Some (feed_at bs)) None ≡ None
      → length bs ≤ feed_at bs
  not_found true e n = absurd cc
  not_found false e n = ltb-false _ _ e

false_unless : (b : Bool) → ¬ (b ≡ true) → b ≡ false
false_unless true isnt = absurd (isnt refl)
false_unless false isnt = refl

found_none : (bs : List ℕ) → feed_at bs ≡ length bs → None ≡ position (λ b. b == 10) bs
found_none bs e =
    sym (ap (λ (q : Bool). cond q (Some (feed_at bs)) None) (none_below (ltb (feed_at bs) (length bs)) refl))
  where
    none_below : (q : Bool) → ltb (feed_at bs) (length bs) ≡ q → q ≡ false
    none_below true low = let lt = ltb-true _ _ low in absurd (omega arith)
    none_below false low = refl

found_some : (bs : List ℕ) (at : ℕ) → feed_at bs ≡ at → at < length bs → Some at ≡ position (λ b. b == 10) bs
found_some bs at e lt =
    sym (ap (λ (q : Bool). cond q (Some (feed_at bs)) None) (lt-ltb (feed_at bs) (length bs) (omega arith)) ∙ ap Some e)

-- A search for the first line feed finds its position.
pub first_feed : (bs : List ℕ) (r : Option ℕ) → IsFirstByte (is_byte 10) bs r → r ≡ position (λ b. b == 10) bs
first_feed bs None nowhere =
    found_none bs (position_or_len_is (λ b. b == 10) bs (length bs) 0 (omega arith)
    (λ k lt. false_unless (get_or bs k 0 == 10) (nowhere k (omega arith) lt)) (λ lt. absurd (omega arith)))
first_feed bs (Some k) h =
    found_some bs k (position_or_len_is (λ b. b == 10) bs k 0 (omega (arith, h.0.high))
    (λ i lt. false_unless (get_or bs i 0 == 10) (h.0.before i (omega arith) lt)) (λ lt. h.1)) h.0.high

pub feed_within : (bs : List ℕ) (r : Option ℕ) → IsFirstByte (is_byte 10) bs r → IfSome r (λ at. at < length bs)
feed_within bs None nowhere = tt
feed_within bs (Some k) h = h.0.high
