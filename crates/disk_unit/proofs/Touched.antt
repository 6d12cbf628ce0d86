-- The blocks that were written: where one stands, and what a read and a write of it are.
use Rattle.std.proofs.Common.{◌≡◌, ◌≢◌, ◌<◌, ◌≤◌, ℕ, ◌+◌, zero, suc, Bool, true, false, List, [], ◌∷◌, ◌++◌, length}
use Rattle.std.proofs.Common.{Some, None, refl, ap, sym, ◌∙◌, arith, rules, take, drop, get_or, set, replicate}
use Rattle.std.specs.Prelude.{◌==◌, nat_lt, if◌then◌else◌}
use Rattle.std.specs.List.{insert}
use Rattle.std.specs.Global.{Vec}
use Rattle.std.proofs.lemmas.Bool.{eqb-false, eqb-true, lt-ltb, ltb-true, ne_eqb, ltb-false, le-ltb, true≢false}
use Rattle.std.proofs.lemmas.List.{length-replicate}
use Rattle.std.proofs.lemmas.Grind.{common_steps}
use Rattle.array_model.specs.Contents.{touched_block, touched_with}
use Rattle.disk_unit.specs.Sparse.{touched_of, AreRising, HaveSize, place_in, is_at, touched_from, IsSparse}

-- ---- a place

pub place_here : (n : ℕ) (numbers : List ℕ) (from : ℕ) → from ≤ n → place_in (n ∷ numbers) from ≡ 0
place_here n numbers from h = ap (λ (b : Bool). if b then suc (place_in numbers from) else 0) (le-ltb n from h)

pub place_later : (n : ℕ) (numbers : List ℕ) (from : ℕ) → n < from
    → place_in (n ∷ numbers) from ≡ suc (place_in numbers from)
place_later n numbers from h = ap (λ (b : Bool). if b then suc (place_in numbers from) else 0) (lt-ltb n from h)

-- The place where those below end is that place.
pub place_is : (numbers : List ℕ) (from place : ℕ) → place ≤ length numbers
    → ((k : ℕ) → k < place → get_or numbers k 0 < from)
    → ((k : ℕ) → place ≤ k → k < length numbers → from ≤ get_or numbers k 0) → place ≡ place_in numbers from
place_is [] from place within below above = omega arith
place_is (n ∷ numbers) from zero within below above =
    sym (place_here n numbers from (above 0 (omega arith) (omega arith)))
place_is (n ∷ numbers) from (suc place) within below above = ap suc (place_is numbers from place
    (omega arith) (λ k h. below (suc k) (omega arith)) (λ k h l. above (suc k) (omega arith) (omega arith)))
    ∙ sym (place_later n numbers from (below 0 (omega arith)))

pub place_within : (numbers : List ℕ) (from : ℕ) → place_in numbers from ≤ length numbers
place_within [] from = omega arith
place_within (n ∷ numbers) from = go (nat_lt n from) (place_within numbers from)
  where
    go : (b : Bool) → place_in numbers from ≤ length numbers
        → (if b then suc (place_in numbers from) else 0) ≤ suc (length numbers)
    go true h = omega arith
    go false h = omega arith

pub at_within : (numbers : List ℕ) (place lba : ℕ) → is_at numbers place lba ≡ true → place < length numbers
at_within [] place lba found = absurd (true≢false (sym found))
at_within (n ∷ numbers) zero lba found = omega arith
at_within (n ∷ numbers) (suc place) lba found =
    let h : place < length numbers = at_within numbers place lba found in
    omega arith

-- ---- rising numbers

pub rising_at : (low : ℕ) (numbers : List ℕ) (i d : ℕ) → AreRising low numbers → i < length numbers
    → low + i ≤ get_or numbers i d
rising_at low [] i d rising within = omega arith
rising_at low (n ∷ numbers) zero d rising within = let h = rising.0 in omega arith
rising_at low (n ∷ numbers) (suc i) d rising within =
    let h = rising.0 in
    let later : suc n + i ≤ get_or numbers i d = rising_at (suc n) numbers i d rising.1 (omega arith) in
    omega arith

pub rising_order : (low : ℕ) (numbers : List ℕ) (i j d : ℕ) → AreRising low numbers → i ≤ j → j < length numbers
    → get_or numbers i d ≤ get_or numbers j d
rising_order low [] i j d rising order within = omega arith
rising_order low (n ∷ numbers) zero zero d rising order within = omega arith
rising_order low (n ∷ numbers) zero (suc j) d rising order within =
    let later : suc n + j ≤ get_or numbers j d = rising_at (suc n) numbers j d rising.1 (omega arith) in
    omega arith
rising_order low (n ∷ numbers) (suc i) zero d rising order within = omega arith
rising_order low (n ∷ numbers) (suc i) (suc j) d rising order within =
    rising_order (suc n) numbers i j d rising.1 (omega arith) (omega arith)

pub rising_insert : (low : ℕ) (numbers : List ℕ) (lba : ℕ) → AreRising low numbers → low ≤ lba
    → is_at numbers (place_in numbers lba) lba ≡ false → AreRising low (insert numbers (place_in numbers lba) lba)
rising_insert low [] lba rising above absent = (above, tt)
rising_insert low (n ∷ numbers) lba rising above absent =
    go (nat_lt n lba) refl absent (rising_insert (suc n) numbers lba rising.1)
  where
    go : (b : Bool) → nat_lt n lba ≡ b → is_at (n ∷ numbers) (if b then suc (place_in numbers lba) else 0) lba ≡ false
        → (suc n ≤ lba → is_at numbers (place_in numbers lba) lba ≡ false
        → AreRising (suc n) (insert numbers (place_in numbers lba) lba))
        → AreRising low (insert (n ∷ numbers) (if b then suc (place_in numbers lba) else 0) lba)
    go true below e rest = let h : n < lba = ltb-true n lba below in (rising.0, rest (omega arith) e)
    go false over e rest =
        let h : lba ≤ n = ltb-false n lba over in
        let other : n ≢ lba = eqb-false n lba e in
        let next : suc lba ≤ n = omega arith in
        (above, (next, rising.1))

-- ---- a read

absent_above : (low : ℕ) (numbers : List ℕ) (blocks : List (Vec ℕ)) (lba : ℕ) (otherwise : List ℕ)
    → AreRising low numbers → lba < low → touched_block (touched_of numbers blocks) lba otherwise ≡ otherwise
absent_above low [] blocks lba otherwise rising below = refl
absent_above low (n ∷ numbers) [] lba otherwise rising below = refl
absent_above low (n ∷ numbers) (block ∷ blocks) lba otherwise rising below =
    let h = rising.0 in
    let other : n ≢ lba = omega arith in
    ap (λ (b : Bool). if b then block.items else touched_block (touched_of numbers blocks) lba otherwise)
    (ne_eqb n lba other) ∙ absent_above (suc n) numbers blocks lba otherwise rising.1 (omega arith)

pub read_absent : (low : ℕ) (numbers : List ℕ) (blocks : List (Vec ℕ)) (lba : ℕ) (otherwise : List ℕ)
    → AreRising low numbers → is_at numbers (place_in numbers lba) lba ≡ false
    → touched_block (touched_of numbers blocks) lba otherwise ≡ otherwise
read_absent low [] blocks lba otherwise rising absent = refl
read_absent low (n ∷ numbers) [] lba otherwise rising absent = refl
read_absent low (n ∷ numbers) (block ∷ blocks) lba otherwise rising absent =
    go (nat_lt n lba) refl absent (read_absent (suc n) numbers blocks lba otherwise rising.1)
  where
    go : (b : Bool) → nat_lt n lba ≡ b → is_at (n ∷ numbers) (if b then suc (place_in numbers lba) else 0) lba ≡ false
        → (is_at numbers (place_in numbers lba) lba ≡ false
        → touched_block (touched_of numbers blocks) lba otherwise ≡ otherwise)
        → (if n == lba then block.items else touched_block (touched_of numbers blocks) lba otherwise) ≡ otherwise
    go true below e rest =
        let h : n < lba = ltb-true n lba below in
        let other : n ≢ lba = omega arith in
        ap (λ (b : Bool). if b then block.items else touched_block (touched_of numbers blocks) lba otherwise)
        (ne_eqb n lba other) ∙ rest e
    go false over e rest =
        let h : lba ≤ n = ltb-false n lba over in
        ap (λ (b : Bool). if b then block.items else touched_block (touched_of numbers blocks) lba otherwise) e
        ∙ absent_above (suc n) numbers blocks lba otherwise rising.1 (omega arith)

pub read_found : (numbers : List ℕ) (blocks : List (Vec ℕ)) (lba : ℕ) (otherwise : List ℕ) (d : Vec ℕ)
    → length numbers ≡ length blocks → is_at numbers (place_in numbers lba) lba ≡ true
    → touched_block (touched_of numbers blocks) lba otherwise ≡ (get_or blocks (place_in numbers lba) d).items
read_found [] blocks lba otherwise d paired found = absurd (true≢false (sym found))
read_found (n ∷ numbers) [] lba otherwise d paired found =
    absurd (let p : suc (length numbers) ≡ 0 = paired in let q : ⊥ = omega arith in q)
read_found (n ∷ numbers) (block ∷ blocks) lba otherwise d paired found =
    go (nat_lt n lba) refl found (read_found numbers blocks lba otherwise d (omega arith))
  where
    go : (b : Bool) → nat_lt n lba ≡ b → is_at (n ∷ numbers) (if b then suc (place_in numbers lba) else 0) lba ≡ true
        → (is_at numbers (place_in numbers lba) lba ≡ true
        → touched_block (touched_of numbers blocks) lba otherwise ≡ (get_or blocks (place_in numbers lba) d).items)
        → (if n == lba then block.items else touched_block (touched_of numbers blocks) lba otherwise)
        ≡ (get_or (block ∷ blocks) (if b then suc (place_in numbers lba) else 0) d).items
    go true below e rest =
        let h : n < lba = ltb-true n lba below in
        let other : n ≢ lba = omega arith in
        ap (λ (b : Bool). if b then block.items else touched_block (touched_of numbers blocks) lba otherwise)
        (ne_eqb n lba other) ∙ rest e
    go false over e rest =
        ap (λ (b : Bool). if b then block.items else touched_block (touched_of numbers blocks) lba otherwise) e

-- ---- a write

pub write_found : (numbers : List ℕ) (blocks : List (Vec ℕ)) (lba : ℕ) (new : Vec ℕ)
    → length numbers ≡ length blocks → is_at numbers (place_in numbers lba) lba ≡ true
    → touched_of numbers (set blocks (place_in numbers lba) new)
    ≡ touched_with (touched_of numbers blocks) lba new.items
write_found [] blocks lba new paired found = absurd (true≢false (sym found))
write_found (n ∷ numbers) [] lba new paired found =
    absurd (let p : suc (length numbers) ≡ 0 = paired in let q : ⊥ = omega arith in q)
write_found (n ∷ numbers) (block ∷ blocks) lba new paired found =
    go (nat_lt n lba) refl found (write_found numbers blocks lba new (omega arith))
  where
    go : (b : Bool) → nat_lt n lba ≡ b → is_at (n ∷ numbers) (if b then suc (place_in numbers lba) else 0) lba ≡ true
        → (is_at numbers (place_in numbers lba) lba ≡ true → touched_of numbers (set blocks (place_in numbers lba) new)
        ≡ touched_with (touched_of numbers blocks) lba new.items)
        → touched_of (n ∷ numbers) (set (block ∷ blocks) (if b then suc (place_in numbers lba) else 0) new)
        ≡ (if n == lba then (lba, new.items) ∷ touched_of numbers blocks
        else if nat_lt lba n then (lba, new.items) ∷ ((n, block.items) ∷ touched_of numbers blocks)
        else (n, block.items) ∷ touched_with (touched_of numbers blocks) lba new.items)
    go true below e rest =
        let h : n < lba = ltb-true n lba below in
        let other : n ≢ lba = omega arith in
        let not_over : nat_lt lba n ≡ false = le-ltb lba n (omega arith) in
        ap (λ (t : List (ℕ × List ℕ)). (n, block.items) ∷ t) (rest e)
        ∙ sym (λ i. if ne_eqb n lba other i then (lba, new.items) ∷ touched_of numbers blocks
        else if not_over i then (lba, new.items) ∷ ((n, block.items) ∷ touched_of numbers blocks)
        else (n, block.items) ∷ touched_with (touched_of numbers blocks) lba new.items)
    go false over e rest = (λ i. (eqb-true n lba e i, new.items) ∷ touched_of numbers blocks)
        ∙ sym (ap (λ (b : Bool). if b then (lba, new.items) ∷ touched_of numbers blocks
        else if nat_lt lba n then (lba, new.items) ∷ ((n, block.items) ∷ touched_of numbers blocks)
        else (n, block.items) ∷ touched_with (touched_of numbers blocks) lba new.items) e)

pub write_absent : (numbers : List ℕ) (blocks : List (Vec ℕ)) (lba : ℕ) (new : Vec ℕ)
    → length numbers ≡ length blocks → is_at numbers (place_in numbers lba) lba ≡ false
    → touched_of (insert numbers (place_in numbers lba) lba) (insert blocks (place_in numbers lba) new)
    ≡ touched_with (touched_of numbers blocks) lba new.items
write_absent [] [] lba new paired absent = refl
write_absent [] (block ∷ blocks) lba new paired absent =
    absurd (let p : 0 ≡ suc (length blocks) = paired in let q : ⊥ = omega arith in q)
write_absent (n ∷ numbers) [] lba new paired absent =
    absurd (let p : suc (length numbers) ≡ 0 = paired in let q : ⊥ = omega arith in q)
write_absent (n ∷ numbers) (block ∷ blocks) lba new paired absent =
    go (nat_lt n lba) refl absent (write_absent numbers blocks lba new (omega arith))
  where
    go : (b : Bool) → nat_lt n lba ≡ b → is_at (n ∷ numbers) (if b then suc (place_in numbers lba) else 0) lba ≡ false
        → (is_at numbers (place_in numbers lba) lba ≡ false
        → touched_of (insert numbers (place_in numbers lba) lba) (insert blocks (place_in numbers lba) new)
        ≡ touched_with (touched_of numbers blocks) lba new.items)
        → touched_of (insert (n ∷ numbers) (if b then suc (place_in numbers lba) else 0) lba)
        (insert (block ∷ blocks) (if b then suc (place_in numbers lba) else 0) new)
        ≡ (if n == lba then (lba, new.items) ∷ touched_of numbers blocks
        else if nat_lt lba n then (lba, new.items) ∷ ((n, block.items) ∷ touched_of numbers blocks)
        else (n, block.items) ∷ touched_with (touched_of numbers blocks) lba new.items)
    go true below e rest =
        let h : n < lba = ltb-true n lba below in
        let other : n ≢ lba = omega arith in
        let not_over : nat_lt lba n ≡ false = le-ltb lba n (omega arith) in
        ap (λ (t : List (ℕ × List ℕ)). (n, block.items) ∷ t) (rest e)
        ∙ sym (λ i. if ne_eqb n lba other i then (lba, new.items) ∷ touched_of numbers blocks
        else if not_over i then (lba, new.items) ∷ ((n, block.items) ∷ touched_of numbers blocks)
        else (n, block.items) ∷ touched_with (touched_of numbers blocks) lba new.items)
    go false over e rest =
        let h : lba ≤ n = ltb-false n lba over in
        let other : n ≢ lba = eqb-false n lba e in
        let is_over : nat_lt lba n ≡ true = lt-ltb lba n (omega arith) in
        sym (λ i. if e i then (lba, new.items) ∷ touched_of numbers blocks
        else if is_over i then (lba, new.items) ∷ ((n, block.items) ∷ touched_of numbers blocks)
        else (n, block.items) ∷ touched_with (touched_of numbers blocks) lba new.items)

-- ---- sizes

pub size_at : (size : ℕ) (blocks : List (Vec ℕ)) (i : ℕ) (d : Vec ℕ) → HaveSize size blocks → i < length blocks
    → length (get_or blocks i d).items ≡ size
size_at size [] i d sized within = absurd (let q : ⊥ = omega arith in q)
size_at size (block ∷ blocks) zero d sized within = sized.0
size_at size (block ∷ blocks) (suc i) d sized within = size_at size blocks i d sized.1 (omega arith)

pub sized_set : (size : ℕ) (blocks : List (Vec ℕ)) (i : ℕ) (new : Vec ℕ) → HaveSize size blocks
    → length new.items ≡ size → HaveSize size (set blocks i new)
sized_set size [] i new sized fits = tt
sized_set size (block ∷ blocks) zero new sized fits = (fits, sized.1)
sized_set size (block ∷ blocks) (suc i) new sized fits = (sized.0, sized_set size blocks i new sized.1 fits)

pub sized_insert : (size : ℕ) (blocks : List (Vec ℕ)) (i : ℕ) (new : Vec ℕ) → HaveSize size blocks
    → length new.items ≡ size → HaveSize size (insert blocks i new)
sized_insert size [] zero new sized fits = (fits, tt)
sized_insert size [] (suc i) new sized fits = (fits, tt)
sized_insert size (block ∷ blocks) zero new sized fits = (fits, sized)
sized_insert size (block ∷ blocks) (suc i) new sized fits = (sized.0, sized_insert size blocks i new sized.1 fits)

pub sized_push : (size : ℕ) (blocks : List (Vec ℕ)) (new : Vec ℕ) → HaveSize size blocks → length new.items ≡ size
    → HaveSize size (blocks ++ new ∷ [])
sized_push size [] new sized fits = (fits, tt)
sized_push size (block ∷ blocks) new sized fits = (sized.0, sized_push size blocks new sized.1 fits)

pub sized_take : (size : ℕ) (blocks : List (Vec ℕ)) (n : ℕ) → HaveSize size blocks → HaveSize size (take n blocks)
sized_take size [] zero sized = tt
sized_take size [] (suc n) sized = tt
sized_take size (block ∷ blocks) zero sized = tt
sized_take size (block ∷ blocks) (suc n) sized = (sized.0, sized_take size blocks n sized.1)

-- ---- the next one

lt_suc : (a b : ℕ) → nat_lt (suc a) (suc b) ≡ nat_lt a b
lt_suc a b = go (nat_lt a b) refl
  where
    go : (r : Bool) → nat_lt a b ≡ r → nat_lt (suc a) (suc b) ≡ r
    go true e = let h : a < b = ltb-true a b e in lt-ltb (suc a) (suc b) (omega arith)
    go false e = let h : b ≤ a = ltb-false a b e in le-ltb (suc a) (suc b) (omega arith)

pub next_is : (numbers : List ℕ) (blocks : List (Vec ℕ)) (from : ℕ) → length numbers ≡ length blocks
    → touched_from (touched_of numbers blocks) from
    ≡ (if nat_lt (place_in numbers from) (length numbers) then Some (get_or numbers (place_in numbers from) 0)
    else None)
next_is [] blocks from paired = refl
next_is (n ∷ numbers) [] from paired =
    absurd (let p : suc (length numbers) ≡ 0 = paired in let q : ⊥ = omega arith in q)
next_is (n ∷ numbers) (block ∷ blocks) from paired = go (nat_lt n from) (next_is numbers blocks from (omega arith))
  where
    go : (b : Bool) → touched_from (touched_of numbers blocks) from
        ≡ (if nat_lt (place_in numbers from) (length numbers) then Some (get_or numbers (place_in numbers from) 0)
        else None)
        → (if b then touched_from (touched_of numbers blocks) from else Some n)
        ≡ (if nat_lt (if b then suc (place_in numbers from) else 0) (suc (length numbers))
        then Some (get_or (n ∷ numbers) (if b then suc (place_in numbers from) else 0) 0) else None)
    go true rest = rest ∙ sym (ap (λ (b : Bool). if b then Some (get_or numbers (place_in numbers from) 0) else None)
        (lt_suc (place_in numbers from) (length numbers)))
    go false rest = sym (ap (λ (b : Bool). if b then Some n else None) (lt-ltb 0 (suc (length numbers)) (omega arith)))

pub at_is : (numbers : List ℕ) (place lba : ℕ)
    → is_at numbers place lba ≡ (if nat_lt place (length numbers) then get_or numbers place 0 == lba else false)
at_is [] place lba = sym (ap (λ (b : Bool). if b then 0 == lba else false) (le-ltb place 0 (omega arith)))
at_is (n ∷ numbers) zero lba =
    sym (ap (λ (b : Bool). if b then n == lba else false) (lt-ltb 0 (suc (length numbers)) (omega arith)))
at_is (n ∷ numbers) (suc place) lba = at_is numbers place lba
    ∙ sym (ap (λ (b : Bool). if b then get_or numbers place 0 == lba else false) (lt_suc place (length numbers)))

pub put_whole : (n : ℕ) (new items : List ℕ) → length new ≡ n → take n (new ++ drop (length new) items) ≡ new
put_whole n new items same = grind (arith, common_steps)

pub sized_front : (size : ℕ) (blocks : List (Vec ℕ)) (last : Vec ℕ) → HaveSize size (blocks ++ last ∷ [])
    → HaveSize size blocks
sized_front size [] last sized = tt
sized_front size (block ∷ blocks) last sized = (sized.0, sized_front size blocks last sized.1)

pub sized_last : (size : ℕ) (blocks : List (Vec ℕ)) (last : Vec ℕ) → HaveSize size (blocks ++ last ∷ [])
    → length last.items ≡ size
sized_last size [] last sized = sized.0
sized_last size (block ∷ blocks) last sized = sized_last size blocks last sized.1

pub length_insert : {X : Type 0} (xs : List X) (i : ℕ) (x : X) → length (insert xs i x) ≡ length xs + 1
length_insert [] zero x = omega arith
length_insert [] (suc i) x = omega arith
length_insert (y ∷ xs) zero x = omega arith
length_insert (y ∷ xs) (suc i) x = let h : length (insert xs i x) ≡ length xs + 1 = length_insert xs i x in omega arith

pub length_last : (blocks : List (Vec ℕ)) (last : Vec ℕ) → length (blocks ++ last ∷ []) ≡ length blocks + 1
length_last [] last = omega arith
length_last (block ∷ blocks) last =
    let h : length (blocks ++ last ∷ []) ≡ length blocks + 1 = length_last blocks last in
    omega arith

-- ---- a write, on the fields

pub overwrite_sound : (count size : ℕ) (numbers : List ℕ) (blocks pool : List (Vec ℕ))
    (room more_room same_room : ℕ) (place : ℕ) (new : Vec ℕ)
    → IsSparse count size numbers blocks pool room more_room → length new.items ≡ size → same_room ≡ more_room
    → IsSparse count size numbers (set blocks place new) pool room same_room
overwrite_sound count size numbers blocks pool room more_room same_room place new sound fits same =
    let l : length (set blocks place new) ≡ length blocks = grind (arith, common_steps) in
    record {
      some = sound.some;
      most = sound.most;
      some_size = sound.some_size;
      most_size = sound.most_size;
      rising = sound.rising;
      paired = sound.paired ∙ sym l;
      sized = sized_set size blocks place new sound.sized fits;
      pooled = sound.pooled;
      numbers_fit = sound.numbers_fit;
      blocks_fit = let h = sound.blocks_fit in omega arith;
    }

pub touch_sound : (count size : ℕ) (numbers : List ℕ) (blocks pool : List (Vec ℕ)) (room more_room later later_more : ℕ)
    (lba : ℕ) (new last : Vec ℕ) → IsSparse count size numbers blocks (pool ++ last ∷ []) room more_room
    → is_at numbers (place_in numbers lba) lba ≡ false → length new.items ≡ size → room ≤ later → more_room ≤ later_more
    → IsSparse count size (insert numbers (place_in numbers lba) lba)
    (insert blocks (place_in numbers lba) new) pool later later_more
touch_sound count size numbers blocks pool room more_room later later_more lba new last sound absent fits more most =
    let l = length_insert numbers (place_in numbers lba) lba in
    let m = length_insert blocks (place_in numbers lba) new in
    let n = length_last pool last in
    record {
      some = sound.some;
      most = sound.most;
      some_size = sound.some_size;
      most_size = sound.most_size;
      rising = rising_insert 0 numbers lba sound.rising (omega arith) absent;
      paired = l ∙ ap (λ (k : ℕ). k + 1) sound.paired ∙ sym m;
      sized = sized_insert size blocks (place_in numbers lba) new sound.sized fits;
      pooled = sized_front size pool last sound.pooled;
      numbers_fit = let h = sound.numbers_fit in omega arith;
      blocks_fit = let h = sound.blocks_fit in omega arith;
    }

-- Every block has the size.
pub touched_whole : (size : ℕ) (numbers : List ℕ) (blocks : List (Vec ℕ)) (lba : ℕ) → HaveSize size blocks
    → length (touched_block (touched_of numbers blocks) lba (replicate size 0)) ≡ size
touched_whole size [] blocks lba sized = length-replicate size 0
touched_whole size (n ∷ numbers) [] lba sized = length-replicate size 0
touched_whole size (n ∷ numbers) (block ∷ blocks) lba sized =
    go (n == lba) (touched_whole size numbers blocks lba sized.1)
  where
    go : (x : Bool) → length (touched_block (touched_of numbers blocks) lba (replicate size 0)) ≡ size
        → length (if x then block.items else touched_block (touched_of numbers blocks) lba (replicate size 0)) ≡ size
    go true h = sized.0
    go false h = h
