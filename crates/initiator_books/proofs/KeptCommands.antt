-- What is kept of an initiator's own commands stays so as they go on.
use Rattle.std.proofs.Common.{ℕ, suc, zero, ◌≡◌, ◌+◌, ◌-◌, ◌<◌, ◌≤◌, Bool, true, false, List, [], ◌∷◌, ◌++◌, ◌∙◌, refl}
use Rattle.std.proofs.Common.{sym, arith, length, get_or, set, take, drop, Option}
use Rattle.std.specs.Prelude.{if◌then◌else◌, ◌&&◌, ◌==◌, map, nat_le, nat_lt, slice_range}
use Rattle.std.specs.List.{between}
use Rattle.std.proofs.lemmas.Bool.{and_parts, and_from, ltb-true, lt-ltb, eq-eqb}
use Rattle.std.proofs.lemmas.Bool.Decides.{nat_tests}
use Rattle.std.proofs.lemmas.List.{map-append, take-set-le, take-take, drop-set-lt, drop-drop, take-map, drop-map}
use Rattle.std.proofs.lemmas.List.{take-append-drop, get_or-set_same, get_or-set_other, length-set, length-map}
use Rattle.std.proofs.lemmas.List.Edits.{split_between}
use Rattle.bus_base.specs.declared.Event.{Event}
use Rattle.scenario.specs.declared.value.CmdDef.{CmdDef}
use Rattle.due_model.specs.Wants.{own_command, own_commands}
use Rattle.initiator_books.specs.declared.mine.Mine.{Mine}
use Rattle.initiator_books.specs.Commands.{is_past, is_fresh, all_past, all_fresh, are_placed, are_rising}
use Rattle.initiator_books.specs.Commands.{concerns_many, IsPlaceOf, AreKept}
use Rattle.initiator_books.specs.Mines.{nothing_sent, mine_of, mines_of, mine_after_event, open_mines, mines_since}
use Rattle.initiator_books.specs.Mines.{mine_by}
use Rattle.initiator_books.specs.OwnLinks.{named_in}
use Rattle.initiator_books.proofs.OwnCommands.{all_past_stay, all_fresh_stay, open_after_past, open_before_fresh}
use Rattle.initiator_books.proofs.OwnCommands.{named_after_past, named_before_fresh, since_after_past, first_after_past}
use Rattle.initiator_books.proofs.BookSteps.{event_number}

-- ---- fronts that are past, and ends that are fresh

front_past : (q : ℕ) (ys : List Mine) → all_past ys ≡ true → all_past (take q ys) ≡ true
front_past zero ys h = refl
front_past (suc q) [] h = refl
front_past (suc q) (m ∷ ys) h =
    let p = and_parts (is_past m) (all_past ys) h in
    and_from (is_past m) (all_past (take q ys)) p.0 (front_past q ys p.1)

pub shorter_past : (q p : ℕ) (xs : List Mine) → q ≤ p → all_past (take p xs) ≡ true → all_past (take q xs) ≡ true
shorter_past q p xs l h = (λ i. all_past (sym (take-take q p xs l) i)) ∙ front_past q (take p xs) h

end_fresh : (q : ℕ) (ys : List Mine) → all_fresh ys ≡ true → all_fresh (drop q ys) ≡ true
end_fresh zero ys h = h
end_fresh (suc q) [] h = refl
end_fresh (suc q) (m ∷ ys) h = end_fresh q ys (and_parts (is_fresh m) (all_fresh ys) h).1

pub later_fresh : (r q : ℕ) (xs : List Mine) → r ≤ q → all_fresh (drop r xs) ≡ true → all_fresh (drop q xs) ≡ true
later_fresh r q xs l h =
    let e : r + (q - r) ≡ q = omega arith in
    (λ i. all_fresh (drop (sym e i) xs)) ∙ (λ i. all_fresh (sym (drop-drop (q - r) r xs) i))
    ∙ end_fresh (q - r) (drop r xs) h

past_next : (p : ℕ) (xs : List Mine) (d : Mine) → p < length xs → all_past (take p xs) ≡ true
    → is_past (get_or xs p d) ≡ true → all_past (take (suc p) xs) ≡ true
past_next p [] d l h now = absurd (omega (arith, l))
past_next zero (m ∷ xs) d l h now = and_from (is_past m) true now refl
past_next (suc p) (m ∷ xs) d l h now =
    let q = and_parts (is_past m) (all_past (take p xs)) h in
    and_from (is_past m) (all_past (take (suc p) xs)) q.0 (past_next p xs d (omega (arith, l)) q.1 now)

plus_one : (n : ℕ) → n + 1 ≡ suc n
plus_one n = omega arith

pub past_more : (p : ℕ) (xs : List Mine) (d : Mine) → p < length xs → all_past (take p xs) ≡ true
    → is_past (get_or xs p d) ≡ true → all_past (take (p + 1) xs) ≡ true
past_more p xs d l h now = (λ i. all_past (take (plus_one p i) xs)) ∙ past_next p xs d l h now

past_written : (p : ℕ) (xs : List Mine) (i : ℕ) (m : Mine) → all_past (take p xs) ≡ true → is_past m ≡ true
    → all_past (take p (set xs i m)) ≡ true
past_written zero xs i m h x = refl
past_written (suc p) [] i m h x = refl
past_written (suc p) (n ∷ xs) zero m h x =
    and_from (is_past m) (all_past (take p xs)) x (and_parts (is_past n) (all_past (take p xs)) h).1
past_written (suc p) (n ∷ xs) (suc i) m h x =
    let q = and_parts (is_past n) (all_past (take p xs)) h in
    and_from (is_past n) (all_past (take p (set xs i m))) q.0 (past_written p xs i m q.1 x)

-- ---- one of them has come so far

placed_written : (places : List ℕ) (k : ℕ) (mines : List Mine) (j : ℕ) (m d : Mine) → are_placed places k mines ≡ true
    → j < length mines → (get_or mines j d).number ≡ m.number → are_placed places k (set mines j m) ≡ true
placed_written places k [] j m d h l is = refl
placed_written places k (n ∷ mines) zero m d h l is =
    (λ i. (nat_lt (sym is i) (length places) && get_or places (sym is i) 0 == k) && are_placed places (k + 1) mines) ∙ h
placed_written places k (n ∷ mines) (suc j) m d h l is =
    let q = and_parts (nat_lt n.number (length places) && get_or places n.number 0 == k)
    (are_placed places (k + 1) mines) h in
    and_from (nat_lt n.number (length places) && get_or places n.number 0 == k) (are_placed places (k + 1)
    (set mines j m)) q.0 (placed_written places (k + 1) mines j m d q.1 (omega (arith, l)) is)

-- From the first place on that may not be past any more.
pub written_past : (mines : List Mine) (past place : ℕ) (m : Mine) → all_past (take past mines) ≡ true
    → is_past m ≡ true → all_past (take past (set mines place m)) ≡ true
written_past mines past place m h x = past_written past mines place m h x

pub written_before : (mines : List Mine) (past first place : ℕ) (m : Mine) → all_past (take past mines) ≡ true
    → first ≤ past → first ≤ place → all_past (take first (set mines place m)) ≡ true
written_before mines past first place m h l b =
    (λ i. all_past (take-set-le first mines place m b i)) ∙ shorter_past first past mines l h

pub kept_written : (mines : List Mine) (places : List ℕ) (past reached : ℕ) (place : ℕ) (m : Mine) (now end : ℕ)
    → AreKept mines places past reached → IsPlaceOf mines place m.number
    → all_past (take now (set mines place m)) ≡ true → now ≤ end → reached ≤ end → place < end → end ≤ length mines
    → AreKept (set mines place m) places now end
kept_written mines places past reached place m now end k at h ordered more above within = record {
  placed = placed_written places 0 mines place m m k.placed at.within (at.number_is m);
  past_before = h;
  fresh_after =
      (λ i. all_fresh (drop-set-lt end mines place m above i)) ∙ later_fresh reached end mines more k.fresh_after;
  ordered = ordered;
  within = omega (arith, within, length-set mines place m);
}

-- ---- an abort or a reset

placed_after : (e : Event) (places : List ℕ) (k : ℕ) (mines : List Mine) → are_placed places k mines ≡ true
    → are_placed places k (map (λ (m : Mine). mine_after_event e m) mines) ≡ true
placed_after e places k [] h = refl
placed_after e places k (m ∷ mines) h =
    let q = and_parts (nat_lt m.number (length places) && get_or places m.number 0 == k)
    (are_placed places (k + 1) mines) h in
    (λ i. (nat_lt (event_number e m i) (length places) && get_or places (event_number e m i) 0 == k)
    && are_placed places (k + 1) (map (λ (x : Mine). mine_after_event e x) mines))
    ∙ and_from (nat_lt m.number (length places) && get_or places m.number 0 == k)
    (are_placed places (k + 1) (map (λ (x : Mine). mine_after_event e x) mines)) q.0
    (placed_after e places (k + 1) mines q.1)

pub middle_is_all : (e : Event) (mines : List Mine) (places : List ℕ) (past reached : ℕ)
    → concerns_many e ≡ true → AreKept mines places past reached → take past mines
    ++ (map (λ (m : Mine). mine_after_event e m) (slice_range mines past reached) ++ drop reached mines)
    ≡ map (λ (m : Mine). mine_after_event e m) mines
middle_is_all e mines places past reached x k = (λ i. sym (all_past_stay e (take past mines) x k.past_before) i
    ++ (map (λ (m : Mine). mine_after_event e m) (between past reached mines)
    ++ sym (all_fresh_stay e (drop reached mines) x k.fresh_after) i))
    ∙ (λ i. map (λ (m : Mine). mine_after_event e m) (take past mines)
    ++ sym (map-append (λ (m : Mine). mine_after_event e m) (between past reached mines) (drop reached mines)) i)
    ∙ sym (map-append (λ (m : Mine). mine_after_event e m)
    (take past mines) (between past reached mines ++ drop reached mines))
    ∙ (λ i. map (λ (m : Mine). mine_after_event e m) (sym (split_between mines past reached k.ordered) i))

pub past_after : (e : Event) (mines : List Mine) (past : ℕ) → concerns_many e ≡ true → all_past (take past mines) ≡ true
    → all_past (take past (map (λ (m : Mine). mine_after_event e m) mines)) ≡ true
past_after e mines past x h = (λ i. all_past
    ((take-map (λ (m : Mine). mine_after_event e m) past mines ∙ all_past_stay e (take past mines) x h) i))
    ∙ h

pub kept_after : (e : Event) (mines : List Mine) (places : List ℕ) (past reached now : ℕ) → concerns_many e ≡ true
    → AreKept mines places past reached → all_past (take now (map (λ (m : Mine). mine_after_event e m) mines)) ≡ true
    → now ≤ reached → AreKept (map (λ (m : Mine). mine_after_event e m) mines) places now reached
kept_after e mines places past reached now x k h ordered = record {
  placed = placed_after e places 0 mines k.placed;
  past_before = h;
  fresh_after = (λ i. all_fresh ((drop-map (λ (m : Mine). mine_after_event e m) reached mines
      ∙ all_fresh_stay e (drop reached mines) x k.fresh_after) i))
      ∙ k.fresh_after;
  ordered = ordered;
  within = omega (arith, k.within, length-map mines (λ (m : Mine). mine_after_event e m));
}

-- ---- before any row

abbrev mines_from : ℕ → ℕ → List CmdDef → List Mine
mines_from dev k commands = map (mine_of []) (own_commands nothing_sent dev k commands)

new_fresh : (dev k : ℕ) (commands : List CmdDef) → all_fresh (mines_from dev k commands) ≡ true
new_fresh dev k [] = refl
new_fresh dev k (c ∷ commands) = go (new_fresh dev (k + 1) commands) (c.host == dev)
  where
    go : all_fresh (mines_from dev (k + 1) commands) ≡ true → (q : Bool) → all_fresh
        (map (mine_of []) (if q then own_command nothing_sent k c ∷ own_commands nothing_sent dev (k + 1) commands
        else own_commands nothing_sent dev (k + 1) commands)) ≡ true
    go r true = r
    go r false = r

lower : (limit a b : ℕ) (mines : List Mine) → a ≤ b → are_rising limit b mines ≡ true → are_rising limit a mines ≡ true
lower limit a b [] l h = refl
lower limit a b (m ∷ mines) l h =
    let p = and_parts (nat_le b m.number && nat_lt m.number limit) (are_rising limit (m.number + 1) mines) h in
    let q = and_parts (nat_le b m.number) (nat_lt m.number limit) p.0 in
    and_from (nat_le a m.number && nat_lt m.number limit) (are_rising limit (m.number + 1) mines)
    (and_from (nat_le a m.number) (nat_lt m.number limit) (below (m.number) q.0) q.1) p.1
  where
    below : (n : ℕ) → nat_le b n ≡ true → nat_le a n ≡ true
    below n e = grind (arith, nat_tests)

new_rising : (limit dev k : ℕ) (commands : List CmdDef) → length commands + k ≤ limit
    → are_rising limit k (mines_from dev k commands) ≡ true
new_rising limit dev k [] l = refl
new_rising limit dev k (c ∷ commands) l = go (new_rising limit dev (k + 1) commands (omega (arith, l))) (c.host == dev)
  where
    first : nat_le k k ≡ true
    first = grind (arith, nat_tests)

    within : k < limit
    within = omega (arith, l)

    go : are_rising limit (k + 1) (mines_from dev (k + 1) commands) ≡ true → (q : Bool) → are_rising limit k
        (map (mine_of []) (if q then own_command nothing_sent k c ∷ own_commands nothing_sent dev (k + 1) commands
        else own_commands nothing_sent dev (k + 1) commands)) ≡ true
    go r true = and_from (nat_le k k && nat_lt k limit) (are_rising limit (k + 1) (mines_from dev (k + 1) commands))
        (and_from (nat_le k k) (nat_lt k limit) first (lt-ltb k limit within)) r
    go r false = lower limit k (k + 1) (mines_from dev (k + 1) commands) (omega arith) r

new_length : (dev k : ℕ) (commands : List CmdDef) → length (mines_from dev k commands) ≤ length commands
new_length dev k [] = omega arith
new_length dev k (c ∷ commands) = go (new_length dev (k + 1) commands) (c.host == dev)
  where
    go : length (mines_from dev (k + 1) commands) ≤ length commands → (q : Bool) → length
        (map (mine_of []) (if q then own_command nothing_sent k c ∷ own_commands nothing_sent dev (k + 1) commands
        else own_commands nothing_sent dev (k + 1) commands)) ≤ suc (length commands)
    go r true = omega (arith, r)
    go r false = omega (arith, r)

pub own_rising : (dev : ℕ) (commands : List CmdDef)
    → are_rising (length commands + 1) 0 (mines_of nothing_sent dev commands) ≡ true
own_rising dev commands = lower (length commands + 1) 0 1 (mines_of nothing_sent dev commands) (omega arith)
    (new_rising (length commands + 1) dev 1 commands (omega arith))

pub own_length : (dev : ℕ) (commands : List CmdDef) → length (mines_of nothing_sent dev commands) ≤ length commands
own_length dev commands = new_length dev 1 commands

pub kept_new : (dev : ℕ) (commands : List CmdDef) (places : List ℕ)
    → are_placed places 0 (mines_of nothing_sent dev commands) ≡ true
    → AreKept (mines_of nothing_sent dev commands) places 0 0
kept_new dev commands places h = record {
  placed = h;
  past_before = refl;
  fresh_after = new_fresh dev 1 commands;
  ordered = omega arith;
  within = omega arith;
}

-- ---- the places of commands whose numbers rise

rising_at : (limit least : ℕ) (mines : List Mine) (i : ℕ) (d : Mine) → are_rising limit least mines ≡ true
    → i < length mines → (least ≤ (get_or mines i d).number) × ((get_or mines i d).number < limit)
rising_at limit least [] i d h l = absurd (omega (arith, l))
rising_at limit least (m ∷ mines) zero d h l =
    let p = and_parts (nat_le least m.number && nat_lt m.number limit) (are_rising limit (m.number + 1) mines) h in
    let q = and_parts (nat_le least m.number) (nat_lt m.number limit) p.0 in
    (least_is m.number q.0, ltb-true m.number limit q.1)
  where
    least_is : (n : ℕ) → nat_le least n ≡ true → least ≤ n
    least_is n e = grind (arith, nat_tests)
rising_at limit least (m ∷ mines) (suc i) d h l =
    let p = and_parts (nat_le least m.number && nat_lt m.number limit) (are_rising limit (m.number + 1) mines) h in
    let q = and_parts (nat_le least m.number) (nat_lt m.number limit) p.0 in
    let r = rising_at limit (m.number + 1) mines i d p.1 (omega (arith, l)) in
    (omega (arith, r.0, least_is m.number q.0), r.1)
  where
    least_is : (n : ℕ) → nat_le least n ≡ true → least ≤ n
    least_is n e = grind (arith, nat_tests)

pub number_in_range : (limit room : ℕ) (mines : List Mine) (i : ℕ) (d : Mine) → are_rising limit 0 mines ≡ true
    → i < length mines → room ≡ limit → (get_or mines i d).number < room
number_in_range limit room mines i d h l same = omega (arith, (rising_at limit 0 mines i d h l).1, same)

-- One place more.
placed_next : (limit least : ℕ) (places : List ℕ) (k : ℕ) (mines : List Mine) (i : ℕ) (d : Mine)
    → are_rising limit least mines ≡ true → i < length mines
    → length places ≡ limit → are_placed places k (take i mines) ≡ true
    → are_placed (set places (get_or mines i d).number (i + k)) k (take (suc i) mines) ≡ true
placed_next limit least places k [] i d h l long p = absurd (omega (arith, l))
placed_next limit least places k (m ∷ mines) zero d h l long p =
    let r = rising_at limit least (m ∷ mines) zero d h l in
    and_from
    (nat_lt m.number (length (set places m.number (0 + k))) && get_or (set places m.number (0 + k)) m.number 0 == k)
    true (and_from (nat_lt m.number (length (set places m.number (0 + k))))
    (get_or (set places m.number (0 + k)) m.number 0 == k) (lt-ltb m.number
    (length (set places m.number (0 + k))) (omega (arith, r.1, long, length-set places m.number (0 + k))))
    (eq-eqb (get_or (set places m.number (0 + k)) m.number 0) k
    (get_or-set_same places m.number (0 + k) 0 (omega (arith, r.1, long)) ∙ omega arith))) refl
placed_next limit least places k (m ∷ mines) (suc i) d h l long p =
    let rest =
    (and_parts (nat_le least m.number && nat_lt m.number limit) (are_rising limit (m.number + 1) mines) h).1 in
    let r = rising_at limit (m.number + 1) mines i d rest (omega (arith, l)) in
    let n : ℕ = (get_or mines i d).number in
    let w = and_parts (nat_lt m.number (length places) && get_or places m.number 0 == k)
    (are_placed places (k + 1) (take i mines)) p in
    let q = and_parts (nat_lt m.number (length places)) (get_or places m.number 0 == k) w.0 in
    let other : m.number ≡ n → ⊥ = λ e. omega (arith, e, r.0) in
    let same : suc i + k ≡ i + (k + 1) = omega arith in
    and_from (nat_lt m.number (length (set places n (suc i + k))) && get_or (set places n (suc i + k)) m.number 0 == k)
    (are_placed (set places n (suc i + k)) (k + 1) (take (suc i) mines))
    (and_from (nat_lt m.number (length (set places n (suc i + k)))) (get_or (set places n (suc i + k)) m.number 0 == k)
    ((λ j. nat_lt m.number (length-set places n (suc i + k) j)) ∙ q.0)
    ((λ j. get_or-set_other places n m.number (suc i + k) 0 other j == k) ∙ q.1))
    ((λ j. are_placed (set places n (same j)) (k + 1) (take (suc i) mines))
    ∙ placed_next limit (m.number + 1) places (k + 1) mines i d rest (omega (arith, l)) long w.1)

pub placed_more : (limit : ℕ) (places : List ℕ) (mines : List Mine) (i : ℕ) (d : Mine) → are_rising limit 0 mines ≡ true
    → i < length mines → length places ≡ limit → are_placed places 0 (take i mines) ≡ true
    → are_placed (set places (get_or mines i d).number i) 0 (take (i + 1) mines) ≡ true
placed_more limit places mines i d h l long p =
    let e : i ≡ i + 0 = omega arith in
    (λ j. are_placed (set places (get_or mines i d).number (e j)) 0 (take (plus_one i j) mines))
    ∙ placed_next limit 0 places 0 mines i d h l long p

-- ---- those that may be open, and those that are left

abbrev window : List Mine → ℕ → ℕ → List Mine
window mines past reached = take (reached - past) (drop past mines)

pub open_window : (mines : List Mine) (places : List ℕ) (past reached : ℕ) → AreKept mines places past reached
    → open_mines (window mines past reached) ≡ open_mines mines
open_window mines places past reached k =
    sym (open_before_fresh (window mines past reached) (drop reached mines) k.fresh_after)
    ∙ sym (open_after_past (take past mines) (window mines past reached ++ drop reached mines) k.past_before)
    ∙ (λ i. open_mines (sym (split_between mines past reached k.ordered) i))

pub named_window : (mines : List Mine) (places : List ℕ) (past reached target unit : ℕ) (tag : Option ℕ)
    → AreKept mines places past reached
    → named_in (window mines past reached) target unit tag ≡ named_in mines target unit tag
named_window mines places past reached target unit tag k =
    sym (named_before_fresh (window mines past reached) (drop reached mines) target unit tag k.fresh_after) ∙ sym
    (named_after_past (take past mines) (window mines past reached ++ drop reached mines) target unit tag k.past_before)
    ∙ (λ i. named_in (sym (split_between mines past reached k.ordered) i) target unit tag)

pub since_rest : (mines : List Mine) (past most : ℕ) (now : List Mine) → all_past (take past mines) ≡ true
    → mines_since most now (drop past mines) ≡ mines_since most now mines
since_rest mines past most now h = sym (since_after_past most now (take past mines) (drop past mines) h)
    ∙ (λ i. mines_since most now (take-append-drop past mines i))

pub first_rest : (mines : List Mine) (past most time : ℕ) (now : List Mine) → all_past (take past mines) ≡ true
    → mine_by most time now (drop past mines) ≡ mine_by most time now mines
first_rest mines past most time now h = sym (first_after_past most time now (take past mines) (drop past mines) h)
    ∙ (λ i. mine_by most time now (take-append-drop past mines i))
