-- An initiator's own commands as they are kept: where each stands, and that those before and after the open ones add
-- nothing.
use Rattle.std.proofs.Common.{ℕ, suc, zero, ◌≡◌, ◌+◌, ◌<◌, ◌≤◌, Bool, true, false, List, [], ◌∷◌, ◌++◌, ◌∙◌, refl, sym}
use Rattle.std.proofs.Common.{subst, arith, length, get_or, set, Option, Some, None}
use Rattle.std.specs.Prelude.{if◌then◌else◌, not, ◌&&◌, ◌||◌, ◌==◌, map, nat_lt}
use Rattle.std.proofs.lemmas.Bool.{and_parts, ltb-true, eqb-true, eqb-false, eq-eqb, ne_eqb}
use Rattle.bus_base.specs.declared.Event.{Event}
use Rattle.bus_base.specs.declared.Event.TheVariants as events
use Rattle.bus_base.specs.declared.ProcId.{ProcId}
use Rattle.due_model.specs.reaction_model.specs.Reactions.{time_if}
use Rattle.initiator_books.specs.declared.mine.Mine.{Mine}
use Rattle.initiator_books.specs.declared.mine.OwnItem.TheVariants as own
use Rattle.initiator_books.specs.Books.{has_number, is_sense_due}
use Rattle.initiator_books.specs.Commands.{is_past, is_fresh, all_past, all_fresh, are_placed, concerns_many}
use Rattle.initiator_books.specs.Commands.{CommandsValue, IsPlaceOf, AreKept}
use Rattle.initiator_books.specs.Mines.{is_open_mine, open_mines, is_done_mine, may_follow_mines, mines_since, mine_by}
use Rattle.initiator_books.specs.Mines.{with_sent, with_over, with_status, with_one_try, is_check, sent_at, over_at}
use Rattle.initiator_books.specs.Mines.{tried_at, mine_with_end, is_mine_aborted, is_my_sense_stopped, mine_after_event}
use Rattle.initiator_books.specs.Mines.{is_at_unit_of}
use Rattle.initiator_books.specs.Openings.{mine_at}
use Rattle.initiator_books.specs.OwnLinks.{is_open_sense_of, named_in}
use Rattle.initiator_books.specs.Wishes.{tries_in, target_in}
use Rattle.bus_base.proofs.Tests.{and_false, none_between}
use Rattle.array_model.specs.Order.{same_number, tag_number}

-- ---- where each stands

-- Of the first and of the others.
first_number : (places : List ℕ) (k : ℕ) (m : Mine) (mines : List Mine) → are_placed places k (m ∷ mines) ≡ true
    → (m.number < length places) × (get_or places m.number 0 ≡ k)
first_number places k m mines h =
    let p = and_parts (nat_lt m.number (length places) && get_or places m.number 0 == k)
    (are_placed places (k + 1) mines) h in
    let q = and_parts (nat_lt m.number (length places)) (get_or places m.number 0 == k) p.0 in
    (ltb-true m.number (length places) q.0, eqb-true (get_or places m.number 0) k q.1)

others : (places : List ℕ) (k : ℕ) (m : Mine) (mines : List Mine) → are_placed places k (m ∷ mines) ≡ true
    → are_placed places (k + 1) mines ≡ true
others places k m mines h =
    (and_parts (nat_lt m.number (length places) && get_or places m.number 0 == k) (are_placed places (k + 1) mines) h).1

pub place_at : (places : List ℕ) (k : ℕ) (mines : List Mine) (j : ℕ) (d : Mine) → are_placed places k mines ≡ true
    → j < length mines → get_or places (get_or mines j d).number 0 ≡ j + k
place_at places k [] j d h l = absurd (omega (arith, l))
place_at places k (m ∷ mines) zero d h l = omega (arith, (first_number places k m mines h).1)
place_at places k (m ∷ mines) (suc j) d h l =
    omega (arith, place_at places (k + 1) mines j d (others places k m mines h) (omega (arith, l)))

pub number_below : (places : List ℕ) (k : ℕ) (mines : List Mine) (j : ℕ) (d : Mine) → are_placed places k mines ≡ true
    → j < length mines → (get_or mines j d).number < length places
number_below places k [] j d h l = absurd (omega (arith, l))
number_below places k (m ∷ mines) zero d h l = (first_number places k m mines h).0
number_below places k (m ∷ mines) (suc j) d h l =
    number_below places (k + 1) mines j d (others places k m mines h) (omega (arith, l))

-- No command has a number past the places, nor one whose place is none of its own.
pub none_past : (places : List ℕ) (k : ℕ) (mines : List Mine) (n : ℕ) → are_placed places k mines ≡ true
    → length places ≤ n → has_number mines n ≡ false
none_past places k [] n h l = refl
none_past places k (m ∷ mines) n h l =
    let first = first_number places k m mines h in
    (λ i. ne_eqb m.number n (λ e. omega (arith, e, first.0, l)) i || has_number mines n)
    ∙ none_past places (k + 1) mines n (others places k m mines h) l

pub none_placed : (places : List ℕ) (k : ℕ) (mines : List Mine) (n : ℕ) (d : Mine) → are_placed places k mines ≡ true
    → ((j : ℕ) → get_or places n 0 ≡ j + k → j < length mines → (get_or mines j d).number ≡ n → ⊥)
    → has_number mines n ≡ false
none_placed places k [] n d h away = refl
none_placed places k (m ∷ mines) n d h away = (λ i. ne_eqb m.number n other i || has_number mines n)
    ∙ none_placed places (k + 1) mines n d (others places k m mines h)
    (λ j e l is. away (suc j) (omega (arith, e)) (omega (arith, l)) is)
  where
    other : m.number ≡ n → ⊥
    other is =
        let at : get_or places n 0 ≡ k = (λ i. get_or places (sym is i) 0) ∙ (first_number places k m mines h).1 in
        away zero (omega (arith, at)) (omega arith) is

pub not_within : (places : List ℕ) (mines : List Mine) (n : ℕ) → are_placed places 0 mines ≡ true
    → length mines ≤ get_or places n 0 → has_number mines n ≡ false
not_within places [] n h past = refl
not_within places (m ∷ mines) n h past = none_placed places 0 (m ∷ mines) n m h (λ j e l is. omega (arith, e, l, past))

pub not_there : (places : List ℕ) (mines : List Mine) (n : ℕ) (d : Mine) → are_placed places 0 mines ≡ true
    → ((get_or mines (get_or places n 0) d).number ≡ n → ⊥) → has_number mines n ≡ false
not_there places mines n d h other =
    none_placed places 0 mines n d h (λ j e l is. let same : get_or places n 0 ≡ j = omega (arith, e) in
    other ((λ i. (get_or mines (same i) d).number) ∙ is))

-- What changes the command of a number alone.
pub no_change : (f : Mine → Mine) (n : ℕ) → ((m : Mine) → (n == m.number) ≡ false → f m ≡ m) → (mines : List Mine)
    → has_number mines n ≡ false → map f mines ≡ mines
no_change f n alone [] h = refl
no_change f n alone (m ∷ mines) h = go (m.number == n) refl h (λ x. no_change f n alone mines x)
  where
    go : (q : Bool) → (m.number == n) ≡ q → (q || has_number mines n) ≡ false
        → (has_number mines n ≡ false → map f mines ≡ mines) → f m ∷ map f mines ≡ m ∷ mines
    go true e r rest = cc
    go false e r rest = λ i. alone m (ne_eqb n m.number (λ z. eqb-false m.number n e (sym z))) i ∷ rest r i

pub one_change : (f : Mine → Mine) (n : ℕ) → ((m : Mine) → (n == m.number) ≡ false → f m ≡ m)
    → (places : List ℕ) (k : ℕ) (mines : List Mine) (j : ℕ) (d : Mine) → are_placed places k mines ≡ true
    → j < length mines → (get_or mines j d).number ≡ n → map f mines ≡ set mines j (f (get_or mines j d))
one_change f n alone places k [] j d h l is = absurd (omega (arith, l))
one_change f n alone places k (m ∷ mines) zero d h l is = λ i. f m ∷ no_change f n alone mines later i
  where
    at : get_or places n 0 ≡ k
    at = (λ i. get_or places (sym is i) 0) ∙ (first_number places k m mines h).1

    later : has_number mines n ≡ false
    later = none_placed places (k + 1) mines n d (others places k m mines h) (λ j e l it. omega (arith, e, at))
one_change f n alone places k (m ∷ mines) (suc j) d h l is = λ i. alone m (ne_eqb n m.number earlier) i
    ∷ one_change f n alone places (k + 1) mines j d (others places k m mines h) (omega (arith, l)) is i
  where
    at : get_or places n 0 ≡ j + (k + 1)
    at = (λ i. get_or places (sym is i) 0)
        ∙ place_at places (k + 1) mines j d (others places k m mines h) (omega (arith, l))

    earlier : n ≡ m.number → ⊥
    earlier e =
        let it : get_or places n 0 ≡ k = (λ i. get_or places (e i) 0) ∙ (first_number places k m mines h).1 in
        omega (arith, at, it)

pub changed : (f : Mine → Mine) (n : ℕ) → ((m : Mine) → (n == m.number) ≡ false → f m ≡ m)
    → (mines : List Mine) (places : List ℕ) (past reached j : ℕ) (d m : Mine) → AreKept mines places past reached
    → IsPlaceOf mines j n → m ≡ f (get_or mines j d) → set mines j m ≡ map f mines
changed f n alone mines places past reached j d m k at is =
    (λ i. set mines j (is i)) ∙ sym (one_change f n alone places 0 mines j d k.placed at.within (at.number_is d))

pub written : (f : Mine → Mine) (n : ℕ) → ((m : Mine) → (n == m.number) ≡ false → f m ≡ m)
    → (v : CommandsValue) (mines now : List Mine) (places : List ℕ) (past reached j : ℕ) (d m : Mine) → mines ≡ v.mines
    → now ≡ mines → AreKept mines places past reached → IsPlaceOf now j n → d ≡ get_or mines j d → m ≡ f d
    → record v { mines = set v.mines j m } ≡ record v { mines = map f v.mines }
written f n alone v mines now places past reached j d m same whole k at read is =
    λ i. record v {
      mines = ((λ z. set (sym same z) j m) ∙ changed f n alone mines places past reached j d m k
          (subst (λ (z : List Mine). IsPlaceOf z j n) whole at) (is ∙ (λ z. f (read z))) ∙ (λ z. map f (same z))) i;
    }

pub unwritten : (f : Mine → Mine) (n : ℕ) → ((m : Mine) → (n == m.number) ≡ false → f m ≡ m)
    → (v : CommandsValue) (now : List Mine) → now ≡ v.mines → has_number now n ≡ false
    → v ≡ record v { mines = map f v.mines }
unwritten f n alone v now whole none =
    λ i. record v { mines = sym (no_change f n alone v.mines ((λ z. has_number (sym whole z) n) ∙ none)) i }

all_same : (f : Mine → Mine) → ((m : Mine) → f m ≡ m) → (mines : List Mine) → mines ≡ map f mines
all_same f h [] = refl
all_same f h (m ∷ mines) = λ i. sym (h m) i ∷ all_same f h mines i

-- An event that is this one, and changes no command.
pub unchanged : (v : CommandsValue) (e g : Event) → e ≡ g → ((m : Mine) → mine_after_event g m ≡ m)
    → v ≡ record v { mines = map (λ (m : Mine). mine_after_event e m) v.mines }
unchanged v e g is h = λ i. record v {
  mines = (all_same (λ (m : Mine). mine_after_event g m) h v.mines
      ∙ (λ j. map (λ (m : Mine). mine_after_event (sym is j) m) v.mines)) i;
}

pub sent_alone : (id : ProcId) (m : Mine) → (id.command == m.number) ≡ false → sent_at id m ≡ m
sent_alone id m e = λ i. if e i then with_sent id.sense m else m

pub over_alone : (id : ProcId) (m : Mine) → (id.command == m.number) ≡ false → over_at id m ≡ m
over_alone id m e = λ i. if e i then with_over id.sense m else m

pub tried_alone : (n : ℕ) (m : Mine) → (n == m.number) ≡ false → tried_at n m ≡ m
tried_alone n m e = λ i. if e i then with_one_try m else m

pub end_alone : (id : ProcId) (status : ℕ) (m : Mine) → (id.command == m.number) ≡ false
    → mine_after_event (events.End id status) m ≡ m
end_alone id status m e = λ i. if e i then with_status (is_check id status) (with_over id.sense m) else m

-- ---- the one of a number

pub mine_none : (mines : List Mine) (n : ℕ) → has_number mines n ≡ false → mine_at mines n ≡ None
mine_none [] n h = refl
mine_none (m ∷ mines) n h = go (m.number == n) h (λ x. mine_none mines n x)
  where
    go : (q : Bool) → (q || has_number mines n) ≡ false → (has_number mines n ≡ false → mine_at mines n ≡ None)
        → (if q then Some m else mine_at mines n) ≡ None
    go true r rest = cc
    go false r rest = rest r

pub mine_there : (places : List ℕ) (k : ℕ) (mines : List Mine) (j n : ℕ) (d : Mine) → are_placed places k mines ≡ true
    → j < length mines → (get_or mines j d).number ≡ n → mine_at mines n ≡ Some (get_or mines j d)
mine_there places k [] j n d h l is = absurd (omega (arith, l))
mine_there places k (m ∷ mines) zero n d h l is = λ i. if eq-eqb m.number n is i then Some m else mine_at mines n
mine_there places k (m ∷ mines) (suc j) n d h l is =
    (λ i. if ne_eqb m.number n earlier i then Some m else mine_at mines n)
    ∙ mine_there places (k + 1) mines j n d (others places k m mines h) (omega (arith, l)) is
  where
    at : get_or places n 0 ≡ j + (k + 1)
    at = (λ i. get_or places (sym is i) 0)
        ∙ place_at places (k + 1) mines j d (others places k m mines h) (omega (arith, l))

    earlier : m.number ≡ n → ⊥
    earlier e =
        let it : get_or places n 0 ≡ k = (λ i. get_or places (sym e i) 0) ∙ (first_number places k m mines h).1 in
        omega (arith, at, it)

abbrev pub is_there : Option Mine → Bool
is_there None = false
is_there (Some m) = true

abbrev pub due_if : Option Mine → Bool
due_if None = false
due_if (Some m) = not (m.sense_sent || m.sense_over)

abbrev pub tries_if : Option Mine → ℕ
tries_if None = 0
tries_if (Some m) = m.tries

abbrev pub target_if : Option Mine → Option ℕ
target_if None = None
target_if (Some m) = Some m.target

pub due_told : (mines : List Mine) (n : ℕ) → is_sense_due mines n ≡ due_if (mine_at mines n)
due_told [] n = refl
due_told (m ∷ mines) n = go (due_told mines n) (m.number == n)
  where
    go : is_sense_due mines n ≡ due_if (mine_at mines n) → (q : Bool)
        → (if q then not (m.sense_sent || m.sense_over) else is_sense_due mines n)
        ≡ due_if (if q then Some m else mine_at mines n)
    go r true = refl
    go r false = r

pub tries_told : (mines : List Mine) (n : ℕ) → tries_in mines n ≡ tries_if (mine_at mines n)
tries_told [] n = refl
tries_told (m ∷ mines) n = go (tries_told mines n) (m.number == n)
  where
    go : tries_in mines n ≡ tries_if (mine_at mines n)
        → (q : Bool) → (if q then m.tries else tries_in mines n) ≡ tries_if (if q then Some m else mine_at mines n)
    go r true = refl
    go r false = r

pub target_told : (mines : List Mine) (n : ℕ) → target_in mines n ≡ target_if (mine_at mines n)
target_told [] n = refl
target_told (m ∷ mines) n = go (target_told mines n) (m.number == n)
  where
    go : target_in mines n ≡ target_if (mine_at mines n) → (q : Bool)
        → (if q then Some m.target else target_in mines n) ≡ target_if (if q then Some m else mine_at mines n)
    go r true = refl
    go r false = r

pub number_told : (mines : List Mine) (n : ℕ) → has_number mines n ≡ is_there (mine_at mines n)
number_told [] n = refl
number_told (m ∷ mines) n = go (number_told mines n) (m.number == n)
  where
    go : has_number mines n ≡ is_there (mine_at mines n)
        → (q : Bool) → (q || has_number mines n) ≡ is_there (if q then Some m else mine_at mines n)
    go r true = refl
    go r false = r

-- ---- what is past, and what is fresh

over_of : (m : Mine) → is_past m ≡ true → m.over ≡ true
over_of m h = (and_parts m.over (m.sense_over || not (m.checked || m.sense_sent)) h).0

sense_of : (m : Mine) → is_past m ≡ true → (m.sense_over || not (m.checked || m.sense_sent)) ≡ true
sense_of m h = (and_parts m.over (m.sense_over || not (m.checked || m.sense_sent)) h).1

past_open : (m : Mine) → is_past m ≡ true → is_open_mine m ≡ false
past_open m h = (λ i. m.sent && not (over_of m h i)) ∙ and_false m.sent

past_sense : (m : Mine) → is_past m ≡ true → is_open_sense_of m ≡ false
past_sense m h = go m.sense_sent m.sense_over m.checked (sense_of m h)
  where
    go : (t v c : Bool) → (v || not (c || t)) ≡ true → (t && not v) ≡ false
    go true true c r = refl
    go true false true r = cc
    go true false false r = cc
    go false v c r = refl

past_done : (m : Mine) → is_past m ≡ true → is_done_mine m ≡ true
past_done m h = (λ i. m.sent || over_of m h i) ∙ or_true m.sent
  where
    or_true : (s : Bool) → (s || true) ≡ true
    or_true true = refl
    or_true false = refl

pub fresh_parts : (m : Mine) → is_fresh m ≡ true → (m.sent ≡ false) × (m.checked ≡ false) × (m.sense_sent ≡ false)
fresh_parts m h = go m.sent m.checked m.sense_sent h
  where
    go : (s c t : Bool) → not (s || (c || t)) ≡ true → (s ≡ false) × (c ≡ false) × (t ≡ false)
    go true c t r = cc
    go false true t r = cc
    go false false true r = cc
    go false false false r = (refl, refl, refl)

fresh_open : (m : Mine) → is_fresh m ≡ true → is_open_mine m ≡ false
fresh_open m h = λ i. (fresh_parts m h).0 i && not m.over

fresh_sense : (m : Mine) → is_fresh m ≡ true → is_open_sense_of m ≡ false
fresh_sense m h = λ i. (fresh_parts m h).2 i && not m.sense_over

head_past : (m : Mine) (mines : List Mine) → all_past (m ∷ mines) ≡ true → is_past m ≡ true
head_past m mines h = (and_parts (is_past m) (all_past mines) h).0

tail_past : (m : Mine) (mines : List Mine) → all_past (m ∷ mines) ≡ true → all_past mines ≡ true
tail_past m mines h = (and_parts (is_past m) (all_past mines) h).1

head_fresh : (m : Mine) (mines : List Mine) → all_fresh (m ∷ mines) ≡ true → is_fresh m ≡ true
head_fresh m mines h = (and_parts (is_fresh m) (all_fresh mines) h).0

tail_fresh : (m : Mine) (mines : List Mine) → all_fresh (m ∷ mines) ≡ true → all_fresh mines ≡ true
tail_fresh m mines h = (and_parts (is_fresh m) (all_fresh mines) h).1

-- ---- the open ones

pub open_after_past : (xs ys : List Mine) → all_past xs ≡ true → open_mines (xs ++ ys) ≡ open_mines ys
open_after_past [] ys h = refl
open_after_past (m ∷ xs) ys h =
    (λ i. if past_open m (head_past m xs h) i then m ∷ open_mines (xs ++ ys) else open_mines (xs ++ ys))
    ∙ open_after_past xs ys (tail_past m xs h)

fresh_none : (ys : List Mine) → all_fresh ys ≡ true → open_mines ys ≡ []
fresh_none [] h = refl
fresh_none (m ∷ ys) h = (λ i. if fresh_open m (head_fresh m ys h) i then m ∷ open_mines ys else open_mines ys)
    ∙ fresh_none ys (tail_fresh m ys h)

pub open_before_fresh : (xs ys : List Mine) → all_fresh ys ≡ true → open_mines (xs ++ ys) ≡ open_mines xs
open_before_fresh [] ys h = fresh_none ys h
open_before_fresh (m ∷ xs) ys h = go (open_before_fresh xs ys h) (is_open_mine m)
  where
    go : open_mines (xs ++ ys) ≡ open_mines xs → (q : Bool)
        → (if q then m ∷ open_mines (xs ++ ys) else open_mines (xs ++ ys))
        ≡ (if q then m ∷ open_mines xs else open_mines xs)
    go r true = λ i. m ∷ r i
    go r false = r

name_skips : (m : Mine) (mines : List Mine) (target unit : ℕ) (tag : Option ℕ) → is_open_mine m ≡ false
    → is_open_sense_of m ≡ false → named_in (m ∷ mines) target unit tag ≡ named_in mines target unit tag
name_skips m mines target unit tag no_command no_sense =
    (λ i. if is_at_unit_of m target unit && no_command i && same_number (tag_number m.tag) tag
    then Some (own.Command m.number)
    else if is_at_unit_of m target unit && no_sense i && same_number None tag then Some (own.Sense m.number)
    else named_in mines target unit tag)
    ∙ (λ i. if none_between (is_at_unit_of m target unit) (same_number (tag_number m.tag) tag) i
    then Some (own.Command m.number)
    else if none_between (is_at_unit_of m target unit) (same_number None tag) i then Some (own.Sense m.number)
    else named_in mines target unit tag)

pub named_after_past : (xs ys : List Mine) (target unit : ℕ) (tag : Option ℕ) → all_past xs ≡ true
    → named_in (xs ++ ys) target unit tag ≡ named_in ys target unit tag
named_after_past [] ys target unit tag h = refl
named_after_past (m ∷ xs) ys target unit tag h =
    name_skips m (xs ++ ys) target unit tag (past_open m (head_past m xs h)) (past_sense m (head_past m xs h))
    ∙ named_after_past xs ys target unit tag (tail_past m xs h)

fresh_unnamed : (ys : List Mine) (target unit : ℕ) (tag : Option ℕ) → all_fresh ys ≡ true
    → named_in ys target unit tag ≡ None
fresh_unnamed [] target unit tag h = refl
fresh_unnamed (m ∷ ys) target unit tag h =
    name_skips m ys target unit tag (fresh_open m (head_fresh m ys h)) (fresh_sense m (head_fresh m ys h))
    ∙ fresh_unnamed ys target unit tag (tail_fresh m ys h)

pub named_before_fresh : (xs ys : List Mine) (target unit : ℕ) (tag : Option ℕ) → all_fresh ys ≡ true
    → named_in (xs ++ ys) target unit tag ≡ named_in xs target unit tag
named_before_fresh [] ys target unit tag h = fresh_unnamed ys target unit tag h
named_before_fresh (m ∷ xs) ys target unit tag h = go (named_before_fresh xs ys target unit tag h)
    (is_at_unit_of m target unit && is_open_mine m && same_number (tag_number m.tag) tag)
    (is_at_unit_of m target unit && is_open_sense_of m && same_number None tag)
  where
    go : named_in (xs ++ ys) target unit tag ≡ named_in xs target unit tag → (p q : Bool)
        → (if p then Some (own.Command m.number)
        else if q then Some (own.Sense m.number) else named_in (xs ++ ys) target unit tag)
        ≡ (if p then Some (own.Command m.number)
        else if q then Some (own.Sense m.number) else named_in xs target unit tag)
    go r true q = refl
    go r false true = refl
    go r false false = r

-- ---- the first that is still to be sent

pub since_after_past : (most : ℕ) (now xs ys : List Mine) → all_past xs ≡ true
    → mines_since most now (xs ++ ys) ≡ mines_since most now ys
since_after_past most now [] ys h = refl
since_after_past most now (m ∷ xs) ys h = (λ i. if past_done m (head_past m xs h) i then mines_since most now (xs ++ ys)
    else time_if (may_follow_mines most m.at now m) m.at) ∙ since_after_past most now xs ys (tail_past m xs h)

pub first_after_past : (most time : ℕ) (now xs ys : List Mine) → all_past xs ≡ true
    → mine_by most time now (xs ++ ys) ≡ mine_by most time now ys
first_after_past most time now [] ys h = refl
first_after_past most time now (m ∷ xs) ys h =
    (λ i. if past_done m (head_past m xs h) i then mine_by most time now (xs ++ ys)
    else if may_follow_mines most time now m then Some m.number else None)
    ∙ first_after_past most time now xs ys (tail_past m xs h)

-- ---- an abort or a reset

past_kept : (drops stops : Bool) (m : Mine) → is_past m ≡ true → mine_with_end drops stops m ≡ m
past_kept drops stops m h = go m.sent m.over m.checked m.sense_sent m.sense_over refl stops (over_of m h) (sense_of m h)
  where
    go : (s o c t v : Bool) → m.sense_over ≡ v → (x : Bool) → o ≡ true → (v || not (c || t)) ≡ true
        → (if s && not o && drops then record m { over = true }
        else if x && c then record m { sense_over = true } else m) ≡ m
    go s false c t v is x e r = cc
    go true true true t true is true e r = λ i. record m { sense_over = sym is i }
    go false true true t true is true e r = λ i. record m { sense_over = sym is i }
    go s true true t false is true e r = cc
    go true true false t v is true e r = refl
    go false true false t v is true e r = refl
    go true true c t v is false e r = refl
    go false true c t v is false e r = refl

fresh_kept : (drops stops : Bool) (m : Mine) → is_fresh m ≡ true → mine_with_end drops stops m ≡ m
fresh_kept drops stops m h = (λ i. if (fresh_parts m h).0 i && not m.over && drops then record m { over = true }
    else if stops && (fresh_parts m h).1 i then record m { sense_over = true } else m)
    ∙ (λ i. if and_false stops i then record m { sense_over = true } else m)

past_stays : (e : Event) (m : Mine) → concerns_many e ≡ true → is_past m ≡ true → mine_after_event e m ≡ m
past_stays (events.Aborted host target unit what) m x h =
    past_kept (is_mine_aborted host target unit what m) (is_my_sense_stopped host target unit what m) m h
past_stays (events.Reset dev) m x h = past_kept true true m h
past_stays (events.Accept id) m x h = refl
past_stays (events.Refuse id) m x h = refl
past_stays (events.Run id) m x h = refl
past_stays (events.Fail id code) m x h = refl
past_stays (events.End id status) m x h = cc
past_stays (events.Lost id) m x h = cc

fresh_stays : (e : Event) (m : Mine) → concerns_many e ≡ true → is_fresh m ≡ true → mine_after_event e m ≡ m
fresh_stays (events.Aborted host target unit what) m x h =
    fresh_kept (is_mine_aborted host target unit what m) (is_my_sense_stopped host target unit what m) m h
fresh_stays (events.Reset dev) m x h = fresh_kept true true m h
fresh_stays (events.Accept id) m x h = refl
fresh_stays (events.Refuse id) m x h = refl
fresh_stays (events.Run id) m x h = refl
fresh_stays (events.Fail id code) m x h = refl
fresh_stays (events.End id status) m x h = cc
fresh_stays (events.Lost id) m x h = cc

pub all_past_stay : (e : Event) (mines : List Mine) → concerns_many e ≡ true → all_past mines ≡ true
    → map (λ (m : Mine). mine_after_event e m) mines ≡ mines
all_past_stay e [] x h = refl
all_past_stay e (m ∷ mines) x h =
    λ i. past_stays e m x (head_past m mines h) i ∷ all_past_stay e mines x (tail_past m mines h) i

pub all_fresh_stay : (e : Event) (mines : List Mine) → concerns_many e ≡ true → all_fresh mines ≡ true
    → map (λ (m : Mine). mine_after_event e m) mines ≡ mines
all_fresh_stay e [] x h = refl
all_fresh_stay e (m ∷ mines) x h =
    λ i. fresh_stays e m x (head_fresh m mines h) i ∷ all_fresh_stay e mines x (tail_fresh m mines h) i
