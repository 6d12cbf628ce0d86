-- The queue of an initiator has its commands that ended with CHECK CONDITION, each once, in their order.
use Rattle.std.proofs.Common.{inl, inr, ℕ, suc, zero, ◌≡◌, ◌+◌, ◌<◌, ◌≤◌, Bool, true, false, List, [], ◌∷◌, ◌++◌, ◌∙◌}
use Rattle.std.proofs.Common.{refl, sym, ap, arith, Option, Some, None, length}
use Rattle.std.specs.Prelude.{if◌then◌else◌, not, ◌&&◌, ◌||◌, ◌==◌, nat_lt, is_some, map}
use Rattle.std.proofs.lemmas.Bool.{cases_eq, ne_eqb, eq-eqb}
use Rattle.std.proofs.lemmas.Bool.Decides.{nat_tests}
use Rattle.std.proofs.lemmas.List.Folds.{list_any-append}
use Rattle.std.specs.List.{list_any}
use Rattle.scenario.specs.declared.value.CmdDef.{CmdDef}
use Rattle.story_model.specs.Items.{Sent}
use Rattle.due_model.specs.Wants.{own_command, own_commands}
use Rattle.initiator_books.specs.declared.mine.Mine.{Mine}
use Rattle.initiator_books.specs.Mines.{mine_of, mines_of}
use Rattle.initiator_books.specs.Books.{is_sense_due, my_sense, has_number, queue_with, queue_from}
use Rattle.bus_base.proofs.Tests.{or_false, length_more}
use Rattle.due_model.specs.dialogue_model.specs.PhaseBytes.{one_if}

-- ---- which sense comes first

abbrev first_of : Option ℕ → Option ℕ → Option ℕ
first_of None b = b
first_of (Some n) b = Some n

first_none : (a : Option ℕ) → a ≡ first_of a None
first_none None = refl
first_none (Some n) = refl

first_first : (a b c : Option ℕ) → first_of (first_of a b) c ≡ first_of a (first_of b c)
first_first None b c = refl
first_first (Some n) b c = refl

one_sense : (q : Bool) (n : ℕ) (rest : Option ℕ)
    → first_of (if q then Some n else None) rest ≡ (if q then Some n else rest)
one_sense true n rest = refl
one_sense false n rest = refl

sense_with : (mines : List Mine) (queue : List ℕ) (n : ℕ)
    → my_sense mines (queue ++ n ∷ []) ≡ first_of (my_sense mines queue) (my_sense mines (n ∷ []))
sense_with mines [] n = refl
sense_with mines (k ∷ queue) n = go (sense_with mines queue n) (is_sense_due mines k)
  where
    go : my_sense mines (queue ++ n ∷ []) ≡ first_of (my_sense mines queue) (my_sense mines (n ∷ [])) → (q : Bool)
        → (if q then Some k else my_sense mines (queue ++ n ∷ []))
        ≡ first_of (if q then Some k else my_sense mines queue) (my_sense mines (n ∷ []))
    go r true = refl
    go r false = r

not_there : (mines : List Mine) (n : ℕ) → has_number mines n ≡ false → is_sense_due mines n ≡ false
not_there [] n h = refl
not_there (m ∷ mines) n h = go (m.number == n) h (λ x. not_there mines n x)
  where
    go : (q : Bool) → (q || has_number mines n) ≡ false → (has_number mines n ≡ false → is_sense_due mines n ≡ false)
        → (if q then not (m.sense_sent || m.sense_over) else is_sense_due mines n) ≡ false
    go true e r = cc
    go false e r = r e

due_in_queue : (mines : List Mine) (n : ℕ) (queue : List ℕ) → is_sense_due mines n ≡ true
    → list_any (λ k. k == n) queue ≡ true → is_some (my_sense mines queue) ≡ true
due_in_queue mines n [] d h = cc
due_in_queue mines n (k ∷ queue) d h =
    go (is_sense_due mines k) refl (k == n) refl h (λ x. due_in_queue mines n queue d x)
  where
    same : (k == n) ≡ true → k ≡ n
    same e = grind (arith, nat_tests)

    go : (p : Bool) → is_sense_due mines k ≡ p → (q : Bool) → (k == n) ≡ q → (q || list_any (λ k. k == n) queue) ≡ true
        → (list_any (λ k. k == n) queue ≡ true → is_some (my_sense mines queue) ≡ true)
        → is_some (if p then Some k else my_sense mines queue) ≡ true
    go true e q f x r = refl
    go false e true f x r = absurd (no_false (sym e ∙ ap (λ (z : ℕ). is_sense_due mines z) (same f) ∙ d))
      where
        no_false : false ≡ true → ⊥
        no_false z = cc
    go false e false f x r = r x

kept_first : (a : Option ℕ) (b c : Option ℕ) → is_some a ≡ true → first_of a b ≡ first_of a c
kept_first None b c h = cc
kept_first (Some n) b c h = refl

-- ---- there is room: the numbers in it are different, and each is below this one

abbrev count_in : ℕ → List ℕ → ℕ
count_in zero queue = 0
count_in (suc b) queue = one_if (list_any (λ k. k == b) queue) + count_in b queue

small : (q : Bool) → one_if q ≤ 1
small true = omega arith
small false = omega arith

at_most : (b : ℕ) (queue : List ℕ) → count_in b queue ≤ b
at_most zero queue = omega arith
at_most (suc b) queue = omega (arith, small (list_any (λ k. k == b) queue), at_most b queue)

missing : (b n : ℕ) (queue : List ℕ) → n < b → list_any (λ k. k == n) queue ≡ false → count_in b queue < b
missing zero n queue h e = omega (arith, h)
missing (suc b) n queue h e =
    elim (cases_eq n b) [
      | inl x ↦
          let none : one_if (list_any (λ k. k == b) queue) ≡ 0 =
          ap (λ (z : ℕ). one_if (list_any (λ k. k == z) queue)) (sym x) ∙ ap (λ (q : Bool). one_if q) e in
          omega (arith, none, at_most b queue)
      | inr x ↦ omega (arith, small (list_any (λ k. k == b) queue), missing b n queue (omega (arith, h, x)) e)
    ]

pub any_with : (queue : List ℕ) (n b : ℕ)
    → list_any (λ k. k == b) (queue ++ n ∷ []) ≡ (list_any (λ k. k == b) queue || n == b)
any_with queue n b =
    list_any-append (λ k. k == b) queue (n ∷ []) ∙ (λ i. list_any (λ k. k == b) queue || or_no (n == b) i)
  where
    or_no : (q : Bool) → (q || false) ≡ q
    or_no true = refl
    or_no false = refl

stays : (b n : ℕ) (queue : List ℕ) → b ≤ n → count_in b (queue ++ n ∷ []) ≡ count_in b queue
stays zero n queue h = refl
stays (suc b) n queue h =
    let other : list_any (λ k. k == b) (queue ++ n ∷ []) ≡ list_any (λ k. k == b) queue = any_with queue n b
    ∙ (λ i. list_any (λ k. k == b) queue || ne_eqb n b (λ z. omega (arith, z, h)) i)
    ∙ or_false (list_any (λ k. k == b) queue) in
    λ i. one_if (other i) + stays b n queue (omega (arith, h)) i

grows : (b n : ℕ) (queue : List ℕ) → n < b → list_any (λ k. k == n) queue ≡ false
    → count_in b (queue ++ n ∷ []) ≡ count_in b queue + 1
grows zero n queue h e = omega (arith, h)
grows (suc b) n queue h e =
    elim (cases_eq n b) [
      | inl x ↦
          let none : list_any (λ k. k == b) queue ≡ false = ap (λ (z : ℕ). list_any (λ k. k == z) queue) (sym x) ∙ e in
          let now : list_any (λ k. k == b) (queue ++ n ∷ []) ≡ true = any_with queue n b
          ∙ (λ i. none i || eq-eqb n b x i) in
          let was : one_if (list_any (λ k. k == b) queue) ≡ 0 = ap (λ (q : Bool). one_if q) none in
          let is : one_if (list_any (λ k. k == b) (queue ++ n ∷ [])) ≡ 1 = ap (λ (q : Bool). one_if q) now in
          omega (arith, was, is, stays b n queue (omega (arith, x)))
      | inr x ↦
          let other : list_any (λ k. k == b) (queue ++ n ∷ []) ≡ list_any (λ k. k == b) queue = any_with queue n b
          ∙ (λ i. list_any (λ k. k == b) queue || ne_eqb n b x i) ∙ or_false (list_any (λ k. k == b) queue) in
          let same : one_if (list_any (λ k. k == b) (queue ++ n ∷ [])) ≡ one_if (list_any (λ k. k == b) queue) = ap
          (λ (q : Bool). one_if q) other in
          omega (arith, same, grows b n queue (omega (arith, h, x)) e)
    ]

-- ---- the first sense of the queue is that of all commands that ended so

queue_sense : (mines : List Mine) (room : ℕ)
    → ((n : ℕ) → has_number mines n ≡ true → n < room) → (checks queue : List ℕ) → length queue ≤ count_in room queue
    → my_sense mines (queue_from mines room queue checks) ≡ first_of (my_sense mines queue) (my_sense mines checks)
queue_sense mines room range [] queue inv = first_none (my_sense mines queue)
queue_sense mines room range (n ∷ checks) queue inv = go (has_number mines n) refl (list_any (λ k. k == n) queue) refl
    (λ other x. queue_sense mines room range checks other x)
  where
    go : (p : Bool) → has_number mines n ≡ p → (q : Bool) → list_any (λ k. k == n) queue ≡ q
        → ((other : List ℕ) → length other ≤ count_in room other
        → my_sense mines (queue_from mines room other checks) ≡ first_of (my_sense mines other) (my_sense mines checks))
        → my_sense mines (queue_from mines room (queue_with mines room queue n) checks)
        ≡ first_of (my_sense mines queue) (if is_sense_due mines n then Some n else my_sense mines checks)
    go false e q f r = (λ i. my_sense mines (queue_from mines room
        (if e i && not (list_any (λ k. k == n) queue) && nat_lt (length queue) room then queue ++ n ∷ [] else queue)
        checks)) ∙ r queue inv
        ∙ (λ i. first_of (my_sense mines queue) (if sym (not_there mines n e) i then Some n else my_sense mines checks))
    go true e true f r = (λ i. my_sense mines (queue_from mines room
        (if e i && not (f i) && nat_lt (length queue) room then queue ++ n ∷ [] else queue) checks))
        ∙ r queue inv ∙ here (is_sense_due mines n) refl
      where
        here : (d : Bool) → is_sense_due mines n ≡ d
            → first_of (my_sense mines queue) (my_sense mines checks)
            ≡ first_of (my_sense mines queue) (if is_sense_due mines n then Some n else my_sense mines checks)
        here true d = kept_first (my_sense mines queue) _ _ (due_in_queue mines n queue d f)
        here false d = λ i. first_of (my_sense mines queue) (if sym d i then Some n else my_sense mines checks)
    go true e false f r =
        let fits : count_in room queue < room = missing room n queue (range n e) f in
        let roomy : nat_lt (length queue) room ≡ true = short (length queue) room (omega (arith, inv, fits)) in
        (λ i. my_sense mines
        (queue_from mines room (if e i && not (f i) && roomy i then queue ++ n ∷ [] else queue) checks))
        ∙ r (queue ++ n ∷ []) (omega (arith, inv, length_more queue n, grows room n queue (range n e) f))
        ∙ (λ i. first_of (sense_with mines queue n i) (my_sense mines checks))
        ∙ first_first (my_sense mines queue) (my_sense mines (n ∷ [])) (my_sense mines checks)
        ∙ (λ i. first_of (my_sense mines queue) (one_sense (is_sense_due mines n) n (my_sense mines checks) i))
      where
        short : (a b : ℕ) → a < b → nat_lt a b ≡ true
        short a b h = grind (arith, nat_tests)

-- ---- the numbers of its own commands

in_range : (b : Sent) (dev k : ℕ) (commands : List CmdDef) (n : ℕ)
    → has_number (map (mine_of b.checks) (own_commands b dev k commands)) n ≡ true → n < length commands + k
in_range b dev k [] n h = cc
in_range b dev k (c ∷ commands) n h = go (c.host == dev) h (λ x. in_range b dev (k + 1) commands n x)
  where
    same : (k == n) ≡ true → k ≡ n
    same e = grind (arith, nat_tests)

    found : (q : Bool) → (k == n) ≡ q
        → (q || has_number (map (mine_of b.checks) (own_commands b dev (k + 1) commands)) n) ≡ true
        → (has_number (map (mine_of b.checks) (own_commands b dev (k + 1) commands)) n ≡ true
        → n < length commands + (k + 1)) → n < length (c ∷ commands) + k
    found true e x r = omega (arith, same e)
    found false e x r = omega (arith, r x)

    go : (q : Bool) → has_number (map (mine_of b.checks)
        (if q then own_command b k c ∷ own_commands b dev (k + 1) commands else own_commands b dev (k + 1) commands)) n
        ≡ true
        → (has_number (map (mine_of b.checks) (own_commands b dev (k + 1) commands)) n ≡ true
        → n < length commands + (k + 1)) → n < length (c ∷ commands) + k
    go true x r = found (k == n) refl x r
    go false x r = omega (arith, r x)

pub queue_is : (b : Sent) (dev : ℕ) (commands : List CmdDef)
    → my_sense (mines_of b dev commands) (queue_from (mines_of b dev commands) (length commands + 1) [] b.checks)
    ≡ my_sense (mines_of b dev commands) b.checks
queue_is b dev commands = queue_sense (mines_of b dev commands) (length commands + 1)
    (λ n h. in_range b dev 1 commands n h) b.checks [] (omega arith)
