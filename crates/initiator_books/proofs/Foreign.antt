-- What the other initiators send leaves the book of this one.
use Rattle.std.proofs.Common.{ℕ, suc, zero, ◌≡◌, ◌≢◌, ◌+◌, ◌<◌, Bool, true, false, List, [], ◌∷◌, ◌∙◌, refl, sym, ap}
use Rattle.std.proofs.Common.{arith, Option, Some, None}
use Rattle.std.specs.Prelude.{if◌then◌else◌, not, ◌&&◌, ◌||◌, ◌==◌, map, nat_le}
use Rattle.std.proofs.lemmas.Bool.{ne_eqb, eq-eqb}
use Rattle.std.proofs.lemmas.Bool.Decides.{nat_tests}
use Rattle.scenario.specs.declared.value.CmdDef.{CmdDef}
use Rattle.scenario.specs.declared.value.AbortDef.{AbortDef}
use Rattle.scenario.specs.Value.{ScenarioValue}
use Rattle.array_model.specs.Processes.{command_at, process_if}
use Rattle.story_model.specs.HistoryEvents.{abort_line_at}
use Rattle.story_model.specs.Items.{Item, process, abort, command_item, sense_item, Sent, is_done, is_of_host}
use Rattle.story_model.specs.Items.{abort_from}
use Rattle.story_model.specs.Items.{sense_from, command_from, open_from, may_send, or_else, item_at, count_item}
use Rattle.due_model.specs.Wants.{own_command, own_commands, target_if, abort_target, target_of}
use Rattle.initiator_books.specs.declared.mine.Mine.{Mine}
use Rattle.initiator_books.specs.declared.mine.MyAbort.{MyAbort}
use Rattle.initiator_books.specs.Mines.{capped, mine_of, mines_of, my_abort, my_aborts, with_sent, with_over}
use Rattle.initiator_books.specs.Mines.{with_one_try}
use Rattle.initiator_books.specs.Books.{has_number, my_book, item_if}
use Rattle.initiator_books.specs.declared.mine.OwnItem.{OwnItem}
use Rattle.initiator_books.specs.declared.mine.OwnItem.TheVariants as own
use Rattle.initiator_books.proofs.BookSteps.{book_sent, book_over, book_try, book_abort_sent, book_abort_over}
use Rattle.initiator_books.proofs.BookSteps.{book_abort_try, book_sense_try}
use Rattle.initiator_books.specs.Wishes.{is_abort_of, IsItemOf, IsItemIf, tries_in, has_abort, abort_tries_in}
use Rattle.initiator_books.specs.Wishes.{target_in, abort_target_in, target_by}
use Rattle.bus_base.proofs.Tests.{eq_turned}
use Rattle.initiator_books.proofs.Books.{no_first}

-- ---- whose command a number is

below : (b : Sent) (dev k n : ℕ) (commands : List CmdDef) → n < k
    → has_number (map (mine_of b.checks) (own_commands b dev k commands)) n ≡ false
below b dev k n [] h = refl
below b dev k n (c ∷ commands) h = go (below b dev (k + 1) n commands (omega (arith, h))) (c.host == dev)
  where
    go : has_number (map (mine_of b.checks) (own_commands b dev (k + 1) commands)) n ≡ false → (q : Bool)
        → has_number (map (mine_of b.checks)
        (if q then own_command b k c ∷ own_commands b dev (k + 1) commands else own_commands b dev (k + 1) commands)) n
        ≡ false
    go r true = λ i. ne_eqb k n (λ z. omega (arith, z, h)) i || r i
    go r false = r

numbered : (b : Sent) (dev k : ℕ) (commands : List CmdDef) (j n : ℕ) → n ≡ j + k
    → has_number (map (mine_of b.checks) (own_commands b dev k commands)) n
    ≡ is_of_host (command_at commands (suc j)) dev
numbered b dev k [] j n e = refl
numbered b dev k (c ∷ commands) zero n e = go (below b dev (k + 1) n commands (omega (arith, e))) (c.host == dev)
  where
    go : has_number (map (mine_of b.checks) (own_commands b dev (k + 1) commands)) n ≡ false → (q : Bool)
        → has_number (map (mine_of b.checks)
        (if q then own_command b k c ∷ own_commands b dev (k + 1) commands else own_commands b dev (k + 1) commands)) n
        ≡ q
    go r true = λ i. eq-eqb k n (omega (arith, e)) i
        || has_number (map (mine_of b.checks) (own_commands b dev (k + 1) commands)) n
    go r false = r
numbered b dev k (c ∷ commands) (suc j) n e =
    go (numbered b dev (k + 1) commands j n (omega (arith, e))) (c.host == dev)
  where
    go : has_number (map (mine_of b.checks) (own_commands b dev (k + 1) commands)) n
        ≡ is_of_host (command_at commands (suc j)) dev → (q : Bool) → has_number (map (mine_of b.checks)
        (if q then own_command b k c ∷ own_commands b dev (k + 1) commands else own_commands b dev (k + 1) commands)) n
        ≡ is_of_host (command_at commands (suc j)) dev
    go r true = λ i. ne_eqb k n (λ z. omega (arith, z, e)) i || r i
    go r false = r

pub number_is : (b : Sent) (dev : ℕ) (commands : List CmdDef) (n : ℕ)
    → has_number (mines_of b dev commands) n ≡ is_of_host (command_at commands n) dev
number_is b dev commands zero =
    below b dev 1 0 commands (omega arith) ∙ (λ i. is_of_host (sym (no_first commands) i) dev)
number_is b dev commands (suc j) = numbered b dev 1 commands j (suc j) (omega arith)

-- The same of abort lines.
abort_below : (b : Sent) (dev k n : ℕ) (aborts : List AbortDef) → n < k → has_abort (my_aborts b dev k aborts) n ≡ false
abort_below b dev k n [] h = refl
abort_below b dev k n (a ∷ aborts) h = go (abort_below b dev (k + 1) n aborts (omega (arith, h))) (a.host == dev)
  where
    go : has_abort (my_aborts b dev (k + 1) aborts) n ≡ false → (q : Bool)
        → has_abort (if q then my_abort b k a ∷ my_aborts b dev (k + 1) aborts else my_aborts b dev (k + 1) aborts) n
        ≡ false
    go r true = λ i. ne_eqb k n (λ z. omega (arith, z, h)) i || r i
    go r false = r

abort_numbered : (b : Sent) (dev k : ℕ) (aborts : List AbortDef) (j n : ℕ) → n ≡ j + k
    → has_abort (my_aborts b dev k aborts) n ≡ is_abort_of (abort_line_at aborts (suc j)) dev
abort_numbered b dev k [] j n e = refl
abort_numbered b dev k (a ∷ aborts) zero n e =
    go (abort_below b dev (k + 1) n aborts (omega (arith, e))) (a.host == dev)
  where
    go : has_abort (my_aborts b dev (k + 1) aborts) n ≡ false → (q : Bool)
        → has_abort (if q then my_abort b k a ∷ my_aborts b dev (k + 1) aborts else my_aborts b dev (k + 1) aborts) n
        ≡ q
    go r true = λ i. eq-eqb k n (omega (arith, e)) i || has_abort (my_aborts b dev (k + 1) aborts) n
    go r false = r
abort_numbered b dev k (a ∷ aborts) (suc j) n e =
    go (abort_numbered b dev (k + 1) aborts j n (omega (arith, e))) (a.host == dev)
  where
    go : has_abort (my_aborts b dev (k + 1) aborts) n ≡ is_abort_of (abort_line_at aborts (suc j)) dev → (q : Bool)
        → has_abort (if q then my_abort b k a ∷ my_aborts b dev (k + 1) aborts else my_aborts b dev (k + 1) aborts) n
        ≡ is_abort_of (abort_line_at aborts (suc j)) dev
    go r true = λ i. ne_eqb k n (λ z. omega (arith, z, e)) i || r i
    go r false = r

no_line : (aborts : List AbortDef) → abort_line_at aborts zero ≡ None
no_line [] = refl
no_line (a ∷ aborts) = refl

pub abort_number_is : (b : Sent) (dev : ℕ) (aborts : List AbortDef) (n : ℕ)
    → has_abort (my_aborts b dev 1 aborts) n ≡ is_abort_of (abort_line_at aborts n) dev
abort_number_is b dev aborts zero =
    abort_below b dev 1 0 aborts (omega arith) ∙ (λ i. is_abort_of (sym (no_line aborts) i) dev)
abort_number_is b dev aborts (suc j) = abort_numbered b dev 1 aborts j (suc j) (omega arith)

-- ---- what is done to a number that is none of its own

elsewhere : (n : ℕ) (f : Mine → Mine) (mines : List Mine) → has_number mines n ≡ false
    → map (λ (m : Mine). if n == m.number then f m else m) mines ≡ mines
elsewhere n f [] h = refl
elsewhere n f (m ∷ mines) h = go (m.number == n) refl h (λ x. elsewhere n f mines x)
  where
    go : (q : Bool) → (m.number == n) ≡ q → (q || has_number mines n) ≡ false
        → (has_number mines n ≡ false → map (λ (o : Mine). if n == o.number then f o else o) mines ≡ mines)
        → map (λ (o : Mine). if n == o.number then f o else o) (m ∷ mines) ≡ m ∷ mines
    go true e x r = cc
    go false e x r = λ i. (if (eq_turned n m.number ∙ e) i then f m else m) ∷ r x i

abort_elsewhere : (n : ℕ) (f : MyAbort → MyAbort) (aborts : List MyAbort) → has_abort aborts n ≡ false
    → map (λ (a : MyAbort). if n == a.number then f a else a) aborts ≡ aborts
abort_elsewhere n f [] h = refl
abort_elsewhere n f (a ∷ aborts) h = go (a.number == n) refl h (λ x. abort_elsewhere n f aborts x)
  where
    go : (q : Bool) → (a.number == n) ≡ q → (q || has_abort aborts n) ≡ false
        → (has_abort aborts n ≡ false → map (λ (o : MyAbort). if n == o.number then f o else o) aborts ≡ aborts)
        → map (λ (o : MyAbort). if n == o.number then f o else o) (a ∷ aborts) ≡ a ∷ aborts
    go true e x r = cc
    go false e x r = λ i. (if (eq_turned n a.number ∙ e) i then f a else a) ∷ r x i

pub not_both : (h : Option CmdDef) (d dev : ℕ) → d ≢ dev → is_of_host h d ≡ true → is_of_host h dev ≡ false
not_both None d dev ne e = refl
not_both (Some c) d dev ne e = ne_eqb c.host dev (λ x. ne (sym (same c.host d e) ∙ x))
  where
    same : (a b : ℕ) → (a == b) ≡ true → a ≡ b
    same a b e = grind (arith, nat_tests)

not_both_abort : (h : Option AbortDef) (d dev : ℕ) → d ≢ dev → is_abort_of h d ≡ true → is_abort_of h dev ≡ false
not_both_abort None d dev ne e = refl
not_both_abort (Some a) d dev ne e = ne_eqb a.host dev (λ x. ne (sym (same a.host d e) ∙ x))
  where
    same : (a b : ℕ) → (a == b) ≡ true → a ≡ b
    same a b e = grind (arith, nat_tests)

-- The item of another initiator changes the book of this one neither as it is sent, nor as it is over or called for in
-- vain.
pub others_sent : (s : ScenarioValue) (b : Sent) (d dev : ℕ) (item : Item) → d ≢ dev → IsItemOf s d item
    → my_book s (record b { sent = item ∷ b.sent }) dev ≡ my_book s b dev
others_sent s b d dev (process id) ne h = book_sent s b dev id ∙ (λ i. record (my_book s b dev) {
  mines = elsewhere id.command (λ m. with_sent id.sense m) (mines_of b dev s.commands)
      (number_is b dev s.commands id.command ∙ not_both (command_at s.commands id.command) d dev ne h) i;
})
others_sent s b d dev (abort n) ne h = book_abort_sent s b dev n ∙ (λ i. record (my_book s b dev) {
  aborts = abort_elsewhere n (λ a. record a { done = true }) (my_aborts b dev 1 s.aborts)
      (abort_number_is b dev s.aborts n ∙ not_both_abort (abort_line_at s.aborts n) d dev ne h) i;
})

pub others_over : (s : ScenarioValue) (b : Sent) (d dev : ℕ) (item : Item) → d ≢ dev → IsItemOf s d item
    → my_book s (record b { over = item ∷ b.over }) dev ≡ my_book s b dev
others_over s b d dev (process id) ne h = book_over s b dev id ∙ (λ i. record (my_book s b dev) {
  mines = elsewhere id.command (λ m. with_over id.sense m) (mines_of b dev s.commands)
      (number_is b dev s.commands id.command ∙ not_both (command_at s.commands id.command) d dev ne h) i;
})
others_over s b d dev (abort n) ne h = book_abort_over s b dev n ∙ (λ i. record (my_book s b dev) {
  aborts = abort_elsewhere n (λ a. record a { done = true }) (my_aborts b dev 1 s.aborts)
      (abort_number_is b dev s.aborts n ∙ not_both_abort (abort_line_at s.aborts n) d dev ne h) i;
})

others_try_of : (s : ScenarioValue) (b : Sent) (d dev n : ℕ) (sense : Bool)
    → d ≢ dev → is_of_host (command_at s.commands n) d ≡ true
    → my_book s (record b { tries = process (record { command = n; sense = sense }) ∷ b.tries }) dev ≡ my_book s b dev
others_try_of s b d dev n true ne h = book_sense_try s b dev n
others_try_of s b d dev n false ne h = book_try s b dev n ∙ (λ i. record (my_book s b dev) {
  mines = elsewhere n (λ m. with_one_try m) (mines_of b dev s.commands)
      (number_is b dev s.commands n ∙ not_both (command_at s.commands n) d dev ne h) i;
})

pub others_try : (s : ScenarioValue) (b : Sent) (d dev : ℕ) (item : Item) → d ≢ dev → IsItemOf s d item
    → my_book s (record b { tries = item ∷ b.tries }) dev ≡ my_book s b dev
others_try s b d dev (process id) ne h = others_try_of s b d dev id.command id.sense ne h
others_try s b d dev (abort n) ne h = book_abort_try s b dev n ∙ (λ i. record (my_book s b dev) {
  aborts = abort_elsewhere n (λ a. record a { tries = capped (a.tries + 1) }) (my_aborts b dev 1 s.aborts)
      (abort_number_is b dev s.aborts n ∙ not_both_abort (abort_line_at s.aborts n) d dev ne h) i;
})

-- ---- what an initiator sends next is its own

own_abort_item : (s : ScenarioValue) (b : Sent) (dev time k : ℕ) (aborts : List AbortDef)
    → ((j n : ℕ) → n ≡ j + k → abort_line_at s.aborts n ≡ abort_line_at aborts (suc j))
    → IsItemIf s dev (abort_from b dev time k aborts)
own_abort_item s b dev time k [] h = tt
own_abort_item s b dev time k (a ∷ aborts) h = go (a.host == dev) refl (nat_le a.at time) (not (is_done b (abort k)))
    (own_abort_item s b dev time (k + 1) aborts (λ j n e. h (suc j) n (omega (arith, e))))
  where
    go : (q : Bool) → (a.host == dev) ≡ q → (r t : Bool) → IsItemIf s dev (abort_from b dev time (k + 1) aborts)
        → IsItemIf s dev (if q && r && t then Some (abort k) else abort_from b dev time (k + 1) aborts)
    go true e true true x = (λ i. is_abort_of (h zero k (omega arith) i) dev) ∙ e
    go true e true false x = x
    go true e false t x = x
    go false e r t x = x

own_sense_item : (s : ScenarioValue) (b : Sent) (dev : ℕ) (checks : List ℕ) → IsItemIf s dev (sense_from s b dev checks)
own_sense_item s b dev [] = tt
own_sense_item s b dev (n ∷ checks) =
    go (is_of_host (command_at s.commands n) dev) refl (not (is_done b (sense_item n))) (own_sense_item s b dev checks)
  where
    go : (q : Bool) → is_of_host (command_at s.commands n) dev ≡ q
        → (r : Bool) → IsItemIf s dev (sense_from s b dev checks)
        → IsItemIf s dev (if q && r then Some (sense_item n) else sense_from s b dev checks)
    go true e true x = e
    go true e false x = x
    go false e r x = x

own_command_item : (s : ScenarioValue) (b : Sent) (dev time k : ℕ) (commands : List CmdDef)
    → ((j n : ℕ) → n ≡ j + k → command_at s.commands n ≡ command_at commands (suc j))
    → IsItemIf s dev (command_from s b dev time k commands)
own_command_item s b dev time k [] h = tt
own_command_item s b dev time k (c ∷ commands) h = go (c.host == dev) refl
    (not (is_done b (command_item k))) (may_send s time (open_from b dev 1 s.commands) c)
    (own_command_item s b dev time (k + 1) commands (λ j n e. h (suc j) n (omega (arith, e))))
  where
    go : (q : Bool) → (c.host == dev) ≡ q → (r t : Bool) → IsItemIf s dev (command_from s b dev time (k + 1) commands)
        → IsItemIf s dev
        (if q && r then (if t then Some (command_item k) else None) else command_from s b dev time (k + 1) commands)
    go true e true true x = (λ i. is_of_host (h zero k (omega arith) i) dev) ∙ e
    go true e true false x = tt
    go true e false t x = x
    go false e r t x = x

either_item : (s : ScenarioValue) (dev : ℕ) (a b : Option Item) → IsItemIf s dev a → IsItemIf s dev b
    → IsItemIf s dev (or_else a b)
either_item s dev None b x y = y
either_item s dev (Some a) b x y = x

pub own_item : (s : ScenarioValue) (b : Sent) (dev time : ℕ) → IsItemIf s dev (item_at s b dev time)
own_item s b dev time = either_item s dev (abort_from b dev time 1 s.aborts) _
    (own_abort_item s b dev time 1 s.aborts (λ j n e. ap (λ (x : ℕ). abort_line_at s.aborts x) (omega (arith, e))))
    (either_item s dev (sense_from s b dev b.checks) _ (own_sense_item s b dev b.checks)
    (own_command_item s b dev time 1 s.commands (λ j n e. ap (λ (x : ℕ). command_at s.commands x) (omega (arith, e)))))

-- ---- how often it was called for in vain

tries_from : (b : Sent) (dev k : ℕ) (commands : List CmdDef) (j n : ℕ)
    → n ≡ j + k → is_of_host (command_at commands (suc j)) dev ≡ true
    → tries_in (map (mine_of b.checks) (own_commands b dev k commands)) n ≡ capped (count_item b.tries (command_item n))
tries_from b dev k [] j n e h = cc
tries_from b dev k (c ∷ commands) zero n e h = (λ i. tries_in (map (mine_of b.checks)
    (if h i then own_command b k c ∷ own_commands b dev (k + 1) commands else own_commands b dev (k + 1) commands)) n)
    ∙ (λ i. if eq-eqb k n (omega (arith, e)) i then capped (count_item b.tries (command_item k))
    else tries_in (map (mine_of b.checks) (own_commands b dev (k + 1) commands)) n)
    ∙ ap (λ (x : ℕ). capped (count_item b.tries (command_item x))) (omega (arith, e))
tries_from b dev k (c ∷ commands) (suc j) n e h =
    go (tries_from b dev (k + 1) commands j n (omega (arith, e)) h) (c.host == dev)
  where
    go : tries_in (map (mine_of b.checks) (own_commands b dev (k + 1) commands)) n
        ≡ capped (count_item b.tries (command_item n)) → (q : Bool) → tries_in (map (mine_of b.checks)
        (if q then own_command b k c ∷ own_commands b dev (k + 1) commands else own_commands b dev (k + 1) commands)) n
        ≡ capped (count_item b.tries (command_item n))
    go r true = (λ i. if ne_eqb k n (λ z. omega (arith, z, e)) i then capped (count_item b.tries (command_item k))
        else tries_in (map (mine_of b.checks) (own_commands b dev (k + 1) commands)) n)
        ∙ r
    go r false = r

pub no_host_first : (commands : List CmdDef) (dev : ℕ) → is_of_host (command_at commands zero) dev ≡ false
no_host_first [] dev = refl
no_host_first (c ∷ commands) dev = refl

pub tries_are : (b : Sent) (dev : ℕ) (commands : List CmdDef) (n : ℕ) → is_of_host (command_at commands n) dev ≡ true
    → tries_in (mines_of b dev commands) n ≡ capped (count_item b.tries (command_item n))
tries_are b dev commands zero h = none_some (sym (no_host_first commands dev) ∙ h)
  where
    none_some : false ≡ true → tries_in (mines_of b dev commands) 0 ≡ capped (count_item b.tries (command_item 0))
    none_some z = cc
tries_are b dev commands (suc j) h = tries_from b dev 1 commands j (suc j) (omega arith) h

abort_tries_from : (b : Sent) (dev k : ℕ) (aborts : List AbortDef) (j n : ℕ)
    → n ≡ j + k → is_abort_of (abort_line_at aborts (suc j)) dev ≡ true
    → abort_tries_in (my_aborts b dev k aborts) n ≡ capped (count_item b.tries (abort n))
abort_tries_from b dev k [] j n e h = cc
abort_tries_from b dev k (a ∷ aborts) zero n e h = (λ i. abort_tries_in
    (if h i then my_abort b k a ∷ my_aborts b dev (k + 1) aborts else my_aborts b dev (k + 1) aborts) n)
    ∙ (λ i. if eq-eqb k n (omega (arith, e)) i then capped (count_item b.tries (abort k))
    else abort_tries_in (my_aborts b dev (k + 1) aborts) n)
    ∙ ap (λ (x : ℕ). capped (count_item b.tries (abort x))) (omega (arith, e))
abort_tries_from b dev k (a ∷ aborts) (suc j) n e h =
    go (abort_tries_from b dev (k + 1) aborts j n (omega (arith, e)) h) (a.host == dev)
  where
    go : abort_tries_in (my_aborts b dev (k + 1) aborts) n ≡ capped (count_item b.tries (abort n)) → (q : Bool)
        → abort_tries_in (if q then my_abort b k a ∷ my_aborts b dev (k + 1) aborts else my_aborts b dev (k + 1) aborts)
        n ≡ capped (count_item b.tries (abort n))
    go r true = (λ i. if ne_eqb k n (λ z. omega (arith, z, e)) i then capped (count_item b.tries (abort k))
        else abort_tries_in (my_aborts b dev (k + 1) aborts) n)
        ∙ r
    go r false = r

pub no_line_first : (aborts : List AbortDef) (dev : ℕ) → is_abort_of (abort_line_at aborts zero) dev ≡ false
no_line_first [] dev = refl
no_line_first (a ∷ aborts) dev = refl

pub abort_tries_are : (b : Sent) (dev : ℕ) (aborts : List AbortDef) (n : ℕ)
    → is_abort_of (abort_line_at aborts n) dev ≡ true
    → abort_tries_in (my_aborts b dev 1 aborts) n ≡ capped (count_item b.tries (abort n))
abort_tries_are b dev aborts zero h = none_some (sym (no_line_first aborts dev) ∙ h)
  where
    none_some : false ≡ true → abort_tries_in (my_aborts b dev 1 aborts) 0 ≡ capped (count_item b.tries (abort 0))
    none_some z = cc
abort_tries_are b dev aborts (suc j) h = abort_tries_from b dev 1 aborts j (suc j) (omega arith) h

-- ---- whom it is for

abbrev command_target : Option CmdDef → Option ℕ
command_target None = None
command_target (Some c) = Some c.target

targets_from : (b : Sent) (dev k : ℕ) (commands : List CmdDef) (j n : ℕ)
    → n ≡ j + k → is_of_host (command_at commands (suc j)) dev ≡ true
    → target_in (map (mine_of b.checks) (own_commands b dev k commands)) n
    ≡ command_target (command_at commands (suc j))
targets_from b dev k [] j n e h = cc
targets_from b dev k (c ∷ commands) zero n e h = (λ i. target_in (map (mine_of b.checks)
    (if h i then own_command b k c ∷ own_commands b dev (k + 1) commands else own_commands b dev (k + 1) commands)) n)
    ∙ (λ i. if eq-eqb k n (omega (arith, e)) i then Some c.target
    else target_in (map (mine_of b.checks) (own_commands b dev (k + 1) commands)) n)
targets_from b dev k (c ∷ commands) (suc j) n e h =
    go (targets_from b dev (k + 1) commands j n (omega (arith, e)) h) (c.host == dev)
  where
    go : target_in (map (mine_of b.checks) (own_commands b dev (k + 1) commands)) n
        ≡ command_target (command_at commands (suc j)) → (q : Bool) → target_in (map (mine_of b.checks)
        (if q then own_command b k c ∷ own_commands b dev (k + 1) commands else own_commands b dev (k + 1) commands)) n
        ≡ command_target (command_at commands (suc j))
    go r true = (λ i. if ne_eqb k n (λ z. omega (arith, z, e)) i then Some c.target
        else target_in (map (mine_of b.checks) (own_commands b dev (k + 1) commands)) n)
        ∙ r
    go r false = r

targets_are : (b : Sent) (dev : ℕ) (commands : List CmdDef) (n : ℕ) → is_of_host (command_at commands n) dev ≡ true
    → target_in (mines_of b dev commands) n ≡ command_target (command_at commands n)
targets_are b dev commands zero h = none_some (sym (no_host_first commands dev) ∙ h)
  where
    none_some : false ≡ true → target_in (mines_of b dev commands) 0 ≡ command_target (command_at commands 0)
    none_some z = cc
targets_are b dev commands (suc j) h = targets_from b dev 1 commands j (suc j) (omega arith) h

abort_targets_from : (b : Sent) (dev k : ℕ) (aborts : List AbortDef) (j n : ℕ)
    → n ≡ j + k → is_abort_of (abort_line_at aborts (suc j)) dev ≡ true
    → abort_target_in (my_aborts b dev k aborts) n ≡ abort_target (abort_line_at aborts (suc j))
abort_targets_from b dev k [] j n e h = cc
abort_targets_from b dev k (a ∷ aborts) zero n e h = (λ i. abort_target_in
    (if h i then my_abort b k a ∷ my_aborts b dev (k + 1) aborts else my_aborts b dev (k + 1) aborts) n)
    ∙ (λ i. if eq-eqb k n (omega (arith, e)) i then Some a.target
    else abort_target_in (my_aborts b dev (k + 1) aborts) n)
abort_targets_from b dev k (a ∷ aborts) (suc j) n e h =
    go (abort_targets_from b dev (k + 1) aborts j n (omega (arith, e)) h) (a.host == dev)
  where
    go : abort_target_in (my_aborts b dev (k + 1) aborts) n ≡ abort_target (abort_line_at aborts (suc j)) → (q : Bool)
        → abort_target_in
        (if q then my_abort b k a ∷ my_aborts b dev (k + 1) aborts else my_aborts b dev (k + 1) aborts) n
        ≡ abort_target (abort_line_at aborts (suc j))
    go r true = (λ i. if ne_eqb k n (λ z. omega (arith, z, e)) i then Some a.target
        else abort_target_in (my_aborts b dev (k + 1) aborts) n)
        ∙ r
    go r false = r

abort_targets_are : (b : Sent) (dev : ℕ) (aborts : List AbortDef) (n : ℕ)
    → is_abort_of (abort_line_at aborts n) dev ≡ true
    → abort_target_in (my_aborts b dev 1 aborts) n ≡ abort_target (abort_line_at aborts n)
abort_targets_are b dev aborts zero h = none_some (sym (no_line_first aborts dev) ∙ h)
  where
    none_some : false ≡ true → abort_target_in (my_aborts b dev 1 aborts) 0 ≡ abort_target (abort_line_at aborts 0)
    none_some z = cc
abort_targets_are b dev aborts (suc j) h = abort_targets_from b dev 1 aborts j (suc j) (omega arith) h

process_target : (s : ScenarioValue) (n : ℕ) (sense : Bool) (c : Option CmdDef)
    → target_if (process_if s (record { command = n; sense = sense }) c) ≡ command_target c
process_target s n sense None = refl
process_target s n true (Some c) = refl
process_target s n false (Some c) = refl

pub target_is : (s : ScenarioValue) (b : Sent) (dev : ℕ) (i : Option OwnItem) → IsItemIf s dev (item_if i)
    → target_by (my_book s b dev) i ≡ target_of s (item_if i)
target_is s b dev None h = refl
target_is s b dev (Some (own.Command n)) h =
    targets_are b dev s.commands n h ∙ sym (process_target s n false (command_at s.commands n))
target_is s b dev (Some (own.Sense n)) h =
    targets_are b dev s.commands n h ∙ sym (process_target s n true (command_at s.commands n))
target_is s b dev (Some (own.Abort n)) h = abort_targets_are b dev s.aborts n h
