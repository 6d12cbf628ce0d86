-- The book of an initiator tells since when it wants the bus, and for what.
use Rattle.std.proofs.Common.{ℕ, suc, zero, ◌≡◌, ◌+◌, ◌<◌, Bool, true, false, List, [], ◌∷◌, ◌∙◌, refl, sym, ap, arith}
use Rattle.std.proofs.Common.{Option, Some, None}
use Rattle.std.specs.Prelude.{if◌then◌else◌, not, ◌&&◌, ◌||◌, ◌==◌, map, length, is_some, nat_le, nat_lt}
use Rattle.std.proofs.lemmas.Bool.{ne_eqb, eq-eqb}
use Rattle.std.specs.List.{list_any}
use Rattle.scenario.specs.declared.value.CmdDef.{CmdDef}
use Rattle.scenario.specs.declared.value.AbortDef.{AbortDef}
use Rattle.scenario.specs.Value.{ScenarioValue}
use Rattle.array_model.specs.Processes.{command_at}
use Rattle.story_model.specs.Items.{Item, abort, command_item, sense_item, Sent, is_done, is_of_host, is_clash}
use Rattle.story_model.specs.Items.{sense_from, or_else, open_limit_of}
use Rattle.due_model.specs.reaction_model.specs.Reactions.{sooner_time, time_if}
use Rattle.due_model.specs.dialogue_model.specs.Wants.{OwnCommand, open_in, may_follow, abort_by, command_by, item_by}
use Rattle.due_model.specs.dialogue_model.specs.Wants.{abort_since, command_since}
use Rattle.due_model.specs.Wants.{own_command, own_commands, own_abort, own_aborts, book_of, item_want_time}
use Rattle.initiator_books.specs.declared.mine.Mine.{Mine}
use Rattle.initiator_books.specs.declared.mine.OwnItem.{OwnItem}
use Rattle.initiator_books.specs.Mines.{mine_of, mines_of, my_abort, my_aborts, open_mines, is_clash_of}
use Rattle.initiator_books.specs.Mines.{may_follow_mines, mines_since, mine_by, my_aborts_since, my_abort_by}
use Rattle.initiator_books.proofs.Queues.{queue_is}
use Rattle.initiator_books.specs.Books.{BookValue, is_sense_due, my_sense, my_book, my_since, my_item, abort_if}
use Rattle.initiator_books.specs.Books.{sense_if, command_if, item_if}
use Rattle.initiator_books.proofs.Mines.{mines_from}

-- ---- senses

below : (b : Sent) (dev k n : ℕ) (commands : List CmdDef) → n < k → is_sense_due (mines_from b dev k commands) n ≡ false
below b dev k n [] h = refl
below b dev k n (c ∷ commands) h = go (below b dev (k + 1) n commands (omega (arith, h))) (c.host == dev)
  where
    go : is_sense_due (mines_from b dev (k + 1) commands) n ≡ false → (q : Bool) → is_sense_due (map (mine_of b.checks)
        (if q then own_command b k c ∷ own_commands b dev (k + 1) commands else own_commands b dev (k + 1) commands)) n
        ≡ false
    go r true = (λ i. if ne_eqb k n (λ z. omega (arith, z, h)) i then not (is_done b (sense_item k))
        else is_sense_due (mines_from b dev (k + 1) commands) n)
        ∙ r
    go r false = r

sense_due : (b : Sent) (dev k : ℕ) (commands : List CmdDef) (j n : ℕ) → n ≡ j + k
    → is_sense_due (mines_from b dev k commands) n
    ≡ (is_of_host (command_at commands (suc j)) dev && not (is_done b (sense_item n)))
sense_due b dev k [] j n e = refl
sense_due b dev k (c ∷ commands) zero n e = go (below b dev (k + 1) n commands (omega (arith, e))) (c.host == dev)
  where
    here : (k == n) ≡ true
    here = eq-eqb k n (omega (arith, e))

    same : k ≡ n
    same = omega (arith, e)

    go : is_sense_due (mines_from b dev (k + 1) commands) n ≡ false → (q : Bool) → is_sense_due (map (mine_of b.checks)
        (if q then own_command b k c ∷ own_commands b dev (k + 1) commands else own_commands b dev (k + 1) commands)) n
        ≡ (q && not (is_done b (sense_item n)))
    go r true =
        (λ i. if here i then not (is_done b (sense_item k)) else is_sense_due (mines_from b dev (k + 1) commands) n)
        ∙ (λ i. not (is_done b (sense_item (same i))))
    go r false = r
sense_due b dev k (c ∷ commands) (suc j) n e =
    go (sense_due b dev (k + 1) commands j n (omega (arith, e))) (c.host == dev)
  where
    go : is_sense_due (mines_from b dev (k + 1) commands) n
        ≡ (is_of_host (command_at commands (suc j)) dev && not (is_done b (sense_item n)))
        → (q : Bool) → is_sense_due (map (mine_of b.checks)
        (if q then own_command b k c ∷ own_commands b dev (k + 1) commands else own_commands b dev (k + 1) commands)) n
        ≡ (is_of_host (command_at commands (suc j)) dev && not (is_done b (sense_item n)))
    go r true = (λ i. if ne_eqb k n (λ z. omega (arith, z, e)) i then not (is_done b (sense_item k))
        else is_sense_due (mines_from b dev (k + 1) commands) n)
        ∙ r
    go r false = r

pub no_first : (commands : List CmdDef) → command_at commands zero ≡ None
no_first [] = refl
no_first (c ∷ commands) = refl

pub sense_due_is : (s : ScenarioValue) (b : Sent) (dev n : ℕ) → is_sense_due (mines_of b dev s.commands) n
    ≡ (is_of_host (command_at s.commands n) dev && not (is_done b (sense_item n)))
sense_due_is s b dev zero = below b dev 1 0 s.commands (omega arith)
    ∙ (λ i. is_of_host (sym (no_first s.commands) i) dev && not (is_done b (sense_item 0)))
sense_due_is s b dev (suc j) = sense_due b dev 1 s.commands j (suc j) (omega arith)

abbrev sense_item_if : Option ℕ → Option Item
sense_item_if None = None
sense_item_if (Some n) = Some (sense_item n)

senses_are : (s : ScenarioValue) (b : Sent) (dev : ℕ) (checks : List ℕ)
    → sense_from s b dev checks ≡ sense_item_if (my_sense (mines_of b dev s.commands) checks)
senses_are s b dev [] = refl
senses_are s b dev (n ∷ checks) = go (senses_are s b dev checks)
    (is_of_host (command_at s.commands n) dev && not (is_done b (sense_item n))) (sense_due_is s b dev n)
  where
    go : sense_from s b dev checks ≡ sense_item_if (my_sense (mines_of b dev s.commands) checks)
        → (q : Bool) → is_sense_due (mines_of b dev s.commands) n ≡ q
        → (if q then Some (sense_item n) else sense_from s b dev checks) ≡ sense_item_if
        (if is_sense_due (mines_of b dev s.commands) n then Some n else my_sense (mines_of b dev s.commands) checks)
    go r true e = λ i. sense_item_if (if sym e i then Some n else my_sense (mines_of b dev s.commands) checks)
    go r false e = r ∙ (λ i. sense_item_if (if sym e i then Some n else my_sense (mines_of b dev s.commands) checks))

-- ---- commands

opens_are : (checks : List ℕ) (own : List OwnCommand)
    → length (open_mines (map (mine_of checks) own)) ≡ length (open_in own)
opens_are checks [] = refl
opens_are checks (o ∷ own) = go (opens_are checks own) (o.sent && not o.over)
  where
    go : length (open_mines (map (mine_of checks) own)) ≡ length (open_in own) → (q : Bool) → length
        (if q then mine_of checks o ∷ open_mines (map (mine_of checks) own) else open_mines (map (mine_of checks) own))
        ≡ length (if q then o.def ∷ open_in own else open_in own)
    go r true = λ i. suc (r i)
    go r false = r

clashes_are : (checks : List ℕ) (o : OwnCommand) (own : List OwnCommand)
    → list_any (λ (d : Mine). is_clash_of (mine_of checks o) d) (open_mines (map (mine_of checks) own))
    ≡ list_any (λ (d : CmdDef). is_clash o.def d) (open_in own)
clashes_are checks o [] = refl
clashes_are checks o (p ∷ own) = go (clashes_are checks o own) (p.sent && not p.over)
  where
    go : list_any (λ (d : Mine). is_clash_of (mine_of checks o) d) (open_mines (map (mine_of checks) own))
        ≡ list_any (λ (d : CmdDef). is_clash o.def d) (open_in own)
        → (q : Bool) → list_any (λ (d : Mine). is_clash_of (mine_of checks o) d)
        (if q then mine_of checks p ∷ open_mines (map (mine_of checks) own) else open_mines (map (mine_of checks) own))
        ≡ list_any (λ (d : CmdDef). is_clash o.def d) (if q then p.def ∷ open_in own else open_in own)
    go r true = λ i. is_clash o.def p.def || r i
    go r false = r

follows_are : (checks : List ℕ) (most time : ℕ) (all : List OwnCommand) (o : OwnCommand)
    → may_follow_mines most time (open_mines (map (mine_of checks) all)) (mine_of checks o)
    ≡ may_follow most time (open_in all) o.def
follows_are checks most time all o =
    λ i. nat_le o.def.at time && nat_lt (opens_are checks all i) most && not (clashes_are checks o all i)

commands_since : (checks : List ℕ) (most : ℕ) (all own : List OwnCommand)
    → mines_since most (open_mines (map (mine_of checks) all)) (map (mine_of checks) own)
    ≡ command_since most (open_in all) own
commands_since checks most all [] = refl
commands_since checks most all (o ∷ own) = go (commands_since checks most all own) (o.sent || o.over)
  where
    go : mines_since most (open_mines (map (mine_of checks) all)) (map (mine_of checks) own)
        ≡ command_since most (open_in all) own → (q : Bool)
        → (if q then mines_since most (open_mines (map (mine_of checks) all)) (map (mine_of checks) own) else time_if
        (may_follow_mines most o.def.at (open_mines (map (mine_of checks) all)) (mine_of checks o)) o.def.at)
        ≡ (if not q then time_if (may_follow most o.def.at (open_in all) o.def) o.def.at
        else command_since most (open_in all) own)
    go r true = r
    go r false = λ i. time_if (follows_are checks most o.def.at all o i) o.def.at

abbrev command_item_if : Option ℕ → Option Item
command_item_if None = None
command_item_if (Some n) = Some (command_item n)

commands_by : (checks : List ℕ) (most time : ℕ) (all own : List OwnCommand)
    → command_item_if (mine_by most time (open_mines (map (mine_of checks) all)) (map (mine_of checks) own))
    ≡ command_by most time (open_in all) own
commands_by checks most time all [] = refl
commands_by checks most time all (o ∷ own) = go (commands_by checks most time all own) (o.sent || o.over)
  where
    some : (q : Bool)
        → command_item_if (if q then Some o.number else None) ≡ (if q then Some (command_item o.number) else None)
    some true = refl
    some false = refl

    go : command_item_if (mine_by most time (open_mines (map (mine_of checks) all)) (map (mine_of checks) own))
        ≡ command_by most time (open_in all) own → (q : Bool) → command_item_if
        (if q then mine_by most time (open_mines (map (mine_of checks) all)) (map (mine_of checks) own)
        else if may_follow_mines most time (open_mines (map (mine_of checks) all)) (mine_of checks o) then Some o.number
        else None)
        ≡ (if not q then (if may_follow most time (open_in all) o.def then Some (command_item o.number) else None)
        else command_by most time (open_in all) own)
    go r true = r
    go r false = some (may_follow_mines most time (open_mines (map (mine_of checks) all)) (mine_of checks o))
        ∙ (λ i. if follows_are checks most time all o i then Some (command_item o.number) else None)

-- ---- aborts

aborts_since : (b : Sent) (dev k : ℕ) (aborts : List AbortDef)
    → my_aborts_since (my_aborts b dev k aborts) ≡ abort_since (own_aborts b dev k aborts)
aborts_since b dev k [] = refl
aborts_since b dev k (a ∷ aborts) = go (aborts_since b dev (k + 1) aborts) (a.host == dev)
  where
    go : my_aborts_since (my_aborts b dev (k + 1) aborts) ≡ abort_since (own_aborts b dev (k + 1) aborts) → (q : Bool)
        → my_aborts_since
        (if q then my_abort b k a ∷ my_aborts b dev (k + 1) aborts else my_aborts b dev (k + 1) aborts)
        ≡ abort_since (if q then own_abort b k a ∷ own_aborts b dev (k + 1) aborts else own_aborts b dev (k + 1) aborts)
    go r true = λ i. sooner_time (time_if (not (is_done b (abort k))) a.at) (r i)
    go r false = r

abbrev abort_item_if : Option ℕ → Option Item
abort_item_if None = None
abort_item_if (Some n) = Some (abort n)

aborts_by : (b : Sent) (dev k time : ℕ) (aborts : List AbortDef)
    → abort_item_if (my_abort_by time (my_aborts b dev k aborts)) ≡ abort_by time (own_aborts b dev k aborts)
aborts_by b dev k time [] = refl
aborts_by b dev k time (a ∷ aborts) = go (aborts_by b dev (k + 1) time aborts) (a.host == dev)
  where
    some : abort_item_if (my_abort_by time (my_aborts b dev (k + 1) aborts))
        ≡ abort_by time (own_aborts b dev (k + 1) aborts)
        → (q : Bool) → abort_item_if (if q then Some k else my_abort_by time (my_aborts b dev (k + 1) aborts))
        ≡ (if q then Some (abort k) else abort_by time (own_aborts b dev (k + 1) aborts))
    some r true = refl
    some r false = r

    go : abort_item_if (my_abort_by time (my_aborts b dev (k + 1) aborts))
        ≡ abort_by time (own_aborts b dev (k + 1) aborts) → (q : Bool) → abort_item_if (my_abort_by time
        (if q then my_abort b k a ∷ my_aborts b dev (k + 1) aborts else my_aborts b dev (k + 1) aborts)) ≡ abort_by time
        (if q then own_abort b k a ∷ own_aborts b dev (k + 1) aborts else own_aborts b dev (k + 1) aborts)
    go r true = some r (nat_le a.at time && not (is_done b (abort k)))
    go r false = r

-- ---- the book

some_sense : (n : Option ℕ) → is_some (sense_item_if n) ≡ is_some n
some_sense None = refl
some_sense (Some n) = refl

pub since_is : (s : ScenarioValue) (b : Sent) (dev : ℕ) → my_since (my_book s b dev) ≡ item_want_time s b dev
since_is s b dev =
    let own : List OwnCommand = own_commands b dev 1 s.commands in
    λ i. sooner_time (aborts_since b dev 1 s.aborts i)
    (sooner_time (time_if ((ap (λ (x : Option ℕ). is_some x) (queue_is b dev s.commands)
    ∙ sym (some_sense (my_sense (mines_of b dev s.commands) b.checks))
    ∙ ap (λ (x : Option Item). is_some x) (sym (senses_are s b dev b.checks))) i) 0)
    (commands_since b.checks (open_limit_of s.hosts dev) own own i))

abort_first : (a : Option ℕ) (other : Option OwnItem)
    → item_if (abort_if a other) ≡ or_else (abort_item_if a) (item_if other)
abort_first None other = refl
abort_first (Some n) other = refl

sense_first : (n : Option ℕ) (other : Option OwnItem)
    → item_if (sense_if n other) ≡ or_else (sense_item_if n) (item_if other)
sense_first None other = refl
sense_first (Some n) other = refl

command_last : (n : Option ℕ) → item_if (command_if n) ≡ command_item_if n
command_last None = refl
command_last (Some n) = refl

pub item_is : (s : ScenarioValue) (b : Sent) (dev time : ℕ)
    → item_if (my_item (my_book s b dev) time) ≡ item_by (book_of s b dev) time
item_is s b dev time =
    let own : List OwnCommand = own_commands b dev 1 s.commands in
    let v : BookValue = my_book s b dev in
    let command : Option ℕ = mine_by v.most time (open_mines v.mines) v.mines in
    let sense : Option ℕ = my_sense v.mines v.queue in
    abort_first (my_abort_by time v.aborts) (sense_if sense (command_if command))
    ∙ (λ i. or_else (aborts_by b dev 1 time s.aborts i) (sense_first sense (command_if command) i))
    ∙ (λ i. or_else (abort_by time (own_aborts b dev 1 s.aborts)) (or_else
    ((ap (λ (n : Option ℕ). sense_item_if n) (queue_is b dev s.commands) ∙ sym (senses_are s b dev b.checks)) i)
    ((command_last command ∙ commands_by b.checks (open_limit_of s.hosts dev) time own own) i)))
