-- An initiator wants the bus from the time on at which an item of it stands; and its own book tells which item that is.
use Rattle.std.proofs.Common.{ℕ, ◌≡◌, ◌+◌, Bool, true, false, List, [], ◌∷◌, ◌∙◌, refl, sym, ap, arith, Option, Some}
use Rattle.std.proofs.Common.{None}
use Rattle.std.specs.Prelude.{◌==◌, ◌&&◌, ◌||◌, not, is_some, nat_le, nat_lt, length, if◌then◌else◌}
use Rattle.std.specs.List.{list_any}
use Rattle.std.proofs.lemmas.Bool.Decides.{nat_tests}
use Rattle.dialogue_model.specs.scenario.specs.declared.value.CmdDef.{CmdDef}
use Rattle.dialogue_model.specs.scenario.specs.declared.value.AbortDef.{AbortDef}
use Rattle.dialogue_model.specs.scenario.specs.Value.{ScenarioValue}
use Rattle.dialogue_model.specs.story_model.specs.Items.{Item, abort, command_item, Sent, is_done, is_open, abort_from}
use Rattle.dialogue_model.specs.story_model.specs.Items.{sense_from, command_from, open_from, may_send, open_limit_of}
use Rattle.dialogue_model.specs.story_model.specs.Items.{is_clash, or_else, item_at}
use Rattle.dialogue_model.specs.reaction_model.specs.Reactions.{sooner_time, time_if}
use Rattle.dialogue_model.specs.Wants.{OwnCommand, OwnAbort, Book, open_in, may_follow, abort_by, command_by, item_by}
use Rattle.dialogue_model.specs.Wants.{abort_since, command_since, item_since, is_reached}
use Rattle.due_model.specs.Wants.{own_command, own_commands, own_abort, own_aborts, book_of, item_want_time}
use Rattle.std.proofs.lemmas.Bool.{eqb-true}
use Rattle.bus_rules.specs.bus_base.proofs.Tests.{not_later}

-- ---- a book: since when, and which item

either_reached : (a b : Option ℕ) (time : ℕ)
    → is_reached (sooner_time a b) time ≡ (is_reached a time || is_reached b time)
either_reached None b time = refl
either_reached (Some a) None time = or_no (nat_le a time)
  where
    or_no : (q : Bool) → q ≡ (q || false)
    or_no true = refl
    or_no false = refl
either_reached (Some a) (Some b) time = grind (arith, nat_tests)

either_some : (a b : Option Item) → is_some (or_else a b) ≡ (is_some a || is_some b)
either_some None b = refl
either_some (Some a) b = refl

reached_if : (q : Bool) (at time : ℕ) → is_reached (time_if q at) time ≡ (q && nat_le at time)
reached_if true at time = refl
reached_if false at time = refl

one_abort : (due done : Bool) (item : Item) (rest : Option Item) (later : Bool) → is_some rest ≡ later
    → is_some (if due && not done then Some item else rest) ≡ (not done && due || later)
one_abort true true item rest later e = e
one_abort true false item rest later e = refl
one_abort false true item rest later e = e
one_abort false false item rest later e = e

aborts_are : (time : ℕ) (aborts : List OwnAbort) → is_some (abort_by time aborts) ≡ is_reached (abort_since aborts) time
aborts_are time [] = refl
aborts_are time (a ∷ aborts) = one_abort (nat_le a.at time) a.done (abort a.number)
    (abort_by time aborts) (is_reached (abort_since aborts) time) (aborts_are time aborts)
    ∙ ap (λ (q : Bool). q || is_reached (abort_since aborts) time) (sym (reached_if (not a.done) a.at time))
    ∙ sym (either_reached (time_if (not a.done) a.at) (abort_since aborts) time)

senses_are : (sense : Option Item) (time : ℕ) → is_some sense ≡ is_reached (time_if (is_some sense) 0) time
senses_are sense time =
    and_yes (is_some sense) (nat_le 0 time) (grind (arith, nat_tests)) ∙ sym (reached_if (is_some sense) 0 time)
  where
    and_yes : (q r : Bool) → r ≡ true → q ≡ (q && r)
    and_yes true r e = sym e
    and_yes false r e = refl

room : (due own few free : Bool) (item : Item) → own ≡ true
    → is_some (if due && few && free then Some item else None) ≡ ((own && few && free) && due)
room true true true true item e = refl
room true true true false item e = refl
room true true false free item e = refl
room false true true true item e = refl
room false true true false item e = refl
room false true false free item e = refl
room due false few free item e = cc

commands_are : (most time : ℕ) (now : List CmdDef) (own : List OwnCommand)
    → is_some (command_by most time now own) ≡ is_reached (command_since most now own) time
commands_are most time now [] = refl
commands_are most time now (o ∷ own) = go (not (o.sent || o.over)) (commands_are most time now own)
  where
    go : (q : Bool) → is_some (command_by most time now own) ≡ is_reached (command_since most now own) time
        → is_some (if q then if may_follow most time now o.def then Some (command_item o.number) else None
        else command_by most time now own) ≡ is_reached
        (if q then time_if (may_follow most o.def.at now o.def) o.def.at else command_since most now own) time
    go true e =
        let few : Bool = nat_lt (length now) most in
        let free : Bool = not (list_any (λ (d : CmdDef). is_clash o.def d) now) in
        room (nat_le o.def.at time) (nat_le o.def.at o.def.at) few free (command_item o.number) (not_later o.def.at)
        ∙ sym (reached_if (nat_le o.def.at o.def.at && few && free) o.def.at time)
    go false e = e

book_wants : (b : Book) (time : ℕ) → is_some (item_by b time) ≡ is_reached (item_since b) time
book_wants b time =
    let commands : Option Item = command_by b.most time (open_in b.commands) b.commands in
    let a : Option ℕ = abort_since b.aborts in
    let m : Option ℕ = time_if (is_some b.sense) 0 in
    let c : Option ℕ = command_since b.most (open_in b.commands) b.commands in
    either_some (abort_by time b.aborts) (or_else b.sense commands)
    ∙ (λ i. is_some (abort_by time b.aborts) || either_some b.sense commands i) ∙ (λ i. aborts_are time b.aborts i
    || (senses_are b.sense time i || commands_are b.most time (open_in b.commands) b.commands i))
    ∙ sym (either_reached a (sooner_time m c) time ∙ (λ i. is_reached a time || either_reached m c time i))

-- ---- the book of an initiator tells its items

aborts_own : (b : Sent) (dev time n : ℕ) (aborts : List AbortDef)
    → abort_from b dev time n aborts ≡ abort_by time (own_aborts b dev n aborts)
aborts_own b dev time n [] = refl
aborts_own b dev time n (a ∷ aborts) = go (a.host == dev) (aborts_own b dev time (n + 1) aborts)
  where
    go : (q : Bool) → abort_from b dev time (n + 1) aborts ≡ abort_by time (own_aborts b dev (n + 1) aborts)
        → (if q && nat_le a.at time && not (is_done b (abort n)) then Some (abort n)
        else abort_from b dev time (n + 1) aborts) ≡ abort_by time
        (if q then own_abort b n a ∷ own_aborts b dev (n + 1) aborts else own_aborts b dev (n + 1) aborts)
    go true e = λ i. if nat_le a.at time && not (is_done b (abort n)) then Some (abort n) else e i
    go false e = e

open_own : (b : Sent) (dev n : ℕ) (commands : List CmdDef)
    → open_from b dev n commands ≡ open_in (own_commands b dev n commands)
open_own b dev n [] = refl
open_own b dev n (c ∷ commands) = go (c.host == dev) (open_own b dev (n + 1) commands)
  where
    go : (q : Bool) → open_from b dev (n + 1) commands ≡ open_in (own_commands b dev (n + 1) commands)
        → (if q && is_open b n then c ∷ open_from b dev (n + 1) commands else open_from b dev (n + 1) commands)
        ≡ open_in
        (if q then own_command b n c ∷ own_commands b dev (n + 1) commands else own_commands b dev (n + 1) commands)
    go true e = λ i. if is_open b n then c ∷ e i else e i
    go false e = e

commands_own : (s : ScenarioValue) (b : Sent) (dev time n : ℕ) (commands : List CmdDef)
    → command_from s b dev time n commands
    ≡ command_by (open_limit_of s.hosts dev) time (open_from b dev 1 s.commands) (own_commands b dev n commands)
commands_own s b dev time n [] = refl
commands_own s b dev time n (c ∷ commands) = go (c.host == dev) refl (commands_own s b dev time (n + 1) commands)
  where
    go : (q : Bool) → (c.host == dev) ≡ q → command_from s b dev time (n + 1) commands ≡ command_by
        (open_limit_of s.hosts dev) time (open_from b dev 1 s.commands) (own_commands b dev (n + 1) commands)
        → (if q && not (is_done b (command_item n))
        then if may_send s time (open_from b dev 1 s.commands) c then Some (command_item n) else None
        else command_from s b dev time (n + 1) commands)
        ≡ command_by (open_limit_of s.hosts dev) time (open_from b dev 1 s.commands)
        (if q then own_command b n c ∷ own_commands b dev (n + 1) commands else own_commands b dev (n + 1) commands)
    go true own e = λ i. if not (is_done b (command_item n))
        then if may_follow (open_limit_of s.hosts (eqb-true c.host dev own i)) time (open_from b dev 1 s.commands) c
        then Some (command_item n) else None else e i
    go false own e = e

pub items_are : (s : ScenarioValue) (b : Sent) (dev time : ℕ) → item_at s b dev time ≡ item_by (book_of s b dev) time
items_are s b dev time = λ i. or_else (aborts_own b dev time 1 s.aborts i)
    (or_else (sense_from s b dev b.checks) ((commands_own s b dev time 1 s.commands
    ∙ ap (λ (now : List CmdDef). command_by (open_limit_of s.hosts dev) time now (own_commands b dev 1 s.commands))
    (open_own b dev 1 s.commands)) i))

pub wants_are : (s : ScenarioValue) (b : Sent) (dev time : ℕ)
    → is_some (item_at s b dev time) ≡ is_reached (item_want_time s b dev) time
wants_are s b dev time =
    ap (λ (x : Option Item). is_some x) (items_are s b dev time) ∙ book_wants (book_of s b dev) time
