-- What an initiator says first for an item of its own is what the scenario has it say.
use Rattle.std.proofs.Common.{ℕ, suc, zero, ◌≡◌, ◌+◌, ◌<◌, Bool, true, false, List, [], ◌∷◌, ◌∙◌, refl, sym, arith}
use Rattle.std.proofs.Common.{Option, Some, None}
use Rattle.std.specs.Prelude.{if◌then◌else◌, ◌==◌, ◌%◌, ◌++◌, map}
use Rattle.std.proofs.lemmas.Bool.{ne_eqb, eq-eqb}
use Rattle.msg_grammar.specs.declared.MsgOut.TheVariants as to_target
use Rattle.msg_grammar.specs.Messages.{out_bytes}
use Rattle.scenario.specs.declared.value.CmdDef.{CmdDef}
use Rattle.scenario.specs.declared.value.AbortDef.{AbortDef}
use Rattle.scenario.specs.declared.value.HostDef.{HostDef}
use Rattle.scenario.specs.Value.{ScenarioValue}
use Rattle.array_model.specs.Processes.{command_at, process_if}
use Rattle.story_model.specs.HistoryEvents.{abort_line_at}
use Rattle.story_model.specs.Items.{Sent, is_of_host}
use Rattle.due_model.specs.dialogue_model.specs.Words.{process_opening, abort_opening, abort_bytes}
use Rattle.due_model.specs.Defs.{opening, host_of}
use Rattle.due_model.specs.Wants.{own_command, own_commands}
use Rattle.scsi_device.specs.Lines.{AreUnits}
use Rattle.initiator_books.specs.declared.mine.OwnItem.{OwnItem}
use Rattle.initiator_books.specs.declared.mine.OwnItem.TheVariants as own
use Rattle.initiator_books.specs.Mines.{mine_of, mines_of, my_abort, my_aborts}
use Rattle.initiator_books.specs.Books.{my_book, item_if}
use Rattle.initiator_books.specs.Wishes.{is_abort_of, IsItemIf}
use Rattle.initiator_books.specs.Openings.{mine_at, my_abort_at, opening_for, mine_opening, my_abort_opening}
use Rattle.initiator_books.specs.Openings.{opening_by}
use Rattle.initiator_books.proofs.Foreign.{no_host_first, no_line_first}

abbrev def_opening : Option HostDef → Bool → Bool → Option CmdDef → List ℕ
def_opening h negotiates sense None = []
def_opening h negotiates sense (Some c) = opening_for h negotiates sense (c.unit % 8) c.tag

from_mines : (h : Option HostDef) (x sense : Bool) (b : Sent) (dev k : ℕ) (commands : List CmdDef) (j n : ℕ)
    → n ≡ j + k → is_of_host (command_at commands (suc j)) dev ≡ true
    → mine_opening h x sense (mine_at (map (mine_of b.checks) (own_commands b dev k commands)) n)
    ≡ def_opening h x sense (command_at commands (suc j))
from_mines h x sense b dev k [] j n e own = cc
from_mines h x sense b dev k (c ∷ commands) zero n e own = (λ i. mine_opening h x sense (mine_at (map (mine_of b.checks)
    (if own i then own_command b k c ∷ own_commands b dev (k + 1) commands else own_commands b dev (k + 1) commands))
    n))
    ∙ (λ i. mine_opening h x sense (if eq-eqb k n (omega (arith, e)) i then Some (mine_of b.checks (own_command b k c))
    else mine_at (map (mine_of b.checks) (own_commands b dev (k + 1) commands)) n))
from_mines h x sense b dev k (c ∷ commands) (suc j) n e own =
    go (from_mines h x sense b dev (k + 1) commands j n (omega (arith, e)) own) (c.host == dev)
  where
    go : mine_opening h x sense (mine_at (map (mine_of b.checks) (own_commands b dev (k + 1) commands)) n)
        ≡ def_opening h x sense (command_at commands (suc j))
        → (q : Bool) → mine_opening h x sense (mine_at (map (mine_of b.checks)
        (if q then own_command b k c ∷ own_commands b dev (k + 1) commands else own_commands b dev (k + 1) commands)) n)
        ≡ def_opening h x sense (command_at commands (suc j))
    go r true = (λ i. mine_opening h x sense
        (if ne_eqb k n (λ z. omega (arith, z, e)) i then Some (mine_of b.checks (own_command b k c))
        else mine_at (map (mine_of b.checks) (own_commands b dev (k + 1) commands)) n))
        ∙ r
    go r false = r

mines_say : (h : Option HostDef) (x sense : Bool) (b : Sent) (dev : ℕ) (commands : List CmdDef) (n : ℕ)
    → is_of_host (command_at commands n) dev ≡ true
    → mine_opening h x sense (mine_at (mines_of b dev commands) n) ≡ def_opening h x sense (command_at commands n)
mines_say h x sense b dev commands zero own = none_some (sym (no_host_first commands dev) ∙ own)
  where
    none_some : false ≡ true
        → mine_opening h x sense (mine_at (mines_of b dev commands) 0) ≡ def_opening h x sense (command_at commands 0)
    none_some z = cc
mines_say h x sense b dev commands (suc j) own = from_mines h x sense b dev 1 commands j (suc j) (omega arith) own

low : (n : ℕ) → n < 8 → n % 8 ≡ n
low n l = omega arith

process_says : (s : ScenarioValue) (h : Option HostDef) (x sense : Bool) (n : ℕ) (c : Option CmdDef)
    → ((d : CmdDef) → c ≡ Some d → d.unit < 8)
    → def_opening h x sense c ≡ process_opening h x (process_if s (record { command = n; sense = sense }) c)
process_says s h x sense n None u = refl
process_says s h x true n (Some c) u = λ i. opening_for h x true (low c.unit (u c refl) i) c.tag
process_says s h x false n (Some c) u = λ i. opening_for h x false (low c.unit (u c refl) i) c.tag

abbrev line_opening : Option AbortDef → List ℕ
line_opening None = []
line_opening (Some a) = out_bytes (to_target.Identify false (a.unit % 8)) ++ abort_bytes a.what

from_aborts : (b : Sent) (dev k : ℕ) (aborts : List AbortDef) (j n : ℕ)
    → n ≡ j + k → is_abort_of (abort_line_at aborts (suc j)) dev ≡ true
    → my_abort_opening (my_abort_at (my_aborts b dev k aborts) n) ≡ line_opening (abort_line_at aborts (suc j))
from_aborts b dev k [] j n e own = cc
from_aborts b dev k (a ∷ aborts) zero n e own = (λ i. my_abort_opening
    (my_abort_at (if own i then my_abort b k a ∷ my_aborts b dev (k + 1) aborts else my_aborts b dev (k + 1) aborts) n))
    ∙ (λ i. my_abort_opening
    (if eq-eqb k n (omega (arith, e)) i then Some (my_abort b k a) else my_abort_at (my_aborts b dev (k + 1) aborts) n))
from_aborts b dev k (a ∷ aborts) (suc j) n e own =
    go (from_aborts b dev (k + 1) aborts j n (omega (arith, e)) own) (a.host == dev)
  where
    go : my_abort_opening (my_abort_at (my_aborts b dev (k + 1) aborts) n) ≡ line_opening (abort_line_at aborts (suc j))
        → (q : Bool) → my_abort_opening
        (my_abort_at (if q then my_abort b k a ∷ my_aborts b dev (k + 1) aborts else my_aborts b dev (k + 1) aborts) n)
        ≡ line_opening (abort_line_at aborts (suc j))
    go r true = (λ i. my_abort_opening (if ne_eqb k n (λ z. omega (arith, z, e)) i then Some (my_abort b k a)
        else my_abort_at (my_aborts b dev (k + 1) aborts) n))
        ∙ r
    go r false = r

aborts_say : (b : Sent) (dev : ℕ) (aborts : List AbortDef) (n : ℕ) → is_abort_of (abort_line_at aborts n) dev ≡ true
    → my_abort_opening (my_abort_at (my_aborts b dev 1 aborts) n) ≡ line_opening (abort_line_at aborts n)
aborts_say b dev aborts zero own = none_some (sym (no_line_first aborts dev) ∙ own)
  where
    none_some : false ≡ true
        → my_abort_opening (my_abort_at (my_aborts b dev 1 aborts) 0) ≡ line_opening (abort_line_at aborts 0)
    none_some z = cc
aborts_say b dev aborts (suc j) own = from_aborts b dev 1 aborts j (suc j) (omega arith) own

line_says : (a : Option AbortDef) → ((d : AbortDef) → a ≡ Some d → d.unit < 8) → line_opening a ≡ abort_opening a
line_says None u = refl
line_says (Some a) u = λ i. out_bytes (to_target.Identify false (low a.unit (u a refl) i)) ++ abort_bytes a.what

pub opening_is : (s : ScenarioValue) (b : Sent) (dev : ℕ) (x : Bool) (i : Option OwnItem) → AreUnits s
    → IsItemIf s dev (item_if i) → opening_by (host_of s dev) x (my_book s b dev) i ≡ opening s dev x (item_if i)
opening_is s b dev x None u h = refl
opening_is s b dev x (Some (own.Command n)) u h = mines_say (host_of s dev) x false b dev s.commands n h
    ∙ process_says s (host_of s dev) x false n (command_at s.commands n) (u.commands n)
opening_is s b dev x (Some (own.Sense n)) u h = mines_say (host_of s dev) x true b dev s.commands n h
    ∙ process_says s (host_of s dev) x true n (command_at s.commands n) (u.commands n)
opening_is s b dev x (Some (own.Abort n)) u h =
    aborts_say b dev s.aborts n h ∙ line_says (abort_line_at s.aborts n) (u.aborts n)
