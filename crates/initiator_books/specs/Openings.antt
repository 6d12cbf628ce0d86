-- What an initiator says first for an item of its own, by its book.
use Rattle.std.specs.Prelude.{ℕ, ◌++◌, ◌%◌, ◌==◌, Bool, true, false, not, List, [], ◌∷◌, Option, Some, None}
use Rattle.std.specs.Prelude.{if◌then◌else◌}
use Rattle.msg_grammar.specs.declared.MsgOut.TheVariants as to_target
use Rattle.msg_grammar.specs.Messages.{out_bytes}
use Rattle.scenario.specs.declared.value.HostDef.{HostDef}
use Rattle.scenario.specs.declared.value.Tag.{Tag}
use Rattle.scenario.specs.declared.value.Tag.TheVariants as tags
use Rattle.due_model.specs.dialogue_model.specs.Words.{tag_bytes, offer_if, abort_bytes}
use Rattle.initiator_books.specs.declared.mine.Mine.{Mine}
use Rattle.initiator_books.specs.declared.mine.MyAbort.{MyAbort}
use Rattle.initiator_books.specs.declared.mine.OwnItem.{OwnItem}
use Rattle.initiator_books.specs.declared.mine.OwnItem.TheVariants as own
use Rattle.initiator_books.specs.Books.{BookValue}

abbrev pub mine_at : List Mine → ℕ → Option Mine
mine_at [] n = None
mine_at (m ∷ mines) n = if m.number == n then Some m else mine_at mines n

abbrev pub my_abort_at : List MyAbort → ℕ → Option MyAbort
my_abort_at [] n = None
my_abort_at (a ∷ aborts) n = if a.number == n then Some a else my_abort_at aborts n

-- An automatic REQUEST SENSE is untagged.
abbrev pub tag_of : Bool → Tag → Tag
tag_of true tag = tags.Untagged
tag_of false tag = tag

abbrev pub opening_for : Option HostDef → Bool → Bool → ℕ → Tag → List ℕ
opening_for h negotiates sense unit tag =
    out_bytes (to_target.Identify (not sense) unit) ++ (tag_bytes (tag_of sense tag) ++ offer_if negotiates h)

-- IDENTIFY has room for a unit of 0 to 7.
abbrev pub mine_opening : Option HostDef → Bool → Bool → Option Mine → List ℕ
mine_opening h negotiates sense None = []
mine_opening h negotiates sense (Some m) = opening_for h negotiates sense (m.unit % 8) m.tag

abbrev pub my_abort_opening : Option MyAbort → List ℕ
my_abort_opening None = []
my_abort_opening (Some a) = out_bytes (to_target.Identify false (a.unit % 8)) ++ abort_bytes a.what

abbrev pub opening_by : Option HostDef → Bool → BookValue → Option OwnItem → List ℕ
opening_by h negotiates v None = []
opening_by h negotiates v (Some (own.Command n)) = mine_opening h negotiates false (mine_at v.mines n)
opening_by h negotiates v (Some (own.Sense n)) = mine_opening h negotiates true (mine_at v.mines n)
opening_by h negotiates v (Some (own.Abort n)) = my_abort_opening (my_abort_at v.aborts n)
