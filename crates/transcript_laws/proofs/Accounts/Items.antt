-- What the parts make of the account of a process, one after the other, whatever items stand before theirs.
use Rattle.transcript_laws.proofs
use proofs.Names.{ℕ, ◌≡◌, ◌∙◌, Bool, true, false, List, [], ◌∷◌, ◌++◌, refl, sym, ap, ◌&&◌, append_assoc, append-nil}
use proofs.Names.{if◌then◌else◌, Connection, MsgIn, status_name, AccountValue, account_of, with_item, with_block}
use proofs.Names.{with_cdb, is_whole, arrived, after_in, account_after, account_after_all, account_parts, Name, Part}
use proofs.Names.{Process}
use Rattle.bus_transcript.specs.declared.item.Item.{Item}

pub all_after : (a : AccountValue) (xs ys : List Part)
    → account_after_all a (xs ++ ys) ≡ account_after_all (account_after_all a xs) ys
all_after a [] ys = refl
all_after a (part ∷ xs) ys = all_after (account_after a part) xs ys

-- ---- the name of its process

named_if : (q : Bool) (a b : AccountValue) (z : Name) → a.process.name ≡ z → b.process.name ≡ z
    → (if q then a else b).process.name ≡ z
named_if true a b z x y = x
named_if false a b z x y = y

pub cdb_name : (a : AccountValue) (bytes : List ℕ) → (with_cdb a bytes).process.name ≡ a.process.name
cdb_name a [] = refl
cdb_name a (b ∷ bytes) = refl

in_name : (a : AccountValue) (m : MsgIn) → (after_in a m).process.name ≡ a.process.name
in_name a MsgIn.CommandComplete = refl
in_name a _ = refl

part_name : (a : AccountValue) (part : Part) → (account_after a part).process.name ≡ a.process.name
part_name a (Part.In m) = in_name (with_item a (Item.In m)) m
part_name a (Part.Command bytes struck left) =
    let c : AccountValue = with_cdb (with_block a bytes struck) bytes in
    named_if (left && is_whole c.block c.struck) (with_item c (Item.Arrive c.process.name)) c a.process.name
    (cdb_name (with_block a bytes struck) bytes) (cdb_name (with_block a bytes struck) bytes)
part_name a Part.StatusPhase = named_if a.process.shown a (record (with_item a (Item.Ready a.process.name)) {
  process = record a.process { shown = true };
}) a.process.name refl refl
part_name a (Part.Status byte) = status_name a.status_first a.process byte
part_name a _ = refl

pub parts_name : (a : AccountValue) (parts : List Part) → (account_after_all a parts).process.name ≡ a.process.name
parts_name a [] = refl
parts_name a (part ∷ parts) = parts_name (account_after a part) parts ∙ part_name a part

-- ---- items before its own

abbrev pub behind : List Item → AccountValue → AccountValue
behind list a = record a { items = list ++ a.items }

item_behind : (list : List Item) (a : AccountValue) (item : Item)
    → with_item (behind list a) item ≡ behind list (with_item a item)
item_behind list a item = λ i. record a { items = append_assoc list a.items (item ∷ []) i }

behind_if : (list : List Item) (q : Bool) (a b c d : AccountValue) → a ≡ behind list b → c ≡ behind list d
    → (if q then a else c) ≡ behind list (if q then b else d)
behind_if list true a b c d x y = x
behind_if list false a b c d x y = y

cdb_behind : (list : List Item) (a : AccountValue) (bytes : List ℕ)
    → with_cdb (behind list a) bytes ≡ behind list (with_cdb a bytes)
cdb_behind list a [] = refl
cdb_behind list a (b ∷ bytes) = item_behind list a (Item.Cdb (b ∷ bytes))

arrived_behind : (list : List Item) (a : AccountValue) (left : Bool)
    → arrived (behind list a) left ≡ behind list (arrived a left)
arrived_behind list a left = behind_if list (left && is_whole a.block a.struck) _
    (with_item a (Item.Arrive a.process.name)) (behind list a) a (item_behind list a (Item.Arrive a.process.name)) refl

in_behind : (list : List Item) (a : AccountValue) (m : MsgIn) → after_in (behind list a) m ≡ behind list (after_in a m)
in_behind list a MsgIn.CommandComplete = refl
in_behind list a _ = refl

part_behind : (list : List Item) (a : AccountValue) (part : Part)
    → account_after (behind list a) part ≡ behind list (account_after a part)
part_behind list a (Part.Out m) = item_behind list a (Item.Out m)
part_behind list a (Part.In m) = ap (λ (x : AccountValue). after_in x m) (item_behind list a (Item.In m))
    ∙ in_behind list (with_item a (Item.In m)) m
part_behind list a Part.BrokenOff = refl
part_behind list a (Part.Command bytes struck left) =
    ap (λ (x : AccountValue). arrived x left) (cdb_behind list (with_block a bytes struck) bytes)
    ∙ arrived_behind list (with_cdb (with_block a bytes struck) bytes) left
part_behind list a (Part.Data out bytes) = λ i. record (item_behind list a (Item.Payload out a.active bytes) i) {
  active = (account_after a (Part.Data out bytes)).active;
}
part_behind list a Part.StatusPhase = behind_if list a.process.shown (behind list a) a _
    (record (with_item a (Item.Ready a.process.name)) { process = record a.process { shown = true } }) refl
    (λ i. record (item_behind list a (Item.Ready a.process.name) i) { process = record a.process { shown = true } })
part_behind list a (Part.Status byte) = λ i. record (item_behind list a (Item.Status byte) i) {
  process = (account_after a (Part.Status byte)).process;
  status_first = false;
}
part_behind list a Part.Completion = item_behind list a (Item.End a.process.name a.process.status)

parts_behind : (list : List Item) (a : AccountValue) (parts : List Part)
    → account_after_all (behind list a) parts ≡ behind list (account_after_all a parts)
parts_behind list a [] = refl
parts_behind list a (part ∷ parts) = ap (λ (x : AccountValue). account_after_all x parts) (part_behind list a part)
    ∙ parts_behind list (account_after a part) parts

-- The account of a connection: its items stand after those before, and after the one that names it.
pub account_is : (n : Connection) (c : Process) (parts : List Part) (list : List Item) → account_parts n c parts list
    ≡ behind (list ++ Item.Connect n.began c.name n.reselected ∷ []) (account_after_all (account_of c []) parts)
account_is n c parts list = (λ i. account_after_all (record (account_of c []) {
  items = sym (append-nil (list ++ Item.Connect n.began c.name n.reselected ∷ [])) i;
}) parts) ∙ parts_behind (list ++ Item.Connect n.began c.name n.reselected ∷ []) (account_of c []) parts
