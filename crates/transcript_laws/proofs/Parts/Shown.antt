-- Which events each part of a connection shows, and that none of its items begins another.
use Rattle.transcript_laws.proofs
use proofs.Names.{ℕ, ◌≡◌, ◌∙◌, Bool, true, false, ◌&&◌, List, [], ◌∷◌, ◌++◌, refl, sym, ap, ◌||◌, append-nil}
use proofs.Names.{if◌then◌else◌, wrong', MsgIn, AccountValue, with_item, with_block, with_cdb, is_whole, arrived}
use proofs.Names.{after_in, account_after, account_after_all, name_begun, names_begun, event_shown, Name, Part, is_talk}
use proofs.{Names.{are_talk, shown_items}, Accounts.Items.{cdb_name}, Past.Events.{names_append, shown_append}}
use Rattle.bus_transcript.specs.declared.item.Item.{Item}

-- ---- the events of a part

abbrev pub part_shown : List Name → AccountValue → Part → List Item
part_shown refused a (Part.Command bytes struck left) =
    if left && is_whole (a.block ++ bytes) (a.struck || struck) then Item.Arrive a.process.name ∷ [] else []
part_shown refused a Part.StatusPhase = if a.process.shown then [] else event_shown refused (Item.Ready a.process.name)
part_shown refused a Part.Completion = Item.End a.process.name a.process.status ∷ []
part_shown refused a _ = []

-- The items of b show these events beside those of a, and begin no connection.
pub record ShowsMore (refused : List Name) (a b : AccountValue) (more : List Item) : Type 0 where
  pub shown : shown_items refused b.items ≡ shown_items refused a.items ++ more
  pub names : names_begun b.items ≡ names_begun a.items

item_more : (refused : List Name) (a : AccountValue) (item : Item) → name_begun item ≡ []
    → ShowsMore refused a (with_item a item) (event_shown refused item)
item_more refused a item none = record {
  shown = shown_append refused a.items (item ∷ [])
      ∙ ap (λ (xs : List Item). shown_items refused a.items ++ xs) (append-nil (event_shown refused item));
  names = names_append a.items (item ∷ []) ∙ ap (λ (xs : List Name). names_begun a.items ++ (xs ++ [])) none
      ∙ append-nil (names_begun a.items);
}

none_more : (refused : List Name) (a b : AccountValue) → b.items ≡ a.items → ShowsMore refused a b []
none_more refused a b same = record {
  shown = ap (λ (xs : List Item). shown_items refused xs) same ∙ sym (append-nil (shown_items refused a.items));
  names = ap (λ (xs : List Item). names_begun xs) same;
}

more_on : (refused : List Name) (a b c : AccountValue) (xs : List Item) → ShowsMore refused a b []
    → ShowsMore refused b c xs → ShowsMore refused a c xs
more_on refused a b c xs h g = record {
  shown = g.shown ∙ ap (λ (ys : List Item). ys ++ xs) (h.shown ∙ append-nil (shown_items refused a.items));
  names = g.names ∙ h.names;
}

more_same : (refused : List Name) (a b : AccountValue) (xs ys : List Item) → xs ≡ ys → ShowsMore refused a b xs
    → ShowsMore refused a b ys
more_same refused a b xs ys same h =
    record { shown = h.shown ∙ ap (λ (zs : List Item). shown_items refused a.items ++ zs) same; names = h.names }

more_if : (refused : List Name) (q : Bool) (a b c : AccountValue) (xs ys : List Item) → ShowsMore refused a b xs
    → ShowsMore refused a c ys → ShowsMore refused a (if q then b else c) (if q then xs else ys)
more_if refused true a b c xs ys h g = h
more_if refused false a b c xs ys h g = g

cdb_more : (refused : List Name) (a : AccountValue) (bytes : List ℕ) → ShowsMore refused a (with_cdb a bytes) []
cdb_more refused a [] = none_more refused a a refl
cdb_more refused a (b ∷ bytes) = item_more refused a (Item.Cdb (b ∷ bytes)) refl

cdb_whole : (a : AccountValue) (bytes : List ℕ)
    → is_whole (with_cdb a bytes).block (with_cdb a bytes).struck ≡ is_whole a.block a.struck
cdb_whole a [] = refl
cdb_whole a (b ∷ bytes) = refl

in_items : (a : AccountValue) (m : MsgIn) → (after_in a m).items ≡ a.items
in_items a MsgIn.CommandComplete = refl
in_items a _ = refl

pub part_more : (refused : List Name) (a : AccountValue) (part : Part)
    → ShowsMore refused a (account_after a part) (part_shown refused a part)
part_more refused a (Part.Out m) = item_more refused a (Item.Out m) refl
part_more refused a (Part.In m) = more_on refused a (with_item a (Item.In m)) (after_in (with_item a (Item.In m)) m) []
    (item_more refused a (Item.In m) refl) (none_more refused (with_item a (Item.In m))
    (after_in (with_item a (Item.In m)) m) (in_items (with_item a (Item.In m)) m))
part_more refused a Part.BrokenOff = none_more refused a a refl
part_more refused a (Part.Command bytes struck left) =
    let b : AccountValue = with_block a bytes struck in
    let c : AccountValue = with_cdb b bytes in
    more_same refused a (arrived c left)
    (if left && is_whole c.block c.struck then Item.Arrive c.process.name ∷ [] else [])
    (part_shown refused a (Part.Command bytes struck left))
    (λ i. if left && cdb_whole b bytes i then Item.Arrive (cdb_name b bytes i) ∷ [] else []) (more_on refused a c
    (arrived c left) (if left && is_whole c.block c.struck then Item.Arrive c.process.name ∷ [] else [])
    (more_on refused a b c [] (none_more refused a b refl) (cdb_more refused b bytes)) (more_if refused
    (left && is_whole c.block c.struck) c (with_item c (Item.Arrive c.process.name)) c (Item.Arrive c.process.name ∷ [])
    [] (item_more refused c (Item.Arrive c.process.name) refl) (none_more refused c c refl)))
part_more refused a (Part.Data out bytes) =
    let b : AccountValue = with_item a (Item.Payload out a.active bytes) in
    more_on refused a b (account_after a (Part.Data out bytes)) [] (item_more refused a
    (Item.Payload out a.active bytes) refl) (none_more refused b (account_after a (Part.Data out bytes)) refl)
part_more refused a Part.StatusPhase =
    let b : AccountValue = with_item a (Item.Ready a.process.name) in
    let h = item_more refused a (Item.Ready a.process.name) refl in
    more_if refused a.process.shown a a (record b { process = record a.process { shown = true } }) []
    (event_shown refused (Item.Ready a.process.name)) (none_more refused a a refl)
    (record { shown = h.shown; names = h.names })
part_more refused a (Part.Status byte) =
    let b : AccountValue = with_item a (Item.Status byte) in
    more_on refused a b (account_after a (Part.Status byte)) [] (item_more refused a (Item.Status byte) refl)
    (none_more refused b (account_after a (Part.Status byte)) refl)
part_more refused a Part.Completion = item_more refused a (Item.End a.process.name a.process.status) refl

-- ---- messages alone

talk_shown : (refused : List Name) (a : AccountValue) (part : Part) → is_talk part ≡ true
    → part_shown refused a part ≡ []
talk_shown refused a (Part.Out m) e = refl
talk_shown refused a (Part.In m) e = refl
talk_shown refused a Part.BrokenOff e = refl
talk_shown refused a _ e = wrong' e

pub talk_more : (refused : List Name) (a : AccountValue) (parts : List Part) → are_talk parts ≡ true
    → ShowsMore refused a (account_after_all a parts) []
talk_more refused a [] e = none_more refused a a refl
talk_more refused a (part ∷ parts) e = go (is_talk part) refl e (λ z. talk_more refused (account_after a part) parts z)
  where
    go : (q : Bool) → is_talk part ≡ q → (q && are_talk parts) ≡ true → (are_talk parts ≡ true
        → ShowsMore refused (account_after a part) (account_after_all (account_after a part) parts) [])
        → ShowsMore refused a (account_after_all (account_after a part) parts) []
    go false f z rest = wrong' z
    go true f z rest = more_on refused a (account_after a part) (account_after_all (account_after a part) parts) []
        (more_same refused a (account_after a part) (part_shown refused a part) [] (talk_shown refused a part f)
        (part_more refused a part)) (rest z)

-- ---- no item of any part begins a connection

pub parts_names : (a : AccountValue) (parts : List Part)
    → names_begun (account_after_all a parts).items ≡ names_begun a.items
parts_names a [] = refl
parts_names a (part ∷ parts) = parts_names (account_after a part) parts ∙ (part_more [] a part).names
