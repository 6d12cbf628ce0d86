-- That the initiator knows the process goes on with each row of a connection.
use Rattle.book_laws.proofs
use proofs.Names.{ℕ, ◌≡◌, ◌⊎◌, inl, inr, Bool, true, false, not, ◌&&◌, ◌∙◌, List, [], ◌∷◌, ◌++◌, Option, Some, None}
use proofs.Names.{refl, sym, ap, subst, true≢false, length, cases_Bool, if◌then◌else◌, is_some, is_none, ◌%◌, nat_lt}
use proofs.Names.{◌-◌, is_message_out, is_message_in, receiver_in, Row, Change, Connection, got_in, MsgIn, MsgOut}
use proofs.Names.{ScenarioValue, CmdDef, byte_link, carried_link, events_link, fault_link, RowReading, row_reading}
use proofs.Names.{whole_in, message_in, carried_if, row_events_by, Item, Sent, Link, last_out, last_in, link_after_name}
use proofs.Names.{Story, story_with_restored, is_parity_error, story_after_out, carried_after_message_if}
use proofs.Names.{story_after_in, story_after_byte, story_after_fault, story_in_connection, story_on_bus}
use proofs.Names.{story_by_change, Exchange, message_bytes, from_byte, plan_anew, struck_plan, plan_in_message_out}
use proofs.Names.{is_name, Hearing, Leaving, Messages, still_talk, RunState, bus_of, run_state_after, hearing_of}
use proofs.Names.{leaving, serving_of, OnMessage, OnMessages, Gives, GivesNext, IsNoName, Knows, NamesServed, RowKind}
use proofs.{Names.{still, strikes, crosses, turns, IsRowIn, reading_in}, Common.InConnection.{reading_is, InConnection}}
use proofs.{Common.InConnection.{in_connection}, Given.{Heard.{heard_next}, Leavings.{IsOfOthers, left_messages}}}
use proofs.Given.Rows.{byte_messages}

-- ---- events leave the link

pub link_after : (s : ScenarioValue) (k : RunState) (row : Row) (n : Connection) (c : Change) (now : Bool)
    → IsRowIn k row n c → is_some (receiver_in n c) ≡ now → (run_state_after s k row).story.link
    ≡ (story_in_connection s k.story k.story.link (reading_in k.story.bus_state n c now) row).link
link_after s k row n c now h e =
    let d = reading_is k row n c now h e in
    events_link s (story_by_change s k.story (row_reading k.story.bus_state row) row)
    (row_events_by s k.story (row_reading k.story.bus_state row) row)
    ∙ ap (λ (x : RowReading). (story_by_change s k.story x row).link) d
    ∙ ap (λ (q : Bool). (if q then record k.story { link = None }
    else story_on_bus s k.story k.story.bus_state.connection (Some n) (reading_in k.story.bus_state n c now) row).link)
    h.calm
    ∙ ap
    (λ (x : Option Connection). (story_on_bus s k.story x (Some n) (reading_in k.story.bus_state n c now) row).link)
    h.connection_is

-- ---- what a row makes of the link

record IsLinkAfter (l m : Link) (item : Option Item) : Type 0 where
  initiator : m.initiator ≡ l.initiator
  target : m.target ≡ l.target
  item_is : m.item ≡ item

name_ends : (b : Sent) (commands : List CmdDef) (l : Link) (m : MsgIn)
    → IsLinkAfter l (link_after_name b commands l m) (link_after_name b commands l m).item
name_ends b commands l MsgIn.CommandComplete = record { initiator = refl; target = refl; item_is = refl }
name_ends b commands l _ = record { initiator = refl; target = refl; item_is = refl }

pub nameless_item : (b : Sent) (commands : List CmdDef) (l : Link) (m : MsgIn) → is_name m ≡ false
    → (link_after_name b commands l m).item ≡ l.item
nameless_item b commands l (MsgIn.Identify lun) e = absurd (true≢false e)
nameless_item b commands l (MsgIn.SimpleTag tag) e = absurd (true≢false e)
nameless_item b commands l _ e = refl

-- The link after the row, and the item of it: that of before, unless a message names one.
abbrev item_after : ScenarioValue → Story → Link → RowReading → Option Item
item_after s b l d = if d.crosses then (if is_some d.out then l.item else by_message d.into) else l.item
  where
    by_message : Option MsgIn → Option Item
    by_message None = l.item
    by_message (Some m) = (link_after_name b.sent s.commands l m).item

pub record LinkTo (s : ScenarioValue) (b after : Story) (l : Link) (item : Option Item) : Type 0 where
  pub link : Link
  pub link_is : after.link ≡ Some link
  pub initiator : link.initiator ≡ l.initiator
  pub target : link.target ≡ l.target
  pub item_is : link.item ≡ item

linked_on : (s : ScenarioValue) (b : Story) (l : Link) (d : RowReading) (row : Row) → b.link ≡ Some l
    → LinkTo s b (story_in_connection s b (Some l) d row) l (item_after s b l d)
linked_on s b l d row el = go d.crosses d.out d.into
  where
    same : (after : Story) → after.link ≡ b.link → LinkTo s b after l l.item
    same after e = record { link = l; link_is = e ∙ el; initiator = refl; target = refl; item_is = refl }

    by_in : Option MsgIn → Option Item
    by_in None = l.item
    by_in (Some m) = (link_after_name b.sent s.commands l m).item

    go : (q : Bool) (o : Option MsgOut) (m : Option MsgIn)
        → LinkTo s b (if q then (if is_some o then story_after_out b l o
        else if is_some m then story_after_in s b l m else story_after_byte b l d) else story_after_fault b l row.kind)
        l (item_after s b l (record d { crosses = q; out = o; into = m }))
    go false o m = same (story_after_fault b l row.kind) (fault_link b l row.kind)
    go true (Some o) m = record {
      link = record l { last = last_out o l };
      link_is = carried_link (record b { link = Some (record l { last = last_out o l }) })
          (if is_parity_error o then l.undo else None);
      initiator = refl;
      target = refl;
      item_is = refl;
    }
    go true None None = same (story_after_byte b l d) (byte_link b l d)
    go true None (Some m) =
        let e = name_ends b.sent s.commands l m in
        record {
          link = record
              (link_after_name b.sent s.commands l m) { last = last_in m; before = l.last; undo = carried_if b l.item };
          link_is = carried_link (record
              (if is_none l.item then story_with_restored b (link_after_name b.sent s.commands l m).item else b) {
                link = Some (record (link_after_name b.sent s.commands l m) {
                  last = last_in m;
                  before = l.last;
                  undo = carried_if b l.item;
                });
              }) (carried_after_message_if (carried_if
              (if is_none l.item then story_with_restored b (link_after_name b.sent s.commands l m).item else b)
              (link_after_name b.sent s.commands l m).item) m);
          initiator = e.initiator;
          target = e.target;
          item_is = refl;
        }

-- ---- no message is a name

pub others_nameless : IsOfOthers IsNoName
others_nameless =
    record { complete = refl; save = refl; restore = refl; disconnect = refl; sdtr = λ a. refl; reject = refl }

pub from_nameless : (m : Messages) (i : ℕ) → OnMessages IsNoName m → OnMessages IsNoName (from_byte m i)
from_nameless m i h =
    elim (cases_Bool (nat_lt i (length (message_bytes m.first)))) [ inl e ↦ rw e h | inr e ↦ rw e (h.1, tt) ]

nameless_turn : (x : Exchange) (w : Hearing) (l : Leaving) → OnMessages IsNoName x.plan.messages
    → OnMessages IsNoName l.messages → OnMessages IsNoName (still_talk true false false None w l x).plan.messages
nameless_turn x w l was next = go (is_message_out w.change.after) w.begun
  where
    refused :
        (q : Bool) → OnMessages IsNoName (if q then from_byte x.plan.messages (w.offered - 1) else x.plan.messages)
    refused true = from_nameless x.plan.messages (w.offered - 1) was
    refused false = was

    go : (o b : Bool)
        → OnMessages IsNoName (if not o then record (plan_anew x.plan) { messages = l.messages; next = l.next }
        else if b then plan_in_message_out w x.plan else plan_anew x.plan).messages
    go false b = next
    go true true = refused (is_message_in w.change.before)
    go true false = was

nameless_by : (phase now fault : Bool) (x : Exchange) (w : Hearing) (l : Leaving) → OnMessages IsNoName x.plan.messages
    → OnMessages IsNoName l.messages → OnMessages IsNoName (still_talk phase now fault None w l x).plan.messages
nameless_by true now fault x w l was next = nameless_turn x w l was next
nameless_by false true fault x w l was next = subst (λ (m : Messages). OnMessages IsNoName m)
    (sym (byte_messages (is_message_out w.change.before) w.is_last w.out x.plan)) was
nameless_by false false fault x w l was next =
    elim (cases_Bool (fault && not w.change.before.io)) [ inl e ↦ rw e was | inr e ↦ rw e was ]

-- ---- the item

-- A message that the row makes whole is, after a selection, no name.
heard_nameless : (k : RunState) (n : Connection) (c : Change) (m : MsgIn) → Gives k → GivesNext k n c
    → bus_of k ≡ c.before → is_some (receiver_in n c) ≡ true → OnMessages IsNoName k.exchange.plan.messages
    → message_in k.story.bus_state.dialogue c true ≡ Some m → is_name m ≡ false
heard_nameless k n c m g next eb er h e = go (is_message_in c.before) refl
  where
    none_some : (let a : Option MsgIn = None in a) ≡ Some m → ⊥
    none_some z = cc

    go : (q : Bool) → is_message_in c.before ≡ q → is_name m ≡ false
    go false f = absurd (none_some (sym (ap (λ (q : Bool).
        if q then whole_in (got_in (k.story.bus_state.dialogue.half ++ c.after.data_bits % 256 ∷ [])) else None) f)
        ∙ e))
    go true f =
        let y = next f er in
        let given = g.in_message_in y.2 (ap is_message_in eb ∙ f) in
        let heard = heard_next IsNoName k.exchange.plan.messages k.story.bus_state.dialogue.half k.handshakes.requests
        (c.after.data_bits % 256) g.fit h given y.0 y.1 in
        let is : whole_in (got_in (k.story.bus_state.dialogue.half ++ c.after.data_bits % 256 ∷ [])) ≡ Some m =
        sym (ap (λ (q : Bool).
        if q then whole_in (got_in (k.story.bus_state.dialogue.half ++ c.after.data_bits % 256 ∷ [])) else None) f)
        ∙ e in
        subst (λ (x : Option MsgIn). OnMessage IsNoName x) is heard

abbrev IsKnown : Connection → Option Item → Option Item → Type 0
IsKnown n item served = (item ≡ served) ⊎ ((n.reselected ≡ true) × (item ≡ None))

known_as : (n : Connection) (a b served : Option Item) → a ≡ b → IsKnown n b served → IsKnown n a served
known_as n a b served e h = subst (λ (x : Option Item). IsKnown n x served) (sym e) h

item_on : (s : ScenarioValue) (k : RunState) (row : Row) (n : Connection) (c : Change) (now : Bool) (l : Link)
    → IsRowIn k row n c → is_some (receiver_in n c) ≡ now → Gives k → GivesNext k n c → NamesServed s k row n
    → k.story.link ≡ Some l → (n.reselected ≡ false → OnMessages IsNoName k.exchange.plan.messages)
    → IsKnown n l.item k.served → IsKnown n (item_after s k.story l (reading_in k.story.bus_state n c now)) k.served
item_on s k row n c false l r er g next names el nameless h = h
item_on s k row n c true l r er g next names el nameless h =
    by (reading_in k.story.bus_state n c true).out (message_in k.story.bus_state.dialogue c true) refl
  where
    reads : (row_reading k.story.bus_state row).into ≡ message_in k.story.bus_state.dialogue c true
    reads = ap (λ (d : RowReading). d.into) (reading_is k row n c true r er)

    named : (m : MsgIn) → message_in k.story.bus_state.dialogue c true ≡ Some m → (q t : Bool) → is_name m ≡ q
        → n.reselected ≡ t → IsKnown n (link_after_name k.story.sent s.commands l m).item k.served
    named m e false t f g2 = known_as n (link_after_name k.story.sent s.commands l m).item l.item k.served
        (nameless_item k.story.sent s.commands l m f) h
    named m e true true f g2 = elim (names l m g2 el (reads ∙ e) f) [ inl z ↦ inl z | inr z ↦ inr (g2, z) ]
    named m e true false f g2 = absurd (true≢false (sym f ∙ heard_nameless k n c m g next r.bus_is er (nameless g2) e))

    by : (o : Option MsgOut) (m : Option MsgIn) → message_in k.story.bus_state.dialogue c true ≡ m
        → IsKnown n (item_after s k.story l (record (reading_in k.story.bus_state n c true) { out = o; into = m }))
        k.served
    by (Some o) m e = h
    by None None e = h
    by None (Some m) e = named m e (is_name m) n.reselected refl refl

-- ---- a row

pub knows_on : (s : ScenarioValue) (k : RunState) (row : Row) (n : Connection) (c : Change) → IsRowIn k row n c
    → Gives k → GivesNext k n c → NamesServed s k row n → Knows s k n → Knows s (run_state_after s k row) n
knows_on s k row n c r g next names h = go r.kind
  where
    to : (phase now fault : Bool) → is_some (receiver_in n c) ≡ now → InConnection s k row n c phase now fault
        → Knows s (run_state_after s k row) n
    to phase now fault en i =
        let d : RowReading = reading_in k.story.bus_state n c now in
        let made = linked_on s k.story h.link d row h.link_is in
        record {
          link = made.link;
          link_is = link_after s k row n c now r en
              ∙ ap (λ (x : Option Link). (story_in_connection s k.story x d row).link) h.link_is ∙ made.link_is;
          initiator_is = made.initiator ∙ h.initiator_is;
          target_is = made.target ∙ h.target_is;
          nameless = λ e. subst (λ (x : Exchange). OnMessages IsNoName x.plan.messages) (sym i.exchange_is) (nameless_by
              phase now fault k.exchange (hearing_of k row d) (leaving s k n.target) (h.nameless e) (left_messages
              IsNoName others_nameless (serving_of s k n.target) k.exchange.begun (bus_of k) (h.nameless e)));
          item_is = subst (λ (x : Option Item). IsKnown n made.link.item x) (sym i.served_is)
              (known_as n made.link.item (item_after s k.story h.link d) k.served made.item_is
              (item_on s k row n c now h.link r en g next names h.link_is h.nameless h.item_is));
        }

    none_crosses : receiver_in n c ≡ None → is_some (receiver_in n c) ≡ false
    none_crosses e = ap (λ (z : Option ℕ). is_some z) e

    go : RowKind row n c → Knows s (run_state_after s k row) n
    go (still ef ep er) =
        to false false false (none_crosses er) (in_connection s k row n c false false false r ep (none_crosses er) ef)
    go (strikes ef ep er) =
        to false false true (none_crosses er) (in_connection s k row n c false false true r ep (none_crosses er) ef)
    go (crosses dev ef ep er) = to false true false (ap (λ (z : Option ℕ). is_some z) er)
        (in_connection s k row n c false true false r ep (ap (λ (z : Option ℕ). is_some z) er) ef)
    go (turns ef ep er) =
        to true false false (none_crosses er) (in_connection s k row n c true false false r ep (none_crosses er) ef)
