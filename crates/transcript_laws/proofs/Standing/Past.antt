-- What stands of any rows makes their whole transcript: all connections show their events, and so does the one that
-- stands.
use Rattle.transcript_laws.proofs
use proofs.Names.{ℕ, ◌≡◌, ◌∙◌, ◌==◌, Bool, true, false, ◌||◌, List, [], ◌∷◌, ◌++◌, Option, Some, None, refl, sym, ap}
use proofs.Names.{subst, arith, ◌&&◌, same_Some, is_none, is_some, if◌then◌else◌, wrong, wrong', and_first, and_second}
use proofs.Names.{or_second, Event, ProcId, is_command, Connection, Row, MsgOut, ScenarioValue, CarriedBytes}
use proofs.Names.{carried_of, Item, process, abort, same_item, has_item, Story, story, none_some, by_bool, some_there}
use proofs.Names.{account_of, names_begun, name_sent, next_number, OpenedValue, settled, spoken, process_after}
use proofs.Names.{same_nexus, TranscriberValue, name_of, closed_by, closed_with, finished_if, transcribed}
use proofs.Names.{transcript_of, Name, Part, Process, Summary, are_talk, base_parts, out_parts, parts_now, summary_by}
use proofs.Names.{nexus_of, is_of, name_process, AreOwnEvents, IsPast, is_named, are_named, IsAsBegun, IsServing}
use proofs.Names.{sent_order, IsBegun, first, again, IsFrom, anew, kept, Stage, of_abort, of_none, of_process}
use proofs.Names.{StandsLinked, StandsBy, apart, linked, Standing, account_base, shown_items}
use proofs.{Parts.{Lists.{spoken_parts, spoken_keeps}, Shown.{talk_more}}, Past.Closings.{account_by, standing_shown}}
use proofs.Past.{Closings.{process_for, leaving_items, connection_items, closed_items}, Others.{quiet_past, abort_past}}
use proofs.{Past.Own.{Leaves, leaves, IsClosing, first_past, again_past}, Processes.Numbers.{same_process}}
use proofs.Serving.Talks.{talk_first}
use Rattle.bus_transcript.specs.Processes.{process_of}
use Rattle.due_model.specs.array_model.specs.Processes as array_of
use Rattle.bus_transcript.specs.declared.item.Item as item_of

-- What has a name was sent.
pub named_sent : (sent : List Item) (names : List Name) (id : ProcId) (name : Name)
    → name_sent sent names id ≡ Some name → has_item sent (process id) ≡ true
named_sent [] names id name e = none_some name e
named_sent (item ∷ sent) [] id name e = none_some name e
named_sent (item ∷ sent) (x ∷ names) id name e =
    go (same_item item (process id)) e (λ z. named_sent sent names id name z)
  where
    go : (q : Bool) → (if q then Some x else name_sent sent names id) ≡ Some name
        → (name_sent sent names id ≡ Some name → has_item sent (process id) ≡ true)
        → (q || has_item sent (process id)) ≡ true
    go true z rest = refl
    go false z rest = rest z

-- ---- the items of the connection that stands

pub standing_items : (t : TranscriberValue) (o : OpenedValue)
    → (closed_with t (settled (spoken o) false) false).items
    ≡ t.items ++ connection_items o.connection (process_for t o.connection (summary_by o.connection (parts_now o)))
    (parts_now o) false (summary_by o.connection (parts_now o))
standing_items t o = (λ i. (closed_by t ((spoken_keeps o).connection i) (spoken_parts o i) false
    (summary_by ((spoken_keeps o).connection i) (spoken_parts o i))).items)
    ∙ closed_items t o.connection (parts_now o) false (summary_by o.connection (parts_now o))

-- ---- its process

new_begun : (aborts : Bool) (o : Option Process) (name : Name) (was : Bool) (st : Option ℕ) → was ≡ false → st ≡ None
    → IsAsBegun (process_after false aborts o name) was st
new_begun aborts None name was st e f = record { shown = sym e; status = sym f }
new_begun aborts (Some c) name was st e f = record { shown = sym e; status = sym f }

pub process_new : (t : TranscriberValue) (n : Connection) (u : Summary) (was : Bool) (st : Option ℕ)
    → n.reselected ≡ false → was ≡ false → st ≡ None → IsAsBegun (process_for t n u) was st
process_new t n u was st began e f = subst (λ (q : Bool). IsAsBegun
    (process_after q (is_some u.abort) (process_of t.processes (name_of n u)) (name_of n u)) was st) (sym began)
    (new_begun (is_some u.abort) (process_of t.processes (name_of n u)) (name_of n u) was st e f)

pub process_kept : (s : ScenarioValue) (t : TranscriberValue) (n : Connection) (sum : Summary) (id : ProcId)
    (d : array_of.Process) (c : Process) → n.reselected ≡ true → is_of (name_of n sum) (array_of.process_of s id) ≡ true
    → array_of.process_of s id ≡ Some d → process_of t.processes (nexus_of d) ≡ Some c → process_for t n sum ≡ c
process_kept s t n sum id d c re named is last =
    let same : same_nexus (name_of n sum) (nexus_of d) ≡ true =
    sym (ap (λ (o : Option array_of.Process). is_of (name_of n sum) o) is) ∙ named in
    (λ i. process_after (re i) (is_some sum.abort)
    ((same_process t.processes (name_of n sum) (nexus_of d) same ∙ last) i) (name_of n sum))

-- ---- its number

next_some : (m : ℕ) → (next_number m == 0) ≡ false
next_some m = some_there (next_number m) (omega arith)

new_number : (o : Option Process) (name : Name) → ((process_after false false o name).name.number == 0) ≡ false
new_number None name = next_some 0
new_number (Some c) name = next_some c.name.number

pub own_number : (t : TranscriberValue) (n : Connection) (sum : Summary) → n.reselected ≡ false
    → is_none sum.abort ≡ true → ((process_for t n sum).name.number == 0) ≡ false
own_number t n sum began none = (λ i. (process_after (began i) (not_some sum.abort none i)
    (process_of t.processes (name_of n sum)) (name_of n sum)).name.number == 0)
    ∙ new_number (process_of t.processes (name_of n sum)) (name_of n sum)
  where
    not_some : (o : Option MsgOut) → is_none o ≡ true → is_some o ≡ false
    not_some None e = refl
    not_some (Some m) e = wrong' e

-- ---- all connections, the last of them as it is cut, or stands

abbrev pub IsAll : TranscriberValue → Story → OpenedValue → List Part → Type 0
IsAll t b o parts = IsPast (t.items ++ connection_items o.connection
    (process_for t o.connection (summary_by o.connection parts)) parts false (summary_by o.connection parts))
    (sent_order b) b.history

-- These parts show what those so far show, and name its process where more than messages has come.
pub record IsCut (s : ScenarioValue) (o : OpenedValue) (item : Option Item) (parts : List Part) : Type 0 where
  pub shown : (refused : List Name) (c : Process)
      → shown_items refused (account_by c parts).items ≡ shown_items refused (account_base o c).items
  pub plain : (id : ProcId) → item ≡ Some (process id) → is_none (summary_by o.connection parts).abort ≡ true
  pub named : (id : ProcId) → item ≡ Some (process id) → are_talk (base_parts o) ≡ false
      → name_process s o.connection parts id ≡ true

talk_none : (refused : List Name) (o : OpenedValue) (c : Process) → are_talk (base_parts o) ≡ true
    → shown_items refused (account_base o c).items ≡ []
talk_none refused o c talk = (talk_more refused (account_of c []) (base_parts o) talk).shown

quiet : (s : ScenarioValue) (t : TranscriberValue) (b : Story) (h : StandsLinked s t b) (parts : List Part)
    → IsCut s h.opened h.link.item parts → h.opened.connection.reselected ≡ true → h.conn ≡ []
    → are_talk (base_parts h.opened) ≡ true → IsAll t b h.opened parts
quiet s t b h parts cut re none talk = go h.begun
  where
    o : OpenedValue
    o = h.opened

    new : List item_of.Item
    new = connection_items o.connection (process_for t o.connection (summary_by o.connection parts)) parts false
        (summary_by o.connection parts)

    go : IsBegun b h.opened h.link h.sent → IsAll t b o parts
    go (first item began is order fresh) = wrong (sym re ∙ began)
    go (again re' order) = subst (λ (x : List Item). IsPast (t.items ++ new) x b.history)
        (sym order) (subst (λ (x : List Event). IsPast (t.items ++ new) h.sent x)
        (sym (h.history_is ∙ ap (λ (x : List Event). x ++ h.old) none)) (quiet_past o.connection
        (process_for t o.connection (summary_by o.connection parts)) parts (summary_by o.connection parts) t.items
        h.sent h.old re (λ refused p. cut.shown refused p ∙ talk_none refused o p talk) h.past))

pub closing : (s : ScenarioValue) (t : TranscriberValue) (b : Story) (h : StandsLinked s t b) (parts : List Part)
    (free : Bool) (more : List Event) (id : ProcId) (was : Bool) (st : Option ℕ) (back : CarriedBytes)
    → ((refused : List Name) (c : Process)
    → shown_items refused (account_by c parts).items ≡ shown_items refused (account_base h.opened c).items)
    → Leaves id (process_for t h.opened.connection (summary_by h.opened.connection parts)).name
    (leaving_items free (process_for t h.opened.connection (summary_by h.opened.connection parts)).name
    (summary_by h.opened.connection parts)) more
    → IsAsBegun (process_for t h.opened.connection (summary_by h.opened.connection parts)) was st
    → IsServing h.opened (is_command b.bus_state.bus) id (carried_of b.carried id) back h.conn b.history was st
    → AreOwnEvents id h.conn
    → IsClosing h.opened (is_command b.bus_state.bus) id (carried_of b.carried id) back h.conn h.old was st
    h.opened.connection (process_for t h.opened.connection (summary_by h.opened.connection parts)) parts free
    (summary_by h.opened.connection parts) more
closing s t b h parts free more id was st back shown goes begun serving own = record {
  serving = subst (λ (x : List Event). IsServing h.opened (is_command b.bus_state.bus) id
      (carried_of b.carried id) back h.conn x was st) h.history_is serving;
  begun = begun;
  own = own;
  shown = λ refused. shown refused _;
  leaves = goes;
}

pub cut_past : (s : ScenarioValue) (t : TranscriberValue) (b : Story) (h : StandsLinked s t b) (parts : List Part)
    → IsCut s h.opened h.link.item parts → IsAll t b h.opened parts
cut_past s t b h parts cut = go h.stage
  where
    o : OpenedValue
    o = h.opened

    n : Connection
    n = h.opened.connection

    sum : Summary
    sum = summary_by n parts

    c : Process
    c = process_for t n sum

    new : List item_of.Item
    new = connection_items n c parts false sum

    by_process : (id : ProcId) (was : Bool) (st : Option ℕ) (back : CarriedBytes) → h.link.item ≡ Some (process id)
        → IsServing o (is_command b.bus_state.bus) id (carried_of b.carried id) back h.conn b.history was st
        → AreOwnEvents id h.conn → (are_talk (base_parts o) ≡ true → h.conn ≡ []) → IsFrom s t b o h.sent id was st
        → IsBegun b o h.link h.sent → IsAll t b o parts
    by_process id was st back is serving own talks (anew began e f x) (again re order) = wrong (sym re ∙ began)
    by_process id was st back is serving own talks (kept re x y) (first item began i order fresh) =
        wrong (sym re ∙ began)
    by_process id was st back is serving own talks (anew began e f x) (first item began' i order fresh) =
        let same : item ≡ process id = same_Some item (process id) (sym i ∙ is) in
        subst (λ (x : List Item). IsPast (t.items ++ new) x b.history)
        (sym (order ∙ ap (λ (x : Item). h.sent ++ x ∷ []) same))
        (subst (λ (x : List Event). IsPast (t.items ++ new) (h.sent ++ process id ∷ []) x) (sym h.history_is)
        (first_past o (is_command b.bus_state.bus) id (carried_of b.carried id) back h.conn h.old was st n
        c parts false sum [] t.items h.sent began (ap (λ (x : Item). has_item h.sent x) (sym same) ∙ fresh)
        (own_number t n sum began (cut.plain id is)) (closing s t b h parts false [] id was st back cut.shown
        (leaves refl) (process_new t n sum was st began e f) serving own) h.past))
    by_process id was st back is serving own talks (kept re x y) (again re' order) = by_bool
        (are_talk (base_parts o)) (λ talk. quiet s t b h parts cut re (talks talk) talk)
        (λ talk. let own_is : c ≡ x.process = process_kept s t n sum id x.definition x.process re (cut.named id is talk)
        x.definition_is x.last_is in let called : name_sent h.sent (names_begun t.items) id ≡ Some c.name = x.named
        ∙ ap (λ (z : Process). Some z.name) (sym own_is) in
        subst (λ (z : List Item). IsPast (t.items ++ new) z b.history) (sym order)
        (subst (λ (z : List Event). IsPast (t.items ++ new) h.sent z) (sym h.history_is)
        (again_past o (is_command b.bus_state.bus) id (carried_of b.carried id) back h.conn h.old was st n c
        parts false sum [] t.items h.sent re (named_sent h.sent (names_begun t.items) id c.name called) called
        (closing s t b h parts false [] id was st back cut.shown (leaves refl)
        (subst (λ (z : Process). IsAsBegun z was st) (sym own_is) y) serving own) h.past)))

    by_abort : (m : ℕ) → h.link.item ≡ Some (abort m) → h.conn ≡ [] → are_talk (base_parts o) ≡ true
        → IsBegun b o h.link h.sent → IsAll t b o parts
    by_abort m is none talk (again re order) = quiet s t b h parts cut re none talk
    by_abort m is none talk (first item began i order fresh) =
        let same : item ≡ abort m = same_Some item (abort m) (sym i ∙ is) in
        subst (λ (x : List Item). IsPast (t.items ++ new) x b.history)
        (sym (order ∙ ap (λ (x : Item). h.sent ++ x ∷ []) same))
        (subst (λ (x : List Event). IsPast (t.items ++ new) (h.sent ++ abort m ∷ []) x)
        (sym (h.history_is ∙ ap (λ (x : List Event). x ++ h.old) none))
        (abort_past n c parts false sum m [] t.items h.sent h.old began
        (λ refused q. cut.shown refused q ∙ talk_none refused o q talk) tt (λ refused sent names. refl) h.past))

    go : Stage s t b o h.link h.sent h.conn → IsAll t b o parts
    go (of_abort m began is undo none talk x) = by_abort m is none talk h.begun
    go (of_none re none talk x y z w u v) = quiet s t b h parts cut re none talk
    go (of_process id back was st is u own_back known serving own talks from x) =
        by_process id was st back is serving own talks from h.begun

-- The connection stands.
pub stands_cut : (s : ScenarioValue) (v : OpenedValue) (item : Option Item) → is_named s v item ≡ true
    → IsCut s v item (parts_now v)
stands_cut s v item named = record {
  shown = λ refused p. standing_shown refused v p;
  plain = λ id is. and_first (is_none (summary_by v.connection (parts_now v)).abort) _ (with_item id is);
  named = λ id is talk. or_second (are_talk (parts_now v)) (name_process s v.connection (parts_now v) id)
      (and_second (is_none (summary_by v.connection (parts_now v)).abort) _ (with_item id is))
      (not_talk (are_talk (parts_now v)) refl talk);
}
  where
    with_item : (id : ProcId) → item ≡ Some (process id)
        → (is_none (summary_by v.connection (parts_now v)).abort
        && (are_talk (parts_now v) || name_process s v.connection (parts_now v) id)) ≡ true
    with_item id is = sym (ap (λ (o : Option Item). is_named s v o) is) ∙ named

    not_talk : (q : Bool) → are_talk (parts_now v) ≡ q → are_talk (base_parts v) ≡ false
        → are_talk (parts_now v) ≡ false
    not_talk true e talk = wrong (sym (talk_first (base_parts v) (out_parts v.said) e) ∙ talk)
    not_talk false e talk = e

-- ---- the transcript

pub standing_past : (s : ScenarioValue) (rows : List Row) → Standing s rows
    → are_named s (transcribed rows).opened (story s rows).link ≡ true
    → IsPast (transcript_of rows) (sent_order (story s rows)) (story s rows).history
standing_past s rows h named = go h.stands
  where
    t : TranscriberValue
    t = transcribed rows

    b : Story
    b = story s rows

    go : StandsBy s (transcribed rows) (story s rows)
        → IsPast (transcript_of rows) (sent_order (story s rows)) (story s rows).history
    go (apart x) = subst (λ (o : Option OpenedValue). IsPast (finished_if t o).items (sent_order b) b.history)
        (sym x.opened_is) x.past
    go (linked x) = subst (λ (o : Option OpenedValue). IsPast (finished_if t o).items (sent_order b) b.history)
        (sym x.opened_is) (subst (λ (list : List item_of.Item). IsPast list (sent_order b) b.history)
        (sym (standing_items t x.opened)) (cut_past s t b x (parts_now x.opened)
        (stands_cut s x.opened x.link.item (sym (λ i. are_named s (x.opened_is i) (x.link_is i)) ∙ named))))
