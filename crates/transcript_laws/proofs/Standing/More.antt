-- A row adds items to the transcript, and takes none away; and they begin at most one name.
use Rattle.transcript_laws.proofs
use proofs.Names.{ℕ, ◌≡◌, ◌∙◌, ◌+◌, ◌≤◌, Bool, true, false, List, [], ◌∷◌, ◌++◌, length, Option, Some, None, refl, sym}
use proofs.Names.{ap, arith, append_assoc, append-nil, length-append, if◌then◌else◌, is_none, falls, rises, Change}
use proofs.Names.{Connection, Row, Call, Calling, RowReading, row_reading, names_begun, no_summary, summary_of}
use proofs.Names.{OpenedValue, settled, spoken, phase_over, opened_connection, TranscriberValue, with_items, closed_by}
use proofs.Names.{closed_if, reset_items, free_items, unanswered_by, unanswered_items, under_reset, on_bus, by_change}
use proofs.{Names.{finished_if, transcribed, transcript_of, Name, Part, Summary}, Past.Closings.{process_for}}
use proofs.Past.{Closings.{connection_items, closed_items}, Events.{names_append}, Own.{connection_names}}
use Rattle.bus_transcript.specs.declared.item.Item.{Item}
use Rattle.bus_transcript.specs.Rows.{in_connection}

record HasMore (t u : TranscriberValue) : Type 0 where
  more : List Item
  items_are : u.items ≡ t.items ++ more
  one : length (names_begun more) ≤ 1

same_more : (t u : TranscriberValue) → u.items ≡ t.items → HasMore t u
same_more t u e = record { more = []; items_are = e ∙ sym (append-nil t.items); one = omega arith }

-- These begin no name.
then_more : (t u : TranscriberValue) (xs : List Item) → names_begun xs ≡ [] → HasMore t u → HasMore t (with_items u xs)
then_more t u xs none h =
    let same : length (names_begun (h.more ++ xs)) ≡ length (names_begun h.more) = ap length (names_append h.more xs
    ∙ ap (λ (list : List Name). names_begun h.more ++ list) none ∙ append-nil (names_begun h.more)) in
    let few = h.one in
    record {
      more = h.more ++ xs;
      items_are = ap (λ (list : List Item). list ++ xs) h.items_are ∙ append_assoc t.items h.more xs;
      one = omega (arith, same, few);
    }

reset_unnamed : (c : Change) (dev : ℕ) → names_begun (reset_items c dev) ≡ []
reset_unnamed c dev = go (rises c.own.rst c.next.rst)
  where
    go : (q : Bool) → names_begun (if q then Item.Reset dev ∷ [] else []) ≡ []
    go true = refl
    go false = refl

free_unnamed : (before after : Option Connection) (time : ℕ) → names_begun (free_items before after time) ≡ []
free_unnamed None after time = refl
free_unnamed (Some n) None time = refl
free_unnamed (Some n) (Some m) time = refl

unanswered_unnamed : (o : Option Call) (time : ℕ) → names_begun (unanswered_items o time) ≡ []
unanswered_unnamed None time = refl
unanswered_unnamed (Some c) time = go c.calling
  where
    by : (q : Bool) (called : ℕ) → names_begun (if q then Item.Unanswered time c.caller called ∷ [] else []) ≡ []
    by true called = refl
    by false called = refl

    go : (x : Option Calling) → names_begun (unanswered_by c.caller x time) ≡ []
    go None = refl
    go (Some y) = by (is_none y.answered) y.called

-- The name of a connection that an initiator began.
one_name : (q : Bool) (name : Name) → length (if q then [] else name ∷ []) ≤ 1
one_name true name = omega arith
one_name false name = omega arith

closing_more : (t : TranscriberValue) (n : Connection) (parts : List Part) (free : Bool) (sum : Summary)
    → HasMore t (closed_by t n parts free sum)
closing_more t n parts free sum =
    let p = process_for t n sum in
    let same : length (names_begun (connection_items n p parts free sum))
    ≡ length (if n.reselected then [] else p.name ∷ []) = ap length (connection_names n p parts free sum) in
    let few = one_name n.reselected p.name in
    record {
      more = connection_items n p parts free sum;
      items_are = closed_items t n parts free sum;
      one = omega (arith, same, few);
    }

closed_more : (t : TranscriberValue) (o : Option OpenedValue) (d : RowReading) (free : Bool)
    → HasMore t (closed_if t o d free)
closed_more t None d free = same_more t t refl
closed_more t (Some v) d free =
    let l : OpenedValue = settled (phase_over v d.change.before t.bus_state.dialogue.half false) false in
    closing_more t l.connection l.parts free (summary_of l.connection.reselected no_summary l.parts)

free_more : (t : TranscriberValue) (q : Bool) (time : ℕ)
    → HasMore t (if q then with_items t (unanswered_items t.bus_state.call time) else t)
free_more t true time = then_more t t (unanswered_items t.bus_state.call time)
    (unanswered_unnamed t.bus_state.call time) (same_more t t refl)
free_more t false time = same_more t t refl

in_more : (t : TranscriberValue) (o : Option OpenedValue) (d : RowReading) (row : Row)
    → HasMore t (in_connection t o d row.kind)
in_more t None d row = same_more t t refl
in_more t (Some v) d row = same_more t _ refl

bus_more : (t : TranscriberValue) (m o : Option Connection) (d : RowReading) (row : Row)
    → HasMore t (on_bus t m o d row)
bus_more t None None d row = free_more t (falls d.change.before.sel d.change.after.sel) row.time
bus_more t None (Some n) d row = same_more t (record t { opened = Some (opened_connection n) }) refl
bus_more t (Some m) None d row =
    then_more t (closed_if t t.opened d true) (Item.Free row.time ∷ []) refl (closed_more t t.opened d true)
bus_more t (Some m) (Some n) d row = in_more t t.opened d row

row_more : (q : Bool) (t : TranscriberValue) (d : RowReading) (row : Row)
    → HasMore t (if q then under_reset t d row else on_bus t t.bus_state.connection d.next d row)
row_more true t d row = then_more t (with_items (closed_if t t.opened d false) (reset_items d.change row.dev))
    (free_items t.bus_state.connection d.next row.time) (free_unnamed t.bus_state.connection d.next row.time)
    (then_more t (closed_if t t.opened d false) (reset_items d.change row.dev) (reset_unnamed d.change row.dev)
    (closed_more t t.opened d false))
row_more false t d row = bus_more t t.bus_state.connection d.next d row

change_more : (t : TranscriberValue) (d : RowReading) (row : Row) → HasMore t (by_change t d row)
unfolding by_change
change_more t d row = row_more d.change.after.rst t d row

names_with : (xs ys more : List Item) → ys ≡ xs ++ more
    → length (names_begun ys) ≡ length (names_begun xs) + length (names_begun more)
names_with xs ys more e = ap (λ (list : List Item). length (names_begun list)) e ∙ ap length (names_append xs more)
    ∙ length-append (names_begun xs) (names_begun more)

names_more : (xs ys more : List Item) → ys ≡ xs ++ more → length (names_begun xs) ≤ length (names_begun ys)
names_more xs ys more e = let same = names_with xs ys more e in omega (arith, same)

-- The names with it.
pub names_grow : (rows : List Row) (row : Row)
    → length (names_begun (transcribed rows).items) ≤ length (names_begun (transcribed (row ∷ rows)).items)
names_grow rows row =
    let h = change_more (transcribed rows) (row_reading (transcribed rows).bus_state row) row in
    names_more (transcribed rows).items (transcribed (row ∷ rows)).items h.more h.items_are

pub names_one : (rows : List Row) (row : Row)
    → length (names_begun (transcribed (row ∷ rows)).items) ≤ length (names_begun (transcribed rows).items) + 1
names_one rows row =
    let h = change_more (transcribed rows) (row_reading (transcribed rows).bus_state row) row in
    let same = names_with (transcribed rows).items (transcribed (row ∷ rows)).items h.more h.items_are in
    let few = h.one in
    omega (arith, same, few)

-- And with the connection that still stands.
pub names_end :
    (rows : List Row) → length (names_begun (transcribed rows).items) ≤ length (names_begun (transcript_of rows))
names_end rows = go (transcribed rows).opened
  where
    go : (o : Option OpenedValue)
        → length (names_begun (transcribed rows).items) ≤ length (names_begun (finished_if (transcribed rows) o).items)
    go None =
        names_more (transcribed rows).items (transcribed rows).items [] (sym (append-nil (transcribed rows).items))
    go (Some v) =
        let l : OpenedValue = settled (spoken v) false in
        names_more (transcribed rows).items (finished_if (transcribed rows) (Some v)).items _ (closed_items
        (transcribed rows) l.connection l.parts false (summary_of l.connection.reselected no_summary l.parts))
