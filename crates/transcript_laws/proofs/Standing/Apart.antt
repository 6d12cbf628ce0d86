-- No connection is shown, and the row begins none: RST, or what the bus still has of a connection that RST has cut.
use Rattle.transcript_laws.proofs
use proofs.Names.{◌≡◌, ◌∙◌, Bool, true, false, List, [], ◌∷◌, ◌++◌, reverse, Option, Some, None, refl, sym, ap, subst}
use proofs.Names.{append-nil, if◌then◌else◌, Event, ProcId, rises, Connection, Row, ScenarioValue, ends_keep}
use proofs.Names.{RowReading, row_reading, bus_state_after, CarriedBytes, carried_of, link_events, Item, Link, Story}
use proofs.Names.{by_reset, story_after_events, story_in_connection, story_on_bus, story_with_history, story_with}
use proofs.Names.{story_by, story, Grows, grows_same, events_grow, names_begun, TranscriberValue, with_items, closed_if}
use proofs.Names.{free_items, under_reset, on_bus, by_change, transcribed, Name, AreNumbered, AreEventsSent, IsPast}
use proofs.{Names.{sent_order, AreKept, no_process, StandsApart, Standing, IsMarked}, Past.Events.{names_append}}
use proofs.{Past.Others.{IsOpenly, reset_openly, free_openly, openly_past}, Standing.Buses.{reading_same, buses_alike}}
use proofs.Standing.{Cuts.{reset_change, reset_story, frees_openly}, Linked.{story_on, grown_opens}, Open.{alike_self}}
use proofs.Standing.{Open.{kept_on}, Over.{over_next}}
use Rattle.bus_transcript.specs.Rows.{in_connection}
use Rattle.bus_transcript.specs.declared.item.Item as item_of
use Rattle.bus_transcript.specs.declared.item.Item.TheVariants as items

-- ---- what stays

pub record ApartRow (s : ScenarioValue) (rows : List Row) : Type 0 where
  pub numbered : AreNumbered (transcribed rows).processes (names_begun (transcribed rows).items)
  pub marked : (x : ProcId) → IsMarked (story s rows).history (carried_of (story s rows).carried x)
  pub stands : StandsApart s (transcribed rows) (story s rows)

-- The row adds items that begin nothing, and the story has the same carried.
record Adds (s : ScenarioValue) (rows : List Row) (row : Row) (new more : List item_of.Item) (c : Story)
    (shown : List Event) : Type 0 where
  transcript_is : by_change (transcribed rows) (row_reading (transcribed rows).bus_state row) row
      ≡ with_items (with_items (transcribed rows) new) more
  story_is : story s (row ∷ rows) ≡ story_on s rows row c shown
  openly : IsOpenly new shown
  free : IsOpenly more []
  sent : AreEventsSent (sent_order (story s rows)) shown
  link : c.link ≡ None
  carried : c.carried ≡ (story s rows).carried
  grows : Grows (story s rows).sent c.sent
  marks : (x : CarriedBytes) → IsMarked (story s rows).history x → IsMarked (shown ++ (story s rows).history) x

adds_next :
    (s : ScenarioValue) (rows : List Row) (row : Row) (new more : List item_of.Item) (c : Story) (shown : List Event)
    → ApartRow s rows → Adds s rows row new more c shown → Standing s (row ∷ rows)
adds_next s rows row new more c shown r g =
    over_next s rows row (with_items (transcribed rows) new) more c shown (record {
      transcript_is = g.transcript_is;
      story_is = g.story_is;
      opened = r.stands.opened_is;
      link = g.link;
      numbered = subst (λ (list : List Name). AreNumbered (transcribed rows).processes list) (sym names) r.numbered;
      openly = g.free;
      past = subst (λ (sent : List Item). IsPast ((transcribed rows).items ++ new) sent
          (shown ++ (story s rows).history)) (sym order) (openly_past (transcribed rows).items new
          (sent_order (story s rows)) shown (story s rows).history g.openly g.sent r.stands.past);
      marked = λ x. g.marks (carried_of c.carried x)
          (subst (λ (all : List CarriedBytes). IsMarked (story s rows).history (carried_of all x)) (sym g.carried)
          (r.marked x));
      kept = subst (λ (sent : List Item). AreKept s (with_items (transcribed rows) new) c sent no_process)
          (sym order) (kept_on s (transcribed rows) (with_items (transcribed rows) new)
          (story s rows) c (sent_order (story s rows)) no_process
          (record { processes = refl; names = names; opens = λ x o. grown_opens (story s rows) c g.grows x o })
          (λ x no. alike_self _ _ (ap (λ (all : List CarriedBytes). carried_of all x) (sym g.carried))) r.stands.kept);
    })
  where
    names : names_begun ((transcribed rows).items ++ new) ≡ names_begun (transcribed rows).items
    names =
        names_append (transcribed rows).items new
        ∙ ap (λ (list : List Name). names_begun (transcribed rows).items ++ list) g.openly.names
        ∙ append-nil (names_begun (transcribed rows).items)

    order : sent_order c ≡ sent_order (story s rows)
    order = ap (λ (list : List Item). reverse list) g.grows.sent

none_openly : IsOpenly [] []
none_openly = record { names = refl; shown = λ refused sent names. refl }

with_none : (t : TranscriberValue) → t ≡ with_items t []
with_none t = λ i. record t { items = sym (append-nil t.items) i }

same_for : (s : ScenarioValue) (rows : List Row) (row : Row)
    → row_reading (transcribed rows).bus_state row ≡ row_reading (story s rows).bus_state row
same_for s rows row = reading_same (transcribed rows).bus_state (story s rows).bus_state row (buses_alike s rows)

-- ---- RST is true after the row

pub reset_next : (s : ScenarioValue) (rows : List Row) (row : Row) → ApartRow s rows
    → (row_reading (story s rows).bus_state row).change.after.rst ≡ true → Standing s (row ∷ rows)
reset_next s rows row r on = go (rises (row_reading (story s rows).bus_state row).change.own.rst
    (row_reading (story s rows).bus_state row).change.next.rst) refl
  where
    dt : RowReading
    dt = row_reading (transcribed rows).bus_state row

    b : Story
    b = story s rows

    quiet : Story
    quiet = record (story s rows) { link = None }

    frees : List item_of.Item
    frees =
        free_items (transcribed rows).bus_state.connection (row_reading (transcribed rows).bus_state row).next row.time

    is : (q : Bool) → rises (row_reading (story s rows).bus_state row).change.own.rst
        (row_reading (story s rows).bus_state row).change.next.rst ≡ q
        → by_change (transcribed rows) (row_reading (transcribed rows).bus_state row) row
        ≡ with_items (with_items (transcribed rows) (if q then items.Reset row.dev ∷ [] else [])) frees
    is q e =
        reset_change (transcribed rows) dt row (ap (λ (d : RowReading). d.change.after.rst) (same_for s rows row) ∙ on)
        ∙ (λ i. with_items (with_items (closed_if (transcribed rows) (r.stands.opened_is i) dt false)
        (if (ap (λ (d : RowReading). rises d.change.own.rst d.change.next.rst) (same_for s rows row) ∙ e) i
        then items.Reset row.dev ∷ [] else [])) frees)

    told : (q : Bool) → rises (row_reading (story s rows).bus_state row).change.own.rst
        (row_reading (story s rows).bus_state row).change.next.rst ≡ q
        → story s (row ∷ rows) ≡ story_on s rows row
        (story_after_events s (record (story s rows) { link = None }) (if q then Event.Reset row.dev ∷ [] else []))
        (if q then Event.Reset row.dev ∷ [] else [])
    told q e = reset_story s b row (row_reading b.bus_state row) on
        ∙ (λ i. story_on s rows row (story_after_events s quiet (if e i then Event.Reset row.dev ∷ [] else []))
        (if e i then Event.Reset row.dev ∷ [] else []))

    go : (q : Bool) → rises (row_reading (story s rows).bus_state row).change.own.rst
        (row_reading (story s rows).bus_state row).change.next.rst ≡ q
        → Standing s (row ∷ rows)
    go true e =
        let keeps = ends_keep (λ x. true) (λ x. true) by_reset 1 s.commands quiet in
        adds_next s rows row (items.Reset row.dev ∷ []) frees (story_after_events s quiet (Event.Reset row.dev ∷ []))
        (Event.Reset row.dev ∷ []) r (record {
          transcript_is = is true e;
          story_is = told true e;
          openly = reset_openly row.dev;
          free = frees_openly (transcribed rows).bus_state.connection dt.next row.time;
          sent = (tt, tt);
          link = keeps.1;
          carried = keeps.0;
          grows = events_grow s quiet (Event.Reset row.dev ∷ []);
          marks = λ x m. record { refused = m.refused; shown = m.shown; apart = m.apart; saved = m.saved };
        })
    go false e =
        adds_next s rows row [] frees quiet [] r (record {
          transcript_is = is false e;
          story_is = told false e;
          openly = none_openly;
          free = frees_openly (transcribed rows).bus_state.connection dt.next row.time;
          sent = tt;
          link = refl;
          carried = refl;
          grows = grows_same b.sent b.sent refl;
          marks = λ x m. m;
        })

-- ---- RST is false after the row, and the bus has a connection that is not shown

lingers_story : (s : ScenarioValue) (b : Story) (row : Row) (d : RowReading) (m : Connection)
    → d.change.after.rst ≡ false → b.bus_state.connection ≡ Some m → b.link ≡ None → story_by s b row d
    ≡ story_with_history (story_on_bus s b (Some m) d.next d row) (bus_state_after b.bus_state row d) [] b.history
lingers_story s b row d m off con link = ap (λ (shown : List Event). story_with s b row d shown)
    (λ i. if off i then (if rises d.change.own.rst d.change.next.rst then Event.Reset row.dev ∷ [] else [])
    else link_events s b (link i) d)
    ∙ (λ i. story_with_history (if off i then record b { link = None } else story_on_bus s b (con i) d.next d row)
    (bus_state_after b.bus_state row d) [] b.history)

lingers_change : (t : TranscriberValue) (d : RowReading) (row : Row) (m : Connection) → d.change.after.rst ≡ false
    → t.bus_state.connection ≡ Some m → by_change t d row ≡ on_bus t (Some m) d.next d row
unfolding by_change
lingers_change t d row m off con = λ i. if off i then under_reset t d row else on_bus t (con i) d.next d row

pub lingers_next : (s : ScenarioValue) (rows : List Row) (row : Row) (m : Connection) → ApartRow s rows
    → (row_reading (story s rows).bus_state row).change.after.rst ≡ false → (story s rows).bus_state.connection ≡ Some m
    → Standing s (row ∷ rows)
lingers_next s rows row m r off con = go (row_reading (story s rows).bus_state row).next refl
  where
    dt : RowReading
    dt = row_reading (transcribed rows).bus_state row

    b : Story
    b = story s rows

    change : by_change (transcribed rows) (row_reading (transcribed rows).bus_state row) row
        ≡ on_bus (transcribed rows) (Some m) (row_reading (transcribed rows).bus_state row).next
        (row_reading (transcribed rows).bus_state row) row
    change = lingers_change (transcribed rows) dt row m
        (ap (λ (d : RowReading). d.change.after.rst) (same_for s rows row) ∙ off)
        ((buses_alike s rows).connection ∙ con)

    next : (o : Option Connection) → (row_reading (story s rows).bus_state row).next ≡ o
        → (row_reading (transcribed rows).bus_state row).next ≡ o
    next o e = ap (λ (d : RowReading). d.next) (same_for s rows row) ∙ e

    go : (o : Option Connection) → (row_reading (story s rows).bus_state row).next ≡ o → Standing s (row ∷ rows)
    go None e =
        adds_next s rows row [] (items.Free row.time ∷ []) (record b { link = None }) [] r (record {
          transcript_is = change ∙ (λ i. on_bus (transcribed rows) (Some m) (next None e i) dt row) ∙ (λ i. with_items
              (closed_if (transcribed rows) (r.stands.opened_is i) dt true) (items.Free row.time ∷ []))
              ∙ ap (λ (t : TranscriberValue). with_items t (items.Free row.time ∷ [])) (with_none (transcribed rows));
          story_is = lingers_story s b row (row_reading b.bus_state row) m off con r.stands.link_is
              ∙ (λ i. story_on s rows row (story_on_bus s b (Some m) (e i) (row_reading b.bus_state row) row) []);
          openly = none_openly;
          free = free_openly row.time;
          sent = tt;
          link = refl;
          carried = refl;
          grows = grows_same b.sent b.sent refl;
          marks = λ x y. y;
        })
    go (Some n) e =
        adds_next s rows row [] [] b [] r (record {
          transcript_is = change ∙ (λ i. on_bus (transcribed rows) (Some m) (next (Some n) e i) dt row)
              ∙ (λ i. in_connection (transcribed rows) (r.stands.opened_is i) dt row.kind)
              ∙ with_none (transcribed rows) ∙ with_none (with_items (transcribed rows) []);
          story_is = lingers_story s b row (row_reading b.bus_state row) m off con r.stands.link_is
              ∙ (λ i. story_on s rows row (story_on_bus s b (Some m) (e i) (row_reading b.bus_state row) row) [])
              ∙ ap (λ (l : Option Link). story_on s rows row
              (story_in_connection s b l (row_reading b.bus_state row) row) []) r.stands.link_is;
          openly = none_openly;
          free = none_openly;
          sent = tt;
          link = r.stands.link_is;
          carried = refl;
          grows = grows_same b.sent b.sent refl;
          marks = λ x y. y;
        })
