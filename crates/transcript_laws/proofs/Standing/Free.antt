-- A row on the free bus leaves what stands as it is.
use Rattle.transcript_laws.proofs
use proofs.Names.{ℕ, ◌≡◌, ◌∙◌, Bool, true, false, not, ◌&&◌, List, [], ◌∷◌, ◌++◌, reverse, Option, Some, None, refl}
use proofs.Names.{sym, ap, subst, append-nil, is_none, if◌then◌else◌, wrong, and_first, Event, ProcId, rises, falls}
use proofs.Names.{Change, Row, Call, Calling, ScenarioValue, RowReading, row_reading, bus_state_after, CarriedBytes}
use proofs.Names.{carried_of, link_events, Item, process, has_item, Story, story_on_free_bus, story_on_bus}
use proofs.Names.{story_with_history, story_with, story_by, story, is_open_in, by_bool, free_keeps, free_over}
use proofs.Names.{names_begun, name_sent, Key, TranscriberValue, unanswered_by, unanswered_items, on_free_bus}
use proofs.Names.{under_reset, on_bus, by_change, transcribed, Name, Process, IsKept, AreNumbered, nexus_of, IsPast}
use proofs.{Names.{sent_order, StandsApart, apart, Standing, IsKeptOf, IsMarked}, Past.Events.{names_append}}
use proofs.{Past.Others.{IsOpenly, unanswered_openly, openly_past}, Standing.Buses.{reading_same, buses_alike}}
use Rattle.bus_transcript.specs.Processes.{process_of}
use Rattle.bus_transcript.specs.declared.item.Item as item_of
use Rattle.bus_transcript.specs.declared.item.Item.TheVariants as items

-- ---- the story

free_story : (s : ScenarioValue) (b : Story) (row : Row) (d : RowReading) → d.change.after.rst ≡ false
    → b.bus_state.connection ≡ None → d.next ≡ None → b.link ≡ None → story_by s b row d
    ≡ story_with_history (story_on_free_bus s b d row) (bus_state_after b.bus_state row d) [] b.history
free_story s b row d off con next link = ap (λ (shown : List Event). story_with s b row d shown)
    (λ i. if off i then (if rises d.change.own.rst d.change.next.rst then Event.Reset row.dev ∷ [] else [])
    else link_events s b (link i) d)
    ∙ (λ i. story_with_history (if off i then record b { link = None } else story_on_bus s b (con i) (next i) d row)
    (bus_state_after b.bus_state row d) [] b.history)

-- What is open was open.
pub was_open : (a b : Story) (id : ProcId) → b.sent.sent ≡ a.sent.sent
    → ((i : Item) → has_item a.sent.over i ≡ true → has_item b.sent.over i ≡ true) → is_open_in b.sent id ≡ true
    → is_open_in a.sent id ≡ true
was_open a b id same over e = by_bool (has_item a.sent.over (process id))
    (λ f. wrong (and_none (has_item b.sent.sent (process id))
    (ap (λ (q : Bool). has_item b.sent.sent (process id) && not q) (sym (over (process id) f)) ∙ e)))
    (λ f. ap (λ (q : Bool). has_item a.sent.sent (process id) && not q) f
    ∙ ap (λ (q : Bool). q && true) (ap (λ (xs : List Item). has_item xs (process id)) (sym same)
    ∙ and_first (has_item b.sent.sent (process id)) (not (has_item b.sent.over (process id))) e))
  where
    and_none : (r : Bool) → (r && false) ≡ true → true ≡ false
    and_none true z = sym z
    and_none false z = sym z

-- ---- the transcript

call_openly : (call : Option Call) (time : ℕ) → IsOpenly (unanswered_items call time) []
call_openly None time = record { names = refl; shown = λ refused sent names. refl }
call_openly (Some h) time = go h.calling
  where
    none : IsOpenly [] []
    none = record { names = refl; shown = λ refused sent names. refl }

    by_answer : (q : Bool) (called : ℕ) → IsOpenly (if q then items.Unanswered time h.caller called ∷ [] else []) []
    by_answer true called = unanswered_openly time h.caller called
    by_answer false called = none

    go : (c : Option Calling) → IsOpenly (unanswered_by h.caller c time) []
    go None = none
    go (Some c) = by_answer (is_none c.answered) c.called

-- Items that are no events, and nothing else.
record AddsNone (t u : TranscriberValue) : Type 0 where
  more : List item_of.Item
  items_are : u.items ≡ t.items ++ more
  openly : IsOpenly more []
  opened : u.opened ≡ t.opened
  processes : u.processes ≡ t.processes

free_adds : (t : TranscriberValue) (c : Change) (time : ℕ) → AddsNone t (on_free_bus t c time)
free_adds t c time = go (falls c.before.sel c.after.sel)
  where
    go : (q : Bool)
        → AddsNone t (if q then record t { items = t.items ++ unanswered_items t.bus_state.call time } else t)
    go true = record {
      more = unanswered_items t.bus_state.call time;
      items_are = refl;
      openly = call_openly t.bus_state.call time;
      opened = refl;
      processes = refl;
    }
    go false = record {
      more = [];
      items_are = sym (append-nil t.items);
      openly = record { names = refl; shown = λ refused sent names. refl };
      opened = refl;
      processes = refl;
    }

free_change : (t : TranscriberValue) (d : RowReading) (row : Row) → d.change.after.rst ≡ false
    → t.bus_state.connection ≡ None → d.next ≡ None → by_change t d row ≡ on_free_bus t d.change row.time
unfolding by_change
free_change t d row off con next = λ i. if off i then under_reset t d row else on_bus t (con i) (next i) d row

after_adds : (t : TranscriberValue) (d : RowReading) (row : Row) → d.change.after.rst ≡ false
    → t.bus_state.connection ≡ None → d.next ≡ None → AddsNone t (by_change t d row)
after_adds t d row off con next = subst (λ (u : TranscriberValue). AddsNone t u)
    (sym (free_change t d row off con next)) (free_adds t d.change row.time)

-- ---- what stands

pub free_next : (s : ScenarioValue) (rows : List Row) (row : Row)
    → (row_reading (story s rows).bus_state row).change.after.rst ≡ false
    → (story s rows).bus_state.connection ≡ None → (row_reading (story s rows).bus_state row).next ≡ None
    → AreNumbered (transcribed rows).processes (names_begun (transcribed rows).items)
    → ((id : ProcId) → IsMarked (story s rows).history (carried_of (story s rows).carried id))
    → StandsApart s (transcribed rows) (story s rows) → Standing s (row ∷ rows)
free_next s rows row off con next numbered marked h = record {
  numbered = subst (λ (x : List (Key × Process)). AreNumbered x (names_begun t'.items)) (sym g.processes)
      (subst (λ (x : List Name). AreNumbered t.processes x) (sym names) numbered);
  marked = λ id. subst (λ (x : Story). IsMarked x.history (carried_of x.carried id)) (sym story_is)
      (subst (λ (x : List CarriedBytes). IsMarked b.history (carried_of x id)) (sym keeps.0) (marked id));
  stands = apart (record {
    opened_is = g.opened ∙ h.opened_is;
    link_is = ap (λ (x : Story). x.link) story_is ∙ keeps.1 ∙ h.link_is;
    past = subst (λ (x : Story). IsPast t'.items (sent_order x) x.history) (sym story_is)
        (subst (λ (x : List Item). IsPast t'.items (reverse x) b.history) (sym keeps.2)
        (subst (λ (x : List item_of.Item). IsPast x (sent_order b) b.history) (sym g.items_are)
        (openly_past t.items g.more (sent_order b) [] b.history g.openly tt h.past)));
    kept = λ id is_open but. kept id (was_open b b' id (ap (λ (x : Story). x.sent.sent) story_is ∙ keeps.2)
        (λ i e. ap (λ (x : Story). has_item x.sent.over i) story_is ∙ free_over s b d row i e) is_open);
  });
}
  where
    t : TranscriberValue
    t = transcribed rows

    b : Story
    b = story s rows

    t' : TranscriberValue
    t' = transcribed (row ∷ rows)

    b' : Story
    b' = story s (row ∷ rows)

    d : RowReading
    d = row_reading (story s rows).bus_state row

    same : row_reading (transcribed rows).bus_state row ≡ row_reading (story s rows).bus_state row
    same = reading_same (transcribed rows).bus_state (story s rows).bus_state row (buses_alike s rows)

    story_is : story s (row ∷ rows)
        ≡ story_with_history (story_on_free_bus s (story s rows) (row_reading (story s rows).bus_state row) row)
        (bus_state_after (story s rows).bus_state row (row_reading (story s rows).bus_state row)) []
        (story s rows).history
    story_is = free_story s (story s rows) row (row_reading (story s rows).bus_state row) off con next h.link_is

    keeps : ((story_on_free_bus s (story s rows) (row_reading (story s rows).bus_state row) row).carried
        ≡ (story s rows).carried)
        × ((story_on_free_bus s (story s rows) (row_reading (story s rows).bus_state row) row).link
        ≡ (story s rows).link)
        × ((story_on_free_bus s (story s rows) (row_reading (story s rows).bus_state row) row).sent.sent
        ≡ (story s rows).sent.sent)
    keeps = free_keeps s (story s rows) (row_reading (story s rows).bus_state row) row

    g : AddsNone (transcribed rows) (by_change (transcribed rows) (row_reading (transcribed rows).bus_state row) row)
    g = after_adds (transcribed rows) (row_reading (transcribed rows).bus_state row) row
        (ap (λ (x : RowReading). x.change.after.rst) same ∙ off) ((buses_alike s rows).connection ∙ con)
        (ap (λ (x : RowReading). x.next) same ∙ next)

    names : names_begun (transcribed (row ∷ rows)).items ≡ names_begun (transcribed rows).items
    names =
        ap (λ (x : List item_of.Item). names_begun x) g.items_are
        ∙ names_append (transcribed rows).items g.more
        ∙ ap (λ (x : List Name). names_begun (transcribed rows).items ++ x) g.openly.names
        ∙ append-nil (names_begun (transcribed rows).items)

    kept : (id : ProcId) → is_open_in (story s rows).sent id ≡ true
        → IsKept s (transcribed (row ∷ rows)).processes (sent_order (story s (row ∷ rows)))
        (names_begun (transcribed (row ∷ rows)).items) (story s (row ∷ rows)).carried id
    kept id is_open =
        let x = h.kept id is_open refl in
        record {
          definition = x.definition;
          definition_is = x.definition_is;
          process = x.process;
          last_is = ap (λ (l : List (Key × Process)). process_of l (nexus_of x.definition)) g.processes ∙ x.last_is;
          named = (λ i. name_sent (reverse ((ap (λ (z : Story). z.sent.sent) story_is ∙ keeps.2) i)) (names i) id)
              ∙ x.named;
          kept = subst (λ (z : List CarriedBytes). IsKeptOf x.process (carried_of z id))
              (sym (ap (λ (z : Story). z.carried) story_is ∙ keeps.0)) x.kept;
        }
