-- RST cuts the connection: what stands after it.
use Rattle.transcript_laws.proofs
use proofs.Names.{ℕ, ◌≡◌, ◌∙◌, ◌<◌, Bool, true, false, not, ◌&&◌, ◌||◌, List, [], ◌∷◌, ◌++◌, length, reverse, Option}
use proofs.Names.{Some, None, refl, sym, ap, subst, ◌+◌, ◌==◌, append-nil, list_any, is_none, if◌then◌else◌, wrong}
use proofs.Names.{wrong', and_first, Event, ProcId, rises, LineSet, is_command, is_data, is_message_in, Connection, Row}
use proofs.Names.{is_nil, ScenarioValue, CmdDef, ends_keep, events_sent, RowReading, row_reading, bus_state_after}
use proofs.Names.{CarriedBytes, carried_of, link_events, Item, process, Sent, same_item, has_item, sense_item, is_open}
use proofs.Names.{Story, Ending, by_reset, story_with_over, story_with_end, story_with_ends, story_after_events}
use proofs.Names.{story_on_bus, story_with_history, story_with, story_by, story, item_is, names_begun, no_summary}
use proofs.Names.{summary_after, summary_of, OpenedValue, data_parts, phase_parts, TranscriberValue, with_items}
use proofs.Names.{free_items, under_reset, on_bus, by_change, transcribed, Name, Part, Summary, AreNumbered, parts_now}
use proofs.Names.{summary_by, is_of, IsPast, is_open_process, ends_all, is_named, closing_parts, sent_order}
use proofs.{Names.{StandsLinked, Standing, IsMarked}, Parts.Lists.{over_parts, broken_parts}}
use proofs.Past.{Closings.{closing_shown, closed_items}, Events.{names_append}, Others.{IsOpenly, reset_openly}}
use proofs.{Past.Others.{free_openly, openly_past}, Standing.Buses.{reading_same, buses_alike}}
use proofs.Standing.{Closed.{closed_numbered, closed_opened, parts_left, closed_left, left_closed}, Linked.{story_on}}
use proofs.Standing.{Over.{over_next}, Past.{IsCut, cut_past, stands_cut}}
use Rattle.due_model.specs.array_model.specs.Processes as array_of
use Rattle.bus_transcript.specs.declared.item.Item as item_of
use Rattle.bus_transcript.specs.declared.item.Item.TheVariants as items

-- ---- the names in the parts that are left

-- The same nexus is named, and the same abort.
record SameNames (a b : Summary) : Type 0 where
  unit : b.unit ≡ a.unit
  tag : b.tag ≡ a.tag
  abort : b.abort ≡ a.abort

summary_append : (again : Bool) (sum : Summary) (xs ys : List Part)
    → summary_of again sum (xs ++ ys) ≡ summary_of again (summary_of again sum xs) ys
summary_append again sum [] ys = refl
summary_append again sum (part ∷ xs) ys = summary_append again (summary_after again sum part) xs ys

broken_names : (again q : Bool) (sum : Summary)
    → SameNames sum (summary_of again sum (if q then Part.BrokenOff ∷ [] else []))
broken_names again true sum = record { unit = refl; tag = refl; abort = refl }
broken_names again false sum = record { unit = refl; tag = refl; abort = refl }

data_summary : (again out : Bool) (sum : Summary) (bytes : List ℕ) → summary_of again sum (data_parts out bytes) ≡ sum
data_summary again out sum [] = refl
data_summary again out sum (b ∷ bytes) = refl

phase_summary : (again q r out struck left : Bool) (sum : Summary) (bytes : List ℕ)
    → summary_of again sum (if q then Part.Command bytes struck left ∷ [] else if r then data_parts out bytes else [])
    ≡ sum
phase_summary again true r out struck left sum bytes = refl
phase_summary again false true out struck left sum bytes = data_summary again out sum bytes
phase_summary again false false out struck left sum bytes = refl

closing_names : (o : OpenedValue) (lines : LineSet) (half : List ℕ)
    → SameNames (summary_by o.connection (parts_now o)) (summary_by o.connection (closing_parts o lines half))
closing_names o lines half =
    let again : Bool = o.connection.reselected in
    let sum : Summary = summary_by o.connection (parts_now o) in
    let g = broken_names again (is_message_in lines && not (is_nil half)) sum in
    let e : summary_by o.connection (closing_parts o lines half) ≡ summary_of again sum (broken_parts lines half) =
    ap (λ (parts : List Part). summary_of again no_summary parts) (over_parts o lines half false)
    ∙ summary_append again no_summary (parts_now o ++ broken_parts lines half) (phase_parts o lines false)
    ∙ phase_summary again (is_command lines) (is_data lines) (not lines.io) o.struck false
    (summary_of again no_summary (parts_now o ++ broken_parts lines half)) o.bytes
    ∙ summary_append again no_summary (parts_now o) (broken_parts lines half) in
    record {
      unit = ap (λ (x : Summary). x.unit) e ∙ g.unit;
      tag = ap (λ (x : Summary). x.tag) e ∙ g.tag;
      abort = ap (λ (x : Summary). x.abort) e ∙ g.abort;
    }

-- So it is cut where the connection so far is named.
cut_left : (s : ScenarioValue) (o : OpenedValue) (item : Option Item) (lines : LineSet) (half : List ℕ)
    → is_named s o item ≡ true → IsCut s o item (closing_parts o lines half)
cut_left s o item lines half named =
    let g = stands_cut s o item named in
    let e = closing_names o lines half in
    record {
      shown = λ refused p. closing_shown refused o lines half p;
      plain = λ id is. ap is_none e.abort ∙ g.plain id is;
      named = λ id is talk. (λ i. is_of (record {
        initiator = o.connection.initiator;
        target = o.connection.target;
        unit = e.unit i;
        tag = e.tag i;
        number = 0;
      }) (array_of.process_of s id)) ∙ g.named id is talk;
    }

-- ---- the row

pub record CutRow (s : ScenarioValue) (rows : List Row) (row : Row)
    (h : StandsLinked s (transcribed rows) (story s rows)) : Type 0 where
  pub on : (row_reading (story s rows).bus_state row).change.after.rst ≡ true
  pub rst : rises (row_reading (story s rows).bus_state row).change.own.rst
      (row_reading (story s rows).bus_state row).change.next.rst
      ≡ true
  pub over : ends_all s (story s rows) ≡ true
  pub named : is_named s h.opened h.link.item ≡ true
  pub less : length (names_begun (transcribed rows).items) < 4294967290
  pub numbered : AreNumbered (transcribed rows).processes (names_begun (transcribed rows).items)
  pub marked : (x : ProcId) → IsMarked (story s rows).history (carried_of (story s rows).carried x)

pub reset_change : (t : TranscriberValue) (d : RowReading) (row : Row) → d.change.after.rst ≡ true
    → by_change t d row ≡ under_reset t d row
unfolding by_change
reset_change t d row on = λ i. if on i then under_reset t d row else on_bus t t.bus_state.connection d.next d row

abbrev pub resets_of : RowReading → Row → List Event
resets_of d row = if rises d.change.own.rst d.change.next.rst then Event.Reset row.dev ∷ [] else []

pub reset_story : (s : ScenarioValue) (b : Story) (row : Row) (d : RowReading) → d.change.after.rst ≡ true
    → story_by s b row d ≡ story_with_history (story_after_events s (record b { link = None }) (resets_of d row))
    (bus_state_after b.bus_state row d) (resets_of d row) b.history
reset_story s b row d on = ap (λ (shown : List Event). story_with s b row d shown)
    (λ i. if on i then resets_of d row else link_events s b b.link d)
    ∙ (λ i. story_with_history (story_after_events s
    (if on i then record b { link = None } else story_on_bus s b b.bus_state.connection d.next d row) (resets_of d row))
    (bus_state_after b.bus_state row d) (resets_of d row) b.history)

pub frees_openly : (before after : Option Connection) (time : ℕ) → IsOpenly (free_items before after time) []
frees_openly None after time = record { names = refl; shown = λ refused sent names. refl }
frees_openly (Some n) None time = free_openly time
frees_openly (Some n) (Some m) time = record { names = refl; shown = λ refused sent names. refl }

-- A test that nothing in a list passes fails of what is in it.
pub unlisted : (f : Item → Bool) (list : List Item) (x : ProcId) → not (list_any f list) ≡ true
    → has_item list (process x) ≡ true → f (process x) ≡ false
unlisted f [] x none has = wrong' has
unlisted f (item ∷ list) x none has = go (same_item item (process x)) refl has none (λ z w. unlisted f list x z w)
  where
    fails : (r q : Bool) → not (r || q) ≡ true → r ≡ false
    fails true q z = wrong' z
    fails false q z = refl

    second : (r q : Bool) → not (r || q) ≡ true → not q ≡ true
    second true q z = wrong' z
    second false q z = z

    go : (q : Bool) → same_item item (process x) ≡ q
        → (q || has_item list (process x)) ≡ true → not (f item || list_any f list) ≡ true
        → (not (list_any f list) ≡ true → has_item list (process x) ≡ true → f (process x) ≡ false)
        → f (process x) ≡ false
    go true e h g rest = ap f (sym (item_is item (process x) e)) ∙ fails (f item) (list_any f list) g
    go false e h g rest = rest (second (f item) (list_any f list) g) h

-- What a reset ends is the same whether the link is there.
ends_same : (drops stops : CmdDef → Bool) (e : Ending) (m : ℕ) (commands : List CmdDef) (b c : Story) → b.sent ≡ c.sent
    → (story_with_ends drops stops e m commands b).sent ≡ (story_with_ends drops stops e m commands c).sent
ends_same drops stops e m [] b c h = h
ends_same drops stops e m (x ∷ commands) b c h =
    ends_same drops stops e (m + 1) commands (after b) (after c) ((λ i. (after (record b { sent = h i })).sent)
    ∙ go (is_open c.sent m && drops x) (stops x && list_any (λ k. k == m) c.sent.checks))
  where
    after : Story → Story
    after a =
        if is_open a.sent m && drops x then story_with_end a (record { command = m; sense = false }) e
        else if stops x && list_any (λ k. k == m) a.sent.checks then story_with_over a (sense_item m)
        else a

    go : (q r : Bool) → (if q then story_with_end (record b { sent = c.sent }) (record { command = m; sense = false }) e
        else if r then story_with_over (record b { sent = c.sent }) (sense_item m) else record b { sent = c.sent }).sent
        ≡ (if q then story_with_end c (record { command = m; sense = false }) e
        else if r then story_with_over c (sense_item m) else c).sent
    go true r = refl
    go false true = refl
    go false false = refl

-- ---- what stands

pub cut_next : (s : ScenarioValue) (rows : List Row) (row : Row) (h : StandsLinked s (transcribed rows) (story s rows))
    → CutRow s rows row h → Standing s (row ∷ rows)
cut_next s rows row h r = over_next s rows row u (free_items (transcribed rows).bus_state.connection
    (row_reading (transcribed rows).bus_state row).next row.time) c shown (record {
      transcript_is = reset_change (transcribed rows) dt row (ap (λ (d : RowReading). d.change.after.rst) same ∙ r.on)
          ∙ (λ i. with_items
          (with_items (left_closed s rows row h false i) (if rst_path i then items.Reset row.dev ∷ [] else []))
          (free_items (transcribed rows).bus_state.connection dt.next row.time));
      story_is = reset_story s (story s rows) row (row_reading (story s rows).bus_state row) r.on
          ∙ (λ i. story_on s rows row (story_after_events s (record (story s rows) { link = None })
          (if r.rst i then Event.Reset row.dev ∷ [] else [])) (if r.rst i then Event.Reset row.dev ∷ [] else []));
      opened = closed_opened (transcribed rows) n parts false sum;
      link = keeps.1;
      numbered = subst (λ (names : List Name). AreNumbered closed.processes names)
          (sym (names_append closed.items (items.Reset row.dev ∷ []) ∙ append-nil (names_begun closed.items)))
          (closed_numbered (transcribed rows) n parts false sum r.less r.numbered);
      openly = frees_openly (transcribed rows).bus_state.connection dt.next row.time;
      past = subst (λ (sent : List Item). IsPast (closed.items ++ items.Reset row.dev ∷ []) sent
          (Event.Reset row.dev ∷ (story s rows).history)) (sym order)
          (openly_past closed.items (items.Reset row.dev ∷ []) (sent_order (story s rows))
          (Event.Reset row.dev ∷ []) (story s rows).history (reset_openly row.dev) (tt, tt)
          (subst (λ (list : List item_of.Item). IsPast list (sent_order (story s rows)) (story s rows).history)
          (sym (closed_items (transcribed rows) n parts false sum))
          (cut_past s (transcribed rows) (story s rows) h parts (cut_left s h.opened h.link.item
          (story s rows).bus_state.bus (story s rows).bus_state.dialogue.half r.named))));
      marked = λ x.
          let m = subst (λ (all : List CarriedBytes). IsMarked (story s rows).history (carried_of all x))
          (sym keeps.0) (r.marked x) in
          record { refused = m.refused; shown = m.shown; apart = m.apart; saved = m.saved };
      kept = λ x o no. wrong (sym o ∙ unlisted (λ item. is_open_process c.sent item) c.sent.sent x none_open
          (and_first (has_item c.sent.sent (process x)) (not (has_item c.sent.over (process x))) o));
    })
  where
    n : Connection
    n = h.opened.connection

    parts : List Part
    parts = parts_left s rows h.opened

    sum : Summary
    sum = summary_by h.opened.connection (parts_left s rows h.opened)

    closed : TranscriberValue
    closed = closed_left s rows h.opened false

    u : TranscriberValue
    u = with_items (closed_left s rows h.opened false) (items.Reset row.dev ∷ [])

    shown : List Event
    shown = Event.Reset row.dev ∷ []

    c : Story
    c = story_after_events s (record (story s rows) { link = None }) (Event.Reset row.dev ∷ [])

    dt : RowReading
    dt = row_reading (transcribed rows).bus_state row

    same : row_reading (transcribed rows).bus_state row ≡ row_reading (story s rows).bus_state row
    same = reading_same (transcribed rows).bus_state (story s rows).bus_state row (buses_alike s rows)

    rst_path : rises (row_reading (transcribed rows).bus_state row).change.own.rst
        (row_reading (transcribed rows).bus_state row).change.next.rst
        ≡ true
    rst_path = ap (λ (d : RowReading). rises d.change.own.rst d.change.next.rst) same ∙ r.rst

    keeps : ((story_after_events s (record (story s rows) { link = None }) (Event.Reset row.dev ∷ [])).carried
        ≡ (story s rows).carried)
        × ((story_after_events s (record (story s rows) { link = None }) (Event.Reset row.dev ∷ [])).link ≡ None)
    keeps = ends_keep (λ x. true) (λ x. true) by_reset 1 s.commands (record (story s rows) { link = None })

    order : sent_order c ≡ sent_order (story s rows)
    order = ap (λ (list : List Item). reverse list) (events_sent s (record (story s rows) { link = None }) shown)

    none_open : not (list_any (λ item. is_open_process c.sent item) c.sent.sent) ≡ true
    none_open = ap (λ (sent : Sent). not (list_any (λ item. is_open_process sent item) sent.sent)) (ends_same
        (λ x. true) (λ x. true) by_reset 1 s.commands (record (story s rows) { link = None }) (story s rows) refl)
        ∙ r.over
