-- A row with which a connection goes on: the transcript and the story after it, and what stands of both.
use Rattle.transcript_laws.proofs
use proofs.Names.{◌≡◌, ◌∙◌, Bool, true, false, not, ◌&&◌, ◌||◌, List, [], ◌∷◌, ◌++◌, reverse, Option, Some, None, refl}
use proofs.Names.{sym, ap, subst, append_assoc, is_some, if◌then◌else◌, Event, ProcId, rises, LineSet, is_command}
use proofs.Names.{is_data, is_message_in, is_message_out, Change, Connection, Row, ScenarioValue, RowReading}
use proofs.Names.{row_reading, bus_state_after, CarriedBytes, carried_of, is_status_phase, connection_events}
use proofs.Names.{bus_free_events, link_events, Item, Link, Story, story_after_events, story_in_connection}
use proofs.Names.{story_on_bus, story_with_history, story_with, story_by, story, SamePhase, is_open_in, none_some}
use proofs.Names.{Grows, names_begun, OpenedValue, with_row, TranscriberValue, under_reset, on_bus, by_change, with_bus}
use proofs.Names.{transcribed, AreNumbered, IsBegun, first, again, Stage, StandsLinked, StandsBy, linked, Standing}
use proofs.{Names.{IsMarked}, Standing.{Buses.{reading_same, buses_alike}, Free.{was_open}, Open.{SameBooks}}}
use proofs.Standing.Opened.{row_same}
use Rattle.bus_transcript.specs.Rows.{in_connection}

-- ---- the phase lines stay

pub record SameLines (a b : LineSet) : Type 0 where
  pub command : is_command b ≡ is_command a
  pub data_phase : is_data b ≡ is_data a
  pub status : is_status_phase b ≡ is_status_phase a
  pub out : is_message_out b ≡ is_message_out a
  pub into : is_message_in b ≡ is_message_in a

pub same_lines : (a b : LineSet) → SamePhase a b → SameLines a b
same_lines a b h = record {
  command = λ i. not (h.msg i) && h.cd i && not (h.io i);
  data_phase = λ i. not (h.msg i) && not (h.cd i);
  status = λ i. not (h.msg i) && h.cd i && h.io i;
  out = λ i. h.msg i && h.cd i && not (h.io i);
  into = λ i. h.msg i && h.cd i && h.io i;
}

-- ---- the transcript

in_change : (t : TranscriberValue) (d : RowReading) (row : Row) (m n : Connection) (v : OpenedValue)
    → d.change.after.rst ≡ false → t.bus_state.connection ≡ Some m → d.next ≡ Some n → t.opened ≡ Some v
    → by_change t d row ≡ record t { opened = Some (with_row v t.bus_state d row.kind) }
unfolding by_change
in_change t d row m n v off con next opened =
    (λ i. if off i then under_reset t d row else on_bus t (con i) (next i) d row)
    ∙ ap (λ (o : Option OpenedValue). in_connection t o d row.kind) opened

-- ---- the story

in_story : (s : ScenarioValue) (b : Story) (row : Row) (d : RowReading) (m n : Connection) (l : Link)
    → d.change.after.rst ≡ false → b.bus_state.connection ≡ Some m → d.next ≡ Some n → b.link ≡ Some l
    → story_by s b row d
    ≡ story_with_history (story_after_events s (story_in_connection s b (Some l) d row) (connection_events s b l d))
    (bus_state_after b.bus_state row d) (connection_events s b l d) b.history
in_story s b row d m n l off con next link = ap (λ (shown : List Event). story_with s b row d shown)
    ((λ i. if off i then (if rises d.change.own.rst d.change.next.rst then Event.Reset row.dev ∷ [] else [])
    else link_events s b (link i) d)
    ∙ (λ i. if is_some (next i) then connection_events s b l d else bus_free_events s l l.last))
    ∙ (λ i. story_with_history (story_after_events s
    (if off i then record b { link = None } else story_on_bus s b (con i) (next i) d row) (connection_events s b l d))
    (bus_state_after b.bus_state row d) (connection_events s b l d) b.history)
    ∙ (λ i. story_with_history
    (story_after_events s (story_in_connection s b (link i) d row) (connection_events s b l d))
    (bus_state_after b.bus_state row d) (connection_events s b l d) b.history)

-- ---- both after the row

abbrev pub transcript_on : List Row → Row → OpenedValue → TranscriberValue
transcript_on rows row o =
    with_bus (record (transcribed rows) { opened = Some o }) row (row_reading (transcribed rows).bus_state row)

abbrev pub story_on : ScenarioValue → List Row → Row → Story → List Event → Story
story_on s rows row c shown = story_with_history c (bus_state_after (story s rows).bus_state row
    (row_reading (story s rows).bus_state row)) shown (story s rows).history

-- RST is false after the row, and the connection stands.
pub record IsOn (s : ScenarioValue) (rows : List Row) (row : Row) (n : Connection) : Type 0 where
  pub off : (row_reading (story s rows).bus_state row).change.after.rst ≡ false
  pub next : (row_reading (story s rows).bus_state row).next ≡ Some n

pub change_on : (s : ScenarioValue) (rows : List Row) (row : Row) (h : StandsLinked s (transcribed rows) (story s rows))
    → IsOn s rows row h.opened.connection
    → by_change (transcribed rows) (row_reading (transcribed rows).bus_state row) row ≡ record (transcribed rows) {
      opened = Some (with_row h.opened (story s rows).bus_state (row_reading (story s rows).bus_state row) row.kind);
    }
change_on s rows row h on =
    let w = buses_alike s rows in
    let same = reading_same (transcribed rows).bus_state (story s rows).bus_state row w in
    ap (λ (d : RowReading). by_change (transcribed rows) d row) same
    ∙ in_change (transcribed rows) (row_reading (story s rows).bus_state row) row h.opened.connection
    h.opened.connection h.opened on.off (w.connection ∙ h.connection_is) on.next h.opened_is
    ∙ ap (λ (o : OpenedValue). record (transcribed rows) { opened = Some o }) (row_same h.opened
    (transcribed rows).bus_state (story s rows).bus_state (row_reading (story s rows).bus_state row) row.kind w)

pub story_is_on :
    (s : ScenarioValue) (rows : List Row) (row : Row) (h : StandsLinked s (transcribed rows) (story s rows))
    → IsOn s rows row h.opened.connection → story s (row ∷ rows) ≡ story_on s rows row (story_after_events s
    (story_in_connection s (story s rows) (Some h.link) (row_reading (story s rows).bus_state row) row)
    (connection_events s (story s rows) h.link (row_reading (story s rows).bus_state row)))
    (connection_events s (story s rows) h.link (row_reading (story s rows).bus_state row))
story_is_on s rows row h on = in_story s (story s rows) row (row_reading (story s rows).bus_state row)
    h.opened.connection h.opened.connection h.link on.off h.connection_is on.next h.link_is

-- With no event.
pub story_quiet :
    (s : ScenarioValue) (rows : List Row) (row : Row) (h : StandsLinked s (transcribed rows) (story s rows))
    → IsOn s rows row h.opened.connection
    → connection_events s (story s rows) h.link (row_reading (story s rows).bus_state row) ≡ []
    → story s (row ∷ rows) ≡ story_on s rows row
    (story_in_connection s (story s rows) (Some h.link) (row_reading (story s rows).bus_state row) row) []
story_quiet s rows row h on none = story_is_on s rows row h on
    ∙ ap (λ (shown : List Event). story_on s rows row (story_after_events s
    (story_in_connection s (story s rows) (Some h.link) (row_reading (story s rows).bus_state row) row) shown) shown)
    none

-- ---- what stands

pub grown_opens : (b c : Story) → Grows b.sent c.sent → (x : ProcId) → is_open_in c.sent x ≡ true
    → is_open_in b.sent x ≡ true
grown_opens b c g x o = was_open b c x g.sent g.over o

pub books_on : (s : ScenarioValue) (rows : List Row) (row : Row) (v : OpenedValue) (c : Story) (shown : List Event)
    → Grows (story s rows).sent c.sent
    → SameBooks (transcribed rows) (transcript_on rows row v) (story s rows) (story_on s rows row c shown)
books_on s rows row v c shown g =
    record { processes = refl; names = refl; opens = λ x o. grown_opens (story s rows) c g x o }

-- What the row makes of both.
pub record Makes (s : ScenarioValue) (rows : List Row) (row : Row) (o : OpenedValue) (c : Story) (shown : List Event) :
    Type 0 where
  pub transcript_is : by_change (transcribed rows) (row_reading (transcribed rows).bus_state row) row
      ≡ record (transcribed rows) { opened = Some o }
  pub story_is : story s (row ∷ rows) ≡ story_on s rows row c shown

-- What stands after it.
pub record Stands (s : ScenarioValue) (rows : List Row) (row : Row)
    (h : StandsLinked s (transcribed rows) (story s rows)) (o : OpenedValue) (l : Link) (c : Story)
    (shown : List Event) : Type 0 where
  pub connection : o.connection ≡ h.opened.connection
  pub link : c.link ≡ Some l
  pub sent : c.sent.sent ≡ (story s rows).sent.sent
  pub item : h.opened.connection.reselected ≡ false → l.item ≡ h.link.item
  pub marked : (x : ProcId) → IsMarked (shown ++ (story s rows).history) (carried_of c.carried x)
  pub stage : Stage s (transcript_on rows row o) (story_on s rows row c shown) o l h.sent (shown ++ h.conn)
  pub bytes : (is_command (row_reading (story s rows).bus_state row).change.after
      || is_data (row_reading (story s rows).bus_state row).change.after) ≡ false
      → o.bytes ≡ []
  pub said : is_message_out (row_reading (story s rows).bus_state row).change.after ≡ false → o.said ≡ []
  pub crossed : (x : Change) → (if (row_reading (story s rows).bus_state row).crosses
      then Some (row_reading (story s rows).bus_state row).change else None) ≡ Some x
      → is_command x.before ≡ is_command (row_reading (story s rows).bus_state row).change.after
  pub undone : (u : CarriedBytes) → l.undo ≡ Some u → o.since ≡ [] → IsMarked (shown ++ (story s rows).history) u

pub linked_next : (s : ScenarioValue) (rows : List Row) (row : Row)
    (h : StandsLinked s (transcribed rows) (story s rows)) (o : OpenedValue) (l : Link) (c : Story) (shown : List Event)
    → AreNumbered (transcribed rows).processes (names_begun (transcribed rows).items)
    → IsOn s rows row h.opened.connection → Makes s rows row o c shown → Stands s rows row h o l c shown
    → Standing s (row ∷ rows)
linked_next s rows row h o l c shown numbered on g x = record {
  numbered =
      subst (λ (z : TranscriberValue). AreNumbered z.processes (names_begun z.items)) (sym g.transcript_is) numbered;
  marked = λ id. subst (λ (z : Story). IsMarked z.history (carried_of z.carried id)) (sym g.story_is) (x.marked id);
  stands = subst (λ (z : TranscriberValue). StandsBy s
      (with_bus z row (row_reading (transcribed rows).bus_state row)) (story s (row ∷ rows))) (sym g.transcript_is)
      (subst (λ (z : Story). StandsBy s (transcript_on rows row o) z) (sym g.story_is) (linked (record {
        opened = o;
        link = l;
        opened_is = refl;
        link_is = x.link;
        connection_is = on.next ∙ ap (λ (n : Connection). Some n) (sym x.connection);
        sent = h.sent;
        old = h.old;
        conn = shown ++ h.conn;
        history_is = ap (λ (list : List Event). shown ++ list) h.history_is ∙ sym (append_assoc shown h.conn h.old);
        past = h.past;
        begun = begun h.begun;
        stage = x.stage;
        bytes = x.bytes;
        said = x.said;
        crossed = x.crossed;
        undone = x.undone;
      })));
}
  where
    begun : IsBegun (story s rows) h.opened h.link h.sent → IsBegun (story_on s rows row c shown) o l h.sent
    begun (first item began is order fresh) = first item (ap (λ (n : Connection). n.reselected) x.connection ∙ began)
        (x.item began ∙ is) (ap (λ (list : List Item). reverse list) x.sent ∙ order) fresh
    begun (again re order) = again (ap (λ (n : Connection). n.reselected) x.connection ∙ re)
        (ap (λ (list : List Item). reverse list) x.sent ∙ order)

-- No byte crosses in it.
pub uncrossed : {A : Type 0} (s : ScenarioValue) (rows : List Row) (row : Row)
    → (row_reading (story s rows).bus_state row).crosses ≡ false → (x : Change)
    → (if (row_reading (story s rows).bus_state row).crosses then Some (row_reading (story s rows).bus_state row).change
    else None) ≡ Some x → A
uncrossed s rows row none x e = none_some x
    (sym (ap (λ (q : Bool). if q then Some (row_reading (story s rows).bus_state row).change else None) none) ∙ e)

-- ---- rows with no event

-- What stays of the connection.
pub record Keeps (t t' : TranscriberValue) (b b' : Story) (o k' : OpenedValue) (l l' : Link) : Type 0 where
  pub same : SameBooks t t' b b'
  pub connection : k'.connection ≡ o.connection
  pub command : is_command b'.bus_state.bus ≡ is_command b.bus_state.bus
  pub status : is_status_phase b'.bus_state.bus ≡ is_status_phase b.bus_state.bus
  pub item : l'.item ≡ l.item
  pub undo : l'.undo ≡ l.undo
