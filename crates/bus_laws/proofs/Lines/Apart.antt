-- What a row of lines does to the wishes of the devices, where no connection stands before it or after it.
use Rattle.bus_laws.proofs
use proofs.Names.{ℕ, ◌≡◌, ◌<◌, Bool, true, false, not, ◌&&◌, ◌∙◌, List, [], ◌∷◌, Option, None, refl, ap, if◌then◌else◌}
use proofs.Names.{is_none, and_more, Event, rises, falls, change_of, LineSet, connection_after, drives, bus, Row}
use proofs.Names.{Arbitration, Change, Call, ScenarioValue, is_initiator, calling_link, RowReading, change_by}
use proofs.Names.{row_reading, row_events_by, link_events, Link, Story, is_arbitration_entry, story_with_aim}
use proofs.Names.{story_after_calling, story_on_free_bus, story_on_bus, story_by_change, run_state_plain, bus_state_is}
use proofs.Names.{change_same, AreOfDevices, RunState, or_start, run_state, run_state_with_events, want_time, ready_of}
use proofs.Names.{ready_among, ready_time, seek_of, item_want_time, Stands, change_to, row_of_lines}
use proofs.Lines.Rows.{change_is}

-- What a row that shows nothing leaves of what is sent, of aims, of the link, of the array and of its times.
pub record Leaves (k j : RunState) (b : Story) : Type 0 where
  pub sent : j.story.sent ≡ b.sent
  pub aims : j.story.aims ≡ b.aims
  pub link : j.story.link ≡ b.link
  pub array : j.array ≡ k.array
  pub current : j.current_since ≡ k.current_since

pub nothing_shown : (s : ScenarioValue) (b : Story) (d : RowReading) (row : Row) → d.change.after.rst ≡ false
    → b.link ≡ None → row_events_by s b d row ≡ []
nothing_shown s b d row e f =
    ap (λ (q : Bool). if q then (if rises d.change.own.rst d.change.next.rst then Event.Reset row.dev ∷ [] else [])
    else link_events s b b.link d) e ∙ ap (λ (x : Option Link). link_events s b x d) f

pub on_free : (s : ScenarioValue) (b : Story) (d : RowReading) (row : Row) → d.change.after.rst ≡ false
    → b.bus_state.connection ≡ None → d.next ≡ None → story_by_change s b d row ≡ story_on_free_bus s b d row
on_free s b d row e f g =
    ap (λ (q : Bool). if q then record b { link = None } else story_on_bus s b b.bus_state.connection d.next d row) e
    ∙ (λ i. story_on_bus s b (f i) (g i) d row)

leaves_by : (s : ScenarioValue) (k : RunState) (row : Row) (d : RowReading) → d.change.after.rst ≡ false
    → k.story.bus_state.connection ≡ None → d.next ≡ None → k.story.link ≡ None
    → Leaves k (run_state_with_events s k row d (row_events_by s k.story d row)) (story_on_free_bus s k.story d row)
leaves_by s k row d e f g h =
    let z : row_events_by s k.story d row ≡ [] = nothing_shown s k.story d row e h in
    let b : story_by_change s k.story d row ≡ story_on_free_bus s k.story d row = on_free s k.story d row e f g in
    record {
      sent = ap (λ (x : List Event). (run_state_with_events s k row d x).story.sent) z ∙ ap (λ (y : Story). y.sent) b;
      aims = ap (λ (x : List Event). (run_state_with_events s k row d x).story.aims) z ∙ ap (λ (y : Story). y.aims) b;
      link = ap (λ (x : List Event). (run_state_with_events s k row d x).story.link) z ∙ ap (λ (y : Story). y.link) b;
      array = ap (λ (x : List Event). (run_state_with_events s k row d x).array) z;
      current = ap (λ (x : List Event). (run_state_with_events s k row d x).current_since) z;
    }

-- ---- a row that enters, and one that does not and leaves SEL as it was

pub record KeepsWishes (s : ScenarioValue) (p q : List Row) : Type 0 where
  pub wants : (dev : ℕ) → want_time s (run_state s q) dev ≡ want_time s (run_state s p) dev
  pub ready : (dev : ℕ) → ready_of s (run_state s q) dev ≡ ready_of s (run_state s p) dev
  pub link : (run_state s q).story.link ≡ None

pub change_plain : (s : ScenarioValue) (row : Row) (p : List Row) → AreOfDevices p → row.dev < 8
    → (row_reading (run_state s p).story.bus_state row).change ≡ change_of p row
change_plain s row p h lt =
    let pl = run_state_plain s p h in
    ap (λ (b : Story). change_by b.bus_state row) pl.story ∙ change_same row p _ (bus_state_is s p h) lt

-- Such a row, by what it changes.
pub record GoesApart (s : ScenarioValue) (p : List Row) (row : Row) (g : Change) (b : LineSet) (a : Option Arbitration)
    (c : Option Call) : Type 0 where
  pub devices : AreOfDevices p
  pub below : row.dev < 8
  pub stands : Stands p b a c None
  pub link : (run_state s p).story.link ≡ None
  pub change : change_of p row ≡ g
  pub calm : g.after.rst ≡ false
  pub alone : connection_after None c g row ≡ None

read_change :
    (s : ScenarioValue) (p : List Row) (row : Row) (g : Change) (b : LineSet) (a : Option Arbitration) (c : Option Call)
    → GoesApart s p row g b a c → (row_reading (run_state s p).story.bus_state row).change ≡ g
read_change s p row g b a c w = change_plain s row p w.devices w.below ∙ w.change

no_connection :
    (s : ScenarioValue) (p : List Row) (row : Row) (g : Change) (b : LineSet) (a : Option Arbitration) (c : Option Call)
    → GoesApart s p row g b a c → (run_state s p).story.bus_state.connection ≡ None
no_connection s p row g b a c w = (run_state_plain s p w.devices).connection ∙ w.stands.connection_is

apart_leaves :
    (s : ScenarioValue) (p : List Row) (row : Row) (g : Change) (b : LineSet) (a : Option Arbitration) (c : Option Call)
    → GoesApart s p row g b a c → Leaves (run_state s p) (run_state s (row ∷ p))
    (story_on_free_bus s (run_state s p).story (row_reading (run_state s p).story.bus_state row) row)
apart_leaves s p row g b a c w =
    let k = run_state s p in
    let pl = run_state_plain s p w.devices in
    let e = read_change s p row g b a c w in
    let con = no_connection s p row g b a c w in
    let next : (row_reading k.story.bus_state row).next ≡ None =
    (λ i. connection_after (con i) ((pl.call ∙ w.stands.call_is) i) (e i) row) ∙ w.alone in
    leaves_by s k row (row_reading k.story.bus_state row) (ap (λ (x : Change). x.after.rst) e ∙ w.calm) con next w.link

abbrev pub free_by : ScenarioValue → Story → Row → Bool → Bool → Option Call → Story
free_by s b row entering falling call =
    if entering then story_with_aim s b row else if falling then story_after_calling s b call else b

-- Wants go by what is sent, and by the array.
wants_on : (s : ScenarioValue) (k j : RunState) → j.story.sent ≡ k.story.sent → j.array ≡ k.array
    → j.current_since ≡ k.current_since → (dev : ℕ) → want_time s j dev ≡ want_time s k dev
wants_on s k j es ea ec dev = λ i. if is_initiator s.hosts dev then item_want_time s (es i) dev
    else ready_time (ready_among (or_start s (ea i)) (ec i) (seek_of s.targets dev) dev)

ready_on : (s : ScenarioValue) (k j : RunState) → j.array ≡ k.array → j.current_since ≡ k.current_since
    → (dev : ℕ) → ready_of s j dev ≡ ready_of s k dev
ready_on s k j ea ec dev = λ i. ready_among (or_start s (ea i)) (ec i) (seek_of s.targets dev) dev

and_no : (x y : Bool) → (x && y) ≡ false → (x && y && true) ≡ false
and_no true true q = q
and_no true false q = refl
and_no false y q = refl

pub entry_keeps :
    (s : ScenarioValue) (p : List Row) (row : Row) (g : Change) (b : LineSet) (a : Option Arbitration) (c : Option Call)
    → GoesApart s p row g b a c → (rises g.own.bsy g.next.bsy && not g.before.sel) ≡ true → KeepsWishes s p (row ∷ p)
entry_keeps s p row g b a c w ee =
    let k = run_state s p in
    let z = apart_leaves s p row g b a c w in
    let e = read_change s p row g b a c w in
    let con = no_connection s p row g b a c w in
    let dd = row_reading k.story.bus_state row in
    let ent : is_arbitration_entry k.story dd ≡ true =
    (λ i. rises (e i).own.bsy (e i).next.bsy && not (e i).before.sel && is_none (con i))
    ∙ and_more (rises g.own.bsy g.next.bsy) (not g.before.sel) ee in
    let go : story_on_free_bus s k.story dd row ≡ story_with_aim s k.story row = ap (λ (q : Bool). free_by
    s k.story row q (falls dd.change.before.sel dd.change.after.sel) k.story.bus_state.call) ent in
    record {
      wants = wants_on s k (run_state s (row ∷ p)) (z.sent ∙ ap (λ (y : Story). y.sent) go) z.array z.current;
      ready = ready_on s k (run_state s (row ∷ p)) z.array z.current;
      link = z.link ∙ ap (λ (y : Story). y.link) go ∙ w.link;
    }

no_entry :
    (s : ScenarioValue) (p : List Row) (row : Row) (g : Change) (b : LineSet) (a : Option Arbitration) (c : Option Call)
    → GoesApart s p row g b a c → (rises g.own.bsy g.next.bsy && not g.before.sel) ≡ false
    → is_arbitration_entry (run_state s p).story (row_reading (run_state s p).story.bus_state row) ≡ false
no_entry s p row g b a c w ee =
    let e = read_change s p row g b a c w in
    let con = no_connection s p row g b a c w in
    (λ i. rises (e i).own.bsy (e i).next.bsy && not (e i).before.sel && is_none (con i))
    ∙ and_no (rises g.own.bsy g.next.bsy) (not g.before.sel) ee

pub record KeepsAll (s : ScenarioValue) (p q : List Row) : Type 0 where
  pub wishes : KeepsWishes s p q
  pub aims : (run_state s q).story.aims ≡ (run_state s p).story.aims

pub still_keeps :
    (s : ScenarioValue) (p : List Row) (row : Row) (g : Change) (b : LineSet) (a : Option Arbitration) (c : Option Call)
    → GoesApart s p row g b a c → (rises g.own.bsy g.next.bsy && not g.before.sel) ≡ false
    → falls g.before.sel g.after.sel ≡ false → KeepsAll s p (row ∷ p)
still_keeps s p row g b a c w ee ef =
    let k = run_state s p in
    let z = apart_leaves s p row g b a c w in
    let e = read_change s p row g b a c w in
    let dd = row_reading k.story.bus_state row in
    let ent = no_entry s p row g b a c w ee in
    let fal : falls dd.change.before.sel dd.change.after.sel ≡ false =
    ap (λ (x : Change). falls x.before.sel x.after.sel) e ∙ ef in
    let go : story_on_free_bus s k.story dd row ≡ k.story = λ i. free_by s k.story row
    (ent i) (fal i) k.story.bus_state.call in
    record {
      wishes = record {
        wants = wants_on s k (run_state s (row ∷ p)) (z.sent ∙ ap (λ (y : Story). y.sent) go) z.array z.current;
        ready = ready_on s k (run_state s (row ∷ p)) z.array z.current;
        link = z.link ∙ ap (λ (y : Story). y.link) go ∙ w.link;
      };
      aims = z.aims ∙ ap (λ (y : Story). y.aims) go;
    }

-- ---- SEL falls without an answer: the item is tried again, or given up

pub missed_keeps :
    (s : ScenarioValue) (p : List Row) (row : Row) (g : Change) (b : LineSet) (a : Option Arbitration) (c : Option Call)
    → GoesApart s p row g b a c → (rises g.own.bsy g.next.bsy && not g.before.sel) ≡ false
    → (run_state s (row ∷ p)).story.link ≡ None
missed_keeps s p row g b a c w ee =
    let k = run_state s p in
    let z = apart_leaves s p row g b a c w in
    let dd = row_reading k.story.bus_state row in
    let ent = no_entry s p row g b a c w ee in
    z.link ∙ ap (λ (q : Bool).
    (free_by s k.story row q (falls dd.change.before.sel dd.change.after.sel) k.story.bus_state.call).link) ent
    ∙ go (falls dd.change.before.sel dd.change.after.sel) ∙ w.link
  where
    go : (q : Bool) → (if q then story_after_calling s (run_state s p).story (run_state s p).story.bus_state.call
        else (run_state s p).story).link ≡ (run_state s p).story.link
    go true = calling_link s (run_state s p).story (run_state s p).story.bus_state.call
    go false = refl

-- ---- the same of a row of lines, by its lines and those of the bus

lines_apart :
    (s : ScenarioValue) (p : List Row) (t d : ℕ) (l l' b b' o : LineSet) (a : Option Arbitration) (c : Option Call)
    → AreOfDevices p → d < 8 → Stands p b a c None → (run_state s p).story.link ≡ None
    → l ≡ l' → bus (row_of_lines t d l ∷ p) ≡ b' → drives p d ≡ o → b'.rst ≡ false
    → connection_after None c (change_to b b' o l') (row_of_lines t d l) ≡ None
    → GoesApart s p (row_of_lines t d l) (change_to b b' o l') b a c
lines_apart s p t d l l' b b' o a c h lt st link el ea eo er en = record {
  devices = h;
  below = lt;
  stands = st;
  link = link;
  change = change_is p t d l l' b b' o el st.bus_is ea eo;
  calm = er;
  alone = en;
}

pub entry_row_keeps :
    (s : ScenarioValue) (p : List Row) (t d : ℕ) (l l' b b' o : LineSet) (a : Option Arbitration) (c : Option Call)
    → AreOfDevices p → d < 8 → Stands p b a c None → (run_state s p).story.link ≡ None
    → l ≡ l' → bus (row_of_lines t d l ∷ p) ≡ b' → drives p d ≡ o → b'.rst ≡ false
    → connection_after None c (change_to b b' o l') (row_of_lines t d l) ≡ None
    → (rises o.bsy l'.bsy && not b.sel) ≡ true → KeepsWishes s p (row_of_lines t d l ∷ p)
entry_row_keeps s p t d l l' b b' o a c h lt st link el ea eo er en ee = entry_keeps s p (row_of_lines t d l)
    (change_to b b' o l') b a c (lines_apart s p t d l l' b b' o a c h lt st link el ea eo er en) ee

pub still_row_keeps :
    (s : ScenarioValue) (p : List Row) (t d : ℕ) (l l' b b' o : LineSet) (a : Option Arbitration) (c : Option Call)
    → AreOfDevices p → d < 8 → Stands p b a c None → (run_state s p).story.link ≡ None
    → l ≡ l' → bus (row_of_lines t d l ∷ p) ≡ b' → drives p d ≡ o → b'.rst ≡ false
    → connection_after None c (change_to b b' o l') (row_of_lines t d l) ≡ None
    → (rises o.bsy l'.bsy && not b.sel) ≡ false → falls b.sel b'.sel ≡ false → KeepsAll s p (row_of_lines t d l ∷ p)
still_row_keeps s p t d l l' b b' o a c h lt st link el ea eo er en ee ef = still_keeps s p (row_of_lines t d l)
    (change_to b b' o l') b a c (lines_apart s p t d l l' b b' o a c h lt st link el ea eo er en) ee ef

pub missed_row_keeps :
    (s : ScenarioValue) (p : List Row) (t d : ℕ) (l l' b b' o : LineSet) (a : Option Arbitration) (c : Option Call)
    → AreOfDevices p → d < 8 → Stands p b a c None → (run_state s p).story.link ≡ None
    → l ≡ l' → bus (row_of_lines t d l ∷ p) ≡ b' → drives p d ≡ o → b'.rst ≡ false
    → connection_after None c (change_to b b' o l') (row_of_lines t d l) ≡ None
    → (rises o.bsy l'.bsy && not b.sel) ≡ false → (run_state s (row_of_lines t d l ∷ p)).story.link ≡ None
missed_row_keeps s p t d l l' b b' o a c h lt st link el ea eo er en ee = missed_keeps s p (row_of_lines t d l)
    (change_to b b' o l') b a c (lines_apart s p t d l l' b b' o a c h lt st link el ea eo er en) ee
