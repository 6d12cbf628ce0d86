-- What a row shows that is of no unit of a target.
use Rattle.std.proofs.Common.{ℕ, ◌≡◌, ◌∙◌, ◌==◌, Bool, true, false, List, [], ◌∷◌, refl, sym, subst, Option, Some, None}
use Rattle.std.proofs.Common.{◌⊎◌, inl, inr}
use Rattle.std.specs.Prelude.{if◌then◌else◌, not, ◌&&◌, ◌||◌, is_some, nat_lt}
use Rattle.std.proofs.lemmas.Bool.{and_parts, eqb-true}
use Rattle.bus_base.specs.declared.AbortKind.{AbortKind}
use Rattle.bus_base.specs.declared.AbortKind.TheVariants as aborts
use Rattle.bus_base.specs.declared.Event.{Event}
use Rattle.bus_base.specs.declared.Event.TheVariants as events
use Rattle.bus_base.specs.declared.ProcId.{ProcId}
use Rattle.bus_trace.specs.declared.Row.{Row}
use Rattle.bus_trace.specs.declared.connection.Connection.{Connection}
use Rattle.bus_trace.specs.Changes.{rises}
use Rattle.bus_trace.specs.Phases.{changes_phase, is_message_in}
use Rattle.bus_trace.specs.Terms.{connection}
use Rattle.bus_trace.specs.Trace.{bus}
use Rattle.scenario.specs.Value.{ScenarioValue}
use Rattle.array_model.specs.Processes.{Process, process_of, same_id}
use Rattle.array_model.specs.Seats.{is_abort_of_other_unit, is_of_other_unit}
use Rattle.due_model.specs.story_model.specs.BusState.{RowReading, row_reading}
use Rattle.due_model.specs.story_model.specs.Items.{Item, process, abort}
use Rattle.due_model.specs.Faithful.{faithful, has_ends, is_faithful}
use Rattle.due_model.specs.Plain.{AreOfDevices, IsPlain}
use Rattle.due_model.specs.RunState.{RunState, process_item, process_served}
use Rattle.due_model.specs.RunSteps.{run_state, events_of_row}
use Rattle.target_course.specs.scsi_device.specs.Heard.{Instructions, instructions, is_of_scenario}
use Rattle.target_course.specs.scsi_device.specs.Writes.{Writer, writers}
use Rattle.target_course.specs.States.{IsOwnConnection}
use Rattle.target_course.proofs.CourseAgrees.{IsFront, either, front_heard}
use Rattle.target_course.proofs.CourseRows.{heard_before}
use Rattle.target_course.proofs.ReplyRows.{Shape, shown_of}
use Rattle.target_course.proofs.ReplyRows as shapes
use Rattle.target_course.proofs.ServedEnds.{ends_are}
use Rattle.disk_target.specs.Attended.{are_in, are_known_ends, attended, is_abort_in, is_attended, is_attended_if}
use Rattle.disk_target.specs.Attended.{is_attended_in, is_attended_row, is_calm_turn, is_of_item, is_of_process}
use Rattle.disk_target.specs.Attended.{is_quiet, is_whole_run}
use Rattle.disk_target.specs.Processes.{AreOutside, IsOutside}
use Rattle.disk_target.specs.Targets.{AreTied}
use Rattle.disk_target.specs.Turns.{is_reset}
use Rattle.disk_target.proofs.RowShapes.{ShowsIn, nothing, turned, lost, aborted, ended, none_shown, reset_is}
use Rattle.disk_target.proofs.RowShapes.{row_shows}
use Rattle.bus_base.proofs.Tests.{or_second, implied}
use Rattle.array_model.proofs.SeatLookups.{same_id_is}
use Rattle.array_model.specs.ArrayHistory.{shows_run}
use Rattle.due_model.specs.dialogue_model.specs.Events.{is_empty}

-- ---- what is attended in this row

pub attended_row : (s : ScenarioValue) (rows : List Row) (row : Row) (n : Connection)
    → attended s (row ∷ rows) ≡ true → (run_state s rows).story.bus_state.connection ≡ Some n
    → is_attended_row s (run_state s rows) (row_reading (run_state s rows).story.bus_state row) (instructions s rows)
    (writers s rows) (events_of_row s rows row) n ≡ true
attended_row s rows row n e x =
    let k : RunState = run_state s rows in
    let d : RowReading = row_reading k.story.bus_state row in
    let i : Instructions = instructions s rows in
    let all : List Writer = writers s rows in
    let last = and_parts (attended s rows) (is_attended s k row d i all) e in
    (λ j. is_attended_if s k d i all (events_of_row s rows row) (sym x j)) ∙ last.1

-- While RST is false before it and after it.
pub record IsAttended (s : ScenarioValue) (rows : List Row) (row : Row) (n : Connection) : Type 0 where
  pub within : are_in n (run_state s rows).served (events_of_row s rows row) ≡ true
  pub known : are_known_ends (instructions s rows).known (events_of_row s rows row) ≡ true
  pub quiet : is_quiet s (run_state s rows) n
      (is_some (row_reading (run_state s rows).story.bus_state row).next) (events_of_row s rows row)
      ≡ true
  pub whole : shows_run (events_of_row s rows row) ≡ true
      → is_whole_run s (run_state s rows) (writers s rows) (process_served s (run_state s rows)) ≡ true

branch : (b : Bool) (x y : Bool) → (if b then x else y) ≡ true → b ≡ false → y ≡ true
branch true x y e f = cc
branch false x y e f = e

branch_first : (b : Bool) (x y : Bool) → (if b then x else y) ≡ true → b ≡ true → x ≡ true
branch_first true x y e f = e
branch_first false x y e f = cc

pub attended_in : (s : ScenarioValue) (rows : List Row) (row : Row) (n : Connection)
    → attended s (row ∷ rows) ≡ true → (run_state s rows).story.bus_state.connection ≡ Some n
    → (row_reading (run_state s rows).story.bus_state row).change.before.rst ≡ false
    → (row_reading (run_state s rows).story.bus_state row).change.after.rst ≡ false → IsAttended s rows row n
attended_in s rows row n e x before after =
    let k : RunState = run_state s rows in
    let d : RowReading = row_reading k.story.bus_state row in
    let i : Instructions = instructions s rows in
    let all : List Writer = writers s rows in
    let shown : List Event = events_of_row s rows row in
    let runs : Bool = not (shows_run shown) || is_whole_run s k all (process_served s k) in
    let quiet : Bool = is_quiet s k n (is_some d.next) shown in
    let two = and_parts (is_calm_turn d)
    (d.change.after.rst || (if d.change.before.rst then is_empty shown else is_attended_in s k d i all shown n))
    (attended_row s rows row n e x) in
    let at = branch d.change.before.rst (is_empty shown)
    (is_attended_in s k d i all shown n) (or_second d.change.after.rst
    (if d.change.before.rst then is_empty shown else is_attended_in s k d i all shown n) two.1 after) before in
    let first = and_parts (are_in n k.served shown) (are_known_ends i.known shown && (quiet && runs)) at in
    let second = and_parts (are_known_ends i.known shown) (quiet && runs) first.1 in
    let third = and_parts quiet runs second.1 in
    record {
      within = first.0;
      known = second.0;
      quiet = third.0;
      whole = implied (shows_run shown) (is_whole_run s k all (process_served s k)) third.1;
    }

-- Before it RST is true, and after it false.
pub empty_after : (s : ScenarioValue) (rows : List Row) (row : Row) (n : Connection)
    → attended s (row ∷ rows) ≡ true → (run_state s rows).story.bus_state.connection ≡ Some n
    → (row_reading (run_state s rows).story.bus_state row).change.before.rst ≡ true
    → (row_reading (run_state s rows).story.bus_state row).change.after.rst ≡ false → events_of_row s rows row ≡ []
empty_after s rows row n e x before after =
    let k : RunState = run_state s rows in
    let d : RowReading = row_reading k.story.bus_state row in
    let i : Instructions = instructions s rows in
    let all : List Writer = writers s rows in
    let shown : List Event = events_of_row s rows row in
    let two = and_parts (is_calm_turn d)
    (d.change.after.rst || (if d.change.before.rst then is_empty shown else is_attended_in s k d i all shown n))
    (attended_row s rows row n e x) in
    none shown (branch_first d.change.before.rst (is_empty shown)
    (is_attended_in s k d i all shown n) (or_second d.change.after.rst
    (if d.change.before.rst then is_empty shown else is_attended_in s k d i all shown n) two.1 after) before)
  where
    none : (l : List Event) → is_empty l ≡ true → l ≡ []
    none [] f = refl
    none (y ∷ l) f = cc

-- A phase is left only while RST is false, where the connection stands, or it is MESSAGE IN.
pub calm_turn : (s : ScenarioValue) (rows : List Row) (row : Row) (n : Connection)
    → attended s (row ∷ rows) ≡ true → (run_state s rows).story.bus_state.connection ≡ Some n
    → is_some (row_reading (run_state s rows).story.bus_state row).next ≡ true
    → changes_phase (row_reading (run_state s rows).story.bus_state row).change ≡ true
    → (((row_reading (run_state s rows).story.bus_state row).change.before.rst ≡ false)
    × ((row_reading (run_state s rows).story.bus_state row).change.after.rst ≡ false))
    ⊎ (is_message_in (row_reading (run_state s rows).story.bus_state row).change.before ≡ true)
calm_turn s rows row n e x stands turns =
    let k : RunState = run_state s rows in
    let d : RowReading = row_reading k.story.bus_state row in
    let shown : List Event = events_of_row s rows row in
    let two = and_parts (is_calm_turn d) (d.change.after.rst || (if d.change.before.rst then is_empty shown
    else is_attended_in s k d (instructions s rows) (writers s rows) shown n)) (attended_row s rows row n e x) in
    either (is_some d.next) (changes_phase d.change) d.change.before.rst d.change.after.rst
    (is_message_in d.change.before) two.0 stands turns
  where
    either : (a b c f m : Bool) → (not a || not b || (not c && not f) || m) ≡ true → a ≡ true → b ≡ true
        → ((c ≡ false) × (f ≡ false)) ⊎ (m ≡ true)
    either true true false false m g p q = inl (refl, refl)
    either true true false true m g p q = inr g
    either true true true f m g p q = inr g
    either true false c f m g p q = cc
    either false b c f m g p q = cc

-- ---- events of other targets

-- The process of this number is of another target.
pub record IsElsewhere (s : ScenarioValue) (dev : ℕ) (id : ProcId) : Type 0 where
  pub p : Process
  pub is : process_of s id ≡ Some p
  pub other : (p.target == dev) ≡ false

one_outside : (s : ScenarioValue) (dev : ℕ) (id x : ProcId) (n : ℕ) → IsElsewhere s dev id → same_id x id ≡ true
    → is_of_other_unit (process_of s x) dev n ≡ true
one_outside s dev id x n h e = (λ i. is_of_other_unit (process_of s (same_id_is x id e i)) dev n)
    ∙ (λ i. is_of_other_unit (h.is i) dev n) ∙ (λ i. not (h.other i && h.p.unit == n))

process_outside : (s : ScenarioValue) (dev : ℕ) (id : ProcId) (e : Event) → IsElsewhere s dev id
    → is_of_process id e ≡ true → IsOutside s dev e
process_outside s dev id (events.Accept x) h f = λ n small. one_outside s dev id x n h f
process_outside s dev id (events.Refuse x) h f = λ n small. one_outside s dev id x n h f
process_outside s dev id (events.Run x) h f = λ n small. one_outside s dev id x n h f
process_outside s dev id (events.Fail x code) h f = λ n small. one_outside s dev id x n h f
process_outside s dev id (events.End x status) h f = λ n small. one_outside s dev id x n h f
process_outside s dev id (events.Lost x) h f = λ n small. one_outside s dev id x n h f
process_outside s dev id (events.Aborted host target unit what) h f = absurd cc
process_outside s dev id (events.Reset by) h f = absurd cc

item_outside : (s : ScenarioValue) (dev : ℕ) (item : Option Item) (e : Event)
    → ((id : ProcId) → item ≡ Some (process id) → IsElsewhere s dev id) → is_of_item item e ≡ true → IsOutside s dev e
item_outside s dev None e h f = absurd cc
item_outside s dev (Some (abort m)) e h f = absurd cc
item_outside s dev (Some (process id)) e h f = process_outside s dev id e (h id refl) f

kind_outside : (dev target unit n : ℕ) (what : AbortKind) → (target == dev) ≡ false
    → is_abort_of_other_unit target unit what dev n ≡ true
kind_outside dev target unit n aborts.All h = λ i. not (h i && unit == n)
kind_outside dev target unit n (aborts.Tag t) h = λ i. not (h i && unit == n)
kind_outside dev target unit n aborts.WholeQueue h = λ i. not (h i && unit == n)
kind_outside dev target unit n aborts.Device h = λ i. not (h i)

abort_outside : (s : ScenarioValue) (dev : ℕ) (m : Connection) (e : Event) → (m.target == dev) ≡ false
    → is_abort_in m e ≡ true → IsOutside s dev e
abort_outside s dev m (events.Aborted host target unit what) h f =
    let last = and_parts (host == m.initiator && target == m.target) (nat_lt unit 8 && nat_lt host 8) f in
    let two = and_parts (host == m.initiator) (target == m.target) last.0 in
    λ n small. kind_outside dev target unit n what ((λ i. eqb-true target m.target two.1 i == dev) ∙ h)
abort_outside s dev m (events.Accept x) h f = absurd cc
abort_outside s dev m (events.Refuse x) h f = absurd cc
abort_outside s dev m (events.Run x) h f = absurd cc
abort_outside s dev m (events.Fail x code) h f = absurd cc
abort_outside s dev m (events.End x status) h f = absurd cc
abort_outside s dev m (events.Lost x) h f = absurd cc
abort_outside s dev m (events.Reset by) h f = absurd cc

event_outside : (s : ScenarioValue) (dev : ℕ) (m : Connection) (item : Option Item) (e : Event)
    → (m.target == dev) ≡ false → ((id : ProcId) → item ≡ Some (process id) → IsElsewhere s dev id)
    → (is_of_item item e || is_abort_in m e) ≡ true → IsOutside s dev e
event_outside s dev m item e o h f = go (either (is_of_item item e) (is_abort_in m e) f)
  where
    go : (is_of_item item e ≡ true) ⊎ (is_abort_in m e ≡ true) → IsOutside s dev e
    go (inl g) = item_outside s dev item e h g
    go (inr g) = abort_outside s dev m e o g

list_outside : (s : ScenarioValue) (dev : ℕ) (m : Connection) (item : Option Item) (k : RunState) (d : RowReading)
    (shown : List Event) → (m.target == dev) ≡ false → ((id : ProcId) → item ≡ Some (process id) → IsElsewhere s dev id)
    → are_in m item shown ≡ true → ShowsIn s k d m shown → AreOutside s dev shown
list_outside s dev m item k d shown o h f (nothing e) = subst (λ (l : List Event). AreOutside s dev l) (sym e) tt
list_outside s dev m item k d shown o h f (lost i g e z) =
    subst (λ (l : List Event). AreOutside s dev l) (sym e) (single (events.Lost i) ((λ j. are_in m item (sym e j)) ∙ f))
  where
    single : (x : Event) → are_in m item (x ∷ []) ≡ true → IsOutside s dev x
    single x y = event_outside s dev m item x o h (and_parts (is_of_item item x || is_abort_in m x) true y).0
list_outside s dev m item k d shown o h f (aborted unit what e z) = subst (λ (l : List Event). AreOutside s dev l)
    (sym e) (single (events.Aborted m.initiator m.target unit what) ((λ j. are_in m item (sym e j)) ∙ f))
  where
    single : (x : Event) → are_in m item (x ∷ []) ≡ true → IsOutside s dev x
    single x y = event_outside s dev m item x o h (and_parts (is_of_item item x || is_abort_in m x) true y).0
list_outside s dev m item k d shown o h f (ended i status e z) = subst (λ (l : List Event). AreOutside s dev l) (sym e)
    (single (events.End i status) ((λ j. are_in m item (sym e j)) ∙ f))
  where
    single : (x : Event) → are_in m item (x ∷ []) ≡ true → IsOutside s dev x
    single x y = event_outside s dev m item x o h (and_parts (is_of_item item x || is_abort_in m x) true y).0
list_outside s dev m item k d shown o h f (turned i x g e b st ch tu) =
    subst (λ (l : List Event). AreOutside s dev l) (sym e) (shape x ((λ j. are_in m item (sym e j)) ∙ f))
  where
    single : (y : Event) → are_in m item (y ∷ []) ≡ true → IsOutside s dev y
    single y z = event_outside s dev m item y o h (and_parts (is_of_item item y || is_abort_in m y) true z).0

    shape : (x : Shape) → are_in m item (shown_of i x) ≡ true → AreOutside s dev (shown_of i x)
    shape shapes.nothing y = tt
    shape shapes.accepts y = single (events.Accept i) y
    shape shapes.refuses y = single (events.Refuse i) y
    shape shapes.runs y = single (events.Run i) y
    shape (shapes.fails code) y = single (events.Fail i code) y
    shape shapes.accepts_and_runs y =
        let both = and_parts (is_of_item item (events.Run i) || is_abort_in m (events.Run i))
        (are_in m item (events.Accept i ∷ [])) y in
        (i, refl, single (events.Accept i) both.1, event_outside s dev m item (events.Run i) o h both.0)

-- ---- a row in which no connection of its own stands while RST is false

process_there : (s : ScenarioValue) (item : Option Item) (id : ProcId) → item ≡ Some (process id)
    → is_of_scenario s item ≡ true → is_some (process_of s id) ≡ true
process_there s item id e f = (λ i. is_of_scenario s (sym e i)) ∙ f

pub outside_row : (s : ScenarioValue) (rows : List Row) (row : Row) (dev : ℕ)
    → ((before : List Row) → AreOfDevices before → IsPlain s before (run_state s before)) → AreOfDevices (row ∷ rows)
    → AreTied s (row ∷ rows) → ((n : Connection) → IsOwnConnection rows dev n → (bus rows).rst ≡ true)
    → is_reset (events_of_row s rows row) ≡ false → AreOutside s dev (events_of_row s rows row)
outside_row s rows row dev plain d tied away calm = by_reset d_.change.after.rst refl
  where
    k : RunState
    k = run_state s rows

    d_ : RowReading
    d_ = row_reading k.story.bus_state row

    none : events_of_row s rows row ≡ [] → AreOutside s dev (events_of_row s rows row)
    none e = subst (λ (l : List Event). AreOutside s dev l) (sym e) tt

    others : (m : Connection) → k.story.bus_state.connection ≡ Some m → d_.change.after.rst ≡ false
        → d_.change.before.rst ≡ false → (m.target == dev) ≡ false → AreOutside s dev (events_of_row s rows row)
    others m x after before o = list_outside s dev m k.served k d_ (events_of_row s rows row) o elsewhere
        (attended_in s rows row m tied.attended_are x before after).within
        (row_shows s rows row m tied.telling_are after x)
      where
        p : IsPlain s rows k
        p = plain rows d.1

        stands : connection rows ≡ Some m
        stands = sym p.connection ∙ x

        front : IsFront s k m (instructions s rows)
        front =
            front_heard s rows m p (heard_before s rows row tied.heard_are) stands ((λ i. (sym p.bus i).rst) ∙ before)

        ends : has_ends (process_served s k) m ≡ true
        ends = ends_are s rows plain d.1 (and_parts (faithful s rows) (is_faithful s k d_) tied.faithful_are).0 m stands

        elsewhere : (id : ProcId) → k.served ≡ Some (process id) → IsElsewhere s dev id
        elsewhere id e = go (process_of s id) refl (process_there s k.served id e front.there)
          where
            go : (z : Option Process) → process_of s id ≡ z → is_some z ≡ true → IsElsewhere s dev id
            go None f g = absurd cc
            go (Some q) f g =
                let both = and_parts (q.initiator == m.initiator) (q.target == m.target)
                ((λ i. has_ends (sym ((λ j. process_item s (e j)) ∙ f) i) m) ∙ ends) in
                record { p = q; is = f; other = (λ i. eqb-true q.target m.target both.1 i == dev) ∙ o }

    in_connection : (m : Connection) → k.story.bus_state.connection ≡ Some m → d_.change.after.rst ≡ false → (y : Bool)
        → d_.change.before.rst ≡ y → (z : Bool) → (m.target == dev) ≡ z → AreOutside s dev (events_of_row s rows row)
    in_connection m x after true before z o = none (empty_after s rows row m tied.attended_are x before after)
    in_connection m x after false before false o = others m x after before o
    in_connection m x after false before true o =
        let own : (bus rows).rst ≡ true = away m (record { stands = sym (plain rows d.1).connection ∙ x; own = o }) in
        let bad : true ≡ false = sym own ∙ (λ i. (sym (plain rows d.1).bus i).rst) ∙ before in
        cc

    by_connection : (x : Option Connection) → k.story.bus_state.connection ≡ x → d_.change.after.rst ≡ false
        → AreOutside s dev (events_of_row s rows row)
    by_connection None x after = none (none_shown s rows row tied.telling_are after x)
    by_connection (Some m) x after = in_connection m x after d_.change.before.rst refl (m.target == dev) refl

    by_rise : (y : Bool) → rises d_.change.own.rst d_.change.next.rst ≡ y → d_.change.after.rst ≡ true
        → AreOutside s dev (events_of_row s rows row)
    by_rise true g after =
        let bad : true ≡ false =
        sym (λ i. is_reset ((reset_is s rows row after ∙ (λ j. if g j then events.Reset row.dev ∷ [] else [])) i))
        ∙ calm in
        cc
    by_rise false g after = none (reset_is s rows row after ∙ (λ j. if g j then events.Reset row.dev ∷ [] else []))

    by_reset : (y : Bool) → d_.change.after.rst ≡ y → AreOutside s dev (events_of_row s rows row)
    by_reset true after = by_rise (rises d_.change.own.rst d_.change.next.rst) refl after
    by_reset false after = by_connection k.story.bus_state.connection refl after
