-- What a prompt trace shows in a connection is attended, as the target of the connection rests on it.
use Rattle.std.proofs.Common.{◌≡◌, ◌⊎◌, inl, inr, ◌<◌, Bool, true, false, not, ◌&&◌, ◌||◌, ◌==◌, ◌∙◌, List, [], ◌∷◌}
use Rattle.std.proofs.Common.{length, Option, Some, None, refl, sym, ap}
use Rattle.std.specs.Prelude.{if◌then◌else◌, is_some, nat_le}
use Rattle.bus_base.specs.declared.Event.{Event}
use Rattle.bus_base.specs.declared.Event.TheVariants as events
use Rattle.bus_base.specs.declared.ProcId.{ProcId}
use Rattle.bus_trace.specs.declared.Row.{Row}
use Rattle.bus_trace.specs.declared.changes.Change.{Change}
use Rattle.bus_trace.specs.declared.connection.Connection.{Connection}
use Rattle.bus_trace.specs.Changes.{change_of}
use Rattle.bus_trace.specs.Phases.{changes_phase, is_message_in}
use Rattle.bus_trace.specs.Terms.{connection}
use Rattle.bus_trace.specs.Trace.{bus}
use Rattle.cdb_codec.specs.declared.status.TheConstants.{GOOD}
use Rattle.scenario.specs.Value.{ScenarioValue}
use Rattle.array_model.specs.Processes.{Process}
use Rattle.array_model.specs.ArrayHistory.{shows_run}
use Rattle.due_model.specs.story_model.specs.BusState.{RowReading, row_reading}
use Rattle.due_model.specs.story_model.specs.Items.{Item, process}
use Rattle.due_model.specs.Next.{IsPrompt}
use Rattle.due_model.specs.Plain.{AreOfDevices, IsPlain}
use Rattle.due_model.specs.RunState.{RunState, array_of, process_served}
use Rattle.due_model.specs.RunSteps.{run_state, events_of_row}
use Rattle.due_model.specs.Tasks.{is_writing}
use Rattle.due_model.proofs.Plains.{run_state_plain, of_devices}
use Rattle.delivery_laws.specs.scsi_device.specs.Heard.{Instructions, instructions, is_opening}
use Rattle.delivery_laws.specs.scsi_device.specs.Writes.{Writer, is_writer, writer_of, writers}
use Rattle.disk_target.specs.Attended.{are_in, are_known_ends, attended, received_count, ends_good, is_abort_in}
use Rattle.disk_target.specs.Attended.{is_attended}
use Rattle.disk_target.specs.Attended.{is_attended_if, is_attended_in, is_calm_turn, is_known_end, is_of_item, is_quiet}
use Rattle.disk_target.specs.Attended.{is_unseen, is_whole_of, is_whole_run}
use Rattle.delivery_laws.specs.book_laws.proofs.Common.Lookups.{self_id}
use Rattle.delivery_laws.specs.bus_laws.proofs.Lines.Apart.{change_plain}
use Rattle.delivery_laws.specs.bus_laws.proofs.Stages.Facts.{least_is}
use Rattle.delivery_laws.specs.row_laws.specs.Attendance.{AreShown, IsShown, ShowsIn, accepts, refuses, runs, fails}
use Rattle.delivery_laws.specs.row_laws.specs.Attendance.{ends, loses, aborts}
use Rattle.delivery_laws.specs.story_laws.specs.RunsWhole.{IsWhole, RunsWhole, ends_badly, sends_all, sends_none}
use Rattle.delivery_laws.specs.story_laws.specs.RowAttendance.{IsAttended, IsCalmTurn}
use Rattle.delivery_laws.specs.trace_laws.proofs.Runs.Whole.{sent_all}
use Rattle.std.proofs.lemmas.Bool.{or_right, and_from, lt-ltb, eq-eqb}
use Rattle.bus_base.proofs.Tests.{wrong, or_true, implication, unless, or_middle}
use Rattle.due_model.specs.dialogue_model.specs.Events.{is_empty}

-- ---- its events

of_served : (k : RunState) (n : Connection) (id : ProcId) (e : Event) → k.served ≡ Some (process id)
    → is_of_item (Some (process id)) e ≡ true → (is_of_item k.served e || is_abort_in n e) ≡ true
of_served k n id e served h = λ i. (ap (λ (o : Option Item). is_of_item o e) served ∙ h) i || is_abort_in n e

event_in : (k : RunState) (n : Connection) (known : Bool) (e : Event) → IsShown k n known e
    → (is_of_item k.served e || is_abort_in n e) ≡ true
event_in k n known _ (accepts id h) = of_served k n id (events.Accept id) h (self_id id)
event_in k n known _ (refuses id h) = of_served k n id (events.Refuse id) h (self_id id)
event_in k n known _ (runs id h) = of_served k n id (events.Run id) h (self_id id)
event_in k n known _ (fails id code h) = of_served k n id (events.Fail id code) h (self_id id)
event_in k n known _ (ends id status h good) = of_served k n id (events.End id status) h (self_id id)
event_in k n known _ (loses id h) = of_served k n id (events.Lost id) h (self_id id)
event_in k n known _ (aborts host target unit what eh et lu lh) =
    (λ i. is_of_item k.served (events.Aborted host target unit what)
    || (eq-eqb host n.initiator eh i && eq-eqb target n.target et i && (lt-ltb unit 8 lu i && lt-ltb host 8 lh i)))
    ∙ or_true (is_of_item k.served (events.Aborted host target unit what))

event_known : (k : RunState) (n : Connection) (known : Bool) (e : Event) → IsShown k n known e
    → is_known_end known e ≡ true
event_known k n known _ (accepts id h) = refl
event_known k n known _ (refuses id h) = refl
event_known k n known _ (runs id h) = refl
event_known k n known _ (fails id code h) = refl
event_known k n known _ (ends id status h good) = go (status == GOOD) known good
  where
    go : (q r : Bool) → (q ≡ true → r ≡ true) → (r || not q) ≡ true
    go true r f = λ i. f refl i || false
    go false r f = or_true r
event_known k n known _ (loses id h) = refl
event_known k n known _ (aborts host target unit what eh et lu lh) = refl

all_in : (k : RunState) (n : Connection) (known : Bool) (shown : List Event) → AreShown k n known shown
    → are_in n k.served shown ≡ true
all_in k n known [] h = refl
all_in k n known (e ∷ shown) h = and_from _ _ (event_in k n known e h.0) (all_in k n known shown h.1)

all_known : (k : RunState) (n : Connection) (known : Bool) (shown : List Event) → AreShown k n known shown
    → are_known_ends known shown ≡ true
all_known k n known [] h = refl
all_known k n known (e ∷ shown) h = and_from _ _ (event_known k n known e h.0) (all_known k n known shown h.1)

-- ---- the opening

quiet : (s : ScenarioValue) (rows : List Row) (row : Row) (n : Connection) → ShowsIn s rows row n
    → is_quiet s (run_state s rows) n (is_some (row_reading (run_state s rows).story.bus_state row).next)
    (events_of_row s rows row) ≡ true
quiet s rows row n h = go n.reselected refl (is_opening k) refl next refl
  where
    k : RunState
    k = run_state s rows

    next : Option Connection
    next = (row_reading k.story.bus_state row).next

    go : (q : Bool) → n.reselected ≡ q → (r : Bool) → is_opening k ≡ r → (o : Option Connection) → next ≡ o
        → (n.reselected || not (is_opening k) || (if is_some next then is_empty (events_of_row s rows row)
        else is_unseen (array_of s k) (process_served s k))) ≡ true
    go true e r f o g = λ i. e i || not (is_opening k)
        || (if is_some next then is_empty (events_of_row s rows row) else is_unseen (array_of s k) (process_served s k))
    go false e false f o g = or_middle n.reselected (not (is_opening k)) _ (ap not f)
    go false e true f None g = unless (n.reselected || not (is_opening k)) _ (λ z. ap (λ (x : Option Connection).
        if is_some x then is_empty (events_of_row s rows row) else is_unseen (array_of s k) (process_served s k)) g
        ∙ ap (is_unseen (array_of s k)) (h.ends_alone e f g))
    go false e true f (Some m) g =
        let some : is_some next ≡ true = ap (λ (x : Option Connection). is_some x) g in
        unless (n.reselected || not (is_opening k)) _ (λ z.
        (λ i. if some i then is_empty (events_of_row s rows row) else is_unseen (array_of s k) (process_served s k))
        ∙ ap is_empty (h.silent e f some))

-- ---- a process that runs

whole_is : (s : ScenarioValue) (k : RunState) (all : List Writer) (p : Process) → IsWhole s k all p
    → is_whole_run s k all (Some p) ≡ true
whole_is s k all p (ends_badly e) = λ i. not (e i) || is_whole_of s k all p
whole_is s k all p (sends_none e) =
    or_right (not (ends_good (array_of s k) p)) (is_whole_of s k all p) (λ i. e i == 0 || (is_writing p
    && (is_writer (writer_of all p.target p.unit) p.id && nat_le (length p.sent) (received_count s k p))))
whole_is s k all p (sends_all h) = or_right (not (ends_good (array_of s k) p)) (is_whole_of s k all p)
    (or_right (length p.sent == 0) _ (sent_all s k all p h))

whole_served : (s : ScenarioValue) (rows : List Row) (row : Row) (n : Connection)
    → RunsWhole s rows row → connection rows ≡ Some n → (bus rows).rst ≡ false
    → (bus (row ∷ rows)).rst ≡ false → shows_run (events_of_row s rows row) ≡ true
    → is_whole_run s (run_state s rows) (writers s rows) (process_served s (run_state s rows)) ≡ true
whole_served s rows row n whole con calm off shows = go (process_served s (run_state s rows)) refl
  where
    go : (o : Option Process) → process_served s (run_state s rows) ≡ o
        → is_whole_run s (run_state s rows) (writers s rows) o ≡ true
    go None e = refl
    go (Some p) e = whole_is s (run_state s rows) (writers s rows) p (whole n p con calm off shows e)

-- ---- a phase is left

where_left : (a b c d : Bool) → (a ≡ false → b ≡ false → (c || d) ≡ true) → (a || b || c || d) ≡ true
where_left true b c d f = refl
where_left false true c d f = refl
where_left false false c d f = f refl refl

calm_is : (d : RowReading) → IsCalmTurn d → is_calm_turn d ≡ true
calm_is d h = where_left (not (is_some d.next)) (not (changes_phase d.change))
    (not d.change.before.rst && not d.change.after.rst) (is_message_in d.change.before)
    (λ e f. by (h (is_not (is_some d.next) e) (is_not (changes_phase d.change) f)))
  where
    is_not : (q : Bool) → not q ≡ false → q ≡ true
    is_not true e = refl
    is_not false e = wrong e

    by : ((d.change.before.rst ≡ false) × (d.change.after.rst ≡ false)) ⊎ (is_message_in d.change.before ≡ true)
        → ((not d.change.before.rst && not d.change.after.rst) || is_message_in d.change.before) ≡ true
    by (inl z) = λ i. (not (z.0 i) && not (z.1 i)) || is_message_in d.change.before
    by (inr z) = or_right (not d.change.before.rst && not d.change.after.rst) (is_message_in d.change.before) z

-- ---- the row

pub row_attended : (s : ScenarioValue) (rows : List Row) (row : Row)
    → AreOfDevices rows → row.dev < 8 → IsAttended s rows row
    → is_attended s (run_state s rows) row (row_reading (run_state s rows).story.bus_state row) (instructions s rows)
    (writers s rows) ≡ true
row_attended s rows row dv lt h =
    ap (is_attended_if s k d i all (events_of_row s rows row)) pl.connection ∙ go (connection rows) refl
  where
    k : RunState
    k = run_state s rows

    d : RowReading
    d = row_reading k.story.bus_state row

    i : Instructions
    i = instructions s rows

    all : List Writer
    all = writers s rows

    pl : IsPlain s rows k
    pl = run_state_plain s rows dv

    c : d.change ≡ change_of rows row
    c = change_plain s row rows dv lt

    before : (bus rows).rst ≡ d.change.before.rst
    before = ap (λ (x : Change). x.before.rst) (sym c)

    after : (bus (row ∷ rows)).rst ≡ d.change.after.rst
    after = ap (λ (x : Change). x.after.rst) (sym c)

    inside : (n : Connection) → connection rows ≡ Some n → (bus rows).rst ≡ false → (bus (row ∷ rows)).rst ≡ false
        → is_attended_in s k d i all (events_of_row s rows row) n ≡ true
    inside n con calm off =
        let w = h.shows.inside n con calm off in
        and_from _ _ (all_in k n i.known (events_of_row s rows row) w.shown)
        (and_from _ _ (all_known k n i.known (events_of_row s rows row) w.shown) (and_from _ _ (quiet s rows row n w)
        (implication (shows_run (events_of_row s rows row)) _ (whole_served s rows row n h.whole con calm off))))

    by : (n : Connection) → connection rows ≡ Some n → d.change.after.rst ≡ false → (q : Bool) → d.change.before.rst ≡ q
        → (if d.change.before.rst then is_empty (events_of_row s rows row)
        else is_attended_in s k d i all (events_of_row s rows row) n) ≡ true
    by n con off true on = (λ j. if on j then is_empty (events_of_row s rows row)
        else is_attended_in s k d i all (events_of_row s rows row) n)
        ∙ ap is_empty (h.shows.after_reset n con (before ∙ on) (after ∙ off)).none
    by n con off false calm = (λ j. if calm j then is_empty (events_of_row s rows row)
        else is_attended_in s k d i all (events_of_row s rows row) n)
        ∙ inside n con (before ∙ calm) (after ∙ off)

    go : (o : Option Connection) → connection rows ≡ o → is_attended_if s k d i all (events_of_row s rows row) o ≡ true
    go None e = refl
    go (Some n) e =
        and_from _ _ (calm_is d h.turn) (unless d.change.after.rst _ (λ off. by n e off d.change.before.rst refl))

-- ---- all rows

pub rows_attended : (s : ScenarioValue) → ((p : List Row) (row : Row) → IsPrompt s (row ∷ p) → IsAttended s p row)
    → (rows : List Row) → IsPrompt s rows → attended s rows ≡ true
rows_attended s each [] prompt = refl
rows_attended s each (row ∷ rows) prompt = and_from _ _ (rows_attended s each rows prompt.0)
    (row_attended s rows row (of_devices s rows prompt.0) (least_is s rows row prompt.1).inside (each rows row prompt))
