-- What a target rests on beside what it hears in a connection: which events a row shows there, and that a write which
-- is carried out has come whole.
use Rattle.std.specs.Prelude.{ℕ, ◌+◌, Bool, true, false, not, ◌&&◌, ◌||◌, ◌==◌, List, [], ◌∷◌, length, Option, Some}
use Rattle.std.specs.Prelude.{None, is_some, nat_le, nat_lt, if◌then◌else◌}
use Rattle.bus_base.specs.declared.Event.{Event}
use Rattle.bus_base.specs.declared.Event.TheVariants as events
use Rattle.bus_base.specs.declared.ProcId.{ProcId}
use Rattle.bus_trace.specs.declared.Row.{Row}
use Rattle.bus_trace.specs.declared.connection.Connection.{Connection}
use Rattle.bus_trace.specs.Phases.{changes_phase, is_message_in}
use Rattle.cdb_codec.specs.declared.status.TheConstants.{GOOD}
use Rattle.scenario.specs.Value.{ScenarioValue}
use Rattle.array_model.specs.Processes.{Process, same_id}
use Rattle.array_model.specs.Units.{Array}
use Rattle.array_model.specs.ArrayHistory.{shows_run}
use Rattle.due_model.specs.story_model.specs.BusState.{RowReading, row_reading}
use Rattle.due_model.specs.story_model.specs.HistoryEvents.{row_events_by}
use Rattle.due_model.specs.story_model.specs.Items.{Item, process, abort}
use Rattle.due_model.specs.dialogue_model.specs.NextPhase.{phase_of}
use Rattle.due_model.specs.dialogue_model.specs.Events.{is_empty}
use Rattle.due_model.specs.LastingState.{progress_in}
use Rattle.due_model.specs.RunState.{RunState, array_of, bus_of, process_served}
use Rattle.due_model.specs.RunSteps.{run_state}
use Rattle.due_model.specs.Tasks.{reply_now, is_writing}
use Rattle.target_course.specs.scsi_device.specs.Heard.{Instructions, instructions, is_new, is_opening}
use Rattle.target_course.specs.scsi_device.specs.Writes.{Writer, writer_of, writers, is_writer, is_data_out}
use Rattle.target_course.specs.scsi_device.specs.Writes.{start_of_run}

-- ---- each event of a row is of the process that the target of the connection serves, or of an abort in the connection

abbrev pub is_of_process : ProcId → Event → Bool
is_of_process id (events.Accept e) = same_id e id
is_of_process id (events.Refuse e) = same_id e id
is_of_process id (events.Run e) = same_id e id
is_of_process id (events.Fail e code) = same_id e id
is_of_process id (events.End e status) = same_id e id
is_of_process id (events.Lost e) = same_id e id
is_of_process id (events.Aborted host target unit what) = false
is_of_process id (events.Reset dev) = false

abbrev pub is_of_item : Option Item → Event → Bool
is_of_item None e = false
is_of_item (Some (process id)) e = is_of_process id e
is_of_item (Some (abort n)) e = false

abbrev pub is_abort_in : Connection → Event → Bool
is_abort_in n (events.Aborted host target unit what) =
    host == n.initiator && target == n.target && (nat_lt unit 8 && nat_lt host 8)
is_abort_in n (events.Accept e) = false
is_abort_in n (events.Refuse e) = false
is_abort_in n (events.Run e) = false
is_abort_in n (events.Fail e code) = false
is_abort_in n (events.End e status) = false
is_abort_in n (events.Lost e) = false
is_abort_in n (events.Reset dev) = false

abbrev pub are_in : Connection → Option Item → List Event → Bool
are_in n item [] = true
are_in n item (e ∷ shown) = (is_of_item item e || is_abort_in n e) && are_in n item shown

-- ---- a process ends GOOD only where its command is known

abbrev pub is_known_end : Bool → Event → Bool
is_known_end known (events.End id status) = known || not (status == GOOD)
is_known_end known (events.Accept id) = true
is_known_end known (events.Refuse id) = true
is_known_end known (events.Run id) = true
is_known_end known (events.Fail id code) = true
is_known_end known (events.Lost id) = true
is_known_end known (events.Aborted host target unit what) = true
is_known_end known (events.Reset dev) = true

abbrev pub are_known_ends : Bool → List Event → Bool
are_known_ends known [] = true
are_known_ends known (e ∷ shown) = is_known_end known e && are_known_ends known shown

-- ---- a process that runs, and would end GOOD, has sent all that it sends: with the runs that it has made, and with
-- the present one in DATA OUT

abbrev pub received_count : ScenarioValue → RunState → Process → ℕ
received_count s k p = start_of_run s p (progress_in k.progress p.id).runs
    + (if is_data_out (phase_of (bus_of k)) then k.handshakes.answers else 0)

abbrev pub is_whole_of : ScenarioValue → RunState → List Writer → Process → Bool
is_whole_of s k all p = length p.sent == 0 || (is_writing p
    && (is_writer (writer_of all p.target p.unit) p.id && nat_le (length p.sent) (received_count s k p)))

abbrev pub ends_good : Array → Process → Bool
ends_good a p = (reply_now a p).status == GOOD

abbrev pub is_whole_run : ScenarioValue → RunState → List Writer → Option Process → Bool
is_whole_run s k all None = true
is_whole_run s k all (Some p) = not (ends_good (array_of s k) p) || is_whole_of s k all p

-- ---- a row in a connection; in one after which RST is true, and one before which it was, nothing is shown of
-- processes

-- In the opening after a selection nothing is shown while the connection stands; and where it ends there its process
-- has not arrived.
abbrev pub is_unseen : Array → Option Process → Bool
is_unseen a None = true
is_unseen a (Some p) = is_new a p

abbrev pub is_quiet : ScenarioValue → RunState → Connection → Bool → List Event → Bool
is_quiet s k n stands shown = n.reselected || not (is_opening k)
    || (if stands then is_empty shown else is_unseen (array_of s k) (process_served s k))

abbrev pub is_attended_in : ScenarioValue → RunState → RowReading → Instructions → List Writer → List Event → Connection
    → Bool
is_attended_in s k d i all shown n = are_in n k.served shown && (are_known_ends i.known shown
    && (is_quiet s k n (is_some d.next) shown && (not (shows_run shown) || is_whole_run s k all (process_served s k))))

-- A phase is left while RST is false; but for MESSAGE IN, as a reselection is cut by RST: there the initiator still
-- drives BSY, and the target lets the phase lines go (6.1.4, 6.2.2).
abbrev pub is_calm_turn : RowReading → Bool
is_calm_turn d = not (is_some d.next) || not (changes_phase d.change)
    || (not d.change.before.rst && not d.change.after.rst) || is_message_in d.change.before

abbrev pub is_attended_row : ScenarioValue → RunState → RowReading → Instructions → List Writer → List Event
    → Connection → Bool
is_attended_row s k d i all shown n =
    is_calm_turn d
    && (d.change.after.rst || (if d.change.before.rst then is_empty shown else is_attended_in s k d i all shown n))

abbrev pub is_attended_if : ScenarioValue → RunState → RowReading → Instructions → List Writer → List Event
    → Option Connection → Bool
is_attended_if s k d i all shown None = true
is_attended_if s k d i all shown (Some n) = is_attended_row s k d i all shown n

abbrev pub is_attended : ScenarioValue → RunState → Row → RowReading → Instructions → List Writer → Bool
is_attended s k row d i all = is_attended_if s k d i all (row_events_by s k.story d row) k.story.bus_state.connection

-- Of all rows.
abbrev pub attended : ScenarioValue → List Row → Bool
attended s [] = true
attended s (row ∷ rows) = attended s rows && is_attended s (run_state s rows) row
    (row_reading (run_state s rows).story.bus_state row) (instructions s rows) (writers s rows)
