-- What is kept from row to row, and the tests that tie devices to rows, computed on small states: each case decides a
-- condition of `due_model` that no kept run does, by what docs/behaviour.md says of it.
use Rattle.std.proofs.Common.{ℕ, ◌≡◌, Bool, true, false, not, List, [], ◌∷◌, refl}
use Rattle.std.specs.Prelude.{◌==◌, Option, Some, None, replicate, slice_set}
use lib.Count.{ones}
use Rattle.due_model.specs.bus_base.specs.declared.AbortKind.TheVariants as aborts
use Rattle.due_model.specs.bus_base.specs.declared.Event.{Event}
use Rattle.due_model.specs.bus_base.specs.declared.Event.TheVariants as events
use Rattle.due_model.specs.bus_trace.specs.LineSet.{none, set_of, line_of}
use Rattle.due_model.specs.bus_trace.specs.View.{union_below}
use Rattle.due_model.specs.bus_trace.specs.declared.Row.{Row}
use Rattle.due_model.specs.bus_trace.specs.declared.Kind.TheVariants.{Drives, Fault}
use Rattle.due_model.specs.bus_trace.specs.declared.changes.Change.{Change}
use Rattle.due_model.specs.bus_trace.specs.declared.selection.Call.{Call}
use Rattle.due_model.specs.bus_trace.specs.declared.selection.Calling.{Calling}
use Rattle.due_model.specs.bus_trace.specs.declared.connection.Connection.{Connection}
use Rattle.due_model.specs.bus_lines.specs.declared.stage.Stage.TheVariants.{OnFreeBus, InArbitration, InCalling}
use Rattle.due_model.specs.bus_lines.specs.declared.stage.Stage.TheVariants.{InAnswer, InConnection, InReset}
use Rattle.due_model.specs.msg_grammar.specs.Messages.{form_out, form_in}
use Rattle.due_model.specs.scenario.specs.declared.value.Tag.TheVariants as tags
use Rattle.due_model.specs.scenario.specs.declared.value.ResetDef.{ResetDef}
use Rattle.due_model.specs.scenario.specs.Needs.{need_of, sent_of}
use Rattle.due_model.specs.array_model.specs.Processes.{Process}
use Rattle.due_model.specs.array_model.specs.Units.{UnitState, Array, starting_array}
use Rattle.due_model.specs.story_model.specs.BusState.{RowReading, quiet_bus, row_reading}
use Rattle.due_model.specs.story_model.specs.Items.{Item, process, abort, command_item}
use Rattle.due_model.specs.story_model.specs.Links.{link_of}
use Rattle.due_model.specs.story_model.specs.Outcomes.{ended_good, ended_check, ended_full, ended_unanswered}
use Rattle.due_model.specs.story_model.specs.Outcomes.{ended_lost}
use Rattle.due_model.specs.story_model.specs.Outcomes.{ended_reset, ended_aborted}
use Rattle.due_model.specs.story_model.specs.Story.{empty_story}
use Rattle.due_model.specs.dialogue_model.specs.Exchange.{Exchange, no_exchange, no_messages, nothing_heard, no_plan}
use Rattle.due_model.specs.dialogue_model.specs.declared.exchange.Cause.TheVariants as causes
use Rattle.due_model.specs.dialogue_model.specs.declared.exchange.Phase.TheVariants as phases
use Rattle.due_model.specs.dialogue_model.specs.declared.exchange.Said.{Said}
use Rattle.due_model.specs.dialogue_model.specs.declared.exchange.Task.{Task}
use Rattle.due_model.specs.array_model.specs.ArrayHistory.{array_after}
use Rattle.due_model.specs.Allowed.{allowed}
use Rattle.due_model.specs.Due.{reset_from}
use Rattle.due_model.specs.Faithful.{is_unit, same_tag, is_process_named, is_kind, is_abort_named, is_item_named}
use Rattle.due_model.specs.Faithful.{is_opening_named, is_block_of_process, is_true_leaving, is_sent_at}
use Rattle.due_model.specs.Faithful.{is_true_crossing}
use Rattle.due_model.specs.Faithful.{has_ends, same_process, is_known_process, is_true_hearing, is_faithful, faithful}
use Rattle.due_model.specs.Goals.{is_good}
use Rattle.due_model.specs.LastingState.{Negotiated, none_negotiated, has_negotiated, negotiated_after}
use Rattle.due_model.specs.Own.{idle_device, own_at, own_after, owns_after, own_of}
use Rattle.due_model.specs.Plain.{crossed}
use Rattle.due_model.specs.RunState.{RunState, or_start}
use Rattle.due_model.specs.RunSteps.{first_run_state, may_negotiate, opening_of, naming_of, exchange_on}
use Rattle.due_model.specs.RunSteps.{negotiated_by_connection, leaving_of}
use Rattle.due_model.specs.Sights.{hearing_of}
use Rattle.due_model.specs.Sound.{each_device, is_quiet, contends_or_not, call_sides, initiator_side, target_side}
use Rattle.due_model.specs.Sound.{link_sides, sides_by, are_sides_kept, is_ahead, looks_ahead, is_sound, sound}
use Rattle.due_model.specs.Tasks.{room_of}
use Rattle.due_model.specs.Telling.{id_or_none, same_kind, same_event, same_events, events_of_ends_in, telling}
use Rattle.due_model.specs.Wishes.{is_entry_row}
use Rattle.bus_cases.proofs.ArrayCases.{command, test_unit_ready, disks}

abbrev drive : ℕ → ℕ → ℕ → Row
drive time dev lines = record { time = time; dev = dev; kind = Drives (set_of lines) }

abbrev start : RunState
start = first_run_state disks

-- The two ends, 7 and 0, of a connection that a selection or a reselection began.
abbrev between : Bool → Connection
between reselected = record { initiator = 7; target = 0; began = 0; reselected = reselected }

-- ---- a reset line that falls while its device drives RST, or as it releases it, is dropped

abbrev resets : ℕ → List ResetDef
resets time = record { dev = 6; at = 20000 } ∷ record { dev = 7; at = time } ∷ []

first_reset : reset_from 7 None (resets 20000) ≡ Some 20000
first_reset = refl

reset_at_the_release : reset_from 7 (Some 26000) (resets 26000) ≡ None
reset_at_the_release = refl

reset_after_the_release : reset_from 7 (Some 26000) (resets 26001) ≡ Some 26001
reset_after_the_release = refl

-- ---- which pairs have had the connection in which they may negotiate

abbrev three_pairs : Negotiated
three_pairs = record none_negotiated { pairs = (7, 0) ∷ (7, 1) ∷ (6, 0) ∷ [] }

-- In text 2 a BUS DEVICE RESET gives it back to the pairs of its target, in text 1 it takes it from them for good.
text_two_gives_it_back : (negotiated_after 2 three_pairs (events.Aborted 6 0 0 aborts.Device ∷ [])).pairs ≡ (7, 1) ∷ []
text_two_gives_it_back = refl

text_one_takes_it_away :
    has_negotiated (negotiated_after 1 none_negotiated (events.Aborted 6 0 0 aborts.Device ∷ [])) 7 0
    ≡ true
text_one_takes_it_away = refl

text_one_leaves_it_to_another_target :
    has_negotiated (negotiated_after 1 none_negotiated (events.Aborted 6 0 0 aborts.Device ∷ [])) 7 1
    ≡ false
text_one_leaves_it_to_another_target = refl

abbrev aimed : RunState
aimed = record start { story = record empty_story { aims = slice_set (replicate 8 None) 7 (Some (command_item 1)) } }

selected_pair : (negotiated_by_connection aimed None (Some (between false))).pairs ≡ (7, 0) ∷ []
selected_pair = refl

reselected_pair : (negotiated_by_connection aimed None (Some (between true))).pairs ≡ []
reselected_pair = refl

may_for_a_process : may_negotiate start (between false) (Some (command_item 1)) ≡ true
may_for_a_process = refl

may_not_for_an_abort : may_negotiate start (between false) (Some (abort 1)) ≡ false
may_not_for_an_abort = refl

may_not_for_nothing : may_negotiate start (between false) None ≡ false
may_not_for_nothing = refl

-- ---- what is said first: by the initiator after a selection, by the target after a reselection

abbrev array_with : List Event → Array
array_with history = or_start disks (array_after disks history)

-- Target 0 has a process that is ready.
abbrev ready : RunState
ready = record start { array = Some (array_with (events.Accept (command 3) ∷ [])); current_since = 0 ∷ 0 ∷ 0 ∷ [] }

says_identify : opening_of disks start (between false) (Some (command_item 3)) ≡ 0xc1 ∷ 0x20 ∷ 0x01 ∷ []
unfolding need_of sent_of ones
says_identify = refl

says_nothing_when_reselected : opening_of disks start (between true) (Some (command_item 3)) ≡ []
unfolding need_of sent_of ones
says_nothing_when_reselected = refl

names_nothing_when_selected : naming_of disks ready (between false) ≡ no_messages
unfolding need_of sent_of ones
names_nothing_when_selected = refl

-- A row that leaves the phase lines as they are begins no phase.
abbrev first_entry : Row
first_entry = drive 1200 7 0x00280

abbrev goes_on_after : Row → Exchange
goes_on_after row =
    exchange_on None (hearing_of start row (row_reading quiet_bus row)) (leaving_of disks start None) no_exchange

not_begun : (goes_on_after first_entry).begun ≡ false
unfolding need_of sent_of ones form_out form_in
not_begun = refl

-- ---- a unit is idle without a current process, a hold, and processes that wait

abbrev first_unit : List UnitState → Option UnitState
first_unit [] = None
first_unit (u ∷ units) = Some u

abbrev without_current : Option UnitState → Option UnitState
without_current None = None
without_current (Some u) = Some (record u { current = None })

abbrev busy : Array
busy = array_with (events.Accept (command 2) ∷ events.Accept (command 1) ∷ [])

idle_at_the_start :
    room_of (starting_array disks) (first_unit (starting_array disks).units)
    ≡ Some (record { full = false; idle = true })
idle_at_the_start = refl

not_idle_with_a_current_process :
    room_of (array_with (events.Accept (command 1) ∷ []))
    (first_unit (array_with (events.Accept (command 1) ∷ [])).units)
    ≡ Some (record { full = false; idle = false })
unfolding need_of sent_of ones
not_idle_with_a_current_process = refl

not_idle_while_one_waits :
    room_of busy (without_current (first_unit busy.units))
    ≡ Some (record { full = false; idle = false })
unfolding need_of sent_of ones
not_idle_while_one_waits = refl

-- ---- what each device did itself: a row of another, and a fault, change nothing of it

own_last_row : (own_of (drive 5 6 0x00240 ∷ drive 3 7 0x00280 ∷ []) 7).row ≡ 3
unfolding ones union_below line_of
own_last_row = refl

abbrev still : Change
still = record { before = none; after = none; own = none; next = none }

fault_is_no_row_of_lines :
    (own_at (owns_after (replicate 8 idle_device) (record { time = 9; dev = 7; kind = Fault 0 }) still) 7).row
    ≡ 0
fault_is_no_row_of_lines = refl

raised_rst_before : (own_after (record idle_device { rst = 4 }) still 9).rst ≡ 4
raised_rst_before = refl

raises_rst_now : (own_after idle_device (record still { next = set_of 0x20000 }) 9).rst ≡ 9
raises_rst_now = refl

-- ---- GOOD is the only outcome that is good

good_is_good : is_good (Some (ended_good [])) ≡ true
good_is_good = refl

none_is_not_good : is_good None ≡ false
none_is_not_good = refl

check_is_not_good : is_good (Some (ended_check None)) ≡ false
check_is_not_good = refl

full_is_not_good : is_good (Some ended_full) ≡ false
full_is_not_good = refl

unanswered_is_not_good : is_good (Some ended_unanswered) ≡ false
unanswered_is_not_good = refl

lost_is_not_good : is_good (Some ended_lost) ≡ false
lost_is_not_good = refl

reset_is_not_good : is_good (Some ended_reset) ≡ false
reset_is_not_good = refl

aborted_is_not_good : is_good (Some ended_aborted) ≡ false
aborted_is_not_good = refl

-- ---- rows from the first on: 7 selects 0 for its first command

abbrev linked : List Row
linked =
    drive 5380 7 0x10000
    ∷ drive 5290 0 0x00200
    ∷ drive 4890 7 0x10581
    ∷ drive 4800 7 0x10781
    ∷ drive 3600 7 0x00680
    ∷ first_entry
    ∷ []

enters : is_entry_row disks [] (first_entry) ≡ true
unfolding need_of sent_of ones form_out form_in
enters = refl

wins : is_entry_row disks (first_entry ∷ []) (drive 3600 7 0x00680) ≡ false
unfolding need_of sent_of ones form_out form_in
wins = refl

-- Its byte c0 crosses as it raises ACK.
abbrev byte_crossed : List Row
byte_crossed = drive 5835 7 0x181c0 ∷ drive 5780 7 0x101c0 ∷ drive 5780 0 0x06a00 ∷ drive 5380 0 0x02a00 ∷ linked

shows_what_crossed :
    crossed byte_crossed
    ≡ Some (record { before = set_of 0x16bc0; after = set_of 0x1ebc0; own = set_of 0x101c0; next = set_of 0x181c0 })
unfolding ones union_below line_of
shows_what_crossed = refl

nothing_crossed : crossed (drive 5835 0 0x02a00 ∷ byte_crossed) ≡ None
unfolding ones union_below line_of
nothing_crossed = refl

-- ---- each end shows what the rows show: not where the target leaves before the first phase, which loses the command

abbrev left_at_once : List Row
left_at_once = drive 5400 0 0x00000 ∷ linked

tells_at_first : telling disks linked ≡ true
unfolding need_of sent_of ones union_below line_of form_out form_in
tells_at_first = refl

tells_no_loss : telling disks left_at_once ≡ false
unfolding need_of sent_of ones union_below line_of form_out form_in
tells_no_loss = refl

told_no_loss : telling disks (drive 9000 6 0x00240 ∷ left_at_once) ≡ false
unfolding need_of sent_of ones union_below line_of form_out form_in
told_no_loss = refl

of_no_process : id_or_none None ≡ record { command = 0; sense = false }
of_no_process = refl

same_tags_aborted : same_kind (aborts.Tag 1) (aborts.Tag 1) ≡ true
same_tags_aborted = refl

other_tags_aborted : same_kind (aborts.Tag 1) (aborts.Tag 2) ≡ false
other_tags_aborted = refl

other_kinds_of_abort : same_kind aborts.All aborts.Device ≡ false
other_kinds_of_abort = refl

other_process_accepted : same_event (events.Accept (command 1)) (events.Accept (command 2)) ≡ false
other_process_accepted = refl

other_process_refused : same_event (events.Refuse (command 1)) (events.Refuse (command 2)) ≡ false
other_process_refused = refl

other_process_runs : same_event (events.Run (command 1)) (events.Run (command 2)) ≡ false
other_process_runs = refl

other_process_fails : same_event (events.Fail (command 1) 0x47) (events.Fail (command 2) 0x47) ≡ false
other_process_fails = refl

fails_by_another_code : same_event (events.Fail (command 1) 0x47) (events.Fail (command 1) 0x48) ≡ false
fails_by_another_code = refl

other_process_ends : same_event (events.End (command 1) 0) (events.End (command 2) 0) ≡ false
other_process_ends = refl

ends_with_another_status : same_event (events.End (command 1) 0) (events.End (command 1) 2) ≡ false
ends_with_another_status = refl

other_process_lost : same_event (events.Lost (command 1)) (events.Lost (command 2)) ≡ false
other_process_lost = refl

other_initiator_aborts : same_event (events.Aborted 7 0 0 aborts.All) (events.Aborted 6 0 0 aborts.All) ≡ false
other_initiator_aborts = refl

aborts_at_another_target : same_event (events.Aborted 7 0 0 aborts.All) (events.Aborted 7 1 0 aborts.All) ≡ false
aborts_at_another_target = refl

aborts_at_another_unit : same_event (events.Aborted 7 0 0 aborts.All) (events.Aborted 7 0 1 aborts.All) ≡ false
aborts_at_another_unit = refl

aborts_something_else : same_event (events.Aborted 7 0 0 aborts.All) (events.Aborted 7 0 0 aborts.WholeQueue) ≡ false
aborts_something_else = refl

other_device_resets : same_event (events.Reset 7) (events.Reset 6) ≡ false
other_device_resets = refl

other_event : same_event (events.Accept (command 1)) (events.Run (command 1)) ≡ false
other_event = refl

no_event_and_one : same_events [] (events.Reset 7 ∷ []) ≡ false
no_event_and_one = refl

one_event_and_none : same_events (events.Reset 7 ∷ []) [] ≡ false
one_event_and_none = refl

another_first_event : same_events (events.Reset 7 ∷ events.Reset 5 ∷ []) (events.Reset 6 ∷ events.Reset 5 ∷ []) ≡ false
another_first_event = refl

another_second_event : same_events (events.Reset 7 ∷ events.Reset 5 ∷ []) (events.Reset 7 ∷ events.Reset 6 ∷ []) ≡ false
another_second_event = refl

-- ---- the array permits each event: not COMMAND COMPLETE of a process that has not run

abbrev complete_at_once : List Row
complete_at_once = drive 5780 0 0x07b00 ∷ drive 5380 0 0x03a00 ∷ linked

permits_at_first : allowed disks complete_at_once ≡ true
unfolding need_of sent_of ones union_below line_of form_out form_in
permits_at_first = refl

permits_no_such_end : allowed disks (drive 5780 7 0x08000 ∷ complete_at_once) ≡ false
unfolding need_of sent_of ones union_below line_of form_out form_in
permits_no_such_end = refl

-- ---- what crossed is what was to be said: not where 7 calls another target than that of its command

abbrev other_target : List Row
other_target =
    drive 5290 1 0x00200
    ∷ drive 4890 7 0x10582
    ∷ drive 4800 7 0x10782
    ∷ drive 3600 7 0x00680
    ∷ first_entry
    ∷ []

calls_another_target : faithful disks other_target ≡ true
unfolding need_of sent_of ones union_below line_of form_out form_in
calls_another_target = refl

links_another_target : faithful disks (drive 5380 7 0x10000 ∷ other_target) ≡ false
unfolding need_of sent_of ones union_below line_of form_out form_in
links_another_target = refl

linked_another_target : faithful disks (drive 5400 1 0x02a00 ∷ drive 5380 7 0x10000 ∷ other_target) ≡ false
unfolding need_of sent_of ones union_below line_of form_out form_in
linked_another_target = refl

no_unit_said : is_unit None 0 ≡ false
no_unit_said = refl

another_unit_said : is_unit (Some 1) 0 ≡ false
another_unit_said = refl

another_simple_tag : same_tag (tags.Simple 1) (tags.Simple 2) ≡ false
another_simple_tag = refl

another_ordered_tag : same_tag (tags.Ordered 1) (tags.Ordered 2) ≡ false
another_ordered_tag = refl

another_head_tag : same_tag (tags.Head 1) (tags.Head 2) ≡ false
another_head_tag = refl

another_kind_of_tag : same_tag (tags.Simple 1) (tags.Head 1) ≡ false
another_kind_of_tag = refl

-- A process without tag of 7 at unit 0 of target 0, which sends two bytes.
abbrev sender : Process
sender = record {
  id = command 1;
  initiator = 7;
  target = 0;
  unit = 0;
  tag = tags.Untagged;
  cdb = test_unit_ready;
  sent = 8 ∷ 9 ∷ [];
  serial = false;
}

abbrev unit_said : Said
unit_said = record nothing_heard { unit = Some 0 }

any_words_name_no_process : is_process_named nothing_heard None ≡ true
any_words_name_no_process = refl

its_own_names : is_process_named unit_said (Some sender) ≡ true
its_own_names = refl

names_without_a_unit : is_process_named nothing_heard (Some sender) ≡ false
names_without_a_unit = refl

names_with_a_tag : is_process_named (record unit_said { tag = tags.Simple 1 }) (Some sender) ≡ false
names_with_a_tag = refl

names_with_an_abort : is_process_named (record unit_said { aborts = Some aborts.All }) (Some sender) ≡ false
names_with_an_abort = refl

no_kind_said : is_kind None aborts.All ≡ false
no_kind_said = refl

another_kind_said : is_kind (Some aborts.Device) aborts.All ≡ false
another_kind_said = refl

abbrev all_aborted : Said
all_aborted = record unit_said { aborts = Some aborts.All }

any_words_name_no_abort : is_abort_named nothing_heard None ≡ true
any_words_name_no_abort = refl

its_own_abort :
    is_abort_named all_aborted (Some (record { host = 7; target = 0; unit = 0; at = 0; what = aborts.All }))
    ≡ true
its_own_abort = refl

abort_of_another_unit :
    is_abort_named all_aborted (Some (record { host = 7; target = 0; unit = 1; at = 0; what = aborts.All }))
    ≡ false
abort_of_another_unit = refl

abort_of_something_else :
    is_abort_named all_aborted (Some (record { host = 7; target = 0; unit = 0; at = 0; what = aborts.WholeQueue }))
    ≡ false
abort_of_something_else = refl

any_words_name_nothing : is_item_named disks nothing_heard None ≡ true
any_words_name_nothing = refl

words_of_no_process : is_item_named disks nothing_heard (Some (command_item 1)) ≡ false
unfolding need_of sent_of ones
words_of_no_process = refl

words_of_no_abort :
    is_item_named (record disks { aborts = record { host = 7; target = 0; unit = 0; at = 0; what = aborts.All } ∷ [] })
    nothing_heard (Some (abort 1))
    ≡ false
words_of_no_abort = refl

opening_of_another : is_opening_named disks no_plan (Some (command_item 1)) causes.Selected ≡ false
unfolding need_of sent_of ones
opening_of_another = refl

struck_opening :
    is_opening_named disks (record no_plan { struck = true }) (Some (command_item 1)) causes.Selected
    ≡ true
unfolding need_of sent_of ones
struck_opening = refl

block_of_no_process : is_block_of_process disks start None ≡ true
block_of_no_process = refl

no_block_of_a_process : is_block_of_process disks start (Some sender) ≡ false
no_block_of_a_process = refl

leaves_message_out :
    is_true_leaving disks (record start { served = Some (command_item 1) }) (Some sender) phases.MessageOut
    ≡ false
unfolding need_of sent_of ones
leaves_message_out = refl

leaves_command : is_true_leaving disks start (Some sender) phases.Command ≡ false
leaves_command = refl

abbrev two_bytes : Task
two_bytes = record {
  writes = true;
  moved = 2;
  blocks = None;
  size = 16;
  runs = 0;
  recoveries = 0;
  in_hold = false;
  whole = true;
  replied = false;
  status = 0;
}

sends_its_byte : is_sent_at disks start sender (Some two_bytes) 8 ≡ true
sends_its_byte = refl

sends_another_byte : is_sent_at disks start sender (Some two_bytes) 9 ≡ false
sends_another_byte = refl

any_byte_without_a_task : is_sent_at disks start sender None 9 ≡ true
any_byte_without_a_task = refl

ends_of_the_process : has_ends (Some sender) (between false) ≡ true
ends_of_the_process = refl

another_initiator : has_ends (Some sender) (record (between false) { initiator = 6 }) ≡ false
another_initiator = refl

another_target : has_ends (Some sender) (record (between false) { target = 1 }) ≡ false
another_target = refl

no_process_and_one : same_process None (Some (command_item 1)) ≡ true
no_process_and_one = refl

one_process_and_none : same_process (Some (command_item 1)) None ≡ false
one_process_and_none = refl

one_process_and_another : same_process (Some (command_item 1)) (Some (command_item 2)) ≡ false
one_process_and_another = refl

-- In a connection whose target serves command 2, while its initiator knows of the process of this link, on this bus.
abbrev serving : Bool → Option Item → ℕ → RunState
serving begun item lines = record start {
  served = Some (command_item 2);
  exchange = record no_exchange { begun = begun };
  story = record empty_story {
    bus_state = record quiet_bus { connection = Some (between false); bus = set_of lines };
    link = Some (link_of (between false) item);
  };
}

abbrev goes_on : Bool → ℕ → ℕ → RowReading
goes_on crosses before after = record {
  change = record { before = set_of before; after = set_of after; own = none; next = none };
  next = Some (between false);
  crosses = crosses;
  out = None;
  into = None;
}

unknown_in_message_in : is_known_process (serving true None 0x03a00) phases.MessageIn ≡ false
unknown_in_message_in = refl

unknown_with_attention : is_known_process (serving true None 0x13a00) phases.MessageIn ≡ true
unknown_with_attention = refl

unknown_in_status : is_known_process (serving true None 0x01a00) phases.Status ≡ false
unknown_in_status = refl

leaves_status_unknown : is_faithful disks (serving true None 0x01a00) (goes_on false 0x01a00 0x03a00) ≡ false
unfolding need_of sent_of ones
leaves_status_unknown = refl

leaves_status_known :
    is_faithful disks (serving true (Some (command_item 2)) 0x01a00) (goes_on false 0x01a00 0x03a00)
    ≡ true
unfolding need_of sent_of ones
leaves_status_known = refl

leaves_nothing_before_a_phase :
    is_true_hearing disks (serving false None 0x01a00) (goes_on false 0x01a00 0x03a00)
    ≡ true
unfolding need_of sent_of ones
leaves_nothing_before_a_phase = refl

leaves_command_without_a_block :
    is_true_hearing disks (serving true (Some (command_item 2)) 0x00a00) (goes_on false 0x00a00 0x01a00)
    ≡ false
unfolding need_of sent_of ones
leaves_command_without_a_block = refl

-- Command 2 sends no bytes: past the end stands 00.
hears_another_byte :
    is_true_hearing disks (serving true (Some (command_item 2)) 0x00200) (goes_on true 0x00201 0x08201)
    ≡ false
unfolding need_of sent_of ones
hears_another_byte = refl

hears_no_byte :
    is_true_hearing disks (serving true (Some (command_item 2)) 0x00200) (goes_on false 0x00201 0x00201)
    ≡ true
unfolding need_of sent_of ones
hears_no_byte = refl

byte_of_data_out :
    is_true_crossing disks (serving true (Some (command_item 2)) 0x00200) (Some sender) 9 phases.DataOut
    ≡ false
unfolding need_of sent_of ones
byte_of_data_out = refl

-- The target frees the bus in DATA OUT, whose phase lines are false already: the command is lost (6.1.1).
frees_the_bus_in_data_out :
    events_of_ends_in disks (serving true (Some (command_item 2)) 0x00200) (Some (between false))
    (record (goes_on false 0x00200 0x00000) { next = None })
    ≡ events.Lost (command 2) ∷ []
unfolding need_of sent_of ones
frees_the_bus_in_data_out = refl

-- ---- which device drives what

device_0 : each_device (λ d. not (d == 0)) ≡ false
device_0 = refl

device_1 : each_device (λ d. not (d == 1)) ≡ false
device_1 = refl

device_2 : each_device (λ d. not (d == 2)) ≡ false
device_2 = refl

device_3 : each_device (λ d. not (d == 3)) ≡ false
device_3 = refl

device_4 : each_device (λ d. not (d == 4)) ≡ false
device_4 = refl

device_5 : each_device (λ d. not (d == 5)) ≡ false
device_5 = refl

device_6 : each_device (λ d. not (d == 6)) ≡ false
device_6 = refl

device_7 : each_device (λ d. not (d == 7)) ≡ false
device_7 = refl

-- 7, 3 and 0 drive these lines, the others none.
abbrev driving : ℕ → ℕ → ℕ → RunState
driving of_7 of_3 of_0 = record start {
  story = record empty_story {
    bus_state = record quiet_bus {
      driven = set_of of_0 ∷ none ∷ none ∷ set_of of_3 ∷ none ∷ none ∷ none ∷ set_of of_7 ∷ [];
    };
  };
}

drives_a_line : is_quiet (driving 0 0x00001 0) 3 ≡ false
drives_a_line = refl

contends : contends_or_not (driving 0x00280 0 0) 7 ≡ true
contends = refl

contends_with_another_id : contends_or_not (driving 0x00240 0 0) 7 ≡ false
contends_with_another_id = refl

abbrev called : Call
called = record { caller = 7; at = 3600; calling = None }

abbrev asked : Calling
asked = record {
  called = 0;
  reselects = false;
  at = 4800;
  released = Some 4890;
  withdrawn = None;
  resumed = None;
  answered = Some 5290;
  struck = false;
}

winner_alone : call_sides (driving 0x00680 0x00208 0) called None ≡ true
winner_alone = refl

winner_and_a_stray_line : call_sides (driving 0x00680 0x00001 0) called None ≡ false
winner_and_a_stray_line = refl

caller_and_called : call_sides (driving 0x10581 0 0x00200) called (Some asked) ≡ true
caller_and_called = refl

caller_and_a_third : call_sides (driving 0x10581 0x00208 0x00200) called (Some asked) ≡ false
caller_and_a_third = refl

side_of_an_initiator : initiator_side (between false) (set_of 0x181c0) ≡ true
side_of_an_initiator = refl

initiator_drives_req : initiator_side (between false) (set_of 0x04000) ≡ false
initiator_drives_req = refl

initiator_drives_sel : initiator_side (between false) (set_of 0x00400) ≡ false
initiator_drives_sel = refl

initiator_drives_rst : initiator_side (between false) (set_of 0x20000) ≡ false
initiator_drives_rst = refl

initiator_drives_bsy : initiator_side (between false) (set_of 0x00200) ≡ false
initiator_drives_bsy = refl

reselected_initiator_drives_bsy : initiator_side (between true) (set_of 0x00200) ≡ true
reselected_initiator_drives_bsy = refl

side_of_a_target : target_side (set_of 0x07b00) ≡ true
side_of_a_target = refl

target_drives_ack : target_side (set_of 0x08200) ≡ false
target_drives_ack = refl

target_drives_sel : target_side (set_of 0x00600) ≡ false
target_drives_sel = refl

target_drives_rst : target_side (set_of 0x20200) ≡ false
target_drives_rst = refl

target_without_bsy : target_side (set_of 0x07900) ≡ false
target_without_bsy = refl

sides_of_a_connection : link_sides (driving 0x181c0 0 0x06a00) (between false) ≡ true
sides_of_a_connection = refl

third_in_a_connection : link_sides (driving 0x181c0 0x00001 0x06a00) (between false) ≡ false
third_in_a_connection = refl

data_from_both_ends : link_sides (driving 0x181c0 0 0x06a01) (between false) ≡ false
data_from_both_ends = refl

line_on_a_free_bus : sides_by (driving 0 0x00001 0) (OnFreeBus 0) ≡ false
line_on_a_free_bus = refl

line_in_an_arbitration :
    sides_by (driving 0x00280 0x00001 0) (InArbitration (record { free = 0; first = 1200 }))
    ≡ false
line_in_an_arbitration = refl

line_in_a_calling : sides_by (driving 0x00680 0x00001 0) (InCalling called) ≡ false
line_in_a_calling = refl

line_in_an_answer : sides_by (driving 0x10581 0x00001 0x00200) (InAnswer called asked 5290) ≡ false
line_in_an_answer = refl

line_in_a_connection : sides_by (driving 0x181c0 0x00001 0x06a00) (InConnection (between false)) ≡ false
line_in_a_connection = refl

line_beside_rst : sides_by (driving 0x20200 0 0x06a00) (InReset 0) ≡ false
line_beside_rst = refl

rst_alone : sides_by (driving 0x20000 0 0x06a00) (InReset 0) ≡ true
rst_alone = refl

-- ---- nothing due lies in the past

in_the_past : is_ahead 5 (Some (record { time = 4; kind = Fault 0 })) ≡ false
in_the_past = refl

just_now : is_ahead 5 (Some (record { time = 5; kind = Fault 0 })) ≡ true
just_now = refl

sides_are_not_kept : are_sides_kept (driving 0 0x00001 0) ≡ false
sides_are_not_kept = refl

-- The first entry is due at 1200.
looks_back : looks_ahead disks (record start { last = 1201 }) ≡ false
unfolding need_of sent_of ones
looks_back = refl

sound_at_the_start : is_sound disks start ≡ true
unfolding need_of sent_of ones
sound_at_the_start = refl

unsound_by_its_lines : is_sound disks (driving 0 0x00001 0) ≡ false
unfolding need_of sent_of ones
unsound_by_its_lines = refl

unsound_by_its_time : is_sound disks (record start { last = 1201 }) ≡ false
unfolding need_of sent_of ones
unsound_by_its_time = refl

sound_rows : sound disks (first_entry ∷ []) ≡ true
unfolding need_of sent_of ones union_below line_of form_out form_in
sound_rows = refl

unsound_last_row : sound disks (drive 1000 3 0x00001 ∷ []) ≡ false
unfolding need_of sent_of ones union_below line_of form_out form_in
unsound_last_row = refl

unsound_earlier_row : sound disks (drive 1000 3 0x00000 ∷ drive 1000 3 0x00001 ∷ []) ≡ false
unfolding need_of sent_of ones union_below line_of form_out form_in
unsound_earlier_row = refl

sound_without_it : sound disks (drive 1000 3 0x00000 ∷ []) ≡ true
unfolding need_of sent_of ones union_below line_of form_out form_in
sound_without_it = refl
