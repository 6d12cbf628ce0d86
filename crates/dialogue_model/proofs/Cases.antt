-- The dialogue of two ends, computed on small records: initiator 7 and target 3. What is expected stands as the
-- standard and docs/behaviour.md have it: messages as their bytes, lines as a trace has them.
use Rattle.std.proofs.Common.{ℕ, ◌≡◌, Bool, true, false, [], ◌∷◌, Option, Some, None, refl}
use lib.Count.{ones}
use Rattle.scenario.specs.bus_base.specs.declared.AbortKind.{AbortKind}
use Rattle.scenario.specs.bus_base.specs.declared.AbortKind.TheVariants as aborts
use Rattle.scenario.specs.bus_base.specs.declared.events.Pick.TheVariants as picks
use Rattle.story_model.specs.bus_trace.specs.LineSet.{set_of, number_of}
use Rattle.story_model.specs.bus_trace.specs.declared.agreements.Agreement.{Agreement}
use Rattle.story_model.specs.msg_grammar.specs.declared.message.MsgOut.{MsgOut}
use Rattle.story_model.specs.msg_grammar.specs.declared.message.MsgOut.TheVariants as to_target
use Rattle.story_model.specs.msg_grammar.specs.declared.message.MsgIn.{MsgIn}
use Rattle.story_model.specs.msg_grammar.specs.declared.message.MsgIn.TheVariants as to_initiator
use Rattle.story_model.specs.bus_phases.specs.declared.words.End.TheVariants as ends
use Rattle.scenario.specs.declared.value.HostDef.{HostDef}
use Rattle.scenario.specs.declared.value.TargetDef.{TargetDef}
use Rattle.scenario.specs.declared.value.AbortDef.{AbortDef}
use Rattle.scenario.specs.declared.value.Policy.{Policy}
use Rattle.scenario.specs.declared.value.Policy.TheVariants as policies
use Rattle.scenario.specs.declared.value.Tag.{Tag}
use Rattle.scenario.specs.declared.value.Tag.TheVariants as tags
use Rattle.story_model.specs.array_model.specs.Processes.{Process}
use Rattle.reaction_model.specs.declared.ends.Offering.{Offering}
use Rattle.reaction_model.specs.bus_lines.specs.Handshakes.{Handshakes, no_handshakes}
use Rattle.dialogue_model.specs.declared.exchange.Arrival.{Arrival}
use Rattle.dialogue_model.specs.declared.exchange.Arrival.TheVariants as arrivals
use Rattle.dialogue_model.specs.declared.exchange.Cause.{Cause}
use Rattle.dialogue_model.specs.declared.exchange.Cause.TheVariants as causes
use Rattle.dialogue_model.specs.declared.exchange.Next.{Next}
use Rattle.dialogue_model.specs.declared.exchange.Next.TheVariants as nexts
use Rattle.dialogue_model.specs.declared.exchange.Phase.{Phase}
use Rattle.dialogue_model.specs.declared.exchange.Phase.TheVariants as phases
use Rattle.dialogue_model.specs.declared.exchange.Hearing.{Hearing}
use Rattle.dialogue_model.specs.declared.exchange.Messages.{Messages}
use Rattle.dialogue_model.specs.declared.exchange.Said.{Said}
use Rattle.dialogue_model.specs.declared.exchange.Plan.{Plan}
use Rattle.dialogue_model.specs.declared.exchange.Leaving.{Leaving}
use Rattle.dialogue_model.specs.declared.exchange.Task.{Task}
use Rattle.dialogue_model.specs.declared.exchange.Room.{Room}
use Rattle.dialogue_model.specs.Exchange.{Speech, next_word, attends_with}
use Rattle.dialogue_model.specs.Words.{process_opening, abort_opening, parity_error, detected_error, answer_bytes}
use Rattle.dialogue_model.specs.Words.{naming_messages, reply_to, request_by}
use Rattle.dialogue_model.specs.Speaking.{speech_after}
use Rattle.dialogue_model.specs.Planning.{first_plan, plan_after}
use Rattle.dialogue_model.specs.Arrivals.{arrival_by, policy_of}
use Rattle.dialogue_model.specs.DataRuns.{DataRun, runs_in_all, run_at, run_length}
use Rattle.dialogue_model.specs.NextPhase.{Serving, phase_of, phase_lines, next_data_phase, leaving_by}
use Rattle.dialogue_model.specs.PhaseBytes.{phase_byte, follows_in, lines_by}
use Rattle.dialogue_model.specs.Sending.{Sending, byte_to_send}
use Rattle.dialogue_model.specs.Ends.{pace_by, offering_by, answering_by}

-- ---- the two ends

abbrev pair : ℕ → ℕ → Agreement
pair period offset = record { period = period; offset = offset }

abbrev host : Bool → ℕ → Option HostDef
host offers period = Some
    (record { dev = 7; latency = 0; most = 1; retries = 2; period = period; offset = 8; lag = 40; offers = offers })

-- It tries again twice, and its seek time is 500.
abbrev disk : Policy → Bool → ℕ → Option TargetDef
disk policy begins period = Some (record {
  dev = 3;
  latency = 0;
  retries = 2;
  disc = policy;
  pick = picks.First;
  seek = 500;
  period = period;
  offset = 8;
  begins = begins;
})

abbrev process : Bool → Tag → Option Process
process sense tag = Some (record {
  id = record { command = 1; sense = sense };
  initiator = 7;
  target = 3;
  unit = 2;
  tag = tag;
  cdb = [];
  sent = [];
  serial = false;
})

-- ---- what the initiator says after a selection (6.6.7, 6.6.17, 6.6.21)

opens_a_command : process_opening (host true 50) false (process false tags.Untagged) ≡ 0xc2 ∷ []
opens_a_command = refl

opens_with_an_offer : process_opening (host true 50) true (process false (tags.Simple 9))
    ≡ 0xc2 ∷ 0x20 ∷ 9 ∷ 0x01 ∷ 0x03 ∷ 0x01 ∷ 50 ∷ 8 ∷ []
opens_with_an_offer = refl

opens_at_the_head : process_opening (host false 50) true (process false (tags.Head 9)) ≡ 0xc2 ∷ 0x21 ∷ 9 ∷ []
opens_at_the_head = refl

opens_in_order : process_opening (host true 0) true (process false (tags.Ordered 9)) ≡ 0xc2 ∷ 0x22 ∷ 9 ∷ []
opens_in_order = refl

-- An automatic REQUEST SENSE has no disconnect privilege.
opens_a_sense : process_opening (host true 50) false (process true tags.Untagged) ≡ 0x82 ∷ []
opens_a_sense = refl

opens_a_sense_with_an_offer : process_opening (host true 25) true (process true tags.Untagged)
    ≡ 0x82 ∷ 0x01 ∷ 0x03 ∷ 0x01 ∷ 25 ∷ 8 ∷ []
opens_a_sense_with_an_offer = refl

opens_nothing : process_opening (host true 50) true None ≡ []
opens_nothing = refl

-- ---- for an abort (6.6.1 to 6.6.4)

abbrev abort : AbortKind → Option AbortDef
abort what = Some (record { host = 7; target = 3; unit = 5; at = 0; what = what })

aborts_all : abort_opening (abort aborts.All) ≡ 0x85 ∷ 0x06 ∷ []
aborts_all = refl

aborts_a_tag : abort_opening (abort (aborts.Tag 9)) ≡ 0x85 ∷ 0x20 ∷ 9 ∷ 0x0d ∷ []
aborts_a_tag = refl

aborts_the_queue : abort_opening (abort aborts.WholeQueue) ≡ 0x85 ∷ 0x0e ∷ []
aborts_the_queue = refl

resets_the_device : abort_opening (abort aborts.Device) ≡ 0x85 ∷ 0x0c ∷ []
resets_the_device = refl

aborts_nothing : abort_opening None ≡ []
aborts_nothing = refl

-- ---- errors and answers (6.6.10, 6.6.13, 6.6.21)

says_parity_error : parity_error ≡ 0x09 ∷ []
says_parity_error = refl

says_detected_error : detected_error ≡ 0x05 ∷ []
says_detected_error = refl

-- The larger period, the smaller offset.
host_answers_a_slower : answer_bytes (host true 50) (pair 100 4) ≡ 0x01 ∷ 0x03 ∷ 0x01 ∷ 100 ∷ 4 ∷ []
host_answers_a_slower = refl

host_answers_a_faster : answer_bytes (host true 50) (pair 25 12) ≡ 0x01 ∷ 0x03 ∷ 0x01 ∷ 50 ∷ 8 ∷ []
host_answers_a_faster = refl

host_without_a_period : answer_bytes (host true 0) (pair 25 12) ≡ 0x01 ∷ 0x03 ∷ 0x01 ∷ 25 ∷ 0 ∷ []
host_without_a_period = refl

target_answers_a_slower : reply_to (disk policies.Never false 50) (pair 100 4) ≡ to_initiator.Sdtr (pair 100 4)
target_answers_a_slower = refl

target_answers_a_faster : reply_to (disk policies.Never false 50) (pair 25 254) ≡ to_initiator.Sdtr (pair 50 8)
target_answers_a_faster = refl

target_without_a_period : reply_to (disk policies.Never false 0) (pair 25 12) ≡ to_initiator.Sdtr (pair 25 0)
target_without_a_period = refl

target_rejects_255 : reply_to (disk policies.Never false 50) (pair 100 255) ≡ to_initiator.Reject
target_rejects_255 = refl

target_requests : request_by (disk policies.Never true 50) ≡ Some (to_initiator.Sdtr (pair 50 8))
target_requests = refl

target_does_not_begin : request_by (disk policies.Never false 50) ≡ None
target_does_not_begin = refl

target_has_no_period : request_by (disk policies.Never true 0) ≡ None
target_has_no_period = refl

-- ---- names

abbrev no_message : Messages
no_message = record { first = None; second = None }

abbrev message : MsgIn → Messages
message m = record { first = Some m; second = None }

abbrev messages : MsgIn → MsgIn → Messages
messages m n = record { first = Some m; second = Some n }

abbrev named : Messages
named = messages (to_initiator.Identify 2) (to_initiator.SimpleTag 9)

names_a_tagged_one : naming_messages (record {
  id = record { command = 1; sense = false };
  initiator = 7;
  target = 3;
  unit = 2;
  tag = tags.Head 9;
  cdb = [];
  sent = [];
  serial = false;
}) ≡ named
names_a_tagged_one = refl

names_an_untagged_one : naming_messages (record {
  id = record { command = 1; sense = false };
  initiator = 7;
  target = 3;
  unit = 2;
  tag = tags.Untagged;
  cdb = [];
  sent = [];
  serial = false;
}) ≡ message (to_initiator.Identify 2)
names_an_untagged_one = refl

-- ---- a row, as it tells the two ends: the lines before it and after it

abbrev turn : ℕ → ℕ → Hearing
turn before after = record {
  change = record { before = set_of before; after = set_of after; own = set_of 0x00200; next = set_of 0x00200 };
  crosses = false;
  out = None;
  into = None;
  fault = false;
  begun = true;
  is_last = false;
  offered = 2;
  struck = false;
}

-- A byte crosses in MESSAGE OUT, in MESSAGE IN, and in another phase.
abbrev word_out : Bool → Option MsgOut → Hearing
word_out is_last m = record (turn 0x16a00 0x1ea00) { crosses = true; out = m; is_last = is_last }

abbrev word_in : Option MsgIn → Hearing
word_in m = record (turn 0x07a00 0x0fa00) { crosses = true; into = m }

abbrev fault_on : ℕ → Hearing
fault_on lines = record (turn lines lines) { fault = true }

-- ---- speech

abbrev speech : ℕ → Speech
speech place = record { words = 0xc2 ∷ 0x20 ∷ 9 ∷ []; place = place; asked = pair 50 8 }

abbrev speech_hearing : Hearing → ℕ → Speech
speech_hearing w place = speech_after (host true 100) w (speech place)

second_word : next_word (speech 1) ≡ 0x20
second_word = refl

no_further_word : next_word (speech 3) ≡ 0
no_further_word = refl

attends_with_all_but_the_last : attends_with (speech 0) ∷ attends_with (speech 1) ∷ attends_with (speech 2) ∷ []
    ≡ true ∷ true ∷ false ∷ []
attends_with_all_but_the_last = refl

speech_goes_on : speech_hearing (word_out false None) 1 ≡ speech 2
speech_goes_on = refl

speech_begins_anew : speech_hearing (word_out false None) 2 ≡ speech 0
speech_begins_anew = refl

speech_stays_under_a_fault : speech_hearing (fault_on 0x0ea00) 1 ≡ speech 1
speech_stays_under_a_fault = refl

speech_hears_a_request : speech_hearing (word_in (Some (to_initiator.Sdtr (pair 30 4)))) 1
    ≡ record (speech 1) { asked = pair 30 4 }
speech_hears_a_request = refl

speech_hears_another : speech_hearing (word_in (Some to_initiator.Disconnect)) 1 ≡ speech 1
speech_hears_another = refl

-- The opening waits for the first MESSAGE OUT.
opening_begins : speech_hearing (record (turn 0x10200 0x12a00) { begun = false }) 1 ≡ speech 0
opening_begins = refl

opening_is_over : speech_hearing (turn 0x02a00 0x00a00) 1 ≡ speech 0
opening_is_over = refl

speaks_of_a_struck_message : speech_hearing (record (turn 0x13a00 0x12a00) { struck = true }) 0
    ≡ record (speech 0) { words = 0x09 ∷ [] }
speaks_of_a_struck_message = refl

speaks_an_answer : speech_hearing (turn 0x13a00 0x12a00) 1
    ≡ record (speech 0) { words = 0x01 ∷ 0x03 ∷ 0x01 ∷ 100 ∷ 8 ∷ [] }
speaks_an_answer = refl

speaks_of_struck_data : speech_hearing (record (turn 0x11200 0x12a00) { struck = true }) 0
    ≡ record (speech 0) { words = 0x05 ∷ [] }
speaks_of_struck_data = refl

-- The last byte of the run was well, one before it was not.
speaks_of_data_struck_before : speech_hearing (turn 0x11200 0x12a00) 0 ≡ record (speech 0) { words = 0x05 ∷ [] }
speaks_of_data_struck_before = refl

speaks_of_a_struck_status : speech_hearing (record (turn 0x11a00 0x12a00) { struck = true }) 0
    ≡ record (speech 0) { words = 0x05 ∷ [] }
speaks_of_a_struck_status = refl

-- ---- what the target hears

abbrev quiet : Said
quiet = record { unit = None; tag = tags.Untagged; aborts = None; offer = None }

abbrev plan : Said → Messages → Next → Plan
plan said m next =
    record { negotiates = true; messages = m; next = next; cause = causes.Selected; said = said; struck = false }

abbrev silent : Plan
silent = plan quiet no_message nexts.FreeBus

-- How the phase before is left, where it is.
abbrev leaving : Option Phase → Messages → Next → Leaving
leaving to m next = record { to = to; messages = m; next = next; counts = false; done = false }

abbrev free : Leaving
free = leaving None no_message nexts.FreeBus

abbrev plan_hearing : Hearing → Plan → Plan
plan_hearing w p = plan_after w free p

abbrev tagged : Said
tagged = record quiet { unit = Some 2; tag = tags.Simple 9 }

hears_identify : plan_hearing (word_out false (Some (to_target.Identify true 2))) silent
    ≡ plan (record quiet { unit = Some 2 }) no_message nexts.FreeBus
hears_identify = refl

hears_a_tag : plan_hearing (word_out false (Some (to_target.SimpleTag 9)))
    (plan (record quiet { unit = Some 2 }) no_message nexts.FreeBus)
    ≡ plan tagged no_message nexts.FreeBus
hears_a_tag = refl

hears_a_head_tag : plan_hearing (word_out false (Some (to_target.HeadTag 9))) silent
    ≡ plan (record quiet { tag = tags.Head 9 }) no_message nexts.FreeBus
hears_a_head_tag = refl

hears_an_ordered_tag : plan_hearing (word_out false (Some (to_target.OrderedTag 9))) silent
    ≡ plan (record quiet { tag = tags.Ordered 9 }) no_message nexts.FreeBus
hears_an_ordered_tag = refl

hears_an_offer :
    plan_hearing (word_out false (Some (to_target.Sdtr (pair 50 8)))) (plan tagged no_message nexts.FreeBus)
    ≡ plan (record tagged { offer = Some (pair 50 8) }) no_message nexts.FreeBus
hears_an_offer = refl

abbrev plan_hearing_abort : MsgOut → Said → Plan
plan_hearing_abort m said = plan_hearing (word_out false (Some m)) (plan said no_message nexts.FreeBus)

hears_abort_of_all : plan_hearing_abort to_target.Abort tagged
    ≡ plan (record tagged { aborts = Some aborts.All }) no_message nexts.FreeBus
hears_abort_of_all = refl

hears_abort_of_its_tag : plan_hearing_abort to_target.AbortTag tagged
    ≡ plan (record tagged { aborts = Some (aborts.Tag 9) }) no_message nexts.FreeBus
hears_abort_of_its_tag = refl

hears_abort_of_the_queue : plan_hearing_abort to_target.ClearQueue tagged
    ≡ plan (record tagged { aborts = Some aborts.WholeQueue }) no_message nexts.FreeBus
hears_abort_of_the_queue = refl

hears_a_device_reset : plan_hearing_abort to_target.DeviceReset tagged
    ≡ plan (record tagged { aborts = Some aborts.Device }) no_message nexts.FreeBus
hears_a_device_reset = refl

hears_nothing_new : plan_hearing (word_out false (Some to_target.Nop)) (plan tagged no_message nexts.FreeBus)
    ≡ plan tagged no_message nexts.FreeBus
hears_nothing_new = refl

hears_no_whole_message : plan_hearing (word_out false None) (plan tagged no_message nexts.FreeBus)
    ≡ plan tagged no_message nexts.FreeBus
hears_no_whole_message = refl

-- The number of a tag of any kind; 0 where none was named.
hears_aborts_of_tags : (plan_hearing_abort to_target.AbortTag (record quiet { tag = tags.Head 4 })).said.aborts
    ∷ (plan_hearing_abort to_target.AbortTag (record quiet { tag = tags.Ordered 5 })).said.aborts
    ∷ (plan_hearing_abort to_target.AbortTag quiet).said.aborts ∷ []
    ≡ Some (aborts.Tag 4) ∷ Some (aborts.Tag 5) ∷ Some (aborts.Tag 0) ∷ []
hears_aborts_of_tags = refl

hears_nothing_in_message_in : plan_hearing (record (word_in (Some to_initiator.Disconnect)) {
  is_last = true;
  out = Some to_target.Abort;
}) (plan tagged named nexts.GoOn) ≡ plan tagged named nexts.GoOn
hears_nothing_in_message_in = refl

-- The byte before crossed with ATN false: all bytes begin anew.
hears_all_anew : plan_hearing (word_out true (Some (to_target.Identify true 4)))
    (record (plan tagged no_message nexts.FreeBus) { struck = true })
    ≡ plan (record quiet { unit = Some 4 }) no_message nexts.FreeBus
hears_all_anew = refl

hears_a_struck_byte : plan_hearing (fault_on 0x0ea00) (plan tagged no_message nexts.FreeBus)
    ≡ record (plan tagged no_message nexts.FreeBus) { struck = true }
hears_a_struck_byte = refl

-- Of a byte to the initiator it learns by ATN alone.
other_hears_a_struck_byte : plan_hearing (fault_on 0x05200) silent ≡ silent
other_hears_a_struck_byte = refl

-- ---- what the target plans

plans_after_a_selection : first_plan false true named ≡ silent
plans_after_a_selection = refl

plans_no_negotiation : first_plan false false named ≡ record silent { negotiates = false }
plans_no_negotiation = refl

plans_names : first_plan true true named ≡ record (plan quiet named nexts.GoOn) { negotiates = false }
plans_names = refl

plans_first_message_out : plan_hearing (record (turn 0x10200 0x12a00) { begun = false }) silent ≡ silent
plans_first_message_out = refl

plans_messages :
    plan_after (turn 0x00a00 0x03a00) (leaving (Some phases.MessageIn) (message to_initiator.Disconnect) nexts.FreeBus)
    (record (plan tagged named nexts.GoOn) { struck = true })
    ≡ plan quiet (message to_initiator.Disconnect) nexts.FreeBus
plans_messages = refl

-- ATN: why it asks for MESSAGE OUT, and the messages from the struck one on. IDENTIFY has one byte, SIMPLE QUEUE TAG
-- two.
abbrev plan_asking : ℕ → ℕ → Plan
plan_asking lines offered =
    plan_hearing (record (turn lines 0x12a00) { offered = offered }) (plan tagged named nexts.GoOn)

abbrev asked_for : Cause → Messages → Plan
asked_for cause m = record (plan quiet m nexts.GoOn) { cause = cause }

asks_after_the_first_message : plan_asking 0x13a00 1 ≡ asked_for causes.InMessage named
asks_after_the_first_message = refl

asks_in_the_second_message : plan_asking 0x13a00 2 ≡ asked_for causes.InMessage (message (to_initiator.SimpleTag 9))
asks_in_the_second_message = refl

asks_after_the_second_message : plan_asking 0x13a00 3 ≡ asked_for causes.InMessage (message (to_initiator.SimpleTag 9))
asks_after_the_second_message = refl

asks_after_data : plan_asking 0x11200 2 ≡ asked_for causes.InData named
asks_after_data = refl

asks_after_status : plan_asking 0x11a00 1 ≡ asked_for causes.InStatus named
asks_after_status = refl

-- ---- what becomes of a command

abbrev room : Bool → Bool → Option Room
room full idle = Some (record { full = full; idle = idle })

refused_at_a_full_queue : arrival_by policies.Never false (room true true) ≡ arrivals.Refused
refused_at_a_full_queue = refl

runs_at_once : arrival_by policies.Never false (room false true) ≡ arrivals.AtOnce
runs_at_once = refl

waits_for_another : arrival_by policies.Never false (room false false) ≡ arrivals.Queued
waits_for_another = refl

disconnects_at_once : arrival_by policies.Command false (room false true) ≡ arrivals.Queued
disconnects_at_once = refl

bursts_disconnect : arrival_by (policies.Burst 2) false (room false true) ≡ arrivals.Queued
bursts_disconnect = refl

parts_disconnect : arrival_by (policies.NoSave 2) false (room false true) ≡ arrivals.Queued
parts_disconnect = refl

sense_is_a_guest : arrival_by policies.Command true (room true false) ≡ arrivals.Guest
sense_is_a_guest = refl

absent_unit_has_guests : arrival_by policies.Command false None ≡ arrivals.Guest
absent_unit_has_guests = refl

no_target_disconnects : policy_of None ≡ policies.Never
no_target_disconnects = refl

-- ---- data runs: five blocks of 16 bytes

abbrev task : Bool → ℕ → Task
task writes runs = record {
  writes = writes;
  moved = 80;
  blocks = Some 5;
  size = 16;
  runs = runs;
  recoveries = 0;
  in_hold = false;
  whole = true;
  replied = false;
  status = 0;
}

abbrev read_task : Task
read_task = task false 0

abbrev run : ℕ → ℕ → DataRun
run start end = record { start = start; end = end }

never_cut : run_at policies.Never read_task 0 ≡ run 0 80
never_cut = refl

not_cut_after_the_command : run_at policies.Command read_task 0 ≡ run 0 80
not_cut_after_the_command = refl

first_burst : run_at (policies.Burst 2) read_task 0 ≡ run 0 32
first_burst = refl

second_burst : run_at (policies.Burst 2) read_task 1 ≡ run 32 64
second_burst = refl

last_burst_is_shorter : run_at (policies.Burst 2) read_task 2 ≡ run 64 80
last_burst_is_shorter = refl

first_part : run_at (policies.NoSave 2) read_task 0 ≡ run 0 32
first_part = refl

all_from_the_start : run_at (policies.NoSave 2) read_task 1 ≡ run 0 80
all_from_the_start = refl

all_in_one_part : run_at (policies.NoSave 5) read_task 0 ≡ run 0 80
all_in_one_part = refl

other_commands_are_not_cut : run_at (policies.Burst 2) (record read_task { blocks = None; moved = 36 }) 0 ≡ run 0 36
other_commands_are_not_cut = refl

abbrev counts_of : Policy → ℕ
counts_of policy = runs_in_all policy read_task

counts_of_runs : counts_of policies.Never ∷ counts_of policies.Command ∷ counts_of (policies.Burst 2)
    ∷ counts_of (policies.Burst 5) ∷ counts_of (policies.NoSave 4) ∷ counts_of (policies.NoSave 5) ∷ []
    ≡ 1 ∷ 1 ∷ 3 ∷ 1 ∷ 2 ∷ 1 ∷ []
counts_of_runs = refl

no_bytes_no_runs : runs_in_all (policies.Burst 2) (record read_task { moved = 0 }) ≡ 0
no_bytes_no_runs = refl

length_of_the_last_run : run_length (policies.Burst 2) (task false 2) ≡ 16
length_of_the_last_run = refl

-- ---- phases

every_phase : phase_of (set_of 0x00200) ∷ phase_of (set_of 0x01200) ∷ phase_of (set_of 0x00a00)
    ∷ phase_of (set_of 0x01a00) ∷ phase_of (set_of 0x02a00) ∷ phase_of (set_of 0x03a00) ∷ []
    ≡ phases.DataOut ∷ phases.DataIn ∷ phases.Command ∷ phases.Status ∷ phases.MessageOut ∷ phases.MessageIn ∷ []
every_phase = refl

lines_of_every_phase : phase_lines phases.DataOut ∷ phase_lines phases.DataIn ∷ phase_lines phases.Command
    ∷ phase_lines phases.Status ∷ phase_lines phases.MessageOut ∷ phase_lines phases.MessageIn ∷ []
    ≡ set_of 0x00200 ∷ set_of 0x01200 ∷ set_of 0x00a00 ∷ set_of 0x01a00 ∷ set_of 0x02a00 ∷ set_of 0x03a00 ∷ []
lines_of_every_phase = refl

moves_the_rest : next_data_phase (policies.Burst 2) (task false 2) 2 ≡ phases.DataIn
moves_the_rest = refl

moves_no_more : next_data_phase (policies.Burst 2) (task false 3) 3 ≡ phases.Status
moves_no_more = refl

moves_to_the_target : next_data_phase policies.Never (task true 0) 0 ≡ phases.DataOut
moves_to_the_target = refl

moves_nothing_after_the_reply : next_data_phase policies.Never (record read_task { replied = true }) 0 ≡ phases.Status
moves_nothing_after_the_reply = refl

-- ---- how the phases are left

abbrev serving_task : Option TargetDef → Plan → Task → Serving
serving_task def p t =
    record { def = def; plan = p; task = Some t; given = 21 ∷ 22 ∷ 23 ∷ []; arrival = arrivals.Queued }

-- With these lines on the bus, by the policy of a burst of two blocks.
abbrev burst : Option TargetDef
burst = disk (policies.Burst 2) false 50

abbrev leaving_from : ℕ → Plan → Task → Leaving
leaving_from lines p t = leaving_by (serving_task burst p t) true (set_of lines)

abbrev leaving_to : Phase → Leaving
leaving_to phase = leaving (Some phase) no_message nexts.FreeBus

abbrev telling : Messages → Next → Leaving
telling m next = leaving (Some phases.MessageIn) m next

abbrev counted_telling : Messages → Next → Leaving
counted_telling m next = record (telling m next) { counts = true }

-- Two recoveries are the limit.
abbrev tried : ℕ → Task
tried n = record (task true 0) { recoveries = n }

abbrev held : Task
held = record (tried 2) { in_hold = true }

selected_first : leaving_by (serving_task burst silent read_task) false (set_of 0x10200) ≡ leaving_to phases.MessageOut
selected_first = refl

-- ---- MESSAGE OUT is left after the opening

abbrev opened : Option TargetDef → Said → Leaving
opened def said = leaving_by (serving_task def (plan said no_message nexts.FreeBus) read_task) true (set_of 0x02a00)

opened_for_a_command : opened burst tagged ≡ leaving_to phases.Command
opened_for_a_command = refl

opened_for_an_abort : opened burst (record tagged { aborts = Some aborts.All; offer = Some (pair 100 4) }) ≡ free
opened_for_an_abort = refl

opened_with_an_offer : opened burst (record tagged { offer = Some (pair 100 4) })
    ≡ telling (message (to_initiator.Sdtr (pair 100 4))) nexts.Command
opened_with_an_offer = refl

opened_with_offset_255 : opened burst (record tagged { offer = Some (pair 100 255) })
    ≡ telling (message to_initiator.Reject) nexts.Command
opened_with_offset_255 = refl

abbrev beginning : Option TargetDef
beginning = disk policies.Never true 30

target_begins_to_negotiate : opened beginning tagged ≡ telling (message (to_initiator.Sdtr (pair 30 8))) nexts.Command
target_begins_to_negotiate = refl

target_answers_in_place_of_it : opened beginning (record tagged { offer = Some (pair 25 4) })
    ≡ telling (message (to_initiator.Sdtr (pair 30 4))) nexts.Command
target_answers_in_place_of_it = refl

target_may_not_begin :
    leaving_by (serving_task beginning (record (plan tagged no_message nexts.FreeBus) { negotiates = false }) read_task)
    true (set_of 0x02a00) ≡ leaving_to phases.Command
target_may_not_begin = refl

-- ---- after ATN in MESSAGE IN

abbrev refused : Messages → Task → Leaving
refused m t = leaving_from 0x02a00 (asked_for causes.InMessage m) t

answered_request : leaving_from 0x02a00
    (record (plan (record quiet { offer = Some (pair 50 4) }) (message (to_initiator.Sdtr (pair 50 8))) nexts.Command) {
      cause = causes.InMessage;
    }) (tried 2) ≡ leaving_to phases.Command
answered_request = refl

-- The names of a process are sent again without count and limit.
names_sent_again : refused named (tried 2) ≡ telling named nexts.GoOn
names_sent_again = refl

tag_sent_again : refused (message (to_initiator.SimpleTag 9)) (tried 0)
    ≡ telling (message (to_initiator.SimpleTag 9)) nexts.GoOn
tag_sent_again = refl

message_sent_again : refused (message to_initiator.Disconnect) (tried 1)
    ≡ counted_telling (message to_initiator.Disconnect) nexts.GoOn
message_sent_again = refl

message_given_up : refused (message to_initiator.Disconnect) (tried 2) ≡ free
message_given_up = refl

no_message_given_up : refused no_message (tried 2) ≡ free
no_message_given_up = refl

message_sent_again_in_the_hold : refused (message to_initiator.Disconnect) held
    ≡ telling (message to_initiator.Disconnect) nexts.GoOn
message_sent_again_in_the_hold = refl

message_of_no_process :
    leaving_by (record (serving_task burst (asked_for causes.InMessage (message to_initiator.Disconnect)) read_task) {
      task = None;
    }) true (set_of 0x02a00) ≡ free
message_of_no_process = refl

-- ---- after ATN in DATA IN and STATUS

abbrev restored : Next → Leaving
restored next = telling (message to_initiator.RestorePointers) next

abbrev restored_counted : Next → Leaving
restored_counted next = counted_telling (message to_initiator.RestorePointers) next

data_again : leaving_from 0x02a00 (asked_for causes.InData no_message) (tried 1) ≡ restored_counted nexts.GoOn
data_again = refl

data_given_up : leaving_from 0x02a00 (asked_for causes.InData no_message) (tried 2) ≡ leaving_to phases.Status
data_given_up = refl

data_again_in_the_hold : leaving_from 0x02a00 (asked_for causes.InData no_message) held ≡ restored nexts.GoOn
data_again_in_the_hold = refl

status_again : leaving_from 0x02a00 (asked_for causes.InStatus no_message) (tried 1) ≡ restored_counted nexts.Status
status_again = refl

status_given_up : leaving_from 0x02a00 (asked_for causes.InStatus no_message) (tried 2) ≡ free
status_given_up = refl

status_again_in_the_hold : leaving_from 0x02a00 (asked_for causes.InStatus no_message) held ≡ restored nexts.Status
status_again_in_the_hold = refl

-- ---- MESSAGE IN is left

abbrev told : ℕ → Next → Task → Leaving
told lines next t = leaving_from lines (plan quiet named next) t

told_before_command : told 0x03a00 nexts.Command read_task ≡ leaving_to phases.Command
told_before_command = refl

told_before_status : told 0x03a00 nexts.Status read_task ≡ leaving_to phases.Status
told_before_status = refl

told_before_data : told 0x03a00 nexts.GoOn (task false 2) ≡ leaving_to phases.DataIn
told_before_data = refl

told_before_data_out : told 0x03a00 nexts.GoOn (task true 2) ≡ leaving_to phases.DataOut
told_before_data_out = refl

told_after_data : told 0x03a00 nexts.GoOn (task true 3) ≡ leaving_to phases.Status
told_after_data = refl

told_at_the_end : told 0x03a00 nexts.FreeBus read_task ≡ free
told_at_the_end = refl

told_with_attention : told 0x13a00 nexts.FreeBus read_task ≡ leaving_to phases.MessageOut
told_with_attention = refl

-- ---- COMMAND is left

abbrev commanded : Bool → Arrival → Task → Leaving
commanded struck arrival t =
    leaving_by (record (serving_task burst (record (plan tagged no_message nexts.FreeBus) { struck = struck }) t) {
      arrival = arrival;
    }) true (set_of 0x10a00)

command_again : commanded true arrivals.Queued (tried 1) ≡ restored_counted nexts.Command
command_again = refl

command_given_up : commanded true arrivals.Queued (tried 2) ≡ leaving_to phases.Status
command_given_up = refl

command_again_in_the_hold : commanded true arrivals.Queued held ≡ restored nexts.Command
command_again_in_the_hold = refl

command_refused : commanded false arrivals.Refused read_task ≡ leaving_to phases.Status
command_refused = refl

guest_goes_on : commanded false arrivals.Guest read_task ≡ leaving_to phases.DataIn
guest_goes_on = refl

guest_has_its_reply : commanded false arrivals.Guest (record read_task { replied = true }) ≡ leaving_to phases.Status
guest_has_its_reply = refl

command_runs_at_once : commanded false arrivals.AtOnce (task true 0) ≡ leaving_to phases.DataOut
command_runs_at_once = refl

command_waits : commanded false arrivals.Queued read_task ≡ telling (message to_initiator.Disconnect) nexts.FreeBus
command_waits = refl

-- ---- a data phase is left

abbrev ran : Leaving → Leaving
ran l = record l { done = true }

run_before_another : leaving_from 0x01200 silent (task false 1)
    ≡ ran (telling (messages to_initiator.SavePointer to_initiator.Disconnect) nexts.FreeBus)
run_before_another = refl

last_run : leaving_from 0x01200 silent (task false 2) ≡ ran (leaving_to phases.Status)
last_run = refl

run_with_attention : leaving_from 0x11200 silent (task false 1) ≡ leaving_to phases.MessageOut
run_with_attention = refl

part_before_all : leaving_by (serving_task (disk (policies.NoSave 2) false 50) silent read_task) true (set_of 0x01200)
    ≡ ran (telling (message to_initiator.Disconnect) nexts.FreeBus)
part_before_all = refl

run_to_the_target : leaving_from 0x00200 silent (task true 1)
    ≡ ran (telling (messages to_initiator.SavePointer to_initiator.Disconnect) nexts.FreeBus)
run_to_the_target = refl

last_run_to_the_target : leaving_from 0x10200 silent (task true 2) ≡ ran (leaving_to phases.Status)
last_run_to_the_target = refl

struck_run_again : leaving_from 0x00200 (record silent { struck = true }) (tried 1) ≡ restored_counted nexts.GoOn
struck_run_again = refl

struck_run_given_up : leaving_from 0x00200 (record silent { struck = true }) (tried 2) ≡ leaving_to phases.Status
struck_run_given_up = refl

struck_run_again_in_the_hold : leaving_from 0x00200 (record silent { struck = true }) held ≡ restored nexts.GoOn
struck_run_again_in_the_hold = refl

-- ---- STATUS is left

status_before_the_end : leaving_from 0x01a00 silent read_task
    ≡ telling (message to_initiator.CommandComplete) nexts.FreeBus
status_before_the_end = refl

status_with_attention : leaving_from 0x11a00 silent read_task ≡ leaving_to phases.MessageOut
status_with_attention = refl

-- ---- the bytes that the target gives: a burst of one byte, of the three bytes 21, 22, 23

abbrev bytewise : Plan → Task → Serving
bytewise p t = serving_task (disk (policies.Burst 1) false 50) p t

abbrev three : ℕ → Task
three runs = record (task false runs) { moved = 3; blocks = Some 3; size = 1; status = 2 }

gives_messages : phase_byte (bytewise silent (three 0)) phases.MessageIn named 0 2 ≡ 9
gives_messages = refl

gives_no_further_message : phase_byte (bytewise silent (three 0)) phases.MessageIn named 0 3 ≡ 0
gives_no_further_message = refl

gives_its_status : phase_byte (bytewise silent (three 0)) phases.Status named 0 0 ≡ 2
gives_its_status = refl

gives_a_byte_of_its_run : phase_byte (bytewise silent (three 1)) phases.DataIn named 0 0 ≡ 22
gives_a_byte_of_its_run = refl

gives_a_byte_of_the_run_after : phase_byte (bytewise silent (three 1)) phases.DataIn named 1 0 ≡ 23
gives_a_byte_of_the_run_after = refl

gives_a_byte_at_a_place :
    phase_byte (serving_task (disk policies.Never false 50) silent (three 0)) phases.DataIn named 0 2 ≡ 23
gives_a_byte_at_a_place = refl

gives_all_again : phase_byte (serving_task (disk (policies.NoSave 1) false 50) silent (three 1)) phases.DataIn named 0 1
    ≡ 22
gives_all_again = refl

gives_nothing_in_command : phase_byte (bytewise silent (three 1)) phases.Command named 0 0 ≡ 0
gives_nothing_in_command = refl

-- ---- whether a byte follows

abbrev rose : ℕ → ℕ → Handshakes
rose requests answers = record no_handshakes { requests = requests; answers = answers }

abbrev follows : Plan → Task → Handshakes → Bool → Phase → Bool
follows p t r attention phase = follows_in (serving_task burst p t) r attention phase

first_byte_follows : follows silent read_task (rose 1 0) false phases.MessageOut ≡ true
first_byte_follows = refl

follows_with_attention : follows silent read_task (rose 1 1) true phases.MessageOut ≡ true
follows_with_attention = refl

follows_a_struck_byte : follows (record silent { struck = true }) read_task (rose 1 1) false phases.MessageOut ≡ true
follows_a_struck_byte = refl

none_follows_the_last : follows silent read_task (rose 1 1) false phases.MessageOut ≡ false
none_follows_the_last = refl

-- Three bytes of names.
third_name_byte_follows : follows (plan quiet named nexts.GoOn) read_task (rose 2 2) false phases.MessageIn ≡ true
third_name_byte_follows = refl

no_fourth_name_byte : follows (plan quiet named nexts.GoOn) read_task (rose 3 3) false phases.MessageIn ≡ false
no_fourth_name_byte = refl

first_message_with_attention : follows (plan quiet named nexts.GoOn) read_task (rose 0 0) true phases.MessageIn ≡ true
first_message_with_attention = refl

message_ends_with_attention : follows (plan quiet named nexts.GoOn) read_task (rose 1 1) true phases.MessageIn ≡ false
message_ends_with_attention = refl

block_goes_on : follows silent (record read_task { whole = false }) (rose 5 5) false phases.Command ≡ true
block_goes_on = refl

has_whole_block : follows silent read_task (rose 6 6) false phases.Command ≡ false
has_whole_block = refl

block_is_struck :
    follows (record silent { struck = true }) (record read_task { whole = false }) (rose 5 5) false phases.Command
    ≡ false
block_is_struck = refl

one_status_byte : follows silent read_task (rose 0 0) false phases.Status
    ∷ follows silent read_task (rose 1 1) false phases.Status ∷ []
    ≡ true ∷ false ∷ []
one_status_byte = refl

-- A run of 32 bytes: to the initiator by REQ, to the target by ACK.
run_to_the_initiator_goes_on : follows silent read_task (rose 31 30) true phases.DataIn
    ∷ follows silent read_task (rose 32 31) true phases.DataIn ∷ []
    ≡ true ∷ false ∷ []
run_to_the_initiator_goes_on = refl

run_to_the_target_goes_on : follows silent (task true 0) (rose 32 31) true phases.DataOut
    ∷ follows silent (task true 0) (rose 32 32) true phases.DataOut ∷ []
    ≡ true ∷ false ∷ []
run_to_the_target_goes_on = refl

-- No process is served.
abbrev idle : Serving
idle = record (bytewise silent (three 1)) { task = None }

idle_has_no_bytes : follows_in idle (rose 0 0) false phases.Command
    ∷ follows_in idle (rose 0 0) false phases.DataIn ∷ follows_in idle (rose 0 0) false phases.DataOut ∷ []
    ≡ false ∷ false ∷ false ∷ []
idle_has_no_bytes = refl

idle_gives_nothing : phase_byte idle phases.DataIn named 0 0 ∷ phase_byte idle phases.Status named 0 0 ∷ [] ≡ 0 ∷ 0 ∷ []
idle_gives_nothing = refl

-- ---- the row that leaves a phase: with a byte where I/O is true before and after it

abbrev lines_to : Bool → Leaving → Task → Option Phase → ℕ
lines_to io l t phase = number_of (lines_by (bytewise silent t) io l phase)

leaves_to_the_status_byte : lines_to true (ran (leaving_to phases.Status)) (three 2) (Some phases.Status) ≡ 0x01a02
unfolding ones
leaves_to_the_status_byte = refl

leaves_to_a_message :
    lines_to true (telling (message to_initiator.CommandComplete) nexts.FreeBus) (three 2) (Some phases.MessageIn)
    ≡ 0x03b00
unfolding ones
leaves_to_a_message = refl

-- RESTORE POINTERS, and the second run, of byte 22 (16 in hexadecimal digits).
leaves_to_data : lines_to true (leaving_to phases.DataIn) (three 1) (Some phases.DataIn) ≡ 0x01216
unfolding ones
leaves_to_data = refl

leaves_from_the_initiators_byte : lines_to false (leaving_to phases.Status) (three 2) (Some phases.Status) ≡ 0x01a00
leaves_from_the_initiators_byte = refl

leaves_to_the_initiators_byte : lines_to true (leaving_to phases.Command) (three 2) (Some phases.Command) ≡ 0x00a00
leaves_to_the_initiators_byte = refl

leaves_the_bus : lines_to true free (three 2) None ≡ 0x00000
leaves_the_bus = refl

-- ---- what each end has to do in the phase

abbrev sending : Sending
sending = record { cdb = 0x0a ∷ 0 ∷ 0 ∷ 4 ∷ []; sent = 31 ∷ 32 ∷ 33 ∷ []; command = 3; moved = 1 }

sends_words : byte_to_send (set_of 0x16a00) (speech 1) sending ≡ 0x20
sends_words = refl

sends_its_block : byte_to_send (set_of 0x04a00) (speech 1) sending ≡ 4
sends_its_block = refl

sends_its_data : byte_to_send (set_of 0x04200) (speech 1) sending ≡ 32
sends_its_data = refl

sends_no_further_data : byte_to_send (set_of 0x04200) (speech 1) (record sending { moved = 3 }) ≡ 0
sends_no_further_data = refl

has_words_to_send : answering_by (speech 1) sending (set_of 0x16a00) None 70
    ≡ record { byte = 0x20; attends = true; speaks = false; raised = 70 }
has_words_to_send = refl

has_to_answer : answering_by (speech 2) sending (set_of 0x07a00) (Some ends.Target) 70
    ≡ record { byte = 32; attends = false; speaks = true; raised = 70 }
has_to_answer = refl

has_asked_itself : answering_by (speech 2) sending (set_of 0x07a00) (Some ends.Initiator) 70
    ≡ record { byte = 32; attends = false; speaks = false; raised = 70 }
has_asked_itself = refl

-- ---- how bytes cross

pulsed_data : pace_by true (set_of 0x01200) (pair 50 8) (host true 50) ≡ record {
  pulsed = true;
  offset = 8;
  times = record { period = 200; assertion = 90; negation = 90; set_up = 55; hold = 100 };
  lag = 40;
}
pulsed_data = refl

fast_data : pace_by true (set_of 0x00200) (pair 49 8) None ≡ record {
  pulsed = true;
  offset = 8;
  times = record { period = 196; assertion = 30; negation = 30; set_up = 25; hold = 35 };
  lag = 0;
}
fast_data = refl

asynchronous_data : (pace_by true (set_of 0x01200) (pair 50 0) (host true 50)).pulsed ≡ false
asynchronous_data = refl

asynchronous_command : (pace_by true (set_of 0x00a00) (pair 50 8) (host true 50)).pulsed ≡ false
asynchronous_command = refl

asynchronous_message : (pace_by true (set_of 0x02a00) (pair 50 8) (host true 50)).pulsed ≡ false
asynchronous_message = refl

not_yet_pulsed : (pace_by false (set_of 0x00200) (pair 50 8) (host true 50)).pulsed ≡ false
not_yet_pulsed = refl

-- ---- the target: the byte, whether one follows, where it goes, and the seek time

abbrev offering : Arrival → Plan → Bool → ℕ → ℕ → Offering
offering arrival p pulsed lines requests = offering_by (record (bytewise p (three 1)) { arrival = arrival }) true pulsed
    (set_of lines) (rose requests requests)

-- A run is left after this one: SAVE DATA POINTER, 02.
offers_a_byte : offering arrivals.Queued silent false 0x01200 0
    ≡ record { byte = 22; follows = true; to = set_of 0x03a02; wait = 0 }
unfolding ones
offers_a_byte = refl

seeks_in_command : offering arrivals.AtOnce silent false 0x00a00 6
    ≡ record { byte = 0; follows = false; to = set_of 0x01200; wait = 500 }
seeks_in_command = refl

seeks_not_again : (offering arrivals.AtOnce silent false 0x01200 1).wait ≡ 0
unfolding ones
seeks_not_again = refl

seeks_not_after_a_struck_byte : (offering arrivals.AtOnce (record silent { struck = true }) false 0x00a00 6).wait ≡ 0
seeks_not_after_a_struck_byte = refl

seeks_while_disconnected : (offering arrivals.Queued silent false 0x00a00 6).wait ≡ 0
seeks_while_disconnected = refl

-- By pulses a run to the target has a byte for each REQ.
pulses_follow :
    (offering_by (bytewise silent (record (three 0) { writes = true })) true true (set_of 0x00200) (rose 0 0)).follows
    ≡ true
pulses_follow = refl

pulses_do_not_follow :
    (offering_by (bytewise silent (record (three 0) { writes = true })) true true (set_of 0x00200) (rose 1 0)).follows
    ≡ false
pulses_do_not_follow = refl
