-- Every reaction, computed on small records: device 3 with a latency of 7 ns. What is expected stands as the delays of
-- docs/bus.md and the lines of a trace have it, the latency as the last summand.
use Rattle.std.proofs.Common.{ℕ, ◌≡◌, ◌+◌, Bool, true, false, List, [], ◌∷◌, Option, Some, None, refl}
use lib.Count.{ones}
use Rattle.bus_lines.specs.bus_trace.specs.LineSet.{set_of}
use Rattle.bus_lines.specs.bus_trace.specs.View.{union_below}
use Rattle.bus_lines.specs.bus_trace.specs.declared.Row.{Row}
use Rattle.bus_lines.specs.bus_trace.specs.declared.Kind.TheVariants.{Drives, Fault}
use Rattle.bus_lines.specs.bus_trace.specs.declared.selection.Calling.{Calling}
use Rattle.reaction_model.specs.declared.due.Due.{Due}
use Rattle.reaction_model.specs.declared.due.Myself.{Myself}
use Rattle.reaction_model.specs.declared.due.Want.{Want}
use Rattle.reaction_model.specs.declared.ends.Pace.{Pace}
use Rattle.reaction_model.specs.declared.ends.Offering.{Offering}
use Rattle.reaction_model.specs.declared.ends.Answering.{Answering}
use Rattle.reaction_model.specs.declared.ends.Hand.TheVariants.{Initiator, Target}
use Rattle.bus_lines.specs.declared.handshakes.Request.{Request}
use Rattle.bus_lines.specs.bus_trace.specs.declared.line_times.LineTimes.{LineTimes}
use Rattle.reaction_model.specs.declared.sight.Sight.{Sight}
use Rattle.bus_lines.specs.declared.stage.Stage.{Stage}
use Rattle.bus_lines.specs.declared.stage.Stage.TheVariants.{OnFreeBus, InArbitration, InCalling, InAnswer}
use Rattle.bus_lines.specs.declared.stage.Stage.TheVariants.{InConnection, InReset}
use Rattle.bus_lines.specs.Handshakes.{Handshakes, no_handshakes}
use Rattle.reaction_model.specs.Reactions.{due_at, sooner_time, time_if}
use Rattle.bus_lines.specs.bus_trace.specs.Trace.{no_times, line_times, times_after, phase_time, free_time}
use Rattle.reaction_model.specs.Sight.{sight}
use Rattle.reaction_model.specs.Linking.{link_due, sample_time}
use Rattle.reaction_model.specs.Reset.{with_reset}
use Rattle.reaction_model.specs.Ends.{hand_due, sample_due}

-- ---- records

-- At this time it drives these lines, as a trace has them.
abbrev row : ℕ → ℕ → Option Due
row time lines = due_at time (set_of lines)

abbrev me : ℕ → ℕ → Myself
me lines since = record { dev = 3; latency = 7; own = set_of lines; since = since }

-- It wants the bus since this time, of device 5, as an initiator or as a target.
abbrev want_of : Bool → Option ℕ → Option ℕ → Want
want_of reselects since callee = record { since = since; callee = callee; reselects = reselects; first = 0x82 }

abbrev want : Option ℕ → Want
want since = want_of false since (Some 5)

-- Lines that stood as they do since times of which none is another one.
abbrev distinct_times : LineTimes
distinct_times = record { bsy = 11; sel = 12; msg = 13; cd = 14; io = 15; req = 16; ack = 17; atn = 18; rst = 19 }

abbrev sight_of : ℕ → LineTimes → Stage → Sight
sight_of lines a s = record { bus = set_of lines; ages = a; stage = s }

-- What it is due to do on its way to a connection.
abbrev linking_due : ℕ → LineTimes → Stage → Myself → Want → Option Due
linking_due lines a s m w = link_due (sight_of lines a s) m w None

-- ---- the free bus: a bus settle delay and a bus free delay

enters_after_free : linking_due 0x00000 distinct_times (OnFreeBus 5000) (me 0x00000 0) (want (Some 100))
    ≡ row (5000 + 1200 + 7) 0x00208
enters_after_free = refl

enters_when_it_wants : linking_due 0x00000 distinct_times (OnFreeBus 5000) (me 0x00000 0) (want (Some 7000))
    ≡ row (7000 + 7) 0x00208
enters_when_it_wants = refl

wants_nothing : linking_due 0x00000 distinct_times (OnFreeBus 5000) (me 0x00000 0) (want None) ≡ None
wants_nothing = refl

-- ---- arbitration: a bus set delay, an arbitration delay

-- The bus was free since 5000, the first entry was at 6200.
abbrev arbitration_due : ℕ → ℕ → Option ℕ → Option Due
arbitration_due lines own since =
    linking_due lines distinct_times (InArbitration (record { free = 5000; first = 6200 })) (me own 6207) (want since)

enters_with_the_others : arbitration_due 0x00280 0x00000 (Some 100) ≡ row (5000 + 1200 + 7) 0x00208
enters_with_the_others = refl

enters_at_the_bus_set_delay : arbitration_due 0x00280 0x00000 (Some 7993) ≡ row (6200 + 1800) 0x00208
enters_at_the_bus_set_delay = refl

enters_no_later : arbitration_due 0x00280 0x00000 (Some 7994) ≡ None
enters_no_later = refl

does_not_enter : arbitration_due 0x00280 0x00000 None ≡ None
does_not_enter = refl

wins_over_lower : arbitration_due 0x0020d 0x00208 (Some 100) ≡ row (6207 + 2400 + 7) 0x00608
wins_over_lower = refl

loses_to_the_next : arbitration_due 0x00218 0x00208 (Some 100) ≡ None
loses_to_the_next = refl

loses_to_the_highest : arbitration_due 0x00288 0x00208 (Some 100) ≡ None
loses_to_the_highest = refl

-- ---- the loser

abbrev calling_by : ℕ → Option Calling → Stage
calling_by caller c = InCalling (record { caller = caller; at = 9000; calling = c })

abbrev sel_at_9000 : LineTimes
sel_at_9000 = record distinct_times { sel = 9000 }

loser_releases : linking_due 0x00688 sel_at_9000 (calling_by 7 None) (me 0x00208 6207) (want (Some 100))
    ≡ row (9000 + 7) 0x00000
loser_releases = refl

drives_nothing : linking_due 0x00680 sel_at_9000 (calling_by 7 None) (me 0x00000 9007) (want (Some 100)) ≡ None
drives_nothing = refl

-- ---- the caller: a bus clear delay and a bus settle delay, two deskew delays

abbrev quiet : Want → Option Due
quiet w = linking_due 0x00608 sel_at_9000 (calling_by 3 None) (me 0x00608 9000) w

-- An initiator with ATN, a target with I/O.
calls_a_target : quiet (want_of false (Some 100) (Some 5)) ≡ row (9000 + 1200 + 7) 0x10728
calls_a_target = refl

calls_an_initiator : quiet (want_of true (Some 100) (Some 5)) ≡ row (9000 + 1200 + 7) 0x01728
calls_an_initiator = refl

calls_the_highest : quiet (want_of false (Some 100) (Some 7)) ≡ row (9000 + 1200 + 7) 0x10788
calls_the_highest = refl

calls_no_one : quiet (want_of false (Some 100) None) ≡ None
calls_no_one = refl

calls_not_itself : quiet (want_of false (Some 100) (Some 3)) ≡ None
calls_not_itself = refl

calls_no_ninth : quiet (want_of false (Some 100) (Some 8)) ≡ None
calls_no_ninth = refl

abbrev calling : ℕ → Bool → Option ℕ → Calling
calling called answered_reselection released = record {
  called = called;
  reselects = answered_reselection;
  at = 10207;
  released = released;
  withdrawn = None;
  resumed = None;
  answered = None;
  struck = false;
}

releases_bsy :
    linking_due 0x10728 distinct_times (calling_by 3 (Some (calling 5 false None))) (me 0x10728 10207) (want None)
    ≡ row (10207 + 90 + 7) 0x10528
releases_bsy = refl

-- A selection time-out delay; a selection abort time and two deskew delays.
withdraws_the_ids : linking_due 0x10528 distinct_times
    (calling_by 3 (Some (calling 5 false (Some 10304)))) (me 0x10528 10304) (want None)
    ≡ row (10304 + 250000000 + 7) 0x10400
withdraws_the_ids = refl

gives_it_up : linking_due 0x10400 distinct_times (calling_by 3
    (Some (record (calling 5 false (Some 10304)) { withdrawn = Some 250010311 }))) (me 0x10400 250010311) (want None)
    ≡ row (250010311 + 200090 + 7) 0x00000
gives_it_up = refl

-- ---- the called device: a bus settle delay after BSY fell

-- Device 7 released BSY at 11990, another one at 12000.
abbrev called : Calling → ℕ → Option ℕ → Option Due
called c own flip = link_due (sight_of 0x10588 (record distinct_times { bsy = 12000; sel = 9000 })
    (calling_by 7 (Some c))) (me own 6207) (want None) flip

answers_the_call : called (calling 3 false (Some 11990)) 0x00000 None ≡ row (12000 + 400 + 7) 0x00200
answers_the_call = refl

fault_strikes_the_ids : called (calling 3 false (Some 11990)) 0x00000 (Some 8)
    ≡ Some (record { time = 12000 + 400 + 7; kind = Fault 8 })
fault_strikes_the_ids = refl

struck_does_not_answer : called (record (calling 3 false (Some 11990)) { struck = true }) 0x00000 None ≡ None
struck_does_not_answer = refl

waits_for_the_release : called (calling 3 false None) 0x00000 None ≡ None
waits_for_the_release = refl

withdrawn_is_not_answered : called (record (calling 3 false (Some 11990)) { withdrawn = Some 250012000 }) 0x00000 None
    ≡ None
withdrawn_is_not_answered = refl

-- Another one is called.
call_of_another : called (calling 2 false (Some 11990)) 0x00000 None ≡ None
call_of_another = refl

lost_before_the_call : called (calling 2 false (Some 11990)) 0x00208 None ≡ row (9000 + 7) 0x00000
lost_before_the_call = refl

sampled_when : sample_time (sight_of 0x10588 (record distinct_times { bsy = 12000 }) (OnFreeBus 0)) (me 0x00000 0)
    ≡ 12000 + 400 + 7
sampled_when = refl

-- ---- the answer: two deskew delays

abbrev answer_to : ℕ → Calling → Stage
answer_to caller c = InAnswer (record { caller = caller; at = 9000; calling = Some c }) c 12407

abbrev answered_selection : Calling
answered_selection = record (calling 5 false (Some 10304)) { answered = Some 12407 }

abbrev answered_reselection : Calling
answered_reselection = record (calling 5 true (Some 10304)) { answered = Some 12407 }

selection_ends : linking_due 0x10728 distinct_times (answer_to 3 answered_selection) (me 0x10528 10304) (want None)
    ≡ row (12407 + 90 + 7) 0x10000
selection_ends = refl

target_drives_bsy : linking_due 0x01728 distinct_times
    (answer_to 3 answered_reselection) (me 0x01528 10304) (want_of true None (Some 5))
    ≡ row (12407 + 7) 0x01728
target_drives_bsy = refl

-- IDENTIFY of unit 2 is 82, with parity.
reselection_ends : linking_due 0x01728 distinct_times
    (answer_to 3 (record answered_reselection { resumed = Some 12414 })) (me 0x01728 12414) (want_of true None (Some 5))
    ≡ row (12414 + 90 + 7) 0x03b82
unfolding ones
reselection_ends = refl

answered_and_waits : linking_due 0x10788 distinct_times
    (answer_to 7 (record answered_selection { called = 3 })) (me 0x00200 12407) (want None)
    ≡ None
answered_and_waits = refl

lost_before_the_answer : linking_due 0x107a8 sel_at_9000 (answer_to 7 answered_selection) (me 0x00208 6207) (want None)
    ≡ row (9000 + 7) 0x00000
lost_before_the_answer = refl

-- ---- a connection

abbrev connected_stage : Stage
connected_stage = InConnection (record { initiator = 7; target = 0; began = 100; reselected = false })

stands_aside : linking_due 0x00a00 distinct_times connected_stage (me 0x00000 0) (want (Some 100)) ≡ None
stands_aside = refl

-- ---- RST: a reset hold time

clears_under_rst : linking_due 0x20a00 distinct_times (InReset 20000) (me 0x00a00 15000) (want (Some 100))
    ≡ row (20000 + 7) 0x00000
clears_under_rst = refl

waits_under_rst : linking_due 0x20000 distinct_times (InReset 20000) (me 0x00000 20007) (want (Some 100)) ≡ None
waits_under_rst = refl

-- A reset has no latency, and goes before what is due then or later.
resets_alone : with_reset (me 0x00208 6207) 0 (Some 8000) None ≡ row 8000 0x20000
resets_alone = refl

resets_sooner : with_reset (me 0x00208 6207) 0 (Some 8000) (row 8614 0x00608) ≡ row 8000 0x20000
resets_sooner = refl

resets_first : with_reset (me 0x00208 6207) 0 (Some 8614) (row 8614 0x00608) ≡ row 8614 0x20000
resets_first = refl

resets_later : with_reset (me 0x00208 6207) 0 (Some 8615) (row 8614 0x00608) ≡ row 8614 0x00608
resets_later = refl

no_reset : with_reset (me 0x00208 6207) 0 None (row 8614 0x00608) ≡ row 8614 0x00608
no_reset = refl

reset_ends : with_reset (me 0x20000 8000) 8000 (Some 9000) (row 8614 0x00608) ≡ row (8000 + 25000 + 7) 0x00000
reset_ends = refl

-- ---- the ends of a connection, byte by byte

-- Times of a transfer period of which none is another one.
abbrev pace : Bool → Pace
pace pulsed = record {
  pulsed = pulsed;
  offset = 2;
  lag = 300;
  times = record { period = 260; assertion = 80; negation = 95; set_up = 55; hold = 100 };
}

-- A further byte 55, with parity, or none.
abbrev offering : Bool → Offering
offering follows = record { byte = 0x55; follows = follows; to = set_of 0x01a00; wait = 0 }

abbrev answering_hand : Bool → Bool → Answering
answering_hand attends speaks = record { byte = 0x12; attends = attends; speaks = speaks; raised = 40000 }

abbrev target : ℕ → LineTimes → Handshakes → ℕ → Offering → Option Due
target lines a b own g =
    hand_due true 0 None (sight_of lines a connected_stage) b (me own 30000) (pace false) (Target g)

abbrev initiator : ℕ → LineTimes → Handshakes → ℕ → Answering → Option Due
initiator lines a b own g =
    hand_due true 0 None (sight_of lines a connected_stage) b (me own 30000) (pace false) (Initiator g)

abbrev some : Handshakes
some = record no_handshakes { requests = 1; answers = 1 }

-- A fault strikes the byte that crossed in the last row, without latency.
fault_strikes_a_byte : hand_due true 30020 (Some 4) (sight_of 0x0c212 distinct_times connected_stage) some
    (me 0x04a00 30000) (pace false) (Target (offering true))
    ≡ Some (record { time = 30020; kind = Fault 4 })
fault_strikes_a_byte = refl

sampled_byte : sample_due true 30020 (Some 4) (row 30027 0x00a00) ≡ Some (record { time = 30020; kind = Fault 4 })
sampled_byte = refl

sampled_well : sample_due true 30020 None (row 30027 0x00a00) ≡ row 30027 0x00a00
sampled_well = refl

not_sampled : sample_due false 30020 (Some 4) (row 30027 0x00a00) ≡ row 30027 0x00a00
not_sampled = refl

-- ---- a connection begins

begins_message_out : hand_due false 0 None (sight_of 0x10200 (record distinct_times { sel = 31000 }) connected_stage)
    no_handshakes (me 0x00200 30000) (pace true) (Target (offering true))
    ≡ row (31000 + 7) 0x02a00
begins_message_out = refl

selected_waits : hand_due false 0 None (sight_of 0x10200 (record distinct_times { sel = 31000 }) connected_stage)
    no_handshakes (me 0x10000 30000) (pace true) (Initiator (answering_hand true false))
    ≡ None
selected_waits = refl

lets_bsy_go :
    initiator 0x03b82 (record distinct_times { sel = 31000 }) no_handshakes 0x00200 (answering_hand false false)
    ≡ row (31000 + 7) 0x00000
lets_bsy_go = refl

-- What it still drives of a pulsed phase it releases a hold time after it raised ACK.
owed_release : initiator 0x01a00 distinct_times no_handshakes 0x00112 (answering_hand false false)
    ≡ row (40000 + 100 + 7) 0x00000
owed_release = refl

-- ---- the target, byte by byte: the first byte

abbrev command_at_20000 : LineTimes
command_at_20000 = record distinct_times { cd = 20000 }

abbrev turned_at_20000 : LineTimes
turned_at_20000 = record distinct_times { io = 20000; cd = 20000 }

first_req_of_command : target 0x00a00 command_at_20000 no_handshakes 0x00a00 (offering true)
    ≡ row (20000 + 400 + 7) 0x04a00
first_req_of_command = refl

first_req_of_message_out : target 0x02a00 (record distinct_times { msg = 20000 }) no_handshakes 0x02a00 (offering true)
    ≡ row (20000 + 400 + 7) 0x06a00
first_req_of_message_out = refl

first_byte_after_the_turn : target 0x01a00 turned_at_20000 no_handshakes 0x01a00 (offering true)
    ≡ row (20000 + 800 + 7) 0x01b55
unfolding ones
first_byte_after_the_turn = refl

first_req_after_the_turn : target 0x01b55 turned_at_20000 no_handshakes 0x01b55 (offering true)
    ≡ row (30000 + 55 + 7) 0x05b55
first_req_after_the_turn = refl

-- I/O was true before, or has turned to false.
first_req_with_io : target 0x01b55 command_at_20000 no_handshakes 0x01b55 (offering true)
    ≡ row (20000 + 400 + 7) 0x05b55
first_req_with_io = refl

first_req_turned_back : target 0x00a00 turned_at_20000 no_handshakes 0x00a00 (offering true)
    ≡ row (20000 + 400 + 7) 0x04a00
first_req_turned_back = refl

-- ---- the target, byte by byte: REQ falls, and rises again

abbrev acked_at_30100 : LineTimes
acked_at_30100 = record distinct_times { ack = 30100 }

waits_for_ack : target 0x05b55 distinct_times some 0x05b55 (offering true) ≡ None
waits_for_ack = refl

req_falls_with_a_byte : target 0x0db00 acked_at_30100 some 0x05b00 (offering true) ≡ row (30100 + 7) 0x01b55
unfolding ones
req_falls_with_a_byte = refl

req_falls_with_none : target 0x0db00 acked_at_30100 some 0x05b00 (offering false) ≡ row (30100 + 7) 0x01a00
req_falls_with_none = refl

req_falls_to_the_target : target 0x0cb12 acked_at_30100 some 0x04a00 (offering true) ≡ row (30100 + 7) 0x00a00
req_falls_to_the_target = refl

waits_for_no_ack : target 0x09b55 acked_at_30100 some 0x01b55 (offering true) ≡ None
waits_for_no_ack = refl

next_req_to_the_target : target 0x00a00 (record distinct_times { ack = 30010 }) some 0x00a00 (offering true)
    ≡ row (30010 + 7) 0x04a00
next_req_to_the_target = refl

next_req_after_the_byte : target 0x01b55 (record distinct_times { ack = 30010 }) some 0x01b55 (offering true)
    ≡ row (30000 + 55 + 7) 0x05b55
next_req_after_the_byte = refl

next_req_after_ack : target 0x01b55 (record distinct_times { ack = 30060 }) some 0x01b55 (offering true)
    ≡ row (30060 + 7) 0x05b55
next_req_after_ack = refl

leaves_on_ack_false : target 0x01200 acked_at_30100 some 0x01200 (offering false) ≡ row (30100 + 7) 0x01a00
leaves_on_ack_false = refl

leaves_after_the_seek : target 0x00a00 acked_at_30100 some 0x00a00 (record (offering false) { wait = 5000 })
    ≡ row (30100 + 5000 + 7) 0x01a00
leaves_after_the_seek = refl

-- ---- the initiator, byte by byte: a byte to it

abbrev asked_at_31000 : LineTimes
asked_at_31000 = record distinct_times { req = 31000 }

waits_for_req : initiator 0x01b55 distinct_times some 0x00000 (answering_hand true true) ≡ None
waits_for_req = refl

takes_a_byte : initiator 0x05b55 asked_at_31000 some 0x00000 (answering_hand true false) ≡ row (31000 + 7) 0x08000
takes_a_byte = refl

takes_a_struck_byte :
    initiator 0x05b55 asked_at_31000 (record some { struck = true }) 0x00000 (answering_hand false false)
    ≡ row (31000 + 7) 0x18000
takes_a_struck_byte = refl

takes_a_request : initiator 0x07b55 asked_at_31000 some 0x00000 (answering_hand false true) ≡ row (31000 + 7) 0x18000
takes_a_request = refl

takes_with_attention : initiator 0x15b55 asked_at_31000 some 0x10000 (answering_hand false false)
    ≡ row (31000 + 7) 0x18000
takes_with_attention = refl

waits_for_no_req : initiator 0x0db55 asked_at_31000 some 0x08000 (answering_hand false false) ≡ None
waits_for_no_req = refl

ack_falls : initiator 0x08a12 (record distinct_times { req = 31010; ack = 30000; atn = 30000 }) some 0x08112
    (answering_hand false false) ≡ row (31010 + 7) 0x00000
ack_falls = refl

-- ATN fell with this ACK.
ack_falls_without_attention : initiator 0x09b55
    (record distinct_times { req = 30050; ack = 30000; atn = 30000 }) some 0x08000 (answering_hand false false)
    ≡ row (30050 + 7) 0x00000
ack_falls_without_attention = refl

-- ATN rose with this ACK: two deskew delays, and REQ false.
delayed_ack : initiator 0x19b55 (record distinct_times { req = 30050; ack = 30000; atn = 30000 }) some 0x18000
    (answering_hand false false) ≡ row (30000 + 90 + 7) 0x10000
delayed_ack = refl

delayed_ack_and_req : initiator 0x19b55
    (record distinct_times { req = 30100; ack = 30000; atn = 30000 }) some 0x18000 (answering_hand false false)
    ≡ row (30100 + 7) 0x10000
delayed_ack_and_req = refl

ack_with_older_attention : initiator 0x19b55
    (record distinct_times { req = 30050; ack = 30000; atn = 29999 }) some 0x18000 (answering_hand false false)
    ≡ row (30050 + 7) 0x10000
ack_with_older_attention = refl

-- ---- the initiator, byte by byte: a byte from it

drives_a_command_byte : initiator 0x04a00 asked_at_31000 some 0x00000 (answering_hand true false)
    ≡ row (31000 + 7) 0x00112
unfolding ones
drives_a_command_byte = refl

attends_while_a_byte_follows : initiator 0x06a00 asked_at_31000 some 0x00000 (answering_hand true false)
    ≡ row (31000 + 7) 0x10112
unfolding ones
attends_while_a_byte_follows = refl

last_byte_negates_attention : initiator 0x16a00 asked_at_31000 some 0x10000 (answering_hand false false)
    ≡ row (31000 + 7) 0x00112
unfolding ones
last_byte_negates_attention = refl

attention_stays_in_command : initiator 0x14a00 asked_at_31000 some 0x10000 (answering_hand false false)
    ≡ row (31000 + 7) 0x10112
unfolding ones
attention_stays_in_command = refl

set_up_before_ack :
    initiator 0x04b12 (record distinct_times { req = 29990; atn = 30000 }) some 0x00112 (answering_hand false false)
    ≡ row (30000 + 55 + 7) 0x08112
set_up_before_ack = refl

ack_after_attention :
    initiator 0x06b12 (record distinct_times { req = 29990; atn = 30000 }) some 0x00112 (answering_hand false false)
    ≡ row (30000 + 90 + 7) 0x08112
ack_after_attention = refl

ack_after_older_attention :
    initiator 0x16b12 (record distinct_times { req = 29990; atn = 29960 }) some 0x10112 (answering_hand true false)
    ≡ row (30000 + 55 + 7) 0x18112
ack_after_older_attention = refl

-- ---- the target, by pulses

abbrev request : ℕ → Request
request time = record { time = time; struck = false }

abbrev struck_request : ℕ → Request
struck_request time = record { time = time; struck = true }

-- REQ rose four times, last at 50000, ACK three times, last at 49900; these wait for their answers.
abbrev pulsed_handshakes : List Request → Handshakes
pulsed_handshakes waiting = record {
  requests = 4;
  answers = 3;
  last_req = 50000;
  last_ack = 49900;
  struck = false;
  reach = 1;
  relieved = None;
  waiting = waiting;
}

abbrev pulsing : ℕ → LineTimes → Handshakes → ℕ → Offering → Option Due
pulsing lines a b own g =
    hand_due true 0 None (sight_of lines a connected_stage) b (me own 50030) (pace true) (Target g)

req_pulse_ends : pulsing 0x05355 (record distinct_times { req = 50000 })
    (pulsed_handshakes (request 50000 ∷ [])) 0x05355 (offering true)
    ≡ row (50000 + 80 + 7) 0x01355
req_pulse_ends = refl

first_req_pulse : pulsing 0x00200 command_at_20000 no_handshakes 0x00200 (offering true) ≡ row (20000 + 400 + 7) 0x04200
first_req_pulse = refl

first_byte_of_pulses : pulsing 0x01200 turned_at_20000 no_handshakes 0x01200 (offering true)
    ≡ row (20000 + 800 + 7) 0x01355
unfolding ones
first_byte_of_pulses = refl

-- The byte changes at the end of its hold time, after the last one to none.
byte_changes : pulsing 0x01200 (record distinct_times { req = 50087 })
    (pulsed_handshakes (request 50000 ∷ [])) 0x01300 (offering true)
    ≡ row (50000 + 100 + 7) 0x01355
unfolding ones
byte_changes = refl

last_byte_is_held : pulsing 0x01200 (record distinct_times { req = 50087 })
    (pulsed_handshakes (request 50000 ∷ [])) 0x01355 (offering false)
    ≡ row (50000 + 100 + 7) 0x01200
last_byte_is_held = refl

-- No pulse is answered yet.
second_req_pulse : pulsing 0x00200 (record distinct_times {
  req = 50087;
}) (record (pulsed_handshakes (request 50000 ∷ [])) { requests = 1; answers = 0; last_ack = 0 }) 0x00200 (offering true)
    ≡ row (50000 + 260 + 7) 0x04200
second_req_pulse = refl

-- The next pulse: a period after the last one, a negation period after its end, a set-up time after the byte. An equal
-- byte counts as driven at the end of the hold time and the latency.
abbrev after_pulse : Pace → ℕ → ℕ → Option Due
after_pulse p lines fell = hand_due true 0 None (sight_of lines (record distinct_times { req = fell }) connected_stage)
    (pulsed_handshakes (request 50000 ∷ [])) (me lines 50030) p (Target (offering true))

pulse_after_a_period : after_pulse (pace true) 0x01355 50087 ≡ row (50000 + 260 + 7) 0x05355
unfolding ones
pulse_after_a_period = refl

pulse_after_the_negation : after_pulse (pace true) 0x01355 50170 ≡ row (50170 + 95 + 7) 0x05355
unfolding ones
pulse_after_the_negation = refl

pulse_after_an_equal_byte : after_pulse (record (pace true) {
  times = record { period = 100; assertion = 30; negation = 30; set_up = 55; hold = 100 };
}) 0x01355 50037 ≡ row ((50000 + 100 + 7) + 55 + 7) 0x05355
unfolding ones
pulse_after_an_equal_byte = refl

pulse_to_the_target : after_pulse (record (pace true) {
  times = record { period = 100; assertion = 30; negation = 30; set_up = 55; hold = 100 };
}) 0x00200 50037 ≡ row (50000 + 100 + 7) 0x04200
pulse_to_the_target = refl

-- The offset is 2.
pulses_fill_the_offset : pulsing 0x00200 (record distinct_times { req = 50087 })
    (pulsed_handshakes (request 49800 ∷ request 50000 ∷ [])) 0x00200 (offering true)
    ≡ None
pulses_fill_the_offset = refl

-- Room is since the first ACK after the REQ that filled the offset, and was before where none filled it.
room_since_the_first_ack : pulsing 0x00200 (record distinct_times { req = 50087; ack = 52080 })
    (record (pulsed_handshakes (request 50000 ∷ [])) { reach = 2; relieved = Some 51000; last_ack = 52000 }) 0x00200
    (offering true) ≡ row (51000 + 7) 0x04200
room_since_the_first_ack = refl

room_was_before : pulsing 0x00200 (record distinct_times { req = 50087; ack = 52080 })
    (record (pulsed_handshakes (request 50000 ∷ [])) { reach = 1; relieved = Some 51000; last_ack = 52000 }) 0x00200
    (offering true) ≡ row (50000 + 260 + 7) 0x04200
room_was_before = refl

-- The phase is left once all pulses are answered, ACK is false, and the last byte has been held.
leaves_when_held :
    pulsing 0x01200 (record distinct_times { req = 50087; ack = 50090 }) (pulsed_handshakes []) 0x01200 (offering false)
    ≡ row (50000 + 100 + 7) 0x01a00
leaves_when_held = refl

leaves_when_ack_is_false :
    pulsing 0x01200 (record distinct_times { req = 50087; ack = 50200 }) (pulsed_handshakes []) 0x01200 (offering false)
    ≡ row (50200 + 7) 0x01a00
leaves_when_ack_is_false = refl

-- The last byte to the target is held from ACK on.
leaves_when_held_by_the_initiator : pulsing 0x00200 (record distinct_times { req = 50087; ack = 50510 })
    (record (pulsed_handshakes []) { last_ack = 50430 }) 0x00200 (offering false)
    ≡ row (50430 + 100 + 7) 0x01a00
leaves_when_held_by_the_initiator = refl

stays_while_unanswered : pulsing 0x01200 (record distinct_times { req = 50087; ack = 50200 })
    (pulsed_handshakes (request 50000 ∷ [])) 0x01200 (offering false)
    ≡ None
stays_while_unanswered = refl

stays_while_ack_is_true :
    pulsing 0x09200 (record distinct_times { req = 50087; ack = 50200 }) (pulsed_handshakes []) 0x01200 (offering false)
    ≡ None
stays_while_ack_is_true = refl

-- ---- the initiator, by pulses

abbrev answering : ℕ → LineTimes → Handshakes → ℕ → Option Due
answering lines a b own = hand_due true 0 None (sight_of lines a connected_stage) b (me own 30000) (pace true)
    (Initiator (answering_hand false false))

ack_pulse_ends : answering 0x08212 (record distinct_times { ack = 50000; atn = 40000 }) (pulsed_handshakes []) 0x08112
    ≡ row (50000 + 80 + 7) 0x00112
ack_pulse_ends = refl

-- ATN rose with it: two deskew delays, if that is longer.
ack_pulse_with_attention :
    answering 0x19200 (record distinct_times { ack = 50000; atn = 50000 }) (pulsed_handshakes []) 0x18000
    ≡ row (50000 + 90 + 7) 0x10000
ack_pulse_with_attention = refl

long_ack_pulse_with_attention :
    hand_due true 0 None (sight_of 0x19200 (record distinct_times { ack = 50000; atn = 50000 }) connected_stage)
    (pulsed_handshakes []) (me 0x18000 50000) (record (pace true) {
      times = record { period = 260; assertion = 91; negation = 95; set_up = 55; hold = 100 };
    }) (Initiator (answering_hand false false))
    ≡ row (50000 + 91 + 7) 0x10000
long_ack_pulse_with_attention = refl

-- An ACK pulse begins its lag after the oldest REQ pulse, a period after the last, a negation period after its end.
ack_pulse_after_the_lag : answering 0x01255 (record distinct_times { ack = 49980 })
    (pulsed_handshakes (request 50000 ∷ request 50200 ∷ [])) 0x00000
    ≡ row (50000 + 300 + 7) 0x08000
ack_pulse_after_the_lag = refl

ack_pulse_after_a_period : answering 0x01255 (record distinct_times { ack = 49980 })
    (record (pulsed_handshakes (request 49500 ∷ [])) { last_ack = 49900 }) 0x00000
    ≡ row (49900 + 260 + 7) 0x08000
ack_pulse_after_a_period = refl

ack_pulse_after_the_negation : answering 0x01255 (record distinct_times { ack = 50070 })
    (record (pulsed_handshakes (request 49500 ∷ [])) { last_ack = 49900 }) 0x00000
    ≡ row (50070 + 95 + 7) 0x08000
ack_pulse_after_the_negation = refl

-- Nothing was answered in this phase.
first_ack_pulse : answering 0x01255 (record distinct_times { ack = 49980 })
    (record (pulsed_handshakes (request 49500 ∷ [])) { answers = 0; last_ack = 0 }) 0x00000
    ≡ row (49500 + 300 + 7) 0x08000
first_ack_pulse = refl

-- With ATN where the byte of the oldest was struck.
ack_pulse_of_a_struck_byte : answering 0x01255 (record distinct_times { ack = 49980 })
    (pulsed_handshakes (struck_request 50000 ∷ request 50200 ∷ [])) 0x00000
    ≡ row (50000 + 300 + 7) 0x18000
ack_pulse_of_a_struck_byte = refl

ack_pulse_before_a_struck_byte : answering 0x01255 (record distinct_times { ack = 49980 })
    (record (pulsed_handshakes (request 50000 ∷ struck_request 50200 ∷ [])) { struck = true }) 0x00000
    ≡ row (50000 + 300 + 7) 0x08000
ack_pulse_before_a_struck_byte = refl

-- It drives its byte 12 at the rise of REQ, and not before the end of the hold time of the one before: it raised ACK
-- last at 40000.
byte_on_a_pulse :
    answering 0x04200 (record distinct_times { ack = 40080 }) (pulsed_handshakes (request 50000 ∷ [])) 0x00000
    ≡ row (50000 + 7) 0x00112
unfolding ones
byte_on_a_pulse = refl

byte_after_the_hold :
    answering 0x04200 (record distinct_times { ack = 40080 }) (pulsed_handshakes (request 40050 ∷ [])) 0x00155
    ≡ row (40000 + 100 + 7) 0x00112
unfolding ones
byte_after_the_hold = refl

byte_on_the_first_pulse : answering 0x04200 (record distinct_times { ack = 40080 })
    (record (pulsed_handshakes (request 40050 ∷ [])) { answers = 0 }) 0x00000
    ≡ row (40050 + 7) 0x00112
unfolding ones
byte_on_the_first_pulse = refl

-- ACK comes a set-up time after the byte; an equal byte counts as driven at the time at which it may be.
abbrev without_lag : Pace
without_lag = record (pace true) { lag = 0 }

ack_pulse_after_the_set_up :
    hand_due true 0 None (sight_of 0x00312 (record distinct_times { ack = 40080 }) connected_stage)
    (record (pulsed_handshakes (request 50000 ∷ [])) {
      last_ack = 40000;
    }) (me 0x00112 50007) without_lag (Initiator (answering_hand false false))
    ≡ row ((50000 + 7) + 55 + 7) 0x08112
unfolding ones
ack_pulse_after_the_set_up = refl

ack_pulse_after_an_equal_byte :
    hand_due true 0 None (sight_of 0x00312 (record distinct_times { ack = 40080 }) connected_stage)
    (record (pulsed_handshakes (request 40050 ∷ [])) { last_ack = 40000 }) (me 0x00112 30000) (record without_lag {
      times = record { period = 100; assertion = 30; negation = 30; set_up = 55; hold = 100 };
    }) (Initiator (answering_hand false false))
    ≡ row ((40000 + 100 + 7) + 55 + 7) 0x08112
unfolding ones
ack_pulse_after_an_equal_byte = refl

ack_pulse_of_a_byte_after_the_lag : answering 0x00312 (record distinct_times { ack = 40080 })
    (record (pulsed_handshakes (request 50000 ∷ [])) { last_ack = 40000 }) 0x00112
    ≡ row (50000 + 300 + 7) 0x08112
unfolding ones
ack_pulse_of_a_byte_after_the_lag = refl

-- Where no REQ pulse is unanswered it releases its byte at the end of the hold time.
byte_released : answering 0x00312 (record distinct_times { ack = 40080 }) (pulsed_handshakes []) 0x00112
    ≡ row (40000 + 100 + 7) 0x00000
byte_released = refl

nothing_to_release : answering 0x00200 (record distinct_times { ack = 40080 }) (pulsed_handshakes []) 0x00000 ≡ None
nothing_to_release = refl

-- ---- what is seen of a bus on which device 0 has reselected device 7

abbrev drive : ℕ → ℕ → ℕ → Row
drive time dev lines = record { time = time; dev = dev; kind = Drives (set_of lines) }

abbrev connected : List Row
connected = drive 5380 7 0x00000 ∷ drive 5380 0 0x03a80 ∷ drive 5290 0 0x01781 ∷ drive 5290 7 0x00200
    ∷ drive 4890 0 0x01581 ∷ drive 4800 0 0x01781 ∷ drive 3600 0 0x00601 ∷ drive 1200 0 0x00201 ∷ []

abbrev acked : List Row
acked = drive 5790 7 0x18000 ∷ record { time = 5790; dev = 7; kind = Fault 3 } ∷ drive 5780 0 0x07a80 ∷ connected

seen_at_the_start : sight [] ≡ sight_of 0x00000 no_times (OnFreeBus 0)
unfolding union_below
seen_at_the_start = refl

seen_in_the_connection : sight connected ≡ sight_of 0x03a80
    (record { bsy = 5290; sel = 5380; msg = 5380; cd = 5380; io = 4800; req = 0; ack = 0; atn = 0; rst = 0 })
    (InConnection (record { initiator = 7; target = 0; began = 5380; reselected = true }))
unfolding union_below ones
seen_in_the_connection = refl

lines_stand : line_times acked
    ≡ record { bsy = 5290; sel = 5380; msg = 5380; cd = 5380; io = 4800; req = 5780; ack = 5790; atn = 5790; rst = 0 }
unfolding union_below
lines_stand = refl

lines_stand_under_rst : line_times (drive 6000 3 0x20000 ∷ connected)
    ≡ record { bsy = 5290; sel = 5380; msg = 5380; cd = 5380; io = 4800; req = 0; ack = 0; atn = 0; rst = 6000 }
unfolding union_below
lines_stand_under_rst = refl

-- A row that changes one line after another, at 70.
abbrev change_times : ℕ → ℕ → LineTimes
change_times before after = times_after distinct_times (set_of before) (set_of after) 70

changes_every_line : change_times 0x00000 0x3fe00
    ≡ record { bsy = 70; sel = 70; msg = 70; cd = 70; io = 70; req = 70; ack = 70; atn = 70; rst = 70 }
changes_every_line = refl

changes_every_line_back : change_times 0x3fe00 0x00000
    ≡ record { bsy = 70; sel = 70; msg = 70; cd = 70; io = 70; req = 70; ack = 70; atn = 70; rst = 70 }
changes_every_line_back = refl

changes_data_alone : change_times 0x3feff 0x3fe00 ≡ distinct_times
changes_data_alone = refl

changes_every_second_line : change_times 0x00a00 0x2a800
    ≡ record distinct_times { bsy = 70; msg = 70; ack = 70; rst = 70 }
changes_every_second_line = refl

changes_the_others : change_times 0x05400 0x10000 ≡ record distinct_times { sel = 70; io = 70; req = 70; atn = 70 }
changes_the_others = refl

-- The last of the three phase lines; of BSY, SEL and RST.
abbrev last_of : ℕ → ℕ → ℕ → LineTimes
last_of first second third =
    record distinct_times { msg = first; cd = second; io = third; bsy = first; sel = second; rst = third }

phase_lines_stand : phase_time (last_of 70 60 50) ∷ phase_time (last_of 60 70 50) ∷ phase_time (last_of 50 60 70) ∷ []
    ≡ 70 ∷ 70 ∷ 70 ∷ []
phase_lines_stand = refl

bus_is_free_since : free_time (last_of 70 60 50) ∷ free_time (last_of 60 70 50) ∷ free_time (last_of 50 60 70) ∷ []
    ≡ 70 ∷ 70 ∷ 70 ∷ []
bus_is_free_since = refl

-- ---- the sooner of two

no_sooner : sooner_time None None ∷ sooner_time (Some 5) None ∷ sooner_time None (Some 6) ∷ []
    ≡ None ∷ Some 5 ∷ Some 6 ∷ []
no_sooner = refl

sooner_of_two : sooner_time (Some 5) (Some 6) ∷ sooner_time (Some 6) (Some 5) ∷ [] ≡ Some 5 ∷ Some 5 ∷ []
sooner_of_two = refl

time_where_so : time_if true 5 ∷ time_if false 5 ∷ [] ≡ Some 5 ∷ None ∷ []
time_where_so = refl
