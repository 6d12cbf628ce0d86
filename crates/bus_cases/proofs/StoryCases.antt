-- What a trace tells, computed on small stories: each case decides a condition of `story_model` that no kept run does,
-- by what docs/story.md says of it.
use Rattle.std.proofs.Common.{ℕ, ◌≡◌, Bool, true, false, List, [], ◌∷◌, reverse, refl}
use Rattle.std.specs.Prelude.{Option, Some, None, replicate, slice_set, take}
use lib.Count.{ones}
use Rattle.due_model.specs.bus_base.specs.declared.ProcId.{ProcId}
use Rattle.due_model.specs.bus_base.specs.declared.AbortKind.TheVariants as aborts
use Rattle.due_model.specs.bus_base.specs.declared.events.Pick.TheVariants as picks
use Rattle.due_model.specs.bus_phases.specs.declared.spoken.Spoken.{Spoken}
use Rattle.due_model.specs.bus_trace.specs.LineSet.{none, set_of, line_of}
use Rattle.due_model.specs.bus_trace.specs.View.{union_below}
use Rattle.due_model.specs.bus_trace.specs.declared.Row.{Row}
use Rattle.due_model.specs.bus_trace.specs.declared.Kind.TheVariants.{Drives}
use Rattle.due_model.specs.bus_trace.specs.declared.connection.Connection.{Connection}
use Rattle.due_model.specs.bus_trace.specs.declared.selection.Calling.{Calling}
use Rattle.due_model.specs.msg_grammar.specs.Messages.{form_out, form_in}
use Rattle.due_model.specs.msg_grammar.specs.declared.message.MsgIn.TheVariants as to_initiator
use Rattle.due_model.specs.msg_grammar.specs.declared.message.MsgOut.TheVariants as to_target
use Rattle.due_model.specs.scenario.specs.declared.value.CmdDef.{CmdDef}
use Rattle.due_model.specs.scenario.specs.declared.value.TargetDef.{TargetDef}
use Rattle.due_model.specs.scenario.specs.declared.value.Policy.{Policy}
use Rattle.due_model.specs.scenario.specs.declared.value.Policy.TheVariants as policies
use Rattle.due_model.specs.scenario.specs.declared.value.Tag.{Tag}
use Rattle.due_model.specs.scenario.specs.declared.value.Tag.TheVariants as tags
use Rattle.due_model.specs.scenario.specs.Value.{ScenarioValue}
use Rattle.due_model.specs.scenario.specs.Needs.{need_of}
use Rattle.due_model.specs.story_model.specs.PairAgreements.{agreements_at_end}
use Rattle.due_model.specs.story_model.specs.BusState.{RowReading, quiet_bus, row_reading, bus_state_after}
use Rattle.due_model.specs.story_model.specs.Items.{Item, Sent, command_item, sense_item, item_at, sense_from}
use Rattle.due_model.specs.story_model.specs.CarriedBytes.{CarriedBytes, nothing_carried, carried_of}
use Rattle.due_model.specs.story_model.specs.CarriedBytes.{carried_after_byte}
use Rattle.due_model.specs.story_model.specs.CarriedBytes.{is_whole_block}
use Rattle.due_model.specs.story_model.specs.Links.{Link, plain, abortive, named_item}
use Rattle.due_model.specs.story_model.specs.Story.{Story, by_loss, by_reset, empty_story, is_aborted, with_check}
use Rattle.due_model.specs.story_model.specs.Story.{with_ending}
use Rattle.due_model.specs.story_model.specs.HistoryEvents.{is_completion}
use Rattle.due_model.specs.story_model.specs.TraceHistory.{is_arbitration_entry, story_after_calling_by}
use Rattle.due_model.specs.story_model.specs.TraceHistory.{story_after_connection, story_after_in, story_after_out}
use Rattle.due_model.specs.story_model.specs.CurrentAgreement.{current_agreement}
use Rattle.due_model.specs.story_model.specs.Samples.{Sample, Strike, with_sample, with_strike, kept_samples}
use Rattle.due_model.specs.story_model.specs.Samples.{samples_on}
use Rattle.due_model.specs.story_model.specs.Samples.{samples_with_ids_of}
use Rattle.due_model.specs.story_model.specs.Budget.{budget}
use Rattle.bus_cases.proofs.ArrayCases.{command, line, test_unit_ready, disks}
use Rattle.bus_cases.proofs.GuardCases.{abort_leaves_the_offer_guard_rows}

abbrev drive : ℕ → ℕ → ℕ → Row
drive time dev lines = record { time = time; dev = dev; kind = Drives (set_of lines) }

abbrev sense : ℕ → ProcId
sense n = record { command = n; sense = true }

-- ---- what an initiator sends next

abbrev sent_only : List Item → Sent
sent_only items = record { sent = items; over = []; checks = []; tries = [] }

-- A command of initiator 7 to target 0.
abbrev errand : ℕ → ℕ → Tag → CmdDef
errand unit at tag = record (line 7 0 unit tag test_unit_ready) { at = at }

-- Initiator 7, which may have so many commands open, and these commands.
abbrev errands : ℕ → List CmdDef → ScenarioValue
errands most commands = record disks {
  hosts = record {
    dev = 7;
    latency = 0;
    most = most;
    retries = 0;
    period = 0;
    offset = 0;
    lag = 0;
    offers = true;
  } ∷ [];
  commands = commands;
}

abbrev open_ones : List CmdDef
open_ones = errand 0 0 (tags.Simple 1) ∷ errand 1 0 tags.Untagged ∷ []

before_its_time : item_at (errands 1 (errand 0 100 tags.Untagged ∷ [])) (sent_only []) 7 99 ≡ None
before_its_time = refl

at_its_time : item_at (errands 1 (errand 0 100 tags.Untagged ∷ [])) (sent_only []) 7 100 ≡ Some (command_item 1)
at_its_time = refl

as_many_open_as_may_be : item_at (errands 1 open_ones) (sent_only (command_item 1 ∷ [])) 7 0 ≡ None
as_many_open_as_may_be = refl

fewer_open_than_may_be : item_at (errands 2 open_ones) (sent_only (command_item 1 ∷ [])) 7 0 ≡ Some (command_item 2)
fewer_open_than_may_be = refl

same_tag_at_one_unit :
    item_at (errands 2 (errand 0 0 (tags.Simple 1) ∷ errand 0 0 (tags.Head 1) ∷ [])) (sent_only (command_item 1 ∷ [])) 7
    0
    ≡ None
same_tag_at_one_unit = refl

untagged_at_one_unit :
    item_at (errands 2 (errand 0 0 (tags.Simple 1) ∷ errand 0 0 tags.Untagged ∷ [])) (sent_only (command_item 1 ∷ [])) 7
    0
    ≡ None
untagged_at_one_unit = refl

beside_an_untagged_one :
    item_at (errands 2 (errand 0 0 tags.Untagged ∷ errand 0 0 (tags.Simple 1) ∷ [])) (sent_only (command_item 1 ∷ [])) 7
    0
    ≡ None
beside_an_untagged_one = refl

no_sense_of_no_command : sense_from disks (sent_only []) 7 (0 ∷ 17 ∷ []) ≡ None
no_sense_of_no_command = refl

-- ---- which process a reselecting target names

abbrev link_of_unit : ℕ → ℕ → Link
link_of_unit target unit = record {
  initiator = 7;
  target = target;
  item = None;
  unit = unit;
  last = plain;
  before = plain;
  undo = None;
}

-- Command 6 is to target 0, command 10 to target 1, both to unit 0 without tag. Commands 1 to 3 have tag 1: 1 of
-- initiator 7 and 2 of initiator 6 at
-- unit 0 of target 0, 3 at unit 1.
named_by_its_target :
    named_item (sent_only (command_item 6 ∷ command_item 10 ∷ [])) disks.commands (link_of_unit 1 0) None
    ≡ Some (command_item 10)
named_by_its_target = refl

named_by_its_initiator :
    named_item (sent_only (command_item 1 ∷ command_item 2 ∷ [])) disks.commands
    (record (link_of_unit 0 0) { initiator = 6 }) (Some 1)
    ≡ Some (command_item 2)
named_by_its_initiator = refl

named_by_its_unit :
    named_item (sent_only (command_item 1 ∷ command_item 3 ∷ [])) disks.commands (link_of_unit 0 1) (Some 1)
    ≡ Some (command_item 3)
named_by_its_unit = refl

-- An automatic REQUEST SENSE is untagged, also that of a tagged command.
names_a_sense : named_item (sent_only (sense_item 1 ∷ [])) disks.commands (link_of_unit 0 0) None ≡ Some (sense_item 1)
names_a_sense = refl

names_no_sense_by_a_tag : named_item (sent_only (sense_item 1 ∷ [])) disks.commands (link_of_unit 0 0) (Some 1) ≡ None
names_no_sense_by_a_tag = refl

names_no_sense_at_another_unit :
    named_item (sent_only (sense_item 1 ∷ [])) disks.commands (link_of_unit 0 1) None
    ≡ None
names_no_sense_at_another_unit = refl

names_no_sense_that_is_over :
    named_item (record (sent_only (sense_item 1 ∷ [])) { over = sense_item 1 ∷ [] }) disks.commands (link_of_unit 0 0)
    None
    ≡ None
names_no_sense_that_is_over = refl

-- ---- the first event that ends a command decides

first_ending_stays : with_ending ((1, by_loss) ∷ []) (command 1) by_reset ≡ (1, by_loss) ∷ []
first_ending_stays = refl

ending_of_another : with_ending ((2, by_loss) ∷ []) (command 1) by_reset ≡ (1, by_reset) ∷ (2, by_loss) ∷ []
ending_of_another = refl

-- What becomes of its automatic REQUEST SENSE is no ending of a command, nor its CHECK CONDITION one of a command.
sense_ends_no_command : with_ending [] (sense 1) by_loss ≡ []
sense_ends_no_command = refl

check_of_a_sense : (with_check empty_story (sense 1) 2).sent.checks ≡ []
check_of_a_sense = refl

check_of_a_command : (with_check empty_story (command 1) 2).sent.checks ≡ 1 ∷ []
check_of_a_command = refl

-- ---- ABORT concerns its own initiator and unit, ABORT TAG the process of its own nexus (6.6.1, 6.6.2)

all_of_its_initiator : is_aborted 7 0 0 aborts.All (line 7 0 0 (tags.Simple 1) test_unit_ready) ≡ true
all_of_its_initiator = refl

all_of_another_initiator : is_aborted 7 0 0 aborts.All (line 6 0 0 (tags.Simple 1) test_unit_ready) ≡ false
all_of_another_initiator = refl

tag_of_another_initiator : is_aborted 7 0 0 (aborts.Tag 1) (line 6 0 0 (tags.Simple 1) test_unit_ready) ≡ false
tag_of_another_initiator = refl

tag_at_another_unit : is_aborted 7 0 0 (aborts.Tag 1) (line 7 0 1 (tags.Simple 1) test_unit_ready) ≡ false
tag_at_another_unit = refl

tag_at_another_target : is_aborted 7 0 0 (aborts.Tag 1) (line 7 1 0 (tags.Simple 1) test_unit_ready) ≡ false
tag_at_another_target = refl

tag_of_the_nexus : is_aborted 7 0 0 (aborts.Tag 1) (line 7 0 0 (tags.Simple 1) test_unit_ready) ≡ true
tag_of_the_nexus = refl

-- ---- an entry of arbitration is neither in a connection nor an answer (6.1.2)

abbrev raises_bsy : ℕ → RowReading
raises_bsy before = record {
  change = record { before = set_of before; after = set_of 0x00280; own = none; next = set_of 0x00280 };
  next = None;
  crosses = false;
  out = None;
  into = None;
}

abbrev linked : Connection
linked = record { initiator = 6; target = 0; began = 0; reselected = false }

entry : is_arbitration_entry empty_story (raises_bsy 0x00000) ≡ true
entry = refl

answer : is_arbitration_entry empty_story (raises_bsy 0x00400) ≡ false
answer = refl

in_a_connection :
    is_arbitration_entry (record empty_story { bus_state = record quiet_bus { connection = Some linked } })
    (raises_bsy 0x00000)
    ≡ false
in_a_connection = refl

-- ---- a calling that ends without an answer is counted, of an initiator

abbrev aimed : Story
aimed = record empty_story { aims = slice_set (replicate 8 None) 7 (Some (command_item 1)) }

abbrev calling : Option ℕ → Bool → Calling
calling answered reselects = record {
  called = 0;
  reselects = reselects;
  at = 4800;
  released = Some 4890;
  withdrawn = None;
  resumed = None;
  answered = answered;
  struck = false;
}

calls_in_vain : (story_after_calling_by disks aimed 7 (Some (calling None false))).sent.tries ≡ command_item 1 ∷ []
calls_in_vain = refl

calls_and_is_answered : (story_after_calling_by disks aimed 7 (Some (calling (Some 5290) false))).sent.tries ≡ []
calls_and_is_answered = refl

reselects_in_vain : (story_after_calling_by disks aimed 7 (Some (calling None true))).sent.tries ≡ []
reselects_in_vain = refl

-- ---- an item is sent as the connection of its own calling begins, not as its initiator is reselected

selected_for_its_aim : (story_after_connection aimed (record linked { initiator = 7 })).sent.sent ≡ command_item 1 ∷ []
selected_for_its_aim = refl

reselected_with_an_aim :
    (story_after_connection aimed (record linked { initiator = 7; reselected = true })).sent.sent
    ≡ []
reselected_with_an_aim = refl

-- ---- a message that MESSAGE PARITY ERROR answers is taken back: here SAVE DATA POINTER after two bytes

abbrev moved_two : ℕ → CarriedBytes
moved_two saved = record (nothing_carried (command 1)) {
  moved = record { bytes = 1 ∷ 2 ∷ []; active = 2; saved = saved };
}

abbrev saved_pointer : Story → ℕ
saved_pointer b = (carried_of b.carried (command 1)).moved.saved

abbrev with_moved : CarriedBytes → Story
with_moved k = record empty_story { carried = k ∷ [] }

abbrev link_of_process : Link
link_of_process = record (link_of_unit 0 0) { item = Some (command_item 1) }

abbrev link_with_undo : Link
link_with_undo = record link_of_process { undo = Some (moved_two 0) }

pointer_is_saved :
    saved_pointer (story_after_in disks (with_moved (moved_two 0)) link_of_process (Some to_initiator.SavePointer)) ≡ 2
pointer_is_saved = refl

saved_pointer_is_taken_back :
    saved_pointer (story_after_out (with_moved (moved_two 2)) link_with_undo (Some to_target.ParityError)) ≡ 0
saved_pointer_is_taken_back = refl

saved_pointer_stays :
    saved_pointer (story_after_out (with_moved (moved_two 2)) link_with_undo (Some to_target.Nop)) ≡ 2
saved_pointer_stays = refl

-- ---- what is carried

byte_of_a_message : (carried_after_byte (nothing_carried (command 1)) (set_of 0x03a00) 7).status.bytes ≡ []
byte_of_a_message = refl

byte_of_the_status : (carried_after_byte (nothing_carried (command 1)) (set_of 0x01a00) 7).status.bytes ≡ 7 ∷ []
byte_of_the_status = refl

whole_block : is_whole_block (record (nothing_carried (command 1)) { block = test_unit_ready }) ≡ true
whole_block = refl

no_block : is_whole_block (nothing_carried (command 1)) ≡ false
no_block = refl

five_bytes_of_six : is_whole_block (record (nothing_carried (command 1)) { block = 0 ∷ 0 ∷ 0 ∷ 0 ∷ 0 ∷ [] }) ≡ false
five_bytes_of_six = refl

struck_block : is_whole_block (record (nothing_carried (command 1)) { block = test_unit_ready; struck = true }) ≡ false
struck_block = refl

-- ---- after an abort a byte of MESSAGE IN is no COMMAND COMPLETE

no_end_after_an_abort :
    is_completion (record link_of_process { last = abortive })
    (record { before = set_of 0x07b00; after = set_of 0x0fb00; own = none; next = set_of 0x08000 })
    ≡ false
no_end_after_an_abort = refl

-- ---- a row in which no byte crosses leaves none to be struck

no_byte_crossed :
    (bus_state_after quiet_bus (drive 1200 7 0x00280) (row_reading quiet_bus (drive 1200 7 0x00280))).crossed
    ≡ None
no_byte_crossed = refl

-- ---- agreements: what the messages of a connection say holds for its two devices at once, and for later ones from its
-- end on

abbrev said : Spoken
said = record {
  agreement = record { period = 50; offset = 8 };
  offer = None;
  answered = None;
  command = record { first = 0; count = 0 };
  device_reset = true;
}

while_the_connection_stands : agreements_at_end [] (Some linked) true said ≡ []
while_the_connection_stands = refl

at_its_end :
    agreements_at_end [] (Some linked) false said
    ≡ record { initiator = 6; target = 0; agreement = record { period = 50; offset = 8 } } ∷ []
at_its_end = refl

-- An answer to an offer, in the second connection of 7 and 0.
abbrev answered_offer : List Row
answered_offer = reverse (take 78 abort_leaves_the_offer_guard_rows)

agreed_in_the_connection : current_agreement answered_offer 7 0 ≡ record { period = 50; offset = 8 }
unfolding ones union_below line_of form_out form_in
agreed_in_the_connection = refl

not_with_another_initiator : current_agreement answered_offer 6 0 ≡ record { period = 0; offset = 0 }
unfolding ones union_below line_of form_out form_in
not_with_another_initiator = refl

not_with_another_target : current_agreement answered_offer 7 1 ≡ record { period = 0; offset = 0 }
unfolding ones union_below line_of form_out form_in
not_with_another_target = refl

-- ---- samples: at one time that of the higher ID comes first; a reset takes away what comes at its device's turn and
-- later

abbrev sample : ℕ → ℕ → Sample
sample time dev = record { time = time; dev = dev }

higher_id_is_first : with_sample (sample 5 7) (sample 5 0 ∷ []) ≡ sample 5 7 ∷ sample 5 0 ∷ []
higher_id_is_first = refl

lower_id_is_later : with_sample (sample 5 0) (sample 5 7 ∷ []) ≡ sample 5 7 ∷ sample 5 0 ∷ []
lower_id_is_later = refl

earlier_is_first : with_sample (sample 4 0) (sample 5 7 ∷ []) ≡ sample 4 0 ∷ sample 5 7 ∷ []
earlier_is_first = refl

later_is_last : with_sample (sample 6 7) (sample 5 0 ∷ []) ≡ sample 5 0 ∷ sample 6 7 ∷ []
later_is_last = refl

abbrev five_samples : List Sample
five_samples = sample 9 0 ∷ sample 10 7 ∷ sample 10 6 ∷ sample 10 0 ∷ sample 11 7 ∷ []

kept_by_a_reset : kept_samples (drive 10 6 0x20000) five_samples ≡ sample 9 0 ∷ sample 10 7 ∷ []
kept_by_a_reset = refl

raises_rst :
    samples_on disks [] (drive 10 6 0x20000)
    (record { before = none; after = set_of 0x20000; own = none; next = set_of 0x20000 }) five_samples
    ≡ sample 9 0 ∷ sample 10 7 ∷ []
unfolding ones union_below line_of
raises_rst = refl

-- A called device that has answered samples the IDs no more.
ids_before_the_answer : samples_with_ids_of disks (Some (calling None false)) 4890 [] ≡ sample 5290 0 ∷ []
ids_before_the_answer = refl

ids_after_the_answer : samples_with_ids_of disks (Some (calling (Some 5290) false)) 6000 [] ≡ []
ids_after_the_answer = refl

abbrev struck : ℕ → Strike
struck time = record { sample = sample time 0; bit = 0 }

struck_in_order : with_strike (struck 6) (struck 5 ∷ struck 7 ∷ []) ≡ struck 5 ∷ struck 6 ∷ struck 7 ∷ []
struck_in_order = refl

-- ---- the budget: a command that needs no bytes has no data run, and a run goes by the policy of its own target

abbrev with_policy : ℕ → Policy → TargetDef
with_policy dev policy = record {
  dev = dev;
  latency = 0;
  retries = 2;
  disc = policy;
  pick = picks.First;
  seek = 0;
  period = 0;
  offset = 0;
  begins = false;
}

abbrev one_command : CmdDef → ScenarioValue
one_command c = record disks {
  targets = with_policy 0 policies.Never ∷ with_policy 1 (policies.Burst 2) ∷ [];
  commands = c ∷ [];
}

-- READ(6) of four blocks of sixteen bytes from block 0 on.
abbrev four_blocks : List ℕ
four_blocks = 0x08 ∷ 0x00 ∷ 0x00 ∷ 0x00 ∷ 0x04 ∷ 0x00 ∷ []

-- 1024 * 128 + 32768 * 8 + 8192 * 2
no_data_run : budget (one_command (line 7 1 0 tags.Untagged test_unit_ready)) ≡ 409600
unfolding need_of ones
no_data_run = refl

-- 1024 * (2 * 64 + 128) + 32768 * (2 + 8) + 8192 * 2
two_data_runs : budget (one_command (line 7 1 0 tags.Untagged four_blocks)) ≡ 606208
unfolding need_of ones
two_data_runs = refl

-- 1024 * (2 * 64 + 128) + 32768 * (1 + 8) + 8192 * 2
one_data_run : budget (one_command (line 7 0 0 tags.Untagged four_blocks)) ≡ 573440
unfolding need_of ones
one_data_run = refl
