-- Small histories on the plain disk array, and queues of a few commands, computed. Each decides a condition of
-- `array_model` that no history of a whole run does: what is not allowed, two guests at a time, what an abort leaves,
-- and which of several commands may run.
use Rattle.std.proofs.Common.{ℕ, ◌≡◌, Bool, true, false, List, [], ◌∷◌, reverse, is_some, refl}
use Rattle.std.specs.Prelude.{Option, Some, None}
use lib.Count.{ones}
use Rattle.due_model.specs.bus_base.specs.declared.ProcId.{ProcId}
use Rattle.due_model.specs.bus_base.specs.declared.AbortKind.TheVariants as aborts
use Rattle.due_model.specs.bus_base.specs.declared.Event.{Event}
use Rattle.due_model.specs.bus_base.specs.declared.Event.TheVariants as events
use Rattle.due_model.specs.bus_base.specs.declared.events.Pick.TheVariants as picks
use Rattle.due_model.specs.bus_base.specs.declared.events.Class.{Class}
use Rattle.due_model.specs.bus_base.specs.declared.events.Class.TheVariants as classes
use Rattle.due_model.specs.scenario.specs.declared.value.CmdDef.{CmdDef}
use Rattle.due_model.specs.scenario.specs.declared.value.Policy.TheVariants as policies
use Rattle.due_model.specs.scenario.specs.declared.value.Tag.{Tag}
use Rattle.due_model.specs.scenario.specs.declared.value.Tag.TheVariants as tags
use Rattle.due_model.specs.scenario.specs.declared.value.Payload.TheVariants as payloads
use Rattle.due_model.specs.scenario.specs.Value.{ScenarioValue}
use Rattle.due_model.specs.scenario.specs.Needs.{need_of, sent_of}
use Rattle.due_model.specs.array_model.specs.declared.entries.Entry.{Entry}
use Rattle.due_model.specs.array_model.specs.Contents.{Contents, printed_blocks}
use Rattle.due_model.specs.array_model.specs.Execution.{Reply, good, queue_full}
use Rattle.due_model.specs.array_model.specs.Order.{same_number, may_run, chosen_place}
use Rattle.due_model.specs.array_model.specs.ArrayHistory.{array_after, disks_of, reply_of, shows_run}

abbrev pub command : ℕ → ProcId
command n = record { command = n; sense = false }

abbrev sense : ℕ → ProcId
sense n = record { command = n; sense = true }

abbrev pub line : ℕ → ℕ → ℕ → Tag → List ℕ → CmdDef
line host target unit tag cdb =
    record { host = host; target = target; unit = unit; at = 0; tag = tag; cdb = cdb; payload = payloads.Nothing }

abbrev pub test_unit_ready : List ℕ
test_unit_ready = 0x00 ∷ 0x00 ∷ 0x00 ∷ 0x00 ∷ 0x00 ∷ 0x00 ∷ []

abbrev request_sense : List ℕ
request_sense = 0x03 ∷ 0x00 ∷ 0x00 ∷ 0x00 ∷ 0x12 ∷ 0x00 ∷ []

-- Two initiators, two targets, three units; commands 1 to 16.
abbrev pub disks : ScenarioValue
disks = record {
  version = 1;
  hosts = record { dev = 7; latency = 0; most = 8; retries = 2; period = 0; offset = 0; lag = 0; offers = true }
      ∷ record { dev = 6; latency = 0; most = 8; retries = 2; period = 0; offset = 0; lag = 0; offers = true } ∷ [];
  targets = record {
    dev = 0;
    latency = 0;
    retries = 2;
    disc = policies.Command;
    pick = picks.First;
    seek = 0;
    period = 0;
    offset = 0;
    begins = false;
  } ∷ record {
    dev = 1;
    latency = 0;
    retries = 2;
    disc = policies.Command;
    pick = picks.First;
    seek = 0;
    period = 0;
    offset = 0;
    begins = false;
  } ∷ [];
  units = record { target = 0; unit = 0; blocks = 4; size = 16; depth = 4 }
      ∷ record { target = 0; unit = 1; blocks = 4; size = 16; depth = 4 }
      ∷ record { target = 1; unit = 0; blocks = 4; size = 16; depth = 1 } ∷ [];
  fills = record {
    target = 1;
    unit = 0;
    lba = 2;
    bytes = (0 ∷ 1 ∷ 2 ∷ 3 ∷ 4 ∷ 5 ∷ 6 ∷ 7 ∷ 8 ∷ 9 ∷ 10 ∷ 11 ∷ 12 ∷ 13 ∷ 14 ∷ 15 ∷ []);
  } ∷ record {
    target = 1;
    unit = 0;
    lba = 3;
    bytes = (0 ∷ 0 ∷ 0 ∷ 0 ∷ 0 ∷ 0 ∷ 0 ∷ 0 ∷ 0 ∷ 0 ∷ 0 ∷ 0 ∷ 0 ∷ 0 ∷ 0 ∷ 0 ∷ []);
  } ∷ [];
  tapes = [];
  loads = [];
  commands =
      line 7 0 0 (tags.Simple 1) test_unit_ready
      ∷ line 6 0 0 (tags.Simple 1) test_unit_ready
      ∷ line 7 0 1 (tags.Simple 1) test_unit_ready
      ∷ line 7 1 0 (tags.Ordered 4) test_unit_ready
      ∷ line 7 0 0 (tags.Head 5) test_unit_ready
      ∷ line 7 0 0 tags.Untagged test_unit_ready
      ∷ line 7 0 0 tags.Untagged request_sense
      ∷ line 6 0 0 tags.Untagged request_sense
      ∷ line 7 0 2 tags.Untagged test_unit_ready
      ∷ line 7 1 0 tags.Untagged test_unit_ready
      ∷ line 7 1 0 tags.Untagged request_sense
      ∷ line 7 1 0 tags.Untagged (0x25 ∷ 0x00 ∷ 0x00 ∷ 0x00 ∷ 0x00 ∷ 0x00 ∷ 0x00 ∷ 0x00 ∷ 0x00 ∷ 0x00 ∷ [])
      ∷ line 7 1 0 tags.Untagged (0x2a ∷ 0x00 ∷ 0x00 ∷ 0x00 ∷ 0x00 ∷ 0x00 ∷ 0x00 ∷ 0x00 ∷ 0x00 ∷ 0x00 ∷ [])
      ∷ line 7 0 0 (tags.Simple 14) test_unit_ready
      ∷ line 7 0 0 (tags.Ordered 15) test_unit_ready
      ∷ line 6 0 1 (tags.Simple 16) test_unit_ready
      ∷ [];
  aborts = [];
  resets = [];
  faults = [];
}

-- The events are given the oldest first.
abbrev is_permitted : List Event → Bool
is_permitted history = is_some (array_after disks (reverse history))

abbrev reply_after : List Event → ProcId → Option Reply
reply_after history id = reply_of (array_after disks (reverse history)) id

abbrev printed : List Contents → List (List (ℕ × List ℕ))
printed [] = []
printed (c ∷ all) = printed_blocks c ∷ printed all

-- The data of REQUEST SENSE: nothing to tell, and 0B/47.
abbrev nothing_told : List ℕ
nothing_told = 0x70 ∷ 0x00 ∷ 0x00 ∷ 0x00 ∷ 0x00 ∷ 0x00 ∷ 0x00 ∷ 0x0a ∷ 0x00 ∷ 0x00 ∷ 0x00 ∷ 0x00 ∷ 0x00 ∷ 0x00 ∷ 0x00
    ∷ 0x00 ∷ 0x00 ∷ 0x00 ∷ []

abbrev parity_told : List ℕ
parity_told = 0x70 ∷ 0x00 ∷ 0x0b ∷ 0x00 ∷ 0x00 ∷ 0x00 ∷ 0x00 ∷ 0x0a ∷ 0x00 ∷ 0x00 ∷ 0x00 ∷ 0x00 ∷ 0x47 ∷ 0x00 ∷ 0x00
    ∷ 0x00 ∷ 0x00 ∷ 0x00 ∷ []

-- ---- what is not allowed

runs_once : is_permitted (events.Accept (command 1) ∷ events.Run (command 1) ∷ events.Run (command 1) ∷ []) ≡ false
unfolding need_of sent_of ones
runs_once = refl

a_hold_stops_the_current_process : is_permitted (events.Accept (command 1)
    ∷ events.Fail (command 2) 0x47 ∷ events.End (command 2) 0x02 ∷ events.Run (command 1) ∷ [])
    ≡ false
unfolding need_of sent_of ones
a_hold_stops_the_current_process = refl

a_guest_runs_in_a_hold :
    is_permitted (events.Accept (command 1) ∷ events.Fail (command 2) 0x47 ∷ events.End (command 2) 0x02
    ∷ events.Accept (sense 2) ∷ events.Run (sense 2) ∷ events.End (sense 2) 0x00 ∷ events.Run (command 1) ∷ [])
    ≡ true
unfolding need_of sent_of ones
a_guest_runs_in_a_hold = refl

ends_with_its_own_status :
    is_permitted (events.Accept (command 1) ∷ events.Run (command 1) ∷ events.End (command 1) 0x02 ∷ []) ≡ false
unfolding need_of sent_of ones
ends_with_its_own_status = refl

no_refusal_below_the_depth : is_permitted (events.Refuse (command 1) ∷ []) ≡ false
unfolding need_of sent_of ones
no_refusal_below_the_depth = refl

refusal_at_the_depth : reply_after (events.Accept (command 10) ∷ events.Refuse (command 4) ∷ []) (command 4)
    ≡ Some (queue_full)
unfolding need_of sent_of ones
refusal_at_the_depth = refl

request_sense_is_not_refused : is_permitted (events.Accept (command 10) ∷ events.Refuse (command 11) ∷ []) ≡ false
unfolding need_of sent_of ones
request_sense_is_not_refused = refl

request_sense_enters_at_the_depth : is_permitted (events.Accept (command 10) ∷ events.Accept (command 11) ∷ []) ≡ true
unfolding need_of sent_of ones
request_sense_enters_at_the_depth = refl

read_capacity_waits_for_room : is_permitted (events.Accept (command 10) ∷ events.Accept (command 12) ∷ []) ≡ false
unfolding need_of sent_of ones
read_capacity_waits_for_room = refl

write_waits_for_room : is_permitted (events.Accept (command 10) ∷ events.Accept (command 13) ∷ []) ≡ false
unfolding need_of sent_of ones
write_waits_for_room = refl

no_failure_after_a_reply :
    is_permitted (events.Accept (command 1) ∷ events.Run (command 1) ∷ events.Fail (command 1) 0x47 ∷ []) ≡ false
unfolding need_of sent_of ones
no_failure_after_a_reply = refl

no_failure_while_it_waits :
    is_permitted (events.Accept (command 1) ∷ events.Accept (command 2) ∷ events.Fail (command 2) 0x47 ∷ []) ≡ false
unfolding need_of sent_of ones
no_failure_while_it_waits = refl

no_failure_after_the_end : is_permitted (events.Accept (command 1) ∷ events.Run (command 1)
    ∷ events.End (command 1) 0x00 ∷ events.Fail (command 1) 0x47 ∷ [])
    ≡ false
unfolding need_of sent_of ones
no_failure_after_the_end = refl

failure_of_the_current_process :
    is_permitted (events.Accept (command 1) ∷ events.Fail (command 1) 0x47 ∷ events.End (command 1) 0x02 ∷ []) ≡ true
unfolding need_of sent_of ones
failure_of_the_current_process = refl

lost_once : is_permitted (events.Accept (command 1) ∷ events.Lost (command 1) ∷ events.Lost (command 1) ∷ []) ≡ false
unfolding need_of sent_of ones
lost_once = refl

no_loss_after_the_end : is_permitted
    (events.Accept (command 1) ∷ events.Run (command 1) ∷ events.End (command 1) 0x00 ∷ events.Lost (command 1) ∷ [])
    ≡ false
unfolding need_of sent_of ones
no_loss_after_the_end = refl

a_hold_leaves_another_unit : is_permitted (events.Fail (command 2) 0x47
    ∷ events.End (command 2) 0x02 ∷ events.Accept (command 3) ∷ events.Run (command 3) ∷ [])
    ≡ true
unfolding need_of sent_of ones
a_hold_leaves_another_unit = refl

a_hold_leaves_another_target : is_permitted (events.Fail (command 2) 0x47
    ∷ events.End (command 2) 0x02 ∷ events.Accept (command 10) ∷ events.Run (command 10) ∷ [])
    ≡ true
unfolding need_of sent_of ones
a_hold_leaves_another_target = refl

a_hold_ends_alone : is_permitted (events.Fail (command 2) 0x47 ∷ events.End (command 2) 0x02
    ∷ events.Fail (command 3) 0x47 ∷ events.End (command 3) 0x02 ∷ events.Accept (sense 2) ∷ events.Run (sense 2)
    ∷ events.End (sense 2) 0x00 ∷ events.Accept (command 16) ∷ events.Run (command 16) ∷ [])
    ≡ false
unfolding need_of sent_of ones
a_hold_ends_alone = refl

-- ---- guests

two_guests_first : reply_after (events.Fail (command 2) 0x47 ∷ events.End (command 2) 0x02
    ∷ events.Accept (command 7) ∷ events.Accept (command 8) ∷ events.Run (command 8)
    ∷ events.Run (command 7) ∷ events.End (command 7) 0x00 ∷ events.End (command 8) 0x00 ∷ []) (command 7)
    ≡ Some (good nothing_told)
unfolding need_of sent_of ones
two_guests_first = refl

two_guests_second : reply_after (events.Fail (command 2) 0x47 ∷ events.End (command 2) 0x02
    ∷ events.Accept (command 7) ∷ events.Accept (command 8) ∷ events.Run (command 8)
    ∷ events.Run (command 7) ∷ events.End (command 7) 0x00 ∷ events.End (command 8) 0x00 ∷ []) (command 8)
    ≡ Some (good parity_told)
unfolding need_of sent_of ones
two_guests_second = refl

a_guest_ends_once : is_permitted (events.Accept (command 7) ∷ events.Run (command 7)
    ∷ events.End (command 7) 0x00 ∷ events.End (command 7) 0x00 ∷ [])
    ≡ false
unfolding need_of sent_of ones
a_guest_ends_once = refl

a_good_end_keeps_the_sense : reply_after
    (events.Accept (command 1) ∷ events.Run (command 1) ∷ events.Fail (command 14) 0x47 ∷ events.End (command 14) 0x02
    ∷ events.End (command 1) 0x00 ∷ events.Accept (command 7) ∷ events.Run (command 7) ∷ []) (command 7)
    ≡ Some (good parity_told)
unfolding need_of sent_of ones
a_good_end_keeps_the_sense = refl

units_of_two_targets :
    reply_after (events.Accept (command 10) ∷ events.Accept (command 1) ∷ events.Run (command 1) ∷ []) (command 1)
    ≡ Some (good [])
unfolding need_of sent_of ones
units_of_two_targets = refl

-- ---- aborts and resets

all_drops_its_own : is_permitted (events.Accept (command 1) ∷ events.Accept (command 2) ∷ events.Accept (command 3)
    ∷ events.Accept (command 10) ∷ events.Aborted 7 0 0 aborts.All ∷ events.Run (command 1) ∷ [])
    ≡ false
unfolding need_of sent_of ones
all_drops_its_own = refl

all_leaves_those_of_another :
    is_permitted (events.Accept (command 1) ∷ events.Accept (command 2) ∷ events.Accept (command 3)
    ∷ events.Accept (command 10) ∷ events.Aborted 7 0 0 aborts.All ∷ events.Run (command 2) ∷ [])
    ≡ true
unfolding need_of sent_of ones
all_leaves_those_of_another = refl

all_leaves_another_unit :
    is_permitted (events.Accept (command 1) ∷ events.Accept (command 2) ∷ events.Accept (command 3)
    ∷ events.Accept (command 10) ∷ events.Aborted 7 0 0 aborts.All ∷ events.Run (command 3) ∷ [])
    ≡ true
unfolding need_of sent_of ones
all_leaves_another_unit = refl

all_leaves_another_target :
    is_permitted (events.Accept (command 1) ∷ events.Accept (command 2) ∷ events.Accept (command 3)
    ∷ events.Accept (command 10) ∷ events.Aborted 7 0 0 aborts.All ∷ events.Run (command 10) ∷ [])
    ≡ true
unfolding need_of sent_of ones
all_leaves_another_target = refl

tag_leaves_that_of_another :
    is_permitted (events.Accept (command 2) ∷ events.Aborted 7 0 0 (aborts.Tag 1) ∷ events.Run (command 2) ∷ []) ≡ true
unfolding need_of sent_of ones
tag_leaves_that_of_another = refl

tag_leaves_another_unit :
    is_permitted (events.Accept (command 3) ∷ events.Aborted 7 0 0 (aborts.Tag 1) ∷ events.Run (command 3) ∷ []) ≡ true
unfolding need_of sent_of ones
tag_leaves_another_unit = refl

tag_leaves_an_untagged_process :
    is_permitted (events.Accept (command 6) ∷ events.Aborted 7 0 0 (aborts.Tag 0) ∷ events.Run (command 6) ∷ []) ≡ true
unfolding need_of sent_of ones
tag_leaves_an_untagged_process = refl

tag_drops_an_ordered_process :
    is_permitted (events.Accept (command 15) ∷ events.Aborted 7 0 0 (aborts.Tag 15) ∷ events.Run (command 15) ∷ [])
    ≡ false
unfolding need_of sent_of ones
tag_drops_an_ordered_process = refl

another_tag_leaves_an_ordered_process :
    is_permitted (events.Accept (command 15) ∷ events.Aborted 7 0 0 (aborts.Tag 5) ∷ events.Run (command 15) ∷ [])
    ≡ true
unfolding need_of sent_of ones
another_tag_leaves_an_ordered_process = refl

tag_drops_a_head_of_queue :
    is_permitted (events.Accept (command 5) ∷ events.Aborted 7 0 0 (aborts.Tag 5) ∷ events.Run (command 5) ∷ []) ≡ false
unfolding need_of sent_of ones
tag_drops_a_head_of_queue = refl

another_tag_leaves_a_head_of_queue :
    is_permitted (events.Accept (command 5) ∷ events.Aborted 7 0 0 (aborts.Tag 15) ∷ events.Run (command 5) ∷ []) ≡ true
unfolding need_of sent_of ones
another_tag_leaves_a_head_of_queue = refl

device_drops_a_process :
    is_permitted (events.Accept (command 1) ∷ events.Accept (command 9) ∷ events.Accept (command 10)
    ∷ events.Accept (command 11) ∷ events.Aborted 6 0 0 aborts.Device ∷ events.Run (command 1) ∷ [])
    ≡ false
unfolding need_of sent_of ones
device_drops_a_process = refl

device_drops_a_guest : is_permitted (events.Accept (command 1) ∷ events.Accept (command 9) ∷ events.Accept (command 10)
    ∷ events.Accept (command 11) ∷ events.Aborted 6 0 0 aborts.Device ∷ events.Run (command 9) ∷ [])
    ≡ false
unfolding need_of sent_of ones
device_drops_a_guest = refl

device_leaves_a_process_of_another_target :
    is_permitted (events.Accept (command 1) ∷ events.Accept (command 9) ∷ events.Accept (command 10)
    ∷ events.Accept (command 11) ∷ events.Aborted 6 0 0 aborts.Device ∷ events.Run (command 10) ∷ [])
    ≡ true
unfolding need_of sent_of ones
device_leaves_a_process_of_another_target = refl

device_leaves_a_guest_of_another_target :
    is_permitted (events.Accept (command 1) ∷ events.Accept (command 9) ∷ events.Accept (command 10)
    ∷ events.Accept (command 11) ∷ events.Aborted 6 0 0 aborts.Device ∷ events.Run (command 11) ∷ [])
    ≡ true
unfolding need_of sent_of ones
device_leaves_a_guest_of_another_target = refl

reset_drops_a_process : is_permitted (events.Accept (command 1) ∷ events.Reset 7 ∷ events.Run (command 1) ∷ []) ≡ false
unfolding need_of sent_of ones
reset_drops_a_process = refl

reset_drops_a_guest : is_permitted (events.Accept (command 9) ∷ events.Reset 7 ∷ events.Run (command 9) ∷ []) ≡ false
unfolding need_of sent_of ones
reset_drops_a_guest = refl

-- ---- the blocks at the start, and those that are printed

fills_of_one_target : printed (disks_of (array_after disks []))
    ≡ [] ∷ [] ∷ ((2, 0 ∷ 1 ∷ 2 ∷ 3 ∷ 4 ∷ 5 ∷ 6 ∷ 7 ∷ 8 ∷ 9 ∷ 10 ∷ 11 ∷ 12 ∷ 13 ∷ 14 ∷ 15 ∷ []) ∷ []) ∷ []
unfolding need_of sent_of ones
fills_of_one_target = refl

-- ---- which may run, and which is chosen (6.6.17, 7.8.2)

abbrev waiting_entry : ℕ → Class → ℕ → ℕ → Bool → Entry
waiting_entry from class first count writes =
    record { id = command 1; from = from; tag = Some 1; class = class; first = first; count = count; writes = writes }

abbrev plain : Class → Entry
plain class = waiting_entry 7 class 0 0 false

two_reads_of_one_block :
    chosen_place picks.Last (waiting_entry 7 classes.Simple 0 1 false ∷ waiting_entry 7 classes.Simple 0 1 false ∷ [])
    ≡ Some 1
two_reads_of_one_block = refl

no_blocks_before_a_write :
    chosen_place picks.Last (waiting_entry 7 classes.Simple 1 0 true ∷ waiting_entry 7 classes.Simple 0 4 false ∷ [])
    ≡ Some 1
no_blocks_before_a_write = refl

no_blocks_after_a_write :
    chosen_place picks.Last (waiting_entry 7 classes.Simple 0 4 true ∷ waiting_entry 7 classes.Simple 1 0 false ∷ [])
    ≡ Some 1
no_blocks_after_a_write = refl

first_before_an_ordered : may_run (plain classes.Simple ∷ plain classes.Ordered ∷ plain classes.Simple ∷ []) 0 ≡ true
first_before_an_ordered = refl

ordered_behind_another : may_run (plain classes.Simple ∷ plain classes.Ordered ∷ plain classes.Simple ∷ []) 1 ≡ false
ordered_behind_another = refl

behind_an_ordered : may_run (plain classes.Simple ∷ plain classes.Ordered ∷ plain classes.Simple ∷ []) 2 ≡ false
behind_an_ordered = refl

past_the_last : may_run (plain classes.Simple ∷ plain classes.Ordered ∷ plain classes.Simple ∷ []) 3 ≡ false
past_the_last = refl

ordered_is_first : may_run (plain classes.Ordered ∷ []) 0 ≡ true
ordered_is_first = refl

before_a_head_of_queue : may_run (plain classes.Simple ∷ plain classes.Head ∷ plain classes.Head ∷ []) 0 ≡ false
before_a_head_of_queue = refl

earlier_head_of_queue : may_run (plain classes.Simple ∷ plain classes.Head ∷ plain classes.Head ∷ []) 1 ≡ false
earlier_head_of_queue = refl

last_head_of_queue : may_run (plain classes.Simple ∷ plain classes.Head ∷ plain classes.Head ∷ []) 2 ≡ true
last_head_of_queue = refl

held_back_by_its_initiator :
    may_run (waiting_entry 7 classes.Simple 0 1 true ∷ waiting_entry 7 classes.Simple 0 1 false ∷ []) 1 ≡ false
held_back_by_its_initiator = refl

not_held_back_by_another :
    may_run (waiting_entry 7 classes.Simple 0 1 true ∷ waiting_entry 6 classes.Simple 0 1 false ∷ []) 1 ≡ true
not_held_back_by_another = refl

no_number_and_one : same_number None (Some 1) ≡ false
no_number_and_one = refl

one_and_no_number : same_number (Some 1) None ≡ false
one_and_no_number = refl

-- ---- whether a process runs with these events

shows_none : shows_run (events.Accept (command 1) ∷ events.Refuse (command 1) ∷ events.Fail (command 1) 0x47
    ∷ events.End (command 1) 0x00 ∷ events.Lost (command 1) ∷ events.Aborted 7 0 0 aborts.All ∷ events.Reset 7 ∷ [])
    ≡ false
shows_none = refl

shows_one : shows_run (events.Accept (command 1) ∷ events.Run (command 1) ∷ []) ≡ true
shows_one = refl
