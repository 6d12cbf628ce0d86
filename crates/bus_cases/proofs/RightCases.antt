-- What is right of the bytes that were carried, and which commands are valid, computed: each case decides a condition
-- of `story_model` by what is not so.
use Rattle.std.proofs.Common.{ℕ, ◌≡◌, Bool, true, false, List, [], ◌∷◌, refl}
use Rattle.std.specs.Prelude.{Some, None}
use lib.Count.{ones}
use Rattle.due_model.specs.bus_base.specs.declared.Event.{Event}
use Rattle.due_model.specs.bus_base.specs.declared.Event.TheVariants as events
use Rattle.due_model.specs.scenario.specs.declared.value.Tag.TheVariants as tags
use Rattle.due_model.specs.scenario.specs.Needs.{need_of, sent_of}
use Rattle.due_model.specs.array_model.specs.Processes.{process_of}
use Rattle.due_model.specs.array_model.specs.Execution.{good}
use Rattle.due_model.specs.story_model.specs.CarriedBytes.{Area, CarriedBytes, nothing_carried}
use Rattle.due_model.specs.story_model.specs.Story.{Story, empty_story}
use Rattle.due_model.specs.story_model.specs.Right.{same_bytes, carried_by, is_carried, all_carried}
use Rattle.due_model.specs.story_model.specs.Outcomes.{is_valid}
use Rattle.bus_cases.proofs.ArrayCases.{command, line, test_unit_ready, disks}

no_bytes_and_one : same_bytes [] (1 ∷ []) ≡ false
no_bytes_and_one = refl

one_byte_and_none : same_bytes (1 ∷ []) [] ≡ false
one_byte_and_none = refl

another_first_byte : same_bytes (1 ∷ 3 ∷ []) (2 ∷ 3 ∷ []) ≡ false
another_first_byte = refl

another_second_byte : same_bytes (1 ∷ 2 ∷ []) (1 ∷ 3 ∷ []) ≡ false
another_second_byte = refl

-- ---- a TEST UNIT READY that ran, and what it carried

abbrev area : List ℕ → Area
area bytes = record { bytes = bytes; active = 0; saved = 0 }

abbrev carried : List ℕ → List ℕ → List ℕ → CarriedBytes
carried block moved status =
    record (nothing_carried (command 1)) { command = area block; moved = area moved; status = area status }

abbrev story_of : List Event → CarriedBytes → Story
story_of history k = record empty_story { history = history; carried = k ∷ [] }

abbrev ran : List Event
ran = events.Run (command 1) ∷ events.Accept (command 1) ∷ []

abbrev other_block : List ℕ
other_block = 0x00 ∷ 0x00 ∷ 0x00 ∷ 0x00 ∷ 0x00 ∷ []

its_own_bytes : is_carried disks (story_of ran (carried test_unit_ready [] (0 ∷ []))) (events.End (command 1) 0) ≡ true
unfolding need_of sent_of ones
its_own_bytes = refl

another_block : is_carried disks (story_of ran (carried other_block [] (0 ∷ []))) (events.End (command 1) 0) ≡ false
unfolding need_of sent_of ones
another_block = refl

a_byte_of_data : is_carried disks (story_of ran (carried test_unit_ready (0 ∷ []) (0 ∷ []))) (events.End (command 1) 0)
    ≡ false
unfolding need_of sent_of ones
a_byte_of_data = refl

another_status : is_carried disks (story_of ran (carried test_unit_ready [] (2 ∷ []))) (events.End (command 1) 0)
    ≡ false
unfolding need_of sent_of ones
another_status = refl

did_not_run :
    is_carried disks (story_of (events.Accept (command 1) ∷ []) (carried other_block [] [])) (events.End (command 1) 0)
    ≡ true
unfolding need_of sent_of ones
did_not_run = refl

no_such_command : carried_by (carried test_unit_ready [] (0 ∷ [])) None (Some (good [])) 0 ≡ false
no_such_command = refl

without_reply : carried_by (carried test_unit_ready [] (0 ∷ [])) (process_of disks (command 1)) None 0 ≡ false
unfolding need_of sent_of ones
without_reply = refl

first_event_wrong : all_carried disks (story_of ran (carried other_block [] (0 ∷ []))) (events.End (command 1) 0 ∷ ran)
    ≡ false
unfolding need_of sent_of ones
first_event_wrong = refl

later_event_wrong :
    all_carried disks (story_of ran (carried other_block [] (0 ∷ []))) (events.Reset 7 ∷ events.End (command 1) 0 ∷ ran)
    ≡ false
unfolding need_of sent_of ones
later_event_wrong = refl

-- ---- valid commands

valid_command : is_valid disks (line 7 0 0 tags.Untagged test_unit_ready) ≡ true
valid_command = refl

inquiry_of_no_target : is_valid disks (line 7 3 0 tags.Untagged (0x12 ∷ 0x00 ∷ 0x00 ∷ 0x00 ∷ 0x24 ∷ 0x00 ∷ [])) ≡ false
inquiry_of_no_target = refl

no_unit : is_valid disks (line 7 0 2 tags.Untagged test_unit_ready) ≡ false
no_unit = refl

inquiry_of_no_unit : is_valid disks (line 7 0 2 tags.Untagged (0x12 ∷ 0x00 ∷ 0x00 ∷ 0x00 ∷ 0x24 ∷ 0x00 ∷ [])) ≡ true
inquiry_of_no_unit = refl

request_sense_of_no_unit : is_valid disks (line 7 0 2 tags.Untagged (0x03 ∷ 0x00 ∷ 0x00 ∷ 0x00 ∷ 0x12 ∷ 0x00 ∷ []))
    ≡ true
request_sense_of_no_unit = refl

faulty_block : is_valid disks (line 7 0 0 tags.Untagged (0x00 ∷ 0x00 ∷ 0x00 ∷ 0x00 ∷ 0x00 ∷ 0x01 ∷ [])) ≡ false
faulty_block = refl

past_the_last_block : is_valid disks (line 7 0 0 tags.Untagged (0x08 ∷ 0x00 ∷ 0x00 ∷ 0x04 ∷ 0x01 ∷ 0x00 ∷ [])) ≡ false
past_the_last_block = refl
