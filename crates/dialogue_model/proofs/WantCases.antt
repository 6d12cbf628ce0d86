-- What an initiator sends next, what a target has ready, and what a target shows, computed on small books.
use Rattle.std.proofs.Common.{ℕ, ◌≡◌, Bool, true, false, [], ◌∷◌, Option, Some, None, refl}
use Rattle.scenario.specs.bus_base.specs.declared.ProcId.{ProcId}
use Rattle.scenario.specs.bus_base.specs.declared.AbortKind.TheVariants as aborts
use Rattle.scenario.specs.bus_base.specs.declared.Event.TheVariants as events
use Rattle.story_model.specs.bus_trace.specs.declared.connection.Connection.{Connection}
use Rattle.scenario.specs.declared.value.CmdDef.{CmdDef}
use Rattle.scenario.specs.declared.value.Payload.TheVariants as payloads
use Rattle.scenario.specs.declared.value.Tag.{Tag}
use Rattle.scenario.specs.declared.value.Tag.TheVariants as tags
use Rattle.story_model.specs.array_model.specs.Processes.{Process}
use Rattle.story_model.specs.Items.{abort, command_item, sense_item}
use Rattle.dialogue_model.specs.declared.exchange.Arrival.TheVariants as arrivals
use Rattle.dialogue_model.specs.declared.exchange.Phase.TheVariants as phases
use Rattle.dialogue_model.specs.declared.exchange.Plan.{Plan}
use Rattle.dialogue_model.specs.Exchange.{no_plan, nothing_heard}
use Rattle.dialogue_model.specs.NextPhase.{Serving}
use Rattle.dialogue_model.specs.Wants.{OwnCommand, Book, item_by, item_since, Ready, ready_in, ready_by}
use Rattle.dialogue_model.specs.Events.{leaving_events}

-- ---- the book of an initiator

abbrev test_unit_ready : ℕ → ℕ → Tag → CmdDef
test_unit_ready at unit tag = record {
  host = 7;
  target = 0;
  unit = unit;
  at = at;
  tag = tag;
  cdb = 0 ∷ 0 ∷ 0 ∷ 0 ∷ 0 ∷ 0 ∷ [];
  payload = payloads.Nothing;
}

abbrev own : ℕ → CmdDef → Bool → Bool → OwnCommand
own n c sent over =
    record { number = n; def = c; sent = sent; over = over; sense_sent = false; sense_over = false; tries = 0 }

-- It may have two commands open; the second of its commands was sent, the others are still to be sent, from 1000 and
-- 2000 on.
abbrev book : Book
book = record {
  aborts = [];
  sense = None;
  commands = own 2 (test_unit_ready 500 0 (tags.Simple 1)) true false
      ∷ own 5 (test_unit_ready 1000 0 (tags.Simple 2)) false false
      ∷ own 6 (test_unit_ready 2000 0 (tags.Simple 3)) false false ∷ [];
  most = 2;
}

abbrev with_abort : Bool → Book
with_abort done = record book { aborts = record { number = 1; at = 1500; done = done } ∷ [] }

first_command : item_by book 1000 ≡ Some (command_item 5)
first_command = refl

not_before_its_time : item_by book 999 ≡ None
not_before_its_time = refl

wants_from_its_time : item_since book ≡ Some 1000
wants_from_its_time = refl

-- No more open than it may have; none with a tag that is in use; an untagged one beside none.
one_open_at_most : item_by (record book { most = 1 }) 1000 ≡ None
one_open_at_most = refl

tag_in_use : item_by (record book {
  commands = own 2 (test_unit_ready 500 0 (tags.Simple 1)) true false
      ∷ own 5 (test_unit_ready 1000 0 (tags.Head 1)) false false ∷ [];
}) 1000 ≡ None
tag_in_use = refl

untagged_beside_another : item_by (record book {
  commands = own 2 (test_unit_ready 500 0 (tags.Simple 1)) true false
      ∷ own 5 (test_unit_ready 1000 0 tags.Untagged) false false ∷ [];
}) 1000 ≡ None
untagged_beside_another = refl

another_unit : item_by (record book {
  commands = own 2 (test_unit_ready 500 0 (tags.Simple 1)) true false
      ∷ own 5 (test_unit_ready 1000 3 (tags.Simple 1)) false false ∷ [];
}) 1000 ≡ Some (command_item 5)
another_unit = refl

-- The first that is still to be sent waits for room, and those after it wait for it.
over_is_over : item_by (record book {
  commands = own 2 (test_unit_ready 500 0 (tags.Simple 1)) true true
      ∷ own 5 (test_unit_ready 1000 0 (tags.Simple 2)) false true
      ∷ own 6 (test_unit_ready 2000 0 (tags.Simple 3)) false false ∷ [];
}) 3000 ≡ Some (command_item 6)
over_is_over = refl

-- An abort that is due goes first, then an automatic REQUEST SENSE.
abort_goes_first : item_by (with_abort false) 1500 ≡ Some (abort 1)
abort_goes_first = refl

abort_is_not_due : item_by (with_abort false) 1499 ≡ Some (command_item 5)
abort_is_not_due = refl

abort_is_done : item_by (with_abort true) 1500 ≡ Some (command_item 5)
abort_is_done = refl

sense_goes_before_commands : item_by (record (with_abort true) { sense = Some (sense_item 1) }) 0 ≡ Some (sense_item 1)
sense_goes_before_commands = refl

wants_the_sense_always : item_since (record book { sense = Some (sense_item 1) }) ≡ Some 0
wants_the_sense_always = refl

-- ---- what a target has ready

abbrev process_at : ℕ → Process
process_at unit = record {
  id = record { command = 1; sense = false };
  initiator = 7;
  target = 0;
  unit = unit;
  tag = tags.Untagged;
  cdb = [];
  sent = [];
  serial = false;
}

abbrev ready : ℕ → ℕ → Option Ready
ready unit time = ready_in false (Some (record { process = process_at unit; reply = None })) time

abbrev unit_of : Option Ready → Option ℕ
unit_of None = None
unit_of (Some r) = Some r.process.unit

sooner_seek_first : unit_of (ready_by (ready 0 9000 ∷ None ∷ ready 2 8000 ∷ [])) ≡ Some 2
sooner_seek_first = refl

lower_unit_first : unit_of (ready_by (ready 3 8000 ∷ None ∷ ready 2 8000 ∷ [])) ≡ Some 2
lower_unit_first = refl

held_unit : ready_in true (Some (record { process = process_at 0; reply = None })) 8000 ≡ None
held_unit = refl

-- ---- what a target shows as it leaves a phase

abbrev this : ProcId
this = record { command = 4; sense = false }

abbrev link : Connection
link = record { initiator = 7; target = 3; began = 5380; reselected = false }

abbrev serving : Plan → Serving
serving plan = record { def = None; plan = plan; task = None; given = []; arrival = arrivals.Queued }

command_arrives : leaving_events (serving no_plan) link true true false phases.Command (Some this)
    ≡ events.Accept this ∷ []
command_arrives = refl

struck_command_does_not :
    leaving_events (serving (record no_plan { struck = true })) link true true false phases.Command (Some this) ≡ []
struck_command_does_not = refl

refused_command : leaving_events
    (record (serving no_plan) { arrival = arrivals.Refused }) link true true false phases.Command (Some this)
    ≡ events.Refuse this ∷ []
refused_command = refl

lost_in_status : leaving_events (serving no_plan) link true false false phases.Status (Some this)
    ≡ events.Lost this ∷ []
lost_in_status = refl

bus_freed_after_messages : leaving_events (serving no_plan) link true false false phases.MessageIn (Some this) ≡ []
bus_freed_after_messages = refl

abort_of_a_tag : leaving_events (serving (record no_plan {
  said = record nothing_heard { unit = Some 2; tag = tags.Simple 9; aborts = Some (aborts.Tag 9) };
})) link true false false phases.MessageOut None
    ≡ events.Aborted 7 3 2 (aborts.Tag 9) ∷ []
abort_of_a_tag = refl

first_phase_shows_nothing : leaving_events (serving no_plan) link false true false phases.MessageOut (Some this) ≡ []
first_phase_shows_nothing = refl
