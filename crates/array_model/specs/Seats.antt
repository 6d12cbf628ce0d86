-- One seat of the array, a unit of a target that is there or not, and what each event leaves of it.
use Rattle.std.specs.Prelude.{ℕ, zero, suc, Bool, true, false, not, ◌&&◌, ◌||◌, ◌==◌, List, [], ◌∷◌, ◌++◌, Option, Some}
use Rattle.std.specs.Prelude.{None, is_some, is_none, nat_lt, if◌then◌else◌}
use Rattle.std.specs.List.{list_any}
use Rattle.bus_base.specs.declared.AbortKind.{AbortKind}
use Rattle.bus_base.specs.declared.AbortKind.TheVariants as aborts
use Rattle.bus_base.specs.declared.Event.{Event}
use Rattle.bus_base.specs.declared.Event.TheVariants as events
use Rattle.bus_base.specs.declared.ProcId.{ProcId}
use Rattle.cdb_codec.specs.declared.Sense.{Sense}
use Rattle.cdb_codec.specs.declared.status.TheConstants.{GOOD, CHECK_CONDITION}
use Rattle.cdb_codec.specs.Cdb.{command_of}
use Rattle.scenario.specs.declared.value.HostDef.{HostDef}
use Rattle.scenario.specs.Value.{ScenarioValue}
use Rattle.array_model.specs.Contents.{Contents, no_contents}
use Rattle.array_model.specs.Processes.{Process, process_of, same_id}
use Rattle.array_model.specs.Execution.{Reply, CommandContext, Execution, execution, is_request_sense, queue_full}
use Rattle.array_model.specs.Execution.{reset_occurred, commands_cleared}
use Rattle.array_model.specs.Order.{choice}
use Rattle.array_model.specs.Units.{RunningProcess, UnitState, Nexus, Array, sense_of_nexus, same_nexus, unit_state_at}
use Rattle.array_model.specs.Units.{guest_at, without_guest, with_current, has_no_current}
use Rattle.array_model.specs.Steps.{process_count, guests_with_reply, current_with_reply, running_if, unit_without}
use Rattle.array_model.specs.Steps.{kept_processes, kept_running, kept_guests, is_of_unit, has_tag, is_reset_pending}
use Rattle.array_model.specs.Steps.{unit_processes}

-- The unit, where it is there; the guests that came to it; and by initiator the stored senses, the pending attentions
-- and the hold.
pub record Seat : Type 0 where
  pub unit : Option UnitState
  pub guests : List RunningProcess
  pub senses : ℕ → Option Sense
  pub attentions : ℕ → Option Sense
  pub hold : ℕ → Bool

abbrev pub nexus_at : ℕ → ℕ → ℕ → Nexus
nexus_at target unit initiator = record { initiator = initiator; target = target; unit = unit }

abbrev pub in_hold : List Nexus → Nexus → Bool
in_hold holds nexus = list_any (λ (q : Nexus). same_nexus q nexus) holds

abbrev pub guests_at : List RunningProcess → ℕ → ℕ → List RunningProcess
guests_at [] target unit = []
guests_at (g ∷ guests) target unit =
    if is_of_unit g.process target unit then g ∷ guests_at guests target unit else guests_at guests target unit

abbrev pub seat_of : Array → ℕ → ℕ → Seat
seat_of a target unit = record {
  unit = unit_state_at a.units target unit;
  guests = guests_at a.guests target unit;
  senses = λ initiator. sense_of_nexus a.senses (nexus_at target unit initiator);
  attentions = λ initiator. sense_of_nexus a.attentions (nexus_at target unit initiator);
  hold = λ initiator. in_hold a.holds (nexus_at target unit initiator);
}

abbrev pub seat_if : Option Array → ℕ → ℕ → Option Seat
seat_if None target unit = None
seat_if (Some a) target unit = Some (seat_of a target unit)

-- ---- the choice

abbrev pub unit_mapped : (UnitState → UnitState) → Option UnitState → Option UnitState
unit_mapped f None = None
unit_mapped f (Some u) = Some (f u)

-- One of the initiators below this number stands in the hold.
abbrev pub is_any_below : (ℕ → Bool) → ℕ → Bool
is_any_below hold zero = false
is_any_below hold (suc initiator) = hold initiator || is_any_below hold initiator

-- One of the eight does.
unfoldable pub is_any_held : (ℕ → Bool) → Bool
is_any_held hold = is_any_below hold 8

abbrev pub unit_with_choice : Bool → UnitState → UnitState
unit_with_choice held u = if has_no_current u.current && not held then with_current u (choice u.pick u.waiting) else u

abbrev pub settled_seat : Seat → Seat
settled_seat seat = record seat { unit = unit_mapped (unit_with_choice (is_any_held seat.hold)) seat.unit }

abbrev pub settled_seat_if : Option Seat → Option Seat
settled_seat_if None = None
settled_seat_if (Some seat) = Some (settled_seat seat)

-- ---- by initiator

abbrev pub with_sense_of : (ℕ → Option Sense) → ℕ → Option Sense → ℕ → Option Sense
with_sense_of senses initiator sense = λ other. if initiator == other then sense else senses other

abbrev pub with_hold_of : (ℕ → Bool) → ℕ → Bool → ℕ → Bool
with_hold_of hold initiator held = λ other. if initiator == other then held else hold other

-- ---- a command arrives

abbrev pub seat_with_guest : Seat → Process → Option Reply → Seat
seat_with_guest seat p reply = record seat { guests = seat.guests ++ record { process = p; reply = reply } ∷ [] }

abbrev pub seat_with_waiting : Seat → Process → UnitState → Option Seat
seat_with_waiting seat p u =
    if nat_lt (process_count u) u.depth
    then Some (record seat { unit = Some (record u { waiting = u.waiting ++ p ∷ [] }) }) else None

abbrev pub seat_after_accept_at : Seat → Process → Option UnitState → Option Seat
seat_after_accept_at seat p None = Some (seat_with_guest seat p None)
seat_after_accept_at seat p (Some u) =
    if is_request_sense (command_of p.cdb) then Some (seat_with_guest seat p None) else seat_with_waiting seat p u

abbrev pub seat_after_accept : Process → Seat → Option Seat
seat_after_accept p seat = seat_after_accept_at seat p seat.unit

abbrev pub seat_after_refuse_at : Seat → Process → Option UnitState → Option Seat
seat_after_refuse_at seat p None = None
seat_after_refuse_at seat p (Some u) =
    if not (is_request_sense (command_of p.cdb)) && process_count u == u.depth
    then Some (seat_with_guest seat p (Some queue_full)) else None

abbrev pub seat_after_refuse : Process → Seat → Option Seat
seat_after_refuse p seat = seat_after_refuse_at seat p seat.unit

-- ---- who waits

abbrev pub waits_in : List Process → ProcId → Bool
waits_in waiting id = list_any (λ (p : Process). same_id p.id id) waiting

-- ---- a command runs

abbrev pub current_of : Option UnitState → Option RunningProcess
current_of None = None
current_of (Some u) = u.current

-- The guest or the current process of this number.
abbrev pub running_at : Seat → ProcId → Option RunningProcess
running_at seat id =
    if is_some (guest_at seat.guests id) then guest_at seat.guests id else running_if (current_of seat.unit) id

abbrev pub contents_of : Option UnitState → Contents
contents_of None = no_contents
contents_of (Some u) = u.contents

abbrev pub context_of : Seat → ℕ → CommandContext
context_of seat initiator = record {
  present = is_some seat.unit;
  contents = contents_of seat.unit;
  stored = seat.senses initiator;
  attention = seat.attentions initiator;
}

abbrev pub unit_with_reply : ProcId → Reply → UnitState → UnitState
unit_with_reply id reply u = record u { current = current_with_reply u.current id reply }

abbrev pub unit_with_contents : Contents → UnitState → UnitState
unit_with_contents contents u = record u { contents = contents }

abbrev pub seat_with_reply : Seat → ProcId → Reply → Seat
seat_with_reply seat id reply = record seat {
  unit = unit_mapped (unit_with_reply id reply) seat.unit;
  guests = guests_with_reply seat.guests id reply;
}

abbrev pub seat_with_execution : Seat → Process → Execution → Seat
seat_with_execution seat p done =
    seat_with_reply (record seat {
      unit = unit_mapped (unit_with_contents done.contents) seat.unit;
      attentions = if done.reported then with_sense_of seat.attentions p.initiator None else seat.attentions;
    }) p.id done.reply

abbrev pub seat_after_run_of : Seat → Bool → Option RunningProcess → Option Seat
seat_after_run_of seat guest None = None
seat_after_run_of seat guest (Some r) =
    if is_none r.reply && (guest || not (is_any_held seat.hold)) then Some
    (seat_with_execution seat r.process (execution (context_of seat r.process.initiator) r.process.cdb r.process.sent))
    else None

abbrev pub seat_after_run : ProcId → Seat → Option Seat
seat_after_run id seat = seat_after_run_of seat (is_some (guest_at seat.guests id)) (running_at seat id)

-- ---- a command fails

abbrev pub is_waiting_at : Option UnitState → ProcId → Bool
is_waiting_at None id = false
is_waiting_at (Some u) id = list_any (λ (p : Process). same_id p.id id) u.waiting

abbrev pub seat_after_failure_of : Seat → Bool → Process → Reply → Option RunningProcess → Option Seat
seat_after_failure_of seat ended p reply (Some r) =
    if is_none r.reply then Some (seat_with_reply seat p.id reply) else None
seat_after_failure_of seat ended p reply None =
    if is_waiting_at seat.unit p.id || ended then None else Some (seat_with_guest seat p (Some reply))

-- `ended` says whether the process has ended or was lost.
abbrev pub seat_after_failure : Bool → Process → Reply → Seat → Option Seat
seat_after_failure ended p reply seat = seat_after_failure_of seat ended p reply (running_at seat p.id)

-- ---- a command ends

abbrev pub seat_without : Seat → ProcId → Seat
seat_without seat id =
    record seat { unit = unit_mapped (λ u. unit_without u id) seat.unit; guests = without_guest seat.guests id }

abbrev pub seat_after_status : Seat → Process → Reply → Seat
seat_after_status seat p reply =
    if reply.status == CHECK_CONDITION then record seat {
      senses = with_sense_of seat.senses p.initiator (Some reply.sense);
      hold = with_hold_of seat.hold p.initiator true;
    } else if reply.status == GOOD && is_request_sense (command_of p.cdb) then record seat {
      senses = with_sense_of seat.senses p.initiator None;
      hold = with_hold_of seat.hold p.initiator false;
    } else seat

abbrev pub seat_after_end_with : Seat → Process → ℕ → Option Reply → Option Seat
seat_after_end_with seat p status None = None
seat_after_end_with seat p status (Some reply) =
    if reply.status == status then Some (seat_without (seat_after_status seat p reply) p.id) else None

abbrev pub seat_after_end_of : Seat → ℕ → Option RunningProcess → Option Seat
seat_after_end_of seat status None = None
seat_after_end_of seat status (Some r) = seat_after_end_with seat r.process status r.reply

abbrev pub seat_after_end : ProcId → ℕ → Seat → Option Seat
seat_after_end id status seat = seat_after_end_of seat status (running_at seat id)

abbrev pub seat_after_loss : Bool → ProcId → Seat → Option Seat
seat_after_loss ended id seat = if ended then None else Some (seat_without seat id)

-- ---- aborts and resets

abbrev pub unit_kept : (Process → Bool) → UnitState → UnitState
unit_kept drops u = record u { waiting = kept_processes drops u.waiting; current = kept_running drops u.current }

abbrev pub seat_kept : (Process → Bool) → Seat → Seat
seat_kept drops seat =
    record seat { unit = unit_mapped (unit_kept drops) seat.unit; guests = kept_guests drops seat.guests }

abbrev pub seat_after_abort : ℕ → Seat → Seat
seat_after_abort initiator seat = record (seat_kept (λ p. p.initiator == initiator) seat) {
  senses = with_sense_of seat.senses initiator None;
  hold = with_hold_of seat.hold initiator false;
}

abbrev pub seat_after_abort_tag : ℕ → ℕ → Seat → Seat
seat_after_abort_tag initiator n seat = seat_kept (λ p. p.initiator == initiator && has_tag p.tag n) seat

-- This initiator lost one of these processes by a clearing of another.
abbrev pub is_told : ℕ → List Process → ℕ → Bool
is_told by lost initiator = list_any (λ (p : Process). p.initiator == initiator && not (p.initiator == by)) lost

-- An initiator that lost a command by a clearing of another is told of it; an attention of a reset stays.
abbrev pub attention_if_told : Bool → Option Sense → Option Sense
attention_if_told told attention = if told && not (is_reset_pending attention) then Some commands_cleared else attention

abbrev pub seat_after_clear_queue : ℕ → Seat → Seat
seat_after_clear_queue initiator seat = record (seat_kept (λ p. true) seat) {
  attentions = λ other. attention_if_told (is_told initiator (unit_processes seat.unit) other) (seat.attentions other);
}

abbrev pub is_initiator : List HostDef → ℕ → Bool
is_initiator hosts dev = list_any (λ (h : HostDef). h.dev == dev) hosts

-- By BUS DEVICE RESET, and by RST: every initiator gets the attention of a reset where the unit is there.
abbrev pub seat_after_reset : List HostDef → Seat → Seat
seat_after_reset hosts seat =
    record (seat_kept (λ p. true) seat) {
      senses = λ initiator. None;
      hold = λ initiator. false;
      attentions = λ initiator. if is_some seat.unit && is_initiator hosts initiator then Some reset_occurred
          else seat.attentions initiator;
    }

abbrev pub seat_after_aborted : List HostDef → ℕ → AbortKind → Seat → Seat
seat_after_aborted hosts initiator aborts.All seat = seat_after_abort initiator seat
seat_after_aborted hosts initiator (aborts.Tag n) seat = seat_after_abort_tag initiator n seat
seat_after_aborted hosts initiator aborts.WholeQueue seat = seat_after_clear_queue initiator seat
seat_after_aborted hosts initiator aborts.Device seat = seat_after_reset hosts seat

-- ---- other seats

abbrev pub is_of_other_unit : Option Process → ℕ → ℕ → Bool
is_of_other_unit None target unit = false
is_of_other_unit (Some p) target unit = not (is_of_unit p target unit)

-- BUS DEVICE RESET concerns each unit of its target.
abbrev pub is_abort_of_other_unit : ℕ → ℕ → AbortKind → ℕ → ℕ → Bool
is_abort_of_other_unit to_target to_unit aborts.All target unit = not (to_target == target && to_unit == unit)
is_abort_of_other_unit to_target to_unit (aborts.Tag n) target unit = not (to_target == target && to_unit == unit)
is_abort_of_other_unit to_target to_unit aborts.WholeQueue target unit = not (to_target == target && to_unit == unit)
is_abort_of_other_unit to_target to_unit aborts.Device target unit = not (to_target == target)

-- The event is of a process of another seat, or an abort there.
abbrev pub is_elsewhere : ScenarioValue → Event → ℕ → ℕ → Bool
is_elsewhere s (events.Accept id) target unit = is_of_other_unit (process_of s id) target unit
is_elsewhere s (events.Refuse id) target unit = is_of_other_unit (process_of s id) target unit
is_elsewhere s (events.Run id) target unit = is_of_other_unit (process_of s id) target unit
is_elsewhere s (events.Fail id code) target unit = is_of_other_unit (process_of s id) target unit
is_elsewhere s (events.End id status) target unit = is_of_other_unit (process_of s id) target unit
is_elsewhere s (events.Lost id) target unit = is_of_other_unit (process_of s id) target unit
is_elsewhere s (events.Aborted initiator to_target to_unit what) target unit =
    is_abort_of_other_unit to_target to_unit what target unit
is_elsewhere s (events.Reset dev) target unit = false
