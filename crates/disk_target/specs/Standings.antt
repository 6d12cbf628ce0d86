-- Where a process stands at its logical unit: in the queue, outside it, or nowhere.
use Rattle.std.specs.Prelude.{◌≡◌, ℕ, Bool, true, false, ◌||◌, Option, Some, None, is_some}
use Rattle.bus_base.specs.declared.ProcId.{ProcId}
use Rattle.cdb_codec.specs.Cdb.{command_of}
use Rattle.scenario.specs.Value.{ScenarioValue}
use Rattle.array_model.specs.Execution.{is_request_sense}
use Rattle.array_model.specs.Order.{class_of, tag_number}
use Rattle.array_model.specs.Processes.{Process}
use Rattle.array_model.specs.Seats.{Seat, is_initiator, waits_in}
use Rattle.array_model.specs.SoundArray.{IsOwn}
use Rattle.array_model.specs.Steps.{running_if}
use Rattle.array_model.specs.Units.{RunningProcess, UnitState, guest_at}
use Rattle.disk_unit.specs.declared.unit.Reply.{Reply}
use Rattle.target_course.specs.target_units.specs.Seated.{IsProcess, reply_told}
use Rattle.target_course.specs.target_units.specs.declared.served.Served.{Served}
use Rattle.disk_target.specs.declared.standing.Standing.{Standing}
use Rattle.disk_target.specs.declared.standing.Standing.TheVariants as standings

-- ---- a process as its target knows it

pub record IsServed (s : ScenarioValue) (dev : ℕ) (p : Process) (v : Served) : Type 0 where
  pub own : IsOwn s dev v.unit p
  pub id_is : p.id ≡ v.id
  pub from_is : p.initiator ≡ v.from
  pub tag_is : tag_number p.tag ≡ v.tag
  pub class_is : class_of p.tag ≡ v.class
  pub host : is_initiator s.hosts p.initiator ≡ true

-- Once its command is known to its target.
abbrev pub HasBlock : Process → Served → Type 0
HasBlock p v = p.cdb ≡ v.cdb.now

abbrev pub words_of : (s : ScenarioValue) (dev : ℕ) (p : Process) (v : Served) → IsServed s dev p v → HasBlock p v
    → IsProcess p v.id v.from v.tag v.class v.cdb.now
words_of s dev p v h block = record {
  id_is = h.id_is;
  from_is = h.from_is;
  tag_is = h.tag_is;
  class_is = h.class_is;
  cdb_is = block;
}

-- ---- at its unit

-- It waits there, or is current.
abbrev pub is_inside : Option UnitState → ProcId → Bool
is_inside None id = false
is_inside (Some u) id = waits_in u.waiting id || is_some (running_if u.current id)

-- It stands outside the queue; one that has no reply yet at a unit that is there is a REQUEST SENSE (8.2.14).
pub record IsGuest (seat : Seat) (p : Process) (reply : Option Reply) : Type 0 where
  pub guest : RunningProcess
  pub at : guest_at seat.guests p.id ≡ Some guest
  pub process_is : guest.process ≡ p
  pub reply_is : reply ≡ reply_told guest.reply
  pub sense : guest.reply ≡ None → is_some seat.unit ≡ true → is_request_sense (command_of p.cdb) ≡ true

-- It stands inside the queue or not, and not outside it.
pub record IsNoGuest (seat : Seat) (p : Process) (inside : Bool) : Type 0 where
  pub none : guest_at seat.guests p.id ≡ None
  pub inside_is : is_inside seat.unit p.id ≡ inside

abbrev pub IsStanding : Seat → Process → Standing → Type 0
IsStanding seat p standings.Nowhere = IsNoGuest seat p false
IsStanding seat p standings.Queued = IsNoGuest seat p true
IsStanding seat p (standings.Guest reply) = IsGuest seat p reply

-- ---- as the connection begins

abbrev pub standing_at_first : Bool → Standing
standing_at_first true = standings.Queued
standing_at_first false = standings.Nowhere

-- ---- as its command arrives, outside the queue or in it; and as it fails with this reply

abbrev pub standing_on_arrival : Bool → Standing
standing_on_arrival true = standings.Guest None
standing_on_arrival false = standings.Queued

abbrev pub standing_on_failure : Standing → Reply → Standing
standing_on_failure standings.Nowhere reply = standings.Guest (Some reply)
standing_on_failure standings.Queued reply = standings.Queued
standing_on_failure (standings.Guest old) reply = standings.Guest (Some reply)

abbrev pub is_guest : Standing → Bool
is_guest standings.Nowhere = false
is_guest standings.Queued = false
is_guest (standings.Guest reply) = true

-- The reply that it has outside the queue.
abbrev pub outcome_of : Standing → Option Reply
outcome_of standings.Nowhere = None
outcome_of standings.Queued = None
outcome_of (standings.Guest reply) = reply
