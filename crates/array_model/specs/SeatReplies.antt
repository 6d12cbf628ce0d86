-- Which replies of the array are those of the processes that run at a seat.
use Rattle.std.specs.Prelude.{◌≡◌, ℕ, true, false, List, Some, None}
use Rattle.bus_base.specs.declared.Event.{Event}
use Rattle.bus_base.specs.declared.Event.TheVariants as events
use Rattle.bus_base.specs.declared.ProcId.{ProcId}
use Rattle.scenario.specs.Value.{ScenarioValue}
use Rattle.array_model.specs.ArrayHistory.{reply_in}
use Rattle.array_model.specs.Execution.{Reply}
use Rattle.array_model.specs.Processes.{Process, process_of}
use Rattle.array_model.specs.Seats.{Seat, seat_of, current_of, is_waiting_at, running_at}
use Rattle.array_model.specs.SoundArray.{AllOwnGuests}
use Rattle.array_model.specs.Units.{RunningProcess, Array}

-- Of these replies, the newest first, the last of a process that runs is the one that it has, if any; a process that
-- waits has none, and does not run.
pub record HasReplies (replies : List (ProcId × Reply)) (seat : Seat) : Type 0 where
  pub running : (id : ProcId) (r : RunningProcess) → running_at seat id ≡ Some r → reply_in replies id ≡ r.reply
  pub waiting : (id : ProcId) → is_waiting_at seat.unit id ≡ true → reply_in replies id ≡ None
  pub apart : (id : ProcId) → is_waiting_at seat.unit id ≡ true → running_at seat id ≡ None

-- A process of this number stands nowhere at the seat.
pub record IsNowhere (seat : Seat) (id : ProcId) : Type 0 where
  pub not_waiting : is_waiting_at seat.unit id ≡ false
  pub not_running : running_at seat id ≡ None

-- The guests and the current process of the seat are of the scenario.
pub record AreOfScenario (s : ScenarioValue) (seat : Seat) : Type 0 where
  pub guests : AllOwnGuests s seat.guests
  pub current : (r : RunningProcess) → current_of seat.unit ≡ Some r → process_of s r.process.id ≡ Some r.process

-- ---- of the whole array

-- So it is at every seat.
abbrev pub HaveReplies : Array → Type 0
HaveReplies a = (target unit : ℕ) → HasReplies a.replies (seat_of a target unit)

-- A process that arrives stands nowhere, and was not answered before it is accepted; and every other event of a process
-- is of one of the scenario.
abbrev pub ArrivesOnce : ScenarioValue → Array → Event → Type 0
ArrivesOnce s a (events.Accept id) = (p : Process) × (process_of s id ≡ Some p)
    × IsNowhere (seat_of a p.target p.unit) id × (reply_in a.replies id ≡ None)
ArrivesOnce s a (events.Refuse id) =
    (p : Process) × (process_of s id ≡ Some p) × IsNowhere (seat_of a p.target p.unit) id
ArrivesOnce s a (events.Run id) = (p : Process) × (process_of s id ≡ Some p)
ArrivesOnce s a (events.Fail id code) = (p : Process) × (process_of s id ≡ Some p)
ArrivesOnce s a (events.End id status) = (p : Process) × (process_of s id ≡ Some p)
ArrivesOnce s a (events.Lost id) = (p : Process) × (process_of s id ≡ Some p)
ArrivesOnce s a (events.Aborted initiator target unit what) = Unit {0}
ArrivesOnce s a (events.Reset dev) = Unit {0}
