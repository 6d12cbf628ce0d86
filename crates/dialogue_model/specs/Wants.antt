-- What an initiator sends next, and since when it wants to, by the book of its own commands and aborts; and what a
-- target has ready, by the current processes of its units.
use Rattle.std.specs.Prelude.{ℕ, Bool, false, not, ◌&&◌, ◌||◌, ◌==◌, List, [], ◌∷◌, length, Option, Some, None, is_some}
use Rattle.std.specs.Prelude.{nat_le, nat_lt, if◌then◌else◌}
use Rattle.std.specs.List.{list_any}
use Rattle.scenario.specs.declared.value.CmdDef.{CmdDef}
use Rattle.story_model.specs.array_model.specs.Processes.{Process}
use Rattle.story_model.specs.array_model.specs.Units.{RunningProcess}
use Rattle.story_model.specs.Items.{Item, abort, command_item, or_else, is_clash}
use Rattle.reaction_model.specs.Reactions.{sooner_time, time_if}

-- ---- the book of an initiator

-- A command of its own, by its number among all commands, counted from 1: whether it was sent and is over, the same of
-- its automatic REQUEST SENSE, and its unanswered callings.
pub record OwnCommand : Type 0 where
  pub number : ℕ
  pub def : CmdDef
  pub sent : Bool
  pub over : Bool
  pub sense_sent : Bool
  pub sense_over : Bool
  pub tries : ℕ

-- An abort line of its own, by its number among all: when it falls due, and whether it was sent or given up.
pub record OwnAbort : Type 0 where
  pub number : ℕ
  pub at : ℕ
  pub done : Bool

-- The automatic REQUEST SENSE is that of the first command that ended with CHECK CONDITION whose sense is still to be
-- sent; `most` is how many commands it may have open.
pub record Book : Type 0 where
  pub aborts : List OwnAbort
  pub sense : Option Item
  pub commands : List OwnCommand
  pub most : ℕ

abbrev pub open_in : List OwnCommand → List CmdDef
open_in [] = []
open_in (o ∷ own) = if o.sent && not o.over then o.def ∷ open_in own else open_in own

-- A command may be sent from its time on, beside these open ones: fewer than so many, and none at its unit that it
-- would be confused with (6.6.17, 7.8).
abbrev pub may_follow : ℕ → ℕ → List CmdDef → CmdDef → Bool
may_follow most time now c =
    nat_le c.at time && nat_lt (length now) most && not (list_any (λ (d : CmdDef). is_clash c d) now)

-- ---- what it sends at this time: an abort first, then an automatic REQUEST SENSE, then its first command that is
-- still to be sent

abbrev pub abort_by : ℕ → List OwnAbort → Option Item
abort_by time [] = None
abort_by time (a ∷ aborts) = if nat_le a.at time && not a.done then Some (abort a.number) else abort_by time aborts

abbrev pub command_by : ℕ → ℕ → List CmdDef → List OwnCommand → Option Item
command_by most time now [] = None
command_by most time now (o ∷ own) =
    if not (o.sent || o.over) then (if may_follow most time now o.def then Some (command_item o.number) else None)
    else command_by most time now own

abbrev pub item_by : Book → ℕ → Option Item
item_by b time =
    or_else (abort_by time b.aborts) (or_else b.sense (command_by b.most time (open_in b.commands) b.commands))

-- ---- since when it wants to send something

abbrev pub abort_since : List OwnAbort → Option ℕ
abort_since [] = None
abort_since (a ∷ aborts) = sooner_time (time_if (not a.done) a.at) (abort_since aborts)

abbrev pub command_since : ℕ → List CmdDef → List OwnCommand → Option ℕ
command_since most now [] = None
command_since most now (o ∷ own) =
    if not (o.sent || o.over) then time_if (may_follow most o.def.at now o.def) o.def.at else command_since most now own

abbrev pub item_since : Book → Option ℕ
item_since b =
    sooner_time (abort_since b.aborts)
    (sooner_time (time_if (is_some b.sense) 0) (command_since b.most (open_in b.commands) b.commands))

-- Its time has come.
abbrev pub is_reached : Option ℕ → ℕ → Bool
is_reached None time = false
is_reached (Some at) time = nat_le at time

-- ---- what a target has ready: the current process of a unit, from a time on, unless an initiator stands in the hold

pub record Ready : Type 0 where
  pub time : ℕ
  pub process : Process

abbrev pub ready_in : Bool → Option RunningProcess → ℕ → Option Ready
ready_in held None time = None
ready_in held (Some r) time = if held then None else Some (record { time = time; process = r.process })

-- Of several that whose seek time passes first; of those that of the lower unit.
abbrev pub is_ready_before : Ready → Ready → Bool
is_ready_before a b = nat_lt a.time b.time || (a.time == b.time && nat_lt a.process.unit b.process.unit)

abbrev pub first_ready : Option Ready → Option Ready → Option Ready
first_ready None b = b
first_ready (Some a) None = Some a
first_ready (Some a) (Some b) = if is_ready_before b a then Some b else Some a

-- Of all its units.
abbrev pub ready_by : List (Option Ready) → Option Ready
ready_by [] = None
ready_by (r ∷ units) = first_ready r (ready_by units)
