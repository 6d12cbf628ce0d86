-- What an initiator sends next.
use Rattle.std.specs.Prelude.{ℕ, ◌+◌, Bool, true, false, not, ◌&&◌, ◌||◌, ◌==◌, List, [], ◌∷◌, length, Option, Some}
use Rattle.std.specs.Prelude.{None, nat_le, nat_lt, if◌then◌else◌}
use Rattle.std.specs.List.{list_any}
use Rattle.bus_phases.specs.bus_base.specs.declared.ProcId.{ProcId}
use Rattle.array_model.specs.scenario.specs.declared.value.HostDef.{HostDef}
use Rattle.array_model.specs.scenario.specs.declared.value.CmdDef.{CmdDef}
use Rattle.array_model.specs.scenario.specs.declared.value.AbortDef.{AbortDef}
use Rattle.array_model.specs.scenario.specs.Value.{ScenarioValue}
use Rattle.array_model.specs.Processes.{command_at, same_id}
use Rattle.array_model.specs.Order.{tag_number}

-- A process, or an abort line, counted from 1.
pub data Item : Type 0 where
  process : ProcId → Item
  abort : ℕ → Item

abbrev pub same_item : Item → Item → Bool
same_item (process p) (process q) = same_id p q
same_item (abort k) (abort l) = k == l
same_item (process p) (abort l) = false
same_item (abort k) (process q) = false

abbrev pub has_item : List Item → Item → Bool
has_item items item = list_any (λ i. same_item i item) items

abbrev pub count_item : List Item → Item → ℕ
count_item [] item = 0
count_item (i ∷ items) item = if same_item i item then count_item items item + 1 else count_item items item

-- What the initiators have sent, what is over, and in which order commands ended with CHECK CONDITION; and unanswered
-- callings.
pub record Sent : Type 0 where
  pub sent : List Item
  pub over : List Item
  pub checks : List ℕ
  pub tries : List Item

-- The n-th command, and its automatic REQUEST SENSE.
abbrev pub command_id : ℕ → ProcId
command_id n = record { command = n; sense = false }

abbrev pub sense_id : ℕ → ProcId
sense_id n = record { command = n; sense = true }

abbrev pub command_item : ℕ → Item
command_item n = process (command_id n)

abbrev pub sense_item : ℕ → Item
sense_item n = process (sense_id n)

abbrev pub is_done : Sent → Item → Bool
is_done b item = has_item b.sent item || has_item b.over item

-- ---- aborts first: the first of its own that is due

abbrev pub abort_from : Sent → ℕ → ℕ → ℕ → List AbortDef → Option Item
abort_from b dev time k [] = None
abort_from b dev time k (a ∷ aborts) =
    if a.host == dev && nat_le a.at time && not (is_done b (abort k)) then Some (abort k)
    else abort_from b dev time (k + 1) aborts

-- ---- then the automatic REQUEST SENSE of the command that ended first with CHECK CONDITION

abbrev pub is_of_host : Option CmdDef → ℕ → Bool
is_of_host None dev = false
is_of_host (Some c) dev = c.host == dev

abbrev pub sense_from : ScenarioValue → Sent → ℕ → List ℕ → Option Item
sense_from s b dev [] = None
sense_from s b dev (n ∷ checks) =
    if is_of_host (command_at s.commands n) dev && not (is_done b (sense_item n)) then Some (sense_item n)
    else sense_from s b dev checks

-- ---- then its first command that is neither sent nor ended, where it may send it now

abbrev pub is_open : Sent → ℕ → Bool
is_open b n = has_item b.sent (command_item n) && not (has_item b.over (command_item n))

-- The open commands of this initiator, counted from n.
abbrev pub open_from : Sent → ℕ → ℕ → List CmdDef → List CmdDef
open_from b dev n [] = []
open_from b dev n (c ∷ commands) =
    if c.host == dev && is_open b n then c ∷ open_from b dev (n + 1) commands else open_from b dev (n + 1) commands

abbrev pub is_tag_clash : Option ℕ → Option ℕ → Bool
is_tag_clash None b = true
is_tag_clash (Some a) None = true
is_tag_clash (Some a) (Some b) = a == b

-- At one unit: an untagged command beside any, or two with one tag.
abbrev pub is_clash : CmdDef → CmdDef → Bool
is_clash c d = (c.target == d.target && c.unit == d.unit) && is_tag_clash (tag_number c.tag) (tag_number d.tag)

abbrev pub open_limit_of : List HostDef → ℕ → ℕ
open_limit_of [] dev = 0
open_limit_of (h ∷ hosts) dev = if h.dev == dev then h.most else open_limit_of hosts dev

abbrev pub may_send : ScenarioValue → ℕ → List CmdDef → CmdDef → Bool
may_send s time now c = nat_le c.at time && nat_lt (length now) (open_limit_of s.hosts c.host)
    && not (list_any (λ (d : CmdDef). is_clash c d) now)

abbrev pub command_from : ScenarioValue → Sent → ℕ → ℕ → ℕ → List CmdDef → Option Item
command_from s b dev time n [] = None
command_from s b dev time n (c ∷ commands) =
    if c.host == dev && not (is_done b (command_item n))
    then if may_send s time (open_from b dev 1 s.commands) c then Some (command_item n) else None
    else command_from s b dev time (n + 1) commands

abbrev pub or_else : Option Item → Option Item → Option Item
or_else None next = next
or_else (Some item) next = Some item

-- What this initiator sends next at this time.
abbrev pub item_at : ScenarioValue → Sent → ℕ → ℕ → Option Item
item_at s b dev time = or_else (abort_from b dev time 1 s.aborts)
    (or_else (sense_from s b dev b.checks) (command_from s b dev time 1 s.commands))
