-- The processes so far, each named by its nexus and its number among those of that nexus.
use Rattle.std.specs.Prelude.{ℕ, ◌≡◌, Bool, false, not, ◌&&◌, ◌==◌, List, Option, Some, None, if◌then◌else◌}
use Rattle.std.specs.Map.{lookup}
use Rattle.std.specs.BTreeMap.{is_at, insert_entry}
use Rattle.bus_transcript.specs.declared.item.Name.{Name}
use Rattle.bus_transcript.specs.declared.process.Process.{Process}
use Rattle.bus_transcript.specs.Keys.{Key, key_of, key_cmp}
use Rattle.bus_transcript.specs.Numbers.{next_number}
use Rattle.array_model.specs.Order.{same_number}

-- What is kept is the last process of each nexus, in the order of the keys: the one of this nexus.
abbrev pub process_of : List (Key × Process) → Name → Option Process
process_of last name = lookup (is_at (key_cmp (key_of name))) last

-- A process more, in place of an earlier one of its nexus.
abbrev pub with_last : List (Key × Process) → Process → List (Key × Process)
with_last last p = insert_entry key_cmp last (key_of p.name) p

-- Of one nexus: initiator, target, unit and tag.
abbrev pub same_nexus : Name → Name → Bool
same_nexus a b =
    (a.initiator == b.initiator && a.target == b.target) && (same_number a.unit b.unit && same_number a.tag b.tag)

-- After a process more it is the last of its nexus, and those of the others are as before.
abbrev pub IsLast : List (Key × Process) → List (Key × Process) → Process → Type 0
IsLast old new p =
    (name : Name) → process_of new name ≡ (if same_nexus p.name name then Some p else process_of old name)

-- A process begins: its saved pointer is 0, and it has carried nothing.
abbrev pub new_process : Name → ℕ → Process
new_process name number = record { name = record name { number = number }; saved = 0; status = None; shown = false }

-- The process of a connection, by the last one of its nexus. One that an initiator began starts a process, but one with
-- an abort message, which has the number 0. One that a target began goes on with the last, or starts one where there is
-- none.
abbrev pub process_after : Bool → Bool → Option Process → Name → Process
process_after again aborts None name = new_process name (if aborts && not again then 0 else next_number 0)
process_after again aborts (Some p) name =
    if again then p else new_process name (if aborts then 0 else next_number p.name.number)

-- It is kept, but for an initiator's abort.
abbrev pub with_process : Bool → Bool → List (Key × Process) → Process → List (Key × Process)
with_process again aborts last p = if aborts && not again then last else with_last last p
