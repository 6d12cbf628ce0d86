-- Which waiting command may run, and which is chosen (6.6.17, 7.8.2).
use Rattle.std.specs.Prelude.{ℕ, zero, suc, ◌+◌, Bool, true, false, not, ◌&&◌, ◌||◌, ◌==◌, List, [], ◌∷◌, ◌++◌, Option}
use Rattle.std.specs.Prelude.{Some, None, Result, Ok, Err, nat_lt, if◌then◌else◌}
use Rattle.std.specs.List.{list_any}
use Rattle.bus_base.specs.declared.events.Pick.{Pick}
use Rattle.bus_base.specs.declared.events.Pick.TheVariants as picks
use Rattle.bus_base.specs.declared.events.Class.{Class}
use Rattle.bus_base.specs.declared.events.Class.TheVariants as classes
use Rattle.bus_base.specs.declared.ProcId.{ProcId}
use Rattle.cdb_codec.specs.declared.command.Command.{Command}
use Rattle.cdb_codec.specs.declared.command.CdbFault.{CdbFault}
use Rattle.cdb_codec.specs.Cdb.{command_of}
use Rattle.scenario.specs.declared.value.Tag.{Tag}
use Rattle.scenario.specs.declared.value.Tag.TheVariants as tags
use Rattle.scenario.specs.Needs.{is_write}
use Rattle.array_model.specs.declared.entries.Entry.{Entry}
use Rattle.array_model.specs.Processes.{Process, same_id}
use Rattle.array_model.specs.Execution.{range_of}

-- ---- what a queue keeps of a process

-- A command without a tag counts as SIMPLE.
abbrev pub class_of : Tag → Class
class_of tags.Untagged = classes.Simple
class_of (tags.Simple tag) = classes.Simple
class_of (tags.Ordered tag) = classes.Ordered
class_of (tags.Head tag) = classes.Head

abbrev pub tag_number : Tag → Option ℕ
tag_number tags.Untagged = None
tag_number (tags.Simple tag) = Some tag
tag_number (tags.Ordered tag) = Some tag
tag_number (tags.Head tag) = Some tag

abbrev pub same_number : Option ℕ → Option ℕ → Bool
same_number None None = true
same_number (Some a) (Some b) = a == b
same_number None (Some b) = false
same_number (Some a) None = false

abbrev pub range_in : Result Command CdbFault → Option (ℕ × ℕ)
range_in (Ok c) = range_of c
range_in (Err fault) = None

abbrev pub first_in : Option (ℕ × ℕ) → ℕ
first_in None = 0
first_in (Some range) = range.0

abbrev pub count_in : Option (ℕ × ℕ) → ℕ
count_in None = 0
count_in (Some range) = range.1

-- The blocks that a process names: none at a serial unit.
abbrev pub range_named : Process → Option (ℕ × ℕ)
range_named p = if p.serial then None else range_in (command_of p.cdb)

-- What of its unit it reads or writes: a serial unit is one block to all its processes.
abbrev pub extent_of : Process → Option (ℕ × ℕ)
extent_of p = if p.serial then Some (0, 1) else range_in (command_of p.cdb)

abbrev pub entry_of : Process → Entry
entry_of p = record {
  id = p.id;
  from = p.initiator;
  tag = tag_number p.tag;
  class = class_of p.tag;
  first = first_in (extent_of p);
  count = count_in (extent_of p);
  writes = p.serial || is_write (command_of p.cdb);
}

abbrev pub entries_of : List Process → List Entry
entries_of [] = []
entries_of (p ∷ processes) = entry_of p ∷ entries_of processes

-- ---- classes

abbrev pub is_head : Class → Bool
is_head classes.Head = true
is_head classes.Simple = false
is_head classes.Ordered = false

abbrev pub is_ordered : Class → Bool
is_ordered classes.Ordered = true
is_ordered classes.Simple = false
is_ordered classes.Head = false

-- ---- conflicts: two block ranges overlap, and one is a write; a range without blocks overlaps nothing

abbrev pub overlap : Entry → Entry → Bool
overlap p q =
    (nat_lt 0 p.count && nat_lt 0 q.count) && (nat_lt p.first (q.first + q.count) && nat_lt q.first (p.first + p.count))

abbrev pub conflict : Entry → Entry → Bool
conflict p q = overlap p q && (p.writes || q.writes)

-- The first is of the initiator of the second, and conflicts with it.
abbrev pub holds_back : Entry → Entry → Bool
holds_back q p = q.from == p.from && conflict q p

-- ---- may: the waiting entries stand in order of arrival, and a place is how many stand before

-- The place of the last HEAD OF QUEUE entry that arrived; the first of these stands at this place.
abbrev pub last_head : List Entry → ℕ → Option ℕ → Option ℕ
last_head [] place found = found
last_head (p ∷ waiting) place found = last_head waiting (suc place) (if is_head p.class then Some place else found)

-- An earlier entry of the same initiator conflicts with it.
abbrev pub is_held_back : List Entry → Entry → Bool
is_held_back before p = list_any (λ (q : Entry). holds_back q p) before

abbrev pub has_none_before : List Entry → Bool
has_none_before [] = true
has_none_before (p ∷ before) = false

abbrev pub has_ordered : List Entry → Bool
has_ordered before = list_any (λ (q : Entry). is_ordered q.class) before

-- Without a HEAD OF QUEUE entry: an ORDERED one may run if it is the first; another where no ORDERED one stands before
-- it and no earlier one of its initiator conflicts with it. These stand before it.
abbrev pub may_run_after : List Entry → Entry → Bool
may_run_after before p =
    if is_ordered p.class then has_none_before before else not (has_ordered before) && not (is_held_back before p)

abbrev pub may_run_in_order : List Entry → List Entry → ℕ → Bool
may_run_in_order before [] place = false
may_run_in_order before (p ∷ waiting) zero = may_run_after before p
may_run_in_order before (p ∷ waiting) (suc place) = may_run_in_order (before ++ p ∷ []) waiting place

abbrev pub may_run_by : Option ℕ → List Entry → ℕ → Bool
may_run_by (Some head) waiting place = head == place
may_run_by None waiting place = may_run_in_order [] waiting place

-- The waiting entry at this place may run.
abbrev pub may_run : List Entry → ℕ → Bool
may_run waiting place = may_run_by (last_head waiting 0 None) waiting place

-- The places of the waiting entries that may run, in order of arrival; the first of these stands at this place.
abbrev pub runnable_after : List Entry → ℕ → List Entry → List ℕ
runnable_after before place [] = []
runnable_after before place (p ∷ waiting) =
    if may_run_after before p then place ∷ runnable_after (before ++ p ∷ []) (suc place) waiting
    else runnable_after (before ++ p ∷ []) (suc place) waiting

abbrev pub runnable_by : Option ℕ → List Entry → List ℕ
runnable_by (Some head) waiting = head ∷ []
runnable_by None waiting = runnable_after [] 0 waiting

abbrev pub runnable_places : List Entry → List ℕ
runnable_places waiting = runnable_by (last_head waiting 0 None) waiting

-- ---- the choice: the first of these, or the last

abbrev pub last_of : ℕ → List ℕ → ℕ
last_of place [] = place
last_of place (later ∷ more) = last_of later more

abbrev pub picked_place : Pick → List ℕ → Option ℕ
picked_place pick [] = None
picked_place picks.First (place ∷ more) = Some place
picked_place picks.Last (place ∷ more) = Some (last_of place more)

-- The place of the chosen entry.
abbrev pub chosen_place : Pick → List Entry → Option ℕ
chosen_place pick waiting = picked_place pick (runnable_places waiting)

-- ---- the choice among processes is that among what a queue keeps of them

abbrev pub process_at : List Process → ℕ → Option Process
process_at [] place = None
process_at (p ∷ waiting) zero = Some p
process_at (p ∷ waiting) (suc place) = process_at waiting place

abbrev pub process_at_if : List Process → Option ℕ → Option Process
process_at_if waiting None = None
process_at_if waiting (Some place) = process_at waiting place

abbrev pub choice : Pick → List Process → Option Process
choice pick waiting = process_at_if waiting (chosen_place pick (entries_of waiting))

-- Without this process.
abbrev pub without_process : List Process → ProcId → List Process
without_process [] id = []
without_process (p ∷ waiting) id =
    if same_id p.id id then without_process waiting id else p ∷ without_process waiting id
