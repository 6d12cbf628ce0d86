-- The live commands of a unit, and the waiting and the current process of the plain disk array.
use Rattle.std.specs.Prelude.{ℕ, ◌≡◌, ◌<◌, Bool, true, false, ◌==◌, List, [], ◌∷◌, length, Option, Some, None, ⊤}
use Rattle.std.specs.Prelude.{slice_index_or, if◌then◌else◌}
use Rattle.bus_base.specs.declared.ProcId.{ProcId}
use Rattle.array_model.specs.Order.{entry_of}
use Rattle.array_model.specs.Processes.{Process, same_id}
use Rattle.array_model.specs.Units.{RunningProcess, UnitState}
use Rattle.tag_queue.specs.Queue.{Queued, queued, is_current, has_key, is_of}
use Rattle.tag_queue.specs.declared.those.Those.{Those}
use Rattle.disk_unit.specs.Books.{UnitBooks}

-- A live command, under its key.
pub record LiveCommand : Type 0 where
  pub key : ℕ
  pub process : Process

abbrev pub queued_of : List LiveCommand → List Queued
queued_of [] = []
queued_of (x ∷ live) = queued x.key (entry_of x.process) ∷ queued_of live

-- In order of arrival, but for the current one.
abbrev pub waiting_processes : Option ℕ → List LiveCommand → List Process
waiting_processes current [] = []
waiting_processes current (x ∷ live) =
    if is_current current x.key then waiting_processes current live else x.process ∷ waiting_processes current live

abbrev pub process_under : List LiveCommand → ℕ → Option Process
process_under [] key = None
process_under (x ∷ live) key = if x.key == key then Some x.process else process_under live key

abbrev pub has_process : List LiveCommand → ProcId → Bool
has_process [] id = false
has_process (x ∷ live) id = if same_id x.process.id id then true else has_process live id

-- Each key stands once, and each process.
abbrev pub AreApart : List LiveCommand → Type 0
AreApart [] = ⊤
AreApart (x ∷ live) = (has_key (queued_of live) x.key ≡ false) × (has_process live x.process.id ≡ false) × AreApart live

abbrev pub HaveBlocks : List (List ℕ) → List LiveCommand → Type 0
HaveBlocks blocks [] = ⊤
HaveBlocks blocks (x ∷ live) =
    (x.key < length blocks) × (slice_index_or blocks x.key [] ≡ x.process.cdb) × HaveBlocks blocks live

-- The current command is the current process.
abbrev pub IsCurrentOf : List LiveCommand → Option ℕ → Option RunningProcess → Type 0
IsCurrentOf live None None = ⊤
IsCurrentOf live None (Some r) = ⊥
IsCurrentOf live (Some key) None = ⊥
IsCurrentOf live (Some key) (Some r) = process_under live key ≡ Some r.process

-- What a unit keeps of its commands is what the unit of the array has: these are the live commands.
pub record HasLive (live : List LiveCommand) (u : UnitState) (b : UnitBooks) : Type 0 where
  pub apart : AreApart live
  pub arrived : b.queue.arrived ≡ queued_of live
  pub waiting : u.waiting ≡ waiting_processes b.queue.current live
  pub current : IsCurrentOf live b.queue.current u.current
  pub blocks : HaveBlocks b.blocks live
  pub depth : b.queue.depth ≡ u.depth

-- ---- some of them leave

abbrev pub live_but : (LiveCommand → Bool) → List LiveCommand → List LiveCommand
live_but leaves [] = []
live_but leaves (x ∷ live) = if leaves x then live_but leaves live else x ∷ live_but leaves live

abbrev pub has_this_key : ℕ → LiveCommand → Bool
has_this_key key x = x.key == key

abbrev pub is_one_of : Those → LiveCommand → Bool
is_one_of who x = is_of who (entry_of x.process)
