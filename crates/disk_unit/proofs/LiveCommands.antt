-- The live commands of a unit after each of its calls.
use Rattle.std.proofs.Common.{ℕ, zero, suc, ◌≡◌, ◌≢◌, ◌<◌, ◌+◌, Bool, true, false, List, [], ◌∷◌, ◌++◌, ◌∙◌, refl, sym}
use Rattle.std.proofs.Common.{ap, subst, arith, length, get_or, set, Option, Some, None}
use Rattle.std.specs.Prelude.{if◌then◌else◌, ◌&&◌, ◌||◌, ◌==◌, not, is_some}
use Rattle.std.specs.List.{list_any}
use Rattle.std.proofs.lemmas.Bool.{eqb-true, eqb-false, eq-eqb}
use Rattle.std.proofs.Math.Seq.{lt-length-set}
use Rattle.std.proofs.lemmas.List.{get_or-set_same, get_or-set_other}
use Rattle.bus_base.specs.declared.ProcId.{ProcId}
use Rattle.bus_base.proofs.Tests.{eq_self}
use Rattle.array_model.specs.declared.entries.Entry.{Entry}
use Rattle.array_model.specs.Contents.{Contents, is_reeled}
use Rattle.array_model.specs.Processes.{Process, same_id}
use Rattle.array_model.specs.Order.{entry_of, tag_number, entries_of, chosen_place, process_at, process_at_if}
use Rattle.array_model.specs.Order.{without_process, same_number}
use Rattle.array_model.specs.Units.{RunningProcess, UnitState, with_current}
use Rattle.array_model.specs.scenario.specs.declared.value.Tag.{Tag}
use Rattle.array_model.specs.scenario.specs.declared.value.Tag.TheVariants as tags
use Rattle.array_model.specs.Execution.{Reply}
use Rattle.array_model.specs.Reels.{Reel}
use Rattle.array_model.specs.Steps.{running_if, running_count, process_count, current_with_reply, unit_without}
use Rattle.array_model.specs.Steps.{kept_processes, kept_running, processes_of, unit_processes, has_tag}
use Rattle.array_model.specs.Seats.{unit_with_choice, unit_with_reply, unit_kept, is_told as is_told_at}
use Rattle.tag_queue.specs.Queue.{Queued, queued, is_current, waiting_in, entries_in, has_key, entry_at, without_key}
use Rattle.tag_queue.specs.Queue.{key_at, key_at_if, current_without, is_held, is_of, without_those_of, current_among}
use Rattle.tag_queue.specs.Queue.{has_any}
use Rattle.tag_queue.specs.declared.those.Those.{Those}
use Rattle.tag_queue.specs.declared.those.Those.TheVariants as those
use Rattle.disk_unit.specs.Books.{UnitBooks, is_told, books_with, books_with_current, books_after_choice, books_without}
use Rattle.disk_unit.specs.Books.{books_without_those}
use Rattle.disk_unit.specs.LiveCommands.{LiveCommand, queued_of, waiting_processes, process_under, has_process}
use Rattle.disk_unit.specs.LiveCommands.{AreApart, HaveBlocks, IsCurrentOf, HasLive, live_but, has_this_key, is_one_of}
use Rattle.array_model.proofs.SeatLookups.{same_id_is}
use Rattle.array_model.proofs.SeatReplies.{id_self}
use Rattle.array_model.specs.Order.{class_of, count_in, first_in, range_in}
use Rattle.cdb_codec.specs.Cdb.{command_of}
use Rattle.array_model.specs.scenario.specs.Needs.{is_write}
use Rattle.disk_unit.specs.Held.{extent_by, held_extent, kind_with}
use Rattle.disk_unit.specs.Units.{entry_with}

-- ---- tests

pub eqb_turned : (a b : ℕ) → (a == b) ≡ true → (b == a) ≡ true
eqb_turned a b h = eq-eqb b a (sym (eqb-true a b h))

clash : (a : Bool) → a ≡ true → a ≡ false → true ≡ false
clash a t f = sym t ∙ f

-- ---- look-ups

pub key_found : (live : List LiveCommand) (key : ℕ) (p : Process) → process_under live key ≡ Some p
    → has_key (queued_of live) key ≡ true
key_found [] key p h = cc
key_found (x ∷ live) key p h = go (x.key == key) h (λ k. key_found live key p k)
  where
    go : (y : Bool) → (if y then Some x.process else process_under live key) ≡ Some p
        → (process_under live key ≡ Some p → has_key (queued_of live) key ≡ true)
        → (if y then true else has_key (queued_of live) key) ≡ true
    go true k more = refl
    go false k more = more k

pub process_found : (live : List LiveCommand) (key : ℕ) (p : Process) → process_under live key ≡ Some p
    → has_process live p.id ≡ true
process_found [] key p h = cc
process_found (x ∷ live) key p h = go (x.key == key) h (λ k. process_found live key p k)
  where
    later : (z : Bool) → has_process live p.id ≡ true → (if z then true else has_process live p.id) ≡ true
    later true k = refl
    later false k = k

    go : (y : Bool) → (if y then Some x.process else process_under live key) ≡ Some p
        → (process_under live key ≡ Some p → has_process live p.id ≡ true)
        → (if same_id x.process.id p.id then true else has_process live p.id) ≡ true
    go true k more =
        let e : x.process ≡ p = cc in
        let same : same_id x.process.id p.id ≡ true = subst
        (λ (q : Process). same_id x.process.id q.id ≡ true) e (id_self x.process.id) in
        λ i. if same i then true else has_process live p.id
    go false k more = later (same_id x.process.id p.id) (more k)

-- What the queue keeps of a command is what the array orders it by: at a disk the blocks that it names, and at a tape
-- one that is the same for all.
pub entry_held : (p : Process) (c : Contents) → p.serial ≡ is_reeled c
    → entry_with p.id p.initiator (tag_number p.tag) (class_of p.tag) (held_extent c p.cdb) ≡ entry_of p
entry_held p c e = go c.reel e
  where
    kept : Bool → Entry
    kept serial = record {
      id = p.id;
      from = p.initiator;
      tag = tag_number p.tag;
      class = class_of p.tag;
      first = first_in (if serial then Some (0, 1) else range_in (command_of p.cdb));
      count = count_in (if serial then Some (0, 1) else range_in (command_of p.cdb));
      writes = serial || is_write (command_of p.cdb);
    }

    go : (r : Option Reel) → p.serial ≡ is_some r → entry_with p.id p.initiator
        (tag_number p.tag) (class_of p.tag) (extent_by (kind_with r c.count) p.cdb) ≡ kept p.serial
    go None k = λ i. kept (sym k i)
    go (Some r) k = λ i. kept (sym k i)

pub entry_found : (live : List LiveCommand) (key : ℕ) (p : Process) → process_under live key ≡ Some p
    → entry_at (queued_of live) key ≡ Some (entry_of p)
entry_found [] key p h = cc
entry_found (x ∷ live) key p h = go (x.key == key) h (λ k. entry_found live key p k)
  where
    go : (y : Bool) → (if y then Some x.process else process_under live key) ≡ Some p
        → (process_under live key ≡ Some p → entry_at (queued_of live) key ≡ Some (entry_of p))
        → (if y then Some (entry_of x.process) else entry_at (queued_of live) key) ≡ Some (entry_of p)
    go true k more = let e : x.process ≡ p = cc in λ i. Some (entry_of (e i))
    go false k more = more k

pub block_found : (blocks : List (List ℕ)) (live : List LiveCommand) (key : ℕ) (p : Process) → HaveBlocks blocks live
    → process_under live key ≡ Some p → get_or blocks key [] ≡ p.cdb
block_found blocks [] key p b h = cc
block_found blocks (x ∷ live) key p b h = go (x.key == key) refl h b.1 (λ k. block_found blocks live key p b.2 k)
  where
    go : (y : Bool) → (x.key == key) ≡ y → (if y then Some x.process else process_under live key) ≡ Some p
        → get_or blocks x.key [] ≡ x.process.cdb → (process_under live key ≡ Some p → get_or blocks key [] ≡ p.cdb)
        → get_or blocks key [] ≡ p.cdb
    go true z k own more =
        let e : x.process ≡ p = cc in
        let same : x.key ≡ key = eqb-true x.key key z in
        subst (λ (n : ℕ). get_or blocks n [] ≡ p.cdb) same (own ∙ ap (λ (q : Process). q.cdb) e)
    go false z k own more = more k

-- A command that stands once stands nowhere else.
pub apart_key : (x : LiveCommand) (live : List LiveCommand) (key : ℕ) (p : Process)
    → has_key (queued_of live) x.key ≡ false → process_under live key ≡ Some p → (x.key == key) ≡ false
apart_key x live key p h k = go (x.key == key) refl
  where
    go : (y : Bool) → (x.key == key) ≡ y → y ≡ false
    go true z =
        let same : x.key ≡ key = eqb-true x.key key z in
        clash (has_key (queued_of live) x.key)
        (subst (λ (n : ℕ). has_key (queued_of live) n ≡ true) (sym same) (key_found live key p k)) h
    go false z = refl

apart_id : (x : LiveCommand) (live : List LiveCommand) (key : ℕ) (p : Process) → has_process live x.process.id ≡ false
    → process_under live key ≡ Some p → same_id x.process.id p.id ≡ false
apart_id x live key p h k = go (same_id x.process.id p.id) refl
  where
    go : (y : Bool) → same_id x.process.id p.id ≡ y → y ≡ false
    go true z =
        let same : x.process.id ≡ p.id = same_id_is x.process.id p.id z in
        clash (has_process live x.process.id)
        (subst (λ (n : ProcId). has_process live n ≡ true) (sym same) (process_found live key p k)) h
    go false z = refl

-- ---- what is absent takes nothing away

pub absent_waiting : (live : List LiveCommand) (id : ProcId) (c : Option ℕ) → has_process live id ≡ false
    → without_process (waiting_processes c live) id ≡ waiting_processes c live
absent_waiting [] id c h = refl
absent_waiting (x ∷ live) id c h =
    go (is_current c x.key) (same_id x.process.id id) refl h (λ k. absent_waiting live id c k)
  where
    kept : (y z : Bool) → same_id x.process.id id ≡ z → z ≡ false
        → without_process (waiting_processes c live) id ≡ waiting_processes c live
        → without_process (if y then waiting_processes c live else x.process ∷ waiting_processes c live) id
        ≡ (if y then waiting_processes c live else x.process ∷ waiting_processes c live)
    kept true z e f more = more
    kept false z e f more = (λ i. if (e ∙ f) i then without_process (waiting_processes c live) id
        else x.process ∷ without_process (waiting_processes c live) id)
        ∙ ap (λ (ps : List Process). x.process ∷ ps) more

    go : (y z : Bool) → same_id x.process.id id ≡ z → (if z then true else has_process live id) ≡ false
        → (has_process live id ≡ false → without_process (waiting_processes c live) id ≡ waiting_processes c live)
        → without_process (if y then waiting_processes c live else x.process ∷ waiting_processes c live) id
        ≡ (if y then waiting_processes c live else x.process ∷ waiting_processes c live)
    go y true e k more = cc
    go y false e k more = kept y false e refl (more k)

-- A key that is not live is not current.
absent_current : (live : List LiveCommand) (key : ℕ) → has_key (queued_of live) key ≡ false
    → waiting_processes (Some key) live ≡ waiting_processes None live
absent_current [] key h = refl
absent_current (x ∷ live) key h = go (x.key == key) h (λ k. absent_current live key k)
  where
    go : (y : Bool) → (if y then true else has_key (queued_of live) key) ≡ false
        → (has_key (queued_of live) key ≡ false → waiting_processes (Some key) live ≡ waiting_processes None live)
        → (if y then waiting_processes (Some key) live else x.process ∷ waiting_processes (Some key) live)
        ≡ x.process ∷ waiting_processes None live
    go true k more = cc
    go false k more = ap (λ (ps : List Process). x.process ∷ ps) (more k)

-- ---- those that wait, in the queue and in the array

pub waiting_entries : (c : Option ℕ) (live : List LiveCommand)
    → entries_in (waiting_in c (queued_of live)) ≡ entries_of (waiting_processes c live)
waiting_entries c [] = refl
waiting_entries c (x ∷ live) = go (is_current c x.key) (waiting_entries c live)
  where
    go : (y : Bool) → entries_in (waiting_in c (queued_of live)) ≡ entries_of (waiting_processes c live) → entries_in
        (if y then waiting_in c (queued_of live) else queued x.key (entry_of x.process) ∷ waiting_in c (queued_of live))
        ≡ entries_of (if y then waiting_processes c live else x.process ∷ waiting_processes c live)
    go true more = more
    go false more = ap (λ (es : List Entry). entry_of x.process ∷ es) more

all_wait : (live : List LiveCommand) → waiting_in None (queued_of live) ≡ queued_of live
all_wait [] = refl
all_wait (x ∷ live) = ap (λ (qs : List Queued). queued x.key (entry_of x.process) ∷ qs) (all_wait live)

pub length_queued : (live : List LiveCommand) → length (queued_of live) ≡ length live
length_queued [] = refl
length_queued (x ∷ live) = ap (λ (n : ℕ). suc n) (length_queued live)

-- ---- the choice

abbrev live_at : List LiveCommand → ℕ → Option LiveCommand
live_at [] place = None
live_at (x ∷ live) zero = Some x
live_at (x ∷ live) (suc place) = live_at live place

abbrev key_if : Option LiveCommand → Option ℕ
key_if None = None
key_if (Some x) = Some x.key

abbrev process_if : Option LiveCommand → Option Process
process_if None = None
process_if (Some x) = Some x.process

key_there : (live : List LiveCommand) (place : ℕ) → key_at (queued_of live) place ≡ key_if (live_at live place)
key_there [] place = refl
key_there (x ∷ live) zero = refl
key_there (x ∷ live) (suc place) = key_there live place

process_there : (live : List LiveCommand) (place : ℕ)
    → process_at (waiting_processes None live) place ≡ process_if (live_at live place)
process_there [] place = refl
process_there (x ∷ live) zero = refl
process_there (x ∷ live) (suc place) = process_there live place

found_there : (live : List LiveCommand) (place : ℕ) (x : LiveCommand) → AreApart live → live_at live place ≡ Some x
    → process_under live x.key ≡ Some x.process
found_there [] place x a h = cc
found_there (y ∷ live) zero x a h =
    let e : y ≡ x = cc in
    let self : (y.key == y.key) ≡ true = eq_self y.key in
    subst (λ (z : LiveCommand). process_under (y ∷ live) z.key ≡ Some z.process) e
    (λ i. if self i then Some y.process else process_under live y.key)
found_there (y ∷ live) (suc place) x a h =
    let rest : process_under live x.key ≡ Some x.process = found_there live place x a.2 h in
    let other : (y.key == x.key) ≡ false = apart_key y live x.key x.process a.0 rest in
    (λ i. if other i then Some y.process else process_under live x.key) ∙ rest

starts : (live : List LiveCommand) (place : ℕ) (x : LiveCommand) → AreApart live → live_at live place ≡ Some x
    → without_process (waiting_processes None live) x.process.id ≡ waiting_processes (Some x.key) live
starts [] place x a h = cc
starts (y ∷ live) zero x a h =
    let e : y ≡ x = cc in
    let key : (y.key == y.key) ≡ true = eq_self y.key in
    let id : same_id y.process.id y.process.id ≡ true = id_self y.process.id in
    subst (λ (z : LiveCommand). without_process (waiting_processes None (y ∷ live)) z.process.id
    ≡ waiting_processes (Some z.key) (y ∷ live)) e
    ((λ i. if id i then without_process (waiting_processes None live) y.process.id
    else y.process ∷ without_process (waiting_processes None live) y.process.id)
    ∙ absent_waiting live y.process.id None a.1 ∙ sym (absent_current live y.key a.0)
    ∙ (λ i. if sym key i then waiting_processes (Some y.key) live else y.process ∷ waiting_processes (Some y.key) live))
starts (y ∷ live) (suc place) x a h =
    let there : process_under live x.key ≡ Some x.process = found_there live place x a.2 h in
    let key : (y.key == x.key) ≡ false = apart_key y live x.key x.process a.0 there in
    let id : same_id y.process.id x.process.id ≡ false = apart_id y live x.key x.process a.1 there in
    (λ i. if id i then without_process (waiting_processes None live) x.process.id
    else y.process ∷ without_process (waiting_processes None live) x.process.id)
    ∙ ap (λ (ps : List Process). y.process ∷ ps) (starts live place x a.2 h)
    ∙ (λ i. if sym key i then waiting_processes (Some x.key) live else y.process ∷ waiting_processes (Some x.key) live)

-- ---- one leaves

dropped_key : (live : List LiveCommand) (key : ℕ)
    → queued_of (live_but (has_this_key key) live) ≡ without_key (queued_of live) key
dropped_key [] key = refl
dropped_key (x ∷ live) key = go (x.key == key) (dropped_key live key)
  where
    go : (y : Bool) → queued_of (live_but (has_this_key key) live) ≡ without_key (queued_of live) key
        → queued_of (if y then live_but (has_this_key key) live else x ∷ live_but (has_this_key key) live)
        ≡ (if y then without_key (queued_of live) key
        else queued x.key (entry_of x.process) ∷ without_key (queued_of live) key)
    go true more = more
    go false more = ap (λ (qs : List Queued). queued x.key (entry_of x.process) ∷ qs) more

absent_stays : (live : List LiveCommand) (key : ℕ) → has_key (queued_of live) key ≡ false
    → live_but (has_this_key key) live ≡ live
absent_stays [] key h = refl
absent_stays (x ∷ live) key h = go (x.key == key) h (λ k. absent_stays live key k)
  where
    go : (y : Bool) → (if y then true else has_key (queued_of live) key) ≡ false
        → (has_key (queued_of live) key ≡ false → live_but (has_this_key key) live ≡ live)
        → (if y then live_but (has_this_key key) live else x ∷ live_but (has_this_key key) live) ≡ x ∷ live
    go true k more = cc
    go false k more = ap (λ (l : List LiveCommand). x ∷ l) (more k)

-- Whichever leave, the others stay apart and keep their blocks.
key_gone : (leaves : LiveCommand → Bool) (live : List LiveCommand) (key : ℕ) → has_key (queued_of live) key ≡ false
    → has_key (queued_of (live_but leaves live)) key ≡ false
key_gone leaves [] key h = refl
key_gone leaves (x ∷ live) key h = go (leaves x) (x.key == key) refl h (λ k. key_gone leaves live key k)
  where
    go : (y z : Bool) → (x.key == key) ≡ z → (if z then true else has_key (queued_of live) key) ≡ false
        → (has_key (queued_of live) key ≡ false → has_key (queued_of (live_but leaves live)) key ≡ false)
        → has_key (queued_of (if y then live_but leaves live else x ∷ live_but leaves live)) key ≡ false
    go y true e k more = cc
    go true false e k more = more k
    go false false e k more = (λ i. if e i then true else has_key (queued_of (live_but leaves live)) key) ∙ more k

process_gone : (leaves : LiveCommand → Bool) (live : List LiveCommand) (id : ProcId) → has_process live id ≡ false
    → has_process (live_but leaves live) id ≡ false
process_gone leaves [] id h = refl
process_gone leaves (x ∷ live) id h =
    go (leaves x) (same_id x.process.id id) refl h (λ k. process_gone leaves live id k)
  where
    go : (y z : Bool) → same_id x.process.id id ≡ z → (if z then true else has_process live id) ≡ false
        → (has_process live id ≡ false → has_process (live_but leaves live) id ≡ false)
        → has_process (if y then live_but leaves live else x ∷ live_but leaves live) id ≡ false
    go y true e k more = cc
    go true false e k more = more k
    go false false e k more = (λ i. if e i then true else has_process (live_but leaves live) id) ∙ more k

pub apart_but : (leaves : LiveCommand → Bool) (live : List LiveCommand) → AreApart live
    → AreApart (live_but leaves live)
apart_but leaves [] a = tt
apart_but leaves (x ∷ live) a = go (leaves x) (apart_but leaves live a.2)
  where
    go : (y : Bool) → AreApart (live_but leaves live)
        → AreApart (if y then live_but leaves live else x ∷ live_but leaves live)
    go true more = more
    go false more = (key_gone leaves live x.key a.0, process_gone leaves live x.process.id a.1, more)

pub blocks_but : (leaves : LiveCommand → Bool) (blocks : List (List ℕ)) (live : List LiveCommand)
    → HaveBlocks blocks live → HaveBlocks blocks (live_but leaves live)
blocks_but leaves blocks [] b = tt
blocks_but leaves blocks (x ∷ live) b = go (leaves x) (blocks_but leaves blocks live b.2)
  where
    go : (y : Bool) → HaveBlocks blocks (live_but leaves live)
        → HaveBlocks blocks (if y then live_but leaves live else x ∷ live_but leaves live)
    go true more = more
    go false more = (b.0, b.1, more)

-- The current one leaves.
rest_waits : (live : List LiveCommand) (key : ℕ)
    → waiting_processes (Some key) live ≡ waiting_processes None (live_but (has_this_key key) live)
rest_waits [] key = refl
rest_waits (x ∷ live) key = go (x.key == key) (rest_waits live key)
  where
    go : (y : Bool) → waiting_processes (Some key) live ≡ waiting_processes None (live_but (has_this_key key) live)
        → (if y then waiting_processes (Some key) live else x.process ∷ waiting_processes (Some key) live)
        ≡ waiting_processes None (if y then live_but (has_this_key key) live else x ∷ live_but (has_this_key key) live)
    go true more = more
    go false more = ap (λ (ps : List Process). x.process ∷ ps) more

current_apart : (live : List LiveCommand) (key : ℕ) (p : Process) → AreApart live → process_under live key ≡ Some p
    → without_process (waiting_processes (Some key) live) p.id ≡ waiting_processes (Some key) live
current_apart [] key p a h = cc
current_apart (x ∷ live) key p a h = go (x.key == key) h (λ k. current_apart live key p a.2 k)
  where
    go : (y : Bool) → (if y then Some x.process else process_under live key) ≡ Some p → (process_under live key ≡ Some p
        → without_process (waiting_processes (Some key) live) p.id ≡ waiting_processes (Some key) live)
        → without_process
        (if y then waiting_processes (Some key) live else x.process ∷ waiting_processes (Some key) live) p.id
        ≡ (if y then waiting_processes (Some key) live else x.process ∷ waiting_processes (Some key) live)
    go true k more =
        let e : x.process ≡ p = cc in
        subst (λ (q : Process). without_process (waiting_processes (Some key) live) q.id
        ≡ waiting_processes (Some key) live) e (absent_waiting live x.process.id (Some key) a.1)
    go false k more =
        let id : same_id x.process.id p.id ≡ false = apart_id x live key p a.1 k in
        (λ i. if id i then without_process (waiting_processes (Some key) live) p.id
        else x.process ∷ without_process (waiting_processes (Some key) live) p.id)
        ∙ ap (λ (ps : List Process). x.process ∷ ps) (more k)

-- Another one leaves.
waiting_left : (live : List LiveCommand) (key : ℕ) (p : Process) (c : Option ℕ)
    → AreApart live → process_under live key ≡ Some p → is_current c key ≡ false
    → without_process (waiting_processes c live) p.id ≡ waiting_processes c (live_but (has_this_key key) live)
waiting_left [] key p c a h f = cc
waiting_left (x ∷ live) key p c a h f = go (x.key == key) refl h (λ k. waiting_left live key p c a.2 k f)
  where
    first : (z : Bool) → is_current c x.key ≡ z → z ≡ false
        → without_process (if z then waiting_processes c live else x.process ∷ waiting_processes c live) x.process.id
        ≡ waiting_processes c live
    first true e g = cc
    first false e g = (λ i. if id_self x.process.id i then without_process (waiting_processes c live) x.process.id
        else x.process ∷ without_process (waiting_processes c live) x.process.id)
        ∙ absent_waiting live x.process.id c a.1

    later : (z : Bool) → same_id x.process.id p.id ≡ false
        → without_process (waiting_processes c live) p.id ≡ waiting_processes c (live_but (has_this_key key) live)
        → without_process (if z then waiting_processes c live else x.process ∷ waiting_processes c live) p.id
        ≡ (if z then waiting_processes c (live_but (has_this_key key) live)
        else x.process ∷ waiting_processes c (live_but (has_this_key key) live))
    later true id more = more
    later false id more = (λ i. if id i then without_process (waiting_processes c live) p.id
        else x.process ∷ without_process (waiting_processes c live) p.id)
        ∙ ap (λ (ps : List Process). x.process ∷ ps) more

    go : (y : Bool) → (x.key == key) ≡ y → (if y then Some x.process else process_under live key) ≡ Some p
        → (process_under live key ≡ Some p
        → without_process (waiting_processes c live) p.id ≡ waiting_processes c (live_but (has_this_key key) live))
        → without_process
        (if is_current c x.key then waiting_processes c live else x.process ∷ waiting_processes c live) p.id
        ≡ waiting_processes c (if y then live_but (has_this_key key) live else x ∷ live_but (has_this_key key) live)
    go true z k more =
        let e : x.process ≡ p = cc in
        let same : x.key ≡ key = eqb-true x.key key z in
        let stay : live_but (has_this_key key) live ≡ live = absent_stays live key
        (subst (λ (n : ℕ). has_key (queued_of live) n ≡ false) same a.0) in
        subst (λ (q : Process). without_process
        (if is_current c x.key then waiting_processes c live else x.process ∷ waiting_processes c live) q.id
        ≡ waiting_processes c live) e
        (first (is_current c x.key) refl (subst (λ (n : ℕ). is_current c n ≡ false) (sym same) f))
        ∙ (λ i. waiting_processes c (sym stay i))
    go false z k more = later (is_current c x.key) (apart_id x live key p a.1 k) (more k)

process_stays : (live : List LiveCommand) (key other : ℕ) → (other == key) ≡ false
    → process_under (live_but (has_this_key key) live) other ≡ process_under live other
process_stays [] key other h = refl
process_stays (x ∷ live) key other h = go (x.key == key) refl (x.key == other) refl (process_stays live key other h)
  where
    go : (y : Bool) → (x.key == key) ≡ y → (z : Bool) → (x.key == other) ≡ z
        → process_under (live_but (has_this_key key) live) other ≡ process_under live other
        → process_under (if y then live_but (has_this_key key) live else x ∷ live_but (has_this_key key) live) other
        ≡ (if z then Some x.process else process_under live other)
    go true e true f more =
        let one : x.key ≡ key = eqb-true x.key key e in
        let two : x.key ≡ other = eqb-true x.key other f in
        let both : (other == key) ≡ true = eq-eqb other key (sym two ∙ one) in
        let bad : true ≡ false = sym both ∙ h in cc
    go true e false f more = more
    go false e true f more =
        (λ i. if f i then Some x.process else process_under (live_but (has_this_key key) live) other)
    go false e false f more =
        (λ i. if f i then Some x.process else process_under (live_but (has_this_key key) live) other) ∙ more

apart_processes : (live : List LiveCommand) (one other : ℕ) (p q : Process) → AreApart live
    → process_under live one ≡ Some p → process_under live other ≡ Some q → (other == one) ≡ false
    → same_id q.id p.id ≡ false
apart_processes [] one other p q a h k f = cc
apart_processes (x ∷ live) one other p q a h k f =
    go (x.key == one) refl (x.key == other) refl h k (λ m n. apart_processes live one other p q a.2 m n f)
  where
    turned : (y : ProcId) (z : ProcId) → same_id y z ≡ false → same_id z y ≡ false
    turned y z e = turn (same_id z y) refl
      where
        turn : (w : Bool) → same_id z y ≡ w → w ≡ false
        turn true g =
            let same : z ≡ y = same_id_is z y g in
            clash (same_id y z) (subst (λ (u : ProcId). same_id u z ≡ true) same (id_self z)) e
        turn false g = refl

    go : (y : Bool) → (x.key == one) ≡ y → (z : Bool) → (x.key == other) ≡ z
        → (if y then Some x.process else process_under live one) ≡ Some p
        → (if z then Some x.process else process_under live other) ≡ Some q
        → (process_under live one ≡ Some p → process_under live other ≡ Some q → same_id q.id p.id ≡ false)
        → same_id q.id p.id ≡ false
    go true e true g m n more =
        let i : x.key ≡ one = eqb-true x.key one e in
        let j : x.key ≡ other = eqb-true x.key other g in
        let both : (other == one) ≡ true = eq-eqb other one (sym j ∙ i) in
        let bad : true ≡ false = sym both ∙ f in cc
    go true e false g m n more =
        let own : x.process ≡ p = cc in
        subst (λ (u : Process). same_id q.id u.id ≡ false) own
        (turned x.process.id q.id (apart_id x live other q a.1 n))
    go false e true g m n more =
        let own : x.process ≡ q = cc in
        subst (λ (u : Process). same_id u.id p.id ≡ false) own (apart_id x live one p a.1 m)
    go false e false g m n more = more m n

-- ---- those of one initiator, those of one tag, or all leave

dropped_those : (who : Those) (live : List LiveCommand)
    → queued_of (live_but (is_one_of who) live) ≡ without_those_of who (queued_of live)
dropped_those who [] = refl
dropped_those who (x ∷ live) = go (is_of who (entry_of x.process)) (dropped_those who live)
  where
    go : (y : Bool) → queued_of (live_but (is_one_of who) live) ≡ without_those_of who (queued_of live)
        → queued_of (if y then live_but (is_one_of who) live else x ∷ live_but (is_one_of who) live)
        ≡ (if y then without_those_of who (queued_of live)
        else queued x.key (entry_of x.process) ∷ without_those_of who (queued_of live))
    go true more = more
    go false more = ap (λ (qs : List Queued). queued x.key (entry_of x.process) ∷ qs) more

those_leave : (who : Those) (drops : Process → Bool)
    → ((p : Process) → is_of who (entry_of p) ≡ drops p) → (c : Option ℕ) (live : List LiveCommand)
    → kept_processes drops (waiting_processes c live) ≡ waiting_processes c (live_but (is_one_of who) live)
those_leave who drops same c [] = refl
those_leave who drops same c (x ∷ live) =
    go (is_current c x.key) refl (is_of who (entry_of x.process)) (same x.process) (those_leave who drops same c live)
  where
    go : (y : Bool) → is_current c x.key ≡ y → (z : Bool) → z ≡ drops x.process
        → kept_processes drops (waiting_processes c live) ≡ waiting_processes c (live_but (is_one_of who) live)
        → kept_processes drops (if y then waiting_processes c live else x.process ∷ waiting_processes c live)
        ≡ waiting_processes c (if z then live_but (is_one_of who) live else x ∷ live_but (is_one_of who) live)
    go true f true e more = more
    go true f false e more = more ∙ (λ i. if sym f i then waiting_processes c (live_but (is_one_of who) live)
        else x.process ∷ waiting_processes c (live_but (is_one_of who) live))
    go false f true e more = (λ i. if sym e i then kept_processes drops (waiting_processes c live)
        else x.process ∷ kept_processes drops (waiting_processes c live))
        ∙ more
    go false f false e more = (λ i. if sym e i then kept_processes drops (waiting_processes c live)
        else x.process ∷ kept_processes drops (waiting_processes c live))
        ∙ ap (λ (ps : List Process). x.process ∷ ps) more
        ∙ (λ i. if sym f i then waiting_processes c (live_but (is_one_of who) live)
        else x.process ∷ waiting_processes c (live_but (is_one_of who) live))

-- One that has left is no longer current.
among_waits : (live : List LiveCommand) (c : Option ℕ)
    → waiting_processes (current_among (queued_of live) c) live ≡ waiting_processes c live
among_waits live None = refl
among_waits live (Some key) = go (has_key (queued_of live) key) refl
  where
    go : (y : Bool) → has_key (queued_of live) key ≡ y
        → waiting_processes (if y then Some key else None) live ≡ waiting_processes (Some key) live
    go true e = refl
    go false e = sym (absent_current live key e)

absent_process : (live : List LiveCommand) (key : ℕ) → has_key (queued_of live) key ≡ false
    → process_under live key ≡ None
absent_process [] key h = refl
absent_process (x ∷ live) key h = go (x.key == key) h (λ k. absent_process live key k)
  where
    go : (y : Bool) → (if y then true else has_key (queued_of live) key) ≡ false
        → (has_key (queued_of live) key ≡ false → process_under live key ≡ None)
        → (if y then Some x.process else process_under live key) ≡ None
    go true k more = cc
    go false k more = more k

process_after : (who : Those) (drops : Process → Bool) → ((p : Process) → is_of who (entry_of p) ≡ drops p)
    → (live : List LiveCommand) (key : ℕ) (p : Process) → AreApart live → process_under live key ≡ Some p
    → process_under (live_but (is_one_of who) live) key ≡ (if drops p then None else Some p)
process_after who drops same [] key p a h = cc
process_after who drops same (x ∷ live) key p a h = go (x.key == key) refl (is_of who (entry_of x.process))
    (same x.process) h (λ k. process_after who drops same live key p a.2 k)
  where
    go : (y : Bool) → (x.key == key) ≡ y → (z : Bool) → z ≡ drops x.process
        → (if y then Some x.process else process_under live key) ≡ Some p → (process_under live key ≡ Some p
        → process_under (live_but (is_one_of who) live) key ≡ (if drops p then None else Some p))
        → process_under (if z then live_but (is_one_of who) live else x ∷ live_but (is_one_of who) live) key
        ≡ (if drops p then None else Some p)
    go true e true f k more =
        let own : x.process ≡ p = cc in
        let at : x.key ≡ key = eqb-true x.key key e in
        absent_process (live_but (is_one_of who) live) key
        (key_gone (is_one_of who) live key (subst (λ (n : ℕ). has_key (queued_of live) n ≡ false) at a.0))
        ∙ subst (λ (q : Process). None ≡ (if drops q then None else Some q)) own
        (λ i. if f i then None else Some x.process)
    go true e false f k more =
        let own : x.process ≡ p = cc in
        (λ i. if e i then Some x.process else process_under (live_but (is_one_of who) live) key)
        ∙ subst (λ (q : Process). Some x.process ≡ (if drops q then None else Some q)) own
        (λ i. if f i then None else Some x.process)
    go false e true f k more = more k
    go false e false f k more =
        (λ i. if e i then Some x.process else process_under (live_but (is_one_of who) live) key) ∙ more k

absurd_key : {A : Type 0} (live : List LiveCommand) (key : ℕ) → has_key (queued_of live) key ≡ true
    → process_under live key ≡ None → A
absurd_key [] key h k = cc
absurd_key (x ∷ live) key h k = go (x.key == key) h k (λ m n. absurd_key live key m n)
  where
    go : {A : Type 0} (y : Bool) → (if y then true else has_key (queued_of live) key) ≡ true
        → (if y then Some x.process else process_under live key) ≡ None
        → (has_key (queued_of live) key ≡ true → process_under live key ≡ None → A) → A
    go true m n more = cc
    go false m n more = more m n

current_after : (who : Those) (drops : Process → Bool) → ((p : Process) → is_of who (entry_of p) ≡ drops p)
    → (live : List LiveCommand) → AreApart live → (c : Option ℕ) (r : Option RunningProcess) → IsCurrentOf live c r
    → IsCurrentOf (live_but (is_one_of who) live) (current_among (queued_of (live_but (is_one_of who) live)) c)
    (kept_running drops r)
current_after who drops same live a None None h = tt
current_after who drops same live a None (Some r) h = absurd h
current_after who drops same live a (Some key) None h = absurd h
current_after who drops same live a (Some key) (Some r) h =
    go (drops r.process) (process_after who drops same live key r.process a h)
  where
    left : List LiveCommand
    left = live_but (is_one_of who) live

    gone : (y : Bool) → has_key (queued_of left) key ≡ y → process_under left key ≡ None
        → IsCurrentOf left (if y then Some key else None) None
    gone true e k = absurd_key left key e k
    gone false e k = tt

    there : (y : Bool) → has_key (queued_of left) key ≡ y → process_under left key ≡ Some r.process
        → IsCurrentOf left (if y then Some key else None) (Some r)
    there true e k = k
    there false e k = let bad : true ≡ false = sym (key_found left key r.process k) ∙ e in cc

    go : (y : Bool) → process_under left key ≡ (if y then None else Some r.process)
        → IsCurrentOf left (current_among (queued_of left) (Some key)) (if y then None else Some r)
    go true k = gone (has_key (queued_of left) key) refl k
    go false k = there (has_key (queued_of left) key) refl k

-- ---- the calls of a unit

length_waiting : (live : List LiveCommand) → length (waiting_processes None live) ≡ length live
length_waiting [] = refl
length_waiting (x ∷ live) = ap (λ (n : ℕ). suc n) (length_waiting live)

length_current : (live : List LiveCommand) (key : ℕ) (p : Process) → AreApart live → process_under live key ≡ Some p
    → length (waiting_processes (Some key) live) + 1 ≡ length live
length_current [] key p a h = cc
length_current (x ∷ live) key p a h = go (x.key == key) refl h (λ k. length_current live key p a.2 k)
  where
    go : (y : Bool) → (x.key == key) ≡ y → (if y then Some x.process else process_under live key) ≡ Some p
        → (process_under live key ≡ Some p → length (waiting_processes (Some key) live) + 1 ≡ length live)
        → length (if y then waiting_processes (Some key) live else x.process ∷ waiting_processes (Some key) live) + 1
        ≡ suc (length live)
    go true e k more =
        let at : x.key ≡ key = eqb-true x.key key e in
        let none : waiting_processes (Some key) live ≡ waiting_processes None live = absent_current live key
        (subst (λ (n : ℕ). has_key (queued_of live) n ≡ false) at a.0) in
        let all : length (waiting_processes (Some key) live) ≡ length live = (λ i. length (none i))
        ∙ length_waiting live in
        omega arith
    go false e k more = let rest : length (waiting_processes (Some key) live) + 1 ≡ length live = more k in omega arith

counted : (live : List LiveCommand) → AreApart live → (c : Option ℕ) (r : Option RunningProcess) → IsCurrentOf live c r
    → length (waiting_processes c live) + running_count r ≡ length live
counted live a None None h =
    let all : length (waiting_processes None live) ≡ length live = length_waiting live in
    omega arith
counted live a None (Some r) h = absurd h
counted live a (Some key) None h = absurd h
counted live a (Some key) (Some r) h = length_current live key r.process a h

pub room_is : (live : List LiveCommand) (u : UnitState) (b : UnitBooks) → HasLive live u b
    → process_count u ≡ length b.queue.arrived
room_is live u b h =
    (λ i. length (h.waiting i) + running_count u.current)
    ∙ counted live h.apart b.queue.current u.current h.current
    ∙ sym (length_queued live)
    ∙ (λ i. length (sym h.arrived i))

-- One more arrives.
key_fresh : (live : List LiveCommand) (x : LiveCommand) (key : ℕ) → has_key (queued_of live) key ≡ false
    → (x.key == key) ≡ false → has_key (queued_of (live ++ x ∷ [])) key ≡ false
key_fresh [] x key h f = (λ i. if f i then true else false)
key_fresh (y ∷ live) x key h f = go (y.key == key) h (λ k. key_fresh live x key k f)
  where
    go : (z : Bool) → (if z then true else has_key (queued_of live) key) ≡ false
        → (has_key (queued_of live) key ≡ false → has_key (queued_of (live ++ x ∷ [])) key ≡ false)
        → (if z then true else has_key (queued_of (live ++ x ∷ [])) key) ≡ false
    go true k more = cc
    go false k more = more k

process_fresh : (live : List LiveCommand) (x : LiveCommand) (id : ProcId) → has_process live id ≡ false
    → same_id x.process.id id ≡ false → has_process (live ++ x ∷ []) id ≡ false
process_fresh [] x id h f = (λ i. if f i then true else false)
process_fresh (y ∷ live) x id h f = go (same_id y.process.id id) h (λ k. process_fresh live x id k f)
  where
    go : (z : Bool) → (if z then true else has_process live id) ≡ false
        → (has_process live id ≡ false → has_process (live ++ x ∷ []) id ≡ false)
        → (if z then true else has_process (live ++ x ∷ []) id) ≡ false
    go true k more = cc
    go false k more = more k

first_key : (y : LiveCommand) (live : List LiveCommand) (key : ℕ) → has_key (queued_of (y ∷ live)) key ≡ false
    → ((key == y.key) ≡ false) × (has_key (queued_of live) key ≡ false)
first_key y live key h = go (y.key == key) refl h
  where
    turned : (z : Bool) → (key == y.key) ≡ z → (y.key == key) ≡ false → z ≡ false
    turned true e f =
        let same : (y.key == key) ≡ true = eqb_turned key y.key e in
        let bad : true ≡ false = sym same ∙ f in
        cc
    turned false e f = refl

    go : (z : Bool) → (y.key == key) ≡ z → (if z then true else has_key (queued_of live) key) ≡ false
        → ((key == y.key) ≡ false) × (has_key (queued_of live) key ≡ false)
    go true e k = cc
    go false e k = (turned (key == y.key) refl e, k)

first_process : (y : LiveCommand) (live : List LiveCommand) (id : ProcId) → has_process (y ∷ live) id ≡ false
    → (same_id id y.process.id ≡ false) × (has_process live id ≡ false)
first_process y live id h = go (same_id y.process.id id) refl h
  where
    turned : (z : Bool) → same_id id y.process.id ≡ z → same_id y.process.id id ≡ false → z ≡ false
    turned true e f =
        let same : id ≡ y.process.id = same_id_is id y.process.id e in
        clash (same_id y.process.id id)
        (subst (λ (u : ProcId). same_id y.process.id u ≡ true) (sym same) (id_self y.process.id)) f
    turned false e f = refl

    go : (z : Bool) → same_id y.process.id id ≡ z → (if z then true else has_process live id) ≡ false
        → (same_id id y.process.id ≡ false) × (has_process live id ≡ false)
    go true e k = cc
    go false e k = (turned (same_id id y.process.id) refl e, k)

apart_more : (live : List LiveCommand) (x : LiveCommand) → AreApart live → has_key (queued_of live) x.key ≡ false
    → has_process live x.process.id ≡ false → AreApart (live ++ x ∷ [])
apart_more [] x a h k = (refl, refl, tt)
apart_more (y ∷ live) x a h k =
    let one : ((x.key == y.key) ≡ false) × (has_key (queued_of live) x.key ≡ false) = first_key y live x.key h in
    let two : (same_id x.process.id y.process.id ≡ false) × (has_process live x.process.id ≡ false) = first_process
    y live x.process.id k in
    (key_fresh live x y.key a.0 one.0, process_fresh live x y.process.id a.1 two.0, apart_more live x a.2 one.1 two.1)

queued_more : (live : List LiveCommand) (x : LiveCommand)
    → queued_of (live ++ x ∷ []) ≡ queued_of live ++ queued x.key (entry_of x.process) ∷ []
queued_more [] x = refl
queued_more (y ∷ live) x = ap (λ (qs : List Queued). queued y.key (entry_of y.process) ∷ qs) (queued_more live x)

waiting_more : (c : Option ℕ) (live : List LiveCommand) (x : LiveCommand) → is_current c x.key ≡ false
    → waiting_processes c (live ++ x ∷ []) ≡ waiting_processes c live ++ x.process ∷ []
waiting_more c [] x f = (λ i. if f i then [] else x.process ∷ [])
waiting_more c (y ∷ live) x f = go (is_current c y.key) (waiting_more c live x f)
  where
    go : (z : Bool) → waiting_processes c (live ++ x ∷ []) ≡ waiting_processes c live ++ x.process ∷ []
        → (if z then waiting_processes c (live ++ x ∷ []) else y.process ∷ waiting_processes c (live ++ x ∷ []))
        ≡ (if z then waiting_processes c live else y.process ∷ waiting_processes c live) ++ x.process ∷ []
    go true more = more
    go false more = ap (λ (ps : List Process). y.process ∷ ps) more

found_more : (live : List LiveCommand) (x : LiveCommand) (key : ℕ) (p : Process) → process_under live key ≡ Some p
    → process_under (live ++ x ∷ []) key ≡ Some p
found_more [] x key p h = cc
found_more (y ∷ live) x key p h = go (y.key == key) h (λ k. found_more live x key p k)
  where
    go : (z : Bool) → (if z then Some y.process else process_under live key) ≡ Some p
        → (process_under live key ≡ Some p → process_under (live ++ x ∷ []) key ≡ Some p)
        → (if z then Some y.process else process_under (live ++ x ∷ []) key) ≡ Some p
    go true k more = k
    go false k more = more k

current_more : (live : List LiveCommand) (x : LiveCommand) (c : Option ℕ) (r : Option RunningProcess)
    → IsCurrentOf live c r → IsCurrentOf (live ++ x ∷ []) c r
current_more live x None None h = tt
current_more live x None (Some r) h = absurd h
current_more live x (Some key) None h = absurd h
current_more live x (Some key) (Some r) h = found_more live x key r.process h

-- A fresh key is not the current one.
current_other : (live : List LiveCommand) (key : ℕ) → has_key (queued_of live) key ≡ false
    → (c : Option ℕ) (r : Option RunningProcess) → IsCurrentOf live c r → is_current c key ≡ false
current_other live key h None r k = refl
current_other live key h (Some now) None k = absurd k
current_other live key h (Some now) (Some r) k = go (key == now) refl
  where
    go : (y : Bool) → (key == now) ≡ y → y ≡ false
    go true e =
        let same : key ≡ now = eqb-true key now e in
        clash (has_key (queued_of live) key)
        (subst (λ (n : ℕ). has_key (queued_of live) n ≡ true) (sym same) (key_found live now r.process k)) h
    go false e = refl

differ : (a b : ℕ) → (b == a) ≡ false → a ≢ b
differ a b h = λ e. eqb-false b a h (sym e)

blocks_set : (blocks : List (List ℕ)) (live : List LiveCommand) (key : ℕ) (cdb : List ℕ)
    → has_key (queued_of live) key ≡ false → HaveBlocks blocks live → HaveBlocks (set blocks key cdb) live
blocks_set blocks [] key cdb h b = tt
blocks_set blocks (x ∷ live) key cdb h b =
    let apart : ((key == x.key) ≡ false) × (has_key (queued_of live) key ≡ false) = first_key x live key h in
    let other : x.key ≢ key = differ x.key key apart.0 in (
      lt-length-set blocks key cdb b.0,
      get_or-set_other blocks key x.key cdb [] other ∙ b.1,
      blocks_set blocks live key cdb apart.1 b.2,
    )

blocks_more : (blocks : List (List ℕ)) (live : List LiveCommand) (x : LiveCommand) → HaveBlocks blocks live
    → x.key < length blocks → get_or blocks x.key [] ≡ x.process.cdb → HaveBlocks blocks (live ++ x ∷ [])
blocks_more blocks [] x b l e = (l, e, tt)
blocks_more blocks (y ∷ live) x b l e = (b.0, b.1, blocks_more blocks live x b.2 l e)

pub accepted : (live : List LiveCommand) (u : UnitState) (b : UnitBooks) (key : ℕ) (p : Process) → HasLive live u b
    → has_key b.queue.arrived key ≡ false → has_process live p.id ≡ false → key < length b.blocks
    → HasLive (live ++ record { key = key; process = p } ∷ []) (record u { waiting = u.waiting ++ p ∷ [] })
    (books_with b key (entry_of p) p.cdb)
accepted live u b key p h k f l =
    let x : LiveCommand = record { key = key; process = p } in
    let fresh : has_key (queued_of live) key ≡ false = subst
    (λ (qs : List Queued). has_key qs key ≡ false) h.arrived k in
    record {
      apart = apart_more live x h.apart fresh f;
      arrived = (λ i. h.arrived i ++ queued key (entry_of p) ∷ []) ∙ sym (queued_more live x);
      waiting = (λ i. h.waiting i ++ p ∷ []) ∙ sym
          (waiting_more b.queue.current live x (current_other live key fresh b.queue.current u.current h.current));
      current = current_more live x b.queue.current u.current h.current;
      blocks = blocks_more (set b.blocks key p.cdb) live x (blocks_set b.blocks live key p.cdb fresh h.blocks)
          (lt-length-set b.blocks key p.cdb l) (get_or-set_same b.blocks key p.cdb [] l);
      depth = h.depth;
    }

-- One of them is chosen.
abbrev books_at : UnitBooks → Option ℕ → UnitBooks
books_at b c = record b { queue = record b.queue { current = c } }

abbrev unit_at : UnitState → Option RunningProcess → UnitState
unit_at u r = record u { current = r }

started : (live : List LiveCommand) (u : UnitState) (b : UnitBooks) (place : ℕ)
    → HasLive live (unit_at u None) (books_at b None) → (x : Option LiveCommand) → live_at live place ≡ x
    → HasLive live (with_current (unit_at u None) (process_if x)) (books_with_current (books_at b None) (key_if x))
started live u b place h None e = h
started live u b place h (Some x) e = record {
  apart = h.apart;
  arrived = h.arrived;
  waiting = (λ i. without_process (h.waiting i) x.process.id) ∙ starts live place x h.apart e;
  current = found_there live place x h.apart e;
  blocks = h.blocks;
  depth = h.depth;
}

by_place : (live : List LiveCommand) (u : UnitState) (b : UnitBooks)
    → HasLive live (unit_at u None) (books_at b None) → (place : Option ℕ)
    → HasLive live (with_current (unit_at u None) (process_at_if (waiting_processes None live) place))
    (books_with_current (books_at b None) (key_at_if (queued_of live) place))
by_place live u b h None = h
by_place live u b h (Some place) = subst (λ (p : Option Process). HasLive live (with_current (unit_at u None) p)
    (books_with_current (books_at b None) (key_at (queued_of live) place))) (sym (process_there live place))
    (subst (λ (k : Option ℕ). HasLive live (with_current (unit_at u None) (process_if (live_at live place)))
    (books_with_current (books_at b None) k)) (sym (key_there live place))
    (started live u b place h (live_at live place) refl))

chosen_by : (live : List LiveCommand) (u : UnitState) (b : UnitBooks) (c : Option ℕ) (r : Option RunningProcess)
    → HasLive live (unit_at u r) (books_at b c) → (held : Bool) → is_held b.queue.hold ≡ held
    → HasLive live (unit_with_choice held (unit_at u r)) (books_after_choice (books_at b c) u.pick)
chosen_by live u b None (Some r) h held e = absurd h.current
chosen_by live u b (Some key) None h held e = absurd h.current
chosen_by live u b (Some key) (Some r) h held e = h
chosen_by live u b None None h true e = subst
    (λ (y : Bool). HasLive live (unit_at u None) (books_with_current (books_at b None) (if y then None else key_at_if
    (waiting_in None b.queue.arrived) (chosen_place u.pick (entries_in (waiting_in None b.queue.arrived)))))) (sym e) h
chosen_by live u b None None h false e =
    let waits : waiting_in None b.queue.arrived ≡ queued_of live = (λ i. waiting_in None (h.arrived i))
    ∙ all_wait live in
    let place : Option ℕ = chosen_place u.pick (entries_of u.waiting) in
    let entries : entries_in (waiting_in None b.queue.arrived) ≡ entries_of u.waiting =
    (λ i. entries_in (waiting_in None (h.arrived i)))
    ∙ waiting_entries None live ∙ (λ i. entries_of (sym h.waiting i)) in
    let key : (if is_held b.queue.hold then None else key_at_if (waiting_in None b.queue.arrived)
    (chosen_place u.pick (entries_in (waiting_in None b.queue.arrived)))) ≡ key_at_if (queued_of live) place =
    (λ i. if e i then None else key_at_if (waiting_in None b.queue.arrived)
    (chosen_place u.pick (entries_in (waiting_in None b.queue.arrived))))
    ∙ (λ i. key_at_if (waits i) (chosen_place u.pick (entries i))) in
    subst (λ (k : Option ℕ). HasLive live (with_current (unit_at u None) (process_at_if u.waiting place))
    (books_with_current (books_at b None) k)) (sym key)
    (subst (λ (ps : List Process). HasLive live (with_current (unit_at u None) (process_at_if ps place))
    (books_with_current (books_at b None) (key_at_if (queued_of live) place))) (sym h.waiting)
    (by_place live u b h place))

pub chosen : (live : List LiveCommand) (u : UnitState) (b : UnitBooks) → HasLive live u b
    → HasLive live (unit_with_choice (is_held b.queue.hold) u) (books_after_choice b u.pick)
chosen live u b h = chosen_by live u b b.queue.current u.current h (is_held b.queue.hold) refl

-- One of them leaves.
left_waits : (live : List LiveCommand) (key : ℕ) (p : Process) → AreApart live
    → process_under live key ≡ Some p → (c : Option ℕ) (y : Bool) → is_current c key ≡ y
    → without_process (waiting_processes c live) p.id
    ≡ waiting_processes (if y then None else c) (live_but (has_this_key key) live)
left_waits live key p a h c false f = waiting_left live key p c a h f
left_waits live key p a h None true f = cc
left_waits live key p a h (Some now) true f =
    let same : key ≡ now = eqb-true key now f in
    subst (λ (n : ℕ). without_process (waiting_processes (Some n) live) p.id
    ≡ waiting_processes None (live_but (has_this_key key) live)) same
    (current_apart live key p a h ∙ rest_waits live key)

current_left : (live : List LiveCommand) (key : ℕ) (p : Process) → AreApart live
    → process_under live key ≡ Some p → (c : Option ℕ) (r : Option RunningProcess) → IsCurrentOf live c r
    → IsCurrentOf (live_but (has_this_key key) live) (current_without c key)
    (if is_some (running_if r p.id) then None else r)
current_left live key p a h None None k = tt
current_left live key p a h None (Some r) k = absurd k
current_left live key p a h (Some now) None k = absurd k
current_left live key p a h (Some now) (Some r) k = go (key == now) refl
  where
    go : (y : Bool) → (key == now) ≡ y → IsCurrentOf (live_but (has_this_key key) live) (if y then None else Some now)
        (if is_some (if same_id r.process.id p.id then Some r else None) then None else Some r)
    go true e =
        let same : key ≡ now = eqb-true key now e in
        let found : Some r.process ≡ Some p = sym k ∙ subst (λ (n : ℕ). process_under live n ≡ Some p) same h in
        let own : r.process ≡ p = cc in
        let one : same_id r.process.id p.id ≡ true = subst
        (λ (q : Process). same_id r.process.id q.id ≡ true) own (id_self r.process.id) in
        subst (λ (z : Bool). IsCurrentOf (live_but (has_this_key key) live) None
        (if is_some (if z then Some r else None) then None else Some r)) (sym one) tt
    go false e =
        let apart : (now == key) ≡ false = turned (now == key) refl in
        let other : same_id r.process.id p.id ≡ false = apart_processes live key now p r.process a h k apart in
        subst (λ (z : Bool). IsCurrentOf (live_but (has_this_key key) live) (Some now)
        (if is_some (if z then Some r else None) then None else Some r)) (sym other)
        (process_stays live key now apart ∙ k)
      where
        turned : (z : Bool) → (now == key) ≡ z → z ≡ false
        turned true f =
            let same : (key == now) ≡ true = eqb_turned now key f in
            let bad : true ≡ false = sym same ∙ e in
            cc
        turned false f = refl

pub left : (live : List LiveCommand) (u : UnitState) (b : UnitBooks) (key : ℕ) (p : Process)
    → HasLive live u b → process_under live key ≡ Some p
    → HasLive (live_but (has_this_key key) live) (unit_without u p.id) (books_without b key)
left live u b key p h k = record {
  apart = apart_but (has_this_key key) live h.apart;
  arrived = (λ i. without_key (h.arrived i) key) ∙ sym (dropped_key live key);
  waiting = (λ i. without_process (h.waiting i) p.id)
      ∙ left_waits live key p h.apart k b.queue.current (is_current b.queue.current key) refl;
  current = current_left live key p h.apart k b.queue.current u.current h.current;
  blocks = blocks_but (has_this_key key) b.blocks live h.blocks;
  depth = h.depth;
}

-- Some of them are aborted.
pub aborted : (who : Those) (drops : Process → Bool)
    → ((p : Process) → is_of who (entry_of p) ≡ drops p) → (live : List LiveCommand) (u : UnitState) (b : UnitBooks)
    → HasLive live u b → HasLive (live_but (is_one_of who) live) (unit_kept drops u) (books_without_those b who)
aborted who drops same live u b h =
    let arrives : without_those_of who b.queue.arrived ≡ queued_of (live_but (is_one_of who) live) =
    (λ i. without_those_of who (h.arrived i)) ∙ sym (dropped_those who live) in
    record {
      apart = apart_but (is_one_of who) live h.apart;
      arrived = arrives;
      waiting =
          (λ i. kept_processes drops (h.waiting i))
          ∙ those_leave who drops same b.queue.current live
          ∙ sym (among_waits (live_but (is_one_of who) live) b.queue.current)
          ∙ (λ i. waiting_processes (current_among (sym arrives i) b.queue.current) (live_but (is_one_of who) live));
      current = subst (λ (qs : List Queued). IsCurrentOf (live_but (is_one_of who) live)
          (current_among qs b.queue.current) (kept_running drops u.current)) (sym arrives)
          (current_after who drops same live h.apart b.queue.current u.current h.current);
      blocks = blocks_but (is_one_of who) b.blocks live h.blocks;
      depth = h.depth;
    }

-- ---- who lost a command

lost_by : (by dev : ℕ) (ps : List Process)
    → list_any (λ (p : Process). p.initiator == dev && not (p.initiator == by)) ps
    ≡ (list_any (λ (p : Process). p.initiator == dev) ps && not (dev == by))
lost_by by dev [] = refl
lost_by by dev (p ∷ ps) = go (p.initiator == dev) refl (lost_by by dev ps)
  where
    here : (z w : Bool) → (z || (w && z)) ≡ z
    here true w = refl
    here false true = refl
    here false false = refl

    go : (y : Bool) → (p.initiator == dev) ≡ y
        → list_any (λ (p : Process). p.initiator == dev && not (p.initiator == by)) ps
        ≡ (list_any (λ (p : Process). p.initiator == dev) ps && not (dev == by))
        → ((y && not (p.initiator == by))
        || list_any (λ (p : Process). p.initiator == dev && not (p.initiator == by)) ps)
        ≡ ((y || list_any (λ (p : Process). p.initiator == dev) ps) && not (dev == by))
    go true e more =
        let same : p.initiator ≡ dev = eqb-true p.initiator dev e in
        (λ i. not (same i == by) || more i) ∙ here (not (dev == by)) (list_any (λ (p : Process). p.initiator == dev) ps)
    go false e more = more

any_waiting : (dev : ℕ) (live : List LiveCommand)
    → list_any (λ (p : Process). p.initiator == dev) (waiting_processes None live)
    ≡ has_any (those.Of dev) (queued_of live)
any_waiting dev [] = refl
any_waiting dev (x ∷ live) = go (x.process.initiator == dev) (any_waiting dev live)
  where
    go : (y : Bool) → list_any (λ (p : Process). p.initiator == dev) (waiting_processes None live)
        ≡ has_any (those.Of dev) (queued_of live)
        → (y || list_any (λ (p : Process). p.initiator == dev) (waiting_processes None live))
        ≡ (if y then true else has_any (those.Of dev) (queued_of live))
    go true more = refl
    go false more = more

any_current : (dev : ℕ) (live : List LiveCommand) (key : ℕ) (p : Process)
    → AreApart live → process_under live key ≡ Some p
    → ((p.initiator == dev) || list_any (λ (q : Process). q.initiator == dev) (waiting_processes (Some key) live))
    ≡ has_any (those.Of dev) (queued_of live)
any_current dev [] key p a h = cc
any_current dev (x ∷ live) key p a h = go (x.key == key) refl h (λ k. any_current dev live key p a.2 k)
  where
    first : (y : Bool)
        → (y || has_any (those.Of dev) (queued_of live)) ≡ (if y then true else has_any (those.Of dev) (queued_of live))
    first true = refl
    first false = refl

    later : (y z w : Bool) → (y || w) ≡ has_any (those.Of dev) (queued_of live)
        → (y || (z || w)) ≡ (if z then true else has_any (those.Of dev) (queued_of live))
    later true true w more = refl
    later true false w more = more
    later false true w more = refl
    later false false w more = more

    go : (y : Bool) → (x.key == key) ≡ y → (if y then Some x.process else process_under live key) ≡ Some p
        → (process_under live key ≡ Some p
        → ((p.initiator == dev) || list_any (λ (q : Process). q.initiator == dev) (waiting_processes (Some key) live))
        ≡ has_any (those.Of dev) (queued_of live))
        → ((p.initiator == dev) || list_any (λ (q : Process). q.initiator == dev)
        (if y then waiting_processes (Some key) live else x.process ∷ waiting_processes (Some key) live))
        ≡ (if x.process.initiator == dev then true else has_any (those.Of dev) (queued_of live))
    go true e k more =
        let own : x.process ≡ p = cc in
        let at : x.key ≡ key = eqb-true x.key key e in
        let none : waiting_processes (Some key) live ≡ waiting_processes None live = absent_current live key
        (subst (λ (n : ℕ). has_key (queued_of live) n ≡ false) at a.0) in
        (λ i. (sym own i).initiator == dev || list_any (λ (q : Process). q.initiator == dev) (none i))
        ∙ (λ i. (x.process.initiator == dev) || any_waiting dev live i) ∙ first (x.process.initiator == dev)
    go false e k more = later (p.initiator == dev) (x.process.initiator == dev)
        (list_any (λ (q : Process). q.initiator == dev) (waiting_processes (Some key) live)) (more k)

any_lost : (dev : ℕ) (live : List LiveCommand) → AreApart live
    → (c : Option ℕ) (r : Option RunningProcess) → IsCurrentOf live c r
    → list_any (λ (p : Process). p.initiator == dev) (processes_of r (waiting_processes c live))
    ≡ has_any (those.Of dev) (queued_of live)
any_lost dev live a None None h = any_waiting dev live
any_lost dev live a None (Some r) h = absurd h
any_lost dev live a (Some key) None h = absurd h
any_lost dev live a (Some key) (Some r) h = any_current dev live key r.process a h

pub told : (live : List LiveCommand) (u : UnitState) (b : UnitBooks) → HasLive live u b
    → (by dev : ℕ) → is_told by b.queue.arrived dev ≡ is_told_at by (unit_processes (Some u)) dev
told live u b h by dev = (λ i. has_any (those.Of dev) (h.arrived i) && not (dev == by))
    ∙ (λ i. sym (any_lost dev live h.apart b.queue.current u.current h.current) i && not (dev == by))
    ∙ (λ i. list_any (λ (p : Process). p.initiator == dev) (processes_of u.current (sym h.waiting i))
    && not (dev == by)) ∙ sym (lost_by by dev (processes_of u.current u.waiting))

-- ---- tags

pub tagged : (t : Tag) (n : ℕ) → same_number (tag_number t) (Some n) ≡ has_tag t n
tagged tags.Untagged n = refl
tagged (tags.Simple m) n = refl
tagged (tags.Ordered m) n = refl
tagged (tags.Head m) n = refl

-- ---- a reply

current_replied : (live : List LiveCommand) (id : ProcId) (reply : Reply) (c : Option ℕ) (r : Option RunningProcess)
    → IsCurrentOf live c r → IsCurrentOf live c (current_with_reply r id reply)
current_replied live id reply None None h = tt
current_replied live id reply None (Some r) h = absurd h
current_replied live id reply (Some key) None h = absurd h
current_replied live id reply (Some key) (Some r) h = go (same_id r.process.id id)
  where
    go : (y : Bool) → IsCurrentOf live (Some key) (if y then Some (record r { reply = Some reply }) else Some r)
    go true = h
    go false = h

pub replied : (live : List LiveCommand) (u : UnitState) (b : UnitBooks) (id : ProcId) (reply : Reply) → HasLive live u b
    → HasLive live (unit_with_reply id reply u) b
replied live u b id reply h = record {
  apart = h.apart;
  arrived = h.arrived;
  waiting = h.waiting;
  current = current_replied live id reply b.queue.current u.current h.current;
  blocks = h.blocks;
  depth = h.depth;
}
