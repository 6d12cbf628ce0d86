-- What the logical units hold stays within the limits of a scenario, whatever events there are; so a command gives few
-- bytes.
use Rattle.link_laws.proofs
use proofs.Names.{ℕ, zero, suc, ◌≡◌, ◌≤◌, ◌+◌, ◌*◌, ◌-◌, ◌^◌, Bool, true, false, ◌&&◌, List, [], ◌∷◌, ◌++◌, length}
use proofs.Names.{take, drop, Option, Some, None, arith, ◌==◌, refl, inl, inr, subst, sym, and_parts, cases_Bool}
use proofs.Names.{nat_tests, length-append, length-replicate, length-take, AllByRecursion, if◌then◌else◌, min, nat_le}
use proofs.Names.{nat_lt, is_some, map, Event, blocks_moved, sense_data, inquiry_data, capacity_data, Sense, Command}
use proofs.Names.{SENSE_LEN, INQUIRY_LEN, TapeCommand, unit_of, tape_unit, is_block_in, ScenarioValue, FillDef, TapeDef}
use proofs.Names.{UnitDef, of_all, on_tape, IsShortReel, tape_short, AreShort, AreAt, AreAtIf, IsAtIf, IsKept, settles}
use proofs.Names.{step_keeps, unit_found, Contents, no_contents, zero_block, touched_block, block_at, touched_with}
use proofs.Names.{with_block, bytes_at, with_bytes, blank_contents, filled_contents, loaded_contents, loaded_objects}
use proofs.Names.{starting_contents, Reply, CommandContext, Execution, good, check_condition, range_of, is_good_range}
use proofs.Names.{returned_sense, reply_execution, write_execution, command_execution, execution, AreWhole, Object}
use proofs.Names.{Reel, Nexus, UnitState, Array, unit_state_at, settled_array, starting_array, starting_units}
use proofs.Names.{unit_fits, FitsBus, IsUnitLine, IsTapeLine}
use Rattle.due_model.specs.array_model.specs.ArrayHistory as Play
use Rattle.due_model.specs.array_model.specs.Reels as reels
use Rattle.due_model.specs.array_model.specs.Steps

-- ---- blocks: at most 2^32 of at most 2048 bytes; of a tape at most 2^16

abbrev IsShortBlock : (ℕ × List ℕ) → Type 0
IsShortBlock entry = length entry.1 ≤ 2048

-- A tape has few objects, and short ones.
abbrev IsShortTape : ℕ → Option Reel → Type 0
IsShortTape count None = Unit {0}
IsShortTape count (Some r) = (count ≤ 65536) × IsShortReel count 2048 r

pub record HasShortBlocks (c : Contents) : Type 0 where
  pub count : c.count ≤ 2 ^ 32
  pub size : c.size ≤ 2048
  pub touched : AllByRecursion IsShortBlock c.touched
  pub reel : IsShortTape c.count c.reel

touched_short : (touched : List (ℕ × List ℕ)) (lba : ℕ) (otherwise : List ℕ) → AllByRecursion IsShortBlock touched
    → length otherwise ≤ 2048 → length (touched_block touched lba otherwise) ≤ 2048
touched_short [] lba otherwise a b = b
touched_short (entry ∷ touched) lba otherwise a b =
    elim (cases_Bool (entry.0 == lba)) [ inl e ↦ rw e a.0 | inr e ↦ rw e (touched_short touched lba otherwise a.1 b) ]

block_short : (c : Contents) (lba : ℕ) → HasShortBlocks c → length (block_at c lba) ≤ 2048
block_short c lba h =
    let zero : ℕ = 0 in
    let long = length-replicate c.size zero in
    let size = h.size in
    touched_short c.touched lba (zero_block c.size) h.touched (omega (arith, long, size))

bytes_short : (c : Contents) (lba m : ℕ) → HasShortBlocks c → length (bytes_at c lba m) ≤ m * 2048
bytes_short c lba zero h = omega arith
bytes_short c lba (suc m) h =
    let one = block_short c lba h in
    let more = bytes_short c (lba + 1) m h in
    let both = length-append (block_at c lba) (bytes_at c (lba + 1) m) in
    omega (arith, one, more, both)

with_short : (touched : List (ℕ × List ℕ)) (lba : ℕ) (block : List ℕ) → AllByRecursion IsShortBlock touched
    → length block ≤ 2048 → AllByRecursion IsShortBlock (touched_with touched lba block)
with_short [] lba block a b = (b, tt)
with_short (entry ∷ touched) lba block a b =
    go (entry.0 == lba) (nat_lt lba entry.0) (with_short touched lba block a.1 b)
  where
    go : (q r : Bool) → AllByRecursion IsShortBlock (touched_with touched lba block)
        → AllByRecursion IsShortBlock (if q then (lba, block) ∷ touched
        else if r then (lba, block) ∷ (entry ∷ touched) else entry ∷ touched_with touched lba block)
    go true r e = (b, a.1)
    go false true e = (b, a)
    go false false e = (a.0, e)

block_put : (c : Contents) (lba : ℕ) (block : List ℕ) → HasShortBlocks c → length block ≤ 2048
    → HasShortBlocks (with_block c lba block)
block_put c lba block h b =
    record { count = h.count; size = h.size; touched = with_short c.touched lba block h.touched b; reel = h.reel }

taken_short : (m : ℕ) (xs : List ℕ) → length (take m xs) ≤ m
taken_short m xs = let long = length-take m xs in omega (arith, long)

bytes_put : (c : Contents) (lba m : ℕ) (bytes : List ℕ) → HasShortBlocks c → HasShortBlocks (with_bytes c lba m bytes)
bytes_put c lba zero bytes h = h
bytes_put c lba (suc m) bytes h =
    let few = taken_short c.size bytes in
    let size = h.size in
    bytes_put (with_block c lba (take c.size bytes)) (lba + 1) m (drop c.size bytes)
    (block_put c lba (take c.size bytes) h (omega (arith, few, size)))

none_short : HasShortBlocks no_contents
none_short = record { count = omega arith; size = omega arith; touched = tt; reel = tt }

-- ---- a command gives at most 2^43 bytes

pub record GivesFew (e : Execution) : Type 0 where
  pub contents : HasShortBlocks e.contents
  pub bytes : length e.reply.bytes ≤ 2 ^ 43

replies : (m : CommandContext) (r : Reply) → HasShortBlocks m.contents → length r.bytes ≤ 2 ^ 43
    → GivesFew (reply_execution m r)
replies m r h few = record { contents = h; bytes = few }

checks : (m : CommandContext) (x : Sense) → HasShortBlocks m.contents → GivesFew (reply_execution m (check_condition x))
checks m x h = replies m (check_condition x) h (omega arith)

writes : (m : CommandContext) (lba i : ℕ) (sent : List ℕ) → HasShortBlocks m.contents
    → GivesFew (write_execution m lba i sent)
writes m lba i sent h = record { contents = bytes_put m.contents lba i sent h; bytes = omega arith }

in_blocks : (blocks lba m : ℕ) → (nat_lt lba blocks && nat_le (lba + m) blocks) ≡ true → m ≤ blocks
in_blocks blocks lba m e = within (and_parts (nat_lt lba blocks) (nat_le (lba + m) blocks) e).1
  where
    within : nat_le (lba + m) blocks ≡ true → m ≤ blocks
    within z = grind (arith, nat_tests)

reads : (m : CommandContext) (lba i : ℕ) → HasShortBlocks m.contents
    → (nat_lt lba m.contents.count && nat_le (lba + i) m.contents.count) ≡ true
    → GivesFew (reply_execution m (good (bytes_at m.contents lba i)))
reads m lba i h e =
    let some = in_blocks m.contents.count lba i e in
    let most = h.count in
    let few = bytes_short m.contents lba i h in
    replies m (good (bytes_at m.contents lba i)) h (omega (arith, some, most, few))

takes : (m : CommandContext) (room most : ℕ) (bytes : List ℕ) → HasShortBlocks m.contents → most ≤ 2 ^ 43
    → GivesFew (reply_execution m (good (take (min room most) bytes)))
takes m room most bytes h e =
    let few = taken_short (min room most) bytes in
    replies m (good (take (min room most) bytes)) h (omega (arith, few, e))

gives : (m : CommandContext) (c : Command) (sent : List ℕ) → HasShortBlocks m.contents
    → is_good_range m.contents.count (range_of c) ≡ true → GivesFew (command_execution m c sent)
gives m Command.TestUnitReady sent h e = replies m (good []) h (omega arith)
gives m (Command.RequestSense room) sent h e =
    takes m room SENSE_LEN (sense_data (returned_sense m.present m.stored)) h (omega arith)
gives m (Command.Read6 lba count) sent h e = reads m lba (blocks_moved (Command.Read6 lba count)) h e
gives m (Command.Write6 lba count) sent h e = writes m lba (blocks_moved (Command.Write6 lba count)) sent h
gives m (Command.Inquiry room) sent h e = takes m room INQUIRY_LEN (inquiry_data m.present) h (omega arith)
gives m Command.ReadCapacity sent h e =
    replies m (good (capacity_data (m.contents.count - 1) m.contents.size)) h (omega arith)
gives m (Command.Read10 lba count) sent h e = reads m lba count h e
gives m (Command.Write10 lba count) sent h e = writes m lba count sent h

at_tape : (m : CommandContext) (r : Reel) (c : TapeCommand) (sent : List ℕ) → m.contents.reel ≡ Some r
    → HasShortBlocks m.contents → GivesFew (on_tape m r c sent)
at_tape m r c sent d h =
    let tape : (m.contents.count ≤ 65536) × IsShortReel m.contents.count 2048 r =
    subst (IsShortTape m.contents.count) d h.reel in
    let given = tape_short m r c sent 2048 h.size tape.1 in
    let few = tape.0 in
    let objects = tape.1.few in
    let bytes = given.bytes in
    record {
      contents = record { count = h.count; size = h.size; touched = h.touched; reel = (few, given.reel) };
      bytes = omega (arith, few, objects, bytes);
    }

pub gives_few : (m : CommandContext) (cdb sent : List ℕ) → HasShortBlocks m.contents → GivesFew (execution m cdb sent)
gives_few m cdb sent h = of_all m cdb sent GivesFew (record {
  refused_is = λ sense k. checks m sense h;
  reported_is = λ sense a. record { contents = h; bytes = omega arith };
  disk_is = λ c d is g. gives m c sent h g;
  tape_is = λ r c d is. at_tape m r c sent d h;
})

-- ---- the units of the array

abbrev IsShort : ℕ → ℕ → Contents → Type 0
IsShort target unit c = HasShortBlocks c

short_kept : IsKept IsShort
short_kept = record { runs = λ m cdb sent target unit h. (gives_few m cdb sent h).contents }

abbrev pub HasShortUnits : Array → Type 0
HasShortUnits a = AreAt IsShort a.units

abbrev pub HasShortUnitsIf : Option Array → Type 0
HasShortUnitsIf o = AreAtIf IsShort o

context_short : (a : Array) (x : Nexus) (o : Option UnitState) → IsAtIf IsShort o
    → HasShortBlocks (Steps.context_at a x o).contents
context_short a x None h = none_short
context_short a x (Some u) h = h

pub context_at_short : (a : Array) (x : Nexus) (t m : ℕ) → HasShortUnits a
    → HasShortBlocks (Steps.context_at a x (unit_state_at a.units t m)).contents
context_at_short a x t m h = context_short a x (unit_state_at a.units t m) (unit_found IsShort a.units t m h)

pub event_short : (s : ScenarioValue) (event : Event) (o : Option Array) → HasShortUnitsIf o
    → HasShortUnitsIf (Play.array_step s event o)
event_short s event o h = step_keeps IsShort short_kept s event o h

-- ---- the start

fill_short : (s : ScenarioValue) (f : FillDef) → FitsBus s
    → is_block_in (unit_of s f.target f.unit) f.lba f.bytes ≡ true → length f.bytes ≤ 2048
fill_short s f fits e = go (unit_of s f.target f.unit) refl e
  where
    as_long : (i m : ℕ) → (i == m) ≡ true → m ≤ 2048 → i ≤ 2048
    as_long i m z few = grind (arith, nat_tests)

    go : (o : Option UnitDef) → unit_of s f.target f.unit ≡ o → is_block_in o f.lba f.bytes ≡ true
        → length f.bytes ≤ 2048
    go None there z = absurd cc
    go (Some u) there z = as_long (length f.bytes) u.size (and_parts (nat_lt f.lba u.blocks && nat_lt f.lba (2 ^ 32))
        (length f.bytes == u.size) z).1 ((unit_fits s f.target f.unit u fits there).0).most_size

filled : (s : ScenarioValue) (u : UnitDef) (fills : List FillDef) (c : Contents) → FitsBus s
    → AllByRecursion (λ (f : FillDef). is_block_in (unit_of s f.target f.unit) f.lba f.bytes ≡ true) fills
    → HasShortBlocks c → HasShortBlocks (filled_contents u fills c)
filled s u [] c fits a h = h
filled s u (f ∷ fills) c fits a h = filled s u fills
    (if f.target == u.target && f.unit == u.unit then with_block c f.lba f.bytes else c) fits a.1
    (go (f.target == u.target && f.unit == u.unit))
  where
    go : (q : Bool) → HasShortBlocks (if q then with_block c f.lba f.bytes else c)
    go true = block_put c f.lba f.bytes h (fill_short s f fits a.0)
    go false = h

whole_short : (size : ℕ) (objects : List Object) → size ≤ 2048 → AreWhole size objects → AreShort 2048 objects
whole_short size [] few h = tt
whole_short size (reels.block bytes ∷ objects) few h =
    let long = h.0 in (omega (arith, long, few), whole_short size objects few h.1)
whole_short size (reels.filemark ∷ objects) few h = (tt, whole_short size objects few h.1)

disks_start : (s : ScenarioValue) (units more : List UnitDef) → FitsBus s
    → AllByRecursion (λ (u : UnitDef). IsUnitLine s u) units → AreAt IsShort (starting_units s more)
    → AreAt IsShort (starting_units s (units ++ more))
disks_start s [] more fits a h = h
disks_start s (u ∷ units) more fits a h =
    let count = (a.0).most_blocks in
    let blank : HasShortBlocks (blank_contents u.blocks u.size) =
    record { count = omega (arith, count); size = (a.0).most_size; touched = tt; reel = tt } in (
      subst (λ (q : Bool). HasShortBlocks (if q then loaded_contents u s.loads else starting_contents u s.fills))
          (sym (a.0).is_disk) (filled s u s.fills (blank_contents u.blocks u.size) fits fits.fills blank),
      disks_start s units more fits a.1 h,
    )

tapes_start : (s : ScenarioValue) (tapes : List TapeDef) → AllByRecursion (λ (t : TapeDef). IsTapeLine s t) tapes
    → AreAt IsShort (starting_units s (map tape_unit tapes))
tapes_start s [] a = tt
tapes_start s (t ∷ tapes) a =
    let u : UnitDef = tape_unit t in
    let objects = (a.0).most_objects in
    let loaded : HasShortBlocks (loaded_contents u s.loads) = record {
      count = omega (arith, objects);
      size = (a.0).most_size;
      touched = tt;
      reel = (
        objects,
        record {
          few = (a.0).few;
          short = whole_short t.size (loaded_objects u s.loads) (a.0).most_size (a.0).whole;
        },
      );
    } in (
      subst (λ (o : Option TapeDef). HasShortBlocks
          (if is_some o then loaded_contents u s.loads else starting_contents u s.fills)) (sym (a.0).tape_is) loaded,
      tapes_start s tapes a.1,
    )

pub start_short : (s : ScenarioValue) → FitsBus s → HasShortUnits (starting_array s)
start_short s fits = disks_start s s.units (map tape_unit s.tapes) fits fits.units (tapes_start s s.tapes fits.tapes)

pub settled_start_short : (s : ScenarioValue) → FitsBus s → HasShortUnits (settled_array (starting_array s))
settled_start_short s fits = settles IsShort (starting_array s) (start_short s fits)
