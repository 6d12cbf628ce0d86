-- A unit before any event is that of the starting array.
use Rattle.std.proofs.Common.{ℕ, zero, suc, replicate, Result, Ok, Err, ◌≡◌, ◌<◌, ◌≤◌, ◌^◌, cond, arith, Bool, true}
use Rattle.std.proofs.Common.{false, List, [], ◌∷◌, ◌∙◌, refl, sym, ap, subst, length, Option, Some, None}
use Rattle.std.specs.Prelude.{nat_lt, if◌then◌else◌, IfOk, is_some, ◌==◌, ◌&&◌}
use Rattle.bus_base.specs.declared.events.Pick.{Pick}
use Rattle.scenario.specs.declared.value.FillDef.{FillDef}
use Rattle.scenario.specs.declared.value.LoadDef.{LoadDef}
use Rattle.scenario.specs.declared.value.UnitDef.{UnitDef}
use Rattle.scenario.specs.Value.{ScenarioValue}
use Rattle.array_model.specs.Contents.{Contents, loaded_contents, starting_contents, with_block}
use Rattle.array_model.specs.Seats.{seat_of}
use Rattle.array_model.specs.Units.{Array, UnitState, starting_array, starting_unit, starting_units, units_after_choice}
use Rattle.array_model.specs.Units.{contents_at_start, settled_array, pick_of}
use Rattle.due_model.specs.Wants.{since_of}
use Rattle.target_units.specs.declared.logical.LogicalUnit.{LogicalUnit}
use Rattle.target_units.specs.Units.{IsUnitOf, AreUnitsOf, HaveRoom, unit_in}
use Rattle.disk_unit.specs.AtSeats.{IsUnitAt}
use Rattle.disk_unit.specs.Books.{UnitBooks}
use Rattle.disk_unit.proofs.AtSeats as seats
use Rattle.target_units.specs.Seated.{SeatedState, IsAtSeat}
use Rattle.target_units.specs.Absent.{IsAbsentAt, nothing_kept}
use Rattle.target_units.specs.Fillings.{IsFresh, AreFilled, blocks_at, blocks_by_all, is_filled_by}
use Rattle.target_units.specs.Loads.{AreLoaded}
use Rattle.disk_unit.specs.Held.{a_tape, disk_of}
use Rattle.target_units.proofs.AbsentSteps.{starts}
use Rattle.std.specs.List.{find, AllByRecursion}
use Rattle.std.proofs.lemmas.Bool.Decides.{nat_tests}
use Rattle.scenario.specs.declared.value.TapeDef.{TapeDef}
use Rattle.scenario.specs.declared.value.TargetDef.{TargetDef}
use Rattle.scenario.specs.declared.value.CmdDef.{CmdDef}
use Rattle.scenario.specs.Lookups.{is_tape, tape_unit, unit_of, units_of}
use Rattle.scenario.specs.Reading.{is_block_of}
use Rattle.scenario.specs.Reasons.{is_block_in}
use Rattle.due_model.specs.Defs.{target_def_of}
use Rattle.scsi_device.specs.Lines.{FitsBus, IsTapeLine}
use Rattle.scsi_device.proofs.Finds.{none_some, some_is}
use Rattle.scsi_device.proofs.FitLines.{starts_none}
use Rattle.std.proofs.lemmas.Bool.{eqb-true, and_parts}

pub fresh_at : (s : ScenarioValue) (u : UnitDef) (pick : Pick) (start : Contents) (written : ℕ) (v : SeatedState)
    → IsFresh u pick start written v → start ≡ contents_at_start s u → pick ≡ pick_of s.targets u.target
    → (seat_of (starting_array s) u.target u.unit).unit ≡ Some (starting_unit s u)
    → IsAtSeat s.hosts (seat_of (starting_array s) u.target u.unit) 0 v
fresh_at s u pick start written v h same picks there =
    let books : IsUnitAt s.hosts [] (contents_at_start s u) (starting_unit s u)
    (seat_of (starting_array s) u.target u.unit) v.books = subst (λ (b : UnitBooks). IsUnitAt s.hosts []
    (contents_at_start s u) (starting_unit s u) (seat_of (starting_array s) u.target u.unit) b) (sym h.books)
    (seats.started s u u.target u.unit v.books.queue.keys v.books.blocks there) in (
      [],
      starting_unit s u,
      record {
        kept = subst (λ (c : Contents). IsUnitAt s.hosts [] c (starting_unit s u)
            (seat_of (starting_array s) u.target u.unit) v.books) (sym (h.contents ∙ same)) books;
        queued = tt;
        pick = h.pick_is ∙ picks;
        reply = h.reply;
        since = tt;
      },
    )

-- A disk starts with its fills, and a tape with its loads.
pub disk_start : (s : ScenarioValue) (u : UnitDef) (fills : List FillDef) → s.fills ≡ fills
    → is_tape s u.target u.unit ≡ false → starting_contents u fills ≡ contents_at_start s u
disk_start s u fills same e =
    λ i. if sym e i then loaded_contents u s.loads else starting_contents u (sym same i)

pub tape_start : (s : ScenarioValue) (u : UnitDef) (defs : List LoadDef) → s.loads ≡ defs
    → is_tape s u.target u.unit ≡ true → loaded_contents u defs ≡ contents_at_start s u
tape_start s u defs same e = λ i. if sym e i then loaded_contents u (sym same i) else starting_contents u s.fills

-- ---- a fill changes no number of blocks, nor their size

pub fill_count : (y : Bool) (c : Contents) (lba : ℕ) (block : List ℕ)
    → (if y then with_block c lba block else c).count ≡ c.count
fill_count true c lba block = refl
fill_count false c lba block = refl

pub if_ok : {A E : Type 0} (P Q : A → Type 0) → ((a : A) → P a → Q a) → (r : Result A E) → IfOk r P → IfOk r Q
if_ok P Q f (Ok a) h = f a h
if_ok P Q f (Err e) h = h

-- ---- the starting array

chosen_start : (s : ScenarioValue) (us : List UnitDef)
    → units_after_choice [] (starting_units s us) ≡ starting_units s us
chosen_start s [] = refl
chosen_start s (u ∷ us) = λ i. starting_unit s u ∷ chosen_start s us i

pub start_settled : (s : ScenarioValue) → settled_array (starting_array s) ≡ starting_array s
start_settled s = λ i. record (starting_array s) { units = chosen_start s (units_of s) i }

start_length : (s : ScenarioValue) (us : List UnitDef) → length (starting_units s us) ≡ length us
start_length s [] = refl
start_length s (u ∷ us) = ap (λ (n : ℕ). suc n) (start_length s us)

times_length : (k : ℕ) → length {A = ℕ} (replicate k 0) ≡ k
times_length zero = refl
times_length (suc k) = ap (λ (n : ℕ). suc n) (times_length k)

since_start : (us : List UnitState) (k t n : ℕ) → since_of us (replicate k 0) t n ≡ 0
since_start [] k t n = refl
since_start (u ∷ us) zero t n = refl
since_start (u ∷ us) (suc k) t n = go (u.target == t && u.unit == n) (since_start us k t n)
  where
    go : (y : Bool) → since_of us (replicate k 0) t n ≡ 0 → (if y then 0 else since_of us (replicate k 0) t n) ≡ 0
    go true h = refl
    go false h = h

pub units_start : (s : ScenarioValue) (dev : ℕ) (units : List LogicalUnit) → length units ≡ 8
    → ((n : ℕ) → n < 8 → IsUnitOf s.hosts (seat_of (starting_array s) dev n) 0 (unit_in units n))
    → HaveRoom s (starting_array s) dev units
    → AreUnitsOf s (settled_array (starting_array s)) (replicate (length (units_of s)) 0) dev units
units_start s dev units eight h room =
    subst (λ (a : Array). AreUnitsOf s a (replicate (length (units_of s)) 0) dev units) (sym (start_settled s))
    (record {
      timed = times_length (length (units_of s)) ∙ sym (start_length s (units_of s));
      eight = eight;
      each = λ n lt. subst (λ (t : ℕ). IsUnitOf s.hosts (seat_of (starting_array s) dev n) t (unit_in units n))
          (sym (since_start (starting_units s (units_of s)) (length (units_of s)) dev n)) (h n lt);
      room = room;
    })

-- ---- the unit of a line, and one that is not there

-- The fills of a unit are of its blocks.
filled : (s : ScenarioValue) (u : UnitDef) (fills : List FillDef) → unit_of s u.target u.unit ≡ Some u
    → AllByRecursion (λ (f : FillDef). is_block_in (unit_of s f.target f.unit) f.lba f.bytes ≡ true) fills
    → AreFilled u fills
filled s u [] e a = tt
filled s u (f ∷ fills) e a = (one, filled s u fills e a.1)
  where
    one : is_filled_by u f ≡ true → (f.lba < u.blocks) × (length f.bytes ≡ u.size)
    one h =
        let both = and_parts (f.target == u.target) (f.unit == u.unit) h in
        let is : unit_of s f.target f.unit ≡ Some u =
        (λ i. unit_of s (eqb-true f.target u.target both.0 i) (eqb-true f.unit u.unit both.1 i)) ∙ e in
        let block : is_block_of u f.lba f.bytes ≡ true = (λ i. is_block_in (sym is i) f.lba f.bytes) ∙ a.0 in
        let within = and_parts (nat_lt f.lba u.blocks && nat_lt f.lba (2 ^ 32)) (length f.bytes == u.size) block in
        let below = (and_parts (nat_lt f.lba u.blocks) (nat_lt f.lba (2 ^ 32)) within.0).0 in
        (grind (arith, nat_tests, below), eqb-true (length f.bytes) u.size within.1)

pub line_filled : (s : ScenarioValue) (u : UnitDef) → FitsBus s → unit_of s u.target u.unit ≡ Some u
    → AreFilled u s.fills
line_filled s u fits e = filled s u s.fills e fits.fills

-- The loads of a tape are whole, and it has room for them.
pub line_loaded : (s : ScenarioValue) (t : TapeDef) → IsTapeLine s t → AreLoaded t s.loads
line_loaded s t line = record { whole = line.whole; few = line.few }

pub tape_found : (s : ScenarioValue) (t : TapeDef) → IsTapeLine s t → is_tape s t.target t.unit ≡ true
tape_found s t line = λ i. is_some (line.tape_is i)

-- The memory that a unit has from its line is for the blocks of all commands.
pub disk_blocks : (s : ScenarioValue) (u : UnitDef) (dev n : ℕ) (commands : List CmdDef) (spare : ℕ)
    → unit_of s dev n ≡ Some u → is_tape s u.target u.unit ≡ false → commands ≡ s.commands
    → blocks_by_all (disk_of u.blocks) u commands ≤ spare → blocks_at s (unit_of s dev n) ≤ spare
disk_blocks s u dev n commands spare is plain same h = subst (λ (k : ℕ). k ≤ spare)
    ((λ i. blocks_by_all (if sym plain i then a_tape else disk_of u.blocks) u (same i))
    ∙ (λ i. blocks_at s (sym is i))) h

pub tape_blocks : (s : ScenarioValue) (t : TapeDef) (dev n : ℕ) (commands : List CmdDef) (spare : ℕ)
    → unit_of s dev n ≡ Some (tape_unit t) → is_tape s t.target t.unit ≡ true → commands ≡ s.commands
    → blocks_by_all a_tape (tape_unit t) commands ≤ spare → blocks_at s (unit_of s dev n) ≤ spare
tape_blocks s t dev n commands spare is tape same h = subst (λ (k : ℕ). k ≤ spare)
    ((λ i. blocks_by_all (if sym tape i then a_tape else disk_of t.objects) (tape_unit t) (same i))
    ∙ (λ i. blocks_at s (sym is i))) h

picked : (targets : List TargetDef) (dev : ℕ) (t : TargetDef) → find (λ (x : TargetDef). x.dev == dev) targets ≡ Some t
    → t.pick ≡ pick_of targets dev
picked [] dev t e = absurd (none_some t e)
picked (x ∷ targets) dev t e = go (x.dev == dev) e (λ k. picked targets dev t k)
  where
    go : (y : Bool) → cond y (Some x) (find (λ (z : TargetDef). z.dev == dev) targets) ≡ Some t
        → (find (λ (z : TargetDef). z.dev == dev) targets ≡ Some t → t.pick ≡ pick_of targets dev)
        → t.pick ≡ (if y then x.pick else pick_of targets dev)
    go true k more = λ i. (sym (some_is x t k) i).pick
    go false k more = more k

pub pick_is : (s : ScenarioValue) (t : TargetDef) → target_def_of s t.dev ≡ Some t → t.pick ≡ pick_of s.targets t.dev
pick_is s t e = picked s.targets t.dev t e

pub absent_at : (s : ScenarioValue) (dev n : ℕ) → unit_of s dev n ≡ None
    → IsAbsentAt (seat_of (starting_array s) dev n) nothing_kept
absent_at s dev n e = starts s dev n (starts_none s (units_of s) dev n e)

-- A line that was looked for, of a disk and of a tape.
pub found_line : (units lines : List UnitDef) (dev n : ℕ) (o line : Option UnitDef)
    → line ≡ find (λ (u : UnitDef). u.target == dev && u.unit == n) lines → lines ≡ units → line ≡ o
    → find (λ (u : UnitDef). u.target == dev && u.unit == n) units ≡ o
found_line units lines dev n o line found same is =
    (λ i. find (λ (u : UnitDef). u.target == dev && u.unit == n) (sym same i)) ∙ sym found ∙ is

pub found_tape : (tapes lines : List TapeDef) (dev n : ℕ) (o line : Option TapeDef)
    → line ≡ find (λ (t : TapeDef). t.target == dev && t.unit == n) lines → lines ≡ tapes → line ≡ o
    → find (λ (t : TapeDef). t.target == dev && t.unit == n) tapes ≡ o
found_tape tapes lines dev n o line found same is =
    (λ i. find (λ (t : TapeDef). t.target == dev && t.unit == n) (sym same i)) ∙ sym found ∙ is

pub seated_place : (s : ScenarioValue) (a b c d : ℕ) (v : SeatedState) → a ≡ c → b ≡ d
    → IsAtSeat s.hosts (seat_of (starting_array s) a b) 0 v → IsAtSeat s.hosts (seat_of (starting_array s) c d) 0 v
seated_place s a b c d v x y h = subst (λ (n : ℕ). IsAtSeat s.hosts (seat_of (starting_array s) c n) 0 v) y
    (subst (λ (t : ℕ). IsAtSeat s.hosts (seat_of (starting_array s) t b) 0 v) x h)

-- What holds of each of eight holds of all.
pub eight_units : (P : ℕ → LogicalUnit → Type 0) (a b c d e f g h : LogicalUnit) → P 0 a → P 1 b → P 2 c → P 3 d → P 4 e
    → P 5 f → P 6 g → P 7 h → (n : ℕ) → n < 8 → P n (unit_in (a ∷ b ∷ c ∷ d ∷ e ∷ f ∷ g ∷ h ∷ []) n)
eight_units P a b c d e f g h pa pb pc pd pe pf pg ph zero lt = pa
eight_units P a b c d e f g h pa pb pc pd pe pf pg ph (suc zero) lt = pb
eight_units P a b c d e f g h pa pb pc pd pe pf pg ph (suc (suc zero)) lt = pc
eight_units P a b c d e f g h pa pb pc pd pe pf pg ph (suc (suc (suc zero))) lt = pd
eight_units P a b c d e f g h pa pb pc pd pe pf pg ph (suc (suc (suc (suc zero)))) lt = pe
eight_units P a b c d e f g h pa pb pc pd pe pf pg ph (suc (suc (suc (suc (suc zero))))) lt = pf
eight_units P a b c d e f g h pa pb pc pd pe pf pg ph (suc (suc (suc (suc (suc (suc zero)))))) lt = pg
eight_units P a b c d e f g h pa pb pc pd pe pf pg ph (suc (suc (suc (suc (suc (suc (suc zero))))))) lt = ph
eight_units P a b c d e f g h pa pb pc pd pe pf pg ph (suc (suc (suc (suc (suc (suc (suc (suc n)))))))) lt =
    absurd (omega (arith, lt))
