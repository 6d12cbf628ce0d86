-- The memory for what is still written, as the array goes on; and what a process that runs needs of it.
use Rattle.std.proofs.Common.{ℕ, zero, suc, ◌≡◌, ◌+◌, ◌*◌, ◌≤◌, ◌<◌, Bool, true, false, List, [], ◌∷◌, length, ◌∙◌}
use Rattle.std.proofs.Common.{refl, sym, ap, subst, cond, arith, Option, Some, None, Result, Ok, Err}
use Rattle.std.specs.Prelude.{if◌then◌else◌, ◌&&◌, ◌==◌, is_none, is_some, nat_lt, nat_le}
use Rattle.std.specs.Option.{option_map, option_or}
use Rattle.std.specs.List.{find}
use Rattle.std.proofs.lemmas.Bool.{eqb-true, and_parts}
use Rattle.std.proofs.lemmas.Bool.Decides.{nat_tests}
use Rattle.bus_base.specs.declared.Event.{Event}
use Rattle.bus_base.specs.declared.ProcId.{ProcId}
use Rattle.cdb_codec.specs.Blocks.{blocks_moved}
use Rattle.cdb_codec.specs.Cdb.{command_of}
use Rattle.cdb_codec.specs.declared.command.Command.{Command}
use Rattle.cdb_codec.specs.declared.command.CdbFault.{CdbFault}
use Rattle.cdb_codec.specs.declared.status.TheConstants.{GOOD}
use Rattle.scenario.specs.declared.value.CmdDef.{CmdDef}
use Rattle.scenario.specs.declared.value.FillDef.{FillDef}
use Rattle.scenario.specs.declared.value.UnitDef.{UnitDef}
use Rattle.scenario.specs.declared.value.TapeDef.{TapeDef}
use Rattle.scenario.specs.Lookups.{disk_of as disk_line, has_target, is_tape, tape_of, tape_unit, unit_of, units_of}
use Rattle.scenario.specs.Needs.{is_write, moved_by, need_at, sent_of}
use Rattle.scenario.specs.Value.{ScenarioValue}
use Rattle.scenario.proofs.UnitLines.{unit_is}
use Rattle.scenario.proofs.TapeNeeds.{need_is}
use Rattle.array_model.specs.ArrayHistory.{array_after, array_step, reply_in}
use Rattle.array_model.specs.Contents.{Contents, blank_contents, filled_contents, is_reeled, loaded_contents}
use Rattle.array_model.specs.Contents.{starting_contents, with_block}
use Rattle.array_model.specs.Reels.{Reel}
use Rattle.array_model.specs.Execution.{Reply, execution, is_request_sense, queue_full}
use Rattle.array_model.specs.Processes.{Process, process_of, process_if, process_by, command_at, payload_bytes}
use Rattle.array_model.specs.Processes.{sense_block, same_id}
use Rattle.array_model.specs.Seats.{seat_of, contents_of, context_of}
use Rattle.array_model.specs.SoundArray.{IsOwn}
use Rattle.array_model.specs.Units.{Array, UnitState, contents_at_start, settled_array, starting_array}
use Rattle.array_model.specs.Units.{starting_unit, starting_units, unit_state_at}
use Rattle.array_model.proofs.NamedBlocks.{serial_is}
use Rattle.array_model.proofs.SeatReplies.{id_self}
use Rattle.disk_unit.specs.Disk.{blocks_written}
use Rattle.disk_unit.specs.Held.{UnitKind, a_tape, cost_by, disk_of, kind_by, kind_of, kind_with, taken_now}
use Rattle.disk_unit.proofs.MediumFacts.{need_taken}
use Rattle.scsi_device.specs.Lines.{FitsBus, IsCommandLine}
use Rattle.scsi_device.proofs.FitLines.{command_fits, unit_fits}
use Rattle.scsi_device.proofs.SentBytes.{process_few}
use Rattle.target_units.specs.Fillings.{blocks_by, blocks_by_all, blocks_at}
use Rattle.target_units.specs.declared.logical.LogicalUnit.{LogicalUnit}
use Rattle.target_units.specs.Units.{HaveRoom, spare_of, unit_in}
use Rattle.target_units.specs.Rooms.{blocks_left, blocks_left_at, IsOfLine, AreOfLines, IsOfKind, AreOfKinds}
use Rattle.target_units.specs.Rooms.{HasRoomFor}
use Rattle.target_units.proofs.Starts.{start_settled}
use Rattle.target_units.proofs.UnitTimes.{AreSame, HasMore, IsLike, like_self, like_more, one_more, IsLater}
use Rattle.target_units.proofs.UnitTimes.{step_later}
use Rattle.array_model.proofs.SeatLookups.{never_first}
use Rattle.cdb_codec.specs.declared.command.Command.TheVariants as commands

-- ---- the blocks of a unit stay those of its line, and a tape stays a tape

line_after : (o : Option UnitDef) (us vs : List UnitState) (t n : ℕ) → AreSame us vs → IsOfLine o (unit_state_at us t n)
    → IsOfLine o (unit_state_at vs t n)
line_after o [] [] t n h k = k
line_after o [] (v ∷ vs) t n h k = absurd h
line_after o (u ∷ us) [] t n h k = absurd h
line_after o (u ∷ us) (v ∷ vs) t n h k = subst (λ (x : Option UnitState). IsOfLine o x)
    (λ i. if sym h.0 i == t && sym h.1 i == n then Some v else unit_state_at vs t n)
    (go o (u.target == t && u.unit == n) k (λ m. line_after o us vs t n h.3 m))
  where
    go : (x : Option UnitDef) (y : Bool) → IsOfLine x (if y then Some u else unit_state_at us t n)
        → (IsOfLine x (unit_state_at us t n) → IsOfLine x (unit_state_at vs t n))
        → IsOfLine x (if y then Some v else unit_state_at vs t n)
    go None true m more = absurd m
    go (Some d) true m more = (h.2.count ∙ m.0, h.2.size ∙ m.1)
    go x false m more = more m

pub lines_after : (s : ScenarioValue) (a b : Array) → IsLater a b → AreOfLines s a → AreOfLines s b
lines_after s a b later h = λ t n. line_after (unit_of s t n) a.units b.units t n later.units (h t n)

kind_after : (tape : Bool) (us vs : List UnitState) (t n : ℕ) → AreSame us vs → IsOfKind tape (unit_state_at us t n)
    → IsOfKind tape (unit_state_at vs t n)
kind_after tape [] [] t n h k = k
kind_after tape [] (v ∷ vs) t n h k = absurd h
kind_after tape (u ∷ us) [] t n h k = absurd h
kind_after tape (u ∷ us) (v ∷ vs) t n h k = subst (λ (x : Option UnitState). IsOfKind tape x)
    (λ i. if sym h.0 i == t && sym h.1 i == n then Some v else unit_state_at vs t n)
    (go (u.target == t && u.unit == n) k (λ m. kind_after tape us vs t n h.3 m))
  where
    go : (y : Bool) → IsOfKind tape (if y then Some u else unit_state_at us t n)
        → (IsOfKind tape (unit_state_at us t n) → IsOfKind tape (unit_state_at vs t n))
        → IsOfKind tape (if y then Some v else unit_state_at vs t n)
    go true m more = h.2.kind ∙ m
    go false m more = more m

pub kinds_after : (s : ScenarioValue) (a b : Array) → IsLater a b → AreOfKinds s a → AreOfKinds s b
kinds_after s a b later h = λ t n. kind_after (is_tape s t n) a.units b.units t n later.units (h t n)

-- ---- before any event

filled_like : (u : UnitDef) (fills : List FillDef) (c : Contents) → IsLike c (filled_contents u fills c)
filled_like u [] c = like_self c
filled_like u (f ∷ fills) c = go (f.target == u.target && f.unit == u.unit) (λ d. filled_like u fills d)
  where
    go : (y : Bool) → ((d : Contents) → IsLike d (filled_contents u fills d))
        → IsLike c (filled_contents u fills (if y then with_block c f.lba f.bytes else c))
    go true more =
        let next : Contents = with_block c f.lba f.bytes in
        like_more c next (filled_contents u fills next) (record { count = refl; size = refl; kind = refl }) (more next)
    go false more = more c

-- A unit holds as many blocks as its line says, and is a tape exactly where that is one of a tape.
record IsStart (s : ScenarioValue) (u : UnitDef) : Type 0 where
  count : (contents_at_start s u).count ≡ u.blocks
  size : (contents_at_start s u).size ≡ u.size
  kind : is_reeled (contents_at_start s u) ≡ is_tape s u.target u.unit

abbrev IsStartOf : UnitDef → Bool → Contents → Type 0
IsStartOf u tape c = (c.count ≡ u.blocks) × (c.size ≡ u.size) × (is_reeled c ≡ tape)

start_is : (s : ScenarioValue) (u : UnitDef) → IsStart s u
start_is s u = record { count = so.0; size = so.1; kind = so.2 }
  where
    disk : IsLike (blank_contents u.blocks u.size) (starting_contents u s.fills)
    disk = filled_like u s.fills (blank_contents u.blocks u.size)

    go : (tape : Bool) → IsStartOf u tape (if tape then loaded_contents u s.loads else starting_contents u s.fills)
    go true = (refl, refl, refl)
    go false = (disk.count, disk.size, disk.kind)

    so : IsStartOf u (is_tape s u.target u.unit) (contents_at_start s u)
    so = go (is_tape s u.target u.unit)

line_start : (s : ScenarioValue) (us : List UnitDef) (t n : ℕ)
    → IsOfLine (find (λ (u : UnitDef). u.target == t && u.unit == n) us) (unit_state_at (starting_units s us) t n)
line_start s [] t n = tt
line_start s (u ∷ us) t n = go (u.target == t && u.unit == n) (line_start s us t n)
  where
    go : (y : Bool)
        → IsOfLine (find (λ (v : UnitDef). v.target == t && v.unit == n) us) (unit_state_at (starting_units s us) t n)
        → IsOfLine (cond y (Some u) (find (λ (v : UnitDef). v.target == t && v.unit == n) us))
        (if y then Some (starting_unit s u) else unit_state_at (starting_units s us) t n)
    go true more = ((start_is s u).count, (start_is s u).size)
    go false more = more

lines_first : (s : ScenarioValue) → AreOfLines s (starting_array s)
lines_first s = λ t n. line_start s (units_of s) t n

pub lines_start : (s : ScenarioValue) → AreOfLines s (settled_array (starting_array s))
lines_start s = subst (λ (a : Array). AreOfLines s a) (sym (start_settled s)) (lines_first s)

kind_start : (s : ScenarioValue) (us : List UnitDef) (t n : ℕ)
    → IsOfKind (is_tape s t n) (unit_state_at (starting_units s us) t n)
kind_start s [] t n = tt
kind_start s (u ∷ us) t n = go (u.target == t && u.unit == n) refl (kind_start s us t n)
  where
    go : (y : Bool) → (u.target == t && u.unit == n) ≡ y
        → IsOfKind (is_tape s t n) (unit_state_at (starting_units s us) t n)
        → IsOfKind (is_tape s t n) (if y then Some (starting_unit s u) else unit_state_at (starting_units s us) t n)
    go true e more =
        let both = and_parts (u.target == t) (u.unit == n) e in
        (start_is s u).kind ∙ (λ i. is_tape s (eqb-true u.target t both.0 i) (eqb-true u.unit n both.1 i))
    go false e more = more

kinds_first : (s : ScenarioValue) → AreOfKinds s (starting_array s)
kinds_first s = λ t n. kind_start s (units_of s) t n

pub kinds_start : (s : ScenarioValue) → AreOfKinds s (settled_array (starting_array s))
kinds_start s = subst (λ (a : Array). AreOfKinds s a) (sym (start_settled s)) (kinds_first s)

-- ---- after every history

-- What holds at the start and goes on holds always.
always : (s : ScenarioValue) (Is : Array → Type 0) → Is (settled_array (starting_array s))
    → ((a b : Array) → IsLater a b → Is a → Is b) → (history : List Event) (a : Array)
    → array_after s history ≡ Some a → Is a
always s Is first later [] a e =
    let same : settled_array (starting_array s) ≡ a = cc in
    subst Is same first
always s Is first later (event ∷ history) a e =
    go (array_after s history) e (λ b f. always s Is first later history b f)
  where
    go : (x : Option Array) → array_step s event x ≡ Some a → ((b : Array) → x ≡ Some b → Is b) → Is a
    go None k before = cc
    go (Some b) k before = later b a (step_later s b a event k) (before b refl)

pub lines_always : (s : ScenarioValue) (history : List Event) (a : Array) → array_after s history ≡ Some a
    → AreOfLines s a
lines_always s = always s (AreOfLines s) (lines_start s) (λ a b later h. lines_after s a b later h)

pub kinds_always : (s : ScenarioValue) (history : List Event) (a : Array) → array_after s history ≡ Some a
    → AreOfKinds s a
kinds_always s = always s (AreOfKinds s) (kinds_start s) (λ a b later h. kinds_after s a b later h)

-- ---- the unit of a process

-- Its process is serial exactly where it is a tape.
pub kind_at : (s : ScenarioValue) (a : Array) (dev n : ℕ) (p : Process) → AreOfKinds s a → IsOwn s dev n p
    → IsOfKind p.serial (unit_state_at a.units dev n)
kind_at s a dev n p kinds own = subst (λ (tape : Bool). IsOfKind tape (unit_state_at a.units dev n))
    (sym (serial_is s p own.is ∙ (λ i. is_tape s (own.target_is i) (own.unit_is i)))) (kinds dev n)

-- No tape is where no unit is.
pub none_tape : (s : ScenarioValue) (t n : ℕ) → unit_of s t n ≡ None → is_tape s t n ≡ false
none_tape s t n e = go (disk_line s t n) (tape_of s t n) (sym (unit_is s t n) ∙ e)
  where
    go : (disk : Option UnitDef) (tape : Option TapeDef) → option_or disk (option_map tape_unit tape) ≡ None
        → is_some tape ≡ false
    go disk None k = refl
    go None (Some d) k = cc
    go (Some d) (Some f) k = cc

-- Whether the unit is a tape, as the array has it.
pub reeled_at : (s : ScenarioValue) (a : Array) (t n : ℕ) → AreOfLines s a → AreOfKinds s a
    → is_reeled (contents_of (unit_state_at a.units t n)) ≡ is_tape s t n
reeled_at s a t n lines kinds = go (unit_of s t n) refl (unit_state_at a.units t n) (lines t n) (kinds t n)
  where
    go : (o : Option UnitDef) → unit_of s t n ≡ o → (x : Option UnitState) → IsOfLine o x → IsOfKind (is_tape s t n) x
        → is_reeled (contents_of x) ≡ is_tape s t n
    go None f None h k = sym (none_tape s t n f)
    go None f (Some v) h k = absurd h
    go (Some u) f None h k = absurd h
    go (Some u) f (Some v) h k = k

-- ---- the blocks that are left

pub left_less : (old new : List (ProcId × Reply)) → HasMore old new
    → (kind : UnitKind) (u : UnitDef) (n : ℕ) (cs : List CmdDef)
    → blocks_left new kind u n cs ≤ blocks_left old kind u n cs
left_less old new more kind u n [] = omega arith
left_less old new more kind u n (c ∷ cs) = go (reply_in new (record { command = n; sense = false })) refl
    (reply_in old (record { command = n; sense = false })) refl (left_less old new more kind u (suc n) cs)
  where
    go : (x : Option Reply) → reply_in new (record { command = n; sense = false }) ≡ x
        → (y : Option Reply) → reply_in old (record { command = n; sense = false }) ≡ y
        → blocks_left new kind u (suc n) cs ≤ blocks_left old kind u (suc n) cs
        → (if is_none x then blocks_by kind u c else 0) + blocks_left new kind u (suc n) cs
        ≤ (if is_none y then blocks_by kind u c else 0) + blocks_left old kind u (suc n) cs
    go None f None g k = omega (arith, k)
    go None f (Some r) g k = let bad : None ≡ Some r = sym (more (record { command = n; sense = false }) f) ∙ g in cc
    go (Some r) f None g k = omega (arith, k)
    go (Some r) f (Some q) g k = omega (arith, k)

-- One command has no reply before, and has one afterwards.
left_without : (old new : List (ProcId × Reply)) → HasMore old new
    → (kind : UnitKind) (u : UnitDef) (n : ℕ) (cs : List CmdDef) (m j : ℕ) (c : CmdDef) (r : Reply) → j ≡ n + m
    → command_at cs (suc m) ≡ Some c → reply_in old (record { command = j; sense = false }) ≡ None
    → reply_in new (record { command = j; sense = false }) ≡ Some r
    → blocks_by kind u c + blocks_left new kind u n cs ≤ blocks_left old kind u n cs
left_without old new more kind u n [] m j c r at e before after = cc
left_without old new more kind u n (d ∷ cs) zero j c r at e before after =
    let same : d ≡ c = cc in
    let number : j ≡ n = omega (arith, at) in
    let none : reply_in old (record { command = n; sense = false }) ≡ None =
    (λ i. reply_in old (record { command = sym number i; sense = false })) ∙ before in
    let some : reply_in new (record { command = n; sense = false }) ≡ Some r =
    (λ i. reply_in new (record { command = sym number i; sense = false })) ∙ after in
    let rest = left_less old new more kind u (suc n) cs in
    let first : blocks_left new kind u n (d ∷ cs) ≡ blocks_left new kind u (suc n) cs =
    (λ i. (if is_none (some i) then blocks_by kind u d else 0) + blocks_left new kind u (suc n) cs) ∙ omega arith in
    let last : blocks_left old kind u n (d ∷ cs) ≡ blocks_by kind u c + blocks_left old kind u (suc n) cs =
    (λ i. (if is_none (none i) then blocks_by kind u (same i) else 0) + blocks_left old kind u (suc n) cs) in
    omega (arith, rest, first, last)
left_without old new more kind u n (d ∷ cs) (suc m) j c r at e before after =
    let later : j ≡ suc n + m = omega (arith, at) in
    go (reply_in new (record { command = n; sense = false })) refl
    (reply_in old (record { command = n; sense = false })) refl
    (left_without old new more kind u (suc n) cs m j c r later e before after)
  where
    go : (x : Option Reply) → reply_in new (record { command = n; sense = false }) ≡ x
        → (y : Option Reply) → reply_in old (record { command = n; sense = false }) ≡ y
        → blocks_by kind u c + blocks_left new kind u (suc n) cs ≤ blocks_left old kind u (suc n) cs
        → blocks_by kind u c + ((if is_none x then blocks_by kind u d else 0) + blocks_left new kind u (suc n) cs)
        ≤ (if is_none y then blocks_by kind u d else 0) + blocks_left old kind u (suc n) cs
    go None f None g k = omega (arith, k)
    go None f (Some q) g k = let bad : None ≡ Some q = sym (more (record { command = n; sense = false }) f) ∙ g in cc
    go (Some q) f None g k = omega (arith, k)
    go (Some q) f (Some z) g k = omega (arith, k)

left_start : (kind : UnitKind) (u : UnitDef) (n : ℕ) (cs : List CmdDef)
    → blocks_left [] kind u n cs ≡ blocks_by_all kind u cs
left_start kind u n [] = refl
left_start kind u n (c ∷ cs) = ap (λ (k : ℕ). blocks_by kind u c + k) (left_start kind u (suc n) cs)

pub left_at_start : (s : ScenarioValue) (o : Option UnitDef) → blocks_left_at [] s o ≡ blocks_at s o
left_at_start s None = refl
left_at_start s (Some u) = left_start (kind_by s u) u 1 s.commands

pub left_at_less : (old new : List (ProcId × Reply)) → HasMore old new → (s : ScenarioValue) (o : Option UnitDef)
    → blocks_left_at new s o ≤ blocks_left_at old s o
left_at_less old new more s None = omega arith
left_at_less old new more s (Some u) = left_less old new more (kind_by s u) u 1 s.commands

-- ---- the memory before any event

pub room_start : (s : ScenarioValue) (dev : ℕ) (units : List LogicalUnit) → FitsBus s → has_target s dev ≡ true
    → ((n : ℕ) → n < 8 → blocks_at s (unit_of s dev n) ≤ spare_of (unit_in units n))
    → HaveRoom s (starting_array s) dev units
room_start s dev units fits target spare = record {
  fits = fits;
  target = target;
  lines = lines_first s;
  kinds = kinds_first s;
  left = λ n lt. subst (λ (k : ℕ). k ≤ spare_of (unit_in units n)) (sym (left_at_start s (unit_of s dev n)))
      (spare n lt);
}

-- ---- a process of a command of the scenario

pub record IsByLine (s : ScenarioValue) (p : Process) : Type 0 where
  pub line : CmdDef
  pub is : command_at s.commands p.id.command ≡ Some line
  pub target : p.target ≡ line.target
  pub unit : p.unit ≡ line.unit
  pub cdb : p.cdb ≡ line.cdb
  pub sent : p.sent ≡ payload_bytes line.payload (sent_of s line)

pub by_line : (s : ScenarioValue) (p : Process) → process_of s p.id ≡ Some p → p.id.sense ≡ false → IsByLine s p
by_line s p e plain = go (command_at s.commands p.id.command) refl e
  where
    go : (x : Option CmdDef) → command_at s.commands p.id.command ≡ x → process_if s p.id x ≡ Some p → IsByLine s p
    go None f k = cc
    go (Some c) f k =
        let made : process_by s p.id c ≡ p = cc in
        let by : process_by s (record { command = p.id.command; sense = false }) c ≡ p =
        (λ i. process_by s (record { command = p.id.command; sense = sym plain i }) c) ∙ made in
        record {
          line = c;
          is = f;
          target = λ i. (sym by i).target;
          unit = λ i. (sym by i).unit;
          cdb = λ i. (sym by i).cdb;
          sent = λ i. (sym by i).sent;
        }

-- ---- what it sends are the bytes that it takes

-- No unit is there: a write needs nothing.
sends_none : (r : Result Command CdbFault) → (if is_write r then moved_by r None else 0) ≡ 0
sends_none (Err fault) = refl
sends_none (Ok commands.TestUnitReady) = refl
sends_none (Ok (commands.RequestSense room)) = refl
sends_none (Ok (commands.Read6 lba count)) = refl
sends_none (Ok (commands.Write6 lba count)) = refl
sends_none (Ok (commands.Inquiry room)) = refl
sends_none (Ok commands.ReadCapacity) = refl
sends_none (Ok (commands.Read10 lba count)) = refl
sends_none (Ok (commands.Write10 lba count)) = refl

sent_is : (s : ScenarioValue) (c : CmdDef) → has_target s c.target ≡ true → sent_of s c
    ≡ (if is_write (command_of c.cdb) then need_at (is_tape s c.target c.unit) c.cdb (unit_of s c.target c.unit) else 0)
unfolding sent_of
sent_is s c t = λ i. if is_write (command_of c.cdb) then need_is s c t i else 0

-- The bytes that it sends, where it is carried out, are those that it takes; and they are few.
pub record Sends (a : Array) (p : Process) : Type 0 where
  pub bytes : (execution (context_of (seat_of a p.target p.unit) p.initiator) p.cdb p.sent).reply.status ≡ GOOD
      → length p.sent ≡ taken_now (contents_of (unit_state_at a.units p.target p.unit)) p.cdb
  pub few : length p.sent ≤ 65536

pub sends : (s : ScenarioValue) (a : Array) (p : Process) → FitsBus s → AreOfLines s a → AreOfKinds s a
    → has_target s p.target ≡ true → process_of s p.id ≡ Some p → p.id.sense ≡ false → Sends a p
sends s a p fits lines kinds target is plain =
    let by : IsByLine s p = by_line s p is plain in
    let line : IsCommandLine s by.line = command_fits s p.id.command by.line fits by.is in
    let declared : has_target s by.line.target ≡ true = (λ i. has_target s (sym by.target i)) ∙ target in
    let length_is : length p.sent ≡ sent_of s by.line = (λ i. length (by.sent i)) ∙ line.sent in
    let moved : sent_of s by.line ≡ (if is_write (command_of p.cdb)
    then need_at (is_tape s p.target p.unit) p.cdb (unit_of s p.target p.unit) else 0) = sent_is s by.line declared
    ∙ (λ i. if is_write (command_of (sym by.cdb i)) then need_at (is_tape s (sym by.target i) (sym by.unit i))
    (sym by.cdb i) (unit_of s (sym by.target i) (sym by.unit i)) else 0) in
    record {
      bytes = λ good. length_is ∙ moved
          ∙ go (unit_of s p.target p.unit) refl (unit_state_at a.units p.target p.unit) refl (lines p.target p.unit)
          (kinds p.target p.unit) good;
      few = process_few s p.id p fits is;
    }
  where
    go : (o : Option UnitDef) → unit_of s p.target p.unit ≡ o → (x : Option UnitState)
        → unit_state_at a.units p.target p.unit ≡ x → IsOfLine o x → IsOfKind (is_tape s p.target p.unit) x
        → (execution (context_of (seat_of a p.target p.unit) p.initiator) p.cdb p.sent).reply.status ≡ GOOD
        → (if is_write (command_of p.cdb) then need_at (is_tape s p.target p.unit) p.cdb o else 0)
        ≡ taken_now (contents_of x) p.cdb
    go None e None f h k good =
        (λ i. if is_write (command_of p.cdb) then need_at (none_tape s p.target p.unit e i) p.cdb None else 0)
        ∙ sends_none (command_of p.cdb) ∙ none (blocks_written 0 (command_of p.cdb))
      where
        none : (n : ℕ) → 0 ≡ n * 0
        none n = omega arith
    go None e (Some v) f h k good = absurd h
    go (Some u) e None f h k good = absurd h
    go (Some u) e (Some v) f h k good =
        (λ i. if is_write (command_of p.cdb)
        then need_at ((sym k ∙ (λ j. is_reeled (contents_of (sym f j)))) i) p.cdb (Some u) else 0)
        ∙ need_taken (context_of (seat_of a p.target p.unit) p.initiator) u p.cdb p.sent
        ((λ i. (contents_of (f i)).count) ∙ h.0) ((λ i. (contents_of (f i)).size) ∙ h.1) good
        ∙ (λ i. taken_now (contents_of (f i)) p.cdb)

-- ---- a process that runs

-- Of the kind that its line says.
kind_same : (s : ScenarioValue) (u : UnitDef) (v : Contents) → v.count ≡ u.blocks
    → is_reeled v ≡ is_tape s u.target u.unit → kind_by s u ≡ kind_of v
kind_same s u v count kind = go v.reel kind
  where
    go : (r : Option Reel) → is_some r ≡ is_tape s u.target u.unit → kind_by s u ≡ kind_with r v.count
    go None k = λ i. if sym k i then a_tape else disk_of (sym count i)
    go (Some r) k = λ i. if sym k i then a_tape else disk_of u.blocks

named_blocks : (s : ScenarioValue) (c : CmdDef) (u : UnitDef) (v : Contents) → c.target ≡ u.target → c.unit ≡ u.unit
    → v.count ≡ u.blocks → is_reeled v ≡ is_tape s u.target u.unit
    → blocks_by (kind_by s u) u c ≡ cost_by (kind_of v) c.cdb
named_blocks s c u v target unit count kind =
    let one : (c.target == u.target) ≡ true = grind arith in
    let other : (c.unit == u.unit) ≡ true = grind arith in
    (λ i. if one i && other i then cost_by (kind_by s u) c.cdb else 0)
    ∙ (λ i. cost_by (kind_same s u v count kind i) c.cdb)

either : (n : ℕ) (y : Bool) → (if y then n else n) ≡ n
either n true = refl
either n false = refl

no_blocks : (r : Result Command CdbFault) → blocks_written 0 r ≡ 0
no_blocks (Err fault) = refl
no_blocks (Ok commands.TestUnitReady) = refl
no_blocks (Ok (commands.RequestSense room)) = refl
no_blocks (Ok (commands.Read6 lba count)) =
    either 0 (nat_lt lba 0 && nat_le (lba + blocks_moved (commands.Read6 lba count)) 0)
no_blocks (Ok (commands.Write6 lba count)) =
    let none : nat_lt lba 0 ≡ false = grind (arith, nat_tests) in
    λ i. if none i && nat_le (lba + blocks_moved (commands.Write6 lba count)) 0
    then blocks_moved (commands.Write6 lba count) else 0
no_blocks (Ok (commands.Inquiry room)) = refl
no_blocks (Ok commands.ReadCapacity) = refl
no_blocks (Ok (commands.Read10 lba count)) = either 0 (nat_lt lba 0 && nat_le (lba + count) 0)
no_blocks (Ok (commands.Write10 lba count)) =
    let none : nat_lt lba 0 ≡ false = grind (arith, nat_tests) in
    λ i. if none i && nat_le (lba + count) 0 then count else 0

-- What it writes is among what is left, and is left no more once it has a reply.
pub among : (s : ScenarioValue) (a : Array) (dev n : ℕ) (p : Process) (new : List (ProcId × Reply)) (r : Reply)
    → FitsBus s → AreOfLines s a → AreOfKinds s a → IsOwn s dev n p → p.id.sense ≡ false
    → reply_in a.replies p.id ≡ None → HasMore a.replies new → reply_in new p.id ≡ Some r
    → cost_by (kind_of (contents_of (unit_state_at a.units dev n))) p.cdb
    + blocks_left_at new s (unit_of s dev n) ≤ blocks_left_at a.replies s (unit_of s dev n)
among s a dev n p new r fits lines kinds own plain unanswered more answered =
    let by : IsByLine s p = by_line s p own.is plain in
    go by (unit_of s dev n) refl (unit_state_at a.units dev n) (lines dev n) (kinds dev n)
  where
    id_is : p.id ≡ record { command = p.id.command; sense = false }
    id_is = λ i. record { command = p.id.command; sense = plain i }

    counted : (c : CmdDef) (kind : UnitKind) (u : UnitDef) (k : ℕ) → p.id.command ≡ k
        → command_at s.commands k ≡ Some c
        → blocks_by kind u c + blocks_left new kind u 1 s.commands ≤ blocks_left a.replies kind u 1 s.commands
    counted c kind u zero e f = absurd (never_first s.commands c f)
    counted c kind u (suc m) e f = left_without a.replies new more kind u 1 s.commands m p.id.command c r
        (omega (arith, e)) f ((λ i. reply_in a.replies (sym id_is i)) ∙ unanswered)
        ((λ i. reply_in new (sym id_is i)) ∙ answered)

    go : IsByLine s p → (o : Option UnitDef) → unit_of s dev n ≡ o → (x : Option UnitState) → IsOfLine o x
        → IsOfKind (is_tape s dev n) x
        → cost_by (kind_of (contents_of x)) p.cdb + blocks_left_at new s o ≤ blocks_left_at a.replies s o
    go by None f None h k =
        let none : cost_by (kind_of (contents_of None)) p.cdb ≡ 0 = no_blocks (command_of p.cdb) in
        omega (arith, none)
    go by None f (Some v) h k = absurd h
    go by (Some u) f None h k = absurd h
    go by (Some u) f (Some v) h k =
        let place = unit_fits s dev n u fits f in
        let kind : is_reeled v.contents ≡ is_tape s u.target u.unit =
        k ∙ (λ i. is_tape s (sym place.1 i) (sym place.2 i)) in
        let named : blocks_by (kind_by s u) u by.line ≡ cost_by (kind_of v.contents) by.line.cdb = named_blocks
        s by.line u v.contents (sym by.target ∙ own.target_is ∙ sym place.1) (sym by.unit ∙ own.unit_is ∙ sym place.2)
        h.0 kind in
        let own_blocks : cost_by (kind_of v.contents) p.cdb ≡ blocks_by (kind_by s u) u by.line =
        (λ i. cost_by (kind_of v.contents) (by.cdb i)) ∙ sym named in
        let all = counted by.line (kind_by s u) u p.id.command refl by.is in
        omega (arith, own_blocks, all)

-- It has room, and afterwards so have those that are still to run.
pub has_room : (s : ScenarioValue) (a : Array) (dev n spare : ℕ) (p : Process) → FitsBus s → AreOfLines s a
    → AreOfKinds s a → has_target s dev ≡ true → blocks_left_at a.replies s (unit_of s dev n) ≤ spare → IsOwn s dev n p
    → p.id.sense ≡ false → reply_in a.replies p.id ≡ None → HasRoomFor (seat_of a dev n) p spare
has_room s a dev n spare p fits lines kinds target left own plain unanswered =
    let self : same_id p.id p.id ≡ true = id_self p.id in
    let answered : reply_in ((p.id, queue_full) ∷ a.replies) p.id ≡ Some queue_full =
    λ i. if self i then Some queue_full else reply_in a.replies p.id in
    let one = among s a dev n p ((p.id, queue_full) ∷ a.replies) queue_full fits lines kinds own plain unanswered
    (one_more a.replies p.id queue_full) answered in
    let declared : has_target s p.target ≡ true = (λ i. has_target s (own.target_is i)) ∙ target in
    let all : Sends a p = sends s a p fits lines kinds declared own.is plain in
    record {
      blocks = omega (arith, one, left);
      bytes = λ good. all.bytes ((λ i.
          (execution (context_of (seat_of a (own.target_is i) (own.unit_is i)) p.initiator) p.cdb p.sent).reply.status)
          ∙ good) ∙ (λ i. taken_now (contents_of (unit_state_at a.units (own.target_is i) (own.unit_is i))) p.cdb);
    }

-- ---- a process of the queue is no automatic REQUEST SENSE

pub plain_id : (s : ScenarioValue) (p : Process) → process_of s p.id ≡ Some p
    → is_request_sense (command_of p.cdb) ≡ false → p.id.sense ≡ false
plain_id s p e plain = go p.id.sense refl (command_at s.commands p.id.command) e
  where
    go : (y : Bool) → p.id.sense ≡ y → (x : Option CmdDef) → process_if s p.id x ≡ Some p → y ≡ false
    go false f x k = refl
    go true f None k = cc
    go true f (Some c) k =
        let made : process_by s p.id c ≡ p = cc in
        let block : sense_block ≡ p.cdb =
        (λ i. (process_by s (record { command = p.id.command; sense = sym f i }) c).cdb) ∙ (λ i. (made i).cdb) in
        (λ i. is_request_sense (command_of (block i))) ∙ plain
