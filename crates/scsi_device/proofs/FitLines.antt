-- A scenario that obeys the rules of its text fits the bus.
use Rattle.std.proofs.Common.{ℕ, zero, suc, ◌≡◌, ◌+◌, ◌<◌, Bool, true, false, cond, ◌&&◌, ◌||◌, List, [], ◌∷◌, ◌++◌}
use Rattle.std.proofs.Common.{map, length, Option, Some, None, refl, sym, ap, subst, ◌∙◌, arith}
use Rattle.std.specs.Prelude.{◌==◌, is_some, nat_lt, if◌then◌else◌}
use Rattle.std.specs.List.{AllByRecursion}
use Rattle.std.specs.Option.{option_or, option_map}
use Rattle.bus_base.specs.declared.ProcId.{ProcId}
use Rattle.scenario.specs.declared.value.HostDef.{HostDef}
use Rattle.scenario.specs.declared.value.TargetDef.{TargetDef}
use Rattle.scenario.specs.declared.value.UnitDef.{UnitDef}
use Rattle.scenario.specs.declared.value.FillDef.{FillDef}
use Rattle.scenario.specs.declared.value.TapeDef.{TapeDef}
use Rattle.scenario.specs.declared.value.CmdDef.{CmdDef}
use Rattle.scenario.specs.declared.value.AbortDef.{AbortDef}
use Rattle.scenario.specs.declared.value.Payload.{Payload}
use Rattle.scenario.specs.declared.value.Payload.TheVariants as payloads
use Rattle.scenario.specs.Value.{ScenarioValue}
use Rattle.scenario.specs.Lookups.{tape_unit, units_of, unit_of, disk_of, tape_of}
use Rattle.scenario.specs.Needs.{need_of, sent_of}
use Rattle.scenario.specs.Reading.{is_payload}
use Rattle.scenario.specs.Reasons.{is_block_in}
use Rattle.scenario.specs.Writing.{Obeys, IsHex, IsHexPayload}
use Rattle.scenario.proofs.UnitLines.{line_is, disk_is, tape_is}
use Rattle.due_model.specs.array_model.specs.Processes.{Process, process_by, process_if, command_at, command_process}
use Rattle.due_model.specs.array_model.specs.Processes.{payload_bytes, bytes_from, sense_process}
use Rattle.due_model.specs.array_model.specs.Contents.{loaded_objects}
use Rattle.due_model.specs.array_model.specs.Units.{starting_unit, starting_units, unit_state_at}
use Rattle.due_model.specs.array_model.specs.SoundArray.{AreApart, HasSeats}
use Rattle.due_model.specs.array_model.specs.Seats.{is_initiator}
use Rattle.due_model.specs.story_model.specs.HistoryEvents.{abort_line_at}
use Rattle.due_model.specs.story_model.specs.TraceHistory.{retries_of}
use Rattle.due_model.specs.Defs.{host_of, target_def_of}
use Rattle.scsi_device.specs.NoUnits.{has_unit}
use Rattle.scsi_device.specs.Lines.{IsHostLine, IsTargetLine, IsUnitLine, IsTapeLine, IsLogicalUnit, IsCommandLine}
use Rattle.scsi_device.specs.Lines.{IsAbortLine, FitsBus, AreUnits}
use Rattle.bus_base.proofs.Tests.{all_append}
use Rattle.scsi_device.proofs.Finds.{some_is, none_some, all_are, all_both, all_map, find_none, found_any, found_passes}
use Rattle.scsi_device.proofs.Finds.{found_holds}
use Rattle.scsi_device.proofs.LineReads.{IsHostWithin}
use Rattle.scsi_device.proofs.LoadLines.{IsLoaded}
use Rattle.scsi_device.proofs.LinesSoFar.{IsTargetFit, IsUnitFit, IsTapeFit, IsCommandFit, IsAbortFit, AreUnitsApart}
use Rattle.scsi_device.proofs.LinesSoFar.{AreFit, host_at, target_at, unit_at, tape_at}
use Rattle.scsi_device.proofs.LinesBuilt.{obeys_fit}
use Rattle.std.proofs.lemmas.Bool.{eqb-true, and_parts}

-- ---- all units: the disks and the tapes

pub each_unit : (P : UnitDef → Type 0) (s : ScenarioValue) → AllByRecursion P s.units
    → AllByRecursion P (map tape_unit s.tapes) → AllByRecursion P (units_of s)
each_unit P s disks tapes = all_append P s.units (map tape_unit s.tapes) disks tapes

-- ---- an initiator is no target, and has no units

true_false : (q : Bool) → q ≡ true → q ≡ false → ⊥
true_false q e f = cc

no_target_there : (hosts : List HostDef) (targets : List TargetDef) (dev : ℕ)
    → AllByRecursion (IsTargetFit hosts) targets → is_initiator hosts dev ≡ true → target_at targets dev ≡ None
no_target_there hosts [] dev a e = refl
no_target_there hosts (t ∷ targets) dev a e = go (t.dev == dev) refl (no_target_there hosts targets dev a.1 e)
  where
    go : (q : Bool) → (t.dev == dev) ≡ q → target_at targets dev ≡ None → cond q (Some t) (target_at targets dev) ≡ None
    go true is more = absurd (true_false (is_initiator hosts dev) e
        (subst (λ (d : ℕ). is_initiator hosts d ≡ false) (eqb-true t.dev dev is) (a.0).no_host))
    go false is more = more

no_unit_there : (hosts : List HostDef) (units : List UnitDef) (dev : ℕ)
    → AllByRecursion (λ (u : UnitDef). is_initiator hosts u.target ≡ false) units → is_initiator hosts dev ≡ true
    → has_unit units dev ≡ false
no_unit_there hosts [] dev a e = refl
no_unit_there hosts (u ∷ units) dev a e = go (u.target == dev) refl (no_unit_there hosts units dev a.1 e)
  where
    go : (q : Bool) → (u.target == dev) ≡ q → has_unit units dev ≡ false → (q || has_unit units dev) ≡ false
    go true is more = absurd (true_false (is_initiator hosts dev) e
        (subst (λ (d : ℕ). is_initiator hosts d ≡ false) (eqb-true u.target dev is) a.0))
    go false is more = more

no_hosts : (s : ScenarioValue) → AreFit s
    → AllByRecursion (λ (u : UnitDef). is_initiator s.hosts u.target ≡ false) (units_of s)
no_hosts s a = each_unit (λ (u : UnitDef). is_initiator s.hosts u.target ≡ false) s
    (all_are (IsUnitFit s.hosts) (λ (u : UnitDef). is_initiator s.hosts u.target ≡ false) s.units
    (λ u w. w.no_host) a.units)
    (all_map (λ (u : UnitDef). is_initiator s.hosts u.target ≡ false) tape_unit s.tapes
    (all_are (IsTapeFit s.hosts) (λ (t : TapeDef). is_initiator s.hosts t.target ≡ false) s.tapes
    (λ t w. w.no_host) a.tapes))

retries_found : (hosts : List HostDef) (dev : ℕ) (h : HostDef) → host_at hosts dev ≡ Some h
    → h.retries ≡ retries_of hosts dev
retries_found [] dev h e = absurd (none_some h e)
retries_found (g ∷ hosts) dev h e = go (g.dev == dev) (λ z. retries_found hosts dev h z) e
  where
    go : (q : Bool) → (host_at hosts dev ≡ Some h → h.retries ≡ retries_of hosts dev)
        → cond q (Some g) (host_at hosts dev) ≡ Some h → h.retries ≡ (if q then g.retries else retries_of hosts dev)
    go true more z = ap (λ (x : HostDef). x.retries) (sym (some_is g h z))
    go false more z = more z

host_line : (s : ScenarioValue) (h : HostDef) → AreFit s → IsHostWithin h → host_at s.hosts h.dev ≡ Some h
    → IsHostLine s h
host_line s h a w e =
    let is : is_initiator s.hosts h.dev ≡ true = found_any (λ (x : HostDef). x.dev == h.dev) s.hosts h e in
    record {
      below = w.below;
      latency = w.latency;
      lag = w.lag;
      most = w.most;
      few = w.few;
      host_is = e;
      is_one = is;
      no_target = no_target_there s.hosts s.targets h.dev a.targets is;
      retries_are = retries_found s.hosts h.dev h e;
      no_unit = no_unit_there s.hosts (units_of s) h.dev (no_hosts s a) is;
    }

target_line : (s : ScenarioValue) (t : TargetDef) → IsTargetFit s.hosts t → target_at s.targets t.dev ≡ Some t
    → IsTargetLine s t
target_line s t w e = record {
  below = w.limits.below;
  latency = w.limits.latency;
  few = w.limits.few;
  seek = w.limits.seek;
  target_is = e;
  no_host = find_none (λ (x : HostDef). x.dev == t.dev) s.hosts w.no_host;
  is_none = w.no_host;
}

-- ---- units as they start

starts_found : (s : ScenarioValue) (units : List UnitDef) (target unit : ℕ) (u : UnitDef)
    → unit_at units target unit ≡ Some u → unit_state_at (starting_units s units) target unit ≡ Some (starting_unit s u)
starts_found s [] target unit u e = absurd (none_some u e)
starts_found s (v ∷ units) target unit u e =
    go (v.target == target && v.unit == unit) (λ z. starts_found s units target unit u z) e
  where
    go : (q : Bool) → (unit_at units target unit ≡ Some u
        → unit_state_at (starting_units s units) target unit ≡ Some (starting_unit s u))
        → cond q (Some v) (unit_at units target unit) ≡ Some u
        → (if q then Some (starting_unit s v) else unit_state_at (starting_units s units) target unit)
        ≡ Some (starting_unit s u)
    go true more z = ap (λ (x : UnitDef). Some (starting_unit s x)) (some_is v u z)
    go false more z = more z

pub starts_none : (s : ScenarioValue) (units : List UnitDef) (target unit : ℕ) → unit_at units target unit ≡ None
    → unit_state_at (starting_units s units) target unit ≡ None
starts_none s [] target unit e = refl
starts_none s (v ∷ units) target unit e =
    go (v.target == target && v.unit == unit) (λ z. starts_none s units target unit z) e
  where
    go : (q : Bool) → (unit_at units target unit ≡ None → unit_state_at (starting_units s units) target unit ≡ None)
        → cond q (Some v) (unit_at units target unit) ≡ None
        → (if q then Some (starting_unit s v) else unit_state_at (starting_units s units) target unit) ≡ None
    go true more z = absurd (none_some v (sym z))
    go false more z = more z

starts_apart : (s : ScenarioValue) (units : List UnitDef) → AreUnitsApart units → AreApart (starting_units s units)
starts_apart s [] a = tt
starts_apart s (u ∷ units) a = (starts_none s units u.target u.unit a.0, starts_apart s units a.1)

-- No tape stands where a disk does.
no_tape_there : (units : List UnitDef) (tapes : List TapeDef) → AreUnitsApart (units ++ map tape_unit tapes)
    → AllByRecursion (λ (u : UnitDef). tape_at tapes u.target u.unit ≡ None) units
no_tape_there [] tapes a = tt
no_tape_there (u ∷ units) tapes a = (
  go (unit_at units u.target u.unit) (tape_at tapes u.target u.unit) (sym (line_is units tapes u.target u.unit) ∙ a.0),
  no_tape_there units tapes a.1,
)
  where
    go : (disk : Option UnitDef) (tape : Option TapeDef) → option_or disk (option_map tape_unit tape) ≡ None
        → tape ≡ None
    go None None z = refl
    go None (Some t) z = absurd cc
    go (Some v) tape z = absurd cc

-- A disk stands at its place, and no tape; or the other way round.
abbrev IsDiskThere : ScenarioValue → UnitDef → Type 0
IsDiskThere s u = (unit_at s.units u.target u.unit ≡ Some u) × (tape_at s.tapes u.target u.unit ≡ None)

abbrev IsTapeThere : ScenarioValue → TapeDef → Type 0
IsTapeThere s t = (tape_at s.tapes t.target t.unit ≡ Some t) × (unit_at s.units t.target t.unit ≡ None)

unit_line : (s : ScenarioValue) (u : UnitDef) → IsUnitFit s.hosts u → IsDiskThere s u → IsUnitLine s u
unit_line s u w e =
    let there : unit_of s u.target u.unit ≡ Some u = disk_is s u.target u.unit u e.0 in
    record {
      target = w.limits.target;
      unit = w.limits.unit;
      some_blocks = w.limits.some_blocks;
      most_blocks = w.limits.most_blocks;
      least_size = w.limits.least_size;
      most_size = w.limits.most_size;
      some_depth = w.limits.some_depth;
      most_depth = w.limits.most_depth;
      unit_is = there;
      is_disk = ap is_some e.1;
      starts = starts_found s (units_of s) u.target u.unit u there;
      no_host = w.no_host;
    }

are_disks : (s : ScenarioValue) → AreFit s → AllByRecursion (IsUnitLine s) s.units
are_disks s a = all_both (IsUnitFit s.hosts) (IsDiskThere s) (IsUnitLine s) s.units (λ u w e. unit_line s u w e) a.units
    (all_both (λ (u : UnitDef). unit_at s.units u.target u.unit ≡ Some u)
    (λ (u : UnitDef). tape_at s.tapes u.target u.unit ≡ None) (IsDiskThere s) s.units (λ u e n. (e, n)) a.units_once
    (no_tape_there s.units s.tapes a.units_apart))

abbrev IsTapeSound : ScenarioValue → TapeDef → Type 0
IsTapeSound s t = IsTapeFit s.hosts t × IsLoaded t (loaded_objects (tape_unit t) s.loads)

tape_line : (s : ScenarioValue) (t : TapeDef) → IsTapeFit s.hosts t → IsLoaded t (loaded_objects (tape_unit t) s.loads)
    → IsTapeThere s t → IsTapeLine s t
tape_line s t w loaded e =
    let there : unit_of s t.target t.unit ≡ Some (tape_unit t) = tape_is s t.target t.unit t e.1 e.0 in
    record {
      target = w.limits.target;
      unit = w.limits.unit;
      some_objects = w.limits.some_objects;
      most_objects = w.limits.most_objects;
      least_size = w.limits.least_size;
      most_size = w.limits.most_size;
      some_depth = w.limits.some_depth;
      most_depth = w.limits.most_depth;
      tape_is = e.0;
      unit_is = there;
      starts = starts_found s (units_of s) t.target t.unit (tape_unit t) there;
      no_host = w.no_host;
      whole = loaded.whole;
      few = loaded.few;
    }

are_tapes : (s : ScenarioValue) → AreFit s → AllByRecursion (IsTapeLine s) s.tapes
are_tapes s a = all_both (IsTapeSound s) (IsTapeThere s) (IsTapeLine s) s.tapes (λ t w e. tape_line s t w.0 w.1 e)
    (all_both (IsTapeFit s.hosts) (λ (t : TapeDef). IsLoaded t (loaded_objects (tape_unit t) s.loads)) (IsTapeSound s)
    s.tapes (λ t w l. (w, l)) a.tapes a.loads)
    (all_both (λ (t : TapeDef). tape_at s.tapes t.target t.unit ≡ Some t)
    (λ (t : TapeDef). unit_at s.units t.target t.unit ≡ None) (IsTapeThere s) s.tapes (λ t e n. (e, n)) a.tapes_once
    a.tapes_new)

-- A fill is of a disk, which is found before any tape.
fill_line : (s : ScenarioValue) (f : FillDef) → is_block_in (unit_at s.units f.target f.unit) f.lba f.bytes ≡ true
    → is_block_in (unit_of s f.target f.unit) f.lba f.bytes ≡ true
fill_line s f e = go (unit_at s.units f.target f.unit) refl e
  where
    go : (disk : Option UnitDef) → unit_at s.units f.target f.unit ≡ disk → is_block_in disk f.lba f.bytes ≡ true
        → is_block_in (unit_of s f.target f.unit) f.lba f.bytes ≡ true
    go None there z = absurd cc
    go (Some u) there z = (λ i. is_block_in (disk_is s f.target f.unit u there i) f.lba f.bytes) ∙ z

-- ---- what a command sends

length_from : (first n : ℕ) → length (bytes_from first n) ≡ n
length_from first zero = refl
length_from first (suc n) = let w = length_from (first + 1) n in omega arith

payload_length : (p : Payload) (n : ℕ) → is_payload n p ≡ true → length (payload_bytes p n) ≡ n
payload_length payloads.Nothing n e = sym (eqb-true n 0 e)
payload_length (payloads.Hex bytes) n e = eqb-true (length bytes) n (and_parts (nat_lt 0 n) (length bytes == n) e).1
payload_length (payloads.From first) n e = length_from first n

command_line : (s : ScenarioValue) (c : CmdDef) → IsCommandFit s.hosts (sent_of s c) (need_of s c) c
    → IsHex c.cdb × IsHexPayload c.payload → IsCommandLine s c
command_line s c w h = record {
  host = w.limits.host;
  target = w.limits.target;
  unit = w.limits.unit;
  host_is = w.host_is;
  target_is = w.target_is;
  time = w.limits.time;
  some_block = w.limits.some_block;
  most_block = w.limits.most_block;
  block = (h.0).0;
  sent = payload_length c.payload (sent_of s c) w.sends;
  need = w.room;
}

abort_line : (s : ScenarioValue) (a : AbortDef) → IsAbortFit s.hosts a → IsAbortLine s a
abort_line s a w = record {
  host = w.limits.host;
  target = w.limits.target;
  unit = w.limits.unit;
  host_is = w.host_is;
  target_is = w.target_is;
  time = w.limits.time;
}

-- ---- the scenario

pub obeys_fits : (s : ScenarioValue) → Obeys s → FitsBus s
obeys_fits s o =
    let a = obeys_fit s o in
    record {
      hosts = all_both IsHostWithin (λ (h : HostDef). host_at s.hosts h.dev ≡ Some h) (IsHostLine s) s.hosts
          (λ h w e. host_line s h a w e) a.hosts a.hosts_once;
      targets = all_both (IsTargetFit s.hosts) (λ (t : TargetDef). target_at s.targets t.dev ≡ Some t)
          (IsTargetLine s) s.targets (λ t w e. target_line s t w e) a.targets a.targets_once;
      units = are_disks s a;
      tapes = are_tapes s a;
      apart = starts_apart s (units_of s) a.units_apart;
      fills = all_are (λ (f : FillDef). is_block_in (unit_at s.units f.target f.unit) f.lba f.bytes ≡ true)
          (λ (f : FillDef). is_block_in (unit_of s f.target f.unit) f.lba f.bytes ≡ true) s.fills
          (λ f w. fill_line s f w) a.fills;
      commands = all_both (λ (c : CmdDef). IsCommandFit s.hosts (sent_of s c) (need_of s c) c)
          (λ (c : CmdDef). IsHex c.cdb × IsHexPayload c.payload) (IsCommandLine s) s.commands
          (λ c w h. command_line s c w h) a.commands o.commands;
      aborts = all_are (IsAbortFit s.hosts) (IsAbortLine s) s.aborts (λ b w. abort_line s b w) a.aborts;
      resets = a.resets;
      faults = a.faults;
      few_commands = a.few_commands;
      few_aborts = a.few_aborts;
    }

-- ---- its lines, by their numbers and by the devices that they are of

at_number : (P : CmdDef → Type 0) (commands : List CmdDef) (n : ℕ) (c : CmdDef) → AllByRecursion P commands
    → command_at commands n ≡ Some c → P c
at_number P [] n c a e = absurd (none_some c e)
at_number P (d ∷ commands) zero c a e = absurd (none_some c e)
at_number P (d ∷ commands) (suc zero) c a e = subst P (some_is d c e) a.0
at_number P (d ∷ commands) (suc (suc n)) c a e = at_number P commands (suc n) c a.1 e

abort_at_number : (P : AbortDef → Type 0) (aborts : List AbortDef) (n : ℕ) (b : AbortDef) → AllByRecursion P aborts
    → abort_line_at aborts n ≡ Some b → P b
abort_at_number P [] n b a e = absurd (none_some b e)
abort_at_number P (d ∷ aborts) zero b a e = absurd (none_some b e)
abort_at_number P (d ∷ aborts) (suc zero) b a e = subst P (some_is d b e) a.0
abort_at_number P (d ∷ aborts) (suc (suc n)) b a e = abort_at_number P aborts (suc n) b a.1 e

pub command_fits : (s : ScenarioValue) (n : ℕ) (c : CmdDef) → FitsBus s → command_at s.commands n ≡ Some c
    → IsCommandLine s c
command_fits s n c f e = at_number (IsCommandLine s) s.commands n c f.commands e

pub abort_fits : (s : ScenarioValue) (n : ℕ) (b : AbortDef) → FitsBus s → abort_line_at s.aborts n ≡ Some b
    → IsAbortLine s b
abort_fits s n b f e = abort_at_number (IsAbortLine s) s.aborts n b f.aborts e

pub units_are : (s : ScenarioValue) → FitsBus s → AreUnits s
units_are s f = record {
  commands = λ n c e. (command_fits s n c f e).unit;
  aborts = λ n b e. (abort_fits s n b f e).unit;
}

pub host_fits : (s : ScenarioValue) (dev : ℕ) (h : HostDef) → FitsBus s → host_of s dev ≡ Some h
    → IsHostLine s h × (h.dev ≡ dev)
host_fits s dev h f e = (
  found_holds (IsHostLine s) (λ (x : HostDef). x.dev == dev) s.hosts h f.hosts e,
  eqb-true h.dev dev (found_passes (λ (x : HostDef). x.dev == dev) s.hosts h e),
)

pub target_fits : (s : ScenarioValue) (dev : ℕ) (t : TargetDef) → FitsBus s → target_def_of s dev ≡ Some t
    → IsTargetLine s t × (t.dev ≡ dev)
target_fits s dev t f e = (
  found_holds (IsTargetLine s) (λ (x : TargetDef). x.dev == dev) s.targets t f.targets e,
  eqb-true t.dev dev (found_passes (λ (x : TargetDef). x.dev == dev) s.targets t e),
)

pub disk_fits : (s : ScenarioValue) (target unit : ℕ) (u : UnitDef) → FitsBus s → disk_of s target unit ≡ Some u
    → IsUnitLine s u × (u.target ≡ target) × (u.unit ≡ unit)
disk_fits s target unit u f e =
    let both = and_parts (u.target == target) (u.unit == unit)
    (found_passes (λ (x : UnitDef). x.target == target && x.unit == unit) s.units u e) in (
      found_holds (IsUnitLine s) (λ (x : UnitDef). x.target == target && x.unit == unit) s.units u f.units e,
      eqb-true u.target target both.0,
      eqb-true u.unit unit both.1,
    )

pub tape_fits : (s : ScenarioValue) (target unit : ℕ) (t : TapeDef) → FitsBus s → tape_of s target unit ≡ Some t
    → IsTapeLine s t × (t.target ≡ target) × (t.unit ≡ unit)
tape_fits s target unit t f e =
    let both = and_parts (t.target == target) (t.unit == unit)
    (found_passes (λ (x : TapeDef). x.target == target && x.unit == unit) s.tapes t e) in (
      found_holds (IsTapeLine s) (λ (x : TapeDef). x.target == target && x.unit == unit) s.tapes t f.tapes e,
      eqb-true t.target target both.0,
      eqb-true t.unit unit both.1,
    )

disk_unit : (s : ScenarioValue) (u : UnitDef) → IsUnitLine s u → IsLogicalUnit s u
disk_unit s u l = record {
  target = l.target;
  unit = l.unit;
  some_blocks = l.some_blocks;
  most_blocks = l.most_blocks;
  least_size = l.least_size;
  most_size = l.most_size;
  some_depth = l.some_depth;
  most_depth = l.most_depth;
  unit_is = l.unit_is;
  starts = l.starts;
  no_host = l.no_host;
}

tape_as_unit : (s : ScenarioValue) (t : TapeDef) → IsTapeLine s t → IsLogicalUnit s (tape_unit t)
tape_as_unit s t l = record {
  target = l.target;
  unit = l.unit;
  some_blocks = l.some_objects;
  most_blocks = let most = l.most_objects in omega arith;
  least_size = l.least_size;
  most_size = l.most_size;
  some_depth = l.some_depth;
  most_depth = l.most_depth;
  unit_is = l.unit_is;
  starts = l.starts;
  no_host = l.no_host;
}

pub all_units : (s : ScenarioValue) → FitsBus s → AllByRecursion (IsLogicalUnit s) (units_of s)
all_units s f = each_unit (IsLogicalUnit s) s
    (all_are (IsUnitLine s) (IsLogicalUnit s) s.units (λ u l. disk_unit s u l) f.units)
    (all_map (IsLogicalUnit s) tape_unit s.tapes
    (all_are (IsTapeLine s) (λ (t : TapeDef). IsLogicalUnit s (tape_unit t)) s.tapes (λ t l. tape_as_unit s t l)
    f.tapes))

pub unit_fits : (s : ScenarioValue) (target unit : ℕ) (u : UnitDef) → FitsBus s → unit_of s target unit ≡ Some u
    → IsLogicalUnit s u × (u.target ≡ target) × (u.unit ≡ unit)
unit_fits s target unit u f e =
    let both = and_parts (u.target == target) (u.unit == unit)
    (found_passes (λ (x : UnitDef). x.target == target && x.unit == unit) (units_of s) u e) in (
      found_holds (IsLogicalUnit s) (λ (x : UnitDef). x.target == target && x.unit == unit) (units_of s) u
          (all_units s f) e,
      eqb-true u.target target both.0,
      eqb-true u.unit unit both.1,
    )

-- ---- its processes

initiator_is : (s : ScenarioValue) (id : ProcId) (c : CmdDef)
    → (let p : Process = process_by s id c in p.initiator) ≡ c.host
initiator_is s id c = either id.sense
    (sense_process s id c)
    (command_process s id c)
    refl refl
  where
    either : (q : Bool) (one two : Process) → one.initiator ≡ c.host → two.initiator ≡ c.host
        → (let p : Process = if q then one else two in p.initiator) ≡ c.host
    either true one two a b = a
    either false one two a b = b

initiator_below : (s : ScenarioValue) (id : ProcId) (o : Option CmdDef) (p : Process)
    → ((c : CmdDef) → o ≡ Some c → c.host < 8) → process_if s id o ≡ Some p → p.initiator < 8
initiator_below s id None p f e = absurd (none_some p e)
initiator_below s id (Some c) p f e =
    let same : process_by s id c ≡ p = some_is (process_by s id c) p e in
    subst (λ (n : ℕ). n < 8) (sym (initiator_is s id c) ∙ ap (λ (q : Process). q.initiator) same) (f c refl)

pub seats_are : (s : ScenarioValue) → FitsBus s → HasSeats s
seats_are s f = record {
  initiators = λ id p e. initiator_below s id (command_at s.commands id.command) p
      (λ c k. (command_fits s id.command c f k).host) e;
  apart = f.apart;
}
