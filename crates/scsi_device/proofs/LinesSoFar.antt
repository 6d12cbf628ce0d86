-- What holds of the lines of a scenario so far, each after those before it.
use Rattle.std.proofs.Common.{ℕ, ◌≡◌, ◌≤◌, ◌<◌, Bool, true, false, cond, not, ◌||◌, ◌&&◌, List, [], ◌∷◌, ◌++◌, map}
use Rattle.std.proofs.Common.{length, Option, Some, None, refl, sym, ap, subst, ◌∙◌, arith, length-append, append_assoc}
use Rattle.std.specs.Prelude.{◌==◌, nat_lt, nat_le}
use Rattle.std.specs.List.{find, list_any, AllByRecursion}
use Rattle.std.specs.Option.{option_or, option_map}
use Rattle.std.proofs.lemmas.Bool.Decides.{nat_tests}
use Rattle.std.proofs.lemmas.List.{map_push}
use Rattle.scenario.specs.declared.value.HostDef.{HostDef}
use Rattle.scenario.specs.declared.value.TargetDef.{TargetDef}
use Rattle.scenario.specs.declared.value.UnitDef.{UnitDef}
use Rattle.scenario.specs.declared.value.FillDef.{FillDef}
use Rattle.scenario.specs.declared.value.TapeDef.{TapeDef}
use Rattle.scenario.specs.declared.value.LoadDef.{LoadDef}
use Rattle.scenario.specs.declared.value.CmdDef.{CmdDef}
use Rattle.scenario.specs.declared.value.AbortDef.{AbortDef}
use Rattle.scenario.specs.declared.value.ResetDef.{ResetDef}
use Rattle.scenario.specs.declared.value.FaultDef.{FaultDef}
use Rattle.scenario.specs.Value.{ScenarioValue}
use Rattle.scenario.specs.Lookups.{has_host, has_target, has_device, tape_unit, units_of, unit_of, disk_of, tape_of}
use Rattle.scenario.specs.Lookups.{loads_at}
use Rattle.scenario.specs.Needs.{need_of, sent_of}
use Rattle.scenario.specs.Reasons.{is_block_in}
use Rattle.scenario.specs.Reading.{is_payload, has_room, has_abort_room, in_order, fits_tape}
use Rattle.scenario.proofs.UnitLines.{plain_units, plain_unit, unit_is}
use Rattle.scsi_device.proofs.Finds.{some_is, all_more, all_are, all_both, all_of_none, find_kept, find_new, find_not}
use Rattle.scsi_device.proofs.Finds.{find_none, find_rest}
use Rattle.scsi_device.proofs.LineReads.{IsHostWithin, IsTargetWithin, IsUnitWithin, IsTapeWithin, IsCommandWithin}
use Rattle.scsi_device.proofs.LineReads.{IsAbortWithin, IsUnitRead, IsTapeRead, IsLoadRead, IsFullCommandRead}
use Rattle.scsi_device.proofs.LineReads.{IsAbortRead}
use Rattle.scsi_device.proofs.LoadLines.{IsLoaded, loaded_with, none_loaded}
use Rattle.std.proofs.lemmas.Bool.{not-true, eqb-true, and_parts, or_parts}
use Rattle.bus_base.proofs.Tests.{eq_self}
use Rattle.due_model.specs.array_model.specs.Contents.{loaded_objects}
use Rattle.due_model.specs.array_model.specs.Seats.{is_initiator}

-- ---- lines beside others

abbrev pub host_at : List HostDef → ℕ → Option HostDef
host_at hosts dev = find (λ (h : HostDef). h.dev == dev) hosts

abbrev pub target_at : List TargetDef → ℕ → Option TargetDef
target_at targets dev = find (λ (t : TargetDef). t.dev == dev) targets

abbrev pub unit_at : List UnitDef → ℕ → ℕ → Option UnitDef
unit_at units target unit = find (λ (u : UnitDef). u.target == target && u.unit == unit) units

abbrev pub tape_at : List TapeDef → ℕ → ℕ → Option TapeDef
tape_at tapes target unit = find (λ (t : TapeDef). t.target == target && t.unit == unit) tapes

pub record IsTargetFit (hosts : List HostDef) (t : TargetDef) : Type 0 where
  pub limits : IsTargetWithin t
  pub no_host : is_initiator hosts t.dev ≡ false

pub record IsUnitFit (hosts : List HostDef) (u : UnitDef) : Type 0 where
  pub limits : IsUnitWithin u
  pub no_host : is_initiator hosts u.target ≡ false

pub record IsTapeFit (hosts : List HostDef) (t : TapeDef) : Type 0 where
  pub limits : IsTapeWithin t
  pub no_host : is_initiator hosts t.target ≡ false

pub record IsCommandFit (hosts : List HostDef) (sent need : ℕ) (c : CmdDef) : Type 0 where
  pub limits : IsCommandWithin c
  pub host_is : is_initiator hosts c.host ≡ true
  pub target_is : is_initiator hosts c.target ≡ false
  pub sends : is_payload sent c.payload ≡ true
  pub room : need ≤ 65536

pub record IsAbortFit (hosts : List HostDef) (a : AbortDef) : Type 0 where
  pub limits : IsAbortWithin a
  pub host_is : is_initiator hosts a.host ≡ true
  pub target_is : is_initiator hosts a.target ≡ false

-- No two units are of one target and number.
abbrev pub AreUnitsApart : List UnitDef → Type 0
AreUnitsApart [] = Unit {0}
AreUnitsApart (u ∷ units) = (unit_at units u.target u.unit ≡ None) × AreUnitsApart units

-- Each device and each unit is the one of its line, and a tape stands where no disk does.
pub record AreFit (s : ScenarioValue) : Type 0 where
  pub hosts : AllByRecursion IsHostWithin s.hosts
  pub hosts_once : AllByRecursion (λ h. host_at s.hosts h.dev ≡ Some h) s.hosts
  pub targets : AllByRecursion (IsTargetFit s.hosts) s.targets
  pub targets_once : AllByRecursion (λ t. target_at s.targets t.dev ≡ Some t) s.targets
  pub units : AllByRecursion (IsUnitFit s.hosts) s.units
  pub units_once : AllByRecursion (λ u. unit_at s.units u.target u.unit ≡ Some u) s.units
  pub tapes : AllByRecursion (IsTapeFit s.hosts) s.tapes
  pub tapes_once : AllByRecursion (λ t. tape_at s.tapes t.target t.unit ≡ Some t) s.tapes
  pub tapes_new : AllByRecursion (λ t. unit_at s.units t.target t.unit ≡ None) s.tapes
  pub units_apart : AreUnitsApart (units_of s)
  pub fills : AllByRecursion (λ (f : FillDef). is_block_in (unit_at s.units f.target f.unit) f.lba f.bytes ≡ true)
      s.fills
  pub loads : AllByRecursion (λ t. IsLoaded t (loaded_objects (tape_unit t) s.loads)) s.tapes
  pub commands : AllByRecursion (λ c. IsCommandFit s.hosts (sent_of s c) (need_of s c) c) s.commands
  pub aborts : AllByRecursion (IsAbortFit s.hosts) s.aborts
  pub resets : AllByRecursion (λ (r : ResetDef). r.at ≤ 1000000000000) s.resets
  pub faults : AllByRecursion (λ (f : FaultDef). (f.at ≤ 1000000000000) × (f.bit ≤ 8)) s.faults
  pub few_commands : length s.commands ≤ 4096
  pub few_aborts : length s.aborts ≤ 64

-- ---- the order of the lines: what comes later than a line is not there yet

pub record AreLater (r : ℕ) (s : ScenarioValue) : Type 0 where
  pub targets : r < 3 → s.targets ≡ []
  pub units : r < 4 → s.units ≡ []
  pub fills : r < 5 → s.fills ≡ []
  pub tapes : r < 6 → s.tapes ≡ []
  pub loads : r < 7 → s.loads ≡ []
  pub commands : r < 8 → s.commands ≡ []
  pub aborts : r < 9 → s.aborts ≡ []

pub no_sooner : (last next : ℕ) → in_order last next ≡ true → last ≤ next
no_sooner last next e = go (last == 0) refl e where
  go : (q : Bool) → (last == 0) ≡ q → cond q (next == 1) ((nat_lt 1 next && nat_le last next) && nat_lt last 12) ≡ true
      → last ≤ next
  go true a h = grind (arith, nat_tests)
  go false a h = grind (arith, nat_tests)

pub still : (s : ScenarioValue) (r q : ℕ) → AreLater r s → r ≤ q → AreLater q s
still s r q a le = record {
  targets = λ z. a.targets (omega arith);
  units = λ z. a.units (omega arith);
  fills = λ z. a.fills (omega arith);
  tapes = λ z. a.tapes (omega arith);
  loads = λ z. a.loads (omega arith);
  commands = λ z. a.commands (omega arith);
  aborts = λ z. a.aborts (omega arith);
}

-- ---- one line more

-- An initiator comes before all but initiators.
pub with_host : (s : ScenarioValue) (h : HostDef) → AreFit s → AreLater 2 s
    → IsHostWithin h × (has_device s h.dev ≡ false) → AreFit (record s { hosts = s.hosts ++ h ∷ [] })
unfolding need_of sent_of
with_host s h a l r =
    let new = or_parts (has_host s h.dev) (has_target s h.dev) r.1 in
    let hs : List HostDef = s.hosts ++ h ∷ [] in
    record {
      hosts = all_more IsHostWithin s.hosts h a.hosts r.0;
      hosts_once = all_more (λ (g : HostDef). host_at hs g.dev ≡ Some g) s.hosts h
          (all_are (λ (g : HostDef). host_at s.hosts g.dev ≡ Some g) (λ (g : HostDef). host_at hs g.dev ≡ Some g)
          s.hosts (λ g e. find_kept (λ (x : HostDef). x.dev == g.dev) s.hosts h g e) a.hosts_once)
          (find_new (λ (x : HostDef). x.dev == h.dev) s.hosts h
          (find_none (λ (x : HostDef). x.dev == h.dev) s.hosts new.0) (eq_self h.dev));
      targets = all_of_none (IsTargetFit hs) s.targets (l.targets (omega arith));
      targets_once = a.targets_once;
      units = all_of_none (IsUnitFit hs) s.units (l.units (omega arith));
      units_once = a.units_once;
      tapes = all_of_none (IsTapeFit hs) s.tapes (l.tapes (omega arith));
      tapes_once = a.tapes_once;
      tapes_new = a.tapes_new;
      units_apart = a.units_apart;
      fills = a.fills;
      loads = a.loads;
      commands = all_of_none (λ (c : CmdDef). IsCommandFit hs (sent_of s c) (need_of s c) c) s.commands
          (l.commands (omega arith));
      aborts = all_of_none (IsAbortFit hs) s.aborts (l.aborts (omega arith));
      resets = a.resets;
      faults = a.faults;
      few_commands = a.few_commands;
      few_aborts = a.few_aborts;
    }

-- A target comes before commands.
pub with_target : (s : ScenarioValue) (t : TargetDef) → AreFit s → AreLater 3 s
    → IsTargetWithin t × (has_device s t.dev ≡ false) → AreFit (record s { targets = s.targets ++ t ∷ [] })
with_target s t a l r =
    let new = or_parts (has_host s t.dev) (has_target s t.dev) r.1 in
    let ts : List TargetDef = s.targets ++ t ∷ [] in
    let z : ScenarioValue = record s { targets = ts } in
    record {
      hosts = a.hosts;
      hosts_once = a.hosts_once;
      targets = all_more (IsTargetFit s.hosts) s.targets t a.targets (record { limits = r.0; no_host = new.0 });
      targets_once = all_more (λ (g : TargetDef). target_at ts g.dev ≡ Some g) s.targets t (all_are
          (λ (g : TargetDef). target_at s.targets g.dev ≡ Some g) (λ (g : TargetDef). target_at ts g.dev ≡ Some g)
          s.targets (λ g e. find_kept (λ (x : TargetDef). x.dev == g.dev) s.targets t g e) a.targets_once)
          (find_new (λ (x : TargetDef). x.dev == t.dev) s.targets t
          (find_none (λ (x : TargetDef). x.dev == t.dev) s.targets new.1) (eq_self t.dev));
      units = a.units;
      units_once = a.units_once;
      tapes = a.tapes;
      tapes_once = a.tapes_once;
      tapes_new = a.tapes_new;
      units_apart = a.units_apart;
      fills = a.fills;
      loads = a.loads;
      commands = all_of_none (λ (c : CmdDef). IsCommandFit s.hosts (sent_of z c) (need_of z c) c) s.commands
          (l.commands (omega arith));
      aborts = a.aborts;
      resets = a.resets;
      faults = a.faults;
      few_commands = a.few_commands;
      few_aborts = a.few_aborts;
    }

-- The target of a unit is no initiator.
of_target : (hosts : List HostDef) (targets : List TargetDef) (dev : ℕ) → AllByRecursion (IsTargetFit hosts) targets
    → list_any (λ (t : TargetDef). t.dev == dev) targets ≡ true → is_initiator hosts dev ≡ false
of_target hosts [] dev a e = absurd cc
of_target hosts (t ∷ targets) dev a e = go (t.dev == dev) refl (λ z. of_target hosts targets dev a.1 z) e
  where
    go : (q : Bool) → (t.dev == dev) ≡ q
        → (list_any (λ (x : TargetDef). x.dev == dev) targets ≡ true → is_initiator hosts dev ≡ false)
        → (q || list_any (λ (x : TargetDef). x.dev == dev) targets) ≡ true → is_initiator hosts dev ≡ false
    go true is more z = subst (λ (d : ℕ). is_initiator hosts d ≡ false) (eqb-true t.dev dev is) (a.0).no_host
    go false is more z = more z

other_way : (a b c d : ℕ) → (a == b && c == d) ≡ false → (b == a && d == c) ≡ false
other_way a b c d e = grind (arith, nat_tests)

unit_itself : (a b : ℕ) → (a == a && b == b) ≡ true
unit_itself a b = grind (arith, nat_tests)

apart_more : (units : List UnitDef) (u : UnitDef) → AreUnitsApart units → unit_at units u.target u.unit ≡ None
    → AreUnitsApart (units ++ u ∷ [])
apart_more [] u a e = (refl, tt)
apart_more (v ∷ units) u a e =
    let r = find_rest (λ (x : UnitDef). x.target == u.target && x.unit == u.unit) v units e in (
      find_not (λ (x : UnitDef). x.target == v.target && x.unit == v.unit) units u a.0
          (other_way v.target u.target v.unit u.unit r.0),
      apart_more units u a.1 r.1,
    )

-- A unit comes before tapes and commands.
pub with_unit : (s : ScenarioValue) (u : UnitDef) → AreFit s → AreLater 4 s → IsUnitRead s u
    → AreFit (record s { units = s.units ++ u ∷ [] })
with_unit s u a l r =
    let plain : s.tapes ≡ [] = l.tapes (omega arith) in
    let new : unit_at s.units u.target u.unit ≡ None = sym (plain_unit s u.target u.unit plain) ∙ r.new in
    let us : List UnitDef = s.units ++ u ∷ [] in
    let z : ScenarioValue = record s { units = us } in
    record {
      hosts = a.hosts;
      hosts_once = a.hosts_once;
      targets = a.targets;
      targets_once = a.targets_once;
      units = all_more (IsUnitFit s.hosts) s.units u a.units
          (record { limits = r.limits; no_host = of_target s.hosts s.targets u.target a.targets r.known });
      units_once = all_more (λ (g : UnitDef). unit_at us g.target g.unit ≡ Some g) s.units u
          (all_are (λ (g : UnitDef). unit_at s.units g.target g.unit ≡ Some g)
          (λ (g : UnitDef). unit_at us g.target g.unit ≡ Some g) s.units
          (λ g e. find_kept (λ (x : UnitDef). x.target == g.target && x.unit == g.unit) s.units u g e) a.units_once)
          (find_new (λ (x : UnitDef). x.target == u.target && x.unit == u.unit) s.units u new
          (unit_itself u.target u.unit));
      tapes = a.tapes;
      tapes_once = a.tapes_once;
      tapes_new = all_of_none (λ (t : TapeDef). unit_at us t.target t.unit ≡ None) s.tapes plain;
      units_apart = subst AreUnitsApart (sym (plain_units z plain))
          (apart_more s.units u (subst AreUnitsApart (plain_units s plain) a.units_apart) new);
      fills = all_of_none (λ (f : FillDef). is_block_in (unit_at us f.target f.unit) f.lba f.bytes ≡ true) s.fills
          (l.fills (omega arith));
      loads = a.loads;
      commands = all_of_none (λ (c : CmdDef). IsCommandFit s.hosts (sent_of z c) (need_of z c) c) s.commands
          (l.commands (omega arith));
      aborts = a.aborts;
      resets = a.resets;
      faults = a.faults;
      few_commands = a.few_commands;
      few_aborts = a.few_aborts;
    }

-- Where no unit is, there is neither a disk nor a tape.
none_of_both : (s : ScenarioValue) (target unit : ℕ) → unit_of s target unit ≡ None
    → (disk_of s target unit ≡ None) × (tape_of s target unit ≡ None)
none_of_both s target unit e = go (disk_of s target unit) (tape_of s target unit) (sym (unit_is s target unit) ∙ e)
  where
    go : (disk : Option UnitDef) (tape : Option TapeDef) → option_or disk (option_map tape_unit tape) ≡ None
        → (disk ≡ None) × (tape ≡ None)
    go None None z = (refl, refl)
    go None (Some t) z = absurd cc
    go (Some u) tape z = absurd cc

tapes_more : (units : List UnitDef) (tapes : List TapeDef) (t : TapeDef)
    → units ++ map tape_unit (tapes ++ t ∷ []) ≡ (units ++ map tape_unit tapes) ++ tape_unit t ∷ []
tapes_more units tapes t = ap (λ (us : List UnitDef). units ++ us) (map_push tape_unit tapes t)
    ∙ sym (append_assoc units (map tape_unit tapes) (tape_unit t ∷ []))

-- A tape comes before loads and commands.
pub with_tape : (s : ScenarioValue) (t : TapeDef) → AreFit s → AreLater 6 s → IsTapeRead s t
    → AreFit (record s { tapes = s.tapes ++ t ∷ [] })
with_tape s t a l r =
    let new = none_of_both s t.target t.unit r.new in
    let ts : List TapeDef = s.tapes ++ t ∷ [] in
    let z : ScenarioValue = record s { tapes = ts } in
    record {
      hosts = a.hosts;
      hosts_once = a.hosts_once;
      targets = a.targets;
      targets_once = a.targets_once;
      units = a.units;
      units_once = a.units_once;
      tapes = all_more (IsTapeFit s.hosts) s.tapes t a.tapes
          (record { limits = r.limits; no_host = of_target s.hosts s.targets t.target a.targets r.known });
      tapes_once = all_more (λ (g : TapeDef). tape_at ts g.target g.unit ≡ Some g) s.tapes t
          (all_are (λ (g : TapeDef). tape_at s.tapes g.target g.unit ≡ Some g)
          (λ (g : TapeDef). tape_at ts g.target g.unit ≡ Some g) s.tapes
          (λ g e. find_kept (λ (x : TapeDef). x.target == g.target && x.unit == g.unit) s.tapes t g e) a.tapes_once)
          (find_new (λ (x : TapeDef). x.target == t.target && x.unit == t.unit) s.tapes t new.1
          (unit_itself t.target t.unit));
      tapes_new = all_more (λ (g : TapeDef). unit_at s.units g.target g.unit ≡ None) s.tapes t a.tapes_new new.0;
      units_apart = subst AreUnitsApart (sym (tapes_more s.units s.tapes t))
          (apart_more (units_of s) (tape_unit t) a.units_apart r.new);
      fills = a.fills;
      loads = all_more (λ (g : TapeDef). IsLoaded g (loaded_objects (tape_unit g) s.loads)) s.tapes t a.loads
          (none_loaded t s.loads (l.loads (omega arith)));
      commands = all_of_none (λ (c : CmdDef). IsCommandFit s.hosts (sent_of z c) (need_of z c) c) s.commands
          (l.commands (omega arith));
      aborts = a.aborts;
      resets = a.resets;
      faults = a.faults;
      few_commands = a.few_commands;
      few_aborts = a.few_aborts;
    }

-- The tape of a load is the one of its line.
load_fits : (s : ScenarioValue) (l : LoadDef) (t : TapeDef) → IsLoadRead s l → tape_at s.tapes t.target t.unit ≡ Some t
    → (l.target == t.target && l.unit == t.unit) ≡ true → fits_tape t (loads_at s.loads t.target t.unit) l.what ≡ true
load_fits s l t r once e =
    let both = and_parts (l.target == t.target) (l.unit == t.unit) e in
    let target : t.target ≡ l.target = sym (eqb-true l.target t.target both.0) in
    let unit : t.unit ≡ l.unit = sym (eqb-true l.unit t.unit both.1) in
    let same : t ≡ r.tape = some_is t r.tape (sym once ∙ (λ i. tape_of s (target i) (unit i)) ∙ r.there) in
    (λ i. fits_tape (same i) (loads_at s.loads (target i) (unit i)) l.what) ∙ r.fits

pub with_load : (s : ScenarioValue) (l : LoadDef) → AreFit s → IsLoadRead s l
    → AreFit (record s { loads = s.loads ++ l ∷ [] })
unfolding need_of sent_of
with_load s l a r = record {
  hosts = a.hosts;
  hosts_once = a.hosts_once;
  targets = a.targets;
  targets_once = a.targets_once;
  units = a.units;
  units_once = a.units_once;
  tapes = a.tapes;
  tapes_once = a.tapes_once;
  tapes_new = a.tapes_new;
  units_apart = a.units_apart;
  fills = a.fills;
  loads = all_both (λ (t : TapeDef). tape_at s.tapes t.target t.unit ≡ Some t)
      (λ (t : TapeDef). IsLoaded t (loaded_objects (tape_unit t) s.loads))
      (λ (t : TapeDef). IsLoaded t (loaded_objects (tape_unit t) (s.loads ++ l ∷ []))) s.tapes
      (λ t once b. loaded_with t s.loads l b (λ e. load_fits s l t r once e)) a.tapes_once a.loads;
  commands = a.commands;
  aborts = a.aborts;
  resets = a.resets;
  faults = a.faults;
  few_commands = a.few_commands;
  few_aborts = a.few_aborts;
}

ends_are : (q r : Bool) → (q && not r) ≡ true → (q ≡ true) × (r ≡ false)
ends_are q r e = let w = and_parts q (not r) e in (w.0, not-true r w.1)

one_more : {X : Type 0} (xs : List X) (x : X) (n : ℕ) → length xs < n → length (xs ++ x ∷ []) ≤ n
one_more xs x n lt = let w = length-append xs (x ∷ []) in omega arith

room_is : (s : ScenarioValue) (needs n : ℕ) → has_room s needs n ≡ true → (length s.commands < 4096) × (n ≤ 65536)
room_is s needs n e = (grind (arith, nat_tests), grind (arith, nat_tests))

abort_room_is : (s : ScenarioValue) → has_abort_room s ≡ true → length s.aborts < 64
abort_room_is s e = grind (arith, nat_tests)

pub with_command : (s : ScenarioValue) (needs : ℕ) (c : CmdDef) → AreFit s → IsFullCommandRead s needs c
    → AreFit (record s { commands = s.commands ++ c ∷ [] })
unfolding need_of sent_of
with_command s needs c a r =
    let ends = ends_are (has_host s c.host) (has_host s c.target) r.is.known in
    let room = room_is s needs (need_of s c) r.room in
    record {
      hosts = a.hosts;
      hosts_once = a.hosts_once;
      targets = a.targets;
      targets_once = a.targets_once;
      units = a.units;
      units_once = a.units_once;
      tapes = a.tapes;
      tapes_once = a.tapes_once;
      tapes_new = a.tapes_new;
      units_apart = a.units_apart;
      fills = a.fills;
      loads = a.loads;
      commands = all_more (λ (d : CmdDef). IsCommandFit s.hosts (sent_of s d) (need_of s d) d) s.commands c a.commands
          (record { limits = r.is.limits; host_is = ends.0; target_is = ends.1; sends = r.sends; room = room.1 });
      aborts = a.aborts;
      resets = a.resets;
      faults = a.faults;
      few_commands = one_more s.commands c 4096 room.0;
      few_aborts = a.few_aborts;
    }

pub with_abort : (s : ScenarioValue) (b : AbortDef) → AreFit s → IsAbortRead s b
    → AreFit (record s { aborts = s.aborts ++ b ∷ [] })
unfolding need_of sent_of
with_abort s b a r =
    let ends = ends_are (has_host s b.host) (has_host s b.target) r.known in
    record {
      hosts = a.hosts;
      hosts_once = a.hosts_once;
      targets = a.targets;
      targets_once = a.targets_once;
      units = a.units;
      units_once = a.units_once;
      tapes = a.tapes;
      tapes_once = a.tapes_once;
      tapes_new = a.tapes_new;
      units_apart = a.units_apart;
      fills = a.fills;
      loads = a.loads;
      commands = a.commands;
      aborts = all_more (IsAbortFit s.hosts) s.aborts b a.aborts
          (record { limits = r.limits; host_is = ends.0; target_is = ends.1 });
      resets = a.resets;
      faults = a.faults;
      few_commands = a.few_commands;
      few_aborts = one_more s.aborts b 64 (abort_room_is s r.room);
    }
