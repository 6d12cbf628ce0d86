-- What the disks and the tapes of a run that is over hold.
use Rattle.std.proofs.Common.{ℕ, ◌≡◌, ◌<◌, true, false, not, List, [], ◌∷◌, map, Option, Some, None, refl, sym}
use Rattle.std.proofs.Common.{ap, ◌∙◌, arith}
use Rattle.std.specs.Prelude.{is_some, slice_index_or}
use Rattle.std.specs.List.{AllByRecursion, filter}
use Rattle.std.proofs.lemmas.Bool.{true≢false}
use Rattle.delivery_laws.specs.scsi_device.proofs.Finds.{all_are}
use Rattle.bus_base.specs.declared.Event.{Event}
use Rattle.bus_trace.specs.declared.Row.{Row}
use Rattle.scenario.specs.declared.value.TapeDef.{TapeDef}
use Rattle.scenario.specs.declared.value.TargetDef.{TargetDef}
use Rattle.scenario.specs.declared.value.UnitDef.{UnitDef}
use Rattle.scenario.specs.Lookups.{is_tape, tape_unit, units_of}
use Rattle.scenario.specs.Value.{ScenarioValue}
use Rattle.array_model.specs.ArrayHistory.{array_after, disks_of, tapes_of, unit_contents}
use Rattle.array_model.specs.Contents.{Contents, is_reeled}
use Rattle.array_model.specs.SoundArray.{IsSound}
use Rattle.array_model.specs.Units.{Array, unit_state_at}
use Rattle.due_model.specs.Allowed.{allowed}
use Rattle.due_model.specs.Defs.{target_def_of}
use Rattle.due_model.specs.Plain.{IsPlain}
use Rattle.due_model.specs.RunState.{or_start, array_of}
use Rattle.due_model.specs.RunSteps.{run_state}
use Rattle.due_model.specs.story_model.specs.TraceHistory.{trace_history}
use Rattle.delivery_laws.specs.scsi_device.specs.Lines.{IsUnitLine, IsTapeLine, FitsBus}
use Rattle.delivery_laws.specs.target_units.specs.Units.{UnitsState, AreUnitsOf, unit_in, contents_in, state_contents}
use Rattle.delivery_laws.specs.target_units.specs.declared.logical.LogicalUnit.{LogicalUnit}
use Rattle.delivery_laws.specs.target_units.proofs.Rooms.{kinds_always}
use Rattle.bus_engine.specs.Over.{AreUnitsIf}
use Rattle.bus_engine.specs.Disks.{AreUnitsByTarget, held_if, AreHeld, AreOfKind, AreParted, AreLinesApart}
use Rattle.bus_engine.specs.Disks.{IsWithin, IsTapeWithin, have_targets}
use Rattle.bus_engine.proofs.Disks.{held_all, kinds_all, in_two, of_kind, only_disks, only_tapes, lines_apart}
use Rattle.bus_engine.proofs.Disks.{apart_in_two}
use Rattle.bus_engine.proofs.Names.{history_names}
use Rattle.bus_base.proofs.Tests.{all_append}
use Rattle.delivery_laws.specs.book_laws.proofs.Replies.Refusals.{allowed_array}

-- ---- the array after the rows

some_array : (s : ScenarioValue) (o : Option Array) → is_some o ≡ true → o ≡ Some (or_start s o)
some_array s None e = absurd (true≢false (sym e))
some_array s (Some a) e = refl

pub array_is : (s : ScenarioValue) (rows : List Row) → IsPlain s rows (run_state s rows) → allowed s rows ≡ true
    → array_after s (trace_history s rows) ≡ Some (array_of s (run_state s rows))
array_is s rows p e = sym p.array ∙ some_array s (run_state s rows).array (allowed_array s rows e)

-- ---- lines within their limits

pub all_within : (s : ScenarioValue) → FitsBus s → AllByRecursion IsWithin s.units
all_within s f = all_are (λ (u : UnitDef). IsUnitLine s u) IsWithin s.units (λ u l. record {
  target = l.target;
  unit = l.unit;
  some_blocks = l.some_blocks;
  most_blocks = l.most_blocks;
  least_size = l.least_size;
  most_size = l.most_size;
}) f.units

pub tapes_within : (s : ScenarioValue) → FitsBus s → AllByRecursion IsTapeWithin s.tapes
tapes_within s f = all_are (λ (t : TapeDef). IsTapeLine s t) IsTapeWithin s.tapes (λ t l. record {
  target = l.target;
  unit = l.unit;
  some_objects = l.some_objects;
  most_objects = l.most_objects;
  least_size = l.least_size;
  most_size = l.most_size;
}) f.tapes

-- A tape as a unit.
all_as_units : (tapes : List TapeDef) → AllByRecursion IsTapeWithin tapes
    → AllByRecursion IsWithin (map tape_unit tapes)
all_as_units [] h = tt
all_as_units (t ∷ tapes) h = (
  record {
    target = h.0.target;
    unit = h.0.unit;
    some_blocks = h.0.some_objects;
    most_blocks = omega (arith, h.0.most_objects);
    least_size = h.0.least_size;
    most_size = h.0.most_size;
  },
  all_as_units tapes h.1,
)

lines_within : (s : ScenarioValue) → FitsBus s → AllByRecursion IsWithin (units_of s)
lines_within s f =
    all_append IsWithin s.units (map tape_unit s.tapes) (all_within s f) (all_as_units s.tapes (tapes_within s f))

-- ---- which lines are of tapes

no_tapes : (s : ScenarioValue) → FitsBus s
    → AllByRecursion (λ (u : UnitDef). is_tape s u.target u.unit ≡ false) s.units
no_tapes s f = all_are (λ (u : UnitDef). IsUnitLine s u) (λ (u : UnitDef). is_tape s u.target u.unit ≡ false) s.units
    (λ u l. l.is_disk) f.units

all_tapes : (s : ScenarioValue) (tapes : List TapeDef) → AllByRecursion (λ (t : TapeDef). IsTapeLine s t) tapes
    → AllByRecursion (λ (u : UnitDef). is_tape s u.target u.unit ≡ true) (map tape_unit tapes)
all_tapes s [] h = tt
all_tapes s (t ∷ tapes) h =
    (ap (λ (o : Option TapeDef). is_some o) h.0.tape_is, all_tapes s tapes h.1)

-- ---- what the units hold

-- What the units of a target hold that are there is what the array holds.
held_in : (s : ScenarioValue) (rows : List Row) (dev n : ℕ) (o : Option UnitsState)
    → ((a : Array) (times : List ℕ) (units : List LogicalUnit) → AreUnitsOf s a times dev units
    → contents_in (unit_in units n) ≡ state_contents (unit_state_at a.units dev n))
    → is_some (target_def_of s dev) ≡ true → AreUnitsIf s rows dev o
    → held_if o n ≡ state_contents (unit_state_at (array_of s (run_state s rows)).units dev n)
held_in s rows dev n None holds known h = absurd (true≢false (sym known ∙ ap (λ (o : Option TargetDef). is_some o) h))
held_in s rows dev n (Some v) holds known h =
    holds (array_of s (run_state s rows)) (run_state s rows).current_since v.units h.units_are

pub all_held : (s : ScenarioValue) (rows : List Row) (of_target : List (Option UnitsState))
    → ((a : Array) (times : List ℕ) (dev n : ℕ) (units : List LogicalUnit) → AreUnitsOf s a times dev units
    → n < 8 → contents_in (unit_in units n) ≡ state_contents (unit_state_at a.units dev n))
    → FitsBus s → IsPlain s rows (run_state s rows) → allowed s rows ≡ true
    → IsSound s (array_of s (run_state s rows)) → have_targets s ≡ true → AreUnitsByTarget s rows of_target
    → AreHeld of_target (units_of s) (unit_contents (array_of s (run_state s rows)).units)
all_held s rows of_target holds f p e sound known h = held_all of_target
    (λ (t : ℕ). is_some (target_def_of s t)) (array_of s (run_state s rows)).units (units_of s)
    (history_names s (trace_history s rows) (array_of s (run_state s rows)) (array_is s rows p e)) sound.apart
    (lines_within s f) known (λ t n a b k some. held_in s rows t n (slice_index_or of_target t None)
    (λ x times units are. holds x times t n units are b) k (h t a))

-- The disks and the tapes that these units hold, apart.
pub record AreLeft (s : ScenarioValue) (a : Option Array) (of_target : List (Option UnitsState)) : Type 0 where
  pub disks : List Contents
  pub tapes : List Contents
  pub disks_are : disks ≡ disks_of a
  pub tapes_are : tapes ≡ tapes_of a
  pub first : AreParted false of_target s.units disks (map tape_unit s.tapes) tapes
  pub reeled : AreOfKind true tapes
  pub apart : AreLinesApart (map tape_unit s.tapes)

pub left_apart : (s : ScenarioValue) (history : List Event) (a : Array) (of_target : List (Option UnitsState))
    → FitsBus s → IsSound s a → AreHeld of_target (units_of s) (unit_contents a.units) → array_after s history ≡ Some a
    → AreLeft s (Some a) of_target
left_apart s history a of_target f sound held e =
    let lines = map tape_unit s.tapes in
    let kinds = kinds_always s history a e in
    let two = in_two s of_target s.units lines (unit_contents a.units) held
    (kinds_all s a.units (units_of s) (history_names s history a e) sound.apart kinds) in
    let apart = apart_in_two s.units lines (lines_apart s (units_of s) f.apart) in
    let plain = of_kind s false s.units two.here (no_tapes s f) two.kinds in
    let reeled = of_kind s true lines two.there (all_tapes s s.tapes f.tapes) two.others_kinds in
    record {
      disks = two.here;
      tapes = two.there;
      disks_are = sym (ap (λ (l : List Contents). filter (λ (c : Contents). not (is_reeled c)) l) two.all_is
          ∙ only_disks two.here two.there plain reeled);
      tapes_are = sym (ap (λ (l : List Contents). filter is_reeled l) two.all_is
          ∙ only_tapes two.here two.there plain reeled);
      first = record {
        held = two.held;
        kinds = plain;
        apart = apart.0;
        within = all_within s f;
        others_held = two.others_held;
        others_within = all_as_units s.tapes (tapes_within s f);
        away = apart.2;
      };
      reeled = reeled;
      apart = apart.1;
    }
