-- The disks and the tapes, line by line.
use Rattle.std.proofs.Common.{ℕ, ◌≡◌, ◌<◌, ◌+◌, Bool, true, false, not, List, [], ◌∷◌, ◌++◌, Option, Some, None}
use Rattle.std.proofs.Common.{map, drop, length, get_or, append_assoc, append-nil, cond, refl, sym, ap, subst, ◌∙◌}
use Rattle.std.specs.Prelude.{◌==◌, ◌&&◌, is_some, if◌then◌else◌}
use Rattle.std.specs.List.{AllByRecursion, filter, list_all}
use Rattle.std.proofs.lemmas.Bool.{and_parts, true≢false, eqb-true}
use Rattle.std.proofs.lemmas.List.{map-append}
use Rattle.scenario.specs.declared.value.TapeDef.{TapeDef}
use Rattle.scenario.specs.declared.value.UnitDef.{UnitDef}
use Rattle.scenario.specs.Lookups.{is_tape, tape_unit}
use Rattle.scenario.specs.Value.{ScenarioValue}
use Rattle.array_model.specs.ArrayHistory.{unit_contents}
use Rattle.array_model.specs.Contents.{Contents, is_reeled}
use Rattle.array_model.specs.SoundArray.{AreApart}
use Rattle.array_model.specs.Units.{UnitState, unit_state_at, starting_unit, starting_units}
use Rattle.delivery_laws.specs.target_units.specs.Rooms.{IsOfKind}
use Rattle.delivery_laws.specs.target_units.specs.Units.{UnitsState, state_contents}
use Rattle.bus_engine.specs.Disks.{held_at, AreHeld, AreOfKind, AreParted, IsOther, AreLinesApart, IsWithin}
use Rattle.bus_engine.proofs.Names.{names, line_names}
use Rattle.bus_base.proofs.Tests.{dropped, eq_self}

-- ---- what was handed out so far

-- What the lines before these hold was handed out, and all of them are to hold this.
pub record AreStored (is_of_tapes : Bool) (of_target : List (Option UnitsState)) (rest : List UnitDef)
    (done all : List Contents) (others : List UnitDef) (there : List Contents) : Type 0 where
  pub left : List Contents
  pub all_is : done ++ left ≡ all
  pub parted : AreParted is_of_tapes of_target rest left others there

pub stored_first : (kind : Bool) (of_target : List (Option UnitsState)) (lines : List UnitDef) (all : List Contents)
    (others : List UnitDef) (there : List Contents) → AreParted kind of_target lines all others there
    → AreStored kind of_target lines [] all others there
stored_first kind of_target lines all others there parted = record { left = all; all_is = refl; parted = parted }

held_on : (before after : List (Option UnitsState)) (u : UnitDef) (rest : List UnitDef) (left : List Contents)
    → ((target unit : ℕ) → unit < 8 → (target == u.target && unit == u.unit) ≡ false
    → held_at after target unit ≡ held_at before target unit) → AllByRecursion (IsOther u) rest
    → AllByRecursion IsWithin rest → AreHeld before rest left → AreHeld after rest left
held_on before after u [] [] same apart within h = tt
held_on before after u [] (c ∷ left) same apart within h = h
held_on before after u (v ∷ rest) [] same apart within h = h
held_on before after u (v ∷ rest) (c ∷ left) same apart within h =
    (same v.target v.unit within.0.unit apart.0 ∙ h.0, held_on before after u rest left same apart.1 within.1 h.1)

-- One line more: `x` was handed out, which holds what `f` says.
pub stored_next : {X : Type 0} (f : X → Contents) (kind : Bool) (before after : List (Option UnitsState))
    (rest more : List UnitDef) (u : UnitDef) (done longer : List X) (x : X) (all : List Contents)
    (others : List UnitDef) (there : List Contents) → rest ≡ u ∷ more → longer ≡ done ++ x ∷ []
    → ((c : Contents) → held_at before u.target u.unit ≡ Some c → is_reeled c ≡ kind → f x ≡ c)
    → ((target unit : ℕ) → unit < 8 → (target == u.target && unit == u.unit) ≡ false
    → held_at after target unit ≡ held_at before target unit)
    → AreStored kind before rest (map f done) all others there
    → AreStored kind after more (map f longer) all others there
stored_next {X = X} f kind before after rest more u done longer x all others there e long is same a =
    let h = subst (λ (r : List UnitDef). AreStored kind before r (map f done) all others there) e a in
    go h.left h.all_is h.parted
  where
    go : (left : List Contents) → map f done ++ left ≡ all → AreParted kind before (u ∷ more) left others there
        → AreStored kind after more (map f longer) all others there
    go [] sum p = absurd p.held
    go (c ∷ left) sum p = record {
      left = left;
      all_is = (λ i. map f (long i) ++ left) ∙ (λ i. map-append f done (x ∷ []) i ++ left)
          ∙ append_assoc (map f done) (f x ∷ []) left ∙ (λ i. map f done ++ (is c p.held.0 p.kinds.0 i ∷ left)) ∙ sum;
      parted = record {
        held = held_on before after u more left same p.apart.0 p.within.1 p.held.1;
        kinds = p.kinds.1;
        apart = p.apart.1;
        within = p.within.1;
        others_held = held_on before after u others there same p.away.0 p.others_within p.others_held;
        others_within = p.others_within;
        away = p.away.1;
      };
    }

-- No line is left.
pub stored_all : (kind : Bool) (of_target : List (Option UnitsState)) (rest : List UnitDef) (done all : List Contents)
    (others : List UnitDef) (there : List Contents) → rest ≡ []
    → AreStored kind of_target rest done all others there → (done ≡ all) × AreHeld of_target others there
stored_all kind of_target rest done all others there e a =
    let h = subst (λ (r : List UnitDef). AreStored kind of_target r done all others there) e a in
    go h.left h.all_is h.parted
  where
    go : (left : List Contents) → done ++ left ≡ all → AreParted kind of_target [] left others there
        → (done ≡ all) × AreHeld of_target others there
    go [] sum p = (sym (append-nil done) ∙ sum, p.others_held)
    go (c ∷ left) sum p = absurd p.held

-- Nothing stands beside the lines of tapes once the disks were handed out.
pub then_alone : (kind : Bool) (of_target : List (Option UnitsState)) (lines : List UnitDef) (contents : List Contents)
    → AreHeld of_target lines contents → AreOfKind kind contents → AreLinesApart lines → AllByRecursion IsWithin lines
    → AreParted kind of_target lines contents [] []
then_alone kind of_target lines contents held kinds apart within = record {
  held = held;
  kinds = kinds;
  apart = apart;
  within = within;
  others_held = tt;
  others_within = tt;
  away = none_beside lines;
}
  where
    none_beside : (lines : List UnitDef) → AllByRecursion (λ (u : UnitDef). AllByRecursion (IsOther u) []) lines
    none_beside [] = tt
    none_beside (u ∷ lines) = (tt, none_beside lines)

-- A tape's line among the others.
pub tape_dropped : (i : ℕ) (lines : List TapeDef) (t : TapeDef) → i < length lines
    → map tape_unit (drop i lines) ≡ tape_unit (get_or lines i t) ∷ map tape_unit (drop (i + 1) lines)
tape_dropped i lines t below = ap (λ (l : List TapeDef). map tape_unit l) (dropped i lines t below)

-- ---- what the array holds

-- The units of the array that stand in this list, each once.
state_here : (u : UnitState) (units : List UnitState) → unit_state_at (u ∷ units) u.target u.unit ≡ Some u
state_here u units =
    λ i. if (eq_self u.target i && eq_self u.unit i) then Some u else unit_state_at units u.target u.unit

still_there : (u : UnitState) (units : List UnitState) (target unit : ℕ)
    → unit_state_at units u.target u.unit ≡ None → is_some (unit_state_at units target unit) ≡ true
    → unit_state_at (u ∷ units) target unit ≡ unit_state_at units target unit
still_there u units target unit none some = go (u.target == target && u.unit == unit) refl
  where
    go : (q : Bool) → (u.target == target && u.unit == unit) ≡ q
        → (if q then Some u else unit_state_at units target unit) ≡ unit_state_at units target unit
    go true e =
        let parts = and_parts (u.target == target) (u.unit == unit) e in
        let same : unit_state_at units target unit ≡ None =
        (λ i. unit_state_at units (sym (eqb-true u.target target parts.0) i) (sym (eqb-true u.unit unit parts.1) i))
        ∙ none in
        absurd (true≢false (sym some ∙ ap (λ (o : Option UnitState). is_some o) same))
    go false e = refl

abbrev first_name : List (ℕ × ℕ) → ℕ × ℕ
first_name [] = (0, 0)
first_name (n ∷ ns) = n

abbrev other_names : List (ℕ × ℕ) → List (ℕ × ℕ)
other_names [] = []
other_names (n ∷ ns) = ns

-- Each is a tape where its line is one.
abbrev pub AreKinds : ScenarioValue → List UnitDef → List Contents → Type 0
AreKinds s [] [] = Unit {0}
AreKinds s [] (c ∷ contents) = ⊥
AreKinds s (u ∷ lines) [] = ⊥
AreKinds s (u ∷ lines) (c ∷ contents) = (is_reeled c ≡ is_tape s u.target u.unit) × AreKinds s lines contents

-- Lines of these names, of targets that are known, hold what the units hold.
pub held_all :
    (of_target : List (Option UnitsState)) (is_known : ℕ → Bool) (units : List UnitState) (lines : List UnitDef)
    → names units ≡ line_names lines → AreApart units → AllByRecursion IsWithin lines
    → list_all (λ (l : UnitDef). is_known l.target) lines ≡ true → ((target unit : ℕ) → target < 8
    → unit < 8 → is_known target ≡ true → is_some (unit_state_at units target unit) ≡ true
    → held_at of_target target unit ≡ state_contents (unit_state_at units target unit))
    → AreHeld of_target lines (unit_contents units)
held_all of_target is_known [] [] e apart within known h = tt
held_all of_target is_known [] (l ∷ lines) e apart within known h = absurd cc
held_all of_target is_known (u ∷ units) [] e apart within known h = absurd cc
held_all of_target is_known (u ∷ units) (l ∷ lines) e apart within known h =
    let both = and_parts (is_known l.target) (list_all (λ (k : UnitDef). is_known k.target) lines) known in
    let first : (u.target, u.unit) ≡ (l.target, l.unit) = ap first_name e in
    let rest : names units ≡ line_names lines = ap other_names e in
    let here : unit_state_at (u ∷ units) l.target l.unit ≡ Some u =
    (λ i. unit_state_at (u ∷ units) (sym first i).0 (sym first i).1) ∙ state_here u units in (
      h l.target l.unit within.0.target within.0.unit both.0 (ap (λ (o : Option UnitState). is_some o) here)
          ∙ ap (λ (o : Option UnitState). state_contents o) here,
      held_all of_target is_known units lines rest apart.1 within.1 both.1
          (λ t n a b k some. let same = still_there u units t n apart.0 some in
          h t n a b k (ap (λ (o : Option UnitState). is_some o) same ∙ some)
          ∙ ap (λ (o : Option UnitState). state_contents o) same),
    )

-- Each unit is a tape where the line of its name is one.
abbrev AreOfTheirKind : ScenarioValue → List UnitState → Type 0
AreOfTheirKind s units = (target unit : ℕ) → IsOfKind (is_tape s target unit) (unit_state_at units target unit)

other_kinds : (s : ScenarioValue) (u : UnitState) (units : List UnitState)
    → unit_state_at units u.target u.unit ≡ None → AreOfTheirKind s (u ∷ units) → AreOfTheirKind s units
other_kinds s u units none kinds target unit = go (u.target == target && u.unit == unit) refl (kinds target unit)
  where
    go : (q : Bool) → (u.target == target && u.unit == unit) ≡ q
        → IsOfKind (is_tape s target unit) (if q then Some u else unit_state_at units target unit)
        → IsOfKind (is_tape s target unit) (unit_state_at units target unit)
    go true e kind =
        let parts = and_parts (u.target == target) (u.unit == unit) e in
        let same : unit_state_at units target unit ≡ None =
        (λ i. unit_state_at units (sym (eqb-true u.target target parts.0) i) (sym (eqb-true u.unit unit parts.1) i))
        ∙ none in
        subst (λ (o : Option UnitState). IsOfKind (is_tape s target unit) o) (sym same) tt
    go false e kind = kind

pub kinds_all : (s : ScenarioValue) (units : List UnitState) (lines : List UnitDef) → names units ≡ line_names lines
    → AreApart units → AreOfTheirKind s units → AreKinds s lines (unit_contents units)
kinds_all s [] [] e apart kinds = tt
kinds_all s [] (l ∷ lines) e apart kinds = absurd cc
kinds_all s (u ∷ units) [] e apart kinds = absurd cc
kinds_all s (u ∷ units) (l ∷ lines) e apart kinds =
    let first : (u.target, u.unit) ≡ (l.target, l.unit) = ap first_name e in
    let rest : names units ≡ line_names lines = ap other_names e in
    let here : unit_state_at (u ∷ units) l.target l.unit ≡ Some u =
    (λ i. unit_state_at (u ∷ units) (sym first i).0 (sym first i).1) ∙ state_here u units in (
      subst (λ (o : Option UnitState). IsOfKind (is_tape s l.target l.unit) o) here (kinds l.target l.unit),
      kinds_all s units lines rest apart.1 (other_kinds s u units apart.0 kinds),
    )

-- ---- no two lines are of one unit

apart_from : (s : ScenarioValue) (u : UnitDef) (lines : List UnitDef)
    → unit_state_at (starting_units s lines) u.target u.unit ≡ None → AllByRecursion (IsOther u) lines
apart_from s u [] e = tt
apart_from s u (v ∷ lines) e = go (v.target == u.target && v.unit == u.unit) refl e (apart_from s u lines)
  where
    go : (q : Bool) → (v.target == u.target && v.unit == u.unit) ≡ q
        → (if q then Some (starting_unit s v) else unit_state_at (starting_units s lines) u.target u.unit) ≡ None
        → (unit_state_at (starting_units s lines) u.target u.unit ≡ None → AllByRecursion (IsOther u) lines)
        → AllByRecursion (IsOther u) (v ∷ lines)
    go true z e more = absurd cc
    go false z e more = (z, more e)

pub lines_apart : (s : ScenarioValue) (lines : List UnitDef) → AreApart (starting_units s lines) → AreLinesApart lines
lines_apart s [] h = tt
lines_apart s (u ∷ lines) h = (apart_from s u lines h.0, lines_apart s lines h.1)

-- ---- first the disks, then the tapes

-- Lines, and after them lines of others, hold this.
pub record AreInTwo (s : ScenarioValue) (of_target : List (Option UnitsState)) (lines others : List UnitDef)
    (contents : List Contents) : Type 0 where
  pub here : List Contents
  pub there : List Contents
  pub all_is : contents ≡ here ++ there
  pub held : AreHeld of_target lines here
  pub others_held : AreHeld of_target others there
  pub kinds : AreKinds s lines here
  pub others_kinds : AreKinds s others there

pub in_two : (s : ScenarioValue) (of_target : List (Option UnitsState)) (lines others : List UnitDef)
    (contents : List Contents) → AreHeld of_target (lines ++ others) contents → AreKinds s (lines ++ others) contents
    → AreInTwo s of_target lines others contents
in_two s of_target [] others contents held kinds = record {
  here = [];
  there = contents;
  all_is = refl;
  held = tt;
  others_held = held;
  kinds = tt;
  others_kinds = kinds;
}
in_two s of_target (u ∷ lines) others [] held kinds = absurd held
in_two s of_target (u ∷ lines) others (c ∷ contents) held kinds =
    let more = in_two s of_target lines others contents held.1 kinds.1 in
    record {
      here = c ∷ more.here;
      there = more.there;
      all_is = ap (λ (l : List Contents). c ∷ l) more.all_is;
      held = (held.0, more.held);
      others_held = more.others_held;
      kinds = (kinds.0, more.kinds);
      others_kinds = more.others_kinds;
    }

-- The lines are all of disks, or all of tapes.
pub of_kind : (s : ScenarioValue) (kind : Bool) (lines : List UnitDef) (contents : List Contents)
    → AllByRecursion (λ (u : UnitDef). is_tape s u.target u.unit ≡ kind) lines → AreKinds s lines contents
    → AreOfKind kind contents
of_kind s kind [] [] are kinds = tt
of_kind s kind [] (c ∷ contents) are kinds = absurd kinds
of_kind s kind (u ∷ lines) [] are kinds = absurd kinds
of_kind s kind (u ∷ lines) (c ∷ contents) are kinds =
    (kinds.0 ∙ are.0, of_kind s kind lines contents are.1 kinds.1)

-- What is left of contents where those of one kind are taken.
all_of : (test : Contents → Bool) (contents : List Contents) → AllByRecursion (λ (c : Contents). test c ≡ true) contents
    → filter test contents ≡ contents
all_of test [] h = refl
all_of test (c ∷ contents) h =
    (λ i. cond (h.0 i) (c ∷ filter test contents) (filter test contents))
    ∙ ap (λ (l : List Contents). c ∷ l) (all_of test contents h.1)

none_of : (test : Contents → Bool) (contents : List Contents)
    → AllByRecursion (λ (c : Contents). test c ≡ false) contents → filter test contents ≡ []
none_of test [] h = refl
none_of test (c ∷ contents) h =
    (λ i. cond (h.0 i) (c ∷ filter test contents) (filter test contents)) ∙ none_of test contents h.1

of_both : (test : Contents → Bool) (one two : List Contents)
    → filter test (one ++ two) ≡ filter test one ++ filter test two
of_both test [] two = refl
of_both test (c ∷ one) two = go (test c) (of_both test one two)
  where
    go : (q : Bool) → filter test (one ++ two) ≡ filter test one ++ filter test two
        → cond q (c ∷ filter test (one ++ two)) (filter test (one ++ two))
        ≡ cond q (c ∷ filter test one) (filter test one) ++ filter test two
    go true more = ap (λ (l : List Contents). c ∷ l) more
    go false more = more

turned : (kind : Bool) (contents : List Contents) → AreOfKind kind contents
    → AllByRecursion (λ (c : Contents). not (is_reeled c) ≡ not kind) contents
turned kind [] h = tt
turned kind (c ∷ contents) h = (ap not h.0, turned kind contents h.1)

pub only_disks : (disks tapes : List Contents) → AreOfKind false disks → AreOfKind true tapes
    → filter (λ (c : Contents). not (is_reeled c)) (disks ++ tapes) ≡ disks
only_disks disks tapes plain reeled =
    let is_disk : Contents → Bool = λ (c : Contents). not (is_reeled c) in
    of_both is_disk disks tapes
    ∙ (λ i. all_of is_disk disks (turned false disks plain) i ++ none_of is_disk tapes (turned true tapes reeled) i)
    ∙ append-nil disks

pub only_tapes : (disks tapes : List Contents) → AreOfKind false disks → AreOfKind true tapes
    → filter is_reeled (disks ++ tapes) ≡ tapes
only_tapes disks tapes plain reeled =
    of_both is_reeled disks tapes ∙ (λ i. none_of is_reeled disks plain i ++ all_of is_reeled tapes reeled i)

-- ---- lines before others

all_in_two : {X : Type 0} (P : X → Type 0) (one two : List X) → AllByRecursion P (one ++ two)
    → AllByRecursion P one × AllByRecursion P two
all_in_two P [] two h = (tt, h)
all_in_two P (x ∷ one) two h =
    let more = all_in_two P one two h.1 in
    ((h.0, more.0), more.1)

pub apart_in_two : (lines others : List UnitDef) → AreLinesApart (lines ++ others)
    → AreLinesApart lines × AreLinesApart others
    × AllByRecursion (λ (u : UnitDef). AllByRecursion (IsOther u) others) lines
apart_in_two [] others h = (tt, h, tt)
apart_in_two (u ∷ lines) others h =
    let more = apart_in_two lines others h.1 in
    let away = all_in_two (IsOther u) lines others h.0 in
    ((away.0, more.0), more.1, (away.1, more.2))
