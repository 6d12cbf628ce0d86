-- What stands on a tape after one load more.
use Rattle.std.proofs.Common.{ℕ, ◌≡◌, ◌≤◌, ◌+◌, Bool, true, false, cond, ◌&&◌, List, [], ◌∷◌, ◌++◌, length, refl, sym}
use Rattle.std.proofs.Common.{ap, subst, append-nil, length-append, arith}
use Rattle.std.specs.Prelude.{◌==◌, nat_lt}
use Rattle.std.proofs.lemmas.Bool.{eqb-true, ltb-true, and_parts}
use Rattle.std.proofs.lemmas.List.Recursion.{is_count_by}
use Rattle.scenario.specs.declared.value.UnitDef.{UnitDef}
use Rattle.scenario.specs.declared.value.TapeDef.{TapeDef}
use Rattle.scenario.specs.declared.value.Load.{Load}
use Rattle.scenario.specs.declared.value.Load.TheVariants as loads
use Rattle.scenario.specs.declared.value.LoadDef.{LoadDef}
use Rattle.scenario.specs.Lookups.{tape_unit, loads_at}
use Rattle.scenario.specs.Reading.{is_object_of, fits_tape}
use Rattle.due_model.specs.array_model.specs.Contents.{object_of, loaded_objects}
use Rattle.due_model.specs.array_model.specs.Reels.{Object, IsWhole, AreWhole}

-- These objects are whole, and no more than the tape has room for.
pub record IsLoaded (t : TapeDef) (objects : List Object) : Type 0 where
  pub whole : AreWhole t.size objects
  pub few : length objects ≤ t.objects

loaded_more : (u : UnitDef) (defs : List LoadDef) (l : LoadDef)
    → loaded_objects u (defs ++ l ∷ []) ≡ loaded_objects u defs ++ loaded_objects u (l ∷ [])
loaded_more u [] l = refl
loaded_more u (d ∷ defs) l = go (d.target == u.target && d.unit == u.unit) (loaded_more u defs l)
  where
    go : (q : Bool) → loaded_objects u (defs ++ l ∷ []) ≡ loaded_objects u defs ++ loaded_objects u (l ∷ [])
        → cond q (object_of d.what ∷ loaded_objects u (defs ++ l ∷ [])) (loaded_objects u (defs ++ l ∷ []))
        ≡ cond q (object_of d.what ∷ loaded_objects u defs) (loaded_objects u defs) ++ loaded_objects u (l ∷ [])
    go true e = ap (λ (objects : List Object). object_of d.what ∷ objects) e
    go false e = e

-- They are as many as reading counts.
loaded_count : (u : UnitDef) (defs : List LoadDef) → length (loaded_objects u defs) ≡ loads_at defs u.target u.unit
loaded_count u defs = is_count_by (λ (ds : List LoadDef). length (loaded_objects u ds))
    (λ (l : LoadDef). l.target == u.target && l.unit == u.unit) refl
    (λ l ds. one_more (l.target == u.target && l.unit == u.unit) (object_of l.what) (loaded_objects u ds)) defs
  where
    one_more : (q : Bool) (object : Object) (objects : List Object)
        → length (cond q (object ∷ objects) objects) ≡ cond q (1 + length objects) (length objects)
    one_more true object objects = omega arith
    one_more false object objects = refl

whole_append : (size : ℕ) (objects more : List Object) → AreWhole size objects → AreWhole size more
    → AreWhole size (objects ++ more)
whole_append size [] more a b = b
whole_append size (object ∷ objects) more a b = (a.0, whole_append size objects more a.1 b)

object_whole : (t : TapeDef) (what : Load) → is_object_of t what ≡ true → IsWhole t.size (object_of what)
object_whole t (loads.Block bytes) e = eqb-true (length bytes) t.size e
object_whole t loads.Mark e = tt

one_loaded : (t : TapeDef) (objects : List Object) (n : ℕ) (what : Load) → length objects ≡ n
    → fits_tape t n what ≡ true → IsLoaded t objects → IsLoaded t (objects ++ object_of what ∷ [])
one_loaded t objects n what count e a =
    let fits = and_parts (is_object_of t what) (nat_lt n t.objects) e in
    let room = ltb-true n t.objects fits.1 in
    let long = length-append objects (object_of what ∷ []) in
    record {
      whole = whole_append t.size objects (object_of what ∷ []) a.whole (object_whole t what fits.0, tt);
      few = omega arith;
    }

-- The load is of this tape, and fits on it, or it is of another.
pub loaded_with : (t : TapeDef) (defs : List LoadDef) (l : LoadDef) → IsLoaded t (loaded_objects (tape_unit t) defs)
    → ((l.target == t.target && l.unit == t.unit) ≡ true
    → fits_tape t (loads_at defs t.target t.unit) l.what ≡ true)
    → IsLoaded t (loaded_objects (tape_unit t) (defs ++ l ∷ []))
loaded_with t defs l a fits =
    subst (IsLoaded t) (sym (loaded_more (tape_unit t) defs l)) (go (l.target == t.target && l.unit == t.unit) fits)
  where
    go : (q : Bool) → (q ≡ true → fits_tape t (loads_at defs t.target t.unit) l.what ≡ true)
        → IsLoaded t (loaded_objects (tape_unit t) defs ++ cond q (object_of l.what ∷ []) [])
    go true f = one_loaded t (loaded_objects (tape_unit t) defs) (loads_at defs t.target t.unit) l.what
        (loaded_count (tape_unit t) defs) (f refl) a
    go false f = subst (IsLoaded t) (sym (append-nil (loaded_objects (tape_unit t) defs))) a

pub none_loaded : (t : TapeDef) (defs : List LoadDef) → defs ≡ [] → IsLoaded t (loaded_objects (tape_unit t) defs)
none_loaded t defs none = subst (λ (ds : List LoadDef). IsLoaded t (loaded_objects (tape_unit t) ds)) (sym none)
    (record { whole = tt; few = omega arith })
