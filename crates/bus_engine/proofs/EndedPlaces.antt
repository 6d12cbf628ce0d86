-- Devices of a run that is over, in their places.
use Rattle.std.proofs.Common.{ℕ, ◌≡◌, ◌≤◌, ◌<◌, ◌+◌, List, Option, Some, None, length, inl, inr, sym, subst, arith}
use Rattle.std.specs.Prelude.{slice_index_or, slice_set}
use Rattle.std.proofs.lemmas.Bool.{cases_eq}
use Rattle.std.proofs.lemmas.Grind.{common_steps, elements}
use Rattle.bus_trace.specs.declared.Row.{Row}
use Rattle.scenario.specs.Value.{ScenarioValue}
use Rattle.bus_run.proofs.OnePlace.{other_at, own_at}
use Rattle.bus_engine.specs.declared.member.Member.{Member}
use Rattle.bus_engine.specs.declared.member.Member.TheVariants.{Initiator, Target}
use Rattle.bus_engine.specs.Over.{IsMemberOver, IsPlaceOver, AreOver}

pub member_in : (s : ScenarioValue) (rows : List Row) (dev first : ℕ) (place : Option Member) (member : Member)
    → place ≡ Some member → IsPlaceOver s rows dev first place → IsMemberOver s rows dev first member
member_in s rows dev first place member e h = subst (λ (p : Option Member). IsPlaceOver s rows dev first p) e h

pub later : (s : ScenarioValue) (rows : List Row) (dev first next : ℕ) (place : Option Member) → first ≤ next
    → IsPlaceOver s rows dev first place → IsPlaceOver s rows dev next place
later s rows dev first next None le h = h
later s rows dev first next (Some (Target target)) le h = h
later s rows dev first next (Some (Initiator host)) le h = record {
  no_target = h.no_target;
  named = h.named;
  endings_are = h.endings_are;
  book_is = h.book_is;
  kept = λ undone n c low is own. h.kept undone n c (omega (arith, le, low)) is own;
}

-- A place is the same whatever stands for one that is not there.
pub place_same : (xs : List (Option Member)) (i : ℕ) (x y : Option Member) → i < length xs
    → slice_index_or xs i x ≡ slice_index_or xs i y
place_same xs i x y lt = grind (arith, common_steps, elements)

pub place_at : (s : ScenarioValue) (rows : List Row) (dev first : ℕ) (xs : List (Option Member)) (x : Option Member)
    → dev < length xs → IsPlaceOver s rows dev first (slice_index_or xs dev None)
    → IsPlaceOver s rows dev first (slice_index_or xs dev x)
place_at s rows dev first xs x lt h =
    subst (λ (p : Option Member). IsPlaceOver s rows dev first p) (place_same xs dev None x lt) h

-- One place is asked, and the others stay.
pub places_next :
    (s : ScenarioValue) (rows : List Row) (n one : ℕ) (places : List (Option Member)) (place : Option Member)
    → one < length places → AreOver s rows n places → IsPlaceOver s rows one (n + 1) place
    → AreOver s rows (n + 1) (slice_set places one place)
places_next s rows n one places place lt h new dev b =
    elim (cases_eq dev one) [
      | inl same ↦ subst
          (λ (d : ℕ). IsPlaceOver s rows d (n + 1) (slice_index_or (slice_set places one place) d None)) (sym same)
          (subst (λ (p : Option Member). IsPlaceOver s rows one (n + 1) p) (sym (own_at places one place lt)) new)
      | inr ne ↦ subst (λ (p : Option Member). IsPlaceOver s rows dev (n + 1) p)
          (sym (other_at places one dev place (λ (e : one ≡ dev). ne (sym e))))
          (later s rows dev n (n + 1) (slice_index_or places dev None) (omega arith) (h dev b))
    ]
