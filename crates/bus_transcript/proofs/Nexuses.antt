-- The key of a nexus tells it from the others.
use Rattle.std.proofs.Common.{ℕ, ◌≡◌, refl, ◌∙◌}
use Rattle.std.specs.Prelude.{◌&&◌, Option, Some, None}
use Rattle.std.specs.Cmp.{unsigned_tied}
use Rattle.std.specs.Ordering.{is_eq, nat_cmp, ordering_then}
use Rattle.std.specs.Option.{option_cmp}
use Rattle.std.specs.declared.cmp.Ordering.{Ordering}
use Rattle.std.specs.declared.cmp.Ordering.TheVariants.{Less, Equal, Greater}
use Rattle.std.specs.BTreeMap.{is_at}
use Rattle.bus_transcript.specs.declared.item.Name.{Name}
use Rattle.bus_transcript.specs.Keys.{key_of, key_cmp}
use Rattle.bus_transcript.specs.Processes.{same_nexus}
use Rattle.array_model.specs.Order.{same_number}

both : (a b : Ordering) → is_eq (ordering_then a b) ≡ (is_eq a && is_eq b)
both Less b = refl
both Equal b = refl
both Greater b = refl

numbers : (a b : Option ℕ) → is_eq (option_cmp nat_cmp a b) ≡ same_number a b
numbers None None = refl
numbers None (Some y) = refl
numbers (Some x) None = refl
numbers (Some x) (Some y) = unsigned_tied x y

pub by_key : (a b : Name) → is_at (key_cmp (key_of a)) (key_of b) ≡ same_nexus a b
by_key a b = both (ordering_then (nat_cmp a.initiator b.initiator) (nat_cmp a.target b.target))
    (ordering_then (option_cmp nat_cmp a.unit b.unit) (option_cmp nat_cmp a.tag b.tag))
    ∙ (λ i. both (nat_cmp a.initiator b.initiator) (nat_cmp a.target b.target) i
    && both (option_cmp nat_cmp a.unit b.unit) (option_cmp nat_cmp a.tag b.tag) i)
    ∙ (λ i. (unsigned_tied a.initiator b.initiator i && unsigned_tied a.target b.target i)
    && (numbers a.unit b.unit i && numbers a.tag b.tag i))
