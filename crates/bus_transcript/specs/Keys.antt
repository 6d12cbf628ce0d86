-- The key of a nexus, and the order of keys: by initiator, target, unit and tag, none before any number.
use Rattle.std.specs.Prelude.{ℕ, Option}
use Rattle.std.specs.Ordering.{nat_cmp, ordering_then}
use Rattle.std.specs.Option.{option_cmp}
use Rattle.std.specs.declared.cmp.Ordering.{Ordering}
use Rattle.bus_transcript.specs.declared.item.Name.{Name}

abbrev pub Key : Type 0
Key = (ℕ × ℕ) × (Option ℕ × Option ℕ)

abbrev pub key_of : Name → Key
key_of name = ((name.initiator, name.target), (name.unit, name.tag))

abbrev pub key_cmp : Key → Key → Ordering
key_cmp x y = ordering_then (ordering_then (nat_cmp (x.0).0 (y.0).0) (nat_cmp (x.0).1 (y.0).1))
    (ordering_then (option_cmp nat_cmp (x.1).0 (y.1).0) (option_cmp nat_cmp (x.1).1 (y.1).1))
