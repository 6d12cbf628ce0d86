-- The codes of the variables: all of them, in their order, and those of the devices.
use Rattle.std.specs.Prelude.{ℕ, Bool, List, [], ◌∷◌, Option, Some, None, nat_eq, ◌==◌, if◌then◌else◌}
use Rattle.std.specs.List.{list_any}
use Rattle.std.specs.Ordering.{nat_cmp}
use Rattle.std.specs.Cmp.Lexicographic.{pointwise, slice_cmp}
use Rattle.std.specs.BTreeMap.{is_at}
use Rattle.std.specs.BTreeSet.{insert_key}

abbrev pub with_code : List (List ℕ) → List ℕ → List (List ℕ)
with_code codes code = insert_key (slice_cmp nat_cmp) codes code

abbrev pub has_code : List (List ℕ) → List ℕ → Bool
has_code codes code = list_any (is_at (slice_cmp nat_cmp code)) codes

-- The device of which this is the code.
abbrev pub device_of : List (ℕ × List ℕ) → List ℕ → Option ℕ
device_of [] code = None
device_of (x ∷ xs) code = if pointwise nat_eq x.1 code then Some x.0 else device_of xs code

abbrev pub has_device : List (ℕ × List ℕ) → ℕ → Bool
has_device xs device = list_any (λ x. x.0 == device) xs
