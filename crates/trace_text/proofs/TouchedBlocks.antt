-- The text of a disk, touched block by touched block.
use Rattle.std.proofs.Common.{◌≡◌, ℕ, ◌+◌, ◌<◌, ◌≤◌, Bool, true, false, List, [], ◌∷◌, ◌++◌, refl, arith}
use Rattle.std.specs.Prelude.{Some, None, ◌==◌, nat_lt, if◌then◌else◌}
use Rattle.std.proofs.lemmas.Bool.Decides.{nat_tests}
use Rattle.array_model.specs.Contents.{touched_block}
use Rattle.disk_unit.specs.Sparse.{touched_from}
use Rattle.trace_text.specs.BlockText.{block_text, blocks_text}

-- The lowest touched block from a number on is not below it.
pub from_on : (touched : List (ℕ × List ℕ)) (from lba : ℕ) → touched_from touched from ≡ Some lba → from ≤ lba
from_on [] from lba e = cc
from_on (entry ∷ touched) from lba e = go (from_on touched from lba) (nat_lt entry.0 from) refl e
  where
    go : (touched_from touched from ≡ Some lba → from ≤ lba) → (q : Bool) → nat_lt entry.0 from ≡ q
        → (if q then touched_from touched from else Some entry.0) ≡ Some lba → from ≤ lba
    go before true z h = before h
    go before false z h = let same : entry.0 ≡ lba = cc in grind (arith, nat_tests)

pub next_is : (t u count from lba : ℕ) (touched : List (ℕ × List ℕ)) (blank : List ℕ)
    → touched_from touched from ≡ Some lba → lba < count → blocks_text t u count from touched
    ≡ block_text t u lba (touched_block touched lba blank) ++ blocks_text t u count (lba + 1) touched
next_is t u count from lba [] blank e lt = cc
next_is t u count from lba (entry ∷ touched) blank e lt =
    go (λ h. next_is t u count from lba touched blank h lt) (nat_lt entry.0 from) refl e
  where
    later : (x y : Bool) → x ≡ false → y ≡ true → blocks_text t u count from touched
        ≡ block_text t u lba (touched_block touched lba blank) ++ blocks_text t u count (lba + 1) touched
        → blocks_text t u count from touched
        ≡ block_text t u lba (if x then entry.1 else touched_block touched lba blank)
        ++ (if y then blocks_text t u count (lba + 1) touched
        else if nat_lt entry.0 count then block_text t u entry.0 entry.1 ++ blocks_text t u count (entry.0 + 1) touched
        else [])
    later false true a b h = h
    later true y a b h = absurd cc
    later false false a b h = absurd cc

    here : (x y z : Bool) → x ≡ true → y ≡ true → z ≡ true → entry.0 ≡ lba
        → (if x then block_text t u entry.0 entry.1 ++ blocks_text t u count (entry.0 + 1) touched else [])
        ≡ block_text t u lba (if y then entry.1 else touched_block touched lba blank)
        ++ (if z then blocks_text t u count (lba + 1) touched
        else if nat_lt entry.0 count then block_text t u entry.0 entry.1 ++ blocks_text t u count (entry.0 + 1) touched
        else [])
    here true true true a b c same = λ i. block_text t u (same i) entry.1 ++ blocks_text t u count (same i + 1) touched
    here false y z a b c same = absurd cc
    here true false z a b c same = absurd cc
    here true true false a b c same = absurd cc

    go : (touched_from touched from ≡ Some lba → blocks_text t u count from touched
        ≡ block_text t u lba (touched_block touched lba blank) ++ blocks_text t u count (lba + 1) touched)
        → (q : Bool) → nat_lt entry.0 from ≡ q → (if q then touched_from touched from else Some entry.0) ≡ Some lba
        → (if q then blocks_text t u count from touched
        else if nat_lt entry.0 count then block_text t u entry.0 entry.1 ++ blocks_text t u count (entry.0 + 1) touched
        else []) ≡ block_text t u lba (touched_block (entry ∷ touched) lba blank)
        ++ blocks_text t u count (lba + 1) (entry ∷ touched)
    go before true z h =
        let le : from ≤ lba = from_on touched from lba h in
        later (entry.0 == lba) (nat_lt entry.0 (lba + 1)) (grind (arith, nat_tests)) (grind (arith, nat_tests))
        (before h)
    go before false z h =
        let same : entry.0 ≡ lba = cc in
        here (nat_lt entry.0 count) (entry.0 == lba) (nat_lt entry.0 (lba + 1)) (grind (arith, nat_tests))
        (grind (arith, nat_tests)) (grind (arith, nat_tests)) same

-- Where none is left below the count, no text is left.
pub none_is : (t u count from : ℕ) (touched : List (ℕ × List ℕ)) → touched_from touched from ≡ None
    → blocks_text t u count from touched ≡ []
none_is t u count from [] e = refl
none_is t u count from (entry ∷ touched) e = go (none_is t u count from touched) (nat_lt entry.0 from) e
  where
    go : (touched_from touched from ≡ None → blocks_text t u count from touched ≡ [])
        → (q : Bool) → (if q then touched_from touched from else Some entry.0) ≡ None
        → (if q then blocks_text t u count from touched
        else if nat_lt entry.0 count then block_text t u entry.0 entry.1 ++ blocks_text t u count (entry.0 + 1) touched
        else []) ≡ []
    go before true h = before h
    go before false h = cc

none_from : (t u count : ℕ) (entry : ℕ × List ℕ) (touched : List (ℕ × List ℕ)) (x : Bool) → x ≡ false
    → (if x then block_text t u entry.0 entry.1 ++ blocks_text t u count (entry.0 + 1) touched else []) ≡ []
none_from t u count entry touched false z = refl
none_from t u count entry touched true z = absurd cc

pub past_is : (t u count from lba : ℕ) (touched : List (ℕ × List ℕ)) → touched_from touched from ≡ Some lba
    → count ≤ lba → blocks_text t u count from touched ≡ []
past_is t u count from lba [] e le = refl
past_is t u count from lba (entry ∷ touched) e le =
    go (λ h. past_is t u count from lba touched h le) (nat_lt entry.0 from) e
  where
    go : (touched_from touched from ≡ Some lba → blocks_text t u count from touched ≡ [])
        → (q : Bool) → (if q then touched_from touched from else Some entry.0) ≡ Some lba
        → (if q then blocks_text t u count from touched
        else if nat_lt entry.0 count then block_text t u entry.0 entry.1 ++ blocks_text t u count (entry.0 + 1) touched
        else []) ≡ []
    go before true h = before h
    go before false h =
        let same : entry.0 ≡ lba = cc in
        none_from t u count entry touched (nat_lt entry.0 count) (grind (arith, nat_tests))

pub over_is : (t u count from : ℕ) (touched : List (ℕ × List ℕ)) → count ≤ from
    → blocks_text t u count from touched ≡ []
over_is t u count from [] le = refl
over_is t u count from (entry ∷ touched) le = go (over_is t u count from touched le) (nat_lt entry.0 from) refl
  where
    go : blocks_text t u count from touched ≡ [] → (q : Bool) → nat_lt entry.0 from ≡ q
        → (if q then blocks_text t u count from touched
        else if nat_lt entry.0 count then block_text t u entry.0 entry.1 ++ blocks_text t u count (entry.0 + 1) touched
        else []) ≡ []
    go before true z = before
    go before false z = none_from t u count entry touched (nat_lt entry.0 count) (grind (arith, nat_tests))
