-- The rows so far, as the judge sees them.
use Rattle.std.proofs.Common.{ap, refl, ◌≡◌, ◌<◌, ◌≤◌, ◌+◌, ◌∙◌, ℕ, Bool, true, false, not, List, [], ◌∷◌, ◌++◌, None}
use Rattle.std.proofs.Common.{length, get_or, take, reverse, map, arith}
use Rattle.std.specs.List.{position, position_or_len}
use Rattle.std.proofs.lemmas.List.Sums.{fails_before_first}
use Rattle.std.proofs.lemmas.Grind.{take_at_read, common_steps}
use Rattle.std.proofs.lemmas.Bool.Decides.{nat_tests}
use Rattle.std.proofs.lemmas.List.{reverse-append, length-map, length-reverse, length-take-le, length-append}
use Rattle.bus_trace.specs.declared.rows.Row.{Row}
use Rattle.scsibus_c.specs.declared.rows.ScsibusRow.{ScsibusRow}
use Rattle.scsibus_c.specs.Rows.{row_of, rows_after, is_row, is_off}

-- one row more
pub one_more
    : (past : List Row) (xs : List ScsibusRow) (i : ℕ) (d : ScsibusRow) → i < length xs
    → rows_after past (take (i + 1) xs) ≡ row_of (get_or xs i d) ∷ rows_after past (take i xs)
one_more past xs i d h = ap (λ (ys : List ScsibusRow). map row_of ys ++ past)
    (ap (λ (ys : List ScsibusRow). reverse ys) ((take_at_read xs i d h).1)
    ∙ reverse-append (take i xs) (get_or xs i d ∷ []))

-- how many they are
pub as_many : (past : List Row) (xs : List ScsibusRow) → length (rows_after past xs) ≡ length xs + length past
as_many past xs = length-append (map row_of (reverse xs)) past
    ∙ ap (λ (n : ℕ). n + length past) (length-map (reverse xs) row_of ∙ length-reverse xs)

pub as_many_so_far : (past : List Row) (xs : List ScsibusRow) (i : ℕ) → i ≤ length xs
    → length (rows_after past (take i xs)) ≡ i + length past
as_many_so_far past xs i h = as_many past (take i xs) ∙ ap (λ (n : ℕ). n + length past) (length-take-le i xs h)

-- one row alone
pub alone
    : (past : List Row) (xs : List ScsibusRow) (d : ScsibusRow) → 1 ≤ length xs → length xs < 2
    → rows_after past xs ≡ row_of (get_or xs 0 d) ∷ past
alone past [] d least below = absurd (omega arith)
alone past (x ∷ []) d least below = refl
alone past (x ∷ y ∷ xs) d least below = absurd (omega arith)

pub none_alone : (xs : List ScsibusRow) (d : ScsibusRow) → 1 ≤ length xs → length xs < 2
    → is_row (get_or xs 0 d) ≡ true → position is_off xs ≡ None
none_alone [] d least below e = absurd (omega arith)
none_alone (x ∷ []) d least below e = ap (λ (b : Bool). position (λ (y : ScsibusRow). not b) (x ∷ [])) e
none_alone (x ∷ y ∷ xs) d least below e = absurd (omega arith)

-- each of them is in range
none_off : (xs : List ScsibusRow) (i : ℕ) (d : ScsibusRow) → position is_off xs ≡ None → i < length xs
    → is_off (get_or xs i d) ≡ false
none_off xs i d none h =
    let beyond : length xs ≤ position_or_len is_off xs = grind (arith, common_steps) in
    fails_before_first is_off xs i d (omega arith)

pub of_device : (r : ScsibusRow) → is_off r ≡ false → r.dev < 8
of_device r e = grind (arith, nat_tests, common_steps)

pub all_of_device : (xs : List ScsibusRow) (i : ℕ) (d : ScsibusRow) → position is_off xs ≡ None → i < length xs
    → (row_of (get_or xs i d)).dev < 8
all_of_device xs i d none h = of_device (get_or xs i d) (none_off xs i d none h)
