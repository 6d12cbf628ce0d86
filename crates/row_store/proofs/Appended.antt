-- A word more, the last: what it adds to the rows, and to the time.
use Rattle.std.proofs.Common.{ℕ, suc, ◌≡◌, ◌<◌, ◌≤◌, ◌+◌, ◌*◌, ◌/◌, ◌%◌, ◌^◌, ◌∙◌, Bool, true, false, List, [], ◌∷◌}
use Rattle.std.proofs.Common.{◌++◌, append_assoc, append-nil, reverse, length, refl, sym, ap, arith}
use Rattle.std.specs.Prelude.{if◌then◌else◌}
use Rattle.std.proofs.lemmas.List.{reverse-append}
use Rattle.std.proofs.lemmas.Nat.{div_below, div-add-mod'}
use Rattle.bus_trace.specs.declared.rows.Row.{Row}
use Rattle.bus_trace.specs.Trace.{last_time}
use Rattle.row_store.specs.Words.{apart_in, device_in, is_time, kind_in, last_from, row_in, rows_from, rows_in}
use Rattle.row_store.specs.Words.{time_after}

pub rows_with : (time : ℕ) (words : List ℕ) (word : ℕ) → rows_from time (words ++ word ∷ [])
    ≡ rows_from time words ++ rows_in (time_after (last_from time words) word) word
rows_with time [] word = append-nil (rows_in (time_after time word) word)
rows_with time (first ∷ words) word =
    let next = time_after time first in
    ap (λ (rows : List Row). rows_in next first ++ rows) (rows_with next words word) ∙ sym
    (append_assoc (rows_in next first) (rows_from next words) (rows_in (time_after (last_from next words) word) word))

pub last_with : (time : ℕ) (words : List ℕ) (word : ℕ)
    → last_from time (words ++ word ∷ []) ≡ time_after (last_from time words) word
last_with time [] word = refl
last_with time (first ∷ words) word = last_with (time_after time first) words word

-- The time of a word of a row.
row_time : (q : Bool) (time far near : ℕ) → q ≡ false → (if q then far else near) ≡ near
row_time true time far near e = absurd cc
row_time false time far near e = refl

time_alone : (q : Bool) (far near : ℕ) → q ≡ true → (if q then far else near) ≡ far
time_alone true far near e = refl
time_alone false far near e = absurd cc

of_row : (q : Bool) (row : Row) → q ≡ false → (if q then [] else row ∷ []) ≡ row ∷ []
of_row true row e = absurd cc
of_row false row e = refl

no_row : (q : Bool) (row : Row) → q ≡ true → (if q then [] else row ∷ []) ≡ []
no_row true row e = refl
no_row false row e = absurd cc

below : (n m : ℕ) → n < m → n % m ≡ n
below n m lt = grind (arith, lt)

-- A word of a row so long after the time says that row.
near_time : (last word time n : ℕ) → is_time word ≡ false → last + n ≡ time → time < 2 ^ 64 → apart_in word ≡ n
    → time_after last word ≡ time
near_time last word time n e sum fits apart =
    row_time (is_time word) last _ _ e
    ∙ ap (λ m. (last + m) % 2 ^ 64) apart
    ∙ ap (λ m. m % 2 ^ 64) sum
    ∙ below time (2 ^ 64) fits

row_is : (word : ℕ) (row : Row) → is_time word ≡ false → device_in word ≡ row.dev → kind_in word ≡ row.kind
    → rows_in row.time word ≡ row ∷ []
row_is word row e dev kind =
    of_row (is_time word) (row_in row.time word) e
    ∙ λ i. (record { time = row.time; dev = dev i; kind = kind i }) ∷ []

-- The time word before the word of a row far from the row before.
far_time : (last word time : ℕ) → is_time word ≡ true → time < 2 ^ 64 → apart_in word ≡ time / (2 ^ 36)
    → time_after last word ≡ time / (2 ^ 36) * (2 ^ 36)
far_time last word time e fits units = time_alone (is_time word) _ _ e ∙ ap (λ n. n % (2 ^ 28) * (2 ^ 36)) units
    ∙ ap (λ n. n * (2 ^ 36))
    (below (time / (2 ^ 36)) (2 ^ 28) (div_below time (2 ^ 36) (2 ^ 28) (omega arith) (omega (arith, fits))))

rest_time : (last word time : ℕ) → is_time word ≡ false → time < 2 ^ 64 → apart_in word ≡ time % (2 ^ 36)
    → last ≡ time / (2 ^ 36) * (2 ^ 36) → time_after last word ≡ time
rest_time last word time e fits apart is =
    row_time (is_time word) last _ _ e
    ∙ (λ i. (is i + apart i) % 2 ^ 64)
    ∙ ap (λ n. n % 2 ^ 64) (div-add-mod' time (2 ^ 36))
    ∙ below time (2 ^ 64) fits

only_time : (time word : ℕ) → is_time word ≡ true → rows_in time word ≡ []
only_time time word e = no_row (is_time word) (row_in time word) e

-- What a row more makes of the words of a store.
pub record IsWith (words new : List ℕ) (row : Row) : Type 0 where
  pub last : row.time ≡ last_from 0 new
  pub rows : rows_from 0 new ≡ rows_from 0 words ++ row ∷ []
  pub newest : row.time ≡ last_time (reverse (rows_from 0 new))

newest_is : (rows old : List Row) (row : Row) → rows ≡ old ++ row ∷ [] → row.time ≡ last_time (reverse rows)
newest_is rows old row is = sym (ap (λ (l : List Row). last_time (reverse l)) is
    ∙ ap (λ (l : List Row). last_time l) (reverse-append old (row ∷ [])))

with_word : (words new : List ℕ) (word : ℕ) (row : Row) → time_after (last_from 0 words) word ≡ row.time
    → is_time word ≡ false → device_in word ≡ row.dev → kind_in word ≡ row.kind → new ≡ words ++ word ∷ []
    → IsWith words new row
with_word words new word row at e dev kind is =
    let rows =
    ap (λ (l : List ℕ). rows_from 0 l) is
    ∙ rows_with 0 words word
    ∙ ap (λ (l : List Row). rows_from 0 words ++ l) (ap (λ t. rows_in t word) at ∙ row_is word row e dev kind) in
    record {
      last = sym (ap (λ (l : List ℕ). last_from 0 l) is ∙ last_with 0 words word ∙ at);
      rows = rows;
      newest = newest_is (rows_from 0 new) (rows_from 0 words) row rows;
    }

pub with_near : (words new : List ℕ) (word last n : ℕ) (row : Row) → last ≡ last_from 0 words → last + n ≡ row.time
    → row.time < 2 ^ 64 → is_time word ≡ false → apart_in word ≡ n → device_in word ≡ row.dev → kind_in word ≡ row.kind
    → new ≡ words ++ word ∷ [] → IsWith words new row
with_near words new word last n row was sum fits e apart dev kind is = with_word words new word row
    (ap (λ t. time_after t word) (sym was) ∙ near_time last word row.time n e sum fits apart) e dev kind is

pub with_far : (words new : List ℕ) (first word : ℕ) (row : Row) → row.time < 2 ^ 64 → is_time first ≡ true
    → apart_in first ≡ row.time / (2 ^ 36) → is_time word ≡ false → apart_in word ≡ row.time % (2 ^ 36)
    → device_in word ≡ row.dev → kind_in word ≡ row.kind → new ≡ words ++ first ∷ word ∷ [] → IsWith words new row
with_far words new first word row fits f units e apart dev kind is =
    let timed = words ++ first ∷ [] in
    let last = last_with 0 words first ∙ far_time (last_from 0 words) first row.time f fits units in
    let none = rows_with 0 words first
    ∙ ap (λ (l : List Row). rows_from 0 words ++ l) (only_time (time_after (last_from 0 words) first) first f)
    ∙ append-nil (rows_from 0 words) in
    let w = with_word timed new word row (rest_time (last_from 0 timed) word row.time e fits apart last) e dev kind
    (is ∙ sym (append_assoc words (first ∷ []) (word ∷ []))) in
    record { last = w.last; rows = w.rows ∙ ap (λ (l : List Row). l ++ row ∷ []) none; newest = w.newest }

-- No more rows than words.
pub rows_short : (time : ℕ) (words : List ℕ) → length (rows_from time words) ≤ length words
rows_short time [] = omega arith
rows_short time (word ∷ words) = go (is_time word) (rows_short (time_after time word) words) where
  go : (q : Bool) → length (rows_from (time_after time word) words) ≤ length words
      → length ((if q then [] else row_in (time_after time word) word ∷ []) ++ rows_from (time_after time word) words)
      ≤ suc (length words)
  go true le = omega (arith, le)
  go false le = omega (arith, le)
