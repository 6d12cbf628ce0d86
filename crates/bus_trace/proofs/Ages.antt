-- Since when a line has stood.
use Rattle.std.proofs.Common.{ℕ, ◌≡◌, ◌≢◌, ◌≤◌, ◌<◌, ◌==◌, Bool, true, false, List, [], ◌∷◌, if◌then◌else◌, ◌∙◌, refl}
use Rattle.std.proofs.Common.{sym, arith}
use Rattle.std.specs.Prelude.{not, cond}
use Rattle.std.specs.Int.{bit_at}
use Rattle.bus_trace.specs.LineSet.{LineSet, bit_value, line_of, same}
use Rattle.bus_trace.specs.declared.rows.Row.{Row}
use Rattle.bus_trace.specs.Trace.{bus, newer, since, since_line}
use Rattle.bus_trace.proofs.Bits.{line_low}
use Rattle.std.proofs.lemmas.Bool.{ne_eqb, eq-eqb}
use Rattle.bus_base.proofs.Tests.{if_less}

-- a line by its number
pub line_bsy : (s : LineSet) → line_of 9 s ≡ bit_value s.bsy 1
unfolding line_of
line_bsy s = refl

pub line_sel : (s : LineSet) → line_of 10 s ≡ bit_value s.sel 1
unfolding line_of
line_sel s = refl

pub line_cd : (s : LineSet) → line_of 11 s ≡ bit_value s.cd 1
unfolding line_of
line_cd s = refl

pub line_io : (s : LineSet) → line_of 12 s ≡ bit_value s.io 1
unfolding line_of
line_io s = refl

pub line_msg : (s : LineSet) → line_of 13 s ≡ bit_value s.msg 1
unfolding line_of
line_msg s = refl

pub line_req : (s : LineSet) → line_of 14 s ≡ bit_value s.req 1
unfolding line_of
line_req s = refl

pub line_ack : (s : LineSet) → line_of 15 s ≡ bit_value s.ack 1
unfolding line_of
line_ack s = refl

pub line_atn : (s : LineSet) → line_of 16 s ≡ bit_value s.atn 1
unfolding line_of
line_atn s = refl

pub line_rst : (s : LineSet) → line_of 17 s ≡ bit_value s.rst 1
unfolding line_of
line_rst s = refl

if_yes : (q : Bool) (x y : ℕ) → q ≡ true → (if q then x else y) ≡ x
if_yes q x y e = λ i. if e i then x else y

if_no : (q : Bool) (x y : ℕ) → q ≡ false → (if q then x else y) ≡ y
if_no q x y e = λ i. if e i then x else y

same_yes : (a b : Bool) → a ≡ b → same a b ≡ true
same_yes true b e = sym e
same_yes false true e = e
same_yes false false e = refl

same_no : (a b : Bool) → a ≢ b → same a b ≡ false
same_no true true e = absurd (e refl)
same_no true false e = refl
same_no false true e = refl
same_no false false e = absurd (e refl)

-- a change is newer than no change, and lies at the time or before
pub if_le : (q : Bool) (was time : ℕ) → was ≤ time → (if q then was else time) ≤ time
if_le true was time h = h
if_le false was time h = omega arith

pub newer_le : (seen : LineSet → ℕ) (a b : LineSet) (was time age : ℕ) → age ≡ newer seen a b was time → was ≤ time
    → age ≤ time
newer_le seen a b was time age e h = let le = if_le (seen a == seen b) was time h in omega arith

pub newer_lt : (seen : LineSet → ℕ) (a b : LineSet) (was time age end : ℕ) → age ≡ newer seen a b was time → was < end
    → time < end → age < end
newer_lt seen a b was time age end e h t = let lt = if_less (seen a == seen b) was time end h t in omega arith

-- where nothing changed before its time, a row leaves no change after its time
pub since_le : (seen : LineSet → ℕ) (row : Row) (rows : List Row) → since seen rows ≤ row.time
    → since seen (row ∷ rows) ≤ row.time
since_le seen row rows h = if_le (seen (bus rows) == seen (bus (row ∷ rows))) _ _ h

pub since_line_le : (on : LineSet → Bool) (row : Row) (rows : List Row) → since_line on rows ≤ row.time
    → since_line on (row ∷ rows) ≤ row.time
since_line_le on row rows h = if_le (same (on (bus rows)) (on (bus (row ∷ rows)))) _ _ h

-- what stays keeps its time, and what changes takes that of the row
pub since-kept : (seen : LineSet → ℕ) (row : Row) (rows : List Row) → seen (bus rows) ≡ seen (bus (row ∷ rows))
    → since seen (row ∷ rows) ≡ since seen rows
since-kept seen row rows e = if_yes _ _ _ (eq-eqb (seen (bus rows)) (seen (bus (row ∷ rows))) e)

pub since-set : (seen : LineSet → ℕ) (row : Row) (rows : List Row) → seen (bus rows) ≢ seen (bus (row ∷ rows))
    → since seen (row ∷ rows) ≡ row.time
since-set seen row rows e = if_no _ _ _ (ne_eqb (seen (bus rows)) (seen (bus (row ∷ rows))) e)

pub since_line-kept : (on : LineSet → Bool) (row : Row) (rows : List Row) → on (bus rows) ≡ on (bus (row ∷ rows))
    → since_line on (row ∷ rows) ≡ since_line on rows
since_line-kept on row rows e = if_yes _ _ _ (same_yes (on (bus rows)) (on (bus (row ∷ rows))) e)

pub since_line-set : (on : LineSet → Bool) (row : Row) (rows : List Row) → on (bus rows) ≢ on (bus (row ∷ rows))
    → since_line on (row ∷ rows) ≡ row.time
since_line-set on row rows e = if_no _ _ _ (same_no (on (bus rows)) (on (bus (row ∷ rows))) e)

pub newer_along : (seen : LineSet → ℕ) (a a' b b' : LineSet) (x x' t : ℕ) → a ≡ a' → b ≡ b' → x ≡ x'
    → newer seen a b x t ≡ newer seen a' b' x' t
newer_along seen a a' b b' x x' t p q r = λ i. newer seen (p i) (q i) (r i) t

same_value : (a b : Bool) → (bit_value a 1 == bit_value b 1) ≡ same a b
same_value true true = refl
same_value true false = refl
same_value false true = refl
same_value false false = refl

-- the time of a line by a number is that of the line
pub since_by_line : (on : LineSet → Bool) (rows : List Row) → since (λ s. bit_value (on s) 1) rows ≡ since_line on rows
since_by_line on [] = refl
since_by_line on (row ∷ rows) =
    let test = same_value (on (bus rows)) (on (bus (row ∷ rows))) in
    let was = since_by_line on rows in
    λ i. if test i then was i else row.time

pub since_line_of : (line : ℕ) (on : LineSet → Bool) → ((s : LineSet) → line_of line s ≡ bit_value (on s) 1)
    → (rows : List Row) → since (line_of line) rows ≡ since_line on rows
since_line_of line on law rows =
    let e : since (line_of line) rows ≡ since (λ s. bit_value (on s) 1) rows = λ i. since (λ s. law s i) rows in
    e ∙ since_by_line on rows

-- where no data line changes the time of each stays
pub data_stay : (b a : LineSet) (time : ℕ) (old : ℕ → ℕ) → b.data_bits ≡ a.data_bits → (k : ℕ) → k < 9
    → old k ≡ newer (line_of k) b a (old k) time
data_stay b a time old same k lt =
    let e : line_of k b ≡ line_of k a = line_low k b lt ∙ ((λ i. bit_at (same i) k) ∙ sym (line_low k a lt)) in
    sym (if_yes (line_of k b == line_of k a) (old k) time (eq-eqb _ _ e))

-- the time of a line that differs is the newest
pub newest_is : (k : ℕ) (b a : LineSet) (time was new : ℕ) (differs : Bool) → differs ≡ not (line_of k b == line_of k a)
    → new ≡ cond differs time was → new ≡ newer (line_of k) b a was time
newest_is k b a time was new differs ed en = en ∙ ((λ i. cond (ed i) time was) ∙ go (line_of k b == line_of k a))
  where
    go : (q : Bool) → cond (not q) time was ≡ (if q then was else time)
    go true = refl
    go false = refl
