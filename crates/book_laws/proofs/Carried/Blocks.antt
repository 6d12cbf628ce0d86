-- A front of a command block, and when it is whole (6.2.1 of the rules: rule 26).
use Rattle.book_laws.proofs
use proofs.Names.{ℕ, ◌≡◌, ◌<◌, ◌+◌, Bool, true, false, ◌&&◌, ◌||◌, ◌∙◌, List, [], ◌∷◌, ◌++◌, length, Option, Some, None}
use proofs.Names.{refl, sym, ap, arith, true≢false, append-nil, length-append, nat_tests, if◌then◌else◌, slice_index}
use proofs.Names.{is_some, eq_self, suc_some, counted_on, group_len, is_len, has_group_len, command_on, CommandBytes}
use proofs.Names.{may_take, is_none_or_all, is_below, is_same_length, same_bytes}

-- while it is not whole, a byte follows
pub follows_block : (block rest cdb : List ℕ) → block ++ rest ≡ cdb → has_group_len cdb ≡ true
    → has_group_len block ≡ false → length block < length cdb
follows_block block [] cdb e whole not_yet =
    absurd (true≢false (sym (ap has_group_len (sym (append-nil block) ∙ e) ∙ whole) ∙ not_yet))
follows_block block (b ∷ rest) cdb e whole not_yet =
    let w = ap length e in
    let v = length-append block (b ∷ rest) in
    omega arith

len_is : (g : Option ℕ) (i m : ℕ) → is_len g i ≡ true → is_len g m ≡ true → i ≡ m
len_is None i m e f = absurd (true≢false (sym e))
len_is (Some l) i m e f = grind (arith, nat_tests)

nil_of : (rest : List ℕ) (m : ℕ) → m + length rest ≡ m → rest ≡ []
nil_of [] m e = refl
nil_of (b ∷ rest) m e = absurd omega (arith, e)

-- where it is whole, nothing follows
pub whole_block : (block rest cdb : List ℕ) → block ++ rest ≡ cdb → has_group_len cdb ≡ true
    → has_group_len block ≡ true → rest ≡ []
whole_block [] rest cdb e whole yet = absurd (true≢false (sym yet))
whole_block (b ∷ block) rest cdb e whole yet =
    let same : length (b ∷ block) ≡ length cdb = len_is (group_len b) (length (b ∷ block))
    (length cdb) yet ((λ i. is_len (group_len (slice_index (e i) 0)) (length cdb)) ∙ whole) in
    let w = ap length e in
    let v = length-append (b ∷ block) rest in
    nil_of rest (length (b ∷ block)) (omega arith)

pub block_is_all : (block rest cdb : List ℕ) → block ++ rest ≡ cdb → has_group_len cdb ≡ true
    → has_group_len block ≡ true → block ≡ cdb
block_is_all block rest cdb e whole yet =
    sym (append-nil block) ∙ ap (λ (r : List ℕ). block ++ r) (sym (whole_block block rest cdb e whole yet)) ∙ e

pub same_self : (xs : List ℕ) → same_bytes xs xs ≡ true
same_self [] = refl
same_self (x ∷ xs) = ap (λ (q : Bool). q && same_bytes xs xs) (eq_self x) ∙ same_self xs

-- ---- rule 26: the bytes of COMMAND that the rules count are those of the block

abbrev pub counted_block : List ℕ → CommandBytes
counted_block block = record { first = slice_index block 0; count = length block }

counted_small : (i m : ℕ) → i < 1000 → m ≡ i + 1 → counted_on i ≡ m
counted_small i m lt e = omega (arith, lt, e)

pub counts_on : (block : List ℕ) (byte : ℕ) → length block < 1000
    → command_on (counted_block block) byte ≡ counted_block (block ++ byte ∷ [])
counts_on [] byte lt = refl
counts_on (b ∷ block) byte lt =
    let v = length-append block (byte ∷ []) in
    let e : counted_on (length (b ∷ block)) ≡ length (b ∷ (block ++ byte ∷ [])) = counted_small
    (length (b ∷ block)) (length (b ∷ (block ++ byte ∷ []))) lt (omega arith) in
    λ i. record { first = if suc_some (length block) i then byte else b; count = e i }

some_len : (g : Option ℕ) (m : ℕ) → is_len g m ≡ true → is_some g ≡ true
some_len None m e = e
some_len (Some l) m e = refl

below_len : (g : Option ℕ) (i m : ℕ) → is_len g i ≡ true → m < i → is_below m g ≡ true
below_len None i m e lt = e
below_len (Some l) i m e lt = grind (arith, nat_tests)

pub may_follow : (block : List ℕ) (byte : ℕ) (ys cdb : List ℕ) → block ++ byte ∷ ys ≡ cdb → has_group_len cdb ≡ true
    → may_take (counted_block block) byte ≡ true
may_follow [] byte ys cdb e whole =
    some_len (group_len byte) (length cdb) ((λ i. is_len (group_len (slice_index (e i) 0)) (length cdb)) ∙ whole)
may_follow (b ∷ block) byte ys cdb e whole =
    let w = ap length e in
    let v = length-append block (byte ∷ ys) in
    ap (λ (q : Bool). if q then is_some (group_len byte) else is_below (length (b ∷ block)) (group_len b))
    (suc_some (length block))
    ∙ below_len (group_len b) (length cdb) (length (b ∷ block))
    ((λ i. is_len (group_len (slice_index (e i) 0)) (length cdb)) ∙ whole) (omega arith)

same_len : (g : Option ℕ) (m : ℕ) → is_len g m ≡ true → is_same_length m g ≡ true
same_len None m e = e
same_len (Some l) m e = grind (arith, nat_tests)

pub none_or_all : (block : List ℕ) → has_group_len block ≡ true → is_none_or_all (counted_block block) ≡ true
none_or_all [] whole = refl
none_or_all (b ∷ block) whole =
    ap (λ (q : Bool). q || is_same_length (length (b ∷ block)) (group_len b)) (suc_some (length block))
    ∙ same_len (group_len b) (length (b ∷ block)) whole
