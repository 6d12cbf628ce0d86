-- Reading decimal digits one by one.
use Rattle.std.proofs.Common.{◌≡◌, ℕ, zero, suc, ◌+◌, ◌-◌, ◌*◌, ◌%◌, ◌^◌, ◌<◌, ◌≤◌, Bool, true, false, cond, ltb, List}
use Rattle.std.proofs.Common.{[], ◌∷◌, length, get_or, take, drop, length-take, Some, None, refl, sym, ap, ◌∙◌, arith}
use Rattle.std.proofs.Common.{add-one}
use Rattle.std.specs.List.{prefix_len}
use Rattle.std.specs.Char.{is_ascii_digit}
use Rattle.core.specs.Char.{digit_value}
use Rattle.core.specs.Str.Parse.{digits_value_after, digits_value}
use Rattle.std.proofs.Math.Nat.{mul-le-mul_right, pow-succ', pow-le-pow_right, mod-eq_of_lt}
use Rattle.std.proofs.Math.Seq.{drop-cons}
use Rattle.std.proofs.lemmas.List.{drop_all}
use Rattle.std.proofs.lemmas.Bool.{ltb-true, ltb-false, lt-ltb, le-ltb, leb-true, and_parts}
use Rattle.std.specs.Prelude.{nat_le}
use Rattle.std.proofs.lemmas.Option.{cond_some}
use Rattle.text_words.specs.Words.{Number, small, value_after}
use Rattle.text_words.specs.Digits.{front, IsDecimalSoFar}

len_with : (d : ℕ) (ds : List ℕ) → is_ascii_digit d ≡ true
    → prefix_len is_ascii_digit (d ∷ ds) ≡ suc (prefix_len is_ascii_digit ds)
len_with d ds t = rw t (omega arith)

front_with : (d : ℕ) (ds : List ℕ) → is_ascii_digit d ≡ true → front (d ∷ ds) ≡ d ∷ front ds
front_with d ds t = ap (λ (n : ℕ). take n (d ∷ ds)) (len_with d ds t)

drop_at : (bytes : List ℕ) (at : ℕ) → at < length bytes → drop at bytes ≡ get_or bytes at 0 ∷ drop (at + 1) bytes
drop_at bytes at lt = rw (add-one, drop-cons bytes at 0 lt) refl

pub more_value : (bytes : List ℕ) (n at : ℕ) → at < length bytes → is_ascii_digit (get_or bytes at 0) ≡ true
    → value_after n (front (drop at bytes))
    ≡ value_after (n * 10 + (get_or bytes at 0 - 48)) (front (drop (at + 1) bytes))
more_value bytes n at lt t = ap (λ (ds : List ℕ). value_after n (front ds)) (drop_at bytes at lt)
    ∙ ap (value_after n) (front_with (get_or bytes at 0) (drop (at + 1) bytes) t)

small_some : (n m : ℕ) → small n ≡ Some m → (n ≡ m) × (n < 2 ^ 64)
small_some n m e =
    let p = cond_some (ltb n (2 ^ 64)) n m e in
    (p.1, ltb-true _ _ p.0)

-- one digit more, where its value is below 2^64
pub more_digits : (bytes : List ℕ) (n at more : ℕ) → IsDecimalSoFar bytes n at → at < length bytes
    → is_ascii_digit (get_or bytes at 0) ≡ true → small (n * 10 + (get_or bytes at 0 - 48)) ≡ Some more
    → IsDecimalSoFar bytes more (at + 1)
more_digits bytes n at more h lt t e =
    let d : ℕ = get_or bytes at 0 in
    let ds : List ℕ = drop (at + 1) bytes in
    let next : drop at bytes ≡ get_or bytes at 0 ∷ drop (at + 1) bytes = drop_at bytes at lt in
    let longer : prefix_len is_ascii_digit (drop at bytes) ≡ suc (prefix_len is_ascii_digit (drop (at + 1) bytes)) =
    ap (prefix_len is_ascii_digit) next ∙ len_with d ds t in
    let p = small_some (n * 10 + (get_or bytes at 0 - 48)) more e in
    let fits = p.1 in
    record {
      within = omega arith;
      fits = omega arith;
      len = let before = h.len in omega arith;
      value = ap (λ (m : ℕ). value_after m (front ds)) (sym p.0) ∙ sym (more_value bytes n at lt t) ∙ h.value;
    }

-- a value never falls by the digits after it
pub value_grows : (n : ℕ) (ds : List ℕ) → n ≤ value_after n ds
value_grows n [] = omega arith
value_grows n (d ∷ ds) = let more = value_grows (n * 10 + (d - 48)) ds in omega arith

small_none : (n : ℕ) (q : Bool) → ltb n (2 ^ 64) ≡ q → (let o : Number = cond q (Some n) None in o) ≡ None → 2 ^ 64 ≤ n
small_none n true e none = absurd cc
small_none n false e none = ltb-false _ _ e

-- one digit that takes the value to 2^64 takes that of all digits there
pub too_large : (bytes : List ℕ) (n at : ℕ) → IsDecimalSoFar bytes n at → at < length bytes
    → is_ascii_digit (get_or bytes at 0) ≡ true → small (n * 10 + (get_or bytes at 0 - 48)) ≡ None
    → small (value_after 0 (front bytes)) ≡ None
too_large bytes n at h lt t none =
    let more : ℕ = n * 10 + (get_or bytes at 0 - 48) in
    let large = small_none (n * 10 + (get_or bytes at 0 - 48))
    (ltb (n * 10 + (get_or bytes at 0 - 48)) (2 ^ 64)) refl none in
    let grows = value_grows (n * 10 + (get_or bytes at 0 - 48)) (front (drop (at + 1) bytes)) in
    let whole : value_after (n * 10 + (get_or bytes at 0 - 48)) (front (drop (at + 1) bytes))
    ≡ value_after 0 (front bytes) = sym (more_value bytes n at lt t) ∙ h.value in
    rw (le-ltb (value_after 0 (front bytes)) (2 ^ 64) (omega arith)) refl

-- no digit follows
pub no_more : (bytes : List ℕ) (n at : ℕ) → IsDecimalSoFar bytes n at → prefix_len is_ascii_digit (drop at bytes) ≡ 0
    → (let o : Number = Some n in o) ≡ small (value_after 0 (take at bytes))
no_more bytes n at h stop =
    let lt = h.fits in
    let len : prefix_len is_ascii_digit bytes ≡ at = let sum = h.len in omega arith in
    let none : front (drop at bytes) ≡ [] = ap (λ (k : ℕ). take k (drop at bytes)) stop in
    let whole : value_after 0 (take at bytes) ≡ n = ap (λ (k : ℕ). value_after 0 (take k bytes)) (sym len)
    ∙ sym h.value ∙ ap (value_after n) none in
    rw (whole, lt-ltb n (2 ^ 64) lt) refl

pub stops_at : (bytes : List ℕ) (at : ℕ) → at < length bytes → is_ascii_digit (get_or bytes at 0) ≡ false
    → prefix_len is_ascii_digit (drop at bytes) ≡ 0
stops_at bytes at lt t = ap (prefix_len is_ascii_digit) (drop_at bytes at lt) ∙ rw t refl

pub stops_at_end : (bytes : List ℕ) (at : ℕ) → length bytes ≤ at → prefix_len is_ascii_digit (drop at bytes) ≡ 0
stops_at_end bytes at le = ap (prefix_len is_ascii_digit) (drop_all at bytes le)

-- what a digit is worth to the library
worth : (d : ℕ) → is_ascii_digit d ≡ true → (digit_value d ≡ d - 48) × (d - 48 < 10)
worth d t =
    let p = and_parts (nat_le 48 d) (nat_le d 57) t in
    let low = leb-true 48 d p.0 in
    let high = leb-true d 57 p.1 in
    (rw (le-ltb d 48 low, lt-ltb d 58 (omega arith)) refl, omega arith)

-- the value of the digits at the front is that which the library reads
as_read : (n : ℕ) (bytes : List ℕ) → digits_value_after 10 n (front bytes) ≡ value_after n (front bytes)
as_read n [] = refl
as_read n (d ∷ bytes) = by_digit (is_ascii_digit d) refl (as_read (n * 10 + (d - 48)) bytes)
  where
    by_digit : (q : Bool) → is_ascii_digit d ≡ q
        → digits_value_after 10 (n * 10 + (d - 48)) (front bytes) ≡ value_after (n * 10 + (d - 48)) (front bytes)
        → digits_value_after 10 n (front (d ∷ bytes)) ≡ value_after n (front (d ∷ bytes))
    by_digit true t rest = rw (front_with d bytes t)
        (ap (λ (w : ℕ). digits_value_after 10 (n * 10 + w) (front bytes)) (worth d t).0 ∙ rest)
    by_digit false t _ = rw t refl

-- so many digits have so small a value
below : (n : ℕ) (bytes : List ℕ) → value_after n (front bytes) < suc n * 10 ^ prefix_len is_ascii_digit bytes
below n [] = omega arith
below n (d ∷ bytes) = by_digit (is_ascii_digit d) refl (below (n * 10 + (d - 48)) bytes)
  where
    by_digit : (q : Bool) → is_ascii_digit d ≡ q
        → value_after (n * 10 + (d - 48)) (front bytes) < suc (n * 10 + (d - 48)) * 10 ^ prefix_len is_ascii_digit bytes
        → value_after n (front (d ∷ bytes)) < suc n * 10 ^ prefix_len is_ascii_digit (d ∷ bytes)
    by_digit false t _ = rw t (omega arith)
    by_digit true t rest =
        let k : ℕ = prefix_len is_ascii_digit bytes in
        let next : ℕ = n * 10 + (d - 48) in
        let small_digit = (worth d t).1 in
        let more : suc next * 10 ^ k ≤ suc n * 10 * 10 ^ k = mul-le-mul_right (10 ^ k) (omega arith) in
        rw (front_with d bytes t, len_with d bytes t, pow-succ' 10 k) (omega arith)

-- fewer digits than twenty have this value, as the library reads them from the first byte on
read_value : (bytes : List ℕ) (len value : ℕ) → len ≡ 0 + prefix_len is_ascii_digit bytes
    → len < 20 → value ≡ (0 * 10 ^ (len - 0) + digits_value 10 (take (len - 0) bytes)) % 2 ^ 64
    → (value ≡ value_after 0 (take len bytes)) × (value < 2 ^ 64)
read_value bytes len value end few is =
    let bound = below 0 bytes in
    let power = pow-le-pow_right {n = 10} (omega arith) {i = prefix_len is_ascii_digit bytes} {j = 19} (omega arith) in
    let fits : value_after 0 (front bytes) < 2 ^ 64 = omega arith in
    let all : take len bytes ≡ front bytes = ap (λ (k : ℕ). take k bytes) (omega arith) in
    let all_read : take (len - 0) bytes ≡ front bytes = ap (λ (k : ℕ). take k bytes) (omega arith) in
    let from_0 : 0 * 10 ^ (len - 0) + digits_value 10 (take (len - 0) bytes) ≡ digits_value 10 (take (len - 0) bytes) =
    omega arith in
    let read : value ≡ value_after 0 (front bytes) = is
    ∙ ap (λ (n : ℕ). n % 2 ^ 64) (from_0 ∙ ap (digits_value 10) all_read ∙ as_read 0 bytes) ∙ mod-eq_of_lt fits in
    (read ∙ ap (value_after 0) (sym all), rw read fits)

-- where digits end within the first k bytes, they end there in all
ends_within : (k : ℕ) (bytes : List ℕ) → prefix_len is_ascii_digit (take k bytes) < k
    → prefix_len is_ascii_digit bytes ≡ prefix_len is_ascii_digit (take k bytes)
ends_within zero bytes h = absurd (omega arith)
ends_within (suc k) [] h = refl
ends_within (suc k) (d ∷ bytes) h = by_digit (is_ascii_digit d) refl (ends_within k bytes)
  where
    by_digit : (q : Bool) → is_ascii_digit d ≡ q → (prefix_len is_ascii_digit (take k bytes) < k
        → prefix_len is_ascii_digit bytes ≡ prefix_len is_ascii_digit (take k bytes))
        → prefix_len is_ascii_digit (d ∷ bytes) ≡ prefix_len is_ascii_digit (d ∷ take k bytes)
    by_digit false t rest = rw t refl
    by_digit true t rest =
        let longer = len_with d (take k bytes) t in
        len_with d bytes t ∙ ap suc (rest (omega (arith, h, longer))) ∙ sym longer

-- where the first k bytes are digits, those after them go on
goes_on : (k : ℕ) (bytes : List ℕ) (n : ℕ) → k ≤ length bytes → prefix_len is_ascii_digit (take k bytes) ≡ k
    → (k + prefix_len is_ascii_digit (drop k bytes) ≡ prefix_len is_ascii_digit bytes)
    × (value_after (value_after n (take k bytes)) (front (drop k bytes)) ≡ value_after n (front bytes))
goes_on zero bytes n le all = (omega arith, refl)
goes_on (suc k) [] n le all = absurd (omega arith)
goes_on (suc k) (d ∷ bytes) n le all = by_digit (is_ascii_digit d) refl (goes_on k bytes (n * 10 + (d - 48)))
  where
    by_digit : (q : Bool) → is_ascii_digit d ≡ q → (k ≤ length bytes → prefix_len is_ascii_digit (take k bytes) ≡ k
        → (k + prefix_len is_ascii_digit (drop k bytes) ≡ prefix_len is_ascii_digit bytes)
        × (value_after (value_after (n * 10 + (d - 48)) (take k bytes)) (front (drop k bytes))
        ≡ value_after (n * 10 + (d - 48)) (front bytes)))
        → (suc k + prefix_len is_ascii_digit (drop k bytes) ≡ prefix_len is_ascii_digit (d ∷ bytes))
        × (value_after (value_after (n * 10 + (d - 48)) (take k bytes)) (front (drop k bytes))
        ≡ value_after n (front (d ∷ bytes)))
    by_digit false t rest =
        let none : prefix_len is_ascii_digit (d ∷ take k bytes) ≡ 0 = rw t refl in
        absurd (omega (arith, all, none))
    by_digit true t rest =
        let longer = len_with d (take k bytes) t in
        let whole = len_with d bytes t in
        let more = rest (omega arith) (omega (arith, all, longer)) in
        (omega (arith, more.0, whole), more.1 ∙ ap (value_after n) (sym (front_with d bytes t)))

take_twice : (k n : ℕ) (bytes : List ℕ) → k ≤ n → take k (take n bytes) ≡ take k bytes
take_twice zero n bytes le = refl
take_twice (suc k) zero bytes le = absurd (omega arith)
take_twice (suc k) (suc n) [] le = refl
take_twice (suc k) (suc n) (d ∷ bytes) le = ap (λ (ds : List ℕ). d ∷ ds) (take_twice k n bytes (omega arith))

-- digits that end within the first eight bytes, as the library reads these
module _ (bytes : List ℕ) (len value : ℕ) (end : len ≡ 0 + prefix_len is_ascii_digit (take 8 bytes))
    (is : value ≡ (0 * 10 ^ (len - 0) + digits_value 10 (take (len - 0) (take 8 bytes))) % 2 ^ 64) where
  pub few_len : len < 8 → len ≡ prefix_len is_ascii_digit bytes
  few_len few = let within = ends_within 8 bytes (omega (arith, end)) in omega (arith, end, within)

  pub few_value : len < 8 → (let o : Number = Some value in o) ≡ small (value_after 0 (take len bytes))
  few_value few =
      let read = read_value (take 8 bytes) len value end (omega arith) is in
      let whole : value_after 0 (take len bytes) ≡ value =
      ap (value_after 0) (sym (take_twice len 8 bytes (omega arith))) ∙ sym read.0 in
      rw (whole, lt-ltb value (2 ^ 64) read.1) refl

  -- eight digits, which others may follow
  pub eight_digits : 8 ≤ length bytes → 8 ≤ len → len ≤ length (take 8 bytes) → IsDecimalSoFar bytes value 8
  eight_digits enough all within =
      let eight : len ≡ 8 = let cut = length-take 8 bytes in omega (arith, cut) in
      let read = read_value (take 8 bytes) len value end (omega arith) is in
      let more = goes_on 8 bytes 0 enough (omega (arith, end)) in
      let same : value ≡ value_after 0 (take 8 bytes) = read.0
      ∙ ap (value_after 0) (ap (λ (k : ℕ). take k (take 8 bytes)) eight ∙ take_twice 8 8 bytes (omega arith)) in
      record {
        within = enough;
        fits = read.1;
        len = more.0;
        value = ap (λ (n : ℕ). value_after n (front (drop 8 bytes))) same ∙ more.1;
      }
