-- Words of a text, read from left to right: each gives a value and what follows it.
use Rattle.std.specs.Prelude.{◌≡◌, ℕ, ◌+◌, ◌-◌, ◌*◌, ◌/◌, ◌%◌, ◌^◌, Bool, ◌&&◌, ◌||◌, not, List, [], ◌∷◌, length, take}
use Rattle.std.specs.Prelude.{drop, Option, Some, None, nat_lt, nat_le, nat_eq, ◌==◌, slice_index, if◌then◌else◌}
use Rattle.std.specs.List.{prefix_len}
use Rattle.std.specs.Cmp.Lexicographic.{pointwise}
use Rattle.std.specs.Char.{is_ascii_digit}

-- The next word is read only where this one is there: a form of a line is a `do` chain over these.
infixl 10 ◌>>=◌
abbrev pub ◌>>=◌ : {A B : Type 0} → Option A → (A → Option B) → Option B
None >>= f = None
(Some x) >>= f = f x

-- What a function returned, seen by `view`, is this: both are nothing, or both are there and agree.
abbrev pub Sees : {X Y : Type 0} → (X → Y) → Option X → Option Y → Type 0
Sees view None o = o ≡ None
Sees view (Some x) o = o ≡ Some (view x)

-- The value of a number in a text; `None` stands for every value from 2^64 on.
abbrev pub Number : Type 0
Number = Option ℕ

-- What follows this text at the front; `None` where the bytes do not begin with it.
unfoldable pub after : List ℕ → List ℕ → Option (List ℕ)
after text bytes = if pointwise nat_eq (take (length text) bytes) text then Some (drop (length text) bytes) else None

-- Numbers end at 64 bits.
abbrev pub small : ℕ → Number
small n = if nat_lt n (2 ^ 64) then Some n else None

-- A number with one decimal digit more at its end.
abbrev pub pushed : Number → ℕ → Number
pushed None d = None
pushed (Some n) d = small (n * 10 + (d - 48))

-- The value of n followed by these decimal digits.
abbrev pub value_after : ℕ → List ℕ → ℕ
value_after n [] = n
value_after n (d ∷ ds) = value_after (n * 10 + (d - 48)) ds

-- One digit or more, and no leading zero.
abbrev pub is_decimal : List ℕ → Bool
is_decimal ds = not (length ds == 0) && not (nat_lt 1 (length ds) && slice_index ds 0 == 48)

-- The number that the first n bytes, all of them digits, spell, and what follows it.
abbrev pub number_of_len : ℕ → List ℕ → Option (Number × List ℕ)
number_of_len n bytes =
    if is_decimal (take n bytes) then Some (small (value_after 0 (take n bytes)), drop n bytes) else None

-- The decimal number at the front, which takes all digits there, and what follows it.
unfoldable pub number_at : List ℕ → Option (Number × List ℕ)
number_at bytes = number_of_len (prefix_len is_ascii_digit bytes) bytes

-- One of the digits 0 to 7, which name the eight devices.
abbrev pub is_digit : ℕ → Bool
is_digit b = nat_le 48 b && nat_le b 55

-- The device that the byte at the front names, and what follows it.
abbrev pub digit_at : List ℕ → Option (ℕ × List ℕ)
digit_at [] = None
digit_at (b ∷ bytes) = if is_digit b then Some (b - 48, bytes) else None

-- A hexadecimal digit: 0 to 9, or a to f in lower case.
abbrev pub is_hex : ℕ → Bool
is_hex b = is_ascii_digit b || (nat_le 97 b && nat_le b 102)

-- The first n bytes, all of them hexadecimal digits, and what follows them; two digits make a byte.
abbrev pub hex_of_len : ℕ → List ℕ → Option (List ℕ × List ℕ)
hex_of_len n bytes = if n == 0 || n % 2 == 1 then None else Some (take n bytes, drop n bytes)

-- All hexadecimal digits at the front, one byte or more, and what follows them.
unfoldable pub hex_digits_at : List ℕ → Option (List ℕ × List ℕ)
hex_digits_at bytes = hex_of_len (prefix_len is_hex bytes) bytes

-- The value of a hexadecimal digit.
abbrev pub hex_value : ℕ → ℕ
hex_value b = if nat_lt b 97 then (b - 48) % 16 else (b - 87) % 16

-- The value of a hexadecimal digit, and 16 where the byte is none.
abbrev pub hex_or_16 : ℕ → ℕ
hex_or_16 b = if is_hex b then hex_value b else 16

-- The bytes that hexadecimal digits spell, two digits each, the high one first.
abbrev pub bytes_of : List ℕ → List ℕ
bytes_of [] = []
bytes_of (a ∷ []) = []
bytes_of (a ∷ b ∷ ds) = (hex_value a * 16 + hex_value b) ∷ bytes_of ds

-- The n bytes that the hexadecimal digits at the front spell, and what follows them; `None` where
-- they are not the digits of n bytes.
abbrev pub of_count : ℕ → List ℕ × List ℕ → Option (List ℕ × List ℕ)
of_count n x = if length x.0 / 2 == n then Some (bytes_of x.0, x.1) else None

unfoldable pub hex_array_at : ℕ → List ℕ → Option (List ℕ × List ℕ)
hex_array_at n bytes = hex_digits_at bytes >>= of_count n

-- Nothing follows.
abbrev pub is_whole : List ℕ → Option (Unit {0})
is_whole [] = Some tt
is_whole (b ∷ bytes) = None
