-- The one spelling of each word.
use Rattle.std.specs.Prelude.{◌≡◌, ℕ, ◌+◌, ◌/◌, ◌%◌, ◌<◌, List, [], ◌∷◌, Some, None, decimal, nat_lt, if◌then◌else◌}
use Rattle.std.specs.List.{flat_map, prefix_len, AllByRecursion}
use Rattle.std.specs.Char.{is_ascii_digit}
use Rattle.text_words.specs.Words.{Number, is_hex}

-- The hexadecimal digit of a value below 16, in lower case.
abbrev pub hex_digit : ℕ → ℕ
hex_digit d = if nat_lt d 10 then 48 + d else 87 + d

-- The two digits of a byte, the high one first.
abbrev pub byte_text : ℕ → List ℕ
byte_text b = hex_digit (b / 16) ∷ hex_digit (b % 16) ∷ []

-- The digits of these bytes.
abbrev pub hex_text : List ℕ → List ℕ
hex_text bytes = flat_map byte_text bytes

-- A number in decimal, with no leading zero; one that the reader could not hold has no spelling.
abbrev pub number_text : Number → List ℕ
number_text None = []
number_text (Some n) = decimal n

-- The digit that names a device.
abbrev pub digit_text : ℕ → List ℕ
digit_text d = (48 + d) ∷ []

-- Each is a byte.
abbrev pub AreBytes : List ℕ → Type 0
AreBytes bytes = AllByRecursion (λ b. b < 256) bytes

-- What follows goes on with no decimal digit, so a number ends before it.
abbrev pub EndsNumber : List ℕ → Type 0
EndsNumber rest = prefix_len is_ascii_digit rest ≡ 0

-- What follows goes on with no hexadecimal digit, so a run of them ends before it.
abbrev pub EndsHex : List ℕ → Type 0
EndsHex rest = prefix_len is_hex rest ≡ 0
