-- Codes as lists of bytes.
use Rattle.std.specs.Prelude.{ℕ, List, [], ◌∷◌, length, max}
use Rattle.std.specs.Global.{Vec}

abbrev pub bytes_in : Vec ℕ → List ℕ
bytes_in code = code.items

-- how many bytes the longest code has
abbrev pub longest_code : List (List ℕ) → ℕ
longest_code [] = 0
longest_code (code ∷ codes) = max (length code) (longest_code codes)

-- how many bytes the longest code of a device has
abbrev pub longest_device : List (ℕ × List ℕ) → ℕ
longest_device [] = 0
longest_device (x ∷ xs) = max (length x.1) (longest_device xs)
