-- The blocks that were written, as they are kept.
use Rattle.std.specs.Prelude.{◌≡◌, ℕ, zero, suc, ◌+◌, ◌≤◌, Bool, false, ◌==◌, List, [], ◌∷◌, length, Option, Some, None}
use Rattle.std.specs.Prelude.{nat_lt, if◌then◌else◌}
use Rattle.std.specs.Global.{Vec}
use Rattle.array_model.specs.Contents.{Contents}

-- What a user sees: the contents, and how many blocks may be written for the first time.
pub record Store : Type 0 where
  pub contents : Contents
  pub spare : ℕ

-- Each number with its bytes.
abbrev pub touched_of : List ℕ → List (Vec ℕ) → List (ℕ × List ℕ)
touched_of [] blocks = []
touched_of (n ∷ numbers) [] = []
touched_of (n ∷ numbers) (block ∷ blocks) = (n, block.items) ∷ touched_of numbers blocks

-- From this number on each is higher than the one before it.
abbrev pub AreRising : ℕ → List ℕ → Type 0
AreRising low [] = Unit {0}
AreRising low (n ∷ numbers) = (low ≤ n) × AreRising (suc n) numbers

abbrev pub HaveSize : ℕ → List (Vec ℕ) → Type 0
HaveSize size [] = Unit {0}
HaveSize size (block ∷ blocks) = (length block.items ≡ size) × HaveSize size blocks

-- How many of the first numbers are below this one.
abbrev pub place_in : List ℕ → ℕ → ℕ
place_in [] from = 0
place_in (n ∷ numbers) from = if nat_lt n from then suc (place_in numbers from) else 0

pub record IsSparse (count size : ℕ) (numbers : List ℕ) (blocks pool : List (Vec ℕ)) (room more_room : ℕ) : Type 0 where
  pub some : 1 ≤ count
  pub most : count ≤ 4294967296
  pub some_size : 1 ≤ size
  pub most_size : size ≤ 2048
  pub rising : AreRising 0 numbers
  pub paired : length numbers ≡ length blocks
  pub sized : HaveSize size blocks
  pub pooled : HaveSize size pool
  pub numbers_fit : length numbers + length pool ≤ room
  pub blocks_fit : length blocks + length pool ≤ more_room

-- The lowest touched block from this number on.
abbrev pub touched_from : List (ℕ × List ℕ) → ℕ → Option ℕ
touched_from [] from = None
touched_from (entry ∷ touched) from = if nat_lt entry.0 from then touched_from touched from else Some entry.0

-- The number at this place is this one.
abbrev pub is_at : List ℕ → ℕ → ℕ → Bool
is_at [] place lba = false
is_at (n ∷ numbers) zero lba = n == lba
is_at (n ∷ numbers) (suc place) lba = is_at numbers place lba
