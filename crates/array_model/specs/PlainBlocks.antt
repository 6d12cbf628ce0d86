-- The contents of a unit as a plain list of all its blocks.
use Rattle.std.specs.Prelude.{ℕ, zero, suc, ◌+◌, List, [], ◌∷◌, ◌++◌, take, drop}
use Rattle.array_model.specs.Contents.{Contents, block_at}

-- n blocks from block lba on.
abbrev pub blocks_from : (ℕ → List ℕ) → ℕ → ℕ → List (List ℕ)
blocks_from block lba zero = []
blocks_from block lba (suc n) = block lba ∷ blocks_from block (lba + 1) n

abbrev pub plain_blocks : Contents → List (List ℕ)
plain_blocks c = blocks_from (block_at c) 0 c.count

abbrev pub bytes_of_blocks : List (List ℕ) → List ℕ
bytes_of_blocks [] = []
bytes_of_blocks (block ∷ blocks) = block ++ bytes_of_blocks blocks

-- Bytes cut into n blocks of this size.
abbrev pub blocks_of_bytes : ℕ → ℕ → List ℕ → List (List ℕ)
blocks_of_bytes size zero bytes = []
blocks_of_bytes size (suc n) bytes = take size bytes ∷ blocks_of_bytes size n (drop size bytes)
