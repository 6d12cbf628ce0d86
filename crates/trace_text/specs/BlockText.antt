-- The text of the disks: a line for each block that is not all zero.
use Rattle.std.specs.Prelude.{ℕ, ◌+◌, ◌==◌, Bool, List, [], ◌∷◌, ◌++◌, codes, decimal, nat_lt, if◌then◌else◌}
use Rattle.std.specs.List.{list_all}
use Rattle.text_words.specs.Spelling.{hex_text}
use Rattle.array_model.specs.Contents.{Contents}

abbrev pub is_zero : List ℕ → Bool
is_zero bytes = list_all (λ b. b == 0) bytes

-- `block T U LBA HEX`, or nothing for a block that is all zero
abbrev pub block_text : ℕ → ℕ → ℕ → List ℕ → List ℕ
block_text target unit lba bytes =
    if is_zero bytes then [] else codes "block " ++ (decimal target
    ++ (32 ∷ [] ++ (decimal unit ++ (32 ∷ [] ++ (decimal lba ++ (32 ∷ [] ++ (hex_text bytes ++ 10 ∷ [])))))))

-- The touched blocks of a disk of so many blocks, from this number on. Their numbers rise; one that does not is no
-- block of the disk, and no more is one that is not below the count.
abbrev pub blocks_text : ℕ → ℕ → ℕ → ℕ → List (ℕ × List ℕ) → List ℕ
blocks_text target unit count from [] = []
blocks_text target unit count from (entry ∷ touched) =
    if nat_lt entry.0 from then blocks_text target unit count from touched else if nat_lt entry.0 count
    then block_text target unit entry.0 entry.1 ++ blocks_text target unit count (entry.0 + 1) touched else []

abbrev pub blocks_from : ℕ → ℕ → Contents → ℕ → List ℕ
blocks_from target unit disk from = blocks_text target unit disk.count from disk.touched

-- A block that was not touched is all zero.
abbrev pub disk_text : ℕ → ℕ → Contents → List ℕ
disk_text target unit disk = blocks_from target unit disk 0

-- the disks, each at its target and unit
abbrev pub disks_text : List (ℕ × ℕ) → List Contents → List ℕ
disks_text [] disks = []
disks_text (unit ∷ units) [] = []
disks_text (unit ∷ units) (disk ∷ disks) = disk_text unit.0 unit.1 disk ++ disks_text units disks
