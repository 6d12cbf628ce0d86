-- Blocks that are put leave the unit its number of blocks and their size; and whole ones stay whole.
use Rattle.std.proofs.Common.{ℕ, zero, suc, ◌≡◌, ◌+◌, ◌-◌, ◌*◌, Bool, true, false, List, ◌∙◌, refl, ap, arith, length}
use Rattle.std.proofs.Common.{take, drop}
use Rattle.std.specs.Prelude.{◌==◌, if◌then◌else◌, min}
use Rattle.std.proofs.lemmas.List.{length-take, length-drop, length-replicate}
use Rattle.array_model.specs.Contents.{Contents, blank_contents, block_at, with_block, with_bytes}
use Rattle.array_model.proofs.Touched.{block_same}

-- ---- as many blocks, of the same size

pub record HasSameExtent (a b : Contents) : Type 0 where
  pub count : b.count ≡ a.count
  pub size : b.size ≡ a.size

pub extent_self : (c : Contents) → HasSameExtent c c
extent_self c = record { count = refl; size = refl }

pub extent_more : (a b c : Contents) → HasSameExtent a b → HasSameExtent b c → HasSameExtent a c
extent_more a b c h k = record { count = k.count ∙ h.count; size = k.size ∙ h.size }

pub bytes_extent : (n : ℕ) (c : Contents) (lba : ℕ) (bytes : List ℕ) → HasSameExtent c (with_bytes c lba n bytes)
bytes_extent zero c lba bytes = extent_self c
bytes_extent (suc n) c lba bytes = extent_more c (with_block c lba (take c.size bytes))
    (with_bytes (with_block c lba (take c.size bytes)) (lba + 1) n (drop c.size bytes)) (record {
      count = refl;
      size = refl;
    }) (bytes_extent n (with_block c lba (take c.size bytes)) (lba + 1) (drop c.size bytes))

-- A reel stays as it is.
pub bytes_reel : (n : ℕ) (c : Contents) (lba : ℕ) (bytes : List ℕ) → (with_bytes c lba n bytes).reel ≡ c.reel
bytes_reel zero c lba bytes = refl
bytes_reel (suc n) c lba bytes = bytes_reel n (with_block c lba (take c.size bytes)) (lba + 1) (drop c.size bytes)

-- ---- each block has as many bytes as the unit's blocks have

abbrev pub AreWhole : Contents → Type 0
AreWhole c = (lba : ℕ) → length (block_at c lba) ≡ c.size

pub blank_whole : (count size : ℕ) → AreWhole (blank_contents count size)
blank_whole count size lba = length-replicate size 0

pub block_whole : (c : Contents) (lba : ℕ) (block : List ℕ) → length block ≡ c.size → AreWhole c
    → AreWhole (with_block c lba block)
block_whole c lba block e h k = ap (λ (b : List ℕ). length b) (block_same c lba block k) ∙ go (lba == k)
  where
    go : (q : Bool) → length (if q then block else block_at c k) ≡ c.size
    go true = e
    go false = h k

pub bytes_whole : (n : ℕ) (c : Contents) (lba : ℕ) (bytes : List ℕ) → length bytes ≡ n * c.size → AreWhole c
    → AreWhole (with_bytes c lba n bytes)
bytes_whole zero c lba bytes e h = h
bytes_whole (suc n) c lba bytes e h =
    let first = length-take c.size bytes in
    let rest = length-drop c.size bytes in
    bytes_whole n (with_block c lba (take c.size bytes)) (lba + 1) (drop c.size bytes)
    (left (length bytes) (length (drop c.size bytes)) n c.size rest e)
    (block_whole c lba (take c.size bytes) (first ∙ least c.size (length bytes) n e) h)
  where
    left : (all rest n size : ℕ) → rest ≡ all - size → all ≡ suc n * size → rest ≡ n * size
    left all rest n size f g = omega (arith, f, g)

    least : (size all n : ℕ) → all ≡ suc n * size → min size all ≡ size
    least size all n f = grind (arith, f)
