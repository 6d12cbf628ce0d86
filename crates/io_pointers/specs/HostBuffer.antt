-- What a process carried stands in a buffer, from its first byte on.
use Rattle.std.specs.Prelude.{ℕ, ◌≡◌, ◌≤◌, List, length, take}
use Rattle.story_model.specs.CarriedBytes.{Area}

-- The bytes of the area stand at the front of the buffer, and neither of its pointers stands past them.
pub record IsHeld (a : Area) (buffer : List ℕ) : Type 0 where
  pub active : a.active ≤ length a.bytes
  pub saved : a.saved ≤ length a.bytes
  pub bytes : take (length a.bytes) buffer ≡ a.bytes
