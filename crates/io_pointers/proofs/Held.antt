-- A buffer holds what a process carried.
use Rattle.std.proofs.Common.{ℕ, ◌≡◌, ◌+◌, ◌<◌, Bool, true, false, List, [], ◌∷◌, ◌++◌, length, take, refl, sym, ap}
use Rattle.std.proofs.Common.{subst, ◌∙◌, arith}
use Rattle.std.specs.Prelude.{nat_lt, slice_set, if◌then◌else◌}
use Rattle.std.proofs.lemmas.Bool.Decides.{nat_tests}
use Rattle.std.proofs.lemmas.List.{take_more_set, length-set, length-append}
use Rattle.std.proofs.Math.Seq.{take-set-lt}
use Rattle.story_model.specs.CarriedBytes.{Area, area_with, restored_area}
use Rattle.io_pointers.specs.HostBuffer.{IsHeld}
use Rattle.bus_base.proofs.Tests.{length_more}

set_inside : (bytes buffer : List ℕ) (at byte : ℕ) → at < length bytes → take (length bytes) buffer ≡ bytes
    → take (length (slice_set bytes at byte)) (slice_set buffer at byte) ≡ slice_set bytes at byte
set_inside bytes buffer at byte lt h =
    ap (λ (n : ℕ). take n (slice_set buffer at byte)) (length-set bytes at byte)
    ∙ take-set-lt (length bytes) buffer at byte lt
    ∙ ap (λ (xs : List ℕ). slice_set xs at byte) h

set_at_end : (bytes buffer : List ℕ) (at byte : ℕ) → at ≡ length bytes
    → at < length buffer → take (length bytes) buffer ≡ bytes
    → take (length (bytes ++ byte ∷ [])) (slice_set buffer at byte) ≡ bytes ++ byte ∷ []
set_at_end bytes buffer at byte e lt h =
    ap (λ (n : ℕ). take n (slice_set buffer at byte)) (length_more bytes byte ∙ ap (λ (n : ℕ). n + 1) (sym e))
    ∙ take_more_set buffer at byte lt
    ∙ ap (λ (n : ℕ). take n buffer ++ byte ∷ []) e
    ∙ ap (λ (xs : List ℕ). xs ++ byte ∷ []) h

placed_held : (q : Bool) (a : Area) (buffer : List ℕ) (byte : ℕ) → nat_lt a.active (length a.bytes) ≡ q
    → a.active < length buffer → IsHeld a buffer → IsHeld (record a {
      bytes =
          if q then slice_set a.bytes a.active byte else a.bytes ++ byte ∷ [];
      active = a.active + 1;
    }) (slice_set buffer a.active byte)
placed_held true a buffer byte e lt h =
    let below : a.active < length a.bytes = grind (arith, nat_tests) in
    let same = length-set a.bytes a.active byte in
    let saved = h.saved in
    record {
      active = omega arith;
      saved = omega arith;
      bytes = set_inside a.bytes buffer a.active byte below h.bytes;
    }
placed_held false a buffer byte e lt h =
    let most = h.active in
    let end : a.active ≡ length a.bytes = grind (arith, nat_tests) in
    let more = length_more a.bytes byte in
    let saved = h.saved in
    record {
      active = omega arith;
      saved = omega arith;
      bytes = set_at_end a.bytes buffer a.active byte end lt h.bytes;
    }

-- A byte is put at the active pointer.
pub put_held : (a : Area) (buffer : List ℕ) (at byte : ℕ) → a.active ≡ at → at < length buffer → IsHeld a buffer
    → IsHeld (area_with a byte) (slice_set buffer at byte)
put_held a buffer at byte e lt h = subst (λ (n : ℕ). IsHeld (area_with a byte) (slice_set buffer n byte)) e (placed_held
    (nat_lt a.active (length a.bytes)) a buffer byte refl (subst (λ (n : ℕ). n < length buffer) (sym e) lt) h)

-- The active pointer is set to the saved one.
pub restored_held : (a : Area) (buffer : List ℕ) → IsHeld a buffer → IsHeld (restored_area a) buffer
restored_held a buffer h = record { active = h.saved; saved = h.saved; bytes = h.bytes }

-- The active pointer is saved.
pub saved_held : (a : Area) (buffer : List ℕ) → IsHeld a buffer → IsHeld (record a { saved = a.active }) buffer
saved_held a buffer h = record { active = h.active; saved = h.active; bytes = h.bytes }
