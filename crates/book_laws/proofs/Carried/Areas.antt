-- A byte crosses into an area, and into the block of a command.
use Rattle.book_laws.proofs
use proofs.Names.{ℕ, ◌≡◌, ◌≤◌, ◌<◌, ◌+◌, Bool, true, false, List, [], ◌∷◌, ◌++◌, ◌∙◌, ◌⊎◌, inl, inr, length, refl, sym}
use proofs.Names.{ap, arith, append_assoc, length-append, nat_tests, slice_index_or, slice_set, nat_lt, if◌then◌else◌}
use proofs.{Names.{Area, CarriedBytes, bytes_with, area_with, IsFilled, TakesBlock}, Common.Lists.{word_at, set_same}}

lt_or_end : (i m : ℕ) → i ≤ m → (nat_lt i m ≡ true) ⊎ ((i ≡ m) × (nat_lt i m ≡ false))
lt_or_end i m h = grind (arith, nat_tests)

pub split_at : (xs rest content : List ℕ) → xs ++ rest ≡ content → length xs < length content
    → (b : ℕ) × (ys : List ℕ) × (rest ≡ b ∷ ys)
split_at xs [] content e lt = let w = length-append xs [] in let v = ap length e in absurd omega (arith, w, v, lt)
split_at xs (b ∷ ys) content e lt = (b, ys, refl)

-- A byte that is the one at this place is put there.
pub puts : (a : Area) (content : List ℕ) (byte : ℕ) (h : IsFilled a content) → byte ≡ slice_index_or content a.active 0
    → a.active < length content → IsFilled (area_with a byte) content
puts a content byte h e lt = elim (lt_or_end a.active (length a.bytes) h.active_in) [
  | inl inside ↦
      let o : a.active < length a.bytes = grind (arith, nat_tests) in
      let same : bytes_with a.bytes a.active byte ≡ a.bytes =
      ap (λ (q : Bool). if q then slice_set a.bytes a.active byte else a.bytes ++ byte ∷ []) inside ∙ set_same
      a.bytes h.rest a.active byte o (e ∙ ap (λ (c : List ℕ). slice_index_or c a.active 0) (sym h.bytes_are)) in
      record {
        rest = h.rest;
        bytes_are = ap (λ (x : List ℕ). x ++ h.rest) same ∙ h.bytes_are;
        active_in =
            let w = ap length same in
            let g = h.active_in in
            omega arith;
        saved_in =
            let w = ap length same in
            let g = h.saved_in in
            omega arith;
      }
  | inr outside ↦
      let at_end : a.active ≡ length a.bytes = outside.0 in
      let sp = split_at a.bytes h.rest content h.bytes_are (omega arith) in
      let whole : a.bytes ++ sp.0 ∷ sp.1 ≡ content = ap (λ (r : List ℕ). a.bytes ++ r) (sym sp.2) ∙ h.bytes_are in
      let is : byte ≡ sp.0 = e ∙ (λ i. slice_index_or (sym whole i) (at_end i) 0) ∙ word_at a.bytes sp.0 sp.1 in
      let more : bytes_with a.bytes a.active byte ≡ a.bytes ++ byte ∷ [] = ap
      (λ (q : Bool). if q then slice_set a.bytes a.active byte else a.bytes ++ byte ∷ []) outside.1 in
      record {
        rest = sp.1;
        bytes_are = ap (λ (x : List ℕ). x ++ sp.1) more ∙ append_assoc a.bytes (byte ∷ []) sp.1
            ∙ ap (λ (b : ℕ). a.bytes ++ b ∷ sp.1) is ∙ whole;
        active_in = let w = ap length more in let v = length-append a.bytes (byte ∷ []) in omega arith;
        saved_in =
            let w = ap length more in
            let v = length-append a.bytes (byte ∷ []) in
            let g = h.saved_in in
            omega arith;
      }
]

-- ---- COMMAND

abbrev pub with_command_byte : CarriedBytes → ℕ → CarriedBytes
with_command_byte c byte = record c { command = area_with c.command byte; block = c.block ++ byte ∷ [] }

-- the byte that the initiator drives is the next one of the block
pub takes_byte : (c : CarriedBytes) (cdb : List ℕ) (b : ℕ) (ys : List ℕ) (h : TakesBlock c cdb) → h.rest ≡ b ∷ ys
    → slice_index_or cdb c.command.active 0 ≡ b
takes_byte c cdb b ys h e =
    (λ i. slice_index_or ((sym h.block_is ∙ ap (λ (r : List ℕ). c.block ++ r) e) i) (h.active_is i) 0)
    ∙ word_at c.block b ys

pub takes_on : (c : CarriedBytes) (cdb : List ℕ) (byte : ℕ) → TakesBlock c cdb
    → byte ≡ slice_index_or cdb c.command.active 0 → length c.block < length cdb
    → TakesBlock (with_command_byte c byte) cdb
takes_on c cdb byte h e lt =
    let act = h.active_is in
    let sp = split_at c.block h.rest cdb h.block_is lt in
    let is : byte ≡ sp.0 = e ∙ takes_byte c cdb sp.0 sp.1 h sp.2 in
    record {
      rest = sp.1;
      block_is = append_assoc c.block (byte ∷ []) sp.1 ∙ (λ i. c.block ++ is i ∷ sp.1)
          ∙ ap (λ (r : List ℕ). c.block ++ r) (sym sp.2) ∙ h.block_is;
      active_is = ap (λ (m : ℕ). m + 1) h.active_is ∙ sym (length-append c.block (byte ∷ []));
      saved_is = h.saved_is;
      filled = puts c.command cdb byte h.filled e (omega arith);
    }
