-- A sense that is written reads back.
use Rattle.std.proofs.Common.{◌≡◌, ℕ, ◌+◌, ◌*◌, ◌/◌, ◌%◌, ◌^◌, ◌<◌, bit_or, Option, Some, None, IfSome, refl, sym, ap}
use Rattle.std.proofs.Common.{◌∙◌, [], ◌∷◌, arith}
use Rattle.std.proofs.lemmas.Nat.{or_shifted, or_of_8}
use Rattle.std.specs.List.{AllByRecursion}
use Rattle.byteorder.specs.Endian.{big_bytes, big_number}
use Rattle.cdb_codec.specs.declared.command.Sense.{Sense}
use Rattle.cdb_codec.specs.Replies.{plain_sense, FitsSense, error_of, information_of, sense_data, residue_in}
use Rattle.cdb_codec.specs.Replies.{sense_of_data}

-- marks and key stand apart in their byte
joined : (marks key : ℕ) → marks % 64 ≡ 0 → key < 16 → bit_or marks key ≡ marks + key
joined marks key whole low =
    let above : marks ≡ marks / 64 * 2 ^ 6 = omega arith in
    ap (λ (n : ℕ). bit_or n key) above ∙ or_shifted (marks / 64) 6 key (omega arith)
    ∙ ap (λ (n : ℕ). n + key) (sym above)

key_back : (marks key : ℕ) → marks % 64 ≡ 0 → key < 16 → bit_or marks key % 16 ≡ key
key_back marks key whole low = ap (λ (n : ℕ). n % 16) (joined marks key whole low) ∙ omega arith

marks_back : (marks key : ℕ) → marks % 64 ≡ 0 → key < 16 → bit_or marks key / 64 * 64 ≡ marks
marks_back marks key whole low = ap (λ (n : ℕ). n / 64 * 64) (joined marks key whole low) ∙ omega arith

-- four bytes of a number are the number
four_back : (n : ℕ) → n < 2 ^ 32 → big_number 4 (big_bytes 4 n) ≡ n
four_back n small = omega arith

residue_back : (s : Sense) → IfSome s.residue (λ n. n < 2 ^ 32) → residue_in (sense_data s) ≡ s.residue
residue_back s h = go s.residue h
  where
    go : (r : Option ℕ) → IfSome r (λ n. n < 2 ^ 32)
        → residue_in (sense_data (record { key = s.key; asc = s.asc; ascq = s.ascq; marks = s.marks; residue = r })) ≡ r
    go None h = refl
    go (Some n) h = ap (λ (x : ℕ). Some x) (four_back n h)

pub sense_reads_back : (s : Sense) → FitsSense s → sense_of_data (sense_data s) ≡ s
sense_reads_back s h = λ i. record {
  key = key_back s.marks s.key h.3 h.0 i;
  asc = s.asc;
  ascq = s.ascq;
  marks = marks_back s.marks s.key h.3 h.0 i;
  residue = residue_back s h.5 i;
}

-- what sense data hold are bytes
error_small : (r : Option ℕ) → error_of r < 256
error_small None = omega arith
error_small (Some n) = omega arith

low_byte : (n : ℕ) → n % 256 < 256
low_byte n = omega arith

pub data_are_bytes : (s : Sense) → FitsSense s → AllByRecursion (λ b. b < 256) (sense_data s)
data_are_bytes s h = (error_small s.residue, (none, (or_of_8 s.marks s.key h.4 (omega arith), information)))
  where
    n : ℕ
    n = information_of s.residue

    none : 0 < 256
    none = omega arith

    codes : AllByRecursion (λ b. b < 256) (s.asc ∷ s.ascq ∷ 0x00 ∷ 0x00 ∷ 0x00 ∷ 0x00 ∷ [])
    codes = (h.1, (h.2, (none, (none, (none, (none, tt))))))

    after : AllByRecursion (λ b. b < 256)
        (0x0a ∷ 0x00 ∷ 0x00 ∷ 0x00 ∷ 0x00 ∷ s.asc ∷ s.ascq ∷ 0x00 ∷ 0x00 ∷ 0x00 ∷ 0x00 ∷ [])
    after = (omega arith, (none, (none, (none, (none, codes)))))

    low : AllByRecursion (λ b. b < 256) (n / 256 % 256 ∷ n % 256 ∷ 0x0a ∷ 0x00 ∷ 0x00 ∷ 0x00 ∷ 0x00 ∷ s.asc ∷ s.ascq
        ∷ 0x00 ∷ 0x00 ∷ 0x00 ∷ 0x00 ∷ [])
    low = (low_byte (n / 256), (low_byte n, after))

    information : AllByRecursion (λ b. b < 256) (n / 16777216 % 256 ∷ n / 65536 % 256 ∷ n / 256 % 256 ∷ n % 256 ∷ 0x0a
        ∷ 0x00 ∷ 0x00 ∷ 0x00 ∷ 0x00 ∷ s.asc ∷ s.ascq ∷ 0x00 ∷ 0x00 ∷ 0x00 ∷ 0x00 ∷ [])
    information = (low_byte (n / 16777216), (low_byte (n / 65536), low))

-- a sense of a disk fits where its key and its codes do
pub plain_fits : (key asc ascq : ℕ) → key < 16 → asc < 256 → ascq < 256 → FitsSense (plain_sense key asc ascq)
plain_fits key asc ascq h k l = (h, k, l, refl, omega arith, tt)
