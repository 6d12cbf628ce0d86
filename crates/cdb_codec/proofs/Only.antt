-- A block that is read is the block of its command.
use Rattle.std.proofs.Common.{◌≡◌, ℕ, ◌+◌, ◌*◌, ◌/◌, ◌%◌, ◌<◌, Bool, true, false, cond, ◌&&◌, List, [], ◌∷◌, ◌++◌}
use Rattle.std.proofs.Common.{length, Option, Some, None, Result, Ok, Err, refl, sym, ap, ◌∙◌, subst, arith}
use Rattle.std.specs.Prelude.{◌==◌}
use Rattle.std.specs.List.{AllByRecursion}
use Rattle.std.proofs.lemmas.Bool.Decides.{nat_tests}
use Rattle.byteorder.specs.Endian.{big_bytes, big_number}
use Rattle.cdb_codec.specs.declared.command.Command.{Command}
use Rattle.cdb_codec.specs.declared.command.Command.TheVariants as commands
use Rattle.cdb_codec.specs.declared.command.CdbFault.{CdbFault}
use Rattle.cdb_codec.specs.declared.command.CdbFault.TheVariants.{Length, Field}
use Rattle.cdb_codec.specs.declared.operation.Operation.{Operation}
use Rattle.cdb_codec.specs.declared.operation.Operation.TheVariants.{TestUnitReady, RequestSense, Read6, Write6}
use Rattle.cdb_codec.specs.declared.operation.Operation.TheVariants.{Inquiry, ReadCapacity, Read10, Write10}
use Rattle.cdb_codec.specs.Operations.{operation_of, len_of}
use Rattle.cdb_codec.proofs.Codes.{code_of, code_is}
use Rattle.cdb_codec.specs.Cdb.{ten_bytes, cdb_bytes, has_group_len, are_zero, where_zero, fields_of, sized_of}
use Rattle.cdb_codec.specs.Cdb.{without_ignored, command_of}

-- a test that lets a value through holds, and the value is the result
pub let_through : {A : Type 0} (t : Bool) (r : Result A CdbFault) (f : CdbFault) (c : A) → cond t r (Err f) ≡ Ok c
    → (t ≡ true) × (r ≡ Ok c)
let_through true r f c e = (refl, e)
let_through false r f c e = absurd cc

-- a test that would stop a value does not hold
pub not_stopped : {A : Type 0} (t : Bool) (f : CdbFault) (r : Result A CdbFault) (c : A) → cond t (Err f) r ≡ Ok c
    → r ≡ Ok c
not_stopped true f r c e = absurd cc
not_stopped false f r c e = e

zeros_from : (x : ℕ) (t : Bool) (xs : List ℕ)
    → ((x == 0x00) ≡ t) → (are_zero xs ≡ true → AllByRecursion (λ b. b ≡ 0) xs) → (t && are_zero xs) ≡ true
    → AllByRecursion (λ b. b ≡ 0) (x ∷ xs)
zeros_from x true xs e more h = (grind (arith, nat_tests), more h)
zeros_from x false xs e more h = absurd cc

pub zeros : (xs : List ℕ) → are_zero xs ≡ true → AllByRecursion (λ b. b ≡ 0) xs
zeros [] h = tt
zeros (x ∷ xs) h = zeros_from x (x == 0x00) xs refl (zeros xs) h

-- the bytes that no field names are 0, and the command is this one
found : (spare : List ℕ) (r c : Command) → where_zero spare r ≡ Ok c → AllByRecursion (λ b. b ≡ 0) spare × (r ≡ c)
found spare r c e =
    let p = let_through (are_zero spare) (Ok r) Field c e in
    let same : ◌≡◌ {A = Result Command CdbFault} (Ok r) (Ok c) = p.1 in
    (zeros spare p.0, cc)

-- what the fields of an operation spell, where they are read
abbrev Spells : Operation → List ℕ → Type 0
Spells o bytes = (c : Command) → fields_of o bytes ≡ Ok c → cdb_bytes c ≡ without_ignored bytes

-- the block's number in 21 bits, byte by byte
six_lba : (b d f : ℕ) → d < 256 → f < 256
    → ((b % 32 * 65536 + d * 256 + f) / 65536 ≡ b % 32) × ((b % 32 * 65536 + d * 256 + f) / 256 % 256 ≡ d)
    × ((b % 32 * 65536 + d * 256 + f) % 256 ≡ f)
six_lba b d f mid low = (omega arith, omega arith, omega arith)

six_spelt : (o : Operation) (b d f g k : ℕ) → len_of o ≡ 6 → d < 256 → f < 256
    → Spells o (code_of o ∷ b ∷ d ∷ f ∷ g ∷ k ∷ [])
six_spelt TestUnitReady b d f g k len mid low c e =
    let p = found (b % 32 ∷ d ∷ f ∷ g ∷ k ∷ []) commands.TestUnitReady c e in
    ap cdb_bytes (sym p.1)
    ∙ (λ i. 0x00 ∷ sym p.0.0 i ∷ sym p.0.1.0 i ∷ sym p.0.1.1.0 i ∷ sym p.0.1.1.1.0 i ∷ sym p.0.1.1.1.1.0 i ∷ [])
six_spelt RequestSense b d f g k len mid low c e =
    let p = found (b % 32 ∷ d ∷ f ∷ k ∷ []) (commands.RequestSense g) c e in
    ap cdb_bytes (sym p.1) ∙ (λ i. 0x03 ∷ sym p.0.0 i ∷ sym p.0.1.0 i ∷ sym p.0.1.1.0 i ∷ g ∷ sym p.0.1.1.1.0 i ∷ [])
six_spelt Inquiry b d f g k len mid low c e =
    let p = found (b % 32 ∷ d ∷ f ∷ k ∷ []) (commands.Inquiry g) c e in
    ap cdb_bytes (sym p.1) ∙ (λ i. 0x12 ∷ sym p.0.0 i ∷ sym p.0.1.0 i ∷ sym p.0.1.1.0 i ∷ g ∷ sym p.0.1.1.1.0 i ∷ [])
six_spelt Read6 b d f g k len mid low c e =
    let p = found (k ∷ []) (commands.Read6 (b % 32 * 65536 + d * 256 + f) g) c e in
    let n = six_lba b d f mid low in
    ap cdb_bytes (sym p.1) ∙ (λ i. 0x08 ∷ n.0 i ∷ n.1 i ∷ n.2 i ∷ g ∷ sym p.0.0 i ∷ [])
six_spelt Write6 b d f g k len mid low c e =
    let p = found (k ∷ []) (commands.Write6 (b % 32 * 65536 + d * 256 + f) g) c e in
    let n = six_lba b d f mid low in
    ap cdb_bytes (sym p.1) ∙ (λ i. 0x0a ∷ n.0 i ∷ n.1 i ∷ n.2 i ∷ g ∷ sym p.0.0 i ∷ [])
six_spelt ReadCapacity b d f g k len mid low c e = absurd (omega arith)
six_spelt Read10 b d f g k len mid low c e = absurd (omega arith)
six_spelt Write10 b d f g k len mid low c e = absurd (omega arith)

-- the block's number in 32 bits and the count in 16, byte by byte
four_bytes : (d f g k : ℕ) → d < 256 → f < 256 → g < 256 → k < 256
    → big_bytes 4 (big_number 4 (d ∷ f ∷ g ∷ k ∷ [])) ≡ d ∷ f ∷ g ∷ k ∷ []
four_bytes d f g k hd hf hg hk =
    let n = d * 16777216 + (f * 65536 + (g * 256 + (k * 1 + 0))) in
    let first : n / 16777216 % 256 ≡ d = omega arith in
    let second : n / 65536 % 256 ≡ f = omega arith in
    let third : n / 256 % 256 ≡ g = omega arith in
    let fourth : n % 256 ≡ k = omega arith in
    λ i. first i ∷ second i ∷ third i ∷ fourth i ∷ []

two_bytes : (m n : ℕ) → m < 256 → n < 256 → big_bytes 2 (big_number 2 (m ∷ n ∷ [])) ≡ m ∷ n ∷ []
two_bytes m n hm hn =
    let first : (m * 256 + (n * 1 + 0)) / 256 % 256 ≡ m = omega arith in
    let second : (m * 256 + (n * 1 + 0)) % 256 ≡ n = omega arith in
    λ i. first i ∷ second i ∷ []

-- where byte 1, byte 6 and control are 0, ten bytes are spelt from their two numbers
ten_spelt_by : (code b d f g k l m n o : ℕ) → d < 256 → f < 256 → g < 256
    → k < 256 → m < 256 → n < 256 → AllByRecursion (λ x. x ≡ 0) (b ∷ l ∷ o ∷ [])
    → ten_bytes code (big_number 4 (d ∷ f ∷ g ∷ k ∷ [])) (big_number 2 (m ∷ n ∷ []))
    ≡ code ∷ b ∷ d ∷ f ∷ g ∷ k ∷ l ∷ m ∷ n ∷ o ∷ []
ten_spelt_by code b d f g k l m n o hd hf hg hk hm hn zero = λ i. code ∷ sym zero.0 i ∷ []
    ++ four_bytes d f g k hd hf hg hk i ++ sym zero.1.0 i ∷ [] ++ two_bytes m n hm hn i ++ sym zero.1.1.0 i ∷ []

ten_spelt : (op : Operation) (b d f g k l m n o : ℕ) → len_of op ≡ 10 → d < 256 → f < 256 → g < 256 → k < 256 → m < 256
    → n < 256 → Spells op (code_of op ∷ b ∷ d ∷ f ∷ g ∷ k ∷ l ∷ m ∷ n ∷ o ∷ [])
ten_spelt ReadCapacity b d f g k l m n o len hd hf hg hk hm hn c e =
    let p = found (b % 32 ∷ d ∷ f ∷ g ∷ k ∷ l ∷ m ∷ n ∷ o ∷ []) commands.ReadCapacity c e in
    let z = p.0 in
    ap cdb_bytes (sym p.1) ∙ (λ i. 0x25 ∷ sym z.0 i ∷ sym z.1.0 i ∷ sym z.1.1.0 i ∷ sym z.1.1.1.0 i ∷ sym z.1.1.1.1.0 i
    ∷ sym z.1.1.1.1.1.0 i ∷ sym z.1.1.1.1.1.1.0 i ∷ sym z.1.1.1.1.1.1.1.0 i ∷ sym z.1.1.1.1.1.1.1.1.0 i ∷ [])
ten_spelt Read10 b d f g k l m n o len hd hf hg hk hm hn c e =
    let p = found (b % 8 ∷ l ∷ o ∷ [])
    (commands.Read10 (big_number 4 (d ∷ f ∷ g ∷ k ∷ [])) (big_number 2 (m ∷ n ∷ []))) c e in
    ap cdb_bytes (sym p.1) ∙ ten_spelt_by 0x28 (b % 8) d f g k l m n o hd hf hg hk hm hn p.0
ten_spelt Write10 b d f g k l m n o len hd hf hg hk hm hn c e =
    let p = found (b % 8 ∷ l ∷ o ∷ [])
    (commands.Write10 (big_number 4 (d ∷ f ∷ g ∷ k ∷ [])) (big_number 2 (m ∷ n ∷ []))) c e in
    ap cdb_bytes (sym p.1) ∙ ten_spelt_by 0x2a (b % 8) d f g k l m n o hd hf hg hk hm hn p.0
ten_spelt TestUnitReady b d f g k l m n o len hd hf hg hk hm hn c e = absurd (omega arith)
ten_spelt RequestSense b d f g k l m n o len hd hf hg hk hm hn c e = absurd (omega arith)
ten_spelt Read6 b d f g k l m n o len hd hf hg hk hm hn c e = absurd (omega arith)
ten_spelt Write6 b d f g k l m n o len hd hf hg hk hm hn c e = absurd (omega arith)
ten_spelt Inquiry b d f g k l m n o len hd hf hg hk hm hn c e = absurd (omega arith)

-- the bytes after the operation code, where there are five or nine
six_long : (o : Operation) (rest : List ℕ) → AllByRecursion (λ b. b < 256) rest → length rest ≡ 5 → len_of o ≡ 6
    → Spells o (code_of o ∷ rest)
six_long o (b ∷ d ∷ f ∷ g ∷ k ∷ []) h len is = six_spelt o b d f g k is h.1.0 h.1.1.0
six_long o [] h len is = absurd (omega arith)
six_long o (b ∷ []) h len is = absurd (omega arith)
six_long o (b ∷ d ∷ []) h len is = absurd (omega arith)
six_long o (b ∷ d ∷ f ∷ []) h len is = absurd (omega arith)
six_long o (b ∷ d ∷ f ∷ g ∷ []) h len is = absurd (omega arith)
six_long o (b ∷ d ∷ f ∷ g ∷ k ∷ l ∷ more) h len is = absurd (omega arith)

ten_long : (op : Operation) (rest : List ℕ) → AllByRecursion (λ b. b < 256) rest → length rest ≡ 9 → len_of op ≡ 10
    → Spells op (code_of op ∷ rest)
ten_long op (b ∷ d ∷ f ∷ g ∷ k ∷ l ∷ m ∷ n ∷ o ∷ []) h len is =
    ten_spelt op b d f g k l m n o is h.1.0 h.1.1.0 h.1.1.1.0 h.1.1.1.1.0 h.1.1.1.1.1.1.0 h.1.1.1.1.1.1.1.0
ten_long op [] h len is = absurd (omega arith)
ten_long op (b ∷ []) h len is = absurd (omega arith)
ten_long op (b ∷ d ∷ []) h len is = absurd (omega arith)
ten_long op (b ∷ d ∷ f ∷ []) h len is = absurd (omega arith)
ten_long op (b ∷ d ∷ f ∷ g ∷ []) h len is = absurd (omega arith)
ten_long op (b ∷ d ∷ f ∷ g ∷ k ∷ []) h len is = absurd (omega arith)
ten_long op (b ∷ d ∷ f ∷ g ∷ k ∷ l ∷ []) h len is = absurd (omega arith)
ten_long op (b ∷ d ∷ f ∷ g ∷ k ∷ l ∷ m ∷ []) h len is = absurd (omega arith)
ten_long op (b ∷ d ∷ f ∷ g ∷ k ∷ l ∷ m ∷ n ∷ []) h len is = absurd (omega arith)
ten_long op (b ∷ d ∷ f ∷ g ∷ k ∷ l ∷ m ∷ n ∷ o ∷ p ∷ more) h len is = absurd (omega arith)

-- a block with the code and the length of its operation
long : (o : Operation) (rest : List ℕ) → AllByRecursion (λ b. b < 256) rest
    → (len_of o == length (code_of o ∷ rest)) ≡ true → Spells o (code_of o ∷ rest)
long TestUnitReady rest h e = six_long TestUnitReady rest h (grind (arith, nat_tests)) refl
long RequestSense rest h e = six_long RequestSense rest h (grind (arith, nat_tests)) refl
long Read6 rest h e = six_long Read6 rest h (grind (arith, nat_tests)) refl
long Write6 rest h e = six_long Write6 rest h (grind (arith, nat_tests)) refl
long Inquiry rest h e = six_long Inquiry rest h (grind (arith, nat_tests)) refl
long ReadCapacity rest h e = ten_long ReadCapacity rest h (grind (arith, nat_tests)) refl
long Read10 rest h e = ten_long Read10 rest h (grind (arith, nat_tests)) refl
long Write10 rest h e = ten_long Write10 rest h (grind (arith, nat_tests)) refl

-- the group of an operation's code has the length of its block
grouped : (o : Operation) (rest : List ℕ) → has_group_len (code_of o ∷ rest) ≡ true
    → (len_of o == length (code_of o ∷ rest)) ≡ true
grouped TestUnitReady rest e = e
grouped RequestSense rest e = e
grouped Read6 rest e = e
grouped Write6 rest e = e
grouped Inquiry rest e = e
grouped ReadCapacity rest e = e
grouped Read10 rest e = e
grouped Write10 rest e = e

with_code : (o : Operation) (rest : List ℕ) (c : Command) → AllByRecursion (λ b. b < 256) rest
    → sized_of (Some o) (code_of o ∷ rest) ≡ Ok c → cdb_bytes c ≡ without_ignored (code_of o ∷ rest)
with_code o rest c h e =
    let p = let_through (has_group_len (code_of o ∷ rest)) (fields_of o (code_of o ∷ rest)) Length c e in
    long o rest h (grouped o rest p.0) c p.1

first_of_rest : (q : Option Operation) (code : ℕ) (rest : List ℕ) (c : Command) → operation_of code ≡ q
    → AllByRecursion (λ b. b < 256) rest → sized_of q (code ∷ rest) ≡ Ok c → cdb_bytes c ≡ without_ignored (code ∷ rest)
first_of_rest None code rest c is h e = absurd cc
first_of_rest (Some o) code rest c is h e =
    let P : ℕ → Type 0 = λ n. sized_of (Some o) (n ∷ rest) ≡ Ok c → cdb_bytes c ≡ without_ignored (n ∷ rest) in
    subst P (sym (code_is code o is)) (λ f. with_code o rest c h f) e

pub reads_only : (bytes : List ℕ) (c : Command) → AllByRecursion (λ b. b < 256) bytes → command_of bytes ≡ Ok c
    → cdb_bytes c ≡ without_ignored bytes
reads_only [] c h e = absurd cc
reads_only (code ∷ rest) c h e = first_of_rest (operation_of code) code rest c refl h.1
    (not_stopped (length (code ∷ rest) == 0) Length (sized_of (operation_of code) (code ∷ rest)) c e)
