-- Laws of sets of lines as numbers.
use Rattle.std.proofs.Common.{IsTrue, ◌↔◌, zero, suc, ℕ, ◌≡◌, ◌≢◌, ◌+◌, ◌-◌, ◌*◌, ◌%◌, ◌^◌, ◌<◌, ◌≤◌, ◌==◌, ◌&&◌, ◌⊎◌}
use Rattle.std.proofs.Common.{inl, inr, Bool, true, false, refl, arith, ap, sym, ◌∙◌}
use Rattle.std.specs.Int.{bit_at}
use Rattle.std.proofs.lemmas.Nat.Bits.{bit_at_above, bit_at_cat_high, bit_at_lowest}
use Rattle.std.proofs.lemmas.Bool.{and_parts, eqb-true}
use Rattle.std.proofs.lemmas.Bool.Decides.{nat_tests}
use Rattle.bus_trace.specs.LineSet.{LineSet, set_of, number_of, bit_value, none, same, same_set, id_set, ids_set}
use Rattle.bus_trace.specs.Numbers.{number_back}

pub value_le : (b : Bool) (w : ℕ) → bit_value b w ≤ w
value_le true w = omega arith
value_le false w = omega arith

-- a set whose data bits are below 512 is a number below 2 ^ 18
pub number_of-lt : (s : LineSet) → s.data_bits < 512 → number_of s < 2 ^ 18
number_of-lt s h = omega (
  arith,
  value_le s.bsy 512,
  value_le s.sel 1024,
  value_le s.cd 2048,
  value_le s.io 4096,
  value_le s.msg 8192,
  value_le s.req 16384,
  value_le s.ack 32768,
  value_le s.atn 65536,
  value_le s.rst 131072,
)

-- the data lines alone
pub data_set : (x : ℕ) → x < 512 → set_of x ≡ record none { data_bits = x }
data_set x h =
    let no : (k : ℕ) → 9 ≤ k → (bit_at x k == 1) ≡ false = λ k le. ap (λ b. b == 1) (bit_at_above x 9 k h le) in
    let low : x % 512 ≡ x = omega arith in
    λ i. record {
      data_bits = low i;
      bsy = no 9 (omega arith) i;
      sel = no 10 (omega arith) i;
      cd = no 11 (omega arith) i;
      io = no 12 (omega arith) i;
      msg = no 13 (omega arith) i;
      req = no 14 (omega arith) i;
      ack = no 15 (omega arith) i;
      atn = no 16 (omega arith) i;
      rst = no 17 (omega arith) i;
    }

pub same_eq : (a b : Bool) → same a b ≡ true → a ≡ b
same_eq true b e = sym e
same_eq false true e = e
same_eq false false e = refl

pub same_self : (a : Bool) → same a a ≡ true
same_self true = refl
same_self false = refl

record Ten (b0 b1 b2 b3 b4 b5 b6 b7 b8 b9 : Bool) : Type 0 where
  t0 : b0 ≡ true
  t1 : b1 ≡ true
  t2 : b2 ≡ true
  t3 : b3 ≡ true
  t4 : b4 ≡ true
  t5 : b5 ≡ true
  t6 : b6 ≡ true
  t7 : b7 ≡ true
  t8 : b8 ≡ true
  t9 : b9 ≡ true

ten : (b0 b1 b2 b3 b4 b5 b6 b7 b8 b9 : Bool) → (b0 && b1 && b2 && b3 && b4 && b5 && b6 && b7 && b8 && b9) ≡ true
    → Ten b0 b1 b2 b3 b4 b5 b6 b7 b8 b9
ten b0 b1 b2 b3 b4 b5 b6 b7 b8 b9 e =
    let h9 = and_parts (b0 && b1 && b2 && b3 && b4 && b5 && b6 && b7 && b8) b9 e in
    let h8 = and_parts (b0 && b1 && b2 && b3 && b4 && b5 && b6 && b7) b8 h9.0 in
    let h7 = and_parts (b0 && b1 && b2 && b3 && b4 && b5 && b6) b7 h8.0 in
    let h6 = and_parts (b0 && b1 && b2 && b3 && b4 && b5) b6 h7.0 in
    let h5 = and_parts (b0 && b1 && b2 && b3 && b4) b5 h6.0 in
    let h4 = and_parts (b0 && b1 && b2 && b3) b4 h5.0 in
    let h3 = and_parts (b0 && b1 && b2) b3 h4.0 in
    let h2 = and_parts (b0 && b1) b2 h3.0 in
    let h1 = and_parts b0 b1 h2.0 in
    record {
      t0 = h1.0;
      t1 = h1.1;
      t2 = h2.1;
      t3 = h3.1;
      t4 = h4.1;
      t5 = h5.1;
      t6 = h6.1;
      t7 = h7.1;
      t8 = h8.1;
      t9 = h9.1;
    }

-- sets that pass the test are the same
pub same_set-eq : (s t : LineSet) → same_set s t ≡ true → s ≡ t
same_set-eq s t e =
    let h = ten (s.data_bits == t.data_bits) (same s.bsy t.bsy) (same s.sel t.sel) (same s.cd t.cd) (same s.io t.io)
    (same s.msg t.msg) (same s.req t.req) (same s.ack t.ack) (same s.atn t.atn) (same s.rst t.rst) e in
    let d = eqb-true s.data_bits t.data_bits h.t0 in
    let bsy = same_eq s.bsy t.bsy h.t1 in
    let sel = same_eq s.sel t.sel h.t2 in
    let cd = same_eq s.cd t.cd h.t3 in
    let io = same_eq s.io t.io h.t4 in
    let msg = same_eq s.msg t.msg h.t5 in
    let req = same_eq s.req t.req h.t6 in
    let ack = same_eq s.ack t.ack h.t7 in
    let atn = same_eq s.atn t.atn h.t8 in
    let rst = same_eq s.rst t.rst h.t9 in
    λ i. record {
      data_bits = d i;
      bsy = bsy i;
      sel = sel i;
      cd = cd i;
      io = io i;
      msg = msg i;
      req = req i;
      ack = ack i;
      atn = atn i;
      rst = rst i;
    }

-- and a set passes it with itself
pub same_set-self : (s : LineSet) → same_set s s ≡ true
same_set-self s =
    let d : (s.data_bits == s.data_bits) ≡ true = grind (arith, nat_tests) in
    λ i. d i && same_self s.bsy i && same_self s.sel i && same_self s.cd i && same_self s.io i && same_self s.msg i
    && same_self s.req i && same_self s.ack i && same_self s.atn i && same_self s.rst i

-- the test says whether two sets are the same
pub same_set-iff : (s t : LineSet) → IsTrue (same_set s t) ↔ (s ≡ t)
same_set-iff s t = (same_set-eq s t, λ e. ap (λ (x : LineSet). same_set s x) (sym e) ∙ same_set-self s)

both_ways : (p q : Bool) → (p ≡ true → q ≡ true) → (q ≡ true → p ≡ true) → p ≡ q
both_ways true q f g = sym (f refl)
both_ways false true f g = g refl
both_ways false false f g = refl

-- sets are the same where their numbers are
pub same_number : (n m : ℕ) (s t : LineSet) → n < 2 ^ 18 → m < 2 ^ 18 → set_of n ≡ s → set_of m ≡ t
    → (n == m) ≡ same_set s t
same_number n m s t hn hm en em = both_ways (n == m) (same_set s t) (λ e. let nm : n ≡ m = grind (arith, nat_tests) in
    let st : s ≡ t = sym en ∙ (ap (λ x. set_of x) nm ∙ em) in ap (λ (x : LineSet). same_set s x) (sym st)
    ∙ same_set-self s) (λ e. let st = same_set-eq s t e in let nm : n ≡ m = sym (number_back n hn)
    ∙ (ap (λ (x : LineSet). number_of x) (en ∙ (st ∙ sym em)) ∙ number_back m hm) in grind (arith, nat_tests))

-- a power of two up to 2 ^ 7, and a smaller one
pow_below : (a : ℕ) → a < 8 → (2 ^ a ≤ 64) ⊎ (a ≡ 7)
pow_below zero h = inl (omega arith)
pow_below (suc zero) h = inl (omega arith)
pow_below (suc (suc zero)) h = inl (omega arith)
pow_below (suc (suc (suc zero))) h = inl (omega arith)
pow_below (suc (suc (suc (suc zero)))) h = inl (omega arith)
pow_below (suc (suc (suc (suc (suc zero))))) h = inl (omega arith)
pow_below (suc (suc (suc (suc (suc (suc zero)))))) h = inl (omega arith)
pow_below (suc (suc (suc (suc (suc (suc (suc zero))))))) h = inr refl
pow_below (suc (suc (suc (suc (suc (suc (suc (suc a)))))))) h = absurd (omega arith)

pow_at_7 : (a : ℕ) → a ≡ 7 → 2 ^ a ≡ 128
pow_at_7 a e = ap (λ n. 2 ^ n) e

-- two ID bits and DB(P) fit the data lines
pub ids_small : (a b : ℕ) → a < 8 → b < 8 → a ≢ b → 2 ^ a + 2 ^ b + 256 < 512
ids_small a b ha hb ne =
    elim (pow_below a ha) [
      | inl la ↦
          elim (pow_below b hb) [
            | inl lb ↦ omega arith
            | inr eb ↦ omega (arith, pow_at_7 b eb)
          ]
      | inr ea ↦
          elim (pow_below b hb) [
            | inl lb ↦ omega (arith, pow_at_7 a ea)
            | inr eb ↦ absurd (omega arith)
          ]
    ]

-- the numbers of two ID bits, with DB(P), make the set of both
pub ids_of : (n m a b : ℕ) → a < 8 → b < 8 → a ≢ b → n < 2 ^ 18 → m < 2 ^ 18 → set_of n ≡ id_set a → set_of m ≡ id_set b
    → set_of (n + m + 256) ≡ ids_set a b
ids_of n m a b ha hb ne hn hm en em =
    let pn : n ≡ 2 ^ a = sym (number_back n hn) ∙ (ap (λ (x : LineSet). number_of x) en ∙ omega arith) in
    let pm : m ≡ 2 ^ b = sym (number_back m hm) ∙ (ap (λ (x : LineSet). number_of x) em ∙ omega arith) in
    let sum : n + m + 256 ≡ 2 ^ a + 2 ^ b + 256 = omega arith in
    ap (λ x. set_of x) sum ∙ data_set (2 ^ a + 2 ^ b + 256) (ids_small a b ha hb ne)

bit_back : (b : Bool) → (bit_value b 1 == 1) ≡ b
bit_back true = refl
bit_back false = refl

value_lt : (b : Bool) → bit_value b 1 < 2
value_lt true = omega arith
value_lt false = omega arith

value_times : (b : Bool) (w : ℕ) → bit_value b w ≡ bit_value b 1 * w
value_times true w = omega arith
value_times false w = omega arith

-- a digit between what lies below and above it
digit : (k low v high : ℕ) → low < 2 ^ k → v < 2 → bit_at ((high * 2 + v) * 2 ^ k + low) k ≡ v
digit k low v high hl hv =
    let e = bit_at_cat_high (high * 2 + v) k low k hl (omega arith) in
    let z : k - k ≡ 0 = omega arith in
    let low_bit : bit_at (high * 2 + v) 0 ≡ v = bit_at_lowest (high * 2 + v) ∙ omega arith in
    e ∙ (ap (λ i. bit_at (high * 2 + v) i) z ∙ low_bit)

line_back : (n k low high : ℕ) (b : Bool) → low < 2 ^ k → n ≡ (high * 2 + bit_value b 1) * 2 ^ k + low
    → (bit_at n k == 1) ≡ b
line_back n k low high b hl e =
    ap (λ x. bit_at x k == 1) e ∙ (ap (λ x. x == 1) (digit k low (bit_value b 1) high hl (value_lt b)) ∙ bit_back b)

number_by : (s : LineSet) → number_of s ≡ s.data_bits + bit_value s.bsy 1 * 512 + bit_value s.sel 1 * 1024
    + bit_value s.cd 1 * 2048 + bit_value s.io 1 * 4096 + bit_value s.msg 1 * 8192 + bit_value s.req 1 * 16384
    + bit_value s.ack 1 * 32768 + bit_value s.atn 1 * 65536 + bit_value s.rst 1 * 131072
number_by s = λ i. s.data_bits + value_times s.bsy 512 i + value_times s.sel 1024 i + value_times s.cd 2048 i
    + value_times s.io 4096 i + value_times s.msg 8192 i + value_times s.req 16384 i + value_times s.ack 32768 i
    + value_times s.atn 65536 i + value_times s.rst 131072 i

-- a set whose data bits are below 512 comes back from its number
pub set_back : (s : LineSet) → s.data_bits < 512 → set_of (number_of s) ≡ s
set_back s h =
    go s.data_bits s.bsy s.sel s.cd s.io s.msg s.req s.ack s.atn s.rst h (number_of s) (number_by s)
  where
    go : (d : ℕ) (bsy sel cd io msg req ack atn rst : Bool) → d < 512 → (n : ℕ) → n ≡ d + bit_value bsy 1 * 512
        + bit_value sel 1 * 1024 + bit_value cd 1 * 2048 + bit_value io 1 * 4096 + bit_value msg 1 * 8192
        + bit_value req 1 * 16384 + bit_value ack 1 * 32768 + bit_value atn 1 * 65536 + bit_value rst 1 * 131072
        → (let t : LineSet = record {
          data_bits = d;
          bsy = bsy;
          sel = sel;
          cd = cd;
          io = io;
          msg = msg;
          req = req;
          ack = ack;
          atn = atn;
          rst = rst;
        } in set_of n ≡ t)
    go d bsy sel cd io msg req ack atn rst h n e =
        let l9 = value_lt bsy in
        let l10 = value_lt sel in
        let l11 = value_lt cd in
        let l12 = value_lt io in
        let l13 = value_lt msg in
        let l14 = value_lt req in
        let l15 = value_lt ack in
        let l16 = value_lt atn in
        let l17 = value_lt rst in
        let low : n % 512 ≡ d = omega arith in
        let p9 = line_back n 9 (d) (bit_value sel 1 * 1 + bit_value cd 1 * 2 + bit_value io 1 * 4 + bit_value msg 1 * 8
        + bit_value req 1 * 16 + bit_value ack 1 * 32 + bit_value atn 1 * 64 + bit_value rst 1 * 128) bsy
        (omega arith) (omega arith) in
        let p10 = line_back n 10 (d + bit_value bsy 1 * 512)
        (bit_value cd 1 * 1 + bit_value io 1 * 2 + bit_value msg 1 * 4 + bit_value req 1 * 8
        + bit_value ack 1 * 16 + bit_value atn 1 * 32 + bit_value rst 1 * 64) sel (omega arith) (omega arith) in
        let p11 = line_back n 11 (d + bit_value bsy 1 * 512 + bit_value sel 1 * 1024)
        (bit_value io 1 * 1 + bit_value msg 1 * 2 + bit_value req 1 * 4 + bit_value ack 1 * 8
        + bit_value atn 1 * 16 + bit_value rst 1 * 32) cd (omega arith) (omega arith) in
        let p12 = line_back n 12 (d + bit_value bsy 1 * 512 + bit_value sel 1 * 1024 + bit_value cd 1 * 2048)
        (bit_value msg 1 * 1 + bit_value req 1 * 2 + bit_value ack 1 * 4 + bit_value atn 1 * 8 + bit_value rst 1 * 16)
        io (omega arith) (omega arith) in
        let p13 = line_back n 13
        (d + bit_value bsy 1 * 512 + bit_value sel 1 * 1024 + bit_value cd 1 * 2048 + bit_value io 1 * 4096)
        (bit_value req 1 * 1 + bit_value ack 1 * 2 + bit_value atn 1 * 4 + bit_value rst 1 * 8) msg
        (omega arith) (omega arith) in
        let p14 = line_back n 14 (d + bit_value bsy 1 * 512 + bit_value sel 1 * 1024
        + bit_value cd 1 * 2048 + bit_value io 1 * 4096 + bit_value msg 1 * 8192)
        (bit_value ack 1 * 1 + bit_value atn 1 * 2 + bit_value rst 1 * 4) req (omega arith) (omega arith) in
        let p15 = line_back n 15 (d + bit_value bsy 1 * 512 + bit_value sel 1 * 1024
        + bit_value cd 1 * 2048 + bit_value io 1 * 4096 + bit_value msg 1 * 8192 + bit_value req 1 * 16384)
        (bit_value atn 1 * 1 + bit_value rst 1 * 2) ack (omega arith) (omega arith) in
        let p16 = line_back n 16 (d + bit_value bsy 1 * 512 + bit_value sel 1 * 1024 + bit_value cd 1 * 2048
        + bit_value io 1 * 4096 + bit_value msg 1 * 8192 + bit_value req 1 * 16384 + bit_value ack 1 * 32768)
        (bit_value rst 1 * 1) atn (omega arith) (omega arith) in
        let p17 = line_back n 17 (d + bit_value bsy 1 * 512 + bit_value sel 1 * 1024
        + bit_value cd 1 * 2048 + bit_value io 1 * 4096 + bit_value msg 1 * 8192 + bit_value req 1 * 16384
        + bit_value ack 1 * 32768 + bit_value atn 1 * 65536) (0) rst (omega arith) (omega arith) in
        λ i. record {
          data_bits = low i;
          bsy = p9 i;
          sel = p10 i;
          cd = p11 i;
          io = p12 i;
          msg = p13 i;
          req = p14 i;
          ack = p15 i;
          atn = p16 i;
          rst = p17 i;
        }
