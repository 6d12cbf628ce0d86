-- What is under way falls with rows before the first REQ of a phase, and with the rows of pulses.
use Rattle.measure_laws.proofs
use proofs.Names.{ℕ, suc, ◌≡◌, ◌≤◌, Bool, true, false, length, refl, ap, arith, ◌&&◌, ◌+◌, ◌-◌, ◌*◌, ◌==◌, not}
use proofs.Names.{and_false, and_true, Handshakes, no_handshakes, bits_if, byte_bits, Answering, Offering, EndLines}
use proofs.Names.{connected_bus, initiator_side, target_side, ends, one_where, has_next_byte, is_driven}
use proofs.Phases.Calm.{way_by}

-- ---- before the first REQ: no next byte is counted

no_next : (u : Bool) (e : EndLines) (g : Offering)
    → one_where (has_next_byte u (connected_bus e) no_handshakes (target_side e) g) ≡ 0
no_next true e g = ap (λ (q : Bool). one_where (q && not (e.given == bits_if g.follows g.byte))) (and_false e.io)
no_next false e g = refl

pub hands : (u atn msg cd io : Bool) (y : ℕ) (g f : Offering) (a b : Answering)
    → suc (way_by u (ends false false atn 0 msg cd io false y) no_handshakes f b)
    ≤ way_by u (ends true false atn 0 msg cd io false y) no_handshakes g a
hands true atn msg cd io y g f a b =
    let one = no_next true (ends true false atn 0 msg cd io false y) g in
    let two = no_next true (ends false false atn 0 msg cd io false y) f in
    omega arith
hands false atn msg cd io y g f a b = omega arith

pub releases : (u atn msg cd : Bool) (x : ℕ) (g f : Offering) (a b : Answering) → (x == 0) ≡ false
    → suc (way_by u (ends false false atn 0 msg cd true false 0) no_handshakes f b)
    ≤ way_by u (ends false false atn x msg cd true false 0) no_handshakes g a
releases true atn msg cd x g f a b some =
    let one : one_where (not (x == 0)) ≡ 1 = ap (λ (q : Bool). one_where (not q)) some in
    omega arith
releases false atn msg cd x g f a b some =
    let one : one_where (not (x == 0)) ≡ 1 = ap (λ (q : Bool). one_where (not q)) some in
    omega arith

pub offers : (u atn msg cd : Bool) (x y : ℕ) (g f : Offering) (a b : Answering) → (y == 0) ≡ false
    → suc (way_by u (ends false false atn x msg cd true false y) no_handshakes f b)
    ≤ way_by u (ends false false atn x msg cd true false 0) no_handshakes g a
offers true atn msg cd x y g f a b some =
    let none : one_where (true && true && y == 0) ≡ 0 = ap (λ (q : Bool). one_where (true && true && q)) some in
    omega arith
offers false atn msg cd x y g f a b some =
    let none : one_where (true && true && y == 0) ≡ 0 = ap (λ (q : Bool). one_where (true && true && q)) some in
    omega arith

-- ---- pulses

no_first : (q io z : Bool) → q ≡ false → one_where (q && io && z) ≡ 0
no_first q io z e = ap (λ (r : Bool). one_where (r && io && z)) e

-- To the initiator: whether the byte that is due next is not driven yet.
abbrev pub next_left : ℕ → ℕ → ℕ
next_left y bits = one_where (not (y == bits))

pub in_shape : (ack atn req : Bool) (y : ℕ) (h : Handshakes) (g : Offering) (a : Answering) → (h.requests == 0) ≡ false
    → way_by true (ends false ack atn 0 false false true req y) h g a
    ≡ 4 * length h.waiting + one_where req + one_where ack + next_left y (bits_if g.follows g.byte)
in_shape ack atn req y h g a asked =
    let e : EndLines = ends false ack atn 0 false false true req y in
    let driven : one_where (is_driven true (initiator_side e) a.byte && false && not (length h.waiting == 0)) ≡ 0 = ap
    (λ (q : Bool). one_where (q && not (length h.waiting == 0)))
    (and_false (is_driven true (initiator_side e) a.byte)) in
    let first = no_first (h.requests == 0) true (y == 0) asked in
    let next : one_where (has_next_byte true (connected_bus e) h (target_side e) g)
    ≡ next_left y (bits_if g.follows g.byte) = ap
    (λ (q : Bool). one_where (true && true && not q && not (y == bits_if g.follows g.byte))) asked in
    omega arith

-- To the target: whether the initiator drives the byte already for which a request waits.
abbrev pub waiting_out : Bool → ℕ → ℕ
waiting_out driven waiting = 4 * waiting - 2 * one_where (driven && not (waiting == 0))

pub out_shape : (ack atn req : Bool) (x : ℕ) (h : Handshakes) (g : Offering) (a : Answering) → (h.requests == 0) ≡ false
    → way_by true (ends false ack atn x false false false req 0) h g a
    ≡ waiting_out (not ack && x == byte_bits a.byte) (length h.waiting) + one_where req + one_where ack
    + one_where (not (x == 0))
out_shape ack atn req x h g a asked =
    let e : EndLines = ends false ack atn x false false false req 0 in
    let driven : one_where (is_driven true (initiator_side e) a.byte && true && not (length h.waiting == 0))
    ≡ one_where ((not ack && x == byte_bits a.byte) && not (length h.waiting == 0)) = ap
    (λ (q : Bool). one_where (q && not (length h.waiting == 0)))
    (and_true (is_driven true (initiator_side e) a.byte)) in
    let first = no_first (h.requests == 0) false true asked in
    omega arith
