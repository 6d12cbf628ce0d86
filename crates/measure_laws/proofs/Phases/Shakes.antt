-- What is under way of a phase falls with each row of its two ends, byte by byte: the kinds of rows are those that the
-- laws of links name.
use Rattle.measure_laws.proofs
use proofs.Names.{ℕ, suc, ◌≡◌, ◌≤◌, Bool, true, false, ap, arith, ◌&&◌, ◌+◌, ◌==◌, not, Handshakes, Answering, Offering}
use proofs.Names.{EndLines, connected_bus, initiator_side, target_side, ends, one_where, under_way}

abbrev pub way : EndLines → Handshakes → Offering → Answering → ℕ
way e h g a = under_way false (connected_bus e) h (target_side e) (initiator_side e) g a

at_most_one : (q : Bool) → one_where q ≤ 1
at_most_one true = omega arith
at_most_one false = omega arith

-- Where REQ has risen in the phase there is no first byte any more.
no_first : (q io z : Bool) → q ≡ false → one_where (q && io && z) ≡ 0
no_first q io z e = ap (λ (r : Bool). one_where (r && io && z)) e

-- The target ends REQ, and drives a byte to the initiator or none.
pub req_ends :
    (atn msg cd io : Bool) (x y z : ℕ) (h : Handshakes) (g f : Offering) (a b : Answering) → (h.requests == 0) ≡ false
    → suc (way (ends false true atn x msg cd io false z) h f b) ≤ way (ends false true atn x msg cd io true y) h g a
req_ends atn msg cd io x y z h g f a b asked =
    let first = no_first (h.requests == 0) io (y == 0) asked in
    let second = no_first (h.requests == 0) io (z == 0) asked in
    omega arith

-- The initiator ends ACK, and releases its byte.
pub ack_ends :
    (atn msg cd io : Bool) (x y : ℕ) (h : Handshakes) (g f : Offering) (a b : Answering) → (h.requests == 0) ≡ false
    → suc (way (ends false false atn 0 msg cd io false y) h f b) ≤ way (ends false true atn x msg cd io false y) h g a
ack_ends atn msg cd io x y h g f a b asked =
    let first = no_first (h.requests == 0) io (y == 0) asked in
    omega arith

-- The initiator answers a byte to it.
pub answers : (atn to msg cd : Bool) (y : ℕ) (h x : Handshakes) (g f : Offering) (a b : Answering)
    → (h.requests == 0) ≡ false → (x.requests == 0) ≡ false
    → suc (way (ends false true to 0 msg cd true true y) x f b) ≤ way (ends false false atn 0 msg cd true true y) h g a
answers atn to msg cd y h x g f a b asked still =
    let first = no_first (h.requests == 0) true (y == 0) asked in
    let second = no_first (x.requests == 0) true (y == 0) still in
    omega arith

-- It drives its byte, and raises ACK with it.
pub gives : (atn to msg cd : Bool) (x : ℕ) (h : Handshakes) (g f : Offering) (a b : Answering) → (x == 0) ≡ false
    → suc (way (ends false false to x msg cd false true 0) h f b)
    ≤ way (ends false false atn 0 msg cd false true 0) h g a
gives atn to msg cd x h g f a b some =
    let one : one_where (not (x == 0)) ≡ 1 = ap (λ (q : Bool). one_where (not q)) some in
    let two : one_where (not (x == 0) && true && true) ≡ 1 = ap
    (λ (q : Bool). one_where (not q && true && true)) some in
    omega arith

pub sends : (atn msg cd : Bool) (x : ℕ) (h y : Handshakes) (g f : Offering) (a b : Answering)
    → (h.requests == 0) ≡ (y.requests == 0) → (x == 0) ≡ false
    → suc (way (ends false true atn x msg cd false true 0) y f b)
    ≤ way (ends false false atn x msg cd false true 0) h g a
sends atn msg cd x h y g f a b same some =
    let one : one_where (not (x == 0)) ≡ 1 = ap (λ (q : Bool). one_where (not q)) some in
    let two : one_where (not (x == 0) && true && true) ≡ 1 = ap
    (λ (q : Bool). one_where (not q && true && true)) some in
    let first : one_where (h.requests == 0 && false && true) ≡ one_where (y.requests == 0 && false && true) = ap
    (λ (q : Bool). one_where (q && false && true)) same in
    omega arith

-- The initiator hands BSY over.
pub hands : (atn msg cd io : Bool) (y : ℕ) (h : Handshakes) (g f : Offering) (a b : Answering)
    → suc (way (ends false false atn 0 msg cd io false y) h f b) ≤ way (ends true false atn 0 msg cd io false y) h g a
hands atn msg cd io y h g f a b = omega arith

-- REQ rises: with the byte that it asks for eight are given up.
pub asks : (bsy atn msg cd io : Bool) (y : ℕ) (h x : Handshakes) (g f : Offering) (a b : Answering)
    → suc (way (ends bsy false atn 0 msg cd io true y) x f b) ≤ 8 + way (ends bsy false atn 0 msg cd io false y) h g a
asks bsy atn msg cd io y h x g f a b =
    let first = at_most_one (x.requests == 0 && io && y == 0) in
    omega arith
