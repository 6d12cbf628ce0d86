-- Rows of a connection that obey the rules by the wires: byte by byte, and from phase to phase.
use Rattle.link_laws.proofs
use proofs.Names.{ℕ, ◌≡◌, ◌≢◌, ◌≤◌, ◌+◌, Bool, true, false, not, Option, None, sym, arith, ◌==◌, ◌&&◌, ne_eqb}
use proofs.Names.{true≢false, nat_tests, or_zero_r, or_self, nat_le, eq_self, implies, same, phase_time, Connection}
use proofs.Names.{BUS_SETTLE_DELAY, DATA_RELEASE_DELAY, TURN_DELAY, no_pulses, is_owed, is_pulsed_phase, EndLines}
use proofs.{Names.{initiator_side, target_side, connected_bus, change_to, row_of_lines, ends}, Lines.Seen.{Around}}
use proofs.Lines.Seen.{seen_linked, wire_broken}

-- What a row of the target, or of the initiator, from these lines to those meets, and whether it obeys the rules by the
-- wires.
abbrev pub target_breaks : Around → Connection → EndLines → EndLines → ℕ → Option ℕ
target_breaks v n e f t = wire_broken
    (seen_linked v (change_to (connected_bus e) (connected_bus f) (target_side e) (target_side f)) n e)
    (row_of_lines t n.target (target_side f))

abbrev pub initiator_breaks : Around → Connection → EndLines → EndLines → ℕ → Option ℕ
initiator_breaks v n e f t = wire_broken
    (seen_linked v (change_to (connected_bus e) (connected_bus f) (initiator_side e) (initiator_side f)) n e)
    (row_of_lines t n.initiator (initiator_side f))

-- ---- the target

pub req_falls_in : (v : Around) (n : Connection) (atn msg cd : Bool) (y z t : ℕ)
    → n.initiator ≢ n.target → v.last ≤ t → implies v.turned (nat_le (v.times.io + TURN_DELAY) t) ≡ true
    → is_pulsed_phase true (connected_bus (ends false true atn 0 msg cd true true y)) v.agreement ≡ false
    → target_breaks v n (ends false true atn 0 msg cd true true y) (ends false true atn 0 msg cd true false z) t ≡ None
req_falls_in v n atn true true y z t ne a b c =
    let e = eq_self n.target in let o = ne_eqb n.target n.initiator (λ w. ne (sym w)) in grind (arith, nat_tests)
req_falls_in v n atn true false y z t ne a b c =
    let e = eq_self n.target in let o = ne_eqb n.target n.initiator (λ w. ne (sym w)) in grind (arith, nat_tests)
req_falls_in v n atn false true y z t ne a b c =
    let e = eq_self n.target in let o = ne_eqb n.target n.initiator (λ w. ne (sym w)) in grind (arith, nat_tests)
req_falls_in v n atn false false y z t ne a b c =
    let e = eq_self n.target in let o = ne_eqb n.target n.initiator (λ w. ne (sym w)) in grind (arith, nat_tests)

pub req_falls_out : (v : Around) (n : Connection) (atn msg cd : Bool) (x t : ℕ) → n.initiator ≢ n.target → v.last ≤ t
    → is_pulsed_phase true (connected_bus (ends false true atn x msg cd false true 0)) v.agreement ≡ false
    → target_breaks v n (ends false true atn x msg cd false true 0) (ends false true atn x msg cd false false 0) t
    ≡ None
req_falls_out v n atn msg cd x t ne a c =
    let e = eq_self n.target in
    let o = ne_eqb n.target n.initiator (λ w. ne (sym w)) in
    let u = or_zero_r x in
    let w = eq_self x in
    grind (arith, nat_tests)

-- REQ rises.
pub record MayAsk (v : Around) (n : Connection) (msg cd io : Bool) (t : ℕ) : Type 0 where
  pub apart : n.initiator ≢ n.target
  pub order : v.last ≤ t
  pub settled : phase_time v.times + BUS_SETTLE_DELAY ≤ t
  pub began : n.began + BUS_SETTLE_DELAY ≤ t
  pub known : (msg && not cd) ≡ false
  pub duty : implies (is_owed v.duty) (msg && cd && not io) ≡ true

pub req_rises_in : (v : Around) (n : Connection) (atn msg cd : Bool) (y t : ℕ) → MayAsk v n msg cd true t
    → implies v.turned (nat_le (v.times.io + TURN_DELAY) t) ≡ true → v.data_since + 55 ≤ t
    → is_pulsed_phase true (connected_bus (ends false false atn 0 msg cd true false y)) v.agreement ≡ false
    → target_breaks v n (ends false false atn 0 msg cd true false y) (ends false false atn 0 msg cd true true y) t
    ≡ None
req_rises_in v n atn true false y t h b d c = let w = h.known in absurd cc
req_rises_in v n atn _ _ y t h b d c =
    let ne = h.apart in
    let h1 = h.order in
    let h2 = h.settled in
    let h3 = h.began in
    let h4 = h.known in
    let h5 = h.duty in
    let e = eq_self n.target in
    let o = ne_eqb n.target n.initiator (λ w. ne (sym w)) in
    let u = or_self y in
    let w = eq_self y in
    grind (arith, nat_tests)

pub req_rises_out : (v : Around) (n : Connection) (atn msg cd : Bool) (t : ℕ) → MayAsk v n msg cd false t
    → is_pulsed_phase true (connected_bus (ends false false atn 0 msg cd false false 0)) v.agreement ≡ false
    → target_breaks v n (ends false false atn 0 msg cd false false 0) (ends false false atn 0 msg cd false true 0) t
    ≡ None
req_rises_out v n atn msg cd t h c =
    let ne = h.apart in
    let h1 = h.order in
    let h2 = h.settled in
    let h3 = h.began in
    let h4 = h.known in
    let h5 = h.duty in
    let e = eq_self n.target in
    let o = ne_eqb n.target n.initiator (λ w. ne (sym w)) in
    grind (arith, nat_tests)

-- The first byte after I/O turned.
pub first_byte_obeys : (v : Around) (n : Connection) (atn msg cd : Bool) (y t : ℕ) → n.initiator ≢ n.target
    → v.pulses ≡ no_pulses → v.last ≤ t → v.times.io + TURN_DELAY ≤ t → (y == 0) ≡ false
    → target_breaks v n (ends false false atn 0 msg cd true false 0) (ends false false atn 0 msg cd true false y) t
    ≡ None
first_byte_obeys v n atn msg cd y t ne p a b c =
    let e = eq_self n.target in let o = ne_eqb n.target n.initiator (λ w. ne (sym w)) in grind (arith, nat_tests)

-- The phase lines change: to the initiator again, to the target, or from it.
abbrev pub same_phases : (msg cd io msg' cd' io' : Bool) → Bool
same_phases msg cd io msg' cd' io' = same msg msg' && same cd cd' && same io io'

pub phase_goes_on_in : (v : Around) (n : Connection) (atn msg cd : Bool) (y : ℕ) (msg' cd' : Bool) (z t : ℕ)
    → n.initiator ≢ n.target → v.last ≤ t → same_phases msg cd true msg' cd' true ≡ false
    → implies v.turned (nat_le (v.times.io + TURN_DELAY) t) ≡ true
    → is_pulsed_phase true (connected_bus (ends false false atn 0 msg cd true false y)) v.agreement ≡ false
    → target_breaks v n (ends false false atn 0 msg cd true false y) (ends false false atn 0 msg' cd' true false z) t
    ≡ None
phase_goes_on_in v n atn true true y true true z t ne a s b c = absurd (true≢false s)
phase_goes_on_in v n atn true false y true false z t ne a s b c = absurd (true≢false s)
phase_goes_on_in v n atn false true y false true z t ne a s b c = absurd (true≢false s)
phase_goes_on_in v n atn false false y false false z t ne a s b c = absurd (true≢false s)
phase_goes_on_in v n atn _ _ y _ _ z t ne a s b c =
    let e = eq_self n.target in let o = ne_eqb n.target n.initiator (λ w. ne (sym w)) in grind (arith, nat_tests)

pub phase_turns_out : (v : Around) (n : Connection) (atn msg cd : Bool) (y : ℕ) (msg' cd' : Bool) (t : ℕ)
    → n.initiator ≢ n.target → v.last ≤ t
    → is_pulsed_phase true (connected_bus (ends false false atn 0 msg cd true false y)) v.agreement ≡ false
    → target_breaks v n (ends false false atn 0 msg cd true false y) (ends false false atn 0 msg' cd' false false 0) t
    ≡ None
phase_turns_out v n atn true true y true true t ne a c =
    let e = eq_self n.target in
    let o = ne_eqb n.target n.initiator (λ w. ne (sym w)) in
    let u = or_zero_r y in
    grind (arith, nat_tests)
phase_turns_out v n atn _ _ y _ _ t ne a c =
    let e = eq_self n.target in
    let o = ne_eqb n.target n.initiator (λ w. ne (sym w)) in
    let u = or_zero_r y in
    grind (arith, nat_tests)

pub phase_begins_out : (v : Around) (n : Connection) (atn msg cd msg' cd' io' : Bool) (t : ℕ)
    → n.initiator ≢ n.target → v.last ≤ t → same_phases msg cd false msg' cd' io' ≡ false
    → is_pulsed_phase true (connected_bus (ends false false atn 0 msg cd false false 0)) v.agreement ≡ false
    → target_breaks v n (ends false false atn 0 msg cd false false 0) (ends false false atn 0 msg' cd' io' false 0) t
    ≡ None
phase_begins_out v n atn true true true true false t ne a s c = absurd (true≢false s)
phase_begins_out v n atn true false true false false t ne a s c = absurd (true≢false s)
phase_begins_out v n atn false true false true false t ne a s c = absurd (true≢false s)
phase_begins_out v n atn false false false false false t ne a s c = absurd (true≢false s)
phase_begins_out v n atn _ _ _ _ _ t ne a s c =
    let e = eq_self n.target in let o = ne_eqb n.target n.initiator (λ w. ne (sym w)) in grind (arith, nat_tests)

-- ---- the initiator

pub ack_falls_in : (v : Around) (n : Connection) (atn msg cd : Bool) (y t : ℕ) → n.initiator ≢ n.target → v.last ≤ t
    → is_pulsed_phase true (connected_bus (ends false true atn 0 msg cd true false y)) v.agreement ≡ false
    → initiator_breaks v n (ends false true atn 0 msg cd true false y) (ends false false atn 0 msg cd true false y) t
    ≡ None
ack_falls_in v n atn msg cd y t ne a c =
    let e = eq_self n.initiator in
    let o = ne_eqb n.initiator n.target ne in
    let w = eq_self y in
    grind (arith, nat_tests)

pub ack_falls_out : (v : Around) (n : Connection) (atn msg cd : Bool) (x t : ℕ) → n.initiator ≢ n.target → v.last ≤ t
    → is_pulsed_phase true (connected_bus (ends false true atn x msg cd false false 0)) v.agreement ≡ false
    → initiator_breaks v n (ends false true atn x msg cd false false 0) (ends false false atn 0 msg cd false false 0) t
    ≡ None
ack_falls_out v n atn msg cd x t ne a c =
    let e = eq_self n.initiator in
    let o = ne_eqb n.initiator n.target ne in
    let u = or_zero_r x in
    let w = eq_self x in
    grind (arith, nat_tests)

pub ack_rises_in : (v : Around) (n : Connection) (atn msg cd atn' : Bool) (y t : ℕ) → n.initiator ≢ n.target
    → v.last ≤ t → is_pulsed_phase true (connected_bus (ends false false atn 0 msg cd true true y)) v.agreement ≡ false
    → initiator_breaks v n (ends false false atn 0 msg cd true true y) (ends false true atn' 0 msg cd true true y) t
    ≡ None
ack_rises_in v n atn msg cd atn' y t ne a c =
    let e = eq_self n.initiator in
    let o = ne_eqb n.initiator n.target ne in
    let w = eq_self y in
    grind (arith, nat_tests)

pub byte_obeys : (v : Around) (n : Connection) (atn msg cd atn' : Bool) (x t : ℕ)
    → n.initiator ≢ n.target → v.last ≤ t → (x == 0) ≡ false
    → is_pulsed_phase true (connected_bus (ends false false atn 0 msg cd false true 0)) v.agreement ≡ false
    → initiator_breaks v n (ends false false atn 0 msg cd false true 0) (ends false false atn' x msg cd false true 0) t
    ≡ None
byte_obeys v n atn msg cd atn' x t ne a d c =
    let e = eq_self n.initiator in
    let o = ne_eqb n.initiator n.target ne in
    let u = or_zero_r x in
    grind (arith, nat_tests)

pub ack_rises_out : (v : Around) (n : Connection) (atn msg cd : Bool) (x t : ℕ) → n.initiator ≢ n.target
    → v.last ≤ t → v.data_since + 55 ≤ t → implies (msg && cd) (nat_le (v.times.atn + 90) t) ≡ true
    → is_pulsed_phase true (connected_bus (ends false false atn x msg cd false true 0)) v.agreement ≡ false
    → initiator_breaks v n (ends false false atn x msg cd false true 0) (ends false true atn x msg cd false true 0) t
    ≡ None
ack_rises_out v n atn msg cd x t ne a d m c =
    let e = eq_self n.initiator in
    let o = ne_eqb n.initiator n.target ne in
    let u = or_zero_r x in
    let w = eq_self x in
    let s = or_self x in
    grind (arith, nat_tests)

pub bsy_release_obeys :
    (v : Around) (n : Connection) (atn msg cd : Bool) (y t : ℕ) → n.initiator ≢ n.target → v.last ≤ t
    → initiator_breaks v n (ends true false atn 0 msg cd true false y) (ends false false atn 0 msg cd true false y) t
    ≡ None
bsy_release_obeys v n atn msg cd y t ne a =
    let e = eq_self n.initiator in
    let o = ne_eqb n.initiator n.target ne in
    let w = eq_self y in
    grind (arith, nat_tests)

-- What it drives of a data phase that was left.
pub byte_release_obeys : (v : Around) (n : Connection) (atn msg cd : Bool) (x t : ℕ) → n.initiator ≢ n.target
    → v.last ≤ t → (x == 0) ≡ false → t ≤ v.times.io + DATA_RELEASE_DELAY → (not msg && not cd) ≡ false
    → initiator_breaks v n (ends false false atn x msg cd true false 0) (ends false false atn 0 msg cd true false 0) t
    ≡ None
byte_release_obeys v n atn msg cd x t ne a d b m =
    let e = eq_self n.initiator in
    let o = ne_eqb n.initiator n.target ne in
    let u = or_zero_r x in
    grind (arith, nat_tests)
