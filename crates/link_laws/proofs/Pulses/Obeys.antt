-- Rows of a data phase by pulses that obey the rules by the wires (6.1.5.2).
use Rattle.link_laws.proofs
use proofs.Names.{ℕ, ◌≡◌, ◌≢◌, ◌≤◌, ◌+◌, Bool, true, false, not, None, sym, arith, ◌==◌, ◌||◌, ne_eqb, true≢false}
use proofs.Names.{nat_tests, or_zero_r, or_self, nat_le, nat_lt, is_some, eq_self, times_of, implies, Connection}
use proofs.{Names.{TURN_DELAY, is_after, ends}, Lines.Obeys.{target_breaks, initiator_breaks, same_phases, MayAsk}}
use proofs.Lines.Seen.{Around}

-- REQ rises a period after the last pulse, a negation period after its end, and while there is room.
pub record MayPulse (v : Around) (n : Connection) (io : Bool) (t : ℕ) : Type 0 where
  pub asks : MayAsk v n false false io t
  pub offset : nat_lt 0 v.agreement.offset ≡ true
  pub period : is_after v.pulses.last_req (times_of v.agreement.period).period t ≡ true
  pub negation : (not (is_some v.pulses.last_req) || nat_le (v.times.req + (times_of v.agreement.period).negation) t)
      ≡ true
  pub room : (v.agreement.offset == 255 || nat_lt v.pulses.req (v.pulses.ack + v.agreement.offset)) ≡ true

pub req_pulse_in : (v : Around) (n : Connection) (ack atn : Bool) (y t : ℕ)
    → MayPulse v n true t → implies v.turned (nat_le (v.times.io + TURN_DELAY) t) ≡ true
    → v.data_since + (times_of v.agreement.period).set_up ≤ t
    → target_breaks v n (ends false ack atn 0 false false true false y) (ends false ack atn 0 false false true true y) t
    ≡ None
req_pulse_in v n ack atn y t h b d =
    let h0 = h.asks in
    let ne = h0.apart in
    let h1 = h0.order in
    let h2 = h0.settled in
    let h3 = h0.began in
    let h5 = h0.duty in
    let k1 = h.offset in
    let k2 = h.period in
    let k3 = h.negation in
    let k4 = h.room in
    let e = eq_self n.target in
    let o = ne_eqb n.target n.initiator (λ w. ne (sym w)) in
    let u = or_self y in
    let w = eq_self y in
    grind (arith, nat_tests)

pub req_pulse_out : (v : Around) (n : Connection) (ack atn : Bool) (x t : ℕ) → MayPulse v n false t
    → target_breaks v n (ends false ack atn x false false false false 0)
    (ends false ack atn x false false false true 0) t ≡ None
req_pulse_out v n ack atn x t h =
    let h0 = h.asks in
    let ne = h0.apart in
    let h1 = h0.order in
    let h2 = h0.settled in
    let h3 = h0.began in
    let h5 = h0.duty in
    let k1 = h.offset in
    let k2 = h.period in
    let k3 = h.negation in
    let k4 = h.room in
    let e = eq_self n.target in
    let o = ne_eqb n.target n.initiator (λ w. ne (sym w)) in
    let u = or_zero_r x in
    let w = eq_self x in
    grind (arith, nat_tests)

pub req_end_in : (v : Around) (n : Connection) (ack atn : Bool) (y t : ℕ) → n.initiator ≢ n.target → v.last ≤ t
    → nat_lt 0 v.agreement.offset ≡ true → v.times.req + (times_of v.agreement.period).assertion ≤ t
    → implies v.turned (nat_le (v.times.io + TURN_DELAY) t) ≡ true
    → target_breaks v n (ends false ack atn 0 false false true true y) (ends false ack atn 0 false false true false y) t
    ≡ None
req_end_in v n ack atn y t ne a k b c =
    let e = eq_self n.target in
    let o = ne_eqb n.target n.initiator (λ w. ne (sym w)) in
    let u = or_self y in
    let w = eq_self y in
    grind (arith, nat_tests)

pub req_end_out : (v : Around) (n : Connection) (ack atn : Bool) (x t : ℕ) → n.initiator ≢ n.target → v.last ≤ t
    → nat_lt 0 v.agreement.offset ≡ true → v.times.req + (times_of v.agreement.period).assertion ≤ t
    → target_breaks v n (ends false ack atn x false false false true 0)
    (ends false ack atn x false false false false 0) t ≡ None
req_end_out v n ack atn x t ne a k b =
    let e = eq_self n.target in
    let o = ne_eqb n.target n.initiator (λ w. ne (sym w)) in
    let u = or_zero_r x in
    let w = eq_self x in
    grind (arith, nat_tests)

pub byte_change_obeys : (v : Around) (n : Connection) (ack atn : Bool) (y z t : ℕ)
    → n.initiator ≢ n.target → v.last ≤ t → nat_lt 0 v.agreement.offset ≡ true
    → (y == z) ≡ false → is_after v.pulses.last_req (times_of v.agreement.period).hold t ≡ true
    → implies v.turned (nat_le (v.times.io + TURN_DELAY) t) ≡ true
    → target_breaks v n (ends false ack atn 0 false false true false y)
    (ends false ack atn 0 false false true false z) t ≡ None
byte_change_obeys v n ack atn y z t ne a k s b c =
    let e = eq_self n.target in let o = ne_eqb n.target n.initiator (λ w. ne (sym w)) in grind (arith, nat_tests)

-- The initiator.
pub record MayAnswer (v : Around) (t : ℕ) : Type 0 where
  pub order : v.last ≤ t
  pub offset : nat_lt 0 v.agreement.offset ≡ true
  pub period : is_after v.pulses.last_ack (times_of v.agreement.period).period t ≡ true
  pub negation : (not (is_some v.pulses.last_ack) || nat_le (v.times.ack + (times_of v.agreement.period).negation) t)
      ≡ true
  pub waits : nat_lt v.pulses.ack v.pulses.req ≡ true

pub ack_pulse_in : (v : Around) (n : Connection) (req atn atn' : Bool) (y t : ℕ) → n.initiator ≢ n.target
    → MayAnswer v t → initiator_breaks v n (ends false false atn 0 false false true req y)
    (ends false true atn' 0 false false true req y) t ≡ None
ack_pulse_in v n req atn atn' y t ne h =
    let h1 = h.order in
    let k1 = h.offset in
    let k2 = h.period in
    let k3 = h.negation in
    let k4 = h.waits in
    let e = eq_self n.initiator in
    let o = ne_eqb n.initiator n.target ne in
    let w = eq_self y in
    grind (arith, nat_tests)

pub ack_pulse_out : (v : Around) (n : Connection) (req atn : Bool) (x t : ℕ) → n.initiator ≢ n.target
    → MayAnswer v t → v.data_since + (times_of v.agreement.period).set_up ≤ t
    → initiator_breaks v n (ends false false atn x false false false req 0)
    (ends false true atn x false false false req 0) t ≡ None
ack_pulse_out v n true true x t ne h b =
    let h1 = h.order in
    let k1 = h.offset in
    let k2 = h.period in
    let k3 = h.negation in
    let k4 = h.waits in
    let e = eq_self n.initiator in
    let o = ne_eqb n.initiator n.target ne in
    let u = or_zero_r x in
    let w = eq_self x in
    let s = or_self x in
    grind (arith, nat_tests)
ack_pulse_out v n _ _ x t ne h b =
    let h1 = h.order in
    let k1 = h.offset in
    let k2 = h.period in
    let k3 = h.negation in
    let k4 = h.waits in
    let e = eq_self n.initiator in
    let o = ne_eqb n.initiator n.target ne in
    let u = or_zero_r x in
    let w = eq_self x in
    let s = or_self x in
    grind (arith, nat_tests)

pub ack_end_in : (v : Around) (n : Connection) (req atn : Bool) (y t : ℕ) → n.initiator ≢ n.target → v.last ≤ t
    → nat_lt 0 v.agreement.offset ≡ true → v.times.ack + (times_of v.agreement.period).assertion ≤ t
    → initiator_breaks v n (ends false true atn 0 false false true req y)
    (ends false false atn 0 false false true req y) t ≡ None
ack_end_in v n req atn y t ne a k b =
    let e = eq_self n.initiator in
    let o = ne_eqb n.initiator n.target ne in
    let w = eq_self y in
    grind (arith, nat_tests)

pub ack_end_out : (v : Around) (n : Connection) (req atn : Bool) (x t : ℕ) → n.initiator ≢ n.target → v.last ≤ t
    → nat_lt 0 v.agreement.offset ≡ true → v.times.ack + (times_of v.agreement.period).assertion ≤ t
    → initiator_breaks v n (ends false true atn x false false false req 0)
    (ends false false atn x false false false req 0) t ≡ None
ack_end_out v n req atn x t ne a k b =
    let e = eq_self n.initiator in
    let o = ne_eqb n.initiator n.target ne in
    let u = or_zero_r x in
    let w = eq_self x in
    let s = or_self x in
    grind (arith, nat_tests)

pub byte_driven_obeys : (v : Around) (n : Connection) (req atn : Bool) (x z t : ℕ)
    → n.initiator ≢ n.target → v.last ≤ t → nat_lt 0 v.agreement.offset ≡ true
    → (x == z) ≡ false → is_after v.pulses.last_ack (times_of v.agreement.period).hold t ≡ true
    → initiator_breaks v n (ends false false atn x false false false req 0)
    (ends false false atn z false false false req 0) t ≡ None
byte_driven_obeys v n req atn x z t ne a k s b =
    let e = eq_self n.initiator in
    let o = ne_eqb n.initiator n.target ne in
    let u = or_zero_r x in
    let w = or_zero_r z in
    grind (arith, nat_tests)

-- The phase is left, all pulses being answered.
pub pulsed_goes_on_in : (v : Around) (n : Connection) (atn : Bool) (y : ℕ) (msg' cd' : Bool) (z t : ℕ)
    → n.initiator ≢ n.target → v.last ≤ t → same_phases false false true msg' cd' true ≡ false
    → implies v.turned (nat_le (v.times.io + TURN_DELAY) t) ≡ true → (v.pulses.req == v.pulses.ack) ≡ true
    → is_after v.pulses.last_req (times_of v.agreement.period).hold t ≡ true
    → target_breaks v n (ends false false atn 0 false false true false y)
    (ends false false atn 0 msg' cd' true false z) t ≡ None
pulsed_goes_on_in v n atn y true true z t ne a s b c d =
    let e = eq_self n.target in let o = ne_eqb n.target n.initiator (λ w. ne (sym w)) in grind (arith, nat_tests)
pulsed_goes_on_in v n atn y false false z t ne a s b c d = absurd (true≢false s)
pulsed_goes_on_in v n atn y _ _ z t ne a s b c d =
    let e = eq_self n.target in let o = ne_eqb n.target n.initiator (λ w. ne (sym w)) in grind (arith, nat_tests)

pub pulsed_turns_out : (v : Around) (n : Connection) (atn : Bool) (y : ℕ) (msg' cd' : Bool) (t : ℕ)
    → n.initiator ≢ n.target → v.last ≤ t → (v.pulses.req == v.pulses.ack) ≡ true
    → is_after v.pulses.last_req (times_of v.agreement.period).hold t ≡ true
    → target_breaks v n (ends false false atn 0 false false true false y)
    (ends false false atn 0 msg' cd' false false 0) t ≡ None
pulsed_turns_out v n atn y msg' cd' t ne a c d =
    let e = eq_self n.target in
    let o = ne_eqb n.target n.initiator (λ w. ne (sym w)) in
    let u = or_zero_r y in
    grind (arith, nat_tests)

pub pulsed_turns_in : (v : Around) (n : Connection) (atn : Bool) (x : ℕ) (msg' cd' : Bool) (t : ℕ)
    → n.initiator ≢ n.target → v.last ≤ t → (v.pulses.req == v.pulses.ack) ≡ true
    → target_breaks v n (ends false false atn x false false false false 0)
    (ends false false atn x msg' cd' true false 0) t ≡ None
pulsed_turns_in v n atn x msg' cd' t ne a c =
    let e = eq_self n.target in
    let o = ne_eqb n.target n.initiator (λ w. ne (sym w)) in
    let u = or_zero_r x in
    let w = eq_self x in
    grind (arith, nat_tests)
