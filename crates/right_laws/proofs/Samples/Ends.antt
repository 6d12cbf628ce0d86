-- Of the two ends of a connection no fault is due, but of the byte that crossed in the last row; and who sent that byte
-- is not due again at that time.
use Rattle.right_laws.proofs
use proofs.Names.{ℕ, ◌≡◌, ◌⊎◌, inl, inr, ◌<◌, ◌+◌, Bool, true, false, not, ◌&&◌, ◌||◌, ◌==◌, ◌∙◌, max, length, Some}
use proofs.Names.{None, refl, sym, arith, if◌then◌else◌, nat_lt, wrong, fast_times, slow_times, times_of, times_or_slow}
use proofs.Names.{phase_time, TWO_DESKEW, BUS_SETTLE_DELAY, SET_UP_TIME, Handshakes, bsy_release, initiator_due}
use proofs.Names.{message_out_start, target_due, owes_release as owes, ack_negation, ack_pulse, ack_pulse_end}
use proofs.Names.{byte_release, initiator_byte, initiator_handshake, initiator_pulse, initiator_turn, pulsed_byte}
use proofs.Names.{received_byte_ack, received_byte_pulse, rose_with_ack, sent_byte_ack, sent_byte_pulse, bits_if}
use proofs.Names.{byte_bits, byte_change, first_byte, first_req, has_io_turned, next_req, phase_end, pulse_turn}
use proofs.Names.{pulsed_phase_end, req_assertion, req_negation, req_pulse, req_pulse_end, target_handshake}
use proofs.Names.{target_pulse, target_turn, Due, Myself, Answering, Offering, Pace, Sight, is_at, none_some}
use proofs.Samples.NoFaults.{IsOfLines, lines_if}

-- ---- rows of lines

lines_first : (v : Sight) (me : Myself) (g : Offering) → IsOfLines (first_req v me g)
lines_first v me g = lines_if (not (has_io_turned v)) (req_assertion me (phase_time v.ages + BUS_SETTLE_DELAY))
    (if me.own.data_bits == 0 then first_byte v me g else req_assertion me (me.since + SET_UP_TIME)) refl
    (lines_if (me.own.data_bits == 0) (first_byte v me g) (req_assertion me (me.since + SET_UP_TIME)) refl refl)

lines_shaking : (v : Sight) (b : Handshakes) (me : Myself) (g : Offering) → IsOfLines (target_handshake v b me g)
lines_shaking v b me g = lines_if me.own.req (if v.bus.ack then req_negation v me g else None)
    (if v.bus.ack then None else target_turn v b me g)
    (lines_if v.bus.ack (req_negation v me g) None refl tt) (lines_if v.bus.ack None (target_turn v b me g) tt
    (lines_if (b.requests == 0) (first_req v me g) (if g.follows then next_req v me else phase_end v me g)
    (lines_first v me g) (lines_if g.follows (next_req v me) (phase_end v me g) refl refl)))

lines_pulsing : (v : Sight) (b : Handshakes) (me : Myself) (a : Pace) (g : Offering)
    → IsOfLines (target_pulse v b me a g)
lines_pulsing v b me a g = lines_if me.own.req (req_pulse_end v me a) (if b.requests == 0 then first_req v me g
    else if v.bus.io && not (me.own.data_bits == bits_if g.follows g.byte) then byte_change b me a g
    else pulse_turn v b me a g) refl (lines_if (b.requests == 0) (first_req v me g)
    (if v.bus.io && not (me.own.data_bits == bits_if g.follows g.byte) then byte_change b me a g
    else pulse_turn v b me a g) (lines_first v me g) (lines_if
    (v.bus.io && not (me.own.data_bits == bits_if g.follows g.byte)) (byte_change b me a g) (pulse_turn v b me a g) refl
    (lines_if g.follows (if nat_lt (length b.waiting) a.offset then req_pulse v b me a else None)
    (if not (length b.waiting == 0) || v.bus.ack then None else pulsed_phase_end v b me a g)
    (lines_if (nat_lt (length b.waiting) a.offset) (req_pulse v b me a) None refl tt)
    (lines_if (not (length b.waiting == 0) || v.bus.ack) None (pulsed_phase_end v b me a g) tt refl))))

pub target_lines : (begun : Bool) (v : Sight) (b : Handshakes) (me : Myself) (a : Pace) (g : Offering)
    → IsOfLines (target_due begun v b me a g)
target_lines begun v b me a g = lines_if (not begun) (message_out_start v me)
    (if a.pulsed then target_pulse v b me a g else target_handshake v b me g) refl (lines_if a.pulsed
    (target_pulse v b me a g) (target_handshake v b me g) (lines_pulsing v b me a g) (lines_shaking v b me g))

lines_answering : (v : Sight) (b : Handshakes) (me : Myself) (a : Answering) → IsOfLines (initiator_handshake v b me a)
lines_answering v b me a = lines_if me.own.ack (if v.bus.req then None else ack_negation v me)
    (initiator_turn v b me a) (lines_if v.bus.req None (ack_negation v me) tt refl)
    (lines_if (not v.bus.req) None (if v.bus.io then received_byte_ack v b me a
    else if me.own.data_bits == 0 then initiator_byte v me a else sent_byte_ack v me) tt (lines_if v.bus.io
    (received_byte_ack v b me a) (if me.own.data_bits == 0 then initiator_byte v me a else sent_byte_ack v me) refl
    (lines_if (me.own.data_bits == 0) (initiator_byte v me a) (sent_byte_ack v me) refl refl)))

lines_pulses : (v : Sight) (b : Handshakes) (me : Myself) (x : Pace) (a : Answering)
    → IsOfLines (initiator_pulse v b me x a)
lines_pulses v b me x a = lines_if me.own.ack (ack_pulse_end v me x)
    (if not (length b.waiting == 0) then ack_pulse v b me x a
    else if me.own.data_bits == 0 then None else byte_release me x a) refl
    (lines_if (not (length b.waiting == 0)) (ack_pulse v b me x a)
    (if me.own.data_bits == 0 then None else byte_release me x a) (lines_if v.bus.io (received_byte_pulse v b me x)
    (if me.own.data_bits == byte_bits a.byte then sent_byte_pulse v b me x a else pulsed_byte b me x a) refl
    (lines_if (me.own.data_bits == byte_bits a.byte) (sent_byte_pulse v b me x a) (pulsed_byte b me x a) refl refl))
    (lines_if (me.own.data_bits == 0) None (byte_release me x a) tt refl))

pub initiator_lines : (begun : Bool) (v : Sight) (b : Handshakes) (me : Myself) (x : Pace) (a : Answering)
    → IsOfLines (initiator_due begun v b me x a)
initiator_lines begun v b me x a = lines_if me.own.bsy (bsy_release v me)
    (if not begun then None else if x.pulsed then initiator_pulse v b me x a
    else if owes v me then byte_release me x a else initiator_handshake v b me a) refl
    (lines_if (not begun) None (if x.pulsed then initiator_pulse v b me x a else if owes v me then byte_release me x a
    else initiator_handshake v b me a) tt (lines_if x.pulsed (initiator_pulse v b me x a)
    (if owes v me then byte_release me x a else initiator_handshake v b me a) (lines_pulses v b me x a)
    (lines_if (owes v me) (byte_release me x a) (initiator_handshake v b me a) refl (lines_answering v b me a))))

-- ---- who sent the byte

pub assertion_some : (period : ℕ) → 0 < (times_of period).assertion
assertion_some period = go (nat_lt period 25) (nat_lt period 50)
  where
    go : (a b : Bool) → 0 < (times_or_slow period
        (if a then None else if b then Some (fast_times period) else Some (slow_times period))).assertion
    go true b = omega arith
    go false true = omega arith
    go false false = omega arith

-- REQ is true since this time, and ACK false, or the phase is one of pulses.
pub late_target : (v : Sight) (b : Handshakes) (me : Myself) (y : Pace) (g : Offering) (x : Due) → me.own.req ≡ true
    → (v.bus.ack ≡ false) ⊎ (y.pulsed ≡ true) → 0 < y.times.assertion → target_due true v b me y g ≡ Some x
    → v.ages.req < x.time
late_target v b me y g x req ack some e = go y.pulsed refl ack
  where
    go : (q : Bool) → y.pulsed ≡ q → (v.bus.ack ≡ false) ⊎ (y.pulsed ≡ true) → v.ages.req < x.time
    go true f a =
        let at = (is_at (v.ages.req + y.times.assertion + me.latency) (record me.own { req = false }) x (sym (λ i.
        if f i then (if req i then req_pulse_end v me y else if b.requests == 0 then first_req v me g else if v.bus.io
        && not (me.own.data_bits == bits_if g.follows g.byte) then byte_change b me y g else pulse_turn v b me y g)
        else target_handshake v b me g) ∙ e)).time_is in
        omega (arith, at, some)
    go false f (inl a) = absurd (none_some x
        (sym (λ i. if f i then target_pulse v b me y g else if req i then (if a i then req_negation v me g else None)
        else if v.bus.ack then None else target_turn v b me g) ∙ e))
    go false f (inr a) = wrong (sym a ∙ f)

-- ACK is true since this time, and REQ too, or the phase is one of pulses; I/O is false.
pub late_initiator : (v : Sight) (b : Handshakes) (me : Myself) (y : Pace) (a : Answering) (x : Due)
    → me.own.bsy ≡ false → me.own.ack ≡ true → v.bus.io ≡ false → (v.bus.req ≡ true) ⊎ (y.pulsed ≡ true)
    → 0 < y.times.assertion → initiator_due true v b me y a ≡ Some x → v.ages.ack < x.time
late_initiator v b me y a x bsy ack io req some e = go y.pulsed refl req
  where
    more : (q : Bool) (w : ℕ) → 0 < w → 0 < (if q then max TWO_DESKEW w else w)
    more true w h = omega (arith, h)
    more false w h = h

    go : (q : Bool) → y.pulsed ≡ q → (v.bus.req ≡ true) ⊎ (y.pulsed ≡ true) → v.ages.ack < x.time
    go true f r =
        let at = (is_at
        (v.ages.ack + (if rose_with_ack v me then max TWO_DESKEW y.times.assertion else y.times.assertion) + me.latency)
        (record me.own { ack = false }) x (sym
        (λ i. if bsy i then bsy_release v me else if f i then (if ack i then ack_pulse_end v me y else if not (length
        b.waiting == 0) then ack_pulse v b me y a else if me.own.data_bits == 0 then None else byte_release me y a)
        else if owes v me then byte_release me y a else initiator_handshake v b me a) ∙ e)).time_is in
        let m = more (rose_with_ack v me) y.times.assertion some in
        omega (arith, at, m)
    go false f (inl r) = absurd (none_some x (sym (λ i. if bsy i then bsy_release v me
        else if f i then initiator_pulse v b me y a else if io i && not (me.own.data_bits == 0) then byte_release me y a
        else if ack i then (if r i then None else ack_negation v me) else initiator_turn v b me a) ∙ e))
    go false f (inr r) = wrong (sym r ∙ f)
