-- What a target does next is the same where what it has to do is alike.
use Rattle.std.proofs.Common.{ℕ, ◌≡◌, ◌==◌, ◌+◌, ◌∙◌, Bool, true, false, refl, sym, length, None}
use Rattle.std.specs.Prelude.{if◌then◌else◌, not, ◌&&◌, ◌||◌, nat_lt, max}
use Rattle.bus_trace.specs.Trace.{phase_time}
use Rattle.bus_trace.specs.declared.delays.TheConstants.{BUS_SETTLE_DELAY, TURN_DELAY, SET_UP_TIME}
use Rattle.bus_lines.specs.Handshakes.{Handshakes}
use Rattle.reaction_model.specs.Reactions.{due_at}
use Rattle.reaction_model.specs.declared.due.Myself.{Myself}
use Rattle.reaction_model.specs.declared.sight.Sight.{Sight}
use Rattle.reaction_model.specs.declared.ends.Pace.{Pace}
use Rattle.reaction_model.specs.declared.ends.Offering.{Offering}
use Rattle.reaction_model.specs.Target.{byte_bits, with_data_bits, req_assertion, first_byte, first_req, bits_if}
use Rattle.reaction_model.specs.Target.{req_negation, next_req, phase_end, target_turn, target_handshake, req_pulse_end}
use Rattle.reaction_model.specs.Target.{hold_end, byte_change, req_pulse, last_hold_end, pulsed_phase_end, pulse_turn}
use Rattle.reaction_model.specs.Target.{target_pulse}
use Rattle.reaction_model.specs.Ends as hand
use Rattle.target_course.specs.Alike.{AreAlike, is_driven}

-- ---- where a byte is driven

asked_drives : (none pulsed : Bool) → is_driven none true true pulsed ≡ true
asked_drives true pulsed = refl
asked_drives false pulsed = refl

pulses_drive : (none asks : Bool) → is_driven none true asks true ≡ true
pulses_drive true asks = refl
pulses_drive false true = refl
pulses_drive false false = refl

bits_are : (io f g : Bool) (x y : ℕ) → f ≡ g → (io ≡ true → f ≡ true → x ≡ y)
    → bits_if (io && f) x ≡ bits_if (io && g) y
bits_are false f g x y e k = refl
bits_are true true true x y e k = λ j. byte_bits (k refl refl j)
bits_are true false false x y e k = refl
bits_are true true false x y e k = absurd cc
bits_are true false true x y e k = absurd cc

-- ---- what it does next

first_is : (v : Sight) (me : Myself) (g h : Offering) → (v.bus.io ≡ true → g.byte ≡ h.byte)
    → first_req v me g ≡ first_req v me h
first_is v me g h k = go v.bus.io (v.ages.io == phase_time v.ages) (me.own.data_bits == 0) k
  where
    go : (io turned bare : Bool) → (io ≡ true → g.byte ≡ h.byte)
        → (if not (io && turned) then req_assertion me (phase_time v.ages + BUS_SETTLE_DELAY)
        else if bare then first_byte v me g else req_assertion me (me.since + SET_UP_TIME))
        ≡ (if not (io && turned) then req_assertion me (phase_time v.ages + BUS_SETTLE_DELAY)
        else if bare then first_byte v me h else req_assertion me (me.since + SET_UP_TIME))
    go false turned bare k = refl
    go true false bare k = refl
    go true true false k = refl
    go true true true k =
        λ j. due_at (phase_time v.ages + TURN_DELAY + me.latency) (with_data_bits me.own (byte_bits (k refl j)))

turn_is : (pulsed : Bool) (v : Sight) (b : Handshakes) (me : Myself) (g h : Offering) → me.own.req ≡ false
    → AreAlike true pulsed me.own.req v.bus.io b.requests g h → target_turn v b me g ≡ target_turn v b me h
turn_is pulsed v b me g h q a =
    go (b.requests == 0) refl g.follows h.follows (a.follows refl) (λ x y. a.to refl q x y) (λ x y. a.wait refl q x y)
  where
    go : (none : Bool) → (b.requests == 0) ≡ none → (f e : Bool) → f ≡ e
        → (f ≡ false → none ≡ false → g.to ≡ h.to) → (f ≡ false → none ≡ false → g.wait ≡ h.wait)
        → (if none then first_req v me g else if f then next_req v me else phase_end v me g)
        ≡ (if none then first_req v me h else if e then next_req v me else phase_end v me h)
    go true z f e x to wait =
        first_is v me g h (λ io. a.byte refl io (λ i. is_driven (z i) g.follows me.own.req pulsed))
    go false z true true x to wait = refl
    go false z false false x to wait = λ j. due_at (v.ages.ack + me.latency + wait refl refl j) (to refl refl j)
    go false z true false x to wait = absurd cc
    go false z false true x to wait = absurd cc

handshake_is : (pulsed : Bool) (v : Sight) (b : Handshakes) (me : Myself) (g h : Offering)
    → AreAlike true pulsed me.own.req v.bus.io b.requests g h → target_handshake v b me g ≡ target_handshake v b me h
handshake_is pulsed v b me g h a = go me.own.req v.bus.ack refl
  where
    driven : me.own.req ≡ true → g.follows ≡ true → is_driven (b.requests == 0) g.follows me.own.req pulsed ≡ true
    driven q f = (λ i. is_driven (b.requests == 0) (f i) (q i) pulsed) ∙ asked_drives (b.requests == 0) pulsed

    negation : me.own.req ≡ true → req_negation v me g ≡ req_negation v me h
    negation q = λ j. due_at (v.ages.ack + me.latency) (record me.own {
      req = false;
      data_bits =
          bits_are v.bus.io g.follows h.follows g.byte h.byte (a.follows refl) (λ io f. a.byte refl io (driven q f)) j;
    })

    go : (req ack : Bool) → me.own.req ≡ req
        → (if req then (if ack then req_negation v me g else None) else if ack then None else target_turn v b me g)
        ≡ (if req then (if ack then req_negation v me h else None) else if ack then None else target_turn v b me h)
    go true true q = negation q
    go true false q = refl
    go false true q = refl
    go false false q = turn_is pulsed v b me g h q a

pulse_turn_is : (v : Sight) (b : Handshakes) (me : Myself) (p : Pace) (g h : Offering) → me.own.req ≡ false
    → (b.requests == 0) ≡ false → AreAlike true p.pulsed me.own.req v.bus.io b.requests g h
    → pulse_turn v b me p g ≡ pulse_turn v b me p h
pulse_turn_is v b me p g h q z a =
    go g.follows h.follows (not (length b.waiting == 0) || v.bus.ack) (a.follows refl) (λ x. a.to refl q x z)
  where
    go : (f e busy : Bool) → f ≡ e → (f ≡ false → g.to ≡ h.to)
        → (if f then (if nat_lt (length b.waiting) p.offset then req_pulse v b me p else None)
        else if busy then None else pulsed_phase_end v b me p g)
        ≡ (if e then (if nat_lt (length b.waiting) p.offset then req_pulse v b me p else None)
        else if busy then None else pulsed_phase_end v b me p h)
    go true true busy x to = refl
    go false false true x to = refl
    go false false false x to = λ j. due_at (max v.ages.ack (last_hold_end v b p) + me.latency) (to refl j)
    go true false busy x to = absurd cc
    go false true busy x to = absurd cc

pulse_is : (v : Sight) (b : Handshakes) (me : Myself) (p : Pace) (g h : Offering) → p.pulsed ≡ true
    → AreAlike true p.pulsed me.own.req v.bus.io b.requests g h → target_pulse v b me p g ≡ target_pulse v b me p h
pulse_is v b me p g h s a = go me.own.req (b.requests == 0) refl (λ q z. turn q z)
  where
    driven : g.follows ≡ true → is_driven (b.requests == 0) g.follows me.own.req p.pulsed ≡ true
    driven f = (λ i. is_driven (b.requests == 0) (f i) me.own.req (s i)) ∙ pulses_drive (b.requests == 0) me.own.req

    bits : v.bus.io ≡ true → bits_if g.follows g.byte ≡ bits_if h.follows h.byte
    bits io = bits_are true g.follows h.follows g.byte h.byte (a.follows refl) (λ x f. a.byte refl io (driven f))

    turn : me.own.req ≡ false → (b.requests == 0) ≡ false
        → (if v.bus.io && not (me.own.data_bits == bits_if g.follows g.byte) then byte_change b me p g
        else pulse_turn v b me p g)
        ≡ (if v.bus.io && not (me.own.data_bits == bits_if h.follows h.byte) then byte_change b me p h
        else pulse_turn v b me p h)
    turn q z = by_io v.bus.io bits
      where
        by_io : (io : Bool) → (io ≡ true → bits_if g.follows g.byte ≡ bits_if h.follows h.byte)
            → (if io && not (me.own.data_bits == bits_if g.follows g.byte) then byte_change b me p g
            else pulse_turn v b me p g)
            ≡ (if io && not (me.own.data_bits == bits_if h.follows h.byte) then byte_change b me p h
            else pulse_turn v b me p h)
        by_io false k = pulse_turn_is v b me p g h q z a
        by_io true k =
            λ j. if not (me.own.data_bits == k refl j) then due_at (hold_end b me p) (with_data_bits me.own (k refl j))
            else pulse_turn_is v b me p g h q z a j

    go : (req none : Bool) → (b.requests == 0) ≡ none → (req ≡ false → none ≡ false
        → (if v.bus.io && not (me.own.data_bits == bits_if g.follows g.byte) then byte_change b me p g
        else pulse_turn v b me p g)
        ≡ (if v.bus.io && not (me.own.data_bits == bits_if h.follows h.byte) then byte_change b me p h
        else pulse_turn v b me p h))
        → (if req then req_pulse_end v me p else if none then first_req v me g
        else if v.bus.io && not (me.own.data_bits == bits_if g.follows g.byte) then byte_change b me p g
        else pulse_turn v b me p g) ≡ (if req then req_pulse_end v me p else if none then first_req v me h
        else if v.bus.io && not (me.own.data_bits == bits_if h.follows h.byte) then byte_change b me p h
        else pulse_turn v b me p h)
    go true none z x = refl
    go false true z x = first_is v me g h (λ io. a.byte refl io (λ i. is_driven (z i) g.follows me.own.req p.pulsed))
    go false false z x = x refl refl

pub dues_alike : (begun : Bool) (v : Sight) (b : Handshakes) (me : Myself) (p : Pace) (g h : Offering)
    → AreAlike begun p.pulsed me.own.req v.bus.io b.requests g h
    → hand.target_due begun v b me p g ≡ hand.target_due begun v b me p h
dues_alike false v b me p g h a = refl
dues_alike true v b me p g h a = go p.pulsed refl
  where
    go : (pulsed : Bool) → p.pulsed ≡ pulsed → (if pulsed then target_pulse v b me p g else target_handshake v b me g)
        ≡ (if pulsed then target_pulse v b me p h else target_handshake v b me h)
    go true s = pulse_is v b me p g h s a
    go false s = handshake_is p.pulsed v b me g h a

-- ---- one after the other

pub alike_itself : (begun pulsed asks io : Bool) (requests : ℕ) (g : Offering)
    → AreAlike begun pulsed asks io requests g g
alike_itself begun pulsed asks io requests g =
    record { follows = λ z. refl; byte = λ z y x. refl; to = λ z y x w. refl; wait = λ z y x w. refl }

pub alike_on : (begun pulsed asks io : Bool) (requests : ℕ) (f g h : Offering)
    → AreAlike begun pulsed asks io requests f g → AreAlike begun pulsed asks io requests g h
    → AreAlike begun pulsed asks io requests f h
alike_on begun pulsed asks io requests f g h a b = record {
  follows = λ z. a.follows z ∙ b.follows z;
  byte = λ z y x. a.byte z y x ∙ b.byte z y ((λ i. is_driven (requests == 0) (sym (a.follows z) i) asks pulsed) ∙ x);
  to = λ z y x w. a.to z y x w ∙ b.to z y (sym (a.follows z) ∙ x) w;
  wait = λ z y x w. a.wait z y x w ∙ b.wait z y (sym (a.follows z) ∙ x) w;
}
