-- In a connection one of its ends is due to act: the target to begin a phase, to ask for a byte, to end REQ or to leave
-- the phase; the initiator to answer, to give its byte or to end ACK; and by pulses the one that the other waits for
-- (6.1.5 to 6.1.10).
use Rattle.progress_laws.proofs
use proofs.Names.{inl, inr, ℕ, ◌≡◌, ◌⊎◌, Bool, true, false, not, ◌||◌, ◌∙◌, List, Option, Some, None, length, refl, sym}
use proofs.Names.{ap, subst, find, ◌==◌, if◌then◌else◌, is_some, nat_lt, zero_of, wrong', wrong, LineSet, bus, Row}
use proofs.Names.{Connection, handshakes, ScenarioValue, HostDef, TargetDef, host_latency, target_latency, Due, host_of}
use proofs.Names.{IsEnded, EndLines, Linked, Standing, HasDevice, selected_target, settling_target, turning_target}
use proofs.Names.{offering_target, answered_target, between_target, ending_initiator_in, ending_initiator_out}
use proofs.Names.{asking_initiator_in, asking_initiator_out, giving_initiator_out, pulsed_target_in, pulsed_target_out}
use proofs.Names.{pulsed_initiator_in, pulsed_initiator_out, target_choice, initiator_choice, LinkStage, when_selected}
use proofs.Names.{when_settling, when_turning, when_offering, when_shaking, when_pulsing, Shaking, Pulsing, offset_here}
use proofs.{Names.{run_count, HasEnds}, Quiet.Acts.{SomeDue, there_by, moved, target_end, initiator_end}}

-- Both ends are there.
pub record AreThere (s : ScenarioValue) (n : Connection) : Type 0 where
  pub target : HasDevice s n.target
  pub initiator : HasDevice s n.initiator

pub host_there : (s : ScenarioValue) (dev : ℕ) → is_some (host_of s dev) ≡ true → HasDevice s dev
host_there s dev e = go (find (λ (t : TargetDef). t.dev == dev) s.targets) (host_of s dev) refl refl e
  where
    go : (t : Option TargetDef) (h : Option HostDef) → find (λ (t : TargetDef). t.dev == dev) s.targets ≡ t
        → host_of s dev ≡ h → is_some (host_of s dev) ≡ true → HasDevice s dev
    go (Some t) h f g z =
        record { latency = t.latency; latency_is = λ i. target_latency (f i) (host_latency (host_of s dev)) }
    go None (Some h) f g z = record { latency = h.latency; latency_is = λ i. target_latency (f i) (host_latency (g i)) }
    go None None f g z = let w = sym z ∙ ap (λ (x : Option HostDef). is_some x) g in absurd cc

pub ends_there : (s : ScenarioValue) (p : List Row) (n : Connection) (e : EndLines) → Standing s p → Linked p n e
    → HasEnds s n → AreThere s n
ends_there s p n e st h en = record {
  target = there_by s p n.target (λ x. x.bsy) st h.target_below refl (ap (λ (l : LineSet). l.bsy) h.target);
  initiator = host_there s n.initiator en.initiator;
}

-- ---- choices of which each is a row

either : (q : Bool) (a b : Due) → SomeDue (if q then Some a else Some b)
either true a b = record { row = a; is = refl }
either false a b = record { row = b; is = refl }

answers_first : (pulses waiting : Bool) (a b c : Option Due) → SomeDue a → SomeDue b
    → (pulses ≡ true) ⊎ (waiting ≡ true) → SomeDue (initiator_choice pulses waiting a b c)
answers_first true waiting a b c x y e = x
answers_first false true a b c x y e = y
answers_first false false a b c x y (inl e) = wrong' e
answers_first false false a b c x y (inr e) = wrong' e

asks_next : (pulses changes follows room held : Bool) (a b c d : Option Due) → SomeDue a
    → (changes ≡ true → SomeDue b) → SomeDue c → SomeDue d → room ≡ true → held ≡ false
    → SomeDue (target_choice pulses changes follows room held a b c d)
asks_next true changes follows room held a b c d x y z w e f = x
asks_next false true follows room held a b c d x y z w e f = y refl
asks_next false false true true held a b c d x y z w e f = z
asks_next false false true false held a b c d x y z w e f = wrong' e
asks_next false false false room true a b c d x y z w e f = wrong f
asks_next false false false room false a b c d x y z w e f = w

-- Where none waits there is room for another.
has_room : (waiting offset : ℕ) → (waiting == 0) ≡ true → nat_lt 0 offset ≡ true → nat_lt waiting offset ≡ true
has_room waiting offset e f = ap (λ (x : ℕ). nat_lt x offset) (zero_of waiting e) ∙ f

-- ---- byte by byte

shaking_in : (s : ScenarioValue) (p : List Row) (n : Connection) (msg cd req ack atn : Bool) (y : ℕ) → IsEnded s p
    → Standing s p → AreThere s n → (bus p).rst ≡ false → Shaking p n msg cd true req ack atn 0 y → ⊥
shaking_in s p n msg cd true true atn y end st there calm h =
    let t = there.target in
    target_end s p n true _ t.latency end st.devices calm h.linked h.phase.begun_is t.latency_is
    (record { row = _; is = answered_target s p n msg cd true atn 0 y t.latency h })
shaking_in s p n msg cd true false atn y end st there calm h =
    let t = there.initiator in
    initiator_end s p n true _ t.latency end st.devices calm h.linked h.phase.begun_is t.latency_is
    (record { row = _; is = asking_initiator_in s p n msg cd atn y t.latency h })
shaking_in s p n msg cd false true atn y end st there calm h =
    let t = there.initiator in
    initiator_end s p n true _ t.latency end st.devices calm h.linked h.phase.begun_is t.latency_is
    (record { row = _; is = ending_initiator_in s p n msg cd atn y t.latency h })
shaking_in s p n msg cd false false atn y end st there calm h =
    let t = there.target in
    target_end s p n true _ t.latency end st.devices calm h.linked h.phase.begun_is t.latency_is
    (moved _ _ (between_target s p n msg cd true atn 0 y t.latency h) (either _ _ _))

shaking_out : (s : ScenarioValue) (p : List Row) (n : Connection) (msg cd req ack atn : Bool) (x : ℕ) → IsEnded s p
    → Standing s p → AreThere s n → (bus p).rst ≡ false → Shaking p n msg cd false req ack atn x 0 → ⊥
shaking_out s p n msg cd true true atn x end st there calm h =
    let t = there.target in
    target_end s p n true _ t.latency end st.devices calm h.linked h.phase.begun_is t.latency_is
    (record { row = _; is = answered_target s p n msg cd false atn x 0 t.latency h })
shaking_out s p n msg cd true false atn x end st there calm h = go (x == 0) refl
  where
    t : HasDevice s n.initiator
    t = there.initiator

    go : (q : Bool) → (x == 0) ≡ q → ⊥
    go true none =
        let z = subst (λ (m : ℕ). Shaking p n msg cd false true false atn m 0) (zero_of x none) h in
        initiator_end s p n true _ t.latency end st.devices calm z.linked z.phase.begun_is t.latency_is
        (record { row = _; is = asking_initiator_out s p n msg cd atn t.latency z })
    go false some = initiator_end s p n true _ t.latency end st.devices calm h.linked h.phase.begun_is t.latency_is
        (record { row = _; is = giving_initiator_out s p n msg cd atn x t.latency h some })
shaking_out s p n msg cd false true atn x end st there calm h =
    let t = there.initiator in
    initiator_end s p n true _ t.latency end st.devices calm h.linked h.phase.begun_is t.latency_is
    (record { row = _; is = ending_initiator_out s p n msg cd atn x t.latency h })
shaking_out s p n msg cd false false atn x end st there calm h =
    let t = there.target in
    target_end s p n true _ t.latency end st.devices calm h.linked h.phase.begun_is t.latency_is
    (moved _ _ (between_target s p n msg cd false atn x 0 t.latency h) (either _ _ _))

-- ---- by pulses

-- The initiator ends its pulse, or answers the oldest; where none waits the target pulses again, or leaves the phase.
pulsing_in : (s : ScenarioValue) (p : List Row) (n : Connection) (req ack atn : Bool) (y : ℕ) → IsEnded s p
    → Standing s p → AreThere s n → (bus p).rst ≡ false → Pulsing s p n true req ack atn 0 y → ⊥
pulsing_in s p n req ack atn y end st there calm h = go ack refl (length (handshakes p).waiting == 0) refl
  where
    t : HasDevice s n.target
    t = there.target

    i : HasDevice s n.initiator
    i = there.initiator

    go : (q : Bool) → ack ≡ q → (r : Bool) → (length (handshakes p).waiting == 0) ≡ r → ⊥
    go true on r e = initiator_end s p n true _ i.latency end st.devices calm h.linked h.phase.begun_is i.latency_is
        (moved _ _ (pulsed_initiator_in s p n req ack atn y i.latency h.offset)
        (answers_first ack (not (length (handshakes p).waiting == 0)) _ _ _ (record { row = _; is = refl })
        (record { row = _; is = refl }) (inl on)))
    go false off false e = initiator_end s p n true _ i.latency end st.devices calm h.linked
        h.phase.begun_is i.latency_is (moved _ _ (pulsed_initiator_in s p n req ack atn y i.latency h.offset)
        (answers_first ack (not (length (handshakes p).waiting == 0)) _ _ _ (record { row = _; is = refl })
        (record { row = _; is = refl }) (inr (ap not e))))
    go false off true e = target_end s p n true _ t.latency end st.devices calm h.linked h.phase.begun_is t.latency_is
        (moved _ _ (pulsed_target_in s p n req ack atn y t.latency h.offset h.facts.asked) (asks_next req _ _ _ _ _ _ _
        _ (record { row = _; is = refl }) (λ _. record { row = _; is = refl }) (record { row = _; is = refl }) (record {
          row = _;
          is = refl;
        }) (has_room (length (handshakes p).waiting) (offset_here p) e h.offset) (λ j. not (e j) || off j)))

pulsing_out : (s : ScenarioValue) (p : List Row) (n : Connection) (req ack atn : Bool) (x : ℕ) → IsEnded s p
    → Standing s p → AreThere s n → (bus p).rst ≡ false → Pulsing s p n false req ack atn x 0 → ⊥
pulsing_out s p n req ack atn x end st there calm h = go ack refl (length (handshakes p).waiting == 0) refl
  where
    t : HasDevice s n.target
    t = there.target

    i : HasDevice s n.initiator
    i = there.initiator

    go : (q : Bool) → ack ≡ q → (r : Bool) → (length (handshakes p).waiting == 0) ≡ r → ⊥
    go true on r e = initiator_end s p n true _ i.latency end st.devices calm h.linked h.phase.begun_is i.latency_is
        (moved _ _ (pulsed_initiator_out s p n req ack atn x i.latency h.offset) (answers_first ack
        (not (length (handshakes p).waiting == 0)) _ _ _ (record { row = _; is = refl }) (either _ _ _) (inl on)))
    go false off false e = initiator_end s p n true _ i.latency end st.devices calm h.linked h.phase.begun_is
        i.latency_is (moved _ _ (pulsed_initiator_out s p n req ack atn x i.latency h.offset)
        (answers_first ack (not (length (handshakes p).waiting == 0)) _ _ _ (record { row = _; is = refl })
        (either _ _ _) (inr (ap not e))))
    go false off true e = target_end s p n true _ t.latency end st.devices calm h.linked h.phase.begun_is t.latency_is
        (moved _ _ (pulsed_target_out s p n req ack atn x t.latency h.offset h.facts.asked)
        (asks_next req false (nat_lt (handshakes p).requests (run_count s p n))
        (nat_lt (length (handshakes p).waiting) (offset_here p)) (not (length (handshakes p).waiting == 0) || ack) _
        None _ _ (record { row = _; is = refl }) (λ z. wrong' z) (record { row = _; is = refl }) (record {
          row = _;
          is = refl;
        }) (has_room (length (handshakes p).waiting) (offset_here p) e h.offset) (λ j. not (e j) || off j)))

-- ---- any stage of a connection

pub goes_on : (s : ScenarioValue) (p : List Row) (n : Connection) → IsEnded s p → Standing s p → AreThere s n
    → (bus p).rst ≡ false → LinkStage s p n → ⊥
goes_on s p n end st there calm (when_selected h) =
    let t = there.target in
    target_end s p n false _ t.latency end st.devices calm h.linked h.begun_is t.latency_is
    (record { row = _; is = selected_target s p n t.latency })
goes_on s p n end st there calm (when_settling bsy atn msg cd io y h) =
    let t = there.target in
    target_end s p n true _ t.latency end st.devices calm h.linked h.phase.begun_is t.latency_is
    (record { row = _; is = settling_target s p n bsy atn msg cd io y t.latency h })
goes_on s p n end st there calm (when_turning atn x msg cd h) =
    let t = there.target in
    target_end s p n true _ t.latency end st.devices calm h.linked h.phase.begun_is t.latency_is
    (record { row = _; is = turning_target s p n atn x msg cd t.latency h })
goes_on s p n end st there calm (when_offering atn msg cd y h) =
    let t = there.target in
    target_end s p n true _ t.latency end st.devices calm h.linked h.phase.begun_is t.latency_is
    (record { row = _; is = offering_target s p n atn msg cd y t.latency h })
goes_on s p n end st there calm (when_shaking msg cd true req ack atn x y h) = shaking_in s p n msg cd req ack atn y end
    st there calm (subst (λ k. Shaking p n msg cd true req ack atn k y) h.side h)
goes_on s p n end st there calm (when_shaking msg cd false req ack atn x y h) = shaking_out s p n msg cd req ack atn x
    end st there calm (subst (λ k. Shaking p n msg cd false req ack atn x k) h.side h)
goes_on s p n end st there calm (when_pulsing true req ack atn x y h a) =
    pulsing_in s p n req ack atn y end st there calm (subst (λ k. Pulsing s p n true req ack atn k y) h.side h)
goes_on s p n end st there calm (when_pulsing false req ack atn x y h a) =
    pulsing_out s p n req ack atn x end st there calm (subst (λ k. Pulsing s p n false req ack atn x k) h.side h)
