-- In a connection nothing that is due lies in the past.
use Rattle.link_laws.proofs
use proofs.Names.{ℕ, ◌≡◌, ◌≤◌, ◌+◌, Bool, true, false, ◌&&◌, ◌==◌, ◌∙◌, List, Option, Some, None, refl, sym, subst}
use proofs.Names.{arith, inl, inr, cases_Bool, none-some, if◌then◌else◌, max, zero_of, LineSet, last_time, line_times}
use proofs.Names.{Row, Connection, ScenarioValue, due_at, Due, AreOfDevices, is_at, target_side, own_time, unreset_due}
use proofs.Names.{LinkStage, when_selected, when_settling, when_turning, when_offering, when_shaking, when_pulsing}
use proofs.{Names.{ends, Turning, Settling, Shaking, Pulsing, EndsAhead}, Dues.Ends.{target_plain, offering_with}}
use proofs.Dues.{Ends.{ends_ahead}, Stages.{selected_target, selected_initiator, settling_target, settling_initiator}}
use proofs.Dues.Stages.{handing_initiator, turning_target, turned_initiator, owing_initiator, offering_target}
use proofs.Dues.Stages.{offering_initiator, answered_target, answered_initiator_in, answered_initiator_out}
use proofs.Dues.Stages.{asking_target, asking_initiator_in, asking_initiator_out, giving_initiator_out, ending_target}
use proofs.Dues.Stages.{ending_initiator_in, ending_initiator_out, ack_end_time, between_target, between_initiator_in}
use proofs.{Dues.Stages.{between_initiator_out}, Pulses.Ahead.{target_time_in, target_time_out, initiator_time_in}}
use proofs.Pulses.Ahead.{initiator_time_out}

pub at_time : (plain : Option Due) (time : ℕ) (l : LineSet) (x : Due) → plain ≡ due_at time l → plain ≡ Some x
    → x.time ≡ time
at_time plain time l x e f = (is_at time l x (sym e ∙ f)).time_is

pub never : (plain : Option Due) (x : Due) → plain ≡ None → plain ≡ Some x → ⊥
never plain x e f = none-some x (sym e ∙ f)

ack_end_late : (p : List Row) (atn : Bool) → (line_times p).req ≤ ack_end_time p atn
ack_end_late p atn =
    elim (cases_Bool (atn && (line_times p).atn == (line_times p).ack)) [
      | inl e ↦ rw e (omega arith)
      | inr e ↦ rw e (omega arith)
    ]

-- Byte by byte the target goes on with a byte, or leaves the phase.
between_ahead : (s : ScenarioValue) (p : List Row) (n : Connection) (msg cd io atn : Bool) (x y : ℕ)
    → Shaking p n msg cd io false false atn x y → (lat : ℕ) (z : Due)
    → target_plain s p n true (ends false false atn x msg cd io false y) lat ≡ Some z → last_time p ≤ z.time
between_ahead s p n msg cd io atn x y h lat z e =
    let g = offering_with s p n true (ends false false atn x msg cd io false y) in
    go g.follows io g.wait (target_side (ends false false atn x msg cd io true y)) g.to
    (sym (between_target s p n msg cd io atn x y lat h) ∙ e)
  where
    go : (q i : Bool) (wait : ℕ) (l m : LineSet) → (if q
        then due_at ((if i then max (line_times p).ack (own_time p n.target + 55) else (line_times p).ack) + lat) l
        else due_at ((line_times p).ack + lat + wait) m) ≡ Some z
        → last_time p ≤ z.time
    go true true wait l m f =
        let w = (is_at (max (line_times p).ack (own_time p n.target + 55) + lat) l z f).time_is in
        let u = h.fresh in
        omega arith
    go true false wait l m f =
        let w = (is_at ((line_times p).ack + lat) l z f).time_is in
        let u = h.fresh in
        omega arith
    go false i wait l m f =
        let w = (is_at ((line_times p).ack + lat + wait) m z f).time_is in
        let u = h.fresh in
        omega arith

abbrev Ahead : ScenarioValue → List Row → Type 0
Ahead s p = (d : ℕ) (x : Due) → unreset_due s p d ≡ Some x → last_time p ≤ x.time

shaking_in : (s : ScenarioValue) (p : List Row) (n : Connection) (msg cd req ack atn : Bool) (y : ℕ) → AreOfDevices p
    → Shaking p n msg cd true req ack atn 0 y → Ahead s p
shaking_in s p n msg cd true true atn y d h = ends_ahead s p n true _ d h.linked h.phase.begun_is
    (λ lat there x e. absurd (never _ x (answered_initiator_in s p n msg cd atn y lat h) e))
    (λ lat there x e. let w = at_time _ _ _ x (answered_target s p n msg cd true atn 0 y lat h) e in let u = h.fresh in
    omega arith)
shaking_in s p n msg cd true false atn y d h = ends_ahead s p n true _ d h.linked h.phase.begun_is
    (λ lat there x e. let w = at_time _ _ _ x (asking_initiator_in s p n msg cd atn y lat h) e in let u = h.fresh in
    omega arith) (λ lat there x e. absurd (never _ x (asking_target s p n msg cd true atn 0 y lat h) e))
shaking_in s p n msg cd false true atn y d h = ends_ahead s p n true _ d h.linked h.phase.begun_is
    (λ lat there x e. let w = at_time _ _ _ x (ending_initiator_in s p n msg cd atn y lat h) e in
    let u = h.fresh in let v = ack_end_late p atn in omega arith)
    (λ lat there x e. absurd (never _ x (ending_target s p n msg cd true atn 0 y lat h) e))
shaking_in s p n msg cd false false atn y d h =
    ends_ahead s p n true _ d h.linked h.phase.begun_is
    (λ lat there x e. absurd (never _ x (between_initiator_in s p n msg cd atn y lat h) e))
    (λ lat there x e. between_ahead s p n msg cd true atn 0 y h lat x e)

shaking_out : (s : ScenarioValue) (p : List Row) (n : Connection) (msg cd req ack atn : Bool) (x : ℕ) → AreOfDevices p
    → Shaking p n msg cd false req ack atn x 0 → Ahead s p
shaking_out s p n msg cd true true atn x d h = ends_ahead s p n true _ d h.linked h.phase.begun_is
    (λ lat there z e. absurd (never _ z (answered_initiator_out s p n msg cd atn x lat h) e))
    (λ lat there z e. let w = at_time _ _ _ z (answered_target s p n msg cd false atn x 0 lat h) e in let u = h.fresh in
    omega arith)
shaking_out s p n msg cd true false atn x d h = go (x == 0) refl
  where
    go : (q : Bool) → (x == 0) ≡ q → Ahead s p
    go true none =
        let at_zero = subst (λ z. Shaking p n msg cd false true false atn z 0) (zero_of x none) h in
        ends_ahead s p n true _ d at_zero.linked at_zero.phase.begun_is
        (λ lat there z e. let w = at_time _ _ _ z (asking_initiator_out s p n msg cd atn lat at_zero) e in
        let u = at_zero.fresh in omega arith)
        (λ lat there z e. absurd (never _ z (asking_target s p n msg cd false atn 0 0 lat at_zero) e))
    go false some = ends_ahead s p n true _ d h.linked h.phase.begun_is
        (λ lat there z e. let w = at_time _ _ _ z (giving_initiator_out s p n msg cd atn x lat h some) e in
        let u = subst (λ q. last_time p ≤ (if q then (line_times p).req else own_time p n.initiator)) some h.fresh in
        late (msg && cd && true) lat z w u)
        (λ lat there z e. absurd (never _ z (asking_target s p n msg cd false atn x 0 lat h) e))
      where
        late : (q : Bool) (lat : ℕ) (z : Due) → z.time
            ≡ (if q then max (own_time p n.initiator + 55) ((line_times p).atn + 90) else own_time p n.initiator + 55)
            + lat → last_time p ≤ own_time p n.initiator → last_time p ≤ z.time
        late true lat z w u = omega arith
        late false lat z w u = omega arith
shaking_out s p n msg cd false true atn x d h = ends_ahead s p n true _ d h.linked h.phase.begun_is
    (λ lat there z e. let w = at_time _ _ _ z (ending_initiator_out s p n msg cd atn x lat h) e in
    let u = h.fresh in let v = ack_end_late p atn in omega arith)
    (λ lat there z e. absurd (never _ z (ending_target s p n msg cd false atn x 0 lat h) e))
shaking_out s p n msg cd false false atn x d h =
    ends_ahead s p n true _ d h.linked h.phase.begun_is
    (λ lat there z e. absurd (never _ z (between_initiator_out s p n msg cd atn x lat h) e))
    (λ lat there z e. between_ahead s p n msg cd false atn x 0 h lat z e)

settling_ahead : (s : ScenarioValue) (p : List Row) (n : Connection) (bsy atn msg cd io : Bool) (y : ℕ) → AreOfDevices p
    → Settling p n bsy atn msg cd io y → Ahead s p
settling_ahead s p n true atn msg cd io y d h = ends_ahead s p n true _ d h.linked h.phase.begun_is
    (λ lat there x e. let w = at_time _ _ _ x (handing_initiator s p n atn msg cd io y lat) e in
    let u = (h.hands refl).2 in omega arith)
    (λ lat there x e. let w = at_time _ _ _ x (settling_target s p n true atn msg cd io y lat h) e in let u = h.fresh in
    omega arith)
settling_ahead s p n false atn msg cd io y d h = ends_ahead s p n true _ d h.linked h.phase.begun_is
    (λ lat there x e. absurd (never _ x (settling_initiator s p n atn msg cd io y lat h) e))
    (λ lat there x e. let w = at_time _ _ _ x (settling_target s p n false atn msg cd io y lat h) e in
    let u = h.fresh in omega arith)

turning_ahead : (s : ScenarioValue) (p : List Row) (n : Connection) (atn : Bool) (x : ℕ) (msg cd : Bool)
    → AreOfDevices p → Turning s p n atn x msg cd → Ahead s p
turning_ahead s p n atn x msg cd d h = go (x == 0) refl
  where
    go : (q : Bool) → (x == 0) ≡ q → Ahead s p
    go true none =
        let at_zero = subst (λ z. Turning s p n atn z msg cd) (zero_of x none) h in
        ends_ahead s p n true _ d at_zero.linked at_zero.phase.begun_is
        (λ lat there z e. absurd (never _ z (turned_initiator s p n atn msg cd lat at_zero) e))
        (λ lat there z e. let w = at_time _ _ _ z (turning_target s p n atn 0 msg cd lat at_zero) e in
        let u = at_zero.fresh in omega arith)
    go false some = ends_ahead s p n true _ d h.linked h.phase.begun_is
        (λ lat there z e. let w = at_time _ _ _ z (owing_initiator s p n atn x msg cd lat h some) e in
        let u = (h.owed some).ahead lat there in omega arith)
        (λ lat there z e. let w = at_time _ _ _ z (turning_target s p n atn x msg cd lat h) e in let u = h.fresh in
        omega arith)

pulsing_in : (s : ScenarioValue) (p : List Row) (n : Connection) (req ack atn : Bool) (y : ℕ) → AreOfDevices p
    → Pulsing s p n true req ack atn 0 y → EndsAhead s p n true req ack atn 0 y → Ahead s p
pulsing_in s p n req ack atn y d h a = ends_ahead s p n true _ d h.linked h.phase.begun_is
    (λ lat there x e. a.initiator lat there x.time
    (initiator_time_in s p n req ack atn y lat x (record { offset = h.offset; asked = h.facts.asked }) e))
    (λ lat there x e. a.target lat there x.time
    (target_time_in s p n req ack atn y lat x (record { offset = h.offset; asked = h.facts.asked }) e))

pulsing_out : (s : ScenarioValue) (p : List Row) (n : Connection) (req ack atn : Bool) (x : ℕ) → AreOfDevices p
    → Pulsing s p n false req ack atn x 0 → EndsAhead s p n false req ack atn x 0 → Ahead s p
pulsing_out s p n req ack atn x d h a = ends_ahead s p n true _ d h.linked h.phase.begun_is
    (λ lat there z e. a.initiator lat there z.time
    (initiator_time_out s p n req ack atn x lat z h.linked (record { offset = h.offset; asked = h.facts.asked }) e))
    (λ lat there z e. a.target lat there z.time
    (target_time_out s p n req ack atn x lat z (record { offset = h.offset; asked = h.facts.asked }) e))

pub stage_ahead : (s : ScenarioValue) (p : List Row) (n : Connection) → AreOfDevices p → LinkStage s p n → Ahead s p
stage_ahead s p n d (when_selected h) =
    ends_ahead s p n false _ d h.linked h.begun_is
    (λ lat there x e. absurd (never _ x (selected_initiator s p n lat) e))
    (λ lat there x e. let w = at_time _ _ _ x (selected_target s p n lat) e in let u = h.sel_age in omega arith)
stage_ahead s p n d (when_settling bsy atn msg cd io y h) = settling_ahead s p n bsy atn msg cd io y d h
stage_ahead s p n d (when_turning atn x msg cd h) = turning_ahead s p n atn x msg cd d h
stage_ahead s p n d (when_offering atn msg cd y h) = ends_ahead s p n true _ d h.linked h.phase.begun_is
    (λ lat there x e. absurd (never _ x (offering_initiator s p n atn msg cd y lat h) e))
    (λ lat there x e. let w = at_time _ _ _ x (offering_target s p n atn msg cd y lat h) e in let u = h.fresh in
    omega arith)
stage_ahead s p n d (when_shaking msg cd true req ack atn x y h) =
    shaking_in s p n msg cd req ack atn y d (subst (λ z. Shaking p n msg cd true req ack atn z y) h.side h)
stage_ahead s p n d (when_shaking msg cd false req ack atn x y h) =
    shaking_out s p n msg cd req ack atn x d (subst (λ z. Shaking p n msg cd false req ack atn x z) h.side h)
stage_ahead s p n d (when_pulsing true req ack atn x y h a) = pulsing_in s p n req ack atn y d (subst
    (λ k. Pulsing s p n true req ack atn k y) h.side h) (subst (λ k. EndsAhead s p n true req ack atn k y) h.side a)
stage_ahead s p n d (when_pulsing false req ack atn x y h a) = pulsing_out s p n req ack atn x d
    (subst (λ k. Pulsing s p n false req ack atn x k) h.side h)
    (subst (λ k. EndsAhead s p n false req ack atn x k) h.side a)
