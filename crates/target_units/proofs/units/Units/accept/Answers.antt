use Rattle.std.proofs.Common.{ℕ, ◌≡◌, ◌∙◌, refl, sym, subst, set, get_or}
use Rattle.bus_base.specs.declared.Event.TheVariants as events
use Rattle.bus_base.specs.declared.ProcId.{ProcId}
use Rattle.due_model.specs.Wants.{since_of}
use Rattle.array_model.specs.Seats.{seat_of}
use Rattle.array_model.specs.Steps.{step}
use Rattle.target_units.specs.Units.{IsStep}
use Rattle.target_units.proofs.Rooms.{kind_at}
use Rattle.target_units.proofs.UnitSteps.{one_set, spare_stays, other_place, accept_left, refuse_left, unit_seen}
use Rattle.target_units.proofs.UnitSteps.{accept_none}
use Rattle.target_units.proofs.units.Units.accept.Goals as goal

pub returns-clause-array : goal.returns-clause-array
returns-clause-array c = λ s a b times p h own words new st.
    let dev : ℕ = c.args.self.now.dev in
    let n : ℕ = c.args.served.now.unit in
    let same_units : c.self.inside.units ≡ c.args.self.now.units = λ i. (c.self.view_is i).units in
    let step : IsStep s (events.Accept p.id) a b = subst
    (λ (k : ProcId). IsStep s (events.Accept k) a b) (sym words.id_is) st in
    one_set s (events.Accept p.id) a b times c.args.now dev n c.args.self.now.units c.self.inside.units
    (set c.self.inside.units n c.accept.new.self) c.index-self-unit.result
    (get_or c.self.inside.units n c.index-self-unit.result) c.accept.new.self _ c.requires.unit step h
    (λ m e. other_place s p dev n m own e) same_units refl refl (accept_left s a b p dev n step own)
    (λ after e k. c.accept.ensures.accepts s.hosts (seat_of a dev n) after
    (since_of a.units times dev n) p k words (kind_at s a dev n p h.room.kinds own) new e)
    (spare_stays s (events.Accept p.id) a b dev n
    (get_or c.self.inside.units n c.index-self-unit.result) c.accept.new.self step c.accept.ensures.spare)

pub returns-clause-refuses : goal.returns-clause-refuses
returns-clause-refuses c = λ s a b times p h own words new st.
    let dev : ℕ = c.args.self.now.dev in
    let n : ℕ = c.args.served.now.unit in
    let same_units : c.self.inside.units ≡ c.args.self.now.units = λ i. (c.self.view_is i).units in
    let step : IsStep s (events.Refuse p.id) a b = subst
    (λ (k : ProcId). IsStep s (events.Refuse k) a b) (sym words.id_is) st in
    one_set s (events.Refuse p.id) a b times c.args.now dev n c.args.self.now.units c.self.inside.units
    (set c.self.inside.units n c.accept.new.self) c.index-self-unit.result
    (get_or c.self.inside.units n c.index-self-unit.result) c.accept.new.self _ c.requires.unit step h
    (λ m e. other_place s p dev n m own e) same_units refl refl (refuse_left s a b p dev n step own)
    (λ after e k. c.accept.ensures.refuses s.hosts (seat_of a dev n) after
    (since_of a.units times dev n) p k words new e) (spare_stays s (events.Refuse p.id) a b dev n
    (get_or c.self.inside.units n c.index-self-unit.result) c.accept.new.self step c.accept.ensures.spare)

pub returns-clause-full : goal.returns-clause-full
returns-clause-full c = λ s a times p h own words new seats sound full.
    let dev : ℕ = c.args.self.now.dev in
    let n : ℕ = c.args.served.now.unit in
    let seen = unit_seen s a times dev n c.args.self.now.units c.self.inside.units
    c.index-self-unit.result c.requires.unit h (λ i. (c.self.view_is i).units) in
    (λ i. step s (events.Accept (sym words.id_is i)) a) ∙ accept_none s a p dev n seats sound own
    (c.accept.ensures.full s.hosts (seat_of a dev n) (since_of a.units times dev n) p seen words new full)

pub returns-clause-refused : goal.returns-clause-refused
returns-clause-refused c = λ s a b times p h own words st.
    let dev : ℕ = c.args.self.now.dev in
    let n : ℕ = c.args.served.now.unit in
    let seen = unit_seen s a times dev n c.args.self.now.units c.self.inside.units
    c.index-self-unit.result c.requires.unit h (λ i. (c.self.view_is i).units) in
    let step : IsStep s (events.Refuse p.id) a b = subst
    (λ (k : ProcId). IsStep s (events.Refuse k) a b) (sym words.id_is) st in
    let left = refuse_left s a b p dev n step own in
    c.accept.ensures.refused s.hosts (seat_of a dev n) left.seat (since_of a.units times dev n) p seen words left.is
