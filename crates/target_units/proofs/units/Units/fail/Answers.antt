use Rattle.std.proofs.Common.{ℕ, ◌≡◌, refl, sym, subst, set, get_or}
use Rattle.bus_base.specs.declared.Event.TheVariants as events
use Rattle.bus_base.specs.declared.ProcId.{ProcId}
use Rattle.due_model.specs.Wants.{since_of}
use Rattle.array_model.specs.Seats.{seat_of}
use Rattle.target_units.specs.Units.{IsStep}
use Rattle.target_units.proofs.UnitSteps.{one_set, spare_stays, other_place, fail_left}
use Rattle.array_model.specs.Steps.{has_ended}
use Rattle.target_units.proofs.units.Units.fail.Goals as goal

pub returns-clause-array : goal.returns-clause-array
returns-clause-array c = λ s a b times p h own same st.
    let dev : ℕ = c.args.self.now.dev in
    let n : ℕ = c.args.unit in
    let same_units : c.self.inside.units ≡ c.args.self.now.units = λ i. (c.self.view_is i).units in
    let step : IsStep s (events.Fail p.id c.args.code) a b = subst
    (λ (k : ProcId). IsStep s (events.Fail k c.args.code) a b) (sym same) st in
    one_set s (events.Fail p.id c.args.code) a b times c.args.now dev n c.args.self.now.units c.self.inside.units
    (set c.self.inside.units n c.fail.new.self) c.index-self-unit.result
    (get_or c.self.inside.units n c.index-self-unit.result) c.fail.new.self _ c.requires.unit step h
    (λ m e. other_place s p dev n m own e) same_units refl refl (fail_left s a b p c.args.code dev n step own)
    (λ after e k. c.fail.ensures.seat s.hosts (seat_of a dev n) after (since_of a.units times dev n)
    (has_ended a p.id) p k same e) (spare_stays s (events.Fail p.id c.args.code) a b dev n
    (get_or c.self.inside.units n c.index-self-unit.result) c.fail.new.self step c.fail.ensures.spare)
