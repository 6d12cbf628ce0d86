use Rattle.std.proofs.Common.{ℕ, ◌≡◌, ◌∙◌, refl, sym, subst, set, get_or}
use Rattle.bus_base.specs.declared.Event.TheVariants as events
use Rattle.bus_base.specs.declared.ProcId.{ProcId}
use Rattle.due_model.specs.Wants.{since_of}
use Rattle.array_model.specs.Seats.{seat_of, seat_after_loss}
use Rattle.target_units.specs.Units.{IsStep}
use Rattle.target_units.proofs.UnitSteps.{one_set, spare_stays, other_place, loss_left}
use Rattle.array_model.specs.Steps.{has_ended}
use Rattle.target_units.proofs.units.Units.lose.Goals as goal

pub returns-clause-array : goal.returns-clause-array
returns-clause-array c = λ s a b times p h own same st.
    let dev : ℕ = c.args.self.now.dev in
    let n : ℕ = c.args.unit in
    let same_units : c.self.inside.units ≡ c.args.self.now.units = λ i. (c.self.view_is i).units in
    let step : IsStep s (events.Lost p.id) a b = subst (λ (k : ProcId). IsStep s (events.Lost k) a b) (sym same) st in
    one_set s (events.Lost p.id) a b times c.args.now dev n c.args.self.now.units c.self.inside.units
    (set c.self.inside.units n c.lose.new.self) c.index-self-unit.result
    (get_or c.self.inside.units n c.index-self-unit.result) c.lose.new.self _ c.requires.unit step h
    (λ m e. other_place s p dev n m own e) same_units refl refl (loss_left s a b p dev n step own)
    (λ after e k. c.lose.ensures.seat s.hosts (seat_of a dev n) after (since_of a.units times dev n) (has_ended a p.id)
    k ((λ i. seat_after_loss (has_ended a p.id) (sym same i) (seat_of a dev n)) ∙ e)) (spare_stays s (events.Lost p.id)
    a b dev n (get_or c.self.inside.units n c.index-self-unit.result) c.lose.new.self step c.lose.ensures.spare)
