use Rattle.std.proofs.Common.{ℕ, ◌≡◌, ◌∙◌, refl, sym, subst, set, get_or}
use Rattle.bus_base.specs.declared.Event.TheVariants as events
use Rattle.bus_base.specs.declared.ProcId.{ProcId}
use Rattle.due_model.specs.Wants.{since_of}
use Rattle.array_model.specs.Seats.{seat_of, seat_after_end}
use Rattle.target_units.specs.Units.{IsStep}
use Rattle.target_units.proofs.UnitSteps.{one_set, spare_stays, other_place, end_left}
use Rattle.target_units.proofs.units.Units.end.Goals as goal

pub returns-clause-array : goal.returns-clause-array
returns-clause-array c = λ s a b times p status h own same none st.
    let dev : ℕ = c.args.self.now.dev in
    let n : ℕ = c.args.unit in
    let same_units : c.self.inside.units ≡ c.args.self.now.units = λ i. (c.self.view_is i).units in
    let step : IsStep s (events.End p.id status) a b = subst
    (λ (k : ProcId). IsStep s (events.End k status) a b) (sym same) st in
    one_set s (events.End p.id status) a b times c.args.now dev n c.args.self.now.units c.self.inside.units
    (set c.self.inside.units n c.end.new.self) c.index-self-unit.result
    (get_or c.self.inside.units n c.index-self-unit.result) c.end.new.self _ c.requires.unit step h
    (λ m e. other_place s p dev n m own e) same_units refl refl (end_left s a b p status dev n step own)
    (λ after e k. c.end.ensures.seat s.hosts (seat_of a dev n) after (since_of a.units times dev n) status k none
    ((λ i. seat_after_end (sym same i) status (seat_of a dev n)) ∙ e)) (spare_stays s (events.End p.id status) a b dev n
    (get_or c.self.inside.units n c.index-self-unit.result) c.end.new.self step c.end.ensures.spare)
