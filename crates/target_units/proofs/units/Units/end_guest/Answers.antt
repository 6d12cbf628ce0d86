use Rattle.std.proofs.Common.{ℕ, ◌≡◌, refl, set, get_or}
use Rattle.bus_base.specs.declared.Event.TheVariants as events
use Rattle.due_model.specs.Wants.{since_of}
use Rattle.array_model.specs.Seats.{seat_of}
use Rattle.target_units.proofs.UnitSteps.{one_set, spare_stays, other_place, end_left}
use Rattle.target_units.proofs.units.Units.end_guest.Goals as goal

pub returns-clause-array : goal.returns-clause-array
returns-clause-array c = λ s a b times p given status h own g from told sense st.
    let dev : ℕ = c.args.self.now.dev in
    let n : ℕ = c.args.unit in
    let same_units : c.self.inside.units ≡ c.args.self.now.units = λ i. (c.self.view_is i).units in
    one_set s (events.End p.id status) a b times c.args.now dev n c.args.self.now.units c.self.inside.units
    (set c.self.inside.units n c.end_guest.new.self) c.index-self-unit.result
    (get_or c.self.inside.units n c.index-self-unit.result) c.end_guest.new.self _ c.requires.unit st h
    (λ m e. other_place s p dev n m own e) same_units refl refl (end_left s a b p status dev n st own)
    (λ after e k. c.end_guest.ensures.seat s.hosts (seat_of a dev n) after (since_of a.units times dev n)
    status p.id p given k g from told sense e) (spare_stays s (events.End p.id status) a b dev n
    (get_or c.self.inside.units n c.index-self-unit.result) c.end_guest.new.self st c.end_guest.ensures.spare)
