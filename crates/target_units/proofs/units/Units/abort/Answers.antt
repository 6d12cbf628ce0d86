use Rattle.std.proofs.Common.{ℕ, ◌≡◌, refl, set, get_or}
use Rattle.bus_base.specs.declared.Event.TheVariants as events
use Rattle.due_model.specs.Wants.{since_of}
use Rattle.array_model.specs.Seats.{seat_of, seat_after_aborted}
use Rattle.target_units.proofs.UnitSteps.{one_set, spare_stays, elsewhere_abort, abort_left, by_after}
use Rattle.target_units.proofs.units.Units.abort.Goals as goal

pub returns-clause-array : goal.returns-clause-array
returns-clause-array c = λ s a b times h one st.
    let dev : ℕ = c.args.self.now.dev in
    let n : ℕ = c.args.unit in
    let same_units : c.self.inside.units ≡ c.args.self.now.units = λ i. (c.self.view_is i).units in
    one_set s (events.Aborted c.args.by dev n c.args.kind) a b times c.args.now dev n c.args.self.now.units
    c.self.inside.units (set c.self.inside.units n c.abort.new.self) c.index-self-unit.result
    (get_or c.self.inside.units n c.index-self-unit.result) c.abort.new.self _ c.requires.unit st h
    (λ m e. elsewhere_abort s c.args.by dev n m c.args.kind one e) same_units refl refl
    (abort_left s a b c.args.by dev n c.args.kind st) (λ after e k. by_after s.hosts (seat_of a dev n)
    (seat_after_aborted s.hosts c.args.by c.args.kind (seat_of a dev n)) after (since_of a.units times dev n)
    c.args.now c.abort.new.self e (c.abort.ensures.seat s.hosts (seat_of a dev n) (since_of a.units times dev n) k))
    (spare_stays s (events.Aborted c.args.by dev n c.args.kind) a b dev n
    (get_or c.self.inside.units n c.index-self-unit.result) c.abort.new.self st c.abort.ensures.spare)
