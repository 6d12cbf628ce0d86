use Rattle.std.proofs.Common.{ℕ, ◌∙◌}
use Rattle.array_model.specs.Seats.{seat_of}
use Rattle.due_model.specs.Wants.{since_of}
use Rattle.target_units.proofs.Rooms.{reeled_at}
use Rattle.target_units.proofs.UnitSteps.{unit_seen}
use Rattle.target_units.proofs.units.Units.is_serial.Goals as goal

pub returns : goal.returns
returns c = λ s a times h.
    let dev : ℕ = c.args.self.now.dev in
    let n : ℕ = c.args.unit in
    let seen = unit_seen s a times dev n c.args.self.now.units c.self.inside.units
    c.index-self-unit.result c.requires.unit h (λ i. (c.self.view_is i).units) in
    c.is_serial.ensures s.hosts (seat_of a dev n) (since_of a.units times dev n) seen
    ∙ reeled_at s a dev n h.room.lines h.room.kinds
