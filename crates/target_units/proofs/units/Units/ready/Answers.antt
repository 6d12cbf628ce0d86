use Rattle.std.proofs.Common.{ℕ, ◌∙◌}
use Rattle.due_model.specs.Wants.{ready_at}
use Rattle.target_units.specs.Readies.{ready_unit}
use Rattle.target_units.specs.Units.{first_unit}
use Rattle.target_units.proofs.UnitTellings.{eight_first}
use Rattle.target_units.proofs.units.Units.ready.Goals as goal

pub returns : goal.returns
returns c = λ s a times sound h early.
    let seek : ℕ = c.args.self.now.seek in
    let dev : ℕ = c.args.self.now.dev in
    c.ready_lower.ensures s a times sound h early ∙ (λ i. first_unit (ready_unit (ready_at a times seek dev 0))
    (first_unit (ready_unit (ready_at a times seek dev 1)) (first_unit (ready_unit (ready_at a times seek dev 2))
    (first_unit (ready_unit (ready_at a times seek dev 3)) (c.ready_upper.ensures s a times sound h early i)))))
    ∙ eight_first (ready_at a times seek dev 0) (ready_at a times seek dev 1) (ready_at a times seek dev 2)
    (ready_at a times seek dev 3) (ready_at a times seek dev 4) (ready_at a times seek dev 5)
    (ready_at a times seek dev 6) (ready_at a times seek dev 7)
