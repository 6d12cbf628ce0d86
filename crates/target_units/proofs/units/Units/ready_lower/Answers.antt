use Rattle.std.proofs.Common.{◌∙◌}
use Rattle.target_units.specs.Units.{first_unit}
use Rattle.target_units.proofs.units.Units.ready_lower.Goals as goal

pub returns : goal.returns
returns c = λ s a times sound h early.
    let fourth = c.first.ensures ∙ (λ i. first_unit (c.ready_at-4.ensures s a times sound h early i) c.args.upper) in
    let third = c.first-2.ensures ∙ (λ i. first_unit (c.ready_at-3.ensures s a times sound h early i) (fourth i)) in
    let second = c.first-3.ensures ∙ (λ i. first_unit (c.ready_at-2.ensures s a times sound h early i) (third i)) in
    c.first-4.ensures ∙ (λ i. first_unit (c.ready_at.ensures s a times sound h early i) (second i))
