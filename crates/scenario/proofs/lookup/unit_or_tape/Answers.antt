use Rattle.std.proofs.Common.{sym, ◌∙◌}
use Rattle.std.specs.Option.{option_or, option_map}
use Rattle.scenario.specs.Lookups.{tape_unit}
use Rattle.scenario.proofs.UnitLines.{line_is}
use Rattle.scenario.proofs.lookup.unit_or_tape.Goals as goal

pub returns : goal.returns
returns c = c.first_of.ensures
    ∙ (λ i. option_or (c.unit_line.ensures i) (option_map tape_unit (c.tape_line.ensures i)))
    ∙ sym (line_is c.args.units.now c.args.tapes.now c.args.target c.args.unit)
