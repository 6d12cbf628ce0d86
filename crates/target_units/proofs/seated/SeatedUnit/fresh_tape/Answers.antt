use Rattle.std.proofs.Common.{◌∙◌}
use Rattle.scenario.specs.Lookups.{tape_unit}
use Rattle.disk_unit.specs.Held.{a_tape}
use Rattle.tape_unit.specs.Tape.{blank_tape}
use Rattle.target_units.specs.Fillings.{blocks_by_all}
use Rattle.target_units.proofs.Loading.{AllFit, IsBlank, all_fit}
use Rattle.target_units.proofs.seated.SeatedUnit.fresh_tape.Goals as goal

pub load-requires : goal.load-requires
load-requires c =
    let written = blocks_by_all a_tape (tape_unit c.args.def.now) c.args.commands.now in
    let blank : IsBlank c.args.def.now c.args.loads.now written c.in_ok-tape.tape = c.in_ok-tape.ensures
    ∙ (λ i. record {
      tape = blank_tape c.args.def.now.objects c.args.def.now.size;
      spare = c.in_ok-blocks.ensures i;
    }) in
    let fits : AllFit c.args.def.now c.args.loads.now c.in_ok-tape.tape = all_fit c.args.def.now c.args.loads.now
    written c.in_ok-tape.tape c.requires.loaded blank in
    record { whole = fits.whole; room = fits.room; spare = fits.spare }
