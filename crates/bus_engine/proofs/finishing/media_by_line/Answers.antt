use Rattle.std.proofs.Common.{map, true}
use Rattle.scenario.specs.Lookups.{tape_unit}
use Rattle.bus_engine.proofs.Disks.{then_alone}
use Rattle.bus_engine.proofs.finishing.media_by_line.Goals as goal

pub returns-clause-held : goal.returns-clause-held
returns-clause-held c = λ on_disks on_tapes parted kinds apart.
    let there = map tape_unit c.args.lines.now in
    let first = c.in_ok-disks.ensures.held on_disks on_tapes there parted in
    let left = then_alone true c.disks.new.of_target there on_tapes first.1 kinds apart parted.others_within in
    (first.0, c.in_ok-tapes.ensures.held on_tapes left)
