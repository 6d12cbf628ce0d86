use Rattle.array_model.specs.Contents.{starting_contents}
use Rattle.array_model.specs.Seats.{seat_of}
use Rattle.array_model.specs.Units.{starting_array}
use Rattle.disk_unit.specs.Held.{disk_of}
use Rattle.target_units.specs.Seated.{SeatedState, IsAtSeat}
use Rattle.target_units.specs.Fillings.{IsFresh, blocks_by_all}
use Rattle.target_units.proofs.Starts.{disk_start, fresh_at, if_ok}
use Rattle.target_units.proofs.seated.SeatedUnit.new.Goals as goal

pub returns-clause-seat : goal.returns-clause-seat
returns-clause-seat c = λ s same plain picks there. if_ok (λ (made : SeatedState). IsFresh c.args.def.now c.args.pick
    (starting_contents c.args.def.now c.args.fills.now)
    (blocks_by_all (disk_of c.args.def.now.blocks) c.args.def.now c.args.commands.now) made)
    (λ (made : SeatedState). IsAtSeat s.hosts
    (seat_of (starting_array s) c.args.def.now.target c.args.def.now.unit) 0 made)
    (λ made h. fresh_at s c.args.def.now c.args.pick (starting_contents c.args.def.now c.args.fills.now)
    (blocks_by_all (disk_of c.args.def.now.blocks) c.args.def.now c.args.commands.now) made h
    (disk_start s c.args.def.now c.args.fills.now same plain) picks there) c.fresh.result c.fresh.ensures
