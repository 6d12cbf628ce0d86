use Rattle.scenario.specs.declared.value.UnitDef.{UnitDef}
use Rattle.scenario.specs.Lookups.{tape_unit}
use Rattle.array_model.specs.Contents.{loaded_contents}
use Rattle.array_model.specs.Seats.{seat_of}
use Rattle.array_model.specs.Units.{starting_array}
use Rattle.disk_unit.specs.Held.{a_tape}
use Rattle.target_units.specs.Seated.{SeatedState, IsAtSeat}
use Rattle.target_units.specs.Fillings.{IsFresh, blocks_by_all}
use Rattle.target_units.proofs.Starts.{fresh_at, if_ok, tape_start}
use Rattle.target_units.proofs.seated.SeatedUnit.tape.Goals as goal

pub returns-clause-seat : goal.returns-clause-seat
returns-clause-seat c = λ s same tape picks there.
    let u : UnitDef = tape_unit c.args.def.now in
    if_ok (λ (made : SeatedState). IsFresh u c.args.pick (loaded_contents u c.args.loads.now)
    (blocks_by_all a_tape u c.args.commands.now) made)
    (λ (made : SeatedState). IsAtSeat s.hosts (seat_of (starting_array s) u.target u.unit) 0 made)
    (λ made h. fresh_at s u c.args.pick (loaded_contents u c.args.loads.now)
    (blocks_by_all a_tape u c.args.commands.now) made h (tape_start s u c.args.loads.now same tape) picks there)
    c.fresh_tape.result c.fresh_tape.ensures
