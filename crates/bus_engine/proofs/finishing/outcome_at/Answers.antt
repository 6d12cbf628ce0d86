use Rattle.std.proofs.Common.{◌<◌, length, arith}
use Rattle.bus_engine.proofs.EndedPlaces.{place_at, places_next}
use Rattle.bus_engine.proofs.finishing.outcome_at.Goals as goal

pub returns-clause-over : goal.returns-clause-over
returns-clause-over c = λ s rows h.
    let xs = c.args.places.now in
    let host = c.args.command.now.host in
    let inside : c.args.command.now.host < length c.args.places.now = omega
    (arith, c.requires.eight, c.requires.host) in
    places_next s rows c.args.number host xs c.outcome_in.new.place inside h
    (c.outcome_in.ensures.over s rows host c.args.number (omega arith)
    (place_at s rows host c.args.number xs c.index-places-command.result inside (h host c.requires.host)))
