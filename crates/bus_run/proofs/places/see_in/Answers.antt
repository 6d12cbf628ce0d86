use Rattle.std.proofs.Common.{◌<◌, ◌∷◌, ◌∙◌, length, get_or, sym, arith}
use Rattle.bus_run.proofs.OnePlace.{read_at, own_in, in_at}
use Rattle.bus_run.proofs.places.see_in.Goals as goal

pub returns-clause-seen : goal.returns-clause-seen
returns-clause-seen g c = λ s rows a e l h.
    let xs = c.args.places.now in
    let i = c.args.dev in
    let x = c.index-places-dev.result in
    let inside : i < length xs = omega (arith, c.requires.eight, c.requires.place) in
    own_in g.D.Device.IsOf s (c.args.row.now ∷ rows) xs i c.see_place.new.place inside
    (c.see_place.ensures s rows i a e l (in_at g.D.Device.IsOf s rows xs i (get_or xs i x)
    (sym c.index-places-dev.is ∙ read_at xs i x inside c.index-places-dev.is) h))
