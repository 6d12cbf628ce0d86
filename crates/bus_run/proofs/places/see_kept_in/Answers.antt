use Rattle.std.proofs.Common.{◌<◌, ◌∷◌, ◌∙◌, length, get_or, sym, arith}
use Rattle.bus_run.proofs.OnePlace.{read_at, own_in, in_at}
use Rattle.bus_run.proofs.places.see_kept_in.Goals as goal

pub returns-clause-seen : goal.returns-clause-seen
returns-clause-seen g c = λ s rows a none kept h.
    let xs = c.args.places.now in
    let i = c.args.dev in
    let x = c.index-places-dev.result in
    let inside : i < length xs = omega (arith, c.requires.eight, c.requires.place) in
    own_in g.D.Device.IsOf s (c.args.row.now ∷ rows) xs i c.see_place_kept.new.place inside
    (c.see_place_kept.ensures s rows a none kept (in_at g.D.Device.IsOf s rows xs i (get_or xs i x)
    (sym c.index-places-dev.is ∙ read_at xs i x inside c.index-places-dev.is) h))
