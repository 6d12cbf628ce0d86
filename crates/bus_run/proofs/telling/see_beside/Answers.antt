use Rattle.std.proofs.Common.{None, refl}
use Rattle.bus_run.proofs.Told.{told}
use Rattle.bus_run.proofs.telling.see_beside.Goals as goal

pub returns : goal.returns
returns g c = λ s rows a none kept h. told g.D.Device.IsOf s rows c.args.row.now
    c.args.dev None c.args.places.now c.see_kept_in.new.places c.requires.place refl
    (c.see_kept_in.ensures.seen s rows a none kept) c.see_kept_in.ensures.others h
