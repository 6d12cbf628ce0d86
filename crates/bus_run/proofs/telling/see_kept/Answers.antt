use Rattle.std.proofs.Common.{◌≤◌, None, arith}
use Rattle.bus_run.proofs.Told.{all_told, none_told}
use Rattle.bus_run.proofs.telling.see_kept.Goals as goal

pub returns : goal.returns
returns g c = λ s rows a none kept h.
    let all : 8 ≤ c.loop-dev.dev = omega (arith, c.loop-dev-test.false) in
    all_told g.D.Device.IsOf s rows c.args.row.now c.loop-dev.dev None c.loop-dev.places all
    (c.loop-dev.invariant s rows a none kept (none_told g.D.Device.IsOf s rows c.args.row.now c.args.places.now h))
