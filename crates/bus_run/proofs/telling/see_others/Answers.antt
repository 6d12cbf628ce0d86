use Rattle.std.proofs.Common.{◌≤◌, arith}
use Rattle.bus_run.proofs.Told.{all_told}
use Rattle.bus_run.proofs.telling.see_others.Goals as goal

pub returns : goal.returns
returns g c = λ s rows a e l h.
    let all : 8 ≤ c.loop-dev.dev = omega (arith, c.loop-dev-test.false) in
    all_told g.D.Device.IsOf s rows c.args.news.now.row.now c.loop-dev.dev c.args.one c.loop-dev.places all
    (c.loop-dev.invariant s rows a e l h)
