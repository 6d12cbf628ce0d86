use Rattle.std.proofs.Common.{◌<◌, sym, length, arith}
use Rattle.due_model.specs.Next.{due}
use Rattle.bus_run.specs.Away.{due_besides}
use Rattle.bus_run.proofs.Firsts.{least_none}
use Rattle.bus_run.proofs.OnePlace.{read_at, in_at}
use Rattle.bus_run.proofs.Sooner.{asked_more}
use Rattle.bus_run.proofs.asking.first_besides.Goals as goal

pub loop-dev-init : goal.loop-dev-init
loop-dev-init g c =
    record { first = λ s rows a p f. sym (least_none (due_besides c.args.connection.now (due s rows))); device = tt }

pub loop-dev-preserved : goal.loop-dev-preserved
loop-dev-preserved g c =
    let i = c.loop-dev.dev in
    let xs = c.args.places.now in
    let x = c.index-places-dev.result in
    let inside : i < length xs = omega (arith, c.requires.eight, c.loop-dev-test.true) in
    let at = read_at xs i x inside c.index-places-dev.is in
    record {
      first = λ s rows a p f.
          asked_more (due_besides c.args.connection.now (due s rows)) i c.loop-dev.first c.ask_besides.new.first
          (c.ask_besides.ensures.exact s rows a (in_at g.D.Device.IsOf s rows xs i x at (p i c.loop-dev-test.true)) f)
          (c.loop-dev.invariant.first s rows a p f);
      device = c.ask_besides.ensures.device c.loop-dev-test.true c.loop-dev.invariant.device;
    }
