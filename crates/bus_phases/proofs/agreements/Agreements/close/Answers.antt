use Rattle.std.specs.Prelude.{◌==◌, ◌&&◌, if◌then◌else◌}
use Rattle.bus_phases.specs.Dialogue.{asynchronous}
use Rattle.bus_phases.proofs.agreements.Agreements.close.Goals as goal

pub returns : goal.returns
returns c = λ f h. c.set.ensures
    (λ i t. if t == c.args.connection.target && c.args.spoken.device_reset then asynchronous else f i t)
    (c.reset_if.ensures f h)
