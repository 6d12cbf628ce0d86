use Rattle.bus_phases.proofs.Agreeing.{reset_comes, no_reset}
use Rattle.bus_phases.proofs.agreements.Agreements.reset_if.Goals as goal

pub returns-then-now : goal.returns-then-now
returns-then-now c = λ f h. reset_comes f c.args.target c.args.now _ c.if-now.true (c.reset.ensures f h)

pub returns-else-now : goal.returns-else-now
returns-else-now c = λ f h. no_reset f c.args.target c.args.now _ c.if-now.false h
