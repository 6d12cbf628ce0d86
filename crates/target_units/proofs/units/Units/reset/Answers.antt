use Rattle.bus_base.specs.declared.AbortKind.TheVariants as aborts
use Rattle.bus_base.specs.declared.Event.TheVariants as events
use Rattle.target_units.proofs.UnitSteps.{all_reset, device_seat, reset_seat}
use Rattle.target_units.proofs.units.Units.reset.Goals as goal

pub returns-clause-reset : goal.returns-clause-reset
returns-clause-reset c = λ s a b times by h st. all_reset s
    (events.Reset by) a b times c.args.now c.args.self.now.dev c.args.self.now.units c.clear.new.self.units st h
    (λ n. reset_seat s a b by c.args.self.now.dev n st) c.clear.ensures.eight c.clear.ensures.each

pub returns-clause-device : goal.returns-clause-device
returns-clause-device c = λ s a b times by unit h st. all_reset s (events.Aborted by c.args.self.now.dev unit
    aborts.Device) a b times c.args.now c.args.self.now.dev c.args.self.now.units c.clear.new.self.units st h
    (λ n. device_seat s a b by c.args.self.now.dev unit n st) c.clear.ensures.eight c.clear.ensures.each
