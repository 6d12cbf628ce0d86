use Rattle.std.specs.Prelude.{◌==◌}
use Rattle.scenario.specs.declared.value.TargetDef.{TargetDef}
use Rattle.scsi_device.proofs.Finds.{found_any}
use Rattle.scsi_device.proofs.SentBytes.{process_few}
use Rattle.target_units.proofs.Rooms.{kinds_always, kinds_after, lines_always, lines_after}
use Rattle.target_units.proofs.Sendings.{named}
use Rattle.target_units.proofs.UnitTimes.{step_later}
use Rattle.target_units.proofs.laws.units_are_of_their_lines.Goals as goal

pub returns-clause-always : goal.returns-clause-always
returns-clause-always c = λ s history a e. lines_always s history a e

pub returns-clause-goes_on : goal.returns-clause-goes_on
returns-clause-goes_on c = λ s a b event h e. lines_after s a b (step_later s a b event e) h

pub returns-clause-kinds_always : goal.returns-clause-kinds_always
returns-clause-kinds_always c = λ s history a e. kinds_always s history a e

pub returns-clause-kinds_go_on : goal.returns-clause-kinds_go_on
returns-clause-kinds_go_on c = λ s a b event h e. kinds_after s a b (step_later s a b event e) h

pub returns-clause-sends : goal.returns-clause-sends
returns-clause-sends c = λ s a p def fits lines kinds target is disk writes good.
    named s a p fits lines kinds (found_any (λ (t : TargetDef). t.dev == p.target) s.targets def target) is disk writes
    good

pub returns-clause-few : goal.returns-clause-few
returns-clause-few c = λ s p fits is. process_few s p.id p fits is
