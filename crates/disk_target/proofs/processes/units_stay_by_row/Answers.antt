use Rattle.disk_target.proofs.UnitRows.{stays}
use Rattle.disk_target.proofs.processes.units_stay_by_row.Goals as goal

pub returns : goal.returns
returns c = λ s rows row v seats permitted own h. stays s rows row v seats permitted own h
