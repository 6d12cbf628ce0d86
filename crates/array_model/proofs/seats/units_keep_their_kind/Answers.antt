use Rattle.array_model.proofs.UnitKinds.{kind_is}
use Rattle.array_model.proofs.seats.units_keep_their_kind.Goals as goal

pub returns : goal.returns
returns c = kind_is
