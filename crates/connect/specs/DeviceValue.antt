-- A device on its way to a connection.
use Rattle.reaction_model.specs.declared.due.Myself.{Myself}
use Rattle.reaction_model.specs.declared.due.Want.{Want}

pub record DeviceValue : Type 0 where
  -- what it knows of itself
  pub me : Myself
  -- what it wants of the bus
  pub want : Want
