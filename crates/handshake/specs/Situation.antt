-- What an end of a connection goes by.
use Rattle.bus_lines.specs.Handshakes.{Handshakes}
use Rattle.reaction_model.specs.declared.due.Myself.{Myself}
use Rattle.reaction_model.specs.declared.sight.Sight.{Sight}
use Rattle.reaction_model.specs.declared.ends.Pace.{Pace}

pub record SituationValue : Type 0 where
  pub view : Sight
  pub handshakes : Handshakes
  pub me : Myself
  pub pace : Pace
