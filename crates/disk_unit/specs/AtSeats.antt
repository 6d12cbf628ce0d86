-- A unit at its seat of the plain disk array.
use Rattle.std.specs.Prelude.{◌≡◌, List, Some}
use Rattle.array_model.specs.scenario.specs.declared.value.HostDef.{HostDef}
use Rattle.array_model.specs.Contents.{Contents}
use Rattle.array_model.specs.Seats.{Seat}
use Rattle.array_model.specs.Units.{UnitState}
use Rattle.disk_unit.specs.Books.{UnitBooks}
use Rattle.disk_unit.specs.Keeping.{IsKeptAt}
use Rattle.disk_unit.specs.LiveCommands.{LiveCommand, HasLive}

-- The unit of this seat is there; what a unit of code keeps of its commands, with these live, and for each initiator is
-- what the seat has, and these are its contents.
pub record IsUnitAt (hosts : List HostDef) (live : List LiveCommand) (c : Contents) (u : UnitState) (seat : Seat)
    (b : UnitBooks) : Type 0 where
  pub there : seat.unit ≡ Some u
  pub contents : u.contents ≡ c
  pub commands : HasLive live u b
  pub kept : IsKeptAt hosts seat b
