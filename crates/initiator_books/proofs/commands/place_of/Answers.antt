use Rattle.initiator_books.proofs.OwnCommands.{none_past, not_within, not_there}
use Rattle.initiator_books.proofs.commands.place_of.Goals as goal
use Rattle.initiator_books.proofs.commands.place_of.Goals.{else-place-mines-via-then-place-mines+else-mines-place}
use Rattle.initiator_books.proofs.commands.place_of.Goals.{else-place-mines-via-else-place-mines}

pub returns-then-number_place-places-clause-none : goal.returns-then-number_place-places-clause-none
returns-then-number_place-places-clause-none c =
    none_past c.args.places.now 0 c.args.mines.now c.args.number c.requires c.if-number_place-places.true

pub returns-else-place-mines-clause-none : goal.returns-else-place-mines-clause-none
returns-else-place-mines-clause-none c =
    elim c.else-place-mines.branch [
      | else-place-mines-via-then-place-mines+else-mines-place w ↦
          not_there c.args.places.now c.args.mines.now c.args.number _ c.requires w.if-mines-place.false
      | else-place-mines-via-else-place-mines w ↦
          not_within c.args.places.now c.args.mines.now c.args.number c.requires w.if-place-mines.false
    ]
