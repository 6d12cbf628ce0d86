use Rattle.std.proofs.Common.{◌∙◌, arith}
use Rattle.std.proofs.lemmas.List.{length-set}
use Rattle.initiator_books.proofs.KeptCommands.{number_in_range, placed_more}
use Rattle.initiator_books.proofs.commands.places_of.Goals as goal

pub index_mut-requires : goal.index_mut-requires
index_mut-requires c = number_in_range c.args.limit _ c.args.mines.now c.loop-place.place _ c.requires.rising
    c.loop-place-test.true (omega (arith, c.loop-place.invariant.1, c.loop-place.places.ok.0))

pub loop-place-preserved : goal.loop-place-preserved
loop-place-preserved c = (
  placed_more c.args.limit c.loop-place.places.items c.args.mines.now c.loop-place.place _ c.requires.rising
      c.loop-place-test.true c.loop-place.invariant.1 c.loop-place.invariant.0,
  length-set c.loop-place.places.items _ c.loop-place.place ∙ c.loop-place.invariant.1,
)
