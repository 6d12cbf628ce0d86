use Rattle.std.proofs.Common.{◌∙◌, ◌+◌, ◌≡◌, arith, sym, ap, subst, length, List}
use Rattle.initiator_books.specs.Commands.{are_rising, are_placed, AreKept}
use Rattle.initiator_books.specs.declared.mine.Mine.{Mine}
use Rattle.initiator_books.specs.Mines.{nothing_sent, mines_of}
use Rattle.initiator_books.proofs.KeptCommands.{own_rising, own_length, kept_new}
use Rattle.initiator_books.proofs.commands.Commands.new.Goals as goal

pub places_of-requires-clause-rising : goal.places_of-requires-clause-rising
places_of-requires-clause-rising c =
    (λ i. are_rising (length c.args.commands.now + 1) 0 ((c.as_slice.ensures.value ∙ c.in_ok-mines.ensures) i))
    ∙ own_rising c.args.dev c.args.commands.now

pub places_of-requires-clause-few : goal.places_of-requires-clause-few
places_of-requires-clause-few c =
    let same : length c.as_slice.result.now ≡ length (mines_of nothing_sent c.args.dev c.args.commands.now) = ap
    (λ (m : List Mine). length m) (c.as_slice.ensures.value ∙ c.in_ok-mines.ensures) in
    omega (arith, same, own_length c.args.dev c.args.commands.now, c.requires)

pub invariant_of-result : goal.invariant_of-result
invariant_of-result c = subst (λ (m : List Mine). AreKept m c.in_ok-places.places.items 0 0)
    (sym c.in_ok-mines.ensures) (kept_new c.args.dev c.args.commands.now c.in_ok-places.places.items
    ((λ i. are_placed c.in_ok-places.places.items 0 (sym (c.as_slice.ensures.value ∙ c.in_ok-mines.ensures) i))
    ∙ c.in_ok-places.ensures.placed))
