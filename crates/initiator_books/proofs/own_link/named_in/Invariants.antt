use Rattle.std.specs.Prelude.{◌≡◌, drop}
use Rattle.initiator_books.specs.OwnLinks.{named_in}
use Rattle.initiator_books.proofs.own_link.named_in.Given as goal

abbrev pub invariant-loop-mine : goal.invariant-loop-mine
invariant-loop-mine l =
    named_in (drop l.mine-index l.mines) l.target l.unit l.tag ≡ named_in l.mines l.target l.unit l.tag
