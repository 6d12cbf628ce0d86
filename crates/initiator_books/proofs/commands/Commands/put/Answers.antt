use Rattle.std.proofs.Common.{◌∙◌, arith, ap, sym, subst, List}
use Rattle.std.specs.Prelude.{take}
use Rattle.initiator_books.specs.Commands.{CommandsValue, IsPlaceOf, all_past}
use Rattle.initiator_books.specs.declared.mine.Mine.{Mine}
use Rattle.initiator_books.proofs.KeptCommands.{kept_written}
use Rattle.initiator_books.proofs.commands.Commands.put.Goals as goal

pub past_from-self-inside-requires-clause-past : goal.past_from-self-inside-requires-clause-past
past_from-self-inside-requires-clause-past c =
    (λ i. all_past (take c.past_with-past.result (c.as_slice.ensures.value i)))
    ∙ c.past_with-past.ensures.past c.self.inside.mines.items c.self.invariant.past_before

pub invariant_of-self : goal.invariant_of-self
invariant_of-self c =
    let at : IsPlaceOf c.self.inside.mines.items c.args.place c.args.mine.number = subst
    (λ (z : List Mine). IsPlaceOf z c.args.place c.args.mine.number)
    (sym (ap (λ (v : CommandsValue). v.mines) c.self.view_is)) c.requires in
    kept_written c.self.inside.mines.items c.self.inside.places.items c.self.inside.past c.self.inside.reached
    c.args.place c.args.mine c.past_from-self-inside.result c.max-self-inside.result c.self.invariant at
    ((λ i. all_past (take c.past_from-self-inside.result (sym c.as_slice.ensures.value i)))
    ∙ c.past_from-self-inside.ensures.past) c.past_from-self-inside.ensures.ordered
    (omega (arith, c.max-self-inside.ensures)) (omega (arith, c.max-self-inside.ensures))
    (omega (arith, c.max-self-inside.ensures, at.within, c.self.invariant.within))
