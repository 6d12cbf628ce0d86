use Rattle.std.proofs.Common.{◌∙◌, ap, sym, subst, List, Some}
use Rattle.initiator_books.specs.Commands.{CommandsValue, IsPlaceOf}
use Rattle.initiator_books.specs.declared.mine.Mine.{Mine}
use Rattle.initiator_books.specs.Openings.{mine_at}
use Rattle.initiator_books.proofs.OwnCommands.{mine_none, mine_there, number_below}
use Rattle.initiator_books.proofs.commands.Commands.mine.Goals as goal

pub returns-in-None-clause-value : goal.returns-in-None-clause-value
returns-in-None-clause-value c =
    sym (mine_none c.as_slice.result.now c.args.number c.in-None.ensures.none)
    ∙ (λ i. mine_at (c.as_slice.ensures.value i) c.args.number)
    ∙ ap (λ (v : CommandsValue). mine_at v.mines c.args.number) c.self.view_is

pub returns-in-Some-clause-value : goal.returns-in-Some-clause-value
returns-in-Some-clause-value c =
    let at : IsPlaceOf c.self.inside.mines.items c.in-Some.place c.args.number = subst
    (λ (z : List Mine). IsPlaceOf z c.in-Some.place c.args.number) c.as_slice.ensures.value c.in-Some.ensures.found in
    (λ i. Some (c.index.ensures i))
    ∙ sym (mine_there c.self.inside.places.items 0 c.self.inside.mines.items c.in-Some.place
    c.args.number c.index.result.now c.self.invariant.placed at.within (at.number_is c.index.result.now))
    ∙ ap (λ (v : CommandsValue). mine_at v.mines c.args.number) c.self.view_is

pub returns-in-Some-clause-below : goal.returns-in-Some-clause-below
returns-in-Some-clause-below c =
    let at : IsPlaceOf c.self.inside.mines.items c.in-Some.place c.args.number = subst
    (λ (z : List Mine). IsPlaceOf z c.in-Some.place c.args.number) c.as_slice.ensures.value c.in-Some.ensures.found in
    rw (← at.number_is c.index.result.now, ← ap (λ (v : CommandsValue). v.limit) c.self.view_is)
    (number_below c.self.inside.places.items 0 c.self.inside.mines.items c.in-Some.place c.index.result.now
    c.self.invariant.placed at.within)
