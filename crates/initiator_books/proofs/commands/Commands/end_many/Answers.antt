use Rattle.std.proofs.Common.{◌∙◌, ◌≡◌, ◌++◌, arith, ap, sym, subst, length, drop, take, List}
use Rattle.std.specs.Prelude.{map, slice_range}
use Rattle.std.specs.Vec.{with_items}
use Rattle.std.proofs.lemmas.List.{with_items_is}
use Rattle.initiator_books.specs.Commands.{CommandsValue, AreKept, all_past}
use Rattle.initiator_books.specs.declared.mine.Mine.{Mine}
use Rattle.initiator_books.specs.Mines.{mine_after_event}
use Rattle.initiator_books.proofs.KeptCommands.{middle_is_all, kept_after}
use Rattle.initiator_books.proofs.commands.Commands.end_many.Goals as goal
use Rattle.initiator_books.proofs.commands.Commands.end_many.Goals.{After-past_from-self-inside}

-- All of them after the event.
whole : (c : After-past_from-self-inside) → (with_items c.self.inside.mines c.see_between.new.mines).items
    ≡ map (λ (m : Mine). mine_after_event c.args.event.now m) c.self.inside.mines.items
whole c =
    let old = c.as_mut_slice.ensures.value in
    with_items_is c.self.inside.mines c.see_between.new.mines
    (c.see_between.auto.mines ∙ ap (λ (m : List Mine). length m) old ∙ omega (arith, c.self.inside.mines.ok.0))
    ∙ c.see_between.ensures
    ∙ (λ i. take c.self.inside.past (old i) ++ (map (λ (m : Mine). mine_after_event c.args.event.now m)
    (slice_range (old i) c.self.inside.past c.self.inside.reached) ++ drop c.self.inside.reached (old i)))
    ∙ middle_is_all c.args.event.now c.self.inside.mines.items c.self.inside.places.items c.self.inside.past
    c.self.inside.reached c.requires c.self.invariant

pub invariant_of-self : goal.invariant_of-self
invariant_of-self c =
    let z = whole (goal.at.invariant_of-self c).After-past_from-self-inside in
    subst (λ (m : List Mine). AreKept m c.self.inside.places.items c.past_from-self-inside.result c.self.inside.reached)
    (sym z) (kept_after c.args.event.now c.self.inside.mines.items c.self.inside.places.items
    c.self.inside.past c.self.inside.reached c.past_from-self-inside.result c.requires c.self.invariant
    ((λ i. all_past (take c.past_from-self-inside.result (sym (c.as_slice.ensures.value ∙ z) i)))
    ∙ c.past_from-self-inside.ensures.past) c.past_from-self-inside.ensures.ordered)

pub returns : goal.returns
returns c =
    let z = whole (goal.at.returns c).After-past_from-self-inside in
    λ i. record {
      mines = (z
          ∙ ap (λ (v : CommandsValue). map (λ (m : Mine). mine_after_event c.args.event.now m) v.mines) c.self.view_is)
          i;
      limit = ap (λ (v : CommandsValue). v.limit) c.self.view_is i;
    }
