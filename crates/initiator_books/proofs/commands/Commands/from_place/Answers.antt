use Rattle.std.proofs.Common.{◌∙◌, [], ap, sym, drop, take}
use Rattle.std.specs.Prelude.{◌-◌}
use Rattle.std.proofs.lemmas.List.Folds.{drop_split}
use Rattle.std.proofs.Common.{arith}
use Rattle.initiator_books.specs.Commands.{CommandsValue}
use Rattle.initiator_books.specs.Endings.{ends_after_events}
use Rattle.initiator_books.proofs.KeptCommands.{later_fresh}
use Rattle.initiator_books.proofs.PastEndings.{events_before_fresh}
use Rattle.initiator_books.proofs.commands.Commands.from_place.Goals as goal

pub returns-then-first-self : goal.returns-then-first-self
returns-then-first-self c =
    λ v shown. events_before_fresh [] (drop c.args.first c.self.inside.mines.items) v shown (later_fresh
    c.self.inside.reached c.args.first c.self.inside.mines.items c.if-first-self.true c.self.invariant.fresh_after)
    ∙ ap (λ (z : CommandsValue). ends_after_events (drop c.args.first z.mines) v shown) c.self.view_is

pub returns : goal.returns
returns c = λ v shown. (λ i. ends_after_events
    (take (c.self.inside.reached - c.args.first) (drop c.args.first (c.deref.ensures.value i))) v shown)
    ∙ events_before_fresh (take (c.self.inside.reached - c.args.first) (drop c.args.first c.self.inside.mines.items))
    (drop c.self.inside.reached c.self.inside.mines.items) v shown c.self.invariant.fresh_after
    ∙ (λ i. ends_after_events (sym
    (drop_split c.self.inside.mines.items c.args.first c.self.inside.reached (omega (arith, c.if-first-self.false))) i)
    v shown) ∙ ap (λ (z : CommandsValue). ends_after_events (drop c.args.first z.mines) v shown) c.self.view_is
