use Rattle.std.proofs.Common.{◌∷◌}
use Rattle.initiator_books.proofs.Ends.{initiators_are}
use Rattle.initiator_books.proofs.Intents.{intent_goes_on}
use Rattle.initiator_books.proofs.intent.Intent.see.Goals as goal

pub returns-clause-trace : goal.returns-clause-trace
returns-clause-trace c = λ s rows v d i told h.
    let row = c.args.row.now in
    let e = c.effect.ensures.trace (row ∷ rows) v in
    intent_goes_on c.wants_are_items.ensures.items s rows row c.args.self.now c.after_effect.new.self _
    c.args.shown.now c.after_effect.ensures.dev c.after_effect.ensures.wish c.after_effect.ensures.call
    c.after_effect.ensures.since c.after_effect.ensures.callee e (c.kept_is_plain.ensures.rows s rows d.1)
    (c.kept_is_plain.ensures.rows s (row ∷ rows) d) (c.hearings_are_plain.ensures.hearing s rows row d.1 d.0) d
    (initiators_are (row ∷ rows) d) i told h
