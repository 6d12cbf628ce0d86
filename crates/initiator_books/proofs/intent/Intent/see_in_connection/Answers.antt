use Rattle.std.proofs.Common.{◌∷◌, ◌∙◌, sym}
use Rattle.bus_trace.specs.Terms.{call_after}
use Rattle.initiator_books.specs.Intents.{IntentValue}
use Rattle.initiator_books.proofs.Ends.{initiators_are}
use Rattle.initiator_books.proofs.Intents.{intent_stays}
use Rattle.initiator_books.proofs.intent.Intent.see_in_connection.Goals as goal

pub returns-clause-trace : goal.returns-clause-trace
returns-clause-trace c = λ s rows v d i stands none h.
    let row = c.args.row.now in
    let called = c.see_call.ensures
    ∙ (λ j. let z : IntentValue = c.self.view_is j in call_after z.call c.effect.result.now.change row) in
    intent_stays c.wants_are_items.ensures.items s rows row c.args.self.now _ _
    (λ j. let z : IntentValue = c.self.view_is j in record z { call = called j })
    (c.effect.ensures.trace (row ∷ rows) v) stands (sym none) (c.kept_is_plain.ensures.rows s rows d.1)
    (c.kept_is_plain.ensures.rows s (row ∷ rows) d) (c.hearings_are_plain.ensures.hearing s rows row d.1 d.0) d
    (initiators_are (row ∷ rows) d) i h
