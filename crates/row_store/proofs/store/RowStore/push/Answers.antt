-- A row more that is near the last.
use Rattle.std.proofs.Common.{◌∙◌, List, ◌++◌, ◌∷◌, [], ap}
use Rattle.bus_trace.specs.declared.rows.Row.{Row}
use Rattle.row_store.proofs.Appended.{with_near}
use Rattle.row_store.proofs.store.RowStore.push.Goals as goal

pub invariant_of-self-2 : goal.invariant_of-self-2
invariant_of-self-2 c =
    let w = with_near c.self.inside.words.items c.push.new.self.items c.row_word.result
    c.self.inside.last c.in-Some.apart c.args.row.now c.self.invariant.0 c.in-Some.ensures.sum
    c.in-Some.ensures.fits c.row_word.ensures.row c.row_word.ensures.apart
    c.row_word.ensures.device c.row_word.ensures.kind c.in_ok-push.ensures.items in
    (w.last, w.newest)

pub returns-clause-added : goal.returns-clause-added
returns-clause-added c =
    let w = with_near c.self.inside.words.items c.push.new.self.items c.row_word.result
    c.self.inside.last c.in-Some.apart c.args.row.now c.self.invariant.0 c.in-Some.ensures.sum
    c.in-Some.ensures.fits c.row_word.ensures.row c.row_word.ensures.apart
    c.row_word.ensures.device c.row_word.ensures.kind c.in_ok-push.ensures.items in
    w.rows ∙ ap (λ (l : List Row). l ++ c.args.row.now ∷ []) c.self.view_is
