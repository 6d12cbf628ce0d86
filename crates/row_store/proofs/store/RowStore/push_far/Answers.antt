-- A row more that is far from the last.
use Rattle.std.proofs.Common.{◌∙◌, List, ◌++◌, ◌∷◌, [], ap}
use Rattle.bus_trace.specs.declared.rows.Row.{Row}
use Rattle.row_store.proofs.Appended.{with_far}
use Rattle.row_store.proofs.store.RowStore.push_far.Goals as goal

pub invariant_of-self-2 : goal.invariant_of-self-2
invariant_of-self-2 c =
    let w = with_far c.self.inside.words.items c.extend_from_slice.new.self.items c.time_word.result
    c.row_word.result c.args.row.now c.time_word.ensures.fits c.time_word.ensures.time
    c.time_word.ensures.units c.row_word.ensures.row c.row_word.ensures.apart
    c.row_word.ensures.device c.row_word.ensures.kind c.in_ok-extend_from_slice.ensures.items in
    (w.last, w.newest)

pub returns-clause-added : goal.returns-clause-added
returns-clause-added c =
    let w = with_far c.self.inside.words.items c.extend_from_slice.new.self.items c.time_word.result
    c.row_word.result c.args.row.now c.time_word.ensures.fits c.time_word.ensures.time
    c.time_word.ensures.units c.row_word.ensures.row c.row_word.ensures.apart
    c.row_word.ensures.device c.row_word.ensures.kind c.in_ok-extend_from_slice.ensures.items in
    w.rows ∙ ap (λ (l : List Row). l ++ c.args.row.now ∷ []) c.self.view_is
