use Rattle.std.proofs.Common.{sym, ◌∙◌}
use Rattle.std.specs.Prelude.{slice_index}
use Rattle.bus_trace.proofs.Ages.{data_stay}
use Rattle.bus_rules.proofs.saved_view.renew.Goals as goal

pub returns-else-data_bits-clause-lines : goal.returns-else-data_bits-clause-lines
returns-else-data_bits-clause-lines c = λ line lt.
    let same = sym c.data_bits.ensures.exact ∙ (c.if-data_bits.false ∙ c.data_bits-2.ensures.exact) in
    data_stay c.args.before c.args.after c.args.time (slice_index c.args.data_lines.now) same line lt
