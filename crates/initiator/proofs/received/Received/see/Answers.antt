use Rattle.std.proofs.Common.{◌∷◌, sym, subst, List}
use Rattle.initiator.specs.Received.{BufferPairValue, AreReceived}
use Rattle.initiator.proofs.ReceivedRows.{received_goes_on}
use Rattle.initiator.proofs.received.Received.see.Goals as goal

pub returns-clause-trace : goal.returns-clause-trace
returns-clause-trace c = λ s rows row dev d told stands is at undoes h.
    subst (λ (z : List BufferPairValue). AreReceived s (row ∷ rows) dev z) (sym c.after_row.ensures)
    (received_goes_on s rows row dev c.args.self.now c.args.process c.args.place c.args.hearing.now c.args.after
    (c.kept_is_plain.ensures.rows s rows d.1) (c.kept_is_plain.ensures.rows s (row ∷ rows) d)
    (c.hearings_are_plain.ensures.hearing s rows row d.1 d.0) d told stands is at undoes h)
