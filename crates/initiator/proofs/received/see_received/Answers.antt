use Rattle.std.proofs.Common.{◌∷◌, ◌∙◌, refl, sym, subst, List}
use Rattle.bus_trace.specs.Terms.{connection}
use Rattle.due_model.specs.RunState.{item_of}
use Rattle.due_model.specs.RunSteps.{run_state}
use Rattle.due_model.specs.Telling.{id_of}
use Rattle.initiator_books.specs.OwnLinks.{own_link}
use Rattle.initiator.specs.Transfers.{active_of}
use Rattle.initiator.specs.Received.{BufferPairValue, AreReceived}
use Rattle.initiator.proofs.ReceivedRows.{quiet, received_goes_on}
use Rattle.initiator.proofs.received.see_received.Goals as goal

pub returns-then-not-brings_data : goal.returns-then-not-brings_data
returns-then-not-brings_data c = λ s rows row d told stands linked undoes h.
    let dev = c.args.transfers.now.dev in
    let v = c.args.received.now in
    let known = id_of (item_of (own_link dev (connection rows) (run_state s rows).story.link)) in
    let place = (active_of (run_state s rows) known).payload in
    subst (λ (z : List BufferPairValue). AreReceived s (row ∷ rows) dev z)
    (quiet v known place c.args.hearing.now c.args.after (sym c.brings_data.ensures ∙ c.if-not-brings_data.true))
    (received_goes_on s rows row dev v known place c.args.hearing.now c.args.after
    (c.kept_is_plain.ensures.rows s rows d.1) (c.kept_is_plain.ensures.rows s (row ∷ rows) d)
    (c.hearings_are_plain.ensures.hearing s rows row d.1 d.0) d told stands refl refl undoes h)
