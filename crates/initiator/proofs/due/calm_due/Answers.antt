use Rattle.std.proofs.Common.{◌∙◌, sym, None}
use Rattle.std.specs.Prelude.{if◌then◌else◌}
use Rattle.std.proofs.lemmas.Bool.{eq-eqb, ne_eqb}
use Rattle.bus_trace.specs.Trace.{bus}
use Rattle.bus_trace.specs.Terms.{connection}
use Rattle.initiator_books.specs.scsi_device.specs.Told.{Told, told}
use Rattle.initiator.specs.States.{InitiatorState, state_known}
use Rattle.initiator.specs.Dues.{hand_by}
use Rattle.initiator.proofs.Unasked.{calm_in, calm_is}
use Rattle.initiator.proofs.due.calm_due.Goals as goal

pub returns-in-Some : goal.returns-in-Some
returns-in-Some c = λ rows o mine.
    let h = c.args.host.now in
    let t : Told = told rows h.dev in
    let i : InitiatorState = state_known c.args.known.now in
    let stands = sym (c.calm_connection.ensures rows (c.view.ensures.trace rows o)) ∙ c.in-Some.is in
    let own = eq-eqb _ _ (sym c.get.ensures.number ∙ c.if-get-host.true) in
    c.hand_due.ensures rows o mine
    ∙ (λ j. if sym own j then hand_by h t c.args.fault i else None)
    ∙ (λ j. calm_in h t c.args.fault i (sym stands j))
    ∙ calm_is h t c.args.fault i (bus rows).rst (connection rows)

pub returns-in-Some-2 : goal.returns-in-Some-2
returns-in-Some-2 c = λ rows o mine.
    let h = c.args.host.now in
    let t : Told = told rows h.dev in
    let i : InitiatorState = state_known c.args.known.now in
    let stands = sym (c.calm_connection.ensures rows (c.view.ensures.trace rows o)) ∙ c.in-Some.is in
    let other = ne_eqb _ _ (λ e. c.if-get-host.false (c.get.ensures.number ∙ e)) in
    (λ j. if sym other j then hand_by h t c.args.fault i else None)
    ∙ (λ j. calm_in h t c.args.fault i (sym stands j))
    ∙ calm_is h t c.args.fault i (bus rows).rst (connection rows)
