use Rattle.std.proofs.Common.{◌∙◌, sym, Some}
use Rattle.initiator_books.specs.scsi_device.specs.Told.{told}
use Rattle.initiator.specs.States.{state_known}
use Rattle.initiator.specs.Waits.{waits}
use Rattle.initiator.proofs.Waiting.{plain_is}
use Rattle.initiator.proofs.due.plain_due.Goals as goal

pub returns-then-waits : goal.returns-then-waits
returns-then-waits c = λ rows o mine.
    let h = c.args.host.now in
    let v = c.view-view.ensures.trace rows o in
    let now = c.waits.ensures ∙ (λ j. waits (mine j).own (c.bus.ensures.trace rows v j)
    (c.begun.ensures rows o j) (c.is_pulsed.ensures rows h.dev (Some h) o j)) in
    sym (plain_is h (told rows h.dev) (state_known c.args.known.now) (sym now ∙ c.if-waits.true))
