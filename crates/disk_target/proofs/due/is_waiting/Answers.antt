use Rattle.std.proofs.Common.{◌∙◌, None}
use Rattle.disk_target.specs.Waits.{waits}
use Rattle.disk_target.proofs.due.is_waiting.Goals as goal

pub returns : goal.returns
returns c = λ rows o.
    let v = c.view-view.ensures.trace rows o in
    let req = c.req.ensures ∙ (λ i. (c.drives.ensures.trace rows v i).req) in
    let ack = c.ack.ensures ∙ (λ i. (c.bus.ensures.trace rows v i).ack) in
    c.waits.ensures
    ∙ (λ j. waits (req j) (ack j) (c.begun.ensures rows o j) (c.is_pulsed.ensures rows c.args.dev None o j))
