use Rattle.std.proofs.Common.{◌∙◌, None}
use Rattle.disk_target.specs.Waits.{drives_pulse}
use Rattle.disk_target.proofs.due.is_in_pulse.Goals as goal

pub returns : goal.returns
returns c = λ rows o.
    let v = c.view.ensures.trace rows o in
    let req = c.req-req.ensures ∙ (λ i. (c.drives.ensures.trace rows v i).req) in
    c.drives_pulse.ensures
    ∙ (λ j. drives_pulse (req j) (c.begun.ensures rows o j) (c.is_pulsed.ensures rows c.args.dev None o j))
