use Rattle.std.proofs.Common.{◌∙◌, sym}
use Rattle.disk_target.specs.Standings.{is_guest}
use Rattle.disk_target.proofs.processes.Processes.run.Goals as goal

pub returns-then-is_guest-clause-array : goal.returns-then-is_guest-clause-array
returns-then-is_guest-clause-array c = λ s a b times p served h block sent st. c.run_outside.ensures.array s a b times p
    served h ((λ i. is_guest (sym c.self.view_is i).standing) ∙ sym c.if-is_guest.ensures) block st

pub returns-else-is_guest-clause-array : goal.returns-else-is_guest-clause-array
returns-else-is_guest-clause-array c = λ s a b times p served h block sent st.
    let inside = (λ i. is_guest (sym c.self.view_is i).standing) ∙ sym c.if-is_guest.ensures in
    c.run_inside.ensures.array s a b times p served h inside (sent inside) st
