use Rattle.std.proofs.Common.{◌∙◌, ◌*◌, ◌-◌, ◌^◌, min}
use native.Mathlib.Omega.{arith}
use Rattle.target_course.proofs.Places.{held_second}
use Rattle.target_course.proofs.data_runs.burst_start.Goals as goal

pub returns : goal.returns
returns c =
    c.saturating_mul.ensures
    ∙ (λ j. min (c.args.n * c.step_of.ensures j) (2 ^ 64 - 1))
    ∙ held_second c.args.n (c.args.most * c.args.size) (2 ^ 64 - 1) c.ranges.n.fits (omega arith)
