use Rattle.std.proofs.Common.{arith}
use Rattle.trace_text.proofs.Driven.{not_driven}
use Rattle.trace_text.proofs.stages.driven.Goals as goal
use Rattle.trace_text.proofs.stages.driven.Goals.{else-a-lt4-via-then-a-lt4+then-b-lt16+then-c-lt16+then-d-lt16+else-e-lt16}
use Rattle.trace_text.proofs.stages.driven.Goals.{else-a-lt4-via-then-a-lt4+then-b-lt16+then-c-lt16+else-d-lt16}
use Rattle.trace_text.proofs.stages.driven.Goals.{else-a-lt4-via-then-a-lt4+then-b-lt16+else-c-lt16}
use Rattle.trace_text.proofs.stages.driven.Goals.{else-a-lt4-via-then-a-lt4+else-b-lt16, else-a-lt4-via-else-a-lt4}

pub returns-else-a-lt4 : goal.returns-else-a-lt4
returns-else-a-lt4 c =
    not_driven c.args.a c.args.b c.args.c c.args.d c.args.e (λ are.
    elim c.else-a-lt4.branch [
      | else-a-lt4-via-then-a-lt4+then-b-lt16+then-c-lt16+then-d-lt16+else-e-lt16 w ↦ absurd (omega arith)
      | else-a-lt4-via-then-a-lt4+then-b-lt16+then-c-lt16+else-d-lt16 w ↦ absurd (omega arith)
      | else-a-lt4-via-then-a-lt4+then-b-lt16+else-c-lt16 w ↦ absurd (omega arith)
      | else-a-lt4-via-then-a-lt4+else-b-lt16 w ↦ absurd (omega arith)
      | else-a-lt4-via-else-a-lt4 w ↦ absurd (omega arith)
    ])
