-- The pairs below the counter are reset.
use Rattle.std.proofs.Common.{ℕ}
use Rattle.std.specs.Prelude.{◌==◌, ◌&&◌, nat_lt, if◌then◌else◌}
use Rattle.bus_trace.specs.declared.agreements.Agreement.{Agreement}
use Rattle.bus_phases.specs.Dialogue.{asynchronous}
use Rattle.bus_phases.specs.Tables.{AreAgreements}
use Rattle.bus_phases.proofs.agreements.Agreements.reset.Given as goal

abbrev pub invariant-loop-initiator : goal.invariant-loop-initiator
invariant-loop-initiator l = (agreed : ℕ → ℕ → Agreement) → AreAgreements agreed l.initial.self
    → AreAgreements (λ i t. if t == l.target && nat_lt i l.initiator then asynchronous else agreed i t) l.self
