-- The agreements on synchronous data transfer (6.6.21) from one connection to the next: a pair that is not named is
-- asynchronous.
use Rattle.std.specs.Prelude.{ℕ, Bool, ◌&&◌, ◌==◌, List, [], ◌∷◌, Option, Some, None, if◌then◌else◌}
use Rattle.bus_phases.specs.bus_trace.specs.declared.agreements.Agreement.{Agreement}
use Rattle.bus_phases.specs.bus_trace.specs.declared.connection.Connection.{Connection}
use Rattle.bus_phases.specs.declared.spoken.Spoken.{Spoken}
use Rattle.bus_phases.specs.Dialogue.{asynchronous}

pub record PairAgreement : Type 0 where
  pub initiator : ℕ
  pub target : ℕ
  pub agreement : Agreement

abbrev pub agreement_in : List PairAgreement → ℕ → ℕ → Agreement
agreement_in [] i t = asynchronous
agreement_in (a ∷ all) i t = if i == a.initiator && t == a.target then a.agreement else agreement_in all i t

abbrev pub without_target : List PairAgreement → ℕ → List PairAgreement
without_target [] t = []
without_target (a ∷ all) t = if t == a.target then without_target all t else a ∷ without_target all t

-- At the end of a connection the agreement is what its messages said; BUS DEVICE RESET ended the others of its target.
abbrev pub agreements_after : List PairAgreement → Connection → Spoken → List PairAgreement
agreements_after all n said =
    record { initiator = n.initiator; target = n.target; agreement = said.agreement }
    ∷ (if said.device_reset then without_target all n.target else all)

abbrev pub agreements_at_end : List PairAgreement → Option Connection → Bool → Spoken → List PairAgreement
agreements_at_end all None stands said = all
agreements_at_end all (Some n) stands said = if stands then all else agreements_after all n said
