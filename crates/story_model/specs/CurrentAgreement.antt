-- The agreement of an initiator and a target on synchronous data transfer (6.6.21), by the rows so far.
use Rattle.std.specs.Prelude.{ℕ, ◌&&◌, ◌==◌, List, Option, Some, None, if◌then◌else◌}
use Rattle.bus_phases.specs.bus_trace.specs.declared.agreements.Agreement.{Agreement}
use Rattle.bus_phases.specs.bus_trace.specs.declared.Row.{Row}
use Rattle.bus_phases.specs.bus_trace.specs.declared.connection.Connection.{Connection}
use Rattle.bus_phases.specs.bus_trace.specs.Terms.{connection}
use Rattle.bus_phases.specs.Dialogue.{agreed, dialogue}

-- In the connection that stands, what its messages have said so far; else what earlier connections agreed.
abbrev pub current_agreement_in : Option Connection → List Row → ℕ → ℕ → Agreement
current_agreement_in None rows i t = agreed rows i t
current_agreement_in (Some n) rows i t =
    if n.initiator == i && n.target == t then (dialogue rows).heard.now.agreement else agreed rows i t

abbrev pub current_agreement : List Row → ℕ → ℕ → Agreement
current_agreement rows i t = current_agreement_in (connection rows) rows i t
