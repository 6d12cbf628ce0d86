use Rattle.link_laws.proofs
use proofs.{Names.{obeys_fits, obeys_latencies}, Runs.Lengths.{runs_are_short}, Traces.{stood}}
use Rattle.link_laws.proofs.laws.traces_are_lawful.Goals as goal

pub returns-clause-lawful : goal.returns-clause-lawful
returns-clause-lawful c = λ s rows o prompt b m k f. (stood s (obeys_latencies s o) (runs_are_short s (obeys_fits s o))
    rows prompt (record { bytes = b; messages = m; commands = k; freeing = f })).standing.lawful

pub returns-clause-ahead : goal.returns-clause-ahead
returns-clause-ahead c =
    λ s rows o prompt b m k f dev lt x e. (stood s (obeys_latencies s o) (runs_are_short s (obeys_fits s o)) rows prompt
    (record { bytes = b; messages = m; commands = k; freeing = f })).standing.ahead dev lt x e
