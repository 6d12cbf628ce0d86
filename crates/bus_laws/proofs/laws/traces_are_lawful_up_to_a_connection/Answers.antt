use Rattle.bus_laws.proofs.Times.Limits.{obeys_latencies}
use Rattle.bus_laws.proofs.Stages.Facts.{next_row_is, stood}
use Rattle.bus_laws.proofs.laws.traces_are_lawful_up_to_a_connection.Goals as goal

pub returns-clause-lawful : goal.returns-clause-lawful
returns-clause-lawful c = λ s rows o prompt apart. (stood s (obeys_latencies s o) rows prompt apart).standing.lawful

pub returns-clause-ahead : goal.returns-clause-ahead
returns-clause-ahead c =
    λ s rows o prompt apart dev lt x e. (stood s (obeys_latencies s o) rows prompt apart).standing.ahead dev lt x e

pub returns-clause-next : goal.returns-clause-next
returns-clause-next c = λ s rows row o prompt apart e.
    let was = stood s (obeys_latencies s o) rows prompt apart in
    (next_row_is s rows row (obeys_latencies s o) was.standing was.here was.apart e).obeys
