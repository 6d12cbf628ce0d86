use Rattle.link_laws.proofs
use proofs.Names.{refl, obeys_fits, least_is, standing_first, stage_first, obeys_latencies, apart}
use proofs.{Runs.Lengths.{runs_are_short}, Traces.{from_any, sides_are}}
use Rattle.link_laws.proofs.laws.connections_go_on.Goals as goal

pub returns-clause-start : goal.returns-clause-start
returns-clause-start c = λ s. (standing_first s, apart (stage_first s) refl)

pub returns-clause-next : goal.returns-clause-next
returns-clause-next c = λ s rows row o st here books e. from_any s rows row (obeys_latencies s o)
    (runs_are_short s (obeys_fits s o)) st here books (least_is s rows row e)

pub returns-clause-sides : goal.returns-clause-sides
returns-clause-sides c = λ s rows n h. sides_are s rows n h
