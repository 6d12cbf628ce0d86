use Rattle.bus_laws.proofs.Stages.Next.{standing_first, stage_first, standing_next}
use Rattle.bus_laws.proofs.Times.Limits.{obeys_latencies}
use Rattle.bus_laws.proofs.Stages.Facts.{least_is, next_row_is, reset_row_is}
use Rattle.bus_laws.proofs.laws.stages_go_on.Goals as goal

pub returns-clause-start : goal.returns-clause-start
returns-clause-start c = λ s. (standing_first s, stage_first s)

pub returns-clause-next : goal.returns-clause-next
returns-clause-next c = λ s rows row o st here apart e. next_row_is s rows row (obeys_latencies s o) st here apart e

pub returns-clause-reset : goal.returns-clause-reset
returns-clause-reset c = λ s rows row st calm e k. reset_row_is s rows row st calm e k

pub returns-clause-holds : goal.returns-clause-holds
returns-clause-holds c = λ s rows row st e g apart. standing_next s rows row st (least_is s rows row e) g apart
