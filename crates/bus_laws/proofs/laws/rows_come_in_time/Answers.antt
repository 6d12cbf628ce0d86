use Rattle.bus_laws.proofs.Times.Facts.{times_bounded, times_far}
use Rattle.bus_laws.proofs.laws.rows_come_in_time.Goals as goal

pub returns-clause-each : goal.returns-clause-each
returns-clause-each c = λ s rows o p. times_bounded s o rows p

pub returns-clause-far : goal.returns-clause-far
returns-clause-far c = λ s rows o p l. times_far s o rows p l
