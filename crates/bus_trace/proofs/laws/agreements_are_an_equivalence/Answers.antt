use Rattle.bus_trace.proofs.SameAgreement.{itself, turned, joined, asynchronous, equal}
use Rattle.bus_trace.proofs.laws.agreements_are_an_equivalence.Goals as goal

pub returns-clause-itself : goal.returns-clause-itself
returns-clause-itself c = itself

pub returns-clause-turned : goal.returns-clause-turned
returns-clause-turned c = turned

pub returns-clause-joined : goal.returns-clause-joined
returns-clause-joined c = joined

pub returns-clause-asynchronous : goal.returns-clause-asynchronous
returns-clause-asynchronous c = asynchronous

pub returns-clause-equal : goal.returns-clause-equal
returns-clause-equal c = equal
