use Rattle.std.proofs.Common.{◌∙◌, subst}
use Rattle.array_model.specs.Execution.{execution}
use Rattle.array_model.specs.Seats.{context_of}
use Rattle.disk_unit.specs.Plans.{plan_of}
use Rattle.target_units.specs.Absent.{IsAbsentAt}
use Rattle.target_units.specs.declared.logical.LogicalUnit.{LogicalUnit}
use Rattle.target_units.specs.Units.{IsUnitOf}
use Rattle.target_units.proofs.Tellings.{none_taken}
use Rattle.target_units.proofs.logical.LogicalUnit.plan.Goals as goal

pub returns-in-There-clause-seat : goal.returns-in-There-clause-seat
returns-in-There-clause-seat c = λ hosts seat time sent h host. c.plan.ensures.seat hosts seat time sent
    (subst (λ (u : LogicalUnit). IsUnitOf hosts seat time u) c.in-There.is h) host

pub returns-in-Absent-clause-seat : goal.returns-in-Absent-clause-seat
returns-in-Absent-clause-seat c = λ hosts seat time sent h host.
    let absent : IsAbsentAt seat c.in-Absent.absent = subst
    (λ (u : LogicalUnit). IsUnitOf hosts seat time u) c.in-Absent.is h in
    c.plan-in-Absent.ensures.seat seat sent absent
    ∙ (λ i. plan_of (execution (context_of seat c.args.from) c.args.cdb.now sent).reply
    (none_taken seat c.args.from c.args.cdb.now absent.none i))
