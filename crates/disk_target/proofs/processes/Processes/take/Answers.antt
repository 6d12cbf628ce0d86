use Rattle.std.proofs.Common.{subst}
use Rattle.bus_base.specs.declared.Event.{Event}
use Rattle.bus_base.specs.declared.Event.TheVariants as events
use Rattle.bus_base.specs.declared.ProcId.{ProcId}
use Rattle.target_course.specs.target_units.specs.Units.{IsStep}
use Rattle.disk_target.specs.Processes.{IsOwnEvent}
use Rattle.disk_target.proofs.processes.Processes.take.Goals as goal

pub returns-in-Accept-clause-array : goal.returns-in-Accept-clause-array
returns-in-Accept-clause-array c = λ s a b times p served h own st.
    let it = subst (λ (e : Event). IsOwnEvent a c.args.self.now.units.dev
    c.args.served.now.unit p c.args.served.now c.args.self.now.standing e) c.in-Accept.is own in
    let step = subst (λ (e : Event). IsStep s e a b) c.in-Accept.is st in
    c.accept.ensures.array s a b times p served h it.1 it.2
    (subst (λ (x : ProcId). IsStep s (events.Accept x) a b) it.0 step)

pub returns-in-Refuse-clause-array : goal.returns-in-Refuse-clause-array
returns-in-Refuse-clause-array c = λ s a b times p served h own st.
    let it = subst (λ (e : Event). IsOwnEvent a c.args.self.now.units.dev
    c.args.served.now.unit p c.args.served.now c.args.self.now.standing e) c.in-Refuse.is own in
    let step = subst (λ (e : Event). IsStep s e a b) c.in-Refuse.is st in
    c.refuse.ensures.array s a b times p served h it.1 it.2
    (subst (λ (x : ProcId). IsStep s (events.Refuse x) a b) it.0 step)

pub returns-in-Run-clause-array : goal.returns-in-Run-clause-array
returns-in-Run-clause-array c = λ s a b times p served h own st.
    let it = subst (λ (e : Event). IsOwnEvent a c.args.self.now.units.dev
    c.args.served.now.unit p c.args.served.now c.args.self.now.standing e) c.in-Run.is own in
    let step = subst (λ (e : Event). IsStep s e a b) c.in-Run.is st in
    c.run.ensures.array s a b times p served h it.1 it.2 (subst (λ (x : ProcId). IsStep s (events.Run x) a b) it.0 step)

pub returns-in-Fail-clause-array : goal.returns-in-Fail-clause-array
returns-in-Fail-clause-array c = λ s a b times p served h own st.
    let it = subst (λ (e : Event). IsOwnEvent a c.args.self.now.units.dev
    c.args.served.now.unit p c.args.served.now c.args.self.now.standing e) c.in-Fail.is own in
    let step = subst (λ (e : Event). IsStep s e a b) c.in-Fail.is st in
    c.fail.ensures.array s a b times p served h
    (subst (λ (x : ProcId). IsStep s (events.Fail x c.in-Fail.code) a b) it step)

pub returns-in-End-clause-array : goal.returns-in-End-clause-array
returns-in-End-clause-array c = λ s a b times p served h own st.
    let it = subst (λ (e : Event). IsOwnEvent a c.args.self.now.units.dev
    c.args.served.now.unit p c.args.served.now c.args.self.now.standing e) c.in-End.is own in
    let step = subst (λ (e : Event). IsStep s e a b) c.in-End.is st in
    c.end.ensures.array s a b times p c.in-End.field-1 served h it.1
    (subst (λ (x : ProcId). IsStep s (events.End x c.in-End.field-1) a b) it.0 step)

pub returns-in-Lost-clause-array : goal.returns-in-Lost-clause-array
returns-in-Lost-clause-array c = λ s a b times p served h own st.
    let it = subst (λ (e : Event). IsOwnEvent a c.args.self.now.units.dev
    c.args.served.now.unit p c.args.served.now c.args.self.now.standing e) c.in-Lost.is own in
    let step = subst (λ (e : Event). IsStep s e a b) c.in-Lost.is st in
    c.lose.ensures.array s a b times p served h (subst (λ (x : ProcId). IsStep s (events.Lost x) a b) it step)
