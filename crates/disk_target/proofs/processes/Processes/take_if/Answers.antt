use Rattle.std.proofs.Common.{◌≡◌, ◌∙◌, sym, subst}
use Rattle.bus_base.specs.declared.Event.{Event}
use Rattle.target_course.specs.target_units.specs.Units.{IsStep}
use Rattle.disk_target.specs.Processes.{IsOwnEvent}
use Rattle.disk_target.proofs.processes.Processes.take_if.Goals as goal

pub returns-in-Some-clause-array : goal.returns-in-Some-clause-array
returns-in-Some-clause-array c = λ s a b times p it is served h own st.
    let same : c.in-Some.event ≡ it = (let e = sym c.in-Some.is ∙ is in cc) in
    c.take.ensures.array s a b times p served h (subst (λ (x : Event). IsOwnEvent a c.args.self.now.units.dev
    c.args.served.now.unit p c.args.served.now c.args.self.now.standing x) (sym same) own)
    (subst (λ (x : Event). IsStep s x a b) (sym same) st)
