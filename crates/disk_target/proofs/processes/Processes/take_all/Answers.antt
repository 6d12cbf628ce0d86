use Rattle.std.proofs.Common.{ℕ, ◌≡◌, ◌∙◌, refl, sym, subst, List}
use Rattle.bus_base.specs.declared.Event.TheVariants as events
use Rattle.disk_target.specs.Standings.{IsServed}
use Rattle.disk_target.specs.Processes.{ProcessesState, AreProcessesAt, IsOwnEvent}
use Rattle.std.specs.Prelude.{slice_get}
use Rattle.due_model.specs.RunSteps.{current_times_after}
use Rattle.disk_target.proofs.TimesTwice.{twice, arrival_keeps}
use Rattle.disk_target.proofs.processes.Processes.take_all.Goals as goal

pub returns-clause-nothing : goal.returns-clause-nothing
returns-clause-nothing c = λ is.
    c.take_if-2.ensures.none (c.event_at-2.ensures ∙ (λ i. slice_get (is i) 0))
    ∙ c.take_if.ensures.none (c.event_at.ensures ∙ (λ i. slice_get (is i) 1))

pub returns-clause-one : goal.returns-clause-one
returns-clause-one c = λ s a b times p it is served h own st.
    let same : c.take_if.new.self ≡ c.args.self.now = c.take_if.ensures.none
    (c.event_at.ensures ∙ (λ i. slice_get (is i) 1)) in
    c.take_if-2.ensures.array s a b times p it (c.event_at-2.ensures ∙ (λ i. slice_get (is i) 0))
    (subst (λ (v : ProcessesState). IsServed s v.units.dev p c.args.served.now) (sym same) served)
    (subst (λ (v : ProcessesState). AreProcessesAt s a times p c.args.served.now.unit v) (sym same) h)
    (subst (λ (v : ProcessesState). IsOwnEvent a v.units.dev c.args.served.now.unit p c.args.served.now v.standing it)
    (sym same) own) st

pub returns-clause-two : goal.returns-clause-two
returns-clause-two c = λ s a b d times p it is served h new block own arrives st.
    let mid = c.take_if.ensures.array s a b times p (events.Accept p.id)
    (c.event_at.ensures ∙ (λ i. slice_get (is i) 1)) served h (refl, new, block) arrives in
    let dev = c.take_if.ensures.dev in
    subst (λ (ts : List ℕ). AreProcessesAt s d ts p c.args.served.now.unit c.take_if-2.new.self)
    (twice a.units b.units d.units times c.args.now (arrival_keeps s a b p.id arrives.step_is))
    (c.take_if-2.ensures.array s b d (current_times_after a.units b.units times c.args.now) p it
    (c.event_at-2.ensures ∙ (λ i. slice_get (is i) 0))
    (subst (λ (x : ℕ). IsServed s x p c.args.served.now) (sym dev) served) mid
    (subst (λ (x : ℕ). IsOwnEvent b x c.args.served.now.unit p c.args.served.now c.take_if.new.self.standing it)
    (sym dev) (own c.take_if.new.self.standing)) st)
