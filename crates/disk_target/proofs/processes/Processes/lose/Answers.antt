use Rattle.std.proofs.Common.{ℕ, sym, subst}
use Rattle.bus_base.specs.declared.Event.TheVariants as events
use Rattle.bus_base.specs.declared.ProcId.{ProcId}
use Rattle.target_course.specs.target_units.specs.Units.{IsStep}
use Rattle.disk_target.specs.Standings.{IsServed}
use Rattle.disk_target.specs.Processes.{ProcessesState, AreProcessesAt}
use Rattle.disk_target.proofs.ProcessEvents
use Rattle.disk_target.proofs.processes.Processes.lose.Goals as goal

pub returns-clause-array : goal.returns-clause-array
returns-clause-array c = λ s a b times p served h st.
    let n : ℕ = c.args.served.now.unit in
    let dev : ℕ = c.self.inside.units.dev in
    let g = subst (λ (v : ProcessesState). AreProcessesAt s a times p n v) (sym c.self.view_is) h in
    let k = subst (λ (v : ProcessesState). IsServed s v.units.dev p c.args.served.now) (sym c.self.view_is) served in
    let step : IsStep s (events.Lost c.args.served.now.id) a b = subst
    (λ (x : ProcId). IsStep s (events.Lost x) a b) k.id_is st in
    ProcessEvents.made s a b times c.args.now p n dev _ c.lose.ensures.dev
    (c.lose.ensures.array s a b times p g.units k.own k.id_is step) (ProcessEvents.lost s a b p dev n st k.own)
