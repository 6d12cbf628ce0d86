use Rattle.std.proofs.Common.{ℕ, ◌≡◌, sym, subst, None}
use Rattle.bus_base.specs.declared.Event.TheVariants as events
use Rattle.bus_base.specs.declared.ProcId.{ProcId}
use Rattle.array_model.specs.Seats.{seat_of}
use Rattle.array_model.specs.Units.{guest_at}
use Rattle.target_course.specs.target_units.specs.Units.{IsStep}
use Rattle.disk_target.specs.Standings.{IsServed, outcome_of}
use Rattle.disk_target.specs.Processes.{ProcessesState, AreProcessesAt}
use Rattle.disk_target.proofs.ProcessEvents
use Rattle.disk_target.proofs.processes.Processes.end_inside.Goals as goal

pub returns-clause-array : goal.returns-clause-array
returns-clause-array c = λ s a b times p status served h stood st.
    let n : ℕ = c.args.served.now.unit in
    let dev : ℕ = c.self.inside.units.dev in
    let g = subst (λ (v : ProcessesState). AreProcessesAt s a times p n v) (sym c.self.view_is) h in
    let k = subst (λ (v : ProcessesState). IsServed s v.units.dev p c.args.served.now) (sym c.self.view_is) served in
    let step : IsStep s (events.End c.args.served.now.id status) a b = subst
    (λ (x : ProcId). IsStep s (events.End x status) a b) k.id_is st in
    let none = ProcessEvents.ends_inside s a b p status dev n c.self.inside.standing
    (subst (λ (v : ProcessesState). outcome_of v.standing ≡ None) (sym c.self.view_is) stood) st k.own g.standing in
    ProcessEvents.made s a b times c.args.now p n dev _ c.end.ensures.dev (c.end.ensures.array s a b times p status
    g.units k.own k.id_is (subst (λ (x : ProcId). guest_at (seat_of a dev n).guests x ≡ None) k.id_is none) step)
    (ProcessEvents.inside_ended s a b p status dev n st k.own none)
