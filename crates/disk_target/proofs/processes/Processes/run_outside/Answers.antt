use Rattle.std.proofs.Common.{ℕ, ◌≡◌, sym, subst, Some, true}
use Rattle.bus_base.specs.declared.Event.TheVariants as events
use Rattle.bus_base.specs.declared.ProcId.{ProcId}
use Rattle.array_model.specs.Seats.{seat_of, is_initiator}
use Rattle.array_model.specs.Units.{guest_at}
use Rattle.target_course.specs.target_units.specs.Units.{IsStep, taken_of}
use Rattle.disk_target.specs.declared.standing.Standing.{Standing}
use Rattle.disk_target.specs.Standings.{IsServed, IsStanding, is_guest}
use Rattle.disk_target.specs.Processes.{ProcessesState, AreProcessesAt}
use Rattle.disk_target.proofs.ProcessEvents
use Rattle.disk_target.proofs.processes.Processes.run_outside.Goals as goal

pub returns-clause-array : goal.returns-clause-array
returns-clause-array c = λ s a b times p served h stood block st.
    let n : ℕ = c.args.served.now.unit in
    let dev : ℕ = c.self.inside.units.dev in
    let g = subst (λ (v : ProcessesState). AreProcessesAt s a times p n v) (sym c.self.view_is) h in
    let k = subst (λ (v : ProcessesState). IsServed s v.units.dev p c.args.served.now) (sym c.self.view_is) served in
    let step : IsStep s (events.Run c.args.served.now.id) a b = subst
    (λ (x : ProcId). IsStep s (events.Run x) a b) k.id_is st in
    let it = ProcessEvents.guest_of c.self.inside.standing
    (subst (λ (v : ProcessesState). is_guest v.standing ≡ true) (sym c.self.view_is) stood) in
    let at = subst (λ (v : Standing). IsStanding (seat_of a dev n) p v) it.is g.standing in
    ProcessEvents.made s a b times c.args.now p n dev _ c.run.ensures.dev (c.run.ensures.guest s a b times p at.guest
    g.units k.own k.id_is (subst (λ (x : ProcId). guest_at (seat_of a dev n).guests x ≡ Some at.guest) k.id_is at.at)
    (ProcessEvents.guest_sense s a b p dev n it.reply st k.own at) step) (ProcessEvents.guest_ran s a
    b p dev n (taken_of a p) it.reply c.plan-plan.result c.planned_reply.result st k.own at
    (c.plan-plan.ensures.array s a times p g.units (subst (λ (x : ℕ). is_initiator s.hosts x ≡ true) k.from_is k.host)
    k.own.target_is k.own.unit_is k.from_is block) c.planned_reply.ensures)
