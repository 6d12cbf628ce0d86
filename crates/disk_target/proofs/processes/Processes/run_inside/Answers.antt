use Rattle.std.proofs.Common.{ℕ, ◌≡◌, sym, subst, false, None}
use Rattle.bus_base.specs.declared.Event.TheVariants as events
use Rattle.bus_base.specs.declared.ProcId.{ProcId}
use Rattle.array_model.specs.ArrayHistory.{reply_in}
use Rattle.array_model.specs.Seats.{seat_of}
use Rattle.array_model.specs.Units.{guest_at}
use Rattle.target_course.specs.target_units.specs.Seated.{HasSent}
use Rattle.target_course.specs.target_units.specs.Units.{IsStep}
use Rattle.disk_target.specs.Standings.{IsServed, is_guest}
use Rattle.disk_target.specs.Processes.{ProcessesState, AreProcessesAt}
use Rattle.disk_target.proofs.ProcessEvents
use Rattle.disk_target.proofs.processes.Processes.run_inside.Goals as goal

pub returns-clause-array : goal.returns-clause-array
returns-clause-array c = λ s a b times p served h stood inner st.
    let n : ℕ = c.args.served.now.unit in
    let dev : ℕ = c.self.inside.units.dev in
    let g = subst (λ (v : ProcessesState). AreProcessesAt s a times p n v) (sym c.self.view_is) h in
    let k = subst (λ (v : ProcessesState). IsServed s v.units.dev p c.args.served.now) (sym c.self.view_is) served in
    let step : IsStep s (events.Run c.args.served.now.id) a b = subst
    (λ (x : ProcId). IsStep s (events.Run x) a b) k.id_is st in
    let inside = subst (λ (v : ProcessesState). is_guest v.standing ≡ false) (sym c.self.view_is) stood in
    let none = ProcessEvents.none_outside (seat_of a dev n) p c.self.inside.standing inside g.standing in
    ProcessEvents.made s a b times c.args.now p n dev _ c.run.ensures.dev (c.run.ensures.array s a b times p
    g.units k.own k.id_is (subst (λ (x : ProcId). guest_at (seat_of a dev n).guests x ≡ None) k.id_is none)
    (subst (λ (v : ProcessesState). HasSent (seat_of a v.units.dev n) p c.args.served.now.sent.now) (sym c.self.view_is)
    inner.sent) (subst (λ (x : ProcId). reply_in a.replies x ≡ None) k.id_is inner.unanswered) step)
    (ProcessEvents.no_guest_ran s a b p dev n c.self.inside.standing inside st k.own g.standing)
