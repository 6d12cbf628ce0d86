use Rattle.std.proofs.Common.{ℕ, ◌≡◌, sym, subst}
use Rattle.bus_base.specs.declared.Event.TheVariants as events
use Rattle.bus_base.specs.declared.ProcId.{ProcId}
use Rattle.array_model.specs.Seats.{seat_of}
use Rattle.target_course.specs.target_units.specs.Units.{IsStep}
use Rattle.disk_target.specs.declared.standing.Standing.{Standing}
use Rattle.disk_target.specs.declared.standing.Standing.TheVariants as standings
use Rattle.disk_target.specs.Standings.{IsServed, IsStanding, words_of}
use Rattle.disk_target.specs.Processes.{ProcessesState, AreProcessesAt}
use Rattle.disk_target.proofs.ProcessEvents
use Rattle.disk_target.proofs.processes.Processes.accept.Goals as goal

pub returns-clause-array : goal.returns-clause-array
returns-clause-array c = λ s a b times p served h stood block st.
    let n : ℕ = c.args.served.now.unit in
    let dev : ℕ = c.self.inside.units.dev in
    let g = subst (λ (v : ProcessesState). AreProcessesAt s a times p n v) (sym c.self.view_is) h in
    let k = subst (λ (v : ProcessesState). IsServed s v.units.dev p c.args.served.now) (sym c.self.view_is) served in
    let step : IsStep s (events.Accept c.args.served.now.id) a b = subst
    (λ (x : ProcId). IsStep s (events.Accept x) a b) k.id_is st in
    let at = subst (λ (v : Standing). IsStanding (seat_of a dev n) p v)
    (subst (λ (v : ProcessesState). v.standing ≡ standings.Nowhere) (sym c.self.view_is) stood) g.standing in
    ProcessEvents.made s a b times c.args.now p n dev _ c.accept.ensures.dev
    (c.accept.ensures.array s a b times p g.units k.own (words_of s dev p c.args.served.now k block)
    (ProcessEvents.new_of s.hosts (seat_of a dev n) p k.host at) step)
    (ProcessEvents.accepted_standing s a b p dev n c.room.result c.args.served.now.cdb.now c.is_outside-outside.result
    c.standing_on_arrival-self-inside.result st k.own at (c.room.ensures s a times st.sound g.units) block
    c.is_outside-outside.ensures c.standing_on_arrival-self-inside.ensures)
