use Rattle.std.proofs.Common.{ℕ, ◌≡◌, ◌∙◌, sym, subst, Some}
use Rattle.array_model.specs.Seats.{seat_of}
use Rattle.array_model.specs.Execution.{is_request_sense}
use Rattle.cdb_codec.specs.Cdb.{command_of}
use Rattle.disk_target.specs.declared.standing.Standing.{Standing}
use Rattle.disk_target.specs.declared.standing.Standing.TheVariants as standings
use Rattle.disk_target.specs.Standings.{IsServed, IsStanding}
use Rattle.disk_target.specs.Processes.{ProcessesState, AreProcessesAt}
use Rattle.disk_target.proofs.ProcessEvents
use Rattle.disk_target.proofs.processes.Processes.end_outside.Goals as goal

pub returns-clause-array : goal.returns-clause-array
returns-clause-array c = λ s a b times p status served h stood known st.
    let n : ℕ = c.args.served.now.unit in
    let dev : ℕ = c.self.inside.units.dev in
    let g = subst (λ (v : ProcessesState). AreProcessesAt s a times p n v) (sym c.self.view_is) h in
    let k = subst (λ (v : ProcessesState). IsServed s v.units.dev p c.args.served.now) (sym c.self.view_is) served in
    let at = subst (λ (v : Standing). IsStanding (seat_of a dev n) p v)
    (subst (λ (v : ProcessesState). v.standing ≡ standings.Guest (Some c.args.reply.now)) (sym c.self.view_is) stood)
    g.standing in
    let r = ProcessEvents.replied (seat_of a dev n) p c.args.reply.now at in
    ProcessEvents.made s a b times c.args.now p n dev _ c.end_guest.ensures.dev
    (c.end_guest.ensures.array s a b times p r.given status g.units k.own r.at k.from_is r.told (λ good. (λ i.
    is_request_sense (command_of (known (ProcessEvents.good_end s a b p status dev n r.given st k.own r.at good) i)))
    ∙ sym c.is_request_sense-senses.ensures) st)
    (ProcessEvents.guest_ended s a b p status dev n c.args.reply.now st k.own at)
