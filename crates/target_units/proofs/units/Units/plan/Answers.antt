use Rattle.std.proofs.Common.{ℕ, ◌∙◌, refl, sym}
use Rattle.array_model.specs.Seats.{context_of, seat_of}
use Rattle.disk_unit.specs.Plans.{plan_of}
use Rattle.scenario.specs.Lookups.{has_target}
use Rattle.due_model.specs.Tasks.{reply_now}
use Rattle.due_model.specs.Wants.{since_of}
use Rattle.target_units.specs.Seated.{taken_in}
use Rattle.target_units.proofs.Sendings.{taken_sent}
use Rattle.target_units.proofs.Tellings.{taken_good}
use Rattle.target_units.proofs.UnitSteps.{unit_seen}
use Rattle.target_units.proofs.UnitTellings.{reply_same}
use Rattle.target_units.proofs.units.Units.plan.Goals as goal

pub returns-clause-array : goal.returns-clause-array
returns-clause-array c = λ s a times p h host target unit from cdb.
    let dev : ℕ = c.args.self.now.dev in
    let n : ℕ = c.args.unit in
    let seen = unit_seen s a times dev n c.args.self.now.units c.self.inside.units
    c.index-self-unit.result c.requires.unit h (λ i. (c.self.view_is i).units) in
    c.plan.ensures.seat s.hosts (seat_of a dev n) (since_of a.units times dev n) p.sent seen host
    ∙ (λ i. plan_of (reply_same a dev n c.args.from c.args.cdb.now p target unit from cdb i)
    (taken_in (context_of (seat_of a dev n) c.args.from) c.args.cdb.now))
    ∙ (λ i. plan_of (reply_now a p)
    (taken_in (context_of (seat_of a (sym target i) (sym unit i)) (sym from i)) (sym cdb i)))

pub returns-clause-taken : goal.returns-clause-taken
returns-clause-taken c = λ s a times p h host target unit from cdb is writes good.
    (λ i. (returns-clause-array c s a times p h host target unit from cdb i).out_len)
    ∙ taken_good (context_of (seat_of a p.target p.unit) p.initiator) p.cdb p.sent
    ((λ i. (reply_same a p.target p.unit p.initiator p.cdb p refl refl refl refl i).status) ∙ good)
    ∙ taken_sent s a p h.room.fits h.room.lines h.room.kinds ((λ i. has_target s (target i)) ∙ h.room.target) is writes
    good
