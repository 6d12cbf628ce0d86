use Rattle.std.proofs.Common.{None}
use Rattle.std.specs.Prelude.{slice_index_or}
use Rattle.disk_unit.specs.Held.{taken_now}
use Rattle.target_units.proofs.Tellings.{planned, plan_seen}
use Rattle.target_units.proofs.seated.SeatedUnit.plan.Goals as goal

pub returns-clause-exact : goal.returns-clause-exact
returns-clause-exact c = planned c.args.self.now.contents (slice_index_or c.args.self.now.books.senses c.args.from None)
    (slice_index_or c.args.self.now.books.attentions c.args.from None) c.args.cdb.now
    (taken_now c.args.self.now.contents c.args.cdb.now) c.plan_now.result c.plan_now.ensures

pub returns-clause-seat : goal.returns-clause-seat
returns-clause-seat c = λ hosts seat time sent h host. plan_seen hosts seat time
    c.args.self.now c.args.from c.args.cdb.now sent c.plan_now.result c.requires.device
    (planned c.args.self.now.contents (slice_index_or c.args.self.now.books.senses c.args.from None)
    (slice_index_or c.args.self.now.books.attentions c.args.from None) c.args.cdb.now
    (taken_now c.args.self.now.contents c.args.cdb.now) c.plan_now.result c.plan_now.ensures) h host
