use Rattle.bus_engine.proofs.Held.{target_is, never_calls}
use Rattle.bus_engine.proofs.member.MemberDevice.process.Goals as goal

pub returns-in-Target : goal.returns-in-Target
returns-in-Target c = λ s rows dev n t h k e. absurd (never_calls s rows dev c.in-Target.field-0 n
    (target_is s rows dev c.args.self.now c.in-Target.field-0 c.in-Target.is h) t k e)
