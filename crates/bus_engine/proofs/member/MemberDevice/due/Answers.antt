use Rattle.std.proofs.Common.{ℕ, ◌∙◌, ap}
use Rattle.due_model.specs.Next.{due}
use Rattle.bus_engine.proofs.Held.{target_is}
use Rattle.bus_engine.proofs.member.MemberDevice.due.Goals as goal

pub returns-in-Target : goal.returns-in-Target
returns-in-Target c = λ s rows dev a h f.
    let target = target_is s rows dev c.args.self.now c.in-Target.target c.in-Target.is h in
    c.due-in-Target.ensures s rows a.fits a.observed a.devices target.after f
    ∙ ap (λ (d : ℕ). due s rows d) target.named
