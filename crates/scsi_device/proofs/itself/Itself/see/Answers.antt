use Rattle.std.proofs.Common.{◌≡◌, ◌^◌, ◌∷◌, ◌∙◌, ap, sym}
use Rattle.bus_lines.specs.declared.effect.RowEffect.{RowEffect}
use Rattle.scsi_device.specs.Itself.{ItselfValue}
use Rattle.scsi_device.proofs.OwnRows.{others_rows, own_rows}
use Rattle.scsi_device.proofs.itself.Itself.see.Goals as goal

pub see_own-requires : goal.see_own-requires
see_own-requires c = c.last_time.ensures.timely (2 ^ 63) c.requires

pub returns-then-row-self-clause-trace : goal.returns-then-row-self-clause-trace
returns-then-row-self-clause-trace c = λ s rows v h.
    let dev : c.self.inside.dev ≡ c.args.self.now.dev = λ i. let z : ItselfValue = c.self.view_is i in z.dev in
    others_rows s rows c.args.row.now c.args.self.now (λ e. c.if-row-self.true (e ∙ sym dev)) h

pub returns-clause-trace : goal.returns-clause-trace
returns-clause-trace c = λ s rows v h.
    let dev : c.self.inside.dev ≡ c.args.self.now.dev = λ i. let z : ItselfValue = c.self.view_is i in z.dev in
    own_rows s rows c.args.row.now c.args.self.now _ _ _ (c.if-row-self.false ∙ dev) c.see_own.ensures
    (ap (λ (e : RowEffect). e.change) (c.effect.ensures.trace (c.args.row.now ∷ rows) v))
    (c.last_time.ensures.trace (c.args.row.now ∷ rows) v) h

pub returns-clause-dev : goal.returns-clause-dev
returns-clause-dev c = ap (λ (v : ItselfValue). v.dev) c.see_own.ensures
