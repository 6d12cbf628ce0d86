use Rattle.std.proofs.Common.{◌∷◌, ◌∙◌, refl, sym, ap}
use Rattle.bus_lines.specs.declared.effect.RowEffect.{RowEffect}
use Rattle.disk_target.specs.Bytes.{are_own}
use Rattle.disk_target.proofs.Apart.{in_own}
use Rattle.disk_target.proofs.bytes.stands_in_own.Goals as goal

pub returns : goal.returns
returns c = λ rows row v e. in_own rows row c.args.dev _ _ refl refl (sym (ap
    (λ (x : RowEffect). are_own x.before x.after x.change c.args.dev) (c.effect-effect.ensures.trace (row ∷ rows) v))
    ∙ sym c.are_own.ensures ∙ e)
