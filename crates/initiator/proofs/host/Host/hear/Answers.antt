use Rattle.std.proofs.Common.{◌∷◌, ◌∙◌, sym, subst}
use Rattle.initiator.specs.Hosts.{HostValue, IsHostAfter, HasHeard}
use Rattle.initiator.proofs.Still.{still_heard}
use Rattle.initiator.proofs.host.Host.hear.Goals as goal

pub returns-then-is_still-clause-trace : goal.returns-then-is_still-clause-trace
returns-then-is_still-clause-trace c = λ s rows row f o d shown h.
    let g = subst (λ (v : HostValue). IsHostAfter s rows v) (sym c.self.view_is) h in
    let e = c.effect-effect.ensures.trace (row ∷ rows) (c.view.ensures.trace (row ∷ rows) o) in
    subst (λ (v : HostValue). HasHeard s rows row v) c.self.view_is
    (still_heard s rows row _ c.hearing.result.now c.effect-effect.result.now.before c.effect-effect.result.now.after
    c.args.shown.now (c.kept_is_plain.ensures.rows s rows d.1) (c.kept_is_plain.ensures.rows s (row ∷ rows) d)
    (c.hearings_are_plain.ensures.hearing s rows row d.1 d.0) d (c.hearing.ensures (row ∷ rows) o) (λ j. (e j).before)
    (λ j. (e j).after) shown (sym c.is_still.ensures ∙ c.if-is_still.true) g)
