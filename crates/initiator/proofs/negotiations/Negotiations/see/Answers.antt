use Rattle.std.proofs.Common.{◌∷◌, ◌∙◌, ap, sym, subst}
use Rattle.initiator.specs.Negotiations.{NegotiationsValue, had_after_events, IsNegotiationsOf}
use Rattle.initiator.proofs.NegotiationRows.{negotiations_go_on, same_by_connection, same_after_events}
use Rattle.initiator.proofs.negotiations.Negotiations.see.Goals as goal

pub returns-clause-trace : goal.returns-clause-trace
returns-clause-trace c = λ s rows row d b a e told h.
    subst (λ (z : NegotiationsValue). IsNegotiationsOf s (row ∷ rows) z)
    (sym (c.see_all.ensures ∙ (λ i. had_after_events (c.see_connection.ensures i) c.args.shown.now)))
    (negotiations_go_on s rows row c.args.self.now c.args.process c.args.before c.args.after c.args.shown.now
    (c.kept_is_plain.ensures.rows s rows d.1) (c.kept_is_plain.ensures.rows s (row ∷ rows) d) b a e told h)

pub returns-clause-dev : goal.returns-clause-dev
returns-clause-dev c =
    ap (λ (z : NegotiationsValue). z.dev) c.see_all.ensures
    ∙ same_after_events c.see_connection.new.self c.args.shown.now
    ∙ ap (λ (z : NegotiationsValue). z.dev) c.see_connection.ensures
    ∙ same_by_connection c.args.self.now c.args.process c.args.before c.args.after
