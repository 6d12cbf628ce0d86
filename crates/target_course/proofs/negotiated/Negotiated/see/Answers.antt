use Rattle.std.proofs.Common.{◌∷◌, ◌∙◌, ap, sym, subst, refl}
use Rattle.bus_trace.specs.LineSet.{LineSet}
use Rattle.target_course.specs.Negotiated.{NegotiatedValue, met_after_events, IsNegotiatedOf}
use Rattle.target_course.proofs.NegotiatedRows.{negotiated_goes_on, same_target}
use Rattle.target_course.proofs.negotiated.Negotiated.see.Goals as goal

pub returns-clause-trace : goal.returns-clause-trace
returns-clause-trace c = λ s rows row d told b a shown hears says h. subst (λ (z : NegotiatedValue). IsNegotiatedOf s
    (row ∷ rows) z) (sym (c.see_all.ensures ∙ (λ i. met_after_events (c.see_connection.ensures i) c.args.shown.now)))
    (negotiated_goes_on s rows row c.args.self.now c.args.aborts c.args.hearing.now
    c.args.before c.args.after c.args.shown.now (c.kept_is_plain.ensures.rows s rows d.1)
    (c.kept_is_plain.ensures.rows s (row ∷ rows) d) (c.hearings_are_plain.ensures.hearing s rows row d.1 d.0)
    (c.lines_on_the_bus.ensures.on (λ (z : LineSet). z.rst) (λ x y. refl) rows)
    (c.lines_on_the_bus.ensures.off (λ (z : LineSet). z.rst) (λ x y. refl) refl (row ∷ rows)) d told b a shown hears
    says h)

pub returns-clause-dev : goal.returns-clause-dev
returns-clause-dev c = ap (λ (z : NegotiatedValue). z.dev)
    (c.see_all.ensures ∙ (λ i. met_after_events (c.see_connection.ensures i) c.args.shown.now))
    ∙ same_target c.args.self.now c.args.aborts c.args.hearing.now c.args.before c.args.after c.args.shown.now
