use Rattle.std.proofs.Common.{◌∷◌, sym, subst}
use Rattle.scenario.specs.declared.value.TargetDef.{TargetDef}
use Rattle.target_course.specs.States.{IsNoInitiator}
use Rattle.disk_target.proofs.Servables.{servable}
use Rattle.disk_target.proofs.target.Target.see.Goals as goal

pub returns-clause-trace : goal.returns-clause-trace
returns-clause-trace c = λ s rows fits o devices tied time away labels shown_is h.
    let knows = c.follow.ensures.trace s rows fits o devices tied time labels shown_is h.knows in
    record {
      knows = knows;
      heard_are = tied.heard_are;
      no_initiator =
          subst (λ (t : TargetDef). IsNoInitiator (c.args.row.now ∷ rows) t.dev) (sym c.follow.ensures.def) away;
      servable = servable s (c.args.row.now ∷ rows) _ time knows.line;
    }
