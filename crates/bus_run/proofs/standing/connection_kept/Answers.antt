use Rattle.std.proofs.Common.{◌≡◌, ◌∙◌, ◌∷◌, Option, sym, subst}
use Rattle.std.specs.Prelude.{IfSome}
use Rattle.bus_trace.specs.declared.connection.Connection.{Connection}
use Rattle.bus_lines.specs.Effect.{effect}
use Rattle.bus_run.specs.Standing.{IsKept, kept_by}
use Rattle.bus_run.proofs.KeptRows.{kept_is}
use Rattle.bus_run.proofs.standing.connection_kept.Goals as goal

pub returns : goal.returns
returns c = λ rows row o e.
    let seen : c.effect.result.now ≡ effect (row ∷ rows) = c.effect.ensures.trace
    (row ∷ rows) (c.view.ensures.trace (row ∷ rows) o) in
    subst (λ (x : Option Connection). IfSome x (λ n. IsKept rows row n))
    (sym (c.kept_by.ensures ∙ (λ i. kept_by (seen i) (e i)))) (kept_is rows row)
