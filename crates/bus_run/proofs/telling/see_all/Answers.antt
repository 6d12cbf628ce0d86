use Rattle.std.proofs.Common.{◌≡◌, ◌∙◌, [], Option, sym, subst}
use Rattle.std.specs.Prelude.{IfSome}
use Rattle.std.proofs.lemmas.Bool.{eqb-true}
use Rattle.std.proofs.lemmas.List.{nil_from_length}
use Rattle.bus_trace.specs.declared.connection.Connection.{Connection}
use Rattle.bus_run.specs.Shown.{events_shown}
use Rattle.bus_run.specs.Standing.{IsKept}
use Rattle.bus_run.proofs.telling.see_all.Goals as goal

pub returns-in-Some : goal.returns-in-Some
returns-in-Some g c = λ s rows a e k p.
    let row = c.args.row.now in
    let none : events_shown s rows row ≡ [] = sym e
    ∙ nil_from_length c.args.shown.now (eqb-true _ _ (sym c.is_empty.ensures ∙ c.if-is_empty.true)) in
    let kept : IsKept rows row c.in-Some.ends = subst
    (λ (o : Option Connection). IfSome o (λ n. IsKept rows row n)) c.in-Some.is k in
    c.see_kept.ensures s rows a none kept p
