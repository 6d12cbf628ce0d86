use Rattle.std.proofs.Common.{ℕ, ◌≡◌, ◌∷◌, ◌∙◌, Some, sym, subst}
use Rattle.bus_trace.specs.Terms.{connection}
use Rattle.bus_run.specs.Places.{AreKnownBut}
use Rattle.bus_run.proofs.telling.see_any.Goals as goal

pub returns-in-Some : goal.returns-in-Some
returns-in-Some g c = λ s rows a e p.
    let row = c.args.row.now in
    let n = c.in-Some.ends in
    let stands : connection (row ∷ rows) ≡ Some n =
    sym (c.connection.ensures.trace (row ∷ rows) (c.view.ensures.trace (row ∷ rows) a.observed)) ∙ c.in-Some.is in
    c.see_others-in-Some.ensures s rows a e (λ m k. c.see_initiator-label.ensures.process s rows a e stands p)
    (subst (λ (z : ℕ). AreKnownBut g.D.Device.IsOf s rows row 0 (Some z) c.see_initiator-label.new.places)
    (sym c.get-first.ensures.number) (c.see_initiator-label.ensures.told s rows a e stands p))
