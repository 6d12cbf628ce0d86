use Rattle.std.proofs.Common.{◌≡◌, ◌<◌, ◌∷◌, ◌∙◌, true, false, Some, None, length, sym, ap, arith}
use Rattle.bus_lines.specs.declared.effect.RowEffect.{RowEffect}
use Rattle.bus_lines.specs.Effect.{effect}
use Rattle.bus_trace.specs.Changes.{change_of}
use Rattle.bus_trace.specs.Terms.{connection}
use Rattle.bus_run.specs.Shown.{teller}
use Rattle.bus_run.proofs.OnePlace.{read_at, in_at}
use Rattle.bus_run.proofs.Rows.{read, without_connection, after_reset, teller_shows}
use Rattle.bus_run.proofs.telling.row_shown.Goals as goal

pub returns-in-None : goal.returns-in-None
returns-in-None g c = λ s rows a p.
    let row = c.args.row.now in
    let e : c.effect-effect.result.now ≡ effect (row ∷ rows) = c.effect-effect.ensures.trace
    (row ∷ rows) (c.view.ensures.trace (row ∷ rows) a.observed) in
    let r : (change_of rows row).after.rst ≡ false = sym (ap (λ (x : RowEffect). x.change.after.rst) e)
    ∙ sym c.rst.ensures ∙ c.if-rst.false in
    let h : connection rows ≡ None = sym (ap (λ (x : RowEffect). x.before) e) ∙ c.in-None.is in
    without_connection s rows row (read s rows row (c.kept_is_plain.ensures.rows s rows a.devices.1)
    (c.kept_is_plain.ensures.rows s (row ∷ rows) a.devices)
    (c.hearings_are_plain.ensures.hearing s rows row a.devices.1 a.devices.0)) a.tied r h

pub returns-in-Some : goal.returns-in-Some
returns-in-Some g c = λ s rows a p.
    let row = c.args.row.now in
    let n = c.in-Some.connection in
    let xs = c.args.places.now in
    let dev = c.teller-dev.result in
    let x = c.index-places-dev.result in
    let inside : dev < length xs = omega (arith, c.requires, c.teller-dev.ensures.below) in
    let e : c.effect-effect.result.now ≡ effect (row ∷ rows) = c.effect-effect.ensures.trace
    (row ∷ rows) (c.view.ensures.trace (row ∷ rows) a.observed) in
    let r : (change_of rows row).after.rst ≡ false = sym (ap (λ (y : RowEffect). y.change.after.rst) e)
    ∙ sym c.rst.ensures ∙ c.if-rst.false in
    let b : (change_of rows row).before.rst ≡ false = sym (ap (λ (y : RowEffect). y.change.before.rst) e)
    ∙ sym c.rst-2.ensures ∙ c.if-rst-2.false in
    let h : connection rows ≡ Some n = sym (ap (λ (y : RowEffect). y.before) e) ∙ c.in-Some.is in
    let t : dev ≡ teller n (change_of rows row) (connection (row ∷ rows)) = c.teller-dev.ensures.exact
    ∙ ap (λ (y : RowEffect). teller n y.change y.after) e in
    teller_shows g.D.Device.IsOf s rows row n c.args.observer.now x dev _ a (read s rows row
    (c.kept_is_plain.ensures.rows s rows a.devices.1) (c.kept_is_plain.ensures.rows s (row ∷ rows) a.devices)
    (c.hearings_are_plain.ensures.hearing s rows row a.devices.1 a.devices.0)) b r h t (in_at g.D.Device.IsOf
    s rows xs dev x (read_at xs dev x inside c.index-places-dev.is) (p dev c.teller-dev.ensures.below))
    (record { target = c.shown_in.ensures.target; initiator = c.shown_in.ensures.initiator })

pub returns-then-rst-2 : goal.returns-then-rst-2
returns-then-rst-2 g c = λ s rows a p.
    let row = c.args.row.now in
    let e : c.effect-effect.result.now ≡ effect (row ∷ rows) = c.effect-effect.ensures.trace
    (row ∷ rows) (c.view.ensures.trace (row ∷ rows) a.observed) in
    let r : (change_of rows row).after.rst ≡ false = sym (ap (λ (y : RowEffect). y.change.after.rst) e)
    ∙ sym c.rst.ensures ∙ c.if-rst.false in
    let b : (change_of rows row).before.rst ≡ true = sym (ap (λ (y : RowEffect). y.change.before.rst) e)
    ∙ sym c.rst-2.ensures ∙ c.if-rst-2.true in
    after_reset s rows row (read s rows row (c.kept_is_plain.ensures.rows s rows a.devices.1)
    (c.kept_is_plain.ensures.rows s (row ∷ rows) a.devices)
    (c.hearings_are_plain.ensures.hearing s rows row a.devices.1 a.devices.0)) a.tied b r
