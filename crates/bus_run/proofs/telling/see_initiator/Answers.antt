use Rattle.std.proofs.Common.{ℕ, ◌≡◌, ◌<◌, ◌∷◌, ◌∙◌, Some, length, get_or, sym, subst, arith}
use Rattle.bus_trace.specs.Terms.{connection}
use Rattle.bus_run.specs.Places.{AreKnownBut}
use Rattle.bus_run.proofs.OnePlace.{read_at}
use Rattle.bus_run.proofs.Told.{one_told, initiator_is, in_named}
use Rattle.bus_run.proofs.telling.see_initiator.Goals as goal

pub returns-clause-told : goal.returns-clause-told
returns-clause-told g c = λ s rows a e stands p.
    let row = c.args.row.now in
    let n = c.args.ends.now in
    let one = c.get-first.result in
    let ys = c.see_in.new.places in
    let first : one ≡ n.initiator = c.get-first.ensures.number in
    let here = c.see_in.ensures.seen s rows a e (λ none m k other. absurd
    (other (initiator_is (connection (row ∷ rows)) n m one stands k first))) (p one c.get-first.ensures.small) in
    subst (λ (z : ℕ). AreKnownBut g.D.Device.IsOf s rows row 0 (Some z) ys) first (one_told g.D.Device.IsOf s rows row
    one c.args.places.now ys c.get-first.ensures.small (λ q. here) c.see_in.ensures.others p)

pub returns-clause-process : goal.returns-clause-process
returns-clause-process g c = λ s rows a e stands p.
    let row = c.args.row.now in
    let n = c.args.ends.now in
    let one = c.get-first.result in
    let ys = c.see_in.new.places in
    let x = c.index-places-first.result in
    let first : one ≡ n.initiator = c.get-first.ensures.number in
    let inside : one < length ys = omega (arith, c.see_in.auto.places, c.requires.eight, c.get-first.ensures.small) in
    let here = c.see_in.ensures.seen s rows a e (λ none m k other. absurd
    (other (initiator_is (connection (row ∷ rows)) n m one stands k first))) (p one c.get-first.ensures.small) in
    c.process_in.ensures s (row ∷ rows) n a.tied (in_named g.D.Device.IsOf s (row ∷ rows) ys one n
    (get_or ys one x) first (sym c.index-places-first.is ∙ read_at ys one x inside c.index-places-first.is) here) stands
