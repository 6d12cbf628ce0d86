use Rattle.std.proofs.Common.{◌≡◌, ◌<◌, ◌∙◌, length, arith}
use Rattle.due_model.specs.Next.{due}
use Rattle.bus_run.specs.Away.{sooner_row}
use Rattle.bus_run.proofs.OnePlace.{read_at, in_at}
use Rattle.bus_run.proofs.Sooner.{ends_first}
use Rattle.bus_run.proofs.asking.first_at_ends.Goals as goal

pub returns-clause-exact : goal.returns-clause-exact
returns-clause-exact g c = λ s rows a p f h.
    let n = c.args.away.now.connection in
    let xs = c.args.places.now in
    let i = c.get-initiator.result in
    let t = c.get-target.result in
    let x = c.index-places-initiator.result in
    let y = c.index-places-target.result in
    let i_is : i ≡ n.initiator = c.get-initiator.ensures.number in
    let t_is : t ≡ n.target = c.get-target.ensures.number in
    let i_within : i < length xs = omega (arith, c.requires.eight, c.get-initiator.ensures.small) in
    let t_within : t < length xs = omega (arith, c.requires.eight, c.get-target.ensures.small) in
    let i_below : n.initiator < 8 = omega (arith, i_is, c.get-initiator.ensures.small) in
    let t_below : n.target < 8 = omega (arith, t_is, c.get-target.ensures.small) in
    c.ask_in-2.ensures.exact s rows a (in_at g.D.Device.IsOf s rows xs t y
    (read_at xs t y t_within c.index-places-target.is) (p t c.get-target.ensures.small)) f
    ∙ (λ j. sooner_row (due s rows t) t (c.ask_in.ensures.exact s rows a (in_at g.D.Device.IsOf s rows xs i x
    (read_at xs i x i_within c.index-places-initiator.is) (p i c.get-initiator.ensures.small)) f j))
    ∙ (λ j. sooner_row (due s rows (t_is j)) (t_is j) (sooner_row (due s rows (i_is j)) (i_is j) (h.first j)))
    ∙ ends_first (due s rows) n i_below t_below
