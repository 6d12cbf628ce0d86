use Rattle.std.proofs.Common.{◌≡◌, ◌∙◌, true, false, None, sym}
use Rattle.std.specs.Prelude.{if◌then◌else◌}
use Rattle.due_model.specs.Next.{due}
use Rattle.bus_run.specs.Away.{is_end_if, sooner_row}
use Rattle.bus_run.proofs.asking.ask_besides.Goals as goal

pub returns-then-not-is_end_if-clause-exact : goal.returns-then-not-is_end_if-clause-exact
returns-then-not-is_end_if-clause-exact g c = λ s rows a p f.
    let dev = c.args.dev in
    let apart : is_end_if c.args.connection.now dev ≡ false = sym c.is_end_if.ensures ∙ c.if-not-is_end_if.true in
    c.ask_in.ensures.exact s rows a p f
    ∙ (λ i. sooner_row (if sym apart i then None else due s rows dev) dev c.args.first.now)

pub returns-else-not-is_end_if-clause-exact : goal.returns-else-not-is_end_if-clause-exact
returns-else-not-is_end_if-clause-exact g c = λ s rows a p f.
    let dev = c.args.dev in
    let same : is_end_if c.args.connection.now dev ≡ true = sym c.is_end_if.ensures ∙ c.if-not-is_end_if.false in
    λ i. sooner_row (if sym same i then None else due s rows dev) dev c.args.first.now
