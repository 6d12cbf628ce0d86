use Rattle.std.proofs.Common.{◌≡◌, ◌∙◌, true, false, sym}
use Rattle.bus_run.proofs.Told.{told, skipped}
use Rattle.bus_run.proofs.telling.see_unless.Goals as goal
use Rattle.due_model.specs.bus_rules.specs.Order.{is_of_device}

pub returns-then-not-is_of_device : goal.returns-then-not-is_of_device
returns-then-not-is_of_device g c = λ s rows a e l h.
    let apart : is_of_device c.args.one c.args.dev ≡ false = sym c.is_of_device.ensures ∙ c.if-not-is_of_device.true in
    told g.D.Device.IsOf s rows c.args.news.now.row.now c.args.dev c.args.one c.args.places.now c.see_in.new.places
    c.requires.place apart (c.see_in.ensures.seen s rows a e (λ none n k other. l n k)) c.see_in.ensures.others h

pub returns-else-not-is_of_device : goal.returns-else-not-is_of_device
returns-else-not-is_of_device g c = λ s rows a e l h.
    let yes : is_of_device c.args.one c.args.dev ≡ true = sym c.is_of_device.ensures ∙ c.if-not-is_of_device.false in
    skipped g.D.Device.IsOf s rows c.args.news.now.row.now c.args.dev c.args.one c.args.places.now yes h
