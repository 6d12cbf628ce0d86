use Rattle.std.proofs.Common.{◌∷◌, ◌∙◌, refl}
use Rattle.bus_run.proofs.running.tell.Goals as goal

pub see_all-requires-clause-timely : goal.see_all-requires-clause-timely
see_all-requires-clause-timely g c =
    let seen = c.requires.seen in
    c.observers_are_timely.ensures (c.args.row.now ∷ seen.rows) (c.step.ensures seen.rows seen.observed)
    (c.requires.early, seen.early)

pub returns-clause-places : goal.returns-clause-places
returns-clause-places g c = λ s rows a p. c.see_all.ensures s rows a (c.as_slice.ensures
    ∙ c.row_shown-shown.ensures s rows a p) (c.connection_kept-kept.ensures rows c.args.row.now a.observed refl) p

pub returns-clause-away : goal.returns-clause-away
returns-clause-away g c = λ s rows a h. c.see_away.ensures s rows c.args.row.now a.devices
    (c.connection_kept-kept.ensures rows c.args.row.now a.observed refl) h
