use Rattle.std.proofs.Common.{◌∙◌, Bool, not, ap}
use Rattle.bus_run.proofs.Others.{stays_known}
use Rattle.bus_run.proofs.asking.see_away.Goals as goal

pub returns-else-is_none : goal.returns-else-is_none
returns-else-is_none c = λ s rows row d k h.
    stays_known c.devices_know_enough.ensures.others s rows row c.args.kept.now c.args.away.now
    (c.is_none.ensures ∙ ap (λ (q : Bool). not q) c.if-is_none.false) k d h
