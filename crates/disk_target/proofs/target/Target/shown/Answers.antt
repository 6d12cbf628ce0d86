use Rattle.disk_target.proofs.target.Target.shown.Goals as goal

pub returns : goal.returns
returns c =
    λ s rows row n fits o devices told h. c.shown_known.ensures s rows row n fits o devices told h.servable h.knows
