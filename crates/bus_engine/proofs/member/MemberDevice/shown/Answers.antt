use Rattle.std.proofs.Common.{◌∙◌, ◌∷◌, ap}
use Rattle.bus_trace.specs.declared.changes.Change.{Change}
use Rattle.bus_run.proofs.Rows.{read}
use Rattle.bus_run.proofs.Seams.{tied_before}
use Rattle.bus_engine.proofs.Held.{initiator_is, target_is, never_called, never_calls, own_connection}
use Rattle.bus_engine.proofs.Held.{called_connection}
use Rattle.bus_engine.proofs.Servable.{all_tied}
use Rattle.bus_engine.proofs.Turned.{left_is}
use Rattle.bus_engine.proofs.member.MemberDevice.shown.Goals as goal

pub returns-in-Initiator-clause-target : goal.returns-in-Initiator-clause-target
returns-in-Initiator-clause-target c = λ s rows row dev n a h b r k e l. absurd (never_called s rows dev
    c.in-Initiator.host n (initiator_is s rows dev c.args.self.now c.in-Initiator.host c.in-Initiator.is h)
    (tied_before s rows row a.tied) k e)

pub returns-in-Initiator-clause-initiator : goal.returns-in-Initiator-clause-initiator
returns-in-Initiator-clause-initiator c = λ s rows row dev n a h b r k e l.
    let own = initiator_is s rows dev c.args.self.now c.in-Initiator.host c.in-Initiator.is h in
    c.shown_if.ensures ∙ c.completion.ensures.trace s rows row n a.observed a.devices own.after
    (own_connection s rows dev c.in-Initiator.host n own k e)

pub returns-in-Target-clause-target : goal.returns-in-Target-clause-target
returns-in-Target-clause-target c = λ s rows row dev n a h b r k e l.
    let target = target_is s rows dev c.args.self.now c.in-Target.target c.in-Target.is h in
    let tied = all_tied s (row ∷ rows) a.tied in
    let i = read s rows row (c.kept_is_plain.ensures.rows s rows a.devices.1)
    (c.kept_is_plain.ensures.rows s (row ∷ rows) a.devices)
    (c.hearings_are_plain.ensures.hearing s rows row a.devices.1 a.devices.0) in
    c.shown_by.ensures ∙ c.shown.ensures s rows row n a.fits a.observed a.devices tied.heard_are target.after
    (called_connection s rows dev c.in-Target.target n target k e)
    (ap (λ (x : Change). x.before.rst) i.change ∙ b) (ap (λ (x : Change). x.after.rst) i.change ∙ r)
    ∙ left_is s rows row n i l

pub returns-in-Target-clause-initiator : goal.returns-in-Target-clause-initiator
returns-in-Target-clause-initiator c =
    λ s rows row dev n a h b r k e l. absurd (never_calls s rows dev c.in-Target.target n
    (target_is s rows dev c.args.self.now c.in-Target.target c.in-Target.is h) (tied_before s rows row a.tied) k e)
