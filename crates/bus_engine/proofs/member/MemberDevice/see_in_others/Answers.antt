use Rattle.std.proofs.Common.{◌∷◌, ◌∙◌, ap}
use Rattle.scenario.specs.declared.value.HostDef.{HostDef}
use Rattle.scenario.specs.declared.value.TargetDef.{TargetDef}
use Rattle.bus_run.proofs.Seams.{not_calling}
use Rattle.bus_engine.proofs.Held.{initiator_is, target_is, beside}
use Rattle.bus_engine.proofs.Servable.{all_tied, in_time}
use Rattle.bus_engine.proofs.member.MemberDevice.see_in_others.Goals as goal

pub returns-in-Initiator : goal.returns-in-Initiator
returns-in-Initiator c = λ s rows dev n a none kept away h.
    let row = c.args.row.now in
    let host = initiator_is s rows dev c.args.self.now c.in-Initiator.host c.in-Initiator.is h in
    let b = beside rows row n dev c.in-Initiator.host.def.dev host.named kept away in
    record {
      named = ap (λ (d : HostDef). d.dev) c.see_in_others.ensures.def ∙ host.named;
      after = c.see_in_others.ensures.trace s rows n n a.observed a.devices kept.before.stands kept.after.stands
          b.no_initiator b.no_initiator kept.after.calm b.of_other none host.after;
    }

pub returns-in-Target : goal.returns-in-Target
returns-in-Target c = λ s rows dev n a none kept away h.
    let row = c.args.row.now in
    let target = target_is s rows dev c.args.self.now c.in-Target.target c.in-Target.is h in
    let b = beside rows row n dev c.in-Target.target.def.dev target.named kept away in
    record {
      named = ap (λ (d : TargetDef). d.dev) c.see_in_others-in-Target.ensures.def ∙ target.named;
      after = c.see_in_others-in-Target.ensures.trace s rows row n n a.fits a.observed a.devices
          (all_tied s (row ∷ rows) a.tied) (in_time s (row ∷ rows) c.args.observer.now a) (record {
            not_calling = λ m k. not_calling s (row ∷ rows) c.in-Target.target.def m target.after.knows.line a.tied k;
          }) (record { stands = kept.before.stands; away = b.no_target; calm = kept.before.calm })
          (record { stands = kept.after.stands; away = b.no_target; calm = kept.after.calm }) b.of_other none
          target.after;
    }
