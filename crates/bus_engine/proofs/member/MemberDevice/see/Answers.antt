use Rattle.std.proofs.Common.{◌∷◌, ◌∙◌, ap}
use Rattle.scenario.specs.declared.value.TargetDef.{TargetDef}
use Rattle.bus_run.proofs.Seams.{not_calling}
use Rattle.bus_engine.proofs.Held.{target_is, calls_not}
use Rattle.bus_engine.proofs.Labels.{label_is}
use Rattle.bus_engine.proofs.Servable.{all_tied, in_time}
use Rattle.bus_engine.proofs.member.MemberDevice.see.Goals as goal

pub returns-in-Target : goal.returns-in-Target
returns-in-Target c = λ s rows dev a e told h.
    let row = c.args.row.now in
    let target = target_is s rows dev c.args.self.now c.in-Target.target c.in-Target.is h in
    record {
      named = ap (λ (d : TargetDef). d.dev) c.see-in-Target.ensures.def ∙ target.named;
      after = c.see-in-Target.ensures.trace s rows a.fits a.observed a.devices (all_tied s (row ∷ rows) a.tied)
          (in_time s (row ∷ rows) c.args.observer.now a) (record {
            not_calling = λ n k. not_calling s (row ∷ rows) c.in-Target.target.def n target.after.knows.line a.tied k;
          }) (λ none n own. label_is s (row ∷ rows) c.args.label (told none n own.stands
          (calls_not s (row ∷ rows) dev c.in-Target.target n target.named target.after.knows.line a.tied own.stands))) e
          target.after;
    }
