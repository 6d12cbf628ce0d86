use Rattle.std.proofs.Common.{ℕ, sym, subst, Option}
use Rattle.due_model.specs.dialogue_model.specs.declared.exchange.Hearing.{Hearing}
use Rattle.target_course.specs.Gathered.{IsAtUnit, IsSentSo}
use Rattle.disk_target.specs.Turns.{IsSentIf}
use Rattle.disk_target.specs.declared.turn.Sent.{Sent}
use Rattle.disk_target.proofs.Quiet.{gathered_stay}
use Rattle.disk_target.proofs.turn.see_sent.Goals as goal

pub returns-in-None-clause-trace : goal.returns-in-None-clause-trace
returns-in-None-clause-trace c = λ s rows row fits devices tied hears before sent g all.
    let none = subst (λ (x : Option Sent). IsSentIf s rows row c.args.gathered.now.dev x) c.in-None.is sent in
    record {
      gathered = g;
      all = gathered_stay s rows row c.args.gathered.now
          (λ i x e. c.scenarios_fit_the_bus.ensures.commands s i x fits e) (c.kept_is_plain.ensures.rows s)
          (c.hearings_are_plain.ensures.hearing s rows row devices.1 devices.0)
          (λ code e. c.rows_change_one_device.ensures.fault_bus row rows code e) devices tied (λ n own. none) g all;
    }

pub returns-in-Some-clause-trace : goal.returns-in-Some-clause-trace
returns-in-Some-clause-trace c = λ s rows row fits devices tied hears before sent g all.
    let dev : ℕ = c.args.gathered.now.dev in
    let x : Sent = c.in-Some.sent in
    let it = subst (λ (x : Option Sent). IsSentIf s rows row dev x) c.in-Some.is sent in
    let sends = subst (λ (w : Hearing). IsSentSo s rows dev w x.process x.place) (sym hears) it.sends in
    let unit = subst (λ (w : Hearing). IsAtUnit s rows dev w x.unit) (sym hears) it.at_unit in
    record {
      gathered = c.see.ensures.trace s rows row devices hears before tied.faithful_are sends g;
      all =
          c.see.ensures.whole s rows row fits devices hears before tied.faithful_are tied.written_are sends unit g all;
    }
