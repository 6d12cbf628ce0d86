use Rattle.std.proofs.Common.{◌≡◌, ◌^◌, ◌∙◌, refl, sym, subst, None}
use Rattle.bus_lines.specs.BusView.{BusViewValue}
use Rattle.bus_lines.specs.Timely.{IsTimely}
use Rattle.reaction_model.specs.Ends.{target_due}
use Rattle.reaction_model.specs.declared.ends.Offering.{Offering}
use Rattle.reaction_model.specs.declared.ends.Pace.{Pace}
use Rattle.scenario.specs.declared.value.TargetDef.{TargetDef}
use Rattle.target_course.specs.scsi_device.specs.Told.{told, pace_of}
use Rattle.target_course.specs.Dues.{due_of_offering}
use Rattle.target_course.specs.States.{offering_in}
use Rattle.disk_target.specs.Waits.{is_waiting}
use Rattle.disk_target.proofs.Waiting.{waiting_is}
use Rattle.disk_target.proofs.target.Target.plain_due.Goals as goal

pub target_due-requires-clause-seen : goal.target_due-requires-clause-seen
target_due-requires-clause-seen c = c.lines_seen.ensures.timely (2 ^ 63)
    (subst (λ (v : BusViewValue). IsTimely (2 ^ 63) v) (sym c.view-view.ensures.value) c.requires.timely)

pub returns-then-is_waiting : goal.returns-then-is_waiting
returns-then-is_waiting c = λ s rows n fits o d e able h own calm from i mine serves.
    let t : TargetDef = c.args.self.now.def in
    let same : c.self.inside.def ≡ t = λ j. (c.self.view_is j).def in
    sym (waiting_is t (told rows t.dev) i
    ((λ j. is_waiting (told rows (sym same j).dev)) ∙ sym (c.is_waiting.ensures rows o) ∙ c.if-is_waiting.true))

pub returns : goal.returns
returns c = λ s rows n fits o d e able h own calm from i mine serves.
    let t : TargetDef = c.args.self.now.def in
    let v = c.view-view.ensures.trace rows o in
    let p : Pace = pace_of (told rows t.dev) None in
    let g : Offering = c.offering-offering.result in
    let paced = c.pace-pace.ensures.exact rows t.dev None o refl in
    c.target_due.ensures ∙ (λ j. target_due (c.begun.ensures rows o j) (c.lines_seen.ensures.trace rows v j)
    (c.handshakes.ensures.trace rows v j) (mine j) (paced j) g)
    ∙ c.offering-offering.ensures.trace s rows n fits o d e able h own calm from (λ j. (paced j).pulsed) i
    ∙ (λ j. due_of_offering t (told rows t.dev) i p (offering_in rows (sym serves j)))
