use Rattle.std.proofs.Common.{◌∙◌, ◌∷◌, sym, subst, Option, Some, None}
use Rattle.bus_trace.specs.declared.connection.Connection.{Connection}
use Rattle.scenario.specs.declared.value.TargetDef.{TargetDef}
use Rattle.target_course.specs.scsi_device.proofs.Finds.{none_some}
use Rattle.disk_target.specs.Bytes.{IsOwnIf}
use Rattle.disk_target.proofs.target.Target.beginning.Goals as goal

pub returns-in-None-own_connection : goal.returns-in-None-own_connection
returns-in-None-own_connection c = λ s rows row fits o devices tied time h x label.
    let own = c.own_connection.ensures.trace (row ∷ rows) (c.view-view.ensures.trace (row ∷ rows) o) in
    subst (λ (t : TargetDef). IsOwnIf (row ∷ rows) t.dev None) (λ i. (c.self.view_is i).def)
    (subst (λ (z : Option Connection). IsOwnIf (row ∷ rows) c.self.inside.def.dev z) c.in-None-own_connection.is own)

pub returns-in-Some-own_connection : goal.returns-in-Some-own_connection
returns-in-Some-own_connection c = λ s rows row fits o devices tied time h x label.
    let own = c.own_connection.ensures.trace (row ∷ rows) (c.view-view.ensures.trace (row ∷ rows) o) in
    let it = subst (λ (t : TargetDef). IsOwnIf (row ∷ rows) t.dev (Some c.in-Some-own_connection.connection))
    (λ i. (c.self.view_is i).def)
    (subst (λ (z : Option Connection). IsOwnIf (row ∷ rows) c.self.inside.def.dev z) c.in-Some-own_connection.is own) in
    c.course_begun.ensures s rows row fits devices tied time h x it.0 it.1
    (label c.in-Some-own_connection.connection it.0)

pub returns-in-Some : goal.returns-in-Some
returns-in-Some c = λ s rows row fits o devices tied time h x label. absurd (none_some _ (sym x
    ∙ sym (c.connection_before.ensures.trace rows row (c.view-view.ensures.trace (row ∷ rows) o)) ∙ c.in-Some.is))
