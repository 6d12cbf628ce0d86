use Rattle.std.proofs.Common.{◌≡◌, ◌==◌, ◌∙◌, true, sym, None}
use Rattle.std.specs.Prelude.{if◌then◌else◌}
use Rattle.std.proofs.lemmas.Bool.{eq-eqb, ne_eqb}
use Rattle.bus_trace.specs.Terms.{connection, receiver}
use Rattle.bus_trace.specs.Trace.{bus, last_time}
use Rattle.bus_trace.specs.declared.connection.Connection.{Connection}
use Rattle.reaction_model.specs.Ends.{sample_due}
use Rattle.scenario.specs.declared.value.TargetDef.{TargetDef}
use Rattle.due_model.specs.bus_rules.specs.Order.{is_of_device}
use Rattle.target_course.specs.scsi_device.specs.Told.{told, flip_by}
use Rattle.target_course.specs.Dues.{calm_by, hand_by}
use Rattle.disk_target.proofs.Apart.{calm_at, calm_in, calm_is}
use Rattle.disk_target.proofs.target.Target.calm_due.Goals as goal

pub returns-in-Some : goal.returns-in-Some
returns-in-Some c = λ s rows i fits o d e able h mine all.
    let t : TargetDef = c.args.self.now.def in
    let same : c.self.inside.def ≡ t = λ j. (c.self.view_is j).def in
    let f = c.args.fault in
    let n : Connection = c.in-Some.connection in
    let stands = sym (c.calm_connection.ensures rows (c.view.ensures.trace rows o)) ∙ c.in-Some.is in
    let at = calm_at (bus rows).rst (connection rows) n stands in
    let own : (n.target == t.dev) ≡ true =
    eq-eqb n.target t.dev (sym c.get.ensures.number ∙ c.if-get-self.true ∙ (λ j. (same j).dev)) in
    let plain = c.plain_due-plain.ensures s rows n fits o d e able h (record { stands = at.0; own = own }) at.1
    (sym c.get-from.ensures.number) i mine all.serving_is in
    c.sampled.ensures rows o ∙ (λ j. sample_due (is_of_device (receiver rows) (same j).dev) (last_time rows)
    (flip_by f (last_time rows)) (plain j))
    ∙ (λ j. if sym own j then hand_by t (told rows t.dev) f i else None)
    ∙ (λ j. calm_in t (told rows t.dev) f i (sym stands j))
    ∙ calm_is t (told rows t.dev) f i (bus rows).rst (connection rows)

pub returns-in-Some-2 : goal.returns-in-Some-2
returns-in-Some-2 c = λ s rows i fits o d e able h mine all.
    let v : TargetDef = c.self.inside.def in
    let same : v ≡ c.args.self.now.def = λ j. (c.self.view_is j).def in
    let f = c.args.fault in
    let stands = sym (c.calm_connection.ensures rows (c.view.ensures.trace rows o)) ∙ c.in-Some.is in
    let other = ne_eqb _ _ (λ x. c.if-get-self.false (c.get.ensures.number ∙ x)) in
    (λ j. if sym other j then hand_by v (told rows v.dev) f i else None)
    ∙ (λ j. calm_in v (told rows v.dev) f i (sym stands j))
    ∙ calm_is v (told rows v.dev) f i (bus rows).rst (connection rows)
    ∙ (λ j. calm_by (same j) (told rows (same j).dev) f i (bus rows).rst (connection rows))

pub returns-in-None : goal.returns-in-None
returns-in-None c = λ s rows i fits o d e able h mine all.
    let t : TargetDef = c.args.self.now.def in
    let f = c.args.fault in
    let stands = sym (c.calm_connection.ensures rows (c.view.ensures.trace rows o)) ∙ c.in-None.is in
    c.link_due_of.ensures rows t i o mine (c.ready.ensures.trace s rows able h ∙ sym all.ready_is)
    ∙ (λ j. calm_in t (told rows t.dev) f i (sym stands j))
    ∙ calm_is t (told rows t.dev) f i (bus rows).rst (connection rows)
