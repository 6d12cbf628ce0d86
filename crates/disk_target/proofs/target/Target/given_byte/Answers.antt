use Rattle.std.proofs.Common.{ℕ, ◌≡◌, ◌∙◌, true, false, List, [], sym, subst, None}
use Rattle.std.proofs.lemmas.Bool.{eqb-true, and_parts}
use Rattle.std.specs.Prelude.{◌&&◌}
use Rattle.bus_trace.specs.Trace.{bus, drives}
use Rattle.bus_lines.specs.Handshakes.{handshakes}
use Rattle.array_model.specs.Seats.{is_initiator}
use Rattle.due_model.specs.dialogue_model.specs.Hearing.{begun}
use Rattle.due_model.specs.dialogue_model.specs.NextPhase.{phase_of}
use Rattle.due_model.specs.RunState.{array_of}
use Rattle.due_model.specs.RunSteps.{run_state}
use Rattle.due_model.specs.Sights.{serving_of}
use Rattle.due_model.specs.Tasks.{given_if, given_of, reply_now}
use Rattle.target_course.specs.scsi_device.specs.Told.{told, pace_of}
use Rattle.target_course.specs.Courses.{name_of}
use Rattle.target_course.specs.Servings.{serving_with}
use Rattle.target_course.specs.States.{AreAlikeIn, offering_in}
use Rattle.target_course.proofs.CourseAgrees.{front_heard}
use Rattle.disk_target.specs.Bytes.{gives_data}
use Rattle.disk_target.specs.Targets.{TargetValue}
use Rattle.disk_target.proofs.Knowing.{alike_known, sources}
use Rattle.disk_target.proofs.Data.{knows_in_data, served_of}
use Rattle.disk_target.proofs.Lines.{line_of_process}
use Rattle.disk_target.proofs.Offers.{alike_without}
use Rattle.disk_target.proofs.Telling.{none_given}
use Rattle.disk_target.proofs.target.Target.given_byte.Goals as goal

pub returns-then-gives_now : goal.returns-then-gives_now
returns-then-gives_now c = λ s rows n fits o d e able h course own calm from.
    let v : TargetValue = c.args.self.now in
    let x = c.requires.known in
    let plain = c.kept_is_plain.ensures.rows s rows d in
    let here = course n own calm in
    let gives = and_parts (begun rows) (gives_data (phase_of (bus rows)) c.args.course.now.plan.next)
    (sym (c.gives_now.ensures rows o) ∙ c.if-gives_now.true) in
    let known = knows_in_data s rows n c.args.course.now (front_heard s rows n plain e own.stands calm) here
    (plain.begun ∙ gives.0) ((λ i. gives_data (phase_of (plain.bus i)) (sym here.plan_is i).next) ∙ gives.1) in
    let p = known.0 in
    let knows = known.1 in
    let ends = here.ends_are p knows.is in
    let line = line_of_process s p.id p
    (λ m y z. c.scenarios_fit_the_bus.ensures.commands s m y fits z) (served_of s rows p knows.is) in
    let state = x.told s rows n fits able (sources s rows v h) h.reply_is here.ends_are own calm from in
    let outlook = state.outlook p knows.is knows.id knows.named knows.block in
    record {
      given = (reply_now (array_of s (run_state s rows)) p).bytes;
      byte_is = c.run_byte.ensures s (array_of s (run_state s rows)) (run_state s rows).current_since p h.units_are
          ((λ i. is_initiator s.hosts (sym (ends.initiator ∙ from) i)) ∙ line.host)
          (ends.target ∙ eqb-true n.target v.def.dev own.own ∙ sym h.units_dev)
          (sym (x.named (name_of p) knows.named line.unit))
          (ends.initiator ∙ from) (sym knows.block) (λ i. (outlook.plan i).in_len);
      alike = subst (λ (bytes : List ℕ). AreAlikeIn rows v.def.dev
          (offering_in rows (serving_with c.args.known.now.serving bytes))
          (offering_in rows (serving_of s (run_state s rows) v.def.dev)))
          (λ i. given_if s (run_state s rows) (knows.is i))
          (alike_known s rows n v c.args.course.now c.args.known.now x plain fits e able h course own calm from);
    }

pub returns-else-gives_now : goal.returns-else-gives_now
returns-else-gives_now c = λ s rows n fits o d e able h course own calm from.
    let v : TargetValue = c.args.self.now in
    let x = c.requires.known in
    let none : (begun rows && gives_data (phase_of (bus rows)) c.args.course.now.plan.next) ≡ false =
    sym (c.gives_now.ensures rows o) ∙ c.if-gives_now.false in
    record {
      given = [];
      byte_is = sym (none_given _ _ _ _);
      alike = alike_without (begun rows) (pace_of (told rows 0) None).pulsed (drives rows v.def.dev).req
          (bus rows).io (bus rows) (handshakes rows) (serving_with c.args.known.now.serving [])
          (given_of s (run_state s rows)) [] (offering_in rows (serving_of s (run_state s rows) v.def.dev))
          (λ (z : begun rows ≡ true). (λ i. sym z i && gives_data (phase_of (bus rows)) ((x.serving [] i).plan).next)
          ∙ none) (alike_known s rows n v c.args.course.now c.args.known.now x
          (c.kept_is_plain.ensures.rows s rows d) fits e able h course own calm from);
    }
