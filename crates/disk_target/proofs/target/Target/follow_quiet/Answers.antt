use Rattle.std.proofs.Common.{ℕ, ◌≡◌, ◌∙◌, ◌∷◌, refl, sym, subst, Option, Some}
use Rattle.std.specs.Prelude.{is_some}
use Rattle.bus_trace.specs.LineSet.{LineSet}
use Rattle.due_model.specs.dialogue_model.specs.Hearing.{hearing}
use Rattle.bus_trace.specs.declared.connection.Connection.{Connection}
use Rattle.disk_target.specs.Bytes.{IsOwnIf, StandsInOwn}
use Rattle.disk_target.specs.Knowns.{IsQuiet}
use Rattle.disk_target.specs.Targets.{KnowsRows, TargetValue}
use Rattle.disk_target.specs.Turns.{IsSentIf}
use Rattle.disk_target.proofs.Quiet.{serves}
use Rattle.disk_target.proofs.target.Target.follow_quiet.Goals as goal
use Rattle.due_model.specs.RunSteps.{events_of_row}

pub returns-clause-trace : goal.returns-clause-trace
returns-clause-trace c = λ s rows fits o devices tied time stands quiet h.
    let row = c.args.row.now in
    let v = c.self.inside in
    let u : TargetValue = record {
      def = v.def;
      itself = v.itself;
      units = v.processes.units;
      standing = v.processes.standing;
      progress = v.progress;
      negotiated = v.negotiated;
      gathered = v.gathered;
      course = v.course;
      reply = v.reply;
      answers = v.answers;
    } in
    let g : KnowsRows s rows u = subst (λ (x : TargetValue). KnowsRows s rows x) (sym c.self.view_is) h in
    let view = c.view-view.ensures.trace (row ∷ rows) o in
    let here = subst (λ (x : TargetValue). StandsInOwn rows row x.def.dev) (sym c.self.view_is) stands in
    let calm = subst (λ (x : TargetValue). IsQuiet (hearing rows row) x.course (events_of_row s rows row))
    (sym c.self.view_is) quiet in
    let r = serves s rows row u (c.kept_is_plain.ensures.rows s)
    (c.hearings_are_plain.ensures.hearing s rows row devices.1 devices.0)
    (c.lines_on_the_bus.ensures.on (λ (z : LineSet). z.rst) (λ x y. refl) rows)
    (c.lines_on_the_bus.ensures.off (λ (z : LineSet). z.rst) (λ x y. refl) refl (row ∷ rows))
    (c.scenarios_fit_the_bus.ensures.seats s fits) devices tied here calm g in
    let hears = c.hearing-hearing.ensures (row ∷ rows) o in
    let was : c.connection_before.result ≡ Some stands.before = c.connection_before.ensures.trace rows row view
    ∙ stands.own.stands in
    let sent = c.sent-sent.ensures s rows row fits devices tied time h hears
    (subst (λ (x : Option Connection). IsOwnIf rows c.args.self.now.def.dev x) (sym was) (stands.own, stands.calm))
    (λ i. is_some (was i)) (λ crosses. quiet.knows ((λ i. (sym hears i).crosses) ∙ crosses)) in
    let came = c.see_sent.ensures.trace s rows row fits devices tied hears
    (c.connection_before-2.ensures.trace rows row view) (subst (λ (m : ℕ). IsSentIf s rows row m c.sent-sent.result)
    ((λ i. (sym c.self.view_is i).def.dev) ∙ sym g.gathered_dev) sent) g.gathered_are g.all_gathered in
    record {
      line = g.line;
      itself_dev = c.see.ensures.dev ∙ g.itself_dev;
      units_dev = g.units_dev;
      units_seek = g.units_seek;
      progress_dev = g.progress_dev;
      negotiated_dev = g.negotiated_dev;
      gathered_dev = c.see_sent.ensures.dev ∙ g.gathered_dev;
      itself_is = c.see.ensures.trace s rows view g.itself_is;
      units_are = r.kept.kept.units;
      sound = r.kept.kept.sound;
      progress_is = r.all.progress_is;
      negotiated_are = r.all.negotiated_are;
      gathered_are = came.gathered;
      all_gathered = came.all;
      course_is = r.course_is;
      reply_is = r.reply_is;
      standing_is = r.kept.standing;
      answers_is = c.answers-self-inside.ensures ∙ (λ i. (c.handshakes.ensures.trace (row ∷ rows) view i).answers);
    }
