use Rattle.std.proofs.Common.{ℕ, ◌∙◌, ◌∷◌, List, refl, sym, subst, inr}
use Rattle.bus_base.specs.declared.Event.{Event}
use Rattle.bus_trace.specs.LineSet.{LineSet}
use Rattle.target_course.specs.scsi_device.proofs.OwnRows.{others_rows}
use Rattle.target_course.specs.States.{IsNoInitiator}
use Rattle.disk_target.specs.Bytes.{IsOthers}
use Rattle.disk_target.specs.Processes.{AreOutside}
use Rattle.disk_target.specs.Targets.{KnowsRows, TargetValue}
use Rattle.disk_target.proofs.Apart.{never_own}
use Rattle.disk_target.proofs.Knowing.{away_course}
use Rattle.disk_target.proofs.Quiet.{gathered_on, none_opens, stays}
use Rattle.disk_target.proofs.Servables.{servable}
use Rattle.disk_target.proofs.target.Target.see_in_others.Goals as goal

pub returns-clause-trace : goal.returns-clause-trace
returns-clause-trace c = λ s rows row m n fits o devices tied time away was stands other empty h.
    let v = c.self.inside in
    let d = v.def in
    let u : TargetValue = record {
      def = v.def;
      itself = v.itself;
      units = v.processes.units;
      standing = v.processes.standing;
      progress = v.progress;
      negotiated = v.negotiated;
      gathered = v.gathered;
      course = v.course;
      reply = v.reply;
      answers = v.answers;
    } in
    let g : KnowsRows s rows u = subst (λ (x : TargetValue). KnowsRows s rows x) (sym c.self.view_is) h.knows in
    let before = subst (λ (x : TargetValue). IsOthers rows x.def.dev m) (sym c.self.view_is) was in
    let now = subst (λ (x : TargetValue). IsOthers (row ∷ rows) x.def.dev n) (sym c.self.view_is) stands in
    let view = c.view.ensures.trace (row ∷ rows) o in
    let units = c.units_stay_by_row.ensures s rows row v.processes.units (c.scenarios_fit_the_bus.ensures.seats s fits)
    tied.allowed_are (subst (λ (l : List Event). AreOutside s v.processes.units.dev l) (sym empty) tt)
    (record { sound = g.sound; units = g.units_are }) in
    let none = none_opens s rows u.negotiated m
    (subst (λ (x : ℕ). IsOthers rows x m) (sym g.negotiated_dev) before) g.negotiated_are in
    let r = stays s rows row u m n (c.kept_is_plain.ensures.rows s)
    (c.hearings_are_plain.ensures.hearing s rows row devices.1 devices.0)
    (c.lines_on_the_bus.ensures.on (λ (z : LineSet). z.rst) (λ x y. refl) rows)
    (c.lines_on_the_bus.ensures.off (λ (z : LineSet). z.rst) (λ x y. refl) refl (row ∷ rows)) devices tied
    before.stands now.stands empty (λ x own. absurd (never_own rows d.dev m x before own)) (inr none) g in
    record {
      knows = record {
        line = g.line;
        itself_dev = g.itself_dev;
        units_dev = g.units_dev;
        units_seek = g.units_seek;
        progress_dev = g.progress_dev;
        negotiated_dev = g.negotiated_dev;
        gathered_dev = g.gathered_dev;
        itself_is = others_rows s rows row v.itself
            (λ e. other (e ∙ g.itself_dev ∙ (λ i. (c.self.view_is i).def.dev))) g.itself_is;
        units_are = units.units;
        sound = units.sound;
        progress_is = r.progress_is;
        negotiated_are = r.negotiated_are;
        gathered_are = g.gathered_are;
        all_gathered = gathered_on s rows row u (λ i x e. c.scenarios_fit_the_bus.ensures.commands s i x fits e)
            (c.kept_is_plain.ensures.rows s) (c.hearings_are_plain.ensures.hearing s rows row devices.1 devices.0)
            (λ code e. c.rows_change_one_device.ensures.fault_bus row rows code e) devices tied
            (λ x own. absurd (never_own rows d.dev m x before own)) g;
        course_is = away_course s (row ∷ rows) d.dev v.course (λ x own. never_own (row ∷ rows) d.dev n x now own);
        reply_is = λ x z own calm is. absurd (never_own (row ∷ rows) d.dev n x now own);
        standing_is = λ x z own calm is. absurd (never_own (row ∷ rows) d.dev n x now own);
        answers_is = c.answers-self-inside.ensures ∙ (λ i. (c.handshakes.ensures.trace (row ∷ rows) view i).answers);
      };
      heard_are = tied.heard_are;
      no_initiator = subst (λ (x : TargetValue). IsNoInitiator (row ∷ rows) x.def.dev) (sym c.self.view_is) away;
      servable = servable s (row ∷ rows) _ time g.line;
    }
