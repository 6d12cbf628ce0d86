use Rattle.std.proofs.Common.{ℕ, ◌≡◌, ◌∙◌, ◌∷◌, true, refl, sym, subst, Option}
use Rattle.std.specs.Prelude.{is_some}
use Rattle.std.proofs.lemmas.Bool.{and_parts}
use Rattle.bus_trace.specs.declared.connection.Connection.{Connection}
use Rattle.bus_trace.specs.Terms.{connection}
use Rattle.due_model.specs.story_model.specs.BusState.{row_reading}
use Rattle.due_model.specs.dialogue_model.specs.declared.exchange.Hearing.{Hearing}
use Rattle.disk_unit.specs.declared.unit.Reply.{Reply}
use Rattle.due_model.specs.Faithful.{faithful, is_faithful}
use Rattle.due_model.specs.RunSteps.{run_state}
use Rattle.target_course.specs.Gathered.{IsAtUnit, IsSentSo}
use Rattle.target_course.specs.Negotiated.{IsHeardSo}
use Rattle.target_course.specs.Progress.{IsLeftSo, ProgressValue}
use Rattle.target_course.specs.target_units.specs.Units.{UnitsState}
use Rattle.disk_target.specs.Knowns.{IsKnownIf, refreshed}
use Rattle.disk_target.specs.Targets.{IsCourseIf, KnowsRows, TargetValue}
use Rattle.disk_target.specs.Turns.{AreAttendedOf, IsTurnOf}
use Rattle.disk_target.proofs.Knowing.{progress_stays, still_known}
use Rattle.disk_target.proofs.target.Target.follow_own.Goals as goal

pub returns-clause-trace : goal.returns-clause-trace
returns-clause-trace c = λ s rows fits o devices tied time labels shown_is h.
    let row = c.args.row.now in
    let v = c.self.inside in
    let d = v.def in
    let g = subst (λ (x : TargetValue). KnowsRows s rows x) (sym c.self.view_is) h in
    let view = c.view-view.ensures.trace (row ∷ rows) o in
    let hears = c.hearing-hearing.ensures (row ∷ rows) o in
    let before = c.own_before.ensures rows row view in
    let turn : IsTurnOf s rows row d v.course c.turn-turn.result = subst
    (λ (x : TargetValue). IsTurnOf s rows row x.def x.course c.turn-turn.result)
    (sym c.self.view_is) (c.turn-turn.ensures.trace s rows row fits o devices tied time h) in
    let event = c.see_events.ensures.trace s rows row d (record {
      fits = fits;
      devices = devices;
      tied = tied;
      line = g.line;
      dev_is = g.gathered_dev;
      gathered = g.gathered_are;
      all = g.all_gathered;
      course = g.course_is;
      turn = turn;
      shown_is = shown_is;
      now_is = refl;
    }) before (record {
      dev_is = g.units_dev;
      kept = record { sound = g.sound; units = g.units_are };
      standing = g.standing_is;
    }) in
    let units : AreAttendedOf s (row ∷ rows) d.dev c.see_beginning.new.processes = c.see_beginning.ensures.trace
    s rows row d.dev devices tied (c.connection_before-2.ensures.trace rows row view)
    (c.own_connection-2.ensures.trace (row ∷ rows) view) event in
    let sent = subst (λ (m : ℕ). IsSentSo s rows m c.hearing-hearing.result.now
    c.turn-turn.result.process c.turn-turn.result.place) (sym g.gathered_dev)
    (subst (λ (w : Hearing). IsSentSo s rows d.dev w c.turn-turn.result.process c.turn-turn.result.place)
    (sym hears) turn.sends) in
    let unit = subst (λ (m : ℕ). IsAtUnit s rows m c.hearing-hearing.result.now c.turn-turn.result.unit)
    (sym g.gathered_dev)
    (subst (λ (w : Hearing). IsAtUnit s rows d.dev w c.turn-turn.result.unit) (sym hears) turn.at_unit) in
    let left = subst (λ (m : ℕ). IsLeftSo s rows m c.hearing-hearing.result.now c.connection.result
    c.turn-turn.result.process c.turn-turn.result.leaving) (sym g.progress_dev) (subst (λ (x : Option Connection).
    IsLeftSo s rows d.dev c.hearing-hearing.result.now x c.turn-turn.result.process c.turn-turn.result.leaving)
    (sym (c.connection.ensures.trace (row ∷ rows) view)) (subst (λ (w : Hearing). IsLeftSo s rows d.dev w
    (connection (row ∷ rows)) c.turn-turn.result.process c.turn-turn.result.leaving) (sym hears) turn.left)) in
    let aborts = subst (λ (m : ℕ). IsHeardSo s rows m c.turn-turn.result.aborts) (sym g.negotiated_dev) turn.hears in
    record {
      line = g.line;
      itself_dev = c.see-4.ensures.dev ∙ g.itself_dev;
      units_dev = units.dev_is;
      units_seek = (λ i. (c.see_beginning.ensures.units i).seek) ∙ c.see_events.ensures.seek ∙ g.units_seek;
      progress_dev = c.see.ensures.dev ∙ g.progress_dev;
      negotiated_dev = c.see-3.ensures.dev ∙ g.negotiated_dev;
      gathered_dev = c.see-2.ensures.dev ∙ g.gathered_dev;
      itself_is = c.see-4.ensures.trace s rows view g.itself_is;
      units_are = units.kept.units;
      sound = units.kept.sound;
      progress_is = c.see.ensures.trace s rows row devices hears (c.connection_before-5.ensures.trace rows row view)
          (c.connection.ensures.trace (row ∷ rows) view) (and_parts (faithful s rows)
          (is_faithful s (run_state s rows) (row_reading (run_state s rows).story.bus_state row)) tied.faithful_are).0
          left g.progress_is;
      negotiated_are = c.see-3.ensures.trace s rows row devices hears
          (c.connection_before-7.ensures.trace rows row view)
          (c.connection-2.ensures.trace (row ∷ rows) view) shown_is tied.heard_are aborts g.negotiated_are;
      gathered_are = c.see-2.ensures.trace s rows row devices hears
          (c.connection_before-6.ensures.trace rows row view) tied.faithful_are sent g.gathered_are;
      all_gathered = c.see-2.ensures.whole s rows row fits devices hears
          (c.connection_before-6.ensures.trace rows row view) tied.faithful_are tied.written_are sent unit
          g.gathered_are g.all_gathered;
      course_is = c.see_course.ensures.trace s rows row d devices tied g.line hears
          (c.connection_before-3.ensures.trace rows row view) (c.own_connection-3.ensures.trace (row ∷ rows) view) turn
          (λ none. subst (λ (x : TargetValue). IsCourseIf s (row ∷ rows) x.def.dev c.beginning-begun.result)
          (sym c.self.view_is) (c.beginning-begun.ensures s rows row fits o devices tied time h
          (sym (c.connection_before-3.ensures.trace rows row view) ∙ none)
          (labels (sym (c.connection_before-3.ensures.trace rows row view) ∙ none)))) g.course_is;
      reply_is = c.reply_seen-self-inside.ensures.trace s rows row d fits devices tied
          (c.connection_before-4.ensures.trace rows row view) (c.own_connection-4.ensures.trace (row ∷ rows) view)
          (λ n own calm after. turn.shows n own calm after) g.reply_is;
      standing_is = units.standing;
      answers_is = c.answers-self-inside.ensures ∙ (λ i. (c.handshakes.ensures.trace (row ∷ rows) view i).answers);
    }

pub see_known-requires : goal.see_known-requires
see_known-requires c = record {
  still = λ e.
      let v = c.self.inside in
      let h = c.is_still-still.ensures e in
      let stood-3 : is_some c.connection_before-3.result ≡ true =
      (λ i. is_some ((c.connection_before-3.ensures.value ∙ sym c.connection_before.ensures.value) i)) ∙ h.stood in
      let stood-4 : is_some c.connection_before-4.result ≡ true =
      (λ i. is_some ((c.connection_before-4.ensures.value ∙ sym c.connection_before.ensures.value) i)) ∙ h.stood in
      let stands-3 : is_some c.own_connection-3.result ≡ true =
      (λ i. is_some ((c.own_connection-3.ensures.value ∙ sym c.own_connection.ensures.value) i)) ∙ h.stands in
      let stands-4 : is_some c.own_connection-4.result ≡ true =
      (λ i. is_some ((c.own_connection-4.ensures.value ∙ sym c.own_connection.ensures.value) i)) ∙ h.stands in
      let units = c.units.ensures ∙ c.see_beginning.ensures.units
      ∙ (λ i. (c.see_events.ensures.nothing h.empty i).units) in
      let progress = c.see.ensures.exact
      ∙ progress_stays v.progress c.turn-turn.result.process c.turn-turn.result.leaving
      c.hearing-hearing.result.now c.connection_before-5.result c.connection.result h.stays in
      let reply = c.reply_seen-self-inside.ensures.nothing stood-4 stands-4 h.nothing in
      let now = c.see_course.new.course in
      subst (λ (u : UnitsState). IsKnownIf v.def u c.see.new.self c.reply_seen-self-inside.result now
      (refreshed v.known now)) (sym units) (subst (λ (p : ProgressValue). IsKnownIf v.def
      v.processes.units p c.reply_seen-self-inside.result now (refreshed v.known now)) (sym progress)
      (subst (λ (r : Option Reply). IsKnownIf v.def v.processes.units v.progress r now (refreshed v.known now))
      (sym reply) (still_known v.def v.processes.units v.progress v.reply v.course now v.known c.turn-turn.result
      c.hearing-hearing.result.now c.connection_before.result c.own_connection.result c.args.shown.now h
      c.turn-turn.ensures.fits (λ x is. c.see_course.ensures.goes_on x stood-3 stands-3 is) c.self.invariant.2)));
}
