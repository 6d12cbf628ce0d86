use Rattle.std.proofs.Common.{ℕ, ◌≡◌, ◌<◌, ◌∙◌, ◌==◌, inl, inr, arith, List, ◌∷◌, sym, subst, take, Some, None}
use Rattle.std.proofs.lemmas.List.{take_all}
use Rattle.bus_base.specs.declared.Event.{Event}
use Rattle.cdb_codec.specs.declared.status.TheConstants.{GOOD}
use Rattle.bus_trace.specs.Terms.{connection}
use Rattle.due_model.specs.RunState.{array_of}
use Rattle.due_model.specs.RunSteps.{run_state, events_of_row}
use Rattle.array_model.specs.Processes.{Process}
use Rattle.array_model.specs.Seats.{seat_of}
use Rattle.target_course.specs.scsi_device.specs.Writes.{writers}
use Rattle.target_course.specs.Courses.{name_of}
use Rattle.target_course.specs.States.{IsOwnConnection}
use Rattle.disk_target.specs.Attended.{is_whole_run}
use Rattle.disk_target.specs.Processes.{AreOwnEvents, AreProcessesOf}
use Rattle.disk_target.specs.Standings.{HasBlock, IsServed, IsStanding}
use Rattle.disk_target.specs.Turns.{AreAttendedOn, abort_of, is_reset}
use Rattle.disk_target.proofs.RowSent.{all_sent}
use Rattle.disk_target.proofs.RowOwn.{own_events}
use Rattle.disk_target.proofs.RowServed.{empty_on, row_serves, same_served, unopened}
use Rattle.disk_target.proofs.turn.see_served.Goals as goal

pub returns-in-None-clause-trace : goal.returns-in-None-clause-trace
returns-in-None-clause-trace c = λ s rows row d n h own calm reset none opening att.
    let f = c.kept_is_plain.ensures.rows s rows h.devices.1 in
    let q = c.kept_is_plain.ensures.rows s (row ∷ rows) h.devices in
    let course = h.course n own calm in
    let turn = h.turn.course n own calm in
    elim (row_serves s rows row d.dev n c.args.course.now f q h.tied
    (λ m x e. c.scenarios_fit_the_bus.ensures.commands s m x h.fits e) own calm course
    (unopened s rows row n c.args.course.now c.args.turn.now.opening f course turn.opening_is opening)
    ((λ i. is_reset (sym h.shown_is i)) ∙ reset) ((λ i. abort_of (sym h.shown_is i)) ∙ none)) [
      | inl e ↦ empty_on s rows row d.dev c.args.processes.now f q
          (c.scenarios_fit_the_bus.ensures.seats s h.fits) h.tied e att
      | inr v ↦ let bad : None ≡ Some (name_of v.0) = sym c.in-None.is ∙ c.name.ensures ∙ v.1.knows.named in absurd cc
    ]

pub returns-in-Some-clause-trace : goal.returns-in-Some-clause-trace
returns-in-Some-clause-trace c = λ s rows row d n h own calm reset none opening att.
    let f = c.kept_is_plain.ensures.rows s rows h.devices.1 in
    let q = c.kept_is_plain.ensures.rows s (row ∷ rows) h.devices in
    let seats = c.scenarios_fit_the_bus.ensures.seats s h.fits in
    let course = h.course n own calm in
    let turn = h.turn.course n own calm in
    let old = c.args.processes.now in
    let new = c.see.new.self in
    let x = c.served-served.result in
    let a = array_of s (run_state s rows) in
    elim (row_serves s rows row d.dev n c.args.course.now f q h.tied
    (λ m y e. c.scenarios_fit_the_bus.ensures.commands s m y h.fits e) own calm course
    (unopened s rows row n c.args.course.now c.args.turn.now.opening f course turn.opening_is opening)
    ((λ i. is_reset (sym h.shown_is i)) ∙ reset) ((λ i. abort_of (sym h.shown_is i)) ∙ none)) [
      | inl e ↦
          subst (λ z. AreAttendedOn s rows row d.dev z) (sym (c.see.ensures.nothing (h.shown_is ∙ e)))
          (empty_on s rows row d.dev old f q seats h.tied e att)
      | inr w ↦
          let p = w.0 in
          let v = w.1 in
          let same : Some c.in-Some.name ≡ Some (name_of p) = sym c.in-Some.is ∙ c.name.ensures ∙ v.knows.named in
          let name : c.in-Some.name ≡ name_of p = cc in
          let unit : x.unit ≡ p.unit = c.served-served.ensures.unit ∙ turn.unit_is p v.knows.is v.knows.named in
          let target : p.target ≡ old.units.dev = v.target ∙ sym att.dev_is in
          let block : c.args.course.now.block ≡ p.cdb → HasBlock p x = λ e. sym
          (c.served-served.ensures.cdb ∙ (λ i. take 10 (e i)) ∙ take_all 10 p.cdb v.few) in
          let served : IsServed s old.units.dev p x = record {
            own = record { is = v.there; target_is = target; unit_is = sym unit };
            id_is = sym (c.served-served.ensures.id ∙ v.knows.id);
            from_is = v.initiator ∙ sym (c.served-served.ensures.from ∙ turn.from_is);
            tag_is = sym (c.served-served.ensures.tag ∙ (λ i. (name i).tag));
            class_is = sym (c.served-served.ensures.class ∙ (λ i. (name i).class));
            host = v.line.host;
          } in
          let small : p.unit < 8 = v.line.unit in
          let standing : IsStanding (seat_of a old.units.dev x.unit) p old.standing = subst
          (λ (z : ℕ). IsStanding (seat_of a z x.unit) p old.standing) (sym att.dev_is)
          (subst (λ (z : ℕ). IsStanding (seat_of a d.dev z) p old.standing)
          (sym unit) (att.standing n p own calm v.knows.is)) in
          let events : AreOwnEvents s a old.units.dev x.unit p x old.standing (events_of_row s rows row) = own_events
          s rows row n c.args.course.now p x old.standing old.units.dev x.unit seats att.kept.sound v.front v.attended
          v.shows v.may v.knows v.there target (sym unit) block (λ runs begins blocks good. c.served-served.ensures.sent
          ∙ all_sent s rows c.args.gathered.now p n c.args.course.now c.args.turn.now c.args.turn.now.unit h.gathered
          h.all (subst (λ (z : ℕ). IsOwnConnection rows z n) (sym h.dev_is) own) calm begins v.knows.is v.there
          (v.target ∙ sym h.dev_is) (omega (arith, small)) (turn.unit_is p v.knows.is v.knows.named) v.knows.id blocks
          (λ w g. let outlook = turn.told.outlook p v.knows.is v.knows.id v.knows.named blocks in
          (λ i. (turn.plan_is i).out_len) ∙ outlook.sent w ((λ i. (outlook.plan i).status == GOOD) ∙ g))
          ((λ i. is_whole_run s (run_state s rows) (writers s rows) (sym v.knows.is i)) ∙ v.attended.whole runs) good)
          standing ((λ i. abort_of (sym h.shown_is i)) ∙ none) in
          let r : AreProcessesOf s (row ∷ rows) p x.unit new = c.see.ensures.trace
          s rows row p seats h.tied.allowed_are h.shown_is h.now_is served
          (subst (λ (l : List Event). AreOwnEvents s a old.units.dev x.unit p x old.standing l) (sym h.shown_is) events)
          (record { sound = att.kept.sound; at = record { units = att.kept.units; standing = standing } }) in
          let dev : new.units.dev ≡ d.dev = c.see.ensures.dev ∙ att.dev_is in
          record {
            dev_is = dev;
            kept = record { sound = r.sound; units = r.at.units };
            standing = λ m at z y own_after calm_after is.
                let stands : connection rows ≡ Some n = own.stands in
                let both : Some p ≡ Some y = sym v.knows.is
                ∙ sym (same_served s rows row n z f q stands own_after.stands) ∙ is in
                let one : p ≡ y = cc in
                subst (λ (o : Process). IsStanding
                (seat_of (array_of s (run_state s (row ∷ rows))) d.dev o.unit) o new.standing) one
                (subst (λ (o : ℕ). IsStanding (seat_of (array_of s (run_state s (row ∷ rows))) o p.unit) p new.standing)
                dev (subst
                (λ (o : ℕ). IsStanding (seat_of (array_of s (run_state s (row ∷ rows))) new.units.dev o) p new.standing)
                unit r.at.standing));
          }
    ]
