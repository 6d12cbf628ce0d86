use Rattle.std.proofs.Common.{◌≡◌, ◌∙◌, List, ◌∷◌, refl, sym, subst, Option, Some}
use Rattle.bus_trace.specs.declared.Row.{Row}
use Rattle.bus_trace.specs.declared.connection.Connection.{Connection}
use Rattle.std.specs.Prelude.{is_some}
use Rattle.bus_trace.specs.Terms.{connection}
use Rattle.std.proofs.lemmas.Bool.{eqb-true}
use Rattle.array_model.specs.Processes.{Process}
use Rattle.array_model.specs.Seats.{context_of, is_initiator, seat_of}
use Rattle.array_model.specs.ArrayHistory.{shows_run}
use Rattle.due_model.specs.dialogue_model.specs.NextPhase.{leaving_by}
use Rattle.due_model.specs.RunState.{array_of, process_served}
use Rattle.due_model.specs.RunSteps.{run_state}
use Rattle.due_model.specs.Tasks.{given_of}
use Rattle.due_model.specs.Wants.{since_of}
use Rattle.target_course.specs.Courses.{CourseState, IsCourse, IsCourseOf, AreToldOf, events_of_target, name_of}
use Rattle.target_course.specs.target_units.specs.Seated.{taken_in}
use Rattle.target_course.specs.target_units.specs.Units.{unit_in}
use Rattle.target_course.specs.target_units.proofs.UnitTellings.{taken_seen}
use Rattle.disk_target.specs.Targets.{IsCourseIf}
use Rattle.disk_target.specs.declared.turn.Turn.{Turn}
use Rattle.disk_target.specs.Turns.{IsTurnIf, IsTurnIn, is_opening_by}
use Rattle.disk_target.proofs.Data.{served_of}
use Rattle.disk_target.proofs.Knowing.{sources}
use Rattle.disk_target.proofs.Lines.{line_of_process}
use Rattle.disk_target.proofs.Servables.{in_time_before, servable}
use Rattle.disk_target.proofs.Turning.{left_so, left_with, process_so, run_known, target_shows}
use Rattle.disk_target.proofs.target.Target.turn_by.Goals as goal

one : (rows : List Row) (m n : Connection) → connection rows ≡ Some m → connection rows ≡ Some n → n ≡ m
one rows m n e f = let both : Some n ≡ Some m = sym f ∙ e in cc

pub returns-clause-trace : goal.returns-clause-trace
returns-clause-trace c = λ s rows row fits o devices tied time h own calm course_is from.
    let y = c.requires.known in
    let d = c.args.self.now.def in
    let x = c.args.course.now in
    let n = c.args.connection.now in
    let hears = c.hearing-hearing.ensures (row ∷ rows) o in
    let after = c.connection-after.ensures.trace (row ∷ rows) (c.view.ensures.trace (row ∷ rows) o) in
    let p = c.kept_is_plain.ensures.rows s rows devices.1 in
    let q = c.kept_is_plain.ensures.rows s (row ∷ rows) devices in
    let w = c.hearings_are_plain.ensures.hearing s rows row devices.1 devices.0 in
    let f = c.args.known.now.state in
    let able = servable s rows d (in_time_before rows row time) h.line in
    let course : IsCourseOf s rows d.dev x = subst
    (λ (y : Option CourseState). IsCourseIf s rows d.dev y) course_is h.course_is in
    let here : IsCourse s rows n x = course n own calm in
    let told : AreToldOf s rows x f = y.told s rows n fits able
    (sources s rows c.args.self.now h) h.reply_is here.ends_are own calm from in
    let given = given_of s (run_state s rows) in
    let serving = y.serving given in
    let leaving = c.leaving_by.ensures.exact given
    ∙ (λ i. leaving_by (serving i) (hears i).begun (hears i).change.before) in
    let process = c.sent_by-sent.ensures.process ∙ process_so s rows row n x p tied own.stands calm here in
    let sent = c.sent_by-sent.ensures.trace s rows row n fits devices tied time h own calm course_is from in
    let unit = λ (r : Process) (is : process_served s (run_state s rows) ≡ Some r) (named : x.named ≡ Some (name_of r)).
    let line = line_of_process s r.id r (λ m y e. c.scenarios_fit_the_bus.ensures.commands s m y fits e)
    (served_of s rows r is) in c.sent_by-sent.ensures.unit ∙ y.named (name_of r) named line.unit in
    let it : Turn = record {
      process = c.sent_by-sent.result.process;
      unit = c.sent_by-sent.result.unit;
      from = c.args.known.now.from;
      aborts = c.is_some.result;
      leaving = c.leaving_by.result;
      place = c.sent_by-sent.result.place;
      opening = c.is_opening.result;
      plan = f.plan;
      shown = c.shown.result;
    } in
    let turn : IsTurnIn s rows row d n x it = record {
      state = f;
      told = told;
      leaving_is = leaving;
      opening_is = c.is_opening.ensures ∙ (λ i. is_opening_by n (hears i) x);
      from_is = sym from;
      unit_is = unit;
      plan_is = refl;
      taken = λ r is named.
          let line = line_of_process s r.id r (λ m y e. c.scenarios_fit_the_bus.ensures.commands s m y fits e)
          (served_of s rows r is) in
          let ends = here.ends_are r is in
          let a = array_of s (run_state s rows) in
          let units = c.args.self.now.units in
          let k = c.args.known.now in
          let dev : units.dev ≡ r.target = h.units_dev ∙ sym (ends.target ∙ eqb-true n.target d.dev own.own) in
          let number : k.unit ≡ r.unit = y.named (name_of r) named line.unit in
          let host : k.from ≡ r.initiator = sym (ends.initiator ∙ from) in
          y.taken
          ∙ taken_seen s.hosts (seat_of a units.dev k.unit)
          (since_of a.units (run_state s rows).current_since units.dev k.unit) (unit_in units.units k.unit) k.from
          x.block y.device ((λ i. is_initiator s.hosts (host i)) ∙ line.host) (h.units_are.each k.unit y.unit)
          ∙ (λ i. taken_in (context_of (seat_of a (dev i) (number i)) (host i)) x.block);
    } in
    record {
      course = subst (λ (y : Option CourseState). IsTurnIf s rows row d y it) (sym course_is) (λ m own' calm'. subst
          (λ (y : Connection). IsTurnIn s rows row d y x it) (one rows m n own'.stands own.stands) turn);
      left = λ m l own' stands left. left_with s rows d.dev c.sent_by-sent.result.process c.leaving_by.result _ process
          leaving (left_so s rows row n l d x f _ p q w tied own h.line.target_is calm stands left here told refl);
      hears = λ m own' calm'. c.is_some.ensures ∙ (λ i. is_some (c.plan.ensures i).said.aborts)
          ∙ (λ i. is_some (here.plan_is i).said.aborts);
      sends = sent.sends;
      at_unit = sent.at_unit;
      shows = λ m own' calm' after'.
          let shows = c.shown.ensures.trace s rows row d f devices hears after own
          h.line.target_is tied.heard_are calm after' told (y.serving given) course in
          record {
            shows = shows ∙ (λ i. events_of_target s rows row (one rows m n own'.stands own.stands i));
            outlook = λ r is runs.
                let shown = target_shows s rows row n p q w tied own.stands after'
                (sym (λ i. shows_run (shows i)) ∙ runs) in
                let k = run_known s rows row n x r p q tied
                (λ m y e. c.scenarios_fit_the_bus.ensures.commands s m y fits e) own.stands calm after' here is shown in
                (told.outlook r is k.0.id k.0.named k.1).plan;
          };
    }
