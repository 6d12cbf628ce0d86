-- What a target decides by in a connection of its own, as long as nothing of it changes but its plan.
use Rattle.std.proofs.Common.{ℕ, ◌≡◌, ◌<◌, ◌∙◌, Bool, true, false, List, [], refl, sym, subst, Option, Some, None}
use Rattle.std.specs.Prelude.{if◌then◌else◌, ◌&&◌, ◌==◌}
use Rattle.bus_base.specs.declared.Event.{Event}
use Rattle.bus_base.specs.declared.ProcId.{ProcId}
use Rattle.bus_trace.specs.declared.Row.{Row}
use Rattle.bus_trace.specs.declared.connection.Connection.{Connection}
use Rattle.bus_trace.specs.Trace.{bus}
use Rattle.scenario.specs.declared.value.TargetDef.{TargetDef}
use Rattle.scenario.specs.Value.{ScenarioValue}
use Rattle.disk_unit.specs.declared.unit.Reply.{Reply}
use Rattle.due_model.specs.dialogue_model.specs.declared.exchange.Hearing.{Hearing}
use Rattle.due_model.specs.dialogue_model.specs.declared.exchange.Leaving.{Leaving}
use Rattle.due_model.specs.dialogue_model.specs.declared.exchange.Plan.{Plan}
use Rattle.due_model.specs.dialogue_model.specs.NextPhase as next_phase
use Rattle.due_model.specs.dialogue_model.specs.Planning.{plan_after}
use Rattle.due_model.specs.Defs.{target_def_of}
use Rattle.due_model.specs.Plain.{IsPlain}
use Rattle.due_model.specs.RunSteps.{run_state}
use Rattle.due_model.specs.Sights.{serving_of}
use Rattle.due_model.specs.Tasks.{given_of}
use Rattle.target_course.specs.scsi_device.proofs.Finds.{some_is}
use Rattle.target_course.specs.scsi_device.specs.Heard.{heard}
use Rattle.target_course.specs.scsi_device.specs.Lines.{FitsBus}
use Rattle.target_course.specs.Servings.{serving_with}
use Rattle.target_course.specs.States.{AreAlikeIn, IsOwnConnection, offering_in}
use Rattle.target_course.specs.Courses.{CourseState, AreToldOf, IsCourseOf, course_after, course_told}
use Rattle.target_course.specs.Fits.{AreFit}
use Rattle.target_course.specs.Progress.{ProgressValue, is_phase_left, progress_counted, progress_seen}
use Rattle.target_course.proofs.CourseRows.{course_offers}
use Rattle.target_course.specs.target_units.specs.Units.{UnitsState}
use Rattle.disk_target.specs.Knowns.{AreSourcesOf, IsKnownBy, IsKnownIf, IsStill, refreshed, with_plan}
use Rattle.disk_target.specs.Targets.{TargetValue, IsCourseIf, IsServable, KnowsRows}
use Rattle.disk_target.specs.declared.known.Known.{Known}
use Rattle.disk_target.specs.declared.turn.Turn.{Turn}
use Rattle.target_course.proofs.Fits.{plan_fits}

pub sources : (s : ScenarioValue) (rows : List Row) (v : TargetValue) → KnowsRows s rows v
    → AreSourcesOf s rows v.def v.units v.progress
sources s rows v h = record {
  units_dev = h.units_dev;
  progress_dev = h.progress_dev;
  units_are = h.units_are;
  sound = h.sound;
  progress_is = h.progress_is;
}

-- In a connection of others it has no course to keep.
pub away_course : (s : ScenarioValue) (rows : List Row) (dev : ℕ) (c : Option CourseState)
    → ((x : Connection) → IsOwnConnection rows dev x → ⊥) → IsCourseIf s rows dev c
away_course s rows dev None away = λ n own. absurd (away n own)
away_course s rows dev (Some c) away = λ n own calm. absurd (away n own)

-- What it has to do by it is what the rows have it do.
pub alike_by : (s : ScenarioValue) (rows : List Row) (n : Connection) (d : TargetDef) (u : UnitsState)
    (p : ProgressValue) (r : Option Reply) (c : CourseState) (k : Known) → IsKnownBy d u p r c k
    → IsPlain s rows (run_state s rows) → d.dev < 8 → target_def_of s d.dev ≡ Some d → heard s rows ≡ true
    → AreToldOf s rows c k.state → IsCourseOf s rows d.dev c → IsOwnConnection rows d.dev n → (bus rows).rst ≡ false
    → AreAlikeIn rows d.dev (offering_in rows (serving_with k.serving (given_of s (run_state s rows))))
    (offering_in rows (serving_of s (run_state s rows) d.dev))
alike_by s rows n d u p r c k h plain below line e told course own calm = subst
    (λ (v : next_phase.Serving). AreAlikeIn rows d.dev (offering_in rows v)
    (offering_in rows (serving_of s (run_state s rows) d.dev))) (sym (h.serving (given_of s (run_state s rows))))
    (course_offers s rows d c k.state below plain line e told course n own calm)

pub alike_known : (s : ScenarioValue) (rows : List Row) (n : Connection) (v : TargetValue) (c : CourseState) (k : Known)
    → IsKnownBy v.def v.units v.progress v.reply c k → IsPlain s rows (run_state s rows) → FitsBus s
    → heard s rows ≡ true → IsServable s rows v.def → KnowsRows s rows v → IsCourseOf s rows v.def.dev c
    → IsOwnConnection rows v.def.dev n → (bus rows).rst ≡ false → n.initiator ≡ k.from
    → AreAlikeIn rows v.def.dev (offering_in rows (serving_with k.serving (given_of s (run_state s rows))))
    (offering_in rows (serving_of s (run_state s rows) v.def.dev))
alike_known s rows n v c k x plain fits e able h course own calm from =
    alike_by s rows n v.def v.units v.progress v.reply c k x plain h.line.below h.line.target_is e (x.told s rows n fits
    able (sources s rows v h) h.reply_is (course n own calm).ends_are own calm from) course own calm

-- What it has kept.
pub kept : (v : TargetValue) (was : Option Known) (c : CourseState) (k : Known)
    → IsKnownIf v.def v.units v.progress v.reply v.course was → v.course ≡ Some c → was ≡ Some k
    → IsKnownBy v.def v.units v.progress v.reply c k
kept v was c k h course is =
    subst (λ (x : Option Known). IsKnownIf v.def v.units v.progress v.reply v.course x) is h c course

-- Its plan goes on.
planned :
    (d : TargetDef) (u : UnitsState) (p : ProgressValue) (r : Option Reply) (c : CourseState) (k : Known) (q : Plan)
    → AreFit q.messages → IsKnownBy d u p r c k
    → IsKnownBy d u p r (record c { plan = q }) (with_plan k (record c { plan = q }))
planned d u p r c k q fits h = record {
  unit = h.unit;
  device = h.device;
  named = h.named;
  told = λ s rows n f able sources replies ends own calm from.
      let t = h.told s rows n f able sources replies ends own calm from in
      record { state = t.state; outlook = t.outlook };
  count = h.count;
  taken = h.taken;
  serving = λ given i. record (h.serving given i) { plan = q };
  fits = fits;
}

known_on : (d : TargetDef) (u : UnitsState) (p : ProgressValue) (r : Option Reply) (c : CourseState)
    (k : Option Known) (w : Hearing) (l : Leaving) → AreFit l.messages → IsKnownIf d u p r (Some c) k
    → IsKnownIf d u p r (Some (record c { plan = plan_after w l c.plan }))
    (refreshed k (Some (record c { plan = plan_after w l c.plan })))
known_on d u p r c None w l fits h = tt
known_on d u p r c (Some k) w l fits h = λ x e.
    let it = h c refl in
    let q : Plan = plan_after w l c.plan in
    let was = subst (λ (v : next_phase.Serving). AreFit v.plan.messages) (it.serving []) it.fits in
    subst (λ (y : CourseState). IsKnownBy d u p r y (with_plan k (record c { plan = q }))) (some_is _ _ e)
    (planned d u p r c k q (plan_fits w l c.plan was fits) it)

pub still_known : (d : TargetDef) (u : UnitsState) (p : ProgressValue) (r : Option Reply) (was now : Option CourseState)
    (k : Option Known) (t : Turn) (w : Hearing) (before own : Option Connection) (shown : List Event)
    → IsStill t w before own was shown → AreFit t.leaving.messages
    → ((c : CourseState) → was ≡ Some c → now ≡ Some (course_after w t.leaving c)) → IsKnownIf d u p r was k
    → IsKnownIf d u p r now (refreshed k now)
still_known d u p r None now k t w before own shown h fits goes known = let bad : false ≡ true = h.knows in absurd cc
still_known d u p r (Some c) now k t w before own shown h fits goes known =
    let q : Plan = plan_after w t.leaving c.plan in
    let e : now ≡ Some (record c { plan = q }) = goes c refl
    ∙ (λ i. Some (record (if h.knows i then c else course_told w c) { plan = q })) in
    subst (λ (x : Option CourseState). IsKnownIf d u p r x (refreshed k x)) (sym e)
    (known_on d u p r c k w t.leaving fits known)

pub progress_stays :
    (v : ProgressValue) (process : Option ProcId) (l : Leaving) (w : Hearing) (before after : Option Connection)
    → is_phase_left w ≡ false → progress_seen v process l w before after ≡ v
progress_stays v process l w None after stays = refl
progress_stays v process l w (Some m) None stays = refl
progress_stays v process l w (Some m) (Some n) stays =
    (λ i. if (m.target == v.dev) && stays i then progress_counted v process l else v) ∙ never (m.target == v.dev)
  where
    never : (q : Bool) → (if q && false then progress_counted v process l else v) ≡ v
    never true = refl
    never false = refl
