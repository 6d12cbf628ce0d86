use Rattle.std.proofs.Common.{ℕ, ◌≡◌, ◌∙◌, refl, sym, subst, Some, None, set, get_or}
use Rattle.bus_base.specs.declared.Event.TheVariants as events
use Rattle.bus_base.specs.declared.ProcId.{ProcId}
use Rattle.due_model.specs.Wants.{since_of}
use Rattle.array_model.specs.ArrayHistory.{reply_in}
use Rattle.array_model.specs.Seats.{seat_of, seat_after_run, running_at}
use Rattle.array_model.specs.Units.{guest_at}
use Rattle.disk_unit.specs.Units.{told_of}
use Rattle.target_units.specs.declared.logical.LogicalUnit.{LogicalUnit}
use Rattle.target_units.specs.Units.{IsStep}
use Rattle.target_units.proofs.UnitRuns.{runs_first, room_seen, room_for, room_after}
use Rattle.target_units.proofs.UnitSteps.{one_set, spare_stays, other_place, running_own, run_left, unit_seen}
use Rattle.target_units.proofs.UnitTellings.{reply_same}
use Rattle.target_units.proofs.units.Units.run.Goals as goal

pub returns-clause-array : goal.returns-clause-array
returns-clause-array c = λ s a b times p h own same none sending unanswered st.
    let dev : ℕ = c.args.self.now.dev in
    let n : ℕ = c.args.unit in
    let old : LogicalUnit = get_or c.self.inside.units n c.index-self-unit.result in
    let same_units : c.self.inside.units ≡ c.args.self.now.units = λ i. (c.self.view_is i).units in
    let step : IsStep s (events.Run p.id) a b = subst (λ (k : ProcId). IsStep s (events.Run k) a b) (sym same) st in
    let seen = unit_seen s a times dev n c.args.self.now.units
    c.self.inside.units c.index-self-unit.result c.requires.unit h same_units in
    let left = run_left s a b p dev n step own in
    let plain : guest_at (seat_of a dev n).guests p.id ≡ None = (λ i. guest_at (seat_of a dev n).guests (same i))
    ∙ none in
    let running = running_own s a dev n p left.seat st.sound own plain left.is in
    let first = runs_first s a dev n (since_of a.units times dev n) old p own seen plain running
    ((λ i. reply_in a.replies (same i)) ∙ unanswered) in
    let room = room_for s a dev n c.args.self.now.units old p h.room own first (room_seen s a times dev
    n c.args.self.now.units c.self.inside.units c.index-self-unit.result c.requires.unit h same_units) in
    let lowered = (c.run.ensures.seat s.hosts (seat_of a dev n) left.seat (since_of a.units times dev n)
    p seen same none ((λ i. running_at (seat_of a dev n) (sym same i)) ∙ running) sending room
    ((λ i. seat_after_run (sym same i) (seat_of a dev n)) ∙ left.is)).2 in
    one_set s (events.Run p.id) a b times c.args.now dev n c.args.self.now.units c.self.inside.units
    (set c.self.inside.units n c.run.new.self) c.index-self-unit.result old c.run.new.self _ c.requires.unit step h
    (λ m e. other_place s p dev n m own e) same_units refl refl left
    (λ after e k. (c.run.ensures.seat s.hosts (seat_of a dev n) after (since_of a.units times dev n) p k same none
    ((λ i. running_at (seat_of a dev n) (sym same i)) ∙ running) sending room
    ((λ i. seat_after_run (sym same i) (seat_of a dev n)) ∙ e)).0)
    (room_after s a b dev n c.args.self.now.units old c.run.new.self p step h.room own first lowered)

pub returns-clause-reply : goal.returns-clause-reply
returns-clause-reply c = λ s a b times p h own same none sending unanswered st.
    let dev : ℕ = c.args.self.now.dev in
    let n : ℕ = c.args.unit in
    let old : LogicalUnit = get_or c.self.inside.units n c.index-self-unit.result in
    let same_units : c.self.inside.units ≡ c.args.self.now.units = λ i. (c.self.view_is i).units in
    let step : IsStep s (events.Run p.id) a b = subst (λ (k : ProcId). IsStep s (events.Run k) a b) (sym same) st in
    let seen = unit_seen s a times dev n c.args.self.now.units
    c.self.inside.units c.index-self-unit.result c.requires.unit h same_units in
    let left = run_left s a b p dev n step own in
    let plain : guest_at (seat_of a dev n).guests p.id ≡ None = (λ i. guest_at (seat_of a dev n).guests (same i))
    ∙ none in
    let running = running_own s a dev n p left.seat st.sound own plain left.is in
    let first = runs_first s a dev n (since_of a.units times dev n) old p own seen plain running
    ((λ i. reply_in a.replies (same i)) ∙ unanswered) in
    let room = room_for s a dev n c.args.self.now.units old p h.room own first (room_seen s a times dev
    n c.args.self.now.units c.self.inside.units c.index-self-unit.result c.requires.unit h same_units) in
    (c.run.ensures.seat s.hosts (seat_of a dev n) left.seat (since_of a.units times dev n) p seen same none
    ((λ i. running_at (seat_of a dev n) (sym same i)) ∙ running) sending room
    ((λ i. seat_after_run (sym same i) (seat_of a dev n)) ∙ left.is)).1
    ∙ (λ i. Some (told_of (reply_same a dev n p.initiator p.cdb p own.target_is own.unit_is refl refl i)))

pub returns-clause-guest : goal.returns-clause-guest
returns-clause-guest c = λ s a b times p r h own same g sense st.
    let dev : ℕ = c.args.self.now.dev in
    let n : ℕ = c.args.unit in
    let old : LogicalUnit = get_or c.self.inside.units n c.index-self-unit.result in
    let same_units : c.self.inside.units ≡ c.args.self.now.units = λ i. (c.self.view_is i).units in
    let step : IsStep s (events.Run p.id) a b = subst (λ (k : ProcId). IsStep s (events.Run k) a b) (sym same) st in
    let seen = unit_seen s a times dev n c.args.self.now.units
    c.self.inside.units c.index-self-unit.result c.requires.unit h same_units in
    let left = run_left s a b p dev n step own in
    let kept = (c.run.ensures.guest s.hosts (seat_of a dev n) left.seat (since_of a.units times dev n) r seen g sense
    ((λ i. seat_after_run (sym same i) (seat_of a dev n)) ∙ left.is)).1 in
    one_set s (events.Run p.id) a b times c.args.now dev n c.args.self.now.units c.self.inside.units
    (set c.self.inside.units n c.run.new.self) c.index-self-unit.result old c.run.new.self _ c.requires.unit step h
    (λ m e. other_place s p dev n m own e) same_units refl refl left
    (λ after e k. (c.run.ensures.guest s.hosts (seat_of a dev n) after
    (since_of a.units times dev n) r k g sense ((λ i. seat_after_run (sym same i) (seat_of a dev n)) ∙ e)).0)
    (spare_stays s (events.Run p.id) a b dev n old c.run.new.self step kept)
