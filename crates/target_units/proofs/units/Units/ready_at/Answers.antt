use Rattle.std.proofs.Common.{ℕ, subst, sym, ◌∙◌}
use Rattle.array_model.specs.Seats.{seat_of}
use Rattle.due_model.specs.Wants.{since_of}
use Rattle.target_units.proofs.UnitSteps.{unit_seen}
use Rattle.std.proofs.Common.{◌+◌, ◌≡◌, ◌<◌, ◌^◌}
use Rattle.array_model.specs.Seats.{is_any_held, current_of}
use Rattle.due_model.specs.dialogue_model.specs.Wants.{ready_in}
use Rattle.target_units.specs.Readies.{ready_unit}
use Rattle.target_units.proofs.UnitTellings.{ready_is, own_number}
use Rattle.target_units.proofs.units.Units.ready_at.Goals as goal

pub returns : goal.returns
returns c = λ s a times sound h early.
    let dev : ℕ = c.args.self.now.dev in
    let n : ℕ = c.args.unit in
    let seen = unit_seen s a times dev n c.args.self.now.units c.self.inside.units
    c.index-self-unit.result c.requires.unit h (λ i. (c.self.view_is i).units) in
    let seek_is : c.self.inside.seek ≡ c.args.self.now.seek = λ i. (c.self.view_is i).seek in
    let sooner : (m : ℕ) → m < 8 → since_of a.units times dev m + c.self.inside.seek < 2 ^ 64 = λ m lt. subst
    (λ (k : ℕ). since_of a.units times dev m + k < 2 ^ 64) (sym seek_is) (early m lt) in
    c.ready.ensures s.hosts (seat_of a dev n) (since_of a.units times dev n) seen
    (sooner n c.requires.unit) (own_number s a dev n sound)
    ∙ (λ i. ready_unit (ready_in (is_any_held (seat_of a dev n).hold) (current_of (seat_of a dev n).unit)
    (since_of a.units times dev n + seek_is i))) ∙ ready_is s a times dev c.args.self.now.seek n sound
