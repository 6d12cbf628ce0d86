use Rattle.std.proofs.Common.{◌∙◌, sym, subst}
use Rattle.array_model.specs.Seats.{seat_of}
use Rattle.disk_target.specs.Standings.{IsStanding, standing_at_first}
use Rattle.disk_target.specs.declared.standing.Standing.{Standing}
use Rattle.disk_target.proofs.Beginnings.{new_nowhere, current_inside}
use Rattle.disk_target.proofs.processes.Processes.begin.Goals as goal

pub returns-clause-selected : goal.returns-clause-selected
returns-clause-selected c = λ a p unit not new.
    subst (λ (v : Standing). IsStanding (seat_of a c.args.self.now.units.dev unit) p v)
    (sym (c.standing_at_first-self-inside.ensures ∙ (λ i. standing_at_first (not i))))
    (new_nowhere a p c.args.self.now.units.dev unit new)

pub returns-clause-reselected : goal.returns-clause-reselected
returns-clause-reselected c = λ a p unit r it none current same.
    subst (λ (v : Standing). IsStanding (seat_of a c.args.self.now.units.dev unit) p v)
    (sym (c.standing_at_first-self-inside.ensures ∙ (λ i. standing_at_first (it i))))
    (current_inside a p c.args.self.now.units.dev unit r none current same)
