use Rattle.delivery_laws.proofs
use proofs.Names.{◌≡◌, true, List, ◌∷◌, sym, ap, subst, LineSet, Row, ScenarioValue, phase_of, Phase, run_state_plain}
use proofs.{Names.{bus_of, run_state, is_struck_phase, is_wrong_phase, whole}, Recoveries.GiveUps.{failed_by, lost_by}}
use proofs.Recoveries.{Rows.{left_by_table, prompt_at}, Struck.{wrong_for_target}}
use Rattle.delivery_laws.proofs.laws.recoveries_are_due.Goals as goal

abbrev IsWrongAt : ScenarioValue → List Row → Phase → Type 0
IsWrongAt s p x = is_wrong_phase (is_struck_phase s p) (run_state s p).exchange.plan x ≡ true

pub returns : goal.returns
returns c = λ s rows o prompt. record {
  left = λ later before row n t split w et e.
      let h = prompt_at s rows later (row ∷ before) prompt split in
      let same = ap (λ (l : LineSet). phase_of l)
      (run_state_plain s before (whole s before o h.0).stood.standing.devices).bus in
      let is : IsWrongAt s before (phase_of (bus_of (run_state s before))) = subst
      (λ (x : Phase). IsWrongAt s before x) (sym same) e in
      left_by_table s before row n t o h w et (subst
      (λ (x : Phase). is_wrong_phase (run_state s before).exchange.plan.struck (run_state s before).exchange.plan x
      ≡ true) same (wrong_for_target s before o h.0 is));
  failed = λ later before row n id code split con e.
      let h = prompt_at s rows later (row ∷ before) prompt split in
      failed_by s before row n id code c.give_ups_have_causes.ensures.failure
      (c.ends_know_what_rows_tell.ensures.telling s (row ∷ before) o h) o h con e;
  lost = λ later before row n p split con over calm own e.
      let h = prompt_at s rows later (row ∷ before) prompt split in
      lost_by s before row n p c.give_ups_have_causes.ensures.loss (c.ends_know_what_rows_tell.ensures.telling s
      (row ∷ before) o h) (c.connections_are_of_the_scenario.ensures.left s (row ∷ before) o h) o h con over calm own e;
  struck = λ later before split e. c.give_ups_have_causes.ensures.struck s before e;
  counted = λ later before id split. c.give_ups_have_causes.ensures.counted s before id;
  refused = λ later before policy p split e. c.refusals_have_causes.ensures.planned s (run_state s before) policy p e;
}
