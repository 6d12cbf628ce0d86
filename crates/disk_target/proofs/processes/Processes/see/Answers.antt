use Rattle.std.proofs.Common.{ℕ, ◌≡◌, ◌∙◌, subst, true, List}
use Rattle.std.specs.Prelude.{is_some}
use Rattle.bus_base.specs.declared.Event.{Event}
use Rattle.due_model.specs.Allowed.{allowed}
use Rattle.due_model.specs.RunState.{or_start}
use Rattle.due_model.specs.RunSteps.{run_state, array_after_events, events_of_row}
use Rattle.disk_target.specs.Processes.{AreSettledAt, times_of_events}
use Rattle.disk_target.proofs.RowEvents.{row_events}
use Rattle.disk_target.proofs.processes.Processes.see.Goals as goal
use Rattle.bus_base.proofs.Tests.{and_second}

pub returns-clause-trace : goal.returns-clause-trace
returns-clause-trace c = λ s rows row p seats permitted is time served own h.
    let k = run_state s rows in
    let n : ℕ = c.args.served.now.unit in
    let some : is_some (array_after_events s k.array c.args.shown.now) ≡ true =
    (λ i. is_some (array_after_events s k.array (is i))) ∙ and_second (allowed s rows) _ permitted in
    let z = row_events s k.array k.current_since c.args.now p n c.args.served.now c.args.self.now
    c.take_all.new.self c.args.shown.now seats h some own c.take_all.ensures.nothing
    (λ a b it e at it_own st. c.take_all.ensures.one s a b k.current_since p it e served at it_own st)
    (λ a b d it e at nowhere block later first second. c.take_all.ensures.two s
    a b d k.current_since p it e served at nowhere block later first second) in
    subst (λ (t : ℕ). AreSettledAt s (or_start s (array_after_events s k.array (events_of_row s rows row)))
    (times_of_events s k.array k.current_since (events_of_row s rows row)
    (array_after_events s k.array (events_of_row s rows row)) t) p n c.take_all.new.self) time
    (subst (λ (shown : List Event). AreSettledAt s (or_start s (array_after_events s k.array shown))
    (times_of_events s k.array k.current_since shown (array_after_events s k.array shown) c.args.now) p n
    c.take_all.new.self) is z)
