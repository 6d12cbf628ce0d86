-- The unit that is ready first is one of eight, and ready before 2 ^ 63.
use Rattle.std.proofs.Common.{arith, ℕ, ◌≡◌, ◌<◌, ◌+◌, ◌^◌, ◌∙◌, Bool, true, false, List, refl, sym, subst, Option}
use Rattle.std.proofs.Common.{Some, None}
use Rattle.std.specs.Prelude.{if◌then◌else◌}
use Rattle.array_model.specs.Seats as Seats
use Rattle.array_model.specs.SoundArray.{IsSound}
use Rattle.array_model.specs.Units.{RunningProcess, UnitState, Array, unit_state_at, is_held}
use Rattle.scenario.specs.Value.{ScenarioValue}
use Rattle.due_model.specs.dialogue_model.specs.Wants as wants
use Rattle.due_model.specs.Wants as due
use Rattle.target_course.specs.States.{IsReadyWithin}
use Rattle.target_course.specs.target_units.specs.Readies.{ready_unit}
use Rattle.target_course.specs.target_units.proofs.UnitTellings.{own_number}

within_first : (x y : Option wants.Ready) → IsReadyWithin (ready_unit x) → IsReadyWithin (ready_unit y)
    → IsReadyWithin (ready_unit (wants.first_ready x y))
within_first None y f g = g
within_first (Some x) None f g = f
within_first (Some x) (Some y) f g = go (wants.is_ready_before y x)
  where
    go : (z : Bool) → IsReadyWithin (ready_unit (if z then Some y else Some x))
    go true = g
    go false = f

within_at : (s : ScenarioValue) (a : Array) (times : List ℕ) (dev seek n : ℕ) → n < 8 → IsSound s a
    → due.since_of a.units times dev n + seek < 2 ^ 63 → IsReadyWithin (ready_unit (due.ready_at a times seek dev n))
within_at s a times dev seek n small sound early = go (unit_state_at a.units dev n) refl
  where
    time : ℕ
    time = due.since_of a.units times dev n + seek

    run : (r : RunningProcess) → r.process.unit ≡ n → (held : Bool)
        → IsReadyWithin (ready_unit (if held then None else Some (record { time = time; process = r.process })))
    run r e true = _
    run r e false = (early, subst (λ (m : ℕ). m < 8) (sym e) small)

    current : (x : Option UnitState) → unit_state_at a.units dev n ≡ x → (c : Option RunningProcess)
        → Seats.current_of x ≡ c → IsReadyWithin (ready_unit (wants.ready_in (is_held a.holds dev n) c time))
    current x e None g = _
    current x e (Some r) g =
        run r (own_number s a dev n sound r ((λ i. Seats.current_of (e i)) ∙ g)) (is_held a.holds dev n)

    go : (x : Option UnitState) → unit_state_at a.units dev n ≡ x → IsReadyWithin
        (ready_unit (wants.ready_in (is_held a.holds dev n) (Seats.current_of (unit_state_at a.units dev n)) time))
    go x e = subst (λ (y : Option UnitState). IsReadyWithin
        (ready_unit (wants.ready_in (is_held a.holds dev n) (Seats.current_of y) time))) (sym e)
        (current x e (Seats.current_of x) refl)

-- One unit after the other, the last first.
pub ready_by : (P : Option wants.Ready → Type 0) (a : Array) (times : List ℕ) (seek dev : ℕ) → P None
    → ((n : ℕ) (rest : Option wants.Ready) → n < 8 → P rest
    → P (wants.first_ready (due.ready_at a times seek dev n) rest)) → P (due.ready_among a times seek dev)
ready_by P a times seek dev none more = more 0 rest-1 (omega arith)
    (more 1 rest-2 (omega arith) (more 2 rest-3 (omega arith) (more 3 rest-4 (omega arith) (more 4 rest-5 (omega arith)
    (more 5 rest-6 (omega arith) (more 6 rest-7 (omega arith) (more 7 None (omega arith) none)))))))
  where
    rest-7 : Option wants.Ready
    rest-7 = wants.first_ready (due.ready_at a times seek dev 7) None

    rest-6 : Option wants.Ready
    rest-6 = wants.first_ready (due.ready_at a times seek dev 6) rest-7

    rest-5 : Option wants.Ready
    rest-5 = wants.first_ready (due.ready_at a times seek dev 5) rest-6

    rest-4 : Option wants.Ready
    rest-4 = wants.first_ready (due.ready_at a times seek dev 4) rest-5

    rest-3 : Option wants.Ready
    rest-3 = wants.first_ready (due.ready_at a times seek dev 3) rest-4

    rest-2 : Option wants.Ready
    rest-2 = wants.first_ready (due.ready_at a times seek dev 2) rest-3

    rest-1 : Option wants.Ready
    rest-1 = wants.first_ready (due.ready_at a times seek dev 1) rest-2

pub within : (s : ScenarioValue) (a : Array) (times : List ℕ) (dev seek : ℕ)
    → IsSound s a → ((n : ℕ) → n < 8 → due.since_of a.units times dev n + seek < 2 ^ 63)
    → IsReadyWithin (ready_unit (due.ready_among a times seek dev))
within s a times dev seek sound early = ready_by
    (λ (x : Option wants.Ready). IsReadyWithin (ready_unit x)) a times seek dev _ (λ n rest small h. within_first
    (due.ready_at a times seek dev n) rest (within_at s a times dev seek n small sound (early n small)) h)
