-- What a command meets at its unit, as a waiting command is chosen there.
use Rattle.array_model.specs.Seats.{settled_seat, Seat, context_of, unit_with_choice}
use Rattle.std.proofs.Common.{Bool, Some, ℕ, Option, refl, false, true, None, ◌≡◌}
use Rattle.array_model.specs.Order.{choice}
use Rattle.std.specs.Prelude.{if◌then◌else◌, ◌&&◌, not}
use Rattle.array_model.specs.Units.{UnitState, has_no_current, with_current}
use Rattle.array_model.specs.Processes.{Process}
use Rattle.array_model.specs.Seats

pub choice_keeps : (held : Bool) (u : UnitState) → (unit_with_choice held u).contents ≡ u.contents
choice_keeps held u = go (has_no_current u.current && not held)
  where
    with : (p : Option Process) → (with_current u p).contents ≡ u.contents
    with None = refl
    with (Some p) = refl

    go : (y : Bool) → (if y then with_current u (choice u.pick u.waiting) else u).contents ≡ u.contents
    go true = with (choice u.pick u.waiting)
    go false = refl

pub settled_context : (seat : Seat) (initiator : ℕ)
    → context_of (settled_seat seat) initiator ≡ context_of seat initiator
settled_context seat initiator = go seat.unit
  where
    go : (x : Option UnitState) → context_of (settled_seat (record seat { unit = x })) initiator
        ≡ context_of (record seat { unit = x }) initiator
    go None = refl
    go (Some u) = λ i. record {
      present = true;
      contents = choice_keeps (Seats.is_any_held seat.hold) u i;
      stored = seat.senses initiator;
      attention = seat.attentions initiator;
    }
