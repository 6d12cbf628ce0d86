-- What is still to come of the scenario's lines stays with a row that begins, carries and tells nothing.
use Rattle.measure_laws.proofs
use proofs.Names.{ℕ, ◌≡◌, List, [], ◌∷◌, refl, ap, length, ◌+◌, ◌*◌, if◌then◌else◌, ScenarioValue, AbortDef, CmdDef}
use proofs.Names.{command_id, command_item, has_item, progress_in, RunState, Wishes, wishes_of, aborts_left}
use proofs.Names.{commands_left, future_left, is_in_data, open_left, resets_left, sense_left, serves_item, unsent_left}
use proofs.Names.{for_fault, for_reset}

same_commands : (s : ScenarioValue) (j k : RunState) → wishes_of j ≡ wishes_of k → is_in_data j ≡ is_in_data k
    → (m : ℕ) (commands : List CmdDef) → commands_left s j m commands ≡ commands_left s k m commands
same_commands s j k w d m [] = refl
same_commands s j k w d m (c ∷ commands) =
    let rest = same_commands s j k w d (m + 1) commands in
    λ i. (if has_item (w i).sent.over (command_item m) then sense_left (w i).sent m
    else if has_item (w i).sent.sent (command_item m) then open_left s (serves_item (w i).served (command_item m))
    (d i) (progress_in (w i).progress (command_id m)).runs c else unsent_left s (w i).sent m c)
    + rest i

same_aborts : (s : ScenarioValue) (j k : RunState) → wishes_of j ≡ wishes_of k → (m : ℕ) (aborts : List AbortDef)
    → aborts_left s j.story.sent m aborts ≡ aborts_left s k.story.sent m aborts
same_aborts s j k w m aborts = ap (λ (x : Wishes). aborts_left s x.sent m aborts) w

-- All of it, where it is no matter of a reset.
pub future_same : (s : ScenarioValue) (j k : RunState) → wishes_of j ≡ wishes_of k → is_in_data j ≡ is_in_data k
    → resets_left j s.resets ≡ resets_left k s.resets → future_left s j ≡ future_left s k
future_same s j k w d r =
    let commands = same_commands s j k w d 1 s.commands in
    let aborts = same_aborts s j k w 1 s.aborts in
    λ i. commands i + aborts i + for_reset * r i + for_fault s * length (w i).faults
