-- What a target tells of bytes and of replies.
use Rattle.std.proofs.Common.{arith, ℕ, ◌≡◌, ◌<◌, ◌+◌, ◌^◌, ◌∙◌, List, [], ◌∷◌, refl, take, drop, Option, Some, None}
use Rattle.std.specs.Prelude.{slice_index_or}
use Rattle.std.proofs.lemmas.List.{get_or-drop, get_or_past}
use Rattle.scenario.specs.declared.value.Policy.{Policy}
use Rattle.array_model.specs.Execution.{Reply}
use Rattle.due_model.specs.dialogue_model.specs.declared.exchange.Task.{Task}
use Rattle.due_model.specs.dialogue_model.specs.DataRuns.{run_at}
use Rattle.due_model.specs.dialogue_model.specs.PhaseBytes.{data_byte}
use Rattle.target_course.specs.Courses.{status_if}
use Rattle.target_course.specs.target_units.specs.Seated.{reply_told}
use Rattle.disk_target.specs.Bytes.{status_in}

-- Its first byte.
first_of : (bytes : List ℕ) → slice_index_or (take 1 bytes) 0 0 ≡ slice_index_or bytes 0 0
first_of [] = refl
first_of (x ∷ bytes) = refl

pub one_at : (bytes : List ℕ) (n : ℕ) → slice_index_or (take 1 (drop n bytes)) 0 0 ≡ slice_index_or bytes n 0
one_at bytes n =
    let same : n + 0 ≡ n = omega arith in
    first_of (drop n bytes) ∙ get_or-drop n bytes 0 0 ∙ (λ i. slice_index_or bytes (same i) 0)

pub none_given : (policy : Policy) (task : Option Task) (more place : ℕ) → data_byte policy task [] more place ≡ 0
none_given policy None more place = refl
none_given policy (Some t) more place = get_or_past [] ((run_at policy t (t.runs + more)).start + place) 0 (omega arith)

pub status_told : (x : Option Reply) → status_in (reply_told x) ≡ status_if x
status_told None = refl
status_told (Some reply) = refl

pub wide : (z : ℕ) → z < 2 ^ 63 → z < 2 ^ 64
wide z h = omega (arith, h)
