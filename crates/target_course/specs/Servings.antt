-- What the target of a connection decides by, with the bytes that its process gives.
use Rattle.std.specs.Prelude.{ℕ, List, slice_index_or, Option, Some, None}
use Rattle.due_model.specs.dialogue_model.specs.NextPhase as next_phase
use Rattle.target_course.specs.declared.serving.Serving.{Serving}

abbrev pub serving_with : Serving → List ℕ → next_phase.Serving
serving_with v given = record { def = Some v.def; plan = v.plan; task = v.task; given = given; arrival = v.arrival }

-- The byte at a place of these, if there is one.
abbrev pub byte_if : List ℕ → Option ℕ → ℕ
byte_if given None = 0
byte_if given (Some place) = slice_index_or given place 0
