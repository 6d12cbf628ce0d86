-- Which samples the faults strike, sample by sample in order of time: the first fault that has not struck yet strikes a
-- sample at or after its time.
use Rattle.std.specs.Prelude.{ℕ, List, [], ◌∷◌, ◌++◌, drop, Option, Some, None}
use Rattle.due_model.specs.scenario.specs.declared.value.FaultDef.{FaultDef}
use Rattle.due_model.specs.story_model.specs.Samples.{Sample, Strike}
use Rattle.due_model.specs.Sights.{flip_of}

-- What a sample takes of a fault that strikes this bit of it, and what is left of the faults then.
abbrev pub strike_if : Sample → Option ℕ → List Strike
strike_if a None = []
strike_if a (Some bit) = record { sample = a; bit = bit } ∷ []

abbrev pub left_if : List FaultDef → Option ℕ → List FaultDef
left_if faults None = faults
left_if faults (Some bit) = drop 1 faults

abbrev pub strikes_in_turn : List FaultDef → List Sample → List Strike
strikes_in_turn faults [] = []
strikes_in_turn faults (a ∷ samples) =
    strike_if a (flip_of faults a.time) ++ strikes_in_turn (left_if faults (flip_of faults a.time)) samples

abbrev pub faults_left : List FaultDef → List Sample → List FaultDef
faults_left faults [] = faults
faults_left faults (a ∷ samples) = faults_left (left_if faults (flip_of faults a.time)) samples
