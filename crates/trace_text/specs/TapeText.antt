-- The text of the tapes: a line with the position of each, and one for each object on it.
use Rattle.std.specs.Prelude.{ℕ, ◌+◌, List, [], ◌∷◌, ◌++◌, codes, decimal, Option, Some, None}
use Rattle.text_words.specs.Spelling.{hex_text}
use Rattle.array_model.specs.Contents.{Contents}
use Rattle.array_model.specs.Reels as reels
use Rattle.array_model.specs.Reels.{Object, Reel}

abbrev pub held_text : Object → List ℕ
held_text (reels.block bytes) = hex_text bytes
held_text reels.filemark = codes "mark"

-- `object T U N HEX` or `object T U N mark`
abbrev pub object_text : ℕ → ℕ → ℕ → Object → List ℕ
object_text target unit n object = codes "object " ++ (decimal target
    ++ (32 ∷ [] ++ (decimal unit ++ (32 ∷ [] ++ (decimal n ++ (32 ∷ [] ++ (held_text object ++ 10 ∷ [])))))))

abbrev pub objects_text : ℕ → ℕ → ℕ → List Object → List ℕ
objects_text target unit n [] = []
objects_text target unit n (object ∷ objects) =
    object_text target unit n object ++ objects_text target unit (n + 1) objects

-- `tape T U POSITION`
abbrev pub position_text : ℕ → ℕ → ℕ → List ℕ
position_text target unit position =
    codes "tape " ++ (decimal target ++ (32 ∷ [] ++ (decimal unit ++ (32 ∷ [] ++ (decimal position ++ 10 ∷ [])))))

abbrev pub reel_text : ℕ → ℕ → Option Reel → List ℕ
reel_text target unit None = []
reel_text target unit (Some r) = position_text target unit r.position ++ objects_text target unit 0 r.objects

-- the tapes, each at its target and unit
abbrev pub tapes_text : List (ℕ × ℕ) → List Contents → List ℕ
tapes_text [] tapes = []
tapes_text (unit ∷ units) [] = []
tapes_text (unit ∷ units) (tape ∷ tapes) = reel_text unit.0 unit.1 tape.reel ++ tapes_text units tapes
