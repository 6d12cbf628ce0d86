-- The words of the program.
use Rattle.std.specs.Prelude.{ℕ, ◌&&◌, List, [], ◌∷◌, Option, Some, None, nat_eq, nat_lt, nat_le, codes, if◌then◌else◌}
use Rattle.std.specs.Cmp.Lexicographic.{pointwise}
use Rattle.text_words.specs.Words.{Number, number_at}
use Rattle.trace_text.specs.declared.limit.TheConstants.{LIMIT as TRACE_LIMIT}
use Rattle.vcd_text.specs.declared.limit.TheConstants.{LIMIT as DUMP_LIMIT}
use Rattle.scenario.specs.declared.bounds.TheConstants.{LIMIT as SCENARIO_LIMIT, COMMAND_LIMIT}
use Rattle.bus_cli.specs.declared.words.Extent.TheVariants as extents
use Rattle.bus_cli.specs.declared.words.Word.{Word}
use Rattle.bus_cli.specs.declared.words.Word.TheVariants.{Run, Judge, Make, Vcd, Unvcd, Transcript}

-- A number that stands alone.
abbrev pub alone : Number → List ℕ → Option ℕ
alone n [] = n
alone n (b ∷ bytes) = None

abbrev pub read_alone : Option (Number × List ℕ) → Option ℕ
read_alone None = None
read_alone (Some read) = alone read.0 read.1

-- The decimal number that a word is, without zeros in front and below 2^64.
abbrev pub number_of : List ℕ → Option ℕ
number_of word = read_alone (number_at word)

-- `make` with these numbers: from 1 to 4096 commands
abbrev pub making : Option ℕ → Option ℕ → Option Word
making (Some seed) (Some n) = if nat_lt 0 n && nat_le n COMMAND_LIMIT then Some (Make seed n) else None
making _ _ = None

abbrev pub one_word : List ℕ → Option Word
one_word word =
    if pointwise nat_eq word (codes "run") then Some (Run extents.Whole)
    else if pointwise nat_eq word (codes "judge") then Some Judge
    else if pointwise nat_eq word (codes "vcd") then Some Vcd
    else if pointwise nat_eq word (codes "unvcd") then Some Unvcd
    else if pointwise nat_eq word (codes "transcript") then Some Transcript
    else None

-- `run` with this option
abbrev pub running : List ℕ → Option Word
running option =
    if pointwise nat_eq option (codes "--short") then Some (Run extents.Short)
    else if pointwise nat_eq option (codes "--transcript") then Some (Run extents.Transcript)
    else None

abbrev pub two_words : List ℕ → List ℕ → Option Word
two_words word option = if pointwise nat_eq word (codes "run") then running option else None

abbrev pub three_words : List ℕ → List ℕ → List ℕ → Option Word
three_words word seed n =
    if pointwise nat_eq word (codes "make") then making (number_of seed) (number_of n) else None

-- what the words ask, exactly one of these lists of words
abbrev pub word_of : List (List ℕ) → Option Word
word_of [] = None
word_of (word ∷ []) = one_word word
word_of (word ∷ option ∷ []) = two_words word option
word_of (word ∷ seed ∷ n ∷ []) = three_words word seed n
word_of (word ∷ seed ∷ n ∷ next ∷ words) = None

-- the most bytes that the input may have
abbrev pub limit_of : Word → ℕ
limit_of (Run extent) = SCENARIO_LIMIT
limit_of Judge = TRACE_LIMIT
limit_of (Make seed n) = 0
limit_of Vcd = TRACE_LIMIT
limit_of Unvcd = DUMP_LIMIT
limit_of Transcript = TRACE_LIMIT
