-- The text of the replies: a line for each command, numbered from 1.
use Rattle.std.specs.Prelude.{ℕ, ◌+◌, List, [], ◌∷◌, ◌++◌, Option, Some, None, codes, decimal}
use Rattle.text_words.specs.Spelling.{byte_text, hex_text}
use Rattle.cdb_codec.specs.declared.Sense.{Sense}
use Rattle.run_record.specs.declared.outcome.Outcome.{Outcome}
use Rattle.run_record.specs.declared.outcome.Outcome.TheVariants as outcomes

-- the bytes that came in, if any did
abbrev pub bytes_text : List ℕ → List ℕ
bytes_text [] = []
bytes_text (byte ∷ bytes) = 32 ∷ [] ++ hex_text (byte ∷ bytes)

-- the marks and the residue, where there is one: what a tape met, and how many it did not move over or write
abbrev pub residue_text : ℕ → Option ℕ → List ℕ
residue_text marks None = []
residue_text marks (Some residue) = 32 ∷ [] ++ (byte_text marks ++ (32 ∷ [] ++ decimal residue))

-- key, codes and residue of the sense that came
abbrev pub sense_text : Option Sense → List ℕ
sense_text None = codes "none"
sense_text (Some s) = byte_text s.key ++ (byte_text s.asc ++ (byte_text s.ascq ++ residue_text s.marks s.residue))

abbrev pub outcome_text : Outcome → List ℕ
outcome_text (outcomes.Good bytes) = codes "GOOD" ++ bytes_text bytes
outcome_text (outcomes.Check sense) = codes "CHECK " ++ sense_text sense
outcome_text outcomes.QFull = codes "QFULL"
outcome_text outcomes.SelTimeout = codes "SELTIMEOUT"
outcome_text outcomes.Lost = codes "LOST"
outcome_text outcomes.Reset = codes "RESET"
outcome_text outcomes.Aborted = codes "ABORTED"

-- `cmd N` and how it ended
abbrev pub reply_text : ℕ → Outcome → List ℕ
reply_text n outcome = codes "cmd " ++ (decimal n ++ (32 ∷ [] ++ (outcome_text outcome ++ 10 ∷ [])))

-- the replies from this number on
abbrev pub replies_text : ℕ → List Outcome → List ℕ
replies_text n [] = []
replies_text n (outcome ∷ outcomes) = reply_text n outcome ++ replies_text (n + 1) outcomes
