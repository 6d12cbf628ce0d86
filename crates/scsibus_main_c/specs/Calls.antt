-- What a call of the program answers.
use Rattle.std.specs.Prelude.{ℕ, ◌≡◌, ◌≢◌, ◌↔◌, ◌⊎◌, List, [], ◌++◌, length, take, drop, Option, Some, None}
use Rattle.bus_cli.specs.Lines.{memory_line, writing}
use Rattle.bus_cli.specs.Words.{word_of}
use Rattle.bus_cli.specs.Ends.{Says, MeetsInput, TellsInput, code_of}
use Rattle.bus_cli.specs.declared.status.Status.{Status}
use Rattle.bus_cli.specs.declared.status.Status.TheVariants as statuses
use Rattle.bus_cli.specs.declared.words.Word.{Word}
use Rattle.scsibus_main_c.specs.Words.{words_in}
use Rattle.scsibus_main_c.specs.declared.calls.ScsibusAnswer.{ScsibusAnswer}

-- what the text of the words asks
abbrev pub asked : List ℕ → Option Word
asked words = word_of (words_in words)

-- What the program ends with, and the text that it writes, by its words and its input, where no read and no write
-- fails.
pub record IsAnswer (words input : List ℕ) (status : Status) (text : List ℕ) : Type 0 where
  pub usage : (status ≡ statuses.Words) ↔ (asked words ≡ None)
  pub says : Says (asked words) status (Some input) (writing [] (Some text) 0 0)
  pub meets : MeetsInput (asked words) status (Some input)
  pub tells : TellsInput (asked words) status (Some input)
  pub reads : status ≢ statuses.Read
  pub writes : status ≢ statuses.Write

-- The same; or there was no memory.
abbrev pub Answers : List ℕ → List ℕ → Status → List ℕ → Type 0
Answers words input status text = IsAnswer words input status text ⊎ ((status ≡ statuses.Memory) × (text ≡ memory_line))

-- what stands in memory once the front of a text that fits stands at its front
abbrev pub shown_in : List ℕ → List ℕ → List ℕ
shown_in memory text = take (length memory) text ++ drop (length text) memory

-- A call with these words and this input answers this, and the memory of its text has become this.
pub record IsCall (words input before after : List ℕ) (answer : ScsibusAnswer) : Type 0 where
  pub status : Status
  pub text : List ℕ
  pub answers : Answers words input status text
  pub code : answer.status ≡ code_of status
  pub length : answer.length ≡ length text
  pub shown : after ≡ shown_in before text
