-- The word `make`: what each status says, and what is written.
use Rattle.std.specs.Prelude.{ℕ}
use Rattle.scenario.specs.Writing.{text_of}
use Rattle.scenario.specs.Making.{made}
use Rattle.bus_cli.specs.Lines.{memory_line, Writing, Adds, AddsFront, SaysLine}
use Rattle.bus_cli.specs.declared.status.Status.{Status}
use Rattle.bus_cli.specs.declared.status.Status.TheVariants.{Done, Words, Refused, Read, Write, Memory, Broken}
use Rattle.bus_cli.specs.declared.status.Status.TheVariants.{BadTrace, BadDump}

-- What was written with this status: the text of the scenario of this number, or with Write a front of it; or the
-- status' own line.
abbrev pub MakeSays : ℕ → ℕ → Status → Writing → Type 0
MakeSays seed n Done w = Adds (text_of (made seed n)) w
MakeSays seed n Write w = AddsFront (text_of (made seed n)) w
MakeSays seed n Memory w = SaysLine memory_line w
MakeSays seed n Words w = ⊥
MakeSays seed n Refused w = ⊥
MakeSays seed n Read w = ⊥
MakeSays seed n Broken w = ⊥
MakeSays seed n BadTrace w = ⊥
MakeSays seed n BadDump w = ⊥

-- the statuses with which it ends
abbrev pub MakeTells : Status → Type 0
MakeTells Done = Unit {0}
MakeTells Write = Unit {0}
MakeTells Memory = Unit {0}
MakeTells Words = ⊥
MakeTells Refused = ⊥
MakeTells Read = ⊥
MakeTells Broken = ⊥
MakeTells BadTrace = ⊥
MakeTells BadDump = ⊥
