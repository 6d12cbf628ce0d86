-- The lines that the program writes where it writes no report.
use Rattle.std.specs.Prelude.{ℕ, ◌≡◌, ◌⊎◌, List, ◌++◌, take, Option, Some, IfSome, codes, decimal}
use Rattle.bus_base.specs.Faults.{HasRisen}

abbrev pub usage_line : List ℕ
usage_line = codes "usage: scsibus run [--short|--transcript] | judge | make SEED N | transcript | vcd | unvcd\n"

abbrev pub fault_line : List ℕ
fault_line = codes "read fault\n"

abbrev pub memory_line : List ℕ
memory_line = codes "no memory\n"

abbrev pub lawful_line : List ℕ
lawful_line = codes "lawful\n"

-- the line that tells of the first line of a scenario with a reason
abbrev pub refusal_line : ℕ → ℕ → List ℕ
refusal_line line reason =
    codes "scenario line " ++ (decimal line ++ (codes " reason " ++ (decimal reason ++ codes "\n")))

-- the line that tells of the first row of a trace that breaks a rule
abbrev pub broken_line : ℕ → ℕ → List ℕ
broken_line row rule = codes "broken " ++ (decimal row ++ (codes " " ++ (decimal rule ++ codes "\n")))

-- the line that tells of the first line of a trace text that breaks its form
abbrev pub trace_line : ℕ → List ℕ
trace_line line = codes "trace line " ++ (decimal line ++ codes "\n")

-- the line that tells of the first token of a value change dump that breaks its form
abbrev pub dump_line : ℕ → List ℕ
dump_line line = codes "vcd line " ++ (decimal line ++ codes "\n")

-- What was written to a sink: the bytes that it held before and, where that is told, holds after, and its count of
-- faults before and after.
pub record Writing : Type 0 where
  pub before : List ℕ
  pub after : Option (List ℕ)
  pub faults_before : ℕ
  pub faults_after : ℕ

abbrev pub writing : List ℕ → Option (List ℕ) → ℕ → ℕ → Writing
writing before after f g = record { before = before; after = after; faults_before = f; faults_after = g }

-- This is so of what was written, where the bytes are told that the sink held before. It is given what tells the bytes
-- of a sink and what counts its faults, and the sink before and after.
abbrev pub IfTold : {K : Type 0} → (K → Option (List ℕ)) → (K → ℕ) → K → K → (Writing → Type 0) → Type 0
IfTold bytes faults old new Says =
    IfSome (bytes old) (λ before. Says (writing before (bytes new) (faults old) (faults new)))

-- The sink holds this text after what it held before.
abbrev pub Adds : List ℕ → Writing → Type 0
Adds text w = w.after ≡ Some (w.before ++ text)

-- The sink holds a front of this text after what it held before.
abbrev pub AddsFront : List ℕ → Writing → Type 0
AddsFront text w = (k : ℕ) × Adds (take k text) w

-- The line was written; or a front of it, and the count of faults rose.
abbrev pub SaysLine : List ℕ → Writing → Type 0
SaysLine line w = Adds line w ⊎ ((k : ℕ) × Adds (take k line) w × HasRisen w.faults_before w.faults_after)
