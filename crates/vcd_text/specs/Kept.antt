-- What a reader keeps of a token that has not ended: as many of its bytes as tell it from others.
use Rattle.std.specs.Prelude.{◌≡◌, ℕ, ◌+◌, ◌≤◌, Bool, true, false, List, [], ◌∷◌, ◌++◌, length, Option, Some, None}
use Rattle.std.specs.Prelude.{◌==◌, if◌then◌else◌}
use Rattle.vcd_text.specs.declared.awaits.Awaits.{Awaits}
use Rattle.vcd_text.specs.declared.awaits.Awaits.TheVariants.{VarWidth, VarCode, Change}
use Rattle.vcd_text.specs.declared.dump.Dump.{Dump}
use Rattle.vcd_text.specs.declared.reader.VcdReader.{VcdReader}
use Rattle.vcd_text.specs.declared.kept.Tail.{Tail}
use Rattle.vcd_text.specs.declared.kept.Tail.TheVariants.{Any, States, Digits}
use Rattle.vcd_text.specs.CodeLists.{longest_code, longest_device}
use Rattle.vcd_text.specs.Tokens.{is_token, is_letter}
use Rattle.vcd_text.specs.Steps.{step}
use Rattle.vcd_text.specs.Reading.{read_of, taken}

-- ---- what the bytes of a token matter for

-- What a token makes, where there is one.
abbrev pub token_made : Dump → List ℕ → Option Dump
token_made d [] = Some d
token_made d (b ∷ bytes) = if is_token (b ∷ bytes) then step d (b ∷ bytes) else None

-- The kept bytes stand for those that came: with whatever comes, the token makes the same.
abbrev pub StandsFor : Dump → List ℕ → List ℕ → Type 0
StandsFor d kept token = (rest : List ℕ) → token_made d (kept ++ rest) ≡ token_made d (token ++ rest)

-- The token breaks the form, whatever comes.
abbrev pub Breaks : Dump → List ℕ → Type 0
Breaks d token = (rest : List ℕ) → token_made d (token ++ rest) ≡ None

abbrev pub Keeps : Bool → Dump → List ℕ → List ℕ → Type 0
Keeps true d kept token = StandsFor d kept token
Keeps false d kept token = Breaks d token

-- These readers read the same, whatever comes.
abbrev pub ReadsAs : VcdReader → VcdReader → Type 0
ReadsAs r s = (rest : List ℕ) → read_of (taken r rest) ≡ read_of (taken s rest)

-- ---- how many bytes are kept

-- A token of so many bytes is longer than any keyword, any number of 64 bits without zeros in front, any value of a
-- device, and any code, also after a state.
abbrev pub token_limit : Dump → ℕ
token_limit d = 24 + (longest_code d.codes + longest_device d.devices)

-- The next token is the code of a variable.
abbrev pub is_new_code : Awaits → Bool
is_new_code (VarCode is_wide) = true
is_new_code _ = false

-- At most so many bytes are kept of a token that is no new code.
abbrev pub IsShort : Dump → List ℕ → Type 0
IsShort d kept = is_new_code d.awaits ≡ false → length kept ≤ token_limit d

-- ---- what so long a token goes on with

-- after the first byte of a change: `#` and digits, or `b` or `B` and states
abbrev pub tail_after : ℕ → Tail
tail_after first = if first == 35 then Digits 1 else if is_letter 98 66 first then States else Any

abbrev pub change_tail : List ℕ → Tail
change_tail [] = Any
change_tail (first ∷ rest) = tail_after first

abbrev pub tail_of : Awaits → List ℕ → Tail
tail_of VarWidth kept = Digits 0
tail_of Change kept = change_tail kept
tail_of _ kept = Any
