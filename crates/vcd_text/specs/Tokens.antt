-- What a token of a dump says by itself.
use Rattle.std.specs.Prelude.{ℕ, ◌+◌, ◌-◌, ◌*◌, ◌^◌, Bool, true, false, ◌&&◌, ◌||◌, not, List, [], ◌∷◌, length, Option}
use Rattle.std.specs.Prelude.{Some, None, option_map, nat_lt, nat_le, nat_eq, ◌==◌, codes, if◌then◌else◌}
use Rattle.std.specs.List.{list_all}
use Rattle.std.specs.Cmp.Lexicographic.{pointwise}
use Rattle.std.specs.Char.{is_ascii_digit}
use Rattle.bus_trace.specs.LineSet.{LineSet, set_of}
use Rattle.vcd_text.specs.declared.awaits.Awaits.{Awaits}
use Rattle.vcd_text.specs.declared.awaits.Awaits.TheVariants.{Declaration, Remark, Timescale, Nanoseconds, ScopeKind}
use Rattle.vcd_text.specs.declared.awaits.Awaits.TheVariants.{ScopeName, End, VarKind, VarWidth, VarCode, VarRange}
use Rattle.vcd_text.specs.declared.awaits.Awaits.TheVariants.{LastEnd, Change, ChangeRemark, Code}

-- Tokens stand between spaces, tabs, carriage returns and line feeds.
abbrev pub is_space : ℕ → Bool
is_space b = b == 32 || b == 9 || b == 13 || b == 10

-- Their bytes are 21 to 7e.
abbrev pub is_printable : ℕ → Bool
is_printable b = nat_le 33 b && nat_le b 126

abbrev pub is_token : List ℕ → Bool
is_token token = list_all is_printable token

abbrev pub is_word : List ℕ → List ℕ → Bool
is_word word token = pointwise nat_eq token word

abbrev pub is_end : List ℕ → Bool
is_end token = is_word (codes "$end") token

-- A number with one decimal digit more at its end; numbers end at 64 bits.
abbrev pub more_decimal : Option ℕ → ℕ → Option ℕ
more_decimal None d = None
more_decimal (Some n) d =
    if is_ascii_digit d && nat_lt (n * 10 + (d - 48)) (2 ^ 64) then Some (n * 10 + (d - 48)) else None

-- A number followed by these digits.
abbrev pub decimal_after : Option ℕ → List ℕ → Option ℕ
decimal_after n [] = n
decimal_after n (d ∷ ds) = decimal_after (more_decimal n d) ds

-- A decimal number, which may have zeros in front.
abbrev pub decimal_of : List ℕ → Option ℕ
decimal_of digits = if length digits == 0 then None else decimal_after (Some 0) digits

-- The same in binary; the lines are 18 bits.
abbrev pub is_bit : ℕ → Bool
is_bit d = d == 48 || d == 49

abbrev pub more_bits : Option ℕ → ℕ → Option ℕ
more_bits None d = None
more_bits (Some n) d = if is_bit d && nat_lt (n * 2 + (d - 48)) (2 ^ 18) then Some (n * 2 + (d - 48)) else None

abbrev pub bits_after : Option ℕ → List ℕ → Option ℕ
bits_after n [] = n
bits_after n (d ∷ ds) = bits_after (more_bits n d) ds

-- A number of at most 18 binary digits.
abbrev pub bits_of : List ℕ → Option ℕ
bits_of digits = if nat_lt 18 (length digits) then None else bits_after (Some 0) digits

-- The lines that these digits say.
abbrev pub lines_of : List ℕ → Option LineSet
lines_of digits = option_map set_of (bits_of digits)

-- A value of four states: one or more of 0, 1, x, X, z and Z.
abbrev pub is_state : ℕ → Bool
is_state d = is_bit d || d == 120 || d == 88 || d == 122 || d == 90

abbrev pub are_states : List ℕ → Bool
are_states digits = not (length digits == 0) && list_all is_state digits

-- One of the two letters of a value.
abbrev pub is_letter : ℕ → ℕ → ℕ → Bool
is_letter lower upper b = b == lower || b == upper

-- The device that a variable of this name is, `d0` to `d7`.
abbrev pub device_named : List ℕ → Option ℕ
device_named (a ∷ b ∷ []) = if a == 100 && nat_le 48 b && nat_le b 55 then Some (b - 48) else None
device_named _ = None

-- ---- what is awaited after a token

abbrev pub given : Bool → Awaits → Option Awaits
given true next = Some next
given false next = None

-- The keyword of a declaration, but `$timescale`; that of the last is one where `$timescale` was declared.
abbrev pub after_keyword : Bool → List ℕ → Option Awaits
after_keyword has_timescale token =
    if is_word (codes "$date") token then Some Remark
    else if is_word (codes "$version") token then Some Remark
    else if is_word (codes "$comment") token then Some Remark
    else if is_word (codes "$scope") token then Some ScopeKind
    else if is_word (codes "$upscope") token then Some End
    else if is_word (codes "$var") token then Some VarKind
    else if is_word (codes "$enddefinitions") token then given has_timescale LastEnd
    else None

abbrev pub after_timescale : List ℕ → Option Awaits
after_timescale token =
    if is_word (codes "1ns") token then Some End
    else if is_word (codes "1") token then Some Nanoseconds
    else None

-- A width: whether the variable has eighteen lines.
abbrev pub after_width : Option ℕ → Option Awaits
after_width None = None
after_width (Some width) = Some (VarCode (width == 18))

-- Within a declaration: the kind of a scope or a variable and the name of a scope may be any tokens, and one token may
-- stand after the name of a variable.
abbrev pub after_part : Awaits → List ℕ → Option Awaits
after_part Remark token = Some (if is_end token then Declaration else Remark)
after_part Timescale token = after_timescale token
after_part Nanoseconds token = given (is_word (codes "ns") token) End
after_part ScopeKind token = Some ScopeName
after_part ScopeName token = Some End
after_part End token = given (is_end token) Declaration
after_part VarKind token = Some VarWidth
after_part VarWidth token = after_width (decimal_of token)
after_part VarRange token = Some (if is_end token then Declaration else End)
after_part LastEnd token = given (is_end token) Change
after_part ChangeRemark token = Some (if is_end token then Change else ChangeRemark)
after_part _ token = None

-- A keyword among the changes: those of a dump of all values do nothing.
abbrev pub after_change_keyword : List ℕ → Option Awaits
after_change_keyword token =
    if is_word (codes "$dumpvars") token then Some Change
    else if is_word (codes "$dumpall") token then Some Change
    else if is_word (codes "$dumpon") token then Some Change
    else if is_end token then Some Change
    else if is_word (codes "$comment") token then Some ChangeRemark
    else None

-- A value that stands before a code, and the lines that a device drives by it.
abbrev pub after_value : List ℕ → Option Awaits
after_value digits = given (are_states digits) (Code (lines_of digits))
