-- What has been read of a dump after each token.
use Rattle.std.specs.Prelude.{◌≡◌, ℕ, ◌^◌, Bool, true, false, ◌&&◌, not, List, [], ◌∷◌, ◌++◌, Option, Some, None}
use Rattle.std.specs.Prelude.{nat_lt, nat_le, ◌==◌, codes, if◌then◌else◌}
use Rattle.bus_trace.specs.LineSet.{LineSet, same_set}
use Rattle.bus_trace.specs.Trace.{drives}
use Rattle.bus_trace.specs.declared.rows.Row.{Row}
use Rattle.bus_trace.specs.declared.rows.Kind.TheVariants.{Drives}
use Rattle.vcd_text.specs.declared.awaits.Awaits.{Awaits}
use Rattle.vcd_text.specs.declared.awaits.Awaits.TheVariants.{Declaration, Timescale, VarCode, VarName, VarRange}
use Rattle.vcd_text.specs.declared.awaits.Awaits.TheVariants.{Change, Code}
use Rattle.vcd_text.specs.declared.dump.Dump.{Dump}
use Rattle.vcd_text.specs.Tokens.{is_word, is_letter, is_state, decimal_of, device_named, given, after_keyword}
use Rattle.vcd_text.specs.Tokens.{after_part, after_change_keyword, after_value}
use Rattle.vcd_text.specs.Codes.{with_code, has_code, device_of, has_device}

-- The token is one that the form allows, and this is awaited after it.
abbrev pub going : Dump → Option Awaits → Option Dump
going d None = None
going d (Some next) = Some (record d { awaits = next })

-- ---- declarations

abbrev pub scaled : Dump → Option Dump
scaled d = if d.has_timescale then None else Some (record d { awaits = Timescale; has_timescale = true })

abbrev pub keyword : Dump → List ℕ → Option Dump
keyword d token =
    if is_word (codes "$timescale") token then scaled d else going d (after_keyword d.has_timescale token)

-- the code of a variable
abbrev pub coded : Bool → Dump → List ℕ → Dump
coded is_wide d token = record d { awaits = VarName is_wide; code = token; codes = with_code d.codes token }

-- The device is new, has eighteen lines, and has its code for itself.
abbrev pub is_new_device : Bool → Dump → ℕ → Option ℕ → Bool
is_new_device is_wide d device None = is_wide && not (has_device d.devices device)
is_new_device is_wide d device (Some other) = false

-- the name of a variable
abbrev pub named : Bool → Dump → Option ℕ → Option Dump
named is_wide d None = Some (record d { awaits = VarRange })
named is_wide d (Some device) =
    if is_new_device is_wide d device (device_of d.devices d.code)
    then Some (record d { awaits = VarRange; devices = d.devices ++ (device, d.code) ∷ [] })
    else None

-- ---- changes

-- Times do not fall, and end at 63 bits.
abbrev pub timed : Dump → Option ℕ → Option Dump
timed d None = None
timed d (Some time) = if nat_lt time (2 ^ 63) && nat_le d.time time then Some (record d { time = time }) else None

-- A code of a variable that is no device.
abbrev pub is_other : Dump → Option ℕ → List ℕ → Bool
is_other d None code = has_code d.codes code
is_other d (Some device) code = false

-- `b` and a value of four states, `r` and a number, or a state and a code.
abbrev pub after_change : Dump → ℕ → List ℕ → Option Awaits
after_change d first rest =
    if is_letter 98 66 first then after_value rest
    else if is_letter 114 82 first then Some (Code None)
    else if is_state first then given (is_other d (device_of d.devices rest) rest) Change
    else None

-- `#` and a time, a keyword, or a value.
abbrev pub changed : Dump → List ℕ → Option Dump
changed d [] = None
changed d (first ∷ rest) =
    if first == 35 then timed d (decimal_of rest)
    else if first == 36 then going d (after_change_keyword (first ∷ rest))
    else going d (after_change d first rest)

-- A device that drives these lines at this time, after these rows, the newest first: a row, where it is a change.
abbrev pub with_change : List Row → ℕ → ℕ → LineSet → List Row
with_change rows time device lines =
    if same_set (drives rows device) lines
    then rows
    else record { time = time; dev = device; kind = Drives lines } ∷ rows

abbrev pub driven : Dump → ℕ → LineSet → Dump
driven d device lines = record d { awaits = Change; rows = with_change d.rows d.time device lines }

-- the code after a value: that of a device takes lines alone
abbrev pub valued : Dump → Option ℕ → Option LineSet → List ℕ → Option Dump
valued d (Some device) (Some lines) code = Some (driven d device lines)
valued d (Some device) None code = None
valued d None value code = going d (given (has_code d.codes code) Change)

-- ---- a token

abbrev pub step_by : Awaits → Dump → List ℕ → Option Dump
step_by Declaration d token = keyword d token
step_by (VarCode is_wide) d token = Some (coded is_wide d token)
step_by (VarName is_wide) d token = named is_wide d (device_named token)
step_by Change d token = changed d token
step_by (Code value) d token = valued d (device_of d.devices token) value token
step_by awaits d token = going d (after_part awaits token)

-- What has been read after this token, or None where it breaks the form.
abbrev pub step : Dump → List ℕ → Option Dump
step d token = step_by d.awaits d token

-- What a step made of it: nothing changes where the token breaks the form.
abbrev pub Steps : Bool → Dump → Dump → Option Dump → Type 0
Steps true old new stepped = stepped ≡ Some new
Steps false old new stepped = (stepped ≡ None) × (new ≡ old)
