-- The text of a refusal: the line, the reason, and what the reason means.
use Rattle.std.specs.Prelude.{ℕ, ◌==◌, List, ◌++◌, codes, decimal, if◌then◌else◌}
use Rattle.scenario.specs.declared.fault.Bad.{Bad}
use Rattle.scenario.specs.declared.fault.Bad.TheVariants as bads

-- What a reason means. Each number but 1 to 8 is told as the last reason, 9.
abbrev pub reason_text : ℕ → List ℕ
reason_text reason =
    if reason == 1 then codes "a byte other than 20 to 7e"
    else if reason == 2 then codes "a line of none of the forms, or a text that is over before its end"
    else if reason == 3 then codes "a line of a kind that is out of order"
    else if reason == 4 then codes "a number outside its limits, or a command block of another group or length"
    else if reason == 5 then codes "a device, unit, tape or block that stood before"
    else if reason == 6 then codes "a device, unit or tape that was not declared"
    else if reason == 7 then codes "bytes that do not fit: out, fill or load"
    else if reason == 8 then codes "a line more than the limit of its kind, or a need above the limit"
    else codes "a text of more than 4,194,304 bytes"

-- `line L, reason R: ` and what the reason means; a text that is too long is line 0
abbrev pub bad_text : Bad → List ℕ
bad_text (bads.At line reason) =
    codes "line " ++ (decimal line ++ (codes ", reason " ++ (decimal reason ++ (codes ": " ++ reason_text reason))))
bad_text bads.NoMemory = codes "no memory"
