-- The rules by their numbers, and what a judge says of a trace.
use Rattle.std.specs.Prelude.{ℕ, ◌+◌, Bool, true, not, ◌&&◌, ◌||◌, ◌==◌, List, [], ◌∷◌, length, Option, Some, None}
use Rattle.std.specs.Prelude.{if◌then◌else◌}
use Rattle.bus_trace.specs.declared.Row.{Row}
use Rattle.bus_rules.specs.declared.seen.Seen.{Seen}
use Rattle.bus_rules.specs.declared.verdict.Verdict.{Verdict}
use Rattle.bus_rules.specs.declared.verdict.Verdict.TheVariants.{Lawful, Broken}
use Rattle.bus_rules.specs.Seen.{seen, end_row}
use Rattle.bus_rules.specs.Order.{is_in_order, is_news}
use Rattle.bus_rules.specs.FreeBus.{keeps_free_bus, is_cleared, keeps_arbitration, keeps_arbitration_delay, wins_well}
use Rattle.bus_rules.specs.Selection.{keeps_losers_off, is_left, keeps_winner, keeps_calling, keeps_answer, keeps_end}
use Rattle.bus_rules.specs.Selection.{keeps_time_out, keeps_reselection}
use Rattle.bus_rules.specs.Connected.{keeps_lines, keeps_data_direction, initiator_released, keeps_direction_delay}
use Rattle.bus_rules.specs.Connected.{target_released, keeps_freeing}
use Rattle.bus_rules.specs.Transfer.{has_parity, keeps_handshake, keeps_set_up, keeps_data, keeps_offset, keeps_pulses}
use Rattle.bus_rules.specs.Transfer.{leaves_well}
use Rattle.bus_rules.specs.Messages.{keeps_attention, keeps_messages, keeps_command}
use Rattle.bus_rules.specs.Reset.{is_reset, keeps_reset, is_quiet_in_reset}

-- ---- a row

-- The test of a rule.
abbrev pub test : ℕ → Seen → Row → Bool
test n s row =
    if n == 1 then is_in_order s row.time
    else if n == 2 then is_news s row
    else if n == 3 then keeps_free_bus s row
    else if n == 4 then keeps_arbitration s row
    else if n == 5 then keeps_arbitration_delay s row
    else if n == 6 then wins_well s row
    else if n == 7 then keeps_losers_off s row
    else if n == 8 then keeps_winner s row
    else if n == 9 then keeps_calling s row
    else if n == 10 then keeps_answer s row
    else if n == 11 then keeps_end s row
    else if n == 12 then keeps_time_out s row
    else if n == 13 then keeps_reselection s row
    else if n == 14 then keeps_lines s row
    else if n == 15 then keeps_data_direction s row
    else if n == 16 then keeps_direction_delay s row
    else if n == 17 then has_parity s
    else if n == 18 then keeps_handshake s
    else if n == 19 then keeps_set_up s row
    else if n == 20 then keeps_data s
    else if n == 21 then keeps_offset s
    else if n == 22 then keeps_pulses s row
    else if n == 23 then leaves_well s
    else if n == 24 then keeps_attention s row
    else if n == 25 then keeps_messages s
    else if n == 26 then keeps_command s
    else if n == 27 then keeps_freeing s row
    else if n == 28 then keeps_reset s row
    else true

-- While RST is true, and for the row that raises it, rules 1, 2 and 28 alone are judged.
abbrev pub stands_in_reset : ℕ → Bool
stands_in_reset n = n == 1 || n == 2 || n == 28

abbrev pub keeps : ℕ → Seen → Row → Bool
keeps n s row = if not (stands_in_reset n) && is_reset s then true else test n s row

-- After these rows this row obeys the rule of this number, 1 to 28.
abbrev pub obeys : List Row → Row → ℕ → Bool
obeys rows row n = keeps n (seen rows row) row

-- ---- the end

-- The end is judged as a row of its time that changes nothing, by rule 1 and by what sets a latest time.
abbrev pub end_test : ℕ → Seen → ℕ → Bool
end_test n s time =
    if n == 1 then is_in_order s time
    else if n == 3 then is_cleared s time
    else if n == 7 then is_left s time s.call
    else if n == 15 then initiator_released s time
    else if n == 16 then target_released s time
    else if n == 28 then is_quiet_in_reset s time
    else true

abbrev pub keeps_at_end : ℕ → Seen → ℕ → Bool
keeps_at_end n s time = if not (stands_in_reset n) && is_reset s then true else end_test n s time

-- After these rows an end at this time obeys the rule of this number.
abbrev pub obeys_at_end : List Row → ℕ → ℕ → Bool
obeys_at_end rows time n = keeps_at_end n (seen rows (end_row time)) time

-- ---- the lowest rule

-- The rules.
abbrev pub judged_rules : List ℕ
judged_rules = 1 ∷ 2 ∷ 3 ∷ 4 ∷ 5 ∷ 6 ∷ 7 ∷ 8 ∷ 9 ∷ 10 ∷ 11 ∷ 12 ∷ 13 ∷ 14 ∷ 15 ∷ 16 ∷ 17 ∷ 18 ∷ 19 ∷ 20 ∷ 21 ∷ 22 ∷ 23
    ∷ 24 ∷ 25 ∷ 26 ∷ 27 ∷ 28 ∷ []

-- The first of these that isn't kept.
abbrev pub first_broken : (ℕ → Bool) → List ℕ → Option ℕ
first_broken kept [] = None
first_broken kept (n ∷ rules) = if kept n then first_broken kept rules else Some n

abbrev pub lowest_broken : Seen → Row → Option ℕ
lowest_broken s row = first_broken (λ n. keeps n s row) judged_rules

abbrev pub lowest_at_end : Seen → ℕ → Option ℕ
lowest_at_end s time = first_broken (λ n. keeps_at_end n s time) judged_rules

-- The lowest rule that a row breaks after these rows, or an end.
abbrev pub broken_rule : List Row → Row → Option ℕ
broken_rule rows row = lowest_broken (seen rows row) row

abbrev pub broken_at_end : List Row → ℕ → Option ℕ
broken_at_end rows time = lowest_at_end (seen rows (end_row time)) time

-- ---- the verdict

abbrev pub verdict_of : ℕ → Option ℕ → Verdict
verdict_of place None = Lawful
verdict_of place (Some rule) = Broken place rule

-- A broken verdict stays.
abbrev pub if_lawful : Verdict → Verdict → Verdict
if_lawful Lawful next = next
if_lawful (Broken place rule) next = Broken place rule

-- The first row that breaks a rule, counted from 1, with the lowest that it breaks.
abbrev pub judged : List Row → Verdict
judged [] = Lawful
judged (row ∷ rows) = if_lawful (judged rows) (verdict_of (length rows + 1) (broken_rule rows row))

-- The same of a trace with its end, which counts as one more row.
abbrev pub judged_whole : List Row → ℕ → Verdict
judged_whole rows end = if_lawful (judged rows) (verdict_of (length rows + 1) (broken_at_end rows end))
