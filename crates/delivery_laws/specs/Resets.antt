-- The reset lines of a scenario and the rows that raise RST (6.2.2).
use Rattle.std.specs.Prelude.{ℕ, ◌≡◌, ◌+◌, ◌==◌, Bool, true, false, not, ◌&&◌, ◌||◌, List, [], ◌∷◌, Option, Some, None}
use Rattle.std.specs.Prelude.{nat_le, nat_lt}
use Rattle.std.specs.List.{list_all, list_any}
use Rattle.due_model.specs.bus_trace.specs.declared.Row.{Row}
use Rattle.due_model.specs.bus_trace.specs.declared.delays.TheConstants.{RESET_HOLD_TIME}
use Rattle.due_model.specs.bus_trace.specs.Changes.{rises, falls}
use Rattle.due_model.specs.bus_trace.specs.Trace.{drives}
use Rattle.due_model.specs.scenario.specs.declared.value.ResetDef.{ResetDef}
use Rattle.due_model.specs.scenario.specs.Value.{ScenarioValue}
use Rattle.due_model.specs.story_model.specs.Samples.{latency_of}
use Rattle.due_model.specs.Own.{own_of}

-- ---- of a row after these rows: its device begins to drive RST with it, or releases it

abbrev pub begins_reset : List Row → Row → Bool
begins_reset rows row = rises (drives rows row.dev).rst (drives (row ∷ rows) row.dev).rst

abbrev pub ends_reset : List Row → Row → Bool
ends_reset rows row = falls (drives rows row.dev).rst (drives (row ∷ rows) row.dev).rst

-- When its device began to drive the RST that it drives, or drove last.
abbrev pub began_reset : List Row → ℕ → ℕ
began_reset rows dev = (own_of rows dev).rst

-- ---- a reset line

-- The row is that of the line: of its device, at its time, and with it the device begins to drive RST.
abbrev pub is_reset_row : List Row → Row → ℕ → ℕ → Bool
is_reset_row rows row dev time = row.dev == dev && (row.time == time && begins_reset rows row)

-- The line falls while its device drives RST, or as it releases it: with this row it releases RST, at this time or
-- later, and it began before it.
abbrev pub is_reset_over : List Row → Row → ℕ → ℕ → Bool
is_reset_over rows row dev time =
    row.dev == dev && (ends_reset rows row && (nat_le time row.time && nat_lt (began_reset rows dev) time))

abbrev pub has_reset : List Row → ℕ → ℕ → Bool
has_reset [] dev time = false
has_reset (row ∷ rows) dev time =
    (is_reset_row rows row dev time || is_reset_over rows row dev time) || has_reset rows dev time

-- ---- all rows

abbrev pub is_line_of : ℕ → ℕ → ResetDef → Bool
is_line_of dev time r = r.dev == dev && r.at == time

-- A row with which its device begins to drive RST is that of a reset line.
abbrev pub are_lines : ScenarioValue → List Row → Bool
are_lines s [] = true
are_lines s (row ∷ rows) =
    (not (begins_reset rows row) || list_any (λ (r : ResetDef). is_line_of row.dev row.time r) s.resets)
    && are_lines s rows

abbrev pub is_release : List Row → Row → Option ℕ → Bool
is_release rows row None = false
is_release rows row (Some latency) =
    ends_reset rows row && row.time == began_reset rows row.dev + RESET_HOLD_TIME + latency

-- While a device drives RST its next row releases it, a reset hold time and its latency after it began.
abbrev pub are_releases : ScenarioValue → List Row → Bool
are_releases s [] = true
are_releases s (row ∷ rows) =
    (not (drives rows row.dev).rst || is_release rows row (latency_of s row.dev)) && are_releases s rows

-- Of a trace that has ended: the reset line has its row, or falls while its device drives RST, or as it releases it.
abbrev pub has_line : List Row → ResetDef → Bool
has_line rows r = has_reset rows r.dev r.at

-- Of a trace that has ended: RST begins by the reset lines alone, each device that drives it releases it in time, and
-- each reset line had its row or fell into the RST of its own device.
pub record AreResets (s : ScenarioValue) (rows : List Row) : Type 0 where
  pub begins : are_lines s rows ≡ true
  pub ends : are_releases s rows ≡ true
  pub lines : list_all (λ (r : ResetDef). has_line rows r) s.resets ≡ true
