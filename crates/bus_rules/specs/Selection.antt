-- Rules 7 to 13: selection and reselection (6.1.3, 6.1.4).
use Rattle.std.specs.Prelude.{ℕ, ◌+◌, Bool, true, false, not, ◌&&◌, ◌||◌, ◌==◌, Option, Some, None, nat_le, is_none}
use Rattle.std.specs.Prelude.{is_some, if◌then◌else◌}
use Rattle.std.specs.Int.{bit_at}
use Rattle.bus_trace.specs.declared.delays.TheConstants.{BUS_CLEAR_DELAY, QUIET_TIME, TWO_DESKEW, BUS_SETTLE_DELAY}
use Rattle.bus_trace.specs.declared.delays.TheConstants.{SELECTION_TIMEOUT_DELAY, SELECTION_ABORT_TIME}
use Rattle.bus_trace.specs.LineSet.{LineSet, none, same, same_set, has_id}
use Rattle.bus_trace.specs.declared.Row.{Row}
use Rattle.bus_trace.specs.declared.selection.Call.{Call}
use Rattle.bus_trace.specs.declared.selection.Calling.{Calling}
use Rattle.bus_trace.specs.declared.connection.Connection.{Connection}
use Rattle.bus_rules.specs.declared.seen.Seen.{Seen}
use Rattle.bus_trace.specs.Changes.{rises, falls, implies, is_within, raises_none, raises_only, releases_bsy}
use Rattle.bus_trace.specs.Changes.{releases_data}
use Rattle.bus_trace.specs.Terms.{drives_two_ids}

-- That a line is one of a time: at least this long after a moment that has come.
abbrev pub is_past : Option ℕ → ℕ → ℕ → Bool
is_past None delay time = false
is_past (Some t) delay time = nat_le (t + delay) time

-- ---- until the answer

-- No answer has come.
abbrev pub has_no_answer : Option Calling → Bool
has_no_answer None = true
has_no_answer (Some k) = is_none k.answered

-- The row is an answer: the called device raises BSY while SEL is true.
abbrev pub answers_to : Seen → Row → Option Calling → Bool
answers_to s row None = false
answers_to s row (Some k) = row.dev == k.called && rises s.change.own.bsy s.change.next.bsy

-- Rule 7. While SEL is true and no answer has come: before a row later than a bus clear delay after SEL rose
-- no device but the caller drives a line, and the others only release, but for the answer (6.1.2).
abbrev pub is_left : Seen → ℕ → Option Call → Bool
is_left s time None = true
is_left s time (Some k) = implies (has_no_answer k.calling) (nat_le time (k.at + BUS_CLEAR_DELAY) || not s.others_drive)

abbrev pub others_release : Seen → Row → Option Call → Bool
others_release s row None = true
others_release s row (Some k) =
    implies (has_no_answer k.calling && not (row.dev == k.caller)) (answers_to s row k.calling || raises_none s.change)

abbrev pub keeps_losers_off : Seen → Row → Bool
keeps_losers_off s row = others_release s row s.call && is_left s row.time s.call

-- Rule 8. The caller's first row after SEL rose is at least a bus clear delay and a bus settle delay later
-- (6.1.2).
abbrev pub keeps_winner_of : Row → Option Call → Bool
keeps_winner_of row None = true
keeps_winner_of row (Some k) = implies (is_none k.calling && row.dev == k.caller) (nat_le (k.at + QUIET_TIME) row.time)

abbrev pub keeps_winner : Seen → Row → Bool
keeps_winner s row = keeps_winner_of row s.call

-- A calling drives exactly BSY, SEL, two IDs of which one is the caller's, DB(P) by their parity, which is
-- even, and either ATN, to select, or I/O, to reselect.
abbrev pub calls_exactly : ℕ → LineSet → Bool
calls_exactly caller s = (drives_two_ids caller s && bit_at s.data_bits 8 == 1)
    && (s.bsy && s.sel && not (same s.atn s.io)) && not (s.cd || s.msg || s.req || s.ack || s.rst)

-- Rule 9. That row is a calling. The caller's next row releases exactly BSY, at least two deskew delays later
-- (6.1.3, 6.1.4).
abbrev pub calls_well : Seen → Row → ℕ → Option Calling → Bool
calls_well s row caller None = calls_exactly caller s.change.next
calls_well s row caller (Some k) =
    implies (is_none k.released) (releases_bsy s.change && nat_le (k.at + TWO_DESKEW) row.time)

abbrev pub keeps_calling_of : Seen → Row → Option Call → Bool
keeps_calling_of s row None = true
keeps_calling_of s row (Some k) = implies (row.dev == k.caller) (calls_well s row k.caller k.calling)

abbrev pub keeps_calling : Seen → Row → Bool
keeps_calling s row = keeps_calling_of s row s.call

-- ---- the answer

-- The called device drove nothing and no fault struck it in this calling; SEL and its ID are true, and BSY
-- has been false, for a bus settle delay since the caller released BSY; it drives exactly BSY, or in a
-- reselection BSY and ATN.
abbrev pub drives_answer : Calling → LineSet → Bool
drives_answer k s =
    same_set s (record none { bsy = true }) || (k.reselects && same_set s (record none { bsy = true; atn = true }))

abbrev pub has_settled : Seen → ℕ → Calling → Bool
has_settled s time k =
    (s.change.before.sel && nat_le (s.times.sel + BUS_SETTLE_DELAY) time)
    && (has_id s.change.before k.called && nat_le (s.id_since + BUS_SETTLE_DELAY) time)
    && (not s.change.before.bsy && nat_le (s.times.bsy + BUS_SETTLE_DELAY) time)
    && is_past k.released BUS_SETTLE_DELAY time

abbrev pub answers_well : Seen → Row → Calling → Bool
answers_well s row k =
    same_set s.change.own none && not k.struck && has_settled s row.time k && drives_answer k s.change.next

-- In a reselection, after the answer, the caller may raise BSY, and the called device ATN.
abbrev pub may_raise : Seen → Row → ℕ → Calling → Bool
may_raise s row caller k = (k.reselects && is_some k.answered)
    && ((row.dev == caller && raises_only (record none { bsy = true }) s.change)
    || (row.dev == k.called && raises_only (record none { atn = true }) s.change))

-- Rule 10. An answer is as said. Between the calling and the row in which SEL falls no other row raises a
-- line, but as said (6.1.3, 6.1.4).
abbrev pub keeps_answer_to : Seen → Row → ℕ → Option Calling → Bool
keeps_answer_to s row caller None = true
keeps_answer_to s row caller (Some k) =
    if answers_to s row (Some k) then answers_well s row k
    else implies s.change.after.sel (raises_none s.change || may_raise s row caller k)

abbrev pub keeps_answer_of : Seen → Row → Option Call → Bool
keeps_answer_of s row None = true
keeps_answer_of s row (Some k) = keeps_answer_to s row k.caller k.calling

abbrev pub keeps_answer : Seen → Row → Bool
keeps_answer s row = keeps_answer_of s row s.call

-- ---- after the answer, or without one

-- The row is the caller's, and it releases SEL.
abbrev pub releases_sel : Seen → Bool
releases_sel s = falls s.change.own.sel s.change.next.sel

-- It may drive data lines, and no other line but ATN.
abbrev pub has_only_data_and_atn : LineSet → Bool
has_only_data_and_atn s = not (s.bsy || s.sel || s.cd || s.io || s.msg || s.req || s.ack || s.rst)

-- Rule 11. After an answer the caller releases SEL at least two deskew delays later: after the answer in a
-- selection, after its own BSY in a reselection. In that row of a selection it may change the data lines, and
-- it then drives no other line but ATN (6.1.3, 6.1.4).
abbrev pub ends_call_well : Seen → Row → Calling → Bool
ends_call_well s row k =
    if k.reselects then is_past k.resumed TWO_DESKEW row.time
    else is_past k.answered TWO_DESKEW row.time && has_only_data_and_atn s.change.next

abbrev pub keeps_end_to : Seen → Row → ℕ → Option Calling → Bool
keeps_end_to s row caller None = true
keeps_end_to s row caller (Some k) =
    implies (row.dev == caller && releases_sel s && is_some k.answered) (ends_call_well s row k)

abbrev pub keeps_end_of : Seen → Row → Option Call → Bool
keeps_end_of s row None = true
keeps_end_of s row (Some k) = keeps_end_to s row k.caller k.calling

abbrev pub keeps_end : Seen → Row → Bool
keeps_end s row = keeps_end_of s row s.call

-- Rule 12. Without an answer the caller releases the IDs and DB(P), and nothing else, at least a selection
-- time-out delay after it released BSY, and then all at least a selection abort time and two deskew delays
-- later (6.1.3.1).
abbrev pub gives_up_well : Seen → Row → Calling → Option ℕ → Bool
gives_up_well s row k None = releases_data s.change && is_past k.released SELECTION_TIMEOUT_DELAY row.time
gives_up_well s row k (Some withdrawn) =
    same_set s.change.next none && nat_le (withdrawn + (SELECTION_ABORT_TIME + TWO_DESKEW)) row.time

abbrev pub keeps_time_out_to : Seen → Row → ℕ → Option Calling → Bool
keeps_time_out_to s row caller None = true
keeps_time_out_to s row caller (Some k) =
    implies (row.dev == caller && is_some k.released && is_none k.answered) (gives_up_well s row k k.withdrawn)

abbrev pub keeps_time_out_of : Seen → Row → Option Call → Bool
keeps_time_out_of s row None = true
keeps_time_out_of s row (Some k) = keeps_time_out_to s row k.caller k.calling

abbrev pub keeps_time_out : Seen → Row → Bool
keeps_time_out s row = keeps_time_out_of s row s.call

-- In a reselection the caller, which becomes the target, keeps BSY and I/O in the row in which it releases
-- SEL, and the called device keeps BSY until then.
abbrev pub hands_over_to : Seen → Row → ℕ → Option Calling → Bool
hands_over_to s row caller None = true
hands_over_to s row caller (Some k) =
    implies (k.reselects && is_some k.answered) (implies (row.dev == caller && releases_sel s)
    ((s.change.own.bsy && s.change.own.io) && (s.change.next.bsy && s.change.next.io))
    && implies (row.dev == k.called) (not (falls s.change.own.bsy s.change.next.bsy)))

abbrev pub hands_over : Seen → Row → Option Call → Bool
hands_over s row None = true
hands_over s row (Some k) = hands_over_to s row k.caller k.calling

-- In a connection that a reselection began the initiator that releases BSY keeps no line but ATN.
abbrev pub takes_over : Seen → Row → Option Connection → Bool
takes_over s row None = true
takes_over s row (Some n) = implies (n.reselected && row.dev == n.initiator && falls s.change.own.bsy s.change.next.bsy)
    (is_within s.change.next (record none { atn = true }))

-- Rule 13. These two; and REQ does not rise while the initiator drives BSY (6.1.4).
abbrev pub keeps_reselection : Seen → Row → Bool
keeps_reselection s row = hands_over s row s.call && takes_over s row s.connection
    && implies (rises s.change.before.req s.change.after.req) (not s.initiator_bsy)
