-- What an initiator keeps of its own commands, and what is done to it.
use Rattle.std.specs.Prelude.{ℕ, min, ◌+◌, Bool, true, false, not, ◌&&◌, ◌||◌, ◌==◌, List, [], ◌∷◌, length, map, Option}
use Rattle.std.specs.Prelude.{Some, None, nat_le, nat_lt, if◌then◌else◌}
use Rattle.std.specs.List.{list_any}
use Rattle.bus_base.specs.declared.AbortKind.{AbortKind}
use Rattle.bus_base.specs.declared.AbortKind.TheVariants as aborts
use Rattle.bus_base.specs.declared.ProcId.{ProcId}
use Rattle.bus_base.specs.declared.Event.{Event}
use Rattle.bus_base.specs.declared.Event.TheVariants as events
use Rattle.cdb_codec.specs.declared.status.TheConstants.{CHECK_CONDITION}
use Rattle.scenario.specs.declared.value.CmdDef.{CmdDef}
use Rattle.scenario.specs.declared.value.AbortDef.{AbortDef}
use Rattle.array_model.specs.Steps.{has_tag}
use Rattle.array_model.specs.Order.{tag_number}
use Rattle.story_model.specs.Items.{abort, is_tag_clash, Sent, is_done, count_item}
use Rattle.due_model.specs.reaction_model.specs.Reactions.{sooner_time, time_if}
use Rattle.due_model.specs.dialogue_model.specs.Wants.{OwnCommand}
use Rattle.due_model.specs.Wants.{own_commands}
use Rattle.initiator_books.specs.declared.mine.Mine.{Mine}
use Rattle.initiator_books.specs.declared.mine.MyAbort.{MyAbort}

-- Unanswered callings are counted as far as 255; no limit is as large.
abbrev pub capped : ℕ → ℕ
capped n = min n 255

-- `checks` are the commands that ended with CHECK CONDITION.
abbrev pub mine_of : List ℕ → OwnCommand → Mine
mine_of checks o = record {
  number = o.number;
  host = o.def.host;
  target = o.def.target;
  unit = o.def.unit;
  tag = o.def.tag;
  at = o.def.at;
  sent = o.sent;
  over = o.over;
  checked = list_any (λ k. k == o.number) checks;
  sense_sent = o.sense_sent;
  sense_over = o.sense_over;
  tries = capped o.tries;
}

abbrev pub my_abort : Sent → ℕ → AbortDef → MyAbort
my_abort b n a = record {
  number = n;
  target = a.target;
  unit = a.unit;
  what = a.what;
  at = a.at;
  done = is_done b (abort n);
  tries = capped (count_item b.tries (abort n));
}

-- Those of a device among these abort lines, of which the first has this number.
abbrev pub my_aborts : Sent → ℕ → ℕ → List AbortDef → List MyAbort
my_aborts b dev n [] = []
my_aborts b dev n (a ∷ aborts) =
    if a.host == dev then my_abort b n a ∷ my_aborts b dev (n + 1) aborts else my_aborts b dev (n + 1) aborts

-- Before any row.
abbrev pub nothing_sent : Sent
nothing_sent = record { sent = []; over = []; checks = []; tries = [] }

-- Those of a device, by what the initiators have sent.
abbrev pub mines_of : Sent → ℕ → List CmdDef → List Mine
mines_of b dev commands = map (mine_of b.checks) (own_commands b dev 1 commands)

-- ---- which of them are open, and which may be sent beside these (6.6.17, 7.8)

abbrev pub is_open_mine : Mine → Bool
is_open_mine m = m.sent && not m.over

abbrev pub open_mines : List Mine → List Mine
open_mines [] = []
open_mines (m ∷ mines) = if is_open_mine m then m ∷ open_mines mines else open_mines mines

abbrev pub is_clash_of : Mine → Mine → Bool
is_clash_of m d = (m.target == d.target && m.unit == d.unit) && is_tag_clash (tag_number m.tag) (tag_number d.tag)

abbrev pub may_follow_mines : ℕ → ℕ → List Mine → Mine → Bool
may_follow_mines most time now m =
    nat_le m.at time && nat_lt (length now) most && not (list_any (λ (d : Mine). is_clash_of m d) now)

-- ---- since when it wants to send one, and which one at a time: the first that is still to be sent

abbrev pub is_done_mine : Mine → Bool
is_done_mine m = m.sent || m.over

abbrev pub mines_since : ℕ → List Mine → List Mine → Option ℕ
mines_since most now [] = None
mines_since most now (m ∷ mines) =
    if is_done_mine m then mines_since most now mines else time_if (may_follow_mines most m.at now m) m.at

abbrev pub mine_by : ℕ → ℕ → List Mine → List Mine → Option ℕ
mine_by most time now [] = None
mine_by most time now (m ∷ mines) =
    if is_done_mine m then mine_by most time now mines
    else if may_follow_mines most time now m then Some m.number else None

-- ---- aborts

abbrev pub my_aborts_since : List MyAbort → Option ℕ
my_aborts_since [] = None
my_aborts_since (a ∷ aborts) = sooner_time (time_if (not a.done) a.at) (my_aborts_since aborts)

abbrev pub my_abort_by : ℕ → List MyAbort → Option ℕ
my_abort_by time [] = None
my_abort_by time (a ∷ aborts) = if nat_le a.at time && not a.done then Some a.number else my_abort_by time aborts

-- ---- what is done to one of them

abbrev pub with_sent : Bool → Mine → Mine
with_sent true m = record m { sense_sent = true }
with_sent false m = record m { sent = true }

abbrev pub with_over : Bool → Mine → Mine
with_over true m = record m { sense_over = true }
with_over false m = record m { over = true }

abbrev pub with_checked : Mine → Mine
with_checked m = record m { checked = true }

abbrev pub with_one_try : Mine → Mine
with_one_try m = record m { tries = capped (m.tries + 1) }

-- A process of the one of this number is sent, is over, or was called for in vain.
abbrev pub sent_at : ProcId → Mine → Mine
sent_at id m = if id.command == m.number then with_sent id.sense m else m

abbrev pub over_at : ProcId → Mine → Mine
over_at id m = if id.command == m.number then with_over id.sense m else m

abbrev pub tried_at : ℕ → Mine → Mine
tried_at n m = if n == m.number then with_one_try m else m

-- Each open one that the first test names is over; of another that the second names and that ended with CHECK CONDITION
-- its automatic REQUEST SENSE.
abbrev pub mine_with_end : Bool → Bool → Mine → Mine
mine_with_end drops stops m =
    if m.sent && not m.over && drops then record m { over = true }
    else if stops && m.checked then record m { sense_over = true }
    else m

-- The commands that an abort concerns, and those whose automatic REQUEST SENSE it stops (6.6.1 to 6.6.4).
abbrev pub is_at_unit_of : Mine → ℕ → ℕ → Bool
is_at_unit_of m target unit = m.target == target && m.unit == unit

abbrev pub is_mine_aborted : ℕ → ℕ → ℕ → AbortKind → Mine → Bool
is_mine_aborted host target unit aborts.All m = m.host == host && is_at_unit_of m target unit
is_mine_aborted host target unit (aborts.Tag n) m = m.host == host && is_at_unit_of m target unit && has_tag m.tag n
is_mine_aborted host target unit aborts.WholeQueue m = is_at_unit_of m target unit
is_mine_aborted host target unit aborts.Device m = m.target == target

abbrev pub is_my_sense_stopped : ℕ → ℕ → ℕ → AbortKind → Mine → Bool
is_my_sense_stopped host target unit aborts.All m = m.host == host && is_at_unit_of m target unit
is_my_sense_stopped host target unit (aborts.Tag n) m = false
is_my_sense_stopped host target unit aborts.WholeQueue m = false
is_my_sense_stopped host target unit aborts.Device m = m.target == target

-- What an event does to one.
abbrev pub with_status : Bool → Mine → Mine
with_status true m = with_checked m
with_status false m = m

abbrev pub is_check : ProcId → ℕ → Bool
is_check id status = not id.sense && status == CHECK_CONDITION

abbrev pub mine_after_end : ProcId → ℕ → Mine → Mine
mine_after_end id status m = with_status (is_check id status) (with_over id.sense m)

abbrev pub mine_after_event : Event → Mine → Mine
mine_after_event (events.End id status) m = if id.command == m.number then mine_after_end id status m else m
mine_after_event (events.Lost id) m = if id.command == m.number then with_over id.sense m else m
mine_after_event (events.Aborted host target unit what) m =
    mine_with_end (is_mine_aborted host target unit what m) (is_my_sense_stopped host target unit what m) m
mine_after_event (events.Reset dev) m = mine_with_end true true m
mine_after_event _ m = m
