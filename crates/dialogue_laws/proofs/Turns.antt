-- How many rows of a run leave a phase as a test says, computed; the rows are given the oldest first.
use Rattle.dialogue_laws.proofs
use proofs.Names.{ℕ, ◌+◌, Bool, true, false, not, ◌&&◌, ◌||◌, List, [], ◌∷◌, Option, Some, None, length, ◌==◌, is_none}
use proofs.Names.{is_some, nat_lt, changes_phase, Row, Connection, ScenarioValue, Process, RowReading, row_reading}
use proofs.Names.{bytes_of_messages, phase_of, one_if, is_naming, Arrival, Cause, Next, Phase, RunState, bus_of}
use proofs.Names.{process_served, run_state_after, arrival_of, is_refusal_after, is_struck_after, is_spent, all_runs}
use proofs.Names.{has_data_left, policy_at, runs_of}

abbrev pub Test : Type 0
Test = ScenarioValue → RunState → Connection → Process → Bool

-- ---- rows

abbrev leaves : RunState → RowReading → Bool
leaves k d =
    k.exchange.begun && not (bus_of k).rst && not d.change.after.rst && (changes_phase d.change || not (is_some d.next))

abbrev holds_of : Test → ScenarioValue → RunState → Option Connection → Option Process → Bool
holds_of test s k None p = false
holds_of test s k (Some n) None = false
holds_of test s k (Some n) (Some p) = test s k n p

abbrev pub turns_from : Test → ScenarioValue → RunState → List Row → ℕ
turns_from test s k [] = 0
turns_from test s k (row ∷ rows) = one_if (leaves k (row_reading k.story.bus_state row)
    && holds_of test s k k.story.bus_state.connection (process_served s k))
    + turns_from test s (run_state_after s k row) rows

-- Of the phases in which a fault row stands alone.
abbrev pub struck_turns_from : Test → ScenarioValue → RunState → Bool → List Row → ℕ
struck_turns_from test s k struck [] = 0
struck_turns_from test s k struck (row ∷ rows) = one_if (struck && leaves k (row_reading k.story.bus_state row)
    && holds_of test s k k.story.bus_state.connection (process_served s k))
    + struck_turns_from test s (run_state_after s k row)
    (is_struck_after k row (row_reading k.story.bus_state row) struck) rows

-- Of MESSAGE OUT after such a phase to the initiator alone.
abbrev pub refused_turns_from : Test → ScenarioValue → RunState → (struck refusing : Bool) → List Row → ℕ
refused_turns_from test s k struck refusing [] = 0
refused_turns_from test s k struck refusing (row ∷ rows) =
    one_if (refusing && leaves k (row_reading k.story.bus_state row)
    && holds_of test s k k.story.bus_state.connection (process_served s k))
    + refused_turns_from test s (run_state_after s k row)
    (is_struck_after k row (row_reading k.story.bus_state row) struck)
    (is_refusal_after k (row_reading k.story.bus_state row) struck refusing) rows

-- ---- tests

abbrev number : Phase → ℕ
number Phase.DataOut = 0
number Phase.DataIn = 1
number Phase.Command = 2
number Phase.Status = 3
number Phase.MessageOut = 4
number Phase.MessageIn = 5

abbrev is_in : Phase → RunState → Bool
is_in phase k = number (phase_of (bus_of k)) == number phase

abbrev same : Bool → Bool → Bool
same true b = b
same false b = not b

-- A byte to the target was struck, and its limit is spent or not.
abbrev pub struck_in : Phase → Bool → Test
struck_in phase spent s k n p = is_in phase k && k.exchange.plan.struck && same spent (is_spent s k n p)

abbrev is_cause : Cause → Cause → Bool
is_cause Cause.Selected Cause.Selected = true
is_cause Cause.InMessage Cause.InMessage = true
is_cause Cause.InData Cause.InData = true
is_cause Cause.InStatus Cause.InStatus = true
is_cause _ _ = false

-- The initiator complains.
abbrev pub complains_of : Cause → Bool → Test
complains_of cause spent s k n p =
    is_in Phase.MessageOut k && is_cause cause k.exchange.plan.cause && is_none k.exchange.plan.said.offer
    && not (is_naming k.exchange.plan.messages.first) && same spent (is_spent s k n p)

abbrev pub complains_of_names : Test
complains_of_names s k n p = is_in Phase.MessageOut k && is_cause Cause.InMessage k.exchange.plan.cause
    && is_none k.exchange.plan.said.offer && is_naming k.exchange.plan.messages.first

abbrev pub run_done : Bool → Test
run_done more s k n p =
    ((is_in Phase.DataIn k && not (bus_of k).atn) || (is_in Phase.DataOut k && not k.exchange.plan.struck))
    && same more (nat_lt (runs_of k p + 1) (all_runs s k n p))

abbrev is_arrival : Arrival → Arrival → Bool
is_arrival Arrival.Refused Arrival.Refused = true
is_arrival Arrival.Queued Arrival.Queued = true
is_arrival Arrival.Guest Arrival.Guest = true
is_arrival Arrival.AtOnce Arrival.AtOnce = true
is_arrival _ _ = false

abbrev pub arrives_as : Arrival → Bool → Test
arrives_as a more s k n p = is_in Phase.Command k && not k.exchange.plan.struck
    && is_arrival a (arrival_of s k (policy_at s n)) && same more (has_data_left s k n p)

abbrev is_next : Next → Next → Bool
is_next Next.Command Next.Command = true
is_next Next.Status Next.Status = true
is_next Next.GoOn Next.GoOn = true
is_next Next.FreeBus Next.FreeBus = true
is_next _ _ = false

abbrev pub said : Next → Bool → Test
said next more s k n p = is_in Phase.MessageIn k && not (bus_of k).atn && is_next next k.exchange.plan.next
    && same more (has_data_left s k n p)

abbrev pub said_out : Test
said_out s k n p = is_in Phase.MessageOut k

abbrev pub data_given : Test
data_given s k n p = is_in Phase.DataIn k

abbrev pub status_given : Test
status_given s k n p = is_in Phase.Status k

-- Its last byte has crossed, or a byte is left.
abbrev pub messages_given : Bool → Test
messages_given more s k n p = is_in Phase.MessageIn k
    && same more (nat_lt k.handshakes.requests (length (bytes_of_messages k.exchange.plan.messages)))
