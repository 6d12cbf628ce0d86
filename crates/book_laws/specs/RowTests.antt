-- The rows of a trace as tests on what is kept: each is of one of the kinds of `Traces.antt`, with all that this asks.
use Rattle.std.specs.Prelude.{ℕ, ◌+◌, ◌%◌, Bool, true, false, not, ◌&&◌, ◌||◌, ◌==◌, List, [], ◌∷◌, length}
use Rattle.std.specs.Prelude.{slice_index_or, Option, Some, None, is_some, is_none, nat_lt, if◌then◌else◌}
use Rattle.due_model.specs.bus_trace.specs.declared.Row.{Row}
use Rattle.due_model.specs.bus_trace.specs.declared.changes.Change.{Change}
use Rattle.due_model.specs.bus_trace.specs.declared.connection.Connection.{Connection}
use Rattle.due_model.specs.bus_trace.specs.Changes.{rises}
use Rattle.due_model.specs.bus_trace.specs.Terms.{is_fault, receiver_in}
use Rattle.due_model.specs.bus_trace.specs.Phases.{changes_phase, is_command, is_data, is_message_out, is_message_in}
use Rattle.due_model.specs.cdb_codec.specs.Cdb.{has_group_len}
use Rattle.due_model.specs.msg_grammar.specs.declared.message.MsgIn.{MsgIn}
use Rattle.due_model.specs.scenario.specs.Value.{ScenarioValue}
use Rattle.due_model.specs.array_model.specs.Processes.{Process, process_of, same_bool, same_id}
use Rattle.due_model.specs.story_model.specs.BusState.{RowReading, row_reading}
use Rattle.due_model.specs.story_model.specs.Items.{Item, process, abort}
use Rattle.due_model.specs.story_model.specs.Links.{Link, link_after_name}
use Rattle.due_model.specs.story_model.specs.TraceHistory.{aim_of}
use Rattle.due_model.specs.dialogue_model.specs.declared.exchange.Phase.{Phase}
use Rattle.due_model.specs.dialogue_model.specs.declared.exchange.Phase.TheVariants as phases
use Rattle.due_model.specs.dialogue_model.specs.declared.exchange.Task.{Task}
use Rattle.due_model.specs.dialogue_model.specs.Arrivals.{policy_of}
use Rattle.due_model.specs.dialogue_model.specs.DataRuns.{run_at}
use Rattle.due_model.specs.dialogue_model.specs.Exchange.{next_word, attends_with, bytes_of_messages}
use Rattle.due_model.specs.dialogue_model.specs.NextPhase.{phase_of}
use Rattle.due_model.specs.dialogue_model.specs.Wants.{Ready}
use Rattle.due_model.specs.dialogue_model.specs.Words.{is_name}
use Rattle.due_model.specs.Defs.{target_def_of}
use Rattle.due_model.specs.RunState.{RunState, bus_of, item_of, process_item, process_here, process_served}
use Rattle.due_model.specs.RunState.{carried_here}
use Rattle.due_model.specs.RunSteps.{run_state_after}
use Rattle.due_model.specs.Tasks.{is_writing, task_of}
use Rattle.due_model.specs.Wants.{ready_of}
use Rattle.book_laws.specs.Hearing.{is_in_phase, is_out_phase}
use Rattle.book_laws.specs.Tests.{are_books}

-- ---- a connection begins

abbrev pub is_of_target : Option Process → ℕ → Bool
is_of_target None target = true
is_of_target (Some p) target = p.target == target

abbrev pub is_aimed_at : ScenarioValue → Connection → Option Item → Bool
is_aimed_at s n None = false
is_aimed_at s n (Some item) = is_of_target (process_item s (Some item)) n.target

abbrev pub is_between : Option Process → Connection → Bool
is_between None n = false
is_between (Some p) n = p.initiator == n.initiator && p.target == n.target

abbrev pub is_ready_for : ScenarioValue → Connection → Option Ready → Bool
is_ready_for s n None = false
is_ready_for s n (Some r) = nat_lt r.process.unit 8 && is_between (process_of s r.process.id) n

abbrev pub is_made_for : ScenarioValue → RunState → Connection → Bool → Bool
is_made_for s k n true = is_ready_for s n (ready_of s k n.target)
is_made_for s k n false = is_aimed_at s n (aim_of k.story.aims n.initiator)

abbrev pub is_first_row : ScenarioValue → RunState → Row → RowReading → Connection → Bool
is_first_row s k row d n = not (is_fault row.kind) && not (is_message_out d.change.after)
    && k.handshakes.requests == 0 && not (rises d.change.before.req d.change.after.req)
    && (is_made_for s k n n.reselected && (not n.reselected || is_message_in d.change.after))

-- ---- a phase is left

abbrev pub is_block_whole : RunState → Option Process → Bool
is_block_whole k None = true
is_block_whole k (Some p) = has_group_len p.cdb && (k.exchange.plan.struck || has_group_len (carried_here k p.id).block)

abbrev pub is_phase_whole : ScenarioValue → RunState → Phase → Bool
is_phase_whole s k phases.MessageOut = k.story.bus_state.dialogue.is_last
is_phase_whole s k phases.Command = is_block_whole k (process_served s k)
is_phase_whole s k phases.MessageIn = not (k.handshakes.requests == 0)
    && ((bus_of k).atn || k.handshakes.requests == length (bytes_of_messages k.exchange.plan.messages))
is_phase_whole s k _ = true

abbrev pub leaves_whole : ScenarioValue → RunState → Connection → Bool
leaves_whole s k n = is_phase_whole s k (phase_of (bus_of k))
    && (not n.reselected || is_out_phase (phase_of (bus_of k)) || (is_in_phase (phase_of (bus_of k)) && (bus_of k).atn)
    || is_some (item_of k.story.link))

abbrev pub has_phase : RunState → Bool
has_phase k = not (bus_of k).msg || ((bus_of k).cd && k.exchange.begun)

-- ---- a byte crosses

abbrev pub says_next : RunState → Change → Bool
says_next k c = not (is_message_out c.before) || (c.after.data_bits % 256 == next_word k.exchange.speech
    && same_bool c.after.atn (attends_with k.exchange.speech))

abbrev pub gives_next : RunState → Change → Bool
gives_next k c =
    not (is_message_in c.before)
    || (c.after.data_bits % 256 == slice_index_or (bytes_of_messages k.exchange.plan.messages) k.handshakes.requests 0
    && nat_lt k.handshakes.requests (length (bytes_of_messages k.exchange.plan.messages)) && k.exchange.begun)

abbrev pub sends_next : RunState → Change → Option Process → Bool
sends_next k c None = true
sends_next k c (Some p) = (not (is_command c.before)
    || (c.after.data_bits % 256 == slice_index_or p.cdb (carried_here k p.id).command.active 0
    && nat_lt (carried_here k p.id).command.active (length p.cdb)))
    && (not (is_data c.before) || not (is_writing p)
    || (c.after.data_bits % 256 == slice_index_or p.sent (carried_here k p.id).moved.active 0
    && nat_lt (carried_here k p.id).moved.active (length p.sent)))

abbrev pub is_at_run : ScenarioValue → RunState → Connection → Option Process → Option Task → Phase → Bool
is_at_run s k n (Some p) (Some t) phases.DataOut = (not n.reselected || is_some (item_of k.story.link)) && is_writing p
    && (carried_here k p.id).moved.active
    == (run_at (policy_of (target_def_of s p.target)) t t.runs).start + k.handshakes.answers
is_at_run s k n p t phase = true

abbrev pub same_item_if : Option Item → Option Item → Bool
same_item_if None None = true
same_item_if (Some (process a)) (Some (process b)) = same_id a b
same_item_if (Some (abort a)) (Some (abort b)) = a == b
same_item_if _ _ = false

abbrev pub names_served : ScenarioValue → RunState → Connection → Option Link → Option MsgIn → Bool
names_served s k n (Some l) (Some m) = not n.reselected || not (is_name m)
    || (same_item_if (link_after_name k.story.sent s.commands l m).item k.served
    || is_none (link_after_name k.story.sent s.commands l m).item)
names_served s k n l m = true

abbrev pub crosses_well : ScenarioValue → RunState → Connection → RowReading → Bool
crosses_well s k n d =
    says_next k d.change && gives_next k d.change && k.exchange.begun && sends_next k d.change (process_here s k)
    && is_at_run s k n (process_served s k) (task_of s k) (phase_of (bus_of k))
    && names_served s k n k.story.link d.into

-- ---- a row of a connection

abbrev pub is_of_kind : Bool → Bool → Bool → Bool
is_of_kind fault phase now = not (fault && phase) && not (fault && now) && not (phase && now)

abbrev pub is_row_in : ScenarioValue → RunState → Row → RowReading → Connection → Bool
is_row_in s k row d n = d.change.after.bsy && not (bus_of k).rst && has_phase k
    && is_of_kind (is_fault row.kind) (changes_phase d.change) (is_some (receiver_in n d.change))
    && (not d.crosses || crosses_well s k n d)
    && (not (changes_phase d.change) || (leaves_whole s k n && (k.exchange.begun || is_message_out d.change.after)))

abbrev pub is_last_row : ScenarioValue → RunState → RowReading → Connection → Bool
is_last_row s k d n =
    not (bus_of k).rst && has_phase k && not d.crosses && (not (changes_phase d.change) || leaves_whole s k n)

abbrev pub is_row_by : ScenarioValue → RunState → Row → RowReading → Option Connection → Option Connection → Bool
is_row_by s k row d None None = true
is_row_by s k row d None (Some n) = is_first_row s k row d n
is_row_by s k row d (Some m) None = is_last_row s k d m
is_row_by s k row d (Some m) (Some n) = is_row_in s k row d m

abbrev pub is_row_reading : ScenarioValue → RunState → Row → RowReading → Bool
is_row_reading s k row d =
    if d.change.after.rst then not d.crosses else is_row_by s k row d k.story.bus_state.connection d.next

abbrev pub is_row_of : ScenarioValue → RunState → Row → Bool
is_row_of s k row = is_row_reading s k row (row_reading k.story.bus_state row)

-- Of the rows of a run, the oldest first, each is such a row; and the books hold after it, and before all of them.
abbrev pub keep_books : ScenarioValue → RunState → List Row → Bool
keep_books s k [] = are_books s k
keep_books s k (row ∷ rows) = are_books s k && is_row_of s k row && keep_books s (run_state_after s k row) rows
