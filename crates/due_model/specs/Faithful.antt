-- What crossed unstruck is what was to be said: the opening, the command block, the data of a run, and who the ends
-- are.
use Rattle.std.specs.Prelude.{ℕ, ◌+◌, ◌%◌, Bool, true, false, ◌&&◌, ◌||◌, ◌==◌, List, [], ◌∷◌, slice_index_or, Option}
use Rattle.std.specs.Prelude.{Some, None, is_none, if◌then◌else◌}
use Rattle.bus_rules.specs.bus_trace.specs.declared.Row.{Row}
use Rattle.bus_rules.specs.bus_trace.specs.Phases.{changes_phase}
use Rattle.dialogue_model.specs.scenario.specs.declared.value.Tag.{Tag}
use Rattle.dialogue_model.specs.scenario.specs.declared.value.Tag.TheVariants as tags
use Rattle.dialogue_model.specs.scenario.specs.Value.{ScenarioValue}
use Rattle.bus_rules.specs.bus_trace.specs.declared.connection.Connection.{Connection}
use Rattle.bus_rules.specs.bus_base.specs.declared.AbortKind.{AbortKind}
use Rattle.dialogue_model.specs.scenario.specs.declared.value.AbortDef.{AbortDef}
use Rattle.dialogue_model.specs.story_model.specs.Items.{Item, process, abort, same_item}
use Rattle.dialogue_model.specs.story_model.specs.HistoryEvents.{abort_line_at}
use Rattle.dialogue_model.specs.story_model.specs.BusState.{RowReading, row_reading}
use Rattle.dialogue_model.specs.story_model.specs.Right.{same_bytes}
use Rattle.dialogue_model.specs.declared.exchange.Cause.{Cause}
use Rattle.dialogue_model.specs.declared.exchange.Cause.TheVariants as causes
use Rattle.dialogue_model.specs.declared.exchange.Phase.{Phase}
use Rattle.dialogue_model.specs.declared.exchange.Phase.TheVariants as phases
use Rattle.dialogue_model.specs.declared.exchange.Plan.{Plan}
use Rattle.dialogue_model.specs.declared.exchange.Said.{Said}
use Rattle.dialogue_model.specs.declared.exchange.Task.{Task}
use Rattle.dialogue_model.specs.array_model.specs.Processes.{Process, process_of}
use Rattle.due_model.specs.RunState.{RunState, bus_of, process_item, item_of, process_served, carried_here}
use Rattle.due_model.specs.RunSteps.{run_state, served_after}
use Rattle.due_model.specs.Telling.{same_kind}
use Rattle.dialogue_model.specs.Arrivals.{policy_of}
use Rattle.due_model.specs.Tasks.{task_of}
use Rattle.dialogue_model.specs.DataRuns.{run_at}
use Rattle.due_model.specs.Defs.{target_def_of}
use Rattle.dialogue_model.specs.NextPhase.{phase_of}

-- ---- what the opening says: the nexus of a process, or an abort of a unit

abbrev pub is_unit : Option ℕ → ℕ → Bool
is_unit None unit = false
is_unit (Some lun) unit = lun == unit

abbrev pub same_tag : Tag → Tag → Bool
same_tag tags.Untagged tags.Untagged = true
same_tag (tags.Simple a) (tags.Simple b) = a == b
same_tag (tags.Ordered a) (tags.Ordered b) = a == b
same_tag (tags.Head a) (tags.Head b) = a == b
same_tag _ _ = false

abbrev pub is_process_named : Said → Option Process → Bool
is_process_named said None = true
is_process_named said (Some p) = is_none said.aborts && is_unit said.unit p.unit && same_tag said.tag p.tag

abbrev pub is_kind : Option AbortKind → AbortKind → Bool
is_kind None what = false
is_kind (Some heard) what = same_kind heard what

abbrev pub is_abort_named : Said → Option AbortDef → Bool
is_abort_named said None = true
is_abort_named said (Some a) = is_unit said.unit a.unit && is_kind said.aborts a.what

abbrev pub is_item_named : ScenarioValue → Said → Option Item → Bool
is_item_named s said None = true
is_item_named s said (Some (process id)) = is_process_named said (process_of s id)
is_item_named s said (Some (abort n)) = is_abort_named said (abort_line_at s.aborts n)

-- The opening names what is served.
abbrev pub is_opening_named : ScenarioValue → Plan → Option Item → Cause → Bool
is_opening_named s plan item causes.Selected = plan.struck || is_item_named s plan.said item
is_opening_named s plan item _ = true

-- An unstruck command block is that of the process.
abbrev pub is_block_of_process : ScenarioValue → RunState → Option Process → Bool
is_block_of_process s k None = true
is_block_of_process s k (Some p) = k.exchange.plan.struck || same_bytes (carried_here k p.id).block p.cdb

abbrev pub is_true_leaving : ScenarioValue → RunState → Option Process → Phase → Bool
is_true_leaving s k p phases.MessageOut = is_opening_named s k.exchange.plan k.served k.exchange.plan.cause
is_true_leaving s k p phases.Command = is_block_of_process s k p
is_true_leaving s k p _ = true

-- Of a data run to the target each byte is that which the process sends there.
abbrev pub is_sent_at : ScenarioValue → RunState → Process → Option Task → ℕ → Bool
is_sent_at s k p None byte = true
is_sent_at s k p (Some t) byte = byte
    == slice_index_or p.sent ((run_at (policy_of (target_def_of s p.target)) t t.runs).start + k.handshakes.answers) 0

abbrev pub is_true_crossing : ScenarioValue → RunState → Option Process → ℕ → Phase → Bool
is_true_crossing s k None byte phase = true
is_true_crossing s k (Some p) byte phases.DataOut = is_sent_at s k p (task_of s k) byte
is_true_crossing s k (Some p) byte _ = true

-- A connection begins between the two ends of the process.
abbrev pub has_ends : Option Process → Connection → Bool
has_ends None n = true
has_ends (Some p) n = p.initiator == n.initiator && p.target == n.target

-- After the names of a reselection the initiator knows the process that the target serves.
abbrev pub same_process : Option Item → Option Item → Bool
same_process None b = true
same_process (Some a) None = false
same_process (Some a) (Some b) = same_item a b

abbrev pub is_known_process : RunState → Phase → Bool
is_known_process k phases.MessageIn = (bus_of k).atn || same_process k.served (item_of k.story.link)
is_known_process k phases.MessageOut = true
is_known_process k _ = same_process k.served (item_of k.story.link)

abbrev pub is_true_beginning : ScenarioValue → RunState → Option Connection → Option Connection → Bool
is_true_beginning s k None (Some n) = has_ends (process_item s (served_after s k None (Some n))) n
is_true_beginning s k _ _ = true

-- A row that ends the connection by RST hears nothing.
abbrev pub is_true_hearing : ScenarioValue → RunState → RowReading → Bool
is_true_hearing s k d =
    if d.crosses then is_true_crossing s k (process_served s k) (d.change.after.data_bits % 256) (phase_of (bus_of k))
    else if changes_phase d.change && k.exchange.begun
    then is_known_process k (phase_of (bus_of k)) && is_true_leaving s k (process_served s k) (phase_of (bus_of k))
    else true

abbrev pub is_faithful : ScenarioValue → RunState → RowReading → Bool
is_faithful s k d =
    is_true_beginning s k k.story.bus_state.connection d.next && (d.change.after.rst || is_true_hearing s k d)

-- Of all rows.
abbrev pub faithful : ScenarioValue → List Row → Bool
faithful s [] = true
faithful s (row ∷ rows) =
    faithful s rows && is_faithful s (run_state s rows) (row_reading (run_state s rows).story.bus_state row)
