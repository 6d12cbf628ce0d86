-- The parts of the connection that stands, by what is void so far and what is still said, and the name that they give
-- (6.5, 6.6.13).
use Rattle.std.specs.Prelude.{Bool, true, false, not, ◌&&◌, ◌||◌, List, [], ◌∷◌, ◌++◌, Option, Some, None}
use Rattle.std.specs.Prelude.{if◌then◌else◌}
use Rattle.due_model.specs.bus_base.specs.declared.ProcId.{ProcId}
use Rattle.due_model.specs.bus_trace.specs.LineSet.{LineSet}
use Rattle.due_model.specs.bus_trace.specs.Phases.{is_command}
use Rattle.due_model.specs.bus_trace.specs.declared.connection.Connection.{Connection}
use Rattle.due_model.specs.msg_grammar.specs.declared.message.MsgOut.{MsgOut}
use Rattle.due_model.specs.scenario.specs.Value.{ScenarioValue}
use Rattle.due_model.specs.array_model.specs.Processes.{Process, process_of}
use Rattle.due_model.specs.array_model.specs.Order.{tag_number}
use Rattle.bus_transcript.specs.declared.item.Name.{Name}
use Rattle.bus_transcript.specs.declared.part.Part.{Part}
use Rattle.bus_transcript.specs.declared.part.Part.TheVariants as parts_of
use Rattle.bus_transcript.specs.declared.summary.Summary.{Summary}
use Rattle.bus_transcript.specs.Nexus.{no_summary, summary_of}
use Rattle.bus_transcript.specs.Opened.{OpenedValue, held_part}
use Rattle.bus_transcript.specs.Processes.{same_nexus}
use Rattle.bus_transcript.specs.Rows.{name_of}
use Rattle.due_model.specs.story_model.specs.TraceHistory.{is_parity_error}

-- ---- messages, and other parts

abbrev pub is_talk : Part → Bool
is_talk (parts_of.Out m) = true
is_talk (parts_of.In m) = true
is_talk parts_of.BrokenOff = true
is_talk _ = false

-- All of them are messages.
abbrev pub are_talk : List Part → Bool
are_talk [] = true
are_talk (part ∷ parts) = is_talk part && are_talk parts

-- ---- the parts so far

-- The first message that is said refuses the one that is held.
abbrev pub is_void : List MsgOut → Bool
is_void [] = false
is_void (m ∷ said) = is_parity_error m

abbrev pub held_parts : OpenedValue → List Part
held_parts k = if is_void k.said then [] else held_part k.held

-- But for the messages that are said in the present phase.
abbrev pub base_parts : OpenedValue → List Part
base_parts k = k.parts ++ (held_parts k ++ k.since)

abbrev pub out_parts : List MsgOut → List Part
out_parts [] = []
out_parts (m ∷ said) = parts_of.Out m ∷ out_parts said

abbrev pub parts_now : OpenedValue → List Part
parts_now k = base_parts k ++ out_parts k.said

-- ---- the name of its process

abbrev pub summary_by : Connection → List Part → Summary
summary_by n parts = summary_of n.reselected no_summary parts

abbrev pub nexus_of : Process → Name
nexus_of p =
    record { initiator = p.initiator; target = p.target; unit = Some p.unit; tag = tag_number p.tag; number = 0 }

abbrev pub is_of : Name → Option Process → Bool
is_of name None = false
is_of name (Some p) = same_nexus name (nexus_of p)

-- These parts name this process of the scenario.
abbrev pub name_process : ScenarioValue → Connection → List Part → ProcId → Bool
name_process s n parts id = is_of (name_of n (summary_by n parts)) (process_of s id)

-- The process is known: an initiator began the connection, or more than messages has come in it, or COMMAND has.
abbrev pub is_known : OpenedValue → LineSet → Bool
is_known k bus = not k.connection.reselected || not (are_talk (base_parts k)) || is_command bus
