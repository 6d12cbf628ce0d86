-- The course of a connection at its target: which phase follows, and what is said in it (6.1.5, 6.6).
use Rattle.std.specs.Prelude.{ℕ, List, ◌+◌, Bool, true, false, not, ◌&&◌, Option, Some, None, is_some, nat_lt}
use Rattle.std.specs.Prelude.{if◌then◌else◌}
use Rattle.story_model.specs.bus_trace.specs.LineSet.{LineSet, none}
use Rattle.story_model.specs.bus_trace.specs.declared.agreements.Agreement.{Agreement}
use Rattle.story_model.specs.msg_grammar.specs.declared.message.MsgIn.TheVariants as to_initiator
use Rattle.story_model.specs.msg_grammar.specs.declared.message.MsgIn.{MsgIn}
use Rattle.scenario.specs.declared.value.TargetDef.{TargetDef}
use Rattle.scenario.specs.declared.value.Policy.{Policy}
use Rattle.scenario.specs.declared.value.Policy.TheVariants as policies
use Rattle.dialogue_model.specs.declared.exchange.Cause.{Cause}
use Rattle.dialogue_model.specs.declared.exchange.Cause.TheVariants as causes
use Rattle.dialogue_model.specs.declared.exchange.Next.{Next}
use Rattle.dialogue_model.specs.declared.exchange.Next.TheVariants as nexts
use Rattle.dialogue_model.specs.declared.exchange.Phase.{Phase}
use Rattle.dialogue_model.specs.declared.exchange.Phase.TheVariants as phases
use Rattle.dialogue_model.specs.declared.exchange.Arrival.{Arrival}
use Rattle.dialogue_model.specs.declared.exchange.Arrival.TheVariants as arrivals
use Rattle.dialogue_model.specs.declared.exchange.Messages.{Messages}
use Rattle.dialogue_model.specs.declared.exchange.Plan.{Plan}
use Rattle.dialogue_model.specs.declared.exchange.Leaving.{Leaving}
use Rattle.dialogue_model.specs.declared.exchange.Task.{Task}
use Rattle.dialogue_model.specs.Exchange.{no_messages, one_message, two_messages}
use Rattle.dialogue_model.specs.Words.{reply_to, request_by, is_naming}
use Rattle.dialogue_model.specs.Arrivals.{policy_of}
use Rattle.dialogue_model.specs.DataRuns.{runs_in_all}

-- ---- phases, by the lines MSG, C/D and I/O

abbrev pub phase_of : LineSet → Phase
phase_of s =
    if s.msg then (if s.io then phases.MessageIn else phases.MessageOut)
    else if s.cd then (if s.io then phases.Status else phases.Command)
    else if s.io then phases.DataIn
    else phases.DataOut

-- The target drives BSY with them.
abbrev pub phase_lines : Phase → LineSet
phase_lines phases.DataOut = record none { bsy = true }
phase_lines phases.DataIn = record none { bsy = true; io = true }
phase_lines phases.Command = record none { bsy = true; cd = true }
phase_lines phases.Status = record none { bsy = true; cd = true; io = true }
phase_lines phases.MessageOut = record none { bsy = true; msg = true; cd = true }
phase_lines phases.MessageIn = record none { bsy = true; msg = true; cd = true; io = true }

-- ---- how a phase is left

abbrev pub bus_free : Leaving
bus_free = record { to = None; messages = no_messages; next = nexts.FreeBus; counts = false; done = false }

abbrev pub phase_entry : Phase → Leaving
phase_entry phase = record bus_free { to = Some phase }

abbrev pub message_in_entry : Messages → Next → Leaving
message_in_entry messages next = record (phase_entry phases.MessageIn) { messages = messages; next = next }

abbrev pub with_task : Option Task → (Task → Leaving) → Leaving
with_task None f = bus_free
with_task (Some t) f = f t

-- ---- what the target of a connection decides by: its line of the scenario, what was said, and the process that it
-- serves

pub record Serving : Type 0 where
  pub def : Option TargetDef
  pub plan : Plan
  pub task : Option Task
  -- the bytes that it gives, and what becomes of its command, where this is COMMAND
  pub given : List ℕ
  pub arrival : Arrival

-- ---- recovery from wrong parity

abbrev pub recovery_limit : Option TargetDef → ℕ
recovery_limit None = 0
recovery_limit (Some t) = t.retries

-- It is tried again while fewer recoveries than the target's limit were counted, and without count for an initiator
-- that stands in the hold of the unit; else the target gives up so (6.6.10, 6.6.13, 6.6.19).
abbrev pub recovery : Option TargetDef → Task → Leaving → Leaving → Leaving
recovery def t again gives_up =
    if t.in_hold then again
    else if nat_lt t.recoveries (recovery_limit def) then record again { counts = true }
    else gives_up

-- The pointers are restored, and it is moved again.
abbrev pub pointer_restoration : Next → Leaving
pointer_restoration next = message_in_entry (one_message to_initiator.RestorePointers) next

-- ---- data, or STATUS

-- The next phase of a process that has made so many of its runs: a data phase while runs are left, then STATUS.
abbrev pub next_data_phase : Policy → Task → ℕ → Phase
next_data_phase policy t made =
    if t.replied then phases.Status
    else if nat_lt made (runs_in_all policy t) then (if t.writes then phases.DataOut else phases.DataIn)
    else phases.Status

-- ---- MESSAGE OUT is left

abbrev pub request_or_command : Option MsgIn → Leaving
request_or_command None = phase_entry phases.Command
request_or_command (Some m) = message_in_entry (one_message m) nexts.Command

-- After the opening: to BUS FREE on an abort message; to the answer to an offer; to the target's own request where it
-- begins a negotiation; else to COMMAND (6.6.1 to 6.6.4, 6.6.21).
abbrev pub after_offer : Option TargetDef → Bool → Option Agreement → Leaving
after_offer def negotiates (Some offer) = message_in_entry (one_message (reply_to def offer)) nexts.Command
after_offer def negotiates None = if negotiates then request_or_command (request_by def) else phase_entry phases.Command

abbrev pub after_opening : Option TargetDef → Plan → Leaving
after_opening def plan = if is_some plan.said.aborts then bus_free else after_offer def plan.negotiates plan.said.offer

-- After MESSAGE PARITY ERROR the message is sent again from its first byte, and those after it; those that name a
-- reselected process without limit (6.6.13). After the initiator's answer to a request COMMAND follows.
abbrev pub message_repetition : Plan → Leaving
message_repetition plan = message_in_entry plan.messages plan.next

abbrev pub after_refusal : Serving → Leaving
after_refusal v =
    if is_some v.plan.said.offer then phase_entry phases.Command
    else if is_naming v.plan.messages.first then message_repetition v.plan
    else with_task v.task (λ t. recovery v.def t (message_repetition v.plan) bus_free)

-- After INITIATOR DETECTED ERROR the run, or STATUS, is repeated (6.6.10).
abbrev pub message_out_leaving : Serving → Cause → Leaving
message_out_leaving v causes.Selected = after_opening v.def v.plan
message_out_leaving v causes.InMessage = after_refusal v
message_out_leaving v causes.InData =
    with_task v.task (λ t. recovery v.def t (pointer_restoration nexts.GoOn) (phase_entry phases.Status))
message_out_leaving v causes.InStatus =
    with_task v.task (λ t. recovery v.def t (pointer_restoration nexts.Status) bus_free)

-- ---- MESSAGE IN is left

abbrev pub after_messages : Serving → Next → Leaving
after_messages v nexts.Command = phase_entry phases.Command
after_messages v nexts.Status = phase_entry phases.Status
after_messages v nexts.GoOn = with_task v.task (λ t. phase_entry (next_data_phase (policy_of v.def) t t.runs))
after_messages v nexts.FreeBus = bus_free

-- ---- COMMAND is left

abbrev pub disconnection : Messages → Leaving
disconnection messages = message_in_entry messages nexts.FreeBus

-- It is refused at a full queue; a guest goes on; another that does not run at once is disconnected (6.6.6, 7.8).
abbrev pub after_arrival : Option TargetDef → Task → Arrival → Leaving
after_arrival def t arrivals.Refused = phase_entry phases.Status
after_arrival def t arrivals.Guest = phase_entry (next_data_phase (policy_of def) t t.runs)
after_arrival def t arrivals.AtOnce = phase_entry (next_data_phase (policy_of def) t t.runs)
after_arrival def t arrivals.Queued = disconnection (one_message to_initiator.Disconnect)

abbrev pub command_leaving : Serving → Arrival → Leaving
command_leaving v arrival = with_task v.task
    (λ t. if v.plan.struck then recovery v.def t (pointer_restoration nexts.Command) (phase_entry phases.Status)
    else after_arrival v.def t arrival)

-- A command that runs at once waits the seek time in COMMAND.
abbrev pub is_at_once : Arrival → Bool
is_at_once arrivals.AtOnce = true
is_at_once arrivals.Guest = false
is_at_once arrivals.Queued = false
is_at_once arrivals.Refused = false

abbrev pub waits_seek : Plan → Arrival → Bool
waits_seek plan arrival = not plan.struck && is_at_once arrival

-- ---- a data phase is left

-- Between two runs it disconnects, having saved the data pointer but for the policy without it (6.6.6, 6.6.20).
abbrev pub disconnect_messages : Policy → Messages
disconnect_messages (policies.Burst most) = two_messages to_initiator.SavePointer to_initiator.Disconnect
disconnect_messages _ = one_message to_initiator.Disconnect

abbrev pub after_run : Policy → Task → Leaving
after_run policy t =
    record (if nat_lt (t.runs + 1) (runs_in_all policy t) then disconnection (disconnect_messages policy)
    else phase_entry phases.Status) { done = true }

abbrev pub data_in_leaving : Serving → Leaving
data_in_leaving v = with_task v.task (λ t. after_run (policy_of v.def) t)

abbrev pub data_out_leaving : Serving → Leaving
data_out_leaving v = with_task v.task
    (λ t. if v.plan.struck then recovery v.def t (pointer_restoration nexts.GoOn) (phase_entry phases.Status)
    else after_run (policy_of v.def) t)

-- ---- any phase but COMMAND; where ATN is true after bytes to the initiator, MESSAGE OUT follows (6.2.1)

abbrev pub unless_attention : Bool → Leaving → Leaving
unless_attention attention l = if attention then phase_entry phases.MessageOut else l

abbrev pub phase_leaving : Serving → Bool → Phase → Leaving
phase_leaving v attention phases.MessageOut = message_out_leaving v v.plan.cause
phase_leaving v attention phases.MessageIn = unless_attention attention (after_messages v v.plan.next)
phase_leaving v attention phases.Command = command_leaving v v.arrival
phase_leaving v attention phases.DataIn = unless_attention attention (data_in_leaving v)
phase_leaving v attention phases.DataOut = data_out_leaving v
phase_leaving v attention phases.Status =
    unless_attention attention (disconnection (one_message to_initiator.CommandComplete))

-- MESSAGE OUT is the first phase after a selection (6.1.3, 6.3).
abbrev pub leaving_by : Serving → Bool → LineSet → Leaving
leaving_by v begun bus = if begun then phase_leaving v bus.atn (phase_of bus) else phase_entry phases.MessageOut
