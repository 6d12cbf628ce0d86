-- What is left of a connection, in rows: of its present phase, by REQ and ACK; and of the phases after it, without
-- those that a fault calls for. Each phase that may follow counts for one phase; those before COMMAND count for a
-- reselection more, which pays for a command that waits in the queue of its unit.
use Rattle.std.specs.Prelude.{ℕ, ◌+◌, ◌-◌, ◌*◌, Bool, true, false, not, ◌&&◌, ◌||◌, ◌==◌, List, length, Option, Some}
use Rattle.std.specs.Prelude.{None, if◌then◌else◌}
use Rattle.due_model.specs.bus_trace.specs.LineSet.{LineSet}
use Rattle.due_model.specs.bus_trace.specs.declared.connection.Connection.{Connection}
use Rattle.due_model.specs.msg_grammar.specs.declared.message.MsgIn.{MsgIn}
use Rattle.due_model.specs.msg_grammar.specs.declared.message.MsgIn.TheVariants as to_initiator
use Rattle.due_model.specs.scenario.specs.Value.{ScenarioValue}
use Rattle.due_model.specs.bus_lines.specs.Handshakes.{Handshakes}
use Rattle.due_model.specs.reaction_model.specs.Target.{bits_if, byte_bits}
use Rattle.due_model.specs.dialogue_model.specs.declared.exchange.Cause.{Cause}
use Rattle.due_model.specs.dialogue_model.specs.declared.exchange.Cause.TheVariants as causes
use Rattle.due_model.specs.dialogue_model.specs.declared.exchange.Messages.{Messages}
use Rattle.due_model.specs.dialogue_model.specs.declared.exchange.Next.{Next}
use Rattle.due_model.specs.dialogue_model.specs.declared.exchange.Next.TheVariants as nexts
use Rattle.due_model.specs.dialogue_model.specs.declared.exchange.Phase.{Phase}
use Rattle.due_model.specs.dialogue_model.specs.declared.exchange.Phase.TheVariants as phases
use Rattle.due_model.specs.dialogue_model.specs.declared.exchange.Plan.{Plan}
use Rattle.due_model.specs.dialogue_model.specs.Arrivals.{policy_of}
use Rattle.due_model.specs.dialogue_model.specs.Exchange.{Speech, bytes_of_messages}
use Rattle.due_model.specs.dialogue_model.specs.NextPhase.{phase_of}
use Rattle.due_model.specs.dialogue_model.specs.PhaseBytes.{run_length_if}
use Rattle.due_model.specs.reaction_model.specs.declared.ends.Answering.{Answering}
use Rattle.due_model.specs.reaction_model.specs.declared.ends.Offering.{Offering}
use Rattle.due_model.specs.story_model.specs.Items.{Item, process, abort}
use Rattle.due_model.specs.Defs.{target_def_of}
use Rattle.due_model.specs.LastingState.{ProcessProgress, progress_in}
use Rattle.due_model.specs.RunState.{RunState, bus_of, drives_of}
use Rattle.due_model.specs.Sights.{answering_of, offering_of, pace_of}
use Rattle.due_model.specs.Tasks.{task_of}
use Rattle.measure_laws.specs.Future.{is_in_data, one_where}
use Rattle.measure_laws.specs.Weights.{for_byte, for_phase, for_reselection, for_struck_phase}

-- ---- how often REQ may still rise in the phase

-- MESSAGE OUT: the words that are left, and all of them again where one was struck. The first of them begins them anew,
-- and while it is asked for again the flag is not counted.
abbrev pub repeated : Bool → ℕ → ℕ
repeated struck words = if struck then words else 0

-- `asked` says that a byte is asked for and not answered.
abbrev pub words_left : Bool → Bool → Handshakes → Speech → ℕ
words_left struck asked h p =
    if h.requests == 0 then length p.words else if not asked then (if p.place == 0 then repeated struck (length p.words)
    else length p.words - p.place + repeated struck (length p.words))
    else if p.place == 0 then length p.words - 1 else length p.words - (p.place + 1) + repeated struck (length p.words)

abbrev pub is_asked : LineSet → Bool
is_asked bus = bus.req && not bus.ack

abbrev pub requests_by : Bool → Bool → Handshakes → Speech → ℕ → ℕ → Phase → ℕ
requests_by struck asked h p bytes run phases.MessageOut = words_left struck asked h p
requests_by struck asked h p bytes run phases.MessageIn = bytes - h.requests
requests_by struck asked h p bytes run phases.Command = 12 - h.requests
requests_by struck asked h p bytes run phases.Status = 1 - h.requests
requests_by struck asked h p bytes run phases.DataIn = run - h.requests
requests_by struck asked h p bytes run phases.DataOut = run - h.requests

abbrev pub requests_left : ScenarioValue → RunState → ℕ → ℕ
requests_left s k target = requests_by k.exchange.plan.struck
    (is_asked (bus_of k)) k.handshakes k.exchange.speech (length (bytes_of_messages k.exchange.plan.messages))
    (run_length_if (policy_of (target_def_of s target)) (task_of s k)) (phase_of (bus_of k))

-- ---- what is under way

-- The bytes that were asked for and not answered: four rows each (the byte, ACK, the end of ACK, the release), two less
-- for the one that the initiator drives already.
abbrev pub is_driven : Bool → LineSet → ℕ → Bool
is_driven pulsed own byte =
    not own.ack && (if pulsed then own.data_bits == byte_bits byte else not (own.data_bits == 0))

abbrev pub waiting_left : Bool → Bool → ℕ → ℕ
waiting_left io driven waiting = 4 * waiting - 2 * one_where (driven && not io && not (waiting == 0))

-- By pulses several bytes may be asked for, byte by byte one.
abbrev pub unanswered : Bool → LineSet → Handshakes → ℕ
unanswered pulsed bus h = if pulsed then length h.waiting else one_where (is_asked bus)

-- The first byte of a phase that turned I/O to true; and the next byte of pulses.
abbrev pub has_first_byte : LineSet → Handshakes → LineSet → Bool
has_first_byte bus h own = h.requests == 0 && bus.io && own.data_bits == 0

abbrev pub has_next_byte : Bool → LineSet → Handshakes → LineSet → Offering → Bool
has_next_byte pulsed bus h own g =
    pulsed && bus.io && not (h.requests == 0) && not (own.data_bits == bits_if g.follows g.byte)

abbrev pub under_way : Bool → LineSet → Handshakes → LineSet → LineSet → Offering → Answering → ℕ
under_way pulsed bus h target initiator g a =
    waiting_left bus.io (is_driven pulsed initiator a.byte) (unanswered pulsed bus h)
    + one_where target.req
    + one_where initiator.ack
    + one_where (not (initiator.data_bits == 0))
    + one_where initiator.bsy
    + one_where (has_first_byte bus h target)
    + one_where (has_next_byte pulsed bus h target g)

abbrev pub bytes_if_begun : Bool → ℕ → ℕ
bytes_if_begun begun n = if begun then for_byte * n else 0

abbrev pub phase_left : ScenarioValue → RunState → Connection → ℕ
phase_left s k n = bytes_if_begun k.exchange.begun (requests_left s k n.target)
    + under_way (pace_of s k n.target).pulsed (bus_of k) k.handshakes (drives_of k n.target) (drives_of k n.initiator)
    (offering_of s k n.target) (answering_of s k n.initiator)

-- ---- the phases after it

abbrev pub is_disconnect : Option MsgIn → Bool
is_disconnect (Some to_initiator.Disconnect) = true
is_disconnect _ = false

abbrev pub disconnects : Messages → Bool
disconnects m = is_disconnect m.first || is_disconnect m.second

-- After a disconnection the process is reselected.
abbrev pub reselection_if : Bool → ℕ
reselection_if true = for_reselection
reselection_if false = 0

abbrev pub after_next : Messages → Next → ℕ
after_next m nexts.FreeBus = for_phase + reselection_if (disconnects m)
after_next m nexts.Status = 3 * for_phase
after_next m nexts.GoOn = 4 * for_phase
after_next m nexts.Command = for_reselection + 6 * for_phase

-- The initiator complains of a struck byte, or answers a request of the target, after which COMMAND follows.
abbrev pub after_answer : Next → ℕ
after_answer nexts.Command = for_reselection + 5 * for_phase
after_answer _ = 0

abbrev pub after_refused : Bool → Plan → ℕ
after_refused true p = for_phase + after_next p.messages p.next
after_refused false p = after_answer p.next

abbrev pub after_words : Bool → Plan → Cause → ℕ
after_words refusing p causes.Selected = for_reselection + 7 * for_phase
after_words refusing p causes.InMessage = after_refused refusing p
after_words true p causes.InData = 5 * for_phase
after_words true p causes.InStatus = 4 * for_phase
after_words false p causes.InData = 0
after_words false p causes.InStatus = 0

abbrev pub phases_in : Bool → Plan → Phase → ℕ
phases_in refusing p phases.MessageOut = after_words refusing p p.cause
phases_in refusing p phases.MessageIn = after_next p.messages p.next
phases_in refusing p phases.Command = for_reselection + 4 * for_phase
phases_in refusing p phases.Status = 2 * for_phase
phases_in refusing p phases.DataIn = 3 * for_phase
phases_in refusing p phases.DataOut = 3 * for_phase

abbrev pub phases_left : Bool → RunState → ℕ
phases_left refusing k =
    if k.exchange.begun then phases_in refusing k.exchange.plan (phase_of (bus_of k))
    else for_reselection + 8 * for_phase

-- The data of an automatic REQUEST SENSE, until it has made its run.
abbrev pub sense_bytes_left : Bool → List ProcessProgress → Option Item → ℕ
sense_bytes_left moves made None = 0
sense_bytes_left moves made (Some (abort n)) = 0
sense_bytes_left moves made (Some (process id)) =
    if id.sense && not moves && (progress_in made id).runs == 0 then for_byte * 18 else 0

-- A byte of the phase was struck.
abbrev pub struck_left : ScenarioValue → Bool → ℕ
struck_left s true = for_struck_phase s
struck_left s false = 0

abbrev pub connection_left : ScenarioValue → RunState → Bool → Bool → Option Connection → ℕ
connection_left s k struck refusing None = 0
connection_left s k struck refusing (Some n) = phases_left refusing k + phase_left s k n
    + sense_bytes_left (is_in_data k) k.progress k.served + struck_left s struck
