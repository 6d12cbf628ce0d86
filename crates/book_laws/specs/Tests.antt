-- The books of a prompt trace as tests on what is kept: what was said, given and carried, the processes and the items.
-- They hold after every row of it, but that a connection is asked nothing under RST.
use Rattle.std.specs.Prelude.{ℕ, ◌+◌, Bool, true, false, not, ◌&&◌, ◌||◌, ◌==◌, List, [], ◌∷◌, take, length}
use Rattle.std.specs.Prelude.{slice_index_or, Option, Some, None, is_some, is_none, nat_le, nat_lt, if◌then◌else◌}
use Rattle.std.specs.List.{list_all}
use Rattle.due_model.specs.bus_base.specs.declared.ProcId.{ProcId}
use Rattle.due_model.specs.bus_base.specs.declared.AbortKind.{AbortKind}
use Rattle.due_model.specs.bus_trace.specs.declared.agreements.Agreement.{Agreement}
use Rattle.due_model.specs.bus_trace.specs.declared.connection.Connection.{Connection}
use Rattle.due_model.specs.bus_phases.specs.declared.dialogue.Dialogue.{Dialogue}
use Rattle.due_model.specs.bus_phases.specs.Dialogue.{fresh_bytes}
use Rattle.due_model.specs.cdb_codec.specs.declared.sense.TheConstants.{PARITY_ERROR, INITIATOR_DETECTED_ERROR}
use Rattle.due_model.specs.scenario.specs.declared.value.CmdDef.{CmdDef}
use Rattle.due_model.specs.scenario.specs.Value.{ScenarioValue}
use Rattle.due_model.specs.array_model.specs.Processes.{Process, process_of, same_bool}
use Rattle.due_model.specs.array_model.specs.Execution.{Reply}
use Rattle.due_model.specs.array_model.specs.Units.{RunningProcess, UnitState}
use Rattle.due_model.specs.array_model.specs.Steps.{has_ended}
use Rattle.due_model.specs.array_model.specs.ArrayHistory.{reply_in}
use Rattle.due_model.specs.array_model.specs.Order.{same_number, tag_number}
use Rattle.due_model.specs.story_model.specs.Right.{same_bytes, has_run, moved_bytes}
use Rattle.due_model.specs.story_model.specs.Items.{Item, process, abort, Sent, has_item, is_open, is_clash}
use Rattle.due_model.specs.story_model.specs.Links.{Link, named_item_from}
use Rattle.due_model.specs.story_model.specs.HistoryEvents.{abort_line_at}
use Rattle.due_model.specs.story_model.specs.CarriedBytes.{Area, CarriedBytes}
use Rattle.due_model.specs.dialogue_model.specs.declared.exchange.Cause.{Cause}
use Rattle.due_model.specs.dialogue_model.specs.declared.exchange.Cause.TheVariants as causes
use Rattle.due_model.specs.dialogue_model.specs.declared.exchange.Next.{Next}
use Rattle.due_model.specs.dialogue_model.specs.declared.exchange.Next.TheVariants as nexts
use Rattle.due_model.specs.dialogue_model.specs.declared.exchange.Phase.{Phase}
use Rattle.due_model.specs.dialogue_model.specs.declared.exchange.Phase.TheVariants as phases
use Rattle.due_model.specs.dialogue_model.specs.declared.exchange.Plan.{Plan}
use Rattle.due_model.specs.dialogue_model.specs.declared.exchange.Said.{Said}
use Rattle.due_model.specs.dialogue_model.specs.Exchange.{Speech, bytes_of_messages}
use Rattle.due_model.specs.dialogue_model.specs.Words.{parity_error, detected_error, answer_bytes, is_naming}
use Rattle.due_model.specs.dialogue_model.specs.DataRuns.{run_length, runs_in_all}
use Rattle.due_model.specs.dialogue_model.specs.NextPhase.{phase_of}
use Rattle.due_model.specs.RunState.{RunState, bus_of, array_of, process_served}
use Rattle.due_model.specs.Defs.{host_of, opening}
use Rattle.due_model.specs.Faithful.{same_tag, is_kind, same_process}
use Rattle.book_laws.specs.Listening.{Understanding, nothing_understood, understood, form_messages, understanding}
use Rattle.book_laws.specs.Listening.{understanding_anew, half_after, form_messages_in}
use Rattle.book_laws.specs.Accounts.{is_open_in, is_served_by, is_in_array, Account, account_of, policy_for, task_in}
use Rattle.book_laws.specs.Accounts.{next_start, content_of}

-- ---- equal values

abbrev pub same_agreement : Option Agreement → Option Agreement → Bool
same_agreement None None = true
same_agreement (Some a) (Some b) = a.period == b.period && a.offset == b.offset
same_agreement None (Some b) = false
same_agreement (Some a) None = false

abbrev pub same_aborts : Option AbortKind → Option AbortKind → Bool
same_aborts a None = is_none a
same_aborts a (Some b) = is_kind a b

abbrev pub same_said : Said → Said → Bool
same_said a b =
    same_number a.unit b.unit && same_tag a.tag b.tag && same_aborts a.aborts b.aborts && same_agreement a.offer b.offer

abbrev pub same_understanding : Understanding → Understanding → Bool
same_understanding a b = same_said a.said b.said && same_bytes a.half b.half

abbrev pub is_front : List ℕ → List ℕ → Bool
is_front [] all = true
is_front (b ∷ bytes) [] = false
is_front (b ∷ bytes) (c ∷ all) = b == c && is_front bytes all

-- ---- MESSAGE OUT

-- What is said is what the target asked for.
abbrev pub are_words_for : ScenarioValue → RunState → Connection → Cause → Bool
are_words_for s k n causes.Selected =
    same_bytes k.exchange.speech.words (opening s n.initiator k.exchange.plan.negotiates k.served)
are_words_for s k n causes.InMessage =
    same_bytes k.exchange.speech.words parity_error
    || same_bytes k.exchange.speech.words (answer_bytes (host_of s n.initiator) k.exchange.speech.asked)
are_words_for s k n causes.InData = same_bytes k.exchange.speech.words detected_error
are_words_for s k n causes.InStatus = same_bytes k.exchange.speech.words detected_error

-- The words before the place were heard; after the byte with which ATN was false all of them, and it begins anew.
abbrev pub are_words_heard : Speech → Plan → Dialogue → Bool
are_words_heard h plan d =
    nat_lt h.place (length h.words)
    && same_understanding (understanding_anew plan d) (understood nothing_understood (take h.place h.words))
    && (not d.is_last || same_understanding (understanding plan d) (understood nothing_understood h.words))

abbrev pub speaks_well : ScenarioValue → RunState → Connection → Bool
speaks_well s k n =
    are_words_for s k n k.exchange.plan.cause
    && are_words_heard k.exchange.speech k.exchange.plan k.story.bus_state.dialogue
    && same_bytes k.story.bus_state.dialogue.half (fresh_bytes k.story.bus_state.dialogue)

-- Before the first phase the opening is to be said.
abbrev pub is_selected : Cause → Bool
is_selected causes.Selected = true
is_selected _ = false

abbrev pub is_about_to_speak : ScenarioValue → RunState → Connection → Bool
is_about_to_speak s k n = is_selected k.exchange.plan.cause && are_words_for s k n causes.Selected
    && nat_lt 0 (length k.exchange.speech.words)

abbrev pub speaks : ScenarioValue → RunState → Connection → Phase → Bool
speaks s k n phases.MessageOut = speaks_well s k n && form_messages nothing_understood k.exchange.speech.words
speaks s k n _ = true

-- ---- MESSAGE IN

-- So many bytes of the messages of the target have crossed.
abbrev pub are_bytes_given : List ℕ → List ℕ → ℕ → Bool
are_bytes_given bytes half count = same_bytes half (half_after [] (take count bytes)) && nat_le count (length bytes)

abbrev pub gives : RunState → Phase → Bool
gives k phases.MessageIn =
    are_bytes_given (bytes_of_messages k.exchange.plan.messages) k.story.bus_state.dialogue.half k.handshakes.requests
    && form_messages_in [] (bytes_of_messages k.exchange.plan.messages)
gives k _ = true

-- ---- the ends of the connection know the process

-- Names are said after a reselection alone; until then the initiator knows no process, after them that which the target
-- serves.
abbrev pub is_known : Connection → Option Item → Option Item → Bool
is_known n item served = same_process served item && is_some item || (n.reselected && is_none item)

abbrev pub is_link_of : ScenarioValue → RunState → Connection → Option Link → Bool
is_link_of s k n None = false
is_link_of s k n (Some l) =
    l.initiator == n.initiator && l.target == n.target && is_some k.served && is_known n l.item k.served
    && (n.reselected || not (is_naming k.exchange.plan.messages.first || is_naming k.exchange.plan.messages.second))

-- ---- COMMAND, DATA and STATUS

-- The bytes of an area are a front of what it carries, and its pointers stand in it.
abbrev pub is_filled : Area → List ℕ → Bool
is_filled a content = is_front a.bytes content && nat_le a.active (length a.bytes) && nat_le a.saved (length a.bytes)

abbrev pub is_at : Area → ℕ → ℕ → Bool
is_at a active saved = a.active == active && a.saved == saved

abbrev pub takes_block : RunState → Process → CarriedBytes → Bool
takes_block k t c = is_front c.block t.cdb && length c.block == k.handshakes.answers && is_filled c.command t.cdb
    && is_at c.command (length c.block) 0 && k.story.bus_state.dialogue.heard.now.command.count == length c.block
    && (length c.block == 0 || k.story.bus_state.dialogue.heard.now.command.first == slice_index_or c.block 0 0)
    && same_bool c.struck k.exchange.plan.struck
    && same_number c.failure (if k.exchange.plan.struck then Some PARITY_ERROR else None)
    && c.moved.active == c.moved.saved

-- A run that began here, so many bytes of which have crossed.
abbrev pub moves_run : ScenarioValue → Account → Process → ℕ → Bool
moves_run s a c count =
    is_at a.carried.moved (next_start s a c + count) (next_start s a c)
    && is_filled a.carried.moved (content_of a c)
    && nat_le count (run_length (policy_for s c) (task_in a c))
    && nat_lt a.progress.runs (runs_in_all (policy_for s c) (task_in a c))
    && not (task_in a c).replied

abbrev pub gives_status : Account → Process → ℕ → Bool
gives_status a c count =
    is_filled a.carried.status ((task_in a c).status ∷ []) && is_at a.carried.status count 0 && (task_in a c).replied

-- In the phases that follow when messages were heard, the pointers stand at the beginning.
abbrev pub is_at_start : CarriedBytes → Bool
is_at_start c = c.moved.active == c.moved.saved && is_none c.failure

abbrev pub is_before_block : CarriedBytes → Bool
is_before_block c = length c.block == 0 && not c.struck && is_at c.command 0 0

abbrev pub is_before : CarriedBytes → Next → Bool
is_before c nexts.Command = is_at_start c && is_before_block c
is_before c nexts.GoOn = is_at_start c
is_before c nexts.Status = is_at c.status 0 0
is_before c nexts.FreeBus = true

abbrev pub is_before_answer : CarriedBytes → Next → Cause → Bool
is_before_answer c next causes.Selected = is_at_start c && is_before_block c
is_before_answer c next causes.InMessage = is_before c next
is_before_answer c next causes.InData = same_number c.failure (Some INITIATOR_DETECTED_ERROR)
is_before_answer c next causes.InStatus = true

abbrev pub moves : ScenarioValue → RunState → Account → Process → Phase → Bool
moves s k a c phases.Command = takes_block k c a.carried
moves s k a c phases.DataIn = not (task_in a c).writes && moves_run s a c k.handshakes.requests
moves s k a c phases.DataOut =
    (task_in a c).writes && moves_run s a c k.handshakes.answers
    && same_number a.carried.failure (if k.exchange.plan.struck then Some PARITY_ERROR else None)
moves s k a c phases.Status = gives_status a c k.handshakes.requests
moves s k a c phases.MessageIn = is_before a.carried k.exchange.plan.next
moves s k a c phases.MessageOut = is_before_answer a.carried k.exchange.plan.next k.exchange.plan.cause

abbrev pub moves_if : ScenarioValue → RunState → Option Process → Phase → Bool
moves_if s k None phase = true
moves_if s k (Some c) phase = moves s k (account_of s k c.id) c phase

-- ---- the connection

abbrev pub is_talk : ScenarioValue → RunState → Connection → Bool → Bool
is_talk s k n false = n.reselected || is_about_to_speak s k n
is_talk s k n true = speaks s k n (phase_of (bus_of k)) && gives k (phase_of (bus_of k))
    && moves_if s k (process_served s k) (phase_of (bus_of k))

abbrev pub is_connected_well : ScenarioValue → RunState → Option Connection → Bool
is_connected_well s k None = is_none k.story.link && is_none k.served
is_connected_well s k (Some n) = is_link_of s k n k.story.link && is_talk s k n k.exchange.begun

-- ---- processes

-- No reply was given yet.
abbrev pub has_pointers : ScenarioValue → Account → Process → Bool
has_pointers s a c =
    a.carried.command.saved == 0 && is_filled a.carried.command c.cdb
    && is_at a.carried.status 0 0 && length a.carried.status.bytes == 0
    && a.carried.moved.saved == next_start s a c && is_filled a.carried.moved (content_of a c)
    && nat_le a.progress.runs (runs_in_all (policy_for s c) (task_in a c))

-- It ran, and has carried all that it moves.
abbrev pub has_carried : RunState → Account → Process → Reply → Bool
has_carried k a c reply =
    not (has_run k.story.history c.id)
    || (same_bytes a.carried.command.bytes c.cdb && same_bytes a.carried.moved.bytes (moved_bytes c reply))

abbrev pub is_found : ScenarioValue → Sent → Process → Bool
is_found s b c =
    same_process (Some (process c.id)) (named_item_from b c.initiator c.target c.unit (tag_number c.tag) 1 s.commands)

abbrev pub stands_by_reply : ScenarioValue → RunState → Account → Process → Option Reply → Bool
stands_by_reply s k a c (Some reply) =
    is_served_by a.served c.id && is_in_array a.array c.id && a.carried.status.saved == 0 && has_carried k a c reply
stands_by_reply s k a c None = has_pointers s a c && (if is_in_array a.array c.id
    then same_bytes a.carried.command.bytes c.cdb && (is_served_by a.served c.id || is_found s a.sent c)
    else is_served_by a.served c.id)

abbrev pub stands_open : ScenarioValue → RunState → Account → Option Process → Bool
stands_open s k a None = false
stands_open s k a (Some c) = not (has_ended a.array c.id) && stands_by_reply s k a c (reply_in a.array.replies c.id)

abbrev pub stands : ScenarioValue → RunState → Account → ProcId → Bool
stands s k a id = if is_open_in a.sent id then stands_open s k a (process_of s id) else not (is_in_array a.array id)

abbrev pub all_stand : ScenarioValue → RunState → ℕ → List CmdDef → Bool
all_stand s k m [] = true
all_stand s k m (c ∷ commands) =
    stands s k (account_of s k (record { command = m; sense = false })) (record { command = m; sense = false })
    && stands s k (account_of s k (record { command = m; sense = true })) (record { command = m; sense = true })
    && all_stand s k (m + 1) commands

-- ---- items, and the units of the plain disk array

-- Open commands of one initiator are not confused (6.6.17, 7.8), and each item is sent once.
abbrev pub clashes_with_none : Sent → CmdDef → ℕ → List CmdDef → Bool
clashes_with_none b c m [] = true
clashes_with_none b c m (d ∷ commands) =
    not (d.host == c.host && is_open b m && is_clash c d) && clashes_with_none b c (m + 1) commands

abbrev pub have_no_clash : Sent → ℕ → List CmdDef → Bool
have_no_clash b m [] = true
have_no_clash b m (c ∷ commands) =
    (not (is_open b m) || clashes_with_none b c (m + 1) commands) && have_no_clash b (m + 1) commands

abbrev pub are_sent_once : List Item → Bool
are_sent_once [] = true
are_sent_once (i ∷ items) = not (has_item items i) && are_sent_once items

-- What a device calls for is an item of the scenario.
abbrev pub is_item : ScenarioValue → Option Item → Bool
is_item s None = true
is_item s (Some (process id)) = is_some (process_of s id)
is_item s (Some (abort n)) = is_some (abort_line_at s.aborts n)

abbrev pub is_of_unit : UnitState → Process → Bool
is_of_unit u c = c.target == u.target && c.unit == u.unit

abbrev pub is_current_of_unit : UnitState → Option RunningProcess → Bool
is_current_of_unit u None = true
is_current_of_unit u (Some r) = is_of_unit u r.process

abbrev pub have_own_processes : List UnitState → Bool
have_own_processes units = list_all
    (λ (u : UnitState). list_all (λ (c : Process). is_of_unit u c) u.waiting && is_current_of_unit u u.current) units

abbrev pub are_items_well : ScenarioValue → RunState → Bool
are_items_well s k =
    have_no_clash k.story.sent 1 s.commands && are_sent_once k.story.sent.sent
    && list_all (λ (i : Option Item). is_item s i) k.story.aims && have_own_processes (array_of s k).units

-- ---- all

abbrev pub are_books : ScenarioValue → RunState → Bool
are_books s k =
    is_some k.array && are_items_well s k
    && ((bus_of k).rst || (is_connected_well s k k.story.bus_state.connection && all_stand s k 1 s.commands))
