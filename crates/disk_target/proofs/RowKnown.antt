-- Where the command of a process arrives or runs its target knows it.
use Rattle.std.proofs.Common.{ℕ, ◌≡◌, ◌≤◌, ◌∙◌, Bool, true, false, List, [], ◌∷◌, refl, sym, length, take, Option, Some}
use Rattle.std.proofs.Common.{None}
use Rattle.std.specs.Prelude.{if◌then◌else◌, not, ◌&&◌, ◌||◌, is_some, is_none}
use Rattle.std.proofs.lemmas.Bool.{and_parts, not-true}
use Rattle.std.proofs.lemmas.List.{take_all}
use native.Mathlib.Omega.{arith}
use Rattle.bus_base.specs.declared.Event.TheVariants as events
use Rattle.bus_base.specs.declared.ProcId.{ProcId}
use Rattle.bus_trace.specs.declared.Row.{Row}
use Rattle.bus_trace.specs.declared.agreements.Agreement.{Agreement}
use Rattle.bus_trace.specs.declared.connection.Connection.{Connection}
use Rattle.cdb_codec.specs.declared.sense.TheConstants.{PARITY_ERROR}
use Rattle.due_model.specs.msg_grammar.specs.declared.message.MsgIn.{MsgIn}
use Rattle.scenario.specs.declared.value.TargetDef.{TargetDef}
use Rattle.scenario.specs.Value.{ScenarioValue}
use Rattle.array_model.specs.ArrayHistory.{reply_in}
use Rattle.array_model.specs.Processes.{Process}
use Rattle.array_model.specs.Steps.{running_process}
use Rattle.array_model.specs.Units.{Array}
use Rattle.due_model.specs.story_model.specs.Right.{same_bytes}
use Rattle.due_model.specs.dialogue_model.specs.declared.exchange.Arrival.{Arrival}
use Rattle.due_model.specs.dialogue_model.specs.declared.exchange.Cause.{Cause}
use Rattle.due_model.specs.dialogue_model.specs.declared.exchange.Cause.TheVariants as causes
use Rattle.due_model.specs.dialogue_model.specs.declared.exchange.Next.{Next}
use Rattle.due_model.specs.dialogue_model.specs.declared.exchange.Next.TheVariants as nexts
use Rattle.due_model.specs.dialogue_model.specs.declared.exchange.Phase.{Phase}
use Rattle.due_model.specs.dialogue_model.specs.declared.exchange.Phase.TheVariants as phases
use Rattle.due_model.specs.dialogue_model.specs.declared.exchange.Plan.{Plan}
use Rattle.due_model.specs.dialogue_model.specs.Events.{arrival_event, arrival_events, arrival_run_events}
use Rattle.due_model.specs.dialogue_model.specs.Events.{detected_events}
use Rattle.due_model.specs.dialogue_model.specs.Events.{has_replied, is_status_next, newest_with, reply_events}
use Rattle.due_model.specs.dialogue_model.specs.Events.{turn_events}
use Rattle.due_model.specs.dialogue_model.specs.NextPhase.{Serving, after_messages, after_offer, after_opening}
use Rattle.due_model.specs.dialogue_model.specs.NextPhase.{after_refusal, bus_free, message_out_leaving}
use Rattle.due_model.specs.dialogue_model.specs.NextPhase.{message_repetition}
use Rattle.due_model.specs.dialogue_model.specs.NextPhase.{phase_entry, phase_leaving, phase_of, pointer_restoration}
use Rattle.due_model.specs.dialogue_model.specs.NextPhase.{recovery, request_or_command, unless_attention, with_task}
use Rattle.due_model.specs.dialogue_model.specs.Words.{is_naming, request_by as request_of}
use Rattle.due_model.specs.Faithful.{is_block_of_process, is_true_leaving}
use Rattle.due_model.specs.RunState.{RunState, bus_of, carried_here, process_served}
use Rattle.due_model.specs.RunSteps.{run_state}
use Rattle.due_model.specs.Sights.{serving_of}
use Rattle.due_model.specs.Tasks.{task_if, task_of}
use Rattle.target_course.specs.scsi_device.specs.Heard.{gives_status, instructions, is_answered, is_command_phase}
use Rattle.target_course.specs.scsi_device.specs.Heard.{is_new, is_placed, is_unanswered, may_leave, moves_data}
use Rattle.target_course.specs.Courses.{CourseState, MOST_KEPT}
use Rattle.target_course.proofs.CourseAgrees.{IsFront, IsServed}
use Rattle.due_model.specs.story_model.proofs.SameBytes.{bytes_are}
use Rattle.target_course.proofs.ReplyRows.{Shape, shown_of}
use Rattle.target_course.proofs.ReplyRows as shapes
use Rattle.bus_base.proofs.Tests.{or_second}
use Rattle.due_model.specs.dialogue_model.proofs.Leavings.{task_not, recovery_not}

-- ---- which of the shapes need the command

abbrev pub needs_command : Shape → Bool
needs_command shapes.nothing = false
needs_command shapes.accepts = true
needs_command shapes.refuses = true
needs_command shapes.runs = true
needs_command (shapes.fails code) = false
needs_command shapes.accepts_and_runs = true

abbrev pub is_arrival : Shape → Bool
is_arrival shapes.nothing = false
is_arrival shapes.accepts = true
is_arrival shapes.refuses = true
is_arrival shapes.runs = false
is_arrival (shapes.fails code) = false
is_arrival shapes.accepts_and_runs = true

no_command : (i : ProcId) (x : Shape) → [] ≡ shown_of i x → needs_command x ≡ false
no_command i shapes.nothing e = refl
no_command i shapes.accepts e = cc
no_command i shapes.refuses e = cc
no_command i shapes.runs e = cc
no_command i (shapes.fails code) e = refl
no_command i shapes.accepts_and_runs e = cc

failed_command : (i j : ProcId) (code : ℕ) (x : Shape) → events.Fail j code ∷ [] ≡ shown_of i x
    → needs_command x ≡ false
failed_command i j code shapes.nothing e = cc
failed_command i j code shapes.accepts e = cc
failed_command i j code shapes.refuses e = cc
failed_command i j code shapes.runs e = cc
failed_command i j code (shapes.fails or_second) e = refl
failed_command i j code shapes.accepts_and_runs e = cc

no_arrival : (i : ProcId) (x : Shape) → [] ≡ shown_of i x → is_arrival x ≡ false
no_arrival i shapes.nothing e = refl
no_arrival i shapes.accepts e = cc
no_arrival i shapes.refuses e = cc
no_arrival i shapes.runs e = refl
no_arrival i (shapes.fails code) e = refl
no_arrival i shapes.accepts_and_runs e = cc

run_arrival : (i j : ProcId) (x : Shape) → events.Run j ∷ [] ≡ shown_of i x → is_arrival x ≡ false
run_arrival i j shapes.nothing e = refl
run_arrival i j shapes.accepts e = cc
run_arrival i j shapes.refuses e = cc
run_arrival i j shapes.runs e = refl
run_arrival i j (shapes.fails code) e = refl
run_arrival i j shapes.accepts_and_runs e = cc

fail_arrival : (i j : ProcId) (code : ℕ) (x : Shape) → events.Fail j code ∷ [] ≡ shown_of i x → is_arrival x ≡ false
fail_arrival i j code shapes.nothing e = refl
fail_arrival i j code shapes.accepts e = cc
fail_arrival i j code shapes.refuses e = cc
fail_arrival i j code shapes.runs e = refl
fail_arrival i j code (shapes.fails or_second) e = refl
fail_arrival i j code shapes.accepts_and_runs e = cc

-- ---- a command arrives as COMMAND is left

detected_arrival : (i j : ProcId) (x : Shape) (c : Cause) → detected_events c j ≡ shown_of i x → is_arrival x ≡ false
detected_arrival i j x causes.InData e = fail_arrival i j _ x e
detected_arrival i j x causes.Selected e = run_arrival i j x e
detected_arrival i j x causes.InMessage e = run_arrival i j x e
detected_arrival i j x causes.InStatus e = run_arrival i j x e

newest_detected : (i j : ProcId) (x : Shape) (c : Cause) → newest_with (detected_events c j) [] ≡ shown_of i x
    → is_arrival x ≡ false
newest_detected i j x causes.InData e = fail_arrival i j _ x e
newest_detected i j x causes.Selected e = run_arrival i j x e
newest_detected i j x causes.InMessage e = run_arrival i j x e
newest_detected i j x causes.InStatus e = run_arrival i j x e

struck_arrival : (i j : ProcId) (x : Shape) (y : Bool)
    → newest_with (if y then events.Fail j PARITY_ERROR ∷ [] else events.Run j ∷ []) [] ≡ shown_of i x
    → is_arrival x ≡ false
struck_arrival i j x true e = fail_arrival i j _ x e
struck_arrival i j x false e = run_arrival i j x e

turn_arrival : (i j : ProcId) (plan : Plan) (a : Arrival) (phase : Phase) (c : Bool) (x : Shape)
    → newest_with (if c then reply_events j plan a phase else []) (arrival_events j plan a phase) ≡ shown_of i x
    → is_arrival x ≡ true → phase ≡ phases.Command
turn_arrival i j plan a phases.Command c x e f = refl
turn_arrival i j plan a phases.MessageOut true x e f =
    let bad : false ≡ true = sym (newest_detected i j x plan.cause e) ∙ f in
    absurd cc
turn_arrival i j plan a phases.MessageOut false x e f = let bad : false ≡ true = sym (no_arrival i x e) ∙ f in absurd cc
turn_arrival i j plan a phases.MessageIn true x e f =
    let bad : false ≡ true = sym (run_arrival i j x e) ∙ f in
    absurd cc
turn_arrival i j plan a phases.MessageIn false x e f = let bad : false ≡ true = sym (no_arrival i x e) ∙ f in absurd cc
turn_arrival i j plan a phases.Status true x e f = let bad : false ≡ true = sym (run_arrival i j x e) ∙ f in absurd cc
turn_arrival i j plan a phases.Status false x e f = let bad : false ≡ true = sym (no_arrival i x e) ∙ f in absurd cc
turn_arrival i j plan a phases.DataIn true x e f = let bad : false ≡ true = sym (run_arrival i j x e) ∙ f in absurd cc
turn_arrival i j plan a phases.DataIn false x e f = let bad : false ≡ true = sym (no_arrival i x e) ∙ f in absurd cc
turn_arrival i j plan a phases.DataOut true x e f =
    let bad : false ≡ true = sym (struck_arrival i j x plan.struck e) ∙ f in
    absurd cc
turn_arrival i j plan a phases.DataOut false x e f = let bad : false ≡ true = sym (no_arrival i x e) ∙ f in absurd cc

pub arrives_in : (v : Serving) (atn : Bool) (phase : Phase) (i : ProcId) (x : Shape)
    → turn_events v atn phase i ≡ shown_of i x → is_arrival x ≡ true → phase ≡ phases.Command
arrives_in v atn phase i x e f = turn_arrival i i v.plan v.arrival phase
    (is_status_next (phase_leaving v atn phase).to && not (has_replied v.task)) x e f

-- ---- MESSAGE OUT is not left for STATUS but after refused data

offer_not : (def : Option TargetDef) (o : Option Agreement) (n : Bool) → is_status_next (after_offer def n o).to ≡ false
offer_not def (Some offer) n = refl
offer_not def None true = go (request_of def)
  where
    go : (x : Option MsgIn) → is_status_next (request_or_command x).to ≡ false
    go None = refl
    go (Some m) = refl
offer_not def None false = refl

opening_not : (v : Serving) → is_status_next (after_opening v.def v.plan).to ≡ false
opening_not v = go (is_some v.plan.said.aborts)
  where
    go : (y : Bool)
        → is_status_next (if y then bus_free else after_offer v.def v.plan.negotiates v.plan.said.offer).to ≡ false
    go true = refl
    go false = offer_not v.def v.plan.said.offer v.plan.negotiates

refusal_not : (v : Serving) → is_status_next (after_refusal v).to ≡ false
refusal_not v = go (is_some v.plan.said.offer) (is_naming v.plan.messages.first)
  where
    go : (y z : Bool) → is_status_next (if y then phase_entry phases.Command else if z then message_repetition v.plan
        else with_task v.task (λ t. recovery v.def t (message_repetition v.plan) bus_free)).to ≡ false
    go true z = refl
    go false true = refl
    go false false = task_not v.task (λ t. recovery v.def t (message_repetition v.plan) bus_free)
        (λ t. recovery_not v.def t (message_repetition v.plan) bus_free refl refl)

-- ---- what a turn needs

pub data IsKnown (v : Serving) (phase : Phase) : Type 0 where
  arriving : phase ≡ phases.Command → v.plan.struck ≡ false → IsKnown v phase
  moving : moves_data phase v.plan.next ≡ true → IsKnown v phase
  giving : gives_status phase v.plan.next ≡ true → has_replied v.task ≡ false → IsKnown v phase

out_known : (v : Serving) (i : ProcId) (x : Shape) (c : Cause) → v.plan.cause ≡ c
    → (y : Bool) → (is_status_next (message_out_leaving v c).to && not (has_replied v.task)) ≡ y
    → newest_with (if y then detected_events c i else []) [] ≡ shown_of i x → needs_command x ≡ true
    → IsKnown v phases.MessageOut
out_known v i x c g false y e f = let bad : false ≡ true = sym (no_command i x e) ∙ f in absurd cc
out_known v i x causes.InData g true y e f = let bad : false ≡ true = sym (failed_command i i _ x e) ∙ f in absurd cc
out_known v i x causes.Selected g true y e f =
    let bad : false ≡ true = sym (opening_not v)
    ∙ (and_parts (is_status_next (after_opening v.def v.plan).to) (not (has_replied v.task)) y).0 in
    absurd cc
out_known v i x causes.InMessage g true y e f =
    let bad : false ≡ true = sym (refusal_not v)
    ∙ (and_parts (is_status_next (after_refusal v).to) (not (has_replied v.task)) y).0 in
    absurd cc
out_known v i x causes.InStatus g true y e f =
    let none : is_status_next (with_task v.task (λ t. recovery v.def t (pointer_restoration nexts.Status) bus_free)).to
    ≡ false = task_not v.task (λ t. recovery v.def t (pointer_restoration nexts.Status) bus_free)
    (λ t. recovery_not v.def t (pointer_restoration nexts.Status) bus_free refl refl) in
    let bad : false ≡ true = sym none
    ∙ (and_parts (is_status_next (message_out_leaving v causes.InStatus).to) (not (has_replied v.task)) y).0 in
    absurd cc

in_known : (v : Serving) (i : ProcId) (x : Shape) (atn : Bool) (n : Next) → v.plan.next ≡ n
    → (y : Bool) → (is_status_next (unless_attention atn (after_messages v n)).to && not (has_replied v.task)) ≡ y
    → newest_with (if y then events.Run i ∷ [] else []) [] ≡ shown_of i x → needs_command x ≡ true
    → IsKnown v phases.MessageIn
in_known v i x atn n g false y e f = let bad : false ≡ true = sym (no_command i x e) ∙ f in absurd cc
in_known v i x true n g true y e f = absurd cc
in_known v i x false nexts.GoOn g true y e f = moving (λ j. moves_data phases.MessageIn (g j))
in_known v i x false nexts.Status g true y e f =
    giving (λ j. gives_status phases.MessageIn (g j)) (not-true (has_replied v.task) y)
in_known v i x false nexts.Command g true y e f = absurd cc
in_known v i x false nexts.FreeBus g true y e f = absurd cc

status_known : (v : Serving) (i : ProcId) (x : Shape) (atn y : Bool)
    → (is_status_next (phase_leaving v atn phases.Status).to && not (has_replied v.task)) ≡ y
    → newest_with (if y then events.Run i ∷ [] else []) [] ≡ shown_of i x → needs_command x ≡ true
    → IsKnown v phases.Status
status_known v i x atn false y e f = let bad : false ≡ true = sym (no_command i x e) ∙ f in absurd cc
status_known v i x true true y e f = absurd cc
status_known v i x false true y e f = absurd cc

command_known : (v : Serving) (i : ProcId) (x : Shape) (struck c : Bool) → v.plan.struck ≡ struck → newest_with
    (if c then (if struck then events.Fail i PARITY_ERROR ∷ [] else arrival_run_events v.arrival i) else [])
    (if struck then [] else arrival_event i v.arrival ∷ []) ≡ shown_of i x
    → needs_command x ≡ true → IsKnown v phases.Command
command_known v i x false c g e f = arriving refl g
command_known v i x true true g e f = let bad : false ≡ true = sym (failed_command i i _ x e) ∙ f in absurd cc
command_known v i x true false g e f = let bad : false ≡ true = sym (no_command i x e) ∙ f in absurd cc

pub is_known : (v : Serving) (atn : Bool) (phase : Phase) (i : ProcId) (x : Shape)
    → turn_events v atn phase i ≡ shown_of i x → needs_command x ≡ true → IsKnown v phase
is_known v atn phases.Command i x e f = command_known v i x v.plan.struck
    (is_status_next (phase_leaving v atn phases.Command).to && not (has_replied v.task)) refl e f
is_known v atn phases.MessageOut i x e f = out_known v i x v.plan.cause refl
    (is_status_next (phase_leaving v atn phases.MessageOut).to && not (has_replied v.task)) refl e f
is_known v atn phases.MessageIn i x e f = in_known v i x atn v.plan.next refl
    (is_status_next (phase_leaving v atn phases.MessageIn).to && not (has_replied v.task)) refl e f
is_known v atn phases.Status i x e f =
    status_known v i x atn (is_status_next (phase_leaving v atn phases.Status).to && not (has_replied v.task)) refl e f
is_known v atn phases.DataIn i x e f = moving refl
is_known v atn phases.DataOut i x e f = moving refl

-- ---- the command is that of the process

phase_command : (s : ScenarioValue) (k : RunState) (p : Process) (phase : Phase) → phase ≡ phases.Command
    → process_served s k ≡ Some p → is_true_leaving s k (process_served s k) phase ≡ true
    → is_block_of_process s k (Some p) ≡ true
phase_command s k p phase same is e =
    (λ j. is_block_of_process s k (sym is j)) ∙ (λ j. is_true_leaving s k (process_served s k) (sym same j)) ∙ e

pub block_known : (s : ScenarioValue) (rows : List Row) (n : Connection) (c : CourseState) (p : Process)
    → IsFront s (run_state s rows) n (instructions s rows) → IsServed s (run_state s rows) n (instructions s rows) c p
    → may_leave s (run_state s rows) n ≡ true → length p.cdb ≤ 10
    → IsKnown (serving_of s (run_state s rows) n.target) (phase_of (bus_of (run_state s rows))) → c.block ≡ p.cdb
block_known s rows n c p front served may few (arriving same unstruck) =
    let k : RunState = run_state s rows in
    let said : is_block_of_process s k (Some p) ≡ true = phase_command s k p
    (phase_of (bus_of k)) same served.is (front.said may) in
    let block : (carried_here k p.id).block ≡ p.cdb = bytes_are (carried_here k p.id).block p.cdb
    (or_second k.exchange.plan.struck (same_bytes (carried_here k p.id).block p.cdb) said unstruck) in
    served.carried (λ j. is_command_phase (same j)) ∙ (λ j. take MOST_KEPT (block j))
    ∙ take_all MOST_KEPT p.cdb (omega (arith, few))
block_known s rows n c p front served may few (moving m) = served.block (served.moves m)
block_known s rows n c p front served may few (giving g none) =
    let k : RunState = run_state s rows in
    let replied : has_replied (task_of s k) ≡ true = (λ j. has_replied (task_if s k (served.is j))) ∙ served.gives g in
    let bad : false ≡ true = sym none ∙ replied in
    absurd cc

-- In COMMAND it has not arrived yet.
pub placed_new : (a : Array) (p : Process) (phase : Phase) (next : Next) (known : Bool)
    → is_placed a p phase next known ≡ true → phase ≡ phases.Command → is_new a p ≡ true
placed_new a p phase next known e same =
    let last = and_parts ((not (is_command_phase phase) || (not known && is_new a p)) && (not (moves_data phase next)
    || (known && is_unanswered (running_process a p.id) && is_none (reply_in a.replies p.id))))
    (not (gives_status phase next) || (is_answered (running_process a p.id) && is_some (reply_in a.replies p.id))) e in
    let two = and_parts (not (is_command_phase phase) || (not known && is_new a p)) (not (moves_data phase next)
    || (known && is_unanswered (running_process a p.id) && is_none (reply_in a.replies p.id))) last.0 in
    let three : (not known && is_new a p) ≡ true =
    (λ j. not (is_command_phase (sym same j)) || (not known && is_new a p)) ∙ two.0 in
    (and_parts (not known) (is_new a p) three).1
