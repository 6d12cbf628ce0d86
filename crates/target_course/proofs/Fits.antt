-- The messages that a target plans fit, where those that it is to repeat do.
use Rattle.std.specs.Prelude.{◌+◌, ◌-◌, ◌==◌, ◌&&◌, not, length, Bool, true, false, Option, Some, None, is_some, nat_lt}
use Rattle.std.specs.Prelude.{if◌then◌else◌}
use Rattle.bus_trace.specs.LineSet.{LineSet}
use Rattle.bus_trace.specs.Phases.{is_message_out, is_message_in, changes_phase}
use Rattle.bus_trace.specs.declared.agreements.Agreement.{Agreement}
use Rattle.bus_trace.specs.declared.agreements.TheConstants.{UNLIMITED_OFFSET}
use Rattle.msg_grammar.specs.declared.message.MsgIn.TheVariants as to_initiator
use Rattle.scenario.specs.declared.value.TargetDef.{TargetDef}
use Rattle.scenario.specs.declared.value.Policy.{Policy}
use Rattle.scenario.specs.declared.value.Policy.TheVariants as policies
use Rattle.due_model.specs.dialogue_model.specs.declared.exchange.Cause.{Cause}
use Rattle.due_model.specs.dialogue_model.specs.declared.exchange.Cause.TheVariants as causes
use Rattle.due_model.specs.dialogue_model.specs.declared.exchange.Next.{Next}
use Rattle.due_model.specs.dialogue_model.specs.declared.exchange.Next.TheVariants as nexts
use Rattle.due_model.specs.dialogue_model.specs.declared.exchange.Phase.{Phase}
use Rattle.due_model.specs.dialogue_model.specs.declared.exchange.Phase.TheVariants as phases
use Rattle.due_model.specs.dialogue_model.specs.declared.exchange.Arrival.{Arrival}
use Rattle.due_model.specs.dialogue_model.specs.declared.exchange.Arrival.TheVariants as arrivals
use Rattle.due_model.specs.dialogue_model.specs.declared.exchange.Leaving.{Leaving}
use Rattle.due_model.specs.dialogue_model.specs.declared.exchange.Task.{Task}
use Rattle.due_model.specs.dialogue_model.specs.declared.exchange.Plan.{Plan}
use Rattle.due_model.specs.dialogue_model.specs.declared.exchange.Hearing.{Hearing}
use Rattle.due_model.specs.dialogue_model.specs.Exchange.{one_message, plan_anew, plan_anew_if, plan_after_message}
use Rattle.due_model.specs.dialogue_model.specs.Exchange.{struck_plan, from_byte, message_bytes}
use Rattle.due_model.specs.dialogue_model.specs.Planning.{plan_in_message_out, plan_in_phase, plan_with_byte}
use Rattle.due_model.specs.dialogue_model.specs.Planning.{plan_after}
use Rattle.due_model.specs.dialogue_model.specs.Words.{target_answer, reply_to, request_by, is_naming}
use Rattle.due_model.specs.dialogue_model.specs.Arrivals.{policy_of}
use Rattle.due_model.specs.dialogue_model.specs.DataRuns.{runs_in_all}
use Rattle.due_model.specs.dialogue_model.specs.NextPhase.{Serving, phase_of, bus_free, phase_entry, with_task}
use Rattle.due_model.specs.dialogue_model.specs.NextPhase.{recovery}
use Rattle.due_model.specs.dialogue_model.specs.NextPhase.{recovery_limit, pointer_restoration, next_data_phase}
use Rattle.due_model.specs.dialogue_model.specs.NextPhase.{request_or_command, after_offer, message_repetition}
use Rattle.due_model.specs.dialogue_model.specs.NextPhase.{after_refusal, message_out_leaving, after_messages}
use Rattle.due_model.specs.dialogue_model.specs.NextPhase.{disconnection, after_arrival, command_leaving}
use Rattle.due_model.specs.dialogue_model.specs.NextPhase.{disconnect_messages, after_run, data_in_leaving}
use Rattle.due_model.specs.dialogue_model.specs.NextPhase.{data_out_leaving, unless_attention, phase_leaving}
use Rattle.due_model.specs.dialogue_model.specs.NextPhase.{leaving_by}
use Rattle.target_course.specs.Fits.{FitsIf, AreFit}

-- Either of two.
either : (q : Bool) (a b : Leaving) → AreFit a.messages → AreFit b.messages → AreFit (if q then a else b).messages
either true a b x y = x
either false a b x y = y

-- Of a process, if there is one.
of_task : (t : Option Task) (f : Task → Leaving) → ((x : Task) → AreFit (f x).messages)
    → AreFit (with_task t f).messages
of_task None f g = record { first = tt; second = tt }
of_task (Some t) f g = g t

-- ---- how phases are left

entry_fits : (p : Phase) → AreFit (phase_entry p).messages
entry_fits p = record { first = tt; second = tt }

free_fits : AreFit bus_free.messages
free_fits = record { first = tt; second = tt }

restoration_fits : (n : Next) → AreFit (pointer_restoration n).messages
restoration_fits n = record { first = tt; second = tt }

recovery_fits : (def : Option TargetDef) (t : Task) (again gives_up : Leaving) → AreFit again.messages
    → AreFit gives_up.messages → AreFit (recovery def t again gives_up).messages
recovery_fits def t again gives_up x y = either t.in_hold again
    (if nat_lt t.recoveries (recovery_limit def) then record again { counts = true } else gives_up) x
    (either (nat_lt t.recoveries (recovery_limit def)) (record again { counts = true }) gives_up x y)

reply_fits : (def : Option TargetDef) (offer : Agreement) → FitsIf (Some (reply_to def offer))
reply_fits def offer = go (offer.offset == UNLIMITED_OFFSET)
  where
    go : (q : Bool) → FitsIf (Some (if q then to_initiator.Reject else to_initiator.Sdtr (target_answer def offer)))
    go true = tt
    go false = tt

request_fits : (def : Option TargetDef) → AreFit (request_or_command (request_by def)).messages
request_fits None = entry_fits phases.Command
request_fits (Some t) = go (t.begins && nat_lt 0 t.period)
  where
    go : (q : Bool) → AreFit (request_or_command
        (if q then Some (to_initiator.Sdtr (record { period = t.period; offset = t.offset })) else None)).messages
    go true = record { first = tt; second = tt }
    go false = entry_fits phases.Command

offer_fits : (def : Option TargetDef) (negotiates : Bool) (offer : Option Agreement)
    → AreFit (after_offer def negotiates offer).messages
offer_fits def negotiates (Some offer) = record { first = reply_fits def offer; second = tt }
offer_fits def negotiates None = either negotiates (request_or_command (request_by def)) (phase_entry phases.Command)
    (request_fits def) (entry_fits phases.Command)

refusal_fits : (v : Serving) → AreFit v.plan.messages → AreFit (after_refusal v).messages
refusal_fits v x = either (is_some v.plan.said.offer) (phase_entry phases.Command)
    (if is_naming v.plan.messages.first then message_repetition v.plan
    else with_task v.task (λ t. recovery v.def t (message_repetition v.plan) bus_free))
    (entry_fits phases.Command) (either (is_naming v.plan.messages.first) (message_repetition v.plan)
    (with_task v.task (λ t. recovery v.def t (message_repetition v.plan) bus_free)) x
    (of_task v.task (λ t. recovery v.def t (message_repetition v.plan) bus_free)
    (λ t. recovery_fits v.def t (message_repetition v.plan) bus_free x free_fits)))

restores_fit : (v : Serving) (n : Next) (gives_up : Leaving) → AreFit gives_up.messages
    → AreFit (with_task v.task (λ t. recovery v.def t (pointer_restoration n) gives_up)).messages
restores_fit v n gives_up x = of_task v.task (λ t. recovery v.def t (pointer_restoration n) gives_up)
    (λ t. recovery_fits v.def t (pointer_restoration n) gives_up (restoration_fits n) x)

message_out_fits : (v : Serving) (c : Cause) → AreFit v.plan.messages → AreFit (message_out_leaving v c).messages
message_out_fits v causes.Selected x = either (is_some v.plan.said.aborts) bus_free
    (after_offer v.def v.plan.negotiates v.plan.said.offer) free_fits
    (offer_fits v.def v.plan.negotiates v.plan.said.offer)
message_out_fits v causes.InMessage x = refusal_fits v x
message_out_fits v causes.InData x = restores_fit v nexts.GoOn (phase_entry phases.Status) (entry_fits phases.Status)
message_out_fits v causes.InStatus x = restores_fit v nexts.Status bus_free free_fits

messages_fit : (v : Serving) (n : Next) → AreFit (after_messages v n).messages
messages_fit v nexts.Command = entry_fits phases.Command
messages_fit v nexts.Status = entry_fits phases.Status
messages_fit v nexts.GoOn = of_task v.task (λ t. phase_entry (next_data_phase (policy_of v.def) t t.runs))
    (λ t. entry_fits (next_data_phase (policy_of v.def) t t.runs))
messages_fit v nexts.FreeBus = free_fits

arrival_fits : (def : Option TargetDef) (t : Task) (a : Arrival) → AreFit (after_arrival def t a).messages
arrival_fits def t arrivals.Refused = entry_fits phases.Status
arrival_fits def t arrivals.Guest = entry_fits (next_data_phase (policy_of def) t t.runs)
arrival_fits def t arrivals.AtOnce = entry_fits (next_data_phase (policy_of def) t t.runs)
arrival_fits def t arrivals.Queued = record { first = tt; second = tt }

disconnect_fits : (p : Policy) → AreFit (disconnect_messages p)
disconnect_fits policies.Never = record { first = tt; second = tt }
disconnect_fits policies.Command = record { first = tt; second = tt }
disconnect_fits (policies.Burst most) = record { first = tt; second = tt }
disconnect_fits (policies.NoSave most) = record { first = tt; second = tt }

run_fits : (p : Policy) (t : Task) → AreFit (after_run p t).messages
run_fits p t = either (nat_lt (t.runs + 1) (runs_in_all p t)) (disconnection (disconnect_messages p))
    (phase_entry phases.Status) (disconnect_fits p) (entry_fits phases.Status)

attention_fits : (attention : Bool) (l : Leaving) → AreFit l.messages → AreFit (unless_attention attention l).messages
attention_fits attention l x = either attention (phase_entry phases.MessageOut) l (entry_fits phases.MessageOut) x

command_fits : (v : Serving) (a : Arrival) → AreFit (command_leaving v a).messages
command_fits v a = go v.task
  where
    again : Task → Leaving
    again t = recovery v.def t (pointer_restoration nexts.Command) (phase_entry phases.Status)

    go : (x : Option Task) → AreFit (with_task x
        (λ t. if v.plan.struck then recovery v.def t (pointer_restoration nexts.Command) (phase_entry phases.Status)
        else after_arrival v.def t a)).messages
    go None = free_fits
    go (Some t) = either v.plan.struck (again t) (after_arrival v.def t a)
        (recovery_fits v.def t (pointer_restoration nexts.Command) (phase_entry phases.Status)
        (restoration_fits nexts.Command) (entry_fits phases.Status)) (arrival_fits v.def t a)

data_out_fits : (v : Serving) → AreFit (data_out_leaving v).messages
data_out_fits v = go v.task
  where
    again : Task → Leaving
    again t = recovery v.def t (pointer_restoration nexts.GoOn) (phase_entry phases.Status)

    go : (x : Option Task) → AreFit (with_task x
        (λ t. if v.plan.struck then recovery v.def t (pointer_restoration nexts.GoOn) (phase_entry phases.Status)
        else after_run (policy_of v.def) t)).messages
    go None = free_fits
    go (Some t) = either v.plan.struck (again t) (after_run (policy_of v.def) t)
        (recovery_fits v.def t (pointer_restoration nexts.GoOn) (phase_entry phases.Status)
        (restoration_fits nexts.GoOn) (entry_fits phases.Status)) (run_fits (policy_of v.def) t)

phase_fits : (v : Serving) (attention : Bool) (p : Phase) → AreFit v.plan.messages
    → AreFit (phase_leaving v attention p).messages
phase_fits v attention phases.MessageOut x = message_out_fits v v.plan.cause x
phase_fits v attention phases.MessageIn x =
    attention_fits attention (after_messages v v.plan.next) (messages_fit v v.plan.next)
phase_fits v attention phases.Command x = command_fits v v.arrival
phase_fits v attention phases.DataIn x = attention_fits attention (data_in_leaving v)
    (of_task v.task (λ t. after_run (policy_of v.def) t) (λ t. run_fits (policy_of v.def) t))
phase_fits v attention phases.DataOut x = data_out_fits v
phase_fits v attention phases.Status x = attention_fits attention
    (disconnection (one_message to_initiator.CommandComplete)) (record { first = tt; second = tt })

pub leaving_fits : (v : Serving) (begun : Bool) (bus : LineSet) → AreFit v.plan.messages
    → AreFit (leaving_by v begun bus).messages
leaving_fits v begun bus x = either begun (phase_leaving v bus.atn (phase_of bus)) (phase_entry phases.MessageOut)
    (phase_fits v bus.atn (phase_of bus) x) (entry_fits phases.MessageOut)

-- ---- what it plans

pub plan_fits : (w : Hearing) (l : Leaving) (p : Plan) → AreFit p.messages → AreFit l.messages
    → AreFit (plan_after w l p).messages
plan_fits w l p x y = go (changes_phase w.change) w.crosses (w.fault && not w.change.before.io)
  where
    begun_anew : (q : Bool) → AreFit (if q then from_byte p.messages (w.offered - 1) else p.messages)
    begun_anew true = place (nat_lt (w.offered - 1) (length (message_bytes p.messages.first)))
      where
        place : (q : Bool) → AreFit (if q then p.messages else record { first = p.messages.second; second = None })
        place true = x
        place false = record { first = x.second; second = tt }
    begun_anew false = x

    in_out : (q : Bool) → AreFit (if q then plan_in_message_out w p else plan_anew p).messages
    in_out true = begun_anew (is_message_in w.change.before)
    in_out false = x

    in_phase : (q : Bool) → AreFit (if not q then record (plan_anew p) { messages = l.messages; next = l.next }
        else if w.begun then plan_in_message_out w p else plan_anew p).messages
    in_phase true = in_out w.begun
    in_phase false = y

    anew : (q : Bool) → AreFit (plan_anew_if q p).messages
    anew true = x
    anew false = x

    byte : (q : Bool) → AreFit (if q then plan_after_message p w.is_last w.out else p).messages
    byte true = anew w.is_last
    byte false = x

    go : (q r t : Bool) → AreFit
        (if q then plan_in_phase w l p else if r then plan_with_byte w p else if t then struck_plan p else p).messages
    go true r t = in_phase (is_message_out w.change.after)
    go false true t = byte (is_message_out w.change.before)
    go false false true = x
    go false false false = x
