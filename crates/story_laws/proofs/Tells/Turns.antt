-- A phase is left for another: the events of a process that its initiator knows are those that its target shows.
use Rattle.story_laws.proofs
use proofs.Names.{ℕ, ◌≡◌, Bool, true, false, not, ◌&&◌, ◌∙◌, [], ◌∷◌, Option, Some, refl, sym, ap, subst, list_any}
use proofs.Names.{if◌then◌else◌, is_some, wrong, wrong', Event, ProcId, LineSet, Change, Connection, has_group_len}
use proofs.Names.{PARITY_ERROR, INITIATOR_DETECTED_ERROR, ScenarioValue, array_after, array_step, reply_in, Process}
use proofs.Names.{process_of, Array, carried_id, CarriedBytes, is_whole_block, is_status_phase, is_refuse, queue_event}
use proofs.Names.{queue_events, status_event, phase_events, process, Story, task_not, recovery_not, policy_of}
use proofs.Names.{arrival_event, arrival_events, reply_events, newest_with, is_status_next, has_replied, turn_events}
use proofs.Names.{Serving, phase_of, phase_leaving, leaving_by, bus_free, phase_entry, with_task, recovery}
use proofs.Names.{message_repetition, after_refusal, is_naming, Arrival, Cause, Leaving, Next, Phase, Plan}
use proofs.Names.{target_def_of, RunState, bus_of, or_start, array_of, process_item, process_served, carried_here}
use proofs.Names.{arrival_at, serving_of, leaving, arrival_if, task_of, task_if, command_is, is_command_phase}
use proofs.{Names.{process_id, is_marked, AreRepliesShown, FailsIn}, Tells.Events.{arrives, with_status, command_reply}}
use proofs.Tells.Events.{whole_block}
use Rattle.row_laws.specs.link_laws.proofs.LeavingWays as ways

-- ---- the lines of a phase

pub status_lines : (b : LineSet) → is_status_next (Some (phase_of b)) ≡ is_status_phase b
status_lines b = go b.msg b.cd b.io
  where
    go : (m d i : Bool) → is_status_next (Some (if m then (if i then Phase.MessageIn else Phase.MessageOut)
        else if d then (if i then Phase.Status else Phase.Command) else if i then Phase.DataIn else Phase.DataOut))
        ≡ (not m && d && i)
    go true d true = refl
    go true d false = refl
    go false true true = refl
    go false true false = refl
    go false false true = refl
    go false false false = refl

-- ---- MESSAGE OUT is left for STATUS only where the initiator has detected an error in data (6.6.10)

abbrev to_status : Leaving → Bool
to_status l = is_status_next l.to

pub refused : (v : Serving) → to_status (after_refusal v) ≡ false
refused v = go (is_some v.plan.said.offer) (is_naming v.plan.messages.first)
  where
    go : (q r : Bool)
        → to_status
        (if q then phase_entry Phase.Command else if r then message_repetition v.plan else with_task v.task
        (λ t. recovery v.def t (message_repetition v.plan) bus_free)) ≡ false
    go true r = refl
    go false true = refl
    go false false = task_not v.task _ (λ t. recovery_not v.def t (message_repetition v.plan) bus_free refl refl)

rejected : {v : Serving} {attention : Bool} {l : Leaving} → ways.Leaves v attention Phase.MessageOut l
    → to_status l ≡ true → v.plan.cause ≡ Cause.InData
rejected (ways.gives_up _ _ (ways.data_in c)) e = c
rejected (ways.moves_none _ _ g _) e = elim g [ ]
rejected (ways.ends_runs _ _ m _) e = elim m [ ]
rejected _ e = wrong' e

-- ---- the event of the first STATUS phase

pub reply_told : (v : Serving) (attention : Bool) (phase : Phase) (id : ProcId) (c : CarriedBytes) → c.id ≡ id
    → FailsIn v.plan attention c phase → is_status_next (phase_leaving v attention phase).to ≡ true
    → is_marked c ≡ false → reply_events id v.plan v.arrival phase
    ≡ (if list_any (λ e. is_refuse e) (arrival_events id v.plan v.arrival phase) then []
    else status_event c.id c.failure ∷ [])
reply_told v attention Phase.Command id c same fails st new = command_reply id v.plan v.arrival c same fails.1
reply_told v attention Phase.DataOut id c same fails st new =
    go v.plan.struck ∙ (λ i. status_event (sym same i) (sym fails i) ∷ [])
  where
    go : (q : Bool) → (if q then Event.Fail id PARITY_ERROR ∷ [] else Event.Run id ∷ [])
        ≡ status_event id (Rattle.row_laws.specs.Tells.code_if q PARITY_ERROR) ∷ []
    go true = refl
    go false = refl
reply_told v true Phase.DataIn id c same fails st new = wrong' st
reply_told v false Phase.DataIn id c same fails st new = λ i. status_event (sym same i) (sym (fails refl) i) ∷ []
reply_told v attention Phase.MessageOut id c same fails st new =
    let e : v.plan.cause ≡ Cause.InData = rejected (ways.leaves v attention Phase.MessageOut) st in
    let code : c.failure ≡ Some INITIATOR_DETECTED_ERROR = subst (Rattle.row_laws.specs.Tells.FailsAsked c) e fails in
    ap (λ (x : Cause). Rattle.due_model.specs.dialogue_model.specs.Events.detected_events x id) e ∙
    (λ i. status_event (sym same i) (sym code i) ∷ [])
reply_told v true Phase.MessageIn id c same fails st new = wrong' st
reply_told v false Phase.MessageIn id c same fails st new = go v.plan.next (fails refl) st
  where
    go : (next : Next) → Rattle.row_laws.specs.Tells.FailsBefore c next
        → is_status_next (Rattle.due_model.specs.dialogue_model.specs.NextPhase.after_messages v next).to ≡ true
        → Event.Run id ∷ [] ≡ status_event c.id c.failure ∷ []
    go Next.Command f z = wrong' z
    go Next.FreeBus f z = wrong' z
    go Next.Status f z = wrong (sym f ∙ new)
    go Next.GoOn f z = λ i. status_event (sym same i) (sym f i) ∷ []
reply_told v true Phase.Status id c same fails st new = wrong' st
reply_told v false Phase.Status id c same fails st new = wrong' st

-- ---- the command arrives

arrived_told : (s : ScenarioValue) (b : Story) (c : CarriedBytes) (before : LineSet)
    (id : ProcId) (plan : Plan) (arrival : Arrival) (attention : Bool) (phase : Phase)
    → phase_of before ≡ phase → FailsIn plan attention c phase → (phase ≡ Phase.Command
    → (queue_event s b.history c.id ≡ arrival_event id arrival) × (plan.struck ≡ false → has_group_len c.block ≡ true))
    → queue_events s b (Some c) before ≡ arrival_events id plan arrival phase
arrived_told s b c before id plan arrival attention phase e fails h =
    ap (λ (q : Bool). if q && is_whole_block c then queue_event s b.history c.id ∷ [] else [])
    (command_is before ∙ ap is_command_phase e) ∙ go phase fails h
  where
    struck_or : (q : Bool) → (if not q then queue_event s b.history c.id ∷ [] else [])
        ≡ (if q then [] else queue_event s b.history c.id ∷ [])
    struck_or true = refl
    struck_or false = refl

    go : (f : Phase) → FailsIn plan attention c f
        → (f ≡ Phase.Command → (queue_event s b.history c.id ≡ arrival_event id arrival)
        × (plan.struck ≡ false → has_group_len c.block ≡ true))
        → (if is_command_phase f && is_whole_block c then queue_event s b.history c.id ∷ [] else [])
        ≡ arrival_events id plan arrival f
    go Phase.Command w g =
        let x = g refl in
        ap (λ (q : Bool). if q then queue_event s b.history c.id ∷ [] else []) (whole_block c plan.struck w.0 x.1)
        ∙ struck_or plan.struck ∙ (λ i. if plan.struck then [] else x.0 i ∷ [])
    go _ w g = refl

-- What becomes of it as the plain disk array has room.
queue_told : (s : ScenarioValue) (k : RunState) (dev : ℕ) (id : ProcId) (c : Process) (a : Array)
    → process_served s k ≡ Some c → process_of s id ≡ Some c
    → k.array ≡ Some a → array_after s k.story.history ≡ k.array
    → queue_event s k.story.history id ≡ arrival_event id (arrival_at s k dev Phase.Command)
queue_told s k dev id c a served of some plays =
    (λ i. if is_some (array_step s (Event.Accept id) ((plays ∙ some) i)) then Event.Accept id else Event.Refuse id)
    ∙ arrives s id (policy_of (target_def_of s dev)) a c of
    ∙ (λ i. arrival_event id (arrival_if (policy_of (target_def_of s dev)) (or_start s (sym some i)) (sym served i)))

-- ---- the phase is left

pub turn_told : (s : ScenarioValue) (k : RunState) (n : Connection) (c : Change) (id : ProcId) (t : Process) (a : Array)
    → bus_of k ≡ c.before → k.served ≡ Some (process id) → process_of s id ≡ Some t → k.array ≡ Some a
    → array_after s k.story.history ≡ k.array → AreRepliesShown s k → k.exchange.begun ≡ true
    → FailsIn k.exchange.plan (bus_of k).atn (carried_here k id) (phase_of (bus_of k))
    → (phase_of (bus_of k) ≡ Phase.Command → k.exchange.plan.struck ≡ false
    → has_group_len (carried_here k id).block ≡ true) → (leaving s k n.target).to ≡ Some (phase_of c.after)
    → turn_events (serving_of s k n.target) (bus_of k).atn (phase_of (bus_of k)) id
    ≡ phase_events s k.story (Some (carried_here k id)) c
turn_told s k n c id t a on served of some plays shown begun fails group to =
    (λ i. newest_with (if status i && not (replied i) then reply_events id v.plan v.arrival phase else [])
    (arrival_events id v.plan v.arrival phase))
    ∙ with_status own (is_status_phase c.after)
    (arrival_events id v.plan v.arrival phase) (reply_events id v.plan v.arrival phase)
    (λ q new. reply_told v (bus_of k).atn phase id own same fails (status ∙ q) new)
    ∙ (λ i.
    if is_status_phase c.after && not own.shown && not own.refused && not (list_any (λ e. is_refuse e) (sym arrived i))
    then status_event own.id own.failure ∷ sym arrived i else sym arrived i)
  where
    v : Serving
    v = serving_of s k n.target

    phase : Phase
    phase = phase_of (bus_of k)

    own : CarriedBytes
    own = carried_here k id

    same : own.id ≡ id
    same = carried_id k.story.carried id

    here : process_served s k ≡ Some t
    here = ap (process_item s) served ∙ of

    status : is_status_next (phase_leaving v (bus_of k).atn phase).to ≡ is_status_phase c.after
    status = ap (λ (l : Leaving). is_status_next l.to) (λ i. leaving_by v (sym begun i) (bus_of k))
        ∙ ap is_status_next to ∙ status_lines c.after

    replied : has_replied (task_of s k) ≡ is_marked own
    replied = ap (λ (o : Option Process). has_replied (task_if s k o)) here
        ∙ ap (λ (x : ProcId). is_some (reply_in (array_of s k).replies x)) (process_id s id t of) ∙ shown id

    arrived : queue_events s k.story (Some own) c.before ≡ arrival_events id v.plan v.arrival phase
    arrived = arrived_told s k.story own c.before id v.plan v.arrival (bus_of k).atn phase (ap phase_of (sym on)) fails
        (λ e. (
          ap (queue_event s k.story.history) same ∙ queue_told s k n.target id t a here of some plays
              ∙ ap (λ (f : Phase). arrival_event id (arrival_at s k n.target f)) (sym e),
          group e,
        ))
