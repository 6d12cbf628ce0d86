-- The reply of the process that is served, row by row.
use Rattle.std.proofs.Common.{ℕ, ◌≡◌, ◌∙◌, Bool, true, false, List, [], ◌∷◌, refl, sym, subst, Option, Some, None}
use Rattle.std.specs.Prelude.{if◌then◌else◌, not, ◌&&◌, ◌||◌, is_some, is_none}
use Rattle.std.proofs.lemmas.Bool.{and_parts}
use Rattle.bus_base.specs.declared.Event.{Event}
use Rattle.bus_base.specs.declared.Event.TheVariants as events
use Rattle.bus_base.specs.declared.ProcId.{ProcId}
use Rattle.bus_trace.specs.declared.Row.{Row}
use Rattle.bus_trace.specs.declared.connection.Connection.{Connection}
use Rattle.bus_trace.specs.Changes
use Rattle.bus_trace.specs.Phases.{changes_phase}
use Rattle.bus_trace.specs.Terms.{connection}
use Rattle.bus_trace.specs.Trace.{bus}
use Rattle.cdb_codec.specs.declared.sense.TheConstants.{PARITY_ERROR, INITIATOR_DETECTED_ERROR}
use Rattle.scenario.specs.Value.{ScenarioValue}
use Rattle.array_model.proofs.SoundArrays
use Rattle.array_model.specs.ArrayHistory.{reply_in, shows_run}
use Rattle.array_model.specs.ArrayHistory as Play
use Rattle.array_model.specs.Execution.{Reply}
use Rattle.array_model.specs.Processes.{Process, process_of}
use Rattle.array_model.specs.SoundArray.{HasSeats, IsSound}
use Rattle.array_model.specs.Steps
use Rattle.array_model.specs.Steps.{step}
use Rattle.array_model.specs.Units
use Rattle.array_model.specs.Units.{Array}
use Rattle.due_model.specs.LastingState
use Rattle.disk_unit.specs.declared.media.Plan.{Plan as UnitPlan}
use Rattle.disk_unit.specs.declared.unit.Reply.{Reply as UnitReply}
use Rattle.disk_unit.specs.Plans.{plan_of}
use Rattle.disk_unit.specs.Units.{told_of, planned_reply}
use Rattle.due_model.specs.story_model.specs.BusState.{RowReading, row_reading}
use Rattle.due_model.specs.story_model.specs.CarriedBytes.{CarriedBytes}
use Rattle.due_model.specs.story_model.specs.HistoryEvents.{carried_if, end_events, is_completion, row_events_by}
use Rattle.due_model.specs.story_model.specs.Items.{Item, process, abort}
use Rattle.due_model.specs.story_model.specs.Links.{Link}
use Rattle.due_model.specs.story_model.specs.TraceHistory.{trace_history}
use Rattle.due_model.specs.dialogue_model.specs.declared.exchange.Arrival.{Arrival}
use Rattle.due_model.specs.dialogue_model.specs.declared.exchange.Arrival.TheVariants as arrivals
use Rattle.due_model.specs.dialogue_model.specs.declared.exchange.Cause.{Cause}
use Rattle.due_model.specs.dialogue_model.specs.declared.exchange.Cause.TheVariants as causes
use Rattle.due_model.specs.dialogue_model.specs.declared.exchange.Phase.{Phase}
use Rattle.due_model.specs.dialogue_model.specs.declared.exchange.Phase.TheVariants as phases
use Rattle.due_model.specs.dialogue_model.specs.declared.exchange.Plan.{Plan}
use Rattle.due_model.specs.dialogue_model.specs.Events.{arrival_event, arrival_events, arrival_run_events}
use Rattle.due_model.specs.dialogue_model.specs.Events.{detected_events}
use Rattle.due_model.specs.dialogue_model.specs.Events.{has_replied, is_status_next, leaving_events, newest_with}
use Rattle.due_model.specs.dialogue_model.specs.Events.{reply_events}
use Rattle.due_model.specs.dialogue_model.specs.Hearing.{hearing}
use Rattle.due_model.specs.dialogue_model.specs.NextPhase.{Serving, phase_leaving, phase_of}
use Rattle.due_model.specs.Allowed.{allowed, is_allowed}
use Rattle.due_model.specs.Plain.{IsPlain}
use Rattle.due_model.specs.RunState.{RunState, array_of, bus_of, or_start, process_item, process_served}
use Rattle.due_model.specs.RunSteps.{run_state, array_after_events, served_after}
use Rattle.due_model.specs.Sights.{hearing_of, serving_of}
use Rattle.due_model.specs.Tasks.{reply_now}
use Rattle.due_model.specs.Telling.{events_of_ends, events_of_ends_in, id_of, initiator_events, is_true_telling}
use Rattle.due_model.specs.Telling.{target_events, telling}
use Rattle.due_model.proofs.SameEvents.{events_are}
use Rattle.target_units.specs.scsi_device.specs.Heard.{Instructions, heard, instructions, is_beginning, is_heard}
use Rattle.target_units.specs.scsi_device.specs.Heard.{is_heard_after, is_heard_on, is_heard_row, is_new, is_uncounted}
use Rattle.target_course.specs.Courses.{events_of_target}
use Rattle.target_course.specs.Replies.{reply_after, IsReplyOf, IsOutlookAt}
use Rattle.target_units.specs.Seated.{reply_told}
use Rattle.target_course.specs.States.{IsOwnConnection}
use Rattle.target_units.proofs.ReplySteps.{accept_same, end_replies, fail_replies, refuse_replies, run_replies}
use Rattle.bus_base.proofs.Tests.{or_second}
use Rattle.target_units.proofs.Arrivals.{arrival_replies}
use Rattle.due_model.proofs.Lookups.{none_stays}

-- ---- what a target shows as it turns to another phase

pub data Shape : Type 0 where
  nothing : Shape
  accepts : Shape
  refuses : Shape
  runs : Shape
  fails : ℕ → Shape
  accepts_and_runs : Shape

abbrev pub shown_of : ProcId → Shape → List Event
shown_of id nothing = []
shown_of id accepts = events.Accept id ∷ []
shown_of id refuses = events.Refuse id ∷ []
shown_of id runs = events.Run id ∷ []
shown_of id (fails code) = events.Fail id code ∷ []
shown_of id accepts_and_runs = events.Run id ∷ events.Accept id ∷ []

abbrev pub HasShape : ProcId → List Event → Type 0
HasShape id l = (x : Shape) × (l ≡ shown_of id x)

detected_shape : (id : ProcId) (c : Cause) → HasShape id (newest_with (detected_events c id) [])
detected_shape id causes.Selected = (runs, refl)
detected_shape id causes.InMessage = (runs, refl)
detected_shape id causes.InData = (fails INITIATOR_DETECTED_ERROR, refl)
detected_shape id causes.InStatus = (runs, refl)

arrival_shape : (id : ProcId) (a : Arrival) (c : Bool)
    → HasShape id (newest_with (if c then arrival_run_events a id else []) (arrival_event id a ∷ []))
arrival_shape id arrivals.Refused true = (refuses, refl)
arrival_shape id arrivals.Refused false = (refuses, refl)
arrival_shape id arrivals.Guest true = (accepts_and_runs, refl)
arrival_shape id arrivals.Guest false = (accepts, refl)
arrival_shape id arrivals.AtOnce true = (accepts_and_runs, refl)
arrival_shape id arrivals.AtOnce false = (accepts, refl)
arrival_shape id arrivals.Queued true = (accepts_and_runs, refl)
arrival_shape id arrivals.Queued false = (accepts, refl)

command_shape : (id : ProcId) (a : Arrival) (c struck : Bool) → HasShape id
    (newest_with (if c then (if struck then events.Fail id PARITY_ERROR ∷ [] else arrival_run_events a id) else [])
    (if struck then [] else arrival_event id a ∷ []))
command_shape id a true true = (fails PARITY_ERROR, refl)
command_shape id a false true = (nothing, refl)
command_shape id a c false = arrival_shape id a c

data_shape : (id : ProcId) (struck : Bool)
    → HasShape id (newest_with (if struck then events.Fail id PARITY_ERROR ∷ [] else events.Run id ∷ []) [])
data_shape id true = (fails PARITY_ERROR, refl)
data_shape id false = (runs, refl)

turn_shape : (id : ProcId) (plan : Plan) (a : Arrival) (phase : Phase) (c : Bool)
    → HasShape id (newest_with (if c then reply_events id plan a phase else []) (arrival_events id plan a phase))
turn_shape id plan a phases.Command c = command_shape id a c plan.struck
turn_shape id plan a phases.MessageOut true = detected_shape id plan.cause
turn_shape id plan a phases.MessageOut false = (nothing, refl)
turn_shape id plan a phases.MessageIn true = (runs, refl)
turn_shape id plan a phases.MessageIn false = (nothing, refl)
turn_shape id plan a phases.Status true = (runs, refl)
turn_shape id plan a phases.Status false = (nothing, refl)
turn_shape id plan a phases.DataIn true = (runs, refl)
turn_shape id plan a phases.DataIn false = (nothing, refl)
turn_shape id plan a phases.DataOut true = data_shape id plan.struck
turn_shape id plan a phases.DataOut false = (nothing, refl)

pub served_shape : (v : Serving) (n : Connection) (begun atn : Bool) (phase : Phase) (id : ProcId)
    → HasShape id (leaving_events v n begun true atn phase (Some id))
served_shape v n false atn phase id = (nothing, refl)
served_shape v n true atn phase id =
    turn_shape id v.plan v.arrival phase (is_status_next (phase_leaving v atn phase).to && not (has_replied v.task))

-- ---- what these events make of its reply

shape_replies : (s : ScenarioValue) (a b : Array) (p : Process) (plan : UnitPlan) (was : Option UnitReply) (x : Shape)
    → HasSeats s → IsSound s a → process_of s p.id ≡ Some p
    → array_after_events s (Some a) (shown_of p.id x) ≡ Some b → was ≡ reply_told (reply_in a.replies p.id)
    → (shows_run (shown_of p.id x) ≡ true → plan ≡ plan_of (reply_now a p) plan.out_len)
    → reply_after plan (shown_of p.id x) was ≡ reply_told (reply_in b.replies p.id)
shape_replies s a b p plan was nothing seats sound own h e r =
    let same : a ≡ b = cc in
    e ∙ (λ i. reply_told (reply_in (same i).replies p.id))
shape_replies s a b p plan was accepts seats sound own h e r =
    e ∙ (λ i. reply_told (reply_in (sym (arrival_replies s a b p.id h) i) p.id))
shape_replies s a b p plan was refuses seats sound own h e r = λ i. reply_told (sym (refuse_replies s a b p own h) i)
shape_replies s a b p plan was (fails code) seats sound own h e r =
    λ i. reply_told (sym (fail_replies s a b p.id code h) i)
shape_replies s a b p plan was runs seats sound own h e r =
    (λ i. Some (planned_reply (r refl i))) ∙ (λ i. reply_told (sym (run_replies s a b p sound own h) i))
shape_replies s a b p plan was accepts_and_runs seats sound own h e r = go (step s (events.Accept p.id) a) refl h
  where
    go : (z : Option Array) → step s (events.Accept p.id) a ≡ z → Play.array_step s (events.Run p.id) z ≡ Some b
        → Some (planned_reply plan) ≡ reply_told (reply_in b.replies p.id)
    go None f g = cc
    go (Some c) f g =
        let next : IsSound s c = SoundArrays.step_sound s a c (events.Accept p.id) seats sound f in
        (λ i. Some (planned_reply (r refl i)))
        ∙ (λ i. Some (told_of (sym (accept_same s a c p seats sound own f) i)))
        ∙ (λ i. reply_told (sym (run_replies s c b p next own g) i))

-- The end of a process makes no reply.
ends_keep : (s : ScenarioValue) (a b : Array) (k : RunState) (d : RowReading) (x : Option Link)
    → array_after_events s (Some a) (initiator_events k x d) ≡ Some b → b.replies ≡ a.replies
ends_keep s a b k d None h = let same : a ≡ b = cc in λ i. (sym same i).replies
ends_keep s a b k d (Some l) h = go (is_completion l d.change) h
  where
    by : (x : Option CarriedBytes) → array_after_events s (Some a) (end_events x) ≡ Some b → b.replies ≡ a.replies
    by None g = let same : a ≡ b = cc in λ i. (sym same i).replies
    by (Some c) g = end_replies s a b c.id _ g

    go : (y : Bool) → array_after_events s (Some a) (if y then end_events (carried_if k.story l.item) else []) ≡ Some b
        → b.replies ≡ a.replies
    go true g = by (carried_if k.story l.item) g
    go false g = let same : a ≡ b = cc in λ i. (sym same i).replies

-- ---- a row in a connection of its own

pub ends_in : (s : ScenarioValue) (k : RunState) (row : Row) (d : RowReading) (m n : Connection)
    → d.change.after.rst ≡ false → k.story.bus_state.connection ≡ Some m → d.next ≡ Some n → events_of_ends s k row d
    ≡ (if changes_phase d.change || false then target_events s k m true else initiator_events k k.story.link d)
ends_in s k row d m n r x y =
    (λ i. if r i then (if Changes.rises d.change.own.rst d.change.next.rst then events.Reset row.dev ∷ [] else [])
    else events_of_ends_in s k (x i) d)
    ∙ (λ i. if changes_phase d.change || not (is_some (y i)) then target_events s k m (is_some (y i))
    else initiator_events k k.story.link d)

pub number_is : (s : ScenarioValue) (x : Option Item) (p : Process) → process_item s x ≡ Some p
    → (id_of x ≡ Some p.id) × (process_of s p.id ≡ Some p)
number_is s None p e = absurd cc
number_is s (Some (abort m)) p e = absurd cc
number_is s (Some (process z)) p e = (λ i. Some (sym (SoundArrays.id_is s z p e) i), SoundArrays.is_own s z p e)

pub reply_goes_on : (s : ScenarioValue) (rows : List Row) (row : Row) (m : Connection)
    (dev : ℕ) (plan : UnitPlan) (shown : List Event) (was : Option UnitReply)
    → IsPlain s rows (run_state s rows) → IsPlain s (row ∷ rows) (run_state s (row ∷ rows))
    → hearing_of (run_state s rows) row (row_reading (run_state s rows).story.bus_state row) ≡ hearing rows row
    → HasSeats s → IsOwnConnection rows dev m → (bus rows).rst ≡ false → telling s (row ∷ rows) ≡ true
    → allowed s (row ∷ rows) ≡ true → shown ≡ events_of_target s rows row m → IsOutlookAt s rows shown plan
    → IsReplyOf s rows dev was → IsReplyOf s (row ∷ rows) dev (reply_after plan shown was)
reply_goes_on s rows row m dev plan shown was f q h seats own before tells allows shows outlook old n p o calm served =
    arrays k.array refl next.array refl
  where
    k : RunState
    k = run_state s rows

    next : RunState
    next = run_state s (row ∷ rows)

    d : RowReading
    d = row_reading k.story.bus_state row

    told : List Event
    told = row_events_by s k.story d row

    serves : process_served s k ≡ Some p
    serves =
        (λ i. process_item s (served_after s k (sym (f.connection ∙ own.stands) i) (sym (q.connection ∙ o.stands) i)))
        ∙ served

    number : (id_of k.served ≡ Some p.id) × (process_of s p.id ≡ Some p)
    number = number_is s k.served p serves

    is_told : events_of_ends s k row d ≡ told
    is_told =
        events_are (events_of_ends s k row d) told (and_parts (telling s rows) (is_true_telling s k row d) tells).1

    both_ends : told
        ≡ (if changes_phase d.change || false then target_events s k m true else initiator_events k k.story.link d)
    both_ends = sym is_told
        ∙ ends_in s k row d m n ((λ j. (q.bus j).rst) ∙ calm) (f.connection ∙ own.stands) (q.connection ∙ o.stands)

    -- by whether the phase changes
    rowed : (a b : Array) → IsSound s a → k.array ≡ Some a → array_after_events s (Some a) told ≡ Some b
        → (y : Bool) → changes_phase d.change ≡ y → reply_after plan shown was ≡ reply_told (reply_in b.replies p.id)
    rowed a b sound e g true z =
        let x : HasShape p.id (target_events s k m true) = subst (λ (u : Option ProcId). HasShape p.id
        (leaving_events (serving_of s k m.target) m k.exchange.begun true (bus_of k).atn (phase_of (bus_of k)) u))
        (sym number.0)
        (served_shape (serving_of s k m.target) m k.exchange.begun (bus_of k).atn (phase_of (bus_of k)) p.id) in
        let all : told ≡ shown_of p.id x.0 = both_ends
        ∙ (λ i. if z i || false then target_events s k m true else initiator_events k k.story.link d) ∙ x.1 in
        let own_shown : shown ≡ shown_of p.id x.0 = shows ∙ (λ i.
        if changes_phase (sym h i).change || not (is_some (o.stands i)) then target_events s k m (is_some (o.stands i))
        else []) ∙ (λ i. if z i || false then target_events s k m true else []) ∙ x.1 in
        let held : was ≡ reply_told (reply_in a.replies p.id) = old m p own before serves
        ∙ (λ i. reply_told (reply_in (or_start s (e i)).replies p.id)) in
        (λ i. reply_after plan (own_shown i) was)
        ∙ shape_replies s a b p plan was x.0 seats sound number.1 ((λ i. array_after_events s (Some a) (sym all i)) ∙ g)
        held (λ r. outlook p serves ((λ i. shows_run (own_shown i)) ∙ r)
        ∙ (λ i. plan_of (reply_now (or_start s (e i)) p) plan.out_len))
    rowed a b sound e g false z =
        let all : told ≡ initiator_events k k.story.link d = both_ends
        ∙ (λ i. if z i || false then target_events s k m true else initiator_events k k.story.link d) in
        let own_shown : shown ≡ [] = shows ∙ (λ i.
        if changes_phase (sym h i).change || not (is_some (o.stands i)) then target_events s k m (is_some (o.stands i))
        else []) ∙ (λ i. if z i || false then target_events s k m true else []) in
        let kept : b.replies ≡ a.replies = ends_keep s a b k d k.story.link
        ((λ i. array_after_events s (Some a) (sym all i)) ∙ g) in
        (λ i. reply_after plan (own_shown i) was) ∙ old m p own before serves
        ∙ (λ i. reply_told (reply_in (or_start s (e i)).replies p.id)) ∙ (λ i. reply_told (reply_in (sym kept i) p.id))

    permitted : is_some next.array ≡ true
    permitted = (and_parts (allowed s rows) (is_allowed s k row d) allows).1

    arrays : (x : Option Array) → k.array ≡ x → (y : Option Array) → next.array ≡ y
        → reply_after plan shown was ≡ reply_told (reply_in (array_of s next).replies p.id)
    arrays None e y g =
        let never : false ≡ true =
        sym ((λ i. is_some (array_after_events s (e i) told)) ∙ (λ i. is_some (none_stays s told i))) ∙ permitted in
        cc
    arrays (Some a) e None g = let never : false ≡ true = sym (λ i. is_some (g i)) ∙ permitted in cc
    arrays (Some a) e (Some b) g =
        rowed a b (SoundArrays.history_sound s (trace_history s rows) a seats (sym f.array ∙ e)) e
        ((λ i. array_after_events s (sym e i) told) ∙ g) (changes_phase d.change) refl
        ∙ (λ i. reply_told (reply_in (or_start s (sym g i)).replies p.id))

-- ---- a connection begins

no_reply : (s : ScenarioValue) (k : RunState) (n : Connection) (p : Process) → is_beginning s k n (Some p) ≡ true
    → is_none (reply_in (array_of s k).replies p.id) ≡ true
no_reply s k n p e = go n.reselected e
  where
    go : (y : Bool) → (if y
        then is_none (Units.guest_at (array_of s k).guests p.id) && is_none (reply_in (array_of s k).replies p.id)
        else is_new (array_of s k) p && is_uncounted (LastingState.progress_in k.progress p.id)) ≡ true
        → is_none (reply_in (array_of s k).replies p.id) ≡ true
    go true f = (and_parts (is_none (Units.guest_at (array_of s k).guests p.id))
        (is_none (reply_in (array_of s k).replies p.id)) f).1
    go false f =
        let fresh = and_parts (is_new (array_of s k) p) (is_uncounted (LastingState.progress_in k.progress p.id)) f in
        (and_parts
        (not (Steps.is_waiting (array_of s k).units p.id) && is_none (Steps.running_process (array_of s k) p.id))
        (is_none (reply_in (array_of s k).replies p.id)) fresh.0).1

pub reply_begins : (s : ScenarioValue) (rows : List Row) (row : Row) (dev : ℕ) → IsPlain s rows (run_state s rows)
    → IsPlain s (row ∷ rows) (run_state s (row ∷ rows)) → connection rows ≡ None → heard s (row ∷ rows) ≡ true
    → IsReplyOf s (row ∷ rows) dev None
reply_begins s rows row dev f q x e n p o calm served =
    let k : RunState = run_state s rows in
    let next : RunState = run_state s (row ∷ rows) in
    let d : RowReading = row_reading k.story.bus_state row in
    let i : Instructions = instructions s (row ∷ rows) in
    let last = and_parts (heard s rows) (is_heard_after s k next d i) e in
    let two = and_parts (is_heard_row s k next d) (is_heard s next d.next i) last.1 in
    let on : is_beginning s next n (process_served s next) ≡ true =
    (λ j. is_heard_on s k next d (sym (f.connection ∙ x) j) (sym (q.connection ∙ o.stands) j))
    ∙ or_second d.change.after.rst (is_heard_on s k next d k.story.bus_state.connection d.next) two.0
    ((λ j. (q.bus j).rst) ∙ calm) in
    none_told (reply_in (array_of s next).replies p.id)
    (no_reply s next n p ((λ j. is_beginning s next n (sym served j)) ∙ on))
  where
    none_told : (z : Option Reply) → is_none z ≡ true → None ≡ reply_told z
    none_told None g = refl
    none_told (Some reply) g = cc
