-- A row of a prompt trace is truly told: the ends of its connection show the events that the row shows.
use Rattle.story_laws.proofs
use proofs.Names.{inl, inr, ◌≡◌, ◌⊎◌, Bool, true, false, not, ◌&&◌, ◌||◌, ◌∙◌, List, [], ◌∷◌, Option, Some, None, refl}
use proofs.Names.{sym, ap, subst, if◌then◌else◌, is_some, wrong, or_true, or_false, or_other, Event, ProcId, rises}
use proofs.Names.{changes_phase, is_command, is_message_out, receiver_in, bus, Row, Change, Connection, has_group_len}
use proofs.Names.{ScenarioValue, array_after, Process, process_of, Array, RowReading, row_reading, CarriedBytes}
use proofs.Names.{is_status_phase, carried_if, phase_events, is_completion, end_events, connection_events}
use proofs.Names.{bus_free_events, link_events, row_events_by, Item, process, Link, Story, newest_with, is_status_next}
use proofs.Names.{has_replied, reply_events, turn_events, turn_events_if, connection_end_events, begun}
use proofs.Names.{message_out_leaving, Serving, phase_of, phase_leaving, leaving_by, is_naming, Cause, Phase, Task}
use proofs.Names.{is_item_named, is_opening_named, RunState, bus_of, item_of, process_item, carried_here, serving_of}
use proofs.Names.{leaving, task_of, task_if, same_events, id_of, target_events, initiator_events, events_of_ends}
use proofs.Names.{events_of_ends_in, is_true_telling, command_is, is_command_phase, AreUnits, process_id, reading_is}
use proofs.Names.{out_over, command_over, opening_named, IsOver, IsRowIn, reading_in, Speaks, LinkStage, when_selected}
use proofs.Names.{when_settling, when_turning, when_offering, when_shaking, when_pulsing, out_lines, LastIn}
use proofs.{Names.{AreRepliesShown, LastAsked, IsServed, of_process, of_abort, Tells}, Commands.Next.{out_unstruck}}
use proofs.Tells.{Ends.{goes_on, lost_told, naming_goes_on, none_heard, abort_told}, Events.{same_lists, self_events}}
use proofs.Tells.Turns.{refused, turn_told}

-- ---- the task of a process

record HasTask (s : ScenarioValue) (k : RunState) : Type 0 where
  task : Task
  task_is : task_of s k ≡ Some task

has_task : (s : ScenarioValue) (k : RunState) (id : ProcId) (c : Process) → k.served ≡ Some (process id)
    → process_of s id ≡ Some c → HasTask s k
has_task s k id c served of = record { task = _; task_is = ap (task_if s k) (ap (process_item s) served ∙ of) }

-- ---- MESSAGE OUT, as it is left

pub record IsHeard (s : ScenarioValue) (k : RunState) : Type 0 where
  pub out : is_message_out (bus_of k) ≡ true
  pub last : k.story.bus_state.dialogue.is_last ≡ true
  pub named : k.exchange.plan.cause ≡ Cause.Selected → is_item_named s k.exchange.plan.said k.served ≡ true

pub is_heard : (s : ScenarioValue) (k : RunState) (n : Connection) → AreUnits s → Speaks s k n → k.exchange.begun ≡ true
    → ((bus_of k).msg ≡ true → (bus_of k).cd ≡ true) → IsOver s k n → phase_of (bus_of k) ≡ Phase.MessageOut
    → IsHeard s k
is_heard s k n u speaks b known over e =
    let out = out_lines (bus_of k) e known in
    let last = out_over s k n out over in
    record {
      out = out;
      last = last;
      named = λ c. or_other k.exchange.plan.struck
          (is_item_named s k.exchange.plan.said k.served) (out_unstruck s k n e over)
          (sym (ap (is_opening_named s k.exchange.plan k.served) c) ∙ opening_named s k n u speaks b out last);
    }

-- ---- the initiator knows what is served, or no name was heard

abbrev pub item_is_served : RunState → Connection → Link → Type 0
item_is_served k n l = (l.item ≡ k.served) ⊎ ((n.reselected ≡ true) × (l.item ≡ None))

pub no_events : (s : ScenarioValue) (b : Story) (o : Option CarriedBytes) (c : Change) → is_command c.before ≡ false
    → is_status_phase c.after ≡ false → phase_events s b o c ≡ []
no_events s b None c e f = refl
no_events s b (Some own) c e f = (λ i. Rattle.due_model.specs.story_model.specs.HistoryEvents.status_events
    (Some own) c.after (if e i && Rattle.due_model.specs.story_model.specs.CarriedBytes.is_whole_block own
    then Rattle.due_model.specs.story_model.specs.HistoryEvents.queue_event s b.history own.id ∷ [] else []))
    ∙ (λ i. if f i && not own.shown && not own.refused && true
    then Rattle.due_model.specs.story_model.specs.HistoryEvents.status_event own.id own.failure ∷ [] else [])

pub unbegun_lines : (s : ScenarioValue) (p : List Row) (n : Connection) → LinkStage s p n → begun p ≡ false
    → is_command (bus p) ≡ false
unbegun_lines s p n (when_selected h) b = ap is_command h.linked.stands.bus_is
unbegun_lines s p n (when_settling bsy atn msg cd io y h) b = wrong (sym h.phase.begun_is ∙ b)
unbegun_lines s p n (when_turning atn x msg cd h) b = wrong (sym h.phase.begun_is ∙ b)
unbegun_lines s p n (when_offering atn msg cd y h) b = wrong (sym h.phase.begun_is ∙ b)
unbegun_lines s p n (when_shaking msg cd io req ack atn x y h) b = wrong (sym h.phase.begun_is ∙ b)
unbegun_lines s p n (when_pulsing io req ack atn x y h a) b = wrong (sym h.phase.begun_is ∙ b)

-- Before a name was heard no event is shown as a phase is left.
silent_out : (v : Serving) (attention : Bool) (phase : Phase) (id : ProcId)
    → ((phase ≡ Phase.MessageOut) × (v.plan.cause ≡ Cause.InMessage) × (is_naming v.plan.messages.first ≡ true))
    ⊎ ((phase ≡ Phase.MessageIn) × (attention ≡ true))
    → turn_events v attention phase id ≡ []
silent_out v attention phase id (inl w) = ap (λ (f : Phase). turn_events v attention f id) w.0
    ∙ ap (λ (q : Bool). newest_with
    (if q && not (has_replied v.task) then reply_events id v.plan v.arrival Phase.MessageOut else []) [])
    (ap (λ (cause : Cause). is_status_next (message_out_leaving v cause).to) w.1 ∙ refused v)
silent_out v attention phase id (inr w) = (λ i. turn_events v (w.1 i) (w.0 i) id)

pub never_ends : (v : Serving) (attention : Bool) (phase : Phase)
    → ((phase ≡ Phase.MessageOut) × (v.plan.cause ≡ Cause.InMessage) × (is_naming v.plan.messages.first ≡ true))
    ⊎ ((phase ≡ Phase.MessageIn) × (attention ≡ true))
    → goes_on (phase_leaving v attention phase) ≡ true
never_ends v attention phase (inl w) = ap (λ (f : Phase). goes_on (phase_leaving v attention f)) w.0
    ∙ ap (λ (cause : Cause). goes_on (message_out_leaving v cause)) w.1 ∙ naming_goes_on v w.2
never_ends v attention phase (inr w) = λ i. goes_on (phase_leaving v (w.1 i) (w.0 i))

-- ---- a phase that has begun is left for another

pub record Here (s : ScenarioValue) (k : RunState) (n : Connection) (l : Link) : Type 0 where
  pub units : AreUnits s
  pub speaks : Speaks s k n
  pub link_is : k.story.link ≡ Some l
  pub item_is : item_is_served k n l
  pub known : (bus_of k).msg ≡ true → (bus_of k).cd ≡ true
  pub begun : k.exchange.begun ≡ true
  pub over : IsOver s k n
  pub tells : Tells s k n
  pub shown : AreRepliesShown s k
  pub array : Array
  pub array_is : k.array ≡ Some array
  pub plays : array_after s k.story.history ≡ k.array

named_of : (s : ScenarioValue) (k : RunState) (n : Connection) (l : Link) → Here s k n l → l.item ≡ None
    → ((phase_of (bus_of k) ≡ Phase.MessageOut) × (k.exchange.plan.cause ≡ Cause.InMessage)
    × (is_naming k.exchange.plan.messages.first ≡ true))
    ⊎ ((phase_of (bus_of k) ≡ Phase.MessageIn) × ((bus_of k).atn ≡ true))
named_of s k n l h e = h.tells.naming (ap item_of h.link_is ∙ e)

group_is : (s : ScenarioValue) (k : RunState) (n : Connection) (l : Link) (id : ProcId) (c : Process)
    → Here s k n l → k.served ≡ Some (process id) → process_of s id ≡ Some c → phase_of (bus_of k) ≡ Phase.Command
    → k.exchange.plan.struck ≡ false → has_group_len (carried_here k id).block ≡ true
group_is s k n l id c h served of e f =
    subst (λ (x : ProcId). has_group_len (carried_here k x).block ≡ true) (process_id s id c of)
    (command_over s k n c (command_is (bus_of k) ∙ ap is_command_phase e) h.over (ap (process_item s) served ∙ of) f)

pub turned : (s : ScenarioValue) (k : RunState) (n : Connection) (l : Link) (c : Change)
    → Here s k n l → bus_of k ≡ c.before → (leaving s k n.target).to ≡ Some (phase_of c.after)
    → turn_events_if (serving_of s k n.target) (bus_of k).atn (phase_of (bus_of k)) (id_of k.served)
    ≡ phase_events s k.story (carried_if k.story l.item) c
turned s k n l c h on to = go h.tells.served
  where
    events_by : Option Item → List Event
    events_by item = turn_events_if (serving_of s k n.target) (bus_of k).atn (phase_of (bus_of k)) (id_of item)

    row_by : Option Item → List Event
    row_by item = phase_events s k.story (carried_if k.story item) c

    own : (id : ProcId) (t : Process) → k.served ≡ Some (process id) → process_of s id ≡ Some t → item_is_served k n l
        → events_by k.served ≡ row_by l.item
    own id t served of (inl same) =
        let item : l.item ≡ Some (process id) = same ∙ served in
        ap events_by served ∙ turn_told s k n c id t h.array on served of h.array_is h.plays h.shown h.begun
        (h.tells.failure id (ap item_of h.link_is ∙ item)) (group_is s k n l id t h served of) to
        ∙ ap row_by (sym item)
    own id t served of (inr none) = ap events_by served
        ∙ silent_out (serving_of s k n.target) (bus_of k).atn (phase_of (bus_of k)) id (named_of s k n l h none.1)
        ∙ ap row_by (sym none.1)

    go : IsServed s k n → events_by k.served ≡ row_by l.item
    go (of_process id t served of) = own id t served of h.item_is
    go (of_abort m a served line host target selected alone) = aborting h.item_is
      where
        aborting : item_is_served k n l → events_by k.served ≡ row_by l.item
        aborting (inl same) = ap events_by served ∙ ap row_by (sym (same ∙ served))
        aborting (inr none) = wrong (sym none.0 ∙ selected)

-- ---- the connection ends

pub ended : (s : ScenarioValue) (k : RunState) (n : Connection) (l : Link)
    → Here s k n l → (leaving s k n.target).to ≡ None
    → same_events (connection_end_events n k.exchange.plan (phase_of (bus_of k)) (id_of k.served))
    (bus_free_events s l l.last) ≡ true
ended s k n l h to = go h.tells.served
  where
    v : Serving
    v = serving_of s k n.target

    stops : goes_on (phase_leaving v (bus_of k).atn (phase_of (bus_of k))) ≡ false
    stops = ap goes_on (λ i. leaving_by v (sym h.begun i) (bus_of k)) ∙ ap (λ (x : Option Phase). is_some x) to

    by : Option Item → Bool
    by item = same_events (connection_end_events n k.exchange.plan (phase_of (bus_of k)) (id_of item))
        (bus_free_events s l l.last)

    own : (id : ProcId) (c : Process) → k.served ≡ Some (process id) → process_of s id ≡ Some c → item_is_served k n l
        → by k.served ≡ true
    own id c served of (inl same) =
        let task = has_task s k id c served of in
        ap by served ∙ same_lists _ _ (lost_told s v n task.task id l (bus_of k).atn (phase_of (bus_of k)) task.task_is
        (same ∙ served) (λ e. let w = is_heard s k n h.units h.speaks h.begun h.known h.over e in
        none_heard s k n id c h.speaks served of h.begun w.out w.last w.named) (h.tells.last l h.link_is) stops)
    own id c served of (inr none) =
        wrong (sym (never_ends v (bus_of k).atn (phase_of (bus_of k)) (named_of s k n l h none.1)) ∙ stops)

    go : IsServed s k n → by k.served ≡ true
    go (of_process id c served of) = own id c served of h.item_is
    go (of_abort m a served line host target selected alone) = aborting h.item_is
      where
        aborting : item_is_served k n l → by k.served ≡ true
        aborting (inr none) = wrong (sym none.0 ∙ selected)
        aborting (inl same) =
            let at = alone h.begun in
            let w = is_heard s k n h.units h.speaks h.begun h.known h.over at.0 in
            let last : LastAsked k.exchange.plan l.last Cause.Selected = subst
            (λ (x : Cause). LastAsked k.exchange.plan l.last x) at.1
            (subst (λ (x : Phase). LastIn k.exchange.plan (bus_of k).atn l.last x) at.0 (h.tells.last l h.link_is)) in
            ap by served ∙ ap (λ (f : Phase). same_events
            (connection_end_events n k.exchange.plan f None) (bus_free_events s l l.last)) at.0
            ∙ abort_told s n v l m a (same ∙ served) line host target
            (sym (ap (is_item_named s k.exchange.plan.said) served) ∙ w.named at.1) last

-- ---- a row of a connection

ends_show : (s : ScenarioValue) (k : RunState) (row : Row) (d : RowReading) (n : Connection)
    → k.story.bus_state.connection ≡ Some n → d.change.after.rst ≡ false → events_of_ends s k row d
    ≡ (if changes_phase d.change || not (is_some d.next) then target_events s k n (is_some d.next)
    else initiator_events k k.story.link d)
ends_show s k row d n con calm =
    ap (λ (q : Bool). if q then (if rises d.change.own.rst d.change.next.rst then Event.Reset row.dev ∷ [] else [])
    else events_of_ends_in s k k.story.bus_state.connection d) calm
    ∙ ap (λ (o : Option Connection). events_of_ends_in s k o d) con

pub row_shows : (s : ScenarioValue) (k : RunState) (row : Row) (d : RowReading) (l : Link)
    → k.story.link ≡ Some l → d.change.after.rst ≡ false → row_events_by s k.story d row
    ≡ (if is_some d.next then connection_events s k.story l d else bus_free_events s l l.last)
row_shows s k row d l link calm =
    ap (λ (q : Bool). if q then (if rises d.change.own.rst d.change.next.rst then Event.Reset row.dev ∷ [] else [])
    else link_events s k.story k.story.link d) calm ∙ ap (λ (o : Option Link). link_events s k.story o d) link

told_as : (s : ScenarioValue) (k : RunState) (row : Row) (d : RowReading) (x y : List Event)
    → events_of_ends s k row d ≡ x → row_events_by s k.story d row ≡ y → same_events x y ≡ true
    → is_true_telling s k row d ≡ true
told_as s k row d x y e f h = (λ i. same_events (e i) (f i)) ∙ h

pub goes_told : (s : ScenarioValue) (k : RunState) (row : Row) (n : Connection) (c : Change) (l : Link)
    → IsRowIn k row n c → k.story.link ≡ Some l
    → (changes_phase c ≡ true → (q : Bool) → k.exchange.begun ≡ q → (if not q then []
    else turn_events_if (serving_of s k n.target) (bus_of k).atn (phase_of (bus_of k)) (id_of k.served))
    ≡ phase_events s k.story (carried_if k.story l.item) c)
    → is_true_telling s k row (row_reading k.story.bus_state row) ≡ true
goes_told s k row n c l r link h =
    ap (is_true_telling s k row) (reading_is k row n c (is_some (receiver_in n c)) r refl)
    ∙ told_as s k row d (if changes_phase c then target_events s k n true else initiator_events k (Some l) d)
    (if changes_phase c then phase_events s k.story (carried_if k.story l.item) c
    else if is_completion l c then end_events (carried_if k.story l.item) else [])
    (ends_show s k row d n r.connection_is r.calm
    ∙ (λ i. if or_false (changes_phase c) i then target_events s k n true else initiator_events k (link i) d))
    (row_shows s k row d l link r.calm) (go (changes_phase c) h)
  where
    d : RowReading
    d = reading_in k.story.bus_state n c (is_some (receiver_in n c))

    go : (q : Bool) → (q ≡ true → (b : Bool) → k.exchange.begun ≡ b → (if not b then []
        else turn_events_if (serving_of s k n.target) (bus_of k).atn (phase_of (bus_of k)) (id_of k.served))
        ≡ phase_events s k.story (carried_if k.story l.item) c)
        → same_events (if q then target_events s k n true else initiator_events k (Some l) d)
        (if q then phase_events s k.story (carried_if k.story l.item) c
        else if is_completion l c then end_events (carried_if k.story l.item) else []) ≡ true
    go true f = same_lists (target_events s k n true) (phase_events s k.story (carried_if k.story l.item) c)
        (f refl k.exchange.begun refl)
    go false f = self_events (if is_completion l c then end_events (carried_if k.story l.item) else [])

pub stops_told : (s : ScenarioValue) (k : RunState) (row : Row) (n : Connection) (l : Link)
    → k.story.bus_state.connection ≡ Some n → k.story.link ≡ Some l
    → (row_reading k.story.bus_state row).change.after.rst ≡ false
    → (row_reading k.story.bus_state row).next ≡ None → k.exchange.begun ≡ true → same_events
    (connection_end_events n k.exchange.plan (phase_of (bus_of k)) (id_of k.served)) (bus_free_events s l l.last) ≡ true
    → is_true_telling s k row (row_reading k.story.bus_state row) ≡ true
stops_told s k row n l con link calm next b h = told_as s k row d (connection_end_events n k.exchange.plan
    (phase_of (bus_of k)) (id_of k.served)) (bus_free_events s l l.last) (ends_show s k row d n con calm
    ∙ (λ i. if changes_phase d.change || not (is_some (next i)) then target_events s k n (is_some (next i))
    else initiator_events k k.story.link d)
    ∙ (λ i. if or_true (changes_phase d.change) i then target_events s k n false else initiator_events k k.story.link d)
    ∙ (λ i. if not (b i) then [] else connection_end_events n k.exchange.plan (phase_of (bus_of k)) (id_of k.served)))
    (row_shows s k row d l link calm
    ∙ (λ i. if is_some (next i) then connection_events s k.story l d else bus_free_events s l l.last)) h
  where
    d : RowReading
    d = row_reading k.story.bus_state row
