-- As STATUS follows a phase to the initiator, the status that the target drives with it is that of the reply: the one
-- that was given, or the one that is given with the row (6.1.5, 6.4, 7.3).
use Rattle.trace_laws.proofs
use proofs.Names.{inl, inr, ◌≡◌, ◌⊎◌, Bool, true, false, not, ◌&&◌, ◌∙◌, List, [], ◌∷◌, Option, Some, None, refl, sym}
use proofs.Names.{ap, subst, or_parts, same_Some, if◌then◌else◌, is_some, wrong, wrong', Event, ProcId, LineSet}
use proofs.Names.{changes_phase, is_command, receiver_in, Row, Change, Connection, Handshakes, ScenarioValue, reply_in}
use proofs.Names.{Reply, Process, Array, settled_array, unit_state_at, carried_id, row_reading, CarriedBytes}
use proofs.Names.{is_whole_block, is_status_phase, carried_if, queue_event, status_event, status_events, phase_events}
use proofs.Names.{row_events_by, Item, process, Link, is_status_next, Serving, phase_of, phase_entry, after_messages}
use proofs.Names.{phase_leaving, data_in_leaving, status_byte, Leaving, Next, Phase, RunState, array_of, or_start}
use proofs.Names.{process_served, carried_here, run_state, array_after_events, reply_now, status_by, task_if, task_of}
use proofs.Names.{self_id, IsRowIn, none_some, by_option, run_is, NoReplyTo, executed, reply_at, is_marked, IsTaken}
use proofs.Names.{PlacedBefore, PlacedIn, RunsOpen, PlaceFacts, AreRepliesShown, FailsIn, FailsBefore}
use proofs.{Places.TurnRows.{shown_is}, Statuses.Replies.{reply_stays}}
use Rattle.due_model.specs.array_model.specs.Steps

-- ---- the phase that is left

-- Nothing has failed the process, and it may run.
pub record RunsWell (a : Array) (t : Process) (c : CarriedBytes) : Type 0 where
  pub failure : c.failure ≡ None
  pub runs : RunsOpen a t

next_status : (v : Serving) (attention : Bool) (l : Leaving)
    → is_status_next (if attention then phase_entry Phase.MessageOut else l).to ≡ true → attention ≡ false
next_status v true l e = wrong' e
next_status v false l e = refl

before_status : (a : Array) (t : Process) (c : CarriedBytes) (v : Serving) (m : Next) → is_marked c ≡ false
    → is_status_next (after_messages v m).to ≡ true → FailsBefore c m → PlacedBefore a t v.plan.messages m
    → RunsWell a t c
before_status a t c v Next.Command open_is to f h = wrong' to
before_status a t c v Next.FreeBus open_is to f h = wrong' to
before_status a t c v Next.Status open_is to f h = wrong (sym f ∙ open_is)
before_status a t c v Next.GoOn open_is to f h = record { failure = f; runs = h }

-- STATUS follows a phase to the initiator, of a process that has no answer.
pub runs_well :
    (a : Array) (x : Process) (c : CarriedBytes) (v : Serving) (h : Handshakes) (attention : Bool) (b : LineSet)
    → b.io ≡ true → is_marked c ≡ false → is_status_next (phase_leaving v attention (phase_of b)).to ≡ true
    → FailsIn v.plan attention c (phase_of b) → PlacedIn a x v.plan h attention (phase_of b) → RunsWell a x c
runs_well a x c v h attention b io open_is = go b.msg b.cd b.io io
  where
    taken : IsTaken a x v.plan h attention → is_status_next (after_messages v v.plan.next).to ≡ true → RunsWell a x c
    taken t to = wrong' (sym (ap (λ (m : Next). is_status_next (after_messages v m).to) t.next_is) ∙ to)

    go : (m d i : Bool) → i ≡ true
        → is_status_next (phase_leaving v attention (if m then (if i then Phase.MessageIn else Phase.MessageOut)
        else if d then (if i then Phase.Status else Phase.Command) else if i then Phase.DataIn else Phase.DataOut)).to
        ≡ true
        → FailsIn v.plan attention c (if m then (if i then Phase.MessageIn else Phase.MessageOut)
        else if d then (if i then Phase.Status else Phase.Command) else if i then Phase.DataIn else Phase.DataOut)
        → PlacedIn a x v.plan h attention (if m then (if i then Phase.MessageIn else Phase.MessageOut)
        else if d then (if i then Phase.Status else Phase.Command) else if i then Phase.DataIn else Phase.DataOut)
        → RunsWell a x c
    go m d false e to f place = wrong' e
    go true d true e to f (inl place) =
        let off = next_status v attention (after_messages v v.plan.next) to in
        before_status a x c v v.plan.next open_is (sym
        (ap (λ (q : Bool). is_status_next (if q then phase_entry Phase.MessageOut else after_messages v v.plan.next).to)
        off) ∙ to) (f off) place
    go true d true e to f (inr place) =
        let off = next_status v attention (after_messages v v.plan.next) to in
        taken place (sym
        (ap (λ (q : Bool). is_status_next (if q then phase_entry Phase.MessageOut else after_messages v v.plan.next).to)
        off) ∙ to)
    go false true true e to f place = wrong' (sym (no_status attention) ∙ to)
      where
        no_status : (q : Bool) → is_status_next (phase_leaving v q Phase.Status).to ≡ false
        no_status true = refl
        no_status false = refl
    go false false true e to f place =
        record { failure = f (next_status v attention (data_in_leaving v) to); runs = place }

-- ---- its events

-- STATUS follows a phase that is not COMMAND.
shown_none : (s : ScenarioValue) (k : RunState) (c : CarriedBytes) (g : Change) → is_command g.before ≡ false
    → phase_events s k.story (Some c) g
    ≡ (if is_status_phase g.after && not c.shown && not c.refused && true then status_event c.id c.failure ∷ [] else [])
shown_none s k c g e = ap (λ (x : Bool). status_events (Some c) g.after
    (if x && is_whole_block c then queue_event s k.story.history c.id ∷ [] else [])) e

not_command : (b : LineSet) → b.io ≡ true → is_command b ≡ false
not_command b e = ap (λ (x : Bool). not b.msg && b.cd && not x) e ∙ go b.msg b.cd
  where
    go : (m d : Bool) → (not m && d && false) ≡ false
    go true d = refl
    go false true = refl
    go false false = refl

-- ---- the status that is driven

pub record Turning (s : ScenarioValue) (p : List Row) (row : Row) (n : Connection) (c : Change) (l : Link)
    (pr : Process) : Type 0 where
  pub before : PlaceFacts s p
  pub after : PlaceFacts s (row ∷ p)
  pub shown : AreRepliesShown s (run_state s p)
  pub row_is : IsRowIn (run_state s p) row n c
  pub turns : changes_phase c ≡ true
  pub silent : is_some (receiver_in n c) ≡ false
  pub link_is : (run_state s p).story.link ≡ Some l
  pub item_is : (l.item ≡ (run_state s p).served) ⊎ (l.item ≡ None)
  pub served_is : (run_state s p).served ≡ Some (process pr.id)
  pub process_is : process_served s (run_state s p) ≡ Some pr
  pub to_initiator : c.before.io ≡ true
  pub status : is_status_phase c.after ≡ true
  pub well : l.item ≡ Some (process pr.id) → is_marked (carried_here (run_state s p) pr.id) ≡ false
      → RunsWell before.array pr (carried_here (run_state s p) pr.id)
  -- a reply that was given stays
  pub kept : (reply : Reply) → reply_in (array_of s (run_state s p)).replies pr.id ≡ Some reply
      → reply_in (array_of s (run_state s (row ∷ p))).replies pr.id ≡ Some reply

pub turned_status : (s : ScenarioValue) (p : List Row) (row : Row)
    (n : Connection) (c : Change) (l : Link) (pr : Process) (reply : Reply)
    → Turning s p row n c l pr → reply_in (array_of s (run_state s (row ∷ p))).replies pr.id ≡ Some reply
    → status_byte (task_of s (run_state s p)) ≡ reply.status
turned_status s p row n c l pr reply t given =
    by_option (reply_in (array_of s k).replies pr.id)
    (λ e. byte None e ∙ sym (by_item e t.item_is))
    (λ x e. byte (Some x) e ∙ ap (λ (y : Reply). y.status) (same_Some x reply (sym (t.kept x e) ∙ given)))
  where
    k : RunState
    k = run_state s p

    j : RunState
    j = run_state s (row ∷ p)

    a : Array
    a = t.before.array

    own : CarriedBytes
    own = carried_here k pr.id

    shown : row_events_by s k.story (row_reading k.story.bus_state row) row
        ≡ phase_events s k.story (carried_if k.story l.item) c
    shown = shown_is s k row n c l t.row_is t.turns t.silent t.link_is

    byte : (o : Option Reply) → reply_in (array_of s k).replies pr.id ≡ o
        → status_byte (task_of s k) ≡ status_by (reply_now (array_of s k) pr) o
    byte o e = ap (λ (x : Option Process). status_byte (task_if s k x)) t.process_is
        ∙ ap (λ (x : Option Reply). status_by (reply_now (array_of s k) pr) x) e

    none_shown : {A : Type 0} → reply_in (array_of s k).replies pr.id ≡ None
        → row_events_by s k.story (row_reading k.story.bus_state row) row ≡ [] → A
    none_shown e z = none_some reply
        (sym e ∙ sym (reply_stays s p row t.before t.after pr.id (subst (NoReplyTo pr.id) (sym z) tt)) ∙ given)

    -- the process runs
    ran : RunsWell a pr own → row_events_by s k.story (row_reading k.story.bus_state row) row ≡ Event.Run pr.id ∷ []
        → reply.status ≡ (reply_now (array_of s k) pr).status
    ran w z = ap (λ (x : Reply). x.status)
        (sym (same_Some (reply_at a pr (unit_state_at a.units pr.target pr.unit)) reply (sym now ∙ given)))
        ∙ ap (λ (x : Array). (reply_now x pr).status) (sym (ap (or_start s) t.before.array_is))
      where
        next : Array
        next = settled_array (Steps.after_execution_at a pr (unit_state_at a.units pr.target pr.unit))

        array_is : j.array ≡ Some next
        array_is = (λ i. array_after_events s (t.before.array_is i) (z i)) ∙ run_is s a pr w.runs.runs

        now : reply_in (array_of s j).replies pr.id ≡ Some (reply_at a pr (unit_state_at a.units pr.target pr.unit))
        now = ap (λ (x : Option Array). reply_in (or_start s x).replies pr.id) array_is
            ∙ ap (λ (x : List (ProcId × Reply)). reply_in x pr.id)
            (executed a pr (unit_state_at a.units pr.target pr.unit)).replies
            ∙ ap (λ (q : Bool). if q then Some (reply_at a pr (unit_state_at a.units pr.target pr.unit))
            else reply_in a.replies pr.id) (self_id pr.id)

    runs : reply_in (array_of s k).replies pr.id ≡ None → l.item ≡ Some (process pr.id)
        → reply.status ≡ (reply_now (array_of s k) pr).status
    runs e item =
        let open_is : is_marked own ≡ false = sym (t.shown pr.id) ∙ ap (λ (o : Option Reply). is_some o) e in
        let w = t.well item open_is in
        let m = or_parts own.shown own.refused open_is in
        ran w (shown ∙ ap (λ (x : Option Item). phase_events s k.story (carried_if k.story x) c) item
        ∙ shown_none s k own c (not_command c.before t.to_initiator)
        ∙ (λ i. if t.status i && not (m.0 i) && not (m.1 i) && true
        then status_event (carried_id k.story.carried pr.id i) (w.failure i) ∷ [] else []))

    by_item : reply_in (array_of s k).replies pr.id ≡ None → (l.item ≡ k.served) ⊎ (l.item ≡ None)
        → reply.status ≡ (reply_now (array_of s k) pr).status
    by_item e (inl z) = runs e (z ∙ t.served_is)
    by_item e (inr z) =
        none_shown e (shown ∙ ap (λ (x : Option Item). phase_events s k.story (carried_if k.story x) c) z)
