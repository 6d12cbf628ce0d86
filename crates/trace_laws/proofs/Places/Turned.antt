-- A row of a connection with which another phase begins, whatever is served: what it shows is permitted.
use Rattle.trace_laws.proofs
use proofs.Names.{inl, inr, ◌≡◌, ◌⊎◌, Bool, true, false, not, ◌&&◌, ◌||◌, ◌∙◌, List, [], ◌∷◌, Option, Some, None, refl}
use proofs.Names.{sym, ap, subst, same_Some, if◌then◌else◌, is_some, wrong, wrong', Event, ProcId, LineSet}
use proofs.Names.{changes_phase, is_message_out, receiver_in, is_fault, Row, Change, Connection, ScenarioValue, Process}
use proofs.Names.{same_id, HasSeats, Array, row_reading, carried_if, phase_events, row_events_by, Item, process, abort}
use proofs.Names.{Link, Exchange, plan_anew, phase_of, plan_in_phase, plan_in_message_out, Cause, Hearing, Leaving}
use proofs.Names.{Phase, Plan, RunState, bus_of, process_item, process_served, carried_here, run_state_after}
use proofs.Names.{array_after_events, hearing_of, leaving, InConnection, in_connection, self_id, id_is as ids_are}
use proofs.Names.{is_served_by, is_out_phase, IsRowIn, reading_in, GoesOn, none_some, out_phase, plan_out, by_bool}
use proofs.{Names.{IsUntouched, PlacedAsked, PlacedIn, PlacedIf, HasPlaces}, Places.Events.{Turned, turned_none}}
use proofs.Places.TurnRows.{IsTurnAsked, RowPlaced, asked_by, enters, process_turn, other_shown, shown_is}
use proofs.Places.Turns.{OutOf, PlacedNext, reply_shown}
use Rattle.due_model.specs.array_model.proofs.SoundArrays.{id_is}

-- Another process than the one that is served.
pub other_id : (x id : ProcId) → is_served_by (Some (process x)) id ≡ false → same_id x id ≡ false
other_id x id e =
    by_bool (same_id x id)
    (λ z. wrong (sym (ap (λ (y : ProcId). is_served_by (Some (process y)) id) (ids_are x id z) ∙ self_id id) ∙ e))
    (λ z. z)

-- What a turn leaves, as what a row leaves.
pub row_turned :
    (s : ScenarioValue) (k : RunState) (row : Row) (a : Array) (c : Process) (shown : List Event) (q : Array → Type 0)
    → k.array ≡ Some a → k.served ≡ Some (process c.id) → process_served s k ≡ Some c
    → row_events_by s k.story (row_reading k.story.bus_state row) row ≡ shown → Turned s a c.id shown q
    → ((b : Array) → q b → PlacedIf (run_state_after s k row).exchange.begun b c
    (run_state_after s k row).exchange.plan (run_state_after s k row).handshakes (bus_of (run_state_after s k row)).atn
    (phase_of (bus_of (run_state_after s k row)))) → RowPlaced s k row a
row_turned s k row a c shown q is served here e t f = record {
  next = t.next;
  next_is = (λ i. array_after_events s (is i) (e i)) ∙ t.next_is;
  sound = t.passes.sound;
  within = t.passes.within;
  untouched = λ id z h. t.passes.untouched id
      (other_id c.id id (ap (λ (x : Option Item). is_served_by x id) (sym served) ∙ z)) h;
  rests =
      λ id z h. t.passes.rests id (other_id c.id id (ap (λ (x : Option Item). is_served_by x id) (sym served) ∙ z)) h;
  placed = λ y z. subst (λ (x : Process). PlacedIf (run_state_after s k row).exchange.begun t.next x
      (run_state_after s k row).exchange.plan (run_state_after s k row).handshakes
      (bus_of (run_state_after s k row)).atn (phase_of (bus_of (run_state_after s k row))))
      (same_Some c y (sym here ∙ z)) (f t.next t.holds);
}

-- Nothing is shown, and no process is served.
pub row_none : (s : ScenarioValue) (k : RunState) (row : Row) (h : HasPlaces s k)
    → row_events_by s k.story (row_reading k.story.bus_state row) row ≡ [] → process_served s k ≡ None
    → RowPlaced s k row h.array
row_none s k row h e none = record {
  next = h.array;
  next_is = (λ i. array_after_events s (h.array_is i) (e i));
  sound = h.sound;
  within = h.within;
  untouched = λ id z x. x;
  rests = λ id z x. x;
  placed = λ p z. none_some p (sym none ∙ z);
}

-- ---- the exchange after a turn

-- MESSAGE OUT begins.
out_asked : (b : Array) (t : Process) (k : RunState) (row : Row) (n : Connection) (c : Change) (l : Leaving)
    → (c.before.msg ≡ true → c.before.cd ≡ true) → is_message_out c.after ≡ true
    → k.exchange.begun ≡ true → OutOf b t k.exchange.plan k.handshakes.requests (phase_of c.before)
    → PlacedAsked b t (plan_in_phase (hearing_of k row (reading_in k.story.bus_state n c false)) l k.exchange.plan)
    (plan_in_phase (hearing_of k row (reading_in k.story.bus_state n c false)) l k.exchange.plan).cause
out_asked b t k row n c l f m g h =
    let w : Hearing = hearing_of k row (reading_in k.story.bus_state n c false) in
    let x : Plan = plan_in_message_out w k.exchange.plan in
    let is : plan_in_phase w l k.exchange.plan ≡ x =
    λ i. if not (m i) then record (plan_anew k.exchange.plan) { messages = l.messages; next = l.next }
    else if g i then x else plan_anew k.exchange.plan in
    subst (λ (y : Plan). PlacedAsked b t y y.cause) (sym is)
    (asked_by b t k.exchange.plan k.handshakes.requests c.before.msg c.before.cd c.before.io f h)

first_asked : (a : Array) (t : Process) (k : RunState) (row : Row) (n : Connection) (c : Change) (l : Leaving)
    → is_message_out c.after ≡ true → k.exchange.begun ≡ false
    → k.exchange.plan.cause ≡ Cause.Selected → IsUntouched a t.id
    → PlacedAsked a t (plan_in_phase (hearing_of k row (reading_in k.story.bus_state n c false)) l k.exchange.plan)
    (plan_in_phase (hearing_of k row (reading_in k.story.bus_state n c false)) l k.exchange.plan).cause
first_asked a t k row n c l m g cause h =
    let w : Hearing = hearing_of k row (reading_in k.story.bus_state n c false) in
    let is : plan_in_phase w l k.exchange.plan ≡ plan_anew k.exchange.plan =
    plan_out w l k.exchange.plan m g in
    subst (λ (y : Plan). PlacedAsked a t y y.cause) (sym is)
    (subst (λ (y : Cause). PlacedAsked a t (plan_anew k.exchange.plan) y) (sym cause) h)

-- ---- the row

pub turn_row :
    (s : ScenarioValue) (k : RunState) (row : Row) (n : Connection) (c : Change) (l : Link) (h : HasPlaces s k)
    → HasSeats s → GoesOn s k row n c → changes_phase c ≡ true
    → is_some (receiver_in n c) ≡ false → is_fault row.kind ≡ false → k.story.link ≡ Some l
    → (l.item ≡ k.served) ⊎ (l.item ≡ None) → (c.after.msg ≡ true → c.after.cd ≡ true)
    → (k.exchange.begun ≡ true → (leaving s k n.target).to ≡ Some (phase_of c.after)) → IsTurnAsked s k n c l
    → RowPlaced s k row h.array
turn_row s k row n c l h seats g ep none ef link item there whereto asked = by_served k.served refl
  where
    a : Array
    a = h.array

    r : IsRowIn k row n c
    r = g.row_is

    i : InConnection s k row n c true false false
    i = in_connection s k row n c true false false r ep none ef

    w : Hearing
    w = hearing_of k row (reading_in k.story.bus_state n c false)

    lv : Leaving
    lv = leaving s k n.target

    shown : row_events_by s k.story (row_reading k.story.bus_state row) row
        ≡ phase_events s k.story (carried_if k.story l.item) c
    shown = shown_is s k row n c l r ep none link

    out_is : is_message_out c.after ≡ is_out_phase (phase_of c.after)
    out_is = lines c.after.msg c.after.cd c.after.io there
      where
        lines : (m d o : Bool) → (m ≡ true → d ≡ true)
            → (m && d && not o) ≡ is_out_phase (if m then (if o then Phase.MessageIn else Phase.MessageOut)
            else if d then (if o then Phase.Status else Phase.Command) else if o then Phase.DataIn else Phase.DataOut)
        lines true true true f = refl
        lines true true false f = refl
        lines true false o f = wrong' (f refl)
        lines false true true f = refl
        lines false true false f = refl
        lines false false true f = refl
        lines false false false f = refl

    -- where it stands after the row
    after : (b : Array) (v : Process) → PlacedIn b v (plan_in_phase w lv k.exchange.plan)
        (run_state_after s k row).handshakes c.after.atn (phase_of c.after)
        → PlacedIf (run_state_after s k row).exchange.begun b v (run_state_after s k row).exchange.plan
        (run_state_after s k row).handshakes (bus_of (run_state_after s k row)).atn
        (phase_of (bus_of (run_state_after s k row)))
    after b v z = subst (λ (x : Exchange). PlacedIf x.begun b v x.plan (run_state_after s k row).handshakes
        (bus_of (run_state_after s k row)).atn (phase_of (bus_of (run_state_after s k row))))
        (sym i.exchange_is) (subst (λ (y : LineSet). PlacedIn b v (plan_in_phase w lv k.exchange.plan)
        (run_state_after s k row).handshakes y.atn (phase_of y)) (sym i.bus_is) z)

    before_lines : c.before.msg ≡ true → c.before.cd ≡ true
    before_lines e = ap (λ (b : LineSet). b.cd) (sym r.bus_is) ∙ (g.phase (ap (λ (b : LineSet). b.msg) r.bus_is ∙ e)).0

    goes_out : phase_of c.after ≡ Phase.MessageOut → is_message_out c.after ≡ true
    goes_out e = out_is ∙ ap is_out_phase e

    -- the events of a process, or none where its initiator does not know it yet
    with_item : (v : Process) → k.served ≡ Some (process v.id) → process_served s k ≡ Some v
        → (q : Array → Type 0) → Turned s a v.id (phase_events s k.story (Some (carried_here k v.id)) c) q
        → ((b : Array) → q b → PlacedIf (run_state_after s k row).exchange.begun b v
        (run_state_after s k row).exchange.plan (run_state_after s k row).handshakes
        (bus_of (run_state_after s k row)).atn (phase_of (bus_of (run_state_after s k row)))) → RowPlaced s k row a
    with_item v e here q t f = by item
      where
        by : (l.item ≡ k.served) ⊎ (l.item ≡ None) → RowPlaced s k row a
        by (inl z) = row_turned s k row a v (phase_events s k.story (Some (carried_here k v.id)) c) q h.array_is e here
            (shown ∙ ap (λ (x : Option Item). phase_events s k.story (carried_if k.story x) c) (z ∙ e)) t f
        by (inr z) =
            let u = asked.unnamed z in
            let quiet : phase_events s k.story (Some (carried_here k v.id)) c ≡ [] = other_shown s k c v.id u.1
            ∙ ap (λ (x : Bool). if x && not ((carried_here k v.id).shown || (carried_here k v.id).refused)
            then Rattle.due_model.specs.story_model.specs.HistoryEvents.status_event v.id (carried_here k v.id).failure
            ∷ [] else []) u.0 in
            row_turned s k row a v [] q h.array_is e here
            (shown ∙ ap (λ (x : Option Item). phase_events s k.story (carried_if k.story x) c) z)
            (subst (λ (x : List Event). Turned s a v.id x q) quiet t) f

    of_process : (v : Process) → k.served ≡ Some (process v.id) → process_served s k ≡ Some v
        → (y : Bool) → k.exchange.begun ≡ y → RowPlaced s k row a
    of_process v e here true b =
        let place : PlacedIn a v k.exchange.plan k.handshakes (bus_of k).atn (phase_of (bus_of k)) = subst
        (λ (x : Bool). PlacedIf x a v k.exchange.plan k.handshakes (bus_of k).atn (phase_of (bus_of k))) b
        (h.placed n r.connection_is g.calm v here) in
        with_item v e here (λ x. PlacedNext x v lv
        (OutOf x v k.exchange.plan k.handshakes.requests (phase_of (bus_of k))) (phase_of c.after))
        (process_turn s k n c l a v seats h h.array_is h.sound h.within place here r.bus_is b (whereto b) asked)
        (λ x z. after x v (enters x v w lv k.exchange.plan (run_state_after s k row).handshakes c.after.atn
        (phase_of c.after) out_is (λ o. out_asked x v k row n c lv before_lines (goes_out o) b
        (subst (λ (y : LineSet). OutOf x v k.exchange.plan k.handshakes.requests (phase_of y)) r.bus_is (subst
        (λ (y : Phase). PlacedNext x v lv (OutOf x v k.exchange.plan k.handshakes.requests (phase_of (bus_of k))) y) o
        z))) (OutOf x v k.exchange.plan k.handshakes.requests (phase_of (bus_of k))) z))
    of_process v e here false b =
        let place : IsUntouched a v.id = subst (λ (x : Bool). PlacedIf x a v k.exchange.plan k.handshakes
        (bus_of k).atn (phase_of (bus_of k))) b (h.placed n r.connection_is g.calm v here) in
        let u = asked.unbegun b in
        let m : is_message_out c.after ≡ true = ap (λ (x : Change). is_message_out x.after) (sym r.change_is)
        ∙ g.first (ap changes_phase r.change_is ∙ ep) b in
        let to : phase_of c.after ≡ Phase.MessageOut = out_phase c.after m in
        let quiet : phase_events s k.story (Some (carried_here k v.id)) c ≡ [] = other_shown s k c v.id u.0
        ∙ ap (λ (x : Phase). reply_shown v.id (carried_here k v.id).failure
        ((carried_here k v.id).shown || (carried_here k v.id).refused) x) to in
        with_item v e here (λ x. IsUntouched x v.id)
        (subst (λ (x : List Event). Turned s a v.id x (λ y. IsUntouched y v.id))
        (sym quiet) (turned_none s a v.id (λ y. IsUntouched y v.id) h.sound h.within place))
        (λ x z. after x v (subst (λ (y : Phase). PlacedIn x v (plan_in_phase w lv k.exchange.plan)
        (run_state_after s k row).handshakes c.after.atn y) (sym to) (first_asked x v k row n c lv m b u.1 z)))

    none_shown : (x : Option Item) → k.served ≡ x → carried_if k.story x ≡ None
        → row_events_by s k.story (row_reading k.story.bus_state row) row ≡ []
    none_shown x e f = shown ∙ by item
      where
        by : (l.item ≡ k.served) ⊎ (l.item ≡ None) → phase_events s k.story (carried_if k.story l.item) c ≡ []
        by (inl z) = ap (λ (y : Option Item). phase_events s k.story (carried_if k.story y) c) (z ∙ e)
            ∙ ap (λ (y : Option Rattle.due_model.specs.story_model.specs.CarriedBytes.CarriedBytes). phase_events s
            k.story y c) f
        by (inr z) = ap (λ (y : Option Item). phase_events s k.story (carried_if k.story y) c) z

    by_served : (x : Option Item) → k.served ≡ x → RowPlaced s k row a
    by_served None e = row_none s k row h (none_shown None e refl) (ap (process_item s) e)
    by_served (Some (abort m)) e = row_none s k row h (none_shown (Some (abort m)) e refl) (ap (process_item s) e)
    by_served (Some (process id)) e =
        let v = h.of_scenario id e in
        let own : v.0.id ≡ id = id_is s id v.0 v.1 in
        of_process v.0 (e ∙ ap (λ (y : ProcId). Some (process y)) (sym own))
        (ap (process_item s) e ∙ v.1) k.exchange.begun refl
