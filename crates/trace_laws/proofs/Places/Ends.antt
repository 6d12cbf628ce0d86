-- A row with which a connection ends: its process is disconnected, has ended, or is lost, or an abort drops processes
-- (6.1.1, 6.6).
use Rattle.trace_laws.proofs
use proofs.Names.{inl, inr, ℕ, ◌≡◌, ◌⊎◌, Bool, true, false, ◌∙◌, List, [], ◌∷◌, Option, Some, None, refl, sym, ap}
use proofs.Names.{subst, true≢false, if◌then◌else◌, is_some, wrong, AbortKind, Event, ProcId, rises, Row, Connection}
use proofs.Names.{MsgIn, ScenarioValue, AbortDef, Process, same_id, IsSound, HasSeats, has_ended, Array, settled_array}
use proofs.Names.{RowReading, row_reading, item_loss_events, abort_line_at, abort_line_events, item_abort_events}
use proofs.Names.{bus_free_events, connection_events, link_events, row_events_by, Item, process, abort, Link}
use proofs.Names.{LastMessage, plain, complete, disconnect, abortive, one_message, phase_of, Cause, Messages, Next}
use proofs.Names.{Phase, Plan, RunState, bus_of, process_item, process_served, array_after_events, is_command_phase}
use proofs.Names.{id_is as ids_are, self_id, is_served_by, is_out_phase, is_status, is_data_phase, by_bool, lost_is}
use proofs.Names.{leaves, rests_after, untouched_after, AreWithin, IsUntouched, IsAtRest, Closes, completes}
use proofs.{Names.{disconnects, PlacedBefore, PlacedAsked, PlacedIn, PlacedIf, HasPlaces}, Places.Events.{Passes}}
use proofs.Places.{Events.{passes_same, passes_step}, Turned.{other_id}}
use Rattle.due_model.specs.array_model.proofs.SoundArrays.{id_is}
use Rattle.due_model.specs.array_model.specs.Steps

-- ---- what is asked of it

-- The initiator knows its process; in MESSAGE IN the bus is freed after DISCONNECT, or COMMAND COMPLETE, which was
-- taken; and else the process is lost.
pub record IsEndAsked (k : RunState) (l : Link) (a : Array) : Type 0 where
  pub named : (id : ProcId) → k.served ≡ Some (process id) → l.item ≡ Some (process id)
  pub next : (id : ProcId) → k.served ≡ Some (process id) → phase_of (bus_of k) ≡ Phase.MessageIn
      → k.exchange.plan.next ≡ Next.FreeBus
  pub closing : (id : ProcId) → k.served ≡ Some (process id) → phase_of (bus_of k) ≡ Phase.MessageIn
      → (l.last ≡ complete) ⊎ (l.last ≡ disconnect)
  pub taken : (id : ProcId) → k.served ≡ Some (process id) → phase_of (bus_of k) ≡ Phase.MessageIn
      → k.exchange.plan.messages ≡ one_message MsgIn.CommandComplete → has_ended a id ≡ true
  pub lost : (id : ProcId) → k.served ≡ Some (process id) → (phase_of (bus_of k) ≡ Phase.MessageIn → ⊥) → l.last ≡ plain

-- ---- what stands then

-- Every process is at rest.
pub record HasFreed (s : ScenarioValue) (k : RunState) (row : Row) (a : Array) : Type 0 where
  pub next : Array
  pub next_is : array_after_events s k.array (row_events_by s k.story (row_reading k.story.bus_state row) row)
      ≡ Some next
  pub sound : IsSound s next
  pub within : AreWithin next.units
  pub untouched : (id : ProcId) → is_served_by k.served id ≡ false → IsUntouched a id → IsUntouched next id
  pub rests : (id : ProcId) → IsAtRest next id

pub free_shown : (s : ScenarioValue) (k : RunState) (row : Row) (l : Link) → k.story.link ≡ Some l
    → (row_reading k.story.bus_state row).change.after.rst ≡ false → (row_reading k.story.bus_state row).next ≡ None
    → row_events_by s k.story (row_reading k.story.bus_state row) row ≡ bus_free_events s l l.last
free_shown s k row l link calm none =
    let d : RowReading = row_reading k.story.bus_state row in
    (λ i. if calm i then (if rises d.change.own.rst d.change.next.rst then Event.Reset row.dev ∷ [] else [])
    else link_events s k.story (link i) d)
    ∙ (λ i. if is_some (none i) then connection_events s k.story l d else bus_free_events s l l.last)

-- ---- of a process

open_before : (a : Array) (c : Process) (m : Messages) (next : Next) → PlacedBefore a c m next
    → has_ended a c.id ≡ false
open_before a c m Next.Command h = h.open_is
open_before a c m Next.GoOn h = h.open_is
open_before a c m Next.Status h = h.open_is
open_before a c m Next.FreeBus (completes e h) = h.open_is
open_before a c m Next.FreeBus (disconnects e h o q) = o

open_asked : (a : Array) (c : Process) (plan : Plan) (cause : Cause) → PlacedAsked a c plan cause
    → has_ended a c.id ≡ false
open_asked a c plan Cause.InMessage h = open_before a c plan.messages plan.next h
open_asked a c plan _ h = h.open_is

-- Whether or not it is known, by its number.
all_rest : (s : ScenarioValue) (a b : Array) (id : ProcId) → Passes s a b id
    → ((other : ProcId) → same_id id other ≡ false → IsAtRest a other) → IsAtRest b id
    → (other : ProcId) → IsAtRest b other
all_rest s a b id passes rests own other =
    by_bool (same_id id other)
    (λ e. subst (λ (x : ProcId). IsAtRest b x) (ids_are id other e) own)
    (λ e. passes.rests other e (rests other e))

served_other : (x id : ProcId) → same_id x id ≡ false → is_served_by (Some (process x)) id ≡ false
served_other x id e =
    by_bool (is_served_by (Some (process x)) id)
    (λ z. wrong (sym (ap (λ (y : ProcId). same_id x y) (ids_are id x z) ∙ self_id x) ∙ e))
    (λ z. z)

-- Nothing is shown, or an abort.
data IsQuietOrAbort (xs : List Event) : Type 0 where
  quiet_end : xs ≡ [] → IsQuietOrAbort xs
  aborts_some : (i t u : ℕ) (what : AbortKind) → xs ≡ Event.Aborted i t u what ∷ [] → IsQuietOrAbort xs

abbrev is_abort : Option Item → Bool
is_abort (Some (abort m)) = true
is_abort _ = false

-- ---- the row

pub end_row : (s : ScenarioValue) (k : RunState) (row : Row) (n : Connection) (l : Link) (h : HasPlaces s k)
    → HasSeats s → k.story.bus_state.connection ≡ Some n → (bus_of k).rst ≡ false → k.exchange.begun ≡ true
    → (row_reading k.story.bus_state row).change.after.rst ≡ false → (row_reading k.story.bus_state row).next ≡ None
    → k.story.link ≡ Some l → (l.item ≡ k.served) ⊎ (l.item ≡ None) → IsEndAsked k l h.array → HasFreed s k row h.array
end_row s k row n l h seats con off begun calm none link item asked = by_served k.served refl
  where
    a : Array
    a = h.array

    shown : row_events_by s k.story (row_reading k.story.bus_state row) row ≡ bus_free_events s l l.last
    shown = free_shown s k row l link calm none

    -- the events of this process
    made : (c : Process) (b : Array) (xs : List Event) → k.served ≡ Some (process c.id)
        → row_events_by s k.story (row_reading k.story.bus_state row) row ≡ xs
        → array_after_events s (Some a) xs ≡ Some b → Passes s a b c.id → IsAtRest b c.id → HasFreed s k row a
    made c b xs e f is passes own = record {
      next = b;
      next_is = (λ i. array_after_events s (h.array_is i) (f i)) ∙ is;
      sound = passes.sound;
      within = passes.within;
      untouched =
          λ id z x. passes.untouched id (other_id c.id id (ap (λ (y : Option Item). is_served_by y id) (sym e) ∙ z)) x;
      rests = all_rest s a b c.id passes
          (λ other z. h.rests other (ap (λ (y : Option Item). is_served_by y other) e ∙ served_other c.id other z)) own;
    }

    of_process : (c : Process) → k.served ≡ Some (process c.id) → process_served s k ≡ Some c → HasFreed s k row a
    of_process c e here = by (phase_of (bus_of k)) refl place
      where
        place : PlacedIn a c k.exchange.plan k.handshakes (bus_of k).atn (phase_of (bus_of k))
        place = subst (λ (x : Bool). PlacedIf x a c k.exchange.plan k.handshakes (bus_of k).atn (phase_of (bus_of k)))
            begun (h.placed n con off c here)

        quiet : (l.last ≡ complete) ⊎ (l.last ≡ disconnect)
            → row_events_by s k.story (row_reading k.story.bus_state row) row ≡ []
        quiet (inl z) = shown ∙ ap (bus_free_events s l) z
        quiet (inr z) = shown ∙ ap (bus_free_events s l) z

        stays : phase_of (bus_of k) ≡ Phase.MessageIn → IsAtRest a c.id → HasFreed s k row a
        stays f r = made c a [] e (quiet (asked.closing c.id e f)) refl (passes_same s a c.id h.sound h.within) r

        closes : phase_of (bus_of k) ≡ Phase.MessageIn → Closes a c k.exchange.plan.messages → HasFreed s k row a
        closes f (completes z o) = wrong (sym (asked.taken c.id e f z) ∙ o.open_is)
        closes f (disconnects z r o q) = stays f r

        loses : (phase_of (bus_of k) ≡ Phase.MessageIn → ⊥) → has_ended a c.id ≡ false → HasFreed s k row a
        loses f o =
            let b : Array = settled_array (Steps.array_without a c.id) in
            let is = lost_is s a c.id o in
            made c b (Event.Lost c.id ∷ []) e
            (shown ∙ ap (bus_free_events s l) (asked.lost c.id e f) ∙ ap item_loss_events (asked.named c.id e)) is
            (passes_step s a b (Event.Lost c.id) c.id seats h.sound h.within (λ other z. z) is) (leaves a c.id).rests

        by : (x : Phase) → phase_of (bus_of k) ≡ x → PlacedIn a c k.exchange.plan k.handshakes (bus_of k).atn x
            → HasFreed s k row a
        by Phase.MessageIn f (inl z) =
            closes f (subst (λ (y : Next). PlacedBefore a c k.exchange.plan.messages y) (asked.next c.id e f) z)
        by Phase.MessageIn f (inr z) = stays f z.rests
        by Phase.MessageOut f z =
            loses (λ y. wrong (ap is_out_phase (sym f ∙ y))) (open_asked a c k.exchange.plan k.exchange.plan.cause z)
        by Phase.Command f z = loses (λ y. wrong (ap is_command_phase (sym f ∙ y))) z.open_is
        by Phase.Status f z = loses (λ y. wrong (ap is_status (sym f ∙ y))) z.open_is
        by Phase.DataIn f z = loses (λ y. wrong (ap is_data_phase (sym f ∙ y))) z.open_is
        by Phase.DataOut f z = loses (λ y. wrong (ap is_data_phase (sym f ∙ y))) z.open_is

    -- of no process, or of an abort
    rests_all : process_served s k ≡ None → ((id : ProcId) → is_served_by k.served id ≡ false) → (xs : List Event)
        → row_events_by s k.story (row_reading k.story.bus_state row) row ≡ xs → IsQuietOrAbort xs → HasFreed s k row a
    rests_all none_served alone xs f (quiet_end z) = record {
      next = a;
      next_is = λ x. array_after_events s (h.array_is x) ((f ∙ z) x);
      sound = h.sound;
      within = h.within;
      untouched = λ id y w. w;
      rests = λ id. h.rests id (alone id);
    }
    rests_all none_served alone xs f (aborts_some i t u what z) =
        let event : Event = Event.Aborted i t u what in
        let b : Array = settled_array (Steps.abort_step s a i t u what) in
        let passes : (id : ProcId) → Passes s a b id = λ id. passes_step s a b event id seats h.sound h.within
        (λ other y. refl) refl in
        record {
          next = b;
          next_is = λ x. array_after_events s (h.array_is x) ((f ∙ z) x);
          sound = (passes (record { command = 0; sense = false })).sound;
          within = (passes (record { command = 0; sense = false })).within;
          untouched = λ id y w. untouched_after s a b event id refl refl w;
          rests = λ id. rests_after s a b event id refl refl (h.rests id (alone id));
        }

    free_is : (x : Option Item) → ((id : ProcId) → x ≡ Some (process id) → ⊥) → (last : LastMessage)
        → IsQuietOrAbort (bus_free_events s (record l { item = x }) last)
    free_is x f plain = loss x f
      where
        loss : (y : Option Item) → ((id : ProcId) → y ≡ Some (process id) → ⊥) → IsQuietOrAbort (item_loss_events y)
        loss None g = quiet_end refl
        loss (Some (process id)) g = absurd (g id refl)
        loss (Some (abort m)) g = quiet_end refl
    free_is x f complete = quiet_end refl
    free_is x f disconnect = quiet_end refl
    free_is x f abortive = drops x f
      where
        line : (o : Option AbortDef) → IsQuietOrAbort (abort_line_events o)
        line None = quiet_end refl
        line (Some d) = aborts_some d.host d.target d.unit d.what refl

        drops : (y : Option Item) → ((id : ProcId) → y ≡ Some (process id) → ⊥) → IsQuietOrAbort (item_abort_events s y)
        drops None g = quiet_end refl
        drops (Some (process id)) g = quiet_end refl
        drops (Some (abort m)) g = line (abort_line_at s.aborts m)

    alone_item : (x : Option Item) → k.served ≡ x
        → ((id : ProcId) → x ≡ Some (process id) → ⊥) → (id : ProcId) → l.item ≡ Some (process id) → ⊥
    alone_item x e f id z = elim item [ inl y ↦ f id (sym e ∙ sym y ∙ z) | inr y ↦ some_none (sym z ∙ y) ]
      where
        some_none : Some (process id) ≡ (let o : Option Item = None in o) → ⊥
        some_none y = cc

    of_none : (x : Option Item) → k.served ≡ x → process_served s k ≡ None
        → ((id : ProcId) → is_served_by x id ≡ false) → ((id : ProcId) → x ≡ Some (process id) → ⊥) → HasFreed s k row a
    of_none x e none_here alone f = rests_all none_here (λ id. ap (λ (y : Option Item). is_served_by y id) e ∙ alone id)
        (bus_free_events s l l.last) shown (free_is l.item (alone_item x e f) l.last)

    by_served : (x : Option Item) → k.served ≡ x → HasFreed s k row a
    by_served None e = of_none None e (ap (process_item s) e) (λ id. refl) (λ id z. none_item id z)
      where
        none_item : (id : ProcId) → (let o : Option Item = None in o) ≡ Some (process id) → ⊥
        none_item id z = cc
    by_served (Some (abort m)) e =
        of_none (Some (abort m)) e (ap (process_item s) e) (λ id. refl) (λ id z. abort_item id z)
      where
        abort_item : (id : ProcId) → Some (abort m) ≡ Some (process id) → ⊥
        abort_item id z = true≢false (ap is_abort z)
    by_served (Some (process id)) e =
        let c = h.of_scenario id e in
        let own : c.0.id ≡ id = id_is s id c.0 c.1 in
        of_process c.0 (e ∙ ap (λ (y : ProcId). Some (process y)) (sym own)) (ap (process_item s) e ∙ c.1)
