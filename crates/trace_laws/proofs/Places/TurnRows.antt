-- A row with which another phase begins: the plain disk array permits what it shows, and the process that is served
-- stands where the phase says.
use Rattle.trace_laws.proofs
use proofs.Names.{inl, ℕ, ◌≡◌, Bool, true, false, not, ◌&&◌, ◌||◌, ◌∙◌, List, [], ◌∷◌, Option, Some, None, refl, sym}
use proofs.Names.{ap, subst, true≢false, list_any, ◌-◌, if◌then◌else◌, is_some, wrong', Event, ProcId, rises}
use proofs.Names.{changes_phase, is_message_out, receiver_in, Row, Change, Connection, Handshakes, MsgIn, ScenarioValue}
use proofs.Names.{reply_in, array_after, Reply, Process, process_of, IsSound, HasSeats, Array, carried_id, row_reading}
use proofs.Names.{CarriedBytes, is_whole_block, carried_if, is_refuse, queue_event, status_event, status_events}
use proofs.Names.{phase_events, link_events, row_events_by, Item, process, abort, Link, policy_of, plan_anew}
use proofs.Names.{one_message, from_byte, Serving, phase_of, phase_leaving, leaving_by, plan_in_phase}
use proofs.Names.{plan_in_message_out, Cause, Hearing, Leaving, Next, Phase, Plan, Task, target_def_of, RunState}
use proofs.Names.{array_of, or_start, bus_of, process_item, process_served, carried_here, run_state_after}
use proofs.Names.{array_after_events, serving_of, arrival_at, leaving, task_of, task_if, arrival_if, is_command_phase}
use proofs.Names.{reading_is, is_served_by, is_out_phase, IsRowIn, reading_in, none_some, is_status, AreWithin}
use proofs.Names.{IsUntouched, IsAtRest, IsOutside, PlacedBefore, PlacedAsked, PlacedIn, PlacedIf, HasPlaces}
use proofs.Places.{Commands.{command_shown, command_turns}, Events.{Turned, status_events_are, queue_events_are}}
use proofs.Places.{Leavings.{HasOneRun}, Turns.{OutOf, PlacedNext, Standing, IsLeft, reply_shown, turns}}
use proofs.Places.Turns.{command_not_out}
use Rattle.due_model.specs.array_model.proofs.SoundArrays.{id_is}

-- ---- what a row shows where another phase begins

pub shown_is : (s : ScenarioValue) (k : RunState) (row : Row) (n : Connection) (c : Change) (l : Link)
    → IsRowIn k row n c → changes_phase c ≡ true → is_some (receiver_in n c) ≡ false → k.story.link ≡ Some l
    → row_events_by s k.story (row_reading k.story.bus_state row) row
    ≡ phase_events s k.story (carried_if k.story l.item) c
shown_is s k row n c l r ep none link = (λ i. row_events_by s k.story (reading_is k row n c false r none i) row)
    ∙ (λ i. if r.calm i then (if rises c.own.rst c.next.rst
    then Rattle.due_model.specs.bus_base.specs.declared.Event.TheVariants.Reset row.dev ∷ [] else [])
    else link_events s k.story (link i) (reading_in k.story.bus_state n c false))
    ∙ ap (λ (q : Bool). if q then phase_events s k.story (carried_if k.story l.item) c
    else (if Rattle.due_model.specs.story_model.specs.HistoryEvents.is_completion l c
    then Rattle.due_model.specs.story_model.specs.HistoryEvents.end_events (carried_if k.story l.item) else [])) ep

-- Of a process.
marks_gone : (x m : Bool) (y : Bool) (a b : List Event) → m ≡ false
    → (if x && not m && y then a else b) ≡ (if x && y then a else b)
marks_gone x m y a b e = ap (λ (z : Bool). if x && not z && y then a else b) e ∙ go x y
  where
    go : (u w : Bool) → (if u && not false && w then a else b) ≡ (if u && w then a else b)
    go true true = refl
    go true false = refl
    go false w = refl

none_refused : (x m : Bool) (a b : List Event)
    → (if x && not m && not (list_any (λ e. is_refuse e) []) then a else b) ≡ (if x && not m then a else b)
none_refused true true a b = refl
none_refused true false a b = refl
none_refused false m a b = refl

-- Where another phase than COMMAND is left, and where COMMAND is.
pub other_shown : (s : ScenarioValue) (k : RunState) (c : Change) (id : ProcId)
    → is_command_phase (phase_of c.before) ≡ false
    → phase_events s k.story (Some (carried_here k id)) c ≡ reply_shown id (carried_here k id).failure
    ((carried_here k id).shown || (carried_here k id).refused) (phase_of c.after)
other_shown s k c id e =
    let cb : CarriedBytes = carried_here k id in
    (λ i. status_events (Some cb) c.after ((queue_events_are s k.story cb c.before
    ∙ ap (λ (q : Bool). if q && is_whole_block cb then queue_event s k.story.history cb.id ∷ [] else []) e) i))
    ∙ status_events_are cb c.after []
    ∙ none_refused (is_status (phase_of c.after)) (cb.shown || cb.refused) (status_event cb.id cb.failure ∷ []) []
    ∙ (λ i. reply_shown (carried_id k.story.carried id i) cb.failure (cb.shown || cb.refused) (phase_of c.after))

command_is_shown : (s : ScenarioValue) (k : RunState) (c : Change) (id : ProcId)
    → is_command_phase (phase_of c.before) ≡ true → ((carried_here k id).shown || (carried_here k id).refused) ≡ false
    → phase_events s k.story (Some (carried_here k id)) c ≡ command_shown s k.story.history id
    (carried_here k id).failure (is_whole_block (carried_here k id)) (phase_of c.after)
command_is_shown s k c id e f =
    let cb : CarriedBytes = carried_here k id in
    let arrived : List Event = if is_whole_block cb then queue_event s k.story.history cb.id ∷ [] else [] in
    (λ i. status_events (Some cb) c.after ((queue_events_are s k.story cb c.before
    ∙ ap (λ (q : Bool). if q && is_whole_block cb then queue_event s k.story.history cb.id ∷ [] else []) e) i))
    ∙ status_events_are cb c.after arrived ∙ marks_gone (is_status (phase_of c.after)) (cb.shown || cb.refused)
    (not (list_any (λ x. is_refuse x) arrived)) (status_event cb.id cb.failure ∷ arrived) arrived f
    ∙ (λ i. command_shown s k.story.history (carried_id k.story.carried id i) cb.failure (is_whole_block cb)
    (phase_of c.after))

-- ---- what is asked of it

-- What the rows tell of the process that is served is what its target knows: whether it was answered, and whether a
-- byte of COMMAND was struck.
pub record TellsOf (s : ScenarioValue) (k : RunState) (id : ProcId) : Type 0 where
  pub replies : is_some (reply_in (array_of s k).replies id)
      ≡ ((carried_here k id).shown || (carried_here k id).refused)
  pub whole : phase_of (bus_of k) ≡ Phase.Command → is_whole_block (carried_here k id) ≡ not k.exchange.plan.struck
  pub code : phase_of (bus_of k) ≡ Phase.Command → k.exchange.plan.struck ≡ true
      → is_some (carried_here k id).failure ≡ true

pub record IsTurnAsked (s : ScenarioValue) (k : RunState) (n : Connection) (c : Change) (l : Link) : Type 0 where
  pub tells : k.exchange.begun ≡ true → (id : ProcId) → k.served ≡ Some (process id) → TellsOf s k id
  pub unnamed : l.item ≡ None → (is_status (phase_of c.after) ≡ false) × (is_command_phase (phase_of c.before) ≡ false)
  pub unbegun : k.exchange.begun ≡ false
      → (is_command_phase (phase_of c.before) ≡ false) × (k.exchange.plan.cause ≡ Cause.Selected)
  pub offers : phase_of (bus_of k) ≡ Phase.MessageOut → k.exchange.plan.cause ≡ Cause.InMessage
      → is_some k.exchange.plan.said.offer ≡ true → k.exchange.plan.next ≡ Next.Command
  pub few : phase_of (bus_of k) ≡ Phase.MessageIn → k.exchange.plan.messages ≡ one_message MsgIn.CommandComplete
      → k.handshakes.requests - 1 ≡ 0
  pub one_run : (t : Process) → process_served s k ≡ Some t → IsOutside (array_of s k) t
      → HasOneRun true (serving_of s k n.target)
  pub history_is : array_after s k.story.history ≡ k.array

-- ---- where the process stands after it

-- MESSAGE OUT follows a phase that has begun.
pub asked_by : (b : Array) (c : Process) (plan : Plan) (count : ℕ) (m d i : Bool) → (m ≡ true → d ≡ true)
    → OutOf b c plan count (if m then (if i then Phase.MessageIn else Phase.MessageOut)
    else if d then (if i then Phase.Status else Phase.Command) else if i then Phase.DataIn else Phase.DataOut)
    → PlacedAsked b c (record (plan_anew plan) {
      cause =
          if m && d && i then Cause.InMessage else if d then Cause.InStatus else Cause.InData;
      messages =
          if m && d && i then from_byte plan.messages (count - 1) else plan.messages;
    }) (if m && d && i then Cause.InMessage else if d then Cause.InStatus else Cause.InData)
asked_by b c plan count true true true f h = h
asked_by b c plan count true false true f h = wrong' (f refl)
asked_by b c plan count true d false f h = absurd h
asked_by b c plan count false true true f h = h
asked_by b c plan count false true false f h = absurd h
asked_by b c plan count false false true f h = h
asked_by b c plan count false false false f h = h

pub enters :
    (b : Array) (c : Process) (w : Hearing) (l : Leaving) (plan : Plan) (h : Handshakes) (atn : Bool) (x : Phase)
    → is_message_out w.change.after ≡ is_out_phase x
    → (x ≡ Phase.MessageOut → PlacedAsked b c (plan_in_phase w l plan) (plan_in_phase w l plan).cause) → (out : Type 0)
    → PlacedNext b c l out x → PlacedIn b c (plan_in_phase w l plan) h atn x
enters b c w l plan h atn Phase.MessageOut m asked out g = asked refl
enters b c w l plan h atn Phase.MessageIn m asked out g = inl (subst
    (λ (q : Bool). PlacedBefore b c (if not q then record (plan_anew plan) { messages = l.messages; next = l.next }
    else if w.begun then plan_in_message_out w plan else plan_anew plan).messages
    (if not q then record (plan_anew plan) { messages = l.messages; next = l.next }
    else if w.begun then plan_in_message_out w plan else plan_anew plan).next) (sym m) g)
enters b c w l plan h atn _ m asked out g = g

-- ---- the row

pub record RowPlaced (s : ScenarioValue) (k : RunState) (row : Row) (a : Array) : Type 0 where
  pub next : Array
  pub next_is : array_after_events s k.array (row_events_by s k.story (row_reading k.story.bus_state row) row)
      ≡ Some next
  pub sound : IsSound s next
  pub within : AreWithin next.units
  pub untouched : (id : ProcId) → is_served_by k.served id ≡ false → IsUntouched a id → IsUntouched next id
  pub rests : (id : ProcId) → is_served_by k.served id ≡ false → IsAtRest a id → IsAtRest next id
  pub placed : (c : Process) → process_served s k ≡ Some c
      → PlacedIf (run_state_after s k row).exchange.begun next c (run_state_after s k row).exchange.plan
      (run_state_after s k row).handshakes (bus_of (run_state_after s k row)).atn
      (phase_of (bus_of (run_state_after s k row)))

pub no_task : (s : ScenarioValue) (k : RunState) (c : Process) → process_served s k ≡ Some c → task_of s k ≡ None → ⊥
no_task s k c e f = some_none _ (sym (ap (λ (o : Option Process). task_if s k o) e) ∙ f)
  where
    some_none : (t : Task) → Some t ≡ (let o : Option Task = None in o) → ⊥
    some_none t z = cc

-- It is the process that is served.
pub served_id : (s : ScenarioValue) (k : RunState) (c : Process) → process_served s k ≡ Some c
    → (k.served ≡ Some (process c.id)) × (process_of s c.id ≡ Some c)
served_id s k c e = go k.served refl e
  where
    go : (x : Option Item) → k.served ≡ x → process_item s x ≡ Some c
        → (k.served ≡ Some (process c.id)) × (process_of s c.id ≡ Some c)
    go None z h = none_some c h
    go (Some (process id)) z h =
        (z ∙ ap (λ (y : ProcId). Some (process y)) (sym (id_is s id c h)), ap (process_of s) (id_is s id c h) ∙ h)
    go (Some (abort m)) z h = none_some c h

-- Of a process that is served, where a phase has begun.
pub process_turn : (s : ScenarioValue) (k : RunState) (n : Connection) (c : Change) (l : Link) (a : Array) (d : Process)
    → HasSeats s → HasPlaces s k → k.array ≡ Some a → IsSound s a → AreWithin a.units
    → PlacedIn a d k.exchange.plan k.handshakes (bus_of k).atn (phase_of (bus_of k))
    → process_served s k ≡ Some d → bus_of k ≡ c.before → k.exchange.begun ≡ true
    → (leaving s k n.target).to ≡ Some (phase_of c.after) → IsTurnAsked s k n c l
    → Turned s a d.id (phase_events s k.story (Some (carried_here k d.id)) c) (λ b. PlacedNext b d
    (leaving s k n.target) (OutOf b d k.exchange.plan k.handshakes.requests (phase_of (bus_of k))) (phase_of c.after))
process_turn s k n c l a d seats was is sound within place served on begun whereto asked =
    by_phase (phase_of (bus_of k)) refl
  where
    v : Serving
    v = serving_of s k n.target

    atn : Bool
    atn = (bus_of k).atn

    own : (k.served ≡ Some (process d.id)) × (process_of s d.id ≡ Some d)
    own = served_id s k d served

    tells : TellsOf s k d.id
    tells = asked.tells begun d.id own.0

    st : Standing s a d
    st = record { seats = seats; sound = sound; within = within; process_is = own.1 }

    array_here : array_of s k ≡ a
    array_here = ap (or_start s) is

    marked : Bool
    marked = (carried_here k d.id).shown || (carried_here k d.id).refused

    replies : is_some (reply_in a.replies d.id) ≡ marked
    replies = ap (λ (x : Array). is_some (reply_in x.replies d.id)) (sym array_here) ∙ tells.replies

    leaves : leaving s k n.target ≡ phase_leaving v atn (phase_of (bus_of k))
    leaves = ap (λ (q : Bool). leaving_by v q (bus_of k)) begun

    to : (phase_leaving v atn (phase_of (bus_of k))).to ≡ Some (phase_of c.after)
    to = ap (λ (x : Leaving). x.to) (sym leaves) ∙ whereto

    left : IsLeft a d v k.handshakes.requests (phase_of (bus_of k))
    left = record {
      one_run = λ o. asked.one_run d served (subst (λ (x : Array). IsOutside x d) (sym array_here) o);
      few = asked.few;
      offers = asked.offers;
    }

    result : (x : Phase) → phase_of (bus_of k) ≡ x
        → Turned s a d.id (phase_events s k.story (Some (carried_here k d.id)) c) (λ b. PlacedNext b d
        (phase_leaving v atn x) (OutOf b d k.exchange.plan k.handshakes.requests x) (phase_of c.after))
        → Turned s a d.id (phase_events s k.story (Some (carried_here k d.id)) c)
        (λ b. PlacedNext b d (leaving s k n.target)
        (OutOf b d k.exchange.plan k.handshakes.requests (phase_of (bus_of k))) (phase_of c.after))
    result x e t = subst
        (λ (y : Leaving). Turned s a d.id (phase_events s k.story (Some (carried_here k d.id)) c) (λ b. PlacedNext b d y
        (OutOf b d k.exchange.plan k.handshakes.requests (phase_of (bus_of k))) (phase_of c.after))) (sym leaves)
        (subst (λ (y : Phase). Turned s a d.id (phase_events s k.story (Some (carried_here k d.id)) c) (λ b. PlacedNext
        b d (phase_leaving v atn y) (OutOf b d k.exchange.plan k.handshakes.requests y) (phase_of c.after))) (sym e) t)

    before : (x : Phase) → phase_of (bus_of k) ≡ x → phase_of c.before ≡ x
    before x e = ap phase_of (sym on) ∙ e

    other : (x : Phase) → phase_of (bus_of k) ≡ x → is_command_phase x ≡ false → Turned s a d.id
        (phase_events s k.story (Some (carried_here k d.id)) c) (λ b. PlacedNext b d (leaving s k n.target)
        (OutOf b d k.exchange.plan k.handshakes.requests (phase_of (bus_of k))) (phase_of c.after))
    other x e f = result x e (subst (λ (y : List Event). Turned s a d.id y (λ b. PlacedNext b d
        (phase_leaving v atn x) (OutOf b d k.exchange.plan k.handshakes.requests x) (phase_of c.after)))
        (sym (other_shown s k c d.id (ap is_command_phase (before x e) ∙ f)))
        (turns s a d v atn k.handshakes (carried_here k d.id).failure marked x
        (phase_of c.after) st replies (subst (λ (y : Phase). IsLeft a d v k.handshakes.requests y) e left)
        (λ z. true≢false (sym (ap is_command_phase z) ∙ f))
        (subst (λ (y : Phase). PlacedIn a d k.exchange.plan k.handshakes atn y) e place)
        (ap (λ (y : Phase). (phase_leaving v atn y).to) (sym e) ∙ to)))

    in_command : phase_of (bus_of k) ≡ Phase.Command → Turned s a d.id
        (phase_events s k.story (Some (carried_here k d.id)) c) (λ b. PlacedNext b d (leaving s k n.target)
        (OutOf b d k.exchange.plan k.handshakes.requests (phase_of (bus_of k))) (phase_of c.after))
    in_command e =
        let new : IsUntouched a d.id = subst (λ (y : Phase). PlacedIn a d k.exchange.plan k.handshakes atn y) e place in
        let unmarked : marked ≡ false = sym replies ∙ ap (λ (x : Option Reply). is_some x) new.reply in
        result Phase.Command e (subst (λ (y : List Event). Turned s a d.id y
        (λ b. PlacedNext b d (phase_leaving v atn Phase.Command) ⊥ (phase_of c.after)))
        (sym (command_is_shown s k c d.id (ap is_command_phase (before Phase.Command e)) unmarked))
        (command_turns s a d v atn k.story.history (carried_here k d.id).failure (is_whole_block (carried_here k d.id))
        (phase_of c.after) st new (record {
          policy = policy_of (target_def_of s n.target);
          planned = ap (λ (y : Phase). arrival_at s k n.target y) e
              ∙ (λ i. arrival_if (policy_of (target_def_of s n.target)) (array_here i) (served i));
          task = no_task s k d served;
          history_is = asked.history_is ∙ is;
          whole_is = tells.whole e;
          code = tells.code e;
        }) (ap (λ (y : Phase). (phase_leaving v atn y).to) (sym e) ∙ to) (λ z. command_not_out v atn
        (ap (λ (y : Phase). (phase_leaving v atn y).to) (sym e) ∙ to ∙ ap (λ (y : Phase). Some y) z))))

    by_phase : (x : Phase) → phase_of (bus_of k) ≡ x → Turned s a d.id
        (phase_events s k.story (Some (carried_here k d.id)) c) (λ b. PlacedNext b d (leaving s k n.target)
        (OutOf b d k.exchange.plan k.handshakes.requests (phase_of (bus_of k))) (phase_of c.after))
    by_phase Phase.Command e = in_command e
    by_phase Phase.MessageOut e = other Phase.MessageOut e refl
    by_phase Phase.MessageIn e = other Phase.MessageIn e refl
    by_phase Phase.Status e = other Phase.Status e refl
    by_phase Phase.DataIn e = other Phase.DataIn e refl
    by_phase Phase.DataOut e = other Phase.DataOut e refl
