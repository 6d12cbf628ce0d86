-- What is asked of a row, so that its events are those that the target of its connection rests on, follows from where
-- the processes stand in the plain disk array, and from the faults that they have met.
use Rattle.trace_laws.proofs
use proofs.Names.{inl, inr, ◌≡◌, Bool, true, false, ◌∙◌, List, [], ◌∷◌, Option, Some, None, refl, sym, ap, subst, ℕ}
use proofs.Names.{same_Some, if◌then◌else◌, is_some, ProcId, LineSet, Row, Handshakes, PARITY_ERROR, ScenarioValue}
use proofs.Names.{reply_in, Reply, Process, process_of, same_id, has_ended, running_if, running_in, Array}
use proofs.Names.{RunningProcess, UnitState, guest_at, without_reply, phase_of, Cause, Messages, Next, Phase, Plan}
use proofs.Names.{run_state_plain, AreOfDevices, IsPlain, RunState, bus_of, carried_here, or_start, process_item}
use proofs.Names.{run_state, process_id, none_some, untouched_rests, begun_first, AnsweredOpen, Closes, IsAnswered}
use proofs.Names.{IsAtRest, IsAway, IsUnanswered, IsUntouched, OnGuests, OnUnits, PlaceFacts, PlacedAsked, PlacedBefore}
use proofs.Names.{PlacedIf, PlacedIn, RunsOpen, completes, disconnects, FailsAsLeft, FailsIn, AttendanceAsked}
use proofs.{Names.{BeginsUnanswered, HasReplyGiven, LeavesAnswered, RepliesGiven}, Places.Rows.{allowed_row}}

-- ---- the reply that a process has is the one that was given

pub away_guest : (guests : List RunningProcess) (id : ProcId) (r : RunningProcess) → OnGuests (IsAway id) guests
    → guest_at guests id ≡ Some r → ⊥
away_guest [] id r h e = none_some r e
away_guest (g ∷ guests) id r h e =
    away_guest guests id r h.1 (sym (ap (λ (q : Bool). if q then Some g else guest_at guests id) h.0) ∙ e)

unanswered : (given : Option Reply) (over : Bool) (units : List UnitState) (id : ProcId) (r : RunningProcess)
    → OnUnits (IsUnanswered given over id) units → running_in units id ≡ Some r → r.reply ≡ None
unanswered given over [] id r h e = none_some r e
unanswered given over (u ∷ units) id r h e = go (λ z. unanswered given over units id r h.1 z) u.current h.0.1 e
  where
    by : (running_in units id ≡ Some r → r.reply ≡ None) → (x : RunningProcess) → IsUnanswered given over id x
        → (q : Bool) → same_id x.process.id id ≡ q
        → (if is_some (if q then Some x else None) then (if q then Some x else None) else running_in units id) ≡ Some r
        → r.reply ≡ None
    by rest x w true f z = ap (λ (y : RunningProcess). y.reply) (sym (same_Some x r z)) ∙ (w f).0
    by rest x w false f z = rest z

    go : (running_in units id ≡ Some r → r.reply ≡ None) → (o : Option RunningProcess)
        → Rattle.story_laws.specs.row_laws.specs.Places.Runs (IsUnanswered given over id) o
        → (if is_some (running_if o id) then running_if o id else running_in units id) ≡ Some r → r.reply ≡ None
    go rest None w z = rest z
    go rest (Some x) w z = by rest x w (same_id x.process.id id) refl z

rests_given : (a : Array) (id : ProcId) → IsAtRest a id → HasReplyGiven a id
rests_given a id h r reply e f = go (guest_at a.guests id) refl e
  where
    go : (o : Option RunningProcess) → guest_at a.guests id ≡ o
        → (if is_some o then o else running_in a.units id) ≡ Some r → reply_in a.replies id ≡ Some reply
    go None g z = none_some reply (sym (unanswered (reply_in a.replies id) (has_ended a id) a.units id r h.units z) ∙ f)
    go (Some x) g z = absurd (away_guest a.guests id x h.guests g)

runs_given : (a : Array) (c : Process) → RunsOpen a c → HasReplyGiven a c.id
runs_given a c h r reply e f = none_some reply
    (ap (λ (y : RunningProcess). y.reply) (same_Some (without_reply c) r (sym h.runs.running_is ∙ e)) ∙ f)

answered_given : (a : Array) (id : ProcId) → AnsweredOpen a id → HasReplyGiven a id
answered_given a id h r reply e f =
    let w : IsAnswered a id = h.answered in
    let same : w.running ≡ r = same_Some w.running r (sym w.running_is ∙ e) in
    w.given ∙ sym w.reply_is ∙ ap (λ (y : RunningProcess). y.reply) same ∙ f

before_given : (a : Array) (c : Process) (m : Messages) (next : Next) → PlacedBefore a c m next → HasReplyGiven a c.id
before_given a c m Next.Command h = rests_given a c.id (untouched_rests a c.id h)
before_given a c m Next.GoOn h = runs_given a c h
before_given a c m Next.Status h = answered_given a c.id h
before_given a c m Next.FreeBus h = go h
  where
    go : Closes a c m → HasReplyGiven a c.id
    go (completes e w) = answered_given a c.id w
    go (disconnects e w open_is q) = rests_given a c.id w

asked_given : (a : Array) (c : Process) (plan : Plan) (cause : Cause) → PlacedAsked a c plan cause
    → HasReplyGiven a c.id
asked_given a c plan Cause.Selected h = rests_given a c.id (untouched_rests a c.id h)
asked_given a c plan Cause.InMessage h = before_given a c plan.messages plan.next h
asked_given a c plan Cause.InData h = runs_given a c h
asked_given a c plan Cause.InStatus h = answered_given a c.id h

placed_given : (a : Array) (c : Process) (plan : Plan) (hs : Handshakes) (atn : Bool) (phase : Phase)
    → PlacedIn a c plan hs atn phase → HasReplyGiven a c.id
placed_given a c plan hs atn Phase.MessageOut h = asked_given a c plan plan.cause h
placed_given a c plan hs atn Phase.Command h = rests_given a c.id (untouched_rests a c.id h)
placed_given a c plan hs atn Phase.Status h = answered_given a c.id h
placed_given a c plan hs atn Phase.DataIn h = runs_given a c h
placed_given a c plan hs atn Phase.DataOut h = runs_given a c h
placed_given a c plan hs atn Phase.MessageIn h =
    elim h [ inl w ↦ before_given a c plan.messages plan.next w | inr w ↦ rests_given a c.id w.rests ]

pub replies_given : (s : ScenarioValue) (p : List Row) → AreOfDevices p → PlaceFacts s p → RepliesGiven s p
replies_given s p dv h n id con calm served = subst
    (λ (o : Option Array). HasReplyGiven (or_start s o) id) (sym h.array_is)
    (subst (λ (x : ProcId). HasReplyGiven h.array x) (process_id s id of.0 of.1) (go k.exchange.begun placed))
  where
    k : RunState
    k = run_state s p

    pl : IsPlain s p k
    pl = run_state_plain s p dv

    of : (x : Process) × (process_of s id ≡ Some x)
    of = h.of_scenario id served

    placed : PlacedIf k.exchange.begun h.array of.0 k.exchange.plan k.handshakes (bus_of k).atn (phase_of (bus_of k))
    placed = h.placed n (pl.connection ∙ con) (ap (λ (l : LineSet). l.rst) pl.bus ∙ calm) of.0
        (ap (process_item s) served ∙ of.1)

    go : (b : Bool) → PlacedIf b h.array of.0 k.exchange.plan k.handshakes (bus_of k).atn (phase_of (bus_of k))
        → HasReplyGiven h.array of.0.id
    go false w = rests_given h.array of.0.id (untouched_rests h.array of.0.id w)
    go true w = placed_given h.array of.0 k.exchange.plan k.handshakes (bus_of k).atn (phase_of (bus_of k)) w

-- ---- what fails has failed as a phase is left

pub leaves_answered : (s : ScenarioValue) (p : List Row) (row : Row) → FailsAsLeft s p row → LeavesAnswered s p row
leaves_answered s p row h n id con calm off begun left item = record {
  command = λ e struck.
      let w = subst (λ (x : Phase). FailsIn k.exchange.plan (bus_of k).atn (carried_here k id) x) e fails in
      ap (λ (o : Option ℕ). is_some o)
      (w.1 ∙ ap (λ (q : Bool). Rattle.story_laws.specs.row_laws.specs.Tells.code_if q PARITY_ERROR) struck);
  message = λ e atn next. subst
      (λ (x : Next). Rattle.story_laws.specs.row_laws.specs.Tells.FailsBefore (carried_here k id) x) next
      (subst (λ (x : Phase). FailsIn k.exchange.plan (bus_of k).atn (carried_here k id) x) e fails atn);
}
  where
    k : RunState
    k = run_state s p

    fails : FailsIn k.exchange.plan (bus_of k).atn (carried_here k id) (phase_of (bus_of k))
    fails = h n id (record { stands = con; calm = calm; calm_after = off; begun = begun; leaves = inl left }) item

-- ---- as a selection begins a connection its process has no reply

pub begins_unanswered : (s : ScenarioValue) (p : List Row) (row : Row) → AreOfDevices (row ∷ p) → PlaceFacts s (row ∷ p)
    → BeginsUnanswered s p row
begins_unanswered s p row dv h n id alone e off re served = subst
    (λ (o : Option Array). reply_in (or_start s o).replies id ≡ None) (sym h.array_is)
    (ap (λ (x : ProcId). reply_in h.array.replies x) (sym (process_id s id of.0 of.1)) ∙ untouched.reply)
  where
    j : RunState
    j = run_state s (row ∷ p)

    pl : IsPlain s (row ∷ p) j
    pl = run_state_plain s (row ∷ p) dv

    of : (x : Process) × (process_of s id ≡ Some x)
    of = h.of_scenario id served

    untouched : IsUntouched h.array of.0.id
    untouched = subst (λ (b : Bool). PlacedIf b h.array of.0 j.exchange.plan j.handshakes (bus_of j).atn
        (phase_of (bus_of j))) (pl.begun ∙ begun_first p row n alone e ∙ re) (h.placed n (pl.connection ∙ e)
        (ap (λ (l : LineSet). l.rst) pl.bus ∙ off) of.0 (ap (process_item s) served ∙ of.1))

-- ---- all of it

pub attendance_asked : (s : ScenarioValue) (p : List Row) (row : Row) → AreOfDevices (row ∷ p) → PlaceFacts s p
    → PlaceFacts s (row ∷ p) → FailsAsLeft s p row → AttendanceAsked s p row
attendance_asked s p row dv places next fails = record {
  allowed = allowed_row s p row next;
  begins = begins_unanswered s p row dv next;
  leaves = leaves_answered s p row fails;
  replies = replies_given s p dv.1 places;
}
