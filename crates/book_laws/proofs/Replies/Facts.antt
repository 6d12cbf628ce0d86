-- After every history each reply that was given has its cause in it.
use Rattle.book_laws.proofs
use proofs.Names.{ℕ, ◌≡◌, Bool, true, false, List, [], ◌∷◌, ◌++◌, ◌∙◌, refl, sym, subst, Option, Some, None, not, ◌&&◌}
use proofs.Names.{◌||◌, inl, inr, ◌⊎◌, eqb-true, and_parts, and_from, or_right, or_left, cases_Bool, if◌then◌else◌}
use proofs.Names.{◌==◌, is_some, is_none, nat_lt, eq_self, AbortKind, Event, ProcId, command_of, Sense, ABORTED_COMMAND}
use proofs.Names.{GOOD, CHECK_CONDITION, QUEUE_FULL, units_of, ScenarioValue, HostDef, UnitDef, not_aborted}
use proofs.Names.{status_known, same_id_is, id_self, id_is, array_step, array_after, reply_in, Contents, Reply}
use proofs.Names.{Execution, CommandContext, execution, is_request_sense, queue_full, commands_cleared, aborted_reply}
use proofs.Names.{choice, Process, process_of, same_id, RunningProcess, UnitState, Nexus, Array, same_nexus}
use proofs.Names.{sense_of_nexus, senses_without, nexuses_without, is_held, unit_state_at, with_unit, guest_at}
use proofs.Names.{without_guest, with_current, has_no_current, units_after_choice, settled_array, starting_array}
use proofs.Names.{starting_units, nexus_of, same_event, has_event, is_refused_at, was_refused, finds_full_queue}
use proofs.Names.{has_cause}
use Rattle.due_model.specs.array_model.specs.Steps

-- ---- one of several

more : (x y z : Bool) → (not x || y) ≡ true → (not x || (z || y)) ≡ true
more false y z h = refl
more true true z h = or_right z true refl
more true false z h = cc

-- ---- what holds of the array, of this history

abbrev pub IsCaused : ScenarioValue → List Event → ProcId → Option Reply → Type 0
IsCaused s h id None = Unit {0}
IsCaused s h id (Some reply) = has_cause s h id reply ≡ true

abbrev IsCurrent : ScenarioValue → List Event → Option RunningProcess → Type 0
IsCurrent s h None = Unit {0}
IsCurrent s h (Some r) = IsCaused s h r.process.id r.reply

abbrev AreGuests : ScenarioValue → List Event → List RunningProcess → Type 0
AreGuests s h [] = Unit {0}
AreGuests s h (g ∷ guests) = IsCaused s h g.process.id g.reply × AreGuests s h guests

abbrev AreUnits : ScenarioValue → List Event → List UnitState → Type 0
AreUnits s h [] = Unit {0}
AreUnits s h (u ∷ units) = IsCurrent s h u.current × AreUnits s h units

abbrev AreReplies : ScenarioValue → List Event → List (ProcId × Reply) → Type 0
AreReplies s h [] = Unit {0}
AreReplies s h (e ∷ replies) = (has_cause s h e.0 e.1 ≡ true) × AreReplies s h replies

-- No attention has the sense key of a failure.
abbrev AreAttentions : List (Nexus × Sense) → Type 0
AreAttentions [] = Unit {0}
AreAttentions (e ∷ entries) = ((e.1.key == ABORTED_COMMAND) ≡ false) × AreAttentions entries

pub record Caused (s : ScenarioValue) (h : List Event) (a : Array) : Type 0 where
  units : AreUnits s h a.units
  guests : AreGuests s h a.guests
  replies : AreReplies s h a.replies
  attentions : AreAttentions a.attentions

-- ---- an event more

cause_more : (s : ScenarioValue) (h : List Event) (e : Event) (id : ProcId) (reply : Reply)
    → has_cause s h id reply ≡ true → has_cause s (e ∷ h) id reply ≡ true
cause_more s h e id reply f =
    let two = and_parts (not (reply.status == QUEUE_FULL) || was_refused s h id)
    (not (reply.sense.key == ABORTED_COMMAND) || has_event h (Event.Fail id reply.sense.asc)) f in
    and_from _ _ (more (reply.status == QUEUE_FULL) (was_refused s h id) (is_refused_at s h id e) two.0)
    (more (reply.sense.key == ABORTED_COMMAND) (has_event h (Event.Fail id reply.sense.asc))
    (same_event e (Event.Fail id reply.sense.asc)) two.1)

caused_more : (s : ScenarioValue) (h : List Event) (e : Event) (id : ProcId) (x : Option Reply) → IsCaused s h id x
    → IsCaused s (e ∷ h) id x
caused_more s h e id None f = tt
caused_more s h e id (Some reply) f = cause_more s h e id reply f

current_more : (s : ScenarioValue) (h : List Event) (e : Event) (x : Option RunningProcess) → IsCurrent s h x
    → IsCurrent s (e ∷ h) x
current_more s h e None f = tt
current_more s h e (Some r) f = caused_more s h e r.process.id r.reply f

guests_more : (s : ScenarioValue) (h : List Event) (e : Event) (guests : List RunningProcess) → AreGuests s h guests
    → AreGuests s (e ∷ h) guests
guests_more s h e [] f = tt
guests_more s h e (g ∷ guests) f = (caused_more s h e g.process.id g.reply f.0, guests_more s h e guests f.1)

units_more : (s : ScenarioValue) (h : List Event) (e : Event) (units : List UnitState) → AreUnits s h units
    → AreUnits s (e ∷ h) units
units_more s h e [] f = tt
units_more s h e (u ∷ units) f = (current_more s h e u.current f.0, units_more s h e units f.1)

replies_more : (s : ScenarioValue) (h : List Event) (e : Event) (replies : List (ProcId × Reply))
    → AreReplies s h replies → AreReplies s (e ∷ h) replies
replies_more s h e [] f = tt
replies_more s h e (r ∷ replies) f = (cause_more s h e r.0 r.1 f.0, replies_more s h e replies f.1)

one_more : (s : ScenarioValue) (h : List Event) (e : Event) (a : Array) → Caused s h a → Caused s (e ∷ h) a
one_more s h e a b = record {
  units = units_more s h e a.units b.units;
  guests = guests_more s h e a.guests b.guests;
  replies = replies_more s h e a.replies b.replies;
  attentions = b.attentions;
}

-- ---- lists of units

units_with : (s : ScenarioValue) (h : List Event) (units : List UnitState) (new : UnitState) → AreUnits s h units
    → IsCurrent s h new.current → AreUnits s h (with_unit units new)
units_with s h [] new b c = tt
units_with s h (u ∷ units) new b c =
    elim (cases_Bool (u.target == new.target && u.unit == new.unit)) [
      | inl e ↦ rw e (c, b.1)
      | inr e ↦ rw e (b.0, (units_with s h units new b.1 c))
    ]

unit_found : (s : ScenarioValue) (h : List Event) (units : List UnitState) (t m : ℕ) (u : UnitState)
    → AreUnits s h units → unit_state_at units t m ≡ Some u → IsCurrent s h u.current
unit_found s h [] t m u b e = cc
unit_found s h (v ∷ units) t m u b e = go (λ f. unit_found s h units t m u b.1 f) (v.target == t && v.unit == m) e
  where
    go : (unit_state_at units t m ≡ Some u → IsCurrent s h u.current) → (x : Bool)
        → (if x then Some v else unit_state_at units t m) ≡ Some u → IsCurrent s h u.current
    go later true f = let same : v ≡ u = cc in subst (λ (w : UnitState). IsCurrent s h w.current) same b.0
    go later false f = later f

units_replied : (s : ScenarioValue) (h : List Event) (units : List UnitState) (id : ProcId) (reply : Reply)
    → has_cause s h id reply ≡ true → AreUnits s h units → AreUnits s h (Steps.units_with_reply units id reply)
units_replied s h [] id reply c b = tt
units_replied s h (u ∷ units) id reply c b = (go u.current b.0, units_replied s h units id reply c b.1)
  where
    inner : (r : RunningProcess) → IsCaused s h r.process.id r.reply → (x : Bool) → same_id r.process.id id ≡ x
        → IsCurrent s h (if x then Some (record r { reply = Some reply }) else Some r)
    inner r e true z =
        subst (λ (other : ProcId). has_cause s h other reply ≡ true) (sym (same_id_is r.process.id id z)) c
    inner r e false z = e

    go : (x : Option RunningProcess) → IsCurrent s h x → IsCurrent s h (Steps.current_with_reply x id reply)
    go None e = tt
    go (Some r) e = inner r e (same_id r.process.id id) refl

units_without : (s : ScenarioValue) (h : List Event) (units : List UnitState) (id : ProcId) → AreUnits s h units
    → AreUnits s h (Steps.units_without units id)
units_without s h [] id b = tt
units_without s h (u ∷ units) id b = (go (is_some (Steps.running_if u.current id)), units_without s h units id b.1)
  where
    go : (x : Bool) → IsCurrent s h (if x then None else u.current)
    go true = tt
    go false = b.0

units_kept : (s : ScenarioValue) (h : List Event) (drops : Process → Bool) (units : List UnitState) → AreUnits s h units
    → AreUnits s h (Steps.kept_units drops units)
units_kept s h drops [] b = tt
units_kept s h drops (u ∷ units) b = (go u.current b.0, units_kept s h drops units b.1)
  where
    inner : (r : RunningProcess) → IsCaused s h r.process.id r.reply
        → (x : Bool) → IsCurrent s h (if x then None else Some r)
    inner r e true = tt
    inner r e false = e

    go : (x : Option RunningProcess) → IsCurrent s h x → IsCurrent s h (Steps.kept_running drops x)
    go None e = tt
    go (Some r) e = inner r e (drops r.process)

units_chosen : (s : ScenarioValue) (h : List Event) (holds : List Nexus) (units : List UnitState) → AreUnits s h units
    → AreUnits s h (units_after_choice holds units)
units_chosen s h holds [] b = tt
units_chosen s h holds (u ∷ units) b = (
  go (has_no_current u.current && not (is_held holds u.target u.unit)) (choice u.pick u.waiting),
  units_chosen s h holds units b.1,
)
  where
    go : (x : Bool) (c : Option Process) → IsCurrent s h (if x then with_current u c else u).current
    go true None = b.0
    go true (Some c) = tt
    go false c = b.0

-- ---- guests

guests_append : (s : ScenarioValue) (h : List Event) (guests : List RunningProcess) (g : RunningProcess)
    → AreGuests s h guests → IsCaused s h g.process.id g.reply → AreGuests s h (guests ++ g ∷ [])
guests_append s h [] g b c = (c, tt)
guests_append s h (f ∷ guests) g b c = (b.0, guests_append s h guests g b.1 c)

guests_replied : (s : ScenarioValue) (h : List Event) (guests : List RunningProcess) (id : ProcId) (reply : Reply)
    → has_cause s h id reply ≡ true → AreGuests s h guests → AreGuests s h (Steps.guests_with_reply guests id reply)
guests_replied s h [] id reply c b = tt
guests_replied s h (g ∷ guests) id reply c b =
    go (same_id g.process.id id) refl (guests_replied s h guests id reply c b.1)
  where
    go : (x : Bool) → same_id g.process.id id ≡ x → AreGuests s h (Steps.guests_with_reply guests id reply)
        → AreGuests s h
        (if x then record g { reply = Some reply } ∷ guests else g ∷ Steps.guests_with_reply guests id reply)
    go true z e =
        (subst (λ (other : ProcId). has_cause s h other reply ≡ true) (sym (same_id_is g.process.id id z)) c, b.1)
    go false z e = (b.0, e)

guests_without : (s : ScenarioValue) (h : List Event) (guests : List RunningProcess) (id : ProcId)
    → AreGuests s h guests → AreGuests s h (without_guest guests id)
guests_without s h [] id b = tt
guests_without s h (g ∷ guests) id b =
    elim (cases_Bool (same_id g.process.id id)) [
      | inl e ↦ rw e (guests_without s h guests id b.1)
      | inr e ↦ rw e (b.0, (guests_without s h guests id b.1))
    ]

guests_kept : (s : ScenarioValue) (h : List Event) (drops : Process → Bool) (guests : List RunningProcess)
    → AreGuests s h guests → AreGuests s h (Steps.kept_guests drops guests)
guests_kept s h drops [] b = tt
guests_kept s h drops (g ∷ guests) b =
    elim (cases_Bool (drops g.process)) [
      | inl e ↦ rw e (guests_kept s h drops guests b.1)
      | inr e ↦ rw e (b.0, (guests_kept s h drops guests b.1))
    ]

-- ---- attentions

attentions_without : (entries : List (Nexus × Sense)) (q : Nexus) → AreAttentions entries
    → AreAttentions (senses_without entries q)
attentions_without [] q b = tt
attentions_without (e ∷ entries) q b =
    elim (cases_Bool (same_nexus e.0 q)) [
      | inl f ↦ rw f (attentions_without entries q b.1)
      | inr f ↦ rw f (b.0, (attentions_without entries q b.1))
    ]

-- The attention that is pending is no failure.
abbrev IsAttention : Option Sense → Type 0
IsAttention None = Unit {0}
IsAttention (Some sense) = (sense.key == ABORTED_COMMAND) ≡ false

attention_at : (entries : List (Nexus × Sense)) (q : Nexus) → AreAttentions entries
    → IsAttention (sense_of_nexus entries q)
attention_at [] q b = tt
attention_at (e ∷ entries) q b =
    elim (cases_Bool (same_nexus e.0 q)) [ inl f ↦ rw f b.0 | inr f ↦ rw f (attention_at entries q b.1) ]

-- ---- a command that runs is not refused and does not fail

abbrev is_plain : Reply → Bool
is_plain reply = not (reply.status == QUEUE_FULL) && not (reply.sense.key == ABORTED_COMMAND)

plain_cause : (s : ScenarioValue) (h : List Event) (id : ProcId) (reply : Reply) → is_plain reply ≡ true
    → has_cause s h id reply ≡ true
plain_cause s h id reply e =
    let two = and_parts (not (reply.status == QUEUE_FULL)) (not (reply.sense.key == ABORTED_COMMAND)) e in
    and_from _ _ (or_left (not (reply.status == QUEUE_FULL)) (was_refused s h id) two.0)
    (or_left (not (reply.sense.key == ABORTED_COMMAND)) (has_event h (Event.Fail id reply.sense.asc)) two.1)

plain_execution : (m : CommandContext) (cdb sent : List ℕ) → IsAttention m.attention
    → is_plain (execution m cdb sent).reply ≡ true
plain_execution m cdb sent b = by (status_known m cdb sent)
  where
    plain : ((execution m cdb sent).reply.sense.key == ABORTED_COMMAND) ≡ false
    plain = not_aborted m cdb sent (λ sense e. subst IsAttention e b)

    by : ((execution m cdb sent).reply.status ≡ GOOD) ⊎ ((execution m cdb sent).reply.status ≡ CHECK_CONDITION)
        → is_plain (execution m cdb sent).reply ≡ true
    by (inl e) = λ i. not (e i == QUEUE_FULL) && not (plain i)
    by (inr e) = λ i. not (e i == QUEUE_FULL) && not (plain i)

attention_here : (a : Array) (q : Nexus) (u : Option UnitState) → AreAttentions a.attentions
    → IsAttention (Steps.context_at a q u).attention
attention_here a q None b = attention_at a.attentions q b
attention_here a q (Some u) b = attention_at a.attentions q b

-- ---- the result of a step

abbrev IsCausedIf : ScenarioValue → List Event → Option Array → Type 0
IsCausedIf s h None = Unit {0}
IsCausedIf s h (Some a) = Caused s h a

caused_if : (s : ScenarioValue) (h : List Event) (x : Bool) (a : Array) → Caused s h a
    → IsCausedIf s h (if x then Some a else None)
caused_if s h true a b = b
caused_if s h false a b = tt

guest_comes : (s : ScenarioValue) (h : List Event) (a : Array) (t : Process) (reply : Option Reply)
    → IsCaused s h t.id reply → Caused s h a → Caused s h (Steps.with_guest a t reply)
guest_comes s h a t reply c b = record {
  units = b.units;
  guests = guests_append s h a.guests (record { process = t; reply = reply }) b.guests c;
  replies = b.replies;
  attentions = b.attentions;
}

listed : (s : ScenarioValue) (h : List Event) (a : Array) (id : ProcId) (reply : Reply) → has_cause s h id reply ≡ true
    → Caused s h a → Caused s h (Steps.with_listed_reply a id reply)
listed s h a id reply c b =
    record { units = b.units; guests = b.guests; replies = (c, b.replies); attentions = b.attentions }

replied : (s : ScenarioValue) (h : List Event) (a : Array) (id : ProcId) (reply : Reply) → has_cause s h id reply ≡ true
    → Caused s h a → Caused s h (Steps.with_reply a id reply)
replied s h a id reply c b = record {
  units = units_replied s h a.units id reply c b.units;
  guests = guests_replied s h a.guests id reply c b.guests;
  replies = (c, b.replies);
  attentions = b.attentions;
}

accepted : (s : ScenarioValue) (h : List Event) (a : Array) (o : Option Process) → Caused s h a
    → IsCausedIf s h (Steps.accept_step a o)
accepted s h a None b = tt
accepted s h a (Some c) b = at (unit_state_at a.units c.target c.unit) refl
  where
    waits : (u : UnitState) → unit_state_at a.units c.target c.unit ≡ Some u
        → Caused s h (record a { units = with_unit a.units (record u { waiting = u.waiting ++ c ∷ [] }) })
    waits u z = record {
      units = units_with s h a.units (record u { waiting = u.waiting ++ c ∷ [] }) b.units
          (unit_found s h a.units c.target c.unit u b.units z);
      guests = b.guests;
      replies = b.replies;
      attentions = b.attentions;
    }

    either : (u : UnitState) → unit_state_at a.units c.target c.unit ≡ Some u
        → (x : Bool) → IsCausedIf s h (if x then Some (Steps.with_guest a c None) else Steps.queue_step a c u)
    either u z true = guest_comes s h a c None tt b
    either u z false = caused_if s h (nat_lt (Steps.process_count u) u.depth)
        (record a { units = with_unit a.units (record u { waiting = u.waiting ++ c ∷ [] }) }) (waits u z)

    at : (x : Option UnitState) → unit_state_at a.units c.target c.unit ≡ x
        → IsCausedIf s h (Steps.accept_step_at a c x)
    at None z = guest_comes s h a c None tt b
    at (Some u) z = either u z (is_request_sense (command_of c.cdb))

-- Refused: the queue is full as the event comes.
refused : (s : ScenarioValue) (h : List Event) (a : Array) (id : ProcId) → array_after s h ≡ Some a
    → Caused s (Event.Refuse id ∷ h) a → IsCausedIf s (Event.Refuse id ∷ h) (Steps.refuse_step a (process_of s id))
refused s h a id z b = go (process_of s id) refl
  where
    full : (t : Process) → process_of s id ≡ Some t → finds_full_queue a (Some t) ≡ true
        → has_cause s (Event.Refuse id ∷ h) t.id queue_full ≡ true
    full t e f = subst (λ (other : ProcId). has_cause s (Event.Refuse id ∷ h) other queue_full ≡ true)
        (sym (id_is s id t e)) (and_from _ _ (or_left (is_refused_at s h id (Event.Refuse id)) (was_refused s h id)
        (and_from _ _ (id_self id) ((λ i. Rattle.book_laws.specs.FullQueues.finds_full_queue_if (z i) (e i)) ∙ f)))
        refl)

    comes : (t : Process) → process_of s id ≡ Some t → (x : Bool) → (x ≡ true → finds_full_queue a (Some t) ≡ true)
        → IsCausedIf s (Event.Refuse id ∷ h)
        (if x then Some (Steps.with_listed_reply (Steps.with_guest a t (Some queue_full)) t.id queue_full) else None)
    comes t e true f =
        let c : has_cause s (Event.Refuse id ∷ h) t.id queue_full ≡ true = full t e (f refl) in
        listed s (Event.Refuse id ∷ h) (Steps.with_guest a t (Some queue_full)) t.id queue_full c
        (guest_comes s (Event.Refuse id ∷ h) a t (Some queue_full) c b)
    comes t e false f = tt

    at : (t : Process) → process_of s id ≡ Some t → (x : Option UnitState) → unit_state_at a.units t.target t.unit ≡ x
        → IsCausedIf s (Event.Refuse id ∷ h) (Steps.refuse_step_at a t x)
    at t e None w = tt
    at t e (Some u) w =
        comes t e (not (is_request_sense (command_of t.cdb)) && Steps.process_count u == u.depth)
        (λ f. (λ i. not (is_request_sense (command_of t.cdb)) && Rattle.book_laws.specs.FullQueues.is_full (w i)) ∙ f)

    go : (x : Option Process) → process_of s id ≡ x → IsCausedIf s (Event.Refuse id ∷ h) (Steps.refuse_step a x)
    go None e = tt
    go (Some t) e = at t e (unit_state_at a.units t.target t.unit) refl

-- ---- a command runs, fails, ends

contents_put : (s : ScenarioValue) (h : List Event) (a : Array) (y : Process) (contents : Contents) (r : Bool) (t m : ℕ)
    → Caused s h a
    → Caused s h (Steps.with_contents (Steps.without_attention a r (nexus_of y)) (unit_state_at a.units t m) contents)
contents_put s h a y contents r t m b = go r (unit_state_at a.units t m) refl
  where
    put : (c : Array) → c.units ≡ a.units → Caused s h c → (u : UnitState) → unit_state_at a.units t m ≡ Some u
        → Caused s h (record c { units = with_unit c.units (record u { contents = contents }) })
    put c same e u z = record {
      units =
          units_with s h c.units (record u { contents = contents }) e.units (unit_found s h a.units t m u b.units z);
      guests = e.guests;
      replies = e.replies;
      attentions = e.attentions;
    }

    told : Caused s h (record a { attentions = senses_without a.attentions (nexus_of y) })
    told = record {
      units = b.units;
      guests = b.guests;
      replies = b.replies;
      attentions = attentions_without a.attentions (nexus_of y) b.attentions;
    }

    go : (r : Bool) (x : Option UnitState) → unit_state_at a.units t m ≡ x
        → Caused s h (Steps.with_contents (Steps.without_attention a r (nexus_of y)) x contents)
    go true None z = told
    go false None z = b
    go true (Some u) z = put (record a { attentions = senses_without a.attentions (nexus_of y) }) refl told u z
    go false (Some u) z = put a refl b u z

ran : (s : ScenarioValue) (h : List Event) (a : Array) (guest : Bool) (r : Option RunningProcess) → Caused s h a
    → IsCausedIf s h (Steps.run_step a guest r)
ran s h a guest None b = tt
ran s h a guest (Some r) b =
    let u : Option UnitState = unit_state_at a.units r.process.target r.process.unit in
    let done : Execution = execution (Steps.context_at a (nexus_of r.process) u) r.process.cdb r.process.sent in
    caused_if s h (is_none r.reply && (guest || not (is_held a.holds r.process.target r.process.unit)))
    (Steps.after_execution_at a r.process u) (replied s h
    (Steps.with_contents (Steps.without_attention a done.reported (nexus_of r.process)) u done.contents) r.process.id
    done.reply (plain_cause s h r.process.id done.reply (plain_execution (Steps.context_at a (nexus_of r.process) u)
    r.process.cdb r.process.sent (attention_here a (nexus_of r.process) u b.attentions)))
    (contents_put s h a r.process done.contents done.reported r.process.target r.process.unit b))

failed : (s : ScenarioValue) (h : List Event) (a : Array) (id : ProcId) (code : ℕ) (r : Option RunningProcess)
    → Caused s (Event.Fail id code ∷ h) a
    → IsCausedIf s (Event.Fail id code ∷ h) (Steps.fail_step s a id (aborted_reply code) r)
failed s h a id code r b = on r
  where
    cause : has_cause s (Event.Fail id code ∷ h) id (aborted_reply code) ≡ true
    cause =
        or_left (same_id id id && code == code) (has_event h (Event.Fail id code)) (λ i. id_self id i && eq_self code i)

    came : (x : Bool) (c : Process) → process_of s id ≡ Some c
        → IsCausedIf s (Event.Fail id code ∷ h) (if x then None
        else Some (Steps.with_listed_reply (Steps.with_guest a c (Some (aborted_reply code))) id (aborted_reply code)))
    came true c e = tt
    came false c e = listed s (Event.Fail id code ∷ h) (Steps.with_guest a c (Some (aborted_reply code))) id
        (aborted_reply code) cause (guest_comes s (Event.Fail id code ∷ h) a c (Some (aborted_reply code))
        (subst (λ (other : ProcId). has_cause s (Event.Fail id code ∷ h) other (aborted_reply code) ≡ true)
        (sym (id_is s id c e)) cause) b)

    new : (x : Option Process) → process_of s id ≡ x
        → IsCausedIf s (Event.Fail id code ∷ h) (Steps.fail_step_of_new a id (aborted_reply code) x)
    new None e = tt
    new (Some c) e = came (Steps.is_waiting a.units id || Steps.has_ended a id) c e

    on : (x : Option RunningProcess)
        → IsCausedIf s (Event.Fail id code ∷ h) (Steps.fail_step s a id (aborted_reply code) x)
    on (Some q) = caused_if s (Event.Fail id code ∷ h) (is_none q.reply) (Steps.with_reply a id (aborted_reply code))
        (replied s (Event.Fail id code ∷ h) a id (aborted_reply code) cause b)
    on None = new (process_of s id) refl

left_out : (s : ScenarioValue) (h : List Event) (a : Array) (id : ProcId) → Caused s h a
    → Caused s h (Steps.array_without a id)
left_out s h a id b = record {
  units = units_without s h a.units id b.units;
  guests = guests_without s h a.guests id b.guests;
  replies = b.replies;
  attentions = b.attentions;
}

after_status : (s : ScenarioValue) (h : List Event) (a : Array) (c : Process) (reply : Reply) → Caused s h a
    → Caused s h (Steps.after_status a c reply)
after_status s h a c reply b =
    go (reply.status == CHECK_CONDITION) (reply.status == GOOD && is_request_sense (command_of c.cdb))
  where
    go : (x y : Bool) → Caused s h (if x then record a {
      senses = (nexus_of c, reply.sense) ∷ senses_without a.senses (nexus_of c);
      holds = nexus_of c ∷ nexuses_without a.holds (nexus_of c);
    } else if y then record a {
      senses = senses_without a.senses (nexus_of c);
      holds = nexuses_without a.holds (nexus_of c);
    } else a)
    go true y = record { units = b.units; guests = b.guests; replies = b.replies; attentions = b.attentions }
    go false true = record { units = b.units; guests = b.guests; replies = b.replies; attentions = b.attentions }
    go false false = b

ended : (s : ScenarioValue) (h : List Event) (a : Array) (status : ℕ) (r : Option RunningProcess) → Caused s h a
    → IsCausedIf s h (Steps.end_step a status r)
ended s h a status None b = tt
ended s h a status (Some r) b = with_reply r.reply
  where
    with_reply : (x : Option Reply) → IsCausedIf s h (Steps.end_step_with a r.process status x)
    with_reply None = tt
    with_reply (Some reply) =
        caused_if s h (reply.status == status) (Steps.array_without (Steps.after_status a r.process reply) r.process.id)
        (left_out s h (Steps.after_status a r.process reply) r.process.id (after_status s h a r.process reply b))

lost : (s : ScenarioValue) (h : List Event) (a : Array) (id : ProcId) → Caused s h a
    → IsCausedIf s h (Steps.loss_step a id)
lost s h a id b = elim (cases_Bool (Steps.has_ended a id)) [ inl e ↦ rw e tt | inr e ↦ rw e (left_out s h a id b) ]

-- ---- aborts and resets

dropped : (s : ScenarioValue) (h : List Event) (a : Array) (drops : Process → Bool) → Caused s h a
    → Caused s h (Steps.without_dropped a drops)
dropped s h a drops b = record {
  units = units_kept s h drops a.units b.units;
  guests = guests_kept s h drops a.guests b.guests;
  replies = b.replies;
  attentions = b.attentions;
}

hosts_told : (s : ScenarioValue) (h : List Event) (hosts : List HostDef) (t m : ℕ) (a : Array) → Caused s h a
    → Caused s h (Steps.reset_attentions hosts t m a)
hosts_told s h [] t m a b = b
hosts_told s h (d ∷ hosts) t m a b =
    let q : Nexus = record { initiator = d.dev; target = t; unit = m } in
    hosts_told s h hosts t m (Steps.reset_attention a q) (record {
      units = b.units;
      guests = b.guests;
      replies = b.replies;
      attentions = (refl, attentions_without a.attentions q b.attentions);
    })

units_told : (s : ScenarioValue) (h : List Event) (hosts : List HostDef)
    (units : List UnitState) (is_one : UnitState → Bool) (a : Array)
    → Caused s h a → Caused s h (Steps.unit_reset_attentions hosts units is_one a)
units_told s h hosts [] is_one a b = b
units_told s h hosts (u ∷ units) is_one a b = units_told s h hosts units is_one
    (if is_one u then Steps.reset_attentions hosts u.target u.unit a else a) (go (is_one u))
  where
    go : (x : Bool) → Caused s h (if x then Steps.reset_attentions hosts u.target u.unit a else a)
    go true = hosts_told s h hosts u.target u.unit a b
    go false = b

cleared_told : (s : ScenarioValue) (h : List Event) (by : ℕ) (gone : List Process) (a : Array) → Caused s h a
    → Caused s h (Steps.cleared_attentions by gone a)
cleared_told s h by [] a b = b
cleared_told s h by (q ∷ gone) a b = cleared_told s h by gone
    (if q.initiator == by then a else Steps.cleared_attention a (nexus_of q))
    (go (q.initiator == by) (Steps.is_reset_pending (sense_of_nexus a.attentions (nexus_of q))))
  where
    told : (y : Bool) → Caused s h (if y then a else record a {
      attentions = (nexus_of q, commands_cleared) ∷ senses_without a.attentions (nexus_of q);
    })
    told true = b
    told false = record {
      units = b.units;
      guests = b.guests;
      replies = b.replies;
      attentions = (refl, attentions_without a.attentions (nexus_of q) b.attentions);
    }

    go : (x y : Bool) → Caused s h (if x then a else Steps.cleared_attention a (nexus_of q))
    go true y = b
    go false y = told (Steps.is_reset_pending (sense_of_nexus a.attentions (nexus_of q)))

aborted : (s : ScenarioValue) (h : List Event) (a : Array) (i t m : ℕ) (what : AbortKind) → Caused s h a
    → Caused s h (Steps.abort_step s a i t m what)
aborted s h a i t m AbortKind.All b =
    let d : Caused s h (Steps.without_dropped a (λ p. p.initiator == i && Steps.is_of_unit p t m)) = dropped s h a
    (λ p. p.initiator == i && Steps.is_of_unit p t m) b in
    record { units = d.units; guests = d.guests; replies = d.replies; attentions = d.attentions }
aborted s h a i t m (AbortKind.Tag tag) b =
    dropped s h a (λ p. p.initiator == i && Steps.is_of_unit p t m && Steps.has_tag p.tag tag) b
aborted s h a i t m AbortKind.WholeQueue b = cleared_told s h i (Steps.unit_processes (unit_state_at a.units t m))
    (Steps.without_dropped a (λ p. Steps.is_of_unit p t m)) (dropped s h a (λ p. Steps.is_of_unit p t m) b)
aborted s h a i t m AbortKind.Device b =
    let d : Caused s h (Steps.without_dropped a (λ p. p.target == t)) = dropped s h a (λ p. p.target == t) b in
    units_told s h s.hosts a.units (λ u. u.target == t) (record (Steps.without_dropped a (λ p. p.target == t)) {
      senses = Steps.kept_senses (λ q. q.target == t) a.senses;
      holds = Steps.kept_nexuses (λ q. q.target == t) a.holds;
    }) (record { units = d.units; guests = d.guests; replies = d.replies; attentions = d.attentions })

reset : (s : ScenarioValue) (h : List Event) (a : Array) → Caused s h a → Caused s h (Steps.reset_step s a)
reset s h a b =
    let d : Caused s h (Steps.without_dropped a (λ p. true)) = dropped s h a (λ p. true) b in
    units_told s h s.hosts a.units (λ u. true) (record (Steps.without_dropped a (λ p. true)) {
      senses = [];
      holds = [];
    }) (record { units = d.units; guests = d.guests; replies = d.replies; attentions = d.attentions })

-- ---- every event, and every history

event_caused : (s : ScenarioValue) (h : List Event) (a : Array) (e : Event) → array_after s h ≡ Some a → Caused s h a
    → IsCausedIf s (e ∷ h) (Steps.event_step s a e)
event_caused s h a (Event.Accept id) z b =
    accepted s (Event.Accept id ∷ h) a (process_of s id) (one_more s h (Event.Accept id) a b)
event_caused s h a (Event.Refuse id) z b = refused s h a id z (one_more s h (Event.Refuse id) a b)
event_caused s h a (Event.Run id) z b = ran s (Event.Run id ∷ h) a (is_some (guest_at a.guests id))
    (Steps.running_process a id) (one_more s h (Event.Run id) a b)
event_caused s h a (Event.Fail id code) z b =
    failed s h a id code (Steps.running_process a id) (one_more s h (Event.Fail id code) a b)
event_caused s h a (Event.End id status) z b =
    ended s (Event.End id status ∷ h) a status (Steps.running_process a id) (one_more s h (Event.End id status) a b)
event_caused s h a (Event.Lost id) z b = lost s (Event.Lost id ∷ h) a id (one_more s h (Event.Lost id) a b)
event_caused s h a (Event.Aborted i t n what) z b =
    aborted s (Event.Aborted i t n what ∷ h) a i t n what (one_more s h (Event.Aborted i t n what) a b)
event_caused s h a (Event.Reset dev) z b = reset s (Event.Reset dev ∷ h) a (one_more s h (Event.Reset dev) a b)

settled : (s : ScenarioValue) (h : List Event) (a : Array) → Caused s h a → Caused s h (settled_array a)
settled s h a b = record {
  units = units_chosen s h a.holds a.units b.units;
  guests = b.guests;
  replies = b.replies;
  attentions = b.attentions;
}

settled_if : (s : ScenarioValue) (h : List Event) (x : Option Array) → IsCausedIf s h x
    → IsCausedIf s h (Steps.settled_array_if x)
settled_if s h None b = tt
settled_if s h (Some a) b = settled s h a b

units_start : (s : ScenarioValue) (units : List UnitDef) → AreUnits s [] (starting_units s units)
units_start s [] = tt
units_start s (u ∷ units) = (tt, units_start s units)

caused_after : (s : ScenarioValue) (h : List Event) → IsCausedIf s h (array_after s h)
caused_after s [] = settled s [] (starting_array s)
    (record { units = units_start s (units_of s); guests = tt; replies = tt; attentions = tt })
caused_after s (e ∷ h) = go (array_after s h) refl (caused_after s h)
  where
    go : (x : Option Array) → array_after s h ≡ x → IsCausedIf s h x → IsCausedIf s (e ∷ h) (array_step s e x)
    go None z b = tt
    go (Some a) z b = settled_if s (e ∷ h) (Steps.event_step s a e) (event_caused s h a e z b)

pub caused : (s : ScenarioValue) (h : List Event) (a : Array) → array_after s h ≡ Some a → Caused s h a
caused s h a z = subst (λ (x : Option Array). IsCausedIf s h x) z (caused_after s h)

-- ---- replies

reply_found : (s : ScenarioValue) (h : List Event) (replies : List (ProcId × Reply)) (id : ProcId) (reply : Reply)
    → AreReplies s h replies → reply_in replies id ≡ Some reply → has_cause s h id reply ≡ true
reply_found s h [] id reply b e = cc
reply_found s h (r ∷ replies) id reply b e = go (λ f. reply_found s h replies id reply b.1 f) (same_id r.0 id) refl e
  where
    go : (reply_in replies id ≡ Some reply → has_cause s h id reply ≡ true) → (x : Bool) → same_id r.0 id ≡ x
        → (if x then Some r.1 else reply_in replies id) ≡ Some reply → has_cause s h id reply ≡ true
    go later true z f =
        let same : r.1 ≡ reply = cc in
        (λ i. has_cause s h (sym (same_id_is r.0 id z) i) (sym same i)) ∙ b.0
    go later false z f = later f

pub reply_caused : (s : ScenarioValue) (h : List Event) (a : Array) (id : ProcId) (reply : Reply)
    → array_after s h ≡ Some a → reply_in a.replies id ≡ Some reply → has_cause s h id reply ≡ true
reply_caused s h a id reply z e = reply_found s h a.replies id reply (caused s h a z).replies e

-- ---- a command ends with QUEUE FULL

-- The process that runs is of this number, and its reply has its cause.
pub record Runs (s : ScenarioValue) (h : List Event) (id : ProcId) (r : RunningProcess) : Type 0 where
  same : same_id r.process.id id ≡ true
  pub cause : IsCaused s h r.process.id r.reply

guest_runs : (s : ScenarioValue) (h : List Event) (guests : List RunningProcess) (id : ProcId) (g : RunningProcess)
    → AreGuests s h guests → guest_at guests id ≡ Some g → Runs s h id g
guest_runs s h [] id g b e = cc
guest_runs s h (f ∷ guests) id g b e = go (λ y. guest_runs s h guests id g b.1 y) (same_id f.process.id id) refl e
  where
    go : (guest_at guests id ≡ Some g → Runs s h id g) → (x : Bool) → same_id f.process.id id ≡ x
        → (if x then Some f else guest_at guests id) ≡ Some g → Runs s h id g
    go later true z y =
        let same : f ≡ g = cc in
        subst (λ (r : RunningProcess). Runs s h id r) same (record { same = z; cause = b.0 })
    go later false z y = later y

current_runs : (s : ScenarioValue) (h : List Event) (units : List UnitState) (id : ProcId) (r : RunningProcess)
    → AreUnits s h units → Steps.running_in units id ≡ Some r → Runs s h id r
current_runs s h [] id r b e = cc
current_runs s h (u ∷ units) id r b e = go (λ g. current_runs s h units id r b.1 g) u.current b.0 e
  where
    inner : (Steps.running_in units id ≡ Some r → Runs s h id r) → (q : RunningProcess)
        → IsCaused s h q.process.id q.reply → (x : Bool) → same_id q.process.id id ≡ x
        → (if is_some (if x then Some q else None) then (if x then Some q else None) else Steps.running_in units id)
        ≡ Some r → Runs s h id r
    inner later q g true z l =
        let same : q ≡ r = cc in
        subst (λ (f : RunningProcess). Runs s h id f) same (record { same = z; cause = g })
    inner later q g false z l = later l

    go : (Steps.running_in units id ≡ Some r → Runs s h id r) → (x : Option RunningProcess) → IsCurrent s h x
        → (if is_some (Steps.running_if x id) then Steps.running_if x id else Steps.running_in units id) ≡ Some r
        → Runs s h id r
    go later None g l = later l
    go later (Some q) g l = inner later q g (same_id q.process.id id) refl l

pub process_runs : (s : ScenarioValue) (h : List Event) (a : Array) (id : ProcId) (r : RunningProcess) → Caused s h a
    → Steps.running_process a id ≡ Some r → Runs s h id r
process_runs s h a id r b e = go (guest_at a.guests id) refl e
  where
    go : (x : Option RunningProcess) → guest_at a.guests id ≡ x
        → (if is_some x then x else Steps.running_in a.units id) ≡ Some r → Runs s h id r
    go None z f = current_runs s h a.units id r b.units f
    go (Some g) z f = guest_runs s h a.guests id r b.guests (z ∙ f)

-- The event of an end that is permitted.
full_now : (s : ScenarioValue) (h : List Event) (a : Array) (id : ProcId) → Caused s h a
    → is_some (Steps.end_step a QUEUE_FULL (Steps.running_process a id)) ≡ true → was_refused s h id ≡ true
full_now s h a id b e = go (Steps.running_process a id) refl e
  where
    by : (r : RunningProcess) → Runs s h id r → (reply : Reply) → IsCaused s h r.process.id (Some reply)
        → (x : Bool) → (reply.status == QUEUE_FULL) ≡ x
        → is_some (if x then Some (Steps.array_without (Steps.after_status a r.process reply) r.process.id) else None)
        ≡ true → was_refused s h id ≡ true
    by r f reply c false z l = cc
    by r f reply c true z l =
        let two = and_parts (not (reply.status == QUEUE_FULL) || was_refused s h r.process.id)
        (not (reply.sense.key == ABORTED_COMMAND) || has_event h (Event.Fail r.process.id reply.sense.asc)) c in
        (λ i. not (sym z i) || was_refused s h (sym (same_id_is r.process.id id f.same) i)) ∙ two.0

    with_reply : (r : RunningProcess) → Runs s h id r → (x : Option Reply) → IsCaused s h r.process.id x
        → is_some (Steps.end_step_with a r.process QUEUE_FULL x) ≡ true → was_refused s h id ≡ true
    with_reply r f None c l = cc
    with_reply r f (Some reply) c l = by r f reply c (reply.status == QUEUE_FULL) refl l

    go : (x : Option RunningProcess) → Steps.running_process a id ≡ x → is_some (Steps.end_step a QUEUE_FULL x) ≡ true
        → was_refused s h id ≡ true
    go None z l = cc
    go (Some r) z l = let f : Runs s h id r = process_runs s h a id r b z in with_reply r f r.reply f.cause l

some_of : (x : Option Array) → is_some (Steps.settled_array_if x) ≡ true → is_some x ≡ true
some_of None h = h
some_of (Some a) h = refl

is_end : (s : ScenarioValue) (h : List Event) (a : Array) (e : Event) (id : ProcId) → Caused s h a
    → same_event e (Event.End id QUEUE_FULL) ≡ true → is_some (Steps.event_step s a e) ≡ true
    → was_refused s h id ≡ true
is_end s h a (Event.End p status) id b e f =
    let two = and_parts (same_id p id) (status == QUEUE_FULL) e in
    full_now s h a id b ((λ i. is_some (Steps.end_step a (sym (eqb-true status QUEUE_FULL two.1) i)
    (Steps.running_process a (sym (same_id_is p id two.0) i)))) ∙ f)
is_end s h a _ id b e f = cc

some : (x : Option Array) (a : Array) → x ≡ Some a → is_some x ≡ true
some x a e = λ i. is_some (e i)

pub full_caused : (s : ScenarioValue) (h : List Event) (id : ProcId) → is_some (array_after s h) ≡ true
    → has_event h (Event.End id QUEUE_FULL) ≡ true → was_refused s h id ≡ true
full_caused s [] id z e = cc
full_caused s (f ∷ h) id z e = before (λ w l. full_caused s h id w l) (array_after s h) refl z
  where
    now : (is_some (array_after s h) ≡ true → has_event h (Event.End id QUEUE_FULL) ≡ true → was_refused s h id ≡ true)
        → (a : Array) → array_after s h ≡ Some a → is_some (Steps.settled_array_if (Steps.event_step s a f)) ≡ true
        → (x : Bool) → same_event f (Event.End id QUEUE_FULL) ≡ x → (x || has_event h (Event.End id QUEUE_FULL)) ≡ true
        → was_refused s h id ≡ true
    now later a w g true q l = is_end s h a f id (caused s h a w) q (some_of (Steps.event_step s a f) g)
    now later a w g false q l = later (some (array_after s h) a w) l

    before :
        (is_some (array_after s h) ≡ true → has_event h (Event.End id QUEUE_FULL) ≡ true → was_refused s h id ≡ true)
        → (x : Option Array) → array_after s h ≡ x → is_some (array_step s f x) ≡ true → was_refused s (f ∷ h) id ≡ true
    before later None w g = cc
    before later (Some a) w g = or_right (is_refused_at s h id f) (was_refused s h id)
        (now later a w g (same_event f (Event.End id QUEUE_FULL)) refl e)
