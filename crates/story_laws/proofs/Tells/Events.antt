-- The events of a phase that is left, by what the rows tell and by what the target knows.
use Rattle.story_laws.proofs
use proofs.Names.{ℕ, ◌≡◌, Bool, true, false, not, ◌&&◌, ◌||◌, ◌==◌, ◌∙◌, List, [], ◌∷◌, ◌++◌, length, Option, Some}
use proofs.Names.{None, refl, sym, ap, list_any, if◌then◌else◌, is_some, nat_lt, eq_self, suc_some, and_false}
use proofs.Names.{AbortKind, Event, ProcId, command_of, has_group_len, PARITY_ERROR, ScenarioValue, Policy, array_step}
use proofs.Names.{is_request_sense, Process, process_of, process_count, queue_step, accept_step, accept_step_at}
use proofs.Names.{with_guest, settled_array_if, UnitState, Array, unit_state_at, with_unit, CarriedBytes}
use proofs.Names.{is_whole_block, is_refuse, status_event, arrival_by, arrival_in, is_never, arrival_event}
use proofs.Names.{arrival_events, arrival_run_events, reply_events, newest_with, Arrival, Phase, Plan, room_of}
use proofs.Names.{arrival_if, is_idle_unit, same_kind, same_event, same_events, self_id, is_marked, code_if}

-- ---- a list of events is itself

self_kind : (a : AbortKind) → same_kind a a ≡ true
self_kind (AbortKind.Tag n) = eq_self n
self_kind _ = refl

self_event : (e : Event) → same_event e e ≡ true
self_event (Event.Accept id) = self_id id
self_event (Event.Refuse id) = self_id id
self_event (Event.Run id) = self_id id
self_event (Event.Fail id code) = λ i. self_id id i && eq_self code i
self_event (Event.End id status) = λ i. self_id id i && eq_self status i
self_event (Event.Lost id) = self_id id
self_event (Event.Aborted h t u what) = λ i. eq_self h i && eq_self t i && eq_self u i && self_kind what i
self_event (Event.Reset dev) = eq_self dev

pub self_events : (xs : List Event) → same_events xs xs ≡ true
self_events [] = refl
self_events (e ∷ xs) = λ i. self_event e i && self_events xs i

pub same_lists : (xs ys : List Event) → xs ≡ ys → same_events xs ys ≡ true
same_lists xs ys e = ap (λ (zs : List Event). same_events xs zs) (sym e) ∙ self_events xs

-- ---- a command arrives: the queue has room for it

some_settled : (x : Option Array) → is_some (settled_array_if x) ≡ is_some x
some_settled None = refl
some_settled (Some a) = refl

queued : (id : ProcId) (policy : Policy) (a : Array) (c : Process) (u : UnitState)
    → (if is_some (queue_step a c u) then Event.Accept id else Event.Refuse id) ≡ arrival_event id
    (arrival_in policy (record { full = not (nat_lt (process_count u) u.depth); idle = is_idle_unit a u }))
queued id policy a c u = go (nat_lt (process_count u) u.depth) (is_never policy && is_idle_unit a u)
  where
    go : (q r : Bool) → (if is_some (if q then Some (record a {
      units = with_unit a.units (record u { waiting = u.waiting ++ c ∷ [] });
    }) else None) then Event.Accept id else Event.Refuse id)
        ≡ arrival_event id (if not q then Arrival.Refused else if r then Arrival.AtOnce else Arrival.Queued)
    go true true = refl
    go true false = refl
    go false r = refl

accepts : (id : ProcId) (policy : Policy) (a : Array) (c : Process) (x : Option UnitState)
    → (if is_some (accept_step_at a c x) then Event.Accept id else Event.Refuse id)
    ≡ arrival_event id (arrival_by policy (is_request_sense (command_of c.cdb)) (room_of a x))
accepts id policy a c None = refl
accepts id policy a c (Some u) = go (is_request_sense (command_of c.cdb))
  where
    go : (q : Bool) → (if is_some (if q then Some (with_guest a c None) else queue_step a c u) then Event.Accept id
        else Event.Refuse id) ≡ arrival_event id (if q then Arrival.Guest
        else arrival_in policy (record { full = not (nat_lt (process_count u) u.depth); idle = is_idle_unit a u }))
    go true = refl
    go false = queued id policy a c u

pub arrives : (s : ScenarioValue) (id : ProcId) (policy : Policy) (a : Array) (c : Process) → process_of s id ≡ Some c
    → (if is_some (array_step s (Event.Accept id) (Some a)) then Event.Accept id else Event.Refuse id)
    ≡ arrival_event id (arrival_if policy a (Some c))
arrives s id policy a c e =
    (λ i. if is_some (settled_array_if (accept_step a (e i))) then Event.Accept id else Event.Refuse id)
    ∙ ap (λ (q : Bool). if q then Event.Accept id else Event.Refuse id)
    (some_settled (accept_step_at a c (unit_state_at a.units c.target c.unit)))
    ∙ accepts id policy a c (unit_state_at a.units c.target c.unit)

-- ---- the first STATUS phase

pub is_refusing : List Event → Bool
is_refusing arrived = list_any (λ e. is_refuse e) arrived

pub with_status : (c : CarriedBytes) (q : Bool) (arrived reply : List Event) → (q ≡ true → is_marked c ≡ false
    → reply ≡ (if list_any (λ e. is_refuse e) arrived then [] else status_event c.id c.failure ∷ []))
    → newest_with (if q && not (is_marked c) then reply else []) arrived
    ≡ (if q && not c.shown && not c.refused && not (list_any (λ e. is_refuse e) arrived)
    then status_event c.id c.failure ∷ arrived else arrived)
with_status c q arrived reply h = go q c.shown c.refused (list_any (λ e. is_refuse e) arrived) h
  where
    go : (q x y r : Bool) → (q ≡ true → (x || y) ≡ false → reply ≡ (if r then [] else status_event c.id c.failure ∷ []))
        → newest_with (if q && not (x || y) then reply else []) arrived
        ≡ (if q && not x && not y && not r then status_event c.id c.failure ∷ arrived else arrived)
    go false x y r g = refl
    go true true y r g = refl
    go true false true r g = refl
    go true false false true g = ap (λ (w : List Event). newest_with w arrived) (g refl refl)
    go true false false false g = ap (λ (w : List Event). newest_with w arrived) (g refl refl)

-- ---- COMMAND is left

-- What the target answers with STATUS next.
pub command_reply : (id : ProcId) (plan : Plan) (arrival : Arrival) (c : CarriedBytes) → c.id ≡ id
    → c.failure ≡ code_if plan.struck PARITY_ERROR → reply_events id plan arrival Phase.Command
    ≡ (if list_any (λ e. is_refuse e) (arrival_events id plan arrival Phase.Command) then []
    else status_event c.id c.failure ∷ [])
command_reply id plan arrival c same failure = go plan.struck arrival
    ∙ (λ i. if list_any (λ e. is_refuse e) (arrival_events id plan arrival Phase.Command) then []
    else status_event (sym same i) (sym failure i) ∷ [])
  where
    go : (q : Bool) (a : Arrival) → (if q then Event.Fail id PARITY_ERROR ∷ [] else arrival_run_events a id)
        ≡ (if list_any (λ e. is_refuse e) (if q then [] else arrival_event id a ∷ []) then []
        else status_event id (code_if q PARITY_ERROR) ∷ [])
    go true a = refl
    go false Arrival.Refused = refl
    go false _ = refl

-- Of a whole block.
pub whole_block : (c : CarriedBytes) (struck : Bool) → c.struck ≡ struck
    → (struck ≡ false → has_group_len c.block ≡ true) → is_whole_block c ≡ not struck
whole_block c true e h = (λ i. not (length c.block == 0) && has_group_len c.block && not (e i))
    ∙ and_false (not (length c.block == 0) && has_group_len c.block)
whole_block c false e h = (λ i. not (length c.block == 0) && h refl i && not (e i)) ∙ go c.block (h refl)
  where
    go : (block : List ℕ) → has_group_len block ≡ true → (not (length block == 0) && true && true) ≡ true
    go [] z = absurd cc
    go (b ∷ block) z = λ i. not (suc_some (length block) i) && true && true
