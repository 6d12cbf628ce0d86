-- The units of the array stand in one order, each of its kind, with as many blocks of as many bytes, and their times
-- beside them; and what was replied stays so.
use Rattle.std.proofs.Common.{ℕ, ◌≡◌, suc, Bool, true, false, List, [], ◌∷◌, ◌++◌, ◌∙◌, refl, sym, ap, subst}
use Rattle.std.proofs.Common.{length, Option, Some, None}
use Rattle.std.specs.Prelude.{if◌then◌else◌, ◌&&◌, ◌||◌, ◌==◌, not, is_some, is_none, nat_lt}
use Rattle.std.proofs.lemmas.Bool.{eqb-true}
use Rattle.bus_base.specs.declared.AbortKind.{AbortKind}
use Rattle.bus_base.specs.declared.Event.{Event}
use Rattle.bus_base.specs.declared.ProcId.{ProcId}
use Rattle.cdb_codec.specs.declared.sense.TheConstants.{ABORTED_COMMAND}
use Rattle.cdb_codec.specs.declared.status.TheConstants.{GOOD, CHECK_CONDITION}
use Rattle.cdb_codec.specs.Cdb.{command_of}
use Rattle.scenario.specs.declared.value.HostDef.{HostDef}
use Rattle.scenario.specs.Value.{ScenarioValue}
use Rattle.array_model.specs.ArrayHistory.{reply_in}
use Rattle.array_model.specs.Contents.{Contents, is_reeled}
use Rattle.array_model.specs.Execution.{Reply, CommandContext, Execution, execution, is_request_sense, check_condition}
use Rattle.array_model.specs.Execution.{sense_of, queue_full, commands_cleared}
use Rattle.array_model.specs.Order.{choice}
use Rattle.array_model.specs.Processes.{Process, process_of, same_id}
use Rattle.array_model.specs.Units.{RunningProcess, UnitState, Nexus, Array, is_held, unit_state_at, with_unit}
use Rattle.array_model.specs.Units.{guest_at}
use Rattle.array_model.specs.Units.{nexus_of, with_current, has_no_current, units_after_choice, sense_of_nexus}
use Rattle.array_model.specs.Units.{senses_without, nexuses_without, settled_array}
use Rattle.array_model.specs.Steps.{event_step, step, settled_array_if}
use Rattle.array_model.specs.Seats.{current_of}
use Rattle.array_model.proofs.SeatLookups.{found_target, found_unit}
use Rattle.array_model.proofs.SeatReplies.{found_id}
use Rattle.due_model.specs.Wants.{since_of}
use Rattle.due_model.specs.RunSteps.{is_same_running, current_times_after}
use Rattle.scsi_device.proofs.Finds.{none_some}
use Rattle.array_model.proofs.ExecutionFacts.{extent_kept, kind_kept}
use Rattle.bus_base.specs.declared.AbortKind.TheVariants as aborts
use Rattle.bus_base.specs.declared.Event.TheVariants as events
use Rattle.array_model.specs.Steps

-- As many blocks, of as many bytes, of a unit of the same kind.
pub record IsLike (a b : Contents) : Type 0 where
  pub count : b.count ≡ a.count
  pub size : b.size ≡ a.size
  pub kind : is_reeled b ≡ is_reeled a

pub like_self : (c : Contents) → IsLike c c
like_self c = record { count = refl; size = refl; kind = refl }

pub like_more : (a b c : Contents) → IsLike a b → IsLike b c → IsLike a c
like_more a b c h k = record { count = k.count ∙ h.count; size = k.size ∙ h.size; kind = k.kind ∙ h.kind }

-- The same targets and numbers, in one order.
abbrev pub AreSame : List UnitState → List UnitState → Type 0
AreSame [] [] = Unit {0}
AreSame [] (v ∷ after) = ⊥
AreSame (u ∷ before) [] = ⊥
AreSame (u ∷ before) (v ∷ after) =
    (v.target ≡ u.target) × (v.unit ≡ u.unit) × IsLike u.contents v.contents × AreSame before after

same_self : (us : List UnitState) → AreSame us us
same_self [] = tt
same_self (u ∷ us) = (refl, refl, like_self u.contents, same_self us)

same_more : (us vs ws : List UnitState) → AreSame us vs → AreSame vs ws → AreSame us ws
same_more [] [] [] h k = tt
same_more [] [] (w ∷ ws) h k = absurd k
same_more [] (v ∷ vs) ws h k = absurd h
same_more (u ∷ us) [] ws h k = absurd h
same_more (u ∷ us) (v ∷ vs) [] h k = absurd k
same_more (u ∷ us) (v ∷ vs) (w ∷ ws) h k =
    (k.0 ∙ h.0, k.1 ∙ h.1, like_more u.contents v.contents w.contents h.2 k.2, same_more us vs ws h.3 k.3)

-- Whatever has no reply afterwards had none before.
abbrev pub HasMore : List (ProcId × Reply) → List (ProcId × Reply) → Type 0
HasMore old new = (id : ProcId) → reply_in new id ≡ None → reply_in old id ≡ None

pub one_more : (old : List (ProcId × Reply)) (id : ProcId) (reply : Reply) → HasMore old ((id, reply) ∷ old)
one_more old given reply id e = go (same_id given id) e
  where
    go : (y : Bool) → (if y then Some reply else reply_in old id) ≡ None → reply_in old id ≡ None
    go true k = cc
    go false k = k

-- The array before and after.
pub record IsLater (a b : Array) : Type 0 where
  pub units : AreSame a.units b.units
  pub replies : HasMore a.replies b.replies

with_same : (a : Array) (us : List UnitState) → AreSame a.units us → (b : Array) → b.units ≡ us → b.replies ≡ a.replies
    → IsLater a b
with_same a us h b e f = record {
  units = subst (λ (vs : List UnitState). AreSame a.units vs) (sym e) h;
  replies = λ id k. (λ i. reply_in (sym f i) id) ∙ k;
}

with_reply_too : (a : Array) (us : List UnitState) (id : ProcId) (reply : Reply) → AreSame a.units us
    → (b : Array) → b.units ≡ us → b.replies ≡ (id, reply) ∷ a.replies → IsLater a b
with_reply_too a us id reply h b e f = record {
  units = subst (λ (vs : List UnitState). AreSame a.units vs) (sym e) h;
  replies = λ one k. one_more a.replies id reply one ((λ i. reply_in (sym f i) one) ∙ k);
}

later_more : (a b c : Array) → IsLater a b → IsLater b c → IsLater a c
later_more a b c h k = record {
  units = same_more a.units b.units c.units h.units k.units;
  replies = λ id e. h.replies id (k.replies id e);
}

-- ---- each part of a step

same_replied : (us : List UnitState) (id : ProcId) (reply : Reply) → AreSame us (Steps.units_with_reply us id reply)
same_replied [] id reply = tt
same_replied (u ∷ us) id reply = (refl, refl, like_self u.contents, same_replied us id reply)

same_without : (us : List UnitState) (id : ProcId) → AreSame us (Steps.units_without us id)
same_without [] id = tt
same_without (u ∷ us) id = (refl, refl, like_self u.contents, same_without us id)

same_kept : (drops : Process → Bool) (us : List UnitState) → AreSame us (Steps.kept_units drops us)
same_kept drops [] = tt
same_kept drops (u ∷ us) = (refl, refl, like_self u.contents, same_kept drops us)

-- A unit takes the place of the one of its target and number.
same_with : (us : List UnitState) (old new : UnitState) → unit_state_at us new.target new.unit ≡ Some old
    → IsLike old.contents new.contents → AreSame us (with_unit us new)
same_with [] old new found h = tt
same_with (u ∷ us) old new found h =
    go (u.target == new.target) refl (u.unit == new.unit) refl found (λ k. same_with us old new k h)
  where
    go : (y : Bool) → (u.target == new.target) ≡ y → (z : Bool) → (u.unit == new.unit) ≡ z
        → (if y && z then Some u else unit_state_at us new.target new.unit) ≡ Some old
        → (unit_state_at us new.target new.unit ≡ Some old → AreSame us (with_unit us new))
        → AreSame (u ∷ us) (if y && z then new ∷ us else u ∷ with_unit us new)
    go true e true f k more =
        let same : u ≡ old = cc in (
          sym (eqb-true u.target new.target e),
          sym (eqb-true u.unit new.unit f),
          subst (λ (o : UnitState). IsLike o.contents new.contents) (sym same) h,
          same_self us,
        )
    go true e false f k more = (refl, refl, like_self u.contents, more k)
    go false e z f k more = (refl, refl, like_self u.contents, more k)

-- The unit that stands at a place is of that place.
pub place_found : (us : List UnitState) (t n : ℕ) (u : UnitState) → unit_state_at us t n ≡ Some u
    → unit_state_at us u.target u.unit ≡ Some u
place_found us t n u e = (λ i. unit_state_at us (found_target us t n u e i) (found_unit us t n u e i)) ∙ e

same_chosen : (holds : List Nexus) (us : List UnitState) → AreSame us (units_after_choice holds us)
same_chosen holds [] = tt
same_chosen holds (u ∷ us) = go (has_no_current u.current && not (is_held holds u.target u.unit))
    (choice u.pick u.waiting) (same_chosen holds us)
  where
    go : (y : Bool) (p : Option Process) → AreSame us (units_after_choice holds us)
        → AreSame (u ∷ us) ((if y then with_current u p else u) ∷ units_after_choice holds us)
    go true None more = (refl, refl, like_self u.contents, more)
    go true (Some p) more = (refl, refl, like_self u.contents, more)
    go false p more = (refl, refl, like_self u.contents, more)

-- ---- senses, holds and attentions are no part of them

-- The same units and replies.
record IsBeside (a b : Array) : Type 0 where
  units : b.units ≡ a.units
  replies : b.replies ≡ a.replies

beside_self : (a : Array) → IsBeside a a
beside_self a = record { units = refl; replies = refl }

beside_more : (a b c : Array) → IsBeside a b → IsBeside b c → IsBeside a c
beside_more a b c h k = record { units = k.units ∙ h.units; replies = k.replies ∙ h.replies }

cleared_beside : (by : ℕ) (lost : List Process) (a : Array) → IsBeside a (Steps.cleared_attentions by lost a)
cleared_beside by [] a = beside_self a
cleared_beside by (p ∷ lost) a = go (p.initiator == by)
    (Steps.is_reset_pending (sense_of_nexus a.attentions (nexus_of p))) (λ x. cleared_beside by lost x)
  where
    go : (y z : Bool) → ((x : Array) → IsBeside x (Steps.cleared_attentions by lost x))
        → IsBeside a (Steps.cleared_attentions by lost (if y then a else (if z then a
        else record a { attentions = (nexus_of p, commands_cleared) ∷ senses_without a.attentions (nexus_of p) })))
    go true z more = more a
    go false true more = more a
    go false false more =
        let next : Array = record a {
          attentions = (nexus_of p, commands_cleared) ∷ senses_without a.attentions (nexus_of p);
        } in
        beside_more a next (Steps.cleared_attentions by lost next) (record { units = refl; replies = refl }) (more next)

reset_beside : (hosts : List HostDef) (t n : ℕ) (a : Array) → IsBeside a (Steps.reset_attentions hosts t n a)
reset_beside [] t n a = beside_self a
reset_beside (h ∷ hosts) t n a =
    let next : Array = Steps.reset_attention a (record { initiator = h.dev; target = t; unit = n }) in
    beside_more a next (Steps.reset_attentions hosts t n next) (record { units = refl; replies = refl })
    (reset_beside hosts t n next)

all_reset_beside : (hosts : List HostDef) (us : List UnitState) (is_one : UnitState → Bool) (a : Array)
    → IsBeside a (Steps.unit_reset_attentions hosts us is_one a)
all_reset_beside hosts [] is_one a = beside_self a
all_reset_beside hosts (u ∷ us) is_one a = go (is_one u) (λ x. all_reset_beside hosts us is_one x)
  where
    go : (y : Bool) → ((x : Array) → IsBeside x (Steps.unit_reset_attentions hosts us is_one x)) → IsBeside a
        (Steps.unit_reset_attentions hosts us is_one (if y then Steps.reset_attentions hosts u.target u.unit a else a))
    go true more =
        let next : Array = Steps.reset_attentions hosts u.target u.unit a in
        beside_more a next (Steps.unit_reset_attentions hosts us is_one next) (reset_beside hosts u.target u.unit a)
        (more next)
    go false more = more a

status_beside : (a : Array) (p : Process) (reply : Reply) → IsBeside a (Steps.after_status a p reply)
status_beside a p reply =
    go (reply.status == CHECK_CONDITION) (reply.status == GOOD && is_request_sense (command_of p.cdb))
  where
    go : (y z : Bool) → IsBeside a (if y then record a {
      senses = (nexus_of p, reply.sense) ∷ senses_without a.senses (nexus_of p);
      holds = nexus_of p ∷ nexuses_without a.holds (nexus_of p);
    } else if z then record a {
      senses = senses_without a.senses (nexus_of p);
      holds = nexuses_without a.holds (nexus_of p);
    } else a)
    go true z = record { units = refl; replies = refl }
    go false true = record { units = refl; replies = refl }
    go false false = beside_self a

-- ---- each event

by_array : (a y x : Array) → IsLater a y → Some y ≡ Some x → IsLater a x
by_array a y x h e = let same : y ≡ x = cc in subst (λ (z : Array). IsLater a z) same h

accepted : (a x : Array) (p : Option Process) → Steps.accept_step a p ≡ Some x → IsLater a x
accepted a x None e = absurd (none_some x e)
accepted a x (Some p) e = at (unit_state_at a.units p.target p.unit) refl e
  where
    outside : IsLater a (Steps.with_guest a p None)
    outside = with_same a a.units (same_self a.units) (Steps.with_guest a p None) refl refl

    at : (u : Option UnitState) → unit_state_at a.units p.target p.unit ≡ u → Steps.accept_step_at a p u ≡ Some x
        → IsLater a x
    at None f k = by_array a (Steps.with_guest a p None) x outside k
    at (Some u) f k = sense (is_request_sense (command_of p.cdb)) k
      where
        room : (z : Bool)
            → (if z then Some (record a { units = with_unit a.units (record u { waiting = u.waiting ++ p ∷ [] }) })
            else None) ≡ Some x → IsLater a x
        room true m =
            let new : UnitState = record u { waiting = u.waiting ++ p ∷ [] } in
            let next : Array = record a { units = with_unit a.units new } in
            by_array a next x (with_same a (with_unit a.units new)
            (same_with a.units u new (place_found a.units p.target p.unit u f) (like_self u.contents)) next refl refl)
            m
        room false m = absurd (none_some x m)

        sense : (y : Bool) → (if y then Some (Steps.with_guest a p None) else Steps.queue_step a p u) ≡ Some x
            → IsLater a x
        sense true m = by_array a (Steps.with_guest a p None) x outside m
        sense false m = room (nat_lt (Steps.process_count u) u.depth) m

refused : (a x : Array) (p : Option Process) → Steps.refuse_step a p ≡ Some x → IsLater a x
refused a x None e = absurd (none_some x e)
refused a x (Some p) e = at (unit_state_at a.units p.target p.unit) e
  where
    at : (u : Option UnitState) → Steps.refuse_step_at a p u ≡ Some x → IsLater a x
    at None k = absurd (none_some x k)
    at (Some u) k = full (not (is_request_sense (command_of p.cdb)) && Steps.process_count u == u.depth) k
      where
        full : (y : Bool)
            → (if y then Some (Steps.with_listed_reply (Steps.with_guest a p (Some queue_full)) p.id queue_full)
            else None) ≡ Some x → IsLater a x
        full true m =
            let next : Array = Steps.with_listed_reply (Steps.with_guest a p (Some queue_full)) p.id queue_full in
            by_array a next x (with_reply_too a a.units p.id queue_full (same_self a.units) next refl refl) m
        full false m = absurd (none_some x m)

-- What a command did takes the place of the contents of its unit.
contents_later : (a : Array) (p : Process) (reported : Bool) (u : Option UnitState) (c : Contents)
    → unit_state_at a.units p.target p.unit ≡ u → ((v : UnitState) → u ≡ Some v → IsLike v.contents c)
    → IsLater a (Steps.with_contents (Steps.without_attention a reported (nexus_of p)) u c)
contents_later a p true None c f h =
    with_same a a.units (same_self a.units) (Steps.without_attention a true (nexus_of p)) refl refl
contents_later a p false None c f h = with_same a a.units (same_self a.units) a refl refl
contents_later a p true (Some u) c f h =
    let new : UnitState = record u { contents = c } in
    with_same a (with_unit a.units new) (same_with a.units u new (place_found a.units p.target p.unit u f) (h u refl))
    (Steps.with_contents (Steps.without_attention a true (nexus_of p)) (Some u) c) refl refl
contents_later a p false (Some u) c f h =
    let new : UnitState = record u { contents = c } in
    with_same a (with_unit a.units new) (same_with a.units u new (place_found a.units p.target p.unit u f) (h u refl))
    (Steps.with_contents a (Some u) c) refl refl

replied_later : (a : Array) (id : ProcId) (reply : Reply) → IsLater a (Steps.with_reply a id reply)
replied_later a id reply = with_reply_too a (Steps.units_with_reply a.units id reply) id reply
    (same_replied a.units id reply) (Steps.with_reply a id reply) refl refl

executed : (a : Array) (p : Process) → IsLater a (Steps.after_execution_at a p (unit_state_at a.units p.target p.unit))
executed a p = go (unit_state_at a.units p.target p.unit) refl
  where
    extent : (u : Option UnitState) (v : UnitState) → u ≡ Some v
        → IsLike v.contents (execution (Steps.context_at a (nexus_of p) u) p.cdb p.sent).contents
    extent None v e = cc
    extent (Some u) v e =
        let same : u ≡ v = cc in
        let m : CommandContext = Steps.context_at a (nexus_of p) (Some u) in
        let kept = extent_kept m p.cdb p.sent in
        subst (λ (z : UnitState). IsLike z.contents (execution m p.cdb p.sent).contents) same
        (record { count = kept.count; size = kept.size; kind = kind_kept m p.cdb p.sent })

    go : (u : Option UnitState) → unit_state_at a.units p.target p.unit ≡ u → IsLater a (Steps.after_execution_at a p u)
    go u f =
        let done : Execution = execution (Steps.context_at a (nexus_of p) u) p.cdb p.sent in
        let next : Array = Steps.with_contents (Steps.without_attention a done.reported (nexus_of p)) u done.contents in
        later_more a next (Steps.with_reply next p.id done.reply)
        (contents_later a p done.reported u done.contents f (extent u)) (replied_later next p.id done.reply)

ran : (a x : Array) (guest : Bool) (r : Option RunningProcess) → Steps.run_step a guest r ≡ Some x → IsLater a x
ran a x guest None e = absurd (none_some x e)
ran a x guest (Some r) e = go (is_none r.reply && (guest || not (is_held a.holds r.process.target r.process.unit))) e
  where
    next : Array
    next = Steps.after_execution_at a r.process (unit_state_at a.units r.process.target r.process.unit)

    go : (y : Bool) → (if y then Some next else None) ≡ Some x → IsLater a x
    go true k = by_array a next x (executed a r.process) k
    go false k = absurd (none_some x k)

failed_new : (a x : Array) (id : ProcId) (reply : Reply) (p : Option Process)
    → Steps.fail_step_of_new a id reply p ≡ Some x → IsLater a x
failed_new a x id reply None e = absurd (none_some x e)
failed_new a x id reply (Some p) e = go (Steps.is_waiting a.units id || Steps.has_ended a id) e
  where
    next : Array
    next = Steps.with_listed_reply (Steps.with_guest a p (Some reply)) id reply

    go : (y : Bool) → (if y then None else Some next) ≡ Some x → IsLater a x
    go true k = absurd (none_some x k)
    go false k = by_array a next x (with_reply_too a a.units id reply (same_self a.units) next refl refl) k

failed : (s : ScenarioValue) (a x : Array) (id : ProcId) (reply : Reply) (r : Option RunningProcess)
    → Steps.fail_step s a id reply r ≡ Some x → IsLater a x
failed s a x id reply None e = failed_new a x id reply (process_of s id) e
failed s a x id reply (Some r) e = go (is_none r.reply) e
  where
    go : (y : Bool) → (if y then Some (Steps.with_reply a id reply) else None) ≡ Some x → IsLater a x
    go true k = by_array a (Steps.with_reply a id reply) x (replied_later a id reply) k
    go false k = absurd (none_some x k)

left_later : (a b : Array) (id : ProcId) → IsBeside a b → IsLater a (Steps.array_without b id)
left_later a b id h = with_same a (Steps.units_without a.units id) (same_without a.units id) (Steps.array_without b id)
    (λ i. Steps.units_without (h.units i) id) h.replies

ended : (a x : Array) (status : ℕ) (r : Option RunningProcess) → Steps.end_step a status r ≡ Some x → IsLater a x
ended a x status None e = absurd (none_some x e)
ended a x status (Some r) e = with r.reply e
  where
    with : (reply : Option Reply) → Steps.end_step_with a r.process status reply ≡ Some x → IsLater a x
    with None k = absurd (none_some x k)
    with (Some reply) k = go (reply.status == status) k
      where
        left : Array
        left = Steps.array_without (Steps.after_status a r.process reply) r.process.id

        go : (y : Bool) → (if y then Some left else None) ≡ Some x → IsLater a x
        go true m = by_array a left x
            (left_later a (Steps.after_status a r.process reply) r.process.id (status_beside a r.process reply)) m
        go false m = absurd (none_some x m)

lost : (a x : Array) (id : ProcId) → Steps.loss_step a id ≡ Some x → IsLater a x
lost a x id e = go (Steps.has_ended a id) e
  where
    go : (y : Bool) → (if y then None else Some (Steps.array_without a id)) ≡ Some x → IsLater a x
    go true k = absurd (none_some x k)
    go false k = by_array a (Steps.array_without a id) x (left_later a a id (beside_self a)) k

dropped : (a : Array) (drops : Process → Bool) (b : Array) → IsBeside (Steps.without_dropped a drops) b → IsLater a b
dropped a drops b h = with_same a (Steps.kept_units drops a.units) (same_kept drops a.units) b h.units h.replies

aborted : (s : ScenarioValue) (a : Array) (i t n : ℕ) (what : AbortKind) → IsLater a (Steps.abort_step s a i t n what)
aborted s a i t n aborts.All = dropped a (λ p. p.initiator == i && Steps.is_of_unit p t n)
    (Steps.abort_step s a i t n aborts.All) (record { units = refl; replies = refl })
aborted s a i t n (aborts.Tag tag) = dropped a (λ p. p.initiator == i && Steps.is_of_unit p t n
    && Steps.has_tag p.tag tag) (Steps.abort_step s a i t n (aborts.Tag tag)) (record { units = refl; replies = refl })
aborted s a i t n aborts.WholeQueue =
    dropped a (λ p. Steps.is_of_unit p t n) (Steps.abort_step s a i t n aborts.WholeQueue) (cleared_beside i
    (Steps.unit_processes (unit_state_at a.units t n)) (Steps.without_dropped a (λ p. Steps.is_of_unit p t n)))
aborted s a i t n aborts.Device =
    let left : Array = record (Steps.without_dropped a (λ p. p.target == t)) {
      senses = Steps.kept_senses (λ q. q.target == t) a.senses;
      holds = Steps.kept_nexuses (λ q. q.target == t) a.holds;
    } in
    dropped a (λ p. p.target == t) (Steps.abort_step s a i t n aborts.Device)
    (beside_more (Steps.without_dropped a (λ p. p.target == t)) left (Steps.abort_step s a i t n aborts.Device)
    (record { units = refl; replies = refl }) (all_reset_beside s.hosts a.units (λ u. u.target == t) left))

was_reset : (s : ScenarioValue) (a : Array) → IsLater a (Steps.reset_step s a)
was_reset s a =
    let left : Array = record (Steps.without_dropped a (λ p. true)) { senses = []; holds = [] } in
    dropped a (λ p. true) (Steps.reset_step s a)
    (beside_more (Steps.without_dropped a (λ p. true)) left (Steps.reset_step s a)
    (record { units = refl; replies = refl }) (all_reset_beside s.hosts a.units (λ u. true) left))

event_later : (s : ScenarioValue) (a x : Array) (event : Event) → event_step s a event ≡ Some x → IsLater a x
event_later s a x (events.Accept id) e = accepted a x (process_of s id) e
event_later s a x (events.Refuse id) e = refused a x (process_of s id) e
event_later s a x (events.Run id) e = ran a x (is_some (guest_at a.guests id)) (Steps.running_process a id) e
event_later s a x (events.Fail id code) e =
    failed s a x id (check_condition (sense_of ABORTED_COMMAND code 0x00)) (Steps.running_process a id) e
event_later s a x (events.End id status) e = ended a x status (Steps.running_process a id) e
event_later s a x (events.Lost id) e = lost a x id e
event_later s a x (events.Aborted i t n what) e =
    by_array a (Steps.abort_step s a i t n what) x (aborted s a i t n what) e
event_later s a x (events.Reset dev) e = by_array a (Steps.reset_step s a) x (was_reset s a) e

settled_later : (a : Array) → IsLater a (settled_array a)
settled_later a =
    with_same a (units_after_choice a.holds a.units) (same_chosen a.holds a.units) (settled_array a) refl refl

pub step_later : (s : ScenarioValue) (a b : Array) (event : Event) → step s event a ≡ Some b → IsLater a b
step_later s a b event e = go (event_step s a event) refl e
  where
    go : (x : Option Array) → event_step s a event ≡ x → settled_array_if x ≡ Some b → IsLater a b
    go None f k = absurd (none_some b k)
    go (Some x) f k = by_array a (settled_array x) b
        (later_more a x (settled_array x) (event_later s a x event f) (settled_later x)) k

-- ---- a process that ran has a reply

pub running_is : (us : List UnitState) (id : ProcId) (r : RunningProcess) → Steps.running_in us id ≡ Some r
    → same_id r.process.id id ≡ true
running_is [] id r e = cc
running_is (u ∷ us) id r e = go (Steps.running_if u.current id) refl e (λ k. running_is us id r k)
  where
    own : (c : Option RunningProcess) → Steps.running_if c id ≡ Some r → same_id r.process.id id ≡ true
    own None k = cc
    own (Some q) k = at (same_id q.process.id id) refl k
      where
        at : (y : Bool) → same_id q.process.id id ≡ y → (if y then Some q else None) ≡ Some r
            → same_id r.process.id id ≡ true
        at true f m = let same : q ≡ r = cc in (λ i. same_id (sym same i).process.id id) ∙ f
        at false f m = cc

    go : (x : Option RunningProcess) → Steps.running_if u.current id ≡ x
        → (if is_some x then x else Steps.running_in us id) ≡ Some r
        → (Steps.running_in us id ≡ Some r → same_id r.process.id id ≡ true) → same_id r.process.id id ≡ true
    go None f k more = more k
    go (Some q) f k more = own u.current (f ∙ k)

pub process_is : (a : Array) (id : ProcId) (r : RunningProcess) → Steps.running_process a id ≡ Some r
    → same_id r.process.id id ≡ true
process_is a id r e = go (guest_at a.guests id) refl e
  where
    go : (x : Option RunningProcess) → guest_at a.guests id ≡ x
        → (if is_some x then x else Steps.running_in a.units id) ≡ Some r → same_id r.process.id id ≡ true
    go None f k = running_is a.units id r k
    go (Some g) f k = found_id a.guests id r (f ∙ k)

-- It has one.
abbrev pub IsAnswered : List (ProcId × Reply) → ProcId → Type 0
IsAnswered replies id = (reply : Reply) × (reply_in replies id ≡ Some reply)

pub run_answered : (s : ScenarioValue) (a b : Array) (id : ProcId) → step s (events.Run id) a ≡ Some b
    → IsAnswered b.replies id
run_answered s a b id e = go (Steps.running_process a id) refl e
  where
    go : (x : Option RunningProcess) → Steps.running_process a id ≡ x
        → settled_array_if (Steps.run_step a (is_some (guest_at a.guests id)) x) ≡ Some b → IsAnswered b.replies id
    go None f k = absurd (none_some b k)
    go (Some r) f k = allowed
        (is_none r.reply && (is_some (guest_at a.guests id) || not (is_held a.holds r.process.target r.process.unit))) k
      where
        u : Option UnitState
        u = unit_state_at a.units r.process.target r.process.unit

        next : Array
        next = Steps.after_execution_at a r.process u

        reply : Reply
        reply = (execution (Steps.context_at a (nexus_of r.process) u) r.process.cdb r.process.sent).reply

        self : same_id r.process.id id ≡ true
        self = process_is a id r f

        allowed : (y : Bool) → settled_array_if (if y then Some next else None) ≡ Some b → IsAnswered b.replies id
        allowed false m = absurd (none_some b m)
        allowed true m =
            let same : settled_array next ≡ b = cc in
            subst (λ (z : Array). IsAnswered z.replies id) same (
              reply,
              λ i. if self i then Some reply else reply_in (Steps.with_contents (Steps.without_attention a
                  (execution (Steps.context_at a (nexus_of r.process) u) r.process.cdb r.process.sent).reported
                  (nexus_of r.process)) u
                  (execution (Steps.context_at a (nexus_of r.process) u) r.process.cdb r.process.sent).contents).replies
                  id,
            )

-- ---- what stands at a place

pub none_after : (us vs : List UnitState) (t n : ℕ) → AreSame us vs → unit_state_at us t n ≡ None
    → unit_state_at vs t n ≡ None
none_after [] [] t n h e = refl
none_after [] (v ∷ vs) t n h e = absurd h
none_after (u ∷ us) [] t n h e = absurd h
none_after (u ∷ us) (v ∷ vs) t n h e = (λ i. if h.0 i == t && h.1 i == n then Some v else unit_state_at vs t n)
    ∙ go (u.target == t && u.unit == n) e (λ k. none_after us vs t n h.3 k)
  where
    go : (y : Bool) → (if y then Some u else unit_state_at us t n) ≡ None
        → (unit_state_at us t n ≡ None → unit_state_at vs t n ≡ None)
        → (if y then Some v else unit_state_at vs t n) ≡ None
    go true k more = cc
    go false k more = more k

pub times_after : (us vs : List UnitState) (times : List ℕ) (now : ℕ) → AreSame us vs → length times ≡ length us
    → length (current_times_after us vs times now) ≡ length vs
times_after [] [] times now h e = refl
times_after [] (v ∷ vs) times now h e = absurd h
times_after (u ∷ us) [] times now h e = absurd h
times_after (u ∷ us) (v ∷ vs) [] now h e = cc
times_after (u ∷ us) (v ∷ vs) (time ∷ times) now h e =
    let rest : length times ≡ length us = cc in
    ap (λ (k : ℕ). suc k) (times_after us vs times now h.3 rest)

pub since_after : (us vs : List UnitState) (times : List ℕ) (now t n : ℕ) (x : UnitState)
    → AreSame us vs → length times ≡ length us → unit_state_at us t n ≡ Some x
    → since_of vs (current_times_after us vs times now) t n
    ≡ (if is_same_running (current_of (unit_state_at us t n)) (current_of (unit_state_at vs t n))
    then since_of us times t n else now)
since_after [] vs times now t n x h l e = cc
since_after (u ∷ us) [] times now t n x h l e = absurd h
since_after (u ∷ us) (v ∷ vs) [] now t n x h l e = cc
since_after (u ∷ us) (v ∷ vs) (time ∷ times) now t n x h l e =
    let rest : length times ≡ length us = cc in
    (λ i. if h.0 i == t && h.1 i == n then (if is_same_running u.current v.current then time else now)
    else since_of vs (current_times_after us vs times now) t n)
    ∙ go (u.target == t && u.unit == n) e (λ k. since_after us vs times now t n x h.3 rest k)
    ∙ (λ i. if is_same_running (current_of (if u.target == t && u.unit == n then Some u else unit_state_at us t n))
    (current_of (if sym h.0 i == t && sym h.1 i == n then Some v else unit_state_at vs t n))
    then (if u.target == t && u.unit == n then time else since_of us times t n) else now)
  where
    go : (y : Bool) → (if y then Some u else unit_state_at us t n) ≡ Some x
        → (unit_state_at us t n ≡ Some x → since_of vs (current_times_after us vs times now) t n ≡ (if is_same_running
        (current_of (unit_state_at us t n)) (current_of (unit_state_at vs t n)) then since_of us times t n else now))
        → (if y then (if is_same_running u.current v.current then time else now)
        else since_of vs (current_times_after us vs times now) t n)
        ≡ (if is_same_running (current_of (if y then Some u else unit_state_at us t n))
        (current_of (if y then Some v else unit_state_at vs t n)) then (if y then time else since_of us times t n)
        else now)
    go true k more = refl
    go false k more = more k
