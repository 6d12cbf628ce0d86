-- The replies of the processes that run at a seat, after each event.
use Rattle.std.proofs.Common.{ℕ, zero, suc, ◌≡◌, Bool, true, false, List, [], ◌∷◌, ◌++◌, ◌∙◌, refl, sym, subst, Option}
use Rattle.std.proofs.Common.{Some, None}
use Rattle.std.specs.Prelude.{if◌then◌else◌, not, ◌&&◌, ◌||◌, ◌==◌, is_some, is_none, nat_lt}
use Rattle.bus_base.specs.declared.AbortKind.{AbortKind}
use Rattle.bus_base.specs.declared.AbortKind.TheVariants as aborts
use Rattle.bus_base.specs.declared.ProcId.{ProcId}
use Rattle.cdb_codec.specs.declared.status.TheConstants.{GOOD, CHECK_CONDITION}
use Rattle.cdb_codec.specs.Cdb.{command_of}
use Rattle.scenario.specs.declared.value.HostDef.{HostDef}
use Rattle.scenario.specs.Value.{ScenarioValue}
use Rattle.array_model.specs.ArrayHistory.{reply_in}
use Rattle.array_model.specs.Execution.{Reply, execution, is_request_sense, queue_full}
use Rattle.array_model.specs.Processes.{Process, process_of, same_id}
use Rattle.array_model.specs.Order.{choice, process_at, process_at_if, chosen_place, entries_of, without_process}
use Rattle.array_model.specs.Units.{RunningProcess, UnitState, guest_at, without_guest, with_current, has_no_current}
use Rattle.array_model.specs.Steps.{running_if, process_count, guests_with_reply, current_with_reply, unit_without}
use Rattle.array_model.specs.Steps.{kept_processes, kept_running, kept_guests, has_tag}
use Rattle.array_model.specs.Seats
use Rattle.array_model.specs.Seats.{Seat, settled_seat, running_at, is_waiting_at, current_of, waits_in}
use Rattle.array_model.specs.SoundArray.{AllOwnGuests}
use Rattle.array_model.specs.SeatReplies.{HasReplies, IsNowhere, AreOfScenario}
use Rattle.array_model.proofs.SeatLookups.{same_id_is}
use Rattle.array_model.proofs.SeatOwn.{own_is, guest_process}
use Rattle.std.proofs.lemmas.Bool.{or_right}
use Rattle.bus_base.proofs.Tests.{eq_self}

-- ---- numbers

pub id_self : (id : ProcId) → same_id id id ≡ true
id_self id = λ i. eq_self id.command i && bool_self id.sense i
  where
    bool_self : (b : Bool) → Rattle.array_model.specs.Processes.same_bool b b ≡ true
    bool_self true = refl
    bool_self false = refl

pub id_turned : (a b : ProcId) → same_id a b ≡ false → same_id b a ≡ false
id_turned a b h = go (same_id b a) refl
  where
    go : (y : Bool) → same_id b a ≡ y → y ≡ false
    go false e = refl
    go true e =
        let same : b ≡ a = same_id_is b a e in
        sym (subst (λ (n : ProcId). same_id n b ≡ true) same (id_self b)) ∙ h

-- A guest has the number that it was found by.
pub guest_id : (guests : List RunningProcess) (id : ProcId) (r : RunningProcess) → guest_at guests id ≡ Some r
    → r.process.id ≡ id
guest_id [] id r h = cc
guest_id (g ∷ guests) id r h = go (same_id g.process.id id) refl h (λ k. guest_id guests id r k)
  where
    go : (y : Bool) → same_id g.process.id id ≡ y → (if y then Some g else guest_at guests id) ≡ Some r
        → (guest_at guests id ≡ Some r → r.process.id ≡ id) → r.process.id ≡ id
    go true e k more =
        let same : g ≡ r = cc in
        subst (λ (q : RunningProcess). q.process.id ≡ id) same (same_id_is g.process.id id e)
    go false e k more = more k

-- The reply of a process that was given last, and those of others.
given_last : (replies : List (ProcId × Reply)) (id other : ProcId) (reply : Reply) → same_id id other ≡ true
    → reply_in ((id, reply) ∷ replies) other ≡ Some reply
given_last replies id other reply e = λ i. if e i then Some reply else reply_in replies other

given_before : (replies : List (ProcId × Reply)) (id other : ProcId) (reply : Reply) → same_id id other ≡ false
    → reply_in ((id, reply) ∷ replies) other ≡ reply_in replies other
given_before replies id other reply e = λ i. if e i then Some reply else reply_in replies other

-- ---- the parts of a seat: its guests, its queue, its current process

abbrev pub first : Option RunningProcess → Option RunningProcess → Option RunningProcess
first x y = if is_some x then x else y

abbrev running_of : List RunningProcess → Option RunningProcess → ProcId → Option RunningProcess
running_of guests current id = first (guest_at guests id) (running_if current id)

record Has (replies : List (ProcId × Reply)) (guests : List RunningProcess) (waiting : List Process)
    (current : Option RunningProcess) : Type 0 where
  running : (id : ProcId) (r : RunningProcess) → running_of guests current id ≡ Some r → reply_in replies id ≡ r.reply
  waiting_none : (id : ProcId) → waits_in waiting id ≡ true → reply_in replies id ≡ None
  apart : (id : ProcId) → waits_in waiting id ≡ true → running_of guests current id ≡ None

-- ---- the choice

without_waits : (waiting : List Process) (x id : ProcId) → waits_in (without_process waiting x) id ≡ true
    → waits_in waiting id ≡ true
without_waits [] x id e = e
without_waits (q ∷ waiting) x id e = go (λ k. without_waits waiting x id k) (same_id q.id x) e
  where
    kept : (waits_in (without_process waiting x) id ≡ true → waits_in waiting id ≡ true) → (y : Bool)
        → (y || waits_in (without_process waiting x) id) ≡ true → (y || waits_in waiting id) ≡ true
    kept rest true k = refl
    kept rest false k = rest k

    go : (waits_in (without_process waiting x) id ≡ true → waits_in waiting id ≡ true) → (y : Bool)
        → waits_in (if y then without_process waiting x else q ∷ without_process waiting x) id ≡ true
        → (same_id q.id id || waits_in waiting id) ≡ true
    go rest true k = or_right (same_id q.id id) (waits_in waiting id) (rest k)
    go rest false k = kept rest (same_id q.id id) k

without_other : (waiting : List Process) (x id : ProcId) → waits_in (without_process waiting x) id ≡ true
    → same_id x id ≡ false
without_other [] x id e = cc
without_other (q ∷ waiting) x id e = go (λ k. without_other waiting x id k) (same_id q.id x) refl e
  where
    here : same_id q.id x ≡ false → same_id q.id id ≡ true → (y : Bool) → same_id x id ≡ y → y ≡ false
    here z w false v = refl
    here z w true v =
        let same : q.id ≡ x = same_id_is q.id id w ∙ sym (same_id_is x id v) in
        let bad : true ≡ false = sym (id_self q.id) ∙ (λ i. same_id q.id (same i)) ∙ z in
        cc

    kept : (waits_in (without_process waiting x) id ≡ true → same_id x id ≡ false) → same_id q.id x ≡ false → (y : Bool)
        → same_id q.id id ≡ y → (y || waits_in (without_process waiting x) id) ≡ true → same_id x id ≡ false
    kept rest z true w k = here z w (same_id x id) refl
    kept rest z false w k = rest k

    go : (waits_in (without_process waiting x) id ≡ true → same_id x id ≡ false) → (y : Bool) → same_id q.id x ≡ y
        → waits_in (if y then without_process waiting x else q ∷ without_process waiting x) id ≡ true
        → same_id x id ≡ false
    go rest true z k = rest k
    go rest false z k = kept rest z (same_id q.id id) refl k

pub last_waits : (waiting : List Process) (p : Process) → waits_in (waiting ++ p ∷ []) p.id ≡ true
last_waits [] p = λ i. id_self p.id i || false
last_waits (q ∷ waiting) p = or_right (same_id q.id p.id) (waits_in (waiting ++ p ∷ []) p.id) (last_waits waiting p)

pub place_waits : (waiting : List Process) (place : ℕ) (p : Process) → process_at waiting place ≡ Some p
    → waits_in waiting p.id ≡ true
place_waits [] place p e = cc
place_waits (q ∷ waiting) zero p e =
    let same : q ≡ p = cc in
    (λ i. same_id (same i).id p.id || waits_in waiting p.id) ∙ (λ i. id_self p.id i || waits_in waiting p.id)
place_waits (q ∷ waiting) (suc place) p e =
    or_right (same_id q.id p.id) (waits_in waiting p.id) (place_waits waiting place p e)

pub choice_waits : (waiting : List Process) (place : Option ℕ) (p : Process) → process_at_if waiting place ≡ Some p
    → waits_in waiting p.id ≡ true
choice_waits waiting None p e = cc
choice_waits waiting (Some place) p e = place_waits waiting place p e

chosen : (rs : List (ProcId × Reply)) (gs : List RunningProcess) (ws : List Process) (p : Process) → Has rs gs ws None
    → waits_in ws p.id ≡ true → Has rs gs (without_process ws p.id) (Some (record { process = p; reply = None }))
chosen rs gs ws p h w = record {
  running = λ id r e. runs id r (guest_at gs id) refl e;
  waiting_none = λ id e. h.waiting_none id (without_waits ws p.id id e);
  apart = λ id e. stays id (guest_at gs id) refl (h.apart id (without_waits ws p.id id e)) (without_other ws p.id id e);
}
  where
    own : (id : ProcId) (r : RunningProcess) (y : Bool) → same_id p.id id ≡ y
        → (if y then Some (record { process = p; reply = None }) else None) ≡ Some r → reply_in rs id ≡ r.reply
    own id r true z k =
        let same : record { process = p; reply = None } ≡ r = cc in
        h.waiting_none id ((λ i. waits_in ws (sym (same_id_is p.id id z) i)) ∙ w) ∙ (λ i. (same i).reply)
    own id r false z k = cc

    runs : (id : ProcId) (r : RunningProcess) (x : Option RunningProcess) → guest_at gs id ≡ x
        → first x (running_if (Some (record { process = p; reply = None })) id) ≡ Some r → reply_in rs id ≡ r.reply
    runs id r (Some g) f k = h.running id r ((λ i. first (f i) None) ∙ k)
    runs id r None f k = own id r (same_id p.id id) refl k

    stays : (id : ProcId) (x : Option RunningProcess) → guest_at gs id ≡ x
        → first x None ≡ None → same_id p.id id ≡ false
        → first (guest_at gs id) (running_if (Some (record { process = p; reply = None })) id) ≡ None
    stays id (Some g) f k z = cc
    stays id None f k z = (λ i. first (f i) (if z i then Some (record { process = p; reply = None }) else None))

-- ---- a guest more

append_found : (gs : List RunningProcess) (g : RunningProcess) (id : ProcId) (x : Option RunningProcess)
    → guest_at gs id ≡ x → guest_at (gs ++ g ∷ []) id ≡ first x (if same_id g.process.id id then Some g else None)
append_found [] g id x e = (λ i. first (e i) (if same_id g.process.id id then Some g else None))
append_found (f ∷ gs) g id x e = go (λ k. append_found gs g id x k) (same_id f.process.id id) e
  where
    go : (guest_at gs id ≡ x → guest_at (gs ++ g ∷ []) id ≡ first x (if same_id g.process.id id then Some g else None))
        → (y : Bool) → (if y then Some f else guest_at gs id) ≡ x
        → (if y then Some f else guest_at (gs ++ g ∷ []) id)
        ≡ first x (if same_id g.process.id id then Some g else None)
    go more true k = (λ i. first (k i) (if same_id g.process.id id then Some g else None))
    go more false k = more k

none_first : (x y : Option RunningProcess) → first x y ≡ None → x ≡ None
none_first None y e = refl
none_first (Some x) y e = cc

with_guest : (rs next : List (ProcId × Reply)) (gs : List RunningProcess)
    (ws : List Process) (c : Option RunningProcess) (p : Process) (reply : Option Reply)
    → Has rs gs ws c → running_of gs c p.id ≡ None → waits_in ws p.id ≡ false → reply_in next p.id ≡ reply
    → ((id : ProcId) → same_id p.id id ≡ false → reply_in next id ≡ reply_in rs id)
    → Has next (gs ++ record { process = p; reply = reply } ∷ []) ws c
with_guest rs next gs ws c p reply h none free given other = record {
  running = λ id r e. runs id r (same_id p.id id) refl e;
  waiting_none = λ id e. other id (differs id e (same_id p.id id) refl) ∙ h.waiting_none id e;
  apart = λ id e. unchanged id (differs id e (same_id p.id id) refl) ∙ h.apart id e;
}
  where
    g : RunningProcess
    g = record { process = p; reply = reply }

    differs : (id : ProcId) → waits_in ws id ≡ true → (y : Bool) → same_id p.id id ≡ y → same_id p.id id ≡ false
    differs id e false z = z
    differs id e true z =
        let bad : false ≡ true = sym free ∙ (λ i. waits_in ws (same_id_is p.id id z i)) ∙ e in
        cc

    unchanged : (id : ProcId) → same_id p.id id ≡ false → running_of (gs ++ g ∷ []) c id ≡ running_of gs c id
    unchanged id z =
        (λ i. first ((append_found gs g id (guest_at gs id) refl ∙ past (guest_at gs id)) i) (running_if c id))
      where
        past : (x : Option RunningProcess) → first x (if same_id p.id id then Some g else None) ≡ x
        past None = λ i. if z i then Some g else None
        past (Some x) = refl

    runs : (id : ProcId) (r : RunningProcess) (y : Bool) → same_id p.id id ≡ y → running_of (gs ++ g ∷ []) c id ≡ Some r
        → reply_in next id ≡ r.reply
    runs id r false z e = other id z ∙ h.running id r (sym (unchanged id z) ∙ e)
    runs id r true z e =
        let same : p.id ≡ id = same_id_is p.id id z in
        let nobody : guest_at gs id ≡ None = (λ i. guest_at gs (sym same i))
        ∙ none_first (guest_at gs p.id) (running_if c p.id) none in
        let found : guest_at (gs ++ g ∷ []) id ≡ Some g = append_found gs g id None nobody
        ∙ (λ i. if z i then Some g else None) in
        let it : Some g ≡ Some r = (λ i. first (sym found i) (running_if c id)) ∙ e in
        let is : g ≡ r = cc in
        (λ i. reply_in next (sym same i)) ∙ given ∙ (λ i. (is i).reply)

-- ---- one more waits

append_new : (ws : List Process) (p : Process) (id : ProcId) → waits_in ws id ≡ false
    → waits_in (ws ++ p ∷ []) id ≡ true → same_id p.id id ≡ true
append_new [] p id e k = or_false (same_id p.id id) k
  where
    or_false : (x : Bool) → (x || false) ≡ true → x ≡ true
    or_false true l = refl
    or_false false l = l
append_new (q ∷ ws) p id e k = one (λ m n. append_new ws p id m n) (same_id q.id id) e k
  where
    one : (waits_in ws id ≡ false → waits_in (ws ++ p ∷ []) id ≡ true → same_id p.id id ≡ true) → (x : Bool)
        → (x || waits_in ws id) ≡ false → (x || waits_in (ws ++ p ∷ []) id) ≡ true → same_id p.id id ≡ true
    one more true m n = cc
    one more false m n = more m n

append_waits : (ws : List Process) (p : Process) (id : ProcId) (y : Bool) → waits_in ws id ≡ y
    → waits_in (ws ++ p ∷ []) id ≡ true → (if y then true else same_id p.id id) ≡ true
append_waits ws p id true e k = refl
append_waits ws p id false e k = append_new ws p id e k

with_waiting : (rs : List (ProcId × Reply)) (gs : List RunningProcess) (ws : List Process) (c : Option RunningProcess)
    (p : Process) → Has rs gs ws c → running_of gs c p.id ≡ None → reply_in rs p.id ≡ None → Has rs gs (ws ++ p ∷ []) c
with_waiting rs gs ws c p h none free = record {
  running = h.running;
  waiting_none = λ id e. unanswered id (waits_in ws id) refl (append_waits ws p id (waits_in ws id) refl e);
  apart = λ id e. stands id (waits_in ws id) refl (append_waits ws p id (waits_in ws id) refl e);
}
  where
    unanswered : (id : ProcId) (y : Bool) → waits_in ws id ≡ y → (if y then true else same_id p.id id) ≡ true
        → reply_in rs id ≡ None
    unanswered id true e k = h.waiting_none id e
    unanswered id false e k = (λ i. reply_in rs (sym (same_id_is p.id id k) i)) ∙ free

    stands : (id : ProcId) (y : Bool) → waits_in ws id ≡ y → (if y then true else same_id p.id id) ≡ true
        → running_of gs c id ≡ None
    stands id true e k = h.apart id e
    stands id false e k = (λ i. running_of gs c (sym (same_id_is p.id id k) i)) ∙ none

-- ---- a reply is given

guests_replied : (gs : List RunningProcess) (id other : ProcId) (reply : Reply) → same_id id other ≡ false
    → guest_at (guests_with_reply gs id reply) other ≡ guest_at gs other
guests_replied [] id other reply z = refl
guests_replied (g ∷ gs) id other reply z = go (guests_replied gs id other reply z) (same_id g.process.id id) refl
  where
    no : same_id g.process.id id ≡ true → same_id g.process.id other ≡ false
    no w = (λ i. same_id (same_id_is g.process.id id w i) other) ∙ z

    go : guest_at (guests_with_reply gs id reply) other ≡ guest_at gs other → (y : Bool) → same_id g.process.id id ≡ y
        → guest_at (if y then record g { reply = Some reply } ∷ gs else g ∷ guests_with_reply gs id reply) other
        ≡ (if same_id g.process.id other then Some g else guest_at gs other)
    go more true w = (λ i. if no w i then Some (record g { reply = Some reply }) else guest_at gs other)
        ∙ (λ i. if sym (no w) i then Some g else guest_at gs other)
    go more false w = λ i. if same_id g.process.id other then Some g else more i

current_replied : (c : Option RunningProcess) (id other : ProcId) (reply : Reply) → same_id id other ≡ false
    → running_if (current_with_reply c id reply) other ≡ running_if c other
current_replied None id other reply z = refl
current_replied (Some r) id other reply z = go (same_id r.process.id id) refl
  where
    no : same_id r.process.id id ≡ true → same_id r.process.id other ≡ false
    no w = (λ i. same_id (same_id_is r.process.id id w i) other) ∙ z

    go : (y : Bool) → same_id r.process.id id ≡ y
        → running_if (if y then Some (record r { reply = Some reply }) else Some r) other
        ≡ (if same_id r.process.id other then Some r else None)
    go true w = (λ i. if no w i then Some (record r { reply = Some reply }) else None)
        ∙ (λ i. if sym (no w) i then Some r else None)
    go false w = refl

-- The first guest of this number has it, or else the current process.
guest_has : (gs : List RunningProcess) (id : ProcId) (reply : Reply) (r : RunningProcess)
    → guest_at (guests_with_reply gs id reply) id ≡ Some r → r.reply ≡ Some reply
guest_has [] id reply r e = cc
guest_has (g ∷ gs) id reply r e = go (λ k. guest_has gs id reply r k) (same_id g.process.id id) refl e
  where
    go : (guest_at (guests_with_reply gs id reply) id ≡ Some r → r.reply ≡ Some reply)
        → (y : Bool) → same_id g.process.id id ≡ y
        → guest_at (if y then record g { reply = Some reply } ∷ gs else g ∷ guests_with_reply gs id reply) id ≡ Some r
        → r.reply ≡ Some reply
    go more true w k =
        let it : Some (record g { reply = Some reply }) ≡ Some r =
        (λ i. if sym w i then Some (record g { reply = Some reply }) else guest_at gs id) ∙ k in
        let is : record g { reply = Some reply } ≡ r = cc in
        λ i. (sym is i).reply
    go more false w k = more ((λ i. if sym w i then Some g else guest_at (guests_with_reply gs id reply) id) ∙ k)

current_has : (c : Option RunningProcess) (id : ProcId) (reply : Reply) (r : RunningProcess)
    → running_if (current_with_reply c id reply) id ≡ Some r → r.reply ≡ Some reply
current_has None id reply r e = cc
current_has (Some q) id reply r e = go (same_id q.process.id id) refl e
  where
    go : (y : Bool) → same_id q.process.id id ≡ y
        → running_if (if y then Some (record q { reply = Some reply }) else Some q) id ≡ Some r → r.reply ≡ Some reply
    go true w k =
        let it : Some (record q { reply = Some reply }) ≡ Some r =
        (λ i. if sym w i then Some (record q { reply = Some reply }) else None) ∙ k in
        let is : record q { reply = Some reply } ≡ r = cc in
        λ i. (sym is i).reply
    go false w k = let bad : None ≡ Some r = (λ i. if sym w i then Some q else None) ∙ k in cc

replied : (rs : List (ProcId × Reply)) (gs : List RunningProcess) (ws : List Process) (c : Option RunningProcess)
    (id : ProcId) (reply : Reply) (q : RunningProcess) → Has rs gs ws c → running_of gs c id ≡ Some q
    → Has ((id, reply) ∷ rs) (guests_with_reply gs id reply) ws (current_with_reply c id reply)
replied rs gs ws c id reply q h there = record {
  running = λ other r e. runs other r (same_id id other) refl e;
  waiting_none =
      λ other e. given_before rs id other reply (differs other e (same_id id other) refl) ∙ h.waiting_none other e;
  apart = λ other e. unchanged other (differs other e (same_id id other) refl) ∙ h.apart other e;
}
  where
    differs : (other : ProcId) → waits_in ws other ≡ true → (y : Bool) → same_id id other ≡ y → same_id id other ≡ false
    differs other e false z = z
    differs other e true z =
        let bad : None ≡ Some q = sym (h.apart other e)
        ∙ (λ i. running_of gs c (sym (same_id_is id other z) i)) ∙ there in
        cc

    unchanged : (other : ProcId) → same_id id other ≡ false
        → running_of (guests_with_reply gs id reply) (current_with_reply c id reply) other ≡ running_of gs c other
    unchanged other z = λ i. first (guests_replied gs id other reply z i) (current_replied c id other reply z i)

    has : (x : Option RunningProcess) (r : RunningProcess) → guest_at (guests_with_reply gs id reply) id ≡ x
        → first x (running_if (current_with_reply c id reply) id) ≡ Some r → r.reply ≡ Some reply
    has (Some g) r f k = guest_has gs id reply r (f ∙ k)
    has None r f k = current_has c id reply r k

    runs : (other : ProcId) (r : RunningProcess) (y : Bool) → same_id id other ≡ y
        → running_of (guests_with_reply gs id reply) (current_with_reply c id reply) other ≡ Some r
        → reply_in ((id, reply) ∷ rs) other ≡ r.reply
    runs other r false z e = given_before rs id other reply z ∙ h.running other r (sym (unchanged other z) ∙ e)
    runs other r true z e =
        let same : id ≡ other = same_id_is id other z in
        given_last rs id other reply z ∙ sym (has (guest_at (guests_with_reply gs id reply) id) r refl
        ((λ i. running_of (guests_with_reply gs id reply) (current_with_reply c id reply) (same i)) ∙ e))

-- ---- a process leaves

guests_without : (gs : List RunningProcess) (id other : ProcId) (y : Bool) → same_id id other ≡ y
    → guest_at (without_guest gs id) other ≡ (if y then None else guest_at gs other)
guests_without [] id other true z = refl
guests_without [] id other false z = refl
guests_without (g ∷ gs) id other y z = go (λ x v. guests_without gs id other x v) (same_id g.process.id id) refl y z
  where
    go : ((x : Bool) → same_id id other ≡ x
        → guest_at (without_guest gs id) other ≡ (if x then None else guest_at gs other))
        → (x : Bool) → same_id g.process.id id ≡ x → (y : Bool) → same_id id other ≡ y
        → guest_at (if x then without_guest gs id else g ∷ without_guest gs id) other
        ≡ (if y then None else (if same_id g.process.id other then Some g else guest_at gs other))
    go more true w true v = more true v
    go more true w false v =
        let no : same_id g.process.id other ≡ false = (λ i. same_id (same_id_is g.process.id id w i) other) ∙ v in
        more false v ∙ (λ i. if sym no i then Some g else guest_at gs other)
    go more false w true v =
        let no : same_id g.process.id other ≡ false = (λ i. same_id g.process.id (sym (same_id_is id other v) i)) ∙ w in
        (λ i. if no i then Some g else guest_at (without_guest gs id) other) ∙ more true v
    go more false w false v = λ i. if same_id g.process.id other then Some g else more false v i

current_without : (c : Option RunningProcess) (id other : ProcId) (y : Bool) → same_id id other ≡ y
    → running_if (if is_some (running_if c id) then None else c) other ≡ (if y then None else running_if c other)
current_without None id other true z = refl
current_without None id other false z = refl
current_without (Some q) id other y z = go (same_id q.process.id id) refl y z
  where
    go : (x : Bool) → same_id q.process.id id ≡ x → (y : Bool) → same_id id other ≡ y
        → running_if (if is_some (if x then Some q else None) then None else Some q) other
        ≡ (if y then None else (if same_id q.process.id other then Some q else None))
    go true w true v = refl
    go true w false v =
        let no : same_id q.process.id other ≡ false = (λ i. same_id (same_id_is q.process.id id w i) other) ∙ v in
        λ i. if sym no i then Some q else None
    go false w true v =
        let no : same_id q.process.id other ≡ false = (λ i. same_id q.process.id (sym (same_id_is id other v) i)) ∙ w in
        λ i. if no i then Some q else None
    go false w false v = refl

without : (rs : List (ProcId × Reply)) (gs : List RunningProcess)
    (ws : List Process) (c : Option RunningProcess) (id : ProcId) → Has rs gs ws c
    → Has rs (without_guest gs id) (without_process ws id) (if is_some (running_if c id) then None else c)
without rs gs ws c id h = record {
  running = λ other r e. runs other r (same_id id other) refl e;
  waiting_none = λ other e. h.waiting_none other (without_waits ws id other e);
  apart = λ other e. stands other (without_other ws id other e) ∙ h.apart other (without_waits ws id other e);
}
  where
    stands : (other : ProcId) → same_id id other ≡ false
        → running_of (without_guest gs id) (if is_some (running_if c id) then None else c) other ≡ running_of gs c other
    stands other z = λ i. first (guests_without gs id other false z i) (current_without c id other false z i)

    runs : (other : ProcId) (r : RunningProcess) (y : Bool) → same_id id other ≡ y
        → running_of (without_guest gs id) (if is_some (running_if c id) then None else c) other ≡ Some r
        → reply_in rs other ≡ r.reply
    runs other r false z e = h.running other r (sym (stands other z) ∙ e)
    runs other r true z e =
        let bad : None ≡ Some r =
        (λ i. first (sym (guests_without gs id other true z) i) (sym (current_without c id other true z) i)) ∙ e in
        cc

-- ---- some leave

pub found_id : (gs : List RunningProcess) (id : ProcId) (g : RunningProcess) → guest_at gs id ≡ Some g
    → same_id g.process.id id ≡ true
found_id [] id g e = cc
found_id (f ∷ gs) id g e = go (λ k. found_id gs id g k) (same_id f.process.id id) refl e
  where
    go : (guest_at gs id ≡ Some g → same_id g.process.id id ≡ true) → (y : Bool) → same_id f.process.id id ≡ y
        → (if y then Some f else guest_at gs id) ≡ Some g → same_id g.process.id id ≡ true
    go more true z k = let same : f ≡ g = cc in (λ i. same_id (sym same i).process.id id) ∙ z
    go more false z k = more k

current_id : (c : Option RunningProcess) (id : ProcId) (r : RunningProcess) → running_if c id ≡ Some r
    → (c ≡ Some r) × (same_id r.process.id id ≡ true)
current_id None id r e = cc
current_id (Some q) id r e = go (same_id q.process.id id) refl e
  where
    go : (y : Bool) → same_id q.process.id id ≡ y → (if y then Some q else None) ≡ Some r
        → (Some q ≡ Some r) × (same_id r.process.id id ≡ true)
    go true z k = let same : q ≡ r = cc in (k, (λ i. same_id (sym same i).process.id id) ∙ z)
    go false z k = cc

-- Two processes of the scenario that have this number are one.
one_process : (s : ScenarioValue) (p q : Process) (id : ProcId) → process_of s p.id ≡ Some p
    → process_of s q.id ≡ Some q → same_id p.id id ≡ true → same_id q.id id ≡ true → p ≡ q
one_process s p q id b c e f = own_is s p q id b e ((λ i. process_of s (sym (same_id_is q.id id f) i)) ∙ c)

-- A guest that is found among those that stay is found among all, and stays.
record IsKept (drops : Process → Bool) (gs : List RunningProcess) (id : ProcId) (r : RunningProcess) : Type 0 where
  found : guest_at gs id ≡ Some r
  stays : drops r.process ≡ false

guest_kept : (s : ScenarioValue) (drops : Process → Bool) (gs : List RunningProcess) (id : ProcId) (r : RunningProcess)
    → AllOwnGuests s gs → guest_at (kept_guests drops gs) id ≡ Some r → IsKept drops gs id r
guest_kept s drops [] id r b e = cc
guest_kept s drops (g ∷ gs) id r b e =
    go (λ k. guest_kept s drops gs id r b.1 k) (drops g.process) refl (same_id g.process.id id) refl e
  where
    here : (y : Bool) → same_id g.process.id id ≡ y → guest_at gs id ≡ Some r → drops r.process ≡ false
        → drops g.process ≡ true → (if y then Some g else guest_at gs id) ≡ Some r
    here false w f k d = f
    here true w f k d =
        let same : g.process ≡ r.process = one_process s g.process r.process id b.0
        (guest_process s gs id r b.1 f) w (found_id gs id r f) in
        let bad : true ≡ false = sym d ∙ (λ i. drops (same i)) ∙ k in
        cc

    stay : drops g.process ≡ false → (y : Bool) → same_id g.process.id id ≡ y
        → (guest_at (kept_guests drops gs) id ≡ Some r → IsKept drops gs id r)
        → (if y then Some g else guest_at (kept_guests drops gs) id) ≡ Some r → IsKept drops (g ∷ gs) id r
    stay d true w more k =
        let same : g ≡ r = cc in
        record {
          found = (λ i. if w i then Some g else guest_at gs id) ∙ k;
          stays = (λ i. drops (sym same i).process) ∙ d;
        }
    stay d false w more k =
        let x : IsKept drops gs id r = more k in
        record { found = (λ i. if w i then Some g else guest_at gs id) ∙ x.found; stays = x.stays }

    go : (guest_at (kept_guests drops gs) id ≡ Some r → IsKept drops gs id r) → (x : Bool) → drops g.process ≡ x
        → (y : Bool) → same_id g.process.id id ≡ y
        → guest_at (if x then kept_guests drops gs else g ∷ kept_guests drops gs) id ≡ Some r
        → IsKept drops (g ∷ gs) id r
    go more false d y w k = stay d (same_id g.process.id id) refl more k
    go more true d y w k =
        let x : IsKept drops gs id r = more k in
        record { found = here (same_id g.process.id id) refl x.found x.stays d; stays = x.stays }

-- A guest that stays is found.
guest_stays : (drops : Process → Bool) (gs : List RunningProcess) (id : ProcId) (g : RunningProcess)
    → guest_at gs id ≡ Some g → drops g.process ≡ false → guest_at (kept_guests drops gs) id ≡ None → ⊥
guest_stays drops [] id g e d none = cc
guest_stays drops (f ∷ gs) id g e d none =
    go (λ k m. guest_stays drops gs id g k d m) (same_id f.process.id id) refl (drops f.process) refl e none
  where
    go : (guest_at gs id ≡ Some g → guest_at (kept_guests drops gs) id ≡ None → ⊥)
        → (y : Bool) → same_id f.process.id id ≡ y → (x : Bool) → drops f.process ≡ x
        → (if y then Some f else guest_at gs id) ≡ Some g
        → guest_at (if x then kept_guests drops gs else f ∷ kept_guests drops gs) id ≡ None → ⊥
    go more true z true w k m =
        let same : f ≡ g = cc in
        let bad : true ≡ false = sym w ∙ (λ i. drops (same i).process) ∙ d in
        cc
    go more true z false w k m =
        let bad : Some f ≡ None = (λ i. if sym z i then Some f else guest_at (kept_guests drops gs) id) ∙ m in
        cc
    go more false z true w k m = more k m
    go more false z false w k m = more k ((λ i. if sym z i then Some f else guest_at (kept_guests drops gs) id) ∙ m)

kept_waits : (drops : Process → Bool) (ws : List Process) (id : ProcId) → waits_in (kept_processes drops ws) id ≡ true
    → waits_in ws id ≡ true
kept_waits drops [] id e = e
kept_waits drops (q ∷ ws) id e = go (λ k. kept_waits drops ws id k) (drops q) e
  where
    kept : (waits_in (kept_processes drops ws) id ≡ true → waits_in ws id ≡ true) → (y : Bool)
        → (y || waits_in (kept_processes drops ws) id) ≡ true → (y || waits_in ws id) ≡ true
    kept more true k = refl
    kept more false k = more k

    go : (waits_in (kept_processes drops ws) id ≡ true → waits_in ws id ≡ true) → (y : Bool)
        → waits_in (if y then kept_processes drops ws else q ∷ kept_processes drops ws) id ≡ true
        → (same_id q.id id || waits_in ws id) ≡ true
    go more true k = or_right (same_id q.id id) (waits_in ws id) (more k)
    go more false k = kept more (same_id q.id id) k

current_kept : (drops : Process → Bool) (c : Option RunningProcess) (r : RunningProcess) → kept_running drops c ≡ Some r
    → (c ≡ Some r) × (drops r.process ≡ false)
current_kept drops None r e = cc
current_kept drops (Some q) r e = go (drops q.process) refl e
  where
    go : (y : Bool) → drops q.process ≡ y → (if y then None else Some q) ≡ Some r
        → (Some q ≡ Some r) × (drops r.process ≡ false)
    go true d k = cc
    go false d k = let same : q ≡ r = cc in (k, (λ i. drops (sym same i).process) ∙ d)

running_kept : (s : ScenarioValue) (drops : Process → Bool) (gs : List RunningProcess)
    (c : Option RunningProcess) (id : ProcId) (r : RunningProcess)
    → AllOwnGuests s gs → ((q : RunningProcess) → c ≡ Some q → process_of s q.process.id ≡ Some q.process)
    → running_of (kept_guests drops gs) (kept_running drops c) id ≡ Some r → running_of gs c id ≡ Some r
running_kept s drops gs c id r b own e = go (guest_at (kept_guests drops gs) id) refl e
  where
    nobody : (x : Option RunningProcess) → guest_at gs id ≡ x → guest_at (kept_guests drops gs) id ≡ None
        → (c ≡ Some r) × (drops r.process ≡ false) → same_id r.process.id id ≡ true
        → first (guest_at gs id) (running_if c id) ≡ Some r
    nobody None f none k z = (λ i. first (f i) (running_if (k.0 i) id)) ∙ (λ i. if z i then Some r else None)
    nobody (Some g) f none k z =
        let same : r.process ≡ g.process = one_process s r.process g.process id
        (own r k.0) (guest_process s gs id g b f) z (found_id gs id g f) in
        absurd (guest_stays drops gs id g f ((λ i. drops (sym same i)) ∙ k.1) none)

    go : (x : Option RunningProcess) → guest_at (kept_guests drops gs) id ≡ x
        → first x (running_if (kept_running drops c) id) ≡ Some r → first (guest_at gs id) (running_if c id) ≡ Some r
    go (Some g) f k =
        let it : IsKept drops gs id r = guest_kept s drops gs id r b (f ∙ k) in
        (λ i. first (it.found i) (running_if c id))
    go None f k =
        let x = current_id (kept_running drops c) id r k in
        nobody (guest_at gs id) refl f (current_kept drops c r x.0) x.1

kept : (s : ScenarioValue) (drops : Process → Bool) (rs : List (ProcId × Reply))
    (gs : List RunningProcess) (ws : List Process) (c : Option RunningProcess)
    → AllOwnGuests s gs → ((q : RunningProcess) → c ≡ Some q → process_of s q.process.id ≡ Some q.process)
    → Has rs gs ws c → Has rs (kept_guests drops gs) (kept_processes drops ws) (kept_running drops c)
kept s drops rs gs ws c b own h = record {
  running = λ id r e. h.running id r (running_kept s drops gs c id r b own e);
  waiting_none = λ id e. h.waiting_none id (kept_waits drops ws id e);
  apart = λ id e. stays id (running_of (kept_guests drops gs) (kept_running drops c) id) refl
      (h.apart id (kept_waits drops ws id e));
}
  where
    stays : (id : ProcId) (x : Option RunningProcess) → running_of (kept_guests drops gs) (kept_running drops c) id ≡ x
        → running_of gs c id ≡ None → x ≡ None
    stays id None e none = refl
    stays id (Some r) e none = let bad : None ≡ Some r = sym none ∙ running_kept s drops gs c id r b own e in cc

-- ---- at a seat

waiting_of : Option UnitState → List Process
waiting_of None = []
waiting_of (Some u) = u.waiting

waits_same : (x : Option UnitState) (id : ProcId) → is_waiting_at x id ≡ waits_in (waiting_of x) id
unfolding waiting_of
waits_same None id = refl
waits_same (Some u) id = refl

parts : (rs : List (ProcId × Reply)) (seat : Seat) → HasReplies rs seat
    → Has rs seat.guests (waiting_of seat.unit) (current_of seat.unit)
parts rs seat h = record {
  running = h.running;
  waiting_none = λ id e. h.waiting id (waits_same seat.unit id ∙ e);
  apart = λ id e. h.apart id (waits_same seat.unit id ∙ e);
}

whole : (rs : List (ProcId × Reply)) (seat : Seat) → Has rs seat.guests (waiting_of seat.unit) (current_of seat.unit)
    → HasReplies rs seat
whole rs seat h = record {
  running = h.running;
  waiting = λ id e. h.waiting_none id (sym (waits_same seat.unit id) ∙ e);
  apart = λ id e. h.apart id (sym (waits_same seat.unit id) ∙ e);
}

some_is : (x y : Seat) (P : Seat → Type 0) → Some x ≡ Some y → P x → P y
some_is x y P e h = let same : x ≡ y = cc in subst P same h

pub chooses : (rs : List (ProcId × Reply)) (seat : Seat) → HasReplies rs seat → HasReplies rs (settled_seat seat)
unfolding waiting_of
chooses rs seat h = whole rs (settled_seat seat) (go seat.unit (parts rs seat h))
  where
    taken : (u : UnitState) (x : Option RunningProcess) → u.current ≡ x
        → (o : Option Process) → choice u.pick u.waiting ≡ o → Has rs seat.guests u.waiting u.current
        → has_no_current u.current ≡ true → Has rs seat.guests (with_current u o).waiting (with_current u o).current
    taken u x f None e k free = k
    taken u (Some r) f (Some p) e k free = let bad : false ≡ true = (λ i. has_no_current (sym f i)) ∙ free in cc
    taken u None f (Some p) e k free = chosen rs seat.guests u.waiting p
        (subst (λ (c : Option RunningProcess). Has rs seat.guests u.waiting c) f k)
        (choice_waits u.waiting (chosen_place u.pick (entries_of u.waiting)) p e)

    both : (x y : Bool) → (x && y) ≡ true → x ≡ true
    both true y e = refl
    both false y e = cc

    unit : (u : UnitState) (y : Bool) → (has_no_current u.current && not (Seats.is_any_held seat.hold)) ≡ y
        → Has rs seat.guests u.waiting u.current
        → Has rs seat.guests (if y then with_current u (choice u.pick u.waiting) else u).waiting
        (if y then with_current u (choice u.pick u.waiting) else u).current
    unit u false e k = k
    unit u true e k = taken u u.current refl (choice u.pick u.waiting) refl k
        (both (has_no_current u.current) (not (Seats.is_any_held seat.hold)) e)

    go : (x : Option UnitState) → Has rs seat.guests (waiting_of x) (current_of x)
        → Has rs seat.guests (waiting_of (Seats.unit_mapped (Seats.unit_with_choice (Seats.is_any_held seat.hold)) x))
        (current_of (Seats.unit_mapped (Seats.unit_with_choice (Seats.is_any_held seat.hold)) x))
    go None k = k
    go (Some u) k = unit u (has_no_current u.current && not (Seats.is_any_held seat.hold)) refl k

-- A guest comes, with this reply or none.
guest_comes : (rs next : List (ProcId × Reply)) (seat : Seat) (p : Process) (reply : Option Reply)
    → HasReplies rs seat → IsNowhere seat p.id → reply_in next p.id ≡ reply
    → ((id : ProcId) → same_id p.id id ≡ false → reply_in next id ≡ reply_in rs id)
    → HasReplies next (Seats.seat_with_guest seat p reply)
guest_comes rs next seat p reply h new given other = whole next (Seats.seat_with_guest seat p reply)
    (with_guest rs next seat.guests (waiting_of seat.unit) (current_of seat.unit) p reply
    (parts rs seat h) new.not_running (sym (waits_same seat.unit p.id) ∙ new.not_waiting) given other)

answered : (rs : List (ProcId × Reply)) (seat : Seat) (p : Process) (reply : Reply) → HasReplies rs seat
    → IsNowhere seat p.id → HasReplies ((p.id, reply) ∷ rs) (Seats.seat_with_guest seat p (Some reply))
answered rs seat p reply h new = guest_comes rs ((p.id, reply) ∷ rs) seat p (Some reply) h new
    (given_last rs p.id p.id reply (id_self p.id)) (λ id z. given_before rs p.id id reply z)

pub accepts : (rs : List (ProcId × Reply)) (seat after : Seat) (p : Process) → HasReplies rs seat → IsNowhere seat p.id
    → reply_in rs p.id ≡ None → Seats.seat_after_accept p seat ≡ Some after → HasReplies rs after
unfolding waiting_of
accepts rs seat after p h new free e = go seat.unit refl (parts rs seat h) e
  where
    guest : Some (Seats.seat_with_guest seat p None) ≡ Some after → HasReplies rs after
    guest k = some_is (Seats.seat_with_guest seat p None) after (λ (q : Seat). HasReplies rs q) k
        (guest_comes rs rs seat p None h new free (λ id z. refl))

    queue : (u : UnitState) → seat.unit ≡ Some u → Has rs seat.guests u.waiting u.current → (y : Bool)
        → (if y then Some (record seat { unit = Some (record u { waiting = u.waiting ++ p ∷ [] }) }) else None)
        ≡ Some after → HasReplies rs after
    queue u f k false l = cc
    queue u f k true l = some_is (record seat { unit = Some (record u { waiting = u.waiting ++ p ∷ [] }) }) after
        (λ (q : Seat). HasReplies rs q) l (whole rs
        (record seat { unit = Some (record u { waiting = u.waiting ++ p ∷ [] }) }) (with_waiting rs seat.guests
        u.waiting u.current p k ((λ i. running_of seat.guests (current_of (sym f i)) p.id) ∙ new.not_running) free))

    either : (u : UnitState) → seat.unit ≡ Some u → Has rs seat.guests u.waiting u.current → (y : Bool)
        → (if y then Some (Seats.seat_with_guest seat p None) else Seats.seat_with_waiting seat p u) ≡ Some after
        → HasReplies rs after
    either u f k true l = guest l
    either u f k false l = queue u f k (nat_lt (process_count u) u.depth) l

    go : (x : Option UnitState) → seat.unit ≡ x → Has rs seat.guests (waiting_of x) (current_of x)
        → Seats.seat_after_accept_at seat p x ≡ Some after → HasReplies rs after
    go None f k l = guest l
    go (Some u) f k l = either u f k (is_request_sense (command_of p.cdb)) l

pub refuses : (rs : List (ProcId × Reply)) (seat after : Seat) (p : Process) → HasReplies rs seat → IsNowhere seat p.id
    → Seats.seat_after_refuse p seat ≡ Some after → HasReplies ((p.id, queue_full) ∷ rs) after
refuses rs seat after p h new e = go seat.unit e
  where
    either : (y : Bool) → (if y then Some (Seats.seat_with_guest seat p (Some queue_full)) else None) ≡ Some after
        → HasReplies ((p.id, queue_full) ∷ rs) after
    either false l = cc
    either true l = some_is (Seats.seat_with_guest seat p (Some queue_full)) after
        (λ (q : Seat). HasReplies ((p.id, queue_full) ∷ rs) q) l (answered rs seat p queue_full h new)

    go : (x : Option UnitState) → Seats.seat_after_refuse_at seat p x ≡ Some after
        → HasReplies ((p.id, queue_full) ∷ rs) after
    go None l = cc
    go (Some u) l = either (not (is_request_sense (command_of p.cdb)) && process_count u == u.depth) l

-- A process that runs has this reply now; what else changes of its unit is no process.
reply_given : (rs : List (ProcId × Reply)) (seat : Seat)
    (f : UnitState → UnitState) (id : ProcId) (reply : Reply) (r : RunningProcess)
    → ((u : UnitState) → (f u).waiting ≡ u.waiting) → ((u : UnitState) → (f u).current ≡ u.current) → HasReplies rs seat
    → running_at seat id ≡ Some r → Has ((id, reply) ∷ rs) (guests_with_reply seat.guests id reply)
    (waiting_of (Seats.unit_mapped (Seats.unit_with_reply id reply) (Seats.unit_mapped f seat.unit)))
    (current_of (Seats.unit_mapped (Seats.unit_with_reply id reply) (Seats.unit_mapped f seat.unit)))
unfolding waiting_of
reply_given rs seat f id reply r same_waiting same_current h e =
    go seat.unit (replied rs seat.guests (waiting_of seat.unit) (current_of seat.unit) id reply r (parts rs seat h) e)
  where
    go : (x : Option UnitState) → Has ((id, reply) ∷ rs) (guests_with_reply seat.guests id reply)
        (waiting_of x) (current_with_reply (current_of x) id reply)
        → Has ((id, reply) ∷ rs) (guests_with_reply seat.guests id reply)
        (waiting_of (Seats.unit_mapped (Seats.unit_with_reply id reply) (Seats.unit_mapped f x)))
        (current_of (Seats.unit_mapped (Seats.unit_with_reply id reply) (Seats.unit_mapped f x)))
    go None k = k
    go (Some u) k = subst (λ (c : Option RunningProcess). Has ((id, reply) ∷ rs)
        (guests_with_reply seat.guests id reply) (f u).waiting (current_with_reply c id reply)) (sym (same_current u))
        (subst (λ (w : List Process). Has ((id, reply) ∷ rs) (guests_with_reply seat.guests id reply) w
        (current_with_reply u.current id reply)) (sym (same_waiting u)) k)

pub runs : (rs : List (ProcId × Reply)) (seat after : Seat) (id : ProcId) (r : RunningProcess)
    → HasReplies rs seat → running_at seat id ≡ Some r → Seats.seat_after_run id seat ≡ Some after → HasReplies
    ((r.process.id, (execution (Seats.context_of seat r.process.initiator) r.process.cdb r.process.sent).reply) ∷ rs)
    after
runs rs seat after id r h there e = go
    (is_none r.reply && (is_some (guest_at seat.guests id) || not (Seats.is_any_held seat.hold)))
    ((λ i. Seats.seat_after_run_of seat (is_some (guest_at seat.guests id)) (sym there i)) ∙ e)
  where
    found : same_id r.process.id id ≡ true
    found = at (guest_at seat.guests id) refl there
      where
        at : (x : Option RunningProcess) → guest_at seat.guests id ≡ x
            → first x (running_if (current_of seat.unit) id) ≡ Some r → same_id r.process.id id ≡ true
        at (Some g) f k = found_id seat.guests id r (f ∙ k)
        at None f k = (current_id (current_of seat.unit) id r k).1

    go : (y : Bool) → (if y then Some (Seats.seat_with_execution seat r.process
        (execution (Seats.context_of seat r.process.initiator) r.process.cdb r.process.sent)) else None) ≡ Some after
        → HasReplies
        ((r.process.id, (execution (Seats.context_of seat r.process.initiator) r.process.cdb r.process.sent).reply)
        ∷ rs) after
    go false k = cc
    go true k = some_is (Seats.seat_with_execution seat r.process
        (execution (Seats.context_of seat r.process.initiator) r.process.cdb r.process.sent)) after
        (λ (q : Seat). HasReplies
        ((r.process.id, (execution (Seats.context_of seat r.process.initiator) r.process.cdb r.process.sent).reply)
        ∷ rs) q) k (whole
        ((r.process.id, (execution (Seats.context_of seat r.process.initiator) r.process.cdb r.process.sent).reply)
        ∷ rs) (Seats.seat_with_execution seat r.process
        (execution (Seats.context_of seat r.process.initiator) r.process.cdb r.process.sent))
        (reply_given rs seat (Seats.unit_with_contents
        (execution (Seats.context_of seat r.process.initiator) r.process.cdb r.process.sent).contents) r.process.id
        (execution (Seats.context_of seat r.process.initiator) r.process.cdb r.process.sent).reply r (λ u. refl)
        (λ u. refl) h ((λ i. running_at seat (same_id_is r.process.id id found i)) ∙ there)))

pub fails : (rs : List (ProcId × Reply)) (seat after : Seat) (over : Bool) (p : Process) (reply : Reply)
    → HasReplies rs seat → Seats.seat_after_failure over p reply seat ≡ Some after
    → HasReplies ((p.id, reply) ∷ rs) after
fails rs seat after over p reply h e = go (running_at seat p.id) refl e
  where
    mapped_self : (x : Option UnitState) → Seats.unit_mapped (λ u. u) x ≡ x
    mapped_self None = refl
    mapped_self (Some u) = refl

    given : (r : RunningProcess) → running_at seat p.id ≡ Some r
        → (y : Bool) → (if y then Some (Seats.seat_with_reply seat p.id reply) else None) ≡ Some after
        → HasReplies ((p.id, reply) ∷ rs) after
    given r f false k = cc
    given r f true k = some_is (Seats.seat_with_reply seat p.id reply) after
        (λ (q : Seat). HasReplies ((p.id, reply) ∷ rs) q) k (whole ((p.id, reply) ∷ rs)
        (Seats.seat_with_reply seat p.id reply) (subst (λ (x : Option UnitState). Has ((p.id, reply) ∷ rs)
        (guests_with_reply seat.guests p.id reply) (waiting_of (Seats.unit_mapped (Seats.unit_with_reply p.id reply) x))
        (current_of (Seats.unit_mapped (Seats.unit_with_reply p.id reply) x))) (mapped_self seat.unit)
        (reply_given rs seat (λ u. u) p.id reply r (λ u. refl) (λ u. refl) h f)))

    new : running_at seat p.id ≡ None → (y : Bool) → is_waiting_at seat.unit p.id ≡ y
        → (if y || over then None else Some (Seats.seat_with_guest seat p (Some reply))) ≡ Some after
        → HasReplies ((p.id, reply) ∷ rs) after
    new f true w k = cc
    new f false w k = fresh over k
      where
        fresh : (z : Bool) → (if z then None else Some (Seats.seat_with_guest seat p (Some reply))) ≡ Some after
            → HasReplies ((p.id, reply) ∷ rs) after
        fresh true l = cc
        fresh false l = some_is (Seats.seat_with_guest seat p (Some reply)) after (λ (q : Seat). HasReplies
            ((p.id, reply) ∷ rs) q) l (answered rs seat p reply h (record { not_waiting = w; not_running = f }))

    go : (x : Option RunningProcess) → running_at seat p.id ≡ x
        → Seats.seat_after_failure_of seat over p reply x ≡ Some after → HasReplies ((p.id, reply) ∷ rs) after
    go (Some r) f k = given r f (is_none r.reply) k
    go None f k = new f (is_waiting_at seat.unit p.id) refl k

leaves : (rs : List (ProcId × Reply)) (seat : Seat) (id : ProcId) → HasReplies rs seat
    → HasReplies rs (Seats.seat_without seat id)
unfolding waiting_of
leaves rs seat id h = whole rs (Seats.seat_without seat id)
    (go seat.unit (without rs seat.guests (waiting_of seat.unit) (current_of seat.unit) id (parts rs seat h)))
  where
    go : (x : Option UnitState) → Has rs (without_guest seat.guests id) (without_process (waiting_of x) id)
        (if is_some (running_if (current_of x) id) then None else current_of x)
        → Has rs (without_guest seat.guests id) (waiting_of (Seats.unit_mapped (λ u. unit_without u id) x))
        (current_of (Seats.unit_mapped (λ u. unit_without u id) x))
    go None k = k
    go (Some u) k = k

pub ends : (rs : List (ProcId × Reply)) (seat after : Seat) (id : ProcId) (status : ℕ) → HasReplies rs seat
    → Seats.seat_after_end id status seat ≡ Some after → HasReplies rs after
ends rs seat after id status h e = go (running_at seat id) e
  where
    kept_by : (p : Process) (reply : Reply) (y z : Bool) → HasReplies rs (if y then record seat {
      senses = Seats.with_sense_of seat.senses p.initiator (Some reply.sense);
      hold = Seats.with_hold_of seat.hold p.initiator true;
    } else if z then record seat {
      senses = Seats.with_sense_of seat.senses p.initiator None;
      hold = Seats.with_hold_of seat.hold p.initiator false;
    } else seat)
    kept_by p reply true z = record { running = h.running; waiting = h.waiting; apart = h.apart }
    kept_by p reply false true = record { running = h.running; waiting = h.waiting; apart = h.apart }
    kept_by p reply false false = h

    ended : (p : Process) (reply : Reply) (y : Bool)
        → (if y then Some (Seats.seat_without (Seats.seat_after_status seat p reply) p.id) else None) ≡ Some after
        → HasReplies rs after
    ended p reply false k = cc
    ended p reply true k = some_is (Seats.seat_without (Seats.seat_after_status seat p reply) p.id) after
        (λ (q : Seat). HasReplies rs q) k (leaves rs (Seats.seat_after_status seat p reply) p.id (kept_by p reply
        (reply.status == CHECK_CONDITION) (reply.status == GOOD && is_request_sense (command_of p.cdb))))

    given : (p : Process) (x : Option Reply) → Seats.seat_after_end_with seat p status x ≡ Some after
        → HasReplies rs after
    given p None k = cc
    given p (Some reply) k = ended p reply (reply.status == status) k

    go : (x : Option RunningProcess) → Seats.seat_after_end_of seat status x ≡ Some after → HasReplies rs after
    go None k = cc
    go (Some r) k = given r.process r.reply k

pub loses : (rs : List (ProcId × Reply)) (seat after : Seat) (over : Bool) (id : ProcId) → HasReplies rs seat
    → Seats.seat_after_loss over id seat ≡ Some after → HasReplies rs after
loses rs seat after true id h e = cc
loses rs seat after false id h e =
    some_is (Seats.seat_without seat id) after (λ (q : Seat). HasReplies rs q) e (leaves rs seat id h)

stay : (s : ScenarioValue) (rs : List (ProcId × Reply)) (seat : Seat) (drops : Process → Bool) → AreOfScenario s seat
    → HasReplies rs seat → HasReplies rs (Seats.seat_kept drops seat)
unfolding waiting_of
stay s rs seat drops own h = whole rs (Seats.seat_kept drops seat) (go seat.unit (kept s drops rs seat.guests
    (waiting_of seat.unit) (current_of seat.unit) own.guests own.current (parts rs seat h)))
  where
    go : (x : Option UnitState) → Has rs (kept_guests drops seat.guests)
        (kept_processes drops (waiting_of x)) (kept_running drops (current_of x))
        → Has rs (kept_guests drops seat.guests) (waiting_of (Seats.unit_mapped (Seats.unit_kept drops) x))
        (current_of (Seats.unit_mapped (Seats.unit_kept drops) x))
    go None k = k
    go (Some u) k = k

-- The senses, attentions and hold of a seat have nothing to do with replies.
alike : (rs : List (ProcId × Reply)) (seat next : Seat) → HasReplies rs seat → next.unit ≡ seat.unit
    → next.guests ≡ seat.guests → HasReplies rs next
alike rs seat next h unit guests = record {
  running = λ id r e. h.running id r ((λ i. running_of (sym guests i) (current_of (sym unit i)) id) ∙ e);
  waiting = λ id e. h.waiting id ((λ i. is_waiting_at (sym unit i) id) ∙ e);
  apart = λ id e. (λ i. running_of (guests i) (current_of (unit i)) id)
      ∙ h.apart id ((λ i. is_waiting_at (sym unit i) id) ∙ e);
}

pub resets : (s : ScenarioValue) (rs : List (ProcId × Reply)) (hosts : List HostDef) (seat : Seat)
    → AreOfScenario s seat → HasReplies rs seat → HasReplies rs (Seats.seat_after_reset hosts seat)
resets s rs hosts seat own h = alike rs (Seats.seat_kept (λ p. true) seat) (Seats.seat_after_reset hosts seat)
    (stay s rs seat (λ p. true) own h) refl refl

pub aborted :
    (s : ScenarioValue) (rs : List (ProcId × Reply)) (hosts : List HostDef) (seat : Seat) (by : ℕ) (kind : AbortKind)
    → AreOfScenario s seat → HasReplies rs seat → HasReplies rs (Seats.seat_after_aborted hosts by kind seat)
aborted s rs hosts seat by aborts.All own h = alike rs (Seats.seat_kept (λ p. p.initiator == by) seat)
    (Seats.seat_after_abort by seat) (stay s rs seat (λ p. p.initiator == by) own h) refl refl
aborted s rs hosts seat by (aborts.Tag n) own h = stay s rs seat (λ p. p.initiator == by && has_tag p.tag n) own h
aborted s rs hosts seat by aborts.WholeQueue own h = alike rs (Seats.seat_kept (λ p. true) seat)
    (Seats.seat_after_clear_queue by seat) (stay s rs seat (λ p. true) own h) refl refl
aborted s rs hosts seat by aborts.Device own h = resets s rs hosts seat own h

-- A reply of a process that stands nowhere at the seat.
pub reply_elsewhere : (rs : List (ProcId × Reply)) (seat : Seat) (id : ProcId) (reply : Reply) → HasReplies rs seat
    → IsNowhere seat id → HasReplies ((id, reply) ∷ rs) seat
reply_elsewhere rs seat id reply h new = record {
  running =
      λ other r e. given_before rs id other reply (runs_other other r e (same_id id other) refl) ∙ h.running other r e;
  waiting = λ other e. given_before rs id other reply (waits_other other e (same_id id other) refl) ∙ h.waiting other e;
  apart = h.apart;
}
  where
    runs_other : (other : ProcId) (r : RunningProcess) → running_at seat other ≡ Some r
        → (y : Bool) → same_id id other ≡ y → same_id id other ≡ false
    runs_other other r e false z = z
    runs_other other r e true z =
        let bad : None ≡ Some r = sym new.not_running ∙ (λ i. running_at seat (same_id_is id other z i)) ∙ e in
        cc

    waits_other : (other : ProcId) → is_waiting_at seat.unit other ≡ true → (y : Bool) → same_id id other ≡ y
        → same_id id other ≡ false
    waits_other other e false z = z
    waits_other other e true z =
        let bad : false ≡ true = sym new.not_waiting ∙ (λ i. is_waiting_at seat.unit (same_id_is id other z i)) ∙ e in
        cc

pub guest_replied : (gs : List RunningProcess) (id : ProcId) (reply : Reply) (g : RunningProcess)
    → guest_at gs id ≡ Some g → guest_at (guests_with_reply gs id reply) id ≡ Some (record g { reply = Some reply })
guest_replied [] id reply g at = cc
guest_replied (f ∷ gs) id reply g at = go (λ k. guest_replied gs id reply g k) (same_id f.process.id id) refl at
  where
    go :
        (guest_at gs id ≡ Some g → guest_at (guests_with_reply gs id reply) id ≡ Some (record g { reply = Some reply }))
        → (y : Bool) → same_id f.process.id id ≡ y → (if y then Some f else guest_at gs id) ≡ Some g
        → guest_at (if y then record f { reply = Some reply } ∷ gs else f ∷ guests_with_reply gs id reply) id
        ≡ Some (record g { reply = Some reply })
    go rest true e k =
        let same : f ≡ g = cc in
        (λ i. if e i then Some (record f { reply = Some reply }) else guest_at gs id)
        ∙ (λ i. Some (record (same i) { reply = Some reply }))
    go rest false e k = (λ i. if e i then Some f else guest_at (guests_with_reply gs id reply) id) ∙ rest k

pub no_guest_replied : (gs : List RunningProcess) (id : ProcId) (reply : Reply) → guest_at gs id ≡ None
    → guest_at (guests_with_reply gs id reply) id ≡ None
no_guest_replied [] id reply none = refl
no_guest_replied (f ∷ gs) id reply none = go (λ k. no_guest_replied gs id reply k) (same_id f.process.id id) refl none
  where
    go : (guest_at gs id ≡ None → guest_at (guests_with_reply gs id reply) id ≡ None)
        → (y : Bool) → same_id f.process.id id ≡ y → (if y then Some f else guest_at gs id) ≡ None
        → guest_at (if y then record f { reply = Some reply } ∷ gs else f ∷ guests_with_reply gs id reply) id ≡ None
    go rest true e k = cc
    go rest false e k = (λ i. if e i then Some f else guest_at (guests_with_reply gs id reply) id) ∙ rest k
