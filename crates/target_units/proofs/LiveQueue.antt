-- The live commands of a queue, looked up by process, and what holds of each.
use Rattle.std.proofs.Common.{ℕ, ◌≡◌, ◌<◌, Bool, true, false, List, [], ◌∷◌, ◌++◌, ◌∙◌, refl, sym, subst, Option, Some}
use Rattle.std.proofs.Common.{None}
use Rattle.std.specs.Prelude.{if◌then◌else◌, ◌==◌, ◌||◌}
use Rattle.std.specs.List.{list_any}
use Rattle.std.proofs.lemmas.Bool.{eqb-true, eq-eqb}
use Rattle.bus_base.specs.declared.ProcId.{ProcId}
use Rattle.bus_base.proofs.Tests.{wrong, eq_self}
use Rattle.cdb_codec.specs.Cdb.{command_of}
use Rattle.scenario.specs.declared.value.HostDef.{HostDef}
use Rattle.array_model.specs.Execution.{Reply, is_request_sense}
use Rattle.array_model.specs.Processes.{Process, same_id}
use Rattle.array_model.specs.Units.{RunningProcess, UnitState, guest_at, without_guest}
use Rattle.array_model.specs.Steps.{running_if, guests_with_reply, kept_guests}
use Rattle.array_model.specs.Seats.{is_initiator}
use Rattle.array_model.proofs.SeatReplies.{id_self, id_turned}
use Rattle.array_model.proofs.SeatLookups.{same_id_is}
use Rattle.tag_queue.specs.Queue.{Queued, has_key, key_of_process}
use Rattle.disk_unit.specs.Books.{UnitBooks}
use Rattle.disk_unit.specs.LiveCommands.{LiveCommand, HasLive, IsCurrentOf, AreApart, queued_of, waiting_processes}
use Rattle.disk_unit.specs.LiveCommands.{process_under, has_process, live_but}
use Rattle.disk_unit.proofs.LiveCommands.{process_found, entry_found, apart_key}
use Rattle.due_model.specs.RunSteps.{is_same_running}
use Rattle.target_units.specs.Seated.{AreQueued, running_id, entry_id, id_under, current_id, is_same_process}

-- ---- the same process

pub same_is : (a b : Option RunningProcess) → is_same_process (running_id a) (running_id b) ≡ is_same_running a b
same_is None b = refl
same_is (Some a) None = refl
same_is (Some a) (Some b) = refl

pub current_is : (l : List LiveCommand) (u : UnitState) (b : UnitBooks) → HasLive l u b
    → current_id b ≡ running_id u.current
current_is l u b h = (λ i. id_under (h.arrived i) b.queue.current) ∙ go b.queue.current u.current h.current
  where
    go : (c : Option ℕ) (r : Option RunningProcess) → IsCurrentOf l c r → id_under (queued_of l) c ≡ running_id r
    go None None k = refl
    go None (Some r) k = absurd k
    go (Some key) None k = absurd k
    go (Some key) (Some r) k = λ i. entry_id (entry_found l key r.process k i)

-- ---- look-ups

pub record IsFound (l : List LiveCommand) (key : ℕ) (id : ProcId) : Type 0 where
  pub process : Process
  pub under : process_under l key ≡ Some process
  pub same : process.id ≡ id

pub found : (l : List LiveCommand) (id : ProcId) (key : ℕ) → AreApart l → key_of_process (queued_of l) id ≡ Some key
    → IsFound l key id
found [] id key a h = cc
found (x ∷ l) id key a h = go (same_id x.process.id id) refl h (λ k. found l id key a.2 k)
  where
    go : (y : Bool) → same_id x.process.id id ≡ y
        → (if y then Some x.key else key_of_process (queued_of l) id) ≡ Some key
        → (key_of_process (queued_of l) id ≡ Some key → IsFound l key id) → IsFound (x ∷ l) key id
    go true e k more =
        let same : x.key ≡ key = cc in
        let self : (x.key == x.key) ≡ true = eq_self x.key in
        record {
          process = x.process;
          under = subst (λ (n : ℕ). process_under (x ∷ l) n ≡ Some x.process) same
              (λ i. if self i then Some x.process else process_under l x.key);
          same = same_id_is x.process.id id e;
        }
    go false e k more =
        let rest : IsFound l key id = more k in
        let other : (x.key == key) ≡ false = apart_key x l key rest.process a.0 rest.under in
        record {
          process = rest.process;
          under = (λ i. if other i then Some x.process else process_under l key) ∙ rest.under;
          same = rest.same;
        }

pub absent : (l : List LiveCommand) (id : ProcId) → key_of_process (queued_of l) id ≡ None → has_process l id ≡ false
absent [] id h = refl
absent (x ∷ l) id h = go (same_id x.process.id id) h (λ k. absent l id k)
  where
    go : (y : Bool) → (if y then Some x.key else key_of_process (queued_of l) id) ≡ None
        → (key_of_process (queued_of l) id ≡ None → has_process l id ≡ false)
        → (if y then true else has_process l id) ≡ false
    go true k more = cc
    go false k more = more k

pub not_found : (l : List LiveCommand) (id : ProcId) → has_process l id ≡ false → key_of_process (queued_of l) id ≡ None
not_found [] id h = refl
not_found (x ∷ l) id h = go (same_id x.process.id id) h (λ k. not_found l id k)
  where
    go : (y : Bool) → (if y then true else has_process l id) ≡ false
        → (has_process l id ≡ false → key_of_process (queued_of l) id ≡ None)
        → (if y then Some x.key else key_of_process (queued_of l) id) ≡ None
    go true k more = cc
    go false k more = more k

pub key_is : (l : List LiveCommand) (key : ℕ) (p : Process) → AreApart l → process_under l key ≡ Some p
    → key_of_process (queued_of l) p.id ≡ Some key
key_is [] key p a h = cc
key_is (x ∷ l) key p a h = go (x.key == key) refl h (λ k. key_is l key p a.2 k)
  where
    go : (y : Bool) → (x.key == key) ≡ y → (if y then Some x.process else process_under l key) ≡ Some p
        → (process_under l key ≡ Some p → key_of_process (queued_of l) p.id ≡ Some key)
        → (if same_id x.process.id p.id then Some x.key else key_of_process (queued_of l) p.id) ≡ Some key
    go true e k more =
        let same : x.process ≡ p = cc in
        let own : same_id x.process.id p.id ≡ true = subst
        (λ (q : Process). same_id x.process.id q.id ≡ true) same (id_self x.process.id) in
        (λ i. if own i then Some x.key else key_of_process (queued_of l) p.id) ∙ (λ i. Some (eqb-true x.key key e i))
    go false e k more =
        (λ i. if other (same_id x.process.id p.id) refl i then Some x.key else key_of_process (queued_of l) p.id)
        ∙ more k
      where
        other : (z : Bool) → same_id x.process.id p.id ≡ z → same_id x.process.id p.id ≡ false
        other false w = w
        other true w =
            let same : x.process.id ≡ p.id = same_id_is x.process.id p.id w in
            wrong (sym (subst (λ (n : ProcId). has_process l n ≡ true) (sym same) (process_found l key p k)) ∙ a.1)

-- ---- a process that neither waits nor is current is not live

all_waiting : (l : List LiveCommand) (id : ProcId)
    → list_any (λ (p : Process). same_id p.id id) (waiting_processes None l) ≡ false → has_process l id ≡ false
all_waiting [] id h = refl
all_waiting (x ∷ l) id h = go (same_id x.process.id id) h (λ k. all_waiting l id k)
  where
    go : (y : Bool) → (y || list_any (λ (p : Process). same_id p.id id) (waiting_processes None l)) ≡ false
        → (list_any (λ (p : Process). same_id p.id id) (waiting_processes None l) ≡ false → has_process l id ≡ false)
        → (if y then true else has_process l id) ≡ false
    go true k more = cc
    go false k more = more k

-- The command of this key is not this process.
abbrev IsOther : List LiveCommand → ℕ → ProcId → Type 0
IsOther [] key id = Unit {0}
IsOther (x ∷ l) key id = ((x.key == key) ≡ true → same_id x.process.id id ≡ false) × IsOther l key id

without_other : (l : List LiveCommand) (key : ℕ) (id : ProcId) → IsOther l key id
    → list_any (λ (p : Process). same_id p.id id) (waiting_processes (Some key) l) ≡ false → has_process l id ≡ false
without_other [] key id o h = refl
without_other (x ∷ l) key id o h =
    go (x.key == key) refl (same_id x.process.id id) refl h (λ k. without_other l key id o.1 k)
  where
    go : (y : Bool) → (x.key == key) ≡ y → (z : Bool) → same_id x.process.id id ≡ z
        → list_any (λ (p : Process). same_id p.id id)
        (if y then waiting_processes (Some key) l else x.process ∷ waiting_processes (Some key) l) ≡ false
        → (list_any (λ (p : Process). same_id p.id id) (waiting_processes (Some key) l) ≡ false
        → has_process l id ≡ false) → (if z then true else has_process l id) ≡ false
    go true e true f k more = wrong (sym f ∙ o.0 e)
    go true e false f k more = more k
    go false e true f k more =
        let bad : true ≡ false =
        (λ i. sym f i || list_any (λ (p : Process). same_id p.id id) (waiting_processes (Some key) l)) ∙ k in
        cc
    go false e false f k more =
        more ((λ i. sym f i || list_any (λ (p : Process). same_id p.id id) (waiting_processes (Some key) l)) ∙ k)

absent_other : (l : List LiveCommand) (key : ℕ) (id : ProcId) → has_key (queued_of l) key ≡ false → IsOther l key id
absent_other [] key id h = tt
absent_other (x ∷ l) key id h = go (x.key == key) refl h (λ k. absent_other l key id k)
  where
    go : (y : Bool) → (x.key == key) ≡ y → (if y then true else has_key (queued_of l) key) ≡ false
        → (has_key (queued_of l) key ≡ false → IsOther l key id) → IsOther (x ∷ l) key id
    go true e k more = cc
    go false e k more = (λ t. wrong (sym t ∙ e), more k)

other_under : (l : List LiveCommand) (key : ℕ) (id : ProcId) (p : Process) → AreApart l → process_under l key ≡ Some p
    → same_id p.id id ≡ false → IsOther l key id
other_under [] key id p a h f = tt
other_under (x ∷ l) key id p a h f = go (x.key == key) refl h (λ k. other_under l key id p a.2 k f)
  where
    go : (y : Bool) → (x.key == key) ≡ y → (if y then Some x.process else process_under l key) ≡ Some p
        → (process_under l key ≡ Some p → IsOther l key id) → IsOther (x ∷ l) key id
    go true e k more =
        let same : x.process ≡ p = cc in
        let key_same : x.key ≡ key = eqb-true x.key key e in (
          λ t. (λ i. same_id (same i).id id) ∙ f,
          absent_other l key id (subst (λ (n : ℕ). has_key (queued_of l) n ≡ false) key_same a.0),
        )
    go false e k more = (λ t. wrong (sym t ∙ e), more k)

pub not_live : (l : List LiveCommand) (u : UnitState) (b : UnitBooks) (id : ProcId) → HasLive l u b
    → list_any (λ (p : Process). same_id p.id id) u.waiting ≡ false → running_if u.current id ≡ None
    → has_process l id ≡ false
not_live l u b id h w r =
    go b.queue.current u.current h.current ((λ i. list_any (λ (p : Process). same_id p.id id) (sym h.waiting i)) ∙ w) r
  where
    go : (c : Option ℕ) (q : Option RunningProcess) → IsCurrentOf l c q
        → list_any (λ (p : Process). same_id p.id id) (waiting_processes c l) ≡ false → running_if q id ≡ None
        → has_process l id ≡ false
    go None None k x y = all_waiting l id x
    go None (Some q) k x y = absurd k
    go (Some key) None k x y = absurd k
    go (Some key) (Some q) k x y =
        without_other l key id (other_under l key id q.process h.apart k (off (same_id q.process.id id) y)) x
      where
        off : (z : Bool) → (if z then Some q else None) ≡ None → z ≡ false
        off true m = cc
        off false m = refl

-- ---- what holds of each

pub record IsQueued (hosts : List HostDef) (guests : List RunningProcess) (p : Process) : Type 0 where
  pub sense : is_request_sense (command_of p.cdb) ≡ false
  pub below : p.initiator < 8
  pub host : is_initiator hosts p.initiator ≡ true
  pub no_guest : guest_at guests p.id ≡ None

pub queued_under : (hosts : List HostDef) (guests : List RunningProcess) (l : List LiveCommand) (key : ℕ) (p : Process)
    → AreQueued hosts guests l → process_under l key ≡ Some p → IsQueued hosts guests p
queued_under hosts guests [] key p q h = cc
queued_under hosts guests (x ∷ l) key p q h = go (x.key == key) h (λ k. queued_under hosts guests l key p q.4 k)
  where
    go : (y : Bool) → (if y then Some x.process else process_under l key) ≡ Some p
        → (process_under l key ≡ Some p → IsQueued hosts guests p) → IsQueued hosts guests p
    go true k more =
        let same : x.process ≡ p = cc in
        subst (λ (r : Process). IsQueued hosts guests r) same
        (record { sense = q.0; below = q.1; host = q.2; no_guest = q.3 })
    go false k more = more k

pub queued_but :
    (hosts : List HostDef) (guests : List RunningProcess) (leaves : LiveCommand → Bool) (l : List LiveCommand)
    → AreQueued hosts guests l → AreQueued hosts guests (live_but leaves l)
queued_but hosts guests leaves [] q = tt
queued_but hosts guests leaves (x ∷ l) q = go (leaves x) (queued_but hosts guests leaves l q.4)
  where
    go : (y : Bool) → AreQueued hosts guests (live_but leaves l)
        → AreQueued hosts guests (if y then live_but leaves l else x ∷ live_but leaves l)
    go true more = more
    go false more = (q.0, q.1, q.2, q.3, more)

pub queued_by : (hosts : List HostDef) (old new : List RunningProcess)
    → ((id : ProcId) → guest_at old id ≡ None → guest_at new id ≡ None) → (l : List LiveCommand) → AreQueued hosts old l
    → AreQueued hosts new l
queued_by hosts old new f [] q = tt
queued_by hosts old new f (x ∷ l) q = (q.0, q.1, q.2, f x.process.id q.3, queued_by hosts old new f l q.4)

pub queued_more : (hosts : List HostDef) (guests : List RunningProcess) (l : List LiveCommand) (x : LiveCommand)
    → AreQueued hosts guests l → IsQueued hosts guests x.process → AreQueued hosts guests (l ++ x ∷ [])
queued_more hosts guests [] x q p = (p.sense, p.below, p.host, p.no_guest, tt)
queued_more hosts guests (y ∷ l) x q p = (q.0, q.1, q.2, q.3, queued_more hosts guests l x q.4 p)

pub live_no_guest : (hosts : List HostDef) (guests : List RunningProcess) (l : List LiveCommand) (id : ProcId)
    → AreQueued hosts guests l → has_process l id ≡ true → guest_at guests id ≡ None
live_no_guest hosts guests [] id q h = cc
live_no_guest hosts guests (x ∷ l) id q h =
    go (same_id x.process.id id) refl h (λ k. live_no_guest hosts guests l id q.4 k)
  where
    go : (y : Bool) → same_id x.process.id id ≡ y → (if y then true else has_process l id) ≡ true
        → (has_process l id ≡ true → guest_at guests id ≡ None) → guest_at guests id ≡ None
    go true e k more = subst (λ (n : ProcId). guest_at guests n ≡ None) (same_id_is x.process.id id e) q.3
    go false e k more = more k

pub guest_not_live :
    (hosts : List HostDef) (guests : List RunningProcess) (l : List LiveCommand) (id : ProcId) (r : RunningProcess)
    → AreQueued hosts guests l → guest_at guests id ≡ Some r → has_process l id ≡ false
guest_not_live hosts guests l id r q h = go (has_process l id) refl
  where
    go : (y : Bool) → has_process l id ≡ y → y ≡ false
    go false e = refl
    go true e = let bad : None ≡ Some r = sym (live_no_guest hosts guests l id q e) ∙ h in cc

-- ---- the processes outside the queue

guest_more : (guests : List RunningProcess) (r : RunningProcess) (id : ProcId) → guest_at guests id ≡ None
    → same_id r.process.id id ≡ false → guest_at (guests ++ r ∷ []) id ≡ None
guest_more [] r id h f = λ i. if f i then Some r else None
guest_more (g ∷ guests) r id h f = go (same_id g.process.id id) h (λ k. guest_more guests r id k f)
  where
    go : (y : Bool) → (if y then Some g else guest_at guests id) ≡ None
        → (guest_at guests id ≡ None → guest_at (guests ++ r ∷ []) id ≡ None)
        → (if y then Some g else guest_at (guests ++ r ∷ []) id) ≡ None
    go true k more = cc
    go false k more = more k

pub queued_beside :
    (hosts : List HostDef) (guests : List RunningProcess) (p : Process) (reply : Option Reply) (l : List LiveCommand)
    → AreQueued hosts guests l → has_process l p.id ≡ false
    → AreQueued hosts (guests ++ record { process = p; reply = reply } ∷ []) l
queued_beside hosts guests p reply [] q h = tt
queued_beside hosts guests p reply (x ∷ l) q h =
    go (same_id x.process.id p.id) refl h (λ k. queued_beside hosts guests p reply l q.4 k)
  where
    go : (y : Bool) → same_id x.process.id p.id ≡ y → (if y then true else has_process l p.id) ≡ false
        → (has_process l p.id ≡ false → AreQueued hosts (guests ++ record { process = p; reply = reply } ∷ []) l)
        → AreQueued hosts (guests ++ record { process = p; reply = reply } ∷ []) (x ∷ l)
    go true e k more = cc
    go false e k more = (
      q.0,
      q.1,
      q.2,
      guest_more guests (record { process = p; reply = reply }) x.process.id q.3 (id_turned x.process.id p.id e),
      more k,
    )

pub none_replied : (guests : List RunningProcess) (of : ProcId) (reply : Reply) (id : ProcId)
    → guest_at guests id ≡ None → guest_at (guests_with_reply guests of reply) id ≡ None
none_replied [] of reply id h = refl
none_replied (g ∷ guests) of reply id h =
    go (same_id g.process.id of) (same_id g.process.id id) refl h (λ k. none_replied guests of reply id k)
  where
    go : (y z : Bool) → same_id g.process.id id ≡ z → (if z then Some g else guest_at guests id) ≡ None
        → (guest_at guests id ≡ None → guest_at (guests_with_reply guests of reply) id ≡ None)
        → guest_at (if y then record g { reply = Some reply } ∷ guests else g ∷ guests_with_reply guests of reply) id
        ≡ None
    go y true e k more = cc
    go true false e k more = (λ i. if e i then Some (record g { reply = Some reply }) else guest_at guests id) ∙ k
    go false false e k more = (λ i. if e i then Some g else guest_at (guests_with_reply guests of reply) id) ∙ more k

pub none_without : (guests : List RunningProcess) (of id : ProcId) → guest_at guests id ≡ None
    → guest_at (without_guest guests of) id ≡ None
none_without [] of id h = refl
none_without (g ∷ guests) of id h =
    go (same_id g.process.id of) (same_id g.process.id id) refl h (λ k. none_without guests of id k)
  where
    go : (y z : Bool) → same_id g.process.id id ≡ z → (if z then Some g else guest_at guests id) ≡ None
        → (guest_at guests id ≡ None → guest_at (without_guest guests of) id ≡ None)
        → guest_at (if y then without_guest guests of else g ∷ without_guest guests of) id ≡ None
    go y true e k more = cc
    go true false e k more = more k
    go false false e k more = (λ i. if e i then Some g else guest_at (without_guest guests of) id) ∙ more k

pub none_kept : (drops : Process → Bool) (guests : List RunningProcess) (id : ProcId) → guest_at guests id ≡ None
    → guest_at (kept_guests drops guests) id ≡ None
none_kept drops [] id h = refl
none_kept drops (g ∷ guests) id h =
    go (drops g.process) (same_id g.process.id id) refl h (λ k. none_kept drops guests id k)
  where
    go : (y z : Bool) → same_id g.process.id id ≡ z → (if z then Some g else guest_at guests id) ≡ None
        → (guest_at guests id ≡ None → guest_at (kept_guests drops guests) id ≡ None)
        → guest_at (if y then kept_guests drops guests else g ∷ kept_guests drops guests) id ≡ None
    go y true e k more = cc
    go true false e k more = more k
    go false false e k more = (λ i. if e i then Some g else guest_at (kept_guests drops guests) id) ∙ more k

pub found_live : (arrived : List Queued) (id : ProcId) (key : ℕ) → key_of_process arrived id ≡ Some key
    → has_key arrived key ≡ true
found_live [] id key h = cc
found_live (q ∷ arrived) id key h = go (same_id q.entry.id id) h (λ k. found_live arrived id key k)
  where
    later : (z : Bool) → has_key arrived key ≡ true → (if z then true else has_key arrived key) ≡ true
    later true k = refl
    later false k = k

    go : (y : Bool) → (if y then Some q.key else key_of_process arrived id) ≡ Some key
        → (key_of_process arrived id ≡ Some key → has_key arrived key ≡ true)
        → (if q.key == key then true else has_key arrived key) ≡ true
    go true k more =
        let same : q.key ≡ key = cc in
        let own : (q.key == key) ≡ true = eq-eqb q.key key same in
        λ i. if own i then true else has_key arrived key
    go false k more = later (q.key == key) (more k)
