-- Where a process stands, as the parts of its seat change.
use Rattle.std.proofs.Common.{◌≡◌, Bool, true, false, List, [], ◌∷◌, ◌++◌, ◌∙◌, refl, sym, Option, Some, None}
use Rattle.std.specs.Prelude.{if◌then◌else◌, not, ◌&&◌, ◌||◌, is_some}
use Rattle.bus_base.specs.declared.ProcId.{ProcId}
use Rattle.array_model.specs.Contents.{Contents}
use Rattle.array_model.specs.Execution.{Reply}
use Rattle.array_model.specs.Processes.{Process, same_id}
use Rattle.array_model.specs.Order.{choice, chosen_place, entries_of, without_process}
use Rattle.array_model.specs.Units.{RunningProcess, UnitState, guest_at, without_guest, with_current, has_no_current}
use Rattle.array_model.specs.Units.{without_reply}
use Rattle.array_model.specs.Steps.{running_if, current_with_reply, unit_without}
use Rattle.array_model.specs.Seats.{unit_mapped, unit_with_choice, unit_with_reply, unit_with_contents, waits_in}
use Rattle.array_model.proofs.SeatReplies.{last_waits, choice_waits}
use Rattle.array_model.proofs.SeatLookups.{same_id_is}
use Rattle.disk_target.specs.Standings.{is_inside}
use Rattle.bus_base.proofs.Tests.{or_true}

-- ---- who waits

without_self : (ws : List Process) (id : ProcId) → waits_in (without_process ws id) id ≡ false
without_self [] id = refl
without_self (q ∷ ws) id = go (without_self ws id) (same_id q.id id) refl
  where
    go : waits_in (without_process ws id) id ≡ false → (y : Bool) → same_id q.id id ≡ y
        → waits_in (if y then without_process ws id else q ∷ without_process ws id) id ≡ false
    go rest true e = rest
    go rest false e = (λ i. e i || waits_in (without_process ws id) id) ∙ rest

without_other : (ws : List Process) (x id : ProcId) → same_id x id ≡ false
    → waits_in (without_process ws x) id ≡ waits_in ws id
without_other [] x id e = refl
without_other (q ∷ ws) x id e = go (without_other ws x id e) (same_id q.id x) refl
  where
    go : waits_in (without_process ws x) id ≡ waits_in ws id → (y : Bool) → same_id q.id x ≡ y
        → waits_in (if y then without_process ws x else q ∷ without_process ws x) id
        ≡ (same_id q.id id || waits_in ws id)
    go rest true f =
        rest ∙ (λ i. sym e i || waits_in ws id) ∙ (λ i. same_id (sym (same_id_is q.id x f) i) id || waits_in ws id)
    go rest false f = λ i. same_id q.id id || rest i

-- ---- the choice

chosen : (ws : List Process) (p : Process) (id : ProcId) → waits_in ws p.id ≡ true
    → (waits_in (without_process ws p.id) id || is_some (running_if (Some (without_reply p)) id))
    ≡ (waits_in ws id || false)
chosen ws p id w = go (same_id p.id id) refl
  where
    go : (y : Bool) → same_id p.id id ≡ y
        → (waits_in (without_process ws p.id) id || is_some (running_if (Some (without_reply p)) id))
        ≡ (waits_in ws id || false)
    go true e =
        (λ i. waits_in (without_process ws p.id) id || is_some (if e i then Some (without_reply p) else None))
        ∙ or_true (waits_in (without_process ws p.id) id)
        ∙ sym ((λ i. waits_in ws (sym (same_id_is p.id id e) i) || false) ∙ (λ i. w i || false))
    go false e =
        (λ i. waits_in (without_process ws p.id) id || is_some (if e i then Some (without_reply p) else None))
        ∙ (λ i. without_other ws p.id id e i || false)

unit_settles : (held : Bool) (u : UnitState) (id : ProcId)
    → is_inside (Some (unit_with_choice held u)) id ≡ is_inside (Some u) id
unit_settles held u id = go u.current refl held
  where
    picked : (x : Option Process) → u.current ≡ None → choice u.pick u.waiting ≡ x
        → is_inside (Some (with_current u x)) id ≡ is_inside (Some u) id
    picked None e f = refl
    picked (Some p) e f =
        chosen u.waiting p id (choice_waits u.waiting (chosen_place u.pick (entries_of u.waiting)) p f)
        ∙ (λ i. waits_in u.waiting id || is_some (running_if (sym e i) id))

    go : (c : Option RunningProcess) → u.current ≡ c → (h : Bool)
        → is_inside (Some (if has_no_current c && not h then with_current u (choice u.pick u.waiting) else u)) id
        ≡ is_inside (Some u) id
    go (Some r) e h = refl
    go None e true = refl
    go None e false = picked (choice u.pick u.waiting) e refl

pub settles : (held : Bool) (x : Option UnitState) (id : ProcId)
    → is_inside (unit_mapped (unit_with_choice held) x) id ≡ is_inside x id
settles held None id = refl
settles held (Some u) id = unit_settles held u id

-- A unit that is there stays there.
pub stands : (f : UnitState → UnitState) (x : Option UnitState) → is_some (unit_mapped f x) ≡ is_some x
stands f None = refl
stands f (Some u) = refl

-- ---- a process more

pub arrived : (u : UnitState) (p : Process) → is_inside (Some (record u { waiting = u.waiting ++ p ∷ [] })) p.id ≡ true
arrived u p = λ i. last_waits u.waiting p i || is_some (running_if u.current p.id)

pub guest_more : (gs : List RunningProcess) (g : RunningProcess) (id : ProcId) → guest_at gs id ≡ None
    → same_id g.process.id id ≡ true → guest_at (gs ++ g ∷ []) id ≡ Some g
guest_more [] g id none e = λ i. if e i then Some g else None
guest_more (f ∷ gs) g id none e = go (λ k. guest_more gs g id k e) (same_id f.process.id id) none
  where
    go : (guest_at gs id ≡ None → guest_at (gs ++ g ∷ []) id ≡ Some g) → (y : Bool)
        → (if y then Some f else guest_at gs id) ≡ None → (if y then Some f else guest_at (gs ++ g ∷ []) id) ≡ Some g
    go rest true k = cc
    go rest false k = rest k

-- ---- a reply

replied_current : (c : Option RunningProcess) (x id : ProcId) (reply : Reply)
    → is_some (running_if (current_with_reply c x reply) id) ≡ is_some (running_if c id)
replied_current None x id reply = refl
replied_current (Some r) x id reply = go (same_id r.process.id x)
  where
    here : (y : Bool)
        → is_some (if y then Some (record r { reply = Some reply }) else None) ≡ is_some (if y then Some r else None)
    here true = refl
    here false = refl

    go : (y : Bool) → is_some (running_if (if y then Some (record r { reply = Some reply }) else Some r) id)
        ≡ is_some (running_if (Some r) id)
    go true = here (same_id r.process.id id)
    go false = refl

pub replied_inside : (x : Option UnitState) (id : ProcId) (reply : Reply)
    → is_inside (unit_mapped (unit_with_reply id reply) x) id ≡ is_inside x id
replied_inside None id reply = refl
replied_inside (Some u) id reply = λ i. waits_in u.waiting id || replied_current u.current id id reply i

pub contents_inside : (x : Option UnitState) (c : Contents) (id : ProcId)
    → is_inside (unit_mapped (unit_with_contents c) x) id ≡ is_inside x id
contents_inside None c id = refl
contents_inside (Some u) c id = refl

-- ---- a process leaves

left_current : (c : Option RunningProcess) (id : ProcId)
    → is_some (running_if (if is_some (running_if c id) then None else c) id) ≡ false
left_current None id = refl
left_current (Some r) id = go (same_id r.process.id id) refl
  where
    go : (y : Bool) → same_id r.process.id id ≡ y
        → is_some (running_if (if is_some (if y then Some r else None) then None else Some r) id) ≡ false
    go true e = refl
    go false e = λ i. is_some (if e i then Some r else None)

pub left_inside : (x : Option UnitState) (id : ProcId) → is_inside (unit_mapped (λ u. unit_without u id) x) id ≡ false
left_inside None id = refl
left_inside (Some u) id = (λ i. without_self u.waiting id i
    || is_some (running_if (if is_some (running_if u.current id) then None else u.current) id))
    ∙ left_current u.current id

pub left_guest : (gs : List RunningProcess) (id : ProcId) → guest_at (without_guest gs id) id ≡ None
left_guest [] id = refl
left_guest (f ∷ gs) id = go (left_guest gs id) (same_id f.process.id id) refl
  where
    go : guest_at (without_guest gs id) id ≡ None → (y : Bool) → same_id f.process.id id ≡ y
        → guest_at (if y then without_guest gs id else f ∷ without_guest gs id) id ≡ None
    go rest true e = rest
    go rest false e = (λ i. if e i then Some f else guest_at (without_guest gs id) id) ∙ rest
