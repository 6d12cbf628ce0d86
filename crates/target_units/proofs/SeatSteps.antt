-- A unit at its seat after each event and the choice that follows it.
use Rattle.std.proofs.Common.{ℕ, ◌≡◌, ◌<◌, ◌≤◌, ◌+◌, length, take, arith, Bool, true, false, List, [], ◌∷◌, ◌++◌}
use Rattle.std.proofs.Common.{◌∙◌, refl, sym, subst, Option, Some, None}
use Rattle.std.specs.Prelude.{if◌then◌else◌, ◌&&◌, ◌||◌, ◌==◌, not, nat_le, is_some, is_none}
use Rattle.std.proofs.lemmas.Bool.{eqb-true, and_from, le-leb}
use Rattle.std.proofs.lemmas.List.{take_all}
use Rattle.bus_base.specs.declared.AbortKind.{AbortKind}
use Rattle.bus_base.specs.declared.ProcId.{ProcId}
use Rattle.bus_base.specs.declared.events.Class.{Class}
use Rattle.bus_base.specs.declared.events.Pick.{Pick}
use Rattle.cdb_codec.specs.declared.Sense.{Sense}
use Rattle.cdb_codec.specs.declared.status.TheConstants.{GOOD, CHECK_CONDITION}
use Rattle.cdb_codec.specs.Cdb.{command_of}
use Rattle.scenario.specs.declared.value.HostDef.{HostDef}
use Rattle.array_model.specs.declared.entries.Entry.{Entry}
use Rattle.array_model.specs.Contents.{Contents, is_reeled}
use Rattle.array_model.specs.Execution.{Reply, Execution, execution, check_condition}
use Rattle.array_model.specs.Execution.{is_request_sense, queue_full, aborted_reply}
use Rattle.array_model.specs.Order.{entry_of, choice}
use Rattle.array_model.specs.Processes.{Process, same_id}
use Rattle.array_model.specs.Units.{RunningProcess, UnitState, with_current, has_no_current, guest_at, without_guest}
use Rattle.array_model.specs.Steps.{process_count, running_if, current_with_reply, unit_without, guests_with_reply}
use Rattle.array_model.specs.Steps.{kept_running, kept_guests, has_tag}
use Rattle.array_model.specs.Seats.{Seat, unit_with_choice, unit_with_reply, unit_with_contents, unit_kept}
use Rattle.array_model.proofs.SeatReplies.{id_self, guest_id}
use Rattle.array_model.proofs.SeatLookups.{same_id_is}
use Rattle.tag_queue.specs.Queue.{key_of_process}
use Rattle.disk_unit.specs.AtSeats.{IsUnitAt}
use Rattle.disk_unit.specs.Books.{UnitBooks, block_at, attention_at, initiator_at, books_with, books_after_choice}
use Rattle.disk_unit.specs.Books.{books_after_end, books_without, books_after_abort, books_after_abort_tag}
use Rattle.disk_unit.specs.Books.{books_after_reset}
use Rattle.disk_unit.specs.Held.{cost_by, kind_of, taken_now, held_execution, held_reply, held_extent}
use Rattle.disk_unit.specs.Held.{is_held_carried_out, is_held_changed}
use Rattle.disk_unit.specs.Keeping.{books_after_status}
use Rattle.disk_unit.specs.LiveCommands.{LiveCommand, HasLive, IsCurrentOf, process_under, has_process, queued_of}
use Rattle.disk_unit.specs.LiveCommands.{live_but, has_this_key, is_one_of}
use Rattle.disk_unit.specs.Plans.{sense_if}
use Rattle.disk_unit.specs.Units.{IsAborted, is_reported, reply_with, entry_with, told_of, books_if_reported}
use Rattle.disk_unit.specs.Units.{unit_reply}
use Rattle.disk_unit.specs.declared.unit.Accepted.{Accepted}
use Rattle.disk_unit.specs.declared.unit.Reply.{Reply as UnitReply}
use Rattle.disk_unit.proofs.LiveCommands.{entry_held, process_found, room_is}
use Rattle.disk_unit.proofs.MediumFacts.{contents_stay, none_taken, sent_unseen}
use Rattle.due_model.specs.RunSteps.{is_same_running}
use Rattle.target_units.specs.Rooms.{HasRoomFor, IsOfKind}
use Rattle.target_units.specs.Seated.{SeatedState, IsSeated, IsAtSeat, IsSince, current_reply, reply_told, current_id}
use Rattle.target_units.specs.Seated.{running_id, is_same_process, seat_time, settled, since_after, reply_kept}
use Rattle.target_units.specs.Seated.{with_books, AreQueued, IsProcess, IsNew, IsArrived, IsRun, IsRunLive, can_run}
use Rattle.target_units.specs.Seated.{taken_at, cost_at, HasSent, state_after_failure, state_after_end, state_ended}
use Rattle.target_units.specs.Seated.{state_after_loss, books_after_guest, books_by_guest, IsSensing, IsCut}
use Rattle.array_model.proofs.ExecutionFacts.{sense_block_of, sense_executed}
use Rattle.bus_base.specs.declared.AbortKind.TheVariants as aborts
use Rattle.array_model.specs.Seats
use Rattle.tag_queue.specs.declared.those.Those.TheVariants as those
use Rattle.disk_unit.specs.Books
use Rattle.disk_unit.specs.Units
use Rattle.disk_unit.specs.declared.unit.Accepted.TheVariants as accepted
use Rattle.disk_unit.proofs.AtSeats as seats
use Rattle.target_units.proofs.LiveQueue as queue
use Rattle.target_units.proofs.Tellings.{reported_bad}

some_none : {A : Type 0} {X : Type 0} (x : A) → None ≡ Some x → X
some_none x e = cc

-- ---- the choice

-- The reply is that of this process, where there is one.
abbrev IsReply : Option RunningProcess → Option UnitReply → Type 0
IsReply None reply = Unit {0}
IsReply (Some r) reply = reply ≡ reply_told r.reply

is_reply : (r : Option RunningProcess) (reply : Option UnitReply) → reply ≡ current_reply r → IsReply r reply
is_reply None reply h = tt
is_reply (Some r) reply h = h

chosen_reply : (u : UnitState) (held : Bool) → current_reply (unit_with_choice held u).current ≡ current_reply u.current
chosen_reply u held = go u.current held (choice u.pick u.waiting)
  where
    go : (r : Option RunningProcess) (y : Bool) (p : Option Process)
        → current_reply (if has_no_current r && not y then with_current (record u { current = r }) p
        else record u { current = r }).current ≡ current_reply r
    go None true p = refl
    go None false None = refl
    go None false (Some p) = refl
    go (Some r) y p = refl

chosen_pick : (u : UnitState) (held : Bool) → (unit_with_choice held u).pick ≡ u.pick
chosen_pick u held = go (has_no_current u.current && not held) (choice u.pick u.waiting)
  where
    go : (y : Bool) (p : Option Process) → (if y then with_current u p else u).pick ≡ u.pick
    go true None = refl
    go true (Some p) = refl
    go false p = refl

kept_is : (l : List LiveCommand) (c : Option ℕ) (r : Option RunningProcess) (reply : Option UnitReply)
    → IsCurrentOf l c r → IsReply r reply → reply_kept c reply ≡ current_reply r
kept_is l None None reply k h = refl
kept_is l None (Some r) reply k h = absurd k
kept_is l (Some key) None reply k h = absurd k
kept_is l (Some key) (Some r) reply k h = h

since_is : (a x : Option RunningProcess) (time since now : ℕ) → IsSince a time since
    → IsSince x (if is_same_running a x then time else now) (if is_same_running a x then since else now)
since_is a None time since now h = tt
since_is None (Some r) time since now h = refl
since_is (Some r) (Some q) time since now h = go (same_id r.process.id q.process.id)
  where
    go : (y : Bool) → (if y then since else now) ≡ (if y then time else now)
    go true = h
    go false = refl

pub settles :
    (hosts : List HostDef) (before : Seat) (time now : ℕ) (k : List LiveCommand) (old : UnitState) (v : SeatedState)
    → IsSeated hosts k old before time v → (l : List LiveCommand) (u : UnitState) (seat : Seat) (w : SeatedState)
    → IsUnitAt hosts l w.contents u seat w.books → AreQueued hosts seat.guests l
    → w.pick ≡ u.pick → IsReply u.current w.reply → w.since ≡ v.since
    → IsAtSeat hosts (Seats.settled_seat seat) (seat_time before (Seats.settled_seat seat) time now)
    (settled (current_id v.books) now w)
settles hosts before time now k old v h l u seat w at queued pick reply since =
    let held : Bool = Seats.is_any_held seat.hold in
    let next : UnitState = unit_with_choice held u in
    let kept : IsUnitAt hosts l w.contents next (Seats.settled_seat seat) (books_after_choice w.books w.pick) = subst
    (λ (p : Pick). IsUnitAt hosts l w.contents next (Seats.settled_seat seat) (books_after_choice w.books p))
    (sym pick) (seats.chosen hosts l w.contents u seat w.books at) in
    let first : current_id v.books ≡ running_id old.current = queue.current_is k old v.books h.kept.commands in
    let last : current_id (books_after_choice w.books w.pick) ≡ running_id next.current = queue.current_is l next
    (books_after_choice w.books w.pick) kept.commands in
    let same : is_same_process (current_id v.books) (current_id (books_after_choice w.books w.pick))
    ≡ is_same_running old.current next.current = (λ i. is_same_process (first i) (last i))
    ∙ queue.same_is old.current next.current in
    let since_eq : since_after (current_id v.books) (current_id (books_after_choice w.books w.pick)) w.since now
    ≡ (if is_same_running old.current next.current then v.since else now) = (λ i. if same i then since i else now) in
    let time_eq : seat_time before (Seats.settled_seat seat) time now
    ≡ (if is_same_running old.current next.current then time else now) = (λ i.
    if is_same_running (Seats.current_of (h.kept.there i)) (Seats.current_of (kept.there i)) then time else now) in
    let base : IsSince next.current (if is_same_running old.current next.current then time else now)
    (if is_same_running old.current next.current then v.since else now) = since_is old.current next.current time v.since
    now h.since in (
      l,
      next,
      record {
        kept = kept;
        queued = queued;
        pick = pick ∙ sym (chosen_pick u held);
        reply = kept_is l w.books.queue.current u.current w.reply at.commands.current reply ∙ sym (chosen_reply u held);
        since = subst (λ (t : ℕ). IsSince next.current t
            (since_after (current_id v.books) (current_id (books_after_choice w.books w.pick)) w.since now))
            (sym time_eq)
            (subst (λ (t : ℕ). IsSince next.current (if is_same_running old.current next.current then time else now) t)
            (sym since_eq) base);
      },
    )

pub current_seen : (hosts : List HostDef) (seat : Seat) (time : ℕ) (v : SeatedState) → IsAtSeat hosts seat time v
    → current_id v.books ≡ running_id (Seats.current_of seat.unit)
current_seen hosts seat time v h =
    queue.current_is h.0 h.1 v.books h.2.kept.commands ∙ (λ i. running_id (Seats.current_of (sym h.2.kept.there i)))

-- The relation goes with the seat and with the state.
abbrev AtAfter : List HostDef → Seat → Seat → ℕ → ℕ → SeatedState → Type 0
AtAfter hosts before after time now w =
    IsAtSeat hosts (Seats.settled_seat after) (seat_time before (Seats.settled_seat after) time now) w

moved : (hosts : List HostDef) (before one other : Seat) (time now : ℕ) (x y : SeatedState) → one ≡ other → y ≡ x
    → AtAfter hosts before one time now x → AtAfter hosts before other time now y
moved hosts before one other time now x y a b h = subst (λ (s : Seat). AtAfter hosts before s time now y) a
    (subst (λ (z : SeatedState). AtAfter hosts before one time now z) (sym b) h)

same_seat : (a b : Seat) (x : Option Seat) → x ≡ Some a → x ≡ Some b → a ≡ b
same_seat a b x p q = let e : Some a ≡ Some b = sym p ∙ q in cc

-- ---- a command arrives

new_is : (hosts : List HostDef) (l : List LiveCommand) (c : Contents) (u : UnitState) (seat : Seat) (b : UnitBooks)
    (p : Process) → IsUnitAt hosts l c u seat b → IsNew hosts seat p → has_process l p.id ≡ false
new_is hosts l c u seat b p at new =
    queue.not_live l u b p.id at.commands
    ((λ i. Seats.is_waiting_at (sym at.there i) p.id) ∙ new.not_waiting)
    ((λ i. running_if (Seats.current_of (sym at.there i)) p.id) ∙ new.not_current)

sensed_step : (seat : Seat) (p : Process) (u : UnitState)
    → seat.unit ≡ Some u → is_request_sense (command_of p.cdb) ≡ true
    → Seats.seat_after_accept p seat ≡ Some (Seats.seat_with_guest seat p None)
sensed_step seat p u h f =
    (λ i. Seats.seat_after_accept_at seat p (h i))
    ∙ (λ i. if f i then Some (Seats.seat_with_guest seat p None) else Seats.seat_with_waiting seat p u)

beside : (hosts : List HostDef) (seat : Seat) (time now : ℕ) (v : SeatedState)
    (h : IsAtSeat hosts seat time v) (p : Process) (reply : Option Reply) → has_process h.0 p.id ≡ false
    → AtAfter hosts seat (Seats.seat_with_guest seat p reply) time now (settled (current_id v.books) now v)
beside hosts seat time now v h p reply new = settles hosts seat time now h.0 h.1 v h.2 h.0 h.1
    (Seats.seat_with_guest seat p reply) v (seats.guest hosts h.0 v.contents h.1 seat v.books p reply h.2.kept)
    (queue.queued_beside hosts seat.guests p reply h.0 h.2.queued new) h.2.pick
    (is_reply h.1.current v.reply h.2.reply) refl

arrives :
    (hosts : List HostDef) (seat after : Seat) (time now : ℕ) (v w : SeatedState) (p : Process) (result : Accepted)
    → IsAtSeat hosts seat time v → p.initiator < 8 → IsNew hosts seat p → Seats.seat_after_accept p seat ≡ Some after
    → IsArrived v (entry_of p) p.cdb result w → AtAfter hosts seat after time now (settled (current_id v.books) now w)
arrives hosts seat after time now v w p accepted.AtOnce h lt new e a =
    let fresh : has_process h.0 p.id ≡ false = new_is hosts h.0 v.contents h.1 seat v.books p h.2.kept new in
    moved hosts seat (Seats.seat_with_guest seat p None) after time now (settled (current_id v.books) now v)
    (settled (current_id v.books) now w) (same_seat (Seats.seat_with_guest seat p None) after
    (Seats.seat_after_accept p seat) (sensed_step seat p h.1 h.2.kept.there a.0) e)
    (λ i. settled (current_id v.books) now (a.1 i)) (beside hosts seat time now v h p None fresh)
arrives hosts seat after time now v w p accepted.Full h lt new e a =
    let none : Seats.seat_after_accept p seat ≡ None =
    (seats.refused hosts h.0 v.contents h.1 seat v.books p h.2.kept a.0 a.1).0 in
    some_none after (sym none ∙ e)
arrives hosts seat after time now v w p (accepted.Queued key) h lt new e a =
    let fresh : has_process h.0 p.id ≡ false = new_is hosts h.0 v.contents h.1 seat v.books p h.2.kept new in
    let u : UnitState = record h.1 { waiting = h.1.waiting ++ p ∷ [] } in
    let there : Seat = record seat { unit = Some u } in
    let x = seats.accepted hosts h.0 v.contents h.1 seat v.books key p h.2.kept a.0 a.1 a.2 fresh a.3 in
    moved hosts seat there after time now (settled (current_id v.books) now
    (with_books v (books_with v.books key (entry_of p) p.cdb))) (settled (current_id v.books) now w)
    (same_seat there after (Seats.seat_after_accept p seat) x.0 e) (λ i. settled (current_id v.books) now (a.4 i))
    (settles hosts seat time now h.0 h.1 v h.2 (h.0 ++ record { key = key; process = p } ∷ []) u there
    (with_books v (books_with v.books key (entry_of p) p.cdb)) x.1 (queue.queued_more hosts seat.guests h.0 (record {
      key = key;
      process = p;
    }) h.2.queued (record { sense = a.0; below = lt; host = new.host; no_guest = new.no_guest })) h.2.pick
    (is_reply h.1.current v.reply h.2.reply) refl)

entry_is : (c : Contents) (p : Process) (id : ProcId) (from : ℕ) (tag : Option ℕ) (class : Class) (cdb : List ℕ)
    → IsProcess p id from tag class cdb → p.serial ≡ is_reeled c
    → entry_with id from tag class (held_extent c cdb) ≡ entry_of p
entry_is c p id from tag class cdb h kind = (λ i. entry_with (sym h.id_is i) (sym h.from_is i)
    (sym h.tag_is i) (sym h.class_is i) (held_extent c (sym h.cdb_is i)))
    ∙ entry_held p c kind

own_block : (v w : SeatedState) (entry : Entry) (p : Process) (id : ProcId) (from : ℕ)
    (tag : Option ℕ) (class : Class) (cdb : List ℕ) (result : Accepted)
    → IsProcess p id from tag class cdb → IsArrived v entry cdb result w → IsArrived v entry p.cdb result w
own_block v w entry p id from tag class cdb result h a =
    subst (λ (x : List ℕ). IsArrived v entry x result w) (sym h.cdb_is) a

own_words : (v w : SeatedState) (p : Process) (id : ProcId) (from : ℕ)
    (tag : Option ℕ) (class : Class) (cdb : List ℕ) (result : Accepted)
    → IsProcess p id from tag class cdb → p.serial ≡ is_reeled v.contents
    → IsArrived v (entry_with id from tag class (held_extent v.contents cdb)) cdb result w
    → IsArrived v (entry_of p) p.cdb result w
own_words v w p id from tag class cdb result h kind a =
    own_block v w (entry_of p) p id from tag class cdb result h
    (subst (λ (x : Entry). IsArrived v x cdb result w) (entry_is v.contents p id from tag class cdb h kind) a)

-- The unit of this seat is a tape exactly where the process is serial.
kind_held : (hosts : List HostDef) (seat : Seat) (time : ℕ) (v : SeatedState) (p : Process)
    → IsAtSeat hosts seat time v → IsOfKind p.serial seat.unit → p.serial ≡ is_reeled v.contents
kind_held hosts seat time v p h kind =
    let there : is_reeled h.1.contents ≡ p.serial =
    subst (λ (x : Option UnitState). IsOfKind p.serial x) h.2.kept.there kind in
    sym there ∙ (λ i. is_reeled (h.2.kept.contents i))

pub accepts : (hosts : List HostDef) (seat after : Seat) (time now : ℕ) (v w : SeatedState) (p : Process)
    (id : ProcId) (from : ℕ) (tag : Option ℕ) (class : Class) (cdb : List ℕ) (result : Accepted)
    → from < 8 → IsArrived v (entry_with id from tag class (held_extent v.contents cdb)) cdb result w
    → IsAtSeat hosts seat time v → IsProcess p id from tag class cdb → IsOfKind p.serial seat.unit → IsNew hosts seat p
    → Seats.seat_after_accept p seat ≡ Some after
    → AtAfter hosts seat after time now (settled (current_id v.books) now w)
accepts hosts seat after time now v w p id from tag class cdb result lt a h words kind new e = arrives
    hosts seat after time now v w p result h (subst (λ (n : ℕ). n < 8) (sym words.from_is) lt) new e
    (own_words v w p id from tag class cdb result words (kind_held hosts seat time v p h kind) a)

pub refuses : (hosts : List HostDef) (seat : Seat) (time now : ℕ) (v w : SeatedState) (entry : Entry) (p : Process)
    (id : ProcId) (from : ℕ) (tag : Option ℕ) (class : Class) (cdb : List ℕ) (result : Accepted)
    → IsArrived v entry cdb result w → IsAtSeat hosts seat time v
    → IsProcess p id from tag class cdb → IsNew hosts seat p → result ≡ accepted.Full
    → (Seats.seat_after_accept p seat ≡ None)
    × (Seats.seat_after_refuse p seat ≡ Some (Seats.seat_with_guest seat p (Some queue_full)))
    × AtAfter hosts seat (Seats.seat_with_guest seat p (Some queue_full)) time now (settled (current_id v.books) now w)
refuses hosts seat time now v w entry p id from tag class cdb result a h words new full =
    let x : IsArrived v entry p.cdb accepted.Full w = subst (λ (r : Accepted). IsArrived v entry p.cdb r w) full
    (own_block v w entry p id from tag class cdb result words a) in
    let steps = seats.refused hosts h.0 v.contents h.1 seat v.books p h.2.kept x.0 x.1 in
    let fresh : has_process h.0 p.id ≡ false = new_is hosts h.0 v.contents h.1 seat v.books p h.2.kept new in (
      steps.0,
      steps.1,
      subst (λ (z : SeatedState). AtAfter hosts seat (Seats.seat_with_guest seat p (Some queue_full)) time now
          (settled (current_id v.books) now z)) (sym x.2) (beside hosts seat time now v h p (Some queue_full) fresh),
    )

-- Where the array refuses it the queue is full.
pub refused_full :
    (hosts : List HostDef) (seat after : Seat) (time : ℕ) (v w : SeatedState) (entry : Entry) (p : Process)
    (id : ProcId) (from : ℕ) (tag : Option ℕ) (class : Class) (cdb : List ℕ) (result : Accepted)
    → IsArrived v entry cdb result w → IsAtSeat hosts seat time v
    → IsProcess p id from tag class cdb → Seats.seat_after_refuse p seat ≡ Some after → result ≡ accepted.Full
refused_full hosts seat after time v w entry p id from tag class cdb result a h words e = go result
    (own_block v w entry p id from tag class cdb result words a) (full_at (not (is_request_sense (command_of p.cdb)))
    (process_count h.1 == h.1.depth) ((λ i. Seats.seat_after_refuse_at seat p (sym h.2.kept.there i)) ∙ e))
  where
    full_at :
        (y z : Bool) → (if y && z then Some (Seats.seat_with_guest seat p (Some queue_full)) else None) ≡ Some after
        → (y ≡ true) × (z ≡ true)
    full_at true true k = (refl, refl)
    full_at true false k = some_none after k
    full_at false z k = some_none after k

    go : (r : Accepted) → IsArrived v entry p.cdb r w
        → (not (is_request_sense (command_of p.cdb)) ≡ true) × ((process_count h.1 == h.1.depth) ≡ true)
        → r ≡ accepted.Full
    go accepted.Full k full = refl
    go accepted.AtOnce k full = let bad : false ≡ true = (λ i. not (sym k.0 i)) ∙ full.0 in cc
    go (accepted.Queued key) k full =
        let count : process_count h.1 ≡ length v.books.queue.arrived = room_is h.0 h.1 v.books h.2.kept.commands in
        let depth : v.books.queue.depth ≡ h.1.depth = h.2.kept.commands.depth in
        let same : process_count h.1 ≡ h.1.depth = eqb-true (process_count h.1) h.1.depth full.1 in
        absurd (omega (arith, count, depth, same, k.1))

-- An arrival takes none of its memory.
pub arrival_spare : (v w : SeatedState) (entry : Entry) (cdb : List ℕ) (result : Accepted)
    → IsArrived v entry cdb result w → w.spare ≡ v.spare
arrival_spare v w entry cdb accepted.AtOnce a = λ i. (a.1 i).spare
arrival_spare v w entry cdb accepted.Full a = λ i. (a.2 i).spare
arrival_spare v w entry cdb (accepted.Queued key) a = λ i. (a.4 i).spare

-- What the call of the unit tells.
pub arrived_by : (v w : SeatedState) (entry : Entry) (cdb : List ℕ) (result : Accepted) → w ≡ with_books v w.books
    → Units.IsAccepted (is_request_sense (command_of cdb)) v.books entry cdb w.books result
    → IsArrived v entry cdb result w
arrived_by v w entry cdb result others = go (is_request_sense (command_of cdb)) refl result
  where
    go : (y : Bool) → is_request_sense (command_of cdb) ≡ y
        → (r : Accepted) → Units.IsAccepted y v.books entry cdb w.books r → IsArrived v entry cdb r w
    go true f accepted.AtOnce a = (f, others ∙ (λ i. with_books v (a i)))
    go true f (accepted.Queued key) a = absurd a
    go true f accepted.Full a = absurd a
    go false f accepted.AtOnce a = absurd a
    go false f (accepted.Queued key) a = (f, a.0, a.1, a.2, others ∙ (λ i. with_books v (a.3 i)))
    go false f accepted.Full a = (f, a.0, others ∙ (λ i. with_books v (a.1 i)))

-- ---- a command fails

none_running : (seat : Seat) (id : ProcId) → Seats.running_at seat id ≡ None
    → running_if (Seats.current_of seat.unit) id ≡ None
none_running seat id h = go (guest_at seat.guests id) h
  where
    go : (g : Option RunningProcess) → (if is_some g then g else running_if (Seats.current_of seat.unit) id) ≡ None
        → running_if (Seats.current_of seat.unit) id ≡ None
    go None k = k
    go (Some g) k = cc

failed_reply : (r : Option RunningProcess) (id : ProcId) (reply : Reply) (kept : Option UnitReply)
    → kept ≡ current_reply r → IsReply (current_with_reply r id reply)
    (if is_same_process (running_id r) (Some id) then Some (told_of reply) else kept)
failed_reply None id reply kept h = tt
failed_reply (Some r) id reply kept h = go (same_id r.process.id id)
  where
    go : (y : Bool) → IsReply (if y then Some (record r { reply = Some reply }) else Some r)
        (if y then Some (told_of reply) else kept)
    go true = refl
    go false = h

other_reply : (r : Option RunningProcess) (id : ProcId) (reply kept : Option UnitReply) → running_if r id ≡ None
    → (if is_same_process (running_id r) (Some id) then reply else kept) ≡ kept
other_reply None id reply kept h = refl
other_reply (Some r) id reply kept h = go (same_id r.process.id id) h
  where
    go : (y : Bool) → (if y then Some r else None) ≡ None → (if y then reply else kept) ≡ kept
    go true k = cc
    go false k = refl

pub fails : (hosts : List HostDef) (seat after : Seat) (time now : ℕ)
    (v : SeatedState) (id : ProcId) (code : ℕ) (over : Bool) (p : Process)
    → IsAtSeat hosts seat time v → p.id ≡ id → Seats.seat_after_failure over p (aborted_reply code) seat ≡ Some after
    → AtAfter hosts seat after time now (settled (current_id v.books) now (state_after_failure v id code))
fails hosts seat after time now v id code over p h same e = subst (λ (n : ProcId). AtAfter hosts seat after time now
    (settled (current_id v.books) now (state_after_failure v n code))) same (go (Seats.running_at seat p.id) refl e)
  where
    go : (x : Option RunningProcess) → Seats.running_at seat p.id ≡ x
        → Seats.seat_after_failure_of seat over p (aborted_reply code) x ≡ Some after
        → AtAfter hosts seat after time now (settled (current_id v.books) now (state_after_failure v p.id code))
    go (Some r) f k = run (is_none r.reply) k
      where
        run :
            (y : Bool) → (if y then Some (Seats.seat_with_reply seat p.id (aborted_reply code)) else None) ≡ Some after
            → AtAfter hosts seat after time now (settled (current_id v.books) now (state_after_failure v p.id code))
        run false m = some_none after m
        run true m =
            let next : Seat = Seats.seat_with_reply seat p.id (aborted_reply code) in
            let it : next ≡ after = cc in
            let current : current_id v.books ≡ running_id h.1.current = queue.current_is
            h.0 h.1 v.books h.2.kept.commands in
            moved hosts seat next after time now (settled (current_id v.books) now (state_after_failure v p.id code))
            (settled (current_id v.books) now (state_after_failure v p.id code)) it refl (settles hosts seat time now
            h.0 h.1 v h.2 h.0 (unit_with_reply p.id (aborted_reply code) h.1) next (state_after_failure v p.id code)
            (seats.failed hosts h.0 v.contents h.1 seat v.books p.id (aborted_reply code) h.2.kept)
            (queue.queued_by hosts seat.guests next.guests
            (λ other n. queue.none_replied seat.guests p.id (aborted_reply code) other n) h.0 h.2.queued) h.2.pick
            (subst (λ (c : Option ProcId). IsReply (current_with_reply h.1.current p.id (aborted_reply code))
            (if is_same_process c (Some p.id) then Some (told_of (aborted_reply code)) else v.reply)) (sym current)
            (failed_reply h.1.current p.id (aborted_reply code) v.reply h.2.reply)) refl)
    go None f k = run (Seats.is_waiting_at seat.unit p.id) refl over k
      where
        run : (y : Bool) → Seats.is_waiting_at seat.unit p.id ≡ y → (z : Bool)
            → (if y || z then None else Some (Seats.seat_with_guest seat p (Some (aborted_reply code)))) ≡ Some after
            → AtAfter hosts seat after time now (settled (current_id v.books) now (state_after_failure v p.id code))
        run true w z m = some_none after m
        run false w true m = some_none after m
        run false w false m =
            let next : Seat = Seats.seat_with_guest seat p (Some (aborted_reply code)) in
            let it : next ≡ after = cc in
            let none : running_if h.1.current p.id ≡ None =
            (λ i. running_if (Seats.current_of (sym h.2.kept.there i)) p.id) ∙ none_running seat p.id f in
            let fresh : has_process h.0 p.id ≡ false = queue.not_live h.0 h.1 v.books p.id h.2.kept.commands
            ((λ i. Seats.is_waiting_at (sym h.2.kept.there i) p.id) ∙ w) none in
            let current : current_id v.books ≡ running_id h.1.current = queue.current_is
            h.0 h.1 v.books h.2.kept.commands in
            let reply :
            (if is_same_process (current_id v.books) (Some p.id) then Some (told_of (aborted_reply code)) else v.reply)
            ≡ v.reply =
            (λ i. if is_same_process (current i) (Some p.id) then Some (told_of (aborted_reply code)) else v.reply)
            ∙ other_reply h.1.current p.id (Some (told_of (aborted_reply code))) v.reply none in
            moved hosts seat next after time now (settled (current_id v.books) now v) (settled (current_id v.books) now
            (state_after_failure v p.id code)) it (λ i. settled (current_id v.books) now (record v { reply = reply i }))
            (beside hosts seat time now v h p (Some (aborted_reply code)) fresh)

-- ---- a command leaves

without_reply : (r : Option RunningProcess) (id : ProcId) (kept : Option UnitReply) → IsReply r kept
    → IsReply (if is_some (running_if r id) then None else r) kept
without_reply None id kept h = tt
without_reply (Some r) id kept h = go (same_id r.process.id id)
  where
    go : (y : Bool) → IsReply (if is_some (if y then Some r else None) then None else Some r) kept
    go true = tt
    go false = h

status_guests : (seat : Seat) (p : Process) (reply : Reply)
    → (Seats.seat_after_status seat p reply).guests ≡ seat.guests
status_guests seat p reply =
    go (reply.status == CHECK_CONDITION) (reply.status == GOOD && is_request_sense (command_of p.cdb))
  where
    go : (y z : Bool) → (if y then record seat {
      senses = Seats.with_sense_of seat.senses p.initiator (Some reply.sense);
      hold = Seats.with_hold_of seat.hold p.initiator true;
    } else if z then record seat {
      senses = Seats.with_sense_of seat.senses p.initiator None;
      hold = Seats.with_hold_of seat.hold p.initiator false;
    } else seat).guests ≡ seat.guests
    go true z = refl
    go false true = refl
    go false false = refl

pub loses : (hosts : List HostDef) (seat after : Seat) (time now : ℕ) (v : SeatedState) (id : ProcId) (over : Bool)
    → IsAtSeat hosts seat time v → Seats.seat_after_loss over id seat ≡ Some after → AtAfter hosts seat after time now
    (settled (current_id v.books) now (state_after_loss v (key_of_process v.books.queue.arrived id)))
loses hosts seat after time now v id true h e = some_none after e
loses hosts seat after time now v id false h e =
    let it : Seats.seat_without seat id ≡ after = cc in
    subst (λ (s : Seat). AtAfter hosts seat s time now
    (settled (current_id v.books) now (state_after_loss v (key_of_process v.books.queue.arrived id)))) it
    (go (key_of_process v.books.queue.arrived id) refl)
  where
    arrived : v.books.queue.arrived ≡ queued_of h.0
    arrived = h.2.kept.commands.arrived

    go : (x : Option ℕ) → key_of_process v.books.queue.arrived id ≡ x
        → AtAfter hosts seat (Seats.seat_without seat id) time now
        (settled (current_id v.books) now (state_after_loss v x))
    go None f =
        let none : has_process h.0 id ≡ false = queue.absent h.0 id ((λ i. key_of_process (sym arrived i) id) ∙ f) in
        settles hosts seat time now h.0 h.1 v h.2 h.0 h.1 (Seats.seat_without seat id) v
        (seats.guest_lost hosts h.0 v.contents h.1 seat v.books id h.2.kept none) (queue.queued_by hosts seat.guests
        (without_guest seat.guests id) (λ other n. queue.none_without seat.guests id other n) h.0 h.2.queued) h.2.pick
        (is_reply h.1.current v.reply h.2.reply) refl
    go (Some key) f =
        let it : queue.IsFound h.0 key id = queue.found h.0 id key h.2.kept.commands.apart
        ((λ i. key_of_process (sym arrived i) id) ∙ f) in
        subst (λ (n : ProcId). AtAfter hosts seat (Seats.seat_without seat n) time now
        (settled (current_id v.books) now (with_books v (books_without v.books key)))) it.same
        (settles hosts seat time now h.0 h.1 v h.2 (live_but (has_this_key key) h.0) (unit_without h.1 it.process.id)
        (Seats.seat_without seat it.process.id) (with_books v (books_without v.books key))
        (seats.lost hosts h.0 v.contents h.1 seat v.books key it.process h.2.kept it.under)
        (queue.queued_by hosts seat.guests (without_guest seat.guests it.process.id)
        (λ other n. queue.none_without seat.guests it.process.id other n) (live_but (has_this_key key) h.0)
        (queue.queued_but hosts seat.guests (has_this_key key) h.0 h.2.queued)) h.2.pick
        (without_reply h.1.current it.process.id v.reply (is_reply h.1.current v.reply h.2.reply)) refl)

-- ---- a command ends

-- The current process of this number has this reply.
record IsEnding (u : UnitState) (id : ProcId) (status : ℕ) (seat after : Seat) : Type 0 where
  process : Process
  reply : Reply
  current : u.current ≡ Some (record { process = process; reply = Some reply })
  same : process.id ≡ id
  status_is : reply.status ≡ status
  left : Seats.seat_without (Seats.seat_after_status seat process reply) process.id ≡ after

ending : (seat after : Seat) (u : UnitState) (id : ProcId) (status : ℕ) → seat.unit ≡ Some u
    → guest_at seat.guests id ≡ None → Seats.seat_after_end id status seat ≡ Some after
    → IsEnding u id status seat after
ending seat after u id status there none e = go u.current refl ((λ i. Seats.seat_after_end_of seat status
    (if is_some (sym none i) then sym none i else running_if (Seats.current_of (sym there i)) id)) ∙ e)
  where
    given : (p : Process) (reply : Option Reply) → u.current ≡ Some (record { process = p; reply = reply })
        → same_id p.id id ≡ true → Seats.seat_after_end_with seat p status reply ≡ Some after
        → IsEnding u id status seat after
    given p None f m k = some_none after k
    given p (Some reply) f m k = same (reply.status == status) refl k
      where
        same : (y : Bool) → (reply.status == status) ≡ y
            → (if y then Some (Seats.seat_without (Seats.seat_after_status seat p reply) p.id) else None) ≡ Some after
            → IsEnding u id status seat after
        same false z n = some_none after n
        same true z n =
            let it : Seats.seat_without (Seats.seat_after_status seat p reply) p.id ≡ after = cc in
            record {
              process = p;
              reply = reply;
              current = f;
              same = same_id_is p.id id m;
              status_is = eqb-true reply.status status z;
              left = it;
            }

    go : (r : Option RunningProcess) → u.current ≡ r
        → Seats.seat_after_end_of seat status (running_if r id) ≡ Some after → IsEnding u id status seat after
    go None f k = some_none after k
    go (Some r) f k = own (same_id r.process.id id) refl k
      where
        own : (y : Bool) → same_id r.process.id id ≡ y
            → Seats.seat_after_end_of seat status (if y then Some r else None) ≡ Some after
            → IsEnding u id status seat after
        own false m n = some_none after n
        own true m n = given r.process r.reply f m n

-- The current process has its key.
record IsCurrentKey (l : List LiveCommand) (b : UnitBooks) (p : Process) : Type 0 where
  key : ℕ
  current : b.queue.current ≡ Some key
  under : process_under l key ≡ Some p
  found : key_of_process b.queue.arrived p.id ≡ Some key

current_key : (l : List LiveCommand) (u : UnitState) (b : UnitBooks) (p : Process) (reply : Option Reply)
    → HasLive l u b → u.current ≡ Some (record { process = p; reply = reply }) → IsCurrentKey l b p
current_key l u b p reply h f =
    go b.queue.current refl (subst (λ (r : Option RunningProcess). IsCurrentOf l b.queue.current r) f h.current)
  where
    go : (c : Option ℕ) → b.queue.current ≡ c → IsCurrentOf l c (Some (record { process = p; reply = reply }))
        → IsCurrentKey l b p
    go None e k = absurd k
    go (Some key) e k = record {
      key = key;
      current = e;
      under = k;
      found = (λ i. key_of_process (h.arrived i) p.id) ∙ queue.key_is l key p h.apart k;
    }

pub ends : (hosts : List HostDef) (seat after : Seat) (time now : ℕ) (v : SeatedState) (id : ProcId) (status : ℕ)
    → IsAtSeat hosts seat time v → guest_at seat.guests id ≡ None → Seats.seat_after_end id status seat ≡ Some after
    → AtAfter hosts seat after time now
    (settled (current_id v.books) now (state_after_end v (key_of_process v.books.queue.arrived id)))
ends hosts seat after time now v id status h none e =
    let it : IsEnding h.1 id status seat after = ending seat after h.1 id status h.2.kept.there none e in
    let p : Process = it.process in
    let k : IsCurrentKey h.0 v.books p = current_key h.0 h.1 v.books p (Some it.reply) h.2.kept.commands it.current in
    let q : queue.IsQueued hosts seat.guests p = queue.queued_under hosts seat.guests h.0 k.key p h.2.queued k.under in
    let next : Seat = Seats.seat_without (Seats.seat_after_status seat p it.reply) p.id in
    let w : SeatedState = with_books v
    (books_after_end v.books k.key (initiator_at v.books k.key) (sense_if it.reply)) in
    let replied : v.reply ≡ Some (told_of it.reply) = h.2.reply ∙ (λ i. current_reply (it.current i)) in
    let key_found : key_of_process v.books.queue.arrived id ≡ Some k.key =
    (λ i. key_of_process v.books.queue.arrived (sym it.same i)) ∙ k.found in
    let state : state_after_end v (key_of_process v.books.queue.arrived id) ≡ w = (λ i. state_after_end v (key_found i))
    ∙ (λ i. state_ended v k.key (replied i)) in
    let guests : next.guests ≡ without_guest seat.guests p.id =
    (λ i. without_guest (status_guests seat p it.reply i) p.id) in
    moved hosts seat next after time now (settled (current_id v.books) now w)
    (settled (current_id v.books) now (state_after_end v (key_of_process v.books.queue.arrived id))) it.left
    (λ i. settled (current_id v.books) now (state i))
    (settles hosts seat time now h.0 h.1 v h.2 (live_but (has_this_key k.key) h.0) (unit_without h.1 p.id) next w
    (seats.ended hosts h.0 v.contents h.1 seat v.books k.key p it.reply h.2.kept q.below k.under q.sense) (subst
    (λ (g : List RunningProcess). AreQueued hosts g (live_but (has_this_key k.key) h.0)) (sym guests) (queue.queued_by
    hosts seat.guests (without_guest seat.guests p.id) (λ other n. queue.none_without seat.guests p.id other n)
    (live_but (has_this_key k.key) h.0) (queue.queued_but hosts seat.guests (has_this_key k.key) h.0 h.2.queued)))
    h.2.pick (without_reply h.1.current p.id v.reply (is_reply h.1.current v.reply h.2.reply)) refl)

-- No command that leaves takes of its memory.
pub end_spare : (v : SeatedState) (x : Option ℕ) → (state_after_end v x).spare ≡ v.spare
end_spare v None = refl
end_spare v (Some key) = go v.reply
  where
    go : (reply : Option UnitReply) → (state_ended v key reply).spare ≡ v.spare
    go None = refl
    go (Some reply) = refl

pub loss_spare : (v : SeatedState) (x : Option ℕ) → (state_after_loss v x).spare ≡ v.spare
loss_spare v None = refl
loss_spare v (Some key) = refl

-- ---- a process outside the queue ends

guest_books : (b : UnitBooks) (p : Process) (reply : Reply)
    → books_after_guest b p.initiator (told_of reply) (is_request_sense (command_of p.cdb))
    ≡ books_after_status b p reply
guest_books b p reply = go (reply.status == CHECK_CONDITION)
  where
    go : (y : Bool) → books_by_guest b p.initiator (is_request_sense (command_of p.cdb)) reply.status
        (if y then Some reply.sense else None) ≡ (if y then Books.books_with_sense b p.initiator reply.sense
        else if reply.status == GOOD && is_request_sense (command_of p.cdb) then Books.books_without_sense b p.initiator
        else b)
    go true = refl
    go false = refl

guest_sensing : (b : UnitBooks) (p : Process) (reply : Reply) (senses : Bool) → IsSensing reply p senses
    → books_after_guest b p.initiator (told_of reply) senses
    ≡ books_after_guest b p.initiator (told_of reply) (is_request_sense (command_of p.cdb))
guest_sensing b p reply senses h = go (sense_if reply)
  where
    good : (y : Bool) → (y ≡ true → is_request_sense (command_of p.cdb) ≡ senses)
        → (if y && senses then Books.books_without_sense b p.initiator else b)
        ≡ (if y && is_request_sense (command_of p.cdb) then Books.books_without_sense b p.initiator else b)
    good true k = λ i. if sym (k refl) i then Books.books_without_sense b p.initiator else b
    good false k = refl

    go : (x : Option Sense) → books_by_guest b p.initiator senses reply.status x
        ≡ books_by_guest b p.initiator (is_request_sense (command_of p.cdb)) reply.status x
    go (Some sense) = refl
    go None = good (reply.status == GOOD) h

guest_end_step : (seat after : Seat) (id : ProcId) (status : ℕ) (p : Process) (reply : Reply)
    → guest_at seat.guests id ≡ Some (record { process = p; reply = Some reply })
    → Seats.seat_after_end id status seat ≡ Some after
    → Seats.seat_without (Seats.seat_after_status seat p reply) p.id ≡ after
guest_end_step seat after id status p reply g e = go (reply.status == status) ((λ i. Seats.seat_after_end_of seat status
    (if is_some (sym g i) then sym g i else running_if (Seats.current_of seat.unit) id)) ∙ e)
  where
    go : (y : Bool)
        → (if y then Some (Seats.seat_without (Seats.seat_after_status seat p reply) p.id) else None) ≡ Some after
        → Seats.seat_without (Seats.seat_after_status seat p reply) p.id ≡ after
    go false k = some_none after k
    go true k = cc

pub guest_ends : (hosts : List HostDef) (seat after : Seat) (time now : ℕ) (v : SeatedState) (from : ℕ)
    (reply : UnitReply) (senses : Bool) (status : ℕ) (id : ProcId) (p : Process) (given : Reply)
    → from < 8 → IsAtSeat hosts seat time v
    → guest_at seat.guests id ≡ Some (record { process = p; reply = Some given }) → p.initiator ≡ from
    → reply ≡ told_of given → IsSensing given p senses → Seats.seat_after_end id status seat ≡ Some after
    → AtAfter hosts seat after time now
    (settled (current_id v.books) now (with_books v (books_after_guest v.books from reply senses)))
guest_ends hosts seat after time now v from reply senses status id p given lt h g initiator told sense e =
    let same : p.id ≡ id = guest_id seat.guests id (record { process = p; reply = Some given }) g in
    let own : guest_at seat.guests p.id ≡ Some (record { process = p; reply = Some given }) = subst
    (λ (n : ProcId). guest_at seat.guests n ≡ Some (record { process = p; reply = Some given })) (sym same) g in
    let fresh : has_process h.0 p.id ≡ false = queue.guest_not_live hosts seat.guests h.0 p.id
    (record { process = p; reply = Some given }) h.2.queued own in
    let next : Seat = Seats.seat_without (Seats.seat_after_status seat p given) p.id in
    let w : SeatedState = with_books v (books_after_status v.books p given) in
    let state : with_books v (books_after_guest v.books from reply senses) ≡ w =
    (λ i. with_books v (books_after_guest v.books (sym initiator i) (told i) senses))
    ∙ (λ i. with_books v (guest_sensing v.books p given senses sense i))
    ∙ (λ i. with_books v (guest_books v.books p given i)) in
    let guests : next.guests ≡ without_guest seat.guests p.id =
    (λ i. without_guest (status_guests seat p given i) p.id) in
    moved hosts seat next after time now (settled (current_id v.books) now w)
    (settled (current_id v.books) now (with_books v (books_after_guest v.books from reply senses)))
    (guest_end_step seat after id status p given g e) (λ i. settled (current_id v.books) now (state i))
    (settles hosts seat time now h.0 h.1 v h.2 h.0 h.1 next w (seats.guest_ended hosts h.0
    v.contents h.1 seat v.books p given h.2.kept (subst (λ (n : ℕ). n < 8) (sym initiator) lt) fresh)
    (subst (λ (x : List RunningProcess). AreQueued hosts x h.0) (sym guests) (queue.queued_by hosts seat.guests
    (without_guest seat.guests p.id) (λ other n. queue.none_without seat.guests p.id other n) h.0 h.2.queued)) h.2.pick
    (is_reply h.1.current v.reply h.2.reply) refl)

-- ---- aborts and resets

kept_reply : (drops : Process → Bool) (r : Option RunningProcess) (kept : Option UnitReply) → IsReply r kept
    → IsReply (kept_running drops r) kept
kept_reply drops None kept h = tt
kept_reply drops (Some r) kept h = go (drops r.process)
  where
    go : (y : Bool) → IsReply (if y then None else Some r) kept
    go true = tt
    go false = h

-- Those that such a test names leave the seat.
leaves : (hosts : List HostDef) (seat next : Seat) (time now : ℕ) (v w : SeatedState)
    (drops : Process → Bool) (gone : LiveCommand → Bool) (h : IsAtSeat hosts seat time v)
    → IsUnitAt hosts (live_but gone h.0) v.contents (unit_kept drops h.1) next w.books
    → next.guests ≡ kept_guests drops seat.guests → w ≡ with_books v w.books
    → AtAfter hosts seat next time now (settled (current_id v.books) now w)
leaves hosts seat next time now v w drops gone h at guests others = subst
    (λ (z : SeatedState). AtAfter hosts seat next time now (settled (current_id v.books) now z)) (sym others)
    (settles hosts seat time now h.0 h.1 v h.2 (live_but gone h.0) (unit_kept drops h.1) next (with_books v w.books) at
    (subst (λ (g : List RunningProcess). AreQueued hosts g (live_but gone h.0)) (sym guests) (queue.queued_by
    hosts seat.guests (kept_guests drops seat.guests) (λ other n. queue.none_kept drops seat.guests other n)
    (live_but gone h.0) (queue.queued_but hosts seat.guests gone h.0 h.2.queued))) h.2.pick
    (kept_reply drops h.1.current v.reply (is_reply h.1.current v.reply h.2.reply)) refl)

by_books : (hosts : List HostDef) (l : List LiveCommand) (c : Contents) (u : UnitState) (seat : Seat) (x y : UnitBooks)
    → y ≡ x → IsUnitAt hosts l c u seat x → IsUnitAt hosts l c u seat y
by_books hosts l c u seat x y e at = subst (λ (b : UnitBooks). IsUnitAt hosts l c u seat b) (sym e) at

pub resets : (hosts : List HostDef) (seat : Seat) (time now : ℕ) (v : SeatedState) → IsAtSeat hosts seat time v
    → AtAfter hosts seat (Seats.seat_after_reset hosts seat) time now
    (settled (current_id v.books) now (with_books v (books_after_reset v.books)))
resets hosts seat time now v h = leaves hosts seat (Seats.seat_after_reset hosts seat) time now v
    (with_books v (books_after_reset v.books)) (λ p. true) (is_one_of those.All) h
    (seats.reset hosts h.0 v.contents h.1 seat v.books h.2.kept) refl refl

cuts : (hosts : List HostDef) (seat : Seat) (time now : ℕ) (v w : SeatedState) (kind : AbortKind) (by : ℕ)
    → by < 8 → IsAtSeat hosts seat time v → IsAborted kind by v.books w.books → w ≡ with_books v w.books
    → AtAfter hosts seat (Seats.seat_after_aborted hosts by kind seat) time now (settled (current_id v.books) now w)
cuts hosts seat time now v w aborts.All by lt h a others = leaves hosts seat (Seats.seat_after_abort by seat) time now
    v w (λ p. p.initiator == by) (is_one_of (those.Of by)) h (by_books hosts (live_but (is_one_of (those.Of by)) h.0)
    v.contents (unit_kept (λ p. p.initiator == by) h.1) (Seats.seat_after_abort by seat) (books_after_abort v.books by)
    w.books a (seats.aborted hosts h.0 v.contents h.1 seat v.books by h.2.kept lt)) refl others
cuts hosts seat time now v w (aborts.Tag n) by lt h a others = leaves hosts seat
    (Seats.seat_after_abort_tag by n seat) time now v w (λ p. p.initiator == by && has_tag p.tag n)
    (is_one_of (those.Tagged by n)) h (by_books hosts (live_but (is_one_of (those.Tagged by n)) h.0) v.contents
    (unit_kept (λ p. p.initiator == by && has_tag p.tag n) h.1)
    (Seats.seat_after_abort_tag by n seat) (books_after_abort_tag v.books by n) w.books a
    (seats.tag_aborted hosts h.0 v.contents h.1 seat v.books by n h.2.kept)) refl others
cuts hosts seat time now v w aborts.WholeQueue by lt h a others =
    leaves hosts seat (Seats.seat_after_clear_queue by seat) time now v w (λ p. true) (is_one_of those.All) h
    (seats.cleared hosts h.0 v.contents h.1 seat v.books w.books by h.2.kept a) refl others
cuts hosts seat time now v w aborts.Device by lt h a others = leaves hosts seat
    (Seats.seat_after_reset hosts seat) time now v w (λ p. true) (is_one_of those.All) h (by_books hosts
    (live_but (is_one_of those.All) h.0) v.contents (unit_kept (λ p. true) h.1) (Seats.seat_after_reset hosts seat)
    (books_after_reset v.books) w.books a (seats.reset hosts h.0 v.contents h.1 seat v.books h.2.kept)) refl others

pub aborts_at : (hosts : List HostDef) (seat : Seat) (time now : ℕ) (v w : SeatedState) (kind : AbortKind) (by : ℕ)
    → by < 8 → IsCut kind by v w → IsAtSeat hosts seat time v
    → AtAfter hosts seat (Seats.seat_after_aborted hosts by kind seat) time now (settled (current_id v.books) now w)
aborts_at hosts seat time now v w kind by lt cut h = cuts hosts seat time now v w kind by lt h cut.books cut.others

-- ---- a command runs

unreported : (attention : Option Sense) (cdb : List ℕ) (reply : Reply) → is_reported attention cdb ≡ false
    → reply_with attention cdb reply ≡ reply
unreported None cdb reply h = refl
unreported (Some a) cdb reply h = λ i. if h i then check_condition a else reply

contents_same : (c : Contents) (attention : Option Sense) (block cdb sent own : List ℕ)
    → block ≡ cdb → ((reply_with attention block (held_reply c block)).status ≡ GOOD → sent ≡ own)
    → (if is_reported attention block then c else (held_execution c cdb own).contents)
    ≡ (if is_reported attention block then c else (held_execution c block sent).contents)
contents_same c attention block cdb sent own b h = go (is_reported attention block) refl
  where
    carried : (z : Bool) → is_held_carried_out c block ≡ z → is_reported attention block ≡ false
        → (held_execution c cdb own).contents ≡ (held_execution c block sent).contents
    carried true k f =
        let status : (held_reply c block).status ≡ GOOD = eqb-true (held_reply c block).status GOOD k in
        let same : sent ≡ own = h ((λ i. (unreported attention block (held_reply c block) f i).status) ∙ status) in
        λ i. (held_execution c (sym b i) (sym same i)).contents
    carried false k f =
        (λ i. (held_execution c (sym b i) own).contents) ∙ sent_unseen c block own sent k

    go : (y : Bool) → is_reported attention block ≡ y → (if y then c else (held_execution c cdb own).contents)
        ≡ (if y then c else (held_execution c block sent).contents)
    go true f = refl
    go false f = carried (is_held_carried_out c block) refl f

unit_given :
    (hosts : List HostDef) (l : List LiveCommand) (u : UnitState) (seat : Seat) (c d : Contents) (b e : UnitBooks)
    → d ≡ c → e ≡ b → IsUnitAt hosts l c u seat b → IsUnitAt hosts l d u seat e
unit_given hosts l u seat c d b e f g at = subst (λ (x : Contents). IsUnitAt hosts l x u seat e) (sym f)
    (subst (λ (x : UnitBooks). IsUnitAt hosts l c u seat x) (sym g) at)

-- The current process of this number, which has no reply yet.
current_found : (seat : Seat) (u : UnitState) (p : Process) (reply : Option Reply) (id : ProcId) → seat.unit ≡ Some u
    → guest_at seat.guests id ≡ None → Seats.running_at seat id ≡ Some (record { process = p; reply = reply })
    → u.current ≡ Some (record { process = p; reply = reply })
current_found seat u p reply id there none e = go u.current
    ((λ i. if is_some (sym none i) then sym none i else running_if (Seats.current_of (sym there i)) id) ∙ e)
  where
    go : (r : Option RunningProcess) → running_if r id ≡ Some (record { process = p; reply = reply })
        → r ≡ Some (record { process = p; reply = reply })
    go None k = some_none (record { process = p; reply = reply }) k
    go (Some r) k = own (same_id r.process.id id) k
      where
        own : (y : Bool) → (if y then Some r else None) ≡ Some (record { process = p; reply = reply })
            → Some r ≡ Some (record { process = p; reply = reply })
        own false m = some_none (record { process = p; reply = reply }) m
        own true m = m

hold_empty : (seat after : Seat) (id : ProcId) (p : Process) → guest_at seat.guests id ≡ None
    → Seats.running_at seat id ≡ Some (record { process = p; reply = None }) → Seats.seat_after_run id seat ≡ Some after
    → Seats.is_any_held seat.hold ≡ false
hold_empty seat after id p none running e =
    go (Seats.is_any_held seat.hold) ((λ i. Seats.seat_after_run_of seat (is_some (sym none i)) (sym running i)) ∙ e)
  where
    go : (y : Bool) → (if not y
        then Some (Seats.seat_with_execution seat p (execution (Seats.context_of seat p.initiator) p.cdb p.sent))
        else None) ≡ Some after → y ≡ false
    go true k = some_none after k
    go false k = refl

abbrev done_at : Seat → Process → Execution
done_at seat p = execution (Seats.context_of seat p.initiator) p.cdb p.sent

record IsRunning (hosts : List HostDef) (seat after : Seat) (v w : SeatedState) (l : List LiveCommand) (u : UnitState)
    (p : Process) (sent : List ℕ) : Type 0 where
  kept : IsUnitAt hosts l w.contents
      (unit_with_reply p.id (done_at seat p).reply (unit_with_contents (done_at seat p).contents u)) after w.books
  replied : w.reply ≡ Some (told_of (done_at seat p).reply)

running : (hosts : List HostDef) (seat : Seat) (time : ℕ) (v w : SeatedState)
    (p : Process) (key : ℕ) (sent : List ℕ) (h : IsAtSeat hosts seat time v)
    → process_under h.0 key ≡ Some p → queue.IsQueued hosts seat.guests p → HasSent seat p sent → IsRun v key sent w
    → IsRunning hosts seat (Seats.seat_with_execution seat p (done_at seat p)) v w h.0 h.1 p sent
running hosts seat time v w p key sent h under q sending r =
    let x = seats.ran hosts h.0 v.contents h.1 seat v.books key p h.2.kept under q.below q.host q.sense in
    let done : Execution = done_at seat p in
    let reply : done.reply ≡ unit_reply v.books key (held_reply v.contents (block_at v.books key)) =
    λ i. (x.1 i).reply in
    let contents : w.contents ≡ done.contents = r.contents
    ∙ sym (contents_same v.contents (attention_at v.books key) (block_at v.books key) p.cdb sent p.sent x.0
    (λ s. sending ((λ i. (reply i).status) ∙ s))) ∙ (λ i. (sym x.1 i).contents) in
    let books : w.books ≡ books_if_reported v.books done.reported (initiator_at v.books key) = r.books
    ∙ (λ i. books_if_reported v.books (sym x.1 i).reported (initiator_at v.books key)) in
    record {
      kept = unit_given hosts h.0 (unit_with_reply p.id done.reply (unit_with_contents done.contents h.1))
          (Seats.seat_with_execution seat p done) done.contents w.contents
          (books_if_reported v.books done.reported (initiator_at v.books key)) w.books contents books
          (seats.run hosts h.0 v.contents h.1 seat v.books key p h.2.kept under q.below done);
      replied = r.reply ∙ (λ i. Some (told_of (sym reply i)));
    }

run_reply : (r : Option RunningProcess) (p : Process) (reply : Reply) (kept : Option UnitReply)
    → r ≡ Some (record { process = p; reply = None }) → kept ≡ Some (told_of reply)
    → IsReply (current_with_reply r p.id reply) kept
run_reply r p reply kept e h =
    let self : same_id p.id p.id ≡ true = id_self p.id in
    subst (λ (x : Option RunningProcess). IsReply x kept) (sym ((λ i. current_with_reply (e i) p.id reply) ∙ (λ i.
    if self i then Some (record { process = p; reply = Some reply }) else Some (record { process = p; reply = None }))))
    h

-- The command of this key may run with these bytes, and they are those of the process where it is carried out.
record MayRun (seat : Seat) (v : SeatedState) (key : ℕ) (p : Process) (sent : List ℕ) : Type 0 where
  can : can_run v key (length sent) ≡ true
  sends : HasSent seat p (take (taken_at v key) sent)

may_run : (hosts : List HostDef) (seat : Seat) (time : ℕ) (v : SeatedState) (p : Process) (key : ℕ) (sent : List ℕ)
    (h : IsAtSeat hosts seat time v) → process_under h.0 key ≡ Some p → queue.IsQueued hosts seat.guests p
    → HasSent seat p sent → HasRoomFor seat p v.spare → MayRun seat v key p sent
may_run hosts seat time v p key sent h under q sending room =
    by (is_reported (attention_at v.books key) (block_at v.books key)) refl
  where
    block : block_at v.books key ≡ p.cdb
    block = (seats.ran hosts h.0 v.contents h.1 seat v.books key p h.2.kept under q.below q.host q.sense).0

    contents : Seats.contents_of seat.unit ≡ v.contents
    contents = (λ i. Seats.contents_of (h.2.kept.there i)) ∙ h.2.kept.contents

    named : cost_by (kind_of (Seats.contents_of seat.unit)) p.cdb ≡ cost_at v key
    named = λ i. cost_by (kind_of (contents i)) (sym block i)

    fits : nat_le (cost_at v key) v.spare ≡ true
    fits = le-leb (cost_at v key) v.spare (subst (λ (n : ℕ). n ≤ v.spare) named room.blocks)

    takes : taken_now (Seats.contents_of seat.unit) p.cdb ≡ taken_now v.contents (block_at v.books key)
    takes = λ i. taken_now (contents i) (sym block i)

    status : (done_at seat p).reply.status ≡ (reply_with (attention_at v.books key) (block_at v.books key)
        (held_reply v.contents (block_at v.books key))).status
    status = λ i. ((seats.ran hosts h.0 v.contents h.1 seat v.books key p h.2.kept under q.below q.host q.sense).1
        i).reply.status

    plainly : is_reported (attention_at v.books key) (block_at v.books key) ≡ false
        → reply_with (attention_at v.books key) (block_at v.books key) (held_reply v.contents (block_at v.books key))
        ≡ held_reply v.contents (block_at v.books key)
    plainly f =
        unreported (attention_at v.books key) (block_at v.books key) (held_reply v.contents (block_at v.books key)) f

    -- Nothing is taken, and it is not carried out.
    nothing : taken_at v key ≡ 0 → ((done_at seat p).reply.status ≡ GOOD → ⊥) → MayRun seat v key p sent
    nothing none bad = record {
      can = and_from (nat_le (taken_at v key) (length sent)) (nat_le (cost_at v key) v.spare)
          (le-leb (taken_at v key) (length sent) (omega (arith, none))) fits;
      sends = λ good. absurd (bad good);
    }

    carried : is_reported (attention_at v.books key) (block_at v.books key) ≡ false
        → (y : Bool) → is_held_carried_out v.contents (block_at v.books key) ≡ y → MayRun seat v key p sent
    carried f false k = nothing ((λ i. if f i then 0 else taken_now v.contents (block_at v.books key))
        ∙ none_taken v.contents (block_at v.books key) k) (λ good.
        let plain : (held_reply v.contents (block_at v.books key)).status ≡ GOOD = (λ i. (sym (plainly f) i).status)
        ∙ sym status ∙ good in let bad : true ≡ false = (λ i. sym plain i == GOOD) ∙ k in cc)
    carried f true k =
        let good : (done_at seat p).reply.status ≡ GOOD = status ∙ (λ i. (plainly f i).status)
        ∙ eqb-true (held_reply v.contents (block_at v.books key)).status GOOD k in
        let same : sent ≡ p.sent = sending good in
        let taken : taken_at v key ≡ length sent = (λ i. if f i then 0 else taken_now v.contents (block_at v.books key))
        ∙ sym takes ∙ sym (room.bytes good) ∙ (λ i. length (sym same i)) in
        record {
          can = and_from (nat_le (taken_at v key) (length sent)) (nat_le (cost_at v key) v.spare)
              (le-leb (taken_at v key) (length sent) (omega (arith, taken))) fits;
          sends = λ g. take_all (taken_at v key) sent (omega (arith, taken)) ∙ sending g;
        }

    by : (y : Bool) → is_reported (attention_at v.books key) (block_at v.books key) ≡ y → MayRun seat v key p sent
    by true f = nothing (λ i. if f i then 0 else taken_now v.contents (block_at v.books key))
        (λ good. reported_bad (attention_at v.books key) (block_at v.books key)
        (held_reply v.contents (block_at v.books key)) f (sym status ∙ good))
    by false f = carried f (is_held_carried_out v.contents (block_at v.books key)) refl

pub runs : (hosts : List HostDef) (seat after : Seat) (time now : ℕ) (v w : SeatedState)
    (id : ProcId) (p : Process) (sent : List ℕ) (result : Option UnitReply)
    → IsRunLive v sent (key_of_process v.books.queue.arrived id) result w → IsAtSeat hosts seat time v → p.id ≡ id
    → guest_at seat.guests id ≡ None → Seats.running_at seat id ≡ Some (record { process = p; reply = None })
    → HasSent seat p sent → HasRoomFor seat p v.spare → Seats.seat_after_run id seat ≡ Some after
    → AtAfter hosts seat after time now (settled (current_id v.books) now w)
    × (result ≡ Some (told_of (done_at seat p).reply))
    × (v.spare ≤ w.spare + cost_by (kind_of (Seats.contents_of seat.unit)) p.cdb)
runs hosts seat after time now v w id p sent result ran h same none running_is sending room e =
    let current : h.1.current ≡ Some (record { process = p; reply = None }) = current_found
    seat h.1 p None id h.2.kept.there none running_is in
    let k : IsCurrentKey h.0 v.books p = current_key h.0 h.1 v.books p None h.2.kept.commands current in
    let q : queue.IsQueued hosts seat.guests p = queue.queued_under hosts seat.guests h.0 k.key p h.2.queued k.under in
    let found : key_of_process v.books.queue.arrived id ≡ Some k.key =
    (λ i. key_of_process v.books.queue.arrived (sym same i)) ∙ k.found in
    let own : IsRunLive v sent (Some k.key) result w = subst
    (λ (x : Option ℕ). IsRunLive v sent x result w) found ran in
    let step : Seats.seat_after_run id seat ≡ Some (Seats.seat_with_execution seat p (done_at seat p)) =
    (λ i. Seats.seat_after_run (sym same i) seat)
    ∙ seats.run_at hosts seat h.1 p h.2.kept.there current q.no_guest (hold_empty seat after id p none running_is e) in
    go current k q (same_seat (Seats.seat_with_execution seat p (done_at seat p)) after
    (Seats.seat_after_run id seat) step e) (may_run hosts seat time v p k.key sent h k.under q sending room) result own
  where
    go : h.1.current ≡ Some (record { process = p; reply = None }) → (k : IsCurrentKey h.0 v.books p)
        → queue.IsQueued hosts seat.guests p → Seats.seat_with_execution seat p (done_at seat p) ≡ after
        → MayRun seat v k.key p sent → (x : Option UnitReply) → IsRunLive v sent (Some k.key) x w
        → AtAfter hosts seat after time now (settled (current_id v.books) now w)
        × (x ≡ Some (told_of (done_at seat p).reply))
        × (v.spare ≤ w.spare + cost_by (kind_of (Seats.contents_of seat.unit)) p.cdb)
    go current k q it may None r = let bad : true ≡ false = sym may.can ∙ r.0 in cc
    go current k q it may (Some reply) r =
        let next : Seat = Seats.seat_with_execution seat p (done_at seat p) in
        let taken : List ℕ = take (taken_at v k.key) sent in
        let m : IsRunning hosts seat next v w h.0 h.1 p taken = running
        hosts seat time v w p k.key taken h k.under q may.sends r.1 in
        let block : block_at v.books k.key ≡ p.cdb =
        (seats.ran hosts h.0 v.contents h.1 seat v.books k.key p h.2.kept k.under q.below q.host q.sense).0 in
        let written : cost_at v k.key ≡ cost_by (kind_of (Seats.contents_of seat.unit)) p.cdb =
        (λ i. cost_by (kind_of (sym h.2.kept.contents i)) (block i))
        ∙ (λ i. cost_by (kind_of (Seats.contents_of (sym h.2.kept.there i))) p.cdb) in (
          subst (λ (s : Seat). AtAfter hosts seat s time now (settled (current_id v.books) now w)) it
              (settles hosts seat time now h.0 h.1 v h.2 h.0
              (unit_with_reply p.id (done_at seat p).reply (unit_with_contents (done_at seat p).contents h.1)) next w
              m.kept (queue.queued_by hosts seat.guests (guests_with_reply seat.guests p.id (done_at seat p).reply)
              (λ other n. queue.none_replied seat.guests p.id (done_at seat p).reply other n) h.0 h.2.queued)
              (r.1.pick ∙ h.2.pick) (run_reply h.1.current p (done_at seat p).reply w.reply current m.replied)
              r.1.since),
          r.2 ∙ m.replied,
          subst (λ (n : ℕ). v.spare ≤ w.spare + n) written r.1.spare,
        )

-- A process of the queue is no REQUEST SENSE.
pub runs_plain : (hosts : List HostDef) (seat : Seat) (time : ℕ) (v : SeatedState) (id : ProcId) (p : Process)
    → IsAtSeat hosts seat time v → guest_at seat.guests id ≡ None
    → Seats.running_at seat id ≡ Some (record { process = p; reply = None })
    → is_request_sense (command_of p.cdb) ≡ false
runs_plain hosts seat time v id p h none running_is =
    let current : h.1.current ≡ Some (record { process = p; reply = None }) = current_found
    seat h.1 p None id h.2.kept.there none running_is in
    let k : IsCurrentKey h.0 v.books p = current_key h.0 h.1 v.books p None h.2.kept.commands current in
    let q : queue.IsQueued hosts seat.guests p = queue.queued_under hosts seat.guests h.0 k.key p h.2.queued k.under in
    q.sense

-- ---- a REQUEST SENSE runs outside the queue

guest_run_step : (seat after : Seat) (id : ProcId) (r : RunningProcess)
    → guest_at seat.guests id ≡ Some r → Seats.seat_after_run id seat ≡ Some after
    → Seats.seat_with_execution seat r.process (done_at seat r.process) ≡ after
guest_run_step seat after id r g e = go (is_none r.reply) ((λ i. Seats.seat_after_run_of seat (is_some (sym g i))
    (if is_some (sym g i) then sym g i else running_if (Seats.current_of seat.unit) id)) ∙ e)
  where
    go : (y : Bool) → (if y && (true || not (Seats.is_any_held seat.hold))
        then Some (Seats.seat_with_execution seat r.process (done_at seat r.process)) else None) ≡ Some after
        → Seats.seat_with_execution seat r.process (done_at seat r.process) ≡ after
    go false k = some_none after k
    go true k = cc

unit_kept_so : (u : Option UnitState) → Seats.unit_mapped (unit_with_contents (Seats.contents_of u)) u ≡ u
unit_kept_so None = refl
unit_kept_so (Some u) = refl

not_current : (l : List LiveCommand) (u : UnitState) (b : UnitBooks) (id : ProcId) → HasLive l u b
    → has_process l id ≡ false → running_if u.current id ≡ None
not_current l u b id h f = go b.queue.current u.current h.current
  where
    go : (c : Option ℕ) (r : Option RunningProcess) → IsCurrentOf l c r → running_if r id ≡ None
    go None None k = refl
    go None (Some r) k = absurd k
    go (Some key) None k = absurd k
    go (Some key) (Some r) k = own (same_id r.process.id id) refl
      where
        own : (y : Bool) → same_id r.process.id id ≡ y → (if y then Some r else None) ≡ None
        own false m = refl
        own true m =
            let same : r.process.id ≡ id = same_id_is r.process.id id m in
            let live : has_process l id ≡ true = subst
            (λ (n : ProcId). has_process l n ≡ true) same (process_found l key r.process k) in
            let bad : true ≡ false = sym live ∙ f in
            cc

other_kept : (r : Option RunningProcess) (id : ProcId) (reply : Reply) → running_if r id ≡ None
    → current_with_reply r id reply ≡ r
other_kept None id reply h = refl
other_kept (Some r) id reply h = go (same_id r.process.id id) h
  where
    go : (y : Bool) → (if y then Some r else None) ≡ None
        → (if y then Some (record r { reply = Some reply }) else Some r) ≡ Some r
    go true k = cc
    go false k = refl

pub guest_runs : (hosts : List HostDef) (seat after : Seat) (time now : ℕ) (v w : SeatedState)
    (id : ProcId) (r : RunningProcess) (sent : List ℕ) (result : Option UnitReply)
    → IsRunLive v sent (key_of_process v.books.queue.arrived id) result w
    → IsAtSeat hosts seat time v → guest_at seat.guests id ≡ Some r
    → is_request_sense (command_of r.process.cdb) ≡ true → Seats.seat_after_run id seat ≡ Some after
    → AtAfter hosts seat after time now (settled (current_id v.books) now w) × (w.spare ≡ v.spare)
guest_runs hosts seat after time now v w id r sent result ran h g sense e =
    let p : Process = r.process in
    let done : Execution = done_at seat p in
    let same : p.id ≡ id = guest_id seat.guests id r g in
    let fresh : has_process h.0 id ≡ false = queue.guest_not_live hosts seat.guests h.0 id r h.2.queued g in
    let none : key_of_process v.books.queue.arrived id ≡ None = (λ i. key_of_process (h.2.kept.commands.arrived i) id)
    ∙ queue.not_found h.0 id fresh in
    let stays : IsRunLive v sent None result w = subst (λ (x : Option ℕ). IsRunLive v sent x result w) none ran in
    let kept = sense_executed (Seats.context_of seat p.initiator) p.cdb p.sent (sense_block_of p.cdb sense) in
    let next : Seat = Seats.seat_with_reply seat p.id done.reply in
    let it : Seats.seat_with_execution seat p done ≡ next = (λ i. Seats.seat_with_reply (record seat {
      unit = Seats.unit_mapped (unit_with_contents (kept i).contents) seat.unit;
      attentions =
          if (kept i).reported then Seats.with_sense_of seat.attentions p.initiator None else seat.attentions;
    }) p.id done.reply)
    ∙ (λ i. Seats.seat_with_reply (record seat { unit = unit_kept_so seat.unit i }) p.id done.reply) in
    let current : current_with_reply h.1.current p.id done.reply ≡ h.1.current = other_kept h.1.current p.id done.reply
    ((λ i. running_if h.1.current (same i)) ∙ not_current h.0 h.1 v.books id h.2.kept.commands fresh) in (
      moved hosts seat next after time now (settled (current_id v.books) now v) (settled (current_id v.books) now w)
          (sym it ∙ guest_run_step seat after id r g e) (λ i. settled (current_id v.books) now (stays.1 i))
          (settles hosts seat time now h.0 h.1 v h.2 h.0 (unit_with_reply p.id done.reply h.1) next v
          (seats.failed hosts h.0 v.contents h.1 seat v.books p.id done.reply h.2.kept) (queue.queued_by hosts
          seat.guests next.guests (λ other n. queue.none_replied seat.guests p.id done.reply other n) h.0 h.2.queued)
          h.2.pick (subst (λ (x : Option RunningProcess). IsReply x v.reply) (sym current)
          (is_reply h.1.current v.reply h.2.reply)) refl),
      λ i. (stays.1 i).spare,
    )

-- What the call of the unit tells of the contents.
pub contents_after : (c d : Contents) (block sent : List ℕ) (reported : Bool)
    → (reported ≡ true → d ≡ c) → (is_held_changed c block ≡ false → d ≡ c)
    → (reported ≡ false → is_held_changed c block ≡ true → d ≡ (held_execution c block sent).contents)
    → d ≡ (if reported then c else (held_execution c block sent).contents)
contents_after c d block sent true f g h = f refl
contents_after c d block sent false f g h = go (is_held_changed c block) refl
  where
    go : (y : Bool) → is_held_changed c block ≡ y → d ≡ (held_execution c block sent).contents
    go true e = h refl e
    go false e = g e ∙ sym (contents_stay c block sent e)

-- The last step of each call.
pub by_state : (hosts : List HostDef) (before after : Seat) (time now : ℕ) (x y : SeatedState) → y ≡ x
    → AtAfter hosts before after time now x → AtAfter hosts before after time now y
by_state hosts before after time now x y e h =
    subst (λ (z : SeatedState). AtAfter hosts before after time now z) (sym e) h
