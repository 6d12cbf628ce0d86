-- Where a process stands after each event of its own.
use Rattle.std.proofs.Common.{ℕ, ◌≡◌, Bool, true, false, [], ◌∷◌, ◌++◌, ◌∙◌, refl, sym, subst, Option, Some, None}
use Rattle.std.specs.Prelude.{if◌then◌else◌, not, ◌&&◌, ◌||◌, ◌==◌, is_some, is_none, nat_lt}
use Rattle.cdb_codec.specs.Cdb.{command_of}
use Rattle.array_model.specs.Execution.{Reply, execution, is_request_sense, queue_full}
use Rattle.array_model.specs.Processes.{Process}
use Rattle.array_model.specs.Units.{RunningProcess, UnitState, guest_at}
use Rattle.array_model.specs.Steps.{process_count, running_if}
use Rattle.array_model.specs.Seats
use Rattle.array_model.specs.Seats.{Seat, settled_seat, unit_mapped}
use Rattle.array_model.proofs.SeatReplies.{id_self, no_guest_replied, guest_replied}
use Rattle.disk_unit.specs.Units.{told_of}
use Rattle.disk_unit.specs.declared.unit.Reply as unit
use Rattle.target_course.specs.target_units.specs.Seated.{reply_told}
use Rattle.disk_target.specs.declared.standing.Standing.{Standing}
use Rattle.disk_target.specs.declared.standing.Standing.TheVariants as standings
use Rattle.disk_target.specs.Standings.{is_inside, IsGuest, IsNoGuest, IsStanding, standing_on_arrival}
use Rattle.disk_target.specs.Standings.{standing_on_failure}
use Rattle.disk_target.proofs.StandingSteps.{settles, stands, arrived, guest_more, replied_inside, contents_inside}
use Rattle.disk_target.proofs.StandingSteps.{left_inside, left_guest}

-- ---- the choice

pub settled : (seat : Seat) (p : Process) (v : Standing) → IsStanding seat p v → IsStanding (settled_seat seat) p v
settled seat p standings.Nowhere h =
    record { none = h.none; inside_is = settles (Seats.is_any_held seat.hold) seat.unit p.id ∙ h.inside_is }
settled seat p standings.Queued h =
    record { none = h.none; inside_is = settles (Seats.is_any_held seat.hold) seat.unit p.id ∙ h.inside_is }
settled seat p (standings.Guest reply) h = record {
  guest = h.guest;
  at = h.at;
  process_is = h.process_is;
  reply_is = h.reply_is;
  sense = λ none there. h.sense none
      (sym (stands (Seats.unit_with_choice (Seats.is_any_held seat.hold)) seat.unit) ∙ there);
}

pub after_choice : (seat q : Seat) (p : Process) (v : Standing) → settled_seat seat ≡ q → IsStanding seat p v
    → IsStanding q p v
after_choice seat q p v e h = subst (λ (x : Seat). IsStanding x p v) e (settled seat p v h)

-- ---- its command arrives

new_guest : (seat : Seat) (p : Process) (reply : Option Reply) → guest_at seat.guests p.id ≡ None
    → (reply ≡ None → is_some seat.unit ≡ true → is_request_sense (command_of p.cdb) ≡ true)
    → IsGuest (Seats.seat_with_guest seat p reply) p (reply_told reply)
new_guest seat p reply none sense = record {
  guest = record { process = p; reply = reply };
  at = guest_more seat.guests (record { process = p; reply = reply }) p.id none (id_self p.id);
  process_is = refl;
  reply_is = refl;
  sense = sense;
}

by_seat : (one after : Seat) (p : Process) (v : Standing) → Some one ≡ Some after → IsStanding one p v
    → IsStanding after p v
by_seat one after p v e h = let same : one ≡ after = cc in subst (λ (x : Seat). IsStanding x p v) same h

no_guest_by : (one after : Seat) (p : Process) (inside : Bool) → Some one ≡ Some after → IsNoGuest one p inside
    → IsNoGuest after p inside
no_guest_by one after p inside e h = let same : one ≡ after = cc in subst (λ (x : Seat). IsNoGuest x p inside) same h

accepts_there : (seat after : Seat) (p : Process) (u : UnitState) → seat.unit ≡ Some u
    → guest_at seat.guests p.id ≡ None → (x : Bool) → is_request_sense (command_of p.cdb) ≡ x
    → (if x then Some (Seats.seat_with_guest seat p None) else Seats.seat_with_waiting seat p u) ≡ Some after
    → IsStanding after p (standing_on_arrival x)
accepts_there seat after p u there none true r e =
    by_seat (Seats.seat_with_guest seat p None) after p (standings.Guest None) e (new_guest seat p None none (λ f k. r))
accepts_there seat after p u there none false r e = room (nat_lt (process_count u) u.depth) e
  where
    room : (y : Bool)
        → (if y then Some (record seat { unit = Some (record u { waiting = u.waiting ++ p ∷ [] }) }) else None)
        ≡ Some after → IsStanding after p standings.Queued
    room false k = cc
    room true k = by_seat (record seat { unit = Some (record u { waiting = u.waiting ++ p ∷ [] }) }) after p
        standings.Queued k (record { none = none; inside_is = arrived u p })

pub accepts : (seat after : Seat) (p : Process) (x : Option UnitState) → seat.unit ≡ x
    → guest_at seat.guests p.id ≡ None → Seats.seat_after_accept p seat ≡ Some after
    → IsStanding after p (standing_on_arrival (not (is_some x) || is_request_sense (command_of p.cdb)))
accepts seat after p None there none e = by_seat (Seats.seat_with_guest seat p None) after p
    (standings.Guest None) ((λ i. Seats.seat_after_accept_at seat p (sym there i)) ∙ e)
    (new_guest seat p None none (λ f k. (let bad : false ≡ true = (λ i. is_some (sym there i)) ∙ k in cc)))
accepts seat after p (Some u) there none e = accepts_there seat after p u there none
    (is_request_sense (command_of p.cdb)) refl ((λ i. Seats.seat_after_accept_at seat p (sym there i)) ∙ e)

pub refuses : (seat after : Seat) (p : Process) → guest_at seat.guests p.id ≡ None
    → Seats.seat_after_refuse p seat ≡ Some after → IsStanding after p (standings.Guest (Some (told_of queue_full)))
refuses seat after p none e = go seat.unit refl e
  where
    go : (x : Option UnitState) → seat.unit ≡ x → Seats.seat_after_refuse_at seat p x ≡ Some after
        → IsStanding after p (standings.Guest (Some (told_of queue_full)))
    go None there k = cc
    go (Some u) there k = full (not (is_request_sense (command_of p.cdb)) && process_count u == u.depth) k
      where
        full : (y : Bool) → (if y then Some (Seats.seat_with_guest seat p (Some queue_full)) else None) ≡ Some after
            → IsStanding after p (standings.Guest (Some (told_of queue_full)))
        full false k = cc
        full true k = by_seat (Seats.seat_with_guest seat p (Some queue_full)) after p
            (standings.Guest (Some (told_of queue_full))) k (new_guest seat p (Some queue_full) none (λ f l. cc))

-- ---- it gets a reply

replied_no_guest : (seat : Seat) (p : Process) (reply : Reply) (inside : Bool) → IsNoGuest seat p inside
    → IsNoGuest (Seats.seat_with_reply seat p.id reply) p inside
replied_no_guest seat p reply inside h = record {
  none = no_guest_replied seat.guests p.id reply h.none;
  inside_is = replied_inside seat.unit p.id reply ∙ h.inside_is;
}

replied_guest : (seat : Seat) (p : Process) (reply : Reply) (old : Option unit.Reply) → IsGuest seat p old
    → IsGuest (Seats.seat_with_reply seat p.id reply) p (Some (told_of reply))
replied_guest seat p reply old h = record {
  guest = record h.guest { reply = Some reply };
  at = guest_replied seat.guests p.id reply h.guest h.at;
  process_is = h.process_is;
  reply_is = refl;
  sense = λ none there. cc;
}

-- ---- it fails

pub fails_queued : (seat after : Seat) (p : Process) (ended : Bool) (reply : Reply) → IsNoGuest seat p true
    → Seats.seat_after_failure ended p reply seat ≡ Some after → IsNoGuest after p true
fails_queued seat after p ended reply h e = go (running_if (Seats.current_of seat.unit) p.id) refl
    ((λ i. Seats.seat_after_failure_of seat ended p reply (sym at i)) ∙ e)
  where
    at : Seats.running_at seat p.id ≡ running_if (Seats.current_of seat.unit) p.id
    at = λ i. if is_some (h.none i) then h.none i else running_if (Seats.current_of seat.unit) p.id

    waits : (x : Option UnitState) → is_inside x p.id ≡ true → running_if (Seats.current_of x) p.id ≡ None
        → Seats.is_waiting_at x p.id ≡ true
    waits None k f = cc
    waits (Some u) k f =
        go (Seats.is_waiting_at (Some u) p.id) ((λ i. Seats.is_waiting_at (Some u) p.id || is_some (sym f i)) ∙ k)
      where
        go : (y : Bool) → (y || false) ≡ true → y ≡ true
        go true l = refl
        go false l = l

    go : (x : Option RunningProcess) → running_if (Seats.current_of seat.unit) p.id ≡ x
        → Seats.seat_after_failure_of seat ended p reply x ≡ Some after → IsNoGuest after p true
    go None f k =
        let bad : None ≡ Some after = (λ i. if sym (waits seat.unit h.inside_is f) i || ended then None
        else Some (Seats.seat_with_guest seat p (Some reply))) ∙ k in
        cc
    go (Some r) f k = new (is_none r.reply) k
      where
        new : (y : Bool) → (if y then Some (Seats.seat_with_reply seat p.id reply) else None) ≡ Some after
            → IsNoGuest after p true
        new false l = cc
        new true l = by_seat (Seats.seat_with_reply seat p.id reply) after p standings.Queued l
            (replied_no_guest seat p reply true h)

pub fails_nowhere : (seat after : Seat) (p : Process) (ended : Bool) (reply : Reply) → IsNoGuest seat p false
    → Seats.seat_after_failure ended p reply seat ≡ Some after → IsGuest after p (Some (told_of reply))
fails_nowhere seat after p ended reply h e = go (Seats.is_waiting_at seat.unit p.id || ended)
    ((λ i. Seats.seat_after_failure_of seat ended p reply (sym at i)) ∙ e)
  where
    none : (x : Option RunningProcess) → is_some x ≡ false → x ≡ None
    none None k = refl
    none (Some r) k = cc

    current : (x : Option UnitState) → is_inside x p.id ≡ false → running_if (Seats.current_of x) p.id ≡ None
    current None k = refl
    current (Some u) k = go (Seats.is_waiting_at (Some u) p.id) k
      where
        go : (y : Bool) → (y || is_some (running_if u.current p.id)) ≡ false → running_if u.current p.id ≡ None
        go true l = cc
        go false l = none (running_if u.current p.id) l

    at : Seats.running_at seat p.id ≡ None
    at = (λ i. if is_some (h.none i) then h.none i else running_if (Seats.current_of seat.unit) p.id)
        ∙ current seat.unit h.inside_is

    go : (y : Bool) → (if y then None else Some (Seats.seat_with_guest seat p (Some reply))) ≡ Some after
        → IsGuest after p (Some (told_of reply))
    go true k = cc
    go false k = by_seat (Seats.seat_with_guest seat p (Some reply)) after p (standings.Guest (Some (told_of reply))) k
        (new_guest seat p (Some reply) h.none (λ f l. cc))

pub guest_runs_at : (seat : Seat) (p : Process) (old : Option unit.Reply) (h : IsGuest seat p old)
    → Seats.running_at seat p.id ≡ Some h.guest
guest_runs_at seat p old h = λ i. if is_some (h.at i) then h.at i else running_if (Seats.current_of seat.unit) p.id

pub fails_guest : (seat after : Seat) (p : Process) (ended : Bool) (reply : Reply) (old : Option unit.Reply)
    → IsGuest seat p old → Seats.seat_after_failure ended p reply seat ≡ Some after
    → IsGuest after p (Some (told_of reply))
fails_guest seat after p ended reply old h e = go (is_none h.guest.reply)
    ((λ i. Seats.seat_after_failure_of seat ended p reply (sym (guest_runs_at seat p old h) i)) ∙ e)
  where
    go : (y : Bool) → (if y then Some (Seats.seat_with_reply seat p.id reply) else None) ≡ Some after
        → IsGuest after p (Some (told_of reply))
    go false l = cc
    go true l = by_seat (Seats.seat_with_reply seat p.id reply) after p (standings.Guest (Some (told_of reply))) l
        (replied_guest seat p reply old h)

pub fails : (seat after : Seat) (p : Process) (ended : Bool) (reply : Reply) (v : Standing)
    → IsStanding seat p v → Seats.seat_after_failure ended p reply seat ≡ Some after
    → IsStanding after p (standing_on_failure v (told_of reply))
fails seat after p ended reply standings.Nowhere h e = fails_nowhere seat after p ended reply h e
fails seat after p ended reply standings.Queued h e = fails_queued seat after p ended reply h e
fails seat after p ended reply (standings.Guest old) h e = fails_guest seat after p ended reply old h e

-- ---- it runs

abbrev outcome : Seat → Process → Reply
outcome seat p = (execution (Seats.context_of seat p.initiator) p.cdb p.sent).reply

pub runs_inside : (seat after : Seat) (p : Process) (inside : Bool) → IsNoGuest seat p inside
    → Seats.running_at seat p.id ≡ Some (record { process = p; reply = None })
    → Seats.seat_after_run p.id seat ≡ Some after → IsNoGuest after p inside
runs_inside seat after p inside h at e = go (false || not (Seats.is_any_held seat.hold))
    ((λ i. Seats.seat_after_run_of seat (is_some (sym h.none i)) (sym at i)) ∙ e)
  where
    go : (y : Bool) → (if y
        then Some (Seats.seat_with_execution seat p (execution (Seats.context_of seat p.initiator) p.cdb p.sent))
        else None) ≡ Some after → IsNoGuest after p inside
    go false k = cc
    go true k = no_guest_by (Seats.seat_with_execution seat p
        (execution (Seats.context_of seat p.initiator) p.cdb p.sent)) after p inside k (record {
          none = no_guest_replied seat.guests p.id (outcome seat p) h.none;
          inside_is = replied_inside (unit_mapped
              (Seats.unit_with_contents (execution (Seats.context_of seat p.initiator) p.cdb p.sent).contents)
              seat.unit) p.id (outcome seat p)
              ∙ contents_inside seat.unit (execution (Seats.context_of seat p.initiator) p.cdb p.sent).contents p.id
              ∙ h.inside_is;
        })

pub runs_guest : (seat after : Seat) (p : Process) (old : Option unit.Reply) → IsGuest seat p old
    → Seats.seat_after_run p.id seat ≡ Some after → IsGuest after p (Some (told_of (outcome seat p)))
runs_guest seat after p old h e =
    go (is_none h.guest.reply && (true || not (Seats.is_any_held seat.hold)))
    ((λ i. Seats.seat_after_run_of seat (is_some (sym h.at i)) (sym (guest_runs_at seat p old h) i)) ∙ e)
  where
    own : Process → Seat
    own q = Seats.seat_with_execution seat q (execution (Seats.context_of seat q.initiator) q.cdb q.sent)

    go : (y : Bool) → (if y then Some (own h.guest.process) else None) ≡ Some after
        → IsGuest after p (Some (told_of (outcome seat p)))
    go false k = cc
    go true k = by_seat (own p) after p (standings.Guest (Some (told_of (outcome seat p))))
        ((λ i. Some (own (sym h.process_is i))) ∙ k) (record {
          guest = record h.guest { reply = Some (outcome seat p) };
          at = guest_replied seat.guests p.id (outcome seat p) h.guest h.at;
          process_is = h.process_is;
          reply_is = refl;
          sense = λ none there. cc;
        })

-- It had no reply before.
pub guest_unanswered : (seat after : Seat) (p : Process) (old : Option unit.Reply) (h : IsGuest seat p old)
    → Seats.seat_after_run p.id seat ≡ Some after → h.guest.reply ≡ None
guest_unanswered seat after p old h e = go h.guest.reply refl
    ((λ i. Seats.seat_after_run_of seat (is_some (sym h.at i)) (sym (guest_runs_at seat p old h) i)) ∙ e)
  where
    go : (x : Option Reply) → h.guest.reply ≡ x → (if is_none x && (true || not (Seats.is_any_held seat.hold))
        then Some (Seats.seat_with_execution seat h.guest.process (execution
        (Seats.context_of seat h.guest.process.initiator) h.guest.process.cdb h.guest.process.sent)) else None)
        ≡ Some after → h.guest.reply ≡ None
    go None f k = f
    go (Some r) f k = cc

-- ---- it leaves

pub leaves : (seat : Seat) (p : Process) → IsNoGuest (Seats.seat_without seat p.id) p false
leaves seat p = record { none = left_guest seat.guests p.id; inside_is = left_inside seat.unit p.id }

pub ends : (seat after : Seat) (p : Process) (status : ℕ) → (r : RunningProcess) → Seats.running_at seat p.id ≡ Some r
    → r.process.id ≡ p.id → Seats.seat_after_end p.id status seat ≡ Some after → IsNoGuest after p false
ends seat after p status r at same e = given r.reply ((λ i. Seats.seat_after_end_of seat status (sym at i)) ∙ e)
  where
    given : (x : Option Reply) → Seats.seat_after_end_with seat r.process status x ≡ Some after
        → IsNoGuest after p false
    given None k = cc
    given (Some reply) k = go (reply.status == status) k
      where
        go : (y : Bool)
            → (if y then Some (Seats.seat_without (Seats.seat_after_status seat r.process reply) r.process.id)
            else None) ≡ Some after → IsNoGuest after p false
        go false l = cc
        go true l =
            by_seat (Seats.seat_without (Seats.seat_after_status seat r.process reply) p.id) after p standings.Nowhere
            ((λ i. Some (Seats.seat_without (Seats.seat_after_status seat r.process reply) (sym same i))) ∙ l)
            (leaves (Seats.seat_after_status seat r.process reply) p)

pub loses : (seat after : Seat) (p : Process) (ended : Bool) → Seats.seat_after_loss ended p.id seat ≡ Some after
    → IsNoGuest after p false
loses seat after p ended e = go ended e
  where
    go : (y : Bool) → (if y then None else Some (Seats.seat_without seat p.id)) ≡ Some after → IsNoGuest after p false
    go true k = cc
    go false k = by_seat (Seats.seat_without seat p.id) after p standings.Nowhere k (leaves seat p)
