-- A unit at its seat after each event.
use Rattle.std.proofs.Common.{ℕ, ◌≡◌, ◌<◌, Bool, true, false, List, [], ◌∷◌, ◌++◌, ◌∙◌, refl, sym, subst, arith, length}
use Rattle.std.proofs.Common.{Option, Some, None}
use Rattle.std.specs.Prelude.{if◌then◌else◌, ◌&&◌, ◌==◌, not, is_some, nat_lt, slice_index_or}
use Rattle.bus_base.specs.declared.ProcId.{ProcId}
use Rattle.cdb_codec.specs.declared.Sense.{Sense}
use Rattle.cdb_codec.specs.declared.status.TheConstants.{GOOD, CHECK_CONDITION}
use Rattle.cdb_codec.specs.Cdb.{command_of}
use Rattle.array_model.specs.scenario.specs.declared.value.HostDef.{HostDef}
use Rattle.array_model.specs.scenario.specs.declared.value.UnitDef.{UnitDef}
use Rattle.array_model.specs.scenario.specs.Value.{ScenarioValue}
use Rattle.array_model.specs.Contents.{Contents}
use Rattle.array_model.specs.Execution.{Reply, Execution, execution, is_request_sense, queue_full}
use Rattle.array_model.specs.Order.{entry_of, choice, without_process}
use Rattle.array_model.specs.Processes.{Process, same_id}
use Rattle.array_model.specs.Units.{UnitState, RunningProcess, with_current, has_no_current, guest_at, starting_unit}
use Rattle.array_model.specs.Units.{contents_at_start, starting_array}
use Rattle.array_model.specs.Steps.{process_count, unit_without, running_if, unit_processes, has_tag}
use Rattle.array_model.specs.Seats
use Rattle.array_model.specs.Seats.{Seat, seat_of, unit_with_choice, unit_with_reply, unit_with_contents, unit_kept}
use Rattle.tag_queue.specs.Queue.{QueueState, has_key, entry_at, is_held, queue_cleared_of}
use Rattle.tag_queue.specs.declared.those.Those.TheVariants as those
use Rattle.disk_unit.specs.Books
use Rattle.disk_unit.specs.Books.{UnitBooks, IsCleared, block_at, attention_at, initiator_at, initiator_of}
use Rattle.disk_unit.specs.Plans.{sense_if}
use Rattle.disk_unit.specs.Held.{held_execution, held_reply}
use Rattle.disk_unit.specs.Units.{is_reported, reply_with, books_if_reported}
use Rattle.disk_unit.specs.Keeping.{IsKeptAt, books_after_status}
use Rattle.disk_unit.specs.LiveCommands.{LiveCommand, HasLive, IsCurrentOf, process_under, has_process, live_but}
use Rattle.disk_unit.specs.LiveCommands.{has_this_key, is_one_of}
use Rattle.disk_unit.specs.AtSeats.{IsUnitAt}
use Rattle.bus_base.proofs.Tests.{eq_self}
use Rattle.array_model.proofs.SeatLookups.{same_id_is}
use Rattle.array_model.proofs.SeatReplies.{id_self}
use Rattle.disk_unit.proofs.LiveCommands as live
use Rattle.disk_unit.proofs.Keeping as keeping
use Rattle.disk_unit.proofs.Executions.{executed}

-- ---- what is kept for initiators is no part of the commands

other_books :
    (l : List LiveCommand) (u : UnitState) (b : UnitBooks) (hold : List Bool) (senses attentions : List (Option Sense))
    → HasLive l u b
    → HasLive l u (record b { queue = record b.queue { hold = hold }; senses = senses; attentions = attentions })
other_books l u b hold senses attentions h = record {
  apart = h.apart;
  arrived = h.arrived;
  waiting = h.waiting;
  current = h.current;
  blocks = h.blocks;
  depth = h.depth;
}

-- ---- the choice

chosen_contents : (u : UnitState) (held : Bool) → (unit_with_choice held u).contents ≡ u.contents
chosen_contents u held = go (has_no_current u.current && not held) (choice u.pick u.waiting)
  where
    go : (y : Bool) (p : Option Process) → (if y then with_current u p else u).contents ≡ u.contents
    go true None = refl
    go true (Some p) = refl
    go false p = refl

pub chosen : (hosts : List HostDef) (l : List LiveCommand) (c : Contents) (u : UnitState) (seat : Seat) (b : UnitBooks)
    → IsUnitAt hosts l c u seat b → IsUnitAt hosts l c (unit_with_choice (Seats.is_any_held seat.hold) u)
    (Seats.settled_seat seat) (Books.books_after_choice b u.pick)
chosen hosts l c u seat b h =
    let held : is_held b.queue.hold ≡ Seats.is_any_held seat.hold = keeping.held hosts seat b h.kept in
    record {
      there = (λ i. Seats.unit_mapped (unit_with_choice (Seats.is_any_held seat.hold)) (h.there i));
      contents = chosen_contents u (Seats.is_any_held seat.hold) ∙ h.contents;
      commands = subst (λ (y : Bool). HasLive l (unit_with_choice y u) (Books.books_after_choice b u.pick)) held
          (live.chosen l u b h.commands);
      kept = keeping.chosen hosts seat b u.pick h.kept;
    }

-- ---- a command arrives

accept_at : (seat : Seat) (p : Process) (u : UnitState) → seat.unit ≡ Some u
    → is_request_sense (command_of p.cdb) ≡ false → process_count u < u.depth
    → Seats.seat_after_accept p seat ≡ Some (record seat { unit = Some (record u { waiting = u.waiting ++ p ∷ [] }) })
accept_at seat p u h f l =
    let room : nat_lt (process_count u) u.depth ≡ true = grind arith in
    (λ i. Seats.seat_after_accept_at seat p (h i))
    ∙ (λ i. if f i then Some (Seats.seat_with_guest seat p None) else Seats.seat_with_waiting seat p u)
    ∙ (λ i. if room i then Some (record seat { unit = Some (record u { waiting = u.waiting ++ p ∷ [] }) }) else None)

pub accepted : (hosts : List HostDef) (l : List LiveCommand) (c : Contents)
    (u : UnitState) (seat : Seat) (b : UnitBooks) (key : ℕ) (p : Process)
    → IsUnitAt hosts l c u seat b → is_request_sense (command_of p.cdb) ≡ false → length b.queue.arrived < b.queue.depth
    → has_key b.queue.arrived key ≡ false → has_process l p.id ≡ false → key < length b.blocks
    → (Seats.seat_after_accept p seat ≡ Some (record seat { unit = Some (record u { waiting = u.waiting ++ p ∷ [] }) }))
    × IsUnitAt hosts (l ++ record { key = key; process = p } ∷ []) c (record u { waiting = u.waiting ++ p ∷ [] })
    (record seat { unit = Some (record u { waiting = u.waiting ++ p ∷ [] }) })
    (Books.books_with b key (entry_of p) p.cdb)
accepted hosts l c u seat b key p h f room fresh new bound =
    let count : process_count u ≡ length b.queue.arrived = live.room_is l u b h.commands in
    let depth : b.queue.depth ≡ u.depth = h.commands.depth in (
      accept_at seat p u h.there f (omega arith),
      record {
        there = refl;
        contents = h.contents;
        commands = live.accepted l u b key p h.commands fresh new bound;
        kept = keeping.arrived hosts seat b (Some (record u { waiting = u.waiting ++ p ∷ [] })) key
            (entry_of p) p.cdb h.kept;
      },
    )

pub refused : (hosts : List HostDef) (l : List LiveCommand) (c : Contents)
    (u : UnitState) (seat : Seat) (b : UnitBooks) (p : Process)
    → IsUnitAt hosts l c u seat b → is_request_sense (command_of p.cdb) ≡ false → length b.queue.arrived ≡ b.queue.depth
    → (Seats.seat_after_accept p seat ≡ None)
    × (Seats.seat_after_refuse p seat ≡ Some (Seats.seat_with_guest seat p (Some queue_full)))
refused hosts l c u seat b p h f full =
    let count : process_count u ≡ length b.queue.arrived = live.room_is l u b h.commands in
    let depth : b.queue.depth ≡ u.depth = h.commands.depth in
    let same : process_count u ≡ u.depth = count ∙ full ∙ depth in
    let none : nat_lt (process_count u) u.depth ≡ false = grind arith in
    let all : (process_count u == u.depth) ≡ true = grind arith in (
      (λ i. Seats.seat_after_accept_at seat p (h.there i))
          ∙ (λ i. if f i then Some (Seats.seat_with_guest seat p None) else Seats.seat_with_waiting seat p u)
          ∙ (λ i. if none i then Some (record seat { unit = Some (record u { waiting = u.waiting ++ p ∷ [] }) })
          else None),
      (λ i. Seats.seat_after_refuse_at seat p (h.there i))
          ∙ (λ i. if not (f i) && all i then Some (Seats.seat_with_guest seat p (Some queue_full)) else None),
    )

pub guest : (hosts : List HostDef) (l : List LiveCommand) (c : Contents)
    (u : UnitState) (seat : Seat) (b : UnitBooks) (p : Process) (reply : Option Reply)
    → IsUnitAt hosts l c u seat b → IsUnitAt hosts l c u (Seats.seat_with_guest seat p reply) b
guest hosts l c u seat b p reply h = record {
  there = h.there;
  contents = h.contents;
  commands = h.commands;
  kept = keeping.guest hosts seat b p reply h.kept;
}

-- ---- a command fails

pub failed : (hosts : List HostDef) (l : List LiveCommand) (c : Contents) (u : UnitState)
    (seat : Seat) (b : UnitBooks) (id : ProcId) (reply : Reply) → IsUnitAt hosts l c u seat b
    → IsUnitAt hosts l c (unit_with_reply id reply u) (Seats.seat_with_reply seat id reply) b
failed hosts l c u seat b id reply h = record {
  there = (λ i. Seats.unit_mapped (unit_with_reply id reply) (h.there i));
  contents = h.contents;
  commands = live.replied l u b id reply h.commands;
  kept = keeping.replied hosts seat b id reply h.kept;
}

-- ---- a command leaves

pub lost : (hosts : List HostDef) (l : List LiveCommand) (c : Contents) (u : UnitState) (seat : Seat)
    (b : UnitBooks) (key : ℕ) (p : Process) → IsUnitAt hosts l c u seat b → process_under l key ≡ Some p
    → IsUnitAt hosts (live_but (has_this_key key) l) c (unit_without u p.id) (Seats.seat_without seat p.id)
    (Books.books_without b key)
lost hosts l c u seat b key p h k = record {
  there = (λ i. Seats.unit_mapped (λ u. unit_without u p.id) (h.there i));
  contents = h.contents;
  commands = live.left l u b key p h.commands k;
  kept = keeping.left hosts seat b p.id key h.kept;
}

initiator_is : (l : List LiveCommand) (u : UnitState) (b : UnitBooks) (key : ℕ) (p : Process) → HasLive l u b
    → process_under l key ≡ Some p → initiator_at b key ≡ p.initiator
initiator_is l u b key p h k =
    (λ i. initiator_of (entry_at (h.arrived i) key)) ∙ (λ i. initiator_of (live.entry_found l key p k i))

-- The status is stored as the command leaves.
status_kept : (seat : Seat) (b : UnitBooks) (key : ℕ) (p : Process) (reply : Reply)
    → is_request_sense (command_of p.cdb) ≡ false
    → Books.books_without (books_after_status b p reply) key ≡ Books.books_after_end b key p.initiator (sense_if reply)
status_kept seat b key p reply f =
    (λ i. Books.books_without (if reply.status == CHECK_CONDITION then Books.books_with_sense b p.initiator reply.sense
    else if reply.status == GOOD && f i then Books.books_without_sense b p.initiator else b) key)
    ∙ go (reply.status == CHECK_CONDITION) (reply.status == GOOD)
  where
    go : (y z : Bool) → Books.books_without (if y then Books.books_with_sense b p.initiator reply.sense
        else if z && false then Books.books_without_sense b p.initiator else b) key
        ≡ Books.books_with_status (Books.books_without b key) p.initiator (if y then Some reply.sense else None)
    go true z = refl
    go false true = refl
    go false false = refl

status_commands : (l : List LiveCommand) (u : UnitState) (b : UnitBooks) (dev : ℕ) (sense : Option Sense)
    → HasLive l u b → HasLive l u (Books.books_with_status b dev sense)
status_commands l u b dev None h = h
status_commands l u b dev (Some sense) h = other_books l u b (Books.books_with_sense b dev sense).queue.hold
    (Books.books_with_sense b dev sense).senses b.attentions h

status_unit : (seat : Seat) (p : Process) (reply : Reply) → (Seats.seat_after_status seat p reply).unit ≡ seat.unit
status_unit seat p reply =
    go (reply.status == CHECK_CONDITION) (reply.status == GOOD && is_request_sense (command_of p.cdb))
  where
    go : (y z : Bool) → (if y then record seat {
      senses = Seats.with_sense_of seat.senses p.initiator (Some reply.sense);
      hold = Seats.with_hold_of seat.hold p.initiator true;
    } else if z then record seat {
      senses = Seats.with_sense_of seat.senses p.initiator None;
      hold = Seats.with_hold_of seat.hold p.initiator false;
    } else seat).unit ≡ seat.unit
    go true z = refl
    go false true = refl
    go false false = refl

pub ended : (hosts : List HostDef) (l : List LiveCommand) (c : Contents) (u : UnitState) (seat : Seat)
    (b : UnitBooks) (key : ℕ) (p : Process) (reply : Reply) → IsUnitAt hosts l c u seat b
    → p.initiator < 8 → process_under l key ≡ Some p → is_request_sense (command_of p.cdb) ≡ false
    → IsUnitAt hosts (live_but (has_this_key key) l) c (unit_without u p.id)
    (Seats.seat_without (Seats.seat_after_status seat p reply) p.id)
    (Books.books_after_end b key (initiator_at b key) (sense_if reply))
ended hosts l c u seat b key p reply h lt k f =
    let from : initiator_at b key ≡ p.initiator = initiator_is l u b key p h.commands k in
    subst (λ (n : ℕ). IsUnitAt hosts (live_but (has_this_key key) l) c (unit_without u p.id)
    (Seats.seat_without (Seats.seat_after_status seat p reply) p.id) (Books.books_after_end b key n (sense_if reply)))
    (sym from) (record {
      there = (λ i. Seats.unit_mapped (λ u. unit_without u p.id) ((status_unit seat p reply ∙ h.there) i));
      contents = h.contents;
      commands = status_commands (live_but (has_this_key key) l) (unit_without u p.id)
          (Books.books_without b key) p.initiator (sense_if reply) (live.left l u b key p h.commands k);
      kept = subst (λ (d : UnitBooks). IsKeptAt hosts (Seats.seat_without (Seats.seat_after_status seat p reply) p.id)
          d) (status_kept seat b key p reply f) (keeping.left hosts (Seats.seat_after_status seat p reply)
          (books_after_status b p reply) p.id key (keeping.after_status hosts seat b p reply h.kept lt));
    })

-- ---- a command runs

-- What the unit's seat gives it to run by.
pub ran : (hosts : List HostDef) (l : List LiveCommand) (c : Contents) (u : UnitState) (seat : Seat)
    (b : UnitBooks) (key : ℕ) (p : Process) → IsUnitAt hosts l c u seat b → process_under l key ≡ Some p
    → p.initiator < 8 → Seats.is_initiator hosts p.initiator ≡ true → is_request_sense (command_of p.cdb) ≡ false
    → (block_at b key ≡ p.cdb) × (execution (Seats.context_of seat p.initiator) p.cdb p.sent ≡ record {
      contents =
          if is_reported (attention_at b key) (block_at b key) then c else (held_execution c p.cdb p.sent).contents;
      reported = is_reported (attention_at b key) (block_at b key);
      reply = reply_with (attention_at b key) (block_at b key) (held_reply c (block_at b key));
    })
ran hosts l c u seat b key p h k lt host f =
    let block : block_at b key ≡ p.cdb = live.block_found b.blocks l key p h.commands.blocks k in
    let from : initiator_at b key ≡ p.initiator = initiator_is l u b key p h.commands k in
    let attention : attention_at b key ≡ seat.attentions p.initiator = (λ i. slice_index_or b.attentions (from i) None)
    ∙ h.kept.attentions p.initiator lt host in (
      block,
      (λ i. execution (record {
        present = is_some (h.there i);
        contents = Seats.contents_of (h.there i);
        stored = seat.senses p.initiator;
        attention = seat.attentions p.initiator;
      }) p.cdb p.sent) ∙ (λ i. execution (record {
        present = true;
        contents = h.contents i;
        stored = seat.senses p.initiator;
        attention = sym attention i;
      }) p.cdb p.sent) ∙ executed c (seat.senses p.initiator) (attention_at b key) p.cdb p.sent f ∙ (λ i. record {
        contents =
            if is_reported (attention_at b key) (sym block i) then c else (held_execution c p.cdb p.sent).contents;
        reported = is_reported (attention_at b key) (sym block i);
        reply = reply_with (attention_at b key) (sym block i) (held_reply c (sym block i));
      }),
    )

-- The current command has no reply yet, no guest has its number, and the hold is empty.
pub run_at : (hosts : List HostDef) (seat : Seat) (u : UnitState) (p : Process) → seat.unit ≡ Some u
    → u.current ≡ Some (record { process = p; reply = None }) → guest_at seat.guests p.id ≡ None
    → Seats.is_any_held seat.hold ≡ false → Seats.seat_after_run p.id seat
    ≡ Some (Seats.seat_with_execution seat p (execution (Seats.context_of seat p.initiator) p.cdb p.sent))
run_at hosts seat u p there now none free =
    let own : same_id p.id p.id ≡ true = id_self p.id in
    (λ i. Seats.seat_after_run_of seat (is_some (none i))
    (if is_some (none i) then none i else running_if (Seats.current_of (there i)) p.id))
    ∙ (λ i. Seats.seat_after_run_of seat false (running_if (now i) p.id))
    ∙ (λ i. Seats.seat_after_run_of seat false (if own i then Some (record { process = p; reply = None }) else None))
    ∙ (λ i. if not (free i)
    then Some (Seats.seat_with_execution seat p (execution (Seats.context_of seat p.initiator) p.cdb p.sent)) else None)

pub run : (hosts : List HostDef) (l : List LiveCommand) (c : Contents)
    (u : UnitState) (seat : Seat) (b : UnitBooks) (key : ℕ) (p : Process)
    → IsUnitAt hosts l c u seat b → process_under l key ≡ Some p → p.initiator < 8 → (done : Execution)
    → IsUnitAt hosts l done.contents (unit_with_reply p.id done.reply (unit_with_contents done.contents u))
    (Seats.seat_with_execution seat p done) (books_if_reported b done.reported (initiator_at b key))
run hosts l c u seat b key p h k lt done =
    let from : initiator_at b key ≡ p.initiator = initiator_is l u b key p h.commands k in
    subst
    (λ (n : ℕ). IsUnitAt hosts l done.contents (unit_with_reply p.id done.reply (unit_with_contents done.contents u))
    (Seats.seat_with_execution seat p done) (books_if_reported b done.reported n)) (sym from) (record {
      there = (λ i. Seats.unit_mapped (unit_with_reply p.id done.reply)
          (Seats.unit_mapped (unit_with_contents done.contents) (h.there i)));
      contents = refl;
      commands = reported done.reported (live.replied l (unit_with_contents done.contents u) b p.id done.reply (record {
        apart = h.commands.apart;
        arrived = h.commands.arrived;
        waiting = h.commands.waiting;
        current = h.commands.current;
        blocks = h.commands.blocks;
        depth = h.commands.depth;
      }));
      kept = keeping.run hosts seat b p done h.kept lt;
    })
  where
    reported : (y : Bool) → HasLive l (unit_with_reply p.id done.reply (unit_with_contents done.contents u)) b
        → HasLive l (unit_with_reply p.id done.reply (unit_with_contents done.contents u))
        (books_if_reported b y p.initiator)
    reported false x = x
    reported true x = other_books l (unit_with_reply p.id done.reply (unit_with_contents done.contents u)) b
        b.queue.hold b.senses (Books.books_without_attention b p.initiator).attentions x

-- ---- aborts and resets

kept_unit : (drops : Process → Bool) (seat : Seat) (u : UnitState) → seat.unit ≡ Some u
    → Seats.unit_mapped (unit_kept drops) seat.unit ≡ Some (unit_kept drops u)
kept_unit drops seat u h = λ i. Seats.unit_mapped (unit_kept drops) (h i)

pub aborted :
    (hosts : List HostDef) (l : List LiveCommand) (c : Contents) (u : UnitState) (seat : Seat) (b : UnitBooks) (dev : ℕ)
    → IsUnitAt hosts l c u seat b → dev < 8
    → IsUnitAt hosts (live_but (is_one_of (those.Of dev)) l) c (unit_kept (λ p. p.initiator == dev) u)
    (Seats.seat_after_abort dev seat) (Books.books_after_abort b dev)
aborted hosts l c u seat b dev h lt = record {
  there = kept_unit (λ p. p.initiator == dev) seat u h.there;
  contents = h.contents;
  commands = other_books (live_but (is_one_of (those.Of dev)) l)
      (unit_kept (λ p. p.initiator == dev) u) (Books.books_without_those b (those.Of dev))
      (Books.books_after_abort b dev).queue.hold (Books.books_after_abort b dev).senses b.attentions
      (live.aborted (those.Of dev) (λ p. p.initiator == dev) (λ p. refl) l u b h.commands);
  kept = keeping.aborted hosts seat b dev h.kept lt;
}

pub tag_aborted : (hosts : List HostDef) (l : List LiveCommand) (c : Contents)
    (u : UnitState) (seat : Seat) (b : UnitBooks) (dev n : ℕ) → IsUnitAt hosts l c u seat b
    → IsUnitAt hosts (live_but (is_one_of (those.Tagged dev n)) l) c
    (unit_kept (λ p. p.initiator == dev && has_tag p.tag n) u) (Seats.seat_after_abort_tag dev n seat)
    (Books.books_after_abort_tag b dev n)
tag_aborted hosts l c u seat b dev n h = record {
  there = kept_unit (λ p. p.initiator == dev && has_tag p.tag n) seat u h.there;
  contents = h.contents;
  commands = live.aborted (those.Tagged dev n) (λ p. p.initiator == dev && has_tag p.tag n)
      (λ p i. p.initiator == dev && live.tagged p.tag n i) l u b h.commands;
  kept = keeping.tag_aborted hosts seat b dev n h.kept;
}

all_leave : (l : List LiveCommand) (u : UnitState) (b d : UnitBooks) → HasLive l u b
    → d.queue ≡ queue_cleared_of b.queue those.All → d.blocks ≡ b.blocks
    → HasLive (live_but (is_one_of those.All) l) (unit_kept (λ p. true) u) d
all_leave l u b d h queue blocks =
    let x : HasLive (live_but (is_one_of those.All) l) (unit_kept (λ p. true) u)
    (Books.books_without_those b those.All) = live.aborted those.All (λ p. true) (λ p. refl) l u b h in
    let y : HasLive (live_but (is_one_of those.All) l) (unit_kept (λ p. true) u) (record {
      queue = queue_cleared_of b.queue those.All;
      blocks = b.blocks;
      senses = d.senses;
      attentions = d.attentions;
    }) = other_books (live_but (is_one_of those.All) l) (unit_kept (λ p. true) u)
    (Books.books_without_those b those.All) b.queue.hold d.senses d.attentions x in
    subst (λ (q : QueueState). HasLive (live_but (is_one_of those.All) l) (unit_kept (λ p. true) u)
    (record { queue = q; blocks = d.blocks; senses = d.senses; attentions = d.attentions })) (sym queue)
    (subst (λ (z : List (List ℕ)). HasLive (live_but (is_one_of those.All) l) (unit_kept (λ p. true) u)
    (record { queue = queue_cleared_of b.queue those.All; blocks = z; senses = d.senses; attentions = d.attentions }))
    (sym blocks) y)

pub cleared : (hosts : List HostDef) (l : List LiveCommand) (c : Contents) (u : UnitState)
    (seat : Seat) (b d : UnitBooks) (dev : ℕ) → IsUnitAt hosts l c u seat b → IsCleared dev b d
    → IsUnitAt hosts (live_but (is_one_of those.All) l) c (unit_kept (λ p. true) u)
    (Seats.seat_after_clear_queue dev seat) d
cleared hosts l c u seat b d dev h k = record {
  there = kept_unit (λ p. true) seat u h.there;
  contents = h.contents;
  commands = all_leave l u b d h.commands k.queue k.blocks;
  kept = keeping.cleared hosts seat b d dev h.kept k (λ other lt. live.told l u b h.commands dev other
      ∙ (λ i. Seats.is_told dev (unit_processes (sym h.there i)) other)) k.eight;
}

pub reset : (hosts : List HostDef) (l : List LiveCommand) (c : Contents) (u : UnitState) (seat : Seat) (b : UnitBooks)
    → IsUnitAt hosts l c u seat b → IsUnitAt hosts (live_but (is_one_of those.All) l) c (unit_kept (λ p. true) u)
    (Seats.seat_after_reset hosts seat) (Books.books_after_reset b)
reset hosts l c u seat b h = record {
  there = kept_unit (λ p. true) seat u h.there;
  contents = h.contents;
  commands = other_books (live_but (is_one_of those.All) l) (unit_kept (λ p. true) u)
      (Books.books_without_those b those.All) (Books.books_after_reset b).queue.hold (Books.books_after_reset b).senses
      (Books.books_after_reset b).attentions (live.aborted those.All (λ p. true) (λ p. refl) l u b h.commands);
  kept = keeping.reset hosts seat b h.kept (λ i. is_some (h.there i));
}

-- ---- a guest ends

guest_current : (l : List LiveCommand) (id : ProcId) → has_process l id ≡ false
    → (c : Option ℕ) (r : Option RunningProcess) → IsCurrentOf l c r
    → (if is_some (running_if r id) then None else r) ≡ r
guest_current l id f None None h = refl
guest_current l id f None (Some r) h = absurd h
guest_current l id f (Some key) None h = absurd h
guest_current l id f (Some key) (Some r) h = go (same_id r.process.id id) refl
  where
    go : (y : Bool) → same_id r.process.id id ≡ y
        → (if is_some (if y then Some r else None) then None else Some r) ≡ Some r
    go true e =
        let same : r.process.id ≡ id = same_id_is r.process.id id e in
        let found : has_process l id ≡ true = subst
        (λ (n : ProcId). has_process l n ≡ true) same (live.process_found l key r.process h) in
        let bad : true ≡ false = sym found ∙ f in
        cc
    go false e = refl

guest_unit : (l : List LiveCommand) (u : UnitState) (b : UnitBooks) (id : ProcId) → HasLive l u b
    → has_process l id ≡ false → unit_without u id ≡ u
guest_unit l u b id h f =
    let waits : without_process u.waiting id ≡ u.waiting = (λ i. without_process (h.waiting i) id)
    ∙ live.absent_waiting l id b.queue.current f ∙ sym h.waiting in
    let current : (if is_some (running_if u.current id) then None else u.current) ≡ u.current = guest_current
    l id f b.queue.current u.current h.current in
    λ i. record u { waiting = waits i; current = current i }

pub guest_ended : (hosts : List HostDef) (l : List LiveCommand) (c : Contents)
    (u : UnitState) (seat : Seat) (b : UnitBooks) (p : Process) (reply : Reply)
    → IsUnitAt hosts l c u seat b → p.initiator < 8 → has_process l p.id ≡ false
    → IsUnitAt hosts l c u (Seats.seat_without (Seats.seat_after_status seat p reply) p.id)
    (books_after_status b p reply)
guest_ended hosts l c u seat b p reply h lt f = record {
  there = (λ i. Seats.unit_mapped (λ u. unit_without u p.id) ((status_unit seat p reply ∙ h.there) i))
      ∙ (λ i. Some (guest_unit l u b p.id h.commands f i));
  contents = h.contents;
  commands = stored (reply.status == CHECK_CONDITION) (reply.status == GOOD && is_request_sense (command_of p.cdb));
  kept = only (keeping.after_status hosts seat b p reply h.kept lt);
}
  where
    stored : (y z : Bool) → HasLive l u (if y then Books.books_with_sense b p.initiator reply.sense
        else if z then Books.books_without_sense b p.initiator else b)
    stored true z = status_commands l u b p.initiator (Some reply.sense) h.commands
    stored false true = other_books l u b (Books.books_without_sense b p.initiator).queue.hold
        (Books.books_without_sense b p.initiator).senses b.attentions h.commands
    stored false false = h.commands

    only : IsKeptAt hosts (Seats.seat_after_status seat p reply) (books_after_status b p reply)
        → IsKeptAt hosts (Seats.seat_without (Seats.seat_after_status seat p reply) p.id) (books_after_status b p reply)
    only x = record {
      senses = x.senses;
      attentions = x.attentions;
      hold = x.hold;
      eight_senses = x.eight_senses;
      eight_attentions = x.eight_attentions;
      eight_held = x.eight_held;
    }

pub guest_lost : (hosts : List HostDef) (l : List LiveCommand) (c : Contents)
    (u : UnitState) (seat : Seat) (b : UnitBooks) (id : ProcId)
    → IsUnitAt hosts l c u seat b → has_process l id ≡ false → IsUnitAt hosts l c u (Seats.seat_without seat id) b
guest_lost hosts l c u seat b id h f = record {
  there =
      (λ i. Seats.unit_mapped (λ u. unit_without u id) (h.there i)) ∙ (λ i. Some (guest_unit l u b id h.commands f i));
  contents = h.contents;
  commands = h.commands;
  kept = record {
    senses = h.kept.senses;
    attentions = h.kept.attentions;
    hold = h.kept.hold;
    eight_senses = h.kept.eight_senses;
    eight_attentions = h.kept.eight_attentions;
    eight_held = h.kept.eight_held;
  };
}

-- ---- the start

pub started : (s : ScenarioValue) (d : UnitDef) (target unit keys : ℕ) (blocks : List (List ℕ))
    → (seat_of (starting_array s) target unit).unit ≡ Some (starting_unit s d)
    → IsUnitAt s.hosts [] (contents_at_start s d) (starting_unit s d) (seat_of (starting_array s) target unit)
    (Books.empty_books d.depth keys blocks)
started s d target unit keys blocks h = record {
  there = h;
  contents = refl;
  commands = record { apart = tt; arrived = refl; waiting = refl; current = tt; blocks = tt; depth = refl };
  kept = keeping.started s target unit d.depth keys blocks;
}

-- ---- the steps of the seat

pub end_step : (seat : Seat) (p : Process) (reply : Reply)
    → Seats.running_at seat p.id ≡ Some (record { process = p; reply = Some reply })
    → Seats.seat_after_end p.id reply.status seat
    ≡ Some (Seats.seat_without (Seats.seat_after_status seat p reply) p.id)
end_step seat p reply h =
    let same : (reply.status == reply.status) ≡ true = eq_self reply.status in
    (λ i. Seats.seat_after_end_of seat reply.status (h i))
    ∙ (λ i. if same i then Some (Seats.seat_without (Seats.seat_after_status seat p reply) p.id) else None)

pub failure_step : (seat : Seat) (ended : Bool) (p : Process) (reply : Reply)
    → Seats.running_at seat p.id ≡ Some (record { process = p; reply = None })
    → Seats.seat_after_failure ended p reply seat ≡ Some (Seats.seat_with_reply seat p.id reply)
failure_step seat ended p reply h = λ i. Seats.seat_after_failure_of seat ended p reply (h i)
