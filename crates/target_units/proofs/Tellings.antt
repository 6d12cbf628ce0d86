-- What a unit tells is what its seat has.
use Rattle.std.proofs.Common.{ℕ, ◌≡◌, ◌<◌, ◌+◌, ◌-◌, ◌*◌, ◌^◌, ◌∙◌, Bool, true, false, List, [], refl, sym, length}
use Rattle.std.proofs.Common.{take, min, Option, Some, None, drop, ◌≤◌}
use Rattle.std.specs.Prelude.{if◌then◌else◌, ◌&&◌, ◌==◌, not, nat_lt, is_some, slice_index_or}
use Rattle.std.proofs.Math.Nat.{min-eq_left}
use Rattle.std.proofs.lemmas.List.{length-take}
use native.Mathlib.Omega.{arith}
use Rattle.cdb_codec.specs.declared.Sense.{Sense}
use Rattle.cdb_codec.specs.declared.status.TheConstants.{GOOD, CHECK_CONDITION}
use Rattle.cdb_codec.specs.declared.replies.TheConstants.{SENSE_LEN}
use Rattle.cdb_codec.specs.Cdb.{command_of}
use Rattle.cdb_codec.specs.Replies.{sense_data}
use Rattle.scenario.specs.declared.value.HostDef.{HostDef}
use Rattle.array_model.specs.Contents.{Contents}
use Rattle.array_model.specs.Execution.{Reply, execution, check_condition, is_request_sense, heeds_attention, no_sense}
use Rattle.array_model.specs.Execution.{CommandContext, needs_unit, returned_sense}
use Rattle.array_model.specs.Units.{RunningProcess, UnitState, has_no_current}
use Rattle.array_model.specs.Steps.{process_count, running_count}
use Rattle.array_model.specs.Seats.{Seat}
use Rattle.due_model.specs.dialogue_model.specs.Wants.{ready_in}
use Rattle.tag_queue.specs.Queue.{is_held}
use Rattle.disk_unit.specs.Books.{UnitBooks, sense_or_none}
use Rattle.disk_unit.specs.Disk.{blocks_written, disk_context}
use Rattle.disk_unit.specs.Held.{held_reply, taken_now}
use Rattle.disk_unit.specs.LiveCommands.{LiveCommand, HasLive, IsCurrentOf, queued_of}
use Rattle.disk_unit.specs.Plans.{plan_of}
use Rattle.disk_unit.specs.Units.{is_reported, reply_with, plan_for}
use Rattle.disk_unit.specs.declared.media.Plan.{Plan}
use Rattle.disk_unit.proofs.Executions.{executed, unit_context}
use Rattle.disk_unit.proofs.LiveCommands.{entry_found, block_found, room_is}
use Rattle.target_units.specs.Readies.{ready_unit}
use Rattle.target_units.specs.Seated.{SeatedState, IsAtSeat, IsSince, seated_context, running_entry, running_block}
use Rattle.target_units.specs.Seated.{current_reply, entry_under, current_entry, block_under, ready_by_entry, room_by}
use Rattle.target_units.specs.Seated.{room_at, taken_in}
use Rattle.disk_unit.proofs.Replies.{take_part}
use Rattle.array_model.proofs.Executed.{absent_executed, reported_executed}
use Rattle.array_model.proofs.OperationCodes.{heeds_none}
use Rattle.array_model.proofs.ExecutionFacts.{IsSenseBlock, sense_block_of, sense_executed, sent_apart}
use Rattle.array_model.specs.Seats
use Rattle.disk_unit.proofs.Keeping as keeping

-- ---- the queue

idle_is : (w n : ℕ) (r : Option RunningProcess) (held : Bool) → w + running_count r ≡ n
    → (n == 0 && not held) ≡ (has_no_current r && not held && w == 0)
idle_is w n None held h = go held
  where
    same : n ≡ w
    same = let e : w + 0 ≡ n = h in omega arith

    both : (x : Bool) → (x && true) ≡ x
    both true = refl
    both false = refl

    none : (x : Bool) → (x && false) ≡ false
    none true = refl
    none false = refl

    go : (y : Bool) → (n == 0 && not y) ≡ (true && not y && w == 0)
    go true = none (n == 0)
    go false = both (n == 0) ∙ (λ i. same i == 0)
idle_is w n (Some r) held h =
    let some : (n == 0) ≡ false = let e : w + 1 ≡ n = h in grind arith in
    λ i. some i && not held

pub room_seen : (hosts : List HostDef) (seat : Seat) (time : ℕ) (v : SeatedState) (u : UnitState)
    → IsAtSeat hosts seat time v → seat.unit ≡ Some u → room_by v.books ≡ room_at (Seats.is_any_held seat.hold) u
room_seen hosts seat time v u h there =
    let same : h.1 ≡ u = let e : Some h.1 ≡ Some u = sym h.2.kept.there ∙ there in cc in
    let count : process_count h.1 ≡ length v.books.queue.arrived = room_is h.0 h.1 v.books h.2.kept.commands in
    let held : is_held v.books.queue.hold ≡ Seats.is_any_held seat.hold = keeping.held
    hosts seat v.books h.2.kept.kept in
    let full : not (nat_lt (length v.books.queue.arrived) v.books.queue.depth)
    ≡ not (nat_lt (process_count h.1) h.1.depth) = (λ i. not (nat_lt (sym count i) (h.2.kept.commands.depth i))) in
    let idle : (length v.books.queue.arrived == 0 && not (is_held v.books.queue.hold))
    ≡ (has_no_current h.1.current && not (Seats.is_any_held seat.hold) && length h.1.waiting == 0) =
    (λ i. length v.books.queue.arrived == 0 && not (held i))
    ∙ idle_is (length h.1.waiting) (length v.books.queue.arrived) h.1.current (Seats.is_any_held seat.hold) count in
    (λ i. record { full = full i; idle = idle i }) ∙ (λ i. room_at (Seats.is_any_held seat.hold) (same i))

-- ---- the current process

entry_is : (l : List LiveCommand) (u : UnitState) (b : UnitBooks) → HasLive l u b
    → current_entry b ≡ running_entry u.current
entry_is l u b h = (λ i. entry_under (h.arrived i) b.queue.current) ∙ go b.queue.current u.current h.current
  where
    go : (c : Option ℕ) (r : Option RunningProcess) → IsCurrentOf l c r → entry_under (queued_of l) c ≡ running_entry r
    go None None k = refl
    go None (Some r) k = absurd k
    go (Some key) None k = absurd k
    go (Some key) (Some r) k = entry_found l key r.process k

pub ready_seen : (hosts : List HostDef) (seat : Seat) (time : ℕ) (v : SeatedState) (unit seek : ℕ)
    → IsAtSeat hosts seat time v → time + seek < 2 ^ 64
    → ((r : RunningProcess) → Seats.current_of seat.unit ≡ Some r → r.process.unit ≡ unit)
    → ready_by_entry unit (min (v.since + seek) (2 ^ 64 - 1)) (is_held v.books.queue.hold) (current_entry v.books)
    ≡ ready_unit (ready_in (Seats.is_any_held seat.hold) (Seats.current_of seat.unit) (time + seek))
ready_seen hosts seat time v unit seek h lt own =
    let held : is_held v.books.queue.hold ≡ Seats.is_any_held seat.hold = keeping.held
    hosts seat v.books h.2.kept.kept in
    let entry : current_entry v.books ≡ running_entry h.1.current = entry_is h.0 h.1 v.books h.2.kept.commands in
    (λ i. ready_by_entry unit (min (v.since + seek) (2 ^ 64 - 1)) (held i) (entry i)) ∙ go h.1.current h.2.since
    (λ r e. own r ((λ i. Seats.current_of (h.2.kept.there i)) ∙ e)) (Seats.is_any_held seat.hold)
    ∙ (λ i. ready_unit (ready_in (Seats.is_any_held seat.hold) (Seats.current_of (sym h.2.kept.there i)) (time + seek)))
  where
    go : (r : Option RunningProcess) → IsSince r time v.since
        → ((q : RunningProcess) → r ≡ Some q → q.process.unit ≡ unit) → (y : Bool)
        → ready_by_entry unit (min (v.since + seek) (2 ^ 64 - 1)) y (running_entry r)
        ≡ ready_unit (ready_in y r (time + seek))
    go None k f y = refl
    go (Some q) k f true = refl
    go (Some q) k f false =
        let number : q.process.unit ≡ unit = f q refl in
        let sum : min (v.since + seek) (2 ^ 64 - 1) ≡ time + seek = (λ i. min (k i + seek) (2 ^ 64 - 1))
        ∙ min-eq_left (omega (arith, lt)) in
        λ i. Some (record { time = sum i; initiator = q.process.initiator; unit = sym number i })

pub block_seen : (hosts : List HostDef) (seat : Seat) (time : ℕ) (v : SeatedState) → IsAtSeat hosts seat time v
    → block_under v.books v.books.queue.current ≡ running_block (Seats.current_of seat.unit)
block_seen hosts seat time v h =
    go v.books.queue.current h.1.current h.2.kept.commands.current
    ∙ (λ i. running_block (Seats.current_of (sym h.2.kept.there i)))
  where
    go : (c : Option ℕ) (r : Option RunningProcess) → IsCurrentOf h.0 c r → block_under v.books c ≡ running_block r
    go None None k = refl
    go None (Some r) k = absurd k
    go (Some key) None k = absurd k
    go (Some key) (Some r) k = block_found v.books.blocks h.0 key r.process h.2.kept.commands.blocks k

pub entry_seen : (hosts : List HostDef) (seat : Seat) (time : ℕ) (v : SeatedState) → IsAtSeat hosts seat time v
    → current_entry v.books ≡ running_entry (Seats.current_of seat.unit)
entry_seen hosts seat time v h =
    entry_is h.0 h.1 v.books h.2.kept.commands
    ∙ (λ i. running_entry (Seats.current_of (sym h.2.kept.there i)))

pub reply_seen : (hosts : List HostDef) (seat : Seat) (time : ℕ) (v : SeatedState) → IsAtSeat hosts seat time v
    → v.reply ≡ current_reply (Seats.current_of seat.unit)
reply_seen hosts seat time v h = h.2.reply ∙ (λ i. current_reply (Seats.current_of (sym h.2.kept.there i)))

-- ---- what a command would answer

sense_length : (room : ℕ) (a b : Sense)
    → length (take (min room SENSE_LEN) (sense_data a)) ≡ length (take (min room SENSE_LEN) (sense_data b))
sense_length room a b =
    length-take (min room SENSE_LEN) (sense_data a) ∙ sym (length-take (min room SENSE_LEN) (sense_data b))

unreported : (attention : Option Sense) (cdb : List ℕ) → heeds_attention cdb ≡ false → is_reported attention cdb ≡ false
unreported None cdb h = refl
unreported (Some a) cdb h = h

unchanged : (attention : Option Sense) (cdb : List ℕ) (reply : Reply) → heeds_attention cdb ≡ false
    → reply_with attention cdb reply ≡ reply
unchanged None cdb reply h = refl
unchanged (Some a) cdb reply h = λ i. if h i then check_condition a else reply

-- A REQUEST SENSE gives as many bytes, whatever sense is stored.
sense_plan : (c : Contents) (stored attention : Option Sense) (cdb : List ℕ) (out : ℕ)
    → is_request_sense (command_of cdb) ≡ true → plan_of (reply_with attention cdb (held_reply c cdb)) out
    ≡ plan_of (execution (unit_context c stored attention) cdb []).reply out
sense_plan c stored attention cdb out f = (λ i. plan_of (unchanged attention cdb (held_reply c cdb) none i) out)
    ∙ (λ i. plan_of (sense_executed (disk_context c) cdb [] k i).reply out) ∙ (λ i. record {
      status = GOOD;
      sense = None;
      in_len = sense_length k.room no_sense (returned_sense true stored) i;
      out_len = out;
    }) ∙ (λ i. plan_of (sym (sense_executed (unit_context c stored attention) cdb [] k) i).reply out)
  where
    none : heeds_attention cdb ≡ false
    none = heeds_none cdb f

    k : IsSenseBlock cdb
    k = sense_block_of cdb f

pub planned : (c : Contents) (stored attention : Option Sense) (cdb : List ℕ) (taken : ℕ) (plan : Plan)
    → plan ≡ plan_for attention cdb (held_reply c cdb) taken
    → plan ≡ plan_of (execution (unit_context c stored attention) cdb []).reply
    (if is_reported attention cdb then 0 else taken)
planned c stored attention cdb taken plan h = h ∙ go (is_request_sense (command_of cdb)) refl
  where
    out : ℕ
    out = if is_reported attention cdb then 0 else taken

    go : (y : Bool) → is_request_sense (command_of cdb) ≡ y
        → plan_of (reply_with attention cdb (held_reply c cdb)) out
        ≡ plan_of (execution (unit_context c stored attention) cdb []).reply out
    go true f = sense_plan c stored attention cdb out f
    go false f = λ i. plan_of (sym (executed c stored attention cdb [] f) i).reply out

pub context_is : (hosts : List HostDef) (seat : Seat) (time : ℕ) (v : SeatedState) (from : ℕ)
    → from < 8 → Seats.is_initiator hosts from ≡ true → IsAtSeat hosts seat time v
    → Seats.context_of seat from ≡ seated_context v from
context_is hosts seat time v from lt host h = (λ i. record {
  present = is_some (h.2.kept.there i);
  contents = Seats.contents_of (h.2.kept.there i);
  stored = sym (h.2.kept.kept.senses from lt) i;
  attention = sym (h.2.kept.kept.attentions from lt host) i;
}) ∙ (λ i. record {
  present = true;
  contents = h.2.kept.contents i;
  stored = slice_index_or v.books.senses from None;
  attention = slice_index_or v.books.attentions from None;
})

pub plan_seen :
    (hosts : List HostDef) (seat : Seat) (time : ℕ) (v : SeatedState) (from : ℕ) (cdb sent : List ℕ) (plan : Plan)
    → from < 8
    → plan ≡ plan_of (execution (seated_context v from) cdb []).reply (taken_in (seated_context v from) cdb)
    → IsAtSeat hosts seat time v → Seats.is_initiator hosts from ≡ true
    → plan ≡ plan_of (execution (Seats.context_of seat from) cdb sent).reply (taken_in (Seats.context_of seat from) cdb)
plan_seen hosts seat time v from cdb sent plan lt e h host =
    let same : seated_context v from ≡ Seats.context_of seat from = sym
    (context_is hosts seat time v from lt host h) in
    e
    ∙ (λ i. plan_of (execution (same i) cdb []).reply (taken_in (same i) cdb))
    ∙ (λ i. plan_of (sent_apart (Seats.context_of seat from) cdb [] sent i)
    (taken_in (Seats.context_of seat from) cdb))

-- One that would report an attention would not end GOOD.
pub reported_bad : (attention : Option Sense) (cdb : List ℕ) (reply : Reply) → is_reported attention cdb ≡ true
    → (reply_with attention cdb reply).status ≡ GOOD → ⊥
reported_bad None cdb reply f e = cc
reported_bad (Some a) cdb reply f e =
    let bad : CHECK_CONDITION ≡ GOOD = (λ i. (if sym f i then check_condition a else reply).status) ∙ e in
    omega (arith, bad)

-- One that reports an attention does not end GOOD.
reported_fails : (m : CommandContext) (cdb sent : List ℕ) (attention : Option Sense) → m.attention ≡ attention
    → is_reported attention cdb ≡ true → (execution m cdb sent).reply.status ≡ GOOD → ⊥
reported_fails m cdb sent None e f good = cc
reported_fails m cdb sent (Some a) e f good = go (not m.present && needs_unit cdb) refl
  where
    go : (y : Bool) → (not m.present && needs_unit cdb) ≡ y → ⊥
    go true k =
        let bad : CHECK_CONDITION ≡ GOOD = (λ i. (sym (absent_executed m cdb sent k) i).reply.status) ∙ good in
        omega (arith, bad)
    go false k =
        let bad : CHECK_CONDITION ≡ GOOD = (λ i. (sym (reported_executed m cdb sent a k e f) i).reply.status) ∙ good in
        omega (arith, bad)

-- What it takes, where it would end GOOD.
pub taken_good : (m : CommandContext) (cdb sent : List ℕ) → (execution m cdb sent).reply.status ≡ GOOD
    → taken_in m cdb ≡ taken_now m.contents cdb
taken_good m cdb sent good = go (is_reported m.attention cdb) refl
  where
    go : (y : Bool) → is_reported m.attention cdb ≡ y → taken_in m cdb ≡ taken_now m.contents cdb
    go true f = absurd (reported_fails m cdb sent m.attention refl f good)
    go false f = λ i. if f i then 0 else taken_now m.contents cdb

-- At a unit that is not there nothing is taken.
pub none_taken : (seat : Seat) (from : ℕ) (cdb : List ℕ) → seat.unit ≡ None
    → 0 ≡ taken_in (Seats.context_of seat from) cdb
none_taken seat from cdb none = go (is_reported (seat.attentions from) cdb)
  where
    nothing : 0 ≡ blocks_written 0 (command_of cdb) * 0
    nothing = omega arith

    go : (y : Bool) → 0 ≡ (if y then 0 else taken_now (Seats.contents_of seat.unit) cdb)
    go true = refl
    go false = nothing ∙ (λ i. taken_now (Seats.contents_of (sym none i)) cdb)

-- ---- the bytes that it would give

pub plain_bytes : (c : Contents) (stored attention : Option Sense) (cdb : List ℕ)
    → is_request_sense (command_of cdb) ≡ false → (reply_with attention cdb (held_reply c cdb)).bytes
    ≡ (execution (unit_context c stored attention) cdb []).reply.bytes
plain_bytes c stored attention cdb f = λ i. (sym (executed c stored attention cdb [] f) i).reply.bytes

-- A REQUEST SENSE gives the first bytes of its sense.
pub record IsSensed (bytes : List ℕ) (sense : Sense) : Type 0 where
  pub room : ℕ
  pub is : bytes ≡ take room (sense_data sense)

pub sense_bytes : (c : Contents) (stored attention : Option Sense) (cdb : List ℕ)
    → is_request_sense (command_of cdb) ≡ true
    → IsSensed (execution (unit_context c stored attention) cdb []).reply.bytes (returned_sense true stored)
sense_bytes c stored attention cdb f =
    let k = sense_block_of cdb f in
    record {
      room = min k.room SENSE_LEN;
      is = λ i. (sense_executed (unit_context c stored attention) cdb [] k i).reply.bytes;
    }

-- A part of them is that part of all sense data.
pub sense_within : (bytes : List ℕ) (sense : Sense) (at n : ℕ) → IsSensed bytes sense → at + n ≤ length bytes
    → at + n ≤ 18
sense_within bytes sense at n h lt =
    let long : length bytes ≡ min h.room 18 = (λ i. length (h.is i)) ∙ length-take h.room (sense_data sense) in
    omega arith

pub sense_part : (bytes : List ℕ) (sense : Sense) (at n : ℕ) → IsSensed bytes sense → at + n ≤ length bytes
    → take n (drop at (sense_data sense)) ≡ take n (drop at bytes)
sense_part bytes sense at n h lt =
    let long : length bytes ≡ min h.room 18 = (λ i. length (h.is i)) ∙ length-take h.room (sense_data sense) in
    sym (take_part n at h.room (sense_data sense) (omega arith)) ∙ (λ i. take n (drop at (sym h.is i)))

pub stored_sense : (stored : Option Sense) → sense_or_none stored ≡ returned_sense true stored
stored_sense None = refl
stored_sense (Some sense) = refl

pub bytes_seen : (hosts : List HostDef) (seat : Seat) (time : ℕ) (v : SeatedState) (from : ℕ) (cdb sent : List ℕ)
    → from < 8 → IsAtSeat hosts seat time v → Seats.is_initiator hosts from ≡ true
    → (execution (seated_context v from) cdb []).reply.bytes
    ≡ (execution (Seats.context_of seat from) cdb sent).reply.bytes
bytes_seen hosts seat time v from cdb sent lt h host =
    (λ i. (execution (sym (context_is hosts seat time v from lt host h) i) cdb []).reply.bytes)
    ∙ (λ i. (sent_apart (Seats.context_of seat from) cdb [] sent i).bytes)
