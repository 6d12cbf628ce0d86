-- A logical unit at its seat of the plain disk array, with what its target keeps beside it.
use Rattle.std.specs.Prelude.{◌≡◌, ℕ, ◌<◌, ◌≤◌, ◌+◌, ◌==◌, ◌&&◌, Bool, true, false, List, [], ◌∷◌, length, Option, Some}
use Rattle.std.specs.Prelude.{None, nat_le, nat_lt, not, take, slice_index_or, if◌then◌else◌}
use Rattle.bus_base.specs.declared.AbortKind.{AbortKind}
use Rattle.bus_base.specs.declared.ProcId.{ProcId}
use Rattle.bus_base.specs.declared.events.Class.{Class}
use Rattle.bus_base.specs.declared.events.Pick.{Pick}
use Rattle.cdb_codec.specs.declared.Sense.{Sense}
use Rattle.cdb_codec.specs.declared.status.TheConstants.{GOOD}
use Rattle.cdb_codec.specs.Cdb.{command_of}
use Rattle.scenario.specs.declared.value.HostDef.{HostDef}
use Rattle.array_model.specs.declared.entries.Entry.{Entry}
use Rattle.array_model.specs.Contents.{Contents}
use Rattle.array_model.specs.Execution.{Reply, CommandContext, execution, is_request_sense, aborted_reply}
use Rattle.array_model.specs.Order.{class_of, tag_number, entry_of}
use Rattle.array_model.specs.Processes.{Process, same_id}
use Rattle.array_model.specs.Units.{RunningProcess, UnitState, guest_at, has_no_current}
use Rattle.array_model.specs.Steps.{running_if, process_count}
use Rattle.array_model.specs.Seats.{Seat, current_of, context_of, is_initiator, is_waiting_at}
use Rattle.tag_queue.specs.Queue.{Queued, has_key, entry_at, is_held}
use Rattle.disk_unit.specs.AtSeats.{IsUnitAt}
use Rattle.disk_unit.specs.Books.{UnitBooks, block_at, attention_at, initiator_at, books_with, books_after_choice}
use Rattle.disk_unit.specs.Books.{books_after_end, books_without, books_with_sense, books_without_sense}
use Rattle.disk_unit.specs.Held.{held_execution, held_reply, cost_by, kind_of, taken_now}
use Rattle.disk_unit.specs.LiveCommands.{LiveCommand}
use Rattle.disk_unit.specs.Units.{IsAborted, is_reported, bytes_taken, books_if_reported, unit_reply, told_of}
use Rattle.disk_unit.specs.declared.unit.Accepted.{Accepted}
use Rattle.disk_unit.specs.declared.unit.Accepted.TheVariants as accepted
use Rattle.disk_unit.specs.declared.unit.Reply.{Reply as UnitReply}
use Rattle.due_model.specs.dialogue_model.specs.declared.exchange.Room.{Room}
use Rattle.target_units.specs.declared.ready.Ready.{Ready}
use Rattle.target_units.specs.declared.served.Served.{Served}
use Rattle.due_model.specs.RunSteps.{is_same_running}

pub record SeatedState : Type 0 where
  -- its commands, and what it keeps for each initiator
  pub books : UnitBooks
  pub contents : Contents
  -- how many blocks may still be written for the first time
  pub spare : ℕ
  pub pick : Pick
  -- the reply of its current process, once that has one, and since when this is the current one
  pub reply : Option UnitReply
  pub since : ℕ

-- ---- what it has of the seat

abbrev pub reply_told : Option Reply → Option UnitReply
reply_told None = None
reply_told (Some reply) = Some (told_of reply)

abbrev pub current_reply : Option RunningProcess → Option UnitReply
current_reply None = None
current_reply (Some r) = reply_told r.reply

abbrev pub IsSince : Option RunningProcess → ℕ → ℕ → Type 0
IsSince None time since = Unit {0}
IsSince (Some r) time since = since ≡ time

-- No process of the queue is a REQUEST SENSE, or stands outside the queue, too; and each is of an initiator of the
-- scenario, 0 to 7.
abbrev pub AreQueued : List HostDef → List RunningProcess → List LiveCommand → Type 0
AreQueued hosts guests [] = Unit {0}
AreQueued hosts guests (x ∷ live) =
    (is_request_sense (command_of x.process.cdb) ≡ false) × (x.process.initiator < 8)
    × (is_initiator hosts x.process.initiator ≡ true) × (guest_at guests x.process.id ≡ None)
    × AreQueued hosts guests live

-- The unit of this seat is this one, with these live commands, and its current process is that since this time.
pub record IsSeated (hosts : List HostDef) (live : List LiveCommand) (u : UnitState) (seat : Seat) (time : ℕ)
    (v : SeatedState) : Type 0 where
  pub kept : IsUnitAt hosts live v.contents u seat v.books
  pub queued : AreQueued hosts seat.guests live
  pub pick : v.pick ≡ u.pick
  pub reply : v.reply ≡ current_reply u.current
  pub since : IsSince u.current time v.since

abbrev pub IsAtSeat : List HostDef → Seat → ℕ → SeatedState → Type 0
IsAtSeat hosts seat time v = (live : List LiveCommand) × (u : UnitState) × IsSeated hosts live u seat time v

-- Since when the current process is that, after an event at this time.
abbrev pub seat_time : Seat → Seat → ℕ → ℕ → ℕ
seat_time before after time now =
    if is_same_running (current_of before.unit) (current_of after.unit) then time else now

-- ---- the current process by its number

abbrev pub running_id : Option RunningProcess → Option ProcId
running_id None = None
running_id (Some r) = Some r.process.id

-- What the queue keeps of it, and its command descriptor block.
abbrev pub running_entry : Option RunningProcess → Option Entry
running_entry None = None
running_entry (Some r) = Some (entry_of r.process)

abbrev pub running_block : Option RunningProcess → List ℕ
running_block None = []
running_block (Some r) = r.process.cdb

abbrev pub entry_id : Option Entry → Option ProcId
entry_id None = None
entry_id (Some entry) = Some entry.id

abbrev pub id_under : List Queued → Option ℕ → Option ProcId
id_under arrived None = None
id_under arrived (Some key) = entry_id (entry_at arrived key)

abbrev pub current_id : UnitBooks → Option ProcId
current_id b = id_under b.queue.arrived b.queue.current

abbrev pub is_same_process : Option ProcId → Option ProcId → Bool
is_same_process None b = false
is_same_process (Some a) None = false
is_same_process (Some a) (Some b) = same_id a b

-- ---- the choice, which follows each event; this process was current before it

abbrev pub reply_kept : Option ℕ → Option UnitReply → Option UnitReply
reply_kept None reply = None
reply_kept (Some key) reply = reply

abbrev pub since_after : Option ProcId → Option ProcId → ℕ → ℕ → ℕ
since_after before after since now = if is_same_process before after then since else now

abbrev pub settled : Option ProcId → ℕ → SeatedState → SeatedState
settled before now v = record v {
  books = books_after_choice v.books v.pick;
  reply = reply_kept v.books.queue.current v.reply;
  since = since_after before (current_id (books_after_choice v.books v.pick)) v.since now;
}

abbrev pub with_books : SeatedState → UnitBooks → SeatedState
with_books v b = record v { books = b }

-- ---- a command arrives

-- What the target has of a process as its command arrives.
pub record IsProcess (p : Process) (id : ProcId) (from : ℕ) (tag : Option ℕ) (class : Class) (cdb : List ℕ) : Type
    0 where
  pub id_is : p.id ≡ id
  pub from_is : p.initiator ≡ from
  pub tag_is : tag_number p.tag ≡ tag
  pub class_is : class_of p.tag ≡ class
  pub cdb_is : p.cdb ≡ cdb

-- It knows the process so.
abbrev pub IsKnownAs : Process → Served → Type 0
IsKnownAs p x = IsProcess p x.id x.from x.tag x.class x.cdb.now

-- A process of an initiator of the scenario that is neither in the queue of the seat nor outside it.
pub record IsNew (hosts : List HostDef) (seat : Seat) (p : Process) : Type 0 where
  pub host : is_initiator hosts p.initiator ≡ true
  pub not_waiting : is_waiting_at seat.unit p.id ≡ false
  pub not_current : running_if (current_of seat.unit) p.id ≡ None
  pub no_guest : guest_at seat.guests p.id ≡ None

-- How a command arrives, before the choice.
abbrev pub IsArrived : SeatedState → Entry → List ℕ → Accepted → SeatedState → Type 0
IsArrived v entry cdb accepted.AtOnce new = (is_request_sense (command_of cdb) ≡ true) × (new ≡ v)
IsArrived v entry cdb accepted.Full new =
    (is_request_sense (command_of cdb) ≡ false) × (length v.books.queue.arrived ≡ v.books.queue.depth) × (new ≡ v)
IsArrived v entry cdb (accepted.Queued key) new =
    (is_request_sense (command_of cdb) ≡ false) × (length v.books.queue.arrived < v.books.queue.depth)
    × (has_key v.books.queue.arrived key ≡ false) × (key < length v.books.blocks)
    × (new ≡ with_books v (books_with v.books key entry cdb))

-- ---- a command runs

-- How many bytes the command of this key takes as it runs.
abbrev pub taken_at : SeatedState → ℕ → ℕ
taken_at v key = bytes_taken v.books key (taken_now v.contents (block_at v.books key))

-- How many blocks it writes at most.
abbrev pub cost_at : SeatedState → ℕ → ℕ
cost_at v key = cost_by (kind_of v.contents) (block_at v.books key)

-- No fewer bytes were sent, and its blocks have memory.
abbrev pub can_run : SeatedState → ℕ → ℕ → Bool
can_run v key sent = nat_le (taken_at v key) sent && nat_le (cost_at v key) v.spare

abbrev pub is_reported_at : UnitBooks → ℕ → Bool
is_reported_at b key = is_reported (attention_at b key) (block_at b key)

-- The command of this key ran, with these bytes.
pub record IsRun (v : SeatedState) (key : ℕ) (sent : List ℕ) (new : SeatedState) : Type 0 where
  pub books : new.books ≡ books_if_reported v.books (is_reported_at v.books key) (initiator_at v.books key)
  pub contents : new.contents ≡ (if is_reported_at v.books key then v.contents
      else (held_execution v.contents (block_at v.books key) sent).contents)
  pub pick : new.pick ≡ v.pick
  pub reply : new.reply ≡ Some (told_of (unit_reply v.books key (held_reply v.contents (block_at v.books key))))
  pub since : new.since ≡ v.since
  pub spare : v.spare ≤ new.spare + cost_at v key

-- The command of this key, if there is one, ran and gave this reply, or could not run and left all as it was.
abbrev pub IsRunLive : SeatedState → List ℕ → Option ℕ → Option UnitReply → SeatedState → Type 0
IsRunLive v sent None reply new = (reply ≡ None) × (new ≡ v)
IsRunLive v sent (Some key) None new = (can_run v key (length sent) ≡ false) × (new ≡ v)
IsRunLive v sent (Some key) (Some reply) new =
    (can_run v key (length sent) ≡ true) × IsRun v key (take (taken_at v key) sent) new × (Some reply ≡ new.reply)

-- Where the command is carried out, these are the bytes of the process.
abbrev pub HasSent : Seat → Process → List ℕ → Type 0
HasSent seat p sent = (execution (context_of seat p.initiator) p.cdb p.sent).reply.status ≡ GOOD → sent ≡ p.sent

-- ---- a command fails

abbrev pub state_after_failure : SeatedState → ProcId → ℕ → SeatedState
state_after_failure v id code = record v {
  reply =
      if is_same_process (current_id v.books) (Some id) then Some (told_of (aborted_reply code)) else v.reply;
}

-- ---- a command leaves

abbrev pub state_ended : SeatedState → ℕ → Option UnitReply → SeatedState
state_ended v key None = v
state_ended v key (Some reply) = with_books v (books_after_end v.books key (initiator_at v.books key) reply.sense)

abbrev pub state_after_end : SeatedState → Option ℕ → SeatedState
state_after_end v None = v
state_after_end v (Some key) = state_ended v key v.reply

abbrev pub state_after_loss : SeatedState → Option ℕ → SeatedState
state_after_loss v None = v
state_after_loss v (Some key) = with_books v (books_without v.books key)

-- ---- a process outside the queue ends

abbrev pub books_by_guest : UnitBooks → ℕ → Bool → ℕ → Option Sense → UnitBooks
books_by_guest b dev senses status (Some sense) = books_with_sense b dev sense
books_by_guest b dev senses status None = if status == GOOD && senses then books_without_sense b dev else b

-- `senses` says whether it is a REQUEST SENSE, where it ends GOOD.
abbrev pub IsSensing : Reply → Process → Bool → Type 0
IsSensing reply p senses = (reply.status == GOOD) ≡ true → is_request_sense (command_of p.cdb) ≡ senses

abbrev pub books_after_guest : UnitBooks → ℕ → UnitReply → Bool → UnitBooks
books_after_guest b dev reply senses = books_by_guest b dev senses reply.status reply.sense

-- ---- aborts

-- The state before and after an abort of this initiator, before the choice.
pub record IsCut (kind : AbortKind) (by : ℕ) (v new : SeatedState) : Type 0 where
  pub books : IsAborted kind by v.books new.books
  pub others : new ≡ with_books v new.books

-- ---- what it tells

-- What a command of an initiator meets.
abbrev pub seated_context : SeatedState → ℕ → CommandContext
seated_context v from = record {
  present = true;
  contents = v.contents;
  stored = slice_index_or v.books.senses from None;
  attention = slice_index_or v.books.attentions from None;
}

-- How many bytes a command takes that meets this unit: those of the blocks that it writes, and none where it reports an
-- attention in their place.
abbrev pub taken_in : CommandContext → List ℕ → ℕ
taken_in m cdb = if is_reported m.attention cdb then 0 else taken_now m.contents cdb

abbrev pub entry_under : List Queued → Option ℕ → Option Entry
entry_under arrived None = None
entry_under arrived (Some key) = entry_at arrived key

abbrev pub current_entry : UnitBooks → Option Entry
current_entry b = entry_under b.queue.arrived b.queue.current

abbrev pub block_under : UnitBooks → Option ℕ → List ℕ
block_under b None = []
block_under b (Some key) = block_at b key

abbrev pub entry_from : Option Entry → Option ℕ
entry_from None = None
entry_from (Some entry) = Some entry.from

abbrev pub ready_by_entry : ℕ → ℕ → Bool → Option Entry → Option Ready
ready_by_entry unit time held None = None
ready_by_entry unit time held (Some entry) =
    if held then None else Some (record { time = time; initiator = entry.from; unit = unit })

abbrev pub room_by : UnitBooks → Room
room_by b = record {
  full = not (nat_lt (length b.queue.arrived) b.queue.depth);
  idle = length b.queue.arrived == 0 && not (is_held b.queue.hold);
}

-- Of a unit, by whether an initiator stands in its hold.
abbrev pub room_at : Bool → UnitState → Room
room_at held u = record {
  full = not (nat_lt (process_count u) u.depth);
  idle = has_no_current u.current && not held && length u.waiting == 0;
}
