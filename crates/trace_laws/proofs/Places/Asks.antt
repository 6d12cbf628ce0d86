-- A command that stays outside the queue has one run at most: a REQUEST SENSE or an INQUIRY, or one that ends with
-- CHECK CONDITION since its unit is not there (7.5, 8.2).
use Rattle.trace_laws.proofs
use proofs.Names.{inl, inr, ℕ, ◌≡◌, ◌⊎◌, ◌+◌, Bool, true, false, not, ◌&&◌, ◌==◌, ◌∙◌, List, length, Option, Some, None}
use proofs.Names.{refl, sym, ap, subst, arith, ◌++◌, length-append, Result, Ok, Err, eqb-true, nat_tests, ◌-◌}
use proofs.Names.{if◌then◌else◌, nat_lt, slice_index, is_some, wrong, wrong', and_second, ProcId, LineSet}
use proofs.Names.{changes_phase, is_message_in, connection, is_fault, bus, Row, Change, Connection, command_of}
use proofs.Names.{sized_of, has_group_len, are_zero, spare_room, where_zero, operation_of, CdbFault, Command, INQUIRY}
use proofs.Names.{MsgIn, ScenarioValue, Policy, none_named, reply_in, array_after, is_request_sense, is_opcode}
use proofs.Names.{needs_unit, range_in, Process, Array, unit_state_at, row_reading, is_completion, process, Link, Story}
use proofs.Names.{policy_of, runs_in, runs_in_all, one_message, bytes_of_messages, phase_of, Cause, Messages, Next}
use proofs.Names.{Phase, Task, progress_in, RunState, array_of, process_served, carried_here, bus_of, run_state}
use proofs.Names.{serving_of, blocks_in, reply_now, task_with, task_if, task_of, is_command_phase, is_in_phase, GoesOn}
use proofs.Names.{Begins, Ends, is_status, stage_of_connection, Stood, link_unbegun, IsOutside, one_run}
use proofs.Places.{Ends.{IsEndAsked}, First.{IsSelectedFor}, Leavings.{HasOneRun}, Next.{SendsNone, IsResetAsked}}
use proofs.{Places.{Rows.{PlaceAsked}, Stays.{IsStayAsked}, TurnRows.{TellsOf, IsTurnAsked}}, Runs.Fits.{absent_moves}}

-- ---- commands of no blocks

no_blocks : (c : Result Command CdbFault) → is_request_sense c ≡ true → range_in c ≡ None
no_blocks (Ok (Command.RequestSense room)) e = refl
no_blocks (Ok Command.TestUnitReady) e = wrong' e
no_blocks (Ok (Command.Read6 lba count)) e = wrong' e
no_blocks (Ok (Command.Write6 lba count)) e = wrong' e
no_blocks (Ok (Command.Inquiry room)) e = wrong' e
no_blocks (Ok Command.ReadCapacity) e = wrong' e
no_blocks (Ok (Command.Read10 lba count)) e = wrong' e
no_blocks (Ok (Command.Write10 lba count)) e = wrong' e
no_blocks (Err fault) e = wrong' e

pub inquires : (cdb : List ℕ) → is_opcode cdb INQUIRY ≡ true → range_in (command_of cdb) ≡ None
inquires cdb e =
    ap (λ (code : ℕ). range_in (if length cdb == 0 then Err CdbFault.Length else sized_of (operation_of code) cdb)) code
    ∙ go (length cdb == 0) (has_group_len cdb)
  where
    code : slice_index cdb 0 ≡ INQUIRY
    code = eqb-true (slice_index cdb 0) INQUIRY (and_second (not (length cdb == 0)) (slice_index cdb 0 == INQUIRY) e)

    zeros : (q : Bool) → range_in (if q then Ok (Command.Inquiry (slice_index cdb 4)) else Err CdbFault.Field) ≡ None
    zeros true = refl
    zeros false = refl

    go : (q r : Bool) → range_in (if q then Err CdbFault.Length
        else (if r then where_zero (spare_room cdb) (Command.Inquiry (slice_index cdb 4)) else Err CdbFault.Length))
        ≡ None
    go true r = refl
    go false true = zeros (are_zero (spare_room cdb))
    go false false = refl

-- ---- runs

-- Where nothing is moved there is none.
none_moved : (policy : Policy) (t : Task) → t.moved ≡ 0 → nat_lt (t.runs + 1) (runs_in_all policy t) ≡ false
none_moved policy t e = ap (λ (m : ℕ). nat_lt (t.runs + 1) (if m == 0 then 0 else runs_in policy t.blocks)) e ∙ none
  where
    none : nat_lt (t.runs + 1) 0 ≡ false
    none = grind (arith, nat_tests)

either_opcode : (x y : Bool) → (not x && not y) ≡ false → (x ≡ true) ⊎ (y ≡ true)
either_opcode true y e = inl refl
either_opcode false true e = inr refl
either_opcode false false e = wrong e

pub outside_runs : (s : ScenarioValue) (k : RunState) (dev : ℕ) (c : Process) → process_served s k ≡ Some c
    → IsOutside (array_of s k) c → HasOneRun true (serving_of s k dev)
outside_runs s k dev c served out =
    λ z t e. subst (λ (x : Task). nat_lt (x.runs + 1) (runs_in_all policy x) ≡ false) (task_is t e) one
  where
    a : Array
    a = array_of s k

    policy : Policy
    policy = policy_of (serving_of s k dev).def

    task : Task
    task = task_with a (progress_in k.progress c.id) c (carried_here k c.id) (reply_now a c) (reply_in a.replies c.id)

    or_task : Task → Option Task → Task
    or_task x None = x
    or_task x (Some y) = y

    task_is : (t : Task) → task_of s k ≡ Some t → task ≡ t
    task_is t e = ap (or_task task) (sym (ap (λ (o : Option Process). task_if s k o) served) ∙ e)

    by_range : range_in (command_of c.cdb) ≡ None → nat_lt (task.runs + 1) (runs_in_all policy task) ≡ false
    by_range e = one_run policy task (ap blocks_in (none_named c e))

    absent : unit_state_at a.units c.target c.unit ≡ None → (q : Bool) → needs_unit c.cdb ≡ q
        → nat_lt (task.runs + 1) (runs_in_all policy task) ≡ false
    absent e true f = none_moved policy task (absent_moves a c e f)
    absent e false f = by (either_opcode (is_opcode c.cdb INQUIRY) (is_request_sense (command_of c.cdb)) f)
      where
        by : (is_opcode c.cdb INQUIRY ≡ true) ⊎ (is_request_sense (command_of c.cdb) ≡ true)
            → nat_lt (task.runs + 1) (runs_in_all policy task) ≡ false
        by (inl z) = by_range (inquires c.cdb z)
        by (inr z) = by_range (no_blocks (command_of c.cdb) z)

    one : nat_lt (task.runs + 1) (runs_in_all policy task) ≡ false
    one = elim out [ inl e ↦ absent e (needs_unit c.cdb) refl | inr e ↦ by_range (no_blocks (command_of c.cdb) e) ]

-- ---- What is asked of a row, that the processes stand where they should after it, from what is owed of items, of what
-- the rows tell and of the last message.

-- ---- what is owed

-- As another phase begins: what the rows tell of the process that is served is what its target knows; until the
-- initiator knows it neither COMMAND is left nor STATUS begins; and a request is answered where COMMAND follows.
pub record TurnOwed (s : ScenarioValue) (k : RunState) (c : Change) (l : Link) : Type 0 where
  pub tells : k.exchange.begun ≡ true → (id : ProcId) → k.served ≡ Some (process id) → TellsOf s k id
  pub unnamed : l.item ≡ None → (is_status (phase_of c.after) ≡ false) × (is_command_phase (phase_of c.before) ≡ false)
  pub offers : phase_of (bus_of k) ≡ Phase.MessageOut → k.exchange.plan.cause ≡ Cause.InMessage
      → is_some k.exchange.plan.said.offer ≡ true → k.exchange.plan.next ≡ Next.Command

pub record PlaceOwed (s : ScenarioValue) (k : RunState) (row : Row) (a : Array) : Type 0 where
  pub selects : (n : Connection) → Begins s k row n → n.reselected ≡ false → IsSelectedFor s k n
  pub sends : (k.story.bus_state.connection ≡ None → (row_reading k.story.bus_state row).next ≡ None)
      ⊎ ((row_reading k.story.bus_state row).change.after.rst ≡ true)
      → SendsNone s k row
  pub turns : (n : Connection) (c : Change) (l : Link) → GoesOn s k row n c → changes_phase c ≡ true
      → k.story.link ≡ Some l → TurnOwed s k c l
  pub stays : (n : Connection) (c : Change) (l : Link) → GoesOn s k row n c → changes_phase c ≡ false
      → k.story.link ≡ Some l → IsStayAsked s k c l
  pub drives : (n : Connection) (c : Change) (l : Link) → GoesOn s k row n c → is_completion l c ≡ true
      → is_fault row.kind ≡ false
  pub ends : (n : Connection) (l : Link) → Ends s k row n → (row_reading k.story.bus_state row).change.after.rst ≡ false
      → k.story.link ≡ Some l → IsEndAsked k l a
  pub reset : (row_reading k.story.bus_state row).change.after.rst ≡ true → IsResetAsked k row

-- ---- what follows

-- COMMAND COMPLETE has one byte.
one_byte : (before rest bytes : List ℕ) (count : ℕ) → length bytes ≡ 1 → bytes ≡ before ++ rest → count ≡ length before
    → count - 1 ≡ 0
one_byte before rest bytes count one e f =
    let all : length bytes ≡ length (before ++ rest) = ap (λ (x : List ℕ). length x) e in
    let two : length (before ++ rest) ≡ length before + length rest = length-append before rest in
    omega arith

in_lines : (m d o : Bool) → (m ≡ true → d ≡ true)
    → is_in_phase (if m then (if o then Phase.MessageIn else Phase.MessageOut)
    else if d then (if o then Phase.Status else Phase.Command) else if o then Phase.DataIn else Phase.DataOut) ≡ true
    → (m ≡ true) × ((m && d && o) ≡ true)
in_lines true true true f e = (refl, refl)
in_lines true true false f e = wrong' e
in_lines true false o f e = wrong' (f refl)
in_lines false true true f e = wrong' e
in_lines false true false f e = wrong' e
in_lines false false true f e = wrong' e
in_lines false false false f e = wrong' e

turn_asked : (s : ScenarioValue) (p : List Row) (row : Row) (n : Connection) (c : Change) (l : Link) → Stood s p
    → GoesOn s (run_state s p) row n c → TurnOwed s (run_state s p) c l → IsTurnAsked s (run_state s p) n c l
turn_asked s p row n c l was g owed = record {
  tells = owed.tells;
  unnamed = owed.unnamed;
  unbegun = λ b. (
    ap (λ (x : LineSet). is_command_phase (phase_of x)) (sym g.row_is.bus_is ∙ was.plain.bus
        ∙ link_unbegun s p n (stage_of_connection s p n was con off) (sym was.plain.begun ∙ b)),
    ((was.books.speaks n g.row_is.connection_is g.calm).before_all b).cause_is,
  );
  offers = owed.offers;
  few = λ e m. few (in_lines (bus_of k).msg (bus_of k).cd (bus_of k).io (λ z. (g.phase z).0) (ap is_in_phase e)) m;
  one_run = λ x e out. outside_runs s k n.target x e out;
  history_is = sym (was.plain.array ∙ ap (λ (b : Story). array_after s b.history) (sym was.plain.story));
}
  where
    k : RunState
    k = run_state s p

    con : connection p ≡ Some n
    con = sym was.plain.connection ∙ g.row_is.connection_is

    off : (bus p).rst ≡ false
    off = sym (ap (λ (x : LineSet). x.rst) was.plain.bus) ∙ g.calm

    few : ((bus_of k).msg ≡ true) × (is_message_in (bus_of k) ≡ true)
        → k.exchange.plan.messages ≡ one_message MsgIn.CommandComplete → k.handshakes.requests - 1 ≡ 0
    few e m =
        let given = (was.books.gives n g.row_is.connection_is g.calm).in_message_in (g.phase e.0).1 e.1 in
        one_byte given.before given.rest (bytes_of_messages k.exchange.plan.messages) k.handshakes.requests
        (ap (λ (x : Messages). length (bytes_of_messages x)) m) given.bytes_are given.count_is

pub places_asked : (s : ScenarioValue) (p : List Row) (row : Row) (a : Array) → Stood s p
    → PlaceOwed s (run_state s p) row a → PlaceAsked s (run_state s p) row a
places_asked s p row a was owed = record {
  selects = owed.selects;
  sends = owed.sends;
  turns = λ n c l g e link. turn_asked s p row n c l was g (owed.turns n c l g e link);
  stays = owed.stays;
  drives = owed.drives;
  ends = owed.ends;
  reset = owed.reset;
}
