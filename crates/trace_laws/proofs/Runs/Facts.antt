-- Of a prompt trace: the data pointers of all processes of one kind after each row, as of those that write, and what
-- this asks of the next row.
use Rattle.trace_laws.proofs
use proofs.Names.{ℕ, ◌≡◌, ◌⊎◌, inl, inr, ◌+◌, ◌*◌, ◌<◌, ◌^◌, Bool, true, false, not, ◌&&◌, ◌∙◌, List, [], ◌∷◌, Option}
use proofs.Names.{Some, None, Result, Ok, Err, refl, sym, ap, subst, arith, true≢false, ◌≢◌, ◌==◌, nat_tests, same_Some}
use proofs.Names.{if◌then◌else◌, is_some, nat_lt, eq_self, wrong', none_number, ProcId, bus_off, drives-other}
use proofs.Names.{change_of, rises, LineSet, changes_phase, is_data, call, connection, connection_after, receiver_of}
use proofs.Names.{bus, drives, driven_after, Row, Change, Connection, Handshakes, handshakes, command_of, CdbFault}
use proofs.Names.{Command, is_write, ScenarioValue, Obeys, Policy, array_after, reply_in, is_request_sense, range_in}
use proofs.Names.{range_named, Process, process_of, Array, UnitState, unit_state_at, row_reading, process, has_item}
use proofs.Names.{Link, Story, policy_of, is_never, arrival_by, run_at, run_length, runs_in_all, runs_in, begun}
use proofs.Names.{phase_of, Arrival, Phase, Room, Task, run_state_plain, target_def_of, progress_in, IsPrompt}
use proofs.Names.{AreOfDevices, RunState, bus_of, array_of, process_served, carried_here, run_state, arrival_at}
use proofs.Names.{leaving, blocks_in, is_writing, task_of, task_if, task_with, reply_now, arrival_of, arrival_if}
use proofs.Names.{room_of, size_of, policy_for, IsRowIn, change_plain, off_at, none_some, some_none, data_in_lines}
use proofs.Names.{is_data_phase, zero_times, by_option, connection_row, stage_of_connection, RowFacts, stays, ends_here}
use proofs.Names.{Stood, NextStood, link_phase, is_directed, writes_of, writes_there, policy_by, run_policy, run_start}
use proofs.Names.{run_step, PointersIf, PointersOf, ServedPointers, unnamed, named, IsServedAnew, OfferFacts}
use proofs.{Names.{refuses_later, rst_over, MoreRuns, TurnsBy, IsWriter, RunsBy, RunFacts}, Runs.Fits.{FitsRuns}}
use proofs.Runs.{Fits.{fits_runs, named_by}, Parts.{RunsFit, start_is, more_cut, more_runs}, Rows.{runs_first}}
use proofs.Runs.Rows.{runs_row, served_id}
use Rattle.story_laws.specs.book_laws.proofs.Reactions.{out_lines}

-- ---- before any row

pub runs_start : (s : ScenarioValue) → RunFacts s []
runs_start s = runs_first IsWriter s

-- ---- a command arrives

-- It runs at once only where its target never disconnects.
at_once_never : (policy : Policy) (senses : Bool) (room : Option Room) → arrival_by policy senses room ≡ Arrival.AtOnce
    → is_never policy ≡ true
at_once_never policy senses None e = let bad : Arrival.Guest ≡ Arrival.AtOnce = e in absurd cc
at_once_never policy true (Some r) e = let bad : Arrival.Guest ≡ Arrival.AtOnce = e in absurd cc
at_once_never policy false (Some r) e = go r.full (is_never policy) r.idle e
  where
    go : (f q i : Bool)
        → (let a : Arrival = if f then Arrival.Refused else if q && i then Arrival.AtOnce else Arrival.Queued in a)
        ≡ Arrival.AtOnce → q ≡ true
    go true q i z = absurd cc
    go false true i z = refl
    go false false i z = absurd cc

-- One that goes on outside the queue is a REQUEST SENSE, or its unit is not there.
guest_none : (policy : Policy) (senses : Bool) (room : Option Room) → arrival_by policy senses room ≡ Arrival.Guest
    → (senses ≡ true) ⊎ (room ≡ None)
guest_none policy senses None e = inr refl
guest_none policy true (Some r) e = inl refl
guest_none policy false (Some r) e = go r.full (is_never policy && r.idle) e
  where
    go : (f q : Bool)
        → (let a : Arrival = if f then Arrival.Refused else if q then Arrival.AtOnce else Arrival.Queued in a)
        ≡ Arrival.Guest → (false ≡ true) ⊎ (Some r ≡ None)
    go true q z = absurd cc
    go false true z = absurd cc
    go false false z = absurd cc

pub write_no_sense : (r : Result Command CdbFault) → is_write r ≡ true → is_request_sense r ≡ false
write_no_sense (Err fault) e = absurd (true≢false (sym e))
write_no_sense (Ok Command.TestUnitReady) e = absurd (true≢false (sym e))
write_no_sense (Ok (Command.RequestSense room)) e = absurd (true≢false (sym e))
write_no_sense (Ok (Command.Read6 lba count)) e = absurd (true≢false (sym e))
write_no_sense (Ok (Command.Write6 lba count)) e = refl
write_no_sense (Ok (Command.Inquiry room)) e = absurd (true≢false (sym e))
write_no_sense (Ok Command.ReadCapacity) e = absurd (true≢false (sym e))
write_no_sense (Ok (Command.Read10 lba count)) e = absurd (true≢false (sym e))
write_no_sense (Ok (Command.Write10 lba count)) e = refl

pub no_room : (a : Array) (o : Option UnitState) → room_of a o ≡ None → size_of o ≡ 0
no_room a None e = refl
no_room a (Some u) e = some_none (record {
  full = not (nat_lt (Rattle.due_model.specs.array_model.specs.Steps.process_count u) u.depth);
  idle = Rattle.due_model.specs.Tasks.is_idle_unit a u;
}) e

pub none_in_all : (policy : Policy) (t : Task) (blocks : ℕ) → RunsFit policy t → t.blocks ≡ Some blocks → t.size ≡ 0
    → runs_in_all policy t ≡ 0
none_in_all policy t blocks f is z = go (t.moved == 0) refl
  where
    go : (b : Bool) → (t.moved == 0) ≡ b → (if b then 0 else runs_in policy t.blocks) ≡ 0
    go true e = refl
    go false e = absurd (true≢false
        (sym (ap (λ (x : ℕ). x == 0) (f.moved blocks is e ∙ ap (λ (x : ℕ). blocks * x) z ∙ zero_times blocks)) ∙ e))

-- ---- what a process does as a phase is left

-- The bytes of the run are all answered as DATA OUT is left with none struck.
abbrev pub AnswersAll : ScenarioValue → RunState → Connection → Type 0
AnswersAll s k n = (q : Process) (t : Task) → process_served s k ≡ Some q → task_of s k ≡ Some t
    → phase_of (bus_of k) ≡ Phase.DataOut → k.handshakes.answers ≡ run_length (policy_of (target_def_of s n.target)) t

-- What the target knows of a process.
abbrev pub task_here : ScenarioValue → RunState → Process → Task
task_here s k q = task_with (array_of s k) (progress_in k.progress q.id) q (carried_here k q.id)
    (reply_now (array_of s k) q) (reply_in (array_of s k).replies q.id)

never_by : (policy : Policy) (o : Option ℕ) → is_never policy ≡ true → is_never (policy_by policy o) ≡ true
never_by policy None e = refl
never_by policy (Some blocks) e = e

sense_no_blocks : (r : Result Command CdbFault) (blocks : ℕ) → is_request_sense r ≡ true
    → blocks_in (range_in r) ≡ Some blocks → ⊥
sense_no_blocks (Err fault) blocks e f = wrong' e
sense_no_blocks (Ok Command.TestUnitReady) blocks e f = wrong' e
sense_no_blocks (Ok (Command.RequestSense room)) blocks e f = none_number blocks f
sense_no_blocks (Ok (Command.Read6 lba count)) blocks e f = wrong' e
sense_no_blocks (Ok (Command.Write6 lba count)) blocks e f = wrong' e
sense_no_blocks (Ok (Command.Inquiry room)) blocks e f = wrong' e
sense_no_blocks (Ok Command.ReadCapacity) blocks e f = wrong' e
sense_no_blocks (Ok (Command.Read10 lba count)) blocks e f = wrong' e
sense_no_blocks (Ok (Command.Write10 lba count)) blocks e f = wrong' e

-- As DATA OUT is left with no byte struck its run was answered whole, as DATA IN is left it was asked for.
pub turns_by : (s : ScenarioValue) (k : RunState) (n : Connection) (q : Process)
    → FitsRuns s k q (task_here s k q) → process_served s k ≡ Some q → q.target ≡ n.target
    → (phase_of (bus_of k) ≡ Phase.DataOut → k.exchange.plan.struck ≡ false
    → k.handshakes.answers ≡ run_length (policy_of (target_def_of s n.target)) (task_here s k q))
    → (phase_of (bus_of k) ≡ Phase.DataIn
    → k.handshakes.requests ≡ run_length (policy_of (target_def_of s n.target)) (task_here s k q)) → TurnsBy s k n q
turns_by s k n q f served to sent given = record {
  served_is = served;
  target_is = to;
  task = task_here s k q;
  runs_are = refl;
  moves_by = record {
    task_is = ap (task_if s k) served;
    at_once = λ e. once (phase_of (bus_of k)) e;
    guest = λ e. guest (phase_of (bus_of k)) e;
    cut = λ e. ap (λ (x : Policy). policy_by x (task_here s k q).blocks) same ∙ more_cut policy (task_here s k q) e;
    sent = λ z struck e. more k.handshakes.answers (sent z struck) e;
    given = λ z e. more k.handshakes.requests (given z) e;
  };
}
  where
    policy : Policy
    policy = policy_of (target_def_of s n.target)

    same : policy_for s q ≡ policy
    same = ap (λ (x : ℕ). policy_of (target_def_of s x)) to

    fit : RunsFit policy (task_here s k q)
    fit = subst (λ (x : Policy). RunsFit x (task_here s k q)) same f.fit

    arrives : arrival_of s k policy ≡ arrival_by policy (is_request_sense (command_of q.cdb))
        (room_of (array_of s k) (unit_state_at (array_of s k).units q.target q.unit))
    arrives = ap (arrival_if policy (array_of s k)) served

    never : is_never policy ≡ true → is_never (run_policy s q) ≡ true
    never e = never_by (policy_for s q) (blocks_in (range_named q)) (ap is_never same ∙ e)

    once : (x : Phase) → arrival_at s k n.target x ≡ Arrival.AtOnce → is_never (run_policy s q) ≡ true
    once Phase.Command e = never (at_once_never policy (is_request_sense (command_of q.cdb))
        (room_of (array_of s k) (unit_state_at (array_of s k).units q.target q.unit)) (sym arrives ∙ e))
    once _ e = let bad : Arrival.Queued ≡ Arrival.AtOnce = e in absurd cc

    outside : arrival_of s k policy ≡ Arrival.Guest
        → (is_never (run_policy s q) ≡ true) ⊎ (runs_in_all policy (task_here s k q) ≡ 0)
    outside e = by_option (blocks_in (range_named q))
        (λ is. inl (ap (λ (x : Option ℕ). is_never (policy_by (policy_for s q) x)) is))
        (λ blocks is. inr (by blocks is (guest_none policy (is_request_sense (command_of q.cdb))
        (room_of (array_of s k) (unit_state_at (array_of s k).units q.target q.unit)) (sym arrives ∙ e))))
      where
        by : (blocks : ℕ) → blocks_in (range_named q) ≡ Some blocks → (is_request_sense (command_of q.cdb) ≡ true)
            ⊎ (room_of (array_of s k) (unit_state_at (array_of s k).units q.target q.unit) ≡ None)
            → runs_in_all policy (task_here s k q) ≡ 0
        by blocks is (inl z) = absurd (sense_no_blocks (command_of q.cdb) blocks z (named_by q blocks is))
        by blocks is (inr z) = none_in_all policy (task_here s k q) blocks fit is
            (no_room (array_of s k) (unit_state_at (array_of s k).units q.target q.unit) z)

    guest : (x : Phase) → arrival_at s k n.target x ≡ Arrival.Guest
        → (is_never (run_policy s q) ≡ true) ⊎ (runs_in_all policy (task_here s k q) ≡ 0)
    guest Phase.Command e = outside e
    guest _ e = let bad : Arrival.Queued ≡ Arrival.Guest = e in absurd cc

    more : (count : ℕ) → count ≡ run_length policy (task_here s k q)
        → nat_lt ((task_here s k q).runs + 1) (runs_in_all policy (task_here s k q)) ≡ true
        → MoreRuns policy (task_here s k q).runs (run_step s q) count
    more count all e = subst (λ (x : ℕ). MoreRuns policy (task_here s k q).runs (run_step s q) x) (sym all)
        (subst (λ (x : ℕ). MoreRuns policy (task_here s k q).runs x (run_length policy (task_here s k q)))
        (ap (λ (x : Policy). Rattle.story_laws.specs.row_laws.specs.DataPointers.step_in x (task_here s k q).blocks
        (task_here s k q).size) (sym same) ∙ f.step) (more_runs policy (task_here s k q) fit e))

-- ---- the next row

-- What is asked of it beside, of the processes of one kind: that the process of a connection that begins is neither
-- over nor has shown a reply; that RST ends the process that is served; what the target knows of it as a phase is left;
-- and that in DATA OUT few bytes were answered, in DATA IN few were asked for.
pub record KindPremises (kind : Process → Type 0) (s : ScenarioValue) (p : List Row) (row : Row) : Type 0 where
  pub anew : (n : Connection) → connection p ≡ None → connection (row ∷ p) ≡ Some n → IsServedAnew s (run_state s p) n
  pub stops : (q : Process) → process_of s q.id ≡ Some q → kind q
      → (run_state s p).served ≡ Some (process q.id) → (bus p).rst ≡ false → (bus (row ∷ p)).rst ≡ true
      → has_item (run_state s (row ∷ p)).story.sent.over (process q.id) ≡ true
  pub turns : (n : Connection) (q : Process) → connection p ≡ Some n → (bus p).rst ≡ false → (bus (row ∷ p)).rst ≡ false
      → connection (row ∷ p) ≡ Some n → begun p ≡ true → changes_phase (change_of p row) ≡ true
      → process_served s (run_state s p) ≡ Some q → kind q → q.target ≡ n.target → TurnsBy s (run_state s p) n q
  pub few : (n : Connection) (q : Process) → connection p ≡ Some n → (bus p).rst ≡ false
      → process_served s (run_state s p) ≡ Some q → kind q → begun p ≡ true → phase_of (bus p) ≡ Phase.DataOut
      → (handshakes p).answers + 1 < 2 ^ 64
  pub few_asked : (n : Connection) (q : Process) → connection p ≡ Some n → (bus p).rst ≡ false
      → process_served s (run_state s p) ≡ Some q → kind q → begun p ≡ true → phase_of (bus p) ≡ Phase.DataIn
      → (handshakes p).requests + 1 < 2 ^ 64

-- Of those that write: that the process that is served was sent; that the bytes of a run are all answered as DATA OUT
-- is left; and that in it they are few.
pub record RunPremises (s : ScenarioValue) (p : List Row) (row : Row) : Type 0 where
  pub anew : (n : Connection) → connection p ≡ None → connection (row ∷ p) ≡ Some n → IsServedAnew s (run_state s p) n
  pub sent : (id : ProcId) → (run_state s p).served ≡ Some (process id)
      → has_item (run_state s p).story.sent.sent (process id) ≡ true
  pub answers : (n : Connection) → connection p ≡ Some n → (bus p).rst ≡ false → (bus (row ∷ p)).rst ≡ false
      → connection (row ∷ p) ≡ Some n → begun p ≡ true → changes_phase (change_of p row) ≡ true
      → AnswersAll s (run_state s p) n
  pub few : (n : Connection) → connection p ≡ Some n → (bus p).rst ≡ false → begun p ≡ true
      → phase_of (bus p) ≡ Phase.DataOut → (handshakes p).answers + 1 < 2 ^ 64

pub raised_rst : (p : List Row) (row : Row) → row.dev < 8 → (bus p).rst ≡ false → (bus (row ∷ p)).rst ≡ true
    → rises (change_of p row).own.rst (change_of p row).next.rst ≡ true
raised_rst p row lt off on = go (drives (row ∷ p) row.dev).rst refl
  where
    next : drives (row ∷ p) row.dev ≡ (change_of p row).next
    next = λ i. if eq_self row.dev i then driven_after row.kind (drives p row.dev) else drives p row.dev

    go : (q : Bool) → (drives (row ∷ p) row.dev).rst ≡ q
        → rises (change_of p row).own.rst (change_of p row).next.rst ≡ true
    go true e = λ i. rises ((off_at p off row.dev lt) i) ((ap (λ (l : LineSet). l.rst) (sym next) ∙ e) i)
    go false e = absurd (true≢false
        (sym on ∙ bus_off (λ y. y.rst) (λ _ _. refl) refl (row ∷ p) (λ d below. each d below (d == row.dev) refl)))
      where
        each : (d : ℕ) → d < 8 → (q : Bool) → (d == row.dev) ≡ q → (drives (row ∷ p) d).rst ≡ false
        each d below true f = ap (λ (x : ℕ). (drives (row ∷ p) x).rst) (same d row.dev f) ∙ e
          where
            same : (a b : ℕ) → (a == b) ≡ true → a ≡ b
            same a b z = grind (arith, nat_tests)
        each d below false f =
            ap (λ (l : LineSet). l.rst) (drives-other row p d (other d row.dev f)) ∙ off_at p off d below
          where
            other : (a b : ℕ) → (a == b) ≡ false → a ≢ b
            other a b z e = let w : (a == b) ≡ true = grind (arith, nat_tests) in absurd (true≢false (sym w ∙ z))

-- The kind of a row of a connection by the lines, of which the same is known as of what is kept.
pub record LinesOf (s : ScenarioValue) (p : List Row) (row : Row) (n : Connection) (c : Change) : Type 0 where
  pub con : connection p ≡ Some n
  pub calm : (bus p).rst ≡ false
  pub off : (bus (row ∷ p)).rst ≡ false
  pub change : change_of p row ≡ c
  pub after : connection (row ∷ p) ≡ Some n

pub lines_of : (s : ScenarioValue) (p : List Row) (row : Row) (n : Connection) (c : Change) → AreOfDevices p
    → row.dev < 8 → (bus_of (run_state s p)).rst ≡ false → IsRowIn (run_state s p) row n c → LinesOf s p row n c
lines_of s p row n c dv lt calm r =
    let pl = run_state_plain s p dv in
    let change : change_of p row ≡ c = sym (change_plain s row p dv lt) ∙ r.change_is in
    let con : connection p ≡ Some n = sym pl.connection ∙ r.connection_is in
    record {
      con = con;
      calm = ap (λ (l : LineSet). l.rst) (sym pl.bus) ∙ calm;
      off = ap (λ (x : Change). x.after.rst) change ∙ r.calm;
      change = change;
      after = (λ i. connection_after (con i) (call p) (change i) row)
          ∙ ap (λ (b : Bool). if b then Some n else None) r.stands;
    }

pub kind_next : (kind : Process → Type 0) (s : ScenarioValue) (p : List Row) (row : Row) → Obeys s
    → IsPrompt s (row ∷ p) → Stood s p → NextStood s p row → OfferFacts s p → KindPremises kind s p row
    → RunsBy kind s (run_state s p) → RunsBy kind s (run_state s (row ∷ p))
kind_next kind s p row o prompt was nx offers asked facts =
    runs_row kind s k row (record {
      was = facts;
      row_is = nx.row_is;
      speaks = was.books.speaks;
      gives = was.books.gives;
      knows = was.books.knows;
      anew = λ n con next. asked.anew n (sym was.plain.connection ∙ con)
          ((λ i. connection_after (sym was.plain.connection i) (sym was.plain.call i) (sym c i) row) ∙ next);
      stops = λ q own w served on calm. asked.stops q own w served
          (ap (λ (l : LineSet). l.rst) (sym was.plain.bus) ∙ calm) (ap (λ (x : Change). x.after.rst) (sym c) ∙ on);
      refuses = λ n con calm b e cause.
          let phase = link_phase s p n (stage_of_connection s p n was (sym was.plain.connection ∙ con)
          (ap (λ (l : LineSet). l.rst) (sym was.plain.bus) ∙ calm)) in
          let lines = out_lines (bus_of k) e in
          refuses_later s p n offers (sym was.plain.connection ∙ con) (ap (λ (l : LineSet). l.rst) (sym was.plain.bus)
          ∙ calm) b (λ i. lines.0 i && ((ap (λ (l : LineSet). l.cd) was.plain.bus
          ∙ (phase (ap (λ (l : LineSet). l.msg) (sym was.plain.bus) ∙ lines.0)).0)) i && not (lines.1 i)) cause;
      short = λ n q con calm served w b phase.
          let few = asked.few n q (sym was.plain.connection ∙ con)
          (ap (λ (l : LineSet). l.rst) (sym was.plain.bus) ∙ calm) served w
          (sym was.plain.begun ∙ b) (ap phase_of (sym was.plain.bus) ∙ phase) in
          let is : k.handshakes.answers ≡ (handshakes p).answers = ap
          (λ (h : Handshakes). h.answers) was.plain.handshakes in
          omega (arith, few, is);
      short_asked = λ n q con calm served w b phase.
          let few = asked.few_asked n q (sym was.plain.connection ∙ con)
          (ap (λ (l : LineSet). l.rst) (sym was.plain.bus) ∙ calm) served w
          (sym was.plain.begun ∙ b) (ap phase_of (sym was.plain.bus) ∙ phase) in
          let is : k.handshakes.requests ≡ (handshakes p).requests = ap
          (λ (h : Handshakes). h.requests) was.plain.handshakes in
          omega (arith, few, is);
      known = λ x n r calm z. known x n r calm z;
      whereto = λ x n r calm ep b. whereto x n r calm ep b;
      turns = λ x n q r calm ep served w b. turns x n q r calm ep served w b;
    })
  where
    k : RunState
    k = run_state s p

    dv : AreOfDevices p
    dv = was.standing.devices

    lt : row.dev < 8
    lt = (nx.stood.standing.devices).0

    c : (row_reading k.story.bus_state row).change ≡ change_of p row
    c = change_plain s row p dv lt

    known : (x : Change) (n : Connection) → IsRowIn k row n x → (bus_of k).rst ≡ false → x.after.msg ≡ true
        → x.after.cd ≡ true
    known x n r calm z =
        let l = lines_of s p row n x dv lt calm r in
        let here : (bus (row ∷ p)).msg ≡ true = ap (λ (y : Change). y.after.msg) l.change ∙ z in
        ap (λ (y : Change). y.after.cd) (sym l.change)
        ∙ (link_phase s (row ∷ p) n (stage_of_connection s (row ∷ p) n nx.stood l.after l.off) here).0

    whereto : (x : Change) (n : Connection) → IsRowIn k row n x → (bus_of k).rst ≡ false → changes_phase x ≡ true
        → k.exchange.begun ≡ true → (leaving s k n.target).to ≡ Some (phase_of x.after)
    whereto x n r calm ep b = by (connection_row s p row n o prompt was l.con l.calm l.off).facts
      where
        l : LinesOf s p row n x
        l = lines_of s p row n x dv lt calm r

        by : RowFacts s p row n → (leaving s k n.target).to ≡ Some (phase_of x.after)
        by (stays g) =
            let same : g.change ≡ x = sym g.row_is.change_is ∙ r.change_is in
            g.whereto (ap changes_phase same ∙ ep) (sym was.plain.begun ∙ b)
            ∙ ap (λ (y : Change). Some (phase_of y.after)) same
        by (ends_here g) = none_some n (sym g.stopped ∙ l.after)

    turns : (x : Change) (n : Connection) (q : Process) → IsRowIn k row n x → (bus_of k).rst ≡ false
        → changes_phase x ≡ true → process_served s k ≡ Some q → kind q → k.exchange.begun ≡ true → TurnsBy s k n q
    turns x n q r calm ep served w b =
        let l = lines_of s p row n x dv lt calm r in
        asked.turns n q l.con l.calm l.off l.after (sym was.plain.begun ∙ b) (ap changes_phase l.change ∙ ep) served w
        (facts.served n q r.connection_is calm served w).target_is

-- A process that writes has no DATA IN.
pub writes_none_in : {A : Type 0} (s : ScenarioValue) (p : List Row) (n : Connection) (q : Process)
    → Stood s p → connection p ≡ Some n → (bus p).rst ≡ false → (run_state s p).exchange.begun ≡ true
    → process_served s (run_state s p) ≡ Some q → is_writing q ≡ true → phase_of (bus_of (run_state s p)) ≡ Phase.DataIn
    → A
writes_none_in s p n q was con calm b served w phase =
    let k = run_state s p in
    let lines = data_in_lines (bus_of k) phase in
    let on : is_data (bus_of k) ≡ true = λ i. not (lines.0 i) && not (lines.1 i) in
    wrong' (sym (λ i. not (w i)) ∙ sym (λ i. is_directed (lines.2 i) (writes_of (served i)))
    ∙ (was.planned n con calm).serves b on)

pub runs_next : (s : ScenarioValue) (p : List Row) (row : Row) → Obeys s → IsPrompt s (row ∷ p) → Stood s p
    → NextStood s p row → OfferFacts s p → RunPremises s p row → RunFacts s p → RunFacts s (row ∷ p)
runs_next s p row o prompt was nx offers asked facts =
    kind_next IsWriter s p row o prompt was nx offers (record {
      anew = asked.anew;
      stops = λ q own w served calm on. rst_over s k row q own w
          (asked.sent q.id served) (ap (λ (x : Change). x.after.rst) c ∙ on)
          (ap (λ (x : Change). rises x.own.rst x.next.rst) c ∙ raised_rst p row lt calm on);
      turns = λ n q con calm off after b ep served w to. turns_by s k n q
          (fits_runs s k q o (was.plain.array ∙ ap (λ (x : Story). array_after s x.history) (sym was.plain.story))
          (served_id s k.served q served).1 w) served to
          (λ e struck. asked.answers n con calm off after b ep q (task_here s k q) served (ap (task_if s k) served) e)
          (λ e. writes_none_in s p n q was con calm (was.plain.begun ∙ b) served w e);
      few = λ n q con calm served w b phase. asked.few n con calm b phase;
      few_asked = λ n q con calm served w b phase. writes_none_in s p n q was con calm (was.plain.begun ∙ b) served w
          (ap phase_of was.plain.bus ∙ phase);
    }) facts
  where
    k : RunState
    k = run_state s p

    lt : row.dev < 8
    lt = (nx.stood.standing.devices).0

    c : (row_reading k.story.bus_state row).change ≡ change_of p row
    c = change_plain s row p was.standing.devices lt

-- ---- what is asked of a row of a connection

-- In a data phase the data pointer of the process that is served stands so many bytes after the beginning of its run.
pub active_is : (s : ScenarioValue) (k : RunState) (q : Process) (t : Task) (count : ℕ)
    → FitsRuns s k q (task_here s k q) → process_served s k ≡ Some q → task_of s k ≡ Some t
    → {phase : Phase} → phase_of (bus_of k) ≡ phase → is_data_phase phase ≡ true → k.exchange.begun ≡ true → ((l : Link)
    → PointersOf (run_policy s q) l (carried_here k q.id) k.exchange.plan k.handshakes (run_start s k q) phase
    → (carried_here k q.id).moved.active ≡ run_start s k q + count) → ServedPointers s k q
    → (carried_here k q.id).moved.active ≡ (run_at (policy_of (target_def_of s q.target)) t t.runs).start + count
active_is s k q t count f served task {phase} is on b there h = go h
  where
    start : run_start s k q
        ≡ (run_at (policy_of (target_def_of s q.target)) (task_here s k q) (task_here s k q).runs).start
    start = ap (λ (x : ℕ). (task_here s k q).runs * x) (sym f.step)
        ∙ sym (start_is (policy_for s q) (task_here s k q).blocks (task_here s k q).size (task_here s k q).moved
        (task_here s k q).runs)

    same : task_here s k q ≡ t
    same = same_Some (task_here s k q) t (sym (ap (task_if s k) served) ∙ task)

    go : ServedPointers s k q
        → (carried_here k q.id).moved.active ≡ (run_at (policy_of (target_def_of s q.target)) t t.runs).start + count
    go (unnamed l el none h) = by h.phase
      where
        by : (phase_of (bus_of k) ≡ Phase.MessageIn)
            ⊎ ((phase_of (bus_of k) ≡ Phase.MessageOut) × (k.exchange.plan.cause
            ≡ Rattle.due_model.specs.dialogue_model.specs.declared.exchange.Cause.TheVariants.InMessage))
            → (carried_here k q.id).moved.active
            ≡ (run_at (policy_of (target_def_of s q.target)) t t.runs).start + count
        by (inl z) = wrong' (sym (ap is_data_phase (sym is ∙ z)) ∙ on)
        by (inr z) = wrong' (sym (ap is_data_phase (sym is ∙ z.0)) ∙ on)
    go (named l el own h) = there l (subst (λ (y : Phase). PointersIf true (run_policy s q) l (carried_here k q.id)
        k.exchange.plan k.handshakes (run_start s k q) y) is (subst (λ (y : Bool). PointersIf y (run_policy s q) l
        (carried_here k q.id) k.exchange.plan k.handshakes (run_start s k q) (phase_of (bus_of k))) b h))
        ∙ ap (λ (y : ℕ). y + count)
        (start ∙ ap (λ (y : Task). (run_at (policy_of (target_def_of s q.target)) y y.runs).start) same)

-- In DATA OUT the data pointer of the process that is served stands as many bytes after the beginning of its run as
-- were answered.
pub run_active : (s : ScenarioValue) (p : List Row) (n : Connection) → Obeys s → Stood s p → RunFacts s p
    → connection p ≡ Some n → (bus p).rst ≡ false → begun p ≡ true → (q : Process) (t : Task)
    → process_served s (run_state s p) ≡ Some q → task_of s (run_state s p) ≡ Some t
    → phase_of (bus_of (run_state s p)) ≡ Phase.DataOut → (carried_here (run_state s p) q.id).moved.active
    ≡ (run_at (policy_of (target_def_of s q.target)) t t.runs).start + (run_state s p).handshakes.answers
run_active s p n o was facts con calm b q t served task phase = active_is s k q t (run_state s p).handshakes.answers
    (fits_runs s k q o (was.plain.array ∙ ap (λ (x : Story). array_after s x.history) (sym was.plain.story))
    (served_id s k.served q served).1 w) served task phase refl (was.plain.begun ∙ b) (λ l x. x.active)
    (facts.served n q (was.plain.connection ∙ con) (ap (λ (l : LineSet). l.rst) was.plain.bus ∙ calm) served w).pointers
  where
    k : RunState
    k = run_state s p

    w : is_writing q ≡ true
    w = writes_there s k q (was.planned n con calm) (was.plain.begun ∙ b) served phase

-- A byte crosses in a phase that has begun.
pub crossing_begun : (s : ScenarioValue) (p : List Row) (row : Row) (n : Connection) → Obeys s → IsPrompt s (row ∷ p)
    → Stood s p → connection p ≡ Some n → (bus p).rst ≡ false → (bus (row ∷ p)).rst ≡ false → row.dev < 8
    → (row_reading (run_state s p).story.bus_state row).crosses ≡ true → begun p ≡ true
crossing_begun s p row n o prompt was con calm off lt crosses =
    by (connection_row s p row n o prompt was con calm off).facts
  where
    by : RowFacts s p row n → begun p ≡ true
    by (stays g) =
        g.begun_is (sym (λ i. is_some (receiver_of (g.row_is.connection_is i) (g.row_is.change_is i))) ∙ crosses)
    by (ends_here g) = absurd (true≢false (sym crosses
        ∙ (λ i. is_some (receiver_of ((was.plain.connection ∙ con) i) (change_plain s row p was.standing.devices lt i)))
        ∙ g.carries))
