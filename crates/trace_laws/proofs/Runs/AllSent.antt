-- A process that runs with a row of a prompt trace, and would end GOOD, has sent all that it sends.
use Rattle.trace_laws.proofs
use proofs.Names.{ℕ, ◌≡◌, ◌⊎◌, inl, inr, ◌<◌, ◌≤◌, ◌+◌, ◌*◌, ◌/◌, Bool, true, false, not, ◌==◌, ◌∙◌, List, [], ◌∷◌}
use proofs.Names.{length, Option, Some, None, refl, sym, ap, subst, arith, lt-div-mul-add, ltb-false, same_Some, ◌-◌}
use proofs.Names.{if◌then◌else◌, is_some, nat_le, nat_lt, wrong, wrong', zero_of, change_of, LineSet, changes_phase}
use proofs.Names.{is_data, call, connection, connection_after, bus, Row, Change, Connection, GOOD, ScenarioValue, Obeys}
use proofs.Names.{Policy, array_after, reply_in, shows_run, Reply, Process, process_of, Array, RowReading, row_reading}
use proofs.Names.{Story, policy_of, runs_in, runs_in_all, is_status_next, phase_leaving, phase_of, Leaving, Next, Phase}
use proofs.Names.{Task, target_def_of, progress_in, IsPrompt, RunState, array_of, bus_of, or_start, process_served}
use proofs.Names.{run_state, events_of_row, serving_of, is_writing, reply_now, task_if, is_true_telling, none_is}
use proofs.Names.{writers, is_data_in, policy_for, change_plain, least_is, by_bool, some_count, by_option, IsGoing}
use proofs.Names.{going, NextStood, Stood, is_directed, writes_of, frees_bus, AnsweredOpen, IsTaken, PlaceFacts}
use proofs.Names.{PlacedBefore, PlacedIf, PlacedIn, AreRepliesShown, FailsAsLeft, WriteFacts, WritesAsked, left_tells}
use proofs.Names.{CommandFacts, InstructedFacts, RunFacts, IsWhole, RunsWhole, ends_badly, sends_none, sends_all}
use proofs.Names.{TellFacts, HasSentAll, MovesInRuns, RunsBlocks, in_one, in_blocks, HasRunLeft, RunsLeft, run_total}
use proofs.{Attended.Told.{tells_row}, Runs.Events.{RunsFrom, RunsInPhase, answered, moved_all, reads, run_turn}}
use proofs.Runs.{Events.{runs_from, writes, reads_send_none}, Facts.{task_here}, Fits.{FitsRuns, fits_runs}}
use proofs.{Runs.{Parts.{HasMost, RunsFit}, Rows.{served_id}, Whole.{whole_run}}, Writes.Facts.{write_row}}
use proofs.Writes.{Rows.{in_lines}, Written.{left_by}}

-- ---- blocks are moved in one run at least

pub zero_blocks : (blocks size moved : ℕ) → (moved == 0) ≡ false → moved ≡ blocks * size → 1 ≤ blocks
zero_blocks blocks size moved some e =
    by_bool (blocks == 0)
    (λ f. wrong (sym (ap (λ (x : ℕ). x == 0) (e ∙ ap (λ (x : ℕ). x * size) (zero_of blocks f) ∙ none size)) ∙ some))
    (λ f. some_count blocks f)
  where
    none : (m : ℕ) → 0 * m ≡ 0
    none m = omega arith

pub some_run : (policy : Policy) (blocks : ℕ) → HasMost policy → 1 ≤ blocks → 1 ≤ runs_in policy (Some blocks)
some_run Policy.Never blocks m h = omega arith
some_run Policy.Command blocks m h = omega arith
some_run (Policy.Burst most) blocks m h = least ((blocks + (most - 1)) / most) most blocks m h (lt-div-mul-add m)
  where
    least : (q d b : ℕ) → 1 ≤ d → 1 ≤ b → b + (d - 1) < q * d + d → 1 ≤ q
    least q d b g l e = by_bool (q == 0) (λ f. let zero : q * d ≡ 0 = ap (λ (x : ℕ). x * d) (zero_of q f) ∙ none d in
        absurd omega (arith, zero, g, l, e)) (λ f. some_count q f)
      where
        none : (i : ℕ) → 0 * i ≡ 0
        none i = omega arith
some_run (Policy.NoSave most) blocks m h =
    elim (nat_le blocks most) as (λ q. 1 ≤ (if q then 1 else 2)) [ true ↦ omega arith | false ↦ omega arith ]

pub runs_blocks : (policy : Policy) → HasMost policy → RunsBlocks policy
runs_blocks (Policy.Burst most) m = m
runs_blocks _ m = tt

pub moves_runs : (policy : Policy) (t : Task) → RunsFit policy t → (t.moved == 0) ≡ false → MovesInRuns policy t
moves_runs policy t f some = by_option t.blocks (λ e. in_one e) (λ blocks e. in_blocks
    (record { blocks = blocks; blocks_are = e; moved = f.moved blocks e some; runs = runs_blocks policy f.most }))

pub some_total : (policy : Policy) (t : Task) → RunsFit policy t → (t.moved == 0) ≡ false → 1 ≤ runs_in policy t.blocks
some_total policy t f some = by_option t.blocks (λ e. subst (λ (b : Option ℕ). 1 ≤ runs_in policy b)
    (sym e) (omega arith)) (λ blocks e. subst (λ (b : Option ℕ). 1 ≤ runs_in policy b) (sym e)
    (some_run policy blocks f.most (zero_blocks blocks t.size t.moved some (f.moved blocks e some))))

-- ---- replies

pub status_is : (o : Option Phase) → is_status_next o ≡ true → o ≡ Some Phase.Status
status_is None e = wrong' e
status_is (Some Phase.Status) e = refl
status_is (Some Phase.Command) e = wrong' e
status_is (Some Phase.MessageIn) e = wrong' e
status_is (Some Phase.MessageOut) e = wrong' e
status_is (Some Phase.DataIn) e = wrong' e
status_is (Some Phase.DataOut) e = wrong' e

-- ---- the row

record WholeRow (s : ScenarioValue) (p : List Row) (row : Row) (n : Connection) (q : Process) : Type 0 where
  obeys : Obeys s
  prompt : IsPrompt s (row ∷ p)
  was : Stood s p
  nx : NextStood s p row
  commands : CommandFacts s p
  told : InstructedFacts s p
  asked : WritesAsked s p row
  facts : WriteFacts s p
  pointers : RunFacts s p
  places : PlaceFacts s p
  left : RunsLeft s p
  telling : is_true_telling s (run_state s p) row (row_reading (run_state s p).story.bus_state row) ≡ true
  stands : connection p ≡ Some n
  calm : (bus p).rst ≡ false
  calm_after : (bus (row ∷ p)).rst ≡ false
  runs : shows_run (events_of_row s p row) ≡ true
  served : process_served s (run_state s p) ≡ Some q
  writes : is_writing q ≡ true
  good : ((reply_now (array_of s (run_state s p)) q).status == GOOD) ≡ true
  some : (length q.sent == 0) ≡ false

sent_all : (s : ScenarioValue) (p : List Row) (row : Row) (n : Connection) (q : Process) → WholeRow s p row n q
    → HasSentAll s (run_state s p) (writers s p) q
sent_all s p row n q h = by (runs_from (serving_of s k n.target) (bus_of k).atn (phase_of (bus_of k)) r.id r.turn)
  where
    k : RunState
    k = run_state s p

    d : RowReading
    d = row_reading k.story.bus_state row

    change : d.change ≡ change_of p row
    change = change_plain s row p h.was.standing.devices (least_is s p row h.prompt.1).inside

    con : k.story.bus_state.connection ≡ Some n
    con = h.was.plain.connection ∙ h.stands

    quiet : (bus_of k).rst ≡ false
    quiet = ap (λ (l : LineSet). l.rst) h.was.plain.bus ∙ h.calm

    off : d.change.after.rst ≡ false
    off = ap (λ (x : Change). x.after.rst) change ∙ h.calm_after

    r : RunsInPhase s k n d
    r = run_turn s k row d n con off h.telling h.runs

    own : process_of s q.id ≡ Some q
    own = (served_id s k.served q h.served).1

    t : Task
    t = task_here s k q

    task : r.turn.task ≡ t
    task = sym (same_Some t r.turn.task (sym (ap (task_if s k) h.served) ∙ r.turn.task_is))

    -- it has no reply
    unanswered : is_some (reply_in (array_of s k).replies q.id) ≡ false
    unanswered = ap (λ (x : Task). x.replied) (sym task) ∙ r.turn.open_is

    target : q.target ≡ n.target
    target = (h.pointers.served n q con quiet h.served h.writes).target_is

    fits : FitsRuns s k q t
    fits = fits_runs s k q h.obeys
        (h.was.plain.array ∙ ap (λ (x : Story). array_after s x.history) (sym h.was.plain.story)) own h.writes

    moved : t.moved ≡ length q.sent
    moved = (λ i. length (if h.writes i then (if h.good i then q.sent else []) else (reply_now (array_of s k) q).bytes))

    moves : (t.moved == 0) ≡ false
    moves = ap (λ (x : ℕ). x == 0) moved ∙ h.some

    -- where it stands
    placed : PlacedIn h.places.array q k.exchange.plan k.handshakes (bus_of k).atn (phase_of (bus_of k))
    placed = subst (λ (b : Bool). PlacedIf b h.places.array q k.exchange.plan k.handshakes (bus_of k).atn
        (phase_of (bus_of k))) r.begun (h.places.placed n con quiet q h.served)

    listed : {A : Type 0} → AnsweredOpen h.places.array q.id → A
    listed a = wrong'
        (sym unanswered ∙ ap (λ (x : Option Array). is_some (reply_in (or_start s x).replies q.id)) h.places.array_is
        ∙ ap (λ (x : Option Reply). is_some x) a.answered.given)

    before_status : phase_of (bus_of k) ≡ Phase.MessageIn → k.exchange.plan.next ≡ Next.Status
        → HasSentAll s k (writers s p) q
    before_status phase next =
        go (subst (PlacedIn h.places.array q k.exchange.plan k.handshakes (bus_of k).atn) phase placed)
      where
        go : PlacedBefore h.places.array q k.exchange.plan.messages k.exchange.plan.next
            ⊎ IsTaken h.places.array q k.exchange.plan k.handshakes (bus_of k).atn
            → HasSentAll s k (writers s p) q
        go (inl z) = listed (subst (PlacedBefore h.places.array q k.exchange.plan.messages) next z)
        go (inr z) = wrong' (sym (ap frees_bus next) ∙ ap frees_bus z.next_is)

    -- its runs are not all made
    policy : policy_of (target_def_of s n.target) ≡ policy_for s q
    policy = ap (λ (x : ℕ). policy_of (target_def_of s x)) (sym target)

    total : runs_in_all (policy_for s q) t ≡ run_total s q
    total = λ i. if moves i then 0 else runs_in (policy_for s q) t.blocks

    not_all : nat_lt r.turn.task.runs (runs_in_all (policy_of (target_def_of s n.target)) r.turn.task) ≡ false
        → HasSentAll s k (writers s p) q
    not_all e =
        absurd (clash (progress_in k.progress q.id).runs (run_total s q) (some_total (policy_for s q) t fits.fit moves)
        all (h.left q own h.writes (none_is (reply_in (array_of s k).replies q.id) unanswered)))
      where
        all : run_total s q ≤ (progress_in k.progress q.id).runs
        all = subst (λ (x : ℕ). x ≤ t.runs) total (ltb-false t.runs (runs_in_all (policy_for s q) t)
            (sym (λ i. nat_lt (task i).runs (runs_in_all (policy i) (task i))) ∙ e))

        clash : (made whole : ℕ) → 1 ≤ whole → whole ≤ made → HasRunLeft whole made → ⊥
        clash made whole one few (inl z) = absurd omega (arith, one, few, z)
        clash made whole one few (inr z) = absurd omega (arith, few, z)

    -- it does not read
    none_read : phase_of (bus_of k) ≡ Phase.DataIn → HasSentAll s k (writers s p) q
    none_read phase =
        let lines : (is_data (bus_of k) ≡ true) × ((bus_of k).io ≡ true) = in_lines (bus_of k) (ap is_data_in phase) in
        wrong' (sym (λ i. not (h.writes i)) ∙ sym (λ i. is_directed (lines.1 i) (writes_of (h.served i)))
        ∙ (h.was.planned n h.stands h.calm).serves r.begun lines.0)

    -- the last run is done
    done : phase_of (bus_of k) ≡ Phase.DataOut → k.exchange.plan.struck ≡ false → HasSentAll s k (writers s p) q
    done phase struck = whole_run s p row n g.change q
        (write_row s p row h.obeys h.prompt h.was h.nx h.commands h.told h.asked h.facts) g.goes
        (ap changes_phase (sym g.goes.row_is.change_is) ∙ r.left) r.begun phase struck
        (ap (λ (l : Leaving). l.to) (left_by s k n r.begun)
        ∙ status_is (phase_leaving (serving_of s k n.target) (bus_of k).atn (phase_of (bus_of k))).to r.turn.status)
        h.served target (moves_runs (policy_for s q) t fits.fit moves)
      where
        next : d.next ≡ connection (row ∷ p)
        next = λ i. connection_after (h.was.plain.connection i) (h.was.plain.call i) (change i) row

        goes : (o : Option Connection) → connection (row ∷ p) ≡ o → d.next ≡ Some n
        goes None e = wrong' (sym (ap (λ (x : Option Connection). is_some x) (next ∙ e)) ∙ r.stands)
        goes (Some x) e = next ∙ e ∙ ap (λ (y : Connection). Some y) (same_if x (bus (row ∷ p)).bsy
            (sym (λ i. connection_after (h.stands i) (call p) (change_of p row) row) ∙ e))
          where
            none_some : {A : Type 0} (y : Connection) → (let o : Option Connection = None in o) ≡ Some y → A
            none_some y z = absurd cc

            same_if : (y : Connection) (b : Bool) → (if b then Some n else None) ≡ Some y → y ≡ n
            same_if y true z = sym (same_Some n y z)
            same_if y false z = none_some y z

        g : IsGoing s k row n
        g = going s k row n con (goes (connection (row ∷ p)) refl) off h.nx.row_is

    by : RunsFrom (serving_of s k n.target) r.turn.task (phase_of (bus_of k)) → HasSentAll s k (writers s p) q
    by (answered phase next) = before_status phase next
    by (moved_all e) = not_all e
    by (reads phase) = none_read phase
    by (writes phase struck) = done phase struck

-- ---- any row

pub runs_whole : (s : ScenarioValue) (p : List Row) (row : Row) → Obeys s → IsPrompt s (row ∷ p)
    → Stood s p → NextStood s p row → CommandFacts s p → InstructedFacts s p
    → WritesAsked s p row → WriteFacts s p → RunFacts s p → PlaceFacts s p → RunsLeft s p
    → is_true_telling s (run_state s p) row (row_reading (run_state s p).story.bus_state row) ≡ true → RunsWhole s p row
runs_whole s p row o prompt was nx commands told asked facts pointers places left telling n q con calm off runs served =
    by_bool (is_writing q)
    (λ w. by w ((reply_now (array_of s k) q).status == GOOD) refl (length q.sent == 0) refl)
    (λ w. sends_none (reads_send_none s q o (served_id s k.served q served).1 w))
  where
    k : RunState
    k = run_state s p

    all : is_writing q ≡ true → ((reply_now (array_of s k) q).status == GOOD) ≡ true → (length q.sent == 0) ≡ false
        → HasSentAll s k (writers s p) q
    all w good some =
        sent_all s p row n q (record {
          obeys = o;
          prompt = prompt;
          was = was;
          nx = nx;
          commands = commands;
          told = told;
          asked = asked;
          facts = facts;
          pointers = pointers;
          places = places;
          left = left;
          telling = telling;
          stands = con;
          calm = calm;
          calm_after = off;
          runs = runs;
          served = served;
          writes = w;
          good = good;
          some = some;
        })

    by : is_writing q ≡ true → (x : Bool) → ((reply_now (array_of s k) q).status == GOOD) ≡ x
        → (y : Bool) → (length q.sent == 0) ≡ y → IsWhole s k (writers s p) q
    by w false e y f = ends_badly e
    by w true e true f = sends_none (zero_of (length q.sent) f)
    by w true e false f = sends_all (all w e f)

-- By what the rows tell.
pub whole_as_left : (s : ScenarioValue) (p : List Row) (row : Row) → Obeys s → IsPrompt s (row ∷ p) → Stood s p
    → NextStood s p row → TellFacts s p → CommandFacts s p → InstructedFacts s p → WritesAsked s p row → WriteFacts s p
    → RunFacts s p → PlaceFacts s p → RunsLeft s p → AreRepliesShown s (run_state s p) → FailsAsLeft s p row
    → RunsWhole s p row
whole_as_left s p row o prompt was nx tells commands told asked facts pointers places left shown fails =
    runs_whole s p row o prompt was nx commands told asked facts pointers places left (tells_row s p row o prompt was
    shown (ap (λ (x : Option Array). is_some x) places.array_is) (left_tells s p row o prompt was tells fails))
