-- A process that writes, and of which all that it sends has come as it runs, has carried it all (6.1.5.1, 6.6.20).
use Rattle.right_laws.proofs
use proofs.Names.{ℕ, ◌+◌, ◌*◌, ◌≡◌, ◌≤◌, arith, Bool, true, false, ◌&&◌, ◌==◌, ◌∙◌, List, [], length, Some, refl, sym}
use proofs.Names.{ap, subst, true≢false, eqb-true, same_Some, if◌then◌else◌, wrong, ProcId, Row, Change, Connection}
use proofs.Names.{Handshakes, GOOD, unit_of, ScenarioValue, Obeys, Policy, array_after, reply_in, Reply, range_named}
use proofs.Names.{Process, process_of, unit_state_at, row_reading, CarriedBytes, row_events_by, process, Link, has_run}
use proofs.Names.{moved_bytes, phase_of, Cause, Phase, Plan, progress_in, RunState, array_of, bus_of, carried_here}
use proofs.Names.{process_item, run_state, run_state_after, is_writing, size_of, blocks_in, block_size, is_data_out}
use proofs.Names.{is_of_size, start_of_run, own_of, process_id, policy_for, IsFilled, GoesOn, none_some, out_no_status}
use proofs.Names.{run_policy, step_in, run_start, is_marked, PointersIn, calm, restores, saved, PointersRefused}
use proofs.Names.{still_calm, restores_again, saves_again, disconnects_again, closes_again, PointersAsked, PointersOf}
use proofs.Names.{PointersIf, ServedPointers, unnamed, named, DataFacts, IsServedWell, bytes_come, fits_runs, start_is}
use proofs.{Names.{IsRunning, SendsAtRun, GivesAtRun, OnEvents, MovesAtRun}, Ran.Blocks.{front_all}}
use proofs.Ran.{Crossings.{GoesSo, here_goes, known_served}, Facts.{Known, apart_of}, Shown.{IsAnswer, ShownAs}}
use proofs.Ran.Shown.{row_shown, RunsAs, runs_alone, runs_arrived, row_runs}
use Rattle.trace_laws.specs.row_laws.specs.DataPointers.{saves, disconnects, closes}

-- ---- where a run begins

run_starts : (s : ScenarioValue) (k : RunState) (q : Process) → Obeys s → k.array ≡ array_after s k.story.history
    → process_of s q.id ≡ Some q → is_writing q ≡ true → is_of_size s k q ≡ true
    → start_of_run s q (progress_in k.progress q.id).runs ≡ run_start s k q
run_starts s k q o e own w sized =
    let size = eqb-true (size_of (unit_state_at (array_of s k).units q.target q.unit))
    (block_size (unit_of s q.target q.unit)) sized in
    start_is (policy_for s q) (blocks_in (range_named q))
    (block_size (unit_of s q.target q.unit)) 0 (progress_in k.progress q.id).runs
    ∙ ap (λ (x : ℕ). (progress_in k.progress q.id).runs * step_in (policy_for s q) (blocks_in (range_named q)) x)
    (sym size) ∙ ap (λ (x : ℕ). (progress_in k.progress q.id).runs * x) (fits_runs s k q o e own w).step

-- ---- the data pointer stands within what was carried

-- So many bytes after the beginning of the run were answered, in DATA OUT.
abbrev Reaches : CarriedBytes → ℕ → ℕ → Phase → Type 0
Reaches c answers start phase = start + (if is_data_out phase then answers else 0) ≤ length c.moved.bytes

stands : (at start long : ℕ) → at ≡ start → at ≤ long → start + 0 ≤ long
stands at start long e h = omega arith

marked : {A : Type 0} (c : CarriedBytes) → is_marked c ≡ false → is_marked c ≡ true → A
marked c e f = wrong (sym f ∙ e)

reaches_asked : (policy : Policy) (l : Link) (c : CarriedBytes) (a : Plan) (start : ℕ) (content : List ℕ)
    → IsFilled c.moved content → is_marked c ≡ false → (cause : Cause) → PointersAsked policy l c a start cause
    → start + 0 ≤ length c.moved.bytes
reaches_asked policy l c a start content f m Cause.Selected h =
    stands c.moved.active start (length c.moved.bytes) h.here.active f.active_in
reaches_asked policy l c a start content f m Cause.InMessage h = go h
  where
    go : PointersRefused policy l c a.messages a.next start → start + 0 ≤ length c.moved.bytes
    go (still_calm k) = stands c.moved.active start (length c.moved.bytes) k.here.active f.active_in
    go (restores_again em en u e w) = stands c.moved.saved start (length c.moved.bytes) e f.saved_in
    go (saves_again em en u b e w) = stands c.moved.active start (length c.moved.bytes) e f.active_in
    go (disconnects_again em en e w) = stands c.moved.saved start (length c.moved.bytes) e f.saved_in
    go (closes_again em en e w) = marked c m e
reaches_asked policy l c a start content f m Cause.InData h =
    stands c.moved.saved start (length c.moved.bytes) h.1 f.saved_in
reaches_asked policy l c a start content f m Cause.InStatus h = marked c m h

reaches_of : (policy : Policy) (l : Link) (c : CarriedBytes) (a : Plan) (h : Handshakes) (start : ℕ) (content : List ℕ)
    → IsFilled c.moved content → is_marked c ≡ false → (phase : Phase) → PointersOf policy l c a h start phase
    → Reaches c h.answers start phase
reaches_of policy l c a h start content f m Phase.Command g =
    stands c.moved.active start (length c.moved.bytes) g.here.active f.active_in
reaches_of policy l c a h start content f m Phase.DataOut g = go (start + h.answers) g.active
  where
    go : (x : ℕ) → c.moved.active ≡ x → x ≤ length c.moved.bytes
    go x e = subst (λ (y : ℕ). y ≤ length c.moved.bytes) e f.active_in
reaches_of policy l c a h start content f m Phase.DataIn g =
    stands c.moved.saved start (length c.moved.bytes) g.saved f.saved_in
reaches_of policy l c a h start content f m Phase.Status g = marked c m g
reaches_of policy l c a h start content f m Phase.MessageIn g = go g
  where
    go : PointersIn policy l c a.messages a.next h.requests start → start + 0 ≤ length c.moved.bytes
    go (calm w) = stands c.moved.active start (length c.moved.bytes) w.here.active f.active_in
    go (restores em en u e w) = stands c.moved.saved start (length c.moved.bytes) e f.saved_in
    go (saves em en u z e) = stands c.moved.active start (length c.moved.bytes) e f.active_in
    go (saved em en u b z e w) = stands c.moved.active start (length c.moved.bytes) e.active f.active_in
    go (disconnects em en e w) = stands c.moved.saved start (length c.moved.bytes) e f.saved_in
    go (closes em en e w) = marked c m e
reaches_of policy l c a h start content f m Phase.MessageOut g = reaches_asked policy l c a start content f m a.cause g

-- ---- the first phase is no STATUS

no_answer : (s : ScenarioValue) (k : RunState) (row : Row) (n : Connection) (c : Change) (id : ProcId)
    → GoesOn s k row n c → k.exchange.begun ≡ false → IsAnswer k (row_reading k.story.bus_state row) id → ⊥
no_answer s k row n c id g e w =
    true≢false
    (sym w.status
    ∙ out_no_status (row_reading k.story.bus_state row).change.after (g.first w.turns e))

-- ---- all of it

-- It runs, so its initiator knows it, and it has no answer yet.
pub answer_of : (s : ScenarioValue) (k : RunState) (row : Row) (id : ProcId)
    → has_run (row_events_by s k.story (row_reading k.story.bus_state row) row) id ≡ true
    → IsAnswer k (row_reading k.story.bus_state row) id
answer_of s k row id has = go (row_runs s k row id has)
  where
    go : RunsAs id (row_events_by s k.story (row_reading k.story.bus_state row) row)
        → IsAnswer k (row_reading k.story.bus_state row) id
    go (runs_alone e) = (subst (OnEvents (ShownAs s k (row_reading k.story.bus_state row) row)) e (row_shown s k row)).0
    go (runs_arrived e) =
        (subst (OnEvents (ShownAs s k (row_reading k.story.bus_state row) row)) e (row_shown s k row)).0

sent_bytes : (s : ScenarioValue) (p : List Row) (row : Row) (q : Process) (reply : Reply) → Obeys s
    → Known s p row → DataFacts s p → IsRunning s (run_state s p) row q reply → is_writing q ≡ true
    → (length q.sent ≤ bytes_come s (run_state s p) q) × (is_of_size s (run_state s p) q ≡ true)
    → (carried_here (run_state s p) q.id).moved.bytes ≡ q.sent
sent_bytes s p row q reply o h facts is w came =
    by (here_goes s k row answer.link q.id (apart_of s p row h) h.next.row_is answer.here)
  where
    k : RunState
    k = run_state s p

    c : CarriedBytes
    c = carried_here k q.id

    answer : IsAnswer k (row_reading k.story.bus_state row) q.id
    answer = answer_of s k row q.id is.runs

    filled : IsFilled c.moved q.sent
    filled = (own_of s k q h.was.books.carry is.process_is).sent w

    starts : start_of_run s q (progress_in k.progress q.id).runs ≡ run_start s k q
    starts = run_starts s k q o (h.was.plain.array ∙ (λ i. array_after s (sym h.was.plain.story i).history))
        is.process_is w came.1

    by : GoesSo s k row → c.moved.bytes ≡ q.sent
    by v = front_all c.moved.bytes filled.rest q.sent filled.bytes_are (all (reached well.pointers))
      where
        g : GoesOn s k row v.connection v.change
        g = v.goes

        served : k.served ≡ Some (process q.id)
        served = known_served s k row v.connection v.change answer.link q.id h.was.books g answer.here.link_is
            answer.here.item_is

        well : IsServedWell s k v.connection q
        well = facts.runs.served v.connection q g.row_is.connection_is g.calm
            (ap (process_item s) served ∙ is.process_is) w

        reached : ServedPointers s k q → Reaches c k.handshakes.answers (run_start s k q) (phase_of (bus_of k))
        reached (unnamed l el none x) = none_some (process q.id) (sym none
            ∙ ap (λ (y : Link). y.item) (same_Some l answer.link (sym el ∙ answer.here.link_is)) ∙ answer.here.item_is)
        reached (named l el item x) = at k.exchange.begun refl x
          where
            at : (y : Bool) → k.exchange.begun ≡ y
                → PointersIf y (run_policy s q) l c k.exchange.plan k.handshakes (run_start s k q) (phase_of (bus_of k))
                → Reaches c k.handshakes.answers (run_start s k q) (phase_of (bus_of k))
            at true e z = reaches_of (run_policy s q) l c k.exchange.plan k.handshakes
                (run_start s k q) q.sent filled answer.unanswered (phase_of (bus_of k)) z
            at false e z = absurd (no_answer s k row v.connection v.change q.id g e answer)

        all : Reaches c k.handshakes.answers (run_start s k q) (phase_of (bus_of k))
            → length q.sent ≤ length c.moved.bytes
        all z =
            let sum : bytes_come s k q
            ≡ run_start s k q + (if is_data_out (phase_of (bus_of k)) then k.handshakes.answers else 0) = ap
            (λ (x : ℕ). x + (if is_data_out (phase_of (bus_of k)) then k.handshakes.answers else 0)) starts in
            let less : length q.sent ≤ bytes_come s k q = came.0 in
            below (length q.sent) (bytes_come s k q)
            (run_start s k q + (if is_data_out (phase_of (bus_of k)) then k.handshakes.answers else 0))
            (length c.moved.bytes) less sum z
          where
            below : (a b x y : ℕ) → a ≤ b → b ≡ x → x ≤ y → a ≤ y
            below a b x y e f d = omega arith

-- ---- so a process that runs has carried what it moves

pub moves_at_run : (s : ScenarioValue) (p : List Row) (row : Row) → Obeys s → Known s p row → DataFacts s p
    → SendsAtRun s (run_state s p) row → GivesAtRun s (run_state s p) row → MovesAtRun s (run_state s p) row
moves_at_run s p row o h facts sends gives id q reply has own given = by (is_writing q) refl (reply.status == GOOD) refl
  where
    k : RunState
    k = run_state s p

    same : q.id ≡ id
    same = process_id s id q own

    is : IsRunning s k row q reply
    is = record {
      runs =
          ap (λ (x : ProcId). has_run (row_events_by s k.story (row_reading k.story.bus_state row) row) x) same ∙ has;
      process_is = ap (process_of s) same ∙ own;
      reply_is = ap (λ (x : ProcId). reply_in (array_of s (run_state_after s k row)).replies x) same ∙ given;
    }

    moved : (bytes : List ℕ) → (carried_here k q.id).moved.bytes ≡ bytes → (carried_here k id).moved.bytes ≡ bytes
    moved bytes e = ap (λ (x : ProcId). (carried_here k x).moved.bytes) (sym same) ∙ e

    other : (is_writing q && reply.status == GOOD) ≡ false → (carried_here k id).moved.bytes ≡ moved_bytes q reply
    other e = moved (moved_bytes q reply) (gives q reply is e)

    by : (a : Bool) → is_writing q ≡ a → (b : Bool) → (reply.status == GOOD) ≡ b
        → (carried_here k id).moved.bytes ≡ moved_bytes q reply
    by true e true f = moved q.sent (sent_bytes s p row q reply o h facts is e (sends q reply is e f))
        ∙ sym (λ i. if e i then (if f i then q.sent else []) else reply.bytes)
    by true e false f = other (λ i. e i && f i)
    by false e b f = other (λ i. e i && reply.status == GOOD)
