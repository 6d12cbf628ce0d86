-- A process that runs, and ends GOOD, has sent what its target has gathered of it.
use Rattle.std.proofs.Common.{ℕ, ◌≡◌, ◌≤◌, ◌+◌, ◌-◌, ◌∙◌, ◌==◌, arith, Bool, true, false, List, [], ◌∷◌, refl, sym}
use Rattle.std.proofs.Common.{length, take, Some, ◌⊎◌, inl, inr}
use Rattle.std.specs.Prelude.{if◌then◌else◌, not, ◌&&◌, min, nat_le}
use Rattle.std.proofs.lemmas.Bool.{and_parts, eqb-true, leb-true}
use Rattle.std.proofs.lemmas.List.{take_all, length-take}
use Rattle.bus_base.specs.declared.ProcId.{ProcId}
use Rattle.bus_trace.specs.declared.Row.{Row}
use Rattle.bus_trace.specs.declared.connection.Connection.{Connection}
use Rattle.bus_trace.specs.Trace.{bus}
use Rattle.cdb_codec.specs.Cdb.{command_of}
use Rattle.cdb_codec.specs.declared.status.TheConstants.{GOOD}
use Rattle.scenario.specs.Needs.{is_write}
use Rattle.scenario.specs.Value.{ScenarioValue}
use Rattle.array_model.specs.Processes.{Process, process_of}
use Rattle.due_model.specs.dialogue_model.specs.NextPhase.{phase_of}
use Rattle.due_model.specs.LastingState.{progress_in}
use Rattle.due_model.specs.RunState.{RunState, array_of, bus_of, process_served}
use Rattle.due_model.specs.RunSteps.{run_state}
use Rattle.due_model.specs.Tasks.{is_writing, reply_now}
use Rattle.target_course.specs.scsi_device.specs.Writes.{is_data_out, is_writer, writer_of, writers, start_of_run}
use Rattle.array_model.proofs.SeatReplies.{id_self}
use Rattle.target_course.specs.target_units.specs.Seated.{is_same_process}
use Rattle.target_course.specs.Gathered.{GatheredValue, Gathering, IsGatheredOf, AreAllGathered, bytes_of, gathering_at}
use Rattle.target_course.specs.Courses.{CourseState}
use Rattle.target_course.specs.States.{IsOwnConnection}
use Rattle.target_course.proofs.CourseAgrees.{either}
use Rattle.target_course.proofs.GatheredRows.{bytes_sent}
use Rattle.disk_target.specs.Attended.{received_count, ends_good, is_whole_of, is_whole_run}
use Rattle.disk_target.specs.Turns.{count_sent}
use Rattle.disk_target.specs.declared.turn.Turn.{Turn}
use Rattle.bus_base.proofs.Tests.{or_second, nil_of}
use Rattle.target_course.proofs.GatheredSteps.{is_writer_is, data_out_is}

-- ---- which bytes

no_bytes : (g : Gathering) (id : ProcId) (count : ℕ) → count ≡ 0 → bytes_of g id count ≡ []
no_bytes g id count e = (λ i. bytes_of g id (e i)) ∙ go (is_same_process g.owner (Some id)) g.bytes
  where
    go : (y : Bool) (xs : List ℕ) → (if y then take 0 xs else []) ≡ []
    go true [] = refl
    go true (x ∷ xs) = refl
    go false xs = refl

enough : (a len most : ℕ) → len ≤ a → min a len ≤ most → len ≤ most
enough a len most h k = omega arith

-- All of them have come.
all_come : (s : ScenarioValue) (rows : List Row) (v : GatheredValue) (p : Process) (n : Connection)
    → AreAllGathered s rows v → IsOwnConnection rows v.dev n → (bus rows).rst ≡ false
    → (run_state s rows).exchange.begun ≡ true → process_served s (run_state s rows) ≡ Some p
    → process_of s p.id ≡ Some p → p.target ≡ v.dev → writer_of (writers s rows) p.target p.unit ≡ Some p.id
    → length p.sent ≤ received_count s (run_state s rows) p → length p.sent ≤ length (gathering_at v.units p.unit).bytes
all_come s rows v p n all own calm begins is process at w most = go (is_data_out (phase_of (bus_of k))) refl most
  where
    k : RunState
    k = run_state s rows

    start : ℕ
    start = start_of_run s p (progress_in k.progress p.id).runs

    go : (y : Bool) → is_data_out (phase_of (bus_of k)) ≡ y
        → length p.sent ≤ start + (if y then k.handshakes.answers else 0)
        → length p.sent ≤ length (gathering_at v.units p.unit).bytes
    go true e most = enough (start + k.handshakes.answers) (length p.sent)
        (length (gathering_at v.units p.unit).bytes) most (all.come p n
        (record { own = own; served = is; calm = calm; begun = begins; phase = data_out_is (phase_of (bus_of k)) e }) w)
    go false e most = enough start (length p.sent) (length (gathering_at v.units p.unit).bytes) (omega (arith, most))
        (all.made p.id p process at w)

whole_taken : (s : ScenarioValue) (v : GatheredValue) (p : Process) (n : ℕ) → IsGatheredOf s v
    → n ≡ p.unit → (gathering_at v.units p.unit).owner ≡ Some p.id → process_of s p.id ≡ Some p
    → p.unit ≤ 7 → length p.sent ≤ length (gathering_at v.units p.unit).bytes
    → bytes_of (gathering_at v.units n) p.id (length p.sent) ≡ p.sent
whole_taken s v p n g at owned process small most = (λ i. bytes_of (gathering_at v.units (at i)) p.id (length p.sent))
    ∙ bytes_sent s (gathering_at v.units p.unit) p.id (length p.sent) p
    (bytes_of (gathering_at v.units p.unit) p.id (length p.sent)) (g.each p.unit (omega (arith, small))) process refl
    (omega (arith, long)) ∙ (λ i. take (long i) p.sent) ∙ take_all (length p.sent) p.sent (omega arith)
  where
    bytes : List ℕ
    bytes = (gathering_at v.units p.unit).bytes

    mine : is_same_process (gathering_at v.units p.unit).owner (Some p.id) ≡ true
    mine = (λ i. is_same_process (owned i) (Some p.id)) ∙ id_self p.id

    long : length (bytes_of (gathering_at v.units p.unit) p.id (length p.sent)) ≡ length p.sent
    long = (λ i. length (if mine i then take (length p.sent) bytes else [])) ∙ length-take (length p.sent) bytes
        ∙ shorter (length p.sent) (length bytes) most
      where
        shorter : (a b : ℕ) → a ≤ b → min a b ≡ a
        shorter a b h = omega arith

-- As it runs.
pub all_sent : (s : ScenarioValue) (rows : List Row) (v : GatheredValue) (p : Process) (n : Connection)
    (c : CourseState) (t : Turn) (unit : ℕ) → IsGatheredOf s v → AreAllGathered s rows v → IsOwnConnection rows v.dev n
    → (bus rows).rst ≡ false → (run_state s rows).exchange.begun ≡ true → process_served s (run_state s rows) ≡ Some p
    → process_of s p.id ≡ Some p → p.target ≡ v.dev → p.unit ≤ 7 → unit ≡ p.unit → c.id ≡ p.id → c.block ≡ p.cdb
    → (is_writing p ≡ true → ((reply_now (array_of s (run_state s rows)) p).status == GOOD) ≡ true
    → t.plan.out_len ≡ length p.sent) → is_whole_run s (run_state s rows) (writers s rows) (Some p) ≡ true
    → (reply_now (array_of s (run_state s rows)) p).status ≡ GOOD
    → bytes_of (gathering_at v.units unit) c.id (count_sent t c) ≡ p.sent
all_sent s rows v p n c t unit g all own calm begins is process at small unit_is id block taken whole status =
    (λ i. bytes_of (gathering_at v.units unit) (id i) (count_sent t c)) ∙ go (either (length p.sent == 0) (is_writing p
    && (is_writer (writer_of (writers s rows) p.target p.unit) p.id && nat_le (length p.sent) (received_count s k p)))
    ran)
  where
    k : RunState
    k = run_state s rows

    good : ends_good (array_of s k) p ≡ true
    good = (λ i. status i == GOOD)

    ran : is_whole_of s k (writers s rows) p ≡ true
    ran = or_second (not (ends_good (array_of s k) p)) (is_whole_of s k (writers s rows) p) whole (λ i. not (good i))

    writes : is_write (command_of c.block) ≡ is_writing p
    writes = λ i. is_write (command_of (block i))

    count : is_writing p ≡ true → count_sent t c ≡ length p.sent
    count w = (λ i. if (writes ∙ w) i then t.plan.out_len else 0) ∙ taken w good

    zero_count : (y : Bool) → is_writing p ≡ y → length p.sent ≡ 0 → count_sent t c ≡ 0
    zero_count true w e = count w ∙ e
    zero_count false w e = λ i. if (writes ∙ w) i then t.plan.out_len else 0

    go : ((length p.sent == 0) ≡ true) ⊎ ((is_writing p && (is_writer (writer_of (writers s rows) p.target p.unit) p.id
        && nat_le (length p.sent) (received_count s k p))) ≡ true)
        → bytes_of (gathering_at v.units unit) p.id (count_sent t c) ≡ p.sent
    go (inl e) =
        let none : length p.sent ≡ 0 = eqb-true (length p.sent) 0 e in
        no_bytes (gathering_at v.units unit) p.id (count_sent t c) (zero_count (is_writing p) refl none)
        ∙ sym (nil_of p.sent none)
    go (inr e) =
        let one = and_parts (is_writing p) (is_writer (writer_of (writers s rows) p.target p.unit) p.id
        && nat_le (length p.sent) (received_count s k p)) e in
        let two = and_parts (is_writer (writer_of (writers s rows) p.target p.unit) p.id)
        (nat_le (length p.sent) (received_count s k p)) one.1 in
        let w : writer_of (writers s rows) p.target p.unit ≡ Some p.id = is_writer_is
        (writer_of (writers s rows) p.target p.unit) p.id two.0 in
        (λ i. bytes_of (gathering_at v.units unit) p.id (count one.0 i))
        ∙ whole_taken s v p unit g unit_is (all.owned p.id p process at w) process small (all_come s rows v p n all own
        calm begins is process at w (leb-true (length p.sent) (received_count s k p) two.1))
