-- All data of a write have come to a target after each row, where writes come whole.
use Rattle.std.proofs.Common.{ℕ, ◌≡◌, ◌+◌, ◌<◌, ◌≤◌, Bool, true, false, List, [], ◌∷◌, ◌∙◌, refl, sym, subst, arith}
use Rattle.std.proofs.Common.{length, take, Option, Some, None}
use Rattle.std.specs.Prelude.{if◌then◌else◌, min, not, ◌^◌, ◌-◌, ◌%◌, ◌&&◌, ◌||◌, ◌==◌, is_some}
use Rattle.std.proofs.lemmas.Bool.{eqb-true, eqb-false, and_parts, not-true}
use Rattle.std.proofs.lemmas.List.{length-take, take_all}
use Rattle.std.proofs.lemmas.Option.{same_Some}
use Rattle.bus_base.specs.declared.ProcId.{ProcId}
use Rattle.bus_trace.specs.Terms.{connection, receiver_of}
use Rattle.bus_trace.specs.Trace.{bus}
use Rattle.bus_trace.specs.declared.Row.{Row}
use Rattle.bus_trace.specs.declared.connection.Connection.{Connection}
use Rattle.bus_trace.specs.declared.rows.Kind.TheVariants.{Fault}
use Rattle.scenario.specs.Lookups.{unit_of}
use Rattle.scenario.specs.Value.{ScenarioValue}
use Rattle.scenario.specs.declared.value.CmdDef.{CmdDef}
use Rattle.array_model.specs.Order.{range_named}
use Rattle.array_model.specs.Processes.{Process, command_at, process_of}
use Rattle.array_model.specs.Units.{unit_state_at}
use Rattle.due_model.specs.story_model.specs.BusState.{RowReading, row_reading}
use Rattle.due_model.specs.story_model.specs.Items.{Item, process, abort}
use Rattle.due_model.specs.dialogue_model.specs.Arrivals.{policy_of}
use Rattle.due_model.specs.dialogue_model.specs.DataRuns.{run_in}
use Rattle.due_model.specs.dialogue_model.specs.Hearing.{hearing}
use Rattle.due_model.specs.dialogue_model.specs.NextPhase.{phase_of}
use Rattle.due_model.specs.dialogue_model.specs.declared.exchange.Hearing.{Hearing}
use Rattle.due_model.specs.Defs.{target_def_of}
use Rattle.due_model.specs.Faithful.{has_ends, faithful, is_faithful}
use Rattle.due_model.specs.LastingState.{progress_in}
use Rattle.due_model.specs.Plain.{IsPlain, AreOfDevices}
use Rattle.due_model.specs.RunState.{RunState, array_of, bus_of, process_item, process_served}
use Rattle.due_model.specs.RunSteps.{run_state, leaving_of}
use Rattle.due_model.specs.Sights.{hearing_of}
use Rattle.due_model.specs.Tasks.{blocks_in, size_of, task_if, task_of}
use Rattle.due_model.specs.Telling.{id_of}
use Rattle.target_units.specs.scsi_device.specs.Lines.{IsCommandLine}
use Rattle.target_units.specs.scsi_device.specs.Writes.{writer_of, is_data_out, brings_byte, writers_with, writers}
use Rattle.target_units.specs.scsi_device.specs.Writes.{block_size, is_of_size, is_next_byte, is_written_byte}
use Rattle.target_units.specs.scsi_device.specs.Writes.{is_written_run, ends_run, is_written_in, is_written_on}
use Rattle.target_units.specs.scsi_device.specs.Writes.{is_written, written, start_of_run}
use Rattle.target_course.specs.Gathered.{bytes_of, GatheredValue, gathering_at, gathered_with, gathered_seen}
use Rattle.target_course.specs.Gathered.{nothing_gathered, unit_room, place_in_run, IsRunningIn, IsGatheredOf, IsSentSo}
use Rattle.target_course.specs.Gathered.{IsAtUnit, AreAllGathered}
use Rattle.target_units.specs.Seated.{is_same_process}
use Rattle.target_course.specs.States.{IsOwnConnection}
use Rattle.target_course.proofs.GatheredMore.{task_at, row_gathered}
use Rattle.target_course.proofs.GatheredSteps.{AreByteGathered, no_byte, byte_more, data_out_is}
use Rattle.target_course.proofs.GatheredWhole.{same_start, first_start, room_enough}
use Rattle.target_course.proofs.ProgressRows.{named_so}
use Rattle.target_course.proofs.ServedEnds.{ends_are}
use Rattle.bus_base.proofs.Tests.{wrong}
use Rattle.target_course.proofs.GatheredRows.{same_target}
use Rattle.array_model.proofs.SoundArrays.{id_is}
use Rattle.array_model.proofs.SeatReplies.{id_self}

served_id : (s : ScenarioValue) (served : Option Item) (p : Process) → process_item s served ≡ Some p
    → id_of served ≡ Some p.id
served_id s None p e = cc
served_id s (Some (abort n)) p e = cc
served_id s (Some (process id)) p e = λ i. Some (sym (id_is s id p e) i)

-- Where the next byte goes, by the size that the scenario says.
place_so : (s : ScenarioValue) (k : RunState) (p : Process) (dev : ℕ)
    → process_served s k ≡ Some p → p.target ≡ dev → is_of_size s k p ≡ true
    → place_in_run (policy_of (target_def_of s dev)) (task_of s k) k.handshakes.answers
    ≡ min (start_of_run s p (progress_in k.progress p.id).runs + k.handshakes.answers) (2 ^ 64 - 1)
place_so s k p dev served at size =
    (λ i. place_in_run (policy_of (target_def_of s (sym at i))) (task_if s k (served i)) k.handshakes.answers)
    ∙ (λ i. min (same_start (policy_of (target_def_of s p.target)) (blocks_in (range_named p))
    (size_of (unit_state_at (array_of s k).units p.target p.unit)) (task_at s k p).moved 0
    (progress_in k.progress p.id).runs i + k.handshakes.answers) (2 ^ 64 - 1))
    ∙ (λ i. min ((run_in (policy_of (target_def_of s p.target)) (blocks_in (range_named p)) (eqb-true
    (size_of (unit_state_at (array_of s k).units p.target p.unit)) (block_size (unit_of s p.target p.unit)) size i) 0
    (progress_in k.progress p.id).runs).start + k.handshakes.answers) (2 ^ 64 - 1))

-- A byte comes to another target.
other_byte : (s : ScenarioValue) (rows : List Row) (v : GatheredValue) (p : Process) (m : Connection)
    → connection rows ≡ Some m → (m.target == v.dev) ≡ false → p.target ≡ m.target → AreAllGathered s rows v
    → AreByteGathered s rows v.dev (writers_with (writers s rows) (Some p)) v true
other_byte s rows v p m stands other at h = record {
  owned = λ id q e t w. h.owned id q e t (sym (same q t) ∙ w);
  made = λ id q e t w. h.made id q e t (sym (same q t) ∙ w);
  present = λ q n r b. wrong (sym (own n r.own) ∙ other);
  come = λ q n r w. wrong (sym (own n r.own) ∙ other);
}
  where
    own : (n : Connection) → IsOwnConnection rows v.dev n → (m.target == v.dev) ≡ true
    own n o = (λ i. (same_Some m n (sym stands ∙ o.stands) i).target == v.dev) ∙ o.own

    differs : (q : Process) → q.target ≡ v.dev → (c : Bool) → (p.target == q.target) ≡ c
        → (p.target == q.target) ≡ false
    differs q t true e = absurd (eqb-false m.target v.dev other (sym at ∙ eqb-true p.target q.target e ∙ t))
    differs q t false e = e

    same : (q : Process) → q.target ≡ v.dev → writer_of (writers_with (writers s rows) (Some p)) q.target q.unit
        ≡ writer_of (writers s rows) q.target q.unit
    same q t = λ i. if differs q t (p.target == q.target) refl i && p.unit == q.unit then Some p.id
        else writer_of (writers s rows) q.target q.unit

-- ---- a row

byte_gathered :
    (s : ScenarioValue) (rows : List Row) (row : Row) (v : GatheredValue) (known : Option ProcId) (unit place : ℕ)
    → ((n : ℕ) (c : CmdDef) → command_at s.commands n ≡ Some c → IsCommandLine s c) → IsPlain s rows (run_state s rows)
    → ((n : Connection) → connection rows ≡ Some n → has_ends (process_served s (run_state s rows)) n ≡ true)
    → is_written s (run_state s rows) row (row_reading (run_state s rows).story.bus_state row) (writers s rows) ≡ true
    → IsSentSo s rows v.dev
    (hearing_of (run_state s rows) row (row_reading (run_state s rows).story.bus_state row)) known place
    → IsAtUnit s rows v.dev
    (hearing_of (run_state s rows) row (row_reading (run_state s rows).story.bus_state row)) unit → IsGatheredOf s v
    → AreAllGathered s rows v → (before : Option Connection) → (run_state s rows).story.bus_state.connection ≡ before
    → AreByteGathered s rows v.dev (writers s (row ∷ rows)) (gathered_seen v known unit place
    (hearing_of (run_state s rows) row (row_reading (run_state s rows).story.bus_state row)) before)
    (brings_byte (hearing_of (run_state s rows) row (row_reading (run_state s rows).story.bus_state row)))
byte_gathered s rows row v known unit place lines p ends is_so says at_unit g h before b = go (brings_byte w) refl
  where
    k : RunState
    k = run_state s rows

    d : RowReading
    d = row_reading k.story.bus_state row

    w : Hearing
    w = hearing_of k row d

    still : (known : Option ProcId) (before : Option Connection) → brings_byte w ≡ false
        → gathered_seen v known unit place w before ≡ v
    still None before e = refl
    still (Some id) None e = refl
    still (Some id) (Some n) e = (λ i. if n.target == v.dev && e i
        then record v { units = gathered_with v.units unit id place (w.change.after.data_bits % 256) } else v)
        ∙ by (n.target == v.dev)
      where
        by : (o : Bool) → (if o && false
            then record v { units = gathered_with v.units unit id place (w.change.after.data_bits % 256) } else v) ≡ v
        by true = refl
        by false = refl

    into : (c : Bool) → brings_byte w ≡ c → (u : GatheredValue) → AreByteGathered s rows v.dev
        (if c then writers_with (writers s rows) (process_served s k) else writers s rows) u c
        → AreByteGathered s rows v.dev (writers s (row ∷ rows)) u (brings_byte w)
    into c e u x = subst (λ (z : Bool). AreByteGathered s rows v.dev
        (if z then writers_with (writers s rows) (process_served s k) else writers s rows) u z) (sym e) x

    comes : brings_byte w ≡ true → (before : Option Connection) → k.story.bus_state.connection ≡ before
        → AreByteGathered s rows v.dev (writers_with (writers s rows) (process_served s k))
        (gathered_seen v known unit place w before) true
    comes e None f = wrong (sym
        ((λ i. is_some (receiver_of (sym f i) d.change)) ∙ (and_parts w.crosses (is_data_out (phase_of w.change.before))
        (and_parts (w.crosses && is_data_out (phase_of w.change.before)) (not w.change.after.rst) e).0).0))
    comes e (Some m) f = of_served (process_served s k) refl
      where
        stands : connection rows ≡ Some m
        stands = sym p.connection ∙ f

        within : is_written_in s k w (leaving_of s k (Some m)) (writers s rows) ≡ true
        within = by d.next refl
          where
            by : (a : Option Connection) → d.next ≡ a
                → is_written_in s k w (leaving_of s k (Some m)) (writers s rows) ≡ true
            by None x = sym (λ i. is_written_on s k w (leaving_of s k (f i)) (writers s rows) (f i) (x i)) ∙ is_so
            by (Some n) x = (and_parts (not w.change.before.rst || w.change.after.rst)
                (is_written_in s k w (leaving_of s k (Some m)) (writers s rows))
                (sym (λ i. is_written_on s k w (leaving_of s k (f i)) (writers s rows) (f i) (x i)) ∙ is_so)).1

        byte : is_written_byte s k (writers s rows) (process_served s k) ≡ true
        byte = sym (λ i. not (e i) || is_written_byte s k (writers s rows) (process_served s k))
            ∙ (and_parts (not (brings_byte w) || is_written_byte s k (writers s rows) (process_served s k))
            (not (ends_run k w (leaving_of s k (Some m)))
            || is_written_run s k (writers s rows) (process_served s k) (phase_of (bus_of k))) within).0

        of_served : (y : Option Process) → process_served s k ≡ y
            → AreByteGathered s rows v.dev (writers_with (writers s rows) y)
            (gathered_seen v known unit place w (Some m)) true
        of_served None x = wrong (sym byte ∙ (λ i. is_written_byte s k (writers s rows) (x i)))
        of_served (Some z) x = own_or (m.target == v.dev) refl known (λ o. says m o e)
          where
            at : z.target ≡ m.target
            at = eqb-true z.target m.target (and_parts (z.initiator == m.initiator) (z.target == m.target)
                ((λ i. has_ends (sym x i) m) ∙ ends m stands)).1

            four : (k.exchange.begun && not (bus_of k).rst && is_of_size s k z ≡ true)
                × (is_next_byte s k (writers s rows) z ≡ true)
            four = and_parts (k.exchange.begun && not (bus_of k).rst && is_of_size s k z)
                (is_next_byte s k (writers s rows) z) (sym (λ i. is_written_byte s k (writers s rows) (x i)) ∙ byte)

            three : (k.exchange.begun && not (bus_of k).rst ≡ true) × (is_of_size s k z ≡ true)
            three = and_parts (k.exchange.begun && not (bus_of k).rst) (is_of_size s k z) four.0

            two : (k.exchange.begun ≡ true) × (not (bus_of k).rst ≡ true)
            two = and_parts k.exchange.begun (not (bus_of k).rst) three.0

            phase : is_data_out (phase_of (bus_of k)) ≡ true
            phase = (and_parts w.crosses (is_data_out (phase_of w.change.before))
                (and_parts (w.crosses && is_data_out (phase_of w.change.before)) (not w.change.after.rst) e).0).1

            named : process_of s z.id ≡ Some z
            named = named_so s k.served z x

            own_or : (o : Bool) → (m.target == v.dev) ≡ o → (known : Option ProcId)
                → (IsOwnConnection rows v.dev m → (known ≡ id_of k.served)
                × (place ≡ place_in_run (policy_of (target_def_of s v.dev)) (task_of s k) k.handshakes.answers))
                → AreByteGathered s rows v.dev (writers_with (writers s rows) (Some z))
                (gathered_seen v known unit place w (Some m)) true
            own_or false c None says = other_byte s rows v z m stands c at h
            own_or false c (Some id) says = subst (λ (u : GatheredValue). AreByteGathered s rows v.dev
                (writers_with (writers s rows) (Some z)) u true) (sym (λ i. if c i && brings_byte w
                then record v { units = gathered_with v.units unit id place (w.change.after.data_bits % 256) } else v))
                (other_byte s rows v z m stands c at h)
            own_or true c None says = (let bad : None ≡ Some z.id = (says (record { stands = stands; own = c })).0
                ∙ served_id s k.served z x in cc)
            own_or true c (Some id) says =
                let own : IsOwnConnection rows v.dev m = record { stands = stands; own = c } in
                let so = says own in
                let ids : z.id ≡ id = same_Some z.id id (sym (served_id s k.served z x) ∙ sym so.0) in
                let to : z.target ≡ v.dev = at ∙ eqb-true m.target v.dev c in
                let fit = room_enough s z.id z lines named in
                let room : length z.sent ≤ (gathering_at v.units z.unit).room = subst (λ (y : ℕ). length z.sent ≤ y)
                ((λ i. unit_room s (to i) z.unit) ∙ sym (g.rooms z.unit fit.0)) fit.1 in
                let running : IsRunningIn s rows v.dev z m = record {
                  own = own;
                  served = x;
                  calm = sym (λ i. (p.bus i).rst) ∙ not-true (bus_of k).rst two.1;
                  begun = two.0;
                  phase = data_out_is (phase_of (bus_of k)) phase;
                } in
                let put : AreByteGathered s rows v.dev (writers_with (writers s rows) (Some z)) (record v {
                  units = gathered_with v.units z.unit z.id place (w.change.after.data_bits % 256);
                }) true = byte_more s rows v z m place
                (w.change.after.data_bits % 256) running to named g.eight fit.0 room (g.each z.unit fit.0)
                (so.1 ∙ place_so s k z v.dev x to three.1) (first_start (policy_of (target_def_of s z.target))
                (blocks_in (range_named z)) (block_size (unit_of s z.target z.unit)) 0) four.1 h in
                subst (λ (u : GatheredValue). AreByteGathered s rows v.dev
                (writers_with (writers s rows) (Some z)) u true) ((λ i. record v {
                  units = gathered_with v.units (sym (at_unit m z own e x) i) (ids i) place
                      (w.change.after.data_bits % 256);
                }) ∙ sym (λ i. if c i && e i
                then record v { units = gathered_with v.units unit id place (w.change.after.data_bits % 256) } else v))
                put

    go : (c : Bool) → brings_byte w ≡ c
        → AreByteGathered s rows v.dev (writers s (row ∷ rows)) (gathered_seen v known unit place w before)
        (brings_byte w)
    go false e = into false e (gathered_seen v known unit place w before)
        (subst (λ (u : GatheredValue). AreByteGathered s rows v.dev (writers s rows) u false)
        (sym (still known before e)) (no_byte s rows v h))
    go true e = into true e (gathered_seen v known unit place w before) (comes e before b)

pub all_gathered_on : (s : ScenarioValue) (rows : List Row) (row : Row) (v : GatheredValue)
    (known : Option ProcId) (unit place : ℕ) (w : Hearing) (before : Option Connection)
    → ((n : ℕ) (c : CmdDef) → command_at s.commands n ≡ Some c → IsCommandLine s c)
    → ((before : List Row) → AreOfDevices before → IsPlain s before (run_state s before))
    → hearing_of (run_state s rows) row (row_reading (run_state s rows).story.bus_state row) ≡ hearing rows row
    → ((code : ℕ) → row.kind ≡ Fault code → bus (row ∷ rows) ≡ bus rows) → AreOfDevices (row ∷ rows)
    → w ≡ hearing rows row → before ≡ connection rows → faithful s (row ∷ rows) ≡ true → written s (row ∷ rows) ≡ true
    → IsSentSo s rows v.dev w known place → IsAtUnit s rows v.dev w unit → IsGatheredOf s v → AreAllGathered s rows v
    → AreAllGathered s (row ∷ rows) (gathered_seen v known unit place w before)
all_gathered_on s rows row v known unit place w before lines plain heard calm d told b f writes says at_unit g h = subst
    (λ (z : GatheredValue). AreAllGathered s (row ∷ rows) z)
    (λ i. gathered_seen v known unit place (sym same i) (stood i)) (row_gathered s rows row u
    (plain rows d.1) (plain (row ∷ rows) d) calm (λ n e. ends_are s rows plain d.1 two.0 n e) at_target is_so
    (subst (λ (n : ℕ). AreByteGathered s rows n (writers s (row ∷ rows)) u (brings_byte (hearing_of k row r)))
    (sym (same_target v known unit place (hearing_of k row r) k.story.bus_state.connection))
    (byte_gathered s rows row v known unit place lines (plain rows d.1) (λ n e. ends_are s rows plain d.1 two.0 n e)
    is_so (subst (λ (z : Hearing). IsSentSo s rows v.dev z known place) same says)
    (subst (λ (z : Hearing). IsAtUnit s rows v.dev z unit) same at_unit) g h k.story.bus_state.connection refl)))
  where
    k : RunState
    k = run_state s rows

    r : RowReading
    r = row_reading k.story.bus_state row

    u : GatheredValue
    u = gathered_seen v known unit place (hearing_of k row r) k.story.bus_state.connection

    same : w ≡ hearing_of k row r
    same = told ∙ sym heard

    stood : k.story.bus_state.connection ≡ before
    stood = (plain rows d.1).connection ∙ sym b

    two : (faithful s rows ≡ true) × (is_faithful s k r ≡ true)
    two = and_parts (faithful s rows) (is_faithful s k r) f

    is_so : is_written s k row r (writers s rows) ≡ true
    is_so = (and_parts (written s rows) (is_written s k row r (writers s rows)) writes).1

    at_target : (z : Process) (n : Connection) → IsRunningIn s (row ∷ rows) u.dev z n → z.target ≡ u.dev
    at_target z n run = eqb-true z.target n.target (and_parts (z.initiator == n.initiator) (z.target == n.target)
        ((λ i. has_ends (sym run.served i) n) ∙ ends_are s (row ∷ rows) plain d f n run.own.stands)).1
        ∙ eqb-true n.target u.dev run.own.own

-- ---- before any row

pub all_gathered_start : (s : ScenarioValue) (dev : ℕ) → AreAllGathered s [] (nothing_gathered s dev)
all_gathered_start s dev = record {
  owned = λ id p e t w. cc;
  made = λ id p e t w. cc;
  present = λ p n r l. (let bad : None ≡ Some n = r.own.stands in cc);
  come = λ p n r w. cc;
}

-- ---- the bytes of a write that runs

pub whole_bytes :
    (s : ScenarioValue) (rows : List Row) (v : GatheredValue) (p : Process) (n : Connection) (bytes : List ℕ)
    → AreAllGathered s rows v → IsRunningIn s rows v.dev p n → p.target ≡ v.dev
    → 0 < (run_state s rows).handshakes.answers → length p.sent
    ≤ start_of_run s p (progress_in (run_state s rows).progress p.id).runs + (run_state s rows).handshakes.answers
    → bytes ≡ bytes_of (gathering_at v.units p.unit) p.id (length p.sent)
    → (length bytes ≤ length p.sent → bytes ≡ take (length bytes) p.sent) → bytes ≡ p.sent
whole_bytes s rows v p n bytes h r t l all is sent =
    sent (omega (arith, long)) ∙ (λ i. take (long i) p.sent) ∙ take_all (length p.sent) p.sent (omega arith)
  where
    w : writer_of (writers s rows) p.target p.unit ≡ Some p.id
    w = h.present p n r l

    owned : (gathering_at v.units p.unit).owner ≡ Some p.id
    owned = h.owned p.id p (named_so s (run_state s rows).served p r.served) t w

    come : length p.sent ≤ length (gathering_at v.units p.unit).bytes
    come =
        let c = h.come p n r w in
        enough (start_of_run s p (progress_in (run_state s rows).progress p.id).runs
        + (run_state s rows).handshakes.answers) (length p.sent) (length (gathering_at v.units p.unit).bytes) all c
      where
        enough : (a len most : ℕ) → len ≤ a → min a len ≤ most → len ≤ most
        enough a len most x y = omega arith

    taken : bytes ≡ take (length p.sent) (gathering_at v.units p.unit).bytes
    taken = is ∙ (λ i. if ((λ j. is_same_process (owned j) (Some p.id)) ∙ id_self p.id) i
        then take (length p.sent) (gathering_at v.units p.unit).bytes else [])

    long : length bytes ≡ length p.sent
    long = (λ i. length (taken i)) ∙ length-take (length p.sent) (gathering_at v.units p.unit).bytes
        ∙ least (length p.sent) (length (gathering_at v.units p.unit).bytes) come
      where
        least : (a b : ℕ) → a ≤ b → min a b ≡ a
        least a b x = omega arith
