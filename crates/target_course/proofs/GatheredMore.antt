-- What has come to a target of the data of writes, as a row counts a run, or another phase begins.
use Rattle.std.proofs.Common.{ℕ, ◌≡◌, ◌+◌, ◌<◌, ◌≤◌, Bool, true, false, List, ◌∷◌, ◌∙◌, refl, sym, ap, subst, arith}
use Rattle.std.proofs.Common.{length, Option, Some, None}
use Rattle.std.specs.Prelude.{if◌then◌else◌, min, not, ◌-◌, ◌&&◌, ◌||◌, ◌==◌, nat_lt, nat_le, is_some}
use Rattle.std.proofs.lemmas.Bool.{eqb-true, eq-eqb, and_parts, not-true, lt-ltb, leb-true}
use Rattle.std.proofs.lemmas.Bool.Decides.{nat_tests}
use Rattle.std.proofs.lemmas.Option.{same_Some}
use Rattle.bus_base.specs.declared.ProcId.{ProcId}
use Rattle.bus_trace.specs.Changes.{rises, same_phase}
use Rattle.bus_trace.specs.LineSet.{LineSet, same}
use Rattle.bus_trace.specs.Phases.{changes_phase}
use Rattle.bus_trace.specs.Terms.{connection, is_fault, receiver_of}
use Rattle.bus_trace.specs.Trace.{bus}
use Rattle.bus_trace.specs.declared.Row.{Row}
use Rattle.bus_trace.specs.declared.changes.Change.{Change}
use Rattle.bus_trace.specs.declared.connection.Connection.{Connection}
use Rattle.bus_trace.specs.declared.rows.Kind.{Kind}
use Rattle.bus_trace.specs.declared.rows.Kind.TheVariants.{Drives, Fault}
use Rattle.bus_trace.proofs.Sets.{same_self}
use Rattle.bus_lines.specs.Handshakes.{Handshakes, no_handshakes, handshakes_after, answered_if, asked_if}
use Rattle.bus_lines.specs.Handshakes.{newest_struck_if}
use Rattle.scenario.specs.Lookups.{unit_of}
use Rattle.scenario.specs.Value.{ScenarioValue}
use Rattle.array_model.specs.ArrayHistory as Play
use Rattle.array_model.specs.Order.{range_named}
use Rattle.array_model.specs.Processes.{Process, process_of, same_id}
use Rattle.array_model.specs.Units.{unit_state_at}
use Rattle.due_model.specs.story_model.specs.BusState.{RowReading, row_reading}
use Rattle.due_model.specs.dialogue_model.specs.Arrivals.{policy_of}
use Rattle.due_model.specs.dialogue_model.specs.DataRuns.{run_in, run_length}
use Rattle.due_model.specs.dialogue_model.specs.NextPhase.{phase_of}
use Rattle.due_model.specs.dialogue_model.specs.PhaseBytes.{one_if}
use Rattle.due_model.specs.dialogue_model.specs.declared.exchange.Hearing.{Hearing}
use Rattle.due_model.specs.dialogue_model.specs.declared.exchange.Phase.TheVariants as phases
use Rattle.due_model.specs.dialogue_model.specs.declared.exchange.Task.{Task}
use Rattle.due_model.specs.Defs.{target_def_of}
use Rattle.due_model.specs.Faithful.{has_ends}
use Rattle.due_model.specs.LastingState.{ProcessProgress, progress_in, progress_with}
use Rattle.due_model.specs.Plain.{IsPlain}
use Rattle.due_model.specs.RunState.{RunState, array_of, bus_of, carried_here, process_item, process_served}
use Rattle.due_model.specs.RunSteps.{run_state, progress_by_leaving, progress_after, served_after, exchange_after}
use Rattle.due_model.specs.RunSteps.{leaving_of}
use Rattle.due_model.specs.Sights.{hearing_of, leaving}
use Rattle.due_model.specs.Tasks.{blocks_in, reply_now, size_of, task_with, task_if, task_of}
use Rattle.target_units.specs.scsi_device.specs.Writes.{writer_of, is_data_out, brings_byte, writers_with, writers}
use Rattle.target_units.specs.scsi_device.specs.Writes.{block_size, is_of_size, is_writer, is_whole_run, is_written_run}
use Rattle.target_units.specs.scsi_device.specs.Writes.{is_written_byte, ends_run, is_written_in, is_written_on}
use Rattle.target_units.specs.scsi_device.specs.Writes.{is_written, start_of_run}
use Rattle.target_course.specs.Gathered.{GatheredValue, gathering_at, HasCome, IsRunningIn, AreAllGathered}
use Rattle.target_course.proofs.GatheredSteps.{AreByteGathered, data_out_is}
use Rattle.target_course.proofs.GatheredWhole.{next_start}
use Rattle.target_course.proofs.HeardOpenings.{phase_same}
use Rattle.target_course.proofs.ProgressRows.{entry_with, named_so, plus_none}
use Rattle.due_model.proofs.Lookups.{other_kept}
use Rattle.target_course.proofs.ServedEnds.{connection_stays}
use Rattle.bus_base.proofs.Tests.{wrong}
use Rattle.array_model.proofs.SeatLookups.{same_id_is}
use Rattle.array_model.proofs.SeatReplies.{id_self}
use Rattle.target_units.specs.scsi_device.proofs.PhaseLines.{no_input}

come_less : (v : GatheredValue) (p : Process) (a b : ℕ) → a ≤ b → HasCome v p b → HasCome v p a
come_less v p a b l h = omega (arith, l, h)

-- ---- how many runs are counted

runs_with : (all : List ProcessProgress) (a id : ProcId) (x y : Bool)
    → (progress_in (progress_with all a x y) id).runs
    ≡ (if same_id a id then (progress_in all id).runs + one_if x else (progress_in all id).runs)
runs_with all a id x y = go (same_id a id) refl
  where
    self : (x y : Bool) → (progress_in (progress_with all id x y) id).runs ≡ (progress_in all id).runs + one_if x
    self true y = λ i. (if id_self id i then entry_with all id true y else progress_in all id).runs
    self false true = λ i. (if id_self id i then entry_with all id false true else progress_in all id).runs
    self false false = plus_none (progress_in all id).runs

    go : (q : Bool) → same_id a id ≡ q → (progress_in (progress_with all a x y) id).runs
        ≡ (if q then (progress_in all id).runs + one_if x else (progress_in all id).runs)
    go true e = subst (λ (z : ProcId). (progress_in (progress_with all z x y) id).runs
        ≡ (progress_in all id).runs + one_if x) (sym (same_id_is a id e)) (self x y)
    go false e = λ i. (other_kept all a id x y e i).runs

-- ---- a run is done, all bytes of which have come

abbrev pub task_at : ScenarioValue → RunState → Process → Task
task_at s k p = task_with (array_of s k) (progress_in k.progress p.id) p (carried_here k p.id)
    (reply_now (array_of s k) p) (Play.reply_in (array_of s k).replies p.id)

run_made : (s : ScenarioValue) (k : RunState) (v : GatheredValue) (p : Process) (extra : ℕ)
    → is_whole_run s k p (Some (task_at s k p)) ≡ true
    → HasCome v p (start_of_run s p (progress_in k.progress p.id).runs + k.handshakes.answers + extra)
    → HasCome v p (start_of_run s p ((progress_in k.progress p.id).runs + 1))
run_made s k v p extra e h =
    let one = and_parts (not (bus_of k).rst && is_of_size s k p && (task_at s k p).moved == length p.sent)
    (nat_le (run_length (policy_of (target_def_of s p.target)) (task_at s k p)) k.handshakes.answers) e in
    let two = and_parts (not (bus_of k).rst && is_of_size s k p) ((task_at s k p).moved == length p.sent) one.0 in
    let three = and_parts (not (bus_of k).rst) (is_of_size s k p) two.0 in
    let size : size_of (unit_state_at (array_of s k).units p.target p.unit) ≡ block_size (unit_of s p.target p.unit) =
    eqb-true (size_of (unit_state_at (array_of s k).units p.target p.unit))
    (block_size (unit_of s p.target p.unit)) three.1 in
    let moved : (task_at s k p).moved ≡ length p.sent = eqb-true (task_at s k p).moved (length p.sent) two.1 in
    let runs : ℕ = (progress_in k.progress p.id).runs in
    let blocks : Option ℕ = blocks_in (range_named p) in
    let all : (run_in (policy_of (target_def_of s p.target)) blocks (block_size (unit_of s p.target p.unit))
    (length p.sent) runs).end - (run_in (policy_of (target_def_of s p.target)) blocks
    (block_size (unit_of s p.target p.unit)) (length p.sent) runs).start ≤ k.handshakes.answers = subst
    (λ (z : ℕ). (run_in (policy_of (target_def_of s p.target)) blocks z (length p.sent) runs).end
    - (run_in (policy_of (target_def_of s p.target)) blocks z (length p.sent) runs).start ≤ k.handshakes.answers) size
    (subst (λ (z : ℕ). (run_in (policy_of (target_def_of s p.target)) blocks (task_at s k p).size z runs).end
    - (run_in (policy_of (target_def_of s p.target)) blocks (task_at s k p).size z runs).start ≤ k.handshakes.answers)
    moved (leb-true (run_length (policy_of (target_def_of s p.target)) (task_at s k p)) k.handshakes.answers one.1)) in
    let next = next_start (policy_of (target_def_of s p.target)) blocks
    (block_size (unit_of s p.target p.unit)) (length p.sent) runs k.handshakes.answers all in
    enough (start_of_run s p (runs + 1)) (start_of_run s p runs + k.handshakes.answers) extra (length p.sent)
    (length (gathering_at v.units p.unit).bytes) next h
  where
    enough : (a b extra len most : ℕ) → min a len ≤ b → min (b + extra) len ≤ most → min a len ≤ most
    enough a b extra len most x y = omega arith

-- ---- REQ and ACK in DATA OUT

crosses_so : (m : Connection) (c : Change) → c.before.io ≡ false → rises c.before.ack c.after.ack ≡ true
    → is_some (receiver_of (Some m) c) ≡ true
crosses_so m c e f = λ i. is_some (if e i then (if rises c.before.req c.after.req then Some m.initiator else None)
    else if f i then Some m.target else None)

answers_on : (f : Bool) (n : Connection) (c : Change) (time : ℕ) (h : Handshakes) (b : Bool)
    → changes_phase c ≡ false → (rises c.before.ack c.after.ack ≡ true → b ≡ true)
    → ((handshakes_after f (Some n) c time h).answers ≤ h.answers + one_if b)
    × (0 < (handshakes_after f (Some n) c time h).answers → (b || nat_lt 0 h.answers) ≡ true)
answers_on true n c time h b e crosses = same c.before.io
  where
    either : (b : Bool) → 0 < h.answers → (b || nat_lt 0 h.answers) ≡ true
    either true l = refl
    either false l = lt-ltb 0 h.answers l

    same : (q : Bool) → ((newest_struck_if q h).answers ≤ h.answers + one_if b)
        × (0 < (newest_struck_if q h).answers → (b || nat_lt 0 h.answers) ≡ true)
    same true = (omega arith, λ l. either b l)
    same false = (omega arith, λ l. either b l)
answers_on false n c time h b e crosses = subst (λ (z : Bool). ((if z then no_handshakes
    else answered_if (rises c.before.ack c.after.ack) time (asked_if (rises c.before.req c.after.req) time h)).answers
    ≤ h.answers + one_if b) × (0 < (if z then no_handshakes else answered_if (rises c.before.ack c.after.ack) time
    (asked_if (rises c.before.req c.after.req) time h)).answers → (b || nat_lt 0 h.answers) ≡ true)) (sym e)
    (go (rises c.before.ack c.after.ack) (rises c.before.req c.after.req) b crosses)
  where
    either : (b : Bool) → 0 < h.answers → (b || nat_lt 0 h.answers) ≡ true
    either true l = refl
    either false l = lt-ltb 0 h.answers l

    go : (q r b : Bool) → (q ≡ true → b ≡ true)
        → ((answered_if q time (asked_if r time h)).answers ≤ h.answers + one_if b)
        × (0 < (answered_if q time (asked_if r time h)).answers → (b || nat_lt 0 h.answers) ≡ true)
    go true true true x = (omega arith, λ l. refl)
    go true false true x = (omega arith, λ l. refl)
    go true r false x = wrong (sym (x refl))
    go false true b x = (omega arith, λ l. either b l)
    go false false b x = (omega arith, λ l. either b l)

no_change : (a b : LineSet) → a ≡ b → same_phase a b ≡ true
no_change a b e = (λ i. same_phase a (sym e i)) ∙ (λ i. same_self a.msg i && same_self a.cd i && same_self a.io i)

-- A phase begins with wrong rise of ACK; a fault changes wrong lines.
answers_anew : (row : Row) (n : Connection) (c : Change) (h : Handshakes)
    → ((code : ℕ) → row.kind ≡ Fault code → c.before ≡ c.after) → changes_phase c ≡ true
    → (handshakes_after (is_fault row.kind) (Some n) c row.time h).answers ≡ 0
answers_anew row n c h calm e = go row.kind refl
  where
    go : (f : Kind) → row.kind ≡ f → (handshakes_after (is_fault f) (Some n) c row.time h).answers ≡ 0
    go (Drives lines) g = λ i. (if e i then no_handshakes else answered_if (rises c.before.ack c.after.ack) row.time
        (asked_if (rises c.before.req c.after.req) row.time h)).answers
    go (Fault code) g = wrong (sym e ∙ (λ i. not (no_change c.before c.after (calm code g) i)))

-- ---- a row

pub row_gathered : (s : ScenarioValue) (rows : List Row) (row : Row) (v : GatheredValue)
    → IsPlain s rows (run_state s rows) → IsPlain s (row ∷ rows) (run_state s (row ∷ rows))
    → ((code : ℕ) → row.kind ≡ Fault code → bus (row ∷ rows) ≡ bus rows)
    → ((n : Connection) → connection rows ≡ Some n → has_ends (process_served s (run_state s rows)) n ≡ true)
    → ((z : Process) (n : Connection) → IsRunningIn s (row ∷ rows) v.dev z n → z.target ≡ v.dev)
    → is_written s (run_state s rows) row (row_reading (run_state s rows).story.bus_state row) (writers s rows) ≡ true
    → AreByteGathered s rows v.dev (writers s (row ∷ rows)) v
    (brings_byte (hearing_of (run_state s rows) row (row_reading (run_state s rows).story.bus_state row)))
    → AreAllGathered s (row ∷ rows) v
row_gathered s rows row v p q calm ends at_target written x = record {
  owned = x.owned;
  made = made;
  present = λ z n run l. (at_end z n run k.story.bus_state.connection refl).0 l;
  come = λ z n run w. (at_end z n run k.story.bus_state.connection refl).1 w;
}
  where
    k : RunState
    k = run_state s rows

    next : RunState
    next = run_state s (row ∷ rows)

    d : RowReading
    d = row_reading k.story.bus_state row

    w : Hearing
    w = hearing_of k row d

    seam : (b a : Option Connection) → k.story.bus_state.connection ≡ b → d.next ≡ a
        → is_written_on s k w (leaving_of s k b) (writers s rows) b a ≡ true
    seam b a e f = sym (λ i. is_written_on s k w (leaving_of s k (e i)) (writers s rows) (e i) (f i)) ∙ written

    no_bytes : is_data_out (phase_of (bus_of k)) ≡ false → brings_byte w ≡ false
    no_bytes e = (λ i. w.crosses && e i && not w.change.after.rst) ∙ go w.crosses
      where
        go : (c : Bool) → (c && false && not w.change.after.rst) ≡ false
        go true = refl
        go false = refl

    done : (id : ProcId) (z : Process) (m n : Connection) → process_of s id ≡ Some z → z.target ≡ v.dev
        → writer_of (writers s (row ∷ rows)) z.target z.unit ≡ Some id → k.story.bus_state.connection ≡ Some m
        → d.next ≡ Some n → (changes_phase d.change && k.exchange.begun) ≡ true
        → (leaving s k m.target).done ≡ true → process_served s k ≡ Some z → z.id ≡ id
        → HasCome v z (start_of_run s z ((progress_in k.progress id).runs + 1))
    done id z m n e t wr b a left is_done served ids = go (is_data_out (phase_of (bus_of k))) refl
      where
        both : is_written_run s k (writers s rows) (Some z) (phase_of (bus_of k)) ≡ true
        both = sym (λ i. is_written_run s k (writers s rows) (served i) (phase_of (bus_of k)))
            ∙ sym (λ i. not (left i && is_done i)
            || is_written_run s k (writers s rows) (process_served s k) (phase_of (bus_of k)))
            ∙ (and_parts (not (brings_byte w) || is_written_byte s k (writers s rows) (process_served s k))
            (not (ends_run k w (leaving s k m.target))
            || is_written_run s k (writers s rows) (process_served s k) (phase_of (bus_of k)))
            (and_parts (not w.change.before.rst || w.change.after.rst)
            (is_written_in s k w (leaving s k m.target) (writers s rows)) (seam (Some m) (Some n) b a)).1).1

        stands : connection rows ≡ Some m
        stands = sym p.connection ∙ b

        own : (m.target == v.dev) ≡ true
        own =
            let two = and_parts (z.initiator == m.initiator) (z.target == m.target)
            ((λ i. has_ends (sym served i) m) ∙ ends m stands) in
            eq-eqb m.target v.dev (sym (eqb-true z.target m.target two.1) ∙ t)

        go : (o : Bool) → is_data_out (phase_of (bus_of k)) ≡ o
            → HasCome v z (start_of_run s z ((progress_in k.progress id).runs + 1))
        go true f =
            let whole : is_whole_run s k z (task_of s k) ≡ true = sym (λ i. if f i then is_whole_run s k z (task_of s k)
            else not (is_writer (writer_of (writers s rows) z.target z.unit) z.id)) ∙ both in
            let task : is_whole_run s k z (Some (task_at s k z)) ≡ true =
            sym (λ i. is_whole_run s k z (task_if s k (served i))) ∙ whole in
            let rst : (bus rows).rst ≡ false = sym (λ i. (p.bus i).rst)
            ∙ not-true (bus_of k).rst (and_parts (not (bus_of k).rst) (is_of_size s k z)
            (and_parts (not (bus_of k).rst && is_of_size s k z) ((task_at s k z).moved == length z.sent)
            (and_parts (not (bus_of k).rst && is_of_size s k z && (task_at s k z).moved == length z.sent)
            (nat_le (run_length (policy_of (target_def_of s z.target)) (task_at s k z)) k.handshakes.answers)
            task).0).0).0 in
            let running : IsRunningIn s rows v.dev z m = record {
              own = record { stands = stands; own = own };
              served = served;
              calm = rst;
              begun = (and_parts (changes_phase d.change) k.exchange.begun left).1;
              phase = data_out_is (phase_of (bus_of k)) f;
            } in
            subst (λ (y : ProcId). HasCome v z (start_of_run s z ((progress_in k.progress y).runs + 1))) ids
            (run_made s k v z (one_if (brings_byte w)) task (x.come z m running (wr ∙ (λ i. Some (sym ids i)))))
        go false f =
            let last : not (is_writer (writer_of (writers s rows) z.target z.unit) z.id) ≡ true =
            sym (λ i. if f i then is_whole_run s k z (task_of s k)
            else not (is_writer (writer_of (writers s rows) z.target z.unit) z.id)) ∙ both in
            let same_writers : writer_of (writers s (row ∷ rows)) z.target z.unit
            ≡ writer_of (writers s rows) z.target z.unit = λ i. writer_of
            (if no_bytes f i then writers_with (writers s rows) (process_served s k) else writers s rows)
            z.target z.unit in
            wrong
            (sym ((λ i. is_writer ((sym same_writers ∙ wr) i) z.id) ∙ (λ i. same_id (sym ids i) z.id) ∙ id_self z.id)
            ∙ not-true (is_writer (writer_of (writers s rows) z.target z.unit) z.id) last)

    made : (id : ProcId) (z : Process) → process_of s id ≡ Some z → z.target ≡ v.dev
        → writer_of (writers s (row ∷ rows)) z.target z.unit ≡ Some id
        → HasCome v z (start_of_run s z (progress_in next.progress id).runs)
    made id z e t wr = by k.story.bus_state.connection refl d.next refl
      where
        stays : HasCome v z (start_of_run s z (progress_in k.progress id).runs)
        stays = x.made id z e t wr

        by : (b : Option Connection) → k.story.bus_state.connection ≡ b → (a : Option Connection) → d.next ≡ a
            → HasCome v z (start_of_run s z (progress_in (progress_after s k d b a (leaving_of s k b)) id).runs)
        by None eb None ea = stays
        by None eb (Some n) ea = stays
        by (Some m) eb None ea = stays
        by (Some m) eb (Some n) ea = go (changes_phase d.change && k.exchange.begun) refl
          where
            go : (c : Bool) → (changes_phase d.change && k.exchange.begun) ≡ c
                → HasCome v z (start_of_run s z (progress_in
                (if c then progress_by_leaving k (process_served s k) (leaving s k m.target) else k.progress) id).runs)
            go false f = stays
            go true f = of_served (process_served s k) refl
              where
                of_served : (y : Option Process) → process_served s k ≡ y → HasCome v z
                    (start_of_run s z (progress_in (progress_by_leaving k y (leaving s k m.target)) id).runs)
                of_served None g = stays
                of_served (Some y) g = subst (λ (c : ℕ). HasCome v z (start_of_run s z c))
                    (sym (runs_with k.progress y.id id (leaving s k m.target).done (leaving s k m.target).counts))
                    (counted (same_id y.id id) refl (leaving s k m.target).done refl)
                  where
                    counted : (o : Bool) → same_id y.id id ≡ o → (f_done : Bool) → (leaving s k m.target).done ≡ f_done
                        → HasCome v z (start_of_run s z (if o then (progress_in k.progress id).runs + one_if f_done
                        else (progress_in k.progress id).runs))
                    counted false u f_done h = stays
                    counted true u false h = subst (λ (c : ℕ). HasCome v z (start_of_run s z c))
                        (plus_none (progress_in k.progress id).runs) stays
                    counted true u true h =
                        let ids : y.id ≡ id = same_id_is y.id id u in
                        let one : y ≡ z = same_Some y z
                        (sym (named_so s k.served y g) ∙ (λ i. process_of s (ids i)) ∙ e) in
                        done id z m n e t wr eb ea f h (g ∙ (λ i. Some (one i)))
                        (ap (λ (o : Process). o.id) (sym one) ∙ ids)

    at_end : (z : Process) (n : Connection) → IsRunningIn s (row ∷ rows) v.dev z n
        → (b : Option Connection) → k.story.bus_state.connection ≡ b
        → (0 < next.handshakes.answers → writer_of (writers s (row ∷ rows)) z.target z.unit ≡ Some z.id)
        × (writer_of (writers s (row ∷ rows)) z.target z.unit ≡ Some z.id
        → HasCome v z (start_of_run s z (progress_in next.progress z.id).runs + next.handshakes.answers))
    at_end z n run None b = wrong (sym (λ i. begins_so i && phase_so i)
        ∙ not-true (n.reselected && is_data_out (phase_of w.change.after)) (seam None (Some n) b a))
      where
        a : d.next ≡ Some n
        a = q.connection ∙ run.own.stands

        begins_so : n.reselected ≡ true
        begins_so = sym (λ i. (exchange_after s k row d (b i) (a i) (leaving_of s k (b i))).begun) ∙ run.begun

        phase_so : is_data_out (phase_of w.change.after) ≡ true
        phase_so = λ i. is_data_out (run.phase i)
    at_end z n run (Some m) b = by (changes_phase d.change) refl
      where
        a : d.next ≡ Some n
        a = q.connection ∙ run.own.stands

        same_one : m ≡ n
        same_one = connection_stays k.story.bus_state.connection d.next k.story.bus_state.call d.change row m n refl b a

        after_calm : d.change.after.rst ≡ false
        after_calm = (λ i. (q.bus i).rst) ∙ run.calm

        before_calm : (bus rows).rst ≡ false
        before_calm = sym (λ i. (p.bus i).rst)
            ∙ not-true d.change.before.rst (or_left (not d.change.before.rst) d.change.after.rst after_calm
            (and_parts (not w.change.before.rst || w.change.after.rst)
            (is_written_in s k w (leaving s k m.target) (writers s rows)) (seam (Some m) (Some n) b a)).0)
          where
            or_left : (u y : Bool) → y ≡ false → (u || y) ≡ true → u ≡ true
            or_left true y e f = refl
            or_left false y e f = wrong (sym f ∙ e)

        answers : next.handshakes.answers
            ≡ (handshakes_after (is_fault row.kind) (Some n) d.change row.time k.handshakes).answers
        answers = λ i. (handshakes_after (is_fault row.kind) (a i) d.change row.time k.handshakes).answers

        by : (c : Bool) → changes_phase d.change ≡ c
            → (0 < next.handshakes.answers → writer_of (writers s (row ∷ rows)) z.target z.unit ≡ Some z.id)
            × (writer_of (writers s (row ∷ rows)) z.target z.unit ≡ Some z.id
            → HasCome v z (start_of_run s z (progress_in next.progress z.id).runs + next.handshakes.answers))
        by true e =
            let none : next.handshakes.answers ≡ 0 = answers
            ∙ answers_anew row n d.change k.handshakes (λ code f. p.bus ∙ sym (calm code f) ∙ sym q.bus) e in (
              (λ l. absurd (omega (arith, none, l))),
              (λ wr. come_less v z (start_of_run s z (progress_in next.progress z.id).runs + next.handshakes.answers)
                  (start_of_run s z (progress_in next.progress z.id).runs) (omega (arith, none))
                  (made z.id z (named_so s next.served z run.served) (at_target z n run) wr)),
            )
        by false e =
            let begun : k.exchange.begun ≡ true = sym (λ i. e i || k.exchange.begun)
            ∙ sym (λ i. (exchange_after s k row d (b i) (a i) (leaving_of s k (b i))).begun) ∙ run.begun in
            let phase : phase_of (bus_of k) ≡ phases.DataOut =
            phase_same d.change.before d.change.after (unchanged (same_phase d.change.before d.change.after) e)
            ∙ run.phase in
            let served : process_served s k ≡ Some z = sym (λ i. process_item s (served_after s k (b i) (a i)))
            ∙ run.served in
            let running : IsRunningIn s rows v.dev z n = record {
              own = record { stands = sym p.connection ∙ b ∙ (λ i. Some (same_one i)); own = run.own.own };
              served = served;
              calm = before_calm;
              begun = begun;
              phase = phase;
            } in
            let runs : (progress_in next.progress z.id).runs ≡ (progress_in k.progress z.id).runs =
            (λ i. (progress_in (progress_after s k d (b i) (a i) (leaving_of s k (b i))) z.id).runs)
            ∙ (λ i. (progress_in
            (if e i && k.exchange.begun then progress_by_leaving k (process_served s k) (leaving s k m.target)
            else k.progress) z.id).runs) in
            let brings = λ (f : rises d.change.before.ack d.change.after.ack ≡ true). brings_so f phase in
            let more = answers_on (is_fault row.kind) n d.change row.time k.handshakes (brings_byte w) e brings in (
              (λ l. x.present z n running (more.1 (subst (λ (c : ℕ). 0 < c) answers l))),
              (λ wr. come_less v z (start_of_run s z (progress_in next.progress z.id).runs + next.handshakes.answers)
                  (start_of_run s z (progress_in k.progress z.id).runs + k.handshakes.answers + one_if (brings_byte w))
                  (less (start_of_run s z (progress_in next.progress z.id).runs)
                  (start_of_run s z (progress_in k.progress z.id).runs) next.handshakes.answers k.handshakes.answers
                  (one_if (brings_byte w)) (λ i. start_of_run s z (runs i))
                  (subst (λ (c : ℕ). c ≤ k.handshakes.answers + one_if (brings_byte w)) (sym answers) more.0))
                  (x.come z n running wr)),
            )
          where
            unchanged : (c : Bool) → not c ≡ false → c ≡ true
            unchanged true f = refl
            unchanged false f = wrong f

            less : (r r' c c' o : ℕ) → r ≡ r' → c ≤ c' + o → r + c ≤ r' + c' + o
            less r r' c c' o f g = omega (arith, f, g)

            brings_so : rises d.change.before.ack d.change.after.ack ≡ true → phase_of (bus_of k) ≡ phases.DataOut
                → brings_byte w ≡ true
            brings_so f phase =
                let crosses : w.crosses ≡ true = (λ i. is_some (receiver_of (b i) d.change))
                ∙ crosses_so m d.change (no_input d.change.before phase) f in
                λ i. crosses i && is_data_out (phase i) && not (after_calm i)
