-- The measure falls with the row that leaves DATA for STATUS or MESSAGE IN: where the run is done its command has a run
-- less to make; where a byte of DATA OUT was struck, the strike pays for the run, which may be made once more.
use Rattle.measure_laws.proofs
use proofs.Names.{inl, inr, ℕ, suc, ◌≡◌, ◌≤◌, ◌<◌, ◌⊎◌, ◌∙◌, Bool, true, false, ◌&&◌, List, ◌∷◌, length, Option, Some}
use proofs.Names.{None, refl, sym, ap, subst, arith, same_Some, ◌+◌, ◌*◌, not, ◌==◌, drop, if◌then◌else◌, is_some}
use proofs.Names.{and_false, next_some, wrong, wrong', plus_none, ProcId, LineSet, is_data, is_message_out}
use proofs.Names.{changes_phase, bus, Row, Change, Connection, ScenarioValue, Obeys, CmdDef, id_self, array_after}
use proofs.Names.{Process, process_of, same_bool, same_id, data_runs, longest_need, Item, Sent, command_id}
use proofs.Names.{command_item, has_item, process, abort, Story, policy_of, phase_entry, phase_leaving, phase_of}
use proofs.Names.{one_if, Leaving, Phase, Plan, Task, run_state_plain, target_def_of, ProcessProgress, progress_in}
use proofs.Names.{progress_with, IsPlain, RunState, bus_of, process_served, progress_by_leaving, run_state, leaving}
use proofs.Names.{serving_of, is_writing, task_if, IsByLine, by_line, is_in_phase, Knows, is_refusing, is_struck_phase}
use proofs.Names.{none_some, is_data_phase, out_lines, by_bool, items_open, over_after, IsServedOpen, counted_runs}
use proofs.Names.{same_runs, task_here, served_id, ReadBooks, read_books, aborts_left, commands_left, future_left}
use proofs.Names.{is_in_data, open_left, resets_left, serves_item, measure, phase_left, phases_in, phases_left}
use proofs.Names.{reselection_if, sense_bytes_left, struck_left, for_byte, for_fault, for_phase, for_reselection}
use proofs.{Connections.BeginFalls.{calm_resets}, Data.{Ends.{done_turn_falls, run_done_pays}, Leavings.{DataLeaving}}}
use proofs.Data.Leavings.{HasMore, data_leaving, data_out_of, has_more, more_left, no_data, run_done, run_struck}
use proofs.{Data.{Needs.{runs_left, sense_moves_none}, OutFalls.{commands_more}}, Lines.Futures.{future_falls, open_of}}
use proofs.{Lines.Lowers.{lowers_same}, Phases.Still.{shape}, Turns.{Edges.{leaving_turn}, Falls.{TurnRow, turn_in}}}
use proofs.Turns.{Falls.{turn_kind, turn_phase, turn_phases, turn_progress, turn_struck}, Leavings.{FallsDataLeft}}
use proofs.Turns.{Leavings.{LeavingRow}, Struck.{struck_known}, Table.{left_of}}

-- ---- such a row

record LeftRow (s : ScenarioValue) (p : List Row) (row : Row) (n : Connection) (c : Change) : Type 0 where
  turn : TurnRow s p row n c
  begun : (run_state s p).exchange.begun ≡ true
  from : is_data (bus_of (run_state s p)) ≡ true
  to : is_data c.after ≡ false
  other : is_message_out c.after ≡ false
  known : c.after.msg ≡ true → c.after.cd ≡ true

-- The way in which its phase is left.
abbrev way : ScenarioValue → List Row → Connection → Leaving
way s p n = phase_leaving (serving_of s (run_state s p) n.target) (bus_of (run_state s p)).atn
    (phase_of (bus_of (run_state s p)))

way_is : (s : ScenarioValue) (p : List Row) (n : Connection) → (run_state s p).exchange.begun ≡ true
    → leaving s (run_state s p) n.target ≡ way s p n
way_is s p n begun = λ i. if begun i then way s p n else phase_entry Phase.MessageOut

-- What the row keeps, and what it changes.
record LeftStates (s : ScenarioValue) (p : List Row) (row : Row) (n : Connection) : Type 0 where
  sent : (run_state s (row ∷ p)).story.sent ≡ (run_state s p).story.sent
  served : (run_state s (row ∷ p)).served ≡ (run_state s p).served
  still : is_in_data (run_state s (row ∷ p)) ≡ false
  moves : is_in_data (run_state s p) ≡ true
  progress : (run_state s (row ∷ p)).progress
      ≡ progress_by_leaving (run_state s p) (process_served s (run_state s p)) (way s p n)
  resets : resets_left (run_state s (row ∷ p)) s.resets ≡ resets_left (run_state s p) s.resets
  faults : (run_state s (row ∷ p)).faults ≡ (run_state s p).faults

left_states : (s : ScenarioValue) (p : List Row) (row : Row) (n : Connection) (c : Change) → LeftRow s p row n c
    → LeftStates s p row n
left_states s p row n c h =
    let k = run_state s p in
    let j = run_state s (row ∷ p) in
    let dv = h.turn.was.stood.standing.devices in
    let t = turn_in s p row n c h.turn in
    let g = h.turn.goes in
    let w = turn_kind row n c g.row_is.kind h.turn.turned in
    let knows : Knows s k n = h.turn.was.stood.books.knows n g.row_is.connection_is g.calm in
    let off : (bus (row ∷ p)).rst ≡ false =
    ap (λ (l : LineSet). l.rst) (sym (run_state_plain s (row ∷ p) (h.turn.below, dv)).bus ∙ t.bus_is) ∙ g.row_is.calm in
    record {
      sent = (over_after s k row n c false knows.link g.row_is
          (ap (λ (x : Option ℕ). is_some x) w.1) knows.link_is).same (inl h.turn.turned);
      served = t.served_is;
      still = ap (λ (x : Bool). j.exchange.begun && x) (ap is_data t.bus_is ∙ h.to) ∙ and_false j.exchange.begun;
      moves = λ i. h.begun i && h.from i;
      progress = turn_progress s p row n c h.turn
          ∙ (λ i. if h.begun i then progress_by_leaving k (process_served s k) (leaving s k n.target) else k.progress)
          ∙ ap (progress_by_leaving k (process_served s k)) (way_is s p n h.begun);
      resets = calm_resets s p row dv h.turn.below w.0 h.turn.off off;
      faults = ap (λ (b : Bool). if b then drop 1 k.faults else k.faults) w.0;
    }

-- ---- a byte was struck: the run is not done

few_sense : (a : Bool) (m : List ProcessProgress) (o : Option Item) → sense_bytes_left a m o ≤ 144
few_sense a m None = omega arith
few_sense a m (Some (abort l)) = omega arith
few_sense a m (Some (process id)) = go (id.sense && not a && (progress_in m id).runs == 0)
  where
    go : (q : Bool) → (if q then for_byte * 18 else 0) ≤ 144
    go true = omega arith
    go false = omega arith

future_sum : (c d a b r q f g l : ℕ) → c ≤ d + 8 * l → a ≡ b → r ≡ q → f ≡ g
    → c + a + 64 * r + f ≤ d + b + 64 * q + g + 8 * l
future_sum c d a b r q f g l h x y z = omega (arith, h, x, y, z)

struck_sum : (f g l a b x w y z u m v : ℕ) → v ≡ f + 40 + (a + x + y + 0) → m ≡ g + 40 + (b + w + z + u) → f ≤ g + 8 * l
    → a ≤ 4 * 128 → b ≡ 3 * 128 → u ≡ 8 * l + 8 * 128 → x ≤ 106 → y ≤ 144 → suc v ≤ m
struck_sum f g l a b x w y z u m v d e h i c t o r = omega (arith, d, e, h, i, c, t, o, r)

undone : (s : ScenarioValue) (k : RunState) (o : Option Process) (l : Leaving) (id : ProcId) → l.done ≡ false
    → (progress_in (progress_by_leaving k o l) id).runs ≡ (progress_in k.progress id).runs
undone s k None l id e = refl
undone s k (Some q) l id e =
    (λ i. (progress_in (progress_with k.progress q.id (e i) l.counts) id).runs) ∙ same_runs k.progress q.id l.counts id

three : (l : LineSet) → is_data l ≡ true → (r : Bool) (a : Plan) → phases_in r a (phase_of l) ≡ 3 * 128
three l e r a = go l.msg l.cd l.io e
  where
    go : (m d i : Bool) → (not m && not d) ≡ true
        → phases_in r a (if m then (if i then Phase.MessageIn else Phase.MessageOut)
        else if d then (if i then Phase.Status else Phase.Command) else if i then Phase.DataIn else Phase.DataOut)
        ≡ 3 * 128
    go true d i z = wrong' z
    go false true i z = wrong' z
    go false false true z = refl
    go false false false z = refl

struck_turn_falls : (s : ScenarioValue) (p : List Row) (row : Row) (n : Connection) (c : Change) → LeftRow s p row n c
    → (run_state s p).exchange.plan.struck ≡ true → (way s p n).done ≡ false → left_of (way s p n) ≤ 4 * 128
    → suc (measure s (row ∷ p)) ≤ measure s p
struck_turn_falls s p row n c h plan done table =
    let k = run_state s p in
    let q : List Row = row ∷ p in
    let j = run_state s q in
    let l = longest_need s s.commands in
    let t = turn_in s p row n c h.turn in
    let g = h.turn.goes in
    let w = left_states s p row n c h in
    let struck : is_struck_phase s p ≡ true = (struck_known s p plan).0 in
    let commands = commands_more s j k 1 s.commands (record {
      sent = lowers_same k.story.sent j.story.sent w.sent;
      served = w.served;
      still = w.still;
      moves = w.moves;
      runs = λ id. ap (λ (m : List ProcessProgress). (progress_in m id).runs) w.progress
          ∙ undone s k (process_served s k) (way s p n) id done;
    }) in
    let future : future_left s j ≤ future_left s k + 8 * l = future_sum (commands_left s j 1 s.commands)
    (commands_left s k 1 s.commands) (aborts_left s j.story.sent 1 s.aborts) (aborts_left s k.story.sent 1 s.aborts)
    (resets_left j s.resets) (resets_left k s.resets) (for_fault s * length j.faults) (for_fault s * length k.faults) l
    commands (ap (λ (x : Sent). aborts_left s x 1 s.aborts) w.sent) w.resets (λ i. for_fault s * length (w.faults i)) in
    let next = turn_phases s p row n c h.turn h.begun h.other h.known (is_refusing s q)
    ∙ ap left_of (way_is s p n h.begun) in
    let now : phases_left (is_refusing s p) k ≡ 3 * 128 =
    (λ i. if h.begun i then phases_in (is_refusing s p) k.exchange.plan (phase_of (bus_of k))
    else for_reselection + 8 * for_phase) ∙ three (bus_of k) h.from (is_refusing s p) k.exchange.plan in
    let before = shape s k (is_struck_phase s p) (is_refusing s p) n g.calm g.row_is.connection_is in
    let after = shape s j (is_struck_phase s q) (is_refusing s q) n
    (ap (λ (x : LineSet). x.rst) t.bus_is ∙ g.row_is.calm) t.connection_is
    ∙ ap (λ (x : Bool). future_left s j + 40 + (phases_left (is_refusing s q) j + phase_left s j n
    + sense_bytes_left (is_in_data j) j.progress j.served + struck_left s x)) (turn_struck s p row n c h.turn) in
    struck_sum (future_left s j) (future_left s k) l (phases_left (is_refusing s q) j) (phases_left (is_refusing s p) k)
    (phase_left s j n) (phase_left s k n) (sense_bytes_left (is_in_data j) j.progress j.served)
    (sense_bytes_left (is_in_data k) k.progress k.served) (struck_left s (is_struck_phase s p))
    (measure s p) (measure s q) after before future (replaced _ _ next table) now (ap (struck_left s) struck)
    (turn_phase s p row n c h.turn h.to) (few_sense (is_in_data j) j.progress j.served)
  where
    replaced : (a x : ℕ) → a ≡ x → x ≤ 4 * 128 → a ≤ 4 * 128
    replaced a x e f = omega (arith, e, f)

-- ---- the run is done: of a process

-- It is served, has a run more behind it, and no other process has.
record DoneRun (s : ScenarioValue) (p : List Row) (row : Row) (n : Connection) (q : Process) : Type 0 where
  served : (run_state s p).served ≡ Some (process q.id)
  own : process_of s q.id ≡ Some q
  made : (progress_in (run_state s (row ∷ p)).progress q.id).runs ≡ (progress_in (run_state s p).progress q.id).runs + 1
  others : (id : ProcId) → (id ≡ q.id → ⊥)
      → (progress_in (run_state s (row ∷ p)).progress id).runs ≡ (progress_in (run_state s p).progress id).runs

counted : (all : List ProcessProgress) (id : ProcId) (counts : Bool)
    → (progress_in (progress_with all id true counts) id).runs ≡ (progress_in all id).runs + 1
counted all id counts = ap (λ (x : Bool). (if x then record {
  id = id;
  runs = (progress_in all id).runs + 1;
  recoveries = (progress_in all id).recoveries + one_if counts;
} else progress_in all id).runs) (id_self id)

done_run : (s : ScenarioValue) (p : List Row) (row : Row) (n : Connection) (q : Process) → LeftStates s p row n
    → process_served s (run_state s p) ≡ Some q → (way s p n).done ≡ true → DoneRun s p row n q
done_run s p row n q w e done =
    let k = run_state s p in
    let l = way s p n in
    let id = served_id s k.served q e in
    let progress : (run_state s (row ∷ p)).progress ≡ progress_with k.progress q.id true l.counts = w.progress
    ∙ ap (λ (o : Option Process). progress_by_leaving k o l) e
    ∙ ap (λ (x : Bool). progress_with k.progress q.id x l.counts) done in
    record {
      served = id.0;
      own = id.1;
      made = ap (λ (x : List ProcessProgress). (progress_in x q.id).runs) progress ∙ counted k.progress q.id l.counts;
      others = λ other ne. ap (λ (x : List ProcessProgress). (progress_in x other).runs) progress
          ∙ counted_runs k.progress q.id true l.counts other ne;
    }

-- Of an automatic REQUEST SENSE: it has one run, after which no bytes are set aside for it.
sense_apart : (id : ProcId) (m : ℕ) → id.sense ≡ true → same_id id (command_id m) ≡ false
sense_apart id m e = (λ i. (id.command == m) && same_bool (e i) false) ∙ and_false (id.command == m)

sense_done : (a : Bool) (m : List ProcessProgress) (o : Option Item) (id : ProcId) (r : ℕ) → o ≡ Some (process id)
    → (progress_in m id).runs ≡ r + 1 → sense_bytes_left a m o ≡ 0
sense_done a m o id r e f = ap (λ (x : Option Item). sense_bytes_left a m x) e
    ∙ (λ i. if id.sense && not a && (ap (λ (x : ℕ). x == 0) f ∙ next_some r) i then for_byte * 18 else 0)
    ∙ (λ i. if and_false (id.sense && not a) i then for_byte * 18 else 0)

sense_pays : (s : ScenarioValue) (p : List Row) (row : Row) (n : Connection) (q : Process)
    → LeftStates s p row n → DoneRun s p row n q → q.id.sense ≡ true
    → future_left s (run_state s (row ∷ p)) + 64 * 0 ≤ future_left s (run_state s p)
sense_pays s p row n q w d e =
    future_falls s j k 0 (record {
      sent = lowers_same k.story.sent j.story.sent w.sent;
      «open» = λ m c at o. same_less (open_of s j m c) (open_of s k m c) (later m c ∙ sym (now m c));
      resets = same_less (resets_left j s.resets + 0) (resets_left k s.resets)
          (plus_none (resets_left j s.resets) ∙ w.resets);
      faults = w.faults;
    })
  where
    k : RunState
    k = run_state s p

    j : RunState
    j = run_state s (row ∷ p)

    apart : (m : ℕ) → command_id m ≡ q.id → ⊥
    apart m z = absurd (wrong (sym (ap (λ (x : ProcId). x.sense) z ∙ e)))

    unserved : (o : Option Item) (m : ℕ) → o ≡ Some (process q.id) → serves_item o (command_item m) ≡ false
    unserved o m z = ap (λ (x : Option Item). serves_item x (command_item m)) z ∙ sense_apart q.id m e

    left : ℕ → CmdDef → ℕ
    left m c = open_left s false false (progress_in k.progress (command_id m)).runs c

    later : (m : ℕ) (c : CmdDef) → open_of s j m c ≡ left m c
    later m c = λ i. open_left s (unserved j.served m (w.served ∙ d.served) i) (w.still i)
        (d.others (command_id m) (apart m) i) c

    now : (m : ℕ) (c : CmdDef) → open_of s k m c ≡ left m c
    now m c =
        (λ i. open_left s (unserved k.served m d.served i) (w.moves i) (progress_in k.progress (command_id m)).runs c)

    same_less : (a b : ℕ) → a ≡ b → a ≤ b
    same_less a b z = omega (arith, z)

-- ---- the run is done

-- What is known of the process whose run it is.
record MovesHere (s : ScenarioValue) (p : List Row) (n : Connection) (q : Process) : Type 0 where
  target_is : q.target ≡ n.target
  there : is_some (target_def_of s n.target) ≡ true
  array_is : (run_state s p).array ≡ array_after s (run_state s p).story.history
  sent : has_item (run_state s p).story.sent.sent (process q.id) ≡ true
  opens : has_item (run_state s p).story.sent.over (process q.id) ≡ false

out_of_messages : (l : LineSet) → is_data l ≡ true → is_in_phase (phase_of l) ≡ false
out_of_messages l e = go l.msg l.cd l.io e
  where
    go : (m d i : Bool) → (not m && not d) ≡ true
        → is_in_phase (if m then (if i then Phase.MessageIn else Phase.MessageOut)
        else if d then (if i then Phase.Status else Phase.Command) else if i then Phase.DataIn else Phase.DataOut)
        ≡ false
    go true d i z = wrong' z
    go false true i z = wrong' z
    go false false true z = refl
    go false false false z = refl

moves_here : (s : ScenarioValue) (p : List Row) (row : Row) (n : Connection) (r : LeavingRow s p row n) (q : Process)
    → is_data (bus_of (run_state s p)) ≡ true → process_served s (run_state s p) ≡ Some q → MovesHere s p n q
moves_here s p row n r q from e =
    let k = run_state s p in
    let was = r.linked.calm.was in
    let books = read_books s p r.linked.calm.obeys r.linked.calm.prompt.0 in
    let pl = was.stood.plain in
    let con = pl.connection ∙ r.linked.stands in
    let quiet : (bus_of k).rst ≡ false = ap (λ (l : LineSet). l.rst) pl.bus ∙ r.linked.calm.off in
    let id = served_id s k.served q e in
    let opened : IsServedOpen k = items_open s p n was.stood was.facts.items r.linked.stands r.linked.calm.off in
    record {
      target_is = by books con quiet (is_writing q) refl;
      there = (was.ends n r.linked.stands).target;
      array_is = pl.array ∙ ap (λ (x : Story). array_after s x.history) (sym pl.story);
      sent = opened.sent (process q.id) id.0;
      opens = opened.open_is (process q.id) id.0 (out_of_messages (bus_of k) from);
    }
  where
    by : ReadBooks s p → (run_state s p).story.bus_state.connection ≡ Some n → (bus_of (run_state s p)).rst ≡ false
        → (x : Bool) → is_writing q ≡ x → q.target ≡ n.target
    by books con quiet true w = (r.linked.calm.was.sends.runs.served n q con quiet e w).target_is
    by books con quiet false w = (books.pointers.served n q con quiet e w).target_is

-- Where more runs follow, they are those of a command, and set aside for it.
done_pays : (s : ScenarioValue) (p : List Row) (row : Row) (n : Connection) (q : Process) → Obeys s
    → LeftStates s p row n → DoneRun s p row n q → MovesHere s p n q → future_left s (run_state s (row ∷ p))
    + reselection_if (has_more (serving_of s (run_state s p) n.target) (task_here s (run_state s p) q))
    + sense_bytes_left (is_in_data (run_state s (row ∷ p))) (run_state s (row ∷ p)).progress
    (run_state s (row ∷ p)).served ≤ future_left s (run_state s p)
    + sense_bytes_left (is_in_data (run_state s p)) (run_state s p).progress (run_state s p).served
done_pays s p row n q o w d h = go q.id.sense refl
  where
    k : RunState
    k = run_state s p

    j : RunState
    j = run_state s (row ∷ p)

    t : Task
    t = task_here s k q

    more : Bool
    more = has_more (serving_of s k n.target) t

    none_left : sense_bytes_left (is_in_data j) j.progress j.served ≡ 0
    none_left = sense_done (is_in_data j) j.progress j.served q.id (progress_in k.progress q.id).runs
        (w.served ∙ d.served) d.made

    sense_sum : (f g e x y : ℕ) → f + 64 * 0 ≤ g → e ≡ 0 → x ≡ 0 → f + e + x ≤ g + y
    sense_sum f g e x y a b c = omega (arith, a, b, c)

    command_sum : (f g e x y : ℕ) → f + e ≤ g → x ≡ 0 → f + e + x ≤ g + y
    command_sum f g e x y a b = omega (arith, a, b)

    last : q.id.sense ≡ true → more ≡ false
    last e =
        by_bool more
        (λ z.
        let m = more_left (policy_of (target_def_of s n.target)) t z in
        none_some m.blocks (sym (sense_moves_none s q d.own e) ∙ m.blocks_are))
        (λ z. z)

    go : (x : Bool) → q.id.sense ≡ x
        → future_left s j + reselection_if more + sense_bytes_left (is_in_data j) j.progress j.served
        ≤ future_left s k + sense_bytes_left (is_in_data k) k.progress k.served
    go true e = sense_sum (future_left s j) (future_left s k) (reselection_if more)
        (sense_bytes_left (is_in_data j) j.progress j.served) (sense_bytes_left (is_in_data k) k.progress k.served)
        (sense_pays s p row n q w d e) (ap reselection_if (last e)) none_left
    go false e = command_sum (future_left s j) (future_left s k) (reselection_if more)
        (sense_bytes_left (is_in_data j) j.progress j.served) (sense_bytes_left (is_in_data k) k.progress k.served)
        (run_done_pays s j k q.id.command more line.line line.is (ap (has_item k.story.sent.sent) item ∙ h.sent)
        (ap (has_item k.story.sent.over) item ∙ h.opens) (record {
          sent = w.sent;
          served = w.served ∙ d.served ∙ ap (λ (x : Item). Some x) (sym item);
          before = d.served ∙ ap (λ (x : Item). Some x) (sym item);
          still = w.still;
          moves = w.moves;
          made = subst (λ (x : ProcId). (progress_in j.progress x).runs ≡ (progress_in k.progress x).runs + 1) id_is
              d.made;
          others = λ m ne. d.others (command_id m) (λ z. ne (ap (λ (x : ProcId). x.command) z));
          resets = w.resets;
          faults = w.faults;
        }) (λ z. subst (λ (x : ProcId). (progress_in k.progress x).runs < data_runs s line.line) id_is (left z)))
        none_left
      where
        line : IsByLine s q
        line = by_line s q d.own e

        id_is : q.id ≡ command_id q.id.command
        id_is = λ i. record { command = q.id.command; sense = e i }

        item : command_item q.id.command ≡ process q.id
        item = ap (λ (x : ProcId). process x) (sym id_is)

        left : more ≡ true → (progress_in k.progress q.id).runs < data_runs s line.line
        left z = runs_left s k q line o h.array_is d.own (ap (λ (x : ℕ). is_some (target_def_of s x)) h.target_is
            ∙ h.there) (subst (λ (x : ℕ). HasMore (policy_of (target_def_of s x)) t) (sym h.target_is)
            (more_left (policy_of (target_def_of s n.target)) t z))

-- ---- the row

data_phase : (l : LineSet) → is_data l ≡ true → (phase_of l ≡ Phase.DataIn) ⊎ (phase_of l ≡ Phase.DataOut)
data_phase l e = go l.msg l.cd l.io e
  where
    of : Bool → Bool → Bool → Phase
    of m d i =
        if m then (if i then Phase.MessageIn else Phase.MessageOut)
        else if d then (if i then Phase.Status else Phase.Command) else if i then Phase.DataIn else Phase.DataOut

    go : (m d i : Bool) → (not m && not d) ≡ true → (of m d i ≡ Phase.DataIn) ⊎ (of m d i ≡ Phase.DataOut)
    go true d i z = wrong' z
    go false true i z = wrong' z
    go false false true z = inl refl
    go false false false z = inr refl

pub falls_data_left : FallsDataLeft
falls_data_left s p row n r other from = by (data_leaving (serving_of s k n.target) (bus_of k).atn (phase_of (bus_of k))
    (phase_of c.after) (data_phase (bus_of k) on) to no_out)
  where
    k : RunState
    k = run_state s p

    c : Change
    c = r.turned.change

    pl : IsPlain s p k
    pl = r.linked.calm.was.stood.plain

    on : is_data (bus_of k) ≡ true
    on = ap is_data pl.bus ∙ from

    turn : TurnRow s p row n c
    turn = leaving_turn s p row n r

    begun : k.exchange.begun ≡ true
    begun = pl.begun ∙ r.begun_is

    to : (way s p n).to ≡ Some (phase_of c.after)
    to =
        ap (λ (l : Leaving). l.to) (sym (way_is s p n begun))
        ∙ turn.lines.whereto (ap changes_phase turn.lines_are ∙ turn.turned) r.begun_is
        ∙ ap (λ (x : Change). Some (phase_of x.after)) turn.lines_are

    no_out : phase_of c.after ≡ Phase.MessageOut → ⊥
    no_out e = absurd (wrong (sym (out_lines c.after e r.known) ∙ other))

    -- DATA is left for no data
    quiet : is_data c.after ≡ false
    quiet = by_bool (is_data c.after) (λ e. no_data (phase_of c.after) away (data_phase c.after e)) (λ e. e)
      where
        away : is_data_phase (phase_of c.after) ≡ false
        away = data_out_of (serving_of s k n.target) (bus_of k).atn (phase_of (bus_of k)) (data_phase (bus_of k) on)
            (phase_of c.after) to

    left : LeftRow s p row n c
    left = record { turn = turn; begun = begun; from = on; to = quiet; other = other; known = r.known }

    states : LeftStates s p row n
    states = left_states s p row n c left

    by : DataLeaving (serving_of s k n.target) (way s p n) → suc (measure s (row ∷ p)) ≤ measure s p
    by (run_struck struck done table) = struck_turn_falls s p row n c left struck done table
    by (run_done t e done table) = at (process_served s k) refl e
      where
        at : (o : Option Process) → process_served s k ≡ o → task_if s k o ≡ Some t
            → suc (measure s (row ∷ p)) ≤ measure s p
        at None f z = none_some t z
        at (Some q) f z = done_turn_falls s p row n c
            (has_more (serving_of s k n.target) t) turn begun on quiet other r.known table (subst
            (λ (x : Task). future_left s (run_state s (row ∷ p)) + reselection_if (has_more (serving_of s k n.target) x)
            + sense_bytes_left (is_in_data (run_state s (row ∷ p))) (run_state s (row ∷ p)).progress
            (run_state s (row ∷ p)).served ≤ future_left s k + sense_bytes_left (is_in_data k) k.progress k.served)
            (same_Some (task_here s k q) t z) (done_pays s p row n q r.linked.calm.obeys states
            (done_run s p row n q states f done) (moves_here s p row n r q on f)))
