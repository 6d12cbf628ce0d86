-- The measure falls with the row with which a DATA phase begins: what is left of the bytes of its command, or of its
-- automatic REQUEST SENSE, pays for those of the run.
use Rattle.measure_laws.proofs
use proofs.Names.{inl, inr, ℕ, ◌≡◌, ◌≤◌, ◌<◌, ◌⊎◌, ◌∙◌, Bool, true, false, ◌&&◌, List, ◌∷◌, length, Option, Some, None}
use proofs.Names.{Result, Ok, Err, refl, sym, ap, subst, arith, [], ltb-true, same_Some, ◌+◌, ◌*◌, ◌-◌, not, ◌==◌, drop}
use proofs.Names.{if◌then◌else◌, is_some, nat_lt, and_false, wrong, wrong', plus_none, ProcId, LineSet, changes_phase}
use proofs.Names.{is_data, connection, bus, Row, Change, Connection, command_of, CdbFault, Command, GOOD, need_is}
use proofs.Names.{has_target, unit_of, is_tape, is_write, moved_by, need_of, sent_of, need_at, ScenarioValue, Obeys}
use proofs.Names.{CmdDef, Policy, UnitDef, none_named, serial_is, array_after, range_of, range_in, range_named, Process}
use proofs.Names.{command_at, command_process, process_by, process_if, process_of, same_bool, sense_block}
use proofs.Names.{sense_process, Array, UnitState, unit_state_at, Item, command_id, command_item, has_item, process}
use proofs.Names.{Story, policy_of, run_in, runs_in, runs_in_all, Serving, bus_free, phase_entry, phase_leaving}
use proofs.Names.{phase_of, unless_attention, after_messages, run_length_if, Leaving, Next, Phase, Task}
use proofs.Names.{run_state_plain, target_def_of, progress_in, IsPrompt, IsPlain, RunState, array_of, bus_of}
use proofs.Names.{process_item, process_served, run_state, leaving, serving_of, blocks_in, is_writing, moved_count}
use proofs.Names.{reply_now, size_of, task_if, task_of, command_fits, obeys_fits, IsCommandLine, IsByLine, by_line}
use proofs.Names.{AreOfLines, IsOfLine, AreOfKinds, Knows, none_some, in_phase, by_bool, zero_below, TalksBy, frees_bus}
use proofs.Names.{talk_of, over_after, enters_run, task_here, lines_now, kinds_now, served_id, Whole, enters_read}
use proofs.Names.{read_books, whole_now, given_few, most_given, HasWhole, bytes_after, future_left, is_in_data}
use proofs.Names.{open_left, range_if, resets_left, serves_item, size_if, range_at, sense_bytes_left}
use proofs.{Connections.BeginFalls.{calm_resets}, Data.Bytes.{blocks_of, length_of, run_bytes}}
use proofs.Data.{Commands.{command_turn_falls}, Needs.{target_there}, Turns.{data_turn_falls, run_of}}
use proofs.{Lines.{Futures.{future_falls, open_of}, Lowers.{lowers_same}}, Phases.Falls.{FallsWith}}
use proofs.Turns.{Edges.{leaving_turn}, Falls.{TurnRow, turn_in, turn_kind, turn_runs}, Leavings.{FallsDataEntered}}
use proofs.Turns.Leavings.{LeavingRow}

-- ---- how DATA is entered

-- For a process that has a run left.
record Enters (v : Serving) : Type 0 where
  task : Task
  task_is : v.task ≡ Some task
  more : nat_lt task.runs (runs_in_all (policy_of v.def) task) ≡ true

enters : (v : Serving) (atn : Bool) (x y : Phase) → (y ≡ Phase.DataIn) ⊎ (y ≡ Phase.DataOut)
    → (phase_leaving v atn x).to ≡ Some y → Enters v
enters v atn x y (inl d) to =
    let w = enters_read v atn x (to ∙ ap (λ (z : Phase). Some z) d) in
    record { task = w.task; task_is = w.task_is; more = w.more }
enters v atn x y (inr d) to =
    let w = enters_run v atn x (to ∙ ap (λ (z : Phase). Some z) d) in
    record { task = w.task; task_is = w.task_is; more = w.more }

data_phase : (l : LineSet) → is_data l ≡ true → (phase_of l ≡ Phase.DataIn) ⊎ (phase_of l ≡ Phase.DataOut)
data_phase l e = go l.msg l.cd l.io e
  where
    go : (m d i : Bool) → (not m && not d) ≡ true
        → (let x : Phase = if m then (if i then Phase.MessageIn else Phase.MessageOut)
        else if d then (if i then Phase.Status else Phase.Command) else if i then Phase.DataIn else Phase.DataOut in
        (x ≡ Phase.DataIn) ⊎ (x ≡ Phase.DataOut))
    go true d i z = wrong' z
    go false true i z = wrong' z
    go false false true z = inl refl
    go false false false z = inr refl

-- Not from a MESSAGE IN after which the bus is freed.
freed_before : {A : Type 0} (v : Serving) (atn : Bool) (y : Phase) → (y ≡ Phase.DataIn) ⊎ (y ≡ Phase.DataOut)
    → frees_bus v.plan.next ≡ true → (phase_leaving v atn Phase.MessageIn).to ≡ Some y → A
freed_before {A = A} v atn y d f to = by v.plan.next f to
  where
    out : (Phase.MessageOut ≡ y) → (y ≡ Phase.DataIn) ⊎ (y ≡ Phase.DataOut) → A
    out e (inl z) = let w : Phase.MessageOut ≡ Phase.DataIn = e ∙ z in absurd cc
    out e (inr z) = let w : Phase.MessageOut ≡ Phase.DataOut = e ∙ z in absurd cc

    go : (q : Bool) → (unless_attention q bus_free).to ≡ Some y → A
    go true e = out (same_Some Phase.MessageOut y e) d
    go false e = none_some y e

    by : (next : Next) → frees_bus next ≡ true → (unless_attention atn (after_messages v next)).to ≡ Some y → A
    by Next.FreeBus z e = go atn e
    by _ z e = wrong' z

-- ---- the bytes that a process moves

blocks_same : (r : Result Command CdbFault) → blocks_in (range_in r) ≡ blocks_of (range_if r)
blocks_same (Err fault) = refl
blocks_same (Ok c) = elim (range_of c) as (λ o. blocks_in o ≡ blocks_of o) [ None ↦ refl | Some range ↦ refl ]

-- As its command's line says.
blocks_at : (s : ScenarioValue) (q : Process) (line : IsByLine s q) → process_of s q.id ≡ Some q
    → blocks_in (range_named q) ≡ blocks_of (range_at s line.line)
blocks_at s q line own =
    (λ i. blocks_in (if serial i then None else range_in (command_of (line.cdb i))))
    ∙ by (is_tape s line.line.target line.line.unit)
  where
    serial : q.serial ≡ is_tape s line.line.target line.line.unit
    serial = serial_is s q own ∙ (λ i. is_tape s (line.target i) (line.unit i))

    by : (tape : Bool) → blocks_in (if tape then None else range_in (command_of line.line.cdb))
        ≡ blocks_of (if tape then None else range_if (command_of line.line.cdb))
    by true = refl
    by false = blocks_same (command_of line.line.cdb)

size_same : (o : Option UnitDef) (x : Option UnitState) → IsOfLine o x → size_of x ≡ size_if o
size_same None None h = refl
size_same None (Some v) h = absurd h
size_same (Some u) None h = absurd h
size_same (Some u) (Some v) h = h.1

-- No more than its command needs.
sent_few : (s : ScenarioValue) (c : CmdDef) → sent_of s c ≤ need_of s c
unfolding sent_of
sent_few s c = go (is_write (command_of c.cdb))
  where
    go : (q : Bool) → (if q then need_of s c else 0) ≤ need_of s c
    go true = omega arith
    go false = omega arith

counted_few : (good writes : Bool) (sent given : List ℕ) (most : ℕ) → length sent ≤ most
    → (writes ≡ false → length given ≤ most) → length (if writes then (if good then sent else []) else given) ≤ most
counted_few true true sent given most h g = h
counted_few false true sent given most h g = omega arith
counted_few good false sent given most h g = g refl

moved_few : (s : ScenarioValue) (a : Array) (q : Process) (line : IsByLine s q) → Obeys s → AreOfLines s a
    → AreOfKinds s a → HasWhole a → has_target s q.target ≡ true → moved_count q (reply_now a q) ≤ need_of s line.line
moved_few s a q line o lines kinds whole there = counted_few ((reply_now a q).status == GOOD) (is_writing q) q.sent
    (reply_now a q).bytes (need_of s line.line) (chain (length q.sent) (sent_of s line.line)
    (need_of s line.line) (ap (λ (x : List ℕ). length x) line.sent ∙ fits.sent) (sent_few s line.line))
    (λ reads. subst (λ (x : ℕ). length (reply_now a q).bytes ≤ x) (need reads)
    (given_few s a q lines kinds whole))
  where
    fits : IsCommandLine s line.line
    fits = command_fits s q.id.command line.line (obeys_fits s o) line.is

    chain : (a b c : ℕ) → a ≡ b → b ≤ c → a ≤ c
    chain a b c e h = omega (arith, e, h)

    need : is_writing q ≡ false
        → most_given (is_tape s q.target q.unit) q.cdb (unit_of s q.target q.unit) ≡ need_of s line.line
    need reads = (λ i. if reads i then 0 else need_at (is_tape s q.target q.unit) q.cdb (unit_of s q.target q.unit))
        ∙ (λ i. need_at (is_tape s (line.target i) (line.unit i))
        (line.cdb i) (unit_of s (line.target i) (line.unit i)))
        ∙ sym (need_is s line.line (ap (has_target s) (sym line.target) ∙ there))

-- ---- a run of an automatic REQUEST SENSE

sense_cdb : (s : ScenarioValue) (q : Process) → process_of s q.id ≡ Some q → q.id.sense ≡ true → q.cdb ≡ sense_block
sense_cdb s q own sense = go (command_at s.commands q.id.command) own
  where
    go : (o : Option CmdDef) → process_if s q.id o ≡ Some q → q.cdb ≡ sense_block
    go None e = none_some q e
    go (Some c) e =
        let made : process_by s q.id c ≡ q = same_Some (process_by s q.id c) q e in
        let by : (if q.id.sense then sense_process s q.id c else command_process s q.id c) ≡ sense_process s q.id c =
        λ i. if sense i then sense_process s q.id c else command_process s q.id c in
        ap (λ (x : Process). x.cdb) (sym made ∙ by)

sense_few : (s : ScenarioValue) (a : Array) (q : Process) → q.cdb ≡ sense_block → AreOfLines s a → AreOfKinds s a
    → HasWhole a → moved_count q (reply_now a q) ≤ 18
sense_few s a q e lines kinds whole = counted ((reply_now a q).status == GOOD) (is_writing q) q.sent
    (reply_now a q).bytes (ap (λ (x : List ℕ). is_write (command_of x)) e)
    (subst (λ (x : ℕ). length (reply_now a q).bytes ≤ x)
    (ap (λ (x : List ℕ). most_given tape x line) e ∙ most tape line) (given_few s a q lines kinds whole))
  where
    tape : Bool
    tape = is_tape s q.target q.unit

    line : Option UnitDef
    line = unit_of s q.target q.unit

    most : (x : Bool) (o : Option UnitDef) → most_given x sense_block o ≡ 18
    most true o = refl
    most false o = refl

    counted : (good writes : Bool) (sent given : List ℕ) → writes ≡ false → length given ≤ 18
        → length (if writes then (if good then sent else []) else given) ≤ 18
    counted good true sent given z h = wrong z
    counted good false sent given z h = h

-- ---- the process that is served

-- Its target is that of the connection.
serves_there : (s : ScenarioValue) (p : List Row) (n : Connection) (q : Process) → Obeys s → IsPrompt s p → Whole s p
    → connection p ≡ Some n → (bus p).rst ≡ false → process_served s (run_state s p) ≡ Some q → q.target ≡ n.target
serves_there s p n q o prompt was con off e =
    by_bool (is_writing q)
    (λ w. (was.sends.runs.served n q stands calm e w).target_is)
    (λ w. ((read_books s p o prompt).pointers.served n q stands calm e w).target_is)
  where
    k : RunState
    k = run_state s p

    stands : k.story.bus_state.connection ≡ Some n
    stands = was.stood.plain.connection ∙ con

    calm : (bus_of k).rst ≡ false
    calm = ap (λ (l : LineSet). l.rst) was.stood.plain.bus ∙ off

some_run : (moved runs total : ℕ) → nat_lt runs (if moved == 0 then 0 else total) ≡ true → runs < total
some_run moved runs total e = go (moved == 0) e
  where
    go : (q : Bool) → nat_lt runs (if q then 0 else total) ≡ true → runs < total
    go true z = let w = ltb-true runs 0 z in absurd (omega (arith, w))
    go false z = ltb-true runs total z

-- While a REQUEST SENSE is served nothing else is left, or is not.
sense_future : (s : ScenarioValue) (p : List Row) (row : Row) (n : Connection) (c : Change) (q : Process)
    → TurnRow s p row n c → (run_state s p).exchange.begun ≡ true → is_data (bus_of (run_state s p)) ≡ false
    → is_data c.after ≡ true → (run_state s p).served ≡ Some (process q.id) → q.id.sense ≡ true
    → future_left s (run_state s (row ∷ p)) ≤ future_left s (run_state s p)
sense_future s p row n c q h begun from into served sense =
    let k = run_state s p in
    let j = run_state s (row ∷ p) in
    let dv = h.was.stood.standing.devices in
    let t = turn_in s p row n c h in
    let g = h.goes in
    let w = turn_kind row n c g.row_is.kind h.turned in
    let knows : Knows s k n = h.was.stood.books.knows n g.row_is.connection_is g.calm in
    let off_next : (bus (row ∷ p)).rst ≡ false =
    ap (λ (l : LineSet). l.rst) (sym (run_state_plain s (row ∷ p) (h.below, dv)).bus ∙ t.bus_is) ∙ g.row_is.calm in
    let sent = (over_after s k row n c false knows.link g.row_is
    (ap (λ (x : Option ℕ). is_some x) w.1) knows.link_is).same (inl h.turned) in
    let runs : (id : ProcId) → (progress_in j.progress id).runs ≡ (progress_in k.progress id).runs = turn_runs
    s p row n c h (λ i. begun i && from i) in
    zero_more (future_left s j) (future_left s k) (future_falls s j k 0 (record {
      sent = lowers_same k.story.sent j.story.sent sent;
      «open» = λ m d at o. same_less (open_of s j m d) (open_of s k m d) ((λ i. open_left s
          (serves_item ((t.served_is ∙ served) i) (command_item m)) (is_in_data j) (runs (command_id m) i) d)
          ∙ (λ i. open_left s (other m i) (is_in_data j) (progress_in k.progress (command_id m)).runs d)
          ∙ sym ((λ i. open_left s (serves_item (served i) (command_item m))
          (is_in_data k) (progress_in k.progress (command_id m)).runs d)
          ∙ (λ i. open_left s (other m i) (is_in_data k) (progress_in k.progress (command_id m)).runs d)));
      resets = same_less (resets_left j s.resets + 0) (resets_left k s.resets)
          (plus_none (resets_left j s.resets) ∙ calm_resets s p row dv h.below w.0 h.off off_next);
      faults = ap (λ (b : Bool). if b then drop 1 k.faults else k.faults) w.0;
    }))
  where
    other : (m : ℕ) → serves_item (Some (process q.id)) (command_item m) ≡ false
    other m = (λ i. q.id.command == m && same_bool (sense i) false) ∙ and_false (q.id.command == m)

    zero_more : (a b : ℕ) → a + 64 * 0 ≤ b → a ≤ b
    zero_more a b h = omega arith

    same_less : (a b : ℕ) → a ≡ b → a ≤ b
    same_less a b e = omega arith

-- ---- the row

falls : (s : ScenarioValue) (p : List Row) (row : Row) (n : Connection)
    → (r : LeavingRow s p row n) → is_data (bus p) ≡ false → is_data r.turned.change.after ≡ true → FallsWith s p row
falls s p row n r from into = go (process_served s k) refl
  where
    o : Obeys s
    o = r.linked.calm.obeys

    k : RunState
    k = run_state s p

    j : RunState
    j = run_state s (row ∷ p)

    c : Change
    c = r.turned.change

    h : TurnRow s p row n c
    h = leaving_turn s p row n r

    pl : IsPlain s p k
    pl = h.was.stood.plain

    pl2 : IsPlain s (row ∷ p) j
    pl2 = run_state_plain s (row ∷ p) (h.below, h.was.stood.standing.devices)

    begun_is : k.exchange.begun ≡ true
    begun_is = pl.begun ∙ r.begun_is

    from_is : is_data (bus_of k) ≡ false
    from_is = ap is_data pl.bus ∙ from

    v : Serving
    v = serving_of s k n.target

    data_is : (phase_of c.after ≡ Phase.DataIn) ⊎ (phase_of c.after ≡ Phase.DataOut)
    data_is = data_phase c.after into

    left : leaving s k n.target ≡ phase_leaving v (bus_of k).atn (phase_of (bus_of k))
    left =
        λ i. if begun_is i then phase_leaving v (bus_of k).atn (phase_of (bus_of k)) else phase_entry Phase.MessageOut

    to : (phase_leaving v (bus_of k).atn (phase_of (bus_of k))).to ≡ Some (phase_of c.after)
    to = ap (λ (l : Leaving). l.to) (sym left) ∙ h.lines.whereto (ap changes_phase h.lines_are ∙ h.turned) r.begun_is
        ∙ ap (λ (x : Change). Some (phase_of x.after)) h.lines_are

    w : Enters v
    w = enters v (bus_of k).atn (phase_of (bus_of k)) (phase_of c.after) data_is to

    con : k.story.bus_state.connection ≡ Some n
    con = h.goes.row_is.connection_is

    knows : Knows s k n
    knows = h.was.stood.books.knows n con h.goes.calm

    -- what is served is not over
    opens : (i : Item) → k.served ≡ Some i → has_item k.story.sent.over i ≡ false
    opens i served =
        by_bool (has_item k.story.sent.over i)
        (λ e.
        let ended = talks.over i served e in
        freed_before v (bus_of k).atn (phase_of c.after) data_is ended.taken.next_is
        (ap (λ (x : Phase). (phase_leaving v (bus_of k).atn x).to) (sym (in_phase (bus_of k) ended.taken.here)) ∙ to))
        (λ e. e)
      where
        talks : TalksBy s (talk_of k) n knows.link
        talks = h.was.facts.items.items.talks n con h.goes.calm knows.link knows.link_is

    go : (x : Option Process) → process_served s k ≡ x → FallsWith s p row
    go None e = none_some w.task (sym (ap (task_if s k) e) ∙ w.task_is)
    go (Some q) e = by q.id.sense refl
      where
        served : k.served ≡ Some (process q.id)
        served = (served_id s k.served q e).0

        own : process_of s q.id ≡ Some q
        own = (served_id s k.served q e).1

        policy : Policy
        policy = policy_of (target_def_of s n.target)

        target : q.target ≡ n.target
        target = serves_there s p n q o r.linked.calm.prompt.0 h.was r.linked.stands r.linked.calm.off e

        there : has_target s q.target ≡ true
        there = ap (has_target s) target ∙ target_there s n.target (h.was.ends n r.linked.stands).target

        t : Task
        t = task_here s k q

        same : w.task ≡ t
        same = sym (same_Some t w.task (sym (ap (task_if s k) e) ∙ w.task_is))

        more : t.runs < runs_in policy t.blocks
        more = some_run t.moved t.runs (runs_in policy t.blocks)
            (subst (λ (x : Task). nat_lt x.runs (runs_in_all policy x) ≡ true) same w.more)

        still_before : is_in_data k ≡ false
        still_before = λ i. begun_is i && from_is i

        runs : (progress_in j.progress q.id).runs ≡ (progress_in k.progress q.id).runs
        runs = turn_runs s p row n c h still_before q.id

        is_j : j.array ≡ array_after s j.story.history
        is_j = pl2.array ∙ ap (λ (x : Story). array_after s x.history) (sym pl2.story)

        lines : AreOfLines s (array_of s j)
        lines = lines_now s j.story.history j.array (sym is_j)

        kinds : AreOfKinds s (array_of s j)
        kinds = kinds_now s j.story.history j.array (sym is_j)

        whole : HasWhole (array_of s j)
        whole = whole_now s j.story.history j.array o (sym is_j)

        moved : ℕ
        moved = moved_count q (reply_now (array_of s j) q)

        size : ℕ
        size = size_of (unit_state_at (array_of s j).units q.target q.unit)

        task_is : task_of s j ≡ Some (task_here s j q)
        task_is = ap (task_if s j) (ap (process_item s) (turn_in s p row n c h).served_is ∙ e)

        run_is : run_of s j n
            ≡ length_of (run_in policy (blocks_in (range_named q)) size moved (progress_in k.progress q.id).runs)
        run_is =
            ap (run_length_if policy) task_is
            ∙ ap (λ (x : ℕ). length_of (run_in policy (blocks_in (range_named q)) size moved x)) runs

        by : (b : Bool) → q.id.sense ≡ b → FallsWith s p row
        by false plain = command (by_line s q own plain)
          where
            m : ℕ
            m = q.id.command

            id_is : q.id ≡ command_id m
            id_is = λ i. record { command = m; sense = plain i }

            command : IsByLine s q → FallsWith s p row
            command line = command_turn_falls s p row n c m line.line o r.linked.calm.prompt h r.linked.stands
                begun_is from_is into (served ∙ ap (λ (x : ProcId). Some (process x)) id_is) line.is
                (ap (λ (x : ProcId). has_item k.story.sent.sent (process x)) (sym id_is)
                ∙ h.was.places.sent q.id served)
                (opens (command_item m) (served ∙ ap (λ (x : ProcId). Some (process x)) id_is)) (replaced (run_of s j n)
                (length_of (run_in of_line blocks of_unit moved made)) (bytes_after s line.line (made + 1))
                (bytes_after s line.line made) run (run_bytes of_line (range_at s line.line) of_unit
                (need_of s line.line) moved made (moved_few s (array_of s j) q line o lines kinds whole there)
                (subst (λ (x : ℕ). x < runs_in of_line blocks) made_is
                (subst (λ (x : Policy). (progress_in k.progress q.id).runs < runs_in x blocks) policy_is
                (subst (λ (x : Option ℕ). (progress_in k.progress q.id).runs < runs_in policy x) blocks_are more)))))
              where
                made : ℕ
                made = (progress_in k.progress (command_id m)).runs

                made_is : (progress_in k.progress q.id).runs ≡ made
                made_is = ap (λ (x : ProcId). (progress_in k.progress x).runs) id_is

                of_line : Policy
                of_line = policy_of (target_def_of s line.line.target)

                policy_is : policy ≡ of_line
                policy_is = ap (λ (x : ℕ). policy_of (target_def_of s x)) (sym target ∙ line.target)

                blocks : Option ℕ
                blocks = blocks_of (range_at s line.line)

                blocks_are : blocks_in (range_named q) ≡ blocks
                blocks_are = blocks_at s q line own

                of_unit : ℕ
                of_unit = size_if (unit_of s line.line.target line.line.unit)

                size_is : size ≡ of_unit
                size_is = size_same (unit_of s q.target q.unit) (unit_state_at (array_of s j).units q.target q.unit)
                    (lines q.target q.unit)
                    ∙ (λ i. size_if (unit_of s (line.target i) (line.unit i)))

                run : run_of s j n ≡ length_of (run_in of_line blocks of_unit moved made)
                run = run_is ∙ (λ i. length_of (run_in (policy_is i) (blocks_are i) (size_is i) moved (made_is i)))

                replaced : (a b x y : ℕ) → a ≡ b → b + x ≤ y → a + x ≤ y
                replaced a b x y z g = omega (arith, z, g)
        by true sense =
            data_turn_falls s p row n c o r.linked.calm.prompt h r.linked.stands begun_is from_is into
            (pays (future_left s j) (future_left s k) (run_of s j n) _ _ future run after before)
          where
            cdb : q.cdb ≡ sense_block
            cdb = sense_cdb s q own sense

            none : blocks_in (range_named q) ≡ None
            none = ap blocks_in (none_named q (ap (λ (x : List ℕ). range_in (command_of x)) cdb))

            few : moved ≤ 18
            few = sense_few s (array_of s j) q cdb lines kinds whole

            run : run_of s j n ≤ 18
            run = chain (run_of s j n) moved (run_is
                ∙ ap (λ (x : Option ℕ). length_of (run_in policy x size moved (progress_in k.progress q.id).runs)) none
                ∙ whole_of moved) few
              where
                whole_of : (x : ℕ) → x - 0 ≡ x
                whole_of x = omega arith

                chain : (a b : ℕ) → a ≡ b → b ≤ 18 → a ≤ 18
                chain a b z g = omega (arith, z, g)

            made : (progress_in k.progress q.id).runs ≡ 0
            made = zero_below (progress_in k.progress q.id).runs
                (subst (λ (x : Option ℕ). (progress_in k.progress q.id).runs < runs_in policy x) none more)

            moves : is_in_data j ≡ true
            moves = (λ i. ((turn_in s p row n c h).exchange_is i).begun && is_data ((turn_in s p row n c h).bus_is i))
                ∙ into

            after_served : j.served ≡ Some (process q.id)
            after_served = (turn_in s p row n c h).served_is ∙ served

            before : sense_bytes_left (is_in_data k) k.progress k.served ≡ 144
            before =
                ap (λ (x : Option Item). sense_bytes_left (is_in_data k) k.progress x) served
                ∙ (λ i. if sense i && not (still_before i) && made i == 0 then 8 * 18 else 0)

            after : sense_bytes_left (is_in_data j) j.progress j.served ≡ 0
            after =
                ap (λ (x : Option Item). sense_bytes_left (is_in_data j) j.progress x) after_served
                ∙ (λ i. if sense i && not (moves i) && (progress_in j.progress q.id).runs == 0 then 8 * 18 else 0)

            future : future_left s j ≤ future_left s k
            future = sense_future s p row n c q h begun_is from_is into served sense

            pays : (f g run x y : ℕ) → f ≤ g → run ≤ 18 → x ≡ 0 → y ≡ 144 → f + 8 * run + x ≤ g + y
            pays f g run x y a b d e = omega (arith, a, b, d, e)

pub falls_data_entered : FallsDataEntered
falls_data_entered s p row n r other from into = falls s p row n r from into
