-- The measure falls with each row that turns from DATA IN to MESSAGE OUT, as ATN is true: a byte was struck there, and
-- its strike pays for the bytes of the run, which is made once more.
use Rattle.measure_laws.proofs
use proofs.Names.{ℕ, suc, ◌≡◌, ◌≢◌, ◌≤◌, ◌∙◌, Bool, true, false, List, [], ◌∷◌, length, max, refl, sym, ap, subst}
use proofs.Names.{arith, Option, Some, None, inl, ◌&&◌, and_parts, eqb-true, ne_eqb, ◌+◌, ◌-◌, ◌*◌, ◌==◌, drop}
use proofs.Names.{if◌then◌else◌, not, ◌||◌, is_some, and_false, wrong', ProcId, LineSet, changes_phase, is_data}
use proofs.Names.{is_message_out, is_fault, bus, Row, Change, Connection, need_of, ScenarioValue, CmdDef, Policy}
use proofs.Names.{Process, same_bool, data_runs, longest_need, Item, Sent, abort, command_id, command_item, process}
use proofs.Names.{Serving, phase_entry, phase_leaving, phase_of, cause_after, plan_in_message_out, Cause, Leaving}
use proofs.Names.{Phase, Plan, run_state_plain, ProcessProgress, progress_in, progress_with, RunState, bus_of}
use proofs.Names.{process_served, progress_by_leaving, run_state, hearing_of, leaving, serving_of, reading_is, Knows}
use proofs.Names.{reading_in, is_refusing, is_struck_phase, by_bool, over_after, is_attended, same_runs, aborts_left}
use proofs.Names.{bytes_after, bytes_over, command_left, commands_left, future_left, is_in_data, open_left, resets_left}
use proofs.Names.{serves_item, measure, after_words, phase_left, phases_in, phases_left, sense_bytes_left, struck_left}
use proofs.{Names.{for_byte, for_fault, for_reselection}, Connections.BeginFalls.{calm_resets}}
use proofs.Lines.{Futures.{command_lowers, command_waits, none_more, open_of}, Lowers.{Lowers, lowers_same}}
use proofs.{Phases.Still.{shape}, Turns.{Falls.{TurnRow, turn_in, turn_phase, turn_progress}, Out.{out_after}}}
use proofs.Turns.{Out.{out_after_in, turn_of}, OutFalls.{no_data, out_turn_falls, turns_to}}

-- ---- the bytes of one run more

some_bytes : (q : Bool) (x y : ℕ) → (if q then x else 0) ≤ y + x
some_bytes true x y = omega arith
some_bytes false x y = omega arith

bytes_more : (policy : Policy) (range : Option (ℕ × ℕ)) (size need made : ℕ)
    → bytes_over policy range size need made ≤ bytes_over policy range size need (made + 1) + need
bytes_more policy None size need made = some_bytes (made == 0) need _
bytes_more Policy.Never (Some r) size need made = some_bytes (made == 0) need _
bytes_more Policy.Command (Some r) size need made = some_bytes (made == 0) need _
bytes_more (Policy.Burst most) (Some r) size need made = less (made * (most * size)) ((made + 1) * (most * size))
  where
    less : (x y : ℕ) → need - x ≤ need - y + need
    less x y = omega arith
bytes_more (Policy.NoSave most) (Some r) size need made = go (made == 0) refl
  where
    next : ℕ → ℕ
    next m = bytes_over (Policy.NoSave most) (Some r) size need (m + 1)

    go : (q : Bool) → (made == 0) ≡ q → (if q then 2 * need else if made == 1 then need else 0) ≤ next made + need
    go true e = subst (λ m. 2 * need ≤ next m + need) (sym (eqb-true made 0 e)) twice
      where
        twice : 2 * need ≤ next 0 + need
        twice = omega arith
    go false e = some_bytes (made == 1) need (next made)

-- ---- what is still to come, as a data phase is left with its run not made

pub record Leaves (s : ScenarioValue) (j k : RunState) : Type 0 where
  pub sent : Lowers k.story.sent j.story.sent
  pub served : j.served ≡ k.served
  pub still : is_in_data j ≡ false
  pub moves : is_in_data k ≡ true
  pub runs : (id : ProcId) → (progress_in j.progress id).runs ≡ (progress_in k.progress id).runs

unique : (o : Option Item) (w m : ℕ) → serves_item o (command_item w) ≡ true → w ≢ m
    → serves_item o (command_item m) ≡ false
unique None w m e ne = wrong' e
unique (Some (abort l)) w m e ne = wrong' e
unique (Some (process id)) w m e ne =
    let same : id.command ≡ w = eqb-true id.command w (and_parts (id.command == w) (same_bool id.sense false) e).0 in
    λ i. ne_eqb id.command m (λ z. ne (sym same ∙ z)) i && same_bool id.sense false

open_then : (s : ScenarioValue) (j k : RunState) (m : ℕ) (c : CmdDef) (q : Bool)
    → Leaves s j k → serves_item k.served (command_item m) ≡ q
    → open_of s j m c ≡ open_left s q false (progress_in k.progress (command_id m)).runs c
open_then s j k m c q h e =
    (λ i. open_left s (serves_item (h.served i) (command_item m)) (h.still i) (h.runs (command_id m) i) c)
    ∙ (λ i. open_left s (e i) false (progress_in k.progress (command_id m)).runs c)

open_now : (s : ScenarioValue) (j k : RunState) (m : ℕ) (c : CmdDef) (q : Bool)
    → Leaves s j k → serves_item k.served (command_item m) ≡ q
    → open_of s k m c ≡ open_left s q true (progress_in k.progress (command_id m)).runs c
open_now s j k m c q h e = λ i. open_left s (e i) (h.moves i) (progress_in k.progress (command_id m)).runs c

unserved : (s : ScenarioValue) (j k : RunState) (m : ℕ) (c : CmdDef) → Leaves s j k
    → serves_item k.served (command_item m) ≡ false → command_left s j m c ≤ command_left s k m c
unserved s j k m c h e =
    command_lowers s j k m c h.sent (λ o. same _ _ _ (open_then s j k m c false h e) (open_now s j k m c false h e))
  where
    same : (a b x : ℕ) → a ≡ x → b ≡ x → a ≤ b
    same a b x e f = omega (arith, e, f)

served_once : (s : ScenarioValue) (j k : RunState) (m : ℕ) (c : CmdDef) → Leaves s j k
    → serves_item k.served (command_item m) ≡ true → command_left s j m c ≤ command_left s k m c + 8 * need_of s c
served_once s j k m c h e = command_waits s j k (8 * need_of s c) m c h.sent
    (λ o. chain _ _ _ _ (need_of s c) (open_then s j k m c true h e) (open_now s j k m c true h e)
    (sums (for_reselection * (data_runs s c - made + 0)) (bytes_after s c (made + 0)) (bytes_after s c (made + 1))
    (need_of s c) (subst (λ x. bytes_after s c x ≤ bytes_after s c (made + 1) + need_of s c) (plain made)
    (bytes_more _ _ _ (need_of s c) made))))
  where
    made : ℕ
    made = (progress_in k.progress (command_id m)).runs

    plain : (x : ℕ) → x ≡ x + 0
    plain x = omega arith

    sums : (r x y z : ℕ) → x ≤ y + z → r + 8 * x + 4096 ≤ r + 8 * y + 4096 + 8 * z
    sums r x y z h = omega (arith, h)

    chain : (a b x y z : ℕ) → a ≡ x → b ≡ y → x ≤ y + 8 * z → a ≤ b + 8 * z
    chain a b x y z e f h = omega (arith, e, f, h)

left_most : (a b : ℕ) → a ≤ max a b
left_most a b = grind arith

right_most : (a b : ℕ) → b ≤ max a b
right_most a b = grind arith

pub commands_more : (s : ScenarioValue) (j k : RunState) (l : ℕ) (commands : List CmdDef) → Leaves s j k
    → commands_left s j l commands ≤ commands_left s k l commands + 8 * longest_need s commands
commands_more s j k l [] h = omega arith
commands_more s j k l (c ∷ commands) h =
    by (commands_more s j k (l + 1) commands h) (serves_item k.served (command_item l)) refl
  where
    here : (a b x y u m : ℕ) → a ≤ b + 8 * u → x ≤ y → u ≤ m → a + x ≤ b + y + 8 * m
    here a b x y u m h g f = omega (arith, h, g, f)

    later : (a b x y u m : ℕ) → a ≤ b → x ≤ y + 8 * u → u ≤ m → a + x ≤ b + y + 8 * m
    later a b x y u m h g f = omega (arith, h, g, f)

    apart : (i : ℕ) → l ≡ l + 1 + i → ⊥
    apart i e = absurd (omega (arith, e))

    by : commands_left s j (l + 1) commands ≤ commands_left s k (l + 1) commands + 8 * longest_need s commands
        → (q : Bool) → serves_item k.served (command_item l) ≡ q
        → commands_left s j l (c ∷ commands) ≤ commands_left s k l (c ∷ commands) + 8 * longest_need s (c ∷ commands)
    by rest true e = here (command_left s j l c) (command_left s k l c)
        (commands_left s j (l + 1) commands) (commands_left s k (l + 1) commands) (need_of s c)
        (max (need_of s c) (longest_need s commands)) (served_once s j k l c h e) (none_more s j k
        (l + 1) commands (λ i d at. unserved s j k (l + 1 + i) d h (unique k.served l (l + 1 + i) e (apart i))))
        (left_most (need_of s c) (longest_need s commands))
    by rest false e = later (command_left s j l c) (command_left s k l c) (commands_left s j (l + 1) commands)
        (commands_left s k (l + 1) commands) (longest_need s commands) (max (need_of s c) (longest_need s commands))
        (unserved s j k l c h e) rest (right_most (need_of s c) (longest_need s commands))

-- ---- the row

data_lines : (l : LineSet) → is_data l ≡ true → (l.msg ≡ false) × (l.cd ≡ false)
data_lines l e = go l.msg l.cd e
  where
    go : (m d : Bool) → (not m && not d) ≡ true → (m ≡ false) × (d ≡ false)
    go false false z = (refl, refl)
    go false true z = wrong' z
    go true d z = wrong' z

-- With ATN true a phase to the initiator is left with no run made.
attended_done : (v : Serving) (atn : Bool) (phase : Phase) → atn ≡ true → is_attended phase ≡ true
    → (phase_leaving v atn phase).done ≡ false
attended_done v atn Phase.MessageIn e f = ap (λ (q : Bool). (phase_leaving v q Phase.MessageIn).done) e
attended_done v atn Phase.DataIn e f = ap (λ (q : Bool). (phase_leaving v q Phase.DataIn).done) e
attended_done v atn Phase.Status e f = ap (λ (q : Bool). (phase_leaving v q Phase.Status).done) e
attended_done v atn _ e f = wrong' f

few_sense : (a : Bool) (m : List ProcessProgress) (o : Option Item) → sense_bytes_left a m o ≤ 144
few_sense a m None = omega arith
few_sense a m (Some (abort l)) = omega arith
few_sense a m (Some (process id)) = go (id.sense && not a && (progress_in m id).runs == 0)
  where
    go : (q : Bool) → (if q then for_byte * 18 else 0) ≤ 144
    go true = omega arith
    go false = omega arith

future_sum : (c d a b r q f g l : ℕ) → c ≤ d + 8 * l → a ≡ b → r ≡ q → f ≡ g
    → c + a + 64 * r + f ≤ d + b + 64 * q + g + 8 * l
future_sum c d a b r q f g l h x y z = omega (arith, h, x, y, z)

measure_sum : (f g l a b x w y z u m v : ℕ) → v ≡ f + 40 + (a + x + y + 0) → m ≡ g + 40 + (b + w + z + u)
    → f ≤ g + 8 * l → a ≡ 5 * 128 → b ≡ 3 * 128 → u ≡ 8 * l + 8 * 128 → x ≤ 106 → y ≤ 144 → suc v ≤ m
measure_sum f g l a b x w y z u m v d e h i c t o r = omega (arith, d, e, h, i, c, t, o, r)

pub data_out_falls : (s : ScenarioValue) (p : List Row) (row : Row) (n : Connection) (c : Change) → TurnRow s p row n c
    → (run_state s p).exchange.begun ≡ true → is_message_out c.after ≡ true → is_data (bus_of (run_state s p)) ≡ true
    → suc (measure s (row ∷ p)) ≤ measure s p
data_out_falls s p row n c h begun out from =
    let k = run_state s p in
    let q : List Row = row ∷ p in
    let j = run_state s q in
    let dv = h.was.stood.standing.devices in
    let pk = run_state_plain s p dv in
    let pl = run_state_plain s q (h.below, dv) in
    let t = turn_in s p row n c h in
    let g = h.goes in
    let kind = turn_of row n c g.row_is.kind h.turned in
    let lines = kind.0 in
    let a = out_after_in s p row n c g.row_is g.phase h.turned begun out (turns_to s p row n c h begun) in
    let low = data_lines (bus_of k) from in
    let was = data_lines c.before (ap is_data (sym g.row_is.bus_is) ∙ from) in
    let struck : is_struck_phase s p ≡ true = (h.was.complaints n (sym pk.connection ∙ g.row_is.connection_is)
    h.off begun).attends (ap (λ (l : LineSet). l.io) g.row_is.bus_is ∙ a.1) low.0 a.0.attends in
    let cause : cause_after c.before ≡ Cause.InData = λ i. if was.0 i && c.before.cd && c.before.io then Cause.InMessage
    else if was.1 i then Cause.InStatus else Cause.InData in
    let plan : Plan = plan_in_message_out (hearing_of k row (reading_in k.story.bus_state n c false)) k.exchange.plan in
    let next : phases_left (is_refusing s q) j ≡ 5 * 128 = out_after s p row n c g.row_is h.turned begun out a.1
    ∙ (λ i. after_words (struck i) plan (cause i)) in
    let now : phases_left (is_refusing s p) k ≡ 3 * 128 = (λ i.
    if begun i then phases_in (is_refusing s p) k.exchange.plan (phase_of (g.row_is.bus_is i)) else 1024 + 8 * 128)
    ∙ (λ i. phases_in (is_refusing s p) k.exchange.plan
    (if was.0 i then (if a.1 i then Phase.MessageIn else Phase.MessageOut)
    else if was.1 i then (if a.1 i then Phase.Status else Phase.Command)
    else if a.1 i then Phase.DataIn else Phase.DataOut)) in
    let knows : Knows s k n = h.was.stood.books.knows n g.row_is.connection_is g.calm in
    let sent = (over_after s k row n c false knows.link g.row_is
    (ap (λ (x : Option ℕ). is_some x) kind.1) knows.link_is).same (inl h.turned) in
    let still : is_in_data j ≡ false =
    ap (λ (x : Bool). j.exchange.begun && x) (ap is_data t.bus_is ∙ no_data c.after out) ∙ and_false j.exchange.begun in
    let moves : is_in_data k ≡ true = λ i. begun i && from i in
    let left : leaving s k n.target ≡ phase_leaving (serving_of s k n.target) (bus_of k).atn (phase_of (bus_of k)) =
    λ i. if begun i then phase_leaving (serving_of s k n.target) (bus_of k).atn (phase_of (bus_of k))
    else phase_entry Phase.MessageOut in
    let done = ap (λ (l : Leaving). l.done) left
    ∙ attended_done (serving_of s k n.target) (bus_of k).atn (phase_of (bus_of k)) a.0.attends a.0.phase in
    let off_next : (bus q).rst ≡ false = ap (λ (l : LineSet). l.rst) (sym pl.bus ∙ t.bus_is) ∙ g.row_is.calm in
    let commands = commands_more s j k 1 s.commands (record {
      sent = lowers_same k.story.sent j.story.sent sent;
      served = t.served_is;
      still = still;
      moves = moves;
      runs = λ id. ap (λ (m : List ProcessProgress). (progress_in m id).runs) (turn_progress s p row n c h
          ∙ (λ i. if begun i then progress_by_leaving k (process_served s k) (leaving s k n.target) else k.progress))
          ∙ same id (process_served s k) (leaving s k n.target) done;
    }) in
    let future : future_left s j ≤ future_left s k + 8 * longest_need s s.commands = future_sum
    (commands_left s j 1 s.commands) (commands_left s k 1 s.commands) (aborts_left s j.story.sent 1 s.aborts)
    (aborts_left s k.story.sent 1 s.aborts) (resets_left j s.resets) (resets_left k s.resets)
    (for_fault s * length j.faults) (for_fault s * length k.faults) (longest_need s s.commands) commands
    (ap (λ (x : Sent). aborts_left s x 1 s.aborts) sent) (calm_resets s p row dv h.below lines h.off off_next)
    (ap (λ (b : Bool). for_fault s * length (if b then drop 1 k.faults else k.faults)) lines) in
    let r = reading_is k row n c false g.row_is (ap (λ (x : Option ℕ). is_some x) kind.1) in
    let unstruck : is_struck_phase s q ≡ false = (λ i. is_some (g.row_is.connection_is i)
    && is_some (r i).next && not (changes_phase (r i).change) && (is_fault row.kind || is_struck_phase s p))
    ∙ (λ i. true && true && not (h.turned i) && (is_fault row.kind || is_struck_phase s p)) in
    let before = shape s k (is_struck_phase s p) (is_refusing s p) n g.calm g.row_is.connection_is in
    let after = shape s j (is_struck_phase s q) (is_refusing s q) n
    (ap (λ (l : LineSet). l.rst) t.bus_is ∙ g.row_is.calm) t.connection_is
    ∙ ap (λ (x : Bool). future_left s j + 40 + (phases_left (is_refusing s q) j + phase_left s j n
    + sense_bytes_left (is_in_data j) j.progress j.served + struck_left s x)) unstruck in
    measure_sum (future_left s j) (future_left s k) (longest_need s s.commands)
    (phases_left (is_refusing s q) j) (phases_left (is_refusing s p) k) (phase_left s j n) (phase_left s k n)
    (sense_bytes_left (is_in_data j) j.progress j.served) (sense_bytes_left (is_in_data k) k.progress k.served)
    (struck_left s (is_struck_phase s p)) (measure s p) (measure s q) after before future next now
    (ap (struck_left s) struck) (turn_phase s p row n c h (no_data c.after out))
    (few_sense (is_in_data j) j.progress j.served)
  where
    same : (id : ProcId) (o : Option Process) (l : Leaving) → l.done ≡ false
        → (progress_in (progress_by_leaving (run_state s p) o l) id).runs
        ≡ (progress_in (run_state s p).progress id).runs
    same id None l e = refl
    same id (Some x) l e = (λ i. (progress_in (progress_with (run_state s p).progress x.id (e i) l.counts) id).runs)
        ∙ same_runs (run_state s p).progress x.id l.counts id

-- From any phase.
pub attended_falls : (s : ScenarioValue) (p : List Row) (row : Row) (n : Connection) (c : Change) → TurnRow s p row n c
    → (run_state s p).exchange.begun ≡ true → is_message_out c.after ≡ true → suc (measure s (row ∷ p)) ≤ measure s p
attended_falls s p row n c h begun out = by_bool (is_data (bus_of (run_state s p)))
    (λ e. data_out_falls s p row n c h begun out e) (λ e. out_turn_falls s p row n c h begun out
    (ap (λ (x : Bool). (run_state s p).exchange.begun && x) e ∙ and_false (run_state s p).exchange.begun))
