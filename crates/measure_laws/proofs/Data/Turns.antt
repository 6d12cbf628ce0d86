-- The measure falls with the row that turns to DATA IN or DATA OUT: the bytes of the run are paid by the command, for
-- which they are not left any more.
use Rattle.measure_laws.proofs
use proofs.Names.{ℕ, suc, ◌≡◌, ◌≢◌, ◌≤◌, ◌∙◌, Bool, true, false, ◌&&◌, List, ◌∷◌, length, Some, refl, sym, ap, subst}
use proofs.Names.{arith, ◌+◌, ◌-◌, ◌*◌, not, if◌then◌else◌, wrong, wrong', plus_none, ProcId, LineSet, is_data}
use proofs.Names.{is_message_out, connection, Row, Change, Connection, Handshakes, ScenarioValue, Obeys, CmdDef}
use proofs.Names.{command_at, data_runs, Sent, command_id, command_item, has_item, same_item, policy_of, Speech}
use proofs.Names.{bytes_of_messages, phase_entry, phase_leaving, phase_of, run_length_if, Phase, target_def_of}
use proofs.Names.{progress_in, IsPrompt, RunState, bus_of, drives_of, run_state, answering_of, leaving, offering_of}
use proofs.Names.{pace_of, serving_of, task_of, is_refusing, is_struck_phase, self_item, aborts_left, bytes_after}
use proofs.Names.{command_left, commands_left, future_left, is_in_data, open_left, resets_left, sense_left, serves_item}
use proofs.Names.{unsent_left, measure, bytes_if_begun, is_asked, phase_left, phases_in, phases_left, requests_by}
use proofs.Names.{requests_left, sense_bytes_left, struck_left, under_way, for_fault, for_phase, for_reselection}
use proofs.{Names.{for_reset}, Connections.BeginFalls.{command_apart}, Lines.Futures.{but_one_command}}
use proofs.{Lines.Lowers.{left_by}, Phases.Still.{shape}, Turns.Falls.{TurnRow, fresh_way, no_data_in, no_data_out}}
use proofs.Turns.{Falls.{turn_handshakes, turn_in, turn_phases, turn_struck}, Pays.{out_facts, phase_pays}}
use proofs.Turns.{Struck.{struck_known}, Table.{left_of}}

-- ---- what the new phase may ask for: its run

abbrev pub run_of : ScenarioValue → RunState → Connection → ℕ
run_of s j n = run_length_if (policy_of (target_def_of s n.target)) (task_of s j)

data_requests : (struck asked : Bool) (h : Handshakes) (x : Speech) (bytes run : ℕ) (l : LineSet) → is_data l ≡ true
    → requests_by struck asked h x bytes run (phase_of l) ≤ run
data_requests struck asked h x bytes run l e = go l.msg l.cd l.io e
  where
    go : (m d i : Bool) → (not m && not d) ≡ true
        → requests_by struck asked h x bytes run (if m then (if i then Phase.MessageIn else Phase.MessageOut)
        else if d then (if i then Phase.Status else Phase.Command) else if i then Phase.DataIn else Phase.DataOut) ≤ run
    go true d i z = wrong' z
    go false true i z = wrong' z
    go false false true z = omega arith
    go false false false z = omega arith

run_sum : (b : Bool) (r u run : ℕ) → r ≤ run → u ≤ 10 → bytes_if_begun b r + u ≤ 8 * run + 10
run_sum true r u run h g = omega arith
run_sum false r u run h g = omega arith

pub data_left : (s : ScenarioValue) (p : List Row) (row : Row) (n : Connection) (c : Change) → TurnRow s p row n c
    → is_data c.after ≡ true → phase_left s (run_state s (row ∷ p)) n ≤ 8 * run_of s (run_state s (row ∷ p)) n + 10
data_left s p row n c h to =
    let j = run_state s (row ∷ p) in
    let t = turn_in s p row n c h in
    run_sum j.exchange.begun (requests_left s j n.target)
    (under_way (pace_of s j n.target).pulsed (bus_of j) j.handshakes (drives_of j n.target)
    (drives_of j n.initiator) (offering_of s j n.target) (answering_of s j n.initiator)) (run_of s j n)
    (data_requests j.exchange.plan.struck (is_asked (bus_of j)) j.handshakes j.exchange.speech
    (length (bytes_of_messages j.exchange.plan.messages)) (run_of s j n) (bus_of j) (ap is_data t.bus_is ∙ to))
    (fresh_way (pace_of s j n.target).pulsed (bus_of j) j.handshakes (drives_of j n.target) (drives_of j n.initiator)
    (offering_of s j n.target) (answering_of s j n.initiator) (turn_handshakes s p row n c h))

-- ---- the measure, if what is still to come pays for the run

data_sum : (f g a b x w y z u m v e : ℕ) → v ≡ f + 40 + (a + x + y + 0) → m ≡ g + 40 + (b + w + z + u)
    → f + 8 * e + y ≤ g + z → a + 128 ≤ b + u → x ≤ 8 * e + 10 → suc v ≤ m
data_sum f g a b x w y z u m v e d i h c l = omega arith

pub data_turn_falls : (s : ScenarioValue) (p : List Row) (row : Row) (n : Connection) (c : Change)
    → Obeys s → IsPrompt s (row ∷ p) → TurnRow s p row n c → connection p ≡ Some n
    → (run_state s p).exchange.begun ≡ true → is_data (bus_of (run_state s p)) ≡ false → is_data c.after ≡ true
    → future_left s (run_state s (row ∷ p)) + 8 * run_of s (run_state s (row ∷ p)) n + sense_bytes_left
    (is_in_data (run_state s (row ∷ p))) (run_state s (row ∷ p)).progress (run_state s (row ∷ p)).served
    ≤ future_left s (run_state s p)
    + sense_bytes_left (is_in_data (run_state s p)) (run_state s p).progress (run_state s p).served
    → suc (measure s (row ∷ p)) ≤ measure s p
data_turn_falls s p row n c o prompt h con begun from to pays =
    let k = run_state s p in
    let q : List Row = row ∷ p in
    let j = run_state s q in
    let t = turn_in s p row n c h in
    let g = h.goes in
    let lines = data_lines c.after to in
    let left : leaving s k n.target ≡ phase_leaving (serving_of s k n.target) (bus_of k).atn (phase_of (bus_of k)) =
    λ i. if begun i then phase_leaving (serving_of s k n.target) (bus_of k).atn (phase_of (bus_of k))
    else phase_entry Phase.MessageOut in
    let ahead = turn_phases s p row n c h begun lines.0 (λ z. wrong (sym z ∙ lines.1)) (is_refusing s q)
    ∙ ap left_of left in
    let behind : phases_left (is_refusing s p) k ≡ phases_in (is_refusing s p) k.exchange.plan (phase_of (bus_of k)) =
    λ i. if begun i then phases_in (is_refusing s p) k.exchange.plan (phase_of (bus_of k))
    else for_reselection + 8 * for_phase in
    let less = phase_pays s (serving_of s k n.target) (bus_of k).atn (is_refusing s p)
    (is_struck_phase s p) (phase_of (bus_of k)) (λ z. (struck_known s p z).0)
    (out_facts s p row n c o prompt h con begun) (no_data_in (bus_of k) from) (no_data_out (bus_of k) from) in
    let before = shape s k (is_struck_phase s p) (is_refusing s p) n g.calm g.row_is.connection_is in
    let after = shape s j (is_struck_phase s q) (is_refusing s q) n
    (ap (λ (l : LineSet). l.rst) t.bus_is ∙ g.row_is.calm) t.connection_is
    ∙ ap (λ (x : Bool). future_left s j + 40 + (phases_left (is_refusing s q) j + phase_left s j n
    + sense_bytes_left (is_in_data j) j.progress j.served + struck_left s x)) (turn_struck s p row n c h) in
    data_sum (future_left s j) (future_left s k) (phases_left (is_refusing s q) j) (phases_left (is_refusing s p) k)
    (phase_left s j n) (phase_left s k n) (sense_bytes_left (is_in_data j) j.progress j.served)
    (sense_bytes_left (is_in_data k) k.progress k.served) (struck_left s (is_struck_phase s p)) (measure s p)
    (measure s q) (run_of s j n) after before pays (replaced _ _ _ _ _ ahead behind less) (data_left s p row n c h to)
  where
    replaced : (a b x y u : ℕ) → a ≡ x → b ≡ y → x + 128 ≤ y + u → a + 128 ≤ b + u
    replaced a b x y u e f g = omega arith

    data_lines : (l : LineSet) → is_data l ≡ true → (is_message_out l ≡ false) × (l.msg ≡ false)
    data_lines l e = (go l.msg l.cd l.io e, off l.msg l.cd e)
      where
        go : (m d i : Bool) → (not m && not d) ≡ true → (m && d && not i) ≡ false
        go true d i z = wrong' z
        go false d i z = refl

        off : (m d : Bool) → (not m && not d) ≡ true → m ≡ false
        off true d z = wrong' z
        off false d z = refl

-- ---- a command pays for its run

pub record EntersData (s : ScenarioValue) (j k : RunState) (m : ℕ) : Type 0 where
  pub sent : j.story.sent ≡ k.story.sent
  pub served : j.served ≡ Some (command_item m)
  pub before : k.served ≡ Some (command_item m)
  pub still : is_in_data k ≡ false
  pub moves : is_in_data j ≡ true
  pub runs : (id : ProcId) → (progress_in j.progress id).runs ≡ (progress_in k.progress id).runs
  pub resets : resets_left j s.resets ≡ resets_left k s.resets
  pub faults : j.faults ≡ k.faults

pub command_pays_run : (s : ScenarioValue) (j k : RunState) (m run : ℕ) (c : CmdDef) → command_at s.commands m ≡ Some c
    → has_item k.story.sent.sent (command_item m) ≡ true → has_item k.story.sent.over (command_item m) ≡ false
    → EntersData s j k m → run + bytes_after s c ((progress_in k.progress (command_id m)).runs + 1)
    ≤ bytes_after s c (progress_in k.progress (command_id m)).runs
    → future_left s j + 8 * run ≤ future_left s k
command_pays_run s j k m run c at sent over h fewer =
    let same : for_fault s * length j.faults ≡ for_fault s * length k.faults = λ i. for_fault s * length (h.faults i) in
    let commands = less_zero _ _ (but_one_command s j k (8 * run) 0 m c at other (no_more _ _ _ own)) in
    subst (λ (w : ℕ). commands_left s j 1 s.commands + aborts_left s j.story.sent 1 s.aborts
    + for_reset * resets_left j s.resets + w + 8 * run ≤ future_left s k) (sym same)
    (subst (λ (b : Sent). commands_left s j 1 s.commands + aborts_left s b 1 s.aborts
    + for_reset * resets_left j s.resets + for_fault s * length k.faults + 8 * run ≤ future_left s k) (sym h.sent)
    (sum (commands_left s j 1 s.commands) (commands_left s k 1 s.commands) (aborts_left s k.story.sent 1 s.aborts)
    (resets_left j s.resets) (resets_left k s.resets) (for_fault s * length k.faults) commands h.resets))
  where
    sum : (c d a r q f : ℕ) → c + 8 * run ≤ d → r ≡ q → c + a + 64 * r + f + 8 * run ≤ d + a + 64 * q + f
    sum c d a r q f x e = omega arith

    less_zero : (a b : ℕ) → a ≤ b + 0 → a ≤ b
    less_zero a b h = omega arith

    no_more : (a b g : ℕ) → a + g ≤ b → a + g ≤ b + 0
    no_more a b g h = omega arith

    made : ℕ → ℕ
    made l = (progress_in k.progress (command_id l)).runs

    after : (l : ℕ) (d : CmdDef) → command_left s j l d
        ≡ left_by s k.story.sent (open_left s (same_item (command_item m) (command_item l)) true (made l) d) l d
    after l d = λ i. left_by s (h.sent i)
        (open_left s (serves_item (h.served i) (command_item l)) (h.moves i) (h.runs (command_id l) i) d) l d

    before : (l : ℕ) (d : CmdDef) → command_left s k l d
        ≡ left_by s k.story.sent (open_left s (same_item (command_item m) (command_item l)) false (made l) d) l d
    before l d =
        λ i. left_by s k.story.sent (open_left s (serves_item (h.before i) (command_item l)) (h.still i) (made l) d) l d

    other : (l : ℕ) (d : CmdDef) → command_at s.commands l ≡ Some d → l ≢ m
        → command_left s j l d ≤ command_left s k l d
    other l d f ne =
        let e = after l d
        ∙ ap (λ (q : Bool). left_by s k.story.sent (open_left s q true (made l) d) l d) (command_apart m l ne)
        ∙ sym (before l d
        ∙ ap (λ (q : Bool). left_by s k.story.sent (open_left s q false (made l) d) l d) (command_apart m l ne)) in
        omega arith

    own : command_left s j m c + 8 * run ≤ command_left s k m c
    own =
        let e : command_left s j m c ≡ open_left s true true (made m) c = after m c
        ∙ (λ i. if over i then sense_left k.story.sent m
        else if sent i then open_left s (self_item (command_item m) i) true (made m) c
        else unsent_left s k.story.sent m c) in
        let f : command_left s k m c ≡ open_left s true false (made m) c = before m c
        ∙ (λ i. if over i then sense_left k.story.sent m
        else if sent i then open_left s (self_item (command_item m) i) false (made m) c
        else unsent_left s k.story.sent m c) in
        chain (command_left s j m c) (open_left s true true (made m) c) (open_left s true false (made m) c)
        (command_left s k m c) e f (by (data_runs s c) (made m) (bytes_after s c (made m + 1))
        (bytes_after s c (made m)) (bytes_after s c (made m + 0)) (ap (bytes_after s c) (plus_none (made m))) fewer)
      where
        by : (r l x y z : ℕ) → z ≡ y → run + x ≤ y
            → 1024 * (r - l + 0) + 8 * x + 4096 + 8 * run ≤ 1024 * (r - l + 0) + 8 * z + 4096
        by r l x y z e h = omega arith

        chain : (a x y b : ℕ) → a ≡ x → b ≡ y → x + 8 * run ≤ y → a + 8 * run ≤ b
        chain a x y b e f h = omega arith
