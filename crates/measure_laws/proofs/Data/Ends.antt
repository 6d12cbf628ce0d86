-- The measure falls with the row that leaves DATA where its run is done: a run less is to be made, and that pays for
-- the reselection after a disconnection.
use Rattle.measure_laws.proofs
use proofs.Names.{ℕ, suc, ◌≡◌, ◌≢◌, ◌≤◌, ◌<◌, ◌∙◌, Bool, true, false, ◌&&◌, List, ◌∷◌, length, Some, refl, sym, ap}
use proofs.Names.{subst, arith, ◌+◌, ◌-◌, ◌*◌, not, if◌then◌else◌, wrong', plus_none, LineSet, is_data, is_message_out}
use proofs.Names.{Row, Change, Connection, ScenarioValue, CmdDef, command_at, data_runs, Sent, command_id, command_item}
use proofs.Names.{has_item, phase_entry, phase_leaving, phase_of, Phase, progress_in, RunState, bus_of, run_state}
use proofs.Names.{leaving, serving_of, is_refusing, is_struck_phase, self_item, aborts_left, bytes_after, command_left}
use proofs.Names.{commands_left, future_left, is_in_data, open_left, resets_left, sense_left, serves_item, unsent_left}
use proofs.Names.{measure, reselection_if, phase_left, phases_in, phases_left, sense_bytes_left, struck_left, for_fault}
use proofs.{Names.{for_phase, for_reselection, for_reset}, Connections.BeginFalls.{command_apart}}
use proofs.{Lines.{Futures.{but_one_command}, Lowers.{left_by}}, Phases.Still.{shape}, Turns.Falls.{TurnRow}}
use proofs.Turns.{Falls.{turn_phase, turn_in, turn_phases, turn_struck}, Table.{left_of}}

-- ---- how DATA is left

-- ---- the row

end_sum : (f g a b x w y z u m v e : ℕ) → v ≡ f + 40 + (a + x + y + 0) → m ≡ g + 40 + (b + w + z + u)
    → f + e + y ≤ g + z → a + 128 ≤ b + e → x ≤ 106 → suc v ≤ m
end_sum f g a b x w y z u m v e d i h c l = omega arith

pub done_turn_falls : (s : ScenarioValue) (p : List Row) (row : Row) (n : Connection) (c : Change) (again : Bool)
    → TurnRow s p row n c → (run_state s p).exchange.begun ≡ true → is_data (bus_of (run_state s p)) ≡ true
    → is_data c.after ≡ false → is_message_out c.after ≡ false → (c.after.msg ≡ true → c.after.cd ≡ true)
    → left_of (phase_leaving (serving_of s (run_state s p) n.target) (bus_of (run_state s p)).atn
    (phase_of (bus_of (run_state s p)))) + 128 ≤ 3 * 128 + reselection_if again
    → future_left s (run_state s (row ∷ p)) + reselection_if again + sense_bytes_left
    (is_in_data (run_state s (row ∷ p))) (run_state s (row ∷ p)).progress (run_state s (row ∷ p)).served
    ≤ future_left s (run_state s p)
    + sense_bytes_left (is_in_data (run_state s p)) (run_state s p).progress (run_state s p).served
    → suc (measure s (row ∷ p)) ≤ measure s p
done_turn_falls s p row n c again h begun from to other known table pays =
    let k = run_state s p in
    let q : List Row = row ∷ p in
    let j = run_state s q in
    let t = turn_in s p row n c h in
    let g = h.goes in
    let left : leaving s k n.target ≡ phase_leaving (serving_of s k n.target) (bus_of k).atn (phase_of (bus_of k)) =
    λ i. if begun i then phase_leaving (serving_of s k n.target) (bus_of k).atn (phase_of (bus_of k))
    else phase_entry Phase.MessageOut in
    let ahead = turn_phases s p row n c h begun other known (is_refusing s q) ∙ ap left_of left in
    let behind : phases_left (is_refusing s p) k ≡ 3 * 128 =
    (λ i. if begun i then phases_in (is_refusing s p) k.exchange.plan (phase_of (bus_of k))
    else for_reselection + 8 * for_phase) ∙ three (bus_of k) from in
    let before = shape s k (is_struck_phase s p) (is_refusing s p) n g.calm g.row_is.connection_is in
    let after = shape s j (is_struck_phase s q) (is_refusing s q) n
    (ap (λ (l : LineSet). l.rst) t.bus_is ∙ g.row_is.calm) t.connection_is
    ∙ ap (λ (x : Bool). future_left s j + 40 + (phases_left (is_refusing s q) j + phase_left s j n
    + sense_bytes_left (is_in_data j) j.progress j.served + struck_left s x)) (turn_struck s p row n c h) in
    end_sum (future_left s j) (future_left s k) (phases_left (is_refusing s q) j) (phases_left (is_refusing s p) k)
    (phase_left s j n) (phase_left s k n) (sense_bytes_left (is_in_data j) j.progress j.served)
    (sense_bytes_left (is_in_data k) k.progress k.served) (struck_left s (is_struck_phase s p)) (measure s p)
    (measure s q) (reselection_if again) after before pays (replaced _ _ _ _ _ ahead behind table)
    (turn_phase s p row n c h to)
  where
    replaced : (a b x y u : ℕ) → a ≡ x → b ≡ y → x + 128 ≤ y + u → a + 128 ≤ b + u
    replaced a b x y u e f g = omega arith

    three : (l : LineSet) → is_data l ≡ true
        → phases_in (is_refusing s p) (run_state s p).exchange.plan (phase_of l) ≡ 3 * 128
    three l e = go l.msg l.cd l.io e
      where
        go : (m d i : Bool) → (not m && not d) ≡ true → phases_in (is_refusing s p)
            (run_state s p).exchange.plan (if m then (if i then Phase.MessageIn else Phase.MessageOut)
            else if d then (if i then Phase.Status else Phase.Command) else if i then Phase.DataIn else Phase.DataOut)
            ≡ 3 * 128
        go true d i z = wrong' z
        go false true i z = wrong' z
        go false false true z = refl
        go false false false z = refl

-- ---- a command has made a run more

pub record LeavesData (s : ScenarioValue) (j k : RunState) (m : ℕ) : Type 0 where
  pub sent : j.story.sent ≡ k.story.sent
  pub served : j.served ≡ Some (command_item m)
  pub before : k.served ≡ Some (command_item m)
  pub still : is_in_data j ≡ false
  pub moves : is_in_data k ≡ true
  pub made : (progress_in j.progress (command_id m)).runs ≡ (progress_in k.progress (command_id m)).runs + 1
  pub others : (i : ℕ) → i ≢ m
      → (progress_in j.progress (command_id i)).runs ≡ (progress_in k.progress (command_id i)).runs
  pub resets : resets_left j s.resets ≡ resets_left k s.resets
  pub faults : j.faults ≡ k.faults

pub run_done_pays : (s : ScenarioValue) (j k : RunState) (m : ℕ) (again : Bool) (c : CmdDef)
    → command_at s.commands m ≡ Some c → has_item k.story.sent.sent (command_item m) ≡ true
    → has_item k.story.sent.over (command_item m) ≡ false → LeavesData s j k m
    → (again ≡ true → (progress_in k.progress (command_id m)).runs < data_runs s c)
    → future_left s j + reselection_if again ≤ future_left s k
run_done_pays s j k m again c at sent over h most =
    let same : for_fault s * length j.faults ≡ for_fault s * length k.faults = λ i. for_fault s * length (h.faults i) in
    let commands = less_zero _ _ (but_one_command s j k (reselection_if again) 0 m c at other (no_more _ _ _ own)) in
    subst (λ (w : ℕ). commands_left s j 1 s.commands + aborts_left s j.story.sent 1 s.aborts
    + for_reset * resets_left j s.resets + w + reselection_if again ≤ future_left s k)
    (sym same) (subst (λ (b : Sent). commands_left s j 1 s.commands + aborts_left s b 1 s.aborts
    + for_reset * resets_left j s.resets + for_fault s * length k.faults + reselection_if again ≤ future_left s k)
    (sym h.sent) (sum (commands_left s j 1 s.commands) (commands_left s k 1 s.commands)
    (aborts_left s k.story.sent 1 s.aborts) (resets_left j s.resets) (resets_left k s.resets)
    (for_fault s * length k.faults) (reselection_if again) commands h.resets))
  where
    sum : (c d a r q f e : ℕ) → c + e ≤ d → r ≡ q → c + a + 64 * r + f + e ≤ d + a + 64 * q + f
    sum c d a r q f e x z = omega arith

    less_zero : (a b : ℕ) → a ≤ b + 0 → a ≤ b
    less_zero a b h = omega arith

    no_more : (a b g : ℕ) → a + g ≤ b → a + g ≤ b + 0
    no_more a b g h = omega arith

    made : ℕ → ℕ
    made l = (progress_in k.progress (command_id l)).runs

    other : (l : ℕ) (d : CmdDef) → command_at s.commands l ≡ Some d → l ≢ m
        → command_left s j l d ≤ command_left s k l d
    other l d f ne =
        let e : command_left s j l d ≡ left_by s k.story.sent (open_left s false false (made l) d) l d = (λ i. left_by s
        (h.sent i) (open_left s (serves_item (h.served i) (command_item l)) (h.still i) (h.others l ne i) d) l d)
        ∙ ap (λ (q : Bool). left_by s k.story.sent (open_left s q false (made l) d) l d) (command_apart m l ne) in
        let g : command_left s k l d ≡ left_by s k.story.sent (open_left s false true (made l) d) l d = (λ i. left_by
        s k.story.sent (open_left s (serves_item (h.before i) (command_item l)) (h.moves i) (made l) d) l d)
        ∙ ap (λ (q : Bool). left_by s k.story.sent (open_left s q true (made l) d) l d) (command_apart m l ne) in
        let z = e ∙ sym g in
        omega arith

    own : command_left s j m c + reselection_if again ≤ command_left s k m c
    own =
        let e : command_left s j m c ≡ open_left s true false (made m + 1) c = (λ i. left_by s (h.sent i)
        (open_left s (serves_item (h.served i) (command_item m)) (h.still i) (h.made i) c) m c)
        ∙ (λ i. if over i then sense_left k.story.sent m
        else if sent i then open_left s (self_item (command_item m) i) false (made m + 1) c
        else unsent_left s k.story.sent m c) in
        let f : command_left s k m c ≡ open_left s true true (made m) c = (λ i. left_by s k.story.sent
        (open_left s (serves_item (h.before i) (command_item m)) (h.moves i) (made m) c) m c)
        ∙ (λ i. if over i then sense_left k.story.sent m
        else if sent i then open_left s (self_item (command_item m) i) true (made m) c
        else unsent_left s k.story.sent m c) in
        chain (command_left s j m c) (open_left s true false (made m + 1) c)
        (open_left s true true (made m) c) (command_left s k m c) (reselection_if again) e f
        (by again most (ap (bytes_after s c) (plus_none (made m + 1))))
      where
        add : (r l x y : ℕ) → x ≡ y → l < r
            → 1024 * (r - (l + 1) + 0) + 8 * x + 4096 + 1024 ≤ 1024 * (r - l + 0) + 8 * y + 4096
        add r l x y e h = omega arith

        keep : (r l x y : ℕ) → x ≡ y → 1024 * (r - (l + 1) + 0) + 8 * x + 4096 + 0 ≤ 1024 * (r - l + 0) + 8 * y + 4096
        keep r l x y e = omega arith

        by : (q : Bool) → (q ≡ true → made m < data_runs s c)
            → bytes_after s c (made m + 1 + 0) ≡ bytes_after s c (made m + 1)
            → open_left s true false (made m + 1) c + reselection_if q ≤ open_left s true true (made m) c
        by true f e =
            add (data_runs s c) (made m) (bytes_after s c (made m + 1 + 0)) (bytes_after s c (made m + 1)) e (f refl)
        by false f e = keep (data_runs s c) (made m) (bytes_after s c (made m + 1 + 0)) (bytes_after s c (made m + 1)) e

        chain : (a x y b g : ℕ) → a ≡ x → b ≡ y → x + g ≤ y → a + g ≤ b
        chain a x y b g e f h = omega arith
