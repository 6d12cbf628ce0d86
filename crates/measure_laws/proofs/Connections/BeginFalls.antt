-- The measure falls with the row that begins a connection: of a selection its item pays, and of a reselection the
-- command that is served again.
use Rattle.measure_laws.proofs
use proofs.Names.{ℕ, zero, suc, ◌≡◌, ◌≢◌, ◌≤◌, ◌<◌, ◌∙◌, Bool, true, false, ◌&&◌, List, [], ◌∷◌, length, Option, Some}
use proofs.Names.{None, refl, sym, ap, subst, arith, and_parts, ne_eqb, or_parts, same_Some, ◌+◌, ◌-◌, ◌*◌, not, ◌||◌}
use proofs.Names.{◌==◌, drop, if◌then◌else◌, is_some, nat_lt, wrong, and_false, ProcId, change_of, LineSet}
use proofs.Names.{changes_phase, is_data, is_message_in, call, connected, connected_by, connected_of, connection}
use proofs.Names.{connection_after, connection_of, is_fault, bus, drives, Kind, Drives, Fault, Row, Change, Connection}
use proofs.Names.{Call, Calling, Handshakes, MsgIn, ScenarioValue, Obeys, AbortDef, CmdDef, Tag, Process, command_at}
use proofs.Names.{process_if, process_of, same_bool, is_initiator, data_runs, row_reading, abort_line_at, Item, Sent}
use proofs.Names.{abort, command_id, command_item, has_item, is_done, process, same_item, sense_item, aim_of, Answering}
use proofs.Names.{Offering, policy_of, is_pulsed_phase, Exchange, bytes_of_messages, no_messages, phase_of}
use proofs.Names.{run_length_if, first_plan, naming_messages, tag_named, Phase, Plan, run_state_plain, target_def_of}
use proofs.Names.{ProcessProgress, progress_in, IsPrompt, AreOfDevices, IsPlain, RunState, agreement_of, bus_of}
use proofs.Names.{drives_of, first_exchange, item_if, leaving_of, may_negotiate, messages_if, progress_after, run_state}
use proofs.Names.{answering_of, offering_of, pace_of, task_of, abort_target, initiator_if, ready_of, target_of, Begins}
use proofs.Names.{RowOf, apart, begins, row_ends as ends, goes_on, under_reset, is_refusing, is_struck_phase}
use proofs.Names.{change_plain, drives_own, off_at, least_is, row_is, row_of_lines, none_some, by_bool, IsCalled}
use proofs.Names.{made_is, IsNext, IsQueued, Items, is_abort, is_command, is_sense, aimed_next, calm_after, calm_before}
use proofs.Names.{items_ready, sense_apart, self_item, first_made, FirstSent, first_sent, sent_with, Whole}
use proofs.Names.{standing_next, aborts_left, bytes_after, command_left, commands_left, future_left, is_in_data}
use proofs.Names.{one_where, open_left, resets_left, sense_left, serves_item, unsent_left, measure, after_next}
use proofs.Names.{bytes_if_begun, is_asked, phase_left, phases_in, phases_left, requests_by, requests_left}
use proofs.Names.{sense_bytes_left, struck_left, under_way, for_fault, for_phase, for_reselection, for_reset}
use proofs.Connections.Begins.{abort_sent, aborts_sent, command_sent, other_sent, sense_sent, sent_more}
use proofs.{Lines.{Futures.{all_commands, but_one_command, open_of}, Lowers.{left_by}}, Phases.Still.{shape}}
use proofs.Resets.Counts.{resets_stay}

-- ---- what a connection may ask for at first

at_most_one : (q : Bool) → one_where q ≤ 1
at_most_one true = omega arith
at_most_one false = omega arith

-- Where no pulses cross, at most four rows for a byte that is asked for, and one for each line.
pub few_under_way : (pulsed : Bool) (b : LineSet) (h : Handshakes) (t i : LineSet) (g : Offering) (a : Answering)
    → pulsed ≡ false → under_way pulsed b h t i g a ≤ 10
few_under_way pulsed b h t i g a e = subst (λ (q : Bool). under_way q b h t i g a ≤ 10) (sym e)
    (let w1 = at_most_one (is_asked b) in
    let w2 = at_most_one t.req in
    let w3 = at_most_one i.ack in
    let w4 = at_most_one (not (i.data_bits == 0)) in
    let w5 = at_most_one i.bsy in
    let w6 = at_most_one (h.requests == 0 && b.io && t.data_bits == 0) in
    omega arith)

few_sense : (moves : Bool) (made : List ProcessProgress) (o : Option Item) → sense_bytes_left moves made o ≤ 144
few_sense moves made None = omega arith
few_sense moves made (Some (abort n)) = omega arith
few_sense moves made (Some (process id)) = go (id.sense && not moves && (progress_in made id).runs == 0)
  where
    go : (q : Bool) → (if q then 8 * 18 else 0) ≤ 144
    go true = omega arith
    go false = omega arith

-- ---- a row of lines leaves the resets where RST is false before it and after it

pub calm_resets : (s : ScenarioValue) (p : List Row) (row : Row) → AreOfDevices p → row.dev < 8
    → is_fault row.kind ≡ false → (bus p).rst ≡ false → (bus (row ∷ p)).rst ≡ false
    → resets_left (run_state s (row ∷ p)) s.resets ≡ resets_left (run_state s p) s.resets
calm_resets s p row dv lt lines off calm = go row.kind refl
  where
    go : (x : Kind) → row.kind ≡ x → resets_left (run_state s (row ∷ p)) s.resets ≡ resets_left (run_state s p) s.resets
    go (Fault bit) e = wrong (sym (ap is_fault e) ∙ lines)
    go (Drives l) e =
        let same : row ≡ row_of_lines row.time row.dev l = row_is row l e in
        let own : (drives (row_of_lines row.time row.dev l ∷ p) row.dev).rst ≡ false =
        ap (λ (r : Row). (drives (r ∷ p) row.dev).rst) (sym same) ∙ off_at (row ∷ p) calm row.dev lt in
        ap (λ (r : Row). resets_left (run_state s (r ∷ p)) s.resets) same
        ∙ resets_stay s p row.time row.dev l s.resets dv lt (off_at p off row.dev lt)
        (ap (λ (y : LineSet). y.rst) (sym (drives_own p row.time row.dev l)) ∙ own)

-- ---- the row

begins_of : (s : ScenarioValue) (k : RunState) (row : Row) (n : Connection) → k.story.bus_state.connection ≡ None
    → (row_reading k.story.bus_state row).next ≡ Some n → (row_reading k.story.bus_state row).change.after.rst ≡ false
    → RowOf s k row → Begins s k row n
begins_of s k row n con next calm (apart e f) = none_some n (sym f ∙ next)
begins_of s k row n con next calm (begins m b) =
    subst (λ (x : Connection). Begins s k row x) (same_Some m n (sym b.first.next_is ∙ next)) b
begins_of s k row n con next calm (goes_on m c g) = none_some m (sym con ∙ g.row_is.connection_is)
begins_of s k row n con next calm (ends m g) = none_some m (sym con ∙ g.connection_is)
begins_of s k row n con next calm (under_reset r e) = wrong (sym r ∙ calm)

-- An abort that an initiator calls for is a line of the scenario.
abort_there : (s : ScenarioValue) (p : List Row) (row : Row) (n : Connection) (m : ℕ)
    → connection p ≡ None → connection (row ∷ p) ≡ Some n → n.reselected ≡ false
    → IsCalled s p → aim_of (run_state s p).story.aims n.initiator ≡ Some (abort m)
    → (a : AbortDef) × (abort_line_at s.aborts m ≡ Some a)
abort_there s p row n m alone e selects was aim = by_call (call p) refl (made_is p row n alone e).made
  where
    Found : Type 0
    Found = (a : AbortDef) × (abort_line_at s.aborts m ≡ Some a)

    found : (o : Option AbortDef) → abort_line_at s.aborts m ≡ o → (d : ℕ) → abort_target o ≡ Some d → Found
    found None f d z = none_some d z
    found (Some a) f d z = (a, f)

    by_calling : (c : Call) → call p ≡ Some c → (o : Option Calling) → c.calling ≡ o
        → connected_of c.caller o row.time ≡ Some n → Found
    by_calling c ek None f z = none_some n z
    by_calling c ek (Some x) f z = by_answer x.answered z
      where
        by_answer : (a : Option ℕ) → connected_by c.caller x a row.time ≡ Some n → Found
        by_answer None y = none_some n y
        by_answer (Some t) y =
            let same : connected c.caller x row.time ≡ n = same_Some (connected c.caller x row.time) n y in
            let re : x.reselects ≡ false = ap (λ (w : Connection). w.reselected) same ∙ selects in
            let caller : n.initiator ≡ c.caller = ap (λ (w : Connection). w.initiator) (sym same)
            ∙ ap (λ (q : Bool). if q then x.called else c.caller) re in
            let own : aim_of (run_state s p).story.aims c.caller ≡ Some (abort m) =
            ap (λ (d : ℕ). aim_of (run_state s p).story.aims d) (sym caller) ∙ aim in
            let host : is_initiator s.hosts c.caller ≡ true = (was c x ek f).host_is ∙ ap not re in
            let called : abort_target (abort_line_at s.aborts m) ≡ Some x.called =
            sym (ap (λ (q : Bool). if q then target_of s (aim_of (run_state s p).story.aims c.caller)
            else initiator_if (ready_of s (run_state s p) c.caller)) host ∙ ap (target_of s) own)
            ∙ (was c x ek f).callee_is in
            found (abort_line_at s.aborts m) refl x.called called

    by_call : (o : Option Call) → call p ≡ o → connection_of o row.time ≡ Some n → Found
    by_call None f z = none_some n z
    by_call (Some c) f z = by_calling c f c.calling refl z

-- ---- what is still to come, as a selection begins

pub command_apart : (m l : ℕ) → l ≢ m → same_item (command_item m) (command_item l) ≡ false
command_apart m l ne = λ i. ne_eqb m l (λ z. ne (sym z)) i && same_bool false false

-- The state after it, of which these parts are known.
pub record Selects (s : ScenarioValue) (j k : RunState) (item : Item) : Type 0 where
  pub sent : j.story.sent ≡ sent_more k.story.sent item
  pub served : j.served ≡ Some item
  pub before : k.served ≡ None
  pub still : is_in_data j ≡ false
  pub progress : j.progress ≡ k.progress
  pub resets : resets_left j s.resets ≡ resets_left k s.resets
  pub faults : j.faults ≡ k.faults

left_after : (s : ScenarioValue) (j k : RunState) (item : Item) (m : ℕ) (c : CmdDef) → Selects s j k item
    → command_left s j m c ≡ left_by s (sent_more k.story.sent item)
    (open_left s (same_item item (command_item m)) false (progress_in k.progress (command_id m)).runs c) m c
left_after s j k item m c h = λ i. left_by s (h.sent i) (open_left s (serves_item (h.served i) (command_item m))
    (h.still i) (progress_in (h.progress i) (command_id m)).runs c) m c

other_command : (s : ScenarioValue) (j k : RunState) (item : Item) (m : ℕ) (c : CmdDef) → Selects s j k item
    → same_item item (command_item m) ≡ false → command_left s j m c ≤ command_left s k m c
other_command s j k item m c h e =
    let after = left_after s j k item m c h ∙ ap (λ (q : Bool). left_by s (sent_more k.story.sent item)
    (open_left s q false (progress_in k.progress (command_id m)).runs c) m c) e in
    let same : open_of s k m c ≡ open_left s false false (progress_in k.progress (command_id m)).runs c = ap
    (λ (o : Option Item). open_left s (serves_item o (command_item m))
    (is_in_data k) (progress_in k.progress (command_id m)).runs c) h.before in
    let one = other_sent s k.story.sent item
    (open_left s false false (progress_in k.progress (command_id m)).runs c) (open_of s k m c) m c e (omega arith) in
    subst (λ (x : ℕ). x ≤ command_left s k m c) (sym after) one

select_sum : (c d a b r q f x y : ℕ) → c + x ≤ d → a + y ≤ b → r ≡ q → x + y ≡ 4096
    → c + a + 64 * r + f + 4096 ≤ d + b + 64 * q + f
select_sum c d a b r q f x y h g e z = omega arith

future_after : (s : ScenarioValue) (j k : RunState) (item : Item) (x y : ℕ)
    → Selects s j k item → commands_left s j 1 s.commands + x ≤ commands_left s k 1 s.commands
    → aborts_left s (sent_more k.story.sent item) 1 s.aborts + y ≤ aborts_left s k.story.sent 1 s.aborts → x + y ≡ 4096
    → future_left s j + 4096 ≤ future_left s k
future_after s j k item x y h commands aborts e =
    let same : for_fault s * length j.faults ≡ for_fault s * length k.faults = λ i. for_fault s * length (h.faults i) in
    subst (λ (w : ℕ). commands_left s j 1 s.commands + aborts_left s j.story.sent 1 s.aborts
    + for_reset * resets_left j s.resets + w + 4096 ≤ future_left s k) (sym same)
    (subst (λ (b : Sent). commands_left s j 1 s.commands + aborts_left s b 1 s.aborts
    + for_reset * resets_left j s.resets + for_fault s * length k.faults + 4096 ≤ future_left s k)
    (sym h.sent) (select_sum (commands_left s j 1 s.commands) (commands_left s k 1 s.commands)
    (aborts_left s (sent_more k.story.sent item) 1 s.aborts) (aborts_left s k.story.sent 1 s.aborts)
    (resets_left j s.resets) (resets_left k s.resets) (for_fault s * length k.faults) x y commands aborts h.resets e))

none_less : (a b : ℕ) → a ≤ b → a + 0 ≤ b
none_less a b h = omega arith

plus : (a b : ℕ) → a + 4096 ≤ b → a + 4096 ≤ b + 0
plus a b h = omega arith

less_zero : (a b : ℕ) → a ≤ b + 0 → a ≤ b
less_zero a b h = omega arith

pub selection_pays : (s : ScenarioValue) (j k : RunState) (dev : ℕ) (item : Item) → Items s k
    → IsNext s k.story.sent dev item → ((m : ℕ) → item ≡ abort m → (a : AbortDef) × (abort_line_at s.aborts m ≡ Some a))
    → Selects s j k item → future_left s j + 4096 ≤ future_left s k
selection_pays s j k dev _ items (is_abort m undone) there h =
    let a = there m refl in
    future_after s j k (abort m) 0 4096 h
    (none_less _ _ (all_commands s j k (λ n c at. other_command s j k (abort m) n c h refl)))
    (line m a.0 a.1 undone) refl
  where
    one_up : (i : ℕ) → suc i ≡ 1 + i
    one_up i = omega arith

    line : (m : ℕ) (a : AbortDef) → abort_line_at s.aborts m ≡ Some a → is_done k.story.sent (abort m) ≡ false
        → aborts_left s (sent_more k.story.sent (abort m)) 1 s.aborts + 4096 ≤ aborts_left s k.story.sent 1 s.aborts
    line zero a at u = none_some a (sym (none_at s.aborts) ∙ at)
      where
        none_at : (aborts : List AbortDef) → abort_line_at aborts 0 ≡ None
        none_at [] = refl
        none_at (x ∷ aborts) = refl
    line (suc i) a at u = subst (λ (x : ℕ). aborts_left s (sent_more k.story.sent (abort x)) 1 s.aborts + 4096
        ≤ aborts_left s k.story.sent 1 s.aborts) (sym (one_up i)) (abort_sent s k.story.sent 1 i a s.aborts at
        (ap (λ (x : ℕ). is_done k.story.sent (abort x)) (sym (one_up i)) ∙ u))
selection_pays s j k dev _ items (is_sense m d at own checked undone) there h = future_after s j k
    (sense_item m) 4096 0 h (less_zero _ _
    (but_one_command s j k 4096 0 m d at (λ n c f ne. other_command s j k (sense_item m) n c h (sense_apart m n))
    (plus _ _ (subst (λ (x : ℕ). x + 4096 ≤ command_left s k m d)
    (sym (left_after s j k (sense_item m) m d h)) (sense_sent s k.story.sent
    (open_left s (same_item (sense_item m) (command_item m)) false (progress_in k.progress (command_id m)).runs d)
    (open_of s k m d) m d (items.checked m checked) checked undone)))))
    (none_less _ _ (aborts_sent s k.story.sent (sense_item m) 1 s.aborts)) refl
selection_pays s j k dev _ items (is_command m time d at own undone may none) there h = future_after s j k
    (command_item m) 4096 0 h (less_zero _ _ (but_one_command s j k 4096 0 m d at
    (λ n c f ne. other_command s j k (command_item m) n c h (command_apart m n ne)) (plus _ _ (fewer _ _ paid))))
    (none_less _ _ (aborts_sent s k.story.sent (command_item m) 1 s.aborts)) refl
  where
    unsent : (has_item k.story.sent.sent (command_item m) ≡ false)
        × (has_item k.story.sent.over (command_item m) ≡ false)
    unsent = or_parts (has_item k.story.sent.sent (command_item m)) (has_item k.story.sent.over (command_item m)) undone

    fresh : (progress_in k.progress (command_id m)).runs ≡ 0
    fresh = ap (λ (x : ProcessProgress). x.runs) (items.progress (command_id m) unsent.0)

    shape_after : command_left s j m d
        ≡ left_by s (sent_more k.story.sent (command_item m)) (open_left s true false 0 d) m d
    shape_after = left_after s j k (command_item m) m d h ∙ (λ i. left_by s (sent_more k.story.sent (command_item m))
        (open_left s (self_item (command_item m) i) false (fresh i) d) m d)

    paid : command_left s j m d + 5120 ≤ command_left s k m d
    paid = subst (λ (x : ℕ). x + 5120 ≤ command_left s k m d) (sym shape_after)
        (command_sent s k.story.sent (open_of s k m d) m d unsent.1 unsent.0)

    fewer : (a b : ℕ) → a + 5120 ≤ b → a + 4096 ≤ b
    fewer a b h = omega arith

-- ---- and as a reselection does

pub record Reselects (s : ScenarioValue) (j k : RunState) (m : ℕ) : Type 0 where
  pub sent : j.story.sent ≡ k.story.sent
  pub served : j.served ≡ Some (command_item m)
  pub before : k.served ≡ None
  pub still : is_in_data j ≡ false
  pub progress : j.progress ≡ k.progress
  pub resets : resets_left j s.resets ≡ resets_left k s.resets
  pub faults : j.faults ≡ k.faults

pub reselection_pays : (s : ScenarioValue) (j k : RunState) (m : ℕ) (c : CmdDef) → command_at s.commands m ≡ Some c
    → has_item k.story.sent.sent (command_item m) ≡ true → has_item k.story.sent.over (command_item m) ≡ false
    → Reselects s j k m → future_left s j + 1024 ≤ future_left s k
reselection_pays s j k m c at sent over h =
    let same : for_fault s * length j.faults ≡ for_fault s * length k.faults = λ i. for_fault s * length (h.faults i) in
    let commands = less_zero _ _ (but_one_command s j k 1024 0 m c at other (plus_more _ _ own)) in
    subst (λ (w : ℕ). commands_left s j 1 s.commands + aborts_left s j.story.sent 1 s.aborts
    + for_reset * resets_left j s.resets + w + 1024 ≤ future_left s k) (sym same)
    (subst (λ (b : Sent). commands_left s j 1 s.commands + aborts_left s b 1 s.aborts
    + for_reset * resets_left j s.resets + for_fault s * length k.faults + 1024 ≤ future_left s k) (sym h.sent)
    (sum (commands_left s j 1 s.commands) (commands_left s k 1 s.commands) (aborts_left s k.story.sent 1 s.aborts)
    (resets_left j s.resets) (resets_left k s.resets) (for_fault s * length k.faults) commands h.resets))
  where
    sum : (c d a r q f : ℕ) → c + 1024 ≤ d → r ≡ q → c + a + 64 * r + f + 1024 ≤ d + a + 64 * q + f
    sum c d a r q f x e = omega arith

    plus_more : (a b : ℕ) → a + 1024 ≤ b → a + 1024 ≤ b + 0
    plus_more a b h = omega arith

    made : ℕ → ℕ
    made l = (progress_in k.progress (command_id l)).runs

    after : (l : ℕ) (d : CmdDef) → command_left s j l d
        ≡ left_by s k.story.sent (open_left s (same_item (command_item m) (command_item l)) false (made l) d) l d
    after l d = λ i. left_by s (h.sent i) (open_left s (serves_item (h.served i) (command_item l)) (h.still i)
        (progress_in (h.progress i) (command_id l)).runs d) l d

    before : (l : ℕ) (d : CmdDef)
        → command_left s k l d ≡ left_by s k.story.sent (open_left s false false (made l) d) l d
    before l d = ap (λ (o : Option Item). left_by s k.story.sent
        (open_left s (serves_item o (command_item l)) (is_in_data k) (made l) d) l d) h.before

    other : (l : ℕ) (d : CmdDef) → command_at s.commands l ≡ Some d → l ≢ m
        → command_left s j l d ≤ command_left s k l d
    other l d f ne =
        let e = after l d
        ∙ ap (λ (q : Bool). left_by s k.story.sent (open_left s q false (made l) d) l d) (command_apart m l ne)
        ∙ sym (before l d) in
        omega arith

    own : command_left s j m c + 1024 ≤ command_left s k m c
    own =
        let e : command_left s j m c ≡ open_left s true false (made m) c = after m c
        ∙ (λ i. if over i then sense_left k.story.sent m
        else if sent i then open_left s (self_item (command_item m) i) false (made m) c
        else unsent_left s k.story.sent m c) in
        let f : command_left s k m c ≡ open_left s false false (made m) c = before m c
        ∙ (λ i. if over i then sense_left k.story.sent m
        else if sent i then open_left s false false (made m) c else unsent_left s k.story.sent m c) in
        let w = by (data_runs s c) (made m) (bytes_after s c (made m + 0)) in
        chain (command_left s j m c) (open_left s true false (made m) c) (open_left s false false (made m) c)
        (command_left s k m c) e f w
      where
        by : (r l y : ℕ) → 1024 * (r - l + 0) + 8 * y + 4096 + 1024 ≤ 1024 * (r - l + 1) + 8 * y + 4096
        by r l y = omega arith

        chain : (a x y b : ℕ) → a ≡ x → b ≡ y → x + 1024 ≤ y → a + 1024 ≤ b
        chain a x y b e f h = omega arith

-- The messages that name a process.
few_names : (c : Process) → length (bytes_of_messages (naming_messages c)) ≤ 3
few_names c = go c.tag
  where
    go : (t : Tag)
        → length (bytes_of_messages (record { first = Some (MsgIn.Identify c.unit); second = tag_named t })) ≤ 3
    go Tag.Untagged = omega arith
    go _ = omega arith

-- ---- the measure

selected_less : (f g l u w m : ℕ) → f + 4096 ≤ g → l ≡ 2048 → u ≤ 10 → w ≤ 144 → g ≤ m
    → suc (f + 40 + (l + (0 + u) + w + 0)) ≤ m
selected_less f g l u w m h e x y z = omega arith

reselected_less : (f g l r u w m : ℕ) → f + 1024 ≤ g → l ≡ 512 → r ≤ 3 → u ≤ 10 → w ≤ 144 → g ≤ m
    → suc (f + 40 + (l + (8 * r + u) + w + 0)) ≤ m
reselected_less f g l r u w m h e x y v z = omega arith

no_pulses_by : (b : Bool) (l : LineSet) (x : Bool) → is_data l ≡ false → (b && is_data l && x) ≡ false
no_pulses_by b l x e = ap (λ (q : Bool). b && q && x) e ∙ go b
  where
    go : (b : Bool) → (b && false && x) ≡ false
    go true = refl
    go false = refl

pub begin_falls : (s : ScenarioValue) (p : List Row) (row : Row) (n : Connection) → Obeys s → IsPrompt s (row ∷ p)
    → Whole s p → connection p ≡ None → connection (row ∷ p) ≡ Some n → suc (measure s (row ∷ p)) ≤ measure s p
begin_falls s p row n o prompt was alone e = by_bool n.reselected (λ re. reselects re) (λ sel. selects sel)
  where
    q : List Row
    q = row ∷ p

    j : RunState
    j = run_state s q

    k : RunState
    k = run_state s p

    dv : AreOfDevices p
    dv = was.stood.standing.devices

    lt : row.dev < 8
    lt = (least_is s p row prompt.1).inside

    pj : IsPlain s q j
    pj = run_state_plain s q (lt, dv)

    off : (bus p).rst ≡ false
    off = calm_before s p row n o prompt was.stood alone e

    calm : (bus q).rst ≡ false
    calm = calm_after p row n alone e

    change : (row_reading k.story.bus_state row).change ≡ change_of p row
    change = change_plain s row p dv lt

    con : k.story.bus_state.connection ≡ None
    con = was.stood.plain.connection ∙ alone

    next : (row_reading k.story.bus_state row).next ≡ Some n
    next = (λ i. connection_after (was.stood.plain.connection i) (was.stood.plain.call i) (change i) row) ∙ e

    g : Begins s k row n
    g = begins_of s k row n con next (ap (λ (x : Change). x.after.rst) change ∙ calm)
        (standing_next s p row o prompt was).row_is

    items : Items s k
    items = was.facts.items.items

    none : (k.story.link ≡ None) × (k.served ≡ None)
    none = items.apart con

    f : FirstSent s k row n
    f = first_sent s k row n g.first none.0

    made : j.exchange ≡ first_exchange s k n (aim_of k.story.aims n.initiator)
    made = first_made s k row n g.first

    begun : j.exchange.begun ≡ n.reselected
    begun = ap (λ (x : Exchange). x.begun) made

    progress : j.progress ≡ k.progress
    progress = ap (λ (c : Option Connection). progress_after s k (row_reading k.story.bus_state row) c
        (row_reading k.story.bus_state row).next (leaving_of s k k.story.bus_state.connection)) con

    faults : j.faults ≡ k.faults
    faults = ap (λ (b : Bool). if b then drop 1 k.faults else k.faults) g.first.lines

    resets : resets_left j s.resets ≡ resets_left k s.resets
    resets = calm_resets s p row dv lt g.first.lines off calm

    struck : is_struck_phase s q ≡ false
    struck = ap (λ (c : Option Connection). is_some c && is_some (row_reading k.story.bus_state row).next
        && not (changes_phase (row_reading k.story.bus_state row).change) && (is_fault row.kind || is_struck_phase s p))
        con

    whole : measure s q ≡ future_left s j + 40 + (phases_left (is_refusing s q) j + phase_left s j n
        + sense_bytes_left (is_in_data j) j.progress j.served + struck_left s false)
    whole = shape s j (is_struck_phase s q) (is_refusing s q) n
        (ap (λ (l : LineSet). l.rst) pj.bus ∙ calm) (pj.connection ∙ e)
        ∙ ap (λ (x : Bool). future_left s j + 40 + (phases_left (is_refusing s q) j + phase_left s j n
        + sense_bytes_left (is_in_data j) j.progress j.served + struck_left s x)) struck

    most : future_left s k ≤ measure s p
    most = omega arith

    around : ℕ
    around = under_way (pace_of s j n.target).pulsed (bus_of j) j.handshakes (drives_of j n.target)
        (drives_of j n.initiator) (offering_of s j n.target) (answering_of s j n.initiator)

    selects : n.reselected ≡ false → suc (measure s q) ≤ measure s p
    selects sel =
        let a = g.selects sel in
        let dry : j.exchange.begun ≡ false = begun ∙ sel in
        let h : Selects s j k a.item = record {
          sent = f.sent ∙ ap
              (λ (b : Bool). if b then k.story.sent else sent_with k.story.sent (aim_of k.story.aims n.initiator)) sel
              ∙ ap (sent_with k.story.sent) a.aim_is;
          served = f.served
              ∙ ap (λ (b : Bool). if b then item_if (ready_of s k n.target) else aim_of k.story.aims n.initiator) sel
              ∙ a.aim_is;
          before = none.1;
          still = ap (λ (b : Bool). b && is_data (bus_of j)) dry;
          progress = progress;
          resets = resets;
          faults = faults;
        } in
        let aimed = aimed_next s p row n alone e sel (was.stood.called alone off)
        (was.facts.items.aims alone off) a.item a.aim_is in
        let pay = selection_pays s j k n.initiator a.item items aimed (λ m z. abort_there s p row n m alone e sel
        (was.stood.called alone off) (a.aim_is ∙ ap (λ (x : Item). Some x) z)) h in
        let pulsed : (pace_of s j n.target).pulsed ≡ false = ap
        (λ (b : Bool). is_pulsed_phase b (bus_of j) (agreement_of j)) dry in
        let ahead : phases_left (is_refusing s q) j ≡ 2048 = ap
        (λ (b : Bool). if b then phases_in (is_refusing s q) j.exchange.plan (phase_of (bus_of j))
        else for_reselection + 8 * for_phase) dry in
        let here : phase_left s j n ≡ 0 + around = ap
        (λ (b : Bool). bytes_if_begun b (requests_left s j n.target) + around) dry in
        let same = whole ∙ ap (λ (x : ℕ). future_left s j + 40
        + (phases_left (is_refusing s q) j + x + sense_bytes_left (is_in_data j) j.progress j.served + 0)) here in
        subst (λ (x : ℕ). suc x ≤ measure s p) (sym same) (selected_less (future_left s j) (future_left s k)
        (phases_left (is_refusing s q) j) around (sense_bytes_left (is_in_data j) j.progress j.served) (measure s p)
        pay ahead (few_under_way (pace_of s j n.target).pulsed (bus_of j) j.handshakes (drives_of j n.target)
        (drives_of j n.initiator) (offering_of s j n.target) (answering_of s j n.initiator) pulsed)
        (few_sense (is_in_data j) j.progress j.served) most)

    reselects : n.reselected ≡ true → suc (measure s q) ≤ measure s p
    reselects re =
        let r = g.reselects re in
        let queued : IsQueued s k.story.sent r.ready.process = items_ready
        s p n.target r.ready was.facts.items r.ready_is in
        let id : ProcId = r.ready.process.id in
        let own : process id ≡ command_item id.command = λ i. process
        (record { command = id.command; sense = queued.command i }) in
        let wet : j.exchange.begun ≡ true = begun ∙ re in
        let message : is_message_in (bus_of j) ≡ true = g.names re in
        let three = lines_in (bus_of j) message in
        let moving : is_data (bus_of j) ≡ false = λ i. not (three.0 i) && not (bus_of j).cd in
        let h : Reselects s j k id.command = record {
          sent = f.sent ∙ ap
              (λ (b : Bool). if b then k.story.sent else sent_with k.story.sent (aim_of k.story.aims n.initiator)) re;
          served = f.served
              ∙ ap (λ (b : Bool). if b then item_if (ready_of s k n.target) else aim_of k.story.aims n.initiator) re
              ∙ ap item_if r.ready_is ∙ ap (λ (x : Item). Some x) own;
          before = none.1;
          still = ap (λ (b : Bool). j.exchange.begun && b) moving ∙ and_false j.exchange.begun;
          progress = progress;
          resets = resets;
          faults = faults;
        } in
        let there = command_of_process id r.ready.process queued.is in
        let pay = reselection_pays s j k id.command there.0 there.1
        (ap (has_item k.story.sent.sent) (sym own) ∙ queued.sent)
        (ap (has_item k.story.sent.over) (sym own) ∙ queued.opens) h in
        let pulsed : (pace_of s j n.target).pulsed ≡ false = no_pulses_by j.exchange.begun
        (bus_of j) (nat_lt 0 (agreement_of j).offset) moving in
        let phase : phase_of (bus_of j) ≡ Phase.MessageIn =
        λ i. if three.0 i then (if three.1 i then Phase.MessageIn else Phase.MessageOut)
        else if (bus_of j).cd then (if (bus_of j).io then Phase.Status else Phase.Command)
        else if (bus_of j).io then Phase.DataIn else Phase.DataOut in
        let ahead : phases_left (is_refusing s q) j ≡ 512 =
        (λ i. if wet i then phases_in (is_refusing s q) j.exchange.plan (phase i) else for_reselection + 8 * for_phase)
        ∙ ap (λ (x : Exchange). after_next x.plan.messages x.plan.next) made
        ∙ ap (λ (b : Bool). after_next (first_exchange_plan b).messages (first_exchange_plan b).next) re in
        let names : j.exchange.plan.messages ≡ naming_messages r.ready.process =
        ap (λ (x : Exchange). x.plan.messages) made
        ∙ ap (λ (b : Bool). (first_exchange_plan b).messages) re ∙ ap messages_if r.ready_is in
        let requests : requests_left s j n.target ≤ 3 = subst (λ (x : ℕ). x ≤ 3)
        (sym (λ i. requests_by j.exchange.plan.struck (is_asked (bus_of j)) j.handshakes j.exchange.speech
        (length (bytes_of_messages (names i))) (run_of j) (phase i)))
        (fewer (length (bytes_of_messages (naming_messages r.ready.process))) j.handshakes.requests
        (few_names r.ready.process)) in
        let here : phase_left s j n ≡ 8 * requests_left s j n.target + around = ap
        (λ (b : Bool). bytes_if_begun b (requests_left s j n.target) + around) wet in
        let same = whole ∙ ap (λ (x : ℕ). future_left s j + 40
        + (phases_left (is_refusing s q) j + x + sense_bytes_left (is_in_data j) j.progress j.served + 0)) here in
        subst (λ (x : ℕ). suc x ≤ measure s p) (sym same)
        (reselected_less (future_left s j) (future_left s k) (phases_left (is_refusing s q) j)
        (requests_left s j n.target) around (sense_bytes_left (is_in_data j) j.progress j.served) (measure s p) pay
        ahead requests (few_under_way (pace_of s j n.target).pulsed (bus_of j) j.handshakes (drives_of j n.target)
        (drives_of j n.initiator) (offering_of s j n.target) (answering_of s j n.initiator) pulsed)
        (few_sense (is_in_data j) j.progress j.served) most)
      where
        first_exchange_plan : Bool → Plan
        first_exchange_plan b = first_plan b (not b && may_negotiate k n (aim_of k.story.aims n.initiator))
            (if b then messages_if (ready_of s k n.target) else no_messages)

        run_of : RunState → ℕ
        run_of x = run_length_if (policy_of (target_def_of s n.target)) (task_of s x)

        fewer : (a b : ℕ) → a ≤ 3 → a - b ≤ 3
        fewer a b h = omega arith

        lines_in : (l : LineSet) → is_message_in l ≡ true → (l.msg ≡ true) × (l.io ≡ true)
        lines_in l z = let a = and_parts (l.msg && l.cd) l.io z in let b = and_parts l.msg l.cd a.0 in (b.0, a.1)

        command_of_process : (id : ProcId) (x : Process) → process_of s id ≡ Some x
            → (c : CmdDef) × (command_at s.commands id.command ≡ Some c)
        command_of_process id x z = by (command_at s.commands id.command) refl z
          where
            by : (o : Option CmdDef) → command_at s.commands id.command ≡ o → process_if s id o ≡ Some x
                → (c : CmdDef) × (command_at s.commands id.command ≡ Some c)
            by None u v = none_some x v
            by (Some c) u v = (c, u)
