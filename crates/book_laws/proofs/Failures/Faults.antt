-- No more phases with wrong parity than fault rows, where each complaint of the initiator is of a phase with a fault
-- row.
use Rattle.book_laws.proofs
use proofs.Names.{ℕ, ◌≡◌, ◌≤◌, Bool, true, false, List, [], ◌∷◌, ◌∙◌, refl, sym, subst, Option, Some, None, arith, ◌+◌}
use proofs.Names.{not, ◌&&◌, ◌||◌, and_parts, nat_tests, if◌then◌else◌, is_some, nat_lt, wrong', ProcId, LineSet}
use proofs.Names.{changes_phase, is_message_out, is_fault, Row, Connection, ScenarioValue, Process, RowReading}
use proofs.Names.{row_reading, process, phase_of, recovery_limit, one_if, Phase, Plan, target_def_of, same_process}
use proofs.Names.{RunState, bus_of, run_state, served_after, is_struck_phase, is_wrong_phase, is_left, serves}
use proofs.Names.{leaves_wrong_phase, wrong_phases, fault_rows, is_refusing, is_complaining, is_true_complaint}
use proofs.Names.{complains_truly, has_passed_limit, has_more_faults}

-- ---- numbers

-- What is struck and not counted yet: the present phase, and the one that the initiator complains of.
abbrev open_faults : Bool → Bool → Bool → ℕ
open_faults served struck refusing = if served then one_if struck + one_if refusing else 0

uncounted : (w f : ℕ) (r b q : Bool) → w + open_faults r b q ≤ f → w ≤ f
uncounted w f true true true h = grind arith
uncounted w f _ _ _ h = grind arith

counts_one : (w f : ℕ) (r c q l : Bool)
    → (l ≡ true → r ≡ true) → (l ≡ true → (c || q) ≡ true) → w + open_faults r c q ≤ f → w + one_if l ≤ f
counts_one w f r c q false a b h = let e : w ≤ f = uncounted w f r c q h in grind arith
counts_one w f false c q true a b h = wrong' (a refl)
counts_one w f true false false true a b h = wrong' (b refl)
counts_one w f true _ _ true a b h = grind arith

no_open : (q : Bool) → open_faults q false false ≡ 0
no_open true = refl
no_open false = refl

-- A phase is left to another: at most its strikes are complained of.
left_to : (w f : ℕ) (r b q c x : Bool) → w + open_faults r b q ≤ f → w + 0 + open_faults r false (c && b && x) ≤ f
left_to w f true false q true x h = let e : w ≤ f = uncounted w f true false q h in grind arith
left_to w f true false q false x h = let e : w ≤ f = uncounted w f true false q h in grind arith
left_to w f true true q false x h = let e : w ≤ f = uncounted w f true true q h in grind arith
left_to w f _ _ _ _ _ h = grind arith

-- A phase goes on: a fault row is one more.
goes_on : (w f : ℕ) (r b q x : Bool) → w + open_faults r b q ≤ f
    → w + 0 + open_faults r (x || b) q ≤ f + one_if (x && true && r)
goes_on w f false b q true h = grind arith
goes_on w f _ _ _ _ h = grind arith

more_faults : (m f : ℕ) (q : Bool) → m ≤ f → m ≤ f + one_if q
more_faults m f true h = grind arith
more_faults m f false h = grind arith

-- Connected before and after, another phase, a fault row, I/O, MESSAGE OUT; served before and after, struck, refusing;
-- and whether a phase with wrong parity is left.
step : (w f : ℕ) (c y ch x io out z t o q l : Bool)
    → (c ≡ true → y ≡ true → t ≡ z) → (l ≡ true → z ≡ true) → (l ≡ true → (o || q) ≡ true)
    → (l ≡ true → io ≡ false) → (l ≡ true → y ≡ true → ch ≡ true) → w + open_faults z o q ≤ f
    → w + one_if l + open_faults t (c && y && not ch && (x || o)) (c && y && (if ch then io && o && out else q))
    ≤ f + one_if (x && c && z)
step w f false y ch x io out z t o q l a b d e g h =
    more_faults _ f (x && false && z) (subst (λ (m : ℕ). w + one_if l + m ≤ f) (sym (no_open t))
    (let v : w + one_if l ≤ f = counts_one w f z o q l b d h in grind arith))
step w f true false ch x io out z t o q l a b d e g h =
    more_faults _ f (x && true && z) (subst (λ (m : ℕ). w + one_if l + m ≤ f) (sym (no_open t))
    (let v : w + one_if l ≤ f = counts_one w f z o q l b d h in grind arith))
step w f true true true x io out z t o q true a b d e g h =
    more_faults _ f (x && true && z)
    (subst (λ (m : ℕ). w + 1 + m ≤ f) (sym (no_open t) ∙ (λ i. open_faults t false (sym (e refl) i && o && out)))
    (let v : w + 1 ≤ f = counts_one w f z o q true b d h in grind arith))
step w f true true true x io out z t o q false a b d e g h = more_faults _ f (x && true && z) (subst
    (λ (r : Bool). w + 0 + open_faults r false (io && o && out) ≤ f) (sym (a refl refl)) (left_to w f z o q io out h))
step w f true true false x io out z t o q true a b d e g h = wrong' (g refl refl)
step w f true true false x io out z t o q false a b d e g h = subst
    (λ (r : Bool). w + 0 + open_faults r (x || o) q ≤ f + one_if (x && true && z)) (sym (a refl refl))
    (goes_on w f z o q x h)

-- ---- a phase with wrong parity

wrong_out : (struck : Bool) (plan : Plan) (lines : LineSet) → is_wrong_phase struck plan (phase_of lines) ≡ true
    → lines.io ≡ false
wrong_out struck plan lines h = go lines.msg lines.io lines.cd h
  where
    go : (m io c : Bool) → is_wrong_phase struck plan (if m then (if io then Phase.MessageIn else Phase.MessageOut)
        else if c then (if io then Phase.Status else Phase.Command) else if io then Phase.DataIn else Phase.DataOut)
        ≡ true → io ≡ false
    go true true c e = cc
    go false true true e = cc
    go false true false e = cc
    go m false c e = refl

wrong_struck : (struck refusing left : Bool) (plan : Plan) (phase : Phase) → left ≡ true
    → is_wrong_phase struck plan phase ≡ true → (not (left && is_complaining plan phase) || refusing) ≡ true
    → (struck || refusing) ≡ true
wrong_struck struck refusing left plan Phase.Command a b c = λ i. b i || refusing
wrong_struck struck refusing left plan Phase.DataOut a b c = λ i. b i || refusing
wrong_struck struck refusing left plan Phase.MessageOut a b c =
    last struck ((λ i. not (sym a i && sym b i) || refusing) ∙ c)
  where
    last : (x : Bool) → refusing ≡ true → (x || refusing) ≡ true
    last true e = refl
    last false e = e
wrong_struck struck refusing left plan _ a b c = cc

parts : (a b c : Bool) → (a && b && c) ≡ true → (a ≡ true) × (b ≡ true) × (c ≡ true)
parts true true true h = (refl, refl, refl)
parts _ _ _ h = cc

left_phase : (a b q c r : Bool) → (a && b && (if q then c else not r)) ≡ true → q ≡ true → c ≡ true
left_phase true true true c r h e = h
left_phase _ _ _ c r h e = cc

-- ---- all rows

serves_still : (s : ScenarioValue) (k : RunState) (before after : Option Connection) (id : ProcId)
    → is_some before ≡ true → is_some after ≡ true
    → (same_process (served_after s k before after) (Some (process id)) && is_some (served_after s k before after))
    ≡ serves k id
serves_still s k None after id a b = cc
serves_still s k (Some m) None id a b = cc
serves_still s k (Some m) (Some n) id a b = refl

row_bound : (s : ScenarioValue) (rows : List Row) (row : Row) (id : ProcId)
    → is_true_complaint (run_state s rows) (row_reading (run_state s rows).story.bus_state row) (is_refusing s rows)
    ≡ true
    → wrong_phases s rows id + open_faults (serves (run_state s rows) id) (is_struck_phase s rows) (is_refusing s rows)
    ≤ fault_rows s rows id
    → wrong_phases s (row ∷ rows) id
    + open_faults (serves (run_state s (row ∷ rows)) id) (is_struck_phase s (row ∷ rows)) (is_refusing s (row ∷ rows))
    ≤ fault_rows s (row ∷ rows) id
row_bound s rows row id true_one before = step (wrong_phases s rows id) (fault_rows s rows id)
    (is_some k.story.bus_state.connection) (is_some d.next) (changes_phase d.change)
    (is_fault row.kind) d.change.before.io (is_message_out d.change.after) (serves k id)
    (serves (run_state s (row ∷ rows)) id) (is_struck_phase s rows) (is_refusing s rows) leaves
    (λ a b. serves_still s k k.story.bus_state.connection d.next id a b) (λ a. (three a).1)
    (λ a. wrong_struck (is_struck_phase s rows) (is_refusing s rows) (is_left k d) k.exchange.plan (phase_of (bus_of k))
    (three a).0 (three a).2 true_one) (λ a. wrong_out (is_struck_phase s rows) k.exchange.plan (bus_of k) (three a).2)
    (λ a b. left_phase (is_some k.story.bus_state.connection) k.exchange.begun (is_some d.next)
    (changes_phase d.change) d.change.after.rst (three a).0 b) before
  where
    k : RunState
    k = run_state s rows

    d : RowReading
    d = row_reading k.story.bus_state row

    leaves : Bool
    leaves = leaves_wrong_phase (is_struck_phase s rows) k d id

    three : leaves ≡ true → (is_left k d ≡ true) × (serves k id ≡ true)
        × (is_wrong_phase (is_struck_phase s rows) k.exchange.plan (phase_of (bus_of k)) ≡ true)
    three a = parts (is_left k d) (serves k id)
        (is_wrong_phase (is_struck_phase s rows) k.exchange.plan (phase_of (bus_of k))) a

bound : (s : ScenarioValue) (rows : List Row) (id : ProcId) → complains_truly s rows ≡ true
    → wrong_phases s rows id + open_faults (serves (run_state s rows) id) (is_struck_phase s rows) (is_refusing s rows)
    ≤ fault_rows s rows id
bound s [] id h = grind arith
bound s (row ∷ rows) id h =
    let two = and_parts (complains_truly s rows) (is_true_complaint (run_state s rows)
    (row_reading (run_state s rows).story.bus_state row) (is_refusing s rows)) h in
    row_bound s rows row id two.1 (bound s rows id two.0)

pub faults_are : (s : ScenarioValue) (rows : List Row) (id : ProcId) → complains_truly s rows ≡ true
    → wrong_phases s rows id ≤ fault_rows s rows id
faults_are s rows id h = uncounted (wrong_phases s rows id) (fault_rows s rows id) (serves (run_state s rows) id)
    (is_struck_phase s rows) (is_refusing s rows) (bound s rows id h)

pub faults_pass : (s : ScenarioValue) (rows : List Row) (c : Process) → complains_truly s rows ≡ true
    → has_passed_limit s rows c ≡ true → has_more_faults s rows c ≡ true
faults_pass s rows c h e = go (recovery_limit (target_def_of s c.target)) (wrong_phases s rows c.id)
    (fault_rows s rows c.id) (faults_are s rows c.id h) e
  where
    go : (limit w f : ℕ) → w ≤ f → nat_lt limit w ≡ true → nat_lt limit f ≡ true
    go limit w f a b = grind (arith, nat_tests)
