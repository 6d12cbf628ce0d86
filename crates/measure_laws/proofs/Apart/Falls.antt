-- With each row before which and after which no connection stands, RST being false, the measure falls.
use Rattle.measure_laws.proofs
use proofs.Names.{ℕ, suc, ◌≡◌, ◌<◌, ◌≤◌, ◌∙◌, Bool, true, false, List, [], ◌∷◌, length, Option, Some, None, refl, sym}
use proofs.Names.{ap, subst, arith, ◌+◌, ◌*◌, drop, if◌then◌else◌, plus_none, falls, connection, is_fault, bus, Row}
use proofs.Names.{Connection, ScenarioValue, FaultDef, Sent, run_state_plain, AreOfDevices, RunState, bus_of, run_state}
use proofs.Names.{flip_of, is_refusing, is_struck_phase, row_of_fault, none_some, aborts_left, future_left, is_in_data}
use proofs.Names.{resets_left, connection_if, measure, connection_left, way_left, for_fault, for_reset}
use proofs.{Names.{for_struck_phase}, Apart.Future.{ApartParts, commands_by, future_by, future_is, future_was}}
use proofs.{Apart.Future.{sent_stays}, Resets.Faults.{resets_calm, resets_fault}}

-- ---- the measure without a connection

pub bare : (s : ScenarioValue) (p : List Row) → AreOfDevices p → connection p ≡ None
    → measure s p ≡ future_left s (run_state s p) + way_left (run_state s p)
bare s p dv alone =
    let k : RunState = run_state s p in
    (λ i. future_left s k + way_left k + connection_left s k (is_struck_phase s p) (is_refusing s p)
    (connection_if (bus_of k).rst (((run_state_plain s p dv).connection ∙ alone) i)))
    ∙ ap (λ (o : Option Connection). future_left s k + way_left k
    + connection_left s k (is_struck_phase s p) (is_refusing s p) o) (none (bus_of k).rst)
    ∙ plus_none (future_left s k + way_left k)
  where
    none : (q : Bool) → connection_if q None ≡ None
    none true = refl
    none false = refl

-- ---- what falls

-- By what is to come and the way.
pub falling : (s : ScenarioValue) (p : List Row) (row : Row) → AreOfDevices p → row.dev < 8 → connection p ≡ None
    → connection (row ∷ p) ≡ None → suc (future_left s (run_state s (row ∷ p)) + way_left (run_state s (row ∷ p)))
    ≤ future_left s (run_state s p) + way_left (run_state s p)
    → suc (measure s (row ∷ p)) ≤ measure s p
falling s p row dv lt was alone less = subst (λ x. suc (measure s (row ∷ p)) ≤ x) (sym (bare s p dv was))
    (subst (λ x. suc x ≤ future_left s (run_state s p) + way_left (run_state s p))
    (sym (bare s (row ∷ p) (lt, dv) alone)) less)

same_future : (s : ScenarioValue) (p : List Row) (row : Row) → ApartParts s p row
    → AreOfDevices p → row.dev < 8 → (bus p).rst ≡ false → (bus (row ∷ p)).rst ≡ false
    → is_fault row.kind ≡ false → falls (bus p).sel (bus (row ∷ p)).sel ≡ false
    → future_left s (run_state s (row ∷ p)) ≡ future_left s (run_state s p)
same_future s p row parts dv lt calm next lines sel =
    let k : RunState = run_state s p in
    future_is s p row parts (resets_calm s p row s.resets dv lt calm next) ∙ (λ i. future_by s
    (sent_stays s p row parts sel i) k (resets_left k s.resets) (if lines i then drop 1 k.faults else k.faults))
    ∙ sym (future_was s k)

way_pays : (f g u v : ℕ) → f ≡ g → suc u ≤ v → suc (f + u) ≤ g + v
way_pays f g u v e h = omega (arith, e, h)

pub passes_falls : (s : ScenarioValue) (p : List Row) (row : Row) → ApartParts s p row → AreOfDevices p
    → row.dev < 8 → connection p ≡ None → connection (row ∷ p) ≡ None → (bus p).rst ≡ false
    → (bus (row ∷ p)).rst ≡ false → is_fault row.kind ≡ false → falls (bus p).sel (bus (row ∷ p)).sel ≡ false
    → suc (way_left (run_state s (row ∷ p))) ≤ way_left (run_state s p) → suc (measure s (row ∷ p)) ≤ measure s p
passes_falls s p row parts dv lt was alone calm next lines sel less = falling s p row dv lt was alone
    (way_pays (future_left s (run_state s (row ∷ p))) (future_left s (run_state s p)) (way_left (run_state s (row ∷ p)))
    (way_left (run_state s p)) (same_future s p row parts dv lt calm next lines sel) less)

-- ---- a fault that strikes the IDs

pub one_fault : (faults : List FaultDef) (time bit : ℕ) → flip_of faults time ≡ Some bit
    → length faults ≡ suc (length (drop 1 faults))
one_fault [] time bit e = none_some bit e
one_fault (f ∷ faults) time bit e = refl

pub times_one : (f m : ℕ) → f * suc m ≡ f * m + f
times_one f m = grind arith

fault_pays : (c f x u v z : ℕ) → u ≤ v + 64 → suc (c + x + u) ≤ c + (x + (z + 2 * 64)) + v
fault_pays c f x u v z h = omega (arith, h)

strikes_by : (s : ScenarioValue) (p : List Row) (t d bit time : ℕ) → ApartParts s p (row_of_fault t d bit)
    → AreOfDevices p → d < 8 → connection p ≡ None → connection (row_of_fault t d bit ∷ p) ≡ None
    → flip_of (run_state s p).faults time ≡ Some bit → falls (bus p).sel (bus (row_of_fault t d bit ∷ p)).sel ≡ false
    → way_left (run_state s (row_of_fault t d bit ∷ p)) ≤ way_left (run_state s p) + 64
    → suc (measure s (row_of_fault t d bit ∷ p)) ≤ measure s p
strikes_by s p t d bit time parts dv lt was alone flips sel more =
    let row : Row = row_of_fault t d bit in
    let k : RunState = run_state s p in
    let j : RunState = run_state s (row ∷ p) in
    let c : ℕ = commands_by s k.story.sent k.served (is_in_data k) k.progress 1 s.commands
    + aborts_left s k.story.sent 1 s.aborts + for_reset * resets_left k s.resets in
    let m : ℕ = length (drop 1 k.faults) in
    let after : future_left s j ≡ c + for_fault s * m =
    future_is s p row parts (resets_fault s p t d bit s.resets dv lt)
    ∙ ap (λ (x : Sent). future_by s x k (resets_left k s.resets) (drop 1 k.faults)) (sent_stays s p row parts sel) in
    let before : future_left s k ≡ c + (for_fault s * m + for_fault s) = future_was s k
    ∙ ap (λ x. c + for_fault s * x) (one_fault k.faults time bit flips) ∙ ap (λ x. c + x) (times_one (for_fault s) m) in
    falling s p row dv lt was alone (subst (λ x. suc (future_left s j + way_left j) ≤ x + way_left k) (sym before)
    (subst (λ x. suc (x + way_left j) ≤ c + (for_fault s * m + for_fault s) + way_left k) (sym after)
    (fault_pays c (for_fault s) (for_fault s * m) (way_left j) (way_left k) (for_struck_phase s) more)))

pub strikes_falls : (s : ScenarioValue) (p : List Row) (row : Row) (t d bit time : ℕ) → row ≡ row_of_fault t d bit
    → ApartParts s p row → AreOfDevices p → row.dev < 8 → connection p ≡ None → connection (row ∷ p) ≡ None
    → flip_of (run_state s p).faults time ≡ Some bit → falls (bus p).sel (bus (row ∷ p)).sel ≡ false
    → way_left (run_state s (row ∷ p)) ≤ way_left (run_state s p) + 64 → suc (measure s (row ∷ p)) ≤ measure s p
strikes_falls s p row t d bit time is parts dv lt was alone flips sel more = subst
    (λ (r : Row). ApartParts s p r → r.dev < 8 → connection (r ∷ p) ≡ None → falls (bus p).sel (bus (r ∷ p)).sel ≡ false
    → way_left (run_state s (r ∷ p)) ≤ way_left (run_state s p) + 64 → suc (measure s (r ∷ p)) ≤ measure s p) (sym is)
    (λ a b c e f. strikes_by s p t d bit time a dv b was c flips e f) parts lt alone sel more
