-- The count of resets stays with any row before and after which RST is false.
use Rattle.measure_laws.proofs
use proofs.Names.{inl, inr, ℕ, ◌≡◌, ◌≢◌, ◌<◌, ◌∙◌, false, List, [], ◌∷◌, refl, sym, ap, subst, arith, cases_eq}
use proofs.Names.{common_steps, elements, ◌+◌, slice_set, drives-fault, LineSet, bus, drives, driven_at, Kind, Drives}
use proofs.Names.{Fault, Row, ScenarioValue, ResetDef, row_reading, run_state_plain, own_at, AreOfDevices, RunState}
use proofs.Names.{drives_of, run_state, drives_own, off_at, row_of_fault, row_of_lines, awaits_reset, one_where}
use proofs.{Names.{resets_left}, Resets.Counts.{resets_stay}}

driven_other : (xs : List LineSet) (i m : ℕ) (v : LineSet) → i ≢ m → driven_at (slice_set xs i v) m ≡ driven_at xs m
driven_other xs i m v h = grind (arith, common_steps, elements)

one_stays : (s : ScenarioValue) (p : List Row) (t d bit : ℕ) → AreOfDevices p → d < 8 → (dev at : ℕ)
    → awaits_reset (drives_of (run_state s (row_of_fault t d bit ∷ p)) dev).rst
    (own_at (run_state s (row_of_fault t d bit ∷ p)).owns dev) at
    ≡ awaits_reset (drives_of (run_state s p) dev).rst (own_at (run_state s p).owns dev) at
one_stays s p t d bit dv lt dev at =
    elim (cases_eq d dev) [
      | inl e ↦ subst (λ (x : ℕ). awaits_reset (drives_of j x).rst (own_at j.owns x) at
          ≡ awaits_reset (drives_of k x).rst (own_at k.owns x) at) e own
      | inr ne ↦ (λ i. awaits_reset
          (driven_other k.story.bus_state.driven d dev (row_reading k.story.bus_state row).change.next ne i).rst
          (own_at k.owns dev) at)
    ]
  where
    row : Row
    row = row_of_fault t d bit

    j : RunState
    j = run_state s (row ∷ p)

    k : RunState
    k = run_state s p

    own : awaits_reset (drives_of j d).rst (own_at j.owns d) at ≡ awaits_reset (drives_of k d).rst (own_at k.owns d) at
    own =
        let pj = run_state_plain s (row ∷ p) (lt, dv) in
        let pk = run_state_plain s p dv in
        λ i. awaits_reset ((pj.drives d lt ∙ drives-fault row p bit d refl ∙ sym (pk.drives d lt)) i).rst
        (own_at k.owns d) at

-- With a fault row.
pub resets_fault : (s : ScenarioValue) (p : List Row) (t d bit : ℕ) (resets : List ResetDef) → AreOfDevices p → d < 8
    → resets_left (run_state s (row_of_fault t d bit ∷ p)) resets ≡ resets_left (run_state s p) resets
resets_fault s p t d bit [] dv lt = refl
resets_fault s p t d bit (r ∷ resets) dv lt =
    let one = one_stays s p t d bit dv lt r.dev r.at in
    let rest = resets_fault s p t d bit resets dv lt in
    λ i. one_where (one i) + rest i

-- With any.
pub resets_calm : (s : ScenarioValue) (p : List Row) (row : Row) (resets : List ResetDef)
    → AreOfDevices p → row.dev < 8 → (bus p).rst ≡ false → (bus (row ∷ p)).rst ≡ false
    → resets_left (run_state s (row ∷ p)) resets ≡ resets_left (run_state s p) resets
resets_calm s p row resets dv lt calm next = by row.kind refl
  where
    by : (kind : Kind) → row.kind ≡ kind
        → resets_left (run_state s (row ∷ p)) resets ≡ resets_left (run_state s p) resets
    by (Fault bit) e =
        let same : row ≡ row_of_fault row.time row.dev bit = λ i. record {
          time = row.time;
          dev = row.dev;
          kind = e i;
        } in
        ap (λ (r : Row). resets_left (run_state s (r ∷ p)) resets) same
        ∙ resets_fault s p row.time row.dev bit resets dv lt
    by (Drives l) e =
        let same : row ≡ row_of_lines row.time row.dev l = λ i. record { time = row.time; dev = row.dev; kind = e i } in
        let off : l.rst ≡ false = ap (λ (x : LineSet). x.rst)
        (sym (ap (λ (r : Row). drives (r ∷ p) row.dev) same ∙ drives_own p row.time row.dev l))
        ∙ off_at (row ∷ p) next row.dev lt in
        ap (λ (r : Row). resets_left (run_state s (r ∷ p)) resets) same
        ∙ resets_stay s p row.time row.dev l resets dv lt (off_at p calm row.dev lt) off
