-- The count of resets stays with a row of lines of a device that drives RST neither before nor after it.
use Rattle.measure_laws.proofs
use proofs.Names.{inl, inr, ℕ, ◌≡◌, ◌≢◌, ◌<◌, ◌∙◌, false, List, [], ◌∷◌, refl, sym, ap, subst, arith, Option, cases_eq}
use proofs.Names.{common_steps, elements, ◌+◌, not, slice_set, falls, LineSet, when, drives, driven_at, Row, Change}
use proofs.Names.{ScenarioValue, ResetDef, row_reading, run_state_plain, is_reset_past, Own, own_after, own_at, own_of}
use proofs.Names.{AreOfDevices, RunState, drives_of, run_state, drives_own, released_own, row_of_lines, awaits_reset}
use proofs.Names.{one_where, resets_left}

pub driven_other : (xs : List LineSet) (i m : ℕ) (v : LineSet) → i ≢ m → driven_at (slice_set xs i v) m ≡ driven_at xs m
driven_other xs i m v h = grind (arith, common_steps, elements)

pub owns_other : (xs : List Own) (i m : ℕ) (v : Own) → i ≢ m → own_at (slice_set xs i v) m ≡ own_at xs m
owns_other xs i m v h = grind (arith, common_steps, elements)

one_stays : (s : ScenarioValue) (p : List Row) (t d : ℕ) (l : LineSet)
    → AreOfDevices p → d < 8 → (drives p d).rst ≡ false → l.rst ≡ false → (dev at : ℕ)
    → awaits_reset (drives_of (run_state s (row_of_lines t d l ∷ p)) dev).rst
    (own_at (run_state s (row_of_lines t d l ∷ p)).owns dev) at
    ≡ awaits_reset (drives_of (run_state s p) dev).rst (own_at (run_state s p).owns dev) at
one_stays s p t d l dv lt off next dev at =
    elim (cases_eq d dev) [
      | inl e ↦ subst (λ (x : ℕ). awaits_reset (drives_of j x).rst (own_at j.owns x) at
          ≡ awaits_reset (drives_of k x).rst (own_at k.owns x) at) e own
      | inr ne ↦ (λ i. awaits_reset (driven_other k.story.bus_state.driven d dev c.next ne i).rst
          (owns_other k.owns d dev (own_after (own_at k.owns d) c t) ne i) at)
    ]
  where
    row : Row
    row = row_of_lines t d l

    j : RunState
    j = run_state s (row ∷ p)

    k : RunState
    k = run_state s p

    c : Change
    c = (row_reading k.story.bus_state row).change

    own : awaits_reset (drives_of j d).rst (own_at j.owns d) at ≡ awaits_reset (drives_of k d).rst (own_at k.owns d) at
    own =
        let pj = run_state_plain s (row ∷ p) (lt, dv) in
        let pk = run_state_plain s p dv in
        let after : (drives_of j d).rst ≡ false = ap (λ (v : LineSet). v.rst) (pj.drives d lt ∙ drives_own p t d l)
        ∙ next in
        let before : (drives_of k d).rst ≡ false = ap (λ (v : LineSet). v.rst) (pk.drives d lt) ∙ off in
        let released = released_own p t d l ∙ (λ i. when (falls (off i) (next i)) t (own_of p d).released) in
        (λ i. awaits_reset (after i) (pj.own d lt i) at) ∙ ap (λ (x : Option ℕ). not (is_reset_past x at)) released
        ∙ sym (λ i. awaits_reset (before i) (pk.own d lt i) at)

pub resets_stay : (s : ScenarioValue) (p : List Row) (t d : ℕ) (l : LineSet) (resets : List ResetDef)
    → AreOfDevices p → d < 8 → (drives p d).rst ≡ false → l.rst ≡ false
    → resets_left (run_state s (row_of_lines t d l ∷ p)) resets ≡ resets_left (run_state s p) resets
resets_stay s p t d l [] dv lt off next = refl
resets_stay s p t d l (r ∷ resets) dv lt off next =
    let one = one_stays s p t d l dv lt off next r.dev r.at in
    let rest = resets_stay s p t d l resets dv lt off next in
    λ i. one_where (one i) + rest i
