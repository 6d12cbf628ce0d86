-- The loop over the lines of a text.
use Rattle.std.proofs.Common.{◌≡◌, ℕ, ◌+◌, ◌≤◌, ◌<◌, true, false, List, [], ◌∷◌, length, Result, Ok, Err, refl, sym, ap}
use Rattle.std.proofs.Common.{◌∙◌, arith}
use Rattle.std.proofs.lemmas.Bool.{le-ltb}
use Rattle.std.specs.Prelude.{◌==◌}
use Rattle.std.proofs.lemmas.Bool.Decides.{nat_tests}
use Rattle.scenario.specs.declared.bounds.TheConstants.{LIMIT}
use Rattle.scenario.specs.Reading.{Progress as Draft}
use Rattle.scenario.specs.declared.fault.Refusal.{Refusal}
use Rattle.scenario.specs.declared.fault.Refusal.TheVariants as refusals
use Rattle.text_words.specs.Lines.{Line, lines_of}
use Rattle.scenario.specs.Reading.{read_from, nothing, line_after, scenario_of, Refuses, Answers, told, is_end}
use Rattle.scenario.specs.Reading.{and_then}

-- n lines were read, and what they said so far is the draft
pub record IsReading (bytes : List ℕ) (draft : Draft) (n : ℕ) (rest : List ℕ) : Type 0 where
  pub same : read_from draft n (lines_of rest) ≡ scenario_of bytes
  pub count : n + length rest ≤ length bytes

pub begins : (bytes : List ℕ) → length bytes ≤ LIMIT → IsReading bytes nothing 0 bytes
begins bytes short = record { same = rw (le-ltb LIMIT (length bytes) short) refl; count = omega arith }

pub goes_on : (bytes : List ℕ) (draft new : Draft) (n : ℕ) (rest : List ℕ) (line : Line) (more : List ℕ)
    → IsReading bytes draft n rest → lines_of rest ≡ line ∷ lines_of more → length more < length rest
    → line_after draft line ≡ Ok new → IsReading bytes new (n + 1) more
unfolding read_from
goes_on bytes draft new n rest line more so_far cut shorter after =
    let step : read_from draft n (line ∷ lines_of more) ≡ read_from new (n + 1) (lines_of more) = ap
    (λ (r : Result Draft ℕ). and_then n r (λ d. read_from d (n + 1) (lines_of more))) after in
    let was = so_far.count in
    record { same = sym (ap (read_from draft n) cut ∙ step) ∙ so_far.same; count = omega arith }

pub stops : (bytes : List ℕ) (draft : Draft) (n : ℕ) (rest : List ℕ) (line : Line) (more : List ℕ) (e : Refusal)
    → IsReading bytes draft n rest → lines_of rest ≡ line ∷ lines_of more → Refuses e (line_after draft line)
    → Answers (Err (told e (n + 1))) (scenario_of bytes)
unfolding read_from
stops bytes draft n rest line more refusals.Memory so_far cut after = tt
stops bytes draft n rest line more (refusals.Reason r) so_far cut after =
    let step : read_from draft n (line ∷ lines_of more) ≡ Err (n + 1, r) = ap
    (λ (r : Result Draft ℕ). and_then n r (λ d. read_from d (n + 1) (lines_of more))) after in
    sym so_far.same ∙ ap (read_from draft n) cut ∙ step

pub ends : (bytes : List ℕ) (draft : Draft) (n : ℕ) (rest : List ℕ) → IsReading bytes draft n rest
    → true ≡ (length rest == 0) → true ≡ is_end draft.last → scenario_of bytes ≡ Ok draft.scenario
unfolding read_from
ends bytes draft n [] so_far e end = sym so_far.same ∙ rw (sym end) refl
ends bytes draft n (b ∷ rest) so_far e end = absurd (grind (arith, nat_tests))

pub ends_early : (bytes : List ℕ) (draft : Draft) (n : ℕ) (rest : List ℕ) → IsReading bytes draft n rest
    → true ≡ (length rest == 0) → false ≡ is_end draft.last → scenario_of bytes ≡ Err (n + 1, 2)
unfolding read_from
ends_early bytes draft n [] so_far e end = sym so_far.same ∙ rw (sym end) refl
ends_early bytes draft n (b ∷ rest) so_far e end = absurd (grind (arith, nat_tests))
