-- What follows where the measure falls with each row: a prompt trace stays within the budget, and a run ends.
use Rattle.measure_laws.proofs
use proofs.Names.{ℕ, zero, suc, ◌≡◌, ◌≤◌, ◌<◌, ◌∙◌, Bool, true, false, List, [], ◌∷◌, length, refl, sym, arith, Option}
use proofs.Names.{Some, None, ◌+◌, ◌-◌, ◌/◌, ◌^◌, if◌then◌else◌, wrong, Row, ScenarioValue, Obeys, budget, RunsEnd}
use proofs.Names.{StaysWithin, IsEnded, IsPrompt, next_by, Run, one_more, run_by_due, run_from, by_bool, Falls, measure}
use proofs.Budget.Start.{starts}

-- ---- each row takes one of the measure

one_row : (i m before at : ℕ) → i + before ≤ at → suc m ≤ before → suc i + m ≤ at
one_row i m before at h f = omega arith

pub counted : Falls → (s : ScenarioValue) (rows : List Row) → Obeys s → IsPrompt s rows
    → length rows + measure s rows ≤ measure s []
counted falls s [] o e = omega arith
counted falls s (row ∷ rows) o e = one_row (length rows) (measure s (row ∷ rows)) (measure s rows) (measure s [])
    (counted falls s rows o e.0) (falls s rows row o e)

below : (i m at most : ℕ) → i + m ≤ at → suc at ≤ most → suc i ≤ most
below i m at most h f = omega arith

-- It has fewer rows than the eighth part of the budget, which is what a run may make.
pub within : Falls → (s : ScenarioValue) (rows : List Row) → Obeys s → IsPrompt s rows → length rows < budget s / 8
within falls s rows o e =
    below (length rows) (measure s rows) (measure s []) (budget s / 8) (counted falls s rows o e) (starts s o)

eighth : (m b : ℕ) → suc m ≤ b / 8 → m ≤ b
eighth m b h = grind arith

pub stays_within : Falls → StaysWithin
stays_within falls s rows o p = eighth (length rows) (budget s) (within falls s rows o p)

-- ---- a run ends, or makes as many rows as it may

stays : (s : ScenarioValue) (fuel : ℕ) (r : Run) → r.ended ≡ true → (run_from s fuel r).ended ≡ true
unfolding run_from
stays s zero r e = e
stays s (suc fuel) r e = go r.ended e e
  where
    go : (b : Bool) → b ≡ true → r.ended ≡ true
        → (if b then r else run_from s fuel (one_more s r (next_by s r.kept))).ended ≡ true
    go true z w = w
    go false z w = wrong (sym z)

unended : (s : ScenarioValue) (fuel : ℕ) (r : Run) → (run_from s fuel r).ended ≡ false
    → length (run_from s fuel r).rows ≡ length r.rows + fuel
unfolding run_from
unended s zero r e = omega arith
unended s (suc fuel) r e = go (λ z w. unended s fuel z w) r.ended refl (next_by s r.kept) e
  where
    go : ((z : Run) → (run_from s fuel z).ended ≡ false → length (run_from s fuel z).rows ≡ length z.rows + fuel)
        → (b : Bool) → r.ended ≡ b
        → (x : Option Row) → (if b then r else run_from s fuel (one_more s r x)).ended ≡ false
        → length (if b then r else run_from s fuel (one_more s r x)).rows ≡ length r.rows + suc fuel
    go again true z x w = wrong (sym z ∙ w)
    go again false z None w = wrong (sym (stays s fuel (one_more s r None) refl) ∙ w)
    go again false z (Some row) w =
        let same : suc (length r.rows) + fuel ≡ length r.rows + suc fuel = omega arith in
        again (one_more s r (Some row)) w ∙ same

too_long : (m b : ℕ) → m ≡ 0 + b → suc m ≤ b / 8 → ⊥
too_long m b e h = grind arith

-- A run by what is due is a prompt trace, and where it says that it is over, nothing is due after it.
abbrev pub RunsArePrompt : Type 0
RunsArePrompt = (s : ScenarioValue) (fuel : ℕ) → IsPrompt s (run_by_due s fuel).rows

abbrev pub RunsSayTheirEnd : Type 0
RunsSayTheirEnd = (s : ScenarioValue) (fuel : ℕ) → (run_by_due s fuel).ended ≡ true → IsEnded s (run_by_due s fuel).rows

pub runs_end : Falls → RunsArePrompt → RunsSayTheirEnd → RunsEnd
runs_end falls prompt ends s o = by_bool (run_by_due s (budget s)).ended (λ e. ends s (budget s) e) (λ e. absurd
    (too_long (length r.rows) (budget s) (unended s (budget s) _ e) (within falls s r.rows o (prompt s (budget s)))))
  where
    r : Run
    r = run_by_due s (budget s)

-- ---- and it has few rows for a number of 32 bits

pub few_rows : Falls → (s : ScenarioValue) (rows : List Row) → Obeys s → IsPrompt s rows → measure s [] < 2 ^ 32 - 1
    → length rows < 2 ^ 32 - 1
few_rows falls s rows o e small =
    below (length rows) (measure s rows) (measure s []) (2 ^ 32 - 1) (counted falls s rows o e) small
