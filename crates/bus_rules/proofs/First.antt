-- A verdict tells the first broken row and its lowest rule.
use Rattle.std.proofs.Common.{ℕ, ◌≡◌, ◌+◌, ◌<◌, ◌↔◌, inl, inr, Bool, true, false, List, [], ◌∷◌, length, Option, Some}
use Rattle.std.proofs.Common.{None, refl, sym, ap, subst, ◌∙◌, arith, cond}
use Rattle.std.specs.Prelude.{◌==◌, ◌&&◌, nat_lt}
use Rattle.std.specs.List.{AllByRecursion, list_any, list_all}
use Rattle.std.proofs.lemmas.Bool.{and_parts}
use Rattle.std.proofs.lemmas.Bool.Decides.{nat_tests}
use Rattle.bus_trace.specs.declared.Row.{Row}
use Rattle.bus_rules.specs.Rules.{obeys, obeys_at_end, judged_rules, first_broken, broken_rule, broken_at_end}
use Rattle.bus_rules.specs.Rules.{verdict_of, if_lawful, judged, judged_whole}
use Rattle.bus_rules.specs.declared.verdict.Verdict.{Verdict}
use Rattle.bus_rules.specs.declared.verdict.Verdict.TheVariants.{Lawful, Broken}
use Rattle.bus_rules.specs.Lawful.{KeepsAll, AreLawful, IsLawful, IsLowest, IsFirstRow, IsFirst}

-- ---- the lowest of a rising list

-- each number is below the later ones
abbrev rises : List ℕ → Bool
rises [] = true
rises (n ∷ ns) = list_all (λ m. nat_lt n m) ns && rises ns

not_below : (kept : ℕ → Bool) (n : ℕ) (ns : List ℕ) → list_all (λ m. nat_lt n m) ns ≡ true
    → AllByRecursion (λ m. m < n → kept m ≡ true) ns
not_below kept n [] h = tt
not_below kept n (m ∷ ns) h =
    let two = and_parts (nat_lt n m) (list_all (λ k. nat_lt n k) ns) h in
    let up : n < m = let test = two.0 in grind (arith, nat_tests) in
    ((λ lt. absurd (omega arith)), not_below kept n ns two.1)

abbrev Lowest : (ℕ → Bool) → List ℕ → ℕ → Type 0
Lowest kept ns rule =
    (list_any (λ n. n == rule) ns ≡ true) × (kept rule ≡ false) × AllByRecursion (λ n. n < rule → kept n ≡ true) ns

same_is : (n : ℕ) (ns : List ℕ) → list_any (λ m. m == n) (n ∷ ns) ≡ true
same_is n ns = let e : (n == n) ≡ true = grind (arith, nat_tests) in rw e refl

later_is : (n rule : ℕ) (ns : List ℕ) (q : Bool) → (n == rule) ≡ q → list_any (λ m. m == rule) ns ≡ true
    → list_any (λ m. m == rule) (n ∷ ns) ≡ true
later_is n rule ns true e h = rw e refl
later_is n rule ns false e h = rw e h

abbrev number : Option ℕ → ℕ
number None = 0
number (Some n) = n

lowest_step : (kept : ℕ → Bool) (n : ℕ) (ns : List ℕ) (rule : ℕ) (q : Bool) → kept n ≡ q
    → list_all (λ m. nat_lt n m) ns ≡ true → (first_broken kept ns ≡ Some rule → Lowest kept ns rule)
    → cond q (first_broken kept ns) (Some n) ≡ Some rule → Lowest kept (n ∷ ns) rule
lowest_step kept n ns rule true h up later e =
    let rest = later e in
    (later_is n rule ns (n == rule) refl rest.0, rest.1, ((λ lt. h), rest.2))
lowest_step kept n ns rule false h up later e =
    let same : n ≡ rule = ap number e in
    subst (λ (r : ℕ). Lowest kept (n ∷ ns) r) same
    (same_is n ns, h, ((λ lt. absurd (omega arith)), not_below kept n ns up))

lowest : (kept : ℕ → Bool) (ns : List ℕ) → rises ns ≡ true → (rule : ℕ) → first_broken kept ns ≡ Some rule
    → Lowest kept ns rule
lowest kept [] up rule e = absurd cc
lowest kept (n ∷ ns) up rule e =
    let two = and_parts (list_all (λ m. nat_lt n m) ns) (rises ns) up in
    lowest_step kept n ns rule (kept n) refl two.0 (λ later. lowest kept ns two.1 rule later) e

-- ---- no broken rule

pub kept_step : (kept : ℕ → Bool) (n : ℕ) (ns : List ℕ) (q : Bool) → kept n ≡ q
    → (first_broken kept ns ≡ None → AllByRecursion (λ m. kept m ≡ true) ns)
    → cond q (first_broken kept ns) (Some n) ≡ None → AllByRecursion (λ m. kept m ≡ true) (n ∷ ns)
kept_step kept n ns true h later e = (h, later e)
kept_step kept n ns false h later e = absurd cc

pub all_kept : (kept : ℕ → Bool) (ns : List ℕ) → first_broken kept ns ≡ None → AllByRecursion (λ n. kept n ≡ true) ns
all_kept kept [] e = tt
all_kept kept (n ∷ ns) e = kept_step kept n ns (kept n) refl (λ later. all_kept kept ns later) e

pub none_broken : (kept : ℕ → Bool) (ns : List ℕ) → AllByRecursion (λ n. kept n ≡ true) ns → first_broken kept ns ≡ None
none_broken kept [] h = refl
none_broken kept (n ∷ ns) h = ap (λ q. cond q (first_broken kept ns) (Some n)) h.0 ∙ none_broken kept ns h.1

-- ---- the rules that are judged

they_rise : rises judged_rules ≡ true
they_rise = refl

pub row_lowest : (rows : List Row) (row : Row) (rule : ℕ) → broken_rule rows row ≡ Some rule
    → IsLowest (obeys rows row) rule
row_lowest rows row rule e = lowest (obeys rows row) judged_rules they_rise rule e

pub row_none : (rows : List Row) (row : Row) → (broken_rule rows row ≡ None) ↔ KeepsAll (obeys rows row)
row_none rows row = (all_kept (obeys rows row) judged_rules, none_broken (obeys rows row) judged_rules)

pub end_lowest : (rows : List Row) (time rule : ℕ) → broken_at_end rows time ≡ Some rule
    → IsLowest (obeys_at_end rows time) rule
end_lowest rows time rule e = lowest (obeys_at_end rows time) judged_rules they_rise rule e

pub end_none : (rows : List Row) (time : ℕ) → (broken_at_end rows time ≡ None) ↔ KeepsAll (obeys_at_end rows time)
end_none rows time = (all_kept (obeys_at_end rows time) judged_rules, none_broken (obeys_at_end rows time) judged_rules)

-- ---- a verdict

lawful_step : (rows : List Row) (row : Row) (v : Verdict) (r : Option ℕ) → judged rows ≡ v → broken_rule rows row ≡ r
    → (judged rows ≡ Lawful → AreLawful rows) → if_lawful v (verdict_of (length rows + 1) r) ≡ Lawful
    → AreLawful (row ∷ rows)
lawful_step rows row Lawful None ev er before e = (before ev, (row_none rows row).0 er)
lawful_step rows row Lawful (Some rule) ev er before e = absurd cc
lawful_step rows row (Broken place rule) r ev er before e = absurd cc

pub lawful_rows : (rows : List Row) → judged rows ≡ Lawful → AreLawful rows
lawful_rows [] e = tt
lawful_rows (row ∷ rows) e =
    lawful_step rows row (judged rows) (broken_rule rows row) refl refl (λ h. lawful_rows rows h) e

judged_lawful : (rows : List Row) → AreLawful rows → judged rows ≡ Lawful
judged_lawful [] h = refl
judged_lawful (row ∷ rows) h =
    ap (λ (v : Verdict). if_lawful v (verdict_of (length rows + 1) (broken_rule rows row))) (judged_lawful rows h.0)
    ∙ ap (λ (r : Option ℕ). verdict_of (length rows + 1) r) ((row_none rows row).1 h.1)

whole_step : (rows : List Row) (end : ℕ) (v : Verdict) (r : Option ℕ) → judged rows ≡ v → broken_at_end rows end ≡ r
    → if_lawful v (verdict_of (length rows + 1) r) ≡ Lawful → IsLawful rows end
whole_step rows end Lawful None ev er e = (lawful_rows rows ev, (end_none rows end).0 er)
whole_step rows end Lawful (Some rule) ev er e = absurd cc
whole_step rows end (Broken place rule) r ev er e = absurd cc

pub whole_lawful : (rows : List Row) (end : ℕ) → (judged_whole rows end ≡ Lawful) ↔ IsLawful rows end
whole_lawful rows end = (
  whole_step rows end (judged rows) (broken_at_end rows end) refl refl,
  (λ h. ap (λ (v : Verdict). if_lawful v (verdict_of (length rows + 1) (broken_at_end rows end)))
      (judged_lawful rows h.0) ∙ ap (λ (r : Option ℕ). verdict_of (length rows + 1) r) ((end_none rows end).1 h.1)),
)

-- the place and the rule of a broken verdict
abbrev place_in : Verdict → ℕ
place_in Lawful = 0
place_in (Broken place rule) = place

abbrev rule_in : Verdict → ℕ
rule_in Lawful = 0
rule_in (Broken place rule) = rule

later_row : (rows : List Row) (row : Row) (place rule : ℕ) → IsFirstRow rows place rule
    → IsFirstRow (row ∷ rows) place rule
later_row rows row place rule f = (row ∷ f.0, f.1, f.2, ap (λ (rs : List Row). row ∷ rs) f.3, f.4, f.5, f.6)

first_step : (rows : List Row) (row : Row) (v : Verdict) (r : Option ℕ) (place rule : ℕ) → judged rows ≡ v
    → broken_rule rows row ≡ r → (judged rows ≡ Broken place rule → IsFirstRow rows place rule)
    → if_lawful v (verdict_of (length rows + 1) r) ≡ Broken place rule → IsFirstRow (row ∷ rows) place rule
first_step rows row (Broken p q) r place rule ev er before e = later_row rows row place rule (before (ev ∙ e))
first_step rows row Lawful None place rule ev er before e = absurd cc
first_step rows row Lawful (Some q) place rule ev er before e =
    let same : q ≡ rule = ap rule_in e in
    let at : place ≡ length rows + 1 = sym (ap place_in e) in (
      [],
      row,
      rows,
      refl,
      at,
      lawful_rows rows ev,
      subst (λ (n : ℕ). IsLowest (obeys rows row) n) same (row_lowest rows row q er),
    )

first_row : (rows : List Row) (place rule : ℕ) → judged rows ≡ Broken place rule → IsFirstRow rows place rule
first_row [] place rule e = absurd cc
first_row (row ∷ rows) place rule e =
    first_step rows row (judged rows) (broken_rule rows row) place rule refl refl (λ h. first_row rows place rule h) e

end_step : (rows : List Row) (end : ℕ) (v : Verdict) (r : Option ℕ) (place rule : ℕ) → judged rows ≡ v
    → broken_at_end rows end ≡ r → if_lawful v (verdict_of (length rows + 1) r) ≡ Broken place rule
    → IsFirst rows end place rule
end_step rows end (Broken p q) r place rule ev er e = inl (first_row rows place rule (ev ∙ e))
end_step rows end Lawful None place rule ev er e = absurd cc
end_step rows end Lawful (Some q) place rule ev er e =
    let same : q ≡ rule = ap rule_in e in
    let at : place ≡ length rows + 1 = sym (ap place_in e) in
    inr (at, lawful_rows rows ev, subst (λ (n : ℕ). IsLowest (obeys_at_end rows end) n) same (end_lowest rows end q er))

pub whole_first : (rows : List Row) (end place rule : ℕ) → judged_whole rows end ≡ Broken place rule
    → IsFirst rows end place rule
whole_first rows end place rule e = end_step rows end (judged rows) (broken_at_end rows end) place rule refl refl e
