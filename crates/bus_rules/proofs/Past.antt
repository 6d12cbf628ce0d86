-- The rows before a place, newest first, and the verdict on them.
use Rattle.std.proofs.Common.{ℕ, ◌≡◌, ◌<◌, ◌≤◌, ◌+◌, List, [], ◌∷◌, ◌++◌, take, drop, reverse, length, get_or, sym, ap}
use Rattle.std.proofs.Common.{subst, ◌∙◌, arith, Option, take_all}
use Rattle.std.proofs.lemmas.List.{reverse-append, take-append-drop, length-reverse, length-take-le}
use Rattle.std.proofs.lemmas.Grind.{take_at_read}
use Rattle.bus_trace.specs.declared.Row.{Row}
use Rattle.bus_rules.specs.Rules.{judged, judged_whole, if_lawful, verdict_of, broken_rule, broken_at_end}
use Rattle.bus_rules.specs.Rules.{lowest_at_end}
use Rattle.bus_rules.specs.Seen.{seen, end_row}
use Rattle.bus_rules.specs.Judging.{Running, IsTermsOf}
use Rattle.bus_rules.specs.declared.seen.Seen.{Seen}
use Rattle.bus_rules.specs.declared.verdict.Verdict.{Verdict}
use Rattle.bus_rules.specs.declared.verdict.Verdict.TheVariants.{Lawful, Broken}
use Rattle.bus_trace.proofs.OneRow.{rows_so_far}

-- a broken verdict stays
judged_stays : (more past : List Row) (place rule : ℕ) → judged past ≡ Broken place rule
    → judged (more ++ past) ≡ Broken place rule
judged_stays [] past place rule e = e
judged_stays (row ∷ more) past place rule e = ap
    (λ (v : Verdict). if_lawful v (verdict_of (length (more ++ past) + 1) (broken_rule (more ++ past) row)))
    (judged_stays more past place rule e)

judged_broken : (xs : List Row) (i place rule : ℕ) → judged (reverse (take i xs)) ≡ Broken place rule
    → judged (reverse xs) ≡ Broken place rule
judged_broken xs i place rule e = ap (λ (ys : List Row). judged (reverse ys)) (sym (take-append-drop i xs))
    ∙ ap (λ (ys : List Row). judged ys) (reverse-append (take i xs) (drop i xs))
    ∙ judged_stays (reverse (drop i xs)) (reverse (take i xs)) place rule e

pub whole_broken : (xs : List Row) (i place rule end : ℕ) → judged (reverse (take i xs)) ≡ Broken place rule
    → Broken place rule ≡ judged_whole (reverse xs) end
whole_broken xs i place rule end e =
    sym (ap (λ (v : Verdict). if_lawful v (verdict_of (length (reverse xs) + 1) (broken_at_end (reverse xs) end)))
    (judged_broken xs i place rule e))

-- what the next row breaks
pub judged_next : (xs : List Row) (i : ℕ) (x : Row) → i < length xs → x ≡ get_or xs i x
    → (r : Option ℕ) → broken_rule (reverse (take i xs)) x ≡ r → judged (reverse (take i xs)) ≡ Lawful
    → judged (reverse (take (i + 1) xs)) ≡ verdict_of (i + 1) r
judged_next xs i x h e r b l =
    let past : List Row = reverse (take i xs) in
    ap (λ (ys : List Row). judged ys) (rows_so_far xs i x h e)
    ∙ ap (λ (v : Verdict). if_lawful v (verdict_of (length past + 1) (broken_rule past x))) l
    ∙ ap (λ n. verdict_of (n + 1) (broken_rule past x)) (length-reverse (take i xs) ∙ length-take-le i xs (omega arith))
    ∙ ap (λ (q : Option ℕ). verdict_of (i + 1) q) b

-- what the end breaks
pub judged_end : (xs : List Row) (end : ℕ) (r : Option ℕ) → judged (reverse xs) ≡ Lawful
    → broken_at_end (reverse xs) end ≡ r → verdict_of (length xs + 1) r ≡ judged_whole (reverse xs) end
judged_end xs end r l b =
    sym (ap (λ (v : Verdict). if_lawful v (verdict_of (length (reverse xs) + 1) (broken_at_end (reverse xs) end))) l
    ∙ ap (λ n. verdict_of (n + 1) (broken_at_end (reverse xs) end)) (length-reverse xs)
    ∙ ap (λ (q : Option ℕ). verdict_of (length xs + 1) q) b)

-- the verdict, where all rows are past
pub judged_past : (xs : List Row) (i end : ℕ) (t : Running) (met : Seen) (row : Row) (rule r : Option ℕ)
    → length xs ≤ i → judged (reverse (take i xs)) ≡ Lawful → IsTermsOf (reverse (take i xs)) t
    → ((rows : List Row) → IsTermsOf rows t → met ≡ seen rows row) → row ≡ end_row end → rule ≡ lowest_at_end met end
    → rule ≡ r → verdict_of (length xs + 1) r ≡ judged_whole (reverse xs) end
judged_past xs i end t met row rule r all lawful terms is_seen is_end is_rule is_r =
    let whole = take_all i xs all in
    let now = is_seen (reverse xs) (subst (λ (ys : List Row). IsTermsOf (reverse ys) t) whole terms)
    ∙ (λ j. seen (reverse xs) (is_end j)) in
    judged_end xs end r (ap (λ (ys : List Row). judged (reverse ys)) (sym whole) ∙ lawful)
    (sym (ap (λ (s : Seen). lowest_at_end s end) now) ∙ sym is_rule ∙ is_r)
