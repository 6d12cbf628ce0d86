-- Rows under RST, and the row that raises it, obey the rules.
use Rattle.bus_laws.proofs
use proofs.Names.{ℕ, ◌≡◌, ◌≤◌, ◌+◌, Bool, true, false, not, ◌&&◌, ◌||◌, ◌∙◌, List, None, refl, ap, and_right, le-leb}
use proofs.Names.{if◌then◌else◌, nat_le, all_three, union-none, same_set-self, change_of, implies, rises, falls}
use proofs.Names.{is_within, LineSet, none, union, same, same_set, raised, last_time, line_times, Row, Change}
use proofs.Names.{BUS_CLEAR_DELAY, none_broken, is_in_order, is_news, is_reset, only_rst, raises_rst_alone}
use proofs.Names.{is_quiet_in_reset, holds_reset, keeps_reset, test, stands_in_reset, keeps, judged_rules}
use proofs.Names.{lowest_broken, broken_rule, seen, seen_with, Seen, change_to, row_of_lines}

other_rule : (m : ℕ) (v : Seen) (row : Row) → stands_in_reset m ≡ false → is_reset v ≡ true → keeps m v row ≡ true
other_rule m v row a b = λ i. if not (a i) && b i then true else test m v row

-- While RST is true, or rises, three rules are judged.
three_rules : (v : Seen) (row : Row) → is_reset v ≡ true → is_in_order v row.time ≡ true → is_news v row ≡ true
    → keeps_reset v row ≡ true → lowest_broken v row ≡ None
three_rules v row r a b c =
    let o : (m : ℕ) → stands_in_reset m ≡ false → keeps m v row ≡ true = λ m e. other_rule m v row e r in
    none_broken (λ m. keeps m v row) judged_rules (
      a,
      (
        b,
        (
          o 3 refl,
          (
            o 4 refl,
            (
              o 5 refl,
              (
                o 6 refl,
                (
                  o 7 refl,
                  (
                    o 8 refl,
                    (
                      o 9 refl,
                      (
                        o 10 refl,
                        (
                          o 11 refl,
                          (
                            o 12 refl,
                            (
                              o 13 refl,
                              (
                                o 14 refl,
                                (
                                  o 15 refl,
                                  (
                                    o 16 refl,
                                    (
                                      o 17 refl,
                                      (
                                        o 18 refl,
                                        (
                                          o 19 refl,
                                          (
                                            o 20 refl,
                                            (
                                              o 21 refl,
                                              (
                                                o 22 refl,
                                                (
                                                  o 23 refl,
                                                  (o 24 refl, (o 25 refl, (o 26 refl, (o 27 refl, (c, tt))))),
                                                ),
                                              ),
                                            ),
                                          ),
                                        ),
                                      ),
                                    ),
                                  ),
                                ),
                              ),
                            ),
                          ),
                        ),
                      ),
                    ),
                  ),
                ),
              ),
            ),
          ),
        ),
      ),
    )

-- What the three ask of a row of lines, by what it changes.
pub record KeepsReset (p : List Row) (t d : ℕ) (b b' o l : LineSet) : Type 0 where
  pub reset : (b.rst || b'.rst) ≡ true
  pub order : last_time p ≤ t
  pub news : same_set o l ≡ false
  pub alone : implies (b.rst || rises o.rst l.rst) (is_within l (union only_rst o)) ≡ true
  pub quiet : implies b.rst (nat_le t ((line_times p).rst + BUS_CLEAR_DELAY) || is_within b only_rst) ≡ true
  pub holds : implies (falls o.rst l.rst) (nat_le (raised (λ s. s.rst) p d + 25000) t) ≡ true

pub reset_row_obeys : (p : List Row) (t d : ℕ) (l b b' o : LineSet)
    → change_of p (row_of_lines t d l) ≡ change_to b b' o l → KeepsReset p t d b b' o l
    → broken_rule p (row_of_lines t d l) ≡ None
unfolding seen_with
reset_row_obeys p t d l b b' o e h =
    let row : Row = row_of_lines t d l in
    let v : Seen = seen p row in
    three_rules v row (ap (λ (c : Change). c.before.rst || c.after.rst) e ∙ h.reset)
    (le-leb (last_time p) t h.order) (ap (λ (c : Change). not (same_set c.own c.next)) e ∙ ap not h.news)
    (all_three (raises_rst_alone v) (is_quiet_in_reset v t) (holds_reset v row)
    (ap (λ (c : Change). implies (c.before.rst || rises c.own.rst c.next.rst) (is_within c.next (union only_rst c.own)))
    e ∙ h.alone) (ap (λ (c : Change). implies c.before.rst
    (nat_le t ((line_times p).rst + BUS_CLEAR_DELAY) || is_within c.before only_rst)) e ∙ h.quiet)
    (ap (λ (c : Change). implies (falls c.own.rst c.next.rst) (nat_le (raised (λ s. s.rst) p d + 25000) t)) e
    ∙ h.holds))

-- ---- what rises and what does not

pub raises_rst : (o : LineSet) → o.rst ≡ false → same_set o only_rst ≡ false
raises_rst o e = and_right _ _ (ap (λ (q : Bool). same q true) e)

pub none_within : (b : LineSet) → is_within none b ≡ true
none_within b = ap (λ (x : LineSet). same_set x b) (union-none b) ∙ same_set-self b
