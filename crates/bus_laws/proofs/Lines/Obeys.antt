-- Rows that obey the rules.
use Rattle.bus_laws.proofs
use proofs.Names.{ℕ, ◌≡◌, ◌≢◌, ◌≤◌, ◌+◌, ◌^◌, Bool, true, false, List, Some, None, refl, ap, sym, ◌∙◌, arith, not, ◌&&◌}
use proofs.Names.{◌||◌, le-leb, ne_eqb, nat_tests, bit_at, or_zero_r, or_self, bit_or, ◌==◌, nat_le, or_true, eq_self}
use proofs.Names.{implies, raises_none, LineSet, none, has_id_above, same, line_of, free_since, raised, last_time}
use proofs.Names.{since, since_line, Row, Arbitration, ARBITRATION_DELAY, BUS_CLEAR_DELAY, BUS_SETTLE_DELAY}
use proofs.Names.{BUS_SET_DELAY, ENTRY_DELAY, QUIET_TIME, none_broken, lowest_broken, keeps, judged_rules}
use proofs.Names.{calls_exactly, Seen, contender_lines, answer_lines, answered_calling, awaiting_call, begun_call}
use proofs.Names.{calling_lines, call_with, both_ids, arbitration_bus, won_call, resumed_calling, won_bus}
use proofs.{Names.{withdrawn_call, change_to, row_of_fault, row_of_lines}, Lines.{Ids.{IsCall}, Seen.{seen_apart}}}

pub entry_obeys : (p : List Row) (t d : ℕ) → last_time p ≤ t → free_since p + ENTRY_DELAY ≤ t
    → lowest_broken (seen_apart p d (change_to none (contender_lines d) none (contender_lines d)) None None false)
    (row_of_lines t d (contender_lines d)) ≡ None
entry_obeys p t d e f = grind (arith, nat_tests)

pub late_entry_obeys : (p : List Row) (a : Arbitration) (t d x y : ℕ) → last_time p ≤ t
    → a.free + ENTRY_DELAY ≤ t → t ≤ a.first + BUS_SET_DELAY → lowest_broken
    (seen_apart p d (change_to (arbitration_bus x) (arbitration_bus y) none (contender_lines d)) (Some a) None false)
    (row_of_lines t d (contender_lines d)) ≡ None
late_entry_obeys p a t d x y e f g = grind (arith, nat_tests)

pub win_obeys : (p : List Row) (a : Arbitration) (t d x y : ℕ) → last_time p ≤ t
    → raised (λ z. z.bsy) p d + ARBITRATION_DELAY ≤ t → has_id_above (arbitration_bus x) d ≡ false
    → lowest_broken (seen_apart p d
    (change_to (arbitration_bus x) (won_bus y) (contender_lines d) (record (contender_lines d) { sel = true }))
    (Some a) None false) (row_of_lines t d (record (contender_lines d) { sel = true })) ≡ None
win_obeys p a t d x y e f g = grind (arith, nat_tests)

-- ---- from the rise of SEL to both IDs

pub loser_obeys : (p : List Row) (c t0 t e x y : ℕ) (o : Bool) → last_time p ≤ t → t ≤ t0 + 100 → (e == c) ≡ false
    → lowest_broken
    (seen_apart p e (change_to (won_bus x) (won_bus y) (contender_lines e) none) None (Some (won_call c t0)) o)
    (row_of_lines t e none) ≡ None
loser_obeys p c t0 t e x y o a b h = let z : bit_or (2 ^ e) 0 ≡ 2 ^ e = or_zero_r (2 ^ e) in grind (arith, nat_tests)

abbrev pub won_lines : ℕ → LineSet
won_lines c = record (contender_lines c) { sel = true }

-- Where the tests that do not compute are many, they are proved one by one.
abbrev pub call_seen : List Row → Bool → ℕ → ℕ → ℕ → Seen
call_seen p m c i t0 = seen_apart p c (change_to (won_lines c) (both_ids m c i) (won_lines c) (both_ids m c i)) None
    (Some (won_call c t0)) false

call_news : (c m : ℕ) → (2 ^ c == 2 ^ c + 2 ^ m + 256) ≡ false
call_news c m = grind (arith, nat_tests)

exactly : (m : Bool) (c l : ℕ) → IsCall m c l → calls_exactly c (both_ids m c l) ≡ true
exactly true c l h = λ i. ((h.two i && h.parity i) && true) && true
exactly false c l h = λ i. ((h.two i && h.parity i) && true) && true

call_said : (p : List Row) (m : Bool) (c i t0 t : ℕ)
    → keeps 25 (call_seen p m c i t0) (row_of_lines t c (both_ids m c i)) ≡ true
call_said p true c i t0 t = refl
call_said p false c i t0 t = refl

pub call_obeys : (p : List Row) (m : Bool) (c i t0 t : ℕ) → last_time p ≤ t → t0 + QUIET_TIME ≤ t → IsCall m c i
    → lowest_broken (call_seen p m c i t0) (row_of_lines t c (both_ids m c i)) ≡ None
call_obeys p m c i t0 t a b h =
    let r : Row = row_of_lines t c (both_ids m c i) in
    let v : Seen = call_seen p m c i t0 in
    let self = eq_self c in
    let two : keeps 2 v r ≡ true = ap
    (λ (q : Bool). not (q && true && same true true && same false false && same false (not m) && same false false
    && same false false && same false false && same false m && same false false)) (call_news c i) in
    let seven : keeps 7 v r ≡ true =
    ap (λ (q : Bool). implies (not q) (false || raises_none v.change) && (nat_le t (t0 + BUS_CLEAR_DELAY) || true)) self
    ∙ or_true (nat_le t (t0 + BUS_CLEAR_DELAY)) in
    let eight : keeps 8 v r ≡ true = ap (λ (q : Bool). implies q (nat_le (t0 + QUIET_TIME) t)) self
    ∙ le-leb (t0 + QUIET_TIME) t b in
    let nine : keeps 9 v r ≡ true = ap (λ (q : Bool). implies q (calls_exactly c (both_ids m c i))) self
    ∙ exactly m c i h in
    none_broken (λ n. keeps n v r) judged_rules (
      le-leb (last_time p) t a,
      (
        two,
        (
          refl,
          (
            refl,
            (
              refl,
              (
                refl,
                (
                  seven,
                  (
                    eight,
                    (
                      nine,
                      (
                        refl,
                        (
                          refl,
                          (
                            refl,
                            (
                              refl,
                              (
                                refl,
                                (
                                  refl,
                                  (
                                    refl,
                                    (
                                      refl,
                                      (
                                        refl,
                                        (
                                          refl,
                                          (
                                            refl,
                                            (
                                              refl,
                                              (
                                                refl,
                                                (refl, (refl, (call_said p m c i t0 t, (refl, (refl, (refl, tt)))))),
                                              ),
                                            ),
                                          ),
                                        ),
                                      ),
                                    ),
                                  ),
                                ),
                              ),
                            ),
                          ),
                        ),
                      ),
                    ),
                  ),
                ),
              ),
            ),
          ),
        ),
      ),
    )

-- ---- a calling: the data bits are any

pub asks_obeys : (p : List Row) (m : Bool) (c i x t0 t1 t : ℕ) → c ≢ i → last_time p ≤ t → t1 + 90 ≤ t
    → lowest_broken (seen_apart p c
    (change_to (calling_lines m true x) (calling_lines m false x) (calling_lines m true x) (calling_lines m false x))
    None (Some (begun_call m c i t0 t1)) false) (row_of_lines t c (calling_lines m false x)) ≡ None
asks_obeys p true c i x t0 t1 t ne a b =
    let e = eq_self c in
    let o = ne_eqb c i ne in
    let u = or_self x in
    let v = eq_self x in
    grind (arith, nat_tests)
asks_obeys p false c i x t0 t1 t ne a b =
    let e = eq_self c in
    let o = ne_eqb c i ne in
    let u = or_self x in
    let v = eq_self x in
    grind (arith, nat_tests)

pub answer_obeys : (p : List Row) (m : Bool) (c l x t0 t1 t2 t : ℕ) → c ≢ l
    → last_time p ≤ t → t2 + BUS_SETTLE_DELAY ≤ t → since_line (λ s. s.sel) p ≤ t2
    → since (line_of l) p ≤ t2 → since_line (λ s. s.bsy) p ≤ t2 → (bit_at x l == 1) ≡ true
    → lowest_broken (seen_apart p l (change_to (calling_lines m false x) (calling_lines m true x) none answer_lines)
    None (Some (awaiting_call false m c l t0 t1 t2)) false) (row_of_lines t l answer_lines) ≡ None
answer_obeys p true c l x t0 t1 t2 t ne a b f g h i =
    let e = eq_self l in
    let o = ne_eqb l c (λ z. ne (sym z)) in
    grind (arith, nat_tests)
answer_obeys p false c l x t0 t1 t2 t ne a b f g h i =
    let e = eq_self l in
    let o = ne_eqb l c (λ z. ne (sym z)) in
    grind (arith, nat_tests)

-- ---- a fault strikes the IDs; the caller withdraws, and releases all

pub struck_obeys : (p : List Row) (m : Bool) (c l x bit t0 t1 t2 t : ℕ) → c ≢ l → last_time p ≤ t
    → since_line (λ s. s.bsy) p + BUS_SETTLE_DELAY ≤ t → (bit_at x l == 1) ≡ true
    → lowest_broken (seen_apart p l (change_to (calling_lines m false x) (calling_lines m false x) none none) None
    (Some (awaiting_call false m c l t0 t1 t2)) false) (row_of_fault t l bit) ≡ None
struck_obeys p true c l x bit t0 t1 t2 t ne a b i =
    let e = eq_self l in
    let o = ne_eqb l c (λ z. ne (sym z)) in
    grind (arith, nat_tests)
struck_obeys p false c l x bit t0 t1 t2 t ne a b i =
    let e = eq_self l in
    let o = ne_eqb l c (λ z. ne (sym z)) in
    grind (arith, nat_tests)

pub withdrawal_obeys : (p : List Row) (v m : Bool) (c i x t0 t1 t2 t : ℕ) → c ≢ i
    → (x == 0) ≡ false → last_time p ≤ t → t2 + 250000000 ≤ t → lowest_broken (seen_apart p c
    (change_to (calling_lines m false x) (calling_lines m false 0) (calling_lines m false x) (calling_lines m false 0))
    None (Some (awaiting_call v m c i t0 t1 t2)) false) (row_of_lines t c (calling_lines m false 0)) ≡ None
withdrawal_obeys p v true c i x t0 t1 t2 t ne z a b =
    let e = eq_self c in
    let n = ne_eqb c i ne in
    let u = or_zero_r x in
    let w = eq_self x in
    grind (arith, nat_tests)
withdrawal_obeys p v false c i x t0 t1 t2 t ne z a b =
    let e = eq_self c in
    let n = ne_eqb c i ne in
    let u = or_zero_r x in
    let w = eq_self x in
    grind (arith, nat_tests)

pub give_up_obeys : (p : List Row) (v m : Bool) (c i t0 t1 t2 t3 t : ℕ) → c ≢ i → last_time p ≤ t → t3 + 200090 ≤ t
    → lowest_broken (seen_apart p c (change_to (calling_lines m false 0) none (calling_lines m false 0) none) None
    (Some (withdrawn_call v m c i t0 t1 t2 t3)) false) (row_of_lines t c none) ≡ None
give_up_obeys p v true c i t0 t1 t2 t3 t ne a b = let e = eq_self c in let n = ne_eqb c i ne in grind (arith, nat_tests)
give_up_obeys p v false c i t0 t1 t2 t3 t ne a b =
    let e = eq_self c in
    let n = ne_eqb c i ne in
    grind (arith, nat_tests)

-- ---- after the answer

-- a selection ends: SEL and the IDs are released, ATN stays
abbrev pub selected : LineSet
selected = record none { bsy = true; atn = true }

pub selection_end_obeys : (p : List Row) (c m x t0 t1 t2 t3 t : ℕ) (o : Bool) → c ≢ m → last_time p ≤ t → t3 + 90 ≤ t
    → lowest_broken (seen_apart p c
    (change_to (calling_lines true true x) selected (calling_lines true false x) (record none { atn = true })) None
    (Some (call_with c t0 (answered_calling true m t1 t2 t3))) o) (row_of_lines t c (record none { atn = true })) ≡ None
selection_end_obeys p c m x t0 t1 t2 t3 t o ne a b =
    let e = eq_self c in
    let n = ne_eqb c m ne in
    grind (arith, nat_tests)

-- in a reselection the target drives BSY on the answer
pub takeover_obeys : (p : List Row) (c m x t0 t1 t2 t3 t : ℕ) (o : Bool) → c ≢ m → last_time p ≤ t → lowest_broken
    (seen_apart p c (change_to (calling_lines false true x) (calling_lines false true x) (calling_lines false false x)
    (calling_lines false true x)) None (Some (call_with c t0 (answered_calling false m t1 t2 t3))) o)
    (row_of_lines t c (calling_lines false true x)) ≡ None
takeover_obeys p c m x t0 t1 t2 t3 t o ne a =
    let e = eq_self c in
    let n = ne_eqb c m ne in
    let u = or_self x in
    let w = eq_self x in
    grind (arith, nat_tests)

-- and releases SEL with the first byte of IDENTIFY
abbrev pub reselected_lines : ℕ → LineSet
reselected_lines y = record none { data_bits = y; bsy = true; msg = true; cd = true; io = true }

pub reselection_end_obeys : (p : List Row) (c m x y t0 t1 t2 t3 t4 t : ℕ) (o : Bool)
    → c ≢ m → last_time p ≤ t → t4 + 90 ≤ t → lowest_broken (seen_apart p c
    (change_to (calling_lines false true x) (reselected_lines y) (calling_lines false true x) (reselected_lines y)) None
    (Some (call_with c t0 (resumed_calling m t1 t2 t3 t4))) o) (row_of_lines t c (reselected_lines y)) ≡ None
reselection_end_obeys p c m x y t0 t1 t2 t3 t4 t o ne a b =
    let e = eq_self c in
    let n = ne_eqb c m ne in
    grind (arith, nat_tests)
