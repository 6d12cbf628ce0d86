-- RST: a row under it, or with which it rises, lets no byte cross; and as it falls no connection stands (6.2.2).
use Rattle.row_laws.proofs
use proofs.Names.{inl, inr, ℕ, ◌≡◌, ◌<◌, ◌≤◌, ◌+◌, Bool, true, false, not, ◌&&◌, ◌||◌, ◌∙◌, List, [], ◌∷◌, Some, None}
use proofs.Names.{refl, sym, ap, arith, cases_eq, and_parts, leb-true, if◌then◌else◌, nat_le, wrong, or_true, implied}
use proofs.Names.{bus_on, bus_off, drives-other, drives-own, drives-fault, same_set-eq, change_of, rises, falls}
use proofs.Names.{implies, is_within, LineSet, none, union, call, connection, connection_of, connection_after, raised}
use proofs.Names.{receiver_in, bus, drives, driven_after, line_times, Kind, Drives, Fault, Row, Change, Connection}
use proofs.Names.{BUS_CLEAR_DELAY, all_kept, only_rst, judged_rules, broken_rule, seen, seen_with, Seen, ScenarioValue}
use proofs.{Names.{off_at, UnderRst, IsUnderRst, quiet, holds, lingers}, Common.Tests.{none_both, by_bool, by_option}}
use Rattle.due_model.specs.bus_rules.specs.Rules.{keeps}

-- ---- the rule of the reset condition

pub record ResetRule (p : List Row) (row : Row) : Type 0 where
  pub alone : implies ((bus p).rst || rises (drives p row.dev).rst (driven_after row.kind (drives p row.dev)).rst)
      (is_within (driven_after row.kind (drives p row.dev)) (union only_rst (drives p row.dev)))
      ≡ true
  pub quiet_is :
      implies (bus p).rst (nat_le row.time ((line_times p).rst + BUS_CLEAR_DELAY) || is_within (bus p) only_rst) ≡ true
  pub holds_is : implies (falls (drives p row.dev).rst (driven_after row.kind (drives p row.dev)).rst)
      (nat_le (raised (λ x. x.rst) p row.dev + 25000) row.time)
      ≡ true

pub reset_rule : (p : List Row) (row : Row) → broken_rule p row ≡ None → ResetRule p row
unfolding seen_with
reset_rule p row e =
    let v : Seen = seen p row in
    let a = all_kept (λ n. keeps n v row) judged_rules e in
    let last : keeps 28 v row ≡ true = a.1.1.1.1.1.1.1.1.1.1.1.1.1.1.1.1.1.1.1.1.1.1.1.1.1.1.1.0 in
    let two = and_parts
    (implies ((bus p).rst || rises (drives p row.dev).rst (driven_after row.kind (drives p row.dev)).rst)
    (is_within (driven_after row.kind (drives p row.dev)) (union only_rst (drives p row.dev)))
    && implies (bus p).rst (nat_le row.time ((line_times p).rst + BUS_CLEAR_DELAY) || is_within (bus p) only_rst))
    _ last in
    let one = and_parts
    (implies ((bus p).rst || rises (drives p row.dev).rst (driven_after row.kind (drives p row.dev)).rst)
    (is_within (driven_after row.kind (drives p row.dev)) (union only_rst (drives p row.dev)))) _ two.0 in
    record { alone = one.0; quiet_is = one.1; holds_is = two.1 }

-- ---- what a device drives after its row

pub drives_next : (p : List Row) (row : Row) → drives (row ∷ p) row.dev ≡ driven_after row.kind (drives p row.dev)
drives_next p row = go row.kind refl
  where
    go : (x : Kind) → row.kind ≡ x → drives (row ∷ p) row.dev ≡ driven_after row.kind (drives p row.dev)
    go (Drives l) e = drives-own row p l e ∙ sym (ap (λ (x : Kind). driven_after x (drives p row.dev)) e)
    go (Fault bit) e = drives-fault row p bit row.dev e ∙ sym (ap (λ (x : Kind). driven_after x (drives p row.dev)) e)

-- A line that is false on the bus is driven by no device.
pub line_off : (on : LineSet → Bool) → ((a b : LineSet) → on (union a b) ≡ (on a || on b)) → (p : List Row)
    → on (bus p) ≡ false → (d : ℕ) → d < 8 → on (drives p d) ≡ false
line_off on both p e d lt = by_bool (on (drives p d)) (λ h. wrong (sym (bus_on on both p d lt h) ∙ e)) (λ h. h)

-- It stays false, where the device of the row does not raise it.
stays_off : (on : LineSet → Bool) → ((a b : LineSet) → on (union a b) ≡ (on a || on b)) → on none ≡ false
    → (p : List Row) (row : Row) → on (bus p) ≡ false → on (drives (row ∷ p) row.dev) ≡ false
    → on (bus (row ∷ p)) ≡ false
stays_off on both zero p row e own =
    bus_off on both zero (row ∷ p) (λ d lt. elim (cases_eq d row.dev) [
      | inl same ↦ ap (λ (m : ℕ). on (drives (row ∷ p) m)) same ∙ own
      | inr ne ↦ ap on (drives-other row p d ne) ∙ line_off on both p e d lt
    ])

-- RST is true before the row, or its device raises it.
pub raises_or_stands : (p : List Row) (row : Row) → row.dev < 8 → (bus (row ∷ p)).rst ≡ true
    → ((bus p).rst || rises (drives p row.dev).rst (driven_after row.kind (drives p row.dev)).rst) ≡ true
raises_or_stands p row lt on = go (bus p).rst refl (drives (row ∷ p) row.dev).rst refl
  where
    go : (q : Bool) → (bus p).rst ≡ q → (r : Bool) → (drives (row ∷ p) row.dev).rst ≡ r
        → ((bus p).rst || rises (drives p row.dev).rst (driven_after row.kind (drives p row.dev)).rst) ≡ true
    go true e r f = λ i. e i || rises (drives p row.dev).rst (driven_after row.kind (drives p row.dev)).rst
    go false e true f =
        let was = off_at p e row.dev lt in
        let now : (driven_after row.kind (drives p row.dev)).rst ≡ true =
        ap (λ (l : LineSet). l.rst) (sym (drives_next p row)) ∙ f in
        λ i. e i || rises (was i) (now i)
    go false e false f = wrong (sym on ∙ stays_off (λ x. x.rst) (λ _ _. refl) refl p row e f)

-- ---- no byte crosses

within_line : (on : LineSet → Bool) → ((a b : LineSet) → on (union a b) ≡ (on a || on b)) → (l m : LineSet)
    → is_within l m ≡ true → on l ≡ true → on m ≡ true
within_line on both l m e z = ap on (sym (same_set-eq (union m l) m e)) ∙ both m l ∙ (λ i. on m || z i) ∙ or_true (on m)

no_rise_by : (a b : Bool) → (a ≡ false → b ≡ false) → rises a b ≡ false
no_rise_by true b f = refl
no_rise_by false b f = f refl

none_rises : (on : LineSet → Bool) → ((a b : LineSet) → on (union a b) ≡ (on a || on b)) → on none ≡ false
    → on only_rst ≡ false → (p : List Row) (row : Row) → row.dev < 8
    → is_within (driven_after row.kind (drives p row.dev)) (union only_rst (drives p row.dev)) ≡ true
    → rises (on (bus p)) (on (bus (row ∷ p))) ≡ false
none_rises on both zero rst p row lt within = no_rise_by (on (bus p)) (on (bus (row ∷ p)))
    (λ e. stays_off on both zero p row e (go (on (drives (row ∷ p) row.dev)) refl e))
  where
    go : (q : Bool) → on (drives (row ∷ p) row.dev) ≡ q → on (bus p) ≡ false → on (drives (row ∷ p) row.dev) ≡ false
    go false f e = f
    go true f e =
        let next : on (driven_after row.kind (drives p row.dev)) ≡ true = ap on (sym (drives_next p row)) ∙ f in
        let all = within_line on both (driven_after row.kind (drives p row.dev))
        (union only_rst (drives p row.dev)) within next in
        wrong (sym all ∙ both only_rst (drives p row.dev) ∙ (λ i. rst i || line_off on both p e row.dev lt i))

-- No line but RST rises with a row after which RST is true.
pub none_raised : (on : LineSet → Bool) → ((a b : LineSet) → on (union a b) ≡ (on a || on b)) → on none ≡ false
    → on only_rst ≡ false → (p : List Row) (row : Row) → row.dev < 8 → broken_rule p row ≡ None
    → (bus (row ∷ p)).rst ≡ true → rises (on (bus p)) (on (bus (row ∷ p))) ≡ false
none_raised on both zero rst p row lt obeys up = none_rises on both zero rst p row lt
    (implied ((bus p).rst || rises (drives p row.dev).rst (driven_after row.kind (drives p row.dev)).rst) _
    (reset_rule p row obeys).alone (raises_or_stands p row lt up))

pub carries_none : (p : List Row) (row : Row) (n : Connection) → row.dev < 8 → broken_rule p row ≡ None
    → (bus (row ∷ p)).rst ≡ true → receiver_in n (change_of p row) ≡ None
carries_none p row n lt obeys on =
    let r = reset_rule p row obeys in
    let within = implied ((bus p).rst || rises (drives p row.dev).rst (driven_after row.kind (drives p row.dev)).rst)
    _ r.alone (raises_or_stands p row lt on) in
    (λ i. if (bus p).io
    then (if none_rises (λ x. x.req) (λ _ _. refl) refl refl p row lt within i then Some n.initiator else None)
    else (if none_rises (λ x. x.ack) (λ _ _. refl) refl refl p row lt within i then Some n.target else None))
    ∙ none_both (bus p).io

-- ---- RST falls

pub bsy_stands : (p : List Row) → (bus p).bsy ≡ false → connection p ≡ None
bsy_stands [] e = refl
bsy_stands (row ∷ rows) e = by_option (connection rows) (λ f. (λ i. connection_after (f i) (call rows) c row)
    ∙ none_if (falls c.before.sel c.after.sel) c.after.bsy (not c.after.rst) e)
    (λ m f. (λ i. connection_after (f i) (call rows) c row) ∙ ap (λ (q : Bool). if q then Some m else None) e)
  where
    c : Change
    c = change_of rows row

    none_if : (a b r : Bool) → b ≡ false → (if a && b && r then connection_of (call rows) row.time else None) ≡ None
    none_if true true r f = wrong f
    none_if true false r f = refl
    none_if false b r f = refl

or_second : (a b : Bool) → (a || b) ≡ true → (a ≡ true → ⊥) → b ≡ true
or_second true b e f = absurd (f refl)
or_second false b e f = e

-- No line but RST was true.
pub quiet_at_end : (s : ScenarioValue) (p : List Row) (row : Row) → row.dev < 8 → broken_rule p row ≡ None
    → UnderRst s p → (bus (row ∷ p)).rst ≡ false → is_within (bus p) only_rst ≡ true
quiet_at_end s p row lt obeys u off = or_second (nat_le row.time ((line_times p).rst + BUS_CLEAR_DELAY))
    (is_within (bus p) only_rst) (implied (bus p).rst _ r.quiet_is u.reset)
    (λ z. late (leb-true _ _ z) (u.each row.dev lt))
  where
    r : ResetRule p row
    r = reset_rule p row obeys

    held : (drives p row.dev).rst ≡ true
    held =
        by_bool (drives p row.dev).rst
        (λ e. e)
        (λ e.
        wrong (sym u.reset ∙ bus_off (λ x. x.rst) (λ _ _. refl) refl p (λ d ld. elim (cases_eq d row.dev) [
          | inl same ↦ ap (λ (m : ℕ). (drives p m).rst) same ∙ e
          | inr ne ↦ ap (λ (l : LineSet). l.rst) (sym (drives-other row p d ne)) ∙ off_at (row ∷ p) off d ld
        ])))

    let_go : (driven_after row.kind (drives p row.dev)).rst ≡ false
    let_go = ap (λ (l : LineSet). l.rst) (sym (drives_next p row)) ∙ off_at (row ∷ p) off row.dev lt

    wait : raised (λ x. x.rst) p row.dev + 25000 ≤ row.time
    wait = leb-true _ _ (implied (falls (drives p row.dev).rst (driven_after row.kind (drives p row.dev)).rst) _
        r.holds_is (λ i. falls (held i) (let_go i)))

    late : row.time ≤ (line_times p).rst + BUS_CLEAR_DELAY → IsUnderRst p row.dev → ⊥
    late soon (quiet e) = wrong (sym held ∙ ap (λ (l : LineSet). l.rst) e)
    late soon (lingers e) = wrong (sym held ∙ e)
    late soon (holds h) = let a = h.raised_at in let b = h.not_before in let c = wait in absurd (omega arith)

pub ends_apart : (s : ScenarioValue) (p : List Row) (row : Row) → row.dev < 8 → broken_rule p row ≡ None → UnderRst s p
    → (bus (row ∷ p)).rst ≡ false → connection p ≡ None
ends_apart s p row lt obeys u off =
    let all = same_set-eq (union only_rst (bus p)) only_rst (quiet_at_end s p row lt obeys u off) in
    bsy_stands p (ap (λ (l : LineSet). l.bsy) all)
