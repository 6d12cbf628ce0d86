-- A bus on which only data lines, BSY and SEL are driven.
use Rattle.bus_laws.proofs
use proofs.Names.{◌⊎◌, inl, inr, ◌≢◌, ℕ, zero, suc, ◌≡◌, ◌<◌, Bool, true, false, List, ◌∙◌, refl, sym, ap, arith}
use proofs.Names.{cases_eq, bus_on, bus_off, LineSet, none, union, drives, bus, union_below, Row, contender_lines}
use proofs.Names.{arbitration_bus, won_bus}

abbrev pub held : LineSet → LineSet
held x = record none { data_bits = x.data_bits; bsy = x.bsy; sel = x.sel }

pub held_by : (l m : LineSet) → l ≡ m → m ≡ held m → l ≡ held l
held_by l m e h = e ∙ h ∙ ap held (sym e)

pub held_below : (f : ℕ → LineSet) (m : ℕ) → ((d : ℕ) → d < m → f d ≡ held (f d))
    → union_below f m ≡ held (union_below f m)
unfolding union_below
held_below f zero h = refl
held_below f (suc m) h =
    let low = held_below f m (λ d lt. h d (omega arith)) in
    let top = h m (omega arith) in
    λ i. union (low i) (top i)

pub as_entries : (x : LineSet) → x ≡ held x → x.bsy ≡ true → x.sel ≡ false → x ≡ arbitration_bus x.data_bits
as_entries x h b e = h ∙ (λ i. record none { data_bits = x.data_bits; bsy = b i; sel = e i })

pub as_winner : (x : LineSet) → x ≡ held x → x.bsy ≡ true → x.sel ≡ true → x ≡ won_bus x.data_bits
as_winner x h b e = h ∙ (λ i. record none { data_bits = x.data_bits; bsy = b i; sel = e i })

-- a device that drives nothing, or BSY and its ID
abbrev pub ContendsOrNot : List Row → ℕ → Type 0
ContendsOrNot p e = (drives p e ≡ none) ⊎ (drives p e ≡ contender_lines e)

contender_held : (p : List Row) (e : ℕ) → ContendsOrNot p e → drives p e ≡ held (drives p e)
contender_held p e (inl n) = held_by (drives p e) none n refl
contender_held p e (inr k) = held_by (drives p e) (contender_lines e) k refl

contender_off : (on : LineSet → Bool) (p : List Row) (e : ℕ) → on none ≡ false
    → ((m : ℕ) → on (contender_lines m) ≡ false) → ContendsOrNot p e → on (drives p e) ≡ false
contender_off on p e n0 n1 (inl n) = ap on n ∙ n0
contender_off on p e n0 n1 (inr m) = ap on m ∙ n1 e

-- the bus of an arbitration
pub entries_is : (p : List Row) (d : ℕ) → d < 8 → drives p d ≡ contender_lines d
    → ((e : ℕ) → e < 8 → ContendsOrNot p e) → bus p ≡ arbitration_bus (bus p).data_bits
entries_is p d lt own each = as_entries (bus p) (held_below (drives p) 8 (λ e l. contender_held p e (each e l)))
    (bus_on (λ y. y.bsy) (λ _ _. refl) p d lt (ap (λ (y : LineSet). y.bsy) own))
    (bus_off (λ y. y.sel) (λ _ _. refl) refl p (λ e l. contender_off (λ y. y.sel) p e refl (λ _. refl) (each e l)))

-- and of one that is won
pub winner_is : (p : List Row) (c : ℕ) → c < 8 → drives p c ≡ record (contender_lines c) { sel = true }
    → ((e : ℕ) → e < 8 → e ≢ c → ContendsOrNot p e) → bus p ≡ won_bus (bus p).data_bits
winner_is p c lt own each =
    as_winner (bus p)
    (held_below (drives p) 8 (λ e l. elim (cases_eq e c) [
      | inl same ↦ held_by (drives p e) (record (contender_lines c) { sel = true }) (ap (drives p) same ∙ own) refl
      | inr ne ↦ contender_held p e (each e l ne)
    ]))
    (bus_on (λ y. y.bsy) (λ _ _. refl) p c lt (ap (λ (y : LineSet). y.bsy) own))
    (bus_on (λ y. y.sel) (λ _ _. refl) p c lt (ap (λ (y : LineSet). y.sel) own))
