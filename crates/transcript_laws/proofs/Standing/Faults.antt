-- A fault row changes no line.
use Rattle.transcript_laws.proofs
use proofs.Names.{ℕ, zero, suc, ◌≡◌, ◌∙◌, Bool, true, false, List, [], ◌∷◌, refl, sym, ap, slice_set, wrong', rises}
use proofs.Names.{LineSet, changes_phase, driven_after, driven_at, union_all, Change, Fault, Row, ScenarioValue}
use proofs.Names.{BusState, change_to, change_by, story, no_rise}

-- What is driven is put in its place.
put_same : (xs : List LineSet) (i : ℕ) → slice_set xs i (driven_at xs i) ≡ xs
put_same [] i = refl
put_same (x ∷ xs) zero = refl
put_same (x ∷ xs) (suc i) = ap (λ (ys : List LineSet). x ∷ ys) (put_same xs i)

-- The bus has what all devices drive.
all_driven : (s : ScenarioValue) (rows : List Row)
    → (story s rows).bus_state.bus ≡ union_all (story s rows).bus_state.driven
all_driven s [] = refl
all_driven s (row ∷ rows) = refl

same_after : (w : BusState) (row : Row) (bit : ℕ) → w.bus ≡ union_all w.driven → row.kind ≡ Fault bit
    → (change_by w row).after ≡ w.bus
same_after w row bit all e = (λ i. (change_to w row (driven_after (e i) (driven_at w.driven row.dev))).after)
    ∙ ap union_all (put_same w.driven row.dev) ∙ sym all

pub fault_same : (s : ScenarioValue) (rows : List Row) (row : Row) (bit : ℕ) → row.kind ≡ Fault bit
    → (change_by (story s rows).bus_state row).after ≡ (story s rows).bus_state.bus
fault_same s rows row bit e = same_after (story s rows).bus_state row bit (all_driven s rows) e

same_self : (l : LineSet) (c : Change) → c.before ≡ l → c.after ≡ l → changes_phase c ≡ false
same_self l c e f = (λ i. changes_phase (record c { before = e i; after = f i })) ∙ go l.msg l.cd l.io
  where
    go : (m d i : Bool) → changes_phase (record {
      before = record l { msg = m; cd = d; io = i };
      after = record l { msg = m; cd = d; io = i };
      own = c.own;
      next = c.next;
    }) ≡ false
    go true true true = refl
    go true true false = refl
    go true false true = refl
    go true false false = refl
    go false true true = refl
    go false true false = refl
    go false false true = refl
    go false false false = refl

-- No phase begins with it.
pub fault_phase : {A : Type 0} (s : ScenarioValue) (rows : List Row) (row : Row) (bit : ℕ) → row.kind ≡ Fault bit
    → changes_phase (change_by (story s rows).bus_state row) ≡ true → A
fault_phase s rows row bit e turns = wrong' (sym
    (same_self (story s rows).bus_state.bus (change_by (story s rows).bus_state row) refl (fault_same s rows row bit e))
    ∙ turns)

-- And ACK does not rise.
pub fault_ack : {A : Type 0} (s : ScenarioValue) (rows : List Row) (row : Row) (bit : ℕ) → row.kind ≡ Fault bit
    → rises (story s rows).bus_state.bus.ack (change_by (story s rows).bus_state row).after.ack ≡ true → A
fault_ack s rows row bit e up =
    wrong' (sym (ap (λ (x : LineSet). rises (story s rows).bus_state.bus.ack x.ack) (fault_same s rows row bit e)
    ∙ no_rise (story s rows).bus_state.bus.ack) ∙ up)
