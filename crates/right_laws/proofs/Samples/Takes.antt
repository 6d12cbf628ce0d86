-- What the next row makes of the sample that comes next, while RST is false.
use Rattle.right_laws.proofs
use proofs.Names.{ℕ, ◌≡◌, ◌⊎◌, ◌≤◌, ◌<◌, false, ◌∙◌, List, Option, Some, None, refl, sym, ap, same_Some, LineSet}
use proofs.Names.{is_fault, Fault, Row, ScenarioValue, Sample, due_at, fault_due, fault_or, Due, IsLeast, run_state}
use proofs.Names.{flip_of, is_at, unreset_due, row_of_fault}

-- The sample comes no later than the row; at one time the device of the higher ID goes first.
abbrev pub IsNoLater : Sample → Row → Type 0
IsNoLater a row = (a.time < row.time) ⊎ ((a.time ≡ row.time) × (row.dev ≤ a.dev))

-- A fault that is to strike the sample strikes it with this row; else this is no fault row.
pub record Takes (s : ScenarioValue) (p : List Row) (row : Row) (a : Sample) : Type 0 where
  pub order : IsNoLater a row
  pub struck : (bit : ℕ) → flip_of (run_state s p).faults a.time ≡ Some bit → row ≡ row_of_fault a.time a.dev bit
  pub plain : flip_of (run_state s p).faults a.time ≡ None → is_fault row.kind ≡ false

-- The sample comes next; a fault that is to strike it is due.
pub record Awaits (s : ScenarioValue) (p : List Row) (a : Sample) : Type 0 where
  pub below : a.dev < 8
  pub struck : (bit : ℕ) → flip_of (run_state s p).faults a.time ≡ Some bit
      → unreset_due s p a.dev ≡ fault_due a.time bit
  pub takes : (row : Row) → IsLeast (unreset_due s p) 8 row → Takes s p row a

-- ---- what a fault makes of what is due

pub fault_at : (time bit : ℕ) (plain : Option Due) (x : Due) (flip : Option ℕ) → flip ≡ Some bit
    → fault_or time flip plain ≡ Some x → (x.time ≡ time) × (x.kind ≡ Fault bit)
fault_at time bit plain x flip f e =
    let same = same_Some (record { time = time; kind = Fault bit }) x
    (sym (ap (λ (o : Option ℕ). fault_or time o plain) f) ∙ e) in
    (sym (ap (λ (y : Due). y.time) same), sym (ap (λ (y : Due). y.kind) same))

pub lines_at : (time : ℕ) (l : LineSet) (x : Due) (flip : Option ℕ) → flip ≡ None
    → fault_or time flip (due_at time l) ≡ Some x → is_fault x.kind ≡ false
lines_at time l x flip f e =
    ap is_fault (is_at time l x (sym (ap (λ (o : Option ℕ). fault_or time o (due_at time l)) f) ∙ e)).kind_is

pub time_at : (time : ℕ) (l : LineSet) (x : Due) (flip : Option ℕ) → fault_or time flip (due_at time l) ≡ Some x
    → x.time ≡ time
time_at time l x None e = (is_at time l x e).time_is
time_at time l x (Some bit) e = (fault_at time bit (due_at time l) x (Some bit) refl e).0
