-- What one more row changes of what stands on the bus.
use Rattle.bus_laws.proofs
use proofs.Names.{ℕ, ◌≡◌, ◌≢◌, Bool, true, false, List, ◌∷◌, ◌∙◌, refl, sym, ap, Option, ◌≤◌, inl, inr, subst, arith}
use proofs.Names.{ne_eqb, cases_eq, ◌==◌, if◌then◌else◌, eq_self, bus-fault, change_of, LineSet, arbitration_after}
use proofs.Names.{call_after, connection_after, free_since, raised, raised_next, drives, bus, since, newer, since_line}
use proofs.Names.{newer_line, Kind, Drives, Fault, Row, Arbitration, Change, Connection, Call, stage, stage_by}
use proofs.Names.{own_after, own_of, own_time, Stands, change_to, row_of_fault, row_of_lines}

pub drives_own : (p : List Row) (t d : ℕ) (l : LineSet) → drives (row_of_lines t d l ∷ p) d ≡ l
drives_own p t d l = λ i. if eq_self d i then l else drives p d

pub drives_other : (p : List Row) (t d : ℕ) (l : LineSet) (e : ℕ) → e ≢ d
    → drives (row_of_lines t d l ∷ p) e ≡ drives p e
drives_other p t d l e ne = λ i. if ne_eqb d e (λ x. ne (sym x)) i then l else drives p e

pub own_time_own : (p : List Row) (t d : ℕ) (l : LineSet) → own_time (row_of_lines t d l ∷ p) d ≡ t
own_time_own p t d l =
    λ i. (if eq_self d i then own_after (own_of p d) (change_of p (row_of_lines t d l)) t else own_of p d).row

pub own_time_other : (p : List Row) (t d : ℕ) (l : LineSet) (e : ℕ) → e ≢ d
    → own_time (row_of_lines t d l ∷ p) e ≡ own_time p e
own_time_other p t d l e ne =
    λ i. (if ne_eqb d e (λ x. ne (sym x)) i then own_after (own_of p e) (change_of p (row_of_lines t d l)) t
    else own_of p e).row

pub raised_other : (on : LineSet → Bool) (p : List Row) (t d : ℕ) (l : LineSet) (e : ℕ) → e ≢ d
    → raised on (row_of_lines t d l ∷ p) e ≡ raised on p e
raised_other on p t d l e ne = λ i.
    if ne_eqb d e (λ x. ne (sym x)) i then raised_next (on (drives p e)) (on l) t (raised on p e) else raised on p e

pub raised_own : (on : LineSet → Bool) (p : List Row) (t d : ℕ) (l : LineSet)
    → raised on (row_of_lines t d l ∷ p) d ≡ raised_next (on (drives p d)) (on l) t (raised on p d)
raised_own on p t d l =
    λ i. if eq_self d i then raised_next (on (drives p d)) (on l) t (raised on p d) else raised on p d

-- What a row of lines changes.
pub change_is : (p : List Row) (t d : ℕ) (l l' b b' o : LineSet) → l ≡ l' → bus p ≡ b
    → bus (row_of_lines t d l ∷ p) ≡ b' → drives p d ≡ o → change_of p (row_of_lines t d l) ≡ change_to b b' o l'
change_is p t d l l' b b' o el eb ea eo = λ i. change_to (eb i) (ea i) (eo i) (el i)

pub stands_by : (p : List Row) (row : Row) (y : Change) (b : LineSet) (a : Option Arbitration)
    (c : Option Call) (o : Option Connection) → Stands p b a c o → change_of p row ≡ y
    → Stands (row ∷ p) y.after (arbitration_after a (free_since p) y row) (call_after c y row)
    (connection_after o c y row)
stands_by p row y b a c o h e = record {
  bus_is = ap (λ (x : Change). x.after) e;
  arbitration_is = λ i. arbitration_after (h.arbitration_is i) (free_since p) (e i) row;
  call_is = λ i. call_after (h.call_is i) (e i) row;
  connection_is = λ i. connection_after (h.connection_is i) (h.call_is i) (e i) row;
}

-- A fault row changes no line.
pub fault_change : (p : List Row) (t d bit : ℕ) (b o : LineSet) → bus p ≡ b → drives p d ≡ o
    → change_of p (row_of_fault t d bit) ≡ change_to b b o o
fault_change p t d bit b o eb eo =
    let a = bus-fault (row_of_fault t d bit) p bit refl ∙ eb in
    λ i. change_to (eb i) (a i) (eo i) (eo i)

pub own_time_fault : (p : List Row) (t d bit e : ℕ) → own_time (row_of_fault t d bit ∷ p) e ≡ own_time p e
own_time_fault p t d bit e = go (d == e)
  where
    go : (q : Bool) → (if q then own_of p e else own_of p e).row ≡ (own_of p e).row
    go true = refl
    go false = refl

pub own_time_le : (p : List Row) (t d : ℕ) (y : Kind) (e : ℕ) → own_time p e ≤ t
    → own_time (record { time = t; dev = d; kind = y } ∷ p) e ≤ t
own_time_le p t d (Drives l) e h =
    elim (cases_eq e d) [
      | inl same ↦
          let w = own_time_own p t d l in
          subst (λ (x : ℕ). own_time (row_of_lines t d l ∷ p) x ≤ t) (sym same) (omega arith)
      | inr ne ↦ let w = own_time_other p t d l e ne in omega arith
    ]
own_time_le p t d (Fault bit) e h = let w = own_time_fault p t d bit e in omega arith

pub stands_after :
    (p : List Row) (t d : ℕ) (l l' b b' o : LineSet) (a : Option Arbitration) (c : Option Call) (x : Option Connection)
    → Stands p b a c x → l ≡ l' → bus (row_of_lines t d l ∷ p) ≡ b' → drives p d ≡ o
    → Stands (row_of_lines t d l ∷ p) b' (arbitration_after a (free_since p) (change_to b b' o l') (row_of_lines t d l))
    (call_after c (change_to b b' o l') (row_of_lines t d l))
    (connection_after x c (change_to b b' o l') (row_of_lines t d l))
stands_after p t d l l' b b' o a c x h el ea eo =
    let e = change_is p t d l l' b b' o el h.bus_is ea eo in
    record {
      bus_is = ea;
      arbitration_is = λ i. arbitration_after (h.arbitration_is i) (free_since p) (e i) (row_of_lines t d l);
      call_is = λ i. call_after (h.call_is i) (e i) (row_of_lines t d l);
      connection_is = λ i. connection_after (h.connection_is i) (h.call_is i) (e i) (row_of_lines t d l);
    }

-- The stage of the bus.
pub stage_is : (p : List Row) (b : LineSet) (a : Option Arbitration) (c : Option Call) (o : Option Connection)
    → Stands p b a c o → stage p ≡ stage_by b.rst (since_line (λ x. x.rst) p) o c a (free_since p)
stage_is p b a c o h = λ i. stage_by (h.bus_is i).rst (since_line (λ x. x.rst) p) (h.connection_is i) (h.call_is i)
    (h.arbitration_is i) (free_since p)

-- Since when a line stands.
pub since_is : (on : LineSet → Bool) (p : List Row) (row : Row) (b b' : LineSet) → bus p ≡ b → bus (row ∷ p) ≡ b'
    → since_line on (row ∷ p) ≡ newer_line (on b) (on b') (since_line on p) row.time
since_is on p row b b' e f = λ i. newer_line (on (e i)) (on (f i)) (since_line on p) row.time

pub since_same : (see : LineSet → ℕ) (p : List Row) (row : Row) (b : LineSet) → bus p ≡ b → bus (row ∷ p) ≡ b
    → since see (row ∷ p) ≡ since see p
since_same see p row b e f = (λ i. newer see (e i) (f i) (since see p) row.time)
    ∙ ap (λ (q : Bool). if q then since see p else row.time) (eq_self (see b))
