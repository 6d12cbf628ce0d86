-- The samples of a phase are of one device: those that were taken before it came before the phase lines.
use Rattle.right_laws.proofs
use proofs.Names.{ℕ, ◌≡◌, ◌⊎◌, inl, inr, ◌≤◌, Bool, true, false, not, ◌&&◌, ◌||◌, max, ◌∙◌, List, ◌∷◌, Some, None, refl}
use proofs.Names.{sym, ap, arith, if◌then◌else◌, wrong, wrong', connection_stays, same_eq, change_of, same}
use proofs.Names.{changes_phase, connection, bus, line_times, phase_time, since_line, Row, Connection, Sample, begun}
use proofs.Names.{begun_after, BeginsConnection, by_selection, by_reselection, by_bool, by_option}

-- Who samples the bytes of a connection.
abbrev pub sampler : Connection → Bool → ℕ
sampler n io = if io then n.initiator else n.target

abbrev pub IsDirected : List Row → Sample → Type 0
IsDirected p b = (n : Connection) → connection p ≡ Some n → (bus p).rst ≡ false → begun p ≡ true
    → (b.time ≤ phase_time (line_times p)) ⊎ (b.dev ≡ sampler n (bus p).io)

-- ---- the phase lines

-- Where they change with a row they stand since its time; else they stand as they did.
phase_new : (m q o : Bool) (a b c t : ℕ) → not (m && q && o) ≡ true
    → t ≤ max (max (if m then a else t) (if q then b else t)) (if o then c else t)
phase_new true true true a b c t e = wrong' e
phase_new true true false a b c t e = omega arith
phase_new true false o a b c t e = omega arith
phase_new false q o a b c t e = omega arith

record AllSame (m q o : Bool) : Type 0 where
  first : m ≡ true
  second : q ≡ true
  third : o ≡ true

all_same : (m q o : Bool) → not (m && q && o) ≡ false → AllSame m q o
all_same true true true e = record { first = refl; second = refl; third = refl }
all_same true true false e = wrong e
all_same true false o e = wrong e
all_same false q o e = wrong e

phase_changed : (p : List Row) (row : Row) → changes_phase (change_of p row) ≡ true
    → row.time ≤ phase_time (line_times (row ∷ p))
phase_changed p row e = phase_new (same (bus p).msg (bus (row ∷ p)).msg) (same (bus p).cd (bus (row ∷ p)).cd)
    (same (bus p).io (bus (row ∷ p)).io) (since_line (λ x. x.msg) p) (since_line (λ x. x.cd) p)
    (since_line (λ x. x.io) p) row.time e

phase_stood : (p : List Row) (row : Row) → changes_phase (change_of p row) ≡ false
    → (phase_time (line_times (row ∷ p)) ≡ phase_time (line_times p)) × ((bus (row ∷ p)).io ≡ (bus p).io)
phase_stood p row e =
    let w = all_same (same (bus p).msg (bus (row ∷ p)).msg) (same (bus p).cd (bus (row ∷ p)).cd)
    (same (bus p).io (bus (row ∷ p)).io) e in (
      λ i. max (max (if w.first i then since_line (λ x. x.msg) p else row.time)
          (if w.second i then since_line (λ x. x.cd) p else row.time))
          (if w.third i then since_line (λ x. x.io) p else row.time),
      sym (same_eq (bus p).io (bus (row ∷ p)).io w.third),
    )

-- ---- a row

-- The connection goes on.
directed_goes : (p : List Row) (row : Row) (b : Sample) (m n : Connection) → connection p ≡ Some m
    → connection (row ∷ p) ≡ Some n → (bus p).rst ≡ false → begun (row ∷ p) ≡ true → b.time ≤ row.time → IsDirected p b
    → (b.time ≤ phase_time (line_times (row ∷ p))) ⊎ (b.dev ≡ sampler n (bus (row ∷ p)).io)
directed_goes p row b m n em en calm g le was =
    by_bool (changes_phase (change_of p row))
    (λ e. let z = phase_changed p row e in inl (omega (arith, z, le)))
    (λ e. by e (was m em calm (sym (ap (λ (q : Bool). q || begun p) e) ∙ sym after ∙ g)))
  where
    after : begun (row ∷ p) ≡ (changes_phase (change_of p row) || begun p)
    after = λ i. begun_after (begun p) (em i) (en i) (change_of p row)

    by : (changes_phase (change_of p row)) ≡ false
        → (b.time ≤ phase_time (line_times p)) ⊎ (b.dev ≡ sampler m (bus p).io)
        → (b.time ≤ phase_time (line_times (row ∷ p))) ⊎ (b.dev ≡ sampler n (bus (row ∷ p)).io)
    by e (inl t) = let z = (phase_stood p row e).0 in inl (omega (arith, t, z))
    by e (inr d) = inr (d ∙ (λ i. sampler (connection_stays p row m n em en i) (sym (phase_stood p row e).1 i)))

-- It begins.
directed_first : (p : List Row) (row : Row) (b : Sample) (n : Connection)
    → BeginsConnection (row ∷ p) n → begun (row ∷ p) ≡ true → b.time ≤ row.time
    → (b.time ≤ phase_time (line_times (row ∷ p))) ⊎ (b.dev ≡ sampler n (bus (row ∷ p)).io)
directed_first p row b n (by_selection h) g le = wrong (sym g ∙ h.begun_is)
directed_first p row b n (by_reselection y h) g le = let z = h.msg_age in inl (omega (arith, z, le))

pub directed_on : (p : List Row) (row : Row) (b : Sample)
    → ((bus p).rst ≡ true → (bus (row ∷ p)).rst ≡ false → connection p ≡ None) → ((n : Connection)
    → connection p ≡ None → (bus (row ∷ p)).rst ≡ false → connection (row ∷ p) ≡ Some n → BeginsConnection (row ∷ p) n)
    → b.time ≤ row.time → IsDirected p b → IsDirected (row ∷ p) b
directed_on p row b cut first le was n en calm g =
    by_option (connection p)
    (λ em. directed_first p row b n (first n em calm en) g le)
    (λ m em. directed_goes p row b m n em en (before m em (bus p).rst refl) g le was)
  where
    some_none : {A : Type 0} (m : Connection) → Some m ≡ None → A
    some_none m z = absurd cc

    before : (m : Connection) → connection p ≡ Some m → (q : Bool) → (bus p).rst ≡ q → (bus p).rst ≡ false
    before m em true e = some_none m (sym em ∙ cut e calm)
    before m em false e = e
