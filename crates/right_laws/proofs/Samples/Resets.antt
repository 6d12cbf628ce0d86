-- RST and the samples: which a row that raises it keeps, and that no IDs are sampled under it (6.2.2).
use Rattle.right_laws.proofs
use proofs.Names.{ℕ, zero, suc, ◌≡◌, ◌≢◌, ◌⊎◌, inl, inr, ◌≤◌, ◌<◌, ◌+◌, Bool, true, false, ◌&&◌, ◌||◌, ◌==◌, ◌∙◌, List}
use proofs.Names.{◌∷◌, Option, Some, None, refl, sym, ap, arith, cases_eq, ltb-true, nat_tests, same_Some}
use proofs.Names.{if◌then◌else◌, is_some, nat_lt, wrong, wrong', and_false, bus_off, drives-other, drives-fault}
use proofs.Names.{change_of, falls, LineSet, none, same_set, call, calling_after, connection, drives_two_ids}
use proofs.Names.{new_calling, when, is_fault, bus, drives, driven_after, line_times, union_below, Kind, Drives, Fault}
use proofs.Names.{Row, Change, Connection, Call, Calling, only_rst, ScenarioValue, Sample, is_kept_by_reset}
use proofs.Names.{samples_with_ids, due_at, earlier_due, Due, reset_from, IsLeast, due, Own, AreOfDevices, drives_own}
use proofs.Names.{one_of, comes_by_first, due_calm, due_holding, due_there, own_reset_is, reset_after, own_other}
use proofs.Names.{released_own, own_fault, off_at, resets_of_own, only_caller, is_there, is_at, due_in_reset, row_is}
use proofs.Names.{always_is, calm_first, unreset_due, reset_due, row_of_lines, row_of_fault, CalmStanding, Standing}
use proofs.Names.{BusStage, on_free_bus, in_arbitration, after_arbitration, with_both_ids, awaiting_answer}
use proofs.Names.{after_withdrawal, after_answer, after_takeover, in_reset, due_of, none_some, not_unless, by_bool}
use proofs.{Names.{by_option}, Samples.{Calls.{calling_follows, GoesOn, call_goes, ids_unsampled}, Takes.{IsNoLater}}}
use lib.Count.{ones}
use Rattle.due_model.specs.Own.{own_of}
use Rattle.trace_laws.specs.bus_laws.specs.Stages.{in_connection}

-- ---- the row of a reset, and others

-- The row raises RST, as the reset of its device; or it releases all lines.
pub data ResetRow (s : ScenarioValue) (p : List Row) (row : Row) : Type 0 where
  raises : (drives p row.dev).rst ≡ false
      → reset_due s p row.dev ≡ (let x : Due = record { time = row.time; kind = row.kind } in Some x)
      → row ≡ row_of_lines row.time row.dev only_rst → ResetRow s p row
  lets_go : row ≡ row_of_lines row.time row.dev none → ResetRow s p row

clear_lines : (q : Bool) (time : ℕ) (x : Due) → (if q then None else due_at time none) ≡ Some x → x.kind ≡ Drives none
clear_lines true time x e = absurd (none_some x e)
clear_lines false time x e = (is_at time none x e).kind_is

pub under_reset : (s : ScenarioValue) (p : List Row) (row : Row) → AreOfDevices p → (bus p).rst ≡ true
    → IsLeast (due s p) 8 row → ResetRow s p row
under_reset s p row dv on m = by_bool (drives p row.dev).rst (λ held. let l = due_there s p row.dev x m.is_due in
    lets_go (row_is row none (is_at ((own_of p row.dev).rst + 25000 + l.latency) none x
    (sym (due_holding s p row.dev l.latency dv m.inside l.latency_is held) ∙ m.is_due)).kind_is)) (λ off. elim (one_of
    (reset_due s p row.dev) (unreset_due s p row.dev) x (sym (due_calm s p row.dev dv m.inside off) ∙ m.is_due)) [
      | inl r ↦ raises off r (row_is row only_rst (own_reset_is s p row.dev x r).kind_is)
      | inr c ↦
          let w = is_there s p row.dev x c in
          lets_go (row_is row none (clear_lines (same_set (drives p row.dev) none) ((line_times p).rst + w.0) x
          (sym (due_in_reset s p row.dev w.0 (drives p row.dev) dv m.inside w.1 on refl) ∙ c)))
    ])
  where
    x : Due
    x = due_of row

-- While no device drives RST the row is the reset of its device, or the first that is due without resets.
pub data CalmRow (s : ScenarioValue) (p : List Row) (row : Row) : Type 0 where
  resets : (drives p row.dev).rst ≡ false
      → reset_due s p row.dev ≡ (let x : Due = record { time = row.time; kind = row.kind } in Some x)
      → row ≡ row_of_lines row.time row.dev only_rst → CalmRow s p row
  reacts : CalmStanding s p → IsLeast (unreset_due s p) 8 row → CalmRow s p row

pub calm_row : (s : ScenarioValue) (p : List Row) (row : Row) → Standing s p → (bus p).rst ≡ false
    → IsLeast (due s p) 8 row → CalmRow s p row
calm_row s p row st calm m =
    let x : Due = due_of row in
    let off = off_at p calm in
    elim (one_of (reset_due s p row.dev) (unreset_due s p row.dev) x
    (sym (due_calm s p row.dev st.devices m.inside (off row.dev m.inside)) ∙ m.is_due)) [
      | inl r ↦ resets (off row.dev m.inside) r (row_is row only_rst (own_reset_is s p row.dev x r).kind_is)
      | inr c ↦ reacts (always_is s p st calm) (calm_first s p row st calm m c)
    ]

-- ---- what it keeps

abbrev pub IsKept : (time dev : ℕ) → Sample → Type 0
IsKept time dev a = (a.time < time) ⊎ ((a.time ≡ time) × (dev < a.dev))

pub kept_is : (row : Row) (a : Sample) → IsKept row.time row.dev a → is_kept_by_reset row a ≡ true
kept_is row a (inl h) = go a.time row.time a.dev row.dev h
  where
    go : (t u d e : ℕ) → t < u → (nat_lt t u || (t == u && nat_lt e d)) ≡ true
    go t u d e h = grind (arith, nat_tests)
kept_is row a (inr h) = go a.time row.time a.dev row.dev h.0 h.1
  where
    go : (t u d e : ℕ) → t ≡ u → e < d → (nat_lt t u || (t == u && nat_lt e d)) ≡ true
    go t u d e h f = grind (arith, nat_tests)

pub is_kept : (row : Row) (a : Sample) → is_kept_by_reset row a ≡ true → IsKept row.time row.dev a
is_kept row a z =
    by_bool (nat_lt a.time row.time)
    (λ e. inl (less a.time row.time e))
    (λ e. inr (ties a.time row.time a.dev row.dev e z, higher a.time row.time a.dev row.dev e z))
  where
    less : (t u : ℕ) → nat_lt t u ≡ true → t < u
    less t u e = grind (arith, nat_tests)

    ties : (t u d e : ℕ) → nat_lt t u ≡ false → (nat_lt t u || (t == u && nat_lt e d)) ≡ true → t ≡ u
    ties t u d e f h = grind (arith, nat_tests)

    higher : (t u d e : ℕ) → nat_lt t u ≡ false → (nat_lt t u || (t == u && nat_lt e d)) ≡ true → e < d
    higher t u d e f h = grind (arith, nat_tests)

-- Every reset that is still to come keeps the sample.
abbrev pub IsKeptOn : ScenarioValue → List Row → Sample → Type 0
IsKeptOn s p a = (e : ℕ) → e < 8 → (drives p e).rst ≡ false → (x : Due) → reset_due s p e ≡ Some x → IsKept x.time e a

-- A reset that is due after a row comes later, or it was due before it, and the row went first.
data ComesFrom (s : ScenarioValue) (p : List Row) (row : Row) (e : ℕ) (x : Due) : Type 0 where
  later : row.time < x.time → ComesFrom s p row e x
  stood : (drives p e).rst ≡ false → reset_due s p e ≡ Some x → row.time ≤ x.time
      → (row.time ≡ x.time → e < row.dev) → ComesFrom s p row e x

earlier_first : (a u : Option Due) (x z : Due) → a ≡ Some x → earlier_due a u ≡ Some z → (z ≡ x) ⊎ (z.time < x.time)
earlier_first None u x z e f = absurd (none_some x e)
earlier_first (Some w) None x z e f = inl (same_Some z x (sym f ∙ e))
earlier_first (Some w) (Some y) x z e f = go (nat_lt y.time w.time) refl f
  where
    same : w.time ≡ x.time
    same = ap (λ (v : Due). v.time) (same_Some w x e)

    go : (q : Bool) → nat_lt y.time w.time ≡ q → (let o : Option Due = Some (if q then y else w) in o) ≡ Some z
        → (z ≡ x) ⊎ (z.time < x.time)
    go true h g =
        let t = ap (λ (v : Due). v.time) (same_Some y z g) in
        let l = ltb-true y.time w.time h in
        let u = same in
        inr (omega (arith, t, l, u))
    go false h g = inl (sym (same_Some w z g) ∙ same_Some w x e)

comes_from : (s : ScenarioValue) (p : List Row) (row : Row) (e : ℕ) (x : Due) → AreOfDevices p → IsLeast (due s p) 8 row
    → e < 8 → (drives (row ∷ p) e).rst ≡ false → reset_due s (row ∷ p) e ≡ Some x → ComesFrom s p row e x
comes_from s p row e x dv m lt off r =
    elim (cases_eq e row.dev) [
      | inl same ↦ by_kind row.kind refl same
      | inr ne ↦
          by_other ne (sym (ap (λ (l : LineSet). l.rst) (drives-other row p e ne)) ∙ off)
          (sym (resets_of_own s p (row ∷ p) e (ap (λ (o : Own). o.released) (own_other p row e ne))) ∙ r)
    ]
  where
    by_other : e ≢ row.dev → (drives p e).rst ≡ false → reset_due s p e ≡ Some x → ComesFrom s p row e x
    by_other ne was z =
        let y = comes_by_first (reset_due s p e) (unreset_due s p e) x z in
        let g = due_calm s p e dv lt was ∙ y.is in
        let f = m.first e lt y.x g in
        let le = y.le in
        stood was z (omega (arith, f, le)) (λ t.
        let h = m.highest e lt y.x g (omega (arith, f, le, t)) in
        less ne h)
      where
        less : e ≢ row.dev → e ≤ row.dev → e < row.dev
        less ne h = elim (cases_eq e row.dev) [
          | inl z ↦ absurd (ne z)
          | inr z ↦ not_same e row.dev z h
        ]
          where
            not_same : (a b : ℕ) → a ≢ b → a ≤ b → a < b
            not_same a b z h = grind (arith, nat_tests)

    -- the device of the row, which does not raise RST with it
    by_own : (drives p row.dev).rst ≡ false → reset_due s p row.dev ≡ Some x
        → (row.kind ≡ Drives only_rst → ⊥) → ComesFrom s p row e x
    by_own was z never = elim (earlier_first (reset_due s p row.dev) (unreset_due s p row.dev) x (due_of row) z
        (sym (due_calm s p row.dev dv m.inside was) ∙ m.is_due)) [
          | inl same ↦ absurd (never (ap (λ (v : Due). v.kind) same ∙ (own_reset_is s p row.dev x z).kind_is))
          | inr less ↦ later less
        ]

    by_kind : (u : Kind) → row.kind ≡ u → e ≡ row.dev → ComesFrom s p row e x
    by_kind (Fault bit) ek same =
        let f : row ≡ row_of_fault row.time row.dev bit = λ i. record { time = row.time; dev = row.dev; kind = ek i } in
        let o : own_of (row ∷ p) e ≡ own_of p e = ap (λ (w : Row). own_of (w ∷ p) e) f
        ∙ own_fault p row.time row.dev bit e in
        by_own
        ((λ i. (drives p (sym same i)).rst) ∙ sym (ap (λ (l : LineSet). l.rst) (drives-fault row p bit e ek)) ∙ off)
        ((λ i. reset_due s p (sym same i)) ∙ sym (resets_of_own s p (row ∷ p) e (ap (λ (y : Own). y.released) o)) ∙ r)
        (λ z. no_fault (sym ek ∙ z))
      where
        no_fault : (let u : Kind = Fault bit in u) ≡ Drives only_rst → ⊥
        no_fault z = wrong (ap is_fault z)
    by_kind (Drives l) ek same =
        let f : row ≡ row_of_lines row.time row.dev l = λ i. record { time = row.time; dev = row.dev; kind = ek i } in
        let c : l.rst ≡ false = ap (λ (y : LineSet). y.rst) (sym (drives_own p row.time row.dev l))
        ∙ (λ i. (drives (sym f i ∷ p) (sym same i)).rst) ∙ off in
        let rel : (own_of (row ∷ p) e).released
        ≡ when (falls (drives p row.dev).rst l.rst) row.time (own_of p row.dev).released =
        (λ i. (own_of (f i ∷ p) (same i)).released) ∙ released_own p row.time row.dev l in
        go (drives p row.dev).rst refl c rel
      where
        go : (q : Bool) → (drives p row.dev).rst ≡ q → l.rst ≡ false → (own_of (row ∷ p) e).released
            ≡ when (falls (drives p row.dev).rst l.rst) row.time (own_of p row.dev).released
            → ComesFrom s p row e x
        go true a c rel =
            let z : (own_of (row ∷ p) e).released ≡ Some row.time = rel
            ∙ (λ i. when (falls (a i) (c i)) row.time (own_of p row.dev).released) in
            let w = own_reset_is s (row ∷ p) e x r in
            later (reset_after e row.time s.resets x.time
            (ap (λ (y : Option ℕ). reset_from e y s.resets) (sym z) ∙ w.time_is))
        go false a c rel =
            let z : (own_of (row ∷ p) e).released ≡ (own_of p e).released = rel
            ∙ (λ i. when (falls (a i) (c i)) row.time (own_of p row.dev).released)
            ∙ ap (λ (y : ℕ). (own_of p y).released) (sym same) in
            by_own a ((λ i. reset_due s p (sym same i)) ∙ sym (resets_of_own s p (row ∷ p) e z) ∙ r)
            (λ u. wrong (sym (ap (λ (y : Kind). (driven_after y none).rst) (sym ek ∙ u)) ∙ c))

pub kept_on : (s : ScenarioValue) (p : List Row) (row : Row) (a : Sample) → AreOfDevices p → IsLeast (due s p) 8 row
    → a.time ≤ row.time → IsKeptOn s p a → IsKeptOn s (row ∷ p) a
kept_on s p row a dv m le g e lt off x r = go (comes_from s p row e x dv m lt off r)
  where
    go : ComesFrom s p row e x → IsKept x.time e a
    go (later h) = inl (omega (arith, h, le))
    go (stood was z h f) = g e lt was x z

pub kept_new : (s : ScenarioValue) (p : List Row) (row : Row) (a : Sample) → AreOfDevices p → IsLeast (due s p) 8 row
    → IsNoLater a row → IsKeptOn s (row ∷ p) a
kept_new s p row a dv m order e lt off x r = go (comes_from s p row e x dv m lt off r) order
  where
    by_time : (q : Bool) → (row.time == x.time) ≡ q → row.time ≤ x.time
        → (row.time ≡ x.time → e < row.dev) → a.time ≡ row.time → row.dev ≤ a.dev → IsKept x.time e a
    by_time true z h f t d =
        let u = is_same row.time x.time z in
        let w = f u in
        inr (omega (arith, t, u), omega (arith, w, d))
      where
        is_same : (a b : ℕ) → (a == b) ≡ true → a ≡ b
        is_same a b e = grind (arith, nat_tests)
    by_time false z h f t d = let u = less row.time x.time z h in inl (omega (arith, t, u))
      where
        less : (a b : ℕ) → (a == b) ≡ false → a ≤ b → a < b
        less a b e h = grind (arith, nat_tests)

    go : ComesFrom s p row e x → IsNoLater a row → IsKept x.time e a
    go (later h) (inl t) = inl (omega (arith, h, t))
    go (later h) (inr t) = let u = t.0 in inl (omega (arith, h, u))
    go (stood was z h f) (inl t) = inl (omega (arith, h, t))
    go (stood was z h f) (inr t) = by_time (row.time == x.time) refl h f t.0 t.1

-- ---- no IDs are sampled under RST

-- While RST is true, of a calling that is not answered, BSY is false, or each device that drives BSY drives SEL.
abbrev IsLow : List Row → Type 0
IsLow p = (d : ℕ) → d < 8 → (drives p d).bsy ≡ false

abbrev IsEven : List Row → Type 0
IsEven p = (d : ℕ) → d < 8 → (drives p d).bsy ≡ (drives p d).sel

abbrev pub LetsCallsGo : List Row → Type 0
LetsCallsGo p =
    (c : Call) (h : Calling) → call p ≡ Some c → c.calling ≡ Some h → is_some h.answered ≡ false → IsLow p ⊎ IsEven p

-- The row drives no line, or RST alone.
pub record IsBare (row : Row) : Type 0 where
  pub lines : LineSet
  pub row_is : row ≡ row_of_lines row.time row.dev lines
  pub bare : (lines ≡ none) ⊎ (lines ≡ only_rst)

pub bare_row : (s : ScenarioValue) (p : List Row) (row : Row) → ResetRow s p row → IsBare row
bare_row s p row (raises off r e) = record { lines = only_rst; row_is = e; bare = inr refl }
bare_row s p row (lets_go e) = record { lines = none; row_is = e; bare = inl refl }

bare_bsy : (l : LineSet) → (l ≡ none) ⊎ (l ≡ only_rst) → l.bsy ≡ false
bare_bsy l (inl e) = ap (λ (x : LineSet). x.bsy) e
bare_bsy l (inr e) = ap (λ (x : LineSet). x.bsy) e

bare_sel : (l : LineSet) → (l ≡ none) ⊎ (l ≡ only_rst) → l.sel ≡ false
bare_sel l (inl e) = ap (λ (x : LineSet). x.sel) e
bare_sel l (inr e) = ap (λ (x : LineSet). x.sel) e

bare_ids : (caller : ℕ) (l : LineSet) → (l ≡ none) ⊎ (l ≡ only_rst) → drives_two_ids caller l ≡ false
unfolding ones
bare_ids caller l (inl e) = ap (drives_two_ids caller) e
bare_ids caller l (inr e) = ap (drives_two_ids caller) e

own_line : (p : List Row) (row : Row) (b : IsBare row) → drives (row ∷ p) row.dev ≡ b.lines
own_line p row b = ap (λ (w : Row). drives (w ∷ p) row.dev) b.row_is ∙ drives_own p row.time row.dev b.lines

low_on : (p : List Row) (row : Row) → IsBare row → ((d : ℕ) → d < 8 → d ≢ row.dev → (drives p d).bsy ≡ false)
    → IsLow (row ∷ p)
low_on p row b f d lt =
    elim (cases_eq d row.dev) [
      | inl same ↦ ap (λ (m : ℕ). (drives (row ∷ p) m).bsy) same ∙ ap (λ (l : LineSet). l.bsy) (own_line p row b)
          ∙ bare_bsy b.lines b.bare
      | inr ne ↦ ap (λ (l : LineSet). l.bsy) (drives-other row p d ne) ∙ f d lt ne
    ]

even_on : (p : List Row) (row : Row) → IsBare row
    → ((d : ℕ) → d < 8 → d ≢ row.dev → (drives p d).bsy ≡ (drives p d).sel) → IsEven (row ∷ p)
even_on p row b f d lt =
    elim (cases_eq d row.dev) [
      | inl same ↦ ap (λ (m : ℕ). (drives (row ∷ p) m).bsy) same
          ∙ ap (λ (l : LineSet). l.bsy) (own_line p row b) ∙ bare_bsy b.lines b.bare
          ∙ sym (ap (λ (m : ℕ). (drives (row ∷ p) m).sel) same ∙ ap (λ (l : LineSet). l.sel) (own_line p row b)
          ∙ bare_sel b.lines b.bare)
      | inr ne ↦ ap (λ (l : LineSet). l.bsy) (drives-other row p d ne) ∙ f d lt ne
          ∙ ap (λ (l : LineSet). l.sel) (sym (drives-other row p d ne))
    ]

-- Who is called after such a row was called before it, and has answered only if it had.
pub record Called (p : List Row) : Type 0 where
  pub was : Call
  pub calling : Calling
  pub was_is : call p ≡ Some was
  pub calling_is : was.calling ≡ Some calling
  pub unanswered : is_some calling.answered ≡ false

no_two : {A : Type 0} (q r : Bool) (a h : Calling) → r ≡ false → (if q && r then Some a else None) ≡ Some h → A
no_two q r a h e z =
    none_some h (sym (ap (λ (x : Bool). if x then Some a else None) ((λ i. q && e i) ∙ and_false q)) ∙ z)

called_before : (p : List Row) (row : Row) (x : Call) (h : Calling) → IsBare row → call (row ∷ p) ≡ Some x
    → x.calling ≡ Some h → is_some h.answered ≡ false → Called p
called_before p row x h b ek eh un = by_option w.was.calling (λ e. no_two (row.dev == w.was.caller)
    (drives_two_ids w.was.caller c.next) (new_calling w.was.caller c.next row.time) h
    (ap (drives_two_ids w.was.caller) next ∙ bare_ids w.was.caller b.lines b.bare)
    (sym (ap (λ (o : Option Calling). calling_after w.was.caller o c row) e) ∙ w.goes))
    (λ g e. let f = calling_follows w.was.caller g h c row
    (sym (ap (λ (o : Option Calling). calling_after w.was.caller o c row) e) ∙ w.goes) in record {
      was = w.was;
      calling = g;
      was_is = w.was_is;
      calling_is = e;
      unanswered = not_unless (is_some g.answered) (is_some h.answered) f.answered un;
    })
  where
    w : GoesOn p row x h
    w = call_goes p row x h ek eh

    c : Change
    c = change_of p row

    next : c.next ≡ b.lines
    next = ap (λ (r : Row). driven_after r.kind (drives p row.dev)) b.row_is

pub calls_go : (p : List Row) (row : Row) → IsBare row → LetsCallsGo p → LetsCallsGo (row ∷ p)
calls_go p row b u k h ek eh un =
    let w = called_before p row k h b ek eh un in
    elim (u w.was w.calling w.was_is w.calling_is w.unanswered) [
      | inl f ↦ inl (low_on p row b (λ d lt ne. f d lt))
      | inr f ↦ inr (even_on p row b (λ d lt ne. f d lt))
    ]

-- As RST rises.
no_called : {A : Type 0} (p : List Row) → call p ≡ None → Called p → A
no_called p e w = none_some w.was (sym e ∙ w.was_is)

called_is : (p : List Row) (c : Call) (w : Called p) → call p ≡ Some c → c.calling ≡ Some w.calling
called_is p c w e = ap (λ (x : Call). x.calling) (same_Some c w.was (sym e ∙ w.was_is)) ∙ w.calling_is

was_answered : {A : Type 0} (g h : Calling) → (let o : Option Calling = Some g in o) ≡ Some h
    → is_some g.answered ≡ true → is_some h.answered ≡ false → A
was_answered g h e f un = wrong (sym f ∙ ap (λ (x : Calling). is_some x.answered) (same_Some g h e) ∙ un)

pub calls_cut : (s : ScenarioValue) (p : List Row) (row : Row) → IsBare row → BusStage s p → (bus p).rst ≡ false
    → (connection p ≡ None) → LetsCallsGo (row ∷ p)
calls_cut s p row b st calm alone k h ek eh un = go st (called_before p row k h b ek eh un)
  where
    go : BusStage s p → Called p → IsLow (row ∷ p) ⊎ IsEven (row ∷ p)
    go (on_free_bus z) w = no_called p z.stands.call_is w
    go (in_arbitration a z) w = no_called p z.stands.call_is w
    go (after_arbitration c t z) w = none_some w.calling (called_is p _ w z.stands.call_is)
    go (with_both_ids m c j t0 t e z) w =
        inr (even_on p row b (λ d lt ne. elim (cases_eq d c) [
          | inl same ↦ (λ i. (drives p (same i)).bsy) ∙ ap (λ (l : LineSet). l.bsy) z.caller
              ∙ sym ((λ i. (drives p (same i)).sel) ∙ ap (λ (l : LineSet). l.sel) z.caller)
          | inr nc ↦
              let q = only_caller s p _ c j _ _ z d lt nc in
              ap (λ (l : LineSet). l.bsy) q ∙ sym (ap (λ (l : LineSet). l.sel) q)
        ]))
    go (awaiting_answer v m c j t0 t1 t2 x z) w =
        inl (low_on p row b (λ d lt ne. elim (cases_eq d c) [
          | inl same ↦ (λ i. (drives p (same i)).bsy) ∙ ap (λ (l : LineSet). l.bsy) z.here.caller
          | inr nc ↦ ap (λ (l : LineSet). l.bsy) (only_caller s p _ c j _ _ z.here d lt nc)
        ]))
    go (after_withdrawal v m c j t0 t1 t2 t3 e z) w =
        inl (low_on p row b (λ d lt ne. elim (cases_eq d c) [
          | inl same ↦ (λ i. (drives p (same i)).bsy) ∙ ap (λ (l : LineSet). l.bsy) z.caller
          | inr nc ↦ ap (λ (l : LineSet). l.bsy) (only_caller s p _ c j _ _ z d lt nc)
        ]))
    go (after_answer m c j t0 t1 t2 t3 x z) w =
        was_answered _ w.calling (called_is p _ w z.here.stands.call_is) refl w.unanswered
    go (after_takeover c j t0 t1 t2 t3 t4 x e f z) w =
        was_answered _ w.calling (called_is p _ w z.here.stands.call_is) refl w.unanswered
    go (in_reset z) w = wrong (sym z.reset ∙ calm)
    go (in_connection n f g z) w = absurd (some_none n (sym f ∙ alone))
      where
        some_none : (n : Connection) → Some n ≡ None → ⊥
        some_none n y = absurd cc

pub calls_none : (p : List Row) (row : Row) → IsBare row → call p ≡ None → LetsCallsGo (row ∷ p)
calls_none p row b e k h ek eh un = no_called p e (called_before p row k h b ek eh un)

-- So no IDs are put down.
below_even : (f : ℕ → LineSet) (m : ℕ) → ((d : ℕ) → d < m → (f d).bsy ≡ (f d).sel)
    → (union_below f m).bsy ≡ (union_below f m).sel
unfolding union_below
below_even f zero h = refl
below_even f (suc m) h = λ i. below_even f m (λ d lt. h d (omega (arith, lt))) i || h m (omega arith) i

fell : (a b c : Bool) → (falls a b && c) ≡ true → (a ≡ true) × (b ≡ false) × (c ≡ true)
fell true true c e = wrong' e
fell true false c e = (refl, refl, e)
fell false b c e = wrong' e

pub no_ids : (s : ScenarioValue) (p : List Row) (row : Row) (xs : List Sample) → IsBare row → LetsCallsGo p
    → (if falls (bus p).bsy (bus (row ∷ p)).bsy && (bus (row ∷ p)).sel
    then samples_with_ids s (call (row ∷ p)) row.time xs else xs) ≡ xs
no_ids s p row xs b u = go (falls (bus p).bsy (bus (row ∷ p)).bsy && (bus (row ∷ p)).sel) refl
  where
    never : (falls (bus p).bsy (bus (row ∷ p)).bsy && (bus (row ∷ p)).sel) ≡ true → Called p → ⊥
    never e w = by (u w.was w.calling w.was_is w.calling_is w.unanswered)
      where
        by : IsLow p ⊎ IsEven p → ⊥
        by (inl f) = wrong (sym (fell (bus p).bsy (bus (row ∷ p)).bsy (bus (row ∷ p)).sel e).0
            ∙ bus_off (λ x. x.bsy) (λ _ _. refl) refl p f)
        by (inr f) =
            let w = fell (bus p).bsy (bus (row ∷ p)).bsy (bus (row ∷ p)).sel e in
            wrong (sym w.2 ∙ sym (below_even (drives (row ∷ p)) 8 (even_on p row b (λ d lt ne. f d lt))) ∙ w.1)

    answered : (falls (bus p).bsy (bus (row ∷ p)).bsy && (bus (row ∷ p)).sel) ≡ true → (c : Call) (h : Calling)
        → call (row ∷ p) ≡ Some c → c.calling ≡ Some h → (q : Bool) → is_some h.answered ≡ q → is_some h.answered ≡ true
    answered e c h ek eh true un = un
    answered e c h ek eh false un = absurd (never e (called_before p row c h b ek eh un))

    go : (q : Bool) → (falls (bus p).bsy (bus (row ∷ p)).bsy && (bus (row ∷ p)).sel) ≡ q
        → (if q then samples_with_ids s (call (row ∷ p)) row.time xs else xs) ≡ xs
    go true e =
        ids_unsampled s (call (row ∷ p)) row.time xs (λ c h ek eh. answered e c h ek eh (is_some h.answered) refl)
    go false e = refl
