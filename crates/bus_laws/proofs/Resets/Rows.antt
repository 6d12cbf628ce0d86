-- A row under RST, and one that raises it.
use Rattle.bus_laws.proofs
use proofs.Names.{inl, inr, ℕ, ◌≡◌, ◌<◌, ◌≤◌, Bool, true, false, ◌∙◌, List, [], ◌∷◌, Option, Some, None, refl, sym, ap}
use proofs.Names.{arith, cases_eq, if◌then◌else◌, Event, bus_on, drives-other, drives-fault, change_of, rises, falls}
use proofs.Names.{LineSet, when, connection, connection_after, drives, bus, Kind, Drives, Fault, Row, Change}
use proofs.Names.{Connection, ScenarioValue, free_link, ends_link, row_reading, link_events, latency_of, by_reset}
use proofs.Names.{story_after_events, story_on_bus, rst_assertion, Due, run_state_plain, reset_from, IsLeast, due, Own}
use proofs.Names.{own_of, AreOfDevices, run_state, unreset_due, reset_due, reset_due_if, row_of_lines, row_of_fault}
use proofs.{Lines.{Apart.{change_plain}, Rows.{drives_own}}, Resets.Dues.{comes_by_first, due_calm, own_reset_is}}
use proofs.Resets.Dues.{reset_after, own_other, released_own, own_fault}

-- ---- RST on the bus and at the devices

pub off_at : (p : List Row) → (bus p).rst ≡ false → (d : ℕ) → d < 8 → (drives p d).rst ≡ false
off_at p e d lt = go (drives p d).rst refl
  where
    go : (q : Bool) → (drives p d).rst ≡ q → (drives p d).rst ≡ false
    go true h = let w = sym (bus_on (λ y. y.rst) (λ _ _. refl) p d lt h) ∙ e in absurd cc
    go false h = h

-- ---- the link

-- after a row after which RST is true
pub link_in_reset : (s : ScenarioValue) (p : List Row) (row : Row) (g : Change) → AreOfDevices p → row.dev < 8
    → change_of p row ≡ g → g.after.rst ≡ true → (run_state s (row ∷ p)).story.link ≡ None
link_in_reset s p row g h lt e rst =
    let k = run_state s p in
    let d = row_reading k.story.bus_state row in
    let c = change_plain s row p h lt ∙ e in
    let r : d.change.after.rst ≡ true = ap (λ (x : Change). x.after.rst) c ∙ rst in
    ap (λ (q : Bool). (story_after_events s
    (if q then record k.story { link = None } else story_on_bus s k.story k.story.bus_state.connection d.next d row)
    (if q then (if rises d.change.own.rst d.change.next.rst then Event.Reset row.dev ∷ [] else [])
    else link_events s k.story k.story.link d)).link) r ∙ go (rises d.change.own.rst d.change.next.rst)
  where
    go : (q : Bool) → (story_after_events s (record (run_state s p).story { link = None })
        (if q then Event.Reset row.dev ∷ [] else [])).link ≡ None
    go true = ends_link (λ c. true) (λ c. true) by_reset 1 s.commands (record (run_state s p).story { link = None })
    go false = refl

-- and after a row after which neither RST is true nor a connection stands
pub link_apart : (s : ScenarioValue) (p : List Row) (row : Row) (g : Change) → AreOfDevices p → row.dev < 8
    → change_of p row ≡ g → g.after.rst ≡ false → connection (row ∷ p) ≡ None → (run_state s p).story.link ≡ None
    → (run_state s (row ∷ p)).story.link ≡ None
link_apart s p row g h lt e rst alone link =
    let k = run_state s p in
    let d = row_reading k.story.bus_state row in
    let c = change_plain s row p h lt ∙ e in
    let pl = run_state_plain s p h in
    let r : d.change.after.rst ≡ false = ap (λ (x : Change). x.after.rst) c ∙ rst in
    let next : d.next ≡ None = (λ i. connection_after (pl.connection i) (pl.call i) ((change_plain s row p h lt) i) row)
    ∙ alone in
    ap (λ (q : Bool). (story_after_events s
    (if q then record k.story { link = None } else story_on_bus s k.story k.story.bus_state.connection d.next d row)
    (if q then (if rises d.change.own.rst d.change.next.rst then Event.Reset row.dev ∷ [] else [])
    else link_events s k.story k.story.link d)).link) r
    ∙ (λ i. (story_after_events s (story_on_bus s k.story k.story.bus_state.connection (next i) d row)
    (link_events s k.story (link i) d)).link) ∙ go k.story.bus_state.connection
  where
    go : (o : Option Connection)
        → (story_on_bus s (run_state s p).story o None (row_reading (run_state s p).story.bus_state row) row).link
        ≡ None
    go None = free_link s (run_state s p).story (row_reading (run_state s p).story.bus_state row) row ∙ link
    go (Some m) = refl

-- ---- the resets that are still to come lie ahead

pub resets_of_own : (s : ScenarioValue) (p q : List Row) (d : ℕ) → (own_of q d).released ≡ (own_of p d).released
    → reset_due s q d ≡ reset_due s p d
resets_of_own s p q d e = go (latency_of s d)
  where
    go : (o : Option ℕ) → reset_due_if s q d o ≡ reset_due_if s p d o
    go None = refl
    go (Some lat) = ap (λ (x : Option ℕ). rst_assertion (reset_from d x s.resets)) e

-- A reset that is due of a device that does not drive RST comes no sooner than the next row.
reset_no_sooner : (s : ScenarioValue) (p : List Row) (row : Row) (d : ℕ) (x : Due) → AreOfDevices p → d < 8
    → IsLeast (due s p) 8 row → (drives p d).rst ≡ false → reset_due s p d ≡ Some x → row.time ≤ x.time
reset_no_sooner s p row d x h lt m off r =
    let z = comes_by_first (reset_due s p d) (unreset_due s p d) x r in
    let w = m.first d lt z.x (due_calm s p d h lt off ∙ z.is) in
    let l = z.le in
    omega arith

pub resets_ahead : (s : ScenarioValue) (p : List Row) (row : Row) → AreOfDevices p → IsLeast (due s p) 8 row → (d : ℕ)
    → d < 8 → (drives (row ∷ p) d).rst ≡ false → (x : Due) → reset_due s (row ∷ p) d ≡ Some x → row.time ≤ x.time
resets_ahead s p row h m d lt off x r =
    elim (cases_eq d row.dev) [
      | inl same ↦ by_kind row.kind refl same
      | inr ne ↦ reset_no_sooner s p row d x h lt m (sym (ap (λ (l : LineSet). l.rst) (drives-other row p d ne)) ∙ off)
          (sym (resets_of_own s p (row ∷ p) d (ap (λ (o : Own). o.released) (own_other p row d ne))) ∙ r)
    ]
  where
    by_kind : (v : Kind) → row.kind ≡ v → d ≡ row.dev → row.time ≤ x.time
    by_kind (Fault bit) e same =
        let f : row ≡ row_of_fault row.time row.dev bit = λ i. record { time = row.time; dev = row.dev; kind = e i } in
        let o : own_of (row ∷ p) d ≡ own_of p d = ap (λ (w : Row). own_of (w ∷ p) d) f
        ∙ own_fault p row.time row.dev bit d in
        reset_no_sooner s p row d x h lt m (sym (ap (λ (l : LineSet). l.rst) (drives-fault row p bit d e)) ∙ off)
        (sym (resets_of_own s p (row ∷ p) d (ap (λ (y : Own). y.released) o)) ∙ r)
    by_kind (Drives l) e same =
        let f : row ≡ row_of_lines row.time row.dev l = λ i. record { time = row.time; dev = row.dev; kind = e i } in
        let g : l.rst ≡ false = ap (λ (y : LineSet). y.rst) (sym (drives_own p row.time row.dev l))
        ∙ (λ i. (drives (sym f i ∷ p) (sym same i)).rst) ∙ off in
        let rel : (own_of (row ∷ p) d).released
        ≡ when (falls (drives p row.dev).rst l.rst) row.time (own_of p row.dev).released =
        (λ i. (own_of (f i ∷ p) (same i)).released) ∙ released_own p row.time row.dev l in
        go (drives p row.dev).rst refl l g rel
      where
        go : (q : Bool) → (drives p row.dev).rst ≡ q → (l : LineSet) → l.rst ≡ false → (own_of (row ∷ p) d).released
            ≡ when (falls (drives p row.dev).rst l.rst) row.time (own_of p row.dev).released
            → row.time ≤ x.time
        go true a l g rel =
            let z : (own_of (row ∷ p) d).released ≡ Some row.time = rel
            ∙ (λ i. when (falls (a i) (g i)) row.time (own_of p row.dev).released) in
            let w = own_reset_is s (row ∷ p) d x r in
            let u = reset_after d row.time s.resets x.time
            (ap (λ (y : Option ℕ). reset_from d y s.resets) (sym z) ∙ w.time_is) in
            omega arith
        go false a l g rel =
            let z : (own_of (row ∷ p) d).released ≡ (own_of p d).released = rel
            ∙ (λ i. when (falls (a i) (g i)) row.time (own_of p row.dev).released)
            ∙ ap (λ (y : ℕ). (own_of p y).released) (sym same) in
            reset_no_sooner s p row d x h lt m (ap (λ (y : ℕ). (drives p y).rst) same ∙ a)
            (sym (resets_of_own s p (row ∷ p) d z) ∙ r)
