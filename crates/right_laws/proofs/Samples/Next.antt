-- Row by row of a prompt trace: the samples that the rows have taken, and what the faults of the scenario have struck
-- of them.
use Rattle.right_laws.proofs
use proofs.Names.{ℕ, ◌≡◌, inl, inr, ◌≤◌, ◌<◌, Bool, true, false, ◌∙◌, List, [], ◌∷◌, ◌++◌, append-nil, Option, Some}
use proofs.Names.{None, refl, sym, ap, arith, if◌then◌else◌, wrong, wrong', none_number, bus_on, same_set-eq, change_of}
use proofs.Names.{rises, falls, LineSet, none, union, call, connection, receiver, receiver_of, is_fault, bus, drives}
use proofs.Names.{driven_after, Fault, Row, Connection, only_rst, ScenarioValue, Sample, is_kept_by_reset, kept_samples}
use proofs.Names.{samples, samples_with_byte, samples_with_ids, Due, IsLeast, run_state, flip_of, drives_own, comes_by}
use proofs.Names.{due_calm, off_at, always_is, reset_due, unreset_due, row_of_lines, CalmStanding, sides_are, none_some}
use proofs.Names.{by_bool, by_option, made_is, quiet_sel, under_rst, carries_none, ends_apart, quiet_at_end, awaited}
use proofs.{Names.{awaited_by}, Samples.{Called.{fresh_none}, Calls.{with_awaited}, InTurn.{AreKept, kept_all}}}
use proofs.Samples.{InTurn.{kept_last}, Moments.{Moment, apart_of, awaits_here, directed_here, linked_of, none_here}}
use proofs.Samples.{Moments.{past_new, past_next, reset_of}, Puts.{Puts, apart_puts, linked_puts, puts_ids, unraised}}
use proofs.Samples.Resets.{CalmRow, resets, reacts, ResetRow, raises, lets_go, bare_row, calls_cut, calls_go}
use proofs.Samples.Resets.{calls_none, calm_row, IsBare, is_kept, IsKept, kept_is, LetsCallsGo, no_ids, under_reset}
use proofs.Samples.Taken.{IsPast, Stepped, Taken, all_kept, all_precede, before_none, before_some, puts_down, stays}
use proofs.Samples.{Taken.{takes}, Takes.{IsNoLater, Takes}}

-- The samples that have been taken, whichever they are.
abbrev pub SoFar : ScenarioValue → List Row → Type 0
SoFar s p = (done : List Sample) × Taken s p done

-- ---- a row that does not raise RST, while RST is false

goes_on : (s : ScenarioValue) (p : List Row) (row : Row) (done : List Sample) → Puts s p row → Stepped s (row ∷ p) done
    → samples s p ≡ done → Taken s (row ∷ p) done
goes_on s p row done w st e = puts_down s p row done st (w.puts ∙ ap (with_awaited (awaited s (row ∷ p))) e)
    (λ a z. all_precede s (row ∷ p) done a (λ b past. w.next a b z past) st.past) w.crossed
    (λ on. wrong (sym on ∙ w.calm))

calm_next : (s : ScenarioValue) (p : List Row) (row : Row) (done : List Sample) → Moment s p row → (bus p).rst ≡ false
    → CalmStanding s p → IsLeast (unreset_due s p) 8 row → Puts s p row → Taken s p done → SoFar s (row ∷ p)
calm_next s p row done m calm always least puts w = by_option (awaited s p) (λ e. (
  done,
  goes_on s p row done puts (stays s p row done w (λ b past. past_next s p row b m past)
      (none_here s p row m.here calm always e least)) (before_none s p done w e),
)) (λ a e. let x : Takes s p row a = (awaits_here s p a m.fits m.here m.ends w.crossed calm always e).takes row least in
    let new : IsPast s (row ∷ p) a = past_new s p row a m x.order (directed_here s p a w.crossed calm e) in (
      done ++ a ∷ [],
      goes_on s p row (done ++ a ∷ []) puts (takes s p row done a w e
          (λ b past. past_next s p row b m past) new x.struck x.plain) (before_some s p done a w e),
    ))

-- ---- a row that raises RST

raised_on : (p : List Row) (row : Row) → row.dev < 8 → row ≡ row_of_lines row.time row.dev only_rst
    → (bus (row ∷ p)).rst ≡ true
raised_on p row lt e =
    bus_on (λ y. y.rst) (λ _ _. refl) (row ∷ p) row.dev lt (ap (λ (w : Row). (drives (w ∷ p) row.dev).rst) e
    ∙ ap (λ (l : LineSet). l.rst) (drives_own p row.time row.dev only_rst))

raising_keeps : (s : ScenarioValue) (p : List Row) (row : Row) → (drives p row.dev).rst ≡ false
    → row ≡ row_of_lines row.time row.dev only_rst → samples s (row ∷ p) ≡ kept_samples row (samples s p)
raising_keeps s p row off e =
    let next : (driven_after row.kind (drives p row.dev)).rst ≡ true = ap
    (λ (r : Row). (driven_after r.kind (drives p row.dev)).rst) e in
    λ i. if rises (off i) (next i) then kept_samples row (samples s p)
    else if puts_ids p row then samples_with_ids s (call (row ∷ p)) row.time (samples s p)
    else samples_with_byte (receiver (row ∷ p)) row.time (samples s p)

-- Under RST nothing is awaited.
none_awaited : (s : ScenarioValue) (p : List Row) → (bus p).rst ≡ true → awaited s p ≡ None
none_awaited s p on = λ i. awaited_by s p (on i) (connection p)

under : (s : ScenarioValue) (p : List Row) (row : Row) (done : List Sample) → (bus (row ∷ p)).rst ≡ true
    → LetsCallsGo (row ∷ p) → Stepped s (row ∷ p) done → samples s (row ∷ p) ≡ done → Taken s (row ∷ p) done
under s p row done on calls st e =
    puts_down s p row done st (e ∙ ap (λ (o : Option Sample). with_awaited o done) (sym (none_awaited s (row ∷ p) on)))
    (λ a z. none_some a (sym (none_awaited s (row ∷ p) on) ∙ z)) (λ n d en c er. wrong (sym on ∙ c)) (λ up. calls)

of_row : (row : Row) (l : LineSet) → row ≡ row_of_lines row.time row.dev l → is_fault row.kind ≡ false
of_row row l e = ap (λ (r : Row). is_fault r.kind) e

raise_next : (s : ScenarioValue) (p : List Row) (row : Row) (done : List Sample)
    → Moment s p row → (drives p row.dev).rst ≡ false
    → reset_due s p row.dev ≡ (let x : Due = record { time = row.time; kind = row.kind } in Some x)
    → row ≡ row_of_lines row.time row.dev only_rst → LetsCallsGo (row ∷ p) → Taken s p done → SoFar s (row ∷ p)
raise_next s p row done m off r e calls w = by_option (awaited s p) (λ ea. (
  done,
  under s p row done on calls more
      (raising_keeps s p row off e ∙ ap (kept_samples row) (before_none s p done w ea) ∙ kept_all row done kept),
)) (λ a ea. by_rst a ea (bus p).rst refl)
  where
    on : (bus (row ∷ p)).rst ≡ true
    on = raised_on p row m.least.inside e

    lines : is_fault row.kind ≡ false
    lines = of_row row only_rst e

    kept : AreKept row done
    kept = all_kept s p row done (λ b past. kept_is row b
        (past.kept row.dev m.least.inside off (record { time = row.time; kind = row.kind }) r)) w.past

    more : Stepped s (row ∷ p) done
    more = stays s p row done w (λ b past. past_next s p row b m past) lines

    -- a fault that is to strike it would come first
    unstruck : (a : Sample) → awaited s p ≡ Some a → IsKept row.time row.dev a → (bus p).rst ≡ false
        → (bit : ℕ) → flip_of (run_state s p).faults a.time ≡ Some bit → ⊥
    unstruck a ea k calm bit f =
        let x = awaits_here s p a m.fits m.here m.ends w.crossed calm (always_is s p m.standing calm) ea in
        let z = comes_by (reset_due s p a.dev) (unreset_due s p a.dev)
        (record { time = a.time; kind = Fault bit }) (x.struck bit f) in
        let g = due_calm s p a.dev m.standing.devices x.below (off_at p calm a.dev x.below) ∙ z.is in
        let first = m.least.first a.dev x.below z.x g in
        late first z.le (λ t. m.least.highest a.dev x.below z.x g t) k
      where
        late : {t : ℕ} → row.time ≤ t → t ≤ a.time → (t ≡ row.time → a.dev ≤ row.dev) → IsKept row.time row.dev a → ⊥
        late h le hi (inl y) = absurd (omega (arith, h, le, y))
        late h le hi (inr y) =
            let u = y.0 in
            let v = y.1 in
            let d = hi (omega (arith, h, le, u)) in
            absurd (omega (arith, d, v))

    by_kept : (a : Sample) → awaited s p ≡ Some a → (bus p).rst ≡ false → (q : Bool) → is_kept_by_reset row a ≡ q
        → SoFar s (row ∷ p)
    by_kept a ea calm true k =
        let y = is_kept row a k in
        let new : IsPast s (row ∷ p) a = past_new s p row a m (no_later y) (directed_here s p a w.crossed calm ea) in (
          done ++ a ∷ [],
          under s p row (done ++ a ∷ []) on calls (takes s p row done a w ea
              (λ b past. past_next s p row b m past) new (λ bit f. absurd (unstruck a ea y calm bit f)) (λ f. lines))
              (raising_keeps s p row off e ∙ ap (kept_samples row) (before_some s p done a w ea)
              ∙ kept_last row a done kept ∙ ap (λ (q : Bool). done ++ (if q then a ∷ [] else [])) k),
        )
      where
        no_later : IsKept row.time row.dev a → IsNoLater a row
        no_later (inl h) = inl h
        no_later (inr h) = let d = h.1 in inr (h.0, omega (arith, d))
    by_kept a ea calm false k = (
      done,
      under s p row done on calls more
          (raising_keeps s p row off e ∙ ap (kept_samples row) (before_some s p done a w ea) ∙ kept_last row a done kept
          ∙ ap (λ (q : Bool). done ++ (if q then a ∷ [] else [])) k ∙ append-nil done),
    )

    by_rst : (a : Sample) → awaited s p ≡ Some a → (q : Bool) → (bus p).rst ≡ q → SoFar s (row ∷ p)
    by_rst a ea true up = none_some a (sym (none_awaited s p up) ∙ ea)
    by_rst a ea false calm = by_kept a ea calm (is_kept_by_reset row a) refl

-- ---- a row that releases all lines, under RST

release_next : (s : ScenarioValue) (p : List Row) (row : Row) (done : List Sample) → Moment s p row → (bus p).rst ≡ true
    → row ≡ row_of_lines row.time row.dev none → IsBare row → Taken s p done → SoFar s (row ∷ p)
release_next s p row done m on e b w = (done, go (bus (row ∷ p)).rst refl)
  where
    more : Stepped s (row ∷ p) done
    more = stays s p row done w (λ x past. past_next s p row x m past) (of_row row none e)

    lost : (bus (row ∷ p)).rst ≡ false → connection p ≡ None
    lost off = ends_apart s p row m.least.inside m.obeys (under_rst s p (reset_of s p m.here on) on) off

    silent : receiver (row ∷ p) ≡ None
    silent = by (bus (row ∷ p)).rst refl (connection p) refl
      where
        by : (q : Bool) → (bus (row ∷ p)).rst ≡ q → (o : Option Connection) → connection p ≡ o
            → receiver (row ∷ p) ≡ None
        by q f None en = ap (λ (o : Option Connection). receiver_of o (change_of p row)) en
        by true f (Some n) en = ap (λ (o : Option Connection). receiver_of o (change_of p row)) en
            ∙ carries_none p row n m.least.inside m.obeys f
        by false f (Some n) en = ap (λ (o : Option Connection). receiver_of o (change_of p row)) (lost f)

    same : samples s (row ∷ p) ≡ done
    same = unraised s p row (samples s p) (ap (λ (r : Row). (driven_after r.kind (drives p row.dev)).rst) e)
        ∙ ap (λ (o : Option ℕ). if puts_ids p row then samples_with_ids s (call (row ∷ p)) row.time (samples s p)
        else samples_with_byte o row.time (samples s p)) silent
        ∙ no_ids s p row (samples s p) b (w.calls on) ∙ before_none s p done w (none_awaited s p on)

    -- as RST falls neither SEL nor BSY is true, and no device is called
    idle : (bus (row ∷ p)).rst ≡ false → awaited s (row ∷ p) ≡ None
    idle off =
        by_option (connection (row ∷ p))
        (λ en. (λ i. awaited_by s (row ∷ p) (off i) (en i)) ∙ fresh_none s p row low)
        (λ n en. absurd (unfallen (bus p).sel (bus (row ∷ p)).sel low (made_is p row n (lost off) en).sel))
      where
        low : (bus p).sel ≡ false
        low = quiet_sel (bus p) (same_set-eq (union only_rst (bus p)) only_rst
            (quiet_at_end s p row m.least.inside m.obeys (under_rst s p (reset_of s p m.here on) on) off))

        unfallen : (a b : Bool) → a ≡ false → falls a b ≡ true → ⊥
        unfallen a c f z = wrong' (sym (ap (λ (q : Bool). falls q c) f) ∙ z)

    go : (q : Bool) → (bus (row ∷ p)).rst ≡ q → Taken s (row ∷ p) done
    go true up = under s p row done up (calls_go p row b (w.calls on)) more same
    go false off = puts_down s p row done more (same ∙ ap (λ (o : Option Sample). with_awaited o done) (sym (idle off)))
        (λ a z. none_some a (sym (idle off) ∙ z)) (λ n d en c er. absurd (none_number d (sym silent ∙ er)))
        (λ up. wrong (sym up ∙ off))

-- ---- any row

pub next_taken : (s : ScenarioValue) (p : List Row) (row : Row) → Moment s p row → SoFar s p → SoFar s (row ∷ p)
next_taken s p row m was =
    by_bool (bus p).rst
    (λ on. by_reset on (under_reset s p row m.standing.devices on m.least))
    (λ calm. by_calm calm (connection p) refl (calm_row s p row m.standing calm m.least))
  where
    by_calm : (bus p).rst ≡ false → (o : Option Connection) → connection p ≡ o → CalmRow s p row → SoFar s (row ∷ p)
    by_calm calm None en (resets off r e) = raise_next s p row was.0 m off r e
        (calls_cut s p row (bare_row s p row (raises off r e)) (apart_of s p m.here en) calm en) was.1
    by_calm calm (Some n) en (resets off r e) = raise_next s p row was.0 m off r e (calls_none p row
        (bare_row s p row (raises off r e)) (sides_are s p n (linked_of s p n m.here calm en)).1.stands.call_is) was.1
    by_calm calm None en (reacts always least) =
        calm_next s p row was.0 m calm always least (apart_puts s p row m calm en always least) was.1
    by_calm calm (Some n) en (reacts always least) = calm_next s p row was.0 m calm always least
        (linked_puts s p row n m (linked_of s p n m.here calm en) en always least) was.1

    by_reset : (bus p).rst ≡ true → ResetRow s p row → SoFar s (row ∷ p)
    by_reset on (raises off r e) =
        raise_next s p row was.0 m off r e (calls_go p row (bare_row s p row (raises off r e)) (was.1.calls on)) was.1
    by_reset on (lets_go e) = release_next s p row was.0 m on e (bare_row s p row (lets_go e)) was.1
