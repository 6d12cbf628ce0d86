-- RST in a connection: whoever makes a row under it, or raises it, drives no line but RST from then on; so the phase
-- stays as it was, or its lines are false once the target has released them (6.2.2).
use Rattle.trace_laws.proofs
use proofs.Names.{inl, inr, ℕ, ◌≡◌, ◌≢◌, ◌+◌, ◌⊎◌, Bool, true, false, ◌∙◌, List, ◌∷◌, Some, None, refl, sym, ap, subst}
use proofs.Names.{cases_eq, none-some, if◌then◌else◌, wrong, LineSet, none, same, same_set, bus, drives, line_times}
use proofs.Names.{Row, Connection, only_rst, ScenarioValue, bus_clear, due_at, earlier_due, Due, IsLeast, due, own_of}
use proofs.Names.{drives_own, drives_other, one_of, due_calm, due_holding, due_there, own_reset_is, is_at, due_in_reset}
use proofs.Names.{row_is, EndLines, Linked, own_time, device_with, reset_due, row_of_lines, HoldsReset, IsUnderRst}
use proofs.Names.{quiet, holds, lingers, UnderRst, Standing, LinkStage, when_selected, when_settling, when_turning}
use proofs.{Names.{when_offering, when_shaking, when_pulsing, HasNoPhase, OfTarget}, Resets.Holds.{one_drives}}

-- ---- a row under RST

abbrev pub IsReleasing : Row → Type 0
IsReleasing row = (row ≡ row_of_lines row.time row.dev none) ⊎ (row ≡ row_of_lines row.time row.dev only_rst)

pub releasing : (s : ScenarioValue) (p : List Row) (row : Row) → Standing s p → UnderRst s p → IsLeast (due s p) 8 row
    → IsReleasing row
releasing s p row st rs m = go (drives p row.dev).rst refl (rs.each row.dev m.inside)
  where
    x : Due
    x = record { time = row.time; kind = row.kind }

    holding : HoldsReset p row.dev → IsReleasing row
    holding h =
        let l = due_there s p row.dev x m.is_due in
        let z = is_at ((own_of p row.dev).rst + 25000 + l.latency) none x
        (sym (due_holding s p row.dev l.latency st.devices m.inside l.latency_is (ap (λ (y : LineSet). y.rst) h.drive))
        ∙ m.is_due) in
        inl (row_is row none z.kind_is)

    clear : (latency : ℕ)
        → bus_clear (device_with row.dev latency (drives p row.dev) (own_time p row.dev)) (line_times p).rst ≡ Some x
        → IsReleasing row
    clear latency e = by (same_set (drives p row.dev) none) e
      where
        by : (q : Bool) → (if q then None else due_at ((line_times p).rst + latency) none) ≡ Some x → IsReleasing row
        by true z = absurd (none-some x z)
        by false z = inl (row_is row none (is_at ((line_times p).rst + latency) none x z).kind_is)

    not_holding : (drives p row.dev).rst ≡ false → IsReleasing row
    not_holding off =
        let l = due_there s p row.dev x m.is_due in
        let is : due s p row.dev ≡ earlier_due (reset_due s p row.dev)
        (bus_clear (device_with row.dev l.latency (drives p row.dev) (own_time p row.dev)) (line_times p).rst) =
        due_calm s p row.dev st.devices m.inside off ∙ ap (earlier_due (reset_due s p row.dev))
        (due_in_reset s p row.dev l.latency (drives p row.dev) st.devices m.inside l.latency_is rs.reset refl) in
        elim (one_of (reset_due s p row.dev)
        (bus_clear (device_with row.dev l.latency (drives p row.dev) (own_time p row.dev)) (line_times p).rst) x
        (sym is ∙ m.is_due)) [
          | inl r ↦ inr (row_is row only_rst (own_reset_is s p row.dev x r).kind_is)
          | inr c ↦ clear l.latency c
        ]

    go : (q : Bool) → (drives p row.dev).rst ≡ q → IsUnderRst p row.dev → IsReleasing row
    go false off u = not_holding off
    go true on (quiet n) = wrong (sym on ∙ ap (λ (y : LineSet). y.rst) n)
    go true on (holds h) = holding h
    go true on (lingers off) = wrong (sym on ∙ off)

-- ---- the lines of a phase

no_phase : (l : LineSet) → (l ≡ none) ⊎ (l ≡ only_rst) → HasNoPhase l
no_phase l (inl e) =
    record { msg = ap (λ (x : LineSet). x.msg) e; cd = ap (λ (x : LineSet). x.cd) e; io = ap (λ (x : LineSet). x.io) e }
no_phase l (inr e) =
    record { msg = ap (λ (x : LineSet). x.msg) e; cd = ap (λ (x : LineSet). x.cd) e; io = ap (λ (x : LineSet). x.io) e }

of_ends : (p : List Row) (n : Connection) (e : EndLines) → Linked p n e → OfTarget p n
of_ends p n e h = record {
  below = h.target_below;
  others = λ d lt ne. elim (cases_eq d n.initiator) [
    | inl here ↦ ends d here
    | inr other ↦ no_phase (drives p d) (inl (h.rest d lt other ne))
  ];
}
  where
    ends : (d : ℕ) → d ≡ n.initiator → HasNoPhase (drives p d)
    ends d same =
        let is = ap (drives p) same ∙ h.initiator in
        record {
          msg = ap (λ (x : LineSet). x.msg) is;
          cd = ap (λ (x : LineSet). x.cd) is;
          io = ap (λ (x : LineSet). x.io) is;
        }

pub of_stage : (s : ScenarioValue) (p : List Row) (n : Connection) → LinkStage s p n → OfTarget p n
of_stage s p n (when_selected h) = of_ends p n _ h.linked
of_stage s p n (when_settling bsy atn msg cd io y h) = of_ends p n _ h.linked
of_stage s p n (when_turning atn x msg cd h) = of_ends p n _ h.linked
of_stage s p n (when_offering atn msg cd y h) = of_ends p n _ h.linked
of_stage s p n (when_shaking msg cd io req ack atn x y h) = of_ends p n _ h.linked
of_stage s p n (when_pulsing io req ack atn x y h a) = of_ends p n _ h.linked

pub record PhaseIs (b l : LineSet) : Type 0 where
  pub msg : b.msg ≡ l.msg
  pub cd : b.cd ≡ l.cd
  pub io : b.io ≡ l.io

pub phase_is : (p : List Row) (n : Connection) → OfTarget p n → PhaseIs (bus p) (drives p n.target)
phase_is p n h = record {
  msg = one_drives (λ x. x.msg) (λ _ _. refl) refl p n.target h.below (λ d lt ne. (h.others d lt ne).msg);
  cd = one_drives (λ x. x.cd) (λ _ _. refl) refl p n.target h.below (λ d lt ne. (h.others d lt ne).cd);
  io = one_drives (λ x. x.io) (λ _ _. refl) refl p n.target h.below (λ d lt ne. (h.others d lt ne).io);
}

-- ---- what such a row makes of them

driven_own : (p : List Row) (row : Row) → IsReleasing row
    → (drives (row ∷ p) row.dev ≡ none) ⊎ (drives (row ∷ p) row.dev ≡ only_rst)
driven_own p row (inl e) = inl (ap (λ (w : Row). drives (w ∷ p) row.dev) e ∙ drives_own p row.time row.dev none)
driven_own p row (inr e) = inr (ap (λ (w : Row). drives (w ∷ p) row.dev) e ∙ drives_own p row.time row.dev only_rst)

driven_other : (p : List Row) (row : Row) (d : ℕ) → IsReleasing row → d ≢ row.dev → drives (row ∷ p) d ≡ drives p d
driven_other p row d (inl e) ne = ap (λ (w : Row). drives (w ∷ p) d) e ∙ drives_other p row.time row.dev none d ne
driven_other p row d (inr e) ne = ap (λ (w : Row). drives (w ∷ p) d) e ∙ drives_other p row.time row.dev only_rst d ne

pub of_target_next : (p : List Row) (row : Row) (n : Connection) → IsReleasing row → OfTarget p n → OfTarget (row ∷ p) n
of_target_next p row n r h = record {
  below = h.below;
  others = λ d lt ne. elim (cases_eq d row.dev) [
    | inl same ↦ subst (λ (x : ℕ). HasNoPhase (drives (row ∷ p) x)) (sym same)
        (no_phase (drives (row ∷ p) row.dev) (driven_own p row r))
    | inr other ↦ subst (λ (l : LineSet). HasNoPhase l) (sym (driven_other p row d r other)) (h.others d lt ne)
  ];
}

-- I/O stays true only where the phase stays.
pub data_kept : (p : List Row) (row : Row) (n : Connection) → IsReleasing row → OfTarget p n → (bus (row ∷ p)).io ≡ true
    → PhaseIs (bus (row ∷ p)) (bus p)
data_kept p row n r h io = elim (cases_eq n.target row.dev) [
  | inl same ↦ gone same
  | inr other ↦ stays other
]
  where
    now : PhaseIs (bus (row ∷ p)) (drives (row ∷ p) n.target)
    now = phase_is (row ∷ p) n (of_target_next p row n r h)

    was : PhaseIs (bus p) (drives p n.target)
    was = phase_is p n h

    gone : n.target ≡ row.dev → PhaseIs (bus (row ∷ p)) (bus p)
    gone same = wrong (sym io ∙ now.io ∙ ap (λ (x : ℕ). (drives (row ∷ p) x).io) same
        ∙ (no_phase (drives (row ∷ p) row.dev) (driven_own p row r)).io)

    stays : n.target ≢ row.dev → PhaseIs (bus (row ∷ p)) (bus p)
    stays other =
        let e = driven_other p row n.target r other in
        record {
          msg = now.msg ∙ ap (λ (l : LineSet). l.msg) e ∙ sym was.msg;
          cd = now.cd ∙ ap (λ (l : LineSet). l.cd) e ∙ sym was.cd;
          io = now.io ∙ ap (λ (l : LineSet). l.io) e ∙ sym was.io;
        }
