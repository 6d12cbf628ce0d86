-- Each contender of an arbitration has whom to call, and so has its winner (6.1.2 to 6.1.4).
use Rattle.progress_laws.proofs
use proofs.Names.{inl, inr, ℕ, ◌≡◌, ◌<◌, Bool, true, false, not, ◌&&◌, ◌||◌, ◌∙◌, List, [], ◌∷◌, Option, Some, None}
use proofs.Names.{refl, sym, ap, subst, cases_eq, same_Some, none-some, if◌then◌else◌, ◌==◌, wrong, wrong', and_false}
use proofs.Names.{implied, bus_on, drives-other, drives-own, same_set-eq, change_of, falls, is_within, rises, LineSet}
use proofs.Names.{none, union, arbitration, arbitration_after, call, call_goes_on, calling_after, called_goes_on}
use proofs.Names.{caller_goes_on, connection, connection_after, free_since, is_free, bus, drives, driven_after, Drives}
use proofs.Names.{Row, Arbitration, Change, Connection, Call, Calling, stage, InArbitration, OnFreeBus, only_rst}
use proofs.Names.{broken_rule, ScenarioValue, contender_lines, free_due, Due, IsLeast, due, IsPrompt, run_state}
use proofs.Names.{want_time, FitsBus, still_keeps, drives_own, stage_is, free_due_is, idle_due, is_entry, is_entry_in}
use proofs.Names.{is_there, win_due, least_is, by_calm, reset_or_calm, not_linked, won_call, device_with, own_time}
use proofs.Names.{unreset_due, row_of_lines, Arbitrating, ArbitrationWon, BusStage, CalmStanding, FreeBus, IsContender}
use proofs.Names.{is_connected, UnderRst, on_free_bus, in_arbitration, after_arbitration, with_both_ids}
use proofs.Names.{awaiting_answer, after_withdrawal, after_answer, after_takeover, in_reset, in_connection, AnyStage}
use proofs.Names.{apart, linked, under_rst, Stood, link_connection, line_off, quiet_at_end, reset_rule, drives_next}
use proofs.Callees.First.{IsApart, WantsAreItems, enters_bound, enters_by, entry_wanted, others_bound, row_apart}
use proofs.{Callees.First.{still_bound}, Quiet.Apart.{IsBound}}
use Rattle.trace_laws.specs.bus_laws.proofs.Stages.Next.{by_reset}

pub record AreBound (s : ScenarioValue) (p : List Row) : Type 0 where
  pub contenders : (a : Arbitration) → Arbitrating s p a → (d : ℕ) → d < 8 → IsContender s p a d → IsBound s p d
  pub caller : (c t : ℕ) → ArbitrationWon s p c t → IsBound s p c

-- ---- small facts

none_calling : (g : Calling) → Some g ≡ (let o : Option Calling = None in o) → ⊥
none_calling g e = absurd cc

some_connection : (n : Connection) → Some n ≡ (let o : Option Connection = None in o) → ⊥
some_connection n e = absurd cc

-- ---- RST falls: no device drives BSY

silent : (s : ScenarioValue) (p : List Row) (row : Row) → row.dev < 8 → broken_rule p row ≡ None → UnderRst s p
    → (bus (row ∷ p)).rst ≡ false → (d : ℕ) → d < 8 → (drives (row ∷ p) d).bsy ≡ false
silent s p row lt obeys u off d ld =
    elim (cases_eq d row.dev) [
      | inl same ↦ ap (λ (m : ℕ). (drives (row ∷ p) m).bsy) same ∙ ap (λ (l : LineSet). l.bsy) (drives_next p row) ∙ its
      | inr ne ↦ ap (λ (l : LineSet). l.bsy) (drives-other row p d ne) ∙ was d ld
    ]
  where
    was : (e : ℕ) → e < 8 → (drives p e).bsy ≡ false
    was e le = line_off (λ x. x.bsy) (λ _ _. refl) p (ap (λ (l : LineSet). l.bsy)
        (same_set-eq (union only_rst (bus p)) only_rst (quiet_at_end s p row lt obeys u off))) e le

    next : LineSet
    next = driven_after row.kind (drives p row.dev)

    within : is_within next (union only_rst (drives p row.dev)) ≡ true
    within = implied ((bus p).rst || rises (drives p row.dev).rst next.rst) _ (reset_rule p row obeys).alone
        (λ i. u.reset i || rises (drives p row.dev).rst next.rst)

    its : next.bsy ≡ false
    its = (λ i. sym (was row.dev lt) i || next.bsy) ∙ ap (λ (l : LineSet). l.bsy)
        (same_set-eq (union (union only_rst (drives p row.dev)) next) (union only_rst (drives p row.dev)) within)
        ∙ was row.dev lt

-- ---- what an arbitration and a won one show

busy_before : (p : List Row) (row : Row) (a : Arbitration) → arbitration p ≡ None → is_free (bus p) ≡ false
    → arbitration (row ∷ p) ≡ Some a → ⊥
busy_before p row a none_now busy e =
    none-some a (sym ((λ i. arbitration_after (none_now i) (free_since p) (change_of p row) row)
    ∙ ap (λ (q : Bool). if q && (bus (row ∷ p)).bsy && not (bus (row ∷ p)).sel then Some (record {
      free = free_since p;
      first = row.time;
    }) else None) busy) ∙ e)

-- A connection lasts as long as BSY is true.
lasts : (p : List Row) (row : Row) (n : Connection) → connection p ≡ Some n → connection (row ∷ p) ≡ None
    → (bus (row ∷ p)).bsy ≡ true → ⊥
lasts p row n stands ends on = some_connection n (sym ((λ i. connection_after (stands i) (call p) (change_of p row) row)
    ∙ ap (λ (q : Bool). if q then Some n else None) on) ∙ ends)

-- While SEL stays true the call goes on.
call_on : (p : List Row) (row : Row) → (bus p).sel ≡ true → (bus (row ∷ p)).sel ≡ true
    → call (row ∷ p) ≡ call_goes_on (call p) (change_of p row) row
call_on p row before after = λ i. if not (after i) then None
    else if rises (before i) (after i) then Some (record { caller = row.dev; at = row.time; calling = None })
    else call_goes_on (call p) (change_of p row) row

calling_stays : (caller : ℕ) (g : Calling) (c : Change) (row : Row) → calling_after caller (Some g) c row ≡ None → ⊥
calling_stays caller g c row e = go (row.dev == caller) (row.dev == g.called) e
  where
    go : (q r : Bool)
        → (if q then Some (caller_goes_on g c row.time) else if r then Some (called_goes_on g c row) else Some g) ≡ None
        → ⊥
    go true r z = none_calling _ z
    go false true z = none_calling _ z
    go false false z = none_calling _ z

called_before : (p : List Row) (row : Row) (h : Call) (g : Calling) (c t : ℕ) → (bus p).sel ≡ true → call p ≡ Some h
    → h.calling ≡ Some g → (bus (row ∷ p)).sel ≡ true → call (row ∷ p) ≡ Some (won_call c t) → ⊥
called_before p row h g c t before now some after won =
    let same = same_Some (record h { calling = calling_after h.caller h.calling (change_of p row) row }) (won_call c t)
    (sym (call_on p row before after ∙ ap (λ (o : Option Call). call_goes_on o (change_of p row) row) now) ∙ won) in
    calling_stays h.caller g (change_of p row) row
    (ap (λ (o : Option Calling). calling_after h.caller o (change_of p row) row) (sym some)
    ∙ ap (λ (x : Call). x.calling) same)

-- The device of the row raised a line that was false.
raised_by : (on : LineSet → Bool) → ((a b : LineSet) → on (union a b) ≡ (on a || on b))
    → (p : List Row) (row : Row) (c : ℕ) → c < 8 → on (bus p) ≡ false → on (drives (row ∷ p) c) ≡ true → c ≡ row.dev
raised_by on both p row c lt off up =
    elim (cases_eq c row.dev) [
      | inl same ↦ same
      | inr ne ↦ wrong (sym up ∙ ap on (drives-other row p c ne) ∙ line_off on both p off c lt)
    ]

-- ---- an entry

pub record Enters (s : ScenarioValue) (p : List Row) (row : Row) : Type 0 where
  pub apart : IsApart s p row
  pub enters : enters_by p row ≡ true
  pub kind_is : row.kind ≡ Drives (contender_lines row.dev)
  pub bound : IsBound s (row ∷ p) row.dev

enters_of : (s : ScenarioValue) (p : List Row) (row : Row) (lat free : ℕ) → FitsBus s
    → WantsAreItems → IsApart s p row → drives p row.dev ≡ none → (bus p).sel ≡ false
    → free_due (device_with row.dev lat none (own_time p row.dev)) free (want_time s (run_state s p) row.dev)
    ≡ Some (record { time = row.time; kind = row.kind })
    → Enters s p row
enters_of s p row lat free fits wants a off sel z =
    let x : Due = record { time = row.time; kind = row.kind } in
    let kind =
    (is_entry row.dev lat (own_time p row.dev) free none (want_time s (run_state s p) row.dev) x z).kind_is in
    let ent : enters_by p row ≡ true = λ i. rises (off i).bsy (driven_after (kind i) (drives p row.dev)).bsy
    && not (sel i) in
    let w = entry_wanted row.dev lat (own_time p row.dev) free none (want_time s (run_state s p) row.dev) x z in
    record {
      apart = a;
      enters = ent;
      kind_is = kind;
      bound = enters_bound s p row w.since fits wants a ent w.is w.by_then;
    }

free_enters : (s : ScenarioValue) (p : List Row) (row : Row) → FitsBus s → WantsAreItems → CalmStanding s p
    → FreeBus s p → IsApart s p row → IsLeast (unreset_due s p) 8 row → Enters s p row
free_enters s p row fits wants always h a least =
    let th = is_there s p row.dev _ least.is_due in
    let here : stage p ≡ OnFreeBus (free_since p) = stage_is p _ _ _ _ h.stands in
    let off = h.quiet row.dev least.inside in
    enters_of s p row th.0 (free_since p) fits wants a off (ap (λ (l : LineSet). l.sel) h.stands.bus_is)
    (sym (free_due_is s p row.dev th.0 (free_since p) always.devices least.inside th.1 h.stands.connection_is here off)
    ∙ least.is_due)

later_enters : (s : ScenarioValue) (p : List Row) (row : Row) (b : Arbitration) → FitsBus s → WantsAreItems
    → CalmStanding s p → Arbitrating s p b → IsApart s p row → IsLeast (unreset_due s p) 8 row → drives p row.dev ≡ none
    → Enters s p row
later_enters s p row b fits wants always h a least off =
    let th = is_there s p row.dev _ least.is_due in
    let here : stage p ≡ InArbitration b = stage_is p _ _ _ _ h.stands in
    let z = is_entry_in row.dev th.0 (own_time p row.dev) none b (want_time s (run_state s p) row.dev) _
    (sym (idle_due s p row.dev th.0 b always.devices least.inside th.1 h.stands.connection_is here off)
    ∙ least.is_due) in
    enters_of s p row th.0 b.free fits wants a off (ap (λ (l : LineSet). l.sel) h.stands.bus_is) z.0

-- The row of a contender raises SEL.
win_kind : (s : ScenarioValue) (p : List Row) (row : Row) (b : Arbitration) → CalmStanding s p
    → Arbitrating s p b → IsLeast (unreset_due s p) 8 row → IsContender s p b row.dev
    → row.kind ≡ Drives (record (contender_lines row.dev) { sel = true })
win_kind s p row b always h least e =
    let here : stage p ≡ InArbitration b = stage_is p _ _ _ _ h.stands in
    (win_due s p row.dev e.lat b (record { time = row.time; kind = row.kind }) always.devices least.inside e.there
    h.stands.connection_is here e.drive least.is_due).kind_is

-- ---- the contenders after a row

after_is : (s : ScenarioValue) (p : List Row) (row : Row) (a : Arbitration) → Arbitrating s (row ∷ p) a
    → (bus (row ∷ p)).rst ≡ false
after_is s p row a h = ap (λ (l : LineSet). l.rst) h.stands.bus_is

contender_next : (s : ScenarioValue) (p : List Row) (row : Row) (a : Arbitration) (d : ℕ) → FitsBus s → WantsAreItems
    → CalmStanding s p → IsLeast (unreset_due s p) 8 row → (bus p).rst ≡ false → connection p ≡ None → AreBound s p
    → Arbitrating s (row ∷ p) a → d < 8 → IsContender s (row ∷ p) a d → BusStage s p → IsBound s (row ∷ p) d
contender_next s p row a d fits wants always least calm alone was after lt z (on_free_bus h) =
    let e = free_enters s p row fits wants always h (row_apart s p row always.devices
    least.inside h.link alone after.stands.connection_is (after_is s p row a after)) least in
    elim (cases_eq d row.dev) [
      | inl same ↦ subst (λ (c : ℕ). IsBound s (row ∷ p) c) (sym same) e.bound
      | inr ne ↦ wrong' (ap (λ (l : LineSet). l.bsy) (sym (drives-other row p d ne ∙ h.quiet d lt) ∙ z.drive))
    ]
contender_next s p row a d fits wants always least calm alone was after lt z (in_arbitration b h) =
    let q = row_apart s p row always.devices least.inside h.link alone after.stands.connection_is
    (after_is s p row a after) in
    elim (h.each row.dev least.inside) [
      | inl off ↦
          let e = later_enters s p row b fits wants always h q least off in
          elim (cases_eq d row.dev) [
            | inl same ↦ subst (λ (c : ℕ). IsBound s (row ∷ p) c) (sym same) e.bound
            | inr ne ↦ elim (h.each d lt) [
              | inl none_of ↦ wrong' (ap (λ (l : LineSet). l.bsy) (sym (drives-other row p d ne ∙ none_of) ∙ z.drive))
              | inr c ↦ others_bound s p row d e.apart e.enters ne (was.contenders b h d lt c)
            ]
          ]
      | inr c ↦
          let up : (drives (row ∷ p) row.dev).sel ≡ true = ap (λ (l : LineSet). l.sel)
          (drives-own row p _ (win_kind s p row b always h least c)) in
          wrong (sym (bus_on (λ x. x.sel) (λ _ _. refl) (row ∷ p) row.dev least.inside up)
          ∙ ap (λ (l : LineSet). l.sel) after.stands.bus_is)
    ]
contender_next s p row a d fits wants always least calm alone was after lt z (after_arbitration c t h) =
    absurd (busy_before p row a h.stands.arbitration_is (ap is_free h.stands.bus_is) after.stands.arbitration_is)
contender_next s p row a d fits wants always least calm alone was after lt z (with_both_ids m c j t0 t e h) =
    absurd (busy_before p row a h.stands.arbitration_is (ap is_free h.stands.bus_is) after.stands.arbitration_is)
contender_next s p row a d fits wants always least calm alone was after lt z (awaiting_answer v m c j t0 t1 t2 x g) =
    absurd
    (busy_before p row a g.here.stands.arbitration_is (ap is_free g.here.stands.bus_is) after.stands.arbitration_is)
contender_next s p row a d fits wants always least calm alone was after lt z
    (after_withdrawal v m c j t0 t1 t2 t3 e h) =
    absurd (busy_before p row a h.stands.arbitration_is (ap is_free h.stands.bus_is) after.stands.arbitration_is)
contender_next s p row a d fits wants always least calm alone was after lt z (after_answer m c j t0 t1 t2 t3 x g) =
    absurd
    (busy_before p row a g.here.stands.arbitration_is (ap is_free g.here.stands.bus_is) after.stands.arbitration_is)
contender_next s p row a d fits wants always least calm alone was after lt z
    (after_takeover c j t0 t1 t2 t3 t4 x e f g) = absurd
    (busy_before p row a g.here.stands.arbitration_is (ap is_free g.here.stands.bus_is) after.stands.arbitration_is)
contender_next s p row a d fits wants always least calm alone was after lt z (in_reset h) = wrong (sym h.reset ∙ calm)
contender_next s p row a d fits wants always least calm alone was after lt z (in_connection n e f h) =
    absurd (some_connection n (sym e ∙ alone))

-- ---- the winner after a row

no_entry : (p : List Row) (row : Row) (l : LineSet) → drives p row.dev ≡ l → l.bsy ≡ true
    → (rises (drives p row.dev).bsy (change_of p row).next.bsy && not (bus p).sel) ≡ false
no_entry p row l e on =
    λ i. rises ((ap (λ (x : LineSet). x.bsy) e ∙ on) i) (change_of p row).next.bsy && not (bus p).sel

caller_next : (s : ScenarioValue) (p : List Row) (row : Row) (c t : ℕ) → FitsBus s → WantsAreItems
    → CalmStanding s p → IsLeast (unreset_due s p) 8 row → (bus p).rst ≡ false → connection p ≡ None → AreBound s p
    → ArbitrationWon s (row ∷ p) c t → BusStage s p → IsBound s (row ∷ p) c
caller_next s p row c t fits wants always least calm alone was after stage_of = go stage_of
  where
    q : List Row
    q = row ∷ p

    off : (bus q).rst ≡ false
    off = ap (λ (l : LineSet). l.rst) after.stands.bus_is

    sel : (bus q).sel ≡ true
    sel = ap (λ (l : LineSet). l.sel) after.stands.bus_is

    up : (drives q c).sel ≡ true
    up = ap (λ (l : LineSet). l.sel) after.caller

    mine : (bus p).sel ≡ false → c ≡ row.dev
    mine before = raised_by (λ x. x.sel) (λ _ _. refl) p row c after.caller_below before up

    entered : (bus p).sel ≡ false → Enters s p row → IsBound s q c
    entered before e = wrong' (ap (λ (l : LineSet). l.sel) (sym (drives-own row p _ e.kind_is))
        ∙ ap (λ (w : ℕ). (drives q w).sel) (sym (mine before)) ∙ up)

    apart_row : (run_state s p).story.link ≡ None → IsApart s p row
    apart_row link = row_apart s p row always.devices least.inside link alone after.stands.connection_is off

    called : (y : Call) (g : Calling) → (bus p).sel ≡ true → call p ≡ Some y → y.calling ≡ Some g → IsBound s q c
    called y g before now some = absurd (called_before p row y g c t before now some sel after.stands.call_is)

    won : (c0 t0 : ℕ) → ArbitrationWon s p c0 t0 → IsBound s q c
    won c0 t0 h =
        let before : (bus p).sel ≡ true = ap (λ (l : LineSet). l.sel) h.stands.bus_is in
        let k = still_keeps s p row _ _ _ _ (apart_row h.link)
        ((λ i. rises (drives p row.dev).bsy (change_of p row).next.bsy && not (before i))
        ∙ and_false (rises (drives p row.dev).bsy (change_of p row).next.bsy)) (λ i. falls (before i) (sel i)) in
        let same = same_Some _ (won_call c t) (sym
        (call_on p row before sel ∙ ap (λ (o : Option Call). call_goes_on o (change_of p row) row) h.stands.call_is)
        ∙ after.stands.call_is) in
        subst (λ (x : ℕ). IsBound s q x) (ap (λ (x : Call). x.caller) same)
        (still_bound s p q c0 k (was.caller c0 t0 h))

    wins : (b : Arbitration) → Arbitrating s p b → IsContender s p b row.dev → IsBound s q c
    wins b h z =
        let before : (bus p).sel ≡ false = ap (λ (l : LineSet). l.sel) h.stands.bus_is in
        let keeps = still_keeps s p row _ _ _ _ (apart_row h.link)
        (no_entry p row (contender_lines row.dev) z.drive refl) (λ i. falls (before i) (sel i)) in
        subst (λ (x : ℕ). IsBound s q x) (sym (mine before))
        (still_bound s p q row.dev keeps (was.contenders b h row.dev least.inside z))

    go : BusStage s p → IsBound s q c
    go (on_free_bus h) = entered (ap (λ (l : LineSet). l.sel) h.stands.bus_is)
        (free_enters s p row fits wants always h (apart_row h.link) least)
    go (in_arbitration b h) =
        elim (h.each row.dev least.inside) [
          | inl none_of ↦ entered (ap (λ (l : LineSet). l.sel) h.stands.bus_is)
              (later_enters s p row b fits wants always h (apart_row h.link) least none_of)
          | inr k ↦ wins b h k
        ]
    go (after_arbitration c0 t0 h) = won c0 t0 h
    go (with_both_ids m j k t0 t1 e h) = called _ _ (ap (λ (l : LineSet). l.sel) h.stands.bus_is) h.stands.call_is refl
    go (awaiting_answer v m j k t0 t1 t2 x g) =
        called _ _ (ap (λ (l : LineSet). l.sel) g.here.stands.bus_is) g.here.stands.call_is refl
    go (after_withdrawal v m j k t0 t1 t2 t3 e h) =
        called _ _ (ap (λ (l : LineSet). l.sel) h.stands.bus_is) h.stands.call_is refl
    go (after_answer m j k t0 t1 t2 t3 x g) =
        called _ _ (ap (λ (l : LineSet). l.sel) g.here.stands.bus_is) g.here.stands.call_is refl
    go (after_takeover j k t0 t1 t2 t3 t4 x e f g) =
        called _ _ (ap (λ (l : LineSet). l.sel) g.here.stands.bus_is) g.here.stands.call_is refl
    go (in_reset h) = wrong (sym h.reset ∙ calm)
    go (in_connection n e f h) = absurd (some_connection n (sym e ∙ alone))

-- ---- any row of a prompt trace

pub bound_start : (s : ScenarioValue) → AreBound s []
bound_start s = record {
  contenders = λ a h d lt k. absurd (none-some a h.stands.arbitration_is);
  caller = λ c t h. absurd (none-some (won_call c t) h.stands.call_is);
}

-- After a row after which BSY is driven and no connection stands, no connection stood before it, RST was false, and
-- none raised it.
before_is : {A : Type 0} (s : ScenarioValue) (p : List Row) (row : Row) (d : ℕ) → Stood s p → IsLeast (due s p) 8 row
    → broken_rule p row ≡ None → d < 8 → (drives (row ∷ p) d).bsy ≡ true → connection (row ∷ p) ≡ None
    → (bus (row ∷ p)).rst ≡ false → (BusStage s p → (bus p).rst ≡ false → connection p ≡ None → CalmStanding s p
    → IsLeast (unreset_due s p) 8 row → A) → A
before_is {A = A} s p row d was m obeys lt on alone off goes = go was.here
  where
    raised : row ≡ row_of_lines row.time row.dev only_rst → (bus (row ∷ p)).rst ≡ true
    raised z =
        bus_on (λ y. y.rst) (λ _ _. refl) (row ∷ p) row.dev m.inside (ap (λ (w : Row). (drives (w ∷ p) row.dev).rst) z
        ∙ ap (λ (l : LineSet). l.rst) (drives_own p row.time row.dev only_rst))

    by_rst : BusStage s p → is_connected p ≡ false → (r : Bool) → (bus p).rst ≡ r → A
    by_rst h apart_is true e = wrong (sym on ∙ silent s p row m.inside obeys (under_rst s p h e) off d lt)
    by_rst h apart_is false e = elim (reset_or_calm s p row was.standing e m) [
      | by_reset z ↦ wrong (sym (raised z) ∙ off)
      | by_calm always least ↦ goes h e (not_linked (connection p) (bus p).rst apart_is e) always least
    ]

    go : AnyStage s p → A
    go (apart h apart_is) = by_rst h apart_is (bus p).rst refl
    go (linked n h) =
        absurd (lasts p row n (link_connection s p n h) alone (bus_on (λ y. y.bsy) (λ _ _. refl) (row ∷ p) d lt on))

pub bound_next : (s : ScenarioValue) (p : List Row) (row : Row) → FitsBus s → WantsAreItems → IsPrompt s (row ∷ p)
    → Stood s p → broken_rule p row ≡ None → AreBound s p → AreBound s (row ∷ p)
bound_next s p row fits wants prompt was obeys bound =
    let m = least_is s p row prompt.1 in
    record {
      contenders = λ a h d lt k. before_is s p row d was m obeys lt (ap (λ (l : LineSet). l.bsy) k.drive)
          h.stands.connection_is (ap (λ (l : LineSet). l.rst) h.stands.bus_is) (λ here calm alone always least.
          contender_next s p row a d fits wants always least calm alone bound h lt k here);
      caller = λ c t h. before_is s p row c was m obeys h.caller_below
          (ap (λ (l : LineSet). l.bsy) h.caller) h.stands.connection_is (ap (λ (l : LineSet). l.rst) h.stands.bus_is)
          (λ here calm alone always least. caller_next s p row c t fits wants always least calm alone bound h here);
    }
