-- RST as a connection stands: each device lets all its lines go at once. Only in the first stage after a reselection
-- does the initiator drive BSY, so that the connection stands while the target lets the lines of MESSAGE IN go (6.1.4,
-- 6.2.2).
use Rattle.trace_laws.proofs
use proofs.Names.{ℕ, ◌≡◌, ◌≢◌, ◌<◌, ◌⊎◌, inl, inr, ◌+◌, Bool, true, false, not, ◌&&◌, ◌||◌, ◌∙◌, List, [], ◌∷◌, Option}
use proofs.Names.{Some, None, refl, sym, ap, cases_eq, same_Some, if◌then◌else◌, wrong, wrong', bus_on, bus_off}
use proofs.Names.{drives-fault, same_self, change_of, falls, LineSet, none, same, same_set, union, changes_phase}
use proofs.Names.{is_message_in, call, connection, connection_after, connection_of, bus, drives, last_time, line_times}
use proofs.Names.{Drives, Row, Change, Connection, only_rst, ScenarioValue, Obeys, bus_clear, due_at, earlier_due, Due}
use proofs.Names.{IsLeast, due, IsPrompt, own_of, AreOfDevices, obeys_fits, seats_are, change_plain, drives_other}
use proofs.Names.{drives_own, fault_change, due_calm, due_holding, due_there, one_of, own_reset_is, due_in_reset, is_at}
use proofs.Names.{least_is, row_is, by_calm, reset_or_calm, by_reset, BeginsConnection, EndLines, Linked}
use proofs.Names.{by_reselection, by_selection, connected_bus, target_side, device_with, own_time, reset_due}
use proofs.Names.{row_of_fault, row_of_lines, UnderRst, phase_same, target_moves, link_calm, AnyStage, LinkStage}
use proofs.Names.{linked, when_offering, when_pulsing, when_selected, when_settling, when_shaking, when_turning}
use proofs.Names.{commands_are, byte_values, none_some, by_bool, ConnectionRow, RowKindOf, begins_now, connection_row}
use proofs.Names.{goes_now, row_kind, stage_of_connection, RowFacts, ends_here, row_facts, stays, under_rst, NextStood}
use proofs.Names.{Stood, values_of, LinkRow, link_row, bsy_stands, HasNoPhase}
use Rattle.story_laws.specs.link_laws.specs.LinkStages.{apart}
use Rattle.story_laws.specs.link_laws.specs.Phases.{ends}
use Rattle.story_laws.specs.row_laws.proofs.Lines.Rows as rows

-- ---- a row before or after which RST is true

-- Its device lets all lines go, but RST that it holds, or raises.
pub data LetsGo (row : Row) : Type 0 where
  all_lines : row ≡ row_of_lines row.time row.dev none → LetsGo row
  for_rst : row ≡ row_of_lines row.time row.dev only_rst → LetsGo row

clear_kind : (d lat time : ℕ) (own : LineSet) (last : ℕ) (x : Due)
    → bus_clear (device_with d lat own last) time ≡ Some x → x.kind ≡ Drives none
clear_kind d lat time own last x e = go (same_set own none) e
  where
    go : (q : Bool) → (if q then None else due_at (time + lat) none) ≡ Some x → x.kind ≡ Drives none
    go true z = absurd (none_some x z)
    go false z = (is_at (time + lat) none x z).kind_is

in_reset : (s : ScenarioValue) (p : List Row) (row : Row) → AreOfDevices p → UnderRst s p → IsLeast (due s p) 8 row
    → LetsGo row
in_reset s p row dv rs m = by_bool (drives p row.dev).rst
    (λ on. let l = due_there s p row.dev x m.is_due in let z = is_at ((own_of p row.dev).rst + 25000 + l.latency) none x
    (sym (due_holding s p row.dev l.latency dv m.inside l.latency_is on) ∙ m.is_due) in
    all_lines (row_is row none z.kind_is)) (λ off. let l = due_there s p row.dev x m.is_due in
    let calm = due_calm s p row.dev dv m.inside off ∙ ap (earlier_due (reset_due s p row.dev))
    (due_in_reset s p row.dev l.latency (drives p row.dev) dv m.inside l.latency_is rs.reset refl) in
    elim (one_of (reset_due s p row.dev)
    (bus_clear (device_with row.dev l.latency (drives p row.dev) (own_time p row.dev)) (line_times p).rst) x
    (sym calm ∙ m.is_due)) [
      | inl r ↦ for_rst (row_is row only_rst (own_reset_is s p row.dev x r).kind_is)
      | inr c ↦ all_lines (row_is row none
          (clear_kind row.dev l.latency (line_times p).rst (drives p row.dev) (own_time p row.dev) x c))
    ])
  where
    x : Due
    x = record { time = row.time; kind = row.kind }

abbrev IsCut : List Row → Row → Type 0
IsCut p row = ((bus p).rst ≡ true) ⊎ ((bus (row ∷ p)).rst ≡ true)

pub lets_go : (s : ScenarioValue) (p : List Row) (row : Row) (n : Connection) → Obeys s → IsPrompt s (row ∷ p)
    → Stood s p → connection p ≡ Some n → connection (row ∷ p) ≡ Some n → IsCut p row → LetsGo row
lets_go s p row n o prompt was con after cut = go (bus p).rst refl
  where
    m : IsLeast (due s p) 8 row
    m = least_is s p row prompt.1

    dv : AreOfDevices p
    dv = was.standing.devices

    standing : (bus p).rst ≡ true → AnyStage s p → LetsGo row
    standing on (apart h alone) = in_reset s p row dv (under_rst s p h on) m
    standing on (linked x h) = wrong (sym on ∙ link_calm s p x h)

    -- A row that is due without RST raises none.
    no_rst : (bus (row ∷ p)).rst ≡ true → RowFacts s p row n → ⊥
    no_rst on (stays g) = wrong
        (sym on ∙ ap (λ (x : Change). x.after.rst) (sym (sym g.row_is.change_is ∙ change_plain s row p dv m.inside))
        ∙ g.row_is.calm)
    no_rst on (ends_here g) = none_some n (sym g.stopped ∙ after)

    raised : (bus p).rst ≡ false → (bus (row ∷ p)).rst ≡ true → LetsGo row
    raised calm on = elim (reset_or_calm s p row was.standing calm m) [
      | by_reset z ↦ for_rst z
      | by_calm always least ↦
          let values = values_of s p n (commands_are s o) dv (byte_values s p n o (seats_are s (obeys_fits s o)) dv) in
          absurd (no_rst on (row_facts s p row n dv values (was.driven n con calm)
          (link_row s p row n dv (stage_of_connection s p n was con calm) least)))
    ]

    go : (q : Bool) → (bus p).rst ≡ q → LetsGo row
    go true on = standing on was.here
    go false calm = elim cut [
      | inl on ↦ wrong (sym on ∙ calm)
      | inr on ↦ raised calm on
    ]

-- ---- the lines that one device drives

pub one_drives : (on : LineSet → Bool) → ((a b : LineSet) → on (union a b) ≡ (on a || on b)) → on none ≡ false
    → (p : List Row) (t : ℕ) → t < 8 → ((d : ℕ) → d < 8 → d ≢ t → on (drives p d) ≡ false)
    → on (bus p) ≡ on (drives p t)
one_drives on both zero p t lt others = go (on (drives p t)) refl
  where
    go : (q : Bool) → on (drives p t) ≡ q → on (bus p) ≡ on (drives p t)
    go true e = bus_on on both p t lt e ∙ sym e
    go false e = bus_off on both zero p (λ d below. elim (cases_eq d t) [
      | inl is ↦ ap (λ (x : ℕ). on (drives p x)) is ∙ e
      | inr ne ↦ others d below ne
    ]) ∙ sym e

-- While a connection stands: the target alone drives the phase lines, it and the initiator BSY; and the initiator does
-- only while the first phase after a reselection stands, MESSAGE IN, or under RST.
pub record EndsHold (p : List Row) (n : Connection) : Type 0 where
  pub target_below : n.target < 8
  pub lines : (d : ℕ) → d < 8 → d ≢ n.target → HasNoPhase (drives p d)
  pub bsy : (d : ℕ) → d < 8 → d ≢ n.initiator → d ≢ n.target → (drives p d).bsy ≡ false
  pub held : (drives p n.initiator).bsy ≡ true
      → (is_message_in (drives p n.target) ≡ true) ⊎ (((bus p).rst ≡ true) × HasNoPhase (drives p n.target))

abbrev pub HoldFacts : List Row → Type 0
HoldFacts p = (n : Connection) → connection p ≡ Some n → EndsHold p n

-- ---- while RST is false

-- The ends of a stage.
pub record StageEnds (p : List Row) (n : Connection) : Type 0 where
  pub e : EndLines
  pub linked_is : Linked p n e

ends_of : (s : ScenarioValue) (p : List Row) (n : Connection) → LinkStage s p n → StageEnds p n
ends_of s p n (when_selected h) = record { e = _; linked_is = h.linked }
ends_of s p n (when_settling bsy atn msg cd io y h) = record { e = _; linked_is = h.linked }
ends_of s p n (when_turning atn x msg cd h) = record { e = _; linked_is = h.linked }
ends_of s p n (when_offering atn msg cd y h) = record { e = _; linked_is = h.linked }
ends_of s p n (when_shaking msg cd io req ack atn x y h) = record { e = _; linked_is = h.linked }
ends_of s p n (when_pulsing io req ack atn x y h a) = record { e = _; linked_is = h.linked }

linked_holds : (p : List Row) (n : Connection) → StageEnds p n
    → ((drives p n.initiator).bsy ≡ true → is_message_in (drives p n.target) ≡ true) → EndsHold p n
linked_holds p n w held = record {
  target_below = h.target_below;
  lines = λ d lt ne. elim (cases_eq d n.initiator) [
    | inl is ↦
        let l = ap (drives p) is ∙ h.initiator in
        record {
          msg = ap (λ (x : LineSet). x.msg) l;
          cd = ap (λ (x : LineSet). x.cd) l;
          io = ap (λ (x : LineSet). x.io) l;
        }
    | inr other ↦
        let l = h.rest d lt other ne in
        record {
          msg = ap (λ (x : LineSet). x.msg) l;
          cd = ap (λ (x : LineSet). x.cd) l;
          io = ap (λ (x : LineSet). x.io) l;
        }
  ];
  bsy = λ d lt other ne. ap (λ (x : LineSet). x.bsy) (h.rest d lt other ne);
  held = λ z. inl (held z);
}
  where
    h : Linked p n w.e
    h = w.linked_is

-- ---- BSY of the initiator, by the rows of a connection

record StillHeld (p : List Row) (row : Row) (n : Connection) : Type 0 where
  bsy : (drives p n.initiator).bsy ≡ true
  phase : changes_phase (change_of p row) ≡ false

-- A row of the initiator drives no BSY.
own_row : {A : Type 0} (p : List Row) (row : Row) (t : ℕ) (n : Connection) (l : LineSet) → l.bsy ≡ false
    → row ≡ row_of_lines t n.initiator l → (drives (row ∷ p) n.initiator).bsy ≡ true → A
own_row p row t n l off e on = wrong' (sym off ∙ ap (λ (x : LineSet). x.bsy) (sym (drives_own p t n.initiator l))
    ∙ sym (ap (λ (w : Row). (drives (w ∷ p) n.initiator).bsy) e) ∙ on)

-- One of the target leaves it.
other_bsy : (p : List Row) (row : Row) (t : ℕ) (n : Connection) (e : EndLines) (l : LineSet) → Linked p n e
    → row ≡ row_of_lines t n.target l → (drives (row ∷ p) n.initiator).bsy ≡ true → (drives p n.initiator).bsy ≡ true
other_bsy p row t n e l h is on = ap (λ (x : LineSet). x.bsy) (sym (drives_other p t n.target l n.initiator h.apart))
    ∙ sym (ap (λ (w : Row). (drives (w ∷ p) n.initiator).bsy) is) ∙ on

target_off : {A : Type 0} (p : List Row) (row : Row) (t : ℕ) (n : Connection) (e : EndLines) (l : LineSet)
    → Linked p n e → e.bsy ≡ false → row ≡ row_of_lines t n.target l → (drives (row ∷ p) n.initiator).bsy ≡ true → A
target_off p row t n e l h off is on =
    wrong' (sym off ∙ ap (λ (x : LineSet). x.bsy) (sym h.initiator) ∙ other_bsy p row t n e l h is on)

still_held : (s : ScenarioValue) (p : List Row) (row : Row) (n : Connection) → LinkRow s p n row
    → (drives (row ∷ p) n.initiator).bsy ≡ true → StillHeld p row n
still_held s p row n (rows.opens h b e) on = target_off p row row.time n _ _ h refl e on
still_held s p row n (rows.strikes f bit h b got who e) on = record {
  bsy = ap (λ (x : LineSet). x.bsy) (sym (drives-fault (row_of_fault (last_time p) row.dev bit) p bit n.initiator refl))
      ∙ sym (ap (λ (w : Row). (drives (w ∷ p) n.initiator).bsy) e) ∙ on;
  phase = ap (λ (w : Row). changes_phase (change_of p w)) e ∙ ap changes_phase
      (fault_change p (last_time p) row.dev bit (connected_bus f) (drives p row.dev) h.stands.bus_is refl)
      ∙ (λ i. not (same_self f.msg i && same_self f.cd i && same_self f.io i));
}
still_held s p row n (rows.hands atn msg cd io y h b un e) on = own_row p row row.time n _ refl e on
still_held s p row n (rows.releases atn x msg cd h b un e) on = own_row p row row.time n _ refl e on
still_held s p row n (rows.answers atn to msg cd y h b un rose e) on = own_row p row row.time n _ refl e on
still_held s p row n (rows.ends_ack_in atn msg cd y h b un z e) on = own_row p row row.time n _ refl e on
still_held s p row n (rows.gives atn msg cd h b z e) on = own_row p row row.time n _ refl e on
still_held s p row n (rows.sends atn msg cd x h b z some e) on = own_row p row row.time n _ refl e on
still_held s p row n (rows.ends_ack_out atn msg cd x h b e) on = own_row p row row.time n _ refl e on
still_held s p row n (rows.answers_pulse req atn to y h b un z rose e) on = own_row p row row.time n _ refl e on
still_held s p row n (rows.ends_ack_pulse io req atn x y h b un z e) on = own_row p row row.time n _ refl e on
still_held s p row n (rows.drives_pulsed req atn x y h b z e) on = own_row p row row.time n _ refl e on
still_held s p row n (rows.sends_pulse req atn x h b z byte e) on = own_row p row row.time n _ refl e on
still_held s p row n (rows.offers atn x msg cd h b un e) on = target_off p row row.time n _ _ h refl e on
still_held s p row n (rows.asks_first bsy atn msg cd io y h b un first e) on =
    let was : EndLines = ends bsy false atn 0 msg cd io false y in
    record {
      bsy = other_bsy p row row.time n was _ h e on;
      phase = ap (λ (w : Row). changes_phase (change_of p w)) e
          ∙ ap changes_phase (target_moves p n was msg cd io true y row.time h).change
          ∙ phase_same was bsy false atn 0 true y (target_side was)
          (target_side (ends bsy false atn 0 msg cd io true y));
    }
still_held s p row n (rows.ends_req atn msg cd io x y h b un z e) on = target_off p row row.time n _ _ h refl e on
still_held s p row n (rows.asks_next atn msg cd io y h b un z follows e) on =
    target_off p row row.time n _ _ h refl e on
still_held s p row n (rows.leaves atn msg cd io x y h b known un zero follows e) on =
    target_off p row row.time n _ _ h refl e on
still_held s p row n (rows.ends_req_pulse io ack atn x y h b un z e) on = target_off p row row.time n _ _ h refl e on
still_held s p row n (rows.changes_pulsed ack atn y z h b un pulsed e) on = target_off p row row.time n _ _ h refl e on
still_held s p row n (rows.asks_pulse io ack atn x y h b un z zero byte e) on =
    target_off p row row.time n _ _ h refl e on

-- ---- phase lines

record SameLines (a b : LineSet) : Type 0 where
  msg : a.msg ≡ b.msg
  cd : a.cd ≡ b.cd
  io : a.io ≡ b.io

stays_by : (c : Change) → c.before.msg ≡ c.after.msg → c.before.cd ≡ c.after.cd → c.before.io ≡ c.after.io
    → changes_phase c ≡ false
stays_by c em ed ei = (λ i. not (same (em i) c.after.msg && same (ed i) c.after.cd && same (ei i) c.after.io))
    ∙ (λ i. not (self c.after.msg i && self c.after.cd i && self c.after.io i))
  where
    self : (q : Bool) → same q q ≡ true
    self true = refl
    self false = refl

-- ---- the next row

-- What a device drives after it let go.
record Gone (p : List Row) (row : Row) : Type 0 where
  lines : LineSet
  bsy : lines.bsy ≡ false
  phase : HasNoPhase lines
  row_is : row ≡ row_of_lines row.time row.dev lines

gone_by : (p : List Row) (row : Row) → LetsGo row → Gone p row
gone_by p row (all_lines e) =
    record { lines = none; bsy = refl; phase = record { msg = refl; cd = refl; io = refl }; row_is = e }
gone_by p row (for_rst e) =
    record { lines = only_rst; bsy = refl; phase = record { msg = refl; cd = refl; io = refl }; row_is = e }

own_after : (p : List Row) (row : Row) (g : Gone p row) → drives (row ∷ p) row.dev ≡ g.lines
own_after p row g = ap (λ (w : Row). drives (w ∷ p) row.dev) g.row_is ∙ drives_own p row.time row.dev g.lines

other_after : (p : List Row) (row : Row) (d : ℕ) → Gone p row → d ≢ row.dev → drives (row ∷ p) d ≡ drives p d
other_after p row d g ne = ap (λ (w : Row). drives (w ∷ p) d) g.row_is ∙ drives_other p row.time row.dev g.lines d ne

no_phase : (a b : LineSet) → b ≡ a → HasNoPhase a → HasNoPhase b
no_phase a b e h = record {
  msg = ap (λ (l : LineSet). l.msg) e ∙ h.msg;
  cd = ap (λ (l : LineSet). l.cd) e ∙ h.cd;
  io = ap (λ (l : LineSet). l.io) e ∙ h.io;
}

-- RST is true after it.
cut_holds : (p : List Row) (row : Row) (n : Connection) → Gone p row → (bus (row ∷ p)).rst ≡ true → EndsHold p n
    → EndsHold (row ∷ p) n
cut_holds p row n g on h = record { target_below = h.target_below; lines = lines; bsy = bsy; held = held }
  where
    lines : (d : ℕ) → d < 8 → d ≢ n.target → HasNoPhase (drives (row ∷ p) d)
    lines d lt ne = elim (cases_eq d row.dev) [
      | inl is ↦ no_phase g.lines (drives (row ∷ p) d) (ap (drives (row ∷ p)) is ∙ own_after p row g) g.phase
      | inr other ↦ no_phase (drives p d) (drives (row ∷ p) d) (other_after p row d g other) (h.lines d lt ne)
    ]

    bsy : (d : ℕ) → d < 8 → d ≢ n.initiator → d ≢ n.target → (drives (row ∷ p) d).bsy ≡ false
    bsy d lt ni nt = elim (cases_eq d row.dev) [
      | inl is ↦ ap (λ (l : LineSet). l.bsy) (ap (drives (row ∷ p)) is ∙ own_after p row g) ∙ g.bsy
      | inr other ↦ ap (λ (l : LineSet). l.bsy) (other_after p row d g other) ∙ h.bsy d lt ni nt
    ]

    target : (is_message_in (drives p n.target) ≡ true) ⊎ (((bus p).rst ≡ true) × HasNoPhase (drives p n.target))
        → (is_message_in (drives (row ∷ p) n.target) ≡ true)
        ⊎ (((bus (row ∷ p)).rst ≡ true) × HasNoPhase (drives (row ∷ p) n.target))
    target was = elim (cases_eq n.target row.dev) [
      | inl is ↦
          inr (on, no_phase g.lines (drives (row ∷ p) n.target) (ap (drives (row ∷ p)) is ∙ own_after p row g) g.phase)
      | inr other ↦ by was (other_after p row n.target g other)
    ]
      where
        by : (is_message_in (drives p n.target) ≡ true) ⊎ (((bus p).rst ≡ true) × HasNoPhase (drives p n.target))
            → drives (row ∷ p) n.target ≡ drives p n.target
            → (is_message_in (drives (row ∷ p) n.target) ≡ true)
            ⊎ (((bus (row ∷ p)).rst ≡ true) × HasNoPhase (drives (row ∷ p) n.target))
        by (inl z) e = inl (ap is_message_in e ∙ z)
        by (inr z) e = inr (on, no_phase (drives p n.target) (drives (row ∷ p) n.target) e z.1)

    held : (drives (row ∷ p) n.initiator).bsy ≡ true → (is_message_in (drives (row ∷ p) n.target) ≡ true)
        ⊎ (((bus (row ∷ p)).rst ≡ true) × HasNoPhase (drives (row ∷ p) n.target))
    held z = elim (cases_eq n.initiator row.dev) [
      | inl is ↦ wrong' (sym (ap (λ (l : LineSet). l.bsy) (ap (drives (row ∷ p)) is ∙ own_after p row g) ∙ g.bsy) ∙ z)
      | inr other ↦ target (h.held (ap (λ (l : LineSet). l.bsy) (sym (other_after p row n.initiator g other)) ∙ z))
    ]

no_beginning : (p : List Row) (row : Row) → (bus (row ∷ p)).rst ≡ true → connection p ≡ None
    → connection (row ∷ p) ≡ None
no_beginning p row on alone = (λ i. connection_after (alone i) (call p) (change_of p row) row)
    ∙ (λ i. if falls (bus p).sel (bus (row ∷ p)).sel && (bus (row ∷ p)).bsy && not (on i)
    then connection_of (call p) row.time else None) ∙ off (falls (bus p).sel (bus (row ∷ p)).sel) (bus (row ∷ p)).bsy
  where
    off : (a b : Bool) → (if a && b && false then connection_of (call p) row.time else None) ≡ None
    off true true = refl
    off true false = refl
    off false b = refl

same_lines : (c : Change) → changes_phase c ≡ false → is_message_in c.before ≡ true → is_message_in c.after ≡ true
same_lines c e m = go c.before.msg c.before.cd c.before.io c.after.msg c.after.cd c.after.io e m
  where
    go : (m d i x y z : Bool) → not (same m x && same d y && same i z) ≡ false → (m && d && i) ≡ true
        → (x && y && z) ≡ true
    go true true true true true true f g = refl
    go true true true true true false f g = wrong f
    go true true true true false z f g = wrong f
    go true true true false y z f g = wrong f
    go true true false x y z f g = wrong' g
    go true false i x y z f g = wrong' g
    go false d i x y z f g = wrong' g

pub holds_start : HoldFacts []
holds_start n e = none_some n e

pub holds_next : (s : ScenarioValue) (p : List Row) (row : Row) → Obeys s → IsPrompt s (row ∷ p) → Stood s p
    → NextStood s p row → HoldFacts p → HoldFacts (row ∷ p)
holds_next s p row o prompt was nx facts n after =
    by_bool (bus (row ∷ p)).rst
    (λ on. cut on (connection p) refl)
    (λ off. calm off)
  where
    q : List Row
    q = row ∷ p

    -- RST is true
    cut : (bus q).rst ≡ true → (x : Option Connection) → connection p ≡ x → EndsHold q n
    cut on None e = none_some n (sym (no_beginning p row on e) ∙ after)
    cut on (Some m) e =
        let same : m ≡ n = same_if m (bus q).bsy
        (sym (λ i. connection_after (e i) (call p) (change_of p row) row) ∙ after) in
        let con = e ∙ ap (λ (y : Connection). Some y) same in
        cut_holds p row n (gone_by p row (lets_go s p row n o prompt was con after (inr on))) on (facts n con)
      where
        same_if : (m : Connection) (r : Bool) → (if r then Some m else None) ≡ Some n → m ≡ n
        same_if m true f = same_Some m n f
        same_if m false f = none_some n f

    -- RST is false
    calm : (bus q).rst ≡ false → EndsHold q n
    calm off = linked_holds q n w (λ z. held z (row_kind s p row n o prompt was after off))
      where
        w : StageEnds q n
        w = ends_of s q n (stage_of_connection s q n nx.stood after off)

        target_lines : is_message_in (bus q) ≡ true → is_message_in (drives q n.target) ≡ true
        target_lines z = ap is_message_in w.linked_is.target ∙ ap is_message_in (sym w.linked_is.stands.bus_is) ∙ z

        held : (drives q n.initiator).bsy ≡ true → RowKindOf s p row n → is_message_in (drives q n.target) ≡ true
        held z (begins_now alone f) = first f.begins
          where
            first : BeginsConnection q n → is_message_in (drives q n.target) ≡ true
            first (by_selection h) = wrong' (sym (ap (λ (l : LineSet). l.bsy) h.linked.initiator) ∙ z)
            first (by_reselection y h) = ap is_message_in h.linked.target
        held z (goes_now con quiet) =
            let r : ConnectionRow s p row n = connection_row s p row n o prompt was con quiet off in
            let k = still_held s p row n r.link z in
            let v = ends_of s p n r.stage in
            target_lines (same_lines (change_of p row) k.phase (by (facts n con) v (k.bsy)))
          where
            by : EndsHold p n → StageEnds p n → (drives p n.initiator).bsy ≡ true → is_message_in (bus p) ≡ true
            by h v b = elim (h.held b) [
              | inl m ↦ ap is_message_in v.linked_is.stands.bus_is ∙ ap is_message_in (sym v.linked_is.target) ∙ m
              | inr m ↦ wrong (sym m.0 ∙ quiet)
            ]

-- ---- a phase is left under RST

pub cut_phase : (s : ScenarioValue) (p : List Row) (row : Row) (n : Connection) → Obeys s → IsPrompt s (row ∷ p)
    → Stood s p → HoldFacts p → connection p ≡ Some n → connection (row ∷ p) ≡ Some n → IsCut p row
    → changes_phase (change_of p row) ≡ true → is_message_in (bus p) ≡ true
cut_phase s p row n o prompt was facts con after cut ep = elim (cases_eq n.target row.dev) [
  | inl is ↦ by_target is
  | inr other ↦ wrong (sym ep ∙ unchanged (sym (other_after p row n.target g other)))
]
  where
    q : List Row
    q = row ∷ p

    g : Gone p row
    g = gone_by p row (lets_go s p row n o prompt was con after cut)

    h : EndsHold p n
    h = facts n con

    lines_after : (d : ℕ) → d < 8 → d ≢ n.target → HasNoPhase (drives q d)
    lines_after d lt ne = elim (cases_eq d row.dev) [
      | inl is ↦ no_phase g.lines (drives q d) (ap (drives q) is ∙ own_after p row g) g.phase
      | inr other ↦ no_phase (drives p d) (drives q d) (other_after p row d g other) (h.lines d lt ne)
    ]

    -- The target alone drives the phase lines.
    before : SameLines (bus p) (drives p n.target)
    before = record {
      msg = one_drives (λ l. l.msg) (λ _ _. refl) refl p n.target h.target_below (λ d lt ne. (h.lines d lt ne).msg);
      cd = one_drives (λ l. l.cd) (λ _ _. refl) refl p n.target h.target_below (λ d lt ne. (h.lines d lt ne).cd);
      io = one_drives (λ l. l.io) (λ _ _. refl) refl p n.target h.target_below (λ d lt ne. (h.lines d lt ne).io);
    }

    later : SameLines (bus q) (drives q n.target)
    later = record {
      msg = one_drives (λ l. l.msg) (λ _ _. refl) refl q n.target h.target_below (λ d lt ne. (lines_after d lt ne).msg);
      cd = one_drives (λ l. l.cd) (λ _ _. refl) refl q n.target h.target_below (λ d lt ne. (lines_after d lt ne).cd);
      io = one_drives (λ l. l.io) (λ _ _. refl) refl q n.target h.target_below (λ d lt ne. (lines_after d lt ne).io);
    }

    unchanged : drives p n.target ≡ drives q n.target → changes_phase (change_of p row) ≡ false
    unchanged e = stays_by (change_of p row) (before.msg ∙ ap (λ (l : LineSet). l.msg) e ∙ sym later.msg)
        (before.cd ∙ ap (λ (l : LineSet). l.cd) e ∙ sym later.cd)
        (before.io ∙ ap (λ (l : LineSet). l.io) e ∙ sym later.io)

    by_target : n.target ≡ row.dev → is_message_in (bus p) ≡ true
    by_target is = elim (h.held (still (drives p n.initiator).bsy refl)) [
      | inl m ↦ (λ i. before.msg i && before.cd i && before.io i) ∙ m
      | inr m ↦ wrong (sym ep ∙ stays_by (change_of p row) (before.msg ∙ m.1.msg ∙ sym (later.msg ∙ gone.msg))
          (before.cd ∙ m.1.cd ∙ sym (later.cd ∙ gone.cd)) (before.io ∙ m.1.io ∙ sym (later.io ∙ gone.io)))
    ]
      where
        target_is : drives q n.target ≡ g.lines
        target_is = ap (drives q) is ∙ own_after p row g

        gone : HasNoPhase (drives q n.target)
        gone = no_phase g.lines (drives q n.target) target_is g.phase

        -- no other device would drive BSY
        still : (b : Bool) → (drives p n.initiator).bsy ≡ b → (drives p n.initiator).bsy ≡ true
        still true e = e
        still false e = none_some n (sym (bsy_stands q (bus_off (λ l. l.bsy) (λ _ _. refl) refl q each)) ∙ after)
          where
            each : (d : ℕ) → d < 8 → (drives q d).bsy ≡ false
            each d lt = elim (cases_eq d row.dev) [
              | inl at ↦ ap (λ (l : LineSet). l.bsy) (ap (drives q) at ∙ own_after p row g) ∙ g.bsy
              | inr other ↦ ap (λ (l : LineSet). l.bsy) (other_after p row d g other) ∙ elim (cases_eq d n.initiator) [
                | inl at ↦ ap (λ (x : ℕ). (drives p x).bsy) at ∙ e
                | inr third ↦ h.bsy d lt third (λ t. other (t ∙ is))
              ]
            ]
