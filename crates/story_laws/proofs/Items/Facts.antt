-- What holds of the items after all rows of a prompt trace.
use Rattle.story_laws.proofs
use proofs.Names.{inl, inr, ℕ, ◌≡◌, ◌<◌, Bool, true, false, not, ◌&&◌, ◌||◌, ◌∙◌, List, [], ◌∷◌, Option, Some, None}
use proofs.Names.{refl, sym, ap, subst, cases_eq, same_Some, if◌then◌else◌, wrong, wrong', or_true, bus_off}
use proofs.Names.{drives-other, same_set-eq, change_of, rises, is_within, implies, LineSet, union, none, is_message_in}
use proofs.Names.{arbitration, call, connection, connection_of, connected, connected_of, connected_by, connection_after}
use proofs.Names.{bus, drives, driven_after, Row, Connection, Call, Calling, only_rst, broken_rule, units_of}
use proofs.Names.{ScenarioValue, starting_units, row_reading, is_complete, Item, sense_item, Link, LastMessage, plain}
use proofs.Names.{is_open_sense, Phase, run_state_plain, AreOfDevices, IsPlain, RunState, array_of, run_state, out_over}
use proofs.Names.{Begins, RowOf, row_apart, begins, goes_on, under_reset, change_plain, BusStage, LinkStage}
use proofs.Names.{when_selected, when_settling, when_turning, when_offering, when_shaking, when_pulsing, none_some}
use proofs.Names.{some_none, or_first, by_bool, settled_units, IsCalled, ConnectionRow, RowFacts, stays, ends_here}
use proofs.Names.{made_is, quiet_sel, under_rst, reset_rule, line_off, quiet_at_end, drives_next, IsAimed, AimsFit}
use proofs.Names.{UnitsP, IsQueued, ItemFacts, is_sense_item, awaits, is_plain, talk_of, TalksBy, last_well}
use proofs.{Items.{Rows.{open_over}, Sent.{only_are}, Steps.{start_queued}}, Talks.InMoves.{in_move}}
use proofs.Talks.{Steps.{plain_last}, Turns.{taken_leaves}}
use Rattle.row_laws.specs.book_laws.specs.Traces.{ends}

-- ---- the start

pub items_start : (s : ScenarioValue) → ItemFacts s []
items_start s = record {
  items = record {
    apart = λ e. (refl, refl);
    only = only_are s [];
    clash = λ n m c d at ad own on om z. wrong' on;
    checked = λ n e. wrong' e;
    checks = λ n e. wrong' e;
    queued = start;
    served = λ i e. absurd cc;
    senses = λ n e. wrong' e;
    progress = λ id e. refl;
    talks = λ n e rst. none_some n e;
  };
  aims = λ e rst. record { contends = λ dev a lt f on host. absurd cc; calls = λ c f host. none_some c f };
}
  where
    start : UnitsP (IsQueued s (run_state s []).story.sent) (array_of s (run_state s [])).units
    start = settled_units (IsQueued s (run_state s []).story.sent) [] (starting_units s (units_of s))
        (start_queued (IsQueued s (run_state s []).story.sent) s (units_of s))

-- ---- a selection is made for what is next

pub aimed_next : (s : ScenarioValue) (p : List Row) (row : Row) (n : Connection) → connection p ≡ None
    → connection (row ∷ p) ≡ Some n → n.reselected ≡ false → IsCalled s p → AimsFit s p
    → IsAimed s (run_state s p) n.initiator
aimed_next s p row n alone e selects was h = by_call (call p) refl (made_is p row n alone e).made
  where
    by_calling : (c : Call) → call p ≡ Some c → (o : Option Calling) → c.calling ≡ o
        → connected_of c.caller o row.time ≡ Some n → IsAimed s (run_state s p) n.initiator
    by_calling c ek None f z = none_some n z
    by_calling c ek (Some x) f z = by_answer x.answered z
      where
        by_answer : (a : Option ℕ) → connected_by c.caller x a row.time ≡ Some n → IsAimed s (run_state s p) n.initiator
        by_answer None y = none_some n y
        by_answer (Some t) y =
            let same : connected c.caller x row.time ≡ n = same_Some (connected c.caller x row.time) n y in
            let re : x.reselects ≡ false = ap (λ (w : Connection). w.reselected) same ∙ selects in
            let caller : n.initiator ≡ c.caller = ap (λ (w : Connection). w.initiator) (sym same)
            ∙ ap (λ (q : Bool). if q then x.called else c.caller) re in
            subst (λ (d : ℕ). IsAimed s (run_state s p) d) (sym caller)
            (h.calls c ek ((was c x ek f).host_is ∙ ap not re))

    by_call : (o : Option Call) → call p ≡ o → connection_of o row.time ≡ Some n → IsAimed s (run_state s p) n.initiator
    by_call None f z = none_some n z
    by_call (Some c) f z = by_calling c f c.calling refl z

-- ---- the kinds of rows

pub beginning : (s : ScenarioValue) (k : RunState) (row : Row) (n : Connection) → k.story.bus_state.connection ≡ None
    → (row_reading k.story.bus_state row).next ≡ Some n → (row_reading k.story.bus_state row).change.after.rst ≡ false
    → RowOf s k row → Begins s k row n
beginning s k row n con next calm (row_apart e f) = none_some n (sym f ∙ next)
beginning s k row n con next calm (begins m b) =
    subst (λ (x : Connection). Begins s k row x) (same_Some m n (sym b.first.next_is ∙ next)) b
beginning s k row n con next calm (goes_on m c g) = none_some m (sym con ∙ g.row_is.connection_is)
beginning s k row n con next calm (ends m g) = none_some m (sym con ∙ g.connection_is)
beginning s k row n con next calm (under_reset r e) = wrong (sym r ∙ calm)

pub record LinkedStands (p : List Row) : Type 0 where
  pub arbitration_is : arbitration p ≡ None
  pub call_is : call p ≡ None
  pub bsy : (bus p).bsy ≡ true

pub link_stands : (s : ScenarioValue) (p : List Row) (n : Connection) → LinkStage s p n → LinkedStands p
link_stands s p n (when_selected h) = record {
  arbitration_is = h.linked.stands.arbitration_is;
  call_is = h.linked.stands.call_is;
  bsy = ap (λ (l : LineSet). l.bsy) h.linked.stands.bus_is;
}
link_stands s p n (when_settling bsy atn msg cd io y h) = record {
  arbitration_is = h.linked.stands.arbitration_is;
  call_is = h.linked.stands.call_is;
  bsy = ap (λ (l : LineSet). l.bsy) h.linked.stands.bus_is;
}
link_stands s p n (when_turning atn x msg cd h) = record {
  arbitration_is = h.linked.stands.arbitration_is;
  call_is = h.linked.stands.call_is;
  bsy = ap (λ (l : LineSet). l.bsy) h.linked.stands.bus_is;
}
link_stands s p n (when_offering atn msg cd y h) = record {
  arbitration_is = h.linked.stands.arbitration_is;
  call_is = h.linked.stands.call_is;
  bsy = ap (λ (l : LineSet). l.bsy) h.linked.stands.bus_is;
}
link_stands s p n (when_shaking msg cd io req ack atn x y h) = record {
  arbitration_is = h.linked.stands.arbitration_is;
  call_is = h.linked.stands.call_is;
  bsy = ap (λ (l : LineSet). l.bsy) h.linked.stands.bus_is;
}
link_stands s p n (when_pulsing io req ack atn x y h a) = record {
  arbitration_is = h.linked.stands.arbitration_is;
  call_is = h.linked.stands.call_is;
  bsy = ap (λ (l : LineSet). l.bsy) h.linked.stands.bus_is;
}

-- ---- RST rises, and falls

pub rst_raised : (p : List Row) (row : Row) → row.dev < 8 → (bus p).rst ≡ false → (bus (row ∷ p)).rst ≡ true
    → rises (drives p row.dev).rst (driven_after row.kind (drives p row.dev)).rst ≡ true
rst_raised p row lt off on =
    by_bool (driven_after row.kind (drives p row.dev)).rst
    (λ e. λ i. not (was row.dev lt i) && e i)
    (λ e.
    wrong (sym on ∙ bus_off (λ x. x.rst) (λ _ _. refl) refl (row ∷ p) (λ d l. elim (cases_eq d row.dev) [
      | inl same ↦ ap (λ (m : ℕ). (drives (row ∷ p) m).rst) same ∙ ap (λ (x : LineSet). x.rst) (drives_next p row) ∙ e
      | inr ne ↦ ap (λ (x : LineSet). x.rst) (drives-other row p d ne) ∙ was d l
    ])))
  where
    was : (d : ℕ) → d < 8 → (drives p d).rst ≡ false
    was d l = line_off (λ x. x.rst) (λ _ _. refl) p off d l

-- No line but RST was true before the row with which it falls, which raises none.
pub record FallsQuiet (p : List Row) (row : Row) : Type 0 where
  pub sel : (bus p).sel ≡ false
  pub no_bsy : (d : ℕ) → d < 8 → (drives (row ∷ p) d).bsy ≡ false
  pub no_sel : (bus (row ∷ p)).sel ≡ false

off_in : (on : LineSet → Bool) → ((a b : LineSet) → on (union a b) ≡ (on a || on b)) → on only_rst ≡ false
    → (l m : LineSet) → is_within l (union only_rst m) ≡ true → on m ≡ false → on l ≡ false
off_in on both zero l m e off =
    by_bool (on l) (λ z. wrong (sym (ap on (sym (same_set-eq (union (union only_rst m) l) (union only_rst m) e))
    ∙ both (union only_rst m) l ∙ (λ i. on (union only_rst m) || z i) ∙ or_true (on (union only_rst m)))
    ∙ both only_rst m ∙ (λ i. zero i || off i))) (λ z. z)

pub falls_quiet : (s : ScenarioValue) (p : List Row) (row : Row) → row.dev < 8 → broken_rule p row ≡ None → BusStage s p
    → (bus p).rst ≡ true → (bus (row ∷ p)).rst ≡ false → FallsQuiet p row
falls_quiet s p row lt obeys h on off = record {
  sel = sel;
  no_bsy = λ d l. line (λ x. x.bsy) (λ _ _. refl) refl refl (ap (λ (x : LineSet). x.bsy) all) d l;
  no_sel = bus_off (λ x. x.sel) (λ _ _. refl) refl (row ∷ p) (λ d l. line (λ x. x.sel) (λ _ _. refl) refl refl sel d l);
}
  where
    all : union only_rst (bus p) ≡ only_rst
    all = same_set-eq (union only_rst (bus p)) only_rst (quiet_at_end s p row lt obeys (under_rst s p h on) off)

    sel : (bus p).sel ≡ false
    sel = quiet_sel (bus p) all

    within : is_within (driven_after row.kind (drives p row.dev)) (union only_rst (drives p row.dev)) ≡ true
    within = sym (λ i. implies (on i || rises (drives p row.dev).rst (driven_after row.kind (drives p row.dev)).rst)
        (is_within (driven_after row.kind (drives p row.dev)) (union only_rst (drives p row.dev))))
        ∙ (reset_rule p row obeys).alone

    line : (f : LineSet → Bool) → ((a b : LineSet) → f (union a b) ≡ (f a || f b)) → f none ≡ false → f only_rst ≡ false
        → f (bus p) ≡ false → (d : ℕ) → d < 8 → f (drives (row ∷ p) d) ≡ false
    line f both zero rst e d l = elim (cases_eq d row.dev) [
      | inl same ↦ ap (λ (m : ℕ). f (drives (row ∷ p) m)) same ∙ ap f (drives_next p row)
          ∙ off_in f both rst (driven_after row.kind (drives p row.dev)) (drives p row.dev) within
          (line_off f both p e row.dev lt)
      | inr ne ↦ ap f (drives-other row p d ne) ∙ line_off f both p e d l
    ]

-- ---- the connection ends

plain_is : (x : LastMessage) → is_plain x ≡ true → x ≡ plain
plain_is plain e = refl
plain_is _ e = wrong' e

-- An automatic REQUEST SENSE that is open then has no other last message than one that tells nothing.
pub ends_plain : (s : ScenarioValue) (p : List Row) (row : Row) (m : Connection) → AreOfDevices p
    → row.dev < 8 → connection p ≡ Some m → connection (row ∷ p) ≡ None → ConnectionRow s p row m
    → (l : Link) → TalksBy s (talk_of (run_state s p)) m l → (w : ℕ) → (run_state s p).served ≡ Some (sense_item w)
    → is_open_sense (run_state s p).story.sent w ≡ true → l.last ≡ plain
ends_plain s p row m dv lt con gone r l t w sv opens = plain_is l.last (or_first (is_plain l.last) (is_complete l.last)
    (plain_last true l (sym (ap (λ (x : Option Item). last_well (is_sense_item x) l) sv) ∙ t.last) refl).1 incomplete)
  where
    k : RunState
    k = run_state s p

    pl : IsPlain s p k
    pl = run_state_plain s p dv

    selected : m.reselected ≡ false
    selected = t.selected (ap is_sense_item sv)

    stays_on : {A : Type 0} → (bus (row ∷ p)).bsy ≡ true → A
    stays_on e = none_some m (sym gone ∙ (λ i. connection_after (con i) (call p) (change_of p row) row)
        ∙ ap (λ (q : Bool). if q then Some m else None) e)

    by_facts : {A : Type 0} → RowFacts s p row m → is_complete l.last ≡ true → A
    by_facts (stays g) z = none_some m
        (sym ((λ i. connection_after (pl.connection i) (pl.call i) (change_plain s row p dv lt i) row) ∙ gone)
        ∙ (λ i. connection_after (g.row_is.connection_is i) k.story.bus_state.call (g.row_is.change_is i) row)
        ∙ ap (λ (q : Bool). if q then Some m else None) g.row_is.stands)
    by_facts (ends_here f) z = elim (t.completes z) [
      | inl x ↦ elim (t.closes selected z x.here (record { command = w; sense = true }) sv) [
        | inl y ↦ open_over k.story.sent w opens y
        | inr y ↦ elim y [
          | inl a ↦ some_none Phase.MessageOut
              (sym (taken_leaves s k m.target x ∙ ap (λ (q : Bool). if q then Some Phase.MessageOut else None) a)
              ∙ f.whereto)
          | inr a ↦ elim (in_move s p row m (ap is_message_in (sym pl.bus) ∙ x.here) r.link).stands [
            | inl b ↦ wrong (sym a ∙ ap awaits pl.bus ∙ (λ i. b i && not (bus p).ack))
            | inr b ↦ stays_on b
          ]
        ]
      ]
      | inr x ↦ wrong (sym (out_over s k m x.0 f.over) ∙ x.1)
    ]

    incomplete : is_complete l.last ≡ false
    incomplete = by_bool (is_complete l.last) (λ z. by_facts r.facts z) (λ z. z)
