-- What is served in a connection of a prompt trace: a process of the scenario, or an abort of its two ends.
use Rattle.story_laws.proofs
use proofs.Names.{ℕ, ◌≡◌, ◌<◌, Bool, true, false, not, ◌&&◌, ◌∙◌, List, [], ◌∷◌, Option, Some, None, refl, sym, ap}
use proofs.Names.{and_parts, same_Some, if◌then◌else◌, is_some, wrong, wrong', AbortKind, same_set-eq, change_of, falls}
use proofs.Names.{LineSet, union, changes_phase, is_message_out, is_fault, call, connected, connected_of, connection}
use proofs.Names.{connection_of, connection_after, receiver_in, bus, Row, Change, Connection, Call, Calling, only_rst}
use proofs.Names.{ScenarioValue, Obeys, AbortDef, is_initiator, row_reading, message_out, abort_line_at, Item, abort}
use proofs.Names.{aim_of, Exchange, Serving, phase_of, phase_leaving, leaving_by, bus_free, after_offer, Cause, Leaving}
use proofs.Names.{Phase, Plan, run_state_plain, is_unit, is_kind, is_item_named, is_abort_named, IsPrompt, IsPlain}
use proofs.Names.{AreOfDevices, RunState, bus_of, run_state, run_state_after, item_if, served_after, serving_of}
use proofs.Names.{leaving, hearing_of, ready_of, initiator_if, target_of, abort_target, obeys_fits, units_are, AreUnits}
use proofs.Names.{InConnection, in_connection, aims_are, IsItem, is_process, RowKind, still, strikes, crosses, turns}
use proofs.Names.{reading_in, Speaks, GoesOn, Begins, change_plain, least_is, BusStage, AnyStage, apart, linked}
use proofs.Names.{none_some, out_phase, plan_out, by_bool, IsDueCall, IsCalled, callee_at, by_answer, ConnectionRow}
use proofs.Names.{GoingRow, connection_row, going_row, RowKindOf, begins_now, goes_now, row_kind, made_is, under_rst}
use proofs.Names.{quiet_sel, Stood, NextStood, link_connection, link_phase, quiet_at_end, IsServed, of_process}
use proofs.{Names.{of_abort, ServedFacts}, Items.Facts.{beginning}, Tells.Rows.{is_heard}, Undone.Answers.{plan_stays}}
use proofs.Undone.Answers.{same_phase_of}
use Rattle.row_laws.specs.book_laws.specs.Items.{is_abort}

-- ---- whom an initiator has called

abbrev NamesTarget : ScenarioValue → List Row → Connection → Type 0
NamesTarget s p n = target_of s (aim_of (run_state s p).story.aims n.initiator) ≡ Some n.target

called_target : (s : ScenarioValue) (p : List Row) (t : ℕ) (n : Connection) → IsCalled s p
    → connection_of (call p) t ≡ Some n → n.reselected ≡ false → NamesTarget s p n
called_target s p t n was e z = by_call (call p) refl e
  where
    named : (c : ℕ) (x : Calling) → IsDueCall s p c x → connected c x t ≡ n → NamesTarget s p n
    named c x d same =
        let r : x.reselects ≡ false = ap (λ (w : Connection). w.reselected) same ∙ z in
        let i : n.initiator ≡ c = ap (λ (w : Connection). w.initiator) (sym same)
        ∙ ap (λ (q : Bool). if q then x.called else c) r in
        let g : n.target ≡ x.called = ap (λ (w : Connection). w.target) (sym same)
        ∙ ap (λ (q : Bool). if q then c else x.called) r in
        let host : is_initiator s.hosts n.initiator ≡ true = ap (is_initiator s.hosts) i ∙ d.host_is ∙ ap not r in
        sym (ap (λ (q : Bool). if q then target_of s (aim_of (run_state s p).story.aims n.initiator)
        else initiator_if (ready_of s (run_state s p) n.initiator)) host)
        ∙ ap (callee_at s p) i ∙ d.callee_is ∙ ap (λ (w : ℕ). Some w) (sym g)

    by_calling : (h : Call) → call p ≡ Some h → (o : Option Calling) → h.calling ≡ o
        → connected_of h.caller o t ≡ Some n → NamesTarget s p n
    by_calling h ek None none w = none_some n w
    by_calling h ek (Some x) some w = named h.caller x (was h x ek some) (by_answer h.caller x x.answered t n w)

    by_call : (o : Option Call) → call p ≡ o → connection_of o t ≡ Some n → NamesTarget s p n
    by_call None none w = none_some n w
    by_call (Some h) some w = by_calling h some h.calling refl w

-- ---- the first row of a connection

served_begins : (s : ScenarioValue) (p : List Row) (row : Row) (n : Connection) → Obeys s → IsPrompt s (row ∷ p)
    → Stood s p → NextStood s p row → connection p ≡ None → connection (row ∷ p) ≡ Some n → (bus (row ∷ p)).rst ≡ false
    → n.reselected ≡ (run_state s (row ∷ p)).exchange.begun → IsServed s (run_state s (row ∷ p)) n
served_begins s p row n o prompt was nx alone after calm begun = by_bool n.reselected
    (λ re. let r = b.reselects re in of_process r.ready.process.id r.process
    (served ∙ ap (λ (q : Bool). if q then item_if (ready_of s k n.target) else aim_of k.story.aims n.initiator) re
    ∙ ap item_if r.ready_is) r.process_is)
    (λ re. let a = b.selects re in by_item a.item a.aim_is re (aims_are s p n.initiator a.item a.aim_is))
  where
    k : RunState
    k = run_state s p

    j : RunState
    j = run_state s (row ∷ p)

    lt : row.dev < 8
    lt = (least_is s p row prompt.1).inside

    change : (row_reading k.story.bus_state row).change ≡ change_of p row
    change = change_plain s row p was.standing.devices lt

    con : k.story.bus_state.connection ≡ None
    con = was.plain.connection ∙ alone

    next : (row_reading k.story.bus_state row).next ≡ Some n
    next = (λ i. connection_after (was.plain.connection i) (was.plain.call i) (change i) row) ∙ after

    b : Begins s k row n
    b = beginning s k row n con next (ap (λ (x : Change). x.after.rst) change ∙ calm) nx.row_is

    served : j.served ≡ (if n.reselected then item_if (ready_of s k n.target) else aim_of k.story.aims n.initiator)
    served = λ i. served_after s k (con i) (next i)

    stage : AnyStage s p → BusStage s p
    stage (linked m h) = none_some m (sym alone ∙ link_connection s p m h)
    stage (apart h a) = h

    before : (r : Bool) → (bus p).rst ≡ r → (bus p).rst ≡ false
    before false off = off
    before true on =
        let quiet = quiet_sel (bus p) (same_set-eq (union only_rst (bus p)) only_rst
        (quiet_at_end s p row lt nx.obeys (under_rst s p (stage was.here) on) calm)) in
        wrong' (sym (λ i. falls (quiet i) (bus (row ∷ p)).sel) ∙ (made_is p row n alone after).sel)

    aborts : (m : ℕ) (a : AbortDef) → abort_line_at s.aborts m ≡ Some a
        → aim_of k.story.aims n.initiator ≡ Some (abort m) → n.reselected ≡ false → a.target ≡ n.target
    aborts m a line aim re =
        let named = called_target s p row.time n
        (was.called alone (before (bus p).rst refl)) (made_is p row n alone after).made re in
        same_Some a.target n.target (ap abort_target (sym line) ∙ ap (target_of s) (sym aim) ∙ named)

    by_item : (item : Item) → aim_of k.story.aims n.initiator ≡ Some item → n.reselected ≡ false
        → IsItem s n.initiator item → IsServed s j n
    by_item _ aim re (is_process id p e own) = of_process id p (served
        ∙ ap (λ (q : Bool). if q then item_if (ready_of s k n.target) else aim_of k.story.aims n.initiator) re ∙ aim) e
    by_item _ aim re (is_abort m a e own) = of_abort m a
        (served ∙ ap (λ (q : Bool). if q then item_if (ready_of s k n.target) else aim_of k.story.aims n.initiator) re
        ∙ aim) e own (aborts m a e aim re) re (λ z. wrong (sym z ∙ sym begun ∙ re))

-- ---- a row of it

-- The target of an abort frees the bus after its opening.
frees : (v : Serving) (attention : Bool) (phase : Phase) → phase ≡ Phase.MessageOut → v.plan.cause ≡ Cause.Selected
    → is_some v.plan.said.aborts ≡ true → (phase_leaving v attention phase).to ≡ None
frees v attention phase e c heard =
    ap (λ (f : Phase). (phase_leaving v attention f).to) e
    ∙ ap (λ (x : Cause). (Rattle.due_model.specs.dialogue_model.specs.NextPhase.message_out_leaving v x).to) c
    ∙ ap (λ (q : Bool). (if q then bus_free else after_offer v.def v.plan.negotiates v.plan.said.offer).to) heard

abort_heard : (s : ScenarioValue)
    (said : Rattle.due_model.specs.dialogue_model.specs.declared.exchange.Said.Said) (m : ℕ) (a : AbortDef)
    → abort_line_at s.aborts m ≡ Some a → is_item_named s said (Some (abort m)) ≡ true → is_some said.aborts ≡ true
abort_heard s said m a line named = go said.aborts
    (and_parts (is_unit said.unit a.unit) (is_kind said.aborts a.what) (sym (ap (is_abort_named said) line) ∙ named)).1
  where
    go : (x : Option AbortKind) → is_kind x a.what ≡ true → is_some x ≡ true
    go None e = wrong' e
    go (Some x) e = refl

served_goes : (s : ScenarioValue) (p : List Row) (row : Row) (n : Connection) → AreUnits s → AreOfDevices p → Stood s p
    → ConnectionRow s p row n → GoingRow s p row n → IsServed s (run_state s p) n → IsServed s (run_state s (row ∷ p)) n
served_goes s p row n u dv was r g h = go h
  where
    k : RunState
    k = run_state s p

    j : RunState
    j = run_state_after s k row

    c : Change
    c = g.change

    pl : IsPlain s p k
    pl = run_state_plain s p dv

    of : GoesOn s k row n c
    of = g.goes

    i : (phase now : Bool) → changes_phase c ≡ phase → is_some (receiver_in n c) ≡ now
        → InConnection s k row n c phase now (is_fault row.kind)
    i phase now ep en = in_connection s k row n c phase now (is_fault row.kind) of.row_is ep en refl

    served : j.served ≡ k.served
    served = (i (changes_phase c) (is_some (receiver_in n c)) refl refl).served_is

    Alone : RunState → Type 0
    Alone x =
        x.exchange.begun ≡ true → (phase_of (bus_of x) ≡ Phase.MessageOut) × (x.exchange.plan.cause ≡ Cause.Selected)

    stays : (now : Bool) → changes_phase c ≡ false → is_some (receiver_in n c) ≡ now → Alone k → Alone j
    stays now ep en alone b =
        let w = i false now ep en in
        let before = alone (sym (ap (λ (x : Exchange). x.begun) w.exchange_is) ∙ b) in
        let plan = plan_stays k.exchange.plan now (is_message_out c.before) k.story.bus_state.dialogue.is_last
        (is_fault row.kind && not c.before.io) (message_out k.story.bus_state.dialogue c now) in (
          ap phase_of w.bus_is ∙ same_phase_of c ep ∙ ap phase_of (sym of.row_is.bus_is) ∙ before.0,
          ap (λ (x : Exchange). x.plan.cause) w.exchange_is ∙ plan.cause ∙ before.1,
        )

    turned : (m : ℕ) (a : AbortDef) → k.served ≡ Some (abort m) → abort_line_at s.aborts m ≡ Some a
        → changes_phase c ≡ true → receiver_in n c ≡ None → Alone k → Alone j
    turned m a es line ep er alone b' = by_bool k.exchange.begun
        (λ b. let at = alone b in let over = g.lines.over (ap changes_phase g.lines_are ∙ ep) (sym pl.begun ∙ b) in
        let to = g.lines.whereto (ap changes_phase g.lines_are ∙ ep) (sym pl.begun ∙ b) in
        let heard = is_heard s k n u speaks b (λ z. ap (λ (l : LineSet). l.cd) pl.bus
        ∙ (link_phase s p n r.stage (ap (λ (l : LineSet). l.msg) (sym pl.bus) ∙ z)).0) over at.0 in
        let frees_it = frees (serving_of s k n.target) (bus_of k).atn (phase_of (bus_of k)) at.0 at.1 (abort_heard
        s k.exchange.plan.said m a line (sym (ap (is_item_named s k.exchange.plan.said) es) ∙ heard.named at.1)) in
        none_some _
        (sym (ap (λ (x : Leaving). x.to) (λ z. leaving_by (serving_of s k n.target) (b z) (bus_of k)) ∙ frees_it) ∙ to))
        (λ b.
        let out : is_message_out c.after ≡ true = sym (ap (λ (x : Change). is_message_out x.after) of.row_is.change_is)
        ∙ of.first (ap changes_phase of.row_is.change_is ∙ ep) b in (
          ap phase_of w.bus_is ∙ out_phase c.after out,
          ap (λ (x : Exchange). x.plan.cause) w.exchange_is ∙ ap (λ (x : Plan). x.cause) (plan_out
              (hearing_of k row (reading_in k.story.bus_state n c false)) (leaving s k n.target) k.exchange.plan out b)
              ∙ (speaks.before_all b).cause_is,
        ))
      where
        speaks : Speaks s k n
        speaks = was.books.speaks n of.row_is.connection_is of.calm

        w : InConnection s k row n c true false (is_fault row.kind)
        w = i true false ep (ap (λ (z : Option ℕ). is_some z) er)

    alone_on : (m : ℕ) (a : AbortDef) → k.served ≡ Some (abort m) → abort_line_at s.aborts m ≡ Some a → RowKind row n c
        → Alone k → Alone j
    alone_on m a es line (still ef ep er) alone = stays false ep (ap (λ (z : Option ℕ). is_some z) er) alone
    alone_on m a es line (strikes ef ep er) alone = stays false ep (ap (λ (z : Option ℕ). is_some z) er) alone
    alone_on m a es line (crosses dev ef ep er) alone = stays true ep (ap (λ (z : Option ℕ). is_some z) er) alone
    alone_on m a es line (turns ef ep er) alone = turned m a es line ep er alone

    go : IsServed s k n → IsServed s j n
    go (of_process id pr e f) = of_process id pr (served ∙ e) f
    go (of_abort m a e line host target re alone) =
        of_abort m a (served ∙ e) line host target re (alone_on m a e line of.row_is.kind alone)

-- ---- any row

pub served_start : (s : ScenarioValue) → ServedFacts s []
served_start s n e calm = none_some n e

pub served_next : (s : ScenarioValue) (p : List Row) (row : Row) → Obeys s → IsPrompt s (row ∷ p) → Stood s p
    → NextStood s p row → ServedFacts s p → ServedFacts s (row ∷ p)
served_next s p row o prompt was next h n after calm = go (row_kind s p row n o prompt was after calm)
  where
    dv : AreOfDevices p
    dv = was.standing.devices

    lt : row.dev < 8
    lt = (least_is s p row prompt.1).inside

    go : RowKindOf s p row n → IsServed s (run_state s (row ∷ p)) n
    go (begins_now alone f) = served_begins s p row n o prompt was next alone after calm
        (sym ((run_state_plain s (row ∷ p) (lt, dv)).begun ∙ f.begun_is))
    go (goes_now con off) =
        let r = connection_row s p row n o prompt was con off calm in
        let g = going_row s p row n dv lt con after calm next.row_is r.facts in
        served_goes s p row n (units_are s (obeys_fits s o)) dv was r g (h n con off)
