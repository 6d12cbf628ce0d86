-- The two ends of a connection are an initiator and a target of the scenario: its caller called the device that it is
-- due to call, and the target drives BSY.
use Rattle.row_laws.proofs
use proofs.Names.{inl, inr, ℕ, ◌≡◌, ◌<◌, Bool, true, false, not, ◌&&◌, ◌||◌, ◌==◌, ◌∙◌, List, [], ◌∷◌, Option, Some}
use proofs.Names.{None, refl, sym, ap, subst, same_Some, find, if◌then◌else◌, is_some, is_none, wrong, wrong'}
use proofs.Names.{or_middle, ProcId, same_set-eq, change_of, falls, LineSet, union, none, call, connection}
use proofs.Names.{connection_after, connection_of, connected, connected_of, bus, drives, Row, Change, Connection, Call}
use proofs.Names.{Calling, only_rst, broken_rule, ScenarioValue, Obeys, CmdDef, HostDef, TargetDef, Process, command_at}
use proofs.Names.{process_by, process_if, process_of, sense_process, command_process, is_initiator, RowReading}
use proofs.Names.{row_reading, abort_line_at, Item, process, abort, host_latency, target_latency, aim_of, Phase}
use proofs.Names.{host_of, target_def_of, IsPrompt, AreOfDevices, RunState, run_state, leaving, target_if, abort_target}
use proofs.Names.{target_of, initiator_if, ready_of, abort_fits, command_fits, seats_are, units_are, FitsBus}
use proofs.Names.{is_left_by, is_left_as_due, change_plain, BusStage, HasDevice, link_calm, LinkStage, when_selected}
use proofs.Names.{when_settling, when_turning, when_offering, when_shaking, when_pulsing, AnyStage, apart, linked}
use proofs.{Names.{HasEnds, AreEnds}, Common.{Impossible.{none_some}, Tests.{by_bool, by_option}}}
use proofs.Lines.{Called.{IsCalled, IsMadeFor, IsDueCall, by_answer, made_of, own_units}, Connections.{connection_row}}
use proofs.Lines.{Crossings.{RowFacts, stays, ends_here}, First.{Made, made_is, quiet_sel, under_rst}, Joint.{Stood}}
use proofs.Lines.{Joint.{link_connection, apart_connection}, UnderRst.{quiet_at_end}}

-- ---- the lines of the scenario

pub host_found : (hosts : List HostDef) (dev : ℕ) → is_initiator hosts dev ≡ true
    → is_some (find (λ (h : HostDef). h.dev == dev) hosts) ≡ true
host_found [] dev e = e
host_found (h ∷ hosts) dev e = go (h.dev == dev) (host_found hosts dev) e
  where
    go : (q : Bool) → (is_initiator hosts dev ≡ true → is_some (find (λ (h : HostDef). h.dev == dev) hosts) ≡ true)
        → (q || is_initiator hosts dev) ≡ true
        → is_some (if q then Some h else find (λ (h : HostDef). h.dev == dev) hosts) ≡ true
    go true more z = refl
    go false more z = more z

host_any : (hosts : List HostDef) (dev : ℕ) → is_some (find (λ (h : HostDef). h.dev == dev) hosts) ≡ true
    → is_initiator hosts dev ≡ true
host_any [] dev e = e
host_any (h ∷ hosts) dev e = go (h.dev == dev) (host_any hosts dev) e
  where
    go : (q : Bool) → (is_some (find (λ (h : HostDef). h.dev == dev) hosts) ≡ true → is_initiator hosts dev ≡ true)
        → is_some (if q then Some h else find (λ (h : HostDef). h.dev == dev) hosts) ≡ true
        → (q || is_initiator hosts dev) ≡ true
    go true more z = refl
    go false more z = more z

-- A device of the scenario that is no initiator is a target.
target_found : (s : ScenarioValue) (dev : ℕ) → HasDevice s dev → is_initiator s.hosts dev ≡ false
    → is_some (target_def_of s dev) ≡ true
target_found s dev d none = go (target_def_of s dev) (host_of s dev) refl d.latency_is
  where
    go : (t : Option TargetDef) (h : Option HostDef) → host_of s dev ≡ h
        → target_latency t (host_latency h) ≡ Some d.latency → is_some t ≡ true
    go (Some t) h e l = refl
    go None (Some h) e l = wrong' (sym none ∙ host_any s.hosts dev (ap (λ (x : Option HostDef). is_some x) e))
    go None None e l = absurd (none_some d.latency l)

-- ---- the ends of a process, and of what an initiator calls for

-- The first is an initiator, the second none.
abbrev AreHosts : ScenarioValue → ℕ → ℕ → Type 0
AreHosts s a b = (is_initiator s.hosts a ≡ true) × (is_initiator s.hosts b ≡ false)

by_command : (s : ScenarioValue) (id : ProcId) (c : CmdDef) → AreHosts s c.host c.target
    → AreHosts s (process_by s id c).initiator (process_by s id c).target
by_command s id c h = go id.sense
  where
    go : (q : Bool) → AreHosts s (if q then sense_process s id c else command_process s id c).initiator
        (if q then sense_process s id c else command_process s id c).target
    go true = h
    go false = h

process_ends : (s : ScenarioValue) (id : ProcId) (t : Process) → FitsBus s → process_of s id ≡ Some t
    → AreHosts s t.initiator t.target
process_ends s id t fits e = by_option (command_at s.commands id.command)
    (λ z. absurd (none_some t (sym (ap (process_if s id) z) ∙ e)))
    (λ c z. let line = command_fits s id.command c fits z in subst (λ (x : Process). AreHosts s x.initiator x.target)
    (same_Some (process_by s id c) t (sym (ap (process_if s id) z) ∙ e))
    (by_command s id c (line.host_is, line.target_is)))

-- What an initiator calls is none.
aim_target : (s : ScenarioValue) (aim : Option Item) (m : ℕ) → FitsBus s → target_of s aim ≡ Some m
    → is_initiator s.hosts m ≡ false
aim_target s None m fits e = absurd (none_some m e)
aim_target s (Some (process id)) m fits e =
    by_option (process_of s id) (λ z. absurd (none_some m (sym (ap target_if z) ∙ e))) (λ p z.
    ap (is_initiator s.hosts) (sym (same_Some p.target m (sym (ap target_if z) ∙ e))) ∙ (process_ends s id p fits z).1)
aim_target s (Some (abort k)) m fits e = by_option (abort_line_at s.aborts k)
    (λ z. absurd (none_some m (sym (ap abort_target z) ∙ e)))
    (λ a z. ap (is_initiator s.hosts) (sym (same_Some a.target m (sym (ap abort_target z) ∙ e)))
    ∙ (abort_fits s k a fits z).target_is)

-- ---- a connection begins

due_ends : (s : ScenarioValue) (p : List Row) (c t : ℕ) (x : Calling) (n : Connection) → FitsBus s → AreOfDevices p
    → IsDueCall s p c x → connected c x t ≡ n → HasDevice s n.target → HasEnds s n
due_ends s p c t x n fits dv d same there = by_bool x.reselects (λ r. let g : n.target ≡ c =
    ap (λ (w : Connection). w.target) (sym same) ∙ ap (λ (q : Bool). if q then c else x.called) r in
    let ready = made.reselects (ap (λ (w : Connection). w.reselected) (sym same) ∙ r) in
    ends (ap (is_initiator s.hosts) (sym ready.initiator_is)
    ∙ (process_ends s ready.ready.process.id ready.process fits ready.process_is).0)
    (ap (is_initiator s.hosts) g ∙ d.host_is ∙ ap not r))
    (λ r. let i : n.initiator ≡ c = ap (λ (w : Connection). w.initiator) (sym same)
    ∙ ap (λ (q : Bool). if q then x.called else c) r in let g : n.target ≡ x.called =
    ap (λ (w : Connection). w.target) (sym same) ∙ ap (λ (q : Bool). if q then c else x.called) r in
    let host : is_initiator s.hosts c ≡ true = d.host_is ∙ ap not r in
    let aim = aim_of (run_state s p).story.aims c in let called : target_of s aim ≡ Some x.called =
    sym (ap (λ (q : Bool). if q then target_of s aim else initiator_if (ready_of s (run_state s p) c)) host)
    ∙ d.callee_is in
    ends (ap (is_initiator s.hosts) i ∙ host) (ap (is_initiator s.hosts) g ∙ aim_target s aim x.called fits called))
  where
    made : IsMadeFor s (run_state s p) n
    made = made_of s p c t x n (units_are s fits) (own_units s p (seats_are s fits) dv) d same

    ends : is_initiator s.hosts n.initiator ≡ true → is_initiator s.hosts n.target ≡ false → HasEnds s n
    ends host none =
        record { initiator = host_found s.hosts n.initiator host; target = target_found s n.target there none }

made_ends : (s : ScenarioValue) (p : List Row) (t : ℕ) (n : Connection) → FitsBus s → AreOfDevices p → IsCalled s p
    → HasDevice s n.target → connection_of (call p) t ≡ Some n → HasEnds s n
made_ends s p t n fits dv was there e = by_call (call p) refl e
  where
    by_calling : (c : Call) → call p ≡ Some c → (o : Option Calling) → c.calling ≡ o
        → connected_of c.caller o t ≡ Some n → HasEnds s n
    by_calling c ek None _ z = absurd (none_some n z)
    by_calling c ek (Some x) some z =
        due_ends s p c.caller t x n fits dv (was c x ek some) (by_answer c.caller x x.answered t n z) there

    by_call : (o : Option Call) → call p ≡ o → connection_of o t ≡ Some n → HasEnds s n
    by_call None _ z = absurd (none_some n z)
    by_call (Some c) some z = by_calling c some c.calling refl z

-- The target of a connection drives BSY, so it is there.
drives_none : (p : List Row) (d : ℕ) → drives p d ≡ none → (drives p d).bsy ≡ true → ⊥
drives_none p d e b = wrong (sym b ∙ ap (λ (l : LineSet). l.bsy) e)

target_drives : (s : ScenarioValue) (p : List Row) (n : Connection) → LinkStage s p n
    → ((drives p n.target).bsy ≡ true) × (n.target < 8)
target_drives s p n (when_selected h) = (ap (λ (l : LineSet). l.bsy) h.linked.target, h.linked.target_below)
target_drives s p n (when_settling bsy atn msg cd io y h) =
    (ap (λ (l : LineSet). l.bsy) h.linked.target, h.linked.target_below)
target_drives s p n (when_turning atn x msg cd h) = (ap (λ (l : LineSet). l.bsy) h.linked.target, h.linked.target_below)
target_drives s p n (when_offering atn msg cd y h) =
    (ap (λ (l : LineSet). l.bsy) h.linked.target, h.linked.target_below)
target_drives s p n (when_shaking msg cd io req ack atn x y h) =
    (ap (λ (l : LineSet). l.bsy) h.linked.target, h.linked.target_below)
target_drives s p n (when_pulsing io req ack atn x y h a) =
    (ap (λ (l : LineSet). l.bsy) h.linked.target, h.linked.target_below)

target_there : (s : ScenarioValue) (p : List Row) (n : Connection) → Stood s p → connection p ≡ Some n
    → (bus p).rst ≡ false → HasDevice s n.target
target_there s p n was e off = go was.here
  where
    by_link : (m : Connection) → LinkStage s p m → HasDevice s m.target
    by_link m h =
        let w = target_drives s p m h in
        elim (was.standing.there m.target w.1) [
          | inl quiet ↦ absurd (drives_none p m.target quiet w.0)
          | inr there ↦ there
        ]

    go : AnyStage s p → HasDevice s n.target
    go (apart h alone) = wrong (sym (λ i. is_some (e i) && not (off i)) ∙ alone)
    go (linked m h) = subst (λ (x : Connection). HasDevice s x.target)
        (same_Some m n (sym (link_connection s p m h) ∙ e)) (by_link m h)

-- ---- any row

first_ends : (s : ScenarioValue) (p : List Row) (row : Row) (n : Connection) → FitsBus s → Stood s p → Stood s (row ∷ p)
    → row.dev < 8 → broken_rule p row ≡ None → connection p ≡ None → connection (row ∷ p) ≡ Some n → HasEnds s n
first_ends s p row n fits was now lt obeys alone e = go (bus (row ∷ p)).rst refl (bus p).rst refl
  where
    made : Made p row n
    made = made_is p row n alone e

    stage : AnyStage s p → BusStage s p
    stage (apart h alone) = h
    stage (linked m h) = absurd (none_some m (sym alone ∙ link_connection s p m h))

    go : (q : Bool) → (bus (row ∷ p)).rst ≡ q → (r : Bool) → (bus p).rst ≡ r → HasEnds s n
    go true f r g = absurd (none_some n (sym ((λ i. connection_after (alone i) (call p) (change_of p row) row)
        ∙ fallen (falls (bus p).sel (bus (row ∷ p)).sel) (bus (row ∷ p)).bsy f) ∙ e))
      where
        fallen : (a b : Bool) → (bus (row ∷ p)).rst ≡ true
            → (if a && b && not (bus (row ∷ p)).rst then connection_of (call p) row.time else None) ≡ None
        fallen true true z = ap (λ (x : Bool). if not x then connection_of (call p) row.time else None) z
        fallen true false z = refl
        fallen false b z = refl
    go false f true g =
        let quiet = quiet_sel (bus p) (same_set-eq (union only_rst (bus p)) only_rst
        (quiet_at_end s p row lt obeys (under_rst s p (stage was.here) g) f)) in
        wrong' (sym (λ i. falls (quiet i) (bus (row ∷ p)).sel) ∙ made.sel)
    go false f false g = made_ends s p row.time n fits was.standing.devices (was.called alone g)
        (target_there s (row ∷ p) n now e f) made.made

pub ends_on : (s : ScenarioValue) (p : List Row) (row : Row) → FitsBus s → Stood s p → Stood s (row ∷ p) → row.dev < 8
    → broken_rule p row ≡ None → AreEnds s p → AreEnds s (row ∷ p)
ends_on s p row fits was now lt obeys ends n e =
    by_option (connection p) (λ alone. first_ends s p row n fits was now lt obeys alone e) (λ m stood. subst
    (HasEnds s) (same m (bus (row ∷ p)).bsy (sym (λ i. connection_after (stood i) (call p) (change_of p row) row) ∙ e))
    (ends m stood))
  where
    same : (m : Connection) (q : Bool) → (if q then Some m else None) ≡ Some n → m ≡ n
    same m true z = same_Some m n z
    same m false z = absurd (none_some n z)

-- ---- The target of a connection goes to BUS FREE only where it is due to.

left_so : (a b c : Bool) → a ≡ true → (a || b || c) ≡ true
left_so true b c e = refl
left_so false b c e = absurd (false_true e)
  where
    false_true : false ≡ true → ⊥
    false_true z = absurd cc

free_so : (a b c : Bool) → c ≡ true → (a || b || c) ≡ true
free_so true b c e = refl
free_so false true c e = refl
free_so false false c e = e

pub left_row : (s : ScenarioValue) (p : List Row) (row : Row) → Obeys s
    → IsPrompt s (row ∷ p) → Stood s p → row.dev < 8 → broken_rule p row ≡ None
    → is_left_as_due s (run_state s p) (row_reading (run_state s p).story.bus_state row) ≡ true
left_row s p row o prompt was lt obeys = (λ i. is_left_by s k d (was.plain.connection i)) ∙ go (connection p) refl
  where
    k : RunState
    k = run_state s p

    d : RowReading
    d = row_reading k.story.bus_state row

    after : d.change.after.rst ≡ (bus (row ∷ p)).rst
    after = ap (λ (x : Change). x.after.rst) (change_plain s row p was.standing.devices lt)

    -- RST was true before the row, and is false after it
    ended : AnyStage s p → (n : Connection) → connection p ≡ Some n → (bus p).rst ≡ true → (bus (row ∷ p)).rst ≡ false
        → is_left_by s k d (Some n) ≡ true
    ended (apart h alone) n e on off = absurd (none_some n (sym (apart_connection s p row lt obeys h alone off) ∙ e))
    ended (linked m h) n e on off = wrong (sym on ∙ link_calm s p m h)

    by_facts : (n : Connection) → RowFacts s p row n → is_left_by s k d (Some n) ≡ true
    by_facts n (stays g) = or_middle d.change.after.rst (is_some d.next) (is_none (leaving s k n.target).to)
        ((λ i. is_some (connection_after (g.row_is.connection_is i) k.story.bus_state.call (g.row_is.change_is i) row))
        ∙ ap (λ (q : Bool). is_some (if q then Some n else None)) g.row_is.stands)
    by_facts n (ends_here g) = free_so d.change.after.rst (is_some d.next) (is_none (leaving s k n.target).to)
        (ap (λ (x : Option Phase). is_none x) g.whereto)

    by_rst : (n : Connection) → connection p ≡ Some n → (q r : Bool) → (bus (row ∷ p)).rst ≡ q → (bus p).rst ≡ r
        → is_left_by s k d (Some n) ≡ true
    by_rst n e true r f g = left_so d.change.after.rst (is_some d.next) (is_none (leaving s k n.target).to) (after ∙ f)
    by_rst n e false true f g = ended was.here n e g f
    by_rst n e false false f g = by_facts n (connection_row s p row n o prompt was e g f).facts

    go : (x : Option Connection) → connection p ≡ x → is_left_by s k d x ≡ true
    go None e = refl
    go (Some n) e = by_rst n e (bus (row ∷ p)).rst (bus p).rst refl refl
