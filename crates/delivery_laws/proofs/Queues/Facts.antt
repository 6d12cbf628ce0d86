-- Where each queue has room for all commands that the initiators may have open at once, no command is refused.
use Rattle.delivery_laws.proofs
use proofs.Names.{ℕ, suc, ◌≡◌, ◌≤◌, ◌+◌, Bool, true, false, not, ◌&&◌, ◌∙◌, List, [], ◌∷◌, ◌++◌, Option, Some, None}
use proofs.Names.{refl, sym, ap, subst, length, arith, inl, inr, and_from, not-true, or_parts, not-false, cases_Bool}
use proofs.Names.{nat_tests, same_Some, list_any, if◌then◌else◌, ◌==◌, is_some, nat_lt, nat_le, and_first, and_second}
use proofs.Names.{wrong, wrong', Event, ProcId, LineSet, is_command, Row, Change, command_of, units_of, ScenarioValue}
use proofs.Names.{Obeys, CmdDef, UnitDef, id_turned, array_after, array_step, is_request_sense, choice, without_process}
use proofs.Names.{Process, process_of, same_id, is_initiator, Array, Nexus, RunningProcess, UnitState, has_no_current}
use proofs.Names.{is_held, starting_array, starting_units, unit_after_choice, unit_state_at, with_current, with_unit}
use proofs.Names.{carried_id, RowReading, row_reading, CarriedBytes, carried_if, row_events_by, Item, Sent, process}
use proofs.Names.{abort, command_id, command_item, has_item, is_open, open_limit_of, Link, is_roomy, most_open}
use proofs.Names.{phase_of, Phase, prompt_plain, IsPrompt, IsPlain, RunState, array_of, bus_of, carried_here, or_start}
use proofs.Names.{run_state, command_fits, obeys_fits, writers, process_id, is_in_phase, command_phase, MayWait}
use proofs.Names.{StaysSo, each_settled, events_all, unit_has, append_all, kept_all, without_all, NextStood, AllP}
use proofs.Names.{IsQueued, RunsP, UnitsP, IsAway, IsUntouched, OnUnit, OnUnits, Runs, Waits, AllUnits, IsOther}
use proofs.Names.{IsWrittenUnit, items_open, IsServedOpen, Whole, standing_next, whole, ArrivesNow, arrives_first}
use proofs.{Names.{OfCommand, of_command, GoesSo, IsNew, here_goes, known_served, new_here}, Queues.Counts.{AreOnce}}
use proofs.Queues.Counts.{IsAnother, IsMarked, both, count_from, count_less, hosts_bound, is_open_of, of_host}
use proofs.Queues.{Counts.{processes_fit, less_again}, Open.{open_within}, Taken.{AreTaken, row_taken, taken_both}}
use Rattle.due_model.specs.array_model.specs.Steps

-- ---- in each unit each process waits once, and there is room for as many

abbrev IsRoomy : ℕ → UnitState → Type 0
IsRoomy most u = AreOnce u.waiting × (most ≤ u.depth)

once_without : (waiting : List Process) (id : ProcId) → AreOnce waiting → AreOnce (without_process waiting id)
once_without [] id h = tt
once_without (c ∷ waiting) id h =
    elim (cases_Bool (same_id c.id id)) [
      | inl e ↦ rw e (once_without waiting id h.1)
      | inr e ↦ rw e (without_all (IsAnother c) waiting id h.0, (once_without waiting id h.1))
    ]

once_kept : (drops : Process → Bool) (waiting : List Process) → AreOnce waiting
    → AreOnce (Steps.kept_processes drops waiting)
once_kept drops [] h = tt
once_kept drops (c ∷ waiting) h =
    elim (cases_Bool (drops c)) [
      | inl e ↦ rw e (once_kept drops waiting h.1)
      | inr e ↦ rw e (kept_all (IsAnother c) drops waiting h.0, (once_kept drops waiting h.1))
    ]

once_more : (waiting : List Process) (c : Process) → AreOnce waiting → AllP (λ x. same_id c.id x.id ≡ false) waiting
    → AreOnce (waiting ++ c ∷ [])
once_more [] c h g = (tt, tt)
once_more (w ∷ waiting) c h g = (append_all (IsAnother w) waiting c h.0 g.0, once_more waiting c h.1 g.1)

roomy_stays : (most : ℕ) → StaysSo (IsRoomy most)
roomy_stays most = record {
  contents = λ u c h. h;
  replied = λ u id reply h. h;
  without = λ u id h. (once_without u.waiting id h.0, h.1);
  kept = λ u drops h. (once_kept drops u.waiting h.0, h.1);
  chosen = chosen;
}
  where
    chosen : (u : UnitState) (holds : List Nexus) → IsRoomy most u → IsRoomy most (unit_after_choice holds u)
    chosen u holds h = go (has_no_current u.current && not (is_held holds u.target u.unit)) (choice u.pick u.waiting)
      where
        go : (x : Bool) (t : Option Process) → IsRoomy most (if x then with_current u t else u)
        go true None = h
        go true (Some t) = (once_without u.waiting t.id h.0, h.1)
        go false t = h

le_of : (a b : ℕ) → nat_le a b ≡ true → a ≤ b
le_of a b e = grind (arith, nat_tests)

roomy_start : (s : ScenarioValue) (most : ℕ) (units : List UnitDef)
    → list_any (λ (u : UnitDef). not (nat_le most u.depth)) units ≡ false
    → AllUnits (IsRoomy most) (starting_units s units)
roomy_start s most [] e = tt
roomy_start s most (u ∷ units) e =
    let two = or_parts (not (nat_le most u.depth)) (list_any (λ (x : UnitDef). not (nat_le most x.depth)) units) e in
    ((tt, le_of most u.depth (not-false (nat_le most u.depth) two.0)), roomy_start s most units two.1)

-- ---- a command that arrives

pub record Arriving (s : ScenarioValue) (k : RunState) (a : Array) (id : ProcId) : Type 0 where
  pub def : Process
  pub def_is : process_of s id ≡ Some def
  pub untouched : IsUntouched a id
  pub sent : has_item k.story.sent.sent (process id) ≡ true
  pub opens : has_item k.story.sent.over (process id) ≡ false

-- It is served, and COMMAND is left.
arrives_so : (s : ScenarioValue) (p : List Row) (row : Row) (w : Whole s p)
    → NextStood s p row → IsPlain s p (run_state s p) → (l : Link) (c : CarriedBytes)
    → ArrivesNow (run_state s p).story (row_reading (run_state s p).story.bus_state row) l c
    → (id : ProcId) → l.item ≡ Some (process id) → Arriving s (run_state s p) w.places.array id
arrives_so s p row w next pl l c v id item = record {
  def = named.0;
  def_is = named.1;
  untouched = subst (λ (x : ProcId). IsUntouched w.places.array x) new.id_is new.untouched;
  sent = open_items.sent (process id) served;
  opens = open_items.open_is (process id) served (ap is_in_phase phase);
}
  where
    k : RunState
    k = run_state s p

    g : GoesSo s k row
    g = here_goes s k row l id (λ e. (w.facts.items.items.apart e).0) next.row_is
        (record { link_is = v.link_is; item_is = item; calm = v.calm; stands = v.stands })

    served : k.served ≡ Some (process id)
    served = known_served s k row g.connection g.change l id w.stood.books g.goes v.link_is item

    phase : phase_of (bus_of k) ≡ Phase.Command
    phase = command_phase (bus_of k)
        (ap is_command (g.goes.row_is.bus_is ∙ ap (λ (x : Change). x.before) (sym g.goes.row_is.change_is)) ∙ v.command)

    new : IsNew s w.places.array id
    new = new_here s k row g.connection g.change id w.places g.goes served phase

    named : (x : Process) × (process_of s id ≡ Some x)
    named = w.places.of_scenario id served

    open_items : IsServedOpen k
    open_items = items_open s p g.connection w.stood w.facts.items (sym pl.connection ∙ g.goes.row_is.connection_is)
        (ap (λ (x : LineSet). x.rst) (sym pl.bus) ∙ g.goes.calm)

pub arriving : (s : ScenarioValue) (p : List Row) (row : Row) (w : Whole s p)
    → NextStood s p row → IsPlain s p (run_state s p) → (l : Link) (c : CarriedBytes)
    → ArrivesNow (run_state s p).story (row_reading (run_state s p).story.bus_state row) l c
    → Arriving s (run_state s p) w.places.array c.id
arriving s p row w next pl l c v = known l.item refl v.carried_is
  where
    k : RunState
    k = run_state s p

    none_carried : {A : Type 0} → (let o : Option CarriedBytes = None in o) ≡ Some c → A
    none_carried z = absurd cc

    known : (o : Option Item) → l.item ≡ o → carried_if k.story o ≡ Some c → Arriving s k w.places.array c.id
    known None e f = none_carried f
    known (Some (abort n)) e f = none_carried f
    known (Some (process id)) e f = subst (λ (x : ProcId). Arriving s k w.places.array x) (sym
        (ap (λ (x : CarriedBytes). x.id) (sym (same_Some (carried_here k id) c f)) ∙ carried_id k.story.carried id))
        (arrives_so s p row w next pl l c v id e)

-- ---- what stands in a unit

waits_at : (q : RunningProcess → Type 0) (r : Process → Type 0) (waiting : List Process)
    → ((c : Process) → q (Rattle.due_model.specs.array_model.specs.Units.without_reply c) → r c) → Waits q waiting
    → AllP r waiting
waits_at q r [] f h = tt
waits_at q r (c ∷ waiting) f h = (f c h.0, waits_at q r waiting f h.1)

at_units : (q : RunningProcess → Type 0) (units : List UnitState) → OnUnits q units → AllUnits (OnUnit q) units
at_units q [] h = tt
at_units q (u ∷ units) h = (h.0, at_units q units h.1)

abbrev HasProcesses : (Process → Type 0) → UnitState → Type 0
HasProcesses q u = AllP q u.waiting × RunsP q u.current

processes_at : (q : Process → Type 0) (units : List UnitState) → UnitsP q units → AllUnits (HasProcesses q) units
processes_at q [] h = tt
processes_at q (u ∷ units) h = (h.0, processes_at q units h.1)

map_waiting : (q r : Process → Type 0) (waiting : List Process) → ((c : Process) → q c → r c) → AllP q waiting
    → AllP r waiting
map_waiting q r [] f h = tt
map_waiting q r (c ∷ waiting) f h = (f c h.0, map_waiting q r waiting f h.1)

-- ---- the row

roomy_next : (s : ScenarioValue) (p : List Row) (row : Row) → Obeys s → IsPrompt s (row ∷ p)
    → is_roomy s ≡ true → AllUnits (IsRoomy (most_open s.hosts)) (array_of s (run_state s p)).units
    → AllUnits (IsRoomy (most_open s.hosts)) (array_of s (run_state s (row ∷ p))).units
roomy_next s p row o prompt roomy was = events_all s (IsRoomy (most_open s.hosts)) k.array
    (row_events_by s k.story d row) (roomy_stays (most_open s.hosts)) (arrives_first s k.story d row
    (MayWait s (IsRoomy (most_open s.hosts)) (array_of s k)) waits) (roomy_start s (most_open s.hosts) (units_of s)
    (not-true (list_any (λ (u : UnitDef). not (nat_le (most_open s.hosts) u.depth)) (units_of s)) roomy)) was
  where
    k : RunState
    k = run_state s p

    d : RowReading
    d = row_reading k.story.bus_state row

    w : Whole s p
    w = whole s p o prompt.0

    waits : (l : Link) (c : CarriedBytes) → ArrivesNow k.story d l c
        → MayWait s (IsRoomy (most_open s.hosts)) (array_of s k) c.id
    waits l c v q u is at h = (once_more u.waiting q h.0 others, h.1)
      where
        a : Arriving s k w.places.array c.id
        a = arriving s p row w (standing_next s p row o prompt w) (prompt_plain s p prompt.0) l c v

        own : q.id ≡ c.id
        own = process_id s c.id q is

        there : unit_state_at w.places.array.units q.target q.unit ≡ Some u
        there = (λ i. unit_state_at (or_start s (sym w.places.array_is i)).units q.target q.unit) ∙ at

        others : AllP (λ x. same_id q.id x.id ≡ false) u.waiting
        others = waits_at (IsAway c.id) (λ x. same_id q.id x.id ≡ false) u.waiting
            (λ x e. ap (λ (y : ProcId). same_id y x.id) own ∙ id_turned x.id c.id e)
            (unit_has (OnUnit (IsAway c.id)) w.places.array.units q.target q.unit u there
            (at_units (IsAway c.id) w.places.array.units a.untouched.away.units)).0

pub all_roomy : (s : ScenarioValue) (p : List Row) → Obeys s → IsPrompt s p → is_roomy s ≡ true
    → AllUnits (IsRoomy (most_open s.hosts)) (array_of s (run_state s p)).units
all_roomy s [] o prompt roomy = each_settled (IsRoomy (most_open s.hosts)) (starting_array s)
    (roomy_stays (most_open s.hosts)) (roomy_start s (most_open s.hosts) (units_of s)
    (not-true (list_any (λ (u : UnitDef). not (nat_le (most_open s.hosts) u.depth)) (units_of s)) roomy))
all_roomy s (row ∷ p) o prompt roomy = roomy_next s p row o prompt roomy (all_roomy s p o prompt.0 roomy)

-- ---- there is room for it

abbrev is_ours : ScenarioValue → Sent → ℕ → CmdDef → Bool
is_ours s b m c = is_initiator s.hosts c.host && is_open b m

same_command : (id : ProcId) → id.sense ≡ false → id ≡ command_id id.command
same_command id e = λ i. record { command = id.command; sense = e i }

not_over : (q r : Bool) → q ≡ true → r ≡ false → (q && not r) ≡ true
not_over q r e f = λ i. e i && not (f i)

open_now : (b : Sent) (id : ProcId) → id.sense ≡ false → has_item b.sent (process id) ≡ true
    → has_item b.over (process id) ≡ false → is_open b id.command ≡ true
open_now b id plain sent over = not_over (has_item b.sent (command_item id.command)) (has_item b.over
    (command_item id.command)) (ap (λ (x : ProcId). has_item b.sent (process x)) (sym (same_command id plain)) ∙ sent)
    (ap (λ (x : ProcId). has_item b.over (process x)) (sym (same_command id plain)) ∙ over)

marked : (s : ScenarioValue) (b : Sent) (c : Process) → Obeys s → process_of s c.id ≡ Some c
    → c.id.sense ≡ false → has_item b.sent (process c.id) ≡ true → has_item b.over (process c.id) ≡ false
    → IsMarked (is_ours s b) s.commands c
marked s b c o is plain sent over =
    let of : OfCommand s c.id c = of_command s c.id c is in
    record {
      def = of.def;
      def_is = of.def_is;
      plain = plain;
      passes = and_from (is_initiator s.hosts of.def.host) (is_open b c.id.command)
          (command_fits s c.id.command of.def (obeys_fits s o) of.def_is).host_is (open_now b c.id plain sent over);
    }

-- All open commands of the scenario are no more than all initiators may have open.
few_open : (s : ScenarioValue) (p : List Row) → Obeys s → IsPrompt s p
    → count_from (is_ours s (run_state s p).story.sent) 1 s.commands ≤ most_open s.hosts
few_open s p o prompt = hosts_bound s.hosts (is_ours s b) 1 s.commands (λ m c e. and_first (is_initiator s.hosts c.host)
    (is_open b m) e) (λ dev. less_again (count_from (both (is_ours s b) (of_host dev)) 1 s.commands)
    (count_from (is_open_of b dev) 1 s.commands) (open_limit_of s.hosts dev)
    (count_less (both (is_ours s b) (of_host dev)) (is_open_of b dev) 1 s.commands (pass dev))
    (open_within s p o prompt dev))
  where
    b : Sent
    b = (run_state s p).story.sent

    pass : (dev : ℕ) (m : ℕ) (c : CmdDef) → both (is_ours s b) (of_host dev) m c ≡ true → is_open_of b dev m c ≡ true
    pass dev m c e = and_from (c.host == dev) (is_open b m) (and_second (is_initiator s.hosts c.host && is_open b m)
        (c.host == dev) e) (and_second (is_initiator s.hosts c.host) (is_open b m)
        (and_first (is_initiator s.hosts c.host && is_open b m) (c.host == dev) e))

room_none : (i c m d : ℕ) → suc i ≤ c → c ≤ m → m ≤ d → nat_lt (i + 0) d ≡ true
room_none i c m d e f g = grind (arith, nat_tests)

room_one : (i c m d : ℕ) → suc (suc i) ≤ c → c ≤ m → m ≤ d → nat_lt (i + 1) d ≡ true
room_one i c m d e f g = grind (arith, nat_tests)

has_room : (s : ScenarioValue) (p : List Row) → Obeys s → IsPrompt s p → (w : Whole s p) → (x : Process)
    → process_of s x.id ≡ Some x → x.id.sense ≡ false → Arriving s (run_state s p) w.places.array x.id → (u : UnitState)
    → IsRoomy (most_open s.hosts) u → OnUnit (IsAway x.id) u → HasProcesses (IsQueued s (run_state s p).story.sent) u
    → Runs (λ r. AllP (IsOther r) u.waiting) u.current → nat_lt (Steps.process_count u) u.depth ≡ true
has_room s p o prompt w x is plain a u roomy away queued apart = by u.current refl away.1 queued.1 apart
  where
    b : Sent
    b = (run_state s p).story.sent

    own : IsMarked (is_ours s b) s.commands x
    own = marked s b x o is plain a.sent a.opens

    of_queue : (q : Process) → IsQueued s b q → IsMarked (is_ours s b) s.commands q
    of_queue q h = marked s b q o h.is h.command h.sent h.opens

    waiting : AllP (IsMarked (is_ours s b) s.commands) u.waiting
    waiting = map_waiting (IsQueued s b) (IsMarked (is_ours s b) s.commands) u.waiting of_queue queued.0

    others : AllP (IsAnother x) u.waiting
    others = waits_at (IsAway x.id) (IsAnother x) u.waiting (λ q e. e) away.0

    by : (c : Option RunningProcess) → u.current ≡ c → Runs (IsAway x.id) c → RunsP (IsQueued s b) c
        → Runs (λ r. AllP (IsOther r) u.waiting) c → nat_lt (Steps.process_count u) u.depth ≡ true
    by None e far here other =
        ap (λ (c : Option RunningProcess). nat_lt (length u.waiting + Steps.running_count c) u.depth) e
        ∙ room_none (length u.waiting) (count_from (is_ours s b) 1 s.commands) (most_open s.hosts) u.depth
        (processes_fit (is_ours s b) s.commands (x ∷ u.waiting) (own, waiting) (others, roomy.0))
        (few_open s p o prompt) roomy.1
    by (Some r) e far here other =
        ap (λ (c : Option RunningProcess). nat_lt (length u.waiting + Steps.running_count c) u.depth) e
        ∙ room_one (length u.waiting) (count_from (is_ours s b) 1 s.commands) (most_open s.hosts) u.depth
        (processes_fit (is_ours s b) s.commands (x ∷ (r.process ∷ u.waiting)) (own, (of_queue r.process here, waiting))
        ((far, others), (other, roomy.0))) (few_open s p o prompt) roomy.1

-- ---- it is accepted

accepted : (s : ScenarioValue) (p : List Row) (row : Row) → Obeys s
    → IsPrompt s (row ∷ p) → is_roomy s ≡ true → (l : Link) (c : CarriedBytes)
    → ArrivesNow (run_state s p).story (row_reading (run_state s p).story.bus_state row) l c
    → is_some (array_after s (Event.Accept c.id ∷ (run_state s p).story.history)) ≡ true
accepted s p row o prompt roomy l c v =
    ap (λ (x : Option Array). is_some (array_step s (Event.Accept c.id) x)) plays
    ∙ ap (λ (x : Option Process). is_some (Steps.settled_array_if (Steps.accept_step w.places.array x))) here.def_is
    ∙ by (unit_state_at w.places.array.units x.target x.unit) refl
  where
    k : RunState
    k = run_state s p

    w : Whole s p
    w = whole s p o prompt.0

    pl : IsPlain s p k
    pl = prompt_plain s p prompt.0

    here : Arriving s k w.places.array c.id
    here = arriving s p row w (standing_next s p row o prompt w) pl l c v

    x : Process
    x = here.def

    id_is : x.id ≡ c.id
    id_is = process_id s c.id x here.def_is

    plays : array_after s k.story.history ≡ Some w.places.array
    plays = (λ i. array_after s (pl.story i).history) ∙ sym pl.array ∙ w.places.array_is

    array_is : array_of s k ≡ w.places.array
    array_is = ap (or_start s) w.places.array_is

    queued : (u : UnitState) → unit_state_at w.places.array.units x.target x.unit ≡ Some u
        → is_request_sense (command_of x.cdb) ≡ false → nat_lt (Steps.process_count u) u.depth ≡ true
    queued u at other = has_room s p o prompt.0 w x (ap (process_of s) id_is ∙ here.def_is) plain
        (subst (λ (y : ProcId). Arriving s k w.places.array y) (sym id_is) here) u
        (unit_has (IsRoomy (most_open s.hosts)) w.places.array.units x.target x.unit u at (subst
        (λ (y : Array). AllUnits (IsRoomy (most_open s.hosts)) y.units) array_is (all_roomy s p o prompt.0 roomy)))
        (unit_has (OnUnit (IsAway x.id)) w.places.array.units x.target x.unit u at
        (subst (λ (y : ProcId). AllUnits (OnUnit (IsAway y)) w.places.array.units)
        (sym id_is) (at_units (IsAway c.id) w.places.array.units here.untouched.away.units)))
        (unit_has (HasProcesses (IsQueued s k.story.sent)) w.places.array.units x.target x.unit u at
        (subst (λ (y : Array). AllUnits (HasProcesses (IsQueued s k.story.sent)) y.units) array_is
        (processes_at (IsQueued s k.story.sent) (array_of s k).units w.facts.items.items.queued)))
        (unit_has (IsWrittenUnit k.progress (writers s p)) w.places.array.units x.target x.unit u at (subst
        (λ (y : Array). AllUnits (IsWrittenUnit k.progress (writers s p)) y.units) array_is w.writes.units)).apart
      where
        plain : x.id.sense ≡ false
        plain =
            (elim (cases_Bool x.id.sense) [
              | inl f ↦ wrong (sym ((of_command s x.id x (ap (process_of s) id_is ∙ here.def_is)).fetches f) ∙ other)
              | inr f ↦ f
            ])

    by : (u : Option UnitState) → unit_state_at w.places.array.units x.target x.unit ≡ u
        → is_some (Steps.settled_array_if (Steps.accept_step_at w.places.array x u)) ≡ true
    by None at = refl
    by (Some u) at = senses (is_request_sense (command_of x.cdb)) refl
      where
        placed : (q : Bool) → q ≡ true → is_some (Steps.settled_array_if (if q then Some (record w.places.array {
          units = with_unit w.places.array.units (record u { waiting = u.waiting ++ x ∷ [] });
        }) else None)) ≡ true
        placed true e = refl
        placed false e = wrong' e

        senses : (q : Bool) → is_request_sense (command_of x.cdb) ≡ q → is_some (Steps.settled_array_if
            (if q then Some (Steps.with_guest w.places.array x None) else Steps.queue_step w.places.array x u)) ≡ true
        senses true e = refl
        senses false e = placed (nat_lt (Steps.process_count u) u.depth) (queued u at e)

-- ---- no command is refused

pub none_refused : (s : ScenarioValue) (p : List Row) → Obeys s → is_roomy s ≡ true → IsPrompt s p
    → AreTaken (run_state s p).story.history
none_refused s [] o roomy prompt = refl
none_refused s (row ∷ p) o roomy prompt =
    let k : RunState = run_state s p in
    let d : RowReading = row_reading k.story.bus_state row in
    taken_both (row_events_by s k.story d row) k.story.history
    (row_taken s k.story d row (λ l c v. accepted s p row o prompt roomy l c v)) (none_refused s p o roomy prompt.0)
