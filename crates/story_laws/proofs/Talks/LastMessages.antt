-- COMMAND COMPLETE is the last message of a connection: nothing but BUS FREE is planned after it; and an automatic
-- REQUEST SENSE is never disconnected.
use Rattle.story_laws.proofs
use proofs.Names.{ℕ, ◌≡◌, ◌+◌, Bool, true, false, not, ◌&&◌, ◌||◌, ◌∙◌, List, length, Option, Some, None, refl, sym, ap}
use proofs.Names.{arith, ◌==◌, nat_tests, same_Some, if◌then◌else◌, is_none, nat_lt, wrong, wrong', ProcId, LineSet}
use proofs.Names.{command_of, ScenarioValue, CmdDef, Policy, none_named, is_request_sense, range_in, Process}
use proofs.Names.{process_of, process_if, process_by, command_at, sense_block, Array, unit_state_at, Item, process}
use proofs.Names.{abort, policy_of, arrival_by, runs_in, runs_in_all, message_bytes, from_byte, Serving, phase_of}
use proofs.Names.{leaving_by, Arrival, Leaving, Messages, Next, Phase, Room, Task, target_def_of, RunState, bus_of}
use proofs.Names.{array_of, process_item, process_served, arrival_at, serving_of, task_if, blocks_in, room_of}
use proofs.Names.{arrival_if, none_some, by_option, is_complete_in, is_disconnect_in, frees_bus, plans_well}
use proofs.Names.{is_sense_item}
use Rattle.row_laws.specs.link_laws.proofs.LeavingWays as ways

abbrev Well : Bool → Leaving → Type 0
Well stays l = plans_well stays l.messages l.next ≡ true

abbrev pub is_queued : Arrival → Bool
is_queued Arrival.Queued = true
is_queued _ = false

-- What is served stays where it does not wait, and has one run at most.
pub record Stays (v : Serving) (phase : Phase) : Type 0 where
  pub arrives : phase ≡ Phase.Command → is_queued v.arrival ≡ false
  pub runs : (t : Task) → v.task ≡ Some t → nat_lt (t.runs + 1) (runs_in_all (policy_of v.def) t) ≡ false

left_well : (stays : Bool) (v : Serving) {attention : Bool} {phase : Phase} {l : Leaving}
    → ways.Leaves v attention phase l → (stays ≡ true → Stays v phase)
    → plans_well stays v.plan.messages v.plan.next ≡ true → Well stays l
left_well stays v (ways.repeats _ _) st h = h
left_well true v (ways.queues _ a) st h = wrong (sym (ap is_queued a) ∙ (st refl).arrives refl)
left_well true v (ways.saves _ t _ r _) st h = wrong (sym r.more_is ∙ (st refl).runs t r.task_is)
left_well true v (ways.disconnects _ t _ r _) st h = wrong (sym r.more_is ∙ (st refl).runs t r.task_is)
left_well true v _ st h = refl
left_well false v _ st h = refl

pub leaves_well : (stays : Bool) (v : Serving) (begun : Bool) (bus : LineSet) → (stays ≡ true → Stays v (phase_of bus))
    → plans_well stays v.plan.messages v.plan.next ≡ true → Well stays (leaving_by v begun bus)
leaves_well stays v true bus st h = left_well stays v (ways.leaves v bus.atn (phase_of bus)) st h
leaves_well true v false bus st h = refl
leaves_well false v false bus st h = refl

-- Those that are left as MESSAGE OUT begins.
pub from_well : (stays : Bool) (m : Messages) (next : Next) (count : ℕ) → plans_well stays m next ≡ true
    → plans_well stays (from_byte m count) next ≡ true
from_well stays m next count h = go (nat_lt count (length (message_bytes m.first)))
  where
    part : (w a b c d e : Bool)
        → (not a && (not b || (c && d)) && (not w || (not e && not (is_disconnect_in m.second)))) ≡ true
        → a ≡ is_complete_in m.second → plans_well w (record { first = m.second; second = None }) next ≡ true
    part w a b c d e z f = by w (is_complete_in m.second) (is_disconnect_in m.second) b c d e
        ((λ i. not (sym f i) && (not b || (c && d)) && (not w || (not e && not (is_disconnect_in m.second)))) ∙ z)
      where
        by : (w a x b c d e : Bool) → (not a && (not b || (c && d)) && (not w || (not e && not x))) ≡ true
            → (true && (not a || (true && frees_bus next)) && (not w || (not x && true))) ≡ true
        by w true x b c d e y = wrong' y
        by true false true true true true true y = wrong' y
        by true false true true true true false y = wrong' y
        by true false true true true false e y = wrong' y
        by true false true true false d e y = wrong' y
        by true false true false c d true y = wrong' y
        by true false true false c d false y = wrong' y
        by true false false b c d e y = refl
        by false false x b c d e y = refl

    go : (q : Bool) → plans_well stays (if q then m else record { first = m.second; second = None }) next ≡ true
    go true = h
    go false = part stays (is_complete_in m.second) (is_complete_in m.first) (is_none m.second) (frees_bus next)
        (is_disconnect_in m.first) h refl

-- ---- an automatic REQUEST SENSE stays

-- Its command descriptor block.
sense_cdb : (s : ScenarioValue) (id : ProcId) (t : Process) → process_of s id ≡ Some t → id.sense ≡ true
    → t.cdb ≡ sense_block
sense_cdb s id t e f = by_option (command_at s.commands id.command) (λ z. absurd
    (none_some t (sym (ap (λ (x : Option CmdDef). process_if s id x) z) ∙ e))) (λ c z. sym (ap (λ (x : Process). x.cdb)
    (same_Some (process_by s id c) t (sym (ap (λ (x : Option CmdDef). process_if s id x) z) ∙ e))) ∙ by id.sense c f)
  where
    by : (q : Bool) (c : CmdDef) → q ≡ true
        → (process_by s (record { command = id.command; sense = q }) c).cdb ≡ sense_block
    by true c z = refl
    by false c z = wrong' z

guest : (a : Array) (policy : Policy) (c : Process) → is_request_sense (command_of c.cdb) ≡ true
    → is_queued (arrival_if policy a (Some c)) ≡ false
guest a policy c e =
    ap (λ (q : Bool). is_queued (arrival_by policy q (room_of a (unit_state_at a.units c.target c.unit)))) e
    ∙ go (room_of a (unit_state_at a.units c.target c.unit))
  where
    go : (r : Option Room) → is_queued (arrival_by policy true r) ≡ false
    go None = refl
    go (Some room) = refl

-- Only reads and writes of blocks have more than one run.
pub one_run : (policy : Policy) (t : Task) → t.blocks ≡ None → nat_lt (t.runs + 1) (runs_in_all policy t) ≡ false
one_run policy t e =
    ap (λ (b : Option ℕ). nat_lt (t.runs + 1) (if t.moved == 0 then 0 else runs_in policy b)) e ∙ go (t.moved == 0)
  where
    go : (q : Bool) → nat_lt (t.runs + 1) (if q then 0 else 1) ≡ false
    go true = grind (arith, nat_tests)
    go false = grind (arith, nat_tests)

pub sense_stays : (s : ScenarioValue) (k : RunState) (dev : ℕ) → is_sense_item k.served ≡ true
    → Stays (serving_of s k dev) (phase_of (bus_of k))
sense_stays s k dev e = record {
  arrives = λ z. ap (λ (x : Phase). is_queued (arrival_at s k dev x)) z ∙ arrives (process_served s k) own;
  runs = λ t f. runs (process_served s k) own t f;
}
  where
    of : (x : Option Item) → is_sense_item x ≡ true → (a : Process) → process_item s x ≡ Some a → a.cdb ≡ sense_block
    of None y a z = wrong' y
    of (Some (process id)) y a z = sense_cdb s id a z y
    of (Some (abort n)) y a z = wrong' y

    own : (a : Process) → process_served s k ≡ Some a → a.cdb ≡ sense_block
    own a z = of k.served e a z

    arrives : (o : Option Process) → ((a : Process) → o ≡ Some a → a.cdb ≡ sense_block)
        → is_queued (arrival_if (policy_of (target_def_of s dev)) (array_of s k) o) ≡ false
    arrives None f = refl
    arrives (Some a) f = guest (array_of s k) (policy_of (target_def_of s dev)) a
        (ap (λ (c : List ℕ). is_request_sense (command_of c)) (f a refl))

    runs : (o : Option Process) → ((a : Process) → o ≡ Some a → a.cdb ≡ sense_block) → (t : Task)
        → task_if s k o ≡ Some t → nat_lt (t.runs + 1) (runs_in_all (policy_of (target_def_of s dev)) t) ≡ false
    runs None f t z = absurd (none_some t z)
    runs (Some a) f t z =
        one_run (policy_of (target_def_of s dev)) t (sym (ap (λ (x : Option Task). (or_task t x).blocks) z)
        ∙ ap blocks_in (none_named a (ap (λ (c : List ℕ). range_in (command_of c)) (f a refl))))
      where
        or_task : Task → Option Task → Task
        or_task x None = x
        or_task x (Some y) = y
