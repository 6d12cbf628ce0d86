-- Where no device wants the bus and none has a connection, each command has its outcome: by what stands in the queues,
-- and by what is owed to those that stand in a hold.
use Rattle.progress_laws.proofs
use proofs.Names.{ℕ, zero, suc, ◌≡◌, ◌+◌, ◌<◌, Bool, true, false, not, ◌&&◌, ◌||◌, ◌∙◌, List, [], ◌∷◌, Option, Some}
use proofs.Names.{None, refl, sym, ap, subst, one-add, inl, inr, eqb-true, and_from, cases_Bool, same_Some, list_all}
use proofs.Names.{list_any, if◌then◌else◌, ◌==◌, is_some, wrong, eq_self, plus_none, ScenarioValue, Obeys, CmdDef}
use proofs.Names.{Process, command_at, process_by, process_if, process_of, is_initiator, IsSound, Array, Nexus}
use proofs.Names.{UnitState, is_at_unit, is_held, unit_state_at, Item, Sent, command_item, has_item, is_done}
use proofs.Names.{is_of_host, is_open, sense_from, sense_item, command_id, Outcome, ending_of, outcome_if, outcome_of}
use proofs.Names.{outcomes_from, latency_of, Ending, Story, is_ended, Ready, RunState, array_of, item_want_time}
use proofs.Names.{ready_of, ready_time, seek_of, want_time, command_fits, obeys_fits, IsCommandLine, is_served_by}
use proofs.Names.{HasDevice, some_none, none_some, plus_one, Items, AllUnits, AreOwed, AreQueued, IsOwed}
use proofs.Outcomes.{Seats.{initiator_there, some_open}, Unsent.{DoneBy, NoneOpen, no_sense_wanted, sent_all}}
use proofs.Queues.Units.{HasQueue, IsThere, current_there, not_ready, process_there, queue_found}

-- ---- what is kept row by row

-- What is over has an ending.
abbrev pub HaveEndings : Story → Type 0
HaveEndings b = (m : ℕ) → has_item b.sent.over (command_item m) ≡ true → is_ended b.ended m ≡ true

pub record Resting (s : ScenarioValue) (k : RunState) : Type 0 where
  pub items : Items s k
  pub sound : IsSound s (array_of s k)
  pub there : AllUnits (λ u. HasDevice s u.target) (array_of s k).units
  pub queued : AreQueued s k
  pub owed : AreOwed s k.story.sent (array_of s k).holds
  pub endings : HaveEndings k.story

-- No device wants the bus.
abbrev pub AreUnwanted : ScenarioValue → RunState → Type 0
AreUnwanted s k = (dev latency : ℕ) → dev < 8 → latency_of s dev ≡ Some latency → want_time s k dev ≡ None

-- ---- an initiator that stands in a hold wants the bus

pub sense_left : {A : Type 0} (s : ScenarioValue) (b : Sent) (l : ℕ) (c : CmdDef) (checks : List ℕ)
    → command_at s.commands l ≡ Some c → is_done b (sense_item l) ≡ false → list_any (λ k. k == l) checks ≡ true
    → sense_from s b c.host checks ≡ None → A
sense_left s b l c [] at new e none = wrong (sym e)
sense_left {A = A} s b l c (m ∷ checks) at new e none = go (m == l) refl e
    (is_of_host (command_at s.commands m) c.host && not (is_done b (sense_item m))) refl none
    (λ z w. sense_left s b l c checks at new z w)
  where
    go : (q : Bool) → (m == l) ≡ q → (q || list_any (λ k. k == l) checks) ≡ true
        → (x : Bool) → (is_of_host (command_at s.commands m) c.host && not (is_done b (sense_item m))) ≡ x
        → (if x then Some (sense_item m) else sense_from s b c.host checks) ≡ None
        → (list_any (λ k. k == l) checks ≡ true → sense_from s b c.host checks ≡ None → A) → A
    go q z h true f none more = some_none (sense_item m) none
    go true z h false f none more =
        let same : m ≡ l = eqb-true m l z in
        let yes = and_from (is_of_host (command_at s.commands m) c.host) (not (is_done b (sense_item m)))
        ((λ i. is_of_host ((ap (command_at s.commands) same ∙ at) i) c.host) ∙ eq_self c.host)
        ((λ i. not (is_done b (sense_item (same i)))) ∙ ap not new) in
        wrong (sym yes ∙ f)
    go false z h false f none more = more h none

pub is_told : (s : ScenarioValue) (k : RunState) (m : ℕ) → Items s k → k.served ≡ None
    → has_item k.story.sent.over (sense_item m) ≡ false → has_item k.story.sent.sent (sense_item m) ≡ false
is_told s k m items rest opens =
    elim (cases_Bool (has_item k.story.sent.sent (sense_item m))) [
      | inl f ↦ absurd (no_item (sense_item m) (sym rest ∙ (items.senses m (λ i. f i && not (opens i))).0))
      | inr f ↦ f
    ]
  where
    no_item : (i : Item) → (let a : Option Item = None in a) ≡ Some i → ⊥
    no_item i e = absurd cc

-- The automatic REQUEST SENSE of a command that ended with CHECK CONDITION is over.
pub sense_wanted : {A : Type 0} (s : ScenarioValue) (k : RunState) (l : ℕ) (c : CmdDef)
    → Obeys s → Items s k → k.served ≡ None → AreUnwanted s k → command_at s.commands l ≡ Some c
    → list_any (λ m. m == l) k.story.sent.checks ≡ true → has_item k.story.sent.over (sense_item l) ≡ false → A
sense_wanted s k l c o items rest quiet at checked opens =
    let line : IsCommandLine s c = command_fits s l c (obeys_fits s o) at in
    let d = initiator_there s c.host line.host_is in
    let want = quiet c.host d.latency line.host d.latency_is in
    let item_is : item_want_time s k.story.sent c.host ≡ None = sym (ap
    (λ (x : Bool). if x then item_want_time s k.story.sent c.host else ready_time (ready_of s k c.host)) line.host_is)
    ∙ want in
    sense_left s k.story.sent l c k.story.sent.checks at (λ i. is_told s k l items rest opens i || opens i) checked
    (no_sense_wanted s k.story.sent c.host item_is)

held_wants : {A : Type 0} (s : ScenarioValue) (k : RunState) (t m : ℕ) (holds : List Nexus) → Obeys s → Items s k
    → k.served ≡ None → AreUnwanted s k → AreOwed s k.story.sent holds → is_held holds t m ≡ true → A
held_wants s k t m [] o items rest quiet owed e = wrong (sym e)
held_wants {A = A} s k t m (q ∷ holds) o items rest quiet owed e =
    go (is_at_unit q t m) e (λ z. held_wants s k t m holds o items rest quiet owed.1 z)
  where
    own : IsOwed s k.story.sent q → A
    own w = sense_wanted s k w.number w.def o items rest quiet w.def_is w.checked w.opens

    go : (x : Bool) → (x || is_held holds t m) ≡ true → (is_held holds t m ≡ true → A) → A
    go true z more = own owed.0
    go false z more = more z

-- ---- no command is open

no_time : (o : Option Ready) → ready_time o ≡ None → o ≡ None
no_time None e = refl
no_time (Some r) e = absurd (let w = e in some_time r.time w)
  where
    some_time : (t : ℕ) → (let a : Option ℕ = Some t in a) ≡ None → ⊥
    some_time t z = absurd cc

unit_there : (s : ScenarioValue) (units : List UnitState) (t m : ℕ) (u : UnitState) → unit_state_at units t m ≡ Some u
    → AllUnits (λ v. HasDevice s v.target) units → HasDevice s u.target
unit_there s [] t m u e h = absurd (no_unit e)
  where
    no_unit : (let a : Option UnitState = None in a) ≡ Some u → ⊥
    no_unit z = absurd cc
unit_there s (v ∷ units) t m u e h = go (v.target == t && v.unit == m) e (λ f. unit_there s units t m u f h.1)
  where
    go : (x : Bool) → (if x then Some v else unit_state_at units t m) ≡ Some u
        → (unit_state_at units t m ≡ Some u → HasDevice s u.target) → HasDevice s u.target
    go true f rest = subst (λ (w : UnitState). HasDevice s w.target) (same_Some v u f) h.0
    go false f rest = rest f

told_process : (s : ScenarioValue) (m : ℕ) (c : CmdDef) (t : Process) → command_at s.commands m ≡ Some c
    → process_of s (command_id m) ≡ Some t → (t.target ≡ c.target) × (t.unit ≡ c.unit)
told_process s m c t at e =
    let same : process_by s (command_id m) c ≡ t = same_Some
    (process_by s (command_id m) c) t (sym (ap (process_if s (command_id m)) at) ∙ e) in
    (ap (λ (x : Process). x.target) (sym same), ap (λ (x : Process). x.unit) (sym same))

not_open : (s : ScenarioValue) (k : RunState) (i : ℕ) (c : CmdDef) → Obeys s → Resting s k → k.served ≡ None
    → AreUnwanted s k → command_at s.commands i ≡ Some c → is_open k.story.sent i ≡ false
not_open s k i c o r rest quiet at = go (is_open k.story.sent i) refl
  where
    a : Array
    a = array_of s k

    by_unit : {A : Type 0} → HasQueue s a.units (command_id i) → A
    by_unit {A = A} h = by_hold (is_held a.holds h.unit.target h.unit.unit) refl
      where
        there : IsThere s h.unit (command_id i)
        there = process_there s h.unit (command_id i) h.own h.here

        line : IsCommandLine s c
        line = command_fits s i c (obeys_fits s o) at

        told : (there.process.target ≡ c.target) × (there.process.unit ≡ c.unit)
        told = told_process s i c there.process at there.is

        target_is : c.target ≡ h.unit.target
        target_is = sym told.0 ∙ there.target_is

        unit_below : h.unit.unit < 8
        unit_below = subst (λ (m : ℕ). m < 8) (sym told.1 ∙ there.unit_is) line.unit

        by_hold : (q : Bool) → is_held a.holds h.unit.target h.unit.unit ≡ q → A
        by_hold true e = held_wants s k h.unit.target h.unit.unit a.holds o r.items rest quiet r.owed e
        by_hold false e =
            let d : HasDevice s h.unit.target = unit_there s a.units h.unit.target h.unit.unit h.unit h.at r.there in
            let host : is_initiator s.hosts h.unit.target ≡ false = ap (is_initiator s.hosts) (sym target_is)
            ∙ line.target_is in
            let want = quiet h.unit.target d.latency (subst (λ (m : ℕ). m < 8) target_is line.target) d.latency_is in
            let none : ready_of s k h.unit.target ≡ None = no_time (ready_of s k h.unit.target)
            (sym (ap (λ (x : Bool). if x then item_want_time s k.story.sent h.unit.target
            else ready_time (ready_of s k h.unit.target)) host) ∙ want) in
            absurd (not_ready a k.current_since (seek_of s.targets h.unit.target) h.unit unit_below h.at e
            (current_there s a h.unit (command_id i) r.sound h.at h.here e) none)

    go : (q : Bool) → is_open k.story.sent i ≡ q → is_open k.story.sent i ≡ false
    go false e = e
    go true e = by_unit (queue_found s a (command_id i) r.sound
        (r.queued i c at e (ap (λ (x : Option Item). is_served_by x (command_id i)) rest)))

-- ---- of all commands

none_open : (b : Sent) (i : ℕ) (commands : List CmdDef)
    → ((m : ℕ) (c : CmdDef) → command_at commands (suc m) ≡ Some c → is_open b (i + m) ≡ false) → NoneOpen b i commands
none_open b i [] h = tt
none_open b i (c ∷ commands) h = (
  ap (is_open b) (sym (plus_none i)) ∙ h 0 c refl,
  none_open b (i + 1) commands (λ m d e. ap (is_open b) (sym (plus_one i m)) ∙ h (suc m) d e),
)

done_at : (b : Sent) (dev i m : ℕ) (c : CmdDef) (commands : List CmdDef) → DoneBy b dev i commands
    → command_at commands (suc m) ≡ Some c → c.host ≡ dev → is_done b (command_item (i + m)) ≡ true
done_at b dev i m c [] h at own = none_some c at
done_at b dev i zero c (d ∷ commands) h at own =
    let same : d ≡ c = same_Some d c at in
    ap (λ (l : ℕ). is_done b (command_item l)) (plus_none i)
    ∙ h.0 (ap (λ (l : ℕ). l == dev) (ap (λ (x : CmdDef). x.host) same ∙ own) ∙ eq_self dev)
done_at b dev i (suc m) c (d ∷ commands) h at own =
    ap (λ (l : ℕ). is_done b (command_item l)) (plus_one i m) ∙ done_at b dev (i + 1) m c commands h.1 at own

some_ending : (ended : List (ℕ × Ending)) (m : ℕ) → is_ended ended m ≡ true → is_some (ending_of ended m) ≡ true
some_ending [] m e = wrong (sym e)
some_ending (x ∷ ended) m e = go (x.0 == m) (λ z. some_ending ended m z) e
  where
    go : (q : Bool) → (is_ended ended m ≡ true → is_some (ending_of ended m) ≡ true) → (q || is_ended ended m) ≡ true
        → is_some (if q then Some x.1 else ending_of ended m) ≡ true
    go true more z = refl
    go false more z = more z

some_outcome : (s : ScenarioValue) (b : Story) (m : ℕ) → is_ended b.ended m ≡ true → is_some (outcome_of s b m) ≡ true
some_outcome s b m e = go (ending_of b.ended m) (some_ending b.ended m e)
  where
    go : (o : Option Ending) → is_some o ≡ true → is_some (outcome_if s b.history m o) ≡ true
    go None z = wrong (sym z)
    go (Some x) z = refl

each_outcome : (s : ScenarioValue) (b : Story) (l : ℕ) (commands : List CmdDef)
    → ((m : ℕ) (c : CmdDef) → command_at commands (suc m) ≡ Some c → is_ended b.ended (l + m) ≡ true)
    → list_all (λ (o : Option Outcome). is_some o) (outcomes_from s b l commands) ≡ true
each_outcome s b l [] h = refl
each_outcome s b l (c ∷ commands) h =
    (λ i. some_outcome s b l (ap (is_ended b.ended) (sym (plus_none l)) ∙ h 0 c refl) i
    && each_outcome s b (l + 1) commands (λ m d e. ap (is_ended b.ended) (sym (plus_one l m)) ∙ h (suc m) d e) i)

is_over : (q r : Bool) → (q || r) ≡ true → (q && not r) ≡ false → r ≡ true
is_over q true e f = refl
is_over true false e f = wrong f
is_over false false e f = wrong (sym e)

-- Each command has its outcome.
pub answered_at_rest : (s : ScenarioValue) (k : RunState) → Obeys s → Resting s k → k.served ≡ None → AreUnwanted s k
    → list_all (λ (o : Option Outcome). is_some o) (outcomes_from s k.story 1 s.commands) ≡ true
answered_at_rest s k o r rest quiet = each_outcome s k.story 1 s.commands ended
  where
    b : Sent
    b = k.story.sent

    opens : (m : ℕ) (c : CmdDef) → command_at s.commands (suc m) ≡ Some c → is_open b (1 + m) ≡ false
    opens m c at = ap (is_open b) (one-add m) ∙ not_open s k (suc m) c o r rest quiet at

    ended : (m : ℕ) (c : CmdDef) → command_at s.commands (suc m) ≡ Some c → is_ended k.story.ended (1 + m) ≡ true
    ended m c at =
        let line : IsCommandLine s c = command_fits s (suc m) c (obeys_fits s o) at in
        let d = initiator_there s c.host line.host_is in
        let item_is : item_want_time s b c.host ≡ None =
        sym (ap (λ (x : Bool). if x then item_want_time s b c.host else ready_time (ready_of s k c.host)) line.host_is)
        ∙ quiet c.host d.latency line.host d.latency_is in
        let all = sent_all s b c.host (none_open b 1 s.commands opens) (some_open s c.host o line.host_is) item_is in
        r.endings (1 + m) (is_over (has_item b.sent (command_item (1 + m))) (has_item b.over (command_item (1 + m)))
        (done_at b c.host 1 m c s.commands all.commands at refl) (opens m c at))
