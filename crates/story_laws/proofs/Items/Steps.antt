-- What rows leave of the items, of the queues of the plain disk array, and of how far processes have come.
use Rattle.story_laws.proofs
use proofs.Names.{ℕ, ◌≡◌, ◌+◌, Bool, true, false, not, ◌&&◌, ◌||◌, ◌==◌, ◌∙◌, List, [], ◌∷◌, Option, Some, None, refl}
use proofs.Names.{sym, ap, subst, same_Some, list_any, if◌then◌else◌, is_none, ⊤, wrong, Event, ProcId, falls}
use proofs.Names.{changes_phase, Row, Connection, Call, Calling, command_of, units_of, ScenarioValue, CmdDef, UnitDef}
use proofs.Names.{is_request_sense, Process, process_of, process_if, process_by, command_at, same_id, current_of}
use proofs.Names.{RunningProcess, UnitState, Array, unit_state_at, is_held, starting_units, RowReading, Item, process}
use proofs.Names.{abort, same_item, has_item, Sent, Story, story_after_event, story_after_events, aim_of}
use proofs.Names.{is_arbitration_entry, story_with_aim, story_without_answer, story_with_try, story_after_calling_by}
use proofs.Names.{story_after_calling, story_on_free_bus, Ready, ready_in, is_ready_before, first_ready, Leaving}
use proofs.Names.{other_kept, progress_in, RunState, or_start, array_of, process_served, array_after_events}
use proofs.Names.{progress_by_leaving, progress_after, since_of, seek_of, ready_at, ready_among, ready_of, process_id}
use proofs.Names.{none_some, by_option, map_units, unit_at, stays_queued, step_units, RunsP, UnitsP, AreChecked}
use proofs.{Names.{IsQueued}, Items.{Open.{item_is}, Over.{Grows, grows_same, still_queued}, Sent.{more_has}}}
use Rattle.due_model.specs.array_model.specs.Steps
use Rattle.due_model.specs.array_model.specs.ArrayHistory as Play

-- ---- the process that a target has ready is in a queue

ready_unit : (q : Process → Type 0) (a : Array) (times : List ℕ) (seek t u : ℕ) (r : Ready) → UnitsP q a.units
    → ready_at a times seek t u ≡ Some r → q r.process
ready_unit q a times seek t u r h e = go (unit_state_at a.units t u) refl e
  where
    by : (held : Bool) (c : Option RunningProcess) (time : ℕ) → RunsP q c → ready_in held c time ≡ Some r → q r.process
    by held None time g z = none_some r z
    by true (Some c) time g z = none_some r z
    by false (Some c) time g z =
        subst q (ap (λ (x : Ready). x.process) (same_Some (record { time = time; process = c.process }) r z)) g

    go : (x : Option UnitState) → unit_state_at a.units t u ≡ x
        → ready_in (is_held a.holds t u) (current_of x) (since_of a.units times t u + seek) ≡ Some r → q r.process
    go None f z = none_some r z
    go (Some x) f z =
        by (is_held a.holds t u) x.current (since_of a.units times t u + seek) (unit_at q a.units t u x f h).1 z

abbrev IfReady : (Process → Type 0) → Option Ready → Type 0
IfReady q x = (r : Ready) → x ≡ Some r → q r.process

first_one : (q : Process → Type 0) (a b : Option Ready) → IfReady q a → IfReady q b → IfReady q (first_ready a b)
first_one q None b h g = g
first_one q (Some a) None h g = h
first_one q (Some a) (Some b) h g =
    elim (is_ready_before b a) as (λ x. IfReady q (if x then Some b else Some a)) [ true ↦ g | false ↦ h ]

ready_some : (q : Process → Type 0) (a : Array) (times : List ℕ) (seek t : ℕ) → UnitsP q a.units
    → IfReady q (ready_among a times seek t)
ready_some q a times seek t h =
    let at : (m : ℕ) → IfReady q (ready_at a times seek t m) = λ m r e. ready_unit q a times seek t m r h e in
    let none : IfReady q None = λ r e. none_some r e in
    first_one q (ready_at a times seek t 0) _ (at 0)
    (first_one q (ready_at a times seek t 1) _ (at 1)
    (first_one q (ready_at a times seek t 2) _ (at 2)
    (first_one q (ready_at a times seek t 3) _ (at 3)
    (first_one q (ready_at a times seek t 4) _ (at 4)
    (first_one q (ready_at a times seek t 5) _ (at 5)
    (first_one q (ready_at a times seek t 6) _ (at 6)
    (first_one q (ready_at a times seek t 7) None (at 7) none)))))))

pub ready_queued : (s : ScenarioValue) (k : RunState) (q : Process → Type 0) (t : ℕ) (r : Ready)
    → UnitsP q (array_of s k).units → ready_of s k t ≡ Some r → q r.process
ready_queued s k q t r h e = ready_some q (array_of s k) k.current_since (seek_of s.targets t) t h r e

-- ---- events, in the story and in the array

pub start_queued : (q : Process → Type 0) (s : ScenarioValue) (units : List UnitDef) → UnitsP q (starting_units s units)
start_queued q s [] = tt
start_queued q s (u ∷ units) = ((tt, tt), start_queued q s units)

-- A command that is accepted is of the scenario, sent and not over.
abbrev pub Admits : ScenarioValue → Story → List Event → Type 0
Admits s b [] = ⊤
Admits s b (event ∷ shown) =
    ((id : ProcId) → event ≡ Event.Accept id → (has_item (story_after_events s b shown).sent.sent (process id) ≡ true)
    × (has_item (story_after_events s b shown).sent.over (process id) ≡ false))
    × Admits s b shown

sense_command : (s : ScenarioValue) (id : ProcId) (t : Process) → process_of s id ≡ Some t
    → is_request_sense (command_of t.cdb) ≡ false → id.sense ≡ false
sense_command s id t e f = by_option (command_at s.commands id.command)
    (λ z. no_process (sym (ap (λ (x : Option CmdDef). process_if s id x) z) ∙ e))
    (λ c z. by id.sense c (ap (λ (x : Process). is_request_sense (command_of x.cdb))
    (same_Some (process_by s id c) t (sym (ap (λ (x : Option CmdDef). process_if s id x) z) ∙ e)) ∙ f))
  where
    no_process : {A : Type 0} → (let a : Option Process = None in a) ≡ Some t → A
    no_process z = absurd cc

    by : (q : Bool) (c : CmdDef)
        → is_request_sense (command_of (process_by s (record { command = id.command; sense = q }) c).cdb) ≡ false
        → q ≡ false
    by true c z = wrong z
    by false c z = refl

accepted_queued : (s : ScenarioValue) (b : Sent) (id : ProcId) (c : Process) → process_of s id ≡ Some c
    → is_request_sense (command_of c.cdb) ≡ false → has_item b.sent (process id) ≡ true
    → has_item b.over (process id) ≡ false → IsQueued s b c
accepted_queued s b id c e f there opens =
    let same : c.id ≡ id = process_id s id c e in
    record {
      is = ap (process_of s) same ∙ e;
      command = ap (λ (x : ProcId). x.sense) same ∙ sense_command s id c e f;
      sent = ap (λ (x : ProcId). has_item b.sent (process x)) same ∙ there;
      opens = ap (λ (x : ProcId). has_item b.over (process x)) same ∙ opens;
    }

pub queued_on : (s : ScenarioValue) (b : Story) (a : Option Array) (shown : List Event)
    → Admits s b shown → UnitsP (IsQueued s b.sent) (or_start s a).units
    → UnitsP (IsQueued s (story_after_events s b shown).sent) (or_start s (array_after_events s a shown)).units
queued_on s b a [] h q = q
queued_on s b a (event ∷ shown) h q = go (array_after_events s a shown) refl (queued_on s b a shown h.1 q)
  where
    was : Story
    was = story_after_events s b shown

    next : (x : Array) (y : Option Array) → Steps.step s event x ≡ y → UnitsP (IsQueued s was.sent) x.units
        → UnitsP (IsQueued s (story_after_event s was event).sent) (or_start s y).units
    next x None e g = start_queued (IsQueued s (story_after_event s was event).sent) s (units_of s)
    next x (Some y) e g = map_units (λ p. IsQueued s was.sent p × (stays_queued event p ≡ true))
        (IsQueued s (story_after_event s was event).sent)
        (λ p z. still_queued s was event p z.0 z.1) y.units (step_units s (IsQueued s was.sent) x y event
        (λ id p z e f. let w = h.0 id z in accepted_queued s was.sent id p e f w.0 w.1) g e)

    go : (x : Option Array) → array_after_events s a shown ≡ x → UnitsP (IsQueued s was.sent) (or_start s x).units
        → UnitsP (IsQueued s (story_after_event s was event).sent) (or_start s (Play.array_step s event x)).units
    go None e g = start_queued (IsQueued s (story_after_event s was event).sent) s (units_of s)
    go (Some x) e g = next x (Steps.step s event x) refl g

-- Other items may be sent and over meanwhile.
pub queued_sent : (s : ScenarioValue) (a b : Sent) (units : List UnitState)
    → ((i : Item) → has_item a.sent i ≡ true → has_item b.sent i ≡ true)
    → ((i : Item) → has_item a.sent i ≡ true → has_item a.over i ≡ false → has_item b.over i ≡ false)
    → UnitsP (IsQueued s a) units → UnitsP (IsQueued s b) units
queued_sent s a b units more none h = map_units (IsQueued s a) (IsQueued s b) (λ p x. record {
  is = x.is;
  command = x.command;
  sent = more (process p.id) x.sent;
  opens = none (process p.id) x.sent x.opens;
}) units h

-- ---- on the free bus: an item may be given up, which was not sent

-- Only as SEL falls after a call without an answer.
pub record GivesUp (b c : Sent) : Type 0 where
  pub grows : Grows b c
  pub checks : c.checks ≡ b.checks
  pub over : (i : Item) → has_item b.sent i ≡ true → has_item b.over i ≡ false → has_item c.over i ≡ false

pub same_gives : (b c : Sent) → c ≡ b → GivesUp b c
same_gives b c e = record {
  grows = grows_same b c e;
  checks = ap (λ (x : Sent). x.checks) e;
  over = λ i z o. ap (λ (x : Sent). has_item x.over i) e ∙ o;
}

given_up : (b : Sent) (item : Item) (tries : List Item) → has_item b.sent item ≡ false
    → GivesUp b (record b { over = item ∷ b.over; tries = tries })
given_up b item tries e = record {
  grows = record { sent = refl; over = λ i z. more_has item i b.over z; checks = λ n z. z };
  checks = refl;
  over = λ i z o. apart i (same_item item i) refl z o;
}
  where
    apart : (i : Item) (q : Bool) → same_item item i ≡ q → has_item b.sent i ≡ true → has_item b.over i ≡ false
        → (same_item item i || has_item b.over i) ≡ false
    apart i true f z o = wrong (sym z ∙ ap (has_item b.sent) (sym (item_is item i f)) ∙ e)
    apart i false f z o = λ j. f j || o j

tried : (s : ScenarioValue) (b : Story) (dev : ℕ) (item : Option Item)
    → ((i : Item) → item ≡ Some i → has_item b.sent.sent i ≡ false) → GivesUp b.sent (story_with_try s b dev item).sent
tried s b dev None h = same_gives b.sent b.sent refl
tried s b dev (Some item) h = go _ item (h item refl)
  where
    next : Story
    next = record b { sent = record b.sent { tries = item ∷ b.sent.tries } }

    go : (q : Bool) (i : Item) → has_item b.sent.sent i ≡ false
        → GivesUp b.sent (if q then story_without_answer next i else next).sent
    go true (process id) e = given_up b.sent (process id) (item ∷ b.sent.tries) e
    go true (abort k) e = given_up b.sent (abort k) (item ∷ b.sent.tries) e
    go false i e =
        record { grows = record { sent = refl; over = λ j z. z; checks = λ n z. z }; checks = refl; over = λ j z o. o }

-- What the caller calls for was not sent.
pub free_gives : (s : ScenarioValue) (b : Story) (d : RowReading) (row : Row)
    → ((c : Call) (x : Calling) → b.bus_state.call ≡ Some c → c.calling ≡ Some x → x.reselects ≡ false
    → (i : Item) → aim_of b.aims c.caller ≡ Some i → has_item b.sent.sent i ≡ false)
    → GivesUp b.sent (story_on_free_bus s b d row).sent
free_gives s b d row h = go (is_arbitration_entry b d) (falls d.change.before.sel d.change.after.sel)
  where
    called : (call : Option Call) → b.bus_state.call ≡ call → GivesUp b.sent (story_after_calling s b call).sent
    called None e = same_gives b.sent b.sent refl
    called (Some c) e = by c.calling refl
      where
        by : (g : Option Calling) → c.calling ≡ g → GivesUp b.sent (story_after_calling_by s b c.caller g).sent
        by None f = same_gives b.sent b.sent refl
        by (Some x) f = one (is_none x.answered) x.reselects refl
          where
            one : (q r : Bool) → x.reselects ≡ r
                → GivesUp b.sent (if q && not r then story_with_try s b c.caller (aim_of b.aims c.caller) else b).sent
            one true false z = tried s b c.caller (aim_of b.aims c.caller) (λ i y. h c x e f z i y)
            one true true z = same_gives b.sent b.sent refl
            one false r z = same_gives b.sent b.sent refl

    go : (q r : Bool) → GivesUp b.sent
        (if q then story_with_aim s b row else if r then story_after_calling s b b.bus_state.call else b).sent
    go true r = same_gives b.sent b.sent refl
    go false true = called b.bus_state.call refl
    go false false = same_gives b.sent b.sent refl

-- Where SEL does not fall nothing is given up.
pub free_still : (s : ScenarioValue) (b : Story) (d : RowReading) (row : Row)
    → falls d.change.before.sel d.change.after.sel ≡ false → (story_on_free_bus s b d row).sent ≡ b.sent
free_still s b d row e = ap (λ (r : Bool). (if is_arbitration_entry b d then story_with_aim s b row
    else if r then story_after_calling s b b.bus_state.call else b).sent) e
    ∙ go (is_arbitration_entry b d)
  where
    go : (q : Bool) → (if q then story_with_aim s b row else b).sent ≡ b.sent
    go true = refl
    go false = refl

pub checked_up : (b c : Sent) → GivesUp b c → AreChecked b → AreChecked c
checked_up b c g h n e = g.grows.over _ (h n (ap (λ (x : List ℕ). list_any (λ k. k == n) x) (sym g.checks) ∙ e))

-- ---- how far a process has come

-- Only the process that is served comes on.
pub progress_kept :
    (s : ScenarioValue) (k : RunState) (d : RowReading) (before after : Option Connection) (l : Leaving) (id : ProcId)
    → ((c : Process) → process_served s k ≡ Some c → same_id c.id id ≡ false)
    → progress_in (progress_after s k d before after l) id ≡ progress_in k.progress id
progress_kept s k d None after l id h = refl
progress_kept s k d (Some m) None l id h = refl
progress_kept s k d (Some m) (Some n) l id h = go (changes_phase d.change && k.exchange.begun) (process_served s k) refl
  where
    go : (q : Bool) (o : Option Process) → process_served s k ≡ o
        → progress_in (if q then progress_by_leaving k o l else k.progress) id ≡ progress_in k.progress id
    go true None e = refl
    go true (Some c) e = other_kept k.progress c.id id l.done l.counts (h c e)
    go false o e = refl
