-- Data runs and disconnections follow the policy of the target.
use Rattle.dialogue_laws.proofs
use proofs.Names.{inl, inr, ◌≡◌, ◌+◌, Bool, true, false, not, ◌&&◌, ◌∙◌, List, [], ◌∷◌, Option, Some, None, refl, sym}
use proofs.Names.{ap, cases_Bool, if◌then◌else◌, nat_lt, wrong, wrong', Event, ProcId, LineSet, bus, Row, Connection}
use proofs.Names.{MsgIn, ScenarioValue, Policy, id_self, Process, policy_of, runs_in_all, arrival_event, arrival_events}
use proofs.Names.{arrival_run_events, has_replied, is_status_next, newest_with, reply_events, one_message, Serving}
use proofs.Names.{after_arrival, after_messages, after_run, disconnect_messages, disconnection, next_data_phase}
use proofs.Names.{phase_entry, phase_leaving, phase_of, pointer_restoration, recovery, unless_attention, with_task}
use proofs.Names.{Arrival, Leaving, Messages, Next, Phase, Plan, Task, run_state_plain, target_def_of, ProcessProgress}
use proofs.Names.{progress_in, progress_with, RunState, bus_of, events_of_row, progress_by_leaving, run_state}
use proofs.Names.{arrival_at, leaving, serving_of, struck_is, is_struck_phase, task_here, present_phase, Arrives}
use proofs.Names.{Disconnects, EndsRun, Follows, GoesOnAtOnce, HasSaid, data_phase, has_run_left, policy_at, runs_of}
use proofs.Leavings.Recoveries.{Left, all_name, open_if, phase_is, placed_is, same_events_are, shows_turn, task_is}
use proofs.Leavings.Recoveries.{turn_is}

-- ---- what a row shows

runs_counted : (all : List ProcessProgress) (id : ProcId)
    → (progress_in (progress_with all id true false) id).runs ≡ (progress_in all id).runs + 1
runs_counted all id = ap (λ (q : Bool). (if q then more else progress_in all id).runs) (id_self id)
  where
    more : ProcessProgress
    more = record { id = id; runs = (progress_in all id).runs + 1; recoveries = (progress_in all id).recoveries + 0 }

pub unstruck : (s : ScenarioValue) (p : List Row) → is_struck_phase s p ≡ false
    → (run_state s p).exchange.plan.struck ≡ false
unstruck s p e =
    elim (cases_Bool ((run_state s p).exchange.plan.struck)) [ inl f ↦ wrong (sym (struck_is s p f) ∙ e) | inr f ↦ f ]

atn_is : (s : ScenarioValue) (p : List Row) (row : Row) (n : Connection) (q : Process) → Left s p row n q
    → (bus p).atn ≡ false → (bus_of (run_state s p)).atn ≡ false
atn_is s p row n q h e = ap (λ (l : LineSet). l.atn) (run_state_plain s p h.end.was.stood.standing.devices).bus ∙ e

disconnects_row : (s : ScenarioValue) (p : List Row) (row : Row) (n : Connection)
    (q : Process) (m : Messages) (done : Bool) (shown : List Event)
    → Left s p row n q → leaving s (run_state s p) n.target ≡ record (disconnection m) { done = done }
    → arrival_events q.id (serving_of s (run_state s p) n.target).plan
    (serving_of s (run_state s p) n.target).arrival (phase_of (bus_of (run_state s p))) ≡ shown
    → all_name shown ≡ true → Disconnects s p row m shown
disconnects_row s p row n q m done shown h e arrived name =
    let k : RunState = run_state s p in
    let v : Serving = serving_of s k n.target in
    let phase : present_phase (row ∷ p) ≡ Some Phase.MessageIn = sym h.end.whereto ∙ ap (λ (l : Leaving). l.to) e in
    let plan = h.end.plan Phase.MessageIn phase refl in
    record {
      phase = phase;
      messages = ap (λ (x : Plan). x.messages) plan ∙ ap (λ (l : Leaving). l.messages) e;
      follows = ap (λ (x : Plan). x.next) plan ∙ ap (λ (l : Leaving). l.next) e;
      told = same_events_are shown (events_of_row s p row) name
          (shows_turn s p row n q h Phase.MessageIn phase shown (turn_is v (bus_of k).atn (phase_of (bus_of k)) q.id
          (record (disconnection m) { done = done }) (has_replied v.task) shown (sym h.end.leaves ∙ e) refl arrived));
    }

follows_row : (s : ScenarioValue) (p : List Row) (row : Row) (n : Connection)
    (q : Process) (next : Phase) (done replied : Bool) (shown : List Event)
    → Left s p row n q → leaving s (run_state s p) n.target ≡ record (phase_entry next) { done = done }
    → has_replied (serving_of s (run_state s p) n.target).task ≡ replied → newest_with
    (if is_status_next (Some next) && not replied then reply_events q.id (serving_of s (run_state s p) n.target).plan
    (serving_of s (run_state s p) n.target).arrival (phase_of (bus_of (run_state s p))) else [])
    (arrival_events q.id (serving_of s (run_state s p) n.target).plan
    (serving_of s (run_state s p) n.target).arrival (phase_of (bus_of (run_state s p)))) ≡ shown
    → all_name shown ≡ true → Follows s p row next shown
follows_row s p row n q next done replied shown h e given is name =
    let k : RunState = run_state s p in
    let v : Serving = serving_of s k n.target in
    let phase : present_phase (row ∷ p) ≡ Some next = sym h.end.whereto ∙ ap (λ (l : Leaving). l.to) e in
    record {
      phase_is = phase;
      told = same_events_are shown (events_of_row s p row) name (shows_turn s p row n q h next phase shown
          (turn_is v (bus_of k).atn (phase_of (bus_of k)) q.id (record (phase_entry next) { done = done }) replied
          (arrival_events q.id v.plan v.arrival (phase_of (bus_of k))) (sym h.end.leaves ∙ e) given refl ∙ is));
    }

-- ---- a run is done

ends_leaving : (s : ScenarioValue) (p : List Row) (row : Row) (n : Connection) (q : Process) → Left s p row n q
    → EndsRun s p → leaving s (run_state s p) n.target ≡ after_run (policy_at s n) (task_here s (run_state s p) q)
ends_leaving s p row n q h (inl e) =
    let k : RunState = run_state s p in
    let v : Serving = serving_of s k n.target in
    h.end.leaves ∙ ap (phase_leaving v (bus_of k).atn) (phase_is s p row n q h Phase.DataIn e.0)
    ∙ (λ i. unless_attention (atn_is s p row n q h e.1 i)
    (with_task (task_is s p row n q h i) (λ t. after_run (policy_of v.def) t)))
ends_leaving s p row n q h (inr e) =
    let k : RunState = run_state s p in
    let v : Serving = serving_of s k n.target in
    h.end.leaves ∙ ap (phase_leaving v (bus_of k).atn) (phase_is s p row n q h Phase.DataOut e.0)
    ∙ (λ i. with_task (task_is s p row n q h i)
    (λ t. if unstruck s p e.1 i then recovery v.def t (pointer_restoration Next.GoOn) (phase_entry Phase.Status)
    else after_run (policy_of v.def) t))

more_runs : (policy : Policy) (t : Task) → nat_lt (t.runs + 1) (runs_in_all policy t) ≡ true
    → after_run policy t ≡ record (disconnection (disconnect_messages policy)) { done = true }
more_runs policy t e = ap (λ (b : Bool). record
    (if b then disconnection (disconnect_messages policy) else phase_entry Phase.Status) { done = true }) e

last_run : (policy : Policy) (t : Task) → nat_lt (t.runs + 1) (runs_in_all policy t) ≡ false
    → after_run policy t ≡ record (phase_entry Phase.Status) { done = true }
last_run policy t e =
    ap (λ (b : Bool). record (if b then disconnection (disconnect_messages policy) else phase_entry Phase.Status) {
      done = true;
    }) e

no_arrival :
    (s : ScenarioValue) (p : List Row) (row : Row) (n : Connection) (q : Process) → Left s p row n q → EndsRun s p
    → arrival_events q.id (serving_of s (run_state s p) n.target).plan (serving_of s (run_state s p) n.target).arrival
    (phase_of (bus_of (run_state s p))) ≡ []
no_arrival s p row n q h (inl e) = ap (arrival_events q.id (serving_of s (run_state s p) n.target).plan
    (serving_of s (run_state s p) n.target).arrival) (phase_is s p row n q h Phase.DataIn e.0)
no_arrival s p row n q h (inr e) = ap (arrival_events q.id (serving_of s (run_state s p) n.target).plan
    (serving_of s (run_state s p) n.target).arrival) (phase_is s p row n q h Phase.DataOut e.0)

runs_of_run :
    (s : ScenarioValue) (p : List Row) (row : Row) (n : Connection) (q : Process) → EndsRun s p → Left s p row n q
    → reply_events q.id (serving_of s (run_state s p) n.target).plan (serving_of s (run_state s p) n.target).arrival
    (phase_of (bus_of (run_state s p))) ≡ Event.Run q.id ∷ []
runs_of_run s p row n q (inl e) h = ap (reply_events q.id (serving_of s (run_state s p) n.target).plan
    (serving_of s (run_state s p) n.target).arrival) (phase_is s p row n q h Phase.DataIn e.0)
runs_of_run s p row n q (inr e) h =
    ap (reply_events q.id (serving_of s (run_state s p) n.target).plan (serving_of s (run_state s p) n.target).arrival)
    (phase_is s p row n q h Phase.DataOut e.0)
    ∙ ap (λ (b : Bool).
    if b then Event.Fail q.id Rattle.due_model.specs.cdb_codec.specs.declared.sense.TheConstants.PARITY_ERROR ∷ []
    else Event.Run q.id ∷ []) (unstruck s p e.1)

unanswered : (s : ScenarioValue) (p : List Row) (row : Row) (n : Connection) (q : Process)
    → (h : Left s p row n q) → EndsRun s p → has_replied (serving_of s (run_state s p) n.target).task ≡ false
unanswered s p row n q h (inl e) = open_if s p row n q h (placed_is s p row n q h Phase.DataIn e.0).runs.reply
unanswered s p row n q h (inr e) = open_if s p row n q h (placed_is s p row n q h Phase.DataOut e.0).runs.reply

counts_run : (s : ScenarioValue) (p : List Row) (row : Row) (n : Connection) (q : Process) (next : Phase) (l : Leaving)
    → Left s p row n q → present_phase (row ∷ p) ≡ Some next → leaving s (run_state s p) n.target ≡ l → l.done ≡ true
    → l.counts ≡ false → runs_of (run_state s (row ∷ p)) q ≡ runs_of (run_state s p) q + 1
counts_run s p row n q next l h phase e done counts =
    ap (λ (x : List ProcessProgress). (progress_in x q.id).runs) (h.end.progress next phase)
    ∙ (λ i. (progress_in (progress_by_leaving (run_state s p) (h.served i) (e i)) q.id).runs)
    ∙ (λ i. (progress_in (progress_with (run_state s p).progress q.id (done i) (counts i)) q.id).runs)
    ∙ runs_counted (run_state s p).progress q.id

-- More runs are left: between them it is disconnected.
pub pauses :
    (s : ScenarioValue) (p : List Row) (row : Row) (n : Connection) (q : Process) → Left s p row n q → EndsRun s p
    → nat_lt (runs_of (run_state s p) q + 1) (runs_in_all (policy_at s n) (task_here s (run_state s p) q)) ≡ true
    → Disconnects s p row (disconnect_messages (policy_at s n)) []
    × (runs_of (run_state s (row ∷ p)) q ≡ runs_of (run_state s p) q + 1)
pauses s p row n q h e more =
    let t : Task = task_here s (run_state s p) q in
    let l = ends_leaving s p row n q h e ∙ more_runs (policy_at s n) t more in
    let d = disconnects_row s p row n q (disconnect_messages (policy_at s n)) true [] h l
    (no_arrival s p row n q h e) refl in (
      d,
      counts_run s p row n q Phase.MessageIn
          (record (disconnection (disconnect_messages (policy_at s n))) { done = true }) h d.phase l refl refl,
    )

-- It was the last: the process runs.
pub finishes :
    (s : ScenarioValue) (p : List Row) (row : Row) (n : Connection) (q : Process) → Left s p row n q → EndsRun s p
    → nat_lt (runs_of (run_state s p) q + 1) (runs_in_all (policy_at s n) (task_here s (run_state s p) q)) ≡ false
    → Follows s p row Phase.Status (Event.Run q.id ∷ [])
    × (runs_of (run_state s (row ∷ p)) q ≡ runs_of (run_state s p) q + 1)
finishes s p row n q h e last =
    let t : Task = task_here s (run_state s p) q in
    let l = ends_leaving s p row n q h e ∙ last_run (policy_at s n) t last in
    let f = follows_row s p row n q Phase.Status true false (Event.Run q.id ∷ []) h l (unanswered s p row n q h e)
    (λ i. newest_with (runs_of_run s p row n q e h i) (no_arrival s p row n q h e i)) refl in (
      f,
      counts_run s p row n q Phase.Status (record (phase_entry Phase.Status) { done = true }) h f.phase_is l refl refl,
    )

-- ---- COMMAND is left

arrival_is : (s : ScenarioValue) (p : List Row) (row : Row) (n : Connection) (q : Process) (a : Arrival)
    → Left s p row n q → Arrives s p n a → (serving_of s (run_state s p) n.target).arrival ≡ a
arrival_is s p row n q a h e =
    ap (arrival_at s (run_state s p) n.target) (phase_is s p row n q h Phase.Command e.0) ∙ e.2

arrives_leaving : (s : ScenarioValue) (p : List Row) (row : Row) (n : Connection) (q : Process) (a : Arrival)
    → Left s p row n q → Arrives s p n a
    → leaving s (run_state s p) n.target ≡ after_arrival (target_def_of s n.target) (task_here s (run_state s p) q) a
arrives_leaving s p row n q a h e =
    let k : RunState = run_state s p in
    let v : Serving = serving_of s k n.target in
    h.end.leaves ∙ ap (phase_leaving v (bus_of k).atn) (phase_is s p row n q h Phase.Command e.0)
    ∙ (λ i. with_task (task_is s p row n q h i)
    (λ t. if unstruck s p e.1 i then recovery v.def t (pointer_restoration Next.Command) (phase_entry Phase.Status)
    else after_arrival v.def t (arrival_is s p row n q a h e i)))

arrived : (s : ScenarioValue) (p : List Row) (row : Row) (n : Connection) (q : Process) (a : Arrival)
    → Left s p row n q → Arrives s p n a
    → arrival_events q.id (serving_of s (run_state s p) n.target).plan (serving_of s (run_state s p) n.target).arrival
    (phase_of (bus_of (run_state s p))) ≡ arrival_event q.id a ∷ []
arrived s p row n q a h e = (λ i. arrival_events q.id (serving_of s (run_state s p) n.target).plan
    (arrival_is s p row n q a h e i) (phase_is s p row n q h Phase.Command e.0 i))
    ∙ ap (λ (b : Bool). if b then [] else arrival_event q.id a ∷ []) (unstruck s p e.1)

replied_not : (s : ScenarioValue) (p : List Row) (row : Row) (n : Connection) (q : Process) (a : Arrival)
    → Left s p row n q → Arrives s p n a → has_replied (serving_of s (run_state s p) n.target).task ≡ false
replied_not s p row n q a h e = open_if s p row n q h (placed_is s p row n q h Phase.Command e.0).reply

answers : (s : ScenarioValue) (p : List Row) (row : Row) (n : Connection) (q : Process) (a : Arrival)
    → Left s p row n q → Arrives s p n a
    → reply_events q.id (serving_of s (run_state s p) n.target).plan (serving_of s (run_state s p) n.target).arrival
    (phase_of (bus_of (run_state s p))) ≡ arrival_run_events a q.id
answers s p row n q a h e = (λ i. reply_events q.id (serving_of s (run_state s p) n.target).plan
    (arrival_is s p row n q a h e i) (phase_is s p row n q h Phase.Command e.0 i))
    ∙ ap (λ (b : Bool).
    if b then Event.Fail q.id Rattle.due_model.specs.cdb_codec.specs.declared.sense.TheConstants.PARITY_ERROR ∷ []
    else arrival_run_events a q.id) (unstruck s p e.1)

pub queues : (s : ScenarioValue) (p : List Row) (row : Row) (n : Connection) (q : Process) → Left s p row n q
    → Arrives s p n Arrival.Queued → Disconnects s p row (one_message MsgIn.Disconnect) (Event.Accept q.id ∷ [])
queues s p row n q h e = disconnects_row s p row n q (one_message MsgIn.Disconnect) false (Event.Accept q.id ∷ []) h
    (arrives_leaving s p row n q Arrival.Queued h e) (arrived s p row n q Arrival.Queued h e) refl

pub refuses : (s : ScenarioValue) (p : List Row) (row : Row) (n : Connection) (q : Process) → Left s p row n q
    → Arrives s p n Arrival.Refused → Follows s p row Phase.Status (Event.Refuse q.id ∷ [])
refuses s p row n q h e = follows_row s p row n q Phase.Status false false (Event.Refuse q.id ∷ []) h
    (arrives_leaving s p row n q Arrival.Refused h e) (replied_not s p row n q Arrival.Refused h e)
    (λ i. newest_with (answers s p row n q Arrival.Refused h e i) (arrived s p row n q Arrival.Refused h e i)) refl

-- The first data, or STATUS, of one that goes on.
data_next : (policy : Policy) (t : Task) → has_run_left policy t ≡ true → next_data_phase policy t t.runs ≡ data_phase t
data_next policy t e = go t.replied (nat_lt t.runs (runs_in_all policy t)) e
  where
    go : (a b : Bool) → (not a && b) ≡ true
        → (if a then Phase.Status else if b then (if t.writes then Phase.DataOut else Phase.DataIn) else Phase.Status)
        ≡ (if t.writes then Phase.DataOut else Phase.DataIn)
    go true b f = wrong' f
    go false true f = refl
    go false false f = wrong' f

status_next : (policy : Policy) (t : Task) → has_run_left policy t ≡ false
    → next_data_phase policy t t.runs ≡ Phase.Status
status_next policy t e = go t.replied (nat_lt t.runs (runs_in_all policy t)) e
  where
    go : (a b : Bool) → (not a && b) ≡ false
        → (if a then Phase.Status else if b then (if t.writes then Phase.DataOut else Phase.DataIn) else Phase.Status)
        ≡ Phase.Status
    go true b f = refl
    go false true f = wrong f
    go false false f = refl

not_status : (t : Task) → is_status_next (Some (data_phase t)) ≡ false
not_status t = elim (cases_Bool t.writes) [ inl e ↦ rw e | inr e ↦ rw e ]

pub starts_data : (s : ScenarioValue) (p : List Row) (row : Row) (n : Connection) (q : Process)
    → Left s p row n q → GoesOnAtOnce s p n → has_run_left (policy_at s n) (task_here s (run_state s p) q) ≡ true
    → Follows s p row (data_phase (task_here s (run_state s p) q)) (Event.Accept q.id ∷ [])
starts_data s p row n q h (inl e) more =
    let t : Task = task_here s (run_state s p) q in
    follows_row s p row n q (data_phase t) false false (Event.Accept q.id ∷ []) h
    (arrives_leaving s p row n q Arrival.AtOnce h e ∙ ap phase_entry (data_next (policy_at s n) t more))
    (replied_not s p row n q Arrival.AtOnce h e) ((λ i. newest_with
    (if not_status t i && not false then reply_events q.id (serving_of s (run_state s p) n.target).plan
    (serving_of s (run_state s p) n.target).arrival (phase_of (bus_of (run_state s p))) else [])
    (arrived s p row n q Arrival.AtOnce h e i))) refl
starts_data s p row n q h (inr e) more =
    let t : Task = task_here s (run_state s p) q in
    follows_row s p row n q (data_phase t) false false (Event.Accept q.id ∷ []) h
    (arrives_leaving s p row n q Arrival.Guest h e ∙ ap phase_entry (data_next (policy_at s n) t more))
    (replied_not s p row n q Arrival.Guest h e) ((λ i. newest_with
    (if not_status t i && not false then reply_events q.id (serving_of s (run_state s p) n.target).plan
    (serving_of s (run_state s p) n.target).arrival (phase_of (bus_of (run_state s p))) else [])
    (arrived s p row n q Arrival.Guest h e i))) refl

pub starts_status : (s : ScenarioValue) (p : List Row) (row : Row) (n : Connection) (q : Process)
    → Left s p row n q → GoesOnAtOnce s p n → has_run_left (policy_at s n) (task_here s (run_state s p) q) ≡ false
    → Follows s p row Phase.Status (Event.Run q.id ∷ (Event.Accept q.id ∷ []))
starts_status s p row n q h (inl e) none =
    let t : Task = task_here s (run_state s p) q in
    follows_row s p row n q Phase.Status false false (Event.Run q.id ∷ (Event.Accept q.id ∷ [])) h
    (arrives_leaving s p row n q Arrival.AtOnce h e ∙ ap phase_entry (status_next (policy_at s n) t none))
    (replied_not s p row n q Arrival.AtOnce h e)
    (λ i. newest_with (answers s p row n q Arrival.AtOnce h e i) (arrived s p row n q Arrival.AtOnce h e i)) refl
starts_status s p row n q h (inr e) none =
    let t : Task = task_here s (run_state s p) q in
    follows_row s p row n q Phase.Status false false (Event.Run q.id ∷ (Event.Accept q.id ∷ [])) h
    (arrives_leaving s p row n q Arrival.Guest h e ∙ ap phase_entry (status_next (policy_at s n) t none))
    (replied_not s p row n q Arrival.Guest h e)
    (λ i. newest_with (answers s p row n q Arrival.Guest h e i) (arrived s p row n q Arrival.Guest h e i)) refl

-- ---- the messages of the target were given, and the initiator has nothing to say

said_leaving : (s : ScenarioValue) (p : List Row) (row : Row) (n : Connection) (q : Process) (next : Next)
    → Left s p row n q → HasSaid s p next
    → leaving s (run_state s p) n.target ≡ after_messages (serving_of s (run_state s p) n.target) next
said_leaving s p row n q next h e =
    let k : RunState = run_state s p in
    let v : Serving = serving_of s k n.target in
    h.end.leaves ∙ ap (phase_leaving v (bus_of k).atn) (phase_is s p row n q h Phase.MessageIn e.0)
    ∙ (λ i. unless_attention (atn_is s p row n q h e.1 i) (after_messages v (e.2 i)))

to_phase : (s : ScenarioValue) (p : List Row) (row : Row) (n : Connection) (q : Process) → Left s p row n q
    → (o : Option Phase) → (leaving s (run_state s p) n.target).to ≡ o → present_phase (row ∷ p) ≡ o
to_phase s p row n q h o e = sym h.end.whereto ∙ e

pub to_command : (s : ScenarioValue) (p : List Row) (row : Row) (n : Connection) (q : Process) → Left s p row n q
    → HasSaid s p Next.Command → present_phase (row ∷ p) ≡ Some Phase.Command
to_command s p row n q h e =
    to_phase s p row n q h (Some Phase.Command) (ap (λ (l : Leaving). l.to) (said_leaving s p row n q Next.Command h e))

pub to_status : (s : ScenarioValue) (p : List Row) (row : Row) (n : Connection) (q : Process) → Left s p row n q
    → HasSaid s p Next.Status → present_phase (row ∷ p) ≡ Some Phase.Status
to_status s p row n q h e =
    to_phase s p row n q h (Some Phase.Status) (ap (λ (l : Leaving). l.to) (said_leaving s p row n q Next.Status h e))

pub to_free : (s : ScenarioValue) (p : List Row) (row : Row) (n : Connection) (q : Process) → Left s p row n q
    → HasSaid s p Next.FreeBus → present_phase (row ∷ p) ≡ None
to_free s p row n q h e =
    to_phase s p row n q h None (ap (λ (l : Leaving). l.to) (said_leaving s p row n q Next.FreeBus h e))

goes_on : (s : ScenarioValue) (p : List Row) (row : Row) (n : Connection) (q : Process)
    → Left s p row n q → HasSaid s p Next.GoOn → present_phase (row ∷ p)
    ≡ Some (next_data_phase (policy_at s n) (task_here s (run_state s p) q) (runs_of (run_state s p) q))
goes_on s p row n q h e = to_phase s p row n q h
    (Some (next_data_phase (policy_at s n) (task_here s (run_state s p) q) (runs_of (run_state s p) q)))
    (ap (λ (l : Leaving). l.to) (said_leaving s p row n q Next.GoOn h e)
    ∙ (λ i. (with_task (task_is s p row n q h i) (λ t. phase_entry (next_data_phase (policy_at s n) t t.runs))).to))

pub to_data : (s : ScenarioValue) (p : List Row) (row : Row) (n : Connection) (q : Process) → Left s p row n q
    → HasSaid s p Next.GoOn → has_run_left (policy_at s n) (task_here s (run_state s p) q) ≡ true
    → present_phase (row ∷ p) ≡ Some (data_phase (task_here s (run_state s p) q))
to_data s p row n q h e more = goes_on s p row n q h e
    ∙ ap (λ (x : Phase). Some x) (data_next (policy_at s n) (task_here s (run_state s p) q) more)

pub to_end : (s : ScenarioValue) (p : List Row) (row : Row) (n : Connection) (q : Process) → Left s p row n q
    → HasSaid s p Next.GoOn → has_run_left (policy_at s n) (task_here s (run_state s p) q) ≡ false
    → present_phase (row ∷ p) ≡ Some Phase.Status
to_end s p row n q h e none = goes_on s p row n q h e
    ∙ ap (λ (x : Phase). Some x) (status_next (policy_at s n) (task_here s (run_state s p) q) none)
