-- A process that does not write sends no bytes of data.
use Rattle.trace_laws.proofs
use proofs.Names.{◌≡◌, Bool, true, false, ◌∙◌, length, Option, Some, None, refl, sym, not, ◌&&◌, ◌||◌, List, [], ◌∷◌}
use proofs.Names.{subst, ap, inl, inr, ◌⊎◌, and_parts, or_right, same_Some, if◌then◌else◌, is_some, nat_lt, wrong'}
use proofs.Names.{wrong, AbortKind, Event, ProcId, rises, changes_phase, Row, Connection, command_of, PARITY_ERROR}
use proofs.Names.{is_write, need_of, sent_of, ScenarioValue, Obeys, CmdDef, is_run, shows_run, Process, command_at}
use proofs.Names.{process_by, process_if, process_of, RowReading, CarriedBytes, carried_if, end_events, is_completion}
use proofs.Names.{row_events_by, Link, policy_of, runs_in_all, after_opening_events, arrival_event, arrival_events}
use proofs.Names.{arrival_run_events, connection_end_events, detected_events, has_replied, is_status_next, loss_events}
use proofs.Names.{newest_with, reply_events, turn_events, turn_events_if, Serving, phase_leaving, phase_of, Arrival}
use proofs.Names.{Cause, Leaving, Next, Phase, Plan, Task, RunState, bus_of, serving_of, is_writing, events_of_ends}
use proofs.Names.{events_of_ends_in, id_of, initiator_events, is_true_telling, same_event, same_events, target_events}
use proofs.Names.{obeys_fits, command_fits, IsCommandLine, none_some}
use Rattle.story_laws.specs.link_laws.proofs.LeavingWays as ways

none_to_send : (s : ScenarioValue) (c : CmdDef) → is_write (command_of c.cdb) ≡ false → sent_of s c ≡ 0
unfolding sent_of
none_to_send s c e = λ i. if e i then need_of s c else 0

pub reads_send_none : (s : ScenarioValue) (t : Process) → Obeys s → process_of s t.id ≡ Some t → is_writing t ≡ false
    → length t.sent ≡ 0
reads_send_none s t o own reads = go (command_at s.commands t.id.command) refl own
  where
    at : (c : CmdDef) → command_at s.commands t.id.command ≡ Some c → process_by s t.id c ≡ t
        → (q : Bool) → t.id.sense ≡ q → length t.sent ≡ 0
    at c f made true g =
        let by : process_by s (record { command = t.id.command; sense = true }) c ≡ t =
        (λ i. process_by s (record { command = t.id.command; sense = sym g i }) c) ∙ made in
        λ i. length (sym by i).sent
    at c f made false g =
        let by : process_by s (record { command = t.id.command; sense = false }) c ≡ t =
        (λ i. process_by s (record { command = t.id.command; sense = sym g i }) c) ∙ made in
        let line : IsCommandLine s c = command_fits s t.id.command c (obeys_fits s o) f in
        (λ i. length (sym by i).sent) ∙ line.sent ∙ none_to_send s c ((λ i. is_write (command_of (by i).cdb)) ∙ reads)

    go : (x : Option CmdDef) → command_at s.commands t.id.command ≡ x → process_if s t.id x ≡ Some t → length t.sent ≡ 0
    go None f e = none_some t e
    go (Some c) f e = at c f (same_Some (process_by s t.id c) t e) t.id.sense refl

-- ---- A process runs as its target leaves a phase for STATUS: it has no reply, no byte that the phase moved to the
-- target was struck, and the last of its data runs is made, or the phase moves one (6.1.6, 6.6.5, 6.6.6).

-- ---- the rows show what the ends show

same_run : (e f : Event) → same_event e f ≡ true → is_run f ≡ true → is_run e ≡ true
same_run e (Event.Run b) h r = go e h
  where
    go : (x : Event) → same_event x (Event.Run b) ≡ true → is_run x ≡ true
    go (Event.Run a) z = refl
    go _ z = wrong' z
same_run e _ h r = wrong' r

same_runs : (shown others : List Event) → same_events shown others ≡ true → shows_run others ≡ true
    → shows_run shown ≡ true
same_runs [] [] h r = r
same_runs [] (f ∷ others) h r = wrong' h
same_runs (e ∷ shown) [] h r = wrong' r
same_runs (e ∷ shown) (f ∷ others) h r =
    let both = and_parts (same_event e f) (same_events shown others) h in
    go (λ z. same_runs shown others both.1 z) (is_run f) refl r
  where
    go : (shows_run others ≡ true → shows_run shown ≡ true) → (q : Bool) → is_run f ≡ q → (q || shows_run others) ≡ true
        → (is_run e || shows_run shown) ≡ true
    go rest true g z =
        λ i. same_run e f (and_parts (same_event e f) (same_events shown others) h).0 g i || shows_run shown
    go rest false g z = or_right (is_run e) (shows_run shown) (rest z)

-- ---- as a phase is left for another

no_arrival_run : (id : ProcId) (plan : Plan) (arrival : Arrival) (phase : Phase)
    → shows_run (arrival_events id plan arrival phase) ≡ false
no_arrival_run id plan arrival Phase.Command = go plan.struck arrival
  where
    go : (q : Bool) (a : Arrival) → shows_run (if q then [] else arrival_event id a ∷ []) ≡ false
    go true a = refl
    go false Arrival.Refused = refl
    go false _ = refl
no_arrival_run id plan arrival _ = refl

newest_run : (after before : List Event) → shows_run before ≡ false → shows_run (newest_with after before) ≡ true
    → shows_run after ≡ true
newest_run [] before none r = wrong' (sym none ∙ r)
newest_run (e ∷ after) before none r = go (is_run e) refl r
  where
    go : (q : Bool) → is_run e ≡ q → (q || shows_run before) ≡ true → (is_run e || shows_run after) ≡ true
    go true f z = λ i. f i || shows_run after
    go false f z = wrong' (sym none ∙ z)

-- STATUS follows, and the process that is served has no reply.
pub record RunsInTurn (v : Serving) (attention : Bool) (phase : Phase) (id : ProcId) : Type 0 where
  pub status : is_status_next (phase_leaving v attention phase).to ≡ true
  pub task : Task
  pub task_is : v.task ≡ Some task
  pub open_is : task.replied ≡ false
  pub run : shows_run (reply_events id v.plan v.arrival phase) ≡ true

turn_run : (v : Serving) (attention : Bool) (phase : Phase) (id : ProcId)
    → shows_run (turn_events v attention phase id) ≡ true → RunsInTurn v attention phase id
turn_run v attention phase id r = go (is_status_next (phase_leaving v attention phase).to && not (has_replied v.task))
    refl (newest_run (if is_status_next (phase_leaving v attention phase).to && not (has_replied v.task)
    then reply_events id v.plan v.arrival phase else []) (arrival_events id v.plan v.arrival phase)
    (no_arrival_run id v.plan v.arrival phase) r)
  where
    by : is_status_next (phase_leaving v attention phase).to ≡ true
        → shows_run (reply_events id v.plan v.arrival phase) ≡ true → (o : Option Task) → v.task ≡ o
        → not (has_replied o) ≡ true → RunsInTurn v attention phase id
    by status run None e f = wrong' f
    by status run (Some t) e f =
        record { status = status; task = t; task_is = e; open_is = unmarked t.replied f; run = run }
      where
        unmarked : (q : Bool) → not q ≡ true → q ≡ false
        unmarked true z = wrong' z
        unmarked false z = refl

    go : (q : Bool) → (is_status_next (phase_leaving v attention phase).to && not (has_replied v.task)) ≡ q
        → shows_run (if q then reply_events id v.plan v.arrival phase else []) ≡ true → RunsInTurn v attention phase id
    go false e z = wrong' z
    go true e z =
        let both = and_parts (is_status_next (phase_leaving v attention phase).to) (not (has_replied v.task)) e in
        by both.0 z v.task refl both.1

-- ---- in a connection

pub record RunsInPhase (s : ScenarioValue) (k : RunState) (n : Connection) (d : RowReading) : Type 0 where
  pub stands : is_some d.next ≡ true
  pub left : changes_phase d.change ≡ true
  pub begun : k.exchange.begun ≡ true
  pub id : ProcId
  pub turn : RunsInTurn (serving_of s k n.target) (bus_of k).atn (phase_of (bus_of k)) id

no_loss_run : (id : Option ProcId) → shows_run (loss_events id) ≡ false
no_loss_run None = refl
no_loss_run (Some id) = refl

no_end_run : (n : Connection) (plan : Plan) (phase : Phase) (id : Option ProcId)
    → shows_run (connection_end_events n plan phase id) ≡ false
no_end_run n plan Phase.MessageOut id = go plan.said.aborts
  where
    go : (o : Option AbortKind) → shows_run (after_opening_events n plan.said o id) ≡ false
    go None = no_loss_run id
    go (Some what) = refl
no_end_run n plan Phase.MessageIn id = refl
no_end_run n plan _ id = no_loss_run id

no_initiator_run : (k : RunState) (o : Option Link) (d : RowReading) → shows_run (initiator_events k o d) ≡ false
no_initiator_run k None d = refl
no_initiator_run k (Some l) d = go (is_completion l d.change) (carried_if k.story l.item)
  where
    go : (q : Bool) (c : Option CarriedBytes) → shows_run (if q then end_events c else []) ≡ false
    go false c = refl
    go true None = refl
    go true (Some c) = refl

pub run_turn : (s : ScenarioValue) (k : RunState) (row : Row) (d : RowReading) (n : Connection)
    → k.story.bus_state.connection ≡ Some n → d.change.after.rst ≡ false → is_true_telling s k row d ≡ true
    → shows_run (row_events_by s k.story d row) ≡ true → RunsInPhase s k n d
run_turn s k row d n con off telling r = go (changes_phase d.change || not (is_some d.next)) refl told
  where
    v : Serving
    v = serving_of s k n.target

    phase : Phase
    phase = phase_of (bus_of k)

    told : shows_run (events_of_ends_in s k (Some n) d) ≡ true
    told = sym (λ i. shows_run
        (if off i then (if rises d.change.own.rst d.change.next.rst then Event.Reset row.dev ∷ [] else [])
        else events_of_ends_in s k (con i) d))
        ∙ same_runs (events_of_ends s k row d) (row_events_by s k.story d row) telling r

    turn : is_some d.next ≡ true → changes_phase d.change ≡ true → k.exchange.begun ≡ true
        → (o : Option ProcId) → shows_run (turn_events_if v (bus_of k).atn phase o) ≡ true → RunsInPhase s k n d
    turn stands left b None z = wrong' z
    turn stands left b (Some id) z =
        record { stands = stands; left = left; begun = b; id = id; turn = turn_run v (bus_of k).atn phase id z }

    unless : (a b : Bool) → b ≡ true → (a || not b) ≡ true → a ≡ true
    unless true b e f = refl
    unless false true e f = wrong' f
    unless false false e f = wrong' e

    leaves : (changes_phase d.change || not (is_some d.next)) ≡ true
        → (b : Bool) → k.exchange.begun ≡ b → (t : Bool) → is_some d.next ≡ t
        → shows_run (if not b then [] else if t then turn_events_if v (bus_of k).atn phase (id_of k.served)
        else connection_end_events n k.exchange.plan phase (id_of k.served)) ≡ true
        → RunsInPhase s k n d
    leaves e false f t g z = wrong' z
    leaves e true f true g z = turn g (unless (changes_phase d.change) (is_some d.next) g e) f (id_of k.served) z
    leaves e true f false g z = wrong' (sym (no_end_run n k.exchange.plan phase (id_of k.served)) ∙ z)

    go : (q : Bool) → (changes_phase d.change || not (is_some d.next)) ≡ q
        → shows_run (if q then target_events s k n (is_some d.next) else initiator_events k k.story.link d) ≡ true
        → RunsInPhase s k n d
    go true e z = leaves e k.exchange.begun refl (is_some d.next) refl z
    go false e z = wrong' (sym (no_initiator_run k k.story.link d) ∙ z)

-- ---- it follows

pub data RunsFrom (v : Serving) (t : Task) (phase : Phase) : Type 0 where
  answered : phase ≡ Phase.MessageIn → v.plan.next ≡ Next.Status → RunsFrom v t phase
  moved_all : nat_lt t.runs (runs_in_all (policy_of v.def) t) ≡ false → RunsFrom v t phase
  reads : phase ≡ Phase.DataIn → RunsFrom v t phase
  writes : phase ≡ Phase.DataOut → v.plan.struck ≡ false → RunsFrom v t phase

follows : (v : Serving) (id : ProcId) (t : Task) {attention : Bool} {phase : Phase} {l : Leaving}
    → ways.Leaves v attention phase l → v.task ≡ Some t → t.replied ≡ false → is_status_next l.to ≡ true
    → shows_run (reply_events id v.plan v.arrival phase) ≡ true → RunsFrom v t phase
follows v id t (ways.ends_in_status _ n) is open_is status run = answered refl n
follows v id t (ways.gives_up _ _ (ways.data_in c)) is open_is status run =
    wrong' (sym (ap (λ (x : Cause). shows_run (detected_events x id)) c) ∙ run)
follows v id t (ways.gives_up _ _ (ways.command s)) is open_is status run =
    wrong' (sym (λ i. shows_run (if s i then Event.Fail id PARITY_ERROR ∷ [] else arrival_run_events v.arrival id))
    ∙ run)
follows v id t (ways.gives_up _ _ (ways.data_out s)) is open_is status run =
    wrong' (sym (λ i. shows_run (if s i then Event.Fail id PARITY_ERROR ∷ [] else Event.Run id ∷ [])) ∙ run)
follows v id t (ways.moves_none at u _ n) is open_is status run = by n.why
  where
    same : u ≡ t
    same = same_Some u t (sym n.task_is ∙ is)

    by : (u.replied ≡ true) ⊎ (nat_lt u.runs (runs_in_all (policy_of v.def) u) ≡ false) → RunsFrom v t at
    by (inl e) = wrong (sym e ∙ ap (λ (x : Task). x.replied) same ∙ open_is)
    by (inr e) = moved_all (subst (λ (x : Task). nat_lt x.runs (runs_in_all (policy_of v.def) x) ≡ false) same e)
follows v id t (ways.refuses s a) is open_is status run =
    wrong' (sym (λ i. shows_run (if s i then Event.Fail id PARITY_ERROR ∷ [] else arrival_run_events (a i) id)) ∙ run)
follows v id t (ways.ends_runs _ _ (ways.given _) _) is open_is status run = reads refl
follows v id t (ways.ends_runs _ _ (ways.sent s) _) is open_is status run = writes refl s
follows v id t _ is open_is status run = wrong' status

pub runs_from : (v : Serving) (attention : Bool) (phase : Phase) (id : ProcId) (r : RunsInTurn v attention phase id)
    → RunsFrom v r.task phase
runs_from v attention phase id r =
    follows v id r.task (ways.leaves v attention phase) r.task_is r.open_is r.status r.run
