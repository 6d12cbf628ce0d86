-- A process of one kind that has no reply has a data run left, or has made none, with each row of a prompt trace; so
-- those that write.
use Rattle.trace_laws.proofs
use proofs.Names.{ℕ, ◌≡◌, ◌⊎◌, inl, inr, ◌<◌, ◌+◌, Bool, true, false, ◌&&◌, ◌==◌, ◌∙◌, List, [], ◌∷◌, Option, Some}
use proofs.Names.{None, refl, sym, ap, subst, arith, ltb-true, or_parts, cond_some, same_Some, if◌then◌else◌, is_some}
use proofs.Names.{nat_lt, wrong, wrong', Event, ProcId, change_of, LineSet, changes_phase, is_message_in, call}
use proofs.Names.{connection, connection_after, is_fault, receiver_in, bus, Row, Change, Connection, ScenarioValue}
use proofs.Names.{Obeys, Policy, array_step, reply_in, Reply, Process, process_of, same_id, Array, RowReading}
use proofs.Names.{row_reading, row_events_by, policy_of, runs_in, runs_in_all, Exchange, Serving, after_run}
use proofs.Names.{disconnect_messages, disconnection, phase_entry, phase_leaving, phase_of, pointer_restoration}
use proofs.Names.{recovery, unless_attention, with_task, one_if, Leaving, Next, Phase, Task, run_state_plain}
use proofs.Names.{target_def_of, ProcessProgress, progress_in, progress_with, IsPrompt, IsPlain, RunState, array_of}
use proofs.Names.{bus_of, or_start, process_item, process_served, array_after_events, leaving_of, progress_after}
use proofs.Names.{progress_by_leaving, run_state, leaving, serving_of, task_if, none_is, InConnection, in_connection}
use proofs.Names.{reading_is, id_is, self_id, policy_for, is_in_phase, RowKind, still, strikes, crosses, turns, GoesOn}
use proofs.Names.{RowOf, apart, begins, goes_on, ends, under_reset, change_plain, least_is, none_some, by_bool}
use proofs.Names.{listed_on, replies_to, connection_row, RowFacts, stays, ends_here, NextStood, Stood, AnsweredOpen}
use proofs.Names.{PlaceFacts, PlacedIf, IsWriter, RunFacts, RunsBy, HasRunLeft, RunsLeft, RunsLeftOf, run_total}
use proofs.{Resets.Holds.{HoldFacts, cut_phase}, Runs.Done.{counted_runs, same_runs, DoneOut, done_in_data, out_done}}
use proofs.{Runs.{Facts.{task_here}, Rows.{served_id}}, Writes.{Rows.{runs_kept}, Turns.{progress_apart}}}
use proofs.Writes.{Turns.{progress_ends, progress_turns, same_progress}, Written.{left_by}}

-- ---- a reply that was given stays listed

unlisted : (s : ScenarioValue) (id : ProcId) (o : Option Array) (shown : List Event) (b : Array)
    → array_after_events s o shown ≡ Some b → reply_in b.replies id ≡ None → reply_in (or_start s o).replies id ≡ None
unlisted s id o [] b e none = subst (λ (x : Option Array). reply_in (or_start s x).replies id ≡ None) (sym e) none
unlisted s id o (x ∷ shown) b e none = go (λ c f z. unlisted s id o shown c f z) (array_after_events s o shown) refl e
  where
    go : ((c : Array) → array_after_events s o shown ≡ Some c → reply_in c.replies id ≡ None
        → reply_in (or_start s o).replies id ≡ None) → (t : Option Array) → array_after_events s o shown ≡ t
        → array_step s x t ≡ Some b → reply_in (or_start s o).replies id ≡ None
    go earlier None f z = none_some b z
    go earlier (Some c) f z =
        earlier c f (none_is (reply_in c.replies id) ((or_parts (replies_to x id) (is_some (reply_in c.replies id))
        (sym (listed_on s c b x z id) ∙ ap (λ (y : Option Reply). is_some y) none)).1))

-- ---- a data run is done

pub record DoneLeft (v : Serving) (attention : Bool) (phase : Phase) : Type 0 where
  pub task : Task
  pub task_is : v.task ≡ Some task
  pub left : phase_leaving v attention phase ≡ after_run (policy_of v.def) task

done_in : (v : Serving) (attention : Bool) → (phase_leaving v attention Phase.DataIn).done ≡ true
    → DoneLeft v attention Phase.DataIn
done_in v attention e = go attention refl v.task refl e
  where
    go : (a : Bool) → attention ≡ a → (o : Option Task) → v.task ≡ o
        → (unless_attention a (with_task o (λ t. after_run (policy_of v.def) t))).done ≡ true
        → DoneLeft v attention Phase.DataIn
    go true f o g z = wrong' z
    go false f None g z = wrong' z
    go false f (Some t) g z = record {
      task = t;
      task_is = g;
      left = λ i. unless_attention (f i) (with_task (g i) (λ t. after_run (policy_of v.def) t));
    }

done_out : (v : Serving) (attention : Bool) → (phase_leaving v attention Phase.DataOut).done ≡ true
    → DoneLeft v attention Phase.DataOut
done_out v attention e =
    let d : DoneOut v = out_done v e in
    record {
      task = d.task;
      task_is = d.task_is;
      left = λ i. with_task (d.task_is i)
          (λ t. if d.struck i then recovery v.def t (pointer_restoration Next.GoOn) (phase_entry Phase.Status)
          else after_run (policy_of v.def) t);
    }

pub done_left : (v : Serving) (attention : Bool) (phase : Phase) → (phase_leaving v attention phase).done ≡ true
    → DoneLeft v attention phase
done_left v attention phase e = by (done_in_data v attention phase e)
  where
    by : (phase ≡ Phase.DataIn) ⊎ (phase ≡ Phase.DataOut) → DoneLeft v attention phase
    by (inl f) = subst (DoneLeft v attention) (sym f)
        (done_in v attention (ap (λ (x : Phase). (phase_leaving v attention x).done) (sym f) ∙ e))
    by (inr f) = subst (DoneLeft v attention) (sym f)
        (done_out v attention (ap (λ (x : Phase). (phase_leaving v attention x).done) (sym f) ∙ e))

-- Another run follows it, or STATUS.
not_below : (m : ℕ) → nat_lt m 0 ≡ true → ⊥
not_below m e = let l = ltb-true m 0 e in absurd omega (arith, l)

pub below_all : (policy : Policy) (t : Task) (m : ℕ) → nat_lt m (runs_in_all policy t) ≡ true
    → m < runs_in policy t.blocks
below_all policy t m e = go (t.moved == 0) e
  where
    go : (q : Bool) → nat_lt m (if q then 0 else runs_in policy t.blocks) ≡ true → m < runs_in policy t.blocks
    go true z = absurd (not_below m z)
    go false z = ltb-true m (runs_in policy t.blocks) z

status_after : (policy : Policy) (t : Task) → nat_lt (t.runs + 1) (runs_in_all policy t) ≡ false
    → (after_run policy t).to ≡ Some Phase.Status
status_after policy t e = λ i. (if e i then disconnection (disconnect_messages policy) else phase_entry Phase.Status).to

-- ---- the runs that are counted

one_more : (made : List ProcessProgress) (id : ProcId) (counts : Bool)
    → (progress_in (progress_with made id true counts) id).runs ≡ (progress_in made id).runs + 1
one_more made id counts = λ i. (if self_id id i then record {
  id = id;
  runs = (progress_in made id).runs + 1;
  recoveries = (progress_in made id).recoveries + one_if counts;
} else progress_in made id).runs

other_id : (a b : ProcId) → same_id b a ≡ false → a ≡ b → ⊥
other_id a b e f = wrong (sym (self_id b) ∙ ap (same_id b) (sym f) ∙ e)

-- ---- before any row

pub left_start : (kind : Process → Type 0) (s : ScenarioValue) → RunsLeftOf kind s []
left_start kind s p own w none = inl refl

pub runs_left_start : (s : ScenarioValue) → RunsLeft s []
runs_left_start s = left_start IsWriter s

-- ---- the row

pub record LeftRow (kind : Process → Type 0) (s : ScenarioValue) (p : List Row) (row : Row) (q : Process) : Type 0 where
  obeys : Obeys s
  prompt : IsPrompt s (row ∷ p)
  was : Stood s p
  nx : NextStood s p row
  inside : row.dev < 8
  holds : HoldFacts p
  facts : RunsBy kind s (run_state s p)
  places : PlaceFacts s (row ∷ p)
  own : process_of s q.id ≡ Some q
  of_kind : kind q
  before : HasRunLeft (run_total s q) (progress_in (run_state s p).progress q.id).runs
  none : reply_in (array_of s (run_state s (row ∷ p))).replies q.id ≡ None

abbrev Left : ScenarioValue → List Row → Row → Process → Type 0
Left s p row q = HasRunLeft (run_total s q) (progress_in (run_state s (row ∷ p)).progress q.id).runs

kept : (kind : Process → Type 0) (s : ScenarioValue) (p : List Row) (row : Row) (q : Process) → LeftRow kind s p row q
    → (progress_in (run_state s (row ∷ p)).progress q.id).runs ≡ (progress_in (run_state s p).progress q.id).runs
    → Left s p row q
kept kind s p row q h e = subst (HasRunLeft (run_total s q)) (sym e) h.before

kept_by : (kind : Process → Type 0) (s : ScenarioValue) (p : List Row) (row : Row) (q : Process)
    → LeftRow kind s p row q → (run_state s (row ∷ p)).progress ≡ (run_state s p).progress → Left s p row q
kept_by kind s p row q h e = kept kind s p row q h (ap (λ (m : List ProcessProgress). (progress_in m q.id).runs) e)

-- Its own run is done as the phase is left for STATUS: with that it has a reply.
answers : {A : Type 0} (kind : Process → Type 0) (s : ScenarioValue) (p : List Row) (row : Row) (n : Connection)
    (c : Change) (q : Process) → LeftRow kind s p row q → GoesOn s (run_state s p) row n c → changes_phase c ≡ true
    → receiver_in n c ≡ None → is_fault row.kind ≡ false → (run_state s p).exchange.begun ≡ true
    → process_served s (run_state s p) ≡ Some q → (leaving s (run_state s p) n.target).to ≡ Some Phase.Status → A
answers kind s p row n c q h g ep er ef b served to = none_some placed.answered.reply (sym h.none
    ∙ ap (λ (a : Option Array). reply_in (or_start s a).replies q.id) h.places.array_is ∙ placed.answered.given)
  where
    k : RunState
    k = run_state s p

    j : RunState
    j = run_state s (row ∷ p)

    ql : IsPlain s (row ∷ p) j
    ql = run_state_plain s (row ∷ p) h.nx.stood.standing.devices

    i : InConnection s k row n c true false false
    i = in_connection s k row n c true false false g.row_is ep (ap (λ (z : Option ℕ). is_some z) er) ef

    off : (bus_of j).rst ≡ false
    off = ap (λ (l : LineSet). l.rst) i.bus_is ∙ g.row_is.calm

    goes_to : RowFacts s p row n → (leaving s k n.target).to ≡ Some (phase_of c.after)
    goes_to (stays f) =
        let same : f.change ≡ c = sym f.row_is.change_is ∙ g.row_is.change_is in
        f.whereto (ap changes_phase same ∙ ep) (sym h.was.plain.begun ∙ b)
        ∙ ap (λ (x : Change). Some (phase_of x.after)) same
    goes_to (ends_here f) = none_some n (sym f.stopped ∙ sym ql.connection ∙ i.connection_is)

    status : phase_of (bus_of j) ≡ Phase.Status
    status = ap phase_of i.bus_is ∙ sym (same_Some Phase.Status (phase_of c.after) (sym to
        ∙ goes_to (connection_row s p row n h.obeys h.prompt h.was (sym h.was.plain.connection ∙ g.row_is.connection_is)
        (ap (λ (l : LineSet). l.rst) (sym h.was.plain.bus) ∙ g.calm)
        (ap (λ (l : LineSet). l.rst) (sym ql.bus) ∙ off)).facts))

    begun : j.exchange.begun ≡ true
    begun = ap (λ (x : Exchange). x.begun) i.exchange_is

    served_after : process_served s j ≡ Some q
    served_after = ap (process_item s) i.served_is ∙ served

    placed : AnsweredOpen h.places.array q.id
    placed = subst (λ (x : Phase). PlacedIf true h.places.array q j.exchange.plan j.handshakes (bus_of j).atn x) status
        (subst (λ (x : Bool). PlacedIf x h.places.array q j.exchange.plan j.handshakes (bus_of j).atn
        (phase_of (bus_of j))) begun (h.places.placed n i.connection_is off q served_after))

-- A run is done of the process itself.
own_run :
    (kind : Process → Type 0) (s : ScenarioValue) (p : List Row) (row : Row) (n : Connection) (c : Change) (q : Process)
    → LeftRow kind s p row q → GoesOn s (run_state s p) row n c → changes_phase c ≡ true
    → receiver_in n c ≡ None → is_fault row.kind ≡ false → (run_state s p).exchange.begun ≡ true
    → process_served s (run_state s p) ≡ Some q → (leaving s (run_state s p) n.target).done ≡ true
    → HasRunLeft (run_total s q) ((progress_in (run_state s p).progress q.id).runs + 1)
own_run kind s p row n c q h g ep er ef b served done = by_bool
    (nat_lt (d.task.runs + 1) (runs_in_all (policy_of v.def) d.task))
    (λ e. inr (below_all (policy_for s q) (task_here s k q) ((progress_in k.progress q.id).runs + 1)
    ((λ i. nat_lt ((sym task i).runs + 1) (runs_in_all (sym policy i) (sym task i))) ∙ e))) (λ e. answers kind s p row n
    c q h g ep er ef b served (ap (λ (l : Leaving). l.to) (left ∙ d.left) ∙ status_after (policy_of v.def) d.task e))
  where
    k : RunState
    k = run_state s p

    v : Serving
    v = serving_of s k n.target

    left : leaving s k n.target ≡ phase_leaving v (bus_of k).atn (phase_of (bus_of k))
    left = left_by s k n b

    d : DoneLeft v (bus_of k).atn (phase_of (bus_of k))
    d = done_left v (bus_of k).atn (phase_of (bus_of k)) (sym (ap (λ (l : Leaving). l.done) left) ∙ done)

    task : d.task ≡ task_here s k q
    task = sym (same_Some (task_here s k q) d.task (sym (ap (task_if s k) served) ∙ d.task_is))

    target : q.target ≡ n.target
    target = (h.facts.served n q g.row_is.connection_is g.calm served h.of_kind).target_is

    policy : policy_of v.def ≡ policy_for s q
    policy = ap (λ (x : ℕ). policy_of (target_def_of s x)) (sym target)

-- ---- a row of a connection, before and after which RST is false

turned :
    (kind : Process → Type 0) (s : ScenarioValue) (p : List Row) (row : Row) (n : Connection) (c : Change) (q : Process)
    → LeftRow kind s p row q → GoesOn s (run_state s p) row n c → changes_phase c ≡ true
    → receiver_in n c ≡ None → is_fault row.kind ≡ false → (b : Bool) → (run_state s p).exchange.begun ≡ b
    → (o : Option Process) → process_served s (run_state s p) ≡ o → HasRunLeft (run_total s q) (progress_in
    (if b then progress_by_leaving (run_state s p) o (leaving s (run_state s p) n.target) else (run_state s p).progress)
    q.id).runs
turned kind s p row n c q h g ep er ef false eb o eo = h.before
turned kind s p row n c q h g ep er ef true eb None eo = h.before
turned kind s p row n c q h g ep er ef true eb (Some x) eo = done l.done refl
  where
    k : RunState
    k = run_state s p

    l : Leaving
    l = leaving s k n.target

    keeps : (m : List ProcessProgress) → (progress_in m q.id).runs ≡ (progress_in k.progress q.id).runs
        → HasRunLeft (run_total s q) (progress_in m q.id).runs
    keeps m e = subst (HasRunLeft (run_total s q)) (sym e) h.before

    own : (same : x.id ≡ q.id) → l.done ≡ true
        → HasRunLeft (run_total s q) (progress_in (progress_with k.progress x.id true l.counts) q.id).runs
    own same e =
        let is : x ≡ q = same_Some x q (sym (served_id s k.served x eo).1 ∙ ap (process_of s) same ∙ h.own) in
        subst (λ (y : Process). HasRunLeft (run_total s q)
        (progress_in (progress_with k.progress y.id true l.counts) q.id).runs) (sym is)
        (subst (HasRunLeft (run_total s q)) (sym (one_more k.progress q.id l.counts))
        (own_run kind s p row n c q h g ep er ef eb (eo ∙ ap (λ (y : Process). Some y) is) e))

    done : (y : Bool) → l.done ≡ y
        → HasRunLeft (run_total s q) (progress_in (progress_with k.progress x.id y l.counts) q.id).runs
    done false e = keeps (progress_with k.progress x.id false l.counts) (same_runs k.progress x.id l.counts q.id)
    done true e = by_bool (same_id x.id q.id) (λ f. own (id_is x.id q.id f) e)
        (λ f. keeps (progress_with k.progress x.id true l.counts)
        (counted_runs k.progress x.id true l.counts q.id (other_id q.id x.id f)))

going :
    (kind : Process → Type 0) (s : ScenarioValue) (p : List Row) (row : Row) (n : Connection) (c : Change) (q : Process)
    → LeftRow kind s p row q → GoesOn s (run_state s p) row n c → Left s p row q
going kind s p row n c q h g = by g.row_is.kind
  where
    k : RunState
    k = run_state s p

    stay : changes_phase c ≡ false → Left s p row q
    stay e = kept_by kind s p row q h (same_progress s k row (ap changes_phase g.row_is.change_is ∙ e))

    by : RowKind row n c → Left s p row q
    by (still ef ep er) = stay ep
    by (strikes ef ep er) = stay ep
    by (crosses dev ef ep er) = stay ep
    by (turns ef ep er) = subst (λ (m : List ProcessProgress). HasRunLeft (run_total s q) (progress_in m q.id).runs)
        (sym (progress_turns s k row n c g.row_is ep
        (reading_is k row n c false g.row_is (ap (λ (z : Option ℕ). is_some z) er))))
        (turned kind s p row n c q h g ep er ef k.exchange.begun refl (process_served s k) refl)

-- ---- under RST no data phase is left

message_in_is : (b : LineSet) → is_message_in b ≡ true → is_in_phase (phase_of b) ≡ true
message_in_is b e = go b.msg b.cd b.io e
  where
    go : (m d i : Bool) → (m && d && i) ≡ true
        → is_in_phase (if m then (if i then Phase.MessageIn else Phase.MessageOut)
        else if d then (if i then Phase.Status else Phase.Command) else if i then Phase.DataIn else Phase.DataOut)
        ≡ true
    go true true true z = refl
    go true true false z = wrong' z
    go true false i z = wrong' z
    go false d i z = wrong' z

no_data : (phase : Phase) → is_in_phase phase ≡ true → (phase ≡ Phase.DataIn) ⊎ (phase ≡ Phase.DataOut) → ⊥
no_data phase e (inl f) = wrong' (sym (ap is_in_phase f) ∙ e)
no_data phase e (inr f) = wrong' (sym (ap is_in_phase f) ∙ e)

cut : (kind : Process → Type 0) (s : ScenarioValue) (p : List Row) (row : Row) (q : Process) → LeftRow kind s p row q
    → (bus (row ∷ p)).rst ≡ true → Left s p row q
cut kind s p row q h on = go k.story.bus_state.connection refl d.next refl (changes_phase d.change) refl
  where
    k : RunState
    k = run_state s p

    d : RowReading
    d = row_reading k.story.bus_state row

    change : d.change ≡ change_of p row
    change = change_plain s row p h.was.standing.devices h.inside

    next : d.next ≡ connection (row ∷ p)
    next = λ i. connection_after (h.was.plain.connection i) (h.was.plain.call i) (change i) row

    said : (m : Connection) → k.story.bus_state.connection ≡ Some m → (n : Connection) → d.next ≡ Some n
        → changes_phase d.change ≡ true → is_in_phase (phase_of (bus_of k)) ≡ true
    said m e n f ep =
        let con : connection p ≡ Some m = sym h.was.plain.connection ∙ e in
        let after : connection (row ∷ p) ≡ Some n = sym next ∙ f in
        let same : m ≡ n = (cond_some (bus (row ∷ p)).bsy m n
        (sym (λ i. connection_after (con i) (call p) (change_of p row) row) ∙ after)).1 in
        message_in_is (bus_of k) (ap is_message_in h.was.plain.bus ∙ cut_phase s p row m h.obeys h.prompt h.was h.holds
        con (after ∙ ap (λ (x : Connection). Some x) (sym same)) (inr on) (ap changes_phase (sym change) ∙ ep))

    go : (x : Option Connection) → k.story.bus_state.connection ≡ x → (y : Option Connection) → d.next ≡ y
        → (z : Bool) → changes_phase d.change ≡ z → Left s p row q
    go None e y f z g = kept_by kind s p row q h (progress_apart s k row e)
    go (Some m) e None f z g = kept_by kind s p row q h (progress_ends s k row f)
    go (Some m) e (Some n) f false g = kept_by kind s p row q h (same_progress s k row g)
    go (Some m) e (Some n) f true g =
        kept kind s p row q h (ap (λ (x : List ProcessProgress). (progress_in x q.id).runs)
        ((λ i. progress_after s k d (e i) (f i) (leaving_of s k (e i)))
        ∙ (λ i. if g i && k.exchange.begun then progress_by_leaving k (process_served s k) (leaving s k m.target)
        else k.progress)) ∙ runs_kept k.progress (process_served s k) k.exchange.begun k (leaving s k m.target) refl
        (λ b. undone b (leaving s k m.target).done refl) q.id)
      where
        undone : k.exchange.begun ≡ true → (x : Bool) → (leaving s k m.target).done ≡ x
            → (leaving s k m.target).done ≡ false
        undone b false z = z
        undone b true z = absurd (no_data (phase_of (bus_of k)) (said m e n f g) (done_in_data (serving_of s k m.target)
            (bus_of k).atn (phase_of (bus_of k)) (sym (ap (λ (l : Leaving). l.done) (left_by s k m b)) ∙ z)))

-- ---- any row

row_left : (kind : Process → Type 0) (s : ScenarioValue) (p : List Row) (row : Row) (q : Process)
    → LeftRow kind s p row q → Left s p row q
row_left kind s p row q h = go h.nx.row_is
  where
    k : RunState
    k = run_state s p

    go : RowOf s k row → Left s p row q
    go (apart e f) = kept_by kind s p row q h (progress_apart s k row e)
    go (begins n b) = kept_by kind s p row q h (progress_apart s k row b.first.connection_is)
    go (goes_on n c g) = going kind s p row n c q h g
    go (ends n g) = kept_by kind s p row q h (progress_ends s k row g.next_is)
    go (under_reset r f) = cut kind s p row q h
        (ap (λ (c : Change). c.after.rst) (sym (change_plain s row p h.was.standing.devices h.inside)) ∙ r)

pub left_next : (kind : Process → Type 0) (s : ScenarioValue) (p : List Row) (row : Row) → Obeys s
    → IsPrompt s (row ∷ p) → Stood s p → NextStood s p row → HoldFacts p → RunsBy kind s (run_state s p)
    → PlaceFacts s (row ∷ p) → RunsLeftOf kind s p → RunsLeftOf kind s (row ∷ p)
left_next kind s p row o prompt was nx holds facts places h q own w none =
    row_left kind s p row q (record {
      obeys = o;
      prompt = prompt;
      was = was;
      nx = nx;
      inside = (least_is s p row prompt.1).inside;
      holds = holds;
      facts = facts;
      places = places;
      own = own;
      of_kind = w;
      before = h q own w (unlisted s q.id (run_state s p).array (row_events_by s (run_state s p).story
          (row_reading (run_state s p).story.bus_state row) row) places.array places.array_is
          (ap (λ (a : Option Array). reply_in (or_start s a).replies q.id) (sym places.array_is) ∙ none));
      none = none;
    })

pub runs_left_next : (s : ScenarioValue) (p : List Row) (row : Row) → Obeys s → IsPrompt s (row ∷ p) → Stood s p
    → NextStood s p row → HoldFacts p → RunFacts s p → PlaceFacts s (row ∷ p) → RunsLeft s p → RunsLeft s (row ∷ p)
runs_left_next s p row o prompt was nx holds facts places h =
    left_next IsWriter s p row o prompt was nx holds facts places h
