-- A process has no more counted recoveries than phases with wrong parity.
use Rattle.book_laws.proofs
use proofs.Names.{ℕ, ◌≡◌, ◌≤◌, Bool, true, false, List, [], ◌∷◌, ◌∙◌, refl, sym, ap, subst, Option, Some, None, arith}
use proofs.Names.{◌+◌, not, ◌&&◌, ◌||◌, inl, inr, and_parts, and_from, or_right, cases_Bool, if◌then◌else◌, is_some}
use proofs.Names.{is_none, nat_lt, all_three, wrong, wrong', ProcId, is_message_out, changes_phase, is_fault, Row}
use proofs.Names.{Agreement, Connection, MsgIn, ScenarioValue, Policy, TargetDef, same_id_is, id_is, Process, same_id}
use proofs.Names.{RowReading, row_reading, Item, process, abort, policy_of, runs_in_all, plan_anew, plan_after_message}
use proofs.Names.{struck_plan, Serving, phase_of, phase_leaving, leaving_by, bus_free, phase_entry, recovery}
use proofs.Names.{recovery_limit, pointer_restoration, request_or_command, after_offer, message_repetition}
use proofs.Names.{message_out_leaving, after_messages, disconnection, disconnect_messages, after_arrival}
use proofs.Names.{command_leaving, after_run, data_in_leaving, data_out_leaving, with_task, one_if, first_plan}
use proofs.Names.{plan_in_phase, plan_in_message_out, plan_with_byte, plan_after, request_by, is_naming, Arrival, Cause}
use proofs.Names.{Hearing, Leaving, Messages, Next, Phase, Plan, Task, same_process, ProcessProgress, progress_in}
use proofs.Names.{progress_with, RunState, bus_of, process_served, process_item, run_state, exchange_after, leaving_of}
use proofs.Names.{progress_after, progress_by_leaving, may_negotiate, naming_of, hearing_of, serving_of, leaving}
use proofs.Names.{is_struck_phase, is_complaint, is_wrong_phase, is_left, serves, leaves_wrong_phase, wrong_phases}

-- ---- what the target takes for struck has a fault row in it

first_struck : (r q : Bool) (names : Messages) → (first_plan r q names).struck ≡ false
first_struck true q names = refl
first_struck false q names = refl

phase_struck : (w : Hearing) (l : Leaving) (f : Plan) → (plan_in_phase w l f).struck ≡ false
phase_struck w l f = go (not (is_message_out w.change.after)) w.begun
  where
    go : (a b : Bool) → (if a then record (plan_anew f) { messages = l.messages; next = l.next }
        else if b then plan_in_message_out w f else plan_anew f).struck ≡ false
    go true b = refl
    go false true = refl
    go false false = refl

byte_struck : (w : Hearing) (l : Plan) → (plan_with_byte w l).struck ≡ true → l.struck ≡ true
byte_struck w l h = go (is_message_out w.change.before) w.is_last h
  where
    go : (a b : Bool) → (if a then plan_after_message l b w.out else l).struck ≡ true → l.struck ≡ true
    go true true e = cc
    go true false e = e
    go false b e = e

plan_struck : (w : Hearing) (l : Leaving) (x : Plan) → (plan_after w l x).struck ≡ true
    → (not (changes_phase w.change) && (w.fault || x.struck)) ≡ true
plan_struck w l x h = go (changes_phase w.change) w.crosses w.fault w.change.before.io h
  where
    still : (f : Bool) → x.struck ≡ true → (f || x.struck) ≡ true
    still f e = or_right f x.struck e

    go : (a b f io : Bool) → (if a then plan_in_phase w l x
        else if b then plan_with_byte w x else if f && not io then struck_plan x else x).struck ≡ true
        → (not a && (f || x.struck)) ≡ true
    go true b f io e = wrong (sym e ∙ phase_struck w l x)
    go false true f io e = still f (byte_struck w x e)
    go false false true io e = refl
    go false false false io e = e

struck_stands : (s : ScenarioValue) (rows : List Row) → is_struck_phase s rows ≡ true
    → is_some (run_state s rows).story.bus_state.connection ≡ true
struck_stands s [] h = cc
struck_stands s (row ∷ rows) h = go (is_some k.story.bus_state.connection) (is_some d.next)
    (not (changes_phase d.change)) (is_fault row.kind || is_struck_phase s rows) h
  where
    k : RunState
    k = run_state s rows

    d : RowReading
    d = row_reading k.story.bus_state row

    go : (a b c e : Bool) → (a && b && c && e) ≡ true → b ≡ true
    go true true c e f = refl
    go true false c e f = cc
    go false b c e f = cc

pub struck_is : (s : ScenarioValue) (rows : List Row) → (run_state s rows).exchange.plan.struck ≡ true
    → is_struck_phase s rows ≡ true
struck_is s [] h = cc
struck_is s (row ∷ rows) h = go (λ e. struck_is s rows e) k.story.bus_state.connection refl d.next h
  where
    k : RunState
    k = run_state s rows

    d : RowReading
    d = row_reading k.story.bus_state row

    l : Leaving
    l = leaving_of s k k.story.bus_state.connection

    kept : (c f r q : Bool) → (r ≡ true → q ≡ true) → (not c && (f || r)) ≡ true → (not c && (f || q)) ≡ true
    kept true f r q more e = cc
    kept false true r q more e = refl
    kept false false r q more e = more e

    go : (k.exchange.plan.struck ≡ true → is_struck_phase s rows ≡ true)
        → (before : Option Connection) → k.story.bus_state.connection ≡ before
        → (after : Option Connection) → (exchange_after s k row d before after l).plan.struck ≡ true
        → (is_some before && is_some after && not (changes_phase d.change)
        && (is_fault row.kind || is_struck_phase s rows)) ≡ true
    go more None z None e = wrong (sym (struck_stands s rows (more e)) ∙ (λ i. is_some (z i)))
    go more None z (Some n) e = wrong (sym e ∙ first_struck n.reselected (not n.reselected
        && may_negotiate k n (Rattle.due_model.specs.story_model.specs.TraceHistory.aim_of k.story.aims n.initiator))
        (naming_of s k n))
    go more (Some m) z None e = cc
    go more (Some m) z (Some n) e =
        kept (changes_phase d.change) (is_fault row.kind) k.exchange.plan.struck (is_struck_phase s rows) more
        (plan_struck (hearing_of k row d) l k.exchange.plan e)

-- ---- a recovery is counted for a phase with wrong parity

-- By what the target plans.
abbrev pub is_planned_wrong : Plan → Phase → Bool
is_planned_wrong plan Phase.Command = plan.struck
is_planned_wrong plan Phase.DataOut = plan.struck
is_planned_wrong plan Phase.MessageOut = is_complaint plan plan.cause
is_planned_wrong plan _ = false

pub planned_wrong : (s : ScenarioValue) (rows : List Row) (phase : Phase)
    → is_planned_wrong (run_state s rows).exchange.plan phase ≡ true
    → is_wrong_phase (is_struck_phase s rows) (run_state s rows).exchange.plan phase ≡ true
planned_wrong s rows Phase.Command h = struck_is s rows h
planned_wrong s rows Phase.DataOut h = struck_is s rows h
planned_wrong s rows Phase.MessageOut h = h
planned_wrong s rows _ h = cc

run_counts : (policy : Policy) (t : Task) → (after_run policy t).counts ≡ false
run_counts policy t = elim (cases_Bool (nat_lt (t.runs + 1) (runs_in_all policy t))) [ inl e ↦ rw e | inr e ↦ rw e ]

arrival_counts : (def : Option TargetDef) (t : Task) (a : Arrival) → (after_arrival def t a).counts ≡ false
arrival_counts def t Arrival.Refused = refl
arrival_counts def t _ = refl

command_counts : (v : Serving) (a : Arrival) → (command_leaving v a).counts ≡ true → v.plan.struck ≡ true
command_counts v a h = go v.task v.plan.struck h
  where
    go : (o : Option Task) (q : Bool)
        → (with_task o (λ t. if q then recovery v.def t (pointer_restoration Next.Command) (phase_entry Phase.Status)
        else after_arrival v.def t a)).counts ≡ true
        → q ≡ true
    go o true e = refl
    go None false e = cc
    go (Some t) false e = wrong (sym e ∙ arrival_counts v.def t a)

data_out_counts : (v : Serving) → (data_out_leaving v).counts ≡ true → v.plan.struck ≡ true
data_out_counts v h = go v.task v.plan.struck h
  where
    go : (o : Option Task) (q : Bool)
        → (with_task o (λ t. if q then recovery v.def t (pointer_restoration Next.GoOn) (phase_entry Phase.Status)
        else after_run (policy_of v.def) t)).counts ≡ true
        → q ≡ true
    go o true e = refl
    go None false e = cc
    go (Some t) false e = wrong (sym e ∙ run_counts (policy_of v.def) t)

data_in_counts : (v : Serving) → (data_in_leaving v).counts ≡ false
data_in_counts v = go v.task
  where
    go : (o : Option Task) → (with_task o (λ t. after_run (policy_of v.def) t)).counts ≡ false
    go None = refl
    go (Some t) = run_counts (policy_of v.def) t

request_counts : (m : Option MsgIn) → (request_or_command m).counts ≡ false
request_counts None = refl
request_counts (Some m) = refl

offer_counts : (def : Option TargetDef) (negotiates : Bool) (o : Option Agreement)
    → (after_offer def negotiates o).counts ≡ false
offer_counts def negotiates (Some x) = refl
offer_counts def true None = request_counts (request_by def)
offer_counts def false None = refl

opening_counts : (v : Serving) → (message_out_leaving v Cause.Selected).counts ≡ false
opening_counts v =
    elim (cases_Bool (is_some v.plan.said.aborts)) [
      | inl e ↦ rw e
      | inr e ↦ rw e (offer_counts v.def v.plan.negotiates v.plan.said.offer)
    ]

message_out_counts : (v : Serving) (c : Cause) → (message_out_leaving v c).counts ≡ true → is_complaint v.plan c ≡ true
message_out_counts v Cause.Selected h = wrong (sym h ∙ opening_counts v)
message_out_counts v Cause.InMessage h = go v.plan.said.offer h
  where
    go : (o : Option Agreement) → (if is_some o then phase_entry Phase.Command
        else if is_naming v.plan.messages.first then message_repetition v.plan
        else with_task v.task (λ t. recovery v.def t (message_repetition v.plan) bus_free)).counts ≡ true
        → is_none o ≡ true
    go None e = refl
    go (Some x) e = cc
message_out_counts v Cause.InData h = refl
message_out_counts v Cause.InStatus h = refl

messages_counts : (v : Serving) (x : Next) → (after_messages v x).counts ≡ false
messages_counts v Next.GoOn = go v.task
  where
    go : (o : Option Task) → (with_task o (λ t. phase_entry
        (Rattle.due_model.specs.dialogue_model.specs.NextPhase.next_data_phase (policy_of v.def) t t.runs))).counts
        ≡ false
    go None = refl
    go (Some t) = refl
messages_counts v _ = refl

pub counts_wrong : (v : Serving) (attention : Bool) (phase : Phase) → (phase_leaving v attention phase).counts ≡ true
    → is_planned_wrong v.plan phase ≡ true
counts_wrong v attention Phase.MessageOut h = message_out_counts v v.plan.cause h
counts_wrong v attention Phase.Command h = command_counts v v.arrival h
counts_wrong v attention Phase.DataOut h = data_out_counts v h
counts_wrong v true Phase.MessageIn h = cc
counts_wrong v false Phase.MessageIn h = wrong (sym h ∙ messages_counts v v.plan.next)
counts_wrong v true Phase.DataIn h = cc
counts_wrong v false Phase.DataIn h = wrong (sym h ∙ data_in_counts v)
counts_wrong v true Phase.Status h = cc
counts_wrong v false Phase.Status h = cc

-- ---- a row more

no_more : (m : ℕ) (q : Bool) → m ≤ m + one_if q
no_more m true = grind arith
no_more m false = grind arith

progress_step : (all : List ProcessProgress) (pid id : ProcId) (r c : Bool)
    → (progress_in (progress_with all pid r c) id).recoveries
    ≤ (progress_in all id).recoveries + one_if (c && same_id pid id)
progress_step all pid id r c = go (r || c) (same_id pid id) refl
  where
    older : ℕ
    older = (progress_in all id).recoveries

    made : ProcessProgress
    made = record {
      id = pid;
      runs = (progress_in all pid).runs + one_if r;
      recoveries = (progress_in all pid).recoveries + one_if c;
    }

    mine : pid ≡ id → (d : Bool) → (progress_in all pid).recoveries + one_if d ≤ older + one_if (d && true)
    mine e true =
        let same : (progress_in all pid).recoveries ≡ older = ap (λ (x : ProcId). (progress_in all x).recoveries) e in
        grind arith
    mine e false =
        let same : (progress_in all pid).recoveries ≡ older = ap (λ (x : ProcId). (progress_in all x).recoveries) e in
        grind arith

    go : (q m : Bool) → same_id pid id ≡ m
        → (progress_in (if q then made ∷ all else all) id).recoveries ≤ older + one_if (c && m)
    go false m e = no_more older (c && m)
    go true true e = subst (λ (x : Bool). (if x then made else progress_in all id).recoveries
        ≤ older + one_if (c && true)) (sym e) (mine (same_id_is pid id e) c)
    go true false e = subst (λ (x : Bool). (if x then made else progress_in all id).recoveries
        ≤ older + one_if (c && false)) (sym e) (no_more older (c && false))

pub all_four : (a b c e : Bool) → a ≡ true → b ≡ true → c ≡ true → e ≡ true → (a && b && c && e) ≡ true
all_four a b c e x y z w = λ i. x i && y i && z i && w i

served_is : (s : ScenarioValue) (x : Option Item) (c : Process) (id : ProcId) → process_item s x ≡ Some c
    → same_id c.id id ≡ true → same_process x (Some (process id)) ≡ true
served_is s None c id e z = cc
served_is s (Some (abort n)) c id e z = cc
served_is s (Some (process q)) c id e z = (λ i. same_id (sym (id_is s q c e) i) id) ∙ z

some_served : (s : ScenarioValue) (x : Option Item) (c : Process) → process_item s x ≡ Some c → is_some x ≡ true
some_served s None c e = cc
some_served s (Some x) c e = refl

row_counts : (s : ScenarioValue) (rows : List Row) (row : Row) (id : ProcId)
    → (progress_in (run_state s rows).progress id).recoveries ≤ wrong_phases s rows id
    → (progress_in (run_state s (row ∷ rows)).progress id).recoveries ≤ wrong_phases s (row ∷ rows) id
row_counts s rows row id before = go k.story.bus_state.connection refl d.next refl
  where
    k : RunState
    k = run_state s rows

    d : RowReading
    d = row_reading k.story.bus_state row

    older : ℕ
    older = (progress_in k.progress id).recoveries

    wrong : ℕ
    wrong = wrong_phases s rows id

    leaves : Bool
    leaves = leaves_wrong_phase (is_struck_phase s rows) k d id

    same : (q : Bool) → older ≤ wrong + one_if q
    same true = let b : older ≤ wrong = before in grind arith
    same false = let b : older ≤ wrong = before in grind arith

    one : (m : ℕ) (q r : Bool) → (q ≡ true → r ≡ true) → m ≤ older + one_if q → m ≤ wrong + one_if r
    one m true false f h = wrong' (f refl)
    one m _ _ f h = let b : older ≤ wrong = before in grind arith

    left : (m n : Connection) → k.story.bus_state.connection ≡ Some m → d.next ≡ Some n → changes_phase d.change ≡ true
        → k.exchange.begun ≡ true → is_left k d ≡ true
    left m n z y c b = all_three (is_some k.story.bus_state.connection) k.exchange.begun
        (if is_some d.next then changes_phase d.change else not d.change.after.rst) (λ i. is_some (z i)) b
        (λ i. if is_some (y i) then c i else not d.change.after.rst)

    counts : (m : Connection) → k.exchange.begun ≡ true → (leaving s k m.target).counts ≡ true
        → is_wrong_phase (is_struck_phase s rows) k.exchange.plan (phase_of (bus_of k)) ≡ true
    counts m b c = planned_wrong s rows (phase_of (bus_of k)) (counts_wrong (serving_of s k m.target) (bus_of k).atn
        (phase_of (bus_of k)) ((λ i. (leaving_by (serving_of s k m.target) (sym b i) (bus_of k)).counts) ∙ c))

    by_process : (m n : Connection) → k.story.bus_state.connection ≡ Some m → d.next ≡ Some n
        → changes_phase d.change ≡ true → k.exchange.begun ≡ true → (o : Option Process) → process_served s k ≡ o
        → (progress_in (progress_by_leaving k o (leaving s k m.target)) id).recoveries ≤ wrong + one_if leaves
    by_process m n z y c b None w = same leaves
    by_process m n z y c b (Some t) w = one (progress_in
        (progress_with k.progress t.id (leaving s k m.target).done (leaving s k m.target).counts) id).recoveries
        ((leaving s k m.target).counts && same_id t.id id) leaves
        (λ e. let two = and_parts (leaving s k m.target).counts (same_id t.id id) e in all_three (is_left k d)
        (serves k id) (is_wrong_phase (is_struck_phase s rows) k.exchange.plan (phase_of (bus_of k))) (left m n z y c b)
        (and_from _ _ (served_is s k.served t id w two.1) (some_served s k.served t w)) (counts m b two.0))
        (progress_step k.progress t.id id (leaving s k m.target).done (leaving s k m.target).counts)

    by_phase : (m n : Connection) → k.story.bus_state.connection ≡ Some m → d.next ≡ Some n
        → (c b : Bool) → changes_phase d.change ≡ c → k.exchange.begun ≡ b → (progress_in
        (if c && b then progress_by_leaving k (process_served s k) (leaving s k m.target) else k.progress)
        id).recoveries ≤ wrong + one_if leaves
    by_phase m n z y true true c b = by_process m n z y c b (process_served s k) refl
    by_phase m n z y true false c b = same leaves
    by_phase m n z y false b c x = same leaves

    go : (o : Option Connection) → k.story.bus_state.connection ≡ o → (after : Option Connection) → d.next ≡ after
        → (progress_in (progress_after s k d o after (leaving_of s k o)) id).recoveries ≤ wrong + one_if leaves
    go None z None y = same leaves
    go None z (Some n) y = same leaves
    go (Some m) z None y = same leaves
    go (Some m) z (Some n) y = by_phase m n z y (changes_phase d.change) k.exchange.begun refl refl

pub counted : (s : ScenarioValue) (rows : List Row) (id : ProcId)
    → (progress_in (run_state s rows).progress id).recoveries ≤ wrong_phases s rows id
counted s [] id = grind arith
counted s (row ∷ rows) id = row_counts s rows row id (counted s rows id)
