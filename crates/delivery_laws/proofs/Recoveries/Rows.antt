-- Row by row: a target leaves a phase as it is due to; so it tries again, or gives up, as the table says (6.6.10,
-- 6.6.13, 6.6.19).
use Rattle.delivery_laws.proofs
use proofs.Names.{◌≡◌, ◌⊎◌, inl, inr, Bool, true, false, ◌||◌, ◌∙◌, List, [], ◌∷◌, ◌++◌, Option, Some, None, refl, sym}
use proofs.Names.{ap, subst, if◌then◌else◌, is_none, is_some, nat_lt, wrong, wrong', change_of, changes_phase}
use proofs.Names.{connection, connection_after, receiver_in, bus, Row, Agreement, Change, Connection, ScenarioValue}
use proofs.Names.{Obeys, TargetDef, RowReading, row_reading, policy_of, Serving, after_arrival, after_run, bus_free}
use proofs.Names.{leaving_by, message_out_leaving, message_repetition, phase_entry, phase_leaving, phase_of}
use proofs.Names.{pointer_restoration, recovery, recovery_limit, with_task, is_naming, Cause, Leaving, Next, Phase}
use proofs.Names.{Task, run_state_plain, target_def_of, IsPrompt, AreOfDevices, IsPlain, RunState, run_state, leaving}
use proofs.Names.{serving_at, task_of, reading_is, is_complaint, is_wrong_phase, change_plain, least_is, none_some}
use proofs.Names.{connection_row, RowFacts, ends_here, stays, whole, IsLeaving, free_unless, is_named_again}
use proofs.Names.{is_tried_again, phase_after, phase_after_wrong, status_unless}

-- ---- where a phase is left for

pub leaves_as_due : (s : ScenarioValue) (p : List Row) (row : Row) (n : Connection) → Obeys s → IsPrompt s (row ∷ p)
    → IsLeaving p row n → (leaving s (run_state s p) n.target).to ≡ phase_after p row
leaves_as_due s p row n o prompt w =
    by (connection_row s p row n o prompt (whole s p o prompt.0).stood w.stands w.calm w.calm_after).facts
  where
    k : RunState
    k = run_state s p

    devices : AreOfDevices p
    devices = (whole s p o prompt.0).stood.standing.devices

    pl : IsPlain s p k
    pl = run_state_plain s p devices

    change : (row_reading k.story.bus_state row).change ≡ change_of p row
    change = change_plain s row p devices (least_is s p row prompt.1).inside

    reads : (row_reading k.story.bus_state row).next ≡ connection (row ∷ p)
    reads = λ i. connection_after (pl.connection i) (pl.call i) (change i) row

    by : RowFacts s p row n → (leaving s k n.target).to ≡ phase_after p row
    by (stays g) = left w.leaves
      where
        same : g.change ≡ change_of p row
        same = sym g.row_is.change_is ∙ change

        goes : connection (row ∷ p) ≡ Some n
        goes = sym reads ∙ ap (λ (d : RowReading). d.next)
            (reading_is k row n g.change (is_some (receiver_in n g.change)) g.row_is refl)

        left : (changes_phase (change_of p row) ≡ true) ⊎ (connection (row ∷ p) ≡ None)
            → (leaving s k n.target).to ≡ phase_after p row
        left (inl e) =
            g.whereto (ap changes_phase same ∙ e) w.begun_is ∙ ap (λ (c : Change). Some (phase_of c.after)) same
            ∙ ap (λ (c : Option Connection). if is_some c then Some (phase_of (bus (row ∷ p))) else None) (sym goes)
        left (inr e) = none_some n (sym e ∙ goes)
    by (ends_here g) = g.whereto
        ∙ ap (λ (c : Option Connection). if is_some c then Some (phase_of (bus (row ∷ p))) else None) (sym g.stopped)

-- ---- the table

recovered : (def : Option TargetDef) (t : Task) (again gives_up : Leaving) → (recovery def t again gives_up).to
    ≡ (if t.in_hold || nat_lt t.recoveries (recovery_limit def) then again.to else gives_up.to)
recovered def t again gives_up = go t.in_hold (nat_lt t.recoveries (recovery_limit def))
  where
    go : (q r : Bool) → (if q then again else if r then record again { counts = true } else gives_up).to
        ≡ (if q || r then again.to else gives_up.to)
    go true r = refl
    go false true = refl
    go false false = refl

to_status : (q : Bool) → (if q then Some Phase.MessageIn else Some Phase.Status) ≡ status_unless q
to_status true = refl
to_status false = refl

for_status : (def : Option TargetDef) (t : Task) (again gives_up : Leaving)
    → again.to ≡ Some Phase.MessageIn → gives_up.to ≡ Some Phase.Status
    → (recovery def t again gives_up).to ≡ status_unless (t.in_hold || nat_lt t.recoveries (recovery_limit def))
for_status def t again gives_up e f =
    recovered def t again gives_up ∙ (λ i. if t.in_hold || nat_lt t.recoveries (recovery_limit def) then e i else f i)
    ∙ to_status (t.in_hold || nat_lt t.recoveries (recovery_limit def))

for_free : (def : Option TargetDef) (t : Task) (again gives_up : Leaving)
    → again.to ≡ Some Phase.MessageIn → gives_up.to ≡ None
    → (recovery def t again gives_up).to ≡ free_unless (t.in_hold || nat_lt t.recoveries (recovery_limit def))
for_free def t again gives_up e f =
    recovered def t again gives_up ∙ (λ i. if t.in_hold || nat_lt t.recoveries (recovery_limit def) then e i else f i)

none_of : (o : Option Agreement) → is_none o ≡ true → is_some o ≡ false
none_of None e = refl
none_of (Some x) e = wrong' e

complained : (v : Serving) (t : Task) (cause : Cause) → v.task ≡ Some t → is_complaint v.plan cause ≡ true
    → (message_out_leaving v cause).to ≡ phase_after_wrong Phase.MessageOut cause
    (is_named_again v.plan Phase.MessageOut cause || (t.in_hold || nat_lt t.recoveries (recovery_limit v.def)))
complained v t Cause.Selected et e = wrong' e
complained v t Cause.InData et e =
    (λ i. (with_task (et i) (λ x. recovery v.def x (pointer_restoration Next.GoOn) (phase_entry Phase.Status))).to)
    ∙ for_status v.def t (pointer_restoration Next.GoOn) (phase_entry Phase.Status) refl refl
complained v t Cause.InStatus et e =
    (λ i. (with_task (et i) (λ x. recovery v.def x (pointer_restoration Next.Status) bus_free)).to)
    ∙ for_free v.def t (pointer_restoration Next.Status) bus_free refl refl
complained v t Cause.InMessage et e = (λ i. (if none_of v.plan.said.offer e i then phase_entry Phase.Command
    else if is_naming v.plan.messages.first then message_repetition v.plan
    else with_task (et i) (λ x. recovery v.def x (message_repetition v.plan) bus_free)).to)
    ∙ go (is_naming v.plan.messages.first)
  where
    go : (q : Bool)
        → (if q then message_repetition v.plan else recovery v.def t (message_repetition v.plan) bus_free).to
        ≡ free_unless (q || (t.in_hold || nat_lt t.recoveries (recovery_limit v.def)))
    go true = refl
    go false = for_free v.def t (message_repetition v.plan) bus_free refl refl

wrong_left : (v : Serving) (attention : Bool) (t : Task) (phase : Phase)
    → v.task ≡ Some t → is_wrong_phase v.plan.struck v.plan phase ≡ true
    → (phase_leaving v attention phase).to ≡ phase_after_wrong phase v.plan.cause (is_tried_again v.def v.plan t phase)
wrong_left v attention t Phase.MessageOut et e = complained v t v.plan.cause et e
wrong_left v attention t Phase.Command et e = (λ i.
    (with_task (et i) (λ x. if e i then recovery v.def x (pointer_restoration Next.Command) (phase_entry Phase.Status)
    else after_arrival v.def x v.arrival)).to)
    ∙ for_status v.def t (pointer_restoration Next.Command) (phase_entry Phase.Status) refl refl
wrong_left v attention t Phase.DataOut et e = (λ i.
    (with_task (et i) (λ x. if e i then recovery v.def x (pointer_restoration Next.GoOn) (phase_entry Phase.Status)
    else after_run (policy_of v.def) x)).to)
    ∙ for_status v.def t (pointer_restoration Next.GoOn) (phase_entry Phase.Status) refl refl
wrong_left v attention t _ et e = wrong' e

pub left_by_table : (s : ScenarioValue) (p : List Row) (row : Row) (n : Connection) (t : Task)
    → Obeys s → IsPrompt s (row ∷ p) → IsLeaving p row n → task_of s (run_state s p) ≡ Some t
    → is_wrong_phase (run_state s p).exchange.plan.struck (run_state s p).exchange.plan (phase_of (bus p)) ≡ true
    → phase_after p row ≡ phase_after_wrong (phase_of (bus p)) (run_state s p).exchange.plan.cause
    (is_tried_again (target_def_of s n.target) (run_state s p).exchange.plan t (phase_of (bus p)))
left_by_table s p row n t o prompt w et e =
    let k : RunState = run_state s p in
    let pl : IsPlain s p k = run_state_plain s p (whole s p o prompt.0).stood.standing.devices in
    sym (leaves_as_due s p row n o prompt w)
    ∙ (λ i. (leaving_by (serving_at s k n.target (phase_of (pl.bus i))) ((pl.begun ∙ w.begun_is) i) (pl.bus i)).to)
    ∙ wrong_left (serving_at s k n.target (phase_of (bus p))) (bus p).atn t (phase_of (bus p)) et e

-- ---- rows of a prompt trace stand over such a trace

pub prompt_before : (s : ScenarioValue) (later before : List Row) → IsPrompt s (later ++ before) → IsPrompt s before
prompt_before s [] before h = h
prompt_before s (row ∷ later) before h = prompt_before s later before h.0

pub prompt_at : (s : ScenarioValue) (rows later before : List Row) → IsPrompt s rows → rows ≡ later ++ before
    → IsPrompt s before
prompt_at s rows later before h e = prompt_before s later before (subst (λ (x : List Row). IsPrompt s x) e h)
