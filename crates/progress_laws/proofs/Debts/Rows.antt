-- Row by row of a prompt trace: those to whom a sense is owed stand in the hold. A REQUEST SENSE neither fails nor is
-- lost, for to one in the hold the target tries again without limit; and an initiator sends no command before it (7.6,
-- 7.8).
use Rattle.progress_laws.proofs
use proofs.Names.{ℕ, ◌≡◌, Bool, true, false, not, ◌&&◌, ◌∙◌, List, [], ◌∷◌, Option, Some, None, refl, sym, ap, subst}
use proofs.Names.{inl, inr, or_left, or_right, cases_Bool, list_any, if◌then◌else◌, ◌==◌, is_some, nat_lt, slice_index}
use proofs.Names.{⊤, wrong', and_first, and_second, eq_self, Event, ProcId, rises, changes_phase, Row, Change}
use proofs.Names.{Connection, ScenarioValue, AbortDef, TargetDef, array_after, same_id, RowReading, row_reading}
use proofs.Names.{CarriedBytes, is_status_phase, is_whole_block, abort_line_at, abort_line_events, bus_free_events}
use proofs.Names.{carried_if, end_events, is_completion, is_refuse, item_abort_events, item_loss_events, link_events}
use proofs.Names.{phase_events, queue_event, queue_events, row_events_by, status_event, status_events, Item, abort}
use proofs.Names.{process, LastMessage, Link, abortive, complete, disconnect, plain, Story, phase_of, recovery_limit}
use proofs.Names.{Cause, Phase, Task, target_def_of, RunState, bus_of, run_state, task_of, same_event, self_id}
use proofs.Names.{has_event, is_in_phase, gives_up, is_failure, is_loss, is_past_limit, leaves_wrong_phase}
use proofs.Names.{is_struck_phase, is_left, is_wrong_phase, serves, wrong_phases, item_is, AllOf}
use proofs.Debts.Events.{AllPay}
use Rattle.due_model.specs.bus_trace.specs.Phases.{is_command}
use Rattle.due_model.specs.Faithful.{same_process}

-- ---- which events a row may show

-- No process ends with them.
abbrev pub NoEnds : List Event → Type 0
NoEnds [] = ⊤
NoEnds (Event.End id status ∷ shown) = ⊥
NoEnds (event ∷ shown) = NoEnds shown

-- What is asked of a process that fails, and of one that is lost.
pub record Allows (item : Option Item) (shown : List Event) : Type 0 where
  pub fails : (id : ProcId) (code : ℕ) → has_event shown (Event.Fail id code) ≡ true → id.sense ≡ false
  pub losses : (id : ProcId) → item ≡ Some (process id) → has_event shown (Event.Lost id) ≡ true → id.sense ≡ false

fewer : (item : Option Item) (event : Event) (shown : List Event) → Allows item (event ∷ shown) → Allows item shown
fewer item event shown h = record {
  fails = λ id code e. h.fails id code
      (or_right (same_event event (Event.Fail id code)) (has_event shown (Event.Fail id code)) e);
  losses =
      λ id own e. h.losses id own (or_right (same_event event (Event.Lost id)) (has_event shown (Event.Lost id)) e);
}

pub pays_all : (s : ScenarioValue) (b : Story) (item : Option Item) (shown : List Event) → NoEnds shown
    → AllOf item shown → Allows item shown → AllPay s b shown
pays_all s b item [] none own h = tt
pays_all s b item (Event.Accept id ∷ shown) none own h =
    (tt, pays_all s b item shown none own.1 (fewer item (Event.Accept id) shown h))
pays_all s b item (Event.Refuse id ∷ shown) none own h =
    (tt, pays_all s b item shown none own.1 (fewer item (Event.Refuse id) shown h))
pays_all s b item (Event.Run id ∷ shown) none own h =
    (tt, pays_all s b item shown none own.1 (fewer item (Event.Run id) shown h))
pays_all s b item (Event.Fail id code ∷ shown) none own h = (
  h.fails id code (or_left (same_id id id && code == code) (has_event shown (Event.Fail id code))
      (λ i. self_id id i && eq_self code i)),
  pays_all s b item shown none own.1
      (fewer item (Event.Fail id code) shown h),
)
pays_all s b item (Event.End id status ∷ shown) none own h = absurd none
pays_all s b item (Event.Lost id ∷ shown) none own h = (
  h.losses id (own.0 id refl) (or_left (same_id id id) (has_event shown (Event.Lost id)) (self_id id)),
  pays_all s b item shown none own.1
      (fewer item (Event.Lost id) shown h),
)
pays_all s b item (Event.Aborted i t n what ∷ shown) none own h =
    (tt, pays_all s b item shown none own.1 (fewer item (Event.Aborted i t n what) shown h))
pays_all s b item (Event.Reset dev ∷ shown) none own h =
    (tt, pays_all s b item shown none own.1 (fewer item (Event.Reset dev) shown h))

-- The row ends no process; or COMMAND COMPLETE is taken of this one.
pub data Shown (b : Story) (l : Link) (d : RowReading) (shown : List Event) : Type 0 where
  no_ends : NoEnds shown → Shown b l d shown
  completes : (c : CarriedBytes) → carried_if b l.item ≡ Some c → is_completion l d.change ≡ true
      → shown ≡ Event.End c.id (slice_index c.status.bytes 0) ∷ [] → Shown b l d shown

phase_ends : (s : ScenarioValue) (b : Story) (c : Option CarriedBytes) (w : Change) → NoEnds (phase_events s b c w)
phase_ends s b None w = tt
phase_ends s b (Some c) w =
    replied (queue_events s b (Some c) w.before) (arrived (is_command w.before && is_whole_block c))
  where
    queued : (q : Bool) → NoEnds ((if q then Event.Accept c.id else Event.Refuse c.id) ∷ [])
    queued true = tt
    queued false = tt

    arrived : (q : Bool) → NoEnds (if q then queue_event s b.history c.id ∷ [] else [])
    arrived true = queued (is_some (array_after s (Event.Accept c.id ∷ b.history)))
    arrived false = tt

    status : (o : Option ℕ) (arrived : List Event) → NoEnds arrived → NoEnds (status_event c.id o ∷ arrived)
    status None arrived h = h
    status (Some code) arrived h = h

    replied : (arrived : List Event) → NoEnds arrived → NoEnds (status_events (Some c) w.after arrived)
    replied arrived h =
        go (is_status_phase w.after && not c.shown && not c.refused && not (list_any (λ e. is_refuse e) arrived))
      where
        go : (q : Bool) → NoEnds (if q then status_event c.id c.failure ∷ arrived else arrived)
        go true = status c.failure arrived h
        go false = h

free_ends : (s : ScenarioValue) (l : Link) (last : LastMessage) → NoEnds (bus_free_events s l last)
free_ends s l plain = go l.item
  where
    go : (o : Option Item) → NoEnds (item_loss_events o)
    go None = tt
    go (Some (process id)) = tt
    go (Some (abort k)) = tt
free_ends s l complete = tt
free_ends s l disconnect = tt
free_ends s l abortive = go l.item
  where
    line : (a : Option AbortDef) → NoEnds (abort_line_events a)
    line None = tt
    line (Some a) = tt

    go : (o : Option Item) → NoEnds (item_abort_events s o)
    go None = tt
    go (Some (process id)) = tt
    go (Some (abort k)) = line (abort_line_at s.aborts k)

link_shown : (s : ScenarioValue) (b : Story) (l : Link) (d : RowReading) → Shown b l d (link_events s b (Some l) d)
link_shown s b l d = go (is_some d.next) (changes_phase d.change) (is_completion l d.change) refl
  where
    ended : is_completion l d.change ≡ true → (o : Option CarriedBytes) → carried_if b l.item ≡ o
        → Shown b l d (end_events o)
    ended z None f = no_ends tt
    ended z (Some c) f = completes c f z refl

    go : (q r t : Bool) → is_completion l d.change ≡ t
        → Shown b l d (if q then (if r then phase_events s b (carried_if b l.item) d.change
        else if t then end_events (carried_if b l.item) else []) else bus_free_events s l l.last)
    go true true t z = no_ends (phase_ends s b (carried_if b l.item) d.change)
    go true false true z = ended z (carried_if b l.item) refl
    go true false false z = no_ends tt
    go false r t z = no_ends (free_ends s l l.last)

pub row_shown : (s : ScenarioValue) (b : Story) (d : RowReading) (row : Row) (l : Link) → b.link ≡ Some l
    → Shown b l d (row_events_by s b d row)
row_shown s b d row l e = go d.change.after.rst (rises d.change.own.rst d.change.next.rst)
  where
    go : (q r : Bool)
        → Shown b l d (if q then (if r then Event.Reset row.dev ∷ [] else []) else link_events s b b.link d)
    go true true = no_ends tt
    go true false = no_ends tt
    go false r = subst (λ (x : Option Link). Shown b l d (link_events s b x d)) (sym e) (link_shown s b l d)

-- Without a link it shows no process.
pub quiet_row : (s : ScenarioValue) (b c : Story) (d : RowReading) (row : Row) → b.link ≡ None
    → AllPay s c (row_events_by s b d row)
quiet_row s b c d row e = go d.change.after.rst (rises d.change.own.rst d.change.next.rst)
  where
    go :
        (q r : Bool) → AllPay s c (if q then (if r then Event.Reset row.dev ∷ [] else []) else link_events s b b.link d)
    go true true = (tt, tt)
    go true false = tt
    go false r = subst (λ (x : Option Link). AllPay s c (link_events s b x d)) (sym e) tt

pub reset_row : (s : ScenarioValue) (b c : Story) (d : RowReading) (row : Row) → d.change.after.rst ≡ true
    → AllPay s c (row_events_by s b d row)
reset_row s b c d row e = subst (λ (x : Bool). AllPay s c
    (if x then (if rises d.change.own.rst d.change.next.rst then Event.Reset row.dev ∷ [] else [])
    else link_events s b b.link d)) (sym e)
    (elim (cases_Bool (rises d.change.own.rst d.change.next.rst)) [ inl f ↦ rw f (tt, tt) | inr f ↦ rw f tt ])

-- ---- a process that its target gives up is none of a sense that is owed

served_is : (x : Option Item) (id : ProcId) → same_process x (Some (process id)) ≡ true → is_some x ≡ true
    → x ≡ Some (process id)
served_is None id e some = wrong' some
served_is (Some i) id e some = ap (λ (x : Item). Some x) (item_is i (process id) e)

abbrev pub is_held_task : Option Task → Bool
is_held_task None = false
is_held_task (Some t) = t.in_hold

pub past_not_held : {A : Type 0} (def : Option TargetDef) (o : Option Task) (count : ℕ) → is_held_task o ≡ true
    → is_past_limit def o count ≡ true → A
past_not_held def None count held e = wrong' held
past_not_held def (Some t) count held e = wrong'
    (sym (λ i. not (held i) && not (nat_lt t.recoveries (recovery_limit def)) && nat_lt (recovery_limit def) count) ∙ e)

pub record GivenUp (s : ScenarioValue) (p : List Row) (n : Connection) (id : ProcId) : Type 0 where
  pub served : (run_state s p).served ≡ Some (process id)
  pub count : ℕ
  pub past : is_past_limit (target_def_of s n.target) (task_of s (run_state s p)) count ≡ true

pub given_up : (s : ScenarioValue) (p : List Row) (row : Row) (n : Connection) (id : ProcId)
    → gives_up s p row n id ≡ true → GivenUp s p n id
given_up s p row n id e =
    let k : RunState = run_state s p in
    let d : RowReading = row_reading k.story.bus_state row in
    let two = and_first (leaves_wrong_phase (is_struck_phase s p) k d id)
    (is_past_limit (target_def_of s n.target) (task_of s k) (wrong_phases s (row ∷ p) id)) e in
    let who : serves k id ≡ true = and_second (is_left k d) (serves k id) (and_first (is_left k d && serves k id)
    (is_wrong_phase (is_struck_phase s p) k.exchange.plan (phase_of (bus_of k))) two) in
    record {
      served = served_is k.served id (and_first (same_process k.served (Some (process id))) (is_some k.served) who)
          (and_second (same_process k.served (Some (process id))) (is_some k.served) who);
      count = wrong_phases s (row ∷ p) id;
      past = and_second (leaves_wrong_phase (is_struck_phase s p) k d id)
          (is_past_limit (target_def_of s n.target) (task_of s k) (wrong_phases s (row ∷ p) id)) e;
    }

-- Its phase is not MESSAGE IN.
pub fails_elsewhere : (cause : Cause) (code : ℕ) (phase : Phase) → is_failure cause code phase ≡ true
    → is_in_phase phase ≡ false
fails_elsewhere Cause.Selected code Phase.MessageIn e = wrong' e
fails_elsewhere Cause.InMessage code Phase.MessageIn e = wrong' e
fails_elsewhere Cause.InData code Phase.MessageIn e = wrong' e
fails_elsewhere Cause.InStatus code Phase.MessageIn e = wrong' e
fails_elsewhere cause code _ e = refl

pub loses_elsewhere : (cause : Cause) (phase : Phase) → is_loss cause phase ≡ true → is_in_phase phase ≡ false
loses_elsewhere Cause.Selected Phase.MessageIn e = wrong' e
loses_elsewhere Cause.InMessage Phase.MessageIn e = wrong' e
loses_elsewhere Cause.InData Phase.MessageIn e = wrong' e
loses_elsewhere Cause.InStatus Phase.MessageIn e = wrong' e
loses_elsewhere cause _ e = refl
