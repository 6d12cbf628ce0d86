-- Why a command ends otherwise than GOOD: by more faults than it bears, by a target that is absent, by a full queue, by
-- a reset or an abort.
use Rattle.delivery_laws.proofs
use proofs.Names.{ℕ, ◌≡◌, ◌⊎◌, inl, inr, ◌≤◌, ◌+◌, Bool, true, false, ◌∙◌, List, Option, Some, None, refl, sym, ap}
use proofs.Names.{arith, eqb-true, nat_tests, if◌then◌else◌, ◌==◌, nat_lt, wrong, wrong', Event, ProcId, Row, GOOD}
use proofs.Names.{QUEUE_FULL, has_target, ScenarioValue, Obeys, CmdDef, command_at, process_by, process_if, command_id}
use proofs.Names.{command_item, Outcome, ended_good, ended_check, ended_full, ended_unanswered, ended_lost, ended_reset}
use proofs.Names.{ended_aborted, ending_of, outcome_by_status, outcome_if, outcome_of, Ending, Story, by_abort, by_loss}
use proofs.Names.{by_reset, by_status, unanswered, retries_of, story, recovery_limit, prompt_plain, allowed}
use proofs.Names.{target_def_of, IsPrompt, run_state, same_event, has_event, was_refused, fault_rows, whole}
use proofs.Names.{has_bus_reset, has_command_abort, is_loss_of, is_status_of, calling_faults, command_faults}
use proofs.{Names.{fault_limit}, Callings.{Facts.{unanswered_struck}, Present.{absent_unstruck}}}
use proofs.Outcomes.Delivered.{HaveCauses, IsLimited, IsLostAbove, any_to, borne, loss_is_event}

-- ---- the ending behind an outcome

abbrev is_lost : Option Outcome → Bool
is_lost (Some ended_lost) = true
is_lost _ = false

abbrev is_unanswered : Option Outcome → Bool
is_unanswered (Some ended_unanswered) = true
is_unanswered _ = false

abbrev is_reset : Option Outcome → Bool
is_reset (Some ended_reset) = true
is_reset _ = false

abbrev is_aborted : Option Outcome → Bool
is_aborted (Some ended_aborted) = true
is_aborted _ = false

abbrev is_full : Option Outcome → Bool
is_full (Some ended_full) = true
is_full _ = false

-- A status gives none of these.
by_none : {A : Type 0} (s : ScenarioValue) (h : List Event) (m status : ℕ) (f : Option Outcome → Bool)
    → ((bytes : List ℕ) → f (Some (ended_good bytes)) ≡ false) → f (Some ended_full) ≡ false
    → ((o : Option Rattle.due_model.specs.cdb_codec.specs.declared.Sense.Sense) → f (Some (ended_check o)) ≡ false)
    → f (Some (outcome_by_status s h m status)) ≡ true → A
by_none s h m status f good full check e = go (status == GOOD) (status == QUEUE_FULL) _ _ e
  where
    go : {A : Type 0} (q r : Bool) (bytes : List ℕ)
        (o : Option Rattle.due_model.specs.cdb_codec.specs.declared.Sense.Sense)
        → f (Some (if q then ended_good bytes else if r then ended_full else ended_check o)) ≡ true → A
    go true r bytes o z = wrong (sym z ∙ good bytes)
    go false true bytes o z = wrong (sym z ∙ full)
    go false false bytes o z = wrong (sym z ∙ check o)

by_lost : (s : ScenarioValue) (h : List Event) (m : ℕ) (o : Option Ending) → is_lost (outcome_if s h m o) ≡ true
    → o ≡ Some by_loss
by_lost s h m (Some (by_status status)) e = by_none s h m status is_lost (λ bytes. refl) refl (λ o. refl) e
by_lost s h m (Some by_loss) e = refl
by_lost s h m _ e = wrong' e

by_silence : (s : ScenarioValue) (h : List Event) (m : ℕ) (o : Option Ending)
    → is_unanswered (outcome_if s h m o) ≡ true → o ≡ Some unanswered
by_silence s h m (Some (by_status status)) e = by_none s h m status is_unanswered (λ bytes. refl) refl (λ o. refl) e
by_silence s h m (Some unanswered) e = refl
by_silence s h m _ e = wrong' e

by_resetting : (s : ScenarioValue) (h : List Event) (m : ℕ) (o : Option Ending) → is_reset (outcome_if s h m o) ≡ true
    → o ≡ Some by_reset
by_resetting s h m (Some (by_status status)) e = by_none s h m status is_reset (λ bytes. refl) refl (λ o. refl) e
by_resetting s h m (Some by_reset) e = refl
by_resetting s h m _ e = wrong' e

by_aborting : (s : ScenarioValue) (h : List Event) (m : ℕ) (o : Option Ending) → is_aborted (outcome_if s h m o) ≡ true
    → o ≡ Some by_abort
by_aborting s h m (Some (by_status status)) e = by_none s h m status is_aborted (λ bytes. refl) refl (λ o. refl) e
by_aborting s h m (Some by_abort) e = refl
by_aborting s h m _ e = wrong' e

by_full : (s : ScenarioValue) (h : List Event) (m : ℕ) (o : Option Ending) → is_full (outcome_if s h m o) ≡ true
    → o ≡ Some (by_status QUEUE_FULL)
by_full s h m (Some (by_status status)) e = go (status == GOOD) (status == QUEUE_FULL) refl _ _ e
  where
    go : (q r : Bool) → (status == QUEUE_FULL) ≡ r
        → (bytes : List ℕ) (o : Option Rattle.due_model.specs.cdb_codec.specs.declared.Sense.Sense)
        → is_full (Some (if q then ended_good bytes else if r then ended_full else ended_check o)) ≡ true
        → Some (by_status status) ≡ Some (by_status QUEUE_FULL)
    go true r w bytes o z = wrong' z
    go false true w bytes o z = λ i. Some (by_status (eqb-true status QUEUE_FULL w i))
    go false false w bytes o z = wrong' z
by_full s h m _ e = wrong' e

-- What the run state tells of it.
told : (s : ScenarioValue) (p : List Row) (m : ℕ) (x : Outcome) (f : Option Outcome → Bool)
    → IsPrompt s p → f (Some x) ≡ true → outcome_of s (story s p) m ≡ Some x
    → f (outcome_if s (run_state s p).story.history m (ending_of (run_state s p).story.ended m)) ≡ true
told s p m x f prompt own e = ap f (ap (λ (b : Story). outcome_of s b m) (prompt_plain s p prompt).story ∙ e) ∙ own

-- ---- faults above the limit

above_other : (l r f g : ℕ) → l ≤ r → nat_lt r f ≡ true → nat_lt l (f + g) ≡ true
above_other l r f g e h = grind (arith, nat_tests)

above_own : (l r f g : ℕ) → l ≤ r → nat_lt r g ≡ true → nat_lt l (f + g) ≡ true
above_own l r f g e h = grind (arith, nat_tests)

none_above : {A : Type 0} (r f : ℕ) → f ≡ 0 → nat_lt r f ≡ true → A
none_above r f e h = absurd grind (arith, nat_tests)

connected_above : (s : ScenarioValue) (p : List Row) (m : ℕ) (c : CmdDef)
    → Obeys s → IsPrompt s p → command_at s.commands m ≡ Some c
    → nat_lt (recovery_limit (target_def_of s c.target)) (fault_rows s p (command_id m)) ≡ true
    → nat_lt (fault_limit s c) (command_faults s p m) ≡ true
connected_above s p m c o prompt at e = go (has_target s c.target) refl
  where
    go : (q : Bool) → has_target s c.target ≡ q → nat_lt (fault_limit s c) (command_faults s p m) ≡ true
    go true there = above_other (fault_limit s c) (recovery_limit (target_def_of s c.target))
        (fault_rows s p (command_id m)) (calling_faults s p (command_item m)) (borne s c there).other e
    go false away = none_above (recovery_limit (target_def_of s c.target)) (fault_rows s p (command_id m))
        (absent_unstruck s p o prompt (command_id m) (process_by s (command_id m) c)
        (ap (process_if s (command_id m)) at) away) e

pub lost_above : (s : ScenarioValue) (p : List Row) (m : ℕ) (c : CmdDef) → HaveCauses → IsLostAbove → Obeys s
    → IsPrompt s p → command_at s.commands m ≡ Some c → outcome_of s (story s p) m ≡ Some ended_lost
    → nat_lt (fault_limit s c) (command_faults s p m) ≡ true
lost_above s p m c causes lost o prompt at e = connected_above s p m c o prompt at
    (lost s p (process_by s (command_id m) c) o prompt (ap (process_if s (command_id m)) at)
    (any_to (is_loss_of (command_id m)) (λ x. same_event x (Event.Lost (command_id m))) (loss_is_event (command_id m))
    (run_state s p).story.history (causes.loss s p m (by_lost s (run_state s p).story.history m
    (ending_of (run_state s p).story.ended m) (told s p m ended_lost is_lost prompt refl e)))))

pub failed_above : (s : ScenarioValue) (p : List Row) (m code : ℕ) (c : CmdDef) → IsLimited → Obeys s → IsPrompt s p
    → command_at s.commands m ≡ Some c → has_event (run_state s p).story.history (Event.Fail (command_id m) code) ≡ true
    → nat_lt (fault_limit s c) (command_faults s p m) ≡ true
failed_above s p m code c limited o prompt at e = connected_above s p m c o prompt at
    (limited s p (process_by s (command_id m) c) code o prompt (ap (process_if s (command_id m)) at) e)

pub unanswered_above : (s : ScenarioValue) (p : List Row) (m : ℕ) (c : CmdDef) → HaveCauses → Obeys s
    → IsPrompt s p → command_at s.commands m ≡ Some c → outcome_of s (story s p) m ≡ Some ended_unanswered
    → (has_target s c.target ≡ false) ⊎ (nat_lt (fault_limit s c) (command_faults s p m) ≡ true)
unanswered_above s p m c causes o prompt at e = go (has_target s c.target) refl
  where
    go : (q : Bool) → has_target s c.target ≡ q
        → (has_target s c.target ≡ false) ⊎ (nat_lt (fault_limit s c) (command_faults s p m) ≡ true)
    go false away = inl away
    go true there = inr (above_own (fault_limit s c) (retries_of s.hosts c.host)
        (fault_rows s p (command_id m)) (calling_faults s p (command_item m)) (borne s c there).own
        (unanswered_struck s p m c causes.tried o prompt at there (by_silence s (run_state s p).story.history m
        (ending_of (run_state s p).story.ended m) (told s p m ended_unanswered is_unanswered prompt refl e))))

-- ---- a full queue, a reset, an abort

status_is_event : (id : ProcId) (status : ℕ) (e : Event) → is_status_of id status e ≡ true
    → same_event e (Event.End id status) ≡ true
status_is_event id status (Event.End p code) z = z
status_is_event id status _ z = wrong' z

abbrev pub IsFullTrace : Type 0
IsFullTrace = (s : ScenarioValue) (rows : List Row) (id : ProcId) → allowed s rows ≡ true
    → has_event (run_state s rows).story.history (Event.End id QUEUE_FULL) ≡ true
    → was_refused s (run_state s rows).story.history id ≡ true

pub full_refused : (s : ScenarioValue) (p : List Row) (m : ℕ) → HaveCauses → IsFullTrace → Obeys s → IsPrompt s p
    → outcome_of s (story s p) m ≡ Some ended_full → was_refused s (run_state s p).story.history (command_id m) ≡ true
full_refused s p m causes full o prompt e =
    full s p (command_id m) (whole s p o prompt).permitted (any_to (is_status_of (command_id m) QUEUE_FULL)
    (λ x. same_event x (Event.End (command_id m) QUEUE_FULL)) (status_is_event (command_id m) QUEUE_FULL)
    (run_state s p).story.history (causes.status s p m QUEUE_FULL (by_full s (run_state s p).story.history m
    (ending_of (run_state s p).story.ended m) (told s p m ended_full is_full prompt refl e))))

pub reset_came : (s : ScenarioValue) (p : List Row) (m : ℕ) → HaveCauses → IsPrompt s p
    → outcome_of s (story s p) m ≡ Some ended_reset → has_bus_reset (run_state s p).story.history ≡ true
reset_came s p m causes prompt e = causes.reset s p m (by_resetting s (run_state s p).story.history m
    (ending_of (run_state s p).story.ended m) (told s p m ended_reset is_reset prompt refl e))

pub abort_came : (s : ScenarioValue) (p : List Row) (m : ℕ) (c : CmdDef) → HaveCauses → IsPrompt s p
    → command_at s.commands m ≡ Some c → outcome_of s (story s p) m ≡ Some ended_aborted
    → has_command_abort (run_state s p).story.history c ≡ true
abort_came s p m c causes prompt at e = causes.abort s p m c at (by_aborting s (run_state s p).story.history m
    (ending_of (run_state s p).story.ended m) (told s p m ended_aborted is_aborted prompt refl e))
