-- In a scenario without resets and aborts a command whose target is absent ends unanswered; and one that is not valid
-- ends with CHECK CONDITION and the sense of what is wrong with it first (7.2, 7.3, 8.2).
use Rattle.delivery_laws.proofs
use proofs.Names.{◌⊎◌, inl, inr, ℕ, ◌≡◌, Bool, true, false, ◌||◌, ◌∙◌, List, [], Option, Some, None, refl, sym, ap}
use proofs.Names.{subst, same_Some, list_all, ◌==◌, is_some, nat_le, nat_lt, and_first, wrong, wrong', Event, ProcId}
use proofs.Names.{Row, Sense, CHECK_CONDITION, has_target, ScenarioValue, Obeys, CmdDef, array_after, reply_in}
use proofs.Names.{reply_of, Reply, check_condition, command_at, process_by, process_if, same_id, Array, command_id}
use proofs.Names.{command_item, sense_id, ended_check, ended_unanswered, ending_of, is_valid, outcome_by_status}
use proofs.Names.{outcome_if, outcome_of, sense_of_end, Ending, Story, by_abort, by_loss, by_reset, by_status}
use proofs.Names.{unanswered, retries_of, story, recovery_limit, prompt_plain, target_def_of, IsEnded, IsPrompt}
use proofs.Names.{RunState, array_of, run_state, same_event, has_event, fault_rows, Whole, whole, WantsAreItems}
use proofs.Names.{all_joined, has_bus_reset, has_loss, has_sense_abort, has_sense_stop, has_status, is_bus_reset}
use proofs.Names.{is_command_abort, is_loss_of, is_sense_abort, is_status_of, HasRun, IsGiven, IsOwnSense}
use proofs.Names.{calling_faults, checked_sense, command_faults, failed, fault_limit, is_calm_event, ran, is_checked}
use proofs.Callings.{Facts.{unanswered_struck}, Unheard.{about_there, has_about, is_about, no_sense_lost}}
use proofs.Outcomes.Delivered.{AreOutcomes, Borne, HaveCauses, IsLimited, IsLostAbove, abort_uncalm, any_to, borne}
use proofs.Outcomes.Delivered.{loss_is_event, none_calm, not_above, not_unheard, reset_uncalm, some_outcome}
use proofs.Replies.{Ends.{HasReply, all_ended, end_found, end_reply}, Given.{all_given}, Invalid.{checked_ran}}
use proofs.{Replies.Lasting.{ran_lasts}, Resets.Calm.{calm_history}, Senses.Facts.{own_plays, own_sense}}
use proofs.Senses.Stopped.{AreStopped, sense_stopped}
use Rattle.delivery_laws.specs.Delivery.{refused}

-- What the laws of others give.
pub record Laws : Type 0 where
  pub causes : HaveCauses
  pub limited : IsLimited
  pub lost : IsLostAbove
  pub answered : AreOutcomes
  pub wants : WantsAreItems
  pub stopped : AreStopped

-- A prompt trace that has ended, without resets and aborts.
pub record IsCalmTrace (s : ScenarioValue) (p : List Row) : Type 0 where
  pub obeys : Obeys s
  pub resets : s.resets ≡ []
  pub aborts : s.aborts ≡ []
  pub prompt : IsPrompt s p
  pub end : IsEnded s p

calm_of : (s : ScenarioValue) (p : List Row) → IsCalmTrace s p
    → list_all (λ (x : Event). is_calm_event x) (run_state s p).story.history ≡ true
calm_of s p t = calm_history s p t.obeys t.resets t.aborts t.prompt

has_outcome : (s : ScenarioValue) (p : List Row) (m : ℕ) (c : CmdDef) → Laws → IsCalmTrace s p
    → command_at s.commands m ≡ Some c → is_some (outcome_of s (run_state s p).story m) ≡ true
has_outcome s p m c laws t at = subst (λ (b : Story). is_some (outcome_of s b m) ≡ true) (sym
    (prompt_plain s p t.prompt).story) (some_outcome s (story s p) m c (laws.answered s p t.obeys t.prompt t.end) at)

-- ---- its target is absent

status_about : (id : ProcId) (status : ℕ) (e : Event) → is_status_of id status e ≡ true → is_about id e ≡ true
status_about id status (Event.End p code) z = and_first (same_id p id) (code == status) z
status_about id status _ z = wrong' z

loss_about : (id : ProcId) (e : Event) → is_loss_of id e ≡ true → is_about id e ≡ true
loss_about id (Event.Lost p) z = z
loss_about id _ z = wrong' z

pub unheard : (s : ScenarioValue) (p : List Row) (m : ℕ) (c : CmdDef) → Laws
    → IsCalmTrace s p → command_at s.commands m ≡ Some c → has_target s c.target ≡ false
    → outcome_of s (story s p) m ≡ Some ended_unanswered
unheard s p m c laws t at away = ap (λ (b : Story). outcome_of s b m) (sym (prompt_plain s p t.prompt).story)
    ∙ go (ending_of k.story.ended m) refl (has_outcome s p m c laws t at)
  where
    k : RunState
    k = run_state s p

    none : {A : Type 0} → has_about k.story.history (command_id m) ≡ true → A
    none has = wrong (sym (about_there s p t.obeys t.prompt (command_id m) (process_by s (command_id m) c)
        (ap (process_if s (command_id m)) at) has) ∙ away)

    go : (o : Option Ending) → ending_of k.story.ended m ≡ o → is_some (outcome_if s k.story.history m o) ≡ true
        → outcome_if s k.story.history m o ≡ Some ended_unanswered
    go None e some = wrong' some
    go (Some (by_status status)) e some =
        none (any_to (is_status_of (command_id m) status) (λ x. is_about (command_id m) x)
        (status_about (command_id m) status) k.story.history (laws.causes.status s p m status e))
    go (Some by_loss) e some = none (any_to (is_loss_of (command_id m)) (λ x. is_about (command_id m) x)
        (loss_about (command_id m)) k.story.history (laws.causes.loss s p m e))
    go (Some by_reset) e some =
        none_calm is_bus_reset reset_uncalm k.story.history (calm_of s p t) (laws.causes.reset s p m e)
    go (Some by_abort) e some =
        none_calm (is_command_abort c) (abort_uncalm c) k.story.history (calm_of s p t) (laws.causes.abort s p m c at e)
    go (Some unanswered) e some = refl

-- ---- something is wrong with it

-- What is asked of it.
pub record IsWrong (s : ScenarioValue) (p : List Row) (m : ℕ) (c : CmdDef) : Type 0 where
  pub at : command_at s.commands m ≡ Some c
  pub there : has_target s c.target ≡ true
  pub checked : is_checked s c ≡ true
  pub bears : nat_le (command_faults s p m) (fault_limit s c) ≡ true
  pub unrefused : has_event (run_state s p).story.history (Event.Refuse (command_id m)) ≡ false

-- Its faults are borne.
no_more : {A : Type 0} (s : ScenarioValue) (p : List Row) (m : ℕ) (c : CmdDef) → IsWrong s p m c
    → nat_lt (recovery_limit (target_def_of s c.target)) (fault_rows s p (command_id m)) ≡ true → A
no_more s p m c h e =
    let b : Borne s c = borne s c h.there in
    not_above (fault_rows s p (command_id m)) (calling_faults s p (command_item m))
    (retries_of s.hosts c.host) (fault_limit s c) (recovery_limit (target_def_of s c.target))
    (recovery_limit (target_def_of s c.target)) h.bears b.own b.other e refl

-- Its reply.
wrong_reply : (s : ScenarioValue) (p : List Row) (m : ℕ) (c : CmdDef) (reply : Reply) → Laws → IsCalmTrace s p
    → IsWrong s p m c → reply_of (array_after s (run_state s p).story.history) (command_id m) ≡ Some reply
    → reply ≡ check_condition (checked_sense s c)
wrong_reply s p m c reply laws t h e =
    by (all_given s k.story.history (array_of s k) t.obeys (own_plays s p t.obeys t.prompt) (command_id m) reply
    (ap (λ (x : Option Array). reply_of x (command_id m)) (sym (own_plays s p t.obeys t.prompt)) ∙ e))
  where
    k : RunState
    k = run_state s p

    by : IsGiven s k.story.history (command_id m) reply → reply ≡ check_condition (checked_sense s c)
    by (ran w) = checked_ran s k.story.history m c reply t.obeys (calm_of s p t) h.at h.checked w
    by (failed code f g) = no_more s p m c h (laws.limited s p (process_by s (command_id m) c) code t.obeys t.prompt
        (ap (process_if s (command_id m)) h.at) f)
    by (refused f g) = wrong (sym f ∙ h.unrefused)

sense_uncalm : (c : CmdDef) (e : Event) → is_sense_abort c e ≡ true → is_calm_event e ≡ false
sense_uncalm c (Event.Aborted i t n what) z = refl
sense_uncalm c _ z = wrong' z

-- Its automatic REQUEST SENSE is not stopped.
unstopped : {A : Type 0} (s : ScenarioValue) (p : List Row) (m : ℕ) (c : CmdDef) → IsCalmTrace s p
    → has_sense_stop (run_state s p).story.history m c ≡ true → A
unstopped s p m c t e = go (has_loss k.story.history (sense_id m)) refl (has_bus_reset k.story.history) refl e
  where
    k : RunState
    k = run_state s p

    go : {A : Type 0} (x : Bool) → has_loss k.story.history (sense_id m) ≡ x
        → (y : Bool) → has_bus_reset k.story.history ≡ y → (x || (y || has_sense_abort k.story.history c)) ≡ true → A
    go true f y g z = no_sense_lost s p m t.obeys t.prompt f
    go false f true g z = none_calm is_bus_reset reset_uncalm k.story.history (calm_of s p t) g
    go false f false g z = none_calm (is_sense_abort c) (sense_uncalm c) k.story.history (calm_of s p t) z

by_check : (s : ScenarioValue) (h : List Event) (m status : ℕ) → status ≡ CHECK_CONDITION
    → outcome_if s h m (Some (by_status status)) ≡ Some (ended_check (sense_of_end s h (sense_id m)))
by_check s h m status e = λ i. Some (outcome_by_status s h m (e i))

pub wrong_outcome : (s : ScenarioValue) (p : List Row) (m : ℕ) (c : CmdDef) → Laws → IsCalmTrace s p → IsWrong s p m c
    → outcome_of s (story s p) m ≡ Some (ended_check (Some (checked_sense s c)))
wrong_outcome s p m c laws t h = told ∙ go (ending_of k.story.ended m) refl (has_outcome s p m c laws t h.at)
  where
    k : RunState
    k = run_state s p

    told : outcome_of s (story s p) m ≡ outcome_of s k.story m
    told = ap (λ (b : Story). outcome_of s b m) (sym (prompt_plain s p t.prompt).story)

    w : Whole s p
    w = whole s p t.obeys t.prompt

    -- its status
    checks : (status : ℕ) → has_status k.story.history (command_id m) status ≡ true → status ≡ CHECK_CONDITION
    checks status e =
        let r : HasReply s k (command_id m) status = end_reply s k (command_id m) status
        (w.statuses.areas.areas (command_id m)) (end_found s k k.story.history (command_id m) status
        (all_ended s p t.obeys t.prompt (all_joined s p t.obeys t.prompt)) e) in
        r.status_is ∙ ap (λ (x : Reply). x.status) (wrong_reply s p m c r.reply laws t h
        (ap (λ (x : Option Array). reply_of x (command_id m)) (own_plays s p t.obeys t.prompt) ∙ r.reply_is))

    -- its sense
    brought : outcome_of s k.story m ≡ Some (ended_check (sense_of_end s k.story.history (sense_id m)))
        → (x : Option Sense) → sense_of_end s k.story.history (sense_id m) ≡ x
        → Some (ended_check x) ≡ Some (ended_check (Some (checked_sense s c)))
    brought e None f = unstopped s p m c t (sense_stopped s p m c laws.wants laws.causes laws.stopped t.obeys t.prompt
        t.end h.at (told ∙ e ∙ (λ i. Some (ended_check (f i)))))
    brought e (Some x) f =
        let own : IsOwnSense s k.story.history m x = own_sense s p m x t.obeys t.prompt
        (told ∙ e ∙ (λ i. Some (ended_check (f i)))) in
        λ i. Some (ended_check (Some
        ((sym own.sense_is ∙ ap (λ (y : Reply). y.sense) (wrong_reply s p m c own.reply laws t h own.reply_is)) i)))

    go : (o : Option Ending) → ending_of k.story.ended m ≡ o → is_some (outcome_if s k.story.history m o) ≡ true
        → outcome_if s k.story.history m o ≡ Some (ended_check (Some (checked_sense s c)))
    go None e some = wrong' some
    go (Some (by_status status)) e some =
        let is = by_check s k.story.history m status (checks status (laws.causes.status s p m status e)) in
        is ∙ (λ i. Some (ended_check (sense_of_end s k.story.history (sense_id m))))
        ∙ brought (ap (outcome_if s k.story.history m) e ∙ is) (sense_of_end s k.story.history (sense_id m)) refl
    go (Some by_loss) e some = no_more s p m c h
        (laws.lost s p (process_by s (command_id m) c) t.obeys t.prompt (ap (process_if s (command_id m)) h.at)
        (any_to (is_loss_of (command_id m)) (λ x. same_event x (Event.Lost (command_id m)))
        (loss_is_event (command_id m)) k.story.history (laws.causes.loss s p m e)))
    go (Some by_reset) e some =
        none_calm is_bus_reset reset_uncalm k.story.history (calm_of s p t) (laws.causes.reset s p m e)
    go (Some by_abort) e some = none_calm (is_command_abort c) (abort_uncalm c) k.story.history (calm_of s p t)
        (laws.causes.abort s p m c h.at e)
    go (Some unanswered) e some =
        let b : Borne s c = borne s c h.there in
        not_unheard (fault_rows s p (command_id m)) (calling_faults s p (command_item m)) (retries_of s.hosts c.host)
        (fault_limit s c) (recovery_limit (target_def_of s c.target)) h.bears b.own b.other
        (unanswered_struck s p m c laws.causes.tried t.obeys t.prompt h.at h.there e)

-- ---- it ran with CHECK CONDITION

pub ran_outcome : (s : ScenarioValue) (p : List Row) (m status : ℕ) (reply : Reply) → HaveCauses
    → Obeys s → IsPrompt s p → HasRun s (run_state s p).story.history (command_id m) reply
    → reply.status ≡ CHECK_CONDITION → ending_of (run_state s p).story.ended m ≡ Some (by_status status)
    → (outcome_of s (story s p) m ≡ Some (ended_check None))
    ⊎ (outcome_of s (story s p) m ≡ Some (ended_check (Some reply.sense)))
ran_outcome s p m status reply causes o prompt w check e = by (sense_of_end s k.story.history (sense_id m)) refl
  where
    k : RunState
    k = run_state s p

    plays : array_after s k.story.history ≡ Some (array_of s k)
    plays = own_plays s p o prompt

    listed : reply_in (array_of s k).replies (command_id m) ≡ Some reply
    listed = ran_lasts s p (array_of s k) (command_id m) reply o prompt plays w

    r : HasReply s k (command_id m) status
    r = end_reply s k (command_id m) status ((whole s p o prompt).statuses.areas.areas (command_id m))
        (end_found s k k.story.history (command_id m) status (all_ended s p o prompt (all_joined s p o prompt))
        (causes.status s p m status e))

    is_check : status ≡ CHECK_CONDITION
    is_check = r.status_is ∙ ap (λ (x : Reply). x.status) (same_Some r.reply reply (sym r.reply_is ∙ listed)) ∙ check

    told : outcome_of s (story s p) m ≡ Some (ended_check (sense_of_end s k.story.history (sense_id m)))
    told = ap (λ (b : Story). outcome_of s b m) (sym (prompt_plain s p prompt).story)
        ∙ ap (outcome_if s k.story.history m) e ∙ by_check s k.story.history m status is_check

    by : (x : Option Sense) → sense_of_end s k.story.history (sense_id m) ≡ x
        → (outcome_of s (story s p) m ≡ Some (ended_check None))
        ⊎ (outcome_of s (story s p) m ≡ Some (ended_check (Some reply.sense)))
    by None f = inl (told ∙ (λ i. Some (ended_check (f i))))
    by (Some x) f =
        let now : outcome_of s (story s p) m ≡ Some (ended_check (Some x)) = told ∙ (λ i. Some (ended_check (f i))) in
        let own : IsOwnSense s k.story.history m x = own_sense s p m x o prompt now in
        let same : own.reply ≡ reply = same_Some own.reply reply
        (sym own.reply_is ∙ ap (λ (y : Option Array). reply_of y (command_id m)) plays ∙ listed) in
        inr (now ∙ (λ i. Some (ended_check (Some ((sym own.sense_is ∙ ap (λ (y : Reply). y.sense) same) i)))))
