-- In a scenario without resets and aborts a valid command that was not refused, and that no more faults struck than it
-- bears, ends GOOD.
use Rattle.delivery_laws.proofs
use proofs.Names.{ℕ, zero, suc, ◌≡◌, ◌⊎◌, inl, inr, ◌≤◌, ◌+◌, Bool, true, false, ◌&&◌, ◌||◌, ◌∙◌, List, [], ◌∷◌, Option}
use proofs.Names.{Some, None, refl, sym, ap, subst, arith, min-le_left, min-le_right, and_parts, or_left, or_right}
use proofs.Names.{and_from, cases_Bool, nat_tests, list_all, list_any, ◌==◌, is_some, nat_lt, nat_le, if◌then◌else◌}
use proofs.Names.{and_first, eq_self, plus_none, wrong, wrong', Event, ProcId, Row, command_of, tape_command_of, GOOD}
use proofs.Names.{has_target, is_tape, ScenarioValue, Obeys, CmdDef, TargetDef, array_after, reply_in, Reply, Process}
use proofs.Names.{command_at, process_by, process_if, process_of, same_id, Array, command_id, command_item, Outcome}
use proofs.Names.{ending_of, is_valid, is_sound_command, outcome_by_status, outcome_if, outcome_of, outcomes}
use proofs.Names.{outcomes_from, is_plain_at_tape, Ending, Story, by_abort, by_loss, by_reset, by_status, unanswered}
use proofs.Names.{retries_of, story, recovery_limit, prompt_plain, target_def_of, is_good, IsPrompt, IsEnded, IsPlain}
use proofs.Names.{RunState, array_of, or_start, run_state, same_event, has_event, fault_rows, has_more_faults}
use proofs.Names.{none_some, plus_one, Whole, whole, all_joined, has_status, has_loss, has_bus_reset, has_command_abort}
use proofs.Names.{is_bus_reset, is_command_abort, is_loss_of, calling_faults, command_faults, fault_limit}
use proofs.{Names.{is_calm_event, is_given_up_by, limit_with}, Callings.Facts.{AreTried}, Replies.Ends.{HasReply}}
use proofs.{Replies.Ends.{all_ended, end_found, end_reply}, Resets.Devices.{any_found}}

-- ---- events

pub any_to : (f g : Event → Bool) → ((e : Event) → f e ≡ true → g e ≡ true) → (h : List Event)
    → list_any (λ e. f e) h ≡ true → list_any (λ e. g e) h ≡ true
any_to f g to [] e = wrong' e
any_to f g to (x ∷ h) e = go (f x) refl e (any_to f g to h)
  where
    go : (q : Bool) → f x ≡ q → (q || list_any (λ e. f e) h) ≡ true
        → (list_any (λ e. f e) h ≡ true → list_any (λ e. g e) h ≡ true) → (g x || list_any (λ e. g e) h) ≡ true
    go true z w rest = or_left (g x) (list_any (λ e. g e) h) (to x z)
    go false z w rest = or_right (g x) (list_any (λ e. g e) h) (rest w)

-- A calm history has no event that is not calm.
pub none_calm : {A : Type 0} (f : Event → Bool) → ((e : Event) → f e ≡ true → is_calm_event e ≡ false)
    → (h : List Event) → list_all (λ (e : Event). is_calm_event e) h ≡ true → list_any (λ e. f e) h ≡ true → A
none_calm f to [] c e = wrong' e
none_calm f to (x ∷ h) c e = go (f x) refl e (none_calm f to h)
  where
    two : (is_calm_event x ≡ true) × (list_all (λ (e : Event). is_calm_event e) h ≡ true)
    two = and_parts (is_calm_event x) (list_all (λ (e : Event). is_calm_event e) h) c

    go : {A : Type 0} (q : Bool) → f x ≡ q → (q || list_any (λ e. f e) h) ≡ true
        → (list_all (λ (e : Event). is_calm_event e) h ≡ true → list_any (λ e. f e) h ≡ true → A) → A
    go true z w rest = wrong (sym two.0 ∙ to x z)
    go false z w rest = rest two.1 w

pub reset_uncalm : (e : Event) → is_bus_reset e ≡ true → is_calm_event e ≡ false
reset_uncalm (Event.Reset dev) z = refl
reset_uncalm _ z = wrong' z

pub abort_uncalm : (c : CmdDef) (e : Event) → is_command_abort c e ≡ true → is_calm_event e ≡ false
abort_uncalm c (Event.Aborted i t n what) z = refl
abort_uncalm c _ z = wrong' z

pub loss_is_event : (id : ProcId) (e : Event) → is_loss_of id e ≡ true → same_event e (Event.Lost id) ≡ true
loss_is_event id (Event.Lost p) z = z
loss_is_event id _ z = wrong' z

-- It was refused, or it failed with some code.
data HowGivenUp (h : List Event) (id : ProcId) : Type 0 where
  refused : has_event h (Event.Refuse id) ≡ true → HowGivenUp h id
  failed : (code : ℕ) → has_event h (Event.Fail id code) ≡ true → HowGivenUp h id

up_now : (h : List Event) (id : ProcId) (x : Event) → is_given_up_by id x ≡ true → HowGivenUp (x ∷ h) id
up_now h id (Event.Refuse p) z = refused (or_left (same_id p id) (has_event h (Event.Refuse id)) z)
up_now h id (Event.Fail p code) z = failed code (or_left (same_id p id && code == code)
    (has_event h (Event.Fail id code)) (and_from (same_id p id) (code == code) z (eq_self code)))
up_now h id _ z = wrong' z

up_before : (h : List Event) (id : ProcId) (x : Event) → HowGivenUp h id → HowGivenUp (x ∷ h) id
up_before h id x (refused z) = refused (or_right (same_event x (Event.Refuse id)) (has_event h (Event.Refuse id)) z)
up_before h id x (failed code z) =
    failed code (or_right (same_event x (Event.Fail id code)) (has_event h (Event.Fail id code)) z)

how_given_up : (h : List Event) (id : ProcId) → list_any (λ (e : Event). is_given_up_by id e) h ≡ true → HowGivenUp h id
how_given_up [] id e = wrong' e
how_given_up (x ∷ h) id e =
    elim (cases_Bool (is_given_up_by id x)) [
      | inl f ↦ up_now h id x f
      | inr f ↦ up_before h id x ((how_given_up h id) (rw f at e))
    ]

-- ---- limits

abbrev pub IsLimited : Type 0
IsLimited = (s : ScenarioValue) (rows : List Row) (c : Process) (code : ℕ) → Obeys s → IsPrompt s rows
    → process_of s c.id ≡ Some c → has_event (run_state s rows).story.history (Event.Fail c.id code) ≡ true
    → has_more_faults s rows c ≡ true

abbrev pub IsLostAbove : Type 0
IsLostAbove =
    (s : ScenarioValue) (rows : List Row) (c : Process) → Obeys s → IsPrompt s rows → process_of s c.id ≡ Some c
    → has_event (run_state s rows).story.history (Event.Lost c.id) ≡ true → has_more_faults s rows c ≡ true

abbrev pub AreOutcomes : Type 0
AreOutcomes = (s : ScenarioValue) (rows : List Row) → Obeys s → IsPrompt s rows → IsEnded s rows
    → list_all (λ (o : Option Outcome). is_some o) (outcomes s (story s rows)) ≡ true

-- Why commands end (endings_have_causes of the initiator).
pub record HaveCauses : Type 0 where
  pub status : (s : ScenarioValue) (rows : List Row) (m status : ℕ)
      → ending_of (run_state s rows).story.ended m ≡ Some (by_status status)
      → has_status (run_state s rows).story.history (command_id m) status ≡ true
  pub loss : (s : ScenarioValue) (rows : List Row) (m : ℕ) → ending_of (run_state s rows).story.ended m ≡ Some by_loss
      → has_loss (run_state s rows).story.history (command_id m) ≡ true
  pub reset : (s : ScenarioValue) (rows : List Row) (m : ℕ) → ending_of (run_state s rows).story.ended m ≡ Some by_reset
      → has_bus_reset (run_state s rows).story.history ≡ true
  pub abort : (s : ScenarioValue) (rows : List Row) (m : ℕ) (c : CmdDef)
      → command_at s.commands m ≡ Some c → ending_of (run_state s rows).story.ended m ≡ Some by_abort
      → has_command_abort (run_state s rows).story.history c ≡ true
  pub tried : AreTried

pub not_above : {A : Type 0} (f g l m r t : ℕ) → nat_le (f + g) m ≡ true → m ≤ l → m ≤ r → nat_lt t f ≡ true → t ≡ r → A
not_above f g l m r t e a b c d = absurd grind (arith, nat_tests)

pub not_unheard : {A : Type 0} (f g l m r : ℕ) → nat_le (f + g) m ≡ true → m ≤ l → m ≤ r → nat_lt l g ≡ true → A
not_unheard f g l m r e a b c = absurd grind (arith, nat_tests)

-- ---- an outcome

some_from : (s : ScenarioValue) (b : Story) (i : ℕ) (commands : List CmdDef) (m : ℕ) (c : CmdDef)
    → list_all (λ (o : Option Outcome). is_some o) (outcomes_from s b i commands) ≡ true
    → command_at commands (suc m) ≡ Some c → is_some (outcome_of s b (i + m)) ≡ true
some_from s b i [] m c e at = none_some c at
some_from s b i (x ∷ commands) zero c e at =
    subst (λ (y : ℕ). is_some (outcome_of s b y) ≡ true) (sym (plus_none i)) (and_parts (is_some (outcome_of s b i))
    (list_all (λ (o : Option Outcome). is_some o) (outcomes_from s b (i + 1) commands)) e).0
some_from s b i (x ∷ commands) (suc m) c e at = subst (λ (y : ℕ). is_some (outcome_of s b y) ≡ true)
    (sym (plus_one i m)) (some_from s b (i + 1) commands m c (and_parts (is_some (outcome_of s b i))
    (list_all (λ (o : Option Outcome). is_some o) (outcomes_from s b (i + 1) commands)) e).1 at)

one_more : (m : ℕ) → 1 + m ≡ suc m
one_more m = omega arith

no_command : (commands : List CmdDef) (c : CmdDef) → command_at commands 0 ≡ Some c → ⊥
no_command [] c e = none_some c e
no_command (x ∷ commands) c e = none_some c e

pub some_outcome : (s : ScenarioValue) (b : Story) (i : ℕ) (c : CmdDef)
    → list_all (λ (o : Option Outcome). is_some o) (outcomes s b) ≡ true → command_at s.commands i ≡ Some c
    → is_some (outcome_of s b i) ≡ true
some_outcome s b zero c e at = absurd (no_command s.commands c at)
some_outcome s b (suc m) c e at =
    subst (λ (y : ℕ). is_some (outcome_of s b y) ≡ true) (one_more m) (some_from s b 1 s.commands m c e at)

-- ---- what is known of histories without resets and aborts, and of commands that end unanswered

abbrev pub RunsGood : Type 0
RunsGood = (s : ScenarioValue) (h : List Event) (a : Array) (m : ℕ) (c : CmdDef) (reply : Reply)
    → Obeys s → array_after s h ≡ Some a → list_all (λ (e : Event). is_calm_event e) h ≡ true
    → command_at s.commands m ≡ Some c → is_valid s c ≡ true → reply_in a.replies (command_id m) ≡ Some reply
    → (reply.status ≡ GOOD) ⊎ (list_any (λ (e : Event). is_given_up_by (command_id m) e) h ≡ true)

abbrev pub IsCalm : Type 0
IsCalm = (s : ScenarioValue) (rows : List Row) → Obeys s → s.resets ≡ [] → s.aborts ≡ [] → IsPrompt s rows
    → list_all (λ (e : Event). is_calm_event e) (run_state s rows).story.history ≡ true

abbrev pub AreStruckOut : Type 0
AreStruckOut = (s : ScenarioValue) (rows : List Row) (m : ℕ) (c : CmdDef) → Obeys s
    → IsPrompt s rows → command_at s.commands m ≡ Some c → has_target s c.target ≡ true
    → ending_of (run_state s rows).story.ended m ≡ Some unanswered
    → nat_lt (retries_of s.hosts c.host) (calling_faults s rows (command_item m)) ≡ true

pub record CalmLaws : Type 0 where
  pub good : RunsGood
  pub calm : IsCalm
  pub struck : AreStruckOut

-- ---- a valid command

record Bears (s : ScenarioValue) (p : List Row) (m : ℕ) (c : CmdDef) : Type 0 where
  obeys : Obeys s
  resets : s.resets ≡ []
  aborts : s.aborts ≡ []
  prompt : IsPrompt s p
  at : command_at s.commands m ≡ Some c
  valid : is_valid s c ≡ true
  there : has_target s c.target ≡ true
  bears : nat_le (command_faults s p m) (fault_limit s c) ≡ true
  unrefused : has_event (run_state s p).story.history (Event.Refuse (command_id m)) ≡ false

-- No more are borne than its initiator tries again, nor than its target recovers from.
pub record Borne (s : ScenarioValue) (c : CmdDef) : Type 0 where
  pub own : fault_limit s c ≤ retries_of s.hosts c.host
  pub other : fault_limit s c ≤ recovery_limit (target_def_of s c.target)

pub borne : (s : ScenarioValue) (c : CmdDef) → has_target s c.target ≡ true → Borne s c
borne s c there = go (target_def_of s c.target) refl (any_found (λ (t : TargetDef). t.dev == c.target) s.targets there)
  where
    go : (o : Option TargetDef) → target_def_of s c.target ≡ o → is_some o ≡ true → Borne s c
    go None e z = wrong' z
    go (Some t) e z = record {
      own = subst (λ (o : Option TargetDef). limit_with (retries_of s.hosts c.host) o ≤ retries_of s.hosts c.host)
          (sym e) (min-le_left (retries_of s.hosts c.host) t.retries);
      other = subst (λ (o : Option TargetDef). limit_with (retries_of s.hosts c.host) o ≤ recovery_limit o) (sym e)
          (min-le_right (retries_of s.hosts c.host) t.retries);
    }

-- Of its faults in connections there are no more than its target bears.
not_more : {A : Type 0} (s : ScenarioValue) (p : List Row) (m : ℕ) (c : CmdDef) → Bears s p m c
    → nat_lt (recovery_limit (target_def_of s c.target)) (fault_rows s p (command_id m)) ≡ true → A
not_more s p m c h e =
    let b : Borne s c = borne s c h.there in
    not_above (fault_rows s p (command_id m)) (calling_faults s p (command_item m))
    (retries_of s.hosts c.host) (fault_limit s c) (recovery_limit (target_def_of s c.target))
    (recovery_limit (target_def_of s c.target)) h.bears b.own b.other e refl

good_status : (s : ScenarioValue) (p : List Row) (m : ℕ) (c : CmdDef) (status : ℕ) → CalmLaws → IsLimited
    → Bears s p m c → has_status (run_state s p).story.history (command_id m) status ≡ true → status ≡ GOOD
good_status s p m c status laws limited h e =
    by (laws.good s k.story.history (array_of s k) m c r.reply h.obeys plays calm h.at h.valid r.reply_is)
  where
    k : RunState
    k = run_state s p

    w : Whole s p
    w = whole s p h.obeys h.prompt

    calm : list_all (λ (x : Event). is_calm_event x) k.story.history ≡ true
    calm = laws.calm s p h.obeys h.resets h.aborts h.prompt

    plays : array_after s k.story.history ≡ Some (array_of s k)
    plays = (λ i. array_after s ((prompt_plain s p h.prompt).story i).history) ∙ sym (prompt_plain s p h.prompt).array
        ∙ w.places.array_is ∙ ap (λ (a : Array). Some a) (sym (ap (or_start s) w.places.array_is))

    r : HasReply s k (command_id m) status
    r = end_reply s k (command_id m) status (w.statuses.areas.areas (command_id m)) (end_found s k k.story.history
        (command_id m) status (all_ended s p h.obeys h.prompt (all_joined s p h.obeys h.prompt)) e)

    given_up : HowGivenUp k.story.history (command_id m) → status ≡ GOOD
    given_up (refused z) = wrong (sym z ∙ h.unrefused)
    given_up (failed code z) = not_more s p m c h
        (limited s p (process_by s (command_id m) c) code h.obeys h.prompt (ap (process_if s (command_id m)) h.at) z)

    by : (r.reply.status ≡ GOOD) ⊎ (list_any (λ (x : Event). is_given_up_by (command_id m) x) k.story.history ≡ true)
        → status ≡ GOOD
    by (inl z) = r.status_is ∙ z
    by (inr z) = given_up (how_given_up k.story.history (command_id m) z)

good_ending : (s : ScenarioValue) (p : List Row) (m : ℕ) (c : CmdDef) → CalmLaws → HaveCauses → IsLimited
    → IsLostAbove → Bears s p m c → (o : Option Ending) → ending_of (run_state s p).story.ended m ≡ o
    → is_some (outcome_if s (run_state s p).story.history m o) ≡ true
    → is_good (outcome_if s (run_state s p).story.history m o) ≡ true
good_ending s p m c laws causes limited lost h None e some = wrong' some
good_ending s p m c laws causes limited lost h (Some (by_status status)) e some = subst
    (λ (x : ℕ). is_good (Some (outcome_by_status s (run_state s p).story.history m x)) ≡ true)
    (sym (good_status s p m c status laws limited h (causes.status s p m status e))) refl
good_ending s p m c laws causes limited lost h (Some by_loss) e some = not_more s p m c h
    (lost s p (process_by s (command_id m) c) h.obeys h.prompt (ap (process_if s (command_id m)) h.at)
    (any_to (is_loss_of (command_id m)) (λ x. same_event x (Event.Lost (command_id m))) (loss_is_event (command_id m))
    (run_state s p).story.history (causes.loss s p m e)))
good_ending s p m c laws causes limited lost h (Some by_reset) e some = none_calm is_bus_reset reset_uncalm
    (run_state s p).story.history (laws.calm s p h.obeys h.resets h.aborts h.prompt) (causes.reset s p m e)
good_ending s p m c laws causes limited lost h (Some by_abort) e some = none_calm (is_command_abort c) (abort_uncalm c)
    (run_state s p).story.history (laws.calm s p h.obeys h.resets h.aborts h.prompt) (causes.abort s p m c h.at e)
good_ending s p m c laws causes limited lost h (Some unanswered) e some =
    let b : Borne s c = borne s c h.there in
    not_unheard (fault_rows s p (command_id m)) (calling_faults s p (command_item m)) (retries_of s.hosts c.host)
    (fault_limit s c) (recovery_limit (target_def_of s c.target)) h.bears b.own b.other
    (laws.struck s p m c h.obeys h.prompt h.at h.there e)

pub delivered : (s : ScenarioValue) (p : List Row) (m : ℕ) (c : CmdDef) → CalmLaws → HaveCauses → IsLimited
    → IsLostAbove → AreOutcomes → Obeys s → s.resets ≡ [] → s.aborts ≡ [] → IsPrompt s p → IsEnded s p
    → command_at s.commands m ≡ Some c → is_valid s c ≡ true → nat_le (command_faults s p m) (fault_limit s c) ≡ true
    → has_event (run_state s p).story.history (Event.Refuse (command_id m)) ≡ false
    → is_good (outcome_of s (story s p) m) ≡ true
delivered s p m c laws causes limited lost all o resets aborts prompt end at valid bears unrefused = subst
    (λ (b : Story). is_good (outcome_of s b m) ≡ true) pl.story
    (good_ending s p m c laws causes limited lost h (ending_of (run_state s p).story.ended m) refl some)
  where
    pl : IsPlain s p (run_state s p)
    pl = prompt_plain s p prompt

    h : Bears s p m c
    h = record {
      obeys = o;
      resets = resets;
      aborts = aborts;
      prompt = prompt;
      at = at;
      valid = valid;
      there = and_first (has_target s c.target) (if is_tape s c.target c.unit
          then is_plain_at_tape (tape_command_of c.cdb) else is_sound_command s c (command_of c.cdb)) valid;
      bears = bears;
      unrefused = unrefused;
    }

    some : is_some (outcome_of s (run_state s p).story m) ≡ true
    some = subst (λ (b : Story). is_some (outcome_of s b m) ≡ true) (sym pl.story)
        (some_outcome s (story s p) m c (all s p o prompt end) at)
