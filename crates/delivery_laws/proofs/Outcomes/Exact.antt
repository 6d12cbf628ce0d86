-- How each command of a prompt trace ended, exactly (6.1.3.1, 7.3, 7.6, 7.8, 8.2.14).
use Rattle.delivery_laws.proofs
use proofs.Names.{ℕ, ◌≡◌, Bool, true, false, ◌&&◌, ◌||◌, ◌∙◌, List, Option, Some, None, refl, sym, ap, eqb-true}
use proofs.Names.{if◌then◌else◌, ◌==◌, is_some, nat_lt, wrong, wrong', Event, Row, Sense, GOOD, QUEUE_FULL}
use proofs.Names.{ScenarioValue, Obeys, CmdDef, array_after, reply_of, command_at, Array, command_id, command_item}
use proofs.Names.{count_item, sense_id, Outcome, ended_aborted, ended_check, ended_full, ended_good, ended_lost}
use proofs.Names.{ended_reset, ended_unanswered, ending_of, has_end, outcome_by_status, outcome_if, outcome_of}
use proofs.Names.{reply_bytes, sense_in, sense_of_end, Ending, Story, by_abort, by_loss, by_reset, by_status}
use proofs.Names.{unanswered, retries_of, story, trace_history, prompt_plain, IsEnded, IsPrompt, RunState, run_state}
use proofs.Names.{was_refused, whole, WantsAreItems, IsOwnSense, HasReplyOf, ending_outcome_if, first_ending}
use proofs.Names.{first_outcome, is_by_status, is_full, is_tried_out, is_unanswered, own_sense_of, sense_if}
use proofs.{Names.{status_outcome, was_sense_stopped}, Outcomes.{Delivered.{HaveCauses}, First.{all_told}}}
use proofs.{Replies.Ends.{HasReply}, Senses.{Facts.{own_plays, own_sense}, Stopped.{IsFetched, fetched, is_replied}}}
use proofs.Senses.Stops.{IsStopTold, all_stops_told}

-- ---- the sense

-- Of the automatic REQUEST SENSE that has ended, or was stopped.
sense_told : (s : ScenarioValue) (p : List Row) (m status : ℕ) (c : CmdDef) → WantsAreItems
    → HaveCauses → Obeys s → IsPrompt s p → IsEnded s p → command_at s.commands m ≡ Some c
    → ending_of (run_state s p).story.ended m ≡ Some (by_status status)
    → (status == GOOD) ≡ false → (status == QUEUE_FULL) ≡ false
    → sense_of_end s (run_state s p).story.history (sense_id m) ≡ own_sense_of s (run_state s p).story.history m c
sense_told s p m status c wants causes o prompt end at e bad unfull = by_stop (was_sense_stopped h m c) refl
  where
    k : RunState
    k = run_state s p

    h : List Event
    h = k.story.history

    f : IsFetched s p m status
    f = fetched s p m status c wants causes o prompt end at e bad unfull

    t : IsStopTold k.story.sent h m c
    t = all_stops_told s p m c o prompt at

    own : Option Sense
    own = sense_if (reply_of (array_after s h) (command_id m))

    -- the outcome is CHECK CONDITION with what came
    told : outcome_of s (story s p) m ≡ Some (ended_check (sense_of_end s h (sense_id m)))
    told = ap (λ (b : Story). outcome_of s b m) (sym (prompt_plain s p prompt).story) ∙ ap (outcome_if s h m) e
        ∙ (λ i. Some (if bad i then ended_good (reply_bytes s h (command_id m))
        else if unfull i then ended_full else ended_check (sense_of_end s h (sense_id m))))

    brought : (x : Option Sense) → sense_of_end s h (sense_id m) ≡ x → is_some x ≡ true
        → sense_of_end s h (sense_id m) ≡ own
    brought None z some = wrong' some
    brought (Some x) z some =
        let w : IsOwnSense s h m x = own_sense s p m x o prompt (told ∙ (λ i. Some (ended_check (z i)))) in
        z ∙ ap (λ (y : Sense). Some y) (sym w.sense_is) ∙ sym (ap sense_if w.reply_is)

    first_off : (a b : Bool) → b ≡ false → true ≡ (a || b) → a ≡ true
    first_off true b z y = refl
    first_off false b z y = wrong (y ∙ z)

    by_stop : (q : Bool) → was_sense_stopped h m c ≡ q → sense_of_end s h (sense_id m) ≡ own_sense_of s h m c
    by_stop true z =
        ap (λ (x : Bool). if x then sense_in (reply_bytes s h (sense_id m)) else None) (t.apart z)
        ∙ ap (λ (x : Bool). if x then None else own) (sym z)
    by_stop false z =
        let ended : has_end h (sense_id m) ≡ true = first_off
        (has_end h (sense_id m)) (was_sense_stopped h m c) z (sym f.over ∙ t.over) in
        brought (sense_of_end s h (sense_id m)) refl (f.brought ended)
        ∙ ap (λ (x : Bool). if x then None else own) (sym z)

-- ---- the outcome

status_told : (s : ScenarioValue) (p : List Row) (m status : ℕ) (c : CmdDef) → WantsAreItems
    → HaveCauses → Obeys s → IsPrompt s p → IsEnded s p → command_at s.commands m ≡ Some c
    → ending_of (run_state s p).story.ended m ≡ Some (by_status status)
    → outcome_by_status s (run_state s p).story.history m status
    ≡ status_outcome s (run_state s p).story.history m c status
status_told s p m status c wants causes o prompt end at e = go (status == GOOD) refl (status == QUEUE_FULL) refl
  where
    h : List Event
    h = (run_state s p).story.history

    go : (q : Bool) → (status == GOOD) ≡ q → (r : Bool) → (status == QUEUE_FULL) ≡ r
        → (if q then ended_good (reply_bytes s h (command_id m))
        else if r then ended_full else ended_check (sense_of_end s h (sense_id m)))
        ≡ (if q then ended_good (reply_bytes s h (command_id m))
        else if r then ended_full else ended_check (own_sense_of s h m c))
    go true f r g = refl
    go false f true g = refl
    go false f false g = ap ended_check (sense_told s p m status c wants causes o prompt end at e f g)

ending_told : (s : ScenarioValue) (p : List Row) (m : ℕ) (c : CmdDef) → WantsAreItems
    → HaveCauses → Obeys s → IsPrompt s p → IsEnded s p → command_at s.commands m ≡ Some c
    → (x : Option Ending) → ending_of (run_state s p).story.ended m ≡ x
    → outcome_if s (run_state s p).story.history m x ≡ ending_outcome_if s (run_state s p).story.history m c x
ending_told s p m c wants causes o prompt end at (Some (by_status status)) e =
    ap (λ (x : Outcome). Some x) (status_told s p m status c wants causes o prompt end at e)
ending_told s p m c wants causes o prompt end at _ e = refl

pub outcome_told : (s : ScenarioValue) (p : List Row) (m : ℕ) (c : CmdDef) → WantsAreItems → HaveCauses → Obeys s
    → IsPrompt s p → IsEnded s p → command_at s.commands m ≡ Some c → outcome_of s (story s p) m ≡ first_outcome s p m c
outcome_told s p m c wants causes o prompt end at =
    let same = (prompt_plain s p prompt).story in
    ap (λ (b : Story). outcome_of s b m) (sym same)
    ∙ ending_told s p m c wants causes o prompt end at (ending_of (run_state s p).story.ended m) refl
    ∙ (λ i. ending_outcome_if s (same i).history m c (ending_of (same i).ended m))
    ∙ ap (ending_outcome_if s (trace_history s p) m c) (all_told s p m c o prompt at).ending

-- ---- without an answer

-- A status gives neither.
by_other : (s : ScenarioValue) (h : List Event) (m status : ℕ)
    → is_unanswered (Some (outcome_by_status s h m status)) ≡ false
by_other s h m status = go (status == GOOD) (status == QUEUE_FULL)
  where
    go : (q r : Bool) → is_unanswered (Some (if q then ended_good (reply_bytes s h (command_id m))
        else if r then ended_full else ended_check (sense_of_end s h (sense_id m)))) ≡ false
    go true r = refl
    go false true = refl
    go false false = refl

abbrev is_unheard_ending : Option Ending → Bool
is_unheard_ending (Some unanswered) = true
is_unheard_ending _ = false

unanswered_by : (s : ScenarioValue) (h : List Event) (m : ℕ) (o : Option Ending)
    → is_unanswered (outcome_if s h m o) ≡ is_unheard_ending o
unanswered_by s h m (Some (by_status status)) = by_other s h m status
unanswered_by s h m _ = refl

unheard_is : (o : Option Ending) → is_unheard_ending o ≡ true → o ≡ Some unanswered
unheard_is (Some unanswered) e = refl
unheard_is _ e = wrong' e

same_test : (a b : Bool) → (a ≡ true → b ≡ true) → (b ≡ true → a ≡ true) → a ≡ b
same_test true b f g = sym (f refl)
same_test false true f g = g refl
same_test false false f g = refl

-- A first row ends it so only where its initiator has called too often.
first_tried : (s : ScenarioValue) (p : List Row) (i : ℕ) (c : CmdDef) → HaveCauses → Obeys s → IsPrompt s p
    → command_at s.commands i ≡ Some c → ending_of (story s p).ended i ≡ Some unanswered → is_tried_out s p i c ≡ true
first_tried s p i c causes o prompt at e =
    let same = (prompt_plain s p prompt).story in
    ap (λ (m : ℕ). nat_lt (retries_of s.hosts c.host) m)
    (sym (all_told s p i c o prompt at).tries ∙ ap (λ (b : Story). count_item b.sent.tries (command_item i)) (sym same))
    ∙ causes.tried s p i c (whole s p o prompt).stood.standing.devices at
    (ap (λ (b : Story). ending_of b.ended i) same ∙ e)

pub unanswered_told : (s : ScenarioValue) (p : List Row) (m : ℕ) (c : CmdDef) → HaveCauses → Obeys s → IsPrompt s p
    → command_at s.commands m ≡ Some c → is_unanswered (outcome_of s (story s p) m) ≡ is_tried_out s p m c
unanswered_told s p m c causes o prompt at = unanswered_by s (trace_history s p) m (ending_of (story s p).ended m)
    ∙ same_test (is_unheard_ending (ending_of (story s p).ended m)) (is_tried_out s p m c)
    (λ z. first_tried s p m c causes o prompt at (unheard_is (ending_of (story s p).ended m) z))
    (λ z. ap is_unheard_ending ((all_told s p m c o prompt at).tried z))

-- ---- at a full queue

by_full : (s : ScenarioValue) (h : List Event) (m status : ℕ)
    → is_full (Some (outcome_by_status s h m status)) ≡ (status == QUEUE_FULL)
by_full s h m status = go (status == GOOD) refl (status == QUEUE_FULL) refl
  where
    go : (q : Bool) → (status == GOOD) ≡ q → (r : Bool) → (status == QUEUE_FULL) ≡ r
        → is_full (Some (if q then ended_good (reply_bytes s h (command_id m))
        else if r then ended_full else ended_check (sense_of_end s h (sense_id m)))) ≡ r
    go true f true g = wrong (sym (ap (λ (x : ℕ). x == GOOD) (sym (eqb-true status QUEUE_FULL g)) ∙ f))
    go true f false g = refl
    go false f true g = refl
    go false f false g = refl

full_by : (s : ScenarioValue) (h : List Event) (m : ℕ) (o : Option Ending)
    → is_full (outcome_if s h m o) ≡ is_by_status QUEUE_FULL o
full_by s h m (Some (by_status status)) = by_full s h m status
full_by s h m _ = refl

full_is : (o : Option Outcome) → is_full o ≡ true → o ≡ Some ended_full
full_is (Some ended_full) e = refl
full_is _ e = wrong' e

pub full_told : (s : ScenarioValue) (p : List Row) (m : ℕ) (c : CmdDef)
    → (outcome_of s (story s p) m ≡ Some ended_full → was_refused s (trace_history s p) (command_id m) ≡ true) → Obeys s
    → IsPrompt s p → command_at s.commands m ≡ Some c → is_full (outcome_of s (story s p) m)
    ≡ (was_refused s (trace_history s p) (command_id m) && is_by_status QUEUE_FULL (first_ending s p m c))
full_told s p m c refused o prompt at = test ∙ joined (is_by_status QUEUE_FULL (first_ending s p m c))
    (was_refused s (trace_history s p) (command_id m)) (λ z. refused (full_is (outcome_of s (story s p) m) (test ∙ z)))
  where
    test : is_full (outcome_of s (story s p) m) ≡ is_by_status QUEUE_FULL (first_ending s p m c)
    test = full_by s (trace_history s p) m (ending_of (story s p).ended m)
        ∙ ap (is_by_status QUEUE_FULL) (all_told s p m c o prompt at).ending

    joined : (a b : Bool) → (a ≡ true → b ≡ true) → a ≡ (b && a)
    joined true true f = refl
    joined true false f = sym (f refl)
    joined false true f = refl
    joined false false f = refl

-- ---- the status

pub reply_told : (s : ScenarioValue) (p : List Row) (m status : ℕ) (c : CmdDef) → HaveCauses → Obeys s
    → IsPrompt s p → command_at s.commands m ≡ Some c → first_ending s p m c ≡ Some (by_status status)
    → HasReplyOf s (trace_history s p) (command_id m) status
reply_told s p m status c causes o prompt at e =
    let same = (prompt_plain s p prompt).story in
    let r : HasReply s (run_state s p) (command_id m) status = is_replied s p m status causes o prompt
    (ap (λ (b : Story). ending_of b.ended m) same ∙ (all_told s p m c o prompt at).ending ∙ e) in
    record {
      reply = r.reply;
      reply_is = ap (λ (b : Story). reply_of (array_after s b.history) (command_id m)) (sym same)
          ∙ ap (λ (x : Option Array). reply_of x (command_id m)) (own_plays s p o prompt) ∙ r.reply_is;
      status_is = sym r.status_is;
    }
