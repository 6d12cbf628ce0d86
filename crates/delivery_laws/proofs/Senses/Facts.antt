-- The sense with which a command of a prompt trace ends is that of its own reply (7.8, 8.2.14).
use Rattle.delivery_laws.proofs
use proofs.Names.{ℕ, ◌≡◌, Bool, true, false, not, ◌||◌, ◌∙◌, List, Option, Some, None, refl, sym, ap, same_Some}
use proofs.Names.{if◌then◌else◌, ◌==◌, and_second, wrong, Event, ProcId, Row, Sense, ABORTED_COMMAND, CHECK_CONDITION}
use proofs.Names.{GOOD, QUEUE_FULL, ScenarioValue, Obeys, array_after, reply_in, reply_of, Reply, Array, command_id}
use proofs.Names.{sense_id, Outcome, ended_check, ended_full, ended_good, ending_of, has_end, outcome_if, outcome_of}
use proofs.Names.{reply_bytes, reply_bytes_if, sense_in, sense_of_end, Ending, Story, by_abort, by_loss, by_reset}
use proofs.Names.{by_status, unanswered, story, prompt_plain, IsPrompt, IsPlain, RunState, array_of, or_start}
use proofs.Names.{run_state, has_cause, has_event, was_refused, none_some, whole, IsGiven, IsOwnSense, RanSo, failed}
use proofs.{Names.{ran}, Replies.Given.{all_given}, Senses.{Events.{Brought}, Rows.{all_own}}}
use Rattle.delivery_laws.specs.Delivery.{refused}

abbrev sense_told : Option Outcome → Option Sense
sense_told (Some (ended_check o)) = o
sense_told _ = None

sense_ended : (s : ScenarioValue) (h : List Event) (m : ℕ) (sense : Sense) (o : Option Ending)
    → sense_told (outcome_if s h m o) ≡ Some sense → sense_of_end s h (sense_id m) ≡ Some sense
sense_ended s h m sense (Some (by_status status)) e =
    go (status == GOOD) (status == QUEUE_FULL) (reply_bytes s h (command_id m)) e
  where
    go : (q r : Bool) (bytes : List ℕ) → sense_told
        (Some (if q then ended_good bytes else if r then ended_full else ended_check (sense_of_end s h (sense_id m))))
        ≡ Some sense → sense_of_end s h (sense_id m) ≡ Some sense
    go true r bytes z = none_some sense z
    go false true bytes z = none_some sense z
    go false false bytes z = z
sense_ended s h m sense _ e = none_some sense e

pub own_plays : (s : ScenarioValue) (p : List Row) → Obeys s → IsPrompt s p
    → array_after s (run_state s p).story.history ≡ Some (array_of s (run_state s p))
own_plays s p o prompt =
    let pl : IsPlain s p (run_state s p) = prompt_plain s p prompt in
    let w = whole s p o prompt in
    (λ i. array_after s (pl.story i).history) ∙ sym pl.array ∙ w.places.array_is
    ∙ ap (λ (a : Array). Some a) (sym (ap (or_start s) w.places.array_is))

pub own_sense : (s : ScenarioValue) (p : List Row) (m : ℕ) (sense : Sense) → Obeys s → IsPrompt s p
    → outcome_of s (story s p) m ≡ Some (ended_check (Some sense)) → IsOwnSense s (run_state s p).story.history m sense
own_sense s p m sense o prompt e = by_end (has_end k.story.history (sense_id m)) ended
  where
    k : RunState
    k = run_state s p

    plays : array_after s k.story.history ≡ Some (array_of s k)
    plays = own_plays s p o prompt

    ended : sense_of_end s k.story.history (sense_id m) ≡ Some sense
    ended = sense_ended s k.story.history m sense (ending_of k.story.ended m)
        (ap sense_told (ap (λ (b : Story). outcome_of s b m) (prompt_plain s p prompt).story ∙ e))

    by_reply : (r : Option Reply) → reply_in (array_of s k).replies (sense_id m) ≡ r
        → sense_in (reply_bytes_if r) ≡ Some sense → IsOwnSense s k.story.history m sense
    by_reply None f z = none_some sense z
    by_reply (Some r) f z =
        let w : Brought (array_of s k).replies m r.bytes = (all_own s p o prompt).brought m r f in
        record {
          reply = w.reply;
          reply_is = ap (λ (x : Option Array). reply_of x (command_id m)) plays ∙ w.reply_is;
          check = w.check;
          sense_is = same_Some w.reply.sense sense (sym w.sense_is ∙ z);
        }

    by_end : (q : Bool) → (if q then sense_in (reply_bytes s k.story.history (sense_id m)) else None) ≡ Some sense
        → IsOwnSense s k.story.history m sense
    by_end true z = by_reply (reply_in (array_of s k).replies (sense_id m)) refl
        (ap (λ (x : Option Array). sense_in (reply_bytes_if (reply_of x (sense_id m)))) (sym plays) ∙ z)
    by_end false z = none_some sense z

-- ---- why

own_failure : (s : ScenarioValue) (h : List Event) (m : ℕ) (sense : Sense) → IsOwnSense s h m sense
    → ((reply : Reply) → reply_of (array_after s h) (command_id m) ≡ Some reply → IsGiven s h (command_id m) reply)
    → (sense.key == ABORTED_COMMAND) ≡ false → RanSo s h m sense
own_failure s h m sense w given other = by (given w.reply w.reply_is)
  where
    by : IsGiven s h (command_id m) w.reply → RanSo s h m sense
    by (ran x) = record { reply = w.reply; has_run = x; check = w.check; sense_is = w.sense_is }
    by (failed code f g) = wrong (ap (λ (x : Reply). x.sense.key == ABORTED_COMMAND) (sym g)
        ∙ ap (λ (x : Sense). x.key == ABORTED_COMMAND) w.sense_is ∙ other)
    by (refused f g) =
        wrong (ap (λ (x : ℕ). x == CHECK_CONDITION) (sym w.check) ∙ ap (λ (x : Reply). x.status == CHECK_CONDITION) g)

pub ran_so : (s : ScenarioValue) (p : List Row) (m : ℕ) (sense : Sense) → Obeys s → IsPrompt s p
    → outcome_of s (story s p) m ≡ Some (ended_check (Some sense)) → (sense.key == ABORTED_COMMAND) ≡ false
    → RanSo s (run_state s p).story.history m sense
ran_so s p m sense o prompt e other =
    let k : RunState = run_state s p in
    own_failure s k.story.history m sense (own_sense s p m sense o prompt e)
    (λ reply z. all_given s k.story.history (array_of s k) o (own_plays s p o prompt) (command_id m) reply
    (ap (λ (x : Option Array). reply_of x (command_id m)) (sym (own_plays s p o prompt)) ∙ z)) other

-- One with the key ABORTED COMMAND failed.
abbrev pub HasCause : Type 0
HasCause = (s : ScenarioValue) (history : List Event) (a : Array) (id : ProcId) (reply : Reply)
    → array_after s history ≡ Some a → reply_in a.replies id ≡ Some reply → has_cause s history id reply ≡ true

pub own_failed : (s : ScenarioValue) (p : List Row) (m : ℕ) (sense : Sense) → HasCause → Obeys s → IsPrompt s p
    → outcome_of s (story s p) m ≡ Some (ended_check (Some sense)) → (sense.key == ABORTED_COMMAND) ≡ true
    → has_event (run_state s p).story.history (Event.Fail (command_id m) sense.asc) ≡ true
own_failed s p m sense causes o prompt e key =
    ap (λ (x : Sense). has_event k.story.history (Event.Fail (command_id m) x.asc)) (sym w.sense_is) ∙ failed_if
    (w.reply.sense.key == ABORTED_COMMAND) (has_event k.story.history (Event.Fail (command_id m) w.reply.sense.asc))
    (ap (λ (x : Sense). x.key == ABORTED_COMMAND) w.sense_is ∙ key)
    (and_second (not (w.reply.status == QUEUE_FULL) || was_refused s k.story.history (command_id m))
    (not (w.reply.sense.key == ABORTED_COMMAND)
    || has_event k.story.history (Event.Fail (command_id m) w.reply.sense.asc))
    (causes s k.story.history (array_of s k) (command_id m) w.reply (own_plays s p o prompt)
    (ap (λ (x : Option Array). reply_of x (command_id m)) (sym (own_plays s p o prompt)) ∙ w.reply_is)))
  where
    k : RunState
    k = run_state s p

    w : IsOwnSense s k.story.history m sense
    w = own_sense s p m sense o prompt e

    failed_if : (q r : Bool) → q ≡ true → (not q || r) ≡ true → r ≡ true
    failed_if true r z y = y
    failed_if false r z y = wrong (sym z)
