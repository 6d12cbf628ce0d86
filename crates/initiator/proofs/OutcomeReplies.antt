-- The outcome of a command is what the rows tell, where what came to its initiator is the reply.
use Rattle.std.proofs.Common.{ℕ, ◌≡◌, Bool, true, false, List, ◌∙◌, refl, Option, Some, None}
use Rattle.std.specs.Prelude.{if◌then◌else◌, not, ◌||◌, ◌==◌}
use Rattle.cdb_codec.specs.declared.status.TheConstants.{GOOD, QUEUE_FULL}
use Rattle.scenario.specs.Value.{ScenarioValue}
use Rattle.story_model.specs.Outcomes as told
use Rattle.story_model.specs.Outcomes.{ended_good, ended_check, ended_full, sense_in, has_end, reply_bytes, outcome_if}
use Rattle.story_model.specs.Outcomes.{ending_of}
use Rattle.story_model.specs.Story.{Story}
use Rattle.story_model.specs.Items.{sense_id, command_id}
use Rattle.story_model.proofs.SameBytes.{bytes_are}
use Rattle.initiator_books.specs.declared.endings.CommandEnd.{CommandEnd}
use Rattle.initiator_books.specs.declared.endings.Ending.{Ending}
use Rattle.initiator_books.specs.declared.endings.Ending.TheVariants as ends
use Rattle.run_record.specs.declared.outcome.Outcome.TheVariants as outcomes
use Rattle.initiator_books.specs.Endings.{told_ending_if, IsEndOf}
use Rattle.initiator.specs.Outcomes as own
use Rattle.initiator.specs.Outcomes.{is_settled, told_outcome_if, is_good, is_reply_of, are_replies, settled_outcome}
use Rattle.initiator.specs.Outcomes.{outcome_after}
use Rattle.bus_base.proofs.Tests.{and_first, and_second}

-- What is told of a command with this status.
abbrev IsTold : ScenarioValue → Story → ℕ → ℕ → Bool → List ℕ → List ℕ → Type 0
IsTold s b n status sensed bytes sense = told_outcome_if (Some (own.outcome_by_status status sensed bytes sense))
    ≡ Some (told.outcome_by_status s b.history n status)

status_told : (s : ScenarioValue) (b : Story) (n status : ℕ) (sensed : Bool) (bytes sense : List ℕ)
    → sensed ≡ has_end b.history (sense_id n)
    → ((status == GOOD) ≡ true → bytes ≡ reply_bytes s b.history (command_id n))
    → (sensed ≡ true → sense ≡ reply_bytes s b.history (sense_id n)) → IsTold s b n status sensed bytes sense
status_told s b n status sensed bytes sense h good known = go (status == GOOD) refl (status == QUEUE_FULL)
  where
    of_sense : (q : Bool) → sensed ≡ q
        → (if q then sense_in sense else None) ≡ (if q then sense_in (reply_bytes s b.history (sense_id n)) else None)
    of_sense true e = λ i. sense_in (known e i)
    of_sense false e = refl

    go : (p : Bool) → (status == GOOD) ≡ p → (q : Bool) → told_outcome_if (Some (if p then outcomes.Good bytes
        else if q then outcomes.QFull else outcomes.Check (if sensed then sense_in sense else None)))
        ≡ Some (if p then ended_good (reply_bytes s b.history (record { command = n; sense = false }))
        else if q then ended_full
        else ended_check (told.sense_of_end s b.history (record { command = n; sense = true })))
    go true e q = λ i. Some (ended_good (good e i))
    go false e true = refl
    go false e false =
        (λ i. Some (ended_check (of_sense sensed refl i)))
        ∙ (λ i. Some (ended_check (if h i then sense_in (reply_bytes s b.history (sense_id n)) else None)))

ending_told : (s : ScenarioValue) (b : Story) (n : ℕ) (e : Option Ending) (sensed : Bool) (bytes sense : List ℕ)
    → sensed ≡ has_end b.history (sense_id n) → (is_good e ≡ true → bytes ≡ reply_bytes s b.history (command_id n))
    → (sensed ≡ true → sense ≡ reply_bytes s b.history (sense_id n))
    → told_outcome_if (own.outcome_if e sensed bytes sense) ≡ outcome_if s b.history n (told_ending_if e)
ending_told s b n None sensed bytes sense h good known = refl
ending_told s b n (Some (ends.Status status)) sensed bytes sense h good known =
    status_told s b n status sensed bytes sense h good known
ending_told s b n (Some ends.Loss) sensed bytes sense h good known = refl
ending_told s b n (Some ends.Reset) sensed bytes sense h good known = refl
ending_told s b n (Some ends.Abort) sensed bytes sense h good known = refl
ending_told s b n (Some ends.Unanswered) sensed bytes sense h good known = refl

pub outcome_told : (s : ScenarioValue) (b : Story) (n : ℕ) (x : CommandEnd) (over : Bool) (bytes sense : List ℕ)
    → IsEndOf b n x → are_replies s b n x bytes sense ≡ true
    → told_outcome_if (outcome_after x over bytes sense) ≡ settled_outcome s b n x over
outcome_told s b n x over bytes sense h replies = go (is_settled x over)
  where
    reply : (p : Bool) (t : Bool) → (not p || t) ≡ true → p ≡ true → t ≡ true
    reply true t z e = z
    reply false t z e = cc

    good : is_good x.ending ≡ true → bytes ≡ reply_bytes s b.history (command_id n)
    good e = bytes_are bytes (reply_bytes s b.history (command_id n))
        (reply (is_good x.ending) (is_reply_of s b.history (command_id n) bytes)
        (and_first (not (is_good x.ending) || is_reply_of s b.history (command_id n) bytes)
        (not x.sense_ended || is_reply_of s b.history (sense_id n) sense) replies) e)

    known : x.sense_ended ≡ true → sense ≡ reply_bytes s b.history (sense_id n)
    known e = bytes_are sense (reply_bytes s b.history (sense_id n))
        (reply x.sense_ended (is_reply_of s b.history (sense_id n) sense)
        (and_second (not (is_good x.ending) || is_reply_of s b.history (command_id n) bytes)
        (not x.sense_ended || is_reply_of s b.history (sense_id n) sense) replies) e)

    ended : told_outcome_if (own.outcome_if x.ending x.sense_ended bytes sense)
        ≡ outcome_if s b.history n (ending_of b.ended n)
    ended = ending_told s b n x.ending x.sense_ended bytes sense h.sense_is good known
        ∙ (λ i. outcome_if s b.history n (h.ending_is i))

    go : (q : Bool) → told_outcome_if (if q then own.outcome_if x.ending x.sense_ended bytes sense else None)
        ≡ (if q then outcome_if s b.history n (ending_of b.ended n) else None)
    go true = ended
    go false = refl
