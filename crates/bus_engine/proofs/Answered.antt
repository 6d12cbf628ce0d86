-- Of a prompt trace that has ended: no byte was taken back, and the outcome of each command is known; and where each
-- process carried its own bytes, what came back is the reply of the plain disk array (6.6.13, 7.3, 7.8).
use Rattle.std.proofs.Common.{ℕ, suc, ◌≡◌, ◌+◌, true, ◌∙◌, List, [], ◌∷◌, Option, Some, None, refl, sym, ap, subst}
use Rattle.std.proofs.Common.{one-add}
use Rattle.std.specs.Prelude.{◌==◌, is_some}
use Rattle.std.specs.List.{list_all}
use Rattle.std.proofs.lemmas.Bool.{and_from, and_parts, eqb-true}
use Rattle.bus_base.proofs.Tests.{plus_none, wrong'}
use Rattle.bus_trace.specs.declared.Row.{Row}
use Rattle.cdb_codec.specs.declared.status.TheConstants.{CHECK_CONDITION}
use Rattle.scenario.specs.declared.value.CmdDef.{CmdDef}
use Rattle.scenario.specs.Value.{ScenarioValue}
use Rattle.scenario.specs.Writing.{Obeys}
use Rattle.array_model.specs.ArrayHistory.{array_after}
use Rattle.array_model.specs.Processes.{command_at, process_by, process_if}
use Rattle.array_model.specs.Units.{Array}
use Rattle.due_model.specs.story_model.specs.Outcomes.{Outcome, ending_of, has_end, outcome_if, outcome_of, outcomes}
use Rattle.due_model.specs.story_model.specs.Outcomes.{outcomes_from}
use Rattle.due_model.specs.story_model.specs.Story.{Ending, Story, by_abort, by_loss, by_reset, by_status, unanswered}
use Rattle.due_model.specs.story_model.specs.Right.{all_carried}
use Rattle.due_model.specs.story_model.specs.TraceHistory.{story, trace_history}
use Rattle.due_model.specs.story_model.specs.Items.{sense_id, command_id}
use Rattle.due_model.specs.Next.{IsEnded, IsPrompt}
use Rattle.due_model.specs.Plain.{IsPlain}
use Rattle.due_model.specs.RunState.{RunState, array_of, or_start}
use Rattle.due_model.specs.RunSteps.{run_state}
use Rattle.due_model.proofs.Plains.{run_state_plain}
use Rattle.delivery_laws.specs.progress_laws.proofs.Outcomes.Facts.{answered_when_ended}
use Rattle.delivery_laws.specs.progress_laws.proofs.Debts.Facts.{Indebted, indebted}
use Rattle.delivery_laws.specs.progress_laws.proofs.Quiet.Facts.{Joined, free_when_ended, unwanted_when_ended}
use Rattle.delivery_laws.specs.progress_laws.proofs.Queues.Facts.{all_queued}
use Rattle.delivery_laws.specs.right_laws.proofs.Ran.Right.{all_joined}
use Rattle.initiator.specs.Causes.{has_status}
use Rattle.initiator.specs.Received.{undoes_no_byte}
use Rattle.bus_engine.specs.Answers.{are_answered, are_answered_from, are_replied_from, is_answered, is_replied}
use Rattle.bus_engine.specs.Answers.{is_settled, sense_is_over}
use Rattle.delivery_laws.proofs.Replies.Checks.{checks_stand}
use Rattle.delivery_laws.proofs.Replies.Ends.{all_ended, end_found, end_reply}
use Rattle.delivery_laws.proofs.Replies.Senses.{is_known}
use Rattle.bus_engine.proofs.ListedReplies.{all_given}
use Rattle.bus_engine.proofs.RanTargets.{ran_there}
use Rattle.bus_engine.proofs.Replied.{HaveReplies, all_replied}
use Rattle.bus_engine.proofs.Settled.{over_told, sense_is_done, settled_status}
use Rattle.bus_engine.proofs.Undone.{no_byte_undone}
use Rattle.delivery_laws.specs.row_laws.proofs.Common.Tests.{plus_one}

-- ---- what is known of it

-- Its status is known; and where it ended with CHECK CONDITION its automatic REQUEST SENSE is over.
pub record Endings (s : ScenarioValue) (k : RunState) : Type 0 where
  pub known : (n status : ℕ) → has_status k.story.history (command_id n) status ≡ true → is_known status ≡ true
  pub senses : (n : ℕ) (c : CmdDef) → command_at s.commands n ≡ Some c
      → has_status k.story.history (command_id n) CHECK_CONDITION ≡ true → sense_is_over s k.story n c ≡ true

known_status : (s : ScenarioValue) (k : RunState) → HaveReplies s k
    → (n status : ℕ) → has_status k.story.history (command_id n) status ≡ true → is_known status ≡ true
known_status s k h n status e =
    let r = h.ends (command_id n) status e in
    ap is_known r.status_is ∙ (h.given (command_id n) r.reply r.reply_is).known

-- ---- a command

settled : (s : ScenarioValue) (k : RunState) (n : ℕ) (c : CmdDef) → Endings s k → ((status : ℕ)
    → ending_of k.story.ended n ≡ Some (by_status status) → has_status k.story.history (command_id n) status ≡ true)
    → command_at s.commands n ≡ Some c → is_some (ending_of k.story.ended n) ≡ true
    → is_settled (ending_of k.story.ended n) (has_end k.story.history (sense_id n)) (sense_is_over s k.story n c) ≡ true
settled s k n c h told at some = go (ending_of k.story.ended n) refl some
  where
    check : (status : ℕ) → has_status k.story.history (command_id n) status ≡ true → (status == CHECK_CONDITION) ≡ true
        → has_status k.story.history (command_id n) CHECK_CONDITION ≡ true
    check status e z =
        subst (λ (x : ℕ). has_status k.story.history (command_id n) x ≡ true) (eqb-true status CHECK_CONDITION z) e

    go : (o : Option Ending) → ending_of k.story.ended n ≡ o → is_some o ≡ true
        → is_settled o (has_end k.story.history (sense_id n)) (sense_is_over s k.story n c) ≡ true
    go None e z = wrong' z
    go (Some (by_status status)) e z =
        let has = told status e in
        settled_status status (has_end k.story.history (sense_id n)) (sense_is_over s k.story n c)
        (h.known n status has) (λ w. h.senses n c at (check status has w))
    go (Some by_loss) e z = refl
    go (Some by_reset) e z = refl
    go (Some by_abort) e z = refl
    go (Some unanswered) e z = refl

-- ---- all commands

some_ended : (s : ScenarioValue) (b : Story) (n : ℕ) → is_some (outcome_of s b n) ≡ true
    → is_some (ending_of b.ended n) ≡ true
some_ended s b n e = go (ending_of b.ended n) e
  where
    go : (o : Option Ending) → is_some (outcome_if s b.history n o) ≡ true → is_some o ≡ true
    go None z = z
    go (Some x) z = refl

answered_from : (s : ScenarioValue) (b : Story) (n : ℕ) (commands : List CmdDef)
    → list_all (λ (o : Option Outcome). is_some o) (outcomes_from s b n commands) ≡ true
    → are_replied_from s b n commands ≡ true
    → ((m : ℕ) (c : CmdDef) → command_at commands (suc m) ≡ Some c → is_some (ending_of b.ended (n + m)) ≡ true
    → is_settled (ending_of b.ended (n + m)) (has_end b.history (sense_id (n + m))) (sense_is_over s b (n + m) c)
    ≡ true) → are_answered_from s b n commands ≡ true
answered_from s b n [] some replied h = refl
answered_from s b n (c ∷ commands) some replied h =
    let all = and_parts (is_some (outcome_of s b n))
    (list_all (λ (o : Option Outcome). is_some o) (outcomes_from s b (n + 1) commands)) some in
    let came = and_parts (is_replied s b n c) (are_replied_from s b (n + 1) commands) replied in
    let here : is_settled (ending_of b.ended n) (has_end b.history (sense_id n)) (sense_is_over s b n c) ≡ true = subst
    (λ (x : ℕ). is_some (ending_of b.ended x) ≡ true
    → is_settled (ending_of b.ended x) (has_end b.history (sense_id x)) (sense_is_over s b x c) ≡ true)
    (plus_none n) (h 0 c refl) (some_ended s b n all.0) in
    and_from (is_answered s b n c) (are_answered_from s b (n + 1) commands)
    (and_from (is_settled (ending_of b.ended n) (has_end b.history (sense_id n)) (sense_is_over s b n c))
    (is_replied s b n c) here came.0)
    (answered_from s b (n + 1) commands all.1 came.1 (λ m d at. subst (λ (x : ℕ). is_some (ending_of b.ended x) ≡ true
    → is_settled (ending_of b.ended x) (has_end b.history (sense_id x)) (sense_is_over s b x d) ≡ true) (plus_one n m)
    (h (suc m) d at)))

-- ---- the trace

pub all_answered : (s : ScenarioValue) (p : List Row) → Obeys s → IsPrompt s p → Joined s p → IsEnded s p
    → ((n status : ℕ) → ending_of (run_state s p).story.ended n ≡ Some (by_status status)
    → has_status (run_state s p).story.history (command_id n) status ≡ true)
    → all_carried s (story s p) (trace_history s p) ≡ true → are_answered s p ≡ true
all_answered s p o prompt j end told carried = and_from (undoes_no_byte s p)
    (are_answered_from s k.story 1 s.commands) (no_byte_undone s p o prompt) (answered_from s k.story 1 s.commands some
    (all_replied s k haves (subst (λ (b : Story). all_carried s b b.history ≡ true) (sym pl.story) carried)) each)
  where
    k : RunState
    k = run_state s p

    h : Indebted s p
    h = indebted s p o prompt

    pl : IsPlain s p k
    pl = run_state_plain s p j.stood.standing.devices

    plays : array_after s k.story.history ≡ Some (array_of s k)
    plays = (λ i. array_after s (pl.story i).history) ∙ sym pl.array ∙ h.whole.places.array_is
        ∙ ap (λ (a : Array). Some a) (sym (ap (or_start s) h.whole.places.array_is))

    haves : HaveReplies s k
    haves = record {
      plays = plays;
      given = all_given s k.story.history (array_of s k) o plays;
      there = λ n c at ran. ran_there s p o prompt (command_id n) (process_by s (command_id n) c)
          (ap (process_if s (command_id n)) at) ran;
      ends = λ id status e. end_reply s k id status (h.whole.statuses.areas.areas id)
          (end_found s k k.story.history id status (all_ended s p o prompt (all_joined s p o prompt)) e);
      senses = h.books.fetched;
      told = told;
    }

    some : list_all (λ (o : Option Outcome). is_some o) (outcomes s k.story) ≡ true
    some = ap (λ (b : Story). list_all (λ (x : Option Outcome). is_some x) (outcomes s b)) pl.story
        ∙ answered_when_ended s p o j end (record { items = h.whole.facts.items; places = h.whole.places })
        (all_queued s p o prompt) h.owed

    rest : k.served ≡ None
    rest = (h.whole.facts.items.items.apart (pl.connection ∙ (free_when_ended s p j end).stands.connection_is)).1

    endings : Endings s k
    endings = record {
      known = known_status s k haves;
      senses = λ n c at e. over_told s k.story.sent n c at (sense_is_done s k n c o h.whole.facts.items.items rest
          (λ dev latency lt there. unwanted_when_ended s p j end dev latency lt there) at (checks_stand s p n e));
    }

    each : (m : ℕ) (c : CmdDef) → command_at s.commands (suc m) ≡ Some c
        → is_some (ending_of k.story.ended (1 + m)) ≡ true
        → is_settled (ending_of k.story.ended (1 + m)) (has_end k.story.history (sense_id (1 + m)))
        (sense_is_over s k.story (1 + m) c) ≡ true
    each m c at some =
        settled s k (1 + m) c endings (told (1 + m)) (ap (λ (x : ℕ). command_at s.commands x) (one-add m) ∙ at) some
