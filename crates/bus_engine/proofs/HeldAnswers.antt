-- What is known of a command whose outcome is taken.
use Rattle.std.proofs.Common.{ℕ, ◌≡◌, Bool, true, List, Option, Some, None, refl, ap, ◌∙◌}
use Rattle.std.specs.Prelude.{◌&&◌, ◌||◌, not, if◌then◌else◌}
use Rattle.std.proofs.lemmas.Bool.{and_parts}
use Rattle.scenario.specs.declared.value.CmdDef.{CmdDef}
use Rattle.scenario.specs.Value.{ScenarioValue}
use Rattle.due_model.specs.story_model.specs.Outcomes.{ending_of, has_end, outcome_of}
use Rattle.due_model.specs.story_model.specs.Story.{Story}
use Rattle.due_model.specs.story_model.specs.Items.{sense_id, command_id}
use Rattle.initiator.specs.initiator_books.specs.declared.endings.CommandEnd.{CommandEnd}
use Rattle.initiator.specs.initiator_books.specs.declared.endings.Ending.{Ending}
use Rattle.initiator.specs.initiator_books.specs.declared.endings.Ending.TheVariants.{Status, Loss, Reset, Abort}
use Rattle.initiator.specs.initiator_books.specs.declared.endings.Ending.TheVariants.{Unanswered}
use Rattle.initiator.specs.initiator_books.specs.Endings.{IsEndOf, told_ending_if}
use Rattle.initiator.specs.Outcomes as own
use Rattle.initiator.specs.Outcomes.{are_replies, is_reply_of, settled_outcome}
use Rattle.bus_engine.specs.Answers.{is_settled, is_good, is_reply, is_answered, sense_is_over, received_bytes}

settled_same : (e : Option Ending) (sensed over : Bool)
    → own.is_settled_if e sensed over ≡ is_settled (told_ending_if e) sensed over
settled_same None sensed over = refl
settled_same (Some (Status status)) sensed over = refl
settled_same (Some Loss) sensed over = refl
settled_same (Some Reset) sensed over = refl
settled_same (Some Abort) sensed over = refl
settled_same (Some Unanswered) sensed over = refl

good_same : (e : Option Ending) → own.is_good e ≡ is_good (told_ending_if e)
good_same None = refl
good_same (Some (Status status)) = refl
good_same (Some Loss) = refl
good_same (Some Reset) = refl
good_same (Some Abort) = refl
good_same (Some Unanswered) = refl

pub record IsAnswered (s : ScenarioValue) (b : Story) (n : ℕ) (x : CommandEnd) (over : Bool) (bytes sense : List ℕ) :
    Type 0 where
  pub replies : are_replies s b n x bytes sense ≡ true
  pub settled : own.is_settled x over ≡ true

pub answered :
    (s : ScenarioValue) (b : Story) (n : ℕ) (c : CmdDef) (x : CommandEnd) (over : Bool) (bytes sense : List ℕ)
    → IsEndOf b n x → over ≡ sense_is_over s b n c → bytes ≡ received_bytes s b c (command_id n)
    → sense ≡ received_bytes s b c (sense_id n) → is_answered s b n c ≡ true → IsAnswered s b n x over bytes sense
answered s b n c x over bytes sense e o brought more h =
    let one = and_parts (is_settled (ending_of b.ended n) (has_end b.history (sense_id n)) (sense_is_over s b n c))
    ((not (is_good (ending_of b.ended n)) || is_reply s b c (command_id n))
    && (not (has_end b.history (sense_id n)) || is_reply s b c (sense_id n))) h in
    let good : own.is_good x.ending ≡ is_good (ending_of b.ended n) = good_same x.ending ∙ ap is_good e.ending_is in
    record {
      replies = (λ i. (not (good i) || is_reply_of s b.history (command_id n) (brought i))
          && (not (e.sense_is i) || is_reply_of s b.history (sense_id n) (more i)))
          ∙ one.1;
      settled =
          settled_same x.ending x.sense_ended over ∙ (λ i. is_settled (e.ending_is i) (e.sense_is i) (o i)) ∙ one.0;
    }

pub outcome_is : (s : ScenarioValue) (b : Story) (n : ℕ) (x : CommandEnd) (over : Bool) → own.is_settled x over ≡ true
    → settled_outcome s b n x over ≡ outcome_of s b n
outcome_is s b n x over h = λ i. if h i then outcome_of s b n else None
