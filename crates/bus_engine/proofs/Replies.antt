-- The outcomes, command by command.
use Rattle.std.proofs.Common.{ℕ, zero, suc, ◌≡◌, ◌+◌, true, List, [], ◌∷◌, ◌++◌, drop, Some, map, append_assoc, add-one}
use Rattle.std.proofs.Common.{ap, subst, ◌∙◌}
use Rattle.std.proofs.lemmas.Bool.{and_parts}
use Rattle.std.proofs.lemmas.List.{map-append}
use Rattle.scenario.specs.declared.value.CmdDef.{CmdDef}
use Rattle.scenario.specs.Value.{ScenarioValue}
use Rattle.array_model.specs.Processes.{command_at}
use Rattle.due_model.specs.story_model.specs.Outcomes.{outcome_of, outcomes_from, outcomes}
use Rattle.due_model.specs.story_model.specs.Story.{Story}
use Rattle.run_record.specs.declared.outcome.Outcome.{Outcome}
use Rattle.bus_engine.specs.Answers.{is_answered, are_answered_from}
use Rattle.bus_engine.specs.Runs.{told_reply}

-- The commands before these were asked for, and told these replies.
pub record AreAsked (s : ScenarioValue) (b : Story) (index : ℕ) (replies : List Outcome) (rest : List CmdDef) : Type
    0 where
  pub told : map told_reply replies ++ outcomes_from s b (index + 1) rest ≡ outcomes s b
  pub answered : are_answered_from s b (index + 1) rest ≡ true

pub asked_next : (s : ScenarioValue) (b : Story) (index : ℕ) (replies more : List Outcome) (rest after : List CmdDef)
    (c : CmdDef) (o : Outcome) → rest ≡ c ∷ after → more ≡ replies ++ o ∷ [] → AreAsked s b index replies rest
    → (is_answered s b (index + 1) c ≡ true → told_reply o ≡ outcome_of s b (index + 1))
    → AreAsked s b (index + 1) more after
asked_next s b index replies more rest after c o e longer a tells =
    let h = subst (λ (r : List CmdDef). AreAsked s b index replies r) e a in
    let both = and_parts (is_answered s b (index + 1) c) (are_answered_from s b (index + 1 + 1) after) h.answered in
    record {
      told =
          (λ i. map told_reply (longer i) ++ outcomes_from s b (index + 1 + 1) after)
          ∙ (λ i. map-append told_reply replies (o ∷ []) i ++ outcomes_from s b (index + 1 + 1) after)
          ∙ append_assoc (map told_reply replies) (told_reply o ∷ []) (outcomes_from s b (index + 1 + 1) after)
          ∙ (λ i. map told_reply replies ++ (tells both.0 i ∷ outcomes_from s b (index + 1 + 1) after))
          ∙ h.told;
      answered = both.1;
    }

command_next : (commands : List CmdDef) (i : ℕ) (c : CmdDef) (after : List CmdDef) → drop i commands ≡ c ∷ after
    → command_at commands (suc i) ≡ Some c
command_next [] zero c after e = cc
command_next [] (suc i) c after e = cc
command_next (d ∷ commands) zero c after e = let same : d ≡ c = cc in ap (λ (x : CmdDef). Some x) same
command_next (d ∷ commands) (suc i) c after e = command_next commands i c after e

pub command_is : (commands : List CmdDef) (i : ℕ) (c : CmdDef) (after : List CmdDef) → drop i commands ≡ c ∷ after
    → command_at commands (i + 1) ≡ Some c
command_is commands i c after e = rw add-one (command_next commands i c after e)
