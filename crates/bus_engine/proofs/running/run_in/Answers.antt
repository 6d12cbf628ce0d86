use Rattle.std.proofs.Common.{◌*◌, ◌+◌, ◌-◌, ◌/◌, ℕ, ◌≡◌, ◌<◌, ◌≤◌, ◌^◌, ◌∙◌, true, List, length, reverse, sym, ap}
use Rattle.std.proofs.Common.{subst, arith}
use Rattle.std.specs.Prelude.{is_some, Option}
use Rattle.std.specs.List.{list_all}
use Rattle.std.proofs.lemmas.List.{length-reverse, reverse-reverse}
use Rattle.bus_base.specs.declared.Event.{Event}
use Rattle.bus_trace.specs.declared.Row.{Row}
use Rattle.bus_trace.specs.LineSet.{none}
use Rattle.bus_trace.specs.Trace.{bus, last_time}
use Rattle.due_model.specs.bus_rules.specs.Lawful.{IsLawful}
use Rattle.array_model.specs.ArrayHistory.{array_after, disks_of, tapes_of}
use Rattle.scenario.specs.Value.{ScenarioValue}
use Rattle.due_model.specs.story_model.specs.Budget.{budget}
use Rattle.due_model.specs.story_model.specs.Outcomes.{outcomes}
use Rattle.due_model.specs.story_model.specs.Samples.{expected_strikes, row_strikes}
use Rattle.due_model.specs.story_model.specs.Story.{Story}
use Rattle.due_model.specs.story_model.specs.TraceHistory.{story, trace_history}
use Rattle.due_model.specs.Next.{IsPrompt, IsEnded}
use Rattle.due_model.specs.Plain.{AreOfDevices}
use Rattle.bus_run.specs.Runs.{AreEarly}
use Rattle.due_model.specs.story_model.specs.Right.{all_carried}
use Rattle.transcript_laws.specs.bus_transcript.specs.Events.{TellsHistory}
use Rattle.delivery_laws.specs.progress_laws.proofs.Quiet.Facts.{joined}
use Rattle.due_model.specs.story_model.specs.Outcomes.{Outcome}
use Rattle.delivery_laws.specs.Delivery.{AreAnswered, AreCaused, AreChecked, AreOwnSenses, AreStoppedSenses}
use Rattle.delivery_laws.specs.Delivery.{HaveStrikes, IsDelivered}
use Rattle.delivery_laws.specs.Endings.{AreExact, arrive_by_room}
use Rattle.delivery_laws.specs.Openings.{AreAnsweredOffers, AreOfferReplies, AreOpenings}
use Rattle.delivery_laws.specs.Recoveries.{AreRecoveries}
use Rattle.delivery_laws.specs.Resets.{AreResets}
use Rattle.delivery_laws.specs.book_laws.specs.WrongParity.{complains_truly}
use Rattle.bus_engine.proofs.Answered.{all_answered}
use Rattle.bus_engine.proofs.Items.{all_reversed}
use Rattle.bus_engine.proofs.running.run_in.Goals as goal

within_budget : (s : ScenarioValue) (before after : ℕ) → after ≤ before + 8 * (budget s / 8) → after ≤ before + budget s
within_budget s before after h = omega (arith, h)

lawful_at : (rows all : List Row) (end time : ℕ) → rows ≡ all → end ≡ time → IsLawful (reverse all) time
    → IsLawful (reverse rows) end
lawful_at rows all end time r e h =
    subst (λ (l : List Row). IsLawful (reverse l) end) (sym r) (subst (λ (n : ℕ). IsLawful (reverse all) n) (sym e) h)

pub returns-clause-exact : goal.returns-clause-exact
returns-clause-exact g c = λ at.
    let s = c.args.scenario.now in
    let items = c.in_ok-trace.trace.rows in
    let all : List Row = reverse c.in_ok-trace.trace.rows in
    let r = c.in_ok-finish.ensures.rows in
    let plain = c.kept_is_plain.ensures.rows s all c.in_ok-trace.ensures.devices in
    let h = c.prompt_traces_tie_devices.ensures s c.requires.lawful in
    let prompt = c.in_ok-trace.ensures.prompt h at in
    let small : length all < 2 ^ 32 - 1 = c.runs_stay_within_budget.ensures.small s all c.requires.lawful prompt in
    record {
      told =
          let places = c.in_ok-trace.ensures.places h at in
          let few : length all < 2 ^ 32 = omega (arith, small) in
          let ended = c.in_ok-trace.ensures.ended h at (omega (arith, small, length-reverse items)) in
          let right = c.ended_traces_are_right.ensures s all c.requires.lawful prompt ended in
          record {
            prompt = subst (λ (l : List Row). IsPrompt s (reverse l)) (sym r) prompt;
            lawful = lawful_at _ items _ (last_time all) r c.in_ok-finish.ensures.end right.lawful;
            ended = subst (λ (l : List Row). IsEnded s (reverse l)) (sym r) ended;
            quiet = subst (λ (l : List Row). bus (reverse l) ≡ none) (sym r) right.quiet;
            faults =
                subst (λ (l : List Row). expected_strikes s (reverse l) ≡ row_strikes l) (sym r)
                (right.faults ∙ ap row_strikes (reverse-reverse items));
            history = ap (λ (l : List Event). reverse l) c.in_ok-finish.ensures.history
                ∙ c.in_ok-trace.ensures.history h at ∙ ap (λ (l : List Row). trace_history s (reverse l)) (sym r);
            permitted = subst (λ (l : List Row). is_some (array_after s (trace_history s (reverse l))) ≡ true) (sym r)
                (c.prompt_traces_are_right.ensures.permitted s all c.requires.lawful prompt);
            carried = subst (λ (l : List Row). all_carried s (story s (reverse l)) (trace_history s (reverse l)) ≡ true)
                (sym r) (c.prompt_traces_are_right.ensures.carried s all c.requires.lawful prompt);
            replies = c.in_ok-finish.ensures.replies all places (all_answered s all c.requires.lawful prompt
                (joined s all c.wants_are_items.ensures.wants c.requires.lawful prompt) ended
                (c.endings_have_causes.ensures.status s all)
                (c.prompt_traces_are_right.ensures.carried s all c.requires.lawful prompt))
                ∙ ap (λ (b : Story). outcomes s b) plain.story
                ∙ ap (λ (l : List Row). outcomes s (story s (reverse l))) (sym r);
            disks = c.in_ok-finish.ensures.disks all plain
                (c.rows_tie_devices.ensures.allowed s all (h all prompt few)) places
                ∙ ap (λ (l : List Row). disks_of (array_after s (trace_history s (reverse l)))) (sym r);
            tapes = c.in_ok-finish.ensures.tapes all plain
                (c.rows_tie_devices.ensures.allowed s all (h all prompt few)) places
                ∙ ap (λ (l : List Row). tapes_of (array_after s (trace_history s (reverse l)))) (sym r);
            transcript = subst (λ (l : List Row). TellsHistory s (reverse l)) (sym r)
                (c.transcripts_follow_prompt_traces.ensures s all c.requires.lawful prompt);
            answered =
                subst (λ (l : List Row). list_all (λ (o : Option Outcome). is_some o) (outcomes s (story s (reverse l)))
                ≡ true) (sym r) right.answered;
            delivered = subst (λ (l : List Row). IsDelivered s (reverse l)) (sym r)
                (c.valid_commands_are_delivered.ensures s all c.requires.lawful prompt ended);
            checked = λ resets aborts. subst (λ (l : List Row). AreChecked s (reverse l)) (sym r)
                (c.invalid_commands_are_checked.ensures s all c.requires.lawful resets aborts prompt ended);
            caused = subst (λ (l : List Row). AreCaused s (reverse l)) (sym r)
                (c.outcomes_have_causes.ensures s all c.requires.lawful prompt);
            struck =
                subst (λ (l : List Row). HaveStrikes s (reverse l)) (sym r) (c.failures_have_strikes.ensures s all);
            complaints = subst (λ (l : List Row). complains_truly s (reverse l) ≡ true) (sym r)
                (c.limits_are_kept.ensures.complains s all c.requires.lawful prompt);
            senses = subst (λ (l : List Row). AreOwnSenses s (reverse l)) (sym r)
                (c.senses_are_their_own.ensures s all c.requires.lawful prompt);
            lasting = subst (λ (l : List Row). AreAnswered s (reverse l)) (sym r)
                (c.replies_last.ensures.checked s all c.requires.lawful prompt);
            stopped = subst (λ (l : List Row). AreStoppedSenses s (reverse l)) (sym r)
                (c.senseless_checks_were_stopped.ensures s all c.requires.lawful prompt ended);
            resets =
                subst (λ (l : List Row). AreResets s (reverse l)) (sym r)
                (record {
                  begins = c.resets_are_by_lines.ensures.begins s all c.requires.lawful prompt;
                  ends = c.resets_are_by_lines.ensures.ends s all c.requires.lawful prompt;
                  lines = c.resets_are_by_lines.ensures.lines s all c.requires.lawful prompt ended;
                });
            exact = subst (λ (l : List Row). AreExact s (reverse l)) (sym r)
                (c.outcomes_are_exact.ensures s all c.requires.lawful prompt ended);
            arrivals = subst (λ (l : List Row). arrive_by_room s (trace_history s (reverse l)) ≡ true) (sym r)
                (c.arrivals_are_by_room.ensures s all c.requires.lawful prompt);
            recoveries = subst (λ (l : List Row). AreRecoveries s (reverse l)) (sym r)
                (c.recoveries_are_due.ensures s all c.requires.lawful prompt);
            openings = subst (λ (l : List Row). AreOpenings s (reverse l)) (sym r)
                (c.openings_are_said.ensures.said s all c.requires.lawful prompt);
            offered = subst (λ (l : List Row). AreOfferReplies s (reverse l)) (sym r)
                (c.openings_are_said.ensures.replied s all c.requires.lawful prompt);
            offers = subst (λ (l : List Row). AreAnsweredOffers (reverse l)) (sym r)
                (c.openings_are_said.ensures.answered s all c.requires.lawful prompt);
          };
      devices = subst (λ (l : List Row). AreOfDevices l) (sym r)
          (all_reversed (λ (row : Row). row.dev < 8) items c.in_ok-trace.ensures.devices);
      early = subst (λ (l : List Row). AreEarly l) (sym r)
          (all_reversed (λ (row : Row). row.time < 2 ^ 62) items c.in_ok-trace.ensures.early);
      end = c.in_ok-finish.ensures.end ∙ ap (λ (l : List Row). last_time (reverse l)) (sym r);
      few = subst (λ (l : List Row). length l < budget s / 8) (sym r) (subst (λ (n : ℕ). n < budget s / 8)
          (length-reverse items) (c.runs_stay_within_budget.ensures.few s all c.requires.lawful prompt));
      small = subst (λ (l : List Row). length l < 2 ^ 32 - 1) (sym r) (omega (arith, small, length-reverse items));
      answered = c.in_ok-finish.ensures.answered;
      stored = c.in_ok-finish.ensures.stored;
      reeled = c.in_ok-finish.ensures.reeled;
    }

pub returns-clause-steps : goal.returns-clause-steps
returns-clause-steps g c = λ at.
    let s = c.args.scenario.now in
    within_budget s c.args.steps.now c.run.new.steps
    (c.in_ok-trace.ensures.within (budget s / 8) (c.prompt_traces_tie_devices.ensures s c.requires.lawful) at
    (λ rows p. c.runs_stay_within_budget.ensures.few s rows c.requires.lawful p))

pub returns-in_err-trace-clause-steps : goal.returns-in_err-trace-clause-steps
returns-in_err-trace-clause-steps g c = λ at.
    let s = c.args.scenario.now in
    within_budget s c.args.steps.now c.run.new.steps
    (c.in_err-trace.ensures.within (budget s / 8) (c.prompt_traces_tie_devices.ensures s c.requires.lawful) at
    (λ rows p. c.runs_stay_within_budget.ensures.few s rows c.requires.lawful p))

pub returns-in_err-finish-clause-steps : goal.returns-in_err-finish-clause-steps
returns-in_err-finish-clause-steps g c = λ at.
    let s = c.args.scenario.now in
    within_budget s c.args.steps.now c.run.new.steps
    (c.in_ok-trace.ensures.within (budget s / 8) (c.prompt_traces_tie_devices.ensures s c.requires.lawful) at
    (λ rows p. c.runs_stay_within_budget.ensures.few s rows c.requires.lawful p))
