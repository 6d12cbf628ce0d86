-- The run of a scenario.
use Rattle.std.specs.Prelude.{◌≡◌, ◌<◌, ◌/◌, ◌-◌, ◌^◌, true, List, [], map, length, reverse, Option, Some, is_some}
use Rattle.std.specs.List.{list_all}
use Rattle.bus_trace.specs.declared.Row.{Row}
use Rattle.bus_trace.specs.LineSet.{none}
use Rattle.bus_trace.specs.Trace.{bus, last_time}
use Rattle.due_model.specs.bus_rules.specs.Lawful.{IsLawful}
use Rattle.scenario.specs.Value.{ScenarioValue}
use Rattle.array_model.specs.ArrayHistory.{array_after, disks_of, tapes_of}
use Rattle.due_model.specs.story_model.specs.Budget.{budget}
use Rattle.due_model.specs.story_model.specs.Outcomes as told
use Rattle.due_model.specs.story_model.specs.Outcomes.{outcomes}
use Rattle.due_model.specs.story_model.specs.Right.{all_carried}
use Rattle.due_model.specs.story_model.specs.Samples.{expected_strikes, row_strikes}
use Rattle.due_model.specs.story_model.specs.TraceHistory.{story, trace_history}
use Rattle.due_model.specs.Next.{IsPrompt, IsEnded}
use Rattle.due_model.specs.Plain.{AreOfDevices}
use Rattle.run_record.specs.declared.outcome.Outcome.{Outcome}
use Rattle.initiator.specs.Outcomes.{told_outcome}
use Rattle.bus_run.specs.Runs.{AreEarly}
use Rattle.run_record.specs.Value.{RunValue}
use Rattle.transcript_laws.specs.bus_transcript.specs.Events.{TellsHistory}
use Rattle.delivery_laws.specs.Delivery.{AreAnswered, AreCaused, AreChecked, AreOwnSenses, AreStoppedSenses}
use Rattle.delivery_laws.specs.Delivery.{HaveStrikes, IsDelivered}
use Rattle.delivery_laws.specs.Endings.{AreExact, arrive_by_room}
use Rattle.delivery_laws.specs.Openings.{AreAnsweredOffers, AreOfferReplies, AreOpenings}
use Rattle.delivery_laws.specs.Recoveries.{AreRecoveries}
use Rattle.delivery_laws.specs.Resets.{AreResets}
use Rattle.delivery_laws.specs.book_laws.specs.WrongParity.{complains_truly}

abbrev pub told_reply : Outcome → Option told.Outcome
told_reply outcome = Some (told_outcome outcome)

-- The rows of a run, the newest first.
abbrev pub rows_of : RunValue → List Row
rows_of run = reverse run.rows

-- The run of a scenario: its rows are the prompt trace, after which nothing is due, its history is what they tell,
-- which the plain disk array permits, each reply is the outcome that they tell, and its disks and tapes hold what the
-- array holds after that history; the rows and the end obey every rule of the bus, the fault rows are those of the
-- scenario, and no line is true at the end. Each process that ran and ended carried just its own bytes. The transcript
-- of the rows has the events of that history, with the names of processes in place of numbers. Each command has its
-- outcome. Where queues have room and there is no reset and no abort, each valid command that no more faults struck
-- than it bears ended GOOD, and each with which something is wrong whatever its unit holds with the sense of what is
-- wrong with it first; every other outcome has its cause, each failure the fault row of a byte, and each complaint of
-- an initiator a struck byte of that phase; the sense with which a command ended is that of its own reply, and only
-- where its automatic REQUEST SENSE was stopped is it without; and RST began by the reset lines alone. Each outcome is
-- exactly that of the first row that ended the command, and of its reply; each command was refused exactly where it
-- found a full queue; each phase with wrong parity was left to try again, or to give up, by the target's limit; what
-- an initiator said first was its opening, an offer was answered, and no request for synchronous transfer was open in
-- COMMAND, data and STATUS.
pub record IsPromptRun (s : ScenarioValue) (run : RunValue) : Type 0 where
  pub prompt : IsPrompt s (rows_of run)
  pub lawful : IsLawful (rows_of run) run.end
  pub ended : IsEnded s (rows_of run)
  pub quiet : bus (rows_of run) ≡ none
  pub faults : expected_strikes s (rows_of run) ≡ row_strikes run.rows
  pub history : reverse run.history ≡ trace_history s (rows_of run)
  pub permitted : is_some (array_after s (trace_history s (rows_of run))) ≡ true
  pub carried : all_carried s (story s (rows_of run)) (trace_history s (rows_of run)) ≡ true
  pub replies : map told_reply run.replies ≡ outcomes s (story s (rows_of run))
  pub disks : run.disks ≡ disks_of (array_after s (trace_history s (rows_of run)))
  pub tapes : run.tapes ≡ tapes_of (array_after s (trace_history s (rows_of run)))
  pub transcript : TellsHistory s (rows_of run)
  pub answered : list_all (λ (o : Option told.Outcome). is_some o) (outcomes s (story s (rows_of run))) ≡ true
  pub delivered : IsDelivered s (rows_of run)
  pub checked : s.resets ≡ [] → s.aborts ≡ [] → AreChecked s (rows_of run)
  pub caused : AreCaused s (rows_of run)
  pub struck : HaveStrikes s (rows_of run)
  pub complaints : complains_truly s (rows_of run) ≡ true
  pub senses : AreOwnSenses s (rows_of run)
  pub lasting : AreAnswered s (rows_of run)
  pub stopped : AreStoppedSenses s (rows_of run)
  pub resets : AreResets s (rows_of run)
  pub exact : AreExact s (rows_of run)
  pub arrivals : arrive_by_room s (trace_history s (rows_of run)) ≡ true
  pub recoveries : AreRecoveries s (rows_of run)
  pub openings : AreOpenings s (rows_of run)
  pub offered : AreOfferReplies s (rows_of run)
  pub offers : AreAnsweredOffers (rows_of run)

-- Each row is of one of the eight devices and comes before 2^62 ns, the end is the time of the last, the rows are fewer
-- than an eighth of the budget, as each asks the eight devices, and fewer than 2^32 - 1, and there are as many replies
-- as commands, as many disks as units and as many tapes as lines of tapes.
pub record IsRunOf (s : ScenarioValue) (run : RunValue) : Type 0 where
  pub told : IsPromptRun s run
  pub devices : AreOfDevices run.rows
  pub early : AreEarly run.rows
  pub end : run.end ≡ last_time (rows_of run)
  pub few : length run.rows < budget s / 8
  pub small : length run.rows < 2 ^ 32 - 1
  pub answered : length run.replies ≡ length s.commands
  pub stored : length run.disks ≡ length s.units
  pub reeled : length run.tapes ≡ length s.tapes
