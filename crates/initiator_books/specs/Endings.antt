-- How each command of an initiator's own ended, and what each row does to that.
use Rattle.std.specs.Prelude.{ℕ, ◌≡◌, ◌+◌, ◌==◌, ◌&&◌, Bool, true, false, List, [], ◌∷◌, length, drop, Option, Some}
use Rattle.std.specs.Prelude.{None, is_none, is_some, slice_set, slice_index_or, if◌then◌else◌}
use Rattle.bus_base.specs.declared.ProcId.{ProcId}
use Rattle.bus_base.specs.declared.Event.{Event}
use Rattle.bus_base.specs.declared.Event.TheVariants as events
use Rattle.bus_trace.specs.declared.Row.{Row}
use Rattle.scenario.specs.declared.value.CmdDef.{CmdDef}
use Rattle.scenario.specs.Value.{ScenarioValue}
use Rattle.array_model.specs.Processes.{command_at}
use Rattle.story_model.specs.Story as told
use Rattle.story_model.specs.Story.{Story, by_status, by_loss, by_reset, by_abort, unanswered}
use Rattle.story_model.specs.Outcomes.{ending_of, has_end}
use Rattle.story_model.specs.Items.{sense_id}
use Rattle.due_model.specs.RunSteps.{run_state}
use Rattle.initiator_books.specs.declared.endings.CommandEnd.{CommandEnd}
use Rattle.initiator_books.specs.declared.endings.Ending.{Ending}
use Rattle.initiator_books.specs.declared.endings.Ending.TheVariants as ends
use Rattle.initiator_books.specs.declared.mine.Mine.{Mine}
use Rattle.initiator_books.specs.declared.mine.OwnItem.{OwnItem}
use Rattle.initiator_books.specs.declared.mine.OwnItem.TheVariants as own
use Rattle.initiator_books.specs.Mines.{is_mine_aborted}
use Rattle.initiator_books.specs.Books.{BookValue}
use Rattle.initiator_books.specs.Openings.{mine_at}
use Rattle.due_model.specs.dialogue_model.specs.Events.{is_empty}

-- ---- one command

-- It has not ended.
abbrev pub no_end : CommandEnd
no_end = record { ending = None; sense_ended = false }

-- Its first ending stays.
abbrev pub ended_so : Ending → CommandEnd → CommandEnd
ended_so e x = if is_none x.ending then record x { ending = Some e } else x

abbrev pub with_sense_end : CommandEnd → CommandEnd
with_sense_end x = record x { sense_ended = true }

-- ---- all commands, by their numbers

abbrev pub end_at : List CommandEnd → ℕ → CommandEnd
end_at v n = slice_index_or v n no_end

abbrev pub ends_with : List CommandEnd → ℕ → Ending → List CommandEnd
ends_with v n e = slice_set v n (ended_so e (end_at v n))

abbrev pub ends_with_sense : List CommandEnd → ℕ → List CommandEnd
ends_with_sense v n = slice_set v n (with_sense_end (end_at v n))

-- ---- an event is shown: a process ends with a status, or is lost

abbrev pub ends_after_end : List CommandEnd → ProcId → ℕ → List CommandEnd
ends_after_end v id status =
    if id.sense then ends_with_sense v id.command else ends_with v id.command (ends.Status status)

abbrev pub ends_after_loss : List CommandEnd → ProcId → List CommandEnd
ends_after_loss v id = if id.sense then v else ends_with v id.command ends.Loss

-- An abort or a reset ends its commands that are sent and that it concerns (6.6.1 to 6.6.4, 6.2.2).
abbrev pub is_named : Event → Mine → Bool
is_named (events.Aborted host target unit what) m = is_mine_aborted host target unit what m
is_named (events.Reset dev) m = true
is_named _ m = false

abbrev pub ends_of_mines : Event → Ending → List Mine → List CommandEnd → List CommandEnd
ends_of_mines event e [] v = v
ends_of_mines event e (m ∷ mines) v =
    ends_of_mines event e mines (if m.sent && is_named event m then ends_with v m.number e else v)

abbrev pub ends_after_event : List Mine → List CommandEnd → Event → List CommandEnd
ends_after_event mines v (events.End id status) = ends_after_end v id status
ends_after_event mines v (events.Lost id) = ends_after_loss v id
ends_after_event mines v (events.Aborted host target unit what) =
    ends_of_mines (events.Aborted host target unit what) ends.Abort mines v
ends_after_event mines v (events.Reset dev) = ends_of_mines (events.Reset dev) ends.Reset mines v
ends_after_event mines v _ = v

-- The newest first.
abbrev pub ends_after_events : List Mine → List CommandEnd → List Event → List CommandEnd
ends_after_events mines v [] = v
ends_after_events mines v (e ∷ shown) = ends_after_event mines (ends_after_events mines v shown) e

-- ---- a row that shows no event may end the command for which the initiator called in vain once too often

abbrev pub is_over : Option Mine → Bool
is_over None = false
is_over (Some m) = m.over

abbrev pub ends_after_calling : List Mine → List CommandEnd → Option OwnItem → List CommandEnd
ends_after_calling mines v None = v
ends_after_calling mines v (Some (own.Command n)) =
    if is_over (mine_at mines n) then ends_with v n ends.Unanswered else v
ends_after_calling mines v (Some (own.Sense n)) = v
ends_after_calling mines v (Some (own.Abort n)) = v

-- A row which shows these events: the book is that after it, the aim that before it.
abbrev pub ends_after : BookValue → Option OwnItem → List CommandEnd → List Event → List CommandEnd
ends_after book aim v shown =
    if is_empty shown then ends_after_calling book.mines v aim else ends_after_events book.mines v shown

-- The same, where all commands before this place had ended before the row.
abbrev pub ends_after_from : ℕ → BookValue → Option OwnItem → List CommandEnd → List Event → List CommandEnd
ends_after_from first book aim v shown =
    if is_empty shown then ends_after_calling book.mines v aim else ends_after_events (drop first book.mines) v shown

abbrev pub have_ended : List CommandEnd → List Mine → Bool
have_ended v [] = true
have_ended v (m ∷ mines) = is_some (end_at v m.number).ending && have_ended v mines

-- ---- what the rows tell

abbrev pub told_ending : Ending → told.Ending
told_ending (ends.Status status) = by_status status
told_ending ends.Loss = by_loss
told_ending ends.Reset = by_reset
told_ending ends.Abort = by_abort
told_ending ends.Unanswered = unanswered

abbrev pub told_ending_if : Option Ending → Option told.Ending
told_ending_if None = None
told_ending_if (Some e) = Some (told_ending e)

-- So the command of this number ended, and so its automatic REQUEST SENSE.
pub record IsEndOf (b : Story) (n : ℕ) (x : CommandEnd) : Type 0 where
  pub ending_is : told_ending_if x.ending ≡ ending_of b.ended n
  pub sense_is : x.sense_ended ≡ has_end b.history (sense_id n)

-- So each command of this initiator's own ended after these rows.
pub record AreEndingsOf (s : ScenarioValue) (rows : List Row) (dev : ℕ) (v : List CommandEnd) : Type 0 where
  pub long : length v ≡ length s.commands + 1
  pub ends : (n : ℕ) (c : CmdDef) → command_at s.commands n ≡ Some c → (c.host == dev) ≡ true
      → IsEndOf (run_state s rows).story n (end_at v n)
