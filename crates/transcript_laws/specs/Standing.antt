-- What holds of a transcript and of the story of the same rows, row by row, where each row fits.
use Rattle.std.specs.Prelude.{ℕ, ◌≡◌, ◌||◌, Bool, true, false, List, [], ◌∷◌, ◌++◌, reverse, Option, Some, None}
use Rattle.due_model.specs.bus_base.specs.declared.Event.{Event}
use Rattle.due_model.specs.bus_base.specs.declared.ProcId.{ProcId}
use Rattle.due_model.specs.bus_trace.specs.Phases.{is_command, is_data, is_message_out}
use Rattle.due_model.specs.bus_trace.specs.declared.Row.{Row}
use Rattle.due_model.specs.bus_trace.specs.declared.changes.Change.{Change}
use Rattle.due_model.specs.scenario.specs.Value.{ScenarioValue}
use Rattle.due_model.specs.array_model.specs.Processes as array_of
use Rattle.due_model.specs.array_model.specs.Processes.{same_id}
use Rattle.due_model.specs.story_model.specs.CarriedBytes.{CarriedBytes, carried_of, is_status_phase}
use Rattle.due_model.specs.story_model.specs.Items.{Item, process, abort, has_item}
use Rattle.due_model.specs.story_model.specs.Links.{Link}
use Rattle.due_model.specs.story_model.specs.Story.{Story}
use Rattle.due_model.specs.story_model.specs.TraceHistory.{story}
use Rattle.progress_laws.specs.book_laws.specs.Accounts.{is_open_in}
use Rattle.bus_transcript.specs.Events.{names_begun}
use Rattle.bus_transcript.specs.Opened.{OpenedValue}
use Rattle.bus_transcript.specs.Processes.{same_nexus}
use Rattle.bus_transcript.specs.Rows.{TranscriberValue, transcribed}
use Rattle.transcript_laws.specs.Keeping.{HasProcess, IsKept}
use Rattle.transcript_laws.specs.Numbered.{AreNumbered}
use Rattle.transcript_laws.specs.Parts.{are_talk, base_parts, nexus_of, is_known}
use Rattle.transcript_laws.specs.Past.{AreOwnEvents, IsPast}
use Rattle.transcript_laws.specs.Serving.{IsAsBegun, IsBlank, IsServing}
use Rattle.transcript_laws.specs.Told.{IsMarked}

-- The oldest first.
abbrev pub sent_order : Story → List Item
sent_order b = reverse b.sent.sent

-- Each open process is the last of its nexus, but for this one.
abbrev pub AreKept : ScenarioValue → TranscriberValue → Story → List Item → (ProcId → Bool) → Type 0
AreKept s t b sent but = (id : ProcId) → is_open_in b.sent id ≡ true → but id ≡ false
    → IsKept s t.processes sent (names_begun t.items) b.carried id

abbrev pub no_process : ProcId → Bool
no_process id = false

-- ---- no connection stands

pub record StandsApart (s : ScenarioValue) (t : TranscriberValue) (b : Story) : Type 0 where
  pub opened_is : t.opened ≡ None
  pub link_is : b.link ≡ None
  pub past : IsPast t.items (sent_order b) b.history
  pub kept : AreKept s t b (sent_order b) no_process

-- ---- a connection stands

-- What was sent before it; and the item that its initiator sent with it.
pub data IsBegun (b : Story) (o : OpenedValue) (l : Link) (sent : List Item) : Type 0 where
  first : (item : Item) → o.connection.reselected ≡ false → l.item ≡ Some item → sent_order b ≡ sent ++ item ∷ []
      → has_item sent item ≡ false → IsBegun b o l sent
  again : o.connection.reselected ≡ true → sent_order b ≡ sent → IsBegun b o l sent

-- The same is kept of them.
pub record AreAlike (u c : CarriedBytes) : Type 0 where
  pub status : u.status.bytes ≡ c.status.bytes
  pub refused : u.refused ≡ c.refused
  pub shown : u.shown ≡ c.shown

-- No other that is open has its nexus.
abbrev pub IsAlone : ScenarioValue → Story → ProcId → Type 0
IsAlone s b id = (x : ProcId) (d e : array_of.Process) → is_open_in b.sent x ≡ true
    → same_id x id ≡ false → array_of.process_of s id ≡ Some d → array_of.process_of s x ≡ Some e
    → same_nexus (nexus_of d) (nexus_of e) ≡ false

-- As an initiator begins it, its process has shown nothing; as a target does, it is the one that was kept.
pub data IsFrom (s : ScenarioValue) (t : TranscriberValue) (b : Story) (o : OpenedValue) (sent : List Item)
    (id : ProcId) (was : Bool) (st : Option ℕ) : Type 0 where
  anew : o.connection.reselected ≡ false → was ≡ false → st ≡ None → IsAlone s b id → IsFrom s t b o sent id was st
  kept : o.connection.reselected ≡ true → (h : HasProcess s t.processes sent (names_begun t.items) id)
      → IsAsBegun h.process was st → IsFrom s t b o sent id was st

-- It is that of an abort; or its process is not known yet; or it is.
pub data Stage (s : ScenarioValue) (t : TranscriberValue) (b : Story) (o : OpenedValue) (l : Link) (sent : List Item)
    (conn : List Event) : Type 0 where
  of_abort : (m : ℕ) → o.connection.reselected ≡ false → l.item ≡ Some (abort m) → l.undo ≡ None → conn ≡ []
      → are_talk (base_parts o) ≡ true → AreKept s t b sent no_process → Stage s t b o l sent conn
  of_none : o.connection.reselected ≡ true → conn ≡ []
      → are_talk (base_parts o) ≡ true → is_command b.bus_state.bus ≡ false
      → is_status_phase b.bus_state.bus ≡ false → ((m : ℕ) → l.item ≡ Some (abort m) → ⊥)
      → ((id : ProcId) → l.item ≡ Some (process id) → IsBlank (carried_of b.carried id))
      → ((u : CarriedBytes) → l.undo ≡ Some u
      → IsBlank u × AreAlike u (carried_of b.carried u.id) × ((id : ProcId) → l.item ≡ Some (process id) → u.id ≡ id))
      → AreKept s t b sent no_process → Stage s t b o l sent conn
  of_process : (id : ProcId) (back : CarriedBytes) (was : Bool) (st : Option ℕ) → l.item ≡ Some (process id)
      → ((u : CarriedBytes) → l.undo ≡ Some u → u ≡ back) → back.id ≡ id → is_known o b.bus_state.bus ≡ true
      → IsServing o (is_command b.bus_state.bus) id (carried_of b.carried id) back conn b.history was st
      → AreOwnEvents id conn → (are_talk (base_parts o) ≡ true → conn ≡ []) → IsFrom s t b o sent id was st
      → AreKept s t b sent (λ x. same_id x id) → Stage s t b o l sent conn

pub record StandsLinked (s : ScenarioValue) (t : TranscriberValue) (b : Story) : Type 0 where
  pub opened : OpenedValue
  pub link : Link
  pub opened_is : t.opened ≡ Some opened
  pub link_is : b.link ≡ Some link
  pub connection_is : b.bus_state.connection ≡ Some opened.connection
  -- what was sent and told as the connection began, and the events of it, the newest first
  pub sent : List Item
  pub old : List Event
  pub conn : List Event
  pub history_is : b.history ≡ conn ++ old
  pub past : IsPast t.items sent old
  pub begun : IsBegun b opened link sent
  pub stage : Stage s t b opened link sent conn
  -- bytes are of COMMAND and of data, and what is said is of MESSAGE OUT
  pub bytes : (is_command b.bus_state.bus || is_data b.bus_state.bus) ≡ false → opened.bytes ≡ []
  pub said : is_message_out b.bus_state.bus ≡ false → opened.said ≡ []
  pub crossed : (c : Change) → b.bus_state.crossed ≡ Some c → is_command c.before ≡ is_command b.bus_state.bus
  -- no event came since the message that MESSAGE PARITY ERROR would make void
  pub undone : (u : CarriedBytes) → link.undo ≡ Some u → opened.since ≡ [] → IsMarked b.history u

-- ---- all that is known

pub data StandsBy (s : ScenarioValue) (t : TranscriberValue) (b : Story) : Type 0 where
  apart : StandsApart s t b → StandsBy s t b
  linked : StandsLinked s t b → StandsBy s t b

pub record Standing (s : ScenarioValue) (rows : List Row) : Type 0 where
  pub numbered : AreNumbered (transcribed rows).processes (names_begun (transcribed rows).items)
  pub marked : (id : ProcId) → IsMarked (story s rows).history (carried_of (story s rows).carried id)
  pub stands : StandsBy s (transcribed rows) (story s rows)
