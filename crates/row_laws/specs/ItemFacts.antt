-- What holds of the items after any rows of a prompt trace.
use Rattle.std.specs.Prelude.{List, None, Option, Some, [], false, true, ℕ, ⊤, ◌<◌, ◌==◌, ◌∷◌, ◌≡◌}
use Rattle.due_model.specs.bus_base.specs.declared.ProcId.{ProcId}
use Rattle.due_model.specs.LastingState.{ProcessProgress, progress_in}
use Rattle.due_model.specs.RunState.{RunState, array_of, bus_of}
use Rattle.due_model.specs.RunSteps.{run_state}
use Rattle.due_model.specs.story_model.specs.CarriedBytes.{CarriedBytes, carried_at}
use Rattle.due_model.specs.story_model.specs.Items.{Item, Sent, abort, command_item, has_item, is_clash, is_done}
use Rattle.due_model.specs.story_model.specs.Items.{is_open}
use Rattle.due_model.specs.story_model.specs.Items.{may_send}
use Rattle.due_model.specs.story_model.specs.Items.{open_from, process, sense_from, sense_item}
use Rattle.due_model.specs.story_model.specs.Links.{Link, is_open_sense}
use Rattle.due_model.specs.story_model.specs.Story.{Story}
use Rattle.due_model.specs.story_model.specs.TraceHistory.{aim_of}
use Rattle.due_model.specs.bus_trace.specs.Terms.{arbitration, call, connection}
use Rattle.due_model.specs.bus_trace.specs.Trace.{bus, drives}
use Rattle.due_model.specs.bus_trace.specs.declared.Row.{Row}
use Rattle.due_model.specs.bus_trace.specs.declared.arbitration.Arbitration.{Arbitration}
use Rattle.due_model.specs.bus_trace.specs.declared.connection.Connection.{Connection}
use Rattle.due_model.specs.bus_trace.specs.declared.selection.Call.{Call}
use Rattle.due_model.specs.array_model.specs.Processes.{Process, command_at, process_of}
use Rattle.due_model.specs.array_model.specs.Units.{RunningProcess, UnitState}
use Rattle.due_model.specs.array_model.specs.Seats.{is_initiator}
use Rattle.due_model.specs.scenario.specs.Value.{ScenarioValue}
use Rattle.due_model.specs.scenario.specs.declared.value.CmdDef.{CmdDef}
use Rattle.std.specs.List.{list_any}
use Rattle.row_laws.specs.ItemTalks.{Talks}

-- What an initiator sends next: an abort, the automatic REQUEST SENSE of a command that ended with CHECK CONDITION, or
-- a command of its own that may be sent beside those that are open, where no REQUEST SENSE is to be sent before it. It
-- was neither sent nor given up.
pub data IsNext (s : ScenarioValue) (b : Sent) (dev : ℕ) : Item → Type 0 where
  is_abort : (m : ℕ) → is_done b (abort m) ≡ false → IsNext s b dev (abort m)
  is_sense : (m : ℕ) (c : CmdDef) → command_at s.commands m ≡ Some c → c.host ≡ dev
      → list_any (λ k. k == m) b.checks ≡ true → is_done b (sense_item m) ≡ false
      → IsNext s b dev (process (record { command = m; sense = true }))
  is_command : (m time : ℕ) (c : CmdDef) → command_at s.commands m ≡ Some c → c.host ≡ dev
      → is_done b (command_item m) ≡ false → may_send s time (open_from b dev 1 s.commands) c ≡ true
      → sense_from s b dev b.checks ≡ None → IsNext s b dev (process (record { command = m; sense = false }))

-- Two open commands of one initiator that would be confused are one.
abbrev pub NoClash : ScenarioValue → Sent → Type 0
NoClash s b = (i m : ℕ) (c d : CmdDef) → command_at s.commands i ≡ Some c → command_at s.commands m ≡ Some d
    → c.host ≡ d.host → is_open b i ≡ true → is_open b m ≡ true → is_clash c d ≡ true → i ≡ m

-- What the device entered arbitration for, if anything, is what it sends next.
abbrev pub IsAimed : ScenarioValue → RunState → ℕ → Type 0
IsAimed s k dev = (item : Item) → aim_of k.story.aims dev ≡ Some item → IsNext s k.story.sent dev item

-- Of the contenders, and of the caller.
pub record AimsFit (s : ScenarioValue) (p : List Row) : Type 0 where
  pub contends : (dev : ℕ) (a : Arbitration) → dev < 8 → arbitration p ≡ Some a → (drives p dev).bsy ≡ true
      → is_initiator s.hosts dev ≡ true → IsAimed s (run_state s p) dev
  pub calls : (c : Call) → call p ≡ Some c → is_initiator s.hosts c.caller ≡ true → IsAimed s (run_state s p) c.caller

-- The item of a link, and the process whose bytes MESSAGE PARITY ERROR brings back, were sent.
pub record LinkSent (sent : List Item) (l : Link) : Type 0 where
  pub item : (i : Item) → l.item ≡ Some i → has_item sent i ≡ true
  pub undo : (c : CarriedBytes) → l.undo ≡ Some c → has_item sent (process c.id) ≡ true

abbrev pub LinksSent : List Item → Option Link → Type 0
LinksSent sent link = (l : Link) → link ≡ Some l → LinkSent sent l

-- Only what was sent is carried, or has a connection.
pub record SentOnly (b : Story) : Type 0 where
  pub carried : (id : ProcId) → has_item b.sent.sent (process id) ≡ false → carried_at b.carried id ≡ None
  pub link : LinksSent b.sent.sent b.link

-- The processes that wait at units, and the current ones, are such.
abbrev pub AllP : (Process → Type 0) → List Process → Type 0
AllP q [] = ⊤
AllP q (c ∷ waiting) = q c × AllP q waiting

abbrev pub RunsP : (Process → Type 0) → Option RunningProcess → Type 0
RunsP q None = ⊤
RunsP q (Some r) = q r.process

abbrev pub UnitsP : (Process → Type 0) → List UnitState → Type 0
UnitsP q [] = ⊤
UnitsP q (u ∷ units) = (AllP q u.waiting × RunsP q u.current) × UnitsP q units

-- Commands that ended with CHECK CONDITION are over.
abbrev pub AreChecked : Sent → Type 0
AreChecked b = (m : ℕ) → list_any (λ k. k == m) b.checks ≡ true → has_item b.over (command_item m) ≡ true

-- A command in a queue of the plain disk array: of the scenario, sent and not over.
pub record IsQueued (s : ScenarioValue) (b : Sent) (c : Process) : Type 0 where
  pub is : process_of s c.id ≡ Some c
  pub command : c.id.sense ≡ false
  pub sent : has_item b.sent (process c.id) ≡ true
  pub opens : has_item b.over (process c.id) ≡ false

-- An automatic REQUEST SENSE that was sent is that of a command that ended with CHECK CONDITION.
pub record IsChecked (s : ScenarioValue) (b : Sent) (m : ℕ) : Type 0 where
  pub def : CmdDef
  pub def_is : command_at s.commands m ≡ Some def
  pub checked : list_any (λ k. k == m) b.checks ≡ true

abbrev pub no_progress : ProcId → ProcessProgress
no_progress id = record { id = id; runs = 0; recoveries = 0 }

-- What was carried, is served and stands in a queue was sent, and what stands in a queue is open; open commands of one
-- initiator do not clash; an automatic REQUEST SENSE is open only while it is served.
pub record Items (s : ScenarioValue) (k : RunState) : Type 0 where
  pub apart : k.story.bus_state.connection ≡ None → (k.story.link ≡ None) × (k.served ≡ None)
  pub only : SentOnly k.story
  pub clash : NoClash s k.story.sent
  pub checked : AreChecked k.story.sent
  pub checks : (n : ℕ) → has_item k.story.sent.sent (sense_item n) ≡ true → IsChecked s k.story.sent n
  pub queued : UnitsP (IsQueued s k.story.sent) (array_of s k).units
  pub served : (i : Item) → k.served ≡ Some i → has_item k.story.sent.sent i ≡ true
  pub senses : (n : ℕ) → is_open_sense k.story.sent n ≡ true
      → (k.served ≡ Some (sense_item n)) × ((bus_of k).rst ≡ false)
  pub progress : (id : ProcId) → has_item k.story.sent.sent (process id) ≡ false
      → progress_in k.progress id ≡ no_progress id
  pub talks : (n : Connection) → k.story.bus_state.connection ≡ Some n → (bus_of k).rst ≡ false → Talks s k n

-- And while no connection stands what a contender calls for is what it sends next.
pub record ItemFacts (s : ScenarioValue) (p : List Row) : Type 0 where
  pub items : Items s (run_state s p)
  pub aims : connection p ≡ None → (bus p).rst ≡ false → AimsFit s p
