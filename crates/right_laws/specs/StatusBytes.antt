-- What a process has carried of its status, by the phase of its connection: nothing before it has a reply; one byte
-- once STATUS was given; and as STATUS comes again the pointer stands at its beginning (6.4, 6.6.5, 6.6.10, 6.6.19).
use Rattle.std.specs.Prelude.{ℕ, ◌≡◌, ◌⊎◌, true, false, ◌==◌, List, [], ◌∷◌, Some, is_some, ⊤}
use Rattle.due_model.specs.bus_base.specs.declared.ProcId.{ProcId}
use Rattle.due_model.specs.bus_trace.specs.Terms.{connection}
use Rattle.due_model.specs.bus_trace.specs.Trace.{bus}
use Rattle.due_model.specs.bus_trace.specs.declared.Row.{Row}
use Rattle.due_model.specs.bus_trace.specs.declared.connection.Connection.{Connection}
use Rattle.due_model.specs.msg_grammar.specs.declared.message.MsgIn.TheVariants as to_initiator
use Rattle.due_model.specs.scenario.specs.Value.{ScenarioValue}
use Rattle.due_model.specs.array_model.specs.ArrayHistory.{reply_in}
use Rattle.due_model.specs.story_model.specs.CarriedBytes.{CarriedBytes}
use Rattle.due_model.specs.story_model.specs.Items.{process}
use Rattle.due_model.specs.dialogue_model.specs.declared.exchange.Cause.{Cause}
use Rattle.due_model.specs.dialogue_model.specs.declared.exchange.Cause.TheVariants as causes
use Rattle.due_model.specs.dialogue_model.specs.declared.exchange.Messages.{Messages}
use Rattle.due_model.specs.dialogue_model.specs.declared.exchange.Next.{Next}
use Rattle.due_model.specs.dialogue_model.specs.declared.exchange.Next.TheVariants as nexts
use Rattle.due_model.specs.dialogue_model.specs.declared.exchange.Phase.{Phase}
use Rattle.due_model.specs.dialogue_model.specs.declared.exchange.Phase.TheVariants as phases
use Rattle.due_model.specs.dialogue_model.specs.declared.exchange.Plan.{Plan}
use Rattle.due_model.specs.dialogue_model.specs.Exchange.{one_message}
use Rattle.due_model.specs.dialogue_model.specs.NextPhase.{phase_of}
use Rattle.due_model.specs.RunState.{RunState, array_of, bus_of, carried_here}
use Rattle.due_model.specs.RunSteps.{run_state}

abbrev pub HasOne : CarriedBytes → Type 0
HasOne c = (status : ℕ) × (c.status.bytes ≡ status ∷ [])

abbrev pub IsSmall : CarriedBytes → Type 0
IsSmall c = (c.status.bytes ≡ []) ⊎ HasOne c

-- A byte of STATUS would be the first, or come in its place.
abbrev pub IsReady : CarriedBytes → Type 0
IsReady c = (c.status.bytes ≡ []) ⊎ (HasOne c × (c.status.active ≡ 0))

-- Where these messages are said, and this follows.
pub record StatusSays (c : CarriedBytes) (m : Messages) (next : Next) : Type 0 where
  pub completes : m ≡ one_message to_initiator.CommandComplete → HasOne c
  pub again : next ≡ nexts.Status → (m ≡ one_message to_initiator.RestorePointers) × IsSmall c

abbrev pub StatusAsked : CarriedBytes → Plan → Cause → Type 0
StatusAsked c p causes.Selected = ⊤
StatusAsked c p causes.InMessage = StatusSays c p.messages p.next
StatusAsked c p causes.InData = ⊤
StatusAsked c p causes.InStatus = HasOne c

abbrev pub StatusBy : CarriedBytes → Plan → ℕ → Phase → Type 0
StatusBy c p count phases.Status = ((count == 0) ≡ true → IsReady c) × ((count == 0) ≡ false → HasOne c)
StatusBy c p count phases.MessageIn =
    StatusSays c p.messages p.next × (p.next ≡ nexts.Status → (count == 0) ≡ false → IsReady c)
StatusBy c p count phases.MessageOut = StatusAsked c p p.cause
StatusBy c p count phases.Command = ⊤
StatusBy c p count phases.DataIn = ⊤
StatusBy c p count phases.DataOut = ⊤

abbrev pub StatusTalks : RunState → Type 0
StatusTalks k = (id : ProcId) → k.served ≡ Some (process id) → k.exchange.begun ≡ true
    → StatusBy (carried_here k id) k.exchange.plan k.handshakes.requests (phase_of (bus_of k))

pub record StatusFacts (s : ScenarioValue) (rows : List Row) : Type 0 where
  pub empty : (id : ProcId) → is_some (reply_in (array_of s (run_state s rows)).replies id) ≡ false
      → (carried_here (run_state s rows) id).status.bytes ≡ []
  pub talks : (n : Connection) → connection rows ≡ Some n → (bus rows).rst ≡ false → StatusTalks (run_state s rows)
