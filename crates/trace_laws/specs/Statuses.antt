-- The status area of a process: each of its bytes is the status of the reply that the plain disk array has given, and
-- it has none before a reply was given; and where COMMAND COMPLETE is said it has one (6.1.5, 6.4, 6.6.5).
use Rattle.std.specs.Prelude.{ℕ, ◌≡◌, ◌⊎◌, ◌==◌, true, false, List, [], ◌∷◌, length, Option, Some, None, ⊤}
use Rattle.due_model.specs.bus_base.specs.declared.ProcId.{ProcId}
use Rattle.due_model.specs.scenario.specs.Value.{ScenarioValue}
use Rattle.due_model.specs.array_model.specs.ArrayHistory.{reply_in}
use Rattle.due_model.specs.array_model.specs.Execution.{Reply}
use Rattle.due_model.specs.story_model.specs.CarriedBytes.{CarriedBytes}
use Rattle.due_model.specs.story_model.specs.Items.{process}
use Rattle.due_model.specs.story_model.specs.Links.{Link}
use Rattle.due_model.specs.dialogue_model.specs.declared.exchange.Phase.{Phase}
use Rattle.due_model.specs.dialogue_model.specs.declared.exchange.Plan.{Plan}
use Rattle.due_model.specs.dialogue_model.specs.Exchange.{one_message}
use Rattle.due_model.specs.dialogue_model.specs.NextPhase.{phase_of}
use Rattle.due_model.specs.RunState.{RunState, array_of, bus_of, carried_here}
use Rattle.due_model.specs.msg_grammar.specs.declared.message.MsgIn.TheVariants as to_initiator
use Rattle.due_model.specs.dialogue_model.specs.declared.exchange.Cause.TheVariants as causes
use Rattle.due_model.specs.dialogue_model.specs.declared.exchange.Phase.TheVariants as phases

-- ---- its bytes

-- Each byte of an area is this.
abbrev pub AreAll : ℕ → List ℕ → Type 0
AreAll x [] = ⊤
AreAll x (b ∷ bytes) = (b ≡ x) × AreAll x bytes

abbrev pub IsStatusOf : Option Reply → List ℕ → Type 0
IsStatusOf None bytes = bytes ≡ []
IsStatusOf (Some reply) bytes = AreAll reply.status bytes

abbrev pub IsStatusIn : ScenarioValue → RunState → ProcId → List ℕ → Type 0
IsStatusIn s k id bytes = IsStatusOf (reply_in (array_of s k).replies id) bytes

-- Of each process; and of what MESSAGE PARITY ERROR would bring back (6.6.13).
pub record StatusAreas (s : ScenarioValue) (k : RunState) : Type 0 where
  pub areas : (id : ProcId) → IsStatusIn s k id (carried_here k id).status.bytes
  pub undone : (l : Link) (u : CarriedBytes) → k.story.link ≡ Some l → l.undo ≡ Some u
      → IsStatusIn s k u.id u.status.bytes

-- ---- of the process that is served: a byte has crossed

abbrev pub HasStatus : List ℕ → Type 0
HasStatus bytes = (length bytes == 0) ≡ false

abbrev pub UndoesStatus : Option CarriedBytes → Type 0
UndoesStatus None = ⊤
UndoesStatus (Some u) = HasStatus u.status.bytes

-- COMMAND COMPLETE is said after STATUS, and again where it was refused.
abbrev pub CarriesBy : Link → List ℕ → Plan → ℕ → Phase → Type 0
CarriesBy l bytes p count phases.Status = (count == 0) ≡ false → HasStatus bytes
CarriesBy l bytes p count phases.MessageIn =
    p.messages ≡ one_message to_initiator.CommandComplete → HasStatus bytes × ((count ≡ 0) ⊎ UndoesStatus l.undo)
CarriesBy l bytes p count phases.MessageOut = p.cause ≡ causes.InMessage
    → p.messages ≡ one_message to_initiator.CommandComplete → HasStatus bytes × UndoesStatus l.undo
CarriesBy l bytes p count phases.Command = ⊤
CarriesBy l bytes p count phases.DataIn = ⊤
CarriesBy l bytes p count phases.DataOut = ⊤

abbrev pub StatusTalks : RunState → Type 0
StatusTalks k =
    (l : Link) (id : ProcId) → k.story.link ≡ Some l → k.served ≡ Some (process id) → k.exchange.begun ≡ true
    → CarriesBy l (carried_here k id).status.bytes k.exchange.plan k.handshakes.requests (phase_of (bus_of k))
