-- What the books of one process ask of all that is kept.
use Rattle.std.specs.Prelude.{ℕ, Bool, true, false, not, ◌&&◌, ◌||◌, List, [], ◌∷◌, length, Option, Some, None, is_some}
use Rattle.std.specs.Prelude.{nat_lt, if◌then◌else◌}
use Rattle.due_model.specs.bus_base.specs.declared.ProcId.{ProcId}
use Rattle.due_model.specs.msg_grammar.specs.declared.message.MsgIn.{MsgIn}
use Rattle.due_model.specs.msg_grammar.specs.Messages.{in_bytes}
use Rattle.due_model.specs.scenario.specs.declared.value.Policy.{Policy}
use Rattle.due_model.specs.scenario.specs.Value.{ScenarioValue}
use Rattle.due_model.specs.array_model.specs.Processes.{Process}
use Rattle.due_model.specs.array_model.specs.Units.{Array}
use Rattle.due_model.specs.array_model.specs.Steps.{is_waiting, running_process}
use Rattle.due_model.specs.array_model.specs.ArrayHistory.{reply_in}
use Rattle.due_model.specs.story_model.specs.Items.{Item, process, Sent, has_item}
use Rattle.due_model.specs.story_model.specs.CarriedBytes.{CarriedBytes, with_restored_pointers, carried_after_message}
use Rattle.due_model.specs.dialogue_model.specs.declared.exchange.Cause.{Cause}
use Rattle.due_model.specs.dialogue_model.specs.declared.exchange.Cause.TheVariants as causes
use Rattle.due_model.specs.dialogue_model.specs.declared.exchange.Messages.{Messages}
use Rattle.due_model.specs.dialogue_model.specs.declared.exchange.Phase.{Phase}
use Rattle.due_model.specs.dialogue_model.specs.declared.exchange.Phase.TheVariants as phases
use Rattle.due_model.specs.dialogue_model.specs.declared.exchange.Task.{Task}
use Rattle.due_model.specs.dialogue_model.specs.Exchange.{bytes_of_messages}
use Rattle.due_model.specs.dialogue_model.specs.Arrivals.{policy_of}
use Rattle.due_model.specs.dialogue_model.specs.DataRuns.{run_at}
use Rattle.due_model.specs.dialogue_model.specs.NextPhase.{phase_of}
use Rattle.due_model.specs.LastingState.{ProcessProgress, progress_in}
use Rattle.due_model.specs.RunState.{RunState, bus_of, array_of, item_of, carried_here}
use Rattle.due_model.specs.Defs.{target_def_of}
use Rattle.due_model.specs.Tasks.{task_with, reply_now}
use Rattle.due_model.specs.Faithful.{same_process}

-- ---- the messages of the target that are on their way: those that are not whole after so many bytes

abbrev pub first_left : Option MsgIn → ℕ → List MsgIn → List MsgIn
first_left None count rest = rest
first_left (Some m) count rest = if nat_lt count (length (in_bytes m)) then m ∷ rest else rest

abbrev pub second_left : Option MsgIn → ℕ → ℕ → List MsgIn
second_left None count all = []
second_left (Some m) count all = if nat_lt count all then m ∷ [] else []

abbrev pub messages_left : Messages → ℕ → List MsgIn
messages_left m count = first_left m.first count (second_left m.second count (length (bytes_of_messages m)))

-- What they will make of the pointers (6.6.19, 6.6.20).
abbrev pub carried_after_messages : CarriedBytes → List MsgIn → CarriedBytes
carried_after_messages c [] = c
carried_after_messages c (m ∷ messages) = carried_after_messages (carried_after_message c m) messages

-- In MESSAGE IN so many bytes of the messages have crossed; in a MESSAGE OUT that answers them they all come again.
abbrev pub messages_to_come : Phase → Cause → Messages → ℕ → List MsgIn
messages_to_come phases.MessageIn cause messages count = messages_left messages count
messages_to_come phases.MessageOut causes.InMessage messages count = messages_left messages 0
messages_to_come _ _ messages count = []

-- The process that the target serves, as it will be: where the initiator does not know it yet, its pointers will be
-- restored.
abbrev pub carried_once_named : Option Item → CarriedBytes → CarriedBytes
carried_once_named None c = with_restored_pointers c
carried_once_named (Some item) c = c

abbrev pub carried_to_come : RunState → CarriedBytes → CarriedBytes
carried_to_come k c =
    carried_after_messages (carried_once_named (item_of k.story.link) c)
    (messages_to_come (phase_of (bus_of k)) k.exchange.plan.cause k.exchange.plan.messages k.handshakes.requests)

-- ---- the account of a process

abbrev pub is_served_by : Option Item → ProcId → Bool
is_served_by served id = same_process (Some (process id)) served

abbrev pub is_open_in : Sent → ProcId → Bool
is_open_in b id = has_item b.sent (process id) && not (has_item b.over (process id))

-- Waiting, or current, or outside the queues.
abbrev pub is_in_array : Array → ProcId → Bool
is_in_array a id = is_waiting a.units id || is_some (running_process a id)

pub record Account : Type 0 where
  pub array : Array
  pub progress : ProcessProgress
  -- what it carried, where it is served with what the messages on their way will make of it
  pub carried : CarriedBytes
  pub sent : Sent
  pub served : Option Item

abbrev pub account_of : ScenarioValue → RunState → ProcId → Account
account_of s k id = record {
  array = array_of s k;
  progress = progress_in k.progress id;
  carried = if is_served_by k.served id then carried_to_come k (carried_here k id) else carried_here k id;
  sent = k.story.sent;
  served = k.served;
}

abbrev pub policy_for : ScenarioValue → Process → Policy
policy_for s p = policy_of (target_def_of s p.target)

abbrev pub task_in : Account → Process → Task
task_in a p = task_with a.array a.progress p a.carried (reply_now a.array p) (reply_in a.array.replies p.id)

-- Where its next run begins, and the bytes that it moves.
abbrev pub next_start : ScenarioValue → Account → Process → ℕ
next_start s a p = (run_at (policy_for s p) (task_in a p) a.progress.runs).start

abbrev pub content_by : Bool → List ℕ → List ℕ → List ℕ
content_by true sent given = sent
content_by false sent given = given

abbrev pub content_of : Account → Process → List ℕ
content_of a p = content_by (task_in a p).writes p.sent (reply_now a.array p).bytes
