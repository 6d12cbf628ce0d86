-- What the place of a process asks of a row with which its phase stays: all of it but the status with which it ends
-- (6.6.5).
use Rattle.trace_laws.proofs
use proofs.Names.{◌≡◌, true, false, ◌==◌, ◌∙◌, List, ◌∷◌, Some, slice_index, ProcId, changes_phase, Row, Change}
use proofs.Names.{Connection, ScenarioValue, Obeys, reply_in, Reply, is_completion, process, Link, IsPrompt, RunState}
use proofs.Names.{array_of, carried_here, run_state, GoesOn, least_is, Stood, NextStood, TellFacts, CloseFacts}
use proofs.{Closes.Stays.{said_then, once_taken, attends_after}, Places.Stays.{IsStayAsked}}

-- As the initiator takes COMMAND COMPLETE the status that was carried is that of the reply.
abbrev pub CompletesAsGiven : ScenarioValue → RunState → Row → Type 0
CompletesAsGiven s k row = (n : Connection) (c : Change) (l : Link) → GoesOn s k row n c
    → changes_phase c ≡ false → k.story.link ≡ Some l → is_completion l c ≡ true → (id : ProcId) (reply : Reply)
    → k.served ≡ Some (process id) → reply_in (array_of s k).replies id ≡ Some reply
    → (reply.status == slice_index (carried_here k id).status.bytes 0) ≡ true

pub stay_asked : (s : ScenarioValue) (p : List Row) (row : Row) (n : Connection) (c : Change) (l : Link)
    → Obeys s → IsPrompt s (row ∷ p) → Stood s p → NextStood s p row → TellFacts s p → CloseFacts s p
    → CompletesAsGiven s (run_state s p) row → GoesOn s (run_state s p) row n c → changes_phase c ≡ false
    → (run_state s p).story.link ≡ Some l → IsStayAsked s (run_state s p) c l
stay_asked s p row n c l o prompt was next facts closes gives g ep link = record {
  messages = λ done. (said_then s p row n c l was facts.served facts.last g link done).0;
  next = λ done. (said_then s p row n c l was facts.served facts.last g link done).1;
  once = λ done. once_taken s p row n c l (least_is s p row prompt.1).inside was next facts.served facts.last closes g
      link done;
  status = λ done id reply served given. gives n c l g ep link done id reply served given;
  attends = λ here m some low. attends_after s p row n c o prompt was closes g here m some ∙ low;
}
