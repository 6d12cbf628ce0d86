-- No row of a prompt trace takes a byte of data back: what MESSAGE PARITY ERROR brings back of a process has the bytes
-- of data that it has (6.6.13).
use Rattle.std.proofs.Common.{◌≡◌, Bool, true, false, List, [], ◌∷◌, Option, Some, None, refl, ap}
use Rattle.std.specs.Prelude.{if◌then◌else◌}
use Rattle.std.proofs.lemmas.Bool.{and_from}
use Rattle.bus_trace.specs.declared.Row.{Row}
use Rattle.due_model.specs.msg_grammar.specs.declared.message.MsgOut.{MsgOut}
use Rattle.scenario.specs.Value.{ScenarioValue}
use Rattle.scenario.specs.Writing.{Obeys}
use Rattle.due_model.specs.story_model.specs.BusState.{row_reading}
use Rattle.due_model.specs.story_model.specs.CarriedBytes.{CarriedBytes}
use Rattle.due_model.specs.story_model.specs.Links.{Link}
use Rattle.due_model.specs.story_model.specs.TraceHistory.{is_parity_error}
use Rattle.due_model.specs.Next.{IsPrompt}
use Rattle.due_model.specs.RunState.{RunState}
use Rattle.due_model.specs.RunSteps.{run_state}
use Rattle.delivery_laws.specs.trace_laws.proofs.Whole.{Whole, standing_next, whole}
use Rattle.delivery_laws.specs.right_laws.specs.Loads.{Load, UndoesLoads}
use Rattle.delivery_laws.specs.right_laws.proofs.Ran.Carried.{same_is}
use Rattle.delivery_laws.specs.right_laws.proofs.Ran.Undone.{load_asks}
use Rattle.delivery_laws.proofs.Replies.Ends.{undo_loads}
use Rattle.initiator.specs.Received.{has_bytes_of, undone_by, undoes_no_byte}

bytes_undone : (s : ScenarioValue) (k : RunState) (row : Row) → UndoesLoads k row
    → has_bytes_of k.story.carried (undone_by k.story.link (row_reading k.story.bus_state row).out) ≡ true
bytes_undone s k row undoes = go k.story.link refl (row_reading k.story.bus_state row).out refl
  where
    undone : (l : Link) (m : MsgOut) → k.story.link ≡ Some l → (row_reading k.story.bus_state row).out ≡ Some m
        → is_parity_error m ≡ true → (u : Option CarriedBytes) → l.undo ≡ u → has_bytes_of k.story.carried u ≡ true
    undone l m e f g None z = refl
    undone l m e f g (Some u) z = same_is u.moved.bytes _ (ap (λ (x : Load). x.moved) (undoes l m u e f g z))

    by : (l : Link) (m : MsgOut) → k.story.link ≡ Some l → (row_reading k.story.bus_state row).out ≡ Some m
        → (q : Bool) → is_parity_error m ≡ q → has_bytes_of k.story.carried (if q then l.undo else None) ≡ true
    by l m e f true g = undone l m e f g l.undo refl
    by l m e f false g = refl

    go : (x : Option Link) → k.story.link ≡ x → (y : Option MsgOut) → (row_reading k.story.bus_state row).out ≡ y
        → has_bytes_of k.story.carried (undone_by x y) ≡ true
    go None e y f = refl
    go (Some l) e None f = refl
    go (Some l) e (Some m) f = by l m e f (is_parity_error m) refl

pub no_byte_undone : (s : ScenarioValue) (p : List Row) → Obeys s → IsPrompt s p → undoes_no_byte s p ≡ true
no_byte_undone s [] o prompt = refl
no_byte_undone s (row ∷ p) o prompt =
    let w : Whole s p = whole s p o prompt.0 in
    and_from _ (undoes_no_byte s p) (bytes_undone s (run_state s p) row
    (load_asks s p row w.stood (standing_next s p row o prompt w) (undo_loads s p o prompt.0)))
    (no_byte_undone s p o prompt.0)
