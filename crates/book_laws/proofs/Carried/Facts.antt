-- After any rows each process has carried its own bytes alone, where each byte that crosses is the one at its pointer.
use Rattle.book_laws.proofs
use proofs.Names.{◌≡◌, ◌∙◌, List, [], ◌∷◌, Option, Some, None, sym, ap, subst, ◌<◌, length, ◌%◌, slice_index_or, ProcId}
use proofs.Names.{Row, ScenarioValue, Process, process_of, carried_id, RowReading, row_reading, carried_of, process}
use proofs.Names.{Link, RunState, item_of, process_item, process_here, run_state, run_state_after, IsOwn, AllCarryOwn}
use proofs.{Names.{SendsNext, SendsOwn, AllSendOwn}, Carried.Crossings.{restored_own, refused_own, shown_own}}
use proofs.Carried.{Crossings.{fault_own, message_own, IsNext, byte_own, nothing_own}, Steps.{IsKept, no_link}}
use proofs.Carried.Steps.{row_carried}
pub use Rattle.due_model.specs.array_model.proofs.SoundArrays.{id_is as process_id}

pub process_none : (c : Process) → (let a : Option Process = None in a) ≡ Some c → ⊥
process_none c e = cc

sends : (s : ScenarioValue) (k : RunState) (l : Link) (d : RowReading) (id : ProcId) → k.story.link ≡ Some l
    → l.item ≡ Some (process id) → ((c : Process) → process_here s k ≡ Some c → SendsNext s k c d)
    → (c : Process) → process_of s (carried_of k.story.carried id).id ≡ Some c
    → IsNext (carried_of k.story.carried id) c d.change.before (d.change.after.data_bits % 256)
sends s k l d id el ei next c e =
    let own : process_of s id ≡ Some c = ap (process_of s) (sym (carried_id k.story.carried id)) ∙ e in
    let here : process_here s k ≡ Some c = ap (λ (x : Option Link). process_item s (item_of x)) el
    ∙ ap (process_item s) ei ∙ own in
    let same : c.id ≡ id = process_id s id c own in
    let n = next c here in
    record {
      command = λ q. subst (λ (x : ProcId).
          (d.change.after.data_bits % 256 ≡ slice_index_or c.cdb (carried_of k.story.carried x).command.active 0)
          × ((carried_of k.story.carried x).command.active < length c.cdb)) same (n.command q);
      moved = λ q w. subst (λ (x : ProcId).
          (d.change.after.data_bits % 256 ≡ slice_index_or c.sent (carried_of k.story.carried x).moved.active 0)
          × ((carried_of k.story.carried x).moved.active < length c.sent)) same (n.moved q w);
    }

own_kept : (s : ScenarioValue) → IsKept (IsOwn s)
own_kept s = record {
  restored = restored_own s;
  told = message_own s;
  faulted = fault_own s;
  refused = refused_own s;
  shown = shown_own s;
}

pub carry_on : (s : ScenarioValue) (k : RunState) (row : Row) → SendsOwn s k row → AllCarryOwn s k
    → AllCarryOwn s (run_state_after s k row)
carry_on s k row next h =
    let d : RowReading = row_reading k.story.bus_state row in
    let on = row_carried (IsOwn s) (own_kept s) s k row (λ l id el ei crosses own. byte_own s
    (carried_of k.story.carried id) d.change.before (d.change.after.data_bits % 256)
    (sends s k l d id el ei (λ p here. next p here crosses)) own) (record { each = h.each; undone = h.undone }) in
    record { each = on.each; undone = on.undone }

pub all_carry : (s : ScenarioValue) (rows : List Row) → AllSendOwn s rows → AllCarryOwn s (run_state s rows)
all_carry s [] h = record { each = λ id. nothing_own s id; undone = no_link (IsOwn s) }
all_carry s (row ∷ rows) h = carry_on s (run_state s rows) row h.1 (all_carry s rows h.0)
