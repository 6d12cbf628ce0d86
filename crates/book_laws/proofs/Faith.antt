-- What a row of a connection tells is what was to be said.
use Rattle.book_laws.proofs
use proofs.Names.{ℕ, ◌≡◌, inl, inr, Bool, true, false, not, ◌&&◌, ◌||◌, ◌∙◌, Option, Some, None, refl, sym, ap}
use proofs.Names.{true≢false, if◌then◌else◌, is_some, ◌%◌, ◌==◌, slice_index_or, eq_self, unless, LineSet}
use proofs.Names.{changes_phase, is_message_out, is_data, Row, Connection, ScenarioValue, Process, row_reading, Item}
use proofs.Names.{process, abort, policy_of, run_at, phase_of, Phase, Task, target_def_of, same_process}
use proofs.Names.{is_known_process, is_true_leaving, is_sent_at, is_true_crossing, is_true_beginning, is_true_hearing}
use proofs.Names.{is_faithful, RunState, bus_of, item_of, process_item, process_here, process_served, carried_here}
use proofs.Names.{task_of, AreUnits, is_data_out, AllCarryOwn, SendsOwn, is_in_phase, is_out_phase, HasPhase}
use proofs.{Names.{LeavesWhole, MovesRuns, Knows, Speaks}, Carried.Commands.{block_own}, Common.Lookups.{self_id}}
use proofs.Said.Leavings.{opening_named}

-- ---- phases

pub out_lines : (b : LineSet) → phase_of b ≡ Phase.MessageOut → (b.msg ≡ true → b.cd ≡ true) → is_message_out b ≡ true
out_lines b e h = go b.msg b.cd b.io (ap is_out_phase e) h
  where
    go : (m c i : Bool) → is_out_phase (if m then (if i then Phase.MessageIn else Phase.MessageOut)
        else if c then (if i then Phase.Status else Phase.Command) else if i then Phase.DataIn else Phase.DataOut)
        ≡ true → (m ≡ true → c ≡ true) → (m && c && not i) ≡ true
    go true true true z g = z
    go true true false z g = refl
    go true false i z g = absurd (true≢false (sym (g refl)))
    go false true true z g = z
    go false true false z g = z
    go false false true z g = z
    go false false false z g = z

data_lines : (b : LineSet) → phase_of b ≡ Phase.DataOut → is_data b ≡ true
data_lines b e = go b.msg b.cd b.io (ap is_data_out e)
  where
    go : (m c i : Bool) → is_data_out (if m then (if i then Phase.MessageIn else Phase.MessageOut)
        else if c then (if i then Phase.Status else Phase.Command) else if i then Phase.DataIn else Phase.DataOut)
        ≡ true → (not m && not c) ≡ true
    go true c true z = z
    go true c false z = z
    go false true true z = z
    go false true false z = z
    go false false true z = refl
    go false false false z = refl

-- ---- the process

pub same_self : (item : Option Item) → same_process item item ≡ true
same_self None = refl
same_self (Some (process id)) = self_id id
same_self (Some (abort n)) = eq_self n

linked_item : (s : ScenarioValue) (k : RunState) (n : Connection) (h : Knows s k n)
    → (n.reselected ≡ true → is_some (item_of k.story.link) ≡ true) → item_of k.story.link ≡ k.served
linked_item s k n h named = elim h.item_is [
  | inl e ↦ ap item_of h.link_is ∙ e
  | inr e ↦ absurd (true≢false (sym (named e.0) ∙ ap (λ (x : Option Item). is_some x) (ap item_of h.link_is ∙ e.1)))
]

known_as : (k : RunState) → item_of k.story.link ≡ k.served → same_process k.served (item_of k.story.link) ≡ true
known_as k e = ap (same_process k.served) e ∙ same_self k.served

known_left : (s : ScenarioValue) (k : RunState) (n : Connection) → Knows s k n → LeavesWhole s k n
    → (phase : Phase) → phase_of (bus_of k) ≡ phase → is_known_process k phase ≡ true
known_left s k n h w Phase.MessageOut e = refl
known_left s k n h w Phase.MessageIn e =
    unless (bus_of k).atn (same_process k.served (item_of k.story.link)) (λ f. known_as k
    (linked_item s k n h (λ r. w.named r (ap is_out_phase e) ((λ i. is_in_phase (e i) && (bus_of k).atn) ∙ f))))
known_left s k n h w _ e =
    known_as k (linked_item s k n h (λ r. w.named r (ap is_out_phase e) (λ i. is_in_phase (e i) && (bus_of k).atn)))

-- ---- a phase is left

block_left : (s : ScenarioValue) (k : RunState) (n : Connection) → AllCarryOwn s k → LeavesWhole s k n
    → phase_of (bus_of k) ≡ Phase.Command → (t : Option Process) → process_served s k ≡ t
    → is_true_leaving s k t Phase.Command ≡ true
block_left s k n c w e None f = refl
block_left s k n c w e (Some t) f = let b = w.command t f e in block_own s k t c f b.0 b.1

said_left : (s : ScenarioValue) (k : RunState) (n : Connection) → AreUnits s → Speaks s k n → AllCarryOwn s k
    → LeavesWhole s k n → HasPhase k → k.exchange.begun ≡ true → (phase : Phase) → phase_of (bus_of k) ≡ phase
    → is_true_leaving s k (process_served s k) phase ≡ true
said_left s k n u h c w lines eb Phase.MessageOut e =
    opening_named s k n u h eb (out_lines (bus_of k) e (λ m. (lines m).0)) (w.out e)
said_left s k n u h c w lines eb Phase.Command e = block_left s k n c w e (process_served s k) refl
said_left s k n u h c w lines eb _ e = refl

-- ---- a byte crosses

sent_at : (s : ScenarioValue) (k : RunState) (row : Row) (n : Connection) (c : Process) → Knows s k n
    → SendsOwn s k row → MovesRuns s k n → process_served s k ≡ Some c → phase_of (bus_of k) ≡ Phase.DataOut
    → (row_reading k.story.bus_state row).crosses ≡ true → (t : Option Task) → task_of s k ≡ t
    → is_sent_at s k c t ((row_reading k.story.bus_state row).change.after.data_bits % 256) ≡ true
sent_at s k row n c h sends runs ep e ec None et = refl
sent_at s k row n c h sends runs ep e ec (Some t) et =
    let r = runs c t ep et e in
    let here : process_here s k ≡ Some c = ap (process_item s) (linked_item s k n h r.named) ∙ ep in
    let y = (sends c here ec).moved (data_lines (bus_of k) e) r.writes in
    let start : ℕ = (run_at (policy_of (target_def_of s c.target)) t t.runs).start in
    let byte : ℕ = (row_reading k.story.bus_state row).change.after.data_bits % 256 in
    (λ i. y.0 i == slice_index_or c.sent (sym r.active_is i) 0)
    ∙ eq_self (slice_index_or c.sent (carried_here k c.id).moved.active 0)

crossed : (s : ScenarioValue) (k : RunState) (row : Row) (n : Connection) → Knows s k n
    → SendsOwn s k row → MovesRuns s k n → (row_reading k.story.bus_state row).crosses ≡ true
    → (c : Option Process) → process_served s k ≡ c → (phase : Phase) → phase_of (bus_of k) ≡ phase
    → is_true_crossing s k c ((row_reading k.story.bus_state row).change.after.data_bits % 256) phase ≡ true
crossed s k row n h sends runs ec (Some c) ep Phase.DataOut e =
    sent_at s k row n c h sends runs ep e ec (task_of s k) refl
crossed s k row n h sends runs ec _ ep _ e = refl

-- ---- a row, with which the connection goes on or ends

pub row_is_faithful : (s : ScenarioValue) (k : RunState) (row : Row) (n : Connection) → AreUnits s
    → Speaks s k n → Knows s k n → AllCarryOwn s k → HasPhase k → k.story.bus_state.connection ≡ Some n
    → SendsOwn s k row → ((row_reading k.story.bus_state row).crosses ≡ true → MovesRuns s k n)
    → (changes_phase (row_reading k.story.bus_state row).change ≡ true → LeavesWhole s k n)
    → is_faithful s k (row_reading k.story.bus_state row) ≡ true
row_is_faithful s k row n u speaks knows carry lines con sends runs leaves =
    (λ i. is_true_beginning s k (con i) (row_reading k.story.bus_state row).next
    && ((row_reading k.story.bus_state row).change.after.rst
    || is_true_hearing s k (row_reading k.story.bus_state row)))
    ∙ unless (row_reading k.story.bus_state row).change.after.rst
    (is_true_hearing s k (row_reading k.story.bus_state row)) (λ e. hearing (row_reading k.story.bus_state row).crosses
    refl (changes_phase (row_reading k.story.bus_state row).change) refl k.exchange.begun refl)
  where
    hearing : (q : Bool) → (row_reading k.story.bus_state row).crosses ≡ q
        → (r : Bool) → changes_phase (row_reading k.story.bus_state row).change ≡ r → (b : Bool) → k.exchange.begun ≡ b
        → (if q then is_true_crossing s k (process_served s k)
        ((row_reading k.story.bus_state row).change.after.data_bits % 256) (phase_of (bus_of k)) else if r && b
        then is_known_process k (phase_of (bus_of k)) && is_true_leaving s k (process_served s k) (phase_of (bus_of k))
        else true) ≡ true
    hearing true ec r er b eb =
        crossed s k row n knows sends (runs ec) ec (process_served s k) refl (phase_of (bus_of k)) refl
    hearing false ec true er true eb = (λ i. known_left s k n knows (leaves er) (phase_of (bus_of k)) refl i
        && is_true_leaving s k (process_served s k) (phase_of (bus_of k)))
        ∙ said_left s k n u speaks carry (leaves er) lines eb (phase_of (bus_of k)) refl
    hearing false ec true er false eb = refl
    hearing false ec false er b eb = refl
