-- A row within a data phase tells no event; so the run that is moved stays the same, and what the target gives.
use Rattle.link_laws.proofs
use proofs.Names.{ℕ, ◌≡◌, ◌<◌, Bool, false, not, ◌&&◌, ◌∙◌, List, [], ◌∷◌, Option, Some, None, refl, sym, ap, ◌+◌}
use proofs.Names.{if◌then◌else◌, is_some, and_false, Event, change_of, rises, falls, changes_phase, connection}
use proofs.Names.{connection_after, is_fault, receiver_in, receiver_of, Row, Change, Connection, ScenarioValue, Policy}
use proofs.Names.{Process, RowReading, row_reading, carried_of, row_events_by, link_events, connection_events}
use proofs.Names.{bus_free_events, phase_events, is_completion, is_complete, end_events, carried_if, Item, Link, Story}
use proofs.Names.{policy_of, run_length, run_byte, run_length_if, data_byte, run_state_plain, keeps_wishes}
use proofs.Names.{target_def_of, progress_in, AreOfDevices, RunState, or_start, process_served, process_item, item_of}
use proofs.Names.{process_here, run_state, array_after_events, served_after, progress_after, progress_by_leaving}
use proofs.Names.{leaving_of, sending_by, sending_of, task_if, task_with, reply_now, given_if, IsStill, Wishes}
use proofs.Names.{change_plain, run_count, byte_in_run}
use Rattle.due_model.specs.array_model.specs.ArrayHistory as Play

-- The row leaves the phase lines as they are, in a data phase of this connection.
pub record DataRow (p : List Row) (row : Row) (n : Connection) (c : Change) : Type 0 where
  pub devices : AreOfDevices p
  pub below : row.dev < 8
  pub before : connection p ≡ Some n
  pub after : connection (row ∷ p) ≡ Some n
  pub change : change_of p row ≡ c
  pub calm : c.after.rst ≡ false
  pub phase : changes_phase c ≡ false
  pub in_data : c.before.msg ≡ false

read_is : (s : ScenarioValue) (p : List Row) (row : Row) (n : Connection) (c : Change) → DataRow p row n c
    → (row_reading (run_state s p).story.bus_state row).change ≡ c
read_is s p row n c h = change_plain s row p h.devices h.below ∙ h.change

stood_is : (s : ScenarioValue) (p : List Row) (row : Row) (n : Connection) (c : Change) → DataRow p row n c
    → (run_state s p).story.bus_state.connection ≡ Some n
stood_is s p row n c h = (run_state_plain s p h.devices).connection ∙ h.before

next_is : (s : ScenarioValue) (p : List Row) (row : Row) (n : Connection) (c : Change) → DataRow p row n c
    → (row_reading (run_state s p).story.bus_state row).next ≡ Some n
next_is s p row n c h =
    let pl = run_state_plain s p h.devices in
    (λ i. connection_after (pl.connection i) (pl.call i) ((change_plain s row p h.devices h.below) i) row) ∙ h.after

tells_nothing : (s : ScenarioValue) (b : Story) (link : Option Link) (d : RowReading) (n : Connection) (c : Change)
    → d.next ≡ Some n → d.change ≡ c → changes_phase c ≡ false → c.before.msg ≡ false → link_events s b link d ≡ []
tells_nothing s b None d n c e f g m = refl
tells_nothing s b (Some l) d n c e f g m =
    ap (λ (x : Option Connection). if is_some x then connection_events s b l d else bus_free_events s l l.last) e
    ∙ (λ i. if changes_phase (f i) then phase_events s b (carried_if b l.item) (f i)
    else if is_completion l (f i) then end_events (carried_if b l.item) else [])
    ∙ ap (λ (q : Bool). if q then phase_events s b (carried_if b l.item) c
    else if is_completion l c then end_events (carried_if b l.item) else []) g
    ∙ ap (λ (q : Bool). if q then end_events (carried_if b l.item) else []) (incomplete l)
  where
    incomplete : (l : Link) → is_completion l c ≡ false
    incomplete l = (λ i. rises c.before.ack c.after.ack
        && (m i && c.before.cd && c.before.io) && is_complete l.last && not c.after.atn)
        ∙ ap (λ (q : Bool). q && is_complete l.last && not c.after.atn) (and_false (rises c.before.ack c.after.ack))

pub no_events : (s : ScenarioValue) (p : List Row) (row : Row) (n : Connection) (c : Change) → DataRow p row n c
    → row_events_by s (run_state s p).story (row_reading (run_state s p).story.bus_state row) row ≡ []
no_events s p row n c h =
    let k = run_state s p in
    let d = row_reading k.story.bus_state row in
    let e = read_is s p row n c h in
    ap (λ (q : Bool). if q then (if rises d.change.own.rst d.change.next.rst then Event.Reset row.dev ∷ [] else [])
    else link_events s k.story k.story.link d) (ap (λ (x : Change). x.after.rst) e ∙ h.calm)
    ∙ tells_nothing s k.story k.story.link d n c (next_is s p row n c h) e h.phase h.in_data

-- What the target serves, and how far it has come, stays.
pub record KeepsRun (k j : RunState) : Type 0 where
  pub array : j.array ≡ k.array
  pub served : j.served ≡ k.served
  pub progress : j.progress ≡ k.progress

pub run_stays : (s : ScenarioValue) (p : List Row) (row : Row) (n : Connection) (c : Change) → DataRow p row n c
    → KeepsRun (run_state s p) (run_state s (row ∷ p))
run_stays s p row n c h =
    let k = run_state s p in
    let d = row_reading k.story.bus_state row in
    let con = stood_is s p row n c h in
    let next = next_is s p row n c h in
    record {
      array = ap (λ (x : List Event). array_after_events s k.array x) (no_events s p row n c h);
      served = λ i. served_after s k (con i) (next i);
      progress = (λ i. progress_after s k d (con i) (next i) (leaving_of s k k.story.bus_state.connection))
          ∙ ap (λ (q : Bool). if q && k.exchange.begun
          then progress_by_leaving k (process_served s k) (leaving_of s k k.story.bus_state.connection) else k.progress)
          (ap changes_phase (read_is s p row n c h) ∙ h.phase);
    }

length_by : (s : ScenarioValue) (policy : Policy) (k j : RunState) (o : Option Process) → j.array ≡ k.array
    → j.progress ≡ k.progress → run_length_if policy (task_if s j o) ≡ run_length_if policy (task_if s k o)
length_by s policy k j None ea ep = refl
length_by s policy k j (Some p) ea ep =
    λ i. run_length policy (task_with (or_start s (ea i)) (progress_in (ep i) p.id) p (carried_of j.story.carried p.id)
    (reply_now (or_start s (ea i)) p) (Play.reply_in (or_start s (ea i)).replies p.id))

bytes_by : (s : ScenarioValue) (policy : Policy) (k j : RunState) (o : Option Process) (place : ℕ)
    → j.array ≡ k.array → j.progress ≡ k.progress → data_byte policy (task_if s j o) (given_if s j o) 0 place
    ≡ data_byte policy (task_if s k o) (given_if s k o) 0 place
bytes_by s policy k j None place ea ep = refl
bytes_by s policy k j (Some p) place ea ep = λ i. run_byte policy
    (task_with (or_start s (ea i)) (progress_in (ep i) p.id) p (carried_of j.story.carried p.id)
    (reply_now (or_start s (ea i)) p) (Play.reply_in (or_start s (ea i)).replies p.id))
    (reply_now (or_start s (ea i)) p).bytes ((progress_in (ep i) p.id).runs + 0) place

pub count_stays : (s : ScenarioValue) (p : List Row) (row : Row) (n : Connection) (c : Change) → DataRow p row n c
    → run_count s (row ∷ p) n ≡ run_count s p n
count_stays s p row n c h =
    let g = run_stays s p row n c h in
    ap (λ (x : Option Item). run_length_if (policy_of (target_def_of s n.target))
    (task_if s (run_state s (row ∷ p)) (process_item s x))) g.served
    ∙ length_by s (policy_of (target_def_of s n.target)) (run_state s p) (run_state s (row ∷ p))
    (process_served s (run_state s p)) g.array g.progress

pub bytes_stay : (s : ScenarioValue) (p : List Row) (row : Row) (n : Connection) (c : Change) (place : ℕ)
    → DataRow p row n c → byte_in_run s (row ∷ p) n place ≡ byte_in_run s p n place
bytes_stay s p row n c place h =
    let g = run_stays s p row n c h in
    ap (λ (x : Option Item). data_byte (policy_of (target_def_of s n.target))
    (task_if s (run_state s (row ∷ p)) (process_item s x))
    (given_if s (run_state s (row ∷ p)) (process_item s x)) 0 place) g.served
    ∙ bytes_by s (policy_of (target_def_of s n.target)) (run_state s p) (run_state s (row ∷ p))
    (process_served s (run_state s p)) place g.array g.progress

-- ---- where no byte crosses either, what the initiator gives stays

pub data_still : (s : ScenarioValue) (p : List Row) (row : Row) (n : Connection) (c : Change) → DataRow p row n c
    → is_fault row.kind ≡ false → falls c.before.sel c.after.sel ≡ false → receiver_in n c ≡ None → IsStill s p row
data_still s p row n c h lines sel none =
    let e = read_is s p row n c h in
    record {
      lines = lines;
      reset = ap (λ (x : Change). x.after.rst) e ∙ h.calm;
      connection = next_is s p row n c h ∙ sym (stood_is s p row n c h);
      phase = ap changes_phase e ∙ h.phase;
      calling = ap (λ (x : Change). falls x.before.sel x.after.sel) e ∙ sel;
      carries = (λ i. is_some (receiver_of (stood_is s p row n c h i) (e i))) ∙ ap (λ (x : Option ℕ). is_some x) none;
      tells = no_events s p row n c h;
    }

sending_by_same : (k j : RunState) (o : Option Process) → j.story.carried ≡ k.story.carried
    → sending_by j o ≡ sending_by k o
sending_by_same k j None e = refl
sending_by_same k j (Some p) e = λ i. record {
  cdb = p.cdb;
  sent = p.sent;
  command = (carried_of (e i) p.id).command.active;
  moved = (carried_of (e i) p.id).moved.active;
}

pub sending_stays : (s : ScenarioValue) (p : List Row) (row : Row) → IsStill s p row
    → sending_of s (run_state s (row ∷ p)) ≡ sending_of s (run_state s p)
sending_stays s p row h =
    let w = keeps_wishes s p row h in
    ap (λ (x : Wishes). sending_by (run_state s (row ∷ p)) (process_item s (item_of x.link))) w
    ∙ sending_by_same (run_state s p) (run_state s (row ∷ p)) (process_here s (run_state s p))
    (ap (λ (x : Wishes). x.carried) w)
