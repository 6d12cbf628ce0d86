-- Any row of lines of one end in a phase, a byte crossing or not: what is left outside the phase stays, but what its
-- events lower of it; and the measure falls where what is left of the phase does.
use Rattle.measure_laws.proofs
use proofs.Names.{ℕ, suc, ◌≡◌, ◌≤◌, ◌∙◌, Bool, true, false, List, ◌∷◌, refl, sym, ap, subst, arith, Option, Some, None}
use proofs.Names.{◌&&◌, ◌+◌, ◌*◌, if◌then◌else◌, not, ◌||◌, is_some, LineSet, changes_phase, is_data, is_message_out}
use proofs.Names.{connection_after, Row, Connection, handshakes, ScenarioValue, RowReading, row_reading, command_id}
use proofs.Names.{command_item, Link, Story, story_in_connection, begun, phase_of, run_state_plain, progress_in}
use proofs.Names.{RunState, bus_of, process_served, leaving_of, progress_after, progress_by_leaving, run_state}
use proofs.Names.{served_after, answering_of, offering_of, is_refusing, is_struck_phase, change_plain, EndLines}
use proofs.Names.{connected_bus, row_of_lines, EndRow, turn, is_pulsed, inside_sent, future_left, is_in_data, open_left}
use proofs.Names.{resets_left, serves_item, measure, phases_left, requests_left, sense_bytes_left, struck_left}
use proofs.{Names.{for_byte}, Lines.{Futures.{future_falls, open_of}, Lowers.{Lowers}}, Phases.Calm.{phase_by_lines}}
use proofs.Phases.{Calm.{way_by}, Still.{shape}}

-- ---- what is still to come of the scenario's lines, by the books alone

pub record SameBooks (j k : RunState) : Type 0 where
  pub sent : Lowers k.story.sent j.story.sent
  pub served : j.served ≡ k.served
  pub progress : j.progress ≡ k.progress
  pub faults : j.faults ≡ k.faults
  pub moves : is_in_data j ≡ is_in_data k

pub future_kept : (s : ScenarioValue) (j k : RunState) → SameBooks j k → resets_left j s.resets ≡ resets_left k s.resets
    → future_left s j ≤ future_left s k
future_kept s j k w r = zero_less (future_left s j) (future_left s k) (future_falls s j k 0 (record {
  sent = w.sent;
  «open» = λ n c at o. same_less (open_of s j n c) (open_of s k n c) (λ i. open_left s
      (serves_item (w.served i) (command_item n)) (w.moves i) (progress_in (w.progress i) (command_id n)).runs c);
  resets = none_paid (resets_left j s.resets) (resets_left k s.resets) r;
  faults = w.faults;
}))
  where
    zero_less : (a b : ℕ) → a + 64 * 0 ≤ b → a ≤ b
    zero_less a b h = omega arith

    same_less : (a b : ℕ) → a ≡ b → a ≤ b
    same_less a b h = omega arith

    none_paid : (a b : ℕ) → a ≡ b → a + 0 ≤ b
    none_paid a b h = omega arith

-- ---- a row

pub record Shifts (s : ScenarioValue) (p : List Row) (t d : ℕ) (l : LineSet) (n : Connection) (e f : EndLines)
    (o : LineSet) (u : Bool) : Type 0 where
  pub row : EndRow s p t d l n e f o
  pub begun_is : begun p ≡ true
  pub pulsed_is : is_pulsed p e ≡ u
  pub pulsed_next : is_pulsed (row_of_lines t d l ∷ p) f ≡ u
  pub phase : changes_phase (turn e f o l) ≡ false
  pub same_phase : phase_of (connected_bus f) ≡ phase_of (connected_bus e)
  pub same_data : is_data (connected_bus f) ≡ is_data (connected_bus e)
  pub begins : begun (row_of_lines t d l ∷ p) ≡ begun p
  pub resets : resets_left (run_state s (row_of_lines t d l ∷ p)) s.resets ≡ resets_left (run_state s p) s.resets
  pub sent : Lowers (run_state s p).story.sent (run_state s (row_of_lines t d l ∷ p)).story.sent

pub inside : (s : ScenarioValue) (b : Story) (l : Option Link) (d : RowReading) (row : Row)
    → (story_in_connection s b l d row).sent ≡ b.sent
inside s b None d row = refl
inside s b (Some l) d row = inside_sent s b l d row

pub shift_books : (s : ScenarioValue) (p : List Row) (t d : ℕ)
    (l : LineSet) (n : Connection) (e f : EndLines) (o : LineSet) (u : Bool)
    → Shifts s p t d l n e f o u → SameBooks (run_state s (row_of_lines t d l ∷ p)) (run_state s p)
shift_books s p t d l n e f o u h =
    let row : Row = row_of_lines t d l in
    let q : List Row = row ∷ p in
    let k = run_state s p in
    let j = run_state s q in
    let dv = h.row.devices in
    let pk = run_state_plain s p dv in
    let pj = run_state_plain s q (h.row.below, dv) in
    let r = row_reading k.story.bus_state row in
    let change : r.change ≡ turn e f o l = change_plain s row p dv h.row.below ∙ h.row.moves.change in
    let con = pk.connection ∙ h.row.was.stands.connection_is in
    let next : r.next ≡ Some n =
    (λ i. connection_after (pk.connection i) (pk.call i) (change_plain s row p dv h.row.below i) row)
    ∙ h.row.moves.linked.stands.connection_is in
    let begun_same = pj.begun ∙ h.begins ∙ sym pk.begun in
    let moving : is_data (bus_of j) ≡ is_data (bus_of k) = ap is_data (pj.bus ∙ h.row.moves.linked.stands.bus_is)
    ∙ h.same_data ∙ sym (ap is_data (pk.bus ∙ h.row.was.stands.bus_is)) in
    record {
      sent = h.sent;
      served = λ i. served_after s k (con i) (next i);
      progress = (λ i. progress_after s k r (con i) (next i) (leaving_of s k k.story.bus_state.connection))
          ∙ ap (λ (b : Bool). if b && k.exchange.begun
          then progress_by_leaving k (process_served s k) (leaving_of s k k.story.bus_state.connection) else k.progress)
          (ap changes_phase change ∙ h.phase);
      faults = refl;
      moves = λ i. begun_same i && moving i;
    }

shift_sum : (f g c d e y z : ℕ) → f ≤ g → suc y ≤ z → suc (f + 40 + (c + y + d + e)) ≤ g + 40 + (c + z + d + e)
shift_sum f g c d e y z l h = omega arith

-- The phases after it stay, and what is left of the phase falls.
pub shift_falls : (s : ScenarioValue) (p : List Row) (t d : ℕ) (l : LineSet)
    (n : Connection) (e f : EndLines) (o : LineSet) (u : Bool) → Shifts s p t d l n e f o u
    → phases_left (is_refusing s p) (run_state s (row_of_lines t d l ∷ p))
    ≡ phases_left (is_refusing s p) (run_state s p)
    → suc (for_byte * requests_left s (run_state s (row_of_lines t d l ∷ p)) n.target
    + way_by u f (handshakes (row_of_lines t d l ∷ p)) (offering_of s (run_state s (row_of_lines t d l ∷ p)) n.target)
    (answering_of s (run_state s (row_of_lines t d l ∷ p)) n.initiator))
    ≤ for_byte * requests_left s (run_state s p) n.target
    + way_by u e (handshakes p) (offering_of s (run_state s p) n.target) (answering_of s (run_state s p) n.initiator)
    → suc (measure s (row_of_lines t d l ∷ p)) ≤ measure s p
shift_falls s p t d l n e f o u h phases less =
    let row : Row = row_of_lines t d l in
    let q : List Row = row ∷ p in
    let k = run_state s p in
    let j = run_state s q in
    let dv = h.row.devices in
    let pk = run_state_plain s p dv in
    let pj = run_state_plain s q (h.row.below, dv) in
    let r = row_reading k.story.bus_state row in
    let change : r.change ≡ turn e f o l = change_plain s row p dv h.row.below ∙ h.row.moves.change in
    let ep : changes_phase r.change ≡ false = ap changes_phase change ∙ h.phase in
    let con = pk.connection ∙ h.row.was.stands.connection_is in
    let next : r.next ≡ Some n =
    (λ i. connection_after (pk.connection i) (pk.call i) (change_plain s row p dv h.row.below i) row)
    ∙ h.row.moves.linked.stands.connection_is in
    let struck : is_struck_phase s q ≡ is_struck_phase s p = λ i. is_some (con i)
    && is_some (next i) && not (ep i) && (false || is_struck_phase s p) in
    let refusing : is_refusing s q ≡ is_refusing s p = λ i. is_some (con i) && is_some (next i)
    && (if ep i then r.change.before.io && is_struck_phase s p && is_message_out r.change.after else is_refusing s p) in
    let w = shift_books s p t d l n e f o u h in
    let future = future_kept s j k w h.resets in
    let after_phases : phases_left (is_refusing s q) j ≡ phases_left (is_refusing s p) k =
    ap (λ (b : Bool). phases_left b j) refusing ∙ phases in
    let senses : sense_bytes_left (is_in_data j) j.progress j.served
    ≡ sense_bytes_left (is_in_data k) k.progress k.served = λ i. sense_bytes_left
    (w.moves i) (w.progress i) (w.served i) in
    let before = shape s k (is_struck_phase s p) (is_refusing s p) n
    (ap (λ (v : LineSet). v.rst) (pk.bus ∙ h.row.was.stands.bus_is)) con in
    let after = shape s j (is_struck_phase s q) (is_refusing s q) n
    (ap (λ (v : LineSet). v.rst) (pj.bus ∙ h.row.moves.linked.stands.bus_is))
    (pj.connection ∙ h.row.moves.linked.stands.connection_is) in
    let left = phase_by_lines s p n e u dv h.row.was h.begun_is h.pulsed_is in
    let left_next = phase_by_lines s q n f u
    (h.row.below, dv) h.row.moves.linked (h.begins ∙ h.begun_is) h.pulsed_next in
    let same = after
    ∙ (λ i. future_left s j + 40 + (after_phases i + left_next i + senses i + struck_left s (struck i))) in
    let was = before ∙ (λ i. future_left s k + 40 + (phases_left (is_refusing s p) k + left i
    + sense_bytes_left (is_in_data k) k.progress k.served + struck_left s (is_struck_phase s p))) in
    subst (λ m. suc m ≤ measure s p) (sym same)
    (subst (λ m. suc (future_left s j + 40 + (phases_left (is_refusing s p) k + (for_byte * requests_left s j n.target
    + way_by u f (handshakes q) (offering_of s j n.target) (answering_of s j n.initiator))
    + sense_bytes_left (is_in_data k) k.progress k.served + struck_left s (is_struck_phase s p))) ≤ m)
    (sym was) (shift_sum (future_left s j) (future_left s k) (phases_left (is_refusing s p) k)
    (sense_bytes_left (is_in_data k) k.progress k.served) (struck_left s (is_struck_phase s p)) _ _ future less))
