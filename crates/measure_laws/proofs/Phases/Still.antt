-- In a connection the measure falls with a row that begins, carries and tells nothing, where what is left of the phase
-- does.
use Rattle.measure_laws.proofs
use proofs.Names.{ℕ, suc, ◌≡◌, ◌≤◌, ◌<◌, ◌∙◌, Bool, true, false, List, ◌∷◌, length, refl, sym, ap, subst, arith, Option}
use proofs.Names.{Some, None, ◌&&◌, ◌+◌, ◌*◌, ◌==◌, if◌then◌else◌, not, ◌||◌, is_some, nat_lt, rises, LineSet}
use proofs.Names.{changes_phase, is_data, is_message_out, connection, receiver_in, bus, free_time, Row, Connection}
use proofs.Names.{answered_if, asked_if, handshakes, stage_by, dialogue, ScenarioValue, Process, row_reading}
use proofs.Names.{carried_of, Answering, Offering, policy_of, is_pulsed_phase, bytes_of_messages, begun, phase_of}
use proofs.Names.{run_length_if, run_state_plain, keeps_wishes, target_def_of, progress_in, AreOfDevices, RunState}
use proofs.Names.{bus_of, or_start, process_item, run_state, answering_of, offering_of, reply_now, task_if, task_of}
use proofs.Names.{task_with, IsStill, Wishes, wishes_of, is_refusing, is_struck_phase, EndLines, Linked, connected_bus}
use proofs.Names.{initiator_side, target_side, row_of_lines, initiator_in_phase, phase_same, target_in_phase, ends}
use proofs.Names.{EndRow, dialogue_stays, initiator_end, still_row, target_end, turn, is_pulsed, is_unasked}
use proofs.Names.{future_left, is_in_data, resets_left, connection_if, measure, measure_by, bytes_if_begun}
use proofs.Names.{connection_left, is_asked, phase_left, phases_in, phases_left, requests_by, requests_left}
use proofs.Names.{sense_bytes_left, struck_left, under_way, stage_left, for_byte, for_phase, for_reselection}
use proofs.{Lines.Still.{future_same}, Phases.Shakes.{ack_ends, gives, req_ends, way}, Resets.Counts.{resets_stay}}
use Rattle.due_model.specs.array_model.specs.ArrayHistory as Play

pub record StaysIn (s : ScenarioValue) (p : List Row) (row : Row) (n : Connection) : Type 0 where
  pub below : row.dev < 8
  pub devices : AreOfDevices p
  pub still : IsStill s p row
  pub connection_is : connection p ≡ Some n
  pub next_is : connection (row ∷ p) ≡ Some n
  pub calm : (bus p).rst ≡ false
  pub calm_next : (bus (row ∷ p)).rst ≡ false
  pub phase : phase_of (bus (row ∷ p)) ≡ phase_of (bus p)
  pub moving : is_data (bus (row ∷ p)) ≡ is_data (bus p)
  pub resets : resets_left (run_state s (row ∷ p)) s.resets ≡ resets_left (run_state s p) s.resets

pub shape : (s : ScenarioValue) (k : RunState) (a b : Bool) (n : Connection) → (bus_of k).rst ≡ false
    → k.story.bus_state.connection ≡ Some n → measure_by s k a b ≡ future_left s k + 40
    + (phases_left b k + phase_left s k n + sense_bytes_left (is_in_data k) k.progress k.served + struck_left s a)
shape s k a b n off con = λ i. future_left s k
    + stage_left k (stage_by (off i) k.ages.rst (con i) k.story.bus_state.call k.arbitration (free_time k.ages))
    + connection_left s k a b (connection_if (off i) (con i))

falls_by : (f c d e y z : ℕ) → suc y ≤ z → suc (f + 40 + (c + y + d + e)) ≤ f + 40 + (c + z + d + e)
falls_by f c d e y z h = omega arith

pub still_falls : (s : ScenarioValue) (p : List Row) (row : Row) (n : Connection) → StaysIn s p row n
    → suc (phase_left s (run_state s (row ∷ p)) n) ≤ phase_left s (run_state s p) n
    → suc (measure s (row ∷ p)) ≤ measure s p
still_falls s p row n h less =
    let k = run_state s p in
    let j = run_state s (row ∷ p) in
    let pk = run_state_plain s p h.devices in
    let pj = run_state_plain s (row ∷ p) (h.below, h.devices) in
    let w = keeps_wishes s p row h.still in
    let con = pk.connection ∙ h.connection_is in
    let next = h.still.connection ∙ con in
    let phase : phase_of (bus_of j) ≡ phase_of (bus_of k) = ap phase_of pj.bus ∙ h.phase ∙ sym (ap phase_of pk.bus) in
    let moving : is_data (bus_of j) ≡ is_data (bus_of k) = ap is_data pj.bus ∙ h.moving ∙ sym (ap is_data pk.bus) in
    let moves : is_in_data j ≡ is_in_data k = λ i. (w i).exchange.begun && moving i in
    let read = row_reading k.story.bus_state row in
    let struck : is_struck_phase s (row ∷ p) ≡ is_struck_phase s p = λ i. is_some (con i)
    && is_some (next i) && not (h.still.phase i) && (h.still.lines i || is_struck_phase s p) in
    let refusing : is_refusing s (row ∷ p) ≡ is_refusing s p = λ i. is_some (con i) && is_some (next i)
    && (if h.still.phase i then read.change.before.io && is_struck_phase s p && is_message_out read.change.after
    else is_refusing s p) in
    let future = future_same s j k w moves h.resets in
    let phases : phases_left (is_refusing s (row ∷ p)) j ≡ phases_left (is_refusing s p) k =
    λ i. if (w i).exchange.begun then phases_in (refusing i) (w i).exchange.plan (phase i)
    else for_reselection + 8 * for_phase in
    let senses : sense_bytes_left (is_in_data j) j.progress j.served
    ≡ sense_bytes_left (is_in_data k) k.progress k.served = λ i. sense_bytes_left
    (moves i) (w i).progress (w i).served in
    let before = shape s k (is_struck_phase s p) (is_refusing s p) n
    (ap (λ (l : LineSet). l.rst) pk.bus ∙ h.calm) con in
    let after = shape s j (is_struck_phase s (row ∷ p)) (is_refusing s (row ∷ p)) n
    (ap (λ (l : LineSet). l.rst) pj.bus ∙ h.calm_next) (pj.connection ∙ h.next_is) in
    let same = after ∙ (λ i. future i + 40 + (phases i + phase_left s j n + senses i + struck_left s (struck i))) in
    subst (λ m. suc m ≤ measure s p) (sym same)
    (subst (λ m. suc (future_left s k + 40 + (phases_left (is_refusing s p) k + phase_left s j n
    + sense_bytes_left (is_in_data k) k.progress k.served + struck_left s (is_struck_phase s p))) ≤ m) (sym before)
    (falls_by (future_left s k) (phases_left (is_refusing s p) k) (sense_bytes_left (is_in_data k) k.progress k.served)
    (struck_left s (is_struck_phase s p)) (phase_left s j n) (phase_left s k n) less))

-- ---- the phase

pub task_on : (s : ScenarioValue) (j k : RunState) → wishes_of j ≡ wishes_of k
    → (o : Option Process) → task_if s j o ≡ task_if s k o
task_on s j k w None = refl
task_on s j k w (Some p) =
    λ i. Some (task_with (or_start s (w i).array) (progress_in (w i).progress p.id) p (carried_of (w i).carried p.id)
    (reply_now (or_start s (w i).array) p) (Play.reply_in (or_start s (w i).array).replies p.id))

pub task_same : (s : ScenarioValue) (j k : RunState) → wishes_of j ≡ wishes_of k → task_of s j ≡ task_of s k
task_same s j k w =
    task_on s j k w (process_item s j.served) ∙ ap (λ (x : Wishes). task_if s k (process_item s x.served)) w

-- As many requests are left in the phase.
pub requests_same : (s : ScenarioValue) (j k : RunState) (target : ℕ) → wishes_of j ≡ wishes_of k
    → j.handshakes ≡ k.handshakes → phase_of (bus_of j) ≡ phase_of (bus_of k)
    → is_asked (bus_of j) ≡ is_asked (bus_of k) → requests_left s j target ≡ requests_left s k target
requests_same s j k target w h e a =
    let t = task_same s j k w in
    λ i. requests_by (w i).exchange.plan.struck (a i) (h i) (w i).exchange.speech
    (length (bytes_of_messages (w i).exchange.plan.messages)) (run_length_if (policy_of (target_def_of s target)) (t i))
    (e i)

-- What is left of a phase byte by byte, by the lines.
pub phase_shape : (s : ScenarioValue) (p : List Row) (n : Connection) (e : EndLines)
    → AreOfDevices p → Linked p n e → begun p ≡ true → is_pulsed p e ≡ false
    → phase_left s (run_state s p) n ≡ for_byte * requests_left s (run_state s p) n.target
    + way e (handshakes p) (offering_of s (run_state s p) n.target) (answering_of s (run_state s p) n.initiator)
phase_shape s p n e dv h b u =
    let k = run_state s p in
    let a = run_state_plain s p dv in
    let bg = a.begun ∙ b in
    let on = a.bus ∙ h.stands.bus_is in
    let unpulsed : is_pulsed_phase k.exchange.begun (bus_of k) k.story.bus_state.dialogue.heard.now.agreement ≡ false =
    (λ i. is_pulsed_phase (bg i) (on i) (a.dialogue i).heard.now.agreement) ∙ u in
    let target = a.drives n.target h.target_below ∙ h.target in
    let initiator = a.drives n.initiator h.initiator_below ∙ h.initiator in
    λ i. bytes_if_begun (bg i) (requests_left s k n.target) + under_way (unpulsed i) (on i) (a.handshakes i) (target i)
    (initiator i) (offering_of s k n.target) (answering_of s k n.initiator)

pub less_way : (b x y : ℕ) → suc x ≤ y → suc (b + x) ≤ b + y
less_way b x y h = omega arith

pub receiver_none : (n : Connection) (e f : EndLines) (o l : LineSet) → rises e.req f.req ≡ false
    → rises e.ack f.ack ≡ false → receiver_in n (turn e f o l) ≡ None
receiver_none n e f o l r a = go e.io
  where
    go : (q : Bool) → (if q then (if rises e.req f.req then Some n.initiator else None)
        else (if rises e.ack f.ack then Some n.target else None)) ≡ None
    go true = λ i. if r i then Some n.initiator else None
    go false = λ i. if a i then Some n.target else None

-- ---- a row of one end with which neither REQ nor ACK rises

pub record Quiets (s : ScenarioValue) (p : List Row) (t d : ℕ) (l : LineSet) (n : Connection) (e f : EndLines)
    (o : LineSet) : Type 0 where
  pub row : EndRow s p t d l n e f o
  pub begun_is : begun p ≡ true
  pub unpulsed : is_pulsed p e ≡ false
  pub phase : changes_phase (turn e f o l) ≡ false
  pub same_phase : phase_of (connected_bus f) ≡ phase_of (connected_bus e)
  pub same_data : is_data (connected_bus f) ≡ is_data (connected_bus e)
  pub asked : (f.req && not f.ack) ≡ (e.req && not e.ack)
  pub req : rises e.req f.req ≡ false
  pub ack : rises e.ack f.ack ≡ false
  pub begins : begun (row_of_lines t d l ∷ p) ≡ begun p
  pub hand : handshakes (row_of_lines t d l ∷ p)
      ≡ answered_if (rises e.ack f.ack) t (asked_if (rises e.req f.req) t (handshakes p))
  pub resets : resets_left (run_state s (row_of_lines t d l ∷ p)) s.resets ≡ resets_left (run_state s p) s.resets
  pub falls : (g b : Offering) (a c : Answering) → suc (way f (handshakes p) b c) ≤ way e (handshakes p) g a

pub quiet_falls :
    (s : ScenarioValue) (p : List Row) (t d : ℕ) (l : LineSet) (n : Connection) (e f : EndLines) (o : LineSet)
    → Quiets s p t d l n e f o → suc (measure s (row_of_lines t d l ∷ p)) ≤ measure s p
quiet_falls s p t d l n e f o h =
    let row : Row = row_of_lines t d l in
    let q : List Row = row ∷ p in
    let j = run_state s q in
    let k = run_state s p in
    let dv = h.row.devices in
    let lines = h.row.was.stands.bus_is in
    let next = h.row.moves.linked.stands.bus_is in
    let none = receiver_none n e f o l h.req h.ack in
    let still = still_row s p t d l n e f o h.row h.phase none h.ack in
    let hand : handshakes q ≡ handshakes p = h.hand
    ∙ (λ i. answered_if (h.ack i) t (asked_if (h.req i) t (handshakes p))) in
    let stays : StaysIn s p row n = record {
      below = h.row.below;
      devices = dv;
      still = still;
      connection_is = h.row.was.stands.connection_is;
      next_is = h.row.moves.linked.stands.connection_is;
      calm = ap (λ (v : LineSet). v.rst) lines;
      calm_next = ap (λ (v : LineSet). v.rst) next;
      phase = ap phase_of next ∙ h.same_phase ∙ sym (ap phase_of lines);
      moving = ap is_data next ∙ h.same_data ∙ sym (ap is_data lines);
      resets = h.resets;
    } in
    let pk = run_state_plain s p dv in
    let pj = run_state_plain s q (h.row.below, dv) in
    let w = keeps_wishes s p row still in
    let phase : phase_of (bus_of j) ≡ phase_of (bus_of k) = ap phase_of pj.bus
    ∙ stays.phase ∙ sym (ap phase_of pk.bus) in
    let asked : is_asked (bus_of j) ≡ is_asked (bus_of k) = ap is_asked (pj.bus ∙ next)
    ∙ h.asked ∙ sym (ap is_asked (pk.bus ∙ lines)) in
    let requests = requests_same s j k n.target w (pj.handshakes ∙ hand ∙ sym pk.handshakes) phase asked in
    let talk = dialogue_stays s p t d l n e f o h.row h.phase none in
    let agreed : is_pulsed q f ≡ false = (λ i. is_pulsed_phase true (connected_bus f) (talk i).heard.now.agreement)
    ∙ ap (λ (x : Bool). x && nat_lt 0 (dialogue p).heard.now.agreement.offset) h.same_data ∙ h.unpulsed in
    let before = phase_shape s p n e dv h.row.was h.begun_is h.unpulsed in
    let after = phase_shape s q n f (h.row.below, dv) h.row.moves.linked (h.begins ∙ h.begun_is) agreed in
    let gj = offering_of s j n.target in
    let aj = answering_of s j n.initiator in
    let same = after ∙ (λ i. for_byte * requests i + way f (hand i) gj aj) in
    still_falls s p row n stays (subst (λ v. suc v ≤ phase_left s k n) (sym same)
    (subst (λ v. suc (for_byte * requests_left s k n.target + way f (handshakes p) gj aj) ≤ v)
    (sym before) (less_way (for_byte * requests_left s k n.target) (way f (handshakes p) gj aj)
    (way e (handshakes p) (offering_of s k n.target) (answering_of s k n.initiator))
    (h.falls (offering_of s k n.target) gj (answering_of s k n.initiator) aj))))

-- The target ends REQ.
pub req_ends_falls : (s : ScenarioValue) (p : List Row) (t : ℕ) (n : Connection) (atn msg cd io : Bool) (x y z : ℕ)
    → AreOfDevices p → Linked p n (ends false true atn x msg cd io true y) → begun p ≡ true
    → is_unasked p ≡ false → is_pulsed p (ends false true atn x msg cd io true y) ≡ false
    → suc (measure s (row_of_lines t n.target (target_side (ends false true atn x msg cd io false z)) ∷ p))
    ≤ measure s p
req_ends_falls s p t n atn msg cd io x y z dv h b asked u =
    let e : EndLines = ends false true atn x msg cd io true y in
    let f : EndLines = ends false true atn x msg cd io false z in
    let r = target_in_phase p n e false z t h in
    quiet_falls s p t n.target (target_side f) n e f (target_side e)
    (record {
      row = target_end s p t n e msg cd io false z dv h;
      begun_is = b;
      unpulsed = u;
      phase = phase_same e false true atn x false z (target_side e) (target_side f);
      same_phase = refl;
      same_data = refl;
      asked = refl;
      req = refl;
      ack = refl;
      begins = r.begun_is;
      hand = r.handshakes_are;
      resets = resets_stay s p t n.target (target_side f) s.resets dv h.target_below
          (ap (λ (v : LineSet). v.rst) h.target) refl;
      falls = λ g f a c. req_ends atn msg cd io x y z (handshakes p) g f a c asked;
    })

-- The initiator ends ACK.
pub ack_ends_falls : (s : ScenarioValue) (p : List Row) (t : ℕ) (n : Connection) (atn msg cd io : Bool) (x y : ℕ)
    → AreOfDevices p → Linked p n (ends false true atn x msg cd io false y) → begun p ≡ true
    → is_unasked p ≡ false → is_pulsed p (ends false true atn x msg cd io false y) ≡ false
    → suc (measure s (row_of_lines t n.initiator (initiator_side (ends false false atn 0 msg cd io false y)) ∷ p))
    ≤ measure s p
ack_ends_falls s p t n atn msg cd io x y dv h b asked u =
    let e : EndLines = ends false true atn x msg cd io false y in
    let f : EndLines = ends false false atn 0 msg cd io false y in
    let r = initiator_in_phase p n e false false atn 0 t h in
    quiet_falls s p t n.initiator (initiator_side f) n e f (initiator_side e)
    (record {
      row = initiator_end s p t n e false false atn 0 dv h;
      begun_is = b;
      unpulsed = u;
      phase = phase_same e false false atn 0 false y (initiator_side e) (initiator_side f);
      same_phase = refl;
      same_data = refl;
      asked = refl;
      req = refl;
      ack = refl;
      begins = r.begun_is;
      hand = r.handshakes_are;
      resets = resets_stay s p t n.initiator (initiator_side f) s.resets dv h.initiator_below
          (ap (λ (v : LineSet). v.rst) h.initiator) refl;
      falls = λ g f a c. ack_ends atn msg cd io x y (handshakes p) g f a c asked;
    })

-- The initiator drives its byte.
pub gives_falls : (s : ScenarioValue) (p : List Row) (t : ℕ) (n : Connection) (atn to msg cd : Bool) (x : ℕ)
    → AreOfDevices p → Linked p n (ends false false atn 0 msg cd false true 0) → begun p ≡ true
    → is_pulsed p (ends false false atn 0 msg cd false true 0) ≡ false → (x == 0) ≡ false
    → suc (measure s (row_of_lines t n.initiator (initiator_side (ends false false to x msg cd false true 0)) ∷ p))
    ≤ measure s p
gives_falls s p t n atn to msg cd x dv h b u some =
    let e : EndLines = ends false false atn 0 msg cd false true 0 in
    let f : EndLines = ends false false to x msg cd false true 0 in
    let r = initiator_in_phase p n e false false to x t h in
    quiet_falls s p t n.initiator (initiator_side f) n e f (initiator_side e)
    (record {
      row = initiator_end s p t n e false false to x dv h;
      begun_is = b;
      unpulsed = u;
      phase = phase_same e false false to x true 0 (initiator_side e) (initiator_side f);
      same_phase = refl;
      same_data = refl;
      asked = refl;
      req = refl;
      ack = refl;
      begins = r.begun_is;
      hand = r.handshakes_are;
      resets = resets_stay s p t n.initiator (initiator_side f) s.resets dv h.initiator_below
          (ap (λ (v : LineSet). v.rst) h.initiator) refl;
      falls = λ g f a c. gives atn to msg cd x (handshakes p) g f a c some;
    })
