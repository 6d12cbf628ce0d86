-- Rows of one end in a phase with which neither REQ nor ACK rises, byte by byte or by pulses: what the two ends know
-- stays, and the measure falls where what is under way does.
use Rattle.measure_laws.proofs
use proofs.Names.{ℕ, suc, ◌≡◌, ◌≤◌, ◌∙◌, Bool, true, false, List, ◌∷◌, refl, sym, ap, subst, ◌&&◌, ◌+◌, ◌*◌, not}
use proofs.Names.{nat_lt, rises, LineSet, changes_phase, is_data, Row, Connection, Handshakes, answered_if, asked_if}
use proofs.Names.{handshakes, dialogue, ScenarioValue, Answering, Offering, is_pulsed_phase, begun, phase_of}
use proofs.Names.{run_state_plain, keeps_wishes, AreOfDevices, bus_of, run_state, answering_of, offering_of, IsStill}
use proofs.Names.{EndLines, Linked, connected_bus, initiator_side, target_side, row_of_lines, initiator_in_phase}
use proofs.Names.{no_rise, phase_same, target_in_phase, ends, offset_here, EndRow, dialogue_stays, initiator_end}
use proofs.Names.{still_row, target_end, turn, is_pulsed, resets_left, measure, bytes_if_begun, is_asked, phase_left}
use proofs.{Names.{requests_left, under_way, for_byte}, Phases.Still.{StaysIn, less_way, receiver_none, requests_same}}
use proofs.{Phases.Still.{still_falls}, Resets.Counts.{resets_stay}}

-- What is under way, by the lines, byte by byte or by pulses.
abbrev pub way_by : Bool → EndLines → Handshakes → Offering → Answering → ℕ
way_by u e h g a = under_way u (connected_bus e) h (target_side e) (initiator_side e) g a

pub phase_by_lines : (s : ScenarioValue) (p : List Row) (n : Connection) (e : EndLines) (u : Bool)
    → AreOfDevices p → Linked p n e → begun p ≡ true → is_pulsed p e ≡ u
    → phase_left s (run_state s p) n ≡ for_byte * requests_left s (run_state s p) n.target
    + way_by u e (handshakes p) (offering_of s (run_state s p) n.target) (answering_of s (run_state s p) n.initiator)
phase_by_lines s p n e u dv h b z =
    let k = run_state s p in
    let a = run_state_plain s p dv in
    let bg = a.begun ∙ b in
    let on = a.bus ∙ h.stands.bus_is in
    let pulsed : is_pulsed_phase k.exchange.begun (bus_of k) k.story.bus_state.dialogue.heard.now.agreement ≡ u =
    (λ i. is_pulsed_phase (bg i) (on i) (a.dialogue i).heard.now.agreement) ∙ z in
    let target = a.drives n.target h.target_below ∙ h.target in
    let initiator = a.drives n.initiator h.initiator_below ∙ h.initiator in
    λ i. bytes_if_begun (bg i) (requests_left s k n.target) + under_way (pulsed i) (on i) (a.handshakes i) (target i)
    (initiator i) (offering_of s k n.target) (answering_of s k n.initiator)

-- ---- such a row

pub record Calm (s : ScenarioValue) (p : List Row) (t d : ℕ) (l : LineSet) (n : Connection) (e f : EndLines)
    (o : LineSet) (u : Bool) : Type 0 where
  pub row : EndRow s p t d l n e f o
  pub begun_is : begun p ≡ true
  pub pulsed_is : is_pulsed p e ≡ u
  pub phase : changes_phase (turn e f o l) ≡ false
  pub same_phase : phase_of (connected_bus f) ≡ phase_of (connected_bus e)
  pub same_data : is_data (connected_bus f) ≡ is_data (connected_bus e)
  pub req : rises e.req f.req ≡ false
  pub ack : rises e.ack f.ack ≡ false
  pub begins : begun (row_of_lines t d l ∷ p) ≡ begun p
  pub hand : handshakes (row_of_lines t d l ∷ p)
      ≡ answered_if (rises e.ack f.ack) t (asked_if (rises e.req f.req) t (handshakes p))
  pub resets : resets_left (run_state s (row_of_lines t d l ∷ p)) s.resets ≡ resets_left (run_state s p) s.resets

pub hand_stays : (s : ScenarioValue) (p : List Row) (t d : ℕ) (l : LineSet) (n : Connection) (e f : EndLines)
    (o : LineSet) (u : Bool) → Calm s p t d l n e f o u → handshakes (row_of_lines t d l ∷ p) ≡ handshakes p
hand_stays s p t d l n e f o u h = h.hand ∙ (λ i. answered_if (h.ack i) t (asked_if (h.req i) t (handshakes p)))

pub calm_still : (s : ScenarioValue) (p : List Row) (t d : ℕ) (l : LineSet) (n : Connection) (e f : EndLines)
    (o : LineSet) (u : Bool) → Calm s p t d l n e f o u → IsStill s p (row_of_lines t d l)
calm_still s p t d l n e f o u h = still_row s p t d l n e f o h.row h.phase (receiver_none n e f o l h.req h.ack) h.ack

-- As many requests are left, where the same is asked for.
pub calm_requests : (s : ScenarioValue) (p : List Row) (t d : ℕ) (l : LineSet) (n : Connection) (e f : EndLines)
    (o : LineSet) (u : Bool) → Calm s p t d l n e f o u → (f.req && not f.ack) ≡ (e.req && not e.ack)
    → requests_left s (run_state s (row_of_lines t d l ∷ p)) n.target ≡ requests_left s (run_state s p) n.target
calm_requests s p t d l n e f o u h asked =
    let q : List Row = row_of_lines t d l ∷ p in
    let j = run_state s q in
    let k = run_state s p in
    let pk = run_state_plain s p h.row.devices in
    let pj = run_state_plain s q (h.row.below, h.row.devices) in
    let lines = h.row.was.stands.bus_is in
    let next = h.row.moves.linked.stands.bus_is in
    let phase : phase_of (bus_of j) ≡ phase_of (bus_of k) = ap phase_of (pj.bus ∙ next)
    ∙ h.same_phase ∙ sym (ap phase_of (pk.bus ∙ lines)) in
    let same : is_asked (bus_of j) ≡ is_asked (bus_of k) = ap is_asked (pj.bus ∙ next)
    ∙ asked ∙ sym (ap is_asked (pk.bus ∙ lines)) in
    requests_same s j k n.target (keeps_wishes s p (row_of_lines t d l) (calm_still s p t d l n e f o u h))
    (pj.handshakes ∙ hand_stays s p t d l n e f o u h ∙ sym pk.handshakes) phase same

pub calm_falls : (s : ScenarioValue) (p : List Row) (t d : ℕ) (l : LineSet)
    (n : Connection) (e f : EndLines) (o : LineSet) (u : Bool) → Calm s p t d l n e f o u
    → requests_left s (run_state s (row_of_lines t d l ∷ p)) n.target ≡ requests_left s (run_state s p) n.target
    → suc (way_by u f (handshakes p) (offering_of s (run_state s (row_of_lines t d l ∷ p)) n.target)
    (answering_of s (run_state s (row_of_lines t d l ∷ p)) n.initiator))
    ≤ way_by u e (handshakes p) (offering_of s (run_state s p) n.target) (answering_of s (run_state s p) n.initiator)
    → suc (measure s (row_of_lines t d l ∷ p)) ≤ measure s p
calm_falls s p t d l n e f o u h requests less =
    let row : Row = row_of_lines t d l in
    let q : List Row = row ∷ p in
    let j = run_state s q in
    let k = run_state s p in
    let dv = h.row.devices in
    let lines = h.row.was.stands.bus_is in
    let next = h.row.moves.linked.stands.bus_is in
    let none = receiver_none n e f o l h.req h.ack in
    let hand = hand_stays s p t d l n e f o u h in
    let stays : StaysIn s p row n = record {
      below = h.row.below;
      devices = dv;
      still = calm_still s p t d l n e f o u h;
      connection_is = h.row.was.stands.connection_is;
      next_is = h.row.moves.linked.stands.connection_is;
      calm = ap (λ (v : LineSet). v.rst) lines;
      calm_next = ap (λ (v : LineSet). v.rst) next;
      phase = ap phase_of next ∙ h.same_phase ∙ sym (ap phase_of lines);
      moving = ap is_data next ∙ h.same_data ∙ sym (ap is_data lines);
      resets = h.resets;
    } in
    let talk = dialogue_stays s p t d l n e f o h.row h.phase none in
    let agreed : is_pulsed q f ≡ u = (λ i. is_pulsed_phase true (connected_bus f) (talk i).heard.now.agreement)
    ∙ ap (λ (x : Bool). x && nat_lt 0 (dialogue p).heard.now.agreement.offset) h.same_data ∙ h.pulsed_is in
    let before = phase_by_lines s p n e u dv h.row.was h.begun_is h.pulsed_is in
    let after = phase_by_lines s q n f u (h.row.below, dv) h.row.moves.linked (h.begins ∙ h.begun_is) agreed in
    let gj = offering_of s j n.target in
    let aj = answering_of s j n.initiator in
    let same = after ∙ (λ i. for_byte * requests i + way_by u f (hand i) gj aj) in
    still_falls s p row n stays (subst (λ v. suc v ≤ phase_left s k n) (sym same)
    (subst (λ v. suc (for_byte * requests_left s k n.target + way_by u f (handshakes p) gj aj) ≤ v)
    (sym before) (less_way (for_byte * requests_left s k n.target) (way_by u f (handshakes p) gj aj)
    (way_by u e (handshakes p) (offering_of s k n.target) (answering_of s k n.initiator)) less)))

-- ---- of either end

pub calm_initiator :
    (s : ScenarioValue) (p : List Row) (t : ℕ) (n : Connection) (e : EndLines) (bsy ack atn : Bool) (x : ℕ) (u : Bool)
    → AreOfDevices p → Linked p n e → begun p ≡ true → is_pulsed p e ≡ u → rises e.ack ack ≡ false
    → Calm s p t n.initiator (initiator_side (ends bsy ack atn x e.msg e.cd e.io e.req e.given)) n e
    (ends bsy ack atn x e.msg e.cd e.io e.req e.given) (initiator_side e) u
calm_initiator s p t n e bsy ack atn x u dv h b z low =
    let f : EndLines = ends bsy ack atn x e.msg e.cd e.io e.req e.given in
    let r = initiator_in_phase p n e bsy ack atn x t h in
    record {
      row = initiator_end s p t n e bsy ack atn x dv h;
      begun_is = b;
      pulsed_is = z;
      phase = phase_same e bsy ack atn x e.req e.given (initiator_side e) (initiator_side f);
      same_phase = refl;
      same_data = refl;
      req = no_rise e.req;
      ack = low;
      begins = r.begun_is;
      hand = r.handshakes_are;
      resets = resets_stay s p t n.initiator (initiator_side f) s.resets dv h.initiator_below
          (ap (λ (v : LineSet). v.rst) h.initiator) refl;
    }

pub calm_target :
    (s : ScenarioValue) (p : List Row) (t : ℕ) (n : Connection) (e : EndLines) (req : Bool) (y : ℕ) (u : Bool)
    → AreOfDevices p → Linked p n e → begun p ≡ true → is_pulsed p e ≡ u → rises e.req req ≡ false
    → Calm s p t n.target (target_side (ends e.bsy e.ack e.atn e.sent e.msg e.cd e.io req y)) n e
    (ends e.bsy e.ack e.atn e.sent e.msg e.cd e.io req y) (target_side e) u
calm_target s p t n e req y u dv h b z low =
    let f : EndLines = ends e.bsy e.ack e.atn e.sent e.msg e.cd e.io req y in
    let r = target_in_phase p n e req y t h in
    record {
      row = target_end s p t n e e.msg e.cd e.io req y dv h;
      begun_is = b;
      pulsed_is = z;
      phase = phase_same e e.bsy e.ack e.atn e.sent req y (target_side e) (target_side f);
      same_phase = refl;
      same_data = refl;
      req = low;
      ack = no_rise e.ack;
      begins = r.begun_is;
      hand = r.handshakes_are;
      resets = resets_stay s p t n.target (target_side f) s.resets dv h.target_below
          (ap (λ (v : LineSet). v.rst) h.target) refl;
    }

-- The agreement stays.
pub offset_stays : (s : ScenarioValue) (p : List Row) (t d : ℕ)
    (l : LineSet) (n : Connection) (e f : EndLines) (o : LineSet) (u : Bool)
    → Calm s p t d l n e f o u → nat_lt 0 (offset_here (row_of_lines t d l ∷ p)) ≡ nat_lt 0 (offset_here p)
offset_stays s p t d l n e f o u h =
    λ i. nat_lt 0 ((dialogue_stays s p t d l n e f o h.row h.phase (receiver_none n e f o l h.req h.ack))
    i).heard.now.agreement.offset
