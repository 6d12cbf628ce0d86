-- Rows of one end in a phase with which REQ or ACK rises: they tell no event, but where ACK rises in MESSAGE IN; and by
-- pulses the measure falls with each of them.
use Rattle.measure_laws.proofs
use proofs.Names.{ℕ, ◌≡◌, ◌∙◌, Bool, true, false, List, [], ◌∷◌, refl, sym, ap, subst, Option, Some, None, ◌&&◌}
use proofs.Names.{if◌then◌else◌, not, is_some, nat_lt, and_false, Event, rises, LineSet, changes_phase, is_message_in}
use proofs.Names.{connection_after, Row, Change, Connection, ScenarioValue, RowReading, row_reading, bus_free_events}
use proofs.Names.{connection_events, end_events, is_complete, is_completion, link_events, phase_events, carried_if}
use proofs.Names.{row_events_by, Link, Story, story_by_change, begun, run_state_plain, AreOfDevices, run_state}
use proofs.Names.{change_plain, EndLines, Linked, connected_bus, initiator_side, target_side, row_of_lines, InPhaseRow}
use proofs.Names.{initiator_in_phase, no_rise, phase_same, target_in_phase, initiator_row, ends, EndRow, initiator_end}
use proofs.{Names.{target_end, turn, is_pulsed}, Lines.{Endings.{TellsFirst, row_lowers}, Lowers.{EndFirst, Lowers}}}
use proofs.{Lines.Shifts.{Shifts}, Resets.Counts.{resets_stay}}

-- ---- no event

pub tells_quiet : (s : ScenarioValue) (b : Story) (link : Option Link) (d : RowReading) (n : Connection) (c : Change)
    → d.next ≡ Some n → d.change ≡ c → changes_phase c ≡ false
    → ((l : Link) → is_completion l c ≡ false) → link_events s b link d ≡ []
tells_quiet s b None d n c e f g m = refl
tells_quiet s b (Some l) d n c e f g m =
    ap (λ (x : Option Connection). if is_some x then connection_events s b l d else bus_free_events s l l.last) e
    ∙ (λ i. if changes_phase (f i) then phase_events s b (carried_if b l.item) (f i)
    else if is_completion l (f i) then end_events (carried_if b l.item) else [])
    ∙ ap (λ (q : Bool). if q then phase_events s b (carried_if b l.item) c
    else if is_completion l c then end_events (carried_if b l.item) else []) g
    ∙ ap (λ (q : Bool). if q then end_events (carried_if b l.item) else []) (m l)

row_tells : (s : ScenarioValue) (p : List Row) (t d : ℕ) (l : LineSet) (n : Connection) (e f : EndLines) (o : LineSet)
    → EndRow s p t d l n e f o → changes_phase (turn e f o l) ≡ false
    → ((x : Link) → is_completion x (turn e f o l) ≡ false) → row_events_by s (run_state s p).story
    (row_reading (run_state s p).story.bus_state (row_of_lines t d l)) (row_of_lines t d l) ≡ []
row_tells s p t d l n e f o r ep quiet =
    let k = run_state s p in
    let row : Row = row_of_lines t d l in
    let read = row_reading k.story.bus_state row in
    let a = run_state_plain s p r.devices in
    let ec : read.change ≡ turn e f o l = change_plain s row p r.devices r.below ∙ r.moves.change in
    let next : read.next ≡ Some n =
    (λ i. connection_after (a.connection i) (a.call i) (change_plain s row p r.devices r.below i) row)
    ∙ r.moves.linked.stands.connection_is in
    ap (λ (x : Change).
    if x.after.rst then (if rises read.change.own.rst read.change.next.rst then Event.Reset row.dev ∷ [] else [])
    else link_events s k.story k.story.link read) ec
    ∙ tells_quiet s k.story k.story.link read n (turn e f o l) next ec ep quiet

first_lowers :
    (s : ScenarioValue) (p : List Row) (t d : ℕ) (l : LineSet) (n : Connection) (e f : EndLines) (o : LineSet)
    → EndRow s p t d l n e f o → TellsFirst s p (row_of_lines t d l)
    → Lowers (run_state s p).story.sent (run_state s (row_of_lines t d l ∷ p)).story.sent
first_lowers s p t d l n e f o r first =
    let row : Row = row_of_lines t d l in
    let change : (row_reading (run_state s p).story.bus_state row).change ≡ turn e f o l =
    change_plain s row p r.devices r.below ∙ r.moves.change in
    row_lowers s p row n ((run_state_plain s p r.devices).connection ∙ r.was.stands.connection_is)
    (ap (λ (x : Change). x.after.rst) change) first

quiet_lowers :
    (s : ScenarioValue) (p : List Row) (t d : ℕ) (l : LineSet) (n : Connection) (e f : EndLines) (o : LineSet)
    → EndRow s p t d l n e f o → row_events_by s (run_state s p).story
    (row_reading (run_state s p).story.bus_state (row_of_lines t d l)) (row_of_lines t d l) ≡ []
    → Lowers (run_state s p).story.sent (run_state s (row_of_lines t d l ∷ p)).story.sent
quiet_lowers s p t d l n e f o r none =
    first_lowers s p t d l n e f o r (subst (EndFirst s (story_by_change s (run_state s p).story
    (row_reading (run_state s p).story.bus_state (row_of_lines t d l)) (row_of_lines t d l))) (sym none) tt)

-- ACK does not rise; or the byte is none of MESSAGE IN.
pub quiet_low : (e f : EndLines) (o l : LineSet) → rises e.ack f.ack ≡ false
    → (x : Link) → is_completion x (turn e f o l) ≡ false
quiet_low e f o l low x = ap (λ (q : Bool). q && is_message_in (connected_bus e) && is_complete x.last && not f.atn) low

pub quiet_other : (e f : EndLines) (o l : LineSet) → is_message_in (connected_bus e) ≡ false
    → (x : Link) → is_completion x (turn e f o l) ≡ false
quiet_other e f o l other x =
    ap (λ (q : Bool). rises e.ack f.ack && q && is_complete x.last && not f.atn) other
    ∙ ap (λ (q : Bool). q && is_complete x.last && not f.atn) (and_false (rises e.ack f.ack))

-- ---- the agreement that holds in a phase

pub pulsed_stays : (p q : List Row) (n : Connection) (bsy ack atn msg cd io req : Bool)
    (x y : ℕ) (bsy' ack' atn' req' : Bool) (x' y' t : ℕ)
    → InPhaseRow p q n (ends bsy ack atn x msg cd io req y) (ends bsy' ack' atn' x' msg cd io req' y') t
    → is_pulsed q (ends bsy' ack' atn' x' msg cd io req' y') ≡ is_pulsed p (ends bsy ack atn x msg cd io req y)
pulsed_stays p q n bsy ack atn true cd io req x y bsy' ack' atn' req' x' y' t r = refl
pulsed_stays p q n bsy ack atn false true io req x y bsy' ack' atn' req' x' y' t r = refl
pulsed_stays p q n bsy ack atn false false io req x y bsy' ack' atn' req' x' y' t r =
    λ i. nat_lt 0 (r.agreement_is refl refl i).offset

-- ---- such rows

pub shift_initiator :
    (s : ScenarioValue) (p : List Row) (t : ℕ) (n : Connection) (e : EndLines) (bsy ack atn : Bool) (x : ℕ) (u : Bool)
    → AreOfDevices p → Linked p n e → begun p ≡ true → is_pulsed p e ≡ u
    → ((l : Link) → is_completion l (turn e (ends bsy ack atn x e.msg e.cd e.io e.req e.given)
    (initiator_side e) (initiator_side (ends bsy ack atn x e.msg e.cd e.io e.req e.given))) ≡ false)
    → Shifts s p t n.initiator (initiator_side (ends bsy ack atn x e.msg e.cd e.io e.req e.given)) n e
    (ends bsy ack atn x e.msg e.cd e.io e.req e.given) (initiator_side e) u
shift_initiator s p t n e bsy ack atn x u dv h b z quiet =
    let f : EndLines = ends bsy ack atn x e.msg e.cd e.io e.req e.given in
    let r = initiator_in_phase p n e bsy ack atn x t h in
    let row = initiator_end s p t n e bsy ack atn x dv h in
    let ep = phase_same e bsy ack atn x e.req e.given (initiator_side e) (initiator_side f) in
    record {
      row = row;
      begun_is = b;
      pulsed_is = z;
      pulsed_next = pulsed_stays p (row_of_lines t n.initiator (initiator_side f) ∷ p) n e.bsy
          e.ack e.atn e.msg e.cd e.io e.req e.sent e.given bsy ack atn e.req x e.given t r
          ∙ z;
      phase = ep;
      same_phase = refl;
      same_data = refl;
      begins = r.begun_is;
      resets = resets_stay s p t n.initiator (initiator_side f) s.resets dv h.initiator_below
          (ap (λ (v : LineSet). v.rst) h.initiator) refl;
      sent = quiet_lowers s p t n.initiator (initiator_side f) n e f (initiator_side e) row
          (row_tells s p t n.initiator (initiator_side f) n e f (initiator_side e) row ep quiet);
    }

pub shift_target :
    (s : ScenarioValue) (p : List Row) (t : ℕ) (n : Connection) (e : EndLines) (req : Bool) (y : ℕ) (u : Bool)
    → AreOfDevices p → Linked p n e → begun p ≡ true → is_pulsed p e ≡ u
    → Shifts s p t n.target (target_side (ends e.bsy e.ack e.atn e.sent e.msg e.cd e.io req y)) n e
    (ends e.bsy e.ack e.atn e.sent e.msg e.cd e.io req y) (target_side e) u
shift_target s p t n e req y u dv h b z =
    let f : EndLines = ends e.bsy e.ack e.atn e.sent e.msg e.cd e.io req y in
    let r = target_in_phase p n e req y t h in
    let row = target_end s p t n e e.msg e.cd e.io req y dv h in
    let ep = phase_same e e.bsy e.ack e.atn e.sent req y (target_side e) (target_side f) in
    record {
      row = row;
      begun_is = b;
      pulsed_is = z;
      pulsed_next = pulsed_stays p (row_of_lines t n.target (target_side f) ∷ p) n e.bsy
          e.ack e.atn e.msg e.cd e.io e.req e.sent e.given e.bsy e.ack e.atn req e.sent y t r
          ∙ z;
      phase = ep;
      same_phase = refl;
      same_data = refl;
      begins = r.begun_is;
      resets = resets_stay s p t n.target (target_side f) s.resets dv h.target_below
          (ap (λ (v : LineSet). v.rst) h.target) refl;
      sent = quiet_lowers s p t n.target (target_side f) n e f (target_side e) row (row_tells s p t n.target
          (target_side f) n e f (target_side e) row ep (quiet_low e f (target_side e) (target_side f) (no_rise e.ack)));
    }

-- A row of the initiator that ends only what was not over.
pub shift_told :
    (s : ScenarioValue) (p : List Row) (t : ℕ) (n : Connection) (e : EndLines) (bsy ack atn : Bool) (x : ℕ) (u : Bool)
    → AreOfDevices p → Linked p n e → begun p ≡ true → is_pulsed p e ≡ u
    → TellsFirst s p (initiator_row t n (ends bsy ack atn x e.msg e.cd e.io e.req e.given))
    → Shifts s p t n.initiator (initiator_side (ends bsy ack atn x e.msg e.cd e.io e.req e.given)) n e
    (ends bsy ack atn x e.msg e.cd e.io e.req e.given) (initiator_side e) u
shift_told s p t n e bsy ack atn x u dv h b z first =
    let f : EndLines = ends bsy ack atn x e.msg e.cd e.io e.req e.given in
    let r = initiator_in_phase p n e bsy ack atn x t h in
    record {
      row = initiator_end s p t n e bsy ack atn x dv h;
      begun_is = b;
      pulsed_is = z;
      pulsed_next = pulsed_stays p (row_of_lines t n.initiator (initiator_side f) ∷ p) n e.bsy
          e.ack e.atn e.msg e.cd e.io e.req e.sent e.given bsy ack atn e.req x e.given t r
          ∙ z;
      phase = phase_same e bsy ack atn x e.req e.given (initiator_side e) (initiator_side f);
      same_phase = refl;
      same_data = refl;
      begins = r.begun_is;
      resets = resets_stay s p t n.initiator (initiator_side f) s.resets dv h.initiator_below
          (ap (λ (v : LineSet). v.rst) h.initiator) refl;
      sent = first_lowers s p t n.initiator (initiator_side f) n e f (initiator_side e)
          (initiator_end s p t n e bsy ack atn x dv h) first;
    }
