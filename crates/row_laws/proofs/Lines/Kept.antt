-- What a row of an end of a connection keeps of what is said, given and served.
use Rattle.row_laws.proofs
use proofs.Names.{ℕ, ◌≡◌, ◌<◌, Bool, true, false, not, ◌&&◌, ◌||◌, ◌==◌, ◌∙◌, List, [], ◌∷◌, length, Option, Some, None}
use proofs.Names.{refl, sym, ap, if◌then◌else◌, is_some, nat_lt, slice_index_or, Event, rises, falls, LineSet}
use proofs.Names.{changes_phase, is_message_in, connection_after, receiver_in, receiver_of, line_times, phase_time, Row}
use proofs.Names.{Change, Connection, Handshakes, handshakes, answered_if, asked_if, dialogue, byte_crosses}
use proofs.Names.{phase_begins, ScenarioValue, RowReading, row_reading, link_events, connection_events, bus_free_events}
use proofs.Names.{phase_events, is_completion, is_complete, end_events, carried_if, Link, Story, bytes_of_messages}
use proofs.Names.{begun, run_state_plain, AreOfDevices, run_state, IsStill, in_connection, RowKind, still, IsRowIn}
use proofs.Names.{change_plain, EndLines, initiator_side, target_side, connected_bus, Linked, row_of_lines, change_to}
use proofs.Names.{DataRow, Moves, terms_of, initiator_moves, target_moves, initiator_in_phase, target_in_phase}
use proofs.{Names.{phase_same, ends}, Lines.{Driven.{message_at, message_follows}, Rows.{has_first, is_unasked}}}

-- A row of lines of one end, in a connection that goes on; it changes what the ends drive from e to f.
pub record EndRow (s : ScenarioValue) (p : List Row) (t d : ℕ) (l : LineSet) (n : Connection) (e f : EndLines)
    (o : LineSet) : Type 0 where
  pub devices : AreOfDevices p
  pub below : d < 8
  pub was : Linked p n e
  pub moves : Moves p (row_of_lines t d l) n e f o l

abbrev pub turn : EndLines → EndLines → LineSet → LineSet → Change
turn e f o l = change_to (connected_bus e) (connected_bus f) o l

pub row_in : (s : ScenarioValue) (p : List Row) (t d : ℕ) (l : LineSet) (n : Connection) (e f : EndLines) (o : LineSet)
    → EndRow s p t d l n e f o → RowKind (row_of_lines t d l) n (turn e f o l)
    → IsRowIn (run_state s p) (row_of_lines t d l) n (turn e f o l)
row_in s p t d l n e f o r kind =
    let a = run_state_plain s p r.devices in
    record {
      connection_is = a.connection ∙ r.was.stands.connection_is;
      change_is = change_plain s (row_of_lines t d l) p r.devices r.below ∙ r.moves.change;
      bus_is = a.bus ∙ r.was.stands.bus_is;
      stands = refl;
      calm = refl;
      kind = kind;
    }

-- It lets no byte cross, and changes no phase: what is said and planned stays, and what was heard.
pub exchange_stays :
    (s : ScenarioValue) (p : List Row) (t d : ℕ) (l : LineSet) (n : Connection) (e f : EndLines) (o : LineSet)
    → EndRow s p t d l n e f o → changes_phase (turn e f o l) ≡ false → receiver_in n (turn e f o l) ≡ None
    → (run_state s (row_of_lines t d l ∷ p)).exchange ≡ (run_state s p).exchange
exchange_stays s p t d l n e f o r ep er =
    (in_connection s (run_state s p) (row_of_lines t d l) n (turn e f o l) false false false
    (row_in s p t d l n e f o r (still refl ep er)) ep (ap (λ (x : Option ℕ). is_some x) er) refl).exchange_is

pub dialogue_stays :
    (s : ScenarioValue) (p : List Row) (t d : ℕ) (l : LineSet) (n : Connection) (e f : EndLines) (o : LineSet)
    → EndRow s p t d l n e f o → changes_phase (turn e f o l) ≡ false → receiver_in n (turn e f o l) ≡ None
    → dialogue (row_of_lines t d l ∷ p) ≡ dialogue p
dialogue_stays s p t d l n e f o r ep er =
    let c : Change = turn e f o l in
    (terms_of p (row_of_lines t d l) n e f o l r.was r.moves).dialogue_is
    ∙ (λ i. if is_some (er i) then byte_crosses (dialogue p) c
    else if ep i then phase_begins (dialogue p) else dialogue p)

pub requests_stay : (p : List Row) (a b : Bool) (t : ℕ) → b ≡ false
    → (answered_if a t (asked_if b t (handshakes p))).requests ≡ (handshakes p).requests
requests_stay p a b t e = ap (λ (q : Bool). (answered_if a t (asked_if q t (handshakes p))).requests) e ∙ go a
  where
    go : (q : Bool) → (answered_if q t (handshakes p)).requests ≡ (handshakes p).requests
    go true = refl
    go false = refl

-- ---- what a quiet row keeps

pub record Quiet (s : ScenarioValue) (p q : List Row) (n : Connection) (f : EndLines) : Type 0 where
  pub linked : Linked q n f
  pub begun_is : begun q ≡ begun p
  pub exchange_is : (run_state s q).exchange ≡ (run_state s p).exchange
  pub last_is : dialogue q ≡ dialogue p
  pub requests_are : (handshakes q).requests ≡ (handshakes p).requests
  pub io_is : (line_times q).io ≡ (line_times p).io
  pub phase_is : phase_time (line_times q) ≡ phase_time (line_times p)

pub message_stays : (s : ScenarioValue) (p q : List Row) (n : Connection) (f : EndLines) → Quiet s p q n f
    → message_at s q ≡ message_at s p
message_stays s p q n f k = λ i. slice_index_or (bytes_of_messages (k.exchange_is i).plan.messages) (k.requests_are i) 0

pub follows_stay : (s : ScenarioValue) (p q : List Row) (n : Connection) (f : EndLines) (atn : Bool) → Quiet s p q n f
    → message_follows s q atn ≡ message_follows s p atn
follows_stay s p q n f atn k = λ i. (k.requests_are i == 0 || not atn)
    && nat_lt (k.requests_are i) (length (bytes_of_messages (k.exchange_is i).plan.messages))

pub unasked_stays : (s : ScenarioValue) (p q : List Row) (n : Connection) (f : EndLines) → Quiet s p q n f
    → is_unasked q ≡ is_unasked p
unasked_stays s p q n f k = ap (λ (x : ℕ). x == 0) k.requests_are

pub first_stays : (s : ScenarioValue) (p q : List Row) (n : Connection) (f : EndLines) (io : Bool) (y : ℕ)
    → Quiet s p q n f → has_first q io y ≡ has_first p io y
first_stays s p q n f io y k = λ i. not (y == 0) || not (io && k.io_is i == k.phase_is i)

-- ---- rows of either end

-- What an end row in a phase is: of the initiator, or of the target.
pub initiator_end :
    (s : ScenarioValue) (p : List Row) (t : ℕ) (n : Connection) (e : EndLines) (bsy ack atn : Bool) (x : ℕ)
    → AreOfDevices p → Linked p n e
    → EndRow s p t n.initiator (initiator_side (ends bsy ack atn x e.msg e.cd e.io e.req e.given)) n e
    (ends bsy ack atn x e.msg e.cd e.io e.req e.given) (initiator_side e)
initiator_end s p t n e bsy ack atn x dv h =
    record { devices = dv; below = h.initiator_below; was = h; moves = initiator_moves p n e bsy ack atn x t h }

pub target_end :
    (s : ScenarioValue) (p : List Row) (t : ℕ) (n : Connection) (e : EndLines) (msg cd io req : Bool) (y : ℕ)
    → AreOfDevices p → Linked p n e
    → EndRow s p t n.target (target_side (ends e.bsy e.ack e.atn e.sent msg cd io req y)) n e
    (ends e.bsy e.ack e.atn e.sent msg cd io req y) (target_side e)
target_end s p t n e msg cd io req y dv h =
    record { devices = dv; below = h.target_below; was = h; moves = target_moves p n e msg cd io req y t h }

-- A row of the initiator with which no byte crosses; and one of the target with which REQ does not rise.
pub initiator_quiet :
    (s : ScenarioValue) (p : List Row) (t : ℕ) (n : Connection) (e : EndLines) (bsy ack atn : Bool) (x : ℕ)
    → AreOfDevices p → Linked p n e
    → receiver_in n (turn e (ends bsy ack atn x e.msg e.cd e.io e.req e.given) (initiator_side e)
    (initiator_side (ends bsy ack atn x e.msg e.cd e.io e.req e.given))) ≡ None → rises e.req e.req ≡ false
    → Quiet s p (row_of_lines t n.initiator (initiator_side (ends bsy ack atn x e.msg e.cd e.io e.req e.given)) ∷ p) n
    (ends bsy ack atn x e.msg e.cd e.io e.req e.given)
initiator_quiet s p t n e bsy ack atn x dv h er no_req =
    let f : EndLines = ends bsy ack atn x e.msg e.cd e.io e.req e.given in
    let l : LineSet = initiator_side f in
    let row = initiator_end s p t n e bsy ack atn x dv h in
    let ep = phase_same e bsy ack atn x e.req e.given (initiator_side e) l in
    let r = initiator_in_phase p n e bsy ack atn x t h in
    record {
      linked = row.moves.linked;
      begun_is = r.begun_is;
      exchange_is = exchange_stays s p t n.initiator l n e f (initiator_side e) row ep er;
      last_is = dialogue_stays s p t n.initiator l n e f (initiator_side e) row ep er;
      requests_are = ap (λ (b : Handshakes). b.requests) r.handshakes_are
          ∙ requests_stay p (rises e.ack ack) (rises e.req e.req) t no_req;
      io_is = r.io_is;
      phase_is = r.phase_is;
    }

pub target_quiet : (s : ScenarioValue) (p : List Row) (t : ℕ) (n : Connection) (e : EndLines) (req : Bool) (y : ℕ)
    → AreOfDevices p → Linked p n e
    → receiver_in n (turn e (ends e.bsy e.ack e.atn e.sent e.msg e.cd e.io req y) (target_side e)
    (target_side (ends e.bsy e.ack e.atn e.sent e.msg e.cd e.io req y))) ≡ None → rises e.req req ≡ false
    → Quiet s p (row_of_lines t n.target (target_side (ends e.bsy e.ack e.atn e.sent e.msg e.cd e.io req y)) ∷ p) n
    (ends e.bsy e.ack e.atn e.sent e.msg e.cd e.io req y)
target_quiet s p t n e req y dv h er no_req =
    let f : EndLines = ends e.bsy e.ack e.atn e.sent e.msg e.cd e.io req y in
    let l : LineSet = target_side f in
    let row = target_end s p t n e e.msg e.cd e.io req y dv h in
    let ep = phase_same e e.bsy e.ack e.atn e.sent req y (target_side e) l in
    let r = target_in_phase p n e req y t h in
    record {
      linked = row.moves.linked;
      begun_is = r.begun_is;
      exchange_is = exchange_stays s p t n.target l n e f (target_side e) row ep er;
      last_is = dialogue_stays s p t n.target l n e f (target_side e) row ep er;
      requests_are = ap (λ (b : Handshakes). b.requests) r.handshakes_are
          ∙ requests_stay p (rises e.ack e.ack) (rises e.req req) t no_req;
      io_is = r.io_is;
      phase_is = r.phase_is;
    }

-- ---- such a row of a data phase

pub data_row :
    (s : ScenarioValue) (p : List Row) (t d : ℕ) (l : LineSet) (n : Connection) (e f : EndLines) (o : LineSet)
    → EndRow s p t d l n e f o → changes_phase (turn e f o l) ≡ false → e.msg ≡ false
    → DataRow p (row_of_lines t d l) n (turn e f o l)
data_row s p t d l n e f o r ep em = record {
  devices = r.devices;
  below = r.below;
  before = r.was.stands.connection_is;
  after = r.moves.linked.stands.connection_is;
  change = r.moves.change;
  calm = refl;
  phase = ep;
  in_data = em;
}

-- ---- a row that tells nothing: ACK does not rise in it

tells_none : (s : ScenarioValue) (b : Story) (link : Option Link) (d : RowReading) (n : Connection) (c : Change)
    → d.next ≡ Some n → d.change ≡ c → changes_phase c ≡ false → rises c.before.ack c.after.ack ≡ false
    → link_events s b link d ≡ []
tells_none s b None d n c e f g m = refl
tells_none s b (Some l) d n c e f g m =
    ap (λ (x : Option Connection). if is_some x then connection_events s b l d else bus_free_events s l l.last) e
    ∙ (λ i. if changes_phase (f i) then phase_events s b (carried_if b l.item) (f i)
    else if is_completion l (f i) then end_events (carried_if b l.item) else [])
    ∙ ap (λ (q : Bool). if q then phase_events s b (carried_if b l.item) c
    else if is_completion l c then end_events (carried_if b l.item) else []) g
    ∙ ap (λ (q : Bool). if q && is_message_in c.before && is_complete l.last && not c.after.atn
    then end_events (carried_if b l.item) else []) m

pub still_row :
    (s : ScenarioValue) (p : List Row) (t d : ℕ) (l : LineSet) (n : Connection) (e f : EndLines) (o : LineSet)
    → EndRow s p t d l n e f o → changes_phase (turn e f o l) ≡ false → receiver_in n (turn e f o l) ≡ None
    → rises e.ack f.ack ≡ false → IsStill s p (row_of_lines t d l)
still_row s p t d l n e f o r ep er ea =
    let k = run_state s p in
    let row : Row = row_of_lines t d l in
    let c : Change = turn e f o l in
    let read = row_reading k.story.bus_state row in
    let a = run_state_plain s p r.devices in
    let ec : read.change ≡ c = change_plain s row p r.devices r.below ∙ r.moves.change in
    let con : k.story.bus_state.connection ≡ Some n = a.connection ∙ r.was.stands.connection_is in
    let next : read.next ≡ Some n =
    (λ i. connection_after (a.connection i) (a.call i) (change_plain s row p r.devices r.below i) row)
    ∙ r.moves.linked.stands.connection_is in
    record {
      lines = refl;
      reset = ap (λ (x : Change). x.after.rst) ec;
      connection = next ∙ sym con;
      phase = ap changes_phase ec ∙ ep;
      calling = ap (λ (x : Change). falls x.before.sel x.after.sel) ec;
      carries = (λ i. is_some (receiver_of (con i) (ec i))) ∙ ap (λ (x : Option ℕ). is_some x) er;
      tells = ap (λ (x : Change).
          if x.after.rst then (if rises read.change.own.rst read.change.next.rst then Event.Reset row.dev ∷ [] else [])
          else link_events s k.story k.story.link read) ec ∙ tells_none s k.story k.story.link read n c next ec ep ea;
    }
