-- The measure falls with each kind of row in a phase with which neither REQ nor ACK rises.
use Rattle.measure_laws.proofs
use proofs.Names.{ℕ, suc, ◌≡◌, ◌≤◌, ◌∙◌, Bool, true, false, List, ◌∷◌, length, refl, sym, ap, subst, arith, ◌&&◌}
use proofs.Names.{eqb-true, ◌+◌, ◌-◌, ◌*◌, ◌==◌, if◌then◌else◌, not, nat_lt, slice_index_or, eq_self, LineSet, Row}
use proofs.Names.{Connection, Handshakes, handshakes, ScenarioValue, bits_if, byte_bits, Offering, policy_of}
use proofs.Names.{bytes_of_messages, begun, phase_of, follows_in, run_length_if, Sending, Phase, run_state_plain}
use proofs.Names.{target_def_of, AreOfDevices, bus_of, run_state, answering_of, offering_of, sending_of, serving_at}
use proofs.Names.{task_of, EndLines, Linked, initiator_side, target_side, row_of_lines, some_byte, DataRow, bytes_stay}
use proofs.Names.{count_stays, sending_stays, initiator_row, target_row, given_bits, Settling, Shaking, Turning, ends}
use proofs.Names.{Pulsing, byte_in_run, next_bits, offset_here, run_count, some_count, byte_is, offering_is, data_row}
use proofs.{Names.{turn, is_pulsed, one_where, measure, is_asked, requests_by, requests_left}, Phases.Calm.{Calm}}
use proofs.Phases.Calm.{calm_falls, calm_initiator, calm_requests, calm_still, calm_target, hand_stays, offset_stays}
use proofs.Phases.{Calm.{way_by}, Pulls.{hands, in_shape, next_left, offers, out_shape, releases, waiting_out}}
use proofs.Phases.Still.{ack_ends_falls, gives_falls, req_ends_falls}

-- ---- before the first REQ

-- The initiator hands BSY over.
pub settling_hands : (s : ScenarioValue) (p : List Row) (t : ℕ) (n : Connection) (atn msg cd io : Bool) (y : ℕ)
    → AreOfDevices p → Settling p n true atn msg cd io y
    → suc (measure s (initiator_row t n (ends false false atn 0 msg cd io false y) ∷ p)) ≤ measure s p
settling_hands s p t n atn msg cd io y dv h =
    let e : EndLines = ends true false atn 0 msg cd io false y in
    let f : EndLines = ends false false atn 0 msg cd io false y in
    let c = calm_initiator s p t n e false false atn 0 (is_pulsed p e) dv h.linked h.phase.begun_is refl refl in
    let q : List Row = row_of_lines t n.initiator (initiator_side f) ∷ p in
    calm_falls s p t n.initiator (initiator_side f) n e f (initiator_side e) (is_pulsed p e) c (calm_requests
    s p t n.initiator (initiator_side f) n e f (initiator_side e) (is_pulsed p e) c refl) (subst (λ x. suc
    (way_by (is_pulsed p e) f x (offering_of s (run_state s q) n.target) (answering_of s (run_state s q) n.initiator))
    ≤ way_by (is_pulsed p e) e x (offering_of s (run_state s p) n.target) (answering_of s (run_state s p) n.initiator))
    (sym h.quiet) (hands (is_pulsed p e) atn msg cd io y (offering_of s (run_state s p) n.target)
    (offering_of s (run_state s q) n.target) (answering_of s (run_state s p) n.initiator)
    (answering_of s (run_state s q) n.initiator)))

-- It releases the last byte of the phase before.
pub turning_releases : (s : ScenarioValue) (p : List Row) (t : ℕ) (n : Connection) (atn : Bool) (x : ℕ) (msg cd : Bool)
    → AreOfDevices p → Turning s p n atn x msg cd → (x == 0) ≡ false
    → suc (measure s (initiator_row t n (ends false false atn 0 msg cd true false 0) ∷ p)) ≤ measure s p
turning_releases s p t n atn x msg cd dv h some =
    let e : EndLines = ends false false atn x msg cd true false 0 in
    let f : EndLines = ends false false atn 0 msg cd true false 0 in
    let c = calm_initiator s p t n e false false atn 0 (is_pulsed p e) dv h.linked h.phase.begun_is refl refl in
    let q : List Row = row_of_lines t n.initiator (initiator_side f) ∷ p in
    calm_falls s p t n.initiator (initiator_side f) n e f (initiator_side e) (is_pulsed p e) c (calm_requests
    s p t n.initiator (initiator_side f) n e f (initiator_side e) (is_pulsed p e) c refl) (subst (λ z. suc
    (way_by (is_pulsed p e) f z (offering_of s (run_state s q) n.target) (answering_of s (run_state s q) n.initiator))
    ≤ way_by (is_pulsed p e) e z (offering_of s (run_state s p) n.target) (answering_of s (run_state s p) n.initiator))
    (sym h.quiet) (releases (is_pulsed p e) atn msg cd x (offering_of s (run_state s p) n.target)
    (offering_of s (run_state s q) n.target) (answering_of s (run_state s p) n.initiator)
    (answering_of s (run_state s q) n.initiator) some))

-- The target drives its first byte.
pub turning_offers :
    (s : ScenarioValue) (p : List Row) (t : ℕ) (n : Connection) (atn : Bool) (x : ℕ) (msg cd : Bool) (byte : ℕ)
    → AreOfDevices p → Turning s p n atn x msg cd
    → suc (measure s (target_row t n (ends false false atn x msg cd true false (byte_bits byte)) ∷ p)) ≤ measure s p
turning_offers s p t n atn x msg cd byte dv h =
    let e : EndLines = ends false false atn x msg cd true false 0 in
    let f : EndLines = ends false false atn x msg cd true false (byte_bits byte) in
    let c = calm_target s p t n e false (byte_bits byte) (is_pulsed p e) dv h.linked h.phase.begun_is refl refl in
    let q : List Row = row_of_lines t n.target (target_side f) ∷ p in
    calm_falls s p t n.target (target_side f) n e f (target_side e) (is_pulsed p e) c
    (calm_requests s p t n.target (target_side f) n e f (target_side e) (is_pulsed p e) c refl) (subst (λ z. suc
    (way_by (is_pulsed p e) f z (offering_of s (run_state s q) n.target) (answering_of s (run_state s q) n.initiator))
    ≤ way_by (is_pulsed p e) e z (offering_of s (run_state s p) n.target) (answering_of s (run_state s p) n.initiator))
    (sym h.quiet) (offers (is_pulsed p e) atn msg cd x (byte_bits byte) (offering_of s (run_state s p) n.target)
    (offering_of s (run_state s q) n.target) (answering_of s (run_state s p) n.initiator)
    (answering_of s (run_state s q) n.initiator) (some_byte byte)))

-- ---- byte by byte

pub shaking_ends_ack_in : (s : ScenarioValue) (p : List Row) (t : ℕ) (n : Connection) (atn msg cd : Bool) (y : ℕ)
    → AreOfDevices p → Shaking p n msg cd true false true atn 0 y
    → suc (measure s (initiator_row t n (ends false false atn 0 msg cd true false y) ∷ p)) ≤ measure s p
shaking_ends_ack_in s p t n atn msg cd y dv h =
    ack_ends_falls s p t n atn msg cd true 0 y dv h.linked h.phase.begun_is h.asked h.unpulsed

pub shaking_ends_ack_out : (s : ScenarioValue) (p : List Row) (t : ℕ) (n : Connection) (atn msg cd : Bool) (x : ℕ)
    → AreOfDevices p → Shaking p n msg cd false false true atn x 0
    → suc (measure s (initiator_row t n (ends false false atn 0 msg cd false false 0) ∷ p)) ≤ measure s p
shaking_ends_ack_out s p t n atn msg cd x dv h =
    ack_ends_falls s p t n atn msg cd false x 0 dv h.linked h.phase.begun_is h.asked h.unpulsed

pub shaking_ends_req : (s : ScenarioValue) (p : List Row) (t : ℕ) (n : Connection) (atn msg cd io : Bool) (x y z : ℕ)
    → AreOfDevices p → Shaking p n msg cd io true true atn x y
    → suc (measure s (target_row t n (ends false true atn x msg cd io false z) ∷ p)) ≤ measure s p
shaking_ends_req s p t n atn msg cd io x y z dv h =
    req_ends_falls s p t n atn msg cd io x y z dv h.linked h.phase.begun_is h.asked h.unpulsed

pub shaking_gives : (s : ScenarioValue) (p : List Row) (t : ℕ) (n : Connection) (atn to msg cd : Bool) (byte : ℕ)
    → AreOfDevices p → Shaking p n msg cd false true false atn 0 0
    → suc (measure s (initiator_row t n (ends false false to (byte_bits byte) msg cd false true 0) ∷ p)) ≤ measure s p
shaking_gives s p t n atn to msg cd byte dv h =
    gives_falls s p t n atn to msg cd (byte_bits byte) dv h.linked h.phase.begun_is h.unpulsed (some_byte byte)

-- ---- data: how many requests are left, and which bytes are due

pub data_requests : (s : ScenarioValue) (p : List Row) (n : Connection) (bsy ack atn io req : Bool) (x y : ℕ)
    → AreOfDevices p → Linked p n (ends bsy ack atn x false false io req y)
    → requests_left s (run_state s p) n.target ≡ run_count s p n - (handshakes p).requests
data_requests s p n bsy ack atn true req x y dv h =
    let k = run_state s p in
    let a = run_state_plain s p dv in
    λ i. requests_by k.exchange.plan.struck (is_asked (bus_of k))
    (a.handshakes i) k.exchange.speech (length (bytes_of_messages k.exchange.plan.messages))
    (run_length_if (policy_of (target_def_of s n.target)) (task_of s k)) (phase_of ((a.bus ∙ h.stands.bus_is) i))
data_requests s p n bsy ack atn false req x y dv h =
    let k = run_state s p in
    let a = run_state_plain s p dv in
    λ i. requests_by k.exchange.plan.struck (is_asked (bus_of k))
    (a.handshakes i) k.exchange.speech (length (bytes_of_messages k.exchange.plan.messages))
    (run_length_if (policy_of (target_def_of s n.target)) (task_of s k)) (phase_of ((a.bus ∙ h.stands.bus_is) i))

-- The byte that the initiator gives next.
abbrev pub data_given : Sending → ℕ
data_given o = slice_index_or o.sent o.moved 0

pub given_at : (s : ScenarioValue) (p : List Row) (n : Connection) (ack atn req : Bool) (x y : ℕ)
    → AreOfDevices p → Linked p n (ends false ack atn x false false false req y)
    → (answering_of s (run_state s p) n.initiator).byte ≡ data_given (sending_of s (run_state s p))
given_at s p n ack atn req x y dv h = byte_is s p n (ends false ack atn x false false false req y) dv h

-- The bits that the target drives next.
pub bits_at : (s : ScenarioValue) (p : List Row) (n : Connection) (ack atn req : Bool) (x y : ℕ) → AreOfDevices p
    → Linked p n (ends false ack atn x false false true req y) → begun p ≡ true → nat_lt 0 (offset_here p) ≡ true
    → bits_if (offering_of s (run_state s p) n.target).follows (offering_of s (run_state s p) n.target).byte
    ≡ next_bits s p n
bits_at s p n ack atn req x y dv h b off = ap (λ (g : Offering). bits_if g.follows g.byte)
    (offering_is s p n (ends false ack atn x false false true req y) dv h b)
    ∙ ap (λ (q : Bool). bits_if (if q then nat_lt (handshakes p).requests (run_count s p n)
    else follows_in (serving_at s (run_state s p) n.target Phase.DataIn) (handshakes p) atn Phase.DataIn)
    (byte_in_run s p n (handshakes p).requests)) off

next_stays : (s : ScenarioValue) (p : List Row) (row : Row) (n : Connection) (e f : EndLines) (o l : LineSet)
    → DataRow p row n (turn e f o l) → handshakes (row ∷ p) ≡ handshakes p → next_bits s (row ∷ p) n ≡ next_bits s p n
next_stays s p row n e f o l r hand =
    let count = count_stays s p row n (turn e f o l) r in
    let byte = bytes_stay s p row n (turn e f o l) (handshakes p).requests r in
    ap (λ (h : Handshakes). bits_if (nat_lt h.requests (run_count s (row ∷ p) n))
    (byte_in_run s (row ∷ p) n h.requests)) hand ∙ (λ i. bits_if (nat_lt (handshakes p).requests (count i)) (byte i))

-- ---- by pulses, to the initiator

calm_pulse_in : (s : ScenarioValue) (p : List Row) (t d : ℕ) (l o : LineSet) (n : Connection)
    (ack atn req ack' atn' req' : Bool) (y y' : ℕ) → Pulsing s p n true req ack atn 0 y → Calm s p t d l n
    (ends false ack atn 0 false false true req y) (ends false ack' atn' 0 false false true req' y') o true
    → suc (4 * length (handshakes p).waiting + one_where req' + one_where ack' + next_left y' (next_bits s p n))
    ≤ 4 * length (handshakes p).waiting + one_where req + one_where ack + next_left y (next_bits s p n)
    → suc (measure s (row_of_lines t d l ∷ p)) ≤ measure s p
calm_pulse_in s p t d l o n ack atn req ack' atn' req' y y' h c less =
    let e : EndLines = ends false ack atn 0 false false true req y in
    let f : EndLines = ends false ack' atn' 0 false false true req' y' in
    let row : Row = row_of_lines t d l in
    let q : List Row = row ∷ p in
    let j = run_state s q in
    let k = run_state s p in
    let dv = c.row.devices in
    let dw : AreOfDevices q = (c.row.below, dv) in
    let hand = hand_stays s p t d l n e f o true c in
    let kept = data_row s p t d l n e f o c.row c.phase refl in
    let count = count_stays s p row n (turn e f o l) kept in
    let requests : requests_left s j n.target ≡ requests_left s k n.target =
    data_requests s q n false ack' atn' true req' 0 y' dw c.row.moves.linked
    ∙ (λ i. count i - (hand i).requests) ∙ sym (data_requests s p n false ack atn true req 0 y dv h.linked) in
    let still = calm_still s p t d l n e f o true c in
    let off : nat_lt 0 (offset_here q) ≡ true = offset_stays s p t d l n e f o true c ∙ h.offset in
    let was = bits_at s p n ack atn req 0 y dv h.linked h.phase.begun_is h.offset in
    let is = bits_at s q n ack' atn' req' 0 y' dw c.row.moves.linked (c.begins ∙ h.phase.begun_is) off
    ∙ next_stays s p row n e f o l kept hand in
    let before =
    in_shape ack atn req y (handshakes p) (offering_of s k n.target) (answering_of s k n.initiator) h.facts.asked
    ∙ ap (λ (b : ℕ). 4 * length (handshakes p).waiting + one_where req + one_where ack + next_left y b) was in
    let after =
    in_shape ack' atn' req' y' (handshakes p) (offering_of s j n.target) (answering_of s j n.initiator) h.facts.asked
    ∙ ap (λ (b : ℕ). 4 * length (handshakes p).waiting + one_where req' + one_where ack' + next_left y' b) is in
    calm_falls s p t d l n e f o true c requests
    (subst (λ v. suc v ≤ way_by true e (handshakes p) (offering_of s k n.target) (answering_of s k n.initiator))
    (sym after) (subst
    (λ v. suc (4 * length (handshakes p).waiting + one_where req' + one_where ack' + next_left y' (next_bits s p n))
    ≤ v) (sym before) less))

-- ---- by pulses, to the target

calm_pulse_out : (s : ScenarioValue) (p : List Row) (t d : ℕ) (l o : LineSet) (n : Connection)
    (ack atn req ack' atn' req' : Bool) (x x' : ℕ) → Pulsing s p n false req ack atn x 0 → Calm s p t d l n
    (ends false ack atn x false false false req 0) (ends false ack' atn' x' false false false req' 0) o true
    → suc (waiting_out (not ack' && x' == byte_bits (data_given (sending_of s (run_state s p))))
    (length (handshakes p).waiting) + one_where req' + one_where ack' + one_where (not (x' == 0)))
    ≤ waiting_out (not ack && x == byte_bits (data_given (sending_of s (run_state s p))))
    (length (handshakes p).waiting) + one_where req + one_where ack + one_where (not (x == 0))
    → suc (measure s (row_of_lines t d l ∷ p)) ≤ measure s p
calm_pulse_out s p t d l o n ack atn req ack' atn' req' x x' h c less =
    let e : EndLines = ends false ack atn x false false false req 0 in
    let f : EndLines = ends false ack' atn' x' false false false req' 0 in
    let row : Row = row_of_lines t d l in
    let q : List Row = row ∷ p in
    let j = run_state s q in
    let k = run_state s p in
    let dv = c.row.devices in
    let dw : AreOfDevices q = (c.row.below, dv) in
    let w = length (handshakes p).waiting in
    let g = data_given (sending_of s k) in
    let hand = hand_stays s p t d l n e f o true c in
    let kept = data_row s p t d l n e f o c.row c.phase refl in
    let count = count_stays s p row n (turn e f o l) kept in
    let requests : requests_left s j n.target ≡ requests_left s k n.target =
    data_requests s q n false ack' atn' false req' x' 0 dw c.row.moves.linked
    ∙ (λ i. count i - (hand i).requests) ∙ sym (data_requests s p n false ack atn false req x 0 dv h.linked) in
    let still = calm_still s p t d l n e f o true c in
    let was = given_at s p n ack atn req x 0 dv h.linked in
    let is = given_at s q n ack' atn' req' x' 0 dw c.row.moves.linked ∙ ap data_given (sending_stays s p row still) in
    let before =
    out_shape ack atn req x (handshakes p) (offering_of s k n.target) (answering_of s k n.initiator) h.facts.asked ∙ ap
    (λ (b : ℕ). waiting_out (not ack && x == byte_bits b) w + one_where req + one_where ack + one_where (not (x == 0)))
    was in
    let after =
    out_shape ack' atn' req' x' (handshakes p) (offering_of s j n.target) (answering_of s j n.initiator) h.facts.asked
    ∙ ap (λ (b : ℕ). waiting_out (not ack' && x' == byte_bits b) w
    + one_where req' + one_where ack' + one_where (not (x' == 0))) is in
    calm_falls s p t d l n e f o true c requests
    (subst (λ v. suc v ≤ way_by true e (handshakes p) (offering_of s k n.target) (answering_of s k n.initiator))
    (sym after) (subst (λ v.
    suc (waiting_out (not ack' && x' == byte_bits g) w + one_where req' + one_where ack' + one_where (not (x' == 0)))
    ≤ v) (sym before) less))

-- ---- the kinds

pub pulsing_ends_ack : (s : ScenarioValue) (p : List Row) (t : ℕ) (n : Connection) (io req atn : Bool) (x y : ℕ)
    → AreOfDevices p → Pulsing s p n io req true atn x y
    → suc (measure s (initiator_row t n (ends false false atn x false false io req y) ∷ p)) ≤ measure s p
pulsing_ends_ack s p t n true req atn x y dv z = to_initiator x z.side z
  where
    to_initiator : (x : ℕ) → x ≡ 0 → Pulsing s p n true req true atn x y
        → suc (measure s (initiator_row t n (ends false false atn x false false true req y) ∷ p)) ≤ measure s p
    to_initiator x none h = subst (λ (v : ℕ). Pulsing s p n true req true atn v y
        → suc (measure s (initiator_row t n (ends false false atn v false false true req y) ∷ p)) ≤ measure s p)
        (sym none) (λ h. calm_pulse_in s p t n.initiator _ _ n true atn req false atn req y y h
        (calm_initiator s p t n (ends false true atn 0 false false true req y) false false atn 0 true dv h.linked
        h.phase.begun_is h.offset refl) (omega arith)) h
pulsing_ends_ack s p t n false req atn x y dv z = to_target y z.side z
  where
    to_target : (y : ℕ) → y ≡ 0 → Pulsing s p n false req true atn x y
        → suc (measure s (initiator_row t n (ends false false atn x false false false req y) ∷ p)) ≤ measure s p
    to_target y none h = subst (λ (v : ℕ). Pulsing s p n false req true atn x v
        → suc (measure s (initiator_row t n (ends false false atn x false false false req v) ∷ p)) ≤ measure s p)
        (sym none) (λ h. calm_pulse_out s p t n.initiator _ _ n true atn req false atn req x x h
        (calm_initiator s p t n (ends false true atn x false false false req 0) false false atn x true dv h.linked
        h.phase.begun_is h.offset refl) (omega arith)) h

pub pulsing_ends_req : (s : ScenarioValue) (p : List Row) (t : ℕ) (n : Connection) (io ack atn : Bool) (x y : ℕ)
    → AreOfDevices p → Pulsing s p n io true ack atn x y
    → suc (measure s (target_row t n (ends false ack atn x false false io false y) ∷ p)) ≤ measure s p
pulsing_ends_req s p t n true ack atn x y dv z = to_initiator x z.side z
  where
    to_initiator : (x : ℕ) → x ≡ 0 → Pulsing s p n true true ack atn x y
        → suc (measure s (target_row t n (ends false ack atn x false false true false y) ∷ p)) ≤ measure s p
    to_initiator x none h = subst (λ (v : ℕ). Pulsing s p n true true ack atn v y
        → suc (measure s (target_row t n (ends false ack atn v false false true false y) ∷ p)) ≤ measure s p)
        (sym none) (λ h. calm_pulse_in s p t n.target _ _ n ack atn true ack atn false y y h (calm_target s p t n
        (ends false ack atn 0 false false true true y) false y true dv h.linked h.phase.begun_is h.offset refl)
        (omega arith)) h
pulsing_ends_req s p t n false ack atn x y dv z = to_target y z.side z
  where
    to_target : (y : ℕ) → y ≡ 0 → Pulsing s p n false true ack atn x y
        → suc (measure s (target_row t n (ends false ack atn x false false false false y) ∷ p)) ≤ measure s p
    to_target y none h = subst (λ (v : ℕ). Pulsing s p n false true ack atn x v
        → suc (measure s (target_row t n (ends false ack atn x false false false false v) ∷ p)) ≤ measure s p)
        (sym none) (λ h. calm_pulse_out s p t n.target _ _ n ack atn true ack atn false x x h (calm_target s p t n
        (ends false ack atn x false false false true 0) false 0 true dv h.linked h.phase.begun_is h.offset refl)
        (omega arith)) h

-- The target changes its byte to that which is due.
pub pulsing_changes : (s : ScenarioValue) (p : List Row) (t : ℕ) (n : Connection) (ack atn : Bool) (y : ℕ)
    → AreOfDevices p → Pulsing s p n true false ack atn 0 y → (y == next_bits s p n) ≡ false
    → suc (measure s (target_row t n (ends false ack atn 0 false false true false (next_bits s p n)) ∷ p)) ≤ measure s p
pulsing_changes s p t n ack atn y dv h other =
    let z = next_bits s p n in
    let was : next_left y z ≡ 1 = ap (λ (q : Bool). one_where (not q)) other in
    let is : next_left z z ≡ 0 = ap (λ (q : Bool). one_where (not q)) (eq_self z) in
    calm_pulse_in s p t n.target _ _ n ack atn false ack atn false y z h (calm_target s p t n
    (ends false ack atn 0 false false true false y) false z true dv h.linked h.phase.begun_is h.offset refl)
    (omega (arith, was, is))

one_at_most : (q : Bool) → one_where q ≤ 1
one_at_most true = omega arith
one_at_most false = omega arith

-- The initiator drives the byte for which the oldest request waits.
pub pulsing_gives : (s : ScenarioValue) (p : List Row) (t : ℕ) (n : Connection) (req atn : Bool) (x : ℕ)
    → AreOfDevices p → Pulsing s p n false req false atn x 0 → (length (handshakes p).waiting == 0) ≡ false
    → (x == given_bits s p n (ends false false atn x false false false req 0)) ≡ false
    → suc (measure s (initiator_row t n
    (ends false false atn (given_bits s p n (ends false false atn x false false false req 0)) false false false req 0)
    ∷ p)) ≤ measure s p
pulsing_gives s p t n req atn x dv h waits other =
    let g = byte_bits (data_given (sending_of s (run_state s p))) in
    let w = length (handshakes p).waiting in
    let some = some_count w waits in
    let few = one_at_most (not (g == 0)) in
    let was : one_where ((true && x == g) && not (w == 0)) ≡ 0 = ap
    (λ (q : Bool). one_where ((true && q) && not (w == 0))) other in
    let is : one_where ((true && g == g) && not (w == 0)) ≡ 1 = λ i. one_where
    ((true && eq_self g i) && not (waits i)) in
    calm_pulse_out s p t n.initiator _ _ n false atn req false atn req x g h (calm_initiator s p t n
    (ends false false atn x false false false req 0) false false atn g true dv h.linked h.phase.begun_is h.offset refl)
    (omega (arith, some, few, was, is))

-- It releases its last byte.
pub pulsing_releases : (s : ScenarioValue) (p : List Row) (t : ℕ) (n : Connection) (req atn : Bool) (x : ℕ)
    → AreOfDevices p → Pulsing s p n false req false atn x 0
    → (length (handshakes p).waiting == 0) ≡ true → (x == 0) ≡ false
    → suc (measure s (initiator_row t n (ends false false atn 0 false false false req 0) ∷ p)) ≤ measure s p
pulsing_releases s p t n req atn x dv h none some =
    let w = length (handshakes p).waiting in
    let waits : w ≡ 0 = eqb-true w 0 none in
    let one : one_where (not (x == 0)) ≡ 1 = ap (λ (q : Bool). one_where (not q)) some in
    calm_pulse_out s p t n.initiator _ _ n false atn req false atn req x 0 h (calm_initiator s p t n
    (ends false false atn x false false false req 0) false false atn 0 true dv h.linked h.phase.begun_is h.offset refl)
    (omega (arith, waits, one))
