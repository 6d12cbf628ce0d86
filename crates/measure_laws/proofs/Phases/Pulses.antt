-- By pulses the measure falls with each row with which REQ or ACK rises.
use Rattle.measure_laws.proofs
use proofs.Names.{ℕ, suc, ◌≡◌, ◌≤◌, ◌<◌, ◌∙◌, Bool, true, false, List, [], ◌∷◌, length, refl, sym, ap, subst, arith}
use proofs.Names.{◌&&◌, ltb-true, nat_tests, ◌+◌, ◌-◌, ◌*◌, ◌++◌, ◌==◌, ◌^◌, drop, if◌then◌else◌, not, nat_lt}
use proofs.Names.{counted_on, LineSet, Row, Connection, Handshakes, answered, answered_if, asked, asked_if, handshakes}
use proofs.Names.{opened, Request, ScenarioValue, Obeys, bits_if, byte_bits, AreOfDevices, run_state, answering_of}
use proofs.Names.{offering_of, sending_of, obeys_fits, is_refusing, EndLines, initiator_side, target_side, row_of_lines}
use proofs.Names.{bytes_stay, count_stays, initiator_in_phase, no_rise, target_in_phase, initiator_row, target_row}
use proofs.Names.{runs_are_short, ends, Pulsing, byte_in_run, next_bits, run_count, data_row, turn, one_where, measure}
use proofs.{Names.{requests_left, for_byte}, Lines.Shifts.{Shifts, shift_falls}, Phases.Bytes.{quiet_other}}
use proofs.Phases.{Bytes.{shift_initiator, shift_target}, Calm.{way_by}, CalmKinds.{bits_at, data_given, data_requests}}
use proofs.Phases.{CalmKinds.{given_at}, Pulls.{in_shape, next_left, out_shape, waiting_out}, Stays.{phases_stay}}

-- ---- to the initiator

shift_in : (s : ScenarioValue) (p : List Row) (t d : ℕ) (l o : LineSet)
    (n : Connection) (ack atn req ack' atn' req' : Bool) (y y' : ℕ) (h' : Handshakes)
    → Pulsing s p n true req ack atn 0 y → Shifts s p t d l n
    (ends false ack atn 0 false false true req y) (ends false ack' atn' 0 false false true req' y') o true
    → handshakes (row_of_lines t d l ∷ p) ≡ h' → (h'.requests == 0) ≡ false
    → suc (8 * (run_count s p n - h'.requests) + (4 * length h'.waiting + one_where req' + one_where ack'
    + next_left y' (bits_if (nat_lt h'.requests (run_count s p n)) (byte_in_run s p n h'.requests))))
    ≤ 8 * (run_count s p n - (handshakes p).requests)
    + (4 * length (handshakes p).waiting + one_where req + one_where ack + next_left y (next_bits s p n))
    → suc (measure s (row_of_lines t d l ∷ p)) ≤ measure s p
shift_in s p t d l o n ack atn req ack' atn' req' y y' h' h c hand some less =
    let e : EndLines = ends false ack atn 0 false false true req y in
    let f : EndLines = ends false ack' atn' 0 false false true req' y' in
    let row : Row = row_of_lines t d l in
    let q : List Row = row ∷ p in
    let j = run_state s q in
    let k = run_state s p in
    let dv = c.row.devices in
    let dw : AreOfDevices q = (c.row.below, dv) in
    let kept = data_row s p t d l n e f o c.row c.phase refl in
    let count = count_stays s p row n (turn e f o l) kept in
    let asks : (handshakes q).requests == 0 ≡ false = ap (λ (x : Handshakes). x.requests == 0) hand ∙ some in
    let requests = data_requests s q n false ack' atn' true req' 0 y' dw c.row.moves.linked
    ∙ (λ i. count i - (hand i).requests) in
    let bits = bits_at s q n ack' atn' req' 0 y' dw c.row.moves.linked (c.begins ∙ h.phase.begun_is) c.pulsed_next
    ∙ (λ i. bits_if (nat_lt (hand i).requests (count i)) (byte_in_run s q n (hand i).requests))
    ∙ ap (λ (b : ℕ). bits_if (nat_lt h'.requests (run_count s p n)) b)
    (bytes_stay s p row n (turn e f o l) h'.requests kept) in
    let before : way_by true e (handshakes p) (offering_of s k n.target) (answering_of s k n.initiator)
    ≡ 4 * length (handshakes p).waiting + one_where req + one_where ack + next_left y (next_bits s p n) =
    in_shape ack atn req y (handshakes p) (offering_of s k n.target) (answering_of s k n.initiator) h.facts.asked
    ∙ ap (λ (b : ℕ). 4 * length (handshakes p).waiting + one_where req + one_where ack + next_left y b)
    (bits_at s p n ack atn req 0 y dv h.linked h.phase.begun_is h.offset) in
    let after : way_by true f (handshakes q) (offering_of s j n.target) (answering_of s j n.initiator)
    ≡ 4 * length h'.waiting + one_where req' + one_where ack'
    + next_left y' (bits_if (nat_lt h'.requests (run_count s p n)) (byte_in_run s p n h'.requests)) =
    in_shape ack' atn' req' y' (handshakes q) (offering_of s j n.target) (answering_of s j n.initiator) asks
    ∙ (λ i. 4 * length (hand i).waiting + one_where req' + one_where ack' + next_left y' (bits i)) in
    let was : for_byte * requests_left s k n.target
    + way_by true e (handshakes p) (offering_of s k n.target) (answering_of s k n.initiator)
    ≡ 8 * (run_count s p n - (handshakes p).requests)
    + (4 * length (handshakes p).waiting + one_where req + one_where ack + next_left y (next_bits s p n)) =
    λ i. 8 * data_requests s p n false ack atn true req 0 y dv h.linked i + before i in
    let is : for_byte * requests_left s j n.target
    + way_by true f (handshakes q) (offering_of s j n.target) (answering_of s j n.initiator)
    ≡ 8 * (run_count s p n - h'.requests) + (4 * length h'.waiting + one_where req' + one_where ack'
    + next_left y' (bits_if (nat_lt h'.requests (run_count s p n)) (byte_in_run s p n h'.requests))) =
    λ i. 8 * requests i + after i in
    shift_falls s p t d l n e f o true c (phases_stay s p t d l n e f o true c (is_refusing s p))
    (subst (λ v. suc v ≤ for_byte * requests_left s k n.target
    + way_by true e (handshakes p) (offering_of s k n.target) (answering_of s k n.initiator)) (sym is)
    (subst (λ v. suc (8 * (run_count s p n - h'.requests) + (4 * length h'.waiting + one_where req' + one_where ack'
    + next_left y' (bits_if (nat_lt h'.requests (run_count s p n)) (byte_in_run s p n h'.requests)))) ≤ v)
    (sym was) less))

-- ---- to the target

shift_out : (s : ScenarioValue) (p : List Row) (t d : ℕ) (l o : LineSet)
    (n : Connection) (ack atn req ack' atn' req' : Bool) (x x' : ℕ) (h' : Handshakes)
    → Pulsing s p n false req ack atn x 0 → Shifts s p t d l n
    (ends false ack atn x false false false req 0) (ends false ack' atn' x' false false false req' 0) o true
    → handshakes (row_of_lines t d l ∷ p) ≡ h' → (h'.requests == 0) ≡ false → ((g : ℕ)
    → suc (8 * (run_count s p n - h'.requests) + (waiting_out (not ack' && x' == byte_bits g) (length h'.waiting)
    + one_where req' + one_where ack' + one_where (not (x' == 0)))) ≤ 8 * (run_count s p n - (handshakes p).requests)
    + (waiting_out (not ack && x == byte_bits (data_given (sending_of s (run_state s p))))
    (length (handshakes p).waiting) + one_where req + one_where ack + one_where (not (x == 0))))
    → suc (measure s (row_of_lines t d l ∷ p)) ≤ measure s p
shift_out s p t d l o n ack atn req ack' atn' req' x x' h' h c hand some less =
    let e : EndLines = ends false ack atn x false false false req 0 in
    let f : EndLines = ends false ack' atn' x' false false false req' 0 in
    let row : Row = row_of_lines t d l in
    let q : List Row = row ∷ p in
    let j = run_state s q in
    let k = run_state s p in
    let dv = c.row.devices in
    let dw : AreOfDevices q = (c.row.below, dv) in
    let kept = data_row s p t d l n e f o c.row c.phase refl in
    let count = count_stays s p row n (turn e f o l) kept in
    let asks : (handshakes q).requests == 0 ≡ false = ap (λ (x : Handshakes). x.requests == 0) hand ∙ some in
    let requests = data_requests s q n false ack' atn' false req' x' 0 dw c.row.moves.linked
    ∙ (λ i. count i - (hand i).requests) in
    let g = (answering_of s j n.initiator).byte in
    let before : way_by true e (handshakes p) (offering_of s k n.target) (answering_of s k n.initiator)
    ≡ waiting_out (not ack && x == byte_bits (data_given (sending_of s k))) (length (handshakes p).waiting)
    + one_where req + one_where ack + one_where (not (x == 0)) =
    out_shape ack atn req x (handshakes p) (offering_of s k n.target) (answering_of s k n.initiator) h.facts.asked
    ∙ ap (λ (b : ℕ). waiting_out (not ack && x == byte_bits b) (length (handshakes p).waiting) + one_where req
    + one_where ack + one_where (not (x == 0))) (given_at s p n ack atn req x 0 dv h.linked) in
    let after : way_by true f (handshakes q) (offering_of s j n.target) (answering_of s j n.initiator)
    ≡ waiting_out (not ack' && x' == byte_bits g) (length h'.waiting)
    + one_where req' + one_where ack' + one_where (not (x' == 0)) =
    out_shape ack' atn' req' x' (handshakes q) (offering_of s j n.target) (answering_of s j n.initiator) asks
    ∙ (λ i. waiting_out (not ack' && x' == byte_bits g) (length (hand i).waiting)
    + one_where req' + one_where ack' + one_where (not (x' == 0))) in
    let was : for_byte * requests_left s k n.target
    + way_by true e (handshakes p) (offering_of s k n.target) (answering_of s k n.initiator)
    ≡ 8 * (run_count s p n - (handshakes p).requests)
    + (waiting_out (not ack && x == byte_bits (data_given (sending_of s k))) (length (handshakes p).waiting)
    + one_where req + one_where ack + one_where (not (x == 0))) =
    λ i. 8 * data_requests s p n false ack atn false req x 0 dv h.linked i + before i in
    let is : for_byte * requests_left s j n.target
    + way_by true f (handshakes q) (offering_of s j n.target) (answering_of s j n.initiator)
    ≡ 8 * (run_count s p n - h'.requests) + (waiting_out (not ack' && x' == byte_bits g) (length h'.waiting)
    + one_where req' + one_where ack' + one_where (not (x' == 0))) = λ i. 8 * requests i + after i in
    shift_falls s p t d l n e f o true c (phases_stay s p t d l n e f o true c (is_refusing s p))
    (subst (λ v. suc v ≤ for_byte * requests_left s k n.target
    + way_by true e (handshakes p) (offering_of s k n.target) (answering_of s k n.initiator)) (sym is) (subst
    (λ v. suc (8 * (run_count s p n - h'.requests) + (waiting_out (not ack' && x' == byte_bits g) (length h'.waiting)
    + one_where req' + one_where ack' + one_where (not (x' == 0)))) ≤ v) (sym was) (less g)))

-- ---- requests that wait

one_fewer : (w : List Request) → (length w == 0) ≡ false → suc (length (drop 1 w)) ≡ length w
one_fewer [] e = absurd cc
one_fewer (r ∷ w) e = refl

length_one : (w : List Request) (r : Request) → length (w ++ r ∷ []) ≡ suc (length w)
length_one [] r = refl
length_one (q ∷ w) r = ap suc (length_one w r)

one_more : (time : ℕ) (w : List Request) → length (opened time w) ≤ suc (length w)
one_more time w = go (nat_lt (length w) 255)
  where
    go : (q : Bool) → length (if q then w ++ record { time = time; struck = false } ∷ [] else w) ≤ suc (length w)
    go true = let z = length_one w (record { time = time; struck = false }) in omega (arith, z)
    go false = omega arith

pub one_at_most : (q : Bool) → one_where q ≤ 1
one_at_most true = omega arith
one_at_most false = omega arith

-- A byte of the run is asked for: fewer are left.
pub count_falls : (requests run : ℕ) → requests < run → run ≤ 2 ^ 43 → suc (run - counted_on requests) ≤ run - requests
count_falls requests run less few = omega (arith, less, few)

-- ---- the kinds

-- ACK rises for the oldest request that waits: of a byte to the initiator, and of one to the target.
pub pulsing_answers : (s : ScenarioValue) (p : List Row) (t : ℕ) (n : Connection) (req atn to : Bool) (y : ℕ)
    → AreOfDevices p → Pulsing s p n true req false atn 0 y → (length (handshakes p).waiting == 0) ≡ false
    → suc (measure s (initiator_row t n (ends false true to 0 false false true req y) ∷ p)) ≤ measure s p
pulsing_answers s p t n req atn to y dv h waits =
    let e : EndLines = ends false false atn 0 false false true req y in
    let f : EndLines = ends false true to 0 false false true req y in
    let c = shift_initiator s p t n e false true to 0 true dv h.linked h.phase.begun_is h.offset
    (quiet_other e f (initiator_side e) (initiator_side f) refl) in
    let hand : handshakes (row_of_lines t n.initiator (initiator_side f) ∷ p) ≡ answered t (handshakes p) =
    (initiator_in_phase p n e false true to 0 t h.linked).handshakes_are
    ∙ ap (λ (q : Bool). answered t (asked_if q t (handshakes p))) (no_rise req) in
    let fewer = one_fewer (handshakes p).waiting waits in
    shift_in s p t n.initiator _ _ n false atn req true to req y y (answered t (handshakes p)) h c hand h.facts.asked
    (omega (arith, fewer))

pub pulsing_sends : (s : ScenarioValue) (p : List Row) (t : ℕ) (n : Connection) (req atn : Bool) (x : ℕ)
    → AreOfDevices p → Pulsing s p n false req false atn x 0 → (length (handshakes p).waiting == 0) ≡ false
    → suc (measure s (initiator_row t n (ends false true atn x false false false req 0) ∷ p)) ≤ measure s p
pulsing_sends s p t n req atn x dv h waits =
    let e : EndLines = ends false false atn x false false false req 0 in
    let f : EndLines = ends false true atn x false false false req 0 in
    let c = shift_initiator s p t n e false true atn x true dv h.linked h.phase.begun_is h.offset
    (quiet_other e f (initiator_side e) (initiator_side f) refl) in
    let hand : handshakes (row_of_lines t n.initiator (initiator_side f) ∷ p) ≡ answered t (handshakes p) =
    (initiator_in_phase p n e false true atn x t h.linked).handshakes_are
    ∙ ap (λ (q : Bool). answered t (asked_if q t (handshakes p))) (no_rise req) in
    let fewer = one_fewer (handshakes p).waiting waits in
    let driven = one_at_most ((true && x == byte_bits (data_given (sending_of s (run_state s p))))
    && not (length (handshakes p).waiting == 0)) in
    shift_out s p t n.initiator _ _ n false atn req true atn req x x (answered t (handshakes p)) h c hand h.facts.asked
    (λ g. omega (arith, fewer, driven))

counted_some : (m : ℕ) → (counted_on m == 0) ≡ false
counted_some m = grind (arith, nat_tests)

-- REQ rises while a byte of the run follows.
pub pulsing_asks_in : (s : ScenarioValue) (p : List Row) (t : ℕ) (n : Connection) (ack atn : Bool) (y : ℕ) → Obeys s
    → AreOfDevices p → Pulsing s p n true false ack atn 0 y → nat_lt (handshakes p).requests (run_count s p n) ≡ true
    → suc (measure s (target_row t n (ends false ack atn 0 false false true true y) ∷ p)) ≤ measure s p
pulsing_asks_in s p t n ack atn y ob dv h follows =
    let e : EndLines = ends false ack atn 0 false false true false y in
    let f : EndLines = ends false ack atn 0 false false true true y in
    let c = shift_target s p t n e true y true dv h.linked h.phase.begun_is h.offset in
    let hand : handshakes (row_of_lines t n.target (target_side f) ∷ p) ≡ asked t (handshakes p) =
    (target_in_phase p n e true y t h.linked).handshakes_are
    ∙ ap (λ (q : Bool). answered_if q t (asked t (handshakes p))) (no_rise ack) in
    let more = one_more t (handshakes p).waiting in
    let less = count_falls (handshakes p).requests (run_count s p n)
    (ltb-true (handshakes p).requests (run_count s p n) follows) (runs_are_short s (obeys_fits s ob) p n) in
    let next = one_at_most (not (y == bits_if (nat_lt (counted_on (handshakes p).requests) (run_count s p n))
    (byte_in_run s p n (counted_on (handshakes p).requests)))) in
    shift_in s p t n.target _ _ n ack atn false ack atn true y y (asked t (handshakes p)) h c hand
    (counted_some (handshakes p).requests) (omega (arith, more, less, next))

pub pulsing_asks_out : (s : ScenarioValue) (p : List Row) (t : ℕ) (n : Connection) (ack atn : Bool) (x : ℕ) → Obeys s
    → AreOfDevices p → Pulsing s p n false false ack atn x 0 → nat_lt (handshakes p).requests (run_count s p n) ≡ true
    → suc (measure s (target_row t n (ends false ack atn x false false false true 0) ∷ p)) ≤ measure s p
pulsing_asks_out s p t n ack atn x ob dv h follows =
    let e : EndLines = ends false ack atn x false false false false 0 in
    let f : EndLines = ends false ack atn x false false false true 0 in
    let c = shift_target s p t n e true 0 true dv h.linked h.phase.begun_is h.offset in
    let hand : handshakes (row_of_lines t n.target (target_side f) ∷ p) ≡ asked t (handshakes p) =
    (target_in_phase p n e true 0 t h.linked).handshakes_are
    ∙ ap (λ (q : Bool). answered_if q t (asked t (handshakes p))) (no_rise ack) in
    let more = one_more t (handshakes p).waiting in
    let less = count_falls (handshakes p).requests (run_count s p n)
    (ltb-true (handshakes p).requests (run_count s p n) follows) (runs_are_short s (obeys_fits s ob) p n) in
    let driven = one_at_most ((not ack && x == byte_bits (data_given (sending_of s (run_state s p))))
    && not (length (handshakes p).waiting == 0)) in
    shift_out s p t n.target _ _ n ack atn false ack atn true x x (asked t (handshakes p)) h c hand
    (counted_some (handshakes p).requests) (λ g. omega (arith, more, less, driven))
