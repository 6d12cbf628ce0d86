-- The next row of a connection, resets apart, by what the two ends are due to do: which lines it changes, and all that
-- its stage knows.
use Rattle.row_laws.proofs
use proofs.Names.{ℕ, ◌≡◌, Bool, true, false, not, ◌&&◌, ◌||◌, ◌==◌, ◌∙◌, List, [], ◌∷◌, Some, None, refl, sym, ap}
use proofs.Names.{subst, arith, ◌+◌, length, eqb-true, none-some, if◌then◌else◌, max, nat_lt, wrong, zero_of}
use proofs.Names.{implication_parts, times_of, LineSet, receiver, last_time, line_times, phase_time, Row, Connection}
use proofs.Names.{BUS_SETTLE_DELAY, TURN_DELAY, handshakes, first_of, is_struck, Request, dialogue, is_of_device}
use proofs.Names.{ScenarioValue, attends_by, due_at, byte_bits, bits_if, is_pulsed_phase, begun, follows_in, Phase}
use proofs.Names.{IsLeast, own_of, AreOfDevices, run_state, serving_at, is_at, EndLines, initiator_side, target_side}
use proofs.Names.{connected_bus, Linked, BeginsSelected, ends_selected, own_time, unreset_due, row_of_lines}
use proofs.Names.{row_of_fault, due_of, Mover, by_fault, by_initiator, by_target, mover_is, target_plain}
use proofs.Names.{initiator_plain, offering_with, answering_with, never, selected_target, selected_initiator}
use proofs.Names.{settling_target, settling_initiator, handing_initiator, turning_target, turned_initiator}
use proofs.Names.{owing_initiator, offering_target, offering_initiator, answered_target, answered_initiator_in}
use proofs.Names.{answered_initiator_out, asking_target, asking_initiator_in, asking_initiator_out}
use proofs.Names.{giving_initiator_out, ending_target, ending_initiator_in, ending_initiator_out, ack_end_time}
use proofs.Names.{between_target, between_initiator_in, between_initiator_out, target_row, initiator_row, none_device}
use proofs.Names.{pulsed_target_in, pulsed_target_out, pulsed_initiator_in, pulsed_initiator_out, hold_end_time}
use proofs.Names.{pulse_time, leaving_time, ack_pulse_end_time, answer_time, release_time, byte_driven_time, given_bits}
use proofs.Names.{LinkStage, when_selected, when_settling, when_turning, when_offering, when_shaking, when_pulsing}
use proofs.Names.{ends, Settling, Turning, Offering, Shaking, Pulsing, times_here, offset_here, run_count, next_bits}
use proofs.Common.Tests.{by_bool}

-- The phase is one of data by pulses.
abbrev pub is_pulsed : List Row → EndLines → Bool
is_pulsed p e = is_pulsed_phase true (connected_bus e) (dialogue p).heard.now.agreement

-- No byte was asked for in the phase.
abbrev pub is_unasked : List Row → Bool
is_unasked p = (handshakes p).requests == 0

pub data PhaseRow (s : ScenarioValue) (p : List Row) (n : Connection) (row : Row) : Type 0 where
  -- a phase begins, is left, or its last byte is struck
  opens : BeginsSelected p n → row ≡ target_row row.time n (ends false false true 0 true true false false 0)
      → PhaseRow s p n row
  strikes : (e : EndLines) (bit : ℕ) → Linked p n e → begun p ≡ true → is_of_device (receiver p) row.dev ≡ true
      → row.dev ≡ (if e.io then n.initiator else n.target) → row ≡ row_of_fault (last_time p) row.dev bit
      → PhaseRow s p n row
  leaves : (atn msg cd io : Bool) (x y : ℕ) → Linked p n (ends false false atn x msg cd io false y)
      → begun p ≡ true → (msg && not cd) ≡ false → is_unasked p ≡ false
      → (is_pulsed p (ends false false atn x msg cd io false y) ≡ false → x ≡ 0)
      × (is_pulsed p (ends false false atn x msg cd io false y) ≡ true → (handshakes p).waiting ≡ [])
      → (offering_with s p n true (ends false false atn x msg cd io false y)).follows ≡ false
      → row ≡ row_of_lines row.time n.target (offering_with s p n true (ends false false atn x msg cd io false y)).to
      → PhaseRow s p n row
  -- before the first REQ: the initiator hands BSY over, or releases a byte that it still drives; the target drives its
  -- first byte, and raises REQ
  hands : (atn msg cd io : Bool) (y : ℕ) → Settling p n true atn msg cd io y
      → row ≡ initiator_row row.time n (ends false false atn 0 msg cd io false y) → PhaseRow s p n row
  releases : (atn : Bool) (x : ℕ) (msg cd : Bool) → Turning s p n atn x msg cd → (x == 0) ≡ false
      → row ≡ initiator_row row.time n (ends false false atn 0 msg cd true false 0) → PhaseRow s p n row
  offers : (atn : Bool) (x : ℕ) (msg cd : Bool) → Turning s p n atn x msg cd
      → row ≡ target_row row.time n (ends false false atn x msg cd true false
      (byte_bits (offering_with s p n true (ends false false atn x msg cd true false 0)).byte))
      → PhaseRow s p n row
  asks_settled : (bsy atn msg cd io : Bool) (y : ℕ) → Settling p n bsy atn msg cd io y
      → row ≡ target_row row.time n (ends bsy false atn 0 msg cd io true y) → PhaseRow s p n row
  asks_offered : (atn msg cd : Bool) (y : ℕ) → Offering p n atn msg cd y
      → row ≡ target_row row.time n (ends false false atn 0 msg cd true true y) → PhaseRow s p n row
  -- byte by byte, the initiator: it answers a byte, with ATN or not, and ends ACK; it drives its byte, raises ACK with
  -- it, and ends ACK
  answers : (atn to msg cd : Bool) (y : ℕ) → Shaking p n msg cd true true false atn 0 y → to
      ≡ (((handshakes p).struck || (answering_with s p n (ends false false atn 0 msg cd true true y)).speaks) || atn)
      → row ≡ initiator_row row.time n (ends false true to 0 msg cd true true y) → PhaseRow s p n row
  ends_ack_in : (atn msg cd : Bool) (y : ℕ) → Shaking p n msg cd true false true atn 0 y
      → row ≡ initiator_row row.time n (ends false false atn 0 msg cd true false y) → PhaseRow s p n row
  gives : (atn msg cd : Bool) → Shaking p n msg cd false true false atn 0 0 → row ≡ initiator_row row.time n
      (ends false false (attends_by (connected_bus (ends false false atn 0 msg cd false true 0))
      (answering_with s p n (ends false false atn 0 msg cd false true 0)).attends atn)
      (byte_bits (answering_with s p n (ends false false atn 0 msg cd false true 0)).byte) msg cd false true 0)
      → PhaseRow s p n row
  sends : (atn msg cd : Bool) (x : ℕ) → Shaking p n msg cd false true false atn x 0 → (x == 0) ≡ false
      → row ≡ initiator_row row.time n (ends false true atn x msg cd false true 0) → PhaseRow s p n row
  ends_ack_out : (atn msg cd : Bool) (x : ℕ) → Shaking p n msg cd false false true atn x 0
      → row ≡ initiator_row row.time n (ends false false atn 0 msg cd false false 0) → PhaseRow s p n row
  -- and the target: it ends REQ, and raises it again
  ends_req : (atn msg cd io : Bool) (x y : ℕ) → Shaking p n msg cd io true true atn x y
      → row ≡ target_row row.time n (ends false true atn x msg cd io false
      (bits_if (io && (offering_with s p n true (ends false true atn x msg cd io true y)).follows)
      (offering_with s p n true (ends false true atn x msg cd io true y)).byte))
      → PhaseRow s p n row
  asks_next : (atn msg cd io : Bool) (y : ℕ) → Shaking p n msg cd io false false atn 0 y
      → (offering_with s p n true (ends false false atn 0 msg cd io false y)).follows ≡ true
      → row ≡ target_row row.time n (ends false false atn 0 msg cd io true y) → PhaseRow s p n row
  -- by pulses, the initiator: it ends its pulse; it answers the oldest request that waits, drives the byte for it, and
  -- releases its last byte as none waits
  ends_ack_pulse : (io req atn : Bool) (x y : ℕ) → Pulsing s p n io req true atn x y
      → row ≡ initiator_row row.time n (ends false false atn x false false io req y) → PhaseRow s p n row
  answers_pulse : (req atn to : Bool) (y : ℕ) → Pulsing s p n true req false atn 0 y
      → (length (handshakes p).waiting == 0) ≡ false → to ≡ (is_struck (first_of (handshakes p).waiting) || atn)
      → row ≡ initiator_row row.time n (ends false true to 0 false false true req y) → PhaseRow s p n row
  gives_pulse : (req atn : Bool) (x : ℕ) → Pulsing s p n false req false atn x 0
      → (length (handshakes p).waiting == 0) ≡ false
      → (x == given_bits s p n (ends false false atn x false false false req 0)) ≡ false
      → row ≡ initiator_row row.time n
      (ends false false atn (given_bits s p n (ends false false atn x false false false req 0)) false false false req 0)
      → PhaseRow s p n row
  sends_pulse : (req atn : Bool) (x : ℕ) → Pulsing s p n false req false atn x 0
      → (length (handshakes p).waiting == 0) ≡ false
      → x ≡ given_bits s p n (ends false false atn x false false false req 0)
      → row ≡ initiator_row row.time n (ends false true atn x false false false req 0) → PhaseRow s p n row
  releases_pulse : (req atn : Bool) (x : ℕ) → Pulsing s p n false req false atn x 0
      → (length (handshakes p).waiting == 0) ≡ true → (x == 0) ≡ false
      → row ≡ initiator_row row.time n (ends false false atn 0 false false false req 0) → PhaseRow s p n row
  -- and the target: it ends its pulse, changes the byte to that which is due next, and pulses again
  ends_req_pulse : (io ack atn : Bool) (x y : ℕ) → Pulsing s p n io true ack atn x y
      → row ≡ target_row row.time n (ends false ack atn x false false io false y) → PhaseRow s p n row
  changes_pulse : (ack atn : Bool) (y : ℕ) → Pulsing s p n true false ack atn 0 y → (y == next_bits s p n) ≡ false
      → row ≡ target_row row.time n (ends false ack atn 0 false false true false (next_bits s p n)) → PhaseRow s p n row
  asks_pulse_in : (ack atn : Bool) (y : ℕ) → Pulsing s p n true false ack atn 0 y
      → y ≡ next_bits s p n → nat_lt (handshakes p).requests (run_count s p n) ≡ true
      → nat_lt (length (handshakes p).waiting) (offset_here p) ≡ true
      → row ≡ target_row row.time n (ends false ack atn 0 false false true true y) → PhaseRow s p n row
  asks_pulse_out : (ack atn : Bool) (x : ℕ) → Pulsing s p n false false ack atn x 0
      → nat_lt (handshakes p).requests (run_count s p n) ≡ true
      → nat_lt (length (handshakes p).waiting) (offset_here p) ≡ true
      → row ≡ target_row row.time n (ends false ack atn x false false false true 0) → PhaseRow s p n row

pub row_at : (row : Row) (d time : ℕ) (l : LineSet) → row.dev ≡ d → due_at time l ≡ Some (due_of row)
    → row ≡ row_of_lines row.time d l
row_at row d time l same e =
    let z = is_at time l (due_of row) e in
    λ i. record { time = row.time; dev = same i; kind = z.kind_is i }

-- ---- before the first REQ

of_selected : (s : ScenarioValue) (p : List Row) (row : Row) (n : Connection) → BeginsSelected p n
    → Mover s p n false ends_selected row → PhaseRow s p n row
of_selected s p row n h (by_fault bit got same) = absurd (none_device (receiver p) row.dev h.receiver_is got)
of_selected s p row n h (by_initiator lat there same e) = absurd (never _ (due_of row) (selected_initiator s p n lat) e)
of_selected s p row n h (by_target lat there same e) = opens h (row_at row n.target ((line_times p).sel + lat)
    (target_side (ends false false true 0 true true false false 0)) same (sym (selected_target s p n lat) ∙ e))

of_settling : (s : ScenarioValue) (p : List Row) (row : Row) (n : Connection) (bsy atn msg cd io : Bool) (y : ℕ)
    → Settling p n bsy atn msg cd io y → Mover s p n true (ends bsy false atn 0 msg cd io false y) row
    → PhaseRow s p n row
of_settling s p row n bsy atn msg cd io y h (by_fault bit got same) =
    absurd (none_device (receiver p) row.dev h.receiver_is got)
of_settling s p row n true atn msg cd io y h (by_initiator lat there same e) = hands atn msg cd io y h
    (row_at row n.initiator ((line_times p).sel + lat) (initiator_side (ends false false atn 0 msg cd io false y)) same
    (sym (handing_initiator s p n atn msg cd io y lat) ∙ e))
of_settling s p row n false atn msg cd io y h (by_initiator lat there same e) =
    absurd (never _ (due_of row) (settling_initiator s p n atn msg cd io y lat h) e)
of_settling s p row n bsy atn msg cd io y h (by_target lat there same e) =
    asks_settled bsy atn msg cd io y h (row_at row n.target (phase_time (line_times p) + BUS_SETTLE_DELAY + lat)
    (target_side (ends bsy false atn 0 msg cd io true y)) same
    (sym (settling_target s p n bsy atn msg cd io y lat h) ∙ e))

of_turning : (s : ScenarioValue) (p : List Row) (row : Row) (n : Connection) (atn : Bool) (x : ℕ) (msg cd : Bool)
    → Turning s p n atn x msg cd → Mover s p n true (ends false false atn x msg cd true false 0) row
    → PhaseRow s p n row
of_turning s p row n atn x msg cd h (by_fault bit got same) =
    absurd (none_device (receiver p) row.dev h.receiver_is got)
of_turning s p row n atn x msg cd h (by_initiator lat there same e) = by_bool (x == 0) (λ none. absurd (never _
    (due_of row) (turned_initiator s p n atn msg cd lat (subst (λ z. Turning s p n atn z msg cd) (zero_of x none) h))
    (subst (λ z. initiator_plain s p n true (ends false false atn z msg cd true false 0) lat ≡ Some (due_of row))
    (zero_of x none) e))) (λ some. releases atn x msg cd h some
    (row_at row n.initiator ((own_of p n.initiator).ack + (times_of (dialogue p).heard.now.agreement.period).hold + lat)
    (initiator_side (ends false false atn 0 msg cd true false 0)) same
    (sym (owing_initiator s p n atn x msg cd lat h some) ∙ e)))
of_turning s p row n atn x msg cd h (by_target lat there same e) = offers atn x msg cd h
    (row_at row n.target (phase_time (line_times p) + TURN_DELAY + lat) (target_side (ends false false atn x msg
    cd true false (byte_bits (offering_with s p n true (ends false false atn x msg cd true false 0)).byte))) same
    (sym (turning_target s p n atn x msg cd lat h) ∙ e))

of_offering : (s : ScenarioValue) (p : List Row) (row : Row) (n : Connection) (atn msg cd : Bool) (y : ℕ)
    → Offering p n atn msg cd y → Mover s p n true (ends false false atn 0 msg cd true false y) row → PhaseRow s p n row
of_offering s p row n atn msg cd y h (by_fault bit got same) =
    absurd (none_device (receiver p) row.dev h.receiver_is got)
of_offering s p row n atn msg cd y h (by_initiator lat there same e) =
    absurd (never _ (due_of row) (offering_initiator s p n atn msg cd y lat h) e)
of_offering s p row n atn msg cd y h (by_target lat there same e) =
    asks_offered atn msg cd y h (row_at row n.target (own_time p n.target + 55 + lat)
    (target_side (ends false false atn 0 msg cd true true y)) same (sym (offering_target s p n atn msg cd y lat h) ∙ e))

-- ---- byte by byte

between : (s : ScenarioValue) (p : List Row) (row : Row) (n : Connection) (msg cd io atn : Bool) (y lat : ℕ)
    → Shaking p n msg cd io false false atn 0 y → row.dev ≡ n.target
    → target_plain s p n true (ends false false atn 0 msg cd io false y) lat ≡ Some (due_of row) → PhaseRow s p n row
between s p row n msg cd io atn y lat h same e = go (offering_with s p n true
    (ends false false atn 0 msg cd io false y)).follows refl (sym (between_target s p n msg cd io atn 0 y lat h) ∙ e)
  where
    go : (q : Bool) → (offering_with s p n true (ends false false atn 0 msg cd io false y)).follows ≡ q → (if q
        then due_at ((if io then max (line_times p).ack (own_time p n.target + 55) else (line_times p).ack) + lat)
        (target_side (ends false false atn 0 msg cd io true y)) else due_at
        ((line_times p).ack + lat + (offering_with s p n true (ends false false atn 0 msg cd io false y)).wait)
        (offering_with s p n true (ends false false atn 0 msg cd io false y)).to) ≡ Some (due_of row)
        → PhaseRow s p n row
    go true f e = asks_next atn msg cd io y h f (row_at row n.target
        ((if io then max (line_times p).ack (own_time p n.target + 55) else (line_times p).ack) + lat)
        (target_side (ends false false atn 0 msg cd io true y)) same e)
    go false f e = leaves atn msg cd io 0 y h.linked h.phase.begun_is h.phase.known h.asked
        (λ z. refl, λ z. absurd (wrong (sym z ∙ h.unpulsed))) f (row_at row n.target
        ((line_times p).ack + lat + (offering_with s p n true (ends false false atn 0 msg cd io false y)).wait)
        (offering_with s p n true (ends false false atn 0 msg cd io false y)).to same e)

answered : (s : ScenarioValue) (p : List Row) (row : Row) (n : Connection) (msg cd io atn : Bool) (x y lat : ℕ)
    → Shaking p n msg cd io true true atn x y → row.dev ≡ n.target
    → target_plain s p n true (ends false true atn x msg cd io true y) lat ≡ Some (due_of row) → PhaseRow s p n row
answered s p row n msg cd io atn x y lat h same e =
    let g = offering_with s p n true (ends false true atn x msg cd io true y) in
    ends_req atn msg cd io x y h (row_at row n.target ((line_times p).ack + lat)
    (target_side (ends false true atn x msg cd io false (bits_if (io && g.follows) g.byte))) same
    (sym (answered_target s p n msg cd io atn x y lat h) ∙ e))

of_shaking_in : (s : ScenarioValue) (p : List Row) (row : Row) (n : Connection) (msg cd req ack atn : Bool) (y : ℕ)
    → Shaking p n msg cd true req ack atn 0 y → Mover s p n true (ends false ack atn 0 msg cd true req y) row
    → PhaseRow s p n row
of_shaking_in s p row n msg cd req ack atn y h (by_fault bit got same) =
    strikes (ends false ack atn 0 msg cd true req y) bit h.linked h.phase.begun_is got (h.receives row.dev got) same
of_shaking_in s p row n msg cd true true atn y h (by_initiator lat there same e) =
    absurd (never _ (due_of row) (answered_initiator_in s p n msg cd atn y lat h) e)
of_shaking_in s p row n msg cd true false atn y h (by_initiator lat there same e) =
    let to = ((handshakes p).struck || (answering_with s p n (ends false false atn 0 msg cd true true y)).speaks)
    || atn in
    answers atn to msg cd y h refl
    (row_at row n.initiator ((line_times p).req + lat) (initiator_side (ends false true to 0 msg cd true true y)) same
    (sym (asking_initiator_in s p n msg cd atn y lat h) ∙ e))
of_shaking_in s p row n msg cd false true atn y h (by_initiator lat there same e) = ends_ack_in atn msg cd y h
    (row_at row n.initiator (ack_end_time p atn + lat) (initiator_side (ends false false atn 0 msg cd true false y))
    same (sym (ending_initiator_in s p n msg cd atn y lat h) ∙ e))
of_shaking_in s p row n msg cd false false atn y h (by_initiator lat there same e) =
    absurd (never _ (due_of row) (between_initiator_in s p n msg cd atn y lat h) e)
of_shaking_in s p row n msg cd true true atn y h (by_target lat there same e) =
    answered s p row n msg cd true atn 0 y lat h same e
of_shaking_in s p row n msg cd true false atn y h (by_target lat there same e) =
    absurd (never _ (due_of row) (asking_target s p n msg cd true atn 0 y lat h) e)
of_shaking_in s p row n msg cd false true atn y h (by_target lat there same e) =
    absurd (never _ (due_of row) (ending_target s p n msg cd true atn 0 y lat h) e)
of_shaking_in s p row n msg cd false false atn y h (by_target lat there same e) =
    between s p row n msg cd true atn y lat h same e

of_shaking_out : (s : ScenarioValue) (p : List Row) (row : Row) (n : Connection) (msg cd req ack atn : Bool) (x : ℕ)
    → Shaking p n msg cd false req ack atn x 0 → Mover s p n true (ends false ack atn x msg cd false req 0) row
    → PhaseRow s p n row
of_shaking_out s p row n msg cd req ack atn x h (by_fault bit got same) =
    strikes (ends false ack atn x msg cd false req 0) bit h.linked h.phase.begun_is got (h.receives row.dev got) same
of_shaking_out s p row n msg cd true true atn x h (by_initiator lat there same e) =
    absurd (never _ (due_of row) (answered_initiator_out s p n msg cd atn x lat h) e)
of_shaking_out s p row n msg cd true false atn x h (by_initiator lat there same e) = by_bool (x == 0)
    (λ none. let at_zero = subst (λ z. Shaking p n msg cd false true false atn z 0) (zero_of x none) h in
    let a = answering_with s p n (ends false false atn 0 msg cd false true 0) in
    let to = attends_by (connected_bus (ends false false atn 0 msg cd false true 0)) a.attends atn in
    gives atn msg cd at_zero (row_at row n.initiator ((line_times p).req + lat)
    (initiator_side (ends false false to (byte_bits a.byte) msg cd false true 0)) same
    (sym (asking_initiator_out s p n msg cd atn lat at_zero)
    ∙ subst (λ z. initiator_plain s p n true (ends false false atn z msg cd false true 0) lat ≡ Some (due_of row))
    (zero_of x none) e))) (λ some. sends atn msg cd x h some
    (row_at row n.initiator ((if msg && cd && true then max (own_time p n.initiator + 55) ((line_times p).atn + 90)
    else own_time p n.initiator + 55) + lat) (initiator_side (ends false true atn x msg cd false true 0)) same
    (sym (giving_initiator_out s p n msg cd atn x lat h some) ∙ e)))
of_shaking_out s p row n msg cd false true atn x h (by_initiator lat there same e) = ends_ack_out atn msg cd x h
    (row_at row n.initiator (ack_end_time p atn + lat) (initiator_side (ends false false atn 0 msg cd false false 0))
    same (sym (ending_initiator_out s p n msg cd atn x lat h) ∙ e))
of_shaking_out s p row n msg cd false false atn x h (by_initiator lat there same e) =
    absurd (never _ (due_of row) (between_initiator_out s p n msg cd atn x lat h) e)
of_shaking_out s p row n msg cd true true atn x h (by_target lat there same e) =
    answered s p row n msg cd false atn x 0 lat h same e
of_shaking_out s p row n msg cd true false atn x h (by_target lat there same e) =
    absurd (never _ (due_of row) (asking_target s p n msg cd false atn x 0 lat h) e)
of_shaking_out s p row n msg cd false true atn x h (by_target lat there same e) =
    absurd (never _ (due_of row) (ending_target s p n msg cd false atn x 0 lat h) e)
of_shaking_out s p row n msg cd false false atn x h (by_target lat there same e) = between s p row n msg
    cd false atn 0 lat (subst (λ z. Shaking p n msg cd false false false atn z 0) h.driven h) same (subst
    (λ z. target_plain s p n true (ends false false atn z msg cd false false 0) lat ≡ Some (due_of row)) h.driven e)

-- ---- by pulses

none_waits : (waiting : List Request) → (length waiting == 0) ≡ true → waiting ≡ []
none_waits [] e = refl
none_waits (r ∷ waiting) e = let u = eqb-true (length (r ∷ waiting)) 0 e in absurd (omega arith)

-- Whether a byte follows, by the length of the run.
follows_pulsed_in :
    (s : ScenarioValue) (p : List Row) (n : Connection) (ack atn : Bool) (x y : ℕ) → nat_lt 0 (offset_here p) ≡ true
    → (offering_with s p n true (ends false ack atn x false false true false y)).follows
    ≡ nat_lt (handshakes p).requests (run_count s p n)
follows_pulsed_in s p n ack atn x y off = ap (λ (q : Bool). if q then nat_lt (handshakes p).requests (run_count s p n)
    else follows_in (serving_at s (run_state s p) n.target Phase.DataIn) (handshakes p) atn Phase.DataIn) off

follows_pulsed_out :
    (s : ScenarioValue) (p : List Row) (n : Connection) (ack atn : Bool) (x y : ℕ) → nat_lt 0 (offset_here p) ≡ true
    → (offering_with s p n true (ends false ack atn x false false false false y)).follows
    ≡ nat_lt (handshakes p).requests (run_count s p n)
follows_pulsed_out s p n ack atn x y off = ap (λ (q : Bool). if q then nat_lt (handshakes p).requests (run_count s p n)
    else follows_in (serving_at s (run_state s p) n.target Phase.DataOut) (handshakes p) atn Phase.DataOut) off

target_in : (s : ScenarioValue) (p : List Row) (row : Row) (n : Connection) (req ack atn : Bool) (y lat : ℕ)
    → Pulsing s p n true req ack atn 0 y → row.dev ≡ n.target
    → target_plain s p n true (ends false ack atn 0 false false true req y) lat ≡ Some (due_of row) → PhaseRow s p n row
target_in s p row n true ack atn y lat h same e = ends_req_pulse true ack atn 0 y h (row_at row n.target
    ((line_times p).req + (times_here p).assertion + lat) (target_side (ends false ack atn 0 false false true false y))
    same (sym (pulsed_target_in s p n true ack atn y lat h.offset h.facts.asked) ∙ e))
target_in s p row n false ack atn y lat h same e =
    changes (y == next_bits s p n) refl (sym (pulsed_target_in s p n false ack atn y lat h.offset h.facts.asked) ∙ e)
  where
    left : (q : Bool) → (not (length (handshakes p).waiting == 0) || ack) ≡ q
        → nat_lt (handshakes p).requests (run_count s p n) ≡ false
        → (if q then None else due_at (leaving_time p true lat)
        (offering_with s p n true (ends false ack atn 0 false false true false y)).to) ≡ Some (due_of row)
        → PhaseRow s p n row
    left true z f e = absurd (none-some (due_of row) e)
    left false z f e = at_rest ack (implication_parts (length (handshakes p).waiting == 0) ack z).1 h e
      where
        none : (length (handshakes p).waiting == 0) ≡ true
        none = (implication_parts (length (handshakes p).waiting == 0) ack z).0

        at_rest : (ack : Bool) → ack ≡ false → Pulsing s p n true false ack atn 0 y → due_at (leaving_time p true lat)
            (offering_with s p n true (ends false ack atn 0 false false true false y)).to ≡ Some (due_of row)
            → PhaseRow s p n row
        at_rest true a h e = absurd cc
        at_rest false a h e = leaves atn false false true 0 y h.linked h.phase.begun_is h.phase.known h.facts.asked
            (λ z. refl, λ z. none_waits (handshakes p).waiting none)
            (follows_pulsed_in s p n false atn 0 y h.offset ∙ f) (row_at row n.target (leaving_time p true lat)
            (offering_with s p n true (ends false false atn 0 false false true false y)).to same e)

    rooms : (q : Bool) → nat_lt (length (handshakes p).waiting) (offset_here p) ≡ q
        → y ≡ next_bits s p n → nat_lt (handshakes p).requests (run_count s p n) ≡ true
        → (if q then due_at (pulse_time p true lat) (target_side (ends false ack atn 0 false false true true y))
        else None) ≡ Some (due_of row)
        → PhaseRow s p n row
    rooms false z b f e = absurd (none-some (due_of row) e)
    rooms true z b f e = asks_pulse_in ack atn y h b f z (row_at row n.target (pulse_time p true lat)
        (target_side (ends false ack atn 0 false false true true y)) same e)

    follows : (q : Bool) → nat_lt (handshakes p).requests (run_count s p n) ≡ q → y ≡ next_bits s p n
        → (if q then (if nat_lt (length (handshakes p).waiting) (offset_here p)
        then due_at (pulse_time p true lat) (target_side (ends false ack atn 0 false false true true y)) else None)
        else if not (length (handshakes p).waiting == 0) || ack then None else due_at (leaving_time p true lat)
        (offering_with s p n true (ends false ack atn 0 false false true false y)).to) ≡ Some (due_of row)
        → PhaseRow s p n row
    follows true f b e = rooms (nat_lt (length (handshakes p).waiting) (offset_here p)) refl b f e
    follows false f b e = left (not (length (handshakes p).waiting == 0) || ack) refl f e

    changes : (q : Bool) → (y == next_bits s p n) ≡ q → (if not q
        then due_at (hold_end_time p lat) (target_side (ends false ack atn 0 false false true false (next_bits s p n)))
        else if nat_lt (handshakes p).requests (run_count s p n)
        then (if nat_lt (length (handshakes p).waiting) (offset_here p)
        then due_at (pulse_time p true lat) (target_side (ends false ack atn 0 false false true true y)) else None)
        else if not (length (handshakes p).waiting == 0) || ack then None else due_at (leaving_time p true lat)
        (offering_with s p n true (ends false ack atn 0 false false true false y)).to) ≡ Some (due_of row)
        → PhaseRow s p n row
    changes false z e = changes_pulse ack atn y h z (row_at row n.target (hold_end_time p lat)
        (target_side (ends false ack atn 0 false false true false (next_bits s p n))) same e)
    changes true z e =
        follows (nat_lt (handshakes p).requests (run_count s p n)) refl (eqb-true y (next_bits s p n) z) e

target_out : (s : ScenarioValue) (p : List Row) (row : Row) (n : Connection) (req ack atn : Bool) (x lat : ℕ)
    → Pulsing s p n false req ack atn x 0 → row.dev ≡ n.target
    → target_plain s p n true (ends false ack atn x false false false req 0) lat ≡ Some (due_of row)
    → PhaseRow s p n row
target_out s p row n true ack atn x lat h same e = ends_req_pulse false ack atn x 0 h (row_at row n.target
    ((line_times p).req + (times_here p).assertion + lat) (target_side (ends false ack atn x false false false false 0))
    same (sym (pulsed_target_out s p n true ack atn x lat h.offset h.facts.asked) ∙ e))
target_out s p row n false ack atn x lat h same e = follows (nat_lt (handshakes p).requests (run_count s p n)) refl
    (sym (pulsed_target_out s p n false ack atn x lat h.offset h.facts.asked) ∙ e)
  where
    left : (q : Bool) → (not (length (handshakes p).waiting == 0) || ack) ≡ q
        → nat_lt (handshakes p).requests (run_count s p n) ≡ false
        → (if q then None else due_at (leaving_time p false lat)
        (offering_with s p n true (ends false ack atn x false false false false 0)).to) ≡ Some (due_of row)
        → PhaseRow s p n row
    left true z f e = absurd (none-some (due_of row) e)
    left false z f e = at_rest ack (implication_parts (length (handshakes p).waiting == 0) ack z).1 h e
      where
        none : (length (handshakes p).waiting == 0) ≡ true
        none = (implication_parts (length (handshakes p).waiting == 0) ack z).0

        at_rest : (ack : Bool) → ack ≡ false → Pulsing s p n false false ack atn x 0 → due_at (leaving_time p false lat)
            (offering_with s p n true (ends false ack atn x false false false false 0)).to ≡ Some (due_of row)
            → PhaseRow s p n row
        at_rest true a h e = absurd cc
        at_rest false a h e = leaves atn false false false x 0 h.linked h.phase.begun_is h.phase.known h.facts.asked
            (λ z. let w = sym h.offset ∙ z in absurd cc, λ z. none_waits (handshakes p).waiting none)
            (follows_pulsed_out s p n false atn x 0 h.offset ∙ f) (row_at row n.target (leaving_time p false lat)
            (offering_with s p n true (ends false false atn x false false false false 0)).to same e)

    rooms : (q : Bool) → nat_lt (length (handshakes p).waiting) (offset_here p) ≡ q
        → nat_lt (handshakes p).requests (run_count s p n) ≡ true
        → (if q then due_at (pulse_time p false lat) (target_side (ends false ack atn x false false false true 0))
        else None) ≡ Some (due_of row)
        → PhaseRow s p n row
    rooms false z f e = absurd (none-some (due_of row) e)
    rooms true z f e = asks_pulse_out ack atn x h f z (row_at row n.target (pulse_time p false lat)
        (target_side (ends false ack atn x false false false true 0)) same e)

    follows : (q : Bool) → nat_lt (handshakes p).requests (run_count s p n) ≡ q
        → (if q then (if nat_lt (length (handshakes p).waiting) (offset_here p)
        then due_at (pulse_time p false lat) (target_side (ends false ack atn x false false false true 0)) else None)
        else if not (length (handshakes p).waiting == 0) || ack then None else due_at (leaving_time p false lat)
        (offering_with s p n true (ends false ack atn x false false false false 0)).to) ≡ Some (due_of row)
        → PhaseRow s p n row
    follows true f e = rooms (nat_lt (length (handshakes p).waiting) (offset_here p)) refl f e
    follows false f e = left (not (length (handshakes p).waiting == 0) || ack) refl f e

initiator_in : (s : ScenarioValue) (p : List Row) (row : Row) (n : Connection) (req ack atn : Bool) (y lat : ℕ)
    → Pulsing s p n true req ack atn 0 y → row.dev ≡ n.initiator
    → initiator_plain s p n true (ends false ack atn 0 false false true req y) lat ≡ Some (due_of row)
    → PhaseRow s p n row
initiator_in s p row n req true atn y lat h same e = ends_ack_pulse true req atn 0 y h (row_at row n.initiator
    (ack_pulse_end_time p atn lat) (initiator_side (ends false false atn 0 false false true req y)) same
    (sym (pulsed_initiator_in s p n req true atn y lat h.offset) ∙ e))
initiator_in s p row n req false atn y lat h same e =
    go (length (handshakes p).waiting == 0) refl (sym (pulsed_initiator_in s p n req false atn y lat h.offset) ∙ e)
  where
    go : (q : Bool) → (length (handshakes p).waiting == 0) ≡ q → (if not q then due_at (answer_time s p n + lat)
        (initiator_side (ends false true (is_struck (first_of (handshakes p).waiting) || atn) 0 false false true req y))
        else None) ≡ Some (due_of row)
        → PhaseRow s p n row
    go true z e = absurd (none-some (due_of row) e)
    go false z e = answers_pulse req atn (is_struck (first_of (handshakes p).waiting) || atn) y h z refl
        (row_at row n.initiator (answer_time s p n + lat)
        (initiator_side (ends false true (is_struck (first_of (handshakes p).waiting) || atn) 0 false false true req y))
        same e)

initiator_out : (s : ScenarioValue) (p : List Row) (row : Row) (n : Connection) (req ack atn : Bool) (x lat : ℕ)
    → Pulsing s p n false req ack atn x 0 → row.dev ≡ n.initiator
    → initiator_plain s p n true (ends false ack atn x false false false req 0) lat ≡ Some (due_of row)
    → PhaseRow s p n row
initiator_out s p row n req true atn x lat h same e = ends_ack_pulse false req atn x 0 h (row_at row n.initiator
    (ack_pulse_end_time p atn lat) (initiator_side (ends false false atn x false false false req 0)) same
    (sym (pulsed_initiator_out s p n req true atn x lat h.offset) ∙ e))
initiator_out s p row n req false atn x lat h same e =
    go (length (handshakes p).waiting == 0) refl (sym (pulsed_initiator_out s p n req false atn x lat h.offset) ∙ e)
  where
    given : ℕ
    given = given_bits s p n (ends false false atn x false false false req 0)

    waits : (length (handshakes p).waiting == 0) ≡ false → (q : Bool) → (x == given) ≡ q
        → (if q then due_at (max (answer_time s p n) (byte_driven_time p n lat + (times_here p).set_up) + lat)
        (initiator_side (ends false true atn x false false false req 0))
        else due_at (byte_driven_time p n lat) (initiator_side (ends false false atn given false false false req 0)))
        ≡ Some (due_of row) → PhaseRow s p n row
    waits some true z e = sends_pulse req atn x h some (eqb-true x given z)
        (row_at row n.initiator (max (answer_time s p n) (byte_driven_time p n lat + (times_here p).set_up) + lat)
        (initiator_side (ends false true atn x false false false req 0)) same e)
    waits some false z e = gives_pulse req atn x h some z (row_at row n.initiator (byte_driven_time p n lat)
        (initiator_side (ends false false atn given false false false req 0)) same e)

    idle : (length (handshakes p).waiting == 0) ≡ true → (q : Bool) → (x == 0) ≡ q → (if q then None
        else due_at (release_time p n lat) (initiator_side (ends false false atn 0 false false false req 0)))
        ≡ Some (due_of row) → PhaseRow s p n row
    idle none true z e = absurd (none-some (due_of row) e)
    idle none false z e = releases_pulse req atn x h none z (row_at row n.initiator (release_time p n lat)
        (initiator_side (ends false false atn 0 false false false req 0)) same e)

    go : (q : Bool) → (length (handshakes p).waiting == 0) ≡ q
        → (if not q then (if x == given then due_at (max (answer_time s p n) (byte_driven_time p n lat
        + (times_here p).set_up) + lat) (initiator_side (ends false true atn x false false false req 0))
        else due_at (byte_driven_time p n lat) (initiator_side (ends false false atn given false false false req 0)))
        else if x == 0 then None
        else due_at (release_time p n lat) (initiator_side (ends false false atn 0 false false false req 0)))
        ≡ Some (due_of row) → PhaseRow s p n row
    go false z e = waits z (x == given) refl e
    go true z e = idle z (x == 0) refl e

of_pulsing : (s : ScenarioValue) (p : List Row) (row : Row) (n : Connection) (io req ack atn : Bool) (x y : ℕ)
    → Pulsing s p n io req ack atn x y → Mover s p n true (ends false ack atn x false false io req y) row
    → PhaseRow s p n row
of_pulsing s p row n io req ack atn x y h (by_fault bit got same) =
    strikes (ends false ack atn x false false io req y) bit h.linked h.phase.begun_is got (h.receives row.dev got) same
of_pulsing s p row n true req ack atn x y h (by_initiator lat there same e) =
    let z = h.side in
    initiator_in s p row n req ack atn y lat (subst (λ k. Pulsing s p n true req ack atn k y) z h) same
    (subst (λ k. initiator_plain s p n true (ends false ack atn k false false true req y) lat ≡ Some (due_of row)) z e)
of_pulsing s p row n false req ack atn x y h (by_initiator lat there same e) =
    let z = h.side in
    initiator_out s p row n req ack atn x lat (subst (λ k. Pulsing s p n false req ack atn x k) z h) same
    (subst (λ k. initiator_plain s p n true (ends false ack atn x false false false req k) lat ≡ Some (due_of row)) z e)
of_pulsing s p row n true req ack atn x y h (by_target lat there same e) =
    let z = h.side in
    target_in s p row n req ack atn y lat (subst (λ k. Pulsing s p n true req ack atn k y) z h) same
    (subst (λ k. target_plain s p n true (ends false ack atn k false false true req y) lat ≡ Some (due_of row)) z e)
of_pulsing s p row n false req ack atn x y h (by_target lat there same e) =
    let z = h.side in
    target_out s p row n req ack atn x lat (subst (λ k. Pulsing s p n false req ack atn x k) z h) same
    (subst (λ k. target_plain s p n true (ends false ack atn x false false false req k) lat ≡ Some (due_of row)) z e)

-- ---- any stage

pub phase_row : (s : ScenarioValue) (p : List Row) (row : Row) (n : Connection) → AreOfDevices p → LinkStage s p n
    → IsLeast (unreset_due s p) 8 row → PhaseRow s p n row
phase_row s p row n d (when_selected h) least =
    of_selected s p row n h (mover_is s p n false ends_selected row d h.linked h.begun_is least)
phase_row s p row n d (when_settling bsy atn msg cd io y h) least =
    of_settling s p row n bsy atn msg cd io y h (mover_is s p n true _ row d h.linked h.phase.begun_is least)
phase_row s p row n d (when_turning atn x msg cd h) least =
    of_turning s p row n atn x msg cd h (mover_is s p n true _ row d h.linked h.phase.begun_is least)
phase_row s p row n d (when_offering atn msg cd y h) least =
    of_offering s p row n atn msg cd y h (mover_is s p n true _ row d h.linked h.phase.begun_is least)
phase_row s p row n d (when_shaking msg cd true req ack atn x y h) least =
    let z = subst (λ k. Shaking p n msg cd true req ack atn k y) h.side h in
    of_shaking_in s p row n msg cd req ack atn y z (mover_is s p n true _ row d z.linked z.phase.begun_is least)
phase_row s p row n d (when_shaking msg cd false req ack atn x y h) least =
    let z = subst (λ k. Shaking p n msg cd false req ack atn x k) h.side h in
    of_shaking_out s p row n msg cd req ack atn x z (mover_is s p n true _ row d z.linked z.phase.begun_is least)
phase_row s p row n d (when_pulsing io req ack atn x y h a) least =
    of_pulsing s p row n io req ack atn x y h (mover_is s p n true _ row d h.linked h.phase.begun_is least)
