-- The next row of a connection, resets apart, by what the two ends are due to do: which lines it changes, and why, by
-- the lines alone.
use Rattle.row_laws.proofs
use proofs.Names.{ℕ, ◌≡◌, Bool, true, false, not, ◌&&◌, ◌||◌, ◌==◌, ◌∙◌, List, [], refl, ap, if◌then◌else◌, nat_lt}
use proofs.Names.{or_true, receiver, last_time, line_times, phase_time, Row, Connection, Handshakes, handshakes}
use proofs.Names.{no_handshakes, first_of, is_struck, is_of_device, ScenarioValue, attends_by, byte_bits, bits_if}
use proofs.Names.{begun, IsLeast, AreOfDevices, EndLines, connected_bus, Linked, ends_selected, unreset_due}
use proofs.Names.{row_of_lines, row_of_fault, offering_with, answering_with, target_row, initiator_row, given_bits}
use proofs.{Names.{LinkStage, ends, run_count, byte_in_run, next_bits}, Lines.Phases.{PhaseRow, phase_row}}
use Rattle.row_laws.proofs.Lines.Phases as by
pub use Rattle.row_laws.proofs.Lines.Phases.{is_pulsed, is_unasked, row_at}

-- The target drives its first byte, or need not wait for the turn of I/O.
abbrev pub has_first : List Row → (io : Bool) → ℕ → Bool
has_first p io y = not (y == 0) || not (io && (line_times p).io == phase_time (line_times p))

pub data LinkRow (s : ScenarioValue) (p : List Row) (n : Connection) (row : Row) : Type 0 where
  -- MESSAGE OUT begins after a selection
  opens : Linked p n ends_selected → begun p ≡ false
      → row ≡ target_row row.time n (ends false false true 0 true true false false 0) → LinkRow s p n row
  -- a fault strikes the byte of the last row
  strikes : (e : EndLines) (bit : ℕ) → Linked p n e → begun p ≡ true → is_of_device (receiver p) row.dev ≡ true
      → row.dev ≡ (if e.io then n.initiator else n.target) → row ≡ row_of_fault (last_time p) row.dev bit
      → LinkRow s p n row
  -- the initiator hands BSY over; releases a byte that it still drives; answers a byte, with ATN or not; ends ACK
  hands : (atn msg cd io : Bool) (y : ℕ) → Linked p n (ends true false atn 0 msg cd io false y) → begun p ≡ true
      → is_unasked p ≡ true → row ≡ initiator_row row.time n (ends false false atn 0 msg cd io false y)
      → LinkRow s p n row
  releases : (atn : Bool) (x : ℕ) (msg cd : Bool)
      → Linked p n (ends false false atn x msg cd true false 0) → begun p ≡ true → is_unasked p ≡ true
      → row ≡ initiator_row row.time n (ends false false atn 0 msg cd true false 0) → LinkRow s p n row
  answers : (atn to msg cd : Bool) (y : ℕ) → Linked p n (ends false false atn 0 msg cd true true y) → begun p ≡ true
      → (is_unasked p ≡ false) × (is_pulsed p (ends false false atn 0 msg cd true true y) ≡ false) → to
      ≡ (((handshakes p).struck || (answering_with s p n (ends false false atn 0 msg cd true true y)).speaks) || atn)
      → row ≡ initiator_row row.time n (ends false true to 0 msg cd true true y) → LinkRow s p n row
  ends_ack_in : (atn msg cd : Bool) (y : ℕ) → Linked p n (ends false true atn 0 msg cd true false y)
      → begun p ≡ true → is_unasked p ≡ false → is_pulsed p (ends false true atn 0 msg cd true false y) ≡ false
      → row ≡ initiator_row row.time n (ends false false atn 0 msg cd true false y) → LinkRow s p n row
  -- it drives its byte; raises ACK with it; ends ACK
  gives : (atn msg cd : Bool) → Linked p n (ends false false atn 0 msg cd false true 0) → begun p ≡ true
      → is_pulsed p (ends false false atn 0 msg cd false true 0) ≡ false → row ≡ initiator_row row.time n
      (ends false false (attends_by (connected_bus (ends false false atn 0 msg cd false true 0))
      (answering_with s p n (ends false false atn 0 msg cd false true 0)).attends atn)
      (byte_bits (answering_with s p n (ends false false atn 0 msg cd false true 0)).byte) msg cd false true 0)
      → LinkRow s p n row
  sends : (atn msg cd : Bool) (x : ℕ) → Linked p n (ends false false atn x msg cd false true 0)
      → begun p ≡ true → is_pulsed p (ends false false atn x msg cd false true 0) ≡ false → (x == 0) ≡ false
      → row ≡ initiator_row row.time n (ends false true atn x msg cd false true 0) → LinkRow s p n row
  ends_ack_out : (atn msg cd : Bool) (x : ℕ) → Linked p n (ends false true atn x msg cd false false 0) → begun p ≡ true
      → row ≡ initiator_row row.time n (ends false false atn 0 msg cd false false 0) → LinkRow s p n row
  -- the same by pulses
  answers_pulse : (req atn to : Bool) (y : ℕ) → Linked p n (ends false false atn 0 false false true req y)
      → begun p ≡ true → is_unasked p ≡ false → is_pulsed p (ends false false atn 0 false false true req y) ≡ true
      → to ≡ (is_struck (first_of (handshakes p).waiting) || atn)
      → row ≡ initiator_row row.time n (ends false true to 0 false false true req y) → LinkRow s p n row
  ends_ack_pulse : (io req atn : Bool) (x y : ℕ) → Linked p n (ends false true atn x false false io req y)
      → begun p ≡ true → is_unasked p ≡ false → is_pulsed p (ends false true atn x false false io req y) ≡ true
      → row ≡ initiator_row row.time n (ends false false atn x false false io req y) → LinkRow s p n row
  drives_pulsed : (req atn : Bool) (x z : ℕ) → Linked p n (ends false false atn x false false false req 0)
      → begun p ≡ true → is_pulsed p (ends false false atn x false false false req 0) ≡ true
      → row ≡ initiator_row row.time n (ends false false atn z false false false req 0) → LinkRow s p n row
  sends_pulse : (req atn : Bool) (x : ℕ) → Linked p n (ends false false atn x false false false req 0)
      → begun p ≡ true → is_pulsed p (ends false false atn x false false false req 0) ≡ true
      → x ≡ byte_bits (answering_with s p n (ends false false atn x false false false req 0)).byte
      → row ≡ initiator_row row.time n (ends false true atn x false false false req 0) → LinkRow s p n row
  -- the target drives its first byte; raises REQ first; ends REQ; raises it again; leaves the phase
  offers : (atn : Bool) (x : ℕ) (msg cd : Bool) → Linked p n (ends false false atn x msg cd true false 0)
      → begun p ≡ true → is_unasked p ≡ true → row ≡ target_row row.time n (ends false false atn x msg cd true false
      (byte_bits (offering_with s p n true (ends false false atn x msg cd true false 0)).byte))
      → LinkRow s p n row
  asks_first : (bsy atn msg cd io : Bool) (y : ℕ) → Linked p n (ends bsy false atn 0 msg cd io false y)
      → begun p ≡ true → is_unasked p ≡ true → has_first p io y ≡ true
      → row ≡ target_row row.time n (ends bsy false atn 0 msg cd io true y) → LinkRow s p n row
  ends_req : (atn msg cd io : Bool) (x y : ℕ) → Linked p n (ends false true atn x msg cd io true y)
      → begun p ≡ true → is_unasked p ≡ false → is_pulsed p (ends false true atn x msg cd io true y) ≡ false
      → row ≡ target_row row.time n (ends false true atn x msg cd io false
      (bits_if (io && (offering_with s p n true (ends false true atn x msg cd io true y)).follows)
      (offering_with s p n true (ends false true atn x msg cd io true y)).byte))
      → LinkRow s p n row
  asks_next : (atn msg cd io : Bool) (y : ℕ) → Linked p n (ends false false atn 0 msg cd io false y)
      → begun p ≡ true → is_unasked p ≡ false → is_pulsed p (ends false false atn 0 msg cd io false y) ≡ false
      → (offering_with s p n true (ends false false atn 0 msg cd io false y)).follows ≡ true
      → row ≡ target_row row.time n (ends false false atn 0 msg cd io true y) → LinkRow s p n row
  leaves : (atn msg cd io : Bool) (x y : ℕ) → Linked p n (ends false false atn x msg cd io false y)
      → begun p ≡ true → (msg && not cd) ≡ false → is_unasked p ≡ false
      → (is_pulsed p (ends false false atn x msg cd io false y) ≡ false → x ≡ 0)
      × (is_pulsed p (ends false false atn x msg cd io false y) ≡ true → (handshakes p).waiting ≡ [])
      → (offering_with s p n true (ends false false atn x msg cd io false y)).follows ≡ false
      → row ≡ row_of_lines row.time n.target (offering_with s p n true (ends false false atn x msg cd io false y)).to
      → LinkRow s p n row
  -- the same by pulses
  ends_req_pulse : (io ack atn : Bool) (x y : ℕ) → Linked p n (ends false ack atn x false false io true y)
      → begun p ≡ true → is_unasked p ≡ false → is_pulsed p (ends false ack atn x false false io true y) ≡ true
      → row ≡ target_row row.time n (ends false ack atn x false false io false y) → LinkRow s p n row
  changes_pulsed : (ack atn : Bool) (y z : ℕ) → Linked p n (ends false ack atn 0 false false true false y)
      → begun p ≡ true → is_unasked p ≡ false → is_pulsed p (ends false ack atn 0 false false true false y) ≡ true
      → row ≡ target_row row.time n (ends false ack atn 0 false false true false z) → LinkRow s p n row
  asks_pulse : (io ack atn : Bool) (x y : ℕ) → Linked p n (ends false ack atn x false false io false y) → begun p ≡ true
      → is_unasked p ≡ false → is_pulsed p (ends false ack atn x false false io false y) ≡ true → (io ≡ true → x ≡ 0)
      → (io ≡ true → (y ≡ byte_bits (offering_with s p n true (ends false ack atn x false false io false y)).byte)
      × (nat_lt (handshakes p).requests (run_count s p n) ≡ true))
      → row ≡ target_row row.time n (ends false ack atn x false false io true y) → LinkRow s p n row

-- ---- by what its stage knows

unasked : (p : List Row) → handshakes p ≡ no_handshakes → is_unasked p ≡ true
unasked p h = ap (λ (b : Handshakes). b.requests == 0) h

of_phase : (s : ScenarioValue) (p : List Row) (row : Row) (n : Connection) → PhaseRow s p n row → LinkRow s p n row
of_phase s p row n (by.opens h e) = opens h.linked h.begun_is e
of_phase s p row n (by.strikes e bit h b got who is) = strikes e bit h b got who is
of_phase s p row n (by.leaves atn msg cd io x y h b known asked rest follows e) =
    leaves atn msg cd io x y h b known asked rest follows e
of_phase s p row n (by.hands atn msg cd io y h e) =
    hands atn msg cd io y h.linked h.phase.begun_is (unasked p h.quiet) e
of_phase s p row n (by.releases atn x msg cd h some e) =
    releases atn x msg cd h.linked h.phase.begun_is (unasked p h.quiet) e
of_phase s p row n (by.offers atn x msg cd h e) = offers atn x msg cd h.linked h.phase.begun_is (unasked p h.quiet) e
of_phase s p row n (by.asks_settled bsy atn msg cd io y h e) = asks_first bsy atn msg cd io y h.linked h.phase.begun_is
    (unasked p h.quiet) (ap (λ (q : Bool). not (y == 0) || not q) h.unturned ∙ or_true (not (y == 0))) e
of_phase s p row n (by.asks_offered atn msg cd y h e) = asks_first false atn msg cd true y h.linked h.phase.begun_is
    (unasked p h.quiet) (λ i. not (h.some i) || not (true && (line_times p).io == phase_time (line_times p))) e
of_phase s p row n (by.answers atn to msg cd y h is e) =
    answers atn to msg cd y h.linked h.phase.begun_is (h.asked, h.unpulsed) is e
of_phase s p row n (by.ends_ack_in atn msg cd y h e) =
    ends_ack_in atn msg cd y h.linked h.phase.begun_is h.asked h.unpulsed e
of_phase s p row n (by.gives atn msg cd h e) = gives atn msg cd h.linked h.phase.begun_is h.unpulsed e
of_phase s p row n (by.sends atn msg cd x h some e) = sends atn msg cd x h.linked h.phase.begun_is h.unpulsed some e
of_phase s p row n (by.ends_ack_out atn msg cd x h e) = ends_ack_out atn msg cd x h.linked h.phase.begun_is e
of_phase s p row n (by.ends_req atn msg cd io x y h e) =
    ends_req atn msg cd io x y h.linked h.phase.begun_is h.asked h.unpulsed e
of_phase s p row n (by.asks_next atn msg cd io y h follows e) =
    asks_next atn msg cd io y h.linked h.phase.begun_is h.asked h.unpulsed follows e
of_phase s p row n (by.ends_ack_pulse io req atn x y h e) =
    ends_ack_pulse io req atn x y h.linked h.phase.begun_is h.facts.asked h.offset e
of_phase s p row n (by.answers_pulse req atn to y h some is e) =
    answers_pulse req atn to y h.linked h.phase.begun_is h.facts.asked h.offset is e
of_phase s p row n (by.gives_pulse req atn x h some other e) = drives_pulsed req atn x
    (given_bits s p n (ends false false atn x false false false req 0)) h.linked h.phase.begun_is h.offset e
of_phase s p row n (by.sends_pulse req atn x h some is e) =
    sends_pulse req atn x h.linked h.phase.begun_is h.offset is e
of_phase s p row n (by.releases_pulse req atn x h none some e) =
    drives_pulsed req atn x 0 h.linked h.phase.begun_is h.offset e
of_phase s p row n (by.ends_req_pulse io ack atn x y h e) =
    ends_req_pulse io ack atn x y h.linked h.phase.begun_is h.facts.asked h.offset e
of_phase s p row n (by.changes_pulse ack atn y h other e) =
    changes_pulsed ack atn y (next_bits s p n) h.linked h.phase.begun_is h.facts.asked h.offset e
of_phase s p row n (by.asks_pulse_in ack atn y h is follows room e) = asks_pulse
    true ack atn 0 y h.linked h.phase.begun_is h.facts.asked h.offset (λ i. refl)
    (λ i. (is ∙ ap (λ (q : Bool). bits_if q (byte_in_run s p n (handshakes p).requests)) follows, follows)) e
of_phase s p row n (by.asks_pulse_out ack atn x h follows room e) =
    asks_pulse false ack atn x 0 h.linked h.phase.begun_is h.facts.asked h.offset (λ i. absurd cc) (λ i. absurd cc) e

pub link_row : (s : ScenarioValue) (p : List Row) (row : Row) (n : Connection) → AreOfDevices p → LinkStage s p n
    → IsLeast (unreset_due s p) 8 row → LinkRow s p n row
link_row s p row n devices stage least = of_phase s p row n (phase_row s p row n devices stage least)
