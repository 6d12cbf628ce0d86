-- The next row of a connection, resets apart: of either end, or a fault.
use Rattle.link_laws.proofs
use proofs.Names.{◌⊎◌, inl, inr, ℕ, ◌≡◌, ◌≤◌, ◌<◌, ◌+◌, Bool, true, false, not, ◌&&◌, ◌||◌, ◌==◌, ◌∙◌, List, Some, refl}
use proofs.Names.{sym, ap, subst, arith, None, length, eqb-true, le-leb, nat_tests, none-some, if◌then◌else◌, max}
use proofs.Names.{nat_le, nat_lt, and_false, zero_of, implication_parts, times_of, implies, LineSet, none, bit_value}
use proofs.Names.{parity_of, drives, last_time, line_times, phase_time, Drives, Row, Connection, BUS_SETTLE_DELAY}
use proofs.Names.{TURN_DELAY, handshakes, no_handshakes, first_of, is_struck, dialogue, duty, pulses, no_pulses, Duty}
use proofs.Names.{is_owed, ScenarioValue, latency_of, attends_by, due_at, byte_bits, bits_if, Due, is_pulsed_phase}
use proofs.Names.{begun, Serving, phase_of, phase_leaving, Leaving, IsLeast, own_of, run_state, flip_of, serving_at}
use proofs.Names.{is_at, offset_is_byte, EndLines, initiator_side, target_side, connected_bus, Linked, BeginsSelected}
use proofs.Names.{ends_selected, own_time, unreset_due, row_of_lines, CalmStanding, HasShortLatencies, HasDevice}
use proofs.Names.{KeepsBooksIn, LinkStage, when_selected, when_settling, when_turning, when_offering, when_shaking}
use proofs.Names.{when_pulsing, ends, fits_duty, is_owed_out, OneSide, Settling, Turning, OfferingStage as Offering}
use proofs.{Names.{Shaking, times_here, offset_here, run_count, next_bits}, Dues.Ends.{due_of, Mover, by_fault}}
use proofs.Dues.Ends.{by_initiator, by_target, mover_is, target_plain, initiator_plain, offering_with, answering_with}
use proofs.Dues.{Ends.{initiator_is, sampled_or, sampled_by, is_sampling}, Facts.{never}, Stages.{selected_target}}
use proofs.Dues.Stages.{selected_initiator, settling_target, settling_initiator, handing_initiator, turning_target}
use proofs.Dues.Stages.{turned_initiator, owing_initiator, offering_target, offering_initiator, answered_target}
use proofs.Dues.Stages.{answered_initiator_in, answered_initiator_out, asking_target, asking_initiator_in}
use proofs.Dues.Stages.{asking_initiator_out, giving_initiator_out, ending_target, ending_initiator_in}
use proofs.Dues.Stages.{ending_initiator_out, ack_end_time, between_target, between_initiator_in, between_initiator_out}
use proofs.Phases.{Asks.{hold_short, releases_byte, offers_byte, Asking, asks_in, asks_out}, Crossings.{target_row}}
use proofs.Phases.Crossings.{initiator_row, takes_req_in, takes_req_out, ends_ack_in, ends_ack_out, answers_in}
use proofs.Phases.{Crossings.{gives_byte, answers_out, or_asks}, Duties.{may_ask}, Ends.{leaves_lines, AfterLink}}
use proofs.Phases.{Ends.{goes_on, unasked, leaves_phase}, Faults.{strikes_byte}, First.{opens, hands_over}}
use proofs.{Phases.{Leavings.{data_out_to_initiator}, Stays.{NextLinked}}, Pulses.Dues.{pulsed_target_in}}
use proofs.Pulses.Dues.{pulsed_target_out, pulsed_initiator_in, pulsed_initiator_out, hold_end_time, pulse_time}
use proofs.Pulses.Dues.{leaving_time, ack_pulse_end_time, answer_time, release_time, byte_driven_time, given_bits}
use proofs.Pulses.{Ends.{pulsed_leaves_in, pulsed_leaves_out}, First.{starts_in, starts_out}, In.{req_pulses_in}}
use proofs.Pulses.{In.{byte_changes_in, answers_pulse_in, ends_pulse_in}, Out.{req_ends_out, req_pulses_out}}
use proofs.Pulses.Out.{answers_pulse_out, ends_pulse_out, gives_pulsed_byte, releases_pulsed_byte, no_attention}
use proofs.{Pulses.Rows.{NextPulsing, PulseHere, req_ends_in}, Runs.Lengths.{HasShortRuns}}
use lib.Count.{ones}

-- What the next row is due to be, of the lines of one device.
reacts : (s : ScenarioValue) (p : List Row) (n : Connection) (row : Row) (d time : ℕ) (l : LineSet)
    → row.dev ≡ d → due_at time l ≡ Some (due_of row) → KeepsBooksIn p row
    → (row.time ≡ time → KeepsBooksIn p (row_of_lines row.time d l) → AfterLink s p (row_of_lines row.time d l) n)
    → AfterLink s p row n
reacts s p n row d time l same e books f =
    let z = is_at time l (due_of row) e in
    let r : row ≡ row_of_lines row.time d l = λ i. record { time = row.time; dev = same i; kind = z.kind_is i } in
    subst (λ w. AfterLink s p w n) (sym r) (f z.time_is (subst (λ w. KeepsBooksIn p w) r books))

-- A byte is never none.
zero_even : parity_of 0 ≡ true
unfolding ones
zero_even = refl

more : (b : ℕ) (q : Bool) → (b == 0) ≡ false → (b + bit_value q 256 == 0) ≡ false
more b true e = grind (arith, nat_tests)
more b false e = grind (arith, nat_tests)

pub some_byte : (b : ℕ) → (byte_bits b == 0) ≡ false
some_byte b = go (b == 0) refl
  where
    go : (r : Bool) → (b == 0) ≡ r → (b + bit_value (parity_of b) 256 == 0) ≡ false
    go true z = (λ i. zero_of b z i + bit_value (parity_of (zero_of b z i)) 256 == 0)
        ∙ ap (λ (q : Bool). 0 + bit_value q 256 == 0) zero_even
    go false z = more b (parity_of b) z

-- ---- REQ rises byte by byte

asks_by : (s : ScenarioValue) (p : List Row) (n : Connection) (atn msg cd io : Bool) (y t : ℕ)
    → OneSide io 0 y → Asking s p n atn msg cd io y t
    → is_pulsed_phase true (connected_bus (ends false false atn 0 msg cd io false y)) (dialogue p).heard.now.agreement
    ≡ false → KeepsBooksIn p (target_row t n (ends false false atn 0 msg cd io true y))
    → AfterLink s p (target_row t n (ends false false atn 0 msg cd io true y)) n
asks_by s p n atn msg cd true y t side h slow books = goes_on (asks_in s p n atn msg cd y t h slow books)
asks_by s p n atn msg cd false y t side h slow books = zero y side h slow books
  where
    zero : (y : ℕ) → y ≡ 0 → Asking s p n atn msg cd false y t → is_pulsed_phase true
        (connected_bus (ends false false atn 0 msg cd false false y)) (dialogue p).heard.now.agreement ≡ false
        → KeepsBooksIn p (target_row t n (ends false false atn 0 msg cd false true y))
        → AfterLink s p (target_row t n (ends false false atn 0 msg cd false true y)) n
    zero y e h slow books = subst (λ k. AfterLink s p (target_row t n (ends false false atn 0 msg cd false true k)) n)
        (sym e) (goes_on (asks_out s p n atn msg cd t (subst (λ k. Asking s p n atn msg cd false k t) e h) slow
        (subst (λ k. KeepsBooksIn p (target_row t n (ends false false atn 0 msg cd false true k))) e books)))

-- The first REQ of a phase, byte by byte or by pulses.
asks_first : (s : ScenarioValue) (p : List Row) (n : Connection) (atn msg cd io : Bool) (y t : ℕ)
    → OneSide io 0 y → handshakes p ≡ no_handshakes → pulses p ≡ no_pulses → Asking s p n atn msg cd io y t
    → KeepsBooksIn p (target_row t n (ends false false atn 0 msg cd io true y))
    → AfterLink s p (target_row t n (ends false false atn 0 msg cd io true y)) n
asks_first s p n atn msg cd io y t side quiet none h books = go (is_pulsed_phase true
    (connected_bus (ends false false atn 0 msg cd io false y)) (dialogue p).heard.now.agreement) refl
  where
    pulsed : (msg cd io : Bool) → OneSide io 0 y → Asking s p n atn msg cd io y t
        → KeepsBooksIn p (target_row t n (ends false false atn 0 msg cd io true y)) → is_pulsed_phase true
        (connected_bus (ends false false atn 0 msg cd io false y)) (dialogue p).heard.now.agreement ≡ true
        → AfterLink s p (target_row t n (ends false false atn 0 msg cd io true y)) n
    pulsed true cd io side h books e = absurd cc
    pulsed false true io side h books e = absurd cc
    pulsed false false true side h books e = goes_on (starts_in s p n atn y t h e (offset_is_byte p) quiet none books)
    pulsed false false false side h books e = subst
        (λ k. AfterLink s p (target_row t n (ends false false atn 0 false false false true k)) n)
        (sym side) (goes_on (starts_out s p n atn t
        (subst (λ k. Asking s p n atn false false false k t) side h) e (offset_is_byte p) quiet none
        (subst (λ k. KeepsBooksIn p (target_row t n (ends false false atn 0 false false false true k))) side books)))

    go : (q : Bool) → is_pulsed_phase true (connected_bus (ends false false atn 0 msg cd io false y))
        (dialogue p).heard.now.agreement ≡ q
        → AfterLink s p (target_row t n (ends false false atn 0 msg cd io true y)) n
    go false e = asks_by s p n atn msg cd io y t side h e books
    go true e = pulsed msg cd io side h books e

-- ---- a phase has begun, and REQ has not risen yet

abbrev There : ScenarioValue → List Row → Type 0
There s p = (d : ℕ) → d < 8 → (drives p d ≡ none) ⊎ HasDevice s d

is_device : (s : ScenarioValue) (p : List Row) (d : ℕ) (l : LineSet) → There s p → d < 8 → drives p d ≡ l
    → (l ≡ none → ⊥) → (lat : ℕ) × (latency_of s d ≡ Some lat)
is_device s p d l there lt e some = elim (there d lt) [
  | inl z ↦ absurd (some (sym e ∙ z))
  | inr h ↦ (h.latency, h.latency_is)
]

-- What is due of the initiator comes no sooner than the row.
not_sooner : (s : ScenarioValue) (p : List Row) (row : Row) (n : Connection) (e : EndLines) (lat time : ℕ) (l : LineSet)
    → CalmStanding s p → Linked p n e → begun p ≡ true → latency_of s n.initiator ≡ Some lat
    → initiator_plain s p n true e lat ≡ due_at time l → last_time p ≤ time → IsLeast (unreset_due s p) 8 row
    → row.time ≤ time
not_sooner s p row n e lat time l always h begun_is there due_is late least =
    let x : Due = record { time = time; kind = Drives l } in
    let z = sampled_by (is_sampling s p n n.initiator) (last_time p)
    (flip_of (run_state s p).faults (last_time p)) x late in
    let w = least.first n.initiator h.initiator_below z.0
    (initiator_is s p n e true lat always.devices h begun_is there ∙ ap (sampled_or s p n n.initiator) due_is ∙ z.1) in
    let u = z.2 in
    omega arith

from_settling : (s : ScenarioValue) (p : List Row) (row : Row) (n : Connection) (bsy atn msg cd io : Bool) (y : ℕ)
    → HasShortLatencies s → CalmStanding s p → There s p → last_time p ≤ row.time
    → Settling p n bsy atn msg cd io y → KeepsBooksIn p row → IsLeast (unreset_due s p) 8 row
    → Mover s p n true (ends bsy false atn 0 msg cd io false y) row → AfterLink s p row n
from_settling s p row n bsy atn msg cd io y fits always there order h books least (by_fault bit got same) =
    subst (λ w. AfterLink s p w n) (sym same) (goes_on (strikes_byte s p n row.dev bit always got
    (when_settling bsy atn msg cd io y h) (subst (λ w. KeepsBooksIn p w) same books)))
from_settling s p row n true atn msg cd io y fits always there order h books least (by_initiator lat lat_is same e) =
    reacts s p n row n.initiator ((line_times p).sel + lat)
    (initiator_side (ends false false atn 0 msg cd io false y)) same
    (sym (handing_initiator s p n atn msg cd io y lat) ∙ e) books (λ at books. hands io (h.hands refl).0 h books at)
  where
    hands : (q : Bool) → q ≡ true → Settling p n true atn msg cd q y
        → KeepsBooksIn p (initiator_row row.time n (ends false false atn 0 msg cd q false y))
        → row.time ≡ (line_times p).sel + lat
        → AfterLink s p (initiator_row row.time n (ends false false atn 0 msg cd q false y)) n
    hands true z h books at =
        let u = fits.latency n.initiator lat lat_is in
        goes_on (hands_over s p n atn msg cd y row.time order (omega arith) h books)
    hands false z h books at = absurd cc
from_settling s p row n false atn msg cd io y fits always there order h books least (by_initiator lat lat_is same e) =
    absurd (never _ (due_of row) (settling_initiator s p n atn msg cd io y lat h) e)
from_settling s p row n true atn msg cd io y fits always there order h books least (by_target lat lat_is same e) =
    let at =
    (is_at (phase_time (line_times p) + BUS_SETTLE_DELAY + lat) (target_side (ends true false atn 0 msg cd io true y))
    (due_of row) (sym (settling_target s p n true atn msg cd io y lat h) ∙ e)).time_is in
    let device = is_device s p n.initiator (initiator_side (ends true false atn 0 msg cd io false y))
    there h.linked.initiator_below h.linked.initiator (λ z. let w = ap (λ (l : LineSet). l.bsy) z in cc) in
    let hands = h.hands refl in
    let sooner = not_sooner s p row n (ends true false atn 0 msg cd io false y) device.0 ((line_times p).sel + device.0)
    (initiator_side (ends false false atn 0 msg cd io false y)) always h.linked h.phase.begun_is device.1
    (handing_initiator s p n atn msg cd io y device.0) (let u = hands.2 in omega arith) least in
    let u = hands.1 in
    let w = fits.latency n.initiator device.0 device.1 in
    absurd (omega arith)
from_settling s p row n false atn msg cd io y fits always there order h books least (by_target lat lat_is same e) =
    reacts s p n row n.target (phase_time (line_times p) + BUS_SETTLE_DELAY + lat) (target_side
    (ends false false atn 0 msg cd io true y)) same (sym (settling_target s p n false atn msg cd io y lat h) ∙ e) books
    (λ at books. asks_first s p n atn msg cd io y row.time h.side h.quiet h.pulses_are (record {
      always = always;
      order = order;
      linked = h.linked;
      phase = h.phase;
      settled = omega arith;
      duty_is = may_ask (duty p) atn msg cd io h.phase.known h.phase.owes h.duty_is;
      turn = λ a b. let u = h.turned a b in omega arith;
      set_up = λ b. let u = h.driven in omega arith;
    }) books)

from_turning : (s : ScenarioValue) (p : List Row) (row : Row) (n : Connection) (atn : Bool) (x : ℕ) (msg cd : Bool)
    → HasShortLatencies s → CalmStanding s p → There s p → last_time p ≤ row.time
    → Turning s p n atn x msg cd → KeepsBooksIn p row → IsLeast (unreset_due s p) 8 row
    → Mover s p n true (ends false false atn x msg cd true false 0) row → AfterLink s p row n
from_turning s p row n atn x msg cd fits always there order h books least (by_fault bit got same) =
    subst (λ w. AfterLink s p w n) (sym same) (goes_on (strikes_byte s p n row.dev bit always got
    (when_turning atn x msg cd h) (subst (λ w. KeepsBooksIn p w) same books)))
from_turning s p row n atn x msg cd fits always there order h books least (by_initiator lat lat_is same e) =
    go (x == 0) refl
  where
    go : (q : Bool) → (x == 0) ≡ q → AfterLink s p row n
    go true none = absurd (never _ (due_of row)
        (turned_initiator s p n atn msg cd lat (subst (λ z. Turning s p n atn z msg cd) (zero_of x none) h))
        (subst (λ z. initiator_plain s p n true (ends false false atn z msg cd true false 0) lat ≡ Some (due_of row))
        (zero_of x none) e))
    go false some =
        let owed = h.owed some in
        let hold = hold_short (dialogue p).heard.now.agreement.period in
        let raised = owed.raised in
        let at_phase = eqb-true (line_times p).io (phase_time (line_times p)) h.turned in
        let short = fits.latency n.initiator lat lat_is in
        reacts s p n row n.initiator
        ((own_of p n.initiator).ack + (times_of (dialogue p).heard.now.agreement.period).hold + lat)
        (initiator_side (ends false false atn 0 msg cd true false 0)) same
        (sym (owing_initiator s p n atn x msg cd lat h some) ∙ e) books
        (λ at books. goes_on (releases_byte s p n atn x msg cd row.time order (omega arith) some owed.other h books))
from_turning s p row n atn x msg cd fits always there order h books least (by_target lat lat_is same e) =
    go (x == 0) refl
  where
    go : (q : Bool) → (x == 0) ≡ q → AfterLink s p row n
    go true none =
        let at_zero = subst (λ z. Turning s p n atn z msg cd) (zero_of x none) h in
        reacts s p n row n.target (phase_time (line_times p) + TURN_DELAY + lat) (target_side (ends false false atn 0
        msg cd true false (byte_bits (offering_with s p n true (ends false false atn 0 msg cd true false 0)).byte)))
        same (sym (turning_target s p n atn 0 msg cd lat at_zero)
        ∙ subst (λ z. target_plain s p n true (ends false false atn z msg cd true false 0) lat ≡ Some (due_of row))
        (zero_of x none) e) books (λ at books. goes_on (offers_byte s p n atn msg cd
        (byte_bits (offering_with s p n true (ends false false atn 0 msg cd true false 0)).byte) row.time always order
        (omega arith) (some_byte (offering_with s p n true (ends false false atn 0 msg cd true false 0)).byte) at_zero
        books))
    go false some =
        let at = (is_at (phase_time (line_times p) + TURN_DELAY + lat) (target_side (ends false false atn x msg
        cd true false (byte_bits (offering_with s p n true (ends false false atn x msg cd true false 0)).byte)))
        (due_of row) (sym (turning_target s p n atn x msg cd lat h) ∙ e)).time_is in
        let owed = h.owed some in
        let device = is_device s p n.initiator
        (initiator_side (ends false false atn x msg cd true false 0)) there h.linked.initiator_below h.linked.initiator
        (λ z. let w = sym (ap (λ (l : LineSet). l.data_bits == 0) z) ∙ some in cc) in
        let sooner = not_sooner s p row n (ends false false atn x msg cd true false 0) device.0
        ((own_of p n.initiator).ack + (times_of (dialogue p).heard.now.agreement.period).hold + device.0)
        (initiator_side (ends false false atn 0 msg cd true false 0)) always h.linked h.phase.begun_is device.1
        (owing_initiator s p n atn x msg cd device.0 h some) (owed.ahead device.0 device.1) least in
        let hold = hold_short (dialogue p).heard.now.agreement.period in
        let raised = owed.raised in
        let w = fits.latency n.initiator device.0 device.1 in
        absurd (omega arith)

from_offering : (s : ScenarioValue) (p : List Row) (row : Row) (n : Connection) (atn msg cd : Bool) (y : ℕ)
    → CalmStanding s p → last_time p ≤ row.time → Offering p n atn msg cd y → KeepsBooksIn p row
    → Mover s p n true (ends false false atn 0 msg cd true false y) row → AfterLink s p row n
from_offering s p row n atn msg cd y always order h books (by_fault bit got same) =
    subst (λ w. AfterLink s p w n) (sym same) (goes_on (strikes_byte s p n row.dev bit always got
    (when_offering atn msg cd y h) (subst (λ w. KeepsBooksIn p w) same books)))
from_offering s p row n atn msg cd y always order h books (by_initiator lat lat_is same e) =
    absurd (never _ (due_of row) (offering_initiator s p n atn msg cd y lat h) e)
from_offering s p row n atn msg cd y always order h books (by_target lat lat_is same e) = reacts s p n row n.target
    (own_time p n.target + 55 + lat) (target_side (ends false false atn 0 msg cd true true y)) same
    (sym (offering_target s p n atn msg cd y lat h) ∙ e) books
    (λ at books. asks_first s p n atn msg cd true y row.time refl h.quiet h.pulses_are (record {
      always = always;
      order = order;
      linked = h.linked;
      phase = h.phase;
      settled =
          let u = h.waited in
          let w = eqb-true (line_times p).io (phase_time (line_times p)) h.turned in
          omega arith;
      duty_is = may_ask (duty p) atn msg cd true h.phase.known h.phase.owes h.duty_is;
      turn = λ a b. let u = h.waited in omega arith;
      set_up = λ b. let u = h.driven in omega arith;
    }) books)

-- ---- byte by byte

owed_out : (d : Duty) → is_owed_out d false ≡ true
owed_out Duty.Nothing = refl
owed_out _ = refl

-- MESSAGE OUT is not owed where a byte follows to the initiator.
owed_in : (d : Duty) (atn msg cd : Bool) → fits_duty d atn msg ≡ true → (msg && not cd) ≡ false
    → ((msg && cd && atn) ≡ true → ⊥) → implies (is_owed d) (msg && cd && not true) ≡ true
owed_in Duty.Nothing atn msg cd f e stop = refl
owed_in Duty.Asked atn msg cd f e stop = refl
owed_in Duty.Owed true true true f e stop = absurd (stop refl)
owed_in Duty.Owed _ _ _ f e stop = absurd cc

from_answered : (s : ScenarioValue) (p : List Row) (row : Row) (n : Connection) (msg cd io atn : Bool) (x y : ℕ)
    → CalmStanding s p → last_time p ≤ row.time → Shaking p n msg cd io true true atn x y
    → KeepsBooksIn p row → (lat : ℕ) → row.dev ≡ n.target
    → target_plain s p n true (ends false true atn x msg cd io true y) lat ≡ Some (due_of row) → AfterLink s p row n
from_answered s p row n msg cd true atn x y always order h books lat same e =
    let g = offering_with s p n true (ends false true atn x msg cd true true y) in
    reacts s p n row n.target ((line_times p).ack + lat)
    (target_side (ends false true atn x msg cd true false (bits_if (true && g.follows) g.byte))) same
    (sym (answered_target s p n msg cd true atn x y lat h) ∙ e) books
    (λ at books. goes_on (takes_req_in s p n atn msg cd y (bits_if (true && g.follows) g.byte) row.time always order
    (subst (λ z. Shaking p n msg cd true true true atn z y) h.side h) books))
from_answered s p row n msg cd false atn x y always order h books lat same e = reacts s p n row n.target
    ((line_times p).ack + lat) (target_side (ends false true atn x msg cd false false 0)) same
    (sym (answered_target s p n msg cd false atn x y lat h) ∙ e) books (λ at books. goes_on (takes_req_out s p n atn msg
    cd x row.time always order (subst (λ z. Shaking p n msg cd false true true atn x z) h.side h) books))

must_end : (s : ScenarioValue) (p : List Row) (n : Connection) (msg cd atn : Bool) (y : ℕ)
    → Shaking p n msg cd true false false atn 0 y
    → (offering_with s p n true (ends false false atn 0 msg cd true false y)).follows ≡ true → (msg && cd && atn) ≡ true
    → ⊥
must_end s p n true true true y h f z = let w = sym (unasked s p n 0 y h) ∙ f in cc
must_end s p n _ _ _ y h f z = cc

between_in : (s : ScenarioValue) (p : List Row) (row : Row) (n : Connection) (msg cd atn : Bool) (y : ℕ)
    → CalmStanding s p → last_time p ≤ row.time → Shaking p n msg cd true false false atn 0 y
    → KeepsBooksIn p row → (lat : ℕ) → row.dev ≡ n.target
    → target_plain s p n true (ends false false atn 0 msg cd true false y) lat ≡ Some (due_of row) → AfterLink s p row n
between_in s p row n msg cd atn y always order h books lat same e = go
    (offering_with s p n true (ends false false atn 0 msg cd true false y)).follows refl
    (sym (between_target s p n msg cd true atn 0 y lat h) ∙ e)
  where
    go : (q : Bool) → (offering_with s p n true (ends false false atn 0 msg cd true false y)).follows ≡ q
        → (if q then due_at (max (line_times p).ack (own_time p n.target + 55) + lat)
        (target_side (ends false false atn 0 msg cd true true y)) else due_at
        ((line_times p).ack + lat + (offering_with s p n true (ends false false atn 0 msg cd true false y)).wait)
        (offering_with s p n true (ends false false atn 0 msg cd true false y)).to) ≡ Some (due_of row)
        → AfterLink s p row n
    go true f e = reacts s p n row n.target (max (line_times p).ack (own_time p n.target + 55) + lat)
        (target_side (ends false false atn 0 msg cd true true y)) same e books
        (λ at books. asks_by s p n atn msg cd true y row.time refl (record {
          always = always;
          order = order;
          linked = h.linked;
          phase = h.phase;
          settled = let u = h.settled in omega arith;
          duty_is = owed_in (duty p) atn msg cd h.phase.owes h.phase.known (must_end s p n msg cd atn y h f);
          turn = λ a b. let u = h.turned a b in omega arith;
          set_up = λ b. let u = h.driven in omega arith;
        }) h.unpulsed books)
    go false f e = reacts s p n row n.target
        ((line_times p).ack + lat + (offering_with s p n true (ends false false atn 0 msg cd true false y)).wait)
        (offering_with s p n true (ends false false atn 0 msg cd true false y)).to same e books
        (λ at books. leaves_phase s p n msg cd true atn 0 y row.time always order h f books)

between_out : (s : ScenarioValue) (p : List Row) (row : Row) (n : Connection) (msg cd atn : Bool) → CalmStanding s p
    → last_time p ≤ row.time → Shaking p n msg cd false false false atn 0 0 → KeepsBooksIn p row → (lat : ℕ)
    → row.dev ≡ n.target → target_plain s p n true (ends false false atn 0 msg cd false false 0) lat ≡ Some (due_of row)
    → AfterLink s p row n
between_out s p row n msg cd atn always order h books lat same e = go
    (offering_with s p n true (ends false false atn 0 msg cd false false 0)).follows refl
    (sym (between_target s p n msg cd false atn 0 0 lat h) ∙ e)
  where
    go : (q : Bool) → (offering_with s p n true (ends false false atn 0 msg cd false false 0)).follows ≡ q
        → (if q then due_at ((line_times p).ack + lat) (target_side (ends false false atn 0 msg cd false true 0))
        else due_at
        ((line_times p).ack + lat + (offering_with s p n true (ends false false atn 0 msg cd false false 0)).wait)
        (offering_with s p n true (ends false false atn 0 msg cd false false 0)).to) ≡ Some (due_of row)
        → AfterLink s p row n
    go true f e = reacts s p n row n.target ((line_times p).ack + lat)
        (target_side (ends false false atn 0 msg cd false true 0)) same e books
        (λ at books. asks_by s p n atn msg cd false 0 row.time refl (record {
          always = always;
          order = order;
          linked = h.linked;
          phase = h.phase;
          settled = let u = h.settled in omega arith;
          duty_is = may_ask (duty p) atn msg cd false h.phase.known h.phase.owes (owed_out (duty p));
          turn = λ a b. absurd cc;
          set_up = λ b. absurd cc;
        }) h.unpulsed books)
    go false f e = reacts s p n row n.target
        ((line_times p).ack + lat + (offering_with s p n true (ends false false atn 0 msg cd false false 0)).wait)
        (offering_with s p n true (ends false false atn 0 msg cd false false 0)).to same e books
        (λ at books. leaves_phase s p n msg cd false atn 0 0 row.time always order h f books)

-- The initiator, in a phase to it and to the target.
by_initiator_in : (s : ScenarioValue) (p : List Row) (row : Row) (n : Connection) (msg cd req ack atn : Bool) (y : ℕ)
    → last_time p ≤ row.time → Shaking p n msg cd true req ack atn 0 y
    → KeepsBooksIn p row → (lat : ℕ) → row.dev ≡ n.initiator
    → initiator_plain s p n true (ends false ack atn 0 msg cd true req y) lat ≡ Some (due_of row) → AfterLink s p row n
by_initiator_in s p row n msg cd true true atn y order h books lat same e =
    absurd (never _ (due_of row) (answered_initiator_in s p n msg cd atn y lat h) e)
by_initiator_in s p row n msg cd true false atn y order h books lat same e =
    let atn' = ((handshakes p).struck || (answering_with s p n (ends false false atn 0 msg cd true true y)).speaks)
    || atn in
    reacts s p n row n.initiator ((line_times p).req + lat) (initiator_side (ends false true atn' 0 msg cd true true y))
    same (sym (asking_initiator_in s p n msg cd atn y lat h) ∙ e) books
    (λ at books. goes_on (answers_in s p n atn msg cd atn' y row.time order h books))
by_initiator_in s p row n msg cd false true atn y order h books lat same e = reacts s p n row n.initiator
    (ack_end_time p atn + lat) (initiator_side (ends false false atn 0 msg cd true false y)) same
    (sym (ending_initiator_in s p n msg cd atn y lat h) ∙ e) books
    (λ at books. goes_on (ends_ack_in s p n atn msg cd y row.time order h books))
by_initiator_in s p row n msg cd false false atn y order h books lat same e =
    absurd (never _ (due_of row) (between_initiator_in s p n msg cd atn y lat h) e)

attends : (msg cd a atn : Bool) → implies atn (false || msg) ≡ true → (msg && not cd) ≡ false
    → implies (if msg && cd && true then a else atn) msg ≡ true
attends true true a atn h e = or_asks a
attends true false a atn h e = absurd cc
attends false cd a atn h e = h

negated : (q : Bool) (own a t lat : ℕ) → t ≡ (if q && true then max (own + 55) (a + 90) else own + 55) + lat
    → implies q (nat_le (a + 90) t) ≡ true
negated true own a t lat e = le-leb (a + 90) t (omega arith)
negated false own a t lat e = refl

set_by : (q : Bool) (own a t lat : ℕ) → t ≡ (if q then max (own + 55) (a + 90) else own + 55) + lat → own + 55 ≤ t
set_by true own a t lat e = omega arith
set_by false own a t lat e = omega arith

by_initiator_out : (s : ScenarioValue) (p : List Row) (row : Row) (n : Connection) (msg cd req ack atn : Bool) (x : ℕ)
    → CalmStanding s p → last_time p ≤ row.time → Shaking p n msg cd false req ack atn x 0
    → KeepsBooksIn p row → (lat : ℕ) → row.dev ≡ n.initiator
    → initiator_plain s p n true (ends false ack atn x msg cd false req 0) lat ≡ Some (due_of row) → AfterLink s p row n
by_initiator_out s p row n msg cd true true atn x always order h books lat same e =
    absurd (never _ (due_of row) (answered_initiator_out s p n msg cd atn x lat h) e)
by_initiator_out s p row n msg cd true false atn x always order h books lat same e = go (x == 0) refl
  where
    go : (q : Bool) → (x == 0) ≡ q → AfterLink s p row n
    go true none =
        let at_zero = subst (λ z. Shaking p n msg cd false true false atn z 0) (zero_of x none) h in
        let a = answering_with s p n (ends false false atn 0 msg cd false true 0) in
        let atn' = attends_by (connected_bus (ends false false atn 0 msg cd false true 0)) a.attends atn in
        reacts s p n row n.initiator ((line_times p).req + lat)
        (initiator_side (ends false false atn' (byte_bits a.byte) msg cd false true 0)) same
        (sym (asking_initiator_out s p n msg cd atn lat at_zero)
        ∙ subst (λ z. initiator_plain s p n true (ends false false atn z msg cd false true 0) lat ≡ Some (due_of row))
        (zero_of x none) e) books (λ at books. goes_on (gives_byte s p n atn msg cd atn' (byte_bits a.byte) row.time
        always order (some_byte a.byte) (attends msg cd a.attends atn h.phase.asks h.phase.known) at_zero books))
    go false some = reacts s p n row n.initiator
        ((if msg && cd && true then max (own_time p n.initiator + 55) ((line_times p).atn + 90)
        else own_time p n.initiator + 55) + lat) (initiator_side (ends false true atn x msg cd false true 0)) same
        (sym (giving_initiator_out s p n msg cd atn x lat h some) ∙ e) books
        (λ at books. goes_on (answers_out s p n atn msg cd x row.time order (let u = h.driven some in
        let w = set_by (msg && cd && true) (own_time p n.initiator) (line_times p).atn row.time lat at in omega arith)
        (negated_at msg cd at) h books))
      where
        negated_at : (a b : Bool)
            → row.time ≡ (if a && b && true then max (own_time p n.initiator + 55) ((line_times p).atn + 90)
            else own_time p n.initiator + 55) + lat
            → implies (a && b) (nat_le ((line_times p).atn + 90) row.time) ≡ true
        negated_at true b at = negated b (own_time p n.initiator) (line_times p).atn row.time lat at
        negated_at false b at = refl
by_initiator_out s p row n msg cd false true atn x always order h books lat same e = reacts s p n row n.initiator
    (ack_end_time p atn + lat) (initiator_side (ends false false atn 0 msg cd false false 0)) same
    (sym (ending_initiator_out s p n msg cd atn x lat h) ∙ e) books
    (λ at books. goes_on (ends_ack_out s p n atn msg cd x row.time order h books))
by_initiator_out s p row n msg cd false false atn x always order h books lat same e =
    absurd (never _ (due_of row) (between_initiator_out s p n msg cd atn x lat h) e)

-- Both ends.
shaking_in : (s : ScenarioValue) (p : List Row) (row : Row) (n : Connection) (msg cd req ack atn : Bool) (y : ℕ)
    → CalmStanding s p → last_time p ≤ row.time → Shaking p n msg cd true req ack atn 0 y → KeepsBooksIn p row
    → Mover s p n true (ends false ack atn 0 msg cd true req y) row → AfterLink s p row n
shaking_in s p row n msg cd req ack atn y always order h books (by_fault bit got same) =
    subst (λ w. AfterLink s p w n) (sym same) (goes_on (strikes_byte s p n row.dev bit always got
    (when_shaking msg cd true req ack atn 0 y h) (subst (λ w. KeepsBooksIn p w) same books)))
shaking_in s p row n msg cd req ack atn y always order h books (by_initiator lat lat_is same e) =
    by_initiator_in s p row n msg cd req ack atn y order h books lat same e
shaking_in s p row n msg cd true true atn y always order h books (by_target lat lat_is same e) =
    from_answered s p row n msg cd true atn 0 y always order h books lat same e
shaking_in s p row n msg cd true false atn y always order h books (by_target lat lat_is same e) =
    absurd (never _ (due_of row) (asking_target s p n msg cd true atn 0 y lat h) e)
shaking_in s p row n msg cd false true atn y always order h books (by_target lat lat_is same e) =
    absurd (never _ (due_of row) (ending_target s p n msg cd true atn 0 y lat h) e)
shaking_in s p row n msg cd false false atn y always order h books (by_target lat lat_is same e) =
    between_in s p row n msg cd atn y always order h books lat same e

shaking_out : (s : ScenarioValue) (p : List Row) (row : Row) (n : Connection) (msg cd req ack atn : Bool) (x : ℕ)
    → CalmStanding s p → last_time p ≤ row.time → Shaking p n msg cd false req ack atn x 0 → KeepsBooksIn p row
    → Mover s p n true (ends false ack atn x msg cd false req 0) row → AfterLink s p row n
shaking_out s p row n msg cd req ack atn x always order h books (by_fault bit got same) =
    subst (λ w. AfterLink s p w n) (sym same) (goes_on (strikes_byte s p n row.dev bit always got
    (when_shaking msg cd false req ack atn x 0 h) (subst (λ w. KeepsBooksIn p w) same books)))
shaking_out s p row n msg cd req ack atn x always order h books (by_initiator lat lat_is same e) =
    by_initiator_out s p row n msg cd req ack atn x always order h books lat same e
shaking_out s p row n msg cd true true atn x always order h books (by_target lat lat_is same e) =
    from_answered s p row n msg cd false atn x 0 always order h books lat same e
shaking_out s p row n msg cd true false atn x always order h books (by_target lat lat_is same e) =
    absurd (never _ (due_of row) (asking_target s p n msg cd false atn x 0 lat h) e)
shaking_out s p row n msg cd false true atn x always order h books (by_target lat lat_is same e) =
    absurd (never _ (due_of row) (ending_target s p n msg cd false atn x 0 lat h) e)
shaking_out s p row n msg cd false false atn x always order h books (by_target lat lat_is same e) = between_out s p row
    n msg cd atn always order (subst (λ z. Shaking p n msg cd false false false atn z 0) h.driven h) books lat same
    (subst (λ z. target_plain s p n true (ends false false atn z msg cd false false 0) lat ≡ Some (due_of row)) h.driven
    e)

-- ---- by pulses

next_of : (s : ScenarioValue) (p : List Row) (row : Row) (n : Connection) (io req ack atn : Bool) (x y : ℕ)
    → NextPulsing s p row n io req ack atn x y → NextLinked s p row n
next_of s p row n io req ack atn x y g =
    record { order = g.order; obeys = g.obeys; stage = when_pulsing io req ack atn x y g.pulsing g.ahead }

pulses_react : (s : ScenarioValue) (p : List Row) (n : Connection) (row : Row) (io req ack atn : Bool) (x y d time : ℕ)
    (l : LineSet) → row.dev ≡ d → due_at time l ≡ Some (due_of row) → PulseHere s p row n io req ack atn x y
    → (row.time ≡ time → PulseHere s p (row_of_lines row.time d l) n io req ack atn x y
    → NextLinked s p (row_of_lines row.time d l) n) → AfterLink s p row n
pulses_react s p n row io req ack atn x y d time l same e h f =
    let z = is_at time l (due_of row) e in
    let r : row ≡ row_of_lines row.time d l = λ i. record { time = row.time; dev = same i; kind = z.kind_is i } in
    subst (λ w. AfterLink s p w n) (sym r)
    (goes_on (f z.time_is (subst (λ w. PulseHere s p w n io req ack atn x y) r h)))

owed_data : (d : Duty) (atn : Bool) → fits_duty d atn false ≡ true → implies (is_owed d) false ≡ true
owed_data Duty.Nothing atn f = refl
owed_data Duty.Asked atn f = refl
owed_data Duty.Owed atn f = let w = sym f ∙ and_false atn in absurd cc

by_target_in : (s : ScenarioValue) (p : List Row) (row : Row) (n : Connection) (req ack atn : Bool) (y lat : ℕ)
    → latency_of s n.target ≡ Some lat → row.dev ≡ n.target → PulseHere s p row n true req ack atn 0 y
    → target_plain s p n true (ends false ack atn 0 false false true req y) lat ≡ Some (due_of row)
    → AfterLink s p row n
by_target_in s p row n true ack atn y lat there same h e = pulses_react s p n row true true ack atn 0 y n.target
    ((line_times p).req + (times_here p).assertion + lat) (target_side (ends false ack atn 0 false false true false y))
    same (sym (pulsed_target_in s p n true ack atn y lat h.pulsing.offset h.pulsing.facts.asked) ∙ e) h
    (λ at k. next_of s p _ n true false ack atn 0 y (req_ends_in s p n ack atn y row.time lat there at k))
by_target_in s p row n false ack atn y lat there same h e = changes (y == next_bits s p n) refl
    (sym (pulsed_target_in s p n false ack atn y lat h.pulsing.offset h.pulsing.facts.asked) ∙ e)
  where
    leaves : (q : Bool) → (not (length (handshakes p).waiting == 0) || ack) ≡ q
        → (if q then None else due_at (leaving_time p true lat)
        (offering_with s p n true (ends false ack atn 0 false false true false y)).to) ≡ Some (due_of row)
        → AfterLink s p row n
    leaves true z e = absurd (none-some (due_of row) e)
    leaves false z e =
        let parts = implication_parts (length (handshakes p).waiting == 0) ack z in
        at_rest ack parts.1 h parts.0 e
      where
        at_rest : (ack : Bool) → ack ≡ false → PulseHere s p row n true false ack atn 0 y
            → (length (handshakes p).waiting == 0) ≡ true → due_at (leaving_time p true lat)
            (offering_with s p n true (ends false ack atn 0 false false true false y)).to ≡ Some (due_of row)
            → AfterLink s p row n
        at_rest true a h idle e = absurd cc
        at_rest false a h idle e =
            let v : Serving = serving_at s (run_state s p) n.target
            (phase_of (connected_bus (ends false false atn 0 false false true false y))) in
            let l : Leaving = phase_leaving v atn
            (phase_of (connected_bus (ends false false atn 0 false false true false y))) in
            pulses_react s p n row true false false atn 0 y n.target (leaving_time p true lat)
            (offering_with s p n true (ends false false atn 0 false false true false y)).to same e h
            (λ at k. pulsed_leaves_in s p n atn y row.time v l l.to k.always k.order k.pulsing idle (omega arith)
            (leaves_lines v false false true atn 0 y refl) k.books)

    rooms : nat_lt (handshakes p).requests (run_count s p n) ≡ true
        → (q : Bool) → nat_lt (length (handshakes p).waiting) (offset_here p) ≡ q
        → (if q then due_at (pulse_time p true lat) (target_side (ends false ack atn 0 false false true true y))
        else None) ≡ Some (due_of row)
        → AfterLink s p row n
    rooms follow false z e = absurd (none-some (due_of row) e)
    rooms follow true z e = pulses_react s p n row true false ack atn 0 y n.target (pulse_time p true lat) (target_side
        (ends false ack atn 0 false false true true y)) same e h (λ at k. next_of s p _ n true true ack atn 0 y
        (req_pulses_in s p n ack atn y row.time lat there at follow z (owed_data (duty p) atn h.pulsing.phase.owes) k))

    follows : (q : Bool) → nat_lt (handshakes p).requests (run_count s p n) ≡ q
        → (if q then (if nat_lt (length (handshakes p).waiting) (offset_here p)
        then due_at (pulse_time p true lat) (target_side (ends false ack atn 0 false false true true y)) else None)
        else if not (length (handshakes p).waiting == 0) || ack then None else due_at (leaving_time p true lat)
        (offering_with s p n true (ends false ack atn 0 false false true false y)).to) ≡ Some (due_of row)
        → AfterLink s p row n
    follows true z e = rooms z (nat_lt (length (handshakes p).waiting) (offset_here p)) refl e
    follows false z e = leaves (not (length (handshakes p).waiting == 0) || ack) refl e

    changes : (q : Bool) → (y == next_bits s p n) ≡ q → (if not q
        then due_at (hold_end_time p lat) (target_side (ends false ack atn 0 false false true false (next_bits s p n)))
        else if nat_lt (handshakes p).requests (run_count s p n)
        then (if nat_lt (length (handshakes p).waiting) (offset_here p)
        then due_at (pulse_time p true lat) (target_side (ends false ack atn 0 false false true true y)) else None)
        else if not (length (handshakes p).waiting == 0) || ack then None else due_at (leaving_time p true lat)
        (offering_with s p n true (ends false ack atn 0 false false true false y)).to) ≡ Some (due_of row)
        → AfterLink s p row n
    changes false z e = pulses_react s p n row true false ack atn 0 y n.target (hold_end_time p lat)
        (target_side (ends false ack atn 0 false false true false (next_bits s p n))) same e h (λ at k. next_of s p _ n
        true false ack atn 0 (next_bits s p n) (byte_changes_in s p n ack atn y row.time lat there at z k))
    changes true z e = follows (nat_lt (handshakes p).requests (run_count s p n)) refl e

by_target_out : (s : ScenarioValue) (p : List Row) (row : Row) (n : Connection) (req ack atn : Bool) (x lat : ℕ)
    → latency_of s n.target ≡ Some lat → row.dev ≡ n.target → PulseHere s p row n false req ack atn x 0
    → target_plain s p n true (ends false ack atn x false false false req 0) lat ≡ Some (due_of row)
    → AfterLink s p row n
by_target_out s p row n true ack atn x lat there same h e = pulses_react s p n row false true ack atn x 0 n.target
    ((line_times p).req + (times_here p).assertion + lat) (target_side (ends false ack atn x false false false false 0))
    same (sym (pulsed_target_out s p n true ack atn x lat h.pulsing.offset h.pulsing.facts.asked) ∙ e) h
    (λ at k. next_of s p _ n false false ack atn x 0 (req_ends_out s p n ack atn x row.time lat there at k))
by_target_out s p row n false ack atn x lat there same h e = follows (nat_lt (handshakes p).requests (run_count s p n))
    refl (sym (pulsed_target_out s p n false ack atn x lat h.pulsing.offset h.pulsing.facts.asked) ∙ e)
  where
    leaves : (q : Bool) → (not (length (handshakes p).waiting == 0) || ack) ≡ q
        → (if q then None else due_at (leaving_time p false lat)
        (offering_with s p n true (ends false ack atn x false false false false 0)).to) ≡ Some (due_of row)
        → AfterLink s p row n
    leaves true z e = absurd (none-some (due_of row) e)
    leaves false z e =
        let parts = implication_parts (length (handshakes p).waiting == 0) ack z in
        at_rest ack atn parts.1 (no_attention atn h.pulsing.phase.asks) h parts.0 e
      where
        at_rest : (ack atn : Bool) → ack ≡ false → atn ≡ false → PulseHere s p row n false false ack atn x 0
            → (length (handshakes p).waiting == 0) ≡ true → due_at (leaving_time p false lat)
            (offering_with s p n true (ends false ack atn x false false false false 0)).to ≡ Some (due_of row)
            → AfterLink s p row n
        at_rest true atn a b h idle e = absurd cc
        at_rest false true a b h idle e = absurd cc
        at_rest false false a b h idle e =
            let v : Serving = serving_at s (run_state s p) n.target
            (phase_of (connected_bus (ends false false false x false false false false 0))) in
            let l : Leaving = phase_leaving v false
            (phase_of (connected_bus (ends false false false x false false false false 0))) in
            pulses_react s p n row false false false false x 0 n.target (leaving_time p false lat)
            (offering_with s p n true (ends false false false x false false false false 0)).to same e h
            (λ at k. pulsed_leaves_out s p n x row.time v l l.to idle (data_out_to_initiator v) k)

    rooms : nat_lt (handshakes p).requests (run_count s p n) ≡ true
        → (q : Bool) → nat_lt (length (handshakes p).waiting) (offset_here p) ≡ q
        → (if q then due_at (pulse_time p false lat) (target_side (ends false ack atn x false false false true 0))
        else None) ≡ Some (due_of row)
        → AfterLink s p row n
    rooms follow false z e = absurd (none-some (due_of row) e)
    rooms follow true z e = pulses_react s p n row false false ack atn x 0 n.target
        (pulse_time p false lat) (target_side (ends false ack atn x false false false true 0)) same e h
        (λ at k. next_of s p _ n false true ack atn x 0
        (req_pulses_out s p n ack atn x row.time lat there at follow z (owed_data (duty p) atn h.pulsing.phase.owes) k))

    follows : (q : Bool) → nat_lt (handshakes p).requests (run_count s p n) ≡ q
        → (if q then (if nat_lt (length (handshakes p).waiting) (offset_here p)
        then due_at (pulse_time p false lat) (target_side (ends false ack atn x false false false true 0)) else None)
        else if not (length (handshakes p).waiting == 0) || ack then None else due_at (leaving_time p false lat)
        (offering_with s p n true (ends false ack atn x false false false false 0)).to) ≡ Some (due_of row)
        → AfterLink s p row n
    follows true z e = rooms z (nat_lt (length (handshakes p).waiting) (offset_here p)) refl e
    follows false z e = leaves (not (length (handshakes p).waiting == 0) || ack) refl e

pulsed_by_initiator_in :
    (s : ScenarioValue) (p : List Row) (row : Row) (n : Connection) (req ack atn : Bool) (y lat : ℕ)
    → row.dev ≡ n.initiator → PulseHere s p row n true req ack atn 0 y
    → initiator_plain s p n true (ends false ack atn 0 false false true req y) lat ≡ Some (due_of row)
    → AfterLink s p row n
pulsed_by_initiator_in s p row n req true atn y lat same h e = pulses_react s p n row true req true atn 0 y n.initiator
    (ack_pulse_end_time p atn lat) (initiator_side (ends false false atn 0 false false true req y)) same
    (sym (pulsed_initiator_in s p n req true atn y lat h.pulsing.offset) ∙ e) h
    (λ at k. next_of s p _ n true req false atn 0 y (ends_pulse_in s p n req atn y row.time lat at k))
pulsed_by_initiator_in s p row n req false atn y lat same h e = go (length (handshakes p).waiting == 0) refl
    (sym (pulsed_initiator_in s p n req false atn y lat h.pulsing.offset) ∙ e)
  where
    go : (q : Bool) → (length (handshakes p).waiting == 0) ≡ q → (if not q then due_at (answer_time s p n + lat)
        (initiator_side (ends false true (is_struck (first_of (handshakes p).waiting) || atn) 0 false false true req y))
        else None) ≡ Some (due_of row)
        → AfterLink s p row n
    go true z e = absurd (none-some (due_of row) e)
    go false z e = pulses_react s p n row true req false atn 0 y n.initiator (answer_time s p n + lat)
        (initiator_side (ends false true (is_struck (first_of (handshakes p).waiting) || atn) 0 false false true req y))
        same e h (λ at k. next_of s p _ n true req true (is_struck (first_of (handshakes p).waiting) || atn) 0 y
        (answers_pulse_in s p n req atn (is_struck (first_of (handshakes p).waiting) || atn) y row.time lat at z k))

pulsed_by_initiator_out :
    (s : ScenarioValue) (p : List Row) (row : Row) (n : Connection) (req ack atn : Bool) (x lat : ℕ)
    → latency_of s n.initiator ≡ Some lat → row.dev ≡ n.initiator → PulseHere s p row n false req ack atn x 0
    → initiator_plain s p n true (ends false ack atn x false false false req 0) lat ≡ Some (due_of row)
    → AfterLink s p row n
pulsed_by_initiator_out s p row n req true atn x lat there same h e = pulses_react s p n row false req true atn x 0
    n.initiator (ack_pulse_end_time p atn lat) (initiator_side (ends false false atn x false false false req 0)) same
    (sym (pulsed_initiator_out s p n req true atn x lat h.pulsing.offset) ∙ e) h
    (λ at m. next_of s p _ n false req false atn x 0 (ends_pulse_out s p n req atn x row.time lat there at m))
pulsed_by_initiator_out s p row n req false atn x lat there same h e = go (length (handshakes p).waiting == 0) refl
    (sym (pulsed_initiator_out s p n req false atn x lat h.pulsing.offset) ∙ e)
  where
    given : ℕ
    given = given_bits s p n (ends false false atn x false false false req 0)

    waits : (length (handshakes p).waiting == 0) ≡ false → (q : Bool) → (x == given) ≡ q
        → (if q then due_at (max (answer_time s p n) (byte_driven_time p n lat + (times_here p).set_up) + lat)
        (initiator_side (ends false true atn x false false false req 0))
        else due_at (byte_driven_time p n lat) (initiator_side (ends false false atn given false false false req 0)))
        ≡ Some (due_of row) → AfterLink s p row n
    waits some true z e =
        let byte : (x == 0) ≡ false = ap (λ (m : ℕ). m == 0) (eqb-true x given z)
        ∙ some_byte (answering_with s p n (ends false false atn x false false false req 0)).byte in
        pulses_react s p n row false req false atn x 0 n.initiator
        (max (answer_time s p n) (byte_driven_time p n lat + (times_here p).set_up) + lat)
        (initiator_side (ends false true atn x false false false req 0)) same e h (λ at m. next_of s p _ n false req
        true atn x 0 (answers_pulse_out s p n req atn x row.time lat there at some byte m))
    waits some false z e = pulses_react s p n row false req false atn x 0 n.initiator (byte_driven_time p n lat)
        (initiator_side (ends false false atn given false false false req 0)) same e h (λ at m. next_of s p _ n false
        req false atn given 0 (gives_pulsed_byte s p n req atn x given row.time lat there at some z m))

    idle : (length (handshakes p).waiting == 0) ≡ true → (q : Bool) → (x == 0) ≡ q → (if q then None
        else due_at (release_time p n lat) (initiator_side (ends false false atn 0 false false false req 0)))
        ≡ Some (due_of row) → AfterLink s p row n
    idle empty true z e = absurd (none-some (due_of row) e)
    idle empty false z e = pulses_react s p n row false req false atn x 0 n.initiator (release_time p n lat)
        (initiator_side (ends false false atn 0 false false false req 0)) same e h (λ at m. next_of s p _ n false req
        false atn 0 0 (releases_pulsed_byte s p n req atn x row.time lat there at empty z m))

    go : (q : Bool) → (length (handshakes p).waiting == 0) ≡ q
        → (if not q then (if x == given then due_at (max (answer_time s p n) (byte_driven_time p n lat
        + (times_here p).set_up) + lat) (initiator_side (ends false true atn x false false false req 0))
        else due_at (byte_driven_time p n lat) (initiator_side (ends false false atn given false false false req 0)))
        else if x == 0 then None
        else due_at (release_time p n lat) (initiator_side (ends false false atn 0 false false false req 0)))
        ≡ Some (due_of row) → AfterLink s p row n
    go false z e = waits z (x == given) refl e
    go true z e = idle z (x == 0) refl e

from_pulsing : (s : ScenarioValue) (p : List Row) (row : Row) (n : Connection) (io req ack atn : Bool) (x y : ℕ)
    → PulseHere s p row n io req ack atn x y → Mover s p n true (ends false ack atn x false false io req y) row
    → AfterLink s p row n
from_pulsing s p row n io req ack atn x y h (by_fault bit got same) =
    subst (λ w. AfterLink s p w n) (sym same) (goes_on (strikes_byte s p n row.dev bit h.always got
    (when_pulsing io req ack atn x y h.pulsing h.ahead) (subst (λ w. KeepsBooksIn p w) same h.books)))
from_pulsing s p row n true req ack atn x y h (by_initiator lat there same e) =
    let z = h.pulsing.side in
    pulsed_by_initiator_in s p row n req ack atn y lat same (subst (λ k. PulseHere s p row n true req ack atn k y) z h)
    (subst (λ k. initiator_plain s p n true (ends false ack atn k false false true req y) lat ≡ Some (due_of row)) z e)
from_pulsing s p row n false req ack atn x y h (by_initiator lat there same e) =
    let z = h.pulsing.side in
    pulsed_by_initiator_out s p row n req ack atn x lat there same
    (subst (λ k. PulseHere s p row n false req ack atn x k) z h)
    (subst (λ k. initiator_plain s p n true (ends false ack atn x false false false req k) lat ≡ Some (due_of row)) z e)
from_pulsing s p row n true req ack atn x y h (by_target lat there same e) =
    let z = h.pulsing.side in
    by_target_in s p row n req ack atn y lat there same (subst (λ k. PulseHere s p row n true req ack atn k y) z h)
    (subst (λ k. target_plain s p n true (ends false ack atn k false false true req y) lat ≡ Some (due_of row)) z e)
from_pulsing s p row n false req ack atn x y h (by_target lat there same e) =
    let z = h.pulsing.side in
    by_target_out s p row n req ack atn x lat there same (subst (λ k. PulseHere s p row n false req ack atn x k) z h)
    (subst (λ k. target_plain s p n true (ends false ack atn x false false false req k) lat ≡ Some (due_of row)) z e)

-- ---- any stage

from_selected : (s : ScenarioValue) (p : List Row) (row : Row) (n : Connection) → CalmStanding s p
    → last_time p ≤ row.time → BeginsSelected p n → KeepsBooksIn p row → Mover s p n false ends_selected row
    → AfterLink s p row n
from_selected s p row n always order h books (by_fault bit got same) = subst (λ w. AfterLink s p w n) (sym same)
    (goes_on (strikes_byte s p n row.dev bit always got (when_selected h) (subst (λ w. KeepsBooksIn p w) same books)))
from_selected s p row n always order h books (by_initiator lat lat_is same e) =
    absurd (never _ (due_of row) (selected_initiator s p n lat) e)
from_selected s p row n always order h books (by_target lat lat_is same e) = reacts s p n row n.target
    ((line_times p).sel + lat) (target_side (ends false false true 0 true true false false 0)) same
    (sym (selected_target s p n lat) ∙ e) books (λ at books. goes_on (opens s p n row.time always order h books))

pub from_link : (s : ScenarioValue) (p : List Row) (row : Row) (n : Connection) → HasShortLatencies s → HasShortRuns s
    → CalmStanding s p → There s p → LinkStage s p n → KeepsBooksIn p row → IsLeast (unreset_due s p) 8 row
    → AfterLink s p row n
from_link s p row n fits runs always there (when_selected h) books least = from_selected s p row n always
    (always.ahead row.dev least.inside (due_of row) least.is_due) h books
    (mover_is s p n false ends_selected row always.devices h.linked h.begun_is least)
from_link s p row n fits runs always there (when_settling bsy atn msg cd io y h) books least = from_settling s p row n
    bsy atn msg cd io y fits always there (always.ahead row.dev least.inside (due_of row) least.is_due) h books least
    (mover_is s p n true _ row always.devices h.linked h.phase.begun_is least)
from_link s p row n fits runs always there (when_turning atn x msg cd h) books least = from_turning s p row n
    atn x msg cd fits always there (always.ahead row.dev least.inside (due_of row) least.is_due) h books least
    (mover_is s p n true _ row always.devices h.linked h.phase.begun_is least)
from_link s p row n fits runs always there (when_offering atn msg cd y h) books least = from_offering
    s p row n atn msg cd y always (always.ahead row.dev least.inside (due_of row) least.is_due) h books
    (mover_is s p n true _ row always.devices h.linked h.phase.begun_is least)
from_link s p row n fits runs always there (when_shaking msg cd true req ack atn x y h) books least =
    let z = subst (λ k. Shaking p n msg cd true req ack atn k y) h.side h in
    shaking_in s p row n msg cd req ack atn y always (always.ahead row.dev least.inside (due_of row) least.is_due) z
    books (mover_is s p n true _ row always.devices z.linked z.phase.begun_is least)
from_link s p row n fits runs always there (when_shaking msg cd false req ack atn x y h) books least =
    let z = subst (λ k. Shaking p n msg cd false req ack atn x k) h.side h in
    shaking_out s p row n msg cd req ack atn x always (always.ahead row.dev least.inside (due_of row) least.is_due) z
    books (mover_is s p n true _ row always.devices z.linked z.phase.begun_is least)
from_link s p row n fits runs always there (when_pulsing io req ack atn x y h a) books least =
    from_pulsing s p row n io req ack atn x y (record {
      always = always;
      order = always.ahead row.dev least.inside (due_of row) least.is_due;
      pulsing = h;
      ahead = a;
      short = (let few = runs p n in omega (arith, few));
      least = least;
      books = books;
    }) (mover_is s p n true _ row always.devices h.linked h.phase.begun_is least)
