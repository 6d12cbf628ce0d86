-- When the two ends of a data phase by pulses act next, by plain values.
use Rattle.link_laws.proofs
use proofs.Names.{ℕ, ◌≡◌, ◌≤◌, ◌+◌, Bool, true, false, not, ◌||◌, ◌==◌, ◌∙◌, List, length, Option, Some, None, refl}
use proofs.Names.{sym, ap, subst, arith, same_Some, none-some, if◌then◌else◌, max, nat_lt, none_number, LineSet, none}
use proofs.Names.{last_time, line_times, Drives, Row, Connection, handshakes, first_of, is_struck, ScenarioValue}
use proofs.Names.{latency_of, due_at, byte_bits, Due, begun, byte_to_send, IsLeast, AreOfDevices, run_state, flip_of}
use proofs.Names.{sending_of, is_at, EndLines, initiator_side, target_side, Linked, unreset_due, ends, times_here}
use proofs.Names.{offset_here, run_count, next_bits, given_here, target_time, initiator_time, target_next_at}
use proofs.{Names.{initiator_next_at}, Dues.Ends.{offering_with, target_plain, initiator_plain, target_is}}
use proofs.{Dues.Ends.{initiator_is, sampled_or, sampled_by, is_sampling}, Pulses.Dues.{hold_end_time, pulse_time}}
use proofs.Pulses.Dues.{leaving_time, ack_pulse_end_time, answer_time, release_time, byte_driven_time, target_choice}
use proofs.Pulses.Dues.{initiator_choice, given_bits, pulsed_target_in, pulsed_target_out, pulsed_initiator_in}
use proofs.Pulses.Dues.{pulsed_initiator_out}

-- ---- these are the times of what is due

choice_time : (a b c d f : Bool) (ta tb tc td : ℕ) (la lb lc ld : LineSet) (x : Due)
    → target_choice a b c d f (due_at ta la) (due_at tb lb) (due_at tc lc) (due_at td ld) ≡ Some x
    → target_time a b c d f ta tb tc td ≡ Some x.time
choice_time true b c d f ta tb tc td la lb lc ld x e = ap (λ (m : ℕ). Some m) (sym (is_at ta la x e).time_is)
choice_time false true c d f ta tb tc td la lb lc ld x e = ap (λ (m : ℕ). Some m) (sym (is_at tb lb x e).time_is)
choice_time false false true true f ta tb tc td la lb lc ld x e = ap (λ (m : ℕ). Some m) (sym (is_at tc lc x e).time_is)
choice_time false false true false f ta tb tc td la lb lc ld x e = absurd (none-some x e)
choice_time false false false d true ta tb tc td la lb lc ld x e = absurd (none-some x e)
choice_time false false false d false ta tb tc td la lb lc ld x e =
    ap (λ (m : ℕ). Some m) (sym (is_at td ld x e).time_is)

-- What is due at a time.
pub record DueAt (o : Option Due) (time : ℕ) : Type 0 where
  pub due : Due
  pub is : o ≡ Some due
  pub at : due.time ≡ time

at_lines : (t u : ℕ) (l : LineSet) → (let o : Option ℕ = Some t in o) ≡ Some u → DueAt (due_at t l) u
at_lines t u l e = record { due = record { time = t; kind = Drives l }; is = refl; at = same_Some t u e }

choice_due : (a b c d f : Bool) (ta tb tc td : ℕ) (la lb lc ld : LineSet) (u : ℕ)
    → target_time a b c d f ta tb tc td ≡ Some u
    → DueAt (target_choice a b c d f (due_at ta la) (due_at tb lb) (due_at tc lc) (due_at td ld)) u
choice_due true b c d f ta tb tc td la lb lc ld u e = at_lines ta u la e
choice_due false true c d f ta tb tc td la lb lc ld u e = at_lines tb u lb e
choice_due false false true true f ta tb tc td la lb lc ld u e = at_lines tc u lc e
choice_due false false true false f ta tb tc td la lb lc ld u e = absurd (none_number u e)
choice_due false false false d true ta tb tc td la lb lc ld u e = absurd (none_number u e)
choice_due false false false d false ta tb tc td la lb lc ld u e = at_lines td u ld e

in_choice_time : (a w q r : Bool) (ta tb : ℕ) (c d e : ℕ) (la lb : LineSet) (x : Due)
    → initiator_choice a w (due_at ta la) (due_at tb lb) None ≡ Some x
    → initiator_time a w true q r ta tb c d e ≡ Some x.time
in_choice_time true w q r ta tb c d e la lb x f = ap (λ (m : ℕ). Some m) (sym (is_at ta la x f).time_is)
in_choice_time false true q r ta tb c d e la lb x f = ap (λ (m : ℕ). Some m) (sym (is_at tb lb x f).time_is)
in_choice_time false false q r ta tb c d e la lb x f = absurd (none-some x f)

in_choice_due : (a w q r : Bool) (ta tb : ℕ) (c d e : ℕ) (la lb : LineSet) (u : ℕ)
    → initiator_time a w true q r ta tb c d e ≡ Some u
    → DueAt (initiator_choice a w (due_at ta la) (due_at tb lb) None) u
in_choice_due true w q r ta tb c d e la lb u f = at_lines ta u la f
in_choice_due false true q r ta tb c d e la lb u f = at_lines tb u lb f
in_choice_due false false q r ta tb c d e la lb u f = absurd (none_number u f)

abbrev out_choice : (a w b c : Bool) → Option Due → Option Due → Option Due → Option Due → Option Due
out_choice a w b c o q r t = initiator_choice a w o (if b then q else r) (if c then None else t)

out_choice_time : (a w q r : Bool) (ta b tc td te : ℕ) (la lc ld le : LineSet) (x : Due)
    → out_choice a w q r (due_at ta la) (due_at tc lc) (due_at td ld) (due_at te le) ≡ Some x
    → initiator_time a w false q r ta b tc td te ≡ Some x.time
out_choice_time true w q r ta b tc td te la lc ld le x f = ap (λ (m : ℕ). Some m) (sym (is_at ta la x f).time_is)
out_choice_time false true true r ta b tc td te la lc ld le x f = ap (λ (m : ℕ). Some m) (sym (is_at tc lc x f).time_is)
out_choice_time false true false r ta b tc td te la lc ld le x f =
    ap (λ (m : ℕ). Some m) (sym (is_at td ld x f).time_is)
out_choice_time false false q true ta b tc td te la lc ld le x f = absurd (none-some x f)
out_choice_time false false q false ta b tc td te la lc ld le x f =
    ap (λ (m : ℕ). Some m) (sym (is_at te le x f).time_is)

out_choice_due : (a w q r : Bool) (ta b tc td te : ℕ) (la lc ld le : LineSet) (u : ℕ)
    → initiator_time a w false q r ta b tc td te ≡ Some u
    → DueAt (out_choice a w q r (due_at ta la) (due_at tc lc) (due_at td ld) (due_at te le)) u
out_choice_due true w q r ta b tc td te la lc ld le u f = at_lines ta u la f
out_choice_due false true true r ta b tc td te la lc ld le u f = at_lines tc u lc f
out_choice_due false true false r ta b tc td te la lc ld le u f = at_lines td u ld f
out_choice_due false false q true ta b tc td te la lc ld le u f = absurd (none_number u f)
out_choice_due false false q false ta b tc td te la lc ld le u f = at_lines te u le f

-- ---- of the rows

-- What a data phase by pulses is asked for its times to be so.
pub record ByPulses (p : List Row) : Type 0 where
  pub offset : nat_lt 0 (offset_here p) ≡ true
  pub asked : ((handshakes p).requests == 0) ≡ false

pub target_time_in : (s : ScenarioValue) (p : List Row) (n : Connection) (req ack atn : Bool) (y lat : ℕ) (x : Due)
    → ByPulses p → target_plain s p n true (ends false ack atn 0 false false true req y) lat ≡ Some x
    → target_next_at s p n true req ack y lat ≡ Some x.time
target_time_in s p n req ack atn y lat x h e = choice_time req
    (not (y == next_bits s p n)) (nat_lt (handshakes p).requests (run_count s p n))
    (nat_lt (length (handshakes p).waiting) (offset_here p)) (not (length (handshakes p).waiting == 0) || ack)
    ((line_times p).req + (times_here p).assertion + lat) (hold_end_time p lat) (pulse_time p true lat)
    (leaving_time p true lat) (target_side (ends false ack atn 0 false false true false y))
    (target_side (ends false ack atn 0 false false true req (next_bits s p n)))
    (target_side (ends false ack atn 0 false false true true y))
    (offering_with s p n true (ends false ack atn 0 false false true req y)).to x
    (sym (pulsed_target_in s p n req ack atn y lat h.offset h.asked) ∙ e)

pub target_due_in : (s : ScenarioValue) (p : List Row) (n : Connection) (req ack atn : Bool) (y lat u : ℕ)
    → ByPulses p → target_next_at s p n true req ack y lat ≡ Some u
    → DueAt (target_plain s p n true (ends false ack atn 0 false false true req y) lat) u
target_due_in s p n req ack atn y lat u h e = subst (λ o. DueAt o u)
    (sym (pulsed_target_in s p n req ack atn y lat h.offset h.asked))
    (choice_due req (not (y == next_bits s p n)) (nat_lt (handshakes p).requests (run_count s p n))
    (nat_lt (length (handshakes p).waiting) (offset_here p)) (not (length (handshakes p).waiting == 0) || ack)
    ((line_times p).req + (times_here p).assertion + lat) (hold_end_time p lat) (pulse_time p true lat)
    (leaving_time p true lat) (target_side (ends false ack atn 0 false false true false y))
    (target_side (ends false ack atn 0 false false true req (next_bits s p n)))
    (target_side (ends false ack atn 0 false false true true y))
    (offering_with s p n true (ends false ack atn 0 false false true req y)).to u e)

pub target_time_out : (s : ScenarioValue) (p : List Row) (n : Connection) (req ack atn : Bool) (x lat : ℕ) (z : Due)
    → ByPulses p → target_plain s p n true (ends false ack atn x false false false req 0) lat ≡ Some z
    → target_next_at s p n false req ack 0 lat ≡ Some z.time
target_time_out s p n req ack atn x lat z h e = choice_time req false (nat_lt (handshakes p).requests (run_count s p n))
    (nat_lt (length (handshakes p).waiting) (offset_here p)) (not (length (handshakes p).waiting == 0) || ack)
    ((line_times p).req + (times_here p).assertion + lat) (hold_end_time p lat) (pulse_time p false lat)
    (leaving_time p false lat) (target_side (ends false ack atn x false false false false 0)) none
    (target_side (ends false ack atn x false false false true 0))
    (offering_with s p n true (ends false ack atn x false false false req 0)).to z
    (sym (pulsed_target_out s p n req ack atn x lat h.offset h.asked) ∙ e)

pub target_due_out : (s : ScenarioValue) (p : List Row) (n : Connection) (req ack atn : Bool) (x lat u : ℕ)
    → ByPulses p → target_next_at s p n false req ack 0 lat ≡ Some u
    → DueAt (target_plain s p n true (ends false ack atn x false false false req 0) lat) u
target_due_out s p n req ack atn x lat u h e = subst (λ o. DueAt o u)
    (sym (pulsed_target_out s p n req ack atn x lat h.offset h.asked))
    (choice_due req false (nat_lt (handshakes p).requests (run_count s p n))
    (nat_lt (length (handshakes p).waiting) (offset_here p)) (not (length (handshakes p).waiting == 0) || ack)
    ((line_times p).req + (times_here p).assertion + lat) (hold_end_time p lat) (pulse_time p false lat)
    (leaving_time p false lat) (target_side (ends false ack atn x false false false false 0)) none
    (target_side (ends false ack atn x false false false true 0))
    (offering_with s p n true (ends false ack atn x false false false req 0)).to u e)

pub initiator_time_in : (s : ScenarioValue) (p : List Row) (n : Connection) (req ack atn : Bool) (y lat : ℕ) (x : Due)
    → ByPulses p → initiator_plain s p n true (ends false ack atn 0 false false true req y) lat ≡ Some x
    → initiator_next_at s p n true ack atn 0 lat ≡ Some x.time
initiator_time_in s p n req ack atn y lat x h e = in_choice_time ack (not (length (handshakes p).waiting == 0))
    (0 == given_here s p) (0 == 0) (ack_pulse_end_time p atn lat) (answer_time s p n + lat)
    (max (answer_time s p n) (byte_driven_time p n lat + (times_here p).set_up) + lat) (byte_driven_time p n lat)
    (release_time p n lat) (initiator_side (ends false false atn 0 false false true req y))
    (initiator_side (ends false true (is_struck (first_of (handshakes p).waiting) || atn) 0 false false true req y)) x
    (sym (pulsed_initiator_in s p n req ack atn y lat h.offset) ∙ e)

pub initiator_due_in : (s : ScenarioValue) (p : List Row) (n : Connection) (req ack atn : Bool) (y lat u : ℕ)
    → ByPulses p → initiator_next_at s p n true ack atn 0 lat ≡ Some u
    → DueAt (initiator_plain s p n true (ends false ack atn 0 false false true req y) lat) u
initiator_due_in s p n req ack atn y lat u h e =
    subst (λ o. DueAt o u) (sym (pulsed_initiator_in s p n req ack atn y lat h.offset)) (in_choice_due ack
    (not (length (handshakes p).waiting == 0)) (0 == given_here s p) (0 == 0) (ack_pulse_end_time p atn lat)
    (answer_time s p n + lat) (max (answer_time s p n) (byte_driven_time p n lat + (times_here p).set_up) + lat)
    (byte_driven_time p n lat) (release_time p n lat) (initiator_side (ends false false atn 0 false false true req y))
    (initiator_side (ends false true (is_struck (first_of (handshakes p).waiting) || atn) 0 false false true req y)) u
    e)

given_is : (s : ScenarioValue) (p : List Row) (n : Connection) (e : EndLines) → Linked p n e
    → given_here s p ≡ given_bits s p n e
given_is s p n e h =
    λ i. byte_bits (byte_to_send (h.stands.bus_is i) (run_state s p).exchange.speech (sending_of s (run_state s p)))

pub initiator_time_out : (s : ScenarioValue) (p : List Row) (n : Connection) (req ack atn : Bool) (x lat : ℕ) (z : Due)
    → Linked p n (ends false ack atn x false false false req 0) → ByPulses p
    → initiator_plain s p n true (ends false ack atn x false false false req 0) lat ≡ Some z
    → initiator_next_at s p n false ack atn x lat ≡ Some z.time
initiator_time_out s p n req ack atn x lat z l h e = ap (λ (b : ℕ). initiator_time ack
    (not (length (handshakes p).waiting == 0)) false (x == b) (x == 0) (ack_pulse_end_time p atn lat)
    (answer_time s p n + lat) (max (answer_time s p n) (byte_driven_time p n lat + (times_here p).set_up) + lat)
    (byte_driven_time p n lat) (release_time p n lat)) (given_is s p n (ends false ack atn x false false false req 0) l)
    ∙ out_choice_time ack (not (length (handshakes p).waiting == 0))
    (x == (given_bits s p n (ends false ack atn x false false false req 0))) (x == 0) (ack_pulse_end_time p atn lat)
    (answer_time s p n + lat) (max (answer_time s p n) (byte_driven_time p n lat + (times_here p).set_up) + lat)
    (byte_driven_time p n lat) (release_time p n lat) (initiator_side (ends false false atn x false false false req 0))
    (initiator_side (ends false true atn x false false false req 0)) (initiator_side
    (ends false ack atn (given_bits s p n (ends false ack atn x false false false req 0)) false false false req 0))
    (initiator_side (ends false ack atn 0 false false false req 0)) z
    (sym (pulsed_initiator_out s p n req ack atn x lat h.offset) ∙ e)

pub initiator_due_out : (s : ScenarioValue) (p : List Row) (n : Connection) (req ack atn : Bool) (x lat u : ℕ)
    → Linked p n (ends false ack atn x false false false req 0)
    → ByPulses p → initiator_next_at s p n false ack atn x lat ≡ Some u
    → DueAt (initiator_plain s p n true (ends false ack atn x false false false req 0) lat) u
initiator_due_out s p n req ack atn x lat u l h e = subst (λ o. DueAt o u)
    (sym (pulsed_initiator_out s p n req ack atn x lat h.offset))
    (out_choice_due ack (not (length (handshakes p).waiting == 0))
    (x == (given_bits s p n (ends false ack atn x false false false req 0))) (x == 0) (ack_pulse_end_time p atn lat)
    (answer_time s p n + lat) (max (answer_time s p n) (byte_driven_time p n lat + (times_here p).set_up) + lat)
    (byte_driven_time p n lat) (release_time p n lat) (initiator_side (ends false false atn x false false false req 0))
    (initiator_side (ends false true atn x false false false req 0)) (initiator_side
    (ends false ack atn (given_bits s p n (ends false ack atn x false false false req 0)) false false false req 0))
    (initiator_side (ends false ack atn 0 false false false req 0)) u
    (sym (ap (λ (b : ℕ). initiator_time ack (not (length (handshakes p).waiting == 0)) false
    (x == b) (x == 0) (ack_pulse_end_time p atn lat) (answer_time s p n + lat)
    (max (answer_time s p n) (byte_driven_time p n lat + (times_here p).set_up) + lat) (byte_driven_time p n lat)
    (release_time p n lat)) (given_is s p n (ends false ack atn x false false false req 0) l)) ∙ e))

-- ---- the next row comes no later than what is due of an end

pub row_by_target : (s : ScenarioValue) (p : List Row) (row : Row) (n : Connection) (e : EndLines) (lat u : ℕ)
    → AreOfDevices p → Linked p n e → begun p ≡ true → latency_of s n.target ≡ Some lat
    → DueAt (target_plain s p n true e lat) u → last_time p ≤ u → IsLeast (unreset_due s p) 8 row → row.time ≤ u
row_by_target s p row n e lat u d h eb there a late least =
    let same = a.at in
    let z = sampled_by (is_sampling s p n n.target) (last_time p)
    (flip_of (run_state s p).faults (last_time p)) a.due (omega arith) in
    let w = least.first n.target h.target_below z.0
    (target_is s p n e true lat d h eb there ∙ ap (sampled_or s p n n.target) a.is ∙ z.1) in
    let v = z.2 in
    omega arith

pub row_by_initiator : (s : ScenarioValue) (p : List Row) (row : Row) (n : Connection) (e : EndLines) (lat u : ℕ)
    → AreOfDevices p → Linked p n e → begun p ≡ true → latency_of s n.initiator ≡ Some lat
    → DueAt (initiator_plain s p n true e lat) u → last_time p ≤ u → IsLeast (unreset_due s p) 8 row → row.time ≤ u
row_by_initiator s p row n e lat u d h eb there a late least =
    let same = a.at in
    let z = sampled_by (is_sampling s p n n.initiator) (last_time p)
    (flip_of (run_state s p).faults (last_time p)) a.due (omega arith) in
    let w = least.first n.initiator h.initiator_below z.0
    (initiator_is s p n e true lat d h eb there ∙ ap (sampled_or s p n n.initiator) a.is ∙ z.1) in
    let v = z.2 in
    omega arith
