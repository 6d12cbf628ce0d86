-- DATA OUT by pulses: REQ rises while a byte of the run follows, ACK while a request waits; and the phase is left as
-- none does.
use Rattle.trace_laws.proofs
use proofs.Names.{ℕ, ◌≡◌, inl, inr, ◌+◌, ◌≤◌, ◌<◌, Bool, true, false, not, ◌&&◌, ◌||◌, ◌∙◌, List, [], ◌∷◌, length}
use proofs.Names.{Option, Some, None, refl, sym, ap, subst, arith, true≢false, ◌==◌, le_antisymm, ltb-true, ltb-false}
use proofs.Names.{nat_tests, none-some, max, if◌then◌else◌, nat_lt, is_some, wrong', implication_parts, wrong, bus_on}
use proofs.Names.{same_self, change_of, rises, LineSet, changes_phase, is_data, connection, receiver, receiver_in}
use proofs.Names.{receiver_of, drives, last_time, line_times, phase_time, bus, Row, Change, Connection}
use proofs.Names.{BUS_SETTLE_DELAY, Handshakes, handshakes, GOOD, dialogue, is_of_device, only_rst, ScenarioValue}
use proofs.Names.{Obeys, Reply, Process, row_reading, due_at, policy_of, run_at, run_length, is_pulsed_phase, begun}
use proofs.Names.{phase_of, run_length_if, follows_in, Phase, Task, target_def_of, IsLeast, due, IsPrompt, AreOfDevices}
use proofs.Names.{RunState, bus_of, process_here, process_served, carried_here, run_state, serving_of, offering_of}
use proofs.Names.{is_writing, task_if, moved_count, reply_now, IsOver, change_plain, fault_change, drives_own, least_is}
use proofs.Names.{by_calm, reset_or_calm, by_reset, EndLines, initiator_side, target_side, connected_bus, Linked}
use proofs.Names.{unreset_due, row_of_lines, row_of_fault, due_of, Mover, by_fault, by_initiator, by_target}
use proofs.Names.{target_plain, initiator_plain, offering_with, mover_is, never, settling_target, settling_initiator}
use proofs.Names.{handing_initiator, initiator_moves, target_moves, phase_same, no_rise, pulsed_target_out}
use proofs.Names.{pulsed_initiator_out, pulse_time, leaving_time, ack_pulse_end_time, answer_time, release_time}
use proofs.Names.{byte_driven_time, given_bits, LinkStage, when_selected, when_settling, when_turning, when_offering}
use proofs.Names.{when_shaking, when_pulsing, Settling, Pulsing, times_here, offset_here, run_count, risen}
use proofs.Names.{connection_row, stage_of_connection, RowFacts, stays, ends_here, Stood, here_served, turn}
use proofs.Names.{is_directed, writes_of, writes_out, row_at, link_row, phase_by, pulses_here, AreCounted, CountFacts}
use proofs.{Names.{RunFacts}, Runs.{Facts.{AnswersAll, run_active, crossing_begun}, Parts.{byte_within}}}
use proofs.Runs.Steps.{OutStep, by_initiator_row, by_target_row, struck_row, left_row, link_step, pulsed_as, no_in}
use Rattle.story_laws.specs.link_laws.specs.Phases.{ends}

-- With it by pulses all requests are answered as the phase is left.
pub record PulseStep (s : ScenarioValue) (p : List Row) (n : Connection) (c : Change) : Type 0 where
  pub step : OutStep s p n c
  pub even : pulses_here p ≡ true → changes_phase c ≡ true → (handshakes p).requests ≡ (handshakes p).answers

-- A row of the phase.
stays_in : (s : ScenarioValue) (p : List Row) (n : Connection) (c : Change) → OutStep s p n c → changes_phase c ≡ false
    → PulseStep s p n c
stays_in s p n c h e = record { step = h; even = λ u z. wrong' (sym e ∙ z) }

initiator_row : (s : ScenarioValue) (p : List Row) (t : ℕ) (n : Connection) (e : EndLines) (bsy ack atn : Bool) (x : ℕ)
    → Linked p n e → OutStep s p n (turn e (ends bsy ack atn x e.msg e.cd e.io e.req e.given)
    (initiator_side e) (initiator_side (ends bsy ack atn x e.msg e.cd e.io e.req e.given)))
    → PulseStep s p n
    (change_of p (row_of_lines t n.initiator (initiator_side (ends bsy ack atn x e.msg e.cd e.io e.req e.given))))
initiator_row s p t n e bsy ack atn x h f = stays_in s p n
    (change_of p (row_of_lines t n.initiator (initiator_side (ends bsy ack atn x e.msg e.cd e.io e.req e.given))))
    (by_initiator_row s p t n e bsy ack atn x h f) (ap changes_phase (initiator_moves p n e bsy ack atn x t h).change
    ∙ phase_same e bsy ack atn x e.req e.given (initiator_side e)
    (initiator_side (ends bsy ack atn x e.msg e.cd e.io e.req e.given)))

target_row : (s : ScenarioValue) (p : List Row) (t : ℕ) (n : Connection) (e : EndLines) (req : Bool) (y : ℕ)
    → Linked p n e → OutStep s p n (turn e (ends e.bsy e.ack e.atn e.sent e.msg e.cd e.io req y)
    (target_side e) (target_side (ends e.bsy e.ack e.atn e.sent e.msg e.cd e.io req y)))
    → PulseStep s p n
    (change_of p (row_of_lines t n.target (target_side (ends e.bsy e.ack e.atn e.sent e.msg e.cd e.io req y))))
target_row s p t n e req y h f = stays_in s p n
    (change_of p (row_of_lines t n.target (target_side (ends e.bsy e.ack e.atn e.sent e.msg e.cd e.io req y))))
    (by_target_row s p t n e req y h f) (ap changes_phase (target_moves p n e e.msg e.cd e.io req y t h).change
    ∙ phase_same e e.bsy e.ack e.atn e.sent req y (target_side e)
    (target_side (ends e.bsy e.ack e.atn e.sent e.msg e.cd e.io req y)))

struck : (s : ScenarioValue) (p : List Row) (t d bit : ℕ) (n : Connection) (e : EndLines) → Linked p n e
    → PulseStep s p n (change_of p (row_of_fault t d bit))
struck s p t d bit n e h =
    let b : LineSet = connected_bus e in
    stays_in s p n (change_of p (row_of_fault t d bit)) (struck_row s p t d bit n e h)
    (ap changes_phase (fault_change p t d bit b (drives p d) h.stands.bus_is refl)
    ∙ (λ i. not (same_self e.msg i && same_self e.cd i && same_self e.io i)))

-- ---- before the first byte

pub settle_step : (s : ScenarioValue) (p : List Row) (row : Row) (n : Connection) (bsy atn msg cd io : Bool) (y : ℕ)
    → Settling p n bsy atn msg cd io y → Mover s p n true (ends bsy false atn 0 msg cd io false y) row
    → PulseStep s p n (change_of p row)
settle_step s p row n bsy atn msg cd io y h (by_fault bit got same) =
    absurd (none_device (receiver p) row.dev h.receiver_is got)
  where
    none_device : (o : Option ℕ) (d : ℕ) → o ≡ None → is_of_device o d ≡ true → ⊥
    none_device o d e z = let w = sym (ap (λ (x : Option ℕ). is_of_device x d) e) ∙ z in cc
settle_step s p row n true atn msg cd io y h (by_initiator lat there same e) = subst
    (λ (w : Row). PulseStep s p n (change_of p w))
    (sym (row_at row n.initiator ((line_times p).sel + lat) (initiator_side (ends false false atn 0 msg cd io false y))
    same (sym (handing_initiator s p n atn msg cd io y lat) ∙ e)))
    (initiator_row s p row.time n (ends true false atn 0 msg cd io false y) false false atn 0 h.linked
    (record { answers = λ z. wrong' z; asks = λ z. wrong' z; stays = λ u q a r. wrong' q }))
settle_step s p row n false atn msg cd io y h (by_initiator lat there same e) =
    absurd (never _ (due_of row) (settling_initiator s p n atn msg cd io y lat h) e)
settle_step s p row n bsy atn msg cd io y h (by_target lat there same e) = subst
    (λ (w : Row). PulseStep s p n (change_of p w)) (sym (row_at row n.target
    (phase_time (line_times p) + BUS_SETTLE_DELAY + lat) (target_side (ends bsy false atn 0 msg cd io true y)) same
    (sym (settling_target s p n bsy atn msg cd io y lat h) ∙ e)))
    (target_row s p row.time n (ends bsy false atn 0 msg cd io false y) true y h.linked (record {
      answers = λ z. wrong' z;
      asks = λ z. (refl, inl (ap (λ (b : Handshakes). b.requests == 0) h.quiet));
      stays = λ u q a r. absurd (true≢false r);
    }))

-- ---- by pulses

pulses_are : (s : ScenarioValue) (p : List Row) (n : Connection) (req ack atn : Bool) (x : ℕ)
    → Pulsing s p n false req ack atn x 0 → pulses_here p ≡ true
pulses_are s p n req ack atn x h =
    ap (λ (l : LineSet). true && (not l.msg && not l.cd) && nat_lt 0 (dialogue p).heard.now.agreement.offset)
    h.linked.stands.bus_is ∙ h.offset

some_waits : (r a w : ℕ) → r ≡ a + w → (w == 0) ≡ false → a < r
some_waits r a w e z = let g : 1 ≤ w = grind (arith, nat_tests) in omega (arith, e, g)

none_waits : (r a w : ℕ) → r ≡ a + w → (w == 0) ≡ true → r ≡ a
none_waits r a w e z = let g : w ≡ 0 = grind (arith, nat_tests) in omega (arith, e, g)

-- Neither rises.
idle : (s : ScenarioValue) (p : List Row) (n : Connection) (c : Change) → pulses_here p ≡ true
    → rises c.before.ack c.after.ack ≡ false → rises c.before.req c.after.req ≡ false → OutStep s p n c
idle s p n c on a r = record {
  answers = λ z. wrong' (sym a ∙ z);
  asks = λ z. wrong' (sym r ∙ z);
  stays = λ u q b z. absurd (true≢false (sym on ∙ u));
}

target_step : (s : ScenarioValue) (p : List Row) (row : Row) (n : Connection) (req ack atn : Bool) (x lat : ℕ)
    → Pulsing s p n false req ack atn x 0 → connection (row ∷ p) ≡ Some n → row.dev ≡ n.target
    → target_plain s p n true (ends false ack atn x false false false req 0) lat ≡ Some (due_of row)
    → PulseStep s p n (change_of p row)
target_step s p row n true ack atn x lat h con same e = subst (λ (w : Row). PulseStep s p n (change_of p w))
    (sym (row_at row n.target ((line_times p).req + (times_here p).assertion + lat)
    (target_side (ends false ack atn x false false false false 0)) same
    (sym (pulsed_target_out s p n true ack atn x lat h.offset h.facts.asked) ∙ e)))
    (target_row s p row.time n (ends false ack atn x false false false true 0) false 0 h.linked
    (idle s p n _ (pulses_are s p n true ack atn x h) (no_rise ack) refl))
target_step s p row n false ack atn x lat h con same e = follows (nat_lt (handshakes p).requests (run_count s p n)) refl
    (sym (pulsed_target_out s p n false ack atn x lat h.offset h.facts.asked) ∙ e)
  where
    left : (q : Bool) → (not (length (handshakes p).waiting == 0) || ack) ≡ q
        → (if q then None else due_at (leaving_time p false lat)
        (offering_with s p n true (ends false ack atn x false false false false 0)).to) ≡ Some (due_of row)
        → PulseStep s p n (change_of p row)
    left true z e = absurd (none-some (due_of row) e)
    left false z e = at_rest ack (implication_parts (length (handshakes p).waiting == 0) ack z).1 h e
      where
        at_rest : (ack : Bool) → ack ≡ false → Pulsing s p n false false ack atn x 0 → due_at (leaving_time p false lat)
            (offering_with s p n true (ends false ack atn x false false false false 0)).to ≡ Some (due_of row)
            → PulseStep s p n (change_of p row)
        at_rest true a h e = absurd cc
        at_rest false a h e =
            let is = row_at row n.target (leaving_time p false lat)
            (offering_with s p n true (ends false false atn x false false false false 0)).to same e in
            record {
              step = subst (λ (w : Row). OutStep s p n (change_of p w)) (sym is) (left_row s p row.time n atn false
                  false false x 0 h.linked (ap (λ (w : Row). connection (w ∷ p)) (sym is) ∙ con));
              even = λ u ep. none_waits (handshakes p).requests (handshakes p).answers (length (handshakes p).waiting)
                  h.facts.counts (implication_parts (length (handshakes p).waiting == 0) _ z).0;
            }

    rooms : (q : Bool) → nat_lt (handshakes p).requests (run_count s p n) ≡ true
        → (if q then due_at (pulse_time p false lat) (target_side (ends false ack atn x false false false true 0))
        else None) ≡ Some (due_of row)
        → PulseStep s p n (change_of p row)
    rooms false f e = absurd (none-some (due_of row) e)
    rooms true f e = subst (λ (w : Row). PulseStep s p n (change_of p w)) (sym (row_at row n.target
        (pulse_time p false lat) (target_side (ends false ack atn x false false false true 0)) same e))
        (target_row s p row.time n (ends false ack atn x false false false false 0) true 0 h.linked (record {
          answers = λ z. wrong' (sym (no_rise ack) ∙ z);
          asks = λ z. (
            refl,
            inr (
              λ u. absurd (true≢false (sym (pulses_are s p n false ack atn x h) ∙ u)),
              λ u. ltb-true (handshakes p).requests (run_count s p n) f,
            ),
          );
          stays = λ u q b z. absurd (true≢false z);
        }))

    follows : (q : Bool) → nat_lt (handshakes p).requests (run_count s p n) ≡ q
        → (if q then (if nat_lt (length (handshakes p).waiting) (offset_here p)
        then due_at (pulse_time p false lat) (target_side (ends false ack atn x false false false true 0)) else None)
        else if not (length (handshakes p).waiting == 0) || ack then None else due_at (leaving_time p false lat)
        (offering_with s p n true (ends false ack atn x false false false false 0)).to) ≡ Some (due_of row)
        → PulseStep s p n (change_of p row)
    follows true f e = rooms (nat_lt (length (handshakes p).waiting) (offset_here p)) f e
    follows false f e = left (not (length (handshakes p).waiting == 0) || ack) refl e

initiator_step : (s : ScenarioValue) (p : List Row) (row : Row) (n : Connection) (req ack atn : Bool) (x lat : ℕ)
    → Pulsing s p n false req ack atn x 0 → row.dev ≡ n.initiator
    → initiator_plain s p n true (ends false ack atn x false false false req 0) lat ≡ Some (due_of row)
    → PulseStep s p n (change_of p row)
initiator_step s p row n req true atn x lat h same e = subst (λ (w : Row). PulseStep s p n (change_of p w)) (sym (row_at
    row n.initiator (ack_pulse_end_time p atn lat) (initiator_side (ends false false atn x false false false req 0))
    same (sym (pulsed_initiator_out s p n req true atn x lat h.offset) ∙ e)))
    (initiator_row s p row.time n (ends false true atn x false false false req 0) false false atn x h.linked
    (idle s p n _ (pulses_are s p n req true atn x h) refl (no_rise req)))
initiator_step s p row n req false atn x lat h same e =
    go (length (handshakes p).waiting == 0) refl (sym (pulsed_initiator_out s p n req false atn x lat h.offset) ∙ e)
  where
    given : ℕ
    given = given_bits s p n (ends false false atn x false false false req 0)

    driven :
        (z : ℕ) (t : ℕ) → due_at t (initiator_side (ends false false atn z false false false req 0)) ≡ Some (due_of row)
        → PulseStep s p n (change_of p row)
    driven z t e = subst (λ (w : Row). PulseStep s p n (change_of p w))
        (sym (row_at row n.initiator t (initiator_side (ends false false atn z false false false req 0)) same e))
        (initiator_row s p row.time n (ends false false atn x false false false req 0) false false atn z h.linked
        (idle s p n _ (pulses_are s p n req false atn x h) refl (no_rise req)))

    waits : (q : Bool) → (length (handshakes p).waiting == 0) ≡ false
        → (if q then due_at (max (answer_time s p n) (byte_driven_time p n lat + (times_here p).set_up) + lat)
        (initiator_side (ends false true atn x false false false req 0))
        else due_at (byte_driven_time p n lat) (initiator_side (ends false false atn given false false false req 0)))
        ≡ Some (due_of row) → PulseStep s p n (change_of p row)
    waits true some e = subst (λ (w : Row). PulseStep s p n (change_of p w))
        (sym (row_at row n.initiator (max (answer_time s p n) (byte_driven_time p n lat + (times_here p).set_up) + lat)
        (initiator_side (ends false true atn x false false false req 0)) same e)) (initiator_row s p row.time n
        (ends false false atn x false false false req 0) false true atn x h.linked (record {
          answers = λ z. (
            λ u. absurd (true≢false (sym (pulses_are s p n req false atn x h) ∙ u)),
            λ u. some_waits (handshakes p).requests (handshakes p).answers
                (length (handshakes p).waiting) h.facts.counts some,
          );
          asks = λ z. wrong' (sym (no_rise req) ∙ z);
          stays = λ u q a r. absurd (true≢false a);
        }))
    waits false some e = driven given (byte_driven_time p n lat) e

    free : (q : Bool) → (if q then None
        else due_at (release_time p n lat) (initiator_side (ends false false atn 0 false false false req 0)))
        ≡ Some (due_of row) → PulseStep s p n (change_of p row)
    free true e = absurd (none-some (due_of row) e)
    free false e = driven 0 (release_time p n lat) e

    go : (q : Bool) → (length (handshakes p).waiting == 0) ≡ q
        → (if not q then (if x == given then due_at (max (answer_time s p n) (byte_driven_time p n lat
        + (times_here p).set_up) + lat) (initiator_side (ends false true atn x false false false req 0))
        else due_at (byte_driven_time p n lat) (initiator_side (ends false false atn given false false false req 0)))
        else if x == 0 then None
        else due_at (release_time p n lat) (initiator_side (ends false false atn 0 false false false req 0)))
        ≡ Some (due_of row) → PulseStep s p n (change_of p row)
    go false z e = waits (x == given) z e
    go true z e = free (x == 0) e

pub pulse_step : (s : ScenarioValue) (p : List Row) (row : Row) (n : Connection) (req ack atn : Bool) (x : ℕ)
    → Pulsing s p n false req ack atn x 0 → connection (row ∷ p) ≡ Some n
    → Mover s p n true (ends false ack atn x false false false req 0) row → PulseStep s p n (change_of p row)
pulse_step s p row n req ack atn x h con (by_fault bit got e) = subst (λ (w : Row). PulseStep s p n (change_of p w))
    (sym e) (struck s p (last_time p) row.dev bit n (ends false ack atn x false false false req 0) h.linked)
pulse_step s p row n req ack atn x h con (by_initiator lat there same e) =
    initiator_step s p row n req ack atn x lat h same e
pulse_step s p row n req ack atn x h con (by_target lat there same e) =
    target_step s p row n req ack atn x lat h con same e

-- ---- Of a prompt trace: as a byte of DATA OUT crosses, it is one of the run; and all are answered as the phase is
-- left.

-- ---- what the row does with REQ and ACK

pub out_step : (s : ScenarioValue) (p : List Row) (row : Row) (n : Connection) → IsPrompt s (row ∷ p)
    → Stood s p → connection p ≡ Some n → (bus p).rst ≡ false → (bus (row ∷ p)).rst ≡ false → begun p ≡ true
    → phase_of (bus p) ≡ Phase.DataOut → connection (row ∷ p) ≡ Some n → PulseStep s p n (change_of p row)
out_step s p row n prompt was con calm off b phase after = elim (reset_or_calm s p row was.standing calm m) [
  | by_reset z ↦ wrong (sym (rst_on z) ∙ off)
  | by_calm always least ↦ go least (stage_of_connection s p n was con calm)
]
  where
    m : IsLeast (due s p) 8 row
    m = least_is s p row prompt.1

    dv : AreOfDevices p
    dv = was.standing.devices

    rst_on : row ≡ row_of_lines row.time row.dev only_rst → (bus (row ∷ p)).rst ≡ true
    rst_on z =
        bus_on (λ y. y.rst) (λ _ _. refl) (row ∷ p) row.dev m.inside (ap (λ (w : Row). (drives (w ∷ p) row.dev).rst) z
        ∙ ap (λ (l : LineSet). l.rst) (drives_own p row.time row.dev only_rst))

    go : IsLeast (unreset_due s p) 8 row → LinkStage s p n → PulseStep s p n (change_of p row)
    go least (when_selected h) = wrong (sym b ∙ h.begun_is)
    go least (when_settling bsy atn msg cd io y h) =
        settle_step s p row n bsy atn msg cd io y h (mover_is s p n true _ row dv h.linked h.phase.begun_is least)
    go least (when_turning atn x msg cd h) = no_in p n _ h.linked phase refl
    go least (when_offering atn msg cd y h) = no_in p n _ h.linked phase refl
    go least (when_shaking msg cd io req ack atn x y h) =
        let u : pulses_here p ≡ false = sym (pulsed_as p n _ h.linked) ∙ h.unpulsed in
        record {
          step = link_step s p row n phase b u after
              (link_row s p row n dv (when_shaking msg cd io req ack atn x y h) least);
          even = λ v ep. wrong' (sym u ∙ v);
        }
    go least (when_pulsing true req ack atn x y h a) = no_in p n _ h.linked phase refl
    go least (when_pulsing false req ack atn x y h a) =
        let z = subst (λ w. Pulsing s p n false req ack atn x w) h.side h in
        pulse_step s p row n req ack atn x z after (mover_is s p n true _ row dv z.linked z.phase.begun_is least)

-- ---- the phase is left

pub answers_all : (s : ScenarioValue) (p : List Row) (row : Row) (n : Connection) → Obeys s → IsPrompt s (row ∷ p)
    → Stood s p → CountFacts s p → connection p ≡ Some n → (bus p).rst ≡ false → (bus (row ∷ p)).rst ≡ false
    → connection (row ∷ p) ≡ Some n → begun p ≡ true → changes_phase (change_of p row) ≡ true
    → AnswersAll s (run_state s p) n
answers_all s p row n o prompt was facts con calm off after b ep q t served task phase =
    by (connection_row s p row n o prompt was con calm off).facts
  where
    k : RunState
    k = run_state s p

    here : phase_of (bus p) ≡ Phase.DataOut
    here = ap phase_of (sym was.plain.bus) ∙ phase

    counts : AreCounted (handshakes p) (bus p) (pulses_here p) (run_count s p n)
    counts = facts.counts n con calm b here

    run : run_count s p n ≡ run_length (policy_of (target_def_of s n.target)) t
    run = ap (run_length_if (policy_of (target_def_of s n.target))) task

    answered : (handshakes p).answers ≡ run_count s p n
        → k.handshakes.answers ≡ run_length (policy_of (target_def_of s n.target)) t
    answered e = ap (λ (h : Handshakes). h.answers) was.plain.handshakes ∙ e ∙ run

    -- whether a byte follows
    follows : (offering_of s k n.target).follows
        ≡ (if pulses_here p then nat_lt (handshakes p).requests (run_count s p n)
        else nat_lt (handshakes p).answers (run_count s p n))
    follows =
        λ i. if is_pulsed_phase ((was.plain.begun ∙ b) i) (was.plain.bus i) (was.plain.dialogue i).heard.now.agreement
        then nat_lt (was.plain.handshakes i).requests (run_count s p n)
        else follows_in (serving_of s k n.target) (was.plain.handshakes i) (bus_of k).atn (phase i)

    over : IsOver s k n → (q : Bool) → pulses_here p ≡ q → (handshakes p).answers ≡ run_count s p n
    over v true u =
        let even = (out_step s p row n prompt was con calm off b here after).even u ep in
        let none = ltb-false (handshakes p).requests (run_count s p n)
        (sym (follows ∙ ap (λ (x : Bool). if x then nat_lt (handshakes p).requests (run_count s p n)
        else nat_lt (handshakes p).answers (run_count s p n)) u) ∙ v.follows) in
        le_antisymm counts.within (subst (λ (x : ℕ). run_count s p n ≤ x) even none)
    over v false u =
        let none = ltb-false (handshakes p).answers (run_count s p n)
        (sym (follows ∙ ap (λ (x : Bool). if x then nat_lt (handshakes p).requests (run_count s p n)
        else nat_lt (handshakes p).answers (run_count s p n)) u) ∙ v.follows) in
        le_antisymm counts.within none

    by : RowFacts s p row n → k.handshakes.answers ≡ run_length (policy_of (target_def_of s n.target)) t
    by (stays g) =
        let same : g.change ≡ change_of p row = sym g.row_is.change_is
        ∙ change_plain s row p was.standing.devices (least_is s p row prompt.1).inside in
        answered (over (g.over (ap changes_phase same ∙ ep) b) (pulses_here p) refl)
    by (ends_here g) = none_connection (sym g.stopped ∙ after)
      where
        none_connection : {A : Type 0} → (let x : Option Connection = None in x) ≡ Some n → A
        none_connection e = absurd cc

-- ---- a byte crosses

pub out_phase : (b : LineSet) → is_data b ≡ true → b.io ≡ false → phase_of b ≡ Phase.DataOut
out_phase b e f = go b.msg b.cd b.io e f
  where
    go : (m d i : Bool) → (not m && not d) ≡ true → i ≡ false → phase_by m d i ≡ Phase.DataOut
    go true d i z w = wrong' z
    go false true i z w = wrong' z
    go false false true z w = absurd (true≢false w)
    go false false false z w = refl

moved_few : (q : Process) (r : Reply) → is_writing q ≡ true → moved_count q r ≤ length q.sent
moved_few q r w = go (r.status == GOOD) (is_writing q) w
  where
    go : (g b : Bool) → b ≡ true → length (if b then (if g then q.sent else []) else r.bytes) ≤ length q.sent
    go true true e = omega arith
    go false true e = omega arith
    go g false e = absurd (true≢false (sym e))

pub rise_of : (n : Connection) (c : Change) → c.before.io ≡ false → is_some (receiver_in n c) ≡ true
    → rises c.before.ack c.after.ack ≡ true
rise_of n c io e = go (rises c.before.ack c.after.ack)
    (sym (ap (λ (q : Bool). is_some (if q then (if rises c.before.req c.after.req then Some n.initiator else None)
    else (if rises c.before.ack c.after.ack then Some n.target else None))) io) ∙ e)
  where
    go : (q : Bool) → is_some (let o : Option ℕ = if q then Some n.target else None in o) ≡ true → q ≡ true
    go true z = refl
    go false z = wrong' z

-- Its pointer stands in what is sent.
pub run_moved : (s : ScenarioValue) (p : List Row) (row : Row) (n : Connection)
    → Obeys s → IsPrompt s (row ∷ p) → Stood s p → RunFacts s p → CountFacts s p
    → connection p ≡ Some n → (bus p).rst ≡ false → (bus (row ∷ p)).rst ≡ false
    → connection (row ∷ p) ≡ Some n → (q : Process) → process_here s (run_state s p) ≡ Some q
    → (row_reading (run_state s p).story.bus_state row).crosses ≡ true → is_data (bus_of (run_state s p)) ≡ true
    → is_writing q ≡ true → (carried_here (run_state s p) q.id).moved.active < length q.sent
run_moved s p row n o prompt was facts counted con calm off after q known crosses data_phase w = less
    (carried_here k q.id).moved.active
    (run_at (policy_of (target_def_of s q.target)) task task.runs).start k.handshakes.answers task.moved
    (length q.sent) (run_active s p n o was facts con calm b q task served (ap (task_if s k) served) phase)
    (byte_within (policy_of (target_def_of s q.target)) task k.handshakes.answers
    (subst (λ (x : ℕ). k.handshakes.answers < x) run answered))
    (moved_few q (reply_now (Rattle.due_model.specs.RunState.array_of s k) q) w)
  where
    k : RunState
    k = run_state s p

    lt : row.dev < 8
    lt = (least_is s p row prompt.1).inside

    b : begun p ≡ true
    b = crossing_begun s p row n o prompt was con calm off lt crosses

    served : process_served s k ≡ Some q
    served = here_served s k n q
        (was.books.knows n (was.plain.connection ∙ con) (ap (λ (l : LineSet). l.rst) was.plain.bus ∙ calm)) known

    io : (bus_of k).io ≡ false
    io = writes_out (bus_of k).io q (sym (ap (λ (x : Option Process). is_directed (bus_of k).io (writes_of x)) served)
        ∙ (was.planned n con calm).serves (was.plain.begun ∙ b) data_phase) w

    phase : phase_of (bus_of k) ≡ Phase.DataOut
    phase = out_phase (bus_of k) data_phase io

    here : phase_of (bus p) ≡ Phase.DataOut
    here = ap phase_of (sym was.plain.bus) ∙ phase

    task : Task
    task = Rattle.due_model.specs.Tasks.task_with (Rattle.due_model.specs.RunState.array_of s k)
        (Rattle.due_model.specs.LastingState.progress_in k.progress q.id) q
        (carried_here k q.id) (reply_now (Rattle.due_model.specs.RunState.array_of s k) q)
        (Rattle.due_model.specs.array_model.specs.ArrayHistory.reply_in
        (Rattle.due_model.specs.RunState.array_of s k).replies q.id)

    target : q.target ≡ n.target
    target = (facts.served n q (was.plain.connection ∙ con)
        (ap (λ (l : LineSet). l.rst) was.plain.bus ∙ calm) served w).target_is

    run : run_count s p n ≡ run_length (policy_of (target_def_of s q.target)) task
    run = ap (run_length_if (policy_of (target_def_of s n.target))) (ap (task_if s k) served)
        ∙ ap (λ (x : ℕ). run_length (policy_of (target_def_of s x)) task) (sym target)

    counts : AreCounted (handshakes p) (bus p) (pulses_here p) (run_count s p n)
    counts = counted.counts n con calm b here

    rose : rises (change_of p row).before.ack (change_of p row).after.ack ≡ true
    rose = rise_of n (change_of p row) (ap (λ (l : LineSet). l.io) (sym was.plain.bus) ∙ io) ((λ i. is_some
        (receiver_of (sym (was.plain.connection ∙ con) i) (sym (change_plain s row p was.standing.devices lt) i)))
        ∙ crosses)

    answered_p : (v : Bool) → pulses_here p ≡ v → (handshakes p).answers < run_count s p n
    answered_p true u =
        let more = ((out_step s p row n prompt was con calm off b here after).step.answers rose).1 u in
        let few = counts.pulses u in
        omega (arith, more, few)
    answered_p false u =
        (counts.waits u (((out_step s p row n prompt was con calm off b here after).step.answers rose).0 u)
        (risen (bus p).ack (bus (row ∷ p)).ack rose)).0

    answered : k.handshakes.answers < run_count s p n
    answered = subst (λ (h : Handshakes). h.answers < run_count s p n) (sym was.plain.handshakes)
        (answered_p (pulses_here p) refl)

    less : (a start place moved sent : ℕ) → a ≡ start + place → start + place < moved → moved ≤ sent → a < sent
    less a start place moved sent e h m = omega (arith, e, h, m)
