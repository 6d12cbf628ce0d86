-- What a row of a phase to the initiator does with REQ, ACK and ATN, by what its ends are due to do; and no request
-- waits for ACK as the phase is left (6.1.5.1, 6.1.5.2, 6.2.1).
use Rattle.trace_laws.proofs
use proofs.Names.{inl, inr, ℕ, ◌≡◌, ◌⊎◌, Bool, true, false, not, ◌&&◌, ◌||◌, ◌∙◌, List, [], ◌∷◌, Option, Some, None}
use proofs.Names.{refl, sym, ap, subst, wrong', or_false, same_self, change_of, LineSet, changes_phase, call}
use proofs.Names.{connection, connection_after, bus, drives, last_time, Row, Change, Connection, handshakes, dialogue}
use proofs.Names.{is_of_other, End, ScenarioValue, Serving, phase_leaving, phase_lines, phase_of, lines_by, Leaving}
use proofs.Names.{Phase, run_state, serving_at, fault_change, EndLines, Linked, connected_bus, initiator_side}
use proofs.Names.{target_side, change_to, row_of_fault, row_of_lines, answering_with, offering_with, initiator_moves}
use proofs.Names.{no_rise, phase_same, target_moves, none_some, lines_are, turn, LinkRow, freed_connection, awaits}
use proofs.{Names.{pulses_here}, Runs.Steps.{pulsed_as}, Sent.Requests.{InStep, answers, answers_oldest, asks, rests}}
use Rattle.story_laws.specs.link_laws.specs.Phases.{ends}
use Rattle.story_laws.specs.row_laws.proofs.Lines.Rows as rows

abbrev Step : List Row → Change → Type 0
Step p c = InStep (handshakes p) (pulses_here p) c

pub record InRow (p : List Row) (row : Row) (n : Connection) : Type 0 where
  pub step : connection (row ∷ p) ≡ Some n → InStep (handshakes p) (pulses_here p) (change_of p row)
  pub over : (changes_phase (change_of p row) ≡ true) ⊎ (connection (row ∷ p) ≡ None)
      → (awaits (bus p) ≡ false) × (pulses_here p ≡ true → (handshakes p).waiting ≡ [])

-- ---- the phase stays, and the connection

within : (p : List Row) (row : Row) (n : Connection) (c : Change) → change_of p row ≡ c → changes_phase c ≡ false
    → connection (row ∷ p) ≡ Some n → Step p c → InRow p row n
within p row n c e same con f = record { step = λ z. subst (λ (x : Change). Step p x) (sym e) f; over = over }
  where
    over : (changes_phase (change_of p row) ≡ true) ⊎ (connection (row ∷ p) ≡ None)
        → (awaits (bus p) ≡ false) × (pulses_here p ≡ true → (handshakes p).waiting ≡ [])
    over (inl z) = wrong' (sym (ap changes_phase e ∙ same) ∙ z)
    over (inr z) = none_some n (sym z ∙ con)

of_initiator : (p : List Row) (t : ℕ) (n : Connection) (e : EndLines) (bsy ack atn : Bool) (x : ℕ) → Linked p n e
    → Step p (turn e (ends bsy ack atn x e.msg e.cd e.io e.req e.given) (initiator_side e)
    (initiator_side (ends bsy ack atn x e.msg e.cd e.io e.req e.given)))
    → InRow p (row_of_lines t n.initiator (initiator_side (ends bsy ack atn x e.msg e.cd e.io e.req e.given))) n
of_initiator p t n e bsy ack atn x h f =
    let g : EndLines = ends bsy ack atn x e.msg e.cd e.io e.req e.given in
    let m = initiator_moves p n e bsy ack atn x t h in
    within p (row_of_lines t n.initiator (initiator_side g)) n (turn e g (initiator_side e) (initiator_side g)) m.change
    (phase_same e bsy ack atn x e.req e.given (initiator_side e) (initiator_side g)) m.linked.stands.connection_is f

of_target : (p : List Row) (t : ℕ) (n : Connection) (e : EndLines) (req : Bool) (y : ℕ) → Linked p n e
    → Step p (turn e (ends e.bsy e.ack e.atn e.sent e.msg e.cd e.io req y)
    (target_side e) (target_side (ends e.bsy e.ack e.atn e.sent e.msg e.cd e.io req y)))
    → InRow p (row_of_lines t n.target (target_side (ends e.bsy e.ack e.atn e.sent e.msg e.cd e.io req y))) n
of_target p t n e req y h f =
    let g : EndLines = ends e.bsy e.ack e.atn e.sent e.msg e.cd e.io req y in
    let m = target_moves p n e e.msg e.cd e.io req y t h in
    within p (row_of_lines t n.target (target_side g)) n (turn e g (target_side e) (target_side g)) m.change
    (phase_same e e.bsy e.ack e.atn e.sent req y (target_side e) (target_side g)) m.linked.stands.connection_is f

struck : (p : List Row) (t d bit : ℕ) (n : Connection) (e : EndLines) → Linked p n e → InRow p (row_of_fault t d bit) n
struck p t d bit n e h =
    let b : LineSet = connected_bus e in
    let c : Change = change_to b b (drives p d) (drives p d) in
    let is = fault_change p t d bit b (drives p d) h.stands.bus_is refl in
    within p (row_of_fault t d bit) n c is (λ i. not (same_self e.msg i && same_self e.cd i && same_self e.io i))
    (λ i. connection_after (h.stands.connection_is i) (call p) (is i) (row_of_fault t d bit))
    (rests (no_rise e.req) (no_rise e.ack) refl (λ u. refl))

-- By pulses it is not so.
pulsed : {A : Type 0} (p : List Row) (n : Connection) (e : EndLines) → Linked p n e → rows.is_pulsed p e ≡ true
    → pulses_here p ≡ false → A
pulsed p n e h z u = wrong' (sym u ∙ sym (pulsed_as p n e h) ∙ z)

-- ---- it is left

leaves_for : (p : List Row) (t : ℕ) (n : Connection) (atn msg cd io : Bool) (x y : ℕ) (v : Serving)
    (l : Leaving) (o : Option Phase) → Linked p n (ends false false atn x msg cd io false y)
    → (pulses_here p ≡ true → (handshakes p).waiting ≡ []) → InRow p (row_of_lines t n.target (lines_by v io l o)) n
leaves_for p t n atn msg cd io x y v l o h none =
    record { step = λ con. step o con; over = λ z. (ap awaits h.stands.bus_is, none) }
  where
    e : EndLines
    e = ends false false atn x msg cd io false y

    step : (a : Option Phase) → connection (row_of_lines t n.target (lines_by v io l a) ∷ p) ≡ Some n
        → Step p (change_of p (row_of_lines t n.target (lines_by v io l a)))
    step None con = none_some n (sym (freed_connection p t n e refl h) ∙ con)
    step (Some phase) con =
        let w = lines_are v io l atn x phase in
        let f : EndLines = ends false false atn x (phase_lines phase).msg
        (phase_lines phase).cd (phase_lines phase).io false w.0 in
        subst (λ (z : LineSet). Step p (change_of p (row_of_lines t n.target z)))
        (sym w.1) (subst (λ (c : Change). Step p c) (sym
        (target_moves p n e (phase_lines phase).msg (phase_lines phase).cd (phase_lines phase).io false w.0 t h).change)
        (rests refl refl refl (λ u. refl)))

left : (s : ScenarioValue) (p : List Row) (t : ℕ) (n : Connection) (atn msg cd io : Bool) (x y : ℕ)
    → Linked p n (ends false false atn x msg cd io false y)
    → (rows.is_pulsed p (ends false false atn x msg cd io false y) ≡ true → (handshakes p).waiting ≡ [])
    → InRow p (row_of_lines t n.target (offering_with s p n true (ends false false atn x msg cd io false y)).to) n
left s p t n atn msg cd io x y h none =
    let b : LineSet = connected_bus (ends false false atn x msg cd io false y) in
    let v : Serving = serving_at s (run_state s p) n.target (phase_of b) in
    leaves_for p t n atn msg cd io x y v (phase_leaving v atn (phase_of b)) (phase_leaving v atn (phase_of b)).to h
    (λ z. none (pulsed_as p n (ends false false atn x msg cd io false y) h ∙ z))

-- ---- any row

speaks_none : (a b atn : Bool) → b ≡ false → ((a || b) || atn) ≡ (a || atn)
speaks_none a b atn e = ap (λ (q : Bool). (a || q) || atn) e ∙ ap (λ (q : Bool). q || atn) (or_false a)

-- No request of the target for a synchronous data transfer is open.
pub in_row : (s : ScenarioValue) (p : List Row) (row : Row) (n : Connection) → (bus p).io ≡ true
    → is_of_other (dialogue p).heard.now.offer End.Initiator ≡ false → LinkRow s p n row → InRow p row n
in_row s p row n io none (rows.opens h b e) = wrong' (sym (ap (λ (l : LineSet). l.io) h.stands.bus_is) ∙ io)
in_row s p row n io none (rows.strikes f bit h b got who e) =
    subst (λ (w : Row). InRow p w n) (sym e) (struck p (last_time p) row.dev bit n f h)
in_row s p row n io none (rows.hands atn msg cd i y h b un e) = subst (λ (w : Row). InRow p w n) (sym e) (of_initiator p
    row.time n (ends true false atn 0 msg cd i false y) false false atn 0 h (rests refl refl refl (λ u. refl)))
in_row s p row n io none (rows.releases atn x msg cd h b un e) = subst (λ (w : Row). InRow p w n) (sym e) (of_initiator
    p row.time n (ends false false atn x msg cd true false 0) false false atn 0 h (rests refl refl refl (λ u. refl)))
in_row s p row n io none (rows.answers atn to msg cd y h b un rose e) =
    let f : EndLines = ends false false atn 0 msg cd true true y in
    subst (λ (w : Row). InRow p w n) (sym e)
    (of_initiator p row.time n f false true to 0 h (answers (sym (pulsed_as p n f h) ∙ un.1) refl refl
    (rose ∙ speaks_none (handshakes p).struck (answering_with s p n f).speaks atn none) (refl, refl)))
in_row s p row n io none (rows.ends_ack_in atn msg cd y h b un z e) =
    subst (λ (w : Row). InRow p w n) (sym e) (of_initiator p row.time n
    (ends false true atn 0 msg cd true false y) false false atn 0 h (rests refl refl refl (λ u. refl)))
in_row s p row n io none (rows.gives atn msg cd h b z e) =
    wrong' (sym (ap (λ (l : LineSet). l.io) h.stands.bus_is) ∙ io)
in_row s p row n io none (rows.sends atn msg cd x h b z some e) =
    wrong' (sym (ap (λ (l : LineSet). l.io) h.stands.bus_is) ∙ io)
in_row s p row n io none (rows.ends_ack_out atn msg cd x h b e) =
    wrong' (sym (ap (λ (l : LineSet). l.io) h.stands.bus_is) ∙ io)
in_row s p row n io none (rows.answers_pulse req atn to y h b un z rose e) =
    let f : EndLines = ends false false atn 0 false false true req y in
    subst (λ (w : Row). InRow p w n) (sym e) (of_initiator p row.time n f false true to 0 h
    (answers_oldest (sym (pulsed_as p n f h) ∙ z) (no_rise req) refl rose))
in_row s p row n io none (rows.ends_ack_pulse i req atn x y h b un z e) =
    let f : EndLines = ends false true atn x false false i req y in
    subst (λ (w : Row). InRow p w n) (sym e)
    (of_initiator p row.time n f false false atn x h (rests (no_rise req) refl refl (λ u. pulsed p n f h z u)))
in_row s p row n io none (rows.drives_pulsed req atn x y h b z e) =
    wrong' (sym (ap (λ (l : LineSet). l.io) h.stands.bus_is) ∙ io)
in_row s p row n io none (rows.sends_pulse req atn x h b z byte e) =
    wrong' (sym (ap (λ (l : LineSet). l.io) h.stands.bus_is) ∙ io)
in_row s p row n io none (rows.offers atn x msg cd h b un e) = subst (λ (w : Row). InRow p w n) (sym e)
    (of_target p row.time n (ends false false atn x msg cd true false 0) false _ h (rests refl refl refl (λ u. refl)))
in_row s p row n io none (rows.asks_first bsy atn msg cd i y h b un first e) = subst (λ (w : Row). InRow p w n) (sym e)
    (of_target p row.time n (ends bsy false atn 0 msg cd i false y) true y h (asks refl refl refl (λ u. (refl, refl))))
in_row s p row n io none (rows.ends_req atn msg cd i x y h b un z e) = subst (λ (w : Row). InRow p w n) (sym e)
    (of_target p row.time n (ends false true atn x msg cd i true y) false _ h (rests refl refl refl (λ u. refl)))
in_row s p row n io none (rows.asks_next atn msg cd i y h b un z follows e) =
    subst (λ (w : Row). InRow p w n) (sym e) (of_target p row.time n (ends false false atn 0 msg cd i false y) true y h
    (asks refl refl refl (λ u. (refl, refl))))
in_row s p row n io none (rows.leaves atn msg cd i x y h b known un zero follows e) =
    subst (λ (w : Row). InRow p w n) (sym e) (left s p row.time n atn msg cd i x y h zero.1)
in_row s p row n io none (rows.ends_req_pulse i ack atn x y h b un z e) =
    let f : EndLines = ends false ack atn x false false i true y in
    subst (λ (w : Row). InRow p w n) (sym e)
    (of_target p row.time n f false y h (rests refl (no_rise ack) refl (λ u. pulsed p n f h z u)))
in_row s p row n io none (rows.changes_pulsed ack atn y z h b un q e) =
    subst (λ (w : Row). InRow p w n) (sym e) (of_target p row.time n
    (ends false ack atn 0 false false true false y) false z h (rests refl (no_rise ack) refl (λ u. refl)))
in_row s p row n io none (rows.asks_pulse i ack atn x y h b un z zero byte e) =
    let f : EndLines = ends false ack atn x false false i false y in
    subst (λ (w : Row). InRow p w n) (sym e)
    (of_target p row.time n f true y h (asks refl (no_rise ack) refl (λ u. pulsed p n f h z u)))
