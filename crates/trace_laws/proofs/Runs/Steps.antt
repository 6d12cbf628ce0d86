-- DATA OUT: a byte is asked for while one of the run follows, and answered where it was asked for.
use Rattle.trace_laws.proofs
use proofs.Names.{ℕ, ◌≡◌, ◌⊎◌, inl, inr, ◌<◌, Bool, true, false, ◌∙◌, List, ◌∷◌, Option, Some, None, refl, sym, ap}
use proofs.Names.{subst, true≢false, ltb-true, if◌then◌else◌, nat_lt, wrong', change_of, rises, LineSet, connection}
use proofs.Names.{bus, drives, last_time, Row, Change, Connection, handshakes, dialogue, ScenarioValue, is_pulsed_phase}
use proofs.Names.{begun, Serving, phase_of, phase_leaving, phase_lines, lines_by, Leaving, Phase, run_state, serving_at}
use proofs.Names.{fault_change, EndLines, initiator_side, target_side, connected_bus, Linked, row_of_lines}
use proofs.Names.{row_of_fault, change_to, offering_with, initiator_moves, target_moves, no_rise, run_count, none_some}
use proofs.Names.{lines_are, turn, LinkRow, is_pulsed, is_unasked, freed_connection, run_lines, pulses_here}
use Rattle.story_laws.specs.link_laws.specs.Phases.{ends}
use Rattle.story_laws.specs.row_laws.proofs.Lines.Rows as rows

-- What a row does with REQ and ACK in DATA OUT.
pub record OutStep (s : ScenarioValue) (p : List Row) (n : Connection) (c : Change) : Type 0 where
  pub answers : rises c.before.ack c.after.ack ≡ true → (pulses_here p ≡ false → c.before.req ≡ true)
      × (pulses_here p ≡ true → (handshakes p).answers < (handshakes p).requests)
  pub asks : rises c.before.req c.after.req ≡ true → (c.before.ack ≡ c.after.ack)
      × ((is_unasked p ≡ true) ⊎ ((pulses_here p ≡ false → (handshakes p).answers < run_count s p n)
      × (pulses_here p ≡ true → (handshakes p).requests < run_count s p n)))
  pub stays : pulses_here p ≡ false → c.after.req ≡ true → c.after.ack ≡ false → rises c.before.req c.after.req ≡ false
      → (c.before.req ≡ true) × (c.before.ack ≡ false)

-- Neither rises, and REQ does not wait for ACK after it.
rests : (s : ScenarioValue) (p : List Row) (n : Connection) (c : Change) → rises c.before.ack c.after.ack ≡ false
    → rises c.before.req c.after.req ≡ false → (pulses_here p ≡ false → c.after.req ≡ true → c.after.ack ≡ false
    → (c.before.req ≡ true) × (c.before.ack ≡ false)) → OutStep s p n c
rests s p n c a r h =
    record { answers = λ z. wrong' (sym a ∙ z); asks = λ z. wrong' (sym r ∙ z); stays = λ u q b z. h u q b }

-- ---- rows of the ends

pub by_initiator_row :
    (s : ScenarioValue) (p : List Row) (t : ℕ) (n : Connection) (e : EndLines) (bsy ack atn : Bool) (x : ℕ)
    → Linked p n e → OutStep s p n (turn e (ends bsy ack atn x e.msg e.cd e.io e.req e.given)
    (initiator_side e) (initiator_side (ends bsy ack atn x e.msg e.cd e.io e.req e.given)))
    → OutStep s p n
    (change_of p (row_of_lines t n.initiator (initiator_side (ends bsy ack atn x e.msg e.cd e.io e.req e.given))))
by_initiator_row s p t n e bsy ack atn x h f =
    subst (λ (c : Change). OutStep s p n c) (sym (initiator_moves p n e bsy ack atn x t h).change) f

pub by_target_row : (s : ScenarioValue) (p : List Row) (t : ℕ) (n : Connection) (e : EndLines) (req : Bool) (y : ℕ)
    → Linked p n e → OutStep s p n (turn e (ends e.bsy e.ack e.atn e.sent e.msg e.cd e.io req y)
    (target_side e) (target_side (ends e.bsy e.ack e.atn e.sent e.msg e.cd e.io req y)))
    → OutStep s p n
    (change_of p (row_of_lines t n.target (target_side (ends e.bsy e.ack e.atn e.sent e.msg e.cd e.io req y))))
by_target_row s p t n e req y h f =
    subst (λ (c : Change). OutStep s p n c) (sym (target_moves p n e e.msg e.cd e.io req y t h).change) f

pub struck_row : (s : ScenarioValue) (p : List Row) (t d bit : ℕ) (n : Connection) (e : EndLines) → Linked p n e
    → OutStep s p n (change_of p (row_of_fault t d bit))
struck_row s p t d bit n e h =
    let b : LineSet = connected_bus e in
    subst (λ (c : Change). OutStep s p n c) (sym (fault_change p t d bit b (drives p d) h.stands.bus_is refl))
    (rests s p n (change_to b b (drives p d) (drives p d)) (no_rise e.ack) (no_rise e.req) (λ u q z. (q, z)))

-- The phase is left: REQ is false after it.
leaves_for : (s : ScenarioValue) (p : List Row) (t : ℕ) (n : Connection) (atn msg cd io : Bool) (x y : ℕ)
    (v : Serving) (l : Leaving) (o : Option Phase) → Linked p n (ends false false atn x msg cd io false y)
    → connection (row_of_lines t n.target (lines_by v io l o) ∷ p) ≡ Some n
    → OutStep s p n (change_of p (row_of_lines t n.target (lines_by v io l o)))
leaves_for s p t n atn msg cd io x y v l None h con =
    absurd (none_some n (sym (freed_connection p t n (ends false false atn x msg cd io false y) refl h) ∙ con))
leaves_for s p t n atn msg cd io x y v l (Some phase) h con =
    let e : EndLines = ends false false atn x msg cd io false y in
    let w = lines_are v io l atn x phase in
    let f : EndLines = ends false false atn x (phase_lines phase).msg
    (phase_lines phase).cd (phase_lines phase).io false w.0 in
    subst (λ (z : LineSet). OutStep s p n (change_of p (row_of_lines t n.target z)))
    (sym w.1) (subst (λ (c : Change). OutStep s p n c) (sym
    (target_moves p n e (phase_lines phase).msg (phase_lines phase).cd (phase_lines phase).io false w.0 t h).change)
    (rests s p n (turn e f (target_side e) (target_side f)) refl refl (λ u q z. wrong' q)))

pub left_row : (s : ScenarioValue) (p : List Row) (t : ℕ) (n : Connection) (atn msg cd io : Bool) (x y : ℕ)
    → Linked p n (ends false false atn x msg cd io false y)
    → connection (row_of_lines t n.target (offering_with s p n true (ends false false atn x msg cd io false y)).to ∷ p)
    ≡ Some n
    → OutStep s p n
    (change_of p (row_of_lines t n.target (offering_with s p n true (ends false false atn x msg cd io false y)).to))
left_row s p t n atn msg cd io x y h con =
    let b : LineSet = connected_bus (ends false false atn x msg cd io false y) in
    let v : Serving = serving_at s (run_state s p) n.target (phase_of b) in
    leaves_for s p t n atn msg cd io x y v (phase_leaving v atn (phase_of b))
    (phase_leaving v atn (phase_of b)).to h con

-- ---- lines

pub pulsed_as : (p : List Row) (n : Connection) (e : EndLines) → Linked p n e → is_pulsed p e ≡ pulses_here p
pulsed_as p n e h = ap (λ (l : LineSet). is_pulsed_phase true l (dialogue p).heard.now.agreement) (sym h.stands.bus_is)

-- In DATA OUT I/O is false.
pub no_in : {A : Type 0} (p : List Row) (n : Connection) (e : EndLines) → Linked p n e
    → phase_of (bus p) ≡ Phase.DataOut → e.io ≡ true → A
no_in p n e h phase io =
    absurd (true≢false (sym io ∙ (run_lines (connected_bus e) (ap phase_of (sym h.stands.bus_is) ∙ phase)).2))

-- REQ rises: first, or while a byte follows.
first_asked : (s : ScenarioValue) (p : List Row) (t : ℕ) (n : Connection) (bsy atn msg cd io : Bool) (y : ℕ)
    → Linked p n (ends bsy false atn 0 msg cd io false y) → is_unasked p ≡ true
    → OutStep s p n (change_of p (row_of_lines t n.target (target_side (ends bsy false atn 0 msg cd io true y))))
first_asked s p t n bsy atn msg cd io y h un = by_target_row s p t n (ends bsy false atn 0 msg cd io false y) true y h
    (record { answers = λ z. wrong' z; asks = λ z. (refl, inl un); stays = λ u q b z. absurd (true≢false z) })

next_asked : (s : ScenarioValue) (p : List Row) (t : ℕ) (n : Connection) (atn msg cd io : Bool) (y : ℕ)
    → Linked p n (ends false false atn 0 msg cd io false y) → phase_of (bus p) ≡ Phase.DataOut
    → is_pulsed p (ends false false atn 0 msg cd io false y) ≡ false
    → (offering_with s p n true (ends false false atn 0 msg cd io false y)).follows ≡ true
    → OutStep s p n (change_of p (row_of_lines t n.target (target_side (ends false false atn 0 msg cd io true y))))
next_asked s p t n atn msg cd io y h phase z follows =
    let e : EndLines = ends false false atn 0 msg cd io false y in
    let lines = run_lines (connected_bus e) (ap phase_of (sym h.stands.bus_is) ∙ phase) in
    let unpulsed : is_pulsed p (ends false false atn 0 false false false false y) ≡ false =
    (λ i. is_pulsed p (ends false false atn 0 (sym lines.0 i) (sym lines.1 i) (sym lines.2 i) false y)) ∙ z in
    let here : (offering_with s p n true (ends false false atn 0 false false false false y)).follows ≡ true = (λ i.
    (offering_with s p n true (ends false false atn 0 (sym lines.0 i) (sym lines.1 i) (sym lines.2 i) false y)).follows)
    ∙ follows in
    let less : nat_lt (handshakes p).answers (run_count s p n) ≡ true =
    sym (ap (λ (q : Bool). if q then nat_lt (handshakes p).requests (run_count s p n)
    else nat_lt (handshakes p).answers (run_count s p n)) unpulsed) ∙ here in
    by_target_row s p t n e true y h (record {
      answers = λ q. wrong' q;
      asks = λ q. (
        refl,
        inr (λ u. ltb-true (handshakes p).answers (run_count s p n) less, λ u. wrong' (sym z ∙ pulsed_as p n e h ∙ u)),
      );
      stays = λ u q b r. absurd (true≢false r);
    })

-- ---- byte by byte, and before the first byte

pub link_step : (s : ScenarioValue) (p : List Row) (row : Row) (n : Connection) → phase_of (bus p) ≡ Phase.DataOut
    → begun p ≡ true → pulses_here p ≡ false → connection (row ∷ p) ≡ Some n → LinkRow s p n row
    → OutStep s p n (change_of p row)
link_step s p row n phase b u con (rows.opens h w e) = wrong' (sym w ∙ b)
link_step s p row n phase b u con (rows.strikes f bit h w got who e) =
    subst (λ (w : Row). OutStep s p n (change_of p w)) (sym e) (struck_row s p (last_time p) row.dev bit n f h)
link_step s p row n phase b u con (rows.hands atn msg cd io y h w un e) =
    subst (λ (w : Row). OutStep s p n (change_of p w)) (sym e) (by_initiator_row s p row.time n
    (ends true false atn 0 msg cd io false y) false false atn 0 h (rests s p n _ refl refl (λ z q a. wrong' q)))
link_step s p row n phase b u con (rows.releases atn x msg cd h w un e) = no_in p n _ h phase refl
link_step s p row n phase b u con (rows.answers atn to msg cd y h w un rose e) = no_in p n _ h phase refl
link_step s p row n phase b u con (rows.ends_ack_in atn msg cd y h w un z e) = no_in p n _ h phase refl
link_step s p row n phase b u con (rows.gives atn msg cd h w z e) =
    subst (λ (w : Row). OutStep s p n (change_of p w)) (sym e) (by_initiator_row s p row.time n
    (ends false false atn 0 msg cd false true 0) false false _ _ h (rests s p n _ refl refl (λ z q a. (refl, refl))))
link_step s p row n phase b u con (rows.sends atn msg cd x h w z some e) = subst
    (λ (w : Row). OutStep s p n (change_of p w)) (sym e)
    (by_initiator_row s p row.time n (ends false false atn x msg cd false true 0) false true atn x h (record {
      answers = λ q. (λ v. refl, λ v. wrong' (sym u ∙ v));
      asks = λ q. wrong' q;
      stays = λ v q a r. absurd (true≢false a);
    }))
link_step s p row n phase b u con (rows.ends_ack_out atn msg cd x h w e) =
    subst (λ (w : Row). OutStep s p n (change_of p w)) (sym e) (by_initiator_row s p row.time n
    (ends false true atn x msg cd false false 0) false false atn 0 h (rests s p n _ refl refl (λ z q a. wrong' q)))
link_step s p row n phase b u con (rows.answers_pulse req atn to y h w un z rose e) = no_in p n _ h phase refl
link_step s p row n phase b u con (rows.ends_ack_pulse io req atn x y h w un z e) =
    wrong' (sym u ∙ sym (pulsed_as p n _ h) ∙ z)
link_step s p row n phase b u con (rows.drives_pulsed req atn x y h w z e) =
    wrong' (sym u ∙ sym (pulsed_as p n _ h) ∙ z)
link_step s p row n phase b u con (rows.sends_pulse req atn x h w z byte e) =
    wrong' (sym u ∙ sym (pulsed_as p n _ h) ∙ z)
link_step s p row n phase b u con (rows.offers atn x msg cd h w un e) = no_in p n _ h phase refl
link_step s p row n phase b u con (rows.asks_first bsy atn msg cd io y h w un first e) =
    subst (λ (w : Row). OutStep s p n (change_of p w)) (sym e) (first_asked s p row.time n bsy atn msg cd io y h un)
link_step s p row n phase b u con (rows.ends_req atn msg cd io x y h w un z e) =
    subst (λ (w : Row). OutStep s p n (change_of p w)) (sym e) (by_target_row s p row.time n
    (ends false true atn x msg cd io true y) false _ h (rests s p n _ refl refl (λ z q a. wrong' q)))
link_step s p row n phase b u con (rows.asks_next atn msg cd io y h w un z follows e) = subst
    (λ (w : Row). OutStep s p n (change_of p w)) (sym e) (next_asked s p row.time n atn msg cd io y h phase z follows)
link_step s p row n phase b u con (rows.leaves atn msg cd io x y h w known un zero follows e) = subst
    (λ (w : Row). OutStep s p n (change_of p w)) (sym e)
    (left_row s p row.time n atn msg cd io x y h (ap (λ (w : Row). connection (w ∷ p)) (sym e) ∙ con))
link_step s p row n phase b u con (rows.ends_req_pulse io ack atn x y h w un z e) =
    wrong' (sym u ∙ sym (pulsed_as p n _ h) ∙ z)
link_step s p row n phase b u con (rows.changes_pulsed ack atn y z h w un pulsed e) =
    wrong' (sym u ∙ sym (pulsed_as p n _ h) ∙ pulsed)
link_step s p row n phase b u con (rows.asks_pulse io ack atn x y h w un z zero byte e) =
    wrong' (sym u ∙ sym (pulsed_as p n _ h) ∙ z)
