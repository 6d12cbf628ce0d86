-- A phase is left only after a byte of it was asked for (6.1.5.1, 6.1.5.2).
use Rattle.transcript_laws.proofs
use proofs.Names.{ℕ, ◌≡◌, ◌∙◌, Bool, true, false, not, ◌&&◌, List, refl, sym, ap, wrong, wrong', change_of, LineSet}
use proofs.Names.{changes_phase, drives, last_time, Connection, Row, ScenarioValue, begun, fault_change, EndLines}
use proofs.Names.{Linked, connected_bus, initiator_side, target_side, row_of_fault, row_of_lines, initiator_moves}
use proofs.Names.{target_moves, phase_same, ends, LinkRow, is_unasked}
use Rattle.due_model.specs.bus_trace.proofs.Sets.{same_self}
use Rattle.progress_laws.specs.row_laws.proofs.Lines.Rows as rows

-- ---- rows with which the phase stays

by_initiator : (p : List Row) (n : Connection) (e : EndLines) (bsy ack atn : Bool) (x t : ℕ) → Linked p n e
    → changes_phase
    (change_of p (row_of_lines t n.initiator (initiator_side (ends bsy ack atn x e.msg e.cd e.io e.req e.given))))
    ≡ false
by_initiator p n e bsy ack atn x t h = ap changes_phase (initiator_moves p n e bsy ack atn x t h).change
    ∙ phase_same e bsy ack atn x e.req e.given (initiator_side e)
    (initiator_side (ends bsy ack atn x e.msg e.cd e.io e.req e.given))

by_target : (p : List Row) (n : Connection) (e : EndLines) (req : Bool) (y t : ℕ) → Linked p n e → changes_phase
    (change_of p (row_of_lines t n.target (target_side (ends e.bsy e.ack e.atn e.sent e.msg e.cd e.io req y)))) ≡ false
by_target p n e req y t h = ap changes_phase (target_moves p n e e.msg e.cd e.io req y t h).change
    ∙ phase_same e e.bsy e.ack e.atn e.sent req y (target_side e)
    (target_side (ends e.bsy e.ack e.atn e.sent e.msg e.cd e.io req y))

by_fault : (p : List Row) (n : Connection) (e : EndLines) (t d bit : ℕ) → Linked p n e
    → changes_phase (change_of p (row_of_fault t d bit)) ≡ false
by_fault p n e t d bit h =
    let b : LineSet = connected_bus e in
    ap changes_phase (fault_change p t d bit b (drives p d) h.stands.bus_is refl)
    ∙ (λ i. not (same_self b.msg i && same_self b.cd i && same_self b.io i))

-- ---- the row that leaves it

left_by : (p : List Row) (row other : Row) → row ≡ other → changes_phase (change_of p other) ≡ false
    → changes_phase (change_of p row) ≡ true → is_unasked p ≡ false
left_by p row other e f ep = wrong' (sym (ap (λ (r : Row). changes_phase (change_of p r)) e ∙ f) ∙ ep)

pub left_asked : (s : ScenarioValue) (p : List Row) (row : Row) (n : Connection) → begun p ≡ true → LinkRow s p n row
    → changes_phase (change_of p row) ≡ true → is_unasked p ≡ false
left_asked s p row n b (rows.opens h unbegun e) ep = wrong (sym b ∙ unbegun)
left_asked s p row n b (rows.strikes w bit h begun got dev e) ep =
    left_by p row (row_of_fault (last_time p) row.dev bit) e (by_fault p n w (last_time p) row.dev bit h) ep
left_asked s p row n b (rows.hands atn msg cd io y h begun un e) ep =
    left_by p row _ e (by_initiator p n (ends true false atn 0 msg cd io false y) false false atn 0 row.time h) ep
left_asked s p row n b (rows.releases atn x msg cd h begun un e) ep =
    left_by p row _ e (by_initiator p n (ends false false atn x msg cd true false 0) false false atn 0 row.time h) ep
left_asked s p row n b (rows.answers atn to msg cd y h begun un rose e) ep = un.0
left_asked s p row n b (rows.ends_ack_in atn msg cd y h begun un pulsed e) ep = un
left_asked s p row n b (rows.gives atn msg cd h begun pulsed e) ep =
    left_by p row _ e (by_initiator p n (ends false false atn 0 msg cd false true 0) false false _ _ row.time h) ep
left_asked s p row n b (rows.sends atn msg cd x h begun pulsed some e) ep =
    left_by p row _ e (by_initiator p n (ends false false atn x msg cd false true 0) false true atn x row.time h) ep
left_asked s p row n b (rows.ends_ack_out atn msg cd x h begun e) ep =
    left_by p row _ e (by_initiator p n (ends false true atn x msg cd false false 0) false false atn 0 row.time h) ep
left_asked s p row n b (rows.answers_pulse req atn to y h begun un pulsed rose e) ep = un
left_asked s p row n b (rows.ends_ack_pulse io req atn x y h begun un pulsed e) ep = un
left_asked s p row n b (rows.drives_pulsed req atn x z h begun pulsed e) ep = left_by p row _ e
    (by_initiator p n (ends false false atn x false false false req 0) false false atn z row.time h) ep
left_asked s p row n b (rows.sends_pulse req atn x h begun pulsed byte e) ep =
    left_by p row _ e (by_initiator p n (ends false false atn x false false false req 0) false true atn x row.time h) ep
left_asked s p row n b (rows.offers atn x msg cd h begun un e) ep =
    left_by p row _ e (by_target p n (ends false false atn x msg cd true false 0) false _ row.time h) ep
left_asked s p row n b (rows.asks_first bsy atn msg cd io y h begun un first e) ep =
    left_by p row _ e (by_target p n (ends bsy false atn 0 msg cd io false y) true y row.time h) ep
left_asked s p row n b (rows.ends_req atn msg cd io x y h begun un pulsed e) ep = un
left_asked s p row n b (rows.asks_next atn msg cd io y h begun un pulsed follows e) ep = un
left_asked s p row n b (rows.leaves atn msg cd io x y h begun known un rests follows e) ep = un
left_asked s p row n b (rows.ends_req_pulse io ack atn x y h begun un pulsed e) ep = un
left_asked s p row n b (rows.changes_pulsed ack atn y z h begun un pulsed e) ep = un
left_asked s p row n b (rows.asks_pulse io ack atn x y h begun un pulsed zero byte e) ep = un
