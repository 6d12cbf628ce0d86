-- Which rows of a connection let a byte cross, and what the two ends drive then.
use Rattle.right_laws.proofs
use proofs.Names.{ℕ, ◌≡◌, inl, inr, Bool, true, false, not, ◌&&◌, ◌||◌, ◌∙◌, List, ◌∷◌, Option, Some, None, refl, sym}
use proofs.Names.{ap, subst, cases_eq, if◌then◌else◌, and_false, bus_off, bus-fault, change_of, rises, LineSet, none}
use proofs.Names.{byte_set, union, receiver, receiver_in, receiver_of, bus, drives, last_time, Row, Agreement, Change}
use proofs.Names.{Connection, ScenarioValue, is_pulsed_phase, Serving, phase_lines, phase_of, leaving_by, lines_by}
use proofs.Names.{one_if, phase_byte, Leaving, Phase, run_state, serving_at, drives_own, drives_other, fault_change}
use proofs.Names.{EndLines, initiator_side, connected_bus, Linked, ends_selected, row_of_lines, row_of_fault}
use proofs.Names.{offering_with, initiator_in_phase, target_in_phase, target_moves, terms_of, no_rise, initiator_moves}
use proofs.{Names.{target_row, initiator_row, ends, none_both, no_pulse, no_answer, LinkRow}, Samples.Bytes.{Crossed}}
use proofs.Samples.Bytes.{into_initiator, into_target}
use Rattle.trace_laws.specs.row_laws.proofs.Lines.Rows as rows

pub data Crossing (p : List Row) (row : Row) (n : Connection) : Type 0 where
  carries_none : (bus (row ∷ p)).rst ≡ false → receiver (row ∷ p) ≡ None → Crossing p row n
  carries : (d : ℕ) → (bus (row ∷ p)).rst ≡ false → receiver (row ∷ p) ≡ Some d → Crossed (row ∷ p) n d
      → Crossing p row n

-- ---- no byte crosses

-- With a row after which neither REQ nor ACK is true no byte crosses.
pub low_receiver : (n : Connection) (c : Change) → c.after.req ≡ false → c.after.ack ≡ false → receiver_in n c ≡ None
low_receiver n c req ack = (λ i. if c.before.io then (if not c.before.req && req i then Some n.initiator else None)
    else (if not c.before.ack && ack i then Some n.target else None))
    ∙ (λ i. if c.before.io then (if and_false (not c.before.req) i then Some n.initiator else None)
    else (if and_false (not c.before.ack) i then Some n.target else None))
    ∙ none_both c.before.io

silent : (p : List Row) (row row' : Row) (n : Connection) → row ≡ row' → (bus (row' ∷ p)).rst ≡ false
    → receiver (row' ∷ p) ≡ None → Crossing p row n
silent p row row' n e calm r =
    carries_none (ap (λ (w : Row). (bus (w ∷ p)).rst) e ∙ calm) (ap (λ (w : Row). receiver (w ∷ p)) e ∙ r)

-- What the rises of REQ and ACK let cross.
abbrev crosses_by : Connection → EndLines → (req ack : Bool) → Option ℕ
crosses_by n e req ack =
    if e.io then (if rises e.req req then Some n.initiator else None)
    else (if rises e.ack ack then Some n.target else None)

by_initiator : (p : List Row) (row : Row) (n : Connection) (e : EndLines) (bsy ack atn : Bool) (x : ℕ)
    → Linked p n e → row ≡ initiator_row row.time n (ends bsy ack atn x e.msg e.cd e.io e.req e.given)
    → crosses_by n e e.req ack ≡ None → Crossing p row n
by_initiator p row n e bsy ack atn x h same r = silent p row
    (initiator_row row.time n (ends bsy ack atn x e.msg e.cd e.io e.req e.given)) n same
    (ap (λ (l : LineSet). l.rst) (initiator_moves p n e bsy ack atn x row.time h).linked.stands.bus_is)
    ((initiator_in_phase p n e bsy ack atn x row.time h).receiver_is ∙ r)

by_target : (p : List Row) (row : Row) (n : Connection) (e : EndLines) (req : Bool) (y : ℕ)
    → Linked p n e → row ≡ target_row row.time n (ends e.bsy e.ack e.atn e.sent e.msg e.cd e.io req y)
    → crosses_by n e req e.ack ≡ None → Crossing p row n
by_target p row n e req y h same r = silent p row
    (target_row row.time n (ends e.bsy e.ack e.atn e.sent e.msg e.cd e.io req y)) n same
    (ap (λ (l : LineSet). l.rst) (target_moves p n e e.msg e.cd e.io req y row.time h).linked.stands.bus_is)
    ((target_in_phase p n e req y row.time h).receiver_is ∙ r)

-- The line stands, or falls.
still : (n : Connection) (io req ack : Bool) → (if io then (if rises req req then Some n.initiator else None)
    else (if rises ack ack then Some n.target else None)) ≡ None
still n io req ack = (λ i. if io then (if no_rise req i then Some n.initiator else None)
    else (if no_rise ack i then Some n.target else None)) ∙ none_both io

-- ---- a phase is left

lines_low : (on : LineSet → Bool) → on none ≡ false → ((phase : Phase) → on (phase_lines phase) ≡ false)
    → ((phase : Phase) (x : ℕ) → on (record (phase_lines phase) { data_bits = x }) ≡ false)
    → (v : Serving) (io : Bool) (l : Leaving) (o : Option Phase) → on (lines_by v io l o) ≡ false
lines_low on zero lines given v io l None = zero
lines_low on zero lines given v io l (Some phase) = go (io && (phase_lines phase).io)
  where
    go : (q : Bool) → on (if q then record (phase_lines phase) {
      data_bits = (byte_set (phase_byte v phase l.messages (one_if l.done) 0)).data_bits;
    } else phase_lines phase) ≡ false
    go true = given phase (byte_set (phase_byte v phase l.messages (one_if l.done) 0)).data_bits
    go false = lines phase

req_low : (phase : Phase) → (phase_lines phase).req ≡ false
req_low Phase.DataOut = refl
req_low _ = refl

rst_low : (phase : Phase) → (phase_lines phase).rst ≡ false
rst_low Phase.DataOut = refl
rst_low _ = refl

ack_low : (phase : Phase) → (phase_lines phase).ack ≡ false
ack_low Phase.DataOut = refl
ack_low _ = refl

left_low : (p : List Row) (n : Connection) (e : EndLines) (t : ℕ) (l : LineSet) (on : LineSet → Bool)
    → ((a b : LineSet) → on (union a b) ≡ (on a || on b)) → on none ≡ false → Linked p n e → on l ≡ false
    → on (initiator_side e) ≡ false → on (bus (row_of_lines t n.target l ∷ p)) ≡ false
left_low p n e t l on both zero h low other =
    bus_off on both zero (row_of_lines t n.target l ∷ p) (λ d lt. elim (cases_eq d n.target) [
      | inl same ↦
          ap (λ (m : ℕ). on (drives (row_of_lines t n.target l ∷ p) m)) same ∙ ap on (drives_own p t n.target l) ∙ low
      | inr nt ↦ ap on (drives_other p t n.target l d nt) ∙ (elim (cases_eq d n.initiator) [
        | inl same ↦ ap (λ (m : ℕ). on (drives p m)) same ∙ ap on h.initiator ∙ other
        | inr ni ↦ ap on (h.rest d lt ni nt) ∙ zero
      ])
    ])

-- ---- every row

pub crossing : (s : ScenarioValue) (p : List Row) (row : Row) (n : Connection) → LinkRow s p n row → Crossing p row n
crossing s p row n (rows.opens h b e) = silent p row _ n e (ap (λ (l : LineSet). l.rst)
    (target_moves p n ends_selected true true false false 0 row.time h).linked.stands.bus_is) (terms_of p _ n
    ends_selected _ _ _ h (target_moves p n ends_selected true true false false 0 row.time h)).receiver_is
crossing s p row n (rows.strikes f bit h b got who e) = silent p row (row_of_fault (last_time p) row.dev bit) n e
    (ap (λ (l : LineSet). l.rst) (bus-fault (row_of_fault (last_time p) row.dev bit) p bit refl ∙ h.stands.bus_is))
    ((λ i. receiver_of (h.stands.connection_is i)
    (fault_change p (last_time p) row.dev bit (connected_bus f) (drives p row.dev) h.stands.bus_is refl i))
    ∙ still n f.io f.req f.ack)
crossing s p row n (rows.hands atn msg cd io y h b un e) =
    by_initiator p row n (ends true false atn 0 msg cd io false y) false false atn 0 h e (none_both io)
crossing s p row n (rows.releases atn x msg cd h b un e) =
    by_initiator p row n (ends false false atn x msg cd true false 0) false false atn 0 h e refl
crossing s p row n (rows.answers atn to msg cd y h b un rose e) =
    by_initiator p row n (ends false false atn 0 msg cd true true y) false true to 0 h e refl
crossing s p row n (rows.ends_ack_in atn msg cd y h b un z e) =
    by_initiator p row n (ends false true atn 0 msg cd true false y) false false atn 0 h e refl
crossing s p row n (rows.gives atn msg cd h b z e) =
    by_initiator p row n (ends false false atn 0 msg cd false true 0) false false _ _ h e refl
crossing s p row n (rows.sends atn msg cd x h b z some e) =
    let f : EndLines = ends false true atn x msg cd false true 0 in
    let w = initiator_in_phase p n (ends false false atn x msg cd false true 0) false true atn x row.time h in
    let m = initiator_moves p n (ends false false atn x msg cd false true 0) false true atn x row.time h in
    subst (λ (r : Row). Crossing p r n) (sym e) (carries n.target (ap (λ (l : LineSet). l.rst) m.linked.stands.bus_is)
    w.receiver_is (into_target f m.linked (w.begun_is ∙ b) refl refl refl refl (inl refl) w.ack_is))
crossing s p row n (rows.ends_ack_out atn msg cd x h b e) =
    by_initiator p row n (ends false true atn x msg cd false false 0) false false atn 0 h e refl
crossing s p row n (rows.answers_pulse req atn to y h b un z rose e) =
    by_initiator p row n (ends false false atn 0 false false true req y) false true to 0 h e (no_pulse n true req)
crossing s p row n (rows.ends_ack_pulse io req atn x y h b un z e) =
    by_initiator p row n (ends false true atn x false false io req y) false false atn x h e (no_pulse n io req)
crossing s p row n (rows.drives_pulsed req atn x y h b z e) =
    by_initiator p row n (ends false false atn x false false false req 0) false false atn y h e refl
crossing s p row n (rows.sends_pulse req atn x h b z byte e) =
    let f : EndLines = ends false true atn x false false false req 0 in
    let w = initiator_in_phase p n (ends false false atn x false false false req 0) false true atn x row.time h in
    let m = initiator_moves p n (ends false false atn x false false false req 0) false true atn x row.time h in
    subst (λ (r : Row). Crossing p r n) (sym e) (carries n.target (ap (λ (l : LineSet). l.rst) m.linked.stands.bus_is)
    w.receiver_is (into_target f m.linked (w.begun_is ∙ b) refl refl refl refl
    (inr (ap (λ (a : Agreement). is_pulsed_phase true (connected_bus f) a) (w.agreement_is refl refl) ∙ z)) w.ack_is))
crossing s p row n (rows.offers atn x msg cd h b un e) =
    by_target p row n (ends false false atn x msg cd true false 0) false _ h e refl
crossing s p row n (rows.asks_first bsy atn msg cd true y h b un first e) =
    let f : EndLines = ends bsy false atn 0 msg cd true true y in
    let w = target_in_phase p n (ends bsy false atn 0 msg cd true false y) true y row.time h in
    let m = target_moves p n (ends bsy false atn 0 msg cd true false y) msg cd true true y row.time h in
    subst (λ (r : Row). Crossing p r n) (sym e)
    (carries n.initiator (ap (λ (l : LineSet). l.rst) m.linked.stands.bus_is) w.receiver_is
    (into_initiator f m.linked (w.begun_is ∙ b) refl refl refl (inl refl) w.req_is))
crossing s p row n (rows.asks_first bsy atn msg cd false y h b un first e) =
    by_target p row n (ends bsy false atn 0 msg cd false false y) true y h e refl
crossing s p row n (rows.ends_req atn msg cd io x y h b un z e) =
    by_target p row n (ends false true atn x msg cd io true y) false _ h e (none_both io)
crossing s p row n (rows.asks_next atn msg cd true y h b un z follows e) =
    let f : EndLines = ends false false atn 0 msg cd true true y in
    let w = target_in_phase p n (ends false false atn 0 msg cd true false y) true y row.time h in
    let m = target_moves p n (ends false false atn 0 msg cd true false y) msg cd true true y row.time h in
    subst (λ (r : Row). Crossing p r n) (sym e)
    (carries n.initiator (ap (λ (l : LineSet). l.rst) m.linked.stands.bus_is) w.receiver_is
    (into_initiator f m.linked (w.begun_is ∙ b) refl refl refl (inl refl) w.req_is))
crossing s p row n (rows.asks_next atn msg cd false y h b un z follows e) =
    by_target p row n (ends false false atn 0 msg cd false false y) true y h e refl
crossing s p row n (rows.leaves atn msg cd io x y h b known un zero follows e) =
    let f : EndLines = ends false false atn x msg cd io false y in
    let l : LineSet = (offering_with s p n true f).to in
    let v : Serving = serving_at s (run_state s p) n.target (phase_of (connected_bus f)) in
    let w : Leaving = leaving_by v true (connected_bus f) in
    let req : l.req ≡ false = lines_low (λ y. y.req) refl req_low (λ phase x. req_low phase) v io w w.to in
    let ack : l.ack ≡ false = lines_low (λ y. y.ack) refl ack_low (λ phase x. ack_low phase) v io w w.to in
    silent p row (row_of_lines row.time n.target l) n e (left_low p n f row.time l (λ y. y.rst)
    (λ _ _. refl) refl h (lines_low (λ y. y.rst) refl rst_low (λ phase x. rst_low phase) v io w w.to) refl) (ap
    (λ (o : Option Connection). receiver_of o (change_of p (row_of_lines row.time n.target l))) h.stands.connection_is
    ∙ low_receiver n (change_of p (row_of_lines row.time n.target l))
    (left_low p n f row.time l (λ y. y.req) (λ _ _. refl) refl h req refl)
    (left_low p n f row.time l (λ y. y.ack) (λ _ _. refl) refl h ack refl))
crossing s p row n (rows.ends_req_pulse io ack atn x y h b un z e) =
    by_target p row n (ends false ack atn x false false io true y) false y h e (no_answer n io ack)
crossing s p row n (rows.changes_pulsed ack atn y z h b un pulsed e) =
    by_target p row n (ends false ack atn 0 false false true false y) false z h e refl
crossing s p row n (rows.asks_pulse true ack atn x y h b un z zero byte e) =
    let f : EndLines = ends false ack atn x false false true true y in
    let w = target_in_phase p n (ends false ack atn x false false true false y) true y row.time h in
    let m = target_moves p n (ends false ack atn x false false true false y) false false true true y row.time h in
    subst (λ (r : Row). Crossing p r n) (sym e)
    (carries n.initiator (ap (λ (l : LineSet). l.rst) m.linked.stands.bus_is) w.receiver_is
    (into_initiator f m.linked (w.begun_is ∙ b) refl refl refl
    (inr (ap (λ (a : Agreement). is_pulsed_phase true (connected_bus f) a) (w.agreement_is refl refl) ∙ z)) w.req_is))
crossing s p row n (rows.asks_pulse false ack atn x y h b un z zero byte e) =
    by_target p row n (ends false ack atn x false false false false y) true y h e (no_answer n false ack)
