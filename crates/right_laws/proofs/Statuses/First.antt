-- In STATUS one byte crosses: REQ rises in it but once (6.1.5.1, 6.1.8).
use Rattle.right_laws.proofs
use proofs.Names.{ℕ, ◌≡◌, Bool, true, false, not, ◌&&◌, ◌==◌, ◌∙◌, List, ◌∷◌, Option, Some, None, refl, sym, ap}
use proofs.Names.{if◌then◌else◌, wrong, wrong', rises, LineSet, is_fault, connection, bus, Row, Change, Connection}
use proofs.Names.{Handshakes, handshakes, ScenarioValue, Offering, follows_by, Serving, phase_of, phase_leaving}
use proofs.Names.{follows_in, lines_by, Leaving, Phase, run_state_plain, AreOfDevices, RunState, bus_of, run_state}
use proofs.Names.{serving_of, serving_at, offering_of, EndLines, connected_bus, Linked, ends_selected, row_of_lines}
use proofs.Names.{ends, none_some, risen, offering_is, initiator_end, target_end, freed_connection}
use Rattle.trace_laws.specs.row_laws.proofs.Lines.Rows as rows

-- REQ rises with the row, in STATUS.
pub record Asks (p : List Row) (row : Row) (n : Connection) : Type 0 where
  pub msg : (bus p).msg ≡ false
  pub cd : (bus p).cd ≡ true
  pub io : (bus p).io ≡ true
  pub rose : rises (bus p).req (bus (row ∷ p)).req ≡ true
  pub lines : is_fault row.kind ≡ false
  pub after : connection (row ∷ p) ≡ Some n

is_high : (q r : Bool) → rises q r ≡ true → r ≡ true
is_high true r e = wrong' e
is_high false r e = e

-- It was true before, or is not after; or the phase is another.
asked : {A : Type 0} (p : List Row) (row : Row) (n : Connection) (e : EndLines) → Asks p row n → Linked p n e
    → e.req ≡ true → A
asked p row n e h linked z = wrong
    (sym z ∙ ap (λ (b : LineSet). b.req) (sym linked.stands.bus_is) ∙ risen (bus p).req (bus (row ∷ p)).req h.rose)

low : {A : Type 0} (p : List Row) (row : Row) (n : Connection) → Asks p row n → (bus (row ∷ p)).req ≡ false → A
low p row n h z = wrong (sym (is_high (bus p).req (bus (row ∷ p)).req h.rose) ∙ z)

outward : {A : Type 0} (p : List Row) (row : Row) (n : Connection) (e : EndLines) → Asks p row n → Linked p n e
    → e.io ≡ false → A
outward p row n e h linked z = wrong (sym h.io ∙ ap (λ (b : LineSet). b.io) linked.stands.bus_is ∙ z)

elsewhere : {A : Type 0} (p : List Row) (row : Row) (n : Connection) (e : EndLines) → Asks p row n → Linked p n e
    → e.cd ≡ false → A
elsewhere p row n e h linked z = wrong (sym h.cd ∙ ap (λ (b : LineSet). b.cd) linked.stands.bus_is ∙ z)

-- The target leaves the phase.
left_low : (s : ScenarioValue) (p : List Row) (t : ℕ) (n : Connection) (atn msg cd : Bool) (x y : ℕ) (v : Serving)
    (l : Leaving) (o : Option Phase) → AreOfDevices p → Linked p n (ends false false atn x msg cd true false y)
    → connection (row_of_lines t n.target (lines_by v true l o) ∷ p) ≡ Some n
    → (bus (row_of_lines t n.target (lines_by v true l o) ∷ p)).req ≡ false
left_low s p t n atn msg cd x y v l None dv h after =
    none_some n (sym (freed_connection p t n (ends false false atn x msg cd true false y) refl h) ∙ after)
left_low s p t n atn msg cd x y v l (Some Phase.DataOut) dv h after = ap (λ (c : Change). c.after.req)
    (target_end s p t n (ends false false atn x msg cd true false y) false false false false 0 dv h).moves.change
left_low s p t n atn msg cd x y v l (Some Phase.Command) dv h after = ap (λ (c : Change). c.after.req)
    (target_end s p t n (ends false false atn x msg cd true false y) false true false false 0 dv h).moves.change
left_low s p t n atn msg cd x y v l (Some Phase.MessageOut) dv h after = ap (λ (c : Change). c.after.req)
    (target_end s p t n (ends false false atn x msg cd true false y) true true false false 0 dv h).moves.change
left_low s p t n atn msg cd x y v l (Some Phase.DataIn) dv h after = ap (λ (c : Change). c.after.req)
    (target_end s p t n (ends false false atn x msg cd true false y) false false true false _ dv h).moves.change
left_low s p t n atn msg cd x y v l (Some Phase.Status) dv h after = ap (λ (c : Change). c.after.req)
    (target_end s p t n (ends false false atn x msg cd true false y) false true true false _ dv h).moves.change
left_low s p t n atn msg cd x y v l (Some Phase.MessageIn) dv h after = ap (λ (c : Change). c.after.req)
    (target_end s p t n (ends false false atn x msg cd true false y) true true true false _ dv h).moves.change

-- While a byte follows in STATUS, none was asked for.
pub status_follows : (s : ScenarioValue) (k : RunState) (dev : ℕ) → phase_of (bus_of k) ≡ Phase.Status
    → (bus_of k).cd ≡ true → (offering_of s k dev).follows ≡ (k.handshakes.requests == 0)
status_follows s k dev e cd = ap (λ (q : Bool). follows_by (serving_of s k dev) q (bus_of k) k.handshakes)
    (no_data k.exchange.begun (bus_of k).msg _ (bus_of k).cd cd)
    ∙ ap (follows_in (serving_of s k dev) k.handshakes (bus_of k).atn) e
  where
    no_data : (q m r c : Bool) → c ≡ true → (q && (not m && not c) && r) ≡ false
    no_data true true r c z = refl
    no_data true false r c z = (λ i. not (z i) && r)
    no_data false m r c z = refl

pub status_first : (s : ScenarioValue) (p : List Row) (row : Row) (n : Connection) → AreOfDevices p → Asks p row n
    → rows.LinkRow s p n row → ((handshakes p).requests == 0) ≡ true
status_first s p row n dv h (rows.opens x b e) = elsewhere p row n ends_selected h x refl
status_first s p row n dv h (rows.strikes f bit x b got who e) =
    wrong' (sym h.lines ∙ ap (λ (r : Row). is_fault r.kind) e)
status_first s p row n dv h (rows.hands atn msg cd io y x b un e) = un
status_first s p row n dv h (rows.releases atn x msg cd l b un e) = un
status_first s p row n dv h (rows.answers atn to msg cd y l b un rose e) = asked p row n _ h l refl
status_first s p row n dv h (rows.ends_ack_in atn msg cd y l b un z e) =
    low p row n h ((λ i. (bus (e i ∷ p)).req) ∙ ap (λ (c : Change). c.after.req)
    (initiator_end s p row.time n (ends false true atn 0 msg cd true false y) false false atn 0 dv l).moves.change)
status_first s p row n dv h (rows.gives atn msg cd l b z e) = outward p row n _ h l refl
status_first s p row n dv h (rows.sends atn msg cd x l b z some e) = outward p row n _ h l refl
status_first s p row n dv h (rows.ends_ack_out atn msg cd x l b e) = outward p row n _ h l refl
status_first s p row n dv h (rows.answers_pulse req atn to y l b un z rose e) = elsewhere p row n _ h l refl
status_first s p row n dv h (rows.ends_ack_pulse io req atn x y l b un z e) = elsewhere p row n _ h l refl
status_first s p row n dv h (rows.drives_pulsed req atn x y l b z e) = elsewhere p row n _ h l refl
status_first s p row n dv h (rows.sends_pulse req atn x l b z byte e) = elsewhere p row n _ h l refl
status_first s p row n dv h (rows.offers atn x msg cd l b un e) = un
status_first s p row n dv h (rows.asks_first bsy atn msg cd io y l b un first e) = un
status_first s p row n dv h (rows.ends_req atn msg cd io x y l b un z e) = asked p row n _ h l refl
status_first s p row n dv h (rows.asks_next atn msg cd io y l b un z follows e) =
    let k = run_state s p in
    let pl = run_state_plain s p dv in
    let phase : phase_of (bus_of k) ≡ Phase.Status = ap phase_of pl.bus ∙ status_phase (bus p) h.msg h.cd h.io in
    ap (λ (r : Handshakes). r.requests == 0) (sym pl.handshakes)
    ∙ sym (status_follows s k n.target phase (ap (λ (w : LineSet). w.cd) pl.bus ∙ h.cd))
    ∙ ap (λ (g : Offering). g.follows) (offering_is s p n _ dv l b) ∙ follows
  where
    status_phase : (w : LineSet) → w.msg ≡ false → w.cd ≡ true → w.io ≡ true → phase_of w ≡ Phase.Status
    status_phase w x y z = λ i. if x i then (if z i then Phase.MessageIn else Phase.MessageOut)
        else if y i then (if z i then Phase.Status else Phase.Command) else if z i then Phase.DataIn else Phase.DataOut
status_first s p row n dv h (rows.leaves atn msg cd false x y l b known un zero follows e) = outward p row n _ h l refl
status_first s p row n dv h (rows.leaves atn msg cd true x y l b known un zero follows e) =
    let f : EndLines = ends false false atn x msg cd true false y in
    let v : Serving = serving_at s (run_state s p) n.target (phase_of (connected_bus f)) in
    let t : Leaving = phase_leaving v atn (phase_of (connected_bus f)) in
    low p row n h ((λ i. (bus (e i ∷ p)).req)
    ∙ left_low s p row.time n atn msg cd x y v t t.to dv l (sym (λ i. connection (e i ∷ p)) ∙ h.after))
status_first s p row n dv h (rows.ends_req_pulse io ack atn x y l b un z e) = elsewhere p row n _ h l refl
status_first s p row n dv h (rows.changes_pulsed ack atn y z l b un pulsed e) = elsewhere p row n _ h l refl
status_first s p row n dv h (rows.asks_pulse io ack atn x y l b un z zero byte e) = elsewhere p row n _ h l refl
