-- A row with which a phase begins or the bus is freed: what the two ends drive after it.
use Rattle.row_laws.proofs
use proofs.Names.{ℕ, ◌≡◌, ◌≢◌, ◌≤◌, ◌<◌, Bool, true, false, not, ◌&&◌, ◌||◌, ◌==◌, ◌∙◌, List, ◌∷◌, Option, Some, None}
use proofs.Names.{refl, sym, ap, if◌then◌else◌, is_some, slice_index_or, wrong, wrong', eq_self, not_first, bus_two}
use proofs.Names.{change_of, LineSet, none, union, changes_phase, call, connection, connection_after, bus, drives}
use proofs.Names.{last_time, line_times, phase_time, Row, Change, Connection, Handshakes, dialogue, byte_crosses}
use proofs.Names.{phase_begins, Dialogue, ScenarioValue, byte_bits, bytes_of_messages, begun, Serving, phase_of}
use proofs.Names.{phase_leaving, leaving_by, lines_by, Leaving, Phase, run_state_plain, AreOfDevices, run_state}
use proofs.Names.{serving_at, leaving, in_connection, turns, drives_own, drives_other, EndLines, initiator_side}
use proofs.Names.{target_side, connected_bus, Linked, ends_selected, row_of_lines, CalmStanding, offering_with}
use proofs.Names.{same_phases, terms_of, target_moves, target_row, leaves_lines, enters, may_leave, ends}
use proofs.{Common.Tests.{none_both}, Lines.Driven.{message_at, AfterDriven, goes_on, frees, odd_byte, driven_in}}
use proofs.Lines.{Driven.{driven_out}, InPhase.{Values}, Kept.{turn, row_in, target_end}, Rows.{has_first, is_unasked}}
use Rattle.link_laws.proofs.LeavingWays as ways

-- ---- MESSAGE OUT begins after a selection

pub after_opens : (s : ScenarioValue) (p : List Row) (t : ℕ) (n : Connection) → Linked p n ends_selected
    → AfterDriven s (target_row t n (ends false false true 0 true true false false 0) ∷ p) n
after_opens s p t n h =
    let f : EndLines = ends false false true 0 true true false false 0 in
    let m = target_moves p n ends_selected true true false false 0 t h in
    let w = terms_of p (target_row t n f) n ends_selected f (target_side ends_selected) (target_side f) h m in
    goes_on f m.linked w.begun_is
    (driven_out s _ n false false true 0 true true 0 (λ a z. sym (ap (λ (x : Dialogue). not x.is_last) w.dialogue_is)))

-- ---- whereto a phase is left: MESSAGE OUT begins only with ATN true

abbrev asks_for : Bool → Option Phase → Bool
asks_for atn (Some Phase.MessageOut) = atn
asks_for atn (Some Phase.MessageIn) = true
asks_for atn (Some Phase.Command) = true
asks_for atn (Some Phase.Status) = true
asks_for atn (Some Phase.DataIn) = true
asks_for atn (Some Phase.DataOut) = true
asks_for atn None = true

asks : {v : Serving} {atn : Bool} {phase : Phase} {l : Leaving} → ways.Leaves v atn phase l → asks_for atn l.to ≡ true
asks (ways.attended _ _ a) = a
asks _ = refl

pub asked_for : (v : Serving) (atn : Bool) (phase : Phase) → asks_for atn (phase_leaving v atn phase).to ≡ true
asked_for v atn phase = asks (ways.leaves v atn phase)

-- ---- a phase to the target begins

-- What was heard, as a phase begins.
phase_heard : (s : ScenarioValue) (p : List Row) (t : ℕ) (n : Connection)
    (atn msg cd io : Bool) (x y : ℕ) (msg' cd' io' : Bool) (z : ℕ)
    → Linked p n (ends false false atn x msg cd io false y) → same_phases msg cd io msg' cd' io' ≡ false
    → (dialogue (target_row t n (ends false false atn x msg' cd' io' false z) ∷ p)).is_last ≡ false
phase_heard s p t n atn msg cd io x y msg' cd' io' z h differs =
    let e : EndLines = ends false false atn x msg cd io false y in
    let f : EndLines = ends false false atn x msg' cd' io' false z in
    let c : Change = turn e f (target_side e) (target_side f) in
    ap (λ (w : Dialogue). w.is_last) (terms_of p (target_row t n f) n e f (target_side e)
    (target_side f) h (target_moves p n e msg' cd' io' false z t h)).dialogue_is
    ∙ (λ i. (if is_some (none_both io i) then byte_crosses (dialogue p) c
    else if not (differs i) then phase_begins (dialogue p) else dialogue p).is_last)

begins_out :
    (s : ScenarioValue) (p : List Row) (t : ℕ) (n : Connection) (atn msg cd io : Bool) (x y : ℕ) (msg' cd' : Bool)
    → CalmStanding s p → last_time p ≤ t → Linked p n (ends false false atn x msg cd io false y)
    → same_phases msg cd io msg' cd' false ≡ false → ((msg' && cd' && true) ≡ true → atn ≡ true)
    → AfterDriven s (target_row t n (ends false false atn x msg' cd' false false 0) ∷ p) n
begins_out s p t n atn msg cd io x y msg' cd' always order h differs asks =
    let e : EndLines = ends false false atn x msg cd io false y in
    let w = enters s p n false atn x msg cd io y msg' cd' false 0 t always order h differs in
    goes_on (ends false false atn x msg' cd' false false 0)
    (target_moves p n e msg' cd' false false 0 t h).linked w.begun_is (driven_out s _ n false false atn x msg' cd' 0
    (λ a z. asks a ∙ sym (ap not (phase_heard s p t n atn msg cd io x y msg' cd' false 0 h differs))))

-- ---- a phase to the initiator begins: after one to the target the target drives no byte yet

begins_turned :
    (s : ScenarioValue) (p : List Row) (t : ℕ) (n : Connection) (atn msg cd : Bool) (x y : ℕ) (msg' cd' : Bool)
    → CalmStanding s p → last_time p ≤ t → Linked p n (ends false false atn x msg cd false false y)
    → same_phases msg cd false msg' cd' true ≡ false
    → AfterDriven s (target_row t n (ends false false atn x msg' cd' true false 0) ∷ p) n
begins_turned s p t n atn msg cd x y msg' cd' always order h differs =
    let e : EndLines = ends false false atn x msg cd false false y in
    let f : EndLines = ends false false atn x msg' cd' true false 0 in
    let q : List Row = target_row t n f ∷ p in
    let w = enters s p n false atn x msg cd false y msg' cd' true 0 t always order h differs in
    let turned : ((line_times q).io == phase_time (line_times q)) ≡ true = (λ i. w.io_is i == w.phase_is i)
    ∙ eq_self t in
    let first : has_first q true 0 ≡ false = ap not turned in
    let new : is_unasked q ≡ true = ap (λ (b : Handshakes). b.requests == 0) w.handshakes_are in
    goes_on f (target_moves p n e msg' cd' true false 0 t h).linked w.begun_is
    (driven_in s q n false false atn x msg' cd' 0 (λ a u z. wrong (sym z ∙ first)) (λ a u. wrong (sym new ∙ u))
    (λ u z. wrong (sym z ∙ first)) (λ u z r. wrong (sym new ∙ u)))

-- After one to the initiator it drives the first byte with the phase.
begins_in : (s : ScenarioValue) (p : List Row) (t : ℕ) (n : Connection) (atn msg cd : Bool) (x y : ℕ) (msg' cd' : Bool)
    (byte : ℕ) → CalmStanding s p → last_time p ≤ t → Linked p n (ends false false atn x msg cd true false y)
    → same_phases msg cd true msg' cd' true ≡ false → byte < 256 → ((msg' && cd' && true) ≡ true
    → byte ≡ message_at s (target_row t n (ends false false atn x msg' cd' true false (byte_bits byte)) ∷ p))
    → AfterDriven s (target_row t n (ends false false atn x msg' cd' true false (byte_bits byte)) ∷ p) n
begins_in s p t n atn msg cd x y msg' cd' byte always order h differs small says =
    let e : EndLines = ends false false atn x msg cd true false y in
    let f : EndLines = ends false false atn x msg' cd' true false (byte_bits byte) in
    let q : List Row = target_row t n f ∷ p in
    let w = enters s p n false atn x msg cd true y msg' cd' true (byte_bits byte) t always order h differs in
    let new : is_unasked q ≡ true = ap (λ (b : Handshakes). b.requests == 0) w.handshakes_are in
    goes_on f (target_moves p n e msg' cd' true false (byte_bits byte) t h).linked w.begun_is
    (driven_in s q n false false atn x msg' cd' (byte_bits byte) (λ a u z. ap byte_bits (says a))
    (λ a u. wrong (sym new ∙ u)) (λ u z. odd_byte byte small) (λ u z r. wrong (sym new ∙ u)))

-- The messages that are planned as MESSAGE IN begins are those with which the phase before is left.
planned : (s : ScenarioValue) (p : List Row) (t : ℕ) (n : Connection) (atn msg cd : Bool) (x y z : ℕ)
    → AreOfDevices p → CalmStanding s p → last_time p ≤ t → Linked p n (ends false false atn x msg cd true false y)
    → begun p ≡ true → same_phases msg cd true true true true ≡ false
    → message_at s (target_row t n (ends false false atn x true true true false z) ∷ p)
    ≡ slice_index_or (bytes_of_messages (phase_leaving
    (serving_at s (run_state s p) n.target (phase_of (connected_bus (ends false false atn x msg cd true false y)))) atn
    (phase_of (connected_bus (ends false false atn x msg cd true false y)))).messages) 0 0
planned s p t n atn msg cd x y z dv always order h b differs =
    let e : EndLines = ends false false atn x msg cd true false y in
    let f : EndLines = ends false false atn x true true true false z in
    let k = run_state s p in
    let c : Change = turn e f (target_side e) (target_side f) in
    let ep : changes_phase c ≡ true = ap not differs in
    let w = enters s p n false atn x msg cd true y true true true z t always order h differs in
    let row = row_in s p t n.target (target_side f) n e f (target_side e)
    (target_end s p t n e true true true false z dv h) (turns refl ep refl) in
    let a = run_state_plain s p dv in
    let on = a.bus ∙ h.stands.bus_is in
    let says = (in_connection s k (target_row t n f) n c true false false row ep refl refl).exchange_is in
    let left : leaving s k n.target
    ≡ phase_leaving (serving_at s k n.target (phase_of (connected_bus e))) atn (phase_of (connected_bus e)) =
    λ i. leaving_by (serving_at s k n.target (phase_of (on i))) ((a.begun ∙ b) i) (on i) in
    (λ i. slice_index_or (bytes_of_messages (says i).plan.messages) (w.handshakes_are i).requests 0)
    ∙ ap (λ (l : Leaving). slice_index_or (bytes_of_messages l.messages) 0 0) left

-- ---- the bus is freed

pub freed_bus : (p : List Row) (t : ℕ) (n : Connection) (e : EndLines) → Linked p n e
    → bus (row_of_lines t n.target none ∷ p) ≡ union (initiator_side e) none
freed_bus p t n e h =
    let q : List Row = row_of_lines t n.target none ∷ p in
    let holds : drives q n.initiator ≡ initiator_side e = drives_other p t n.target none n.initiator h.apart
    ∙ h.initiator in
    let own : drives q n.target ≡ none = drives_own p t n.target none in
    let rest : (d : ℕ) → d < 8 → d ≢ n.initiator → d ≢ n.target → drives q d ≡ none =
    λ d lt n1 n2. drives_other p t n.target none d n2 ∙ h.rest d lt n1 n2 in
    bus_two q n.initiator n.target h.apart h.initiator_below h.target_below rest ∙ (λ i. union (holds i) (own i))

pub freed_connection : (p : List Row) (t : ℕ) (n : Connection) (e : EndLines) → e.bsy ≡ false → Linked p n e
    → connection (row_of_lines t n.target none ∷ p) ≡ None
freed_connection p t n e quiet h =
    let row : Row = row_of_lines t n.target none in
    let bsy : (bus (row ∷ p)).bsy ≡ false = ap (λ (l : LineSet). l.bsy) (freed_bus p t n e h)
    ∙ (λ i. quiet i || false) in
    (λ i. connection_after (h.stands.connection_is i) (call p) (change_of p row) row)
    ∙ ap (λ (r : Bool). if r then Some n else None) bsy

freed : (s : ScenarioValue) (p : List Row) (t : ℕ) (n : Connection) (e : EndLines) → e.bsy ≡ false → Linked p n e
    → AfterDriven s (row_of_lines t n.target none ∷ p) n
freed s p t n e quiet h = frees (freed_connection p t n e quiet h)

-- ---- all of them

-- After a phase to the initiator.
leaves_in : (s : ScenarioValue) (p : List Row) (t : ℕ) (n : Connection) (atn msg cd : Bool) (x y : ℕ) (o : Option Phase)
    → AreOfDevices p → CalmStanding s p → last_time p ≤ t → Linked p n (ends false false atn x msg cd true false y)
    → begun p ≡ true → Values s p n (ends false false atn x msg cd true false y) → (phase_leaving
    (serving_at s (run_state s p) n.target (phase_of (connected_bus (ends false false atn x msg cd true false y)))) atn
    (phase_of (connected_bus (ends false false atn x msg cd true false y)))).to ≡ o
    → may_leave msg cd true atn o ≡ true → asks_for atn o ≡ true → AfterDriven s (row_of_lines t n.target (lines_by
    (serving_at s (run_state s p) n.target (phase_of (connected_bus (ends false false atn x msg cd true false y)))) true
    (phase_leaving
    (serving_at s (run_state s p) n.target (phase_of (connected_bus (ends false false atn x msg cd true false y)))) atn
    (phase_of (connected_bus (ends false false atn x msg cd true false y)))) o) ∷ p) n
leaves_in s p t n atn msg cd x y None dv always order h b v to m a =
    freed s p t n (ends false false atn x msg cd true false y) refl h
leaves_in s p t n atn msg cd x y (Some Phase.DataOut) dv always order h b v to m a = begins_out s p t n atn msg cd true
    x y false false always order h (not_first (same_phases msg cd true false false false) _ m) (λ z. wrong' z)
leaves_in s p t n atn msg cd x y (Some Phase.Command) dv always order h b v to m a = begins_out s p t n atn msg cd true
    x y false true always order h (not_first (same_phases msg cd true false true false) _ m) (λ z. wrong' z)
leaves_in s p t n atn msg cd x y (Some Phase.MessageOut) dv always order h b v to m a = begins_out s p t n atn msg cd
    true x y true true always order h (not_first (same_phases msg cd true true true false) _ m) (λ z. a)
leaves_in s p t n atn msg cd x y (Some Phase.DataIn) dv always order h b v to m a = begins_in s p t n atn msg cd x y
    false false _ always order h (not_first (same_phases msg cd true false false true) _ m) (v.entering Phase.DataIn to)
    (λ z. wrong' z)
leaves_in s p t n atn msg cd x y (Some Phase.Status) dv always order h b v to m a = begins_in s p t n atn msg cd x y
    false true _ always order h (not_first (same_phases msg cd true false true true) _ m) (v.entering Phase.Status to)
    (λ z. wrong' z)
leaves_in s p t n atn msg cd x y (Some Phase.MessageIn) dv always order h b v to m a =
    let differs = not_first (same_phases msg cd true true true true) _ m in
    begins_in s p t n atn msg cd x y true true _ always order h differs (v.entering Phase.MessageIn to)
    (λ z. sym (planned s p t n atn msg cd x y _ dv always order h b differs))

-- After a phase to the target.
leaves_out : (s : ScenarioValue) (p : List Row) (t : ℕ) (n : Connection)
    (atn msg cd : Bool) (x y : ℕ) (v : Serving) (l : Leaving) (o : Option Phase)
    → CalmStanding s p → last_time p ≤ t → Linked p n (ends false false atn x msg cd false false y)
    → may_leave msg cd false atn o ≡ true → asks_for atn o ≡ true
    → AfterDriven s (row_of_lines t n.target (lines_by v false l o) ∷ p) n
leaves_out s p t n atn msg cd x y v l None always order h m a =
    freed s p t n (ends false false atn x msg cd false false y) refl h
leaves_out s p t n atn msg cd x y v l (Some Phase.DataOut) always order h m a = begins_out s p t n atn msg cd false x y
    false false always order h (not_first (same_phases msg cd false false false false) _ m) (λ z. wrong' z)
leaves_out s p t n atn msg cd x y v l (Some Phase.Command) always order h m a = begins_out s p t n atn msg cd false x y
    false true always order h (not_first (same_phases msg cd false false true false) _ m) (λ z. wrong' z)
leaves_out s p t n atn msg cd x y v l (Some Phase.MessageOut) always order h m a = begins_out s p t n atn msg cd false x
    y true true always order h (not_first (same_phases msg cd false true true false) _ m) (λ z. a)
leaves_out s p t n atn msg cd x y v l (Some Phase.DataIn) always order h m a = begins_turned s p t n atn msg cd x y
    false false always order h (not_first (same_phases msg cd false false false true) _ m)
leaves_out s p t n atn msg cd x y v l (Some Phase.Status) always order h m a = begins_turned s p t n atn msg cd x y
    false true always order h (not_first (same_phases msg cd false false true true) _ m)
leaves_out s p t n atn msg cd x y v l (Some Phase.MessageIn) always order h m a = begins_turned s p t n atn msg cd x y
    true true always order h (not_first (same_phases msg cd false true true true) _ m)

pub after_leaves : (s : ScenarioValue) (p : List Row) (t : ℕ) (n : Connection) (atn msg cd io : Bool) (x y : ℕ)
    → AreOfDevices p → CalmStanding s p → last_time p ≤ t → Linked p n (ends false false atn x msg cd io false y)
    → begun p ≡ true → (msg && not cd) ≡ false → Values s p n (ends false false atn x msg cd io false y) → AfterDriven s
    (row_of_lines t n.target (offering_with s p n true (ends false false atn x msg cd io false y)).to ∷ p) n
after_leaves s p t n atn msg cd true x y dv always order h b known values =
    let e : EndLines = ends false false atn x msg cd true false y in
    let v : Serving = serving_at s (run_state s p) n.target (phase_of (connected_bus e)) in
    let l : Leaving = phase_leaving v atn (phase_of (connected_bus e)) in
    leaves_in s p t n atn msg cd x y l.to dv always order h b values refl (leaves_lines v msg cd true atn x y known)
    (asked_for v atn (phase_of (connected_bus e)))
after_leaves s p t n atn msg cd false x y dv always order h b known values =
    let e : EndLines = ends false false atn x msg cd false false y in
    let v : Serving = serving_at s (run_state s p) n.target (phase_of (connected_bus e)) in
    let l : Leaving = phase_leaving v atn (phase_of (connected_bus e)) in
    leaves_out s p t n atn msg cd x y v l l.to always order h (leaves_lines v msg cd false atn x y known)
    (asked_for v atn (phase_of (connected_bus e)))
