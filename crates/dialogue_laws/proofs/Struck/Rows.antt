-- A row of STATUS or MESSAGE IN after its byte was struck: REQ does not rise again, and ATN is true, or the byte waits
-- for the ACK with which the initiator raises it (6.1.5.1, 6.2.1, 6.6.10, 6.6.13).
use Rattle.dialogue_laws.proofs
use proofs.Names.{inl, inr, ℕ, ◌≡◌, ◌⊎◌, Bool, true, false, not, ◌&&◌, ◌||◌, ◌∙◌, List, [], ◌∷◌, length, Option, Some}
use proofs.Names.{None, refl, sym, ap, subst, ◌==◌, if◌then◌else◌, nat_lt, or_false, wrong', same_self, change_of}
use proofs.Names.{rises, LineSet, changes_phase, call, connection, connection_after, is_fault, bus, drives, last_time}
use proofs.Names.{Row, Change, Connection, Handshakes, answered_if, asked_if, handshakes, handshakes_after}
use proofs.Names.{handshakes_on, no_handshakes, newest_struck_if, ScenarioValue, bytes_of_messages, Serving}
use proofs.Names.{phase_leaving, phase_lines, phase_of, lines_by, Leaving, Phase, run_state, serving_at, fault_change}
use proofs.Names.{EndLines, Linked, connected_bus, initiator_side, target_side, change_to, row_of_fault, row_of_lines}
use proofs.Names.{answering_with, offering_with, initiator_moves, no_rise, phase_same, target_moves, none_some}
use proofs.Names.{lines_are, turn, LinkRow, is_unasked, freed_connection, awaits}
use Rattle.progress_laws.specs.link_laws.specs.Phases.{ends}
use Rattle.progress_laws.specs.row_laws.proofs.Lines.Rows as rows

-- ---- a byte that was struck was asked for

unstruck : (p : List Row) → is_unasked p ≡ true → (handshakes p).struck ≡ false
unstruck [] e = refl
unstruck (row ∷ p) e = kind (λ z. unstruck p z) (is_fault row.kind) refl
  where
    c : Change
    c = change_of p row

    before : Type 0
    before = is_unasked p ≡ true → (handshakes p).struck ≡ false

    faulty : before → (io : Bool) → ((newest_struck_if io (handshakes p)).requests == 0) ≡ true
        → (newest_struck_if io (handshakes p)).struck ≡ false
    faulty was true z = ap not z
    faulty was false z = was z

    shaken :
        before → (r a : Bool) → ((answered_if a row.time (asked_if r row.time (handshakes p))).requests == 0) ≡ true
        → (answered_if a row.time (asked_if r row.time (handshakes p))).struck ≡ false
    shaken was true true z = refl
    shaken was true false z = refl
    shaken was false true z = was z
    shaken was false false z = was z

    turned : before → (x : Bool) → ((if x then no_handshakes else answered_if (rises c.before.ack c.after.ack) row.time
        (asked_if (rises c.before.req c.after.req) row.time (handshakes p))).requests == 0) ≡ true
        → (if x then no_handshakes else answered_if (rises c.before.ack c.after.ack) row.time
        (asked_if (rises c.before.req c.after.req) row.time (handshakes p))).struck ≡ false
    turned was true z = refl
    turned was false z = shaken was (rises c.before.req c.after.req) (rises c.before.ack c.after.ack) z

    on : before → (o : Option Connection) → ((handshakes_on o c row.time (handshakes p)).requests == 0) ≡ true
        → (handshakes_on o c row.time (handshakes p)).struck ≡ false
    on was None z = refl
    on was (Some n) z = turned was (changes_phase c) z

    kind : before → (x : Bool) → is_fault row.kind ≡ x → (handshakes (row ∷ p)).struck ≡ false
    kind was true f =
        let is = ap (λ (x : Bool). handshakes_after x (connection (row ∷ p)) c row.time (handshakes p)) f in
        ap (λ (h : Handshakes). h.struck) is
        ∙ faulty was c.before.io (ap (λ (h : Handshakes). h.requests == 0) (sym is) ∙ e)
    kind was false f =
        let is = ap (λ (x : Bool). handshakes_after x (connection (row ∷ p)) c row.time (handshakes p)) f in
        ap (λ (h : Handshakes). h.struck) is
        ∙ on was (connection (row ∷ p)) (ap (λ (h : Handshakes). h.requests == 0) (sym is) ∙ e)

-- ---- a row

-- ATN is true, or a byte waits for its ACK.
abbrev pub owes : LineSet → Bool
owes b = b.atn || awaits b

pub record Stays (p : List Row) (c : Change) : Type 0 where
  pub asks : rises c.before.req c.after.req ≡ true → awaits c.after ≡ true
  pub owing : (handshakes p).struck ≡ true → owes c.before ≡ true
      → (rises c.before.req c.after.req ≡ false) × (owes c.after ≡ true)

pub record StruckRow (p : List Row) (row : Row) (n : Connection) : Type 0 where
  pub stays : connection (row ∷ p) ≡ Some n → Stays p (change_of p row)
  pub over : (changes_phase (change_of p row) ≡ true) ⊎ (connection (row ∷ p) ≡ None) → awaits (bus p) ≡ false

-- REQ does not rise.
rests : (p : List Row) (c : Change) → rises c.before.req c.after.req ≡ false
    → ((handshakes p).struck ≡ true → owes c.before ≡ true → owes c.after ≡ true) → Stays p c
rests p c e f = record { asks = λ z. wrong' (sym e ∙ z); owing = λ u o. (e, f u o) }

-- It does, which it does not after a struck byte.
asked : (p : List Row) (c : Change) → awaits c.after ≡ true → ((handshakes p).struck ≡ true → owes c.before ≡ true
    → (rises c.before.req c.after.req ≡ false) × (owes c.after ≡ true)) → Stays p c
asked p c a f = record { asks = λ z. a; owing = f }

-- ---- the phase stays, and the connection

within : (p : List Row) (row : Row) (n : Connection) (c : Change) → change_of p row ≡ c → changes_phase c ≡ false
    → connection (row ∷ p) ≡ Some n → Stays p c → StruckRow p row n
within p row n c e same con f = record { stays = λ z. subst (λ (x : Change). Stays p x) (sym e) f; over = over }
  where
    over : (changes_phase (change_of p row) ≡ true) ⊎ (connection (row ∷ p) ≡ None) → awaits (bus p) ≡ false
    over (inl z) = wrong' (sym (ap changes_phase e ∙ same) ∙ z)
    over (inr z) = none_some n (sym z ∙ con)

of_initiator : (p : List Row) (t : ℕ) (n : Connection) (e : EndLines) (bsy ack atn : Bool) (x : ℕ) → Linked p n e
    → Stays p (turn e (ends bsy ack atn x e.msg e.cd e.io e.req e.given)
    (initiator_side e) (initiator_side (ends bsy ack atn x e.msg e.cd e.io e.req e.given)))
    → StruckRow p (row_of_lines t n.initiator (initiator_side (ends bsy ack atn x e.msg e.cd e.io e.req e.given))) n
of_initiator p t n e bsy ack atn x h f =
    let g : EndLines = ends bsy ack atn x e.msg e.cd e.io e.req e.given in
    let m = initiator_moves p n e bsy ack atn x t h in
    within p (row_of_lines t n.initiator (initiator_side g)) n (turn e g (initiator_side e) (initiator_side g)) m.change
    (phase_same e bsy ack atn x e.req e.given (initiator_side e) (initiator_side g)) m.linked.stands.connection_is f

of_target : (p : List Row) (t : ℕ) (n : Connection) (e : EndLines) (req : Bool) (y : ℕ) → Linked p n e
    → Stays p (turn e (ends e.bsy e.ack e.atn e.sent e.msg e.cd e.io req y)
    (target_side e) (target_side (ends e.bsy e.ack e.atn e.sent e.msg e.cd e.io req y)))
    → StruckRow p (row_of_lines t n.target (target_side (ends e.bsy e.ack e.atn e.sent e.msg e.cd e.io req y))) n
of_target p t n e req y h f =
    let g : EndLines = ends e.bsy e.ack e.atn e.sent e.msg e.cd e.io req y in
    let m = target_moves p n e e.msg e.cd e.io req y t h in
    within p (row_of_lines t n.target (target_side g)) n (turn e g (target_side e) (target_side g)) m.change
    (phase_same e e.bsy e.ack e.atn e.sent req y (target_side e) (target_side g)) m.linked.stands.connection_is f

by_fault : (p : List Row) (t d bit : ℕ) (n : Connection) (e : EndLines) → Linked p n e
    → StruckRow p (row_of_fault t d bit) n
by_fault p t d bit n e h =
    let b : LineSet = connected_bus e in
    let c : Change = change_to b b (drives p d) (drives p d) in
    let is = fault_change p t d bit b (drives p d) h.stands.bus_is refl in
    within p (row_of_fault t d bit) n c is (λ i. not (same_self e.msg i && same_self e.cd i && same_self e.io i))
    (λ i. connection_after (h.stands.connection_is i) (call p) (is i) (row_of_fault t d bit))
    (rests p c (no_rise e.req) (λ u o. o))

-- ---- it is left

leaves_for : (p : List Row) (t : ℕ) (n : Connection) (atn msg cd io : Bool) (x y : ℕ) (v : Serving)
    (l : Leaving) (o : Option Phase) → Linked p n (ends false false atn x msg cd io false y)
    → StruckRow p (row_of_lines t n.target (lines_by v io l o)) n
leaves_for p t n atn msg cd io x y v l o h = record { stays = λ con. on o con; over = λ z. ap awaits h.stands.bus_is }
  where
    e : EndLines
    e = ends false false atn x msg cd io false y

    on : (a : Option Phase) → connection (row_of_lines t n.target (lines_by v io l a) ∷ p) ≡ Some n
        → Stays p (change_of p (row_of_lines t n.target (lines_by v io l a)))
    on None con = none_some n (sym (freed_connection p t n e refl h) ∙ con)
    on (Some phase) con =
        let w = lines_are v io l atn x phase in
        let f : EndLines = ends false false atn x (phase_lines phase).msg
        (phase_lines phase).cd (phase_lines phase).io false w.0 in
        subst (λ (z : LineSet). Stays p (change_of p (row_of_lines t n.target z)))
        (sym w.1) (subst (λ (c : Change). Stays p c) (sym
        (target_moves p n e (phase_lines phase).msg (phase_lines phase).cd (phase_lines phase).io false w.0 t h).change)
        (rests p (turn e f (target_side e) (target_side f)) refl (λ u o. o)))

left : (s : ScenarioValue) (p : List Row) (t : ℕ) (n : Connection) (atn msg cd io : Bool) (x y : ℕ)
    → Linked p n (ends false false atn x msg cd io false y)
    → StruckRow p (row_of_lines t n.target (offering_with s p n true (ends false false atn x msg cd io false y)).to) n
left s p t n atn msg cd io x y h =
    let b : LineSet = connected_bus (ends false false atn x msg cd io false y) in
    let v : Serving = serving_at s (run_state s p) n.target (phase_of b) in
    leaves_for p t n atn msg cd io x y v (phase_leaving v atn (phase_of b)) (phase_leaving v atn (phase_of b)).to h

-- ---- after a byte of STATUS no other follows, and none after a byte of MESSAGE IN with which ATN is true

none_follows : {A : Type 0} (s : ScenarioValue) (p : List Row) (n : Connection) (atn msg cd io : Bool) (y : ℕ)
    → io ≡ true → cd ≡ true → is_unasked p ≡ false → atn ≡ true
    → (offering_with s p n true (ends false false atn 0 msg cd io false y)).follows ≡ true → A
none_follows s p n true true true true y i c un a f = wrong' (sym (ap (λ (q : Bool). (q || false)
    && nat_lt (handshakes p).requests (length (bytes_of_messages (run_state s p).exchange.plan.messages))) un) ∙ f)
none_follows s p n true false true true y i c un a f = wrong' (sym un ∙ f)
none_follows s p n false msg cd io y i c un a f = wrong' a
none_follows s p n true msg cd false y i c un a f = wrong' i
none_follows s p n true msg false true y i c un a f = wrong' c

raised : (a b atn : Bool) → a ≡ true → (((a || b) || atn) || false) ≡ true
raised true b atn e = refl
raised false b atn e = wrong' e

-- ---- any row

pub struck_row : (s : ScenarioValue) (p : List Row) (row : Row) (n : Connection) → (bus p).io ≡ true → (bus p).cd ≡ true
    → LinkRow s p n row → StruckRow p row n
struck_row s p row n io cd (rows.opens h b e) = wrong' (sym (ap (λ (l : LineSet). l.io) h.stands.bus_is) ∙ io)
struck_row s p row n io cd (rows.strikes f bit h b got who e) =
    subst (λ (w : Row). StruckRow p w n) (sym e) (by_fault p (last_time p) row.dev bit n f h)
struck_row s p row n io cd (rows.hands atn msg c i y h b un e) = subst (λ (w : Row). StruckRow p w n) (sym e)
    (of_initiator p row.time n (ends true false atn 0 msg c i false y) false false atn 0 h (rests p _ refl (λ u o. o)))
struck_row s p row n io cd (rows.releases atn x msg c h b un e) =
    subst (λ (w : Row). StruckRow p w n) (sym e) (of_initiator p row.time n
    (ends false false atn x msg c true false 0) false false atn 0 h (rests p _ refl (λ u o. o)))
struck_row s p row n io cd (rows.answers atn to msg c y h b un rose e) =
    let f : EndLines = ends false false atn 0 msg c true true y in
    subst (λ (w : Row). StruckRow p w n) (sym e) (of_initiator p row.time n f false true to 0 h (rests p _ refl
    (λ u o. ap (λ (q : Bool). q || false) rose ∙ raised (handshakes p).struck (answering_with s p n f).speaks atn u)))
struck_row s p row n io cd (rows.ends_ack_in atn msg c y h b un z e) =
    subst (λ (w : Row). StruckRow p w n) (sym e) (of_initiator p row.time n
    (ends false true atn 0 msg c true false y) false false atn 0 h (rests p _ refl (λ u o. o)))
struck_row s p row n io cd (rows.gives atn msg c h b z e) =
    wrong' (sym (ap (λ (l : LineSet). l.io) h.stands.bus_is) ∙ io)
struck_row s p row n io cd (rows.sends atn msg c x h b z some e) =
    wrong' (sym (ap (λ (l : LineSet). l.io) h.stands.bus_is) ∙ io)
struck_row s p row n io cd (rows.ends_ack_out atn msg c x h b e) =
    wrong' (sym (ap (λ (l : LineSet). l.io) h.stands.bus_is) ∙ io)
struck_row s p row n io cd (rows.answers_pulse req atn to y h b un z rose e) =
    wrong' (sym (ap (λ (l : LineSet). l.cd) h.stands.bus_is) ∙ cd)
struck_row s p row n io cd (rows.ends_ack_pulse i req atn x y h b un z e) =
    wrong' (sym (ap (λ (l : LineSet). l.cd) h.stands.bus_is) ∙ cd)
struck_row s p row n io cd (rows.drives_pulsed req atn x y h b z e) =
    wrong' (sym (ap (λ (l : LineSet). l.cd) h.stands.bus_is) ∙ cd)
struck_row s p row n io cd (rows.sends_pulse req atn x h b z byte e) =
    wrong' (sym (ap (λ (l : LineSet). l.cd) h.stands.bus_is) ∙ cd)
struck_row s p row n io cd (rows.offers atn x msg c h b un e) = subst (λ (w : Row). StruckRow p w n) (sym e)
    (of_target p row.time n (ends false false atn x msg c true false 0) false _ h (rests p _ refl (λ u o. o)))
struck_row s p row n io cd (rows.asks_first bsy atn msg c i y h b un first e) =
    subst (λ (w : Row). StruckRow p w n) (sym e) (of_target p row.time n (ends bsy false atn 0 msg c i false y) true y h
    (asked p _ refl (λ u o. wrong' (sym (unstruck p un) ∙ u))))
struck_row s p row n io cd (rows.ends_req atn msg c i x y h b un z e) = subst (λ (w : Row). StruckRow p w n) (sym e)
    (of_target p row.time n (ends false true atn x msg c i true y) false _ h (rests p _ refl (λ u o. o)))
struck_row s p row n io cd (rows.asks_next atn msg c i y h b un z follows e) =
    let is = h.stands.bus_is in
    subst (λ (w : Row). StruckRow p w n) (sym e) (of_target p row.time n (ends false false atn 0 msg c i false y)
    true y h (asked p _ refl (λ u o. none_follows s p n atn msg c i y (ap (λ (l : LineSet). l.io) (sym is) ∙ io)
    (ap (λ (l : LineSet). l.cd) (sym is) ∙ cd) un (sym (or_false atn) ∙ o) follows)))
struck_row s p row n io cd (rows.leaves atn msg c i x y h b known un zero follows e) =
    subst (λ (w : Row). StruckRow p w n) (sym e) (left s p row.time n atn msg c i x y h)
struck_row s p row n io cd (rows.ends_req_pulse i ack atn x y h b un z e) =
    wrong' (sym (ap (λ (l : LineSet). l.cd) h.stands.bus_is) ∙ cd)
struck_row s p row n io cd (rows.changes_pulsed ack atn y z h b un q e) =
    wrong' (sym (ap (λ (l : LineSet). l.cd) h.stands.bus_is) ∙ cd)
struck_row s p row n io cd (rows.asks_pulse i ack atn x y h b un z zero byte e) =
    wrong' (sym (ap (λ (l : LineSet). l.cd) h.stands.bus_is) ∙ cd)
