-- Row by row in a connection: no more requests are answered than rose, and at most one waits.
use Rattle.measure_laws.proofs
use proofs.Names.{ℕ, ◌≡◌, ◌∙◌, Bool, true, false, List, ◌∷◌, refl, sym, ap, subst, arith, Option, Some, None, length}
use proofs.Names.{◌&&◌, [], if◌then◌else◌, is_some, not, wrong, wrong', same_self, changes_phase, connection}
use proofs.Names.{receiver_in, drives, last_time, Row, Change, Connection, handshakes, no_handshakes, byte_crosses}
use proofs.Names.{dialogue, phase_begins, ScenarioValue, is_pulsed_phase, begun, Serving, phase_of, phase_leaving}
use proofs.Names.{phase_lines, lines_by, Leaving, Phase, run_state, serving_at, fault_change, EndLines, Linked}
use proofs.Names.{connected_bus, ends_selected, target_side, change_to, row_of_fault, row_of_lines, initiator_in_phase}
use proofs.Names.{initiator_moves, no_rise, target_in_phase, target_moves, terms_after, terms_of, initiator_row}
use proofs.Names.{target_row, linked_fault, LinkStage, when_offering, when_pulsing, when_selected, when_settling}
use proofs.Names.{when_shaking, when_turning, ends, none_some, none_both, lines_are, PhaseRow, is_pulsed}
use proofs.{Names.{freed_connection, pulses_here, pulsed_as}, Balances.Steps.{BalancedAt, IsBalanced, balanced_anew}}
use proofs.Balances.Steps.{balanced_initiator, balanced_struck, balanced_target, ends_ack, ends_req, none_balanced}
use proofs.{Balances.Steps.{rises_ack, rises_req, stays}, Phases.Bytes.{pulsed_stays}}
use Rattle.progress_laws.specs.row_laws.proofs.Lines.Phases as kinds

-- ---- the phase is left

-- REQ and ACK are false before and after it.
turned : (p : List Row) (t : ℕ) (n : Connection) (bsy atn msg cd io : Bool) (x y : ℕ) (msg' cd' io' : Bool) (y' : ℕ)
    → Linked p n (ends bsy false atn x msg cd io false y) → BalancedAt p
    → BalancedAt (target_row t n (ends bsy false atn x msg' cd' io' false y') ∷ p)
turned p t n bsy atn msg cd io x y msg' cd' io' y' h b =
    let e : EndLines = ends bsy false atn x msg cd io false y in
    let f : EndLines = ends bsy false atn x msg' cd' io' false y' in
    let m = target_moves p n e msg' cd' io' false y' t h in
    let z = terms_of p (target_row t n f) n e f (target_side e) (target_side f) h m in
    subst (λ l. IsBalanced (handshakes (target_row t n f ∷ p)) l.req l.ack)
    (sym m.linked.stands.bus_is) (subst (λ x. IsBalanced x false false) (sym z.handshakes_are)
    (by (changes_phase (change_to (connected_bus e) (connected_bus f) (target_side e) (target_side f)))
    (subst (λ l. IsBalanced (handshakes p) l.req l.ack) h.stands.bus_is b)))
  where
    by : (q : Bool) → IsBalanced (handshakes p) false false
        → IsBalanced (if q then no_handshakes else handshakes p) false false
    by true b = none_balanced false false
    by false b = b

left_for : (p : List Row) (t : ℕ) (n : Connection) (atn msg cd io : Bool) (x y : ℕ) (v : Serving)
    (l : Leaving) (o : Option Phase) → Linked p n (ends false false atn x msg cd io false y)
    → connection (row_of_lines t n.target (lines_by v io l o) ∷ p) ≡ Some n → BalancedAt p
    → BalancedAt (row_of_lines t n.target (lines_by v io l o) ∷ p)
left_for p t n atn msg cd io x y v l None h con b =
    absurd (none_some n (sym (freed_connection p t n (ends false false atn x msg cd io false y) refl h) ∙ con))
left_for p t n atn msg cd io x y v l (Some phase) h con b =
    let w = lines_are v io l atn x phase in
    subst (λ z. BalancedAt (row_of_lines t n.target z ∷ p)) (sym w.1)
    (turned p t n false atn msg cd io x y (phase_lines phase).msg (phase_lines phase).cd (phase_lines phase).io w.0 h b)

-- ---- a row of pulses is in a phase of pulses

pulse_initiator : {A : Type 0} (p : List Row) (t : ℕ) (n : Connection) (io req ack atn ack' atn' : Bool) (x y x' : ℕ)
    → Linked p n (ends false ack atn x false false io req y)
    → is_pulsed p (ends false ack atn x false false io req y) ≡ true
    → pulses_here (initiator_row t n (ends false ack' atn' x' false false io req y) ∷ p) ≡ false → A
pulse_initiator p t n io req ack atn ack' atn' x y x' h z u =
    let e : EndLines = ends false ack atn x false false io req y in
    let f : EndLines = ends false ack' atn' x' false false io req y in
    let q : List Row = initiator_row t n f ∷ p in
    wrong' (sym u ∙ sym (pulsed_as q n f (initiator_moves p n e false ack' atn' x' t h).linked)
    ∙ pulsed_stays p q n false ack atn false false io req x y false ack' atn' req x' y t
    (initiator_in_phase p n e false ack' atn' x' t h) ∙ z)

pulse_target : {A : Type 0} (p : List Row) (t : ℕ) (n : Connection) (io req ack atn req' : Bool) (x y y' : ℕ)
    → Linked p n (ends false ack atn x false false io req y)
    → is_pulsed p (ends false ack atn x false false io req y) ≡ true
    → pulses_here (target_row t n (ends false ack atn x false false io req' y') ∷ p) ≡ false → A
pulse_target p t n io req ack atn req' x y y' h z u =
    let e : EndLines = ends false ack atn x false false io req y in
    let f : EndLines = ends false ack atn x false false io req' y' in
    let q : List Row = target_row t n f ∷ p in
    wrong' (sym u ∙ sym (pulsed_as q n f (target_moves p n e false false io req' y' t h).linked) ∙ pulsed_stays p q n
    false ack atn false false io req x y false ack atn req' x y' t (target_in_phase p n e req' y' t h) ∙ z)

-- ---- any row

shaken : (p : List Row) (n : Connection) (e : EndLines) → Linked p n e → is_pulsed p e ≡ false
    → (pulses_here p ≡ false → BalancedAt p) → BalancedAt p
shaken p n e h z was = was (sym (pulsed_as p n e h) ∙ z)

-- A fault row tells the rules nothing.
fault_said : (p : List Row) (n : Connection) (e : EndLines) (t d bit : ℕ) → Linked p n e
    → dialogue (row_of_fault t d bit ∷ p) ≡ dialogue p
fault_said p n e t d bit h =
    let c : Change = change_to (connected_bus e) (connected_bus e) (drives p d) (drives p d) in
    let none_received : receiver_in n c ≡ None = (λ i. if e.io then (if no_rise e.req i then Some n.initiator else None)
    else (if no_rise e.ack i then Some n.target else None)) ∙ none_both e.io in
    (terms_after p (row_of_fault t d bit) n c
    (fault_change p t d bit (connected_bus e) (drives p d) h.stands.bus_is refl) h.stands.connection_is
    (linked_fault p n e t d bit h).stands.connection_is).dialogue_is
    ∙ (λ i. if is_some (none_received i) then byte_crosses (dialogue p) c
    else if not (same_self e.msg i && same_self e.cd i && same_self e.io i) then phase_begins (dialogue p)
    else dialogue p)

rest_balanced : (s : ScenarioValue) (p : List Row) (n : Connection) → LinkStage s p n → begun p ≡ true
    → (pulses_here p ≡ true → (handshakes p).waiting ≡ []) → (pulses_here p ≡ false → BalancedAt p) → BalancedAt p
rest_balanced s p n (when_selected h) b rest was = wrong (sym b ∙ h.begun_is)
rest_balanced s p n (when_settling bsy atn msg cd io y h) b rest was = balanced_anew p h.quiet
rest_balanced s p n (when_turning atn x msg cd h) b rest was = balanced_anew p h.quiet
rest_balanced s p n (when_offering atn msg cd y h) b rest was = balanced_anew p h.quiet
rest_balanced s p n (when_shaking msg cd io req ack atn x y h) b rest was =
    was (sym (pulsed_as p n _ h.linked) ∙ h.unpulsed)
rest_balanced s p n (when_pulsing io req ack atn x y h a) b rest was =
    let counts = h.facts.counts in
    let none = ap length (rest (sym (pulsed_as p n _ h.linked) ∙ h.offset)) in
    let within = h.facts.within in
    record { few = omega (arith, counts, none); bounded = omega (arith, within) }

opened_balanced : (p : List Row) (t : ℕ) (n : Connection) → Linked p n ends_selected
    → BalancedAt (target_row t n (ends false false true 0 true true false false 0) ∷ p)
opened_balanced p t n h =
    let f : EndLines = ends false false true 0 true true false false 0 in
    let m = target_moves p n ends_selected true true false false 0 t h in
    balanced_anew (target_row t n f ∷ p)
    (terms_of p (target_row t n f) n ends_selected f (target_side ends_selected) (target_side f) h m).handshakes_are

pub balance_step : (s : ScenarioValue) (p : List Row) (row : Row) (n : Connection)
    → LinkStage s p n → connection (row ∷ p) ≡ Some n → pulses_here (row ∷ p) ≡ false
    → (begun p ≡ true → pulses_here p ≡ false → BalancedAt p) → PhaseRow s p n row → BalancedAt (row ∷ p)
balance_step s p row n stage con u was (kinds.opens h e) =
    subst (λ (r : Row). BalancedAt (r ∷ p)) (sym e) (opened_balanced p row.time n h.linked)
balance_step s p row n stage con u was (kinds.strikes f bit h b got who e) = subst (λ (r : Row). BalancedAt (r ∷ p))
    (sym e) (balanced_struck p (last_time p) row.dev bit n f h (struck_here (λ z. was b z)))
  where
    same : pulses_here (row_of_fault (last_time p) row.dev bit ∷ p) ≡ pulses_here p
    same = λ i. is_pulsed_phase true
        (((linked_fault p n f (last_time p) row.dev bit h).stands.bus_is ∙ sym h.stands.bus_is) i)
        (fault_said p n f (last_time p) row.dev bit h i).heard.now.agreement

    struck_here : (pulses_here p ≡ false → BalancedAt p) → BalancedAt p
    struck_here k = k (sym same ∙ ap (λ (r : Row). pulses_here (r ∷ p)) (sym e) ∙ u)
balance_step s p row n stage con u was (kinds.leaves atn msg cd io x y h b known asked rest follows e) =
    let bus_here = connected_bus (ends false false atn x msg cd io false y) in
    let v : Serving = serving_at s (run_state s p) n.target (phase_of bus_here) in
    let l = phase_leaving v atn (phase_of bus_here) in
    subst (λ (r : Row). BalancedAt (r ∷ p)) (sym e)
    (left_for p row.time n atn msg cd io x y v l l.to h (ap (λ (r : Row). connection (r ∷ p)) (sym e) ∙ con)
    (rest_balanced s p n stage b (λ z. rest.1 (pulsed_as p n _ h ∙ z)) (was b)))
balance_step s p row n stage con u was (kinds.hands atn msg cd io y h e) =
    subst (λ (r : Row). BalancedAt (r ∷ p)) (sym e) (balanced_initiator p row.time n
    (ends true false atn 0 msg cd io false y) false false atn 0 h.linked (stays false false) (balanced_anew p h.quiet))
balance_step s p row n stage con u was (kinds.releases atn x msg cd h some e) = subst (λ (r : Row). BalancedAt (r ∷ p))
    (sym e) (balanced_initiator p row.time n (ends false false atn x msg cd true false 0) false false atn 0 h.linked
    (stays false false) (balanced_anew p h.quiet))
balance_step s p row n stage con u was (kinds.offers atn x msg cd h e) =
    subst (λ (r : Row). BalancedAt (r ∷ p)) (sym e) (balanced_target p row.time n
    (ends false false atn x msg cd true false 0) false _ h.linked (stays false false) (balanced_anew p h.quiet))
balance_step s p row n stage con u was (kinds.asks_settled bsy atn msg cd io y h e) =
    subst (λ (r : Row). BalancedAt (r ∷ p)) (sym e) (balanced_target p row.time n
    (ends bsy false atn 0 msg cd io false y) true y h.linked rises_req (balanced_anew p h.quiet))
balance_step s p row n stage con u was (kinds.asks_offered atn msg cd y h e) =
    subst (λ (r : Row). BalancedAt (r ∷ p)) (sym e) (balanced_target p row.time n
    (ends false false atn 0 msg cd true false y) true y h.linked rises_req (balanced_anew p h.quiet))
balance_step s p row n stage con u was (kinds.answers atn to msg cd y h rose e) = subst
    (λ (r : Row). BalancedAt (r ∷ p)) (sym e)
    (balanced_initiator p row.time n (ends false false atn 0 msg cd true true y) false true to 0 h.linked rises_ack
    (shaken p n _ h.linked h.unpulsed (was h.phase.begun_is)))
balance_step s p row n stage con u was (kinds.ends_ack_in atn msg cd y h e) = subst (λ (r : Row). BalancedAt (r ∷ p))
    (sym e) (balanced_initiator p row.time n (ends false true atn 0 msg cd true false y) false false atn 0 h.linked
    ends_ack (shaken p n _ h.linked h.unpulsed (was h.phase.begun_is)))
balance_step s p row n stage con u was (kinds.gives atn msg cd h e) = subst (λ (r : Row). BalancedAt (r ∷ p))
    (sym e) (balanced_initiator p row.time n (ends false false atn 0 msg cd false true 0) false false _ _ h.linked
    (stays true false) (shaken p n _ h.linked h.unpulsed (was h.phase.begun_is)))
balance_step s p row n stage con u was (kinds.sends atn msg cd x h some e) = subst (λ (r : Row). BalancedAt (r ∷ p))
    (sym e) (balanced_initiator p row.time n (ends false false atn x msg cd false true 0) false true atn x h.linked
    rises_ack (shaken p n _ h.linked h.unpulsed (was h.phase.begun_is)))
balance_step s p row n stage con u was (kinds.ends_ack_out atn msg cd x h e) = subst (λ (r : Row). BalancedAt (r ∷ p))
    (sym e) (balanced_initiator p row.time n (ends false true atn x msg cd false false 0) false false atn 0 h.linked
    ends_ack (shaken p n _ h.linked h.unpulsed (was h.phase.begun_is)))
balance_step s p row n stage con u was (kinds.ends_req atn msg cd io x y h e) = subst (λ (r : Row). BalancedAt (r ∷ p))
    (sym e) (balanced_target p row.time n (ends false true atn x msg cd io true y) false _ h.linked ends_req
    (shaken p n _ h.linked h.unpulsed (was h.phase.begun_is)))
balance_step s p row n stage con u was (kinds.asks_next atn msg cd io y h follows e) = subst
    (λ (r : Row). BalancedAt (r ∷ p)) (sym e) (balanced_target p row.time n (ends false false atn 0 msg cd io false y)
    true y h.linked rises_req (shaken p n _ h.linked h.unpulsed (was h.phase.begun_is)))
balance_step s p row n stage con u was (kinds.ends_ack_pulse io req atn x y h e) = pulse_initiator p row.time n io req
    true atn false atn x y x h.linked h.offset (ap (λ (r : Row). pulses_here (r ∷ p)) (sym e) ∙ u)
balance_step s p row n stage con u was (kinds.answers_pulse req atn to y h waits rose e) = pulse_initiator p row.time n
    true req false atn true to 0 y 0 h.linked h.offset (ap (λ (r : Row). pulses_here (r ∷ p)) (sym e) ∙ u)
balance_step s p row n stage con u was (kinds.gives_pulse req atn x h waits other e) = pulse_initiator p row.time n
    false req false atn false atn x 0 _ h.linked h.offset (ap (λ (r : Row). pulses_here (r ∷ p)) (sym e) ∙ u)
balance_step s p row n stage con u was (kinds.sends_pulse req atn x h waits byte e) = pulse_initiator p row.time n false
    req false atn true atn x 0 x h.linked h.offset (ap (λ (r : Row). pulses_here (r ∷ p)) (sym e) ∙ u)
balance_step s p row n stage con u was (kinds.releases_pulse req atn x h none some e) = pulse_initiator p row.time n
    false req false atn false atn x 0 0 h.linked h.offset (ap (λ (r : Row). pulses_here (r ∷ p)) (sym e) ∙ u)
balance_step s p row n stage con u was (kinds.ends_req_pulse io ack atn x y h e) = pulse_target p row.time n io true ack
    atn false x y y h.linked h.offset (ap (λ (r : Row). pulses_here (r ∷ p)) (sym e) ∙ u)
balance_step s p row n stage con u was (kinds.changes_pulse ack atn y h other e) = pulse_target p row.time n true false
    ack atn false 0 y _ h.linked h.offset (ap (λ (r : Row). pulses_here (r ∷ p)) (sym e) ∙ u)
balance_step s p row n stage con u was (kinds.asks_pulse_in ack atn y h byte follows room e) = pulse_target p row.time n
    true false ack atn true 0 y y h.linked h.offset (ap (λ (r : Row). pulses_here (r ∷ p)) (sym e) ∙ u)
balance_step s p row n stage con u was (kinds.asks_pulse_out ack atn x h follows room e) = pulse_target p row.time n
    false false ack atn true x 0 0 h.linked h.offset (ap (λ (r : Row). pulses_here (r ∷ p)) (sym e) ∙ u)
