-- ATN in a row of a connection, by what its ends are due to do (6.1.5.1, 6.2.1).
use Rattle.row_laws.proofs
use proofs.Names.{inl, inr, ℕ, ◌≡◌, Bool, true, false, not, ◌&&◌, ◌||◌, ◌∙◌, List, ◌∷◌, Option, Some, None, refl, sym}
use proofs.Names.{ap, subst, if◌then◌else◌, wrong, wrong', and_first, same_self, change_of, implies, LineSet}
use proofs.Names.{changes_phase, is_message_in, connection, bus, drives, last_time, Row, Change, Connection, handshakes}
use proofs.Names.{dialogue, ScenarioValue, begun, Serving, phase_of, phase_lines, phase_leaving, lines_by, Leaving}
use proofs.Names.{Phase, run_state, serving_at, fault_change, EndLines, initiator_side, target_side, connected_bus}
use proofs.Names.{Linked, ends_selected, row_of_lines, row_of_fault, change_to, offering_with, initiator_moves}
use proofs.Names.{target_moves, phase_same, no_rise, ends, MessageRow, keeps, asks, Attention, answers}
use proofs.{Common.{Impossible.{none_some}, Tests.{none_both}}, Lines.{Driven.{no_third}, InPhase.{follows_in_message}}}
use proofs.Lines.{Kept.{turn}, Rows.{LinkRow, is_unasked}, Turns.{freed_connection}}
use Rattle.row_laws.proofs.Lines.Rows as rows

-- Outside MESSAGE OUT and the phases to the initiator ATN is false.
abbrev pub IsLow : List Row → Type 0
IsLow p = begun p ≡ true → implies (bus p).atn ((bus p).io || (bus p).msg) ≡ true

abbrev pub On : List Row → Connection → Change → Type 0
On p n c = Attention (handshakes p) (dialogue p) (begun p) n c

-- The phase stays.
within : (p : List Row) (row : Row) (n : Connection) (c : Change) → IsLow p → change_of p row ≡ c
    → changes_phase c ≡ false → (is_message_in c.before ≡ true → MessageRow (handshakes p) (dialogue p) n c)
    → On p n (change_of p row)
within p row n c low e same f = record {
  into = λ ep m. subst (λ (z : Change). MessageRow (handshakes p) (dialogue p) n z) (sym e)
      (f (ap (λ (x : Change). is_message_in x.before) (sym e) ∙ m));
  turns = λ ep b. wrong' (sym (ap changes_phase e ∙ same) ∙ ep);
  low = low;
}

-- REQ is false, and ATN stays.
idle : (p : List Row) (row : Row) (n : Connection) (c : Change) → IsLow p → change_of p row ≡ c
    → MessageRow (handshakes p) (dialogue p) n c → (c.after.atn ≡ c.before.atn) × (c.before.req ≡ false)
    → On p n (change_of p row)
idle p row n c low e m w = record {
  into = λ ep z. subst (λ (x : Change). MessageRow (handshakes p) (dialogue p) n x) (sym e) m;
  turns = λ ep b. (
    ap (λ (x : Change). x.after.atn) e ∙ w.0 ∙ ap (λ (x : Change). x.before.atn) (sym e),
    ap (λ (x : Change). x.before.req) e ∙ w.1,
  );
  low = low;
}

-- ---- rows of the initiator, and of the target, in a phase

of_initiator : (p : List Row) (t : ℕ) (n : Connection) (e : EndLines) (bsy ack atn : Bool) (x : ℕ)
    → IsLow p → Linked p n e → (is_message_in (connected_bus e) ≡ true
    → MessageRow (handshakes p) (dialogue p) n (turn e (ends bsy ack atn x e.msg e.cd e.io e.req e.given)
    (initiator_side e) (initiator_side (ends bsy ack atn x e.msg e.cd e.io e.req e.given))))
    → On p n
    (change_of p (row_of_lines t n.initiator (initiator_side (ends bsy ack atn x e.msg e.cd e.io e.req e.given))))
of_initiator p t n e bsy ack atn x low h f =
    let g : EndLines = ends bsy ack atn x e.msg e.cd e.io e.req e.given in
    within p (row_of_lines t n.initiator (initiator_side g)) n
    (turn e g (initiator_side e) (initiator_side g)) low (initiator_moves p n e bsy ack atn x t h).change
    (phase_same e bsy ack atn x e.req e.given (initiator_side e) (initiator_side g)) f

of_target : (p : List Row) (t : ℕ) (n : Connection) (e : EndLines) (req : Bool) (y : ℕ) → IsLow p → Linked p n e
    → (is_message_in (connected_bus e) ≡ true
    → MessageRow (handshakes p) (dialogue p) n (turn e (ends e.bsy e.ack e.atn e.sent e.msg e.cd e.io req y)
    (target_side e) (target_side (ends e.bsy e.ack e.atn e.sent e.msg e.cd e.io req y))))
    → On p n (change_of p (row_of_lines t n.target (target_side (ends e.bsy e.ack e.atn e.sent e.msg e.cd e.io req y))))
of_target p t n e req y low h f =
    let g : EndLines = ends e.bsy e.ack e.atn e.sent e.msg e.cd e.io req y in
    within p (row_of_lines t n.target (target_side g)) n (turn e g (target_side e) (target_side g)) low
    (target_moves p n e e.msg e.cd e.io req y t h).change
    (phase_same e e.bsy e.ack e.atn e.sent req y (target_side e) (target_side g)) f

-- To the target it is not MESSAGE IN, nor is a phase of data.
to_target : {A : Type 0} (m c : Bool) → (m && c && false) ≡ true → A
to_target m c e = absurd (no_third m c e)

-- ---- a fault

struck : (p : List Row) (t d bit : ℕ) (n : Connection) (e : EndLines) → IsLow p → Linked p n e
    → On p n (change_of p (row_of_fault t d bit))
struck p t d bit n e low h =
    let b : LineSet = connected_bus e in
    let c : Change = change_to b b (drives p d) (drives p d) in
    within p (row_of_fault t d bit) n c low (fault_change p t d bit b (drives p d) h.stands.bus_is refl)
    (λ i. not (same_self e.msg i && same_self e.cd i && same_self e.io i))
    (λ m. keeps ((λ i. if e.io then (if no_rise e.req i then Some n.initiator else None)
    else (if no_rise e.ack i then Some n.target else None)) ∙ none_both e.io) refl (λ z. z))

-- ---- REQ rises

first_asked : (p : List Row) (t : ℕ) (n : Connection) (bsy atn msg cd io : Bool) (y : ℕ)
    → IsLow p → Linked p n (ends bsy false atn 0 msg cd io false y) → is_unasked p ≡ true
    → On p n (change_of p (row_of_lines t n.target (target_side (ends bsy false atn 0 msg cd io true y))))
first_asked p t n bsy atn msg cd true y low h un =
    of_target p t n (ends bsy false atn 0 msg cd true false y) true y low h (λ m. asks refl refl (inl un) refl)
first_asked p t n bsy atn msg cd false y low h un =
    of_target p t n (ends bsy false atn 0 msg cd false false y) true y low h (λ m. to_target msg cd m)

not_true : (a q : Bool) → (a || not q) ≡ true → a ≡ false → q ≡ false
not_true a true e f = wrong' (sym (λ i. f i || false) ∙ e)
not_true a false e f = refl

next_asked : (s : ScenarioValue) (p : List Row) (t : ℕ) (n : Connection) (atn msg cd io : Bool) (y : ℕ)
    → IsLow p → Linked p n (ends false false atn 0 msg cd io false y) → is_unasked p ≡ false
    → (offering_with s p n true (ends false false atn 0 msg cd io false y)).follows ≡ true
    → On p n (change_of p (row_of_lines t n.target (target_side (ends false false atn 0 msg cd io true y))))
next_asked s p t n atn msg cd true y low h un follows = of_target p t n
    (ends false false atn 0 msg cd true false y) true y low h (λ m. asks refl refl (inr (not_true (is_unasked p) atn
    (and_first _ _ (sym (follows_in_message s p n false false atn 0 msg cd false y m) ∙ follows)) un)) refl)
next_asked s p t n atn msg cd false y low h un follows =
    of_target p t n (ends false false atn 0 msg cd false false y) true y low h (λ m. to_target msg cd m)

-- ---- a phase is left

pub lines_are : (v : Serving) (io : Bool) (l : Leaving) (atn : Bool) (x : ℕ) (phase : Phase)
    → (z : ℕ) × (lines_by v io l (Some phase) ≡ target_side
    (ends false false atn x (phase_lines phase).msg (phase_lines phase).cd (phase_lines phase).io false z))
lines_are v true l atn x Phase.DataIn = ((lines_by v true l (Some Phase.DataIn)).data_bits, refl)
lines_are v true l atn x Phase.Status = ((lines_by v true l (Some Phase.Status)).data_bits, refl)
lines_are v true l atn x Phase.MessageIn = ((lines_by v true l (Some Phase.MessageIn)).data_bits, refl)
lines_are v true l atn x _ = (0, refl)
lines_are v false l atn x Phase.DataOut = (0, refl)
lines_are v false l atn x _ = (0, refl)

leaves_for : (p : List Row) (t : ℕ) (n : Connection) (atn msg cd io : Bool) (x y : ℕ) (v : Serving)
    (l : Leaving) (o : Option Phase) → IsLow p → Linked p n (ends false false atn x msg cd io false y)
    → connection (row_of_lines t n.target (lines_by v io l o) ∷ p) ≡ Some n
    → On p n (change_of p (row_of_lines t n.target (lines_by v io l o)))
leaves_for p t n atn msg cd io x y v l None low h con =
    absurd (none_some n (sym (freed_connection p t n (ends false false atn x msg cd io false y) refl h) ∙ con))
leaves_for p t n atn msg cd io x y v l (Some phase) low h con =
    let e : EndLines = ends false false atn x msg cd io false y in
    let w = lines_are v io l atn x phase in
    let f : EndLines = ends false false atn x (phase_lines phase).msg
    (phase_lines phase).cd (phase_lines phase).io false w.0 in
    subst (λ (z : LineSet). On p n (change_of p (row_of_lines t n.target z))) (sym w.1)
    (idle p (row_of_lines t n.target (target_side f)) n (turn e f (target_side e) (target_side f)) low
    (target_moves p n e (phase_lines phase).msg (phase_lines phase).cd (phase_lines phase).io false w.0 t h).change
    (keeps (none_both io) refl (λ z. wrong' z)) (refl, refl))

left : (s : ScenarioValue) (p : List Row) (t : ℕ) (n : Connection) (atn msg cd io : Bool) (x y : ℕ)
    → IsLow p → Linked p n (ends false false atn x msg cd io false y)
    → connection (row_of_lines t n.target (offering_with s p n true (ends false false atn x msg cd io false y)).to ∷ p)
    ≡ Some n
    → On p n
    (change_of p (row_of_lines t n.target (offering_with s p n true (ends false false atn x msg cd io false y)).to))
left s p t n atn msg cd io x y low h con =
    let b : LineSet = connected_bus (ends false false atn x msg cd io false y) in
    let v : Serving = serving_at s (run_state s p) n.target (phase_of b) in
    leaves_for p t n atn msg cd io x y v (phase_leaving v atn (phase_of b))
    (phase_leaving v atn (phase_of b)).to low h con

-- ---- MESSAGE OUT begins after a selection

opened : (p : List Row) (row : Row) (n : Connection) → IsLow p → Linked p n ends_selected → begun p ≡ false
    → On p n (change_of p row)
opened p row n low h b = record {
  into = λ ep m. wrong' (sym (ap is_message_in h.stands.bus_is) ∙ m);
  turns = λ ep z. wrong (sym z ∙ b);
  low = low;
}

-- ---- any row

pub attention_row : (s : ScenarioValue) (p : List Row) (row : Row) (n : Connection) → IsLow p
    → connection (row ∷ p) ≡ Some n → LinkRow s p n row → On p n (change_of p row)
attention_row s p row n low con (rows.opens h b e) = opened p row n low h b
attention_row s p row n low con (rows.strikes f bit h b got who e) =
    subst (λ (w : Row). On p n (change_of p w)) (sym e) (struck p (last_time p) row.dev bit n f low h)
attention_row s p row n low con (rows.hands atn msg cd io y h b un e) =
    subst (λ (w : Row). On p n (change_of p w)) (sym e) (of_initiator p row.time n
    (ends true false atn 0 msg cd io false y) false false atn 0 low h (λ m. keeps (none_both io) refl (λ z. wrong' z)))
attention_row s p row n low con (rows.releases atn x msg cd h b un e) =
    subst (λ (w : Row). On p n (change_of p w)) (sym e) (of_initiator p row.time n
    (ends false false atn x msg cd true false 0) false false atn 0 low h (λ m. keeps refl refl (λ z. wrong' z)))
attention_row s p row n low con (rows.answers atn to msg cd y h b un rose e) =
    subst (λ (w : Row). On p n (change_of p w)) (sym e) (of_initiator p row.time n
    (ends false false atn 0 msg cd true true y) false true to 0 low h (λ m. answers refl un.0 rose))
attention_row s p row n low con (rows.ends_ack_in atn msg cd y h b un z e) =
    subst (λ (w : Row). On p n (change_of p w)) (sym e) (of_initiator p row.time n
    (ends false true atn 0 msg cd true false y) false false atn 0 low h (λ m. keeps refl refl (λ q. wrong' q)))
attention_row s p row n low con (rows.gives atn msg cd h b z e) =
    subst (λ (w : Row). On p n (change_of p w)) (sym e) (of_initiator p row.time n
    (ends false false atn 0 msg cd false true 0) false false _ _ low h (λ m. to_target msg cd m))
attention_row s p row n low con (rows.sends atn msg cd x h b z some e) =
    subst (λ (w : Row). On p n (change_of p w)) (sym e) (of_initiator p row.time n
    (ends false false atn x msg cd false true 0) false true atn x low h (λ m. to_target msg cd m))
attention_row s p row n low con (rows.ends_ack_out atn msg cd x h b e) =
    subst (λ (w : Row). On p n (change_of p w)) (sym e) (of_initiator p row.time n
    (ends false true atn x msg cd false false 0) false false atn 0 low h (λ m. to_target msg cd m))
attention_row s p row n low con (rows.answers_pulse req atn to y h b un z rose e) = subst
    (λ (w : Row). On p n (change_of p w)) (sym e)
    (of_initiator p row.time n (ends false false atn 0 false false true req y) false true to 0 low h (λ m. wrong' m))
attention_row s p row n low con (rows.ends_ack_pulse io req atn x y h b un z e) = subst
    (λ (w : Row). On p n (change_of p w)) (sym e)
    (of_initiator p row.time n (ends false true atn x false false io req y) false false atn x low h (λ m. wrong' m))
attention_row s p row n low con (rows.drives_pulsed req atn x y h b z e) = subst
    (λ (w : Row). On p n (change_of p w)) (sym e)
    (of_initiator p row.time n (ends false false atn x false false false req 0) false false atn y low h (λ m. wrong' m))
attention_row s p row n low con (rows.sends_pulse req atn x h b z byte e) = subst
    (λ (w : Row). On p n (change_of p w)) (sym e)
    (of_initiator p row.time n (ends false false atn x false false false req 0) false true atn x low h (λ m. wrong' m))
attention_row s p row n low con (rows.offers atn x msg cd h b un e) =
    subst (λ (w : Row). On p n (change_of p w)) (sym e) (of_target p row.time n
    (ends false false atn x msg cd true false 0) false _ low h (λ m. keeps refl refl (λ z. wrong' z)))
attention_row s p row n low con (rows.asks_first bsy atn msg cd io y h b un first e) =
    subst (λ (w : Row). On p n (change_of p w)) (sym e) (first_asked p row.time n bsy atn msg cd io y low h un)
attention_row s p row n low con (rows.ends_req atn msg cd io x y h b un z e) =
    subst (λ (w : Row). On p n (change_of p w)) (sym e) (of_target p row.time n
    (ends false true atn x msg cd io true y) false _ low h (λ m. keeps (none_both io) refl (λ q. wrong' q)))
attention_row s p row n low con (rows.asks_next atn msg cd io y h b un z follows e) =
    subst (λ (w : Row). On p n (change_of p w)) (sym e) (next_asked s p row.time n atn msg cd io y low h un follows)
attention_row s p row n low con (rows.leaves atn msg cd io x y h b known un zero follows e) = subst
    (λ (w : Row). On p n (change_of p w)) (sym e)
    (left s p row.time n atn msg cd io x y low h (ap (λ (w : Row). connection (w ∷ p)) (sym e) ∙ con))
attention_row s p row n low con (rows.ends_req_pulse io ack atn x y h b un z e) = subst
    (λ (w : Row). On p n (change_of p w)) (sym e)
    (of_target p row.time n (ends false ack atn x false false io true y) false y low h (λ m. wrong' m))
attention_row s p row n low con (rows.changes_pulsed ack atn y z h b un pulsed e) = subst
    (λ (w : Row). On p n (change_of p w)) (sym e)
    (of_target p row.time n (ends false ack atn 0 false false true false y) false z low h (λ m. wrong' m))
attention_row s p row n low con (rows.asks_pulse io ack atn x y h b un z zero byte e) = subst
    (λ (w : Row). On p n (change_of p w)) (sym e)
    (of_target p row.time n (ends false ack atn x false false io false y) true y low h (λ m. wrong' m))
