-- ATN in a row of a phase to the initiator: it raises it only where a byte was struck, or a request is open (6.6.10,
-- 6.6.13, 6.6.21).
use Rattle.story_laws.proofs
use proofs.Names.{ℕ, ◌≡◌, Bool, true, false, ◌||◌, ◌∙◌, List, ◌∷◌, Option, Some, None, refl, sym, ap, subst, wrong'}
use proofs.Names.{change_of, LineSet, connection, drives, last_time, Row, Change, Connection, first_of, handshakes}
use proofs.Names.{is_struck, dialogue, is_of_other, End, ScenarioValue, Serving, phase_lines, phase_of, phase_leaving}
use proofs.Names.{lines_by, Leaving, Phase, run_state, serving_at, fault_change, EndLines, Linked, connected_bus}
use proofs.Names.{initiator_side, target_side, change_to, row_of_fault, row_of_lines, answering_with, offering_with}
use proofs.Names.{initiator_moves, target_moves, ends, none_some, lines_are, turn, LinkRow, freed_connection}
use Rattle.row_laws.proofs.Lines.Rows as rows

-- ATN was true before the row; the byte of the newest request, or of the oldest that waits, was struck; or a request of
-- the target is open.
pub data Raised (p : List Row) (c : Change) : Type 0 where
  was : c.before.atn ≡ true → Raised p c
  newest : (handshakes p).struck ≡ true → Raised p c
  oldest : is_struck (first_of (handshakes p).waiting) ≡ true → Raised p c
  requested : is_of_other (dialogue p).heard.now.offer End.Initiator ≡ true → Raised p c

abbrev pub On : List Row → Change → Type 0
On p c = c.before.io ≡ true → c.after.atn ≡ true → Raised p c

by_change : (p : List Row) (row : Row) (c : Change) → change_of p row ≡ c → On p c → On p (change_of p row)
by_change p row c e h = subst (λ (x : Change). On p x) (sym e) h

keeps : (p : List Row) (row : Row) (c : Change) → change_of p row ≡ c → c.after.atn ≡ c.before.atn
    → On p (change_of p row)
keeps p row c e same = by_change p row c e (λ io on. was (sym same ∙ on))

-- ---- rows of the initiator, and of the target, in a phase

of_initiator : (p : List Row) (t : ℕ) (n : Connection) (e : EndLines) (bsy ack atn : Bool) (x : ℕ) → Linked p n e
    → On p (turn e (ends bsy ack atn x e.msg e.cd e.io e.req e.given) (initiator_side e)
    (initiator_side (ends bsy ack atn x e.msg e.cd e.io e.req e.given)))
    → On p
    (change_of p (row_of_lines t n.initiator (initiator_side (ends bsy ack atn x e.msg e.cd e.io e.req e.given))))
of_initiator p t n e bsy ack atn x h f =
    let g : EndLines = ends bsy ack atn x e.msg e.cd e.io e.req e.given in
    by_change p (row_of_lines t n.initiator (initiator_side g)) (turn e g (initiator_side e) (initiator_side g))
    (initiator_moves p n e bsy ack atn x t h).change f

of_target : (p : List Row) (t : ℕ) (n : Connection) (e : EndLines) (req : Bool) (y : ℕ) → Linked p n e
    → On p (change_of p (row_of_lines t n.target (target_side (ends e.bsy e.ack e.atn e.sent e.msg e.cd e.io req y))))
of_target p t n e req y h =
    let g : EndLines = ends e.bsy e.ack e.atn e.sent e.msg e.cd e.io req y in
    keeps p (row_of_lines t n.target (target_side g)) (turn e g (target_side e) (target_side g))
    (target_moves p n e e.msg e.cd e.io req y t h).change refl

answered : (p : List Row) (c : Change) (a b d : Bool)
    → (a ≡ true → Raised p c) → (b ≡ true → Raised p c) → (d ≡ true → Raised p c) → ((a || b) || d) ≡ true → Raised p c
answered p c true b d f g h e = f refl
answered p c false true d f g h e = g refl
answered p c false false d f g h e = h e

either : (p : List Row) (c : Change) (a d : Bool) → (a ≡ true → Raised p c) → (d ≡ true → Raised p c) → (a || d) ≡ true
    → Raised p c
either p c true d f h e = f refl
either p c false d f h e = h e

-- ---- a phase is left

leaves_for : (p : List Row) (t : ℕ) (n : Connection) (atn msg cd io : Bool) (x y : ℕ) (v : Serving)
    (l : Leaving) (o : Option Phase) → Linked p n (ends false false atn x msg cd io false y)
    → connection (row_of_lines t n.target (lines_by v io l o) ∷ p) ≡ Some n
    → On p (change_of p (row_of_lines t n.target (lines_by v io l o)))
leaves_for p t n atn msg cd io x y v l None h con =
    absurd (none_some n (sym (freed_connection p t n (ends false false atn x msg cd io false y) refl h) ∙ con))
leaves_for p t n atn msg cd io x y v l (Some phase) h con =
    let e : EndLines = ends false false atn x msg cd io false y in
    let w = lines_are v io l atn x phase in
    let f : EndLines = ends false false atn x (phase_lines phase).msg
    (phase_lines phase).cd (phase_lines phase).io false w.0 in
    subst (λ (z : LineSet). On p (change_of p (row_of_lines t n.target z))) (sym w.1)
    (keeps p (row_of_lines t n.target (target_side f)) (turn e f (target_side e) (target_side f))
    (target_moves p n e (phase_lines phase).msg (phase_lines phase).cd (phase_lines phase).io false w.0 t h).change
    refl)

left : (s : ScenarioValue) (p : List Row) (t : ℕ) (n : Connection) (atn msg cd io : Bool) (x y : ℕ)
    → Linked p n (ends false false atn x msg cd io false y)
    → connection (row_of_lines t n.target (offering_with s p n true (ends false false atn x msg cd io false y)).to ∷ p)
    ≡ Some n
    → On p
    (change_of p (row_of_lines t n.target (offering_with s p n true (ends false false atn x msg cd io false y)).to))
left s p t n atn msg cd io x y h con =
    let b : LineSet = connected_bus (ends false false atn x msg cd io false y) in
    let v : Serving = serving_at s (run_state s p) n.target (phase_of b) in
    leaves_for p t n atn msg cd io x y v (phase_leaving v atn (phase_of b)) (phase_leaving v atn (phase_of b)).to h con

-- ---- any row

pub raised_row : (s : ScenarioValue) (p : List Row) (row : Row) (n : Connection) → connection (row ∷ p) ≡ Some n
    → LinkRow s p n row → On p (change_of p row)
raised_row s p row n con (rows.opens h b e) = λ io on. wrong' (sym (ap (λ (l : LineSet). l.io) h.stands.bus_is) ∙ io)
raised_row s p row n con (rows.strikes f bit h b got who e) =
    subst (λ (w : Row). On p (change_of p w)) (sym e) (keeps p (row_of_fault (last_time p) row.dev bit)
    (change_to (connected_bus f) (connected_bus f) (drives p row.dev) (drives p row.dev))
    (fault_change p (last_time p) row.dev bit (connected_bus f) (drives p row.dev) h.stands.bus_is refl) refl)
raised_row s p row n con (rows.hands atn msg cd io y h b un e) = subst (λ (w : Row). On p (change_of p w)) (sym e)
    (of_initiator p row.time n (ends true false atn 0 msg cd io false y) false false atn 0 h (λ io on. was on))
raised_row s p row n con (rows.releases atn x msg cd h b un e) = subst (λ (w : Row). On p (change_of p w)) (sym e)
    (of_initiator p row.time n (ends false false atn x msg cd true false 0) false false atn 0 h (λ io on. was on))
raised_row s p row n con (rows.answers atn to msg cd y h b un rose e) =
    subst (λ (w : Row). On p (change_of p w)) (sym e) (of_initiator p row.time n
    (ends false false atn 0 msg cd true true y) false true to 0 h (λ io on. answered p _ (handshakes p).struck
    (answering_with s p n (ends false false atn 0 msg cd true true y)).speaks atn newest requested was (sym rose ∙ on)))
raised_row s p row n con (rows.ends_ack_in atn msg cd y h b un z e) = subst (λ (w : Row). On p (change_of p w)) (sym e)
    (of_initiator p row.time n (ends false true atn 0 msg cd true false y) false false atn 0 h (λ io on. was on))
raised_row s p row n con (rows.gives atn msg cd h b z e) = subst (λ (w : Row). On p (change_of p w)) (sym e)
    (of_initiator p row.time n (ends false false atn 0 msg cd false true 0) false false _ _ h (λ io on. wrong' io))
raised_row s p row n con (rows.sends atn msg cd x h b z some e) = subst (λ (w : Row). On p (change_of p w)) (sym e)
    (of_initiator p row.time n (ends false false atn x msg cd false true 0) false true atn x h (λ io on. was on))
raised_row s p row n con (rows.ends_ack_out atn msg cd x h b e) = subst (λ (w : Row). On p (change_of p w)) (sym e)
    (of_initiator p row.time n (ends false true atn x msg cd false false 0) false false atn 0 h (λ io on. was on))
raised_row s p row n con (rows.answers_pulse req atn to y h b un z rose e) = subst (λ (w : Row). On p (change_of p w))
    (sym e) (of_initiator p row.time n (ends false false atn 0 false false true req y) false true to 0 h
    (λ io on. either p _ (is_struck (first_of (handshakes p).waiting)) atn oldest was (sym rose ∙ on)))
raised_row s p row n con (rows.ends_ack_pulse io req atn x y h b un z e) = subst
    (λ (w : Row). On p (change_of p w)) (sym e)
    (of_initiator p row.time n (ends false true atn x false false io req y) false false atn x h (λ i on. was on))
raised_row s p row n con (rows.drives_pulsed req atn x y h b z e) = subst (λ (w : Row). On p (change_of p w)) (sym e)
    (of_initiator p row.time n (ends false false atn x false false false req 0) false false atn y h (λ io on. was on))
raised_row s p row n con (rows.sends_pulse req atn x h b z byte e) = subst (λ (w : Row). On p (change_of p w)) (sym e)
    (of_initiator p row.time n (ends false false atn x false false false req 0) false true atn x h (λ io on. was on))
raised_row s p row n con (rows.offers atn x msg cd h b un e) = subst (λ (w : Row). On p (change_of p w)) (sym e)
    (of_target p row.time n (ends false false atn x msg cd true false 0) false _ h)
raised_row s p row n con (rows.asks_first bsy atn msg cd io y h b un first e) = subst (λ (w : Row). On p
    (change_of p w)) (sym e) (of_target p row.time n (ends bsy false atn 0 msg cd io false y) true y h)
raised_row s p row n con (rows.ends_req atn msg cd io x y h b un z e) = subst (λ (w : Row). On p (change_of p w))
    (sym e) (of_target p row.time n (ends false true atn x msg cd io true y) false _ h)
raised_row s p row n con (rows.asks_next atn msg cd io y h b un z follows e) = subst (λ (w : Row). On p (change_of p w))
    (sym e) (of_target p row.time n (ends false false atn 0 msg cd io false y) true y h)
raised_row s p row n con (rows.leaves atn msg cd io x y h b known un zero follows e) = subst
    (λ (w : Row). On p (change_of p w)) (sym e)
    (left s p row.time n atn msg cd io x y h (ap (λ (w : Row). connection (w ∷ p)) (sym e) ∙ con))
raised_row s p row n con (rows.ends_req_pulse io ack atn x y h b un z e) = subst (λ (w : Row). On p (change_of p w))
    (sym e) (of_target p row.time n (ends false ack atn x false false io true y) false y h)
raised_row s p row n con (rows.changes_pulsed ack atn y z h b un pulsed e) = subst (λ (w : Row). On p (change_of p w))
    (sym e) (of_target p row.time n (ends false ack atn 0 false false true false y) false z h)
raised_row s p row n con (rows.asks_pulse io ack atn x y h b un z zero byte e) = subst (λ (w : Row). On p
    (change_of p w)) (sym e) (of_target p row.time n (ends false ack atn x false false io false y) true y h)
