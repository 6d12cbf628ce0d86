-- In STATUS the target drives the status of the reply until REQ rises, and this byte crosses (6.1.5.1, 6.4).
use Rattle.story_laws.proofs
use proofs.Names.{ℕ, ◌≡◌, Bool, true, false, not, ◌&&◌, ◌==◌, ◌%◌, ◌∙◌, List, ◌∷◌, Option, Some, None, refl, sym, ap}
use proofs.Names.{subst, arith, nat_tests, count_ones, wrong, wrong', not_first, ProcId, rises, LineSet, none, bus}
use proofs.Names.{last_time, Row, Connection, Handshakes, handshakes, newest_struck_if, ScenarioValue, reply_in, Reply}
use proofs.Names.{is_status_phase, process, byte_bits, begun, Serving, phase_of, phase_leaving, status_byte, lines_by}
use proofs.Names.{Leaving, Phase, array_of, run_state, serving_at, task_of, drives_own, EndLines, target_side}
use proofs.Names.{connected_bus, Linked, row_of_lines, row_of_fault, offering_with, same_phases, initiator_moves}
use proofs.Names.{target_moves, initiator_in_phase, target_in_phase, no_rise, target_row, initiator_row, leaves_lines}
use proofs.Names.{linked_fault, may_leave, ends, none_some, by_bool, same_ends, LinkRow, is_unasked, freed_connection}
use Rattle.row_laws.proofs.Lines.Kept.{requests_stay}
use Rattle.row_laws.proofs.Lines.Rows as rows

-- ---- what is driven

abbrev pub IsGiven : ScenarioValue → List Row → ProcId → Reply → Type 0
IsGiven s p id reply =
    ((run_state s p).served ≡ Some (process id)) × (reply_in (array_of s (run_state s p)).replies id ≡ Some reply)

-- Before REQ rises in STATUS, where the target drives a byte.
abbrev pub OffersStatus : ScenarioValue → List Row → EndLines → Type 0
OffersStatus s p e = is_status_phase (connected_bus e) ≡ true → e.req ≡ false → is_unasked p ≡ true
    → (e.given == 0) ≡ false → (id : ProcId) (reply : Reply) → IsGiven s p id reply → e.given ≡ byte_bits reply.status

abbrev pub IsStatusOffered : ScenarioValue → List Row → Connection → Type 0
IsStatusOffered s p n = (e : EndLines) → Linked p n e → begun p ≡ true → OffersStatus s p e

-- The lines of the ends are known by what they drive.
pub offered_by : (s : ScenarioValue) (p : List Row) (n : Connection) (e : EndLines) → Linked p n e → OffersStatus s p e
    → IsStatusOffered s p n
offered_by s p n e h d f k b = subst (λ (x : EndLines). OffersStatus s p x) (same_ends p n e f h k) d

-- ---- what is known of a row

pub record OfferRow (s : ScenarioValue) (p : List Row) (row : Row) : Type 0 where
  -- in STATUS its process has had its reply before the row; and it is the byte that is due
  pub kept : is_status_phase (bus p) ≡ true → begun p ≡ true → (id : ProcId) (reply : Reply)
      → IsGiven s (row ∷ p) id reply → IsGiven s p id reply
  pub due : (id : ProcId) (reply : Reply) → IsGiven s p id reply
      → status_byte (task_of s (run_state s p)) ≡ reply.status
  -- as STATUS follows a phase to the initiator
  pub turned : (bus p).io ≡ true → is_status_phase (bus p) ≡ false → is_status_phase (bus (row ∷ p)) ≡ true
      → (id : ProcId) (reply : Reply) → IsGiven s (row ∷ p) id reply
      → status_byte (task_of s (run_state s p)) ≡ reply.status

offered_status :
    (s : ScenarioValue) (p : List Row) (n : Connection) (bsy ack atn : Bool) (x : ℕ) (msg cd req : Bool) (y : ℕ)
    → (not msg && cd && true) ≡ true
    → (offering_with s p n true (ends bsy ack atn x msg cd true req y)).byte ≡ status_byte (task_of s (run_state s p))
offered_status s p n bsy ack atn x false true req y a = refl
offered_status s p n bsy ack atn x false false req y a = wrong' a
offered_status s p n bsy ack atn x true cd req y a = wrong' a

follows_status :
    (s : ScenarioValue) (p : List Row) (n : Connection) (bsy ack atn : Bool) (x : ℕ) (msg cd req : Bool) (y : ℕ)
    → (not msg && cd && true) ≡ true
    → (offering_with s p n true (ends bsy ack atn x msg cd true req y)).follows ≡ is_unasked p
follows_status s p n bsy ack atn x false true req y a = refl
follows_status s p n bsy ack atn x false false req y a = wrong' a
follows_status s p n bsy ack atn x true cd req y a = wrong' a

no_out : (m c : Bool) → (not m && c && false) ≡ true → ⊥
no_out true c e = wrong' e
no_out false true e = wrong' e
no_out false false e = wrong' e

-- ---- rows of the initiator, and fault rows

of_initiator : (s : ScenarioValue) (p : List Row) (t : ℕ) (n : Connection) (e : EndLines) (bsy ack atn : Bool) (x : ℕ)
    → Linked p n e → begun p ≡ true → OffersStatus s p e
    → OfferRow s p (initiator_row t n (ends bsy ack atn x e.msg e.cd e.io e.req e.given))
    → IsStatusOffered s (initiator_row t n (ends bsy ack atn x e.msg e.cd e.io e.req e.given) ∷ p) n
of_initiator s p t n e bsy ack atn x h b v w =
    let f : EndLines = ends bsy ack atn x e.msg e.cd e.io e.req e.given in
    let q : List Row = initiator_row t n f ∷ p in
    let r = initiator_in_phase p n e bsy ack atn x t h in
    let same : is_unasked q ≡ is_unasked p = ap (λ (z : Handshakes). z.requests == 0) r.handshakes_are
    ∙ ap (λ (z : ℕ). z == 0) (requests_stay p (rises e.ack ack) (rises e.req e.req) t (no_rise e.req)) in
    offered_by s q n f (initiator_moves p n e bsy ack atn x t h).linked (λ a z u some id reply given. v a z
    (sym same ∙ u) some id reply (w.kept (ap is_status_phase h.stands.bus_is ∙ a) b id reply given))

of_fault : (s : ScenarioValue) (p : List Row) (t d bit : ℕ) (n : Connection) (e : EndLines)
    → Linked p n e → begun p ≡ true → OffersStatus s p e → OfferRow s p (row_of_fault t d bit)
    → IsStatusOffered s (row_of_fault t d bit ∷ p) n
of_fault s p t d bit n e h b v w =
    let q : List Row = row_of_fault t d bit ∷ p in
    let same : is_unasked q ≡ is_unasked p = ap (λ (z : ℕ). z == 0) (struck (bus p).io (handshakes p)) in
    offered_by s q n e (linked_fault p n e t d bit h) (λ a z u some id reply given. v a z (sym same ∙ u) some id reply
    (w.kept (ap is_status_phase h.stands.bus_is ∙ a) b id reply given))
  where
    struck : (q : Bool) (x : Handshakes) → (newest_struck_if q x).requests ≡ x.requests
    struck true x = refl
    struck false x = refl

-- ---- rows of the target

offers : (s : ScenarioValue) (p : List Row) (t : ℕ) (n : Connection) (atn : Bool) (x : ℕ) (msg cd : Bool)
    → Linked p n (ends false false atn x msg cd true false 0) → begun p ≡ true
    → OfferRow s p (target_row t n (ends false false atn x msg cd true false
    (byte_bits (offering_with s p n true (ends false false atn x msg cd true false 0)).byte)))
    → IsStatusOffered s (target_row t n (ends false false atn x msg cd true false
    (byte_bits (offering_with s p n true (ends false false atn x msg cd true false 0)).byte)) ∷ p) n
offers s p t n atn x msg cd h b w =
    let e : EndLines = ends false false atn x msg cd true false 0 in
    let byte : ℕ = (offering_with s p n true e).byte in
    let f : EndLines = ends false false atn x msg cd true false (byte_bits byte) in
    offered_by s (target_row t n f ∷ p) n f (target_moves p n e msg cd true false (byte_bits byte) t h).linked
    (λ a z u some id reply given. ap byte_bits (offered_status s p n false false atn x msg cd false 0 a
    ∙ w.due id reply (w.kept (ap is_status_phase h.stands.bus_is ∙ a) b id reply given)))

-- REQ is true after it.
asks : (s : ScenarioValue) (p : List Row) (t : ℕ) (n : Connection) (e : EndLines) (y : ℕ) → Linked p n e
    → IsStatusOffered s (target_row t n (ends e.bsy e.ack e.atn e.sent e.msg e.cd e.io true y) ∷ p) n
asks s p t n e y h = offered_by s _ n (ends e.bsy e.ack e.atn e.sent e.msg e.cd e.io true y)
    (target_moves p n e e.msg e.cd e.io true y t h).linked (λ a z u some id reply given. wrong z)

-- REQ has risen before.
ended : (s : ScenarioValue) (p : List Row) (t : ℕ) (n : Connection) (e : EndLines) (y : ℕ)
    → Linked p n e → is_unasked p ≡ false
    → IsStatusOffered s (target_row t n (ends e.bsy e.ack e.atn e.sent e.msg e.cd e.io false y) ∷ p) n
ended s p t n e y h un =
    let f : EndLines = ends e.bsy e.ack e.atn e.sent e.msg e.cd e.io false y in
    let q : List Row = target_row t n f ∷ p in
    let r = target_in_phase p n e false y t h in
    let same : is_unasked q ≡ is_unasked p = ap (λ (z : Handshakes). z.requests == 0) r.handshakes_are
    ∙ ap (λ (z : ℕ). z == 0) (requests_stay p (rises e.ack e.ack) (rises e.req false) t (falls_is e.req)) in
    offered_by s q n f (target_moves p n e e.msg e.cd e.io false y t h).linked
    (λ a z u some id reply given. wrong (sym u ∙ same ∙ un))
  where
    falls_is : (q : Bool) → rises q false ≡ false
    falls_is true = refl
    falls_is false = refl

-- MESSAGE OUT begins.
opens : (s : ScenarioValue) (p : List Row) (t : ℕ) (n : Connection) (ack atn : Bool) (x : ℕ) → Linked
    (target_row t n (ends false ack atn x true true false false 0) ∷ p) n (ends false ack atn x true true false false 0)
    → IsStatusOffered s (target_row t n (ends false ack atn x true true false false 0) ∷ p) n
opens s p t n ack atn x h =
    offered_by s _ n (ends false ack atn x true true false false 0) h (λ a z u some id reply given. wrong' a)

-- ---- a phase is left

pub zero_is : (y : ℕ) → y ≡ 0 → (y == 0) ≡ false → ⊥
zero_is y e f = wrong (sym (ap (λ (x : ℕ). x == 0) e) ∙ f)

no_status : (msg cd : Bool) → same_phases msg cd true false true true ≡ false → (not msg && cd && true) ≡ false
no_status true cd e = refl
no_status false true e = wrong e
no_status false false e = refl

status_lines : (l : LineSet) (f : EndLines) → l ≡ target_side f → is_status_phase (connected_bus f) ≡ true
    → (not l.msg && l.cd && l.io) ≡ true
status_lines l f e a = (λ i. not (e i).msg && (e i).cd && (e i).io) ∙ a

pub side_is : (p : List Row) (t : ℕ) (n : Connection) (l : LineSet) (f : EndLines)
    → Linked (row_of_lines t n.target l ∷ p) n f → l ≡ target_side f
side_is p t n l f k = sym (drives_own p t n.target l) ∙ k.target

-- After a phase to the initiator the target drives the first byte with the next one.
left_in : (s : ScenarioValue) (p : List Row) (t : ℕ) (n : Connection) (atn msg cd : Bool) (x y : ℕ) (v : Serving)
    (l : Leaving) (o : Option Phase) (f : EndLines) → Linked p n (ends false false atn x msg cd true false y)
    → status_byte v.task ≡ status_byte (task_of s (run_state s p))
    → may_leave msg cd true atn o ≡ true → OfferRow s p (row_of_lines t n.target (lines_by v true l o))
    → Linked (row_of_lines t n.target (lines_by v true l o) ∷ p) n f
    → OffersStatus s (row_of_lines t n.target (lines_by v true l o) ∷ p) f
left_in s p t n atn msg cd x y v l None f h own m w k a z u some id reply given = none_some n
    (sym (freed_connection p t n (ends false false atn x msg cd true false y) refl h) ∙ k.stands.connection_is)
left_in s p t n atn msg cd x y v l (Some Phase.DataOut) f h own m w k a z u some id reply given = wrong' (status_lines
    (lines_by v true l (Some Phase.DataOut)) f (side_is p t n (lines_by v true l (Some Phase.DataOut)) f k) a)
left_in s p t n atn msg cd x y v l (Some Phase.DataIn) f h own m w k a z u some id reply given = wrong' (status_lines
    (lines_by v true l (Some Phase.DataIn)) f (side_is p t n (lines_by v true l (Some Phase.DataIn)) f k) a)
left_in s p t n atn msg cd x y v l (Some Phase.Command) f h own m w k a z u some id reply given = wrong' (status_lines
    (lines_by v true l (Some Phase.Command)) f (side_is p t n (lines_by v true l (Some Phase.Command)) f k) a)
left_in s p t n atn msg cd x y v l (Some Phase.MessageOut) f h own m w k a z u some id reply given =
    wrong' (status_lines (lines_by v true l (Some Phase.MessageOut)) f
    (side_is p t n (lines_by v true l (Some Phase.MessageOut)) f k) a)
left_in s p t n atn msg cd x y v l (Some Phase.MessageIn) f h own m w k a z u some id reply given = wrong' (status_lines
    (lines_by v true l (Some Phase.MessageIn)) f (side_is p t n (lines_by v true l (Some Phase.MessageIn)) f k) a)
left_in s p t n atn msg cd x y v l (Some Phase.Status) f h own m w k a z u some id reply given =
    sym (ap (λ (b : LineSet). b.data_bits) (side_is p t n (lines_by v true l (Some Phase.Status)) f k))
    ∙ ap byte_bits (own ∙ w.turned (ap (λ (b : LineSet). b.io) h.stands.bus_is)
    (ap is_status_phase h.stands.bus_is ∙ no_status msg cd (not_first (same_phases msg cd true false true true) _ m))
    (ap is_status_phase k.stands.bus_is ∙ a) id reply given)

-- After one to the target it drives none.
left_out : (s : ScenarioValue) (p : List Row) (t : ℕ) (n : Connection)
    (e : EndLines) (v : Serving) (l : Leaving) (o : Option Phase) (f : EndLines)
    → Linked p n e → e.bsy ≡ false → Linked (row_of_lines t n.target (lines_by v false l o) ∷ p) n f
    → OffersStatus s (row_of_lines t n.target (lines_by v false l o) ∷ p) f
left_out s p t n e v l None f h quiet k a z u some id reply given =
    none_some n (sym (freed_connection p t n e quiet h) ∙ k.stands.connection_is)
left_out s p t n e v l (Some Phase.DataOut) f h quiet k a z u some id reply given = wrong' (status_lines
    (lines_by v false l (Some Phase.DataOut)) f (side_is p t n (lines_by v false l (Some Phase.DataOut)) f k) a)
left_out s p t n e v l (Some Phase.DataIn) f h quiet k a z u some id reply given = wrong' (status_lines
    (lines_by v false l (Some Phase.DataIn)) f (side_is p t n (lines_by v false l (Some Phase.DataIn)) f k) a)
left_out s p t n e v l (Some Phase.Command) f h quiet k a z u some id reply given = wrong' (status_lines
    (lines_by v false l (Some Phase.Command)) f (side_is p t n (lines_by v false l (Some Phase.Command)) f k) a)
left_out s p t n e v l (Some Phase.MessageOut) f h quiet k a z u some id reply given = wrong' (status_lines
    (lines_by v false l (Some Phase.MessageOut)) f (side_is p t n (lines_by v false l (Some Phase.MessageOut)) f k) a)
left_out s p t n e v l (Some Phase.MessageIn) f h quiet k a z u some id reply given = wrong' (status_lines
    (lines_by v false l (Some Phase.MessageIn)) f (side_is p t n (lines_by v false l (Some Phase.MessageIn)) f k) a)
left_out s p t n e v l (Some Phase.Status) f h quiet k a z u some id reply given = absurd (zero_is f.given
    (sym (ap (λ (b : LineSet). b.data_bits) (side_is p t n (lines_by v false l (Some Phase.Status)) f k))) some)

left : (s : ScenarioValue) (p : List Row) (t : ℕ) (n : Connection) (atn msg cd io : Bool) (x y : ℕ)
    → Linked p n (ends false false atn x msg cd io false y) → (msg && not cd) ≡ false
    → OfferRow s p (row_of_lines t n.target (offering_with s p n true (ends false false atn x msg cd io false y)).to)
    → IsStatusOffered s
    (row_of_lines t n.target (offering_with s p n true (ends false false atn x msg cd io false y)).to ∷ p) n
left s p t n atn msg cd true x y h known w f k b =
    let e : EndLines = ends false false atn x msg cd true false y in
    let v : Serving = serving_at s (run_state s p) n.target (phase_of (connected_bus e)) in
    let l : Leaving = phase_leaving v atn (phase_of (connected_bus e)) in
    left_in s p t n atn msg cd x y v l l.to f h refl (leaves_lines v msg cd true atn x y known) w k
left s p t n atn msg cd false x y h known w f k b =
    let e : EndLines = ends false false atn x msg cd false false y in
    let v : Serving = serving_at s (run_state s p) n.target (phase_of (connected_bus e)) in
    let l : Leaving = phase_leaving v atn (phase_of (connected_bus e)) in
    left_out s p t n e v l l.to f h refl k

-- ---- any row of a connection

pub offered_next : (s : ScenarioValue) (p : List Row) (row : Row) (n : Connection) → IsStatusOffered s p n
    → LinkRow s p n row → OfferRow s p row → IsStatusOffered s (row ∷ p) n
offered_next s p row n v (rows.opens h b e) = subst (λ (r : Row). OfferRow s p r → IsStatusOffered s (r ∷ p) n) (sym e)
    (λ w. opens s p row.time n false true 0 (target_moves p n _ true true false false 0 row.time h).linked)
offered_next s p row n v (rows.strikes f bit h b got who e) = subst (λ (r : Row). OfferRow s p r
    → IsStatusOffered s (r ∷ p) n) (sym e) (of_fault s p (last_time p) row.dev bit n f h b (v f h b))
offered_next s p row n v (rows.hands atn msg cd io y h b un e) = subst
    (λ (r : Row). OfferRow s p r → IsStatusOffered s (r ∷ p) n) (sym e)
    (of_initiator s p row.time n (ends true false atn 0 msg cd io false y) false false atn 0 h b (v _ h b))
offered_next s p row n v (rows.releases atn x msg cd h b un e) = subst
    (λ (r : Row). OfferRow s p r → IsStatusOffered s (r ∷ p) n) (sym e)
    (of_initiator s p row.time n (ends false false atn x msg cd true false 0) false false atn 0 h b (v _ h b))
offered_next s p row n v (rows.answers atn to msg cd y h b un rose e) = subst
    (λ (r : Row). OfferRow s p r → IsStatusOffered s (r ∷ p) n) (sym e)
    (of_initiator s p row.time n (ends false false atn 0 msg cd true true y) false true to 0 h b (v _ h b))
offered_next s p row n v (rows.ends_ack_in atn msg cd y h b un z e) = subst
    (λ (r : Row). OfferRow s p r → IsStatusOffered s (r ∷ p) n) (sym e)
    (of_initiator s p row.time n (ends false true atn 0 msg cd true false y) false false atn 0 h b (v _ h b))
offered_next s p row n v (rows.gives atn msg cd h b z e) = subst
    (λ (r : Row). OfferRow s p r → IsStatusOffered s (r ∷ p) n) (sym e)
    (of_initiator s p row.time n (ends false false atn 0 msg cd false true 0) false false _ _ h b (v _ h b))
offered_next s p row n v (rows.sends atn msg cd x h b z some e) = subst
    (λ (r : Row). OfferRow s p r → IsStatusOffered s (r ∷ p) n) (sym e)
    (of_initiator s p row.time n (ends false false atn x msg cd false true 0) false true atn x h b (v _ h b))
offered_next s p row n v (rows.ends_ack_out atn msg cd x h b e) = subst
    (λ (r : Row). OfferRow s p r → IsStatusOffered s (r ∷ p) n) (sym e)
    (of_initiator s p row.time n (ends false true atn x msg cd false false 0) false false atn 0 h b (v _ h b))
offered_next s p row n v (rows.answers_pulse req atn to y h b un z rose e) = subst
    (λ (r : Row). OfferRow s p r → IsStatusOffered s (r ∷ p) n) (sym e)
    (of_initiator s p row.time n (ends false false atn 0 false false true req y) false true to 0 h b (v _ h b))
offered_next s p row n v (rows.ends_ack_pulse io req atn x y h b un z e) = subst
    (λ (r : Row). OfferRow s p r → IsStatusOffered s (r ∷ p) n) (sym e)
    (of_initiator s p row.time n (ends false true atn x false false io req y) false false atn x h b (v _ h b))
offered_next s p row n v (rows.drives_pulsed req atn x y h b z e) = subst
    (λ (r : Row). OfferRow s p r → IsStatusOffered s (r ∷ p) n) (sym e)
    (of_initiator s p row.time n (ends false false atn x false false false req 0) false false atn y h b (v _ h b))
offered_next s p row n v (rows.sends_pulse req atn x h b z byte e) = subst
    (λ (r : Row). OfferRow s p r → IsStatusOffered s (r ∷ p) n) (sym e)
    (of_initiator s p row.time n (ends false false atn x false false false req 0) false true atn x h b (v _ h b))
offered_next s p row n v (rows.offers atn x msg cd h b un e) =
    subst (λ (r : Row). OfferRow s p r → IsStatusOffered s (r ∷ p) n) (sym e) (offers s p row.time n atn x msg cd h b)
offered_next s p row n v (rows.asks_first bsy atn msg cd io y h b un first e) = subst
    (λ (r : Row). OfferRow s p r → IsStatusOffered s (r ∷ p) n) (sym e)
    (λ w. asks s p row.time n (ends bsy false atn 0 msg cd io false y) y h)
offered_next s p row n v (rows.ends_req atn msg cd io x y h b un z e) = subst (λ (r : Row). OfferRow s p r
    → IsStatusOffered s (r ∷ p) n) (sym e) (λ w. ended s p row.time n (ends false true atn x msg cd io true y) _ h un)
offered_next s p row n v (rows.asks_next atn msg cd io y h b un z follows e) = subst (λ (r : Row). OfferRow s p r
    → IsStatusOffered s (r ∷ p) n) (sym e) (λ w. asks s p row.time n (ends false false atn 0 msg cd io false y) y h)
offered_next s p row n v (rows.leaves atn msg cd io x y h b known un zero follows e) = subst
    (λ (r : Row). OfferRow s p r → IsStatusOffered s (r ∷ p) n) (sym e) (left s p row.time n atn msg cd io x y h known)
offered_next s p row n v (rows.ends_req_pulse io ack atn x y h b un z e) = subst
    (λ (r : Row). OfferRow s p r → IsStatusOffered s (r ∷ p) n) (sym e)
    (λ w. ended s p row.time n (ends false ack atn x false false io true y) y h un)
offered_next s p row n v (rows.changes_pulsed ack atn y z h b un pulsed e) = subst
    (λ (r : Row). OfferRow s p r → IsStatusOffered s (r ∷ p) n) (sym e)
    (λ w. ended s p row.time n (ends false ack atn 0 false false true false y) z h un)
offered_next s p row n v (rows.asks_pulse io ack atn x y h b un z zero byte e) = subst
    (λ (r : Row). OfferRow s p r → IsStatusOffered s (r ∷ p) n) (sym e)
    (λ w. asks s p row.time n (ends false ack atn x false false io false y) y h)

-- ---- the byte that crosses

-- What is known of a row of STATUS with which REQ rises.
pub record Crossing (s : ScenarioValue) (p : List Row) (row : Row) (n : Connection) (id : ProcId) (reply : Reply) : Type
    0 where
  pub status : is_status_phase (bus p) ≡ true
  pub rose : rises (bus p).req (bus (row ∷ p)).req ≡ true
  pub odd : (count_ones (bus (row ∷ p)).data_bits % 2 == 1) ≡ true
  pub given : IsGiven s p id reply

-- REQ stays, or falls.
pub unrisen : {A : Type 0} (p q : List Row) (n : Connection) (e f : EndLines) → Linked p n e → Linked q n f
    → rises (bus p).req (bus q).req ≡ true → rises e.req f.req ≡ false → A
unrisen p q n e f h k rose none = wrong (sym rose ∙ (λ i. rises (h.stands.bus_is i).req (k.stands.bus_is i).req) ∙ none)

pub falls_is : (q : Bool) → rises q false ≡ false
falls_is true = refl
falls_is false = refl

-- In a data phase.
in_data : {A : Type 0} (p : List Row) (n : Connection) (bsy ack atn : Bool) (x : ℕ) (io req : Bool) (y : ℕ)
    → Linked p n (ends bsy ack atn x false false io req y) → is_status_phase (bus p) ≡ true → A
in_data p n bsy ack atn x io req y h status = wrong' (ap is_status_phase (sym h.stands.bus_is) ∙ status)

initiator_crosses : {A : Type 0} (s : ScenarioValue) (p : List Row) (t : ℕ) (n : Connection)
    (e : EndLines) (bsy ack atn : Bool) (x : ℕ) (id : ProcId) (reply : Reply)
    → Linked p n e → Crossing s p (initiator_row t n (ends bsy ack atn x e.msg e.cd e.io e.req e.given)) n id reply → A
initiator_crosses s p t n e bsy ack atn x id reply h w = unrisen p _ n e
    (ends bsy ack atn x e.msg e.cd e.io e.req e.given) h (initiator_moves p n e bsy ack atn x t h).linked w.rose
    (no_rise e.req)

-- No byte has odd parity.
pub zero_even : (count_ones 0 % 2 == 1) ≡ false
unfolding count_ones
zero_even = refl

asked_crosses : (s : ScenarioValue) (p : List Row) (t : ℕ) (n : Connection) (bsy atn msg cd io : Bool)
    (y : ℕ) (id : ProcId) (reply : Reply) → Linked p n (ends bsy false atn 0 msg cd io false y)
    → is_unasked p ≡ true → OffersStatus s p (ends bsy false atn 0 msg cd io false y)
    → Crossing s p (target_row t n (ends bsy false atn 0 msg cd io true y)) n id reply
    → (bus (target_row t n (ends bsy false atn 0 msg cd io true y) ∷ p)).data_bits ≡ byte_bits reply.status
asked_crosses s p t n bsy atn msg cd io y id reply h un v w = bits
    ∙ v (ap is_status_phase (sym h.stands.bus_is) ∙ w.status) refl un
    (by_bool (y == 0) (λ e. wrong (sym w.odd ∙ ap (λ (z : ℕ). count_ones z % 2 == 1) (bits ∙ zero_of e) ∙ zero_even))
    (λ e. e)) id reply w.given
  where
    bits : (bus (target_row t n (ends bsy false atn 0 msg cd io true y) ∷ p)).data_bits ≡ y
    bits = ap (λ (l : LineSet). l.data_bits)
        (target_moves p n (ends bsy false atn 0 msg cd io false y) msg cd io true y t h).linked.stands.bus_is

    zero_of : (y == 0) ≡ true → y ≡ 0
    zero_of e = grind (arith, nat_tests)

pub left_req : (v : Serving) (io : Bool) (l : Leaving) (o : Option Phase) → (lines_by v io l o).req ≡ false
left_req v io l None = refl
left_req v true l (Some Phase.DataOut) = refl
left_req v true l (Some Phase.DataIn) = refl
left_req v true l (Some Phase.Command) = refl
left_req v true l (Some Phase.Status) = refl
left_req v true l (Some Phase.MessageOut) = refl
left_req v true l (Some Phase.MessageIn) = refl
left_req v false l (Some Phase.DataOut) = refl
left_req v false l (Some Phase.DataIn) = refl
left_req v false l (Some Phase.Command) = refl
left_req v false l (Some Phase.Status) = refl
left_req v false l (Some Phase.MessageOut) = refl
left_req v false l (Some Phase.MessageIn) = refl

left_crosses : {A : Type 0} (s : ScenarioValue) (p : List Row) (t : ℕ) (n : Connection)
    (e : EndLines) (l : LineSet) (f : EndLines) (id : ProcId) (reply : Reply)
    → Linked p n e → l.req ≡ false → Linked (row_of_lines t n.target l ∷ p) n f
    → Crossing s p (row_of_lines t n.target l) n id reply → A
left_crosses s p t n e l f id reply h low k w = unrisen p (row_of_lines t n.target l ∷ p) n e f h k w.rose
    (ap (λ (q : Bool). rises e.req q) (ap (λ (b : LineSet). b.req) (sym k.target ∙ drives_own p t n.target l) ∙ low)
    ∙ falls_is e.req)

pub status_crosses :
    (s : ScenarioValue) (p : List Row) (row : Row) (n : Connection) (f : EndLines) (id : ProcId) (reply : Reply)
    → IsStatusOffered s p n → LinkRow s p n row → Linked (row ∷ p) n f → Crossing s p row n id reply
    → (bus (row ∷ p)).data_bits ≡ byte_bits reply.status
status_crosses s p row n g id reply v link k = go link
  where
    As : Row → Type 0
    As r = Crossing s p r n id reply → (bus (r ∷ p)).data_bits ≡ byte_bits reply.status

    go : LinkRow s p n row → As row
    go (rows.opens h b e) = λ w. wrong' (ap is_status_phase (sym h.stands.bus_is) ∙ w.status)
    go (rows.strikes f bit h b got who e) = subst As (sym e)
        (λ w. unrisen p _ n f f h (linked_fault p n f (last_time p) row.dev bit h) w.rose (no_rise f.req))
    go (rows.hands atn msg cd io y h b un e) =
        subst As (sym e) (λ w. initiator_crosses s p row.time n _ false false atn 0 id reply h w)
    go (rows.releases atn x msg cd h b un e) =
        subst As (sym e) (λ w. initiator_crosses s p row.time n _ false false atn 0 id reply h w)
    go (rows.answers atn to msg cd y h b un rose e) =
        subst As (sym e) (λ w. initiator_crosses s p row.time n _ false true to 0 id reply h w)
    go (rows.ends_ack_in atn msg cd y h b un z e) =
        subst As (sym e) (λ w. initiator_crosses s p row.time n _ false false atn 0 id reply h w)
    go (rows.gives atn msg cd h b z e) =
        subst As (sym e) (λ w. initiator_crosses s p row.time n _ false false _ _ id reply h w)
    go (rows.sends atn msg cd x h b z some e) =
        subst As (sym e) (λ w. initiator_crosses s p row.time n _ false true atn x id reply h w)
    go (rows.ends_ack_out atn msg cd x h b e) =
        subst As (sym e) (λ w. initiator_crosses s p row.time n _ false false atn 0 id reply h w)
    go (rows.answers_pulse req atn to y h b un z rose e) = λ w. in_data p n false false atn 0 true req y h w.status
    go (rows.ends_ack_pulse io req atn x y h b un z e) = λ w. in_data p n false true atn x io req y h w.status
    go (rows.drives_pulsed req atn x y h b z e) = λ w. in_data p n false false atn x false req 0 h w.status
    go (rows.sends_pulse req atn x h b z byte e) = λ w. in_data p n false false atn x false req 0 h w.status
    go (rows.offers atn x msg cd h b un e) = subst As (sym e) (λ w. unrisen p _ n _ _ h
        (target_moves p n (ends false false atn x msg cd true false 0) msg cd true false _ row.time h).linked w.rose
        refl)
    go (rows.asks_first bsy atn msg cd io y h b un first e) =
        subst As (sym e) (asked_crosses s p row.time n bsy atn msg cd io y id reply h un (v _ h b))
    go (rows.ends_req atn msg cd io x y h b un z e) = subst As (sym e) (λ w. unrisen p _ n _ _ h
        (target_moves p n (ends false true atn x msg cd io true y) msg cd io false _ row.time h).linked w.rose refl)
    go (rows.asks_next atn msg cd true y h b un z follows e) = λ w. wrong (sym follows
        ∙ follows_status s p n false false atn 0 msg cd false y (ap is_status_phase (sym h.stands.bus_is) ∙ w.status)
        ∙ un)
    go (rows.asks_next atn msg cd false y h b un z follows e) =
        λ w. absurd (no_out msg cd (ap is_status_phase (sym h.stands.bus_is) ∙ w.status))
    go (rows.leaves atn msg cd io x y h b known un zero follows e) =
        let f : EndLines = ends false false atn x msg cd io false y in
        let u : Serving = serving_at s (run_state s p) n.target (phase_of (connected_bus f)) in
        let l : Leaving = phase_leaving u atn (phase_of (connected_bus f)) in
        subst (λ (r : Row). Linked (r ∷ p) n g → As r) (sym e) (λ linked w. left_crosses s p row.time n f
        (lines_by u io l l.to) g id reply h (left_req u io l l.to) linked w) k
    go (rows.ends_req_pulse io ack atn x y h b un z e) = λ w. in_data p n false ack atn x io true y h w.status
    go (rows.changes_pulsed ack atn y z h b un pulsed e) = λ w. in_data p n false ack atn 0 true false y h w.status
    go (rows.asks_pulse io ack atn x y h b un z zero byte e) = λ w. in_data p n false ack atn x io false y h w.status
