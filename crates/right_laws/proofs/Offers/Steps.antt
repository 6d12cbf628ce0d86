-- In DATA IN the target drives the byte that is due until REQ rises, and this byte crosses (6.1.5.1, 6.1.5.2).
use Rattle.right_laws.proofs
use proofs.Names.{ℕ, ◌≡◌, ◌⊎◌, inl, inr, ◌<◌, Bool, true, false, not, ◌&&◌, ◌==◌, ◌%◌, ◌∙◌, List, ◌∷◌, Option, Some}
use proofs.Names.{None, refl, sym, ap, subst, arith, ltb-true, nat_tests, count_ones, bit_or, nat_lt, if◌then◌else◌}
use proofs.Names.{wrong, wrong', not_first, rises, LineSet, bus, last_time, Row, Agreement, Connection, Handshakes}
use proofs.Names.{handshakes, newest_struck_if, dialogue, ScenarioValue, byte_bits, bits_if, policy_of, begun, Serving}
use proofs.Names.{phase_of, phase_leaving, data_byte, run_length_if, one_if, lines_by, Leaving, Phase, target_def_of}
use proofs.Names.{AreOfDevices, run_state, serving_at, leaving, task_of, given_of, drives_own, EndLines, target_side}
use proofs.Names.{connected_bus, Linked, row_of_lines, row_of_fault, offering_with, same_phases, initiator_moves}
use proofs.Names.{target_moves, initiator_in_phase, target_in_phase, no_rise, target_row, initiator_row, leaves_lines}
use proofs.Names.{linked_fault, may_leave, ends, run_count, none_some, by_bool, leaving_is, same_ends, LinkRow}
use proofs.Names.{is_pulsed, is_unasked, freed_connection, left_req, falls_is, zero_is, side_is, unrisen, zero_even}
use Rattle.trace_laws.specs.row_laws.proofs.Lines.Kept.{requests_stay}
use Rattle.trace_laws.specs.row_laws.proofs.Lines.Rows as rows

-- ---- what is driven

abbrev pub is_data_in : LineSet → Bool
is_data_in b = not b.msg && not b.cd && b.io

-- The byte of DATA IN that is due, and whether one is.
abbrev pub data_at : ScenarioValue → List Row → Connection → ℕ
data_at s p n = data_byte (policy_of (target_def_of s n.target)) (task_of s (run_state s p))
    (given_of s (run_state s p)) 0 (handshakes p).requests

abbrev pub more_at : ScenarioValue → List Row → Connection → Bool
more_at s p n =
    nat_lt (handshakes p).requests (run_length_if (policy_of (target_def_of s n.target)) (task_of s (run_state s p)))

-- Before REQ rises in DATA IN: the first byte, where the target drives one; and byte by byte the next one, while one
-- follows.
pub record OffersData (s : ScenarioValue) (p : List Row) (n : Connection) (e : EndLines) : Type 0 where
  pub first : is_data_in (connected_bus e) ≡ true → e.req ≡ false → is_unasked p ≡ true → (e.given == 0) ≡ false
      → e.given ≡ byte_bits (data_at s p n)
  pub next : is_data_in (connected_bus e) ≡ true → e.req ≡ false → is_unasked p ≡ false → is_pulsed p e ≡ false
      → more_at s p n ≡ true → e.given ≡ byte_bits (data_at s p n)

abbrev pub IsDataOffered : ScenarioValue → List Row → Connection → Type 0
IsDataOffered s p n = (e : EndLines) → Linked p n e → begun p ≡ true → OffersData s p n e

-- The lines of the ends are known by what they drive.
pub offered_by : (s : ScenarioValue) (p : List Row) (n : Connection) (e : EndLines) → Linked p n e → OffersData s p n e
    → IsDataOffered s p n
offered_by s p n e h d f k b = subst (λ (x : EndLines). OffersData s p n x) (same_ends p n e f h k) d

-- ---- what is known of a row

-- In DATA IN what the target serves and gives, and the agreement, are as before the row.
pub record DataKept (s : ScenarioValue) (p q : List Row) (n : Connection) : Type 0 where
  pub bytes : (x : ℕ)
      → data_byte (policy_of (target_def_of s n.target)) (task_of s (run_state s q)) (given_of s (run_state s q)) 0 x
      ≡ data_byte (policy_of (target_def_of s n.target)) (task_of s (run_state s p)) (given_of s (run_state s p)) 0 x
  pub long : run_length_if (policy_of (target_def_of s n.target)) (task_of s (run_state s q))
      ≡ run_length_if (policy_of (target_def_of s n.target)) (task_of s (run_state s p))
  pub agreement : (dialogue q).heard.now.agreement ≡ (dialogue p).heard.now.agreement

pub record DataRow (s : ScenarioValue) (p : List Row) (row : Row) (n : Connection) : Type 0 where
  pub kept : is_data_in (bus p) ≡ true → is_data_in (bus (row ∷ p)) ≡ true → begun p ≡ true → DataKept s p (row ∷ p) n
  -- as DATA IN follows another phase to the initiator
  pub turned : (bus p).io ≡ true → is_data_in (bus p) ≡ false → is_data_in (bus (row ∷ p)) ≡ true
      → data_byte (policy_of (target_def_of s n.target)) (task_of s (run_state s p)) (given_of s (run_state s p))
      (one_if (leaving s (run_state s p) n.target).done) 0 ≡ data_at s (row ∷ p) n
  -- as it follows any, no byte of it was asked for
  pub fresh : is_data_in (bus p) ≡ false → is_data_in (bus (row ∷ p)) ≡ true → is_unasked (row ∷ p) ≡ true

same_data : (s : ScenarioValue) (p q : List Row) (n : Connection) → DataKept s p q n
    → (handshakes q).requests ≡ (handshakes p).requests → data_at s q n ≡ data_at s p n
same_data s p q n h e = h.bytes (handshakes q).requests
    ∙ ap (data_byte (policy_of (target_def_of s n.target)) (task_of s (run_state s p)) (given_of s (run_state s p)) 0) e

same_more : (s : ScenarioValue) (p q : List Row) (n : Connection) → DataKept s p q n
    → (handshakes q).requests ≡ (handshakes p).requests → more_at s q n ≡ more_at s p n
same_more s p q n h e = λ i. nat_lt (e i) (h.long i)

offered_data :
    (s : ScenarioValue) (p : List Row) (n : Connection) (bsy ack atn : Bool) (x : ℕ) (msg cd req : Bool) (y : ℕ)
    → (not msg && not cd && true) ≡ true
    → (offering_with s p n true (ends bsy ack atn x msg cd true req y)).byte ≡ data_at s p n
offered_data s p n bsy ack atn x false false req y a = refl
offered_data s p n bsy ack atn x false true req y a = wrong' a
offered_data s p n bsy ack atn x true cd req y a = wrong' a

follows_data :
    (s : ScenarioValue) (p : List Row) (n : Connection) (bsy ack atn : Bool) (x : ℕ) (msg cd req : Bool) (y : ℕ)
    → (not msg && not cd && true) ≡ true
    → (offering_with s p n true (ends bsy ack atn x msg cd true req y)).follows ≡ more_at s p n
follows_data s p n bsy ack atn x false false req y a = go (is_pulsed p (ends bsy ack atn x false false true req y))
  where
    go : (q : Bool) → (if q then more_at s p n else more_at s p n) ≡ more_at s p n
    go true = refl
    go false = refl
follows_data s p n bsy ack atn x false true req y a = wrong' a
follows_data s p n bsy ack atn x true cd req y a = wrong' a

-- ---- rows with which nothing of it changes

stays : (s : ScenarioValue) (p q : List Row) (n : Connection) (e f : EndLines)
    → is_data_in (connected_bus e) ≡ is_data_in (connected_bus f) → e.req ≡ f.req
    → e.given ≡ f.given → (is_data_in (connected_bus f) ≡ true → is_pulsed q f ≡ is_pulsed p e)
    → (handshakes q).requests ≡ (handshakes p).requests
    → (is_data_in (connected_bus f) ≡ true → DataKept s p q n) → OffersData s p n e → OffersData s q n f
stays s p q n e f lines er eg pulsed requests kept v = record {
  first = λ a z u some. sym eg
      ∙ v.first (lines ∙ a) (er ∙ z) (sym (ap (λ (x : ℕ). x == 0) requests) ∙ u) (ap (λ (x : ℕ). x == 0) eg ∙ some)
      ∙ ap byte_bits (sym (same_data s p q n (kept a) requests));
  next = λ a z u un more. sym eg ∙ v.next (lines ∙ a) (er ∙ z) (sym (ap (λ (x : ℕ). x == 0) requests) ∙ u)
      (sym (pulsed a) ∙ un) (sym (same_more s p q n (kept a) requests) ∙ more)
      ∙ ap byte_bits (sym (same_data s p q n (kept a) requests));
}

of_initiator : (s : ScenarioValue) (p : List Row) (t : ℕ) (n : Connection) (e : EndLines) (bsy ack atn : Bool) (x : ℕ)
    → Linked p n e → begun p ≡ true → OffersData s p n e
    → DataRow s p (initiator_row t n (ends bsy ack atn x e.msg e.cd e.io e.req e.given)) n
    → IsDataOffered s (initiator_row t n (ends bsy ack atn x e.msg e.cd e.io e.req e.given) ∷ p) n
of_initiator s p t n e bsy ack atn x h b v w =
    let f : EndLines = ends bsy ack atn x e.msg e.cd e.io e.req e.given in
    let q : List Row = initiator_row t n f ∷ p in
    let r = initiator_in_phase p n e bsy ack atn x t h in
    let linked = (initiator_moves p n e bsy ack atn x t h).linked in
    let same : (handshakes q).requests ≡ (handshakes p).requests = ap (λ (z : Handshakes). z.requests) r.handshakes_are
    ∙ requests_stay p (rises e.ack ack) (rises e.req e.req) t (no_rise e.req) in
    let kept : is_data_in (connected_bus f) ≡ true → DataKept s p q n = λ a. w.kept
    (ap is_data_in h.stands.bus_is ∙ a) (ap is_data_in linked.stands.bus_is ∙ a) b in
    offered_by s q n f linked (stays s p q n e f refl refl refl
    (λ a. ap (λ (g : Agreement). not e.msg && not e.cd && nat_lt 0 g.offset) (kept a).agreement) same kept v)

of_fault : (s : ScenarioValue) (p : List Row) (t d bit : ℕ) (n : Connection) (e : EndLines)
    → Linked p n e → begun p ≡ true → OffersData s p n e → DataRow s p (row_of_fault t d bit) n
    → IsDataOffered s (row_of_fault t d bit ∷ p) n
of_fault s p t d bit n e h b v w =
    let q : List Row = row_of_fault t d bit ∷ p in
    let linked = linked_fault p n e t d bit h in
    let kept : is_data_in (connected_bus e) ≡ true → DataKept s p q n = λ a. w.kept
    (ap is_data_in h.stands.bus_is ∙ a) (ap is_data_in linked.stands.bus_is ∙ a) b in
    offered_by s q n e linked (stays s p q n e e refl refl refl
    (λ a. ap (λ (g : Agreement). not e.msg && not e.cd && nat_lt 0 g.offset) (kept a).agreement)
    (struck (bus p).io (handshakes p)) kept v)
  where
    struck : (q : Bool) (x : Handshakes) → (newest_struck_if q x).requests ≡ x.requests
    struck true x = refl
    struck false x = refl

-- ---- rows of the target

offers : (s : ScenarioValue) (p : List Row) (t : ℕ) (n : Connection) (atn : Bool) (x : ℕ) (msg cd : Bool)
    → Linked p n (ends false false atn x msg cd true false 0) → begun p ≡ true → is_unasked p ≡ true
    → DataRow s p (target_row t n (ends false false atn x msg cd true false
    (byte_bits (offering_with s p n true (ends false false atn x msg cd true false 0)).byte))) n
    → IsDataOffered s (target_row t n (ends false false atn x msg cd true false
    (byte_bits (offering_with s p n true (ends false false atn x msg cd true false 0)).byte)) ∷ p) n
offers s p t n atn x msg cd h b un w =
    let e : EndLines = ends false false atn x msg cd true false 0 in
    let byte : ℕ = (offering_with s p n true e).byte in
    let f : EndLines = ends false false atn x msg cd true false (byte_bits byte) in
    let q : List Row = target_row t n f ∷ p in
    let r = target_in_phase p n e false (byte_bits byte) t h in
    let linked = (target_moves p n e msg cd true false (byte_bits byte) t h).linked in
    let same : (handshakes q).requests ≡ (handshakes p).requests = ap (λ (z : Handshakes). z.requests) r.handshakes_are
    ∙ requests_stay p (rises false false) (rises false false) t refl in
    offered_by s q n f linked (record {
      first = λ a z u some. ap byte_bits (offered_data s p n false false atn x msg cd false 0 a ∙ sym (same_data s p q n
          (w.kept (ap is_data_in h.stands.bus_is ∙ a) (ap is_data_in linked.stands.bus_is ∙ a) b) same));
      next = λ a z u pulsed more. wrong (sym un ∙ sym (ap (λ (m : ℕ). m == 0) same) ∙ u);
    })

-- REQ is true after it.
asks : (s : ScenarioValue) (p : List Row) (t : ℕ) (n : Connection) (e : EndLines) (y : ℕ) → Linked p n e
    → IsDataOffered s (target_row t n (ends e.bsy e.ack e.atn e.sent e.msg e.cd e.io true y) ∷ p) n
asks s p t n e y h = offered_by s _ n (ends e.bsy e.ack e.atn e.sent e.msg e.cd e.io true y)
    (target_moves p n e e.msg e.cd e.io true y t h).linked
    (record { first = λ a z u some. wrong z; next = λ a z u pulsed more. wrong z })

-- REQ falls, byte by byte: the next byte is driven with it.
bits_of : (q : Bool) (y : ℕ) → q ≡ true → bits_if q y ≡ byte_bits y
bits_of true y e = refl
bits_of false y e = wrong' e

ended : (s : ScenarioValue) (p : List Row) (t : ℕ) (n : Connection) (atn msg cd io : Bool) (x y : ℕ)
    → Linked p n (ends false true atn x msg cd io true y) → begun p ≡ true → is_unasked p ≡ false
    → DataRow s p (target_row t n (ends false true atn x msg cd io false
    (bits_if (io && (offering_with s p n true (ends false true atn x msg cd io true y)).follows)
    (offering_with s p n true (ends false true atn x msg cd io true y)).byte))) n
    → IsDataOffered s (target_row t n (ends false true atn x msg cd io false
    (bits_if (io && (offering_with s p n true (ends false true atn x msg cd io true y)).follows)
    (offering_with s p n true (ends false true atn x msg cd io true y)).byte)) ∷ p) n
ended s p t n atn msg cd false x y h b un w =
    let e : EndLines = ends false true atn x msg cd false true y in
    let z : ℕ = bits_if (false && (offering_with s p n true e).follows) (offering_with s p n true e).byte in
    offered_by s _ n (ends false true atn x msg cd false false z) (target_moves p n e msg cd false false z t h).linked
    (record { first = λ a g u some. absurd (no_out msg cd a); next = λ a g u pulsed more. absurd (no_out msg cd a) })
  where
    no_out : (m c : Bool) → (not m && not c && false) ≡ true → ⊥
    no_out true c g = wrong' g
    no_out false true g = wrong' g
    no_out false false g = wrong' g
ended s p t n atn msg cd true x y h b un w =
    let e : EndLines = ends false true atn x msg cd true true y in
    let z : ℕ = bits_if (true && (offering_with s p n true e).follows) (offering_with s p n true e).byte in
    let f : EndLines = ends false true atn x msg cd true false z in
    let q : List Row = target_row t n f ∷ p in
    let r = target_in_phase p n e false z t h in
    let linked = (target_moves p n e msg cd true false z t h).linked in
    let same : (handshakes q).requests ≡ (handshakes p).requests = ap (λ (d : Handshakes). d.requests) r.handshakes_are
    ∙ requests_stay p (rises true true) (rises true false) t refl in
    offered_by s q n f linked (record {
      first = λ a d u some. wrong (sym u ∙ ap (λ (v : ℕ). v == 0) same ∙ un);
      next = λ a d u pulsed more.
          let kept = w.kept (ap is_data_in h.stands.bus_is ∙ a) (ap is_data_in linked.stands.bus_is ∙ a) b in
          bits_of (true && (offering_with s p n true e).follows) (offering_with s p n true e).byte
          (follows_data s p n false true atn x msg cd true y a ∙ sym (same_more s p q n kept same) ∙ more)
          ∙ ap byte_bits (offered_data s p n false true atn x msg cd true y a ∙ sym (same_data s p q n kept same));
    })

-- The same by pulses: then nothing is said of the byte before REQ rises.
pulsed_on : (s : ScenarioValue) (p : List Row) (t : ℕ) (n : Connection) (e : EndLines) (y : ℕ)
    → Linked p n e → begun p ≡ true → is_unasked p ≡ false → is_pulsed p e ≡ true
    → DataRow s p (target_row t n (ends e.bsy e.ack e.atn e.sent e.msg e.cd e.io false y)) n
    → IsDataOffered s (target_row t n (ends e.bsy e.ack e.atn e.sent e.msg e.cd e.io false y) ∷ p) n
pulsed_on s p t n e y h b un by w =
    let f : EndLines = ends e.bsy e.ack e.atn e.sent e.msg e.cd e.io false y in
    let q : List Row = target_row t n f ∷ p in
    let r = target_in_phase p n e false y t h in
    let linked = (target_moves p n e e.msg e.cd e.io false y t h).linked in
    let same : (handshakes q).requests ≡ (handshakes p).requests = ap (λ (z : Handshakes). z.requests) r.handshakes_are
    ∙ requests_stay p (rises e.ack e.ack) (rises e.req false) t (falls_is e.req) in
    offered_by s q n f linked (record {
      first = λ a z u some. wrong (sym u ∙ ap (λ (v : ℕ). v == 0) same ∙ un);
      next =
          λ a z u unpulsed more. wrong (sym by ∙ sym (ap (λ (g : Agreement). not e.msg && not e.cd && nat_lt 0 g.offset)
          (w.kept (ap is_data_in h.stands.bus_is ∙ a) (ap is_data_in linked.stands.bus_is ∙ a) b).agreement)
          ∙ unpulsed);
    })
  where
    falls_is : (q : Bool) → rises q false ≡ false
    falls_is true = refl
    falls_is false = refl

-- MESSAGE OUT begins.
opens : (s : ScenarioValue) (p : List Row) (t : ℕ) (n : Connection) (ack atn : Bool) (x : ℕ) → Linked
    (target_row t n (ends false ack atn x true true false false 0) ∷ p) n (ends false ack atn x true true false false 0)
    → IsDataOffered s (target_row t n (ends false ack atn x true true false false 0) ∷ p) n
opens s p t n ack atn x h = offered_by s _ n (ends false ack atn x true true false false 0) h
    (record { first = λ a z u some. wrong' a; next = λ a z u pulsed more. wrong' a })

-- ---- a phase is left

pub elsewhere : (s : ScenarioValue) (q : List Row) (n : Connection) (f : EndLines)
    → (is_data_in (connected_bus f) ≡ true → ⊥) → OffersData s q n f
elsewhere s q n f h = record { first = λ a z u some. absurd (h a); next = λ a z u pulsed more. absurd (h a) }

no_data : (msg cd : Bool) → same_phases msg cd true false false true ≡ false → (not msg && not cd && true) ≡ false
no_data true cd e = refl
no_data false true e = refl
no_data false false e = wrong e

data_lines : (l : LineSet) (f : EndLines) → l ≡ target_side f → is_data_in (connected_bus f) ≡ true
    → (not l.msg && not l.cd && l.io) ≡ true
data_lines l f e a = (λ i. not (e i).msg && not (e i).cd && (e i).io) ∙ a

no_out : (m c : Bool) → (not m && not c && false) ≡ false
no_out true c = refl
no_out false true = refl
no_out false false = refl

-- After a phase to the initiator the target drives the first byte with the next one.
left_in : (s : ScenarioValue) (p : List Row) (t : ℕ) (n : Connection) (atn msg cd : Bool) (x y : ℕ) (v : Serving)
    (l : Leaving) (o : Option Phase) (f : EndLines) → Linked p n (ends false false atn x msg cd true false y)
    → data_byte (policy_of v.def) v.task v.given (one_if l.done) 0 ≡ data_byte (policy_of (target_def_of s n.target))
    (task_of s (run_state s p)) (given_of s (run_state s p)) (one_if (leaving s (run_state s p) n.target).done) 0
    → may_leave msg cd true atn o ≡ true → DataRow s p (row_of_lines t n.target (lines_by v true l o)) n
    → Linked (row_of_lines t n.target (lines_by v true l o) ∷ p) n f
    → OffersData s (row_of_lines t n.target (lines_by v true l o) ∷ p) n f
left_in s p t n atn msg cd x y v l None f h own m w e = none_some n
    (sym (freed_connection p t n (ends false false atn x msg cd true false y) refl h) ∙ e.stands.connection_is)
left_in s p t n atn msg cd x y v l (Some Phase.DataOut) f h own m w e = elsewhere s _ n f (λ a. wrong' (data_lines
    (lines_by v true l (Some Phase.DataOut)) f (side_is p t n (lines_by v true l (Some Phase.DataOut)) f e) a))
left_in s p t n atn msg cd x y v l (Some Phase.Status) f h own m w e = elsewhere s _ n f (λ a. wrong' (data_lines
    (lines_by v true l (Some Phase.Status)) f (side_is p t n (lines_by v true l (Some Phase.Status)) f e) a))
left_in s p t n atn msg cd x y v l (Some Phase.Command) f h own m w e = elsewhere s _ n f (λ a. wrong' (data_lines
    (lines_by v true l (Some Phase.Command)) f (side_is p t n (lines_by v true l (Some Phase.Command)) f e) a))
left_in s p t n atn msg cd x y v l (Some Phase.MessageOut) f h own m w e = elsewhere s _ n f (λ a. wrong' (data_lines
    (lines_by v true l (Some Phase.MessageOut)) f (side_is p t n (lines_by v true l (Some Phase.MessageOut)) f e) a))
left_in s p t n atn msg cd x y v l (Some Phase.MessageIn) f h own m w e = elsewhere s _ n f (λ a. wrong' (data_lines
    (lines_by v true l (Some Phase.MessageIn)) f (side_is p t n (lines_by v true l (Some Phase.MessageIn)) f e) a))
left_in s p t n atn msg cd x y v l (Some Phase.DataIn) f h own m w e =
    let before : is_data_in (bus p) ≡ false = ap is_data_in h.stands.bus_is
    ∙ no_data msg cd (not_first (same_phases msg cd true false false true) _ m) in
    record {
      first = λ a z u some.
          sym (ap (λ (b : LineSet). b.data_bits) (side_is p t n (lines_by v true l (Some Phase.DataIn)) f e))
          ∙ ap byte_bits
          (own ∙ w.turned (ap (λ (b : LineSet). b.io) h.stands.bus_is) before (ap is_data_in e.stands.bus_is ∙ a));
      next = λ a z u pulsed more. wrong (sym (w.fresh before (ap is_data_in e.stands.bus_is ∙ a)) ∙ u);
    }

-- After one to the target it drives none.
left_out : (s : ScenarioValue) (p : List Row) (t : ℕ) (n : Connection) (atn msg cd : Bool) (x y : ℕ) (v : Serving)
    (l : Leaving) (o : Option Phase) (f : EndLines) → Linked p n (ends false false atn x msg cd false false y)
    → DataRow s p (row_of_lines t n.target (lines_by v false l o)) n
    → Linked (row_of_lines t n.target (lines_by v false l o) ∷ p) n f
    → OffersData s (row_of_lines t n.target (lines_by v false l o) ∷ p) n f
left_out s p t n atn msg cd x y v l None f h w e = none_some n
    (sym (freed_connection p t n (ends false false atn x msg cd false false y) refl h) ∙ e.stands.connection_is)
left_out s p t n atn msg cd x y v l (Some Phase.DataOut) f h w e = elsewhere s _ n f (λ a. wrong' (data_lines
    (lines_by v false l (Some Phase.DataOut)) f (side_is p t n (lines_by v false l (Some Phase.DataOut)) f e) a))
left_out s p t n atn msg cd x y v l (Some Phase.Status) f h w e = elsewhere s _ n f (λ a. wrong' (data_lines
    (lines_by v false l (Some Phase.Status)) f (side_is p t n (lines_by v false l (Some Phase.Status)) f e) a))
left_out s p t n atn msg cd x y v l (Some Phase.Command) f h w e = elsewhere s _ n f (λ a. wrong' (data_lines
    (lines_by v false l (Some Phase.Command)) f (side_is p t n (lines_by v false l (Some Phase.Command)) f e) a))
left_out s p t n atn msg cd x y v l (Some Phase.MessageOut) f h w e = elsewhere s _ n f (λ a. wrong' (data_lines
    (lines_by v false l (Some Phase.MessageOut)) f (side_is p t n (lines_by v false l (Some Phase.MessageOut)) f e) a))
left_out s p t n atn msg cd x y v l (Some Phase.MessageIn) f h w e = elsewhere s _ n f (λ a. wrong' (data_lines
    (lines_by v false l (Some Phase.MessageIn)) f (side_is p t n (lines_by v false l (Some Phase.MessageIn)) f e) a))
left_out s p t n atn msg cd x y v l (Some Phase.DataIn) f h w e = record {
  first = λ a z u some. absurd (zero_is f.given
      (sym (ap (λ (b : LineSet). b.data_bits) (side_is p t n (lines_by v false l (Some Phase.DataIn)) f e))) some);
  next = λ a z u pulsed more. wrong
      (sym (w.fresh (ap is_data_in h.stands.bus_is ∙ no_out msg cd) (ap is_data_in e.stands.bus_is ∙ a)) ∙ u);
}

left : (s : ScenarioValue) (p : List Row) (t : ℕ) (n : Connection) (atn msg cd io : Bool) (x y : ℕ) → AreOfDevices p
    → Linked p n (ends false false atn x msg cd io false y) → begun p ≡ true → (msg && not cd) ≡ false
    → DataRow s p (row_of_lines t n.target (offering_with s p n true (ends false false atn x msg cd io false y)).to) n
    → IsDataOffered s
    (row_of_lines t n.target (offering_with s p n true (ends false false atn x msg cd io false y)).to ∷ p) n
left s p t n atn msg cd true x y dv h b known w f k g =
    let e : EndLines = ends false false atn x msg cd true false y in
    let v : Serving = serving_at s (run_state s p) n.target (phase_of (connected_bus e)) in
    let l : Leaving = phase_leaving v atn (phase_of (connected_bus e)) in
    left_in s p t n atn msg cd x y v l l.to f h (λ i. data_byte (policy_of (target_def_of s n.target))
    (task_of s (run_state s p)) (given_of s (run_state s p)) (one_if (sym (leaving_is s p n e dv h b) i).done) 0)
    (leaves_lines v msg cd true atn x y known) w k
left s p t n atn msg cd false x y dv h b known w f k g =
    let e : EndLines = ends false false atn x msg cd false false y in
    let v : Serving = serving_at s (run_state s p) n.target (phase_of (connected_bus e)) in
    let l : Leaving = phase_leaving v atn (phase_of (connected_bus e)) in
    left_out s p t n atn msg cd x y v l l.to f h w k

-- ---- any row of a connection

pub offered_next : (s : ScenarioValue) (p : List Row) (row : Row) (n : Connection) → AreOfDevices p
    → IsDataOffered s p n → LinkRow s p n row → DataRow s p row n → IsDataOffered s (row ∷ p) n
offered_next s p row n dv v (rows.opens h b e) = subst (λ (r : Row). DataRow s p r n → IsDataOffered s (r ∷ p) n)
    (sym e) (λ w. opens s p row.time n false true 0 (target_moves p n _ true true false false 0 row.time h).linked)
offered_next s p row n dv v (rows.strikes f bit h b got who e) = subst (λ (r : Row). DataRow s p r n
    → IsDataOffered s (r ∷ p) n) (sym e) (of_fault s p (last_time p) row.dev bit n f h b (v f h b))
offered_next s p row n dv v (rows.hands atn msg cd io y h b un e) = subst
    (λ (r : Row). DataRow s p r n → IsDataOffered s (r ∷ p) n) (sym e)
    (of_initiator s p row.time n (ends true false atn 0 msg cd io false y) false false atn 0 h b (v _ h b))
offered_next s p row n dv v (rows.releases atn x msg cd h b un e) = subst
    (λ (r : Row). DataRow s p r n → IsDataOffered s (r ∷ p) n) (sym e)
    (of_initiator s p row.time n (ends false false atn x msg cd true false 0) false false atn 0 h b (v _ h b))
offered_next s p row n dv v (rows.answers atn to msg cd y h b un rose e) = subst
    (λ (r : Row). DataRow s p r n → IsDataOffered s (r ∷ p) n) (sym e)
    (of_initiator s p row.time n (ends false false atn 0 msg cd true true y) false true to 0 h b (v _ h b))
offered_next s p row n dv v (rows.ends_ack_in atn msg cd y h b un z e) = subst
    (λ (r : Row). DataRow s p r n → IsDataOffered s (r ∷ p) n) (sym e)
    (of_initiator s p row.time n (ends false true atn 0 msg cd true false y) false false atn 0 h b (v _ h b))
offered_next s p row n dv v (rows.gives atn msg cd h b z e) = subst
    (λ (r : Row). DataRow s p r n → IsDataOffered s (r ∷ p) n) (sym e)
    (of_initiator s p row.time n (ends false false atn 0 msg cd false true 0) false false _ _ h b (v _ h b))
offered_next s p row n dv v (rows.sends atn msg cd x h b z some e) = subst
    (λ (r : Row). DataRow s p r n → IsDataOffered s (r ∷ p) n) (sym e)
    (of_initiator s p row.time n (ends false false atn x msg cd false true 0) false true atn x h b (v _ h b))
offered_next s p row n dv v (rows.ends_ack_out atn msg cd x h b e) = subst
    (λ (r : Row). DataRow s p r n → IsDataOffered s (r ∷ p) n) (sym e)
    (of_initiator s p row.time n (ends false true atn x msg cd false false 0) false false atn 0 h b (v _ h b))
offered_next s p row n dv v (rows.answers_pulse req atn to y h b un z rose e) = subst
    (λ (r : Row). DataRow s p r n → IsDataOffered s (r ∷ p) n) (sym e)
    (of_initiator s p row.time n (ends false false atn 0 false false true req y) false true to 0 h b (v _ h b))
offered_next s p row n dv v (rows.ends_ack_pulse io req atn x y h b un z e) = subst
    (λ (r : Row). DataRow s p r n → IsDataOffered s (r ∷ p) n) (sym e)
    (of_initiator s p row.time n (ends false true atn x false false io req y) false false atn x h b (v _ h b))
offered_next s p row n dv v (rows.drives_pulsed req atn x y h b z e) = subst
    (λ (r : Row). DataRow s p r n → IsDataOffered s (r ∷ p) n) (sym e)
    (of_initiator s p row.time n (ends false false atn x false false false req 0) false false atn y h b (v _ h b))
offered_next s p row n dv v (rows.sends_pulse req atn x h b z byte e) = subst
    (λ (r : Row). DataRow s p r n → IsDataOffered s (r ∷ p) n) (sym e)
    (of_initiator s p row.time n (ends false false atn x false false false req 0) false true atn x h b (v _ h b))
offered_next s p row n dv v (rows.offers atn x msg cd h b un e) =
    subst (λ (r : Row). DataRow s p r n → IsDataOffered s (r ∷ p) n) (sym e) (offers s p row.time n atn x msg cd h b un)
offered_next s p row n dv v (rows.asks_first bsy atn msg cd io y h b un first e) = subst
    (λ (r : Row). DataRow s p r n → IsDataOffered s (r ∷ p) n) (sym e)
    (λ w. asks s p row.time n (ends bsy false atn 0 msg cd io false y) y h)
offered_next s p row n dv v (rows.ends_req atn msg cd io x y h b un z e) = subst
    (λ (r : Row). DataRow s p r n → IsDataOffered s (r ∷ p) n) (sym e) (ended s p row.time n atn msg cd io x y h b un)
offered_next s p row n dv v (rows.asks_next atn msg cd io y h b un z follows e) = subst
    (λ (r : Row). DataRow s p r n → IsDataOffered s (r ∷ p) n) (sym e)
    (λ w. asks s p row.time n (ends false false atn 0 msg cd io false y) y h)
offered_next s p row n dv v (rows.leaves atn msg cd io x y h b known un zero follows e) = subst
    (λ (r : Row). DataRow s p r n → IsDataOffered s (r ∷ p) n) (sym e)
    (left s p row.time n atn msg cd io x y dv h b known)
offered_next s p row n dv v (rows.ends_req_pulse io ack atn x y h b un z e) = subst
    (λ (r : Row). DataRow s p r n → IsDataOffered s (r ∷ p) n) (sym e)
    (pulsed_on s p row.time n (ends false ack atn x false false io true y) y h b un z)
offered_next s p row n dv v (rows.changes_pulsed ack atn y z h b un pulsed e) = subst
    (λ (r : Row). DataRow s p r n → IsDataOffered s (r ∷ p) n) (sym e)
    (pulsed_on s p row.time n (ends false ack atn 0 false false true false y) z h b un pulsed)
offered_next s p row n dv v (rows.asks_pulse io ack atn x y h b un z zero byte e) = subst
    (λ (r : Row). DataRow s p r n → IsDataOffered s (r ∷ p) n) (sym e)
    (λ w. asks s p row.time n (ends false ack atn x false false io false y) y h)

-- ---- the byte that crosses

-- What is known of a row of DATA IN with which REQ rises.
pub record Crossing (p : List Row) (row : Row) : Type 0 where
  pub here : is_data_in (bus p) ≡ true
  pub rose : rises (bus p).req (bus (row ∷ p)).req ≡ true
  pub odd : (count_ones (bus (row ∷ p)).data_bits % 2 == 1) ≡ true

-- It is the byte that is due; and it is the first of the run, or the run has it.
pub record IsDataByte (s : ScenarioValue) (p : List Row) (row : Row) (n : Connection) : Type 0 where
  pub byte_is : (bus (row ∷ p)).data_bits ≡ byte_bits (data_at s p n)
  pub asked : (is_unasked p ≡ true) ⊎ ((handshakes p).requests < run_count s p n)

initiator_crosses :
    {A : Type 0} (s : ScenarioValue) (p : List Row) (t : ℕ) (n : Connection) (e : EndLines) (bsy ack atn : Bool) (x : ℕ)
    → Linked p n e → Crossing p (initiator_row t n (ends bsy ack atn x e.msg e.cd e.io e.req e.given)) → A
initiator_crosses s p t n e bsy ack atn x h w = unrisen p _ n e (ends bsy ack atn x e.msg e.cd e.io e.req e.given) h
    (initiator_moves p n e bsy ack atn x t h).linked w.rose (no_rise e.req)

some_byte : (y bits : ℕ) → bits ≡ y → (count_ones bits % 2 == 1) ≡ true → (y == 0) ≡ false
some_byte y bits e odd =
    by_bool (y == 0)
    (λ z. wrong (sym odd ∙ ap (λ (x : ℕ). count_ones x % 2 == 1) (e ∙ zero_of z) ∙ zero_even))
    (λ z. z)
  where
    zero_of : (y == 0) ≡ true → y ≡ 0
    zero_of z = grind (arith, nat_tests)

first_crosses : (s : ScenarioValue) (p : List Row) (t : ℕ) (n : Connection) (bsy atn msg cd io : Bool) (y : ℕ)
    → Linked p n (ends bsy false atn 0 msg cd io false y) → is_unasked p ≡ true
    → OffersData s p n (ends bsy false atn 0 msg cd io false y)
    → Crossing p (target_row t n (ends bsy false atn 0 msg cd io true y))
    → IsDataByte s p (target_row t n (ends bsy false atn 0 msg cd io true y)) n
first_crosses s p t n bsy atn msg cd io y h un v w =
    let bits : (bus (target_row t n (ends bsy false atn 0 msg cd io true y) ∷ p)).data_bits ≡ y = ap
    (λ (l : LineSet). l.data_bits)
    (target_moves p n (ends bsy false atn 0 msg cd io false y) msg cd io true y t h).linked.stands.bus_is in
    record {
      byte_is = bits ∙ v.first (ap is_data_in (sym h.stands.bus_is) ∙ w.here) refl un (some_byte y _ bits w.odd);
      asked = inl un;
    }

next_crosses : (s : ScenarioValue) (p : List Row) (t : ℕ) (n : Connection) (atn msg cd io : Bool) (y : ℕ)
    → Linked p n (ends false false atn 0 msg cd io false y) → is_unasked p ≡ false
    → is_pulsed p (ends false false atn 0 msg cd io false y) ≡ false
    → (offering_with s p n true (ends false false atn 0 msg cd io false y)).follows ≡ true
    → OffersData s p n (ends false false atn 0 msg cd io false y)
    → Crossing p (target_row t n (ends false false atn 0 msg cd io true y))
    → IsDataByte s p (target_row t n (ends false false atn 0 msg cd io true y)) n
next_crosses s p t n atn msg cd false y h un z follows v w =
    wrong' (sym (no_out msg cd) ∙ ap is_data_in (sym h.stands.bus_is) ∙ w.here)
next_crosses s p t n atn msg cd true y h un z follows v w =
    let here = ap is_data_in (sym h.stands.bus_is) ∙ w.here in
    let more = sym (follows_data s p n false false atn 0 msg cd false y here) ∙ follows in
    record {
      byte_is = ap (λ (l : LineSet). l.data_bits)
          (target_moves p n (ends false false atn 0 msg cd true false y) msg cd true true y t h).linked.stands.bus_is
          ∙ v.next here refl un z more;
      asked = inr (ltb-true (handshakes p).requests (run_count s p n) more);
    }

pulse_crosses : (s : ScenarioValue) (p : List Row) (t : ℕ) (n : Connection) (io ack atn : Bool) (x y : ℕ)
    → Linked p n (ends false ack atn x false false io false y) → (io ≡ true → x ≡ 0)
    → (io ≡ true → (y ≡ byte_bits (offering_with s p n true (ends false ack atn x false false io false y)).byte)
    × (nat_lt (handshakes p).requests (run_count s p n) ≡ true))
    → Crossing p (target_row t n (ends false ack atn x false false io true y))
    → IsDataByte s p (target_row t n (ends false ack atn x false false io true y)) n
pulse_crosses s p t n false ack atn x y h zero byte w = wrong' (ap is_data_in (sym h.stands.bus_is) ∙ w.here)
pulse_crosses s p t n true ack atn x y h zero byte w =
    record {
      byte_is = ap (λ (l : LineSet). l.data_bits) (target_moves p n
          (ends false ack atn x false false true false y) false false true true y t h).linked.stands.bus_is
          ∙ ap (λ (z : ℕ). bit_or z y) (zero refl) ∙ (byte refl).0
          ∙ ap byte_bits (offered_data s p n false ack atn x false false false y refl);
      asked = inr (ltb-true (handshakes p).requests (run_count s p n) (byte refl).1);
    }

left_crosses :
    {A : Type 0} (s : ScenarioValue) (p : List Row) (t : ℕ) (n : Connection) (e : EndLines) (l : LineSet) (f : EndLines)
    → Linked p n e → l.req ≡ false → Linked (row_of_lines t n.target l ∷ p) n f → Crossing p (row_of_lines t n.target l)
    → A
left_crosses s p t n e l f h low g w = unrisen p (row_of_lines t n.target l ∷ p) n e f h g w.rose
    (ap (λ (q : Bool). rises e.req q) (ap (λ (b : LineSet). b.req) (sym g.target ∙ drives_own p t n.target l) ∙ low)
    ∙ falls_is e.req)

pub data_crosses : (s : ScenarioValue) (p : List Row) (row : Row) (n : Connection) (f : EndLines) → IsDataOffered s p n
    → LinkRow s p n row → Linked (row ∷ p) n f → Crossing p row → IsDataByte s p row n
data_crosses s p row n g v link a = go link
  where
    As : Row → Type 0
    As r = Crossing p r → IsDataByte s p r n

    go : LinkRow s p n row → As row
    go (rows.opens h b e) = λ w. wrong' (ap is_data_in (sym h.stands.bus_is) ∙ w.here)
    go (rows.strikes f bit h b got who e) = subst As (sym e)
        (λ w. unrisen p _ n f f h (linked_fault p n f (last_time p) row.dev bit h) w.rose (no_rise f.req))
    go (rows.hands atn msg cd io y h b un e) =
        subst As (sym e) (λ w. initiator_crosses s p row.time n _ false false atn 0 h w)
    go (rows.releases atn x msg cd h b un e) =
        subst As (sym e) (λ w. initiator_crosses s p row.time n _ false false atn 0 h w)
    go (rows.answers atn to msg cd y h b un rose e) =
        subst As (sym e) (λ w. initiator_crosses s p row.time n _ false true to 0 h w)
    go (rows.ends_ack_in atn msg cd y h b un z e) =
        subst As (sym e) (λ w. initiator_crosses s p row.time n _ false false atn 0 h w)
    go (rows.gives atn msg cd h b z e) = subst As (sym e) (λ w. initiator_crosses s p row.time n _ false false _ _ h w)
    go (rows.sends atn msg cd x h b z some e) =
        subst As (sym e) (λ w. initiator_crosses s p row.time n _ false true atn x h w)
    go (rows.ends_ack_out atn msg cd x h b e) =
        subst As (sym e) (λ w. initiator_crosses s p row.time n _ false false atn 0 h w)
    go (rows.answers_pulse req atn to y h b un z rose e) =
        subst As (sym e) (λ w. initiator_crosses s p row.time n _ false true to 0 h w)
    go (rows.ends_ack_pulse io req atn x y h b un z e) =
        subst As (sym e) (λ w. initiator_crosses s p row.time n _ false false atn x h w)
    go (rows.drives_pulsed req atn x y h b z e) = λ w. wrong' (ap is_data_in (sym h.stands.bus_is) ∙ w.here)
    go (rows.sends_pulse req atn x h b z byte e) = λ w. wrong' (ap is_data_in (sym h.stands.bus_is) ∙ w.here)
    go (rows.offers atn x msg cd h b un e) = subst As (sym e) (λ w. unrisen p _ n _ _ h
        (target_moves p n (ends false false atn x msg cd true false 0) msg cd true false _ row.time h).linked w.rose
        refl)
    go (rows.asks_first bsy atn msg cd io y h b un first e) =
        subst As (sym e) (first_crosses s p row.time n bsy atn msg cd io y h un (v _ h b))
    go (rows.ends_req atn msg cd io x y h b un z e) = subst As (sym e) (λ w. unrisen p _ n _ _ h
        (target_moves p n (ends false true atn x msg cd io true y) msg cd io false _ row.time h).linked w.rose refl)
    go (rows.asks_next atn msg cd io y h b un z follows e) =
        subst As (sym e) (next_crosses s p row.time n atn msg cd io y h un z follows (v _ h b))
    go (rows.leaves atn msg cd io x y h b known un zero follows e) =
        let f : EndLines = ends false false atn x msg cd io false y in
        let u : Serving = serving_at s (run_state s p) n.target (phase_of (connected_bus f)) in
        let l : Leaving = phase_leaving u atn (phase_of (connected_bus f)) in
        subst (λ (r : Row). Linked (r ∷ p) n g → As r) (sym e)
        (λ linked w. left_crosses s p row.time n f (lines_by u io l l.to) g h (left_req u io l l.to) linked w) a
    go (rows.ends_req_pulse io ack atn x y h b un z e) = subst As (sym e) (λ w. unrisen p _ n _ _ h
        (target_moves p n (ends false ack atn x false false io true y) false false io false y row.time h).linked w.rose
        refl)
    go (rows.changes_pulsed ack atn y z h b un pulsed e) = subst As (sym e) (λ w. unrisen p _ n _ _ h
        (target_moves p n (ends false ack atn 0 false false true false y) false false true false z row.time h).linked
        w.rose refl)
    go (rows.asks_pulse io ack atn x y h b un z zero byte e) =
        subst As (sym e) (pulse_crosses s p row.time n io ack atn x y h zero byte)
