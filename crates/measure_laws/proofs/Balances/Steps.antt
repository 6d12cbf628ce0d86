-- Byte by byte no more requests are answered than rose, and at most one waits: while REQ is true and ACK false.
use Rattle.measure_laws.proofs
use proofs.Names.{ℕ, ◌≡◌, ◌≤◌, ◌<◌, Bool, true, false, List, ◌∷◌, refl, sym, subst, arith, ◌&&◌, ◌+◌, ◌^◌, not, rises}
use proofs.Names.{LineSet, bus, drives, Row, Connection, Handshakes, answered_if, asked_if, handshakes, no_handshakes}
use proofs.Names.{newest_struck_if, fault_change, EndLines, Linked, connected_bus, change_to, row_of_fault}
use proofs.Names.{initiator_in_phase, initiator_moves, target_in_phase, target_moves, terms_after, initiator_row}
use proofs.Names.{target_row, linked_fault, ends, one_where}

pub record IsBalanced (h : Handshakes) (req ack : Bool) : Type 0 where
  pub few : h.requests ≤ h.answers + one_where (req && not ack)
  pub bounded : h.requests < 2 ^ 64

pub none_balanced : (req ack : Bool) → IsBalanced no_handshakes req ack
none_balanced req ack = record { few = omega arith; bounded = omega arith }

-- The changes of REQ and ACK, one by one (6.1.5.1).
pub data Step : (req ack req' ack' : Bool) → Type 0 where
  stays : (req ack : Bool) → Step req ack req ack
  rises_req : Step false false true false
  rises_ack : Step true false true true
  ends_req : Step true true false true
  ends_ack : Step false true false false

pub balanced_by : (h : Handshakes) (t : ℕ) (req ack req' ack' : Bool) → Step req ack req' ack' → IsBalanced h req ack
    → IsBalanced (answered_if (rises ack ack') t (asked_if (rises req req') t h)) req' ack'
balanced_by h t true true true true (stays true true) b = b
balanced_by h t true false true false (stays true false) b = b
balanced_by h t false true false true (stays false true) b = b
balanced_by h t false false false false (stays false false) b = b
balanced_by h t false false true false rises_req b =
    let f = b.few in
    let w = b.bounded in
    record { few = omega (arith, f, w); bounded = omega (arith, f, w) }
balanced_by h t true false true true rises_ack b =
    let f = b.few in
    let w = b.bounded in
    record { few = omega (arith, f, w); bounded = omega (arith, f, w) }
balanced_by h t true true false true ends_req b = record { few = b.few; bounded = b.bounded }
balanced_by h t false true false false ends_ack b = record { few = b.few; bounded = b.bounded }
balanced_by h t false false false true x8 b = elim x8 [ ]
balanced_by h t false false true true x8 b = elim x8 [ ]
balanced_by h t false true true _ x6 b = elim x6 [ ]
balanced_by h t true false false _ x5 b = elim x5 [ ]
balanced_by h t true true false false x7 b = elim x7 [ ]
balanced_by h t true true true false x8 b = elim x8 [ ]

-- After some rows, by the lines.
abbrev pub BalancedAt : List Row → Type 0
BalancedAt p = IsBalanced (handshakes p) (bus p).req (bus p).ack

balanced_at : (p : List Row) (e : EndLines) (h : Handshakes) → bus p ≡ connected_bus e → handshakes p ≡ h
    → IsBalanced h e.req e.ack → BalancedAt p
balanced_at p e h on hand b = subst (λ (x : LineSet). IsBalanced (handshakes p) x.req x.ack) (sym on)
    (subst (λ (x : Handshakes). IsBalanced x e.req e.ack) (sym hand) b)

balanced_here : (p : List Row) (e : EndLines) → bus p ≡ connected_bus e → BalancedAt p
    → IsBalanced (handshakes p) e.req e.ack
balanced_here p e on b = subst (λ (x : LineSet). IsBalanced (handshakes p) x.req x.ack) on b

pub balanced_initiator : (p : List Row) (t : ℕ) (n : Connection) (e : EndLines) (bsy ack atn : Bool) (x : ℕ)
    → Linked p n e → Step e.req e.ack e.req ack → BalancedAt p
    → BalancedAt (initiator_row t n (ends bsy ack atn x e.msg e.cd e.io e.req e.given) ∷ p)
balanced_initiator p t n e bsy ack atn x h step b =
    let f : EndLines = ends bsy ack atn x e.msg e.cd e.io e.req e.given in
    balanced_at (initiator_row t n f ∷ p) f _ (initiator_moves p n e bsy ack atn x t h).linked.stands.bus_is
    (initiator_in_phase p n e bsy ack atn x t h).handshakes_are
    (balanced_by (handshakes p) t e.req e.ack e.req ack step (balanced_here p e h.stands.bus_is b))

pub balanced_target : (p : List Row) (t : ℕ) (n : Connection) (e : EndLines) (req : Bool) (y : ℕ)
    → Linked p n e → Step e.req e.ack req e.ack → BalancedAt p
    → BalancedAt (target_row t n (ends e.bsy e.ack e.atn e.sent e.msg e.cd e.io req y) ∷ p)
balanced_target p t n e req y h step b =
    let f : EndLines = ends e.bsy e.ack e.atn e.sent e.msg e.cd e.io req y in
    balanced_at (target_row t n f ∷ p) f _ (target_moves p n e e.msg e.cd e.io req y t h).linked.stands.bus_is
    (target_in_phase p n e req y t h).handshakes_are
    (balanced_by (handshakes p) t e.req e.ack req e.ack step (balanced_here p e h.stands.bus_is b))

-- ---- a fault row, and a row with which the phase is left

pub balanced_struck : (p : List Row) (t d bit : ℕ) (n : Connection) (e : EndLines) → Linked p n e → BalancedAt p
    → BalancedAt (row_of_fault t d bit ∷ p)
balanced_struck p t d bit n e h b =
    let z = terms_after p (row_of_fault t d bit) n
    (change_to (connected_bus e) (connected_bus e) (drives p d) (drives p d))
    (fault_change p t d bit (connected_bus e) (drives p d) h.stands.bus_is refl) h.stands.connection_is
    (linked_fault p n e t d bit h).stands.connection_is in
    balanced_at (row_of_fault t d bit ∷ p) e _ (linked_fault p n e t d bit h).stands.bus_is z.handshakes_are
    (by e.io (balanced_here p e h.stands.bus_is b))
  where
    by : (io : Bool) → IsBalanced (handshakes p) e.req e.ack
        → IsBalanced (newest_struck_if io (handshakes p)) e.req e.ack
    by true b = record { few = b.few; bounded = b.bounded }
    by false b = b

pub balanced_anew : (q : List Row) → handshakes q ≡ no_handshakes → BalancedAt q
balanced_anew q e =
    subst (λ (x : Handshakes). IsBalanced x (bus q).req (bus q).ack) (sym e) (none_balanced (bus q).req (bus q).ack)
