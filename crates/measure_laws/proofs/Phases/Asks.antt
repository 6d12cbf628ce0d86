-- The measure falls as REQ rises, first in the phase or again byte by byte, where fewer requests are left after it.
use Rattle.measure_laws.proofs
use proofs.Names.{ℕ, suc, ◌≡◌, ◌≤◌, ◌<◌, ◌∙◌, Bool, true, false, List, ◌∷◌, length, refl, sym, ap, subst, arith, ◌+◌}
use proofs.Names.{◌-◌, ◌^◌, counted_on, Row, Connection, asked, handshakes, no_handshakes, ScenarioValue, Answering}
use proofs.Names.{Offering, bytes_of_messages, begun, AreOfDevices, run_state, answering_of, offering_of, is_refusing}
use proofs.Names.{EndLines, Linked, connected_bus, target_side, target_in_phase, target_row, Offered, Settling, Shaking}
use proofs.{Names.{ends, run_count, is_pulsed, measure, has_next_byte, requests_left}, Lines.Shifts.{shift_falls}}
use proofs.Phases.{Bytes.{shift_target}, Calm.{way_by}, Pulses.{count_falls, one_at_most}, Rows.{eight_sum, in_left}}
use proofs.Phases.{Rows.{in_next, out_left, out_next, requests_in, requests_out}, Shakes.{asks}, Stays.{phases_stay}}

-- The first request of a phase, by pulses or not.
first_way : (u bsy atn msg cd io : Bool) (y t : ℕ) (g f : Offering) (a b : Answering)
    → suc (way_by u (ends bsy false atn 0 msg cd io true y) (asked t no_handshakes) f b)
    ≤ 8 + way_by u (ends bsy false atn 0 msg cd io false y) no_handshakes g a
first_way false bsy atn msg cd io y t g f a b = asks bsy atn msg cd io y no_handshakes (asked t no_handshakes) g f a b
first_way true bsy atn msg cd io y t g f a b =
    let e : EndLines = ends bsy false atn 0 msg cd io true y in
    let next = one_at_most (has_next_byte true (connected_bus e) (asked t no_handshakes) (target_side e) f) in
    omega (arith, next)

asks_by : (s : ScenarioValue) (p : List Row) (t : ℕ) (n : Connection) (bsy atn msg cd io : Bool) (y : ℕ) (u : Bool)
    → AreOfDevices p → Linked p n (ends bsy false atn 0 msg cd io false y) → begun p ≡ true
    → is_pulsed p (ends bsy false atn 0 msg cd io false y) ≡ u → suc (way_by u
    (ends bsy false atn 0 msg cd io true y) (handshakes (target_row t n (ends bsy false atn 0 msg cd io true y) ∷ p))
    (offering_of s (run_state s (target_row t n (ends bsy false atn 0 msg cd io true y) ∷ p)) n.target)
    (answering_of s (run_state s (target_row t n (ends bsy false atn 0 msg cd io true y) ∷ p)) n.initiator))
    ≤ 8 + way_by u (ends bsy false atn 0 msg cd io false y) (handshakes p)
    (offering_of s (run_state s p) n.target) (answering_of s (run_state s p) n.initiator)
    → suc (requests_left s (run_state s (target_row t n (ends bsy false atn 0 msg cd io true y) ∷ p)) n.target)
    ≤ requests_left s (run_state s p) n.target
    → suc (measure s (target_row t n (ends bsy false atn 0 msg cd io true y) ∷ p)) ≤ measure s p
asks_by s p t n bsy atn msg cd io y u dv h b z way left =
    let e : EndLines = ends bsy false atn 0 msg cd io false y in
    let f : EndLines = ends bsy false atn 0 msg cd io true y in
    let c = shift_target s p t n e true y u dv h b z in
    shift_falls s p t n.target (target_side f) n e f (target_side e) u c
    (phases_stay s p t n.target (target_side f) n e f (target_side e) u c (is_refusing s p))
    (eight_sum _ _ _ _ left way)

pub asked_hand : (p : List Row) (t : ℕ) (n : Connection) (bsy atn msg cd io : Bool) (y : ℕ)
    → Linked p n (ends bsy false atn 0 msg cd io false y)
    → handshakes (target_row t n (ends bsy false atn 0 msg cd io true y) ∷ p) ≡ asked t (handshakes p)
asked_hand p t n bsy atn msg cd io y h =
    (target_in_phase p n (ends bsy false atn 0 msg cd io false y) true y t h).handshakes_are

-- ---- the kinds, where fewer requests are left

pub settled_asks_by : (s : ScenarioValue) (p : List Row) (t : ℕ) (n : Connection) (bsy atn msg cd io : Bool) (y : ℕ)
    → AreOfDevices p → Settling p n bsy atn msg cd io y
    → suc (requests_left s (run_state s (target_row t n (ends bsy false atn 0 msg cd io true y) ∷ p)) n.target)
    ≤ requests_left s (run_state s p) n.target
    → suc (measure s (target_row t n (ends bsy false atn 0 msg cd io true y) ∷ p)) ≤ measure s p
settled_asks_by s p t n bsy atn msg cd io y dv h left =
    let e : EndLines = ends bsy false atn 0 msg cd io false y in
    let f : EndLines = ends bsy false atn 0 msg cd io true y in
    let q : List Row = target_row t n f ∷ p in
    let u = is_pulsed p e in
    let hand = asked_hand p t n bsy atn msg cd io y h.linked ∙ ap (asked t) h.quiet in
    asks_by s p t n bsy atn msg cd io y u dv h.linked h.phase.begun_is refl (subst
    (λ x. suc (way_by u f x (offering_of s (run_state s q) n.target) (answering_of s (run_state s q) n.initiator)) ≤ 8
    + way_by u e (handshakes p) (offering_of s (run_state s p) n.target) (answering_of s (run_state s p) n.initiator))
    (sym hand) (subst (λ x. suc (way_by u f (asked t no_handshakes)
    (offering_of s (run_state s q) n.target) (answering_of s (run_state s q) n.initiator))
    ≤ 8 + way_by u e x (offering_of s (run_state s p) n.target) (answering_of s (run_state s p) n.initiator))
    (sym h.quiet)
    (first_way u bsy atn msg cd io y t (offering_of s (run_state s p) n.target) (offering_of s (run_state s q) n.target)
    (answering_of s (run_state s p) n.initiator) (answering_of s (run_state s q) n.initiator)))) left

pub offered_asks_by : (s : ScenarioValue) (p : List Row) (t : ℕ) (n : Connection) (atn msg cd : Bool) (y : ℕ)
    → AreOfDevices p → Offered p n atn msg cd y
    → suc (requests_left s (run_state s (target_row t n (ends false false atn 0 msg cd true true y) ∷ p)) n.target)
    ≤ requests_left s (run_state s p) n.target
    → suc (measure s (target_row t n (ends false false atn 0 msg cd true true y) ∷ p)) ≤ measure s p
offered_asks_by s p t n atn msg cd y dv h left =
    let e : EndLines = ends false false atn 0 msg cd true false y in
    let f : EndLines = ends false false atn 0 msg cd true true y in
    let q : List Row = target_row t n f ∷ p in
    let u = is_pulsed p e in
    let hand = asked_hand p t n false atn msg cd true y h.linked ∙ ap (asked t) h.quiet in
    asks_by s p t n false atn msg cd true y u dv h.linked h.phase.begun_is refl (subst
    (λ x. suc (way_by u f x (offering_of s (run_state s q) n.target) (answering_of s (run_state s q) n.initiator)) ≤ 8
    + way_by u e (handshakes p) (offering_of s (run_state s p) n.target) (answering_of s (run_state s p) n.initiator))
    (sym hand) (subst (λ x. suc (way_by u f (asked t no_handshakes)
    (offering_of s (run_state s q) n.target) (answering_of s (run_state s q) n.initiator))
    ≤ 8 + way_by u e x (offering_of s (run_state s p) n.target) (answering_of s (run_state s p) n.initiator))
    (sym h.quiet) (first_way u false atn msg cd true y t (offering_of s (run_state s p) n.target)
    (offering_of s (run_state s q) n.target) (answering_of s (run_state s p) n.initiator)
    (answering_of s (run_state s q) n.initiator)))) left

pub shaking_asks_by : (s : ScenarioValue) (p : List Row) (t : ℕ) (n : Connection) (atn msg cd io : Bool) (y : ℕ)
    → AreOfDevices p → Shaking p n msg cd io false false atn 0 y
    → suc (requests_left s (run_state s (target_row t n (ends false false atn 0 msg cd io true y) ∷ p)) n.target)
    ≤ requests_left s (run_state s p) n.target
    → suc (measure s (target_row t n (ends false false atn 0 msg cd io true y) ∷ p)) ≤ measure s p
shaking_asks_by s p t n atn msg cd io y dv h left =
    let q : List Row = target_row t n (ends false false atn 0 msg cd io true y) ∷ p in
    asks_by s p t n false atn msg cd io y false dv h.linked h.phase.begun_is h.unpulsed (asks false atn msg cd io y
    (handshakes p) (handshakes q) (offering_of s (run_state s p) n.target) (offering_of s (run_state s q) n.target)
    (answering_of s (run_state s p) n.initiator) (answering_of s (run_state s q) n.initiator)) left

-- ---- fewer are left

-- What is asked for is of the phase: to the initiator a byte of the messages, the status, or a byte of the run.
abbrev pub HasRoomIn : (msg cd : Bool) → (requests bytes run : ℕ) → Type 0
HasRoomIn true cd requests bytes run = (requests < bytes) × (bytes ≤ 2 ^ 43)
HasRoomIn false true requests bytes run = requests ≡ 0
HasRoomIn false false requests bytes run = (requests < run) × (run ≤ 2 ^ 43)

in_falls : (msg cd : Bool) (r bytes run : ℕ) → HasRoomIn msg cd r bytes run
    → suc (in_left msg cd (counted_on r) bytes run) ≤ in_left msg cd r bytes run
in_falls true cd r bytes run (less, few) = count_falls r bytes less few
in_falls false true r bytes run e = subst (λ (x : ℕ). suc (1 - counted_on x) ≤ 1 - x) (sym e) (omega arith)
in_falls false false r bytes run (less, few) = count_falls r run less few

pub room_in : (s : ScenarioValue) (p : List Row) (t : ℕ) (n : Connection) (bsy atn msg cd : Bool) (y : ℕ) (u : Bool)
    → AreOfDevices p → Linked p n (ends bsy false atn 0 msg cd true false y) → begun p ≡ true
    → is_pulsed p (ends bsy false atn 0 msg cd true false y) ≡ u → HasRoomIn msg cd (handshakes p).requests
    (length (bytes_of_messages (run_state s p).exchange.plan.messages)) (run_count s p n)
    → suc (requests_left s (run_state s (target_row t n (ends bsy false atn 0 msg cd true true y) ∷ p)) n.target)
    ≤ requests_left s (run_state s p) n.target
room_in s p t n bsy atn msg cd y u dv h b z room =
    let e : EndLines = ends bsy false atn 0 msg cd true false y in
    let c = shift_target s p t n e true y u dv h b z in
    let is = in_next s p t n.target _ _ n bsy false atn msg cd false bsy false atn true 0 y 0 y u
    (asked t (handshakes p)) c (asked_hand p t n bsy atn msg cd true y h) in
    let was = requests_in s p n bsy false atn msg cd false 0 y dv h in
    let bytes = length (bytes_of_messages (run_state s p).exchange.plan.messages) in
    subst (λ v. suc v ≤ requests_left s (run_state s p) n.target) (sym is)
    (subst (λ v. suc (in_left msg cd (counted_on (handshakes p).requests) bytes (run_count s p n)) ≤ v) (sym was)
    (in_falls msg cd (handshakes p).requests bytes (run_count s p n) room))

-- To the target, a byte of the command or of the run.
abbrev pub HasRoomOut : (cd : Bool) → (requests run : ℕ) → Type 0
HasRoomOut true requests run = requests < 12
HasRoomOut false requests run = (requests < run) × (run ≤ 2 ^ 43)

out_falls : (cd : Bool) (r run : ℕ) → HasRoomOut cd r run → suc (out_left cd (counted_on r) run) ≤ out_left cd r run
out_falls true r run less = count_falls r 12 less (omega arith)
out_falls false r run (less, few) = count_falls r run less few

pub room_out : (s : ScenarioValue) (p : List Row) (t : ℕ) (n : Connection) (bsy atn cd : Bool) (y : ℕ) (u : Bool)
    → AreOfDevices p → Linked p n (ends bsy false atn 0 false cd false false y)
    → begun p ≡ true → is_pulsed p (ends bsy false atn 0 false cd false false y) ≡ u
    → HasRoomOut cd (handshakes p).requests (run_count s p n)
    → suc (requests_left s (run_state s (target_row t n (ends bsy false atn 0 false cd false true y) ∷ p)) n.target)
    ≤ requests_left s (run_state s p) n.target
room_out s p t n bsy atn cd y u dv h b z room =
    let e : EndLines = ends bsy false atn 0 false cd false false y in
    let c = shift_target s p t n e true y u dv h b z in
    let is = out_next s p t n.target _ _ n bsy false atn cd false bsy false atn true 0 y 0 y u
    (asked t (handshakes p)) c (asked_hand p t n bsy atn false cd false y h) in
    let was = requests_out s p n bsy false atn cd false 0 y dv h in
    subst (λ v. suc v ≤ requests_left s (run_state s p) n.target) (sym is)
    (subst (λ v. suc (out_left cd (counted_on (handshakes p).requests) (run_count s p n)) ≤ v) (sym was)
    (out_falls cd (handshakes p).requests (run_count s p n) room))
