-- Byte by byte the measure falls with each row with which REQ or ACK rises.
use Rattle.measure_laws.proofs
use proofs.Names.{ℕ, suc, ◌≡◌, ◌≤◌, ◌∙◌, Bool, true, false, List, ◌∷◌, length, refl, sym, ap, subst, arith, ◌&&◌, ◌+◌}
use proofs.Names.{◌-◌, ◌*◌, ◌==◌, not, and_false, LineSet, Row, Connection, Handshakes, answered, handshakes}
use proofs.Names.{ScenarioValue, policy_of, bytes_of_messages, phase_of, run_length_if, run_state_plain, target_def_of}
use proofs.Names.{AreOfDevices, bus_of, run_state, answering_of, offering_of, task_of, is_refusing, EndLines, Linked}
use proofs.Names.{initiator_side, row_of_lines, count_stays, initiator_in_phase, initiator_row, Shaking, ends}
use proofs.Names.{run_count, data_row, turn, measure, is_asked, requests_by, requests_left, words_left}
use proofs.{Lines.Shifts.{Shifts, shift_falls}, Phases.{Bytes.{quiet_other, shift_initiator}, Shakes.{answers, sends}}}
use proofs.Phases.Stays.{messages_stay, phases_stay}

-- ---- how many requests are left

-- To the initiator.
abbrev pub in_left : (msg cd : Bool) → (requests bytes run : ℕ) → ℕ
in_left true cd requests bytes run = bytes - requests
in_left false true requests bytes run = 1 - requests
in_left false false requests bytes run = run - requests

pub requests_in : (s : ScenarioValue) (p : List Row) (n : Connection) (bsy ack atn msg cd req : Bool) (x y : ℕ)
    → AreOfDevices p → Linked p n (ends bsy ack atn x msg cd true req y)
    → requests_left s (run_state s p) n.target ≡ in_left msg cd (handshakes p).requests
    (length (bytes_of_messages (run_state s p).exchange.plan.messages)) (run_count s p n)
requests_in s p n bsy ack atn true cd req x y dv h =
    let k = run_state s p in
    let a = run_state_plain s p dv in
    λ i. requests_by k.exchange.plan.struck (is_asked (bus_of k))
    (a.handshakes i) k.exchange.speech (length (bytes_of_messages k.exchange.plan.messages))
    (run_length_if (policy_of (target_def_of s n.target)) (task_of s k)) (phase_of ((a.bus ∙ h.stands.bus_is) i))
requests_in s p n bsy ack atn false true req x y dv h =
    let k = run_state s p in
    let a = run_state_plain s p dv in
    λ i. requests_by k.exchange.plan.struck (is_asked (bus_of k))
    (a.handshakes i) k.exchange.speech (length (bytes_of_messages k.exchange.plan.messages))
    (run_length_if (policy_of (target_def_of s n.target)) (task_of s k)) (phase_of ((a.bus ∙ h.stands.bus_is) i))
requests_in s p n bsy ack atn false false req x y dv h =
    let k = run_state s p in
    let a = run_state_plain s p dv in
    λ i. requests_by k.exchange.plan.struck (is_asked (bus_of k))
    (a.handshakes i) k.exchange.speech (length (bytes_of_messages k.exchange.plan.messages))
    (run_length_if (policy_of (target_def_of s n.target)) (task_of s k)) (phase_of ((a.bus ∙ h.stands.bus_is) i))

-- To the target, in COMMAND and in DATA OUT; and in MESSAGE OUT.
abbrev pub out_left : (cd : Bool) → (requests run : ℕ) → ℕ
out_left true requests run = 12 - requests
out_left false requests run = run - requests

pub requests_out : (s : ScenarioValue) (p : List Row) (n : Connection) (bsy ack atn cd req : Bool) (x y : ℕ)
    → AreOfDevices p → Linked p n (ends bsy ack atn x false cd false req y)
    → requests_left s (run_state s p) n.target ≡ out_left cd (handshakes p).requests (run_count s p n)
requests_out s p n bsy ack atn true req x y dv h =
    let k = run_state s p in
    let a = run_state_plain s p dv in
    λ i. requests_by k.exchange.plan.struck (is_asked (bus_of k))
    (a.handshakes i) k.exchange.speech (length (bytes_of_messages k.exchange.plan.messages))
    (run_length_if (policy_of (target_def_of s n.target)) (task_of s k)) (phase_of ((a.bus ∙ h.stands.bus_is) i))
requests_out s p n bsy ack atn false req x y dv h =
    let k = run_state s p in
    let a = run_state_plain s p dv in
    λ i. requests_by k.exchange.plan.struck (is_asked (bus_of k))
    (a.handshakes i) k.exchange.speech (length (bytes_of_messages k.exchange.plan.messages))
    (run_length_if (policy_of (target_def_of s n.target)) (task_of s k)) (phase_of ((a.bus ∙ h.stands.bus_is) i))

pub requests_said : (s : ScenarioValue) (p : List Row) (n : Connection) (bsy ack atn cd req : Bool) (x y : ℕ)
    → AreOfDevices p → Linked p n (ends bsy ack atn x true cd false req y) → requests_left s (run_state s p) n.target
    ≡ words_left (run_state s p).exchange.plan.struck (req && not ack) (handshakes p) (run_state s p).exchange.speech
requests_said s p n bsy ack atn cd req x y dv h =
    let k = run_state s p in
    let a = run_state_plain s p dv in
    λ i. requests_by k.exchange.plan.struck (is_asked ((a.bus ∙ h.stands.bus_is) i))
    (a.handshakes i) k.exchange.speech (length (bytes_of_messages k.exchange.plan.messages))
    (run_length_if (policy_of (target_def_of s n.target)) (task_of s k)) (phase_of ((a.bus ∙ h.stands.bus_is) i))

-- After a row they are as many by the requests alone.
pub in_next : (s : ScenarioValue) (p : List Row) (t d : ℕ) (l o : LineSet) (n : Connection)
    (bsy ack atn msg cd req bsy' ack' atn' req' : Bool) (x y x' y' : ℕ) (u : Bool) (h' : Handshakes)
    → Shifts s p t d l n (ends bsy ack atn x msg cd true req y) (ends bsy' ack' atn' x' msg cd true req' y') o u
    → handshakes (row_of_lines t d l ∷ p) ≡ h' → requests_left s (run_state s (row_of_lines t d l ∷ p)) n.target
    ≡ in_left msg cd h'.requests (length (bytes_of_messages (run_state s p).exchange.plan.messages)) (run_count s p n)
in_next s p t d l o n bsy ack atn true cd req bsy' ack' atn' req' x y x' y' u h' c hand =
    let e : EndLines = ends bsy ack atn x true cd true req y in
    let f : EndLines = ends bsy' ack' atn' x' true cd true req' y' in
    let same = messages_stay s p t d l n e f o u c in
    requests_in s (row_of_lines t d l ∷ p) n bsy' ack' atn' true cd req' x' y'
    (c.row.below, c.row.devices) c.row.moves.linked ∙ (λ i. length (bytes_of_messages (same i)) - (hand i).requests)
in_next s p t d l o n bsy ack atn false true req bsy' ack' atn' req' x y x' y' u h' c hand = requests_in s
    (row_of_lines t d l ∷ p) n bsy' ack' atn' false true req' x' y' (c.row.below, c.row.devices) c.row.moves.linked
    ∙ (λ i. 1 - (hand i).requests)
in_next s p t d l o n bsy ack atn false false req bsy' ack' atn' req' x y x' y' u h' c hand =
    let e : EndLines = ends bsy ack atn x false false true req y in
    let f : EndLines = ends bsy' ack' atn' x' false false true req' y' in
    let count = count_stays s p (row_of_lines t d l) n (turn e f o l) (data_row s p t d l n e f o c.row c.phase refl) in
    requests_in s (row_of_lines t d l ∷ p) n bsy' ack' atn' false false req' x' y'
    (c.row.below, c.row.devices) c.row.moves.linked ∙ (λ i. count i - (hand i).requests)

pub out_next : (s : ScenarioValue) (p : List Row) (t d : ℕ) (l o : LineSet) (n : Connection)
    (bsy ack atn cd req bsy' ack' atn' req' : Bool) (x y x' y' : ℕ) (u : Bool) (h' : Handshakes)
    → Shifts s p t d l n (ends bsy ack atn x false cd false req y) (ends bsy' ack' atn' x' false cd false req' y') o u
    → handshakes (row_of_lines t d l ∷ p) ≡ h'
    → requests_left s (run_state s (row_of_lines t d l ∷ p)) n.target ≡ out_left cd h'.requests (run_count s p n)
out_next s p t d l o n bsy ack atn true req bsy' ack' atn' req' x y x' y' u h' c hand = requests_out s
    (row_of_lines t d l ∷ p) n bsy' ack' atn' true req' x' y' (c.row.below, c.row.devices) c.row.moves.linked
    ∙ (λ i. 12 - (hand i).requests)
out_next s p t d l o n bsy ack atn false req bsy' ack' atn' req' x y x' y' u h' c hand =
    let e : EndLines = ends bsy ack atn x false false false req y in
    let f : EndLines = ends bsy' ack' atn' x' false false false req' y' in
    let count = count_stays s p (row_of_lines t d l) n (turn e f o l) (data_row s p t d l n e f o c.row c.phase refl) in
    requests_out s (row_of_lines t d l ∷ p) n bsy' ack' atn' false req' x' y'
    (c.row.below, c.row.devices) c.row.moves.linked ∙ (λ i. count i - (hand i).requests)

-- ---- a row falls

one_sum : (r m w v : ℕ) → r ≤ m → suc w ≤ v → suc (8 * r + w) ≤ 8 * m + v
one_sum r m w v a b = omega (arith, a, b)

pub eight_sum : (r m w v : ℕ) → suc r ≤ m → suc w ≤ 8 + v → suc (8 * r + w) ≤ 8 * m + v
eight_sum r m w v a b = omega (arith, a, b)

-- ACK rises: to the initiator, where this shows no event; and to the target.
pub shaking_answers : (s : ScenarioValue) (p : List Row) (t : ℕ) (n : Connection) (atn to msg cd : Bool) (y : ℕ)
    → AreOfDevices p → Shaking p n msg cd true true false atn 0 y → Shifts s p t n.initiator
    (initiator_side (ends false true to 0 msg cd true true y)) n (ends false false atn 0 msg cd true true y)
    (ends false true to 0 msg cd true true y) (initiator_side (ends false false atn 0 msg cd true true y)) false
    → suc (measure s (initiator_row t n (ends false true to 0 msg cd true true y) ∷ p)) ≤ measure s p
shaking_answers s p t n atn to msg cd y dv h c =
    let e : EndLines = ends false false atn 0 msg cd true true y in
    let f : EndLines = ends false true to 0 msg cd true true y in
    let q : List Row = row_of_lines t n.initiator (initiator_side f) ∷ p in
    let j = run_state s q in
    let k = run_state s p in
    let hand : handshakes q ≡ answered t (handshakes p) =
    (initiator_in_phase p n e false true to 0 t h.linked).handshakes_are in
    let still : ((handshakes q).requests == 0) ≡ false = ap (λ (x : Handshakes). x.requests == 0) hand ∙ h.asked in
    let same : requests_left s j n.target ≡ requests_left s k n.target = in_next s p t n.initiator _ _
    n false false atn msg cd true false true to true 0 y 0 y false (answered t (handshakes p)) c hand
    ∙ sym (requests_in s p n false false atn msg cd true 0 y dv h.linked) in
    let less = answers atn to msg cd y (handshakes p) (handshakes q) (offering_of s k n.target)
    (offering_of s j n.target) (answering_of s k n.initiator) (answering_of s j n.initiator) h.asked still in
    shift_falls s p t n.initiator (initiator_side f) n e f (initiator_side e) false c
    (phases_stay s p t n.initiator (initiator_side f) n e f (initiator_side e) false c (is_refusing s p))
    (one_sum _ _ _ _ (subst (λ r. r ≤ requests_left s k n.target) (sym same) (omega arith)) less)

-- In STATUS and DATA IN it shows none.
pub shaking_answers_data : (s : ScenarioValue) (p : List Row) (t : ℕ) (n : Connection) (atn to cd : Bool) (y : ℕ)
    → AreOfDevices p → Shaking p n false cd true true false atn 0 y
    → suc (measure s (initiator_row t n (ends false true to 0 false cd true true y) ∷ p)) ≤ measure s p
shaking_answers_data s p t n atn to cd y dv h =
    let e : EndLines = ends false false atn 0 false cd true true y in
    let f : EndLines = ends false true to 0 false cd true true y in
    shaking_answers s p t n atn to false cd y dv h (shift_initiator s p t n e false true to 0 false dv h.linked
    h.phase.begun_is h.unpulsed (quiet_other e f (initiator_side e) (initiator_side f) refl))

-- A byte crosses to the target.
pub shaking_sends_by : (s : ScenarioValue) (p : List Row) (t : ℕ) (n : Connection) (atn msg cd : Bool) (x : ℕ)
    → AreOfDevices p → Shaking p n msg cd false true false atn x 0 → (x == 0) ≡ false
    → requests_left s (run_state s (initiator_row t n (ends false true atn x msg cd false true 0) ∷ p)) n.target
    ≤ requests_left s (run_state s p) n.target
    → suc (measure s (initiator_row t n (ends false true atn x msg cd false true 0) ∷ p)) ≤ measure s p
shaking_sends_by s p t n atn msg cd x dv h some left =
    let e : EndLines = ends false false atn x msg cd false true 0 in
    let f : EndLines = ends false true atn x msg cd false true 0 in
    let q : List Row = row_of_lines t n.initiator (initiator_side f) ∷ p in
    let j = run_state s q in
    let k = run_state s p in
    let c = shift_initiator s p t n e false true atn x false dv h.linked h.phase.begun_is h.unpulsed
    (quiet_other e f (initiator_side e) (initiator_side f) (and_false (msg && cd))) in
    let hand : handshakes q ≡ answered t (handshakes p) =
    (initiator_in_phase p n e false true atn x t h.linked).handshakes_are in
    let same : ((handshakes p).requests == 0) ≡ ((handshakes q).requests == 0) = ap
    (λ (z : Handshakes). z.requests == 0) (sym hand) in
    let less = sends atn msg cd x (handshakes p) (handshakes q) (offering_of s k n.target)
    (offering_of s j n.target) (answering_of s k n.initiator) (answering_of s j n.initiator) same some in
    shift_falls s p t n.initiator (initiator_side f) n e f (initiator_side e) false c
    (phases_stay s p t n.initiator (initiator_side f) n e f (initiator_side e) false c (is_refusing s p))
    (one_sum _ _ _ _ left less)

-- Of COMMAND or of DATA OUT.
pub shaking_sends_data : (s : ScenarioValue) (p : List Row) (t : ℕ) (n : Connection) (atn cd : Bool) (x : ℕ)
    → AreOfDevices p → Shaking p n false cd false true false atn x 0 → (x == 0) ≡ false
    → suc (measure s (initiator_row t n (ends false true atn x false cd false true 0) ∷ p)) ≤ measure s p
shaking_sends_data s p t n atn cd x dv h some =
    let e : EndLines = ends false false atn x false cd false true 0 in
    let f : EndLines = ends false true atn x false cd false true 0 in
    let k = run_state s p in
    let c = shift_initiator s p t n e false true atn x false dv h.linked h.phase.begun_is h.unpulsed
    (quiet_other e f (initiator_side e) (initiator_side f) refl) in
    let hand : handshakes (row_of_lines t n.initiator (initiator_side f) ∷ p) ≡ answered t (handshakes p) =
    (initiator_in_phase p n e false true atn x t h.linked).handshakes_are in
    let same = out_next s p t n.initiator _ _ n false false atn cd true false true atn true x 0 x 0 false
    (answered t (handshakes p)) c hand ∙ sym (requests_out s p n false false atn cd true x 0 dv h.linked) in
    shaking_sends_by s p t n atn false cd x dv h some
    (subst (λ r. r ≤ requests_left s k n.target) (sym same) (omega arith))
