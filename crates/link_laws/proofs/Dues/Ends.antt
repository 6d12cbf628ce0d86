-- What is due of the two ends of a connection, and of no third device.
use Rattle.link_laws.proofs
use proofs.Names.{inl, inr, ℕ, ◌≡◌, ◌≢◌, ◌≤◌, ◌<◌, Bool, true, false, ◌==◌, ◌∙◌, List, [], ◌∷◌, Option, Some, None}
use proofs.Names.{refl, sym, ap, arith, cases_eq, ne_eqb, same_Some, none-some, if◌then◌else◌, is_some, eq_self}
use proofs.Names.{change_of, LineSet, call, connection, connection_after, receiver, receiver_in, receiver_of, drives}
use proofs.Names.{last_time, line_times, Fault, Row, Change, Connection, Call, handshakes, stage, InConnection}
use proofs.Names.{dialogue, is_of_device, ScenarioValue, latency_of, target_due, initiator_due, sample_due, Due, Myself}
use proofs.Names.{Answering, Offering, Pace, Sight, pace_by, offering_by, answering_by, is_pulsed_phase, begun}
use proofs.Names.{phase_of, some_eq, run_state_plain, is_receiver, end_due, initiator_end_due, target_end_due, host_of}
use proofs.Names.{self_of, stage_due, IsLeast, Own, own_of, AreOfDevices, crossed, crossed_if, bus_of, run_state}
use proofs.Names.{sight_of, flip_of, serving_at, sending_of, stage_is, is_there, EndLines, initiator_side, target_side}
use proofs.Names.{connected_bus, Linked, own_time, device_with, unreset_due, unreset_due_if, row_of_fault}

-- ---- what the ends go by

abbrev pub sight_with : List Row → Connection → EndLines → Sight
sight_with p n e = record { bus = connected_bus e; ages = line_times p; stage = InConnection n }

abbrev pub pace_with : ScenarioValue → List Row → Bool → EndLines → ℕ → Pace
pace_with s p g e dev = pace_by g (connected_bus e) (dialogue p).heard.now.agreement (host_of s dev)

abbrev pub offering_with : ScenarioValue → List Row → Connection → Bool → EndLines → Offering
offering_with s p n g e = offering_by (serving_at s (run_state s p) n.target (phase_of (connected_bus e))) g
    (is_pulsed_phase g (connected_bus e) (dialogue p).heard.now.agreement) (connected_bus e) (handshakes p)

abbrev pub answering_with : ScenarioValue → List Row → Connection → EndLines → Answering
answering_with s p n e = answering_by (run_state s p).exchange.speech (sending_of s (run_state s p)) (connected_bus e)
    (dialogue p).heard.now.offer (own_of p n.initiator).ack

-- A phase has begun, or not.
abbrev pub target_plain : ScenarioValue → List Row → Connection → Bool → EndLines → ℕ → Option Due
target_plain s p n g e lat = target_due g (sight_with p n e) (handshakes p)
    (device_with n.target lat (target_side e) (own_time p n.target)) (pace_with s p g e n.target)
    (offering_with s p n g e)

abbrev pub initiator_plain : ScenarioValue → List Row → Connection → Bool → EndLines → ℕ → Option Due
initiator_plain s p n g e lat = initiator_due g (sight_with p n e) (handshakes p)
    (device_with n.initiator lat (initiator_side e) (own_time p n.initiator)) (pace_with s p g e n.initiator)
    (answering_with s p n e)

-- Of a byte that crossed in the last row a fault may strike a bit.
abbrev pub is_sampling : ScenarioValue → List Row → Connection → ℕ → Bool
is_sampling s p n dev = is_receiver n (run_state s p).story.bus_state.crossed dev

abbrev pub sampled_or : ScenarioValue → List Row → Connection → ℕ → Option Due → Option Due
sampled_or s p n dev plain =
    sample_due (is_sampling s p n dev) (last_time p) (flip_of (run_state s p).faults (last_time p)) plain

-- ---- what is due

link_stage : (p : List Row) (n : Connection) (e : EndLines) → Linked p n e → stage p ≡ InConnection n
link_stage p n e h = stage_is p (connected_bus e) None None (Some n) h.stands

sight_is : (s : ScenarioValue) (p : List Row) (n : Connection) (e : EndLines) → AreOfDevices p → Linked p n e
    → sight_of (run_state s p) ≡ sight_with p n e
sight_is s p n e d h = (run_state_plain s p d).sight
    ∙ (λ i. record { bus = h.stands.bus_is i; ages = line_times p; stage = link_stage p n e h i })

connected_at : (s : ScenarioValue) (p : List Row) (n : Connection) (e : EndLines) (dev lat : ℕ)
    → AreOfDevices p → Linked p n e → latency_of s dev ≡ Some lat
    → unreset_due s p dev ≡ sampled_or s p n dev (end_due s (run_state s p) (self_of (run_state s p) dev lat) n)
connected_at s p n e dev lat d h there =
    let k = run_state s p in
    let a = run_state_plain s p d in
    ap (unreset_due_if s k dev) there ∙ (λ i. stage_due s k (self_of k dev lat)
    (ap (λ (b : LineSet). b.rst) (a.bus ∙ h.stands.bus_is) i) ((a.connection ∙ h.stands.connection_is) i))
    ∙ (λ i. sample_due (is_sampling s p n dev) (a.last i) (flip_of k.faults (a.last i))
    (end_due s k (self_of k dev lat) n))

self_is : (s : ScenarioValue) (p : List Row) (dev lat : ℕ) (l : LineSet) → AreOfDevices p → dev < 8 → drives p dev ≡ l
    → self_of (run_state s p) dev lat ≡ device_with dev lat l (own_time p dev)
self_is s p dev lat l d lt e =
    let a = run_state_plain s p d in
    λ i. device_with dev lat ((a.drives dev lt ∙ e) i) (ap (λ (o : Own). o.row) (a.own dev lt) i)

pub target_is : (s : ScenarioValue) (p : List Row) (n : Connection) (e : EndLines) (g : Bool) (lat : ℕ)
    → AreOfDevices p → Linked p n e → begun p ≡ g → latency_of s n.target ≡ Some lat
    → unreset_due s p n.target ≡ sampled_or s p n n.target (target_plain s p n g e lat)
target_is s p n e g lat d h eb there =
    let k = run_state s p in
    let a = run_state_plain s p d in
    let me : Myself = self_of k n.target lat in
    let v = sight_is s p n e d h in
    let w : bus_of k ≡ connected_bus e = a.bus ∙ h.stands.bus_is in
    connected_at s p n e n.target lat d h there
    ∙ ap (sampled_or s p n n.target) ((λ i. if ne_eqb n.initiator n.target h.apart i then initiator_end_due s k me
    else if eq_self n.target i then target_end_due s k me else None) ∙ (λ i. target_due ((a.begun ∙ eb) i)
    (v i) (a.handshakes i) (self_is s p n.target lat (target_side e) d h.target_below h.target i)
    (pace_by ((a.begun ∙ eb) i) (w i) (a.dialogue i).heard.now.agreement (host_of s n.target))
    (offering_by (serving_at s k n.target (phase_of (w i))) ((a.begun ∙ eb) i)
    (is_pulsed_phase ((a.begun ∙ eb) i) (w i) (a.dialogue i).heard.now.agreement) (w i) (a.handshakes i))))

pub initiator_is : (s : ScenarioValue) (p : List Row) (n : Connection) (e : EndLines) (g : Bool) (lat : ℕ)
    → AreOfDevices p → Linked p n e → begun p ≡ g → latency_of s n.initiator ≡ Some lat
    → unreset_due s p n.initiator ≡ sampled_or s p n n.initiator (initiator_plain s p n g e lat)
initiator_is s p n e g lat d h eb there =
    let k = run_state s p in
    let a = run_state_plain s p d in
    let me : Myself = self_of k n.initiator lat in
    let v = sight_is s p n e d h in
    let w : bus_of k ≡ connected_bus e = a.bus ∙ h.stands.bus_is in
    connected_at s p n e n.initiator lat d h there
    ∙ ap (sampled_or s p n n.initiator) ((λ i. if eq_self n.initiator i then initiator_end_due s k me
    else if n.target == n.initiator then target_end_due s k me else None) ∙ (λ i. initiator_due ((a.begun ∙ eb) i)
    (v i) (a.handshakes i) (self_is s p n.initiator lat (initiator_side e) d h.initiator_below h.initiator i)
    (pace_by ((a.begun ∙ eb) i) (w i) (a.dialogue i).heard.now.agreement (host_of s n.initiator))
    (answering_by k.exchange.speech (sending_of s k) (w i) (a.dialogue i).heard.now.offer
    (ap (λ (o : Own). o.ack) (a.own n.initiator h.initiator_below) i))))

-- ---- who samples

by_receiver : (n : Connection) (before : Option Connection) (c : Change) (dev : ℕ) (call : Option Call) (row : Row)
    → connection_after before call c row ≡ Some n
    → is_receiver n (crossed_if (is_some (receiver_of before c)) c) dev ≡ true
    → is_of_device (receiver_of before c) dev ≡ true
by_receiver n None c dev call row e z = absurd cc
by_receiver n (Some m) c dev call row e z = go c.after.bsy e
  where
    or_not : (x : Option ℕ) → receiver_in m c ≡ x → is_receiver m (crossed_if (is_some x) c) dev ≡ true
        → is_of_device x dev ≡ true
    or_not None f y = absurd cc
    or_not (Some d) f y = sym (ap (λ (x : Option ℕ). is_of_device x dev) f) ∙ y

    go : (q : Bool) → (if q then Some m else None) ≡ Some n → is_of_device (receiver_in m c) dev ≡ true
    go true y = or_not (receiver_in m c) refl
        (ap (λ (x : Connection). is_receiver x (crossed_if (is_some (receiver_in m c)) c) dev) (same_Some m n y) ∙ z)
    go false y = absurd cc

receives : (p : List Row) (n : Connection) (dev : ℕ) → connection p ≡ Some n → is_receiver n (crossed p) dev ≡ true
    → is_of_device (receiver p) dev ≡ true
receives [] n dev e z = absurd cc
receives (row ∷ rows) n dev e z = by_receiver n (connection rows) (change_of rows row) dev (call rows) row e z

pub sampling_receives : (s : ScenarioValue) (p : List Row) (n : Connection) (e : EndLines) (dev : ℕ) → AreOfDevices p
    → Linked p n e → is_sampling s p n dev ≡ true → is_of_device (receiver p) dev ≡ true
sampling_receives s p n e dev d h z =
    receives p n dev h.stands.connection_is ((λ i. is_receiver n (sym (run_state_plain s p d).crossed i) dev) ∙ z)

-- ---- what the next row is

pub data Sampled (x : Due) (last : ℕ) (q : Bool) (plain : Option Due) : Type 0 where
  strikes : (bit : ℕ) → q ≡ true → x.time ≡ last → x.kind ≡ Fault bit → Sampled x last q plain
  reacts : plain ≡ Some x → Sampled x last q plain

pub sampled_is : (q : Bool) (last : ℕ) (flip : Option ℕ) (plain : Option Due) (x : Due)
    → sample_due q last flip plain ≡ Some x → Sampled x last q plain
sampled_is true last None plain x e = reacts e
sampled_is true last (Some bit) plain x e =
    let same = some_eq (record { time = last; kind = Fault bit }) x e in
    strikes bit refl (sym (ap (λ (y : Due). y.time) same)) (sym (ap (λ (y : Due). y.kind) same))
sampled_is false last flip plain x e = reacts e

-- What is due of an end that reacts at this time comes no later, a fault being as late as the last row at most.
pub sampled_by : (q : Bool) (last : ℕ) (flip : Option ℕ) (y : Due) → last ≤ y.time
    → (x : Due) × (sample_due q last flip (Some y) ≡ Some x) × (x.time ≤ y.time)
sampled_by true last None y h = (y, refl, omega arith)
sampled_by true last (Some bit) y h = (record { time = last; kind = Fault bit }, refl, h)
sampled_by false last flip y h = (y, refl, omega arith)

abbrev pub due_of : Row → Due
due_of row = record { time = row.time; kind = row.kind }

pub data Mover (s : ScenarioValue) (p : List Row) (n : Connection) (g : Bool) (e : EndLines) (row : Row) : Type 0 where
  by_fault : (bit : ℕ) → is_of_device (receiver p) row.dev ≡ true → row ≡ row_of_fault (last_time p) row.dev bit
      → Mover s p n g e row
  by_initiator : (lat : ℕ) → latency_of s n.initiator ≡ Some lat → row.dev ≡ n.initiator
      → initiator_plain s p n g e lat ≡ Some (due_of row) → Mover s p n g e row
  by_target : (lat : ℕ) → latency_of s n.target ≡ Some lat → row.dev ≡ n.target
      → target_plain s p n g e lat ≡ Some (due_of row) → Mover s p n g e row

third : (s : ScenarioValue) (p : List Row) (n : Connection) (e : EndLines) (dev lat : ℕ) → AreOfDevices p → Linked p n e
    → latency_of s dev ≡ Some lat → dev ≢ n.initiator → dev ≢ n.target → (x : Due) → unreset_due s p dev ≡ Some x
    → Sampled x (last_time p) (is_sampling s p n dev) None
third s p n e dev lat d h there ni nt x r =
    let k = run_state s p in
    let me : Myself = self_of k dev lat in
    sampled_is (is_sampling s p n dev) (last_time p)
    (flip_of k.faults (last_time p)) None x (sym (connected_at s p n e dev lat d h there
    ∙ ap (sampled_or s p n dev) (λ i. if ne_eqb n.initiator dev (λ z. ni (sym z)) i then initiator_end_due s k me
    else if ne_eqb n.target dev (λ z. nt (sym z)) i then target_end_due s k me else None)) ∙ r)

pub mover_is : (s : ScenarioValue) (p : List Row) (n : Connection) (g : Bool) (e : EndLines) (row : Row)
    → AreOfDevices p → Linked p n e → begun p ≡ g → IsLeast (unreset_due s p) 8 row → Mover s p n g e row
mover_is s p n g e row d h eb least =
    let x : Due = due_of row in
    let there = is_there s p row.dev x least.is_due in
    elim (cases_eq row.dev n.initiator) [
      | inl same ↦
          let lat_is = ap (latency_of s) (sym same) ∙ there.1 in
          of_initiator there.0 lat_is same (sampled_is (is_sampling s p n n.initiator) (last_time p) _ _ x
          (sym (initiator_is s p n e g there.0 d h eb lat_is) ∙ ap (unreset_due s p) (sym same) ∙ least.is_due))
      | inr ni ↦ elim (cases_eq row.dev n.target) [
        | inl same ↦
            let lat_is = ap (latency_of s) (sym same) ∙ there.1 in
            of_target there.0 lat_is same (sampled_is (is_sampling s p n n.target) (last_time p) _ _ x
            (sym (target_is s p n e g there.0 d h eb lat_is) ∙ ap (unreset_due s p) (sym same) ∙ least.is_due))
        | inr nt ↦ of_third (third s p n e row.dev there.0 d h there.1 ni nt x least.is_due)
      ]
    ]
  where
    struck : (bit dev : ℕ) → row.dev ≡ dev → is_sampling s p n dev ≡ true → row.time ≡ last_time p
        → row.kind ≡ Fault bit → Mover s p n g e row
    struck bit dev same q et ek = by_fault bit (ap (is_of_device (receiver p)) same
        ∙ sampling_receives s p n e dev d h q) (λ i. record { time = et i; dev = row.dev; kind = ek i })

    of_initiator : (lat : ℕ) → latency_of s n.initiator ≡ Some lat → row.dev ≡ n.initiator
        → Sampled (due_of row) (last_time p) (is_sampling s p n n.initiator) (initiator_plain s p n g e lat)
        → Mover s p n g e row
    of_initiator lat there same (strikes bit q et ek) = struck bit n.initiator same q et ek
    of_initiator lat there same (reacts z) = by_initiator lat there same z

    of_target : (lat : ℕ) → latency_of s n.target ≡ Some lat → row.dev ≡ n.target
        → Sampled (due_of row) (last_time p) (is_sampling s p n n.target) (target_plain s p n g e lat)
        → Mover s p n g e row
    of_target lat there same (strikes bit q et ek) = struck bit n.target same q et ek
    of_target lat there same (reacts z) = by_target lat there same z

    of_third : Sampled (due_of row) (last_time p) (is_sampling s p n row.dev) None → Mover s p n g e row
    of_third (strikes bit q et ek) = struck bit row.dev refl q et ek
    of_third (reacts z) = absurd (none-some (due_of row) z)

-- ---- nothing that is due of the ends lies in the past

pub ends_ahead : (s : ScenarioValue) (p : List Row) (n : Connection) (g : Bool) (e : EndLines)
    → AreOfDevices p → Linked p n e → begun p ≡ g → ((lat : ℕ) → latency_of s n.initiator ≡ Some lat
    → (x : Due) → initiator_plain s p n g e lat ≡ Some x → last_time p ≤ x.time)
    → ((lat : ℕ) → latency_of s n.target ≡ Some lat → (x : Due) → target_plain s p n g e lat ≡ Some x
    → last_time p ≤ x.time) → (dev : ℕ) → (x : Due) → unreset_due s p dev ≡ Some x → last_time p ≤ x.time
ends_ahead s p n g e d h eb of_initiator of_target dev x r =
    let there = is_there s p dev x r in
    elim (cases_eq dev n.initiator) [
      | inl same ↦
          let lat_is = ap (latency_of s) (sym same) ∙ there.1 in
          go (initiator_plain s p n g e there.0) (is_sampling s p n n.initiator)
          (of_initiator there.0 lat_is x) (sampled_is (is_sampling s p n n.initiator) (last_time p) _ _ x
          (sym (initiator_is s p n e g there.0 d h eb lat_is) ∙ ap (unreset_due s p) (sym same) ∙ r))
      | inr ni ↦ elim (cases_eq dev n.target) [
        | inl same ↦
            let lat_is = ap (latency_of s) (sym same) ∙ there.1 in
            go (target_plain s p n g e there.0) (is_sampling s p n n.target)
            (of_target there.0 lat_is x) (sampled_is (is_sampling s p n n.target) (last_time p) _ _ x
            (sym (target_is s p n e g there.0 d h eb lat_is) ∙ ap (unreset_due s p) (sym same) ∙ r))
        | inr nt ↦ go None (is_sampling s p n dev) (λ z. absurd (none-some x z))
            (third s p n e dev there.0 d h there.1 ni nt x r)
      ]
    ]
  where
    go : (plain : Option Due) (q : Bool) → (plain ≡ Some x → last_time p ≤ x.time) → Sampled x (last_time p) q plain
        → last_time p ≤ x.time
    go plain q f (strikes bit z et ek) = omega arith
    go plain q f (reacts z) = f z
