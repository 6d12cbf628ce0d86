-- What a row of an end leaves of a phase that goes on.
use Rattle.link_laws.proofs
use proofs.Names.{ℕ, ◌≡◌, ◌≤◌, Bool, true, false, not, ◌&&◌, ◌||◌, ◌==◌, ◌∙◌, List, ◌∷◌, Option, Some, None, refl, sym}
use proofs.Names.{ap, arith, nat_tests, if◌then◌else◌, nat_le, nat_lt, since_le, rises, falls, implies, data_of}
use proofs.Names.{last_time, since, Row, Agreement, Connection, dialogue, duty, Duty, is_of_device, broken_rule}
use proofs.Names.{ScenarioValue, is_pulsed_phase, EndLines, connected_bus, CalmStanding, LinkStage, ends, fits_duty}
use proofs.{Names.{InPhase, HasTurned}, Lines.Rows.{InPhaseRow}, Phases.Duties.{duty_goes_on}}

-- What a row does with which the connection goes on.
pub record NextLinked (s : ScenarioValue) (p : List Row) (row : Row) (n : Connection) : Type 0 where
  pub order : last_time p ≤ row.time
  pub obeys : broken_rule p row ≡ None
  pub stage : LinkStage s (row ∷ p) n

pub phase_goes : (p q : List Row) (n : Connection) (e : EndLines) (bsy ack atn : Bool) (x : ℕ) (req : Bool) (y t : ℕ)
    → InPhaseRow p q n e (ends bsy ack atn x e.msg e.cd e.io req y) t → InPhase p n e
    → implies atn (e.io || e.msg) ≡ true → InPhase q n (ends bsy ack atn x e.msg e.cd e.io req y)
phase_goes p q n e bsy ack atn x req y t r h asks = record {
  begun_is = r.begun_is ∙ h.begun_is;
  began = let u = h.began in let w = r.phase_is in omega arith;
  known = h.known;
  asks = asks;
  owes = ap (λ (d : Duty). fits_duty d atn e.msg) r.duty_is.1
      ∙ duty_goes_on (duty p) e atn (rises e.req req) (falls e.ack ack) r.duty_is.0 h.owes;
}

pub unpulsed_goes : (p q : List Row) (n : Connection) (e : EndLines) (bsy ack atn : Bool) (x : ℕ) (req : Bool) (y t : ℕ)
    → InPhaseRow p q n e (ends bsy ack atn x e.msg e.cd e.io req y) t
    → is_pulsed_phase true (connected_bus e) (dialogue p).heard.now.agreement ≡ false
    → is_pulsed_phase true (connected_bus (ends bsy ack atn x e.msg e.cd e.io req y)) (dialogue q).heard.now.agreement
    ≡ false
unpulsed_goes p q n e bsy ack atn x req y t r h = go e.msg e.cd refl refl
  where
    go : (m c : Bool) → e.msg ≡ m → e.cd ≡ c
        → is_pulsed_phase true (connected_bus (ends bsy ack atn x e.msg e.cd e.io req y))
        (dialogue q).heard.now.agreement ≡ false
    go true c em ec = λ i. true && (not (em i) && not e.cd) && nat_lt 0 (dialogue q).heard.now.agreement.offset
    go false true em ec = λ i. true && (not (em i) && not (ec i)) && nat_lt 0 (dialogue q).heard.now.agreement.offset
    go false false em ec = ap (λ (a : Agreement). is_pulsed_phase true (connected_bus e) a) (r.agreement_is em ec) ∙ h

pub turn_goes : (p q : List Row) (n : Connection) (e f : EndLines) (io : Bool) (t : ℕ) → InPhaseRow p q n e f t
    → last_time p ≤ t → last_time q ≡ t → HasTurned p io → HasTurned q io
turn_goes p q n e f io t r o l h z i = let u = h (sym r.turned_is ∙ z) i in let w = r.io_is in omega arith

-- The test of the rules, of that.
pub turn_test : (q : Bool) (a t : ℕ) → (q ≡ true → a ≤ t) → implies q (nat_le a t) ≡ true
turn_test true a t h = let w = h refl in grind (arith, nat_tests)
turn_test false a t h = refl

-- The device that received a byte in the row.
pub receives_if : (q : Bool) (o : Option ℕ) (a d : ℕ) → o ≡ (if q then Some a else None) → is_of_device o d ≡ true
    → d ≡ a
receives_if true o a d e z = same_device a d (sym (ap (λ (x : Option ℕ). is_of_device x d) e) ∙ z)
  where
    same_device : (a d : ℕ) → (a == d) ≡ true → d ≡ a
    same_device a d e = grind (arith, nat_tests)
receives_if false o a d e z = let w = sym (ap (λ (x : Option ℕ). is_of_device x d) e) ∙ z in absurd cc

-- No time of the data lines lies after the row.
pub data_by : (s : ScenarioValue) (p : List Row) (row : Row) → CalmStanding s p → last_time p ≤ row.time
    → since data_of (row ∷ p) ≤ row.time
data_by s p row a o = let w = a.seen_past data_of in since_le data_of row p (omega arith)
