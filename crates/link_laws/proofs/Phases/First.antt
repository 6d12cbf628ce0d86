-- A row with which a phase begins, and those up to its first REQ.
use Rattle.link_laws.proofs
use proofs.Names.{ℕ, ◌≡◌, ◌≤◌, ◌<◌, ◌+◌, Bool, true, false, not, ◌&&◌, ◌||◌, ◌==◌, ◌∙◌, List, ◌∷◌, None, refl, sym, ap}
use proofs.Names.{arith, inl, inr, cases_Bool, nat_tests, if◌then◌else◌, max, or_false, eq_self, rises, falls, implies}
use proofs.Names.{data_of, same, changes_phase, receiver, last_time, since, newer_line, line_times, phase_time, Row}
use proofs.Names.{Change, Connection, LineTimes, handshakes, no_handshakes, pulses, no_pulses, duty, duty_left}
use proofs.Names.{duty_if_held, turned, is_attention_held, Duty, ScenarioValue, begun, EndLines, initiator_side}
use proofs.Names.{target_side, connected_bus, Linked, BeginsSelected, ends_selected, change_to, CalmStanding}
use proofs.Names.{KeepsBooksIn, when_settling, ends, fits_duty, is_owed_out, InPhase, HasTurned, Settling, Turning}
use proofs.Lines.{Edges.{opening_obeys}, Obeys.{same_phases, bsy_release_obeys}, Rows.{initiator_moves, target_moves}}
use proofs.{Lines.{Rows.{initiator_in_phase, terms_of}, Seen.{around, obeys_linked}}, Phases.Crossings.{target_row}}
use proofs.Phases.{Crossings.{initiator_row}, Duties.{duty_at_phase}, Stays.{NextLinked, phase_goes, turn_goes}}
use proofs.Phases.Stays.{data_by}

-- ---- a phase begins

newest : (a b c : Bool) (x y z t : ℕ) → (a && b && c) ≡ false → x ≤ t → y ≤ t → z ≤ t
    → max (max (if a then x else t) (if b then y else t)) (if c then z else t) ≡ t
newest false b true x y z t e h i j = go b
  where
    go : (q : Bool) → max (max t (if q then y else t)) z ≡ t
    go true = omega arith
    go false = omega arith
newest false b false x y z t e h i j = go b
  where
    go : (q : Bool) → max (max t (if q then y else t)) t ≡ t
    go true = omega arith
    go false = omega arith
newest true false true x y z t e h i j = omega arith
newest true true true x y z t e h i j = absurd cc
newest true _ _ x y z t e h i j = omega arith

pub no_fall : (q : Bool) → falls q q ≡ false
no_fall true = refl
no_fall false = refl

pub record Entered (p q : List Row) (e f : EndLines) (t : ℕ) : Type 0 where
  pub begun_is : begun q ≡ true
  pub handshakes_are : handshakes q ≡ no_handshakes
  pub pulses_are : pulses q ≡ no_pulses
  pub receiver_is : receiver q ≡ None
  pub phase_is : phase_time (line_times q) ≡ t
  pub io_is : (line_times q).io ≡ newer_line e.io f.io (line_times p).io t
  pub duty_is : duty q ≡ duty_left (duty p)
  pub turned_is : turned q ≡ (turned p || rises e.io f.io)

pub enters : (s : ScenarioValue) (p : List Row) (n : Connection) (bsy atn : Bool) (x : ℕ)
    (msg cd io : Bool) (y : ℕ) (msg' cd' io' : Bool) (z t : ℕ) → CalmStanding s p → last_time p ≤ t
    → Linked p n (ends bsy false atn x msg cd io false y) → same_phases msg cd io msg' cd' io' ≡ false
    → Entered p (target_row t n (ends bsy false atn x msg' cd' io' false z) ∷ p)
    (ends bsy false atn x msg cd io false y) (ends bsy false atn x msg' cd' io' false z) t
enters s p n bsy atn x msg cd io y msg' cd' io' z t always order h differs =
    let e : EndLines = ends bsy false atn x msg cd io false y in
    let f : EndLines = ends bsy false atn x msg' cd' io' false z in
    let row : Row = target_row t n f in
    let c : Change = change_to (connected_bus e) (connected_bus f) (target_side e) (target_side f) in
    let w = terms_of p row n e f (target_side e) (target_side f) h (target_moves p n e msg' cd' io' false z t h) in
    let ph : changes_phase c ≡ true = ap not differs in
    let held : Bool = is_attention_held c (line_times p).atn t in
    let v : LineTimes = line_times p in
    let past_msg = always.past (λ u. u.msg) in
    let past_cd = always.past (λ u. u.cd) in
    let past_io = always.past (λ u. u.io) in
    record {
      begun_is = w.begun_is ∙ ap (λ (r : Bool). r || begun p) ph;
      handshakes_are = w.handshakes_are ∙ ap (λ (r : Bool). if r then no_handshakes else handshakes p) ph;
      pulses_are = w.pulses_are ∙ ap (λ (r : Bool). if r then no_pulses else pulses p) ph;
      receiver_is = w.receiver_is ∙ (elim (cases_Bool io) [ inl g ↦ rw g | inr g ↦ rw g ]);
      phase_is = ap phase_time w.times_are ∙ newest (same msg msg') (same cd cd')
          (same io io') v.msg v.cd v.io t differs (omega arith) (omega arith) (omega arith);
      io_is = ap (λ (u : LineTimes). u.io) w.times_are;
      duty_is = w.duty_is ∙ (λ i. if no_fall atn i || false then Duty.Nothing
          else if false && held then duty_if_held (duty p) (connected_bus e)
          else if ph i then duty_left (duty p) else duty p);
      turned_is = w.turned_is;
    }

asks_too : (atn msg io : Bool) → implies atn (msg && not io) ≡ true → implies atn (io || msg) ≡ true
asks_too true true false e = refl
asks_too true true true e = absurd cc
asks_too true false io e = absurd cc
asks_too false msg io e = refl

pub begins_phase :
    (p q : List Row) (n : Connection) (atn : Bool) (x : ℕ) (msg cd io : Bool) (y : ℕ) (msg' cd' io' : Bool) (z t : ℕ)
    → Entered p q (ends false false atn x msg cd io false y) (ends false false atn x msg' cd' io' false z) t
    → n.began ≤ t → (msg' && not cd') ≡ false → implies atn (msg' && not io') ≡ true → fits_duty (duty p) atn msg ≡ true
    → InPhase q n (ends false false atn x msg' cd' io' false z)
begins_phase p q n atn x msg cd io y msg' cd' io' z t w began known asks owes = record {
  begun_is = w.begun_is;
  began = let u = w.phase_is in omega arith;
  known = known;
  asks = asks_too atn msg' io' asks;
  owes = ap (λ (d : Duty). fits_duty d atn msg') w.duty_is ∙ (duty_at_phase (duty p) atn msg msg' io' owes asks).0;
}

pub not_owed : (p q : List Row) (e f : EndLines) (t : ℕ) (atn msg msg' io' : Bool) → Entered p q e f t
    → fits_duty (duty p) atn msg ≡ true → implies atn (msg' && not io') ≡ true → is_owed_out (duty q) io' ≡ true
not_owed p q e f t atn msg msg' io' w owes asks =
    ap (λ (d : Duty). is_owed_out d io') w.duty_is ∙ (duty_at_phase (duty p) atn msg msg' io' owes asks).1

-- to the target
pub settles_out :
    (s : ScenarioValue) (p : List Row) (n : Connection) (atn msg cd io : Bool) (y : ℕ) (msg' cd' : Bool) (t : ℕ)
    → CalmStanding s p → last_time p ≤ t → Linked p n (ends false false atn 0 msg cd io false y)
    → same_phases msg cd io msg' cd' false ≡ false → n.began ≤ last_time p → (msg' && not cd') ≡ false
    → implies atn (msg' && not false) ≡ true → fits_duty (duty p) atn msg ≡ true
    → Settling (target_row t n (ends false false atn 0 msg' cd' false false 0) ∷ p) n false atn msg' cd' false 0
settles_out s p n atn msg cd io y msg' cd' t always order h differs began known asks owes =
    let e : EndLines = ends false false atn 0 msg cd io false y in
    let f : EndLines = ends false false atn 0 msg' cd' false false 0 in
    let q : List Row = target_row t n f ∷ p in
    let w = enters s p n false atn 0 msg cd io y msg' cd' false 0 t always order h differs in
    record {
      linked = (target_moves p n e msg' cd' false false 0 t h).linked;
      phase = begins_phase p q n atn 0 msg cd io y msg' cd' false 0 t w (omega arith) known asks owes;
      quiet = w.handshakes_are;
      pulses_are = w.pulses_are;
      receiver_is = w.receiver_is;
      unturned = refl;
      duty_is = not_owed p q e f t atn msg msg' false w owes asks;
      side = refl;
      turned = λ a b. absurd cc;
      driven = let u = data_by s p (target_row t n f) always order in let v = w.phase_is in omega arith;
      fresh = let v = w.phase_is in omega arith;
      hands = λ b. absurd cc;
    }

pub below_differs : (a b : ℕ) → a < b → (a == b) ≡ false
below_differs a b h = grind (arith, nat_tests)

-- to the initiator again
pub settles_in :
    (s : ScenarioValue) (p : List Row) (n : Connection) (atn msg cd : Bool) (y : ℕ) (msg' cd' : Bool) (z t : ℕ)
    → CalmStanding s p → last_time p ≤ t → Linked p n (ends false false atn 0 msg cd true false y)
    → same_phases msg cd true msg' cd' true ≡ false → n.began ≤ last_time p → HasTurned p true → (line_times p).io < t
    → (msg' && not cd') ≡ false → implies atn (msg' && not true) ≡ true → fits_duty (duty p) atn msg ≡ true
    → Settling (target_row t n (ends false false atn 0 msg' cd' true false z) ∷ p) n false atn msg' cd' true z
settles_in s p n atn msg cd y msg' cd' z t always order h differs began turn later known asks owes =
    let e : EndLines = ends false false atn 0 msg cd true false y in
    let f : EndLines = ends false false atn 0 msg' cd' true false z in
    let q : List Row = target_row t n f ∷ p in
    let w = enters s p n false atn 0 msg cd true y msg' cd' true z t always order h differs in
    record {
      linked = (target_moves p n e msg' cd' true false z t h).linked;
      phase = begins_phase p q n atn 0 msg cd true y msg' cd' true z t w (omega arith) known asks owes;
      quiet = w.handshakes_are;
      pulses_are = w.pulses_are;
      receiver_is = w.receiver_is;
      unturned = below_differs _ _ (let v = w.phase_is in let u = w.io_is in omega arith);
      duty_is = not_owed p q e f t atn msg msg' true w owes asks;
      side = refl;
      turned = λ a b. let v = turn (sym (w.turned_is ∙ or_false (turned p)) ∙ a) refl in let u = w.io_is in omega arith;
      driven = let u = data_by s p (target_row t n f) always order in let v = w.phase_is in omega arith;
      fresh = let v = w.phase_is in omega arith;
      hands = λ b. absurd cc;
    }

-- from the target
pub turns_in : (s : ScenarioValue) (p : List Row) (n : Connection) (atn msg cd msg' cd' : Bool) (t : ℕ)
    → CalmStanding s p → last_time p ≤ t → Linked p n (ends false false atn 0 msg cd false false 0)
    → n.began ≤ last_time p → (msg' && not cd') ≡ false → implies atn (msg' && not true) ≡ true
    → fits_duty (duty p) atn msg ≡ true → same_phases msg cd false msg' cd' true ≡ false
    → Turning s (target_row t n (ends false false atn 0 msg' cd' true false 0) ∷ p) n atn 0 msg' cd'
turns_in s p n atn msg cd msg' cd' t always order h began known asks owes differs =
    let e : EndLines = ends false false atn 0 msg cd false false 0 in
    let f : EndLines = ends false false atn 0 msg' cd' true false 0 in
    let q : List Row = target_row t n f ∷ p in
    let w = enters s p n false atn 0 msg cd false 0 msg' cd' true 0 t always order h differs in
    record {
      linked = (target_moves p n e msg' cd' true false 0 t h).linked;
      phase = begins_phase p q n atn 0 msg cd false 0 msg' cd' true 0 t w (omega arith) known asks owes;
      quiet = w.handshakes_are;
      pulses_are = w.pulses_are;
      receiver_is = w.receiver_is;
      turned = (λ i. w.io_is i == w.phase_is i) ∙ eq_self t;
      duty_is = not_owed p q e f t atn msg msg' true w owes asks;
      fresh = let v = w.phase_is in omega arith;
      owed = λ b. absurd cc;
    }

-- ---- MESSAGE OUT after a selection

pub opens : (s : ScenarioValue) (p : List Row) (n : Connection) (t : ℕ) → CalmStanding s p → last_time p ≤ t
    → BeginsSelected p n → KeepsBooksIn p (target_row t n (ends false false true 0 true true false false 0))
    → NextLinked s p (target_row t n (ends false false true 0 true true false false 0)) n
opens s p n t always order h books =
    let e : EndLines = ends_selected in
    let f : EndLines = ends false false true 0 true true false false 0 in
    let row : Row = target_row t n f in
    let c : Change = change_to (connected_bus e) (connected_bus f) (target_side e) (target_side f) in
    let m = target_moves p n e true true false false 0 t h.linked in
    record {
      order = order;
      obeys = obeys_linked p row n e c h.linked m.change refl books
          (opening_obeys (around p n.target n c) n t h.linked.apart order h.pulses_are);
      stage = when_settling false true true true false 0
          (settles_out s p n true false false false 0 true true t always order h.linked refl
          (let u = h.began in omega arith) refl refl (ap (λ (d : Duty). fits_duty d true false) h.duty_is));
    }

-- ---- the initiator hands BSY over

pub hands_over : (s : ScenarioValue) (p : List Row) (n : Connection) (atn msg cd : Bool) (y t : ℕ)
    → last_time p ≤ t → t ≤ (line_times p).sel + 100 → Settling p n true atn msg cd true y
    → KeepsBooksIn p (initiator_row t n (ends false false atn 0 msg cd true false y))
    → NextLinked s p (initiator_row t n (ends false false atn 0 msg cd true false y)) n
hands_over s p n atn msg cd y t order soon h books =
    let e : EndLines = ends true false atn 0 msg cd true false y in
    let f : EndLines = ends false false atn 0 msg cd true false y in
    let row : Row = initiator_row t n f in
    let q : List Row = row ∷ p in
    let c : Change = change_to (connected_bus e) (connected_bus f) (initiator_side e) (initiator_side f) in
    let m = initiator_moves p n e false false atn 0 t h.linked in
    let r = initiator_in_phase p n e false false atn 0 t h.linked in
    let hands = h.hands refl in
    record {
      order = order;
      obeys = obeys_linked p row n e c h.linked m.change refl books
          (bsy_release_obeys (around p n.initiator n c) n atn msg cd y t h.linked.apart order);
      stage = when_settling false atn msg cd true y (record {
        linked = m.linked;
        phase = phase_goes p q n e false false atn 0 false y t r h.phase h.phase.asks;
        quiet = r.handshakes_are ∙ h.quiet;
        pulses_are = r.pulses_are ∙ h.pulses_are;
        receiver_is = r.receiver_is;
        unturned = (λ i. r.io_is i == r.phase_is i) ∙ h.unturned;
        duty_is = ap (λ (d : Duty). is_owed_out d true) (same_duty r.duty_is.1) ∙ h.duty_is;
        side = refl;
        turned = turn_goes p q n e f true t r order refl h.turned;
        driven =
            let u = h.driven in
            let w = r.phase_is in
            let v = r.data_is ∙ ap (λ (b : Bool). if b then since data_of p else t) (eq_self y) in
            omega arith;
        fresh = let w = r.phase_is in let u = hands.1 in omega arith;
        hands = λ b. absurd cc;
      });
    }
  where
    same_duty : {d : Duty} → d ≡ (if falls atn atn || false then Duty.Nothing else duty p) → d ≡ duty p
    same_duty e = e ∙ ap (λ (b : Bool). if b || false then Duty.Nothing else duty p) (no_fall atn)
