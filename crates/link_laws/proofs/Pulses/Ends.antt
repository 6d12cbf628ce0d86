-- The row with which the target leaves a data phase by pulses (6.1.5.2, 6.1.10).
use Rattle.link_laws.proofs
use proofs.Names.{ℕ, ◌≡◌, ◌≤◌, ◌+◌, Bool, true, false, not, ◌&&◌, ◌==◌, ◌∙◌, List, ◌∷◌, length, Option, Some, None}
use proofs.Names.{refl, sym, ap, subst, arith, and_parts, le-leb, eq-eqb, nat_tests, if◌then◌else◌, is_some, max}
use proofs.Names.{eq_self, zero_of, bus_two, times_of, falls, implies, LineSet, none, union, changes_phase, is_data}
use proofs.Names.{bus, drives, last_time, line_times, Row, Agreement, Change, Connection, TURN_DELAY, handshakes}
use proofs.Names.{dialogue, phase_begins, pulses, turned, Dialogue, Pulses, is_after, ScenarioValue, lag_by, Serving}
use proofs.Names.{lines_by, Leaving, Phase, host_of, own_of, drives_own, drives_other, EndLines, initiator_side}
use proofs.Names.{target_side, connected_bus, Linked, row_of_lines, change_to, CalmStanding, is_row_of_connection}
use proofs.Names.{KeepsBooksIn, when_settling, when_turning, ends, times_here, Pulsing, NoSooner, answers_at, drives_at}
use proofs.{Names.{given_here}, Lines.{Obeys.{same_phases}, Rows.{target_moves, terms_of}, Seen.{around, obeys_linked}}}
use proofs.Phases.{Crossings.{target_row}, Ends.{freeing_change}, First.{enters, settles_in, settles_out, begins_phase}}
use proofs.Phases.{First.{not_owed}, Leavings.{may_leave, is_to_initiator}, Stays.{NextLinked, turn_test}}
use proofs.Pulses.{Obeys.{pulsed_goes_on_in, pulsed_turns_out, pulsed_turns_in}, Rows.{PulseHere, later_initiator_out}}
use proofs.Pulses.{Rows.{own_ack_other}, Steps.{of_no_sooner}}

some_of : (a b : ℕ) → a ≡ b → (a == 0) ≡ false → (b == 0) ≡ false
some_of a b e f = grind (arith, nat_tests)

all_answered : (s : ScenarioValue) (p : List Row) (n : Connection) (io req ack atn : Bool) (x y : ℕ)
    → Pulsing s p n io req ack atn x y → (length (handshakes p).waiting == 0) ≡ true → (pulses p).req ≡ (pulses p).ack
all_answered s p n io req ack atn x y h none =
    let w = zero_of (length (handshakes p).waiting) none in
    let u = h.facts.counts in
    let a : (handshakes p).requests ≡ (handshakes p).answers = omega arith in
    ap (λ (z : Pulses). z.req) h.pulses_are ∙ a ∙ sym (ap (λ (z : Pulses). z.ack) h.pulses_are)

-- The bus is not freed in a data phase.
not_freed : (p : List Row) (n : Connection) (atn io : Bool) (x y t : ℕ)
    → Linked p n (ends false false atn x false false io false y) → KeepsBooksIn p (row_of_lines t n.target none)
    → ((bus (row_of_lines t n.target none ∷ p)).bsy ≡ false) → ((bus (row_of_lines t n.target none ∷ p)).rst ≡ false)
    → ⊥
not_freed p n atn io x y t h books low calm =
    let row : Row = row_of_lines t n.target none in
    let now : is_row_of_connection p row ≡ true = λ i. is_some (h.stands.connection_is i)
    && not (h.stands.bus_is i).rst && not (calm i) in
    let w = (books now).freeing in
    let u = (λ i. implies (falls (sym h.stands.bus_is i).bsy (sym low i)) (not (is_data (sym h.stands.bus_is i))))
    ∙ w in
    cc

pub pulsed_leaves_in : (s : ScenarioValue) (p : List Row) (n : Connection) (atn : Bool) (y t : ℕ) (v : Serving)
    (l : Leaving) (o : Option Phase) → CalmStanding s p → last_time p ≤ t → Pulsing s p n true false false atn 0 y
    → (length (handshakes p).waiting == 0) ≡ true → (handshakes p).last_req + (times_here p).hold ≤ t
    → may_leave false false true atn o ≡ true → KeepsBooksIn p (row_of_lines t n.target (lines_by v true l o))
    → NextLinked s p (row_of_lines t n.target (lines_by v true l o)) n
pulsed_leaves_in s p n atn y t v l o always order h idle held g books = go o g books
  where
    hold_test : is_after (pulses p).last_req (times_here p).hold t ≡ true
    hold_test = ap (λ (w : Pulses). is_after w.last_req (times_here p).hold t) h.pulses_are ∙ le-leb _ t held

    even : ((pulses p).req == (pulses p).ack) ≡ true
    even = eq-eqb (pulses p).req (pulses p).ack (all_answered s p n true false false atn 0 y h idle)

    began : n.began ≤ last_time p
    began = let u = h.phase.began in let w = h.settled in omega arith

    to_in : (msg' cd' : Bool) (z : ℕ) → same_phases false false true msg' cd' true ≡ false
        → (msg' && not cd') ≡ false → implies atn (msg' && not true) ≡ true
        → KeepsBooksIn p (target_row t n (ends false false atn 0 msg' cd' true false z))
        → NextLinked s p (target_row t n (ends false false atn 0 msg' cd' true false z)) n
    to_in msg' cd' z differs known asks books =
        let e : EndLines = ends false false atn 0 false false true false y in
        let f : EndLines = ends false false atn 0 msg' cd' true false z in
        let c : Change = change_to (connected_bus e) (connected_bus f) (target_side e) (target_side f) in
        let m = target_moves p n e msg' cd' true false z t h.linked in
        record {
          order = order;
          obeys = obeys_linked p (target_row t n f) n e c h.linked m.change refl books
              (pulsed_goes_on_in (around p n.target n c) n atn y msg' cd' z t h.linked.apart order differs
              (turn_test (turned p) ((line_times p).io + TURN_DELAY) t (λ w. let u = h.turned w refl in omega arith))
              even hold_test);
          stage = when_settling false atn msg' cd' true z (settles_in s p n atn false false y msg' cd' z t always order
              h.linked differs began h.turned (let w = h.settled in omega arith) known asks h.phase.owes);
        }

    to_out : (msg' cd' : Bool) → same_phases false false true msg' cd' false ≡ false
        → (msg' && not cd') ≡ false → implies atn (msg' && not false) ≡ true
        → KeepsBooksIn p (target_row t n (ends false false atn 0 msg' cd' false false 0))
        → NextLinked s p (target_row t n (ends false false atn 0 msg' cd' false false 0)) n
    to_out msg' cd' differs known asks books =
        let e : EndLines = ends false false atn 0 false false true false y in
        let f : EndLines = ends false false atn 0 msg' cd' false false 0 in
        let c : Change = change_to (connected_bus e) (connected_bus f) (target_side e) (target_side f) in
        let m = target_moves p n e msg' cd' false false 0 t h.linked in
        record {
          order = order;
          obeys = obeys_linked p (target_row t n f) n e c h.linked m.change refl books
              (pulsed_turns_out (around p n.target n c) n atn y msg' cd' t h.linked.apart order even hold_test);
          stage = when_settling false atn msg' cd' false 0 (settles_out s p n atn false false true y msg' cd' t always
              order h.linked differs began known asks h.phase.owes);
        }

    go : (o : Option Phase) → may_leave false false true atn o ≡ true
        → KeepsBooksIn p (row_of_lines t n.target (lines_by v true l o))
        → NextLinked s p (row_of_lines t n.target (lines_by v true l o)) n
    go None g books = freed atn g h.linked
      where
        freed : (q : Bool) → not (true && q) ≡ true → Linked p n (ends false false q 0 false false true false y)
            → NextLinked s p (row_of_lines t n.target none) n
        freed true g l = absurd cc
        freed false g l =
            let c = freeing_change p n (ends false false false 0 false false true false y) t l refl in
            absurd (not_freed p n false true 0 y t l books (ap (λ (w : Change). w.after.bsy) c)
            (ap (λ (w : Change). w.after.rst) c))
    go (Some Phase.DataOut) g books =
        let w = and_parts (not (same_phases false false true false false false)) (implies (true && atn) false) g in
        to_out false false refl refl w.1 books
    go (Some Phase.DataIn) g books = absurd cc
    go (Some Phase.Command) g books =
        let w = and_parts (not (same_phases false false true false true false)) (implies (true && atn) false) g in
        to_out false true refl refl w.1 books
    go (Some Phase.Status) g books =
        let w = and_parts (not (same_phases false false true false true true)) (implies (true && atn) false) g in
        to_in false true _ refl refl w.1 books
    go (Some Phase.MessageOut) g books =
        let w = and_parts (not (same_phases false false true true true false)) (implies (true && atn) true) g in
        to_out true true refl refl w.1 books
    go (Some Phase.MessageIn) g books =
        let w = and_parts (not (same_phases false false true true true true)) (implies (true && atn) false) g in
        to_in true true _ refl refl w.1 books

-- From DATA OUT, the initiator driving its last byte still.
to_initiator : (s : ScenarioValue) (p : List Row) (n : Connection) (x : ℕ) (msg' cd' : Bool) (t : ℕ)
    → (not msg' && not cd') ≡ false → same_phases false false false msg' cd' true ≡ false
    → (msg' && not cd') ≡ false → (length (handshakes p).waiting == 0) ≡ true
    → PulseHere s p (target_row t n (ends false false false x msg' cd' true false 0)) n false false false false x 0
    → NextLinked s p (target_row t n (ends false false false x msg' cd' true false 0)) n
to_initiator s p n x msg' cd' t other differs known idle h =
    let e : EndLines = ends false false false x false false false false 0 in
    let f : EndLines = ends false false false x msg' cd' true false 0 in
    let row : Row = target_row t n f in
    let q : List Row = row ∷ p in
    let hp = h.pulsing in
    let c : Change = change_to (connected_bus e) (connected_bus f) (target_side e) (target_side f) in
    let m = target_moves p n e msg' cd' true false 0 t hp.linked in
    let w = enters s p n false false x false false false 0 msg' cd' true 0 t h.always h.order hp.linked differs in
    let terms = terms_of p row n e f (target_side e) (target_side f) hp.linked m in
    let ph : changes_phase c ≡ true = ap not differs in
    let eg : (dialogue q).heard.now.agreement ≡ (dialogue p).heard.now.agreement =
    ap (λ (d : Dialogue). d.heard.now.agreement) terms.dialogue_is
    ∙ ap (λ (b : Bool). (if b then phase_begins (dialogue p) else dialogue p).heard.now.agreement) ph in
    let eo : (own_of q n.initiator).ack ≡ (own_of p n.initiator).ack = own_ack_other
    p row n.initiator hp.linked.apart in
    let order = h.order in
    let began : n.began ≤ t = let u = hp.phase.began in let v = hp.settled in omega arith in
    let count = hp.facts.counts in
    let empty = zero_of (length (handshakes p).waiting) idle in
    let answered = some_of (handshakes p).requests (handshakes p).answers (omega arith) hp.facts.asked in
    let raised = hp.facts.raised_is answered in
    let past = hp.facts.ack_past in
    record {
      order = order;
      obeys = obeys_linked p row n e c hp.linked m.change refl h.books
          (pulsed_turns_in (around p n.target n c) n false x msg' cd' t hp.linked.apart order
          (eq-eqb (pulses p).req (pulses p).ack (all_answered s p n false false false false x 0 hp idle)));
      stage = when_turning false x msg' cd' (record {
        linked = m.linked;
        phase = begins_phase p q n false x false false false 0 msg' cd' true 0 t w began known refl hp.phase.owes;
        quiet = w.handshakes_are;
        pulses_are = w.pulses_are;
        receiver_is = w.receiver_is;
        turned = (λ i. w.io_is i == w.phase_is i) ∙ eq_self t;
        duty_is = not_owed p q e f t false false msg' true w hp.phase.owes refl;
        fresh = let v = w.phase_is in omega arith;
        owed = λ some. record {
          other = other;
          raised = let v = w.phase_is in omega arith;
          ahead = λ lat there.
              let v = of_no_sooner t ((own_of p n.initiator).ack + (times_here p).hold + lat) (subst (λ (b : Bool).
              NoSooner t (if b then None else Some ((own_of p n.initiator).ack + (times_here p).hold + lat))) some
              (subst (λ (b : Bool). NoSooner t (if not b then (if x == given_here s p then Some
              (max (answers_at (handshakes p) (line_times p).ack (lag_by (host_of s n.initiator)) (times_here p))
              (drives_at (handshakes p) (times_here p) (own_of p n.initiator).ack lat + (times_here p).set_up) + lat)
              else Some (drives_at (handshakes p) (times_here p) (own_of p n.initiator).ack lat))
              else if x == 0 then None else Some ((own_of p n.initiator).ack + (times_here p).hold + lat))) idle
              (later_initiator_out s p row n false false false x h lat there))) in
              let d = ap (λ (a : Agreement). (times_of a.period).hold) eg in
              omega arith;
        };
      });
    }

-- After the target has released all, the initiator drives no line but data.
still_drives : (p : List Row) (n : Connection) (x t : ℕ)
    → Linked p n (ends false false false x false false false false 0)
    → ((bus (row_of_lines t n.target none ∷ p)).bsy ≡ false) × ((bus (row_of_lines t n.target none ∷ p)).rst ≡ false)
still_drives p n x t h =
    let q : List Row = row_of_lines t n.target none ∷ p in
    let own : drives q n.target ≡ none = drives_own p t n.target none in
    let holds : drives q n.initiator ≡ initiator_side (ends false false false x false false false false 0) =
    drives_other p t n.target none n.initiator h.apart ∙ h.initiator in
    let after = bus_two q n.initiator n.target h.apart h.initiator_below h.target_below
    (λ d lt n1 n2. drives_other p t n.target none d n2 ∙ h.rest d lt n1 n2) ∙ (λ i. union (holds i) (own i)) in
    (ap (λ (l : LineSet). l.bsy) after, ap (λ (l : LineSet). l.rst) after)

pub pulsed_leaves_out :
    (s : ScenarioValue) (p : List Row) (n : Connection) (x t : ℕ) (v : Serving) (l : Leaving) (o : Option Phase)
    → (length (handshakes p).waiting == 0) ≡ true → is_to_initiator o ≡ true
    → PulseHere s p (row_of_lines t n.target (lines_by v false l o)) n false false false false x 0
    → NextLinked s p (row_of_lines t n.target (lines_by v false l o)) n
pulsed_leaves_out s p n x t v l None idle e h = absurd (held x h)
  where
    held : (x : ℕ) → PulseHere s p (row_of_lines t n.target none) n false false false false x 0 → ⊥
    held x h =
        let low = still_drives p n x t h.pulsing.linked in
        not_freed p n false false x 0 t h.pulsing.linked h.books low.0 low.1
pulsed_leaves_out s p n x t v l (Some Phase.Status) idle e h = to_initiator s p n x false true t refl refl refl idle h
pulsed_leaves_out s p n x t v l (Some Phase.MessageIn) idle e h = to_initiator s p n x true true t refl refl refl idle h
pulsed_leaves_out s p n x t v l _ idle e h = absurd cc
