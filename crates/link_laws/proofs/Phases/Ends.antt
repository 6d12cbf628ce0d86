-- The rows with which the target leaves a phase: to another one, or the bus (6.1.1, 6.1.5.1, 6.1.10).
use Rattle.link_laws.proofs
use proofs.Names.{inl, inr, ℕ, ◌≡◌, ◌≤◌, ◌<◌, ◌+◌, Bool, true, false, not, ◌&&◌, ◌||◌, ◌==◌, ◌∙◌, List, ◌∷◌, Option}
use proofs.Names.{Some, None, refl, sym, ap, subst, arith, length, cases_eq, and_parts, not-true, cases_Bool}
use proofs.Names.{if◌then◌else◌, nat_lt, bus_none, change_of, implies, LineSet, none, connection_after, free_since}
use proofs.Names.{connection, bus, drives, last_time, line_times, since_line, Row, Change, Connection, TURN_DELAY}
use proofs.Names.{handshakes, stage, OnFreeBus, turned, broken_rule, ScenarioValue, events_link, row_reading}
use proofs.Names.{row_events_by, story_on_bus, policy_of, bytes_of_messages, Serving, phase_of, phase_leaving, lines_by}
use proofs.Names.{follows_in, run_length_if, Leaving, Phase, run_state_plain, AreOfDevices, run_state, serving_at}
use proofs.Names.{want_time, change_plain, change_is, stands_after, stage_is, since_is, drives_own, drives_other}
use proofs.Names.{is_there, is_entry, free_due_is, EndLines, initiator_side, target_side, connected_bus, Linked}
use proofs.Names.{own_time, Stands, row_of_lines, change_to, CalmStanding, AreAhead, FreeBus, KeepsBooksIn, LinkStage}
use proofs.{Names.{when_settling, when_turning, ends, Shaking}, Dues.Ends.{offering_with}}
use proofs.Lines.{Edges.{freeing_in_obeys, freeing_out_obeys}, Obeys.{same_phases, phase_goes_on_in, phase_turns_out}}
use proofs.Lines.{Obeys.{phase_begins_out}, Rows.{target_moves}, Seen.{around, obeys_linked}}
use proofs.Phases.{Crossings.{target_row}, First.{settles_in, settles_out, turns_in}, Leavings.{may_leave, leaves_well}}
use proofs.Phases.Stays.{NextLinked, turn_test}

-- What a row does with which the connection ends.
pub record NextFree (s : ScenarioValue) (p : List Row) (row : Row) : Type 0 where
  pub order : last_time p ≤ row.time
  pub obeys : broken_rule p row ≡ None
  pub ahead : AreAhead s (row ∷ p) row.time
  pub here : FreeBus s (row ∷ p)

pub data AfterLink (s : ScenarioValue) (p : List Row) (row : Row) (n : Connection) : Type 0 where
  goes_on : NextLinked s p row n → AfterLink s p row n
  frees : NextFree s p row → AfterLink s p row n

-- ---- whereto

-- The phase of these lines, and how it is left.
pub leaves_lines : (v : Serving) (msg cd io atn : Bool) (x y : ℕ) → (msg && not cd) ≡ false → may_leave msg cd io atn
    (phase_leaving v atn (phase_of (connected_bus (ends false false atn x msg cd io false y)))).to ≡ true
leaves_lines v true true true atn x y k = leaves_well v Phase.MessageIn atn
leaves_lines v true true false atn x y k = leaves_well v Phase.MessageOut atn
leaves_lines v false true true atn x y k = leaves_well v Phase.Status atn
leaves_lines v false true false atn x y k = leaves_well v Phase.Command atn
leaves_lines v false false true atn x y k = leaves_well v Phase.DataIn atn
leaves_lines v false false false atn x y k = leaves_well v Phase.DataOut atn
leaves_lines v true false io atn x y k = absurd cc

-- ---- a phase to the initiator is left

in_to_in : (s : ScenarioValue) (p : List Row) (n : Connection) (atn msg cd : Bool) (y : ℕ) (msg' cd' : Bool) (z t : ℕ)
    → CalmStanding s p → last_time p ≤ t → Shaking p n msg cd true false false atn 0 y
    → same_phases msg cd true msg' cd' true ≡ false → (msg' && not cd') ≡ false → implies atn (msg' && not true) ≡ true
    → KeepsBooksIn p (target_row t n (ends false false atn 0 msg' cd' true false z))
    → NextLinked s p (target_row t n (ends false false atn 0 msg' cd' true false z)) n
in_to_in s p n atn msg cd y msg' cd' z t always order h differs known asks books =
    let e : EndLines = ends false false atn 0 msg cd true false y in
    let f : EndLines = ends false false atn 0 msg' cd' true false z in
    let c : Change = change_to (connected_bus e) (connected_bus f) (target_side e) (target_side f) in
    let m = target_moves p n e msg' cd' true false z t h.linked in
    record {
      order = order;
      obeys = obeys_linked p (target_row t n f) n e c h.linked m.change refl books
          (phase_goes_on_in (around p n.target n c) n atn msg cd y msg' cd' z t h.linked.apart order differs
          (turn_test (turned p) ((line_times p).io + TURN_DELAY) t (λ w. let u = h.turned w refl in omega arith))
          h.unpulsed);
      stage = when_settling false atn msg' cd' true z (settles_in s p n atn msg cd y msg' cd' z t always
          order h.linked differs (let u = h.phase.began in let w = h.settled in omega arith) h.turned
          (let w = h.settled in omega arith) known asks h.phase.owes);
    }

in_to_out : (s : ScenarioValue) (p : List Row) (n : Connection) (atn msg cd : Bool) (y : ℕ) (msg' cd' : Bool) (t : ℕ)
    → CalmStanding s p → last_time p ≤ t → Shaking p n msg cd true false false atn 0 y
    → same_phases msg cd true msg' cd' false ≡ false
    → (msg' && not cd') ≡ false → implies atn (msg' && not false) ≡ true
    → KeepsBooksIn p (target_row t n (ends false false atn 0 msg' cd' false false 0))
    → NextLinked s p (target_row t n (ends false false atn 0 msg' cd' false false 0)) n
in_to_out s p n atn msg cd y msg' cd' t always order h differs known asks books =
    let e : EndLines = ends false false atn 0 msg cd true false y in
    let f : EndLines = ends false false atn 0 msg' cd' false false 0 in
    let c : Change = change_to (connected_bus e) (connected_bus f) (target_side e) (target_side f) in
    let m = target_moves p n e msg' cd' false false 0 t h.linked in
    record {
      order = order;
      obeys = obeys_linked p (target_row t n f) n e c h.linked m.change refl books
          (phase_turns_out (around p n.target n c) n atn msg cd y msg' cd' t h.linked.apart order h.unpulsed);
      stage = when_settling false atn msg' cd' false 0 (settles_out s p n atn msg cd true y msg' cd' t always order
          h.linked differs (let u = h.phase.began in let w = h.settled in omega arith) known asks h.phase.owes);
    }

-- ---- a phase to the target is left, ATN being false

out_to : (s : ScenarioValue) (p : List Row) (n : Connection) (msg cd msg' cd' io' : Bool) (t : ℕ) → CalmStanding s p
    → last_time p ≤ t → Shaking p n msg cd false false false false 0 0 → same_phases msg cd false msg' cd' io' ≡ false
    → (msg' && not cd') ≡ false → KeepsBooksIn p (target_row t n (ends false false false 0 msg' cd' io' false 0))
    → NextLinked s p (target_row t n (ends false false false 0 msg' cd' io' false 0)) n
out_to s p n msg cd msg' cd' io' t always order h differs known books =
    let e : EndLines = ends false false false 0 msg cd false false 0 in
    let f : EndLines = ends false false false 0 msg' cd' io' false 0 in
    let c : Change = change_to (connected_bus e) (connected_bus f) (target_side e) (target_side f) in
    let m = target_moves p n e msg' cd' io' false 0 t h.linked in
    record {
      order = order;
      obeys = obeys_linked p (target_row t n f) n e c h.linked m.change refl books (phase_begins_out
          (around p n.target n c) n false msg cd msg' cd' io' t h.linked.apart order differs h.unpulsed);
      stage = next io' differs;
    }
  where
    next : (q : Bool) → same_phases msg cd false msg' cd' q ≡ false
        → LinkStage s (target_row t n (ends false false false 0 msg' cd' q false 0) ∷ p) n
    next true differs = when_turning false 0 msg' cd' (turns_in s p n false msg cd msg' cd' t always order h.linked
        (let u = h.phase.began in let w = h.settled in omega arith) known refl h.phase.owes differs)
    next false differs =
        when_settling false false msg' cd' false 0 (settles_out s p n false msg cd false 0 msg' cd' t always order
        h.linked differs (let u = h.phase.began in let w = h.settled in omega arith) known refl h.phase.owes)

-- ---- BUS FREE

link_ends : (s : ScenarioValue) (p : List Row) (row : Row) (n : Connection) → AreOfDevices p → row.dev < 8
    → connection p ≡ Some n → connection (row ∷ p) ≡ None → (run_state s (row ∷ p)).story.link ≡ None
link_ends s p row n h lt stood alone =
    let k = run_state s p in
    let d = row_reading k.story.bus_state row in
    let pl = run_state_plain s p h in
    let next : d.next ≡ None = (λ i. connection_after (pl.connection i) (pl.call i) ((change_plain s row p h lt) i) row)
    ∙ alone in
    events_link s (if d.change.after.rst then record k.story { link = None }
    else story_on_bus s k.story k.story.bus_state.connection d.next d row) (row_events_by s k.story d row)
    ∙ (λ i. (if d.change.after.rst then record k.story { link = None }
    else story_on_bus s k.story ((pl.connection ∙ stood) i) (next i) d row).link)
    ∙ (elim (cases_Bool d.change.after.rst) [ inl e ↦ rw e | inr e ↦ rw e ])

pub freeing_change : (p : List Row) (n : Connection) (e : EndLines) (t : ℕ) → Linked p n e → initiator_side e ≡ none
    → change_of p (row_of_lines t n.target none) ≡ change_to (connected_bus e) none (target_side e) none
freeing_change p n e t h quiet =
    let q : List Row = row_of_lines t n.target none ∷ p in
    change_is p t n.target none none (connected_bus e) none (target_side e) refl h.stands.bus_is
    (bus_none q (λ d lt. elim (cases_eq d n.target) [
      | inl same ↦ ap (drives q) same ∙ drives_own p t n.target none
      | inr nt ↦ elim (cases_eq d n.initiator) [
        | inl same ↦ drives_other p t n.target none d nt ∙ ap (drives p) same ∙ h.initiator ∙ quiet
        | inr ni ↦ drives_other p t n.target none d nt ∙ h.rest d lt ni nt
      ]
    ])) h.target

frees_bus : (s : ScenarioValue) (p : List Row) (n : Connection) (msg cd io : Bool) (y t : ℕ)
    → CalmStanding s p → last_time p ≤ t → Linked p n (ends false false false 0 msg cd io false y)
    → broken_rule p (row_of_lines t n.target none) ≡ None → NextFree s p (row_of_lines t n.target none)
frees_bus s p n msg cd io y t always order h obeys =
    let e : EndLines = ends false false false 0 msg cd io false y in
    let row : Row = row_of_lines t n.target none in
    let q : List Row = row ∷ p in
    let own : drives q n.target ≡ none = drives_own p t n.target none in
    let holds : drives q n.initiator ≡ none = drives_other p t n.target none n.initiator h.apart ∙ h.initiator in
    let quiet : (d : ℕ) → d < 8 → drives q d ≡ none = λ d lt. elim (cases_eq d n.target) [
      | inl same ↦ ap (drives q) same ∙ own
      | inr nt ↦ elim (cases_eq d n.initiator) [
        | inl same ↦ ap (drives q) same ∙ holds
        | inr ni ↦ drives_other p t n.target none d nt ∙ h.rest d lt ni nt
      ]
    ] in
    let after : bus q ≡ none = bus_none q quiet in
    let goes : Stands q none None None None = stands_after p t n.target none none
    (connected_bus e) none (target_side e) None None (Some n) h.stands refl after h.target in
    let devices : AreOfDevices q = (h.target_below, always.devices) in
    let here : stage q ≡ OnFreeBus (free_since q) = stage_is q none None None None goes in
    let bsy : since_line (λ z. z.bsy) q ≡ t = since_is
    (λ z. z.bsy) p row (connected_bus e) none h.stands.bus_is after in
    record {
      order = order;
      obeys = obeys;
      ahead = λ d lt z r.
          let w = is_there s q d z r in
          let u = is_entry d w.0 (own_time q d) (free_since q) none (want_time s (run_state s q) d) z
          (sym (free_due_is s q d w.0 (free_since q) devices lt w.1 goes.connection_is here (quiet d lt)) ∙ r) in
          let v = u.after_free in
          omega arith;
      here = record {
        stands = goes;
        quiet = quiet;
        link = link_ends s p row n always.devices h.target_below h.stands.connection_is goes.connection_is;
      };
    }

-- ---- all of them

-- What the target drives as it leaves the phase, by the phase that follows.
leaves_in : (s : ScenarioValue) (p : List Row) (n : Connection) (atn msg cd : Bool) (y t : ℕ) (v : Serving)
    (l : Leaving) (o : Option Phase) → CalmStanding s p → last_time p ≤ t → Shaking p n msg cd true false false atn 0 y
    → may_leave msg cd true atn o ≡ true → KeepsBooksIn p (row_of_lines t n.target (lines_by v true l o))
    → AfterLink s p (row_of_lines t n.target (lines_by v true l o)) n
leaves_in s p n atn msg cd y t v l None always order h k books = frees (no_attention atn k h books)
  where
    no_attention : (q : Bool) → not (true && q) ≡ true → Shaking p n msg cd true false false q 0 y
        → KeepsBooksIn p (row_of_lines t n.target none) → NextFree s p (row_of_lines t n.target none)
    no_attention true k h books = absurd cc
    no_attention false k h books =
        let e : EndLines = ends false false false 0 msg cd true false y in
        let c : Change = change_to (connected_bus e) none (target_side e) none in
        frees_bus s p n msg cd true y t always order h.linked
        (obeys_linked p (row_of_lines t n.target none) n e c h.linked (freeing_change p n e t h.linked refl) refl books
        (freeing_in_obeys (around p n.target n c) n msg cd y t h.linked.apart order h.unpulsed))
leaves_in s p n atn msg cd y t v l (Some Phase.DataOut) always order h k books =
    let w = and_parts (not (same_phases msg cd true false false false)) (implies (true && atn) false) k in
    goes_on (in_to_out s p n atn msg cd y false false t always order h (not-true _ w.0) refl w.1 books)
leaves_in s p n atn msg cd y t v l (Some Phase.DataIn) always order h k books =
    let w = and_parts (not (same_phases msg cd true false false true)) (implies (true && atn) false) k in
    goes_on (in_to_in s p n atn msg cd y false false _ t always order h (not-true _ w.0) refl w.1 books)
leaves_in s p n atn msg cd y t v l (Some Phase.Command) always order h k books =
    let w = and_parts (not (same_phases msg cd true false true false)) (implies (true && atn) false) k in
    goes_on (in_to_out s p n atn msg cd y false true t always order h (not-true _ w.0) refl w.1 books)
leaves_in s p n atn msg cd y t v l (Some Phase.Status) always order h k books =
    let w = and_parts (not (same_phases msg cd true false true true)) (implies (true && atn) false) k in
    goes_on (in_to_in s p n atn msg cd y false true _ t always order h (not-true _ w.0) refl w.1 books)
leaves_in s p n atn msg cd y t v l (Some Phase.MessageOut) always order h k books =
    let w = and_parts (not (same_phases msg cd true true true false)) (implies (true && atn) true) k in
    goes_on (in_to_out s p n atn msg cd y true true t always order h (not-true _ w.0) refl w.1 books)
leaves_in s p n atn msg cd y t v l (Some Phase.MessageIn) always order h k books =
    let w = and_parts (not (same_phases msg cd true true true true)) (implies (true && atn) false) k in
    goes_on (in_to_in s p n atn msg cd y true true _ t always order h (not-true _ w.0) refl w.1 books)

leaves_out : (s : ScenarioValue) (p : List Row) (n : Connection) (msg cd : Bool) (t : ℕ) (v : Serving) (l : Leaving)
    (o : Option Phase) → CalmStanding s p → last_time p ≤ t → Shaking p n msg cd false false false false 0 0
    → may_leave msg cd false false o ≡ true → KeepsBooksIn p (row_of_lines t n.target (lines_by v false l o))
    → AfterLink s p (row_of_lines t n.target (lines_by v false l o)) n
leaves_out s p n msg cd t v l None always order h k books =
    let e : EndLines = ends false false false 0 msg cd false false 0 in
    let c : Change = change_to (connected_bus e) none (target_side e) none in
    frees (frees_bus s p n msg cd false 0 t always order h.linked
    (obeys_linked p (row_of_lines t n.target none) n e c h.linked (freeing_change p n e t h.linked refl) refl books
    (freeing_out_obeys (around p n.target n c) n msg cd t h.linked.apart order h.unpulsed)))
leaves_out s p n msg cd t v l (Some Phase.DataOut) always order h k books =
    goes_on (out_to s p n msg cd false false false t always order h
    (not-true _ (and_parts (not (same_phases msg cd false false false false)) true k).0) refl books)
leaves_out s p n msg cd t v l (Some Phase.DataIn) always order h k books = goes_on (out_to s p n msg cd false false true
    t always order h (not-true _ (and_parts (not (same_phases msg cd false false false true)) true k).0) refl books)
leaves_out s p n msg cd t v l (Some Phase.Command) always order h k books =
    goes_on (out_to s p n msg cd false true false t always order h
    (not-true _ (and_parts (not (same_phases msg cd false false true false)) true k).0) refl books)
leaves_out s p n msg cd t v l (Some Phase.Status) always order h k books = goes_on (out_to s p n msg cd false true true
    t always order h (not-true _ (and_parts (not (same_phases msg cd false false true true)) true k).0) refl books)
leaves_out s p n msg cd t v l (Some Phase.MessageOut) always order h k books =
    goes_on (out_to s p n msg cd true true false t always order h
    (not-true _ (and_parts (not (same_phases msg cd false true true false)) true k).0) refl books)
leaves_out s p n msg cd t v l (Some Phase.MessageIn) always order h k books = goes_on (out_to s p n msg cd true true
    true t always order h (not-true _ (and_parts (not (same_phases msg cd false true true true)) true k).0) refl books)

-- Where no byte follows: ATN is false after bytes to the target.
follows_is : (s : ScenarioValue) (p : List Row) (n : Connection) (msg cd io atn : Bool) (x y : ℕ)
    → Shaking p n msg cd io false false atn x y
    → (offering_with s p n true (ends false false atn x msg cd io false y)).follows ≡ follows_in
    (serving_at s (run_state s p) n.target (phase_of (connected_bus (ends false false atn x msg cd io false y))))
    (handshakes p) atn (phase_of (connected_bus (ends false false atn x msg cd io false y)))
follows_is s p n msg cd io atn x y h =
    let b : LineSet = connected_bus (ends false false atn x msg cd io false y) in
    let v : Serving = serving_at s (run_state s p) n.target (phase_of b) in
    ap (λ (q : Bool). if q then nat_lt (handshakes p).requests (run_length_if (policy_of v.def) v.task)
    else follows_in v (handshakes p) atn (phase_of b)) h.unpulsed

or_false_second : (a b c : Bool) → (a || b || c) ≡ false → b ≡ false
or_false_second false false c e = refl
or_false_second false true c e = absurd cc
or_false_second true b c e = absurd cc

pub unattended : (s : ScenarioValue) (p : List Row) (n : Connection) (msg cd atn : Bool) (x y : ℕ)
    → Shaking p n msg cd false false false atn x y
    → (offering_with s p n true (ends false false atn x msg cd false false y)).follows ≡ false → atn ≡ false
unattended s p n true true atn x y h f =
    or_false_second ((handshakes p).answers == 0) atn _ (sym (follows_is s p n true true false atn x y h) ∙ f)
unattended s p n true false atn x y h f = let w = h.phase.known in absurd cc
unattended s p n false cd true x y h f = let w = h.phase.asks in absurd cc
unattended s p n false cd false x y h f = refl

-- In MESSAGE IN no byte follows where ATN is true.
pub unasked : (s : ScenarioValue) (p : List Row) (n : Connection) (x y : ℕ)
    → Shaking p n true true true false false true x y
    → (offering_with s p n true (ends false false true x true true true false y)).follows ≡ false
unasked s p n x y h = follows_is s p n true true true true x y h ∙ ap (λ (q : Bool). (q || false)
    && nat_lt (handshakes p).requests (length (bytes_of_messages (run_state s p).exchange.plan.messages))) h.asked

-- The row with which the target leaves a phase byte by byte.
pub leaves_phase : (s : ScenarioValue) (p : List Row) (n : Connection) (msg cd io atn : Bool) (x y t : ℕ)
    → CalmStanding s p → last_time p ≤ t → Shaking p n msg cd io false false atn x y
    → (offering_with s p n true (ends false false atn x msg cd io false y)).follows ≡ false
    → KeepsBooksIn p (row_of_lines t n.target (offering_with s p n true (ends false false atn x msg cd io false y)).to)
    → AfterLink s p (row_of_lines t n.target (offering_with s p n true (ends false false atn x msg cd io false y)).to) n
leaves_phase s p n msg cd true atn x y t always order h f books = at_zero x h.side h f books
  where
    at_zero : (x : ℕ) → x ≡ 0 → Shaking p n msg cd true false false atn x y
        → (offering_with s p n true (ends false false atn x msg cd true false y)).follows ≡ false → KeepsBooksIn p
        (row_of_lines t n.target (offering_with s p n true (ends false false atn x msg cd true false y)).to)
        → AfterLink s p
        (row_of_lines t n.target (offering_with s p n true (ends false false atn x msg cd true false y)).to) n
    at_zero x e h f books =
        let v : Serving = serving_at s (run_state s p) n.target
        (phase_of (connected_bus (ends false false atn x msg cd true false y))) in
        let l : Leaving = phase_leaving v atn (phase_of (connected_bus (ends false false atn x msg cd true false y))) in
        leaves_in s p n atn msg cd y t v l l.to always order
        (subst (λ z. Shaking p n msg cd true false false atn z y) e h)
        (leaves_lines v msg cd true atn x y h.phase.known) books
leaves_phase s p n msg cd false atn x y t always order h f books =
    let quiet = unattended s p n msg cd atn x y h f in
    let v : Serving = serving_at s (run_state s p) n.target
    (phase_of (connected_bus (ends false false atn x msg cd false false y))) in
    let l : Leaving = phase_leaving v atn (phase_of (connected_bus (ends false false atn x msg cd false false y))) in
    let at_rest : Shaking p n msg cd false false false false 0 0 = subst
    (λ k. Shaking p n msg cd false false false k 0 0) quiet (subst (λ z. Shaking p n msg cd false false false atn z 0)
    h.driven (subst (λ z. Shaking p n msg cd false false false atn x z) h.side h)) in
    leaves_out s p n msg cd t v l l.to always order at_rest
    (subst (λ k. may_leave msg cd false k l.to ≡ true) quiet (leaves_lines v msg cd false atn x y h.phase.known)) books
