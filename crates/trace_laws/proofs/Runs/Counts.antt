-- Of a prompt trace: how many bytes of a run were asked for and answered, after each row of DATA OUT.
use Rattle.trace_laws.proofs
use proofs.Names.{ℕ, ◌≡◌, ◌+◌, ◌≤◌, ◌<◌, ◌^◌, Bool, true, false, not, ◌&&◌, ◌||◌, ◌==◌, ◌∙◌, List, [], ◌∷◌, Some, refl}
use proofs.Names.{sym, ap, subst, arith, true≢false, if◌then◌else◌, wrong', same_self, change_of, rises, LineSet}
use proofs.Names.{changes_phase, connection, is_fault, bus, drives, Kind, Drives, Fault, Row, Change, Connection}
use proofs.Names.{Handshakes, handshakes, no_handshakes, handshakes_after, asked_if, answered_if, ScenarioValue, Obeys}
use proofs.Names.{begun, begun_after, phase_of, Phase, IsPrompt, AreOfDevices, run_state, obeys_fits, SamePhase}
use proofs.Names.{same_phase_is, IsRowIn, fault_change, BeginsConnection, by_selection, by_reselection, row_of_fault}
use proofs.Names.{count_stays, runs_are_short, LinkStage, when_selected, when_settling, when_turning, when_offering}
use proofs.Names.{when_shaking, when_pulsing, run_count, RowKindOf, begins_now, goes_now, row_kind, GoingRow, going_row}
use proofs.Names.{connection_row, stage_of_connection, IsFirst, Stood, NextStood, run_lines, phase_by, AreCounted}
use proofs.{Names.{pulses_here, CountFacts, RunFacts}, Runs.{Asks.{out_step}, Begun.{run_begun}}}
use proofs.Runs.{CountRows.{pulses_stay, counts_stay}, Steps.{no_in}}

pub counts_start : (s : ScenarioValue) → CountFacts s []
counts_start s = record { counts = λ n e. absurd cc }

-- In DATA OUT far fewer bytes are answered than are counted.
pub answers_few : (s : ScenarioValue) (p : List Row) (n : Connection) → Obeys s → CountFacts s p → connection p ≡ Some n
    → (bus p).rst ≡ false → begun p ≡ true → phase_of (bus p) ≡ Phase.DataOut → (handshakes p).answers + 1 < 2 ^ 64
answers_few s p n o facts con calm b phase =
    let within = (facts.counts n con calm b phase).within in
    let few = runs_are_short s (obeys_fits s o) p n in
    omega (arith, within, few)

-- ---- DATA OUT is entered

-- Nothing was asked for as a phase begins.
pub handshakes_begin : (p : List Row) (row : Row) (n : Connection) → connection (row ∷ p) ≡ Some n
    → changes_phase (change_of p row) ≡ true → handshakes (row ∷ p) ≡ no_handshakes
handshakes_begin p row n con ep = go row.kind refl
  where
    go : (kind : Kind) → row.kind ≡ kind → handshakes (row ∷ p) ≡ no_handshakes
    go (Drives l) e = (λ i. handshakes_after (is_fault (e i)) (con i) (change_of p row) row.time (handshakes p))
        ∙ ap (λ (b : Bool). if b then no_handshakes
        else answered_if (rises (change_of p row).before.ack (change_of p row).after.ack) row.time
        (asked_if (rises (change_of p row).before.req (change_of p row).after.req) row.time (handshakes p))) ep
    go (Fault bit) e =
        let is : row ≡ row_of_fault row.time row.dev bit = λ i. record { time = row.time; dev = row.dev; kind = e i } in
        let b : LineSet = bus p in
        let stays : changes_phase (change_of p row) ≡ false = ap (λ (c : Change). changes_phase c)
        (ap (change_of p) is ∙ fault_change p row.time row.dev bit b (drives p row.dev) refl refl)
        ∙ (λ i. not (same_self b.msg i && same_self b.cd i && same_self b.io i)) in
        wrong' (sym stays ∙ ep)

-- Where nothing was asked for REQ is false.
pub unasked_low : (s : ScenarioValue) (q : List Row) (n : Connection) → LinkStage s q n → (handshakes q).requests ≡ 0
    → (bus q).req ≡ false
unasked_low s q n (when_selected h) z = ap (λ (l : LineSet). l.req) h.linked.stands.bus_is
unasked_low s q n (when_settling bsy atn msg cd io y h) z = ap (λ (l : LineSet). l.req) h.linked.stands.bus_is
unasked_low s q n (when_turning atn x msg cd h) z = ap (λ (l : LineSet). l.req) h.linked.stands.bus_is
unasked_low s q n (when_offering atn msg cd y h) z = ap (λ (l : LineSet). l.req) h.linked.stands.bus_is
unasked_low s q n (when_shaking msg cd io req ack atn x y h) z =
    absurd (true≢false (ap (λ (m : ℕ). m == 0) (sym z) ∙ h.asked))
unasked_low s q n (when_pulsing io req ack atn x y h a) z =
    absurd (true≢false (ap (λ (m : ℕ). m == 0) (sym z) ∙ h.facts.asked))

entered : (s : ScenarioValue) (q : List Row) (n : Connection) → LinkStage s q n → handshakes q ≡ no_handshakes
    → 1 ≤ run_count s q n → AreCounted (handshakes q) (bus q) (pulses_here q) (run_count s q n)
entered s q n h none some = record {
  some = some;
  asked = (let a = ap (λ (x : Handshakes). x.answers) none in omega (arith, a));
  within = (let a = ap (λ (x : Handshakes). x.answers) none in omega (arith, a));
  pulses = λ u. let r = requests in omega (arith, r);
  waits = λ u req ack. absurd (true≢false (sym req ∙ unasked_low s q n h requests));
}
  where
    requests : (handshakes q).requests ≡ 0
    requests = ap (λ (x : Handshakes). x.requests) none

-- ---- the next row

pub or_left : (b : Bool) → (false || b) ≡ true → b ≡ true
or_left true e = refl
or_left false e = e

-- DATA OUT is no phase that a connection begins with.
none_first : {A : Type 0} (s : ScenarioValue) (p : List Row) (row : Row) (n : Connection) → IsFirst s p row n
    → begun (row ∷ p) ≡ true → phase_of (bus (row ∷ p)) ≡ Phase.DataOut → A
none_first s p row n f b phase = go f.begins
  where
    go : {A : Type 0} → BeginsConnection (row ∷ p) n → A
    go (by_selection h) = wrong' (sym h.begun_is ∙ b)
    go (by_reselection y h) = no_in (row ∷ p) n _ h.linked phase refl

pub counts_next : (s : ScenarioValue) (p : List Row) (row : Row) → Obeys s → IsPrompt s (row ∷ p) → Stood s p
    → NextStood s p row → RunFacts s p → CountFacts s p → CountFacts s (row ∷ p)
counts_next s p row o prompt was nx runs facts =
    record { counts = λ n after off b phase. by n after off b phase (row_kind s p row n o prompt was after off) }
  where
    dv : AreOfDevices p
    dv = was.standing.devices

    lt : row.dev < 8
    lt = (nx.stood.standing.devices).0

    c : Change
    c = change_of p row

    on : (n : Connection) → connection p ≡ Some n → (bus p).rst ≡ false
        → connection (row ∷ p) ≡ Some n → (bus (row ∷ p)).rst ≡ false → begun (row ∷ p) ≡ true
        → phase_of (bus (row ∷ p)) ≡ Phase.DataOut → (q : Bool) → changes_phase c ≡ q
        → AreCounted (handshakes (row ∷ p)) (bus (row ∷ p)) (pulses_here (row ∷ p)) (run_count s (row ∷ p) n)
    on n con calm after off b phase true ep = entered s (row ∷ p) n
        (stage_of_connection s (row ∷ p) n nx.stood after off) (handshakes_begin p row n after ep)
        (run_begun s p row n o prompt was nx runs con calm off after ep phase)
    on n con calm after off b phase false ep = counts_stay s p row n ep after (pulses_stay s p row n c dv lt
        (subst (λ (x : Change). IsRowIn (run_state s p) row n x) g.change_is g.goes.row_is) ep here)
        (count_stays s p row n c (record {
          devices = dv;
          below = lt;
          before = con;
          after = after;
          change = refl;
          calm = off;
          phase = ep;
          in_data = (run_lines (bus p) here).0;
        })) here (let few = runs_are_short s (obeys_fits s o) p n in omega (arith, few))
        (out_step s p row n prompt was con calm off b_here here after).step (facts.counts n con calm b_here here)
      where
        g : GoingRow s p row n
        g = going_row s p row n dv lt con after off nx.row_is (connection_row s p row n o prompt was con calm off).facts

        b_here : begun p ≡ true
        b_here = or_left (begun p)
            ((λ i. sym ep i || begun p) ∙ (λ i. begun_after (begun p) (sym con i) (sym after i) c) ∙ b)

        here : phase_of (bus p) ≡ Phase.DataOut
        here = phase_stays (same_phase_is c ep) ∙ phase
          where
            phase_stays : SamePhase (bus p) (bus (row ∷ p)) → phase_of (bus p) ≡ phase_of (bus (row ∷ p))
            phase_stays e = λ i. phase_by (sym e.msg i) (sym e.cd i) (sym e.io i)

    by : (n : Connection) → connection (row ∷ p) ≡ Some n → (bus (row ∷ p)).rst ≡ false
        → begun (row ∷ p) ≡ true → phase_of (bus (row ∷ p)) ≡ Phase.DataOut → RowKindOf s p row n
        → AreCounted (handshakes (row ∷ p)) (bus (row ∷ p)) (pulses_here (row ∷ p)) (run_count s (row ∷ p) n)
    by n after off b phase (begins_now alone f) = none_first s p row n f b phase
    by n after off b phase (goes_now con calm) = on n con calm after off b phase (changes_phase c) refl
