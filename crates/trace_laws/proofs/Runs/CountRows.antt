-- What was asked for and answered of a run goes on with each row of DATA OUT.
use Rattle.trace_laws.proofs
use proofs.Names.{ℕ, ◌≡◌, ◌⊎◌, inl, inr, ◌+◌, ◌≤◌, ◌<◌, ◌^◌, Bool, true, false, not, ◌&&◌, ◌==◌, ◌∙◌, List, ◌∷◌, Option}
use proofs.Names.{Some, None, refl, sym, ap, subst, arith, true≢false, ◌%◌, if◌then◌else◌, is_some, nat_lt, wrong'}
use proofs.Names.{zero_of, counted_on, change_of, rises, LineSet, changes_phase, connection, is_fault, receiver_in, bus}
use proofs.Names.{drives, Kind, Drives, Fault, Row, Change, Connection, Handshakes, handshakes, no_handshakes}
use proofs.Names.{handshakes_after, asked_if, answered_if, newest_struck_if, dialogue, byte_out, byte_in, byte_else}
use proofs.Names.{byte_crosses, Dialogue, ScenarioValue, phase_of, Phase, run_state_plain, IsPlain, AreOfDevices}
use proofs.Names.{RunState, run_state, InConnection, in_connection, dialogue_by, SamePhase, same_phase_is, RowKind}
use proofs.Names.{still, strikes, crosses, turns, IsRowIn, fault_change, row_of_fault, no_rise, count_more, run_count}
use proofs.{Names.{run_lines, AreCounted, pulses_here}, Runs.Steps.{OutStep}}

-- ---- counts

up_before : (a b : Bool) → rises a b ≡ true → (a ≡ false) × (b ≡ true)
up_before true b e = wrong' e
up_before false b e = (refl, e)

no_both : {A : Type 0} (a b : Bool) → rises a b ≡ true → a ≡ b → A
no_both a b e same = let u = up_before a b e in absurd (true≢false (sym u.1 ∙ sym same ∙ u.0))

-- However often REQ rises in a phase, it is counted above the answers of a run.
still_asked : (a r : ℕ) → a ≤ r → a < 2 ^ 64 → a ≤ counted_on r
still_asked a r h few = omega (arith, h, few)

asked_more : (a r : ℕ) → a ≤ r → a + 1 < 2 ^ 64 → a < counted_on r
asked_more a r h few = omega (arith, h, few)

asked_within : (r run : ℕ) → r + 1 ≤ run → counted_on r ≤ run
asked_within r run h = omega (arith, h)

-- By what the row does with REQ and ACK.
counts_by : (s : ScenarioValue) (p : List Row) (n : Connection) (c : Change) (t : ℕ) (pulsed : Bool)
    → pulses_here p ≡ pulsed → bus p ≡ c.before → run_count s p n < 2 ^ 64
    → OutStep s p n c → AreCounted (handshakes p) (bus p) (pulses_here p) (run_count s p n)
    → AreCounted (answered_if (rises c.before.ack c.after.ack) t
    (asked_if (rises c.before.req c.after.req) t (handshakes p))) c.after pulsed (run_count s p n)
counts_by s p n c t pulsed u on short f k =
    go (rises c.before.ack c.after.ack) refl (rises c.before.req c.after.req) refl
  where
    h : Handshakes
    h = handshakes p

    run : ℕ
    run = run_count s p n

    pulses : pulsed ≡ true → pulses_here p ≡ true
    pulses e = u ∙ e

    plain : pulsed ≡ false → pulses_here p ≡ false
    plain e = u ∙ e

    req_before : c.before.req ≡ true → (bus p).req ≡ true
    req_before e = ap (λ (l : LineSet). l.req) on ∙ e

    ack_before : c.before.ack ≡ false → (bus p).ack ≡ false
    ack_before e = ap (λ (l : LineSet). l.ack) on ∙ e

    -- a byte is answered
    less : rises c.before.ack c.after.ack ≡ true → (v : Bool) → pulses_here p ≡ v
        → (h.answers < run) × (h.answers < h.requests)
    less e true v = let more = (f.answers e).1 v in let few = k.pulses v in (omega (arith, more, few), more)
    less e false v = k.waits v (req_before ((f.answers e).0 v)) (ack_before (up_before c.before.ack c.after.ack e).0)

    -- a byte is asked for
    asked : rises c.before.req c.after.req ≡ true
        → (pulses_here p ≡ true → h.requests + 1 ≤ run) × (pulses_here p ≡ false → h.answers < run)
    asked e = by (f.asks e).1
      where
        by : ((h.requests == 0) ≡ true)
            ⊎ ((pulses_here p ≡ false → h.answers < run) × (pulses_here p ≡ true → h.requests < run))
            → (pulses_here p ≡ true → h.requests + 1 ≤ run) × (pulses_here p ≡ false → h.answers < run)
        by (inl z) =
            let none = zero_of h.requests z in
            let few = k.asked in
            (λ v. omega (arith, none, k.some), λ v. omega (arith, none, few, k.some))
        by (inr z) = (λ v. let m = z.1 v in omega (arith, m), z.0)

    go : (a : Bool) → rises c.before.ack c.after.ack ≡ a → (r : Bool) → rises c.before.req c.after.req ≡ r
        → AreCounted (answered_if a t (asked_if r t h)) c.after pulsed run
    go true ea true er = no_both c.before.ack c.after.ack ea (f.asks er).0
    go true ea false er =
        let l = less ea (pulses_here p) refl in
        let one = count_more h.answers (let z = l.0 in omega (arith, z, short)) in
        record {
          some = k.some;
          asked = let z = l.1 in omega (arith, one, z);
          within = let z = l.0 in omega (arith, one, z);
          pulses = λ e. k.pulses (pulses e);
          waits = λ e q b. absurd (true≢false (sym (up_before c.before.ack c.after.ack ea).1 ∙ b));
        }
    go false ea true er =
        let m = asked er in
        let few = k.within in
        record {
          some = k.some;
          asked = still_asked h.answers h.requests k.asked (omega (arith, few, short));
          within = k.within;
          pulses = λ e. asked_within h.requests run (m.0 (pulses e));
          waits = λ e q b. (
            m.1 (plain e),
            asked_more h.answers h.requests k.asked (let z = m.1 (plain e) in omega (arith, z, short)),
          );
        }
    go false ea false er = record {
      some = k.some;
      asked = k.asked;
      within = k.within;
      pulses = λ e. k.pulses (pulses e);
      waits = λ e q b. let z = f.stays (plain e) q b er in k.waits (plain e) (req_before z.0) (ack_before z.1);
    }

-- A fault row changes no line.
fault_quiet : (p : List Row) (row : Row) → is_fault row.kind ≡ true
    → (rises (change_of p row).before.ack (change_of p row).after.ack ≡ false)
    × (rises (change_of p row).before.req (change_of p row).after.req ≡ false)
fault_quiet p row e = go row.kind refl e
  where
    go : (kind : Kind) → row.kind ≡ kind → is_fault kind ≡ true
        → (rises (change_of p row).before.ack (change_of p row).after.ack ≡ false)
        × (rises (change_of p row).before.req (change_of p row).after.req ≡ false)
    go (Drives l) f g = wrong' g
    go (Fault bit) f g =
        let is : row ≡ row_of_fault row.time row.dev bit = λ i. record { time = row.time; dev = row.dev; kind = f i } in
        let same = ap (change_of p) is ∙ fault_change p row.time row.dev bit (bus p) (drives p row.dev) refl refl in (
          ap (λ (c : Change). rises c.before.ack c.after.ack) same ∙ no_rise (bus p).ack,
          ap (λ (c : Change). rises c.before.req c.after.req) same ∙ no_rise (bus p).req,
        )

-- ---- the agreement stays

data_agreement : (d : Dialogue) (c : Change) → c.before.msg ≡ false → c.before.cd ≡ false
    → (byte_crosses d c).heard.now.agreement ≡ d.heard.now.agreement
data_agreement d c em ed = ap
    (λ (m : Bool). (if m && c.before.cd && not c.before.io then byte_out d (c.after.data_bits % 256) (not c.after.atn)
    else if m && c.before.cd && c.before.io then byte_in d (c.after.data_bits % 256)
    else byte_else d c.before (c.after.data_bits % 256)).heard.now.agreement) em
    ∙ ap (λ (m : Bool). (if not c.before.msg && m && not c.before.io then record d {
      heard = Rattle.due_model.specs.bus_phases.specs.Dialogue.heard_with_command d.heard (c.after.data_bits % 256);
      begun = true;
    } else record d { begun = true }).heard.now.agreement) ed
    ∙ ap (λ (b : Bool). (if b then record d {
      heard = Rattle.due_model.specs.bus_phases.specs.Dialogue.heard_with_command d.heard (c.after.data_bits % 256);
      begun = true;
    } else record d { begun = true }).heard.now.agreement) (none c.before.msg)
  where
    none : (m : Bool) → (not m && false && not c.before.io) ≡ false
    none true = refl
    none false = refl

agreement_by : (now : Bool) (c : Change) (d : Dialogue) → c.before.msg ≡ false → c.before.cd ≡ false
    → (dialogue_by false now c d).heard.now.agreement ≡ d.heard.now.agreement
agreement_by true c d em ed = data_agreement d c em ed
agreement_by false c d em ed = refl

pub data_pulses_stay : (s : ScenarioValue) (p : List Row) (row : Row) (n : Connection) (c : Change) → AreOfDevices p
    → row.dev < 8 → IsRowIn (run_state s p) row n c → changes_phase c ≡ false → (bus p).msg ≡ false → (bus p).cd ≡ false
    → pulses_here (row ∷ p) ≡ pulses_here p
data_pulses_stay s p row n c dv lt r ep em ed = by r.kind
  where
    k : RunState
    k = run_state s p

    pl : IsPlain s p k
    pl = run_state_plain s p dv

    ql : IsPlain s (row ∷ p) (run_state s (row ∷ p))
    ql = run_state_plain s (row ∷ p) (lt, dv)

    before : bus p ≡ c.before
    before = sym pl.bus ∙ r.bus_is

    same : SamePhase c.before c.after
    same = same_phase_is c ep

    made : (now fault : Bool) → InConnection s k row n c false now fault → pulses_here (row ∷ p) ≡ pulses_here p
    made now fault i =
        let after : bus (row ∷ p) ≡ c.after = sym ql.bus ∙ i.bus_is in
        let agreed : (dialogue (row ∷ p)).heard.now.agreement ≡ (dialogue p).heard.now.agreement =
        ap (λ (d : Dialogue). d.heard.now.agreement) (sym ql.dialogue ∙ i.dialogue_is)
        ∙ agreement_by now c k.story.bus_state.dialogue (ap (λ (l : LineSet). l.msg) (sym before) ∙ em)
        (ap (λ (l : LineSet). l.cd) (sym before) ∙ ed) ∙ ap (λ (d : Dialogue). d.heard.now.agreement) pl.dialogue in
        λ i. true && (not ((ap (λ (l : LineSet). l.msg) after ∙ same.msg ∙ ap (λ (l : LineSet). l.msg) (sym before)) i)
        && not ((ap (λ (l : LineSet). l.cd) after ∙ same.cd ∙ ap (λ (l : LineSet). l.cd) (sym before)) i))
        && nat_lt 0 (agreed i).offset

    none_crosses : receiver_in n c ≡ None → is_some (receiver_in n c) ≡ false
    none_crosses e = ap (λ (z : Option ℕ). is_some z) e

    by : RowKind row n c → pulses_here (row ∷ p) ≡ pulses_here p
    by (still ef e er) = made false false (in_connection s k row n c false false false r ep (none_crosses er) ef)
    by (strikes ef e er) = made false true (in_connection s k row n c false false true r ep (none_crosses er) ef)
    by (crosses dev ef e er) =
        made true false (in_connection s k row n c false true false r ep (ap (λ (z : Option ℕ). is_some z) er) ef)
    by (turns ef e er) = absurd (true≢false (sym e ∙ ep))

pub pulses_stay : (s : ScenarioValue) (p : List Row) (row : Row) (n : Connection) (c : Change) → AreOfDevices p
    → row.dev < 8 → IsRowIn (run_state s p) row n c → changes_phase c ≡ false → phase_of (bus p) ≡ Phase.DataOut
    → pulses_here (row ∷ p) ≡ pulses_here p
pulses_stay s p row n c dv lt r ep phase =
    let lines = run_lines (bus p) phase in
    data_pulses_stay s p row n c dv lt r ep lines.0 lines.1

-- ---- a row of the phase

pub counts_stay : (s : ScenarioValue) (p : List Row) (row : Row) (n : Connection)
    → changes_phase (change_of p row) ≡ false → connection (row ∷ p) ≡ Some n → pulses_here (row ∷ p) ≡ pulses_here p
    → run_count s (row ∷ p) n ≡ run_count s p n → phase_of (bus p) ≡ Phase.DataOut → run_count s p n < 2 ^ 64
    → OutStep s p n (change_of p row) → AreCounted (handshakes p) (bus p) (pulses_here p) (run_count s p n)
    → AreCounted (handshakes (row ∷ p)) (bus (row ∷ p)) (pulses_here (row ∷ p)) (run_count s (row ∷ p) n)
counts_stay s p row n ep after pulsed run phase short f k = subst
    (λ (x : ℕ). AreCounted (handshakes (row ∷ p)) (bus (row ∷ p)) (pulses_here (row ∷ p)) x) (sym run)
    (go (is_fault row.kind) refl)
  where
    c : Change
    c = change_of p row

    all : AreCounted (answered_if (rises c.before.ack c.after.ack) row.time
        (asked_if (rises c.before.req c.after.req) row.time (handshakes p))) c.after (pulses_here (row ∷ p))
        (run_count s p n)
    all = counts_by s p n c row.time (pulses_here (row ∷ p)) (sym pulsed) refl short f k

    io : c.before.io ≡ false
    io = (run_lines (bus p) phase).2

    go : (b : Bool) → is_fault row.kind ≡ b
        → AreCounted (handshakes (row ∷ p)) (bus (row ∷ p)) (pulses_here (row ∷ p)) (run_count s p n)
    go true e =
        let quiet = fault_quiet p row e in
        let same : handshakes (row ∷ p) ≡ handshakes p =
        ap (λ (b : Bool). handshakes_after b (connection (row ∷ p)) c row.time (handshakes p)) e
        ∙ ap (λ (b : Bool). newest_struck_if b (handshakes p)) io in
        let made : answered_if (rises c.before.ack c.after.ack) row.time
        (asked_if (rises c.before.req c.after.req) row.time (handshakes p)) ≡ handshakes p = λ i. answered_if
        (quiet.0 i) row.time (asked_if (quiet.1 i) row.time (handshakes p)) in
        subst (λ (h : Handshakes). AreCounted h (bus (row ∷ p)) (pulses_here (row ∷ p)) (run_count s p n)) (sym same)
        (subst (λ (h : Handshakes). AreCounted h c.after (pulses_here (row ∷ p)) (run_count s p n)) made all)
    go false e =
        let same : handshakes (row ∷ p) ≡ answered_if (rises c.before.ack c.after.ack) row.time
        (asked_if (rises c.before.req c.after.req) row.time (handshakes p)) =
        (λ i. handshakes_after (e i) (after i) c row.time (handshakes p))
        ∙ ap (λ (b : Bool). if b then no_handshakes else answered_if (rises c.before.ack c.after.ack) row.time
        (asked_if (rises c.before.req c.after.req) row.time (handshakes p))) ep in
        subst (λ (h : Handshakes). AreCounted h (bus (row ∷ p)) (pulses_here (row ∷ p)) (run_count s p n))
        (sym same) all
