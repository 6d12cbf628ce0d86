-- The measure falls with each row inside a phase of a connection.
use Rattle.measure_laws.proofs
use proofs.Names.{ℕ, suc, ◌≡◌, ◌≤◌, ◌<◌, ◌∙◌, Bool, true, false, List, ◌∷◌, refl, sym, ap, subst, arith, Some, ◌&&◌}
use proofs.Names.{ltb-true, ◌==◌, not, if◌then◌else◌, nat_lt, wrong, LineSet, connection, bus, Row, Connection}
use proofs.Names.{Handshakes, handshakes, ScenarioValue, Obeys, begun, phase_of, follows_in, Phase, IsPrompt}
use proofs.Names.{AreOfDevices, run_state, serving_at, obeys_fits, least_is, EndLines, Linked, offering_with}
use proofs.Names.{initiator_row, target_row, runs_are_short, Settling, Shaking, ends, run_count, by_bool, PhaseRow}
use proofs.Names.{is_pulsed, pulsed_as, Whole, standing_next, whole, read_books, is_data_in, measure}
use proofs.{Balances.Facts.{all_answered, kind_of_row}, Lines.Endings.{TellsFirst, row_first}, Phases.Asks.{HasRoomOut}}
use proofs.Phases.{Asks.{offered_asks_by, room_in, room_out, settled_asks_by, shaking_asks_by}, Bytes.{shift_told}}
use proofs.Phases.CalmKinds.{pulsing_changes, pulsing_ends_ack, pulsing_ends_req, pulsing_gives, pulsing_releases}
use proofs.Phases.CalmKinds.{settling_hands, shaking_ends_ack_in, shaking_ends_ack_out, shaking_ends_req, shaking_gives}
use proofs.Phases.{CalmKinds.{turning_offers, turning_releases}, Pulses.{pulsing_answers, pulsing_asks_in}}
use proofs.Phases.{Pulses.{pulsing_asks_out, pulsing_sends}, Room.{first_room_in, next_room_in}, Rows.{shaking_answers}}
use proofs.{Phases.Rows.{shaking_answers_data, shaking_sends_by, shaking_sends_data}, Words.Rows.{words_first}}
use proofs.Words.{Rows.{words_next, words_say}, Takes.{takes_few}}
use Rattle.progress_laws.specs.row_laws.proofs.Lines.Phases as kinds

abbrev pub FallsWith : ScenarioValue → List Row → Row → Type 0
FallsWith s p row = suc (measure s (row ∷ p)) ≤ measure s p

-- A phase begins with the row, or is left; or a byte of it is struck.
abbrev pub is_edge : {s : ScenarioValue} {p : List Row} {n : Connection} {row : Row} → PhaseRow s p n row → Bool
is_edge (kinds.opens h e) = true
is_edge (kinds.strikes f bit h b got who e) = true
is_edge (kinds.leaves atn msg cd io x y h b known asked rest follows e) = true
is_edge _ = false

-- ---- REQ rises first in DATA IN

reads_some : (s : ScenarioValue) (p : List Row) (n : Connection) (e : EndLines) → Obeys s → IsPrompt s p → Linked p n e
    → begun p ≡ true → e.msg ≡ false → e.cd ≡ false → e.io ≡ true → 1 ≤ run_count s p n
reads_some s p n e o prompt h b m c i =
    let on = h.stands.bus_is in
    let data_in : is_data_in (bus p) ≡ true = ap is_data_in on ∙ (λ j. not (m j) && not (c j) && i j) in
    ((read_books s p o prompt).counts n h.stands.connection_is (ap (λ (l : LineSet). l.rst) on) b data_in).some

-- ---- REQ rises in DATA OUT

first_out : (s : ScenarioValue) (p : List Row) (n : Connection) (bsy atn : Bool) (y : ℕ) → Obeys s → Whole s p
    → Settling p n bsy atn false false false y → HasRoomOut false (handshakes p).requests (run_count s p n)
first_out s p n bsy atn y o was h =
    let some = (was.sends.counts.counts n h.linked.stands.connection_is
    (ap (λ (l : LineSet). l.rst) h.linked.stands.bus_is) h.phase.begun_is (ap phase_of h.linked.stands.bus_is)).some in
    (subst (λ (x : Handshakes). x.requests < run_count s p n) (sym h.quiet) some, runs_are_short s (obeys_fits s o) p n)

below : (a b c : ℕ) → a ≤ b → b < c → a < c
below a b c h e = omega (arith, h, e)

next_out : (s : ScenarioValue) (p : List Row) (n : Connection) (atn : Bool) (y : ℕ)
    → Obeys s → IsPrompt s p → Shaking p n false false false false false atn 0 y
    → (offering_with s p n true (ends false false atn 0 false false false false y)).follows ≡ true
    → HasRoomOut false (handshakes p).requests (run_count s p n)
next_out s p n atn y o prompt h follows =
    let e : EndLines = ends false false atn 0 false false false false y in
    let less : nat_lt (handshakes p).answers (run_count s p n) ≡ true =
    sym (ap (λ (q : Bool). if q then nat_lt (handshakes p).requests (run_count s p n)
    else follows_in (serving_at s (run_state s p) n.target Phase.DataOut) (handshakes p) atn Phase.DataOut) h.unpulsed)
    ∙ follows in
    let all = all_answered s p o prompt n h.linked.stands.connection_is
    (ap (λ (l : LineSet). l.rst) h.linked.stands.bus_is) h.phase.begun_is (sym (pulsed_as p n e h.linked) ∙ h.unpulsed)
    (ap (λ (l : LineSet). l.req && not l.ack) h.linked.stands.bus_is) in (
      below (handshakes p).requests (handshakes p).answers (run_count s p n) all
          (ltb-true (handshakes p).answers (run_count s p n) less),
      runs_are_short s (obeys_fits s o) p n,
    )

-- ---- the kinds in which REQ rises, by the phase

settled_asks : (s : ScenarioValue) (p : List Row) (row : Row) (n : Connection) (bsy atn msg cd io : Bool) (y : ℕ)
    → Obeys s → IsPrompt s p → Whole s p → AreOfDevices p → Settling p n bsy atn msg cd io y
    → row ≡ target_row row.time n (ends bsy false atn 0 msg cd io true y) → FallsWith s p row
settled_asks s p row n bsy atn msg cd true y o prompt was dv h e =
    let planned = was.stood.planned n h.linked.stands.connection_is
    (ap (λ (l : LineSet). l.rst) h.linked.stands.bus_is) in
    let run : msg ≡ false → cd ≡ false → 1 ≤ run_count s p n = λ m c. reads_some s p n
    (ends bsy false atn 0 msg cd true false y) o prompt h.linked h.phase.begun_is m c refl in
    subst (FallsWith s p) (sym e) (settled_asks_by s p row.time n bsy atn msg cd true y dv h
    (room_in s p row.time n bsy atn msg cd y (is_pulsed p (ends bsy false atn 0 msg cd true false y)) dv h.linked
    h.phase.begun_is refl (first_room_in s p n bsy atn msg cd y o dv planned h.linked h.quiet run)))
settled_asks s p row n bsy atn true cd false y o prompt was dv h e = subst (FallsWith s p) (sym e)
    (settled_asks_by s p row.time n bsy atn true cd false y dv h (words_first s p row.time n bsy atn cd y o prompt h))
settled_asks s p row n bsy atn false true false y o prompt was dv h e =
    subst (FallsWith s p) (sym e) (settled_asks_by s p row.time n bsy atn false true false y dv h
    (room_out s p row.time n bsy atn true y (is_pulsed p (ends bsy false atn 0 false true false false y)) dv h.linked
    h.phase.begun_is refl (subst (λ (x : Handshakes). x.requests < 12) (sym h.quiet) (omega arith))))
settled_asks s p row n bsy atn false false false y o prompt was dv h e =
    subst (FallsWith s p) (sym e) (settled_asks_by s p row.time n bsy atn false false false y dv h
    (room_out s p row.time n bsy atn false y (is_pulsed p (ends bsy false atn 0 false false false false y)) dv h.linked
    h.phase.begun_is refl (first_out s p n bsy atn y o was h)))

next_asks : (s : ScenarioValue) (p : List Row) (row : Row) (n : Connection) (atn msg cd io : Bool) (y : ℕ)
    → Obeys s → IsPrompt s p → AreOfDevices p → Shaking p n msg cd io false false atn 0 y
    → (offering_with s p n true (ends false false atn 0 msg cd io false y)).follows ≡ true
    → row ≡ target_row row.time n (ends false false atn 0 msg cd io true y) → FallsWith s p row
next_asks s p row n atn msg cd true y o prompt dv h follows e =
    subst (FallsWith s p) (sym e) (shaking_asks_by s p row.time n atn msg cd true y dv h (room_in s p row.time n false
    atn msg cd y false dv h.linked h.phase.begun_is h.unpulsed (next_room_in s p n atn msg cd y o h follows)))
next_asks s p row n atn true cd false y o prompt dv h follows e = subst (FallsWith s p) (sym e)
    (shaking_asks_by s p row.time n atn true cd false y dv h (words_next s p row.time n atn cd y o prompt h follows))
next_asks s p row n atn false true false y o prompt dv h follows e =
    subst (FallsWith s p) (sym e) (shaking_asks_by s p row.time n atn false true false y dv h (room_out s p row.time n
    false atn true y false dv h.linked h.phase.begun_is h.unpulsed (takes_few s p n atn y o prompt h follows)))
next_asks s p row n atn false false false y o prompt dv h follows e =
    subst (FallsWith s p) (sym e) (shaking_asks_by s p row.time n atn false false false y dv h (room_out s p row.time n
    false atn false y false dv h.linked h.phase.begun_is h.unpulsed (next_out s p n atn y o prompt h follows)))

-- ---- ACK rises byte by byte

in_answers : (s : ScenarioValue) (p : List Row) (row : Row) (n : Connection) (atn to msg cd : Bool) (y : ℕ)
    → AreOfDevices p → TellsFirst s p row → Shaking p n msg cd true true false atn 0 y
    → row ≡ initiator_row row.time n (ends false true to 0 msg cd true true y) → FallsWith s p row
in_answers s p row n atn to false cd y dv first h e =
    subst (FallsWith s p) (sym e) (shaking_answers_data s p row.time n atn to cd y dv h)
in_answers s p row n atn to true cd y dv first h e = subst (FallsWith s p) (sym e) (shaking_answers s p row.time n atn
    to true cd y dv h (shift_told s p row.time n (ends false false atn 0 true cd true true y) false true to 0 false dv
    h.linked h.phase.begun_is h.unpulsed (subst (TellsFirst s p) e first)))

out_sends : (s : ScenarioValue) (p : List Row) (row : Row) (n : Connection) (atn msg cd : Bool) (x : ℕ)
    → Obeys s → IsPrompt s p → AreOfDevices p → Shaking p n msg cd false true false atn x 0 → (x == 0) ≡ false
    → row ≡ initiator_row row.time n (ends false true atn x msg cd false true 0) → FallsWith s p row
out_sends s p row n atn false cd x o prompt dv h some e =
    subst (FallsWith s p) (sym e) (shaking_sends_data s p row.time n atn cd x dv h some)
out_sends s p row n atn true cd x o prompt dv h some e = subst (FallsWith s p) (sym e)
    (shaking_sends_by s p row.time n atn true cd x dv h some (words_say s p row.time n atn cd x o prompt h))

-- ---- any row

pub inside_falls : (s : ScenarioValue) (p : List Row) (row : Row) (n : Connection) → Obeys s → IsPrompt s p
    → AreOfDevices p → TellsFirst s p row → (f : PhaseRow s p n row) → is_edge f ≡ false → FallsWith s p row
inside_falls s p row n o prompt dv first (kinds.hands atn msg cd io y h e) z =
    subst (FallsWith s p) (sym e) (settling_hands s p row.time n atn msg cd io y dv h)
inside_falls s p row n o prompt dv first (kinds.releases atn x msg cd h some e) z =
    subst (FallsWith s p) (sym e) (turning_releases s p row.time n atn x msg cd dv h some)
inside_falls s p row n o prompt dv first (kinds.offers atn x msg cd h e) z =
    subst (FallsWith s p) (sym e) (turning_offers s p row.time n atn x msg cd _ dv h)
inside_falls s p row n o prompt dv first (kinds.asks_settled bsy atn msg cd io y h e) z =
    settled_asks s p row n bsy atn msg cd io y o prompt (whole s p o prompt) dv h e
inside_falls s p row n o prompt dv first (kinds.asks_offered atn msg cd y h e) z =
    let planned = (whole s p o prompt).stood.planned n h.linked.stands.connection_is
    (ap (λ (l : LineSet). l.rst) h.linked.stands.bus_is) in
    let run : msg ≡ false → cd ≡ false → 1 ≤ run_count s p n = λ m c. reads_some s p n
    (ends false false atn 0 msg cd true false y) o prompt h.linked h.phase.begun_is m c refl in
    subst (FallsWith s p) (sym e) (offered_asks_by s p row.time n atn msg cd y dv h
    (room_in s p row.time n false atn msg cd y (is_pulsed p (ends false false atn 0 msg cd true false y)) dv h.linked
    h.phase.begun_is refl (first_room_in s p n false atn msg cd y o dv planned h.linked h.quiet run)))
inside_falls s p row n o prompt dv first (kinds.answers atn to msg cd y h rose e) z =
    in_answers s p row n atn to msg cd y dv first h e
inside_falls s p row n o prompt dv first (kinds.ends_ack_in atn msg cd y h e) z =
    subst (FallsWith s p) (sym e) (shaking_ends_ack_in s p row.time n atn msg cd y dv h)
inside_falls s p row n o prompt dv first (kinds.gives atn msg cd h e) z =
    subst (FallsWith s p) (sym e) (shaking_gives s p row.time n atn _ msg cd _ dv h)
inside_falls s p row n o prompt dv first (kinds.sends atn msg cd x h some e) z =
    out_sends s p row n atn msg cd x o prompt dv h some e
inside_falls s p row n o prompt dv first (kinds.ends_ack_out atn msg cd x h e) z =
    subst (FallsWith s p) (sym e) (shaking_ends_ack_out s p row.time n atn msg cd x dv h)
inside_falls s p row n o prompt dv first (kinds.ends_req atn msg cd io x y h e) z =
    subst (FallsWith s p) (sym e) (shaking_ends_req s p row.time n atn msg cd io x y _ dv h)
inside_falls s p row n o prompt dv first (kinds.asks_next atn msg cd io y h follows e) z =
    next_asks s p row n atn msg cd io y o prompt dv h follows e
inside_falls s p row n o prompt dv first (kinds.ends_ack_pulse io req atn x y h e) z =
    subst (FallsWith s p) (sym e) (pulsing_ends_ack s p row.time n io req atn x y dv h)
inside_falls s p row n o prompt dv first (kinds.answers_pulse req atn to y h waits rose e) z =
    subst (FallsWith s p) (sym e) (pulsing_answers s p row.time n req atn to y dv h waits)
inside_falls s p row n o prompt dv first (kinds.gives_pulse req atn x h waits other e) z =
    subst (FallsWith s p) (sym e) (pulsing_gives s p row.time n req atn x dv h waits other)
inside_falls s p row n o prompt dv first (kinds.sends_pulse req atn x h waits byte e) z =
    subst (FallsWith s p) (sym e) (pulsing_sends s p row.time n req atn x dv h waits)
inside_falls s p row n o prompt dv first (kinds.releases_pulse req atn x h none some e) z =
    subst (FallsWith s p) (sym e) (pulsing_releases s p row.time n req atn x dv h none some)
inside_falls s p row n o prompt dv first (kinds.ends_req_pulse io ack atn x y h e) z =
    subst (FallsWith s p) (sym e) (pulsing_ends_req s p row.time n io ack atn x y dv h)
inside_falls s p row n o prompt dv first (kinds.changes_pulse ack atn y h other e) z =
    subst (FallsWith s p) (sym e) (pulsing_changes s p row.time n ack atn y dv h other)
inside_falls s p row n o prompt dv first (kinds.asks_pulse_in ack atn y h byte follows room e) z =
    subst (FallsWith s p) (sym e) (pulsing_asks_in s p row.time n ack atn y o dv h follows)
inside_falls s p row n o prompt dv first (kinds.asks_pulse_out ack atn x h follows room e) z =
    subst (FallsWith s p) (sym e) (pulsing_asks_out s p row.time n ack atn x o dv h follows)
inside_falls s p row n o prompt dv first _ z = wrong z

-- The same of the next row of a prompt trace: it falls, or is of one of these three kinds.
pub data InsideOrEdge (s : ScenarioValue) (p : List Row) (row : Row) (n : Connection) : Type 0 where
  inside : FallsWith s p row → InsideOrEdge s p row n
  edge : (e : PhaseRow s p n row) → is_edge e ≡ true → InsideOrEdge s p row n

pub connection_falls : (s : ScenarioValue) (p : List Row) (row : Row) (n : Connection) → Obeys s → IsPrompt s (row ∷ p)
    → connection p ≡ Some n → (bus p).rst ≡ false → (bus (row ∷ p)).rst ≡ false → InsideOrEdge s p row n
connection_falls s p row n o prompt con calm off =
    by_bool (is_edge h)
    (λ e. edge h e)
    (λ e. inside (inside_falls s p row n o prompt.0 was.stood.standing.devices first h e))
  where
    was : Whole s p
    was = whole s p o prompt.0

    h : PhaseRow s p n row
    h = kind_of_row s p row n o prompt was.stood con calm off

    first : TellsFirst s p row
    first = row_first s p row n (least_is s p row prompt.1).inside was (standing_next s p row o prompt was) con calm off
