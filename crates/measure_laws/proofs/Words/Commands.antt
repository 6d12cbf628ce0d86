-- In COMMAND no more bytes are answered than the rules count, and so fewer than 12 are asked for.
use Rattle.measure_laws.proofs
use proofs.Names.{ℕ, ◌≡◌, ◌≤◌, ◌<◌, ◌∙◌, Bool, true, false, List, [], ◌∷◌, refl, sym, ap, arith, Some, None, ◌&&◌, ◌%◌}
use proofs.Names.{◌^◌, if◌then◌else◌, is_some, not, ◌||◌, wrong, counted_on, change_of, rises, LineSet, changes_phase}
use proofs.Names.{connection, is_fault, bus, Kind, Drives, Fault, Row, Connection, Handshakes, answered_if, asked_if}
use proofs.Names.{handshakes, handshakes_after, no_handshakes, newest_struck_if, byte_crosses, byte_in, byte_out}
use proofs.Names.{dialogue, heard_with_command, phase_begins, Dialogue, ScenarioValue, Obeys, begun, begun_after}
use proofs.Names.{IsPrompt, same_phase_is, BeginsConnection, by_reselection, by_selection, terms_after, by_bool}
use proofs.Names.{RowKindOf, begins_now, goes_now, row_kind, handshakes_begin, or_left, whole}

-- The lines of COMMAND.
pub record InCommand (b : LineSet) : Type 0 where
  pub msg : b.msg ≡ false
  pub cd : b.cd ≡ true
  pub io : b.io ≡ false

pub record IsTaken (p : List Row) : Type 0 where
  pub few : (handshakes p).answers ≤ (dialogue p).heard.now.command.count
  pub bounded : (handshakes p).answers < 2 ^ 64

none_taken : (p : List Row) → handshakes p ≡ no_handshakes → IsTaken p
none_taken p e =
    let z = ap (λ (h : Handshakes). h.answers) e in
    record { few = omega (arith, z); bounded = omega (arith, z) }

-- As ACK rises both count on.
count_with : (p : List Row) (row : Row) (n : Connection) → connection p ≡ Some n
    → connection (row ∷ p) ≡ Some n → changes_phase (change_of p row) ≡ false → InCommand (bus p)
    → (r : Bool) → rises (bus p).ack (bus (row ∷ p)).ack ≡ r → (dialogue (row ∷ p)).heard.now.command.count
    ≡ (if r then counted_on (dialogue p).heard.now.command.count else (dialogue p).heard.now.command.count)
count_with p row n con after ep h true up =
    let c = change_of p row in
    let d = dialogue p in
    let byte = c.after.data_bits % 256 in
    let z = terms_after p row n c refl con after in
    ap (λ (v : Dialogue). v.heard.now.command.count) z.dialogue_is
    ∙ (λ i. (if is_some (if h.io i then (if rises c.before.req c.after.req then Some n.initiator else None)
    else (if up i then Some n.target else None))
    then (if h.msg i && h.cd i && not (h.io i) then byte_out d byte (not c.after.atn) else
    if h.msg i && h.cd i && h.io i then byte_in d byte else if not (h.msg i) && h.cd i && not (h.io i) then record d {
      heard = heard_with_command d.heard byte;
      begun = true;
    } else record d { begun = true }) else if ep i then phase_begins d else d).heard.now.command.count)
count_with p row n con after ep h false up =
    let c = change_of p row in
    let d = dialogue p in
    let z = terms_after p row n c refl con after in
    ap (λ (v : Dialogue). v.heard.now.command.count) z.dialogue_is
    ∙ (λ i. (if is_some (if h.io i then (if rises c.before.req c.after.req then Some n.initiator else None)
    else (if up i then Some n.target else None)) then byte_crosses d c
    else if ep i then phase_begins d else d).heard.now.command.count)

answers_asked : (b : Bool) (t : ℕ) (h : Handshakes) → (asked_if b t h).answers ≡ h.answers
answers_asked true t h = refl
answers_asked false t h = refl

answers_struck : (b : Bool) (h : Handshakes) → (newest_struck_if b h).answers ≡ h.answers
answers_struck true h = refl
answers_struck false h = refl

answers_with : (r b : Bool) (t : ℕ) (h : Handshakes)
    → (answered_if r t (asked_if b t h)).answers ≡ (if r then counted_on h.answers else h.answers)
answers_with true b t h = ap counted_on (answers_asked b t h)
answers_with false b t h = answers_asked b t h

taken_by : (r : Bool) (a c x y : ℕ) → y ≡ (if r then counted_on c else c) → x ≡ (if r then counted_on a else a) → a ≤ c
    → a < 2 ^ 64 → (x ≤ y) × (x < 2 ^ 64)
taken_by true a c x y ey ex few bounded = (omega (arith, ey, ex, few, bounded), omega (arith, ey, ex, few, bounded))
taken_by false a c x y ey ex few bounded = (omega (arith, ey, ex, few), omega (arith, ex, bounded))

kept_by : (r : Bool) (a c x y : ℕ) → y ≡ (if r then counted_on c else c) → x ≡ a → a ≤ c → a < 2 ^ 64
    → (x ≤ y) × (x < 2 ^ 64)
kept_by true a c x y ey ex few bounded = (omega (arith, ey, ex, few, bounded), omega (arith, ex, bounded))
kept_by false a c x y ey ex few bounded = (omega (arith, ey, ex, few), omega (arith, ex, bounded))

stays_taken : (p : List Row) (row : Row) (n : Connection) → connection p ≡ Some n → connection (row ∷ p) ≡ Some n
    → changes_phase (change_of p row) ≡ false → InCommand (bus p) → IsTaken p → IsTaken (row ∷ p)
stays_taken p row n con after ep h was = go row.kind refl
  where
    r : Bool
    r = rises (bus p).ack (bus (row ∷ p)).ack

    made : ((handshakes (row ∷ p)).answers ≤ (dialogue (row ∷ p)).heard.now.command.count)
        × ((handshakes (row ∷ p)).answers < 2 ^ 64)
        → IsTaken (row ∷ p)
    made (a, b) = record { few = a; bounded = b }

    count : (dialogue (row ∷ p)).heard.now.command.count
        ≡ (if r then counted_on (dialogue p).heard.now.command.count else (dialogue p).heard.now.command.count)
    count = count_with p row n con after ep h r refl

    go : (kind : Kind) → row.kind ≡ kind → IsTaken (row ∷ p)
    go (Drives l) e =
        let c = change_of p row in
        let hand : handshakes (row ∷ p)
        ≡ answered_if r row.time (asked_if (rises c.before.req c.after.req) row.time (handshakes p)) =
        (λ i. handshakes_after (is_fault (e i)) (after i) c row.time (handshakes p))
        ∙ ap (λ (b : Bool). if b then no_handshakes
        else answered_if r row.time (asked_if (rises c.before.req c.after.req) row.time (handshakes p))) ep in
        made (taken_by r (handshakes p).answers (dialogue p).heard.now.command.count _ _ count
        (ap (λ (x : Handshakes). x.answers) hand
        ∙ answers_with r (rises c.before.req c.after.req) row.time (handshakes p)) was.few was.bounded)
    go (Fault bit) e =
        let c = change_of p row in
        let same : (handshakes (row ∷ p)).answers ≡ (handshakes p).answers =
        (λ i. (handshakes_after (is_fault (e i)) (after i) c row.time (handshakes p)).answers)
        ∙ answers_struck c.before.io (handshakes p) in
        made (kept_by r (handshakes p).answers (dialogue p).heard.now.command.count _ _ count same was.few was.bounded)

next_taken : (p : List Row) (row : Row) (n : Connection) → connection p ≡ Some n → connection (row ∷ p) ≡ Some n
    → InCommand (bus (row ∷ p)) → (changes_phase (change_of p row) ≡ false → InCommand (bus p) → IsTaken p)
    → IsTaken (row ∷ p)
next_taken p row n con after here was = by_bool (changes_phase (change_of p row))
    (λ ep. none_taken (row ∷ p) (handshakes_begin p row n after ep))
    (λ ep. let z = same_phase_is (change_of p row) ep in let before : InCommand (bus p) = record {
      msg = sym z.msg ∙ here.msg;
      cd = sym z.cd ∙ here.cd;
      io = sym z.io ∙ here.io;
    } in stays_taken p row n con after ep before (was ep before))

first_taken : (p : List Row) (n : Connection) → BeginsConnection p n → begun p ≡ true → IsTaken p
first_taken p n (by_selection h) b = wrong (sym b ∙ h.begun_is)
first_taken p n (by_reselection y h) b = none_taken p h.handshakes_are

pub taken : (s : ScenarioValue) (p : List Row) → Obeys s → IsPrompt s p → (n : Connection) → connection p ≡ Some n
    → (bus p).rst ≡ false → begun p ≡ true → InCommand (bus p) → IsTaken p
taken s [] o prompt n con calm b here = absurd cc
taken s (row ∷ p) o prompt n con calm b here =
    go (taken s p o prompt.0) (row_kind s p row n o prompt (whole s p o prompt.0).stood con calm)
  where
    go : ((m : Connection) → connection p ≡ Some m → (bus p).rst ≡ false → begun p ≡ true → InCommand (bus p)
        → IsTaken p) → RowKindOf s p row n → IsTaken (row ∷ p)
    go before (begins_now alone f) = first_taken (row ∷ p) n f.begins b
    go before (goes_now was off) = next_taken p row n was con here (λ ep h. before n was off (stood_begun was ep) h)
      where
        stood_begun : connection p ≡ Some n → changes_phase (change_of p row) ≡ false → begun p ≡ true
        stood_begun e ep = or_left (begun p)
            ((λ i. sym ep i || begun p) ∙ (λ i. begun_after (begun p) (sym e i) (sym con i) (change_of p row)) ∙ b)
