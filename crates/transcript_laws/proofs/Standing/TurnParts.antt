-- The parts of a connection as its next phase begins: what they say of the phase that was left, and of what MESSAGE
-- PARITY ERROR would bring back.
use Rattle.transcript_laws.proofs
use proofs.Names.{ℕ, ◌≡◌, ◌∙◌, ◌==◌, Bool, true, false, not, ◌&&◌, ◌||◌, List, [], ◌∷◌, ◌++◌, refl, sym, ap, eqb-true}
use proofs.Names.{if◌then◌else◌, wrong, wrong', and_first, and_second, Event, ProcId, LineSet, is_command, is_data}
use proofs.Names.{is_message_in, Connection, MsgOut, is_nil, same_bool_is, same_bool, bytes_are, CarriedBytes}
use proofs.Names.{is_status_phase, same_bytes, AccountValue, OpenedValue, with_part, with_out, with_all_out, with_in}
use proofs.Names.{spoken, data_parts, phase_parts, phase_over, phase_entered, Broken, Part, are_talk, base_parts}
use proofs.Names.{out_parts, parts_now, is_known, is_alike, first_byte, IsAccountOf, has_refusal, has_answer, IsMarked}
use proofs.{Parts.{Base.{base_turned}, Lists.{broken_parts, over_keeps}}, Serving.Talks.{talk_first}}
use proofs.{Serving.Turns.{both_none}, Standing.Stays.{talk_second}}

-- ---- the connection with its next phase

abbrev pub turned : OpenedValue → LineSet → LineSet → List ℕ → OpenedValue
turned o l after half = phase_entered (phase_over o l half true) after

-- Nothing is said in it, and no byte has crossed.
pub record IsTurned (o l : OpenedValue) : Type 0 where
  pub connection : l.connection ≡ o.connection
  pub bytes : l.bytes ≡ []
  pub said : l.said ≡ []

entered : (o l : OpenedValue) (q : Bool) → IsTurned o l → IsTurned o (if q then with_part l Part.StatusPhase else l)
entered o l true h = record { connection = h.connection; bytes = h.bytes; said = h.said }
entered o l false h = h

pub is_turned : (o : OpenedValue) (l after : LineSet) (half : List ℕ) → IsTurned o (turned o l after half)
is_turned o l after half =
    let h = over_keeps o l half true in
    entered o (phase_over o l half true) (is_status_phase after)
    (record { connection = h.connection; bytes = h.bytes; said = h.said })

-- ---- where all parts are messages

-- No COMMAND, no STATUS and no byte of data was there.
pub record IsTalk (o : OpenedValue) (l after : LineSet) : Type 0 where
  pub base : are_talk (base_parts o) ≡ true
  pub command : is_command l ≡ false
  pub status : is_status_phase after ≡ false
  pub bytes : is_data l ≡ true → o.bytes ≡ []

no_status_part : (q : Bool) → are_talk (if q then Part.StatusPhase ∷ [] else []) ≡ true → q ≡ false
no_status_part true e = wrong' e
no_status_part false e = refl

no_command_part : (q r out : Bool) (bytes : List ℕ) (struck : Bool)
    → are_talk (if q then Part.Command bytes struck true ∷ [] else if r then data_parts out bytes else []) ≡ true
    → q ≡ false
no_command_part true r out bytes struck e = wrong' e
no_command_part false r out bytes struck e = refl

no_data_part : (q r out : Bool) (bytes : List ℕ) (struck : Bool)
    → are_talk (if q then Part.Command bytes struck true ∷ [] else if r then data_parts out bytes else []) ≡ true
    → r ≡ true → bytes ≡ []
no_data_part true r out bytes struck e f = wrong' e
no_data_part false true out [] struck e f = refl
no_data_part false true out (b ∷ bytes) struck e f = wrong' e
no_data_part false false out bytes struck e f = wrong' f

pub talk_parts : (o : OpenedValue) (l after : LineSet) (half : List ℕ)
    → are_talk (base_parts (turned o l after half)) ≡ true → IsTalk o l after
talk_parts o l after half talk =
    let all = sym (ap are_talk (base_turned o l after half)) ∙ talk in
    let last = if is_status_phase after then Part.StatusPhase ∷ [] else [] in
    let two = talk_first ((parts_now o ++ broken_parts l half) ++ phase_parts o l true) last all in
    let phase = talk_second (parts_now o ++ broken_parts l half) (phase_parts o l true) two in
    let one = talk_first (parts_now o) (broken_parts l half)
    (talk_first (parts_now o ++ broken_parts l half) (phase_parts o l true) two) in
    record {
      base = talk_first (base_parts o) (out_parts o.said) one;
      command = no_command_part (is_command l) (is_data l) (not l.io) o.bytes o.struck phase;
      status = no_status_part (is_status_phase after)
          (talk_second ((parts_now o ++ broken_parts l half) ++ phase_parts o l true) last all);
      bytes = λ e. no_data_part (is_command l) (is_data l) (not l.io) o.bytes o.struck phase e;
    }

-- ---- its process is known

turned_by : (re t t' q a : Bool) → (t' ≡ true → (t ≡ true) × (q ≡ false)) → (not re || not t || q) ≡ true
    → (not re || not t' || a) ≡ true
turned_by false t t' q a f e = refl
turned_by true t false q a f e = refl
turned_by true true true true a f e = wrong (f refl).1
turned_by true true true false a f e = wrong' e
turned_by true false true q a f e = wrong' (f refl).0

-- It was known before.
pub known_stays : (o : OpenedValue) (l after : LineSet) (half : List ℕ) → is_known o l ≡ true
    → is_known (turned o l after half) after ≡ true
known_stays o l after half e =
    ap (λ (n : Connection). not n.reselected || not (are_talk (base_parts (turned o l after half))) || is_command after)
    (is_turned o l after half).connection
    ∙ turned_by o.connection.reselected (are_talk (base_parts o)) (are_talk (base_parts (turned o l after half)))
    (is_command l) (is_command after) (λ talk. let g = talk_parts o l after half talk in (g.base, g.command)) e

gets_by : (re t' a v z : Bool) → (t' ≡ true → (v ≡ false) × (z ≡ true)) → (a || v || not z) ≡ true
    → (not re || not t' || a) ≡ true
gets_by false t' a v z f e = refl
gets_by true false a v z f e = refl
gets_by true true true v z f e = refl
gets_by true true false true z f e = wrong (f refl).0
gets_by true true false false true f e = wrong' e
gets_by true true false false false f e = wrong' (f refl).1

-- It becomes known with COMMAND, STATUS, or bytes of data.
pub known_then : (o : OpenedValue) (l after : LineSet) (half : List ℕ)
    → (is_data l ≡ false → o.bytes ≡ []) → (is_command after || is_status_phase after || not (is_nil o.bytes)) ≡ true
    → is_known (turned o l after half) after ≡ true
known_then o l after half empty e =
    ap (λ (n : Connection). not n.reselected || not (are_talk (base_parts (turned o l after half))) || is_command after)
    (is_turned o l after half).connection
    ∙ gets_by o.connection.reselected (are_talk (base_parts (turned o l after half)))
    (is_command after) (is_status_phase after) (is_nil o.bytes)
    (λ talk. let g = talk_parts o l after half talk in (g.status, ap is_nil (by_data g (is_data l) refl))) e
  where
    by_data : IsTalk o l after → (q : Bool) → is_data l ≡ q → o.bytes ≡ []
    by_data g true f = g.bytes f
    by_data g false f = empty f

-- ---- no part came after the last message

entered_since : (o : OpenedValue) (q : Bool) → (if q then with_part o Part.StatusPhase else o).since ≡ []
    → (q ≡ false) × (o.since ≡ [])
entered_since o true e = absurd (filled_since o.since e)
  where
    filled_since : (xs : List Part) → (xs ++ Part.StatusPhase ∷ []) ≡ [] → ⊥
    filled_since [] f = absurd cc
    filled_since (x ∷ xs) f = absurd cc
entered_since o false e = (refl, e)

-- Something is said.
all_since : {A : Type 0} (o : OpenedValue) (m : MsgOut) (said : List MsgOut) → (with_all_out o (m ∷ said)).since ≡ []
    → A
all_since o m [] e = absurd cc
all_since o m (x ∷ said) e = all_since (with_out o m) x said e

spoken_since : (o : OpenedValue) → (spoken o).since ≡ [] → o.since ≡ []
spoken_since o e = go o.said refl e
  where
    go : (said : List MsgOut) → o.said ≡ said → (with_all_out (record o { said = [] }) said).since ≡ [] → o.since ≡ []
    go [] f z = z
    go (m ∷ said) f z = all_since (record o { said = [] }) m said z

no_phase_command : (o : OpenedValue) (q r out left : Bool)
    → (if q then Part.Command o.bytes o.struck left ∷ [] else if r then data_parts out o.bytes else []) ≡ [] → q ≡ false
no_phase_command o true r out left e = absurd cc
no_phase_command o false r out left e = refl

broken_since : (o : OpenedValue) (q : Bool) → (if q then with_in o Broken else o).since ≡ [] → q ≡ false → o.since ≡ []
broken_since o true e f = wrong f
broken_since o false e f = e

pub record IsQuiet (o : OpenedValue) (l after : LineSet) (half : List ℕ) : Type 0 where
  pub command : is_command l ≡ false
  pub status : is_status_phase after ≡ false
  pub since : (is_message_in l && not (is_nil half)) ≡ false → o.since ≡ []

pub quiet_since : (o : OpenedValue) (l after : LineSet) (half : List ℕ) → (turned o l after half).since ≡ []
    → IsQuiet o l after half
quiet_since o l after half e =
    let one = entered_since (phase_over o l half true) (is_status_phase after) e in
    let cut : OpenedValue = if is_message_in l && not (is_nil half) then with_in (spoken o) Broken else spoken o in
    let two = both_none cut.since (phase_parts cut l true) one.1 in
    record {
      command = no_phase_command cut (is_command l) (is_data l) (not l.io) true two.1;
      status = one.0;
      since = λ f. spoken_since o (broken_since (spoken o) (is_message_in l && not (is_nil half)) two.0 f);
    }

-- ---- what is alike

pub record IsSameCarried (u c : CarriedBytes) : Type 0 where
  pub block : u.block ≡ c.block
  pub struck : u.struck ≡ c.struck
  pub bytes : u.status.bytes ≡ c.status.bytes
  pub active : u.status.active ≡ c.status.active
  pub saved : u.status.saved ≡ c.status.saved
  pub shown : u.shown ≡ c.shown
  pub refused : u.refused ≡ c.refused

pub alike_is : (u c : CarriedBytes) → is_alike u c ≡ true → IsSameCarried u c
alike_is u c e =
    let six = and_first (same_bytes u.block c.block && same_bool u.struck c.struck
    && same_bytes u.status.bytes c.status.bytes && u.status.active == c.status.active
    && u.status.saved == c.status.saved && same_bool u.shown c.shown) (same_bool u.refused c.refused) e in
    let five = and_first
    (same_bytes u.block c.block && same_bool u.struck c.struck && same_bytes u.status.bytes c.status.bytes
    && u.status.active == c.status.active && u.status.saved == c.status.saved) (same_bool u.shown c.shown) six in
    let four = and_first (same_bytes u.block c.block && same_bool u.struck c.struck
    && same_bytes u.status.bytes c.status.bytes && u.status.active == c.status.active)
    (u.status.saved == c.status.saved) five in
    let three = and_first (same_bytes u.block c.block && same_bool u.struck c.struck
    && same_bytes u.status.bytes c.status.bytes) (u.status.active == c.status.active) four in
    let two = and_first (same_bytes u.block c.block && same_bool u.struck c.struck)
    (same_bytes u.status.bytes c.status.bytes) three in
    record {
      block = bytes_are u.block c.block (and_first (same_bytes u.block c.block) (same_bool u.struck c.struck) two);
      struck =
          same_bool_is u.struck c.struck (and_second (same_bytes u.block c.block) (same_bool u.struck c.struck) two);
      bytes = bytes_are u.status.bytes c.status.bytes (and_second
          (same_bytes u.block c.block && same_bool u.struck c.struck) (same_bytes u.status.bytes c.status.bytes) three);
      active = eqb-true u.status.active c.status.active (and_second
          (same_bytes u.block c.block && same_bool u.struck c.struck && same_bytes u.status.bytes c.status.bytes)
          (u.status.active == c.status.active) four);
      saved = eqb-true u.status.saved c.status.saved (and_second
          (same_bytes u.block c.block && same_bool u.struck c.struck && same_bytes u.status.bytes c.status.bytes
          && u.status.active == c.status.active) (u.status.saved == c.status.saved) five);
      shown = same_bool_is u.shown c.shown (and_second
          (same_bytes u.block c.block && same_bool u.struck c.struck && same_bytes u.status.bytes c.status.bytes
          && u.status.active == c.status.active && u.status.saved == c.status.saved) (same_bool u.shown c.shown) six);
      refused = same_bool_is u.refused c.refused (and_second
          (same_bytes u.block c.block && same_bool u.struck c.struck && same_bytes u.status.bytes c.status.bytes
          && u.status.active == c.status.active && u.status.saved == c.status.saved && same_bool u.shown c.shown)
          (same_bool u.refused c.refused) e);
    }

-- The account of one is that of the other.
pub alike_account : (u c : CarriedBytes) (a : AccountValue) → IsSameCarried u c → IsAccountOf a c → IsAccountOf a u
alike_account u c a h g = record {
  block = g.block ∙ sym h.block;
  struck = g.struck ∙ sym h.struck;
  first = g.first ∙ sym (ap (λ (m : ℕ). m == 0) h.active);
  saved = h.saved ∙ g.saved;
  status = g.status ∙ sym (ap first_byte h.bytes);
  begun = (λ i. is_nil (h.bytes i) && not (h.active i == 0)) ∙ g.begun;
  shown = λ e. g.shown (sym h.refused ∙ e) ∙ sym h.shown;
}

pub alike_marked : (history : List Event) (u c : CarriedBytes) → u.id ≡ c.id → IsSameCarried u c → IsMarked history c
    → IsMarked history u
alike_marked history u c same h m = record {
  refused = h.refused ∙ m.refused ∙ ap (λ (x : ProcId). has_refusal history x) (sym same);
  shown = h.shown ∙ m.shown ∙ ap (λ (x : ProcId). has_answer history x) (sym same);
  apart = λ e. h.shown ∙ m.apart (sym h.refused ∙ e);
  saved = h.saved ∙ m.saved;
}
