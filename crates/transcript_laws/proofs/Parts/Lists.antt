-- The parts of a connection as a phase is over: those so far, and what the phase has carried.
use Rattle.transcript_laws.proofs
use proofs.Names.{◌≡◌, ◌∙◌, Bool, true, false, List, [], ◌∷◌, ◌++◌, Some, None, refl, sym, ap, not, ◌&&◌, ℕ}
use proofs.Names.{append_assoc, append-nil, if◌then◌else◌, LineSet, is_message_in, MsgOut, is_nil, is_parity_error}
use proofs.Names.{none_some, OpenedValue, held_part, settled, with_out, with_all_out, with_in, spoken, broken_off}
use proofs.Names.{phase_parts, with_phase, phase_over, Incoming, Broken, Part, is_void, out_parts, parts_now}

-- ---- as the messages of MESSAGE OUT stand

if_none : (q : Bool) → (if q then [] else held_part None) ≡ []
if_none true = refl
if_none false = refl

all_said : (o : OpenedValue) (said : List MsgOut) → (settled (with_all_out o said) false).parts
    ≡ (o.parts ++ ((if is_void said then [] else held_part o.held) ++ o.since)) ++ out_parts said
all_said o [] = sym (append-nil (o.parts ++ (held_part o.held ++ o.since)))
all_said o (m ∷ said) =
    let l : OpenedValue = with_out o m in
    let before : List Part = o.parts ++ ((if is_parity_error m then [] else held_part o.held) ++ o.since) in
    all_said l said
    ∙ (λ i. (before ++ (if_none (is_void said) i ++ Part.Out m ∷ [])) ++ out_parts said)
    ∙ append_assoc before (Part.Out m ∷ []) (out_parts said)

-- Each part that is settled is one so far.
pub spoken_parts : (o : OpenedValue) → (settled (spoken o) false).parts ≡ parts_now o
spoken_parts o = all_said (record o { said = [] }) o.said

pub record Spoken (o l : OpenedValue) : Type 0 where
  pub connection : l.connection ≡ o.connection
  pub bytes : l.bytes ≡ o.bytes
  pub struck : l.struck ≡ o.struck
  pub said : l.said ≡ o.said

all_spoken : (o : OpenedValue) (said : List MsgOut) → Spoken o (with_all_out o said)
all_spoken o [] = record { connection = refl; bytes = refl; struck = refl; said = refl }
all_spoken o (m ∷ said) =
    let h = all_spoken (with_out o m) said in
    record { connection = h.connection; bytes = h.bytes; struck = h.struck; said = h.said }

pub spoken_keeps : (o : OpenedValue) → Spoken (record o { said = [] }) (spoken o)
spoken_keeps o = all_spoken (record o { said = [] }) o.said

-- ---- what is held after them

pub none_held : (o : OpenedValue) (said : List MsgOut) → o.held ≡ None → (with_all_out o said).held ≡ None
none_held o [] e = e
none_held o (m ∷ said) e = none_held (with_out o m) said refl

-- It is what was held before, where nothing is said.
pub record Holds (o l : OpenedValue) : Type 0 where
  pub said : o.said ≡ []
  pub parts : l.parts ≡ o.parts
  pub held : l.held ≡ o.held
  pub since : l.since ≡ o.since

spoken_by : (o : OpenedValue) (said : List MsgOut) → o.said ≡ said → (m : Incoming)
    → (with_all_out (record o { said = [] }) said).held ≡ Some m → Holds o (with_all_out (record o { said = [] }) said)
spoken_by o [] e m held = record { said = e; parts = refl; held = refl; since = refl }
spoken_by o (x ∷ said) e m held = none_some m (sym (none_held (with_out (record o { said = [] }) x) said refl) ∙ held)

pub spoken_holds : (o : OpenedValue) (m : Incoming) → (spoken o).held ≡ Some m → Holds o (spoken o)
spoken_holds o m held = spoken_by o o.said refl m held

-- ---- as a phase is over

-- A message that is broken off.
abbrev pub broken_parts : LineSet → List ℕ → List Part
broken_parts l half = if is_message_in l && not (is_nil half) then Part.BrokenOff ∷ [] else []

abbrev left_parts : OpenedValue → List Part
left_parts o = o.parts ++ (held_part o.held ++ o.since)

broken_left : (o : OpenedValue) (q : Bool)
    → left_parts (if q then with_in o Broken else o) ≡ left_parts o ++ (if q then Part.BrokenOff ∷ [] else [])
broken_left o true = ap (λ (xs : List Part). left_parts o ++ xs) refl
broken_left o false = sym (append-nil (left_parts o))

broken_same : (o : OpenedValue) (q : Bool) → Spoken o (if q then with_in o Broken else o)
broken_same o true = record { connection = refl; bytes = refl; struck = refl; said = refl }
broken_same o false = record { connection = refl; bytes = refl; struck = refl; said = refl }

phase_left : (o : OpenedValue) (l : LineSet) (left : Bool)
    → left_parts (with_phase o l left) ≡ left_parts o ++ phase_parts o l left
phase_left o l left =
    ap (λ (xs : List Part). o.parts ++ xs) (sym (append_assoc (held_part o.held) o.since (phase_parts o l left)))
    ∙ sym (append_assoc o.parts (held_part o.held ++ o.since) (phase_parts o l left))

same_phase_parts : (o l : OpenedValue) (b : LineSet) (left : Bool) → l.bytes ≡ o.bytes → l.struck ≡ o.struck
    → phase_parts l b left ≡ phase_parts o b left
same_phase_parts o l b left bytes struck = λ i. phase_parts (record o { bytes = bytes i; struck = struck i }) b left

pub over_parts : (o : OpenedValue) (b : LineSet) (half : List ℕ) (left : Bool)
    → (settled (phase_over o b half left) false).parts ≡ (parts_now o ++ broken_parts b half) ++ phase_parts o b left
over_parts o b half left =
    let l : OpenedValue = broken_off (spoken o) b half in
    let g = spoken_keeps o in
    let h = broken_same (spoken o) (is_message_in b && not (is_nil half)) in
    phase_left l b left ∙ (λ i. broken_left (spoken o) (is_message_in b && not (is_nil half)) i
    ++ same_phase_parts o l b left (h.bytes ∙ g.bytes) (h.struck ∙ g.struck) i)
    ∙ (λ i. (spoken_parts o i ++ broken_parts b half) ++ phase_parts o b left)

pub record IsOver (o l : OpenedValue) : Type 0 where
  pub connection : l.connection ≡ o.connection
  pub bytes : l.bytes ≡ []
  pub struck : l.struck ≡ false
  pub said : l.said ≡ []

pub over_keeps : (o : OpenedValue) (l : LineSet) (half : List ℕ) (left : Bool) → IsOver o (phase_over o l half left)
over_keeps o l half left =
    let g = spoken_keeps o in
    let h = broken_same (spoken o) (is_message_in l && not (is_nil half)) in
    record { connection = h.connection ∙ g.connection; bytes = refl; struck = refl; said = h.said ∙ g.said }
