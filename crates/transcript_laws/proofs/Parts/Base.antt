-- What each row adds to the parts so far.
use Rattle.transcript_laws.proofs
use proofs.Names.{ℕ, ◌≡◌, ◌∙◌, Bool, true, false, List, [], ◌∷◌, ◌++◌, sym, ap, append_assoc, append-nil, if◌then◌else◌}
use proofs.Names.{LineSet, MsgOut, is_status_phase, OpenedValue, incoming_part, held_part, with_part, with_in}
use proofs.Names.{phase_parts, phase_over, phase_entered, Incoming, Part, is_void, held_parts, base_parts, parts_now}
use proofs.Parts.Lists.{over_parts, over_keeps, broken_parts}

-- ---- a part more

pub base_more : (o : OpenedValue) (part : Part) → base_parts (with_part o part) ≡ base_parts o ++ part ∷ []
base_more o part = ap (λ (xs : List Part). o.parts ++ xs) (sym (append_assoc (held_parts o) o.since (part ∷ [])))
    ∙ sym (append_assoc o.parts (held_parts o ++ o.since) (part ∷ []))

-- ---- messages

-- Nothing is said.
pub silent : (o : OpenedValue) → o.said ≡ [] → o ≡ record o { said = [] }
silent o e = λ i. record o { said = e i }

pub base_in : (o : OpenedValue) (m : Incoming) → o.said ≡ []
    → base_parts (with_in o m) ≡ base_parts o ++ incoming_part m ∷ []
base_in o m e = ap (λ (x : OpenedValue). base_parts (with_in x m)) (silent o e)
    ∙ sym (ap (λ (x : OpenedValue). base_parts x ++ incoming_part m ∷ []) (silent o e))

-- Those that are said with the same first one are the same.
pub base_said : (o : OpenedValue) (said : List MsgOut) → is_void said ≡ is_void o.said
    → base_parts (record o { said = said }) ≡ base_parts o
base_said o said e = λ i. o.parts ++ ((if e i then [] else held_part o.held) ++ o.since)

-- What was held is void.
pub base_void : (o : OpenedValue) (said : List MsgOut) → is_void said ≡ true → o.since ≡ []
    → base_parts (record o { said = said }) ≡ o.parts
base_void o said e none = (λ i. o.parts ++ ((if e i then [] else held_part o.held) ++ none i)) ∙ append-nil o.parts

pub base_held : (o : OpenedValue) → o.said ≡ [] → base_parts o ≡ o.parts ++ (held_part o.held ++ o.since)
base_held o e = λ i. o.parts ++ ((if is_void (e i) then [] else held_part o.held) ++ o.since)

-- ---- a phase is left

entered : (o : OpenedValue) (q : Bool) → base_parts (if q then with_part o Part.StatusPhase else o)
    ≡ base_parts o ++ (if q then Part.StatusPhase ∷ [] else [])
entered o true = base_more o Part.StatusPhase
entered o false = sym (append-nil (base_parts o))

pub base_over : (o : OpenedValue) (l : LineSet) (half : List ℕ) (left : Bool)
    → base_parts (phase_over o l half left) ≡ (parts_now o ++ broken_parts l half) ++ phase_parts o l left
base_over o l half left =
    base_held (phase_over o l half left) (over_keeps o l half left).said ∙ over_parts o l half left

pub base_turned : (o : OpenedValue) (l after : LineSet) (half : List ℕ)
    → base_parts (phase_entered (phase_over o l half true) after)
    ≡ ((parts_now o ++ broken_parts l half) ++ phase_parts o l true)
    ++ (if is_status_phase after then Part.StatusPhase ∷ [] else [])
base_turned o l after half = entered (phase_over o l half true) (is_status_phase after)
    ∙ ap (λ (xs : List Part). xs ++ (if is_status_phase after then Part.StatusPhase ∷ [] else []))
    (base_over o l half true)
