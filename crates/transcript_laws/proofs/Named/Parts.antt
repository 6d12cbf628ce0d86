-- The messages of a target among the parts of a connection, row by row: those that are settled, and the one that is
-- held.
use Rattle.transcript_laws.proofs
use proofs.Names.{ℕ, ◌≡◌, ◌∙◌, Bool, true, false, not, ◌&&◌, ◌%◌, List, [], ◌∷◌, ◌++◌, Option, Some, None, refl, sym}
use proofs.Names.{ap, append-nil, is_some, if◌then◌else◌, LineSet, is_command, is_data, is_message_in, is_fault, Change}
use proofs.Names.{Connection, Row, MsgIn, MsgOut, is_nil, message_in, message_out, is_status_phase, RunState}
use proofs.Names.{OpenedValue, held_part, is_completion, with_all_out, with_out, with_in, with_in_if, with_part}
use proofs.Names.{with_fault, spoken, broken_off, data_parts, phase_parts, phase_entered, phase_over, Incoming, Broken}
use proofs.{Names.{Part, is_void, base_parts, out_parts, parts_now}, Named.Heard.{ins_of, ins_append, ins_said}}
use proofs.{Named.Heard.{settled_with, held_with, settled_half}, Opened.Bytes.{CrossingMade, crossed_out, crossed_in}}
use proofs.Opened.{Bytes.{crossed_status, crossed_else, crossing_made, turned}, Rows.{RowMade, made_still}}
use proofs.{Opened.Rows.{made_crossing, made_turn}, Parts.{Base.{base_turned}, Lists.{broken_parts, over_keeps}}}

-- Of the message that is held.
abbrev pub ins_held : OpenedValue → List MsgIn
ins_held o = ins_of (held_part o.held)

-- ---- since the message that is held there is none

none_more : (xs ys : List Part) → ins_of xs ≡ [] → ins_of ys ≡ [] → ins_of (xs ++ ys) ≡ []
none_more xs ys e f = ins_append xs ys ∙ (λ i. e i ++ f i)

none_data : (out : Bool) (bytes : List ℕ) → ins_of (data_parts out bytes) ≡ []
none_data out [] = refl
none_data out (b ∷ bytes) = refl

none_phase : (o : OpenedValue) (b : LineSet) → ins_of (phase_parts o b true) ≡ []
none_phase o b = go (is_command b) (is_data b)
  where
    go : (x y : Bool) → ins_of
        (if x then Part.Command o.bytes o.struck true ∷ [] else if y then data_parts (not b.io) o.bytes else []) ≡ []
    go true y = refl
    go false true = none_data (not b.io) o.bytes
    go false false = refl

outs_since : (o : OpenedValue) (said : List MsgOut) → ins_of o.since ≡ [] → ins_of (with_all_out o said).since ≡ []
outs_since o [] e = e
outs_since o (m ∷ said) e = outs_since (with_out o m) said refl

entered_since : (o : OpenedValue) (q : Bool) → ins_of o.since ≡ []
    → ins_of (if q then with_part o Part.StatusPhase else o).since ≡ []
entered_since o true e = none_more o.since (Part.StatusPhase ∷ []) e refl
entered_since o false e = e

over_since : (o : OpenedValue) (b : LineSet) (half : List ℕ) → ins_of o.since ≡ []
    → ins_of (phase_over o b half true).since ≡ []
over_since o b half e = none_more (broken_off (spoken o) b half).since
    (phase_parts (broken_off (spoken o) b half) b true) (broken (is_message_in b && not (is_nil half)))
    (none_phase (broken_off (spoken o) b half) b)
  where
    broken : (q : Bool) → ins_of (if q then with_in (spoken o) Broken else spoken o).since ≡ []
    broken true = refl
    broken false = outs_since (record o { said = [] }) o.said e

pub since_made : (k : RunState) (row : Row) (n : Connection) (c : Change) (o after : OpenedValue)
    → RowMade k row n c o after → ins_of o.since ≡ [] → ins_of after.since ≡ []
since_made k row n c o after (made_still ep none e) h =
    ap (λ (x : OpenedValue). ins_of x.since) e ∙ go (is_completion o k.story.bus_state.dialogue.half c)
  where
    go : (q : Bool) → ins_of (if q then with_part o Part.Completion
        else with_fault o (is_fault row.kind && is_some k.story.bus_state.crossed)).since ≡ []
    go true = none_more o.since (Part.Completion ∷ []) h refl
    go false = h
since_made k row n c o after (made_crossing dev ep er e) h = go (crossing_made o after k.story.bus_state n c e)
  where
    heard : (into : Option MsgIn) → ins_of (with_in_if o into).since ≡ []
    heard None = h
    heard (Some m) = refl

    go : CrossingMade o after k.story.bus_state.dialogue.is_last c.before (c.after.data_bits % 256)
        (message_out k.story.bus_state.dialogue c true) (message_in k.story.bus_state.dialogue c true)
        → ins_of after.since ≡ []
    go (crossed_out x f) = ap (λ (y : OpenedValue). ins_of y.since) f ∙ h
    go (crossed_in x y f) =
        ap (λ (v : OpenedValue). ins_of v.since) f ∙ heard (message_in k.story.bus_state.dialogue c true)
    go (crossed_status x y w f) = ap (λ (v : OpenedValue). ins_of v.since) f
        ∙ none_more o.since (Part.Status (c.after.data_bits % 256) ∷ []) h refl
    go (crossed_else x y w f) = ap (λ (v : OpenedValue). ins_of v.since) f ∙ h
since_made k row n c o after (made_turn ep none ef e) h = ap (λ (x : OpenedValue). ins_of x.since) e
    ∙ entered_since (phase_over o c.before k.story.bus_state.dialogue.half true) (is_status_phase c.after)
    (over_since o c.before k.story.bus_state.dialogue.half h)

-- ---- a message is heard

settles : (o : OpenedValue) → ins_of o.since ≡ []
    → ins_of (o.parts ++ (held_part o.held ++ o.since)) ≡ ins_of o.parts ++ ins_held o
settles o e = ins_append o.parts (held_part o.held ++ o.since) ∙ ap (λ (x : List MsgIn). ins_of o.parts ++ x)
    (ins_append (held_part o.held) o.since ∙ ap (λ (x : List MsgIn). ins_held o ++ x) e ∙ append-nil (ins_held o))

pub heard_parts : (o : OpenedValue) (into : Option MsgIn) → ins_of o.since ≡ []
    → ins_of (with_in_if o into).parts ≡ settled_with (ins_of o.parts) (ins_held o) into
heard_parts o None e = refl
heard_parts o (Some m) e = settles o e

pub heard_held : (o : OpenedValue) (into : Option MsgIn) → ins_held (with_in_if o into) ≡ held_with (ins_held o) into
heard_held o None = refl
heard_held o (Some m) = refl

-- ---- the parts so far

pub base_names : (o : OpenedValue) → ins_of o.since ≡ [] → is_void o.said ≡ false
    → ins_of (base_parts o) ≡ ins_of o.parts ++ ins_held o
base_names o e f = (λ i. ins_of (o.parts ++ ((if f i then [] else held_part o.held) ++ o.since))) ∙ settles o e

pub void_names : (o : OpenedValue) → ins_of o.since ≡ [] → is_void o.said ≡ true
    → ins_of (base_parts o) ≡ ins_of o.parts
void_names o e f = (λ i. ins_of (o.parts ++ ((if f i then [] else held_part o.held) ++ o.since)))
    ∙ ins_append o.parts o.since ∙ ap (λ (x : List MsgIn). ins_of o.parts ++ x) e ∙ append-nil (ins_of o.parts)

pub names_now : (o : OpenedValue) → ins_of (parts_now o) ≡ ins_of (base_parts o)
names_now o = ins_append (base_parts o) (out_parts o.said)
    ∙ ap (λ (x : List MsgIn). ins_of (base_parts o) ++ x) (ins_said o.said) ∙ append-nil (ins_of (base_parts o))

-- ---- a phase is left

without : (xs ys : List Part) → ins_of ys ≡ [] → ins_of (xs ++ ys) ≡ ins_of xs
without xs ys e = ins_append xs ys ∙ ap (λ (x : List MsgIn). ins_of xs ++ x) e ∙ append-nil (ins_of xs)

none_broken : (q : Bool) → ins_of (if q then Part.BrokenOff ∷ [] else []) ≡ []
none_broken true = refl
none_broken false = refl

none_status : (q : Bool) → ins_of (if q then Part.StatusPhase ∷ [] else []) ≡ []
none_status true = refl
none_status false = refl

pub turned_said : (o after : OpenedValue) (b a : LineSet) (half : List ℕ)
    → after ≡ phase_entered (phase_over o b half true) a → after.said ≡ []
turned_said o after b a half e =
    ap (λ (x : OpenedValue). x.said) e ∙ (turned (phase_over o b half true) a).said ∙ (over_keeps o b half true).said

-- All of them stay.
pub turned_names : (o after : OpenedValue) (b a : LineSet) (half : List ℕ)
    → after ≡ phase_entered (phase_over o b half true) a → ins_of after.since ≡ []
    → ins_of after.parts ++ ins_held after ≡ ins_of (base_parts o)
turned_names o after b a half e since = sym (base_names after since (ap is_void (turned_said o after b a half e)))
    ∙ ap (λ (x : OpenedValue). ins_of (base_parts x)) e ∙ ap ins_of (base_turned o b a half)
    ∙ without ((parts_now o ++ broken_parts b half) ++ phase_parts o b true)
    (if is_status_phase a then Part.StatusPhase ∷ [] else []) (none_status (is_status_phase a))
    ∙ without (parts_now o ++ broken_parts b half) (phase_parts o b true) (none_phase o b)
    ∙ without (parts_now o) (broken_parts b half) (none_broken (is_message_in b && not (is_nil half))) ∙ names_now o

turned_parts : (o after : OpenedValue) (b a : LineSet) (half : List ℕ)
    → after ≡ phase_entered (phase_over o b half true) a → after.parts ≡ (broken_off (spoken o) b half).parts
turned_parts o after b a half e = ap (λ (x : OpenedValue). x.parts) e ∙ (turned (phase_over o b half true) a).parts

turned_held : (o after : OpenedValue) (b a : LineSet) (half : List ℕ)
    → after ≡ phase_entered (phase_over o b half true) a → after.held ≡ (broken_off (spoken o) b half).held
turned_held o after b a half e = ap (λ (x : OpenedValue). x.held) e ∙ (turned (phase_over o b half true) a).held

-- MESSAGE IN is left: one that is heard half is broken off.
pub in_turned : (o after : OpenedValue) (b a : LineSet) (half : List ℕ)
    → after ≡ phase_entered (phase_over o b half true) a → is_message_in b ≡ true → o.said ≡ [] → ins_of o.since ≡ []
    → ins_of after.parts ≡ settled_half (ins_of o.parts) (ins_held o) half
in_turned o after b a half e here silent since = ap ins_of (turned_parts o after b a half e) ∙ (λ i. ins_of
    (if here i && not (is_nil half) then with_in (with_all_out (record o { said = [] }) (silent i)) Broken
    else with_all_out (record o { said = [] }) (silent i)).parts)
    ∙ go (is_nil half)
  where
    go : (q : Bool) → ins_of (if not q then with_in (record o { said = [] }) Broken else record o { said = [] }).parts
        ≡ (if q then ins_of o.parts else ins_of o.parts ++ ins_held o)
    go true = refl
    go false = settles o since

-- MESSAGE OUT is left, in which MESSAGE PARITY ERROR was said: the message that was held is void.
pub void_turned : (o after : OpenedValue) (b a : LineSet) (half : List ℕ)
    → after ≡ phase_entered (phase_over o b half true) a → is_message_in b ≡ false → o.said ≡ MsgOut.ParityError ∷ []
    → ins_of o.since ≡ [] → (ins_of after.parts ≡ ins_of o.parts) × (ins_held after ≡ [])
void_turned o after b a half e out said since = (
  ap ins_of (turned_parts o after b a half e)
      ∙ (λ i. ins_of (if out i && not (is_nil half) then with_in (with_all_out (record o { said = [] }) (said i)) Broken
      else with_all_out (record o { said = [] }) (said i)).parts)
      ∙ without o.parts o.since since,
  ap (λ (x : Option Incoming). ins_of (held_part x)) (turned_held o after b a half e) ∙ (λ i. ins_of
      (held_part (if out i && not (is_nil half) then with_in (with_all_out (record o { said = [] }) (said i)) Broken
      else with_all_out (record o { said = [] }) (said i)).held)),
)
