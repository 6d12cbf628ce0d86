-- An exchange of messages between an initiator and a target: what it tells by the rules, which of its messages count,
-- and what either end keeps of it.
use Rattle.std.specs.Prelude.{ℕ, zero, suc, Bool, true, false, List, [], ◌∷◌, Option, Some, None, if◌then◌else◌}
use Rattle.bus_trace.specs.declared.agreements.Agreement.{Agreement}
use Rattle.dialogue_model.specs.bus_phases.specs.declared.words.Word.{Word}
use Rattle.dialogue_model.specs.bus_phases.specs.declared.words.Word.TheVariants as words
use Rattle.dialogue_model.specs.bus_phases.specs.declared.words.End.{End}
use Rattle.dialogue_model.specs.bus_phases.specs.declared.words.End.TheVariants as ends
use Rattle.dialogue_model.specs.bus_phases.specs.declared.dialogue.Dialogue.{Dialogue}
use Rattle.dialogue_model.specs.bus_phases.specs.Dialogue.{asynchronous, is_same_end, opened, heard_with_out}
use Rattle.dialogue_model.specs.bus_phases.specs.Dialogue.{heard_before_in, heard_with_in, heard_with_command}
use Rattle.dialogue_model.specs.bus_phases.specs.Dialogue.{phase_begins}
use Rattle.sync_nego.specs.Negotiation.{Negotiation, unsettled, answer_to, settled, cleared, renewed}

-- What happens between the two, as far as their agreement goes. Lists of these have the newest first.
pub data Turn : Type 0 where
  -- a connection of the two begins
  connects : Turn
  -- a phase of it begins
  begins_phase : Turn
  -- the bytes of MESSAGE OUT begin anew in this phase
  begins_anew : Turn
  -- a message to the target crosses, and says this
  to_target : Word → Turn
  -- a message to the initiator begins; once it is whole it says this
  begins_message : Turn
  to_initiator : Word → Turn
  -- a byte of COMMAND crosses
  in_command : ℕ → Turn
  -- RST, or BUS DEVICE RESET that another initiator sends to the target, ends what they have agreed on
  resets : Turn

-- ---- what it tells by the rules

abbrev pub told_after : Dialogue → Turn → Dialogue
told_after d connects = opened d.heard.now.agreement
told_after d begins_phase = phase_begins d
told_after d begins_anew = record d { heard = d.at_phase }
told_after d (to_target w) = record d { heard = heard_with_out d.heard w }
told_after d begins_message = record d { heard = heard_before_in d.heard }
told_after d (to_initiator w) = record d { heard = heard_with_in d.heard w }
told_after d (in_command b) = record d { heard = heard_with_command d.heard b }
told_after d resets = opened asynchronous

abbrev pub told : List Turn → Dialogue
told [] = opened asynchronous
told (t ∷ ts) = told_after (told ts) t

abbrev pub told_agreement : List Turn → Agreement
told_agreement ts = (told ts).heard.now.agreement

-- ---- what counts of it

pub data Count : Type 0 where
  connected : Count
  said : End → Word → Count
  carried : ℕ → Count
  reset : Count

-- What counts so far, and what does where the last message to the initiator is void; and the same as the phase began.
pub record Counted : Type 0 where
  pub now : List Count
  pub void : Option (List Count)
  pub at_phase : List Count
  pub void_at_phase : Option (List Count)

abbrev pub counted_from : List Count → Counted
counted_from cs = record { now = cs; void = None; at_phase = cs; void_at_phase = None }

abbrev pub or_now : Option (List Count) → List Count → List Count
or_now None now = now
or_now (Some cs) now = cs

abbrev pub with_byte : Option (List Count) → ℕ → Option (List Count)
with_byte None b = None
with_byte (Some cs) b = Some (carried b ∷ cs)

-- MESSAGE PARITY ERROR makes the last message to the initiator void (6.6.13).
abbrev pub counted_out : Counted → Word → Counted
counted_out c words.ParityError =
    record c { now = said ends.Initiator words.ParityError ∷ or_now c.void c.now; void = None }
counted_out c w = record c { now = said ends.Initiator w ∷ c.now; void = None }

abbrev pub counted_after : Counted → Turn → Counted
counted_after c connects = counted_from (connected ∷ c.now)
counted_after c begins_phase = record c { at_phase = c.now; void_at_phase = c.void }
counted_after c begins_anew = record c { now = c.at_phase; void = c.void_at_phase }
counted_after c (to_target w) = counted_out c w
counted_after c begins_message = record c { void = Some c.now }
counted_after c (to_initiator w) = record c { now = said ends.Target w ∷ c.now }
counted_after c (in_command b) = record c { now = carried b ∷ c.now; void = with_byte c.void b }
counted_after c resets = counted_from (reset ∷ c.now)

abbrev pub counted : List Turn → Counted
counted [] = counted_from []
counted (t ∷ ts) = counted_after (counted ts) t

-- ---- what an end keeps of what counts

-- One of the two ends: its negotiation; whether a request of its own is open, or one that it has heard; and whether the
-- last message was its own answer, or the other's.
pub record Side : Type 0 where
  pub nego : Negotiation
  pub asks : Bool
  pub is_asked : Bool
  pub answers : Bool
  pub is_answered : Bool

abbrev pub quiet : Negotiation → Side
quiet n = record { nego = n; asks = false; is_asked = false; answers = false; is_answered = false }

-- No answer was last.
abbrev pub unanswered : Side → Side
unanswered x = record x { answers = false; is_answered = false }

-- Its agreement is void: whether it offers again is its choice.
abbrev pub voided : Bool → Negotiation → Negotiation
voided renews n = if renews then renewed n else cleared n

-- It says a request, which answers the one that it has heard; or it hears one, which answers its own.
abbrev pub says_offer : Side → Agreement → Side
says_offer x a =
    if x.is_asked
    then record x { nego = settled x.nego (Some a); is_asked = false; answers = true; is_answered = false }
    else record (unanswered x) { asks = true }

abbrev pub hears_offer : Side → Agreement → Side
hears_offer x a =
    if x.asks then record x { nego = settled x.nego (Some a); asks = false; answers = false; is_answered = true }
    else record (unanswered x) { is_asked = true }

-- It rejects a request that it has heard, or the answer to its own; or its own request or answer is rejected.
abbrev pub says_reject : Side → Side
says_reject x =
    if x.is_asked then record (unanswered x) { nego = settled x.nego None; is_asked = false }
    else if x.is_answered then record (unanswered x) { nego = settled x.nego None }
    else unanswered x

abbrev pub hears_reject : Side → Side
hears_reject x =
    if x.asks then record (unanswered x) { nego = settled x.nego None; asks = false }
    else if x.answers then record (unanswered x) { nego = settled x.nego None }
    else unanswered x

abbrev pub side_says : Bool → Side → Word → Side
side_says renews x (words.Offer a) = says_offer x a
side_says renews x words.Reject = says_reject x
side_says renews x words.DeviceReset = record (unanswered x) { nego = voided renews x.nego }
side_says renews x _ = unanswered x

abbrev pub side_hears : Bool → Side → Word → Side
side_hears renews x (words.Offer a) = hears_offer x a
side_hears renews x words.Reject = hears_reject x
side_hears renews x words.DeviceReset = record (unanswered x) { nego = voided renews x.nego }
side_hears renews x _ = unanswered x

abbrev pub side_after : Bool → End → Side → Count → Side
side_after renews end x connected = quiet x.nego
side_after renews end x (said e w) = if is_same_end e end then side_says renews x w else side_hears renews x w
side_after renews end x (carried b) = x
side_after renews end x reset = quiet (voided renews x.nego)

abbrev pub side_by : Bool → End → Agreement → List Count → Side
side_by renews end own [] = quiet (unsettled own)
side_by renews end own (c ∷ cs) = side_after renews end (side_by renews end own cs) c

-- What this end, which offers `own`, keeps after an exchange, of which it heeds what counts.
abbrev pub side : Bool → End → Agreement → List Turn → Side
side renews end own ts = side_by renews end own (counted ts).now

-- ---- a negotiation

-- The target says this in MESSAGE IN; or it says it so many times, and each time it is void.
abbrev pub in_message : Word → List Turn → List Turn
in_message w ts = to_initiator w ∷ begins_message ∷ ts

abbrev pub in_void : ℕ → Word → List Turn → List Turn
in_void zero w ts = ts
in_void (suc n) w ts = to_target words.ParityError ∷ in_message w (in_void n w ts)

-- The answer, or MESSAGE REJECT.
abbrev pub word_of : Option Agreement → Word
word_of None = words.Reject
word_of (Some a) = words.Offer a

-- In a connection that begins after these turns the initiator, which offers `i`, makes its request.
abbrev pub asked : Agreement → List Turn → List Turn
asked i ts = to_target (words.Offer i) ∷ connects ∷ ts

-- And the target, which would offer `t`, answers, after so many answers that were void.
abbrev pub answered : ℕ → Agreement → Agreement → List Turn → List Turn
answered n i t ts = in_message (word_of (answer_to t i)) (in_void n (word_of (answer_to t i)) (asked i ts))

-- The target makes its request, after so many that were void, and the initiator answers.
abbrev pub asked_back : ℕ → Agreement → List Turn → List Turn
asked_back n t ts = in_message (words.Offer t) (in_void n (words.Offer t) (connects ∷ ts))

abbrev pub answered_back : ℕ → Agreement → Agreement → List Turn → List Turn
answered_back n i t ts = to_target (word_of (answer_to i t)) ∷ asked_back n t ts
