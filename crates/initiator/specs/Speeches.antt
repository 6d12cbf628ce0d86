-- What the initiator of a connection says in it, over the rows of a trace.
use Rattle.std.specs.Prelude.{ℕ, ◌≡◌, ◌==◌, true, false, List, [], ◌∷◌, Option, Some, None, if◌then◌else◌}
use Rattle.bus_trace.specs.declared.Row.{Row}
use Rattle.bus_trace.specs.declared.connection.Connection.{Connection}
use Rattle.scenario.specs.Value.{ScenarioValue}
use Rattle.story_model.specs.TraceHistory.{aim_of}
use Rattle.bus_trace.specs.Terms.{connection}
use Rattle.scenario.specs.declared.value.HostDef.{HostDef}
use Rattle.due_model.specs.dialogue_model.specs.declared.exchange.Hearing.{Hearing}
use Rattle.due_model.specs.dialogue_model.specs.Speaking.{speech_after}
use Rattle.due_model.specs.dialogue_model.specs.Exchange.{Speech, no_speech, speech_of}
use Rattle.initiator.specs.States.{IsOwnConnection}
use Rattle.due_model.specs.RunSteps.{run_state, opening_of}

-- What it says first in the connection that a row begins.
abbrev pub first_words : ScenarioValue → List Row → Connection → List ℕ
first_words s rows n = opening_of s (run_state s rows) n (aim_of (run_state s rows).story.aims n.initiator)

abbrev pub speech_at : ScenarioValue → List Row → Speech
speech_at s rows = (run_state s rows).exchange.speech

-- What it says after a row, by the connection before and after it: in one that it begins, this opening.
abbrev pub speech_in : HostDef → List ℕ → Hearing → Option Connection → Connection → Speech → Speech
speech_in h opening w None n p = speech_of no_speech (if n.reselected then [] else opening)
speech_in h opening w (Some m) n p = speech_after (Some h) w p

abbrev pub speech_by : HostDef → List ℕ → Hearing → Option Connection → Option Connection → Speech → Speech
speech_by h opening w before None p = p
speech_by h opening w before (Some n) p = if n.initiator == h.dev then speech_in h opening w before n p else p

-- In a connection of its own it is what the rows make of it.
abbrev pub IsSpeechOf : ScenarioValue → List Row → ℕ → Speech → Type 0
IsSpeechOf s rows dev p = (n : Connection) → IsOwnConnection rows dev n → p ≡ speech_at s rows

-- This opening is for the connection that the row begins, if it begins one of its own by a selection.
abbrev pub IsOpeningOf : ScenarioValue → List Row → Row → ℕ → List ℕ → Type 0
IsOpeningOf s rows row dev opening = (n : Connection) → connection rows ≡ None → connection (row ∷ rows) ≡ Some n
    → (n.initiator == dev) ≡ true → n.reselected ≡ false → opening ≡ first_words s rows n
