-- What an initiator says first in a connection that it began, and that requests for synchronous transfer are answered
-- (6.6.7, 6.6.17, 6.6.21).
use Rattle.std.specs.Prelude.{ℕ, ◌≡◌, ◌++◌, true, false, List, [], ◌∷◌, Option, Some, None}
use Rattle.due_model.specs.bus_trace.specs.declared.Row.{Row}
use Rattle.due_model.specs.bus_trace.specs.declared.connection.Connection.{Connection}
use Rattle.due_model.specs.bus_trace.specs.Changes.{change_of}
use Rattle.due_model.specs.bus_trace.specs.Phases.{changes_phase, is_message_out}
use Rattle.due_model.specs.bus_trace.specs.Terms.{connection}
use Rattle.due_model.specs.bus_trace.specs.Trace.{bus}
use Rattle.due_model.specs.scenario.specs.Value.{ScenarioValue}
use Rattle.due_model.specs.bus_trace.specs.declared.agreements.Agreement.{Agreement}
use Rattle.due_model.specs.dialogue_model.specs.declared.exchange.Cause.TheVariants as causes
use Rattle.due_model.specs.dialogue_model.specs.declared.exchange.Phase.TheVariants as phases
use Rattle.due_model.specs.dialogue_model.specs.declared.exchange.Plan.{Plan}
use Rattle.due_model.specs.dialogue_model.specs.Exchange.{one_message}
use Rattle.due_model.specs.dialogue_model.specs.NextPhase.{phase_of}
use Rattle.due_model.specs.dialogue_model.specs.Words.{reply_to}
use Rattle.due_model.specs.Defs.{target_def_of}
use Rattle.due_model.specs.dialogue_model.specs.Hearing.{begun}
use Rattle.due_model.specs.bus_phases.specs.Dialogue.{dialogue}
use Rattle.due_model.specs.story_model.specs.TraceHistory.{aim_of, story}
use Rattle.due_model.specs.RunSteps.{opening_of, run_state}
use Rattle.progress_laws.specs.book_laws.specs.Listening.{nothing_understood, understanding, understood}
use Rattle.delivery_laws.specs.Recoveries.{IsLeaving, phase_after}

-- Of the connection that stands after these rows, by what stood as it began: IDENTIFY, the tag of the command, and an
-- offer where this is the first connection in which its ends may negotiate; or IDENTIFY and the message of an abort
-- (`opening_of`).
abbrev pub opening_with : ScenarioValue → List Row → Option Connection → Option Connection → List ℕ → List ℕ
opening_with s rows None (Some n) was = opening_of s (run_state s rows) n (aim_of (story s rows).aims n.initiator)
opening_with s rows (Some m) (Some n) was = was
opening_with s rows before None was = []

abbrev pub opening_since : ScenarioValue → List Row → List ℕ
opening_since s [] = []
opening_since s (row ∷ rows) = opening_with s rows (connection rows) (connection (row ∷ rows)) (opening_since s rows)

-- Of a trace: as the first phase after a selection, MESSAGE OUT, is left, its target has understood just that.
abbrev pub AreOpenings : ScenarioValue → List Row → Type 0
AreOpenings s rows = (later before : List Row) (row : Row) (n : Connection) → rows ≡ later ++ row ∷ before
    → IsLeaving before row n → changes_phase (change_of before row) ≡ true → n.reselected ≡ false
    → is_message_out (bus before) ≡ true → (run_state s before).exchange.plan.cause ≡ causes.Selected
    → understanding (run_state s before).exchange.plan (run_state s before).story.bus_state.dialogue
    ≡ understood nothing_understood (opening_since s before)

-- Of a trace: while COMMAND, data or STATUS stands no synchronous data transfer request is open, of either end: it was
-- answered, or rejected, before.
abbrev pub AreAnsweredOffers : List Row → Type 0
AreAnsweredOffers rows = (later before : List Row) (n : Connection) → rows ≡ later ++ before
    → connection before ≡ Some n → (bus before).rst ≡ false → begun before ≡ true → (bus before).msg ≡ false
    → (dialogue before).heard.now.offer ≡ None

-- What the target of the connection has heard in it, and plans to say, after these rows.
abbrev pub plan_at : ScenarioValue → List Row → Plan
plan_at s rows = (run_state s rows).exchange.plan

-- Of a trace: as an opening with an offer is left MESSAGE IN follows, for which the target plans just its answer, or
-- MESSAGE REJECT where the offset has no limit.
abbrev pub AreOfferReplies : ScenarioValue → List Row → Type 0
AreOfferReplies s rows =
    (later before : List Row) (row : Row) (n : Connection) (offer : Agreement) → rows ≡ later ++ row ∷ before
    → IsLeaving before row n → phase_of (bus before) ≡ phases.MessageOut → (plan_at s before).cause ≡ causes.Selected
    → (plan_at s before).said.aborts ≡ None → (plan_at s before).said.offer ≡ Some offer
    → (phase_after before row ≡ Some phases.MessageIn)
    × ((plan_at s (row ∷ before)).messages ≡ one_message (reply_to (target_def_of s n.target) offer))
