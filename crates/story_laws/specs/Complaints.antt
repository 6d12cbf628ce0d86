-- Why the initiator raises ATN in a phase to it, and what it says in the MESSAGE OUT that follows: a byte was struck,
-- or a request of the target is answered (6.6.10, 6.6.13, 6.6.21).
use Rattle.std.specs.Prelude.{◌≡◌, ◌⊎◌, Bool, true, false, ◌||◌, List, [], ◌∷◌, Some, Option}
use Rattle.due_model.specs.bus_trace.specs.declared.Row.{Row}
use Rattle.due_model.specs.bus_trace.specs.declared.agreements.Agreement.{Agreement}
use Rattle.due_model.specs.bus_trace.specs.declared.connection.Connection.{Connection}
use Rattle.due_model.specs.bus_trace.specs.Terms.{connection}
use Rattle.due_model.specs.bus_trace.specs.Trace.{bus}
use Rattle.due_model.specs.bus_lines.specs.declared.handshakes.Request.{Request}
use Rattle.due_model.specs.scenario.specs.declared.value.HostDef.{HostDef}
use Rattle.due_model.specs.scenario.specs.Value.{ScenarioValue}
use Rattle.due_model.specs.dialogue_model.specs.declared.exchange.Cause.{Cause}
use Rattle.due_model.specs.dialogue_model.specs.NextPhase.{phase_of}
use Rattle.due_model.specs.dialogue_model.specs.Words.{answer_bytes}
use Rattle.due_model.specs.RunState.{RunState, bus_of}
use Rattle.due_model.specs.RunSteps.{run_state}
use Rattle.row_laws.specs.book_laws.specs.WrongParity.{is_refusing, is_struck_phase}
use Rattle.due_model.specs.dialogue_model.specs.declared.exchange.Cause.TheVariants as causes
use Rattle.due_model.specs.dialogue_model.specs.declared.exchange.Phase.TheVariants as phases

abbrev pub any_struck : List Request → Bool
any_struck [] = false
any_struck (r ∷ waiting) = r.struck || any_struck waiting

-- The initiator refuses what was struck, or says that it answers a request.
abbrev pub Refuses : Bool → RunState → Cause → Type 0
Refuses refusing k causes.Selected = refusing ≡ refusing
Refuses refusing k causes.InMessage =
    (refusing ≡ true) ⊎ ((h : Option HostDef) × (a : Agreement) × (k.exchange.speech.words ≡ answer_bytes h a))
Refuses refusing k causes.InData = refusing ≡ true
Refuses refusing k causes.InStatus = refusing ≡ true

-- In a phase that has begun: a fault row stands in it where a byte was struck, and where ATN is true in DATA IN or
-- STATUS.
pub record ComplaintsBy (s : ScenarioValue) (rows : List Row) (k : RunState) : Type 0 where
  pub struck : k.handshakes.struck ≡ true → is_struck_phase s rows ≡ true
  pub waiting : any_struck k.handshakes.waiting ≡ true → is_struck_phase s rows ≡ true
  pub attends : (bus_of k).io ≡ true → (bus_of k).msg ≡ false → (bus_of k).atn ≡ true → is_struck_phase s rows ≡ true
  pub refuses : phase_of (bus_of k) ≡ phases.MessageOut → Refuses (is_refusing s rows) k k.exchange.plan.cause

abbrev pub ComplaintFacts : ScenarioValue → List Row → Type 0
ComplaintFacts s rows = (n : Connection) → connection rows ≡ Some n → (bus rows).rst ≡ false
    → (run_state s rows).exchange.begun ≡ true → ComplaintsBy s rows (run_state s rows)
