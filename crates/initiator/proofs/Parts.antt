-- What an initiator knows is what its parts keep.
use Rattle.std.proofs.Common.{ℕ, ◌≡◌, ◌<◌, List, ◌∙◌, sym, subst}
use Rattle.bus_trace.specs.declared.Row.{Row}
use Rattle.bus_trace.specs.declared.connection.Connection.{Connection}
use Rattle.scenario.specs.declared.value.HostDef.{HostDef}
use Rattle.scenario.specs.Value.{ScenarioValue}
use Rattle.story_model.specs.TraceHistory.{aim_of}
use Rattle.due_model.specs.dialogue_model.specs.Exchange.{Speech}
use Rattle.due_model.specs.dialogue_model.specs.Sending.{Sending}
use Rattle.due_model.specs.Own.{own_of}
use Rattle.due_model.specs.Due.{reset_from}
use Rattle.due_model.specs.Wants.{item_want_time, target_of}
use Rattle.due_model.specs.Sights.{sending_of}
use Rattle.due_model.specs.RunSteps.{run_state}
use Rattle.due_model.specs.Plain.{AreOfDevices}
use Rattle.initiator.specs.States.{AreSameBytes, IsOwnConnection, IsInitiatorOf, state_by}
use Rattle.initiator_books.specs.scsi_device.specs.Itself.{ItselfValue, IsItselfOf}
use Rattle.initiator_books.specs.Intents.{IntentValue, IsIntentOf}
use Rattle.initiator_books.proofs.Intents.{wants_since, callee_told}

pub parts_are : (s : ScenarioValue) (rows : List Row) (h : HostDef)
    (v : ItselfValue) (w : IntentValue) (speech : Speech) (sending : Sending)
    → AreOfDevices rows → h.dev < 8 → v.dev ≡ h.dev → w.dev ≡ h.dev → IsItselfOf s rows v → IsIntentOf s rows w
    → ((n : Connection) → IsOwnConnection rows h.dev n → speech ≡ (run_state s rows).exchange.speech)
    → ((n : Connection) → IsOwnConnection rows h.dev n → AreSameBytes sending (sending_of s (run_state s rows)))
    → IsInitiatorOf s rows h (state_by v w speech sending)
parts_are s rows h v w speech sending d lt x y i j p q =
    let own : v.own ≡ own_of rows h.dev = i.own_is ∙ (λ k. own_of rows (x k)) in
    record {
      own_is = own;
      reset_is = i.reset_is ∙ (λ k. reset_from (x k) (own k).released (i.resets_are k));
      since_is = wants_since s rows w j ∙ (λ k. item_want_time s (run_state s rows).story.sent (y k));
      callee_is = callee_told s rows w d (subst (λ (n : ℕ). n < 8) (sym y) lt) j
          ∙ (λ k. target_of s (aim_of (run_state s rows).story.aims (y k)));
      speech_is = p;
      sending_is = q;
    }
