-- The resets of the transcript of a run are those of its history.
use Rattle.std.proofs.Common.{◌≡◌, ◌∙◌, List, reverse, sym, ap}
use Rattle.std.specs.Prelude.{Result, Ok, Err, IfOk}
use Rattle.std.proofs.lemmas.List.{reverse-reverse}
use Rattle.bus_base.specs.declared.failures.NoMemory.{NoMemory}
use Rattle.bus_base.specs.declared.Event.{Event}
use Rattle.bus_trace.specs.declared.rows.Row.{Row}
use Rattle.scenario.specs.Value.{ScenarioValue}
use Rattle.story_model.specs.TraceHistory.{trace_history}
use Rattle.bus_transcript.specs.declared.item.Transcript.{Transcript}
use Rattle.bus_transcript.specs.Events.{resets_shown, resets_told}
use Rattle.bus_transcript.specs.Rows.{transcript_of}
use Rattle.bus_transcript.proofs.Resets.{resets_alike}

pub resets_of_run :
    (made : Result Transcript NoMemory) (s : ScenarioValue) (given rows : List Row) (history : List Event)
    → given ≡ rows → IfOk made (λ t. t.items.items ≡ transcript_of (reverse given)) → IfOk made
    (λ t. reverse history ≡ trace_history s (reverse rows) → resets_shown t.items.items ≡ resets_told history)
resets_of_run (Ok t) s given rows history same is = λ told.
    ap resets_shown is
    ∙ ap (λ (xs : List Row). resets_shown (transcript_of (reverse xs))) same
    ∙ resets_alike s (reverse rows)
    ∙ ap (λ (xs : List Event). resets_told (reverse xs)) (sym told)
    ∙ ap resets_told (reverse-reverse history)
resets_of_run (Err bad) s given rows history same is = tt
