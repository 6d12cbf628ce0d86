use Rattle.std.proofs.Common.{ap}
use Rattle.std.specs.List.{flat_map}
use Rattle.trace_text.specs.EventText.{event_text}
use Rattle.text_pages.proofs.Putting.{goes_on}
use Rattle.trace_text.proofs.history_part.put_history.Goals as goal
use Rattle.bus_base.proofs.Tests.{dropped}

pub loop-event-preserved : goal.loop-event-preserved
loop-event-preserved g c = goes_on _ c.loop-event.invariant c.put_event.ensures
    (ap (λ events. flat_map event_text events) (dropped _ _ _ c.loop-event-test.true))
