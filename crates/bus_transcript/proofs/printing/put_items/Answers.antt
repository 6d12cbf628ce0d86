use Rattle.std.proofs.Common.{ap}
use Rattle.std.specs.List.{flat_map}
use Rattle.bus_transcript.specs.Text.{item_text}
use Rattle.text_pages.proofs.Putting.{goes_on}
use Rattle.bus_transcript.proofs.printing.put_items.Goals as goal
use Rattle.bus_base.proofs.Tests.{item_next}

pub loop-item-preserved : goal.loop-item-preserved
loop-item-preserved g c = goes_on _ c.loop-item.invariant c.put_item.ensures
    (ap (λ items. flat_map item_text items) (item_next _ _ _ c.loop-item-test.true c.item-item.is))
