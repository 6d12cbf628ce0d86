use Rattle.std.proofs.Common.{ap}
use Rattle.text_words.specs.Spelling.{hex_text}
use Rattle.text_pages.proofs.Putting.{goes_on}
use Rattle.text_pages.proofs.parts.put_hex.Goals as goal
use Rattle.bus_base.proofs.Tests.{dropped}

pub loop-byte-preserved : goal.loop-byte-preserved
loop-byte-preserved g c =
    goes_on _ c.loop-byte.invariant c.put_byte.ensures (ap hex_text (dropped _ _ _ c.loop-byte-test.true))
