use Rattle.std.proofs.Common.{arith}
use Rattle.trace_text.specs.Bytes.{rows_of}
use Rattle.bus_cli.proofs.Heard.{rows_short, ends_well}
use Rattle.bus_cli.proofs.hearing.Hearing.finish.Goals as goal

pub returns-in-Ok : goal.returns-in-Ok
returns-in-Ok c = λ bytes h few.
    let short = rows_short bytes in
    ends_well bytes _ c.in-Ok.end _ (c.finish.ensures bytes h.reader few) c.in-Ok.is
    (c.finish-in-Ok.ensures (rows_of bytes) h.judge (omega arith))
