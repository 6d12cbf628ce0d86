-- The transcript that was printed is that of the rows.
use Rattle.bus_cli.proofs.Written.{says_transcript}
use Rattle.bus_cli.proofs.transcribing.write_transcript.Goals as goal
use Rattle.trace_text.proofs.Devices.{of_devices}

pub transcribe-requires : goal.transcribe-requires
transcribe-requires g c = of_devices c.args.rows.now c.requires

pub returns-clause-said : goal.returns-clause-said
returns-clause-said g c = says_transcript c.status_written.result c.print_transcript.result
    (g.K.Sink.written c.args.out.now) (g.K.Sink.written c.print_transcript.new.out) c.in-Ok.transcript.items.items
    c.args.rows.now (g.K.Sink.faults c.args.out.now) (g.K.Sink.faults c.print_transcript.new.out)
    c.status_written.ensures c.in-Ok.ensures c.print_transcript.ensures.whole
