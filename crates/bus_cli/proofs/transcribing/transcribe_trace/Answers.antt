-- What is said of a text is said of the transcript of a lawful trace.
use Rattle.bus_cli.proofs.Transcribed.{said_lawful}
use Rattle.bus_cli.proofs.transcribing.transcribe_trace.Goals as goal

pub returns-in-Lawful-clause-said : goal.returns-in-Lawful-clause-said
returns-in-Lawful-clause-said g c = said_lawful c.write_transcript.result c.args.trace.now.rows c.args.trace.now.end
    (g.K.Sink.written c.args.out.now) (g.K.Sink.written c.write_transcript.new.out) (g.K.Sink.faults c.args.out.now)
    (g.K.Sink.faults c.write_transcript.new.out) c.write_transcript.ensures.said
