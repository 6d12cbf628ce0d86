use Rattle.bus_transcript.proofs.RunResets.{resets_of_run}
use Rattle.bus_transcript.proofs.transcriber.transcribe_run.Goals as goal

pub returns-clause-resets : goal.returns-clause-resets
returns-clause-resets c = resets_of_run c.transcript.result c.args.s.now _ c.args.run.now.rows c.args.run.now.history
    (λ i. (c.run.view_is i).rows) c.transcript.ensures
