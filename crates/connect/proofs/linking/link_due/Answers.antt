use Rattle.connect.specs.Ready.{time_limit}
use Rattle.connect.proofs.linking.link_due.Goals as goal

pub link_due_by-requires-clause-stage : goal.link_due_by-requires-clause-stage
link_due_by-requires-clause-stage c = c.stage-stage.ensures.timely time_limit c.requires.timely
