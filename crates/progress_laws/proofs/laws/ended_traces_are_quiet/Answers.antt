use Rattle.progress_laws.proofs.Quiet.Facts.{free_when_ended, joined, lawful_when_ended, unwanted_when_ended}
use Rattle.progress_laws.proofs.laws.ended_traces_are_quiet.Goals as goal

pub returns-clause-quiet : goal.returns-clause-quiet
returns-clause-quiet c = λ s rows o prompt end.
    (free_when_ended s rows (joined s rows c.wants_are_items.ensures.wants o prompt) end).stands.bus_is

pub returns-clause-lawful : goal.returns-clause-lawful
returns-clause-lawful c =
    λ s rows o prompt end. lawful_when_ended s rows (joined s rows c.wants_are_items.ensures.wants o prompt) end

pub returns-clause-unwanted : goal.returns-clause-unwanted
returns-clause-unwanted c = λ s rows o prompt end dev latency lt there.
    unwanted_when_ended s rows (joined s rows c.wants_are_items.ensures.wants o prompt) end dev latency lt there
