use Rattle.dialogue_laws.proofs
use proofs.{Names.{free_when_ended, joined}, AbortLines.{Facts.{aborts_ended, abort_states}, Told.{aborts_told}}}
use Rattle.dialogue_laws.proofs.aborts.abort_lines_are_over.Goals as goal

pub returns-clause-so_far : goal.returns-clause-so_far
returns-clause-so_far c = λ s rows n a o prompt at. abort_states s rows n a o prompt at

pub returns-clause-ended : goal.returns-clause-ended
returns-clause-ended c = λ s rows n a o prompt end at.
    aborts_ended s rows n a o prompt (c.ended_traces_are_quiet.ensures.unwanted s rows o prompt end) at

pub returns-clause-told : goal.returns-clause-told
returns-clause-told c = λ s rows n a o prompt end at sent. aborts_told s rows n a o prompt
    (free_when_ended s rows (joined s rows c.wants_are_items.ensures.wants o prompt) end).stands.connection_is at sent
