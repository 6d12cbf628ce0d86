use Rattle.disk_unit.proofs.TapeFacts.{contents_stay, sent_unseen, sent_apart, none_taken, all_taken}
use Rattle.tape_unit.proofs.laws.tapes_change_as_they_say.Goals as goal

pub returns-clause-stays : goal.returns-clause-stays
returns-clause-stays c = contents_stay

pub returns-clause-unseen : goal.returns-clause-unseen
returns-clause-unseen c = sent_unseen

pub returns-clause-apart : goal.returns-clause-apart
returns-clause-apart c = sent_apart

pub returns-clause-none : goal.returns-clause-none
returns-clause-none c = none_taken

pub returns-clause-taken : goal.returns-clause-taken
returns-clause-taken c = all_taken
