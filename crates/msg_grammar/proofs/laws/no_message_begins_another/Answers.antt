use Rattle.msg_grammar.specs.Messages.{form_in, form_out}
use Rattle.msg_grammar.proofs.Again.{apart}
use Rattle.msg_grammar.proofs.laws.no_message_begins_another.Goals as goal

pub returns-clause-out : goal.returns-clause-out
returns-clause-out c = apart form_out

pub returns-clause-inward : goal.returns-clause-inward
returns-clause-inward c = apart form_in
