use Rattle.std.proofs.Common.{refl, arith}
use Rattle.msg_grammar.specs.declared.message.MsgIn.TheVariants.{CommandComplete}
use Rattle.msg_grammar.specs.Messages.{form_in}
use Rattle.msg_grammar.proofs.Exact.{whole, more, unknown}
use Rattle.msg_grammar.proofs.laws.in_by_grammar.Goals as goal

pub returns-clause-whole : goal.returns-clause-whole
unfolding form_in
returns-clause-whole c = whole form_in 0x00 CommandComplete (omega arith) refl

pub returns-clause-more : goal.returns-clause-more
unfolding form_in
returns-clause-more c = more form_in 0x00 CommandComplete (omega arith) refl

pub returns-clause-unknown : goal.returns-clause-unknown
unfolding form_in
returns-clause-unknown c = unknown form_in 0x00 CommandComplete (omega arith) refl
