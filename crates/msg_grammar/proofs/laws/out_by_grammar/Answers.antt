use Rattle.std.proofs.Common.{refl, arith}
use Rattle.msg_grammar.specs.declared.message.MsgOut.TheVariants.{Abort}
use Rattle.msg_grammar.specs.Messages.{form_out}
use Rattle.msg_grammar.proofs.Exact.{whole, more, unknown}
use Rattle.msg_grammar.proofs.laws.out_by_grammar.Goals as goal

pub returns-clause-whole : goal.returns-clause-whole
unfolding form_out
returns-clause-whole c = whole form_out 0x06 Abort (omega arith) refl

pub returns-clause-more : goal.returns-clause-more
unfolding form_out
returns-clause-more c = more form_out 0x06 Abort (omega arith) refl

pub returns-clause-unknown : goal.returns-clause-unknown
unfolding form_out
returns-clause-unknown c = unknown form_out 0x06 Abort (omega arith) refl
