use Rattle.msg_grammar.proofs.Spells.{out_one, in_one, out_again, in_again}
use Rattle.msg_grammar.proofs.laws.one_spelling.Goals as goal

pub returns-clause-out : goal.returns-clause-out
returns-clause-out c = out_one

pub returns-clause-inward : goal.returns-clause-inward
returns-clause-inward c = in_one

pub returns-clause-out_again : goal.returns-clause-out_again
returns-clause-out_again c = out_again

pub returns-clause-in_again : goal.returns-clause-in_again
returns-clause-in_again c = in_again
