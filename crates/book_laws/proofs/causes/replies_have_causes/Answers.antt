use Rattle.book_laws.proofs
use proofs.{Names.{ap, Option, is_some, Array}, Replies.{Facts.{reply_caused, full_caused}, Refusals.{full_in_trace}}}
use proofs.Replies.Senses.{sense_caused}
use Rattle.book_laws.proofs.causes.replies_have_causes.Goals as goal

pub returns-clause-replies : goal.returns-clause-replies
returns-clause-replies c = λ s h a id reply z e. reply_caused s h a id reply z e

pub returns-clause-full : goal.returns-clause-full
returns-clause-full c = λ s h a id z e. full_caused s h id (ap (λ (x : Option Array). is_some x) z) e

pub returns-clause-trace : goal.returns-clause-trace
returns-clause-trace c = λ s rows id h e. full_in_trace s rows id h e

pub returns-clause-senses : goal.returns-clause-senses
returns-clause-senses c = λ s h a q sense f z e k. sense_caused s h a q sense f z e k
