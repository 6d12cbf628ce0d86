use Rattle.book_laws.proofs.Replies.Refusals.{refused_exactly, refused_by_plan}
use Rattle.book_laws.proofs.causes.refusals_have_causes.Goals as goal

pub returns-clause-array : goal.returns-clause-array
returns-clause-array c = λ s a id. refused_exactly s a id

pub returns-clause-planned : goal.returns-clause-planned
returns-clause-planned c = λ s k policy p e. refused_by_plan s k policy p e
