use Rattle.book_laws.proofs.Given.Messages.{in_is_whole, in_is_known}
use Rattle.book_laws.proofs.laws.messages_are_given_whole.Goals as goal

-- src/laws.rt
pub returns-clause-whole : goal.returns-clause-whole
returns-clause-whole c = λ k h begun into all. in_is_whole k h begun into all

-- src/laws.rt
pub returns-clause-known : goal.returns-clause-known
returns-clause-known c =
    λ k n change h begun before into out gives. in_is_known k n change h begun before into out gives
